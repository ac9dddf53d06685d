-- What a joined port tells, gone back over: the last step, and the writes behind it.
use Rattle.std.proofs.Common.{◌≡◌, ◌≤◌, ◌<◌, ◌⊎◌, inl, inr, ◌∙◌, ap, sym, refl, subst, ℕ, ◌+◌, ◌-◌, ◌==◌, not, min, if◌then◌else◌, Bool, true, false, List, [], ◌∷◌, ◌++◌, length, length-append, take, Some, arith}
use Rattle.std.specs.Prelude.{nat_lt}
use Rattle.std.specs.List.{AllByRecursion}
use Rattle.std.proofs.lemmas.List.{length-take}
use Rattle.amqp_types.proofs.Small.{if_case, if-true, if-false}
use Rattle.amqp_commands.specs.declared.command.Cmd.{Cmd}
use Rattle.amqp_commands.specs.declared.command.Cmd.TheVariants.{CloseConnection}
use Rattle.amqp_settings.specs.declared.configuration.Configuration.{Configuration}
use Rattle.amqp_engine.specs.declared.port.Step.{Step}
use Rattle.amqp_engine.specs.declared.port.Step.TheVariants.{Linked, LinkFailed, Piece, End, Fault, Room, Tick, Command}
use Rattle.amqp_engine.specs.declared.port.Wrote.{Wrote}
use Rattle.amqp_engine.specs.declared.port.Wrote.TheVariants.{Took, Failed, NoMemory}
use Rattle.amqp_engine.specs.declared.port.Happening.{Happening}
use Rattle.amqp_engine.specs.declared.port.Write.{Write}
use Rattle.amqp_engine.specs.Plan.{Coming}
use Rattle.amqp_engine.specs.Log.{Log, log_ask, log_step, log_write, on_last, is_repeated, asked_after, links_after}
use Rattle.amqp_engine.specs.Tell.{Offer, log_offers}
use Rattle.amqp_engine.proofs.Sent.{on_last-append}
use Rattle.amqp_double.specs.Doubles.{fresh}
use Rattle.amqp_joining.specs.Plans.{JoinPlan}
use Rattle.amqp_joining.specs.Joining.{Join, join, output, comes, next_cut, next_command, HasFed, JoinWrites, JoinsOffers}
use Rattle.amqp_both_ends.proofs.Later.{later_step}
use Rattle.amqp_joined.specs.Ports.{TellsStep}
use Rattle.amqp_joined.specs.Reached.{Reached, new, asked, told, wrote}
use Rattle.amqp_joined.proofs.Reaching.{TellsLink, TellsLater, wants, tells-so, plain, IsCounted, Ordered, ordered, linked_in, LinksAre, is-linked, last-same, all-last, pushed-some}

-- two logs tell the same steps and writes
pub record SameTold (a b : Log) : Type 0 where
  pub steps : a.steps ≡ b.steps
  pub told : a.told ≡ b.told
  pub writes : a.writes ≡ b.writes

-- from one log to another no step is told, and a link is asked for in both alike, or was asked for since
pub record SameAsked (a b : Log) : Type 0 where
  pub told : a.told ≡ b.told
  pub alike : ((a.asked ≡ b.asked) × (a.asked_at ≡ b.asked_at)) ⊎ ((b.asked ≡ true) × (b.asked_at ≡ Some a.told))

pub same-self : (a : Log) → SameAsked a a
same-self a = record { told = refl; alike = inl (refl, refl) }

-- a link is asked for
same-ask : (a b : Log) → SameAsked a b → SameAsked a (log_ask b)
same-ask a b h = record { told = h.told; alike = by b.asked refl h.alike } where
  by : (x : Bool) → b.asked ≡ x → ((a.asked ≡ b.asked) × (a.asked_at ≡ b.asked_at)) ⊎ ((b.asked ≡ true) × (b.asked_at ≡ Some a.told))
      → ((a.asked ≡ true) × (a.asked_at ≡ (if b.asked then b.asked_at else Some b.told))) ⊎ ((true ≡ true) × ((if b.asked then b.asked_at else Some b.told) ≡ Some a.told))
  by true is (inl k) = inl (k.0 ∙ is, k.1 ∙ sym (if-true b.asked b.asked_at (Some b.told) is))
  by true is (inr k) = inr (refl, if-true b.asked b.asked_at (Some b.told) is ∙ k.1)
  by false is k = inr (refl, if-false b.asked b.asked_at (Some b.told) is ∙ ap Some (sym h.told))

-- ---- links

-- of a list whose last was changed, and which has one
one-changed : (f : List ℕ → List ℕ) (links : List (List ℕ)) (octets : List ℕ) → on_last f links ≡ octets ∷ [] → (link : List ℕ) × (links ≡ link ∷ []) × (f link ≡ octets)
one-changed f links octets is = by links is (last-of links) where
  last-of : (xs : List (List ℕ)) → (xs ≡ []) ⊎ ((front : List (List ℕ)) × (last : List ℕ) × (xs ≡ front ++ last ∷ []))
  last-of [] = inl refl
  last-of (x ∷ xs) = more (last-of xs) where
    more : (xs ≡ []) ⊎ ((front : List (List ℕ)) × (last : List ℕ) × (xs ≡ front ++ last ∷ [])) → (x ∷ xs ≡ []) ⊎ ((front : List (List ℕ)) × (last : List ℕ) × (x ∷ xs ≡ front ++ last ∷ []))
    more (inl none) = inr ([], x, ap (λ ys. x ∷ ys) none)
    more (inr (front, last, split)) = inr (x ∷ front, last, ap (λ ys. x ∷ ys) split)

  by : (xs : List (List ℕ)) → on_last f xs ≡ octets ∷ [] → (xs ≡ []) ⊎ ((front : List (List ℕ)) × (last : List ℕ) × (xs ≡ front ++ last ∷ []))
      → (link : List ℕ) × (xs ≡ link ∷ []) × (f link ≡ octets)
  by xs h (inl none) = absurd (let bad : [] ≡ octets ∷ [] = sym (ap (on_last f) none) ∙ h in cc)
  by xs h (inr (front, last, split)) =
      let all : front ++ f last ∷ [] ≡ [] ++ octets ∷ [] = sym (on_last-append f front last) ∙ sym (ap (on_last f) split) ∙ h in
      let k = last-same front [] (f last) octets all in
      (last, split ∙ ap (λ fs. fs ++ last ∷ []) k.0, k.1)

-- of two lists with as long an end, the ends are the same where the lists are
ends-same : (xs ys a b : List ℕ) → length a ≡ length b → xs ++ a ≡ ys ++ b → (xs ≡ ys) × (a ≡ b)
ends-same [] [] a b long h = (refl, h)
ends-same [] (y ∷ ys) a b long h = absurd (omega (arith, long, ap length h, length-append ys b))
ends-same (x ∷ xs) [] a b long h = absurd (omega (arith, long, ap length h, length-append xs a))
ends-same (x ∷ xs) (y ∷ ys) a b long h =
    let heads : x ≡ y = cc in
    let tails : xs ++ a ≡ ys ++ b = cc in
    let k = ends-same xs ys a b long tails in
    (ap (λ z. z ∷ xs) heads ∙ ap (λ zs. y ∷ zs) k.0, k.1)

-- ---- a write

-- what a write takes is decided by how much was offered, and by what was taken of it
took-so : (octets octets' : List ℕ) (k : ℕ) (old after : Join) → length octets' ≡ length octets → take k octets' ≡ take k octets → JoinWrites octets' (Took k) old after → JoinWrites octets (Took k) old after
took-so octets octets' k old after long same rule = (
  rule.0 ∙ ap (λ (n : ℕ). min old.room n) long,
  subst (λ (xs : List ℕ). HasFed xs old.double after.double) same rule.1,
  rule.2
      ∙ ap (λ (xs : List ℕ). record old { double = after.double; room = old.room - k; taken = old.taken ++ xs; short = nat_lt k (length octets') }) same
      ∙ ap (λ (n : ℕ). record old { double = after.double; room = old.room - k; taken = old.taken ++ take k octets; short = nat_lt k n }) long,
)

module _ (numbers : Configuration) (plan : JoinPlan) where
  -- the write that was told last, and what there was before it; where there is a link, what was taken shows
  pub record WriteBack (octets : List ℕ) (answer : Wrote) (a b : Log) (last : Join) : Type 0 where
    pub before : Log
    pub j : Join
    pub reached : Reached numbers plan before j
    pub same : SameTold before a
    pub asked : SameAsked before b
    pub rule : linked_in a.steps ≡ true → b.links ≡ (log_write octets answer a).links → (before.links ≡ a.links) × JoinWrites octets answer j last

  -- one that took octets
  took-back : (b : Log) (last : Join) → Reached numbers plan b last → IsCounted b.told → (a : Log) (octets : List ℕ) (k : ℕ) → SameTold b (log_write octets (Took k) a) → WriteBack octets (Took k) a b last
  took-back b last new counted a octets k same = absurd (pushed-some a.writes _ (sym same.writes))
  took-back b last (asked {a = b1} {j = j1} h) counted a octets k same =
      let w = took-back b1 last h counted a octets k (record { steps = same.steps; told = same.told; writes = same.writes }) in
      record { before = w.before; j = w.j; reached = w.reached; same = w.same; asked = same-ask w.before b1 w.asked; rule = w.rule }
  took-back b last (told {a = b1} {j = j1} step given after rule h) counted a octets k same =
      let less : IsCounted b1.told = omega (arith, counted) in
      let o = ordered numbers plan b1 j1 h less in
      let W : List Write → Type 0 = λ ws. AllByRecursion (λ (w : Write). w.before ≤ b1.told) ws in
      let within = all-last (λ (w : Write). w.before ≤ b1.told) a.writes (record { before = a.told; offered = length octets; answer = Took k }) (subst W same.writes o.writes) in
      let now : min (b1.told + 1) 18446744073709551615 ≡ a.told = same.told in
      absurd (omega (arith, within, now, counted))
  took-back b last (wrote {a = b1} {j = j1} given (Took n) after rule h) counted a octets k same =
      let ends = last-same b1.writes a.writes (record { before = b1.told; offered = length given; answer = Took n }) (record { before = a.told; offered = length octets; answer = Took k }) same.writes in
      let answers : Took n ≡ Took k = ap (λ (w : Write). w.answer) ends.1 in
      let equal : n ≡ k = cc in
      let long : length given ≡ length octets = ap (λ (w : Write). w.offered) ends.1 in
      let has = is-linked numbers plan b1 j1 h in
      record {
        before = b1;
        j = j1;
        reached = h;
        same = record { steps = same.steps; told = same.told; writes = ends.0 };
        asked = record { told = refl; alike = inl (refl, refl) };
        rule = λ linked links.
            (let one : LinksAre true b1.links = subst (λ (x : Bool). LinksAre x b1.links) (sym has.steps ∙ ap linked_in same.steps ∙ linked) has.links in
            let added : on_last (λ link. link ++ take n given) b1.links ≡ (one.0 ++ take n given) ∷ [] = ap (on_last (λ link. link ++ take n given)) one.1 in
            let other = one-changed (λ link. link ++ take k octets) a.links (one.0 ++ take n given) (sym links ∙ added) in
            let sizes : length (take k octets) ≡ length (take n given) = omega (arith, equal, long, length-take k octets, length-take n given) in
            let parts = ends-same other.0 one.0 (take k octets) (take n given) sizes other.2 in
            let here : JoinWrites given (Took k) j1 last = subst (λ (m : ℕ). JoinWrites given (Took m) j1 last) equal rule in
            (one.1 ∙ ap (λ (xs : List ℕ). xs ∷ []) (sym parts.0) ∙ sym other.1, took-so octets given k j1 last long (ap (λ (m : ℕ). take m given) (sym equal) ∙ sym parts.1) here));
      }
  took-back b last (wrote given Failed after rule h) counted a octets k same = absurd rule
  took-back b last (wrote {a = b1} {j = j1} given NoMemory after rule h) counted a octets k same =
      subst (λ (x : Join). WriteBack octets (Took k) a b1 x) (sym rule) (took-back b1 j1 h counted a octets k same)

  -- none failed
  failed-back : (b : Log) (last : Join) → Reached numbers plan b last → IsCounted b.told → (a : Log) (octets : List ℕ) → SameTold b (log_write octets Failed a) → ⊥
  failed-back b last new counted a octets same = pushed-some a.writes _ (sym same.writes)
  failed-back b last (asked {a = b1} {j = j1} h) counted a octets same =
      failed-back b1 last h counted a octets (record { steps = same.steps; told = same.told; writes = same.writes })
  failed-back b last (told {a = b1} {j = j1} step given after rule h) counted a octets same =
      let less : IsCounted b1.told = omega (arith, counted) in
      let o = ordered numbers plan b1 j1 h less in
      let W : List Write → Type 0 = λ ws. AllByRecursion (λ (w : Write). w.before ≤ b1.told) ws in
      let within = all-last (λ (w : Write). w.before ≤ b1.told) a.writes (record { before = a.told; offered = length octets; answer = Failed }) (subst W same.writes o.writes) in
      let now : min (b1.told + 1) 18446744073709551615 ≡ a.told = same.told in
      omega (arith, within, now, counted)
  failed-back b last (wrote {a = b1} {j = j1} given (Took n) after rule h) counted a octets same =
      let ends = last-same b1.writes a.writes (record { before = b1.told; offered = length given; answer = Took n }) (record { before = a.told; offered = length octets; answer = Failed }) same.writes in
      let answers : Took n ≡ Failed = ap (λ (w : Write). w.answer) ends.1 in
      cc
  failed-back b last (wrote given Failed after rule h) counted a octets same = rule
  failed-back b last (wrote {a = b1} {j = j1} given NoMemory after rule h) counted a octets same =
      failed-back b1 j1 h counted a octets same

  write-back : (b : Log) (last : Join) → Reached numbers plan b last → IsCounted b.told → (a : Log) (octets : List ℕ) (answer : Wrote) → SameTold b (log_write octets answer a)
      → WriteBack octets answer a b last
  write-back b last h counted a octets (Took k) same = took-back b last h counted a octets k same
  write-back b last h counted a octets Failed same = absurd (failed-back b last h counted a octets same)
  write-back b last h counted a octets NoMemory same = record { before = b; j = last; reached = h; same = same; asked = same-self b; rule = λ linked links. (links, refl) }

  -- ---- the writes of a turn

  pub record OffersBack (os : List Offer) (a b : Log) (last : Join) : Type 0 where
    pub before : Log
    pub j : Join
    pub reached : Reached numbers plan before j
    pub same : SameTold before a
    pub asked : SameAsked before b
    pub joins : linked_in a.steps ≡ true → b.links ≡ (log_offers os a).links → (before.links ≡ a.links) × JoinsOffers os j last

  steps-written : (octets : List ℕ) (answer : Wrote) (a : Log) → (log_write octets answer a).steps ≡ a.steps
  steps-written octets (Took k) a = refl
  steps-written octets Failed a = refl
  steps-written octets NoMemory a = refl

  pub same-chain : (a b c : Log) → SameAsked a b → SameAsked b c → SameAsked a c
  same-chain a b c h k = record { told = h.told ∙ k.told; alike = by h.alike k.alike } where
    by : ((a.asked ≡ b.asked) × (a.asked_at ≡ b.asked_at)) ⊎ ((b.asked ≡ true) × (b.asked_at ≡ Some a.told))
        → ((b.asked ≡ c.asked) × (b.asked_at ≡ c.asked_at)) ⊎ ((c.asked ≡ true) × (c.asked_at ≡ Some b.told))
        → ((a.asked ≡ c.asked) × (a.asked_at ≡ c.asked_at)) ⊎ ((c.asked ≡ true) × (c.asked_at ≡ Some a.told))
    by (inl x) (inl y) = inl (x.0 ∙ y.0, x.1 ∙ y.1)
    by (inr x) (inl y) = inr (sym y.0 ∙ x.0, sym y.1 ∙ x.1)
    by (inl x) (inr y) = inr (y.0, y.1 ∙ ap Some (sym h.told))
    by (inr x) (inr y) = inr (y.0, y.1 ∙ ap Some (sym h.told))

  pub offers-back : (os : List Offer) (a b : Log) (last : Join) → Reached numbers plan b last → IsCounted b.told → SameTold b (log_offers os a) → OffersBack os a b last
  offers-back [] a b last h counted same = record { before = b; j = last; reached = h; same = same; asked = same-self b; joins = λ linked links. (links, refl) }
  offers-back (o ∷ os) a b last h counted same =
      let r = offers-back os (log_write o.bytes o.answer a) b last h counted same in
      let less : IsCounted r.before.told = subst IsCounted (sym r.asked.told) counted in
      let w = write-back r.before r.j r.reached less a o.bytes o.answer r.same in
      record {
        before = w.before;
        j = w.j;
        reached = w.reached;
        same = w.same;
        asked = same-chain w.before r.before b w.asked r.asked;
        joins = λ linked links.
            (let later = r.joins (ap linked_in (steps-written o.bytes o.answer a) ∙ linked) links in
            let first = w.rule linked later.0 in
            (first.0, (r.j, first.1, later.1)));
      }

  -- ---- a step

  -- the step that is told last, and what there was before it
  pub record StepBack (step : Step) (octets : List ℕ) (a b : Log) (last : Join) : Type 0 where
    pub before : Log
    pub j : Join
    pub reached : Reached numbers plan before j
    pub same : SameTold before a
    pub rule : TellsStep 0 step octets before.asked j last
    pub asked : SameAsked (log_step 0 step octets before) b
    pub links : b.links ≡ links_after step before.asked before.links

  -- a tick that is told again, or a step of its own
  repeated-or : (s : Step) → (s ≡ Tick) ⊎ (is_repeated s 0 0 ≡ false)
  repeated-or Tick = inl refl
  repeated-or Linked = inr refl
  repeated-or LinkFailed = inr refl
  repeated-or (Piece n) = inr refl
  repeated-or End = inr refl
  repeated-or Fault = inr refl
  repeated-or Room = inr refl
  repeated-or (Command c) = inr refl

  -- the steps that are told once this one is
  abbrev after_step : Step → List ℕ → Log → List Happening
  after_step s octets a = if is_repeated s 0 a.moment then a.steps else a.steps ++ record { before = a.told; at = 0; step = s; bytes = octets } ∷ []

  ticked : (s : Step) (octets : List ℕ) (a : Log) → a.moment ≡ 0 → s ≡ Tick → after_step s octets a ≡ a.steps
  ticked s octets a moment is =
      ap (λ (x : Step). after_step x octets a) is
      ∙ ap (λ (m : ℕ). if is_repeated Tick 0 m then a.steps else a.steps ++ record { before = a.told; at = 0; step = Tick; bytes = octets } ∷ []) moment

  stepped : (s : Step) (octets : List ℕ) (a : Log) → a.moment ≡ 0 → is_repeated s 0 0 ≡ false → after_step s octets a ≡ a.steps ++ record { before = a.told; at = 0; step = s; bytes = octets } ∷ []
  stepped s octets a moment is = if-false (is_repeated s 0 a.moment) a.steps (a.steps ++ record { before = a.told; at = 0; step = s; bytes = octets } ∷ []) (ap (is_repeated s 0) moment ∙ is)

  -- a tick brings nothing
  bare-tick : (s : Step) (octets : List ℕ) (flag : Bool) (j after : Join) → s ≡ Tick → TellsStep 0 s octets flag j after → octets ≡ []
  bare-tick s octets flag j after is rule = by (tells-so s octets flag j after rule) where
    later-bare : (x : Join) → later_step x ≡ comes Tick octets → octets ≡ []
    later-bare x =
        let P : Coming → Type 0 = λ c. c ≡ comes Tick octets → octets ≡ [] in
        if_case P x.short (comes Room []) (if not (length (output x) == 0) then comes (Piece (next_cut x)) (take (next_cut x) (output x)) else next_command x.commands x.closing)
        (λ h. absurd (let k : Room ≡ Tick = ap (λ (c : Coming). c.step) h in cc))
        (if_case P (not (length (output x) == 0)) (comes (Piece (next_cut x)) (take (next_cut x) (output x))) (next_command x.commands x.closing)
        (λ h. absurd (let k : Piece (next_cut x) ≡ Tick = ap (λ (c : Coming). c.step) h in cc)) (commands-bare x.commands x.closing))
      where
        commands-bare : (cs : List Cmd) (closing : Bool) → next_command cs closing ≡ comes Tick octets → octets ≡ []
        commands-bare (c ∷ cs) closing h = absurd (let k : Command c ≡ Tick = ap (λ (x : Coming). x.step) h in cc)
        commands-bare [] false h = absurd (let k : Command (CloseConnection 200 (79 ∷ 75 ∷ [])) ≡ Tick = ap (λ (x : Coming). x.step) h in cc)
        commands-bare [] true h = sym (ap (λ (x : Coming). x.bytes) h)

    by : TellsLink s octets (wants flag j) j after ⊎ TellsLater s octets (wants flag j) j after → octets ≡ []
    by (inl h) = h.none
    by (inr h) = later-bare j (h.step_is ∙ ap (λ (x : Step). comes x octets) is)

  pub step-back : (b : Log) (last : Join) → Reached numbers plan b last → IsCounted b.told → (step : Step) (octets : List ℕ) (a : Log) → a.moment ≡ 0 → Ordered a
      → (step ≡ Tick → octets ≡ []) → SameTold b (log_step 0 step octets a) → StepBack step octets a b last
  step-back b last new counted step octets a moment order bare same = absurd (let now : 0 ≡ min (a.told + 1) 18446744073709551615 = same.told in omega (arith, now))
  step-back b last (asked {a = b1} {j = j1} h) counted step octets a moment order bare same =
      let s = step-back b1 last h counted step octets a moment order bare (record { steps = same.steps; told = same.told; writes = same.writes }) in
      record { before = s.before; j = s.j; reached = s.reached; same = s.same; rule = s.rule; asked = same-ask (log_step 0 step octets s.before) b1 s.asked; links = s.links }
  step-back b last (told {a = b1} {j = j1} step' octets' after rule h) counted step octets a moment order bare same = by (repeated-or step') (repeated-or step) where
    less : IsCounted b1.told
    less = omega (arith, counted)

    before : Ordered b1
    before = ordered numbers plan b1 j1 h less

    plain1 : b1.moment ≡ 0
    plain1 = (plain numbers plan b1 j1 h).moment

    told_same : b1.told ≡ a.told
    told_same = let now : min (b1.told + 1) 18446744073709551615 ≡ min (a.told + 1) 18446744073709551615 = same.told in omega (arith, now, counted)

    steps : after_step step' octets' b1 ≡ after_step step octets a
    steps = same.steps

    done : b1.steps ≡ a.steps → step' ≡ step → octets' ≡ octets → StepBack step octets a b last
    done are step_is octets_are =
        let R : Step → Type 0 = λ s. TellsStep 0 s octets' b1.asked j1 last in
        let Q : List ℕ → Type 0 = λ xs. TellsStep 0 step xs b1.asked j1 last in
        record {
          before = b1;
          j = j1;
          reached = h;
          same = record { steps = are; told = told_same; writes = same.writes };
          rule = subst Q octets_are (subst R step_is rule);
          asked = record { told = refl; alike = inl (ap (λ (s : Step). asked_after s b1.asked) (sym step_is), refl) };
          links = ap (λ (s : Step). links_after s b1.asked b1.links) step_is;
        }

    by : (step' ≡ Tick) ⊎ (is_repeated step' 0 0 ≡ false) → (step ≡ Tick) ⊎ (is_repeated step 0 0 ≡ false) → StepBack step octets a b last
    by (inl t') (inl t) =
        done (sym (ticked step' octets' b1 plain1 t') ∙ steps ∙ ticked step octets a moment t) (t' ∙ sym t) (bare-tick step' octets' b1.asked j1 last t' rule ∙ sym (bare t))
    by (inl t') (inr n) =
        let all : b1.steps ≡ a.steps ++ record { before = a.told; at = 0; step = step; bytes = octets } ∷ [] = sym (ticked step' octets' b1 plain1 t') ∙ steps ∙ stepped step octets a moment n in
        let last_before = all-last (λ (x : Happening). x.before < b1.told) a.steps (record { before = a.told; at = 0; step = step; bytes = octets })
        (subst (AllByRecursion (λ (x : Happening). x.before < b1.told)) all before.steps) in
        absurd (omega (arith, last_before, told_same))
    by (inr n') (inl t) =
        let all : b1.steps ++ record { before = b1.told; at = 0; step = step'; bytes = octets' } ∷ [] ≡ a.steps = sym (stepped step' octets' b1 plain1 n') ∙ steps ∙ ticked step octets a moment t in
        let last_before = all-last (λ (x : Happening). x.before < a.told) b1.steps (record { before = b1.told; at = 0; step = step'; bytes = octets' })
        (subst (AllByRecursion (λ (x : Happening). x.before < a.told)) (sym all) order.steps) in
        absurd (omega (arith, last_before, told_same))
    by (inr n') (inr n) =
        let ends = last-same b1.steps a.steps (record { before = b1.told; at = 0; step = step'; bytes = octets' }) (record { before = a.told; at = 0; step = step; bytes = octets })
        (sym (stepped step' octets' b1 plain1 n') ∙ steps ∙ stepped step octets a moment n) in
        done ends.0 (ap (λ (x : Happening). x.step) ends.1) (ap (λ (x : Happening). x.bytes) ends.1)
  step-back b last (wrote {a = b1} {j = j1} given (Took n) after rule h) counted step octets a moment order bare same =
      let now : b1.told ≡ min (a.told + 1) 18446744073709551615 = same.told in
      let within = all-last (λ (w : Write). w.before ≤ a.told) b1.writes (record { before = b1.told; offered = length given; answer = Took n })
      (subst (AllByRecursion (λ (w : Write). w.before ≤ a.told)) (sym same.writes) order.writes) in
      absurd (omega (arith, within, now, counted))
  step-back b last (wrote given Failed after rule h) counted step octets a moment order bare same = absurd rule
  step-back b last (wrote {a = b1} {j = j1} given NoMemory after rule h) counted step octets a moment order bare same =
      subst (λ (x : Join). StepBack step octets a b1 x) (sym rule) (step-back b1 j1 h counted step octets a moment order bare same)

  -- a port that told nothing is as it was made
  pub untold-new : (b : Log) (j : Join) → Reached numbers plan b j → b.told ≡ 0 → b.writes ≡ [] → j ≡ join (fresh numbers) plan
  untold-new b j new none unwritten = refl
  untold-new b j (asked {a = b1} {j = j1} h) none unwritten = untold-new b1 j1 h none unwritten
  untold-new b j (told {a = b1} {j = j1} step octets after rule h) none unwritten = absurd (let now : min (b1.told + 1) 18446744073709551615 ≡ 0 = none in omega (arith, now))
  untold-new b j (wrote {a = b1} {j = j1} octets (Took n) after rule h) none unwritten = absurd (pushed-some b1.writes _ unwritten)
  untold-new b j (wrote octets Failed after rule h) none unwritten = absurd rule
  untold-new b j (wrote {a = b1} {j = j1} octets NoMemory after rule h) none unwritten = rule ∙ untold-new b1 j1 h none unwritten
