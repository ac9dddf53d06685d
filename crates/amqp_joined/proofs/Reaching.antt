-- What a joined port tells says what happened to it: its steps, in order, with its writes.
use Rattle.std.proofs.Common.{◌≡◌, ◌≤◌, ◌<◌, ◌⊎◌, inl, inr, ◌∙◌, ap, sym, refl, subst, ℕ, ◌+◌, ◌&&◌, ◌||◌, not, if◌then◌else◌, Bool, true, false, List, [], ◌∷◌, ◌++◌, length, take, Option, Some, None, option_map, arith}
use Rattle.std.specs.List.{AllByRecursion}
use Rattle.amqp_types.proofs.Small.{if_case, if-true, if-false, and-left, and-right, from-not-true}
use Rattle.amqp_settings.specs.declared.configuration.Configuration.{Configuration}
use Rattle.amqp_engine.specs.declared.port.Step.{Step}
use Rattle.amqp_engine.specs.declared.port.Step.TheVariants.{Linked, LinkFailed, Piece, Room, Tick, Command}
use Rattle.amqp_engine.specs.declared.port.Wrote.TheVariants.{Took, Failed, NoMemory}
use Rattle.amqp_engine.specs.declared.port.Happening.{Happening}
use Rattle.amqp_engine.specs.declared.port.Write.{Write}
use Rattle.amqp_engine.specs.Plan.{Coming, Plan, plan_step, plan_write}
use Rattle.amqp_engine.specs.Log.{Log, log_step, on_last, is_repeated, asked_after, links_after}
use Rattle.amqp_joining.specs.Plans.{JoinPlan}
use Rattle.amqp_joining.specs.Joining.{Join, comes, roomier}
use Rattle.amqp_joining.proofs.Lists.{all-push, all-weaker}
use Rattle.amqp_both_ends.proofs.Later.{later_step, after_later, IsLater, is-later, later-linked}
use Rattle.amqp_joined.specs.Ports.{TellsStep}
use Rattle.amqp_joined.specs.Reached.{Reached, new, asked, told, wrote}

-- a step that was told is the link where one was asked for and none was told, and else one of the others
pub record TellsLink (step : Step) (octets : List ℕ) (wanted : Bool) (j after : Join) : Type 0 where
  pub wanted_is : wanted ≡ true
  pub step_is : step ≡ Linked
  pub none : octets ≡ []
  pub then_so : after ≡ roomier (record j { linked = true })

pub record TellsLater (step : Step) (octets : List ℕ) (wanted : Bool) (j after : Join) : Type 0 where
  pub unwanted : wanted ≡ false
  pub step_is : later_step j ≡ comes step octets
  pub later : IsLater step
  pub then_so : after ≡ after_later j

abbrev pub wants : Bool → Join → Bool
wants flag j = flag && not j.linked

pub tells-so : (step : Step) (octets : List ℕ) (flag : Bool) (j after : Join) → TellsStep 0 step octets flag j after
    → TellsLink step octets (wants flag j) j after ⊎ TellsLater step octets (wants flag j) j after
tells-so step octets flag j after rule = by (wants flag j) refl where
  by : (b : Bool) → wants flag j ≡ b → TellsLink step octets (wants flag j) j after ⊎ TellsLater step octets (wants flag j) j after
  by true is =
      let same : comes Linked [] ≡ comes step octets = sym (if-true (wants flag j) (comes Linked []) (later_step j) is) ∙ rule.told in
      inl (record {
        wanted_is = is;
        step_is = sym (ap (λ (x : Coming). x.step) same);
        none = sym (ap (λ (x : Coming). x.bytes) same);
        then_so = rule.then_so ∙ if-true (wants flag j) (roomier (record j { linked = true })) (after_later j) is;
      })
  by false is =
      let same : later_step j ≡ comes step octets = sym (if-false (wants flag j) (comes Linked []) (later_step j) is) ∙ rule.told in
      inr (record {
        unwanted = is;
        step_is = same;
        later = subst (λ (x : Coming). IsLater x.step) same (is-later j);
        then_so = rule.then_so ∙ if-false (wants flag j) (roomier (record j { linked = true })) (after_later j) is;
      })

pub no-link : (s : Step) → s ≡ Linked → IsLater s → ⊥
no-link s is l = subst IsLater is l

-- ---- what each of these logs has

-- all moments are 0, and no script is played
pub record IsPlain (a : Log) : Type 0 where
  pub moment : a.moment ≡ 0
  pub plan : a.plan ≡ None

pub plain : (numbers : Configuration) (plan : JoinPlan) (a : Log) (j : Join) → Reached numbers plan a j → IsPlain a
plain numbers plan a j new = record { moment = refl; plan = refl }
plain numbers plan a j (asked {a = b} {j = i} k) =
    let h = plain numbers plan b i k in record { moment = h.moment; plan = h.plan }
plain numbers plan a j (told {a = b} {j = i} step octets after rule k) =
    let h = plain numbers plan b i k in record { moment = refl; plan = ap (λ (p : Option Plan). option_map (plan_step b.asked) p) h.plan }
plain numbers plan a j (wrote {a = b} {j = i} octets (Took n) after rule k) =
    let h = plain numbers plan b i k in record { moment = h.moment; plan = ap (λ (p : Option Plan). option_map (plan_write n) p) h.plan }
plain numbers plan a j (wrote octets Failed after rule k) = absurd rule
plain numbers plan a j (wrote {a = b} {j = i} octets NoMemory after rule k) = plain numbers plan b i k

-- fewer steps than can be counted were told
abbrev pub IsCounted : ℕ → Type 0
IsCounted n = n < 18446744073709551615

-- a link that is asked for was asked for before as many steps as were told, or fewer
abbrev pub IsAskedBy : Bool → Option ℕ → ℕ → Type 0
IsAskedBy false at n = Unit {0}
IsAskedBy true None n = ⊥
IsAskedBy true (Some at) n = at ≤ n

-- each step was told before, each write was answered by now, and a link that is asked for was asked for by now
pub record Ordered (a : Log) : Type 0 where
  pub steps : AllByRecursion (λ (h : Happening). h.before < a.told) a.steps
  pub writes : AllByRecursion (λ (w : Write). w.before ≤ a.told) a.writes
  pub asked : IsAskedBy a.asked a.asked_at a.told

asked-now : (b : Bool) (at : Option ℕ) (n : ℕ) → IsAskedBy b at n → IsAskedBy true (if b then at else Some n) n
asked-now true (Some at) n h = h
asked-now true None n h = absurd h
asked-now false at n h = omega arith

asked-still : (b : Bool) (at : Option ℕ) (n m : ℕ) → IsAskedBy b at n → n ≤ m → IsAskedBy b at m
asked-still true (Some at) n m h more = omega (arith, h, more)
asked-still true None n m h more = absurd h
asked-still false at n m h more = tt

asked-step : (s : Step) (b : Bool) (at : Option ℕ) (n : ℕ) → IsAskedBy b at n → IsAskedBy (asked_after s b) at n
asked-step Linked b at n h = tt
asked-step LinkFailed b at n h = tt
asked-step (Piece k) b at n h = h
asked-step Room b at n h = h
asked-step Tick b at n h = h
asked-step (Command c) b at n h = h
asked-step s b at n h = h

pub ordered : (numbers : Configuration) (plan : JoinPlan) (a : Log) (j : Join) → Reached numbers plan a j → IsCounted a.told → Ordered a
ordered numbers plan a j new counted = record { steps = tt; writes = tt; asked = tt }
ordered numbers plan a j (asked {a = b} {j = i} k) counted =
    let h = ordered numbers plan b i k counted in record { steps = h.steps; writes = h.writes; asked = asked-now b.asked b.asked_at b.told h.asked }
ordered numbers plan a j (told {a = b} {j = i} step octets after rule k) counted =
    let before : IsCounted b.told = omega (arith, counted) in
    let one : (log_step 0 step octets b).told ≡ b.told + 1 = omega (arith, counted) in
    let h = ordered numbers plan b i k before in
    let now = (log_step 0 step octets b).told in
    let P : List Happening → Type 0 = λ hs. AllByRecursion (λ (x : Happening). x.before < now) hs in
    let kept : P b.steps = all-weaker (λ (x : Happening). x.before < b.told) (λ (x : Happening). x.before < now) (λ x less. omega (arith, less, one)) b.steps h.steps in
    let next : Happening = record { before = b.told; at = 0; step = step; bytes = octets } in
    record {
      steps = if_case P (is_repeated step 0 b.moment) b.steps (b.steps ++ next ∷ []) kept (all-push (λ (x : Happening). x.before < now) b.steps next kept (omega (arith, one)));
      writes = all-weaker (λ (w : Write). w.before ≤ b.told) (λ (w : Write). w.before ≤ now) (λ w less. omega (arith, less, one)) b.writes h.writes;
      asked = asked-step step b.asked b.asked_at now (asked-still b.asked b.asked_at b.told now h.asked (omega (arith, one)));
    }
ordered numbers plan a j (wrote {a = b} {j = i} octets (Took n) after rule k) counted =
    let h = ordered numbers plan b i k counted in
    record {
      steps = h.steps;
      writes = all-push (λ (w : Write). w.before ≤ b.told) b.writes (record { before = b.told; offered = length octets; answer = Took n }) h.writes (omega arith);
      asked = h.asked;
    }
ordered numbers plan a j (wrote octets Failed after rule k) counted = absurd rule
ordered numbers plan a j (wrote {a = b} {j = i} octets NoMemory after rule k) counted = ordered numbers plan b i k counted

-- ---- the link

-- once its step was told
abbrev pub is_link : Step → Bool
is_link Linked = true
is_link _ = false

abbrev pub linked_in : List Happening → Bool
linked_in [] = false
linked_in (h ∷ hs) = is_link h.step || linked_in hs

pub linked-push : (hs : List Happening) (h : Happening) → linked_in (hs ++ h ∷ []) ≡ (linked_in hs || is_link h.step)
linked-push [] h = or-none (is_link h.step) where
  or-none : (b : Bool) → (b || false) ≡ (false || b)
  or-none true = refl
  or-none false = refl
linked-push (x ∷ hs) h = ap (λ (b : Bool). is_link x.step || b) (linked-push hs h) ∙ assoc (is_link x.step) (linked_in hs) (is_link h.step) where
  assoc : (a b c : Bool) → (a || (b || c)) ≡ ((a || b) || c)
  assoc true b c = refl
  assoc false b c = refl

-- there is one link once it was told, and none before
abbrev pub LinksAre : Bool → List (List ℕ) → Type 0
LinksAre false links = links ≡ []
LinksAre true links = (octets : List ℕ) × (links ≡ octets ∷ [])

-- a link was told where the port has one
pub record IsLinked (a : Log) (j : Join) : Type 0 where
  pub steps : linked_in a.steps ≡ j.linked
  pub links : LinksAre j.linked a.links

not-link : (s : Step) → IsLater s → is_link s ≡ false
not-link Linked l = absurd l
not-link LinkFailed l = absurd l
not-link (Piece n) l = refl
not-link Room l = refl
not-link Tick l = refl
not-link (Command c) l = refl
not-link s l = refl

pub links-stay : (s : Step) (b : Bool) (links : List (List ℕ)) → IsLater s → links_after s b links ≡ links
links-stay Linked b links l = absurd l
links-stay LinkFailed b links l = absurd l
links-stay (Piece n) b links l = refl
links-stay Room b links l = refl
links-stay Tick b links l = refl
links-stay (Command c) b links l = refl
links-stay s b links l = refl

pub asked-stays : (s : Step) (b : Bool) → IsLater s → asked_after s b ≡ b
asked-stays Linked b l = absurd l
asked-stays LinkFailed b l = absurd l
asked-stays (Piece n) b l = refl
asked-stays Room b l = refl
asked-stays Tick b l = refl
asked-stays (Command c) b l = refl
asked-stays s b l = refl

on-last-are : (b : Bool) (f : List ℕ → List ℕ) (links : List (List ℕ)) → LinksAre b links → LinksAre b (on_last f links)
on-last-are false f links is = subst (λ (xs : List (List ℕ)). on_last f xs ≡ []) (sym is) refl
on-last-are true f links (octets, is) = (f octets, ap (on_last f) is)

pub or-true : (b : Bool) → (b || true) ≡ true
or-true true = refl
or-true false = refl

or-false : (b : Bool) → (b || false) ≡ b
or-false true = refl
or-false false = refl

pub is-linked : (numbers : Configuration) (plan : JoinPlan) (a : Log) (j : Join) → Reached numbers plan a j → IsLinked a j
is-linked numbers plan a j new = record { steps = refl; links = refl }
is-linked numbers plan a j (asked {a = b} {j = i} k) =
    let h = is-linked numbers plan b i k in record { steps = h.steps; links = h.links }
is-linked numbers plan a j (told {a = b} {j = i} step octets after rule k) = by (is-linked numbers plan b i k) (tells-so step octets b.asked i after rule) where
  next : Happening
  next = record { before = b.told; at = 0; step = step; bytes = octets }

  by : IsLinked b i → TellsLink step octets (wants b.asked i) i after ⊎ TellsLater step octets (wants b.asked i) i after → IsLinked (log_step 0 step octets b) after
  by h (inl t) =
      let was : i.linked ≡ false = from-not-true i.linked (and-right b.asked (not i.linked) t.wanted_is) in
      let is_asked : b.asked ≡ true = and-left b.asked (not i.linked) t.wanted_is in
      let now : after.linked ≡ true = ap (λ (x : Join). x.linked) t.then_so in
      let P : Step → Type 0 = λ s. linked_in (if is_repeated s 0 b.moment then b.steps else b.steps ++ record next { step = s } ∷ []) ≡ true in
      let Q : Step → Type 0 = λ s. LinksAre true (links_after s b.asked b.links) in
      let none : b.links ≡ [] = subst (λ (x : Bool). LinksAre x b.links) was h.links in
      let links : LinksAre true (if b.asked then b.links ++ [] ∷ [] else b.links) =
      ([], if-true b.asked (b.links ++ [] ∷ []) b.links is_asked ∙ ap (λ (xs : List (List ℕ)). xs ++ [] ∷ []) none) in
      record {
        steps = subst P (sym t.step_is) (linked-push b.steps (record next { step = Linked }) ∙ or-true (linked_in b.steps)) ∙ sym now;
        links = subst (λ (x : Bool). LinksAre x (links_after step b.asked b.links)) (sym now) (subst Q (sym t.step_is) links);
      }
  by h (inr t) =
      let same : after.linked ≡ i.linked = ap (λ (x : Join). x.linked) t.then_so ∙ later-linked i in
      let P : List Happening → Type 0 = λ hs. linked_in hs ≡ after.linked in
      let kept : linked_in b.steps ≡ after.linked = h.steps ∙ sym same in
      record {
        steps = if_case P (is_repeated step 0 b.moment) b.steps (b.steps ++ next ∷ []) kept
            (linked-push b.steps next ∙ ap (λ (x : Bool). linked_in b.steps || x) (not-link step t.later) ∙ or-false (linked_in b.steps) ∙ kept);
        links = subst (λ (x : Bool). LinksAre x (links_after step b.asked b.links)) (sym same) (subst (LinksAre i.linked) (sym (links-stay step b.asked b.links t.later)) h.links);
      }
is-linked numbers plan a j (wrote {a = b} {j = i} octets (Took n) after rule k) =
    let h = is-linked numbers plan b i k in
    let same : after.linked ≡ i.linked = ap (λ (x : Join). x.linked) rule.2 in
    record {
      steps = h.steps ∙ sym same;
      links = subst (λ (x : Bool). LinksAre x (on_last (λ link. link ++ take n octets) b.links)) (sym same) (on-last-are i.linked (λ link. link ++ take n octets) b.links h.links);
    }
is-linked numbers plan a j (wrote octets Failed after rule k) = absurd rule
is-linked numbers plan a j (wrote {a = b} {j = i} octets NoMemory after rule k) =
    let h = is-linked numbers plan b i k in
    let same : after.linked ≡ i.linked = ap (λ (x : Join). x.linked) rule in
    record { steps = h.steps ∙ sym same; links = subst (λ (x : Bool). LinksAre x b.links) (sym same) h.links }

-- ---- the end of a list

pub last-same : {A : Type 0} (xs ys : List A) (x y : A) → xs ++ x ∷ [] ≡ ys ++ y ∷ [] → (xs ≡ ys) × (x ≡ y)
last-same [] [] x y h = (refl, cc)
last-same [] (b ∷ []) x y h = absurd cc
last-same [] (b ∷ c ∷ ys) x y h = absurd cc
last-same (a ∷ []) [] x y h = absurd cc
last-same (a ∷ c ∷ xs) [] x y h = absurd cc
last-same (a ∷ xs) (b ∷ ys) x y h =
    let heads : a ≡ b = cc in
    let tails : xs ++ x ∷ [] ≡ ys ++ y ∷ [] = cc in
    let k = last-same xs ys x y tails in
    (ap (λ z. z ∷ xs) heads ∙ ap (λ zs. b ∷ zs) k.0, k.1)

pub all-last : {A : Type 0} (P : A → Type 0) (xs : List A) (x : A) → AllByRecursion P (xs ++ x ∷ []) → P x
all-last P [] x h = h.0
all-last P (y ∷ xs) x h = all-last P xs x h.1

pub pushed-some : {A : Type 0} (xs : List A) (x : A) → xs ++ x ∷ [] ≡ [] → ⊥
pushed-some [] x h = cc
pushed-some (y ∷ xs) x h = cc
