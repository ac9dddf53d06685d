-- A turn that a joined port tells is one by its plan.
use Rattle.std.proofs.Common.{◌≡◌, ◌<◌, ◌⊎◌, inl, inr, ◌∙◌, ap, sym, refl, subst, ℕ, ◌+◌, ◌&&◌, ◌||◌, not, min, if◌then◌else◌, Bool, true, false, true≢false, List, [], ◌∷◌, ◌++◌, length, length-append, append_assoc, Option, Some, None, arith}
use Rattle.amqp_types.proofs.Small.{if_case, if-true, if-false, and-false, and-right, from-not-true}
use Rattle.amqp_settings.specs.declared.configuration.Configuration.{Configuration}
use Rattle.amqp_engine.specs.declared.port.Step.{Step}
use Rattle.amqp_engine.specs.declared.port.Step.TheVariants.{Linked, Tick}
use Rattle.amqp_engine.specs.declared.port.Wrote.{Wrote}
use Rattle.amqp_engine.specs.declared.port.Wrote.TheVariants.{Took, Failed, NoMemory}
use Rattle.amqp_engine.specs.declared.port.Happening.{Happening}
use Rattle.amqp_engine.specs.declared.port.Write.{Write}
use Rattle.amqp_engine.specs.Plan.{Plan}
use Rattle.amqp_engine.specs.Log.{Log, log_ask, log_step, log_write, is_repeated, asked_after, links_after}
use Rattle.amqp_engine.specs.Engine.{Engine}
use Rattle.amqp_engine.specs.Turn.{Turn, asks, wants_ask, turn}
use Rattle.amqp_engine.specs.Tell.{Offer, offers_of, log_offers, log_asks, log_stepped, log_turn}
use Rattle.amqp_double.specs.Doubles.{fresh}
use Rattle.amqp_joining.specs.Plans.{JoinPlan}
use Rattle.amqp_joining.specs.Joining.{Join, join, comes, roomier, after_join_step, asked_now, asked_then, JoinsOffers, JoinsTurn, JoinsTurns}
use Rattle.amqp_both_ends.specs.TwoEnds.{unasked}
use Rattle.amqp_both_ends.proofs.Later.{later_step, after_later, IsLater}
use Rattle.amqp_joined.specs.Ports.{TellsStep}
use Rattle.amqp_joined.specs.Reached.{Reached, asked, untold}
use Rattle.amqp_joined.proofs.Reaching.{TellsLink, TellsLater, wants, tells-so, no-link, plain, IsCounted, IsAskedBy, Ordered, ordered, is_link, linked_in, LinksAre, is-linked, asked-stays, links-stay, linked-push, or-true}
use Rattle.amqp_joined.proofs.Backwards.{SameTold, SameAsked, same-chain, step-back, offers-back, untold-new}

-- ---- what asking and writing leave

asks-keep : {A : Type 0} (f : Log → A) → ((a : Log) → f (log_ask a) ≡ f a) → (e : Engine) (a : Log) → f (log_asks e a) ≡ f a
asks-keep f same e a = if_case (λ (x : Log). f x ≡ f a) (wants_ask e) (log_ask a) a (same a) refl

asks-asked : (e : Engine) (a : Log) → (log_asks e a).asked ≡ asked_now e a.asked
asks-asked e a = by (wants_ask e) where
  by : (b : Bool) → (if b then log_ask a else a).asked ≡ (if b then true else a.asked)
  by true = refl
  by false = refl

write-keeps : {A : Type 0} (f : Log → A) → ((a : Log) (writes : List Write) (links : List (List ℕ)) (plan : Option Plan) → f (record a { writes = writes; links = links; plan = plan }) ≡ f a)
    → (octets : List ℕ) (answer : Wrote) (a : Log) → f (log_write octets answer a) ≡ f a
write-keeps f same octets (Took k) a = same a _ _ _
write-keeps f same octets Failed a = same a _ _ _
write-keeps f same octets NoMemory a = refl

offers-keep : {A : Type 0} (f : Log → A) → ((a : Log) (writes : List Write) (links : List (List ℕ)) (plan : Option Plan) → f (record a { writes = writes; links = links; plan = plan }) ≡ f a)
    → (os : List Offer) (a : Log) → f (log_offers os a) ≡ f a
offers-keep f same [] a = refl
offers-keep f same (o ∷ os) a = offers-keep f same os (log_write o.bytes o.answer a) ∙ write-keeps f same o.bytes o.answer a

-- the moment that is told is that of the turn
pub turn-moment : (u : Turn) (e : Engine) (a : Log) → (log_turn u e a).moment ≡ u.at
turn-moment u e a = offers-keep (λ (x : Log). x.moment) (λ x w l p. refl) (offers_of u (asks e)) (log_stepped u e a)

-- a step that is the link where one is asked for and none was told, and else one of the others
abbrev Kind : Step → Bool → Bool → Type 0
Kind step flag linked = ((step ≡ Linked) × (flag ≡ true) × (linked ≡ false)) ⊎ (IsLater step × ((flag && not linked) ≡ false))

and-all : (b : Bool) → (b && true) ≡ b
and-all true = refl
and-all false = refl

module _ (numbers : Configuration) (plan : JoinPlan) (u : Turn) (e : Engine) (a : Log) (i : Join) (has : Reached numbers plan a i) (counted : IsCounted a.told) where
  -- once a link was asked for, and once the step was told
  abbrev A : Log
  A = log_asks e a

  abbrev S : Log
  S = log_stepped u e a

  abbrev os : List Offer
  os = offers_of u (asks e)

  reached-asked : Reached numbers plan A i
  reached-asked = if_case (λ (x : Log). Reached numbers plan x i) (wants_ask e) (log_ask a) a (asked has) has

  same-told : A.told ≡ a.told
  same-told = asks-keep (λ (x : Log). x.told) (λ x. refl) e a

  same-steps : A.steps ≡ a.steps
  same-steps = asks-keep (λ (x : Log). x.steps) (λ x. refl) e a

  same-writes : A.writes ≡ a.writes
  same-writes = asks-keep (λ (x : Log). x.writes) (λ x. refl) e a

  same-links : A.links ≡ a.links
  same-links = asks-keep (λ (x : Log). x.links) (λ x. refl) e a

  moment : A.moment ≡ 0
  moment = (plain numbers plan A i reached-asked).moment

  order : Ordered A
  order = ordered numbers plan A i reached-asked (subst IsCounted (sym same-told) counted)

  links-are : LinksAre (linked_in a.steps) a.links
  links-are = let h = is-linked numbers plan a i has in subst (λ (b : Bool). LinksAre b a.links) (sym h.steps) h.links

  -- what was before a turn, of a port that tells this one
  pub record TurnBack (b : Log) (last : Join) : Type 0 where
    pub before : Log
    pub j : Join
    pub mid : Join
    pub reached : Reached numbers plan before j
    pub same : SameTold before a
    pub rule : TellsStep 0 u.step u.bytes before.asked j mid
    pub asked : SameAsked (log_step 0 u.step u.bytes before) b
    pub joins : linked_in S.steps ≡ true → b.links ≡ (log_turn u e a).links → (links_after u.step before.asked before.links ≡ S.links) × JoinsOffers os mid last

  turn-back : (b : Log) (last : Join) → Reached numbers plan b last → IsCounted b.told → u.at ≡ 0 → (u.step ≡ Tick → u.bytes ≡ []) → SameTold b (log_turn u e a) → TurnBack b last
  turn-back b last h fits first bare same =
      let o = offers-back numbers plan os S b last h fits same in
      let now : S ≡ log_step 0 u.step u.bytes A = ap (λ (at : ℕ). log_step at u.step u.bytes A) first in
      let s = step-back numbers plan o.before o.j o.reached (subst IsCounted (sym o.asked.told) fits) u.step u.bytes A moment order bare (subst (SameTold o.before) now o.same) in
      record {
        before = s.before;
        j = s.j;
        mid = o.j;
        reached = s.reached;
        same = record { steps = s.same.steps ∙ same-steps; told = s.same.told ∙ same-told; writes = s.same.writes ∙ same-writes };
        rule = s.rule;
        asked = same-chain numbers plan (log_step 0 u.step u.bytes s.before) o.before b s.asked o.asked;
        joins = λ linked links. (let k = o.joins linked links in (sym s.links ∙ k.0, k.1));
      }

  -- the port has a link where one was told
  linked-so : (b : Log) (last : Join) (k : TurnBack b last) → k.j.linked ≡ linked_in a.steps
  linked-so b last k = sym (is-linked numbers plan k.before k.j k.reached).steps ∙ ap linked_in k.same.steps

  -- of a port that tells just this turn, the step is the link where one was asked for and none was told
  the-kind : (b : Log) (last : Join) (k : TurnBack b last) → b ≡ log_turn u e a → (linked_in a.steps ≡ true) ⊎ (A.asked ≡ true) → Kind u.step A.asked (linked_in a.steps)
  the-kind b last k is which = by (tells-so u.step u.bytes k.before.asked k.j k.mid k.rule) which where
    flag : Bool
    flag = wants k.before.asked k.j

    has_linked : k.j.linked ≡ linked_in a.steps
    has_linked = linked-so b last k

    -- a link that was asked for before the turn is no later one
    not-later : TellsLater u.step u.bytes flag k.j k.mid → A.asked ≡ true → linked_in a.steps ≡ false → ⊥
    not-later t wanted none = both k.asked.alike where
      unlinked : k.j.linked ≡ false
      unlinked = has_linked ∙ none

      not_asked : k.before.asked ≡ false
      not_asked = sym (and-all k.before.asked) ∙ ap (λ (x : Bool). k.before.asked && not x) (sym unlinked) ∙ t.unwanted

      now_asked : b.asked ≡ true
      now_asked = ap (λ (x : Log). x.asked) is ∙ offers-keep (λ (x : Log). x.asked) (λ x w l p. refl) os S ∙ asked-stays u.step A.asked t.later ∙ wanted

      now_at : b.asked_at ≡ A.asked_at
      now_at = ap (λ (x : Log). x.asked_at) is ∙ offers-keep (λ (x : Log). x.asked_at) (λ x w l p. refl) os S

      before_told : k.before.told ≡ A.told
      before_told = k.same.told ∙ sym same-told

      less : A.told < 18446744073709551615
      less = subst IsCounted (sym same-told) counted

      by-at : (at : Option ℕ) → A.asked_at ≡ at → IsAskedBy true at A.told → at ≡ Some (log_step 0 u.step u.bytes k.before).told → ⊥
      by-at None at h same = h
      by-at (Some n) at h same =
          let now : n ≡ min (k.before.told + 1) 18446744073709551615 = (let k2 : Some n ≡ Some (min (k.before.told + 1) 18446744073709551615) = same in cc) in
          omega (arith, now, h, before_told, less)

      asked_by : IsAskedBy true A.asked_at A.told
      asked_by = subst (λ (x : Bool). IsAskedBy x A.asked_at A.told) wanted order.asked

      both : (((log_step 0 u.step u.bytes k.before).asked ≡ b.asked) × ((log_step 0 u.step u.bytes k.before).asked_at ≡ b.asked_at))
          ⊎ ((b.asked ≡ true) × (b.asked_at ≡ Some (log_step 0 u.step u.bytes k.before).told)) → ⊥
      both (inl h) = true≢false (sym now_asked ∙ sym h.0 ∙ asked-stays u.step k.before.asked t.later ∙ not_asked)
      both (inr h) = by-at A.asked_at refl asked_by (sym now_at ∙ h.1)

    by : TellsLink u.step u.bytes flag k.j k.mid ⊎ TellsLater u.step u.bytes flag k.j k.mid → (linked_in a.steps ≡ true) ⊎ (A.asked ≡ true) → Kind u.step A.asked (linked_in a.steps)
    by (inl t) (inl linked) =
        absurd (true≢false (sym linked ∙ sym has_linked ∙ from-not-true k.j.linked (and-right k.before.asked (not k.j.linked) t.wanted_is)))
    by (inl t) (inr wanted) = inl (t.step_is, wanted, sym has_linked ∙ from-not-true k.j.linked (and-right k.before.asked (not k.j.linked) t.wanted_is))
    by (inr t) (inl linked) = inr (t.later, and-false A.asked (not (linked_in a.steps)) (ap not linked))
    by (inr t) (inr wanted) = inr (t.later, linked-or (linked_in a.steps) refl) where
      linked-or : (x : Bool) → linked_in a.steps ≡ x → (A.asked && not (linked_in a.steps)) ≡ false
      linked-or true linked = and-false A.asked (not (linked_in a.steps)) (ap not linked)
      linked-or false none = absurd (not-later t wanted none)

  -- then there is a link
  abbrev IsLinkedSoFar : Type 0
  IsLinkedSoFar = (linked_in a.steps ≡ true) ⊎ (A.asked ≡ true)

  steps-link : IsLinkedSoFar → Kind u.step A.asked (linked_in a.steps) → linked_in S.steps ≡ true
  steps-link which (inl k) =
      let P : Step → Type 0 = λ s. linked_in (if is_repeated s u.at A.moment then A.steps else A.steps ++ record { before = A.told; at = u.at; step = s; bytes = u.bytes } ∷ []) ≡ true in
      subst P (sym k.0) (linked-push A.steps (record { before = A.told; at = u.at; step = Linked; bytes = u.bytes }) ∙ or-true (linked_in A.steps))
  steps-link which (inr k) =
      let next : Happening = record { before = A.told; at = u.at; step = u.step; bytes = u.bytes } in
      let all : linked_in A.steps ≡ true = ap linked_in same-steps ∙ linked which in
      if_case (λ (hs : List Happening). linked_in hs ≡ true) (is_repeated u.step u.at A.moment) A.steps (A.steps ++ next ∷ []) all
      (linked-push A.steps next ∙ ap (λ (x : Bool). x || is_link u.step) all)
    where
      not-not : (x : Bool) → not x ≡ false → x ≡ true
      not-not true h = refl
      not-not false h = absurd (true≢false h)

      linked : IsLinkedSoFar → linked_in a.steps ≡ true
      linked (inl is) = is
      linked (inr wanted) = not-not (linked_in a.steps) (sym (ap (λ (x : Bool). x && not (linked_in a.steps)) wanted) ∙ k.1)

  -- a turn over the port, from what there was before it
  pub record OneTurn (last : Join) : Type 0 where
    pub before : Log
    pub j : Join
    pub reached : Reached numbers plan before j
    pub same : SameTold before a
    pub links : before.links ≡ a.links
    pub joins : JoinsTurn u e a.asked j last
    pub then_asked : asked_then (asked_now e a.asked) j ≡ (log_turn u e a).asked

  one-turn : (b : Log) (last : Join) (k : TurnBack b last) → u.at ≡ 0 → b.links ≡ (log_turn u e a).links → linked_in S.steps ≡ true → Kind u.step A.asked (linked_in a.steps) → OneTurn last
  one-turn b last k first links linked kind = by (tells-so u.step u.bytes k.before.asked k.j k.mid k.rule) kind where
    flag : Bool
    flag = asked_now e a.asked

    is_flag : flag ≡ A.asked
    is_flag = sym (asks-asked e a)

    offers : (links_after u.step k.before.asked k.before.links ≡ S.links) × JoinsOffers os k.mid last
    offers = k.joins linked links

    has_linked : k.j.linked ≡ linked_in a.steps
    has_linked = linked-so b last k

    then_flag : (log_turn u e a).asked ≡ asked_after u.step A.asked
    then_flag = offers-keep (λ (x : Log). x.asked) (λ x w l p. refl) os S

    before_links : LinksAre k.j.linked k.before.links
    before_links = (is-linked numbers plan k.before k.j k.reached).links

    none-links : (xs : List (List ℕ)) (x : Bool) → x ≡ false → LinksAre x xs → xs ≡ []
    none-links xs x none are = subst (λ (y : Bool). LinksAre y xs) none are

    by : TellsLink u.step u.bytes (wants k.before.asked k.j) k.j k.mid ⊎ TellsLater u.step u.bytes (wants k.before.asked k.j) k.j k.mid → Kind u.step A.asked (linked_in a.steps) → OneTurn last
    by (inl t) (inr q) = absurd (no-link u.step t.step_is q.0)
    by (inr t) (inl q) = absurd (no-link u.step q.0 t.later)
    by (inl t) (inl q) =
        let wanted : (flag && not k.j.linked) ≡ true = ap (λ (x : Bool). x && not k.j.linked) (is_flag ∙ q.1) ∙ ap not (has_linked ∙ q.2) in
        let told : comes Linked [] ≡ record { at = u.at; step = u.step; bytes = u.bytes } =
        ap (λ (s : Step). comes s []) (sym t.step_is) ∙ ap (λ (xs : List ℕ). comes u.step xs) (sym t.none) ∙ ap (λ (at : ℕ). record { at = at; step = u.step; bytes = u.bytes }) (sym first) in
        let after : k.mid ≡ after_join_step flag k.j = t.then_so ∙ sym (if-true (flag && not k.j.linked) (roomier (record k.j { linked = true })) (after_later k.j) wanted) in
        record {
          before = k.before;
          j = k.j;
          reached = k.reached;
          same = k.same;
          links = none-links k.before.links k.j.linked (has_linked ∙ q.2) before_links ∙ sym (none-links a.links (linked_in a.steps) q.2 links-are);
          joins = (
            if-true (flag && not k.j.linked) (comes Linked []) (later_step k.j) wanted ∙ told,
            subst (λ (x : Join). JoinsOffers os x last) after offers.1,
          );
          then_asked = if-true (flag && not k.j.linked) false flag wanted ∙ sym (then_flag ∙ ap (λ (s : Step). asked_after s A.asked) q.0);
        }
    by (inr t) (inr q) =
        let unwanted : (flag && not k.j.linked) ≡ false = ap (λ (x : Bool). x && not k.j.linked) is_flag ∙ ap (λ (x : Bool). A.asked && not x) has_linked ∙ q.1 in
        let told : later_step k.j ≡ record { at = u.at; step = u.step; bytes = u.bytes } = t.step_is ∙ ap (λ (at : ℕ). record { at = at; step = u.step; bytes = u.bytes }) (sym first) in
        let after : k.mid ≡ after_join_step flag k.j = t.then_so ∙ sym (if-false (flag && not k.j.linked) (roomier (record k.j { linked = true })) (after_later k.j) unwanted) in
        record {
          before = k.before;
          j = k.j;
          reached = k.reached;
          same = k.same;
          links = sym (links-stay u.step k.before.asked k.before.links t.later) ∙ offers.0 ∙ links-stay u.step A.asked A.links t.later ∙ same-links;
          joins = (
            if-false (flag && not k.j.linked) (comes Linked []) (later_step k.j) unwanted ∙ told,
            subst (λ (x : Join). JoinsOffers os x last) after offers.1,
          );
          then_asked = if-false (flag && not k.j.linked) false flag unwanted ∙ is_flag ∙ sym (then_flag ∙ asked-stays u.step A.asked q.0);
        }

  -- ---- one turn that was told

  -- its moment is 0, and it is counted
  at-first : (last : Join) → Reached numbers plan (log_turn u e a) last → u.at ≡ 0
  at-first last h = sym (turn-moment u e a) ∙ (plain numbers plan (log_turn u e a) last h).moment

  one-more : (log_turn u e a).told ≡ min (a.told + 1) 18446744073709551615
  one-more = offers-keep (λ (x : Log). x.told) (λ x w l p. refl) os S ∙ ap (λ (n : ℕ). min (n + 1) 18446744073709551615) same-told

  steps-keep : (log_turn u e a).steps ≡ S.steps
  steps-keep = offers-keep (λ (x : Log). x.steps) (λ x w l p. refl) os S

  -- a port came to tell this turn: then there is a link, and whatever way a port came to tell as much, the turn is one over it
  pub record Told : Type 0 where
    pub linked : linked_in (log_turn u e a).steps ≡ true
    pub all : (b : Log) (last : Join) → Reached numbers plan b last → SameTold b (log_turn u e a) → b.links ≡ (log_turn u e a).links → OneTurn last

  pub turn-told : (last : Join) → Reached numbers plan (log_turn u e a) last → IsCounted (log_turn u e a).told → (u.step ≡ Tick → u.bytes ≡ []) → IsLinkedSoFar → Told
  turn-told last h fits bare which =
      let first = at-first last h in
      let self : SameTold (log_turn u e a) (log_turn u e a) = record { steps = refl; told = refl; writes = refl } in
      let k = turn-back (log_turn u e a) last h fits first bare self in
      let kind = the-kind (log_turn u e a) last k refl which in
      let linked = steps-link which kind in
      record {
        linked = ap linked_in steps-keep ∙ linked;
        all = λ b other reached same links.
            one-turn b other (turn-back b other reached (subst IsCounted (sym same.told) fits) first bare same) first links linked kind;
      }

-- ---- turns, one after another

module _ (numbers : Configuration) (plan : JoinPlan) where
  -- a port tells these turns of an engine that asked for a link: whatever way it came to tell as much, they are turns over
  -- it, and what is over it then follows them
  pub record Follows (us : List Turn) (e0 e : Engine) (a : Log) : Type 0 where
    pub count : a.told ≡ length us
    pub linked : (linked_in a.steps ≡ true) ⊎ ((log_asks e a).asked ≡ true)
    pub all : (b : Log) (j : Join) → Reached numbers plan b j → SameTold b a → b.links ≡ a.links → (more : List Turn) (last : Join) → JoinsTurns more e a.asked j last
        → JoinsTurns (us ++ more) e0 unasked (join (fresh numbers) plan) last

  -- no turn
  pub follows-none : (e : Engine) → wants_ask e ≡ true → Follows [] e e (untold numbers plan)
  follows-none e wanted =
      record {
        count = refl;
        linked = inr (ap (λ (b : Bool). (if b then log_ask (untold numbers plan) else untold numbers plan).asked) wanted);
        all = λ b j h same links more last joins.
            subst (λ (x : Join). JoinsTurns more e unasked x last) (untold-new numbers plan b j h same.told same.writes) joins;
      }

  -- a turn more
  pub follows-more : (us : List Turn) (u : Turn) (e0 e : Engine) (a : Log) (i last : Join) → Follows us e0 e a → Reached numbers plan a i → Reached numbers plan (log_turn u e a) last → (u.step ≡ Tick → u.bytes ≡ [])
      → length us + 1 < 18446744073709551615 → Follows (us ++ u ∷ []) e0 (turn u e) (log_turn u e a)
  follows-more us u e0 e a i last f has h bare fits =
      let counted : IsCounted a.told = (let k = f.count in omega (arith, k, fits)) in
      let one = one-more numbers plan u e a i has counted in
      let size : (log_turn u e a).told ≡ length us + 1 = (let k = f.count in omega (arith, k, fits, one)) in
      let t = turn-told numbers plan u e a i has counted last h (omega (arith, size, fits)) bare f.linked in
      record {
        count = size ∙ sym (length-append us (u ∷ []));
        linked = inl t.linked;
        all = λ b j reached same links more end joins.
            (let o = t.all b j reached same links in
            let rest : JoinsTurns more (turn u e) (asked_then (asked_now e a.asked) o.j) j end = subst (λ (x : Bool). JoinsTurns more (turn u e) x j end) (sym o.then_asked) joins in
            subst (λ (vs : List Turn). JoinsTurns vs e0 unasked (join (fresh numbers) plan) end) (sym (append_assoc us (u ∷ []) more))
            (f.all o.before o.j o.reached o.same o.links (u ∷ more) end (j, o.joins, rest)));
      }
