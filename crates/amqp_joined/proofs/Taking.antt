-- Turns are taken over a joined port, one after another; and what a run comes to.
use Rattle.std.proofs.Common.{◌≡◌, ◌≢◌, ◌≤◌, ◌<◌, ◌⊎◌, inl, inr, ◌∙◌, ap, sym, refl, subst, ℕ, ◌+◌, ◌==◌, Bool, true, false, true≢false, List, [], ◌∷◌, ◌++◌, length, length-append, append-nil, Option, Some, None, IfSome, is_some, Result, Ok, Err, arith}
use Rattle.std.specs.Option.{option_or}
use Rattle.amqp_types.proofs.Small.{if_case, if-true, some_is, equal-numbers}
use Rattle.amqp_promise.specs.declared.error.ErrorKind.{ErrorKind}
use Rattle.amqp_promise.specs.declared.error.ErrorKind.TheVariants.{NoMemory, OutOfTurns}
use Rattle.amqp_auth.specs.Providers.{Exchange}
use Rattle.amqp_settings.specs.declared.configuration.Configuration.{Configuration}
use Rattle.amqp_rules.specs.Talk.{Talk, has_ended, end_of}
use Rattle.amqp_rules.specs.Answers.{HandsOut}
use Rattle.amqp_rules.specs.Changes.{present_at}
use Rattle.amqp_rules.proofs.Keeping.{starve-ends}
use Rattle.amqp_engine.specs.declared.port.Step.{Step}
use Rattle.amqp_engine.specs.declared.port.Step.TheVariants.{Tick}
use Rattle.amqp_engine.specs.declared.port.Happening.{Happening}
use Rattle.amqp_engine.specs.Plan.{Plan, next_coming}
use Rattle.amqp_engine.specs.Log.{Log, log_ask, log_step}
use Rattle.amqp_engine.specs.Engine.{Engine, begin, starve_at}
use Rattle.amqp_engine.specs.Turn.{Turn, Notes, asks, wants_ask, after_writes, starved_after, turn, turns, talk, IsTurn, IsTold, AreTold, IsFit, AreFit, AreTurns, Leads, exchange_of, exchanges, cut_of}
use Rattle.amqp_engine.specs.Tell.{Offer, offers_of, log_offers, log_asks, log_stepped, log_turn, log_turns, PlaysOffers, PlaysTurn, TellsTurns, MayCome, turn_of}
use Rattle.amqp_engine.specs.Account.{Ran}
use Rattle.amqp_engine.proofs.Over.{turn-is}
use Rattle.amqp_engine.proofs.PlayedOn.{new-wants}
use Rattle.amqp_engine.proofs.Running.{Leads-push, tells-push, told-append, fit-append, uncut as none-cut, exchanged-push}
use Rattle.amqp_double.specs.Doubles.{fresh}
use Rattle.amqp_joining.specs.Plans.{JoinPlan}
use Rattle.amqp_joining.specs.Joining.{join, JoinsTurns, AreFed}
use Rattle.amqp_both_ends.specs.TwoEnds.{TwoEnds, Closes, unasked}
use Rattle.amqp_both_ends.specs.Logins.{SaysLogins}
use Rattle.amqp_both_ends.proofs.Both.{new-runs}
use Rattle.amqp_both_ends.proofs.Logins.{both-logins, says-logins}
use Rattle.amqp_both_ends.proofs.Replaying.{turns-keep}
use Rattle.amqp_joined.specs.Ports.{JoinedState, KeptPlan, kept_plan, joined_new}
use Rattle.amqp_joined.specs.Reached.{Reached, HasCome}
use Rattle.amqp_joined.specs.JoinedRuns.{RunsJoined, AreNewEnds, AreEnough, RunsClosed, TakesJoined, uncut}
use Rattle.amqp_joined.proofs.Reaching.{plain}
use Rattle.amqp_joined.proofs.Backwards.{SameTold}
use Rattle.amqp_joined.proofs.Joins.{turn-moment, Follows, follows-none, follows-more}
use Rattle.amqp_joined.proofs.OneLink.{one-link, linked-turns}
use Rattle.amqp_joined.proofs.Uncut.{TurnsWhole, turns-whole, uncut-told, uncut-fit, uncut-fed, Nothing, uncut-comes}

-- ---- a tick brings nothing

-- what a step brings, but for a tick
abbrev bare_bytes : Step → List ℕ → List ℕ
bare_bytes Tick bytes = []
bare_bytes step bytes = bytes

abbrev bare : Turn → Turn
bare u = turn_of u.at u.step (bare_bytes u.step u.bytes) u.notes

bare-turn : (at : ℕ) (s : Step) (bytes : List ℕ) (notes : Notes) (e : Engine) → IsTurn (turn_of at s bytes notes) e → IsTurn (turn_of at s (bare_bytes s bytes) notes) e
bare-turn at Tick bytes notes e h = record { running = h.running; applied = record { answers = h.applied.answers; asked = h.applied.asked; cut = h.applied.cut } }
bare-turn at s bytes notes e h = h

bare-leaves : (at : ℕ) (s : Step) (bytes : List ℕ) (notes : Notes) (e : Engine) → turn (turn_of at s (bare_bytes s bytes) notes) e ≡ turn (turn_of at s bytes notes) e
bare-leaves at Tick bytes notes e = refl
bare-leaves at s bytes notes e = refl

bare-fit : (at : ℕ) (s : Step) (bytes : List ℕ) (notes : Notes) → IsFit (turn_of at s bytes notes) → IsFit (turn_of at s (bare_bytes s bytes) notes)
bare-fit at Tick bytes notes h = record { step = h.step; bytes = λ i. omega arith; auths = h.auths }
bare-fit at s bytes notes h = h

bare-exchange : (at : ℕ) (s : Step) (bytes : List ℕ) (notes : Notes) (e : Engine) → exchange_of (turn_of at s (bare_bytes s bytes) notes) e ≡ exchange_of (turn_of at s bytes notes) e
bare-exchange at Tick bytes notes e = refl
bare-exchange at s bytes notes e = refl

bare-offers : (at : ℕ) (s : Step) (bytes : List ℕ) (notes : Notes) (e : Engine) → offers_of (turn_of at s (bare_bytes s bytes) notes) e ≡ offers_of (turn_of at s bytes notes) e
bare-offers at Tick bytes notes e = refl
bare-offers at s bytes notes e = refl

is-bare : (s : Step) (bytes : List ℕ) → s ≡ Tick → bare_bytes s bytes ≡ []
is-bare s bytes is = ap (λ (x : Step). bare_bytes x bytes) is

-- one that is told again is told alike
bare-step : (at : ℕ) (s : Step) (bytes : List ℕ) (a : Log) → at ≡ a.moment → log_step at s (bare_bytes s bytes) a ≡ log_step at s bytes a
bare-step at Tick bytes a is =
    let again : (at == a.moment) ≡ true = equal-numbers at a.moment is in
    let other : List ℕ → List Happening = λ xs. a.steps ++ record { before = a.told; at = at; step = Tick; bytes = xs } ∷ [] in
    ap (λ (hs : List Happening). record (log_step at Tick bytes a) { steps = hs }) (if-true (at == a.moment) a.steps (other []) again ∙ sym (if-true (at == a.moment) a.steps (other bytes) again))
bare-step at s bytes a is = refl

bare-log : (u : Turn) (e : Engine) (a : Log) → u.at ≡ (log_asks e a).moment → log_turn (bare u) e a ≡ log_turn u e a
bare-log u e a is =
    ap (λ (os : List Offer). log_offers os (log_stepped (bare u) e a)) (bare-offers u.at u.step u.bytes u.notes (asks e))
    ∙ ap (log_offers (offers_of u (asks e))) (bare-step u.at u.step u.bytes (log_asks e a) is)

bare-plays : (u : Turn) (e : Engine) (a : Log) → u.at ≡ (log_asks e a).moment → (log_asks e a).plan ≡ None → PlaysTurn u e a → PlaysTurn (bare u) e a
bare-plays u e a is none h = (
  subst (λ (p : Option Plan). IfSome p (λ q. next_coming q ≡ record { at = u.at; step = u.step; bytes = bare_bytes u.step u.bytes })) (sym none) tt,
  subst (λ (os : List Offer). PlaysOffers os (log_stepped (bare u) e a)) (sym (bare-offers u.at u.step u.bytes u.notes (asks e)))
      (subst (PlaysOffers (offers_of u (asks e))) (sym (bare-step u.at u.step u.bytes (log_asks e a) is)) h.1),
)

-- ---- one turn of a run

-- a run of one turn of a session that has not ended takes one
record OneTaken (e e' : Engine) (a a' : Log) (now after : Exchange → Type 0) : Type 0 where
  u : Turn
  may : IsTurn u e
  leaves : turn u e ≡ e'
  log : a' ≡ log_turn u e a
  plays : PlaysTurn u e a
  told : IsTold u.step
  fit : IsFit u
  exchanged : MayCome u.notes.starved now after (exchange_of u (asks e))

one-taken : (e e' : Engine) (a a' : Log) (now after : Exchange → Type 0) → has_ended e.talk ≡ false → Ran 1 e e' (Some a) (Some a') now after → OneTaken e e' a a' now after
one-taken e e' a a' now after running r = by r.runs.us r.runs.leads r.runs.tells r.runs.told r.runs.fit r.runs.within r.runs.all r.exchanged where
  or-none : (s : Option ℕ) → option_or s None ≡ s
  or-none None = refl
  or-none (Some j) = refl

  by : (us : List Turn) → Leads us e e' → TellsTurns us e (Some a) (Some a') → AreTold us → AreFit us → length us ≤ 1 → (has_ended e'.talk ≡ false → length us ≡ 1) → MayCome (cut_of us) now after (exchanges us e)
      → OneTaken e e' a a' now after
  by [] leads tells told fit within all come =
      let here : has_ended e'.talk ≡ false = ap (λ (x : Engine). has_ended x.talk) (sym leads.leaves) ∙ running in
      absurd (let none = all here in omega (arith, none))
  by (u ∷ v ∷ us) leads tells told fit within all come = absurd (omega (arith, within))
  by (u ∷ []) leads tells told fit within all come =
      let same : a' ≡ log_turn u e a = (let k : Some a' ≡ Some (log_turn u e a) = tells.told in cc) in
      let x : Exchange = exchange_of u (asks e) in
      record {
        u = u;
        may = leads.may.0;
        leaves = leads.leaves;
        log = same;
        plays = tells.plays.0;
        told = told.0;
        fit = fit.0;
        exchanged = subst (λ (o : Option ℕ). MayCome o now after x) (or-none u.notes.starved) (subst (MayCome (option_or u.notes.starved None) now after) (append-nil x) come);
      }

-- ---- the turns so far

-- these turns were taken over a port, which tells them
pub record Taken (n : ℕ) (e0 e : Engine) (s0 s : JoinedState) (before now : Exchange → Type 0) : Type 0 where
  pub us : List Turn
  pub size : length us ≡ n
  pub told : AreTold us
  pub leads : Leads us e0 e
  pub tells : TellsTurns us e0 (Some s0.log) (Some s.log)
  pub exchanged : MayCome (cut_of us) before now (exchanges us e0)
  pub fit : AreFit us
  pub follows : (numbers : Configuration) (plan : JoinPlan) → s0 ≡ joined_new (fresh numbers) plan → wants_ask e0 ≡ true → n < 18446744073709551615 → Follows numbers plan us e0 e s.log
  pub kept : kept_plan s ≡ kept_plan s0
  pub reached : HasCome s

-- none was
pub taken-none : (e : Engine) (s : JoinedState) (before : Exchange → Type 0) → HasCome s → Taken 0 e e s s before before
taken-none e s before reached =
    record {
      us = [];
      size = refl;
      told = tt;
      leads = record { may = tt; leaves = refl };
      tells = record { told = refl; plays = tt };
      exchanged = λ rest h. h;
      fit = tt;
      follows = λ numbers plan new wanted counted. subst (λ (x : JoinedState). Follows numbers plan [] e e x.log) (sym new) (follows-none numbers plan e wanted);
      kept = refl;
      reached = reached;
    }

-- by its plan and the numbers of its double
reached-by : (k : KeptPlan) (s : JoinedState) → kept_plan s ≡ k → HasCome s → Reached k.numbers k.plan s.log s.join
reached-by k s is h = subst (λ (x : KeptPlan). Reached x.numbers x.plan s.log s.join) is h

-- one more is
pub taken-more : (n : ℕ) (e0 e e' : Engine) (s0 s s' : JoinedState) (before now after : Exchange → Type 0) → Taken n e0 e s0 s before now → has_ended e.talk ≡ false
    → Ran 1 e e' (Some s.log) (Some s'.log) now after → kept_plan s' ≡ kept_plan s → HasCome s' → Taken (n + 1) e0 e' s0 s' before after
taken-more n e0 e e' s0 s s' before now after t running ran kept reached =
    record {
      us = t.us ++ v ∷ [];
      size = omega (arith, length-append t.us (v ∷ []), t.size);
      told = told-append t.us (v ∷ []) t.told (o.told, tt);
      leads = Leads-push t.us v e0 e e' t.leads may leaves;
      tells = tells-push t.us v e0 e (Some s0.log) (Some s.log) (Some s'.log) t.leads.leaves t.tells (record { told = ap Some log; plays = plays });
      exchanged = exchanged-push t.us v e0 before now after (none-cut t.us e0 t.leads.may still) t.exchanged (subst E (sym t.leads.leaves) come);
      fit = fit-append t.us (v ∷ []) t.fit (bare-fit o.u.at o.u.step o.u.bytes o.u.notes o.fit, tt);
      follows = follows;
      kept = kept ∙ t.kept;
      reached = reached;
    }
  where
    o : OneTaken e e' s.log s'.log now after
    o = one-taken e e' s.log s'.log now after running ran

    v : Turn
    v = bare o.u

    still : has_ended (turns t.us e0).talk ≡ false
    still = ap (λ (x : Engine). has_ended x.talk) t.leads.leaves ∙ running

    may : IsTurn v e
    may = bare-turn o.u.at o.u.step o.u.bytes o.u.notes e o.may

    leaves : turn v e ≡ e'
    leaves = bare-leaves o.u.at o.u.step o.u.bytes o.u.notes e ∙ o.leaves

    -- all moments are 0
    asked_moment : (log_asks e s.log).moment ≡ 0
    asked_moment = if_case (λ (x : Log). x.moment ≡ 0) (wants_ask e) (log_ask s.log) s.log zero zero where
      zero : s.log.moment ≡ 0
      zero = (plain s.join.double.numbers s.join.plan s.log s.join t.reached).moment

    asked_plan : (log_asks e s.log).plan ≡ None
    asked_plan = if_case (λ (x : Log). x.plan ≡ None) (wants_ask e) (log_ask s.log) s.log none none where
      none : s.log.plan ≡ None
      none = (plain s.join.double.numbers s.join.plan s.log s.join t.reached).plan

    now_moment : s'.log.moment ≡ 0
    now_moment = (plain s'.join.double.numbers s'.join.plan s'.log s'.join reached).moment

    at : o.u.at ≡ (log_asks e s.log).moment
    at = sym (turn-moment o.u e s.log) ∙ ap (λ (x : Log). x.moment) (sym o.log) ∙ now_moment ∙ sym asked_moment

    log : s'.log ≡ log_turn v e s.log
    log = o.log ∙ sym (bare-log o.u e s.log at)

    plays : PlaysTurn v e s.log
    plays = bare-plays o.u e s.log at asked_plan o.plays

    E : Engine → Type 0
    E x = MayCome v.notes.starved now after (exchange_of v (asks x))

    come : E e
    come = subst (MayCome o.u.notes.starved now after) (sym (bare-exchange o.u.at o.u.step o.u.bytes o.u.notes (asks e))) o.exchanged

    follows : (numbers : Configuration) (plan : JoinPlan) → s0 ≡ joined_new (fresh numbers) plan → wants_ask e0 ≡ true → n + 1 < 18446744073709551615 → Follows numbers plan (t.us ++ v ∷ []) e0 e' s'.log
    follows numbers plan new wanted counted =
        let k : KeptPlan = record { plan = plan; numbers = numbers } in
        let f = t.follows numbers plan new wanted (omega (arith, counted)) in
        let made : kept_plan s0 ≡ k = ap kept_plan new in
        let has : Reached numbers plan s.log s.join = reached-by k s (t.kept ∙ made) t.reached in
        let next : Reached numbers plan s'.log s'.join = reached-by k s' (kept ∙ t.kept ∙ made) reached in
        let more = follows-more numbers plan t.us v e0 e s.log s.join s'.join f has (subst (λ (x : Log). Reached numbers plan x s'.join) log next) (is-bare o.u.step o.u.bytes) (omega (arith, counted, t.size)) in
        subst (λ (x : Engine). Follows numbers plan (t.us ++ v ∷ []) e0 x s'.log) leaves (subst (λ (x : Log). Follows numbers plan (t.us ++ v ∷ []) e0 (turn v e) x) (sym log) more)

-- ---- a run

pub runs-lent : (n allowed : ℕ) (e0 e : Engine) (s0 s : JoinedState) (before now : Exchange → Type 0) → (t : Taken n e0 e s0 s before now) → n ≤ allowed → (has_ended e.talk ≡ false → n ≡ allowed)
    → TakesJoined allowed e0 e s0 s before now
runs-lent n allowed e0 e s0 s before now t within all =
    record {
      lent = record {
        runs = record { us = t.us; leads = t.leads; tells = t.tells; told = t.told; fit = t.fit; within = omega (arith, t.size, within); all = λ on. (let k = all on in omega (arith, t.size, k)) };
        exchanged = t.exchanged;
      };
      joins = λ numbers plan new wanted counted.
          (let f = t.follows numbers plan new wanted (omega (arith, counted, within)) in
          let k : KeptPlan = record { plan = plan; numbers = numbers } in
          let has : Reached numbers plan s.log s.join = reached-by k s (t.kept ∙ ap kept_plan new) t.reached in
          let same : SameTold s.log s.log = record { steps = refl; told = refl; writes = refl } in
          subst (λ (x : JoinedState). JoinsTurns t.us e0 unasked x.join s.join) (sym new)
          (subst (λ (vs : List Turn). JoinsTurns vs e0 unasked (join (fresh numbers) plan) s.join) (append-nil t.us) (f.all s.log s.join has same refl [] s.join refl)));
    }

-- over a new port each is a turn by its plan, and there is one link
abbrev pub runs-joined : (allowed : ℕ) (e0 e : Engine) (s0 s : JoinedState) (before now : Exchange → Type 0) → TakesJoined allowed e0 e s0 s before now → (numbers : Configuration) (plan : JoinPlan) → s0 ≡ joined_new (fresh numbers) plan
    → wants_ask e0 ≡ true → allowed < 18446744073709551615 → RunsJoined allowed e0 e s0 s
runs-joined allowed e0 e s0 s before now t numbers plan new wanted counted =
    let us = t.lent.runs.us in
    let joins = t.joins numbers plan new wanted counted in
    let told : s.log ≡ log_turns us e0 s0.log = some_is s.log (log_turns us e0 s0.log) t.lent.runs.tells.told in
    record {
      runs = t.lent.runs;
      joins = joins;
      links =
          ap (λ (a : Log). a.links) told ∙ ap (λ (x : JoinedState). (log_turns us e0 x.log).links) new
          ∙ one-link numbers plan us e0 s.join wanted (subst (λ (x : JoinedState). JoinsTurns us e0 unasked x.join s.join) new joins);
    }

-- ---- whether memory was refused

-- in none of these turns, where it was not in the end
fed-so : (us : List Turn) (e : Engine) → AreTurns us e → (turns us e).starved ≡ None → AreFed us
fed-so [] e may none = tt
fed-so (u ∷ us) e may none = by u.notes.starved refl (λ h. fed-so us (turn u e) may.1 h) where
  after : Engine
  after = (after_writes u (asks e)).engine

  is : turn u e ≡ starved_after u.notes.starved u.at after
  is = turn-is u e may.0.running

  by : (o : Option ℕ) → u.notes.starved ≡ o → ((turns us (turn u e)).starved ≡ None → AreFed us) → AreFed (u ∷ us)
  by None fed rest = (fed, rest none)
  by (Some j) cut rest =
      let here : turn u e ≡ starve_at u.at j after = is ∙ ap (λ (s : Option ℕ). starved_after s u.at after) cut in
      absurd (last us (subst (AreTurns us) here may.1) (subst (λ (x : Engine). (turns us x).starved ≡ None) here none))
    where
      last : (vs : List Turn) → AreTurns vs (starve_at u.at j after) → (turns vs (starve_at u.at j after)).starved ≡ None → ⊥
      last [] may none = let k : Some j ≡ None = none in cc
      last (v ∷ vs) may none = true≢false (sym (starve-ends (present_at u.at after.talk)) ∙ may.0.running)

fed-uncut : (us : List Turn) → cut_of us ≡ None → AreFed us
fed-uncut [] none = tt
fed-uncut (u ∷ us) none = by u.notes.starved refl (λ h. fed-uncut us h) where
  by : (o : Option ℕ) → u.notes.starved ≡ o → (cut_of us ≡ None → AreFed us) → AreFed (u ∷ us)
  by None fed rest = (fed, rest (sym (ap (λ (o : Option ℕ). option_or o (cut_of us)) fed) ∙ none))
  by (Some j) cut rest = absurd (let k : Some j ≡ None = sym (ap (λ (o : Option ℕ). option_or o (cut_of us)) cut) ∙ none in cc)

-- ---- both ends

module _ (allowed : ℕ) (e0 e : Engine) (s0 s : JoinedState) (before now : Exchange → Type 0) (x : Talk) (numbers : Configuration) (plan : JoinPlan) (new : AreNewEnds x numbers plan e0 s0)
    (enough : AreEnough allowed plan) (t : TakesJoined allowed (begin x) e s0 s before now) where
  abbrev us : List Turn
  us = t.lent.runs.us

  leaves : turns us (begin x) ≡ e
  leaves = t.lent.runs.leads.leaves

  abbrev joined : RunsJoined allowed (begin x) e s0 s
  joined = runs-joined allowed (begin x) e s0 s before now t numbers plan new.joined (new-wants x new.session) enough.counted

  -- where memory was refused in none of the turns, both ends are closed
  closed : AreFed us → SaysLogins x.config.options before → Closes x us s.join
  closed fed says = by (has_ended (talk x us)) refl where
    joins : JoinsTurns us (begin x) unasked (join (fresh numbers) plan) s.join
    joins = subst (λ (y : JoinedState). JoinsTurns us (begin x) unasked y.join s.join) new.joined (t.joins numbers plan new.joined (new-wants x new.session) enough.counted)

    two : TwoEnds x plan us s.join
    two =
        both-logins x numbers plan us s.join new.session new.address new.is_plan new.range new.frame_max t.lent.runs.leads.may t.lent.runs.told t.lent.runs.fit fed joins
        (says-logins x.config.options before now us (begin x) says t.lent.runs.leads.may fed t.lent.exchanged)

    by : (b : Bool) → has_ended (talk x us) ≡ b → Closes x us s.join
    by true ended = two.closes ended
    by false running =
        let on : has_ended e.talk ≡ false = ap (λ (y : Engine). has_ended y.talk) (sym leaves) ∙ running in
        let few = two.goes running (omega (arith, enough.enough, enough.counted)) in
        let many = t.lent.runs.all on in
        absurd (omega (arith, few, many, enough.enough))

  -- it ended without an error
  ends-fed : e.starved ≡ None → SaysLogins x.config.options before → end_of e.talk ≡ Some (Ok tt)
  ends-fed fed says =
      ap (λ (y : Engine). end_of y.talk) (sym leaves) ∙ (closed (fed-so us (begin x) t.lent.runs.leads.may (ap (λ (y : Engine). y.starved) leaves ∙ fed)) says).over

  -- and where it did, both ends are closed, whether memory was refused then or not
  closed-ends : end_of e.talk ≡ Some (Ok tt) → SaysLogins x.config.options before → RunsClosed allowed x e s0 s
  closed-ends over says =
      record { joined = joined; over = over; closes = two.closes w.over; sent = w.sends []; link = joined.links ∙ if-true s.join.linked (s.join.taken ∷ []) [] (on us refl) }
    where
      joins : JoinsTurns us (begin x) unasked (join (fresh numbers) plan) s.join
      joins = subst (λ (y : JoinedState). JoinsTurns us (begin x) unasked y.join s.join) new.joined (t.joins numbers plan new.joined (new-wants x new.session) enough.counted)

      w : TurnsWhole us (begin x)
      w = turns-whole us (begin x) t.lent.runs.leads.may (ap (λ (y : Engine). end_of y.talk) leaves ∙ over)

      two : TwoEnds x plan (uncut us) s.join
      two =
          both-logins x numbers plan (uncut us) s.join new.session new.address new.is_plan new.range new.frame_max w.may (uncut-told us t.lent.runs.told) (uncut-fit us t.lent.runs.fit) (uncut-fed us)
          (w.joins unasked (join (fresh numbers) plan) s.join joins)
          (says-logins x.config.options before Nothing (uncut us) (begin x) says w.may (uncut-fed us) (uncut-comes us (begin x) before now w.exchanged t.lent.exchanged))

      -- there was a turn, which was that of the link
      on : (vs : List Turn) → us ≡ vs → s.join.linked ≡ true
      on [] none =
          absurd (true≢false (sym (ap is_some (ap (λ (y : Engine). end_of y.talk) leaves ∙ over)) ∙ ap (λ (vs : List Turn). has_ended (talk x vs)) none ∙ new-runs x new.session))
      on (u ∷ vs) some =
          (linked-turns numbers plan u vs (begin x) s.join (new-wants x new.session) (subst (λ (ws : List Turn). JoinsTurns ws (begin x) unasked (join (fresh numbers) plan) s.join) some joins)).1

  -- where it was refused in one of them, the session has ended
  refused-ends : e.starved ≢ None → has_ended e.talk ≡ true
  refused-ends refused = by (has_ended e.talk) refl where
    by : (b : Bool) → has_ended e.talk ≡ b → b ≡ true
    by true is = refl
    by false on =
        let none = none-cut us (begin x) t.lent.runs.leads.may (ap (λ (y : Engine). has_ended y.talk) leaves ∙ on) in
        absurd (refused (ap (λ (y : Engine). y.starved) (sym leaves) ∙ turns-keep us (begin x) t.lent.runs.leads.may (fed-uncut us none)))

module _ (allowed : ℕ) (e0 e : Engine) (s0 s : JoinedState) (before now : Exchange → Type 0) (t : TakesJoined allowed e0 e s0 s before now) (x : Talk) (numbers : Configuration) (plan : JoinPlan)
    (new : AreNewEnds x numbers plan e0 s0) (enough : AreEnough allowed plan) where
  at-begin : TakesJoined allowed (begin x) e s0 s before now
  at-begin = subst (λ (y : Engine). TakesJoined allowed y e s0 s before now) new.engine t

  ended-fed : e.starved ≡ None → SaysLogins x.config.options before → end_of e.talk ≡ Some (Ok tt)
  ended-fed = ends-fed allowed e0 e s0 s before now x numbers plan new enough at-begin

  ended-closed : end_of e.talk ≡ Some (Ok tt) → SaysLogins x.config.options before → RunsClosed allowed x e s0 s
  ended-closed = closed-ends allowed e0 e s0 s before now x numbers plan new enough at-begin

  ended-refused : e.starved ≢ None → has_ended e.talk ≡ true
  ended-refused = refused-ends allowed e0 e s0 s before now x numbers plan new enough at-begin

  -- what is answered then
  module _ (result : Result (Unit {0}) ErrorKind) (ended : IfSome (end_of e.talk) (λ end. HandsOut (Some end) (Some result))) (says : SaysLogins x.config.options before) where
    handed : (o : Option (Result (Unit {0}) ErrorKind)) → o ≡ Some (Ok tt) → IfSome o (λ end. HandsOut (Some end) (Some result)) → result ≡ Ok tt
    handed o is h = some_is result (Ok tt) (subst (λ (y : Option (Result (Unit {0}) ErrorKind)). IfSome y (λ end. HandsOut (Some end) (Some result))) is h)

    pub answers-closed : (has_ended e.talk ≡ false → result ≡ Err OutOfTurns) → result ≡ Ok tt → RunsClosed allowed x e s0 s
    answers-closed runs_on ok = ended-closed (by (end_of e.talk) refl ended) says where
      by : (o : Option (Result (Unit {0}) ErrorKind)) → end_of e.talk ≡ o → IfSome o (λ end. HandsOut (Some end) (Some result)) → end_of e.talk ≡ Some (Ok tt)
      by None is h = absurd (let bad : Ok tt ≡ Err OutOfTurns = sym ok ∙ runs_on (ap is_some is) in cc)
      by (Some (Ok y)) is h = is
      by (Some (Err k)) is (inl h) = absurd (let bad : Ok tt ≡ Err k = sym ok ∙ some_is result (Err k) h in cc)
      by (Some (Err k)) is (inr h) = absurd (let bad : Ok tt ≡ Err NoMemory = sym ok ∙ some_is result (Err NoMemory) h in cc)

    pub answers-ends : (e.starved ≢ None → has_ended e.talk ≡ true → (result ≡ Ok tt) ⊎ (result ≡ Err NoMemory)) → (result ≡ Ok tt) ⊎ ((result ≡ Err NoMemory) × (e.starved ≢ None))
    answers-ends refused = by e.starved refl where
      by : (o : Option ℕ) → e.starved ≡ o → (result ≡ Ok tt) ⊎ ((result ≡ Err NoMemory) × (e.starved ≢ None))
      by None fed = inl (handed (end_of e.talk) (ended-fed fed says) ended)
      by (Some j) is = answer (refused cut (ended-refused cut)) where
        cut : e.starved ≢ None
        cut none = let bad : Some j ≡ None = sym is ∙ none in cc

        answer : (result ≡ Ok tt) ⊎ (result ≡ Err NoMemory) → (result ≡ Ok tt) ⊎ ((result ≡ Err NoMemory) × (e.starved ≢ None))
        answer (inl ok) = inl ok
        answer (inr err) = inr (err, cut)
