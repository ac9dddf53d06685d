-- Turns one after another.
use Rattle.std.proofs.Common.{◌≡◌, ◌≤◌, ℕ, ◌+◌, false, true, List, [], ◌∷◌, ◌++◌, length, take, drop, Option, Some, None, IfSome, option_map, true≢false, refl, ap, sym, ◌∙◌, subst, arith, append_assoc, append-nil, length-append}
use Rattle.std.proofs.lemmas.Grind.{common_steps}
use Rattle.std.specs.Option.{option_or}
use Rattle.amqp_auth.specs.Providers.{Exchange, Allows}
use Rattle.std.specs.List.{AllByRecursion}
use Rattle.amqp_types.specs.Forms.{IsOctets}
use Rattle.amqp_written_rules.specs.Sayable.{CanBeAnswered}
use Rattle.amqp_rules.specs.Changes.{starve, present_at}
use Rattle.amqp_rules.specs.Talk.{has_ended}
use Rattle.amqp_engine.specs.declared.port.Step.{Step}
use Rattle.amqp_engine.specs.Log.{Log, log_step, PlansStep}
use Rattle.amqp_engine.specs.Engine.{Engine, starve_at}
use Rattle.amqp_engine.specs.Turn.{Turn, Notes, StepCanBeTold, IsFit, asks, after_writes, starved_after, turn, turns, IsTurn, IsTold, AreTurns, AreTold, AreFit, exchange_of, exchanges, cut_of, Leads}
use Rattle.amqp_engine.specs.Tell.{Tells, turn_of, log_asks, log_offers, log_turn, log_turns, offers_of, PlaysOffers, PlaysTurn, PlaysTurns, TellsOffers, TellsTurn, TellsTurns, MayCome, AppliesNoted, AppliesLent, TakesTurnLent, Runs}
use Rattle.amqp_rules.proofs.Keeping.{starve-ends}
use Rattle.amqp_engine.proofs.Over.{turn-is}
use Rattle.amqp_engine.proofs.Telling.{tells-then, tells-as, tells-freely}

-- turns after turns
pub turns-append : (us vs : List Turn) (e : Engine) → turns (us ++ vs) e ≡ turns vs (turns us e)
turns-append [] vs e = refl
turns-append (u ∷ us) vs e = turns-append us vs (turn u e)

are-append : (us vs : List Turn) (e : Engine) → AreTurns us e → AreTurns vs (turns us e) → AreTurns (us ++ vs) e
are-append [] vs e h k = k
are-append (u ∷ us) vs e h k = (h.0, are-append us vs (turn u e) h.1 k)

pub Leads-append : (us vs : List Turn) (a b c : Engine) → Leads us a b → Leads vs b c → Leads (us ++ vs) a c
Leads-append us vs a b c l m =
    let P : Engine → Type 0 = λ x. AreTurns vs x in
    record {
      may = are-append us vs a l.may (subst P (sym l.leaves) m.may);
      leaves = turns-append us vs a ∙ ap (turns vs) l.leaves ∙ m.leaves;
    }

log-append : (us vs : List Turn) (e : Engine) (a : Log) → log_turns (us ++ vs) e a ≡ log_turns vs (turns us e) (log_turns us e a)
log-append [] vs e a = refl
log-append (u ∷ us) vs e a = log-append us vs (turn u e) (log_turn u e a)

plays-append : (us vs : List Turn) (e : Engine) (a : Log) → PlaysTurns us e a → PlaysTurns vs (turns us e) (log_turns us e a)
    → PlaysTurns (us ++ vs) e a
plays-append [] vs e a h k = k
plays-append (u ∷ us) vs e a h k = (h.0, plays-append us vs (turn u e) (log_turn u e a) h.1 k)

tells-append : (us vs : List Turn) (e b : Engine) (log mid last : Option Log) → turns us e ≡ b
    → TellsTurns us e log mid → TellsTurns vs b mid last → TellsTurns (us ++ vs) e log last
tells-append us vs e b log mid last h t s =
    let P : Engine → Type 0 = λ x. TellsTurns vs x mid last in
    let f = turns us e in
    tells-as (λ a. log_turns vs f (log_turns us e a)) (log_turns (us ++ vs) e)
    (λ a. PlaysTurns us e a × PlaysTurns vs f (log_turns us e a)) (PlaysTurns (us ++ vs) e) log last
    (λ a. sym (log-append us vs e a)) (λ a p. plays-append us vs e a p.0 p.1)
    (tells-then (log_turns us e) (log_turns vs f) (PlaysTurns us e) (PlaysTurns vs f) log mid last t (subst P (sym h) s))

-- one turn alone
tells-single : (u : Turn) (e : Engine) (x y : Option Log) → TellsTurn u e x y → TellsTurns (u ∷ []) e x y
tells-single u e x y t = tells-as (log_turn u e) (log_turns (u ∷ []) e) (PlaysTurn u e) (PlaysTurns (u ∷ []) e) x y (λ a. refl) (λ a p. (p, tt)) t

-- one turn more at the end
pub Leads-push : (us : List Turn) (u : Turn) (a b c : Engine) → Leads us a b → IsTurn u b → turn u b ≡ c → Leads (us ++ u ∷ []) a c
Leads-push us u a b c l may leaves = Leads-append us (u ∷ []) a b c l (record { may = (may, tt); leaves = leaves })

pub tells-push : (us : List Turn) (u : Turn) (e b : Engine) (log mid last : Option Log) → turns us e ≡ b
    → TellsTurns us e log mid → TellsTurn u b mid last → TellsTurns (us ++ u ∷ []) e log last
tells-push us u e b log mid last h t l = tells-append us (u ∷ []) e b log mid last h t (tells-single u b mid last l)

-- their steps are told
pub told-append : (us vs : List Turn) → AreTold us → AreTold vs → AreTold (us ++ vs)
told-append [] vs h k = k
told-append (u ∷ us) vs h k = (h.0, told-append us vs h.1 k)

-- and bring what their types can hold
pub fit-append : (us vs : List Turn) → AreFit us → AreFit vs → AreFit (us ++ vs)
fit-append [] vs h k = k
fit-append (u ∷ us) vs h k = (h.0, fit-append us vs h.1 k)

-- a run after one that took all its turns goes on
pub Runs-append : (m n : ℕ) (a b c : Engine) (x y z : Option Log) → Runs m a b x y → has_ended b.talk ≡ false → Runs n b c y z → Runs (m + n) a c x z
Runs-append m n a b c x y z r running s =
    record {
      us = r.us ++ s.us;
      leads = Leads-append r.us s.us a b c r.leads s.leads;
      tells = tells-append r.us s.us a b x y z r.leads.leaves r.tells s.tells;
      told = told-append r.us s.us r.told s.told;
      fit = fit-append r.us s.us r.fit s.fit;
      within = omega (arith, length-append r.us s.us, r.within, s.within);
      all = λ h. omega (arith, length-append r.us s.us, r.all running, s.all h);
    }

-- a run that takes no turn touches nothing
told-none : (log : Option Log) (e : Engine) → option_map (log_turns [] e) log ≡ log
told-none None e = refl
told-none (Some a) e = refl

untouched : (us : List Turn) (e e' : Engine) (log log' : Option Log) → us ≡ [] → Leads us e e' → TellsTurns us e log log' → (e' ≡ e) × (log' ≡ log)
untouched us e e' log log' none leads tells =
    (sym leads.leaves ∙ ap (λ vs. turns vs e) none, tells.told ∙ ap (λ vs. option_map (log_turns vs e) log) none ∙ told-none log e)

no-turns : (us : List Turn) → length us ≤ 0 → us ≡ []
no-turns [] h = refl
no-turns (u ∷ us) h = absurd (omega arith)

over-turns : (us : List Turn) (e : Engine) → has_ended e.talk ≡ true → AreTurns us e → us ≡ []
over-turns [] e over may = refl
over-turns (u ∷ us) e over may =
    let running : has_ended e.talk ≡ false = may.0.running in
    cc

pub Runs-none : (e e' : Engine) (log log' : Option Log) → Runs 0 e e' log log' → (e' ≡ e) × (log' ≡ log)
Runs-none e e' log log' r = untouched r.us e e' log log' (no-turns r.us r.within) r.leads r.tells

pub Runs-over : (n : ℕ) (e e' : Engine) (log log' : Option Log) → has_ended e.talk ≡ true → Runs n e e' log log' → (e' ≡ e) × (log' ≡ log)
Runs-over n e e' log log' over r = untouched r.us e e' log log' (over-turns r.us e over r.leads.may) r.leads r.tells

-- a turn is told: its asking, its step and its offers
tells-turn : (u : Turn) (e : Engine) (log asked stepped last : Option Log) → asked ≡ option_map (log_asks e) log
    → stepped ≡ option_map (log_step u.at u.step u.bytes) asked → IfSome asked (PlansStep u.at u.step u.bytes)
    → TellsOffers (offers_of u (asks e)) stepped last → TellsTurn u e log last
tells-turn u e log asked stepped last ha hs plays t =
    let os = offers_of u (asks e) in
    let P : Log → Type 0 = PlansStep u.at u.step u.bytes in
    let step : Tells (log_step u.at u.step u.bytes) P asked stepped = record { told = hs; plays = plays } in
    let later = tells-then (log_step u.at u.step u.bytes) (log_offers os) P (PlaysOffers os) asked stepped last step t in
    let whole = tells-then (log_asks e) (λ a. log_offers os (log_step u.at u.step u.bytes a)) (λ a. Unit {0})
    (λ a. P a × PlaysOffers os (log_step u.at u.step u.bytes a)) log asked last (tells-freely (log_asks e) log asked ha) later in
    tells-as _ (log_turn u e) _ (PlaysTurn u e) log last (λ a. refl) (λ a p. p.1) whole

-- a turn brings what its types can hold
pub fit-of : (at : ℕ) (step : Step) (bytes : List ℕ) (notes : Notes) → StepCanBeTold step → IsOctets bytes → AllByRecursion CanBeAnswered notes.auths
    → IsFit (turn_of at step bytes notes)
fit-of at step bytes notes can octets answered = record { step = can; bytes = octets; auths = answered }

-- a turn from its asking, its step and what is applied
pub turns-of : (e e1 e' : Engine) (log asked stepped last : Option Log) (at : ℕ) (step : Step) (bytes bytes' : List ℕ) (notes : Notes) (before after : Exchange → Type 0)
    → has_ended e.talk ≡ false → e1 ≡ asks e → asked ≡ option_map (log_asks e) log → stepped ≡ option_map (log_step at step bytes) asked
    → bytes' ≡ bytes → IfSome asked (PlansStep at step bytes) → IsTold step → AppliesNoted at step bytes' notes e1 e' stepped last before after → TakesTurnLent e e' log last before after
turns-of e e1 e' log asked stepped last at step bytes bytes' notes before after running he ha hs hb plays told applies =
    let A : List ℕ → Type 0 = λ x. AppliesNoted at step x notes e1 e' stepped last before after in
    let B : Engine → Type 0 = λ x. AppliesNoted at step bytes notes x e' stepped last before after in
    let f = subst B he (subst A hb applies) in
    record {
      takes = record {
        u = turn_of at step bytes notes;
        may = record { running = running; applied = f.applies.may };
        told = told;
        fit = f.fit;
        leaves = f.applies.leaves;
        tells = tells-turn (turn_of at step bytes notes) e log asked stepped last ha hs plays f.applies.tells;
      };
      exchanged = f.exchanged;
    }

-- ---- what was asked

exchanges-append : (us : List Turn) (u : Turn) (e : Engine) → exchanges (us ++ u ∷ []) e ≡ exchanges us e ++ exchange_of u (asks (turns us e))
exchanges-append [] u e = append-nil (exchange_of u (asks e))
exchanges-append (v ∷ us) u e =
    ap (λ (x : Exchange). exchange_of v (asks e) ++ x) (exchanges-append us u (turn v e))
    ∙ sym (append_assoc (exchange_of v (asks e)) (exchanges us (turn v e)) (exchange_of u (asks (turns us (turn v e)))))

cut-append : (us : List Turn) (u : Turn) → cut_of us ≡ None → cut_of (us ++ u ∷ []) ≡ u.notes.starved
cut-append [] u none = or-none u.notes.starved
  where
    or-none : (s : Option ℕ) → option_or s None ≡ s
    or-none None = refl
    or-none (Some j) = refl
cut-append (v ∷ us) u none = by v.notes.starved none (cut-append us u)
  where
    by : (s : Option ℕ) → option_or s (cut_of us) ≡ None → (cut_of us ≡ None → cut_of (us ++ u ∷ []) ≡ u.notes.starved)
        → option_or s (cut_of (us ++ u ∷ [])) ≡ u.notes.starved
    by None h rest = rest h
    by (Some j) h rest = cc

-- while a session goes on, no turn of it was cut
pub uncut : (us : List Turn) (e : Engine) → AreTurns us e → has_ended (turns us e).talk ≡ false → cut_of us ≡ None
uncut [] e may running = refl
uncut (u ∷ us) e may running =
    let E : Engine → Type 0 = λ x. AreTurns us x in
    let R : Engine → Type 0 = λ x. has_ended (turns us x).talk ≡ false in
    let is = turn-is u e may.0.running in
    by u.notes.starved (subst E is may.1) (subst R is running) (uncut us (turn u e) may.1 running)
  where
    after : Engine
    after = (after_writes u (asks e)).engine

    by : (s : Option ℕ) → AreTurns us (starved_after s u.at after) → has_ended (turns us (starved_after s u.at after)).talk ≡ false → cut_of us ≡ None
        → option_or s (cut_of us) ≡ None
    by None may on rest = rest
    by (Some j) may on rest = absurd (stays us may on)
      where
        over : has_ended (starve (present_at u.at after.talk)) ≡ true
        over = starve-ends (present_at u.at after.talk)

        stays : (us : List Turn) → AreTurns us (starve_at u.at j after) → has_ended (turns us (starve_at u.at j after)).talk ≡ false → ⊥
        stays [] may on = true≢false (sym over ∙ on)
        stays (v ∷ vs) may on = true≢false (sym over ∙ may.0.running)

-- what may come first and then
may-then : (s : Option ℕ) (before between after : Exchange → Type 0) (x y : Exchange) → MayCome None before between x → MayCome s between after y → MayCome s before after (x ++ y)
may-then None before between after x y a b = λ rest h. subst (Allows before) (sym (append_assoc x y rest)) (a (y ++ rest) (b rest h))
may-then (Some j) before between after x y a b = a y b

-- one turn more was asked this
pub exchanged-push : (us : List Turn) (u : Turn) (e : Engine) (before between after : Exchange → Type 0) → cut_of us ≡ None
    → MayCome (cut_of us) before between (exchanges us e) → MayCome u.notes.starved between after (exchange_of u (asks (turns us e)))
    → MayCome (cut_of (us ++ u ∷ [])) before after (exchanges (us ++ u ∷ []) e)
exchanged-push us u e before between after none a b =
    let C : Option ℕ → Type 0 = λ s. MayCome s before after (exchanges (us ++ u ∷ []) e) in
    let X : Exchange → Type 0 = λ x. MayCome u.notes.starved before after x in
    let first : MayCome None before between (exchanges us e) = subst (λ s. MayCome s before between (exchanges us e)) none a in
    subst C (sym (cut-append us u none)) (subst X (sym (exchanges-append us u e)) (may-then u.notes.starved before between after _ _ first b))

-- what stands in a vector after its slice was written
pub take-written : (new old : List ℕ) (len n m : ℕ) → length new ≡ length old → len ≡ length old → n ≡ m
    → take n (take len (new ++ drop (length new) old)) ≡ take m new
take-written new old len n m h1 h2 h3 =
    let none : drop (length new) old ≡ [] = grind (arith, common_steps) in
    let all : take len (new ++ drop (length new) old) ≡ new = grind (arith, common_steps) in
    ap (take n) all ∙ ap (λ k. take k new) h3

-- and how long it is
pub length-written : (new old : List ℕ) (len : ℕ) → length new ≡ length old → len ≡ length old
    → length (take len (new ++ drop (length new) old)) ≡ length old
length-written new old len h1 h2 =
    let none : drop (length new) old ≡ [] = grind (arith, common_steps) in
    let all : take len (new ++ drop (length new) old) ≡ new = grind (arith, common_steps) in
    ap length all ∙ h1
