-- No turn that is played is cut, and once the session has ended no more are played.
use Rattle.std.proofs.Common.{◌≡◌, ℕ, zero, suc, ◌+◌, if◌then◌else◌, Bool, true, false, List, [], ◌∷◌, length, drop, None, refl, ap, ◌∙◌, subst, arith}
use Rattle.amqp_rules.specs.Talk.{has_ended}
use Rattle.amqp_types.proofs.Small.{if-true}
use Rattle.amqp_auth.specs.declared.asked.Asked.{Asked}
use Rattle.amqp_engine.specs.Plan.{Coming}
use Rattle.amqp_engine.specs.Log.{Log}
use Rattle.amqp_engine.specs.Engine.{Engine}
use Rattle.amqp_engine.specs.Tell.{log_stepped, log_turn}
use Rattle.amqp_engine.specs.Turn.{Turn, asks, read, turn, turns}
use Rattle.amqp_engine.specs.Play.{offers_waiting, told_turn, played_turn_of, played_turn, played_turns, AreAnswered}
use Rattle.amqp_engine.proofs.Playing.{whole-played}

-- memory is not refused
pub played-uncut : (c : Coming) (answers : List Asked) (e : Engine) (a : Log) → (played_turn_of c answers e a).notes.starved ≡ None
played-uncut c answers e a =
    let u = told_turn c answers in
    let p = read u (asks e) in
    whole-played (offers_waiting p.engine) p (log_stepped u e a)

-- ---- once the session has ended

-- no turn is played
played-none : (n : ℕ) (answers : List Asked) (e : Engine) (a : Log) → has_ended e.talk ≡ true → played_turns n answers e a ≡ []
played-none zero answers e a over = refl
played-none (suc n) answers e a over = if-true (has_ended e.talk) [] _ over

-- so more steps are no more turns
pub played-over : (m d : ℕ) (answers : List Asked) (e : Engine) (a : Log) → has_ended (turns (played_turns m answers e a) e).talk ≡ true
    → played_turns (m + d) answers e a ≡ played_turns m answers e a
played-over zero d answers e a over = played-none (0 + d) answers e a over
played-over (suc m) d answers e a over =
    let more : suc m + d ≡ suc (m + d) = omega arith in
    ap (λ n. played_turns n answers e a) more ∙ by (has_ended e.talk) over (λ k. played-over m d left (turn u e) (log_turn u e a) k)
  where
    u : Turn
    u = played_turn answers e a

    left : List Asked
    left = drop (length u.notes.auths) answers

    us : ℕ → List Turn
    us n = played_turns n left (turn u e) (log_turn u e a)

    by : (b : Bool) → has_ended (turns (if b then [] else u ∷ us m) e).talk ≡ true → (has_ended (turns (us m) (turn u e)).talk ≡ true → us (m + d) ≡ us m)
        → (if b then [] else u ∷ us (m + d)) ≡ (if b then [] else u ∷ us m)
    by true k rest = refl
    by false k rest = ap (λ vs. u ∷ vs) (rest k)

-- what is answered in all turns is answered in the first
pub answered-first : (m d : ℕ) (answers : List Asked) (e : Engine) (a : Log) → AreAnswered (played_turns (m + d) answers e a) e → AreAnswered (played_turns m answers e a) e
answered-first zero d answers e a h = tt
answered-first (suc m) d answers e a h =
    let more : suc m + d ≡ suc (m + d) = omega arith in
    let A : ℕ → Type 0 = λ n. AreAnswered (played_turns n answers e a) e in
    by (has_ended e.talk) (subst A more h) (λ k. answered-first m d left (turn u e) (log_turn u e a) k)
  where
    u : Turn
    u = played_turn answers e a

    left : List Asked
    left = drop (length u.notes.auths) answers

    us : ℕ → List Turn
    us n = played_turns n left (turn u e) (log_turn u e a)

    by : (b : Bool) → AreAnswered (if b then [] else u ∷ us (m + d)) e → (AreAnswered (us (m + d)) (turn u e) → AreAnswered (us m) (turn u e))
        → AreAnswered (if b then [] else u ∷ us m) e
    by true k rest = tt
    by false k rest = (k.0, rest k.1)
