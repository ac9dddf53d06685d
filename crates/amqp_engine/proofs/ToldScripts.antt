-- The steps of a script whose commands are told are told, and what it says is legal.
use Rattle.std.proofs.Common.{◌≡◌, ℕ, zero, suc, Bool, List, [], ◌∷◌, length, drop, Option, Some, None, IfSome, refl, sym, subst}
use Rattle.std.specs.Prelude.{option_map}
use Rattle.std.specs.List.{AllByRecursion}
use Rattle.amqp_auth.specs.declared.asked.Asked.{Asked}
use Rattle.amqp_rules.specs.Talk.{Talk, has_ended}
use Rattle.amqp_types.proofs.Small.{if_case}
use Rattle.amqp_engine.specs.declared.given.Given.{Given}
use Rattle.amqp_engine.specs.declared.port.Wrote.{Wrote}
use Rattle.amqp_engine.specs.declared.port.Wrote.TheVariants.{Took, Failed, NoMemory}
use Rattle.amqp_engine.specs.Plan.{Plan, plan_from, plan_step, plan_write, plan_failure, coming_from}
use Rattle.amqp_engine.specs.Log.{Log, loaded, log_ask, log_write}
use Rattle.amqp_engine.specs.Engine.{Engine, begin}
use Rattle.amqp_engine.specs.Turn.{Turn, IsTold, AreTold, asks, wants_ask, turn}
use Rattle.amqp_engine.specs.Tell.{Offer, offers_of, log_asks, log_stepped, log_offers, log_turn}
use Rattle.amqp_engine.specs.Sending.{sendings_from}
use Rattle.amqp_engine.specs.Play.{played_step, played_turn, played_turns, replayed, AreAnswered}
use Rattle.amqp_engine.specs.Saying.{AreGivenTold, SentLegal}
use Rattle.amqp_engine.specs.Account.{History, HasHistory}
use Rattle.amqp_engine.proofs.Playing.{played-are-turns}
use Rattle.amqp_engine.proofs.LegalLinks.{turns_sent_legal}

-- the commands that are left of the script are told
abbrev PlanTold : Option Plan → Type 0
PlanTold plan = IfSome plan (λ p. AreGivenTold p.rest)

-- so the next step is
step-told : (plan : Option Plan) → PlanTold plan → IsTold (played_step plan).step
step-told None h = tt
step-told (Some p) h = from p.rest h where
  from : (gs : List Given) → AreGivenTold gs → IsTold (coming_from gs p.moment).step
  from [] h = tt
  from (g ∷ gs) h = h.0

plan-stepped : (asked : Bool) (plan : Option Plan) → PlanTold plan → PlanTold (option_map (plan_step asked) plan)
plan-stepped asked None h = tt
plan-stepped asked (Some p) h = from p.rest refl h where
  from : (gs : List Given) → p.rest ≡ gs → AreGivenTold gs → AreGivenTold (plan_from gs asked p).rest
  from [] is h = (let Q : List Given → Type 0 = λ xs. AreGivenTold xs in subst Q (sym is) h)
  from (g ∷ gs) is h = h.1

write-told : (bytes : List ℕ) (w : Wrote) (a : Log) → PlanTold a.plan → PlanTold (log_write bytes w a).plan
write-told bytes (Took k) a h = by a.plan h where
  by : (plan : Option Plan) → PlanTold plan → PlanTold (option_map (plan_write k) plan)
  by None h = tt
  by (Some p) h = h
write-told bytes Failed a h = by a.plan h where
  by : (plan : Option Plan) → PlanTold plan → PlanTold (option_map plan_failure plan)
  by None h = tt
  by (Some p) h = h
write-told bytes NoMemory a h = h

offers-told : (os : List Offer) (a : Log) → PlanTold a.plan → PlanTold (log_offers os a).plan
offers-told [] a h = h
offers-told (o ∷ os) a h = offers-told os (log_write o.bytes o.answer a) (write-told o.bytes o.answer a h)

asks-told : (e : Engine) (a : Log) → PlanTold a.plan → PlanTold (log_asks e a).plan
asks-told e a h = if_case (λ (x : Log). PlanTold x.plan) (wants_ask e) (log_ask a) a h h

turn-told : (u : Turn) (e : Engine) (a : Log) → PlanTold a.plan → PlanTold (log_turn u e a).plan
turn-told u e a h = offers-told (offers_of u (asks e)) (log_stepped u e a) (plan-stepped (log_asks e a).asked (log_asks e a).plan (asks-told e a h))

played-told : (most : ℕ) (answers : List Asked) (e : Engine) (a : Log) → PlanTold a.plan → AreTold (played_turns most answers e a)
played-told zero answers e a h = tt
played-told (suc most) answers e a h =
    let u = played_turn answers e a in
    let left = drop (length u.notes.auths) answers in
    if_case AreTold (has_ended e.talk) [] (u ∷ played_turns most left (turn u e) (log_turn u e a)) tt
    (step-told (log_asks e a).plan (asks-told e a h), played-told most left (turn u e) (log_turn u e a) (turn-told u e a h))

-- what a script says is legal, where its commands are told and what its turns ask is answered
pub script_legal : (t : Talk) (h : History) (gs : List Given) (answers : List Asked) → HasHistory (begin t) h → AreGivenTold gs → AreAnswered (replayed t gs answers) (begin t)
    → AllByRecursion SentLegal (sendings_from (replayed t gs answers) (begin t) h.sent)
script_legal t h gs answers k told all =
    turns_sent_legal (begin t) h (replayed t gs answers) k (played-are-turns (length gs) answers (begin t) (loaded gs) all) (played-told (length gs) answers (begin t) (loaded gs) told)
