-- Over a port that takes all, a turn says all that may go out.
use Rattle.std.proofs.Common.{◌≡◌, ℕ, false, List, [], ◌∷◌, ◌++◌, length, Option, Some, None, refl, ap, ◌∙◌}
use Rattle.amqp_outbox.specs.declared.item.Item.{Item}
use Rattle.amqp_types.proofs.Small.{if-false}
use Rattle.amqp_engine.specs.declared.port.Wrote.{Wrote}
use Rattle.amqp_engine.specs.declared.port.Wrote.TheVariants.{Took, Failed}
use Rattle.std.specs.Prelude.{option_map}
use Rattle.amqp_engine.specs.Plan.{Plan, room_for, less_room, plan_write}
use Rattle.amqp_engine.specs.Log.{Log, log_write}
use Rattle.amqp_engine.specs.Engine.{Engine}
use Rattle.amqp_engine.specs.Turn.{Progress, offered, offer_part}
use Rattle.amqp_engine.specs.Sending.{committed_before}
use Rattle.amqp_engine.specs.Play.{fails_of, room_of, played_answer}

-- a script whose link takes all, and whose next write does not fail
pub record IsFree (o : Option Plan) : Type 0 where
  pub plan : Plan
  pub played : o ≡ Some plan
  pub room : plan.room ≡ None
  pub works : plan.fails ≡ false

pub free-fails : (o : Option Plan) → IsFree o → fails_of o ≡ false
free-fails o h = ap fails_of h.played ∙ h.works

pub free-room : (o : Option Plan) (n : ℕ) → IsFree o → room_of o n ≡ n
free-room o n h = ap (λ x. room_of x n) h.played ∙ all h.plan.room h.room where
  all : (r : Option ℕ) → r ≡ None → room_for r n ≡ n
  all None is = refl
  all (Some left) is = absurd cc

-- so it is once bytes were taken
pub free-write : (bytes : List ℕ) (k : ℕ) (a : Log) → IsFree a.plan → IsFree (log_write bytes (Took k) a).plan
free-write bytes k a h =
    record { plan = plan_write k h.plan; played = ap (λ o. option_map (plan_write k) o) h.played; room = ap (less_room k) h.room; works = h.works }

-- all is taken
pub free-answer : (e : Engine) (a : Log) → IsFree a.plan → played_answer e a ≡ Took (length (offered e))
free-answer e a h =
    if-false (fails_of a.plan) Failed (Took (room_of a.plan (length (offered e)))) (free-fails a.plan h) ∙ ap Took (free-room a.plan (length (offered e)) h)

-- what these writes send
abbrev pub said_in : List Wrote → Progress → List Item
said_in [] p = []
said_in (w ∷ ws) p = committed_before p.engine ++ said_in ws (offer_part w p)
