-- A message that is published on a channel of a pool.
use Rattle.std.specs.Prelude.{◌≡◌, if◌then◌else◌, ℕ, IsTrue, IsFalse, Option, Some, None, Result, Ok, Err}
use Rattle.amqp_promise.specs.declared.error.ErrorKind.{ErrorKind}
use Rattle.amqp_promise.specs.declared.error.ErrorKind.TheVariants.{NoMemory}
use Rattle.amqp_commands.specs.declared.command.ChanRef.{ChanRef}
use Rattle.amqp_answers.specs.declared.answer.Answer.{Answer}
use Rattle.amqp_rules.specs.Answers.{answer_of}
use Rattle.amqp_rules.specs.Talk.{Talk}
use Rattle.amqp_pool.specs.declared.lease.Back.TheVariants.{Kept, Lost}
use Rattle.amqp_pool.specs.Lost.{is_lost}
use Rattle.amqp_pool.specs.Pooled.{Pooled}
use Rattle.amqp_pool.specs.Leasing.{is_leased, after_back}
use Rattle.amqp_uses.specs.declared.pooling.Sending.{Sending}
use Rattle.amqp_uses.specs.declared.pooling.Begun.{Begun}
use Rattle.amqp_uses.specs.declared.pooling.Begun.TheVariants as begun
use Rattle.amqp_uses.specs.declared.pooling.Finished.{Finished}
use Rattle.amqp_uses.specs.declared.pooling.Finished.TheVariants as finished

-- this holds of the message, where one is on its way
abbrev pub IfSending : Result Begun ErrorKind → (Sending → Type 0) → Type 0
IfSending (Ok (begun.Sending s)) P = P s
IfSending _ P = Unit {0}

-- a channel that was leased is given back: it is forgotten where it is lost, and else idle again
abbrev pub IsReturned : Talk → ChanRef → Pooled → Pooled → Type 0
IsReturned t r p p' = IsTrue (is_leased r p) × (p' ≡ after_back (if is_lost t r then Lost else Kept) r p)

-- what a message comes to, by the answer of its promise, and whether its channel is given back
abbrev pub IsFinished : Option (Result Answer ErrorKind) → Talk → Sending → Pooled → Finished → Pooled → Type 0
IsFinished answer t s p (finished.Later later) p' = (answer ≡ None) × (later ≡ s) × (p' ≡ p)
IsFinished answer t s p (finished.Foreign lease) p' = IsFalse (is_leased s.lease p) × (lease ≡ s.lease) × (p' ≡ p)
IsFinished answer t s p finished.Sent p' = ((a : Answer) × (answer ≡ Some (Ok a))) × IsReturned t s.lease p p'
IsFinished answer t s p (finished.NotSent e) p' = (answer ≡ Some (Err e)) × IsReturned t s.lease p p'
