-- What a poll takes, or leaves a waker for.
use Rattle.std.specs.Prelude.{◌≡◌, Bool, true, false, List, [], Option, Some, None, option_map, Result, Ok, Err}
use Rattle.futures.specs.declared.task.Poll.{Poll}
use Rattle.futures.specs.declared.task.Poll.TheVariants.{Ready, Pending}
use Rattle.amqp_promise.specs.declared.error.ErrorKind.{ErrorKind}
use Rattle.amqp_promise.specs.declared.error.ErrorKind.TheVariants.{NoMemory}
use Rattle.amqp_answers.specs.declared.answer.Answer.{Answer}
use Rattle.amqp_locked.specs.declared.polled.Polled.{Polled}

-- the answer that was taken
abbrev pub answer_given : Option Polled → Option (Result Answer ErrorKind)
answer_given polled = option_map (λ (p : Polled). p.answer) polled

-- what a poll gave, where it gave something
abbrev pub polled_of : {A E : Type 0} → Poll (Result A E) → Option A
polled_of (Ready (Ok x)) = Some x
polled_of (Ready (Err e)) = None
polled_of Pending = None

-- an answer is refused memory, as where memory for the copy of an error was refused
abbrev pub is_refused : Result Answer ErrorKind → Bool
is_refused (Err NoMemory) = true
is_refused _ = false
