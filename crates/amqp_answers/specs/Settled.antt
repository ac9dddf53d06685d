-- Promises: what each has become, and how they are answered.
use Rattle.std.specs.Prelude.{◌≡◌, ℕ, suc, List, map, Option, Some, None, Result, Err}
use Rattle.amqp_promise.specs.declared.error.ErrorKind.{ErrorKind}
use Rattle.amqp_answers.specs.declared.answer.Answer.{Answer}
use Rattle.amqp_maps.specs.Listed.{at, put}

-- the promises that wait or whose answer was not taken, by number
abbrev pub Promises : Type 0
Promises = List (ℕ × Option (Result Answer ErrorKind))

-- the promises, once that of a number got an answer, by what it held: nothing that is kept, no answer yet, or one
abbrev pub settled_by : Option (Option (Result Answer ErrorKind)) → ℕ → Result Answer ErrorKind → Promises → Promises
settled_by (Some None) number answer promises = put number (Some answer) promises
settled_by _ number answer promises = promises

-- the promises, once that of a number got an answer: one that was answered before keeps its own
abbrev pub settled : ℕ → Result Answer ErrorKind → Promises → Promises
settled number answer promises = settled_by (at number promises) number answer promises

-- the promises, once the one that is named got an answer, where one is named
abbrev pub settled_to : Option ℕ → Result Answer ErrorKind → Promises → Promises
settled_to None answer promises = promises
settled_to (Some number) answer promises = settled number answer promises

-- the answer is an error
abbrev pub IsRejected : Option (Result Answer ErrorKind) → Type 0
IsRejected answer = (e : ErrorKind) × (answer ≡ Some (Err e))

-- ---- a link that is lost

-- a promise that waits gets an error; that of the connection, number 0, goes on to wait
abbrev pub rejected_slot : ErrorKind → ℕ → Option (Result Answer ErrorKind) → Option (Result Answer ErrorKind)
rejected_slot e (suc number) None = Some (Err e)
rejected_slot e number slot = slot

-- the promises, once each that waits but that of the connection got an error
abbrev pub rejected_all :
    ErrorKind → List (ℕ × Option (Result Answer ErrorKind)) → List (ℕ × Option (Result Answer ErrorKind))
rejected_all e promises = map (λ p. (p.0, rejected_slot e p.0 p.1)) promises
