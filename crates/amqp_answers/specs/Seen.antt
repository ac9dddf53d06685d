-- Promises and events as they are seen, from what the code keeps of them.
use Rattle.std.specs.Prelude.{◌≡◌, ℕ, ◌+◌, ◌≤◌, length, ◌&&◌, if◌then◌else◌, List, Option, Some, None, option_map, is_some, IsSome, Result, Err, IsTrue}
use Rattle.std.specs.VecDeque.{deque_capacity}
use Rattle.amqp_promise.specs.declared.error.ErrorKind.{ErrorKind}
use Rattle.amqp_outbox.specs.Order.{seen}
use Rattle.amqp_answers.specs.declared.answer.Answer.{Answer}
use Rattle.amqp_answers.specs.declared.promises.Slot.{Slot}
use Rattle.amqp_answers.specs.declared.promises.Slot.TheVariants.{Place, Waiting, Answered, Shared}
use Rattle.amqp_answers.specs.declared.promises.Promises.{Promises}
use Rattle.amqp_answers.specs.declared.promises.Why.{Why}
use Rattle.amqp_answers.specs.declared.events.Events.{Events}
use Rattle.amqp_answers.specs.declared.shared_errors.SharedError.{SharedError}
use Rattle.amqp_maps.specs.Listed.{at}
use Rattle.amqp_answers.specs.Events.{Noted}
use Rattle.amqp_answers.specs.Sharing.{shared_at, error_at, holders_at, waits, FreesUnheld}

-- ---- promises

-- how many promises were made
abbrev pub made_in : Promises → ℕ
made_in promises = promises.made

-- a promise as it is seen: a place that is made for one is none, and one that shares an error waits until it is known
abbrev pub slot_seen : List (ℕ × SharedError) → Slot → Option (Option (Result Answer ErrorKind))
slot_seen errors Place = None
slot_seen errors Waiting = Some None
slot_seen errors (Answered answer) = Some (Some answer)
slot_seen errors (Shared number) = option_map (option_map Err) (shared_at number errors)

-- the promises as they are seen, by number
abbrev pub promised : Promises → List (ℕ × Option (Result Answer ErrorKind))
promised promises = seen (slot_seen promises.errors.errors.entries) promises.slots.entries

-- there is a place for one more promise, and for the error that it shares
abbrev pub HasPlace : Promises → Type 0
HasPlace promises = IsSome (at promises.made promises.slots.entries) × IsSome promises.loss

-- the error that is given for a reason, where it is kept
abbrev pub error_of : Why → Promises → Option ErrorKind
error_of why promises = error_at why.number promises.errors.errors.entries

-- how many promises hold the error of a reason
abbrev pub holders_of : Why → Promises → ℕ
holders_of why promises = holders_at why.number promises.errors.errors.entries

-- an error that lost its last holder is kept no more
abbrev pub FreesErrors : Promises → Promises → Type 0
FreesErrors before after = FreesUnheld before.errors.errors.entries after.errors.errors.entries

-- this error is given for a reason
abbrev pub HasWhy : Why → ErrorKind → Promises → Type 0
HasWhy why e promises = error_of why promises ≡ Some e

-- a promise, once it got an answer: where it waits
abbrev pub slot_settled : List (ℕ × SharedError) → Result Answer ErrorKind → Slot → Slot
slot_settled errors answer slot = if waits errors slot then Answered answer else slot

-- a promise, once it is answered with the shared error of a number: where it waits, and the error is kept
abbrev pub slot_shared : List (ℕ × SharedError) → ℕ → Slot → Slot
slot_shared errors number slot =
    if waits errors slot && is_some (error_at number errors) then Shared number else slot

-- ---- events

-- the events of a session but that of its end, as they are kept
abbrev pub noted_in : Events → Noted
noted_in e = record { listens = e.listens; events = e.events.items; tells_end = e.tells_end; owed = e.owed.entries }

-- where events are kept, there is a place for one more
abbrev pub HasEventPlace : Events → Type 0
HasEventPlace e = IsTrue e.listens → length e.owed.entries + (length e.events.items + 1) ≤ deque_capacity e.events
