-- Places for wakers: each polled task that waits leaves its waker in one.
use Rattle.std.specs.Prelude.{◌≡◌, ◌⊎◌, List, [], ◌∷◌, ◌++◌, Option, Some, option_map, true}
use Rattle.futures.specs.Slot.{TaskId, woken_task, polled_task}
use Rattle.futures.specs.declared.task.context.Context.{Context}
use Rattle.futures.specs.declared.task.waker.Waker.{Waker}

-- a place holds the waker of a task, or none
abbrev pub Place : Type 0
Place = Option TaskId

-- the place that holds this waker, or none
abbrev pub place_of : Option Waker → Place
place_of waker = option_map woken_task waker

-- the waker of the polled task was left in the place, or none could be made, and the task is polled again
abbrev pub IsLeftAt : Context → Context → Place → Type 0
IsLeftAt old new place = (new.lacks_waker ≡ true) ⊎ (place ≡ Some (polled_task old))

-- there is one place more, at the end, and the waker of the polled task is there
abbrev pub HasOneMore : Context → Context → List Place → List Place → Type 0
HasOneMore old new before after = (place : Place) × (after ≡ before ++ place ∷ []) × IsLeftAt old new place
