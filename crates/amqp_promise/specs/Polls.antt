-- What registering at a cell and polling it do, to the cell and to the polled task.
use Rattle.std.specs.Prelude.{◌≡◌, Some, Result, Ok, Err, true, false}
use Rattle.futures.specs.declared.task.context.Context.{Context}
use Rattle.futures.specs.declared.task.Poll.{Poll}
use Rattle.futures.specs.declared.task.Poll.TheVariants.{Ready, Pending}
use Rattle.amqp_promise.specs.Places.{Place, IsLeftAt}
use Rattle.amqp_promise.specs.Cell.{Cell, taken, left, registered, is_complete}

module _ {A : Type 0} where
  -- a cell that waits has one place more, with the waker of the polled task; at a completed one nothing is registered
  abbrev pub Registers : Context → Context → Cell A → Cell A → Type 0
  Registers old new (Cell.Waiting places) after =
      (place : Place) × (after ≡ registered place (Cell.Waiting places)) × IsLeftAt old new place
  Registers old new (Cell.Kept first) after = (after ≡ Cell.Kept first) × (new ≡ old)
  Registers old new Cell.Taken after = (after ≡ Cell.Taken) × (new ≡ old)

  -- the polled task is registered at a cell that waits; where the result was taken, it is to be polled again
  abbrev pub Waits : Context → Context → Cell A → Cell A → Type 0
  Waits old new (Cell.Waiting places) after = Registers old new (Cell.Waiting places) after
  Waits old new (Cell.Kept first) after = ⊥
  Waits old new Cell.Taken after = (after ≡ Cell.Taken) × (new.is_woken ≡ true)

  -- what a take gets is given; else the polled task waits, or memory for its place was refused and nothing changes
  abbrev pub Polls : {E : Type 0} → Context → Context → Cell A → Cell A → Poll (Result A E) → Type 0
  Polls old new before after (Ready (Ok x)) = (taken before ≡ Some x) × (after ≡ left before) × (new ≡ old)
  Polls old new before after (Ready (Err refused)) =
      (is_complete before ≡ false) × (after ≡ before) × (new ≡ old)
  Polls old new before after Pending = Waits old new before after
