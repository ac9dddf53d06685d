-- What polling a notice does, to the notice and to the polled task.
use Rattle.std.specs.Prelude.{◌≡◌, ◌++◌, [], ◌∷◌, Result, Ok, Err}
use Rattle.futures.specs.declared.task.context.Context.{Context}
use Rattle.futures.specs.declared.task.Poll.{Poll}
use Rattle.futures.specs.declared.task.Poll.TheVariants.{Ready, Pending}
use Rattle.amqp_promise.specs.Places.{Place, IsLeftAt}
use Rattle.amqp_promise.specs.declared.notifier.Notice.{Notice}
use Rattle.amqp_promise.specs.declared.notifier.Notice.TheVariants.{Awaited, Given}

-- one that was given is told at once; at one that is awaited the polled task has a place, or memory for that was
-- refused and nothing changes
abbrev pub PollsNotice : {E : Type 0} → Context → Context → Notice → Notice → Poll (Result (Unit {0}) E) → Type 0
PollsNotice old new Given after (Ready (Ok told)) = (after ≡ Given) × (new ≡ old)
PollsNotice old new Given after (Ready (Err refused)) = ⊥
PollsNotice old new Given after Pending = ⊥
PollsNotice old new (Awaited places) after (Ready (Ok told)) = ⊥
PollsNotice old new (Awaited places) after (Ready (Err refused)) = (after ≡ Awaited places) × (new ≡ old)
PollsNotice old new (Awaited places) after Pending =
    (place : Place) × (after ≡ Awaited (places ++ place ∷ [])) × IsLeftAt old new place
