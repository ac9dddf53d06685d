-- Where a task waits for a notifier.
use Rattle.std.specs.Prelude.{ℕ}
use Rattle.amqp_promise.specs.declared.notifier.Notifier.{Notifier}

-- the name of the source at which a task waits for a notifier
abbrev pub notifier_source : Notifier → ℕ
notifier_source notifier = notifier.source.id
