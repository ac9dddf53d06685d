use Rattle.amqp_outbox.specs.Queued.{waiting_items}
use Rattle.amqp_rules.specs.Sound.{following}
use Rattle.amqp_rules.proofs.Counting.{unsent-taken}
use Rattle.amqp_rules.proofs.Finishing.{finishes-last, open-taken}
use Rattle.amqp_rules.proofs.laws.unsent_bytes_are_counted.Goals as goal

pub returns-clause-taken : goal.returns-clause-taken
returns-clause-taken c = unsent-taken

pub returns-clause-sound : goal.returns-clause-sound
returns-clause-sound c =
    λ n t sound opened within.
    open-taken n t opened (finishes-last t.input (following t.committed (waiting_items t.outbox)) sound.finish) within
