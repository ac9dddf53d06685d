use Rattle.amqp_engine_tests.proofs.Spelling.{opens-0-not-spelled, no-frame-not-spelled}
use Rattle.amqp_engine_tests.proofs.links.are_not_spelled.Goals as goal

pub returns : goal.returns
returns c = record { channel_0 = opens-0-not-spelled; no_frame = no-frame-not-spelled }
