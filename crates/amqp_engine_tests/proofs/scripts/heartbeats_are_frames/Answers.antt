use Rattle.amqp_engine_tests.proofs.Octets.{two-heartbeats, part-of-heartbeat}
use Rattle.amqp_engine_tests.proofs.scripts.heartbeats_are_frames.Goals as goal

pub returns : goal.returns
returns c = record { two = two-heartbeats; part = part-of-heartbeat }
