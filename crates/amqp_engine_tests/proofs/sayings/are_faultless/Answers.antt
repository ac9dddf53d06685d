use Rattle.std.proofs.Common.{refl}
use Rattle.amqp_engine_tests.proofs.sayings.are_faultless.Goals as goal

pub returns : goal.returns
returns c =
    record {
      closed_by_us = record { server = _; said = refl; gone = refl };
      closed_by_them = record { server = _; said = refl; gone = refl };
      challenged = record { server = _; said = refl; gone = refl };
      any_frame = record { server = _; said = refl; gone = refl };
      least_frame = record { server = _; said = refl; gone = refl };
      alive = record { server = _; said = refl; gone = refl };
      blocked = record { server = _; said = refl; gone = refl };
      refreshed = record { server = _; said = refl; gone = refl };
      channel_used = record { server = _; said = refl; gone = refl };
      channel_closed = record { server = _; said = refl; gone = refl };
      channel_reopened = record { server = _; said = refl; gone = refl };
      flows_answered = record { server = _; said = refl; gone = refl };
      delivered = record { server = _; said = refl; gone = refl };
      speaks_to_the_last = record { server = _; said = refl; gone = refl };
    }
