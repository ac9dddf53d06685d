use Rattle.std.proofs.Common.{refl}
use Rattle.amqp_engine_tests.proofs.NotServed.{not-served, not-gone}
use Rattle.amqp_engine_tests.proofs.sayings.are_faulty.Goals as goal

pub returns : goal.returns
returns c =
    record {
      heartbeat_early = not-served _ refl;
      tunes_early = not-served _ refl;
      asks_twice = not-served _ refl;
      opens_early = not-served _ refl;
      frame_of_1000 = not-served _ refl;
      frame_of_4095 = not-served _ refl;
      answers_no_secret = not-served _ refl;
      answers_no_end = not-served _ refl;
      speaks_on_zero = not-served _ refl;
      closes_with_error = not-served _ refl;
      closes_while_blocked = not-served _ refl;
      closes_both = not-served _ refl;
      goes_on = not-served _ refl;
      not_closed = not-gone _ _ refl (λ gone. cc);
    }
