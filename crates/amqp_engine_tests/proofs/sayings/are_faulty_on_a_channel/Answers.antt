use Rattle.std.proofs.Common.{refl}
use Rattle.amqp_engine_tests.proofs.NotServed.{not-served}
use Rattle.amqp_engine_tests.proofs.sayings.are_faulty_on_a_channel.Goals as goal

pub returns : goal.returns
returns c =
    record {
      closes_cross = not-served _ refl;
      closes_closed = not-served _ refl;
      closes_and_answers = not-served _ refl;
      opens_unasked = not-served _ refl;
      opens_twice = not-served _ refl;
      answers_no_close = not-served _ refl;
      answers_flow_twice = not-served _ refl;
      answers_earlier_flow = not-served _ refl;
      speaks_elsewhere = not-served _ refl;
      speaks_after_close = not-served _ refl;
      unblocks_a_channel = not-served _ refl;
    }
