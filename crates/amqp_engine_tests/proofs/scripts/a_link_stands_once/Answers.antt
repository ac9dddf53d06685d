use Rattle.std.proofs.Common.{refl}
use Rattle.amqp_engine_tests.proofs.scripts.a_link_stands_once.Goals as goal

pub returns : goal.returns
returns c =
    record {
      once = (refl, (tt, (tt, (tt, (tt, tt)))));
      none = λ is. is;
      late = λ is. cc;
      twice = λ is. is.1.0;
      room = λ is. cc;
      refused = λ is. is.1.0;
      lost = λ is. is.1.0;
      fault = λ is. is.1.0;
      write_failed = λ is. is.1.0;
    }
