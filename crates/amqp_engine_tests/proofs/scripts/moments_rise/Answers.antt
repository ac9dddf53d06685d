use Rattle.std.proofs.Common.{arith}
use Rattle.amqp_engine_tests.proofs.scripts.moments_rise.Goals as goal

pub returns : goal.returns
returns c =
    record {
      rise = (omega arith, (omega arith, (omega arith, (omega arith, tt))));
      fall = λ is. omega (arith, is.1.0);
    }
