use Rattle.std.proofs.Common.{◌≤◌, arith}
use Rattle.amqp_engine_tests.proofs.Octets.{opened-spells, channel-opened-spells}
use Rattle.amqp_engine_tests.proofs.scripts.frames_are_of_a_length.Goals as goal

pub returns : goal.returns
returns c =
    record {
      each = (opened-spells, omega arith, (channel-opened-spells, omega arith, tt));
      first = λ is. let short : 13 ≤ 12 = is.1 in omega (arith, short);
      later = λ is. let short : 16 ≤ 15 = is.2.1 in omega (arith, short);
    }
