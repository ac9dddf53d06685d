use Rattle.std.proofs.Common.{refl}
use Rattle.amqp_unit_tests.proofs.uri.computed.guest_says_these_octets.Goals as goal

pub returns-clause-plain : goal.returns-clause-plain
returns-clause-plain c = refl

pub returns-clause-amqplain : goal.returns-clause-amqplain
returns-clause-amqplain c = refl

pub returns-clause-challenge : goal.returns-clause-challenge
returns-clause-challenge c = refl
