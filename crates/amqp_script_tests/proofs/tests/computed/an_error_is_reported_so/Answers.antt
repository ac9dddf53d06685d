use Rattle.std.proofs.Common.{refl}
use Rattle.std.specs.Fmt.{digits}
use Rattle.amqp_script_tests.proofs.tests.computed.an_error_is_reported_so.Goals as goal

pub returns-clause-told : goal.returns-clause-told
unfolding digits
returns-clause-told c = refl

pub returns-clause-unheard : goal.returns-clause-unheard
unfolding digits
returns-clause-unheard c = refl
