use Rattle.std.proofs.Common.{refl}
use Rattle.hex.specs.Hex.{encode_with}
use Rattle.amqp_script_tests.proofs.tests.computed.what_is_said_is_spelled_so.Goals as goal

pub returns-clause-header : goal.returns-clause-header
unfolding encode_with
returns-clause-header c = refl

pub returns-clause-start_ok : goal.returns-clause-start_ok
unfolding encode_with
returns-clause-start_ok c = refl

pub returns-clause-tune_ok : goal.returns-clause-tune_ok
unfolding encode_with
returns-clause-tune_ok c = refl

pub returns-clause-open : goal.returns-clause-open
unfolding encode_with
returns-clause-open c = refl

pub returns-clause-close : goal.returns-clause-close
unfolding encode_with
returns-clause-close c = refl

pub returns-clause-close_ok : goal.returns-clause-close_ok
unfolding encode_with
returns-clause-close_ok c = refl

pub returns-clause-channel_open : goal.returns-clause-channel_open
unfolding encode_with
returns-clause-channel_open c = refl

pub returns-clause-channel_close : goal.returns-clause-channel_close
unfolding encode_with
returns-clause-channel_close c = refl
