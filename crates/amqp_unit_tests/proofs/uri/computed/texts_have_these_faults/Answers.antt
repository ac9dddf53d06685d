use Rattle.std.proofs.Common.{refl}
use Rattle.std.specs.Str.Lossy.{utf8_lossy, utf8_valid_len, utf8_error_len}
use Rattle.url.proofs.OnLiterals.{url_on_literals}
use Rattle.amqp_unit_tests.proofs.uri.computed.texts_have_these_faults.Goals as goal

pub returns-clause-not_amqp : goal.returns-clause-not_amqp
unfolding url_on_literals utf8_lossy utf8_valid_len utf8_error_len
returns-clause-not_amqp c = refl

pub returns-clause-no_url : goal.returns-clause-no_url
unfolding url_on_literals utf8_lossy utf8_valid_len utf8_error_len
returns-clause-no_url c = refl

pub returns-clause-amqps : goal.returns-clause-amqps
unfolding url_on_literals utf8_lossy utf8_valid_len utf8_error_len
returns-clause-amqps c = refl

pub returns-clause-bad_number : goal.returns-clause-bad_number
unfolding url_on_literals utf8_lossy utf8_valid_len utf8_error_len
returns-clause-bad_number c = refl

pub returns-clause-bad_mechanism : goal.returns-clause-bad_mechanism
unfolding url_on_literals utf8_lossy utf8_valid_len utf8_error_len
returns-clause-bad_mechanism c = refl
