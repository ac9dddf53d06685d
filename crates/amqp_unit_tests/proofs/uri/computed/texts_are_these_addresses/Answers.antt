use Rattle.std.proofs.Common.{refl}
use Rattle.std.specs.Str.Lossy.{utf8_lossy, utf8_valid_len, utf8_error_len}
use Rattle.url.proofs.OnLiterals.{url_on_literals}
use Rattle.amqp_unit_tests.proofs.uri.computed.texts_are_these_addresses.Goals as goal

pub returns-clause-nothing : goal.returns-clause-nothing
unfolding url_on_literals utf8_lossy utf8_valid_len utf8_error_len
returns-clause-nothing c = refl

pub returns-clause-opaque : goal.returns-clause-opaque
unfolding url_on_literals utf8_lossy utf8_valid_len utf8_error_len
returns-clause-opaque c = refl

pub returns-clause-slash : goal.returns-clause-slash
unfolding url_on_literals utf8_lossy utf8_valid_len utf8_error_len
returns-clause-slash c = refl

pub returns-clause-escaped : goal.returns-clause-escaped
unfolding url_on_literals utf8_lossy utf8_valid_len utf8_error_len
returns-clause-escaped c = refl

pub returns-clause-whole : goal.returns-clause-whole
unfolding url_on_literals utf8_lossy utf8_valid_len utf8_error_len
returns-clause-whole c = refl
