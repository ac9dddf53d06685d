use Rattle.amqp_rules.proofs.FullOutbox.{full-only, full-there}
use Rattle.amqp_rules.proofs.laws.an_outbox_is_full_above_its_limit.Goals as goal

pub returns : goal.returns
returns c = λ octets cmd t takes. (full-only octets t cmd takes, full-there octets t cmd)
