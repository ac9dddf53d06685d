use Rattle.amqp_methods.proofs.Fields.{spelled_is_read, read_was_spelled}
use Rattle.amqp_methods.proofs.laws.properties_are_read_as_they_are_spelled.Goals as goal

pub returns-clause-read : goal.returns-clause-read
returns-clause-read c = spelled_is_read

pub returns-clause-spelled : goal.returns-clause-spelled
returns-clause-spelled c = λ f octets fits e. (read_was_spelled f octets fits e).is

pub returns-clause-fit : goal.returns-clause-fit
returns-clause-fit c = λ f octets fits e. (read_was_spelled f octets fits e).fit
