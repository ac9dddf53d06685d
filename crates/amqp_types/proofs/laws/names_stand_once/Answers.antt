use Rattle.amqp_types.proofs.TableLaws.{names_stand_once}
use Rattle.amqp_types.proofs.laws.names_stand_once.Goals as goal

pub returns : goal.returns
returns c = names_stand_once
