use Rattle.amqp_types.proofs.TableLaws.{last_of_equal_names_counts}
use Rattle.amqp_types.proofs.laws.last_of_equal_names_counts.Goals as goal

pub returns : goal.returns
returns c = last_of_equal_names_counts
