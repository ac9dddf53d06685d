use Rattle.amqp_types.proofs.TableLaws.{last_pair_counts}
use Rattle.amqp_types.proofs.laws.last_pair_counts.Goals as goal

pub returns : goal.returns
returns c = last_pair_counts
