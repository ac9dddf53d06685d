use Rattle.amqp_types.proofs.TableLaws.{put_sets_one_name}
use Rattle.amqp_types.proofs.laws.put_sets_one_name.Goals as goal

pub returns : goal.returns
returns c = put_sets_one_name
