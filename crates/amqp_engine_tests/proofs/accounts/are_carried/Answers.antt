use Rattle.amqp_engine_tests.proofs.Accounting.{all-sent-carried, cut-off-carried}
use Rattle.amqp_engine_tests.proofs.accounts.are_carried.Goals as goal

pub returns : goal.returns
returns c = record { whole = all-sent-carried; cut_off = cut-off-carried }
