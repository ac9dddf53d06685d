use Rattle.amqp_engine_tests.proofs.ValidScripts.{missed-not-timely, at-once-not-valid, crossing-not-valid}
use Rattle.amqp_engine_tests.proofs.scripts.are_not_valid.Goals as goal

pub returns : goal.returns
returns c =
    record {
      silent = missed-not-timely;
      missed = λ valid. missed-not-timely valid.faultless.timely;
      tunes_at_once = at-once-not-valid;
      closes_cross = crossing-not-valid;
    }
