use Rattle.amqp_locked.specs.UnderLock.{contents}
use Rattle.amqp_locked.proofs.Looking.{find_err, not_released}
use Rattle.amqp_locked.proofs.locked.Locked.find.Goals as goal

pub returns-in-Ok-clause-err : goal.returns-in-Ok-clause-err
returns-in-Ok-clause-err c =
    find_err c.act.result c.args.at (contents c.args.self.now) (contents c.release.new.self) (contents c.act.new.self) c.in-Ok.ensures.ok c.act.ensures.err

pub returns-in-Err-clause-err : goal.returns-in-Err-clause-err
returns-in-Err-clause-err c = not_released c.args.at (contents c.args.self.now) (contents c.release.new.self) c.in-Err.ensures.err
