use Rattle.amqp_locked.specs.UnderLock.{contents}
use Rattle.amqp_locked.proofs.Looking.{look_err, not_released}
use Rattle.amqp_locked.proofs.locked.Locked.look.Goals as goal

pub returns-in-Ok-clause-err : goal.returns-in-Ok-clause-err
returns-in-Ok-clause-err c =
    look_err c.find.result c.args.at c.gather.ensures.0 (contents c.args.self.now) (contents c.gather.new.self) (contents c.find.new.self) c.gather.ensures.1 c.find.ensures.err

pub returns-in-Err-clause-err : goal.returns-in-Err-clause-err
returns-in-Err-clause-err c =
    let h = not_released c.args.at _ (contents c.gather.new.self) c.gather.ensures.1 in
    (c.gather.ensures.0, h.0, h.1, h.2)
