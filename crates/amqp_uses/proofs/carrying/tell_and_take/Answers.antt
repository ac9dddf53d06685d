use Rattle.amqp_uses.proofs.Carried.{after-command, after-frames}
use Rattle.amqp_uses.proofs.carrying.tell_and_take.Goals as goal

pub returns-in_err-take_step-clause-carried : goal.returns-in_err-take_step-clause-carried
returns-in_err-take_step-clause-carried g c k =
    c.take_step.ensures.carried
    (after-command c.what_is_told_is_carried.ensures.history c.command.result c.args.command c.args.engine.now c.command.new.self c.command.ensures.carried k)

pub returns-clause-carried : goal.returns-clause-carried
returns-clause-carried g c k =
    after-frames c.what_is_told_is_carried.ensures.history c.args.opened c.take_step.new.engine c.take_frames.new.self c.take_frames.ensures.carried
    (c.take_step.ensures.carried
    (after-command c.what_is_told_is_carried.ensures.history c.command.result c.args.command c.args.engine.now c.command.new.self c.command.ensures.carried k))
