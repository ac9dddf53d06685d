use Rattle.std.proofs.Common.{◌≡◌, ◌∙◌, false, sym, ap}
use Rattle.amqp_rules.specs.Talk.{has_ended}
use Rattle.amqp_uses.proofs.Carried.{after-ask, after-turn}
use Rattle.amqp_uses.proofs.carrying.take_step.Goals as goal

pub returns-clause-carried : goal.returns-clause-carried
returns-clause-carried g c k =
    let running : has_ended c.ask.new.self.talk ≡ false = ap has_ended (sym c.session.ensures) ∙ sym c.has_ended.ensures ∙ c.if-has_ended.false in
    after-turn _ c.ask.new.self c.apply.new.self _ _ c.apply.ensures.carried running
    (after-ask c.what_is_told_is_carried.ensures.history c.args.engine.now c.ask.new.self c.ask.ensures.carried k)
