use Rattle.std.proofs.Common.{sym, subst}
use Rattle.amqp_engine.specs.Engine.{Engine}
use Rattle.amqp_engine.specs.Account.{HasHistory, asked}
use Rattle.amqp_engine.proofs.io_loop.IoLoop.ask.Goals as goal

pub returns-clause-carried : goal.returns-clause-carried
returns-clause-carried g c h has =
    let Q : Engine → Type 0 = λ x. HasHistory x h in
    subst Q (sym c.ask.ensures.engine) (asked (subst Q (sym c.self.view_is) has))
