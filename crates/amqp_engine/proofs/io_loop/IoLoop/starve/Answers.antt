use Rattle.std.proofs.Common.{sym, subst}
use Rattle.amqp_engine.specs.Engine.{Engine}
use Rattle.amqp_engine.specs.Unread.{IsRead}
use Rattle.amqp_engine.specs.Saying.{TellsLinks}
use Rattle.amqp_engine.specs.Account.{HasHistory}
use Rattle.amqp_engine.proofs.LeftUnread.{before-read}
use Rattle.amqp_engine.proofs.Starved.{starved-history, starved-told}
use Rattle.amqp_engine.proofs.io_loop.IoLoop.starve.Goals as goal

pub invariant_of-self : goal.invariant_of-self
invariant_of-self c = (c.self.invariant.0, subst IsRead (sym c.starve.ensures) (before-read c.args.at c.self.inside.wire c.self.invariant.1))

pub returns-clause-links : goal.returns-clause-links
returns-clause-links c ss log h =
    let Q : Engine → Type 0 = λ x. TellsLinks x ss log in
    subst Q (sym c.starve.ensures) (starved-told c.args.at c.self.inside.wire ss log (subst Q (sym c.self.view_is) h))

pub returns-clause-carried : goal.returns-clause-carried
returns-clause-carried c h has =
    let Q : Engine → Type 0 = λ x. HasHistory x h in
    subst Q (sym c.starve.ensures) (starved-history c.args.at c.self.inside.wire h (subst Q (sym c.self.view_is) has))
