use Rattle.std.proofs.Common.{sym, subst}
use Rattle.amqp_engine.specs.Engine.{Engine}
use Rattle.amqp_engine.specs.Account.{add_frames, HasHistory, frames_taken}
use Rattle.amqp_engine.proofs.io_loop.IoLoop.take_frames.Goals as goal

pub returns-clause-carried : goal.returns-clause-carried
returns-clause-carried c h has =
    let e = c.self.inside.wire in
    let P : Engine → Type 0 = λ x. HasHistory x h → HasHistory c.take_frames.new.self (add_frames c.args.opened x h) in
    let Q : Engine → Type 0 = λ x. HasHistory x (add_frames c.args.opened e h) in
    subst P c.self.view_is (λ was. subst Q (sym c.take_frames.ensures.taken) (frames_taken c.args.opened was)) has
