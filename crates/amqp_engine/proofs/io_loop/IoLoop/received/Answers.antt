use Rattle.std.proofs.Common.{◌<◌, IsTrue, length, ap, sym, subst, arith}
use Rattle.amqp_rules.specs.Talk.{is_open}
use Rattle.amqp_engine.specs.Engine.{Engine}
use Rattle.amqp_engine.proofs.Joining.{less-unread}
use Rattle.amqp_engine.proofs.io_loop.IoLoop.received.Goals as goal

pub returns-clause-free : goal.returns-clause-free
returns-clause-free c opened =
    let e = c.self.inside.wire in
    let O : Engine → Type 0 = λ x. IsTrue (is_open x.talk) in
    let less : length e.unread < e.talk.capacity = less-unread e c.received.ensures.least (c.self.invariant.1 (subst O (sym c.self.view_is) opened)) in
    omega (arith, less, c.received.ensures.capacity, ap length c.received.ensures.bytes)
