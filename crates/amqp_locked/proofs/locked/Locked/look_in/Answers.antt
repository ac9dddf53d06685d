use borrow.Author.Rules.{of_calls}
use Rattle.std.specs.Fn.{CalledAtMut}
use Rattle.amqp_locked.proofs.locked.Locked.look_in.Goals as goal

pub returns-clause-callable : goal.returns-clause-callable
returns-clause-callable g c = search of_calls

pub returns-clause-goes_on : goal.returns-clause-goes_on
returns-clause-goes_on g c =
    let gave : CalledAtMut g.F.FnMut c.args.look.now c.args.self.now.hub c.look-found.result c.look-found.new.self c.look-found.new.arg2 = search of_calls in
    c.requires.goes_on c.args.look.now c.look-found.new.self c.args.self.now.hub c.look-found.new.arg2 c.look-found.result gave
