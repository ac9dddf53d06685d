use Rattle.std.proofs.Common.{refl}
use Rattle.std.specs.Fn.{FnOnceReturnsAtMut}
use Rattle.amqp_locked.proofs.locked.Locked.lend.Goals as goal

pub returns-clause-goes_on : goal.returns-clause-goes_on
returns-clause-goes_on g c =
    let gave : FnOnceReturnsAtMut g.F.FnOnce c.args.use_hub c.args.self.now.hub c.use_hub-given.result c.use_hub-given.new.arg2 =
    record { shown = _; shows = refl; left = _; met = c.use_hub-given.ensures; leaves = refl } in
    c.requires.goes_on c.args.self.now.hub c.use_hub-given.new.arg2 c.use_hub-given.result gave
