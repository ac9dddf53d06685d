use Rattle.std.proofs.Common.{map, refl, ◌∙◌}
use Rattle.amqp_hub.specs.Marks.{kept_in}
use Rattle.amqp_locked.specs.UnderLock.{UnderLock, under_lock, contents}
use Rattle.amqp_locked.proofs.Looking.{finds_next}
use Rattle.amqp_locked.proofs.locked.Locked.gather.Goals as goal

pub gather-preserved : goal.gather-preserved
gather-preserved c =
    let l : UnderLock = contents c.make_places.new.self in
    let m : UnderLock = under_lock l.hub (map kept_in c.find.new.self.slots.items) l.found l.unasked l.watch in
    finds_next c.args.at c.in-Some.found.mark c.in-Some.found.owner (contents c.args.self.now) l m (contents c.sort.new.self)
    (c.gather.invariant.0, c.make_places.ensures.same ∙ c.gather.invariant.1) c.in-Some.ensures.found refl c.sort.ensures
