use Rattle.std.proofs.Common.{arith}
use Rattle.amqp_locked.specs.UnderLock.{contents}
use Rattle.amqp_locked.proofs.Looking.{release_next}
use Rattle.amqp_locked.proofs.locked.Locked.release.Goals as goal

pub release-preserved : goal.release-preserved
release-preserved c = record {
  gone = release_next c.release.asked c.args.at (contents c.args.self.now) (contents c.release.self) (contents c.release_first.new.self) c.release.invariant.gone c.release_first.ensures.first;
  room = omega (arith, c.release.invariant.room, c.release_first.ensures.found, c.release_first.ensures.capacity);
}
