use Rattle.std.proofs.Common.{◌-◌, arith}
use Rattle.amqp_locked.specs.UnderLock.{contents}
use Rattle.amqp_locked.proofs.Looking.{act_next}
use Rattle.amqp_locked.proofs.locked.Locked.act.Goals as goal

pub act-preserved : goal.act-preserved
act-preserved c = record {
  within = omega (arith, c.act.invariant.within);
  there = c.in_ok-act_on.ensures.left;
  looked = act_next (c.act.at - 1) c.act.at _ (contents c.act.self) (contents c.act_on.new.self) (omega (arith, c.act-test.true)) c.act.invariant.within
      c.act.invariant.looked c.in_ok-act_on.ensures.ok;
}
