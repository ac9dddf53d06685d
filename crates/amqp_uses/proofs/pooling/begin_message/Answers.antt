use Rattle.std.proofs.Common.{◌≡◌, sym, subst}
use Rattle.std.specs.Prelude.{IsTrue}
use Rattle.amqp_commands.specs.declared.command.ChanRef.{ChanRef}
use Rattle.amqp_rules.specs.Talk.{Talk}
use Rattle.amqp_pool.specs.declared.lease.Leased.{Leased}
use Rattle.amqp_pool.specs.declared.lease.Leased.TheVariants.{Now}
use Rattle.amqp_pool.specs.Pooled.{Pooled}
use Rattle.amqp_pool.specs.Leasing.{after_lease, is_leased}
use Rattle.amqp_pool.proofs.Channels.{pushed-found}
use Rattle.amqp_uses.proofs.pooling.begin_message.Goals as goal

pub return_now-requires-clause-leased : goal.return_now-requires-clause-leased
return_now-requires-clause-leased c =
    let t : Talk = c.args.hub.now.engine.talk in
    let r : ChanRef = c.in-Now.lease in
    let P : Leased → Type 0 = λ l. c.lease.new.self ≡ after_lease t l c.args.pool.now in
    let is : c.lease.new.self ≡ after_lease t (Now r) c.args.pool.now = subst P c.in-Now.is c.in_ok-lease.ensures.pool in
    subst (λ (x : Pooled). IsTrue (is_leased r x)) (sym is) (pushed-found r c.args.pool.now.leased)
