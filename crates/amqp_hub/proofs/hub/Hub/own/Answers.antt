use Rattle.std.proofs.Common.{◌≤◌, sym, subst}
use Rattle.amqp_engine.specs.Engine.{Engine}
use Rattle.amqp_journal.proofs.Journal.{told-grown}
use Rattle.amqp_hub.specs.Guarded.{Guarded}
use Rattle.amqp_hub.proofs.Owning.{kept-entered, spare-entered}
use Rattle.amqp_hub.proofs.hub.Hub.own.Goals as goal

pub invariant_of-self-in-Now : goal.invariant_of-self-in-Now
invariant_of-self-in-Now c = (
  kept-entered c.enter_own.result c.in-Now.cmd c.self.inside.engine c.enter_own.new.engine _ c.self.inside.journal.items c.enter_own.new.journal.items
      c.self.inside.counts.items c.enter_own.ensures.engine c.enter_own.ensures.journal c.enter_own.ensures.same c.enter_own.ensures.kept c.self.invariant.0,
  spare-entered c.enter_own.result c.self.inside.engine c.enter_own.new.engine _ _ _ _ c.enter_own.ensures.room c.enter_own.ensures.same c.enter_own.ensures.spare
      c.self.invariant.1,
)

pub returns-in_ok-enter_own-in-Now-clause-promises :
    goal.returns-in_ok-enter_own-in-Now-clause-promises
returns-in_ok-enter_own-in-Now-clause-promises c =
    let e' : Engine = c.enter_own.new.engine in
    let P : Guarded → Type 0 = λ h. h.engine.talk.made ≤ e'.talk.made in
    let Q : Engine → Type 0 = λ y. c.self.inside.engine.talk.made ≤ y.talk.made in
    subst P c.self.view_is (subst Q (sym c.in_ok-enter_own-in-Now.ensures.engine) (told-grown c.in-Now.cmd c.self.inside.engine))
