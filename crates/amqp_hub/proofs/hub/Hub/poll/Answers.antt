use Rattle.std.proofs.Common.{◌≡◌, ◌<◌, true, IfNone, ap, sym, subst, ◌∙◌, arith}
use Rattle.amqp_rules.specs.Talk.{has_ended}
use Rattle.amqp_journal.specs.Journal.{WasTaken}
use Rattle.amqp_hub.specs.Guarded.{Guarded}
use Rattle.amqp_hub.proofs.Keeping.{kept-answer, none-pending, names-itself, over-taken, made-taken}
use Rattle.amqp_hub.proofs.hub.Hub.poll.Goals as goal

pub invariant_of-self : goal.invariant_of-self
invariant_of-self c = (
  kept-answer c.args.number _ c.self.inside.engine c.answer.new.self _ c.self.inside.journal.items c.self.inside.counts.items c.answer.ensures.taken c.answer.ensures.rest c.self.invariant.0,
  λ running. c.self.invariant.1 (sym (over-taken c.args.number _ _ _ c.answer.ensures.taken) ∙ running),
)

pub returns-clause-none_pending : goal.returns-clause-none_pending
returns-clause-none_pending c =
    let P : Guarded → Type 0 = λ h. IfNone c.answer.result (has_ended h.engine.talk ≡ true → c.args.number < h.engine.talk.made → WasTaken c.args.number h.base.engine h.journal h.engine) in
    subst P c.self.view_is
    (none-pending c.args.number c.answer.result c.self.inside.engine c.answer.new.self _ c.self.inside.journal.items c.self.inside.counts.items c.answer.ensures.taken c.self.invariant.0)

pub returns-clause-channel : goal.returns-clause-channel
returns-clause-channel c =
    names-itself c.args.number _ c.self.inside.engine c.answer.new.self _ c.self.inside.journal.items c.self.inside.counts.items c.answer.ensures.taken c.self.invariant.0

pub returns-clause-promises : goal.returns-clause-promises
returns-clause-promises c = omega (arith, ap (λ (h : Guarded). h.engine.talk.made) c.self.view_is, made-taken c.args.number _ _ _ c.answer.ensures.taken)
