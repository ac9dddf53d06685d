use Rattle.std.proofs.Common.{◌≡◌, ◌∙◌, List, Vec, Global, sym, subst, arith}
use Rattle.amqp_answers.specs.declared.handed.Handed.{Handed}
use Rattle.amqp_locked.specs.Backlog.{frames_kept, AreAll}
use Rattle.amqp_locked.proofs.Kept.{stands-at, none-left, all-there}
use Rattle.amqp_locked.proofs.backlog.Backlog.take.Goals as goal

pub returns-then-is_empty-clause-none : goal.returns-then-is_empty-clause-none
returns-then-is_empty-clause-none c =
    c.in_ok-at.ensures.there
    ∙ stands-at c.in_ok-at.at c.args.self.now.lanes.items c.index_mut-lane.result.now
    (omega (arith, c.in_ok-at.ensures.within, c.args.self.now.lanes.ok)) c.index_mut-lane.ensures.value
    ∙ none-left c.index_mut-lane.result.now.frames.len c.index_mut-lane.result.now.frames.items
    (omega (arith, c.index_mut-lane.result.now.frames.ok)) (sym c.is_empty.ensures ∙ c.if-is_empty.true)

pub returns-clause-some : goal.returns-clause-some
returns-clause-some c =
    let kept : List Handed = frames_kept c.args.opened c.args.self.now.lanes.items in
    let P : Vec Handed Global → Type 0 = λ (v : Vec Handed Global). AreAll kept v.items in
    subst P (sym c.replace.ensures.value)
    (all-there c.index_mut-lane.result.now.frames.len kept c.index_mut-lane.result.now.frames.items
    (c.in_ok-at.ensures.there
    ∙ stands-at c.in_ok-at.at c.args.self.now.lanes.items c.index_mut-lane.result.now
    (omega (arith, c.in_ok-at.ensures.within, c.args.self.now.lanes.ok)) c.index_mut-lane.ensures.value)
    (omega (arith, c.index_mut-lane.result.now.frames.ok)) (sym c.is_empty.ensures ∙ c.if-is_empty.false))
