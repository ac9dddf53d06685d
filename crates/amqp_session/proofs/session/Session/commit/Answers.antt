use Rattle.std.proofs.Common.{◌≡◌, ◌∙◌, ap, sym, true, Some, option_map, List, ◌++◌, ◌∷◌, []}
use Rattle.amqp_outbox.specs.declared.item.Item.{Item}
use Rattle.amqp_outbox.specs.Queued.{Queued, next_item, after_next}
use Rattle.amqp_outgoing.specs.declared.committed.Mark.{Mark}
use Rattle.amqp_outgoing.specs.Marks.{mark_of}
use Rattle.amqp_outgoing.specs.Outgoings.{queue_of, marks}
use Rattle.amqp_rules.specs.Talk.{Talk}
use Rattle.amqp_rules.specs.Writing.{writes, flows}
use Rattle.amqp_rules.proofs.Counting.{next-fits, commit-fits}
use Rattle.amqp_session.proofs.session.Session.commit.Goals as goal

pub returns-clause-frame : goal.returns-clause-frame
returns-clause-frame c =
    let t = c.args.self.now in
    let q : Queued = queue_of c.self.inside.outgoing in
    let item = c.in_ok-item.item in
    let opened : writes t ≡ true = sym c.writes.ensures ∙ c.if-not-writes.false in
    let first : next_item (flows t) t.outbox ≡ Some item =
    ap (λ (u : Talk). next_item (flows u) u.outbox) (sym c.self.view_is) ∙ ap (λ b. next_item b q) (sym c.flows-flow.ensures) ∙ c.in_ok-item.ensures.next in
    ap Some c.into_frame.ensures
    ∙ ap (option_map (λ (i : Item). i.frame)) (sym (next-fits c.args.space t item opened first c.in_ok-item.ensures.fits))

pub returns-clause-commit : goal.returns-clause-commit
returns-clause-commit c =
    let t = c.args.self.now in
    let q : Queued = queue_of c.self.inside.outgoing in
    let item = c.in_ok-item.item in
    let opened : writes t ≡ true = sym c.writes.ensures ∙ c.if-not-writes.false in
    let first : next_item (flows t) t.outbox ≡ Some item =
    ap (λ (u : Talk). next_item (flows u) u.outbox) (sym c.self.view_is) ∙ ap (λ b. next_item b q) (sym c.flows-flow.ensures) ∙ c.in_ok-item.ensures.next in
    let flow = c.flows-flow.ensures ∙ ap (λ (u : Talk). flows u) c.self.view_is in
    let left : queue_of c.commit.new.self ≡ after_next (flows t) t.outbox =
    c.in_ok-item.ensures.waits ∙ ap (λ b. after_next b q) flow ∙ ap (λ (u : Talk). after_next (flows t) u.outbox) c.self.view_is in
    let more : marks c.commit.new.self ≡ t.committed ++ mark_of item ∷ [] =
    c.in_ok-item.ensures.marks ∙ ap (λ (u : Talk). u.committed ++ mark_of item ∷ []) c.self.view_is in
    ap (λ (u : Talk). record u { outbox = queue_of c.commit.new.self; committed = marks c.commit.new.self }) c.self.view_is
    ∙ ap (λ o. record t { outbox = o; committed = marks c.commit.new.self }) left
    ∙ ap (λ (ms : List Mark). record t { outbox = after_next (flows t) t.outbox; committed = ms }) more
    ∙ sym (commit-fits c.args.space t item opened first c.in_ok-item.ensures.fits)
