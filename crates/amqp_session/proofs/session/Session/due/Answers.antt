use Rattle.std.proofs.Common.{◌∙◌, sym, ap, subst}
use Rattle.amqp_outbox.proofs.Cases.{on-ok}
use Rattle.amqp_session.specs.declared.session.asking.Validity.{Validity}
use Rattle.amqp_rules.specs.Talk.{Talk}
use Rattle.amqp_rules.specs.Ticks.{heartbeat_due, secret_due}
use Rattle.amqp_session.specs.Provided.{validity_answers, IsAsked}
use Rattle.amqp_rules.proofs.Hearing.{unasked-kept, valid-kept, expired-done}
use Rattle.amqp_session.proofs.session.Session.due.Goals as goal

pub returns-in-Unasked-clause-ok : goal.returns-in-Unasked-clause-ok
returns-in-Unasked-clause-ok c =
    let x : Talk = heartbeat_due c.args.self.now in
    on-ok c.heartbeat_due.result
    (λ done. done ∙ sym (unasked-kept x) ∙ ap (λ (v : Validity). secret_due (validity_answers v) x) (sym c.in-Unasked.is))
    c.heartbeat_due.ensures.ok

pub returns-in-Valid-clause-ok : goal.returns-in-Valid-clause-ok
returns-in-Valid-clause-ok c =
    let x : Talk = heartbeat_due c.args.self.now in
    on-ok c.heartbeat_due-in-Valid.result
    (λ done. done ∙ sym (valid-kept c.in-Valid.field-0 x) ∙ ap (λ (v : Validity). secret_due (validity_answers v) x) (sym c.in-Valid.is))
    c.heartbeat_due-in-Valid.ensures.ok

pub returns-in-Expired-clause-ok : goal.returns-in-Expired-clause-ok
returns-in-Expired-clause-ok c =
    let t : Talk = c.args.self.now in
    let x : Talk = heartbeat_due t in
    let asked = subst (λ (v : Validity). IsAsked v t) c.in-Expired.is c.requires in
    on-ok c.refreshed.result
    (λ done. done ∙ sym (expired-done c.in-Expired.field-0 c.in-Expired.said t asked.0 asked.1) ∙ ap (λ (v : Validity). secret_due (validity_answers v) x) (sym c.in-Expired.is))
    c.refreshed.ensures.ok
