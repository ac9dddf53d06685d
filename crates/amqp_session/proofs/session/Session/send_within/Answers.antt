use Rattle.std.proofs.Common.{◌≡◌, ◌∙◌, ap, sym, [], ◌∷◌, Some, None}
use Rattle.amqp_frame.specs.Lengths.{capped}
use Rattle.amqp_outbox.proofs.Cases.{on-ok}
use Rattle.amqp_commands.specs.Publishing.{octets_of_frames}
use Rattle.amqp_rules.specs.Commands.{too_full, unless_full, queue_send}
use Rattle.amqp_commands.proofs.PublishLengths.{frame-alone}
use Rattle.amqp_session.proofs.session.Session.send_within.Goals as goal

pub returns-in-Some-clause-ok : goal.returns-in-Some-clause-ok
returns-in-Some-clause-ok c =
    let t = c.args.self.now in
    let frames = c.args.frame ∷ [] in
    let full : too_full frames t ≡ Some c.in-Some.octets =
    sym (c.overflow.ensures (octets_of_frames frames) (c.encoded_len.ensures ∙ ap capped (sym (frame-alone c.args.frame)))) ∙ c.in-Some.is in
    on-ok c.refuse.result (λ k. k ∙ ap (λ o. unless_full o (queue_send c.args.id c.args.frame) t) (sym full)) c.refuse.ensures.ok

pub returns-in-None-clause-ok : goal.returns-in-None-clause-ok
returns-in-None-clause-ok c =
    let t = c.args.self.now in
    let frames = c.args.frame ∷ [] in
    let full : too_full frames t ≡ None =
    sym (c.overflow.ensures (octets_of_frames frames) (c.encoded_len.ensures ∙ ap capped (sym (frame-alone c.args.frame)))) ∙ c.in-None.is in
    on-ok c.queue_send.result (λ k. k ∙ ap (λ o. unless_full o (queue_send c.args.id c.args.frame) t) (sym full)) c.queue_send.ensures.ok
