use Rattle.std.proofs.Common.{◌∙◌, ap, ◌+◌}
use Rattle.amqp_frame.specs.Lengths.{capped}
use Rattle.amqp_outbox.specs.Queued.{unsent_octets}
use Rattle.amqp_rules.specs.Talk.{Talk}
use Rattle.amqp_rules.specs.Commands.{above_limit}
use Rattle.amqp_commands.proofs.PublishLengths.{capped-more}
use Rattle.amqp_session.proofs.session.Session.overflow.Goals as goal

pub returns : goal.returns
returns c = λ octets more.
    let t = c.args.self.now in
    let limit = c.outbox_limit.ensures ∙ ap (λ (u : Talk). u.config.options.outbox_limit) c.self.view_is in
    let waiting = c.waiting_len.ensures ∙ ap (λ (u : Talk). unsent_octets u.outbox) c.self.view_is in
    c.above_limit.ensures
    ∙ ap (λ o. above_limit o c.saturating_add-octets.result) limit
    ∙ ap (above_limit t.config.options.outbox_limit)
    (capped-more (unsent_octets t.outbox) octets c.args.more c.saturating_add-octets.result more (c.saturating_add-octets.ensures ∙ ap (λ n. capped (n + c.args.more)) waiting))
