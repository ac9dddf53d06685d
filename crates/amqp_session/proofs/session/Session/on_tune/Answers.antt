use Rattle.std.proofs.Common.{◌≡◌, ◌∙◌, ap, sym, Some}
use Rattle.amqp_outbox.specs.Items.{plain_item, dropped_with}
use Rattle.amqp_session.proofs.session.Session.on_tune.Goals as goal

pub say_both-requires : goal.say_both-requires
say_both-requires c =
    let first : dropped_with c.plain-tune_ok.result ≡ Some 0 = ap dropped_with (c.plain-tune_ok.ensures ∙ ap (plain_item 0) c.tune_ok.ensures) in
    let second : dropped_with c.plain-open.result ≡ Some 0 = ap dropped_with (c.plain-open.ensures ∙ ap (plain_item 0) c.in_ok-open_vhost.ensures) in
    first ∙ sym second
