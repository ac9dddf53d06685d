use Rattle.std.proofs.Common.{◌≡◌, ◌∙◌, ap, sym, None, option_copied, find, is_some}
use Rattle.amqp_outbox.specs.Listed.{at}
use Rattle.amqp_outbox.specs.Replies.{is_of}
use Rattle.amqp_outbox.proofs.ByChannel.{awaited-seen, none-awaited}
use Rattle.amqp_outbox.proofs.awaiting.Awaiting.awaits.Goals as goal

pub returns-in-Some : goal.returns-in-Some
returns-in-Some c =
    let es = c.args.self.now.lists.entries in
    c.awaits.ensures
    ∙ ap (λ list. is_some (find (is_of c.args.reply) list))
    (sym (awaited-seen c.args.channel es c.len.ensures.ordered c.in-Some.list.now (sym c.in-Some.ensures.value)))

pub returns-in-None : goal.returns-in-None
returns-in-None c =
    let es = c.args.self.now.lists.entries in
    let none : at c.args.channel es ≡ None = sym c.get.ensures.value ∙ ap option_copied c.in-None.is in
    sym (ap (λ list. is_some (find (is_of c.args.reply) list)) (none-awaited c.args.channel es c.len.ensures.ordered none))
