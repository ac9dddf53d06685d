use Rattle.std.proofs.Common.{◌∙◌, ap, sym}
use Rattle.amqp_channels.specs.Channels.{Listing, opening_in}
use Rattle.amqp_channels.proofs.Openings.{opening-found}
use Rattle.amqp_channels.proofs.channels.Channels.opened_by.Goals as goal

pub returns : goal.returns
returns c =
    let openings = c.self.inside.openings.entries in
    let listed = c.self.inside.listed.entries in
    c.copied.ensures ∙ c.get.ensures.value
    ∙ sym (opening-found c.args.opened _ listed c.len.ensures.ordered (λ n. c.self.invariant.1 c.args.opened n))
    ∙ ap (λ (l : Listing). opening_in c.args.opened l.listed) c.self.view_is
