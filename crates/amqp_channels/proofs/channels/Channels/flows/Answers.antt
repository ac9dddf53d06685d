use Rattle.std.proofs.Common.{◌∙◌, ap}
use Rattle.std.specs.Prelude.{nat_eq}
use Rattle.amqp_channels.specs.Channels.{Listing, all_flow}
use Rattle.amqp_channels.proofs.Flowing.{none-stopped}
use Rattle.amqp_channels.proofs.channels.Channels.flows.Goals as goal

pub returns : goal.returns
returns c =
    ap (λ k. nat_eq k 0) c.self.invariant.3
    ∙ none-stopped c.self.inside.listed.entries
    ∙ ap (λ (l : Listing). all_flow l.listed) c.self.view_is
