use Rattle.std.proofs.Common.{◌∙◌, ◌<◌, ap, ℕ, nat_le, List, arith}
use Rattle.std.specs.Prelude.{filter}
use Rattle.std.specs.Map.{keys_of}
use Rattle.amqp_channels.specs.declared.channels.Channel.{Channel}
use Rattle.amqp_channels.proofs.Walking.{none-agreed, not-agreed}
use Rattle.amqp_channels.proofs.channels.Channels.next_up_to.Goals as goal

pub returns-else-id-channel_max-clause-none : goal.returns-else-id-channel_max-clause-none
returns-else-id-channel_max-clause-none c =
    let top = c.args.channel_max in
    let id = c.in_ok-id.id in
    let above : top < id = omega (arith, c.if-id-channel_max.false) in
    ap (λ (es : List (ℕ × Channel)). filter (λ n. nat_le n top) (keys_of es)) c.in_ok-id.ensures.next
    ∙ not-agreed id top _ above (none-agreed id top c.args.self.now.listed above)
