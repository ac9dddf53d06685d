use Rattle.std.proofs.Common.{◌≡◌, ◌∙◌, ◌≤◌, ap, sym, not, None, arith, tests}
use Rattle.amqp_channels.specs.Channels.{Listing}
use Rattle.amqp_channels.specs.Numbering.{drawn}
use Rattle.amqp_channels.proofs.Drawing.{none-drawn, all-listed}
use Rattle.amqp_types.proofs.Small.{none-from}
use Rattle.amqp_channels.proofs.channels.Channels.draw.Goals as goal

pub returns-then-channel_max-self-clause-drawn : goal.returns-then-channel_max-self-clause-drawn
returns-then-channel_max-self-clause-drawn c =
    let top = c.args.channel_max in
    let within : c.args.first ≤ top = grind (arith, tests, c.if-within.true) in
    let known : top ≤ c.self.inside.full = omega (arith, c.if-channel_max-self.true) in
    sym (none-drawn c.self.inside.listed.entries top c.args.first c.requires within
    (λ n low high. sym (c.self.invariant.0 n) ∙ c.self.invariant.2 n low (omega (arith, high, known))))
    ∙ ap (λ (l : Listing). drawn top c.args.first l.listed) c.self.view_is

pub invariant_of-self : goal.invariant_of-self
invariant_of-self c =
    let listed = c.self.inside.listed.entries in
    let top = c.args.channel_max in
    let none : c.first_unlisted-drawn.result ≡ None = none-from c.first_unlisted-drawn.result (c.is_none.ensures ∙ ap not c.if-is_none.true) in
    let nowhere : drawn top c.args.first listed ≡ None =
    ap (λ (l : Listing). drawn top c.args.first l.listed) c.self.view_is ∙ sym c.first_unlisted-drawn.ensures.drawn ∙ none in (
      c.self.invariant.0,
      c.self.invariant.1,
      λ n low high. c.self.invariant.0 n ∙ all-listed listed top c.args.first nowhere n low high,
      c.self.invariant.3,
      c.self.invariant.4,
    )
