use Rattle.std.proofs.Common.{◌≡◌, ◌∙◌, ◌<◌, ap, sym, ℕ, nat_lt, length, arith}
use Rattle.amqp_channels.specs.declared.channels.Channel.{Channel}
use Rattle.amqp_channels.specs.Channels.{Listing}
use Rattle.amqp_channels.specs.InOrder.{agreed}
use Rattle.amqp_channels.proofs.Walking.{first-past, agreed-without, fewer-without, agreed-all}
use Rattle.amqp_channels.proofs.channels.Channels.remove_above.Goals as goal

pub channels-smaller : goal.channels-smaller
channels-smaller c =
    let top = c.args.channel_max in
    let e : ℕ × Channel = (c.in-Some.id, c.in-Some.field-0-1) in
    let listed = c.channels.self.listed in
    let fewer = fewer-without (λ (x : ℕ × Channel). nat_lt top x.0) e listed _ c.in-Some.ensures.next in
    let same = ap (λ (l : Listing). length l.listed) c.remove.ensures.gone in
    let less : length c.remove.new.self.listed < length listed = omega (arith, fewer, same) in
    less

pub channels-preserved : goal.channels-preserved
channels-preserved c =
    let top = c.args.channel_max in
    let e : ℕ × Channel = (c.in-Some.id, c.in-Some.field-0-1) in
    let listed = c.channels.self.listed in
    let before = c.channels.invariant.until in
    let after = c.remove.ensures.until in
    record {
      agreed =
          ap (λ (l : Listing). agreed top l.listed) c.remove.ensures.gone
          ∙ agreed-without e.0 top (first-past top e listed _ c.in-Some.ensures.next) listed
          ∙ c.channels.invariant.agreed;
      cursor = ap (λ (l : Listing). l.cursor) c.remove.ensures.gone ∙ c.channels.invariant.cursor;
      until = omega (arith, before, after);
    }

pub returns-clause-agreed : goal.returns-clause-agreed
returns-clause-agreed c =
    let top = c.args.channel_max in
    let is : c.channels.self.listed ≡ agreed top c.args.self.now.listed =
    sym (agreed-all top c.channels.self.listed c.in_default.ensures.none) ∙ c.channels.invariant.agreed in
    λ i. record { listed = is i; cursor = c.channels.invariant.cursor i }
