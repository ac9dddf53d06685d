use Rattle.std.proofs.Common.{◌≡◌, ◌∙◌, ◌<◌, ap, sym, refl, subst, ℕ, List, length, Some, option_map, arith}
use Rattle.amqp_channels.specs.declared.channels.Channel.{Channel}
use Rattle.amqp_maps.specs.Listed.{put}
use Rattle.amqp_channels.specs.Channels.{Listing}
use Rattle.amqp_channels.specs.Kept.{reconnecting, kept}
use Rattle.amqp_channels.specs.InOrder.{listed_after}
use Rattle.amqp_channels.proofs.Walking.{Walked, walked-begin, walked-end, walked-at, walked-put, walked-without, left-put, left-without}
use Rattle.amqp_channels.proofs.channels.Channels.keep_open.Goals as goal

pub channels-init : goal.channels-init
channels-init c = record { walked = walked-begin c.args.self.now.listed; cursor = refl; until = omega arith }

pub set-requires : goal.set-requires
set-requires c =
    let e : ℕ × Channel = (c.in-Some.id, c.in-Some.channel) in
    ap (option_map (λ (y : Channel). y.opened))
    (walked-at c.channels.last c.args.self.now.listed c.channels.self.listed e c.channels.invariant.walked c.next_after.ensures.ordered c.in-Some.ensures.next)
    ∙ ap (λ (y : Channel). Some y.opened) (sym c.reconnecting.ensures)

pub channels-smaller-then-is_kept : goal.channels-smaller-then-is_kept
channels-smaller-then-is_kept c =
    let e : ℕ × Channel = (c.in-Some.id, c.in-Some.channel) in
    let listed = c.channels.self.listed in
    let now : c.set.new.self.listed ≡ put e.0 (reconnecting e.1) listed =
    ap (λ (l : Listing). l.listed) c.set.ensures.set ∙ ap (λ (y : Channel). put e.0 y listed) c.reconnecting.ensures in
    let left : listed_after (Some e.0) c.set.new.self.listed ≡ listed_after (Some e.0) listed =
    ap (listed_after (Some e.0)) now
    ∙ left-put c.channels.last c.args.self.now.listed listed e c.channels.invariant.walked c.next_after.ensures.ordered c.in-Some.ensures.next in
    let same = ap length left in
    let more = ap length c.in-Some.ensures.next in
    let less : length (listed_after (Some e.0) c.set.new.self.listed) < length (listed_after c.channels.last listed) = omega (arith, same, more) in
    less

pub channels-preserved-then-is_kept : goal.channels-preserved-then-is_kept
channels-preserved-then-is_kept c =
    let e : ℕ × Channel = (c.in-Some.id, c.in-Some.channel) in
    let begun = c.args.self.now.listed in
    let listed = c.channels.self.listed in
    let now : c.set.new.self.listed ≡ put e.0 (reconnecting e.1) listed =
    ap (λ (l : Listing). l.listed) c.set.ensures.set ∙ ap (λ (y : Channel). put e.0 y listed) c.reconnecting.ensures in
    let P : List (ℕ × Channel) → Type 0 = λ es. Walked (Some e.0) begun es in
    let before = c.channels.invariant.until in
    let after = c.set.ensures.until in
    record {
      walked =
          subst P (sym now)
          (walked-put c.channels.last begun listed e c.channels.invariant.walked c.next_after.ensures.ordered c.in-Some.ensures.next (sym c.is_kept.ensures ∙ c.if-is_kept.true));
      cursor = ap (λ (l : Listing). l.cursor) c.set.ensures.set ∙ c.channels.invariant.cursor;
      until = omega (arith, before, after);
    }

pub channels-smaller : goal.channels-smaller
channels-smaller c =
    let e : ℕ × Channel = (c.in-Some.id, c.in-Some.channel) in
    let listed = c.channels.self.listed in
    let left : listed_after (Some e.0) c.remove.new.self.listed ≡ listed_after (Some e.0) listed =
    ap (λ (l : Listing). listed_after (Some e.0) l.listed) c.remove.ensures.gone
    ∙ left-without c.channels.last c.args.self.now.listed listed e c.channels.invariant.walked c.next_after.ensures.ordered c.in-Some.ensures.next in
    let same = ap length left in
    let more = ap length c.in-Some.ensures.next in
    let less : length (listed_after (Some e.0) c.remove.new.self.listed) < length (listed_after c.channels.last listed) = omega (arith, same, more) in
    less

pub channels-preserved : goal.channels-preserved
channels-preserved c =
    let e : ℕ × Channel = (c.in-Some.id, c.in-Some.channel) in
    let begun = c.args.self.now.listed in
    let listed = c.channels.self.listed in
    let P : List (ℕ × Channel) → Type 0 = λ es. Walked (Some e.0) begun es in
    let before = c.channels.invariant.until in
    let after = c.remove.ensures.until in
    record {
      walked =
          subst P (sym (ap (λ (l : Listing). l.listed) c.remove.ensures.gone))
          (walked-without c.channels.last begun listed e c.channels.invariant.walked c.next_after.ensures.ordered c.in-Some.ensures.next (sym c.is_kept.ensures ∙ c.if-is_kept.false));
      cursor = ap (λ (l : Listing). l.cursor) c.remove.ensures.gone ∙ c.channels.invariant.cursor;
      until = omega (arith, before, after);
    }

pub returns-clause-kept : goal.returns-clause-kept
returns-clause-kept c =
    let is : c.channels.self.listed ≡ kept c.args.self.now.listed =
    walked-end c.channels.last c.args.self.now.listed c.channels.self.listed c.channels.invariant.walked c.in_default.ensures.none in
    λ i. record { listed = is i; cursor = c.channels.invariant.cursor i }
