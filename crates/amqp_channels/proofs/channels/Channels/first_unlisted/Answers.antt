use Rattle.std.proofs.Common.{◌≡◌, ◌∙◌, sym, ap, not, false, ◌+◌, ◌-◌, ℕ, Bool, List, Option, Some, None, IfSome}
use Rattle.std.specs.Prelude.{find}
use Rattle.std.specs.Option.{option_or}
use Rattle.std.specs.List.{range_with_len}
use Rattle.std.proofs.lemmas.List.Folds.{find-append}
use Rattle.amqp_channels.specs.declared.channels.Channel.{Channel}
use Rattle.amqp_maps.specs.Listed.{at, has}
use Rattle.amqp_channels.specs.Channels.{Listing}
use Rattle.amqp_channels.specs.Numbering.{drawn}
use Rattle.amqp_channels.specs.NumberSet.{is_member}
use Rattle.amqp_maps.proofs.Maps.{at-absent}
use Rattle.amqp_channels.proofs.Members.{find-same}
use Rattle.amqp_channels.proofs.channels.Channels.first_unlisted.Goals as goal

module _ (numbers : List ℕ) (channels : List (ℕ × Channel)) (same : (n : ℕ) → is_member numbers n ≡ has n channels) where
  abbrev unlisted : ℕ → Bool
  unlisted n = not (has n channels)

  absent : (o : Option ℕ) (ns : List ℕ) → o ≡ find (λ n. not (is_member numbers n)) ns → find unlisted ns ≡ o
  absent o ns is = sym (is ∙ find-same _ _ (λ n. ap not (same n)) ns)

  -- the first part of the cycle, and then the rest
  in_order : (max first : ℕ) → drawn max first channels
      ≡ option_or (find unlisted (range_with_len first (max + 1 - first))) (find unlisted (range_with_len 1 (first - 1)))
  in_order max first = find-append unlisted (range_with_len first (max + 1 - first)) (range_with_len 1 (first - 1))

  not_listed : (n : ℕ) → is_member numbers n ≡ false → at n channels ≡ None
  not_listed n h = at-absent n channels (sym (same n) ∙ h)

  none_listed : (o : Option ℕ) → IfSome o (λ n. is_member numbers n ≡ false) → IfSome o (λ n. at n channels ≡ None)
  none_listed None h = h
  none_listed (Some n) h = not_listed n h

pub returns-in-Some-clause-drawn : goal.returns-in-Some-clause-drawn
returns-in-Some-clause-drawn c =
    let numbers = c.self.inside.numbers in
    let channels = c.args.self.now.listed in
    let same : (n : ℕ) → is_member numbers n ≡ has n channels = λ n. c.self.invariant.0 n ∙ ap (λ (l : Listing). has n l.listed) c.self.view_is in
    let part = range_with_len c.args.first (c.args.channel_max + 1 - c.args.first) in
    let rest = find (unlisted numbers channels same) (range_with_len 1 (c.args.first - 1)) in
    sym (in_order numbers channels same c.args.channel_max c.args.first
    ∙ ap (λ o. option_or o rest) (absent numbers channels same c.first_absent.result part c.first_absent.ensures.first ∙ c.in-Some.is))

pub returns-in-Some-clause-unlisted : goal.returns-in-Some-clause-unlisted
returns-in-Some-clause-unlisted c =
    let same : (n : ℕ) → is_member c.self.inside.numbers n ≡ has n c.args.self.now.listed = λ n. c.self.invariant.0 n ∙ ap (λ (l : Listing). has n l.listed) c.self.view_is in
    not_listed c.self.inside.numbers c.args.self.now.listed same c.in-Some.id c.in-Some.ensures.absent

pub returns-in-None-clause-drawn : goal.returns-in-None-clause-drawn
returns-in-None-clause-drawn c =
    let numbers = c.self.inside.numbers in
    let channels = c.args.self.now.listed in
    let same : (n : ℕ) → is_member numbers n ≡ has n channels = λ n. c.self.invariant.0 n ∙ ap (λ (l : Listing). has n l.listed) c.self.view_is in
    let part = range_with_len c.args.first (c.args.channel_max + 1 - c.args.first) in
    let others = range_with_len 1 (c.args.first - 1) in
    let rest = find (unlisted numbers channels same) others in
    sym (in_order numbers channels same c.args.channel_max c.args.first
    ∙ ap (λ o. option_or o rest) (absent numbers channels same c.first_absent.result part c.first_absent.ensures.first ∙ c.in-None.is)
    ∙ absent numbers channels same c.first_absent-in-None.result others c.first_absent-in-None.ensures.first)

pub returns-in-None-clause-unlisted : goal.returns-in-None-clause-unlisted
returns-in-None-clause-unlisted c =
    let same : (n : ℕ) → is_member c.self.inside.numbers n ≡ has n c.args.self.now.listed = λ n. c.self.invariant.0 n ∙ ap (λ (l : Listing). has n l.listed) c.self.view_is in
    none_listed c.self.inside.numbers c.args.self.now.listed same c.first_absent-in-None.result c.first_absent-in-None.ensures.absent
