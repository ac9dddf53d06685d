-- What is left to search finds what the whole does.
use Rattle.std.proofs.Common.{◌≡◌, ◌-◌, not}
use Rattle.std.specs.Prelude.{find}
use Rattle.std.specs.List.{range_with_len}
use Rattle.amqp_channels.specs.NumberSet.{is_member}
use Rattle.amqp_channels.proofs.numbers.Numbers.first_absent.Given as goal

abbrev pub invariant-numbers : goal.invariant-numbers
invariant-numbers l =
    find (λ n. not (is_member l.self n)) (range_with_len l.id (l.until - l.id))
    ≡ find (λ n. not (is_member l.self n)) (range_with_len l.from (l.until - l.from))

abbrev pub decreases-numbers : goal.decreases-numbers
decreases-numbers l = l.until - l.id
