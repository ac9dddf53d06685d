-- The numbers so far, before those of the words that are left, are those of all words.
use Rattle.std.proofs.Common.{◌≡◌}
use Rattle.std.specs.List.{slice_split}
use Rattle.std.specs.Option.{option_copied}
use Rattle.amqp_replay.specs.Setup.{is_blank, numbers_of}
use Rattle.amqp_replay.proofs.DelayLemmas.{after_numbers, rest_numbers}
use Rattle.amqp_replay.proofs.DataLemmas.{rest_length}
use Rattle.amqp_replay.proofs.setup.numbers.Given as goal

abbrev pub invariant-words : goal.invariant-words
invariant-words l = after_numbers l.found (rest_numbers (option_copied l.rest)) ≡ numbers_of (slice_split is_blank l.text)

abbrev pub decreases-words : goal.decreases-words
decreases-words l = rest_length (option_copied l.rest)
