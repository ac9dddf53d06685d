-- The lines so far, before those of the channels that are left, are those of all channels.
use Rattle.std.proofs.Common.{◌≡◌, ◌+◌, ◌-◌, ◌++◌}
use Rattle.std.specs.List.{flat_map, range_with_len}
use Rattle.std.specs.String.{string_bytes}
use Rattle.amqp_replay.specs.Generator.{opening_lines}
use Rattle.amqp_replay.proofs.Reports.{lines_from}
use Rattle.amqp_replay.proofs.generator.put_openings.Given as goal

abbrev pub invariant-channels : goal.invariant-channels
invariant-channels l =
    string_bytes l.out ++ lines_from opening_lines l.id (l.count + 1 - l.id)
    ≡ string_bytes l.fn.out ++ flat_map opening_lines (range_with_len 1 l.count)
