-- None of those before is the channel.
use Rattle.std.proofs.Common.{◌≡◌, None, take}
use Rattle.std.specs.Prelude.{find}
use Rattle.amqp_pool.specs.Pooled.{is_same_channel}
use Rattle.amqp_pool.proofs.looking.place_of.Given as goal

abbrev pub invariant-channels : goal.invariant-channels
invariant-channels l = find (is_same_channel l.wanted) (take l.i l.channels) ≡ None
