-- What is seen of the channels from here on is what is seen of all, but for those that wait before.
use Rattle.std.proofs.Common.{◌≡◌, ◌+◌, length, drop}
use Rattle.std.specs.Prelude.{find}
use Rattle.amqp_pool.specs.Lost.{is_ready, without_lost}
use Rattle.amqp_pool.proofs.looking.look.Given as goal

abbrev pub invariant-idle : goal.invariant-idle
invariant-idle l =
    record {
      first : find (is_ready l.session) (without_lost l.session (drop l.channel-index l.idle))
          ≡ find (is_ready l.session) (without_lost l.session l.idle);
      count : l.waiting + length (without_lost l.session (drop l.channel-index l.idle)) ≡ length (without_lost l.session l.idle);
    }
