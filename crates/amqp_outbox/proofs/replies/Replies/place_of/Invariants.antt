-- None of those before awaits the reply.
use Rattle.std.proofs.Common.{◌≡◌, None, take}
use Rattle.std.specs.Prelude.{find}
use Rattle.amqp_outbox.specs.Replies.{is_of}
use Rattle.amqp_outbox.proofs.replies.Replies.place_of.Given as goal

abbrev pub invariant-loop-i : goal.invariant-loop-i
invariant-loop-i l = find (is_of l.reply) (take l.i l.self.list.items) ≡ None
