-- What is then left to do leads where the whole does.
use Rattle.std.proofs.Common.{◌≡◌, length}
use Rattle.amqp_types.specs.declared.word.Word.TheVariants as word
use Rattle.amqp_outgoing.specs.Outgoings.{queue_of, marks}
use Rattle.amqp_promise.specs.declared.state.ChannelState.TheVariants as channel
use Rattle.amqp_promise.specs.declared.error.ErrorKind.TheVariants.{InvalidChannelState}
use Rattle.amqp_rules.specs.Changes.{rejected_each, replies_on, without_replies_on}
use Rattle.amqp_answers.specs.Seen.{made_in, promised}
use Rattle.amqp_session.proofs.session.dropping.drop_replies_of.Given as goal

abbrev pub invariant-replies : goal.invariant-replies
invariant-replies l = record {
  left : without_replies_on l.id (queue_of l.outgoing) ≡ without_replies_on l.id (queue_of l.fn.outgoing);
  marks : marks l.outgoing ≡ marks l.fn.outgoing;
  made : made_in l.promises ≡ made_in l.fn.promises;
  slots : rejected_each (InvalidChannelState channel.Closed word.ChannelCloseOkReceived) (replies_on l.id (queue_of l.outgoing)) (promised l.promises)
      ≡ rejected_each (InvalidChannelState channel.Closed word.ChannelCloseOkReceived) (replies_on l.id (queue_of l.fn.outgoing)) (promised l.fn.promises);
}

abbrev pub decreases-replies : goal.decreases-replies
decreases-replies l = length (replies_on l.id (queue_of l.outgoing))
