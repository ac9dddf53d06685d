-- What is then left to do leads where the whole does.
use Rattle.std.proofs.Common.{◌≡◌, length}
use Rattle.amqp_outgoing.specs.Outgoings.{queue_of, marks}
use Rattle.amqp_promise.specs.declared.state.ConnectionState.TheVariants.{Closing}
use Rattle.amqp_promise.specs.declared.error.ErrorKind.TheVariants.{InvalidConnectionState}
use Rattle.amqp_rules.specs.Changes.{drop_groups}
use Rattle.amqp_answers.specs.Seen.{made_in, promised, HasPlace}
use Rattle.amqp_session.proofs.Rejecting.{with_parts}
use Rattle.amqp_session.proofs.session.dropping.drop_groups.Given as goal

abbrev pub invariant-groups : goal.invariant-groups
invariant-groups l = record {
  goes_on : drop_groups (InvalidConnectionState Closing) (with_parts (queue_of l.outgoing) (promised l.promises))
      ≡ drop_groups (InvalidConnectionState Closing) (with_parts (queue_of l.fn.outgoing) (promised l.fn.promises));
  made : made_in l.promises ≡ made_in l.fn.promises;
  place : HasPlace l.fn.promises → HasPlace l.promises;
  marks : marks l.outgoing ≡ marks l.fn.outgoing;
}

abbrev pub decreases-groups : goal.decreases-groups
decreases-groups l = length (queue_of l.outgoing).publish
