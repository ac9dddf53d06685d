-- What is then left to do leads where the whole does.
use Rattle.std.proofs.Common.{◌≡◌, ℕ, Option, length}
use Rattle.amqp_outgoing.specs.Outgoings.{queue_of, marks, HasFramePlaces}
use Rattle.amqp_promise.specs.declared.error.ErrorKind.{ErrorKind}
use Rattle.amqp_answers.specs.declared.promises.Why.{Why}
use Rattle.amqp_rules.specs.Changes.{rejected_each, promises_on, without_all_on}
use Rattle.amqp_answers.specs.Seen.{made_in, promised, error_of, HasWhy}
use Rattle.amqp_session.proofs.session.dropping.drop_channel_of.Given as goal

abbrev pub invariant-things : goal.invariant-things
invariant-things l = record {
  left : without_all_on l.id (queue_of l.outgoing) ≡ without_all_on l.id (queue_of l.fn.outgoing);
  marks : marks l.outgoing ≡ marks l.fn.outgoing;
  frames : (k : Option ℕ) (n octets : ℕ) → HasFramePlaces k n octets l.fn.outgoing → HasFramePlaces k n octets l.outgoing;
  made : made_in l.promises ≡ made_in l.fn.promises;
  whys : (why : Why) → error_of why l.promises ≡ error_of why l.fn.promises;
  slots : (e : ErrorKind) → HasWhy l.why e l.fn.promises
      → rejected_each e (promises_on l.id (queue_of l.outgoing)) (promised l.promises)
      ≡ rejected_each e (promises_on l.id (queue_of l.fn.outgoing)) (promised l.fn.promises);
}

abbrev pub decreases-things : goal.decreases-things
decreases-things l = length (promises_on l.id (queue_of l.outgoing))
