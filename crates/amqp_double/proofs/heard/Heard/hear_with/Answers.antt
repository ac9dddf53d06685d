use Rattle.std.proofs.Common.{ℕ, List, ap, refl}
use Rattle.amqp_double.specs.Doubles.{with_client}
use Rattle.amqp_double.specs.Hearing.{double_of}
use Rattle.amqp_double.proofs.Taking.{heard_on}
use Rattle.amqp_double.proofs.heard.Heard.hear_with.Goals as goal

pub returns-in-Ok-clause-heard : goal.returns-in-Ok-clause-heard
returns-in-Ok-clause-heard g c =
    heard_on c.args.self.now _ c.arrivals_with.new.self c.take_all.new.self c.args.bytes.now
    (ap (λ (xs : List ℕ). with_client xs (double_of c.args.self.now)) c.in_ok-extend_from_slice.ensures.items) refl c.arrivals_with.ensures.unchanged c.take_all.ensures.heard
