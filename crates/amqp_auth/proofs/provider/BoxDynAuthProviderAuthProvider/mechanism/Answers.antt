use Rattle.std.proofs.Common.{subst}
use Rattle.amqp_auth.specs.Providers.{Names}
use Rattle.amqp_auth.proofs.provider.BoxDynAuthProviderAuthProvider.mechanism.Goals as goal

pub returns : goal.returns
returns g c =
    subst (λ p. Names ((goal.AuthProvider-dyn g p).allows p.1) c.mechanism.result) c.deref_box-1.ensures.1 c.mechanism.ensures
