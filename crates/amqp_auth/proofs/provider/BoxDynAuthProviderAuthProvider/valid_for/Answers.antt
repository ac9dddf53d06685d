use Rattle.std.proofs.Common.{subst}
use Rattle.amqp_auth.specs.Providers.{Lasts}
use Rattle.amqp_auth.proofs.provider.BoxDynAuthProviderAuthProvider.valid_for.Goals as goal

pub returns : goal.returns
returns g c =
    subst (λ p. Lasts ((goal.AuthProvider-dyn g p).allows p.1) c.valid_for.result) c.deref_box-1.ensures.1 c.valid_for.ensures
