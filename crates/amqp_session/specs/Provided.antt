-- What the provider answered, as the code takes it.
use Rattle.std.specs.Prelude.{List, [], ◌∷◌, Option, Some, None, IsTrue}
use Rattle.amqp_auth.specs.declared.asked.Asked.{Asked as ProviderAnswer}
use Rattle.amqp_auth.specs.declared.asked.Asked.TheVariants as answer
use Rattle.amqp_session.specs.declared.session.asking.Login.{Login}
use Rattle.amqp_session.specs.declared.session.asking.Login.TheVariants.{Started, Challenged}
use Rattle.amqp_session.specs.declared.session.asking.Validity.{Validity}
use Rattle.amqp_session.specs.declared.session.asking.Validity.TheVariants.{Unasked, Valid, Expired}
use Rattle.amqp_rules.specs.Ticks.{asks_validity, has_expired}
use Rattle.amqp_rules.specs.Talk.{Talk}

-- the answers to a frame
abbrev pub login_answers : Option Login → List ProviderAnswer
login_answers None = []
login_answers (Some (Started mechanism said)) = answer.Mechanism mechanism ∷ answer.Starter said ∷ []
login_answers (Some (Challenged said)) = answer.Challenge said ∷ []

-- the answers to what is asked of a secret
abbrev pub validity_answers : Validity → List ProviderAnswer
validity_answers Unasked = []
validity_answers (Valid time) = answer.ValidFor time ∷ []
validity_answers (Expired time said) = answer.ValidFor time ∷ answer.Refreshed said ∷ []

-- a new secret was asked for where the old one has expired
abbrev pub IsAsked : Validity → Talk → Type 0
IsAsked (Expired time said) t = IsTrue (asks_validity t) × IsTrue (has_expired time t)
IsAsked _ t = Unit {0}
