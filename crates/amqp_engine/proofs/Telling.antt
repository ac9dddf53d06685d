-- What is told one after another.
use Rattle.std.proofs.Common.{◌≡◌, Option, Some, None, IfSome, option_map, [], ap, ◌∙◌, subst}
use Rattle.amqp_engine.specs.Log.{Log}
use Rattle.amqp_engine.specs.Tell.{Tells, TellsOffers}

pub tells-then : (f g : Log → Log) (P Q : Log → Type 0) (x y z : Option Log) → Tells f P x y → Tells g Q y z
    → Tells (λ a. g (f a)) (λ a. P a × Q (f a)) x z
tells-then f g P Q None y z s t = record { told = t.told ∙ ap (option_map g) s.told; plays = tt }
tells-then f g P Q (Some a) y z s t =
    let R : Option Log → Type 0 = λ o. IfSome o Q in
    record { told = t.told ∙ ap (option_map g) s.told; plays = (s.plays, subst R s.told t.plays) }

pub tells-as : (f g : Log → Log) (P Q : Log → Type 0) (x y : Option Log) → ((a : Log) → f a ≡ g a) → ((a : Log) → P a → Q a)
    → Tells f P x y → Tells g Q x y
tells-as f g P Q None y same plays t = record { told = t.told; plays = tt }
tells-as f g P Q (Some a) y same plays t = record { told = t.told ∙ ap Some (same a); plays = plays a t.plays }

-- a port that plays a script has no say in this
pub tells-freely : (f : Log → Log) (x y : Option Log) → y ≡ option_map f x → Tells f (λ a. Unit {0}) x y
tells-freely f None y h = record { told = h; plays = tt }
tells-freely f (Some a) y h = record { told = h; plays = tt }

-- no offer is told
pub tells-none : (x y : Option Log) → y ≡ x → TellsOffers [] x y
tells-none None y h = record { told = h; plays = tt }
tells-none (Some a) y h = record { told = h; plays = tt }
