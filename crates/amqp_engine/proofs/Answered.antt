-- What a promise is answered, by what is held of it and by the end.
use Rattle.std.proofs.Common.{◌≡◌, ap, refl, Option, Some, None, Result, Ok, Err}
use Rattle.amqp_promise.specs.declared.error.ErrorKind.{ErrorKind}
use Rattle.amqp_promise.specs.declared.error.ErrorKind.TheVariants.{ChannelsLimitReached}
use Rattle.amqp_answers.specs.declared.answer.Answer.{Answer}
use Rattle.amqp_answers.specs.declared.answer.Answer.TheVariants as says
use Rattle.amqp_rules.specs.Answers.{answer_in}
use Rattle.amqp_carried_rules.specs.CommandFrames.{is_sent}
use Rattle.amqp_engine.specs.Carried.{says_sent}

-- a promise is answered Sent where that is held of it
pub says-as : (ended : Option (Result (Unit {0}) ErrorKind)) (o : Option (Option (Result Answer ErrorKind))) → says_sent (answer_in ended o) ≡ is_sent o
says-as ended None = refl
says-as None (Some None) = refl
says-as (Some (Ok closed)) (Some None) = refl
says-as (Some (Err e)) (Some None) = refl
says-as ended (Some (Some (Ok says.Sent))) = refl
says-as ended (Some (Some (Ok x))) = refl
says-as ended (Some (Some (Err e))) = refl

-- what is answered, but not with an error, is held
pub answer-held : (ended : Option (Result (Unit {0}) ErrorKind)) (o : Option (Option (Result Answer ErrorKind))) (x : Answer) → answer_in ended o ≡ Some (Ok x) → o ≡ Some (Some (Ok x))
answer-held ended None x is = absurd cc
answer-held None (Some None) x is = absurd cc
answer-held (Some (Ok closed)) (Some None) x is = absurd cc
answer-held (Some (Err e)) (Some None) x is = absurd cc
answer-held ended (Some (Some answer)) x is = ap (λ (y : Option (Result Answer ErrorKind)). Some y) is

-- where there is an answer, a promise was made that was not taken
pub there : (ended : Option (Result (Unit {0}) ErrorKind)) (o : Option (Option (Result Answer ErrorKind))) (a : Result Answer ErrorKind) → answer_in ended o ≡ Some a
    → (slot : Option (Result Answer ErrorKind)) × (o ≡ Some slot)
there ended None a is = absurd cc
there ended (Some slot) a is = (slot, refl)

-- where neither what is held nor the end is so, no promise is answered that no number was free
pub answer-not : (ended : Option (Result (Unit {0}) ErrorKind)) (o : Option (Option (Result Answer ErrorKind))) → (ended ≡ Some (Err ChannelsLimitReached) → ⊥)
    → (o ≡ Some (Some (Err ChannelsLimitReached)) → ⊥) → answer_in ended o ≡ Some (Err ChannelsLimitReached) → ⊥
answer-not ended None not none is = cc
answer-not None (Some None) not none is = cc
answer-not (Some (Ok closed)) (Some None) not none is = cc
answer-not (Some (Err e)) (Some None) not none is =
    not (let same : e ≡ ChannelsLimitReached = cc in ap (λ (x : ErrorKind). Some (Err x)) same)
answer-not ended (Some (Some answer)) not none is = none (ap (λ (x : Option (Result Answer ErrorKind)). Some x) is)
