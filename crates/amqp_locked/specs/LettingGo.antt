-- What nobody will take is taken and let go.
use Rattle.std.specs.Prelude.{◌≡◌, ◌||◌, not, ℕ, zero, suc, if◌then◌else◌, Bool, true, false, List, [], ◌∷◌, ◌++◌, Option, Some, None, is_some, Result}
use Rattle.amqp_promise.specs.declared.error.ErrorKind.{ErrorKind}
use Rattle.amqp_answers.specs.declared.answer.Answer.{Answer}
use Rattle.amqp_rules.specs.Talk.{Talk, has_ended}
use Rattle.amqp_rules.specs.Answers.{Takes, take_frames}
use Rattle.amqp_rules.specs.Queries.{opening}
use Rattle.amqp_hub.specs.declared.due.Owner.{Owner}
use Rattle.amqp_hub.specs.declared.due.Owner.TheVariants as owner
use Rattle.amqp_locked.specs.Taking.{is_refused}

-- an answer may still come, or still be there: none was there and the session goes on, or memory for the copy of an
-- error may have been refused
abbrev pub may_come : Option (Result Answer ErrorKind) → Bool → Bool
may_come None ended = not ended
may_come (Some answer) ended = is_refused answer

-- what this owned is taken, as far as it is there, and whether more may come: an answer; and of an opening, whose own
-- answer is taken, frames while its channel is listed
abbrev pub LetsGo : Owner → Talk → Talk → Bool → Type 0
LetsGo owner.Connection t t' more = (t' ≡ t) × (more ≡ false)
LetsGo (owner.Answer n) t t' more =
    (given : Option (Result Answer ErrorKind)) × Takes n given t t' × (more ≡ may_come given (has_ended t))
LetsGo (owner.Channel n) t t' more =
    (given : Option (Result Answer ErrorKind)) × (between : Talk) × Takes n given t between
    × (t' ≡ take_frames n between) × (more ≡ (is_some (opening n t') || may_come given true))

-- the first of these is let go, and goes last where more may come
abbrev pub LetsFirstGo : List Owner → Talk → List Owner → Talk → Type 0
LetsFirstGo [] t later t' = (later ≡ []) × (t' ≡ t)
LetsFirstGo (o ∷ os) t later t' = (more : Bool) × LetsGo o t t' more × (later ≡ (if more then os ++ o ∷ [] else os))

-- so many are let go, one after the other
abbrev pub LetsManyGo : ℕ → List Owner → Talk → List Owner → Talk → Type 0
LetsManyGo zero os t later t' = (later ≡ os) × (t' ≡ t)
LetsManyGo (suc n) os t later t' =
    (rest : List Owner) × (between : Talk) × LetsManyGo n os t rest between × LetsFirstGo rest between later t'
