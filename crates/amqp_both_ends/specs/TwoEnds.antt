-- Both ends joined: they close, the conversation is legal, and what was told is what a faultless server tells.
use Rattle.std.specs.Prelude.{◌≡◌, ◌<◌, ℕ, Bool, true, false, List, [], ◌∷◌, ◌-◌, ◌^◌, length, map, Some, Ok}
use Rattle.std.specs.List.{AllByRecursion}
use Rattle.amqp_rules.specs.Talk.{Talk, end_of, has_ended}
use Rattle.amqp_engine.specs.declared.given.Given.{Given}
use Rattle.amqp_engine.specs.declared.given.GivenStep.TheVariants as given
use Rattle.amqp_engine.specs.Turn.{Turn, talk}
use Rattle.amqp_engine.specs.Sending.{Sending, frames_sent, sendings}
use Rattle.amqp_engine.specs.Play.{replayed}
use Rattle.amqp_engine.specs.Plan.{coming_of}
use Rattle.amqp_engine.specs.Valid.{IsQuiet, IsFaultless, answered_in}
use Rattle.amqp_double.specs.Doubles.{HasAnswered}
use Rattle.amqp_joining.specs.Plans.{JoinPlan, turns_of}
use Rattle.amqp_joining.specs.Joining.{Join, output}

-- first comes a link with some room, and no other, and nothing fails
abbrev pub IsLinkedInRoom : List Given → Type 0
IsLinkedInRoom [] = ⊥
IsLinkedInRoom (g ∷ gs) =
    (room : ℕ) × (g.what ≡ given.Link (Some room)) × AllByRecursion (λ (h : Given). IsQuiet h.what) gs

-- the steps of these turns are given ones, those of a faultless server on one link with room
pub record AreServed (t : Talk) (us : List Turn) (gs : List Given) : Type 0 where
  pub steps : map coming_of gs ≡ map (λ (u : Turn). record { at = u.at; step = u.step; bytes = u.bytes }) us
  pub replayed : replayed t gs (answered_in us) ≡ us
  pub linked : IsLinkedInRoom gs
  pub faultless : IsFaultless t gs (answered_in us)

-- both ends are closed: the session without an error, and the double by what it read last. There was one link, and the
-- frames sent on it are those that the double read, which are a legal conversation; all that it said was told
pub record Closes (t : Talk) (us : List Turn) (j : Join) : Type 0 where
  pub over : end_of (talk t us) ≡ Some (Ok tt)
  pub only : Sending
  pub links : sendings t us ≡ only ∷ []
  pub read : HasAnswered (frames_sent only) j.double
  pub closed : j.double.closed ≡ true
  pub told : output j ≡ []
  pub gs : List Given
  pub served : AreServed t us gs

-- no link is asked for
abbrev pub unasked : Bool
unasked = false

-- the session has not ended only where there were fewer turns than the plan takes; and where it has, both ends are
-- closed
pub record TwoEnds (t : Talk) (plan : JoinPlan) (us : List Turn) (j : Join) : Type 0 where
  pub goes : has_ended (talk t us) ≡ false → turns_of plan < 2 ^ 64 - 1 → length us < turns_of plan
  pub closes : has_ended (talk t us) ≡ true → Closes t us j
