-- The state of a session, less what was taken of it.
use Rattle.std.specs.Prelude.{◌≡◌, ◌⊎◌, ℕ, ◌<◌, false, IsSome, List, [], ◌++◌, Option, Some, None, Result, unwrap_or}
use Rattle.std.specs.Map.{keys_of}
use Rattle.amqp_promise.specs.declared.error.ErrorKind.{ErrorKind}
use Rattle.amqp_answers.specs.declared.answer.Answer.{Answer}
use Rattle.amqp_answers.specs.declared.handed.Handed.{Handed}
use Rattle.amqp_settings.specs.Config.{Config}
use Rattle.amqp_rules.specs.Talk.{Talk, has_ended}
use Rattle.amqp_rules.specs.ChannelMethods.{frames_of}
use Rattle.amqp_rules.specs.Answers.{answer_of, events_of}
use Rattle.amqp_maps.specs.Listed.{at}
use Rattle.amqp_rules.specs.Sound.{Ascend}
use Rattle.amqp_journal.specs.Untaken.{Untaken, untaken, with_untaken}

-- a list is the end of another, before which something was taken
abbrev pub IsEndOf : {A : Type 0} → List A → List A → Type 0
IsEndOf {A} all left = (taken : List A) × (all ≡ taken ++ left)

-- the numbers of promises and of openings ascend
abbrev pub IsOrdered : Talk → Type 0
IsOrdered t = Ascend (keys_of t.promises) × Ascend (keys_of t.handed)

-- a state is another, less what was taken of it since
pub record IsLeft (f t : Talk) : Type 0 where
  -- all else is equal
  pub rest : t ≡ with_untaken (untaken t) f
  -- a promise is as it was, or it had an answer, which was taken
  pub answers : (number : ℕ) → (at number t.promises ≡ at number f.promises)
      ⊎ ((at number t.promises ≡ None) × IsSome (answer_of number f))
  -- of the frames of each opening the first were taken, and of the events
  pub frames : (opened : ℕ) → IsEndOf (frames_of opened f) (frames_of opened t)
  pub events : IsEndOf (events_of f) (events_of t)
  -- the event of an end is taken once there is an end
  pub tells_end : has_ended f ≡ false → t.noted.tells_end ≡ f.noted.tells_end
  -- the numbers of promises and of openings ascend
  pub ordered : IsOrdered t

-- a promise that was made is gone
abbrev pub IsGone : ℕ → Talk → Type 0
IsGone number t = (number < t.made) × (at number t.promises ≡ None)

-- ---- the same while the session goes on, by its parts

-- an answer as it is left, by what was made of it: it is the same, or there is one, which was taken
abbrev pub AnswerLeft : Option (Option (Result Answer ErrorKind)) → Option (Option (Result Answer ErrorKind)) → Type 0
AnswerLeft made left = (left ≡ made) ⊎ ((a : Result Answer ErrorKind) × (made ≡ Some (Some a)) × (left ≡ None))

-- the frames of an opening
abbrev pub frames_in : ℕ → List (ℕ × List Handed) → List Handed
frames_in opened frames = unwrap_or (at opened frames) []

-- answers were taken, and the first frames of each opening, and the first events
pub record PartsLeft (number_made : ℕ) (config : Config) (made left : Untaken) : Type 0 where
  pub answers : (number : ℕ) → AnswerLeft (at number made.promises) (at number left.promises)
  pub frames : (opened : ℕ) → IsEndOf (frames_in opened made.handed) (frames_in opened left.handed)
  pub events : IsEndOf made.events left.events
  pub tells_end : left.tells_end ≡ made.tells_end
  -- their numbers ascend
  pub ordered : Ascend (keys_of left.promises) × Ascend (keys_of left.handed)
