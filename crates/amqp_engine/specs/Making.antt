-- A turn in the making, as the code counts its parts.
use Rattle.std.specs.Prelude.{◌≡◌, ◌⊎◌, ◌≤◌, ◌<◌, ◌^◌, not, ◌&&◌, ℕ, if◌then◌else◌, Bool, true, false, List, [], ◌++◌, Option, Some, None, Err}
use Rattle.amqp_types.specs.declared.text.Text.{Text}
use Rattle.amqp_frame.specs.declared.frame.Read.{Read}
use Rattle.amqp_frame.specs.declared.frame.Read.TheVariants.{Whole}
use Rattle.amqp_auth.specs.declared.asked.Question.{Question}
use Rattle.amqp_auth.specs.declared.asked.Asked.{Asked}
use Rattle.amqp_auth.specs.Providers.{Exchange, Allows}
use Rattle.amqp_auth.specs.Asking.{Asks, paired}
use Rattle.amqp_promise.specs.declared.error.ErrorKind.TheVariants.{AuthProviderError}
use Rattle.amqp_rules.specs.Talk.{Talk, is_open, drops_input, end_of}
use Rattle.amqp_engine.specs.declared.port.Step.{Step}
use Rattle.amqp_engine.specs.declared.port.Step.TheVariants.{Tick, Command}
use Rattle.amqp_engine.specs.declared.port.Happening.{Happening}
use Rattle.amqp_engine.specs.declared.given.Given.{Given}
use Rattle.amqp_engine.specs.Plan.{step_of, bytes_of}
use Rattle.amqp_types.specs.Counts.{Rose}
use Rattle.amqp_engine.specs.Engine.{Engine, step_engine, step_questions, can_read, read_row, row_questions, read_questions}
use Rattle.amqp_engine.specs.Turn.{Notes, no_notes, Turn, answers_of_writes, Progress, AreAnswers, IsAnswered, drained, exchange_of}
use Rattle.amqp_engine.specs.Log.{Log}
use Rattle.amqp_engine.specs.Tell.{Applies, MayCome, TellsOffers, offers_from, turn_of}

-- a turn in the making
abbrev pub making : ℕ → Option ℕ → List Asked → List Question → Engine → ℕ → Progress
making at cut answers questions e n =
    record { at = at; cut = cut; answers = answers; questions = questions; engine = e; done = n }

-- questions were asked and answered, which were put last into the list, and that led from here to there, whatever is
-- still to be answered
pub record Heard (holds : List Asked → List Question → Type 0) (before after : Exchange → Type 0)
    (list list' : List Asked) : Type 0 where
  pub questions : List Question
  pub answers : List Asked
  pub asks : Asks questions answers before after list list'
  pub leads : holds answers questions

-- a step was taken with what the provider answered to what it asks
pub record StepHears (at : ℕ) (step : Step) (e e' : Engine) (before after : Exchange → Type 0) (list list' : List Asked)
    : Type 0 where
  pub answers : List Asked
  pub asks : Asks (step_questions at step answers e) answers before after list list'
  pub engine : (bytes : List ℕ) → e' ≡ step_engine at step bytes answers e

-- what stood at the front was read with what the provider answered to what it asks
pub record RowHears (at : ℕ) (r : Read) (e e' : Engine) (before after : Exchange → Type 0) (list list' : List Asked)
    : Type 0 where
  pub answers : List Asked
  pub asks : Asks (row_questions at r e) answers before after list list'
  pub engine : e' ≡ read_row at r answers e

-- a turn that was cut after so many parts, with what the provider had answered
abbrev pub cut_turn : ℕ → Step → List ℕ → List Asked → ℕ → Turn
cut_turn at step bytes answers parts =
    turn_of at step bytes (record no_notes { auths = answers; starved = Some parts })

-- memory was refused after so many parts: what was answered was put last into the list, some of it perhaps to what the
-- next part asks, and that led from here to there
pub record Broke (n : ℕ) (holds : List Asked → List Question → List Question → Engine → Type 0)
    (before : Exchange → Type 0) (list list' : List Asked) : Type 0 where
  pub questions : List Question
  pub next : List Question
  pub answers : List Asked
  pub engine : Engine
  pub listed : list' ≡ list ++ answers
  pub all : IsAnswered (Some n) questions next answers
  pub allowed : Allows before (paired (questions ++ next) answers)
  pub leads : holds answers questions next engine

-- where a session has ended since its provider refused, it had ended so before, or the count of refusals rose
abbrev pub Blames : Talk → Talk → ℕ → ℕ → Type 0
Blames t t' count count' =
    (text : Text) → end_of t' ≡ Some (Err (AuthProviderError text))
    → (end_of t ≡ Some (Err (AuthProviderError text))) ⊎ Rose count count'

-- how many parts a step is
abbrev pub parts_of : Bool → ℕ
parts_of b = if b then 1 else 0

-- a step that is neither a tick nor a command
abbrev pub is_event : Step → Bool
is_event Tick = false
is_event (Command c) = false
is_event _ = true

-- a whole frame was read
abbrev pub is_whole : Read → Bool
is_whole (Whole f n) = true
is_whole _ = false

-- few enough parts to be counted with one more offer for each frame that waits
abbrev pub FewParts : ℕ → Type 0
FewParts n = n < 2 ^ 63

-- a cut that comes after so many parts, or later, or never
abbrev pub Reaches : Option ℕ → ℕ → Type 0
Reaches None n = Unit {0}
Reaches (Some j) n = n ≤ j

-- what is received is kept to be read
abbrev pub keeps_unread : Talk → Bool
keeps_unread t = is_open t && not (drops_input t)

-- nothing is unread where nothing is kept
abbrev pub IsSettled : Engine → Type 0
IsSettled e = keeps_unread e.talk ≡ false → e.unread ≡ []

-- memory was refused at the frame that stands at the front, which asks this
pub record BreaksAt (at : ℕ) (next : List Question) (e : Engine) : Type 0 where
  pub can : can_read e ≡ true
  pub asks : next ≡ read_questions at e

-- the engine when the rest of a piece has joined the unread bytes, where they are kept
abbrev pub piece_joined : List ℕ → Engine → Engine
piece_joined rest e = if keeps_unread e.talk then record e { unread = e.unread ++ rest } else e

-- the writes that are due, which took so many bytes each, and of which one more failed or none, lead from here to there
-- and are told; and where one failed, the port's count of faults rose
pub record Writes (tooks : List ℕ) (failed : Bool) (before after : Progress) (log log' : Option Log) (count count' : ℕ)
    : Type 0 where
  pub answers : AreAnswers (answers_of_writes tooks failed) before
  pub leaves : drained (answers_of_writes tooks failed) before ≡ after
  pub tells : TellsOffers (offers_from (answers_of_writes tooks failed) before) log log'
  pub counted : failed ≡ true → Rose count count'

-- a turn of which this is noted is applied, and where one of its writes failed, the port's count of faults rose; what
-- was asked in it may come from the provider
pub record AppliesCounted (at : ℕ) (step : Step) (bytes : List ℕ) (notes : Notes) (e e' : Engine)
    (log log' : Option Log) (count count' : ℕ) (before after : Exchange → Type 0) : Type 0 where
  pub applies : Applies at step bytes notes e e' log log'
  pub exchanged : MayCome notes.starved before after (exchange_of (turn_of at step bytes notes) e)
  pub counted : notes.failed ≡ true → Rose count count'

-- a given step as a port in memory keeps it, until it is told how many came before
abbrev pub happening_of : Given → Happening
happening_of g = record { before = 0; at = g.at; step = step_of g.what; bytes = bytes_of g.what }
