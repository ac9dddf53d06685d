-- What the answers to openings bring.
use Rattle.std.specs.Prelude.{◌≡◌, ◌++◌, ℕ, Bool, not, List, [], ◌∷◌, length, filter, Option, Some, None, is_some, Result, Ok, Err}
use Rattle.amqp_promise.specs.declared.error.ErrorKind.{ErrorKind}
use Rattle.amqp_commands.specs.declared.command.ChanRef.{ChanRef}
use Rattle.amqp_answers.specs.declared.answer.Answer.{Answer}
use Rattle.amqp_answers.specs.declared.answer.Answer.TheVariants.{Channel}
use Rattle.amqp_rules.specs.Answers.{answer_of, Takes}
use Rattle.amqp_rules.specs.Talk.{Talk}
use Rattle.amqp_pool.specs.Pooled.{Pooled}

-- a promise has an answer that was not taken
abbrev pub has_answer : Talk → ℕ → Bool
has_answer t n = is_some (answer_of n t)

-- the channel that this answer brings, where it is that one is open; it is named by its number and by this promise
abbrev pub channel_in : ℕ → Option (Result Answer ErrorKind) → List ChanRef
channel_in n (Some (Ok (Channel id opened))) = record { id = id; opened = Some n } ∷ []
channel_in n _ = []

-- the channels that the answers of some promises bring, in order
abbrev pub brought_by : Talk → List ℕ → List ChanRef
brought_by t [] = []
brought_by t (n ∷ ns) = channel_in n (answer_of n t) ++ brought_by t ns

-- the promises without an answer, in order
abbrev pub unanswered : Talk → List ℕ → List ℕ
unanswered t ns = filter (λ n. not (has_answer t n)) ns

-- the pool once its opening promises were polled: the channels that were opened go last among the idle, and what has no
-- answer stays
abbrev pub collected : Talk → Pooled → Pooled
collected t p = record p { idle = p.idle ++ brought_by t p.opening; opening = unanswered t p.opening }

-- how many left the opening
abbrev pub collected_count : Talk → Pooled → ℕ
collected_count t p = length (filter (has_answer t) p.opening)

-- some promises are polled, one after another
abbrev pub TakesEach : List ℕ → Talk → Talk → Type 0
TakesEach [] before after = after ≡ before
TakesEach (n ∷ ns) before after =
    (given : Option (Result Answer ErrorKind)) × (between : Talk)
    × Takes n given before between × TakesEach ns between after
