-- A script that is played: what its port answers is determined, and so are the turns.
use Rattle.std.specs.Prelude.{◌≡◌, ℕ, zero, suc, ◌+◌, min, Bool, false, true, if◌then◌else◌, List, [], ◌∷◌, length, take, drop, Option, Some, None}
use Rattle.amqp_auth.specs.declared.asked.Asked.{Asked}
use Rattle.amqp_auth.specs.Providers.{Exchange, Allows}
use Rattle.amqp_auth.specs.Asking.{Answer}
use Rattle.amqp_rules.specs.Talk.{Talk, has_ended}
use Rattle.amqp_rules.specs.Writing.{frames_waiting}
use Rattle.amqp_engine.specs.declared.port.Step.TheVariants.{Tick}
use Rattle.amqp_engine.specs.declared.port.Wrote.{Wrote}
use Rattle.amqp_engine.specs.declared.port.Wrote.TheVariants.{Took, Failed, NoMemory}
use Rattle.amqp_engine.specs.declared.given.Given.{Given}
use Rattle.amqp_engine.specs.Plan.{Plan, Coming, next_coming, room_for}
use Rattle.amqp_engine.specs.Log.{Log, loaded, log_write}
use Rattle.amqp_engine.specs.Engine.{Engine, begin, can_write}
use Rattle.amqp_engine.specs.Turn.{Turn, Notes, no_notes, Progress, asks, offered, offer_part, is_all, read, turn, turns, exchanges, AreTold, AreFit}
use Rattle.amqp_engine.specs.Tell.{turn_of, log_asks, log_stepped, log_turn, log_turns}

-- ---- the answers to the writes of a turn

-- the lesser of what is offered and the room, where a script is played
abbrev pub room_of : Option Plan → ℕ → ℕ
room_of None n = n
room_of (Some p) n = room_for p.room n

-- a script is played, and the next write fails
abbrev pub fails_of : Option Plan → Bool
fails_of None = false
fails_of (Some p) = p.fails

-- the answer to what is offered
abbrev pub played_answer : Engine → Log → Wrote
played_answer e a = if fails_of a.plan then Failed else Took (room_of a.plan (length (offered e)))

-- how many offers may still come: one for each frame that waits, and one for what is unsent
abbrev pub offers_waiting : Engine → ℕ
offers_waiting e = frames_waiting e.talk + min 1 (length e.unsent)

-- the answer to a write is noted, before what is noted of those that follow; a port to which memory was refused takes
-- nothing
abbrev pub answer_noted : Wrote → Notes → Notes
answer_noted (Took k) n = record n { tooks = k ∷ n.tooks }
answer_noted Failed n = record n { failed = true }
answer_noted NoMemory n = record n { tooks = 0 ∷ n.tooks }

-- what is noted of at most so many offers
abbrev pub played_writes : ℕ → Progress → Log → Notes
played_writes zero p a = no_notes
played_writes (suc most) p a =
    let w = played_answer p.engine a in
    if can_write p.engine
    then answer_noted w (if is_all w (length (offered p.engine))
    then played_writes most (offer_part w p) (log_write (offered p.engine) w a)
    else no_notes)
    else no_notes

-- ---- a turn

-- the next step of the script that is played
abbrev pub played_step : Option Plan → Coming
played_step None = record { at = 0; step = Tick; bytes = [] }
played_step (Some p) = next_coming p

-- the step, with what the provider is to answer, before its writes are answered
abbrev pub told_turn : Coming → List Asked → Turn
told_turn h answers = turn_of h.at h.step h.bytes (record no_notes { auths = answers })

-- what is noted of a turn: the answers to its writes, and as many of the provider's as were asked for
abbrev pub played_notes : Turn → Engine → Log → Notes
played_notes u e a =
    let before = read u (asks e) in
    record (played_writes (offers_waiting before.engine) before (log_stepped u e a)) {
      auths = take (length before.questions) u.notes.auths;
    }

-- the turn of a step that comes, with the answers to its writes and to what it asks
abbrev pub played_turn_of : Coming → List Asked → Engine → Log → Turn
played_turn_of h answers e a = turn_of h.at h.step h.bytes (played_notes (told_turn h answers) e a)

-- the next turn, where memory is not refused and the provider answers so
abbrev pub played_turn : List Asked → Engine → Log → Turn
played_turn answers e a = played_turn_of (played_step (log_asks e a).plan) answers e a

-- ---- a run

-- the turns of at most so many steps, where the provider answers so
abbrev pub played_turns : ℕ → List Asked → Engine → Log → List Turn
played_turns zero answers e a = []
played_turns (suc most) answers e a =
    let u = played_turn answers e a in
    if has_ended e.talk then []
    else u ∷ played_turns most (drop (length u.notes.auths) answers) (turn u e) (log_turn u e a)

-- the turns of a new engine of this session over a port that plays these steps, where the provider answers so
abbrev pub replayed : Talk → List Given → List Asked → List Turn
replayed t gs answers = played_turns (length gs) answers (begin t) (loaded gs)

-- these are answers to all that is asked in these turns, one to each question
abbrev pub AreAnswered : List Turn → Engine → Type 0
AreAnswered [] e = Unit {0}
AreAnswered (u ∷ us) e = Answer (read u (asks e)).questions u.notes.auths × AreAnswered us (turn u e)

-- a run over a port that plays a script is the run of that script, where memory was not refused, with answers that may
-- come from the provider
pub record IsPlayed (allowed : ℕ) (e e' : Engine) (log : Log) (log' : Option Log) (before : Exchange → Type 0)
    : Type 0 where
  pub answers : List Asked
  pub engine : turns (played_turns allowed answers e log) e ≡ e'
  pub told : log' ≡ Some (log_turns (played_turns allowed answers e log) e log)
  pub answered : AreAnswered (played_turns allowed answers e log) e
  pub steps_told : AreTold (played_turns allowed answers e log)
  pub fit : AreFit (played_turns allowed answers e log)
  pub exchanged : Allows before (exchanges (played_turns allowed answers e log) e)
