-- What can be seen of a client, through what it was told and what was taken of it.
use Rattle.std.specs.Prelude.{◌≡◌, ◌⊎◌, ℕ, ◌==◌, nat_lt, if◌then◌else◌, false, List, [], ◌∷◌, ◌++◌, length, map, Option, Some, None, IfSome, Result, Err}
use Rattle.std.specs.List.{AllByRecursion}
use Rattle.std.specs.Option.{option_or}
use Rattle.amqp_promise.specs.declared.error.ErrorKind.{ErrorKind}
use Rattle.amqp_commands.specs.declared.command.Cmd.{Cmd}
use Rattle.amqp_commands.specs.declared.command.Cmd.TheVariants.{Listen}
use Rattle.amqp_answers.specs.declared.answer.Answer.{Answer}
use Rattle.amqp_answers.specs.declared.handed.Handed.{Handed}
use Rattle.amqp_settings.specs.Config.{Config}
use Rattle.amqp_auth.specs.Providers.{Exchange}
use Rattle.amqp_rules.specs.Talk.{Talk, start, has_ended, is_asked, is_open, end_of}
use Rattle.amqp_rules.specs.ChannelMethods.{frames_of}
use Rattle.amqp_rules.specs.Commands.{command}
use Rattle.amqp_rules.specs.Answers.{answer_of, take_answer, take_event, take_frames}
use Rattle.amqp_written_rules.specs.Sayable.{CanBeTold}
use Rattle.amqp_carried_rules.specs.CommandFrames.{answered_command}
use Rattle.amqp_engine.specs.declared.port.Step.{Step}
use Rattle.amqp_engine.specs.declared.port.Step.TheVariants.{Linked, Piece, Command}
use Rattle.amqp_engine.specs.Log.{Log, log_step, on_last}
use Rattle.amqp_engine.specs.Engine.{Engine, begin, with_talk}
use Rattle.amqp_engine.specs.Turn.{Turn, is_before, IsToldCommand, IsTold, IsFit, asks, turn, applied, IsApplied, exchanges, cut_of}
use Rattle.amqp_engine.specs.Tell.{Runs, MayCome}
use Rattle.amqp_engine.specs.Causes.{IsCaused}
use Rattle.amqp_engine.specs.Sending.{Sending, frames_sent, SendsInOrder}
use Rattle.amqp_engine.specs.Saying.{applied_sending, SentLegal, TellsLinks}
use Rattle.amqp_engine.specs.Carried.{Account, Carried}

-- what a step tells that is answered
abbrev pub command_of : Step → List Cmd
command_of (Command c) = answered_command c
command_of _ = []

-- what a turn tells that is answered, where it was not cut before
abbrev pub commands_in : Turn → List Cmd
commands_in u = if is_before u.notes.starved 0 then command_of u.step else []

-- the octets that came on each link, after a step: none on a link that was asked for, and those of a piece on the open
-- one; what is told after a loss came on none
abbrev pub step_came : Step → List ℕ → Engine → List (List ℕ) → List (List ℕ)
step_came Linked bytes e links = if is_asked e.talk then links ++ [] ∷ [] else links
step_came (Piece n) bytes e links = if is_open e.talk then on_last (λ octets. octets ++ bytes) links else links
step_came _ bytes e links = links

-- a session that was told nothing yet, but perhaps to listen
abbrev pub IsNew : Talk → Type 0
IsNew t = (config : Config) × ((t ≡ start config) ⊎ (t ≡ command Listen (start config)))

-- ---- what an engine was told

-- what an engine was told, and what was taken of it, since it was new
pub record History : Type 0 where
  -- what it was told that is answered, in order
  pub commands : List Cmd
  -- by number, the octets that had come on each link when a command was told
  pub came_before : ℕ → List (List ℕ)
  -- by number, the answers that were taken
  pub taken : ℕ → Option (Result Answer ErrorKind)
  -- what was sent on each link, and the octets that came on it
  pub sent : List Sending
  pub came : List (List ℕ)
  -- by the promise that opened their channel, the frames that were taken, in order
  pub given : ℕ → List Handed

-- nothing was told or taken
abbrev pub nothing_told : History
nothing_told =
    record {
      commands = [];
      came_before = λ number. [];
      taken = λ number. None;
      sent = [];
      came = [];
      given = λ opened. [];
    }

-- by number, what had come when a command was told, where these are told after so many others: for theirs, and those
-- that come after, it is what came so far
abbrev pub noted_before : List Cmd → ℕ → List (List ℕ) → (ℕ → List (List ℕ)) → ℕ → List (List ℕ)
noted_before [] made came noted = noted
noted_before (c ∷ cs) made came noted = λ number. if nat_lt made number then came else noted number

-- a command was told
abbrev pub add_command : Cmd → History → History
add_command c h =
    record h {
      commands = h.commands ++ answered_command c;
      came_before = noted_before (answered_command c) (length h.commands) h.came h.came_before;
    }

-- the rest of a turn was taken, from its step on
abbrev pub add_turn : Turn → Engine → History → History
add_turn u e h =
    record h {
      commands = h.commands ++ commands_in u;
      came_before = noted_before (commands_in u) (length h.commands) h.came h.came_before;
      sent = applied_sending u e h.sent;
      came = step_came u.step u.bytes e h.came;
    }

-- turns were taken
abbrev pub add_turns : List Turn → Engine → History → History
add_turns [] e h = h
add_turns (u ∷ us) e h = add_turns us (turn u e) (add_turn u (asks e) h)

-- an answer was taken, where there was one
abbrev pub add_answer : ℕ → Engine → History → History
add_answer number e h =
    record h {
      taken = λ n. if n == number then option_or (h.taken n) (answer_of number e.talk) else h.taken n;
    }

-- the frames of a channel were taken
abbrev pub add_frames : ℕ → Engine → History → History
add_frames opened e h =
    record h { given = λ n. if n == opened then h.given n ++ frames_of opened e.talk else h.given n }

-- an engine that was new has this history: through its turns, and through what it was told and what was taken of it
-- between them
pub data HasHistory : Engine → History → Type 0 where
  new : (config : Config) → HasHistory (begin (start config)) nothing_told
  -- a link was asked for where one was wanted, as a turn begins
  asked : {e : Engine} {h : History} → HasHistory e h → HasHistory (asks e) h
  -- the rest of a turn
  applies : {e : Engine} {h : History} (u : Turn) → has_ended e.talk ≡ false → IsApplied u e → IsTold u.step → IsFit u
      → HasHistory e h → HasHistory (applied u e) (add_turn u e h)
  told : {e : Engine} {h : History} (c : Cmd) → IsToldCommand c → CanBeTold c → HasHistory e h
      → HasHistory (with_talk (command c) e) (add_command c h)
  answer_taken : {e : Engine} {h : History} (number : ℕ) → HasHistory e h
      → HasHistory (with_talk (take_answer number) e) (add_answer number e h)
  event_taken : {e : Engine} {h : History} → HasHistory e h → HasHistory (with_talk take_event e) h
  frames_taken : {e : Engine} {h : History} (opened : ℕ) → HasHistory e h
      → HasHistory (with_talk (take_frames opened) e) (add_frames opened e h)

-- ---- what can be seen of it

-- what can be seen of a client in this state, with this history: the answers and the frames that were taken, and those
-- that can be
abbrev pub account : Talk → History → Account
account t h =
    record {
      commands = h.commands;
      answers = λ number. option_or (h.taken number) (answer_of number t);
      came_before = h.came_before;
      sent = map frames_sent h.sent;
      came = h.came;
      handed = λ opened. h.given opened ++ frames_of opened t;
    }

-- what can be seen of a new client of this session, once these turns were taken
abbrev pub history_of : Talk → List Turn → History
history_of t us = add_turns us (begin t) nothing_told

-- an engine with this history went on by these turns, which are in its history now: what it said on each link is in
-- order and legal, what can be seen of it is carried, and a port that told of its links before tells of them after
pub record CarriesOn (us : List Turn) (h : History) (e e' : Engine) (log log' : Option Log) : Type 0 where
  pub history : HasHistory e' (add_turns us e h)
  pub order : AllByRecursion SendsInOrder (add_turns us e h).sent
  pub legal : AllByRecursion SentLegal (add_turns us e h).sent
  pub carried : Carried (account e'.talk (add_turns us e h))
  pub tells : IfSome log (λ a. TellsLinks e h.sent a → IfSome log' (λ b. TellsLinks e' (add_turns us e h).sent b))

-- so by this turn from its step on; a port that told of its links before the step, and then the step, tells of them
-- after
pub record CarriesOnce (u : Turn) (h : History) (e e' : Engine) (log log' : Option Log) : Type 0 where
  pub history : HasHistory e' (add_turn u e h)
  pub order : AllByRecursion SendsInOrder (add_turn u e h).sent
  pub legal : AllByRecursion SentLegal (add_turn u e h).sent
  pub carried : Carried (account e'.talk (add_turn u e h))
  pub tells : (a : Log) → log ≡ Some (log_step u.at u.step u.bytes a) → TellsLinks e h.sent a
      → IfSome log' (λ b. TellsLinks e' (add_turn u e h).sent b)

-- a run: some turns lead from here to there and are told, as many as are allowed, or fewer where the session ended;
-- what was asked in them may come from the provider; an end with an error has its cause in the last of them; and they
-- go on with whatever history the engine had
pub record Ran (allowed : ℕ) (e e' : Engine) (log log' : Option Log) (before after : Exchange → Type 0) : Type 0 where
  pub runs : Runs allowed e e' log log'
  pub exchanged : MayCome (cut_of runs.us) before after (exchanges runs.us e)
  pub cause : (k : ErrorKind) → has_ended e.talk ≡ false → end_of e'.talk ≡ Some (Err k) → IsCaused k runs.us e
  pub carried : (h : History) → HasHistory e h → CarriesOn runs.us h e e' log log'
