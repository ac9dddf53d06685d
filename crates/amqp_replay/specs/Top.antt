-- What a replay promises: the status, what is printed, and what the port tells.
use Rattle.std.specs.Prelude.{◌≡◌, ◌⊎◌, ◌++◌, ℕ, Bool, true, false, MatchBool, List, take, Option, Some, None, IfSome, option_map, Result, Ok, Err}
use Rattle.amqp_auth.specs.declared.asked.Asked.{Asked}
use Rattle.amqp_promise.specs.declared.error.ErrorKind.{ErrorKind}
use Rattle.amqp_auth.specs.Providers.{Exchange, Allows}
use Rattle.amqp_auth.specs.DefaultAnswers.{DefaultAuth, default_of, default_answer, AnswersEach}
use Rattle.amqp_commands.specs.declared.command.Cmd.TheVariants.{Listen}
use Rattle.amqp_settings.specs.Config.{Config}
use Rattle.amqp_rules.specs.Talk.{Talk, start, end_of}
use Rattle.amqp_rules.specs.Commands.{command}
use Rattle.amqp_engine.specs.Log.{Log, loaded}
use Rattle.amqp_engine.specs.Engine.{Engine, begin}
use Rattle.amqp_engine.specs.Turn.{Turn, talk, exchanges}
use Rattle.amqp_engine.specs.Tell.{log_turns}
use Rattle.amqp_engine.specs.Sending.{Sending, sendings}
use Rattle.amqp_engine.specs.Causes.{IsCaused}
use Rattle.amqp_engine.specs.Play.{replayed, AreAnswered}
use Rattle.amqp_engine.specs.Saying.{SpellLegal}
use Rattle.amqp_engine.specs.Carried.{Carried}
use Rattle.amqp_engine.specs.Account.{account, history_of}
use Rattle.amqp_engine.specs.Valid.{Valid}
use Rattle.amqp_replay.specs.declared.limits.TheConstants.{MOST_READ}
use Rattle.amqp_replay.specs.declared.status.TheConstants.{CLOSED, REFUSED, USAGE, SOURCE_FAILED, SINK_FAILED, FAILED, RUNNING, NO_MEMORY}
use Rattle.amqp_replay.specs.Grammar.{Scenario, parsed}
use Rattle.amqp_replay.specs.Report.{Printout, report, refusal}
use Rattle.amqp_replay.specs.Summary.{first_len, summary}

-- ---- before the first step

-- the session of this configuration: it is told to keep its events, or not
abbrev pub set_up : Bool → Config → Talk
set_up true config = command Listen (start config)
set_up false config = start config

-- the session of a script
abbrev pub session_of : Scenario → Talk
session_of s = set_up s.listens s.config

-- the engine of a script
abbrev pub engine_of : Scenario → Engine
engine_of s = begin (session_of s)

-- ---- a replay, as a function of what its script says, and of what the provider answers in all turns, in order

-- its turns
abbrev pub replayed_turns : Scenario → List Asked → List Turn
replayed_turns s answers = replayed (session_of s) s.steps answers

-- what the port tells
abbrev pub replayed_log : Scenario → List Asked → Log
replayed_log s answers = log_turns (replayed_turns s answers) (engine_of s) (loaded s.steps)

-- the bytes of each link
abbrev pub replayed_links : Scenario → List Asked → List (List ℕ)
replayed_links s answers = (replayed_log s answers).links

-- what was committed on each link, and how far it was sent
abbrev pub replayed_sendings : Scenario → List Asked → List Sending
replayed_sendings s answers = sendings (session_of s) (replayed_turns s answers)

-- the state of the session that it leads to
abbrev pub replayed_talk : Scenario → List Asked → Talk
replayed_talk s answers = talk (session_of s) (replayed_turns s answers)

-- what the provider is asked, with these answers
abbrev pub replayed_exchange : Scenario → List Asked → Exchange
replayed_exchange s answers = exchanges (replayed_turns s answers) (engine_of s)

-- ---- who authenticates, and what may be answered

-- the state of a provider that was handed, where one was
abbrev pub handed_state : {A : Type 0} → (A → Exchange → Type 0) → Option A → Exchange → Type 0
handed_state allows None exchange = Unit {0}
handed_state allows (Some a) exchange = allows a exchange

-- the exchanges of a provider
abbrev pub AreProvidersAnswers : DefaultAuth → Exchange → Type 0
AreProvidersAnswers own exchange = AnswersEach (default_answer own.mechanism own.login) exchange

-- those of the provider that goes by the address of a scenario
abbrev pub own_state : Scenario → Exchange → Type 0
own_state s exchange = AreProvidersAnswers (default_of s.config.uri) exchange

-- the state of who authenticates: of the provider that was handed, where the script says so, and else of that of the
-- address
abbrev pub provider_state : (Exchange → Type 0) → Scenario → Exchange → Type 0
provider_state handed s exchange = MatchBool s.handed (handed exchange) (own_state s exchange)

-- of these, the first are the answers of a run, one to each question, and a provider in this state may give those
pub record AreRunAnswers (state : Exchange → Type 0) (s : Scenario) (answers : List Asked) : Type 0 where
  pub answered : AreAnswered (replayed_turns s answers) (engine_of s)
  pub allowed : Allows state (replayed_exchange s answers)

-- these are the answers of the run of a script, where none of its lines is refused
abbrev pub MayAnswer : (Scenario → Exchange → Type 0) → Result Scenario ℕ → List Asked → Type 0
MayAnswer state (Err number) answers = Unit {0}
MayAnswer state (Ok s) answers = AreRunAnswers (state s) s answers

-- none of the lines of a script is refused, and its steps are those of a faultless server, with these answers of who
-- authenticates
abbrev pub IsValid : Result Scenario ℕ → List Asked → Type 0
IsValid (Err number) answers = ⊥
IsValid (Ok s) answers = Valid (session_of s) s.steps answers

-- ---- what is printed of a run, and with which status

-- the status that goes with the end of a session
abbrev pub end_status : Option (Result (Unit {0}) ErrorKind) → ℕ
end_status None = RUNNING
end_status (Some (Ok closed)) = CLOSED
end_status (Some (Err e)) = FAILED

-- its report
abbrev pub reported : List (List ℕ) → Talk → Printout
reported links t = record { status = end_status (end_of t); text = report links t }

-- the script that was generated, and the summary of its run
abbrev pub summed : List ℕ → List (List ℕ) → Talk → Printout
summed script links t = record { status = end_status (end_of t); text = script ++ summary (first_len links) t }

-- ---- what is printed of a script, and with which status

-- what is printed of a script with a refused line
abbrev pub refused_printout : ℕ → Printout
refused_printout number = record { status = REFUSED; text = refusal number }

-- what is printed of what a script says
abbrev pub printout : Result Scenario ℕ → List Asked → Printout
printout (Err number) answers = refused_printout number
printout (Ok s) answers = reported (replayed_links s answers) (replayed_talk s answers)

-- what is printed of a generated script that says this
abbrev pub generated_printout : List ℕ → Scenario → List Asked → Printout
generated_printout script s answers = summed script (replayed_links s answers) (replayed_talk s answers)

-- the port tells of the run: its steps, the writes to it with their answers, and the bytes of the links, which are
-- printed; on each link they spell the frames that the run sent, in order, and then a part of one more, and all that it
-- committed there is a legal conversation, keeps the agreed numbers and can be written; no send and no publish is torn,
-- sent twice, or swapped among its kind, and nothing is handed out that did not come
pub record TellsRun (s : Scenario) (answers : List Asked) (log : Option Log) : Type 0 where
  pub told : log ≡ Some (replayed_log s answers)
  pub legal : SpellLegal (replayed_sendings s answers) (replayed_links s answers)
  pub carried :
      Carried (account (replayed_talk s answers) (history_of (session_of s) (replayed_turns s answers)))
  -- where the session ended with an error, the last of its turns brought that about
  pub cause : (k : ErrorKind) → end_of (replayed_talk s answers) ≡ Some (Err k) →
      IsCaused k (replayed_turns s answers) (engine_of s)

-- the port tells of the run of a script of which no line is refused, and of one with a refused line nothing
abbrev pub TellsReplay : Result Scenario ℕ → List Asked → Option Log → Option Log → Type 0
TellsReplay (Err number) answers log log' = log' ≡ log
TellsReplay (Ok s) answers log log' = TellsRun s answers log'

-- ---- what happened to a sink

-- it took the whole of a text
abbrev pub TookAll : List ℕ → Option (List ℕ) → Option (List ℕ) → Type 0
TookAll text before after = after ≡ option_map (λ held. held ++ text) before

-- it took a front of a text
abbrev pub TookFront : List ℕ → Option (List ℕ) → Option (List ℕ) → Type 0
TookFront text before after = (k : ℕ) × TookAll (take k text) before after

-- it took a printout, whose status is answered; or it failed
abbrev pub Prints : Printout → Option (List ℕ) → Option (List ℕ) → ℕ → Type 0
Prints p before after status =
    ((status ≡ p.status) × TookAll p.text before after) ⊎ ((status ≡ SINK_FAILED) × TookFront p.text before after)

-- ---- what the program did

-- a script was answered, a provider being handed in this state or none: with some answers that who authenticates may
-- give, the sink took what is printed of it, and the port tells of its run; the status of a valid script says that its
-- session ended Closed, or that the sink failed
pub record Replays (is_handed : Bool) (handed : Exchange → Type 0) (script : List ℕ) (log log' : Option Log)
    (before after : Option (List ℕ)) (status : ℕ) : Type 0 where
  pub answers : List Asked
  pub may : MayAnswer (provider_state handed) (parsed is_handed script) answers
  pub told : TellsReplay (parsed is_handed script) answers log log'
  pub prints : Prints (printout (parsed is_handed script) answers) before after status
  pub closed : IsValid (parsed is_handed script) answers → (status ≡ CLOSED) ⊎ (status ≡ SINK_FAILED)

-- some script was answered, which is all that the source had, or as much of it as is ever read
pub record ReplaysSome (is_handed : Bool) (handed : Exchange → Type 0) (left : Option (List ℕ)) (log log' : Option Log)
    (before after : Option (List ℕ)) (status : ℕ) : Type 0 where
  pub script : List ℕ
  pub read : IfSome left (λ all. script ≡ take MOST_READ all)
  pub replays : Replays is_handed handed script log log' before after status

-- a generated script that says this was answered: with the answers of the provider of the address, the sink took it,
-- with the summary of its run, and the port tells of that run; where it is valid, the status says that its session
-- ended Closed, or that the sink failed
pub record Generates (script : List ℕ) (s : Scenario) (log : Option Log) (before after : Option (List ℕ)) (status : ℕ)
    : Type 0 where
  pub answers : List Asked
  pub may : AreRunAnswers (own_state s) s answers
  pub told : TellsRun s answers log
  pub prints : Prints (generated_printout script s answers) before after status
  pub closed : Valid (session_of s) s.steps answers → (status ≡ CLOSED) ⊎ (status ≡ SINK_FAILED)

-- of wrong words, of a source that failed, and where memory was refused nothing is printed
abbrev pub IsSilent : ℕ → Type 0
IsSilent status = (status ≡ USAGE) ⊎ (status ≡ SOURCE_FAILED) ⊎ (status ≡ NO_MEMORY)
