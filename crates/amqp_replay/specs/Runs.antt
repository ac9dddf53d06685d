-- What the contracts of private calls say of a replay.
use Rattle.std.specs.Prelude.{◌≡◌, ℕ, List, Option, Result, Ok, Err}
use Rattle.amqp_auth.specs.declared.asked.Asked.{Asked}
use Rattle.amqp_auth.specs.Providers.{Exchange}
use Rattle.amqp_rules.specs.Talk.{Talk}
use Rattle.amqp_written_rules.specs.Sayable.{CanBeSaid}
use Rattle.amqp_engine.specs.Log.{Log}
use Rattle.amqp_replay.specs.Grammar.{Scenario}
use Rattle.amqp_replay.specs.Report.{Printout}
use Rattle.amqp_replay.specs.Top.{replayed_talk, replayed_links, AreRunAnswers, TellsRun, MayAnswer, TellsReplay, refused_printout, generated_printout}

-- an engine's state, and what its port tells, are those of the replay, with some answers that a provider in this state
-- may give; what it says can be written, where what its session is made from can be said
pub record IsReplayed (state : Exchange → Type 0) (s : Scenario) (t : Talk) (links : List (List ℕ)) (log : Option Log)
    : Type 0 where
  pub answers : List Asked
  pub may : AreRunAnswers state s answers
  pub talk_is : t ≡ replayed_talk s answers
  pub links_are : links ≡ replayed_links s answers
  pub told : CanBeSaid s.config → TellsRun s answers log

-- what a script says of its session can be said, where none of its lines is refused
abbrev pub IsSayableScript : Result Scenario ℕ → Type 0
IsSayableScript (Err number) = Unit {0}
IsSayableScript (Ok s) = CanBeSaid s.config

-- what is printed of a generated script, by what was read of it
abbrev pub made_of_generated : List ℕ → Result Scenario ℕ → List Asked → Printout
made_of_generated script (Err number) answers = refused_printout number
made_of_generated script (Ok s) answers = generated_printout script s answers

-- what is printed is what is to be printed, and the port tells of the run, or of a refused line nothing, with some
-- answers that may be given
pub record IsMade (state : Scenario → Exchange → Type 0) (read : Result Scenario ℕ)
    (made : Result Scenario ℕ → List Asked → Printout) (log log' : Option Log) (p : Printout) : Type 0 where
  pub answers : List Asked
  pub may : MayAnswer state read answers
  pub told : IsSayableScript read → TellsReplay read answers log log'
  pub is : p ≡ made read answers
