-- What was read of a script.
use Rattle.std.specs.Prelude.{ℕ, ◌-◌, ◌==◌, ◌||◌, nat_le, if◌then◌else◌, List, [], ◌∷◌, Option, Some, None, Result, Ok, Err}
use Rattle.amqp_engine.specs.Plan.{ArePieces}
use Rattle.amqp_replay.specs.Lines.{Line, lines, is_ignored}
use Rattle.amqp_replay.specs.Setup.{is_setup}
use Rattle.amqp_replay.specs.Grammar.{Scenario}
use Rattle.amqp_replay.specs.declared.status.TheConstants.{FAILED}
use Rattle.amqp_replay.specs.declared.script.Script.{Script}
use Rattle.amqp_replay.specs.declared.script.Script.TheVariants.{Played, Refused}

-- what the script says, or the number of the line that was refused
abbrev pub script_read : Script → Result Scenario ℕ
script_read (Played s) = Ok s
script_read (Refused number) = Err number

-- each piece of its steps has a length that a port can give
abbrev pub ScriptArePieces : Script → Type 0
ScriptArePieces (Played s) = ArePieces s.steps
ScriptArePieces (Refused number) = Unit {0}

-- the number of the line that says a step, the steps of lines of which none is refused being counted from 1
abbrev pub line_of_step : ℕ → List Line → Option ℕ
line_of_step step [] = None
line_of_step step (line ∷ lines) =
    if is_ignored line.content || is_setup line.content then line_of_step step lines
    else if nat_le step 1 then Some line.number
    else line_of_step (step - 1) lines

-- the number of the line whose step ended a session with an error, as the status says, so many steps being told
abbrev pub ended_at : ℕ → ℕ → List ℕ → Option ℕ
ended_at status told text = if status == FAILED then line_of_step told (lines text) else None
