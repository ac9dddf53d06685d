-- A joined port: what it tells of itself, and how far it is.
use Rattle.std.specs.Prelude.{◌≡◌, ℕ, if◌then◌else◌, Bool, false, List, [], ◌∷◌, map, take, drop, slice_index_or, Option, None}
use Rattle.amqp_commands.specs.declared.command.Cmd.{Cmd}
use Rattle.amqp_commands.specs.declared.command.Cmd.TheVariants.{CloseConnection}
use Rattle.amqp_settings.specs.declared.configuration.Configuration.{Configuration}
use Rattle.amqp_engine.specs.declared.port.Step.{Step}
use Rattle.amqp_engine.specs.declared.port.Step.TheVariants.{Linked, Piece, Room, Command}
use Rattle.amqp_engine.specs.declared.port.Happening.{Happening}
use Rattle.amqp_engine.specs.declared.port.Write.{Write}
use Rattle.amqp_engine.specs.Log.{Log}
use Rattle.amqp_joined.specs.declared.marks.Mark.{Mark}
use Rattle.amqp_joined.specs.declared.marks.Marked.{Marked}
use Rattle.amqp_joined.specs.declared.marks.Marked.TheVariants as marked
use Rattle.amqp_double.specs.Doubles.{DoubleState}
use Rattle.amqp_joining.specs.Plans.{JoinPlan}
use Rattle.amqp_joining.specs.Joining.{Join, join, next_step, after_join_step}

-- a joined port: how far it is, and what it tells of that
pub record JoinedState : Type 0 where
  pub join : Join
  pub log : Log

-- what no call of a joined port changes: the plan, and the numbers of the double
pub record KeptPlan : Type 0 where
  pub plan : JoinPlan
  pub numbers : Configuration

-- that part
abbrev pub kept_plan : JoinedState → KeptPlan
kept_plan s = record { plan = s.join.plan; numbers = s.join.double.numbers }

-- ---- the steps that are marked

-- the last close
abbrev pub last_close : Cmd
last_close = CloseConnection 200 (79 ∷ 75 ∷ [])

-- the command of a number, behind which the last close comes
abbrev pub command_at : List Cmd → ℕ → Cmd
command_at commands number = slice_index_or commands number last_close

-- what a marked step is
abbrev pub marked_step : List Cmd → Marked → Step
marked_step commands marked.Linked = Linked
marked_step commands marked.Room = Room
marked_step commands (marked.Piece start count) = Piece count
marked_step commands (marked.Command number) = Command (command_at commands number)

-- the octets of a step, of those that the double said
abbrev pub marked_octets : List ℕ → Marked → List ℕ
marked_octets said (marked.Piece start count) = take count (drop start said)
marked_octets said _ = []

-- the same, as it is told
abbrev pub marked_happening : List Cmd → List ℕ → Mark → Happening
marked_happening commands said m =
    record { before = m.before; at = 0; step = marked_step commands m.what; bytes = marked_octets said m.what }

-- what is told: there is one link, once it was told, with what was taken since; and no script is played
abbrev pub joined_log : List Mark → ℕ → List Write → Bool → Option ℕ → ℕ → Join → Log
joined_log marks told writes asked asked_at link_at j =
    record {
      steps = map (marked_happening j.plan.commands j.double.said) marks;
      told = told;
      moment = 0;
      writes = writes;
      links = if j.linked then drop link_at j.taken ∷ [] else [];
      asked = asked;
      asked_at = asked_at;
      plan = None;
    }

-- a port that told nothing, by this plan
abbrev pub joined_new : DoubleState → JoinPlan → JoinedState
joined_new double plan = record { join = join double plan; log = joined_log [] 0 [] false None 0 (join double plan) }

-- ---- the rules of its calls

-- what a step tells, and what the port is then
pub record TellsStep (at : ℕ) (step : Step) (octets : List ℕ) (asked : Bool) (old new : Join) : Type 0 where
  pub told : next_step asked old ≡ record { at = at; step = step; bytes = octets }
  pub then_so : new ≡ after_join_step asked old
