-- A plan for both ends of a link, and how many turns it takes.
use Rattle.std.specs.Prelude.{◌≢◌, ◌≤◌, ℕ, ◌+◌, ◌-◌, ◌*◌, ◌^◌, min, List, [], length, sum_by}
use Rattle.std.specs.List.{AllByRecursion}
use Rattle.amqp_commands.specs.declared.command.Cmd.{Cmd}
use Rattle.amqp_commands.specs.declared.command.Cmd.TheVariants.{CloseChannel, CloseConnection, UpdateSecret, Send, Publish}
use Rattle.amqp_joining.specs.declared.plan.Plan.{Plan}

-- how the double's octets are cut, how much room the link has each time, and what the session is told to do
pub record JoinPlan : Type 0 where
  pub cuts : List ℕ
  pub rooms : List ℕ
  pub commands : List Cmd

-- a plan of the code
abbrev pub join_plan_of : Plan → JoinPlan
join_plan_of p = record { cuts = p.cuts.numbers; rooms = p.rooms.numbers; commands = p.commands.items }

-- there are cuts of 1 to 4096 octets, and rooms of at least one
pub record IsPlan (p : JoinPlan) : Type 0 where
  pub some_cuts : p.cuts ≢ []
  pub some_rooms : p.rooms ≢ []
  pub cuts : AllByRecursion (λ (n : ℕ). (1 ≤ n) × (n ≤ 4096)) p.cuts
  pub rooms : AllByRecursion (λ (n : ℕ). 1 ≤ n) p.rooms

-- the octets of a command's texts and payloads; a method has its class and its number too
abbrev pub text_octets : Cmd → ℕ
text_octets (CloseChannel channel code text) = length text
text_octets (CloseConnection code text) = length text
text_octets (UpdateSecret secret reason) = length secret + length reason
text_octets (Send channel method) = 4 + length method.arguments
text_octets (Publish channel method properties body) = 4 + length method.arguments + length properties + length body
text_octets _ = 0

-- the turns of a command
abbrev pub command_turns : Cmd → ℕ
command_turns c = 81 + 2 * text_octets c

-- the turns that are enough for these commands, a number that stays at the greatest of 64 bits
abbrev pub turns_for_all : List Cmd → ℕ
turns_for_all commands = min (131543 + sum_by command_turns commands) (2 ^ 64 - 1)

-- the turns that are enough for a plan
abbrev pub turns_of : JoinPlan → ℕ
turns_of p = turns_for_all p.commands
