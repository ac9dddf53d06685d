-- What is inside a joined port, and what its private calls do.
use Rattle.std.specs.Prelude.{◌≡◌, ◌≤◌, ◌<◌, ℕ, ◌+◌, ◌-◌, not, Bool, true, false, List, ◌++◌, length, drop, Option, Some, None, is_some, vec_capacity}
use Rattle.std.specs.List.{AllByRecursion}
use Rattle.amqp_commands.specs.declared.command.Cmd.{Cmd}
use Rattle.amqp_engine.specs.declared.port.Step.{Step}
use Rattle.amqp_engine.specs.declared.port.Wrote.{Wrote}
use Rattle.amqp_engine.specs.declared.port.Wrote.TheVariants as wrote
use Rattle.amqp_engine.specs.Log.{Log, log_step, log_write, TookAtMost}
use Rattle.amqp_double.specs.Doubles.{AnswersClient, SaysOn}
use Rattle.amqp_joined.specs.declared.marks.Mark.{Mark}
use Rattle.amqp_joined.specs.declared.marks.Marked.{Marked}
use Rattle.amqp_joined.specs.declared.marks.Marked.TheVariants as marked
use Rattle.amqp_joined.specs.declared.inside.Inside.{Inside}
use Rattle.amqp_joining.specs.Plans.{IsPlan, join_plan_of}
use Rattle.amqp_joining.specs.Joining.{Join, HasFed, JoinWrites}
use Rattle.amqp_joined.specs.Ports.{JoinedState, last_close, joined_log, TellsStep}
use Rattle.amqp_joined.specs.Reached.{HasCome}

-- how far the plan and the double are
abbrev pub join_of : Inside → Join
join_of p =
    record {
      plan = join_plan_of p.plan;
      double = p.double;
      cut_at = p.cut_at;
      room_at = p.room_at;
      commands = p.commands.items;
      closing = not (is_some p.close);
      linked = p.linked;
      room = p.room;
      taken = p.taken.items;
      short = p.short;
    }

-- what is told of it
abbrev pub log_of : Inside → Log
log_of p = joined_log p.marks.items p.told p.writes.items p.asked p.asked_at p.link_at (join_of p)

-- both
abbrev pub joined_state_of : Inside → JoinedState
joined_state_of p = record { join = join_of p; log = log_of p }

-- the double's octets that were not told
abbrev pub output_of : Inside → List ℕ
output_of p = drop p.double.sent p.double.said

-- ---- what holds of it

-- a mark is of octets that were told
abbrev pub IsToldMark : ℕ → Marked → Type 0
IsToldMark sent (marked.Piece start count) = start + count ≤ sent
IsToldMark sent _ = Unit {0}

-- a place, or none
abbrev pub place_where : Bool → ℕ
place_where true = 1
place_where false = 0

-- for how many steps there is a place: the link, a room, each octet of the double, each command and the last close
abbrev pub places_wanted : Inside → ℕ
places_wanted p =
    place_where (not p.linked) + place_where p.short + length (output_of p) + length p.commands.items
    + place_where (is_some p.close)

-- a close is the last one, where it was not given
abbrev pub IsLastClose : Option Cmd → Type 0
IsLastClose None = Unit {0}
IsLastClose (Some c) = c ≡ last_close

-- these are the last of a plan's commands
pub record AreLast (left all : List Cmd) : Type 0 where
  pub given : List Cmd
  pub all_are : all ≡ given ++ left

-- the plan is one, and its places are within it; the commands that are left are its last ones; what is marked was told;
-- the link begins within what was taken; and each step that is still to be marked has its place
pub record Holds (p : Inside) : Type 0 where
  pub plan : IsPlan (join_plan_of p.plan)
  pub cut : p.cut_at < length p.plan.cuts.numbers
  pub room : p.room_at < length p.plan.rooms.numbers
  pub left : AreLast p.commands.items p.plan.commands.items
  pub close : IsLastClose p.close
  pub marked : AllByRecursion (λ (m : Mark). IsToldMark p.double.sent m.what) p.marks.items
  pub answers : AnswersClient p.double
  pub begins : p.link_at ≤ length p.taken.items
  pub places : length p.marks.items + places_wanted p ≤ vec_capacity p.marks

-- this holds of it, and what it tells says how it came to be as it is
pub record HoldsAll (p : Inside) : Type 0 where
  pub holds : Holds p
  pub reached : HasCome (joined_state_of p)

-- ---- what its calls do

-- a step is told by its rule, and what holds is kept
pub record TellsByRule (step : Step) (octets : List ℕ) (old new : Inside) : Type 0 where
  pub holds : Holds new
  pub rule : TellsStep 0 step octets old.asked (join_of old) (join_of new)
  pub log : log_of new ≡ log_step 0 step octets (log_of old)

-- a write is answered by its rule, and what holds is kept
pub record WritesByRule (octets : List ℕ) (answer : Wrote) (old new : Inside) : Type 0 where
  pub holds : Holds new
  pub rule : JoinWrites octets answer (join_of old) (join_of new)
  pub log : log_of new ≡ log_write octets answer (log_of old)
  pub within : TookAtMost (length octets) answer
  pub goes : answer ≡ wrote.Failed → ⊥

-- the double was fed these octets, they were taken, and there is a place for the write, for each octet that is then to
-- be told, and for the link, a room, each command and the last close
pub record Feeds (octets : List ℕ) (old new : Inside) : Type 0 where
  pub fed : HasFed octets old.double new.double
  pub said : SaysOn old.double.said new.double.said
  pub taken : new.taken.items ≡ old.taken.items ++ octets
  pub writes : new.writes.items ≡ old.writes.items
  pub place : length new.writes.items < vec_capacity new.writes
  pub marks : new.marks.items ≡ old.marks.items
  pub places :
      length old.marks.items + (length new.double.said - new.double.sent) + (length old.commands.items + 3)
      ≤ vec_capacity new.marks
  pub rest : new ≡ record old {
    double = new.double;
    marks = new.marks;
    writes = new.writes;
    taken = new.taken;
  }

-- nothing changed but that lists may have more room
pub record OnlyRoomier (old new : Inside) : Type 0 where
  pub marks : new.marks.items ≡ old.marks.items
  pub capacity : vec_capacity old.marks ≤ vec_capacity new.marks
  pub writes : new.writes.items ≡ old.writes.items
  pub taken : new.taken.items ≡ old.taken.items
  pub rest : new ≡ record old { marks = new.marks; writes = new.writes; taken = new.taken }
