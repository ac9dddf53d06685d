-- What a joined port tells by a plan, and how much it takes.
use Rattle.std.specs.Prelude.{◌≡◌, ℕ, ◌+◌, ◌-◌, ◌&&◌, ◌==◌, ◌%◌, not, min, nat_lt, if◌then◌else◌, Bool, true, false, List, [], ◌∷◌, ◌++◌, length, take, drop, slice_index, None, IsTrue, is_some}
use Rattle.std.specs.List.{AllByRecursion}
use Rattle.amqp_commands.specs.declared.command.Cmd.{Cmd}
use Rattle.amqp_commands.specs.declared.command.Cmd.TheVariants.{CloseConnection}
use Rattle.amqp_engine.specs.declared.port.Step.{Step}
use Rattle.amqp_engine.specs.declared.port.Step.TheVariants.{Linked, Piece, Room, Tick, Command}
use Rattle.amqp_engine.specs.declared.port.Wrote.{Wrote}
use Rattle.amqp_engine.specs.declared.port.Wrote.TheVariants.{Took, Failed, NoMemory}
use Rattle.amqp_engine.specs.Plan.{Coming, at_most_64}
use Rattle.amqp_engine.specs.Engine.{Engine}
use Rattle.amqp_engine.specs.Turn.{Turn, asks, wants_ask, turn}
use Rattle.amqp_engine.specs.Tell.{Offer, offers_of}
use Rattle.amqp_double.specs.Doubles.{DoubleState, AnswersClient}
use Rattle.amqp_joining.specs.Plans.{JoinPlan}

-- ---- a joined port

-- a double, and how far a plan is
pub record Join : Type 0 where
  pub plan : JoinPlan
  pub double : DoubleState
  -- which cut and which room is taken next
  pub cut_at : ℕ
  pub room_at : ℕ
  -- the commands that were not given, and whether the last close was
  pub commands : List Cmd
  pub closing : Bool
  -- a link was told, how many octets it takes, and those that it took
  pub linked : Bool
  pub room : ℕ
  pub taken : List ℕ
  -- the last write took less than was offered, and no room was told since
  pub short : Bool

-- a port that told nothing
abbrev pub join : DoubleState → JoinPlan → Join
join double plan =
    record {
      plan = plan;
      double = double;
      cut_at = 0;
      room_at = 0;
      commands = plan.commands;
      closing = false;
      linked = false;
      room = 0;
      taken = [];
      short = false;
    }

-- the place after one in a list that is taken again from the front
abbrev pub place_after : List ℕ → ℕ → ℕ
place_after ns at = (at + 1) % length ns

-- the double's octets that were not told
abbrev pub output : Join → List ℕ
output j = drop j.double.sent j.double.said

-- ---- the next step, of the moment 0

-- a step with these octets
abbrev pub comes : Step → List ℕ → Coming
comes step octets = record { at = 0; step = step; bytes = octets }

-- how long the next piece is
abbrev pub next_cut : Join → ℕ
next_cut j = min (length (output j)) (slice_index j.plan.cuts j.cut_at)

-- what is told where the double has nothing to tell: the commands, the last close, and then ticks
abbrev pub next_command : List Cmd → Bool → Coming
next_command (c ∷ commands) closing = comes (Command c) []
next_command [] false = comes (Command (CloseConnection 200 (79 ∷ 75 ∷ []))) []
next_command [] true = comes Tick []

-- the next step, where a link is asked for or not
abbrev pub next_step : Bool → Join → Coming
next_step asked j =
    if asked && not j.linked then comes Linked [] else
    if j.short then comes Room [] else
    if not (length (output j) == 0) then comes (Piece (next_cut j)) (take (next_cut j) (output j)) else
    next_command j.commands j.closing

-- the next room is added, a number that stays at the greatest of 64 bits
abbrev pub roomier : Join → Join
roomier j =
    record j {
      room = at_most_64 (j.room + slice_index j.plan.rooms j.room_at);
      room_at = place_after j.plan.rooms j.room_at;
      short = false;
    }

-- the next piece is told
abbrev pub sent_on : Join → Join
sent_on j =
    record j {
      double = record j.double { sent = j.double.sent + next_cut j };
      cut_at = place_after j.plan.cuts j.cut_at;
    }

-- the next command is told, or the last close
abbrev pub commanded : List Cmd → Join → Join
commanded [] j = record j { closing = true }
commanded (c ∷ commands) j = record j { commands = commands }

-- once the next step is told
abbrev pub after_join_step : Bool → Join → Join
after_join_step asked j =
    if asked && not j.linked then roomier (record j { linked = true }) else
    if j.short then roomier j else
    if not (length (output j) == 0) then sent_on j else
    commanded j.commands j

-- ---- a write

-- a double was fed these octets, and memory was not refused: it keeps them, unless it had refused something
pub record HasFed (octets : List ℕ) (old new : DoubleState) : Type 0 where
  pub numbers : new.numbers ≡ old.numbers
  pub sent : new.sent ≡ old.sent
  pub client : old.refusal ≡ None → new.client ≡ old.client ++ octets
  pub refused : IsTrue (is_some old.refusal) → new ≡ old
  pub answers : AnswersClient new

-- as much is taken as there is room for, and is fed to the double, unless there is no memory for it
abbrev pub JoinWrites : List ℕ → Wrote → Join → Join → Type 0
JoinWrites octets (Took k) old new =
    (k ≡ min old.room (length octets)) × HasFed (take k octets) old.double new.double
    × (new ≡ record old {
      double = new.double;
      room = old.room - k;
      taken = old.taken ++ take k octets;
      short = nat_lt k (length octets);
    })
JoinWrites octets Failed old new = ⊥
JoinWrites octets NoMemory old new = new ≡ old

-- ---- turns over a joined port

-- these offers are taken so, one after another
abbrev pub JoinsOffers : List Offer → Join → Join → Type 0
JoinsOffers [] old new = new ≡ old
JoinsOffers (o ∷ offers) old new =
    (next : Join) × JoinWrites o.bytes o.answer old next × JoinsOffers offers next new

-- whether a link is asked for before the step of a turn
abbrev pub asked_now : Engine → Bool → Bool
asked_now e asked = if wants_ask e then true else asked

-- and after it
abbrev pub asked_then : Bool → Join → Bool
asked_then asked j = if asked && not j.linked then false else asked

-- a turn is one over this port
abbrev pub JoinsTurn : Turn → Engine → Bool → Join → Join → Type 0
JoinsTurn u e asked old new =
    (next_step (asked_now e asked) old ≡ record { at = u.at; step = u.step; bytes = u.bytes })
    × JoinsOffers (offers_of u (asks e)) (after_join_step (asked_now e asked) old) new

-- turns, one after another
abbrev pub JoinsTurns : List Turn → Engine → Bool → Join → Join → Type 0
JoinsTurns [] e asked old new = new ≡ old
JoinsTurns (u ∷ us) e asked old new =
    (next : Join) × JoinsTurn u e asked old next
    × JoinsTurns us (turn u e) (asked_then (asked_now e asked) old) next new

-- in none of these turns memory was refused
abbrev pub AreFed : List Turn → Type 0
AreFed us = AllByRecursion (λ (u : Turn). u.notes.starved ≡ None) us
