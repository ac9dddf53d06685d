-- Numbers that are given one after another, in a cycle.
use Rattle.std.specs.Prelude.{Bool, ℕ, ◌-◌, ◌==◌, nat_lt, if◌then◌else◌, Option, Some, unwrap_or}
use Rattle.amqp_channels.specs.Numbering.{first_number, after}

-- whether 0 is among the numbers, the maximum if there is one, and the cursor, from which the next number is given
pub record Sequence : Type 0 where
  pub allow_zero : Bool
  pub maximum : Option ℕ
  pub cursor : ℕ

-- the last number of a cycle: the maximum, or without one the greatest number of the type
abbrev pub last_number : ℕ → Sequence → ℕ
last_number greatest s = unwrap_or s.maximum greatest

-- the number that is given next in a cycle up to a last one: the cursor, or the first number where the cursor is above
-- the last; where 0 is not among the numbers, the first is 1, and a cursor of 0 counts as 1
abbrev pub number_up_to : ℕ → Sequence → ℕ
number_up_to last s =
    if s.allow_zero
    then if nat_lt last s.cursor then 0 else s.cursor
    else first_number last s.cursor

-- a sequence whose cursor has gone on after a number: to the one after that, or to 0 after the last
abbrev pub passed : ℕ → ℕ → Sequence → Sequence
passed last n s = record s { cursor = after last n }

-- the number that is given next
abbrev pub next_number : ℕ → Sequence → ℕ
next_number greatest s = number_up_to (last_number greatest s) s

-- a sequence whose next number was given
abbrev pub go_on : ℕ → Sequence → Sequence
go_on greatest s = passed (last_number greatest s) (next_number greatest s) s

-- the number before the cursor; where the cursor is 0 that is the maximum, or nothing without one
abbrev pub current_number : Sequence → Option ℕ
current_number s = if s.cursor == 0 then s.maximum else Some (s.cursor - 1)
