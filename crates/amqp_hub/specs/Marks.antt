-- The places of handles, and what is found there.
use Rattle.std.specs.Prelude.{◌≡◌, ◌⊎◌, ℕ, zero, suc, length, List, [], ◌∷◌, ◌++◌, map, Option, Some, None, set, slice_get}
use Rattle.std.specs.Arc.{arc_value}
use Rattle.once_cell.specs.Once.{cell_name}
use Rattle.amqp_hub.specs.declared.due.Owner.{Owner}
use Rattle.amqp_hub.specs.declared.marks.Slot.{Slot}
use Rattle.amqp_hub.specs.declared.marks.Slot.TheVariants.{Kept, Free}

-- whose place it is, where it is one that a handle has
abbrev pub kept_in : Slot → Option Owner
kept_in (Kept place) = Some place.owner
kept_in (Free next) = None

-- an owner stands at the place of this number, from 1 on, which was free or is new, and all else as before
abbrev pub StandsAt : ℕ → Owner → List (Option Owner) → List (Option Owner) → Type 0
StandsAt zero o before after = ⊥
StandsAt (suc i) o before after =
    ((slice_get before i ≡ Some None) × (after ≡ set before i (Some o)))
    ⊎ ((i ≡ length before) × (after ≡ before ++ Some o ∷ []))

-- the mark of this owner was found at its place, which is free then, and all else as before
abbrev pub IsFound : Owner → List (Option Owner) → List (Option Owner) → Type 0
IsFound o before after = (i : ℕ) × (slice_get before i ≡ Some (Some o)) × (after ≡ set before i None)

-- the name of the cell in which the handle of a place leaves its mark, where it is one that a handle has
abbrev pub cell_in : Slot → Option ℕ
cell_in (Kept place) = Some (cell_name (arc_value place.spot).cell)
cell_in (Free next) = None

-- the mark of this owner was found at a place, and read in a cell of this name, which is the place's; the place is free
-- then
abbrev pub IsReadThere : Owner → ℕ → List Slot → List Slot → Type 0
IsReadThere o cell before after =
    (i : ℕ) × (slice_get (map kept_in before) i ≡ Some (Some o))
    × (slice_get (map cell_in before) i ≡ Some (Some cell))
    × (map kept_in after ≡ set (map kept_in before) i None)
