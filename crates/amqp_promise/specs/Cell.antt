-- A cell that is completed once, and the steps that are made on it.
use Rattle.std.specs.Prelude.{List, [], ◌∷◌, ◌++◌, Option, Some, None, Bool, true, false}
use Rattle.amqp_promise.specs.Places.{Place}

-- a cell waits, with its places for wakers, until it keeps what it was first completed with, until that was taken
pub data Cell (A : Type 0) : Type 0 where
  Waiting : List Place → Cell A
  Kept : A → Cell A
  Taken : Cell A

module _ {A : Type 0} where
  -- a new cell waits, with no place
  abbrev pub new_cell : Cell A
  new_cell = Cell.Waiting []

  -- the cell after a completion: the first is kept, and the places are gone; a later one changes nothing
  abbrev pub completed : A → Cell A → Cell A
  completed x (Cell.Waiting places) = Cell.Kept x
  completed x (Cell.Kept first) = Cell.Kept first
  completed x Cell.Taken = Cell.Taken

  -- what a take gets
  abbrev pub taken : Cell A → Option A
  taken (Cell.Waiting places) = None
  taken (Cell.Kept first) = Some first
  taken Cell.Taken = None

  -- the cell after a take
  abbrev pub left : Cell A → Cell A
  left (Cell.Waiting places) = Cell.Waiting places
  left (Cell.Kept first) = Cell.Taken
  left Cell.Taken = Cell.Taken

  -- the cell after a task registered, with its place: a cell that waits has one place more; a completed one registers
  -- nothing
  abbrev pub registered : Place → Cell A → Cell A
  registered place (Cell.Waiting places) = Cell.Waiting (places ++ place ∷ [])
  registered place (Cell.Kept first) = Cell.Kept first
  registered place Cell.Taken = Cell.Taken

  -- whether a completion came
  abbrev pub is_complete : Cell A → Bool
  is_complete (Cell.Waiting places) = false
  is_complete (Cell.Kept first) = true
  is_complete Cell.Taken = true

  -- the places for wakers that a cell has
  abbrev pub places_of : Cell A → List Place
  places_of (Cell.Waiting places) = places
  places_of (Cell.Kept first) = []
  places_of Cell.Taken = []
