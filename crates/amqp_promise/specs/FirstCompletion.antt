-- What a cell keeps and gives, over every list of steps.
use Rattle.std.specs.Prelude.{◌≡◌, List, [], ◌∷◌, ◌++◌, Option, Some, None, Bool, true, false}
use Rattle.std.specs.List.{list_any}
use Rattle.amqp_promise.specs.Places.{Place}
use Rattle.amqp_promise.specs.Cell.{Cell, new_cell, completed, taken, left, registered, places_of}

-- what is done to a cell; a register step has its place, where memory for it was found
pub data Step (A : Type 0) : Type 0 where
  complete : A → Step A
  take : Step A
  register : Option Place → Step A

module _ {A : Type 0} where
  -- the cell after a step
  abbrev pub after : Step A → Cell A → Cell A
  after (Step.complete x) cell = completed x cell
  after Step.take cell = left cell
  after (Step.register None) cell = cell
  after (Step.register (Some place)) cell = registered place cell

  -- the cell after steps, in order
  abbrev pub run : List (Step A) → Cell A → Cell A
  run [] cell = cell
  run (step ∷ steps) cell = run steps (after step cell)

  -- what a take gets after these steps on a new cell
  abbrev pub got_after : List (Step A) → Option A
  got_after steps = taken (run steps new_cell)

  -- the places that a new cell has after these steps
  abbrev pub places_after : List (Step A) → List Place
  places_after steps = places_of (run steps new_cell)

  -- the places of the register steps that found memory
  abbrev pub found : List (Step A) → List Place
  found [] = []
  found (Step.register (Some place) ∷ steps) = place ∷ found steps
  found (Step.register None ∷ steps) = found steps
  found (Step.complete x ∷ steps) = found steps
  found (Step.take ∷ steps) = found steps

  -- a step that completes
  abbrev pub is_completion : Step A → Bool
  is_completion (Step.complete x) = true
  is_completion Step.take = false
  is_completion (Step.register place) = false

  -- a step that takes
  abbrev pub is_take : Step A → Bool
  is_take (Step.complete x) = false
  is_take Step.take = true
  is_take (Step.register place) = false

  -- no completion is among the steps
  abbrev pub HasNoCompletion : List (Step A) → Type 0
  HasNoCompletion steps = list_any is_completion steps ≡ false

  -- no take is among the steps
  abbrev pub HasNoTake : List (Step A) → Type 0
  HasNoTake steps = list_any is_take steps ≡ false

-- the value of a cell is that of its first completion, which is taken once
pub record FirstCompletion (A : Type 0) : Type 0 where
  -- before a completion a take gets nothing
  pub nothing : (steps : List (Step A)) → HasNoCompletion steps → got_after steps ≡ None
  -- the first take after the first completion gets its value
  pub first : (before between : List (Step A)) (x : A) → HasNoCompletion before → HasNoTake between
      → got_after (before ++ Step.complete x ∷ between) ≡ Some x
  -- every later take gets nothing
  pub once : (before between later : List (Step A)) (x : A)
      → got_after (before ++ Step.complete x ∷ (between ++ Step.take ∷ later)) ≡ None
  -- before a completion there are the places of the register steps that found memory
  pub places : (steps : List (Step A)) → HasNoCompletion steps → places_after steps ≡ found steps
  -- after one there are none
  pub no_places : (before later : List (Step A)) (x : A) → places_after (before ++ Step.complete x ∷ later) ≡ []
