-- A cell gives its first completion once, whatever steps are made on it.
use Rattle.std.proofs.Common.{◌≡◌, List, [], ◌∷◌, ◌++◌, Some, None, true, refl, sym, ap, ◌∙◌, append_assoc, append-nil}
use Rattle.amqp_promise.specs.Places.{Place}
use Rattle.amqp_promise.specs.Cell.{Cell, new_cell, completed, taken, left, is_complete, places_of}
use Rattle.amqp_promise.specs.FirstCompletion.{Step, after, run, found, HasNoCompletion, HasNoTake, FirstCompletion}

module _ {A : Type 0} where
  run-append : (xs ys : List (Step A)) (cell : Cell A) → run (xs ++ ys) cell ≡ run ys (run xs cell)
  run-append [] ys cell = refl
  run-append (x ∷ xs) ys cell = run-append xs ys (after x cell)

  -- before a completion a cell waits, with the places that were found
  waits : (steps : List (Step A)) (places : List Place) → HasNoCompletion steps
      → run steps (Cell.Waiting places) ≡ Cell.Waiting (places ++ found steps)
  waits [] places none = ap Cell.Waiting (sym (append-nil places))
  waits (Step.take ∷ steps) places none = waits steps places none
  waits (Step.complete x ∷ steps) places none = cc
  waits (Step.register None ∷ steps) places none = waits steps places none
  waits (Step.register (Some place) ∷ steps) places none =
      waits steps (places ++ place ∷ []) none ∙ simp append_assoc

  -- until a take a completed cell keeps its value
  keeps : (steps : List (Step A)) (x : A) → HasNoTake steps → run steps (Cell.Kept x) ≡ Cell.Kept x
  keeps [] x none = refl
  keeps (Step.take ∷ steps) x none = cc
  keeps (Step.complete y ∷ steps) x none = keeps steps x none
  keeps (Step.register None ∷ steps) x none = keeps steps x none
  keeps (Step.register (Some place) ∷ steps) x none = keeps steps x none

  -- a cell whose value was taken stays so
  stays_taken : (steps : List (Step A)) → run steps Cell.Taken ≡ Cell.Taken
  stays_taken [] = refl
  stays_taken (Step.take ∷ steps) = stays_taken steps
  stays_taken (Step.complete x ∷ steps) = stays_taken steps
  stays_taken (Step.register None ∷ steps) = stays_taken steps
  stays_taken (Step.register (Some place) ∷ steps) = stays_taken steps

  is_complete-completed : (x : A) (cell : Cell A) → is_complete (completed x cell) ≡ true
  is_complete-completed x (Cell.Waiting places) = refl
  is_complete-completed x (Cell.Kept first) = refl
  is_complete-completed x Cell.Taken = refl

  -- no step undoes a completion
  is_complete-after : (step : Step A) (cell : Cell A) → is_complete cell ≡ true → is_complete (after step cell) ≡ true
  is_complete-after (Step.complete x) cell done = is_complete-completed x cell
  is_complete-after Step.take (Cell.Waiting places) done = done
  is_complete-after Step.take (Cell.Kept first) done = refl
  is_complete-after Step.take Cell.Taken done = refl
  is_complete-after (Step.register None) cell done = done
  is_complete-after (Step.register (Some place)) (Cell.Waiting places) done = done
  is_complete-after (Step.register (Some place)) (Cell.Kept first) done = refl
  is_complete-after (Step.register (Some place)) Cell.Taken done = refl

  is_complete-run : (steps : List (Step A)) (cell : Cell A) → is_complete cell ≡ true → is_complete (run steps cell) ≡ true
  is_complete-run [] cell done = done
  is_complete-run (step ∷ steps) cell done = is_complete-run steps (after step cell) (is_complete-after step cell done)

  -- what a completed cell has after a take, and the places that it has
  left-complete : (cell : Cell A) → is_complete cell ≡ true → left cell ≡ Cell.Taken
  left-complete (Cell.Waiting places) done = cc
  left-complete (Cell.Kept first) done = refl
  left-complete Cell.Taken done = refl

  places_of-complete : (cell : Cell A) → is_complete cell ≡ true → places_of cell ≡ []
  places_of-complete (Cell.Waiting places) done = cc
  places_of-complete (Cell.Kept first) done = refl
  places_of-complete Cell.Taken done = refl

  gives_first : (before between : List (Step A)) (x : A) → HasNoCompletion before → HasNoTake between
      → run (before ++ Step.complete x ∷ between) new_cell ≡ Cell.Kept x
  gives_first before between x no_completion no_take =
      run-append before (Step.complete x ∷ between) new_cell
      ∙ ap (λ cell. run between (completed x cell)) (waits before [] no_completion)
      ∙ keeps between x no_take

  gives_once : (before between later : List (Step A)) (x : A)
      → run (before ++ Step.complete x ∷ (between ++ Step.take ∷ later)) new_cell ≡ Cell.Taken
  gives_once before between later x =
      let cell = completed x (run before new_cell) in
      let kept = is_complete-run between cell (is_complete-completed x (run before new_cell)) in
      run-append before (Step.complete x ∷ (between ++ Step.take ∷ later)) new_cell
      ∙ run-append between (Step.take ∷ later) cell
      ∙ ap (run later) (left-complete (run between cell) kept)
      ∙ stays_taken later

  completes : (before later : List (Step A)) (x : A)
      → is_complete (run (before ++ Step.complete x ∷ later) new_cell) ≡ true
  completes before later x =
      ap is_complete (run-append before (Step.complete x ∷ later) new_cell)
      ∙ is_complete-run later (completed x (run before new_cell))
      (is_complete-completed x (run before new_cell))

  pub is_first_completion : FirstCompletion A
  is_first_completion =
      record {
        nothing = λ steps none. ap taken (waits steps [] none);
        first = λ before between x no_completion no_take. ap taken (gives_first before between x no_completion no_take);
        once = λ before between later x. ap taken (gives_once before between later x);
        places = λ steps none. ap places_of (waits steps [] none);
        no_places = λ before later x. places_of-complete _ (completes before later x);
      }
