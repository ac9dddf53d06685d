-- Lists as lanes: the first of them, and what is left without the first of a kind.
use Rattle.std.specs.Prelude.{◌≡◌, ℕ, ◌<◌, ◌==◌, Bool, true, false, if◌then◌else◌, List, [], ◌∷◌, Option, Some, None, find, length, take, slice_index_or}

-- the first of a list, where there is one
abbrev pub head : {X : Type 0} → List X → Option X
head [] = None
head (x ∷ xs) = Some x

-- all but the first that passes a test
abbrev pub without_first : {X : Type 0} → (X → Bool) → List X → List X
without_first test [] = []
without_first test (x ∷ xs) = if test x then xs else x ∷ without_first test xs

-- the first that passes a test stands behind so many others
abbrev pub IsFirstAt : {X : Type 0} → (X → Bool) → ℕ → List X → Type 0
IsFirstAt {X} test i xs =
    (find test (take i xs) ≡ None) × (i < length xs) × ((x : X) → test (slice_index_or xs i x) ≡ true)

-- a number is this one, where there is one
abbrev pub is_the_number : ℕ → Option ℕ → Bool
is_the_number n None = false
is_the_number n (Some m) = m == n
