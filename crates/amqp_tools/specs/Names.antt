-- The names of messages that were printed, of which the last are kept.
use Rattle.std.specs.Prelude.{ℕ, nat_le, Bool, false, ◌||◌, List, [], ◌∷◌, length, if◌then◌else◌}
use Rattle.std.specs.Ordering.{nat_cmp, match_ordering}
use Rattle.std.specs.Cmp.Lexicographic.{slice_cmp}
use Rattle.std.specs.Str.{bytes_eq}

-- the names that are kept: those of a window, and all of the window before
pub record PrintedNames : Type 0 where
  pub earlier : List (List ℕ)
  pub later : List (List ℕ)

-- how many names a window has
abbrev pub window : ℕ
window = 65536

-- none is kept
abbrev pub no_names : PrintedNames
no_names = record { earlier = []; later = [] }

-- a name is among these
abbrev pub is_name_among : List ℕ → List (List ℕ) → Bool
is_name_among name [] = false
is_name_among name (n ∷ ns) = bytes_eq name n || is_name_among name ns

-- a name is kept
abbrev pub has_name : PrintedNames → List ℕ → Bool
has_name names name = is_name_among name names.later || is_name_among name names.earlier

-- one more of names in the order of their octets, each once
abbrev pub put_name : List ℕ → List (List ℕ) → List (List ℕ)
put_name name [] = name ∷ []
put_name name (n ∷ ns) = match_ordering (slice_cmp nat_cmp name n) (name ∷ n ∷ ns) (n ∷ ns) (n ∷ put_name name ns)

-- where the window is full another begins, and the one before it goes
abbrev pub windowed : PrintedNames → PrintedNames
windowed names =
    if nat_le window (length names.later) then record { earlier = names.later; later = [] } else names

-- one more is kept
abbrev pub keep_name : List ℕ → PrintedNames → PrintedNames
keep_name name names = record (windowed names) { later = put_name name (windowed names).later }
