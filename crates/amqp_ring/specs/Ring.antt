-- A buffer as two lists of bytes, and what each of its calls does to them.
use Rattle.std.specs.Prelude.{ℕ, ◌+◌, ◌-◌, List, [], ◌++◌, take, drop, length, replicate}

-- the bytes that are kept, oldest first, and the free ones, in the order in which they are filled
pub record Ring : Type 0 where
  pub kept : List ℕ
  pub free : List ℕ

-- how many bytes there are, kept and free
abbrev pub capacity : Ring → ℕ
capacity b = length b.kept + length b.free

-- the first kept bytes go, and are the last free ones
abbrev pub consumed : ℕ → Ring → Ring
consumed n b = record { kept = drop n b.kept; free = b.free ++ take n b.kept }

-- the first free bytes are kept, as they are
abbrev pub filled : ℕ → Ring → Ring
filled n b = record { kept = b.kept ++ take n b.free; free = drop n b.free }

-- as many of these bytes as there is room for are kept, each in the place of a free one
abbrev pub written : List ℕ → Ring → Ring
written bytes b = record { kept = b.kept ++ take (length b.free) bytes; free = drop (length bytes) b.free }

-- the first kept bytes stay, and the others are the first free ones
abbrev pub rolled_back : ℕ → Ring → Ring
rolled_back n b = record { kept = take n b.kept; free = drop n b.kept ++ b.free }

-- zeros come behind the free bytes, up to this capacity
abbrev pub grown : ℕ → Ring → Ring
grown size b = record { kept = b.kept; free = b.free ++ replicate (size - capacity b) 0 }

-- nothing is kept
abbrev pub emptied : Ring → Ring
emptied b = record { kept = []; free = b.kept ++ b.free }
