-- What is read, in two pieces.
use Rattle.std.specs.Prelude.{◌≡◌, map, ℕ, ◌<◌, List, ◌++◌, take, length, Bool, true, false, codes}
use Rattle.std.specs.Fmt.{decimal}
use Rattle.std.specs.List.{AllWithin, HoldsAt}
use Rattle.std.specs.Char.{to_ascii_lowercase}
use Rattle.amqp_ring.specs.declared.context.ParsingContext.{ParsingContext}
use Rattle.amqp_ring.specs.declared.compare.CompareResult.{CompareResult}
use Rattle.amqp_ring.specs.declared.compare.CompareResult.TheVariants.{Ok, Incomplete, Error}

-- the bytes of a context are those of its first piece and then those of its second
abbrev pub context_bytes : ParsingContext → List ℕ
context_bytes c = c.first.now ++ c.second.now

-- what a programmer is shown of a context: how many bytes it has, and none of them
abbrev pub debug_text : ParsingContext → List ℕ
debug_text c = codes "ParsingContext { len: " ++ decimal (length (context_bytes c)) ++ codes ", .. }"

-- these bytes are those but for the case of ASCII letters
abbrev pub IsSameNoCase : List ℕ → List ℕ → Type 0
IsSameNoCase xs ys = map to_ascii_lowercase xs ≡ map to_ascii_lowercase ys

-- how bytes that are read compare with others, by what is the same: Ok where the others stand at the front, Incomplete
-- where all that is read is a shorter front of the others, and Error where a byte at a common place differs
abbrev pub Compares : (List ℕ → List ℕ → Type 0) → List ℕ → List ℕ → CompareResult → Type 0
Compares Same read others Ok = Same (take (length others) read) others
Compares Same read others Incomplete = (length read < length others) × Same read (take (length read) others)
Compares Same read others Error = Same (take (length others) read) (take (length read) others) → ⊥

-- no byte before a place passes a test, by what the test answers of a byte
abbrev pub NonePasses : (ℕ → Bool → Type 0) → List ℕ → ℕ → Type 0
NonePasses answers bytes i = AllWithin (λ byte. answers byte false) bytes 0 i

-- the byte at a place passes, and none before it
abbrev pub IsFirst : (ℕ → Bool → Type 0) → List ℕ → ℕ → Type 0
IsFirst answers bytes i =
    (i < length bytes) × HoldsAt (λ byte. answers byte true) bytes i × NonePasses answers bytes i
