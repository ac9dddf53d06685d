-- The passes of callers: how many commands were made with each, and where these stand in a journal.
use Rattle.std.specs.Prelude.{◌≡◌, ℕ, zero, suc, ◌+◌, ◌-◌, ◌==◌, min, nat_lt, if◌then◌else◌, List, [], ◌∷◌, ◌++◌, Option, Some, None, Result, Ok, Err, get_or, set, slice_get}
use Rattle.std.specs.Option.{option_or}
use Rattle.amqp_promise.specs.declared.error.ErrorKind.{ErrorKind}
use Rattle.amqp_promise.specs.declared.error.ErrorKind.TheVariants.{ForeignPass, NoMemory}
use Rattle.amqp_journal.specs.declared.entry.Entry.{Entry}
use Rattle.amqp_journal.specs.declared.entry.Entry.TheVariants.{Turn, Called, Own}
use Rattle.amqp_hub.specs.declared.hub.Pass.{Pass}

-- ---- counts; passes are numbered from 1 on

-- the count of a pass: how many commands were made with it
abbrev pub count_of : ℕ → List ℕ → Option ℕ
count_of zero counts = None
count_of (suc n) counts = slice_get counts n

-- how many commands were made with a pass, 0 where there is no such pass
abbrev pub made_of : ℕ → List ℕ → ℕ
made_of zero counts = 0
made_of (suc n) counts = get_or counts n 0

-- the count of a pass is set
abbrev pub set_made : ℕ → ℕ → List ℕ → List ℕ
set_made zero made counts = counts
set_made (suc n) made counts = set counts n made

-- ---- new passes

-- how many new passes there are: as many as are asked for, or as there are numbers left up to the greatest of 32 bits
abbrev pub new_passes : ℕ → ℕ → ℕ
new_passes asked before = min (4294967295 - before) asked

-- passes numbered on after so many, with no command made
abbrev pub AreNew : ℕ → List Pass → Type 0
AreNew before [] = Unit {0}
AreNew before (p ∷ ps) = (p.number ≡ before + 1) × (p.made ≡ 0) × AreNew (before + 1) ps

-- ---- which passes are of a hub

-- why a pass is not of a hub, by the count for its number: there is none, or it is not what was made with the pass
abbrev pub foreign_by : ℕ → ℕ → Option ℕ → Option ErrorKind
foreign_by number made None = Some (ForeignPass number made None)
foreign_by number made (Some n) = if n == made then None else Some (ForeignPass number made (Some n))

-- why a pass is not of the hub of these counts, where it is not
abbrev pub foreign : Pass → List ℕ → Option ErrorKind
foreign p counts = foreign_by p.number p.made (count_of p.number counts)

-- why the first of these passes is not of the hub that is not
abbrev pub first_foreign : List Pass → List ℕ → Option ErrorKind
first_foreign [] counts = None
first_foreign (p ∷ ps) counts = option_or (foreign p counts) (first_foreign ps counts)

-- the answer is ForeignPass exactly for that reason, and no other error but NoMemory
abbrev pub IsForeign : {A : Type 0} → Option ErrorKind → Result A ErrorKind → Type 0
IsForeign why (Ok x) = why ≡ None
IsForeign why (Err NoMemory) = why ≡ None
IsForeign why (Err (ForeignPass number made count)) = why ≡ Some (ForeignPass number made count)
IsForeign why (Err _) = ⊥

-- ---- places

-- the place of an entry among those of a pass, where it is one of its
abbrev pub own_place : ℕ → Entry → List ℕ
own_place p (Turn u) = []
own_place p (Called pass nth c promise) = if pass == p then nth ∷ [] else []
own_place p (Own c) = []

-- the places of the entries of a pass, in the order of the journal
abbrev pub places : ℕ → List Entry → List ℕ
places p [] = []
places p (x ∷ xs) = own_place p x ++ places p xs

-- the numbers after one, up to another, without a gap
abbrev pub gapless : ℕ → ℕ → List ℕ
gapless low zero = []
gapless low (suc high) = if nat_lt low (suc high) then gapless low high ++ suc high ∷ [] else []
