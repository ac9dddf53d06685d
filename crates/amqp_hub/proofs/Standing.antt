-- Where the places of handles stand, and what is found there.
use Rattle.std.proofs.Common.{◌≡◌, ◌<◌, ◌-◌, inl, ℕ, zero, suc, List, [], ◌∷◌, ◌++◌, map, set, slice_get, length, Option, Some, None, refl, sym, subst, arith}
use Rattle.std.proofs.lemmas.List.{map-set}
use Rattle.std.proofs.lemmas.Option.{slice_get_within}
use Rattle.amqp_hub.specs.declared.due.Owner.{Owner}
use Rattle.amqp_hub.specs.declared.marks.Place.{Place}
use Rattle.amqp_hub.specs.declared.marks.Slot.{Slot}
use Rattle.amqp_hub.specs.declared.marks.Slot.TheVariants.{Kept, Free}
use Rattle.amqp_hub.specs.Marks.{kept_in, cell_in, StandsAt, IsFound, IsReadThere}

-- a place that was free is a handle's
pub stands-again : (n : ℕ) (place : Place) (slots : List Slot) → 0 < n → slice_get (map kept_in slots) (n - 1) ≡ Some None
    → StandsAt n place.owner (map kept_in slots) (map kept_in (set slots (n - 1) (Kept place)))
stands-again zero place slots positive free = absurd (omega (arith, positive))
stands-again (suc i) place slots positive free =
    let is : suc i - 1 ≡ i = omega arith in
    let P : ℕ → Type 0 = λ k. slice_get (map kept_in slots) k ≡ Some None in
    let Q : ℕ → Type 0 = λ k. map kept_in (set slots k (Kept place)) ≡ set (map kept_in slots) i (Some place.owner) in
    inl (subst P is free, subst Q (sym is) (map-set kept_in slots i (Kept place)))

-- its cell stands there then
pub cell-again : (i : ℕ) (v : Slot) (o : Option Owner) (slots : List Slot) → slice_get (map kept_in slots) i ≡ Some o
    → slice_get (map cell_in (set slots i v)) i ≡ Some (cell_in v)
cell-again i v o [] there = absurd (omega (arith, slice_get_within (map kept_in []) i o there))
cell-again zero v o (s ∷ slots) there = refl
cell-again (suc i) v o (s ∷ slots) there = cell-again i v o slots there

-- and so it does at the end
pub cell-last : (n : ℕ) (v : Slot) (slots : List Slot) → n ≡ length slots → slice_get (map cell_in (slots ++ v ∷ [])) n ≡ Some (cell_in v)
cell-last n v [] is = subst (λ (k : ℕ). slice_get (map cell_in (v ∷ [])) k ≡ Some (cell_in v)) (sym is) refl
cell-last n v (s ∷ slots) is =
    subst (λ (k : ℕ). slice_get (map cell_in (s ∷ slots ++ v ∷ [])) k ≡ Some (cell_in v)) (sym is) (cell-last (length slots) v slots refl)

-- a place whose handle was dropped is free
pub is_found : (i next : ℕ) (o : Owner) (slots : List Slot) → slice_get (map kept_in slots) i ≡ Some (Some o)
    → IsFound o (map kept_in slots) (map kept_in (set slots i (Free next)))
is_found i next o slots there = (i, there, map-set kept_in slots i (Free next))

-- the same of the mark that was read there
pub is_read : (i next : ℕ) (o : Owner) (cell : ℕ) (slots : List Slot) → slice_get (map kept_in slots) i ≡ Some (Some o)
    → slice_get (map cell_in slots) i ≡ Some (Some cell) → IsReadThere o cell slots (set slots i (Free next))
is_read i next o cell slots there read = (i, there, read, map-set kept_in slots i (Free next))
