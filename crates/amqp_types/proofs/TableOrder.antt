-- A table's order, place by place, and what a binary search of it finds.
use Rattle.std.proofs.Common.{◌≡◌, ℕ, zero, suc, ◌+◌, ◌<◌, ◌≤◌, Bool, true, false, List, [], ◌∷◌, length, get_or, map, Err, refl, sym, ap, ◌∙◌, subst, inl, inr, arith}
use Rattle.std.specs.Bool.{Decides}
use Rattle.std.specs.Ordering.{is_lt}
use Rattle.std.specs.List.{HoldsAt, IsAllAdjacentAnswer}
use Rattle.std.specs.List.Sorted.{IsSortedBy, IsBinarySearchResult, IsPartitionPoint}
use Rattle.std.specs.declared.cmp.Ordering.{Ordering}
use Rattle.std.specs.declared.cmp.Ordering.TheVariants.{Less, Equal, Greater}
use Rattle.std.proofs.lemmas.Bool.{cases_lt}
use Rattle.std.proofs.lemmas.List.{get_or-map, length-map}
use Rattle.std.proofs.lemmas.List.Sorted.{searchable_from_sorted}
use Rattle.std.proofs.lemmas.Map.Lookups.{exact_bytes}
use Rattle.amqp_types.specs.declared.value.AMQPValue.TheVariants.{Void}
use Rattle.amqp_types.specs.declared.value.Entry.{Entry}
use Rattle.amqp_types.specs.View.{pair_of}
use Rattle.amqp_types.specs.Value.{Pair}
use Rattle.amqp_types.specs.Table.{name_cmp, IsInOrder}
use Rattle.amqp_types.specs.Places.{HasNameAt, HasGapAt}
use Rattle.amqp_types.proofs.Tables.{names_total, no_pair, name_at, turned, turned_back, IsAboveBefore, found_at, gap_at, below_from, below_end}

-- each name is below the next, by places
abbrev pub IsAscending : List Pair → Type 0
IsAscending ps = (k : ℕ) → suc k < length ps → name_cmp (name_at ps k) (name_at ps (suc k)) ≡ Less

pub ascending_from_order : (ps : List Pair) → IsInOrder ps → IsAscending ps
ascending_from_order [] h k lt = absurd (omega arith)
ascending_from_order (p ∷ []) h k lt = absurd (omega arith)
ascending_from_order (p ∷ q ∷ ps) h zero lt = h.0
ascending_from_order (p ∷ q ∷ ps) h (suc k) lt = ascending_from_order (q ∷ ps) h.1 k (omega arith)

pub order_from_ascending : (ps : List Pair) → IsAscending ps → IsInOrder ps
order_from_ascending [] h = tt
order_from_ascending (p ∷ []) h = (tt, tt)
order_from_ascending (p ∷ q ∷ ps) h =
    (h 0 (omega arith), order_from_ascending (q ∷ ps) (λ k lt. h (suc k) (omega arith)))

-- an entry, for the places past a table's end
abbrev pub no_entry : Entry
no_entry = record { name = []; value = Void }

-- the name of an entry is the name at its place
pub name_of : (es : List Entry) (k : ℕ) (d : Entry) → k < length es → name_at (map pair_of es) k ≡ (get_or es k d).name
name_of es k d lt = ap (λ p. p.0) (get_or-map pair_of es k d no_pair lt)

-- every name but the first is above the first
first_below :
    (p : Pair) (ps : List Pair) (k : ℕ) → IsInOrder (p ∷ ps) → k < length ps → name_cmp p.0 (name_at ps k) ≡ Less
first_below p [] k h lt = absurd (omega arith)
first_below p (q ∷ ps) zero h lt = h.0
first_below p (q ∷ ps) (suc k) h lt =
    names_total.trans p.0 q.0 (name_at ps k) h.0 (first_below q ps k h.1 (omega arith))

-- a name that stands at a place is above all before it
above_at :
    (ps : List Pair) (at k : ℕ) → IsInOrder ps → at < length ps → k < at →
    name_cmp (name_at ps at) (name_at ps k) ≡ Greater
above_at [] at k h lt below = absurd (omega arith)
above_at (p ∷ ps) zero k h lt below = absurd (omega arith)
above_at (p ∷ ps) (suc at) zero h lt below = turned_back p.0 (name_at ps at) (first_below p ps at h (omega arith))
above_at (p ∷ ps) (suc at) (suc k) h lt below = above_at ps at k h.1 (omega arith) (omega arith)

-- ---- a binary search
-- the names of an entry and the next, at `k + 1` as code has it
pub below_next :
    (es : List Entry) (k : ℕ) (d : Entry) → IsInOrder (map pair_of es) → k + 1 < length es →
    name_cmp (get_or es k d).name (get_or es (k + 1) d).name ≡ Less
below_next es k d h lt =
    let len : length (map pair_of es) ≡ length es = length-map es pair_of in
    let step : k + 1 ≡ suc k = omega arith in
    let here = name_of es k d (omega arith) in
    let next = name_of es (suc k) d (omega arith) in
    ap (λ (i : ℕ). name_cmp (get_or es k d).name (get_or es i d).name) step ∙ rw (← here, ← next) (ascending_from_order (map pair_of es) h k (omega arith))

sorted : (es : List Entry) → IsInOrder (map pair_of es) → IsSortedBy (λ a b. is_lt (name_cmp a.name b.name)) es
sorted es h k d low lt =
    ap is_lt (turned_back (get_or es k d).name (get_or es (k + 1) d).name (below_next es k d h lt))

-- what the search answers by
abbrev pub compared : List ℕ → Entry → Ordering
compared name e = name_cmp e.name name

pub searched_found :
    (es : List Entry) (name : List ℕ) (at : ℕ) → IsInOrder (map pair_of es) → at < length es →
    HoldsAt (λ e. compared name e ≡ Equal) es at → HasNameAt (map pair_of es) name at
searched_found es name at h lt holds =
    let len : length (map pair_of es) ≡ length es = length-map es pair_of in
    let same : name_at (map pair_of es) at ≡ name = name_of es at no_entry lt ∙ exact_bytes _ _ (holds no_entry) in
    let equal : name_cmp name (name_at (map pair_of es) at) ≡ Equal = ap (name_cmp name) (name_of es at no_entry lt) ∙ subst (λ n. name_cmp n (get_or es at no_entry).name ≡ Equal) (exact_bytes _ _ (holds no_entry)) (subst (λ n. name_cmp (get_or es at no_entry).name n ≡ Equal) (sym (exact_bytes _ _ (holds no_entry))) (holds no_entry)) in
    found_at (map pair_of es) name at (omega arith) (λ k below. subst (λ n. name_cmp n (name_at (map pair_of es) k) ≡ Greater) same (above_at (map pair_of es) at k h (omega arith) below)) equal

pub searched_gap :
    (es : List Entry) (name : List ℕ) (at : ℕ) → IsInOrder (map pair_of es) → at ≤ length es →
    IsBinarySearchResult (compared name) es (Err at) → HasGapAt (map pair_of es) name at
searched_gap es name at h le result =
    let len : length (map pair_of es) ≡ length es = length-map es pair_of in
    let parted : IsPartitionPoint (λ e. compared name e ≡ Less) (λ e. compared name e ≡ Greater) es at = result (searchable_from_sorted names_total (λ (e : Entry). e.name) es name (sorted es h)) in
    let name_is : (k : ℕ) → k < length es → name_at (map pair_of es) k ≡ (get_or es k no_entry).name = λ k lt. name_of es k no_entry lt in
    let above : IsAboveBefore name (map pair_of es) at = λ k below. turned_back (name_at (map pair_of es) k) name (ap (λ n. name_cmp n name) (name_is k (omega arith)) ∙ parted.0 k no_entry (omega arith) below) in
    gap_at (map pair_of es) name at (omega arith) h above (elim (cases_lt at (length es)) [
      | inl lt ↦ below_from (map pair_of es) name at (omega arith) (turned (name_at (map pair_of es) at) name (ap (λ n. name_cmp n name) (name_is at lt) ∙ parted.1 at no_entry (omega arith) lt))
      | inr past ↦ below_end (map pair_of es) name at (omega arith)
    ])

-- ---- a test of all that stand side by side
below_told : (o : Ordering) → true ≡ is_lt o → o ≡ Less
below_told Less e = refl
below_told Equal e = absurd cc
below_told Greater e = absurd cc

pub tested_order :
    (es : List Entry) (result : Bool) → IsAllAdjacentAnswer (λ x y b. b ≡ is_lt (name_cmp x.name y.name)) es result →
    Decides result (IsInOrder (map pair_of es))
tested_order es true answer =
    let len : length (map pair_of es) ≡ length es = length-map es pair_of in
    let ascending : IsAscending (map pair_of es) = λ k lt.
    let next_lt : suc k < length es = omega arith in
    let here = name_of es k no_entry (omega arith) in
    let next = name_of es (suc k) no_entry next_lt in
    let step : k + 1 ≡ suc k = omega arith in
    let told : name_cmp (get_or es k no_entry).name (get_or es (k + 1) no_entry).name ≡ Less = below_told (name_cmp (get_or es k no_entry).name (get_or es (k + 1) no_entry).name) (answer k no_entry (omega arith)) in
    rw (here, next) (subst (λ (i : ℕ). name_cmp (get_or es k no_entry).name (get_or es i no_entry).name ≡ Less) step told) in
    (λ e. order_from_ascending (map pair_of es) ascending, λ h. refl)
tested_order es false answer = (
  λ e. absurd cc,
  λ h. let wrong : false ≡ true =
      answer.2 no_entry ∙ ap is_lt (below_next es answer.0 no_entry h answer.1) in absurd cc,
)
