-- Marks that are met, found, and looked at, one more at a time.
use Rattle.std.proofs.Common.{◌≡◌, ◌<◌, ◌≤◌, ◌+◌, ℕ, suc, Bool, true, false, if◌then◌else◌, List, [], ◌∷◌, ◌++◌, length, map, take, drop, get_or, set, slice_get, Option, Some, None, option_map, Result, Ok, Err, OnErr, refl, ap, sym, subst, ◌∙◌, arith}
use Rattle.std.specs.List.{remove}
use Rattle.std.proofs.lemmas.List.{append_assoc, append-nil, take_more, drop_more, take_all, length-take-le, map-append, take-map, drop-map, drop_all}
use Rattle.std.proofs.lemmas.Option.{slice_get-map}
use Rattle.amqp_types.proofs.Small.{if-true, if-false}
use Rattle.amqp_hub.specs.declared.due.Owner.{Owner}
use Rattle.amqp_hub.specs.declared.due.Owner.TheVariants as owner
use Rattle.amqp_hub.specs.declared.marks.Found.{Found}
use Rattle.amqp_hub.specs.declared.marks.Mark.{Mark}
use Rattle.amqp_hub.specs.Guarded.{Guarded}
use Rattle.amqp_hub.specs.Due.{due_of}
use Rattle.amqp_hub.specs.Marks.{IsFound}
use Rattle.amqp_hub.specs.Owning.{owned, is_later}
use Rattle.amqp_locked.specs.UnderLock.{UnderLock, under_lock, with_hub, Watch}
use Rattle.amqp_locked.specs.Looking.{sorted, found_at, finds, released_first, released_times, released, acted, stays, staying, leaving, acted_on, acted_at, looked_from}

-- ---- meeting marks

-- one more is met
pub finds-more : (at : ℕ) (xs : List (ℕ × Mark)) (x : ℕ × Mark) (l : UnderLock)
    → finds at (xs ++ x ∷ []) l ≡ found_at at x.0 x.1 (slice_get (finds at xs l).places x.0) (finds at xs l)
finds-more at [] x l = refl
finds-more at (y ∷ ys) x l = finds-more at ys x (found_at at y.0 y.1 (slice_get l.places y.0) l)

-- a mark that is met, and goes where it belongs
pub found-sorted : (at : ℕ) (mark : Mark) (o : Owner) (l m n : UnderLock) → IsFound o l.places m.places → m ≡ under_lock l.hub m.places l.found l.unasked l.watch
    → n ≡ sorted at mark.spent mark.sent o m → (i : ℕ) × (n ≡ found_at at i mark (slice_get l.places i) l)
found-sorted at mark o l m n place rest goes = (
  place.0,
  goes ∙ ap (sorted at mark.spent mark.sent o) (rest ∙ ap (λ (ps : List (Option Owner)). under_lock l.hub ps l.found l.unasked l.watch) place.2)
      ∙ sym (ap (λ (x : Option (Option Owner)). found_at at place.0 mark x l) place.1),
)

-- so the marks that were met are one more
pub finds_next : (at : ℕ) (mark : Mark) (o : Owner) (first l m n : UnderLock) → ((xs : List (ℕ × Mark)) × (l ≡ finds at xs first)) → IsFound o l.places m.places
    → m ≡ under_lock l.hub m.places l.found l.unasked l.watch → n ≡ sorted at mark.spent mark.sent o m → (xs : List (ℕ × Mark)) × (n ≡ finds at xs first)
finds_next at mark o first l m n before place rest goes =
    let one = found-sorted at mark o l m n place rest goes in
    let x : ℕ × Mark = (one.0, mark) in (
      before.0 ++ x ∷ [],
      one.1 ∙ ap (λ (y : UnderLock). found_at at one.0 mark (slice_get y.places one.0) y) before.1 ∙ sym (finds-more at before.0 x first),
    )

-- ---- finding those that were put off

-- one more was looked at
pub release_next : (n at : ℕ) (first l m : UnderLock) → l ≡ released_times n at first → m ≡ released_first at l.watch.late l → m ≡ released_times (n + 1) at first
release_next n at first l m before next =
    let e : suc n ≡ n + 1 = omega arith in
    (next ∙ ap (λ (x : UnderLock). released_first at x.watch.late x) before)
    ∙ ap (λ (k : ℕ). released_times k at first) e

-- ---- doing what is due

-- what lies under the lock while marks are looked at: those before, and those that were looked at already
abbrev parted : List Owner → List Owner → UnderLock → UnderLock
parted before rest l = under_lock (acted rest l.hub) l.places (before ++ staying rest l.hub) (l.unasked ++ leaving rest l.hub) l.watch

slice_get-mid : (xs ys : List Owner) (x : Owner) → slice_get ((xs ++ x ∷ []) ++ ys) (length xs) ≡ Some x
slice_get-mid [] ys x = refl
slice_get-mid (z ∷ zs) ys x = slice_get-mid zs ys x

remove-mid : (xs ys : List Owner) (x : Owner) → remove ((xs ++ x ∷ []) ++ ys) (length xs) ≡ xs ++ ys
remove-mid [] ys x = refl
remove-mid (z ∷ zs) ys x = ap (λ (rest : List Owner). z ∷ rest) (remove-mid zs ys x)

parted-stays : (before rest : List Owner) (o : Owner) (l : UnderLock) → stays o rest l.hub ≡ true
    → parted before (o ∷ rest) l ≡ with_hub (owned o (acted rest l.hub)) (parted (before ++ o ∷ []) rest l)
parted-stays before rest o l again =
    let found : before ++ staying (o ∷ rest) l.hub ≡ (before ++ o ∷ []) ++ staying rest l.hub =
    ap (λ (xs : List Owner). before ++ xs) (if-true (stays o rest l.hub) (o ∷ staying rest l.hub) (staying rest l.hub) again) ∙ sym (append_assoc before (o ∷ []) (staying rest l.hub)) in
    let left : leaving (o ∷ rest) l.hub ≡ leaving rest l.hub = if-true (stays o rest l.hub) (leaving rest l.hub) (leaving rest l.hub ++ o ∷ []) again in
    ap (λ (xs : List Owner). under_lock (acted (o ∷ rest) l.hub) l.places xs (l.unasked ++ leaving (o ∷ rest) l.hub) l.watch) found
    ∙ ap (λ (xs : List Owner). under_lock (acted (o ∷ rest) l.hub) l.places ((before ++ o ∷ []) ++ staying rest l.hub) (l.unasked ++ xs) l.watch) left

parted-leaves : (before rest : List Owner) (o : Owner) (l : UnderLock) → stays o rest l.hub ≡ false
    → parted before (o ∷ rest) l ≡ under_lock (owned o (acted rest l.hub)) l.places (before ++ staying rest l.hub) ((l.unasked ++ leaving rest l.hub) ++ o ∷ []) l.watch
parted-leaves before rest o l gone =
    let found : staying (o ∷ rest) l.hub ≡ staying rest l.hub = if-false (stays o rest l.hub) (o ∷ staying rest l.hub) (staying rest l.hub) gone in
    let left : l.unasked ++ leaving (o ∷ rest) l.hub ≡ (l.unasked ++ leaving rest l.hub) ++ o ∷ [] =
    ap (λ (xs : List Owner). l.unasked ++ xs) (if-false (stays o rest l.hub) (leaving rest l.hub) (leaving rest l.hub ++ o ∷ []) gone)
    ∙ sym (append_assoc l.unasked (leaving rest l.hub) (o ∷ [])) in
    ap (λ (xs : List Owner). under_lock (acted (o ∷ rest) l.hub) l.places (before ++ xs) (l.unasked ++ leaving (o ∷ rest) l.hub) l.watch) found
    ∙ ap (λ (xs : List Owner). under_lock (acted (o ∷ rest) l.hub) l.places (before ++ staying rest l.hub) xs l.watch) left

-- what is due about the last of those before is done
parted-acted : (before rest : List Owner) (o : Owner) (l : UnderLock) → acted_at (length before) (parted (before ++ o ∷ []) rest l) ≡ parted before (o ∷ rest) l
parted-acted before rest o l =
    let x : UnderLock = parted (before ++ o ∷ []) rest l in
    ap (λ (found : Option Owner). acted_on (length before) found x) (slice_get-mid before (staying rest l.hub) o)
    ∙ by (stays o rest l.hub) refl
  where
    by : (b : Bool) → stays o rest l.hub ≡ b → acted_on (length before) (Some o) (parted (before ++ o ∷ []) rest l) ≡ parted before (o ∷ rest) l
    by true again =
        if-true (stays o rest l.hub) _ _ again ∙ sym (parted-stays before rest o l again)
    by false gone =
        if-false (stays o rest l.hub) _ _ gone
        ∙ ap (λ (xs : List Owner). under_lock (owned o (acted rest l.hub)) l.places xs ((l.unasked ++ leaving rest l.hub) ++ o ∷ []) l.watch) (remove-mid before (staying rest l.hub) o)
        ∙ sym (parted-leaves before rest o l gone)

-- so all from one place on were looked at, where all behind it were, and then that one
pub act_next : (n m : ℕ) (l x y : UnderLock) → m ≡ n + 1 → m ≤ length l.found → x ≡ looked_from m l → y ≡ acted_at n x → y ≡ looked_from n l
act_next n m l x y next within is acts =
    let f : List Owner = l.found in
    let below : n < length f = omega (arith, next, within) in
    let o : Owner = get_or f n owner.Connection in
    let first : List Owner = take n f in
    let rest : List Owner = drop (n + 1) f in
    let taken : take m f ≡ first ++ o ∷ [] = ap (λ (k : ℕ). take k f) next ∙ take_more f n owner.Connection below in
    let later : drop m f ≡ rest = ap (λ (k : ℕ). drop k f) next in
    let here : drop n f ≡ o ∷ rest = drop_more f n owner.Connection below in
    let before : x ≡ parted (first ++ o ∷ []) rest l = is ∙ ap (λ (xs : List Owner). parted xs (drop m f) l) taken ∙ ap (λ (xs : List Owner). parted (first ++ o ∷ []) xs l) later in
    let place : n ≡ length first = sym (length-take-le n f (omega (arith, below))) in
    acts ∙ ap (acted_at n) before ∙ ap (λ (k : ℕ). acted_at k (parted (first ++ o ∷ []) rest l)) place ∙ parted-acted first rest o l ∙ sym (ap (λ (xs : List Owner). parted first xs l) here)

-- nothing was looked at yet
pub nothing_looked : (n : ℕ) (l : UnderLock) → length l.found ≤ n → looked_from n l ≡ l
nothing_looked n l past =
    let rest : drop n l.found ≡ [] = drop_all n l.found past in
    let all : take n l.found ≡ l.found = take_all n l.found past in
    ap (λ (xs : List Owner). parted (take n l.found) xs l) rest
    ∙ ap (λ (xs : List Owner). parted xs [] l) all
    ∙ ap (λ (xs : List Owner). under_lock l.hub l.places xs (l.unasked ++ []) l.watch) (append-nil l.found)
    ∙ ap (λ (xs : List Owner). under_lock l.hub l.places l.found xs l.watch) (append-nil l.unasked)

-- where memory is refused before any that was put off is found, none was
pub not_released : (at : ℕ) (l y : UnderLock) → y ≡ l → (times : ℕ) × (left : ℕ) × (y ≡ looked_from left (released_times times at l))
not_released at l y is = (0, length l.found, is ∙ sym (nothing_looked (length l.found) l (omega arith)))

-- where it is refused while marks are looked at, all were found that may be
pub find_err : {A E : Type 0} (r : Result A E) (at : ℕ) (l m n : UnderLock) → m ≡ released at l → OnErr r ((left : ℕ) × (n ≡ looked_from left m))
    → OnErr r ((times : ℕ) × (left : ℕ) × (n ≡ looked_from left (released_times times at l)))
find_err (Ok x) at l m n is h = tt
find_err (Err x) at l m n is h = (length l.watch.late, h.0, h.1 ∙ ap (looked_from h.0) is)

-- and all were met
pub look_err : {A E : Type 0} (r : Result A E) (at : ℕ) (xs : List (ℕ × Mark)) (l m n : UnderLock) → m ≡ finds at xs l
    → OnErr r ((times : ℕ) × (left : ℕ) × (n ≡ looked_from left (released_times times at m)))
    → OnErr r ((found : List (ℕ × Mark)) × (times : ℕ) × (left : ℕ) × (n ≡ looked_from left (released_times times at (finds at found l))))
look_err (Ok x) at xs l m n is h = tt
look_err (Err x) at xs l m n is h = (xs, h.0, h.1, h.2 ∙ ap (λ (y : UnderLock). looked_from h.1 (released_times h.0 at y)) is)

-- ---- one mark

-- what lies under the lock, by its parts
pub same_contents : (h h' : Guarded) (places : List (Option Owner)) (found found' unasked unasked' : List Owner) (w : Watch) → h ≡ h' → found ≡ found'
    → unasked ≡ unasked' → under_lock h places found unasked w ≡ under_lock h' places found' unasked' w
same_contents h h' places found found' unasked unasked' w hh hf hu =
    ap (λ (x : Guarded). under_lock x places found unasked w) hh
    ∙ ap (λ (xs : List Owner). under_lock h' places xs unasked w) hf
    ∙ ap (λ (xs : List Owner). under_lock h' places found' xs w) hu

-- whose the mark at a place is
pub owner_at : (xs : List Found) (i : ℕ) (x : Found) → slice_get xs i ≡ Some x → slice_get (map (λ (f : Found). f.owner) xs) i ≡ Some x.owner
owner_at xs i x there = slice_get-map (λ (f : Found). f.owner) xs i ∙ ap (option_map (λ (f : Found). f.owner)) there

-- one that is to be looked at again
pub acts_again : (n : ℕ) (o : Owner) (l y : UnderLock) → slice_get l.found n ≡ Some o → is_later (due_of l.hub.engine.talk o) ≡ true
    → y ≡ under_lock (owned o l.hub) l.places l.found l.unasked l.watch → y ≡ acted_at n l
acts_again n o l y there again done =
    done ∙ sym (if-true (is_later (due_of l.hub.engine.talk o)) _ _ again) ∙ sym (ap (λ (found : Option Owner). acted_on n found l) there)

-- one that is done with
pub acts_last : (n : ℕ) (o : Owner) (l y : UnderLock) → slice_get l.found n ≡ Some o → is_later (due_of l.hub.engine.talk o) ≡ false
    → y ≡ under_lock (owned o l.hub) l.places (remove l.found n) (l.unasked ++ o ∷ []) l.watch → y ≡ acted_at n l
acts_last n o l y there gone done =
    done ∙ sym (if-false (is_later (due_of l.hub.engine.talk o)) _ _ gone) ∙ sym (ap (λ (found : Option Owner). acted_on n found l) there)

-- whose the marks are once one was removed
pub map_remove : {A B : Type 0} (f : A → B) (xs : List A) (n : ℕ) → map f (remove xs n) ≡ remove (map f xs) n
map_remove {A = A} {B = B} f xs n =
    map-append f (take n xs) (drop (suc n) xs)
    ∙ ap (λ (ys : List B). ys ++ map f (drop (suc n) xs)) (sym (take-map f n xs))
    ∙ ap (λ (ys : List B). take n (map f xs) ++ ys) (sym (drop-map f (suc n) xs))
