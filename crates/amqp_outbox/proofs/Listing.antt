-- Numbers listed by key.
use Rattle.std.proofs.Common.{◌≡◌, ◌∙◌, ap, sym, refl, subst, ℕ, ◌+◌, ◌≤◌, ◌==◌, arith, Bool, true, false, cond, if◌then◌else◌, List, [], ◌∷◌, length, Option, Some}
use Rattle.std.specs.Prelude.{drop}
use Rattle.std.specs.Ordering.{nat_cmp}
use Rattle.std.specs.Cmp.{unsigned_tied}
use Rattle.std.specs.BTreeMap.{is_at}
use Rattle.std.specs.VecDeque.{deque_capacity}
use Rattle.amqp_outbox.specs.declared.numbers.Queue.{Queue}
use Rattle.amqp_outbox.specs.Listed.{at}
use Rattle.amqp_outbox.specs.Order.{listed, numbers_in, HasRoom}
use Rattle.amqp_types.proofs.Small.{the-number}

-- what is at the number that a test finds
same-at : {X : Type 0} (n k : ℕ) (es : List (ℕ × X)) (o : Option X) → at n es ≡ o → is_at (nat_cmp n) k ≡ true → at k es ≡ o
same-at n k es o there test =
    let is : n ≡ k = the-number n k (sym (unsigned_tied n k) ∙ test) in ap (λ m. at m es) (sym is) ∙ there

module _ (key k : ℕ) (es es' : List (ℕ × Queue)) where
  -- the lists once that of a key is another one, or none
  Changed : Option Queue → Type 0
  Changed o = at k es' ≡ cond (is_at (nat_cmp key) k) o (at k es)

  by-test : (f : List ℕ → List ℕ) (o o' : Option Queue) (b : Bool) → (b ≡ true → at k es ≡ o) → numbers_in o' ≡ f (numbers_in o)
      → numbers_in (cond b o' (at k es)) ≡ (if b then f (listed k es) else listed k es)
  by-test f o o' true there is = is ∙ ap (λ p. f (numbers_in p)) (sym (there refl))
  by-test f o o' false there is = refl

  -- what is listed then
  pub changed-listed : (f : List ℕ → List ℕ) (o o' : Option Queue) → at key es ≡ o → at k es' ≡ cond (is_at (nat_cmp key) k) o' (at k es)
      → numbers_in o' ≡ f (numbers_in o) → listed k es' ≡ (if key == k then f (listed k es) else listed k es)
  changed-listed f o o' there changed is =
      ap numbers_in changed
      ∙ by-test f o o' (is_at (nat_cmp key) k) (same-at key k es o there) is
      ∙ ap (λ b. if b then f (listed k es) else listed k es) (unsigned_tied key k)

  same-if : {A : Type 0} (b : Bool) (x : A) → (if b then x else x) ≡ x
  same-if true x = refl
  same-if false x = refl

  -- where the numbers of the key stay, all stay
  pub kept-listed : (o o' : Option Queue) → at key es ≡ o → at k es' ≡ cond (is_at (nat_cmp key) k) o' (at k es)
      → numbers_in o' ≡ numbers_in o → listed k es' ≡ listed k es
  kept-listed o o' there changed is =
      changed-listed (λ l. l) o o' there changed is ∙ same-if (key == k) (listed k es)

  room-by : (q q' : Queue) (n : ℕ) (b : Bool) → (b ≡ true → at k es ≡ Some q) → at k es' ≡ cond b (Some q') (at k es)
      → length q'.numbers.items ≤ length q.numbers.items → deque_capacity q'.numbers ≡ deque_capacity q.numbers
      → HasRoom k n es → HasRoom k n es'
  room-by q q' n true there changed less same (r, at_r, fits) =
      let is : r ≡ q = cc (at_r, there refl) in
      let fits' : length q.numbers.items + n ≤ deque_capacity q.numbers = subst (λ (x : Queue). length x.numbers.items + n ≤ deque_capacity x.numbers) is fits in
      (q', changed, omega (arith, less, same, fits'))
  room-by q q' n false there changed less same (r, at_r, fits) = (r, changed ∙ at_r, fits)

  -- a list that does not grow leaves all the room that there was
  pub room-kept : (q q' : Queue) (n : ℕ) → at key es ≡ Some q → at k es' ≡ cond (is_at (nat_cmp key) k) (Some q') (at k es)
      → length q'.numbers.items ≤ length q.numbers.items → deque_capacity q'.numbers ≡ deque_capacity q.numbers
      → HasRoom k n es → HasRoom k n es'
  room-kept q q' n there changed less same room =
      room-by q q' n (is_at (nat_cmp key) k) (same-at key k es (Some q) there) changed less same room

-- a key without numbers has none to lose
pub none-to-drop : (key k : ℕ) (es : List (ℕ × Queue)) → listed key es ≡ [] → listed k es ≡ (if key == k then drop 1 (listed k es) else listed k es)
none-to-drop key k es none = by (key == k) refl where
  by : (b : Bool) → (key == k) ≡ b → listed k es ≡ (if b then drop 1 (listed k es) else listed k es)
  by true is =
      let empty : listed k es ≡ [] = ap (λ m. listed m es) (sym (the-number key k is)) ∙ none in
      empty ∙ sym (ap (λ l. drop 1 l) empty)
  by false is = refl

pub empty-list : {X : Type 0} (list : List X) → (length list == 0) ≡ true → list ≡ []
empty-list [] h = refl
empty-list (x ∷ xs) h = let none : length (x ∷ xs) ≡ 0 = the-number (length (x ∷ xs)) 0 h in absurd (omega arith)

-- what loses its first is no longer
pub shorter : (xs ys : List ℕ) → ys ≡ drop 1 xs → length ys ≤ length xs
shorter [] ys is = let none : length ys ≡ 0 = ap length is in omega (arith, none)
shorter (x ∷ xs) ys is = let one : length ys ≡ length xs = ap length is in omega (arith, one)
