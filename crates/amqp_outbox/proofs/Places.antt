-- The places that are made for more, which stay until they are taken.
use Rattle.std.proofs.Common.{◌≡◌, ◌∙◌, ap, sym, refl, subst, ℕ, suc, ◌+◌, ◌<◌, ◌≤◌, arith, Bool, true, false, cond, List, [], ◌∷◌, ◌++◌, length, Option, Some, None, is_some, IsSome, IfSome}
use Rattle.std.specs.Ordering.{nat_cmp}
use Rattle.std.proofs.lemmas.Grind.{common_steps}
use Rattle.std.specs.Cmp.{unsigned_tied}
use Rattle.std.specs.BTreeMap.{is_at}
use Rattle.std.specs.VecDeque.{deque_capacity}
use Rattle.amqp_outbox.specs.declared.numbers.Queue.{Queue}
use Rattle.amqp_outbox.specs.Listed.{at}
use Rattle.amqp_outbox.specs.Order.{HasRoom, HasPlaces}
use Rattle.amqp_types.proofs.Small.{the-number}

-- a queue with one more number has one place less
pub room-pushed : (key n number : ℕ) (es es' : List (ℕ × Queue)) (q q' : Queue) → at key es ≡ Some q → at key es' ≡ Some q'
    → q'.numbers.items ≡ q.numbers.items ++ number ∷ [] → deque_capacity q'.numbers ≡ deque_capacity q.numbers → HasRoom key (suc n) es → HasRoom key n es'
room-pushed key n number es es' q q' there there' is same (r, at_r, fits) =
    let one : r ≡ q = cc (at_r, there) in
    let fits' : length q.numbers.items + suc n ≤ deque_capacity q.numbers = subst (λ (x : Queue). length x.numbers.items + suc n ≤ deque_capacity x.numbers) one fits in
    let longer : length q'.numbers.items ≡ length q.numbers.items + 1 = ap length is ∙ length-last q.numbers.items number in
    (q', there', omega (arith, fits', longer, same))
  where
    length-last : (xs : List ℕ) (x : ℕ) → length (xs ++ x ∷ []) ≡ length xs + 1
    length-last xs x = grind (arith, common_steps)

module _ {Y : Type 0} (m : ℕ) (es es' : List (ℕ × Y)) where
  -- a slot stays where another one changes, or goes
  pub slot-stays : (o : Option Y) (n : ℕ) → at n es' ≡ cond (is_at (nat_cmp m) n) o (at n es) → (is_at (nat_cmp m) n ≡ true → IsSome o) → IsSome (at n es) → IsSome (at n es')
  slot-stays o n changed there some = ap is_some changed ∙ by (is_at (nat_cmp m) n) there where
    by : (b : Bool) → (b ≡ true → IsSome o) → is_some (cond b o (at n es)) ≡ true
    by true h = h refl
    by false h = some

other-number : (m n : ℕ) → m < n → is_at (nat_cmp m) n ≡ true → {A : Type 0} → A
other-number m n less test =
    let is : m ≡ n = the-number m n (sym (unsigned_tied m n) ∙ test) in absurd (omega (arith, less, is))

module _ {X : Type 0} (made : ℕ) (es es' : List (ℕ × Option X)) (ls ls' : List (ℕ × Queue)) where
  -- a thing takes a place
  pub places-pushed : (key : Option ℕ) (v : X) → ((q : ℕ) → at q es' ≡ cond (is_at (nat_cmp made) q) (Some (Some v)) (at q es))
      → ((n : ℕ) → IfSome key (λ k. HasRoom k (suc n) ls) → IfSome key (λ k. HasRoom k n ls'))
      → (n : ℕ) → HasPlaces key (suc n) made es ls → HasPlaces key n (made + 1) es' ls'
  places-pushed key v changed room n places = (
    λ i under. let further : made + suc i ≡ (made + 1) + i = omega arith in
        let some : IsSome (at ((made + 1) + i) es) = subst (λ q. IsSome (at q es)) further (places.0 (suc i) (omega (arith, under))) in
        slot-stays made es es' (Some (Some v)) ((made + 1) + i) (changed ((made + 1) + i)) (λ test. refl) some,
    room n places.1,
    omega (arith, places.2),
  )

  -- a thing that goes leaves the places
  pub places-taken : (m : ℕ) → m < made → ((q : ℕ) → at q es' ≡ cond (is_at (nat_cmp m) q) None (at q es))
      → ((k n : ℕ) → HasRoom k n ls → HasRoom k n ls') → (key : Option ℕ) (n : ℕ) → HasPlaces key n made es ls → HasPlaces key n made es' ls'
  places-taken m less changed room key n places = (
    λ i under. slot-stays m es es' None (made + i) (changed (made + i)) (λ test. other-number m (made + i) (omega (arith, less)) test) (places.0 i under),
    by key places.1,
    places.2,
  )
    where
      by : (o : Option ℕ) → IfSome o (λ k. HasRoom k n ls) → IfSome o (λ k. HasRoom k n ls')
      by None h = tt
      by (Some k) h = room k n h

  -- lists that have all the room that there was leave the places
  pub places-listed : es' ≡ es → ((k n : ℕ) → HasRoom k n ls → HasRoom k n ls') → (key : Option ℕ) (n : ℕ) → HasPlaces key n made es ls → HasPlaces key n made es' ls'
  places-listed same room key n places =
      (λ i under. subst (λ s. IsSome (at (made + i) s)) (sym same) (places.0 i under), by key places.1, places.2)
    where
      by : (o : Option ℕ) → IfSome o (λ k. HasRoom k n ls) → IfSome o (λ k. HasRoom k n ls')
      by None h = tt
      by (Some k) h = room k n h
