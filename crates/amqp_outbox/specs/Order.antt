-- A lane as the code keeps it: what waits, by running numbers, and the numbers by key.
use Rattle.std.specs.Prelude.{◌≡◌, ℕ, ◌+◌, ◌<◌, ◌≤◌, ◌^◌, nat_lt, Bool, if◌then◌else◌, List, [], ◌∷◌, length, Option, Some, None, is_some, IsSome, IfSome}
use Rattle.std.specs.List.{AllByRecursion}
use Rattle.std.specs.Map.{values_of}
use Rattle.std.specs.VecDeque.{deque_capacity}
use Rattle.amqp_outbox.specs.declared.numbers.Queue.{Queue}
use Rattle.amqp_outbox.specs.Listed.{at, put}
use Rattle.amqp_outbox.specs.Lists.{is_the_number}

-- one more entry, where there is a value
abbrev pub seen_first : {X : Type 0} → ℕ → Option X → List (ℕ × X) → List (ℕ × X)
seen_first n None entries = entries
seen_first n (Some x) entries = (n, x) ∷ entries

-- the entries whose values are seen, as what is seen of them
abbrev pub seen : {X Y : Type 0} → (Y → Option X) → List (ℕ × Y) → List (ℕ × X)
seen f [] = []
seen f (e ∷ es) = seen_first e.0 (f e.1) (seen f es)

-- what is seen of an entry, where there is one
abbrev pub seen_at : {X Y : Type 0} → (Y → Option X) → Option Y → Option X
seen_at f None = None
seen_at f (Some y) = f y

-- a map with what is seen of a value at a number, where something is
abbrev pub put_seen : {X : Type 0} → ℕ → Option X → List (ℕ × X) → List (ℕ × X)
put_seen n None entries = entries
put_seen n (Some x) entries = put n x entries

-- ---- what waits

-- the things that wait, by their numbers: a place that is made for one is none
abbrev pub held : {X : Type 0} → List (ℕ × Option X) → List (ℕ × X)
held slots = seen (λ o. o) slots

-- the things that wait, in order
abbrev pub waiting : {X : Type 0} → List (ℕ × Option X) → List X
waiting slots = values_of (held slots)

-- a thing has this key
abbrev pub has_key : {X : Type 0} → (X → Option ℕ) → ℕ → X → Bool
has_key key_of k x = is_the_number k (key_of x)

-- the numbers of the things of a key, in order
abbrev pub numbers_under : {X : Type 0} → (X → Option ℕ) → ℕ → List (ℕ × X) → List ℕ
numbers_under key_of k [] = []
numbers_under key_of k (e ∷ es) =
    if has_key key_of k e.1 then e.0 ∷ numbers_under key_of k es else numbers_under key_of k es

-- ---- the numbers by key

-- the numbers of a list, where there is one
abbrev pub numbers_in : Option Queue → List ℕ
numbers_in None = []
numbers_in (Some queue) = queue.numbers.items

-- the numbers that are listed under a key
abbrev pub listed : ℕ → List (ℕ × Queue) → List ℕ
listed k lists = numbers_in (at k lists)

-- there is room for so many numbers more under a key
abbrev pub HasRoom : ℕ → ℕ → List (ℕ × Queue) → Type 0
HasRoom k n lists =
    (queue : Queue) × (at k lists ≡ Some queue) × (length queue.numbers.items + n ≤ deque_capacity queue.numbers)

-- ---- both

-- a slot holds a thing where its number was given, and else is a place
abbrev pub IsHeldBelow : {X : Type 0} → ℕ → (ℕ × Option X) → Type 0
IsHeldBelow made e = is_some e.1 ≡ nat_lt e.0 made

-- what waits under a key is what is listed under it, and places come after all that waits
abbrev pub IsSoundLane : {X : Type 0} → (X → Option ℕ) → ℕ → List (ℕ × Option X) → List (ℕ × Queue) → Type 0
IsSoundLane key_of made slots lists =
    AllByRecursion (IsHeldBelow made) slots × ((k : ℕ) → listed k lists ≡ numbers_under key_of k (held slots))

-- there are slots for so many things more, from a number on
abbrev pub HasSlots : {X : Type 0} → ℕ → ℕ → List (ℕ × Option X) → Type 0
HasSlots made n slots = (i : ℕ) → i < n → IsSome (at (made + i) slots)

-- there are places for so many things more under a key or none, and numbers for them
abbrev pub HasPlaces : {X : Type 0} → Option ℕ → ℕ → ℕ → List (ℕ × Option X) → List (ℕ × Queue) → Type 0
HasPlaces key n made slots lists =
    HasSlots made n slots × IfSome key (λ k. HasRoom k n lists) × (made + n < 2 ^ 64)
