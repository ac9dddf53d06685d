-- No frame that waits is longer than the capacity.
use Rattle.std.proofs.Common.{◌≡◌, ◌≤◌, ℕ, not, nat_le, nat_lt, Bool, true, false, cond, List, [], ◌∷◌, ◌++◌, Option, Some, None, refl, ap, ◌∙◌, subst, arith}
use Rattle.std.specs.Prelude.{filter}
use Rattle.std.specs.List.{AllByRecursion}
use Rattle.std.proofs.lemmas.Bool.Decides.{nat_tests}
use Rattle.amqp_outbox.specs.declared.item.Item.{Item}
use Rattle.amqp_outbox.specs.Items.{size_of, items_of_groups}
use Rattle.amqp_outbox.specs.Queued.{Queued, waiting_items, pushed_control, pushed_group, is_on, goes_with}
use Rattle.amqp_rules.specs.Talk.{Talk}
use Rattle.amqp_rules.specs.Changes.{without_all_on}
use Rattle.amqp_rules.specs.Writing.{fitting, next_out, next_within, longer_than, overlong}
use Rattle.amqp_types.proofs.Small.{if-true, if-false, is-at-most}
use Rattle.amqp_rules.proofs.Finishing.{next-first}

-- ---- items of at most so many octets

abbrev pub Fit : ℕ → List Item → Type 0
Fit most items = AllByRecursion (λ (i : Item). size_of i ≤ most) items

-- more octets do too
pub fit-more : (a b : ℕ) (items : List Item) → a ≤ b → Fit a items → Fit b items
fit-more a b [] le h = tt
fit-more a b (i ∷ items) le h = (let x = h.0 in omega (arith, le, x), fit-more a b items le h.1)

module _ (c : ℕ) where
  pub fit-joined : (xs ys : List Item) → Fit c xs → Fit c ys → Fit c (xs ++ ys)
  fit-joined [] ys h k = k
  fit-joined (x ∷ xs) ys h k = (h.0, fit-joined xs ys h.1 k)

  fit-front : (xs ys : List Item) → Fit c (xs ++ ys) → Fit c xs
  fit-front [] ys h = tt
  fit-front (x ∷ xs) ys h = (h.0, fit-front xs ys h.1)

  fit-behind : (xs ys : List Item) → Fit c (xs ++ ys) → Fit c ys
  fit-behind [] ys h = h
  fit-behind (x ∷ xs) ys h = fit-behind xs ys h.1

  fit-group-more : (groups : List (List Item)) (group : List Item) → Fit c group → Fit c (items_of_groups groups) → Fit c (items_of_groups (groups ++ group ∷ []))
  fit-group-more [] group g h = fit-joined group [] g tt
  fit-group-more (x ∷ groups) group g h =
      fit-joined x (items_of_groups (groups ++ group ∷ [])) (fit-front x (items_of_groups groups) h) (fit-group-more groups group g (fit-behind x (items_of_groups groups) h))

  -- groups that are left
  fit-groups-left : (test : List Item → Bool) (groups : List (List Item)) → Fit c (items_of_groups groups) → Fit c (items_of_groups (filter test groups))
  fit-groups-left test [] h = tt
  fit-groups-left test (group ∷ groups) h = by (test group) (fit-groups-left test groups (fit-behind group (items_of_groups groups) h))
    where
      by : (b : Bool) → Fit c (items_of_groups (filter test groups)) → Fit c (items_of_groups (cond b (group ∷ filter test groups) (filter test groups)))
      by true rest = fit-joined group (items_of_groups (filter test groups)) (fit-front group (items_of_groups groups) h) rest
      by false rest = rest

  -- frames that are left
  fit-items-left : (test : Item → Bool) (items : List Item) → Fit c items → Fit c (filter test items)
  fit-items-left test [] h = tt
  fit-items-left test (item ∷ items) h = by (test item) (fit-items-left test items h.1)
    where
      by : (b : Bool) → Fit c (filter test items) → Fit c (cond b (item ∷ filter test items) (filter test items))
      by true rest = (h.0, rest)
      by false rest = rest

  module _ (q : Queued) (h : Fit c (waiting_items q)) where
    first-lanes : Fit c (q.begun ++ q.control)
    first-lanes = fit-front (q.begun ++ q.control) (items_of_groups q.publish) h

    last-lane : Fit c (items_of_groups q.publish)
    last-lane = fit-behind (q.begun ++ q.control) (items_of_groups q.publish) h

    -- a frame goes last in the control lane that is as short
    pub fit-control : (x : Item) → size_of x ≤ c → Fit c (waiting_items (pushed_control x q))
    fit-control x f =
        fit-joined (q.begun ++ (q.control ++ x ∷ [])) (items_of_groups q.publish)
        (fit-joined q.begun (q.control ++ x ∷ []) (fit-front q.begun q.control first-lanes)
        (fit-joined q.control (x ∷ []) (fit-behind q.begun q.control first-lanes) (f, tt)))
        last-lane

    -- a group goes last of frames that are as short
    pub fit-group : (group : List Item) → Fit c group → Fit c (waiting_items (pushed_group group q))
    fit-group group g =
        fit-joined (q.begun ++ q.control) (items_of_groups (q.publish ++ group ∷ [])) first-lanes (fit-group-more q.publish group g last-lane)

    -- some groups go
    pub fit-left : (test : List Item → Bool) → Fit c (waiting_items (record q { publish = filter test q.publish }))
    fit-left test =
        fit-joined (q.begun ++ q.control) (items_of_groups (filter test q.publish)) first-lanes (fit-groups-left test q.publish last-lane)

    -- all of a channel goes
    pub fit-channel : (n : ℕ) → Fit c (waiting_items (without_all_on n q))
    fit-channel n =
        fit-joined (q.begun ++ filter (λ item. not (goes_with n item)) q.control) (items_of_groups (filter (λ group. not (is_on n group)) q.publish))
        (fit-joined q.begun (filter (λ item. not (goes_with n item)) q.control) (fit-front q.begun q.control first-lanes)
        (fit-items-left (λ item. not (goes_with n item)) q.control (fit-behind q.begun q.control first-lanes)))
        (fit-groups-left (λ group. not (is_on n group)) q.publish last-lane)

    -- all groups go
    pub fit-ungrouped : Fit c (waiting_items (record q { publish = [] }))
    fit-ungrouped = fit-joined (q.begun ++ q.control) [] first-lanes tt

-- ---- no frame that waits is longer than the capacity

abbrev pub IsFit : Talk → Type 0
IsFit t = Fit t.capacity (waiting_items t.outbox)

-- then the next one is not
pub fit-next : (t : Talk) → IsFit t → overlong t ≡ None
fit-next t h = by (next_out t) refl where
  by : (o : Option Item) → next_out t ≡ o → longer_than t.capacity o ≡ None
  by None is = refl
  by (Some i) is =
      let k = size_of i in
      let within : next_within k t ≡ Some i = ap (fitting k) is ∙ if-true (nat_le k k) (Some i) None (is-at-most k k (omega arith)) in
      let P : List Item → Type 0 = Fit t.capacity in
      let first : k ≤ t.capacity = (subst P (next-first k t i within) h).0 in
      let fits : nat_lt t.capacity k ≡ false = grind (arith, nat_tests, first) in
      if-false (nat_lt t.capacity k) (Some k) None fits
