-- How much waits: the frames, and the bytes that spell them.
use Rattle.std.proofs.Common.{◌≡◌, ◌∙◌, ap, sym, refl, ℕ, ◌+◌, ◌≤◌, arith, Bool, true, false, cond, if◌then◌else◌, List, [], ◌∷◌, ◌++◌, length, length-append, append-nil, subst, Option, Some, None, is_some, IfSome}
use Rattle.std.specs.Prelude.{drop, find}
use Rattle.std.proofs.lemmas.List.Concat.{flat_map-append}
use Rattle.std.proofs.lemmas.List.Sums.{sum_by-append}
use Rattle.amqp_outbox.specs.declared.item.Item.{Item}
use Rattle.amqp_outbox.specs.declared.reply.Awaited.{Awaited}
use Rattle.amqp_outbox.specs.Lists.{head, without_first}
use Rattle.amqp_outbox.specs.Items.{size_of, octets_of, items_of_groups}
use Rattle.amqp_outbox.specs.Queued.{Queued, next_item, after_next, waiting_items, unsent_octets, pushed_control, pushed_group, without_unbegun, goes_with, is_on, group_promise, frame_promise, without_group, without_frame, without_reply, without_any}
use Rattle.amqp_outbox.specs.declared.numbers.Queue.{Queue}
use Rattle.amqp_outbox.specs.declared.outbox.Outbox.{Outbox}
use Rattle.amqp_outbox.specs.Order.{HasSlots, HasRoom}
use Rattle.amqp_outbox.specs.Parts.{CanCount, HasControlPlaces}
use Rattle.amqp_outbox.proofs.Taking.{none-left_out}

-- ---- what goes next

next-of : (flow : Bool) (control : List Item) (publish : List (List Item)) (begun : List Item) (awaited : List (ℕ × List Awaited)) (item : Item)
    → next_item flow (record { control = control; publish = publish; begun = begun; awaited = awaited }) ≡ Some item
    → begun ++ control ++ items_of_groups publish
    ≡ item ∷ waiting_items (after_next flow (record { control = control; publish = publish; begun = begun; awaited = awaited }))
next-of flow control publish (first ∷ begun) awaited item h = let same : first ≡ item = cc in ap (λ i. i ∷ (begun ++ control ++ items_of_groups publish)) same
next-of flow (first ∷ control) publish [] awaited item h = let same : first ≡ item = cc in ap (λ i. i ∷ (control ++ items_of_groups publish)) same
next-of false [] publish [] awaited item h = absurd cc
next-of true [] [] [] awaited item h = absurd cc
next-of true [] ([] ∷ groups) [] awaited item h = absurd cc
next-of true [] ((first ∷ items) ∷ groups) [] awaited item h =
    let same : first ≡ item = cc in
    ap (λ i. i ∷ (items ++ items_of_groups groups)) same ∙ ap (λ l. item ∷ (l ++ items_of_groups groups)) (sym (append-nil items))

-- the frame that goes next is the first of those that wait, and the others wait then
pub next-waits : (flow : Bool) (q : Queued) (item : Item) → next_item flow q ≡ Some item → waiting_items q ≡ item ∷ waiting_items (after_next flow q)
next-waits flow q item h = next-of flow q.control q.publish q.begun q.awaited item h

-- ---- what is taken out, by a measure of lists

module _ {X : Type 0} (v : List X → ℕ) (with_first : (x : X) (xs : List X) → v (x ∷ xs) ≡ v (x ∷ []) + v xs) (test : X → Bool) where
  -- the first that passes is what is less
  less-one : (xs : List X) (x : X) → find test xs ≡ Some x → v (without_first test xs) + v (x ∷ []) ≡ v xs
  less-one [] x h = absurd cc
  less-one (y ∷ ys) x h = by (test y) h (less-one ys x) where
    by : (b : Bool) → cond b (Some y) (find test ys) ≡ Some x → (find test ys ≡ Some x → v (without_first test ys) + v (x ∷ []) ≡ v ys)
        → v (if b then ys else y ∷ without_first test ys) + v (x ∷ []) ≡ v (y ∷ ys)
    by true is rest = let same : y ≡ x = cc in omega (arith, ap (λ z. v (z ∷ [])) same, with_first y ys)
    by false is rest = omega (arith, rest is, with_first y ys, with_first y (without_first test ys))

  no-longer : (xs : List X) → v (without_first test xs) ≤ v xs
  no-longer xs = by (find test xs) refl where
    by : (o : Option X) → find test xs ≡ o → v (without_first test xs) ≤ v xs
    by None is = omega (arith, ap v (none-left_out test xs is))
    by (Some x) is = omega (arith, less-one xs x is)

-- ---- a measure of frames that adds up

module _ (w : List Item → ℕ) (joined : (xs ys : List Item) → w (xs ++ ys) ≡ w xs + w ys) where
  with-frame : (item : Item) (items : List Item) → w (item ∷ items) ≡ w (item ∷ []) + w items
  with-frame item items = joined (item ∷ []) items

  alone : (group : List Item) → w (group ++ []) ≡ w group
  alone group = ap w (append-nil group)

  with-group : (group : List Item) (groups : List (List Item)) → w (items_of_groups (group ∷ groups)) ≡ w (items_of_groups (group ∷ [])) + w (items_of_groups groups)
  with-group group groups = omega (arith, joined group (items_of_groups groups), alone group)

  of-all : (q : Queued) → w (waiting_items q) ≡ w q.begun + w q.control + w (items_of_groups q.publish)
  of-all q = omega (arith, joined (q.begun ++ q.control) (items_of_groups q.publish), joined q.begun q.control)

  more-control : (item : Item) (q : Queued) → w (waiting_items (pushed_control item q)) ≡ w (waiting_items q) + w (item ∷ [])
  more-control item q = omega (arith, of-all q, of-all (pushed_control item q), joined q.control (item ∷ []))

  more-group : (group : List Item) (q : Queued) → w (waiting_items (pushed_group group q)) ≡ w (waiting_items q) + w group
  more-group group q =
      let last : w (items_of_groups (q.publish ++ group ∷ [])) ≡ w (items_of_groups q.publish ++ (group ++ [])) = ap w (flat_map-append (λ g. g) q.publish (group ∷ [])) in
      omega (arith, of-all q, of-all (pushed_group group q), last, joined (items_of_groups q.publish) (group ++ []), alone group)

  less-group : (channel : ℕ) (q : Queued) (group : List Item) → find (is_on channel) q.publish ≡ Some group
      → w (waiting_items (without_group channel q)) + w group ≡ w (waiting_items q)
  less-group channel q group is =
      let less : w (items_of_groups (without_first (is_on channel) q.publish)) + w (group ++ []) ≡ w (items_of_groups q.publish) =
      less-one (λ groups. w (items_of_groups groups)) with-group (is_on channel) q.publish group is in
      omega (arith, of-all q, of-all (without_group channel q), less, alone group)

  less-frame : (channel : ℕ) (q : Queued) (item : Item) → find (goes_with channel) q.control ≡ Some item
      → w (waiting_items (without_frame channel q)) + w (item ∷ []) ≡ w (waiting_items q)
  less-frame channel q item is =
      omega (arith, of-all q, of-all (without_frame channel q), less-one w with-frame (goes_with channel) q.control item is)

  less-first : (groups : List (List Item)) (group : List Item) → head groups ≡ Some group → w (items_of_groups (drop 1 groups)) + w group ≡ w (items_of_groups groups)
  less-first [] group is = absurd cc
  less-first (first ∷ groups) group is =
      let same : first ≡ group = cc in omega (arith, ap w same, joined first (items_of_groups groups))

  less-unbegun : (q : Queued) (group : List Item) → head q.publish ≡ Some group
      → w (waiting_items (without_unbegun q)) + w group ≡ w (waiting_items q)
  less-unbegun q group is = omega (arith, of-all q, of-all (without_unbegun q), less-first q.publish group is)

  -- ---- nothing more

  no-more-first : (groups : List (List Item)) → w (items_of_groups (drop 1 groups)) ≤ w (items_of_groups groups)
  no-more-first [] = omega arith
  no-more-first (group ∷ groups) = omega (arith, joined group (items_of_groups groups))

  no-more-unbegun : (q : Queued) → w (waiting_items (without_unbegun q)) ≤ w (waiting_items q)
  no-more-unbegun q = omega (arith, of-all q, of-all (without_unbegun q), no-more-first q.publish)

  no-more-group : (channel : ℕ) (q : Queued) → w (waiting_items (without_group channel q)) ≤ w (waiting_items q)
  no-more-group channel q =
      let less : w (items_of_groups (without_first (is_on channel) q.publish)) ≤ w (items_of_groups q.publish) =
      no-longer (λ groups. w (items_of_groups groups)) with-group (is_on channel) q.publish in
      omega (arith, of-all q, of-all (without_group channel q), less)

  no-more-frame : (channel : ℕ) (q : Queued) → w (waiting_items (without_frame channel q)) ≤ w (waiting_items q)
  no-more-frame channel q = omega (arith, of-all q, of-all (without_frame channel q), no-longer w with-frame (goes_with channel) q.control)

  no-more-any : (channel : ℕ) (q : Queued) → w (waiting_items (without_any channel q)) ≤ w (waiting_items q)
  no-more-any channel q = by (is_some (group_promise channel q)) (is_some (frame_promise channel q)) where
    by : (group frame : Bool)
        → w (waiting_items (if group then without_group channel q else (if frame then without_frame channel q else without_reply channel q))) ≤ w (waiting_items q)
    by true frame = no-more-group channel q
    by false true = no-more-frame channel q
    by false false = omega arith

-- ---- frames and bytes

octets-joined : (xs ys : List Item) → octets_of (xs ++ ys) ≡ octets_of xs + octets_of ys
octets-joined xs ys = sum_by-append size_of xs ys

length-joined : (xs ys : List Item) → length (xs ++ ys) ≡ length xs + length ys
length-joined xs ys = length-append xs ys

one-frame : (item : Item) → octets_of (item ∷ []) ≡ size_of item
one-frame item = omega arith

-- some frames, of some bytes, wait more in the one than in the other
abbrev pub MoreBy : ℕ → ℕ → Queued → Queued → Type 0
MoreBy frames octets q q' =
    (length (waiting_items q) ≡ length (waiting_items q') + frames) × (unsent_octets q ≡ unsent_octets q' + octets)

-- no more frames, and no more bytes, wait in the one than in the other
abbrev pub NoMore : Queued → Queued → Type 0
NoMore q' q = (length (waiting_items q') ≤ length (waiting_items q)) × (unsent_octets q' ≤ unsent_octets q)

-- the frame that goes next is one less
pub next-less : (flow : Bool) (q : Queued) (item : Item) → next_item flow q ≡ Some item → MoreBy 1 (size_of item) q (after_next flow q)
next-less flow q item is =
    let rest = waiting_items (after_next flow q) in
    let all : waiting_items q ≡ item ∷ rest = next-waits flow q item is in (
      ap length all ∙ omega arith,
      ap octets_of all ∙ omega (arith, octets-joined (item ∷ []) rest, one-frame item),
    )

-- where no group has begun and the control lane is empty, that frame is the first of the first group
pub first-less : (q : Queued) (first : Item) (rest : List Item) → q.begun ≡ [] → None ≡ head q.control → Some (first ∷ rest) ≡ head q.publish
    → MoreBy 1 (size_of first) q (record q { control = drop 1 q.control; publish = drop 1 q.publish; begun = rest })
first-less q first rest none empty there = by q.control q.publish empty there where
  by : (control : List Item) (publish : List (List Item)) → None ≡ head control → Some (first ∷ rest) ≡ head publish
      → MoreBy 1 (size_of first) (record q { control = control; publish = publish })
      (record q { control = drop 1 control; publish = drop 1 publish; begun = rest })
  by (item ∷ items) publish empty there = absurd cc
  by [] [] empty there = absurd cc
  by [] (group ∷ groups) empty there =
      let same : group ≡ first ∷ rest = cc in
      let q' : Queued = record { control = []; publish = (first ∷ rest) ∷ groups; begun = []; awaited = q.awaited } in
      subst (λ b. MoreBy 1 (size_of first) (record q { control = []; publish = group ∷ groups; begun = b }) (record q { control = []; publish = groups; begun = rest })) (sym none)
      (subst (λ g. MoreBy 1 (size_of first) (record q { control = []; publish = g ∷ groups; begun = [] }) (record q { control = []; publish = groups; begun = rest })) (sym same)
      (next-less true q' first refl))

-- a frame of the control lane is one more
pub control-more : (item : Item) (q : Queued) → MoreBy 1 (size_of item) (pushed_control item q) q
control-more item q = (
  more-control length length-joined item q,
  more-control octets_of octets-joined item q ∙ ap (λ n. unsent_octets q + n) (one-frame item),
)

-- a group is its frames more
pub group-more : (group : List Item) (q : Queued) → MoreBy (length group) (octets_of group) (pushed_group group q) q
group-more group q = (more-group length length-joined group q, more-group octets_of octets-joined group q)

-- the first group of a channel is its frames less
pub group-less : (channel : ℕ) (q : Queued) (group : List Item) → find (is_on channel) q.publish ≡ Some group
    → MoreBy (length group) (octets_of group) q (without_group channel q)
group-less channel q group is =
    (sym (less-group length length-joined channel q group is), sym (less-group octets_of octets-joined channel q group is))

-- the first frame of the control lane that is dropped with a channel is one less
pub frame-less : (channel : ℕ) (q : Queued) (item : Item) → find (goes_with channel) q.control ≡ Some item
    → MoreBy 1 (size_of item) q (without_frame channel q)
frame-less channel q item is = (
  sym (less-frame length length-joined channel q item is),
  omega (arith, less-frame octets_of octets-joined channel q item is, one-frame item),
)

-- the first group is its frames less
pub unbegun-less : (q : Queued) (group : List Item) → head q.publish ≡ Some group
    → MoreBy (length group) (octets_of group) q (without_unbegun q)
unbegun-less q group is =
    (sym (less-unbegun length length-joined q group is), sym (less-unbegun octets_of octets-joined q group is))

-- what is dropped leaves no more, whether there was something or not
pub unbegun-no-more : (q : Queued) → NoMore (without_unbegun q) q
unbegun-no-more q = (no-more-unbegun length length-joined q, no-more-unbegun octets_of octets-joined q)

pub group-no-more : (channel : ℕ) (q : Queued) → NoMore (without_group channel q) q
group-no-more channel q = (no-more-group length length-joined channel q, no-more-group octets_of octets-joined channel q)

pub frame-no-more : (channel : ℕ) (q : Queued) → NoMore (without_frame channel q) q
frame-no-more channel q = (no-more-frame length length-joined channel q, no-more-frame octets_of octets-joined channel q)

pub any-no-more : (channel : ℕ) (q : Queued) → NoMore (without_any channel q) q
any-no-more channel q = (no-more-any length length-joined channel q, no-more-any octets_of octets-joined channel q)

-- these are the counts of what waits
abbrev pub Counted : ℕ → ℕ → Queued → Type 0
Counted frames octets q = (frames ≡ length (waiting_items q)) × (octets ≡ unsent_octets q)

-- the counts once some frames went
pub counted-less : (n m frames octets frames' octets' : ℕ) (q q' : Queued) → MoreBy n m q q' → Counted frames octets q
    → frames' + n ≡ frames → octets' + m ≡ octets → Counted frames' octets' q'
counted-less n m frames octets frames' octets' q q' less counted fewer shorter =
    (omega (arith, less.0, counted.0, fewer), omega (arith, less.1, counted.1, shorter))

-- where no more waits, all can be counted that could
pub still-counted : (n octets : ℕ) (q' q : Queued) → NoMore q' q → CanCount n octets q → CanCount n octets q'
still-counted n octets q' q less can = (omega (arith, less.0, can.0), omega (arith, less.1, can.1))

-- ---- fewer places

slots-of : {X : Type 0} (made n m : ℕ) (slots : List (ℕ × Option X)) → n ≤ m → HasSlots made m slots → HasSlots made n slots
slots-of made n m slots fewer has i under = has i (omega (arith, under, fewer))

room-of : (key : Option ℕ) (n m : ℕ) (lists : List (ℕ × Queue)) → n ≤ m → IfSome key (λ k. HasRoom k m lists) → IfSome key (λ k. HasRoom k n lists)
room-of None n m lists fewer has = tt
room-of (Some k) n m lists fewer (queue, there, fits) = (queue, there, omega (arith, fits, fewer))

-- where there are places for some frames, there are for fewer frames of fewer bytes
pub fewer-places : (key : Option ℕ) (n m octets more : ℕ) (o : Outbox) → n ≤ m → octets ≤ more → HasControlPlaces key m more o → HasControlPlaces key n octets o
fewer-places key n m octets more o fewer less (places, can) = (
  (
    slots-of o.control.made n m o.control.slots.entries fewer places.0,
    room-of key n m o.control.numbers.lists.entries fewer places.1,
    omega (arith, places.2, fewer),
  ),
  (omega (arith, can.0, fewer), omega (arith, can.1, less)),
)
