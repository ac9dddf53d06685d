-- What the promises that wait stand for, and what keeps that.
use Rattle.std.proofs.Common.{◌≡◌, ◌≢◌, ◌⊎◌, inl, inr, ◌&&◌, not, ℕ, Bool, true, false, true≢false, cond, if◌then◌else◌, List, [], ◌∷◌, ◌++◌, filter, map, Option, Some, None, option_map, unwrap_or, is_some, Result, Err, refl, ap, sym, ◌∙◌, subst}
use Rattle.std.specs.Prelude.{find}
use Rattle.std.specs.List.{AllByRecursion}
use Rattle.amqp_frame.specs.declared.frame.Frame.{Frame}
use Rattle.amqp_frame.specs.declared.frame.Frame.TheVariants.{Method}
use Rattle.amqp_frame.specs.declared.method.Method.TheVariants.{ChannelCloseOk}
use Rattle.amqp_outbox.specs.declared.item.Item.{Item}
use Rattle.amqp_outbox.specs.declared.reply.Awaited.{Awaited}
use Rattle.amqp_outbox.specs.declared.reply.Reply.{Reply}
use Rattle.amqp_outbox.specs.Items.{plain_item, group_of, items_of_groups, promise_of_group}
use Rattle.amqp_outbox.specs.Lists.{without_first}
use Rattle.amqp_outbox.specs.Queued.{Queued, awaited_promise, goes_with, is_on, pushed_control, pushed_group, waiting_items, with_awaited, without_awaited}
use Rattle.amqp_outbox.specs.Replies.{awaited_on, expected, is_of, left_on}
use Rattle.amqp_promise.specs.declared.error.ErrorKind.{ErrorKind}
use Rattle.amqp_answers.specs.declared.answer.Answer.{Answer}
use Rattle.amqp_outgoing.specs.declared.committed.Mark.{Mark}
use Rattle.amqp_outgoing.specs.declared.committed.Then.{Then}
use Rattle.amqp_outgoing.specs.declared.committed.Then.TheVariants.{Answer as Answers, Finish}
use Rattle.amqp_rules.specs.declared.state.Input.{Input}
use Rattle.amqp_rules.specs.declared.state.Link.{Link}
use Rattle.amqp_maps.specs.Listed.{at, put}
use Rattle.amqp_rules.specs.Talk.{Talk, end_of_link, is_acting, is_open_link}
use Rattle.amqp_answers.specs.Settled.{Promises, settled_to}
use Rattle.amqp_rules.specs.Changes.{promises_on, rejected, rejected_each, replies_on, without_all_on, without_groups, without_groups_of, without_replies_on}
use Rattle.amqp_rules.specs.Sound.{following}
use Rattle.amqp_outgoing.specs.Marks.{answers, is_close_ok, then_by, then_of}
use Rattle.amqp_rules.proofs.AwaitedOn.{answered-other, expected-other, expected-same, gone-other}
use Rattle.amqp_maps.proofs.Numbered.{put-other, put-same}
use Rattle.amqp_types.proofs.Small.{all-push}
use Rattle.amqp_answer_rules.specs.Answering.{IsNamed}
use Rattle.amqp_answer_rules.proofs.Slots.{Has, Settle, each-has, groups-has, named-has, same-or-not, settle-each, settle-groups, settle-to}
use Rattle.amqp_outcome_rules.specs.Standing.{AnswersLast, IsAmong, IsAwaitedFor}
use Rattle.amqp_outcome_rules.proofs.Promising.{among-later, among-left, among-right}

-- ---- promises that waited before

module _ (number : ℕ) where
  pub not-has : (qs : Promises) → at number qs ≡ Some None → Has number qs → ⊥
  not-has qs waits (b, is) = let clash : Some None ≡ Some (Some b) = sym waits ∙ is in absurd cc

  -- a promise that waits once others were settled waited before
  settle-before : (ps qs : Promises) → Settle (λ k b. Unit {0}) ps qs → at number qs ≡ Some None → at number ps ≡ Some None
  settle-before ps qs s waits =
      elim (s number) [ inl same ↦ sym same ∙ waits | inr k ↦ absurd (not-has qs waits (k.1.0, k.1.1)) ]

  pub told-before : (o : Option ℕ) (a : Result Answer ErrorKind) (ps : Promises) → at number (settled_to o a ps) ≡ Some None
      → (at number ps ≡ Some None) × (o ≡ Some number → ⊥)
  told-before o a ps waits =
      let before : at number ps ≡ Some None = settle-before ps (settled_to o a ps) (settle-to (λ k b. Unit {0}) o a ps (λ n is. tt)) waits in
      (before, λ is. not-has (settled_to o a ps) waits (named-has number o a ps is (inl before)))

  each-before : (e : ErrorKind) (named : List (Option ℕ)) (ps : Promises) → at number (rejected_each e named ps) ≡ Some None
      → (at number ps ≡ Some None) × (IsNamed number named → ⊥)
  each-before e named ps waits =
      let before : at number ps ≡ Some None = settle-before ps (rejected_each e named ps) (settle-each (λ k b. Unit {0}) e named ps (λ n is. tt)) waits in
      (before, λ is. not-has (rejected_each e named ps) waits (each-has number e named ps is (inl before)))

  groups-before : (e : ErrorKind) (groups : List (List Item)) (ps : Promises) → at number (rejected e groups ps) ≡ Some None
      → (at number ps ≡ Some None) × (IsNamed number (map promise_of_group groups) → ⊥)
  groups-before e groups ps waits =
      let before : at number ps ≡ Some None = settle-before ps (rejected e groups ps) (settle-groups (λ k b. Unit {0}) e groups ps (λ n is. tt)) waits in
      (before, λ is. not-has (rejected e groups ps) waits (groups-has number e groups ps is (inl before)))

  put-before : (made : ℕ) (held : Option (Result Answer ErrorKind)) (ps : Promises) → at number (put made held ps) ≡ Some None
      → ((number ≡ made) × (held ≡ None)) ⊎ (at number ps ≡ Some None)
  put-before made held ps waits = by (same-or-not number made) where
    by : (number ≡ made) ⊎ (number ≢ made) → ((number ≡ made) × (held ≡ None)) ⊎ (at number ps ≡ Some None)
    by (inl same) =
        let both : Some held ≡ Some None = sym (put-same made held ps) ∙ ap (λ (k : ℕ). at k (put made held ps)) (sym same) ∙ waits in
        inl (same, ap (λ (o : Option (Option (Result Answer ErrorKind))). unwrap_or o None) both)
    by (inr other) = inr (sym (put-other number made held ps other) ∙ waits)

-- what is answered is not empty
slot-filled : (o : Option (Result Answer ErrorKind)) → is_some o ≡ true → o ≡ None → ⊥
slot-filled o some none = true≢false (sym some ∙ ap is_some none)

-- what is not there does not wait
pub slot-lacking : (o : Option (Option (Result Answer ErrorKind))) → o ≡ None → o ≡ Some None → ⊥
slot-lacking o lacks waits = true≢false (sym (ap is_some waits) ∙ ap is_some lacks)

-- ---- named in lists

named-left : (number : ℕ) (xs ys : List (Option ℕ)) → IsNamed number xs → IsNamed number (xs ++ ys)
named-left number [] ys h = absurd h
named-left number (x ∷ xs) ys (inl h) = inl h
named-left number (x ∷ xs) ys (inr h) = inr (named-left number xs ys h)

named-right : (number : ℕ) (xs ys : List (Option ℕ)) → IsNamed number ys → IsNamed number (xs ++ ys)
named-right number [] ys h = h
named-right number (x ∷ xs) ys h = inr (named-right number xs ys h)

-- ---- what is awaited

-- a promise is named by these
abbrev IsOf : ℕ → List Awaited → Type 0
IsOf number list = IsNamed number (map (λ (a : Awaited). a.promise) list)

of-more : (number : ℕ) (list : List Awaited) (a : Awaited) → IsOf number list → IsOf number (list ++ a ∷ [])
of-more number [] a h = absurd h
of-more number (x ∷ list) a (inl h) = inl h
of-more number (x ∷ list) a (inr h) = inr (of-more number list a h)

of-last : (number : ℕ) (list : List Awaited) (a : Awaited) → a.promise ≡ Some number → IsOf number (list ++ a ∷ [])
of-last number [] a is = inl is
of-last number (x ∷ list) a is = inr (of-last number list a is)

-- the first of a kind goes
of-less : (number : ℕ) (test : Awaited → Bool) (list : List Awaited) (promise : Option ℕ) → option_map (λ (a : Awaited). a.promise) (find test list) ≡ Some promise
    → IsOf number list → IsOf number (without_first test list) ⊎ (promise ≡ Some number)
of-less number test [] promise found h = absurd h
of-less number test (x ∷ list) promise found h = by (test x) found h (of-less number test list promise) where
  by : (b : Bool) → option_map (λ (a : Awaited). a.promise) (cond b (Some x) (find test list)) ≡ Some promise → (x.promise ≡ Some number) ⊎ IsOf number list
      → (option_map (λ (a : Awaited). a.promise) (find test list) ≡ Some promise → IsOf number list → IsOf number (without_first test list) ⊎ (promise ≡ Some number))
      → IsOf number (if b then list else x ∷ without_first test list) ⊎ (promise ≡ Some number)
  by true is (inl k) rest =
      let same : x.promise ≡ promise = ap (λ (o : Option (Option ℕ)). unwrap_or o None) is in inr (sym same ∙ k)
  by true is (inr k) rest = inl k
  by false is (inl k) rest = inl (inl k)
  by false is (inr k) rest = elim (rest is k) [ inl left ↦ inl (inr left) | inr gone ↦ inr gone ]

of-left : (number n : ℕ) (list : List Awaited) (ws : List (ℕ × List Awaited)) → IsOf number list → IsOf number (awaited_on n (left_on n list ws))
of-left number n [] ws h = absurd h
of-left number n (a ∷ list) ws h =
    subst (λ (o : Option (List Awaited)). IsOf number (unwrap_or o [])) (sym (put-same n (a ∷ list) ws)) h

module _ (number : ℕ) (q : Queued) where
  awaited-more : (n : ℕ) (a : Awaited) → IsAwaitedFor number q → IsAwaitedFor number (with_awaited n a q)
  awaited-more n a (m, h) = (m, by (same-or-not m n)) where
    by : (m ≡ n) ⊎ (m ≢ n) → IsOf number (awaited_on m (expected n a q.awaited))
    by (inl same) =
        let is : awaited_on m (expected n a q.awaited) ≡ awaited_on m q.awaited ++ a ∷ [] =
        subst (λ (k : ℕ). awaited_on k (expected n a q.awaited) ≡ awaited_on k q.awaited ++ a ∷ []) (sym same) (expected-same n a q.awaited) in
        subst (IsOf number) (sym is) (of-more number (awaited_on m q.awaited) a h)
    by (inr other) = subst (IsOf number) (sym (expected-other m n a q.awaited other)) h

  pub awaited-last : (n : ℕ) (a : Awaited) → a.promise ≡ Some number → IsAwaitedFor number (with_awaited n a q)
  awaited-last n a is = (n, subst (IsOf number) (sym (expected-same n a q.awaited)) (of-last number (awaited_on n q.awaited) a is))

  awaited-less : (n : ℕ) (r : Reply) (promise : Option ℕ) → awaited_promise n r q ≡ Some promise → IsAwaitedFor number q
      → IsAwaitedFor number (without_awaited n r q) ⊎ (promise ≡ Some number)
  awaited-less n r promise found (m, h) = by (same-or-not m n) where
    list : List Awaited
    list = awaited_on n q.awaited

    by : (m ≡ n) ⊎ (m ≢ n) → IsAwaitedFor number (without_awaited n r q) ⊎ (promise ≡ Some number)
    by (inr other) = inl (m, subst (IsOf number) (sym (answered-other n r q.awaited m other)) h)
    by (inl same) =
        elim (of-less number (is_of r) list promise found (subst (λ (k : ℕ). IsOf number (awaited_on k q.awaited)) same h)) [
          | inl left ↦ inl (n, of-left number n (without_first (is_of r) list) q.awaited left)
          | inr gone ↦ inr gone
        ]

  awaited-gone : (n : ℕ) → IsAwaitedFor number q → IsAwaitedFor number (without_replies_on n q) ⊎ IsNamed number (replies_on n q)
  awaited-gone n (m, h) = by (same-or-not m n) where
    by : (m ≡ n) ⊎ (m ≢ n) → IsAwaitedFor number (without_replies_on n q) ⊎ IsNamed number (replies_on n q)
    by (inl same) = inr (subst (λ (k : ℕ). IsOf number (awaited_on k q.awaited)) same h)
    by (inr other) = inl (m, subst (IsOf number) (sym (gone-other m n q.awaited other)) h)

-- ---- frames by whose last byte a promise is answered

answers-some : (number : ℕ) (o : Option ℕ) → answers o ≡ Answers number → o ≡ Some number
answers-some number None h = absurd cc
answers-some number (Some k) h = let same : k ≡ number = cc in ap (λ (j : ℕ). Some j) same

then-some : (number : ℕ) (f : Frame) (o : Option ℕ) → then_by f o ≡ Answers number → o ≡ Some number
then-some number (Method n ChannelCloseOk) o h = absurd cc
then-some number f o h = answers-some number o h

-- it is its promise
item-promise : (number : ℕ) (item : Item) → then_of item ≡ Answers number → item.promise ≡ Some number
item-promise number item h = by (is_close_ok item.frame) h where
  by : (b : Bool) → (if b then Finish else then_by item.frame item.promise) ≡ Answers number → item.promise ≡ Some number
  by true k = absurd cc
  by false k = then-some number item.frame item.promise k

group-promise : (number : ℕ) (group : List Item) → AnswersLast group → IsAmong (Answers number) (following [] group) → promise_of_group group ≡ Some number
group-promise number [] last h = absurd h
group-promise number (item ∷ []) last (inl is) = item-promise number item is
group-promise number (item ∷ []) last (inr h) = absurd h
group-promise number (item ∷ next ∷ items) last (inl is) = (let clash : None ≡ Some number = sym last.0 ∙ item-promise number item is in absurd cc)
group-promise number (item ∷ next ∷ items) last (inr h) = group-promise number (next ∷ items) last.1 h

module _ (what : Then) where
  among-split : (ms : List Mark) (items : List Item) → IsAmong what (following ms items) → IsAmong what (following ms []) ⊎ IsAmong what (following [] items)
  among-split [] items h = inr h
  among-split (m ∷ ms) items (inl h) = inl (inl h)
  among-split (m ∷ ms) items (inr h) = elim (among-split ms items h) [ inl k ↦ inl (inr k) | inr k ↦ inr k ]

  among-marks : (ms : List Mark) (items : List Item) → IsAmong what (following ms []) → IsAmong what (following ms items)
  among-marks [] items h = absurd h
  among-marks (m ∷ ms) items (inl h) = inl h
  among-marks (m ∷ ms) items (inr h) = inr (among-marks ms items h)

  among-both : (xs ys : List Item) → IsAmong what (following [] (xs ++ ys)) → IsAmong what (following [] xs) ⊎ IsAmong what (following [] ys)
  among-both [] ys h = inr h
  among-both (x ∷ xs) ys (inl h) = inl (inl h)
  among-both (x ∷ xs) ys (inr h) = elim (among-both xs ys h) [ inl k ↦ inl (inr k) | inr k ↦ inr k ]

  -- among what waits
  abbrev InLane : List Item → Type 0
  InLane items = IsAmong what (following [] items)

  -- each lane keeps it, or it is gone
  lanes-to : (G : Type 0) (q q' : Queued) → (InLane q.begun → InLane q'.begun ⊎ G) → (InLane q.control → InLane q'.control ⊎ G)
      → (InLane (items_of_groups q.publish) → InLane (items_of_groups q'.publish) ⊎ G) → InLane (waiting_items q) → InLane (waiting_items q') ⊎ G
  lanes-to G q q' f g k h = outer (among-both (q.begun ++ q.control) (items_of_groups q.publish) h) where
    front : InLane (q'.begun ++ q'.control) ⊎ G → InLane (waiting_items q') ⊎ G
    front (inl x) = inl (among-left what (q'.begun ++ q'.control) (items_of_groups q'.publish) x)
    front (inr x) = inr x

    inner : InLane q.begun ⊎ InLane q.control → InLane (q'.begun ++ q'.control) ⊎ G
    inner (inl x) = elim (f x) [ inl y ↦ inl (among-left what q'.begun q'.control y) | inr y ↦ inr y ]
    inner (inr x) = elim (g x) [ inl y ↦ inl (among-right what q'.begun q'.control y) | inr y ↦ inr y ]

    outer : InLane (q.begun ++ q.control) ⊎ InLane (items_of_groups q.publish) → InLane (waiting_items q') ⊎ G
    outer (inl x) = front (inner (among-both q.begun q.control x))
    outer (inr x) = elim (k x) [ inl y ↦ inl (among-right what (q'.begun ++ q'.control) (items_of_groups q'.publish) y) | inr y ↦ inr y ]

module _ (number : ℕ) where
  -- groups that are left, or their promises are those of the ones that go
  groups-kept : (test : List Item → Bool) (groups : List (List Item)) → AllByRecursion AnswersLast groups
      → InLane (Answers number) (items_of_groups groups)
      → InLane (Answers number) (items_of_groups (filter (λ group. not (test group)) groups)) ⊎ IsNamed number (map promise_of_group (filter test groups))
  groups-kept test [] last h = inl h
  groups-kept test (group ∷ groups) last h =
      by (test group) (among-both (Answers number) group (items_of_groups groups) h) (groups-kept test groups last.1)
    where
      left : List (List Item)
      left = filter (λ g. not (test g)) groups

      by : (b : Bool) → InLane (Answers number) group ⊎ InLane (Answers number) (items_of_groups groups)
          → (InLane (Answers number) (items_of_groups groups) → InLane (Answers number) (items_of_groups left) ⊎ IsNamed number (map promise_of_group (filter test groups)))
          → InLane (Answers number) (items_of_groups (cond (not b) (group ∷ left) left)) ⊎ IsNamed number (map promise_of_group (cond b (group ∷ filter test groups) (filter test groups)))
      by true (inl k) rest = inr (inl (group-promise number group last.0 k))
      by false (inl k) rest = inl (among-left (Answers number) group (items_of_groups left) k)
      by true (inr k) rest = elim (rest k) [ inl x ↦ inl x | inr x ↦ inr (inr x) ]
      by false (inr k) rest = elim (rest k) [ inl x ↦ inl (among-right (Answers number) group (items_of_groups left) x) | inr x ↦ inr x ]

  all-named : (groups : List (List Item)) → AllByRecursion AnswersLast groups → InLane (Answers number) (items_of_groups groups)
      → IsNamed number (map promise_of_group groups)
  all-named [] last h = absurd h
  all-named (group ∷ groups) last h =
      elim (among-both (Answers number) group (items_of_groups groups) h) [
        | inl k ↦ inl (group-promise number group last.0 k)
        | inr k ↦ inr (all-named groups last.1 k)
      ]

  items-kept : (test : Item → Bool) (items : List Item) → InLane (Answers number) items
      → InLane (Answers number) (filter (λ item. not (test item)) items) ⊎ IsNamed number (map (λ (i : Item). i.promise) (filter test items))
  items-kept test [] h = inl h
  items-kept test (item ∷ items) h = by (test item) h (items-kept test items) where
    left : List Item
    left = filter (λ i. not (test i)) items

    by : (b : Bool) → (then_of item ≡ Answers number) ⊎ InLane (Answers number) items
        → (InLane (Answers number) items → InLane (Answers number) left ⊎ IsNamed number (map (λ (i : Item). i.promise) (filter test items)))
        → InLane (Answers number) (cond (not b) (item ∷ left) left) ⊎ IsNamed number (map (λ (i : Item). i.promise) (cond b (item ∷ filter test items) (filter test items)))
    by true (inl k) rest = inr (inl (item-promise number item k))
    by false (inl k) rest = inl (inl k)
    by true (inr k) rest = elim (rest k) [ inl x ↦ inl x | inr x ↦ inr (inr x) ]
    by false (inr k) rest = elim (rest k) [ inl x ↦ inl (inr x) | inr x ↦ inr x ]

last-left : (test : List Item → Bool) (groups : List (List Item)) → AllByRecursion AnswersLast groups → AllByRecursion AnswersLast (filter test groups)
last-left test [] h = tt
last-left test (group ∷ groups) h = by (test group) (last-left test groups h.1) where
  by : (b : Bool) → AllByRecursion AnswersLast (filter test groups) → AllByRecursion AnswersLast (cond b (group ∷ filter test groups) (filter test groups))
  by true rest = (h.0, rest)
  by false rest = rest

last-cons : (item : Item) (group : List Item) → item.promise ≡ None → AnswersLast group → AnswersLast (item ∷ group)
last-cons item [] none h = tt
last-cons item (next ∷ items) none h = (none, h)

pub last-group : (n promise : ℕ) (fs : List Frame) → AnswersLast (group_of n fs promise)
last-group n promise [] = tt
last-group n promise (f ∷ []) = tt
last-group n promise (f ∷ next ∷ fs) = last-cons (plain_item n f) (group_of n (next ∷ fs) promise) refl (last-group n promise (next ∷ fs))

-- ---- a promise stands for what comes

-- a reply is awaited for it, or a frame answers it by its last byte
abbrev pub Stands : ℕ → Queued → List Mark → Type 0
Stands number q ms = IsAwaitedFor number q ⊎ IsAmong (Answers number) (following ms (waiting_items q))

module _ (G : Type 0) (number : ℕ) (ms : List Mark) (q q' : Queued) where
  stands-to : (IsAwaitedFor number q → IsAwaitedFor number q' ⊎ G) → (InLane (Answers number) (waiting_items q) → InLane (Answers number) (waiting_items q') ⊎ G)
      → Stands number q ms → Stands number q' ms ⊎ G
  stands-to f g (inl h) = elim (f h) [ inl x ↦ inl (inl x) | inr x ↦ inr x ]
  stands-to f g (inr h) = outer (among-split (Answers number) ms (waiting_items q) h) where
    outer : IsAmong (Answers number) (following ms []) ⊎ InLane (Answers number) (waiting_items q) → Stands number q' ms ⊎ G
    outer (inl x) = inl (inr (among-marks (Answers number) ms (waiting_items q') x))
    outer (inr x) = elim (g x) [ inl y ↦ inl (inr (among-later (Answers number) ms (waiting_items q') y)) | inr y ↦ inr y ]

-- each promise that waits, but the first, does
abbrev AllStand : Promises → Queued → List Mark → Type 0
AllStand ps q ms = (number : ℕ) → number ≢ 0 → at number ps ≡ Some None → Stands number q ms

-- no promise waits but the first
abbrev pub NoneWaits : Promises → Type 0
NoneWaits ps = (number : ℕ) → number ≢ 0 → at number ps ≡ Some None → ⊥

abbrev pub Rests : Link ErrorKind → Input → Promises → Queued → List Mark → Type 0
Rests l i ps q ms =
    ((is_open_link l && is_acting i) ≡ true → AllStand ps q ms)
    × (is_open_link l ≡ false → is_some (end_of_link l) ≡ false → NoneWaits ps)
    × AllByRecursion AnswersLast q.publish

abbrev pub Rest : Talk → Type 0
Rest x = Rests x.link x.input x.promises x.outbox x.committed

module _ (l : Link ErrorKind) (i : Input) (ps : Promises) (q : Queued) (ms : List Mark) (h : Rests l i ps q ms) where
  -- what waits is changed, and each promise that still waits stands for what comes
  pub rest-to : (ps' : Promises) (q' : Queued) (G : ℕ → Type 0)
      → ((number : ℕ) → at number ps' ≡ Some None → (at number ps ≡ Some None) × (G number → ⊥))
      → ((number : ℕ) → Stands number q ms → Stands number q' ms ⊎ G number)
      → AllByRecursion AnswersLast q'.publish → Rests l i ps' q' ms
  rest-to ps' q' G before stands groups = (
    (λ on number other waits.
        let was = before number waits in
        elim (stands number (h.0 on number other was.0)) [ inl x ↦ x | inr gone ↦ absurd (was.1 gone) ]),
    (λ shut going number other waits. h.1 shut going number other (before number waits).0),
    groups,
  )

  pub rest-queue : (item : Item) → Rests l i ps (pushed_control item q) ms
  rest-queue item =
      rest-to ps (pushed_control item q) (λ number. ⊥) (λ number waits. (waits, λ never. never))
      (λ number. stands-to ⊥ number ms q (pushed_control item q) (λ x. inl x)
      (lanes-to (Answers number) ⊥ q (pushed_control item q) (λ x. inl x) (λ x. inl (among-left (Answers number) q.control (item ∷ []) x)) (λ x. inl x)))
      h.2

  pub rest-await : (n : ℕ) (a : Awaited) → Rests l i ps (with_awaited n a q) ms
  rest-await n a =
      rest-to ps (with_awaited n a q) (λ number. ⊥) (λ number waits. (waits, λ never. never))
      (λ number. stands-to ⊥ number ms q (with_awaited n a q) (λ x. inl (awaited-more number q n a x)) (λ x. inl x)) h.2

  pub rest-group : (group : List Item) → AnswersLast group → Rests l i ps (pushed_group group q) ms
  rest-group group last =
      rest-to ps (pushed_group group q) (λ number. ⊥) (λ number waits. (waits, λ never. never))
      (λ number. stands-to ⊥ number ms q (pushed_group group q) (λ x. inl x)
      (lanes-to (Answers number) ⊥ q (pushed_group group q) (λ x. inl x) (λ x. inl x) (λ x. inl (groups-more (Answers number) q.publish group x))))
      (all-push AnswersLast q.publish group h.2 last)
    where
      groups-more : (what : Then) (groups : List (List Item)) (g : List Item) → InLane what (items_of_groups groups) → InLane what (items_of_groups (groups ++ g ∷ []))
      groups-more what [] g x = absurd x
      groups-more what (first ∷ groups) g x =
          elim (among-both what first (items_of_groups groups) x) [
            | inl y ↦ among-left what first (items_of_groups (groups ++ g ∷ [])) y
            | inr y ↦ among-right what first (items_of_groups (groups ++ g ∷ [])) (groups-more what groups g y)
          ]

  pub rest-answered : (n : ℕ) (r : Reply) (promise : Option ℕ) (a : Result Answer ErrorKind) → awaited_promise n r q ≡ Some promise
      → Rests l i (settled_to promise a ps) (without_awaited n r q) ms
  rest-answered n r promise a found =
      rest-to (settled_to promise a ps) (without_awaited n r q) (λ number. promise ≡ Some number) (λ number waits. told-before number promise a ps waits)
      (λ number. stands-to (promise ≡ Some number) number ms q (without_awaited n r q) (awaited-less number q n r promise found) (λ x. inl x)) h.2

  pub rest-replies : (n : ℕ) (e : ErrorKind) → Rests l i (rejected_each e (replies_on n q) ps) (without_replies_on n q) ms
  rest-replies n e =
      rest-to (rejected_each e (replies_on n q) ps) (without_replies_on n q) (λ number. IsNamed number (replies_on n q))
      (λ number waits. each-before number e (replies_on n q) ps waits)
      (λ number. stands-to (IsNamed number (replies_on n q)) number ms q (without_replies_on n q) (awaited-gone number q n) (λ x. inl x)) h.2

  pub rest-all : (n : ℕ) (e : ErrorKind) → Rests l i (rejected_each e (promises_on n q) ps) (without_all_on n q) ms
  rest-all n e =
      rest-to (rejected_each e (promises_on n q) ps) (without_all_on n q) (λ number. IsNamed number (promises_on n q))
      (λ number waits. each-before number e (promises_on n q) ps waits)
      (λ number. stands-to (IsNamed number (promises_on n q)) number ms q (without_all_on n q)
      (λ x. elim (awaited-gone number q n x) [ inl y ↦ inl y | inr y ↦ inr (named-right number (of_groups ++ of_frames) (replies_on n q) y) ])
      (lanes-to (Answers number) (IsNamed number (promises_on n q)) q (without_all_on n q) (λ x. inl x)
      (λ x. elim (items-kept number (goes_with n) q.control x) [
        | inl y ↦ inl y
        | inr y ↦ inr (named-left number (of_groups ++ of_frames) (replies_on n q) (named-right number of_groups of_frames y))
      ])
      (λ x. elim (groups-kept number (is_on n) q.publish h.2 x) [
        | inl y ↦ inl y
        | inr y ↦ inr (named-left number (of_groups ++ of_frames) (replies_on n q) (named-left number of_groups of_frames y))
      ])))
      (last-left (λ group. not (is_on n group)) q.publish h.2)
    where
      of_groups : List (Option ℕ)
      of_groups = map promise_of_group (filter (is_on n) q.publish)

      of_frames : List (Option ℕ)
      of_frames = map (λ (x : Item). x.promise) (filter (goes_with n) q.control)

  pub rest-groups-of : (n : ℕ) (e : ErrorKind) → Rests l i (rejected e (filter (is_on n) q.publish) ps) (without_groups_of n q) ms
  rest-groups-of n e =
      let gone : List (List Item) = filter (is_on n) q.publish in
      rest-to (rejected e gone ps) (without_groups_of n q) (λ number. IsNamed number (map promise_of_group gone))
      (λ number waits. groups-before number e gone ps waits)
      (λ number. stands-to (IsNamed number (map promise_of_group gone)) number ms q (without_groups_of n q) (λ x. inl x)
      (lanes-to (Answers number) (IsNamed number (map promise_of_group gone)) q (without_groups_of n q) (λ x. inl x) (λ x. inl x)
      (groups-kept number (is_on n) q.publish h.2)))
      (last-left (λ group. not (is_on n group)) q.publish h.2)

  pub rest-groups : (e : ErrorKind) → Rests l i (rejected e q.publish ps) (without_groups q) ms
  rest-groups e =
      rest-to (rejected e q.publish ps) (without_groups q) (λ number. IsNamed number (map promise_of_group q.publish))
      (λ number waits. groups-before number e q.publish ps waits)
      (λ number. stands-to (IsNamed number (map promise_of_group q.publish)) number ms q (without_groups q) (λ x. inl x)
      (lanes-to (Answers number) (IsNamed number (map promise_of_group q.publish)) q (without_groups q) (λ x. inl x) (λ x. inl x)
      (λ x. inr (all-named number q.publish h.2 x))))
      tt

  pub rest-refused : (made : ℕ) (e : ErrorKind) → Rests l i (put made (Some (Err e)) ps) q ms
  rest-refused made e =
      rest-to (put made (Some (Err e)) ps) q (λ number. ⊥)
      (λ number waits. (elim (put-before number made (Some (Err e)) ps waits) [ inl k ↦ absurd (slot-filled (Some (Err e)) refl k.1) | inr k ↦ k ], λ never. never)) (λ number x. inl x) h.2

  -- one more promise waits, and stands for what comes
  pub rest-made : (made : ℕ) → is_open_link l ≡ true → Stands made q ms → Rests l i (put made None ps) q ms
  rest-made made opened mine = (
    (λ on number other waits.
        elim (put-before number made None ps waits) [
          | inl k ↦ subst (λ (m : ℕ). Stands m q ms) (sym k.0) mine
          | inr k ↦ h.0 on number other k
        ]),
    (λ shut. absurd (true≢false (sym opened ∙ shut))),
    h.2,
  )
