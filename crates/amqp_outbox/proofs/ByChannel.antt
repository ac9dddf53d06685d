-- The replies that are awaited, by channel, as they are seen.
use Rattle.std.proofs.Common.{◌≡◌, ◌∙◌, ap, sym, subst, refl, ℕ, ◌==◌, false, List, [], ◌∷◌, ◌++◌, Option, Some, None, append_assoc, length}
use Rattle.std.specs.List.{AllByRecursion}
use Rattle.std.specs.declared.cmp.Ordering.TheVariants.{Less, Greater}
use Rattle.std.specs.Prelude.{unwrap_or}
use Rattle.std.specs.Ordering.{nat_cmp, match_ordering}
use Rattle.std.proofs.lemmas.Map.Keys.{sorted_head, sorted_tail}
use Rattle.std.specs.Map.{keys_of, set_value}
use Rattle.std.specs.BTreeMap.{is_at}
use Rattle.amqp_outbox.specs.declared.reply.Awaited.{Awaited}
use Rattle.amqp_outbox.specs.declared.reply.Reply.{Reply}
use Rattle.amqp_outbox.specs.declared.replies.Replies.{Replies}
use Rattle.amqp_outbox.specs.Listed.{at, put}
use Rattle.amqp_outbox.specs.Replies.{awaited_on, left_on, expected}
use Rattle.amqp_outbox.specs.Order.{seen, seen_at, seen_first, put_seen}
use Rattle.amqp_outbox.specs.Parts.{some_awaited, list_seen, HasReplyPlaces}
use Rattle.amqp_outbox.proofs.Cases.{less-from, to-greater}
use Rattle.amqp_outbox.proofs.Maps.{without-absent}
use Rattle.amqp_outbox.proofs.Seen.{Sorted, at-seen, put-seen, set-alike, set-seen, set-unseen}

shown : (list : List Awaited) → unwrap_or (some_awaited list) [] ≡ list
shown [] = refl
shown (a ∷ list) = refl

some-appended : (list : List Awaited) (a : Awaited) → some_awaited (list ++ a ∷ []) ≡ Some (list ++ a ∷ [])
some-appended [] a = refl
some-appended (b ∷ list) a = refl

-- the replies of a channel, in order
abbrev items : Replies → List Awaited
items r = r.list.items

module _ (n : ℕ) (es : List (ℕ × Replies)) (sorted : Sorted (keys_of es)) (r : Replies) (there : at n es ≡ Some r) where
  -- what is awaited on a channel that has a list
  pub awaited-seen : awaited_on n (seen list_seen es) ≡ items r
  awaited-seen = ap (λ o. unwrap_or o []) (at-seen list_seen n es sorted ∙ ap (seen_at list_seen) there) ∙ shown (items r)

  -- one more is awaited
  pub expect-seen : (r' : Replies) (a : Awaited) → items r' ≡ items r ++ a ∷ []
      → seen list_seen (set_value (is_at (nat_cmp n)) es r') ≡ expected n a (seen list_seen es)
  expect-seen r' a is =
      set-seen list_seen n r r' (items r ++ a ∷ []) es (ap some_awaited is ∙ some-appended (items r) a) there sorted
      ∙ ap (λ list. put n (list ++ a ∷ []) (seen list_seen es)) (sym awaited-seen)

  -- some are left
  left-seen : (r' : Replies) (list : List Awaited) → items r' ≡ list
      → seen list_seen (set_value (is_at (nat_cmp n)) es r') ≡ left_on n list (seen list_seen es)
  left-seen r' [] is = set-unseen list_seen n r r' es (ap some_awaited is) there sorted
  left-seen r' (a ∷ list) is = set-seen list_seen n r r' (a ∷ list) es (ap some_awaited is) there sorted

  -- some are taken out
  pub take-seen : (f : List Awaited → List Awaited) (r' : Replies) → items r' ≡ f (items r)
      → seen list_seen (set_value (is_at (nat_cmp n)) es r') ≡ left_on n (f (awaited_on n (seen list_seen es))) (seen list_seen es)
  take-seen f r' is = left-seen r' (f (items r)) is ∙ ap (λ list. left_on n (f list) (seen list_seen es)) (sym awaited-seen)

  -- none is taken out
  pub keep-seen : (r' : Replies) → items r' ≡ items r → seen list_seen (set_value (is_at (nat_cmp n)) es r') ≡ seen list_seen es
  keep-seen r' is = set-alike list_seen n r r' es (ap some_awaited is) there

-- on a channel that has no list nothing is awaited
module _ (n : ℕ) (es : List (ℕ × Replies)) (sorted : Sorted (keys_of es)) (none : at n es ≡ None) where
  unseen : at n (seen list_seen es) ≡ None
  unseen = at-seen list_seen n es sorted ∙ ap (seen_at list_seen) none

  pub none-awaited : awaited_on n (seen list_seen es) ≡ []
  none-awaited = ap (λ o. unwrap_or o []) unseen

  -- and nothing is taken out
  pub none-taken-out : (f : List Awaited → List Awaited) → f [] ≡ []
      → seen list_seen es ≡ left_on n (f (awaited_on n (seen list_seen es))) (seen list_seen es)
  none-taken-out f is =
      sym (without-absent n (seen list_seen es) unseen)
      ∙ sym (ap (λ list. left_on n list (seen list_seen es)) (ap f none-awaited ∙ is))

-- a list that is empty is not seen
pub empty-seen : (n : ℕ) (es : List (ℕ × Replies)) (r : Replies) → at n es ≡ Some r → items r ≡ [] → seen_at list_seen (at n es) ≡ None
empty-seen n es r there empty = ap (seen_at list_seen) there ∙ ap some_awaited empty

-- what a channel has stays, and so does its place for a reply
pub place-stays : (c : ℕ) (reply : Reply) (es es' : List (ℕ × Replies)) → at c es' ≡ at c es → HasReplyPlaces c reply es → HasReplyPlaces c reply es'
place-stays c reply es es' same (r, there, place) = (r, same ∙ there, place)

-- ---- a copy

-- a list that is copied is seen as it was
pub copy-seen : (n : ℕ) (es : List (ℕ × Replies)) (r r' : Replies) → Sorted (keys_of es) → (length (items r) == 0) ≡ false → items r' ≡ items r
    → seen list_seen (put n r' es) ≡ put_seen n (list_seen r) (seen list_seen es)
copy-seen n es r r' sorted some same = by (items r) refl some where
  by : (list : List Awaited) → items r ≡ list → (length list == 0) ≡ false → seen list_seen (put n r' es) ≡ put_seen n (list_seen r) (seen list_seen es)
  by [] is some = absurd cc
  by (a ∷ list) is some =
      put-seen list_seen n r' (a ∷ list) es (ap some_awaited (same ∙ is)) sorted
      ∙ ap (λ o. put_seen n o (seen list_seen es)) (sym (ap some_awaited is))

module _ {X : Type 0} (n : ℕ) (x : X) (rest : List (ℕ × X)) where
  above-last : (m : ℕ) (xs : List (ℕ × X)) → AllByRecursion (λ k. nat_cmp m k ≡ Less) (keys_of (xs ++ (n, x) ∷ rest)) → nat_cmp m n ≡ Less
  above-last m [] above = above.0
  above-last m (e ∷ es) above = above-last m es above.1

  -- what is put behind all others goes last
  put-last : (xs : List (ℕ × X)) → Sorted (keys_of (xs ++ (n, x) ∷ rest)) → put n x xs ≡ xs ++ (n, x) ∷ []
  put-last [] sorted = refl
  put-last (e ∷ es) sorted =
      let keys = keys_of (es ++ (n, x) ∷ rest) in
      let past : nat_cmp n e.0 ≡ Greater = to-greater n e.0 (less-from e.0 n (above-last e.0 es (sorted_head nat_cmp e.0 keys sorted))) in
      ap (λ r. match_ordering r ((n, x) ∷ e ∷ es) ((e.0, x) ∷ es) (e ∷ put n x es)) past
      ∙ ap (λ l. e ∷ l) (put-last es (sorted_tail nat_cmp e.0 keys sorted))

-- one more was copied
pub one-copied : {X : Type 0} (n : ℕ) (o : Option X) (done rest whole : List (ℕ × X)) → Sorted (keys_of whole) → done ++ seen_first n o rest ≡ whole
    → put_seen n o done ++ rest ≡ whole
one-copied n None done rest whole sorted is = is
one-copied n (Some x) done rest whole sorted is =
    ap (λ l. l ++ rest) (put-last n x rest done (subst (λ l. Sorted (keys_of l)) (sym is) sorted)) ∙ append_assoc done ((n, x) ∷ []) rest ∙ is
