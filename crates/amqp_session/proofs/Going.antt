-- What goes with a channel, one thing after another: what is then left leads where the whole does.
use Rattle.std.proofs.Common.{◌≡◌, ◌∙◌, ap, sym, refl, ℕ, if◌then◌else◌, List, [], ◌∷◌, ◌++◌, drop, Option, Some, None, is_some, option_map}
use Rattle.std.specs.Prelude.{filter, find, map, not, unwrap_or}
use Rattle.std.specs.Option.{option_or}
use Rattle.amqp_outbox.specs.declared.item.Item.{Item}
use Rattle.amqp_outbox.specs.declared.reply.Awaited.{Awaited}
use Rattle.amqp_outbox.specs.declared.scope.Scope.TheVariants.{All}
use Rattle.amqp_outbox.specs.Lists.{head, without_first}
use Rattle.amqp_outbox.specs.Listed.{Ascends}
use Rattle.amqp_outbox.specs.Items.{promise_of_group}
use Rattle.amqp_outbox.specs.Replies.{awaited_on, left_on}
use Rattle.amqp_outbox.specs.Queued.{Queued, is_on, goes_with, without_group, frame_promise, without_frame, reply_promise, without_reply, dropped_promise, without_any}
use Rattle.amqp_outbox.proofs.Maps.{without-absent}
use Rattle.amqp_maps.specs.Listed.{without}
use Rattle.amqp_rules.specs.Changes.{replies_on, without_replies_on, promises_on, without_all_on}
use Rattle.amqp_maps.proofs.Numbered.{put-same, without-gone, without-put}
use Rattle.amqp_session.proofs.Rejecting.{same-fail, first-pass, none-pass, all-fail}

abbrev Awaiting : Type 0
Awaiting = List (ℕ × List Awaited)

-- ---- the replies of a channel

module _ (n : ℕ) (awaited : Awaiting) (sorted : Ascends awaited) where
  -- some are left
  on-left : (list : List Awaited) → awaited_on n (left_on n list awaited) ≡ list
  on-left [] = ap (λ o. unwrap_or o []) (without-gone n awaited sorted)
  on-left (a ∷ list) = ap (λ o. unwrap_or o []) (put-same n (a ∷ list) awaited)

  -- the others stay
  others-left : (list : List Awaited) → without n (left_on n list awaited) ≡ without n awaited
  others-left [] = without-absent n (without n awaited) (without-gone n awaited sorted)
  others-left (a ∷ list) = without-put n (a ∷ list) awaited sorted

module _ (n : ℕ) (q : Queued) where
  -- one reply goes, and then the others
  pub record ReplyGoes (p : Option ℕ) : Type 0 where
    pub left : without_replies_on n (without_reply n q) ≡ without_replies_on n q
    pub first : replies_on n q ≡ p ∷ replies_on n (without_reply n q)

  reply_left : Ascends q.awaited → without n (without_reply n q).awaited ≡ without n q.awaited
  reply_left sorted = others-left n q.awaited sorted (drop 1 (awaited_on n q.awaited))

  reply_first : Ascends q.awaited → (p : Option ℕ) → reply_promise n q ≡ Some p → replies_on n q ≡ p ∷ replies_on n (without_reply n q)
  reply_first sorted p h =
      by (awaited_on n q.awaited) h
      ∙ ap (λ list. p ∷ map (λ (a : Awaited). a.promise) list) (sym (on-left n q.awaited sorted (drop 1 (awaited_on n q.awaited))))
    where
      by : (list : List Awaited) → option_map (λ (a : Awaited). a.promise) (head list) ≡ Some p
          → map (λ (a : Awaited). a.promise) list ≡ p ∷ map (λ (a : Awaited). a.promise) (drop 1 list)
      by [] k = absurd cc
      by (a ∷ list) k = let same : a.promise ≡ p = cc in ap (λ x. x ∷ map (λ (a : Awaited). a.promise) list) same

  pub reply-goes : Ascends q.awaited → (p : Option ℕ) → reply_promise n q ≡ Some p → ReplyGoes p
  reply-goes sorted p h =
      record { left = ap (λ aw. record q { awaited = aw }) (reply_left sorted); first = reply_first sorted p h }

  no-reply : reply_promise n q ≡ None → awaited_on n q.awaited ≡ []
  no-reply h = by (awaited_on n q.awaited) h where
    by : (list : List Awaited) → option_map (λ (a : Awaited). a.promise) (head list) ≡ None → list ≡ []
    by [] k = refl
    by (a ∷ list) k = absurd cc

  -- where none is left, all are gone
  pub no-replies : reply_promise n q ≡ None → replies_on n q ≡ []
  no-replies h = ap (λ list. map (λ (a : Awaited). a.promise) list) (no-reply h)

  pub replies-gone : reply_promise n q ≡ None → without_reply n q ≡ without_replies_on n q
  replies-gone h = ap (λ list. record q { awaited = left_on n (drop 1 list) q.awaited }) (no-reply h)

  -- ---- all that goes with a channel

  -- one thing goes, and then the others
  pub record Goes (p : Option ℕ) : Type 0 where
    pub left : without_all_on n (without_any n q) ≡ without_all_on n q
    pub first : promises_on n q ≡ p ∷ promises_on n (without_any n q)

  abbrev choice : Option (Option ℕ) → Option (Option ℕ) → Queued
  choice group frame =
      if is_some group then without_group n q else if is_some frame then without_frame n q else without_reply n q

  -- what goes, by the queue that is left
  goes-to : (p : Option ℕ) (q' : Queued) → without_any n q ≡ q' → without_all_on n q' ≡ without_all_on n q
      → promises_on n q ≡ p ∷ promises_on n q' → Goes p
  goes-to p q' is left first =
      record { left = ap (without_all_on n) is ∙ left; first = first ∙ ap (λ x. p ∷ promises_on n x) (sym is) }

  abbrev promises-in : List (List Item) → List Item → List Awaited → List (Option ℕ)
  promises-in groups items replies =
      map promise_of_group groups ++ map (λ (i : Item). i.promise) items ++ map (λ (a : Awaited). a.promise) replies

  abbrev all-left : List (List Item) → List Item → Awaiting → Queued
  all-left groups items awaited = record q { publish = groups; control = items; awaited = awaited }

  abbrev groups : List (List Item)
  groups = filter (is_on n) q.publish

  abbrev items : List Item
  items = filter (goes_with n) q.control

  abbrev others : List (List Item)
  others = filter (λ group. not (is_on n group)) q.publish

  abbrev kept : List Item
  kept = filter (λ item. not (goes_with n item)) q.control

  group-goes : (p : Option ℕ) (g : List Item) → find (is_on n) q.publish ≡ Some g → promise_of_group g ≡ p → Goes p
  group-goes p g is same =
      goes-to p (without_group n q)
      (ap (λ o. choice (option_map promise_of_group o) (frame_promise n q)) is)
      (ap (λ gs. all-left gs kept (without n q.awaited)) (same-fail (is_on n) q.publish))
      (ap (λ gs. promises-in gs items (awaited_on n q.awaited)) (first-pass (is_on n) q.publish g is)
      ∙ ap (λ x. x ∷ promises_on n (without_group n q)) same)

  frame-goes : (p : Option ℕ) (i : Item) → find (is_on n) q.publish ≡ None → find (goes_with n) q.control ≡ Some i → i.promise ≡ p → Goes p
  frame-goes p i none is same =
      let later = filter (goes_with n) (without_first (goes_with n) q.control) in
      goes-to p (without_frame n q)
      (ap (λ o. choice (option_map promise_of_group o) (frame_promise n q)) none
      ∙ ap (λ o. choice None (option_map (λ (i : Item). i.promise) o)) is)
      (ap (λ is. all-left others is (without n q.awaited)) (same-fail (goes_with n) q.control))
      (ap (λ gs. promises-in gs items (awaited_on n q.awaited)) (none-pass (is_on n) q.publish none)
      ∙ ap (λ is. promises-in [] is (awaited_on n q.awaited)) (first-pass (goes_with n) q.control i is)
      ∙ ap (λ x. x ∷ promises-in [] later (awaited_on n q.awaited)) same
      ∙ ap (λ gs. p ∷ promises-in gs later (awaited_on n q.awaited)) (sym (none-pass (is_on n) q.publish none)))

  last-goes : Ascends q.awaited → (p : Option ℕ) → find (is_on n) q.publish ≡ None → find (goes_with n) q.control ≡ None → reply_promise n q ≡ Some p
      → Goes p
  last-goes sorted p none no_frame is =
      let whole : promises_on n q ≡ replies_on n q =
      ap (λ gs. promises-in gs items (awaited_on n q.awaited)) (none-pass (is_on n) q.publish none)
      ∙ ap (λ is. promises-in [] is (awaited_on n q.awaited)) (none-pass (goes_with n) q.control no_frame) in
      let left : promises_on n (without_reply n q) ≡ replies_on n (without_reply n q) =
      ap (λ gs. promises-in gs items (awaited_on n (without_reply n q).awaited)) (none-pass (is_on n) q.publish none)
      ∙ ap (λ is. promises-in [] is (awaited_on n (without_reply n q).awaited)) (none-pass (goes_with n) q.control no_frame) in
      goes-to p (without_reply n q)
      (ap (λ o. choice (option_map promise_of_group o) (frame_promise n q)) none
      ∙ ap (λ o. choice None (option_map (λ (i : Item). i.promise) o)) no_frame)
      (ap (λ aw. all-left others kept aw) (reply_left sorted))
      (whole ∙ reply_first sorted p is ∙ ap (λ ps. p ∷ ps) (sym left))

  pub goes : Ascends q.awaited → (p : Option ℕ) → dropped_promise n All q ≡ Some p → Goes p
  goes sorted p h = by-group (find (is_on n) q.publish) refl h where
    by-frame : find (is_on n) q.publish ≡ None → (o : Option Item) → find (goes_with n) q.control ≡ o
        → option_or (option_map (λ (i : Item). i.promise) o) (reply_promise n q) ≡ Some p → Goes p
    by-frame none None is k = last-goes sorted p none is k
    by-frame none (Some i) is k = let same : i.promise ≡ p = cc in frame-goes p i none is same

    by-group : (o : Option (List Item)) → find (is_on n) q.publish ≡ o
        → option_or (option_map promise_of_group o) (option_or (frame_promise n q) (reply_promise n q)) ≡ Some p → Goes p
    by-group None is k = by-frame is (find (goes_with n) q.control) refl k
    by-group (Some g) is k = let same : promise_of_group g ≡ p = cc in group-goes p g is same

  -- where nothing is left, all is gone
  pub record AllGone : Type 0 where
    pub none : promises_on n q ≡ []
    pub left : without_any n q ≡ without_all_on n q

  all-gone-by : find (is_on n) q.publish ≡ None → find (goes_with n) q.control ≡ None → reply_promise n q ≡ None → AllGone
  all-gone-by none no_frame no_reply = record {
    none =
        ap (λ gs. promises-in gs items (awaited_on n q.awaited)) (none-pass (is_on n) q.publish none)
        ∙ ap (λ is. promises-in [] is (awaited_on n q.awaited)) (none-pass (goes_with n) q.control no_frame)
        ∙ no-replies no_reply;
    left =
        ap (λ o. choice (option_map promise_of_group o) (frame_promise n q)) none
        ∙ ap (λ o. choice None (option_map (λ (i : Item). i.promise) o)) no_frame
        ∙ replies-gone no_reply
        ∙ ap (λ gs. all-left gs q.control (without n q.awaited)) (sym (all-fail (is_on n) q.publish none))
        ∙ ap (λ is. all-left others is (without n q.awaited)) (sym (all-fail (goes_with n) q.control no_frame));
  }

  pub all-gone : dropped_promise n All q ≡ None → AllGone
  all-gone h = by-group (find (is_on n) q.publish) refl h where
    by-frame : find (is_on n) q.publish ≡ None → (o : Option Item) → find (goes_with n) q.control ≡ o
        → option_or (option_map (λ (i : Item). i.promise) o) (reply_promise n q) ≡ None → AllGone
    by-frame none None is k = all-gone-by none is k
    by-frame none (Some i) is k = absurd cc

    by-group : (o : Option (List Item)) → find (is_on n) q.publish ≡ o
        → option_or (option_map promise_of_group o) (option_or (frame_promise n q) (reply_promise n q)) ≡ None → AllGone
    by-group None is k = by-frame is (find (goes_with n) q.control) refl k
    by-group (Some g) is k = absurd cc
