-- What is kept of a pool, whatever a lease, a collecting and a return make of it.
use Rattle.std.proofs.Common.{◌≡◌, ◌≢◌, ◌∙◌, ◌+◌, ◌≤◌, ◌<◌, ap, sym, refl, subst, ℕ, suc, Bool, true, false, cond, not, true≢false, List, [], ◌∷◌, ◌++◌, length, map, Option, Some, None, Result, Ok, Err, inl, inr, arith, length-append}
use Rattle.std.specs.Prelude.{filter, find, nat_eq, nat_lt, IsTrue, IsFalse, is_some, IsSome}
use Rattle.std.specs.List.{AllByRecursion}
use Rattle.std.proofs.lemmas.List.{length-map}
use Rattle.std.proofs.lemmas.Bool.{cases_eq, ltb-true}
use Rattle.amqp_outbox.specs.Lists.{without_first}
use Rattle.amqp_promise.specs.declared.error.ErrorKind.{ErrorKind}
use Rattle.amqp_commands.specs.declared.command.ChanRef.{ChanRef}
use Rattle.amqp_answers.specs.declared.answer.Answer.{Answer}
use Rattle.amqp_answers.specs.declared.answer.Answer.TheVariants as answer
use Rattle.amqp_rules.specs.Talk.{Talk}
use Rattle.amqp_rules.specs.Answers.{answer_of}
use Rattle.amqp_hub.specs.declared.hub.Pass.{Pass}
use Rattle.amqp_hub.specs.Guarded.{Guarded}
use Rattle.amqp_pool.specs.declared.lease.Leased.{Leased}
use Rattle.amqp_pool.specs.declared.lease.Leased.TheVariants.{Now, Opening, Full}
use Rattle.amqp_pool.specs.declared.lease.Back.{Back}
use Rattle.amqp_pool.specs.declared.lease.Back.TheVariants.{Kept, Lost, Foreign}
use Rattle.amqp_pool.specs.Lost.{is_lost, is_ready, without_lost}
use Rattle.amqp_pool.specs.Pooled.{Pooled, empty_pool, is_same_channel, opened_by, AreNamed, opening_promises, times, above, AreDifferent, IsPool, AreMade}
use Rattle.amqp_pool.specs.Leasing.{first_ready, has_room, IsLeased, after_lease, hub_after_lease, is_leased, IsBack, after_back}
use Rattle.amqp_pool.specs.Collecting.{has_answer, channel_in, brought_by, unanswered, collected}
use Rattle.amqp_pool.proofs.Counts.{one, times-cons, times-append, one-same, one-other, one-few, times-filter, above-part, above-least, under-above, not-there}
use Rattle.amqp_pool.proofs.Openings.{opens-one}
use Rattle.amqp_pool.proofs.Channels.{numbers, same-is, numbers-filter, fewer-filter, named-filter, numbers-first, fewer-first, named-others, named-first, first-passes, numbers-push, numbers-append, named-append}

-- ---- promises of the three lists

pub times-all : (n : ℕ) (p : Pooled) → times n (opening_promises p) ≡ times n (numbers p.idle) + times n (numbers p.leased) + times n p.opening
times-all n p =
    let whole : times n (opening_promises p) ≡ times n (numbers p.idle) + times n (numbers p.leased ++ p.opening) =
    times-append n (numbers p.idle) (numbers p.leased ++ p.opening) in
    omega (arith, whole, times-append n (numbers p.leased) p.opening)

pub count-all : (p : Pooled) → length (opening_promises p) ≡ length p.idle + length p.leased + length p.opening
count-all p =
    let whole : length (opening_promises p) ≡ length (numbers p.idle) + length (numbers p.leased ++ p.opening) =
    length-append (numbers p.idle) (numbers p.leased ++ p.opening) in
    let part : length (numbers p.leased ++ p.opening) ≡ length (numbers p.leased) + length p.opening = length-append (numbers p.leased) p.opening in
    let idle : length (numbers p.idle) ≡ length p.idle = length-map p.idle opened_by in
    let leased : length (numbers p.leased) ≡ length p.leased = length-map p.leased opened_by in
    omega (arith, whole, part, idle, leased)

-- a pool that has no promise more, and no more of them, is one
pub kept-part : (p q : Pooled) → q.limit ≡ p.limit → AreNamed q.idle × AreNamed q.leased
    → ((n : ℕ) → times n (opening_promises q) ≤ times n (opening_promises p)) → length (opening_promises q) ≤ length (opening_promises p)
    → IsPool p → IsPool q
kept-part p q same named part fewer kept = record {
  named = named;
  different = λ n. omega (arith, part n, kept.different n);
  few = omega (arith, same, fewer, kept.few);
}

pub kept-empty : (limit : ℕ) → IsPool (empty_pool limit)
kept-empty limit = record { named = (tt, tt); different = λ n. omega arith; few = omega arith }

-- ---- a lease

-- the first idle channel that is ready is one of those that are idle
module _ (t : Talk) (p : Pooled) where
  abbrev stay : List ChanRef
  stay = without_lost t p.idle

  staying : (n : ℕ) → times n (numbers stay) ≤ times n (numbers p.idle)
  staying n = numbers-filter (λ r. not (is_lost t r)) n p.idle

  fewer : length stay ≤ length p.idle
  fewer = fewer-filter (λ r. not (is_lost t r)) p.idle

  named-stay : IsPool p → AreNamed stay
  named-stay kept = named-filter (λ r. not (is_lost t r)) p.idle kept.named.0

  pub now-part : (r : ChanRef) → first_ready t p ≡ Some r → (n : ℕ)
      → times n (opening_promises (after_lease t (Now r) p)) ≤ times n (opening_promises p)
  now-part r first n =
      omega (
        arith,
        times-all n p,
        times-all n (after_lease t (Now r) p),
        staying n,
        numbers-push n p.leased r,
        numbers-first (is_ready t) n r stay first,
      )

  pub now-count : (r : ChanRef) → first_ready t p ≡ Some r → length (opening_promises (after_lease t (Now r) p)) ≤ length (opening_promises p)
  now-count r first =
      omega (arith, count-all p, count-all (after_lease t (Now r) p), fewer, length-append p.leased (r ∷ []), fewer-first (is_ready t) r stay first)

  pub kept-now : (r : ChanRef) → first_ready t p ≡ Some r → IsPool p → IsPool (after_lease t (Now r) p)
  kept-now r first kept =
      kept-part p (after_lease t (Now r) p) refl (
        named-others (is_ready t) stay (named-stay kept),
        named-append p.leased (r ∷ []) kept.named.1 (named-first (is_ready t) r stay first (named-stay kept), tt),
      )
      (now-part r first) (now-count r first) kept

  pub full-part : (limit n : ℕ) → times n (opening_promises (after_lease t (Full limit) p)) ≤ times n (opening_promises p)
  full-part limit n = omega (arith, times-all n p, times-all n (after_lease t (Full limit) p), staying n)

  pub full-count : (limit : ℕ) → length (opening_promises (after_lease t (Full limit) p)) ≤ length (opening_promises p)
  full-count limit = omega (arith, count-all p, count-all (after_lease t (Full limit) p), fewer)

  pub kept-full : (limit : ℕ) → IsPool p → IsPool (after_lease t (Full limit) p)
  kept-full limit kept =
      kept-part p (after_lease t (Full limit) p) refl (named-stay kept, kept.named.1) (full-part limit) (full-count limit) kept

  pub opening-part : (m n : ℕ) → times n (opening_promises (after_lease t (Opening m) p)) ≤ times n (opening_promises p) + one n m
  opening-part m n =
      omega (arith, times-all n p, times-all n (after_lease t (Opening m) p), staying n, times-append n p.opening (m ∷ []), times-cons n m [])

  pub opening-count : (m : ℕ) → length (opening_promises (after_lease t (Opening m) p)) ≡ length stay + length p.leased + length p.opening + 1
  opening-count m = omega (arith, count-all (after_lease t (Opening m) p), length-append p.opening (m ∷ []))

  room-is : has_room t p ≡ true → length stay + length p.leased + length p.opening < p.limit
  room-is h = ltb-true (length stay + length p.leased + length p.opening) p.limit h

  pub kept-opening : (m : ℕ) → IsTrue (has_room t p) → above (opening_promises p) ≤ m → IsPool p → IsPool (after_lease t (Opening m) p)
  kept-opening m room fresh kept = record {
    named = (named-stay kept, kept.named.1);
    different = λ n. elim (cases_eq n m) [
      | inl e ↦ let none : times n (opening_promises p) ≡ 0 = not-there n (opening_promises p) (omega (arith, fresh, e)) in
          omega (arith, none, opening-part m n, one-few n m)
      | inr ne ↦ omega (arith, opening-part m n, one-other n m ne, kept.different n)
    ];
    few = omega (arith, opening-count m, room-is room);
  }

  -- each lease
  pub kept-lease : (h : Guarded) (pass : Pass) (l : Leased) → h.engine.talk ≡ t → IsLeased h pass p l → AreMade p t → IsPool p → IsPool (after_lease t l p)
  kept-lease h pass (Now r) is answer made kept = kept-now r (subst (λ (x : Talk). first_ready x p ≡ Some r) is answer) kept
  kept-lease h pass (Opening n) is answer made kept =
      kept-opening n (subst (λ (x : Talk). IsTrue (has_room x p)) is answer.0.1) (omega (arith, made, answer.2, ap (λ (x : Talk). x.made) is)) kept
  kept-lease h pass (Full limit) is answer made kept = kept-full limit kept

-- what is opened makes one promise more
pub one-more : (h : Guarded) (pass : Pass) (n : ℕ) → (hub_after_lease (Opening n) pass h).engine.talk.made ≡ h.engine.talk.made + 1
one-more h pass n = opens-one h.engine.talk

-- the session's next promise is never lower after a lease
pub hub-after : (l : Leased) (pass : Pass) (h : Guarded) → h.engine.talk.made ≤ (hub_after_lease l pass h).engine.talk.made
hub-after (Now r) pass h = omega arith
hub-after (Full limit) pass h = omega arith
hub-after (Opening n) pass h = omega (arith, one-more h pass n)

-- each promise of the pool is below it
pub made-lease : (h : Guarded) (pass : Pass) (p : Pooled) (l : Leased) → IsLeased h pass p l → AreMade p h.engine.talk
    → AreMade (after_lease h.engine.talk l p) (hub_after_lease l pass h).engine.talk
made-lease h pass p (Now r) answer made =
    omega (arith, made, above-part (opening_promises (after_lease h.engine.talk (Now r) p)) (opening_promises p) (now-part h.engine.talk p r answer))
made-lease h pass p (Full limit) answer made =
    omega (arith, made, above-part (opening_promises (after_lease h.engine.talk (Full limit) p)) (opening_promises p) (full-part h.engine.talk p limit))
made-lease h pass p (Opening m) answer made =
    above-least (hub_after_lease (Opening m) pass h).engine.talk.made (opening_promises (after_lease h.engine.talk (Opening m) p))
    (λ n there. elim (cases_eq n m) [
      | inl e ↦ omega (arith, e, answer.2, one-more h pass m)
      | inr ne ↦
          let old : n < above (opening_promises p) =
          under-above n (opening_promises p) (omega (arith, there, opening-part h.engine.talk p m n, one-other n m ne)) in
          omega (arith, old, made, one-more h pass m)
    ])

pub made-now : (t : Talk) (p : Pooled) (r : ChanRef) → first_ready t p ≡ Some r → AreMade p t → AreMade (after_lease t (Now r) p) t
made-now t p r first made =
    omega (arith, made, above-part (opening_promises (after_lease t (Now r) p)) (opening_promises p) (now-part t p r first))

pub made-full : (t : Talk) (p : Pooled) (m : ℕ) → AreMade p t → AreMade (after_lease t (Full m) p) t
made-full t p m made =
    omega (arith, made, above-part (opening_promises (after_lease t (Full m) p)) (opening_promises p) (full-part t p m))

-- ---- a collecting

brought-named : (t : Talk) (ns : List ℕ) → AreNamed (brought_by t ns)
brought-named t [] = tt
brought-named t (n ∷ ns) = named-append (channel_in n (answer_of n t)) (brought_by t ns) (by (answer_of n t)) (brought-named t ns) where
  by : (o : Option (Result Answer ErrorKind)) → AreNamed (channel_in n o)
  by None = tt
  by (Some (Err e)) = tt
  by (Some (Ok answer.Connected)) = tt
  by (Some (Ok (answer.Channel id opened))) = (refl, tt)
  by (Some (Ok answer.Done)) = tt
  by (Some (Ok answer.Sent)) = tt
  by (Some (Ok (answer.Flow active))) = tt

module _ (t : Talk) (k : ℕ) where
  -- a promise that is answered leaves the opening, with a channel or without one
  one-of : (n : ℕ) (o : Option (Result Answer ErrorKind)) → times k (numbers (channel_in n o)) ≤ one k n
  one-of n None = omega arith
  one-of n (Some (Err e)) = omega arith
  one-of n (Some (Ok answer.Connected)) = omega arith
  one-of n (Some (Ok (answer.Channel id opened))) = omega (arith, times-cons k n [])
  one-of n (Some (Ok answer.Done)) = omega arith
  one-of n (Some (Ok answer.Sent)) = omega arith
  one-of n (Some (Ok (answer.Flow active))) = omega arith

  none-brought : (n : ℕ) (o : Option (Result Answer ErrorKind)) → is_some o ≡ false → times k (numbers (channel_in n o)) ≡ 0
  none-brought n None h = omega arith
  none-brought n (Some a) h = absurd cc

  pub brought-part : (ns : List ℕ) → times k (numbers (brought_by t ns)) + times k (unanswered t ns) ≤ times k ns
  brought-part [] = omega arith
  brought-part (n ∷ ns) = by (has_answer t n) refl (brought-part ns) where
    by : (b : Bool) → has_answer t n ≡ b → times k (numbers (brought_by t ns)) + times k (unanswered t ns) ≤ times k ns
        → times k (numbers (channel_in n (answer_of n t) ++ brought_by t ns)) + times k (cond (not b) (n ∷ unanswered t ns) (unanswered t ns))
        ≤ times k (n ∷ ns)
    by true is rest =
        omega (arith, rest, numbers-append k (channel_in n (answer_of n t)) (brought_by t ns), one-of n (answer_of n t), times-cons k n ns)
    by false is rest =
        omega (
          arith,
          rest,
          numbers-append k (channel_in n (answer_of n t)) (brought_by t ns),
          none-brought n (answer_of n t) is,
          times-cons k n ns,
          times-cons k n (unanswered t ns),
        )

pub one-channel : (n : ℕ) (o : Option (Result Answer ErrorKind)) → length (channel_in n o) ≤ 1
one-channel n None = omega arith
one-channel n (Some (Err e)) = omega arith
one-channel n (Some (Ok answer.Connected)) = omega arith
one-channel n (Some (Ok (answer.Channel id opened))) = omega arith
one-channel n (Some (Ok answer.Done)) = omega arith
one-channel n (Some (Ok answer.Sent)) = omega arith
one-channel n (Some (Ok (answer.Flow active))) = omega arith

no-channel : (n : ℕ) (o : Option (Result Answer ErrorKind)) → is_some o ≡ false → length (channel_in n o) ≡ 0
no-channel n None h = omega arith
no-channel n (Some a) h = absurd cc

pub brought-count : (t : Talk) (ns : List ℕ) → length (brought_by t ns) + length (unanswered t ns) ≤ length ns
brought-count t [] = omega arith
brought-count t (n ∷ ns) = by (has_answer t n) refl (brought-count t ns) where
  by : (b : Bool) → has_answer t n ≡ b → length (brought_by t ns) + length (unanswered t ns) ≤ length ns
      → length (channel_in n (answer_of n t) ++ brought_by t ns) + length (cond (not b) (n ∷ unanswered t ns) (unanswered t ns)) ≤ suc (length ns)
  by true is rest = omega (arith, rest, length-append (channel_in n (answer_of n t)) (brought_by t ns), one-channel n (answer_of n t))
  by false is rest = omega (arith, rest, length-append (channel_in n (answer_of n t)) (brought_by t ns), no-channel n (answer_of n t) is)

pub collect-part : (t : Talk) (p : Pooled) (n : ℕ) → times n (opening_promises (collected t p)) ≤ times n (opening_promises p)
collect-part t p n =
    omega (arith, times-all n p, times-all n (collected t p), numbers-append n p.idle (brought_by t p.opening), brought-part t n p.opening)

pub collect-count : (t : Talk) (p : Pooled) → length (opening_promises (collected t p)) ≤ length (opening_promises p)
collect-count t p =
    omega (arith, count-all p, count-all (collected t p), length-append p.idle (brought_by t p.opening), brought-count t p.opening)

pub kept-collected : (t : Talk) (p : Pooled) → IsPool p → IsPool (collected t p)
kept-collected t p kept =
    kept-part p (collected t p) refl (named-append p.idle (brought_by t p.opening) kept.named.0 (brought-named t p.opening), kept.named.1)
    (collect-part t p) (collect-count t p) kept

pub made-collected : (t t' : Talk) (p : Pooled) → t.made ≤ t'.made → AreMade p t → AreMade (collected t p) t'
made-collected t t' p grown made =
    omega (arith, grown, made, above-part (opening_promises (collected t p)) (opening_promises p) (collect-part t p))

-- ---- what is given back

-- the channel that is leased is found by its name
pub leased-first : (r : ChanRef) (p : Pooled) → is_leased r p ≡ true → find (is_same_channel r) p.leased ≡ Some r
leased-first r p h = by (find (is_same_channel r) p.leased) refl h where
  by : (o : Option ChanRef) → find (is_same_channel r) p.leased ≡ o → is_some o ≡ true → o ≡ Some r
  by None is there = absurd cc
  by (Some s) is there = ap Some (sym (same-is r s (first-passes (is_same_channel r) s p.leased is)))

module _ (r : ChanRef) (p : Pooled) (there : is_leased r p ≡ true) where
  pub lost-part : (n : ℕ) → times n (opening_promises (after_back Lost r p)) + one n (opened_by r) ≡ times n (opening_promises p)
  lost-part n =
      omega (arith, times-all n p, times-all n (after_back Lost r p), numbers-first (is_same_channel r) n r p.leased (leased-first r p there))

  pub lost-count : length (opening_promises (after_back Lost r p)) ≤ length (opening_promises p)
  lost-count =
      omega (arith, count-all p, count-all (after_back Lost r p), fewer-first (is_same_channel r) r p.leased (leased-first r p there))

  pub back-part : (n : ℕ) → times n (opening_promises (after_back Kept r p)) ≤ times n (opening_promises p)
  back-part n =
      omega (
        arith,
        times-all n p,
        times-all n (after_back Kept r p),
        numbers-push n p.idle r,
        numbers-first (is_same_channel r) n r p.leased (leased-first r p there),
      )

  pub back-count : length (opening_promises (after_back Kept r p)) ≤ length (opening_promises p)
  back-count =
      omega (
        arith,
        count-all p,
        count-all (after_back Kept r p),
        length-append p.idle (r ∷ []),
        fewer-first (is_same_channel r) r p.leased (leased-first r p there),
      )

  pub kept-lost : IsPool p → IsPool (after_back Lost r p)
  kept-lost kept =
      kept-part p (after_back Lost r p) refl (kept.named.0, named-others (is_same_channel r) p.leased kept.named.1)
      (λ n. omega (arith, lost-part n)) lost-count kept

  pub kept-back : IsPool p → IsPool (after_back Kept r p)
  kept-back kept =
      kept-part p (after_back Kept r p) refl (
        named-append p.idle (r ∷ []) kept.named.0 (named-first (is_same_channel r) r p.leased (leased-first r p there) kept.named.1, tt),
        named-others (is_same_channel r) p.leased kept.named.1,
      )
      back-part back-count kept

-- each return
pub back-any : (t : Talk) (r : ChanRef) (p : Pooled) (b : Back) → IsBack t r p b → (n : ℕ)
    → times n (opening_promises (after_back b r p)) ≤ times n (opening_promises p)
back-any t r p (Foreign s) answer n = omega arith
back-any t r p Lost answer n = omega (arith, lost-part r p answer.0 n)
back-any t r p Kept answer n = back-part r p answer.0 n

pub kept-any : (t : Talk) (r : ChanRef) (p : Pooled) (b : Back) → IsBack t r p b → IsPool p → IsPool (after_back b r p)
kept-any t r p (Foreign s) answer kept = kept
kept-any t r p Lost answer kept = kept-lost r p answer.0 kept
kept-any t r p Kept answer kept = kept-back r p answer.0 kept

pub made-back : (t : Talk) (r : ChanRef) (p : Pooled) (b : Back) → IsBack t r p b → AreMade p t → AreMade (after_back b r p) t
made-back t r p b answer made =
    omega (arith, made, above-part (opening_promises (after_back b r p)) (opening_promises p) (back-any t r p b answer))
