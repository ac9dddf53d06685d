-- What the code makes of the lists of a pool is what its contracts say.
use Rattle.std.proofs.Common.{◌≡◌, ◌∙◌, ◌+◌, ◌≤◌, ◌<◌, ap, sym, refl, subst, ℕ, suc, Bool, true, false, not, List, [], ◌∷◌, ◌++◌, length, map, Option, Some, None, arith, length-append}
use Rattle.std.specs.Prelude.{filter, find, IsTrue, IsFalse, is_some}
use Rattle.amqp_outbox.specs.Lists.{without_first}
use Rattle.amqp_commands.specs.declared.command.ChanRef.{ChanRef}
use Rattle.amqp_commands.specs.declared.command.Cmd.TheVariants.{OpenChannel}
use Rattle.amqp_rules.specs.Commands.{command}
use Rattle.amqp_rules.specs.Talk.{Talk}
use Rattle.amqp_pool.specs.declared.lease.Leased.TheVariants.{Now, Opening, Full}
use Rattle.amqp_pool.specs.declared.lease.Back.TheVariants.{Kept, Lost}
use Rattle.amqp_pool.specs.Lost.{is_lost, is_ready, without_lost}
use Rattle.amqp_pool.specs.Looking.{stays_idle}
use Rattle.amqp_pool.specs.Pooled.{Pooled, pooled, is_same_channel, opened_by, opening_promises, times, above, IsPool, HavePlaces, AreMade}
use Rattle.amqp_pool.specs.Leasing.{first_ready, has_room, AsksForOne, after_lease, is_leased, after_back}
use Rattle.amqp_pool.specs.Collecting.{brought_by, unanswered, collected}
use Rattle.amqp_pool.proofs.Counts.{under-above}
use Rattle.amqp_pool.proofs.Channels.{numbers, fewer-filter, fewer-first, stay-others, stay-none}
use Rattle.amqp_pool.proofs.Openings.{opening-lost}
use Rattle.amqp_pool.proofs.Keeping.{times-all, count-all, now-count, kept-now, full-count, kept-full, opening-count, kept-opening, collect-count, kept-collected, lost-count, kept-lost, back-count, kept-back}

-- the lists are what they are said to be, and what is kept of a pool holds of them
pub record Becomes (new after : Pooled) (idle_places leased_places : ℕ) : Type 0 where
  pub is : new ≡ after
  pub kept : IsPool new
  pub places : HavePlaces new idle_places leased_places

by-length : (new after : Pooled) (idle_places leased_places : ℕ) → new ≡ after → IsPool after → length (opening_promises after) ≤ idle_places
    → length (opening_promises after) ≤ leased_places → Becomes new after idle_places leased_places
by-length new after idle_places leased_places is kept here there = record {
  is = is;
  kept = subst IsPool (sym is) kept;
  places = subst (λ (x : Pooled). HavePlaces x idle_places leased_places) (sym is) (here, there);
}

module _ (t : Talk) (limit : ℕ) (idle leased : List ChanRef) (opening : List ℕ) (idle_places leased_places : ℕ) where
  abbrev pub at_first : Pooled
  at_first = pooled limit idle leased opening

  module _ (kept : IsPool (pooled limit idle leased opening)) (places : HavePlaces (pooled limit idle leased opening) idle_places leased_places) where
    pub now-step : (r : ChanRef) (idle' leased' : List ChanRef) (i l : ℕ) → find (is_ready t) (without_lost t idle) ≡ Some r
        → idle' ≡ filter (stays_idle t (Some r)) idle → leased' ≡ leased ++ r ∷ [] → i ≡ idle_places → l ≡ leased_places
        → Becomes (pooled limit idle' leased' opening) (after_lease t (Now r) (pooled limit idle leased opening)) i l
    now-step r idle' leased' i l first hi hl pi pl =
        let few : times (opened_by r) (numbers idle) ≤ 1 =
        omega (arith, kept.different (opened_by r), times-all (opened_by r) (pooled limit idle leased opening)) in
        let others : idle' ≡ without_first (is_ready t) (without_lost t idle) = hi ∙ stay-others t r idle few first in
        let fewer : length (opening_promises (after_lease t (Now r) (pooled limit idle leased opening))) ≤ length (opening_promises (pooled limit idle leased opening)) =
        now-count t (pooled limit idle leased opening) r first in
        by-length (pooled limit idle' leased' opening) (after_lease t (Now r) (pooled limit idle leased opening)) i l
        (λ k. pooled limit (others k) (hl k) opening)
        (kept-now t (pooled limit idle leased opening) r first kept) (omega (arith, fewer, places.0, pi)) (omega (arith, fewer, places.1, pl))

    -- there is a place for the one that is leased
    pub now-place : (r : ChanRef) → find (is_ready t) (without_lost t idle) ≡ Some r → length leased < leased_places
    now-place r first =
        omega (
          arith,
          places.1,
          count-all (pooled limit idle leased opening),
          fewer-first (is_ready t) r (without_lost t idle) first,
          fewer-filter (λ x. not (is_lost t x)) idle,
        )

    pub full-step : (m : ℕ) (idle' : List ChanRef) (i : ℕ) → idle' ≡ filter (stays_idle t None) idle → i ≡ idle_places
        → Becomes (pooled limit idle' leased opening) (after_lease t (Full m) (pooled limit idle leased opening)) i leased_places
    full-step m idle' i hi pi =
        let others : idle' ≡ without_lost t idle = hi ∙ stay-none t idle in
        let fewer : length (opening_promises (after_lease t (Full m) (pooled limit idle leased opening))) ≤ length (opening_promises (pooled limit idle leased opening)) =
        full-count t (pooled limit idle leased opening) m in
        by-length (pooled limit idle' leased opening) (after_lease t (Full m) (pooled limit idle leased opening)) i leased_places
        (λ k. pooled limit (others k) leased opening)
        (kept-full t (pooled limit idle leased opening) m kept) (omega (arith, fewer, places.0, pi)) (omega (arith, fewer, places.1))

    -- a promise that stands in the pool was made
    made-before : AreMade (pooled limit idle leased opening) t → (n : ℕ) → 1 ≤ times n (numbers idle) → n < t.made
    made-before made n there =
        let under : n < above (opening_promises (pooled limit idle leased opening)) =
        under-above n (opening_promises (pooled limit idle leased opening)) (omega (arith, there, times-all n (pooled limit idle leased opening))) in
        omega (arith, under, made)

    pub opening-step : (t' : Talk) (n : ℕ) (idle' leased' : List ChanRef) (opening' : List ℕ) (i l : ℕ) → t' ≡ command OpenChannel t
        → AreMade (pooled limit idle leased opening) t → IsTrue (has_room t (pooled limit idle leased opening)) → n ≡ t.made
        → idle' ≡ filter (stays_idle t' None) idle → leased' ≡ leased → opening' ≡ opening ++ n ∷ []
        → length idle + length leased + length opening + 1 ≤ i → length idle + length leased + length opening + 1 ≤ l
        → Becomes (pooled limit idle' leased' opening') (after_lease t (Opening n) (pooled limit idle leased opening)) i l
    opening-step t' n idle' leased' opening' i l told made room next hi hl ho pi pl =
        let others : idle' ≡ without_lost t idle =
        hi ∙ stay-none t' idle ∙ ap (λ (x : Talk). without_lost x idle) told ∙ opening-lost t idle kept.named.0 (made-before made) in
        let fewer : length (without_lost t idle) ≤ length idle = fewer-filter (λ x. not (is_lost t x)) idle in
        let count = opening-count t (pooled limit idle leased opening) n in
        by-length (pooled limit idle' leased' opening') (after_lease t (Opening n) (pooled limit idle leased opening)) i l
        (λ k. pooled limit (others k) (hl k) (ho k))
        (kept-opening t (pooled limit idle leased opening) n room (omega (arith, made, next)) kept)
        (omega (arith, fewer, count, pi)) (omega (arith, fewer, count, pl))

    pub collect-step : (idle' : List ChanRef) (opening' : List ℕ) (i : ℕ) → idle' ≡ idle ++ brought_by t opening → opening' ≡ unanswered t opening
        → i ≡ idle_places → Becomes (pooled limit idle' leased opening') (collected t (pooled limit idle leased opening)) i leased_places
    collect-step idle' opening' i hi ho pi =
        let fewer : length (opening_promises (collected t (pooled limit idle leased opening))) ≤ length (opening_promises (pooled limit idle leased opening)) =
        collect-count t (pooled limit idle leased opening) in
        by-length (pooled limit idle' leased opening') (collected t (pooled limit idle leased opening)) i leased_places
        (λ k. pooled limit (hi k) leased (ho k))
        (kept-collected t (pooled limit idle leased opening) kept) (omega (arith, fewer, places.0, pi)) (omega (arith, fewer, places.1))

    -- there are places for what is opened, and what is opening is different
    pub collect-place : length idle + length opening ≤ idle_places
    collect-place = omega (arith, places.0, count-all (pooled limit idle leased opening))

    pub opening-different : (n : ℕ) → times n opening ≤ 1
    opening-different n = omega (arith, kept.different n, times-all n (pooled limit idle leased opening))

    pub lost-step : (r : ChanRef) (leased' : List ChanRef) (l : ℕ) → is_leased r (pooled limit idle leased opening) ≡ true
        → leased' ≡ without_first (is_same_channel r) leased → l ≡ leased_places
        → Becomes (pooled limit idle leased' opening) (after_back Lost r (pooled limit idle leased opening)) idle_places l
    lost-step r leased' l there hl pl =
        let fewer : length (opening_promises (after_back Lost r (pooled limit idle leased opening))) ≤ length (opening_promises (pooled limit idle leased opening)) =
        lost-count r (pooled limit idle leased opening) there in
        by-length (pooled limit idle leased' opening) (after_back Lost r (pooled limit idle leased opening)) idle_places l
        (λ k. pooled limit idle (hl k) opening)
        (kept-lost r (pooled limit idle leased opening) there kept) (omega (arith, fewer, places.0)) (omega (arith, fewer, places.1, pl))

    pub kept-step : (r : ChanRef) (idle' leased' : List ChanRef) (i l : ℕ) → is_leased r (pooled limit idle leased opening) ≡ true
        → idle' ≡ idle ++ r ∷ [] → leased' ≡ without_first (is_same_channel r) leased → i ≡ idle_places → l ≡ leased_places
        → Becomes (pooled limit idle' leased' opening) (after_back Kept r (pooled limit idle leased opening)) i l
    kept-step r idle' leased' i l there hi hl pi pl =
        let fewer : length (opening_promises (after_back Kept r (pooled limit idle leased opening))) ≤ length (opening_promises (pooled limit idle leased opening)) =
        back-count r (pooled limit idle leased opening) there in
        by-length (pooled limit idle' leased' opening) (after_back Kept r (pooled limit idle leased opening)) i l
        (λ k. pooled limit (hi k) (hl k) opening)
        (kept-back r (pooled limit idle leased opening) there kept) (omega (arith, fewer, places.0, pi)) (omega (arith, fewer, places.1, pl))

    -- there is a place for the one that goes back
    pub kept-place : 1 ≤ length leased → length idle < idle_places
    kept-place some = omega (arith, some, places.0, count-all (pooled limit idle leased opening))
