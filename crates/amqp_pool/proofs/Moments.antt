-- What holds over any calls of a pool and of its hub.
use Rattle.std.proofs.Common.{◌≡◌, ◌≢◌, ◌∙◌, ◌+◌, ◌≤◌, ◌<◌, ap, sym, refl, subst, ℕ, zero, suc, Bool, true, false, cond, not, List, [], ◌∷◌, ◌++◌, length, Option, Some, None, Result, Ok, Err, inl, inr, arith}
use Rattle.std.specs.Prelude.{filter, find, nat_eq, Contains, slice_index_or, IsTrue, is_some, ⊤}
use Rattle.std.specs.List.{AllByRecursion}
use Rattle.std.proofs.lemmas.Bool.{cases_eq}
use Rattle.amqp_outbox.specs.Lists.{without_first}
use Rattle.amqp_promise.specs.declared.error.ErrorKind.{ErrorKind}
use Rattle.amqp_promise.specs.declared.state.ChannelState.TheVariants.{Connected}
use Rattle.amqp_commands.specs.declared.command.ChanRef.{ChanRef}
use Rattle.amqp_rules.specs.Queries.{channel_state}
use Rattle.amqp_rules.specs.Talk.{Talk}
use Rattle.amqp_hub.specs.declared.hub.Pass.{Pass}
use Rattle.amqp_hub.specs.Guarded.{Guarded}
use Rattle.amqp_pool.specs.declared.lease.Leased.{Leased}
use Rattle.amqp_pool.specs.declared.lease.Leased.TheVariants.{Now, Opening, Full}
use Rattle.amqp_pool.specs.declared.lease.Back.{Back}
use Rattle.amqp_pool.specs.declared.lease.Back.TheVariants.{Kept, Lost, Foreign}
use Rattle.amqp_pool.specs.Lost.{is_lost, is_ready, without_lost}
use Rattle.amqp_pool.specs.Pooled.{Pooled, empty_pool, opening_promises, opened_by, times, above, AreDifferent, IsPool, AreMade}
use Rattle.amqp_pool.specs.Leasing.{first_ready, IsLeased, after_lease, hub_after_lease, IsBack, after_back}
use Rattle.amqp_pool.specs.Collecting.{collected}
use Rattle.amqp_pool.specs.Moments.{PoolCall, Lease, Collect, GiveBack, OfHub, Makes, Moment, FollowEachOther, handed_out_by, found_lost}
use Rattle.amqp_pool.proofs.Counts.{one, times-cons, times-append, one-same, one-other, under-above}
use Rattle.amqp_pool.proofs.Channels.{numbers, numbers-both, numbers-filter, numbers-first, numbers-push, first-passes, ready-state}
use Rattle.amqp_pool.proofs.Keeping.{times-all, kept-empty, kept-lease, made-lease, hub-after, one-more, kept-collected, made-collected, collect-part, kept-any, made-back, back-any, lost-part, opening-part, now-part, full-part}

-- ---- one call

-- what is kept beside the limit
pub record IsGood (limit : ℕ) (p : Pooled) (h : Guarded) : Type 0 where
  pub limited : p.limit ≡ limit
  pub pool : IsPool p
  pub made : AreMade p h.engine.talk

lease-limit : (t : Talk) (l : Leased) (p : Pooled) → (after_lease t l p).limit ≡ p.limit
lease-limit t (Now r) p = refl
lease-limit t (Opening n) p = refl
lease-limit t (Full m) p = refl

back-limit : (b : Back) (r : ChanRef) (p : Pooled) → (after_back b r p).limit ≡ p.limit
back-limit Kept r p = refl
back-limit Lost r p = refl
back-limit (Foreign s) r p = refl

good-by : (limit : ℕ) (p p' : Pooled) (h h' : Guarded) → p' ≡ p → h' ≡ h → IsGood limit p h → IsGood limit p' h'
good-by limit p p' h h' hp hh good =
    subst (λ (x : Pooled). IsGood limit x h') (sym hp) (subst (λ (x : Guarded). IsGood limit p x) (sym hh) good)

pub good-call : (limit : ℕ) (c : PoolCall) (p p' : Pooled) (h h' : Guarded) → Makes c p h p' h' → IsGood limit p h → IsGood limit p' h'
good-call limit (Lease pass (Ok l)) p p' h h' makes good =
    good-by limit (after_lease h.engine.talk l p) p' (hub_after_lease l pass h) h' makes.1 makes.2 (record {
      limited = lease-limit h.engine.talk l p ∙ good.limited;
      pool = kept-lease h.engine.talk p h pass l refl makes.0 good.made good.pool;
      made = made-lease h pass p l makes.0 good.made;
    })
good-call limit (Lease pass (Err e)) p p' h h' makes good = good-by limit p p' h h' makes.0 makes.1 good
good-call limit Collect p p' h h' makes good =
    good-by limit (collected h.engine.talk p) p' h' h' makes.0 refl (record {
      limited = good.limited;
      pool = kept-collected h.engine.talk p good.pool;
      made = made-collected h.engine.talk h'.engine.talk p makes.1 good.made;
    })
good-call limit (GiveBack r back) p p' h h' makes good =
    good-by limit (after_back back r p) p' h h' makes.1 makes.2 (record {
      limited = back-limit back r p ∙ good.limited;
      pool = kept-any h.engine.talk r p back makes.0 good.pool;
      made = made-back h.engine.talk r p back makes.0 good.made;
    })
good-call limit OfHub p p' h h' makes good =
    good-by limit p p' h' h' makes.0 refl (record { limited = good.limited; pool = good.pool; made = omega (arith, good.made, makes.1) })

-- ---- any calls

module _ (limit : ℕ) where
  -- what is kept holds before and after each
  abbrev pub IsGoodAt : Moment → Type 0
  IsGoodAt m = IsGood limit m.pool m.hub × Makes m.call m.pool m.hub m.next_pool m.next_hub × IsGood limit m.next_pool m.next_hub

  pub all-good : (p : Pooled) (h : Guarded) (ms : List Moment) → FollowEachOther p h ms → IsGood limit p h → AllByRecursion IsGoodAt ms
  all-good p h [] follow good = tt
  all-good p h (m ∷ ms) follow good =
      let before : IsGood limit m.pool m.hub = good-by limit p m.pool h m.hub follow.0 follow.1 good in
      let after : IsGood limit m.next_pool m.next_hub = good-call limit m.call m.pool m.next_pool m.hub m.next_hub follow.2 before in
      ((before, follow.2, after), all-good m.next_pool m.next_hub ms follow.3 after)

  pub good-new : (h : Guarded) → IsGood limit (empty_pool limit) h
  good-new h = record { limited = refl; pool = kept-empty limit; made = omega arith }

-- what follows from it at each moment holds of all
pub all-by : {P Q : Moment → Type 0} → ((m : Moment) → P m → Q m) → (ms : List Moment) → AllByRecursion P ms → AllByRecursion Q ms
all-by f [] all = tt
all-by f (m ∷ ms) all = (f m all.0, all-by f ms all.1)

-- ---- what is handed out is open

pub open-call : (c : PoolCall) (p p' : Pooled) (h h' : Guarded) → Makes c p h p' h'
    → AllByRecursion (λ r. channel_state r h.engine.talk ≡ Connected) (handed_out_by c)
open-call (Lease pass (Ok (Now r))) p p' h h' makes =
    (ready-state h.engine.talk r (first-passes (is_ready h.engine.talk) r (without_lost h.engine.talk p.idle) makes.0), tt)
open-call (Lease pass (Ok (Opening n))) p p' h h' makes = tt
open-call (Lease pass (Ok (Full m))) p p' h h' makes = tt
open-call (Lease pass (Err e)) p p' h h' makes = tt
open-call Collect p p' h h' makes = tt
open-call (GiveBack r back) p p' h h' makes = tt
open-call OfHub p p' h h' makes = tt

-- ---- what was found lost

-- a promise is in no list of a pool, and will be in none, since it was made
pub record IsGone (k : ℕ) (p : Pooled) (h : Guarded) : Type 0 where
  pub none : times k (opening_promises p) ≡ 0
  pub before : k < h.engine.talk.made

gone-by : (k : ℕ) (p p' : Pooled) (h h' : Guarded) → p' ≡ p → h' ≡ h → IsGone k p h → IsGone k p' h'
gone-by k p p' h h' hp hh gone =
    subst (λ (x : Pooled). IsGone k x h') (sym hp) (subst (λ (x : Guarded). IsGone k p x) (sym hh) gone)

pub gone-lease : (k : ℕ) (l : Leased) (pass : Pass) (p : Pooled) (h : Guarded) → IsLeased h pass p l → IsGone k p h
    → IsGone k (after_lease h.engine.talk l p) (hub_after_lease l pass h)
gone-lease k (Now r) pass p h answer gone =
    record { none = omega (arith, gone.none, now-part h.engine.talk p r answer k); before = gone.before }
gone-lease k (Full m) pass p h answer gone =
    record { none = omega (arith, gone.none, full-part h.engine.talk p m k); before = gone.before }
gone-lease k (Opening n) pass p h answer gone = record {
  none = omega (arith, gone.none, opening-part h.engine.talk p n k, one-other k n (λ e. absurd (omega (arith, e, gone.before, answer.2))));
  before = omega (arith, gone.before, one-more h pass n);
}

pub gone-call : (k : ℕ) (c : PoolCall) (p p' : Pooled) (h h' : Guarded) → Makes c p h p' h' → IsGone k p h → IsGone k p' h'
gone-call k (Lease pass (Ok l)) p p' h h' makes gone =
    gone-by k (after_lease h.engine.talk l p) p' (hub_after_lease l pass h) h' makes.1 makes.2 (gone-lease k l pass p h makes.0 gone)
gone-call k (Lease pass (Err e)) p p' h h' makes gone = gone-by k p p' h h' makes.0 makes.1 gone
gone-call k Collect p p' h h' makes gone =
    gone-by k (collected h.engine.talk p) p' h' h' makes.0 refl
    (record { none = omega (arith, gone.none, collect-part h.engine.talk p k); before = omega (arith, gone.before, makes.1) })
gone-call k (GiveBack r back) p p' h h' makes gone =
    gone-by k (after_back back r p) p' h h' makes.1 makes.2
    (record { none = omega (arith, gone.none, back-any h.engine.talk r p back makes.0 k); before = gone.before })
gone-call k OfHub p p' h h' makes gone =
    gone-by k p p' h' h' makes.0 refl (record { none = gone.none; before = omega (arith, gone.before, makes.1) })

-- a channel that is handed out is not gone
handed-there : (r : ChanRef) (c : PoolCall) (p p' : Pooled) (h h' : Guarded) → Makes c p h p' h' → IsGone (opened_by r) p h
    → AllByRecursion (λ s. s ≢ r) (handed_out_by c)
handed-there r (Lease pass (Ok (Now s))) p p' h h' makes gone = (differs, tt) where
  stay : List ChanRef
  stay = without_lost h.engine.talk p.idle

  differs : s ≢ r
  differs e =
      let first : times (opened_by r) (numbers stay) ≡ one (opened_by r) (opened_by s) + times (opened_by r) (numbers (without_first (is_ready h.engine.talk) stay)) =
      numbers-first (is_ready h.engine.talk) (opened_by r) s stay makes.0 in
      let fewer : times (opened_by r) (numbers stay) ≤ times (opened_by r) (numbers p.idle) =
      numbers-filter (λ x. not (is_lost h.engine.talk x)) (opened_by r) p.idle in
      absurd (omega (arith, gone.none, times-all (opened_by r) p, first, fewer, one-same (opened_by r) (opened_by s) (ap opened_by (sym e))))
handed-there r (Lease pass (Ok (Opening n))) p p' h h' makes gone = tt
handed-there r (Lease pass (Ok (Full m))) p p' h h' makes gone = tt
handed-there r (Lease pass (Err e)) p p' h h' makes gone = tt
handed-there r Collect p p' h h' makes gone = tt
handed-there r (GiveBack s back) p p' h h' makes gone = tt
handed-there r OfHub p p' h h' makes gone = tt

-- ---- the call that finds a channel lost

-- what a list contains stands in it
pub contained : (r : ChanRef) (rs : List ChanRef) → Contains rs r → 1 ≤ times (opened_by r) (numbers rs)
contained r [] c = absurd (omega (arith, c.1))
contained r (s ∷ rs) c = by (contained r rs) c.0 c.1 c.2 where
  by : (Contains rs r → 1 ≤ times (opened_by r) (numbers rs)) → (k : ℕ) → k < suc (length rs) → slice_index_or (s ∷ rs) k r ≡ r
      → 1 ≤ times (opened_by r) (numbers (s ∷ rs))
  by rest zero under is = omega (arith, times-cons (opened_by r) (opened_by s) (numbers rs), one-same (opened_by r) (opened_by s) (ap opened_by (sym is)))
  by rest (suc k) under is =
      let later : 1 ≤ times (opened_by r) (numbers rs) = rest (k, omega (arith, under), is) in
      omega (arith, later, times-cons (opened_by r) (opened_by s) (numbers rs))

one-contained : (r s : ChanRef) → Contains (s ∷ []) r → s ≡ r
one-contained r s c = by c.0 c.1 c.2 where
  by : (k : ℕ) → k < 1 → slice_index_or (s ∷ []) k r ≡ r → s ≡ r
  by zero under is = is
  by (suc k) under is = absurd (omega (arith, under))

-- idle channels that are lost are not among those that stay, nor in the other lists
lost-idle : (t : Talk) (p : Pooled) (k : ℕ) → IsPool p → 1 ≤ times k (numbers (filter (is_lost t) p.idle))
    → (times k (numbers (without_lost t p.idle)) + times k (numbers p.leased) + times k p.opening ≡ 0) × (1 ≤ times k (opening_promises p))
lost-idle t p k kept there = (
  omega (arith, there, numbers-both (is_lost t) k p.idle, times-all k p, kept.different k),
  omega (arith, there, numbers-both (is_lost t) k p.idle, times-all k p),
)

module _ (limit : ℕ) (r : ChanRef) (p : Pooled) (h : Guarded) (good : IsGood limit p h) where
  -- its promise was made, and is that of no channel that stays
  lost-here : Contains (filter (is_lost h.engine.talk) p.idle) r
      → (times (opened_by r) (numbers (without_lost h.engine.talk p.idle)) + times (opened_by r) (numbers p.leased) + times (opened_by r) p.opening ≡ 0)
      × (opened_by r < h.engine.talk.made)
  lost-here there =
      let found = lost-idle h.engine.talk p (opened_by r) good.pool (contained r (filter (is_lost h.engine.talk) p.idle) there) in
      let under : opened_by r < above (opening_promises p) = under-above (opened_by r) (opening_promises p) found.1 in
      (found.0, omega (arith, under, good.made))

  found-lease : (l : Leased) (pass : Pass) → IsLeased h pass p l → Contains (filter (is_lost h.engine.talk) p.idle) r
      → IsGone (opened_by r) (after_lease h.engine.talk l p) (hub_after_lease l pass h)
  found-lease (Now s) pass answer there =
      let here = lost-here there in
      record {
        none =
            omega (
              arith,
              here.0,
              times-all (opened_by r) (after_lease h.engine.talk (Now s) p),
              numbers-push (opened_by r) p.leased s,
              numbers-first (is_ready h.engine.talk) (opened_by r) s (without_lost h.engine.talk p.idle) answer,
            );
        before = here.1;
      }
  found-lease (Full m) pass answer there =
      let here = lost-here there in
      record { none = omega (arith, here.0, times-all (opened_by r) (after_lease h.engine.talk (Full m) p)); before = here.1 }
  found-lease (Opening n) pass answer there =
      let here = lost-here there in
      record {
        none =
            omega (
              arith,
              here.0,
              times-all (opened_by r) (after_lease h.engine.talk (Opening n) p),
              times-append (opened_by r) p.opening (n ∷ []),
              times-cons (opened_by r) n [],
              one-other (opened_by r) n (λ e. absurd (omega (arith, e, here.1, answer.2))),
            );
        before = omega (arith, here.1, one-more h pass n);
      }

  -- a channel that is given back lost is in no list
  found-back : IsBack h.engine.talk r p Lost → IsGone (opened_by r) (after_back Lost r p) h
  found-back answer =
      let part : times (opened_by r) (opening_promises (after_back Lost r p)) + one (opened_by r) (opened_by r) ≡ times (opened_by r) (opening_promises p) =
      lost-part r p answer.0 (opened_by r) in
      let there : 1 ≤ times (opened_by r) (opening_promises p) = omega (arith, part, one-same (opened_by r) (opened_by r) refl) in
      let under : opened_by r < above (opening_promises p) = under-above (opened_by r) (opening_promises p) there in
      record {
        none = omega (arith, part, one-same (opened_by r) (opened_by r) refl, good.pool.different (opened_by r));
        before = omega (arith, under, good.made);
      }

  pub found-gone : (c : PoolCall) (p' : Pooled) (h' : Guarded) → Makes c p h p' h' → Contains (found_lost c h.engine.talk p) r → IsGone (opened_by r) p' h'
  found-gone (Lease pass (Ok l)) p' h' makes there =
      gone-by (opened_by r) (after_lease h.engine.talk l p) p' (hub_after_lease l pass h) h' makes.1 makes.2 (found-lease l pass makes.0 there)
  found-gone (Lease pass (Err e)) p' h' makes there = absurd (omega (arith, there.1))
  found-gone Collect p' h' makes there = absurd (omega (arith, there.1))
  found-gone (GiveBack s Kept) p' h' makes there = absurd (omega (arith, there.1))
  found-gone (GiveBack s (Foreign x)) p' h' makes there = absurd (omega (arith, there.1))
  found-gone (GiveBack s Lost) p' h' makes there =
      let same : s ≡ r = one-contained r s there in
      let answer : IsBack h.engine.talk r p Lost = subst (λ (x : ChanRef). IsBack h.engine.talk x p Lost) same makes.0 in
      let leaves : p' ≡ after_back Lost r p = makes.1 ∙ ap (λ (x : ChanRef). after_back Lost x p) same in
      gone-by (opened_by r) (after_back Lost r p) p' h h' leaves makes.2 (found-back answer)
  found-gone OfHub p' h' makes there = absurd (omega (arith, there.1))

-- ---- from then on

-- after this call the promise is in no list, and the channel was not handed out
abbrev pub StaysAway : ChanRef → Moment → Type 0
StaysAway r m = (times (opened_by r) (opening_promises m.next_pool) ≡ 0) × AllByRecursion (λ s. s ≢ r) (handed_out_by m.call)

gone-all : (r : ChanRef) (p : Pooled) (h : Guarded) (ms : List Moment) → FollowEachOther p h ms → IsGone (opened_by r) p h
    → AllByRecursion (StaysAway r) ms
gone-all r p h [] follow gone = tt
gone-all r p h (m ∷ ms) follow gone =
    let before : IsGone (opened_by r) m.pool m.hub = gone-by (opened_by r) p m.pool h m.hub follow.0 follow.1 gone in
    let after : IsGone (opened_by r) m.next_pool m.next_hub = gone-call (opened_by r) m.call m.pool m.next_pool m.hub m.next_hub follow.2 before in
    ((after.none, handed-there r m.call m.pool m.next_pool m.hub m.next_hub follow.2 before), gone-all r m.next_pool m.next_hub ms follow.3 after)

pub found-later : (limit : ℕ) (r : ChanRef) (p : Pooled) (h : Guarded) (before : List Moment) (m : Moment) (later : List Moment)
    → FollowEachOther p h (before ++ m ∷ later) → IsGood limit p h → Contains (found_lost m.call m.hub.engine.talk m.pool) r
    → (times (opened_by r) (opening_promises m.next_pool) ≡ 0) × AllByRecursion (StaysAway r) later
found-later limit r p h [] m later follow good there =
    let here : IsGood limit m.pool m.hub = good-by limit p m.pool h m.hub follow.0 follow.1 good in
    let gone : IsGone (opened_by r) m.next_pool m.next_hub = found-gone limit r m.pool m.hub here m.call m.next_pool m.next_hub follow.2 there in
    (gone.none, gone-all r m.next_pool m.next_hub later follow.3 gone)
found-later limit r p h (b ∷ before) m later follow good there =
    let here : IsGood limit b.pool b.hub = good-by limit p b.pool h b.hub follow.0 follow.1 good in
    found-later limit r b.next_pool b.next_hub before m later follow.3
    (good-call limit b.call b.pool b.next_pool b.hub b.next_hub follow.2 here) there
