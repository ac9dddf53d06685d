-- A turn after the marks that were found.
use Rattle.std.proofs.Common.{◌≡◌, ◌⊎◌, inl, inr, ◌≤◌, ◌++◌, length, ℕ, zero, suc, Bool, true, false, if◌then◌else◌, List, [], ◌∷◌, drop, slice_get, Option, Some, None, Result, Ok, Err, OnOk, OnErr, refl, ap, sym, subst, ◌∙◌, arith}
use Rattle.amqp_auth.specs.Providers.{Exchange}
use Rattle.amqp_engine.specs.declared.port.Step.{Step}
use Rattle.amqp_engine.specs.Engine.{Engine}
use Rattle.amqp_engine.specs.Log.{Log}
use Rattle.amqp_journal.proofs.Journal.{told-grown}
use Rattle.amqp_hub.specs.declared.due.Owner.{Owner}
use Rattle.amqp_hub.specs.declared.due.Owner.TheVariants as owner
use Rattle.amqp_hub.specs.declared.due.Due.{Due}
use Rattle.amqp_hub.specs.declared.marks.Mark.{Mark}
use Rattle.amqp_hub.specs.declared.due.Due.TheVariants.{Now, Later, Never}
use Rattle.amqp_hub.specs.Guarded.{Guarded}
use Rattle.amqp_hub.specs.Due.{due_of}
use Rattle.amqp_hub.specs.Entering.{TakesStep, starved_at}
use Rattle.amqp_hub.specs.Owning.{done}
use Rattle.amqp_locked.specs.UnderLock.{UnderLock, under_lock, PutOff, with_hub, with_late}
use Rattle.amqp_locked.specs.Looking.{sorted, freed, found_at, finds, may_be_found, released_first, released_times, released, acted, looked_from}
use Rattle.amqp_locked.specs.Turning.{looked, noticed, Counted, TurnsAfterMarks, StarvesAfterMarks}

-- ---- what looking at marks leaves

sorted-hub : (at : ℕ) (spent : Bool) (sent : ℕ) (o : Owner) (l : UnderLock) → (sorted at spent sent o l).hub ≡ l.hub
sorted-hub at true sent (owner.Answer n) l = refl
sorted-hub at false sent (owner.Answer n) l = refl
sorted-hub at true sent owner.Connection l = refl
sorted-hub at false sent owner.Connection l = refl
sorted-hub at true sent (owner.Channel n) l = refl
sorted-hub at false sent (owner.Channel n) l = refl

found-hub : (at i : ℕ) (m : Mark) (place : Option (Option Owner)) (l : UnderLock) → (found_at at i m place l).hub ≡ l.hub
found-hub at i m (Some (Some o)) l = sorted-hub at m.spent m.sent o (freed i l)
found-hub at i m (Some None) l = refl
found-hub at i m None l = refl

finds-hub : (at : ℕ) (xs : List (ℕ × Mark)) (l : UnderLock) → (finds at xs l).hub ≡ l.hub
finds-hub at [] l = refl
finds-hub at (x ∷ xs) l = finds-hub at xs (found_at at x.0 x.1 (slice_get l.places x.0) l) ∙ found-hub at x.0 x.1 (slice_get l.places x.0) l

first-hub : (at : ℕ) (ms : List PutOff) (l : UnderLock) → (released_first at ms l).hub ≡ l.hub
first-hub at [] l = refl
first-hub at (m ∷ ms) l = by (may_be_found at l.hub.engine.talk.state l.watch.cleared l.watch.limit m)
  where
    by : (b : Bool) → (if b then under_lock l.hub l.places (l.found ++ m.owner ∷ []) l.unasked (with_late ms l).watch else with_late (ms ++ m ∷ []) l).hub ≡ l.hub
    by true = refl
    by false = refl

times-hub : (n at : ℕ) (l : UnderLock) → (released_times n at l).hub ≡ l.hub
times-hub zero at l = refl
times-hub (suc n) at l = first-hub at (released_times n at l).watch.late (released_times n at l) ∙ times-hub n at l

-- the hub is the same once marks were met and found
met-hub : (n at : ℕ) (xs : List (ℕ × Mark)) (l : UnderLock) → (released_times n at (finds at xs l)).hub ≡ l.hub
met-hub n at xs l = times-hub n at (finds at xs l) ∙ finds-hub at xs l

sorted-nudged : (at : ℕ) (spent : Bool) (sent : ℕ) (o : Owner) (l : UnderLock) → (sorted at spent sent o l).watch.nudged ≡ l.watch.nudged
sorted-nudged at true sent (owner.Answer n) l = refl
sorted-nudged at false sent (owner.Answer n) l = refl
sorted-nudged at true sent owner.Connection l = refl
sorted-nudged at false sent owner.Connection l = refl
sorted-nudged at true sent (owner.Channel n) l = refl
sorted-nudged at false sent (owner.Channel n) l = refl

found-nudged : (at i : ℕ) (m : Mark) (place : Option (Option Owner)) (l : UnderLock) → (found_at at i m place l).watch.nudged ≡ l.watch.nudged
found-nudged at i m (Some (Some o)) l = sorted-nudged at m.spent m.sent o (freed i l)
found-nudged at i m (Some None) l = refl
found-nudged at i m None l = refl

finds-nudged : (at : ℕ) (xs : List (ℕ × Mark)) (l : UnderLock) → (finds at xs l).watch.nudged ≡ l.watch.nudged
finds-nudged at [] l = refl
finds-nudged at (x ∷ xs) l = finds-nudged at xs (found_at at x.0 x.1 (slice_get l.places x.0) l) ∙ found-nudged at x.0 x.1 (slice_get l.places x.0) l

first-nudged : (at : ℕ) (ms : List PutOff) (l : UnderLock) → (released_first at ms l).watch.nudged ≡ l.watch.nudged
first-nudged at [] l = refl
first-nudged at (m ∷ ms) l = by (may_be_found at l.hub.engine.talk.state l.watch.cleared l.watch.limit m)
  where
    by : (b : Bool) → (if b then under_lock l.hub l.places (l.found ++ m.owner ∷ []) l.unasked (with_late ms l).watch else with_late (ms ++ m ∷ []) l).watch.nudged ≡ l.watch.nudged
    by true = refl
    by false = refl

times-nudged : (n at : ℕ) (l : UnderLock) → (released_times n at l).watch.nudged ≡ l.watch.nudged
times-nudged zero at l = refl
times-nudged (suc n) at l = first-nudged at (released_times n at l).watch.late (released_times n at l) ∙ times-nudged n at l

-- the loop was nudged since its last turn where it was before
pub looked-nudged : (n times at : ℕ) (xs : List (ℕ × Mark)) (l m : UnderLock) → m ≡ looked_from n (released_times times at (finds at xs l)) → m.watch.nudged ≡ l.watch.nudged
looked-nudged n times at xs l m is = ap (λ (y : UnderLock). y.watch.nudged) is ∙ times-nudged times at (finds at xs l) ∙ finds-nudged at xs l

done-grown : (d : Due) (h : Guarded) → h.engine.talk.made ≤ (done d h).engine.talk.made
done-grown (Now c) h = told-grown c h.engine
done-grown Later h = omega arith
done-grown Never h = omega arith

acted-grown : (os : List Owner) (h : Guarded) → h.engine.talk.made ≤ (acted os h).engine.talk.made
acted-grown [] h = omega arith
acted-grown (o ∷ os) h = omega (arith, acted-grown os h, done-grown (due_of (acted os h).engine.talk o) (acted os h))

-- there are no fewer promises
pub looked-grown : (n times at : ℕ) (xs : List (ℕ × Mark)) (l m : UnderLock) → m ≡ looked_from n (released_times times at (finds at xs l)) → l.hub.engine.talk.made ≤ m.hub.engine.talk.made
looked-grown n times at xs l m is =
    let x : UnderLock = released_times times at (finds at xs l) in
    omega (arith, ap (λ (h : Guarded). h.engine.talk.made) (met-hub times at xs l), acted-grown (drop n x.found) x.hub, ap (λ (y : UnderLock). y.hub.engine.talk.made) is)

done-base : (d : Due) (h : Guarded) → (done d h).base ≡ h.base
done-base (Now c) h = refl
done-base Later h = refl
done-base Never h = refl

acted-base : (os : List Owner) (h : Guarded) → (acted os h).base ≡ h.base
acted-base [] h = refl
acted-base (o ∷ os) h = done-base (due_of (acted os h).engine.talk o) (acted os h) ∙ acted-base os h

done-counts : (d : Due) (h : Guarded) → (done d h).counts ≡ h.counts
done-counts (Now c) h = refl
done-counts Later h = refl
done-counts Never h = refl

acted-counts : (os : List Owner) (h : Guarded) → (acted os h).counts ≡ h.counts
acted-counts [] h = refl
acted-counts (o ∷ os) h = done-counts (due_of (acted os h).engine.talk o) (acted os h) ∙ acted-counts os h

-- ---- turns

-- a turn that is cut after the marks that were met and found
pub starves : (at : ℕ) (step : Step) (xs : List (ℕ × Mark)) (times left : ℕ) (l m l' : UnderLock) → m ≡ looked_from left (released_times times at (finds at xs l))
    → l' ≡ noticed (with_hub (starved_at at step m.hub) m) → StarvesAfterMarks at step l l'
starves at step xs times left l m l' is cut =
    record {
      found = xs;
      times = times;
      left = left;
      starved = cut ∙ ap (λ (y : UnderLock). noticed (with_hub (starved_at at step y.hub) y)) is;
    }

module _ (is_cut : Bool) (at : ℕ) (step : Step) (bytes : List ℕ) (log log' : Option Log) (before after : Exchange → Type 0) (faults faults' refusals refusals' : ℕ) where
  -- a step after the marks that were found
  pub turns-after : (xs : List (ℕ × Mark)) (l m l' : UnderLock) → m ≡ looked at xs l
      → TakesStep is_cut at step bytes m.hub.engine l'.hub.engine m.hub.journal l'.hub.journal log log' before after
      → Counted step m.hub.engine l'.hub.engine faults faults' refusals refusals' → l'.hub.base ≡ m.hub.base → l'.hub.counts ≡ m.hub.counts
      → l' ≡ noticed (with_hub l'.hub m) → TurnsAfterMarks is_cut at step bytes l l' log log' before after faults faults' refusals refusals'
  turns-after xs l m l' is takes counted base counts rest =
      let P : UnderLock → Type 0 = λ x. TakesStep is_cut at step bytes x.hub.engine l'.hub.engine x.hub.journal l'.hub.journal log log' before after in
      let Q : UnderLock → Type 0 = λ x. Counted step x.hub.engine l'.hub.engine faults faults' refusals refusals' in
      let x : UnderLock = released at (finds at xs l) in
      let many : ℕ = length (finds at xs l).watch.late in
      record {
        found = xs;
        takes = subst P is takes;
        counted = subst Q is counted;
        base = base ∙ ap (λ (y : UnderLock). y.hub.base) is ∙ acted-base (drop 0 x.found) x.hub ∙ ap (λ (h : Guarded). h.base) (met-hub many at xs l);
        counts = counts ∙ ap (λ (y : UnderLock). y.hub.counts) is ∙ acted-counts (drop 0 x.found) x.hub ∙ ap (λ (h : Guarded). h.counts) (met-hub many at xs l);
        rest = rest ∙ ap (λ (y : UnderLock). noticed (with_hub l'.hub y)) is;
      }

  pub turns_ok : {A E : Type 0} (r : Result A E) (xs : List (ℕ × Mark)) (l m l' : UnderLock) → m ≡ looked at xs l
      → OnOk r (TakesStep is_cut at step bytes m.hub.engine l'.hub.engine m.hub.journal l'.hub.journal log log' before after)
      → Counted step m.hub.engine l'.hub.engine faults faults' refusals refusals' → l'.hub.base ≡ m.hub.base → l'.hub.counts ≡ m.hub.counts
      → l' ≡ noticed (with_hub l'.hub m) → OnOk r (TurnsAfterMarks is_cut at step bytes l l' log log' before after faults faults' refusals refusals')
  turns_ok (Ok x) xs l m l' is takes counted base counts rest = turns-after xs l m l' is takes counted base counts rest
  turns_ok (Err x) xs l m l' is takes counted base counts rest = tt

  -- or one that starves after them
  pub turns_err : {A E : Type 0} (r : Result A E) (Port Provider : Type 0) (xs : List (ℕ × Mark)) (l m l' : UnderLock) → m ≡ looked at xs l
      → OnErr r (TakesStep is_cut at step bytes m.hub.engine l'.hub.engine m.hub.journal l'.hub.journal log log' before after
      ⊎ ((l'.hub ≡ starved_at at step m.hub) × Port × Provider))
      → Counted step m.hub.engine l'.hub.engine faults faults' refusals refusals' → l'.hub.base ≡ m.hub.base → l'.hub.counts ≡ m.hub.counts
      → l' ≡ noticed (with_hub l'.hub m)
      → OnErr r (TurnsAfterMarks is_cut at step bytes l l' log log' before after faults faults' refusals refusals' ⊎ (StarvesAfterMarks at step l l' × Port × Provider))
  turns_err (Ok x) Port Provider xs l m l' is takes counted base counts rest = tt
  turns_err (Err x) Port Provider xs l m l' is takes counted base counts rest =
      elim takes [
        | inl t ↦ inl (turns-after xs l m l' is t counted base counts rest)
        | inr h ↦ inr (
          starves at step xs (length (finds at xs l).watch.late) 0 l m l' is (rest ∙ ap (λ (x : Guarded). noticed (with_hub x m)) h.0),
          h.1,
          h.2,
        )
      ]
