-- What is left once something was taken, and after each rule of a session that goes on.
use Rattle.std.proofs.Common.{◌≡◌, ◌≢◌, ◌⊎◌, inl, inr, ℕ, ◌==◌, ◌<◌, Bool, true, false, List, [], ◌∷◌, ◌++◌, Option, Some, None, Result, Ok, Err, is_some, IsSome, unwrap_or, true≢false, append_assoc, refl, ap, sym, ◌∙◌, subst}
use Rattle.std.specs.Map.{keys_of}
use Rattle.amqp_promise.specs.declared.error.ErrorKind.{ErrorKind}
use Rattle.amqp_answers.specs.declared.answer.Answer.{Answer}
use Rattle.amqp_answers.specs.declared.handed.Handed.{Handed}
use Rattle.amqp_answers.specs.declared.event.Event.{Event}
use Rattle.amqp_maps.specs.Listed.{at, without}
use Rattle.amqp_rules.specs.Sound.{Ascend}
use Rattle.amqp_rules.specs.Talk.{Talk, has_ended, end_of}
use Rattle.amqp_rules.specs.ChannelMethods.{frames_of}
use Rattle.amqp_rules.specs.Answers.{answer_in, answer_of, take_answer, end_event, events_of, without_event, take_event, take_frames}
use Rattle.amqp_types.proofs.Small.{if_by}
use Rattle.amqp_maps.proofs.Numbered.{without-other}
use Rattle.amqp_rules.proofs.Ascending.{without-ascends, at-gone}
use Rattle.amqp_journal.specs.Untaken.{Untaken, untaken, with_untaken, Tied, AllThere}
use Rattle.amqp_journal.specs.Left.{AnswerLeft, IsEndOf, IsGone, PartsLeft, IsLeft}
use Rattle.amqp_journal.proofs.Parts.{decide, Slot}

none-from : {X : Type 0} (o : Option X) → is_some o ≡ false → o ≡ None
none-from None h = refl
none-from (Some x) h = absurd cc

append-none : {A : Type 0} (xs : List A) → xs ++ [] ≡ xs
append-none [] = refl
append-none (x ∷ xs) = ap (λ ys. x ∷ ys) (append-none xs)

-- before an end there is no event of it
no-end : (b : Bool) → end_event b None ≡ []
no-end true = refl
no-end false = refl

-- ---- nothing was taken

pub left-none : (t : Talk) → Ascend (keys_of t.promises) × Ascend (keys_of t.handed) → IsLeft t t
left-none t ordered =
    record {
      rest = refl;
      answers = λ n. inl refl;
      frames = λ n. ([], refl);
      events = ([], refl);
      tells_end = λ running. refl;
      ordered = ordered;
    }

-- both have ended, or none has
pub left-end : (f t : Talk) → IsLeft f t → end_of t ≡ end_of f
left-end f t h = ap end_of h.rest

-- ---- while the session goes on

answered-slot : (o : Option Slot) → IsSome (answer_in None o) → (a : Result Answer ErrorKind) × (o ≡ Some (Some a))
answered-slot None h = absurd cc
answered-slot (Some None) h = absurd cc
answered-slot (Some (Some a)) h = (a, refl)

events-going : (t : Talk) → end_of t ≡ None → events_of t ≡ t.noted.events
events-going t going =
    ap (λ (o : Option (Result (Unit {0}) ErrorKind)). t.noted.events ++ end_event t.noted.tells_end o) going
    ∙ ap (λ (es : List Event). t.noted.events ++ es) (no-end t.noted.tells_end) ∙ append-none t.noted.events

pub parts-of : (f t : Talk) → has_ended f ≡ false → IsLeft f t → Tied PartsLeft f t
parts-of f t running h = record { same = h.rest; parts = parts } where
  going : end_of f ≡ None
  going = none-from (end_of f) running

  answers : (n : ℕ) → AnswerLeft (at n f.promises) (at n t.promises)
  answers n =
      elim (h.answers n) [
        | inl same ↦ inl same
        | inr taken ↦
            let some : IsSome (answer_in None (at n f.promises)) = ap (λ (o : Option (Result (Unit {0}) ErrorKind)). is_some (answer_in o (at n f.promises))) (sym going) ∙ taken.1 in
            let found = answered-slot (at n f.promises) some in
            inr (found.0, found.1, taken.0)
      ]

  parts : PartsLeft f.made f.config (untaken f) (untaken t)
  parts =
      record {
        answers = answers;
        frames = h.frames;
        events = (h.events.0, sym (events-going f going) ∙ h.events.1 ∙ ap (λ (es : List Event). h.events.0 ++ es) (events-going t (left-end f t h ∙ going)));
        tells_end = h.tells_end running;
        ordered = h.ordered;
      }

-- and then, whether it still does
pub left-of : (f t : Talk) → Tied PartsLeft f t → IsLeft f t
left-of f t h =
    record { rest = h.same; answers = answers; frames = h.parts.frames; events = events; tells_end = λ running. h.parts.tells_end; ordered = h.parts.ordered }
  where
    answers : (n : ℕ) → (at n t.promises ≡ at n f.promises) ⊎ ((at n t.promises ≡ None) × IsSome (answer_of n f))
    answers n =
        elim (h.parts.answers n) [
          | inl same ↦ inl same
          | inr taken ↦ inr (taken.2, ap (λ (o : Option Slot). is_some (answer_in (end_of f) o)) taken.1)
        ]

    -- the event of the end is in both, or in none
    ends : end_event t.noted.tells_end (end_of t) ≡ end_event f.noted.tells_end (end_of f)
    ends =
        ap (λ (b : Bool). end_event b (end_of t)) h.parts.tells_end
        ∙ ap (λ (o : Option (Result (Unit {0}) ErrorKind)). end_event f.noted.tells_end o) (ap end_of h.same)

    events : IsEndOf (events_of f) (events_of t)
    events =
        let ds = h.parts.events.0 in
        let es : List Event = end_event f.noted.tells_end (end_of f) in (
          ds,
          ap (λ (xs : List Event). xs ++ es) h.parts.events.1 ∙ append_assoc ds t.noted.events es
              ∙ ap (λ (xs : List Event). ds ++ (t.noted.events ++ xs)) (sym ends),
        )

-- ---- what is taken

-- an answer
pub left-answer : (n : ℕ) (f t : Talk) → IsLeft f t → IsLeft f (take_answer n t)
left-answer n f t h = if_by (IsLeft f) (is_some (answer_of n t)) (record t { promises = without n t.promises }) t by (λ none. h) where
  by : is_some (answer_of n t) ≡ true → IsLeft f (record t { promises = without n t.promises })
  by some =
      record {
        rest = ap (λ (x : Talk). record x { promises = without n t.promises }) h.rest;
        answers = answers;
        frames = h.frames;
        events = h.events;
        tells_end = h.tells_end;
        ordered = (without-ascends n t.promises h.ordered.0, h.ordered.1);
      }
    where
      had : IsSome (answer_of n f)
      had =
          elim (h.answers n) [
            | inl same ↦
                ap (λ (o : Option Slot). is_some (answer_in (end_of f) o)) (sym same)
                ∙ ap (λ (o : Option (Result (Unit {0}) ErrorKind)). is_some (answer_in o (at n t.promises))) (sym (left-end f t h)) ∙ some
            | inr taken ↦ taken.1
          ]

      answers : (m : ℕ) → (at m (without n t.promises) ≡ at m f.promises) ⊎ ((at m (without n t.promises) ≡ None) × IsSome (answer_of m f))
      answers m =
          elim (decide (m == n) m n refl) [
            | inl is ↦
                let P : ℕ → Type 0 = λ i. (at i (without n t.promises) ≡ at i f.promises) ⊎ ((at i (without n t.promises) ≡ None) × IsSome (answer_of i f)) in
                subst P (sym is) (inr (at-gone n t.promises h.ordered.0, had))
            | inr ne ↦
                elim (h.answers m) [
                  | inl same ↦ inl (without-other m n t.promises ne ∙ same)
                  | inr taken ↦ inr (without-other m n t.promises ne ∙ taken.0, taken.1)
                ]
          ]

-- all frames of an opening
pub left-frames : (n : ℕ) (f t : Talk) → IsLeft f t → IsLeft f (take_frames n t)
left-frames n f t h =
    record {
      rest = ap (λ (x : Talk). record x { handed = without n t.handed }) h.rest;
      answers = h.answers;
      frames = frames;
      events = h.events;
      tells_end = h.tells_end;
      ordered = (h.ordered.0, without-ascends n t.handed h.ordered.1);
    }
  where
    listed : Option (List Handed) → List Handed
    listed o = unwrap_or o []

    all : (m : ℕ) → IsEndOf (frames_of m f) []
    all m = (frames_of m f, sym (append-none (frames_of m f)))

    frames : (m : ℕ) → IsEndOf (frames_of m f) (frames_of m (take_frames n t))
    frames m =
        elim (decide (m == n) m n refl) [
          | inl is ↦
              let P : ℕ → Type 0 = λ i. IsEndOf (frames_of i f) (frames_of i (take_frames n t)) in
              let Q : List Handed → Type 0 = λ left. IsEndOf (frames_of n f) left in
              subst P (sym is) (subst Q (sym (ap (λ (o : Option (List Handed)). unwrap_or o []) (at-gone n t.handed h.ordered.1))) (all n))
          | inr ne ↦
              let Q : List Handed → Type 0 = λ left. IsEndOf (frames_of m f) left in
              subst Q (sym (ap (λ (o : Option (List Handed)). unwrap_or o []) (without-other m n t.handed ne))) (h.frames m)
        ]

-- the first event
pub left-event : (f t : Talk) → IsLeft f t → IsLeft f (take_event t)
left-event f t h = by t.noted.events (end_event t.noted.tells_end (end_of t)) refl refl where
  by : (events ends : List Event) → t.noted.events ≡ events → end_event t.noted.tells_end (end_of t) ≡ ends → IsLeft f (without_event events ends t)
  by (e ∷ later) ends is ended =
      let xs : List Event = end_event t.noted.tells_end (end_of t) in
      record {
        rest = ap (λ (x : Talk). record x { noted = record x.noted { events = later } }) h.rest;
        answers = h.answers;
        frames = h.frames;
        events = (
          h.events.0 ++ e ∷ [],
          h.events.1 ∙ ap (λ (ys : List Event). h.events.0 ++ (ys ++ xs)) is ∙ sym (append_assoc h.events.0 (e ∷ []) (later ++ xs)),
        );
        tells_end = h.tells_end;
        ordered = h.ordered;
      }
  by [] (e ∷ later) is ended =
      let over : has_ended f ≡ false → ⊥ = λ running.
      let going : end_of t ≡ None = left-end f t h ∙ none-from (end_of f) running in
      let none : end_event t.noted.tells_end (end_of t) ≡ [] =
      ap (λ (o : Option (Result (Unit {0}) ErrorKind)). end_event t.noted.tells_end o) going ∙ no-end t.noted.tells_end in
      absurd cc in
      record {
        rest = ap (λ (x : Talk). record x { noted = record x.noted { tells_end = false } }) h.rest;
        answers = h.answers;
        frames = h.frames;
        events = (events_of f, sym (ap (λ (ys : List Event). events_of f ++ (ys ++ [])) is ∙ append-none (events_of f)));
        tells_end = λ running. absurd (over running);
        ordered = h.ordered;
      }
  by [] [] is ended = h

-- ---- what that says

-- an answer that was not taken is the stands_for's
pub left-gives : (n : ℕ) (f t : Talk) → IsLeft f t → (answer_of n t ≡ answer_of n f) ⊎ ((answer_of n t ≡ None) × IsSome (answer_of n f))
left-gives n f t h =
    let ends : answer_of n t ≡ answer_in (end_of f) (at n t.promises) = ap (λ (o : Option (Result (Unit {0}) ErrorKind)). answer_in o (at n t.promises)) (left-end f t h) in
    elim (h.answers n) [
      | inl same ↦ inl (ends ∙ ap (answer_in (end_of f)) same)
      | inr taken ↦ inr (ends ∙ ap (answer_in (end_of f)) taken.0, taken.1)
    ]

-- while the session goes on, a promise that waits still does
pub left-waits : (n : ℕ) (f t : Talk) → IsLeft f t → has_ended f ≡ false → at n f.promises ≡ Some None → at n t.promises ≡ Some None
left-waits n f t h running waits =
    elim (h.answers n) [
      | inl same ↦ same ∙ waits
      | inr taken ↦
          let going : end_of f ≡ None = none-from (end_of f) running in
          let none : is_some (answer_of n f) ≡ false = ap (λ (o : Option Slot). is_some (answer_in (end_of f) o)) waits ∙ ap (λ (o : Option (Result (Unit {0}) ErrorKind)). is_some (answer_in o (Some None))) going in
          absurd (true≢false (sym taken.1 ∙ none))
    ]

-- ---- a promise that was made is there, or it was taken

-- a promise that is there once the session has ended has its answer
ended-answers : (e : Result (Unit {0}) ErrorKind) (o : Option Slot) → IsSome o → IsSome (answer_in (Some e) o)
ended-answers (Ok x) (Some None) h = refl
ended-answers (Err e) (Some None) h = refl
ended-answers e (Some (Some a)) h = refl
ended-answers e None h = h

pub ended-answered : (n : ℕ) (t : Talk) → has_ended t ≡ true → IsSome (at n t.promises) → IsSome (answer_of n t)
ended-answered n t over some = by (end_of t) over where
  by : (o : Option (Result (Unit {0}) ErrorKind)) → is_some o ≡ true → IsSome (answer_in o (at n t.promises))
  by (Some e) ended = ended-answers e (at n t.promises) some
  by None ended = absurd cc

-- one that is gone had its answer, or was gone before
pub gone-taken : (Gone : ℕ → Type 0) (n : ℕ) (f t : Talk) → IsLeft f t → AllThere Gone f.made f.promises → IsGone n t
    → IsSome (answer_of n f) ⊎ Gone n
gone-taken Gone n f t h all gone =
    elim (h.answers n) [
      | inr taken ↦ inl taken.1
      | inl same ↦
          elim (all n made) [
            | inr before ↦ inr before
            | inl some ↦ absurd (true≢false (sym some ∙ ap is_some (sym same ∙ gone.1)))
          ]
    ]
  where
    made : n < f.made
    made = let P : ℕ → Type 0 = λ m. n < m in subst P (ap (λ (x : Talk). x.made) h.rest) gone.0
