-- The six ways in which rules change the parts keep that they are those of the stands_for, less what was taken.
use Rattle.std.proofs.Common.{◌≡◌, ◌≢◌, ◌⊎◌, inl, inr, ℕ, suc, zero, ◌+◌, ◌<◌, ◌==◌, IsSome, is_some, true≢false, append_assoc, arith, Bool, true, false, cond, List, [], ◌∷◌, ◌++◌, Option, Some, None, Result, Ok, Err, option_map, unwrap_or, refl, ap, sym, ◌∙◌, subst}
use Rattle.std.specs.Ordering.{nat_cmp, is_eq}
use Rattle.std.specs.declared.cmp.Ordering.{Ordering}
use Rattle.std.specs.declared.cmp.Ordering.TheVariants.{Less, Equal, Greater}
use Rattle.std.proofs.lemmas.Bool.Decides.{nat_tests}
use Rattle.amqp_rules.proofs.Ascending.{ranked, put-ascends}
use Rattle.amqp_rules.proofs.Recovering.{rejected_all-keys}
use Rattle.amqp_rules.specs.Sound.{Ascend}
use Rattle.std.specs.Map.{keys_of}
use Rattle.amqp_promise.specs.declared.error.ErrorKind.{ErrorKind}
use Rattle.amqp_answers.specs.declared.answer.Answer.{Answer}
use Rattle.amqp_answers.specs.declared.handed.Handed.{Handed}
use Rattle.amqp_answers.specs.declared.event.Event.{Event}
use Rattle.amqp_maps.specs.Listed.{at, put}
use Rattle.amqp_answers.specs.Events.{events_kept}
use Rattle.amqp_answers.specs.Settled.{Promises, settled, settled_by, rejected_slot, rejected_all}
use Rattle.amqp_maps.proofs.Numbered.{put-same, put-other}
use Rattle.amqp_journal.specs.Untaken.{Untaken, IsClosed, handed_over, AllThere}
use Rattle.amqp_journal.specs.Left.{AnswerLeft, IsEndOf, frames_in, PartsLeft}

-- two numbers are the same or not
pub decide : (b : Bool) (m n : ℕ) → (m == n) ≡ b → (m ≡ n) ⊎ (m ≢ n)
decide true m n h = inl (grind (arith, nat_tests, h))
decide false m n h = inr (λ e. absurd (true≢false (sym (grind (arith, nat_tests, e)) ∙ h)))

-- ---- answers

abbrev pub Slot : Type 0
Slot = Option (Result Answer ErrorKind)

same-left : (o o' p p' : Option Slot) → o' ≡ o → p' ≡ p → AnswerLeft o p → AnswerLeft o' p'
same-left o o' p p' is left (inl h) = inl (left ∙ h ∙ sym is)
same-left o o' p p' is left (inr h) = inr (h.0, is ∙ h.1, left ∙ h.2)

-- what changes a slot, and neither an answer nor that there is none
left-changed : (f : Slot → Slot) → ((a : Result Answer ErrorKind) → f (Some a) ≡ Some a) → (o p : Option Slot) → AnswerLeft o p
    → AnswerLeft (option_map f o) (option_map f p)
left-changed f stays o p (inl h) = inl (ap (option_map f) h)
left-changed f stays o p (inr h) = inr (h.0, ap (option_map f) h.1 ∙ ap Some (stays h.0), ap (option_map f) h.2)

-- a slot, once it got an answer
abbrev answered : Result Answer ErrorKind → Slot → Slot
answered a None = Some a
answered a (Some b) = Some b

at-settled-other : (m n : ℕ) (a : Result Answer ErrorKind) (ps : Promises) → m ≢ n → at m (settled n a ps) ≡ at m ps
at-settled-other m n a ps ne = by (at n ps) where
  by : (o : Option Slot) → at m (settled_by o n a ps) ≡ at m ps
  by None = refl
  by (Some None) = put-other m n (Some a) ps ne
  by (Some (Some b)) = refl

at-settled-same : (n : ℕ) (a : Result Answer ErrorKind) (ps : Promises) → at n (settled n a ps) ≡ option_map (answered a) (at n ps)
at-settled-same n a ps = by (at n ps) refl where
  by : (o : Option Slot) → at n ps ≡ o → at n (settled_by o n a ps) ≡ option_map (answered a) o
  by None is = is
  by (Some None) is = put-same n (Some a) ps
  by (Some (Some b)) is = is

at-rejected : (e : ErrorKind) (n : ℕ) (ps : Promises) → at n (rejected_all e ps) ≡ option_map (rejected_slot e n) (at n ps)
at-rejected e n [] = refl
at-rejected e n (p ∷ ps) = by (nat_cmp n p.0) refl (at-rejected e n ps) where
  by : (r : Ordering) → nat_cmp n p.0 ≡ r → at n (rejected_all e ps) ≡ option_map (rejected_slot e n) (at n ps)
      → cond (is_eq r) (Some (rejected_slot e p.0 p.1)) (at n (rejected_all e ps)) ≡ option_map (rejected_slot e n) (cond (is_eq r) (Some p.1) (at n ps))
  by Equal h rest = ap (λ (m : ℕ). Some (rejected_slot e m p.1)) (sym (ranked n p.0 Equal h))
  by Less h rest = rest
  by Greater h rest = rest

stays-rejected : (e : ErrorKind) (n : ℕ) (a : Result Answer ErrorKind) → rejected_slot e n (Some a) ≡ Some a
stays-rejected e zero a = refl
stays-rejected e (suc n) a = refl

abbrev Answers : Promises → Promises → Type 0
Answers fs ts = (number : ℕ) → AnswerLeft (at number fs) (at number ts)

settled-left : (n : ℕ) (a : Result Answer ErrorKind) (fs ts : Promises) → Answers fs ts → Answers (settled n a fs) (settled n a ts)
settled-left n a fs ts h m =
    elim (decide (m == n) m n refl) [
      | inl is ↦
          let P : ℕ → Type 0 = λ i. AnswerLeft (at i (settled n a fs)) (at i (settled n a ts)) in
          subst P (sym is)
          (same-left _ _ _ _ (at-settled-same n a fs) (at-settled-same n a ts) (left-changed (answered a) (λ b. refl) (at n fs) (at n ts) (h n)))
      | inr ne ↦ same-left _ _ _ _ (at-settled-other m n a fs ne) (at-settled-other m n a ts ne) (h m)
    ]

put-left : (n : ℕ) (slot : Slot) (fs ts : Promises) → Answers fs ts → Answers (put n slot fs) (put n slot ts)
put-left n slot fs ts h m =
    elim (decide (m == n) m n refl) [
      | inl is ↦
          let P : ℕ → Type 0 = λ i. AnswerLeft (at i (put n slot fs)) (at i (put n slot ts)) in
          subst P (sym is) (inl (put-same n slot ts ∙ sym (put-same n slot fs)))
      | inr ne ↦ same-left _ _ _ _ (put-other m n slot fs ne) (put-other m n slot ts ne) (h m)
    ]

rejected-left : (e : ErrorKind) (fs ts : Promises) → Answers fs ts → Answers (rejected_all e fs) (rejected_all e ts)
rejected-left e fs ts h m = same-left _ _ _ _ (at-rejected e m fs) (at-rejected e m ts) (left-changed (rejected_slot e m) (stays-rejected e m) (at m fs) (at m ts) (h m))

-- ---- frames and events

longer : {A : Type 0} (x : A) (all left : List A) → IsEndOf all left → IsEndOf (all ++ x ∷ []) (left ++ x ∷ [])
longer x all left h = (h.0, ap (λ xs. xs ++ x ∷ []) h.1 ∙ append_assoc h.0 left (x ∷ []))

abbrev Frames : List (ℕ × List Handed) → List (ℕ × List Handed) → Type 0
Frames fs ts = (opened : ℕ) → IsEndOf (frames_in opened fs) (frames_in opened ts)

handed-same : (n : ℕ) (x : Handed) (fs : List (ℕ × List Handed)) → frames_in n (handed_over n x fs) ≡ frames_in n fs ++ x ∷ []
handed-same n x fs = ap (λ (o : Option (List Handed)). unwrap_or o []) (put-same n (frames_in n fs ++ x ∷ []) fs)

handed-other : (m n : ℕ) (x : Handed) (fs : List (ℕ × List Handed)) → m ≢ n → frames_in m (handed_over n x fs) ≡ frames_in m fs
handed-other m n x fs ne = ap (λ (o : Option (List Handed)). unwrap_or o []) (put-other m n (frames_in n fs ++ x ∷ []) fs ne)

same-end : {A : Type 0} (all all' left left' : List A) → all' ≡ all → left' ≡ left → IsEndOf all left → IsEndOf all' left'
same-end all all' left left' is ends h = (h.0, is ∙ h.1 ∙ ap (λ xs. h.0 ++ xs) (sym ends))

handed-left : (n : ℕ) (x : Handed) (fs ts : List (ℕ × List Handed)) → Frames fs ts → Frames (handed_over n x fs) (handed_over n x ts)
handed-left n x fs ts h m =
    elim (decide (m == n) m n refl) [
      | inl is ↦
          let P : ℕ → Type 0 = λ i. IsEndOf (frames_in i (handed_over n x fs)) (frames_in i (handed_over n x ts)) in
          subst P (sym is) (same-end _ _ _ _ (handed-same n x fs) (handed-same n x ts) (longer x (frames_in n fs) (frames_in n ts) (h n)))
      | inr ne ↦ same-end _ _ _ _ (handed-other m n x fs ne) (handed-other m n x ts ne) (h m)
    ]

kept-left : (listens : Bool) (e : Event) (fs ts : List Event) → IsEndOf fs ts → IsEndOf (events_kept listens e fs) (events_kept listens e ts)
kept-left true e fs ts h = longer e fs ts h
kept-left false e fs ts h = h

-- ---- their order

settled-ascends : (n : ℕ) (a : Result Answer ErrorKind) (ps : Promises) → Ascend (keys_of ps) → Ascend (keys_of (settled n a ps))
settled-ascends n a ps s = by (at n ps) where
  by : (o : Option Slot) → Ascend (keys_of (settled_by o n a ps))
  by None = s
  by (Some None) = put-ascends n (Some a) ps s
  by (Some (Some b)) = s

rejected-ascends : (e : ErrorKind) (ps : Promises) → Ascend (keys_of ps) → Ascend (keys_of (rejected_all e ps))
rejected-ascends e ps s = subst Ascend (sym (rejected_all-keys e ps)) s

-- ---- all of them

pub parts-closed : IsClosed PartsLeft
parts-closed =
    record {
      settled = λ made config n a v u h. record {
        answers = settled-left n a v.promises u.promises h.answers;
        frames = h.frames;
        events = h.events;
        tells_end = h.tells_end;
        ordered = (settled-ascends n a u.promises h.ordered.0, h.ordered.1);
      };
      put = λ n config slot v u h. record {
        answers = put-left n slot v.promises u.promises h.answers;
        frames = h.frames;
        events = h.events;
        tells_end = h.tells_end;
        ordered = (put-ascends n slot u.promises h.ordered.0, h.ordered.1);
      };
      rejected = λ made config e v u h. record {
        answers = rejected-left e v.promises u.promises h.answers;
        frames = h.frames;
        events = h.events;
        tells_end = h.tells_end;
        ordered = (rejected-ascends e u.promises h.ordered.0, h.ordered.1);
      };
      handed = λ made config n x v u h. record {
        answers = h.answers;
        frames = handed-left n x v.handed u.handed h.frames;
        events = h.events;
        tells_end = h.tells_end;
        ordered = (h.ordered.0, put-ascends n (frames_in n u.handed ++ x ∷ []) u.handed h.ordered.1);
      };
      noted = λ made config listens e v u h. record {
        answers = h.answers;
        frames = h.frames;
        events = kept-left listens e v.events u.events h.events;
        tells_end = h.tells_end;
        ordered = h.ordered;
      };
      failed = λ made config listens v u h. record { answers = h.answers; frames = h.frames; events = h.events; tells_end = refl; ordered = h.ordered };
    }

-- ---- each promise that was made is there, or is gone

some-settled : (n : ℕ) (a : Result Answer ErrorKind) (m : ℕ) (ps : Promises) → IsSome (at m ps) → IsSome (at m (settled n a ps))
some-settled n a m ps h = by (at n ps) refl where
  by : (o : Option Slot) → at n ps ≡ o → IsSome (at m (settled_by o n a ps))
  by None is = h
  by (Some None) is = there (decide (m == n) m n refl) where
    there : (m ≡ n) ⊎ (m ≢ n) → IsSome (at m (put n (Some a) ps))
    there (inl same) = ap (λ (i : ℕ). is_some (at i (put n (Some a) ps))) same ∙ ap is_some (put-same n (Some a) ps)
    there (inr ne) = ap is_some (put-other m n (Some a) ps ne) ∙ h
  by (Some (Some b)) is = h

some-mapped : (f : Slot → Slot) (o : Option Slot) → IsSome o → IsSome (option_map f o)
some-mapped f (Some x) h = refl
some-mapped f None h = h

module _ (Gone : ℕ → Type 0) where
  there-put : (n : ℕ) (slot : Slot) (ps : Promises) → AllThere Gone n ps → AllThere Gone (n + 1) (put n slot ps)
  there-put n slot ps all m below =
      elim (decide (m == n) m n refl) [
        | inl same ↦ inl (ap (λ (i : ℕ). is_some (at i (put n slot ps))) same ∙ ap is_some (put-same n slot ps))
        | inr ne ↦
            elim (all m (omega (arith, below, ne))) [
              | inl some ↦ inl (ap is_some (put-other m n slot ps ne) ∙ some)
              | inr gone ↦ inr gone
            ]
      ]

  -- of what the journal leads to, whatever is left of it
  pub there-closed : IsClosed (λ made config v u. AllThere Gone made v.promises)
  there-closed =
      record {
        settled = λ made config n a v u h m below. either (some-settled n a m v.promises) (h m below);
        rejected = λ made config e v u h m below.
            either (λ some. ap is_some (at-rejected e m v.promises) ∙ some-mapped (rejected_slot e m) (at m v.promises) some) (h m below);
        put = λ n config slot v u h. there-put n slot v.promises h;
        handed = λ made config n x v u h. h;
        noted = λ made config listens e v u h. h;
        failed = λ made config listens v u h. h;
      }
    where
      either : {A B C : Type 0} → (A → B) → A ⊎ C → B ⊎ C
      either f (inl a) = inl (f a)
      either f (inr c) = inr c
