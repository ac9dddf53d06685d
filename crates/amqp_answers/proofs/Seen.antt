-- A promise that is seen gets its answer.
use Rattle.std.proofs.Common.{◌≡◌, ◌∙◌, ap, sym, refl, ℕ, ◌↔◌, Bool, true, false, ◌&&◌, if◌then◌else◌, List, Option, Some, None, option_map, unwrap_or, Result, Err}
use Rattle.std.specs.Option.{is_none, option_flatten}
use Rattle.std.specs.Ordering.{nat_cmp}
use Rattle.std.specs.Map.{keys_of, set_value}
use Rattle.std.specs.BTreeMap.{is_at}
use Rattle.amqp_outbox.specs.Order.{seen, seen_at}
use Rattle.amqp_outbox.proofs.Seen.{Sorted, at-seen, set-seen}
use Rattle.amqp_answers.specs.declared.answer.Answer.{Answer}
use Rattle.amqp_promise.specs.declared.error.ErrorKind.{ErrorKind}
use Rattle.amqp_answers.specs.declared.promises.Slot.{Slot}
use Rattle.amqp_answers.specs.declared.promises.Slot.TheVariants.{Place, Waiting, Answered, Shared}
use Rattle.amqp_answers.specs.declared.shared_errors.SharedError.{SharedError}
use Rattle.amqp_maps.specs.Listed.{at}
use Rattle.amqp_answers.specs.Settled.{IsRejected, settled, settled_by}
use Rattle.amqp_answers.specs.Sharing.{shared_at, error_at, waits}
use Rattle.amqp_answers.specs.Seen.{slot_seen}
use Rattle.amqp_maps.proofs.Maps.{set_value-same}

abbrev told : ErrorKind → Result Answer ErrorKind
told e = Err e

-- an error that is kept is the answer of what shares it
pub error-seen : (errors : List (ℕ × SharedError)) (k : ℕ) (e : ErrorKind) → error_at k errors ≡ Some e → slot_seen errors (Shared k) ≡ Some (Some (Err e))
error-seen errors k e h = by (shared_at k errors) h where
  by : (o : Option (Option ErrorKind)) → unwrap_or o None ≡ Some e → option_map (option_map told) o ≡ Some (Some (told e))
  by None is = absurd cc
  by (Some o) is = ap (λ x. Some (option_map told x)) is

-- that answer is an error
pub error-rejects : (errors : List (ℕ × SharedError)) (k : ℕ) (e : ErrorKind) → error_at k errors ≡ Some e → IsRejected (option_flatten (slot_seen errors (Shared k)))
error-rejects errors k e h = (e, ap option_flatten (error-seen errors k e h))

waits-slot : (errors : List (ℕ × SharedError)) (s : Slot) → waits errors s ≡ true ↔ slot_seen errors s ≡ Some None
waits-slot errors Place = (λ h. absurd cc, λ h. absurd cc)
waits-slot errors Waiting = (λ h. refl, λ h. refl)
waits-slot errors (Answered a) = (λ h. absurd cc, λ h. absurd cc)
waits-slot errors (Shared k) = by (shared_at k errors) where
  by : (o : Option (Option ErrorKind)) → unwrap_or (option_map is_none o) false ≡ true ↔ option_map (option_map told) o ≡ Some None
  by None = (λ h. absurd cc, λ h. absurd cc)
  by (Some None) = (λ h. refl, λ h. refl)
  by (Some (Some e)) = (λ h. absurd cc, λ h. absurd cc)

-- a promise waits where that is seen
pub waits-seen : (errors : List (ℕ × SharedError)) (n : ℕ) (es : List (ℕ × Slot)) → Sorted (keys_of es) → (s : Slot) → at n es ≡ Some s
    → (b : Bool) → b ≡ waits errors s → b ≡ true ↔ at n (seen (slot_seen errors) es) ≡ Some None
waits-seen errors n es sorted s there b test =
    let is : at n (seen (slot_seen errors) es) ≡ slot_seen errors s =
    at-seen (slot_seen errors) n es sorted ∙ ap (seen_at (slot_seen errors)) there in
    (λ h. is ∙ (waits-slot errors s).0 (sym test ∙ h), λ h. test ∙ (waits-slot errors s).1 (sym is ∙ h))

-- one that is not there does not
pub none-waits : (errors : List (ℕ × SharedError)) (n : ℕ) (es : List (ℕ × Slot)) → Sorted (keys_of es) → at n es ≡ None
    → false ≡ true ↔ at n (seen (slot_seen errors) es) ≡ Some None
none-waits errors n es sorted there =
    let is : at n (seen (slot_seen errors) es) ≡ None =
    at-seen (slot_seen errors) n es sorted ∙ ap (seen_at (slot_seen errors)) there in
    (λ h. absurd cc, λ h. absurd cc)

and-here : (b : Bool) → (b && true) ≡ b
and-here true = refl
and-here false = refl

module _ (errors : List (ℕ × SharedError)) (n : ℕ) (answer : Result Answer ErrorKind) (es : List (ℕ × Slot)) (sorted : Sorted (keys_of es)) where
  abbrev see : Slot → Option (Option (Result Answer ErrorKind))
  see = slot_seen errors

  settled-found : (s : Slot) → at n es ≡ Some s → settled_by (see s) n answer (seen see es) ≡ settled n answer (seen see es)
  settled-found s h = sym (ap (λ o. settled_by o n answer (seen see es)) (at-seen see n es sorted ∙ ap (seen_at see) h))

  module _ (y : Slot) (is : see y ≡ Some (Some answer)) where
    shared-answered : (k : ℕ) (o : Option (Option ErrorKind)) → at n es ≡ Some (Shared k)
        → seen see (set_value (is_at (nat_cmp n)) es (if unwrap_or (option_map is_none o) false then y else Shared k))
        ≡ settled_by (option_map (option_map told) o) n answer (seen see es)
    shared-answered k None h = ap (seen see) (set_value-same n (Shared k) es h)
    shared-answered k (Some None) h = set-seen see n (Shared k) y (Some answer) es is h sorted
    shared-answered k (Some (Some e)) h = ap (seen see) (set_value-same n (Shared k) es h)

    answer-at : (s : Slot) → at n es ≡ Some s
        → seen see (set_value (is_at (nat_cmp n)) es (if waits errors s then y else s)) ≡ settled_by (see s) n answer (seen see es)
    answer-at Place h = ap (seen see) (set_value-same n Place es h)
    answer-at Waiting h = set-seen see n Waiting y (Some answer) es is h sorted
    answer-at (Answered a) h = ap (seen see) (set_value-same n (Answered a) es h)
    answer-at (Shared k) h = shared-answered k (shared_at k errors) h

    -- a promise that has its place gets an answer where it waits: it becomes what is seen as that
    pub answer-seen : (s : Slot) → at n es ≡ Some s
        → seen see (set_value (is_at (nat_cmp n)) es (if waits errors s then y else s)) ≡ settled n answer (seen see es)
    answer-seen s h = answer-at s h ∙ settled-found s h

    -- where the promise becomes that only under a further condition, which holds
    pub answer-where : (b : Bool) → b ≡ true → (s : Slot) → at n es ≡ Some s
        → seen see (set_value (is_at (nat_cmp n)) es (if waits errors s && b then y else s)) ≡ settled n answer (seen see es)
    answer-where false is s h = absurd cc
    answer-where true is s h = ap (λ t. seen see (set_value (is_at (nat_cmp n)) es (if t then y else s))) (and-here (waits errors s)) ∙ answer-seen s h

  -- one that has none gets none
  pub settle-none : at n es ≡ None → seen see es ≡ settled n answer (seen see es)
  settle-none h = sym (ap (λ o. settled_by o n answer (seen see es)) (at-seen see n es sorted ∙ ap (seen_at see) h))
