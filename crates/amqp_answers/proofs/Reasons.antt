-- Reasons that are kept give the same errors, whatever other reason comes or goes.
use Rattle.std.proofs.Common.{◌≡◌, ◌∙◌, ap, sym, refl, ℕ, ◌==◌, ◌&&◌, Bool, true, false, if◌then◌else◌, List, Option, Some, None, option_map, unwrap_or, is_some}
use Rattle.std.specs.Ordering.{nat_cmp}
use Rattle.std.specs.Map.{set_value}
use Rattle.std.specs.BTreeMap.{is_at}
use Rattle.amqp_types.proofs.Small.{the-number, if-false, and-false}
use Rattle.amqp_promise.specs.declared.error.ErrorKind.{ErrorKind}
use Rattle.amqp_answers.specs.declared.promises.Why.{Why}
use Rattle.amqp_answers.specs.declared.promises.Slot.{Slot}
use Rattle.amqp_answers.specs.declared.promises.Slot.TheVariants.{Shared}
use Rattle.amqp_answers.specs.declared.shared_errors.SharedError.{SharedError}
use Rattle.amqp_maps.specs.Listed.{at}
use Rattle.amqp_answers.specs.Sharing.{shared_at, error_at, waits}
use Rattle.amqp_answers.specs.Seen.{slot_shared}
use Rattle.amqp_maps.proofs.Maps.{set_value-same}

-- an error comes under a number that no other has
pub reason-come : (number k : ℕ) (e : ErrorKind) (o : Option ErrorKind) (errors errors' : List (ℕ × SharedError)) → at number errors ≡ None
    → shared_at k errors' ≡ (if number == k then Some o else shared_at k errors)
    → error_at k errors ≡ Some e → error_at k errors' ≡ Some e
reason-come number k e o errors errors' fresh is kept = by (number == k) refl where
  by : (b : Bool) → (number == k) ≡ b → error_at k errors' ≡ Some e
  by true test =
      let none : error_at k errors ≡ None =
      ap (λ (m : ℕ). error_at m errors) (sym (the-number number k test))
      ∙ ap (λ (x : Option SharedError). unwrap_or (option_map (λ (s : SharedError). s.error) x) None) fresh in
      absurd cc
  by false test =
      ap (λ (x : Option (Option ErrorKind)). unwrap_or x None) (is ∙ ap (λ (b : Bool). if b then Some o else shared_at k errors) test) ∙ kept

-- another error goes, or stays where it is held
pub reason-gone : (why other : Why) (held : Bool) (gone : Option (Option ErrorKind)) (e : ErrorKind) (errors errors' : List (ℕ × SharedError)) → (other ≡ why → ⊥)
    → shared_at other.number errors' ≡ (if (why.number == other.number) && held then gone else shared_at other.number errors)
    → error_at other.number errors ≡ Some e → error_at other.number errors' ≡ Some e
reason-gone why other held gone e errors errors' differ is kept = by (why.number == other.number) refl where
  named : ℕ → Why
  named n = record { number = n }

  by : (b : Bool) → (why.number == other.number) ≡ b → error_at other.number errors' ≡ Some e
  by true test = absurd (differ (sym (ap named (the-number why.number other.number test))))
  by false test =
      ap (λ (x : Option (Option ErrorKind)). unwrap_or x None) (is ∙ ap (λ (b : Bool). if b && held then gone else shared_at other.number errors) test) ∙ kept

-- where no error is kept for a reason, a promise stays what it was
pub reason-none : (errors : List (ℕ × SharedError)) (k n : ℕ) (s : Slot) (es : List (ℕ × Slot)) → error_at k errors ≡ None → at n es ≡ Some s
    → set_value (is_at (nat_cmp n)) es (slot_shared errors k s) ≡ es
reason-none errors k n s es gone there =
    ap (set_value (is_at (nat_cmp n)) es)
    (if-false (waits errors s && is_some (error_at k errors)) (Shared k) s (and-false (waits errors s) (is_some (error_at k errors)) (ap is_some gone)))
    ∙ set_value-same n s es there
