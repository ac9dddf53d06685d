-- How a change of the state may end a session with an error.
use Rattle.std.proofs.Common.{◌≡◌, ◌⊎◌, inl, inr, ℕ, Some, None, Ok, Err, refl, ap, sym, ◌∙◌, subst}
use Rattle.amqp_rules.specs.declared.state.Link.TheVariants.{Ended}
use Rattle.amqp_promise.specs.declared.error.ErrorKind.{ErrorKind}
use Rattle.amqp_rules.specs.Talk.{Talk, end_of, end_of_link}
use Rattle.amqp_rules.specs.Recovery.{recovery_delay, reconnect}
use Rattle.amqp_rules.specs.Changes.{present_at, fail, lose, close}
use Rattle.amqp_rules.proofs.Keeping.{present-keeps}
use Rattle.amqp_rules.proofs.Recovering.{lose-by}

-- where the session ends with an error, it had ended so before, or the error is one of these
pub record Ends (P : ErrorKind → Type 0) (t t' : Talk) : Type 0 where
  pub by : (k : ErrorKind) → end_of t' ≡ Some (Err k) → (end_of t ≡ Some (Err k)) ⊎ P k

pub ends-kept : (P : ErrorKind → Type 0) (t t' : Talk) → end_of t' ≡ end_of t → Ends P t t'
ends-kept P t t' same = record { by = λ k h. inl (sym same ∙ h) }

error-is : (P : ErrorKind → Type 0) (e k : ErrorKind) → P e → end_of_link (Ended (Err e)) ≡ Some (Err k) → P k
error-is P e k p h =
    let same : e ≡ k = cc in
    subst P same p

pub ends-fail : (P : ErrorKind → Type 0) (e : ErrorKind) (t u : Talk) → P e → Ends P t (fail e u)
ends-fail P e t u p = record { by = λ k h. inr (error-is P e k p h) }

-- a session that goes on does not end
ends-none : (P : ErrorKind → Type 0) (t t' : Talk) → end_of t' ≡ None → Ends P t t'
ends-none P t t' going = record { by = λ k h. cc }

-- a link that is lost ends a session that does not recover
pub ends-unrecovered : (P : ErrorKind → Type 0) (e : ErrorKind) (t u : Talk) → (recovery_delay e u ≡ None → P e) → Ends P t (lose e u)
ends-unrecovered P e t u p =
    lose-by (Ends P t) e u (λ delay is. ends-none P t (reconnect e delay u) refl) (λ none. ends-fail P e t u (p none))

pub ends-lose : (P : ErrorKind → Type 0) (e : ErrorKind) (t u : Talk) → P e → Ends P t (lose e u)
ends-lose P e t u p = ends-unrecovered P e t u (λ none. p)

-- the session ended Closed
pub ends-ok : (P : ErrorKind → Type 0) (t t' : Talk) → end_of t' ≡ Some (Ok tt) → Ends P t t'
ends-ok P t t' ok = record { by = λ k h. cc }

pub ends-close : (P : ErrorKind → Type 0) (t u : Talk) → Ends P t (close u)
ends-close P t u = ends-ok P t (close u) refl

pub ends-to : (P : ErrorKind → Type 0) (t a b : Talk) → b ≡ a → Ends P t a → Ends P t b
ends-to P t a b same e = record { by = λ k h. e.by k (sym (ap end_of same) ∙ h) }

pub ends-as : (P Q : ErrorKind → Type 0) (t u : Talk) → ((k : ErrorKind) → P k → Q k) → Ends P t u → Ends Q t u
ends-as P Q t u f e = record { by = λ k h. elim (e.by k h) [ inl before ↦ inl before | inr p ↦ inr (f k p) ] }

pub ends-then : (P : ErrorKind → Type 0) (a b c : Talk) → Ends P a b → Ends P b c → Ends P a c
ends-then P a b c e f = record { by = λ k h. elim (f.by k h) [ inl before ↦ e.by k before | inr p ↦ inr p ] }

-- a moment ends nothing
pub ends-present : (P : ErrorKind → Type 0) (at : ℕ) (t u : Talk) → Ends P (present_at at t) u → Ends P t u
ends-present P at t u e =
    let same : end_of (present_at at t) ≡ end_of t = present-keeps end_of at t (λ n. refl) in
    record { by = λ k h. elim (e.by k h) [ inl before ↦ inl (sym same ∙ before) | inr p ↦ inr p ] }

pub ends-moment : (P : ErrorKind → Type 0) (at : ℕ) (t : Talk) → Ends P t (present_at at t)
ends-moment P at t = ends-present P at t (present_at at t) (ends-kept P _ _ refl)
