-- That a session which ends by a refusal of its provider has a refusal that was counted.
use Rattle.std.proofs.Common.{◌≡◌, ◌≢◌, inl, inr, ◌≤◌, ℕ, Bool, true, false, if◌then◌else◌, IsTrue, List, [], Option, Some, Result, Ok, Err, IfOk, OnOk, OnErr, is_some, true≢false, refl, ap, sym, ◌∙◌, subst, arith}
use Rattle.amqp_types.specs.declared.memory.NoMemory.{NoMemory as Refused}
use Rattle.amqp_types.specs.declared.text.Text.{Text}
use Rattle.amqp_frame.specs.declared.frame.Read.{Read}
use Rattle.amqp_frame.specs.declared.frame.Read.TheVariants as reading
use Rattle.amqp_promise.specs.declared.error.ErrorKind.{ErrorKind}
use Rattle.amqp_promise.specs.declared.error.ErrorKind.TheVariants.{AuthProviderError, NoMemory}
use Rattle.amqp_auth.specs.declared.asked.Asked.{Asked}
use Rattle.amqp_rules.specs.Talk.{Talk, is_open, is_acting, has_ended, end_of}
use Rattle.amqp_rules.specs.Changes.{present_at, starve}
use Rattle.amqp_rules.specs.Links.{piece}
use Rattle.amqp_engine.specs.declared.port.Step.{Step}
use Rattle.amqp_types.specs.Counts.{Rose}
use Rattle.amqp_engine.specs.Log.{Log}
use Rattle.amqp_engine.specs.Engine.{Engine, settle, rule_at, step_engine, read_row}
use Rattle.amqp_engine.specs.Turn.{Progress, answers_of_writes, drained}
use Rattle.amqp_engine.specs.Making.{is_whole, piece_joined, Writes, Blames}
use Rattle.amqp_engine.specs.Causes.{IsReadError}
use Rattle.amqp_types.proofs.Small.{if_case}
use Rattle.amqp_rules.proofs.Ends.{Ends}
use Rattle.amqp_rules.proofs.Keeping.{present-keeps}
use Rattle.amqp_engine.proofs.Cases.{rose-between}
use Rattle.amqp_frame.proofs.FrontStays.{is_memory}
use Rattle.amqp_engine.proofs.Settling.{settle-talk}
use Rattle.amqp_engine.proofs.Joining.{joined-keeps}
use Rattle.amqp_engine.proofs.ReadEnds.{ReadEnd, ends-read-row}
use Rattle.amqp_engine.proofs.TurnEnds.{StepError, WritesError, ends-step, ends-drained, starved-cause}

pub blames-kept : (t t' : Talk) (m n : ℕ) → end_of t' ≡ end_of t → Blames t t' m n
blames-kept t t' m n same text h = inl (sym same ∙ h)

pub blames-then : (a b c : Talk) (k m n : ℕ) → k ≤ m → m ≤ n → Blames a b k m → Blames b c m n → Blames a c k n
blames-then a b c k m n grows more first second text h =
    elim (second text h) [
      | inl before ↦ elim (first text before) [ inl x ↦ inl x | inr rose ↦ inr (rose-between k k m n (omega arith) more rose) ]
      | inr rose ↦ inr (rose-between k m n n grows (omega arith) rose)
    ]

-- where the session went on before, the count rose
pub blamed : (t t' : Talk) (m n : ℕ) (text : Text) → Blames t t' m n → has_ended t ≡ false → end_of t' ≡ Some (Err (AuthProviderError text)) → Rose m n
blamed t t' m n text b running h = elim (b text h) [ inl before ↦ absurd (over before) | inr rose ↦ rose ]
  where
    over : end_of t ≡ Some (Err (AuthProviderError text)) → ⊥
    over before = true≢false (sym (ap is_some before) ∙ running)

-- what ends by no such error
blames-ends : (P : ErrorKind → Type 0) (t t' : Talk) (m n : ℕ) → ((text : Text) → P (AuthProviderError text) → ⊥) → Ends P t t' → Blames t t' m n
blames-ends P t t' m n never e text h = elim (e.by (AuthProviderError text) h) [ inl before ↦ inl before | inr p ↦ absurd (never text p) ]

-- a step
pub blames-step : (at : ℕ) (step : Step) (bytes : List ℕ) (answers : List Asked) (x x' : Engine) (m n : ℕ) → x' ≡ step_engine at step bytes answers x → Blames x.talk x'.talk m n
blames-step at step bytes answers x x' m n same =
    subst (λ (y : Engine). Blames x.talk y.talk m n) (sym same)
    (blames-ends (StepError at step x) x.talk (step_engine at step bytes answers x).talk m n (λ text p. p) (ends-step at step bytes answers x))

-- memory was refused
pub blames-starve : (at : ℕ) (x x' : Engine) (m n : ℕ) → x'.talk ≡ starve (present_at at x.talk) → Blames x.talk x'.talk m n
blames-starve at x x' m n same =
    let P : ErrorKind → Type 0 = λ k. k ≡ NoMemory in
    subst (λ (t : Talk). Blames x.talk t m n) (sym same)
    (blames-ends P x.talk (starve (present_at at x.talk)) m n (λ text p. cc) (starved-cause P (Some 0) at x (λ h. refl)))

-- writes
pub blames-writes : (tooks : List ℕ) (failed : Bool) (p q : Progress) (log log' : Option Log) (count count' m n : ℕ) → Writes tooks failed p q log log' count count'
    → Blames p.engine.talk q.engine.talk m n
blames-writes tooks failed p q log log' count count' m n w =
    let ws = answers_of_writes tooks failed in
    subst (λ (r : Progress). Blames p.engine.talk r.engine.talk m n) w.leaves
    (blames-ends (WritesError ws p) p.engine.talk (drained ws p).engine.talk m n (λ text e. e) (ends-drained ws p))

-- a piece that was received, and bytes that join
pub blames-piece : (at : ℕ) (t : Talk) (x x' : Engine) (m n : ℕ) → x' ≡ settle x → x.talk ≡ piece (present_at at t) → Blames t x'.talk m n
blames-piece at t x x' m n settled told =
    let u = present_at at t in
    let moved : end_of (piece u) ≡ end_of u = if_case (λ (y : Talk). end_of y ≡ end_of u) (is_open u) (record u { last_read = u.present }) u refl refl in
    blames-kept t x'.talk m n (ap (λ (y : Engine). end_of y.talk) settled ∙ ap end_of (settle-talk x) ∙ ap end_of told ∙ moved ∙ present-keeps end_of at t (λ k. refl))

pub blames-joined : (bytes : List ℕ) (x x' : Engine) (m n : ℕ) → x' ≡ piece_joined bytes x → Blames x.talk x'.talk m n
blames-joined bytes x x' m n same =
    blames-kept x.talk x'.talk m n (ap (λ (y : Engine). end_of y.talk) same ∙ joined-keeps (λ (y : Engine). end_of y.talk) (λ y more. refl) bytes x)

-- what is no whole frame asks nothing
never-refused : (text : Text) (r : Read) (answers : List Asked) (x : Engine) → is_whole r ≡ false → IsReadError (AuthProviderError text) r answers x → ⊥
never-refused text (reading.Whole f n) answers x other h = cc
never-refused text (reading.TooLarge size) answers x other h = let clash = h.1 in cc
never-refused text (reading.BadHeartbeat channel) answers x other h = let clash = h.1 in cc
never-refused text reading.Bad answers x other h = let clash = h.1 in cc
never-refused text reading.More answers x other h = h
never-refused text reading.NoMemory answers x other h = h

no-memory : (r : Read) → r ≢ reading.NoMemory → is_memory r ≡ false
no-memory reading.NoMemory h = absurd (h refl)
no-memory (reading.Whole f n) h = refl
no-memory (reading.TooLarge size) h = refl
no-memory (reading.BadHeartbeat channel) h = refl
no-memory reading.Bad h = refl
no-memory reading.More h = refl

pub blames-other : (at : ℕ) (r : Result Bool Refused) (e e' : Engine) (read : Read) (m n : ℕ) → IfOk r (λ b. (answers : List Asked) → e' ≡ (if b then read_row at read answers e else e))
    → OnOk r (read ≢ reading.NoMemory) → OnErr r (e' ≡ rule_at at starve e) → is_whole read ≡ false → Blames e.talk e'.talk m n
blames-other at (Ok true) e e' read m n after some refused other =
    subst (λ (y : Engine). Blames e.talk y.talk m n) (sym (after []))
    (blames-ends (ReadEnd read [] e) e.talk (read_row at read [] e).talk m n (λ text p. never-refused text read [] e other p.0) (ends-read-row at read [] e (no-memory read some)))
blames-other at (Ok false) e e' read m n after some refused other = blames-kept e.talk e'.talk m n (ap (λ (y : Engine). end_of y.talk) (after []))
blames-other at (Err x) e e' read m n after some refused other = blames-starve at e e' m n (ap (λ (y : Engine). y.talk) refused)
