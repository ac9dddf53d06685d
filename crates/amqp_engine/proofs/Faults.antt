-- What brings a fault, with the count of the port's.
use Rattle.std.proofs.Common.{◌≡◌, ◌≤◌, ◌⊎◌, inl, inr, ℕ, ◌&&◌, Bool, true, false, if◌then◌else◌, IsTrue, List, Option, Some, None, Result, Ok, Err, ap, sym, refl, arith}
use Rattle.amqp_promise.specs.declared.io_fault.IoFault.{IoFault}
use Rattle.amqp_promise.specs.declared.io_fault.IoFault.TheVariants.{Aborted, BrokenPipe}
use Rattle.amqp_promise.specs.declared.error.ErrorKind.{ErrorKind}
use Rattle.amqp_promise.specs.declared.error.ErrorKind.TheVariants.{IOError}
use Rattle.amqp_auth.specs.Providers.{Exchange}
use Rattle.amqp_rules.specs.Talk.{Talk, has_ended, is_open, end_of}
use Rattle.amqp_engine.specs.declared.port.Step.{Step}
use Rattle.amqp_engine.specs.declared.port.Step.TheVariants.{LinkFailed, End, Fault}
use Rattle.amqp_engine.specs.Counts.{HasCause, is_fault}
use Rattle.amqp_types.specs.Counts.{Rose}
use Rattle.amqp_engine.specs.Engine.{Engine}
use Rattle.amqp_engine.specs.Turn.{Notes}
use Rattle.amqp_engine.specs.Log.{Log}
use Rattle.amqp_engine.specs.Making.{AppliesCounted}
use Rattle.amqp_engine.specs.Causes.{fault_in, fault_at, fault_of, is_counted, is_final, brought}
use Rattle.amqp_engine.proofs.Cases.{rose-between}
use Rattle.amqp_engine.proofs.TurnEnds.{applied-cause}

-- ---- a fault is an end

fault-kind : (e : ErrorKind) (fault : IoFault) → fault_in e ≡ Some fault → e ≡ IOError fault
fault-kind (IOError f) fault h =
    let same : f ≡ fault = cc in
    ap IOError same
fault-kind _ fault h = cc

fault-end : (o : Option (Result (Unit {0}) ErrorKind)) (fault : IoFault) → fault_at o ≡ Some fault → o ≡ Some (Err (IOError fault))
fault-end None fault h = cc
fault-end (Some (Ok x)) fault h = cc
fault-end (Some (Err e)) fault h = ap (λ (k : ErrorKind). Some (Err k)) (fault-kind e fault h)

-- ---- a turn

-- a fault is brought by the step, or by a write, which was counted
pub applied-fault : (at : ℕ) (step : Step) (bytes : List ℕ) (notes : Notes) (e e' : Engine) (log log' : Option Log) (m n : ℕ) (before after : Exchange → Type 0) (fault : IoFault)
    → AppliesCounted at step bytes notes e e' log log' m n before after → has_ended e.talk ≡ false → fault_of e'.talk ≡ Some fault
    → (brought step e.talk ≡ Some fault) ⊎ ((fault ≡ BrokenPipe) × Rose m n)
applied-fault at step bytes notes e e' log log' m n before after fault a running h =
    elim (applied-cause at step bytes notes e e' log log' (IOError fault) a.applies running (fault-end (end_of e'.talk) fault h)) [ inl step_brings ↦ inl step_brings | inr failed ↦ inr (failed.0, a.counted failed.1.0) ]

-- what a step brings that a port counts is a fault of the port
brought-counted : (step : Step) (t : Talk) (fault : IoFault) → brought step t ≡ Some fault → is_counted fault ≡ true → is_fault step ≡ true
brought-counted LinkFailed t fault h counted = refl
brought-counted Fault t fault h counted = refl
brought-counted End t fault h counted = by (is_open t && is_final (IOError Aborted) t) h
  where
    by : (b : Bool) → (if b then Some Aborted else None) ≡ Some fault → is_fault End ≡ true
    by true k =
        let same : Aborted ≡ fault = cc in
        let none : is_counted fault ≡ false = ap is_counted (sym same) in
        cc
    by false k = cc
brought-counted _ t fault h counted = cc

-- a fault that a step brings, or a write, was counted
pub counted-rose : (step : Step) (t : Talk) (fault : IoFault) (a b c d : ℕ) → a ≤ b → b ≤ c → c ≤ d → HasCause step b c
    → (brought step t ≡ Some fault) ⊎ ((fault ≡ BrokenPipe) × Rose c d) → IsTrue (is_counted fault) → Rose a d
counted-rose step t fault a b c d h1 h2 h3 cause from counted =
    elim from [
      | inl p ↦ rose-between a b c d h1 h3 (cause (brought-counted step t fault p counted))
      | inr p ↦ rose-between a c d d (omega arith) (omega arith) p.1
    ]
