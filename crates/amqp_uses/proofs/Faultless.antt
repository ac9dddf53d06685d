-- A session over a port that never fails ends by no fault that a port counts.
use Rattle.std.proofs.Common.{rules, arith, ◌≡◌, ◌≢◌, inl, inr, false, Option, Some, None, Result, Ok, Err, is_some, refl, ap}
use Rattle.std.specs.Prelude.{IfSome}
use Rattle.amqp_promise.specs.declared.error.ErrorKind.{ErrorKind}
use Rattle.amqp_promise.specs.declared.error.ErrorKind.TheVariants.{IOError, OutOfTurns, NoMemory}
use Rattle.amqp_promise.specs.declared.io_fault.IoFault.{IoFault}
use Rattle.amqp_rules.specs.Answers.{HandsOut}
use Rattle.amqp_engine.specs.Causes.{fault_at}
use Rattle.amqp_types.specs.Counts.{Rose}

abbrev pub End : Type 0
End = Result (Unit {0}) ErrorKind

-- an end by a fault is no other end

one-error : (o : Option End) (e : ErrorKind) (fault : IoFault)
    → o ≡ Some (Err e) → o ≡ Some (Err (IOError fault)) → e ≡ IOError fault
one-error o e fault is fails = grind rules

not-closed : (o : Option End) (u : Unit {0}) (fault : IoFault)
    → o ≡ Some (Ok u) → o ≡ Some (Err (IOError fault)) → ⊥
not-closed o u fault is fails = grind rules

not-refused : (o : Option End) (fault : IoFault)
    → o ≡ Some (Err NoMemory) → o ≡ Some (Err (IOError fault)) → ⊥
not-refused o fault is fails = grind rules

not-running : (r : End) (fault : IoFault) → r ≡ Err OutOfTurns → r ≡ Err (IOError fault) → ⊥
not-running r fault is fails = grind rules

pub no-counted-fault : (o : Option End) (r : End) (fault : IoFault)
    → IfSome o (λ end. HandsOut (Some end) (Some r))
    → (is_some o ≡ false → r ≡ Err OutOfTurns)
    → (fault_at o ≡ Some fault → Rose 0 0)
    → r ≢ Err (IOError fault)
no-counted-fault None r fault ended out rose h = not-running r fault (out refl) h
no-counted-fault (Some (Ok u)) r fault ended out rose h = not-closed (Some r) u fault ended (ap Some h)
no-counted-fault (Some (Err e)) r fault (inl same) out rose h =
    let is : e ≡ IOError fault = one-error (Some r) e fault same (ap Some h) in
    absurd (omega (arith, rose (ap (λ k. fault_at (Some (Err k))) is)))
no-counted-fault (Some (Err e)) r fault (inr refused) out rose h = not-refused (Some r) fault refused (ap Some h)
