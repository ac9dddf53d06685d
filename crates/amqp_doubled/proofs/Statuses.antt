-- Which statuses a printout has.
use Rattle.std.proofs.Common.{◌≡◌, ◌<◌, ◌⊎◌, sym, inl, inr, refl, subst, ℕ, Option, Some, None, Result, Ok, Err, arith}
use Rattle.amqp_promise.specs.declared.error.ErrorKind.{ErrorKind}
use Rattle.amqp_rules.specs.Talk.{end_of}
use Rattle.amqp_replay.specs.declared.status.TheConstants.{CLOSED, FAILED, RUNNING}
use Rattle.amqp_replay.specs.Report.{Printout}
use Rattle.amqp_replay.specs.Top.{end_status}
use Rattle.amqp_replay.proofs.Statuses.{IsLoud}
use Rattle.amqp_doubled.specs.Doubling.{IsDoubled}

loud_status : (n : ℕ) → (n < 2) ⊎ (n ≡ 5) ⊎ (n ≡ 6) → IsLoud n
loud_status n which =
    record {
      known = λ h. omega (arith, h, which);
      read = λ h. omega (arith, h, which);
      written = λ h. omega (arith, h, which);
      memory = λ h. omega (arith, h, which);
    }

loud_end : (o : Option (Result (Unit {0}) ErrorKind)) → IsLoud (end_status o)
loud_end None = loud_status RUNNING (inr (inr refl))
loud_end (Some (Ok closed)) = loud_status CLOSED (inl (omega arith))
loud_end (Some (Err e)) = loud_status FAILED (inr (inl refl))

-- something is printed with it
pub doubled-loud : (count : ℕ) (p : Printout) → IsDoubled count p → IsLoud p.status
doubled-loud count p is = subst (λ (x : Printout). IsLoud x.status) (sym is.printed) (loud_end (end_of is.e.talk))
