-- A count of failures that stops at the greatest number of 64 bits.
use Rattle.std.proofs.Common.{ℕ, ◌+◌, ◌-◌, ◌<◌, ◌^◌, min, inl, inr, arith}
use Rattle.std.proofs.lemmas.Bool.{cases_lt}
use Rattle.amqp_replay.specs.Ends.{FailedOnce}

pub counted : (before : ℕ) → before < 2 ^ 64 → FailedOnce before (min (before + 1) (2 ^ 64 - 1))
counted before small =
    elim (cases_lt before (2 ^ 64 - 1)) [
      | inl below ↦ inl (omega (arith, below))
      | inr full ↦ inr (omega (arith, full), omega (arith, small, full))
    ]
