-- A count of failures that stops at the greatest number of 64 bits.
use Rattle.std.proofs.Common.{ℕ, ◌+◌, ◌-◌, ◌≤◌, ◌<◌, ◌^◌, min, inl, inr, arith}
use Rattle.std.proofs.lemmas.Bool.{cases_lt}
use Rattle.amqp_double_socket.specs.Serving.{FaultsRise}

-- it does not fall
pub rises : (before : ℕ) → before < 2 ^ 64 → before ≤ min (before + 1) (2 ^ 64 - 1)
rises before small = omega (arith, small)

-- it rises, or stands there
pub fails : (before : ℕ) → before < 2 ^ 64 → FaultsRise before (min (before + 1) (2 ^ 64 - 1))
fails before small =
    elim (cases_lt before (2 ^ 64 - 1)) [
      | inl below ↦ inl (omega (arith, below))
      | inr full ↦ inr (omega (arith, full))
    ]

-- a failure behind others
pub fails_on : (before between now : ℕ) → before ≤ between → FaultsRise between now → FaultsRise before now
fails_on before between now rose (inl more) = inl (omega (arith, rose, more))
fails_on before between now rose (inr full) = inr full

-- and one before others
pub fails_then : (before between now : ℕ) → FaultsRise before between → between ≤ now → FaultsRise before now
fails_then before between now (inl more) rose = inl (omega (arith, rose, more))
fails_then before between now (inr full) rose = inr (omega (arith, full, rose))
