-- How one run of memory holds a buffer, round its end.
use Rattle.std.specs.Prelude.{ℕ, ◌+◌, ◌-◌, List, ◌++◌, take, drop, nat_lt, if◌then◌else◌}
use Rattle.amqp_ring.specs.Ring.{Ring}

-- the bytes from a place on, round the end
abbrev pub rotate : ℕ → List ℕ → List ℕ
rotate place bytes = drop place bytes ++ take place bytes

-- the place that is so many bytes further on, round the end
abbrev pub wrap : ℕ → ℕ → ℕ → ℕ
wrap size place count = if nat_lt (place + count) size then place + count else place + count - size

-- from the position on stand the kept bytes, and behind them the free ones
abbrev pub ring_of : ℕ → ℕ → List ℕ → Ring
ring_of position kept memory =
    record { kept = take kept (rotate position memory); free = drop kept (rotate position memory) }
