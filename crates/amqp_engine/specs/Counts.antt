-- Counts of faults, which never fall.
use Rattle.std.specs.Prelude.{ℕ, Bool, true, false, IsTrue}
use Rattle.amqp_types.specs.Counts.{Rose}
use Rattle.amqp_engine.specs.declared.port.Step.{Step}
use Rattle.amqp_engine.specs.declared.port.Step.TheVariants.{LinkFailed, Fault}

-- a step that tells a fault of the port: a link that is refused, or reading that failed
abbrev pub is_fault : Step → Bool
is_fault LinkFailed = true
is_fault Fault = true
is_fault _ = false

-- a port tells a fault only where its count rose
abbrev pub HasCause : Step → ℕ → ℕ → Type 0
HasCause step before now = IsTrue (is_fault step) → Rose before now
