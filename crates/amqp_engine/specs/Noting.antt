-- What is noted of a turn, as the code keeps it.
use Rattle.std.specs.Prelude.{ℕ, Bool, true, List, [], ◌∷◌}
use Rattle.amqp_engine.specs.declared.record.Noted.{Noted}
use Rattle.amqp_engine.specs.declared.port.Wrote.{Wrote}
use Rattle.amqp_engine.specs.declared.port.Wrote.TheVariants.{Took, Failed, NoMemory}
use Rattle.amqp_engine.specs.Turn.{Notes}

-- what is noted, without the places that are spare
abbrev pub notes_in : Noted → Notes
notes_in n = record { tooks = n.tooks.numbers; failed = n.failed; auths = n.auths.list; starved = n.starved }

-- what the answer to a write adds to the numbers of bytes that were taken: a port to which memory was refused takes
-- nothing
abbrev pub took_by : Wrote → List ℕ
took_by (Took k) = k ∷ []
took_by Failed = []
took_by NoMemory = 0 ∷ []

-- whether a write has failed, once this was answered
abbrev pub fails_by : Bool → Wrote → Bool
fails_by failed Failed = true
fails_by failed _ = failed
