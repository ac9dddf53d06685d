-- Octets of frames, one after another in tests (AMQP 0-9-1, 4.2.2 and 4.2.3).
use Rattle.std.specs.Prelude.{ℕ, List, [], ◌∷◌}
use Rattle.amqp_types.specs.declared.version.ProtocolVersion.{ProtocolVersion}

-- the greatest frame that every peer takes
abbrev pub limit : ℕ
limit = 4096

-- version 0-9-1
abbrev pub version : ProtocolVersion
version = record { major = 0; minor = 9; revision = 1 }

-- AMQP, an octet that is 0, and the version
abbrev pub header : List ℕ
header = 65 ∷ 77 ∷ 81 ∷ 80 ∷ 0 ∷ 0 ∷ 9 ∷ 1 ∷ []

-- type 8 on channel 0, no payload
abbrev pub heartbeat : List ℕ
heartbeat = 8 ∷ 0 ∷ 0 ∷ 0 ∷ 0 ∷ 0 ∷ 0 ∷ 206 ∷ []

-- the same on channel 1, where none may be
abbrev pub heartbeat_on_1 : List ℕ
heartbeat_on_1 = 8 ∷ 0 ∷ 1 ∷ 0 ∷ 0 ∷ 0 ∷ 0 ∷ 206 ∷ []

-- type 1 on channel 0, class 10, method 51
abbrev pub close_ok : List ℕ
close_ok = 1 ∷ 0 ∷ 0 ∷ 0 ∷ 0 ∷ 0 ∷ 4 ∷ 0 ∷ 10 ∷ 0 ∷ 51 ∷ 206 ∷ []

-- a body of 4,089 octets on channel 1, which makes a frame of one more than the limit
abbrev pub large : List ℕ
large = 3 ∷ 0 ∷ 1 ∷ 0 ∷ 0 ∷ 15 ∷ 249 ∷ []
