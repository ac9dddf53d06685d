-- What serving a client by a double does to what is written to the client, and to what is read of it.
use Rattle.std.specs.Prelude.{◌≡◌, ◌<◌, ◌≤◌, ◌⊎◌, ℕ, ◌+◌, ◌-◌, ◌^◌, List, ◌++◌, length, drop, Option, None}
use Rattle.std.specs.Io.KnownBytes.{Appends, Consumes}
use Rattle.amqp_double.specs.Doubles.{DoubleState}
use Rattle.amqp_double_socket.specs.declared.serving.Ended.{Ended}
use Rattle.amqp_double_socket.specs.declared.serving.Ended.TheVariants.{Closed, Left, Refused, Failed, NoMemory}

-- all that it said was sent
abbrev pub HasSentAll : DoubleState → Type 0
HasSentAll d = d.sent ≡ length d.said

-- it said more, behind what had all been sent; the first octets of that were written, in order, and are counted as sent
pub record HasWritten (old new : DoubleState) (before after : Option (List ℕ)) : Type 0 where
  pub more : List ℕ
  pub octets : List ℕ
  pub said : new.said ≡ old.said ++ more
  pub front : more ≡ octets ++ drop new.sent new.said
  pub sent : new.sent ≡ old.sent + length octets
  pub written : Appends before after octets

-- the octets that were read were heard, in order
abbrev pub WasFed : DoubleState → DoubleState → Option (List ℕ) → Option (List ℕ) → Type 0
WasFed old new before after = (octets : List ℕ) × (new.client ≡ old.client ++ octets) × Consumes before after octets

-- the same, where nothing had been refused
abbrev pub FeedsOn : DoubleState → DoubleState → Option (List ℕ) → Option (List ℕ) → Type 0
FeedsOn old new before after = old.refusal ≡ None → WasFed old new before after

-- it said nothing more; the first octets of what was not sent were written, in order, and are counted as sent
pub record Sends (old new : DoubleState) (before after : Option (List ℕ)) : Type 0 where
  pub octets : List ℕ
  pub same : new ≡ record old { sent = new.sent }
  pub front : drop old.sent old.said ≡ octets ++ drop new.sent old.said
  pub sent : new.sent ≡ old.sent + length octets
  pub written : Appends before after octets

-- a count of failures rose, or stands at the greatest number of 64 bits, where it stays
abbrev pub FaultsRise : ℕ → ℕ → Type 0
FaultsRise before now = (before < now) ⊎ (2 ^ 64 - 1 ≤ now)

-- an end before which all that was said was written
abbrev pub EndsWhole : Ended → Type 0
EndsWhole Closed = Unit {0}
EndsWhole Left = Unit {0}
EndsWhole (Refused fault) = Unit {0}
EndsWhole Failed = ⊥
EndsWhole NoMemory = ⊥
