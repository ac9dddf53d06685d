-- What a sink was given, and how bodies stand one after another in it.
use Rattle.std.specs.Prelude.{◌≡◌, ◌≤◌, ℕ, ◌+◌, ◌-◌, ◌^◌, min, Bool, List, [], ◌∷◌, ◌++◌, length, if◌then◌else◌}
use Rattle.std.specs.Int.{w32, to_be_bytes}
use Rattle.amqp_tools.specs.declared.framing.Framing.{Framing}
use Rattle.amqp_tools.specs.declared.framing.Framing.TheVariants.{Lines, Zeros, Lengths}

-- the octets that a sink took, and those that it was given since
pub record Page : Type 0 where
  pub taken : List ℕ
  pub given : List ℕ

-- it was given these too
abbrev pub give_more : List ℕ → Page → Page
give_more octets page = record page { given = page.given ++ octets }

-- the same, where it was
abbrev pub give_if : Bool → List ℕ → Page → Page
give_if is_given octets page = if is_given then give_more octets page else page

-- it took all that it was given, where it did
abbrev pub take_if : Bool → Page → Page
take_if is_taken page = if is_taken then record { taken = page.taken ++ page.given; given = [] } else page

-- a count of failures after one more, or after none; it stays at the greatest number of 64 bits
abbrev pub count_faults : Bool → ℕ → ℕ
count_faults is_done count = if is_done then count else min (count + 1) (2 ^ 64 - 1)

-- a body whose length four octets can't say, where that stands before it
abbrev pub HasNoLength : Framing → List ℕ → Type 0
HasNoLength framing body = (framing ≡ Lengths) × (2 ^ 32 ≤ length body)

-- a body as it stands among others: ended by a line feed or an octet 0, or behind its length
abbrev pub delimited : Framing → List ℕ → List ℕ
delimited Lines body = body ++ 10 ∷ []
delimited Zeros body = body ++ 0 ∷ []
delimited Lengths body = to_be_bytes w32 (length body) ++ body
