-- What an answer of the broker means in confirm mode (an extension of RabbitMQ): basic.ack and basic.nack name a
-- publish by its number on the channel, counted from 1.
use Rattle.std.specs.Prelude.{ℕ, Bool, false, List, [], ◌∷◌, length, filter, not, nat_eq, nat_le, ◌||◌, ◌&&◌, Option, Some, None, is_none, position, zero, suc, if◌then◌else◌}
use Rattle.std.specs.Str.{bytes_eq}
use Rattle.amqp_tools.specs.declared.confirms.Open.{Open}

-- an answer with a tag means a publish: that of this number, or with `multiple` all up to it, and all where it is 0
abbrev pub means : ℕ → Bool → ℕ → Bool
means tag multiple publish = if multiple then nat_eq tag 0 || nat_le publish tag else nat_eq publish tag

-- what it leaves without an answer of what had none
abbrev pub left_unanswered : ℕ → Bool → List Open → List Open
left_unanswered tag multiple waiting = filter (λ publish. not (means tag multiple publish.number)) waiting

-- how many of what had none it means
abbrev pub meant : ℕ → Bool → List Open → ℕ
meant tag multiple waiting = length (filter (λ publish. means tag multiple publish.number) waiting)

-- a kept body is this one
abbrev pub is_kept_body : List ℕ → Option (List ℕ) → Bool
is_kept_body body (Some kept) = bytes_eq kept body
is_kept_body body None = false

-- a publish is meant where a message with a body is given back: it was not given back yet
abbrev pub is_given_back : List ℕ → Open → Bool
is_given_back body publish = is_none publish.returned && is_kept_body body publish.body

-- the one at a place is another, and the others stay
abbrev pub map_at : ℕ → (Open → Open) → List Open → List Open
map_at place f [] = []
map_at zero f (publish ∷ others) = f publish ∷ others
map_at (suc place) f (publish ∷ others) = publish ∷ map_at place f others

-- the one at a place is given back with a code
abbrev pub given_back_at : ℕ → Option ℕ → List Open → List Open
given_back_at code (Some place) waiting = map_at place (λ publish. record publish { returned = Some code }) waiting
given_back_at code None waiting = waiting

-- the first of these that is meant is given back with a code
abbrev pub given_back : ℕ → List ℕ → List Open → List Open
given_back code body waiting = given_back_at code (position (is_given_back body) waiting) waiting
