-- The places of the committed frames, as the code keeps them.
use Rattle.std.specs.Prelude.{ℕ, ◌+◌, ◌≤◌, List, length}
use Rattle.std.specs.VecDeque.{deque_capacity}
use Rattle.amqp_outbox.specs.Queued.{Queued, waiting_items}
use Rattle.amqp_outgoing.specs.declared.committed.Committed.{Committed}
use Rattle.amqp_outgoing.specs.declared.committed.Mark.{Mark}

-- the committed frames that are not wholly sent, in order
abbrev pub marks_in : Committed → List Mark
marks_in c = c.marks.items

-- how many frames can be committed until places are made for more
abbrev pub places_in : Committed → ℕ
places_in c = deque_capacity c.marks

-- for so many frames more, beside those that wait, there are places among the committed ones
abbrev pub HasMarkPlaces : ℕ → Queued → Committed → Type 0
HasMarkPlaces frames q c = length (marks_in c) + (length (waiting_items q) + frames) ≤ places_in c
