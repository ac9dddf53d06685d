-- What may come between a checkpoint and the rollback to it.
use Rattle.std.specs.Prelude.{ℕ, List, [], ◌∷◌}
use Rattle.amqp_ring.specs.Ring.{Ring, filled, written, grown}

-- a call that takes no kept byte away
pub data Change : Type 0 where
  -- so many free bytes are kept
  fill : ℕ → Change
  -- these bytes are kept, as far as there is room
  write : List ℕ → Change
  -- the capacity is this, where it was less
  grow : ℕ → Change
  -- the free bytes were lent, and are these
  spaces : List ℕ → Change

-- a buffer after one such call
abbrev pub change : Change → Ring → Ring
change (Change.fill n) b = filled n b
change (Change.write bytes) b = written bytes b
change (Change.grow size) b = grown size b
change (Change.spaces free) b = record b { free = free }

-- a buffer after such calls, in order
abbrev pub changes : List Change → Ring → Ring
changes [] b = b
changes (x ∷ xs) b = changes xs (change x b)
