-- How many bytes there are, kept and free.
use Rattle.std.proofs.Common.{◌≡◌, ℕ, ◌+◌, ◌-◌, List, length, take, drop, arith, length-append, length-drop, length-take}
use Rattle.std.specs.Prelude.{max, replicate}
use Rattle.std.proofs.lemmas.List.{length-replicate}
use Rattle.amqp_ring.specs.Ring.{Ring, capacity, consumed, filled, written, rolled_back, grown, emptied}
use Rattle.amqp_ring.proofs.Parts.{drop_cut, length-parts}

pub capacity-consumed : (b : Ring) (n : ℕ) → capacity (consumed n b) ≡ capacity b
capacity-consumed b n = omega (arith, length-parts n b.kept, length-append b.free (take n b.kept))

pub capacity-filled : (b : Ring) (n : ℕ) → capacity (filled n b) ≡ capacity b
capacity-filled b n = omega (arith, length-parts n b.free, length-append b.kept (take n b.free))

pub capacity-written : (b : Ring) (bytes : List ℕ) → capacity (written bytes b) ≡ capacity b
capacity-written b bytes = omega (
  arith,
  length-append b.kept (take (length b.free) bytes),
  length-take (length b.free) bytes,
  length-drop (length bytes) b.free,
)

pub capacity-rolled_back : (b : Ring) (n : ℕ) → capacity (rolled_back n b) ≡ capacity b
capacity-rolled_back b n = omega (arith, length-parts n b.kept, length-append (drop n b.kept) b.free)

pub capacity-emptied : (b : Ring) → capacity (emptied b) ≡ capacity b
capacity-emptied b = omega (arith, length-append b.kept b.free)

pub capacity-grown : (b : Ring) (size : ℕ) → capacity (grown size b) ≡ max size (capacity b)
capacity-grown b size =
    let added = size - capacity b in
    omega (arith, length-append b.free (replicate added 0), length-replicate {A = ℕ} added 0)

-- as many bytes as lie before a rest are consumed
pub rest_stays : (b : Ring) (n offset : ℕ) → offset + length (drop n b.kept) ≡ length b.kept
    → (consumed offset b).kept ≡ drop n b.kept
rest_stays b n offset lies = drop_cut b.kept n offset (omega (arith, length-drop n b.kept))
