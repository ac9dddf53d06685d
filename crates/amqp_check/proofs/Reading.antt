-- What is read at a place.
use Rattle.std.proofs.Common.{◌≡◌, ◌≤◌, ℕ, ◌+◌, List, length, drop, arith, length-drop}
use Rattle.amqp_frame.specs.declared.frame.Frame.{Frame}
use Rattle.amqp_frame.specs.declared.frame.Read.TheVariants.{Whole}
use Rattle.amqp_frame.specs.FrameReading.{front}
use Rattle.amqp_frame.proofs.Sequences.{frame-size}
use Rattle.amqp_check.specs.Verdicts.{no_limit}

-- a frame that stands at a place has some octets, all of them there
pub whole_next : (bytes : List ℕ) (place : ℕ) (f : Frame) (n : ℕ) → place ≤ length bytes → front (drop place bytes) no_limit ≡ Whole f n
    → (1 ≤ n) × (place + n ≤ length bytes)
whole_next bytes place f n within is =
    let size = frame-size (drop place bytes) no_limit n f is in
    (omega (arith, size.0), omega (arith, size.1, length-drop place bytes))
