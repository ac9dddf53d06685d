-- The pieces so far, and those of what is left, are those of the whole.
use Rattle.std.proofs.Common.{◌≡◌, ◌++◌}
use Rattle.std.specs.Prelude.{map}
use Rattle.std.specs.Slice.Iter.{chunks_rest, chunks_size}
use Rattle.amqp_frame.specs.declared.frame.Frame.TheVariants.{Raw}
use Rattle.amqp_frame.specs.declared.frame.RawKind.TheVariants.{Body}
use Rattle.amqp_commands.specs.Publishing.{body_pieces}
use Rattle.amqp_commands.proofs.publishing.publish_frames.Given as goal

abbrev pub invariant-loop-piece : goal.invariant-loop-piece
invariant-loop-piece l =
    goal.iterator-loop-piece.can_next l.piece-iterator
    × goal.iterator-loop-piece.is_finite l.piece-iterator
    × (chunks_size l.piece-iterator ≡ l.limit)
    × (l.frames.items ++ map (Raw l.id Body) (body_pieces l.limit (chunks_rest l.piece-iterator))
    ≡ l.initial.frames.items ++ map (Raw l.id Body) (body_pieces l.limit (chunks_rest l.initial.piece-iterator)))
