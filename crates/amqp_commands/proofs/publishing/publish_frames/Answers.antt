use Rattle.std.proofs.Common.{rules, ◌≡◌, ◌∙◌, ap, sym, min, ◌++◌, ◌∷◌, [], length, append_assoc}
use Rattle.std.specs.Prelude.{map}
use Rattle.std.specs.Slice.Iter.{chunks_rest}
use Rattle.amqp_frame.specs.declared.frame.Frame.TheVariants.{Raw}
use Rattle.amqp_frame.specs.declared.frame.RawKind.TheVariants.{Body}
use Rattle.amqp_commands.specs.Publishing.{body_pieces}
use Rattle.amqp_commands.proofs.Cutting.{pieces-first}
use Rattle.amqp_commands.proofs.publishing.publish_frames.Goals as goal

pub loop-piece-preserved : goal.loop-piece-preserved
loop-piece-preserved c =
    let steps = c.in-Some.ensures.steps in
    let so_far = c.loop-piece.invariant in
    let frames = c.loop-piece.frames.items in
    let all = chunks_rest c.loop-piece.piece-iterator in
    let rest = chunks_rest c.next.new.self in
    let piece : c.in_ok-piece.piece ≡ c.in-Some.piece.now = c.in_ok-piece.ensures in
    let pieces : body_pieces c.args.limit all ≡ c.in-Some.piece.now ∷ body_pieces c.args.limit rest =
    pieces-first c.args.limit all c.in-Some.piece.now rest c.requires steps.1.0 (steps.1.1 ∙ ap (λ n. min n (length all)) so_far.2) steps.1.2 in
    let longer : c.push-in-loop-piece.new.self.items ≡ frames ++ Raw c.args.id Body c.in_ok-piece.piece ∷ [] = c.in_ok-push-2.ensures.items in (
      search rules,
      tt,
      steps.0 ∙ so_far.2,
      ap (λ l. l ++ map (Raw c.args.id Body) (body_pieces c.args.limit rest)) (longer ∙ ap (λ p. frames ++ Raw c.args.id Body p ∷ []) piece)
          ∙ append_assoc frames (Raw c.args.id Body c.in-Some.piece.now ∷ []) (map (Raw c.args.id Body) (body_pieces c.args.limit rest))
          ∙ ap (λ ps. frames ++ map (Raw c.args.id Body) ps) (sym pieces)
          ∙ so_far.3,
    )
