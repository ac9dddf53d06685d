use Rattle.std.proofs.Common.{◌∙◌, ap, ℕ, List, ◌++◌}
use Rattle.amqp_judge.proofs.Pieces.{read_more}
use Rattle.amqp_judge.proofs.side.Side.push.Goals as goal

pub returns-clause-read : goal.returns-clause-read
returns-clause-read c octets frames read =
    read_more octets c.args.piece.now frames c.args.self.now _ c.args.self.now.within c.let_go.ensures.place c.in_ok-let_go.ensures.at
    (c.in_ok-extend_from_slice.ensures.items ∙ ap (λ (xs : List ℕ). xs ++ c.args.piece.now) c.in_ok-let_go.ensures.rest) read
