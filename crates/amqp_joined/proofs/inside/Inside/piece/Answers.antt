use Rattle.std.proofs.Common.{rules}
use Rattle.amqp_joined.proofs.Steps.{place_piece}
use Rattle.amqp_joined.proofs.Called.{piece_by}
use Rattle.amqp_joined.proofs.inside.Inside.piece.Goals as goal

pub mark-requires : goal.mark-requires
mark-requires c = place_piece c.args.self.now c.requires.holds c.requires.some

pub returns-clause-tells : goal.returns-clause-tells
returns-clause-tells c =
    piece_by c.args.self.now c.mark.new.self _ _ _ _ _ c.requires.holds c.requires.linked c.requires.long c.requires.some c.mark.ensures.same c.put-count.ensures.count (search rules) (search rules)
    (search rules) c.put-count.ensures.octets c.mark.ensures.marks c.mark.ensures.places
