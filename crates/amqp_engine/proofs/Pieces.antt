-- The pieces of a script.
use Rattle.std.proofs.Common.{List, [], ◌∷◌, ◌++◌}
use Rattle.amqp_engine.specs.declared.given.Given.{Given}
use Rattle.amqp_engine.specs.Plan.{IsGivenPiece, ArePieces}

-- one step more
pub pieces-push : (gs : List Given) (g : Given) → ArePieces gs → IsGivenPiece g.what → ArePieces (gs ++ g ∷ [])
pieces-push [] g h one = (one, tt)
pieces-push (x ∷ gs) g h one = (h.0, pieces-push gs g h.1 one)
