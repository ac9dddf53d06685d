use Rattle.std.proofs.Common.{sym, subst}
use Rattle.amqp_engine.specs.Plan.{ArePieces}
use Rattle.amqp_engine.proofs.Pieces.{pieces-push}
use Rattle.lapin_connection_tests.proofs.uses.push.Goals as goal

pub returns : goal.returns
returns c =
    subst ArePieces (sym c.in_ok-push.ensures.items)
    (pieces-push c.args.steps.now.items (record { at = 0; what = c.args.what }) c.requires.before c.requires.piece)
