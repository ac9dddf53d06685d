use Rattle.std.proofs.Common.{◌∙◌}
use Rattle.amqp_replay.proofs.FreeLines.{limited-setup}
use Rattle.amqp_replay.proofs.grammar.content_says.Goals as goal

pub returns-then-is_setup : goal.returns-then-is_setup
returns-then-is_setup c =
    c.in_ok-setup_line.ensures
    ∙ limited-setup c.args.left c.args.content.now c.if-not-is_printable.ensures.all c.if-is_ignored.ensures c.if-is_setup.ensures
