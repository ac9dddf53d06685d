use Rattle.std.proofs.Common.{◌∙◌}
use Rattle.std.specs.String.{string_bytes}
use Rattle.amqp_replay.proofs.Generating.{summary-parts}
use Rattle.amqp_replay.proofs.summary.put_summary.Goals as goal

pub returns : goal.returns
returns c =
    summary-parts c.args.sent c.count_ok-answered.result c.args.engine.now.talk (string_bytes c.args.out.now)
    (string_bytes c.put_sent.new.out) (string_bytes c.put_answered.new.out) (string_bytes c.put_end-put.new.out) c.in_ok-end.end
    c.count_ok-answered.ensures.count c.in_ok-put_sent.ensures c.in_ok-put_answered.ensures
    (c.in_ok-end.ensures ∙ c.count_ok-answered.ensures.end) c.in_ok-put.ensures
