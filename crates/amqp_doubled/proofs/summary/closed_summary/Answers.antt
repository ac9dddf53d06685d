use Rattle.std.proofs.Common.{◌∙◌, ℕ, ap}
use Rattle.amqp_doubled.specs.Doubling.{summary_line}
use Rattle.amqp_doubled.proofs.Summaries.{line-is}
use Rattle.amqp_doubled.proofs.summary.closed_summary.Goals as goal

pub returns : goal.returns
returns c = λ ended.
    c.in_ok-text.ensures ∙ ap (λ (n : ℕ). summary_line c.args.sent n) c.count_ok-answered.ensures.count
    ∙ line-is c.args.sent c.args.engine.now.talk ended
