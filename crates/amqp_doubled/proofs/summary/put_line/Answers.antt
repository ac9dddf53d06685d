use Rattle.std.specs.Prelude.{codes}
use Rattle.std.specs.String.{string_bytes}
use Rattle.amqp_replay.specs.Summary.{sent_text, answered_text}
use Rattle.amqp_doubled.proofs.Summaries.{parts}
use Rattle.amqp_doubled.proofs.summary.put_line.Goals as goal

pub returns : goal.returns
returns c =
    parts (string_bytes c.args.out.now) (string_bytes c.put_sent.new.out) (string_bytes c.put_answered.new.out)
    (string_bytes c.push_str.new.self) (sent_text c.args.sent) (answered_text c.args.answered) (codes "end closed\n")
    c.in_ok-put_sent.ensures c.in_ok-put_answered.ensures c.in_ok-push_str.ensures.bytes
