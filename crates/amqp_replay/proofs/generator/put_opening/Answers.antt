use Rattle.std.specs.String.{string_bytes}
use Rattle.amqp_replay.proofs.Generating.{opening-parts}
use Rattle.amqp_replay.proofs.generator.put_opening.Goals as goal

pub returns : goal.returns
returns c =
    opening-parts c.args.id c.to_be_bytes.result (string_bytes c.args.out.now) (string_bytes c.push_str.new.self)
    (string_bytes c.put_digits.new.out) (string_bytes c.push_str-2.new.self) c.to_be_bytes.ensures
    c.in_ok-push_str.ensures.bytes c.in_ok-put_digits.ensures c.in_ok-push_str-2.ensures.bytes
