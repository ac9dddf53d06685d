use Rattle.std.proofs.Common.{◌∙◌, ap, sym, ◌+◌, ◌*◌, ◌/◌, ◌%◌, min, length}
use Rattle.amqp_frame.specs.Frames.{encoding}
use Rattle.amqp_frame.specs.Lengths.{capped}
use Rattle.amqp_commands.proofs.PublishLengths.{publish-length, capped-parts}
use Rattle.amqp_commands.proofs.publishing.publish_len.Goals as goal

pub returns : goal.returns
returns c = λ id.
    let body = c.args.body.now in
    let size = c.args.limit in
    let m = length (encoding c.args.method.now) in
    let h = length (encoding c.args.header.now) in
    let both = c.saturating_add.ensures ∙ ap (λ n. capped (n + c.encoded_len-2.result)) c.encoded_len.ensures ∙ ap (λ n. capped (capped m + n)) c.encoded_len-2.ensures in
    capped-parts m h (length body) (length body / size + min 1 (length body % size)) c.saturating_mul-around.result c.saturating_add-2.result c.saturating_add.result c.saturating_add-3.result
    (c.saturating_mul-around.ensures ∙ ap (λ n. capped (n * 8)) c.div_ceil.ensures) c.saturating_add-2.ensures both c.saturating_add-3.ensures
    ∙ ap capped (sym (publish-length id size c.args.method.now c.args.header.now body c.requires))
