use Rattle.std.proofs.Common.{◌≡◌, ◌∙◌, ap, sym, List, ◌∷◌, Some, None}
use Rattle.std.specs.Prelude.{map}
use Rattle.amqp_frame.specs.declared.frame.Frame.{Frame}
use Rattle.amqp_frame.specs.declared.frame.Frame.TheVariants.{Raw}
use Rattle.amqp_frame.specs.declared.frame.RawKind.TheVariants.{Body}
use Rattle.amqp_frame.specs.Lengths.{capped}
use Rattle.amqp_outbox.proofs.Cases.{on-ok}
use Rattle.amqp_commands.specs.Publishing.{body_pieces, octets_of_frames}
use Rattle.amqp_rules.specs.Commands.{body_limit, too_full, unless_full, queue_publish}
use Rattle.amqp_session.proofs.session.Session.publish_within.Goals as goal

pub returns-in-Some-clause-ok : goal.returns-in-Some-clause-ok
returns-in-Some-clause-ok c =
    let t = c.args.self.now in
    let frames : List Frame = c.args.method ∷ c.args.header ∷ map (Raw c.args.id Body) (body_pieces (body_limit t) c.args.body.now) in
    let more = c.publish_len-more.ensures c.args.id
    ∙ ap (λ n. capped (octets_of_frames (c.args.method ∷ c.args.header ∷ map (Raw c.args.id Body) (body_pieces n c.args.body.now)))) c.body_limit.ensures.limit in
    let full : too_full frames t ≡ Some c.in-Some.octets = sym (c.overflow.ensures (octets_of_frames frames) more) ∙ c.in-Some.is in
    on-ok c.refuse.result (λ k. k ∙ ap (λ o. unless_full o (queue_publish c.args.id frames) t) (sym full)) c.refuse.ensures.ok

pub returns-in-None-clause-ok : goal.returns-in-None-clause-ok
returns-in-None-clause-ok c =
    let t = c.args.self.now in
    let frames : List Frame = c.args.method ∷ c.args.header ∷ map (Raw c.args.id Body) (body_pieces (body_limit t) c.args.body.now) in
    let more = c.publish_len-more.ensures c.args.id
    ∙ ap (λ n. capped (octets_of_frames (c.args.method ∷ c.args.header ∷ map (Raw c.args.id Body) (body_pieces n c.args.body.now)))) c.body_limit.ensures.limit in
    let full : too_full frames t ≡ None = sym (c.overflow.ensures (octets_of_frames frames) more) ∙ c.in-None.is in
    on-ok c.queue_publish.result (λ k. k ∙ ap (λ o. unless_full o (queue_publish c.args.id frames) t) (sym full)) c.queue_publish.ensures.ok
