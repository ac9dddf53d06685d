use Rattle.std.proofs.Common.{◌≡◌, ◌≤◌, ◌∙◌, ap, sym, ℕ, List, ◌∷◌, length, arith}
use Rattle.std.specs.Prelude.{map}
use Rattle.amqp_frame.specs.declared.frame.Frame.{Frame}
use Rattle.amqp_frame.specs.declared.frame.Frame.TheVariants.{Raw}
use Rattle.amqp_frame.specs.declared.frame.RawKind.TheVariants.{RawMethod, Header, Body}
use Rattle.amqp_frame.specs.Frames.{encoding}
use Rattle.amqp_outbox.proofs.Cases.{on-ok}
use Rattle.amqp_rules.specs.Talk.{Talk}
use Rattle.amqp_commands.specs.Publishing.{content_header, body_pieces}
use Rattle.amqp_rules.specs.Commands.{too_full, unless_full, body_limit, queue_publish}
use Rattle.amqp_session.proofs.TooLong.{publish-fits, neither, none-gives}
use Rattle.amqp_session.proofs.session.Session.publish.Goals as goal

pub returns-in-None-clause-ok : goal.returns-in-None-clause-ok
returns-in-None-clause-ok c =
    let t = c.args.self.now in
    let none = neither c.excess.result c.excess-2.result (sym c.or.ensures ∙ c.in-None.is) in
    let method = c.into_payload.result in
    let header = c.in_ok-head.head in
    let first : length (encoding (Raw c.args.id RawMethod method)) ≤ t.capacity = none-gives c.excess.result none.0 c.excess.ensures.fits in
    let second : length (encoding (Raw c.args.id Header header)) ≤ t.capacity = none-gives c.excess-2.result none.1 c.excess-2.ensures.fits in
    let least = c.octets.ensures.large in
    let held = c.octets.ensures.octets in
    let same = ap (λ (u : Talk). u.capacity) c.self.view_is in
    let is_header : header ≡ content_header c.args.method.class (length c.args.body.now) c.args.properties.now =
    c.in_ok-head.ensures
    ∙ ap (λ n. content_header n c.len.result c.args.properties.now) c.class_id.ensures.class
    ∙ ap (λ n. content_header c.args.method.class n c.args.properties.now) c.len.ensures in
    let made : List ℕ → List Frame =
    λ b. Raw c.args.id RawMethod method ∷ Raw c.args.id Header header ∷ map (Raw c.args.id Body) (body_pieces (body_limit t) b) in
    on-ok c.publish_within.result
    (λ k. k
    ∙ ap (λ b. unless_full (too_full (made b) t) (queue_publish c.args.id (made b)) t)
    c.as_bytes.ensures
    ∙ sym (publish-fits c.args.id c.args.method c.args.properties.now c.args.body.now t method header c.into_payload.ensures.payload is_header
    (omega (arith, least, held, same)) first second))
    c.publish_within.ensures.ok
