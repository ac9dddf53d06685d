use Rattle.std.proofs.Common.{◌≡◌, ◌∙◌, ap, sym, refl, ℕ, List, Option, Some, length, arith}
use Rattle.amqp_outbox.specs.declared.scope.Scope.TheVariants.{All}
use Rattle.amqp_outgoing.specs.Outgoings.{queue_of}
use Rattle.amqp_outbox.specs.Queued.{Queued, dropped_promise, without_any}
use Rattle.amqp_answers.specs.Settled.{Promises}
use Rattle.amqp_rules.specs.Changes.{rejected_each, promises_on, without_all_on}
use Rattle.amqp_answers.specs.Seen.{promised}
use Rattle.amqp_session.proofs.Going.{Goes, goes, AllGone, all-gone}
use Rattle.amqp_session.proofs.session.dropping.drop_channel_of.Goals as goal

pub things-smaller : goal.things-smaller
things-smaller c =
    let n = c.args.id in
    let q : Queued = queue_of c.things.outgoing in
    let there : dropped_promise n All q ≡ Some c.in-Some.promise = sym c.drop_channel.ensures.promise ∙ c.in-Some.is in
    let one : Goes n q c.in-Some.promise = goes n q (c.drop_channel.ensures.ordered refl) c.in-Some.promise there in
    omega (
      arith,
      ap (λ (x : Queued). length (promises_on n x)) c.drop_channel.ensures.rest,
      ap (λ (ps : List (Option ℕ)). length ps) one.first,
    )

pub things-preserved : goal.things-preserved
things-preserved c =
    let n = c.args.id in
    let q : Queued = queue_of c.things.outgoing in
    let there : dropped_promise n All q ≡ Some c.in-Some.promise = sym c.drop_channel.ensures.promise ∙ c.in-Some.is in
    let one : Goes n q c.in-Some.promise = goes n q (c.drop_channel.ensures.ordered refl) c.in-Some.promise there in
    record {
      left = ap (without_all_on n) c.drop_channel.ensures.rest ∙ one.left ∙ c.things.invariant.left;
      marks = c.drop_channel.ensures.marks ∙ c.things.invariant.marks;
      frames = λ k m octets has. c.drop_channel.ensures.frames k m octets (c.things.invariant.frames k m octets has);
      made = c.reject_with.ensures.made ∙ c.things.invariant.made;
      whys = λ why. c.reject_with.ensures.whys why ∙ c.things.invariant.whys why;
      slots = λ e has.
          ap (λ (x : Queued). rejected_each e (promises_on n x) (promised c.reject_with.new.self)) c.drop_channel.ensures.rest
          ∙ ap (λ (x : Promises). rejected_each e (promises_on n (without_any n q)) x)
          (c.reject_with.ensures.slots e (c.things.invariant.whys c.args.why.now ∙ has))
          ∙ ap (λ ps. rejected_each e ps (promised c.things.promises)) (sym one.first)
          ∙ c.things.invariant.slots e has;
    }

pub returns-clause-left : goal.returns-clause-left
returns-clause-left c =
    let n = c.args.id in
    let q : Queued = queue_of c.things.outgoing in
    let gone : AllGone n q = all-gone n q (sym c.drop_channel.ensures.promise ∙ c.in_default.is) in
    c.drop_channel.ensures.rest ∙ gone.left ∙ c.things.invariant.left

pub returns-clause-frames : goal.returns-clause-frames
returns-clause-frames c k m octets has =
    c.drop_channel.ensures.frames k m octets (c.things.invariant.frames k m octets has)

pub returns-clause-slots : goal.returns-clause-slots
returns-clause-slots c e has =
    let n = c.args.id in
    let q : Queued = queue_of c.things.outgoing in
    let gone : AllGone n q = all-gone n q (sym c.drop_channel.ensures.promise ∙ c.in_default.is) in
    ap (λ ps. rejected_each e ps (promised c.things.promises)) (sym gone.none) ∙ c.things.invariant.slots e has
