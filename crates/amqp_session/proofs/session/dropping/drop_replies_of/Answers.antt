use Rattle.std.proofs.Common.{◌≡◌, ◌∙◌, ap, sym, ℕ, List, Option, None, Some, length, arith}
use Rattle.amqp_types.specs.declared.word.Word.TheVariants as word
use Rattle.amqp_outgoing.specs.Outgoings.{queue_of}
use Rattle.amqp_outbox.specs.Queued.{Queued, reply_promise, without_reply}
use Rattle.amqp_promise.specs.declared.state.ChannelState.TheVariants as channel
use Rattle.amqp_promise.specs.declared.error.ErrorKind.{ErrorKind}
use Rattle.amqp_promise.specs.declared.error.ErrorKind.TheVariants.{InvalidChannelState}
use Rattle.amqp_answers.specs.Settled.{Promises}
use Rattle.amqp_rules.specs.Changes.{rejected_each, replies_on, without_replies_on}
use Rattle.amqp_answers.specs.Seen.{promised}
use Rattle.amqp_session.proofs.Going.{ReplyGoes, reply-goes, no-replies, replies-gone}
use Rattle.amqp_session.proofs.session.dropping.drop_replies_of.Goals as goal

abbrev closed : ErrorKind
closed = InvalidChannelState channel.Closed word.ChannelCloseOkReceived

pub replies-smaller : goal.replies-smaller
replies-smaller c =
    let n = c.args.id in
    let q : Queued = queue_of c.replies.outgoing in
    let there : reply_promise n q ≡ Some c.in-Some.promise = sym c.drop_reply.ensures.promise ∙ c.in-Some.is in
    let goes : ReplyGoes n q c.in-Some.promise = reply-goes n q c.drop_reply.ensures.ordered c.in-Some.promise there in
    omega (
      arith,
      ap (λ (x : Queued). length (replies_on n x)) c.drop_reply.ensures.rest,
      ap (λ (ps : List (Option ℕ)). length ps) goes.first,
    )

pub replies-preserved : goal.replies-preserved
replies-preserved c =
    let n = c.args.id in
    let q : Queued = queue_of c.replies.outgoing in
    let there : reply_promise n q ≡ Some c.in-Some.promise = sym c.drop_reply.ensures.promise ∙ c.in-Some.is in
    let goes : ReplyGoes n q c.in-Some.promise = reply-goes n q c.drop_reply.ensures.ordered c.in-Some.promise there in
    record {
      left = ap (without_replies_on n) c.drop_reply.ensures.rest ∙ goes.left ∙ c.replies.invariant.left;
      marks = c.drop_reply.ensures.marks ∙ c.replies.invariant.marks;
      made = c.reject.ensures.made ∙ c.replies.invariant.made;
      slots =
          ap (λ (x : Queued). rejected_each closed (replies_on n x) (promised c.reject.new.self)) c.drop_reply.ensures.rest
          ∙ ap (λ (x : Promises). rejected_each closed (replies_on n (without_reply n q)) x) c.reject.ensures.slots
          ∙ ap (λ ps. rejected_each closed ps (promised c.replies.promises)) (sym goes.first)
          ∙ c.replies.invariant.slots;
    }

pub returns-clause-left : goal.returns-clause-left
returns-clause-left c =
    let n = c.args.id in
    let q : Queued = queue_of c.replies.outgoing in
    let none : reply_promise n q ≡ None = sym c.drop_reply.ensures.promise ∙ c.in_default.is in
    c.drop_reply.ensures.rest ∙ replies-gone n q none ∙ c.replies.invariant.left

pub returns-clause-slots : goal.returns-clause-slots
returns-clause-slots c =
    let n = c.args.id in
    let q : Queued = queue_of c.replies.outgoing in
    let none : reply_promise n q ≡ None = sym c.drop_reply.ensures.promise ∙ c.in_default.is in
    ap (λ ps. rejected_each closed ps (promised c.replies.promises)) (sym (no-replies n q none)) ∙ c.replies.invariant.slots
