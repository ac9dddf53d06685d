use Rattle.std.proofs.Common.{◌≡◌, ◌∙◌, ◌+◌, ◌*◌, ap, sym, subst, ℕ, suc, List, ◌∷◌, length, None, Some, arith}
use Rattle.amqp_outbox.specs.declared.item.Item.{Item}
use Rattle.amqp_outbox.specs.declared.reply.Reply.TheVariants.{ChannelOpened}
use Rattle.amqp_outbox.specs.Items.{plain_item, size_of, dropped_with}
use Rattle.amqp_outbox.specs.Queued.{Queued, pushed_control, with_awaited}
use Rattle.amqp_outgoing.specs.Outgoings.{queue_of, HasFramePlaces}
use Rattle.amqp_channels.specs.InOrder.{numbers_after}
use Rattle.amqp_session.specs.Reopening.{open_item, reopened, reopened_each, HasOpenPlaces}
use Rattle.amqp_outgoing.proofs.Room.{fewer-frames}
use Rattle.amqp_session.proofs.Reopening.{among-first, among-more, others-after}
use Rattle.amqp_session.proofs.session.reopening.reopen.Goals as goal

pub expect_reserved-requires : goal.expect_reserved-requires
expect_reserved-requires c =
    let top = c.args.channel_max in
    let listed = c.args.channels.now.listed in
    let id = c.in-Some.id in
    c.say_reserved.ensures.reply id ChannelOpened
    (c.channels.invariant.replies id
    (among-first id (numbers_after (Some id) top listed) (numbers_after c.channels.last top listed) c.in-Some.ensures.next))

pub channels-preserved : goal.channels-preserved
channels-preserved c =
    let top = c.args.channel_max in
    let listed = c.args.channels.now.listed in
    let id = c.in-Some.id in
    let rest = numbers_after (Some id) top listed in
    let left = numbers_after c.channels.last top listed in
    let q : Queued = queue_of c.channels.outgoing in
    let item : c.plain.result ≡ open_item id = c.plain.ensures ∙ ap (plain_item id) c.channel_open.ensures in
    let said : queue_of c.expect_reserved.new.self ≡ reopened id q =
    c.expect_reserved.ensures.waits
    ∙ ap (with_awaited id (record { reply = ChannelOpened; promise = None })) (c.say_reserved.ensures.waits ∙ ap (λ (i : Item). pushed_control i q) item) in
    let Lane : Item → Type 0 = λ i. (n octets : ℕ) → HasFramePlaces (dropped_with i) (suc n) (size_of i + octets) c.channels.outgoing
    → HasFramePlaces (dropped_with i) n octets c.say_reserved.new.self in
    let lane : Lane (open_item id) = subst Lane item c.say_reserved.ensures.frames in
    let Frames : List ℕ → Type 0 = λ ns. HasOpenPlaces ns c.channels.outgoing in
    let frames : HasOpenPlaces (id ∷ rest) c.channels.outgoing = subst Frames c.in-Some.ensures.next c.channels.invariant.frames in
    record {
      said =
          ap (reopened_each rest) said
          ∙ ap (λ (ns : List ℕ). reopened_each ns q) (sym c.in-Some.ensures.next)
          ∙ c.channels.invariant.said;
      marks = c.expect_reserved.ensures.marks ∙ c.say_reserved.ensures.marks ∙ c.channels.invariant.marks;
      frames = λ some.
          c.expect_reserved.ensures.frames None (length rest) (length rest * 13)
          (lane (length rest) (length rest * 13)
          (fewer-frames None (suc (length rest)) (suc (length rest)) (suc (length rest) * 13) (13 + length rest * 13) c.channels.outgoing
          (omega arith) (omega arith) (frames (omega arith))));
      replies = λ n among.
          c.expect_reserved.ensures.reply n ChannelOpened (others-after id top listed n among)
          (c.say_reserved.ensures.reply n ChannelOpened
          (c.channels.invariant.replies n (among-more id rest left c.in-Some.ensures.next n among)));
    }
