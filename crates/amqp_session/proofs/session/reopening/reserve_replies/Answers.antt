use Rattle.std.proofs.Common.{◌∙◌, ap, sym, subst, ℕ, length, Some, inl, inr, arith}
use Rattle.std.proofs.lemmas.Bool.{cases_eq}
use Rattle.amqp_outbox.specs.declared.reply.Reply.TheVariants.{ChannelOpened}
use Rattle.amqp_outgoing.specs.Outgoings.{HasAwaitedPlace}
use Rattle.amqp_channels.specs.InOrder.{numbers_after}
use Rattle.amqp_session.specs.Reopening.{is_among}
use Rattle.amqp_session.proofs.Reopening.{not-among, no-more-numbers}
use Rattle.amqp_session.proofs.session.reopening.reserve_replies.Goals as goal

pub overflow_add-frames : goal.overflow_add-frames
overflow_add-frames c =
    let more = no-more-numbers c.args.channel_max c.args.channels.now.listed in
    let count = c.channels.invariant.count in
    let next = ap length c.in-Some.ensures.next in
    omega (arith, more, count, next, c.len.ensures, c.len.type_inv)

pub channels-preserved : goal.channels-preserved
channels-preserved c =
    let top = c.args.channel_max in
    let listed = c.args.channels.now.listed in
    let id = c.in-Some.id in
    let rest = numbers_after (Some id) top listed in
    let count = c.channels.invariant.count in
    let next = ap length c.in-Some.ensures.next in
    record {
      same = c.in_ok-reserve_reply.ensures.waits ∙ c.channels.invariant.same;
      marks = c.in_ok-reserve_reply.ensures.marks ∙ c.channels.invariant.marks;
      count = omega (arith, count, next);
      replies = λ n among none.
          elim (cases_eq n id) [
            | inl e ↦
                let P : ℕ → Type 0 = λ m. HasAwaitedPlace m ChannelOpened c.reserve_reply.new.self in
                subst P (sym e) c.in_ok-reserve_reply.ensures.place
            | inr ne ↦
                c.in_ok-reserve_reply.ensures.reply n ChannelOpened ne
                (c.channels.invariant.replies n among
                (not-among id rest (numbers_after c.channels.last top listed) c.in-Some.ensures.next n ne none))
          ];
    }

pub returns-clause-replies : goal.returns-clause-replies
returns-clause-replies c n among =
    c.channels.invariant.replies n among (ap (λ ns. is_among ns n) c.in_default.ensures.none)
