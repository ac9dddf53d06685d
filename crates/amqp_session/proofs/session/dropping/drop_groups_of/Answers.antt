use Rattle.std.proofs.Common.{◌≡◌, ◌∙◌, ◌<◌, ap, sym, None, Some, length, arith}
use Rattle.amqp_types.specs.declared.word.Word.TheVariants as word
use Rattle.amqp_outgoing.specs.Outgoings.{queue_of}
use Rattle.amqp_outbox.specs.Queued.{Queued, group_promise, without_group}
use Rattle.amqp_promise.specs.declared.state.ChannelState.TheVariants as channel
use Rattle.amqp_promise.specs.declared.error.ErrorKind.{ErrorKind}
use Rattle.amqp_promise.specs.declared.error.ErrorKind.TheVariants.{InvalidChannelState}
use Rattle.amqp_rules.specs.Talk.{Talk}
use Rattle.amqp_answers.specs.Settled.{Promises}
use Rattle.amqp_rules.specs.Changes.{drop_groups_of}
use Rattle.amqp_answers.specs.Seen.{promised}
use Rattle.amqp_session.proofs.Rejecting.{with_parts, one-dropped, fewer-groups, none-dropped, none-less}
use Rattle.amqp_session.proofs.session.dropping.drop_groups_of.Goals as goal

abbrev closed : ErrorKind
closed = InvalidChannelState channel.Closing word.ChannelClose

pub groups-smaller : goal.groups-smaller
groups-smaller c =
    let q : Queued = queue_of c.groups.outgoing in
    let there : group_promise c.args.id q ≡ Some c.in-Some.promise = sym c.drop_channel.ensures.promise ∙ c.in-Some.is in
    let less : length (without_group c.args.id q).publish < length q.publish =
    fewer-groups c.args.id closed (with_parts q (promised c.groups.promises)) c.in-Some.promise there in
    let lower : length (queue_of c.drop_channel.new.self).publish < length q.publish =
    omega (arith, ap (λ (x : Queued). length x.publish) c.drop_channel.ensures.rest, less) in
    lower

pub groups-preserved : goal.groups-preserved
groups-preserved c =
    let n = c.args.id in
    let q : Queued = queue_of c.groups.outgoing in
    let promises : Promises = promised c.groups.promises in
    let there : group_promise n q ≡ Some c.in-Some.promise = sym c.drop_channel.ensures.promise ∙ c.in-Some.is in
    record {
      goes_on =
          ap (λ (x : Queued). drop_groups_of n closed (with_parts x (promised c.reject.new.self))) c.drop_channel.ensures.rest
          ∙ ap (λ (x : Promises). drop_groups_of n closed (with_parts (without_group n q) x)) c.reject.ensures.slots
          ∙ one-dropped n closed (with_parts q promises) c.in-Some.promise there
          ∙ c.groups.invariant.goes_on;
      made = c.reject.ensures.made ∙ c.groups.invariant.made;
      place = λ h. c.reject.ensures.place (c.groups.invariant.place h);
      marks = c.drop_channel.ensures.marks ∙ c.groups.invariant.marks;
    }

pub returns-clause-left : goal.returns-clause-left
returns-clause-left c =
    let n = c.args.id in
    let q : Queued = queue_of c.groups.outgoing in
    let t : Talk = with_parts q (promised c.groups.promises) in
    let none : group_promise n q ≡ None = sym c.drop_channel.ensures.promise ∙ c.in_default.is in
    c.drop_channel.ensures.rest ∙ none-less n closed t none
    ∙ ap (λ (x : Talk). x.outbox) (sym (none-dropped n closed t none) ∙ c.groups.invariant.goes_on)

pub returns-clause-slots : goal.returns-clause-slots
returns-clause-slots c =
    let n = c.args.id in
    let q : Queued = queue_of c.groups.outgoing in
    let t : Talk = with_parts q (promised c.groups.promises) in
    let none : group_promise n q ≡ None = sym c.drop_channel.ensures.promise ∙ c.in_default.is in
    ap (λ (x : Talk). x.promises) (sym (none-dropped n closed t none) ∙ c.groups.invariant.goes_on)
