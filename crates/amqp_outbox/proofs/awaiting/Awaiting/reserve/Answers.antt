use Rattle.std.proofs.Common.{◌≡◌, ◌∙◌, ap, sym, ℕ, None, Some, is_some}
use Rattle.std.specs.BTreeMap.{BTreeMap}
use Rattle.std.specs.Option.{option_copied_mut}
use Rattle.amqp_outbox.specs.declared.replies.Replies.{Replies}
use Rattle.amqp_outbox.specs.Listed.{at, put}
use Rattle.amqp_outbox.specs.Order.{seen}
use Rattle.amqp_outbox.specs.Parts.{list_seen, some_awaited}
use Rattle.amqp_outbox.proofs.Cases.{on-ok, not-equal}
use Rattle.amqp_outbox.proofs.Seen.{put-unseen}
use Rattle.amqp_outbox.proofs.ByChannel.{keep-seen, place-stays}
use Rattle.amqp_outbox.proofs.awaiting.Awaiting.reserve.Goals as goal

pub returns-in-Some-clause-same : goal.returns-in-Some-clause-same
returns-in-Some-clause-same c =
    let es = c.args.self.now.lists.entries in
    ap (seen list_seen) (c.get_mut.follows.holds c.reserve.new.self).0
    ∙ keep-seen c.args.channel es c.get_mut.ensures.ordered c.in-Some.list.now (sym c.in-Some.ensures.value) c.reserve.new.self c.reserve.ensures.items

pub returns-in-Some-clause-place : goal.returns-in-Some-clause-place
returns-in-Some-clause-place c =
    let r = c.reserve.new.self in
    let there : at c.args.channel c.args.self.now.lists.entries ≡ Some c.in-Some.list.now = sym c.in-Some.ensures.value in
    on-ok c.reserve.result (λ place. (r, ((c.get_mut.follows.holds r).3 (ap is_some there)).1, place)) c.reserve.ensures.place

pub returns-in_ok-insert-in-None-clause-same : goal.returns-in_ok-insert-in-None-clause-same
returns-in_ok-insert-in-None-clause-same c =
    let es = c.args.self.now.lists.entries in
    let list = c.in_ok-list-in-None.list in
    let none : at c.args.channel es ≡ None = sym c.get_mut.ensures.value ∙ ap option_copied_mut c.in-None.is in
    ap (seen list_seen) c.in_ok-insert-in-None.ensures.entries
    ∙ ap (λ (m : BTreeMap ℕ Replies). seen list_seen (put c.args.channel list m.entries)) c.get_mut.follows.holds-at-none
    ∙ put-unseen list_seen c.args.channel list es (ap some_awaited c.in_ok-list-in-None.ensures.0) none

pub returns-in_ok-insert-in-None-clause-place : goal.returns-in_ok-insert-in-None-clause-place
returns-in_ok-insert-in-None-clause-place c =
    (c.in_ok-list-in-None.list, c.in_ok-insert-in-None.ensures.updates.1, c.in_ok-list-in-None.ensures.1)

pub returns-in-Some-clause-others : goal.returns-in-Some-clause-others
returns-in-Some-clause-others c ch reply apart place =
    let there : at c.args.channel c.args.self.now.lists.entries ≡ Some c.in-Some.list.now = sym c.in-Some.ensures.value in
    place-stays ch reply _ _ (((c.get_mut.follows.holds c.reserve.new.self).3 (ap is_some there)).2 ch (not-equal c.args.channel ch apart)) place

pub returns-in_ok-insert-in-None-clause-others : goal.returns-in_ok-insert-in-None-clause-others
returns-in_ok-insert-in-None-clause-others c ch reply apart place =
    place-stays ch reply _ _
    (c.in_ok-insert-in-None.ensures.updates.2 ch (not-equal c.args.channel ch apart)
    ∙ ap (λ (m : BTreeMap ℕ Replies). at ch m.entries) c.get_mut.follows.holds-at-none) place

pub returns-in_err-list-in-None-clause-others : goal.returns-in_err-list-in-None-clause-others
returns-in_err-list-in-None-clause-others c ch reply apart place =
    place-stays ch reply _ _ (ap (λ (m : BTreeMap ℕ Replies). at ch m.entries) c.get_mut.follows.holds-at-none) place

pub returns-in_err-insert-in-None-clause-others : goal.returns-in_err-insert-in-None-clause-others
returns-in_err-insert-in-None-clause-others c ch reply apart place =
    place-stays ch reply _ _
    (ap (at ch) c.in_err-insert-in-None.ensures.err
    ∙ ap (λ (m : BTreeMap ℕ Replies). at ch m.entries) c.get_mut.follows.holds-at-none) place
