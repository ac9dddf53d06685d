use Rattle.std.proofs.Common.{◌≡◌, ◌∙◌, ap, sym, subst, Some, is_some}
use Rattle.amqp_outbox.specs.Listed.{at}
use Rattle.amqp_outbox.specs.Order.{seen}
use Rattle.amqp_outbox.specs.Parts.{list_seen, HasRoomForReply}
use Rattle.amqp_outbox.proofs.Cases.{not-equal}
use Rattle.amqp_outbox.proofs.ByChannel.{expect-seen, place-stays}
use Rattle.amqp_outbox.proofs.awaiting.Awaiting.expect_reserved.Goals as goal

pub push_reserved-requires : goal.push_reserved-requires
push_reserved-requires c =
    let same : c.requires.0 ≡ c.in-Some.list.now = cc (c.requires.1, c.in-Some.ensures.value) in
    subst (HasRoomForReply) same c.requires.2

pub returns-in-Some-clause-expected : goal.returns-in-Some-clause-expected
returns-in-Some-clause-expected c =
    let es = c.args.self.now.lists.entries in
    ap (seen list_seen) (c.get_mut.follows.holds c.push_reserved.new.self).0
    ∙ expect-seen c.args.channel es c.get_mut.ensures.ordered c.in-Some.list.now (sym c.in-Some.ensures.value) c.push_reserved.new.self c.args.awaited c.push_reserved.ensures

pub returns-in-Some-clause-others : goal.returns-in-Some-clause-others
returns-in-Some-clause-others c ch reply apart place =
    let there : at c.args.channel c.args.self.now.lists.entries ≡ Some c.in-Some.list.now = sym c.in-Some.ensures.value in
    place-stays ch reply _ _ (((c.get_mut.follows.holds c.push_reserved.new.self).3 (ap is_some there)).2 ch (not-equal c.args.channel ch apart)) place
