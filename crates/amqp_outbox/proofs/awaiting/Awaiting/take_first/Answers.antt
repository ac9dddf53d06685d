use Rattle.std.proofs.Common.{◌≡◌, ◌∙◌, ap, sym, refl, ℕ, List, None}
use Rattle.std.specs.Prelude.{drop}
use Rattle.std.specs.BTreeMap.{BTreeMap}
use Rattle.std.specs.Option.{option_copied_mut}
use Rattle.amqp_outbox.specs.declared.replies.Replies.{Replies}
use Rattle.amqp_outbox.specs.declared.reply.Awaited.{Awaited}
use Rattle.amqp_outbox.specs.Lists.{head}
use Rattle.amqp_outbox.specs.Listed.{at}
use Rattle.amqp_outbox.specs.Order.{seen}
use Rattle.amqp_outbox.specs.Parts.{list_seen}
use Rattle.amqp_outbox.proofs.Seen.{sorted-seen}
use Rattle.amqp_outbox.proofs.ByChannel.{awaited-seen, take-seen, none-awaited, none-taken-out}
use Rattle.amqp_outbox.proofs.awaiting.Awaiting.take_first.Goals as goal

pub returns-in-Some-clause-first : goal.returns-in-Some-clause-first
returns-in-Some-clause-first c =
    let es = c.args.self.now.lists.entries in
    c.next.ensures.first ∙ ap (head {X = Awaited}) (sym (awaited-seen c.args.channel es c.get_mut.ensures.ordered c.in-Some.list.now (sym c.in-Some.ensures.value)))

pub returns-in-Some-clause-rest : goal.returns-in-Some-clause-rest
returns-in-Some-clause-rest c =
    let es = c.args.self.now.lists.entries in
    ap (seen list_seen) (c.get_mut.follows.holds c.next.new.self).0
    ∙ take-seen c.args.channel es c.get_mut.ensures.ordered c.in-Some.list.now (sym c.in-Some.ensures.value) (λ (l : List Awaited). drop 1 l) c.next.new.self c.next.ensures.rest

pub returns-in-None-clause-first : goal.returns-in-None-clause-first
returns-in-None-clause-first c =
    let es = c.args.self.now.lists.entries in
    let none : at c.args.channel es ≡ None = sym c.get_mut.ensures.value ∙ ap option_copied_mut c.in-None.is in
    sym (ap (head {X = Awaited}) (none-awaited c.args.channel es c.get_mut.ensures.ordered none))

pub returns-in-None-clause-rest : goal.returns-in-None-clause-rest
returns-in-None-clause-rest c =
    let es = c.args.self.now.lists.entries in
    let none : at c.args.channel es ≡ None = sym c.get_mut.ensures.value ∙ ap option_copied_mut c.in-None.is in
    ap (λ (m : BTreeMap ℕ Replies). seen list_seen m.entries) c.get_mut.follows.holds-at-none
    ∙ none-taken-out c.args.channel es c.get_mut.ensures.ordered none (λ (l : List Awaited). drop 1 l) refl

pub returns-in-Some-clause-ordered : goal.returns-in-Some-clause-ordered
returns-in-Some-clause-ordered c = sorted-seen list_seen c.args.self.now.lists.entries c.get_mut.ensures.ordered

pub returns-in-None-clause-ordered : goal.returns-in-None-clause-ordered
returns-in-None-clause-ordered c = sorted-seen list_seen c.args.self.now.lists.entries c.get_mut.ensures.ordered
