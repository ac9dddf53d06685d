use Rattle.std.proofs.Common.{◌≡◌, ◌∙◌, ap, sym, refl, ℕ, None}
use Rattle.std.specs.Prelude.{find}
use Rattle.std.specs.BTreeMap.{BTreeMap}
use Rattle.std.specs.Option.{option_copied_mut}
use Rattle.amqp_outbox.specs.declared.replies.Replies.{Replies}
use Rattle.amqp_outbox.specs.Lists.{without_first}
use Rattle.amqp_outbox.specs.Listed.{at}
use Rattle.amqp_outbox.specs.Replies.{is_of}
use Rattle.amqp_outbox.specs.Order.{seen}
use Rattle.amqp_outbox.specs.Parts.{list_seen}
use Rattle.amqp_outbox.proofs.Cases.{on-none}
use Rattle.amqp_outbox.proofs.ByChannel.{awaited-seen, take-seen, keep-seen, none-awaited, none-taken-out}
use Rattle.amqp_outbox.proofs.Taking.{none-left_out}
use Rattle.amqp_outbox.proofs.awaiting.Awaiting.take.Goals as goal

pub returns-in-Some-clause-first : goal.returns-in-Some-clause-first
returns-in-Some-clause-first c =
    let es = c.args.self.now.lists.entries in
    c.take.ensures.first ∙ ap (find (is_of c.args.reply)) (sym (awaited-seen c.args.channel es c.get_mut.ensures.ordered c.in-Some.list.now (sym c.in-Some.ensures.value)))

pub returns-in-Some-clause-rest : goal.returns-in-Some-clause-rest
returns-in-Some-clause-rest c =
    let es = c.args.self.now.lists.entries in
    ap (seen list_seen) (c.get_mut.follows.holds c.take.new.self).0
    ∙ take-seen c.args.channel es c.get_mut.ensures.ordered c.in-Some.list.now (sym c.in-Some.ensures.value) (without_first (is_of c.args.reply)) c.take.new.self c.take.ensures.rest

pub returns-in-None-clause-first : goal.returns-in-None-clause-first
returns-in-None-clause-first c =
    let es = c.args.self.now.lists.entries in
    let none : at c.args.channel es ≡ None = sym c.get_mut.ensures.value ∙ ap option_copied_mut c.in-None.is in
    sym (ap (find (is_of c.args.reply)) (none-awaited c.args.channel es c.get_mut.ensures.ordered none))

pub returns-in-None-clause-rest : goal.returns-in-None-clause-rest
returns-in-None-clause-rest c =
    let es = c.args.self.now.lists.entries in
    let none : at c.args.channel es ≡ None = sym c.get_mut.ensures.value ∙ ap option_copied_mut c.in-None.is in
    ap (λ (m : BTreeMap ℕ Replies). seen list_seen m.entries) c.get_mut.follows.holds-at-none
    ∙ none-taken-out c.args.channel es c.get_mut.ensures.ordered none (without_first (is_of c.args.reply)) refl

pub returns-in-Some-clause-none : goal.returns-in-Some-clause-none
returns-in-Some-clause-none c =
    let es = c.args.self.now.lists.entries in
    let list = c.in-Some.list.now in
    on-none c.take.result (λ h.
    ap (seen list_seen) (c.get_mut.follows.holds c.take.new.self).0
    ∙ keep-seen c.args.channel es c.get_mut.ensures.ordered list (sym c.in-Some.ensures.value) c.take.new.self
    (c.take.ensures.rest ∙ none-left_out (is_of c.args.reply) list.list.items (sym c.take.ensures.first ∙ h)))

pub returns-in-None-clause-none : goal.returns-in-None-clause-none
returns-in-None-clause-none c = ap (λ (m : BTreeMap ℕ Replies). seen list_seen m.entries) c.get_mut.follows.holds-at-none
