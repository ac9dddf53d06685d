use Rattle.std.proofs.Common.{◌≡◌, ◌∙◌, ap, sym, refl, None}
use Rattle.amqp_outbox.specs.Lists.{head}
use Rattle.amqp_outbox.specs.Order.{listed, seen_at}
use Rattle.amqp_outbox.proofs.Sound.{none-found, none-out, found, waits-without, sound-without, taken-below}
use Rattle.amqp_outbox.proofs.Places.{places-taken, places-listed}
use Rattle.amqp_outbox.proofs.lane.Lane.take.Goals as goal

pub returns-in_err-number-clause-first : goal.returns-in_err-number-clause-first
returns-in_err-number-clause-first g c =
    let self = c.args.self.now in
    let none : None ≡ head (listed c.args.key self.numbers.lists.entries) = sym c.in_err-number.was ∙ c.take_first.ensures.first in
    c.from_residual.ensures ∙ sym (none-found g.T.Keyed.key_of self.made self.slots.entries self.numbers.lists.entries self.sound c.args.key none)

pub returns-in_err-number-clause-rest : goal.returns-in_err-number-clause-rest
returns-in_err-number-clause-rest g c =
    let self = c.args.self.now in
    let none : None ≡ head (listed c.args.key self.numbers.lists.entries) = sym c.in_err-number.was ∙ c.take_first.ensures.first in
    sym (none-out g.T.Keyed.key_of self.made self.slots.entries self.numbers.lists.entries self.sound c.args.key none)

pub invariant_of-self-2 : goal.invariant_of-self-2
invariant_of-self-2 g c =
    let self = c.args.self.now in
    record {
      sound =
          sound-without g.T.Keyed.key_of self.made self.slots.entries self.numbers.lists.entries self.sound c.args.key c.in_ok-number.number c.len.ensures.ordered
          (sym c.in_ok-number.was ∙ c.take_first.ensures.first) _ _ c.remove.ensures.entries c.take_first.ensures.rest;
    }

pub returns-in-Some-clause-first : goal.returns-in-Some-clause-first
returns-in-Some-clause-first g c =
    let self = c.args.self.now in
    ap (seen_at (λ o. o)) (sym c.in-Some.is ∙ c.remove.ensures.value)
    ∙ found g.T.Keyed.key_of self.made self.slots.entries self.numbers.lists.entries self.sound c.args.key c.in_ok-number.number c.len.ensures.ordered
    (sym c.in_ok-number.was ∙ c.take_first.ensures.first)

pub returns-in-None-clause-first : goal.returns-in-None-clause-first
returns-in-None-clause-first g c =
    let self = c.args.self.now in
    ap (seen_at (λ o. o)) (sym c.in-None.is ∙ c.remove.ensures.value)
    ∙ found g.T.Keyed.key_of self.made self.slots.entries self.numbers.lists.entries self.sound c.args.key c.in_ok-number.number c.len.ensures.ordered
    (sym c.in_ok-number.was ∙ c.take_first.ensures.first)

pub returns-in-Some-clause-rest : goal.returns-in-Some-clause-rest
returns-in-Some-clause-rest g c =
    let self = c.args.self.now in
    waits-without g.T.Keyed.key_of self.made self.slots.entries self.numbers.lists.entries self.sound c.args.key c.in_ok-number.number c.len.ensures.ordered
    (sym c.in_ok-number.was ∙ c.take_first.ensures.first) _ c.remove.ensures.entries

pub returns-in-Some-clause-places : goal.returns-in-Some-clause-places
returns-in-Some-clause-places g c =
    let self = c.args.self.now in
    let less =
    taken-below g.T.Keyed.key_of self.made self.slots.entries self.numbers.lists.entries self.sound c.args.key c.in_ok-number.number c.len.ensures.ordered
    (sym c.in_ok-number.was ∙ c.take_first.ensures.first) in
    places-taken self.made self.slots.entries _ self.numbers.lists.entries _ c.in_ok-number.number less c.remove.ensures.updates.0 c.take_first.ensures.room

pub returns-in_err-number-clause-places : goal.returns-in_err-number-clause-places
returns-in_err-number-clause-places g c =
    let self = c.args.self.now in
    places-listed self.made self.slots.entries _ self.numbers.lists.entries _ refl c.take_first.ensures.room
