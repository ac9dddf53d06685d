use Rattle.std.proofs.Common.{◌∙◌, ap, sym, ◌∷◌}
use Rattle.std.specs.Prelude.{drop}
use Rattle.std.specs.Map.{values_of}
use Rattle.amqp_outbox.specs.Lists.{head}
use Rattle.amqp_outbox.proofs.Sound.{none-held-first, none-held-then}
use Rattle.amqp_outbox.proofs.lane.Lane.next.Goals as goal

pub returns-in_err-thing-clause-first : goal.returns-in_err-thing-clause-first
returns-in_err-thing-clause-first g c =
    let self = c.args.self.now in
    let n = c.in_ok-slot.field-0-0 in
    let rest = c.pop_first.new.self.entries in
    c.from_residual-in_err-thing.ensures
    ∙ sym (ap (λ l. head (values_of l))
    (none-held-first g.T.Keyed.key_of self.made self.slots.entries self.numbers.lists.entries self.sound n rest c.len.ensures.ordered
    (c.in_ok-slot.ensures.removal ∙ ap (λ o. (n, o) ∷ rest) c.in_err-thing.was)))

pub returns-in_err-thing-clause-rest : goal.returns-in_err-thing-clause-rest
returns-in_err-thing-clause-rest g c =
    let self = c.args.self.now in
    let n = c.in_ok-slot.field-0-0 in
    let rest = c.pop_first.new.self.entries in
    let is = c.in_ok-slot.ensures.removal ∙ ap (λ o. (n, o) ∷ rest) c.in_err-thing.was in
    ap values_of (none-held-then g.T.Keyed.key_of self.made self.slots.entries self.numbers.lists.entries self.sound n rest c.len.ensures.ordered is)
    ∙ sym (ap (λ l. drop 1 (values_of l)) (none-held-first g.T.Keyed.key_of self.made self.slots.entries self.numbers.lists.entries self.sound n rest c.len.ensures.ordered is))
