use Rattle.std.proofs.Common.{◌∙◌, ap, sym, ℕ, Option, if◌then◌else◌}
use Rattle.std.specs.Prelude.{drop}
use Rattle.amqp_outbox.specs.Lists.{is_the_number}
use Rattle.amqp_outbox.specs.Order.{listed}
use Rattle.amqp_outbox.proofs.numbers.Numbers.forget_first.Goals as goal

pub returns-in-Some : goal.returns-in-Some
returns-in-Some c k =
    let list = listed k c.args.self.now.lists.entries in
    c.tidy.ensures k ∙ c.take_first.ensures.rest k ∙ ap (λ (o : Option ℕ). if is_the_number k o then drop 1 list else list) (sym c.in-Some.is)
