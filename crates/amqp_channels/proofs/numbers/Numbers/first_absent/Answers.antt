use Rattle.std.proofs.Common.{◌∙◌, ap, sym, not}
use Rattle.amqp_channels.specs.NumberSet.{is_member}
use Rattle.amqp_channels.proofs.Drawing.{find-past}
use Rattle.amqp_channels.proofs.numbers.Numbers.first_absent.Goals as goal

pub numbers-preserved : goal.numbers-preserved
numbers-preserved c =
    sym (find-past (λ n. not (is_member c.args.self.now n)) c.run_from-present.result c.numbers.id c.args.until (λ i h. ap not (c.run_from-present.ensures.present i h)))
    ∙ c.numbers.invariant
