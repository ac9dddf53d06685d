use Rattle.std.proofs.Common.{sym}
use Rattle.amqp_answers.proofs.Seen.{waits-seen, none-waits}
use Rattle.amqp_answers.proofs.promises.Promises.waits.Goals as goal

pub returns-in-Some : goal.returns-in-Some
returns-in-Some c =
    let self = c.args.self.now in
    let errors = self.errors.errors.entries in
    waits-seen errors c.args.number self.slots.entries c.len.ensures.ordered c.in-Some.slot.now (sym c.in-Some.ensures.value) c.waits.result c.waits.ensures

pub returns-in-None : goal.returns-in-None
returns-in-None c =
    let self = c.args.self.now in
    none-waits self.errors.errors.entries c.args.number self.slots.entries c.len.ensures.ordered (sym c.in-None.ensures.value)
