use Rattle.std.proofs.Common.{◌∙◌, sym}
use Rattle.amqp_outbox.proofs.Lanes.{head-slot}
use Rattle.amqp_outbox.proofs.lane.Lane.front.Goals as goal

pub returns-in-Some : goal.returns-in-Some
returns-in-Some g c =
    let self = c.args.self.now in
    c.as_ref.ensures.value ∙ sym (head-slot self.made self.slots.entries _ self.sound.0 c.len.ensures.ordered c.in-Some.ensures.first)
