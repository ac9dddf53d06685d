use Rattle.std.proofs.Common.{◌∙◌, sym, refl}
use Rattle.amqp_rules.specs.Changes.{present_at}
use Rattle.amqp_rules.specs.Parts.{capacity_after}
use Rattle.amqp_rules.proofs.Keeping.{present-keeps, keeps-frame}
use Rattle.amqp_session.proofs.session.Session.capacity_after.Goals as goal

pub returns-clause-bytes : goal.returns-clause-bytes
returns-clause-bytes c answers at =
    let t = c.args.self.now in
    let f = c.args.frame.now in
    c.octets_after.ensures.octets ∙ sym (present-keeps (capacity_after f) at t (λ n. refl)) ∙ sym (keeps-frame f answers (present_at at t)).capacity
