use Rattle.std.proofs.Common.{◌≡◌, ◌∙◌, true, ap}
use Rattle.amqp_rules.specs.Talk.{is_asked}
use Rattle.amqp_rules.specs.Parts.{link_seen}
use Rattle.amqp_rules.proofs.Soundness.{due-fits}
use Rattle.amqp_session.proofs.session.Session.delayed.Goals as goal

pub invariant_of-self : goal.invariant_of-self
invariant_of-self c =
    let i = c.self.invariant in
    let inside = c.self.inside in
    let asked : is_asked c.args.self.now ≡ true = c.requires.asked in
    let seen = ap is_asked c.self.view_is ∙ asked in
    (i.0, due-fits inside.state (link_seen inside.server_close inside.link) c.saturating_add.result seen i.1, i.2, i.3, i.4, i.5)
