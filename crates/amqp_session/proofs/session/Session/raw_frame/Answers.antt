use Rattle.std.proofs.Common.{◌≡◌, ◌∙◌, sym, subst, Option, Some}
use Rattle.amqp_channels.specs.declared.channels.Channel.{Channel}
use Rattle.amqp_rules.specs.Channels.{channel_at}
use Rattle.amqp_rules.specs.ChannelMethods.{heard_on, raw_by}
use Rattle.amqp_rules.specs.Memory.{MakesNothing}
use Rattle.amqp_session.proofs.Made.{handed-made}
use Rattle.amqp_session.proofs.session.Session.raw_frame.Goals as goal

pub returns-in-Some-clause-idle : goal.returns-in-Some-clause-idle
returns-in-Some-clause-idle c =
    let t = c.args.self.now in
    let there : heard_on t.state (channel_at c.args.id t) ≡ Some c.in-Some.channel = sym c.heard_on.ensures.heard ∙ c.in-Some.is in
    λ m. absurd (handed-made c.args.id c.in-Some.channel c.args.kind c.args.bytes t
    (subst (λ (o : Option Channel). MakesNothing t (raw_by o c.args.id c.args.kind c.args.bytes t)) there m))
