use Rattle.amqp_outbox.specs.Items.{dropped_with, size_of}
use Rattle.amqp_violations.specs.Violations.{channel_closed_with}
use Rattle.amqp_session.proofs.Made.{owed-made}
use Rattle.amqp_session.proofs.session.Session.closed_by_server.Goals as goal

pub say_reserved-requires : goal.say_reserved-requires
say_reserved-requires c =
    c.drop_channel_of.ensures.frames (dropped_with c.plain-item.result) 1 (size_of c.plain-item.result) c.in_default.ensures.places

pub returns-in_err-error-clause-idle : goal.returns-in_err-error-clause-idle
returns-in_err-error-clause-idle c none makes =
    absurd (owed-made c.args.id (channel_closed_with c.args.code c.args.text.now) c.args.channel c.args.self.now c.requires none makes)

pub returns-in_err-channel_closed_with-clause-idle : goal.returns-in_err-channel_closed_with-clause-idle
returns-in_err-channel_closed_with-clause-idle c none makes =
    absurd (owed-made c.args.id (channel_closed_with c.args.code c.args.text.now) c.args.channel c.args.self.now c.requires none makes)

pub returns-in_err-why-clause-idle : goal.returns-in_err-why-clause-idle
returns-in_err-why-clause-idle c none makes =
    absurd (owed-made c.args.id (channel_closed_with c.args.code c.args.text.now) c.args.channel c.args.self.now c.requires none makes)

pub returns-in-Err-clause-idle : goal.returns-in-Err-clause-idle
returns-in-Err-clause-idle c none makes =
    absurd (owed-made c.args.id (channel_closed_with c.args.code c.args.text.now) c.args.channel c.args.self.now c.requires none makes)
