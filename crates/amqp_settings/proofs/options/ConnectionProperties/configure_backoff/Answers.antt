use Rattle.std.proofs.Common.{◌∙◌, ap}
use Rattle.amqp_settings.specs.Config.{Options}
use Rattle.amqp_settings.specs.declared.options.ConnectionProperties.{ConnectionProperties}
use Rattle.amqp_settings.proofs.options.ConnectionProperties.configure_backoff.Goals as goal

pub returns : goal.returns
returns g c =
    let delays = c.conf-delays.result in
    let same = c.with_backoff.ensures ∙ c.take_delays-delays.ensures.rest delays.items in
    let made : Options → ConnectionProperties g.row.C.Denot = λ o. record { plain = o; choice = c.args.self.choice } in
    (c.take_delays-delays.result.0, delays, c.take_delays-delays.ensures.delays, c.conf-delays.ensures, ap made same)
