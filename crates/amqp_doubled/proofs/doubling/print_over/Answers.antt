use Rattle.std.proofs.Common.{◌≡◌, ◌∙◌, ap}
use Rattle.amqp_uri.specs.Address.{local}
use Rattle.amqp_auth.specs.DefaultAnswers.{default_of}
use Rattle.amqp_doubled.proofs.Says.{guest-says}
use Rattle.amqp_doubled.proofs.Endings.{if-ok}
use Rattle.amqp_doubled.proofs.doubling.print_over.Goals as goal

pub returns-in-Ok : goal.returns-in-Ok
returns-in-Ok c =
    let made : c.in-Ok.provider ≡ default_of local = c.in-Ok.ensures.made ∙ ap default_of c.in_ok-uri.ensures in
    if-ok _ _ c.print_by-printout.result (λ p h count few port. h count few port (guest-says c.in-Ok.provider made)) c.print_by-printout.ensures
