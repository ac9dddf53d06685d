use Rattle.std.proofs.Common.{◌∙◌, ℕ, List, ap}
use Rattle.std.specs.String.{string_bytes}
use Rattle.amqp_replay.specs.Report.{Printout}
use Rattle.amqp_replay.proofs.answering.print_report.Goals as goal

pub returns : goal.returns
returns g c =
    let made : ℕ → List ℕ → Printout = λ s x. record { status = s; text = x } in
    c.new.ensures
    ∙ ap (λ (s : ℕ). made s (string_bytes c.in_ok-report.field-0)) c.in_ok-status.ensures
    ∙ ap (made _) c.in_ok-report.ensures
