use Rattle.std.proofs.Common.{◌≡◌, ◌∙◌, ℕ, List, IfOk, Result, Ok, ap, sym, subst}
use Rattle.amqp_program.specs.declared.captured.Capture.{Capture}
use Rattle.amqp_program.specs.Captures.{Captured}
use Rattle.amqp_program.specs.CapturesRead.{capture_read}
use Rattle.amqp_program.specs.Checks.{IsChecked}
use Rattle.amqp_program.proofs.checking.print_capture.Goals as goal

pub returns-in-Sides-clause-checked : goal.returns-in-Sides-clause-checked
returns-in-Sides-clause-checked c =
    let sides : List ℕ → List ℕ → Captured = λ client server. record { client = client; server = server } in
    let both : sides c.deref.result.now c.deref-in-Sides.result.now ≡ c.in-Sides.sides =
    ap (λ (client : List ℕ). sides client c.deref-in-Sides.result.now) c.deref.ensures.value
    ∙ ap (λ (server : List ℕ). sides c.sides.inside.client.items server) c.deref-in-Sides.ensures.value
    ∙ c.sides.view_is in
    subst (λ (read : Capture). IfOk c.print_sides-printout.result (IsChecked (capture_read read))) (sym c.in-Sides.is)
    (subst (λ (x : Captured). IfOk c.print_sides-printout.result (IsChecked (Ok x))) both c.print_sides-printout.ensures.checked)
