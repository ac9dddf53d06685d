use Rattle.std.proofs.Common.{◌∙◌, ◌++◌, ℕ, List, ap}
use Rattle.std.specs.String.{string_bytes}
use Rattle.amqp_replay.specs.Report.{Printout}
use Rattle.amqp_replay.specs.Summary.{summary}
use Rattle.amqp_replay.proofs.answering.print_summary.Goals as goal

pub returns : goal.returns
returns g c =
    let made : ℕ → List ℕ → Printout = λ s x. record { status = s; text = x } in
    c.new.ensures
    ∙ ap (λ (s : ℕ). made s (string_bytes c.put_summary.new.out)) c.in_ok-status.ensures
    ∙ ap (made _) (c.in_ok-put_summary.ensures ∙ ap (λ (n : ℕ). string_bytes c.args.script ++ summary n c.args.engine.now.talk) c.first_len.ensures)
