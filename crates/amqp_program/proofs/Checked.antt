-- A capture that was read and answered.
use Rattle.std.proofs.Common.{◌≡◌, ◌⊎◌, inl, inr, ℕ, List, take, Option, Some, None, IfSome, Result, ap, ◌∙◌, subst}
use Rattle.amqp_replay.specs.declared.limits.TheConstants.{MOST_READ}
use Rattle.amqp_replay.specs.Top.{IsSilent}
use Rattle.amqp_program.specs.Captures.{Captured, captured}
use Rattle.amqp_program.specs.Checks.{IsChecked, ChecksCapture, ChecksSomeCapture}
use Rattle.amqp_program.proofs.MostCaptured.{captured-most}

pub ChecksSomeCapture-read : (left before after : Option (List ℕ)) (status : ℕ) (text : List ℕ) → IfSome left (λ all. text ≡ take MOST_READ all)
    → IsSilent status ⊎ ChecksCapture text before after status → IsSilent status ⊎ ChecksSomeCapture left before after status
ChecksSomeCapture-read left before after status text read (inl silent) = inl silent
ChecksSomeCapture-read left before after status text read (inr checks) = inr (record { text = text; read = read; checks = checks })

-- where the source told all that it had, all of it was answered
pub ChecksCapture-told : (left before after : Option (List ℕ)) (status : ℕ) (text : List ℕ) → IfSome left (λ all. text ≡ take MOST_READ all)
    → IsSilent status ⊎ ChecksCapture text before after status → IfSome left (λ all. IsSilent status ⊎ ChecksCapture all before after status)
ChecksCapture-told None before after status text read outcome = tt
ChecksCapture-told (Some all) before after status text read (inl silent) = inl silent
ChecksCapture-told (Some all) before after status text read (inr checks) =
    let same : captured text ≡ captured all = ap captured read ∙ captured-most all in
    let P : Result Captured ℕ → Type 0 = λ r. IsChecked r checks.printed in
    inr (record { printed = checks.printed; is = subst P same checks.is; prints = checks.prints })
