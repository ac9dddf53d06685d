-- What is printed of a capture, and what the program did that was asked to check one.
use Rattle.std.specs.Prelude.{◌≡◌, ℕ, List, ◌++◌, take, Option, Result, Ok, Err, IfSome, codes}
use Rattle.std.specs.Fmt.{decimal}
use Rattle.amqp_check.specs.declared.capture.Verdict.{Verdict}
use Rattle.amqp_check.specs.declared.capture.Verdict.TheVariants.{Legal, BadClient, CutClient, BadServer, CutServer, Illegal}
use Rattle.amqp_check.specs.Verdicts.{IsVerdict}
use Rattle.amqp_replay.specs.declared.limits.TheConstants.{MOST_READ}
use Rattle.amqp_replay.specs.declared.status.TheConstants.{CLOSED, REFUSED, FAILED}
use Rattle.amqp_replay.specs.Report.{Printout}
use Rattle.amqp_replay.specs.Top.{Prints}
use Rattle.amqp_program.specs.Captures.{Captured, captured}

-- the line of a verdict
abbrev pub verdict_line : Verdict → List ℕ
verdict_line (Legal client server) = codes "legal " ++ decimal client ++ codes " " ++ decimal server ++ codes "\n"
verdict_line (BadClient place) = codes "bad client " ++ decimal place ++ codes "\n"
verdict_line (CutClient place) = codes "cut client " ++ decimal place ++ codes "\n"
verdict_line (BadServer place) = codes "bad server " ++ decimal place ++ codes "\n"
verdict_line (CutServer place) = codes "cut server " ++ decimal place ++ codes "\n"
verdict_line (Illegal frame) = codes "illegal frame " ++ decimal frame ++ codes "\n"

-- the status of a verdict
abbrev pub verdict_status : Verdict → ℕ
verdict_status (Legal client server) = CLOSED
verdict_status _ = FAILED

-- what is printed of a verdict
abbrev pub verdict_printout : Verdict → Printout
verdict_printout v = record { status = verdict_status v; text = verdict_line v }

-- what is printed of a capture with a refused line
abbrev pub capture_refusal : ℕ → List ℕ
capture_refusal number = codes "capture line " ++ decimal number ++ codes " refused\n"

-- what is printed of what a capture says: the refusal of its first refused line, or the verdict on both sides
abbrev pub IsChecked : Result Captured ℕ → Printout → Type 0
IsChecked (Err number) p = p ≡ record { status = REFUSED; text = capture_refusal number }
IsChecked (Ok c) p = (v : Verdict) × IsVerdict c.client c.server v × (p ≡ verdict_printout v)

-- a capture was answered: the sink took what is printed of it
pub record ChecksCapture (text : List ℕ) (before after : Option (List ℕ)) (status : ℕ) : Type 0 where
  pub printed : Printout
  pub is : IsChecked (captured text) printed
  pub prints : Prints printed before after status

-- some capture was answered, which is all that the source had, or as much of it as is ever read
pub record ChecksSomeCapture (left : Option (List ℕ)) (before after : Option (List ℕ)) (status : ℕ) : Type 0 where
  pub text : List ℕ
  pub read : IfSome left (λ all. text ≡ take MOST_READ all)
  pub checks : ChecksCapture text before after status
