-- The line of a session that ended Closed is its summary.
use Rattle.std.proofs.Common.{◌≡◌, ◌∙◌, ap, sym, refl, ℕ, List, ◌++◌, append_assoc, Option, Some, Result, Ok}
use Rattle.std.specs.Prelude.{codes}
use Rattle.amqp_promise.specs.declared.error.ErrorKind.{ErrorKind}
use Rattle.amqp_rules.specs.Talk.{Talk, end_of}
use Rattle.amqp_replay.specs.Report.{end_line}
use Rattle.amqp_replay.specs.Summary.{count_ok, sent_text, answered_text, summary}
use Rattle.amqp_doubled.specs.Doubling.{summary_line}

-- it is written one part after another
pub parts : (out one two whole a b c : List ℕ) → one ≡ out ++ a → two ≡ one ++ b → whole ≡ two ++ c → whole ≡ out ++ (a ++ (b ++ c))
parts out one two whole a b c first second third =
    third
    ∙ ap (λ (x : List ℕ). x ++ c) (second ∙ ap (λ (x : List ℕ). x ++ b) first)
    ∙ append_assoc (out ++ a) b c
    ∙ append_assoc out a (b ++ c)

pub line-is : (sent : ℕ) (t : Talk) → end_of t ≡ Some (Ok tt) → summary_line sent (count_ok t) ≡ summary sent t
line-is sent t ended =
    let closed : end_line (Some (Ok tt)) ≡ codes "end closed\n" = refl in
    sym
    (ap (λ (o : Option (Result (Unit {0}) ErrorKind)). sent_text sent ++ (answered_text (count_ok t) ++ end_line o)) ended
    ∙ ap (λ (x : List ℕ). sent_text sent ++ (answered_text (count_ok t) ++ x)) closed)
