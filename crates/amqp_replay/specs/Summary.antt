-- The summary of a replay.
use Rattle.std.specs.Prelude.{ℕ, Bool, true, false, List, [], ◌∷◌, ◌++◌, length, count_by, Option, Some, Result, Ok, codes}
use Rattle.std.specs.List.{range_with_len}
use Rattle.std.specs.Fmt.{decimal}
use Rattle.amqp_answers.specs.declared.answer.Answer.{Answer}
use Rattle.amqp_promise.specs.declared.error.ErrorKind.{ErrorKind}
use Rattle.amqp_rules.specs.Talk.{Talk, end_of}
use Rattle.amqp_rules.specs.Answers.{answer_of}
use Rattle.amqp_replay.specs.Report.{end_line}

-- how many bytes the first link took
abbrev pub first_len : List (List ℕ) → ℕ
first_len [] = 0
first_len (link ∷ links) = length link

-- an answer, and no error
abbrev pub is_ok : Option (Result Answer ErrorKind) → Bool
is_ok (Some (Ok answer)) = true
is_ok _ = false

-- how many promises were answered, and not with an error
abbrev pub count_ok : Talk → ℕ
count_ok talk = count_by (λ number. is_ok (answer_of number talk)) (range_with_len 0 talk.made)

-- how many bytes were sent
abbrev pub sent_text : ℕ → List ℕ
sent_text sent = codes "# sent " ++ decimal sent ++ codes " bytes, "

-- how many answers are no errors
abbrev pub answered_text : ℕ → List ℕ
answered_text answered = decimal answered ++ codes " answers ok, "

-- how many bytes were sent, how many answers are no errors, and the end
abbrev pub summary : ℕ → Talk → List ℕ
summary sent talk = sent_text sent ++ (answered_text (count_ok talk) ++ end_line (end_of talk))
