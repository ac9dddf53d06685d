-- The script that a number makes, and the summary of its replay.
use Rattle.std.proofs.Common.{◌≡◌, ◌<◌, ◌+◌, ◌-◌, ℕ, suc, List, [], ◌∷◌, ◌++◌, length, slice_get, if◌then◌else◌, Option, Some, Result, inl, inr, refl, ap, sym, subst, ◌∙◌, append_assoc, arith}
use Rattle.std.specs.Prelude.{codes}
use Rattle.std.specs.Int.{w16, to_be_bytes}
use Rattle.std.specs.List.{fold, range_with_len}
use Rattle.amqp_answers.specs.declared.answer.Answer.{Answer}
use Rattle.amqp_promise.specs.declared.error.ErrorKind.{ErrorKind}
use Rattle.amqp_rules.specs.Talk.{Talk, end_of}
use Rattle.amqp_rules.specs.Answers.{answer_of, Takes}
use Rattle.amqp_replay.specs.Report.{hexadecimal, end_line}
use Rattle.amqp_replay.specs.Generator.{opening_lines}
use Rattle.amqp_replay.specs.Summary.{first_len, is_ok, count_ok, sent_text, answered_text, summary}
use Rattle.amqp_replay.proofs.Reports.{Keeps, Keeps-step}

-- ---- the lines that open a channel, written one part after another

three : (out one two whole a b c : List ℕ) → one ≡ out ++ a → two ≡ one ++ b → whole ≡ two ++ c → whole ≡ out ++ (a ++ (b ++ c))
three out one two whole a b c first second third =
    third
    ∙ ap (λ (x : List ℕ). x ++ c) (second ∙ ap (λ (x : List ℕ). x ++ b) first)
    ∙ append_assoc (out ++ a) b c
    ∙ append_assoc out a (b ++ c)

pub opening-parts : (id : ℕ) (digits out one two whole : List ℕ) → digits ≡ to_be_bytes w16 id
    → one ≡ out ++ codes "open\nbytes 01" → two ≡ one ++ hexadecimal digits → whole ≡ two ++ codes "000000080014000b00000000ce\n"
    → whole ≡ out ++ opening_lines id
opening-parts id digits out one two whole same first second third =
    three out one two whole (codes "open\nbytes 01") (hexadecimal (to_be_bytes w16 id)) (codes "000000080014000b00000000ce\n")
    first (second ∙ ap (λ (x : List ℕ). one ++ hexadecimal x) same) third

-- ---- the first link

pub first_len-none : (links : List (List ℕ)) → length links ≡ 0 → first_len links ≡ 0
first_len-none [] none = refl
first_len-none (link ∷ links) none = absurd (omega arith)

pub first_len-some : (links : List (List ℕ)) (link : List ℕ) → slice_get links 0 ≡ Some link → first_len links ≡ length link
first_len-some [] link h = cc
first_len-some (x ∷ links) link h =
    let same : x ≡ link = cc in
    ap length same

-- ---- the answers that are no errors

-- how many more there are among so many promises from one on
abbrev pub counted_from : Talk → ℕ → ℕ → ℕ → ℕ
counted_from t number count answered =
    fold (λ (a k : ℕ). a + (if is_ok (answer_of k t) then 1 else 0)) answered (range_with_len number count)

pub counted_from-step : (t : Talk) (number count answered one : ℕ) → number < count → one ≡ (if is_ok (answer_of number t) then 1 else 0)
    → counted_from t (number + 1) (count - (number + 1)) (answered + one) ≡ counted_from t number (count - number) answered
counted_from-step t number count answered one h is =
    let more : count - number ≡ suc (count - (number + 1)) = omega arith in
    ap (λ (x : ℕ). counted_from t (number + 1) (count - (number + 1)) (answered + x)) is
    ∙ sym (ap (λ (k : ℕ). counted_from t number k answered) more)

-- an answer that is taken tells whether it is an error, refused copies too
pub is_ok-taken : (number : ℕ) (given : Option (Result Answer ErrorKind)) (before after : Talk) → Takes number given before after
    → is_ok given ≡ is_ok (answer_of number before)
is_ok-taken number given before after (inl takes) = ap is_ok takes.0
is_ok-taken number given before after (inr refused) = ap is_ok refused.1 ∙ sym (ap is_ok refused.0.1)

later : (number : ℕ) (before now : Talk) → Keeps number before now → Keeps (number + 1) before now
later number before now keeps =
    record {
      answers = λ k le. keeps.answers k (omega (arith, le));
      frames = keeps.frames;
      events = keeps.events;
      end = keeps.end;
    }

pub Keeps-taken : (number : ℕ) (given : Option (Result Answer ErrorKind)) (before now after : Talk) → Keeps number before now
    → Takes number given now after → Keeps (number + 1) before after
Keeps-taken number given before now after keeps (inl takes) =
    let P : Talk → Type 0 = λ x. Keeps (number + 1) before x in
    subst P (sym takes.1) (Keeps-step number before now keeps)
Keeps-taken number given before now after keeps (inr refused) =
    let P : Talk → Type 0 = λ x. Keeps (number + 1) before x in
    subst P (sym refused.2) (later number before now keeps)

-- ---- the whole summary, written one part after another

pub summary-parts : (sent answered : ℕ) (t : Talk) (out one two whole : List ℕ) (end : Option (Result (Unit {0}) ErrorKind)) → answered ≡ count_ok t
    → one ≡ out ++ sent_text sent → two ≡ one ++ answered_text answered → end ≡ end_of t → whole ≡ two ++ end_line end
    → whole ≡ out ++ summary sent t
summary-parts sent answered t out one two whole end answers first second ended last =
    three out one two whole (sent_text sent) (answered_text (count_ok t)) (end_line (end_of t)) first
    (second ∙ ap (λ (n : ℕ). one ++ answered_text n) answers)
    (last ∙ ap (λ (x : Option (Result (Unit {0}) ErrorKind)). two ++ end_line x) ended)
