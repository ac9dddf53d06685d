-- Texts whose lines are read as steps, each of the moment 0, whatever follows them: one after another.
use Rattle.std.proofs.Common.{◌≡◌, ◌≤◌, ◌<◌, ◌+◌, ◌-◌, ◌*◌, ◌==◌, nat_le, if◌then◌else◌, ℕ, zero, suc, Bool, true, false, List, [], ◌∷◌, ◌++◌, length, map, take, slice_index, Option, None, unwrap_or, Result, Ok, Err, refl, sym, ap, ◌∙◌, append_assoc, length-append, arith}
use Rattle.std.proofs.lemmas.Bool.Decides.{nat_tests}
use Rattle.std.proofs.lemmas.List.{length_push, map-append}
use Rattle.std.proofs.lemmas.List.Splits.{slice_split_at}
use Rattle.std.proofs.lemmas.List.Sums.{AllPass-from_list_all}
use Rattle.std.specs.List.{All, list_all, flat_map, range_with_len}
use Rattle.std.specs.Str.Lines.{strip_carriage_return}
use Rattle.amqp_types.proofs.Small.{and-left, and-right, and-true}
use Rattle.amqp_engine.specs.declared.given.Given.{Given}
use Rattle.amqp_engine.specs.declared.given.GivenStep.{GivenStep}
use Rattle.amqp_replay.specs.declared.grammar.Said.TheVariants.{Refused, Step}
use Rattle.amqp_replay.specs.declared.limits.TheConstants.{SCRIPT_BYTES, SCRIPT_LINES}
use Rattle.amqp_replay.specs.Lines.{Line, is_line_feed, lines_of_parts, lines_from, is_printable, is_within_limits}
use Rattle.amqp_replay.specs.Setup.{SetupSoFar, after_step}
use Rattle.amqp_replay.specs.Grammar.{Scenario, moment, content_says, says, limited, given, scenario_of}
use Rattle.amqp_replay.proofs.LineLemmas.{first_of_parts, some_part}
use Rattle.amqp_replay.proofs.Steps.{steps_before, scenario_of-step}

-- ---- a line of printable bytes

other_byte : (b c : ℕ) → is_printable b ≡ true → c < 32 → (b == c) ≡ false
other_byte b c printable small =
    let low : nat_le 32 b ≡ true = and-left (nat_le 32 b) (nat_le b 126) printable in
    grind (arith, nat_tests, low, small)

no_feed : (content : List ℕ) → list_all is_printable content ≡ true → All (λ b. is_line_feed b ≡ false) content
no_feed content printable k d lt =
    other_byte _ 10 (AllPass-from_list_all is_printable content printable k d lt) (omega arith)

no_return : (content : List ℕ) (k : ℕ) → list_all is_printable content ≡ true → (slice_index content k == 13) ≡ false
no_return [] k printable = refl
no_return (b ∷ content) zero printable =
    other_byte b 13 (and-left (is_printable b) (list_all is_printable content) printable) (omega arith)
no_return (b ∷ content) (suc k) printable =
    no_return content k (and-right (is_printable b) (list_all is_printable content) printable)

stripped : (content : List ℕ) → list_all is_printable content ≡ true → strip_carriage_return content ≡ content
stripped content printable =
    ap (λ (b : Bool). if b then take (length content - 1) content else content) (no_return content (length content - 1) printable)

abbrev line_of : ℕ → ℕ → List ℕ → Line
line_of number end content = record { number = number; content = content; end = end }

-- such a line, as it stands in a text
abbrev line_at : ℕ → ℕ → List ℕ → Line
line_at number before content = line_of number (before + length content + 1) content

first_line : (number before : ℕ) (content rest : List ℕ) → list_all is_printable content ≡ true
    → lines_from number before (content ++ 10 ∷ rest)
    ≡ line_at number before content ∷ lines_from (number + 1) (before + length content + 1) rest
first_line number before content rest printable =
    let more = lines_from (number + 1) (before + length content + 1) rest in
    ap (lines_of_parts number before) (slice_split_at is_line_feed content 10 rest (no_feed content printable) refl)
    ∙ first_of_parts number before content _ (some_part rest)
    ∙ ap (λ (x : List ℕ). line_of number (before + length content + 1) x ∷ more) (stripped content printable)

-- ---- a line that says a step

-- what the bytes of a line say is a step, of the moment of the step before it; they spell so many zeros by a number
pub record SaysStep (content : List ℕ) (what : GivenStep) (zeros : ℕ) : Type 0 where
  pub printable : list_all is_printable content ≡ true
  pub said : content_says content ≡ Step what zeros
  pub untimed : moment content ≡ None
  pub short : length content < 300
  pub few : zeros ≤ 9000

within_limits : (number before : ℕ) (content : List ℕ) → number ≤ SCRIPT_LINES → before + length content + 1 ≤ SCRIPT_BYTES
    → is_within_limits (line_at number before content) ≡ true
within_limits number before content lines bytes =
    let by_number : nat_le number SCRIPT_LINES ≡ true = grind (arith, nat_tests) in
    let by_end : nat_le (before + length content + 1) SCRIPT_BYTES ≡ true = grind (arith, nat_tests) in
    and-true (nat_le number SCRIPT_LINES) (nat_le (before + length content + 1) SCRIPT_BYTES) by_number by_end

says_step : (number before left zeros : ℕ) (content : List ℕ) (what : GivenStep) → SaysStep content what zeros
    → number ≤ SCRIPT_LINES → before + length content + 1 ≤ SCRIPT_BYTES → zeros ≤ left
    → limited left (says (line_at number before content)) ≡ Step what zeros
says_step number before left zeros content what step lines bytes fits =
    let spared : nat_le zeros left ≡ true = grind (arith, nat_tests) in
    ap (limited left)
    (ap (λ (b : Bool). if b then content_says content else Refused) (within_limits number before content lines bytes) ∙ step.said)
    ∙ ap (λ (b : Bool). if b then Step what zeros else Refused) spared

-- what a text says from a line on
abbrev pub said_from : SetupSoFar → ℕ → ℕ → ℕ → List ℕ → Result Scenario ℕ
said_from p left number before rest = scenario_of p 0 left (lines_from number before rest)

-- a line that says a step, and what follows it
pub step-read : (p : SetupSoFar) (content : List ℕ) (what : GivenStep) (zeros : ℕ) → SaysStep content what zeros
    → (number before left : ℕ) (rest : List ℕ) → number ≤ SCRIPT_LINES → before + length content + 1 ≤ SCRIPT_BYTES → zeros ≤ left
    → said_from p left number before (content ++ 10 ∷ rest)
    ≡ steps_before (given 0 what ∷ []) (said_from (after_step p) (left - zeros) (number + 1) (before + length content + 1) rest)
step-read p content what zeros step number before left rest lines bytes fits =
    ap (scenario_of p 0 left) (first_line number before content rest step.printable)
    ∙ scenario_of-step p 0 0 left zeros (line_at number before content)
    (lines_from (number + 1) (before + length content + 1) rest) what
    (sym (ap (λ (o : Option ℕ). unwrap_or o 0) step.untimed))
    (says_step number before left zeros content what step lines bytes fits)

-- ---- lines that say steps

-- the lines of a text are read as these steps behind a step, wherever the limits leave room for them; each has at most
-- 300 bytes with its end, and spells at most 9,000 zeros by a number
pub record AreTaken (p : SetupSoFar) (text : List ℕ) (steps : List GivenStep) : Type 0 where
  pub zeros : ℕ
  pub few : zeros ≤ 9000 * length steps
  pub short : length text ≤ 300 * length steps
  pub read :
      (number before left : ℕ) (rest : List ℕ) → number + length steps ≤ SCRIPT_LINES + 1 → before + length text ≤ SCRIPT_BYTES → zeros ≤ left
      → said_from p left number before (text ++ rest)
      ≡ steps_before (map (given 0) steps) (said_from p (left - zeros) (number + length steps) (before + length text) rest)

-- one place in a text by other sums
same_place : (p : SetupSoFar) (rest : List ℕ) (left l number n before b : ℕ) → left ≡ l → number ≡ n → before ≡ b
    → said_from p left number before rest ≡ said_from p l n b rest
same_place p rest left l number n before b zeros lines bytes =
    ap (λ x. said_from p x number before rest) zeros
    ∙ ap (λ x. said_from p l x before rest) lines
    ∙ ap (λ x. said_from p l n x rest) bytes

before_none : (r : Result Scenario ℕ) → r ≡ steps_before [] r
before_none (Ok s) = refl
before_none (Err number) = refl

before_both : (gs hs : List Given) (r : Result Scenario ℕ) → steps_before gs (steps_before hs r) ≡ steps_before (gs ++ hs) r
before_both gs hs (Ok s) = ap (λ (x : List Given). Ok (record s { steps = x })) (sym (append_assoc gs hs s.steps))
before_both gs hs (Err number) = refl

-- no line
pub none-taken : (p : SetupSoFar) → AreTaken p [] []
none-taken p =
    record {
      zeros = 0;
      few = omega arith;
      short = omega arith;
      read = λ number before left rest lines bytes fits.
          same_place p rest left (left - 0) number (number + 0) before (before + 0) (omega arith) (omega arith) (omega arith)
          ∙ before_none (said_from p (left - 0) (number + 0) (before + 0) rest);
    }

-- one line
pub step-taken : (p : SetupSoFar) (content : List ℕ) (what : GivenStep) (zeros : ℕ) → after_step p ≡ p → SaysStep content what zeros
    → AreTaken p (content ++ 10 ∷ []) (what ∷ [])
step-taken p content what zeros kept step =
    let len : length (content ++ 10 ∷ []) ≡ length content + 1 = length_push content 10 in
    let below : length content < 300 = step.short in
    let spelled : zeros ≤ 9000 = step.few in
    record {
      zeros = zeros;
      few = omega (arith, spelled);
      short = omega (arith, len, below);
      read = λ number before left rest lines bytes fits.
          let past : before + length content + 1 ≡ before + length (content ++ 10 ∷ []) = omega (arith, len) in
          let room : number ≤ SCRIPT_LINES = omega (arith, lines) in
          ap (said_from p left number before) (append_assoc content (10 ∷ []) rest)
          ∙ step-read p content what zeros step number before left rest room (omega (arith, bytes, len)) fits
          ∙ ap (λ (q : SetupSoFar). steps_before (given 0 what ∷ []) (said_from q (left - zeros) (number + 1) (before + length content + 1) rest)) kept
          ∙ ap (λ n. steps_before (given 0 what ∷ []) (said_from p (left - zeros) (number + 1) n rest)) past;
    }

-- some lines, and others behind them
pub both-taken : (p : SetupSoFar) (a b : List ℕ) (xs ys : List GivenStep) → AreTaken p a xs → AreTaken p b ys → AreTaken p (a ++ b) (xs ++ ys)
both-taken p a b xs ys first second =
    let len : length (a ++ b) ≡ length a + length b = length-append a b in
    let count : length (xs ++ ys) ≡ length xs + length ys = length-append xs ys in
    let few-a : first.zeros ≤ 9000 * length xs = first.few in
    let few-b : second.zeros ≤ 9000 * length ys = second.few in
    let short-a : length a ≤ 300 * length xs = first.short in
    let short-b : length b ≤ 300 * length ys = second.short in
    record {
      zeros = first.zeros + second.zeros;
      few = omega (arith, count, few-a, few-b);
      short = omega (arith, len, count, short-a, short-b);
      read = λ number before left rest lines bytes fits.
          let number' = number + length xs in
          let before' = before + length a in
          let left' = left - first.zeros in
          let after = said_from p (left' - second.zeros) (number' + length ys) (before' + length b) rest in
          ap (said_from p left number before) (append_assoc a b rest)
          ∙ first.read number before left (b ++ rest) (omega (arith, lines, count)) (omega (arith, bytes, len)) (omega (arith, fits))
          ∙ ap (steps_before (map (given 0) xs))
          (second.read number' before' left' rest (omega (arith, lines, count)) (omega (arith, bytes, len)) (omega (arith, fits)))
          ∙ before_both (map (given 0) xs) (map (given 0) ys) after
          ∙ ap (λ (gs : List Given). steps_before gs after) (sym (map-append (given 0) xs ys))
          ∙ ap (steps_before (map (given 0) (xs ++ ys)))
          (same_place p rest (left' - second.zeros) (left - (first.zeros + second.zeros)) (number' + length ys) (number + length (xs ++ ys))
          (before' + length b) (before + length (a ++ b)) (omega arith) (omega (arith, count)) (omega (arith, len)));
    }

-- the lines of each number below a bound, one after another
pub each-taken : (p : SetupSoFar) (text : ℕ → List ℕ) (steps : ℕ → List GivenStep) (most : ℕ)
    → ((k : ℕ) → k < most → AreTaken p (text k) (steps k)) → (from count : ℕ) → from + count ≤ most
    → AreTaken p (flat_map text (range_with_len from count)) (flat_map steps (range_with_len from count))
each-taken p text steps most each from zero within = none-taken p
each-taken p text steps most each from (suc count) within =
    both-taken p (text from) (flat_map text (range_with_len (from + 1) count)) (steps from) (flat_map steps (range_with_len (from + 1) count))
    (each from (omega (arith, within))) (each-taken p text steps most each (from + 1) count (omega (arith, within)))
