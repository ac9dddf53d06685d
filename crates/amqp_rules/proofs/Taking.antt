-- Answers are taken once, and of promises alone that were made.
use Rattle.std.proofs.Common.{◌≡◌, ◌∙◌, ◌≤◌, ap, refl, ℕ, Bool, true, false, None, is_some}
use Rattle.std.specs.Map.{keys_of}
use Rattle.amqp_maps.specs.Listed.{without}
use Rattle.amqp_rules.specs.Talk.{Talk, end_of}
use Rattle.amqp_rules.specs.Answers.{answer_in, answer_of, take_answer}
use Rattle.amqp_rules.specs.Sound.{Ascend, AllBelow}
use Rattle.amqp_types.proofs.Small.{if-true, if-false, none-from}
use Rattle.amqp_rules.proofs.Ascending.{at-gone, none-above}

pub taken-once : (number : ℕ) (t : Talk) → Ascend (keys_of t.promises) → answer_of number (take_answer number t) ≡ None
taken-once number t sorted = by (is_some (answer_of number t)) refl
  where
    rest : Talk
    rest = record t { promises = without number t.promises }

    by : (b : Bool) → is_some (answer_of number t) ≡ b → answer_of number (take_answer number t) ≡ None
    by true h =
        ap (answer_of number) (if-true (is_some (answer_of number t)) rest t h)
        ∙ ap (answer_in (end_of t)) (at-gone number t.promises sorted)
    by false h = ap (answer_of number) (if-false (is_some (answer_of number t)) rest t h) ∙ none-from (answer_of number t) h

-- a promise that was not made has no answer
pub unmade-none : (number : ℕ) (t : Talk) → AllBelow t.made (keys_of t.promises) → t.made ≤ number → answer_of number t ≡ None
unmade-none number t below le = ap (answer_in (end_of t)) (none-above number t.made t.promises le below)
