use Rattle.std.proofs.Common.{◌∙◌, ◌+◌, ◌-◌, ◌++◌, ℕ, List, ap, sym, subst, append_assoc, arith}
use Rattle.std.specs.String.{string_bytes}
use Rattle.amqp_rules.specs.Talk.{Talk}
use Rattle.amqp_replay.specs.Report.{answer_line}
use Rattle.amqp_replay.proofs.Reports.{answers_from, lines_from-step, line_of, Keeps, Keeps-step, Takes-told}
use Rattle.amqp_replay.proofs.report.put_answers.Goals as goal

pub answers-preserved : goal.answers-preserved
answers-preserved c =
    let t = c.args.engine.now.talk in
    let now = c.answers.engine.talk in
    let out = string_bytes c.answers.out in
    let k = c.answers.number in
    let count = c.promises-count.result in
    let rest = answers_from t (k + 1) (count - (k + 1)) in
    let takes = Takes-told k c.answer-answer.result now c.answer-answer.new.self.talk
    c.in_ok-put.ensures.whole c.answer-answer.ensures.taken in
    let same = takes.0 ∙ c.answers.invariant.keeps.answers k (omega arith) in
    let P : Talk → Type 0 = λ x. Keeps (k + 1) t x in
    record {
      whole = ap (λ (x : List ℕ). x ++ rest) (c.in_ok-put.ensures.line ∙ ap (λ a. out ++ answer_line k a) same)
          ∙ append_assoc out (line_of t k) rest
          ∙ ap (λ (x : List ℕ). out ++ x) (sym (lines_from-step (line_of t) k count c.answers-test.true))
          ∙ c.answers.invariant.whole;
      count = c.answers.invariant.count;
      keeps = subst P (sym takes.1) (Keeps-step k t now c.answers.invariant.keeps);
    }
