use Rattle.std.proofs.Common.{◌≡◌, ◌∙◌, ◌-◌, ℕ, Bool, if◌then◌else◌, ap, sym, arith}
use Rattle.amqp_replay.specs.Summary.{is_ok}
use Rattle.amqp_replay.proofs.Generating.{counted_from, counted_from-step, is_ok-taken, Keeps-taken}
use Rattle.amqp_doubled.proofs.summary.count_ok.Goals as goal

pub answers-preserved : goal.answers-preserved
answers-preserved c =
    let t = c.args.engine.now.talk in
    let now = c.answers.engine.talk in
    let after = c.answer.new.self.talk in
    let k = c.answers.number in
    let given = c.answer.result in
    let same = is_ok-taken k given now after c.answer.ensures.taken
    ∙ ap is_ok (c.answers.invariant.keeps.answers k (omega arith)) in
    let one = c.one_if_ok-answered.ensures.value ∙ ap (λ (b : Bool). if b then 1 else 0) same in
    record {
      whole = counted_from-step t k c.promises-count.result c.answers.answered c.one_if_ok-answered.result c.answers-test.true one
          ∙ c.answers.invariant.whole;
      within = omega (arith, c.one_if_ok-answered.ensures.bound, c.answers.invariant.within);
      count = c.answers.invariant.count;
      keeps = Keeps-taken k given t now after c.answers.invariant.keeps c.answer.ensures.taken;
    }

pub returns-clause-count : goal.returns-clause-count
returns-clause-count c =
    let t = c.args.engine.now.talk in
    let none : c.promises-count.result - c.answers.number ≡ 0 = omega arith in
    sym (ap (λ (k : ℕ). counted_from t c.answers.number k c.answers.answered) none) ∙ c.answers.invariant.whole
