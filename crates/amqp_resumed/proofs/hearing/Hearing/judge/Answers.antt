use Rattle.std.proofs.Common.{sym, subst, ℕ, Option, [], ◌∷◌, ◌++◌}
use Rattle.amqp_resumed.specs.HeardRests.{IsHeardRest}
use Rattle.amqp_resumed.proofs.HeardMore.{judged-more}
use Rattle.amqp_resumed.proofs.hearing.Hearing.judge.Goals as goal

pub returns-then-say-clause-judged : goal.returns-then-say-clause-judged
returns-then-say-clause-judged c = λ frames has.
    let next = judged-more frames c.args.frame.now c.args.self.now c.say.result c.say.new.self c.requires has c.say.ensures in
    subst (λ (o : Option ℕ). IsHeardRest (frames ++ c.args.frame.now ∷ []) o c.say.new.self) (sym c.requires) (next.0 c.if-say.true)

pub returns-clause-judged : goal.returns-clause-judged
returns-clause-judged c = λ frames has.
    let next = judged-more frames c.args.frame.now c.args.self.now c.say.result c.say.new.self c.requires has c.say.ensures in
    next.1 c.if-say.false
