use Rattle.std.proofs.Common.{◌+◌, sym, subst, refl, [], ◌∷◌, ◌++◌}
use Rattle.amqp_check.proofs.Hearing.{some-is}
use Rattle.amqp_resumed.specs.HeardRests.{HasHeardRest}
use Rattle.amqp_resumed.specs.declared.hearing.Hearing.{Hearing}
use Rattle.amqp_resumed.proofs.HeardMore.{heard-still, counted}
use Rattle.amqp_resumed.proofs.hearing.Hearing.hear.Goals.{then-is_none, else-is_none}
use Rattle.amqp_resumed.proofs.hearing.Hearing.hear.Goals as goal

pub returns-clause-heard : goal.returns-clause-heard
returns-clause-heard c frames has =
    let P : Hearing → Type 0 = λ x. HasHeardRest (frames ++ c.args.frame.now ∷ []) (record x { frames = x.frames + 1 }) in
    elim c.if-is_none.branch [
      | then-is_none w ↦
          subst P (sym w.self-is) (counted frames c.args.frame.now c.args.self.now w.judge.new.self w.judge.ensures.count has (w.judge.ensures.judged frames has))
      | else-is_none w ↦
          let some = some-is c.args.self.now.wrong w.if-is_none.ensures in
          subst P (sym w.self-is) (counted frames c.args.frame.now c.args.self.now c.args.self.now refl has (heard-still frames c.args.frame.now c.args.self.now some.0 some.1 has))
    ]
