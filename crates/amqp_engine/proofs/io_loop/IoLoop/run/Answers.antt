use Rattle.std.proofs.Common.{◌≡◌, ◌∙◌, inl, inr, false, Option, Some, None, Result, Ok, Err, is_some, refl, ap, sym, subst}
use Rattle.amqp_promise.specs.declared.error.ErrorKind.{ErrorKind}
use Rattle.amqp_promise.specs.declared.error.ErrorKind.TheVariants.{OutOfTurns}
use Rattle.amqp_rules.specs.Talk.{end_of, has_ended}
use Rattle.amqp_engine.specs.Engine.{Engine}
use Rattle.amqp_rules.specs.Answers.{HandsOut}
use Rattle.amqp_engine.proofs.Playing.{runs-played}
use Rattle.amqp_engine.proofs.TurnEnds.{runs-cause, not-turns}
use Rattle.amqp_engine.proofs.Carrying.{run-ran}
use Rattle.amqp_engine.proofs.Closed.{run-valid}
use Rattle.amqp_engine.proofs.io_loop.IoLoop.run.Goals as goal
use Rattle.amqp_engine.proofs.io_loop.IoLoop.run.Goals.{in-Some, in-None}

pub returns-clause-played : goal.returns-clause-played
returns-clause-played g c = runs-played _ _ _ _ _ _ _ c.take_turns.ensures.turns

pub returns-clause-turns : goal.returns-clause-turns
returns-clause-turns g c = run-ran _ _ _ _ _ _ _ c.take_turns.ensures.turns

-- where there is an end, no other error is answered
otherwise : (o given : Option (Result (Unit {0}) ErrorKind)) (r : Result (Unit {0}) ErrorKind) → HandsOut o given → given ≡ Some r
    → (o ≡ Some (Err OutOfTurns) → ⊥) → r ≡ Err OutOfTurns → ⊥
otherwise None given r h some never is = cc
otherwise (Some (Ok x)) given r h some never is = cc
otherwise (Some (Err e)) given r (inl h) some never is =
    let same : Some (Err e) ≡ Some (Err OutOfTurns) = sym h ∙ some ∙ ap Some is in
    never same
otherwise (Some (Err e)) given r (inr h) some never is = cc

none-given : (o : Option (Result (Unit {0}) ErrorKind)) → HandsOut o None → is_some o ≡ false
none-given None h = refl
none-given (Some (Ok x)) h = cc
none-given (Some (Err e)) (inl h) = cc
none-given (Some (Err e)) (inr h) = cc

pub returns-clause-only_out_of_turns : goal.returns-clause-only_out_of_turns
returns-clause-only_out_of_turns g c running is =
    let t = c.session.result.now in
    let here : t ≡ c.take_turns.new.self.talk = c.session.ensures ∙ ap (λ (x : Engine). x.talk) c.self.view_is in
    let never : end_of t ≡ Some (Err OutOfTurns) → ⊥ =
    λ h. not-turns _ _ _ (runs-cause _ _ _ _ _ OutOfTurns c.take_turns.ensures.turns.runs running (ap end_of (sym here) ∙ h)).cause.error_read in
    elim c.match-end.branch [
      | in-Some w ↦ absurd (otherwise (end_of t) c.end.result c.match-end.result c.end.ensures (w.in-Some.is ∙ ap Some (sym w.result-is)) never is)
      | in-None w ↦
          let P : Option (Result (Unit {0}) ErrorKind) → Type 0 = λ o. HandsOut (end_of t) o in
          ap has_ended (sym here) ∙ none-given (end_of t) (subst P w.in-None.is c.end.ensures)
    ]

pub returns-clause-valid : goal.returns-clause-valid
returns-clause-valid g c t gs new from plays all fed =
    run-valid _ _ _ _ _ _ (runs-played _ _ _ _ _ _ _ c.take_turns.ensures.turns) t gs new from plays all fed
