use Rattle.std.proofs.Common.{◌≡◌, ◌⊎◌, inl, inr, false, Some, Err}
use Rattle.amqp_promise.specs.declared.error.ErrorKind.TheVariants.{OutOfTurns}
use Rattle.amqp_rules.specs.Talk.{end_of, has_ended}
use Rattle.amqp_engine.proofs.Carrying.{run-ran}
use Rattle.amqp_engine.proofs.TurnEnds.{runs-cause, not-turns}
use Rattle.amqp_joined.proofs.Taking.{runs-joined, answers-closed, answers-ends}
use Rattle.amqp_joined.proofs.joined_port.JoinedPort.run.Goals as goal

pub returns-clause-turns : goal.returns-clause-turns
returns-clause-turns g c = run-ran _ _ _ _ _ _ _ c.take_turns.ensures.turns.lent

pub returns-clause-joined : goal.returns-clause-joined
returns-clause-joined g c numbers plan new wanted counted = runs-joined _ _ _ _ _ _ _ c.take_turns.ensures.turns numbers plan new wanted counted

pub returns-clause-both_ends : goal.returns-clause-both_ends
returns-clause-both_ends g c t numbers plan new enough says =
    answers-ends _ _ _ _ _ _ _ c.take_turns.ensures.turns t numbers plan new enough c.end_of_run.result c.end_of_run.ensures.ended says c.end_of_run.ensures.refused

pub returns-clause-both_ends_close : goal.returns-clause-both_ends_close
returns-clause-both_ends_close g c t numbers plan new enough says ok =
    answers-closed _ _ _ _ _ _ _ c.take_turns.ensures.turns t numbers plan new enough c.end_of_run.result c.end_of_run.ensures.ended says c.end_of_run.ensures.out_of_turns ok

pub returns-clause-only_out_of_turns : goal.returns-clause-only_out_of_turns
returns-clause-only_out_of_turns g c running is = by (c.end_of_run.ensures.only_out_of_turns is) where
  by : (has_ended c.take_turns.new.engine.talk ≡ false) ⊎ (end_of c.take_turns.new.engine.talk ≡ Some (Err OutOfTurns)) → has_ended c.take_turns.new.engine.talk ≡ false
  by (inl on) = on
  by (inr over) = absurd (not-turns _ _ _ (runs-cause _ _ _ _ _ OutOfTurns c.take_turns.ensures.turns.lent.runs running over).cause.error_read)
