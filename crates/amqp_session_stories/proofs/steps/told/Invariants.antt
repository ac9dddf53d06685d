-- The provider's closures may still be called.
use Rattle.amqp_session_stories.proofs.steps.told.Given as goal

abbrev pub invariant-loop-step : goal.invariant-loop-step
invariant-loop-step g l = g.A.AuthProvider.can l.provider
