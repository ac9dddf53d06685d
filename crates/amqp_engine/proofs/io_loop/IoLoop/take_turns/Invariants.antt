-- The turns so far lead from the beginning to here.
use Rattle.std.proofs.Common.{◌≡◌, ◌≤◌, List, length, false, IsTrue, Some, Err}
use Rattle.amqp_types.specs.declared.text.Text.{Text}
use Rattle.amqp_promise.specs.declared.io_fault.IoFault.{IoFault}
use Rattle.amqp_promise.specs.declared.error.ErrorKind.TheVariants.{AuthProviderError}
use Rattle.amqp_rules.specs.Talk.{has_ended, end_of}
use Rattle.amqp_types.specs.Counts.{Rose}
use Rattle.amqp_engine.specs.Causes.{fault_of, is_counted}
use Rattle.amqp_engine.specs.Turn.{Turn, AreTold, AreFit, exchanges, cut_of, Leads}
use Rattle.amqp_engine.specs.Tell.{TellsTurns, MayCome}
use Rattle.amqp_engine.proofs.io_loop.IoLoop.take_turns.Given as goal

abbrev pub invariant-turns : goal.invariant-turns
invariant-turns g l = record {
  turns : (us : List Turn) × (length us ≡ l.counter)
      × AreTold us × Leads us l.fn.self l.self × TellsTurns us l.fn.self (g.P.Port.log l.fn.port) (g.P.Port.log l.port)
      × MayCome (cut_of us) (g.A.AuthProvider.allows l.fn.provider) (g.A.AuthProvider.allows l.provider) (exchanges us l.fn.self)
      × AreFit us;
  can : g.A.AuthProvider.can l.provider;
  never_falls : g.A.AuthProvider.refusals l.fn.provider ≤ g.A.AuthProvider.refusals l.provider;
  faults : g.P.Port.faults l.fn.port ≤ g.P.Port.faults l.port;
  kept : g.P.Port.kept l.port ≡ g.P.Port.kept l.fn.port;
  io_error_counted : (fault : IoFault) → has_ended l.fn.self.talk ≡ false → fault_of l.self.talk ≡ Some fault
      → IsTrue (is_counted fault) → Rose (g.P.Port.faults l.fn.port) (g.P.Port.faults l.port);
  refusal_counted : (text : Text) → has_ended l.fn.self.talk ≡ false → end_of l.self.talk ≡ Some (Err (AuthProviderError text))
      → Rose (g.A.AuthProvider.refusals l.fn.provider) (g.A.AuthProvider.refusals l.provider);
}
