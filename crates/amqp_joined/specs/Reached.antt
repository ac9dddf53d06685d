-- How a joined port came to be as it is: by what happened to it since it was new.
use Rattle.std.specs.Prelude.{ℕ, false, List, [], None}
use Rattle.amqp_settings.specs.declared.configuration.Configuration.{Configuration}
use Rattle.amqp_engine.specs.declared.port.Step.{Step}
use Rattle.amqp_engine.specs.declared.port.Wrote.{Wrote}
use Rattle.amqp_engine.specs.Log.{Log, log_ask, log_step, log_write}
use Rattle.amqp_double.specs.Doubles.{fresh}
use Rattle.amqp_joining.specs.Plans.{JoinPlan}
use Rattle.amqp_joining.specs.Joining.{Join, join, JoinWrites}
use Rattle.amqp_joined.specs.Ports.{JoinedState, joined_log, TellsStep}

-- what a port tells that told nothing
abbrev pub untold : Configuration → JoinPlan → Log
untold numbers plan = joined_log [] 0 [] false None 0 (join (fresh numbers) plan)

-- a port to a new double by this plan tells this, and is so far: a link was asked for, steps were told by their rule,
-- and writes were answered by theirs, in some order
pub data Reached (numbers : Configuration) (plan : JoinPlan) : Log → Join → Type 0 where
  new : Reached numbers plan (untold numbers plan) (join (fresh numbers) plan)
  asked : {a : Log} {j : Join} → Reached numbers plan a j → Reached numbers plan (log_ask a) j
  told : {a : Log} {j : Join} (step : Step) (octets : List ℕ) (after : Join) → TellsStep 0 step octets a.asked j after
      → Reached numbers plan a j → Reached numbers plan (log_step 0 step octets a) after
  wrote : {a : Log} {j : Join} (octets : List ℕ) (answer : Wrote) (after : Join) → JoinWrites octets answer j after
      → Reached numbers plan a j → Reached numbers plan (log_write octets answer a) after

-- a port came to be as it is by what happened to it
abbrev pub HasCome : JoinedState → Type 0
HasCome s = Reached s.join.double.numbers s.join.plan s.log s.join
