-- What is told when time has passed. A tick is due each 500 milliseconds.
use Rattle.std.specs.Prelude.{◌⊎◌, ◌≤◌, ◌<◌, ◌-◌, ℕ, Option, Some, None}
use Rattle.amqp_engine.specs.declared.port.Step.{Step}
use Rattle.amqp_engine.specs.declared.port.Step.TheVariants.{Tick, Fault, LinkFailed}
use Rattle.amqp_socket.specs.declared.mio_port.Stage.{Stage}
use Rattle.amqp_socket.specs.declared.mio_port.Stage.TheVariants.{Idle, Refused, Connecting, Linked}
use Rattle.amqp_socket.specs.declared.watch.Cause.{Cause}
use Rattle.amqp_socket.specs.declared.limits.Limits.{Limits}
use Rattle.amqp_socket.specs.Limits.{breach}

-- a tick that is due comes next: four steps went before it since, or at least one, the last of them at a moment less
-- than 500 milliseconds ago
abbrev pub IsTickNext : ℕ → ℕ → ℕ → Type 0
IsTickNext before last at = (4 ≤ before) ⊎ ((1 ≤ before) × (at - last < 500))

-- why the link that there is is given up, where it is
abbrev pub overdue : Stage → Limits → ℕ → Option Cause
overdue Linked l now = breach l now
overdue _ l now = None

-- what is told when a tick is due: it, or that a link that is given up has failed
abbrev pub due_step : Option Cause → Step
due_step (Some cause) = Fault
due_step None = Tick

-- what is told of a session that was abandoned: what there is of a link fails, and else time passes
abbrev pub last_step : Stage → Step
last_step Idle = Tick
last_step Refused = LinkFailed
last_step Connecting = LinkFailed
last_step Linked = Fault
