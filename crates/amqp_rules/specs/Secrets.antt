-- Time for secrets: when a new one is asked for, and from which moment one is valid (an extension of RabbitMQ).
use Rattle.std.specs.Prelude.{◌≡◌, ◌⊎◌, ◌≤◌, ◌-◌, ◌&&◌, if◌then◌else◌, ℕ, zero, Bool, true, false, IsTrue, List, ◌∷◌, Option, Some, None, Err}
use Rattle.amqp_frame.specs.declared.frame.Frame.{Frame}
use Rattle.amqp_frame.specs.declared.frame.Frame.TheVariants.{Method}
use Rattle.amqp_frame.specs.declared.method.Method.TheVariants.{OpenOk, UpdateSecretOk}
use Rattle.amqp_commands.specs.declared.command.Cmd.{Cmd}
use Rattle.amqp_promise.specs.declared.io_fault.IoFault.{IoFault}
use Rattle.amqp_violations.specs.declared.misread.Misread.{Misread}
use Rattle.amqp_promise.specs.declared.state.ConnectionState.TheVariants.{Connected}
use Rattle.amqp_auth.specs.declared.asked.Asked.{Asked}
use Rattle.amqp_auth.specs.declared.asked.Asked.TheVariants as answer
use Rattle.amqp_outbox.specs.declared.reply.Reply.TheVariants.{SecretDone}
use Rattle.amqp_outbox.specs.Queued.{awaited_promise}
use Rattle.amqp_rules.specs.Talk.{Talk, acts}
use Rattle.amqp_rules.specs.Parts.{awaits_open_ok}
use Rattle.amqp_rules.specs.Changes as change
use Rattle.amqp_rules.specs.Links as link
use Rattle.amqp_rules.specs.Frames.{on_frame}
use Rattle.amqp_rules.specs.Ticks.{is_connected, tick}
use Rattle.amqp_rules.specs.Commands.{command}
use Rattle.amqp_rules.specs.Writing as writing
use Rattle.amqp_rules.specs.Answers.{take_answer, take_event, take_frames}

-- the secret has expired: the connection is open, no refresh awaits its reply, and since the moment from which the
-- secret is valid as much time has gone by as the provider says that it is valid
pub record HasExpired (answers : List Asked) (t : Talk) : Type 0 where
  pub opened : t.state ≡ Connected
  pub idle : t.refreshing ≡ false
  pub time : ℕ
  pub later : List Asked
  pub told : answers ≡ answer.ValidFor (Some time) ∷ later
  pub gone : time ≤ t.present - t.secret_at

-- what awaits a reply is a refresh: it has no promise
abbrev pub is_refresh : Option (Option ℕ) → Bool
is_refresh (Some None) = true
is_refresh _ = false

-- a frame from which on, where it acts, the secret is valid: the open-ok that opens the connection, and the
-- update-secret-ok of a refresh
abbrev pub renews : Frame → Talk → Bool
renews (Method zero OpenOk) t = awaits_open_ok t.state t.phase
renews (Method zero UpdateSecretOk) t =
    is_connected t.state && is_refresh (awaited_promise 0 SecretDone t.outbox)
renews f t = false

-- the provider had no new secret
abbrev pub refuses : List Asked → Bool
refuses (answer.ValidFor time ∷ answer.Refreshed (Err text) ∷ later) = true
refuses answers = false

-- the secret is valid from the same moment as before
abbrev pub IsSameSecret : Talk → Talk → Type 0
IsSameSecret t t' = t'.secret_at ≡ t.secret_at

-- so it is, or, where that may be, it is valid from now on
abbrev pub IsSameOrNew : Bool → Talk → Talk → Type 0
IsSameOrNew may t t' = IsSameSecret t t' ⊎ (IsTrue may × (t'.secret_at ≡ t.present))

-- from which moment the secret is valid after each rule
pub record KeepsSecret (t : Talk) : Type 0 where
  pub frame : (f : Frame) (answers : List Asked)
      → (on_frame f answers t).secret_at ≡ (if acts t && renews f t then t.present else t.secret_at)
  pub tick : (answers : List Asked) → IsSameOrNew (refuses answers) t (tick answers t)
  -- no other rule changes it
  pub moment : (at : ℕ) → IsSameSecret t (change.present_at at t)
  pub asked : IsSameSecret t (link.asked t)
  pub linked : IsSameSecret t (link.linked t)
  pub link_failed : IsSameSecret t (link.link_failed t)
  pub piece : IsSameSecret t (link.piece t)
  pub misread : (why : Misread) → IsSameSecret t (link.misread why t)
  pub lost : (fault : IoFault) → IsSameSecret t (link.lost fault t)
  pub next_frame : (space : ℕ) → IsSameSecret t (writing.next_frame space t)
  pub taken : (n : ℕ) → IsSameSecret t (writing.taken n t)
  pub starve : IsSameSecret t (change.starve t)
  pub command : (cmd : Cmd) → IsSameSecret t (command cmd t)
  pub answer : (number : ℕ) → IsSameSecret t (take_answer number t)
  pub event : IsSameSecret t (take_event t)
  pub frames : (opened : ℕ) → IsSameSecret t (take_frames opened t)
