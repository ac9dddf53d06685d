-- What is heeded: the server's flow (AMQP 0-9-1, 1.5 of its reference: channel.flow), and the time for which a secret
-- is valid (an extension of RabbitMQ).
use Rattle.std.specs.Prelude.{◌≡◌, ◌≢◌, ℕ, suc, Bool, false, List, [], ◌∷◌, Option, option_map, Some, IsTrue, IsFalse, ◌⊎◌, ◌==◌, None, IsSome, zero, true}
use Rattle.amqp_frame.specs.declared.frame.Frame.{Frame}
use Rattle.amqp_frame.specs.declared.frame.Frame.TheVariants.{Method}
use Rattle.amqp_frame.specs.declared.method.Method.TheVariants.{Start, Secure, ChannelFlow}
use Rattle.amqp_promise.specs.declared.io_fault.IoFault.{IoFault}
use Rattle.amqp_promise.specs.declared.state.ConnectionState.TheVariants.{Connecting, Connected, Closing}
use Rattle.amqp_promise.specs.declared.state.ChannelState.TheVariants as channel
use Rattle.amqp_auth.specs.declared.asked.Question.TheVariants.{Mechanism, Starter, Challenge, ValidFor, Refresh}
use Rattle.amqp_auth.specs.declared.asked.Asked.{Asked}
use Rattle.amqp_channels.specs.declared.channels.Channel.{Channel}
use Rattle.amqp_commands.specs.declared.command.Cmd.{Cmd}
use Rattle.amqp_violations.specs.declared.misread.Misread.{Misread}
use Rattle.amqp_rules.specs.declared.state.Phase.TheVariants.{AwaitStart, AwaitTune}
use Rattle.amqp_rules.specs.Talk.{Talk, acts}
use Rattle.amqp_rules.specs.Changes as change
use Rattle.amqp_rules.specs.Links as link
use Rattle.amqp_rules.specs.Commands as told
use Rattle.amqp_rules.specs.Ticks as ticks
use Rattle.amqp_rules.specs.Writing as writing
use Rattle.amqp_rules.specs.Answers.{take_answer, take_event, take_frames}
use Rattle.amqp_rules.specs.Causes.{IsInUse}
use Rattle.amqp_rules.specs.Channels.{channel_at}
use Rattle.amqp_rules.specs.Frames.{frame_questions, on_frame}
use Rattle.amqp_rules.specs.Secrets.{HasExpired}
use Rattle.amqp_rules.specs.Ticks.{is_missed, tick_questions}
use Rattle.amqp_outcome_rules.specs.Rejections.{GoesToReconnect}

-- whether content may be published on a listed channel
abbrev pub flow_on : ℕ → Talk → Option Bool
flow_on n t = option_map (λ (c : Channel). c.flow) (channel_at n t)

-- the server's flow on this channel
abbrev pub is_flow_on : ℕ → Frame → Bool
is_flow_on m (Method n (ChannelFlow active)) = m == n
is_flow_on m f = false

-- after a rule a channel has the flow that it had, or is not listed; or the session came to wait for another link
abbrev pub KeepsFlowOn : ℕ → Talk → Talk → Type 0
KeepsFlowOn m t t' = (flow_on m t' ≡ flow_on m t) ⊎ (flow_on m t' ≡ None) ⊎ GoesToReconnect t t'

-- the server's flow is heeded on a channel in use, and nothing else changes the flow of a channel
pub record HeedsFlow (t : Talk) : Type 0 where
  -- content may be published on it then exactly where the server says so
  pub here : (n : ℕ) (active : Bool) (answers : List Asked) → IsTrue (acts t) → t.state ≢ Closing →
      IsInUse (suc n) t →
      flow_on (suc n) (on_frame (Method (suc n) (ChannelFlow active)) answers t) ≡ Some active
  -- after our close of the channel it is dropped
  pub dropped : (n : ℕ) (c : Channel) (active : Bool) (answers : List Asked) → IsTrue (acts t) → t.state ≢ Connecting →
      channel_at (suc n) t ≡ Some c → c.state ≡ channel.Closing →
      on_frame (Method (suc n) (ChannelFlow active)) answers t ≡ t
  pub frame : (f : Frame) (answers : List Asked) (m : ℕ) → IsFalse (is_flow_on m f) →
      KeepsFlowOn m t (on_frame f answers t)
  pub moment : (at m : ℕ) → KeepsFlowOn m t (change.present_at at t)
  pub asked : (m : ℕ) → KeepsFlowOn m t (link.asked t)
  pub piece : (m : ℕ) → KeepsFlowOn m t (link.piece t)
  pub answer : (number m : ℕ) → KeepsFlowOn m t (take_answer number t)
  pub event : (m : ℕ) → KeepsFlowOn m t (take_event t)
  pub frames : (opened m : ℕ) → KeepsFlowOn m t (take_frames opened t)
  pub linked : (m : ℕ) → KeepsFlowOn m t (link.linked t)
  pub link_failed : (m : ℕ) → KeepsFlowOn m t (link.link_failed t)
  pub misread : (why : Misread) (m : ℕ) → KeepsFlowOn m t (link.misread why t)
  pub lost : (fault : IoFault) (m : ℕ) → KeepsFlowOn m t (link.lost fault t)
  pub tick : (answers : List Asked) (m : ℕ) → KeepsFlowOn m t (ticks.tick answers t)
  pub next_frame : (space m : ℕ) → KeepsFlowOn m t (writing.next_frame space t)
  pub taken : (n m : ℕ) → KeepsFlowOn m t (writing.taken n t)
  pub starve : (m : ℕ) → KeepsFlowOn m t (change.starve t)
  -- of a channel that was listed before
  pub command : (cmd : Cmd) (m : ℕ) → IsSome (flow_on m t) → KeepsFlowOn m t (told.command cmd t)

-- the time of a secret is asked about: the connection is open, no refresh awaits its reply, and the server was not
-- silent for too long
pub record IsTimeAsked (t : Talk) : Type 0 where
  pub opened : t.state ≡ Connected
  pub idle : t.refreshing ≡ false
  pub heard : IsFalse (is_missed t)

-- what a tick asks of the provider: how long the secret is valid, and where that time is over, a new one
pub record AsksInTime (answers : List Asked) (t : Talk) : Type 0 where
  pub unasked : (IsTimeAsked t → ⊥) → tick_questions answers t ≡ []
  pub valid : IsTimeAsked t → (HasExpired answers t → ⊥) → tick_questions answers t ≡ ValidFor ∷ []
  pub expired : IsTimeAsked t → HasExpired answers t → tick_questions answers t ≡ ValidFor ∷ Refresh ∷ []

-- ---- what frames ask

-- start of the server
abbrev pub is_start : Frame → Bool
is_start (Method zero (Start major minor properties mechanisms locales)) = true
is_start f = false

-- the challenge of a frame, where it is one
abbrev pub challenge_of : Frame → Option (List ℕ)
challenge_of (Method zero (Secure challenge)) = Some challenge
challenge_of f = None

-- the provider is asked at a frame: frames act, the connection is being opened, and start or a challenge is due (AMQP
-- 0-9-1, 2.2.4)
pub record IsAskedAt (f : Frame) (t : Talk) : Type 0 where
  pub acting : IsTrue (acts t)
  pub opening : t.state ≡ Connecting
  pub due : ((t.phase ≡ AwaitStart) × IsTrue (is_start f)) ⊎ ((t.phase ≡ AwaitTune) × IsSome (challenge_of f))

-- at start the provider is asked for its mechanism, and then what is said first by it; at a challenge what is said to
-- it; and at no other frame is it asked
pub record AsksAtFrames (t : Talk) : Type 0 where
  pub start : (f : Frame) → IsAskedAt f t → t.phase ≡ AwaitStart → frame_questions f t ≡ Mechanism ∷ Starter ∷ []
  pub secure : (f : Frame) (challenge : List ℕ) → IsAskedAt f t → challenge_of f ≡ Some challenge →
      frame_questions f t ≡ Challenge challenge ∷ []
  pub unasked : (f : Frame) → (IsAskedAt f t → ⊥) → frame_questions f t ≡ []
