-- That a conversation keeps the numbers of its own tune-ok (AMQP 0-9-1, 1.4.2.6: channel-max, frame-max).
use Rattle.std.specs.Prelude.{ℕ, ◌≢◌, ◌≤◌, ◌+◌, List, [], ◌∷◌, length}
use Rattle.amqp_frame.specs.declared.frame.Frame.{Frame}
use Rattle.amqp_frame.specs.declared.frame.Frame.TheVariants.{Method, Raw}
use Rattle.amqp_frame.specs.declared.frame.RawKind.TheVariants.{Body}
use Rattle.amqp_frame.specs.declared.method.Method.TheVariants.{TuneOk}

-- the highest number of a channel, and the greatest length of a frame in octets; 0 is no bound
pub record AgreedNumbers : Type 0 where
  pub channel_max : ℕ
  pub frame_max : ℕ

-- before tune-ok there is no bound
abbrev pub unbounded : AgreedNumbers
unbounded = record { channel_max = 0; frame_max = 0 }

-- a number keeps a bound, where there is one
abbrev pub IsWithin : ℕ → ℕ → Type 0
IsWithin bound n = bound ≢ 0 → n ≤ bound

-- no frame is on a channel above channel-max, and no body frame, with the 8 octets around its payload, is longer
-- than frame-max
abbrev pub IsAgreed : AgreedNumbers → Frame → Type 0
IsAgreed agreed (Method n method) = IsWithin agreed.channel_max n
IsAgreed agreed (Raw n Body body) = IsWithin agreed.channel_max n × IsWithin agreed.frame_max (length body + 8)
IsAgreed agreed (Raw n _ payload) = IsWithin agreed.channel_max n
IsAgreed agreed _ = Unit {0}

-- the numbers that are agreed once a frame was said: tune-ok says them
abbrev pub agreed_after : Frame → AgreedNumbers → AgreedNumbers
agreed_after (Method n (TuneOk channel_max frame_max heartbeat)) agreed =
    record { channel_max = channel_max; frame_max = frame_max }
agreed_after _ agreed = agreed

-- each frame keeps the numbers that are agreed when it is said
abbrev pub KeepsNumbers : AgreedNumbers → List Frame → Type 0
KeepsNumbers agreed [] = Unit {0}
KeepsNumbers agreed (f ∷ frames) = IsAgreed agreed f × KeepsNumbers (agreed_after f agreed) frames

-- a conversation keeps the numbers of its own tune-ok
abbrev pub KeepsAgreed : List Frame → Type 0
KeepsAgreed frames = KeepsNumbers unbounded frames
