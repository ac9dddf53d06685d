-- What a frame hands out, and what was handed out on one channel.
use Rattle.std.specs.Prelude.{ℕ, suc, if◌then◌else◌, List, [], ◌∷◌, map, Option, Some, None, ◌==◌, filter}
use Rattle.amqp_frame.specs.declared.frame.Frame.{Frame}
use Rattle.amqp_frame.specs.declared.frame.Frame.TheVariants.{Raw}
use Rattle.amqp_channels.specs.declared.channels.Channel.{Channel}
use Rattle.amqp_answers.specs.declared.handed.Handed.{Handed}
use Rattle.amqp_rules.specs.Talk.{Talk, acts}
use Rattle.amqp_rules.specs.Channels.{channel_at}
use Rattle.amqp_rules.specs.ChannelMethods.{heard_on}

-- a frame, with the promise that opened its channel
pub record HandedOut : Type 0 where
  pub opened : ℕ
  pub frame : Handed

-- a frame is handed out, where its channel is listed
abbrev pub handed_of : Option Channel → Handed → List HandedOut
handed_of None h = []
handed_of (Some c) h = record { opened = c.opened; frame = h } ∷ []

-- what a frame that is read hands out
abbrev pub hands_out : Frame → Talk → List HandedOut
hands_out (Raw (suc n) kind bytes) t =
    if acts t
    then handed_of (heard_on t.state (channel_at (suc n) t)) (record { channel = suc n; kind = kind; bytes = bytes })
    else []
hands_out _ t = []

-- what was handed out on the channel that a promise opened, of what was handed out on all
abbrev pub handed_on : ℕ → List (ℕ × Handed) → List Handed
handed_on opened hs = map (λ h. h.1) (filter (λ h. h.0 == opened) hs)
