-- Why a command is refused: each error, and exactly where it comes.
use Rattle.std.specs.Prelude.{◌≡◌, ◌≢◌, ℕ, List, [], ◌∷◌, length, Option, Some, None}
use Rattle.amqp_types.specs.declared.word.Word.{Word}
use Rattle.amqp_types.specs.declared.word.Word.TheVariants as word
use Rattle.amqp_frame.specs.declared.frame.Frame.{Frame}
use Rattle.amqp_frame.specs.Frames.{encoding}
use Rattle.amqp_promise.specs.declared.state.ConnectionState.TheVariants.{Connected}
use Rattle.amqp_promise.specs.declared.state.ChannelState.TheVariants as channel
use Rattle.amqp_promise.specs.declared.error.ErrorKind.{ErrorKind}
use Rattle.amqp_promise.specs.declared.error.ErrorKind.TheVariants.{ChannelsLimitReached, InvalidChannel, InvalidChannelState, InvalidConnectionState, OutboxFull, SerialisationError}
use Rattle.amqp_channels.specs.declared.channels.Channel.{Channel}
use Rattle.amqp_commands.specs.declared.command.ChanRef.{ChanRef}
use Rattle.amqp_commands.specs.declared.command.Cmd.{Cmd}
use Rattle.amqp_commands.specs.declared.command.Cmd.TheVariants.{OpenChannel, CloseChannel, UpdateSecret, Send, Publish, Flow}
use Rattle.amqp_rules.specs.Talk.{Talk}
use Rattle.amqp_channels.specs.Channels.{AllListed}
use Rattle.amqp_settings.specs.Handshake.{new_secret}
use Rattle.amqp_rules.specs.Commands.{named, too_long}
use Rattle.amqp_rules.specs.Laws.{IsOutboxFull, frames_of_command}

-- the channel that a command is told of, with the word by which it is refused where that is not open
abbrev pub channel_told : Cmd → Option (ChanRef × Word)
channel_told (CloseChannel r code text) = Some (r, word.ChannelClose)
channel_told (Send r method) = Some (r, word.Send)
channel_told (Publish r method properties body) = Some (r, word.Publish)
channel_told (Flow r active) = Some (r, word.ChannelFlow)
channel_told cmd = None

-- the frames of a command that may be too long to be sent: of one that sends or publishes, and of a new secret
abbrev pub frames_told : Cmd → Talk → List Frame
frames_told (UpdateSecret secret reason) t = new_secret secret reason ∷ []
frames_told cmd t = frames_of_command cmd t

-- the channel that a command is told of, where it is told of one, is listed and open
abbrev pub IsTargetOpen : Cmd → Talk → Type 0
IsTargetOpen cmd t =
    (r : ChanRef) (w : Word) → channel_told cmd ≡ Some (r, w)
    → (c : Channel) × (named r t ≡ Some c) × (c.state ≡ channel.Connected)

-- while the connection is open, a command is refused: its channel is not listed; it is listed and not open; no number
-- is free for the channel that it opens; one of its frames is longer than what can be unsent, the first such one; or
-- with them too much would wait
abbrev pub IsRefusedOpen : ErrorKind → Cmd → Talk → Type 0
IsRefusedOpen (InvalidChannel n) cmd t =
    (r : ChanRef) × (w : Word) × (channel_told cmd ≡ Some (r, w)) × (named r t ≡ None) × (n ≡ r.id)
IsRefusedOpen (InvalidChannelState held w) cmd t =
    (r : ChanRef) × (channel_told cmd ≡ Some (r, w))
    × ((c : Channel) × (named r t ≡ Some c) × (c.state ≡ held) × (held ≢ channel.Connected))
IsRefusedOpen ChannelsLimitReached cmd t =
    (cmd ≡ OpenChannel) × AllListed t.configuration.channel_max t.channels
IsRefusedOpen (SerialisationError size) cmd t =
    IsTargetOpen cmd t
    × ((frame : Frame) × (too_long (frames_told cmd t) t ≡ Some frame) × (size ≡ length (encoding frame)))
IsRefusedOpen (OutboxFull octets) cmd t = IsOutboxFull octets cmd t
IsRefusedOpen error cmd t = ⊥

-- a command is refused with an error: the connection is not open, or as above
abbrev pub IsRefusedWith : ErrorKind → Cmd → Talk → Type 0
IsRefusedWith (InvalidConnectionState held) cmd t = (t.state ≢ Connected) × (held ≡ t.state)
IsRefusedWith error cmd t = (t.state ≡ Connected) × IsRefusedOpen error cmd t
