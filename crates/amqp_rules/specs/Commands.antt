-- Commands: what a session is told to do. Each takes the next promise, but for those that let a channel or the
-- connection go, and that which listens; a refused one is answered at once.
use Rattle.std.specs.Prelude.{ℕ, ◌+◌, ◌-◌, ◌==◌, nat_lt, if◌then◌else◌, Bool, true, false, List, [], ◌∷◌, length, find, Option, Some, None, Result, Ok, Err, codes}
use Rattle.amqp_frame.specs.declared.frame.Frame.{Frame}
use Rattle.amqp_frame.specs.RawMethods.{OtherMethod}
use Rattle.amqp_frame.specs.Frames.{encoding}
use Rattle.amqp_frame.specs.Lengths.{capped}
use Rattle.amqp_types.specs.declared.word.Word.{Word}
use Rattle.amqp_types.specs.declared.word.Word.TheVariants as word
use Rattle.amqp_outbox.specs.declared.reply.Reply.TheVariants.{ChannelOpened, ChannelClosed, FlowDone, SecretDone, ConnectionClosed}
use Rattle.amqp_outbox.specs.Items.{promised_item, group_of}
use Rattle.amqp_outbox.specs.Queued.{unsent_octets}
use Rattle.amqp_promise.specs.declared.state.ConnectionState.{ConnectionState}
use Rattle.amqp_promise.specs.declared.state.ConnectionState.TheVariants.{Connected, Closing}
use Rattle.amqp_promise.specs.declared.state.ChannelState.{ChannelState}
use Rattle.amqp_promise.specs.declared.state.ChannelState.TheVariants as channel
use Rattle.amqp_channels.specs.declared.channels.Channel.{Channel}
use Rattle.amqp_commands.specs.declared.command.ChanRef.{ChanRef}
use Rattle.amqp_commands.specs.declared.command.Cmd.{Cmd}
use Rattle.amqp_commands.specs.declared.command.Cmd.TheVariants.{OpenChannel, CloseChannel, CloseConnection, UpdateSecret, Send, Publish, Flow, DropChannel, DropConnection, Listen}
use Rattle.amqp_promise.specs.declared.error.ErrorKind.{ErrorKind}
use Rattle.amqp_promise.specs.declared.error.ErrorKind.TheVariants.{ChannelsLimitReached, InvalidChannel, InvalidChannelState, InvalidConnectionState, OutboxFull, SerialisationError}
use Rattle.amqp_maps.specs.Listed.{map_values}
use Rattle.amqp_rules.specs.Talk.{Talk, has_ended}
use Rattle.amqp_channels.specs.Numbering.{first_number, after, drawn}
use Rattle.amqp_settings.specs.Handshake.{our_close, new_secret, channel_open, channel_flow, our_channel_close}
use Rattle.amqp_rules.specs.Negotiation.{frame_limit}
use Rattle.amqp_commands.specs.Publishing.{method_frame, publish_frames, octets_of_frames}
use Rattle.amqp_rules.specs.Changes.{queue, queue_item, queue_group, await, next_promise, promise, refuse, drop_groups_of, drop_groups}
use Rattle.amqp_channels.specs.Channels.{new_channel, made_closing, made_leaving}
use Rattle.amqp_rules.specs.Channels.{channel_at, set_channel}

-- ---- opening a channel

-- the channel of a number is listed, its opening is queued, and its promise waits for the open-ok; the cursor goes on
abbrev pub open_as : ℕ → Talk → Talk
open_as n t =
    let number = next_promise t in
    let listed = record (set_channel n (new_channel number) t) { cursor = after t.configuration.channel_max n } in
    promise (await n ChannelOpened (Some number) (queue n (channel_open n) listed))

-- every number is listed, and the opening is refused; the cursor goes on by one all the same
abbrev pub open_none : ℕ → Talk → Talk
open_none first t = record (refuse ChannelsLimitReached t) { cursor = after t.configuration.channel_max first }

-- a channel is opened with the number that was drawn, where one was
abbrev pub open_drawn : Option ℕ → ℕ → Talk → Talk
open_drawn None first t = open_none first t
open_drawn (Some n) first t = open_as n t

-- the first number of the cycle that is not listed is drawn
abbrev pub open_channel : Talk → Talk
open_channel t =
    let first = first_number t.configuration.channel_max t.cursor in
    open_drawn (drawn t.configuration.channel_max first t.channels) first t

-- ---- what is told of a channel

-- the promise that opened a channel is the one that is named, where one is named
abbrev pub is_opening : Option ℕ → ℕ → Bool
is_opening None opened = true
is_opening (Some number) opened = number == opened

-- a listed channel, where it is the one that the named promise opened, or none is named
abbrev pub named_in : Option ℕ → Option Channel → Option Channel
named_in opened None = None
named_in opened (Some c) = if is_opening opened c.opened then Some c else None

-- the listed channel that is named, by its number and, where the promise that opened it is named, by that
abbrev pub named : ChanRef → Talk → Option Channel
named r t = named_in r.opened (channel_at r.id t)

-- a listed channel, where it is open; else why what is told of it is refused
abbrev pub target_in : ChannelState → Word → Channel → Result Channel ErrorKind
target_in channel.Connected word c = Ok c
target_in held word c = Err (InvalidChannelState held word)

-- the listed channel, where there is one and it is open; else why what is told of it is refused
abbrev pub target_by : Option Channel → ℕ → Word → Result Channel ErrorKind
target_by None n word = Err (InvalidChannel n)
target_by (Some c) n word = target_in c.state word c

-- the channel that something is told of, where it is listed and open; else why that is refused
abbrev pub target : ChanRef → Word → Talk → Result Channel ErrorKind
target r word t = target_by (named r t) r.id word

-- ---- closing a channel

-- our close of the channel is queued, its close-ok is awaited and will answer a promise, where there is one, and the
-- groups of the channel that have not begun go
abbrev pub leave_channel : ℕ → ℕ → List ℕ → Channel → Option ℕ → Talk → Talk
leave_channel n code text c answers t =
    let is_leaving = set_channel n (made_leaving c) t in
    drop_groups_of n (InvalidChannelState channel.Closing word.ChannelClose)
    (await n ChannelClosed answers (queue n (our_channel_close n code text) is_leaving))

-- the channel is closed, and the promise of the close waits for the close-ok
abbrev pub close_channel : ℕ → ℕ → List ℕ → Channel → Talk → Talk
close_channel n code text c t = promise (leave_channel n code text c (Some (next_promise t)) t)

-- the channel that was found is closed; else the command is refused
abbrev pub close_target : Result Channel ErrorKind → ℕ → ℕ → List ℕ → Talk → Talk
close_target (Err e) n code text t = refuse e t
close_target (Ok c) n code text t = close_channel n code text c t

-- ---- sending

-- the first of some frames that is longer than the capacity
abbrev pub too_long : List Frame → Talk → Option Frame
too_long frames t = find (λ frame. nat_lt t.capacity (length (encoding frame))) frames

-- where a frame is too long, the command is refused; else this is done
abbrev pub unless_too_long : Option Frame → (Talk → Talk) → Talk → Talk
unless_too_long (Some frame) rule t = refuse (SerialisationError (length (encoding frame))) t
unless_too_long None rule t = rule t

-- how many octets would wait with some frames more: those of both lanes and of what is left of the group that has
-- begun, and not those that are committed; counted up to the greatest number of 64 bits
abbrev pub waiting_with : List Frame → Talk → ℕ
waiting_with frames t = capped (unsent_octets t.outbox + octets_of_frames frames)

-- so many octets, where they are more than the limit, if one is set
abbrev pub above_limit : Option ℕ → ℕ → Option ℕ
above_limit None octets = None
above_limit (Some limit) octets = if nat_lt limit octets then Some octets else None

-- how many octets would wait with some frames more, where they are more than the limit that was set
abbrev pub too_full : List Frame → Talk → Option ℕ
too_full frames t = above_limit t.config.options.outbox_limit (waiting_with frames t)

-- where too many octets would wait, the command is refused; else this is done
abbrev pub unless_full : Option ℕ → (Talk → Talk) → Talk → Talk
unless_full (Some octets) rule t = refuse (OutboxFull octets) t
unless_full None rule t = rule t

-- the frame is queued, and its promise waits until its last byte is sent
abbrev pub queue_send : ℕ → Frame → Talk → Talk
queue_send n frame t = promise (queue_item (promised_item n frame (next_promise t)) t)

-- a method is sent on a channel
abbrev pub send : ℕ → OtherMethod → Talk → Talk
send n method t =
    let frame = method_frame n method in
    unless_too_long (too_long (frame ∷ []) t) (unless_full (too_full (frame ∷ []) t) (queue_send n frame)) t

-- a method is sent on the channel that was found; else the command is refused
abbrev pub send_target : Result Channel ErrorKind → ℕ → OtherMethod → Talk → Talk
send_target (Err e) n method t = refuse e t
send_target (Ok c) n method t = send n method t

-- ---- publishing

-- how many octets of a body one frame takes: a frame has 8 more around its payload
abbrev pub body_limit : Talk → ℕ
body_limit t = frame_limit t - 8

-- the frames are queued as one group, and their promise waits until the last byte of the last of them is sent
abbrev pub queue_publish : ℕ → List Frame → Talk → Talk
queue_publish n frames t = promise (queue_group (group_of n frames (next_promise t)) t)

-- a method is published on a channel, with properties and a body
abbrev pub publish : ℕ → OtherMethod → List ℕ → List ℕ → Talk → Talk
publish n method properties body t =
    let frames = publish_frames n method properties body (body_limit t) in
    unless_too_long (too_long frames t) (unless_full (too_full frames t) (queue_publish n frames)) t

-- a method is published on the channel that was found; else the command is refused
abbrev pub publish_target : Result Channel ErrorKind → ℕ → OtherMethod → List ℕ → List ℕ → Talk → Talk
publish_target (Err e) n method properties body t = refuse e t
publish_target (Ok c) n method properties body t = publish n method properties body t

-- ---- flow

-- the server is told to start or to stop, and the promise waits for its flow-ok
abbrev pub tell_flow : ℕ → Bool → Talk → Talk
tell_flow n active t = promise (await n FlowDone (Some (next_promise t)) (queue n (channel_flow n active) t))

-- it is told so on the channel that was found; else the command is refused
abbrev pub flow_target : Result Channel ErrorKind → ℕ → Bool → Talk → Talk
flow_target (Err e) n active t = refuse e t
flow_target (Ok c) n active t = tell_flow n active t

-- ---- a new secret

-- the frame is queued, and its promise waits for the update-secret-ok
abbrev pub queue_secret : Frame → Talk → Talk
queue_secret frame t = promise (await 0 SecretDone (Some (next_promise t)) (queue 0 frame t))

-- a new secret is told, for a reason
abbrev pub update_secret : List ℕ → List ℕ → Talk → Talk
update_secret secret reason t =
    let frame = new_secret secret reason in
    unless_too_long (too_long (frame ∷ []) t) (queue_secret frame) t

-- ---- closing the connection

-- our close is queued, all channels are closing, the close-ok is awaited and will answer a promise, where there is one,
-- and all groups that have not begun go
abbrev pub leave_connection : ℕ → List ℕ → Option ℕ → Talk → Talk
leave_connection code text answers t =
    let all_closing = record t { state = Closing; channels = map_values made_closing t.channels } in
    drop_groups (InvalidConnectionState Closing)
    (await 0 ConnectionClosed answers (queue 0 (our_close code text) all_closing))

-- the connection is closed, and the promise of the close waits for the close-ok
abbrev pub close_connection : ℕ → List ℕ → Talk → Talk
close_connection code text t = promise (leave_connection code text (Some (next_promise t)) t)

-- ---- what takes no promise

-- the channel that was found is closed with 200 `OK`; where none was, nothing happens
abbrev pub drop_target : Result Channel ErrorKind → ℕ → Talk → Talk
drop_target (Err e) n t = t
drop_target (Ok c) n t = leave_channel n 200 (codes "OK") c None t

-- events are kept from now on, until the session ends
abbrev pub listen : Talk → Talk
listen t = record t { noted = record t.noted { listens = if has_ended t then t.noted.listens else true } }

-- a command takes a promise, but for one that lets a channel or the connection go, and one that listens
abbrev pub takes_promise : Cmd → Bool
takes_promise (DropChannel r) = false
takes_promise DropConnection = false
takes_promise Listen = false
takes_promise _ = true

-- the number of the promise that a command takes
abbrev pub promise_of : Cmd → Talk → Option ℕ
promise_of cmd t = if takes_promise cmd then Some (next_promise t) else None

-- ---- the table

-- the rule for a command, by state; the last rows are those of every other state
abbrev pub command_rule : ConnectionState → Cmd → Talk → Talk
command_rule Connected OpenChannel t = open_channel t
command_rule Connected (CloseChannel r code text) t = close_target (target r word.ChannelClose t) r.id code text t
command_rule Connected (CloseConnection code text) t = close_connection code text t
command_rule Connected (UpdateSecret secret reason) t = update_secret secret reason t
command_rule Connected (Send r method) t = send_target (target r word.Send t) r.id method t
command_rule Connected (Publish r method properties body) t =
    publish_target (target r word.Publish t) r.id method properties body t
command_rule Connected (Flow r active) t = flow_target (target r word.ChannelFlow t) r.id active t
command_rule Connected (DropChannel r) t = drop_target (target r word.ChannelClose t) r.id t
command_rule Connected DropConnection t = leave_connection 200 (codes "OK") None t
command_rule Connected Listen t = listen t
command_rule held (DropChannel r) t = t
command_rule held DropConnection t = t
command_rule held Listen t = listen t
command_rule held cmd t = refuse (InvalidConnectionState held) t

-- a command is told
abbrev pub command : Cmd → Talk → Talk
command c t = command_rule t.state c t
