-- The frames of each rule: the reply to a frame that is read, what a command says, and what time says.
use Rattle.std.specs.Prelude.{◌≡◌, ◌⊎◌, ℕ, zero, suc, nat_le, if◌then◌else◌, List, [], ◌∷◌, ◌++◌, codes, Option, Some, None, Ok}
use Rattle.amqp_frame.specs.declared.frame.Frame.{Frame}
use Rattle.amqp_frame.specs.declared.frame.Frame.TheVariants.{Method, Heartbeat}
use Rattle.amqp_frame.specs.declared.method.Method.TheVariants.{Start, Secure, Tune, OpenOk, Close, ChannelFlow, ChannelClose}
use Rattle.amqp_outbox.specs.declared.item.Item.{Item}
use Rattle.amqp_outbox.specs.Items.{plain_item, promised_item, group_of}
use Rattle.amqp_auth.specs.declared.asked.Asked.{Asked}
use Rattle.amqp_auth.specs.declared.asked.Asked.TheVariants as answer
use Rattle.amqp_promise.specs.declared.io_fault.IoFault.{IoFault}
use Rattle.amqp_channels.specs.declared.channels.Channel.{Channel}
use Rattle.amqp_commands.specs.declared.command.Cmd.{Cmd}
use Rattle.amqp_commands.specs.declared.command.Cmd.TheVariants.{OpenChannel, CloseChannel, CloseConnection, UpdateSecret, Send, Publish, Flow, DropChannel, DropConnection, Listen}
use Rattle.amqp_settings.specs.declared.configuration.Configuration.{Configuration}
use Rattle.amqp_violations.specs.declared.misread.Misread.{Misread}
use Rattle.amqp_settings.specs.Config.{Options}
use Rattle.amqp_rules.specs.Talk.{Talk}
use Rattle.amqp_settings.specs.Negotiation.{tune}
use Rattle.amqp_settings.specs.Handshake.{protocol_header, start_ok, secure_ok, tune_ok, open_vhost, our_close, close_ok, new_secret, channel_open, channel_flow, flow_ok, channel_close_ok, our_channel_close, refresh_reason}
use Rattle.amqp_channels.specs.Numbering.{first_number, drawn}
use Rattle.amqp_commands.specs.Publishing.{method_frame, publish_frames}
use Rattle.amqp_rules.specs.Changes as change
use Rattle.amqp_rules.specs.Changes.{next_promise}
use Rattle.amqp_rules.specs.Links as link
use Rattle.amqp_rules.specs.Frames.{on_frame}
use Rattle.amqp_rules.specs.Commands as told
use Rattle.amqp_rules.specs.Commands.{body_limit}
use Rattle.amqp_rules.specs.Ticks as ticks
use Rattle.amqp_rules.specs.Ticks.{asks_validity, has_expired, is_heartbeat_due, is_missed}
use Rattle.amqp_rules.specs.Writing as writing
use Rattle.amqp_queued_rules.specs.Queues.{Queues, QueuesNothing, MayQueue}

-- ---- frames that are read

-- the reply to start, where the provider names a mechanism and says something by it
abbrev pub start_reply : List Asked → Options → List Item
start_reply (answer.Mechanism mechanism ∷ answer.Starter (Ok response) ∷ later) options =
    plain_item 0 (start_ok options mechanism response) ∷ []
start_reply _ options = []

-- the reply to a challenge, where the provider answers it
abbrev pub secure_reply : List Asked → List Item
secure_reply (answer.Challenge (Ok response) ∷ later) = plain_item 0 (secure_ok response) ∷ []
secure_reply _ = []

-- the reply to tune: the agreed numbers, and the virtual host is opened
abbrev pub tune_reply : Configuration → Talk → List Item
tune_reply server t =
    plain_item 0 (tune_ok (tune t.configuration server)) ∷ plain_item 0 (open_vhost t.config.uri.vhost) ∷ []

-- the reply to open-ok: the channels that were kept are opened again, up to the greatest number that is agreed
abbrev pub reopenings : ℕ → List (ℕ × Channel) → List Item
reopenings most [] = []
reopenings most (c ∷ cs) =
    if nat_le c.0 most then plain_item c.0 (channel_open c.0) ∷ reopenings most cs else reopenings most cs

-- the reply to a frame, with what the provider answers
abbrev pub reply_to : Frame → List Asked → Talk → List Item
reply_to (Method zero (Start major minor properties mechanisms locales)) answers t =
    start_reply answers t.config.options
reply_to (Method zero (Secure challenge)) answers t = secure_reply answers
reply_to (Method zero (Tune channel_max frame_max heartbeat)) answers t =
    tune_reply (record { channel_max = channel_max; frame_max = frame_max; heartbeat = heartbeat }) t
reply_to (Method zero OpenOk) answers t = reopenings t.configuration.channel_max t.channels
reply_to (Method zero (Close code text class method)) answers t = plain_item 0 close_ok ∷ []
reply_to (Method (suc n) (ChannelFlow active)) answers t = plain_item (suc n) (flow_ok (suc n) active) ∷ []
reply_to (Method (suc n) (ChannelClose code text class method)) answers t =
    plain_item (suc n) (channel_close_ok (suc n)) ∷ []
reply_to f answers t = []

-- ---- commands

-- the opening of the channel whose number was drawn, where one was
abbrev pub opening_of : Option ℕ → List Item
opening_of None = []
opening_of (Some n) = plain_item n (channel_open n) ∷ []

-- what a command says in the control lane
abbrev pub told_by : Cmd → Talk → List Item
told_by OpenChannel t =
    opening_of (drawn t.configuration.channel_max (first_number t.configuration.channel_max t.cursor) t.channels)
told_by (CloseChannel r code text) t = plain_item r.id (our_channel_close r.id code text) ∷ []
told_by (CloseConnection code text) t = plain_item 0 (our_close code text) ∷ []
told_by (UpdateSecret secret reason) t = plain_item 0 (new_secret secret reason) ∷ []
told_by (Send r method) t = promised_item r.id (method_frame r.id method) (next_promise t) ∷ []
told_by (Publish r method properties body) t = []
told_by (Flow r active) t = plain_item r.id (channel_flow r.id active) ∷ []
told_by (DropChannel r) t = plain_item r.id (our_channel_close r.id 200 (codes "OK")) ∷ []
told_by DropConnection t = plain_item 0 (our_close 200 (codes "OK")) ∷ []
told_by Listen t = []

-- the group that a command puts into the publish lane
abbrev pub published_by : Cmd → Talk → List (List Item)
published_by (Publish r method properties body) t =
    group_of r.id (publish_frames r.id method properties body (body_limit t)) (next_promise t) ∷ []
published_by c t = []

-- ---- time

-- a heartbeat, where we wrote nothing for more than half an interval (AMQP 0-9-1, 4.2.7)
abbrev pub heartbeat_of : Talk → List Item
heartbeat_of t = if is_heartbeat_due t then plain_item 0 Heartbeat ∷ [] else []

-- the new secret, where the provider has one
abbrev pub new_one : List Asked → List Item
new_one (answer.Refreshed (Ok secret) ∷ later) = plain_item 0 (new_secret secret refresh_reason) ∷ []
new_one _ = []

-- the new secret, where the provider says how long the old one is valid, and that time is over
abbrev pub renewal : List Asked → Talk → List Item
renewal (answer.ValidFor time ∷ later) t = if has_expired time t then new_one later else []
renewal _ t = []

-- that, while the connection is open, and no new secret is told that the server did not answer yet
abbrev pub renewal_of : List Asked → Talk → List Item
renewal_of answers t = if asks_validity t then renewal answers t else []

-- what time says: nothing, where the server was silent for too long; else these
abbrev pub told_in_time : List Asked → Talk → List Item
told_in_time answers t = if is_missed t then [] else heartbeat_of t ++ renewal_of answers t

-- ---- each rule

-- each rule queues its own frames, all of them, or nothing; a tick queues what time says then; a new link has the
-- protocol header alone
pub record QueuesItsOwn (t : Talk) : Type 0 where
  pub linked : MayQueue (plain_item 0 protocol_header ∷ []) t.outbox (link.linked t).outbox
  pub frame : (f : Frame) (answers : List Asked) →
      MayQueue (reply_to f answers t) t.outbox (on_frame f answers t).outbox
  pub command : (c : Cmd) → QueuesNothing t.outbox (told.command c t).outbox
      ⊎ Queues (told_by c t) (published_by c t) t.outbox (told.command c t).outbox
  pub tick : (answers : List Asked) → Queues (told_in_time answers t) [] t.outbox (ticks.tick answers t).outbox
  -- these leave what waits as it is
  pub moment : (at : ℕ) → (change.present_at at t).outbox ≡ t.outbox
  pub asked : (link.asked t).outbox ≡ t.outbox
  pub piece : (link.piece t).outbox ≡ t.outbox
  -- these queue nothing
  pub starve : QueuesNothing t.outbox (change.starve t).outbox
  pub link_failed : QueuesNothing t.outbox (link.link_failed t).outbox
  pub misread : (why : Misread) → QueuesNothing t.outbox (link.misread why t).outbox
  pub lost : (fault : IoFault) → QueuesNothing t.outbox (link.lost fault t).outbox
  pub taken : (n : ℕ) → QueuesNothing t.outbox (writing.taken n t).outbox
