-- What a faultless server says, after what was said to it; and a provider that refuses nothing (AMQP 0-9-1, 2.2.4 and
-- 2.3.7, and the grammars of its classes connection and channel; blocked, unblocked and update-secret are RabbitMQ's).
use Rattle.std.specs.Prelude.{◌≤◌, ℕ, zero, suc, ◌+◌, ◌==◌, ◌&&◌, ◌||◌, not, nat_le, if◌then◌else◌, Bool, true, false, List, [], ◌∷◌, length, Option, Some, None, is_some, Ok}
use Rattle.amqp_types.specs.Codes.{kind_of}
use Rattle.amqp_frame.specs.declared.frame.Frame.{Frame}
use Rattle.amqp_frame.specs.declared.frame.Frame.TheVariants.{Method, Raw, Heartbeat}
use Rattle.amqp_frame.specs.declared.method.Method.TheVariants.{Start, StartOk, Secure, SecureOk, Tune, Open, OpenOk, Close, CloseOk, Blocked, Unblocked, UpdateSecret, UpdateSecretOk, ChannelOpen, ChannelOpenOk, ChannelFlow, ChannelFlowOk, ChannelClose, ChannelCloseOk}
use Rattle.amqp_frame.specs.Frames.{encoding}
use Rattle.amqp_auth.specs.declared.asked.Asked.{Asked}
use Rattle.amqp_auth.specs.declared.asked.Asked.TheVariants as answer
use Rattle.amqp_commands.specs.declared.command.Cmd.{Cmd}
use Rattle.amqp_commands.specs.declared.command.Cmd.TheVariants.{CloseChannel, CloseConnection}
use Rattle.amqp_settings.specs.Config.{Options}
use Rattle.amqp_settings.specs.Handshake.{start_ok, secure_ok, new_secret, refresh_reason}

-- ---- what a server knows

-- a channel, since it was last opened
pub record Use : Type 0 where
  -- our open is not answered
  pub asked : Bool
  -- the server opened it, and it was not closed since
  pub opened : Bool
  -- our flows that are not answered
  pub flows : ℕ
  -- we closed it
  pub closing : Bool

-- a channel that is not used
abbrev pub unused : Use
unused = record { asked = false; opened = false; flows = 0; closing = false }

-- how far the server is: what it says next, up to open-ok; after that it serves until it is gone
pub data ServerStage : Type 0 where
  BeforeStart : ServerStage
  BeforeTune : ServerStage
  BeforeOpenOk : ServerStage
  Serving : ServerStage
  Gone : ServerStage

-- what a server knows of a connection
pub record Server : Type 0 where
  pub stage : ServerStage
  -- our start-ok, secure-ok or open is not answered
  pub asked : Bool
  -- it blocks
  pub blocked : Bool
  -- our new secrets that are not answered
  pub secrets : ℕ
  -- we closed the connection
  pub closing : Bool
  pub uses : ℕ → Use

-- a server at the beginning
abbrev pub silent : Server
silent =
    record { stage = BeforeStart; asked = false; blocked = false; secrets = 0; closing = false; uses = λ n. unused }

-- a channel is used otherwise
abbrev pub used_as : ℕ → Use → Server → Server
used_as n held s = record s { uses = λ m. if m == n then held else s.uses m }

-- ---- what was said to it

-- we said this
abbrev pub said_to : Frame → Server → Server
said_to (Method zero (StartOk properties mechanism response locale)) s = record s { asked = true }
said_to (Method zero (SecureOk response)) s = record s { asked = true }
said_to (Method zero (Open vhost)) s = record s { asked = true }
said_to (Method zero (UpdateSecret secret reason)) s = record s { secrets = s.secrets + 1 }
said_to (Method zero (Close code text class method)) s = record s { closing = true }
said_to (Method n ChannelOpen) s = used_as n (record unused { asked = true }) s
said_to (Method n (ChannelFlow active)) s = used_as n (record (s.uses n) { flows = (s.uses n).flows + 1 }) s
said_to (Method n (ChannelClose code text class method)) s = used_as n (record (s.uses n) { closing = true }) s
said_to f s = s

-- ---- what it may say

-- the server may say this, where so
abbrev pub provided : Bool → Server → Option Server
provided true s = Some s
provided false s = None

-- one less is not answered, where there is one
abbrev pub one_less : ℕ → (ℕ → Server) → Option Server
one_less zero after = None
one_less (suc n) after = Some (after n)

-- the server answers what was asked
abbrev pub answers_to : ServerStage → Server → Option Server
answers_to stage s = provided s.asked (record s { stage = stage; asked = false })

-- what a server that serves says on a channel
abbrev pub serves_on : ℕ → Use → Frame → Server → Option Server
serves_on n held (Method m ChannelOpenOk) s =
    provided held.asked (used_as n (record held { asked = false; opened = true }) s)
serves_on n held (Method m (ChannelFlow active)) s = provided held.opened s
serves_on n held (Method m (ChannelFlowOk active)) s =
    if held.opened then one_less held.flows (λ left. used_as n (record held { flows = left }) s) else None
serves_on n held (Method m ChannelCloseOk) s = provided (held.opened && held.closing) (used_as n unused s)
serves_on n held (Method m (ChannelClose code text class method)) s =
    provided (held.opened && not held.closing) (used_as n unused s)
serves_on n held (Raw m kind bytes) s = provided held.opened s
serves_on n held _ s = None

-- what a server that serves says: last of all its close-ok after our close, or its close without an error
abbrev pub serves : Frame → Server → Option Server
serves Heartbeat s = Some s
serves (Method zero (Blocked reason)) s = Some (record s { blocked = true })
serves (Method zero Unblocked) s = Some (record s { blocked = false })
serves (Method zero UpdateSecretOk) s = one_less s.secrets (λ left. record s { secrets = left })
serves (Method zero CloseOk) s = provided s.closing (record s { stage = Gone })
serves (Method zero (Close code text class method)) s =
    provided (not (is_some (kind_of code)) && (not s.blocked && not s.closing)) (record s { stage = Gone })
serves (Method (suc n) m) s = serves_on (suc n) (s.uses (suc n)) (Method (suc n) m) s
serves (Raw (suc n) kind bytes) s = serves_on (suc n) (s.uses (suc n)) (Raw (suc n) kind bytes) s
serves _ s = None

-- a greatest frame as it may be told: none, or at least what every peer takes
abbrev pub is_frame_max : ℕ → Bool
is_frame_max n = n == 0 || nat_le 4096 n

-- what a server says: first start, any number of secure, tune and open-ok, with heartbeats from tune on
abbrev pub heard_from : ServerStage → Frame → Server → Option Server
heard_from BeforeStart (Method zero (Start major minor properties mechanisms locales)) s =
    Some (record s { stage = BeforeTune })
heard_from BeforeTune (Method zero (Secure challenge)) s = answers_to BeforeTune s
heard_from BeforeTune (Method zero (Tune channel_max frame_max heartbeat)) s =
    if is_frame_max frame_max then answers_to BeforeOpenOk s else None
heard_from BeforeOpenOk Heartbeat s = Some s
heard_from BeforeOpenOk (Method zero OpenOk) s = answers_to Serving s
heard_from Serving f s = serves f s
heard_from _ f s = None

-- open-ok
abbrev pub opens_connection : Frame → Bool
opens_connection (Method n OpenOk) = true
opens_connection _ = false

-- ---- what a client is told, and what its provider answers

-- what a close says why, in a short string: at most 255 octets
abbrev pub IsShortCommand : Cmd → Type 0
IsShortCommand (CloseChannel r code text) = length text ≤ 255
IsShortCommand (CloseConnection code text) = length text ≤ 255
IsShortCommand _ = Unit {0}

-- no answer is a refusal, and what is said with each is at most 131072 octets long
abbrev pub AreSayable : Options → List Asked → Type 0
AreSayable options [] = Unit {0}
AreSayable options (answer.Mechanism name ∷ answer.Starter (Ok said) ∷ rest) =
    (length (encoding (start_ok options name said)) ≤ 131072) × AreSayable options rest
AreSayable options (answer.Challenge (Ok said) ∷ rest) =
    (length (encoding (secure_ok said)) ≤ 131072) × AreSayable options rest
AreSayable options (answer.ValidFor valid ∷ rest) = AreSayable options rest
AreSayable options (answer.Refreshed (Ok secret) ∷ rest) =
    (length (encoding (new_secret secret refresh_reason)) ≤ 131072) × AreSayable options rest
AreSayable options _ = ⊥
