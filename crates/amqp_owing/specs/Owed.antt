-- What a double owes a client: replies that a faultless server may say, one after another, and after which nothing is
-- asked any more (AMQP 0-9-1, 2.2.4, and the grammars of its classes connection and channel).
use Rattle.std.specs.Prelude.{◌≡◌, ◌≢◌, ◌||◌, ℕ, zero, suc, Bool, true, false, List, [], ◌∷◌, Option, Some, None}
use Rattle.std.specs.List.{AllByRecursion}
use Rattle.amqp_frame.specs.declared.frame.Frame.{Frame}
use Rattle.amqp_frame.specs.declared.frame.Frame.TheVariants.{Method}
use Rattle.amqp_frame.specs.declared.method.Method.TheVariants.{Start, StartOk, SecureOk, Tune, Open, OpenOk, CloseOk, UpdateSecretOk, ChannelOpen, ChannelOpenOk, ChannelFlow, ChannelFlowOk, ChannelClose, ChannelCloseOk}
use Rattle.amqp_faultless.specs.Faultless.{Use, unused, ServerStage, Server, said_to, heard_from}
use Rattle.amqp_faultless.specs.Faultless.ServerStage.{BeforeStart, BeforeTune, BeforeOpenOk, Serving, Gone}
use Rattle.amqp_legal.specs.declared.progress.Stage.{Stage}
use Rattle.amqp_legal.specs.declared.progress.Stage.TheVariants.{HeaderSaid, StartOkSaid, TuneOkSaid, OpenSaid}
use Rattle.amqp_legal.specs.declared.progress.Stage.TheVariants.{CloseSaid, CloseOkSaid}
use Rattle.amqp_legal.specs.declared.progress.Usage.{Usage}
use Rattle.amqp_legal.specs.declared.progress.Usage.TheVariants.{Shut, InUse, Left}
use Rattle.amqp_legal.specs.Decider.{Speech, say}

-- a reply
abbrev pub IsReply : Frame → Type 0
IsReply (Method zero (Start major minor properties mechanisms locales)) = Unit {0}
IsReply (Method zero (Tune channel_max frame_max heartbeat)) = Unit {0}
IsReply (Method zero OpenOk) = Unit {0}
IsReply (Method zero CloseOk) = Unit {0}
IsReply (Method zero UpdateSecretOk) = Unit {0}
IsReply (Method (suc k) ChannelOpenOk) = Unit {0}
IsReply (Method (suc k) (ChannelFlowOk active)) = Unit {0}
IsReply (Method (suc k) ChannelCloseOk) = Unit {0}
IsReply _ = ⊥

-- a frame is said, where the server may
abbrev pub hears : Frame → Option Server → Option Server
hears f None = None
hears f (Some s) = heard_from s.stage f s

-- frames, one after another
abbrev pub hears_all : List Frame → Option Server → Option Server
hears_all [] o = o
hears_all (r ∷ rs) o = hears_all rs (hears r o)

-- how far a server is that answered all that was said
abbrev pub stage_after : Stage → ServerStage
stage_after HeaderSaid = BeforeTune
stage_after StartOkSaid = BeforeOpenOk
stage_after TuneOkSaid = BeforeOpenOk
stage_after OpenSaid = Serving
stage_after CloseSaid = Gone
stage_after CloseOkSaid = Gone

-- a channel that is used, and where nothing is asked
abbrev pub in_use : Use
in_use = record { asked = false; opened = true; flows = 0; closing = false }

-- a channel where all was answered
abbrev pub use_after : Usage → Use
use_after Shut = unused
use_after InUse = in_use
use_after Left = unused

-- all that was said is answered
pub record AllAnswered (p : Speech) (s : Server) : Type 0 where
  pub stage : s.stage ≡ stage_after p.stage
  pub uses : (n : ℕ) → s.uses n ≡ use_after (p.usage n)
  pub secrets : s.secrets ≡ 0

-- where so: our close-ok was not said, and all is answered
abbrev pub IsAllAnswered : Stage → Speech → Server → Type 0
IsAllAnswered CloseSaid p s = s.stage ≡ Gone
IsAllAnswered CloseOkSaid p s = Unit {0}
IsAllAnswered _ p s = AllAnswered p s

-- once a server says these replies, all that was said is answered
pub record Owes (p : Speech) (rs : List Frame) (s : Server) : Type 0 where
  pub are : AllByRecursion IsReply rs
  pub last : Server
  pub says : hears_all rs (Some s) ≡ Some last
  pub answered : IsAllAnswered p.stage p last

-- what a client says only where the server is so far
abbrev pub Fits : Frame → Server → Type 0
Fits (Method zero (StartOk properties mechanism response locale)) s = s.stage ≡ BeforeTune
Fits (Method zero (SecureOk response)) s = ⊥
Fits (Method zero (Open vhost)) s = s.stage ≡ BeforeOpenOk
Fits (Method (suc k) ChannelOpen) s = s.uses (suc k) ≡ unused
Fits (Method (suc k) (ChannelFlow active)) s = (s.uses (suc k)).closing ≡ false
Fits (Method (suc k) (ChannelClose code text class method)) s = (s.uses (suc k)).closing ≡ false
Fits (Method (suc k) ChannelCloseOk) s = s.uses (suc k) ≡ unused
Fits f s = Unit {0}

-- frames are said, one after another
abbrev pub all_said : List Frame → Server → Server
all_said [] s = s
all_said (f ∷ fs) s = all_said fs (said_to f s)

-- these frames are committed behind a conversation: each may be said, and only where the server is so far
abbrev pub Later : Speech → List Frame → Server → Type 0
Later p [] s = Unit {0}
Later p (f ∷ fs) s = (p' : Speech) × (say f p ≡ Some p') × Fits f s × Later p' fs (said_to f s)

-- the same, as far as legality does not give it
abbrev pub Suits : Frame → Server → Type 0
Suits (Method zero (StartOk properties mechanism response locale)) s = s.stage ≢ BeforeStart
Suits (Method zero (SecureOk response)) s = ⊥
Suits (Method zero (Open vhost)) s = (s.stage ≢ BeforeStart) × (s.stage ≢ BeforeTune)
Suits (Method (suc k) ChannelOpen) s = ((s.uses (suc k)).asked || (s.uses (suc k)).opened) ≡ false
Suits (Method (suc k) ChannelCloseOk) s = ((s.uses (suc k)).asked || (s.uses (suc k)).opened) ≡ false
Suits f s = Unit {0}
