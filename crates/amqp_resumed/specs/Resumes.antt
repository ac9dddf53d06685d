-- What was heard of a client whose beginning was not heard, and what it may say next.
use Rattle.std.specs.Prelude.{◌≡◌, ◌≢◌, ℕ, zero, suc, ◌-◌, ◌==◌, ◌&&◌, ◌||◌, not, nat_le, Bool, true, false, if◌then◌else◌}
use Rattle.std.specs.Prelude.{List, [], ◌∷◌, length, Option, Some, None, option_map, slice_index_or}
use Rattle.amqp_frame.specs.declared.frame.Frame.{Frame}
use Rattle.amqp_frame.specs.declared.frame.Frame.TheVariants.{ProtocolHeader, Method, Raw}
use Rattle.amqp_frame.specs.declared.frame.RawKind.TheVariants.{RawMethod, Header, Body}
use Rattle.amqp_frame.specs.declared.method.Method.TheVariants.{StartOk, SecureOk, TuneOk, Open, CloseOk}
use Rattle.amqp_frame.specs.declared.method.Method.TheVariants.{ChannelOpen, ChannelFlow, ChannelFlowOk}
use Rattle.amqp_frame.specs.declared.method.Method.TheVariants.{ChannelClose, ChannelCloseOk}
use Rattle.amqp_legal.specs.Octets.{class_in, weight_in, body_size_in}
use Rattle.amqp_legal.specs.Decider.{Speech, greeted, say, say_all, is_amqp_header, is_passed_through}
use Rattle.amqp_legal.specs.Speeches.{speech_of}
use Rattle.amqp_legal.specs.declared.progress.Stage.{Stage}
use Rattle.amqp_legal.specs.declared.progress.Stage.TheVariants.{OpenSaid, CloseOkSaid}
use Rattle.amqp_legal.specs.declared.progress.Content.{Content}
use Rattle.amqp_legal.specs.declared.progress.Content.TheVariants.{BodyMissing}
use Rattle.amqp_resumed.specs.declared.resumed.Heard.{Heard}
use Rattle.amqp_resumed.specs.declared.resumed.Heard.TheVariants as heard
use Rattle.amqp_resumed.specs.declared.resumed.Resumed.{Resumed}

-- ---- what was heard

-- what was heard, a conversation that it may be the rest of, and the channels whose usage it tells
pub record Late : Type 0 where
  pub heard : Heard
  pub said : Speech
  pub known : ℕ → Bool

-- the same, as the code keeps it
abbrev pub late_of : Resumed → Late
late_of r = record {
  heard = r.heard;
  said = speech_of r.said;
  known = λ n. r.is_whole || slice_index_or r.known.items n false;
}

-- how far frames lead that are said one after another from the protocol header on, where each might be said
abbrev pub led_to : List Frame → Option Speech
led_to [] = None
led_to (f ∷ frames) = if is_amqp_header f then say_all (Some greeted) frames else None

-- nothing was heard
abbrev pub heard_nothing : Late
heard_nothing = record { heard = heard.Nothing; said = greeted; known = λ n. false }

-- the content of a conversation of which this was heard
abbrev pub HasContent : Heard → Content → Content → Type 0
HasContent heard.Nothing kept now = Unit {0}
HasContent (heard.Body n) kept now = (missing : ℕ) × (now ≡ BodyMissing n missing)
HasContent (heard.Missing n missing) kept now = now ≡ BodyMissing n missing
HasContent heard.Frames kept now = now ≡ kept

-- a conversation that goes on is as far as what was heard says
pub record FitsHeard (l : Late) (s : Speech) : Type 0 where
  pub stage : s.stage ≡ l.said.stage
  pub content : s.stage ≢ CloseOkSaid → HasContent l.heard l.said.content s.content
  pub usage : s.stage ≢ CloseOkSaid → (n : ℕ) → l.known n ≡ true → s.usage n ≡ l.said.usage n

-- ---- what may be said next, as the code decides it

-- the channel on which a frame is a method that may be said there, by some usage of the channel
abbrev pub channel_used : Frame → Option ℕ
channel_used (Method (suc n) ChannelOpen) = Some (suc n)
channel_used (Method (suc n) (ChannelFlow active)) = Some (suc n)
channel_used (Method (suc n) (ChannelFlowOk active)) = Some (suc n)
channel_used (Method (suc n) (ChannelClose code text class method)) = Some (suc n)
channel_used (Method (suc n) ChannelCloseOk) = Some (suc n)
channel_used (Raw (suc n) RawMethod method) = if is_passed_through method then Some (suc n) else None
channel_used _ = None

-- a method may be said now, by some usage of its channel
abbrev pub may_say_method : Stage → Content → Bool
may_say_method OpenSaid (BodyMissing n (suc missing)) = false
may_say_method OpenSaid _ = true
may_say_method stage _ = false

-- a channel's usage is known now
abbrev pub with_known : ℕ → (ℕ → Bool) → ℕ → Bool
with_known n known k = if k == n then true else known k

-- the same, of what was heard
abbrev pub known_now : ℕ → Late → Late
known_now n l = record l { known = with_known n l.known }

-- the conversation that is kept says a frame, where it may
abbrev pub said_as : Late → Option Speech → Option Late
said_as l None = None
said_as l (Some s) = Some (record l { said = s })

-- or stays as it is where it may not
abbrev pub said_or_same : Option Speech → Speech → Speech
said_or_same None s = s
said_or_same (Some t) s = t

-- a channel was opened before what was heard
abbrev pub opened_before : ℕ → Late → Late
opened_before n l = record l {
  said = said_or_same (say (Method n ChannelOpen) l.said) l.said;
  known = with_known n l.known;
}

-- the opening of a channel
abbrev pub opens_channel : Frame → Bool
opens_channel (Method n ChannelOpen) = true
opens_channel f = false

-- the first method on a channel, which was opened before it, where it is no opening itself
abbrev pub first_method : ℕ → Frame → Late → Option Late
first_method n f l =
    if opens_channel f then said_as (known_now n l) (say f l.said)
    else said_as (opened_before n l) (say f (opened_before n l).said)

-- the same, where a method may be said now
abbrev pub first_if : ℕ → Frame → Late → Option Late
first_if n f l = if may_say_method l.said.stage l.said.content then first_method n f l else None

-- a frame where it is known which content may go on, by the channel on which it is a method
abbrev pub say_on : Option ℕ → Frame → Late → Option Late
say_on None f l = said_as l (say f l.said)
say_on (Some n) f l = if l.known n then said_as l (say f l.said) else first_if n f l

-- a frame where it is known which content may go on
abbrev pub say_known : Frame → Late → Option Late
say_known f l = say_on (channel_used f) f l

-- from then on it is
abbrev pub past_content : Option Late → Option Late
past_content None = None
past_content (Some l) = Some (record l { heard = heard.Frames })

-- a frame behind frames of a body alone
abbrev pub say_in_body : ℕ → Frame → Late → Option Late
say_in_body n (Raw k Body body) l = if k == n && nat_le 1 (length body) then Some l else None
say_in_body n f l = past_content (say_known f l)

-- a frame where so many octets of a body are missing
abbrev pub say_to : ℕ → ℕ → Frame → Late → Option Late
say_to n missing (Raw k Body body) l =
    if k == n && (nat_le 1 (length body) && nat_le (length body) missing)
    then Some (record l { heard = heard.Missing n (missing - length body) })
    else None
say_to n missing (Method zero CloseOk) l = past_content (say_known (Method zero CloseOk) l)
say_to n missing f l = if missing == 0 then past_content (say_known f l) else None

-- ---- the first frame that is heard

-- start-ok of a client that says nothing of itself
abbrev pub bare_start_ok : Frame
bare_start_ok = Method 0 (StartOk [] [] [] [])

-- its tune-ok
abbrev pub bare_tune_ok : Frame
bare_tune_ok = Method 0 (TuneOk 0 0 0)

-- and its open
abbrev pub bare_open : Frame
bare_open = Method 0 (Open [])

-- such frames lead to where a frame may be said that is the first to be heard, as far as its kind tells
abbrev pub led_by : Frame → List Frame
led_by (ProtocolHeader v) = []
led_by (Method zero (StartOk properties mechanism response locale)) = []
led_by (Method zero (SecureOk response)) = bare_start_ok ∷ []
led_by (Method zero (TuneOk channel_max frame_max heartbeat)) = bare_start_ok ∷ []
led_by (Method zero (Open vhost)) = bare_start_ok ∷ bare_tune_ok ∷ []
led_by f = bare_start_ok ∷ bare_tune_ok ∷ bare_open ∷ []

-- a conversation says these, each where it may
abbrev pub said_each : List Frame → Speech → Speech
said_each [] s = s
said_each (f ∷ frames) s = said_each frames (said_or_same (say f s) s)

-- it is led to where a frame may be said
abbrev pub led : Frame → Late → Late
led f l = record l { said = said_each (led_by f) l.said }

-- a frame stands in the introduction, so that it tells of all channels that they are not open
abbrev pub is_of_introduction : Frame → Bool
is_of_introduction (ProtocolHeader v) = true
is_of_introduction (Method zero (StartOk properties mechanism response locale)) = true
is_of_introduction (Method zero (SecureOk response)) = true
is_of_introduction (Method zero (TuneOk channel_max frame_max heartbeat)) = true
is_of_introduction (Method zero (Open vhost)) = true
is_of_introduction f = false

-- from then on all is known
abbrev pub whole_on : Late → Option Speech → Option Late
whole_on l None = None
whole_on l (Some s) = Some (record { heard = heard.Frames; said = s; known = λ n. true })

-- a frame of the introduction
abbrev pub introduce : Frame → Late → Option Late
introduce (ProtocolHeader v) l = if is_amqp_header (ProtocolHeader v) then whole_on l (Some l.said) else None
introduce f l = whole_on l (say f (led f l).said)

-- what is missing of a body behind its content header, where that is one
abbrev pub missing_behind : List ℕ → Option ℕ
missing_behind head =
    if nat_le 14 (length head) && (weight_in head == 0 && (not (class_in head == 10) && not (class_in head == 20)))
    then Some (body_size_in head)
    else None

-- what is known of the content where a frame is the first that is heard and stands within one
abbrev pub content_begun : Frame → Option (ℕ × Heard)
content_begun (Raw (suc n) Header head) =
    option_map (λ missing. (suc n, heard.Missing (suc n) missing)) (missing_behind head)
content_begun (Raw (suc n) Body body) = if nat_le 1 (length body) then Some (suc n, heard.Body (suc n)) else None
content_begun f = None

-- a frame behind the introduction, where it may begin within a content
abbrev pub say_within : Option (ℕ × Heard) → Frame → Late → Option Late
say_within None f l = past_content (say_known f l)
say_within (Some (n, begun)) f l = Some (record (opened_before n l) { heard = begun })

-- the first frame
abbrev pub say_first : Frame → Late → Option Late
say_first f l = if is_of_introduction f then introduce f l else say_within (content_begun f) f (led f l)

-- ---- each frame

-- a frame, by what was heard before it
abbrev pub say_behind : Heard → Frame → Late → Option Late
say_behind heard.Nothing f l = say_first f l
say_behind (heard.Body n) f l = say_in_body n f l
say_behind (heard.Missing n missing) f l = say_to n missing f l
say_behind heard.Frames f l = say_known f l

-- the next frame, where it may be said by some conversation of which this was heard
abbrev pub say_late : Frame → Late → Option Late
say_late f l = say_behind l.heard f l

-- frames one after another
abbrev pub say_each_late : Option Late → List Frame → Option Late
say_each_late None frames = None
say_each_late (Some l) [] = Some l
say_each_late (Some l) (f ∷ frames) = say_each_late (say_late f l) frames

-- these frames were heard, each of which might be said
abbrev pub HasHeardLate : List Frame → Resumed → Type 0
HasHeardLate frames r = say_each_late (Some heard_nothing) frames ≡ Some (late_of r)

-- a frame may be said, and this was heard then; or it may not
abbrev pub JudgedLate : Option Late → Bool → Resumed → Type 0
JudgedLate next true new = next ≡ Some (late_of new)
JudgedLate next false new = next ≡ None
