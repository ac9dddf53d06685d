-- What a client may say next (AMQP 0-9-1, 2.2.4, and the grammars of its classes connection and channel).
use Rattle.std.specs.Prelude.{ℕ, zero, suc, ◌==◌, ◌&&◌, ◌||◌, not, nat_le, Bool, true, false, IsTrue, List, length}
use Rattle.amqp_frame.specs.declared.frame.Frame.{Frame}
use Rattle.amqp_frame.specs.declared.frame.Frame.TheVariants as f
use Rattle.amqp_frame.specs.declared.frame.RawKind.TheVariants as raw
use Rattle.amqp_frame.specs.declared.method.Method.TheVariants as m
use Rattle.amqp_legal.specs.declared.progress.Stage.{Stage}
use Rattle.amqp_legal.specs.declared.progress.Stage.TheVariants.{HeaderSaid, StartOkSaid, TuneOkSaid}
use Rattle.amqp_legal.specs.declared.progress.Stage.TheVariants.{OpenSaid, CloseSaid, CloseOkSaid}
use Rattle.amqp_legal.specs.declared.progress.Content.{Content}
use Rattle.amqp_legal.specs.declared.progress.Content.TheVariants.{NoContent, MethodSaid, BodyMissing}
use Rattle.amqp_legal.specs.declared.progress.Usage.{Usage}
use Rattle.amqp_legal.specs.declared.progress.Usage.TheVariants.{Shut, InUse}
use Rattle.amqp_legal.specs.Decider.{Speech, is_amqp_header, is_passed_through, is_content_header}
use Rattle.amqp_check.specs.declared.expected.Expected.{Expected}
use Rattle.amqp_check.specs.declared.expected.Expected.TheVariants as next

-- ---- what is expected

-- once the connection is opened
abbrev pub expected_behind : Content → Expected
expected_behind NoContent = next.Method
expected_behind (MethodSaid n class) = next.ContentHeader n class
expected_behind (BodyMissing n zero) = next.Method
expected_behind (BodyMissing n (suc missing)) = next.Body n (suc missing)

-- once the header was said
abbrev pub expected_at : Stage → Content → Expected
expected_at HeaderSaid c = next.StartOk
expected_at StartOkSaid c = next.SecureOkOrTuneOk
expected_at TuneOkSaid c = next.Open
expected_at OpenSaid c = expected_behind c
expected_at CloseSaid c = next.CloseOk
expected_at CloseOkSaid c = next.Nothing

-- after so many frames, which led there
abbrev pub expected_after : ℕ → Speech → Expected
expected_after zero s = next.Header
expected_after (suc n) s = expected_at s.stage s.content

-- ---- which frames are what is expected

-- a channel that is open
abbrev pub is_in_use : Usage → Bool
is_in_use InUse = true
is_in_use _ = false

-- a channel that is not open, and not left either
abbrev pub is_shut : Usage → Bool
is_shut Shut = true
is_shut _ = false

-- our close-ok of the connection
abbrev pub is_our_close_ok : Frame → Bool
is_our_close_ok (f.Method zero m.CloseOk) = true
is_our_close_ok _ = false

-- start-ok
abbrev pub is_start_ok : Frame → Bool
is_start_ok (f.Method zero (m.StartOk properties mechanism response locale)) = true
is_start_ok _ = false

-- secure-ok or tune-ok
abbrev pub is_secure_ok_or_tune_ok : Frame → Bool
is_secure_ok_or_tune_ok (f.Method zero (m.SecureOk response)) = true
is_secure_ok_or_tune_ok (f.Method zero (m.TuneOk channel_max frame_max heartbeat)) = true
is_secure_ok_or_tune_ok _ = false

-- open
abbrev pub opens_the_connection : Frame → Bool
opens_the_connection (f.Method zero (m.Open vhost)) = true
opens_the_connection _ = false

-- a heartbeat, update-secret or close of the connection; or a method on a channel whose usage allows it: open where
-- the channel is not open, close-ok where it is open or left, and any other where it is open
abbrev pub is_method : (ℕ → Usage) → Frame → Bool
is_method usage f.Heartbeat = true
is_method usage (f.Method zero (m.UpdateSecret secret reason)) = true
is_method usage (f.Method zero (m.Close code text class method)) = true
is_method usage (f.Method (suc n) m.ChannelOpen) = not (is_in_use (usage (suc n)))
is_method usage (f.Method (suc n) (m.ChannelFlow active)) = is_in_use (usage (suc n))
is_method usage (f.Method (suc n) (m.ChannelFlowOk active)) = is_in_use (usage (suc n))
is_method usage (f.Method (suc n) (m.ChannelClose code text class method)) = is_in_use (usage (suc n))
is_method usage (f.Method (suc n) m.ChannelCloseOk) = not (is_shut (usage (suc n)))
is_method usage (f.Raw (suc n) raw.RawMethod method) = is_passed_through method && is_in_use (usage (suc n))
is_method usage _ = false

-- the content header of a method of this class on this channel
abbrev pub is_header_of : ℕ → ℕ → Frame → Bool
is_header_of n class (f.Raw o raw.Header head) = o == n && is_content_header class head
is_header_of n class _ = false

-- a frame of the body on this channel, not empty and of at most so many octets
abbrev pub is_body_of : ℕ → ℕ → Frame → Bool
is_body_of n missing (f.Raw o raw.Body body) = o == n && (nat_le 1 (length body) && nat_le (length body) missing)
is_body_of n missing _ = false

-- a frame is what is expected, by the usage of the channels
abbrev pub is_as_expected : Expected → (ℕ → Usage) → Frame → Bool
is_as_expected next.Header usage frame = is_amqp_header frame
is_as_expected next.StartOk usage frame = is_our_close_ok frame || is_start_ok frame
is_as_expected next.SecureOkOrTuneOk usage frame = is_our_close_ok frame || is_secure_ok_or_tune_ok frame
is_as_expected next.Open usage frame = is_our_close_ok frame || opens_the_connection frame
is_as_expected next.Method usage frame = is_our_close_ok frame || is_method usage frame
is_as_expected (next.ContentHeader n class) usage frame =
    is_our_close_ok frame || (is_header_of n class frame || is_method usage frame)
is_as_expected (next.Body n missing) usage frame = is_our_close_ok frame || is_body_of n missing frame
is_as_expected next.CloseOk usage frame = is_our_close_ok frame
is_as_expected next.Nothing usage frame = false

-- a frame is what is expected behind these frames, which led there
abbrev pub IsExpected : List Frame → Speech → Frame → Type 0
IsExpected frames s frame = IsTrue (is_as_expected (expected_after (length frames) s) s.usage frame)
