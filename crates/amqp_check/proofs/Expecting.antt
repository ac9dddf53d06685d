-- What is expected is what may be said.
use Rattle.std.proofs.Common.{◌≡◌, ◌↔◌, ◌∙◌, ap, sym, refl, ℕ, zero, suc, ◌==◌, ◌&&◌, ◌||◌, nat_le, if◌then◌else◌, Bool, true, false, not, List, [], ◌∷◌, ◌++◌, length, Some, None, is_some, IsTrue}
use Rattle.amqp_frame.specs.declared.frame.Frame.{Frame}
use Rattle.amqp_frame.specs.declared.frame.Frame.TheVariants as f
use Rattle.amqp_frame.specs.declared.frame.RawKind.TheVariants as raw
use Rattle.amqp_frame.specs.declared.method.Method.TheVariants as m
use Rattle.amqp_legal.specs.Legal.{Legal}
use Rattle.amqp_legal.specs.declared.progress.Stage.{Stage}
use Rattle.amqp_legal.specs.declared.progress.Stage.TheVariants.{HeaderSaid, StartOkSaid, TuneOkSaid, OpenSaid, CloseSaid, CloseOkSaid}
use Rattle.amqp_legal.specs.declared.progress.Content.{Content}
use Rattle.amqp_legal.specs.declared.progress.Content.TheVariants.{NoContent, MethodSaid, BodyMissing}
use Rattle.amqp_legal.specs.declared.progress.Usage.{Usage}
use Rattle.amqp_legal.specs.declared.progress.Usage.TheVariants.{Shut, InUse, Left}
use Rattle.amqp_legal.specs.Decider.{Speech, in_stage, in_content, say_block, say_open, say_use, say_close, say_close_ok, is_passed_through, is_content_header}
use Rattle.amqp_legal.specs.Octets.{class_in, body_size_in}
use Rattle.amqp_legal.specs.Speeches.{speech_of, after_header}
use Rattle.amqp_legal.specs.declared.speech.Speech.{Speech as Spoken}
use Rattle.amqp_legal.proofs.Saying.{all-said, one-more}
use Rattle.amqp_check.specs.Findings.{IsLegallySaid}
use Rattle.amqp_check.specs.Expected.{expected_at, expected_behind, expected_after, is_in_use, is_shut, is_our_close_ok, is_start_ok, is_secure_ok_or_tune_ok, opens_the_connection, is_method, is_header_of, is_body_of, is_as_expected}

-- ---- on a channel

if-some : {A : Type 0} (b : Bool) (x : A) → is_some (if b then Some x else None) ≡ b
if-some true x = refl
if-some false x = refl

may-open : (u : Usage) (n : ℕ) (s : Speech) → is_some (say_open u n s) ≡ not (is_in_use u)
may-open Shut n s = refl
may-open InUse n s = refl
may-open Left n s = refl

may-use : (u : Usage) (c : Content) (s : Speech) → is_some (say_use u c s) ≡ is_in_use u
may-use Shut c s = refl
may-use InUse c s = refl
may-use Left c s = refl

may-close : (u : Usage) (n : ℕ) (s : Speech) → is_some (say_close u n s) ≡ is_in_use u
may-close Shut n s = refl
may-close InUse n s = refl
may-close Left n s = refl

may-close-ok : (u : Usage) (n : ℕ) (s : Speech) → is_some (say_close_ok u n s) ≡ not (is_shut u)
may-close-ok Shut n s = refl
may-close-ok InUse n s = refl
may-close-ok Left n s = refl

may-pass : (b : Bool) (u : Usage) (c : Content) (s : Speech) → is_some (if b then say_use u c s else None) ≡ (b && is_in_use u)
may-pass true u c s = may-use u c s
may-pass false u c s = refl

-- ---- once the connection is opened

block-fits : (g : Frame) (s : Speech) → is_some (say_block g s) ≡ is_method s.usage g
block-fits f.Heartbeat s = refl
block-fits (f.Method zero (m.UpdateSecret secret reason)) s = refl
block-fits (f.Method zero (m.Close code text class method)) s = refl
block-fits (f.Method (suc n) m.ChannelOpen) s = may-open (s.usage (suc n)) (suc n) s
block-fits (f.Method (suc n) (m.ChannelFlow active)) s = may-use (s.usage (suc n)) NoContent s
block-fits (f.Method (suc n) (m.ChannelFlowOk active)) s = may-use (s.usage (suc n)) NoContent s
block-fits (f.Method (suc n) (m.ChannelClose code text class method)) s = may-close (s.usage (suc n)) (suc n) s
block-fits (f.Method (suc n) m.ChannelCloseOk) s = may-close-ok (s.usage (suc n)) (suc n) s
block-fits (f.Raw (suc n) raw.RawMethod method) s = may-pass (is_passed_through method) (s.usage (suc n)) (MethodSaid (suc n) (class_in method)) s
block-fits _ s = refl

or-left : (a b : Bool) → b ≡ false → a ≡ (a || b)
or-left true b h = refl
or-left false b h = sym h

-- a content header is no method
no-method : (n : ℕ) (head : List ℕ) (usage : ℕ → Usage) → is_method usage (f.Raw n raw.Header head) ≡ false
no-method zero head usage = refl
no-method (suc n) head usage = refl

behind-method : (n class : ℕ) (g : Frame) (s : Speech) → is_some (in_content (MethodSaid n class) g s) ≡ (is_header_of n class g || is_method s.usage g)
behind-method n class (f.Raw o raw.Header head) s = if-some (o == n && is_content_header class head) (record s { content = BodyMissing n (body_size_in head) }) ∙ or-left (o == n && is_content_header class head) (is_method s.usage (f.Raw o raw.Header head)) (no-method o head s.usage)
behind-method n class (f.Raw o raw.RawMethod method) s = block-fits (f.Raw o raw.RawMethod method) s
behind-method n class (f.Raw o raw.Body body) s = block-fits (f.Raw o raw.Body body) s
behind-method n class f.Heartbeat s = refl
behind-method n class (f.ProtocolHeader v) s = refl
behind-method n class (f.Method o method) s = block-fits (f.Method o method) s

in-body : (n missing : ℕ) (g : Frame) (s : Speech) → is_some (in_content (BodyMissing n (suc missing)) g s) ≡ is_body_of n (suc missing) g
in-body n missing (f.Raw o raw.Body body) s = if-some (o == n && (nat_le 1 (length body) && nat_le (length body) (suc missing))) _
in-body n missing _ s = refl

-- ---- at each stage

header-said : (g : Frame) (s : Speech) → is_some (in_stage HeaderSaid g s) ≡ (is_our_close_ok g || is_start_ok g)
header-said (f.Method zero m.CloseOk) s = refl
header-said (f.Method zero (m.StartOk properties mechanism response locale)) s = refl
header-said _ s = refl

start-ok-said : (g : Frame) (s : Speech) → is_some (in_stage StartOkSaid g s) ≡ (is_our_close_ok g || is_secure_ok_or_tune_ok g)
start-ok-said (f.Method zero m.CloseOk) s = refl
start-ok-said (f.Method zero (m.SecureOk response)) s = refl
start-ok-said (f.Method zero (m.TuneOk channel_max frame_max heartbeat)) s = refl
start-ok-said _ s = refl

tune-ok-said : (g : Frame) (s : Speech) → is_some (in_stage TuneOkSaid g s) ≡ (is_our_close_ok g || opens_the_connection g)
tune-ok-said (f.Method zero m.CloseOk) s = refl
tune-ok-said (f.Method zero (m.Open vhost)) s = refl
tune-ok-said _ s = refl

close-said : (g : Frame) (s : Speech) → is_some (in_stage CloseSaid g s) ≡ is_our_close_ok g
close-said (f.Method zero m.CloseOk) s = refl
close-said _ s = refl

or-none : (a b : Bool) → a ≡ false → b ≡ (a || b)
or-none true b h = cc
or-none false b h = refl

content-fits : (c : Content) (g : Frame) (s : Speech) → is_our_close_ok g ≡ false → is_some (in_content c g s) ≡ is_as_expected (expected_behind c) s.usage g
content-fits NoContent g s other = block-fits g s ∙ or-none (is_our_close_ok g) (is_method s.usage g) other
content-fits (MethodSaid n class) g s other = behind-method n class g s ∙ or-none (is_our_close_ok g) (is_header_of n class g || is_method s.usage g) other
content-fits (BodyMissing n zero) g s other = block-fits g s ∙ or-none (is_our_close_ok g) (is_method s.usage g) other
content-fits (BodyMissing n (suc missing)) g s other = in-body n missing g s ∙ or-none (is_our_close_ok g) (is_body_of n (suc missing) g) other

close-ok-fits : (c : Content) (usage : ℕ → Usage) → true ≡ is_as_expected (expected_behind c) usage (f.Method 0 m.CloseOk)
close-ok-fits NoContent usage = refl
close-ok-fits (MethodSaid n class) usage = refl
close-ok-fits (BodyMissing n zero) usage = refl
close-ok-fits (BodyMissing n (suc missing)) usage = refl

open-said : (g : Frame) (s : Speech) → is_some (in_stage OpenSaid g s) ≡ is_as_expected (expected_behind s.content) s.usage g
open-said (f.Method zero m.CloseOk) s = close-ok-fits s.content s.usage
open-said g s = content-fits s.content g s refl

stage-fits : (stage : Stage) (g : Frame) (s : Speech) → is_some (in_stage stage g s) ≡ is_as_expected (expected_at stage s.content) s.usage g
stage-fits HeaderSaid g s = header-said g s
stage-fits StartOkSaid g s = start-ok-said g s
stage-fits TuneOkSaid g s = tune-ok-said g s
stage-fits OpenSaid g s = open-said g s
stage-fits CloseSaid g s = close-said g s
stage-fits CloseOkSaid g s = refl

-- ---- behind what was said

pub what-follows : (frames : List Frame) (s : Spoken) (g : Frame) → IsLegallySaid frames s
    → Legal (frames ++ g ∷ []) ↔ IsTrue (is_as_expected (expected_after (length frames) (speech_of s)) (speech_of s).usage g)
what-follows [] s g is = (λ legal. ((all-said g []).0 legal).0, λ header. (all-said g []).1 (header, refl))
what-follows (first ∷ fs) s g is = (there, back) where
  same : is_some (after_header (fs ++ g ∷ [])) ≡ is_as_expected (expected_at s.stage s.content) (speech_of s).usage g
  same = ap is_some (one-more fs g (speech_of s) is.said) ∙ stage-fits s.stage g (speech_of s)

  there : Legal (first ∷ fs ++ g ∷ []) → IsTrue (is_as_expected (expected_at s.stage s.content) (speech_of s).usage g)
  there legal = sym same ∙ ((all-said first (fs ++ g ∷ [])).0 legal).1

  back : IsTrue (is_as_expected (expected_at s.stage s.content) (speech_of s).usage g) → Legal (first ∷ fs ++ g ∷ [])
  back h = (all-said first (fs ++ g ∷ [])).1 (((all-said first fs).0 is.legal).0, same ∙ h)
