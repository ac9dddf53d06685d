-- Behind a content: what may be said there may be said where no content goes on.
use Rattle.std.proofs.Common.{◌≡◌, ◌∙◌, ap, sym, refl, ℕ, zero, suc, if◌then◌else◌, Bool, true, false, Option, Some, None}
use Rattle.amqp_frame.specs.declared.frame.Frame.{Frame}
use Rattle.amqp_frame.specs.declared.frame.Frame.TheVariants as f
use Rattle.amqp_frame.specs.declared.frame.RawKind.TheVariants as raw
use Rattle.amqp_frame.specs.declared.method.Method.TheVariants as m
use Rattle.amqp_legal.specs.Octets.{class_in}
use Rattle.amqp_legal.specs.Decider.{Speech, say, in_stage, in_content, say_block, say_open, say_use, say_close, say_close_ok, is_passed_through}
use Rattle.amqp_legal.specs.declared.progress.Stage.TheVariants.{OpenSaid}
use Rattle.amqp_legal.specs.declared.progress.Content.{Content}
use Rattle.amqp_legal.specs.declared.progress.Content.TheVariants.{NoContent, MethodSaid, BodyMissing}
use Rattle.amqp_legal.specs.declared.progress.Usage.{Usage}
use Rattle.amqp_legal.specs.declared.progress.Usage.TheVariants.{Shut, InUse, Left}

-- a part of a content, or our close-ok of the connection
abbrev pub is_apart : Frame → Bool
is_apart (f.Raw n raw.Header head) = true
is_apart (f.Raw n raw.Body body) = true
is_apart (f.Method zero m.CloseOk) = true
is_apart _ = false

-- a conversation in which this content goes on
abbrev pub with_content : Content → Speech → Speech
with_content c s = record s { content = c }

open-same : (u : Usage) (n : ℕ) (c : Content) (s : Speech) → say_open u n (with_content c s) ≡ say_open u n s
open-same Shut n c s = refl
open-same InUse n c s = refl
open-same Left n c s = refl

use-same : (u : Usage) (next c : Content) (s : Speech) → say_use u next (with_content c s) ≡ say_use u next s
use-same Shut next c s = refl
use-same InUse next c s = refl
use-same Left next c s = refl

close-same : (u : Usage) (n : ℕ) (c : Content) (s : Speech) → say_close u n (with_content c s) ≡ say_close u n s
close-same Shut n c s = refl
close-same InUse n c s = refl
close-same Left n c s = refl

close-ok-same : (u : Usage) (n : ℕ) (c : Content) (s : Speech) → say_close_ok u n (with_content c s) ≡ say_close_ok u n s
close-ok-same Shut n c s = refl
close-ok-same InUse n c s = refl
close-ok-same Left n c s = refl

block-same : (g : Frame) (c : Content) (s : Speech) → say_block g (with_content c s) ≡ say_block g s
block-same f.Heartbeat c s = refl
block-same (f.ProtocolHeader v) c s = refl
block-same (f.Method zero method) c s = by method where
  by : (method : _) → say_block (f.Method 0 method) (with_content c s) ≡ say_block (f.Method 0 method) s
  by (m.Close code text class number) = refl
  by (m.UpdateSecret secret reason) = refl
  by _ = refl
block-same (f.Method (suc n) m.ChannelOpen) c s = open-same (s.usage (suc n)) (suc n) c s
block-same (f.Method (suc n) (m.ChannelFlow active)) c s = use-same (s.usage (suc n)) NoContent c s
block-same (f.Method (suc n) (m.ChannelFlowOk active)) c s = use-same (s.usage (suc n)) NoContent c s
block-same (f.Method (suc n) (m.ChannelClose code text class method)) c s = close-same (s.usage (suc n)) (suc n) c s
block-same (f.Method (suc n) m.ChannelCloseOk) c s = close-ok-same (s.usage (suc n)) (suc n) c s
block-same (f.Method (suc n) _) c s = refl
block-same (f.Raw zero raw.RawMethod method) c s = refl
block-same (f.Raw zero raw.Header head) c s = refl
block-same (f.Raw zero raw.Body body) c s = refl
block-same (f.Raw (suc n) raw.RawMethod method) c s =
    ap (λ (o : Option Speech). if is_passed_through method then o else None) (use-same (s.usage (suc n)) (MethodSaid (suc n) (class_in method)) c s)
block-same (f.Raw (suc n) raw.Header head) c s = refl
block-same (f.Raw (suc n) raw.Body body) c s = refl

-- what is said where a content goes on is said behind it
pub in-content-block : (c : Content) (g : Frame) (s t : Speech) → is_apart g ≡ false → in_content c g s ≡ Some t → say_block g s ≡ Some t
in-content-block NoContent g s t h said = said
in-content-block (MethodSaid n class) (f.Raw k raw.Header head) s t h said = absurd cc
in-content-block (MethodSaid n class) (f.Raw k raw.RawMethod method) s t h said = said
in-content-block (MethodSaid n class) (f.Raw k raw.Body body) s t h said = absurd cc
in-content-block (MethodSaid n class) f.Heartbeat s t h said = said
in-content-block (MethodSaid n class) (f.ProtocolHeader v) s t h said = said
in-content-block (MethodSaid n class) (f.Method k method) s t h said = said
in-content-block (BodyMissing n zero) g s t h said = said
in-content-block (BodyMissing n (suc missing)) (f.Raw k raw.Body body) s t h said = absurd cc
in-content-block (BodyMissing n (suc missing)) (f.Raw k raw.RawMethod method) s t h said = absurd cc
in-content-block (BodyMissing n (suc missing)) (f.Raw k raw.Header head) s t h said = absurd cc
in-content-block (BodyMissing n (suc missing)) f.Heartbeat s t h said = absurd cc
in-content-block (BodyMissing n (suc missing)) (f.ProtocolHeader v) s t h said = absurd cc
in-content-block (BodyMissing n (suc missing)) (f.Method k method) s t h said = absurd cc

pub open-stage : (g : Frame) (s : Speech) → is_apart g ≡ false → in_stage OpenSaid g s ≡ in_content s.content g s
open-stage (f.Method zero m.CloseOk) s h = absurd cc
open-stage (f.Method zero _) s h = refl
open-stage (f.Method (suc n) method) s h = refl
open-stage (f.Raw n kind payload) s h = refl
open-stage (f.ProtocolHeader v) s h = refl
open-stage f.Heartbeat s h = refl

-- so it is said where none goes on
pub behind-content : (g : Frame) (s t : Speech) → is_apart g ≡ false → s.stage ≡ OpenSaid → say g s ≡ Some t → say g (with_content NoContent s) ≡ Some t
behind-content g s t h now-open said =
    let block : say_block g s ≡ Some t = in-content-block s.content g s t h (sym (open-stage g s h) ∙ ap (λ st. in_stage st g s) (sym now-open) ∙ said) in
    ap (λ st. in_stage st g (with_content NoContent s)) now-open ∙ open-stage g (with_content NoContent s) h ∙ block-same g NoContent s ∙ block
