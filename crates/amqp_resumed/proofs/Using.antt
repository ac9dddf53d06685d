-- What a frame does to a conversation: a method on a channel looks at that channel's usage alone, any other frame at none.
use Rattle.std.proofs.Common.{◌≡◌, ◌≢◌, ◌∙◌, ap, sym, refl, subst, ℕ, zero, suc, ◌-◌, ◌==◌, ◌&&◌, nat_le, if◌then◌else◌, Bool, true, false, List, length, Option, Some, None, option_map, arith}
use Rattle.std.proofs.lemmas.Bool.Decides.{nat_tests}
use Rattle.std.proofs.Math.Path.{fun_ext}
use Rattle.amqp_frame.specs.declared.frame.Frame.{Frame}
use Rattle.amqp_frame.specs.declared.frame.Frame.TheVariants as f
use Rattle.amqp_frame.specs.declared.frame.RawKind.TheVariants as raw
use Rattle.amqp_frame.specs.declared.method.Method.TheVariants as m
use Rattle.amqp_legal.specs.Octets.{class_in, body_size_in}
use Rattle.amqp_legal.specs.Decider.{Speech, say, in_stage, in_content, say_block, say_open, say_use, say_close, say_close_ok, is_passed_through, is_content_header, with_usage}
use Rattle.amqp_legal.specs.declared.progress.Stage.{Stage}
use Rattle.amqp_legal.specs.declared.progress.Stage.TheVariants.{HeaderSaid, StartOkSaid, TuneOkSaid, OpenSaid, CloseSaid, CloseOkSaid}
use Rattle.amqp_legal.specs.declared.progress.Content.{Content}
use Rattle.amqp_legal.specs.declared.progress.Content.TheVariants.{NoContent, MethodSaid, BodyMissing}
use Rattle.amqp_legal.specs.declared.progress.Usage.{Usage}
use Rattle.amqp_legal.specs.declared.progress.Usage.TheVariants.{Shut, InUse, Left}
use Rattle.amqp_types.proofs.Small.{if-true, if-false}
use Rattle.amqp_resumed.specs.Resumes.{channel_used, may_say_method}

-- ---- usages

pub usage-same : (n : ℕ) (u : Usage) (g : ℕ → Usage) → g n ≡ u → with_usage n u g ≡ g
usage-same n u g is = fun_ext (λ k. by k (k == n) refl) where
  by : (k : ℕ) (b : Bool) → (k == n) ≡ b → with_usage n u g k ≡ g k
  by k true h = if-true (k == n) u (g k) h ∙ sym is ∙ ap g (let e : k ≡ n = grind (arith, nat_tests) in sym e)
  by k false h = if-false (k == n) u (g k) h

pub usage-again : (n : ℕ) (u v : Usage) (g : ℕ → Usage) → with_usage n v (with_usage n u g) ≡ with_usage n v g
usage-again n u v g = fun_ext (λ k. by k (k == n) refl) where
  by : (k : ℕ) (b : Bool) → (k == n) ≡ b → with_usage n v (with_usage n u g) k ≡ with_usage n v g k
  by k true h = if-true (k == n) v (with_usage n u g k) h ∙ sym (if-true (k == n) v (g k) h)
  by k false h = if-false (k == n) v (with_usage n u g k) h ∙ if-false (k == n) u (g k) h ∙ sym (if-false (k == n) v (g k) h)

-- the usages where one channel's is another
pub own-usage : (n : ℕ) (u : Usage) (v : ℕ → Usage) → with_usage n u v n ≡ u
own-usage n u v = by (n == n) refl where
  by : (b : Bool) → (n == n) ≡ b → with_usage n u v n ≡ u
  by true is = if-true (n == n) u (v n) is
  by false is = absurd (let same : (n == n) ≡ true = grind (arith, nat_tests) in cc)

pub other-usage : (n k : ℕ) (u : Usage) (v : ℕ → Usage) → n ≢ k → with_usage n u v k ≡ v k
other-usage n k u v ne = by (k == n) refl where
  by : (b : Bool) → (k == n) ≡ b → with_usage n u v k ≡ v k
  by true is = absurd (ne (let e : k ≡ n = grind (arith, nat_tests) in sym e))
  by false is = if-false (k == n) u (v k) is

-- ---- frames that are no methods on a channel

-- with the usages of another conversation
abbrev pub with_usages : (ℕ → Usage) → Speech → Speech
with_usages g s = record s { usage = g }

block-other : (g : Frame) (s : Speech) (v : ℕ → Usage) → channel_used g ≡ None → say_block g (with_usages v s) ≡ option_map (with_usages v) (say_block g s)
block-other f.Heartbeat s v h = refl
block-other (f.Method zero method) s v h = zeroth method where
  zeroth : (method : _) → say_block (f.Method 0 method) (with_usages v s) ≡ option_map (with_usages v) (say_block (f.Method 0 method) s)
  zeroth (m.Close code text class number) = refl
  zeroth (m.UpdateSecret secret reason) = refl
  zeroth _ = refl
block-other (f.Method (suc n) m.ChannelOpen) s v h = absurd cc
block-other (f.Method (suc n) (m.ChannelFlow active)) s v h = absurd cc
block-other (f.Method (suc n) (m.ChannelFlowOk active)) s v h = absurd cc
block-other (f.Method (suc n) (m.ChannelClose code text class method)) s v h = absurd cc
block-other (f.Method (suc n) m.ChannelCloseOk) s v h = absurd cc
block-other (f.Raw (suc n) raw.RawMethod method) s v h = by (is_passed_through method) refl where
  by : (b : Bool) → is_passed_through method ≡ b
      → say_block (f.Raw (suc n) raw.RawMethod method) (with_usages v s) ≡ option_map (with_usages v) (say_block (f.Raw (suc n) raw.RawMethod method) s)
  by true is = absurd (let some : channel_used (f.Raw (suc n) raw.RawMethod method) ≡ Some (suc n) = if-true (is_passed_through method) (Some (suc n)) None is in cc)
  by false is =
      if-false (is_passed_through method) (say_use (v (suc n)) (MethodSaid (suc n) (class_in method)) (with_usages v s)) None is
      ∙ sym (ap (option_map (with_usages v)) (if-false (is_passed_through method) (say_use (s.usage (suc n)) (MethodSaid (suc n) (class_in method)) s) None is))
block-other _ s v h = refl

if-map : (F : Speech → Speech) (b : Bool) (s : Speech) → (if b then Some (F s) else None) ≡ option_map F (if b then Some s else None)
if-map F true s = refl
if-map F false s = refl

content-other : (c : Content) (g : Frame) (s : Speech) (v : ℕ → Usage) → channel_used g ≡ None
    → in_content c g (with_usages v s) ≡ option_map (with_usages v) (in_content c g s)
content-other NoContent g s v h = block-other g s v h
content-other (MethodSaid n class) (f.Raw k raw.Header head) s v h =
    if-map (with_usages v) (k == n && is_content_header class head) (record s { content = BodyMissing n (body_size_in head) })
content-other (MethodSaid n class) (f.Raw k raw.RawMethod method) s v h = block-other (f.Raw k raw.RawMethod method) s v h
content-other (MethodSaid n class) (f.Raw k raw.Body body) s v h = block-other (f.Raw k raw.Body body) s v h
content-other (MethodSaid n class) f.Heartbeat s v h = refl
content-other (MethodSaid n class) (f.ProtocolHeader w) s v h = refl
content-other (MethodSaid n class) (f.Method k method) s v h = block-other (f.Method k method) s v h
content-other (BodyMissing n zero) g s v h = block-other g s v h
content-other (BodyMissing n (suc missing)) (f.Raw k raw.Body body) s v h =
    if-map (with_usages v) (k == n && (nat_le 1 (length body) && nat_le (length body) (suc missing))) (record s { content = BodyMissing n (suc missing - length body) })
content-other (BodyMissing n (suc missing)) _ s v h = refl

stage-other : (st : Stage) (g : Frame) (s : Speech) (v : ℕ → Usage) → channel_used g ≡ None
    → in_stage st g (with_usages v s) ≡ option_map (with_usages v) (in_stage st g s)
stage-other HeaderSaid (f.Method zero m.CloseOk) s v h = refl
stage-other HeaderSaid (f.Method zero (m.StartOk properties mechanism response locale)) s v h = refl
stage-other HeaderSaid _ s v h = refl
stage-other StartOkSaid (f.Method zero m.CloseOk) s v h = refl
stage-other StartOkSaid (f.Method zero (m.SecureOk response)) s v h = refl
stage-other StartOkSaid (f.Method zero (m.TuneOk channel_max frame_max heartbeat)) s v h = refl
stage-other StartOkSaid _ s v h = refl
stage-other TuneOkSaid (f.Method zero m.CloseOk) s v h = refl
stage-other TuneOkSaid (f.Method zero (m.Open vhost)) s v h = refl
stage-other TuneOkSaid _ s v h = refl
stage-other OpenSaid (f.Method zero m.CloseOk) s v h = refl
stage-other OpenSaid g s v h = content-other s.content g s v h
stage-other CloseSaid (f.Method zero m.CloseOk) s v h = refl
stage-other CloseSaid _ s v h = refl
stage-other CloseOkSaid g s v h = refl

pub other-said : (g : Frame) (s : Speech) (v : ℕ → Usage) → channel_used g ≡ None → say g (with_usages v s) ≡ option_map (with_usages v) (say g s)
other-said g s v h = stage-other s.stage g s v h

-- ---- methods on a channel

-- what a frame on a channel makes of the channel's usage, where it may be said
abbrev pub usage_after : Frame → Usage → Option Usage
usage_after (f.Method n m.ChannelOpen) InUse = None
usage_after (f.Method n m.ChannelOpen) u = Some InUse
usage_after (f.Method n (m.ChannelClose code text class method)) InUse = Some Left
usage_after (f.Method n m.ChannelCloseOk) Shut = None
usage_after (f.Method n m.ChannelCloseOk) u = Some Shut
usage_after (f.Method n (m.ChannelFlow active)) InUse = Some InUse
usage_after (f.Method n (m.ChannelFlowOk active)) InUse = Some InUse
usage_after (f.Raw n raw.RawMethod method) InUse = Some InUse
usage_after g u = None

-- the content that may go on behind it
abbrev pub content_after : Frame → Content
content_after (f.Raw n raw.RawMethod method) = MethodSaid n (class_in method)
content_after g = NoContent

-- the conversation once the usage of a channel is this, and this content may go on
abbrev pub used_as : ℕ → Content → Speech → Usage → Speech
used_as n c s u = record s { usage = with_usage n u s.usage; content = c }

use-by : (n : ℕ) (c : Content) (u : Usage) (s : Speech) → s.usage n ≡ u
    → say_use u c s ≡ option_map (used_as n c s) (usage_after (f.Method n (m.ChannelFlow true)) u)
use-by n c Shut s is = refl
use-by n c InUse s is = ap (λ (v : ℕ → Usage). Some (record s { usage = v; content = c })) (sym (usage-same n InUse s.usage is))
use-by n c Left s is = refl

open-by : (n : ℕ) (u : Usage) (s : Speech) → say_open u n s ≡ option_map (used_as n NoContent s) (usage_after (f.Method n m.ChannelOpen) u)
open-by n Shut s = refl
open-by n InUse s = refl
open-by n Left s = refl

close-by : (n code : ℕ) (text : List ℕ) (class method : ℕ) (u : Usage) (s : Speech)
    → say_close u n s ≡ option_map (used_as n NoContent s) (usage_after (f.Method n (m.ChannelClose code text class method)) u)
close-by n code text class method Shut s = refl
close-by n code text class method InUse s = refl
close-by n code text class method Left s = refl

close-ok-by : (n : ℕ) (u : Usage) (s : Speech) → say_close_ok u n s ≡ option_map (used_as n NoContent s) (usage_after (f.Method n m.ChannelCloseOk) u)
close-ok-by n Shut s = refl
close-ok-by n InUse s = refl
close-ok-by n Left s = refl

same-use : (n : ℕ) (c : Content) (s : Speech) (active : Bool) (method : List ℕ) (u : Usage)
    → option_map (used_as n c s) (usage_after (f.Method n (m.ChannelFlow true)) u) ≡ option_map (used_as n c s) (usage_after (f.Raw n raw.RawMethod method) u)
same-use n c s active method Shut = refl
same-use n c s active method InUse = refl
same-use n c s active method Left = refl

flow-use : (n : ℕ) (c : Content) (s : Speech) (active : Bool) (u : Usage)
    → option_map (used_as n c s) (usage_after (f.Method n (m.ChannelFlow true)) u) ≡ option_map (used_as n c s) (usage_after (f.Method n (m.ChannelFlow active)) u)
flow-use n c s active Shut = refl
flow-use n c s active InUse = refl
flow-use n c s active Left = refl

flow-ok-use : (n : ℕ) (c : Content) (s : Speech) (active : Bool) (u : Usage)
    → option_map (used_as n c s) (usage_after (f.Method n (m.ChannelFlow true)) u) ≡ option_map (used_as n c s) (usage_after (f.Method n (m.ChannelFlowOk active)) u)
flow-ok-use n c s active Shut = refl
flow-ok-use n c s active InUse = refl
flow-ok-use n c s active Left = refl

some-number : (n k : ℕ) → Some n ≡ Some k → n ≡ k
some-number n k h = cc

block-on : (g : Frame) (n : ℕ) (s : Speech) → channel_used g ≡ Some n
    → say_block g s ≡ option_map (used_as n (content_after g) s) (usage_after g (s.usage n))
block-on f.Heartbeat n s h = absurd cc
block-on (f.ProtocolHeader w) n s h = absurd cc
block-on (f.Method zero method) n s h = absurd (none method h) where
  none : (method : _) → channel_used (f.Method 0 method) ≡ Some n → ⊥
  none _ k = cc
block-on (f.Method (suc k) m.ChannelOpen) n s h =
    subst (λ (j : ℕ). say_block (f.Method (suc k) m.ChannelOpen) s ≡ option_map (used_as j NoContent s) (usage_after (f.Method (suc k) m.ChannelOpen) (s.usage j)))
    (some-number (suc k) n h) (open-by (suc k) (s.usage (suc k)) s)
block-on (f.Method (suc k) (m.ChannelFlow active)) n s h =
    subst (λ (j : ℕ). say_block (f.Method (suc k) (m.ChannelFlow active)) s ≡ option_map (used_as j NoContent s) (usage_after (f.Method (suc k) (m.ChannelFlow active)) (s.usage j)))
    (some-number (suc k) n h) (use-by (suc k) NoContent (s.usage (suc k)) s refl ∙ flow-use (suc k) NoContent s active (s.usage (suc k)))
block-on (f.Method (suc k) (m.ChannelFlowOk active)) n s h =
    subst (λ (j : ℕ). say_block (f.Method (suc k) (m.ChannelFlowOk active)) s ≡ option_map (used_as j NoContent s) (usage_after (f.Method (suc k) (m.ChannelFlowOk active)) (s.usage j)))
    (some-number (suc k) n h) (use-by (suc k) NoContent (s.usage (suc k)) s refl ∙ flow-ok-use (suc k) NoContent s active (s.usage (suc k)))
block-on (f.Method (suc k) (m.ChannelClose code text class method)) n s h =
    subst (λ (j : ℕ). say_block (f.Method (suc k) (m.ChannelClose code text class method)) s ≡ option_map (used_as j NoContent s) (usage_after (f.Method (suc k) (m.ChannelClose code text class method)) (s.usage j)))
    (some-number (suc k) n h) (close-by (suc k) code text class method (s.usage (suc k)) s)
block-on (f.Method (suc k) m.ChannelCloseOk) n s h =
    subst (λ (j : ℕ). say_block (f.Method (suc k) m.ChannelCloseOk) s ≡ option_map (used_as j NoContent s) (usage_after (f.Method (suc k) m.ChannelCloseOk) (s.usage j)))
    (some-number (suc k) n h) (close-ok-by (suc k) (s.usage (suc k)) s)
block-on (f.Method (suc k) _) n s h = absurd cc
block-on (f.Raw zero kind payload) n s h = absurd (none kind h) where
  none : (kind : _) → channel_used (f.Raw 0 kind payload) ≡ Some n → ⊥
  none _ k = cc
block-on (f.Raw (suc k) raw.Header payload) n s h = absurd cc
block-on (f.Raw (suc k) raw.Body payload) n s h = absurd cc
block-on (f.Raw (suc k) raw.RawMethod method) n s h = by (is_passed_through method) refl where
  g : Frame
  g = f.Raw (suc k) raw.RawMethod method

  by : (b : Bool) → is_passed_through method ≡ b → say_block g s ≡ option_map (used_as n (content_after g) s) (usage_after g (s.usage n))
  by true is =
      let same : suc k ≡ n = some-number (suc k) n (sym (if-true (is_passed_through method) (Some (suc k)) None is) ∙ h) in
      let next : Content = MethodSaid (suc k) (class_in method) in
      subst (λ (j : ℕ). say_block g s ≡ option_map (used_as j next s) (usage_after g (s.usage j))) same
      (if-true (is_passed_through method) (say_use (s.usage (suc k)) next s) None is ∙ use-by (suc k) next (s.usage (suc k)) s refl ∙ same-use (suc k) next s true method (s.usage (suc k)))
  by false is = absurd (let none : channel_used g ≡ None = if-false (is_passed_through method) (Some (suc k)) None is in cc)

none-on-0 : (method : _) (n : ℕ) → channel_used (f.Method 0 method) ≡ Some n → ⊥
none-on-0 _ n h = cc

content-on : (c : Content) (st : Stage) (g : Frame) (n : ℕ) (s : Speech) → channel_used g ≡ Some n
    → in_content c g s ≡ (if may_say_method OpenSaid c then say_block g s else None)
content-on NoContent st g n s h = refl
content-on (MethodSaid k class) st (f.Raw j raw.Header head) n s h = absurd (header j h) where
  header : (j : ℕ) → channel_used (f.Raw j raw.Header head) ≡ Some n → ⊥
  header zero k = cc
  header (suc i) k = cc
content-on (MethodSaid k class) st (f.Raw j raw.RawMethod method) n s h = refl
content-on (MethodSaid k class) st (f.Raw j raw.Body body) n s h = refl
content-on (MethodSaid k class) st f.Heartbeat n s h = refl
content-on (MethodSaid k class) st (f.ProtocolHeader w) n s h = refl
content-on (MethodSaid k class) st (f.Method j method) n s h = refl
content-on (BodyMissing k zero) st g n s h = refl
content-on (BodyMissing k (suc missing)) st (f.Raw j raw.Body body) n s h = absurd (inside j h) where
  inside : (j : ℕ) → channel_used (f.Raw j raw.Body body) ≡ Some n → ⊥
  inside zero k = cc
  inside (suc i) k = cc
content-on (BodyMissing k (suc missing)) st _ n s h = refl

stage-on : (st : Stage) (g : Frame) (n : ℕ) (s : Speech) → channel_used g ≡ Some n
    → in_stage st g s ≡ (if may_say_method st s.content then say_block g s else None)
stage-on HeaderSaid (f.Method zero method) n s h = absurd (none-on-0 method n h)
stage-on HeaderSaid (f.Method (suc k) method) n s h = refl
stage-on HeaderSaid _ n s h = refl
stage-on StartOkSaid (f.Method zero method) n s h = absurd (none-on-0 method n h)
stage-on StartOkSaid (f.Method (suc k) method) n s h = refl
stage-on StartOkSaid _ n s h = refl
stage-on TuneOkSaid (f.Method zero method) n s h = absurd (none-on-0 method n h)
stage-on TuneOkSaid (f.Method (suc k) method) n s h = refl
stage-on TuneOkSaid _ n s h = refl
stage-on OpenSaid (f.Method zero method) n s h = absurd (none-on-0 method n h)
stage-on OpenSaid (f.Method (suc k) method) n s h = content-on s.content OpenSaid (f.Method (suc k) method) n s h
stage-on OpenSaid g n s h = content-on s.content OpenSaid g n s h
stage-on CloseSaid (f.Method zero method) n s h = absurd (none-on-0 method n h)
stage-on CloseSaid (f.Method (suc k) method) n s h = refl
stage-on CloseSaid _ n s h = refl
stage-on CloseOkSaid g n s h = refl

-- a method on a channel may be said where methods may, and by the channel's usage
pub method-said : (g : Frame) (n : ℕ) (s : Speech) → channel_used g ≡ Some n
    → say g s ≡ (if may_say_method s.stage s.content then option_map (used_as n (content_after g) s) (usage_after g (s.usage n)) else None)
method-said g n s h =
    stage-on s.stage g n s h
    ∙ ap (λ (o : Option Speech). if may_say_method s.stage s.content then o else None) (block-on g n s h)
