-- What the decider says of a frame.
use Rattle.std.proofs.Common.{length, ◌-◌, nat_le, ◌≡◌, zero, suc, ◌==◌, ◌&&◌, if◌then◌else◌, Bool, true, false, Some, None, refl, ap, sym}
use Rattle.amqp_frame.specs.declared.frame.Frame.{Frame}
use Rattle.amqp_frame.specs.declared.frame.Frame.TheVariants.{Method, Raw}
use Rattle.amqp_frame.specs.declared.frame.RawKind.TheVariants.{RawMethod, Header, Body}
use Rattle.amqp_frame.specs.declared.method.Method.{Method as AnyMethod}
use Rattle.amqp_frame.specs.declared.method.Method.TheVariants.{StartOk, SecureOk, TuneOk, Open, CloseOk}
use Rattle.amqp_legal.specs.declared.progress.Stage.{Stage}
use Rattle.amqp_legal.specs.declared.progress.Stage.TheVariants.{HeaderSaid, StartOkSaid, TuneOkSaid, OpenSaid, CloseSaid}
use Rattle.amqp_legal.specs.declared.progress.Usage.{Usage}
use Rattle.amqp_legal.specs.declared.progress.Usage.TheVariants.{Shut, InUse, Left}
use Rattle.amqp_legal.specs.declared.progress.Content.{Content}
use Rattle.amqp_legal.specs.declared.progress.Content.TheVariants.{NoContent, MethodSaid, BodyMissing}
use Rattle.amqp_legal.specs.Decider.{Speech, in_stage, in_content, say_block, say_use, is_passed_through, is_content_header}
use Rattle.amqp_legal.specs.Octets.{class_in, body_size_in}

-- ---- what the decider says

-- it goes on with no content, and is no frame of one
abbrev pub IsNotRaw : Frame → Type 0
IsNotRaw (Raw n kind bytes) = ⊥
IsNotRaw _ = Unit {0}

abbrev pub IsRaw : Frame → Type 0
IsRaw (Raw n kind bytes) = Unit {0}
IsRaw _ = ⊥

pub block-said : (c : Content) (f : Frame) (p p' : Speech) → IsNotRaw f → in_content c f p ≡ Some p' → say_block f p ≡ Some p'
block-said NoContent f p p' i h = h
block-said (MethodSaid n class) (Raw m kind bytes) p p' i h = absurd i
block-said (MethodSaid n class) f p p' i h = h
block-said (BodyMissing n zero) f p p' i h = h
block-said (BodyMissing n (suc missing)) (Raw m kind bytes) p p' i h = absurd i
block-said (BodyMissing n (suc missing)) f p p' i h = absurd cc

-- what is said on no channel's opening or close
abbrev pub Same : Speech → Speech → Type 0
Same p p' = (p'.stage ≡ p.stage) × (p'.usage ≡ p.usage)

pub same-content : (p p' : Speech) (next : Content) → record p { content = next } ≡ p' → Same p p'
same-content p p' next k = (sym (ap (λ (x : Speech). x.stage) k), sym (ap (λ (x : Speech). x.usage) k))

pub use-said : (u : Usage) (next : Content) (p p' : Speech) → say_use u next p ≡ Some p' → (u ≡ InUse) × Same p p'
use-said InUse next p p' h = (refl, same-content p p' next (let k : record p { content = next } ≡ p' = cc in k))
use-said Shut next p p' h = absurd cc
use-said Left next p p' h = absurd cc

pub if-said : (b : Bool) (next : Content) (p p' : Speech) → (if b then Some (record p { content = next }) else None) ≡ Some p' → Same p p'
if-said true next p p' h = same-content p p' next (let k : record p { content = next } ≡ p' = cc in k)
if-said false next p p' h = absurd cc

pub if-method : (b : Bool) (u : Usage) (next : Content) (p p' : Speech) → (if b then say_use u next p else None) ≡ Some p' → Same p p'
if-method true u next p p' h = (use-said u next p p' h).1
if-method false u next p p' h = absurd cc

-- a frame that is passed through
pub raw-in : (c : Content) (f : Frame) (p p' : Speech) → IsRaw f → in_content c f p ≡ Some p' → Same p p'
raw-in NoContent (Raw zero RawMethod bytes) p p' i h = absurd cc
raw-in NoContent (Raw (suc k) RawMethod bytes) p p' i h = if-method (is_passed_through bytes) (p.usage (suc k)) (MethodSaid (suc k) (class_in bytes)) p p' h
raw-in NoContent (Raw zero kind bytes) p p' i h = absurd cc
raw-in NoContent (Raw (suc k) kind bytes) p p' i h = absurd cc
raw-in (MethodSaid j class) (Raw m Header bytes) p p' i h = if-said (m == j && is_content_header class bytes) (BodyMissing j (body_size_in bytes)) p p' h
raw-in (MethodSaid j class) (Raw zero RawMethod bytes) p p' i h = absurd cc
raw-in (MethodSaid j class) (Raw (suc k) RawMethod bytes) p p' i h = if-method (is_passed_through bytes) (p.usage (suc k)) (MethodSaid (suc k) (class_in bytes)) p p' h
raw-in (MethodSaid j class) (Raw zero Body bytes) p p' i h = absurd cc
raw-in (MethodSaid j class) (Raw (suc k) Body bytes) p p' i h = absurd cc
raw-in (BodyMissing j zero) (Raw zero RawMethod bytes) p p' i h = absurd cc
raw-in (BodyMissing j zero) (Raw (suc k) RawMethod bytes) p p' i h = if-method (is_passed_through bytes) (p.usage (suc k)) (MethodSaid (suc k) (class_in bytes)) p p' h
raw-in (BodyMissing j zero) (Raw zero kind bytes) p p' i h = absurd cc
raw-in (BodyMissing j zero) (Raw (suc k) kind bytes) p p' i h = absurd cc
raw-in (BodyMissing j (suc missing)) (Raw m Body bytes) p p' i h =
    if-said (m == j && (nat_le 1 (length bytes) && nat_le (length bytes) (suc missing))) (BodyMissing j (suc missing - length bytes)) p p' h
raw-in (BodyMissing j (suc missing)) (Raw m RawMethod bytes) p p' i h = absurd cc
raw-in (BodyMissing j (suc missing)) (Raw m Header bytes) p p' i h = absurd cc
raw-in c f p p' i h = absurd i

-- what comes only once the connection is opened
abbrev pub IsLater : Frame → Type 0
IsLater (Method zero (StartOk a b c d)) = ⊥
IsLater (Method zero (SecureOk a)) = ⊥
IsLater (Method zero (TuneOk a b c)) = ⊥
IsLater (Method zero (Open a)) = ⊥
IsLater (Method zero CloseOk) = ⊥
IsLater _ = Unit {0}

pub later-said : (st : Stage) (f : Frame) (p p' : Speech) → IsLater f → in_stage st f p ≡ Some p' → (st ≡ OpenSaid) × (in_content p.content f p ≡ Some p')
later-said OpenSaid (Method zero CloseOk) p p' i h = absurd i
later-said OpenSaid f p p' i h = (refl, h)
later-said HeaderSaid (Method zero m) p p' i h = absurd (by m i h) where
  by : (m : AnyMethod) → IsLater (Method zero m) → in_stage HeaderSaid (Method zero m) p ≡ Some p' → ⊥
  by (StartOk a b c d) i h = i
  by CloseOk i h = i
  by m i h = cc
later-said StartOkSaid (Method zero m) p p' i h = absurd (by m i h) where
  by : (m : AnyMethod) → IsLater (Method zero m) → in_stage StartOkSaid (Method zero m) p ≡ Some p' → ⊥
  by (SecureOk a) i h = i
  by (TuneOk a b c) i h = i
  by CloseOk i h = i
  by m i h = cc
later-said TuneOkSaid (Method zero m) p p' i h = absurd (by m i h) where
  by : (m : AnyMethod) → IsLater (Method zero m) → in_stage TuneOkSaid (Method zero m) p ≡ Some p' → ⊥
  by (Open a) i h = i
  by CloseOk i h = i
  by m i h = cc
later-said CloseSaid (Method zero m) p p' i h = absurd (by m i h) where
  by : (m : AnyMethod) → IsLater (Method zero m) → in_stage CloseSaid (Method zero m) p ≡ Some p' → ⊥
  by CloseOk i h = i
  by m i h = cc
later-said st f p p' i h = absurd cc
