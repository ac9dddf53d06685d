-- A control lane that loses the frames of a channel: what is left of it may be said, and leads to the same stage and usages.
use Rattle.std.proofs.Common.{◌≡◌, ◌≢◌, ◌∙◌, ap, sym, refl, subst, ℕ, zero, suc, ◌+◌, ◌==◌, not, if◌then◌else◌, Bool, true, false, List, [], ◌∷◌, Option, Some, None, arith}
use Rattle.std.proofs.lemmas.List.Sums.{sum_by-cons}
use Rattle.std.specs.List.{AllByRecursion}
use Rattle.amqp_frame.specs.declared.frame.Frame.{Frame}
use Rattle.amqp_frame.specs.declared.frame.Frame.TheVariants.{ProtocolHeader, Method, Raw, Heartbeat}
use Rattle.amqp_frame.specs.declared.frame.RawKind.TheVariants.{RawMethod, Header, Body}
use Rattle.amqp_frame.specs.declared.method.Method.TheVariants.{StartOk, SecureOk, TuneOk, Open, Close, CloseOk, UpdateSecret, ChannelOpen, ChannelFlow, ChannelFlowOk, ChannelClose, ChannelCloseOk}
use Rattle.amqp_outbox.specs.declared.item.Item.{Item}
use Rattle.amqp_outbox.specs.Items.{outlives}
use Rattle.amqp_outbox.specs.Queued.{goes_with}
use Rattle.amqp_legal.specs.Octets.{class_in}
use Rattle.amqp_outgoing.specs.Marks.{then_of}
use Rattle.amqp_legal.specs.Decider.{Speech, say, say_all, in_stage, in_content, say_block, say_open, say_use, say_close, say_close_ok, is_passed_through, now_on}
use Rattle.amqp_legal.specs.declared.progress.Stage.{Stage}
use Rattle.amqp_legal.specs.declared.progress.Stage.TheVariants.{HeaderSaid, StartOkSaid, TuneOkSaid, OpenSaid, CloseSaid, CloseOkSaid}
use Rattle.amqp_legal.specs.declared.progress.Usage.{Usage}
use Rattle.amqp_legal.specs.declared.progress.Usage.TheVariants.{Shut, InUse, Left}
use Rattle.amqp_legal.specs.declared.progress.Content.{Content}
use Rattle.amqp_legal.specs.declared.progress.Content.TheVariants.{NoContent, MethodSaid, BodyMissing}
use Rattle.amqp_legal.proofs.Sayable.{IsComplete, IsControl, complete-block, none-said, no-some}
use Rattle.amqp_legal_rules.proofs.Ties.{frames_in, channel_in, IsOfControl, pays, to_pay}
use Rattle.amqp_legal_rules.proofs.Paying.{IsNoPayment, no-payment, left_in_lane, goes-on}

-- ---- what is alike

-- the same but for content, of which nothing is missing
pub record Alike (v w : Speech) : Type 0 where
  pub stages : v.stage ≡ w.stage
  pub usages : (n : ℕ) → v.usage n ≡ w.usage n
  pub left_complete : IsComplete v.content
  pub right_complete : IsComplete w.content

-- what may be said after one may be said after what is alike, and leads to what is alike
abbrev pub SaysToo : Option Speech → Speech → Type 0
SaysToo o v' = (w' : Speech) × (o ≡ Some w') × Alike v' w'

says-too : (o : Option Speech) (x v' y : Speech) → Some x ≡ Some v' → o ≡ Some y → Alike x y → SaysToo o v'
says-too o x v' y h is a =
    let same : x ≡ v' = cc in
    let Q : Speech → Type 0 = λ z. Alike z y in (y, is, subst Q same a)

nothing-said : (v' : Speech) → None ≡ Some v' → ⊥
nothing-said v' h = cc

alike-on : (m : ℕ) (u : Usage) (v w : Speech) → Alike v w → Alike (now_on m u v) (now_on m u w)
alike-on m u v w a =
    record { stages = a.stages; usages = λ n. ap (λ x. if n == m then u else x) (a.usages n); left_complete = tt; right_complete = tt }

alike-open : (m : ℕ) (u : Usage) (v w v' : Speech) → Alike v w → say_open u m v ≡ Some v' → SaysToo (say_open u m w) v'
alike-open m Shut v w v' a h = says-too (say_open Shut m w) (now_on m InUse v) v' (now_on m InUse w) h refl (alike-on m InUse v w a)
alike-open m Left v w v' a h = says-too (say_open Left m w) (now_on m InUse v) v' (now_on m InUse w) h refl (alike-on m InUse v w a)
alike-open m InUse v w v' a h = absurd (nothing-said v' h)

alike-close : (m : ℕ) (u : Usage) (v w v' : Speech) → Alike v w → say_close u m v ≡ Some v' → SaysToo (say_close u m w) v'
alike-close m InUse v w v' a h = says-too (say_close InUse m w) (now_on m Left v) v' (now_on m Left w) h refl (alike-on m Left v w a)
alike-close m Shut v w v' a h = absurd (nothing-said v' h)
alike-close m Left v w v' a h = absurd (nothing-said v' h)

alike-close-ok : (m : ℕ) (u : Usage) (v w v' : Speech) → Alike v w → say_close_ok u m v ≡ Some v' → SaysToo (say_close_ok u m w) v'
alike-close-ok m InUse v w v' a h = says-too (say_close_ok InUse m w) (now_on m Shut v) v' (now_on m Shut w) h refl (alike-on m Shut v w a)
alike-close-ok m Left v w v' a h = says-too (say_close_ok Left m w) (now_on m Shut v) v' (now_on m Shut w) h refl (alike-on m Shut v w a)
alike-close-ok m Shut v w v' a h = absurd (nothing-said v' h)

alike-next : (c d : Content) (v w : Speech) → IsComplete c → IsComplete d → Alike v w → Alike (record v { content = c }) (record w { content = d })
alike-next c d v w hc hd a = record { stages = a.stages; usages = a.usages; left_complete = hc; right_complete = hd }

alike-use : (u : Usage) (c : Content) (v w v' : Speech) → IsComplete c → Alike v w → say_use u c v ≡ Some v' → SaysToo (say_use u c w) v'
alike-use InUse c v w v' complete a h =
    says-too (say_use InUse c w) (record v { content = c }) v' (record w { content = c }) h refl (alike-next c c v w complete complete a)
alike-use Shut c v w v' complete a h = absurd (nothing-said v' h)
alike-use Left c v w v' complete a h = absurd (nothing-said v' h)

alike-method : (b : Bool) (u : Usage) (c : Content) (v w v' : Speech) → IsComplete c → Alike v w → (if b then say_use u c v else None) ≡ Some v'
    → SaysToo (if b then say_use u c w else None) v'
alike-method true u c v w v' complete a h = alike-use u c v w v' complete a h
alike-method false u c v w v' complete a h = absurd (nothing-said v' h)

alike-none : (v w v' : Speech) → Alike v w → Some (record v { content = NoContent }) ≡ Some v' → SaysToo (Some (record w { content = NoContent })) v'
alike-none v w v' a h =
    says-too (Some (record w { content = NoContent })) (record v { content = NoContent }) v' (record w { content = NoContent }) h refl (alike-next NoContent NoContent v w tt tt a)

alike-block : (f : Frame) (v w v' : Speech) → Alike v w → say_block f v ≡ Some v' → SaysToo (say_block f w) v'
alike-block Heartbeat v w v' a h = alike-none v w v' a h
alike-block (Method zero (Close b c d e)) v w v' a h =
    says-too (Some (record w { stage = CloseSaid; content = NoContent })) (record v { stage = CloseSaid; content = NoContent }) v'
    (record w { stage = CloseSaid; content = NoContent }) h refl
    (record { stages = refl; usages = a.usages; left_complete = tt; right_complete = tt })
alike-block (Method zero (UpdateSecret b c)) v w v' a h = alike-none v w v' a h
alike-block (Method (suc n) ChannelOpen) v w v' a h =
    (let Q : Usage → Type 0 = λ u. SaysToo (say_open u (suc n) w) v' in subst Q (a.usages (suc n)) (alike-open (suc n) (v.usage (suc n)) v w v' a h))
alike-block (Method (suc n) (ChannelFlow b)) v w v' a h =
    (let Q : Usage → Type 0 = λ u. SaysToo (say_use u NoContent w) v' in subst Q (a.usages (suc n)) (alike-use (v.usage (suc n)) NoContent v w v' tt a h))
alike-block (Method (suc n) (ChannelFlowOk b)) v w v' a h =
    (let Q : Usage → Type 0 = λ u. SaysToo (say_use u NoContent w) v' in subst Q (a.usages (suc n)) (alike-use (v.usage (suc n)) NoContent v w v' tt a h))
alike-block (Method (suc n) (ChannelClose b c d e)) v w v' a h =
    (let Q : Usage → Type 0 = λ u. SaysToo (say_close u (suc n) w) v' in subst Q (a.usages (suc n)) (alike-close (suc n) (v.usage (suc n)) v w v' a h))
alike-block (Method (suc n) ChannelCloseOk) v w v' a h =
    (let Q : Usage → Type 0 = λ u. SaysToo (say_close_ok u (suc n) w) v' in
    subst Q (a.usages (suc n)) (alike-close-ok (suc n) (v.usage (suc n)) v w v' a h))
alike-block (Raw (suc n) RawMethod bytes) v w v' a h =
    let next : Content = MethodSaid (suc n) (class_in bytes) in
    let Q : Usage → Type 0 = λ u. SaysToo (if is_passed_through bytes then say_use u next w else None) v' in
    subst Q (a.usages (suc n)) (alike-method (is_passed_through bytes) (v.usage (suc n)) next v w v' tt a h)
alike-block f v w v' a h = cc

moved : (g : Stage) (v w v' : Speech) → Alike v w → Some (record v { stage = g }) ≡ Some v' → SaysToo (Some (record w { stage = g })) v'
moved g v w v' a h =
    says-too (Some (record w { stage = g })) (record v { stage = g }) v' (record w { stage = g }) h refl
    (record { stages = refl; usages = a.usages; left_complete = a.left_complete; right_complete = a.right_complete })

alike-stage : (g : Stage) (f : Frame) (v w v' : Speech) → IsControl f → Alike v w → in_stage g f v ≡ Some v' → SaysToo (in_stage g f w) v'
alike-stage CloseOkSaid f v w v' k a h = absurd (nothing-said v' h)
alike-stage HeaderSaid (Method zero CloseOk) v w v' k a h = moved CloseOkSaid v w v' a h
alike-stage StartOkSaid (Method zero CloseOk) v w v' k a h = moved CloseOkSaid v w v' a h
alike-stage TuneOkSaid (Method zero CloseOk) v w v' k a h = moved CloseOkSaid v w v' a h
alike-stage OpenSaid (Method zero CloseOk) v w v' k a h = moved CloseOkSaid v w v' a h
alike-stage CloseSaid (Method zero CloseOk) v w v' k a h = moved CloseOkSaid v w v' a h
alike-stage HeaderSaid (Method zero (StartOk b c d e)) v w v' k a h = moved StartOkSaid v w v' a h
alike-stage StartOkSaid (Method zero (SecureOk b)) v w v' k a h = says-too (Some w) v v' w h refl a
alike-stage StartOkSaid (Method zero (TuneOk b c d)) v w v' k a h = moved TuneOkSaid v w v' a h
alike-stage TuneOkSaid (Method zero (Open b)) v w v' k a h = moved OpenSaid v w v' a h
alike-stage OpenSaid f v w v' k a h =
    let left : say_block f v ≡ Some v' = sym (complete-block v.content f v a.left_complete k) ∙ h in
    let Q : Option Speech → Type 0 = λ o. SaysToo o v' in
    subst Q (sym (complete-block w.content f w a.right_complete k)) (alike-block f v w v' a left)
alike-stage _ f v w v' k a h = cc

alike-says : (f : Frame) (v w v' : Speech) → IsControl f → Alike v w → say f v ≡ Some v' → SaysToo (say f w) v'
alike-says f v w v' k a h =
    let Q : Stage → Type 0 = λ g. SaysToo (in_stage g f w) v' in subst Q a.stages (alike-stage v.stage f v w v' k a h)

-- ---- a use leaves all but the content as it was

used-alike : (u : Usage) (c : Content) (v w v' : Speech) → IsComplete c → Alike v w → say_use u c v ≡ Some v' → Alike v' w
used-alike InUse c v w v' complete a h =
    let x : Speech = record v { content = c } in
    let same : x ≡ v' = cc in
    let Q : Speech → Type 0 = λ z. Alike z w in
    subst Q same (record { stages = a.stages; usages = a.usages; left_complete = complete; right_complete = a.right_complete })
used-alike Shut c v w v' complete a h = absurd (nothing-said v' h)
used-alike Left c v w v' complete a h = absurd (nothing-said v' h)

method-alike : (b : Bool) (u : Usage) (c : Content) (v w v' : Speech) → IsComplete c → Alike v w → (if b then say_use u c v else None) ≡ Some v' → Alike v' w
method-alike true u c v w v' complete a h = used-alike u c v w v' complete a h
method-alike false u c v w v' complete a h = absurd (nothing-said v' h)

-- a frame on a channel that neither opens nor closes it
use-block : (k : ℕ) (f : Frame) (v w v' : Speech) → channel_in f ≡ suc k → outlives f ≡ false → IsNoPayment f → Alike v w → say_block f v ≡ Some v' → Alike v' w
use-block k (Method (suc m) (ChannelFlow b)) v w v' on stays none a h = used-alike (v.usage (suc m)) NoContent v w v' tt a h
use-block k (Method (suc m) (ChannelFlowOk b)) v w v' on stays none a h = used-alike (v.usage (suc m)) NoContent v w v' tt a h
use-block k (Raw (suc m) RawMethod bytes) v w v' on stays none a h =
    method-alike (is_passed_through bytes) (v.usage (suc m)) (MethodSaid (suc m) (class_in bytes)) v w v' tt a h
use-block k (Method (suc m) ChannelOpen) v w v' on stays none a h = absurd cc
use-block k (Method (suc m) (ChannelClose b c d e)) v w v' on stays none a h = absurd cc
use-block k (Method (suc m) ChannelCloseOk) v w v' on stays none a h = absurd none
use-block k Heartbeat v w v' on stays none a h = absurd cc
use-block k (Method zero m) v w v' on stays none a h = absurd cc
use-block k f v w v' on stays none a h = absurd cc

-- it may be said once the connection was opened, and not before
in-open : (k : ℕ) (f : Frame) (v : Speech) → channel_in f ≡ suc k → in_stage OpenSaid f v ≡ in_content v.content f v
in-open k (Method (suc m) method) v on = refl
in-open k (Method zero method) v on = absurd cc
in-open k (Raw m kind bytes) v on = refl
in-open k (ProtocolHeader version) v on = absurd cc
in-open k Heartbeat v on = absurd cc

elsewhere : (g : Stage) (k : ℕ) (f : Frame) (v : Speech) → channel_in f ≡ suc k → g ≢ OpenSaid → in_stage g f v ≡ None
elsewhere OpenSaid k f v on ne = absurd (ne refl)
elsewhere HeaderSaid k (Method (suc m) method) v on ne = refl
elsewhere StartOkSaid k (Method (suc m) method) v on ne = refl
elsewhere TuneOkSaid k (Method (suc m) method) v on ne = refl
elsewhere CloseSaid k (Method (suc m) method) v on ne = refl
elsewhere CloseOkSaid k f v on ne = refl
elsewhere HeaderSaid k (Raw m kind bytes) v on ne = refl
elsewhere StartOkSaid k (Raw m kind bytes) v on ne = refl
elsewhere TuneOkSaid k (Raw m kind bytes) v on ne = refl
elsewhere CloseSaid k (Raw m kind bytes) v on ne = refl
elsewhere _ k (Method zero method) v on ne = absurd cc
elsewhere _ k (ProtocolHeader version) v on ne = absurd cc
elsewhere _ k Heartbeat v on ne = absurd cc

before-open : (g : Stage) (k : ℕ) (f : Frame) (v v' : Speech) → channel_in f ≡ suc k → g ≢ OpenSaid → in_stage g f v ≡ Some v' → ⊥
before-open g k f v v' on ne h = nothing-said v' (sym (elsewhere g k f v on ne) ∙ h)

use-stage : (g : Stage) (k : ℕ) (f : Frame) (v w v' : Speech) → channel_in f ≡ suc k → outlives f ≡ false → IsNoPayment f → IsControl f → Alike v w
    → in_stage g f v ≡ Some v' → Alike v' w
use-stage OpenSaid k f v w v' on stays none control a h =
    use-block k f v w v' on stays none a (sym (complete-block v.content f v a.left_complete control) ∙ sym (in-open k f v on) ∙ h)
use-stage HeaderSaid k f v w v' on stays none control a h = absurd (before-open HeaderSaid k f v v' on (λ e. absurd cc) h)
use-stage StartOkSaid k f v w v' on stays none control a h = absurd (before-open StartOkSaid k f v v' on (λ e. absurd cc) h)
use-stage TuneOkSaid k f v w v' on stays none control a h = absurd (before-open TuneOkSaid k f v v' on (λ e. absurd cc) h)
use-stage CloseSaid k f v w v' on stays none control a h = absurd (before-open CloseSaid k f v v' on (λ e. absurd cc) h)
use-stage CloseOkSaid k f v w v' on stays none control a h = absurd (before-open CloseOkSaid k f v v' on (λ e. absurd cc) h)

-- ---- a lane

-- what is left of it may be said, and leads to the same
abbrev Loses : ℕ → List Item → Type 0
Loses k items = (v w v' : Speech) → AllByRecursion IsOfControl items → to_pay items (suc k) ≡ 0 → Alike v w → say_all (Some v) (frames_in items) ≡ Some v'
    → SaysToo (say_all (Some w) (frames_in (left_in_lane (suc k) items))) v'

loses-by : (o : Option Speech) (b : Bool) (k : ℕ) (item : Item) (items : List Item) (v w v' : Speech) → say item.frame v ≡ o → goes_with (suc k) item ≡ b
    → IsOfControl item → AllByRecursion IsOfControl items → pays (suc k) (then_of item) ≡ 0 → to_pay items (suc k) ≡ 0 → Alike v w
    → say_all o (frames_in items) ≡ Some v' → Loses k items
    → SaysToo (say_all (Some w) (frames_in (if not b then item ∷ left_in_lane (suc k) items else left_in_lane (suc k) items))) v'
loses-by None b k item items v w v' ho hb control all first rest a said next = absurd (no-some (say_all None (frames_in items)) v' (none-said (frames_in items)) said)
loses-by (Some x) true k item items v w v' ho hb control all first rest a said next =
    let gone = goes-on (suc k) item hb in
    let on : channel_in item.frame ≡ suc k = sym control.1 ∙ gone.0 in
    next x w v' all rest (use-stage v.stage k item.frame v w x on gone.1 (no-payment item k on first) control.0 a ho) said
loses-by (Some x) false k item items v w v' ho hb control all first rest a said next =
    let one = alike-says item.frame v w x control.0 a ho in
    let Q : Option Speech → Type 0 = λ o. SaysToo (say_all o (frames_in (left_in_lane (suc k) items))) v' in
    subst Q (sym one.1) (next x one.0 v' all rest one.2 said)

loses : (k : ℕ) (items : List Item) → Loses k items
loses k [] v w v' all none a said = says-too (Some w) v v' w said refl a
loses k (item ∷ items) v w v' all none a said =
    let both : to_pay (item ∷ items) (suc k) ≡ pays (suc k) (then_of item) + to_pay items (suc k) =
    sum_by-cons (λ (i : Item). pays (suc k) (then_of i)) item items in
    loses-by (say item.frame v) (goes_with (suc k) item) k item items v w v' refl refl all.0 all.1 (omega (arith, both, none)) (omega (arith, both, none)) a said
    (loses k items)

-- ---- content

-- where octets of a body are missing, a frame of the control lane may not be said but to close, which leaves them missing
body-first : (n missing : ℕ) (f : Frame) (q : Speech) → IsControl f → in_content (BodyMissing n (suc missing)) f q ≡ None
body-first n missing (Raw m Header bytes) q k = absurd k
body-first n missing (Raw m Body bytes) q k = absurd k
body-first n missing f q k = refl

content-kept : (g : Stage) (q x : Speech) → Some (record q { stage = g }) ≡ Some x → IsComplete x.content → IsComplete q.content
content-kept g q x h complete =
    let y : Speech = record q { stage = g } in
    let same : y ≡ x = cc in
    let Q : Speech → Type 0 = λ z. IsComplete z.content in subst Q (sym same) complete

complete-block-before : (c : Content) (f : Frame) (q x : Speech) → IsControl f → in_content c f q ≡ Some x → IsComplete c
complete-block-before NoContent f q x k h = tt
complete-block-before (MethodSaid n class) f q x k h = tt
complete-block-before (BodyMissing n zero) f q x k h = tt
complete-block-before (BodyMissing n (suc missing)) f q x k h = absurd (nothing-said x (sym (body-first n missing f q k) ∙ h))

complete-stage : (g : Stage) (f : Frame) (q x : Speech) → IsControl f → in_stage g f q ≡ Some x → IsComplete x.content → IsComplete q.content
complete-stage CloseOkSaid f q x k h complete = absurd (nothing-said x h)
complete-stage HeaderSaid (Method zero CloseOk) q x k h complete = content-kept CloseOkSaid q x h complete
complete-stage StartOkSaid (Method zero CloseOk) q x k h complete = content-kept CloseOkSaid q x h complete
complete-stage TuneOkSaid (Method zero CloseOk) q x k h complete = content-kept CloseOkSaid q x h complete
complete-stage OpenSaid (Method zero CloseOk) q x k h complete = content-kept CloseOkSaid q x h complete
complete-stage CloseSaid (Method zero CloseOk) q x k h complete = content-kept CloseOkSaid q x h complete
complete-stage HeaderSaid (Method zero (StartOk b c d e)) q x k h complete = content-kept StartOkSaid q x h complete
complete-stage StartOkSaid (Method zero (SecureOk b)) q x k h complete = content-kept q.stage q x h complete
complete-stage StartOkSaid (Method zero (TuneOk b c d)) q x k h complete = content-kept TuneOkSaid q x h complete
complete-stage TuneOkSaid (Method zero (Open b)) q x k h complete = content-kept OpenSaid q x h complete
complete-stage OpenSaid f q x k h complete = complete-block-before q.content f q x k h
complete-stage _ f q x k h complete = absurd cc

complete-before : (items : List Item) (q v : Speech) → AllByRecursion IsOfControl items → IsComplete v.content → say_all (Some q) (frames_in items) ≡ Some v → IsComplete q.content
complete-before [] q v all complete said =
    let same : q ≡ v = cc in
    let Q : Speech → Type 0 = λ z. IsComplete z.content in subst Q (sym same) complete
complete-before (item ∷ items) q v all complete said = by (say item.frame q) refl said (λ x k. complete-before items x v all.1 complete k) where
  by : (o : Option Speech) → say item.frame q ≡ o → say_all o (frames_in items) ≡ Some v
      → ((x : Speech) → say_all (Some x) (frames_in items) ≡ Some v → IsComplete x.content) → IsComplete q.content
  by None is said rest = absurd (no-some (say_all None (frames_in items)) v (none-said (frames_in items)) said)
  by (Some x) is said rest = complete-stage q.stage item.frame q x all.0.0 is (rest x said)

-- a control lane in which no close-ok of a channel waits loses the frames of that channel
pub lane-loses : (n : ℕ) (items : List Item) (q v : Speech) → n ≢ 0 → AllByRecursion IsOfControl items → to_pay items n ≡ 0 → IsComplete v.content
    → say_all (Some q) (frames_in items) ≡ Some v → (w : Speech) × (say_all (Some q) (frames_in (left_in_lane n items)) ≡ Some w) × Alike v w
lane-loses zero items q v some all none complete said = absurd (some refl)
lane-loses (suc k) items q v some all none complete said =
    let before = complete-before items q v all complete said in
    loses k items q q v all none (record { stages = refl; usages = λ n. refl; left_complete = before; right_complete = before }) said
