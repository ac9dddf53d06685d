-- The last frame that the double read is a close of the connection, once it owes its close-ok.
use Rattle.std.proofs.Common.{◌≡◌, ◌∙◌, ap, sym, refl, zero, suc, Bool, true, false, true≢false, List, [], ◌∷◌, Option, Some, None}
use Rattle.amqp_frame.specs.declared.frame.Frame.{Frame}
use Rattle.amqp_frame.specs.declared.frame.Frame.TheVariants.{Method, Raw, Heartbeat}
use Rattle.amqp_frame.specs.declared.method.Method.TheVariants.{StartOk, SecureOk, TuneOk, Open, Close, CloseOk, UpdateSecret, ChannelOpen, ChannelFlow, ChannelFlowOk, ChannelClose, ChannelCloseOk}
use Rattle.amqp_settings.specs.declared.configuration.Configuration.{Configuration}
use Rattle.amqp_faultless.specs.Faultless.{Server, ServerStage, heard_from}
use Rattle.amqp_faultless.specs.Faultless.ServerStage.{BeforeTune, BeforeOpenOk, Serving, Gone}
use Rattle.amqp_legal.specs.declared.progress.Stage.{Stage}
use Rattle.amqp_legal.specs.declared.progress.Stage.TheVariants.{HeaderSaid, StartOkSaid, TuneOkSaid, OpenSaid, CloseSaid, CloseOkSaid}
use Rattle.amqp_legal.specs.declared.progress.Content.TheVariants.{NoContent}
use Rattle.amqp_legal.specs.Decider.{Speech, greeted, say, say_all, in_stage, in_content, say_block}
use Rattle.amqp_legal.proofs.Sayable.{none-said, no-some}
use Rattle.amqp_double.specs.Doubles.{DoubleState, HasAnswered}
use Rattle.amqp_double.specs.Replies.{closes_connection, ends_closed}
use Rattle.amqp_owing.specs.Owed.{stage_after, IsAllAnswered, Owes}
use Rattle.amqp_owing.proofs.Owing.{last-here, say-opened, say-closed, say-close-ok}
use Rattle.amqp_owing.proofs.Changes.{owed-heard, provided-by}
use Rattle.amqp_owing.proofs.Sayings.{IsNotRaw, block-said, raw-in, use-said}
use Rattle.amqp_both_ends.proofs.Deals.{Spoken, Deals}

-- a close was said, ours or our close-ok
abbrev shuts : Stage → Bool
shuts CloseSaid = true
shuts CloseOkSaid = true
shuts _ = false

-- a frame that leaves the stage is not the one that shuts
still : (q p : Speech) → q.stage ≡ OpenSaid → p.stage ≡ q.stage → shuts p.stage ≡ true → ⊥
still q p is_opened same shut = true≢false (sym shut ∙ ap shuts (same ∙ is_opened))

kept-stage : (q p : Speech) (st : Stage) → p.stage ≡ st → shuts st ≡ false → shuts p.stage ≡ true → ⊥
kept-stage q p st is other shut = true≢false (sym shut ∙ ap shuts is ∙ other)

-- once the connection is opened, only a close shuts
block-shuts : (f : Frame) (q p : Speech) → IsNotRaw f → q.stage ≡ OpenSaid → say_block f q ≡ Some p → shuts p.stage ≡ true → closes_connection f ≡ true
block-shuts (Method zero (Close code text class method)) q p i is_opened h shut = refl
block-shuts Heartbeat q p i is_opened h shut =
    absurd (still q p is_opened (let same : record q { content = NoContent } ≡ p = cc in ap (λ (x : Speech). x.stage) (sym same)) shut)
block-shuts (Method zero (UpdateSecret secret reason)) q p i is_opened h shut =
    absurd (still q p is_opened (let same : record q { content = NoContent } ≡ p = cc in ap (λ (x : Speech). x.stage) (sym same)) shut)
block-shuts (Method (suc n) ChannelOpen) q p i is_opened h shut =
    absurd (still q p is_opened (ap (λ (x : Speech). x.stage) (sym (say-opened (q.usage (suc n)) (suc n) q p h))) shut)
block-shuts (Method (suc n) (ChannelFlow active)) q p i is_opened h shut = absurd (still q p is_opened (use-said (q.usage (suc n)) NoContent q p h).1.0 shut)
block-shuts (Method (suc n) (ChannelFlowOk active)) q p i is_opened h shut = absurd (still q p is_opened (use-said (q.usage (suc n)) NoContent q p h).1.0 shut)
block-shuts (Method (suc n) (ChannelClose code text class method)) q p i is_opened h shut =
    absurd (still q p is_opened (ap (λ (x : Speech). x.stage) (sym (say-closed (q.usage (suc n)) (suc n) q p h).1)) shut)
block-shuts (Method (suc n) ChannelCloseOk) q p i is_opened h shut =
    absurd (still q p is_opened (ap (λ (x : Speech). x.stage) (sym (say-close-ok (q.usage (suc n)) (suc n) q p h))) shut)
block-shuts (Raw n kind bytes) q p i is_opened h shut = absurd i
block-shuts f q p i is_opened h shut = absurd cc

content-shuts : (f : Frame) (q p : Speech) → q.stage ≡ OpenSaid → in_content q.content f q ≡ Some p → shuts p.stage ≡ true → closes_connection f ≡ true
content-shuts (Raw n kind bytes) q p is_opened h shut = absurd (still q p is_opened (raw-in q.content (Raw n kind bytes) q p tt h).0 shut)
content-shuts (Method n m) q p is_opened h shut = block-shuts (Method n m) q p tt is_opened (block-said q.content (Method n m) q p tt h) shut
content-shuts f q p is_opened h shut = block-shuts f q p tt is_opened (block-said q.content f q p tt h) shut

-- a frame that shuts is a close
stage-shuts : (st : Stage) (f : Frame) (q p : Speech) → q.stage ≡ st → in_stage st f q ≡ Some p → shuts p.stage ≡ true → closes_connection f ≡ true
stage-shuts CloseOkSaid f q p at h shut = absurd cc
stage-shuts st (Method zero CloseOk) q p at h shut = refl
stage-shuts HeaderSaid (Method zero (StartOk a b c d)) q p at h shut =
    absurd (kept-stage q p StartOkSaid (let same : record q { stage = StartOkSaid } ≡ p = cc in ap (λ (x : Speech). x.stage) (sym same)) refl shut)
stage-shuts StartOkSaid (Method zero (SecureOk response)) q p at h shut =
    absurd (kept-stage q p StartOkSaid (let same : q ≡ p = cc in ap (λ (x : Speech). x.stage) (sym same) ∙ at) refl shut)
stage-shuts StartOkSaid (Method zero (TuneOk a b c)) q p at h shut =
    absurd (kept-stage q p TuneOkSaid (let same : record q { stage = TuneOkSaid } ≡ p = cc in ap (λ (x : Speech). x.stage) (sym same)) refl shut)
stage-shuts TuneOkSaid (Method zero (Open vhost)) q p at h shut =
    absurd (kept-stage q p OpenSaid (let same : record q { stage = OpenSaid } ≡ p = cc in ap (λ (x : Speech). x.stage) (sym same)) refl shut)
stage-shuts OpenSaid f q p at h shut = content-shuts f q p at h shut
stage-shuts st f q p at h shut = absurd cc

-- the last frame that was said then is one
said-shuts : (f : Frame) (fs : List Frame) (q p : Speech) → say_all (Some q) (f ∷ fs) ≡ Some p → shuts p.stage ≡ true → ends_closed (f ∷ fs) ≡ true
said-shuts f [] q p h shut = by (say f q) refl h where
  by : (o : Option Speech) → say f q ≡ o → say_all o [] ≡ Some p → closes_connection f ≡ true
  by None is k = absurd (no-some (say_all None []) p (none-said []) k)
  by (Some v) is k =
      let same : v ≡ p = cc in
      stage-shuts q.stage f q p refl (is ∙ ap (λ (x : Speech). Some x) same) shut
said-shuts f (g ∷ fs) q p h shut = by (say f q) h (λ v k. said-shuts g fs v p k shut) where
  by : (o : Option Speech) → say_all o (g ∷ fs) ≡ Some p → ((v : Speech) → say_all (Some v) (g ∷ fs) ≡ Some p → ends_closed (g ∷ fs) ≡ true) → ends_closed (g ∷ fs) ≡ true
  by None k rest = absurd (no-some (say_all None (g ∷ fs)) p (none-said (g ∷ fs)) k)
  by (Some v) k rest = rest v k

-- where nothing more is asked of a server that is gone, the connection was closed
gone-shuts : (st : Stage) (p : Speech) (s : Server) → p.stage ≡ st → IsAllAnswered st p s → s.stage ≡ Gone → shuts st ≡ true
gone-shuts HeaderSaid p s at a gone = absurd (let bad : BeforeTune ≡ Gone = sym (a.stage ∙ ap stage_after at) ∙ gone in cc)
gone-shuts StartOkSaid p s at a gone = absurd (let bad : BeforeOpenOk ≡ Gone = sym (a.stage ∙ ap stage_after at) ∙ gone in cc)
gone-shuts TuneOkSaid p s at a gone = absurd (let bad : BeforeOpenOk ≡ Gone = sym (a.stage ∙ ap stage_after at) ∙ gone in cc)
gone-shuts OpenSaid p s at a gone = absurd (let bad : Serving ≡ Gone = sym (a.stage ∙ ap stage_after at) ∙ gone in cc)
gone-shuts CloseSaid p s at a gone = refl
gone-shuts CloseOkSaid p s at a gone = refl

-- close-ok is the last that a server says
last-said : (st : ServerStage) (s s' : Server) → heard_from st (Method zero CloseOk) s ≡ Some s' → s'.stage ≡ Gone
last-said Serving s s' h = ap (λ (x : Server). x.stage) (sym (provided-by s.closing (record s { stage = Gone }) s' h).1)
last-said st s s' h = absurd cc

-- a double that owes its close-ok alone read a close last
pub owed-closed : (numbers : Configuration) (sent : List Frame) (s : Server) → Deals numbers sent [] (Method zero CloseOk ∷ []) s → ends_closed sent ≡ true
owed-closed numbers [] s h = absurd (let none : Method zero CloseOk ∷ [] ≡ [] = h.1 in cc)
owed-closed numbers (g ∷ said) s h = by said refl where
  k : Spoken numbers said [] (Method zero CloseOk ∷ []) s
  k = h.1

  o : (s' : Server) × (heard_from s.stage (Method zero CloseOk) s ≡ Some s') × Owes k.p [] s'
  o = owed-heard k.p [] s (Method zero CloseOk) k.owes

  here : o.0 ≡ o.2.last
  here = last-here [] o.0 o.2.last refl o.2.says

  gone : o.2.last.stage ≡ Gone
  gone = ap (λ (x : Server). x.stage) (sym here) ∙ last-said s.stage s o.0 o.1

  shut : shuts k.p.stage ≡ true
  shut = gone-shuts k.p.stage k.p o.2.last refl o.2.answered gone

  by : (fs : List Frame) → said ≡ fs → ends_closed (g ∷ fs) ≡ true
  by [] is =
      absurd (let none : Some greeted ≡ Some k.p = ap (say_all (Some greeted)) (sym is) ∙ k.may in let same : greeted ≡ k.p = cc in true≢false (sym shut ∙ ap (λ (p : Speech). shuts p.stage) (sym same)))
  by (f ∷ fs) is = said-shuts f fs greeted k.p (ap (say_all (Some greeted)) (sym is) ∙ k.may) shut

-- so it is closed
pub answered-closed : (numbers : Configuration) (sent : List Frame) (s : Server) (d : DoubleState) → Deals numbers sent [] (Method zero CloseOk ∷ []) s → HasAnswered sent d → d.closed ≡ true
answered-closed numbers sent s d owed answered = answered.closed ∙ owed-closed numbers sent s owed
