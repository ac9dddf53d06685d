-- What was committed behind a conversation is no obstacle to what is owed.
use Rattle.std.proofs.Common.{◌-◌, ◌≡◌, ◌≢◌, ◌≤◌, ◌⊎◌, inl, inr, ℕ, zero, suc, ◌+◌, ◌&&◌, ◌||◌, if◌then◌else◌, Bool, true, false, true≢false, List, [], ◌∷◌, ◌++◌, Some, None, refl, ap, sym, ◌∙◌, subst, arith}
use Rattle.std.specs.List.{AllByRecursion}
use Rattle.amqp_frame.specs.declared.frame.Frame.{Frame}
use Rattle.amqp_frame.specs.declared.frame.Frame.TheVariants.{ProtocolHeader, Method, Raw, Heartbeat}
use Rattle.amqp_frame.specs.declared.method.Method.{Method as AnyMethod}
use Rattle.amqp_frame.specs.declared.method.Method.TheVariants.{StartOk, SecureOk, TuneOk, Open, Close, CloseOk, UpdateSecret, ChannelOpen, ChannelOpenOk, ChannelFlow, ChannelFlowOk, ChannelClose, ChannelCloseOk}
use Rattle.amqp_settings.specs.declared.configuration.Configuration.{Configuration}
use Rattle.amqp_faultless.specs.Faultless.{Use, unused, ServerStage, Server, said_to, heard_from, is_frame_max}
use Rattle.amqp_faultless.specs.Faultless.ServerStage.{BeforeStart, BeforeTune, BeforeOpenOk, Serving, Gone}
use Rattle.amqp_legal.specs.declared.progress.Stage.{Stage}
use Rattle.amqp_legal.specs.declared.progress.Stage.TheVariants.{OpenSaid}
use Rattle.amqp_legal.specs.declared.progress.Usage.{Usage}
use Rattle.amqp_legal.specs.declared.progress.Usage.TheVariants.{Shut, InUse, Left}
use Rattle.amqp_legal.specs.declared.progress.Content.TheVariants.{NoContent}
use Rattle.amqp_legal.specs.Decider.{Speech, say}
use Rattle.amqp_double.specs.Replies.{replies}
use Rattle.amqp_owing.specs.Owed.{IsReply, hears_all, stage_after, in_use, use_after, AllAnswered, IsAllAnswered, Owes, Fits, Suits, all_said, Later}
use Rattle.amqp_owing.proofs.Changes.{first-heard, less, on_use, IsChannelReply, secret-at, close-at, change-at}
use Rattle.amqp_owing.proofs.Stages.{rank, ranks, none-said, kept-use, unused-stays, open-stays, flows_more, is_closed, is_opened, flow-agrees, close-agrees, open-agrees}
use Rattle.amqp_owing.proofs.Sayings.{block-said, use-said, later-said}
use Rattle.amqp_owing.proofs.Owing.{opened-answered, n, start-ok-said, open-said, say-closed, owed-said}

-- ---- what was committed and is not yet sent

module _ (numbers : Configuration) (most : is_frame_max numbers.frame_max ≡ true) where
  -- a frame that is said after a reply as well as before it
  abbrev pub Passes : Frame → Frame → Server → Server → Type 0
  Passes f r s s' = (heard_from (said_to f s).stage r (said_to f s) ≡ Some (said_to f s')) × Fits f s'

  pub passes : (p p' : Speech) (r : Frame) (rs : List Frame) (s s' : Server) (f : Frame) → Owes p (r ∷ rs) s → heard_from s.stage r s ≡ Some s' → say f p ≡ Some p' → Fits f s
      → Passes f r s s'
  passes p p' r rs s s' (ProtocolHeader v) h is said fits = (is, tt)
  passes p p' r rs s s' Heartbeat h is said fits = (is, tt)
  passes p p' r rs s s' (Raw c kind bytes) h is said fits = (is, tt)
  passes p p' r rs s s' (Method zero (StartOk a b c d)) h is said fits =
      let e = start-ok-said p.stage p p' (Method zero (StartOk a b c d)) tt said in
      let was : AllAnswered p h.last = (let P : Stage → Type 0 = λ x. IsAllAnswered x p h.last in subst P e.0 h.answered) in
      let none : r ∷ rs ≡ [] = none-said (r ∷ rs) s h.last BeforeTune (λ k. omega (arith, k)) h.are fits (was.stage ∙ ap stage_after e.0) (λ x k. k) h.says in
      absurd cc
  passes p p' r rs s s' (Method zero (SecureOk response)) h is said fits = absurd fits
  passes p p' r rs s s' (Method zero (Open vhost)) h is said fits =
      let e = open-said p.stage p p' vhost said in
      let was : AllAnswered p h.last = (let P : Stage → Type 0 = λ x. IsAllAnswered x p h.last in subst P e.0 h.answered) in
      let none : r ∷ rs ≡ [] = none-said (r ∷ rs) s h.last BeforeOpenOk (λ k. omega (arith, k)) h.are fits (was.stage ∙ ap stage_after e.0) (λ x k. k) h.says in
      absurd cc
  passes p p' r rs s s' (Method zero (Close code text class method)) h is said fits = (close-at s.stage r s s' h.are.0 is, tt)
  passes p p' r rs s s' (Method zero (UpdateSecret secret reason)) h is said fits = (secret-at s.stage r s s' h.are.0 is, tt)
  passes p p' r rs s s' (Method zero (TuneOk a b c)) h is said fits = (is, tt)
  passes p p' r rs s s' (Method zero CloseOk) h is said fits = (is, tt)
  passes p p' r rs s s' (Method zero m) h is said fits =
      let k = later-said p.stage (Method zero m) p p' tt said in
      absurd (let bad : None ≡ Some p' = block-said p.content (Method zero m) p p' tt k.1 in cc)
  passes p p' r rs s s' (Method (suc k) ChannelOpen) h is said fits =
      let U : Use → Type 0 = λ u. u ≡ unused in (
        change-at (suc k) is_opened s.stage r s s' h.are.0 (λ m j. open-agrees (s.uses (suc k)) fits m j) is,
        kept-use U (suc k) unused-stays s.stage r s s' h.are.0 fits is,
      )
  passes p p' r rs s s' (Method (suc k) (ChannelFlow active)) h is said fits =
      let U : Use → Type 0 = λ u. u.closing ≡ false in (
        change-at (suc k) flows_more s.stage r s s' h.are.0 (λ m j. flow-agrees (s.uses (suc k)) fits m j) is,
        kept-use U (suc k) open-stays s.stage r s s' h.are.0 fits is,
      )
  passes p p' r rs s s' (Method (suc k) (ChannelClose code text class method)) h is said fits =
      let U : Use → Type 0 = λ u. u.closing ≡ false in (
        change-at (suc k) is_closed s.stage r s s' h.are.0 (λ m j. close-agrees (s.uses (suc k)) fits m j) is,
        kept-use U (suc k) open-stays s.stage r s s' h.are.0 fits is,
      )
  passes p p' r rs s s' (Method (suc k) ChannelCloseOk) h is said fits =
      let U : Use → Type 0 = λ u. u ≡ unused in (is, kept-use U (suc k) unused-stays s.stage r s s' h.are.0 fits is)
  passes p p' r rs s s' (Method (suc k) m) h is said fits = (is, tt)

  -- a reply is heard by a server that was all_said more, and leaves what is to be all_said
  pub heard-behind : (fs : List Frame) (p : Speech) (r : Frame) (rs : List Frame) (s s' : Server) → Owes p (r ∷ rs) s → Later p fs s → heard_from s.stage r s ≡ Some s'
      → (heard_from (all_said fs s).stage r (all_said fs s) ≡ Some (all_said fs s')) × Later p fs s'
  heard-behind [] p r rs s s' h later is = (is, tt)
  heard-behind (f ∷ fs) p r rs s s' h (p', said, fits, later) is =
      let one = passes p p' r rs s s' f h is said fits in
      let more : Owes p' (r ∷ (rs ++ replies numbers f)) (said_to f s) = owed-said numbers p p' (r ∷ rs) s h f most said fits in
      let rest = heard-behind fs p' r (rs ++ replies numbers f) (said_to f s) (said_to f s') more later one.0 in
      (rest.0, (p', said, one.1, rest.1))

-- ---- what of it the session has to give

-- a channel, after all replies
pub kept-all : (Q : Use → Type 0) (n : ℕ) → ((m : AnyMethod) (u v : Use) → IsChannelReply m → Q u → on_use m u ≡ Some v → Q v)
    → (rs : List Frame) (s last : Server) → AllByRecursion IsReply rs → Q (s.uses n) → hears_all rs (Some s) ≡ Some last → Q (last.uses n)
kept-all Q n keeps [] s last are q h = let e : s ≡ last = cc in let P : Server → Type 0 = λ x. Q (x.uses n) in subst P e q
kept-all Q n keeps (r ∷ rs) s last are q h =
    let k = first-heard r rs s last h in
    kept-all Q n keeps rs k.0 last are.1 (kept-use Q n keeps s.stage r s k.0 are.0 q k.1) k.2

-- a channel that is neither asked for nor opened has no replies
pub dead-stays : (held : Use) → (held.asked || held.opened) ≡ false → (m : AnyMethod) (u v : Use) → IsChannelReply m → u ≡ held → on_use m u ≡ Some v → v ≡ held
dead-stays held dead m u v i is h = absurd (by m i (sym (ap (on_use m) is) ∙ h)) where
  parts : (a b : Bool) → (a || b) ≡ false → (a ≡ false) × (b ≡ false)
  parts true b h = absurd (true≢false h)
  parts false b h = (refl, h)

  none : (held.asked ≡ false) × (held.opened ≡ false)
  none = parts held.asked held.opened dead

  by : (m : AnyMethod) → IsChannelReply m → on_use m held ≡ Some v → ⊥
  by ChannelOpenOk i h = let bad : None ≡ Some v = sym (ap (λ b. if b then Some (record held { asked = false; opened = true }) else None) none.0) ∙ h in cc
  by (ChannelFlowOk active) i h = let bad : None ≡ Some v = sym (ap (λ b. if b then less held.flows (λ left. record held { flows = left }) else None) none.1) ∙ h in cc
  by ChannelCloseOk i h = let bad : None ≡ Some v = sym (ap (λ b. if b && held.closing then Some unused else None) none.1) ∙ h in cc
  by m i h = absurd i

-- a channel that we closed stays closed, until it is not used
abbrev pub IsShutting : Use → Type 0
IsShutting u = (u.closing ≡ true) ⊎ (u ≡ unused)

pub shutting-stays : (m : AnyMethod) (u v : Use) → IsChannelReply m → IsShutting u → on_use m u ≡ Some v → IsShutting v
shutting-stays m u v i (inr is) h = inr (unused-stays m u v i is h)
shutting-stays ChannelOpenOk u v i (inl is) h = by u.asked h where
  by : (b : Bool) → (if b then Some (record u { asked = false; opened = true }) else None) ≡ Some v → IsShutting v
  by true h = let k : record u { asked = false; opened = true } ≡ v = cc in inl (sym (ap (λ (x : Use). x.closing) k) ∙ is)
  by false h = absurd cc
shutting-stays (ChannelFlowOk active) u v i (inl is) h = by u.opened u.flows h where
  by : (b : Bool) (n : ℕ) → (if b then less n (λ left. record u { flows = left }) else None) ≡ Some v → IsShutting v
  by true zero h = absurd cc
  by true (suc n) h = let k : record u { flows = n } ≡ v = cc in inl (sym (ap (λ (x : Use). x.closing) k) ∙ is)
  by false n h = absurd cc
shutting-stays ChannelCloseOk u v i (inl is) h = by (u.opened && u.closing) h where
  by : (b : Bool) → (if b then Some unused else None) ≡ Some v → IsShutting v
  by true h = let k : unused ≡ v = cc in inr (sym k)
  by false h = absurd cc
shutting-stays m u v i (inl is) h = absurd i

module _ (p p' : Speech) (rs : List Frame) (s : Server) (h : Owes p rs s) where
  pub after-all : p.stage ≡ OpenSaid → AllAnswered p h.last
  after-all is = opened-answered p.stage p h.last is h.answered

  pub is-unused : (n : ℕ) → p.stage ≡ OpenSaid → ((s.uses n).asked || (s.uses n).opened) ≡ false → s.uses n ≡ unused
  is-unused n is dead =
      let Q : Use → Type 0 = λ u. u ≡ s.uses n in
      let same : h.last.uses n ≡ s.uses n = kept-all Q n (dead-stays (s.uses n) dead) rs s h.last h.are refl h.says in
      by (p.usage n) (sym same ∙ (after-all is).uses n)
    where
      by : (u : Usage) → s.uses n ≡ use_after u → s.uses n ≡ unused
      by Shut k = k
      by Left k = k
      by InUse k = absurd (true≢false (sym (ap (λ (x : Use). x.asked || x.opened) k) ∙ dead))

  pub is-open : (n : ℕ) → p.stage ≡ OpenSaid → p.usage n ≡ InUse → (s.uses n).closing ≡ false
  is-open n is used = by (s.uses n).closing refl where
    held : h.last.uses n ≡ in_use
    held = (after-all is).uses n ∙ ap use_after used

    never : IsShutting (h.last.uses n) → ⊥
    never (inl closed) = true≢false (sym closed ∙ ap (λ (x : Use). x.closing) held)
    never (inr none) = true≢false (ap (λ (x : Use). x.opened) (sym held ∙ none))

    by : (b : Bool) → (s.uses n).closing ≡ b → b ≡ false
    by false e = refl
    by true e = absurd (never (kept-all IsShutting n shutting-stays rs s h.last h.are (inl e) h.says))

  pub is-stage : (x : ServerStage) → rank x ≤ 1 → x ≢ BeforeStart → x ≡ BeforeTune
  is-stage BeforeStart le ne = absurd (ne refl)
  is-stage BeforeTune le ne = refl
  is-stage BeforeOpenOk le ne = absurd (omega (arith, le))
  is-stage Serving le ne = absurd (omega (arith, le))
  is-stage Gone le ne = absurd (omega (arith, le))

  pub is-next : (x : ServerStage) → rank x ≤ 2 → x ≢ BeforeStart → x ≢ BeforeTune → x ≡ BeforeOpenOk
  is-next BeforeStart le ne nf = absurd (ne refl)
  is-next BeforeTune le ne nf = absurd (nf refl)
  is-next BeforeOpenOk le ne nf = refl
  is-next Serving le ne nf = absurd (omega (arith, le))
  is-next Gone le ne nf = absurd (omega (arith, le))

  -- what a legal frame fits to
  pub fits-so : (f : Frame) → say f p ≡ Some p' → Suits f s → Fits f s
  fits-so (Method zero (StartOk a b c d)) said suits =
      let e = start-ok-said p.stage p p' (Method zero (StartOk a b c d)) tt said in
      let was : AllAnswered p h.last = (let P : Stage → Type 0 = λ x. IsAllAnswered x p h.last in subst P e.0 h.answered) in
      let last : h.last.stage ≡ BeforeTune = was.stage ∙ ap stage_after e.0 in
      let top = ap rank last in
      let le = ranks rs s h.last h.are h.says in
      is-stage s.stage (omega (arith, top, le)) suits
  fits-so (Method zero (SecureOk response)) said suits = suits
  fits-so (Method zero (Open vhost)) said suits =
      let e = open-said p.stage p p' vhost said in
      let was : AllAnswered p h.last = (let P : Stage → Type 0 = λ x. IsAllAnswered x p h.last in subst P e.0 h.answered) in
      let last : h.last.stage ≡ BeforeOpenOk = was.stage ∙ ap stage_after e.0 in
      let top = ap rank last in
      let le = ranks rs s h.last h.are h.says in
      is-next s.stage (omega (arith, top, le)) suits.0 suits.1
  fits-so (Method (suc k) ChannelOpen) said suits =
      let e = later-said p.stage (Method (suc k) ChannelOpen) p p' tt said in is-unused (suc k) e.0 suits
  fits-so (Method (suc k) ChannelCloseOk) said suits =
      let e = later-said p.stage (Method (suc k) ChannelCloseOk) p p' tt said in is-unused (suc k) e.0 suits
  fits-so (Method (suc k) (ChannelFlow active)) said suits =
      let f : Frame = Method (suc k) (ChannelFlow active) in
      let e = later-said p.stage f p p' tt said in
      is-open (suc k) e.0 (use-said (p.usage (suc k)) NoContent p p' (block-said p.content f p p' tt e.1)).0
  fits-so (Method (suc k) (ChannelClose code text class method)) said suits =
      let f : Frame = Method (suc k) (ChannelClose code text class method) in
      let e = later-said p.stage f p p' tt said in
      is-open (suc k) e.0 (say-closed (p.usage (suc k)) (suc k) p p' (block-said p.content f p p' tt e.1)).0
  fits-so (Method zero m) said suits = tt
  fits-so (Method (suc k) m) said suits = tt
  fits-so (ProtocolHeader v) said suits = tt
  fits-so (Raw c kind bytes) said suits = tt
  fits-so Heartbeat said suits = tt
