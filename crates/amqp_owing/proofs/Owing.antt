-- What is owed once a frame was said.
use Rattle.std.proofs.Common.{append-nil, ◌-◌, ◌≡◌, ℕ, zero, suc, ◌+◌, ◌==◌, if◌then◌else◌, Bool, true, false, List, [], ◌∷◌, ◌++◌, Some, None, option_map, refl, ap, sym, ◌∙◌, subst, arith}
use Rattle.std.proofs.lemmas.Bool.Decides.{nat_tests}
use Rattle.std.specs.List.{AllByRecursion}
use Rattle.amqp_frame.specs.declared.frame.Frame.{Frame}
use Rattle.amqp_frame.specs.declared.frame.Frame.TheVariants.{ProtocolHeader, Method, Raw, Heartbeat}
use Rattle.amqp_frame.specs.declared.method.Method.{Method as AnyMethod}
use Rattle.amqp_frame.specs.declared.method.Method.TheVariants.{StartOk, SecureOk, TuneOk, Open, OpenOk, Close, CloseOk, UpdateSecret, UpdateSecretOk, ChannelOpen, ChannelOpenOk, ChannelFlow, ChannelFlowOk, ChannelClose, ChannelCloseOk}
use Rattle.amqp_settings.specs.declared.configuration.Configuration.{Configuration}
use Rattle.amqp_faultless.specs.Faultless.{Use, unused, Server, silent, used_as, said_to, one_less, serves_on, heard_from, is_frame_max, answers_to}
use Rattle.amqp_faultless.specs.Faultless.ServerStage.{BeforeTune, BeforeOpenOk, Serving, Gone}
use Rattle.amqp_legal.specs.declared.progress.Stage.{Stage}
use Rattle.amqp_legal.specs.declared.progress.Stage.TheVariants.{HeaderSaid, StartOkSaid, TuneOkSaid, OpenSaid, CloseSaid, CloseOkSaid}
use Rattle.amqp_legal.specs.declared.progress.Usage.{Usage}
use Rattle.amqp_legal.specs.declared.progress.Usage.TheVariants.{Shut, InUse, Left}
use Rattle.amqp_legal.specs.declared.progress.Content.TheVariants.{NoContent}
use Rattle.amqp_legal.specs.Decider.{Speech, greeted, say, in_stage, say_block, say_open, say_close, say_close_ok, now_on, with_usage}
use Rattle.amqp_legal.specs.Legal.{amqp_header}
use Rattle.amqp_double.specs.Replies.{replies, tune_frame}
use Rattle.amqp_owing.specs.Owed.{IsReply, hears, hears_all, stage_after, in_use, use_after, AllAnswered, IsAllAnswered, Owes, Fits}
use Rattle.amqp_owing.proofs.Changes.{plus-one, if-true, if-false, hears-append, less, on_use, IsChannelReply, serves-use, updated, changed, updated-own, more_secret, secret-at, closes, close-at, change-at}
use Rattle.amqp_owing.proofs.Stages.{none-said, kept-use, unused-stays, open-stays, after-replies, flows_more, is_closed, is_opened, flow-agrees, close-agrees, open-agrees}
use Rattle.amqp_owing.proofs.Sayings.{IsNotRaw, block-said, Same, same-content, use-said, raw-in, IsLater, later-said}

-- ---- what is owed, once a frame was said

-- all is answered, while the connection is open
pub opened-answered : (st : Stage) (p : Speech) (s : Server) → st ≡ OpenSaid → IsAllAnswered st p s → AllAnswered p s
opened-answered st p s is h = let P : Stage → Type 0 = λ x. IsAllAnswered x p s in subst P is h

pub answered-opened : (p : Speech) (s : Server) → p.stage ≡ OpenSaid → AllAnswered p s → IsAllAnswered p.stage p s
answered-opened p s is h = let P : Stage → Type 0 = λ x. IsAllAnswered x p s in subst P (sym is) h

-- it asks nothing, and changes nothing
pub owed-same : (p p' : Speech) (rs : List Frame) (s : Server) → p.stage ≡ OpenSaid → Same p p' → Owes p rs s → Owes p' (rs ++ []) s
owed-same p p' rs s is same h =
    let a = opened-answered p.stage p h.last is h.answered in
    let b : AllAnswered p' h.last = record {
      stage = a.stage ∙ ap stage_after (sym same.0);
      uses = λ n. a.uses n ∙ ap (λ (g : ℕ → Usage). use_after (g n)) (sym same.1);
      secrets = a.secrets;
    } in
    record {
      are = (let P : List Frame → Type 0 = λ x. AllByRecursion IsReply x in subst P (sym (append-nil rs)) h.are);
      last = h.last;
      says = ap (λ x. hears_all x (Some s)) (append-nil rs) ∙ h.says;
      answered = answered-opened p' h.last (same.0 ∙ is) b;
    }

pub all-replies : (rs : List Frame) (r : Frame) → AllByRecursion IsReply rs → IsReply r → AllByRecursion IsReply (rs ++ r ∷ [])
all-replies [] r h i = (i, tt)
all-replies (x ∷ rs) r h i = (h.0, all-replies rs r h.1 i)

-- one reply more
pub owed-more : (p p' : Speech) (rs : List Frame) (s s' last' : Server) (r : Frame) (h : Owes p rs s) (F : Server → Server) → IsReply r
    → hears_all rs (Some s') ≡ Some (F h.last) → hears r (Some (F h.last)) ≡ Some last' → IsAllAnswered p'.stage p' last' → Owes p' (rs ++ r ∷ []) s'
owed-more p p' rs s s' last' r h F i before then_so answered =
    record {
      are = all-replies rs r h.are i;
      last = last';
      says = hears-append rs (r ∷ []) (Some s') ∙ ap (λ o. hears_all (r ∷ []) o) before ∙ then_so;
      answered = answered;
    }

-- what is said where nothing is owed
pub owed-first : (p p' : Speech) (rs : List Frame) (s s' last' : Server) (r : Frame) (h : Owes p rs s) → IsReply r → rs ≡ []
    → hears r (Some s') ≡ Some last' → IsAllAnswered p'.stage p' last' → Owes p' (rs ++ r ∷ []) s'
owed-first p p' rs s s' last' r h i none then_so answered =
    record {
      are = all-replies rs r h.are i;
      last = last';
      says = ap (λ x. hears_all (x ++ r ∷ []) (Some s')) none ∙ then_so;
      answered = answered;
    }

-- nothing is owed, and so the server is where it will be
pub last-here : (rs : List Frame) (s last : Server) → rs ≡ [] → hears_all rs (Some s) ≡ Some last → s ≡ last
last-here rs s last none h = let k : Some s ≡ Some last = ap (λ x. hears_all x (Some s)) (sym none) ∙ h in cc

-- a reply on a channel
module _ (k : ℕ) (p p' : Speech) (rs : List Frame) (s : Server) (h : Owes p rs s) (G : Use → Use) (m : AnyMethod) (i : IsChannelReply m) (after : Usage) where
  abbrev pub n : ℕ
  n = suc k

  pub reply-is : (m : AnyMethod) → IsChannelReply m → IsReply (Method n m)
  reply-is ChannelOpenOk i = tt
  reply-is (ChannelFlowOk active) i = tt
  reply-is ChannelCloseOk i = tt
  reply-is m i = absurd i

  pub serves-reply : (m : AnyMethod) → IsChannelReply m → (t : Server) → heard_from Serving (Method n m) t ≡ serves_on n (t.uses n) (Method n m) t
  serves-reply ChannelOpenOk i t = refl
  serves-reply (ChannelFlowOk active) i t = refl
  serves-reply ChannelCloseOk i t = refl
  serves-reply m i t = absurd i

  pub channel-more : p.stage ≡ OpenSaid → p'.stage ≡ OpenSaid → ((j : ℕ) → p'.usage j ≡ with_usage n after p.usage j)
      → hears_all rs (Some (changed n G s)) ≡ Some (changed n G h.last) → on_use m (G (h.last.uses n)) ≡ Some (use_after after)
      → Owes p' (rs ++ Method n m ∷ []) (changed n G s)
  channel-more is is' usage before reply =
      owed-more p p' rs s (changed n G s) (used_as n (use_after after) t) (Method n m) h (changed n G) (reply-is m i) before says
      (answered-opened p' (used_as n (use_after after) t) is' answered)
    where
      t : Server
      t = changed n G h.last

      a : AllAnswered p h.last
      a = opened-answered p.stage p h.last is h.answered

      serving : h.last.stage ≡ Serving
      serving = a.stage ∙ ap stage_after is

      says : hears (Method n m) (Some t) ≡ Some (used_as n (use_after after) t)
      says =
          ap (λ st. heard_from st (Method n m) t) serving ∙ serves-reply m i t ∙ serves-use n t m (t.uses n) i
          ∙ ap (λ v. option_map (λ (w : Use). used_as n w t) (on_use m v)) (updated-own n (G (h.last.uses n)) h.last.uses)
          ∙ ap (option_map (λ (w : Use). used_as n w t)) reply

      uses-at : (j : ℕ) (b : Bool) → (j == n) ≡ b → updated n (use_after after) t.uses j ≡ use_after (with_usage n after p.usage j)
      uses-at j true on = if-true (j == n) (use_after after) (t.uses j) on ∙ sym (ap use_after (if-true (j == n) after (p.usage j) on))
      uses-at j false on =
          if-false (j == n) (use_after after) (t.uses j) on ∙ if-false (j == n) (G (h.last.uses n)) (h.last.uses j) on ∙ a.uses j
          ∙ sym (ap use_after (if-false (j == n) after (p.usage j) on))

      answered : AllAnswered p' (used_as n (use_after after) t)
      answered = record {
        stage = serving ∙ sym (ap stage_after is');
        uses = λ j. uses-at j (j == n) refl ∙ ap use_after (sym (usage j));
        secrets = a.secrets;
      }

-- before the connection is opened
abbrev pub IsStartOk : Frame → Type 0
IsStartOk (Method zero (StartOk a b c d)) = Unit {0}
IsStartOk _ = ⊥

pub start-ok-said : (st : Stage) (p p' : Speech) (f : Frame) → IsStartOk f → in_stage st f p ≡ Some p' → (st ≡ HeaderSaid) × (record p { stage = StartOkSaid } ≡ p')
start-ok-said HeaderSaid p p' (Method zero (StartOk a b c d)) i h = (refl, (let k : record p { stage = StartOkSaid } ≡ p' = cc in k))
start-ok-said OpenSaid p p' (Method zero (StartOk a b c d)) i h = absurd (let bad : None ≡ Some p' = block-said p.content (Method zero (StartOk a b c d)) p p' tt h in cc)
start-ok-said st p p' (Method zero (StartOk a b c d)) i h = absurd cc
start-ok-said st p p' f i h = absurd i

pub tune-ok-said : (st : Stage) (p p' : Speech) (a b c : ℕ) → in_stage st (Method zero (TuneOk a b c)) p ≡ Some p' → (st ≡ StartOkSaid) × (record p { stage = TuneOkSaid } ≡ p')
tune-ok-said StartOkSaid p p' a b c h = (refl, (let k : record p { stage = TuneOkSaid } ≡ p' = cc in k))
tune-ok-said OpenSaid p p' a b c h = absurd (let bad : None ≡ Some p' = block-said p.content (Method zero (TuneOk a b c)) p p' tt h in cc)
tune-ok-said st p p' a b c h = absurd cc

pub open-said : (st : Stage) (p p' : Speech) (vhost : List ℕ) → in_stage st (Method zero (Open vhost)) p ≡ Some p' → (st ≡ TuneOkSaid) × (record p { stage = OpenSaid } ≡ p')
open-said TuneOkSaid p p' vhost h = (refl, (let k : record p { stage = OpenSaid } ≡ p' = cc in k))
open-said OpenSaid p p' vhost h = absurd (let bad : None ≡ Some p' = block-said p.content (Method zero (Open vhost)) p p' tt h in cc)
open-said st p p' vhost h = absurd cc

pub close-ok-said : (st : Stage) (p p' : Speech) → in_stage st (Method zero CloseOk) p ≡ Some p' → p'.stage ≡ CloseOkSaid
close-ok-said CloseOkSaid p p' h = absurd cc
close-ok-said st p p' h = let k : record p { stage = CloseOkSaid } ≡ p' = cc in sym (ap (λ (x : Speech). x.stage) k)

-- what the decider says of a channel
pub say-opened : (u : Usage) (n : ℕ) (p p' : Speech) → say_open u n p ≡ Some p' → now_on n InUse p ≡ p'
say-opened InUse n p p' h = absurd cc
say-opened Shut n p p' h = let k : now_on n InUse p ≡ p' = cc in k
say-opened Left n p p' h = let k : now_on n InUse p ≡ p' = cc in k

pub say-closed : (u : Usage) (n : ℕ) (p p' : Speech) → say_close u n p ≡ Some p' → (u ≡ InUse) × (now_on n Left p ≡ p')
say-closed InUse n p p' h = (refl, (let k : now_on n Left p ≡ p' = cc in k))
say-closed Shut n p p' h = absurd cc
say-closed Left n p p' h = absurd cc

pub say-close-ok : (u : Usage) (n : ℕ) (p p' : Speech) → say_close_ok u n p ≡ Some p' → now_on n Shut p ≡ p'
say-close-ok Shut n p p' h = absurd cc
say-close-ok InUse n p p' h = let k : now_on n Shut p ≡ p' = cc in k
say-close-ok Left n p p' h = let k : now_on n Shut p ≡ p' = cc in k

-- ---- the frames

module _ (numbers : Configuration) (p p' : Speech) (rs : List Frame) (s : Server) (h : Owes p rs s) where
  abbrev pub any-server : Server → Type 0
  any-server x = Unit {0}

  pub said-later : (f : Frame) → IsLater f → IsNotRaw f → say f p ≡ Some p' → (p.stage ≡ OpenSaid) × (say_block f p ≡ Some p')
  said-later f i j said =
      let k = later-said p.stage f p p' i said in (k.0, block-said p.content f p p' j k.1)

  pub not-said : (f : Frame) → IsLater f → IsNotRaw f → say f p ≡ Some p' → say_block f p ≡ None → Owes p' (rs ++ replies numbers f) (said_to f s)
  not-said f i j said none = absurd (let bad : None ≡ Some p' = sym none ∙ (said-later f i j said).1 in cc)

  pub said-start-ok : (a : AnyMethod) → IsStartOk (Method zero a) → is_frame_max numbers.frame_max ≡ true → s.stage ≡ BeforeTune → say (Method zero a) p ≡ Some p'
      → Owes p' (rs ++ tune_frame numbers ∷ []) (record s { asked = true })
  said-start-ok a i most fits said =
      owed-first p p' rs s (record s { asked = true }) (record s { stage = BeforeOpenOk; asked = false }) (tune_frame numbers) h tt none says (subst A (sym now) ready)
    where
      e : (p.stage ≡ HeaderSaid) × (record p { stage = StartOkSaid } ≡ p')
      e = start-ok-said p.stage p p' (Method zero a) i said

      is_answered : AllAnswered p h.last
      is_answered = (let P : Stage → Type 0 = λ x. IsAllAnswered x p h.last in subst P e.0 h.answered)

      none : rs ≡ []
      none = none-said rs s h.last BeforeTune (λ k. omega (arith, k)) h.are fits (is_answered.stage ∙ ap stage_after e.0) (λ x k. k) h.says

      here : s ≡ h.last
      here = last-here rs s h.last none h.says

      says : hears (tune_frame numbers) (Some (record s { asked = true })) ≡ Some (record s { stage = BeforeOpenOk; asked = false })
      says =
          ap (λ st. heard_from st (tune_frame numbers) (record s { asked = true })) fits
          ∙ ap (λ b. if b then answers_to BeforeOpenOk (record s { asked = true }) else None) most

      now : p'.stage ≡ StartOkSaid
      now = sym (ap (λ (x : Speech). x.stage) e.1)

      A : Stage → Type 0
      A x = IsAllAnswered x p' (record s { stage = BeforeOpenOk; asked = false })

      ready : AllAnswered p' (record s { stage = BeforeOpenOk; asked = false })
      ready = record {
        stage = sym (ap stage_after now);
        uses = λ n. ap (λ (x : Server). x.uses n) here ∙ is_answered.uses n ∙ ap (λ (x : Speech). use_after (x.usage n)) e.1;
        secrets = ap (λ (x : Server). x.secrets) here ∙ is_answered.secrets;
      }

  pub said-open : (vhost : List ℕ) → s.stage ≡ BeforeOpenOk → say (Method zero (Open vhost)) p ≡ Some p'
      → Owes p' (rs ++ Method 0 OpenOk ∷ []) (record s { asked = true })
  said-open vhost fits said =
      owed-first p p' rs s (record s { asked = true }) (record s { stage = Serving; asked = false }) (Method 0 OpenOk) h tt none says (subst A (sym now) ready)
    where
      e : (p.stage ≡ TuneOkSaid) × (record p { stage = OpenSaid } ≡ p')
      e = open-said p.stage p p' vhost said

      is_answered : AllAnswered p h.last
      is_answered = (let P : Stage → Type 0 = λ x. IsAllAnswered x p h.last in subst P e.0 h.answered)

      none : rs ≡ []
      none = none-said rs s h.last BeforeOpenOk (λ k. omega (arith, k)) h.are fits (is_answered.stage ∙ ap stage_after e.0) (λ x k. k) h.says

      here : s ≡ h.last
      here = last-here rs s h.last none h.says

      says : hears (Method 0 OpenOk) (Some (record s { asked = true })) ≡ Some (record s { stage = Serving; asked = false })
      says = ap (λ st. heard_from st (Method 0 OpenOk) (record s { asked = true })) fits

      now : p'.stage ≡ OpenSaid
      now = sym (ap (λ (x : Speech). x.stage) e.1)

      A : Stage → Type 0
      A x = IsAllAnswered x p' (record s { stage = Serving; asked = false })

      ready : AllAnswered p' (record s { stage = Serving; asked = false })
      ready = record {
        stage = sym (ap stage_after now);
        uses = λ n. ap (λ (x : Server). x.uses n) here ∙ is_answered.uses n ∙ ap (λ (x : Speech). use_after (x.usage n)) e.1;
        secrets = ap (λ (x : Server). x.secrets) here ∙ is_answered.secrets;
      }

  pub said-tune-ok : (a b c : ℕ) → say (Method zero (TuneOk a b c)) p ≡ Some p' → Owes p' (rs ++ []) s
  said-tune-ok a b c said =
      let e = tune-ok-said p.stage p p' a b c said in
      let now : p'.stage ≡ TuneOkSaid = sym (ap (λ (x : Speech). x.stage) e.1) in
      let P : Stage → Type 0 = λ x. IsAllAnswered x p h.last in
      let A : Stage → Type 0 = λ x. IsAllAnswered x p' h.last in
      let was : AllAnswered p h.last = subst P e.0 h.answered in
      let ready : AllAnswered p' h.last = record {
        stage = was.stage ∙ ap stage_after e.0 ∙ sym (ap stage_after now);
        uses = λ n. was.uses n ∙ ap (λ (x : Speech). use_after (x.usage n)) e.1;
        secrets = was.secrets;
      } in
      let R : List Frame → Type 0 = λ x. AllByRecursion IsReply x in
      record {
        are = subst R (sym (append-nil rs)) h.are;
        last = h.last;
        says = ap (λ x. hears_all x (Some s)) (append-nil rs) ∙ h.says;
        answered = subst A (sym now) ready;
      }

  pub said-close-ok : say (Method zero CloseOk) p ≡ Some p' → Owes p' (rs ++ []) s
  said-close-ok said =
      let A : Stage → Type 0 = λ x. IsAllAnswered x p' h.last in
      let R : List Frame → Type 0 = λ x. AllByRecursion IsReply x in
      record {
        are = subst R (sym (append-nil rs)) h.are;
        last = h.last;
        says = ap (λ x. hears_all x (Some s)) (append-nil rs) ∙ h.says;
        answered = subst A (sym (close-ok-said p.stage p p' said)) tt;
      }

  pub said-close : (code class method : ℕ) (text : List ℕ) → say (Method zero (Close code text class method)) p ≡ Some p'
      → Owes p' (rs ++ Method 0 CloseOk ∷ []) (closes s)
  said-close code class method text said =
      let f : Frame = Method zero (Close code text class method) in
      let k = said-later f tt tt said in
      let e : record p { stage = CloseSaid; content = NoContent } ≡ p' = (let q : Some (record p { stage = CloseSaid; content = NoContent }) ≡ Some p' = k.1 in cc) in
      let now : p'.stage ≡ CloseSaid = sym (ap (λ (x : Speech). x.stage) e) in
      let a = opened-answered p.stage p h.last k.0 h.answered in
      let serving : h.last.stage ≡ Serving = a.stage ∙ ap stage_after k.0 in
      let before = after-replies closes any-server (λ x. refl) (λ r x x' i q so. tt) (λ r x x' i q so. close-at x.stage r x x' i so) rs s h.last h.are tt h.says in
      let last' : Server = record h.last { closing = true; stage = Gone } in
      let A : Stage → Type 0 = λ x. IsAllAnswered x p' last' in
      owed-more p p' rs s (closes s) last' (Method 0 CloseOk) h closes tt before.0
      (ap (λ st. heard_from st (Method 0 CloseOk) (closes h.last)) serving) (subst A (sym now) refl)

  pub said-secret : (secret reason : List ℕ) → say (Method zero (UpdateSecret secret reason)) p ≡ Some p'
      → Owes p' (rs ++ Method 0 UpdateSecretOk ∷ []) (more_secret s)
  said-secret secret reason said =
      let f : Frame = Method zero (UpdateSecret secret reason) in
      let k = said-later f tt tt said in
      let e : record p { content = NoContent } ≡ p' = (let q : Some (record p { content = NoContent }) ≡ Some p' = k.1 in cc) in
      let same = same-content p p' NoContent e in
      let a = opened-answered p.stage p h.last k.0 h.answered in
      let serving : h.last.stage ≡ Serving = a.stage ∙ ap stage_after k.0 in
      let before = after-replies more_secret any-server (λ x. refl) (λ r x x' i q so. tt) (λ r x x' i q so. secret-at x.stage r x x' i so) rs s h.last h.are tt h.says in
      let last' : Server = record h.last { secrets = 0 } in
      let one : h.last.secrets + 1 ≡ suc 0 = (let z = a.secrets in omega (arith, z)) in
      owed-more p p' rs s (more_secret s) last' (Method 0 UpdateSecretOk) h more_secret tt before.0
      (ap (λ st. heard_from st (Method 0 UpdateSecretOk) (more_secret h.last)) serving
      ∙ ap (λ j. one_less j (λ left. record (more_secret h.last) { secrets = left })) one)
      (answered-opened p' last' (same.0 ∙ k.0)
      (record { stage = a.stage ∙ ap stage_after (sym same.0); uses = λ n. a.uses n ∙ ap (λ (g : ℕ → Usage). use_after (g n)) (sym same.1); secrets = refl }))

  -- on a channel
  pub said-channel-open : (k : ℕ) → s.uses (suc k) ≡ unused → say (Method (suc k) ChannelOpen) p ≡ Some p'
      → Owes p' (rs ++ Method (suc k) ChannelOpenOk ∷ []) (changed (suc k) is_opened s)
  said-channel-open k fits said =
      let n = suc k in
      let Q : Server → Type 0 = λ x. x.uses n ≡ unused in
      let U : Use → Type 0 = λ u. u ≡ unused in
      let e = said-later (Method n ChannelOpen) tt tt said in
      let now = say-opened (p.usage n) n p p' e.1 in
      let before = after-replies (changed n is_opened) Q (λ x. refl)
      (λ r x x' i q so. kept-use U n unused-stays x.stage r x x' i q so)
      (λ r x x' i q so. change-at n is_opened x.stage r x x' i (λ m j. open-agrees (x.uses n) q m j) so) rs s h.last h.are fits h.says in
      channel-more k p p' rs s h is_opened ChannelOpenOk tt InUse e.0 (sym (ap (λ (x : Speech). x.stage) now) ∙ e.0)
      (λ j. sym (ap (λ (x : Speech). x.usage j) now)) before.0 refl

  pub said-channel-flow : (k : ℕ) (active : Bool) → (s.uses (suc k)).closing ≡ false → say (Method (suc k) (ChannelFlow active)) p ≡ Some p'
      → Owes p' (rs ++ Method (suc k) (ChannelFlowOk active) ∷ []) (changed (suc k) flows_more s)
  said-channel-flow k active fits said =
      let n = suc k in
      let Q : Server → Type 0 = λ x. (x.uses n).closing ≡ false in
      let U : Use → Type 0 = λ u. u.closing ≡ false in
      let e = said-later (Method n (ChannelFlow active)) tt tt said in
      let used = use-said (p.usage n) NoContent p p' e.1 in
      let a = opened-answered p.stage p h.last e.0 h.answered in
      let held : h.last.uses n ≡ in_use = a.uses n ∙ ap use_after used.0 in
      let before = after-replies (changed n flows_more) Q (λ x. refl)
      (λ r x x' i q so. kept-use U n open-stays x.stage r x x' i q so)
      (λ r x x' i q so. change-at n flows_more x.stage r x x' i (λ m j. flow-agrees (x.uses n) q m j) so) rs s h.last h.are fits h.says in
      channel-more k p p' rs s h flows_more (ChannelFlowOk active) tt InUse e.0 (used.1.0 ∙ e.0)
      (λ j. ap (λ (g : ℕ → Usage). g j) used.1.1 ∙ unchanged n used.0 j (j == n) refl) before.0
      (ap (λ u. on_use (ChannelFlowOk active) (flows_more u)) held ∙ ap (λ i. less i (λ left. record in_use { flows = left })) (plus-one 0))
    where
      unchanged : (n : ℕ) → p.usage n ≡ InUse → (j : ℕ) (b : Bool) → (j == n) ≡ b → p.usage j ≡ with_usage n InUse p.usage j
      unchanged n is j true on = (let e : j ≡ n = grind (arith, nat_tests) in ap p.usage e ∙ is) ∙ sym (if-true (j == n) InUse (p.usage j) on)
      unchanged n is j false on = sym (if-false (j == n) InUse (p.usage j) on)

  pub said-channel-close : (k code class method : ℕ) (text : List ℕ) → (s.uses (suc k)).closing ≡ false → say (Method (suc k) (ChannelClose code text class method)) p ≡ Some p'
      → Owes p' (rs ++ Method (suc k) ChannelCloseOk ∷ []) (changed (suc k) is_closed s)
  said-channel-close k code class method text fits said =
      let n = suc k in
      let Q : Server → Type 0 = λ x. (x.uses n).closing ≡ false in
      let U : Use → Type 0 = λ u. u.closing ≡ false in
      let e = said-later (Method n (ChannelClose code text class method)) tt tt said in
      let now = say-closed (p.usage n) n p p' e.1 in
      let a = opened-answered p.stage p h.last e.0 h.answered in
      let held : h.last.uses n ≡ in_use = a.uses n ∙ ap use_after now.0 in
      let before = after-replies (changed n is_closed) Q (λ x. refl)
      (λ r x x' i q so. kept-use U n open-stays x.stage r x x' i q so)
      (λ r x x' i q so. change-at n is_closed x.stage r x x' i (λ m j. close-agrees (x.uses n) q m j) so) rs s h.last h.are fits h.says in
      channel-more k p p' rs s h is_closed ChannelCloseOk tt Left e.0 (sym (ap (λ (x : Speech). x.stage) now.1) ∙ e.0)
      (λ j. sym (ap (λ (x : Speech). x.usage j) now.1)) before.0 (ap (λ u. on_use ChannelCloseOk (is_closed u)) held)

  -- our close-ok of a channel that the server closed
  pub said-channel-close-ok : (k : ℕ) → s.uses (suc k) ≡ unused → say (Method (suc k) ChannelCloseOk) p ≡ Some p' → Owes p' (rs ++ []) s
  said-channel-close-ok k fits said =
      let n = suc k in
      let Q : Server → Type 0 = λ x. x.uses n ≡ unused in
      let U : Use → Type 0 = λ u. u ≡ unused in
      let e = said-later (Method n ChannelCloseOk) tt tt said in
      let now = say-close-ok (p.usage n) n p p' e.1 in
      let a = opened-answered p.stage p h.last e.0 h.answered in
      let after = after-replies (λ x. x) Q (λ x. refl)
      (λ r x x' i q so. kept-use U n unused-stays x.stage r x x' i q so) (λ r x x' i q so. so) rs s h.last h.are fits h.says in
      let stage : p'.stage ≡ OpenSaid = sym (ap (λ (x : Speech). x.stage) now) ∙ e.0 in
      let R : List Frame → Type 0 = λ x. AllByRecursion IsReply x in
      record {
        are = subst R (sym (append-nil rs)) h.are;
        last = h.last;
        says = ap (λ x. hears_all x (Some s)) (append-nil rs) ∙ h.says;
        answered =
            answered-opened p' h.last stage
            (record {
              stage = a.stage ∙ ap stage_after (e.0 ∙ sym stage);
              uses = λ j. at n after.1 a.uses j (j == n) refl ∙ ap (λ (x : Speech). use_after (x.usage j)) now;
              secrets = a.secrets;
            });
      }
    where
      at : (n : ℕ) → h.last.uses n ≡ unused → ((j : ℕ) → h.last.uses j ≡ use_after (p.usage j)) → (j : ℕ) (b : Bool) → (j == n) ≡ b
          → h.last.uses j ≡ use_after (with_usage n Shut p.usage j)
      at n none uses j true on =
          (let e : j ≡ n = grind (arith, nat_tests) in ap h.last.uses e ∙ none) ∙ sym (ap use_after (if-true (j == n) Shut (p.usage j) on))
      at n none uses j false on = uses j ∙ sym (ap use_after (if-false (j == n) Shut (p.usage j) on))

  pub said-same : (f : Frame) → (p.stage ≡ OpenSaid) × Same p p' → Owes p' (rs ++ []) s
  said-same f e = owed-same p p' rs s e.0 e.1 h

  -- any frame
  pub owed-said : (f : Frame) → is_frame_max numbers.frame_max ≡ true → say f p ≡ Some p' → Fits f s → Owes p' (rs ++ replies numbers f) (said_to f s)
  owed-said (ProtocolHeader v) most said fits = not-said (ProtocolHeader v) tt tt said refl
  owed-said Heartbeat most said fits =
      let e = said-later Heartbeat tt tt said in
      let k : record p { content = NoContent } ≡ p' = (let q : Some (record p { content = NoContent }) ≡ Some p' = e.1 in cc) in
      said-same Heartbeat (e.0, same-content p p' NoContent k)
  owed-said (Raw n kind bytes) most said fits =
      let e = later-said p.stage (Raw n kind bytes) p p' tt said in
      said-same (Raw n kind bytes) (e.0, raw-in p.content (Raw n kind bytes) p p' tt e.1)
  owed-said (Method zero (StartOk a b c d)) most said fits = said-start-ok (StartOk a b c d) tt most fits said
  owed-said (Method zero (SecureOk response)) most said fits = absurd fits
  owed-said (Method zero (TuneOk a b c)) most said fits = said-tune-ok a b c said
  owed-said (Method zero (Open vhost)) most said fits = said-open vhost fits said
  owed-said (Method zero (Close code text class method)) most said fits = said-close code class method text said
  owed-said (Method zero CloseOk) most said fits = said-close-ok said
  owed-said (Method zero (UpdateSecret secret reason)) most said fits = said-secret secret reason said
  owed-said (Method zero m) most said fits = not-said (Method zero m) tt tt said refl
  owed-said (Method (suc k) ChannelOpen) most said fits = said-channel-open k fits said
  owed-said (Method (suc k) (ChannelFlow active)) most said fits = said-channel-flow k active fits said
  owed-said (Method (suc k) (ChannelFlowOk active)) most said fits =
      let e = said-later (Method (suc k) (ChannelFlowOk active)) tt tt said in
      said-same Heartbeat (e.0, (use-said (p.usage (suc k)) NoContent p p' e.1).1)
  owed-said (Method (suc k) (ChannelClose code text class method)) most said fits = said-channel-close k code class method text fits said
  owed-said (Method (suc k) ChannelCloseOk) most said fits = said-channel-close-ok k fits said
  owed-said (Method (suc k) m) most said fits = not-said (Method (suc k) m) tt tt said refl

-- what is owed to the protocol header
pub owed-header : (numbers : Configuration) → Owes greeted (replies numbers amqp_header) (said_to amqp_header silent)
owed-header numbers =
    record {
      are = (tt, tt);
      last = record silent { stage = BeforeTune };
      says = refl;
      answered = record { stage = refl; uses = λ n. refl; secrets = refl };
    }
