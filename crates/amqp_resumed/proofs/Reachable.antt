-- What holds of each conversation that frames lead to.
use Rattle.std.proofs.Common.{◌≡◌, ◌∙◌, ap, sym, refl, subst, ℕ, zero, suc, ◌-◌, ◌==◌, ◌&&◌, not, arith, nat_le, Bool, true, false, List, [], ◌∷◌, length, Option, Some, None}
use Rattle.amqp_frame.specs.declared.frame.Frame.{Frame}
use Rattle.amqp_frame.specs.declared.frame.Frame.TheVariants as f
use Rattle.amqp_frame.specs.declared.frame.RawKind.TheVariants as raw
use Rattle.amqp_frame.specs.declared.method.Method.TheVariants as m
use Rattle.amqp_legal.specs.Octets.{class_in, body_size_in}
use Rattle.amqp_legal.specs.Decider.{Speech, greeted, say, say_all, in_stage, in_content, say_block, say_open, say_use, say_close, say_close_ok, is_passed_through, is_content_header}
use Rattle.amqp_legal.specs.declared.progress.Stage.{Stage}
use Rattle.amqp_legal.specs.declared.progress.Stage.TheVariants.{HeaderSaid, StartOkSaid, TuneOkSaid, OpenSaid, CloseSaid, CloseOkSaid}
use Rattle.amqp_legal.specs.declared.progress.Content.{Content}
use Rattle.amqp_legal.specs.declared.progress.Content.TheVariants.{NoContent, MethodSaid, BodyMissing}
use Rattle.amqp_legal.specs.declared.progress.Usage.{Usage}
use Rattle.amqp_legal.specs.declared.progress.Usage.TheVariants.{Shut, InUse, Left}
use Rattle.std.proofs.lemmas.Bool.Decides.{nat_tests}
use Rattle.amqp_types.proofs.Small.{if-true, if-false, and-left, and-right}
use Rattle.amqp_resumed.proofs.Behind.{in-content-block}

-- a stage of the introduction
abbrev pub is_early : Stage → Bool
is_early HeaderSaid = true
is_early StartOkSaid = true
is_early TuneOkSaid = true
is_early _ = false

-- a conversation at a stage, in which no channel was opened
abbrev pub at_stage : Stage → Speech
at_stage stage = record greeted { stage = stage }

-- a content goes on on a channel that is open, and its class is passed through
pub record GoesOn (s : Speech) (n : ℕ) : Type 0 where
  pub above : (k : ℕ) × (n ≡ suc k)
  pub used : s.usage n ≡ InUse

pub record Reachable (s : Speech) : Type 0 where
  pub early : is_early s.stage ≡ true → s ≡ at_stage s.stage
  pub method : (n class : ℕ) → s.content ≡ MethodSaid n class → GoesOn s n × ((not (class == 10) && not (class == 20)) ≡ true)
  pub body : (n missing : ℕ) → s.content ≡ BodyMissing n missing → GoesOn s n

pub begins : Reachable greeted
begins = record { early = λ h. refl; method = λ n class h. absurd cc; body = λ n missing h. absurd cc }

-- no content goes on
quiet : (t : Speech) → is_early t.stage ≡ false → t.content ≡ NoContent → Reachable t
quiet t late none = record {
  early = λ h. absurd (let both : true ≡ false = sym h ∙ late in cc);
  method = λ n class h. absurd (let both : NoContent ≡ MethodSaid n class = sym none ∙ h in cc);
  body = λ n missing h. absurd (let both : NoContent ≡ BodyMissing n missing = sym none ∙ h in cc);
}

same-speech : (s t : Speech) → Some s ≡ Some t → s ≡ t
same-speech s t h = cc

quiet-as : (s t : Speech) → is_early s.stage ≡ false → s.content ≡ NoContent → Some s ≡ Some t → Reachable t
quiet-as s t late none h = subst Reachable (same-speech s t h) (quiet s late none)

opens : (u : Usage) (n : ℕ) (s t : Speech) → is_early s.stage ≡ false → say_open u n s ≡ Some t → Reachable t
opens InUse n s t late h = absurd cc
opens Shut n s t late h = quiet-as _ t late refl h
opens Left n s t late h = quiet-as _ t late refl h

uses : (u : Usage) (s t : Speech) → is_early s.stage ≡ false → say_use u NoContent s ≡ Some t → Reachable t
uses InUse s t late h = quiet-as _ t late refl h
uses Shut s t late h = absurd cc
uses Left s t late h = absurd cc

closes : (u : Usage) (n : ℕ) (s t : Speech) → is_early s.stage ≡ false → say_close u n s ≡ Some t → Reachable t
closes InUse n s t late h = quiet-as _ t late refl h
closes Shut n s t late h = absurd cc
closes Left n s t late h = absurd cc

closes-ok : (u : Usage) (n : ℕ) (s t : Speech) → is_early s.stage ≡ false → say_close_ok u n s ≡ Some t → Reachable t
closes-ok Shut n s t late h = absurd cc
closes-ok InUse n s t late h = quiet-as _ t late refl h
closes-ok Left n s t late h = quiet-as _ t late refl h

-- a method that is passed through
passes : (k : ℕ) (method : List ℕ) (s t : Speech) → is_early s.stage ≡ false → is_passed_through method ≡ true → (u : Usage) → s.usage (suc k) ≡ u
    → say_use u (MethodSaid (suc k) (class_in method)) s ≡ Some t → Reachable t
passes k method s t late shaped Shut is h = absurd cc
passes k method s t late shaped Left is h = absurd cc
passes k method s t late shaped InUse is h = subst Reachable (same-speech (record s { content = MethodSaid (suc k) (class_in method) }) t h) reached where
  reached : Reachable (record s { content = MethodSaid (suc k) (class_in method) })
  reached = record {
    early = λ e. absurd (let both : true ≡ false = sym e ∙ late in cc);
    method = λ n class e.
        let number : suc k ≡ n = cc in
        let same : class_in method ≡ class = cc in (
          record { above = (k, sym number); used = subst (λ i. s.usage i ≡ InUse) number is },
          subst (λ c. (not (c == 10) && not (c == 20)) ≡ true) same (and-right (nat_le 4 (length method)) (not (class_in method == 10) && not (class_in method == 20)) shaped),
        );
    body = λ n missing e. absurd cc;
  }

blocks : (g : Frame) (s t : Speech) → s.stage ≡ OpenSaid → say_block g s ≡ Some t → Reachable t
blocks f.Heartbeat s t now-open h = quiet-as _ t (ap is_early now-open) refl h
blocks (f.ProtocolHeader v) s t now-open h = absurd cc
blocks (f.Method zero method) s t now-open h = by method h where
  by : (method : _) → say_block (f.Method 0 method) s ≡ Some t → Reachable t
  by (m.Close code text class number) h = quiet-as _ t refl refl h
  by (m.UpdateSecret secret reason) h = quiet-as _ t (ap is_early now-open) refl h
  by _ h = absurd cc
blocks (f.Method (suc k) m.ChannelOpen) s t now-open h = opens (s.usage (suc k)) (suc k) s t (ap is_early now-open) h
blocks (f.Method (suc k) (m.ChannelFlow active)) s t now-open h = uses (s.usage (suc k)) s t (ap is_early now-open) h
blocks (f.Method (suc k) (m.ChannelFlowOk active)) s t now-open h = uses (s.usage (suc k)) s t (ap is_early now-open) h
blocks (f.Method (suc k) (m.ChannelClose code text class method)) s t now-open h = closes (s.usage (suc k)) (suc k) s t (ap is_early now-open) h
blocks (f.Method (suc k) m.ChannelCloseOk) s t now-open h = closes-ok (s.usage (suc k)) (suc k) s t (ap is_early now-open) h
blocks (f.Method (suc k) _) s t now-open h = absurd cc
blocks (f.Raw zero kind payload) s t now-open h = by kind h where
  by : (kind : _) → say_block (f.Raw 0 kind payload) s ≡ Some t → Reachable t
  by _ h = absurd cc
blocks (f.Raw (suc k) raw.Header head) s t now-open h = absurd cc
blocks (f.Raw (suc k) raw.Body body) s t now-open h = absurd cc
blocks (f.Raw (suc k) raw.RawMethod method) s t now-open h = by (is_passed_through method) refl where
  by : (b : Bool) → is_passed_through method ≡ b → Reachable t
  by true is =
      passes k method s t (ap is_early now-open) is (s.usage (suc k)) refl
      (sym (if-true (is_passed_through method) (say_use (s.usage (suc k)) (MethodSaid (suc k) (class_in method)) s) None is) ∙ h)
  by false is = absurd (let unlike = sym (if-false (is_passed_through method) (say_use (s.usage (suc k)) (MethodSaid (suc k) (class_in method)) s) None is) ∙ h in cc)

-- ---- parts of a content

-- where a content header may be said, the content of its method goes on
pub record Heads (n : ℕ) (head : List ℕ) (s t : Speech) : Type 0 where
  pub class : ℕ
  pub before : s.content ≡ MethodSaid n class
  pub shaped : is_content_header class head ≡ true
  pub is : t ≡ record s { content = BodyMissing n (body_size_in head) }

-- where a frame of a body may be, so many octets are missing
pub record Carries (n : ℕ) (body : List ℕ) (s t : Speech) : Type 0 where
  pub missing : ℕ
  pub left : ℕ
  pub before : s.content ≡ BodyMissing n missing
  pub some : nat_le 1 (length body) ≡ true
  pub within : nat_le (length body) missing ≡ true
  pub is : t ≡ record s { content = BodyMissing n left }
  pub left_is : left ≡ missing - length body

equal-numbers : (n k : ℕ) → (k == n) ≡ true → k ≡ n
equal-numbers n k h = grind (arith, nat_tests)

heads : (c : Content) (k : ℕ) (head : List ℕ) (s t : Speech) → s.content ≡ c → in_content c (f.Raw k raw.Header head) s ≡ Some t → Heads k head s t
heads NoContent zero head s t is h = absurd cc
heads NoContent (suc k) head s t is h = absurd cc
heads (BodyMissing n zero) zero head s t is h = absurd cc
heads (BodyMissing n zero) (suc k) head s t is h = absurd cc
heads (BodyMissing n (suc missing)) k head s t is h = absurd cc
heads (MethodSaid n class) k head s t is h = by (k == n && is_content_header class head) refl where
  by : (b : Bool) → (k == n && is_content_header class head) ≡ b → Heads k head s t
  by false unlike = absurd (let none = sym (if-false (k == n && is_content_header class head) (Some (record s { content = BodyMissing n (body_size_in head) })) None unlike) ∙ h in cc)
  by true holds =
      let same : k ≡ n = equal-numbers n k (and-left (k == n) (is_content_header class head) holds) in
      let said : Some (record s { content = BodyMissing n (body_size_in head) }) ≡ Some t =
      sym (if-true (k == n && is_content_header class head) (Some (record s { content = BodyMissing n (body_size_in head) })) None holds) ∙ h in
      record {
        class = class;
        before = is ∙ ap (λ i. MethodSaid i class) (sym same);
        shaped = and-right (k == n) (is_content_header class head) holds;
        is = sym (same-speech (record s { content = BodyMissing n (body_size_in head) }) t said) ∙ ap (λ i. record s { content = BodyMissing i (body_size_in head) }) (sym same);
      }

carries : (c : Content) (k : ℕ) (body : List ℕ) (s t : Speech) → s.content ≡ c → in_content c (f.Raw k raw.Body body) s ≡ Some t → Carries k body s t
carries NoContent zero body s t is h = absurd cc
carries NoContent (suc k) body s t is h = absurd cc
carries (MethodSaid n class) zero body s t is h = absurd cc
carries (MethodSaid n class) (suc k) body s t is h = absurd cc
carries (BodyMissing n zero) zero body s t is h = absurd cc
carries (BodyMissing n zero) (suc k) body s t is h = absurd cc
carries (BodyMissing n (suc missing)) k body s t is h = by (k == n && (nat_le 1 (length body) && nat_le (length body) (suc missing))) refl where
  by : (b : Bool) → (k == n && (nat_le 1 (length body) && nat_le (length body) (suc missing))) ≡ b → Carries k body s t
  by false unlike =
      absurd (
      let none = sym (if-false (k == n && (nat_le 1 (length body) && nat_le (length body) (suc missing))) (Some (record s { content = BodyMissing n (suc missing - length body) })) None unlike) ∙ h in cc
      )
  by true holds =
      let same : k ≡ n = equal-numbers n k (and-left (k == n) (nat_le 1 (length body) && nat_le (length body) (suc missing)) holds) in
      let sizes = and-right (k == n) (nat_le 1 (length body) && nat_le (length body) (suc missing)) holds in
      let said : Some (record s { content = BodyMissing n (suc missing - length body) }) ≡ Some t =
      sym (if-true (k == n && (nat_le 1 (length body) && nat_le (length body) (suc missing))) (Some (record s { content = BodyMissing n (suc missing - length body) })) None holds) ∙ h in
      record {
        missing = suc missing;
        left = suc missing - length body;
        before = is ∙ ap (λ i. BodyMissing i (suc missing)) (sym same);
        some = and-left (nat_le 1 (length body)) (nat_le (length body) (suc missing)) sizes;
        within = and-right (nat_le 1 (length body)) (nat_le (length body) (suc missing)) sizes;
        is =
            sym (same-speech (record s { content = BodyMissing n (suc missing - length body) }) t said)
            ∙ ap (λ i. record s { content = BodyMissing i (suc missing - length body) }) (sym same);
        left_is = refl;
      }

-- a part of a content is said once the connection is open
part-open : (st : Stage) (k : ℕ) (kind : _) (payload : List ℕ) (s t : Speech) → in_stage st (f.Raw k kind payload) s ≡ Some t → st ≡ OpenSaid
part-open OpenSaid k kind payload s t h = refl
part-open HeaderSaid k kind payload s t h = absurd cc
part-open StartOkSaid k kind payload s t h = absurd cc
part-open TuneOkSaid k kind payload s t h = absurd cc
part-open CloseSaid k kind payload s t h = absurd cc
part-open CloseOkSaid k kind payload s t h = absurd cc

pub raw-open : (k : ℕ) (kind : _) (payload : List ℕ) (s t : Speech) → say (f.Raw k kind payload) s ≡ Some t → s.stage ≡ OpenSaid
raw-open k kind payload s t h = part-open s.stage k kind payload s t h

pub headed : (k : ℕ) (head : List ℕ) (s t : Speech) → say (f.Raw k raw.Header head) s ≡ Some t → Heads k head s t
headed k head s t h = heads s.content k head s t refl (sym (ap (λ st. in_stage st (f.Raw k raw.Header head) s) (raw-open k raw.Header head s t h)) ∙ h)

pub carried : (k : ℕ) (body : List ℕ) (s t : Speech) → say (f.Raw k raw.Body body) s ≡ Some t → Carries k body s t
carried k body s t h = carries s.content k body s t refl (sym (ap (λ st. in_stage st (f.Raw k raw.Body body) s) (raw-open k raw.Body body s t h)) ∙ h)

-- ---- any frame

in-body : (s : Speech) (n left : ℕ) → is_early s.stage ≡ false → GoesOn s n → Reachable (record s { content = BodyMissing n left })
in-body s n left late on = record {
  early = λ e. absurd (let both : true ≡ false = sym e ∙ late in cc);
  method = λ k class e. absurd cc;
  body = λ k missing e. let same : n ≡ k = cc in subst (GoesOn (record s { content = BodyMissing n left })) same (record { above = on.above; used = on.used });
}

-- our close-ok
over : (s : Speech) → Reachable s → Reachable (record s { stage = CloseOkSaid })
over s r = record {
  early = λ e. absurd cc;
  method = λ n class h. let on = r.method n class h in (record { above = on.0.above; used = on.0.used }, on.1);
  body = λ n missing h. let on = r.body n missing h in record { above = on.above; used = on.used };
}

-- one stage of the introduction after another
further : (s : Speech) (st : Stage) → is_early s.stage ≡ true → Reachable s → Reachable (record s { stage = st })
further s st early r =
    let same : s ≡ at_stage s.stage = r.early early in
    subst Reachable (ap (λ (x : Speech). record x { stage = st }) (sym same)) (record { early = λ h. refl; method = λ n class h. absurd cc; body = λ n missing h. absurd cc })

leads : (st : Stage) (g : Frame) (s t : Speech) → s.stage ≡ st → Reachable s → in_stage st g s ≡ Some t → Reachable t
leads HeaderSaid (f.Method zero m.CloseOk) s t is r h = subst Reachable (same-speech (record s { stage = CloseOkSaid }) t h) (over s r)
leads HeaderSaid (f.Method zero (m.StartOk a b c d)) s t is r h = subst Reachable (same-speech (record s { stage = StartOkSaid }) t h) (further s StartOkSaid (ap is_early is) r)
leads HeaderSaid _ s t is r h = absurd cc
leads StartOkSaid (f.Method zero m.CloseOk) s t is r h = subst Reachable (same-speech (record s { stage = CloseOkSaid }) t h) (over s r)
leads StartOkSaid (f.Method zero (m.SecureOk response)) s t is r h = subst Reachable (same-speech s t h) r
leads StartOkSaid (f.Method zero (m.TuneOk a b c)) s t is r h = subst Reachable (same-speech (record s { stage = TuneOkSaid }) t h) (further s TuneOkSaid (ap is_early is) r)
leads StartOkSaid _ s t is r h = absurd cc
leads TuneOkSaid (f.Method zero m.CloseOk) s t is r h = subst Reachable (same-speech (record s { stage = CloseOkSaid }) t h) (over s r)
leads TuneOkSaid (f.Method zero (m.Open vhost)) s t is r h = subst Reachable (same-speech (record s { stage = OpenSaid }) t h) (further s OpenSaid (ap is_early is) r)
leads TuneOkSaid _ s t is r h = absurd cc
leads CloseSaid (f.Method zero m.CloseOk) s t is r h = subst Reachable (same-speech (record s { stage = CloseOkSaid }) t h) (over s r)
leads CloseSaid _ s t is r h = absurd cc
leads CloseOkSaid g s t is r h = absurd cc
leads OpenSaid (f.Raw k raw.Header head) s t is r h =
    let at = heads s.content k head s t refl h in
    subst Reachable (sym at.is) (in-body s k (body_size_in head) (ap is_early is) (r.method k at.class at.before).0)
leads OpenSaid (f.Raw k raw.Body body) s t is r h =
    let at = carries s.content k body s t refl h in
    subst Reachable (sym at.is) (in-body s k at.left (ap is_early is) (r.body k at.missing at.before))
leads OpenSaid (f.Raw k raw.RawMethod method) s t is r h = blocks (f.Raw k raw.RawMethod method) s t is (in-content-block s.content (f.Raw k raw.RawMethod method) s t refl h)
leads OpenSaid (f.Method (suc k) method) s t is r h = blocks (f.Method (suc k) method) s t is (in-content-block s.content (f.Method (suc k) method) s t refl h)
leads OpenSaid (f.ProtocolHeader v) s t is r h = blocks (f.ProtocolHeader v) s t is (in-content-block s.content (f.ProtocolHeader v) s t refl h)
leads OpenSaid f.Heartbeat s t is r h = blocks f.Heartbeat s t is (in-content-block s.content f.Heartbeat s t refl h)
leads OpenSaid (f.Method zero method) s t is r h = by method h where
  by : (method : _) → in_stage OpenSaid (f.Method 0 method) s ≡ Some t → Reachable t
  by m.CloseOk h = subst Reachable (same-speech (record s { stage = CloseOkSaid }) t h) (over s r)
  by other h = blocks (f.Method 0 other) s t is (in-content-block s.content (f.Method 0 other) s t refl h)

pub reached-more : (g : Frame) (s t : Speech) → Reachable s → say g s ≡ Some t → Reachable t
reached-more g s t r h = leads s.stage g s t refl r h

pub reached-all : (frames : List Frame) (s t : Speech) → Reachable s → say_all (Some s) frames ≡ Some t → Reachable t
reached-all [] s t r h = subst Reachable (same-speech s t h) r
reached-all (g ∷ frames) s t r h = by (say g s) refl (λ next. reached-all frames next t) where
  by : (o : Option Speech) → say g s ≡ o → ((next : Speech) → Reachable next → say_all (Some next) frames ≡ Some t → Reachable t) → Reachable t
  by None is rest = absurd (let none : say_all (say g s) frames ≡ None = ap (λ o. say_all o frames) is in let both = sym none ∙ h in cc)
  by (Some next) is rest = rest next (reached-more g s next r is) (sym (ap (λ o. say_all o frames) is) ∙ h)
