-- Where it is known which content may go on: what a conversation that fits may say is taken, and it fits then.
use Rattle.std.proofs.Common.{◌≡◌, ◌≢◌, ◌⊎◌, inl, inr, ◌∙◌, ap, ap₂, sym, refl, subst, ℕ, zero, suc, ◌==◌, Bool, true, false, Option, Some, None, option_map, arith}
use Rattle.std.proofs.lemmas.Bool.Decides.{nat_tests}
use Rattle.std.proofs.lemmas.Bool.{cases_eq}
use Rattle.amqp_frame.specs.declared.frame.Frame.{Frame}
use Rattle.amqp_frame.specs.declared.frame.Frame.TheVariants as f
use Rattle.amqp_frame.specs.declared.frame.RawKind.TheVariants as raw
use Rattle.amqp_frame.specs.declared.method.Method.TheVariants as m
use Rattle.amqp_legal.specs.Decider.{Speech, say, with_usage, is_passed_through}
use Rattle.amqp_legal.specs.declared.progress.Stage.{Stage}
use Rattle.amqp_legal.specs.declared.progress.Stage.TheVariants.{HeaderSaid, StartOkSaid, TuneOkSaid, OpenSaid, CloseSaid, CloseOkSaid}
use Rattle.amqp_legal.specs.declared.progress.Content.{Content}
use Rattle.amqp_legal.specs.declared.progress.Content.TheVariants.{NoContent}
use Rattle.amqp_legal.specs.declared.progress.Usage.{Usage}
use Rattle.amqp_legal.specs.declared.progress.Usage.TheVariants.{Shut, InUse, Left}
use Rattle.amqp_types.proofs.Small.{if-true, if-false}
use Rattle.amqp_resumed.specs.declared.resumed.Heard.TheVariants as heard
use Rattle.amqp_resumed.specs.Resumes.{Late, FitsHeard, channel_used, may_say_method, with_known, said_as, said_or_same, opened_before, opens_channel, first_method, first_if, say_on, say_known}
use Rattle.amqp_resumed.proofs.Using.{with_usages, other-said, own-usage, other-usage, usage_after, content_after, used_as, method-said}
use Rattle.amqp_resumed.proofs.Resuming.{alive}

-- what was heard, where the content is known
abbrev pub heard_of : (ℕ → Bool) → Speech → Late
heard_of known s = record { heard = heard.Frames; said = s; known = known }

-- a conversation that fits and goes on differs by its usages alone
same-but : (known : ℕ → Bool) (s0 s : Speech) → s.stage ≢ CloseOkSaid → FitsHeard (heard_of known s0) s → s ≡ with_usages s.usage s0
same-but known s0 s going h = ap₂ (λ st c. record { stage = st; usage = s.usage; content = c }) h.stage (h.content going)

one-answer : (s t : Speech) (o : Option Speech) → o ≡ Some s → o ≡ Some t → s ≡ t
one-answer s t o h k = let same : Some s ≡ Some t = sym h ∙ k in cc

-- ---- a frame that is no method on a channel

other-keeps : (g : Frame) (s0 t : Speech) → channel_used g ≡ None → say g s0 ≡ Some t → t.usage ≡ s0.usage
other-keeps g s0 t other h =
    let again : say g s0 ≡ Some (with_usages s0.usage t) = other-said g s0 s0.usage other ∙ ap (option_map (with_usages s0.usage)) h in
    ap (λ (s : Speech). s.usage) (one-answer t (with_usages s0.usage t) (say g s0) h again)

pub fits-other : (g : Frame) (known : ℕ → Bool) (s0 t0 s t : Speech) → channel_used g ≡ None → say g s0 ≡ Some t0 → FitsHeard (heard_of known s0) s → say g s ≡ Some t
    → FitsHeard (heard_of known t0) t
fits-other g known s0 t0 s t other h fits said =
    let going : s0.stage ≢ CloseOkSaid = alive g s0 t0 h in
    let kept : t0.usage ≡ s0.usage = other-keeps g s0 t0 other h in
    let going' : s.stage ≢ CloseOkSaid = alive g s t said in
    let from : say g s ≡ Some (with_usages s.usage t0) = ap (say g) (same-but known s0 s going' fits) ∙ other-said g s0 s.usage other ∙ ap (option_map (with_usages s.usage)) h in
    let is : t ≡ with_usages s.usage t0 = one-answer t (with_usages s.usage t0) (say g s) said from in
    record {
      stage = ap (λ (x : Speech). x.stage) is;
      content = λ on. ap (λ (x : Speech). x.content) is;
      usage = λ on n sure. ap (λ (x : Speech). x.usage n) is ∙ fits.usage going' n sure ∙ sym (ap (λ (v : ℕ → Usage). v n) kept);
    }

pub refused-other : (g : Frame) (known : ℕ → Bool) (s0 s t : Speech) → channel_used g ≡ None → say g s0 ≡ None → FitsHeard (heard_of known s0) s → say g s ≡ Some t → ⊥
refused-other g known s0 s t other none fits said =
    let from : say g s ≡ None = ap (say g) (same-but known s0 s (alive g s t said) fits) ∙ other-said g s0 s.usage other ∙ ap (option_map (with_usages s.usage)) none in
    cc

-- ---- a method on a channel

-- what it says where it may be said
said-on : (g : Frame) (n : ℕ) (s : Speech) (u : Usage) → channel_used g ≡ Some n → may_say_method s.stage s.content ≡ true → usage_after g (s.usage n) ≡ Some u
    → say g s ≡ Some (used_as n (content_after g) s u)
said-on g n s u used may after =
    method-said g n s used ∙ if-true (may_say_method s.stage s.content) (option_map (used_as n (content_after g) s) (usage_after g (s.usage n))) None may
    ∙ ap (option_map (used_as n (content_after g) s)) after

-- and where it may be, by the usage of the channel
record SaidOn (g : Frame) (n : ℕ) (s t : Speech) : Type 0 where
  may : may_say_method s.stage s.content ≡ true
  usage : Usage
  after : usage_after g (s.usage n) ≡ Some usage
  is : t ≡ used_as n (content_after g) s usage

mapped-on : (n : ℕ) (c : Content) (s t : Speech) (o : Option Usage) → option_map (used_as n c s) o ≡ Some t → (u : Usage) × (o ≡ Some u) × (t ≡ used_as n c s u)
mapped-on n c s t None h = absurd cc
mapped-on n c s t (Some u) h = (u, refl, let same : used_as n c s u ≡ t = cc in sym same)

on-said : (g : Frame) (n : ℕ) (s t : Speech) → channel_used g ≡ Some n → say g s ≡ Some t → SaidOn g n s t
on-said g n s t used h = by (may_say_method s.stage s.content) refl where
  by : (b : Bool) → may_say_method s.stage s.content ≡ b → SaidOn g n s t
  by true is =
      let all = option_map (used_as n (content_after g) s) (usage_after g (s.usage n)) in
      let m = mapped-on n (content_after g) s t (usage_after g (s.usage n)) (sym (if-true (may_say_method s.stage s.content) all None is) ∙ sym (method-said g n s used) ∙ h) in
      record { may = is; usage = m.0; after = m.1; is = m.2 }
  by false is =
      absurd (
      let none : say g s ≡ None = method-said g n s used ∙ if-false (may_say_method s.stage s.content) (option_map (used_as n (content_after g) s) (usage_after g (s.usage n))) None is in
      cc
      )

-- a method leaves its channel in one usage, whatever that was before
after-one : (g : Frame) (u v x y : Usage) → usage_after g u ≡ Some x → usage_after g v ≡ Some y → x ≡ y
after-one (f.Method n m.ChannelOpen) u v x y h k = opened_before u v h k where
  opened_before : (u v : Usage) → usage_after (f.Method n m.ChannelOpen) u ≡ Some x → usage_after (f.Method n m.ChannelOpen) v ≡ Some y → x ≡ y
  opened_before Shut Shut a b = cc
  opened_before Shut Left a b = cc
  opened_before Left Shut a b = cc
  opened_before Left Left a b = cc
  opened_before InUse v a b = absurd cc
  opened_before u InUse a b = absurd cc
after-one (f.Method n (m.ChannelClose code text class method)) InUse InUse x y h k = cc
after-one (f.Method n (m.ChannelClose code text class method)) u v x y h k = absurd cc
after-one (f.Method n m.ChannelCloseOk) u v x y h k = closed u v h k where
  closed : (u v : Usage) → usage_after (f.Method n m.ChannelCloseOk) u ≡ Some x → usage_after (f.Method n m.ChannelCloseOk) v ≡ Some y → x ≡ y
  closed InUse InUse a b = cc
  closed InUse Left a b = cc
  closed Left InUse a b = cc
  closed Left Left a b = cc
  closed Shut v a b = absurd cc
  closed u Shut a b = absurd cc
after-one (f.Method n (m.ChannelFlow active)) InUse InUse x y h k = cc
after-one (f.Method n (m.ChannelFlow active)) u v x y h k = absurd cc
after-one (f.Method n (m.ChannelFlowOk active)) InUse InUse x y h k = cc
after-one (f.Method n (m.ChannelFlowOk active)) u v x y h k = absurd cc
after-one (f.Raw n raw.RawMethod method) InUse InUse x y h k = cc
after-one (f.Raw n raw.RawMethod method) u v x y h k = absurd cc
after-one g u v x y h k = absurd cc

-- what a method on channel n leaves, by some usage before it: `pre` is one, and the one that was where that is known
pub record Leaves (g : Frame) (n : ℕ) (known known' : ℕ → Bool) (s0 t0 : Speech) : Type 0 where
  pub pre : Usage
  pub after : usage_after g pre ≡ Some (t0.usage n)
  pub was : known n ≡ true → s0.usage n ≡ pre
  pub stage : t0.stage ≡ s0.stage
  pub content : t0.content ≡ content_after g
  pub others : (k : ℕ) → n ≢ k → t0.usage k ≡ s0.usage k
  pub same : (k : ℕ) → n ≢ k → known' k ≡ true → known k ≡ true

use-fits : (g : Frame) (n : ℕ) (known known' : ℕ → Bool) (s0 t0 s t : Speech) → channel_used g ≡ Some n → Leaves g n known known' s0 t0
    → FitsHeard (heard_of known s0) s → say g s ≡ Some t → FitsHeard (heard_of known' t0) t
use-fits g n known known' s0 t0 s t used l fits said =
    let on = on-said g n s t used said in
    let going : s.stage ≢ CloseOkSaid = alive g s t said in
    record {
      stage = ap (λ (x : Speech). x.stage) on.is ∙ fits.stage ∙ sym l.stage;
      content = λ over. ap (λ (x : Speech). x.content) on.is ∙ sym l.content;
      usage = λ over j sure. ap (λ (x : Speech). x.usage j) on.is ∙ by going on.usage on.after j sure (cases_eq n j);
    } where
      by : s.stage ≢ CloseOkSaid → (u : Usage) → usage_after g (s.usage n) ≡ Some u → (j : ℕ) → known' j ≡ true → (n ≡ j) ⊎ (n ≢ j) → with_usage n u s.usage j ≡ t0.usage j
      by going u after j sure (inl e) =
          subst (λ (i : ℕ). with_usage n u s.usage i ≡ t0.usage i) e (own-usage n u s.usage ∙ after-one g (s.usage n) l.pre u (t0.usage n) after l.after)
      by going u after j sure (inr ne) = other-usage n j u s.usage ne ∙ fits.usage going j (l.same j ne sure) ∙ sym (l.others j ne)

-- where no method may be said, none is on any channel
pub refused-use : (g : Frame) (n : ℕ) (known : ℕ → Bool) (s0 s t : Speech) → channel_used g ≡ Some n → may_say_method s0.stage s0.content ≡ false
    → FitsHeard (heard_of known s0) s → say g s ≡ Some t → ⊥
refused-use g n known s0 s t used none fits said =
    let on = on-said g n s t used said in
    let going : s.stage ≢ CloseOkSaid = alive g s t said in
    let same : may_say_method s.stage s.content ≡ false = ap₂ may_say_method fits.stage (fits.content going) ∙ none in
    let both : true ≡ false = sym on.may ∙ same in
    cc

-- nor is one where the usage of its channel is known and forbids it
pub refused-known : (g : Frame) (n : ℕ) (known : ℕ → Bool) (s0 s t : Speech) → channel_used g ≡ Some n → known n ≡ true → say g s0 ≡ None
    → FitsHeard (heard_of known s0) s → say g s ≡ Some t → ⊥
refused-known g n known s0 s t used sure none fits said =
    let on = on-said g n s t used said in
    let going : s.stage ≢ CloseOkSaid = alive g s t said in
    let may : may_say_method s0.stage s0.content ≡ true = sym (ap₂ may_say_method fits.stage (fits.content going)) ∙ on.may in
    let after : usage_after g (s0.usage n) ≡ Some on.usage = ap (usage_after g) (sym (fits.usage going n sure)) ∙ on.after in
    let some : say g s0 ≡ Some (used_as n (content_after g) s0 on.usage) = said-on g n s0 on.usage used may after in
    cc

-- ---- it is taken

-- a channel that is not known is not open in the conversation that is kept
abbrev pub UnknownShut : (ℕ → Bool) → Speech → Type 0
UnknownShut known s = (n : ℕ) → known n ≡ false → s.usage n ≡ Shut

-- a frame is taken, and a conversation that said it fits then
pub record Takes (next : Option Late) (t : Speech) : Type 0 where
  pub known : ℕ → Bool
  pub said : Speech
  pub is : next ≡ Some (heard_of known said)
  pub fits : FitsHeard (heard_of known said) t
  pub shut : UnknownShut known said

take-other : (g : Frame) (known : ℕ → Bool) (s0 s t : Speech) → channel_used g ≡ None → UnknownShut known s0 → FitsHeard (heard_of known s0) s → say g s ≡ Some t
    → Takes (said_as (heard_of known s0) (say g s0)) t
take-other g known s0 s t other shut fits said = by (say g s0) refl where
  by : (o : Option Speech) → say g s0 ≡ o → Takes (said_as (heard_of known s0) (say g s0)) t
  by None is = absurd (refused-other g known s0 s t other is fits said)
  by (Some t0) is = record {
    known = known;
    said = t0;
    is = ap (said_as (heard_of known s0)) is;
    fits = fits-other g known s0 t0 s t other is fits said;
    shut = λ n unlike. ap (λ (v : ℕ → Usage). v n) (other-keeps g s0 t0 other is) ∙ shut n unlike;
  }

true-false : {A : Type 0} (b : Bool) → b ≡ true → b ≡ false → A
true-false {A} b h k = absurd (let both : true ≡ false = sym h ∙ k in cc)

take-known : (g : Frame) (n : ℕ) (known : ℕ → Bool) (s0 s t : Speech) → channel_used g ≡ Some n → known n ≡ true → UnknownShut known s0 → FitsHeard (heard_of known s0) s → say g s ≡ Some t
    → Takes (said_as (heard_of known s0) (say g s0)) t
take-known g n known s0 s t used sure shut fits said = by (say g s0) refl where
  leaves : (t0 : Speech) → say g s0 ≡ Some t0 → Leaves g n known known s0 t0
  leaves t0 is =
      let on = on-said g n s0 t0 used is in
      record {
        pre = s0.usage n;
        after = on.after ∙ ap (λ (u : Usage). Some u) (sym (ap (λ (x : Speech). x.usage n) on.is ∙ own-usage n on.usage s0.usage));
        was = λ h. refl;
        stage = ap (λ (x : Speech). x.stage) on.is;
        content = ap (λ (x : Speech). x.content) on.is;
        others = λ k ne. ap (λ (x : Speech). x.usage k) on.is ∙ other-usage n k on.usage s0.usage ne;
        same = λ k ne h. h;
      }

  still : (t0 : Speech) → Leaves g n known known s0 t0 → (k : ℕ) → known k ≡ false → (n ≡ k) ⊎ (n ≢ k) → t0.usage k ≡ Shut
  still t0 l k unlike (inl e) = true-false (known k) (subst (λ (i : ℕ). known i ≡ true) e sure) unlike
  still t0 l k unlike (inr ne) = l.others k ne ∙ shut k unlike

  by : (o : Option Speech) → say g s0 ≡ o → Takes (said_as (heard_of known s0) (say g s0)) t
  by None is = absurd (refused-known g n known s0 s t used sure is fits said)
  by (Some t0) is =
      let l = leaves t0 is in
      record {
        known = known;
        said = t0;
        is = ap (said_as (heard_of known s0)) is;
        fits = use-fits g n known known s0 t0 s t used l fits said;
        shut = λ k unlike. still t0 l k unlike (cases_eq n k);
      }

-- ---- the first method on a channel

after-shut : (g : Frame) → opens_channel g ≡ true → usage_after g Shut ≡ Some InUse
after-shut (f.Method n m.ChannelOpen) h = refl
after-shut (f.Method n _) h = absurd cc
after-shut (f.Raw n kind payload) h = absurd cc
after-shut (f.ProtocolHeader v) h = absurd cc
after-shut f.Heartbeat h = absurd cc

after-in-use : (g : Frame) (u x : Usage) → opens_channel g ≡ false → usage_after g u ≡ Some x → (y : Usage) × (usage_after g InUse ≡ Some y)
after-in-use (f.Method n m.ChannelOpen) u x h k = absurd cc
after-in-use (f.Method n (m.ChannelClose code text class method)) u x h k = (Left, refl)
after-in-use (f.Method n m.ChannelCloseOk) u x h k = (Shut, refl)
after-in-use (f.Method n (m.ChannelFlow active)) u x h k = (InUse, refl)
after-in-use (f.Method n (m.ChannelFlowOk active)) u x h k = (InUse, refl)
after-in-use (f.Raw n raw.RawMethod method) u x h k = (InUse, refl)
after-in-use g u x h k = absurd cc

may-none : (st : Stage) (c : Content) → may_say_method st c ≡ true → may_say_method st NoContent ≡ true
may-none OpenSaid c h = refl
may-none HeaderSaid c h = absurd cc
may-none StartOkSaid c h = absurd cc
may-none TuneOkSaid c h = absurd cc
may-none CloseSaid c h = absurd cc
may-none CloseOkSaid c h = absurd cc

used-above : (g : Frame) (n : ℕ) → channel_used g ≡ Some n → (k : ℕ) × (n ≡ suc k)
used-above g zero h = absurd (none g h) where
  none : (g : Frame) → channel_used g ≡ Some 0 → ⊥
  none (f.Method zero method) k = by method k where
    by : (method : _) → channel_used (f.Method 0 method) ≡ Some 0 → ⊥
    by _ k = cc
  none (f.Method (suc j) m.ChannelOpen) k = cc
  none (f.Method (suc j) (m.ChannelFlow active)) k = cc
  none (f.Method (suc j) (m.ChannelFlowOk active)) k = cc
  none (f.Method (suc j) (m.ChannelClose code text class method)) k = cc
  none (f.Method (suc j) m.ChannelCloseOk) k = cc
  none (f.Method (suc j) _) k = cc
  none (f.Raw zero kind payload) k = by kind k where
    by : (kind : _) → channel_used (f.Raw 0 kind payload) ≡ Some 0 → ⊥
    by _ k = cc
  none (f.Raw (suc j) raw.RawMethod method) k = by (is_passed_through method) refl where
    by : (b : Bool) → is_passed_through method ≡ b → ⊥
    by true is = let same = sym (if-true (is_passed_through method) (Some (suc j)) None is) ∙ k in cc
    by false is = let same = sym (if-false (is_passed_through method) (Some (suc j)) None is) ∙ k in cc
  none (f.Raw (suc j) raw.Header head) k = cc
  none (f.Raw (suc j) raw.Body body) k = cc
  none (f.ProtocolHeader v) k = cc
  none f.Heartbeat k = cc
used-above g (suc k) h = (k, refl)

now-known : (n : ℕ) (known : ℕ → Bool) (k : ℕ) → n ≢ k → with_known n known k ≡ known k
now-known n known k ne = by (k == n) refl where
  by : (b : Bool) → (k == n) ≡ b → with_known n known k ≡ known k
  by true is = absurd (ne (let e : k ≡ n = grind (arith, nat_tests) in sym e))
  by false is = if-false (k == n) true (known k) is

own-known : (n : ℕ) (known : ℕ → Bool) → with_known n known n ≡ true
own-known n known = if-true (n == n) true (known n) (let same : (n == n) ≡ true = grind (arith, nat_tests) in same)

module _ (g : Frame) (k : ℕ) (known : ℕ → Bool) (s0 s t : Speech) (used : channel_used g ≡ Some (suc k)) (unlike : known (suc k) ≡ false) (may : may_say_method s0.stage s0.content ≡ true) (shut : UnknownShut known s0)
    (fits : FitsHeard (heard_of known s0) s) (said : say g s ≡ Some t) where
  abbrev l0 : Late
  l0 = heard_of known s0

  abbrev known' : ℕ → Bool
  known' = with_known (suc k) known

  -- what is kept of a method by which the channel, which was not open, is in this usage
  first-taken : (t0 : Speech) (pre : Usage) → usage_after g pre ≡ Some (t0.usage (suc k)) → t0.stage ≡ s0.stage → t0.content ≡ content_after g
      → ((j : ℕ) → suc k ≢ j → t0.usage j ≡ s0.usage j) → first_method (suc k) g l0 ≡ Some (heard_of known' t0) → Takes (first_method (suc k) g l0) t
  first-taken t0 pre after stage content others is = record {
    known = known';
    said = t0;
    is = is;
    fits =
        use-fits g (suc k) known known' s0 t0 s t used (
        record {
          pre = pre;
          after = after;
          was = λ sure. true-false (known (suc k)) sure unlike;
          stage = stage;
          content = content;
          others = others;
          same = λ j ne h. sym (now-known (suc k) known j ne) ∙ h;
        }) fits said;
    shut = λ j none. by j none (cases_eq (suc k) j);
  } where
    by : (j : ℕ) → known' j ≡ false → (suc k ≡ j) ⊎ (suc k ≢ j) → t0.usage j ≡ Shut
    by j none (inl e) = true-false (known' j) (subst (λ (i : ℕ). known' i ≡ true) e (own-known (suc k) known)) none
    by j none (inr ne) = others j ne ∙ shut j (sym (now-known (suc k) known j ne) ∙ none)

  opens : opens_channel g ≡ true → Takes (first_method (suc k) g l0) t
  opens is =
      let t0 : Speech = used_as (suc k) (content_after g) s0 InUse in
      let after : usage_after g Shut ≡ Some InUse = after-shut g is in
      let says : say g s0 ≡ Some t0 = said-on g (suc k) s0 InUse used may (ap (usage_after g) (shut (suc k) unlike) ∙ after) in
      let l1 : Late = record l0 { known = known' } in
      first-taken t0 Shut (after ∙ ap (λ (u : Usage). Some u) (sym (own-usage (suc k) InUse s0.usage))) refl refl (λ j ne. other-usage (suc k) j InUse s0.usage ne)
      (if-true (opens_channel g) (said_as l1 (say g l0.said)) (said_as (opened_before (suc k) l0) (say g (opened_before (suc k) l0).said)) is ∙ ap (said_as l1) says)

  goes-on : opens_channel g ≡ false → Takes (first_method (suc k) g l0) t
  goes-on is =
      let on = on-said g (suc k) s t used said in
      let there = after-in-use g (s.usage (suc k)) on.usage is on.after in
      let y = there.0 in
      let opening : Frame = f.Method (suc k) m.ChannelOpen in
      let s1 : Speech = used_as (suc k) NoContent s0 InUse in
      let t0 : Speech = used_as (suc k) (content_after g) s1 y in
      let begun : say opening s0 ≡ Some s1 = said-on opening (suc k) s0 InUse refl may (ap (usage_after opening) (shut (suc k) unlike)) in
      let own : s1.usage (suc k) ≡ InUse = own-usage (suc k) InUse s0.usage in
      let says : say g s1 ≡ Some t0 = said-on g (suc k) s1 y used (may-none s0.stage s0.content may) (ap (usage_after g) own ∙ there.1) in
      let kept : (opened_before (suc k) l0).said ≡ s1 = ap (λ (o : Option Speech). said_or_same o s0) begun in
      let l1 : Late = record l0 { known = known' } in
      first-taken t0 InUse (there.1 ∙ ap (λ (u : Usage). Some u) (sym (own-usage (suc k) y s1.usage))) refl refl
      (λ j ne. other-usage (suc k) j y s1.usage ne ∙ other-usage (suc k) j InUse s0.usage ne)
      (if-false (opens_channel g) (said_as l1 (say g l0.said)) (said_as (opened_before (suc k) l0) (say g (opened_before (suc k) l0).said)) is
      ∙ ap (λ (x : Speech). said_as (opened_before (suc k) l0) (say g x)) kept ∙ ap (said_as (opened_before (suc k) l0)) says)

  take-first : Takes (first_method (suc k) g l0) t
  take-first = by (opens_channel g) refl where
    by : (b : Bool) → opens_channel g ≡ b → Takes (first_method (suc k) g l0) t
    by true is = opens is
    by false is = goes-on is

-- ---- any frame

take-used : (g : Frame) (n : ℕ) (known : ℕ → Bool) (s0 s t : Speech) → channel_used g ≡ Some n → UnknownShut known s0 → FitsHeard (heard_of known s0) s → say g s ≡ Some t
    → Takes (say_on (Some n) g (heard_of known s0)) t
take-used g n known s0 s t used shut fits said = by (known n) refl where
  may-by : (b : Bool) → may_say_method s0.stage s0.content ≡ b → known n ≡ false → Takes (first_if n g (heard_of known s0)) t
  may-by false is unlike = absurd (refused-use g n known s0 s t used is fits said)
  may-by true is unlike =
      let k = used-above g n used in
      let first : Takes (first_method (suc k.0) g (heard_of known s0)) t =
      take-first g k.0 known s0 s t (used ∙ ap (λ (i : ℕ). Some i) k.1) (subst (λ (i : ℕ). known i ≡ false) k.1 unlike) is shut fits said in
      subst (λ (o : Option Late). Takes o t) (sym (if-true (may_say_method s0.stage s0.content) (first_method n g (heard_of known s0)) None is))
      (subst (λ (i : ℕ). Takes (first_method i g (heard_of known s0)) t) (sym k.1) first)

  by : (b : Bool) → known n ≡ b → Takes (say_on (Some n) g (heard_of known s0)) t
  by true sure =
      subst (λ (o : Option Late). Takes o t) (sym (if-true (known n) (said_as (heard_of known s0) (say g s0)) (first_if n g (heard_of known s0)) sure))
      (take-known g n known s0 s t used sure shut fits said)
  by false unlike =
      subst (λ (o : Option Late). Takes o t) (sym (if-false (known n) (said_as (heard_of known s0) (say g s0)) (first_if n g (heard_of known s0)) unlike))
      (may-by (may_say_method s0.stage s0.content) refl unlike)

pub take-frame : (g : Frame) (known : ℕ → Bool) (s0 s t : Speech) → UnknownShut known s0 → FitsHeard (heard_of known s0) s → say g s ≡ Some t → Takes (say_known g (heard_of known s0)) t
take-frame g known s0 s t shut fits said = by (channel_used g) refl where
  by : (u : Option ℕ) → channel_used g ≡ u → Takes (say_known g (heard_of known s0)) t
  by None is = subst (λ (u : Option ℕ). Takes (say_on u g (heard_of known s0)) t) (sym is) (take-other g known s0 s t is shut fits said)
  by (Some n) is = subst (λ (u : Option ℕ). Takes (say_on u g (heard_of known s0)) t) (sym is) (take-used g n known s0 s t is shut fits said)
