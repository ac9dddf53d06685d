-- The first frame that is heard is taken where some conversation may say it; and so is each that follows.
use Rattle.std.proofs.Common.{◌≡◌, ◌≢◌, ◌⊎◌, inl, inr, ◌∙◌, ap, sym, refl, subst, ℕ, zero, suc, ◌==◌, ◌&&◌, not, nat_le, Bool, true, false, List, [], ◌∷◌, ◌++◌, length, Option, Some, None, option_map, is_some, arith}
use Rattle.std.proofs.lemmas.Bool.Decides.{nat_tests}
use Rattle.std.proofs.lemmas.Bool.{cases_eq}
use Rattle.amqp_frame.specs.declared.frame.Frame.{Frame}
use Rattle.amqp_frame.specs.declared.frame.Frame.TheVariants as f
use Rattle.amqp_frame.specs.declared.frame.RawKind.TheVariants as raw
use Rattle.amqp_frame.specs.declared.method.Method.TheVariants as m
use Rattle.amqp_legal.specs.Legal.{Legal}
use Rattle.amqp_legal.specs.Octets.{class_in, weight_in, body_size_in}
use Rattle.amqp_legal.specs.Decider.{Speech, greeted, say, say_all, say_block, in_stage, is_amqp_header, with_usage}
use Rattle.amqp_legal.specs.declared.progress.Stage.{Stage}
use Rattle.amqp_legal.specs.declared.progress.Stage.TheVariants.{HeaderSaid, StartOkSaid, TuneOkSaid, OpenSaid, CloseSaid, CloseOkSaid}
use Rattle.amqp_legal.specs.declared.progress.Content.TheVariants.{NoContent}
use Rattle.amqp_legal.specs.declared.progress.Usage.TheVariants.{Shut, InUse}
use Rattle.amqp_legal.proofs.Saying.{all-said}
use Rattle.amqp_legal.proofs.Sayable.{say-append, front-said}
use Rattle.amqp_types.proofs.Small.{if-true, if-false, and-left, and-right, and-true}
use Rattle.amqp_resumed.specs.declared.resumed.Heard.{Heard}
use Rattle.amqp_resumed.specs.declared.resumed.Heard.TheVariants as heard
use Rattle.amqp_resumed.specs.Rests.{IsTakenLate}
use Rattle.amqp_resumed.specs.Resumes.{Late, heard_nothing, FitsHeard, HasContent, with_known, said_each, say_known, past_content, bare_start_ok, bare_tune_ok, bare_open, led_by, led, whole_on, introduce, is_of_introduction, missing_behind, content_begun, say_within, say_first, say_late, say_each_late}
use Rattle.amqp_resumed.proofs.Using.{own-usage, other-usage}
use Rattle.amqp_resumed.proofs.Behind.{is_apart, in-content-block, open-stage}
use Rattle.amqp_resumed.proofs.Reachable.{is_early, at_stage, Reachable, raw-open, headed, carried, begins, reached-all}
use Rattle.amqp_resumed.proofs.Advancing.{heard_of, UnknownShut}
use Rattle.amqp_resumed.proofs.Taking.{TakesLate, IsWithin, late_with, apart-left, close-left, take-next}

-- ---- in the introduction

-- a conversation of which all is known fits itself
whole : (s : Speech) → TakesLate (whole_on heard_nothing (Some s)) s
whole s = record {
  late = heard_of (λ n. true) s;
  is = refl;
  fits = record { stage = refl; content = λ going. refl; usage = λ going n sure. refl };
  shut = λ n unset. absurd cc;
  within = tt;
}

-- a part of a content, our close-ok and what stands in the introduction apart, a frame is said once the connection is opened
only-open : (st : Stage) (g : Frame) (s t : Speech) → is_apart g ≡ false → is_of_introduction g ≡ false → in_stage st g s ≡ Some t → st ≡ OpenSaid
only-open OpenSaid g s t a i h = refl
only-open HeaderSaid (f.Method zero m.CloseOk) s t a i h = absurd cc
only-open HeaderSaid (f.Method zero (m.StartOk p q r u)) s t a i h = absurd cc
only-open HeaderSaid _ s t a i h = absurd cc
only-open StartOkSaid (f.Method zero m.CloseOk) s t a i h = absurd cc
only-open StartOkSaid (f.Method zero (m.SecureOk response)) s t a i h = absurd cc
only-open StartOkSaid (f.Method zero (m.TuneOk p q r)) s t a i h = absurd cc
only-open StartOkSaid _ s t a i h = absurd cc
only-open TuneOkSaid (f.Method zero m.CloseOk) s t a i h = absurd cc
only-open TuneOkSaid (f.Method zero (m.Open vhost)) s t a i h = absurd cc
only-open TuneOkSaid _ s t a i h = absurd cc
only-open CloseSaid (f.Method zero m.CloseOk) s t a i h = absurd cc
only-open CloseSaid _ s t a i h = absurd cc
only-open CloseOkSaid g s t a i h = absurd cc

-- what stands in the introduction is said in it alone
no-block : (g : Frame) (s : Speech) → is_of_introduction g ≡ true → say_block g s ≡ None
no-block (f.ProtocolHeader v) s i = refl
no-block (f.Method zero (m.StartOk p q r u)) s i = refl
no-block (f.Method zero (m.SecureOk response)) s i = refl
no-block (f.Method zero (m.TuneOk p q r)) s i = refl
no-block (f.Method zero (m.Open vhost)) s i = refl
no-block (f.Method zero _) s i = absurd cc
no-block (f.Method (suc k) method) s i = absurd cc
no-block (f.Raw k kind payload) s i = absurd cc
no-block f.Heartbeat s i = absurd cc

not-apart : (g : Frame) → is_of_introduction g ≡ true → is_apart g ≡ false
not-apart (f.ProtocolHeader v) i = refl
not-apart (f.Method zero (m.StartOk p q r u)) i = refl
not-apart (f.Method zero (m.SecureOk response)) i = refl
not-apart (f.Method zero (m.TuneOk p q r)) i = refl
not-apart (f.Method zero (m.Open vhost)) i = refl
not-apart (f.Method zero _) i = absurd cc
not-apart (f.Method (suc k) method) i = absurd cc
not-apart (f.Raw k kind payload) i = absurd cc
not-apart f.Heartbeat i = absurd cc

only-early : (st : Stage) (g : Frame) (s t : Speech) → is_of_introduction g ≡ true → in_stage st g s ≡ Some t → is_early st ≡ true
only-early HeaderSaid g s t i h = refl
only-early StartOkSaid g s t i h = refl
only-early TuneOkSaid g s t i h = refl
only-early OpenSaid g s t i h =
    let apart = not-apart g i in
    let block = in-content-block s.content g s t apart (sym (open-stage g s apart) ∙ h) in
    let both = sym block ∙ no-block g s i in
    absurd cc
only-early CloseSaid (f.ProtocolHeader v) s t i h = absurd cc
only-early CloseSaid (f.Method zero m.CloseOk) s t i h = absurd cc
only-early CloseSaid _ s t i h = absurd cc
only-early CloseOkSaid g s t i h = absurd cc

-- by the stage, which tells all of a conversation in the introduction
module _ (g : Frame) (s t : Speech) (r : Reachable s) (introduced : is_of_introduction g ≡ true) (said : say g s ≡ Some t) where
  early : is_early s.stage ≡ true
  early = only-early s.stage g s t introduced said

  as-at : (st : Stage) → s.stage ≡ st → say g (at_stage st) ≡ Some t
  as-at st is = ap (say g) (sym (r.early early ∙ ap at_stage is)) ∙ said

  -- it may not be said at this stage
  never : {A : Type 0} (st : Stage) → s.stage ≡ st → say g (at_stage st) ≡ None → A
  never {A} st is none = absurd (let both = sym none ∙ as-at st is in cc)

  late-stage : {A : Type 0} (st : Stage) → s.stage ≡ st → is_early st ≡ false → A
  late-stage {A} st is late = absurd (let both : true ≡ false = sym early ∙ ap is_early is ∙ late in cc)

  -- it leads from this stage to that
  to-stage : (st : Stage) → s.stage ≡ st → (x : Speech) → say g (at_stage st) ≡ Some x → say_first g heard_nothing ≡ whole_on heard_nothing (Some x) → TakesLate (say_first g heard_nothing) t
  to-stage st is x says next =
      let both : Some x ≡ Some t = sym says ∙ as-at st is in
      let equal : x ≡ t = cc in
      subst (λ (o : Option Late). TakesLate o t) (sym next) (subst (λ (y : Speech). TakesLate (whole_on heard_nothing (Some x)) y) equal (whole x))

take-introduced : (g : Frame) (s t : Speech) → Reachable s → is_of_introduction g ≡ true → say g s ≡ Some t → TakesLate (say_first g heard_nothing) t
take-introduced (f.ProtocolHeader v) s t r i said = by s.stage refl where
  by : (st : Stage) → s.stage ≡ st → TakesLate (say_first (f.ProtocolHeader v) heard_nothing) t
  by HeaderSaid is = never (f.ProtocolHeader v) s t r i said HeaderSaid is refl
  by StartOkSaid is = never (f.ProtocolHeader v) s t r i said StartOkSaid is refl
  by TuneOkSaid is = never (f.ProtocolHeader v) s t r i said TuneOkSaid is refl
  by OpenSaid is = late-stage (f.ProtocolHeader v) s t r i said OpenSaid is refl
  by CloseSaid is = late-stage (f.ProtocolHeader v) s t r i said CloseSaid is refl
  by CloseOkSaid is = late-stage (f.ProtocolHeader v) s t r i said CloseOkSaid is refl
take-introduced (f.Method zero (m.StartOk a b c d)) s t r i said = by s.stage refl where
  by : (st : Stage) → s.stage ≡ st → TakesLate (say_first (f.Method 0 (m.StartOk a b c d)) heard_nothing) t
  by HeaderSaid is = to-stage (f.Method 0 (m.StartOk a b c d)) s t r i said HeaderSaid is (at_stage StartOkSaid) refl refl
  by StartOkSaid is = never (f.Method 0 (m.StartOk a b c d)) s t r i said StartOkSaid is refl
  by TuneOkSaid is = never (f.Method 0 (m.StartOk a b c d)) s t r i said TuneOkSaid is refl
  by OpenSaid is = late-stage (f.Method 0 (m.StartOk a b c d)) s t r i said OpenSaid is refl
  by CloseSaid is = late-stage (f.Method 0 (m.StartOk a b c d)) s t r i said CloseSaid is refl
  by CloseOkSaid is = late-stage (f.Method 0 (m.StartOk a b c d)) s t r i said CloseOkSaid is refl
take-introduced (f.Method zero (m.SecureOk response)) s t r i said = by s.stage refl where
  by : (st : Stage) → s.stage ≡ st → TakesLate (say_first (f.Method 0 (m.SecureOk response)) heard_nothing) t
  by HeaderSaid is = never (f.Method 0 (m.SecureOk response)) s t r i said HeaderSaid is refl
  by StartOkSaid is = to-stage (f.Method 0 (m.SecureOk response)) s t r i said StartOkSaid is (at_stage StartOkSaid) refl refl
  by TuneOkSaid is = never (f.Method 0 (m.SecureOk response)) s t r i said TuneOkSaid is refl
  by OpenSaid is = late-stage (f.Method 0 (m.SecureOk response)) s t r i said OpenSaid is refl
  by CloseSaid is = late-stage (f.Method 0 (m.SecureOk response)) s t r i said CloseSaid is refl
  by CloseOkSaid is = late-stage (f.Method 0 (m.SecureOk response)) s t r i said CloseOkSaid is refl
take-introduced (f.Method zero (m.TuneOk a b c)) s t r i said = by s.stage refl where
  by : (st : Stage) → s.stage ≡ st → TakesLate (say_first (f.Method 0 (m.TuneOk a b c)) heard_nothing) t
  by HeaderSaid is = never (f.Method 0 (m.TuneOk a b c)) s t r i said HeaderSaid is refl
  by StartOkSaid is = to-stage (f.Method 0 (m.TuneOk a b c)) s t r i said StartOkSaid is (at_stage TuneOkSaid) refl refl
  by TuneOkSaid is = never (f.Method 0 (m.TuneOk a b c)) s t r i said TuneOkSaid is refl
  by OpenSaid is = late-stage (f.Method 0 (m.TuneOk a b c)) s t r i said OpenSaid is refl
  by CloseSaid is = late-stage (f.Method 0 (m.TuneOk a b c)) s t r i said CloseSaid is refl
  by CloseOkSaid is = late-stage (f.Method 0 (m.TuneOk a b c)) s t r i said CloseOkSaid is refl
take-introduced (f.Method zero (m.Open vhost)) s t r i said = by s.stage refl where
  by : (st : Stage) → s.stage ≡ st → TakesLate (say_first (f.Method 0 (m.Open vhost)) heard_nothing) t
  by HeaderSaid is = never (f.Method 0 (m.Open vhost)) s t r i said HeaderSaid is refl
  by StartOkSaid is = never (f.Method 0 (m.Open vhost)) s t r i said StartOkSaid is refl
  by TuneOkSaid is = to-stage (f.Method 0 (m.Open vhost)) s t r i said TuneOkSaid is (at_stage OpenSaid) refl refl
  by OpenSaid is = late-stage (f.Method 0 (m.Open vhost)) s t r i said OpenSaid is refl
  by CloseSaid is = late-stage (f.Method 0 (m.Open vhost)) s t r i said CloseSaid is refl
  by CloseOkSaid is = late-stage (f.Method 0 (m.Open vhost)) s t r i said CloseOkSaid is refl
take-introduced (f.Method zero _) s t r i said = absurd cc
take-introduced (f.Method (suc k) method) s t r i said = absurd cc
take-introduced (f.Raw k kind payload) s t r i said = absurd cc
take-introduced f.Heartbeat s t r i said = absurd cc

-- ---- behind the introduction

led-far : (g : Frame) → is_of_introduction g ≡ false → led_by g ≡ bare_start_ok ∷ bare_tune_ok ∷ bare_open ∷ []
led-far (f.ProtocolHeader v) i = absurd cc
led-far (f.Method zero (m.StartOk a b c d)) i = absurd cc
led-far (f.Method zero (m.SecureOk response)) i = absurd cc
led-far (f.Method zero (m.TuneOk a b c)) i = absurd cc
led-far (f.Method zero (m.Open vhost)) i = absurd cc
led-far (f.Method zero _) i = refl
led-far (f.Method (suc k) method) i = refl
led-far (f.Raw k kind payload) i = refl
led-far f.Heartbeat i = refl

no-content : (g : Frame) → is_apart g ≡ false → content_begun g ≡ None
no-content (f.Raw zero kind payload) a = by kind a where
  by : (kind : _) → is_apart (f.Raw 0 kind payload) ≡ false → content_begun (f.Raw 0 kind payload) ≡ None
  by raw.RawMethod a = refl
  by raw.Header a = absurd cc
  by raw.Body a = absurd cc
no-content (f.Raw (suc k) raw.RawMethod payload) a = refl
no-content (f.Raw (suc k) raw.Header payload) a = absurd cc
no-content (f.Raw (suc k) raw.Body payload) a = absurd cc
no-content (f.Method k method) a = refl
no-content (f.ProtocolHeader v) a = refl
no-content f.Heartbeat a = refl

led-open : (g : Frame) → is_of_introduction g ≡ false → led g heard_nothing ≡ late_with heard.Nothing (λ n. false) (at_stage OpenSaid)
led-open g i = ap (λ frames. record heard_nothing { said = said_each frames greeted }) (led-far g i)

take-far : (g : Frame) (s t : Speech) → is_apart g ≡ false → is_of_introduction g ≡ false → say g s ≡ Some t → TakesLate (say_first g heard_nothing) t
take-far g s t a i said =
    let staged = only-open s.stage g s t a i said in
    let fits : FitsHeard (late_with heard.Nothing (λ n. false) (at_stage OpenSaid)) s = record { stage = staged; content = λ going. tt; usage = λ going n sure. absurd cc } in
    let takes = apart-left g heard.Nothing (λ n. false) (at_stage OpenSaid) s t a (λ n unset. refl) refl refl fits said in
    let is : say_first g heard_nothing ≡ past_content (say_known g (late_with heard.Nothing (λ n. false) (at_stage OpenSaid))) =
    if-false (is_of_introduction g) (introduce g heard_nothing) (say_within (content_begun g) g (led g heard_nothing)) i ∙ ap (λ o. say_within o g (led g heard_nothing)) (no-content g a)
    ∙ ap (λ l. past_content (say_known g l)) (led-open g i) in
    subst (λ (o : Option Late). TakesLate o t) (sym is) takes

-- ---- within a content

abbrev one-known : ℕ → ℕ → Bool
one-known j = with_known (suc j) (λ n. false)

abbrev one-open : ℕ → Speech
one-open j = record { stage = OpenSaid; usage = with_usage (suc j) InUse (λ n. Shut); content = NoContent }

other-unknown : (j n : ℕ) → suc j ≢ n → one-known j n ≡ false
other-unknown j n ne = by (n == suc j) refl where
  by : (b : Bool) → (n == suc j) ≡ b → one-known j n ≡ false
  by true is = absurd (ne (let e : n ≡ suc j = grind (arith, nat_tests) in sym e))
  by false is = if-false (n == suc j) true false is

own-known : (j : ℕ) → one-known j (suc j) ≡ true
own-known j = if-true (suc j == suc j) true false (let same : (suc j == suc j) ≡ true = grind (arith, nat_tests) in same)

on-channel : (j : ℕ) (h : Heard) (t : Speech) → t.stage ≡ OpenSaid → HasContent h NoContent t.content → t.usage (suc j) ≡ InUse → IsWithin h (one-open j)
    → TakesLate (Some (late_with h (one-known j) (one-open j))) t
on-channel j h t staged content used within = record {
  late = late_with h (one-known j) (one-open j);
  is = refl;
  fits = record { stage = staged; content = λ going. content; usage = λ going n sure. used-so n sure (cases_eq (suc j) n) };
  shut = λ n unset. shut n unset (cases_eq (suc j) n);
  within = within;
} where
  used-so : (n : ℕ) → one-known j n ≡ true → (suc j ≡ n) ⊎ (suc j ≢ n) → t.usage n ≡ with_usage (suc j) InUse (λ n. Shut) n
  used-so n sure (inl e) = subst (λ (i : ℕ). t.usage i ≡ with_usage (suc j) InUse (λ n. Shut) i) e (used ∙ sym (own-usage (suc j) InUse (λ n. Shut)))
  used-so n sure (inr ne) = absurd (let both : true ≡ false = sym sure ∙ other-unknown j n ne in cc)

  shut : (n : ℕ) → one-known j n ≡ false → (suc j ≡ n) ⊎ (suc j ≢ n) → with_usage (suc j) InUse (λ n. Shut) n ≡ Shut
  shut n unset (inl e) = absurd (let both : true ≡ false = sym (own-known j) ∙ ap (one-known j) e ∙ unset in cc)
  shut n unset (inr ne) = other-usage (suc j) n InUse (λ n. Shut) ne

take-header : (k : ℕ) (head : List ℕ) (s t : Speech) → Reachable s → say (f.Raw k raw.Header head) s ≡ Some t → TakesLate (say_first (f.Raw k raw.Header head) heard_nothing) t
take-header zero head s t r said =
    let at = headed 0 head s t said in
    let on = (r.method 0 at.class at.before).0 in
    absurd (let zeroth : 0 ≡ suc on.above.0 = on.above.1 in cc)
take-header (suc j) head s t r said =
    let at = headed (suc j) head s t said in
    let on = r.method (suc j) at.class at.before in
    let class = at.class in
    let long = and-left (nat_le 14 (length head)) (class_in head == class && weight_in head == 0) at.shaped in
    let rest = and-right (nat_le 14 (length head)) (class_in head == class && weight_in head == 0) at.shaped in
    let weight = and-right (class_in head == class) (weight_in head == 0) rest in
    let equal = and-left (class_in head == class) (weight_in head == 0) rest in
    let same : class ≡ class_in head = grind (arith, nat_tests) in
    let passed : (not (class_in head == 10) && not (class_in head == 20)) ≡ true = subst (λ c. (not (c == 10) && not (c == 20)) ≡ true) same on.1 in
    let test =
    and-true (nat_le 14 (length head)) (weight_in head == 0 && (not (class_in head == 10) && not (class_in head == 20))) long
    (and-true (weight_in head == 0) (not (class_in head == 10) && not (class_in head == 20)) weight passed) in
    let missing : missing_behind head ≡ Some (body_size_in head) =
    if-true (nat_le 14 (length head) && (weight_in head == 0 && (not (class_in head == 10) && not (class_in head == 20)))) (Some (body_size_in head)) None test in
    let g = f.Raw (suc j) raw.Header head in
    let is : say_first g heard_nothing ≡ Some (late_with (heard.Missing (suc j) (body_size_in head)) (one-known j) (one-open j)) =
    ap (λ o. say_within (option_map (λ missing. (suc j, heard.Missing (suc j) missing)) o) (f.Raw (suc j) raw.Header head) (led (f.Raw (suc j) raw.Header head) heard_nothing)) missing in
    subst (λ (o : Option Late). TakesLate o t) (sym is)
    (on-channel j (heard.Missing (suc j) (body_size_in head)) t (ap (λ (x : Speech). x.stage) at.is ∙ raw-open (suc j) raw.Header head s t said) (ap (λ (x : Speech). x.content) at.is)
    (ap (λ (x : Speech). x.usage (suc j)) at.is ∙ on.0.used) (refl, refl))

take-body : (k : ℕ) (body : List ℕ) (s t : Speech) → Reachable s → say (f.Raw k raw.Body body) s ≡ Some t → TakesLate (say_first (f.Raw k raw.Body body) heard_nothing) t
take-body zero body s t r said =
    let at = carried 0 body s t said in
    let on = r.body 0 at.missing at.before in
    absurd (let zeroth : 0 ≡ suc on.above.0 = on.above.1 in cc)
take-body (suc j) body s t r said =
    let at = carried (suc j) body s t said in
    let on = r.body (suc j) at.missing at.before in
    let begun : content_begun (f.Raw (suc j) raw.Body body) ≡ Some (suc j, heard.Body (suc j)) = if-true (nat_le 1 (length body)) (Some (suc j, heard.Body (suc j))) None at.some in
    let is : say_first (f.Raw (suc j) raw.Body body) heard_nothing ≡ Some (late_with (heard.Body (suc j)) (one-known j) (one-open j)) =
    ap (λ o. say_within o (f.Raw (suc j) raw.Body body) (led (f.Raw (suc j) raw.Body body) heard_nothing)) begun in
    subst (λ (o : Option Late). TakesLate o t) (sym is)
    (on-channel j (heard.Body (suc j)) t (ap (λ (x : Speech). x.stage) at.is ∙ raw-open (suc j) raw.Body body s t said) (at.left, ap (λ (x : Speech). x.content) at.is)
    (ap (λ (x : Speech). x.usage (suc j)) at.is ∙ on.used) (refl, refl))

take-apart : (g : Frame) (s t : Speech) → Reachable s → is_apart g ≡ true → say g s ≡ Some t → TakesLate (say_first g heard_nothing) t
take-apart (f.Raw k raw.Header head) s t r a said = take-header k head s t r said
take-apart (f.Raw k raw.Body body) s t r a said = take-body k body s t r said
take-apart (f.Raw k raw.RawMethod method) s t r a said = absurd cc
take-apart (f.Method zero m.CloseOk) s t r a said = close-left heard.Nothing (λ n. false) (at_stage OpenSaid) s t (λ n unset. refl) refl said
take-apart (f.Method zero _) s t r a said = absurd cc
take-apart (f.Method (suc k) method) s t r a said = absurd cc
take-apart (f.ProtocolHeader v) s t r a said = absurd cc
take-apart f.Heartbeat s t r a said = absurd cc

-- ---- the first frame, and each that follows

take-first : (g : Frame) (s t : Speech) → Reachable s → say g s ≡ Some t → TakesLate (say_first g heard_nothing) t
take-first g s t r said = by (is_of_introduction g) (is_apart g) refl refl where
  by : (b c : Bool) → is_of_introduction g ≡ b → is_apart g ≡ c → TakesLate (say_first g heard_nothing) t
  by true c i a = take-introduced g s t r i said
  by false true i a = take-apart g s t r a said
  by false false i a = take-far g s t a i said

-- the next frame is taken, and all behind it
take-all : (frames : List Frame) (l : Late) (s t : Speech) → UnknownShut l.known l.said → IsWithin l.heard l.said → FitsHeard l s → say_all (Some s) frames ≡ Some t
    → is_some (say_each_late (Some l) frames) ≡ true
take-all [] l s t shut within fits said = refl
take-all (g ∷ frames) l s t shut within fits said = by (say g s) refl (λ late next. take-all frames late next t) where
  by : (o : Option Speech) → say g s ≡ o
      → ((late : Late) (next : Speech) → UnknownShut late.known late.said → IsWithin late.heard late.said → FitsHeard late next → say_all (Some next) frames ≡ Some t
      → is_some (say_each_late (Some late) frames) ≡ true)
      → is_some (say_each_late (say_late g l) frames) ≡ true
  by None is rest = absurd (let none : say_all (say g s) frames ≡ None = ap (λ o. say_all o frames) is in let both = sym none ∙ said in cc)
  by (Some next) is rest =
      let takes = take-next l.heard g l.known l.said s next shut within fits is in
      ap (λ (o : Option Late). is_some (say_each_late o frames)) takes.is
      ∙ rest takes.late next takes.shut takes.within takes.fits (sym (ap (λ o. say_all o frames) is) ∙ said)

-- behind some frames
take-rest : (frames : List Frame) (s t : Speech) → Reachable s → say_all (Some s) frames ≡ Some t → is_some (say_each_late (Some heard_nothing) frames) ≡ true
take-rest [] s t r said = refl
take-rest (g ∷ frames) s t r said = by (say g s) refl where
  by : (o : Option Speech) → say g s ≡ o → is_some (say_each_late (say_late g heard_nothing) frames) ≡ true
  by None is = absurd (let none : say_all (say g s) frames ≡ None = ap (λ o. say_all o frames) is in let both = sym none ∙ said in cc)
  by (Some next) is =
      let takes = take-first g s next r is in
      ap (λ (o : Option Late). is_some (say_each_late o frames)) takes.is
      ∙ take-all frames takes.late next t takes.shut takes.within takes.fits (sym (ap (λ o. say_all o frames) is) ∙ said)

some-of : (o : Option Speech) → is_some o ≡ true → (s : Speech) × (o ≡ Some s)
some-of None h = absurd cc
some-of (Some s) h = (s, refl)

-- from the protocol header on
header-late : (x : Frame) → is_amqp_header x ≡ true → say_late x heard_nothing ≡ whole_on heard_nothing (Some greeted)
header-late (f.ProtocolHeader v) h = if-true (is_amqp_header (f.ProtocolHeader v)) (whole_on heard_nothing (Some greeted)) None h
header-late (f.Method k method) h = absurd cc
header-late (f.Raw k kind payload) h = absurd cc
header-late f.Heartbeat h = absurd cc

pub legal-taken : (before frames : List Frame) → Legal (before ++ frames) → IsTakenLate frames
legal-taken [] [] legal = refl
legal-taken [] (x ∷ frames) legal =
    let both = (all-said x frames).0 legal in
    let led = some-of (say_all (Some greeted) frames) both.1 in
    let takes = whole greeted in
    ap (λ (o : Option Late). is_some (say_each_late o frames)) (header-late x both.0 ∙ takes.is) ∙ take-all frames takes.late greeted led.0 takes.shut takes.within takes.fits led.1
legal-taken (x ∷ before) frames legal =
    let both = (all-said x (before ++ frames)).0 legal in
    let led = some-of (say_all (Some greeted) (before ++ frames)) both.1 in
    let parted : say_all (say_all (Some greeted) before) frames ≡ Some led.0 = sym (say-append (Some greeted) before frames) ∙ led.1 in
    let front = front-said (say_all (Some greeted) before) frames led.0 parted in
    take-rest frames front.0 led.0 (reached-all before greeted front.0 begins front.1) (sym (ap (λ o. say_all o frames) front.1) ∙ parted)
