-- What no conversation may say, whatever it said before, is refused, whatever was heard before.
use Rattle.std.proofs.Common.{◌≡◌, ◌∙◌, ap, sym, refl, ℕ, zero, suc, ◌-◌, ◌==◌, ◌&&◌, not, nat_le, if◌then◌else◌, Bool, true, false, List, [], ◌∷◌, ◌++◌, length, Option, Some, None, option_map, arith}
use Rattle.std.proofs.lemmas.Bool.Decides.{nat_tests}
use Rattle.amqp_frame.specs.declared.frame.Frame.{Frame}
use Rattle.amqp_frame.specs.declared.frame.Frame.TheVariants as f
use Rattle.amqp_frame.specs.declared.frame.RawKind.TheVariants as raw
use Rattle.amqp_frame.specs.declared.method.Method.TheVariants as m
use Rattle.amqp_legal.specs.Octets.{class_in, weight_in, body_size_in}
use Rattle.amqp_legal.specs.Decider.{Speech, say, is_amqp_header, is_content_header}
use Rattle.amqp_legal.specs.declared.progress.Stage.TheVariants.{OpenSaid}
use Rattle.amqp_legal.specs.declared.progress.Content.{Content}
use Rattle.amqp_legal.specs.declared.progress.Content.TheVariants.{MethodSaid, BodyMissing}
use Rattle.amqp_legal.specs.declared.progress.Usage.TheVariants.{Shut}
use Rattle.amqp_types.proofs.Small.{if-true, if-false, and-left, and-right, and-true, and-false}
use Rattle.amqp_resumed.specs.declared.resumed.Heard.{Heard}
use Rattle.amqp_resumed.specs.declared.resumed.Heard.TheVariants as heard
use Rattle.amqp_resumed.specs.Rests.{IsSaidNowhere}
use Rattle.amqp_resumed.specs.Resumes.{Late, with_known, said_as, opened_before, opens_channel, first_method, first_if, say_on, say_known, channel_used, may_say_method, past_content, say_in_body, say_to, led, whole_on, introduce, is_of_introduction, missing_behind, content_begun, say_within, say_behind, say_late, say_each_late}

-- ---- tests

left-false : (a b : Bool) → a ≡ false → (a && b) ≡ false
left-false true b h = cc
left-false false b h = refl

both-none : (b : Bool) (x y : Option Late) → x ≡ None → y ≡ None → (if b then x else y) ≡ None
both-none true x y h k = h
both-none false x y h k = k

pub same-number : (n : ℕ) → (n == n) ≡ true
same-number n = grind (arith, nat_tests)

pub at-most-itself : (n : ℕ) → nat_le n n ≡ true
at-most-itself n = grind (arith, nat_tests)

pub at-least-one : (n : ℕ) → nat_le 1 (suc n) ≡ true
at-least-one n = grind (arith, nat_tests)

-- ---- a conversation in which a content goes on

abbrev with_content : Content → Speech
with_content content = record { stage = OpenSaid; usage = λ k. Shut; content = content }

-- a frame of a body that may be said nowhere is empty
empty-body : (k : ℕ) (body : List ℕ) → IsSaidNowhere (f.Raw k raw.Body body) → nat_le 1 (length body) ≡ false
empty-body k [] none = grind (arith, nat_tests)
empty-body k (x ∷ xs) none =
    let n = length xs in
    let s = with_content (BodyMissing k (suc n)) in
    let fits = and-true (k == k) (nat_le 1 (suc n) && nat_le (suc n) (suc n)) (same-number k) (and-true (nat_le 1 (suc n)) (nat_le (suc n) (suc n)) (at-least-one n) (at-most-itself (suc n))) in
    let t : Speech = record s { content = BodyMissing k (suc n - suc n) } in
    let some : say (f.Raw k raw.Body (x ∷ xs)) s ≡ Some t = if-true (k == k && (nat_le 1 (suc n) && nat_le (suc n) (suc n))) (Some t) None fits in
    let unlike = sym some ∙ none s in
    absurd cc

-- a content header that may be said nowhere begins no body
no-header : (k : ℕ) (head : List ℕ) → IsSaidNowhere (f.Raw k raw.Header head) → missing_behind head ≡ None
no-header k head none = by (nat_le 14 (length head) && (weight_in head == 0 && (not (class_in head == 10) && not (class_in head == 20)))) refl where
  by : (b : Bool) → (nat_le 14 (length head) && (weight_in head == 0 && (not (class_in head == 10) && not (class_in head == 20)))) ≡ b → missing_behind head ≡ None
  by false is = if-false (nat_le 14 (length head) && (weight_in head == 0 && (not (class_in head == 10) && not (class_in head == 20)))) (Some (body_size_in head)) None is
  by true is =
      let rest = and-right (nat_le 14 (length head)) (weight_in head == 0 && (not (class_in head == 10) && not (class_in head == 20))) is in
      let whole = and-left (nat_le 14 (length head)) (weight_in head == 0 && (not (class_in head == 10) && not (class_in head == 20))) is in
      let weight = and-left (weight_in head == 0) (not (class_in head == 10) && not (class_in head == 20)) rest in
      let class = class_in head in
      let s = with_content (MethodSaid k class) in
      let shaped = and-true (nat_le 14 (length head)) (class_in head == class && weight_in head == 0) whole (and-true (class_in head == class) (weight_in head == 0) (same-number class) weight) in
      let t : Speech = record s { content = BodyMissing k (body_size_in head) } in
      let some : say (f.Raw k raw.Header head) s ≡ Some t = if-true (k == k && is_content_header class head) (Some t) None (and-true (k == k) (is_content_header class head) (same-number k) shaped) in
      let unlike = sym some ∙ none s in
      absurd cc

-- ---- by what was heard

module _ (g : Frame) (none : IsSaidNowhere g) where
  known-none : (l : Late) → say_known g l ≡ None
  known-none l = on (channel_used g) where
    first : (n : ℕ) → first_method n g l ≡ None
    first n =
        both-none (opens_channel g) (said_as (record l { known = with_known n l.known }) (say g l.said)) (said_as (opened_before n l) (say g (opened_before n l).said))
        (ap (said_as (record l { known = with_known n l.known })) (none l.said)) (ap (said_as (opened_before n l)) (none (opened_before n l).said))

    on : (u : Option ℕ) → say_on u g l ≡ None
    on None = ap (said_as l) (none l.said)
    on (Some n) =
        both-none (l.known n) (said_as l (say g l.said)) (first_if n g l) (ap (said_as l) (none l.said))
        (both-none (may_say_method l.said.stage l.said.content) (first_method n g l) None (first n) refl)

  left-none : (l : Late) → past_content (say_known g l) ≡ None
  left-none l = ap past_content (known-none l)

in-body-none : (g : Frame) → IsSaidNowhere g → (n : ℕ) (l : Late) → say_in_body n g l ≡ None
in-body-none (f.Raw k raw.Body body) none n l =
    if-false (k == n && nat_le 1 (length body)) (Some l) None (and-false (k == n) (nat_le 1 (length body)) (empty-body k body none))
in-body-none (f.Raw k raw.Header head) none n l = left-none (f.Raw k raw.Header head) none l
in-body-none (f.Raw k raw.RawMethod method) none n l = left-none (f.Raw k raw.RawMethod method) none l
in-body-none (f.Method k method) none n l = left-none (f.Method k method) none l
in-body-none (f.ProtocolHeader v) none n l = left-none (f.ProtocolHeader v) none l
in-body-none f.Heartbeat none n l = left-none f.Heartbeat none l

to-none : (g : Frame) → IsSaidNowhere g → (n missing : ℕ) (l : Late) → say_to n missing g l ≡ None
to-none (f.Raw k raw.Body body) none n missing l =
    let empty = left-false (nat_le 1 (length body)) (nat_le (length body) missing) (empty-body k body none) in
    if-false (k == n && (nat_le 1 (length body) && nat_le (length body) missing)) (Some (record l { heard = heard.Missing n (missing - length body) })) None
    (and-false (k == n) (nat_le 1 (length body) && nat_le (length body) missing) empty)
to-none (f.Raw k raw.Header head) none n missing l = both-none (missing == 0) (past_content (say_known (f.Raw k raw.Header head) l)) None (left-none (f.Raw k raw.Header head) none l) refl
to-none (f.Raw k raw.RawMethod method) none n missing l =
    both-none (missing == 0) (past_content (say_known (f.Raw k raw.RawMethod method) l)) None (left-none (f.Raw k raw.RawMethod method) none l) refl
to-none (f.Method zero method) none n missing l = zeroth method none where
  zeroth : (method : _) → IsSaidNowhere (f.Method 0 method) → say_to n missing (f.Method 0 method) l ≡ None
  zeroth m.CloseOk unlike = left-none (f.Method 0 m.CloseOk) unlike l
  zeroth other unlike = both-none (missing == 0) (past_content (say_known (f.Method 0 other) l)) None (left-none (f.Method 0 other) unlike l) refl
to-none (f.Method (suc k) method) none n missing l = both-none (missing == 0) (past_content (say_known (f.Method (suc k) method) l)) None (left-none (f.Method (suc k) method) none l) refl
to-none (f.ProtocolHeader v) none n missing l = both-none (missing == 0) (past_content (say_known (f.ProtocolHeader v) l)) None (left-none (f.ProtocolHeader v) none l) refl
to-none f.Heartbeat none n missing l = both-none (missing == 0) (past_content (say_known f.Heartbeat l)) None (left-none f.Heartbeat none l) refl

introduce-none : (g : Frame) → is_amqp_header g ≡ false → IsSaidNowhere g → (l : Late) → introduce g l ≡ None
introduce-none (f.ProtocolHeader v) other none l = if-false (is_amqp_header (f.ProtocolHeader v)) (whole_on l (Some l.said)) None other
introduce-none (f.Method k method) other none l = ap (whole_on l) (none (led (f.Method k method) l).said)
introduce-none (f.Raw k kind payload) other none l = ap (whole_on l) (none (led (f.Raw k kind payload) l).said)
introduce-none f.Heartbeat other none l = ap (whole_on l) (none (led f.Heartbeat l).said)

begun-none : (g : Frame) → IsSaidNowhere g → content_begun g ≡ None
begun-none (f.Raw zero raw.Header head) none = refl
begun-none (f.Raw zero raw.Body body) none = refl
begun-none (f.Raw zero raw.RawMethod method) none = refl
begun-none (f.Raw (suc k) raw.Header head) none = ap (option_map (λ missing. (suc k, heard.Missing (suc k) missing))) (no-header (suc k) head none)
begun-none (f.Raw (suc k) raw.Body body) none = if-false (nat_le 1 (length body)) (Some (suc k, heard.Body (suc k))) None (empty-body (suc k) body none)
begun-none (f.Raw (suc k) raw.RawMethod method) none = refl
begun-none (f.Method k method) none = refl
begun-none (f.ProtocolHeader v) none = refl
begun-none f.Heartbeat none = refl

pub late-none : (g : Frame) → is_amqp_header g ≡ false → IsSaidNowhere g → (l : Late) → say_late g l ≡ None
late-none g other none l = behind l.heard where
  behind : (h : Heard) → say_behind h g l ≡ None
  behind heard.Nothing =
      both-none (is_of_introduction g) (introduce g l) (say_within (content_begun g) g (led g l)) (introduce-none g other none l)
      (ap (λ o. say_within o g (led g l)) (begun-none g none) ∙ left-none g none (led g l))
  behind (heard.Body n) = in-body-none g none n l
  behind (heard.Missing n missing) = to-none g none n missing l
  behind heard.Frames = known-none g none l

-- ---- all frames

pub each-none : (g : Frame) → is_amqp_header g ≡ false → IsSaidNowhere g → (o : Option Late) (frames more : List Frame) → say_each_late o (frames ++ g ∷ more) ≡ None
each-none g other none None frames more = refl
each-none g other none (Some l) [] more = ap (λ o. say_each_late o more) (late-none g other none l)
each-none g other none (Some l) (x ∷ frames) more = each-none g other none (say_late x l) frames more
