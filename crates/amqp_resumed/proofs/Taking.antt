-- What is legal from its beginning on is taken from each border on.
use Rattle.std.proofs.Common.{◌≡◌, ◌≢◌, ◌∙◌, ap, ap₂, sym, refl, subst, ℕ, zero, suc, ◌-◌, ◌==◌, ◌&&◌, nat_le, if◌then◌else◌, Bool, true, false, length, Option, Some, None, arith}
use Rattle.std.proofs.lemmas.Bool.Decides.{nat_tests}
use Rattle.amqp_frame.specs.declared.frame.Frame.{Frame}
use Rattle.amqp_frame.specs.declared.frame.Frame.TheVariants as f
use Rattle.amqp_frame.specs.declared.frame.RawKind.TheVariants as raw
use Rattle.amqp_frame.specs.declared.method.Method.TheVariants as m
use Rattle.amqp_legal.specs.Decider.{Speech, say, in_stage}
use Rattle.amqp_legal.specs.declared.progress.Stage.{Stage}
use Rattle.amqp_legal.specs.declared.progress.Stage.TheVariants.{HeaderSaid, StartOkSaid, TuneOkSaid, OpenSaid, CloseSaid, CloseOkSaid}
use Rattle.amqp_legal.specs.declared.progress.Content.TheVariants.{NoContent, MethodSaid, BodyMissing}
use Rattle.amqp_types.proofs.Small.{if-true, and-true}
use Rattle.amqp_resumed.specs.declared.resumed.Heard.{Heard}
use Rattle.amqp_resumed.specs.declared.resumed.Heard.TheVariants as heard
use Rattle.amqp_resumed.specs.Resumes.{Late, FitsHeard, channel_used, may_say_method, with_known, said_as, opened_before, opens_channel, first_method, first_if, say_on, say_known, past_content, say_in_body, say_to, say_behind}
use Rattle.amqp_resumed.proofs.Behind.{is_apart, with_content, behind-content}
use Rattle.amqp_resumed.proofs.Reachable.{headed, carried}
use Rattle.amqp_resumed.proofs.Advancing.{heard_of, UnknownShut, Takes, take-frame}

-- ---- what is kept

-- within a content, the conversation that is kept has none and is open
abbrev pub IsWithin : Heard → Speech → Type 0
IsWithin heard.Nothing s = ⊥
IsWithin (heard.Body n) s = (s.stage ≡ OpenSaid) × (s.content ≡ NoContent)
IsWithin (heard.Missing n missing) s = (s.stage ≡ OpenSaid) × (s.content ≡ NoContent)
IsWithin heard.Frames s = Unit {0}

-- a frame is taken, and a conversation that said it fits then
pub record TakesLate (next : Option Late) (t : Speech) : Type 0 where
  pub late : Late
  pub is : next ≡ Some late
  pub fits : FitsHeard late t
  pub shut : UnknownShut late.known late.said
  pub within : IsWithin late.heard late.said

-- the state in which this was heard
abbrev pub late_with : Heard → (ℕ → Bool) → Speech → Late
late_with h known s0 = record { heard = h; said = s0; known = known }

-- ---- a frame that is no part of the content

if-heard : (b : Bool) (x y x' y' : Option Late) → past_content x ≡ x' → past_content y ≡ y' → past_content (if b then x else y) ≡ (if b then x' else y')
if-heard true x y x' y' h k = h
if-heard false x y x' y' h k = k

as-said : (l : Late) (o : Option Speech) → past_content (said_as l o) ≡ said_as (record l { heard = heard.Frames }) o
as-said l None = refl
as-said l (Some s) = refl

left-heard : (g : Frame) (h : Heard) (known : ℕ → Bool) (s0 : Speech) → past_content (say_known g (late_with h known s0)) ≡ say_known g (heard_of known s0)
left-heard g h known s0 = on (channel_used g) where
  first : (n : ℕ) → past_content (first_method n g (late_with h known s0)) ≡ first_method n g (heard_of known s0)
  first n =
      let l = late_with h known s0 in
      let l' = heard_of known s0 in
      if-heard (opens_channel g) (said_as (record l { known = with_known n known }) (say g s0)) (said_as (opened_before n l) (say g (opened_before n l).said))
      (said_as (record l' { known = with_known n known }) (say g s0)) (said_as (opened_before n l') (say g (opened_before n l').said)) (as-said (record l { known = with_known n known }) (say g s0))
      (as-said (opened_before n l) (say g (opened_before n l).said))

  on : (u : Option ℕ) → past_content (say_on u g (late_with h known s0)) ≡ say_on u g (heard_of known s0)
  on None = as-said (late_with h known s0) (say g s0)
  on (Some n) =
      if-heard (known n) (said_as (late_with h known s0) (say g s0)) (first_if n g (late_with h known s0)) (said_as (heard_of known s0) (say g s0)) (first_if n g (heard_of known s0))
      (as-said (late_with h known s0) (say g s0))
      (if-heard (may_say_method s0.stage s0.content) (first_method n g (late_with h known s0)) None (first_method n g (heard_of known s0)) None (first n) refl)

-- what is taken where the content is known is taken behind a content
leaves : (g : Frame) (h : Heard) (known : ℕ → Bool) (s0 t : Speech) → Takes (say_known g (heard_of known s0)) t → TakesLate (past_content (say_known g (late_with h known s0))) t
leaves g h known s0 t takes = record {
  late = heard_of takes.known takes.said;
  is = left-heard g h known s0 ∙ takes.is;
  fits = takes.fits;
  shut = takes.shut;
  within = tt;
}

known-late : (next : Option Late) (t : Speech) → Takes next t → TakesLate next t
known-late next t takes = record { late = heard_of takes.known takes.said; is = takes.is; fits = takes.fits; shut = takes.shut; within = tt }

-- a conversation behind a content, as if none went on, fits where none is kept
fits-open : (known : ℕ → Bool) (s0 s : Speech) → s.stage ≡ s0.stage → s0.content ≡ NoContent → ((n : ℕ) → known n ≡ true → s.usage n ≡ s0.usage n)
    → FitsHeard (heard_of known s0) (with_content NoContent s)
fits-open known s0 s stage none usage = record { stage = stage; content = λ going. sym none; usage = λ going n sure. usage n sure }

going-open : (st : Stage) → st ≡ OpenSaid → st ≢ CloseOkSaid
going-open st now-open over = let both : OpenSaid ≡ CloseOkSaid = sym now-open ∙ over in absurd cc

pub apart-left : (g : Frame) (h : Heard) (known : ℕ → Bool) (s0 s t : Speech) → is_apart g ≡ false → UnknownShut known s0 → s0.stage ≡ OpenSaid → s0.content ≡ NoContent
    → FitsHeard (late_with h known s0) s → say g s ≡ Some t → TakesLate (past_content (say_known g (late_with h known s0))) t
apart-left g h known s0 s t unlike shut now-open none fits said =
    let staged : s.stage ≡ OpenSaid = fits.stage ∙ now-open in
    let fits' = fits-open known s0 s fits.stage none (fits.usage (going-open s.stage staged)) in
    leaves g h known s0 t (take-frame g known s0 (with_content NoContent s) t shut fits' (behind-content g s t unlike staged said))

-- our close-ok
our-close-ok : Frame
our-close-ok = f.Method 0 m.CloseOk

closed : (st : Stage) (s t : Speech) → in_stage st (f.Method 0 m.CloseOk) s ≡ Some t → t.stage ≡ CloseOkSaid
closed HeaderSaid s t h = let same : record s { stage = CloseOkSaid } ≡ t = cc in sym (ap (λ (x : Speech). x.stage) same)
closed StartOkSaid s t h = let same : record s { stage = CloseOkSaid } ≡ t = cc in sym (ap (λ (x : Speech). x.stage) same)
closed TuneOkSaid s t h = let same : record s { stage = CloseOkSaid } ≡ t = cc in sym (ap (λ (x : Speech). x.stage) same)
closed OpenSaid s t h = let same : record s { stage = CloseOkSaid } ≡ t = cc in sym (ap (λ (x : Speech). x.stage) same)
closed CloseSaid s t h = let same : record s { stage = CloseOkSaid } ≡ t = cc in sym (ap (λ (x : Speech). x.stage) same)
closed CloseOkSaid s t h = absurd cc

pub close-left : (h : Heard) (known : ℕ → Bool) (s0 s t : Speech) → UnknownShut known s0 → s0.stage ≡ OpenSaid → say (f.Method 0 m.CloseOk) s ≡ Some t
    → TakesLate (past_content (say_known (f.Method 0 m.CloseOk) (late_with h known s0))) t
close-left h known s0 s t shut now-open said =
    let over : t.stage ≡ CloseOkSaid = closed s.stage s t said in
    let next : Speech = record s0 { stage = CloseOkSaid } in
    let says : say (f.Method 0 m.CloseOk) s0 ≡ Some next = ap (λ st. in_stage st (f.Method 0 m.CloseOk) s0) now-open in
    record {
      late = heard_of known next;
      is = ap (λ o. past_content (said_as (late_with h known s0) o)) says;
      fits = record { stage = over; content = λ going. absurd (going over); usage = λ going n sure. absurd (going over) };
      shut = shut;
      within = tt;
    }

-- ---- by what was heard

take-in-body : (g : Frame) (n : ℕ) (known : ℕ → Bool) (s0 s t : Speech) → UnknownShut known s0 → s0.stage ≡ OpenSaid → s0.content ≡ NoContent
    → FitsHeard (late_with (heard.Body n) known s0) s → say g s ≡ Some t → TakesLate (say_in_body n g (late_with (heard.Body n) known s0)) t
take-in-body (f.Raw k raw.Body body) n known s0 s t shut now-open none fits said =
    let at = carried k body s t said in
    let going = going-open s.stage (fits.stage ∙ now-open) in
    let was = fits.content going in
    let both : BodyMissing n was.0 ≡ BodyMissing k at.missing = sym was.1 ∙ at.before in
    let same : n ≡ k = cc in
    let test : (k == n) ≡ true = grind (arith, nat_tests) in
    record {
      late = late_with (heard.Body n) known s0;
      is = if-true (k == n && nat_le 1 (length body)) (Some (late_with (heard.Body n) known s0)) None (and-true (k == n) (nat_le 1 (length body)) test at.some);
      fits = record {
        stage = ap (λ (x : Speech). x.stage) at.is ∙ fits.stage;
        content = λ on. (at.left, ap (λ (x : Speech). x.content) at.is ∙ ap (λ i. BodyMissing i at.left) (sym same));
        usage = λ on j sure. ap (λ (x : Speech). x.usage j) at.is ∙ fits.usage going j sure;
      };
      shut = shut;
      within = (now-open, none);
    }
take-in-body (f.Raw k raw.Header head) n known s0 s t shut now-open none fits said =
    let at = headed k head s t said in
    let was = fits.content (going-open s.stage (fits.stage ∙ now-open)) in
    let both : BodyMissing n was.0 ≡ MethodSaid k at.class = sym was.1 ∙ at.before in
    absurd cc
take-in-body (f.Raw k raw.RawMethod method) n known s0 s t shut now-open none fits said = apart-left (f.Raw k raw.RawMethod method) (heard.Body n) known s0 s t refl shut now-open none fits said
take-in-body (f.Method zero method) n known s0 s t shut now-open none fits said = by method said where
  by : (method : _) → say (f.Method 0 method) s ≡ Some t → TakesLate (say_in_body n (f.Method 0 method) (late_with (heard.Body n) known s0)) t
  by m.CloseOk said = close-left (heard.Body n) known s0 s t shut now-open said
  by other said = apart-left (f.Method 0 other) (heard.Body n) known s0 s t refl shut now-open none fits said
take-in-body (f.Method (suc k) method) n known s0 s t shut now-open none fits said = apart-left (f.Method (suc k) method) (heard.Body n) known s0 s t refl shut now-open none fits said
take-in-body (f.ProtocolHeader v) n known s0 s t shut now-open none fits said = apart-left (f.ProtocolHeader v) (heard.Body n) known s0 s t refl shut now-open none fits said
take-in-body f.Heartbeat n known s0 s t shut now-open none fits said = apart-left f.Heartbeat (heard.Body n) known s0 s t refl shut now-open none fits said

-- nothing but a frame of the body is said while octets of it are missing
none-missing : (g : Frame) (n missing : ℕ) (s t : Speech) → is_apart g ≡ false → s.stage ≡ OpenSaid → s.content ≡ BodyMissing n missing → say g s ≡ Some t → missing ≡ 0
none-missing g n zero s t unlike now-open is said = refl
none-missing g n (suc missing) s t unlike now-open is said = absurd (refused g unlike (sym both ∙ said)) where
  as-fields : (s : Speech) → s.stage ≡ OpenSaid → s.content ≡ BodyMissing n (suc missing) → s ≡ record s { stage = OpenSaid; content = BodyMissing n (suc missing) }
  as-fields s now-open is = ap₂ (λ st c. record s { stage = st; content = c }) now-open is

  both : say g s ≡ in_stage OpenSaid g (record s { stage = OpenSaid; content = BodyMissing n (suc missing) })
  both = ap (λ st. in_stage st g s) now-open ∙ ap (λ (x : Speech). in_stage OpenSaid g x) (as-fields s now-open is)

  refused : (g : Frame) → is_apart g ≡ false → in_stage OpenSaid g (record s { stage = OpenSaid; content = BodyMissing n (suc missing) }) ≡ Some t → ⊥
  refused (f.Method zero method) unlike h = by method unlike h where
    by : (method : _) → is_apart (f.Method 0 method) ≡ false → in_stage OpenSaid (f.Method 0 method) (record s { stage = OpenSaid; content = BodyMissing n (suc missing) }) ≡ Some t → ⊥
    by m.CloseOk unlike h = cc
    by other unlike h = cc
  refused (f.Method (suc k) method) unlike h = cc
  refused (f.Raw k raw.RawMethod method) unlike h = cc
  refused (f.Raw k raw.Header head) unlike h = cc
  refused (f.Raw k raw.Body body) unlike h = cc
  refused (f.ProtocolHeader v) unlike h = cc
  refused f.Heartbeat unlike h = cc

apart-to : (g : Frame) (n missing : ℕ) (known : ℕ → Bool) (s0 s t : Speech) → is_apart g ≡ false → UnknownShut known s0 → s0.stage ≡ OpenSaid → s0.content ≡ NoContent
    → FitsHeard (late_with (heard.Missing n missing) known s0) s → say g s ≡ Some t
    → TakesLate (if missing == 0 then past_content (say_known g (late_with (heard.Missing n missing) known s0)) else None) t
apart-to g n missing known s0 s t unlike shut now-open none fits said =
    let staged : s.stage ≡ OpenSaid = fits.stage ∙ now-open in
    let over : missing ≡ 0 = none-missing g n missing s t unlike staged (fits.content (going-open s.stage staged)) said in
    let test : (missing == 0) ≡ true = grind (arith, nat_tests) in
    subst (λ (o : Option Late). TakesLate o t) (sym (if-true (missing == 0) (past_content (say_known g (late_with (heard.Missing n missing) known s0))) None test))
    (apart-left g (heard.Missing n missing) known s0 s t unlike shut now-open none fits said)

take-to : (g : Frame) (n missing : ℕ) (known : ℕ → Bool) (s0 s t : Speech) → UnknownShut known s0 → s0.stage ≡ OpenSaid → s0.content ≡ NoContent
    → FitsHeard (late_with (heard.Missing n missing) known s0) s → say g s ≡ Some t → TakesLate (say_to n missing g (late_with (heard.Missing n missing) known s0)) t
take-to (f.Raw k raw.Body body) n missing known s0 s t shut now-open none fits said =
    let at = carried k body s t said in
    let going = going-open s.stage (fits.stage ∙ now-open) in
    let both : BodyMissing n missing ≡ BodyMissing k at.missing = sym (fits.content going) ∙ at.before in
    let same : n ≡ k = cc in
    let much : missing ≡ at.missing = cc in
    let test : (k == n) ≡ true = grind (arith, nat_tests) in
    let within : nat_le (length body) missing ≡ true = subst (λ i. nat_le (length body) i ≡ true) (sym much) at.within in
    let left : at.left ≡ missing - length body = at.left_is ∙ ap (λ i. i - length body) (sym much) in
    record {
      late = late_with (heard.Missing n (missing - length body)) known s0;
      is =
          if-true (k == n && (nat_le 1 (length body) && nat_le (length body) missing)) (Some (late_with (heard.Missing n (missing - length body)) known s0)) None
          (and-true (k == n) (nat_le 1 (length body) && nat_le (length body) missing) test (and-true (nat_le 1 (length body)) (nat_le (length body) missing) at.some within));
      fits = record {
        stage = ap (λ (x : Speech). x.stage) at.is ∙ fits.stage;
        content = λ on. ap (λ (x : Speech). x.content) at.is ∙ ap (λ i. BodyMissing i at.left) (sym same) ∙ ap (λ i. BodyMissing n i) left;
        usage = λ on j sure. ap (λ (x : Speech). x.usage j) at.is ∙ fits.usage going j sure;
      };
      shut = shut;
      within = (now-open, none);
    }
take-to (f.Raw k raw.Header head) n missing known s0 s t shut now-open none fits said =
    let at = headed k head s t said in
    let both : BodyMissing n missing ≡ MethodSaid k at.class = sym (fits.content (going-open s.stage (fits.stage ∙ now-open))) ∙ at.before in
    absurd cc
take-to (f.Raw k raw.RawMethod method) n missing known s0 s t shut now-open none fits said = apart-to (f.Raw k raw.RawMethod method) n missing known s0 s t refl shut now-open none fits said
take-to (f.Method zero method) n missing known s0 s t shut now-open none fits said = by method said where
  by : (method : _) → say (f.Method 0 method) s ≡ Some t → TakesLate (say_to n missing (f.Method 0 method) (late_with (heard.Missing n missing) known s0)) t
  by m.CloseOk said = close-left (heard.Missing n missing) known s0 s t shut now-open said
  by other said = apart-to (f.Method 0 other) n missing known s0 s t refl shut now-open none fits said
take-to (f.Method (suc k) method) n missing known s0 s t shut now-open none fits said = apart-to (f.Method (suc k) method) n missing known s0 s t refl shut now-open none fits said
take-to (f.ProtocolHeader v) n missing known s0 s t shut now-open none fits said = apart-to (f.ProtocolHeader v) n missing known s0 s t refl shut now-open none fits said
take-to f.Heartbeat n missing known s0 s t shut now-open none fits said = apart-to f.Heartbeat n missing known s0 s t refl shut now-open none fits said

-- any frame behind another
pub take-next : (h : Heard) (g : Frame) (known : ℕ → Bool) (s0 s t : Speech) → UnknownShut known s0 → IsWithin h s0 → FitsHeard (late_with h known s0) s → say g s ≡ Some t
    → TakesLate (say_behind h g (late_with h known s0)) t
take-next heard.Nothing g known s0 s t shut within fits said = absurd within
take-next (heard.Body n) g known s0 s t shut within fits said = take-in-body g n known s0 s t shut within.0 within.1 fits said
take-next (heard.Missing n missing) g known s0 s t shut within fits said = take-to g n missing known s0 s t shut within.0 within.1 fits said
take-next heard.Frames g known s0 s t shut within fits said = known-late (say_known g (heard_of known s0)) t (take-frame g known s0 s t shut fits said)
