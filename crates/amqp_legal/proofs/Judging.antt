-- What may be said by what a frame is, is what may be said.
use Rattle.std.proofs.Common.{◌≡◌, ◌≢◌, ◌≤◌, ◌∙◌, ap, sym, refl, ℕ, zero, suc, ◌==◌, ◌&&◌, nat_le, nat_lt, if◌then◌else◌, Bool, true, false, List, length, Option, Some, None, slice_index_or, replicate, arith}
use Rattle.std.proofs.lemmas.List.{get_or-replicate, get_or_past, length-replicate}
use Rattle.std.proofs.lemmas.Bool.{ltb-true, ltb-false}
use Rattle.amqp_types.specs.declared.version.ProtocolVersion.{ProtocolVersion}
use Rattle.amqp_frame.specs.declared.frame.Frame.{Frame}
use Rattle.amqp_frame.specs.declared.frame.RawKind.{RawKind}
use Rattle.amqp_frame.specs.declared.frame.Frame.TheVariants.{ProtocolHeader, Method, Raw, Heartbeat}
use Rattle.amqp_frame.specs.declared.frame.RawKind.TheVariants.{RawMethod, Header, Body}
use Rattle.amqp_frame.specs.declared.method.Method.{Method as AnyMethod}
use Rattle.amqp_frame.specs.declared.method.Method.TheVariants as m
use Rattle.amqp_types.proofs.Small.{other-number}
use Rattle.amqp_legal.specs.Octets.{class_in, weight_in, body_size_in}
use Rattle.amqp_legal.specs.Decider.{Speech, say, say_block, in_stage, in_content, is_passed_through, say_use}
use Rattle.amqp_legal.specs.declared.progress.Stage.{Stage}
use Rattle.amqp_legal.specs.declared.progress.Stage.TheVariants.{HeaderSaid, StartOkSaid, TuneOkSaid, OpenSaid, CloseSaid, CloseOkSaid}
use Rattle.amqp_legal.specs.declared.progress.Usage.{Usage}
use Rattle.amqp_legal.specs.declared.progress.Usage.TheVariants.{Shut}
use Rattle.amqp_legal.specs.declared.progress.Content.{Content}
use Rattle.amqp_legal.specs.declared.progress.Content.TheVariants.{NoContent, MethodSaid, BodyMissing}
use Rattle.amqp_legal.specs.declared.kind.Kind.{Kind}
use Rattle.amqp_legal.specs.declared.kind.Kind.TheVariants as k
use Rattle.amqp_legal.specs.Kinds.{connection_kind, channel_kind, raw_kind, header_kind, frame_kind, introduced, is_close_ok_kind}
use Rattle.amqp_legal.specs.Speeches.{usage_in}
use Rattle.amqp_legal.specs.Judging.{block_by_kind, behind_method, in_body, open_by_kind, to_stage, stage_by_kind, close_ok_at, say_by_kind}

-- ---- usages

shut-at : (n m : ℕ) → slice_index_or (replicate n Shut) m Shut ≡ Shut
shut-at n m = by (nat_lt m n) refl where
  by : (b : Bool) → nat_lt m n ≡ b → slice_index_or (replicate n Shut) m Shut ≡ Shut
  by true e = get_or-replicate n m Shut Shut (ltb-true _ _ e)
  by false e = get_or_past (replicate n Shut) m Shut (let h : n ≤ m = ltb-false _ _ e in rw length-replicate h)

pub all-shut : (n : ℕ) (us : List Usage) → us ≡ replicate n Shut → usage_in us ≡ (λ m. Shut)
all-shut n us is = ap usage_in is ∙ (λ i m. shut-at n m i)

-- ---- kinds that are part of no content

abbrev is_plain : Kind → Bool
is_plain (k.Header n class size) = false
is_plain (k.Body n size) = false
is_plain _ = true

behind-plain : (n class : ℕ) (kind : Kind) (s : Speech) → is_plain kind ≡ true → behind_method n class kind s ≡ block_by_kind kind s
behind-plain n class (k.Header a b c) s h = cc
behind-plain n class (k.Body a b) s h = cc
behind-plain n class _ s h = refl

in-plain : (n missing : ℕ) (kind : Kind) (s : Speech) → is_plain kind ≡ true → in_body n missing kind s ≡ None
in-plain n missing (k.Header a b c) s h = cc
in-plain n missing (k.Body a b) s h = cc
in-plain n missing _ s h = refl

plain-connection : (method : AnyMethod) → is_plain (connection_kind method) ≡ true
plain-connection m.CloseOk = refl
plain-connection _ = refl

plain-channel : (n : ℕ) (method : AnyMethod) → is_plain (channel_kind n method) ≡ true
plain-channel n m.ChannelOpen = refl
plain-channel n _ = refl

plain-raw : (n : ℕ) (payload : List ℕ) → is_plain (raw_kind n payload) ≡ true
plain-raw n payload = by (is_passed_through payload) where
  by : (b : Bool) → is_plain (if b then k.Passed n (class_in payload) else k.Other) ≡ true
  by true = refl
  by false = refl

-- ---- blocks

block-connection : (method : AnyMethod) (s : Speech) → block_by_kind (connection_kind method) s ≡ say_block (Method zero method) s
block-connection m.CloseOk s = refl
block-connection _ s = refl

block-channel : (n : ℕ) (method : AnyMethod) (s : Speech) → block_by_kind (channel_kind (suc n) method) s ≡ say_block (Method (suc n) method) s
block-channel n m.ChannelOpen s = refl
block-channel n _ s = refl

block-raw : (n : ℕ) (payload : List ℕ) (s : Speech) → block_by_kind (raw_kind (suc n) payload) s ≡ say_block (Raw (suc n) RawMethod payload) s
block-raw n payload s = by (is_passed_through payload) where
  by : (b : Bool) → block_by_kind (if b then k.Passed (suc n) (class_in payload) else k.Other) s
      ≡ (if b then say_use (s.usage (suc n)) (MethodSaid (suc n) (class_in payload)) s else None)
  by true = refl
  by false = refl

-- ---- content

-- while octets are missing
missing-some : (n missing : ℕ) (kind : Kind) (s : Speech) → open_by_kind (BodyMissing n (suc missing)) kind s ≡ in_body n (suc missing) kind s
missing-some n missing kind s = ap (λ b. if b then block_by_kind kind s else in_body n (suc missing) kind s) (other-number (suc missing) 0 (λ e. absurd (omega (arith, e))))

-- no block begins with a content header or a body
header-none : (n : ℕ) (payload : List ℕ) (s : Speech) → say_block (Raw n Header payload) s ≡ None
header-none zero payload s = refl
header-none (suc n) payload s = refl

body-none : (n : ℕ) (payload : List ℕ) (s : Speech) → say_block (Raw n Body payload) s ≡ None
body-none zero payload s = refl
body-none (suc n) payload s = refl

open-plain : (c : Content) (kind : Kind) (f : Frame) (s : Speech) → is_plain kind ≡ true → block_by_kind kind s ≡ say_block f s
    → ((n class : ℕ) → in_content (MethodSaid n class) f s ≡ say_block f s)
    → ((n missing : ℕ) → in_content (BodyMissing n (suc missing)) f s ≡ None)
    → open_by_kind c kind s ≡ in_content c f s
open-plain NoContent kind f s h same behind inside = same
open-plain (MethodSaid n class) kind f s h same behind inside = behind-plain n class kind s h ∙ same ∙ sym (behind n class)
open-plain (BodyMissing n zero) kind f s h same behind inside = same
open-plain (BodyMissing n (suc missing)) kind f s h same behind inside = missing-some n missing kind s ∙ in-plain n (suc missing) kind s h ∙ sym (inside n missing)

tests-as : (a b c d : Bool) (x : Option Speech) → (if b && d then (if a && c then x else None) else None) ≡ (if a && (b && (c && d)) then x else None)
tests-as true true true d x = by d where
  by : (d : Bool) → (if d then x else None) ≡ (if d then x else None)
  by d = refl
tests-as true true false true x = refl
tests-as true true false false x = refl
tests-as true false c d x = refl
tests-as false true c true x = refl
tests-as false true c false x = refl
tests-as false false c d x = refl

header-block : (n : ℕ) (payload : List ℕ) (s : Speech) → block_by_kind (header_kind n payload) s ≡ say_block (Raw n Header payload) s
header-block n payload s = by (nat_le 14 (length payload) && weight_in payload == 0) ∙ sym (header-none n payload s)
  where
    by : (b : Bool) → block_by_kind (if b then k.Header n (class_in payload) (body_size_in payload) else k.Other) s ≡ None
    by true = refl
    by false = refl

open-header : (c : Content) (n : ℕ) (payload : List ℕ) (s : Speech) → open_by_kind c (header_kind n payload) s ≡ in_content c (Raw n Header payload) s
open-header NoContent n payload s = header-block n payload s
open-header (MethodSaid o class) n payload s =
    row (nat_le 14 (length payload) && weight_in payload == 0)
    ∙ tests-as (n == o) (nat_le 14 (length payload)) (class_in payload == class) (weight_in payload == 0) (Some (record s { content = BodyMissing o (body_size_in payload) }))
  where
    row : (b : Bool) → behind_method o class (if b then k.Header n (class_in payload) (body_size_in payload) else k.Other) s
        ≡ (if b then (if n == o && class_in payload == class then Some (record s { content = BodyMissing o (body_size_in payload) }) else None) else None)
    row true = refl
    row false = refl
open-header (BodyMissing o zero) n payload s = header-block n payload s
open-header (BodyMissing o (suc missing)) n payload s = missing-some o missing (header_kind n payload) s ∙ by (nat_le 14 (length payload) && weight_in payload == 0) where
  by : (b : Bool) → in_body o (suc missing) (if b then k.Header n (class_in payload) (body_size_in payload) else k.Other) s ≡ None
  by true = refl
  by false = refl

open-body : (c : Content) (n : ℕ) (payload : List ℕ) (s : Speech) → open_by_kind c (k.Body n (length payload)) s ≡ in_content c (Raw n Body payload) s
open-body NoContent n payload s = sym (body-none n payload s)
open-body (MethodSaid o class) n payload s = sym (body-none n payload s)
open-body (BodyMissing o zero) n payload s = sym (body-none n payload s)
open-body (BodyMissing o (suc missing)) n payload s = missing-some o missing (k.Body n (length payload)) s

-- what a frame on another channel than 0 is
on-channel : (n : ℕ) (a b : Kind) → (if suc n == 0 then a else b) ≡ b
on-channel n a b = ap (λ t. if t then a else b) (other-number (suc n) 0 (λ e. absurd (omega (arith, e))))

-- once the connection is opened
open-same : (c : Content) (f : Frame) (s : Speech) → open_by_kind c (frame_kind f) s ≡ in_content c f s
open-same c (ProtocolHeader v) s = open-plain c k.Other (ProtocolHeader v) s refl refl (λ n class. refl) (λ n missing. refl)
open-same c (Method zero method) s =
    open-plain c (connection_kind method) (Method zero method) s (plain-connection method) (block-connection method s) (λ n class. refl) (λ n missing. refl)
open-same c (Method (suc n) method) s =
    ap (λ kind. open_by_kind c kind s) (on-channel n (connection_kind method) (channel_kind (suc n) method)) ∙ open-plain c (channel_kind (suc n) method) (Method (suc n) method) s (plain-channel (suc n) method) (block-channel n method s) (λ n class. refl) (λ n missing. refl)
open-same c (Raw zero RawMethod payload) s = open-plain c k.Other (Raw zero RawMethod payload) s refl refl (λ n class. refl) (λ n missing. refl)
open-same c (Raw (suc n) RawMethod payload) s =
    ap (λ kind. open_by_kind c kind s) (on-channel n k.Other (raw_kind (suc n) payload)) ∙ open-plain c (raw_kind (suc n) payload) (Raw (suc n) RawMethod payload) s (plain-raw (suc n) payload) (block-raw n payload s) (λ n class. refl) (λ n missing. refl)
open-same c (Raw n Header payload) s = open-header c n payload s
open-same c (Raw n Body payload) s = open-body c n payload s
open-same c Heartbeat s = open-plain c k.Quiet Heartbeat s refl refl (λ n class. refl) (λ n missing. refl)

-- ---- stages

-- what is not our close-ok
abbrev by-kind : Stage → Kind → Speech → Option Speech
by-kind g kind s = if is_close_ok_kind kind then close_ok_at g s else stage_by_kind g kind s

-- a kind that leads on in no introduction, and is no close-ok
abbrev is_late : Kind → Bool
is_late k.StartOk = false
is_late k.SecureOk = false
is_late k.TuneOk = false
is_late k.Open = false
is_late k.CloseOk = false
is_late _ = true

late-none : (g : Stage) (kind : Kind) → is_late kind ≡ true → introduced g kind ≡ None
late-none g k.StartOk h = cc
late-none g k.SecureOk h = cc
late-none g k.TuneOk h = cc
late-none g k.Open h = cc
late-none g k.CloseOk h = cc
late-none HeaderSaid _ h = refl
late-none StartOkSaid _ h = refl
late-none TuneOkSaid _ h = refl
late-none OpenSaid _ h = refl
late-none CloseSaid _ h = refl
late-none CloseOkSaid _ h = refl

late-close_ok : (kind : Kind) → is_late kind ≡ true → is_close_ok_kind kind ≡ false
late-close_ok k.CloseOk h = cc
late-close_ok _ h = refl

-- a frame that is said once the connection is opened, or never
late-same : (g : Stage) (kind : Kind) (f : Frame) (s : Speech) → is_late kind ≡ true
    → ((h : Stage) → h ≢ OpenSaid → in_stage h f s ≡ None) → open_by_kind s.content kind s ≡ in_stage OpenSaid f s → by-kind g kind s ≡ in_stage g f s
late-same g kind f s late early opened = first ∙ second g where
  first : by-kind g kind s ≡ stage_by_kind g kind s
  first = ap (λ b. if b then close_ok_at g s else stage_by_kind g kind s) (late-close_ok kind late)

  none : (h : Stage) → to_stage (introduced h kind) s ≡ None
  none h = ap (λ o. to_stage o s) (late-none h kind late)

  second : (h : Stage) → stage_by_kind h kind s ≡ in_stage h f s
  second HeaderSaid = none HeaderSaid ∙ sym (early HeaderSaid (λ e. absurd cc))
  second StartOkSaid = none StartOkSaid ∙ sym (early StartOkSaid (λ e. absurd cc))
  second TuneOkSaid = none TuneOkSaid ∙ sym (early TuneOkSaid (λ e. absurd cc))
  second OpenSaid = opened
  second CloseSaid = none CloseSaid ∙ sym (early CloseSaid (λ e. absurd cc))
  second CloseOkSaid = none CloseOkSaid ∙ sym (early CloseOkSaid (λ e. absurd cc))

late-raw : (n : ℕ) (payload : List ℕ) → is_late (raw_kind n payload) ≡ true
late-raw n payload = by (is_passed_through payload) where
  by : (b : Bool) → is_late (if b then k.Passed n (class_in payload) else k.Other) ≡ true
  by true = refl
  by false = refl

late-header : (n : ℕ) (payload : List ℕ) → is_late (header_kind n payload) ≡ true
late-header n payload = by (nat_le 14 (length payload) && weight_in payload == 0) where
  by : (b : Bool) → is_late (if b then k.Header n (class_in payload) (body_size_in payload) else k.Other) ≡ true
  by true = refl
  by false = refl

late-channel : (n : ℕ) (method : AnyMethod) → is_late (channel_kind n method) ≡ true
late-channel n m.ChannelOpen = refl
late-channel n _ = refl

stage-connection : (g : Stage) (method : AnyMethod) (s : Speech) → g ≡ s.stage → by-kind g (connection_kind method) s ≡ in_stage g (Method zero method) s
stage-connection HeaderSaid m.CloseOk s e = refl
stage-connection HeaderSaid _ s e = refl
stage-connection StartOkSaid m.CloseOk s e = refl
stage-connection StartOkSaid (m.SecureOk response) s e = ap (λ (g : Stage). Some (record s { stage = g })) e
stage-connection StartOkSaid _ s e = refl
stage-connection TuneOkSaid m.CloseOk s e = refl
stage-connection TuneOkSaid _ s e = refl
stage-connection OpenSaid m.CloseOk s e = refl
stage-connection OpenSaid method s e = open-same s.content (Method zero method) s
stage-connection CloseSaid m.CloseOk s e = refl
stage-connection CloseSaid _ s e = refl
stage-connection CloseOkSaid m.CloseOk s e = refl
stage-connection CloseOkSaid _ s e = refl

early-channel : (n : ℕ) (method : AnyMethod) (s : Speech) (h : Stage) → h ≢ OpenSaid → in_stage h (Method (suc n) method) s ≡ None
early-channel n method s HeaderSaid e = refl
early-channel n method s StartOkSaid e = refl
early-channel n method s TuneOkSaid e = refl
early-channel n method s OpenSaid e = absurd (e refl)
early-channel n method s CloseSaid e = refl
early-channel n method s CloseOkSaid e = refl

early-raw : (n : ℕ) (kind : RawKind) (payload : List ℕ) (s : Speech) (h : Stage) → h ≢ OpenSaid → in_stage h (Raw n kind payload) s ≡ None
early-raw n kind payload s HeaderSaid e = refl
early-raw n kind payload s StartOkSaid e = refl
early-raw n kind payload s TuneOkSaid e = refl
early-raw n kind payload s OpenSaid e = absurd (e refl)
early-raw n kind payload s CloseSaid e = refl
early-raw n kind payload s CloseOkSaid e = refl

early-beat : (s : Speech) (h : Stage) → h ≢ OpenSaid → in_stage h Heartbeat s ≡ None
early-beat s HeaderSaid e = refl
early-beat s StartOkSaid e = refl
early-beat s TuneOkSaid e = refl
early-beat s OpenSaid e = absurd (e refl)
early-beat s CloseSaid e = refl
early-beat s CloseOkSaid e = refl

early-header : (v : ProtocolVersion) (s : Speech) (h : Stage) → h ≢ OpenSaid → in_stage h (ProtocolHeader v) s ≡ None
early-header v s HeaderSaid e = refl
early-header v s StartOkSaid e = refl
early-header v s TuneOkSaid e = refl
early-header v s OpenSaid e = absurd (e refl)
early-header v s CloseSaid e = refl
early-header v s CloseOkSaid e = refl

stage-same : (g : Stage) (f : Frame) (s : Speech) → g ≡ s.stage → by-kind g (frame_kind f) s ≡ in_stage g f s
stage-same g (ProtocolHeader v) s e = late-same g k.Other (ProtocolHeader v) s refl (early-header v s) (open-same s.content (ProtocolHeader v) s)
stage-same g (Method zero method) s e = stage-connection g method s e
stage-same g (Method (suc n) method) s e =
    let is = on-channel n (connection_kind method) (channel_kind (suc n) method) in
    ap (λ kind. by-kind g kind s) is
    ∙ late-same g (channel_kind (suc n) method) (Method (suc n) method) s (late-channel (suc n) method) (early-channel n method s)
    (ap (λ kind. open_by_kind s.content kind s) (sym is) ∙ open-same s.content (Method (suc n) method) s)
stage-same g (Raw zero RawMethod payload) s e = late-same g k.Other (Raw zero RawMethod payload) s refl (early-raw zero RawMethod payload s) (open-same s.content (Raw zero RawMethod payload) s)
stage-same g (Raw (suc n) RawMethod payload) s e =
    let is = on-channel n k.Other (raw_kind (suc n) payload) in
    ap (λ kind. by-kind g kind s) is
    ∙ late-same g (raw_kind (suc n) payload) (Raw (suc n) RawMethod payload) s (late-raw (suc n) payload) (early-raw (suc n) RawMethod payload s)
    (ap (λ kind. open_by_kind s.content kind s) (sym is) ∙ open-same s.content (Raw (suc n) RawMethod payload) s)
stage-same g (Raw n Header payload) s e = late-same g (header_kind n payload) (Raw n Header payload) s (late-header n payload) (early-raw n Header payload s) (open-same s.content (Raw n Header payload) s)
stage-same g (Raw n Body payload) s e = late-same g (k.Body n (length payload)) (Raw n Body payload) s refl (early-raw n Body payload s) (open-same s.content (Raw n Body payload) s)
stage-same g Heartbeat s e = late-same g k.Quiet Heartbeat s refl (early-beat s) (open-same s.content Heartbeat s)

-- what may be said by what a frame is, is what may be said
pub kind-says : (f : Frame) (s : Speech) → say_by_kind (frame_kind f) s ≡ say f s
kind-says f s = stage-same s.stage f s refl
