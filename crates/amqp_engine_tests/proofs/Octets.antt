-- The octets of frames spell these frames, and a part of a frame spells none.
use Rattle.std.proofs.Common.{◌≡◌, ◌<◌, ◌^◌, ℕ, List, [], ◌∷◌, ◌++◌, if◌then◌else◌, length, length-append, append_assoc, take, drop, refl, ap, sym, ◌∙◌, subst, arith}
use Rattle.std.proofs.lemmas.List.{append_cancel_left}
use Rattle.std.specs.List.{flat_map}
use Rattle.amqp_frame.specs.declared.frame.Frame.{Frame}
use Rattle.amqp_frame.specs.declared.frame.Frame.TheVariants.{Heartbeat}
use Rattle.amqp_frame.specs.Frames.{encoding, FrameOf, IsOtherMethod}
use Rattle.amqp_frame.specs.Rules.{KeepsRules}
use Rattle.amqp_frame.proofs.Written.{frame_written}
use Rattle.amqp_frame.proofs.FrontLaws.{one_frame}
use Rattle.amqp_faultless.specs.Faultless.{opens_connection}
use Rattle.amqp_engine.specs.Valid.{SpelledFrame, AreSpelled, AreFrames}
use Rattle.amqp_engine_tests.specs.Scripts.{started, tuned, opened, blocked, unblocked, answered, closed, channel_opened, channel_closed, channel_answered, secret_taken, deliver, delivering, header_comes, body_comes, heartbeat}

-- the octets are the written ones
spells : (s : SpelledFrame) → KeepsRules s.frame → length (encoding s.frame) < 2 ^ 32 → encoding s.frame ≡ s.octets → FrameOf s.frame s.octets
spells s keeps short is =
    let P : List ℕ → Type 0 = λ bytes. FrameOf s.frame bytes in
    subst P is (frame_written s.frame keeps short)

pub started-spells : FrameOf started.frame started.octets
started-spells =
    spells started (
      omega arith,
      (
        omega arith,
        omega arith,
        (
          (refl, (tt, tt)),
          (omega arith, ((tt, tt), (omega arith, tt, tt)), (omega arith, tt, tt)),
          omega arith,
        ),
      ),
    ) (omega arith) refl

pub tuned-spells : FrameOf tuned.frame tuned.octets
tuned-spells = spells tuned (omega arith, (omega arith, omega arith, omega arith)) (omega arith) refl

pub opened-spells : FrameOf opened.frame opened.octets
opened-spells = spells opened (omega arith, tt) (omega arith) refl

pub blocked-spells : FrameOf blocked.frame blocked.octets
blocked-spells = spells blocked (omega arith, omega arith) (omega arith) refl

pub unblocked-spells : FrameOf unblocked.frame unblocked.octets
unblocked-spells = spells unblocked (omega arith, tt) (omega arith) refl

pub answered-spells : FrameOf answered.frame answered.octets
answered-spells = spells answered (omega arith, tt) (omega arith) refl

pub closed-spells : FrameOf closed.frame closed.octets
closed-spells = spells closed (omega arith, (omega arith, omega arith, omega arith, omega arith)) (omega arith) refl

pub channel-opened-spells : FrameOf channel_opened.frame channel_opened.octets
channel-opened-spells = spells channel_opened (omega arith, tt) (omega arith) refl

pub channel-closed-spells : FrameOf channel_closed.frame channel_closed.octets
channel-closed-spells =
    spells channel_closed (omega arith, (omega arith, omega arith, omega arith, omega arith)) (omega arith) refl

pub channel-answered-spells : FrameOf channel_answered.frame channel_answered.octets
channel-answered-spells = spells channel_answered (omega arith, tt) (omega arith) refl

pub secret-taken-spells : FrameOf secret_taken.frame secret_taken.octets
secret-taken-spells = spells secret_taken (omega arith, tt) (omega arith) refl

-- its payload is one of a class that is passed through
deliver-passes : IsOtherMethod deliver
deliver-passes = (
  60,
  60,
  λ h. omega (arith, h),
  λ h. omega (arith, h),
  (
    0 ∷ 60 ∷ [],
    drop 2 deliver,
    refl,
    (omega arith, refl),
    (0 ∷ 60 ∷ [], drop 4 deliver, refl, (omega arith, refl), tt),
  ),
)

pub delivering-spells : FrameOf delivering.frame delivering.octets
delivering-spells = spells delivering (omega arith, deliver-passes) (omega arith) refl

pub header-comes-spells : FrameOf header_comes.frame header_comes.octets
header-comes-spells = spells header_comes (omega arith, omega arith) (omega arith) refl

pub body-comes-spells : FrameOf body_comes.frame body_comes.octets
body-comes-spells = spells body_comes (omega arith, tt) (omega arith) refl

pub heartbeat-spells : FrameOf heartbeat.frame heartbeat.octets
heartbeat-spells = refl

pub two-heartbeats : AreFrames 131072 (heartbeat.octets ++ heartbeat.octets) (heartbeat ∷ heartbeat ∷ [])
two-heartbeats = record { joined = refl; frames = (refl, omega arith, (refl, omega arith, tt)) }

-- the octets of the frames after the first
abbrev later : List SpelledFrame → List ℕ
later rest = flat_map (λ (s : SpelledFrame). s.octets) rest

-- a heartbeat without its last octet is no frame, since no frame begins another
pub part-of-heartbeat : (spelled : List SpelledFrame) → AreFrames 131072 (take 7 heartbeat.octets) spelled → ⊥
part-of-heartbeat [] are = let none : take 7 heartbeat.octets ≡ [] = are.joined in cc
part-of-heartbeat (s ∷ rest) are =
    let joined : take 7 heartbeat.octets ≡ s.octets ++ later rest = are.joined in
    let whole : heartbeat.octets ++ [] ≡ s.octets ++ (later rest ++ 206 ∷ []) =
    ap (λ (bytes : List ℕ). bytes ++ 206 ∷ []) joined ∙ append_assoc s.octets (later rest) (206 ∷ []) in
    let same = one_frame Heartbeat s.frame heartbeat.octets s.octets [] (later rest ++ 206 ∷ []) refl are.frames.0 whole in
    let eight : 8 ≡ length s.octets = ap length same.1 in
    let seven : 7 ≡ length (s.octets ++ later rest) = ap length joined in
    absurd (omega (arith, eight, seven, length-append s.octets (later rest)))

-- no frame has no octets, since no frame begins another
no-octets : (s : SpelledFrame) → FrameOf s.frame s.octets → s.octets ≡ [] → ⊥
no-octets s is none =
    let same = one_frame s.frame Heartbeat s.octets heartbeat.octets heartbeat.octets [] is refl (ap (λ (bytes : List ℕ). bytes ++ heartbeat.octets) none) in
    let both : heartbeat.octets ≡ [] = sym same.1 ∙ none in
    cc

nothing-first : (xs ys : List ℕ) → [] ≡ xs ++ ys → xs ≡ []
nothing-first [] ys h = refl
nothing-first (x ∷ xs) ys h = cc

-- the same bytes are spellings of no other frames
pub one-reading : (most most' agreed agreed' : ℕ) (xs ys : List SpelledFrame) → AreSpelled most agreed xs → AreSpelled most' agreed' ys → later xs ≡ later ys → xs ≡ ys
one-reading most most' agreed agreed' [] [] are are' h = refl
one-reading most most' agreed agreed' [] (r ∷ ys) are are' h =
    let joined : [] ≡ r.octets ++ later ys = h in
    absurd (no-octets r are'.0 (nothing-first r.octets (later ys) joined))
one-reading most most' agreed agreed' (s ∷ xs) [] are are' h =
    let joined : [] ≡ s.octets ++ later xs = sym h in
    absurd (no-octets s are.0 (nothing-first s.octets (later xs) joined))
one-reading most most' agreed agreed' (s ∷ xs) (r ∷ ys) are are' h =
    let joined : s.octets ++ later xs ≡ r.octets ++ later ys = h in
    let one = one_frame s.frame r.frame s.octets r.octets (later xs) (later ys) are.0 are'.0 joined in
    let made : List ℕ → Frame → SpelledFrame = λ octets frame. record { octets = octets; frame = frame } in
    let same : s ≡ r = ap (λ (octets : List ℕ). made octets s.frame) one.1 ∙ ap (made r.octets) one.0 in
    let rest : later xs ≡ later ys =
    append_cancel_left s.octets (later xs) (later ys) (joined ∙ ap (λ (bytes : List ℕ). bytes ++ later ys) (sym one.1)) in
    let others = one-reading (if opens_connection s.frame then agreed else most) (if opens_connection r.frame then agreed' else most') agreed agreed' xs ys are.2 are'.2 rest in
    ap (λ (x : SpelledFrame). x ∷ xs) same ∙ ap (λ (zs : List SpelledFrame). r ∷ zs) others
