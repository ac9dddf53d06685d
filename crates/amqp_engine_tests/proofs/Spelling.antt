-- Which octets spell what may be said.
use Rattle.std.proofs.Common.{◌≡◌, ◌≢◌, ◌≤◌, ◌∙◌, sym, subst, refl, ℕ, true, false, true≢false, List, [], ◌∷◌, ◌++◌, length, append-nil, arith}
use Rattle.std.specs.List.{AllByRecursion}
use Rattle.amqp_frame.specs.declared.frame.Frame.{Frame}
use Rattle.amqp_frame.specs.declared.frame.Frame.TheVariants.{Method}
use Rattle.amqp_frame.specs.declared.frame.Read.TheVariants.{Whole}
use Rattle.amqp_frame.specs.declared.method.Method.TheVariants.{StartOk, TuneOk, Open, ChannelOpen}
use Rattle.amqp_frame.specs.FrameReading.{front}
use Rattle.amqp_frame.specs.Frames.{encoding, FrameOf}
use Rattle.amqp_frame.specs.Fronts.{IsWithinLimit}
use Rattle.amqp_frame.specs.Rules.{KeepsRules}
use Rattle.amqp_frame.specs.Sequences.{IsNoFrame, Stand, SequenceEnd, IsSequence}
use Rattle.amqp_frame.specs.Sequences.SequenceEnd.{Complete, Broken}
use Rattle.amqp_frame.proofs.FrontLaws.{front_again}
use Rattle.amqp_frame.proofs.Sequences.{sequence-same}
use Rattle.amqp_frame.proofs.Written.{frame_written}
use Rattle.amqp_legal.specs.Legal.{Legal, amqp_header}
use Rattle.amqp_legal.specs.Decider.{is_legal}
use Rattle.amqp_legal.proofs.TakenIsLegal.{sound}
use Rattle.amqp_legal.proofs.LegalIsTaken.{complete}
use Rattle.amqp_engine.specs.Sending.{Sending, frames, items_sent, frames_sent, link_bytes, encodings}
use Rattle.amqp_engine.specs.Saying.{IsReadBack, SpellLegal}
use Rattle.amqp_engine.proofs.SpelledLinks.{IsReadable, stands-first, read-any}
use Rattle.amqp_engine_tests.specs.Links.{greeting, opening_of_0, opens_0, greeted_link}

-- the greatest length of a frame
abbrev most : ℕ
most = 4294967295

-- ---- one link

one-is : (x y : List ℕ) → x ∷ [] ≡ y ∷ [] → x ≡ y
one-is x y h = cc

-- the frames that a link is read as are those that were sent, and they are legal
record IsRead (octets : List ℕ) : Type 0 where
  sent : List Frame
  legal : Legal sent
  place : ℕ
  ending : SequenceEnd
  not_broken : ending ≢ Broken
  reads : IsSequence octets most sent place ending

read-of : (ss : List Sending) (octets : List ℕ) → SpellLegal ss (octets ∷ []) → IsRead octets
read-of [] octets h = absurd (let none = h.bytes in cc)
read-of (s ∷ []) octets h =
    let back : IsReadBack most s = read-any s h.order.0 h.writable.0 in
    let same : octets ≡ link_bytes s = one-is octets (link_bytes s) h.bytes in
    let place : ℕ = length (encodings (items_sent s)) in
    let P : List ℕ → Type 0 = λ xs. IsSequence xs most (frames_sent s) place back.ending in
    record {
      sent = frames_sent s;
      legal = h.legal.0;
      place = place;
      ending = back.ending;
      not_broken = back.not_broken;
      reads = subst P (sym same) back.reads;
    }
read-of (s ∷ r ∷ ss) octets h = absurd (let more = h.bytes in cc)

-- ---- frames that can be written

readable : (f : Frame) → KeepsRules f → length (encoding f) ≤ 4096 → IsWithinLimit most (length (encoding f)) f → IsReadable most f
readable f keeps short within = ((frame_written f keeps (omega (arith, short)), omega (arith, short)), within)

all-readable : AllByRecursion (IsReadable most) (frames opening_of_0)
all-readable = (
  readable amqp_header (omega arith, omega arith, omega arith) (omega arith) tt,
  (
    readable (Method 0 (StartOk [] [] [] [])) (omega arith, ((tt, tt, omega arith), omega arith, omega arith)) (omega arith) (omega arith),
    (
      readable (Method 0 (TuneOk 0 0 0)) (omega arith, (omega arith, omega arith, omega arith)) (omega arith) (omega arith),
      (
        readable (Method 0 (Open [])) (omega arith, omega arith) (omega arith) (omega arith),
        (readable (Method 0 ChannelOpen) (omega arith, tt) (omega arith) (omega arith), tt),
      ),
    ),
  ),
)

-- ---- what may not be said

opening : IsSequence opens_0 most (frames opening_of_0) (length opens_0) Complete
opening =
    let stand = stands-first most opening_of_0 [] all-readable in
    let P : List ℕ → Type 0 = λ xs. Stand xs most 0 (frames opening_of_0) (length opens_0) in
    (subst P (append-nil opens_0) stand, refl)

pub opens-0-not-spelled : (ss : List Sending) → SpellLegal ss (opens_0 ∷ []) → ⊥
opens-0-not-spelled ss h =
    let r = read-of ss opens_0 h in
    let same = sequence-same opens_0 most r.place (length opens_0) r.sent (frames opening_of_0) r.ending Complete r.reads opening in
    let taken : is_legal (frames opening_of_0) ≡ true = complete (frames opening_of_0) (subst Legal same.0 r.legal) in
    let refused : is_legal (frames opening_of_0) ≡ false = refl in
    true≢false (sym taken ∙ refused)

greeting-of : FrameOf amqp_header greeting
greeting-of = frame_written amqp_header (omega arith, omega arith, omega arith) (omega arith)

pub no-frame-not-spelled : (ss : List Sending) (octets : List ℕ) → IsNoFrame (front octets most) → SpellLegal ss ((greeting ++ octets) ∷ []) → ⊥
no-frame-not-spelled ss octets none h =
    let r = read-of ss (greeting ++ octets) h in
    let first : front (greeting ++ octets) most ≡ Whole amqp_header 8 = front_again amqp_header greeting octets most greeting-of tt in
    let broken : IsSequence (greeting ++ octets) most (amqp_header ∷ []) 8 Broken = ((8, first, refl), none) in
    let same = sequence-same (greeting ++ octets) most r.place 8 r.sent (amqp_header ∷ []) r.ending Broken r.reads broken in
    r.not_broken same.2

-- ---- what may be said

pub greeting-spelled : SpellLegal (greeted_link ∷ []) (greeting ∷ [])
greeting-spelled =
    let legal : Legal (amqp_header ∷ []) = sound (amqp_header ∷ []) refl in
    record {
      bytes = refl;
      order = (record { last = []; begun = refl; bytes = refl }, tt);
      legal = (legal, tt);
      committed = (legal, tt);
      agreed = ((tt, tt), tt);
      writable = (((greeting-of, omega arith), tt), tt);
    }
