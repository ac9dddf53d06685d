-- A capture has one verdict.
use Rattle.std.proofs.Common.{subst, ◌≡◌, ◌<◌, ◌∙◌, ap, sym, refl, ℕ, suc, List, length, take, drop, arith}
use Rattle.std.proofs.lemmas.List.{take-append-drop}
use Rattle.amqp_frame.specs.declared.frame.Frame.{Frame}
use Rattle.amqp_frame.specs.Sequences.{SequenceEnd, IsSequence}
use Rattle.amqp_frame.specs.Sequences.SequenceEnd.{Complete, Cut, Broken}
use Rattle.amqp_frame.proofs.Sequences.{sequence-same}
use Rattle.amqp_legal.specs.Legal.{Legal}
use Rattle.amqp_legal.proofs.Saying.{front-legal}
use Rattle.amqp_check.specs.Verdicts.{no_limit, IsFirstIllegal, IsVerdict}
use Rattle.amqp_check.specs.declared.capture.Verdict.{Verdict}
use Rattle.amqp_check.specs.declared.capture.Verdict.TheVariants as verdict

-- ---- the conversation

less-same : (m n : ℕ) → (m < n → ⊥) → (n < m → ⊥) → m ≡ n
less-same m n h k = omega (arith, h, k)

first-same : (frames : List Frame) (i j : ℕ) → IsFirstIllegal frames i → IsFirstIllegal frames j → i ≡ j
first-same frames i j a b = less-same i j (λ h. a.illegal (b.least i h)) (λ h. b.illegal (a.least j h))

-- all of a conversation is legal, or a first frame of it is not
never-both : (frames : List Frame) (i : ℕ) → Legal frames → IsFirstIllegal frames i → ⊥
never-both frames i legal is =
    is.illegal (front-legal (take (suc i) frames) (drop (suc i) frames) (subst Legal (sym (take-append-drop (suc i) frames)) legal))

-- ---- the same verdicts, one side after the other

-- of frames and nothing else on both sides
abbrev OnFrames : List Frame → List Frame → Verdict → Type 0
OnFrames said answered (verdict.Legal m n) = Legal said × (m ≡ length said) × (n ≡ length answered)
OnFrames said answered (verdict.Illegal i) = IsFirstIllegal said i
OnFrames said answered _ = ⊥

-- by how the server's side ends
abbrev OnServer : SequenceEnd → ℕ → List Frame → List Frame → Verdict → Type 0
OnServer Broken place said answered v = v ≡ verdict.BadServer place
OnServer Cut place said answered v = v ≡ verdict.CutServer place
OnServer Complete place said answered v = OnFrames said answered v

-- the server's side, and what is said of it
record ByServer (server : List ℕ) (said : List Frame) (v : Verdict) : Type 0 where
  frames : List Frame
  place : ℕ
  ending : SequenceEnd
  side : IsSequence server no_limit frames place ending
  on : OnServer ending place said frames v

-- by how the client's side ends
abbrev OnClient : SequenceEnd → ℕ → List Frame → List ℕ → Verdict → Type 0
OnClient Broken place said server v = v ≡ verdict.BadClient place
OnClient Cut place said server v = v ≡ verdict.CutClient place
OnClient Complete place said server v = ByServer server said v

-- the client's side, and what is said of it
record ByClient (client server : List ℕ) (v : Verdict) : Type 0 where
  frames : List Frame
  place : ℕ
  ending : SequenceEnd
  side : IsSequence client no_limit frames place ending
  on : OnClient ending place frames server v

in-turn : (client server : List ℕ) (v : Verdict) → IsVerdict client server v → ByClient client server v
in-turn client server (verdict.BadClient p) h = record { frames = h.0; place = p; ending = Broken; side = h.1; on = refl }
in-turn client server (verdict.CutClient p) h = record { frames = h.0; place = p; ending = Cut; side = h.1; on = refl }
in-turn client server (verdict.BadServer p) h = record {
  frames = h.0.0;
  place = length client;
  ending = Complete;
  side = h.0.1;
  on = record { frames = h.1.0; place = p; ending = Broken; side = h.1.1; on = refl };
}
in-turn client server (verdict.CutServer p) h = record {
  frames = h.0.0;
  place = length client;
  ending = Complete;
  side = h.0.1;
  on = record { frames = h.1.0; place = p; ending = Cut; side = h.1.1; on = refl };
}
in-turn client server (verdict.Illegal i) h = record {
  frames = h.0;
  place = length client;
  ending = Complete;
  side = h.1;
  on = record { frames = h.2.0; place = length server; ending = Complete; side = h.2.1; on = h.3 };
}
in-turn client server (verdict.Legal m n) h = record {
  frames = h.0;
  place = length client;
  ending = Complete;
  side = h.2;
  on = record { frames = h.1; place = length server; ending = Complete; side = h.3; on = (h.4, h.5, h.6) };
}

-- ---- each is one

on-frames-same : (said answered : List Frame) (v w : Verdict) → OnFrames said answered v → OnFrames said answered w → v ≡ w
on-frames-same said answered (verdict.Legal a b) (verdict.Legal c d) h k = ap (λ n. verdict.Legal n b) (h.1 ∙ sym k.1) ∙ ap (λ n. verdict.Legal c n) (h.2 ∙ sym k.2)
on-frames-same said answered (verdict.Legal a b) (verdict.Illegal i) h k = absurd (never-both said i h.0 k)
on-frames-same said answered (verdict.Illegal i) (verdict.Legal a b) h k = absurd (never-both said i k.0 h)
on-frames-same said answered (verdict.Illegal i) (verdict.Illegal j) h k = ap verdict.Illegal (first-same said i j h k)
on-frames-same said answered (verdict.Legal a b) (verdict.BadClient p) h k = absurd k
on-frames-same said answered (verdict.Legal a b) (verdict.CutClient p) h k = absurd k
on-frames-same said answered (verdict.Legal a b) (verdict.BadServer p) h k = absurd k
on-frames-same said answered (verdict.Legal a b) (verdict.CutServer p) h k = absurd k
on-frames-same said answered (verdict.Illegal i) (verdict.BadClient p) h k = absurd k
on-frames-same said answered (verdict.Illegal i) (verdict.CutClient p) h k = absurd k
on-frames-same said answered (verdict.Illegal i) (verdict.BadServer p) h k = absurd k
on-frames-same said answered (verdict.Illegal i) (verdict.CutServer p) h k = absurd k
on-frames-same said answered (verdict.BadClient p) w h k = absurd h
on-frames-same said answered (verdict.CutClient p) w h k = absurd h
on-frames-same said answered (verdict.BadServer p) w h k = absurd h
on-frames-same said answered (verdict.CutServer p) w h k = absurd h

on-server-same : (ending : SequenceEnd) (place : ℕ) (said answered : List Frame) (v w : Verdict) → OnServer ending place said answered v → OnServer ending place said answered w → v ≡ w
on-server-same Complete place said answered v w h k = on-frames-same said answered v w h k
on-server-same Broken place said answered v w h k = h ∙ sym k
on-server-same Cut place said answered v w h k = h ∙ sym k

by-server-same : (server : List ℕ) (said : List Frame) (v w : Verdict) → ByServer server said v → ByServer server said w → v ≡ w
by-server-same server said v w h k =
    let same = sequence-same server no_limit k.place h.place k.frames h.frames k.ending h.ending k.side h.side in
    let framed = subst (λ (fs : List Frame). OnServer k.ending k.place said fs w) same.0 k.on in
    let placed = subst (λ (p : ℕ). OnServer k.ending p said h.frames w) same.1 framed in
    on-server-same h.ending h.place said h.frames v w h.on (subst (λ (e : SequenceEnd). OnServer e h.place said h.frames w) same.2 placed)

on-client-same : (ending : SequenceEnd) (place : ℕ) (said : List Frame) (server : List ℕ) (v w : Verdict) → OnClient ending place said server v → OnClient ending place said server w → v ≡ w
on-client-same Complete place said server v w h k = by-server-same server said v w h k
on-client-same Broken place said server v w h k = h ∙ sym k
on-client-same Cut place said server v w h k = h ∙ sym k

by-client-same : (client server : List ℕ) (v w : Verdict) → ByClient client server v → ByClient client server w → v ≡ w
by-client-same client server v w h k =
    let same = sequence-same client no_limit k.place h.place k.frames h.frames k.ending h.ending k.side h.side in
    let framed = subst (λ (fs : List Frame). OnClient k.ending k.place fs server w) same.0 k.on in
    let placed = subst (λ (p : ℕ). OnClient k.ending p h.frames server w) same.1 framed in
    on-client-same h.ending h.place h.frames server v w h.on (subst (λ (e : SequenceEnd). OnClient e h.place h.frames server w) same.2 placed)

pub one-verdict : (client server : List ℕ) (v w : Verdict) → IsVerdict client server v → IsVerdict client server w → v ≡ w
one-verdict client server v w h k = by-client-same client server v w (in-turn client server v h) (in-turn client server w k)
