-- The octets of a link spell what was said on it: they are read back as the frames that were sent.
use Rattle.std.proofs.Common.{◌≡◌, ◌≢◌, ◌⊎◌, inl, inr, ◌≤◌, ◌<◌, ◌∙◌, ap, sym, subst, refl, ℕ, zero, suc, ◌+◌, Bool, true, false, List, [], ◌∷◌, ◌++◌, length, drop, take, append_assoc, append-nil, length-append, arith}
use Rattle.std.proofs.Math.Seq.{drop-append_seam}
use Rattle.std.specs.List.{AllByRecursion}
use Rattle.amqp_frame.specs.declared.frame.Frame.{Frame}
use Rattle.amqp_frame.specs.declared.frame.Frame.TheVariants.{ProtocolHeader, Method, Raw, Heartbeat}
use Rattle.amqp_frame.specs.declared.frame.Read.{Read}
use Rattle.amqp_frame.specs.declared.frame.Read.TheVariants.{Whole, More, TooLarge, BadHeartbeat, Bad, NoMemory}
use Rattle.amqp_frame.specs.FrameReading.{front}
use Rattle.amqp_frame.specs.Frames.{encoding, Writable}
use Rattle.amqp_frame.specs.Fronts.{IsWithinLimit}
use Rattle.amqp_frame.specs.Sequences.{is_more, front_at, Stand}
use Rattle.amqp_frame.specs.Sequences.SequenceEnd.{Complete, Cut}
use Rattle.amqp_frame.proofs.FrontLaws.{front_again}
use Rattle.amqp_frame.proofs.Sequences.{front-stays, frame-size}
use Rattle.amqp_outbox.specs.declared.item.Item.{Item}
use Rattle.amqp_rules.specs.Talk.{Talk, is_open}
use Rattle.amqp_written_rules.specs.Sayable.{CanBeSaid}
use Rattle.amqp_engine.specs.Log.{Log}
use Rattle.amqp_engine.specs.Engine.{Engine, begin}
use Rattle.amqp_engine.specs.Turn.{Turn, AreTold, AreFit, AreTurns}
use Rattle.amqp_engine.specs.Tell.{log_turns}
use Rattle.amqp_engine.specs.Sending.{Sending, frames, encodings, items_sent, frames_sent, link_bytes, sendings, IsBegun, SendsInOrder}
use Rattle.amqp_engine.specs.Saying.{TellsLinks, CommittedWritable, CommittedWithin, IsReadBack, HoldsRest, SpellLegal}
use Rattle.amqp_engine.specs.Account.{IsNew, History, nothing_told, HasHistory}
use Rattle.amqp_engine.proofs.Agreeing.{agrees-all, agrees-bytes}
use Rattle.amqp_engine.proofs.Sends.{Sends, order}
use Rattle.amqp_engine.proofs.LegalLinks.{turns_sent_legal, turns_committed_legal}
use Rattle.amqp_engine.proofs.WrittenLinks.{sent_writable, turns_agreed, turns_writable}
use Rattle.amqp_engine.proofs.GoingOn.{sends-said, told-on}
use Rattle.amqp_engine.proofs.HistoryBegun.{new-history}

-- ---- frame after frame

-- of each frame: it is spelled, and a reader takes it
abbrev pub IsReadable : ℕ → Frame → Type 0
IsReadable limit f = Writable f × IsWithinLimit limit (length (encoding f)) f

-- the frames of some items stand where their spellings do
stands : (limit : ℕ) (items : List Item) (before last : List ℕ) → AllByRecursion (IsReadable limit) (frames items)
    → Stand (before ++ (encodings items ++ last)) limit (length before) (frames items) (length before + length (encodings items))
stands limit [] before last h = omega arith
stands limit (item ∷ items) before last h =
    let f : Frame = item.frame in
    let text : List ℕ = encoding f in
    let rest : List ℕ = encodings items ++ last in
    let bytes : List ℕ = before ++ (encodings (item ∷ items) ++ last) in
    let joined : encodings (item ∷ items) ++ last ≡ text ++ rest = append_assoc text (encodings items) last in
    let behind : drop (length before) bytes ≡ text ++ rest = drop-append_seam before (encodings (item ∷ items) ++ last) ∙ joined in
    let here : front_at bytes limit (length before) ≡ Whole f (length text) =
    ap (λ (xs : List ℕ). front xs limit) behind ∙ front_again f text rest limit h.0.0.0 h.0.1 in
    let same : (before ++ text) ++ rest ≡ bytes = append_assoc before text rest ∙ ap (λ xs. before ++ xs) (sym joined) in
    let B : List ℕ → Type 0 = λ xs. Stand xs limit (length (before ++ text)) (frames items) (length (before ++ text) + length (encodings items)) in
    let later = subst B same (stands limit items (before ++ text) last h.1) in
    let start : length (before ++ text) ≡ length before + length text = length-append before text in
    let end : length (before ++ text) + length (encodings items) ≡ length before + length (encodings (item ∷ items)) =
    omega (arith, start, length-append text (encodings items)) in
    let S : ℕ → Type 0 = λ p. Stand bytes limit p (frames items) (length (before ++ text) + length (encodings items)) in
    let E : ℕ → Type 0 = λ p. Stand bytes limit (length before + length text) (frames items) p in
    (length text, here, subst E end (subst S start later))

-- from the beginning on
pub stands-first : (limit : ℕ) (items : List Item) (last : List ℕ) → AllByRecursion (IsReadable limit) (frames items)
    → Stand (encodings items ++ last) limit 0 (frames items) (length (encodings items))
stands-first limit items last h =
    let same : 0 + length (encodings items) ≡ length (encodings items) = omega arith in
    let E : ℕ → Type 0 = λ p. Stand (encodings items ++ last) limit 0 (frames items) p in
    subst E same (stands limit items [] last h)

more-is : (r : Read) → is_more r ≡ true → r ≡ More
more-is More h = refl
more-is (Whole f n) h = cc
more-is (TooLarge size) h = cc
more-is (BadHeartbeat channel) h = cc
more-is Bad h = cc
more-is NoMemory h = cc

-- a part of a frame, and not the whole of it, needs more octets
part-more : (limit : ℕ) (f : Frame) (part rest : List ℕ) → IsReadable limit f → rest ≢ [] → encoding f ≡ part ++ rest → front part limit ≡ More
part-more limit f part rest h some is = by (is_more (front part limit)) refl where
  whole : front (part ++ rest) limit ≡ Whole f (length (encoding f))
  whole =
      ap (λ (xs : List ℕ). front xs limit) (sym (append-nil (part ++ rest)) ∙ ap (λ xs. xs ++ []) (sym is)) ∙ front_again f (encoding f) [] limit h.0.0 h.1

  filled : (xs : List ℕ) → xs ≢ [] → 0 < length xs
  filled [] none = absurd (none refl)
  filled (x ∷ xs) none = omega arith

  by : (b : Bool) → is_more (front part limit) ≡ b → front part limit ≡ More
  by true more = more-is (front part limit) more
  by false says =
      let other : front part limit ≢ More = λ same. (let both : true ≡ false = sym (ap is_more same) ∙ says in cc) in
      let stays : front part limit ≡ Whole f (length (encoding f)) = sym (front-stays part rest limit other) ∙ whole in
      let size = frame-size part limit (length (encoding f)) f stays in
      let long : length (encoding f) ≤ length part = size.1 in
      absurd (omega (arith, long, ap length is, length-append part rest, filled rest some))

-- ---- a link

all-readable : (limit : ℕ) (fs : List Frame) → AllByRecursion Writable fs → AllByRecursion (λ f. IsWithinLimit limit (length (encoding f)) f) fs
    → AllByRecursion (IsReadable limit) fs
all-readable limit [] h k = tt
all-readable limit (f ∷ fs) h k = ((h.0, k.0), all-readable limit fs h.1 k.1)

readable-taken : (limit n : ℕ) (items : List Item) → AllByRecursion (IsReadable limit) (frames items) → AllByRecursion (IsReadable limit) (frames (take n items))
readable-taken limit zero items h = tt
readable-taken limit (suc n) [] h = tt
readable-taken limit (suc n) (item ∷ items) h = (h.0, readable-taken limit n items h.1)

readable-left : (limit n : ℕ) (items : List Item) → AllByRecursion (IsReadable limit) (frames items) → AllByRecursion (IsReadable limit) (frames (drop n items))
readable-left limit zero items h = h
readable-left limit (suc n) [] h = tt
readable-left limit (suc n) (item ∷ items) h = readable-left limit n items h.1

-- what is left behind the frames that were sent needs more octets, where there is something
ends : (limit : ℕ) (rest : List Item) (last : List ℕ) → IsBegun last rest → AllByRecursion (IsReadable limit) (frames rest) → (last ≡ []) ⊎ ((0 < length last) × (front last limit ≡ More))
ends limit [] last begun h = inl begun
ends limit (item ∷ rest) [] begun h = inl refl
ends limit (item ∷ rest) (o ∷ last) begun h = inr (omega arith, part-more limit item.frame (o ∷ last) begun.0 h.0 begun.1 begun.2)

-- the octets of a link are the frames that were sent, and end with the last or in the midst of the next
pub read-back : (limit : ℕ) (s : Sending) → SendsInOrder s → CommittedWritable s → CommittedWithin limit s → IsReadBack limit s
read-back limit s inorder writable within =
    let all = all-readable limit (frames s.committed) writable within in
    let sent : List Item = items_sent s in
    let last : List ℕ = inorder.last in
    let bytes : List ℕ = encodings sent ++ last in
    let stand : Stand bytes limit 0 (frames sent) (length (encodings sent)) = stands-first limit sent last (readable-taken limit s.sent s.committed all) in
    let B : List ℕ → Type 0 = λ xs. Stand xs limit 0 (frames_sent s) (length (encodings sent)) in
    let here = subst B (sym inorder.bytes) stand in
    let size : length (link_bytes s) ≡ length (encodings sent) + length last = ap length inorder.bytes ∙ length-append (encodings sent) last in
    let left : drop (length (encodings sent)) (link_bytes s) ≡ last = ap (drop (length (encodings sent))) inorder.bytes ∙ drop-append_seam (encodings sent) last in
    elim (ends limit (drop s.sent s.committed) last inorder.begun (readable-left limit s.sent s.committed all)) [
      | inl none ↦
          let whole : length (encodings sent) ≡ length (link_bytes s) = omega (arith, size, ap length none) in
          record { ending = Complete; not_broken = λ is. cc; reads = (here, whole) }
      | inr more ↦
          let some = more.0 in
          let short : length (encodings sent) < length (link_bytes s) = omega (arith, size, some) in
          let cut : front_at (link_bytes s) limit (length (encodings sent)) ≡ More = ap (λ (xs : List ℕ). front xs limit) left ∙ more.1 in
          record { ending = Cut; not_broken = λ is. cc; reads = (here, (short, cut)) }
    ]

-- so does a reader that takes whatever can be written
within-any : (f : Frame) → Writable f → IsWithinLimit 4294967295 (length (encoding f)) f
within-any (ProtocolHeader v) h = tt
within-any (Method n m) h = h.1
within-any (Raw n kind payload) h = h.1
within-any Heartbeat h = h.1

all-within : (fs : List Frame) → AllByRecursion Writable fs → AllByRecursion (λ f. IsWithinLimit 4294967295 (length (encoding f)) f) fs
all-within [] h = tt
all-within (f ∷ fs) h = (within-any f h.0, all-within fs h.1)

pub read-any : (s : Sending) → SendsInOrder s → CommittedWritable s → IsReadBack 4294967295 s
read-any s inorder writable = read-back 4294967295 s inorder writable (all-within (frames s.committed) writable)

-- the same of all links
each-read-back : (limit : ℕ) (ss : List Sending) → AllByRecursion SendsInOrder ss → AllByRecursion CommittedWritable ss → AllByRecursion (CommittedWithin limit) ss
    → AllByRecursion (IsReadBack limit) ss
each-read-back limit [] inorder writable within = tt
each-read-back limit (s ∷ ss) inorder writable within = (read-back limit s inorder.0 writable.0 within.0, each-read-back limit ss inorder.1 writable.1 within.1)

pub all-read-back : (limit : ℕ) (e : Engine) (h : History) → HasHistory e h → CanBeSaid e.talk.config → AllByRecursion (CommittedWithin limit) h.sent
    → AllByRecursion (IsReadBack limit) h.sent
all-read-back limit e h k can within = each-read-back limit h.sent (sends-said e h k).all (sent_writable e h k can) within

-- the greatest limit needs no more than that
each-read-any : (ss : List Sending) → AllByRecursion SendsInOrder ss → AllByRecursion CommittedWritable ss → AllByRecursion (IsReadBack 4294967295) ss
each-read-any [] inorder writable = tt
each-read-any (s ∷ ss) inorder writable = (read-any s inorder.0 writable.0, each-read-any ss inorder.1 writable.1)

pub all-read-any : (e : Engine) (h : History) → HasHistory e h → CanBeSaid e.talk.config → AllByRecursion (IsReadBack 4294967295) h.sent
all-read-any e h k can = each-read-any h.sent (sends-said e h k).all (sent_writable e h k can)

-- ---- what is unsent

sends-hold : (e : Engine) (ss : List Sending) → Sends e ss → is_open e.talk ≡ true → HoldsRest e ss
sends-hold e ss h opened =
    let l = h.last opened in
    let a = l.3 in (
      l.0,
      l.1,
      l.2,
      agrees-all e.talk.committed e.unsent l.1 a ∙ ap (λ xs. xs ++ e.unsent) (sym (agrees-bytes e.talk.committed e.unsent l.1 a)),
    )

pub holds-rest : (e : Engine) (h : History) → HasHistory e h → is_open e.talk ≡ true → HoldsRest e h.sent
holds-rest e h k opened = sends-hold e h.sent (sends-said e h k) opened

-- ---- turns

-- what is claimed of the links of an engine that was new, through its turns
pub turns-spell : (t : Talk) (us : List Turn) (log : Log) → IsNew t → TellsLinks (begin t) [] log → CanBeSaid t.config → AreTurns us (begin t) → AreTold us
    → AreFit us → SpellLegal (sendings t us) (log_turns us (begin t) log).links
turns-spell t us log new tells can may told fit =
    let silent : HasHistory (begin t) nothing_told = new-history t new in
    let sends : Sends (begin t) [] = sends-said (begin t) nothing_told silent in
    record {
      bytes = (told-on us (begin t) [] log may sends tells).links;
      order = order us (begin t) [] may sends;
      legal = turns_sent_legal (begin t) nothing_told us silent may told;
      committed = turns_committed_legal (begin t) nothing_told us silent may told;
      agreed = turns_agreed t us new may;
      writable = turns_writable t us new can may told fit;
    }
