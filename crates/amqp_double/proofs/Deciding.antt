-- What the client's octets decide.
use Rattle.std.proofs.Common.{subst, ◌≡◌, ◌⊎◌, inl, inr, ◌≤◌, ◌<◌, ◌∙◌, ap, sym, refl, ℕ, ◌+◌, Bool, List, [], ◌∷◌, ◌++◌, length, drop, Option, Some, None, IsTrue, is_some, arith, append-nil, append_assoc}
use Rattle.std.proofs.lemmas.Bool.{cases_lt}
use Rattle.std.proofs.lemmas.List.{drop-append-le, drop_all}
use Rattle.amqp_frame.specs.declared.frame.Frame.{Frame}
use Rattle.amqp_frame.specs.declared.frame.Read.{Read}
use Rattle.amqp_frame.specs.declared.frame.Read.TheVariants.{Whole, More, TooLarge, BadHeartbeat, Bad, NoMemory}
use Rattle.amqp_frame.specs.FrameReading.{front}
use Rattle.amqp_frame.specs.Sequences.{front_at, Stand, IsNoFrame}
use Rattle.amqp_frame.proofs.FrontStays.{front-none}
use Rattle.amqp_frame.proofs.Sequences.{front-stays, stand-stays, stand-begins}
use Rattle.amqp_legal.specs.Legal.{Legal}
use Rattle.amqp_legal.proofs.Saying.{front-legal}
use Rattle.amqp_settings.specs.declared.configuration.Configuration.{Configuration}
use Rattle.amqp_double.specs.Replies.{all_replies, ends_closed}
use Rattle.amqp_double.specs.Doubles.{greatest_limit, DoubleState, IsUnexpected, StopsBehind, AnswersClient, with_client}
use Rattle.amqp_double.specs.declared.refusal.Refusal.{Refusal}
use Rattle.amqp_double.specs.declared.refusal.Refusal.TheVariants.{BadBytes, Unexpected}

-- ---- behind what was read no further frame may be said

no-whole : (r : Read) (f : Frame) (n : ℕ) → IsNoFrame r → r ≡ Whole f n → ⊥
no-whole (Whole g m) f n h is = h
no-whole More f n h is = h
no-whole (TooLarge size) f n h is = cc
no-whole (BadHeartbeat channel) f n h is = cc
no-whole Bad f n h is = cc
no-whole NoMemory f n h is = h

no-more : (r : Read) → IsNoFrame r → r ≡ More → ⊥
no-more (Whole g m) h is = h
no-more More h is = h
no-more (TooLarge size) h is = cc
no-more (BadHeartbeat channel) h is = cc
no-more Bad h is = cc
no-more NoMemory h is = h

more-whole : (r : Read) (f : Frame) (n : ℕ) → r ≡ More → r ≡ Whole f n → ⊥
more-whole r f n more whole = cc

whole-frame : (r : Read) (f g : Frame) (m n : ℕ) → r ≡ Whole f m → r ≡ Whole g n → f ≡ g
whole-frame r f g m n one other = cc

legal-next : (frames rest : List Frame) (g : Frame) → Legal (frames ++ g ∷ rest) → Legal (frames ++ g ∷ [])
legal-next frames rest g legal = front-legal (frames ++ g ∷ []) rest (subst Legal (sym (append_assoc frames (g ∷ []) rest)) legal)

no-further : (client : List ℕ) (place later : ℕ) (frames rest : List Frame) (r : Option Refusal) → StopsBehind client place frames r
    → Stand client greatest_limit place rest later → Legal (frames ++ rest) → rest ≡ []
no-further client place later frames [] r stops stand legal = refl
no-further client place later frames (g ∷ rest) None stops stand legal = absurd (more-whole (front_at client greatest_limit place) g stand.0 stops stand.1)
no-further client place later frames (g ∷ rest) (Some (BadBytes p)) stops stand legal =
    absurd (no-whole (front_at client greatest_limit place) g stand.0 stops.1 stand.1)
no-further client place later frames (g ∷ rest) (Some (Unexpected i)) stops stand legal =
    let same : g ≡ stops.1.frame = whole-frame (front_at client greatest_limit place) g stops.1.frame stand.0 stops.1.size stand.1 stops.1.stands in
    absurd (stops.1.illegal (subst (λ (f : Frame). Legal (frames ++ f ∷ [])) same (legal-next frames rest g legal)))

-- ---- the frames that were read, and why no more

both-same : (client : List ℕ) (p q : ℕ) (fs gs : List Frame) (r : Option Refusal) → Stand client greatest_limit 0 fs p → StopsBehind client p fs r
    → Stand client greatest_limit 0 gs q → Legal gs → p ≤ q → (fs ≡ gs) × (p ≡ q)
both-same client p q fs gs r stand stops other legal less =
    let rest = stand-begins client greatest_limit 0 p q fs gs stand other less in
    let none : rest.0 ≡ [] = no-further client p q fs rest.0 r stops rest.2 (subst Legal rest.1 legal) in (
      sym (rest.1 ∙ ap (λ (xs : List Frame). fs ++ xs) none ∙ append-nil fs),
      subst (λ (xs : List Frame). Stand client greatest_limit p xs q) none rest.2,
    )

read-same : (client : List ℕ) (p q : ℕ) (fs gs : List Frame) (r s : Option Refusal) → Stand client greatest_limit 0 fs p → Legal fs → StopsBehind client p fs r
    → Stand client greatest_limit 0 gs q → Legal gs → StopsBehind client q gs s → (fs ≡ gs) × (p ≡ q)
read-same client p q fs gs r s one legal stops other legal' stops' = by (cases_lt q p)
  where
    by : (q < p) ⊎ (p ≤ q) → (fs ≡ gs) × (p ≡ q)
    by (inr less) = both-same client p q fs gs r one stops other legal' less
    by (inl more) = let k = both-same client q p gs fs s other stops' one legal (omega (arith, more)) in (sym k.0, sym k.1)

refusal-same : (client : List ℕ) (place : ℕ) (fs : List Frame) (r s : Option Refusal) → StopsBehind client place fs r → StopsBehind client place fs s → r ≡ s
refusal-same client place fs None None one other = refl
refusal-same client place fs None (Some (BadBytes q)) one other = absurd (no-more (front_at client greatest_limit place) other.1 one)
refusal-same client place fs None (Some (Unexpected j)) one other =
    absurd (more-whole (front_at client greatest_limit place) other.1.frame other.1.size one other.1.stands)
refusal-same client place fs (Some (BadBytes p)) None one other = absurd (no-more (front_at client greatest_limit place) one.1 other)
refusal-same client place fs (Some (BadBytes p)) (Some (BadBytes q)) one other = ap (λ (n : ℕ). Some (BadBytes n)) (one.0 ∙ sym other.0)
refusal-same client place fs (Some (BadBytes p)) (Some (Unexpected j)) one other =
    absurd (no-whole (front_at client greatest_limit place) other.1.frame other.1.size one.1 other.1.stands)
refusal-same client place fs (Some (Unexpected i)) None one other =
    absurd (more-whole (front_at client greatest_limit place) one.1.frame one.1.size other one.1.stands)
refusal-same client place fs (Some (Unexpected i)) (Some (BadBytes q)) one other =
    absurd (no-whole (front_at client greatest_limit place) one.1.frame one.1.size other.1 one.1.stands)
refusal-same client place fs (Some (Unexpected i)) (Some (Unexpected j)) one other = ap (λ (n : ℕ). Some (Unexpected n)) (one.0 ∙ sym other.0)

-- ---- all of a double

abbrev state : Configuration → List ℕ → ℕ → ℕ → Option Refusal → List ℕ → ℕ → Bool → DoubleState
state numbers client read frames refusal said sent closed = record {
  numbers = numbers;
  client = client;
  read = read;
  frames = frames;
  refusal = refusal;
  said = said;
  sent = sent;
  closed = closed;
}

pub decided : (one other : DoubleState) → AnswersClient one → AnswersClient other → one.client ≡ other.client → one.numbers ≡ other.numbers → record one { sent = other.sent } ≡ other
decided one other (fs, a, stops) (gs, b, stops') client numbers =
    let stand' : Stand one.client greatest_limit 0 gs other.read = subst (λ (c : List ℕ). Stand c greatest_limit 0 gs other.read) (sym client) b.stand in
    let behind' : StopsBehind one.client other.read gs other.refusal = subst (λ (c : List ℕ). StopsBehind c other.read gs other.refusal) (sym client) stops' in
    let same = read-same one.client one.read other.read fs gs one.refusal other.refusal a.stand a.legal stops stand' b.legal behind' in
    let behind : StopsBehind one.client other.read gs one.refusal =
    subst (λ (fs : List Frame). StopsBehind one.client other.read fs one.refusal) same.0
    (subst (λ (p : ℕ). StopsBehind one.client p fs one.refusal) same.1 stops) in
    let read : one.read ≡ other.read = same.1 in
    let count : one.frames ≡ other.frames = a.count ∙ ap length same.0 ∙ sym b.count in
    let refusal : one.refusal ≡ other.refusal = refusal-same one.client other.read gs one.refusal other.refusal behind behind' in
    let said : one.said ≡ other.said =
    a.said ∙ ap (λ (c : Configuration). all_replies c fs) numbers ∙ ap (λ (xs : List Frame). all_replies other.numbers xs) same.0 ∙ sym b.said in
    let closed : one.closed ≡ other.closed = a.closed ∙ ap ends_closed same.0 ∙ sym b.closed in
    ap (λ (x : Configuration). state x one.client one.read one.frames one.refusal one.said other.sent one.closed) numbers
    ∙ ap (λ (x : List ℕ). state other.numbers x one.read one.frames one.refusal one.said other.sent one.closed) client
    ∙ ap (λ (x : ℕ). state other.numbers other.client x one.frames one.refusal one.said other.sent one.closed) read
    ∙ ap (λ (x : ℕ). state other.numbers other.client other.read x one.refusal one.said other.sent one.closed) count
    ∙ ap (λ (x : Option Refusal). state other.numbers other.client other.read other.frames x one.said other.sent one.closed) refusal
    ∙ ap (λ (x : List ℕ). state other.numbers other.client other.read other.frames other.refusal x other.sent one.closed) said
    ∙ ap (λ (x : Bool). state other.numbers other.client other.read other.frames other.refusal other.said other.sent x) closed

-- ---- more octets

no-frame-stays : (client more : List ℕ) (place : ℕ) → IsNoFrame (front_at client greatest_limit place) → IsNoFrame (front_at (client ++ more) greatest_limit place)
no-frame-stays client more place h = by (cases_lt (length client) place)
  where
    by : (length client < place) ⊎ (place ≤ length client) → IsNoFrame (front_at (client ++ more) greatest_limit place)
    by (inl past) =
        let none : front_at client greatest_limit place ≡ More =
        ap (λ (xs : List ℕ). front xs greatest_limit) (drop_all place client (omega (arith, past))) ∙ front-none greatest_limit in
        absurd (subst IsNoFrame none h)
    by (inr within) =
        let same : front_at (client ++ more) greatest_limit place ≡ front_at client greatest_limit place =
        ap (λ (xs : List ℕ). front xs greatest_limit) (drop-append-le place client more within)
        ∙ front-stays (drop place client) more greatest_limit (λ is. subst IsNoFrame is h) in
        subst IsNoFrame (sym same) h

unexpected-stays : (client more : List ℕ) (place : ℕ) (frames : List Frame) → IsUnexpected client place frames → IsUnexpected (client ++ more) place frames
unexpected-stays client more place frames is =
    let stand = stand-stays client more greatest_limit place (place + is.size) (is.frame ∷ []) (is.size, is.stands, refl) in
    record { frame = is.frame; size = stand.0; stands = stand.1; illegal = is.illegal }

stops-still : (client more : List ℕ) (place : ℕ) (frames : List Frame) (r : Option Refusal) → IsTrue (is_some r) → StopsBehind client place frames r
    → StopsBehind (client ++ more) place frames r
stops-still client more place frames None some stops = absurd cc
stops-still client more place frames (Some (BadBytes p)) some stops = (stops.0, no-frame-stays client more place stops.1)
stops-still client more place frames (Some (Unexpected i)) some stops = (stops.0, unexpected-stays client more place frames stops.1)

pub stays-refused : (d : DoubleState) (more : List ℕ) → AnswersClient d → IsTrue (is_some d.refusal) → AnswersClient (with_client (d.client ++ more) d)
stays-refused d more (frames, a, stops) some = (
  frames,
  record {
    stand = stand-stays d.client more greatest_limit 0 d.read frames a.stand;
    legal = a.legal;
    count = a.count;
    said = a.said;
    sent = a.sent;
    closed = a.closed;
  },
  stops-still d.client more d.read frames d.refusal some stops,
)
