-- The steps of turns as given ones, with the rooms of a plan, and what is said in them.
use Rattle.std.proofs.Common.{◌≡◌, ◌≢◌, ◌≤◌, ◌<◌, ◌∙◌, ap, sym, refl, subst, ℕ, ◌+◌, ◌-◌, nat_le, if◌then◌else◌, Bool, true, false, List, [], ◌∷◌, ◌++◌, length, map, length-append, append_assoc, Option, Some, arith}
use Rattle.std.specs.Prelude.{slice_index}
use Rattle.std.specs.List.{AllByRecursion}
use Rattle.std.proofs.lemmas.Bool.Decides.{nat_tests}
use Rattle.amqp_types.proofs.Small.{if-true, if-false}
use Rattle.amqp_frame.specs.declared.frame.Frame.{Frame}
use Rattle.amqp_frame.specs.Frames.{FrameOf, encoding}
use Rattle.amqp_faultless.specs.Faultless.{Server, said_to, heard_from}
use Rattle.amqp_faultless.specs.Faultless.ServerStage.{Gone}
use Rattle.amqp_engine.specs.declared.given.Given.{Given}
use Rattle.amqp_engine.specs.declared.given.GivenStep.{GivenStep}
use Rattle.amqp_engine.specs.declared.given.GivenStep.TheVariants as given
use Rattle.amqp_engine.specs.declared.port.Step.{Step}
use Rattle.amqp_engine.specs.declared.port.Step.TheVariants.{Linked, LinkFailed, Piece, End, Fault, Room, Tick, Command}
use Rattle.amqp_engine.specs.Plan.{bytes_of, at_most_64}
use Rattle.amqp_engine.specs.Engine.{Engine}
use Rattle.amqp_engine.specs.Turn.{Turn, turn}
use Rattle.amqp_engine.specs.Sending.{Sending, turn_sending}
use Rattle.amqp_engine.specs.SentWhole.{said_of}
use Rattle.amqp_engine.specs.Valid.{SpelledFrame, LinkSaying, Theirs, Ours, after_sayings, whole_in, later_than, begun_in, all_bytes, sent_by_turns, sayings_of}
use Rattle.amqp_engine.proofs.Begun.{IsPart}
use Rattle.amqp_engine.proofs.Heeding.{flat}
use Rattle.amqp_joining.specs.Joining.{place_after}
use Rattle.amqp_owing.specs.Owed.{all_said}
use Rattle.amqp_both_ends.proofs.Spelling.{Spells}

-- ---- the steps

-- the given step of a step, which brings these octets and this room
abbrev pub given_step : Step → List ℕ → ℕ → GivenStep
given_step Linked octets room = given.Link (Some (at_most_64 (0 + room)))
given_step LinkFailed octets room = given.Refuse
given_step (Piece n) octets room = given.Bytes octets
given_step End octets room = given.End
given_step Fault octets room = given.Fault
given_step Room octets room = given.Room room
given_step Tick octets room = given.Tick
given_step (Command c) octets room = given.Command c

-- a step that brings room
abbrev pub brings_room : Step → Bool
brings_room Linked = true
brings_room Room = true
brings_room step = false

-- where the next room is after a step
abbrev pub room_after_step : List ℕ → ℕ → Step → ℕ
room_after_step rooms at step = if brings_room step then place_after rooms at else at

abbrev pub given_of : List ℕ → ℕ → Turn → Given
given_of rooms at u = record { at = u.at; what = given_step u.step u.bytes (slice_index rooms at) }

-- the steps of these turns, with these rooms from a place on
abbrev pub givens : List ℕ → ℕ → List Turn → List Given
givens rooms at [] = []
givens rooms at (u ∷ us) = given_of rooms at u ∷ givens rooms (room_after_step rooms at u.step) us

-- ---- what is said

-- what we say, one frame after another
pub ours-said : (fs : List Frame) (rest : List LinkSaying) (s : Server) → after_sayings (map Ours fs ++ rest) (Some s) ≡ after_sayings rest (Some (all_said fs s))
ours-said [] rest s = refl
ours-said (f ∷ fs) rest s = ours-said fs rest (said_to f s)

-- a frame with its spelling
abbrev pub spelled_as : Frame → SpelledFrame
spelled_as r = record { octets = encoding r; frame = r }

-- fewer octets than a part are a part
part-fewer : (n m : ℕ) (spelled : List SpelledFrame) → n ≤ m → IsPart m spelled → IsPart n spelled
part-fewer n m [] less h = record { whole = refl; later = refl; begun = refl }
part-fewer n m (x ∷ xs) less h = by (nat_le (length x.octets) m) refl h.whole where
  by : (b : Bool) → nat_le (length x.octets) m ≡ b → (if b then x.frame ∷ whole_in (m - length x.octets) xs else []) ≡ [] → IsPart n (x ∷ xs)
  by true is none = absurd cc
  by false is none =
      let more : nat_le (length x.octets) n ≡ false = grind (arith, nat_tests, is, less) in
      record {
        whole = if-false (nat_le (length x.octets) n) (x.frame ∷ whole_in (n - length x.octets) xs) [] more;
        later = if-false (nat_le (length x.octets) n) (later_than (n - length x.octets) xs) (x ∷ xs) more;
        begun = if-false (nat_le (length x.octets) n) (begun_in (n - length x.octets) xs) n more;
      }

-- a part of the first
pub part-first : (n : ℕ) (r : Frame) (spelled : List SpelledFrame) → n < length (encoding r) → IsPart n (spelled_as r ∷ spelled)
part-first n r spelled less =
    let more : nat_le (length (encoding r)) n ≡ false = grind (arith, nat_tests, less) in
    record {
      whole = if-false (nat_le (length (encoding r)) n) (r ∷ whole_in (n - length (encoding r)) spelled) [] more;
      later = if-false (nat_le (length (encoding r)) n) (later_than (n - length (encoding r)) spelled) (spelled_as r ∷ spelled) more;
      begun = if-false (nat_le (length (encoding r)) n) (begun_in (n - length (encoding r)) spelled) n more;
    }

-- of these turns: what the server says in them is spelled so, and it says what it may, to its end
pub record Speaks (rooms : List ℕ) (at : ℕ) (us : List Turn) (e : Engine) (ss : List Sending) (s : Server) : Type 0 where
  pub spelled : List SpelledFrame
  pub part : IsPart (length e.unread) spelled
  pub bytes : e.unread ++ all_bytes (givens rooms at us) ≡ flat spelled
  pub spells : AllByRecursion (λ (y : SpelledFrame). FrameOf y.frame y.octets × (length y.octets ≤ 4096)) spelled
  pub end : Server
  pub said : after_sayings (sayings_of (givens rooms at us) (sent_by_turns us e ss) (length e.unread) spelled) (Some s) ≡ Some end
  pub gone : end.stage ≡ Gone

module _ (rooms : List ℕ) (at : ℕ) (u : Turn) (us : List Turn) (e : Engine) (ss : List Sending) (moved : List Frame) (bare : bytes_of (given_of rooms at u).what ≡ u.bytes) (said_is : said_of u e ss ≡ moved) where
  abbrev gs : List Given
  gs = givens rooms (room_after_step rooms at u.step) us

  abbrev sent : List (List Frame)
  sent = sent_by_turns us (turn u e) (turn_sending u e ss)

  came-is : length e.unread + length (bytes_of (given_of rooms at u).what) ≡ length (e.unread ++ u.bytes)
  came-is = ap (λ (bs : List ℕ). length e.unread + length bs) bare ∙ sym (length-append e.unread u.bytes)

  -- what is said in the turn, and then in those after it
  abbrev in_turn : ℕ → List SpelledFrame → List LinkSaying
  in_turn n spelled = map Theirs (whole_in n spelled) ++ map Ours (said_of u e ss) ++ sayings_of gs sent (begun_in n spelled) (later_than n spelled)

  all-bytes : (spelled : List SpelledFrame) → (e.unread ++ u.bytes) ++ all_bytes gs ≡ flat spelled → e.unread ++ all_bytes (givens rooms at (u ∷ us)) ≡ flat spelled
  all-bytes spelled h = ap (λ (bs : List ℕ). e.unread ++ (bs ++ all_bytes gs)) bare ∙ sym (append_assoc e.unread u.bytes (all_bytes gs)) ∙ h

  -- where nothing was heard
  pub speaks-none : (s : Server) → (turn u e).unread ≡ e.unread ++ u.bytes → Speaks rooms (room_after_step rooms at u.step) us (turn u e) (turn_sending u e ss) (all_said moved s) → Speaks rooms at (u ∷ us) e ss s
  speaks-none s unread k =
      let n = length (e.unread ++ u.bytes) in
      let size : length (turn u e).unread ≡ n = ap length unread in
      let part : IsPart n k.spelled = subst (λ (m : ℕ). IsPart m k.spelled) size k.part in
      let rest : after_sayings (sayings_of gs sent n k.spelled) (Some (all_said moved s)) ≡ Some k.end = ap (λ (m : ℕ). after_sayings (sayings_of gs sent m k.spelled) (Some (all_said moved s))) (sym size) ∙ k.said in
      record {
        spelled = k.spelled;
        part = part-fewer (length e.unread) n k.spelled (let sum = length-append e.unread u.bytes in omega (arith, sum)) part;
        bytes = all-bytes k.spelled (ap (λ (bs : List ℕ). bs ++ all_bytes gs) (sym unread) ∙ k.bytes);
        spells = k.spells;
        end = k.end;
        said =
            ap (λ (m : ℕ). after_sayings (in_turn m k.spelled) (Some s)) came-is
            ∙ ap (λ (fs : List Frame). after_sayings (map Theirs fs ++ map Ours (said_of u e ss) ++ sayings_of gs sent (begun_in n k.spelled) (later_than n k.spelled)) (Some s)) part.whole
            ∙ ap (λ (m : ℕ). after_sayings (map Ours (said_of u e ss) ++ sayings_of gs sent m (later_than n k.spelled)) (Some s)) part.begun
            ∙ ap (λ (ys : List SpelledFrame). after_sayings (map Ours (said_of u e ss) ++ sayings_of gs sent n ys) (Some s)) part.later
            ∙ ap (λ (fs : List Frame). after_sayings (map Ours fs ++ sayings_of gs sent n k.spelled) (Some s)) said_is
            ∙ ours-said moved (sayings_of gs sent n k.spelled) s
            ∙ rest;
        gone = k.gone;
      }

  -- where a reply was heard
  module _ (s s1 : Server) (r : Frame) (heard : heard_from s.stage r s ≡ Some s1) (spells : Spells r) (came : e.unread ++ u.bytes ≡ encoding r) (some : u.bytes ≢ []) (later : List SpelledFrame) (part : IsPart 0 later) where
    n : ℕ
    n = length (encoding r)

    whole : nat_le (length (encoding r)) (length (e.unread ++ u.bytes)) ≡ true
    whole = let same = ap length came in grind (arith, nat_tests, same)

    none : length (e.unread ++ u.bytes) - length (encoding r) ≡ 0
    none = let same = ap length came in omega (arith, same)

    pub begins : IsPart (length e.unread) (spelled_as r ∷ later)
    begins =
        part-first (length e.unread) r later
        (let sum = length-append e.unread u.bytes in let same = ap length came in let more = some-octets u.bytes some in omega (arith, sum, same, more))
      where
        some-octets : (xs : List ℕ) → xs ≢ [] → 0 < length xs
        some-octets [] h = absurd (h refl)
        some-octets (x ∷ xs) h = omega arith

    -- it is said, and then what we say
    pub first-said : after_sayings (in_turn (length e.unread + length (bytes_of (given_of rooms at u).what)) (spelled_as r ∷ later)) (Some s) ≡ after_sayings (sayings_of gs sent 0 later) (Some (all_said moved s1))
    first-said =
        let m = length (e.unread ++ u.bytes) in
        let whole_is : whole_in m (spelled_as r ∷ later) ≡ r ∷ [] =
        if-true (nat_le (length (encoding r)) m) (r ∷ whole_in (m - length (encoding r)) later) [] whole ∙ ap (λ (k : ℕ). r ∷ whole_in k later) none ∙ ap (λ (fs : List Frame). r ∷ fs) part.whole in
        let later_is : later_than m (spelled_as r ∷ later) ≡ later =
        if-true (nat_le (length (encoding r)) m) (later_than (m - length (encoding r)) later) (spelled_as r ∷ later) whole ∙ ap (λ (k : ℕ). later_than k later) none ∙ part.later in
        let begun_is : begun_in m (spelled_as r ∷ later) ≡ 0 =
        if-true (nat_le (length (encoding r)) m) (begun_in (m - length (encoding r)) later) m whole ∙ ap (λ (k : ℕ). begun_in k later) none ∙ part.begun in
        ap (λ (k : ℕ). after_sayings (in_turn k (spelled_as r ∷ later)) (Some s)) came-is
        ∙ ap (λ (fs : List Frame). after_sayings (map Theirs fs ++ map Ours (said_of u e ss) ++ sayings_of gs sent (begun_in m (spelled_as r ∷ later)) (later_than m (spelled_as r ∷ later))) (Some s)) whole_is
        ∙ ap (λ (k : ℕ). after_sayings (Theirs r ∷ map Ours (said_of u e ss) ++ sayings_of gs sent k (later_than m (spelled_as r ∷ later))) (Some s)) begun_is
        ∙ ap (λ (ys : List SpelledFrame). after_sayings (Theirs r ∷ map Ours (said_of u e ss) ++ sayings_of gs sent 0 ys) (Some s)) later_is
        ∙ ap (λ (o : Option Server). after_sayings (map Ours (said_of u e ss) ++ sayings_of gs sent 0 later) o) heard
        ∙ ap (λ (fs : List Frame). after_sayings (map Ours fs ++ sayings_of gs sent 0 later) (Some s1)) said_is
        ∙ ours-said moved (sayings_of gs sent 0 later) s1

  pub speaks-one : (s s1 : Server) (r : Frame) → heard_from s.stage r s ≡ Some s1 → Spells r → e.unread ++ u.bytes ≡ encoding r → u.bytes ≢ [] → (turn u e).unread ≡ []
      → Speaks rooms (room_after_step rooms at u.step) us (turn u e) (turn_sending u e ss) (all_said moved s1) → Speaks rooms at (u ∷ us) e ss s
  speaks-one s s1 r heard spells came some unread k =
      let size : length (turn u e).unread ≡ 0 = ap length unread in
      let part : IsPart 0 k.spelled = subst (λ (m : ℕ). IsPart m k.spelled) size k.part in
      record {
        spelled = spelled_as r ∷ k.spelled;
        part = begins s s1 r heard spells came some k.spelled part;
        bytes = all-bytes (spelled_as r ∷ k.spelled) (ap (λ (bs : List ℕ). bs ++ all_bytes gs) came ∙ ap (λ (bs : List ℕ). encoding r ++ bs) (ap (λ (bs : List ℕ). bs ++ all_bytes gs) (sym unread) ∙ k.bytes));
        spells = (spells, k.spells);
        end = k.end;
        said =
            first-said s s1 r heard spells came some k.spelled part
            ∙ ap (λ (m : ℕ). after_sayings (sayings_of gs sent m k.spelled) (Some (all_said moved s1))) (sym size) ∙ k.said;
        gone = k.gone;
      }

  -- where it was the last
  pub speaks-last : (s s1 : Server) (r : Frame) → heard_from s.stage r s ≡ Some s1 → Spells r → e.unread ++ u.bytes ≡ encoding r → u.bytes ≢ [] → s1.stage ≡ Gone → us ≡ [] → moved ≡ []
      → Speaks rooms at (u ∷ us) e ss s
  speaks-last s s1 r heard spells came some gone none_later none_moved =
      let part : IsPart 0 [] = record { whole = refl; later = refl; begun = refl } in
      record {
        spelled = spelled_as r ∷ [];
        part = begins s s1 r heard spells came some [] part;
        bytes =
            all-bytes (spelled_as r ∷ [])
            (ap (λ (bs : List ℕ). bs ++ all_bytes gs) came ∙ ap (λ (vs : List Turn). encoding r ++ all_bytes (givens rooms (room_after_step rooms at u.step) vs)) none_later);
        spells = (spells, tt);
        end = s1;
        said =
            first-said s s1 r heard spells came some [] part
            ∙ ap (λ (vs : List Turn). after_sayings (sayings_of (givens rooms (room_after_step rooms at u.step) vs) (sent_by_turns vs (turn u e) (turn_sending u e ss)) 0 []) (Some (all_said moved s1))) none_later
            ∙ ap (λ (fs : List Frame). Some (all_said fs s1)) none_moved;
        gone = gone;
      }
