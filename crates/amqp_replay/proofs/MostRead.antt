-- Of each reading that refuses a line beyond the limit of a text, what follows the most that is read says nothing: the
-- line that holds the first byte beyond the limit is refused, whatever follows that byte.
use Rattle.std.proofs.Common.{◌≡◌, ◌<◌, ◌+◌, ℕ, zero, suc, Bool, true, false, List, [], ◌∷◌, ◌++◌, length, take, refl, sym, ap, ◌∙◌, append_assoc, append-nil, arith}
use Rattle.std.specs.List.{All}
use Rattle.std.proofs.lemmas.Grind.{common_steps}
use Rattle.std.proofs.lemmas.List.Elements.{All-push}
use Rattle.std.proofs.lemmas.List.Splits.{slice_split_at, slice_split_none}
use Rattle.amqp_replay.specs.declared.limits.TheConstants.{MOST_READ, SCRIPT_BYTES}
use Rattle.amqp_replay.specs.Lines.{Line, is_line_feed, last_line, lines_of_parts, lines_from, lines}
use Rattle.amqp_replay.proofs.LineLemmas.{fed_line, first_of_parts, some_part, last_line-some}

-- a reading of lines, from a state on: a line that ends beyond the limit is refused by its number, and lines of which
-- the same is read from each state are the same behind each line
pub record IsReading {S R : Type 0} (read : S → List Line → R) (refused : ℕ → R) : Type 0 where
  pub beyond : (s : S) (line : Line) (more : List Line) → SCRIPT_BYTES < line.end
      → read s (line ∷ more) ≡ refused line.number
  pub behind : (s : S) (line : Line) (xs ys : List Line) → ((t : S) → read t xs ≡ read t ys)
      → read s (line ∷ xs) ≡ read s (line ∷ ys)

abbrev NoFeed : List ℕ → Type 0
NoFeed front = All (λ b. is_line_feed b ≡ false) front

fed : (number before : ℕ) (front : List ℕ) (b : ℕ) (rest : List ℕ) → NoFeed front → is_line_feed b ≡ true
    → lines_from number before (front ++ b ∷ rest)
    ≡ fed_line number before front ∷ lines_from (number + 1) (before + length front + 1) rest
fed number before front b rest none feed =
    ap (lines_of_parts number before) (slice_split_at is_line_feed front b rest none feed)
    ∙ first_of_parts number before front _ (some_part rest)

unfed : (number before : ℕ) (front : List ℕ) → NoFeed front → lines_from number before front ≡ last_line number before front
unfed number before front none = ap (lines_of_parts number before) (slice_split_none is_line_feed front none)

no_feed_yet : NoFeed []
no_feed_yet k d lt = absurd (omega arith)

longer : (front : List ℕ) (b : ℕ) → length (front ++ b ∷ []) ≡ length front + 1
longer front b = grind (arith, common_steps)

moved : {S R : Type 0} (read : S → List Line → R) (s : S) (number before : ℕ) (front : List ℕ) (b : ℕ) (rest : List ℕ)
    → read s (lines_from number before (front ++ b ∷ rest)) ≡ read s (lines_from number before ((front ++ b ∷ []) ++ rest))
moved read s number before front b rest =
    ap (λ (x : List ℕ). read s (lines_from number before x)) (sym (append_assoc front (b ∷ []) rest))

-- ---- a line beyond the limit

beyond_at : {S R : Type 0} (read : S → List Line → R) (refused : ℕ → R) → IsReading read refused
    → (feed : Bool) (b : ℕ) (rest : List ℕ) (s : S) (number before : ℕ) (front : List ℕ) → is_line_feed b ≡ feed → NoFeed front
    → SCRIPT_BYTES < before + length front
    → ((f : List ℕ) → NoFeed f → 0 < length f → SCRIPT_BYTES < before + length f → read s (lines_from number before (f ++ rest)) ≡ refused number)
    → read s (lines_from number before (front ++ b ∷ rest)) ≡ refused number
beyond_at read refused reading true b rest s number before front is none over later =
    ap (read s) (fed number before front b rest none is)
    ∙ reading.beyond s (fed_line number before front) (lines_from (number + 1) (before + length front + 1) rest) (omega (arith, over))
beyond_at read refused reading false b rest s number before front is none over later =
    let len = longer front b in
    moved read s number before front b rest
    ∙ later (front ++ b ∷ []) (All-push (λ x. is_line_feed x ≡ false) front b none is) (omega (arith, len)) (omega (arith, len, over))

-- the first line holds a byte beyond the limit
first_beyond : {S R : Type 0} (read : S → List Line → R) (refused : ℕ → R) → IsReading read refused
    → (rest : List ℕ) (s : S) (number before : ℕ) (front : List ℕ) → NoFeed front → 0 < length front → SCRIPT_BYTES < before + length front
    → read s (lines_from number before (front ++ rest)) ≡ refused number
first_beyond read refused reading [] s number before front none some over =
    ap (λ (x : List ℕ). read s (lines_from number before x)) (append-nil front)
    ∙ ap (read s) (unfed number before front none ∙ last_line-some number before front some)
    ∙ reading.beyond s (record { number = number; content = front; end = before + length front }) [] over
first_beyond read refused reading (b ∷ rest) s number before front none some over =
    beyond_at read refused reading (is_line_feed b) b rest s number before front refl none over
    (λ f. first_beyond read refused reading rest s number before f)

-- ---- what follows the most that is read

-- what is claimed of a text, of which k bytes and one more are read
abbrev Reads : {S R : Type 0} → (S → List Line → R) → List ℕ → Type 0
Reads {S} {R} read text = (s : S) (number before k : ℕ) (front : List ℕ) → NoFeed front → before + length front + suc k ≡ MOST_READ
    → read s (lines_from number before (front ++ take (suc k) text)) ≡ read s (lines_from number before (front ++ text))

reads_at : {S R : Type 0} (read : S → List Line → R) (refused : ℕ → R) → IsReading read refused
    → (feed : Bool) (b : ℕ) (rest : List ℕ) (s : S) (number before k : ℕ) (front : List ℕ) → is_line_feed b ≡ feed → NoFeed front
    → before + length front + suc k ≡ MOST_READ → Reads read rest
    → read s (lines_from number before (front ++ b ∷ take k rest)) ≡ read s (lines_from number before (front ++ b ∷ rest))
reads_at read refused reading true b rest s number before zero front is none most later =
    ap (read s) (fed number before front b (take zero rest) none is)
    ∙ reading.beyond s (fed_line number before front) (lines_from (number + 1) (before + length front + 1) (take zero rest)) (omega (arith, most))
    ∙ sym (reading.beyond s (fed_line number before front) (lines_from (number + 1) (before + length front + 1) rest) (omega (arith, most)))
    ∙ sym (ap (read s) (fed number before front b rest none is))
reads_at read refused reading true b rest s number before (suc k) front is none most later =
    let next = before + length front + 1 in
    ap (read s) (fed number before front b (take (suc k) rest) none is)
    ∙ reading.behind s (fed_line number before front) (lines_from (number + 1) next (take (suc k) rest)) (lines_from (number + 1) next rest)
    (λ t. later t (number + 1) next k [] no_feed_yet (omega (arith, most)))
    ∙ sym (ap (read s) (fed number before front b rest none is))
reads_at read refused reading false b rest s number before zero front is none most later =
    let len = longer front b in
    let more = All-push (λ x. is_line_feed x ≡ false) front b none is in
    moved read s number before front b (take zero rest)
    ∙ first_beyond read refused reading (take zero rest) s number before (front ++ b ∷ []) more (omega (arith, len)) (omega (arith, len, most))
    ∙ sym (first_beyond read refused reading rest s number before (front ++ b ∷ []) more (omega (arith, len)) (omega (arith, len, most)))
    ∙ sym (moved read s number before front b rest)
reads_at read refused reading false b rest s number before (suc k) front is none most later =
    let len = longer front b in
    let more = All-push (λ x. is_line_feed x ≡ false) front b none is in
    moved read s number before front b (take (suc k) rest)
    ∙ later s number before k (front ++ b ∷ []) more (omega (arith, len, most))
    ∙ sym (moved read s number before front b rest)

reads : {S R : Type 0} (read : S → List Line → R) (refused : ℕ → R) → IsReading read refused → (text : List ℕ) → Reads read text
reads read refused reading [] s number before k front none most = refl
reads read refused reading (b ∷ rest) s number before k front none most =
    reads_at read refused reading (is_line_feed b) b rest s number before k front refl none most (reads read refused reading rest)

-- the most that is read of a text says what all of it does
pub most-read : {S R : Type 0} (read : S → List Line → R) (refused : ℕ → R) → IsReading read refused → (s : S) (text : List ℕ)
    → read s (lines (take MOST_READ text)) ≡ read s (lines text)
most-read read refused reading s text = reads read refused reading text s 1 0 SCRIPT_BYTES [] no_feed_yet (omega arith)
