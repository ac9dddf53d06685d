-- A piece that joins the unread bytes part by part is read as one that joins them at once.
use Rattle.std.proofs.Common.{◌≡◌, ◌≤◌, ◌<◌, ℕ, suc, ◌+◌, ◌-◌, ◌&&◌, not, Bool, true, false, List, [], ◌++◌, length, take, drop, Option, refl, ap, sym, ◌∙◌, arith, append_assoc, length-append, length-drop}
use Rattle.std.proofs.lemmas.List.{append-nil, take-append-drop, drop-append-le, drop-drop, nil_from_length, take_all}
use Rattle.amqp_frame.specs.declared.frame.Read.{Read}
use Rattle.amqp_frame.specs.declared.frame.Read.TheVariants.{Whole, More, TooLarge, BadHeartbeat, Bad, NoMemory}
use Rattle.amqp_settings.specs.declared.capacity.TheConstants.{LEAST_CAPACITY}
use Rattle.amqp_violations.specs.declared.misread.Misread.TheVariants as why
use Rattle.amqp_auth.specs.declared.asked.Question.{Question}
use Rattle.amqp_auth.specs.declared.asked.Asked.{Asked}
use Rattle.amqp_rules.specs.Talk.{is_open}
use Rattle.amqp_rules.specs.Negotiation.{frame_limit}
use Rattle.amqp_rules.specs.Changes.{present_at}
use Rattle.amqp_rules.specs.Links.{piece, misread}
use Rattle.amqp_rules.specs.Frames.{on_frame}
use Rattle.amqp_engine.specs.Plan.{at_most_64}
use Rattle.amqp_engine.specs.Engine.{Engine, rule_at, settle, step_piece, front_of, is_more, can_read, read_row, row_questions, read_one, read_questions, starve_at}
use Rattle.amqp_engine.specs.Turn.{reads, reading}
use Rattle.amqp_engine.specs.Making.{making, keeps_unread, IsSettled, BreaksAt, piece_joined, Reaches}
use Rattle.amqp_types.proofs.Small.{if_case, if-true, if-false, and-left, and-right, and-other, from-not-true}
use Rattle.amqp_engine.proofs.Cases.{from-not-false}
use Rattle.amqp_engine.proofs.Settling.{settle-talk, settle-kept, settle-bytes}
use Rattle.amqp_frame.proofs.FrontStays.{says-front}
use Rattle.amqp_engine.proofs.Reading.{none-read, read_one-shortens, reads-rest, after_read, reads-more, reads-enough}

-- ---- bytes that join

joined-kept : (rest : List ℕ) (e : Engine) → keeps_unread e.talk ≡ true → piece_joined rest e ≡ record e { unread = e.unread ++ rest }
joined-kept rest e h = if-true (keeps_unread e.talk) (record e { unread = e.unread ++ rest }) e h

pub joined-over : (rest : List ℕ) (e : Engine) → keeps_unread e.talk ≡ false → piece_joined rest e ≡ e
joined-over rest e h = if-false (keeps_unread e.talk) (record e { unread = e.unread ++ rest }) e h

pub joined-none : (e : Engine) → piece_joined [] e ≡ e
joined-none e =
    if_case (λ (x : Engine). x ≡ e) (keeps_unread e.talk) (record e { unread = e.unread ++ [] }) e
    (ap (λ bytes. record e { unread = bytes }) (append-nil e.unread)) refl

-- no more than these change
pub joined-keeps : {A : Type 0} (f : Engine → A) → ((x : Engine) (bytes : List ℕ) → f (record x { unread = bytes }) ≡ f x) → (rest : List ℕ) (e : Engine)
    → f (piece_joined rest e) ≡ f e
joined-keeps f h rest e =
    if_case (λ (x : Engine). f x ≡ f e) (keeps_unread e.talk) (record e { unread = e.unread ++ rest }) e (h e (e.unread ++ rest)) refl

-- some of them, and then the others
pub joined-part : (n : ℕ) (rest : List ℕ) (e : Engine) → piece_joined rest e ≡ piece_joined (drop n rest) (piece_joined (take n rest) e)
joined-part n rest e = by (keeps_unread e.talk) refl
  where
    by : (b : Bool) → keeps_unread e.talk ≡ b → piece_joined rest e ≡ piece_joined (drop n rest) (piece_joined (take n rest) e)
    by true kept =
        let x : Engine = record e { unread = e.unread ++ take n rest } in
        let bytes : (e.unread ++ take n rest) ++ drop n rest ≡ e.unread ++ rest =
        append_assoc e.unread (take n rest) (drop n rest) ∙ ap (λ (r : List ℕ). e.unread ++ r) (take-append-drop n rest) in
        joined-kept rest e kept ∙ ap (λ bytes. record e { unread = bytes }) (sym bytes)
        ∙ sym (joined-kept (drop n rest) x kept) ∙ ap (piece_joined (drop n rest)) (sym (joined-kept (take n rest) e kept))
    by false over =
        joined-over rest e over ∙ sym (joined-over (drop n rest) e over) ∙ ap (piece_joined (drop n rest)) (sym (joined-over (take n rest) e over))

-- before they are settled or after
joined-settle : (rest : List ℕ) (e : Engine) → piece_joined rest (settle e) ≡ settle (record e { unread = e.unread ++ rest })
joined-settle rest e = by (keeps_unread e.talk) refl
  where
    by : (b : Bool) → keeps_unread e.talk ≡ b → piece_joined rest (settle e) ≡ settle (record e { unread = e.unread ++ rest })
    by true kept =
        ap (piece_joined rest) (settle-kept e kept) ∙ joined-kept rest e kept ∙ sym (settle-kept (record e { unread = e.unread ++ rest }) kept)
    by false over = joined-over rest (settle e) (ap keeps_unread (settle-talk e) ∙ over) ∙ sym (settle-bytes e (e.unread ++ rest) over)

-- a piece that is read on the open link
pub piece-joined : (at : ℕ) (bytes : List ℕ) (e : Engine) → is_open e.talk ≡ true → step_piece at bytes e ≡ piece_joined bytes (settle (rule_at at piece e))
piece-joined at bytes e opened =
    let x : Engine = rule_at at piece e in
    if-true (is_open e.talk) (settle (record x { unread = x.unread ++ bytes })) (rule_at at (λ t. t) e) opened ∙ sym (joined-settle bytes x)

-- memory that is refused does not look at them
pub starved-joined : (at n : ℕ) (rest : List ℕ) (e : Engine) → starve_at at n (piece_joined rest e) ≡ starve_at at n e
starved-joined at n rest e = joined-keeps (starve_at at n) (λ x bytes. refl) rest e

-- there are no more with them
pub joined-size : (rest : List ℕ) (e : Engine) → length (piece_joined rest e).unread ≤ length e.unread + length rest
joined-size rest e =
    if_case (λ (x : Engine). length x.unread ≤ length e.unread + length rest) (keeps_unread e.talk) (record e { unread = e.unread ++ rest }) e
    (omega (arith, length-append e.unread rest)) (omega arith)

-- ---- reading before all have joined

-- where nothing is kept, nothing is read
pub over-read : (e : Engine) → IsSettled e → keeps_unread e.talk ≡ false → can_read e ≡ false
over-read e settled over = none-read e (omega (arith, ap length (settled over)))

pub read-kept : (e : Engine) → IsSettled e → can_read e ≡ true → keeps_unread e.talk ≡ true
read-kept e settled can = by (keeps_unread e.talk) refl
  where
    by : (b : Bool) → keeps_unread e.talk ≡ b → keeps_unread e.talk ≡ true
    by true kept = kept
    by false over = absurd (let none : can_read e ≡ false = over-read e settled over in cc)

row-joined : (at : ℕ) (r : Read) (rest : List ℕ) (answers : List Asked) (e : Engine) → front_of e ≡ r → not (is_more r) ≡ true
    → read_row at r answers (record e { unread = e.unread ++ rest }) ≡ piece_joined rest (read_row at r answers e)
row-joined at (Whole f n) rest answers e is some =
    let x : Engine = record e { talk = on_frame f answers (present_at at e.talk); unread = drop n e.unread; place = at_most_64 (e.place + n) } in
    let within : n ≤ length e.unread = omega (arith, ((says-front (frame_limit e.talk)).size e.unread f n is).1) in
    ap (λ (bytes : List ℕ). settle (record x { unread = bytes })) (drop-append-le n e.unread rest within) ∙ sym (joined-settle rest x)
row-joined at More rest answers e is some = cc
row-joined at (TooLarge n) rest answers e is some = sym (joined-settle rest (rule_at at (misread (why.TooLarge n)) e))
row-joined at (BadHeartbeat n) rest answers e is some = sym (joined-settle rest (rule_at at (misread (why.BadHeartbeat n)) e))
row-joined at Bad rest answers e is some = sym (joined-settle rest (rule_at at (misread (why.Bad e.place)) e))
row-joined at NoMemory rest answers e is some = sym (joined-settle rest (rule_at at (misread (why.Bad e.place)) e))

-- what is asked does not look at what joins
row-asks : (at : ℕ) (r : Read) (rest : List ℕ) (e : Engine) → row_questions at r (record e { unread = e.unread ++ rest }) ≡ row_questions at r e
row-asks at (Whole f n) rest e = refl
row-asks at _ rest e = refl

record ReadsAlike (at : ℕ) (rest : List ℕ) (answers : List Asked) (e : Engine) : Type 0 where
  can : can_read (piece_joined rest e) ≡ true
  same : read_one at answers (piece_joined rest e) ≡ piece_joined rest (read_one at answers e)
  questions : read_questions at (piece_joined rest e) ≡ read_questions at e

-- what stands at the front stands there with the rest behind it
read-joined : (at : ℕ) (rest : List ℕ) (answers : List Asked) (e : Engine) → IsSettled e → can_read e ≡ true → ReadsAlike at rest answers e
read-joined at rest answers e settled can =
    let g : Engine = record e { unread = e.unread ++ rest } in
    let all : piece_joined rest e ≡ g = joined-kept rest e (read-kept e settled can) in
    let some : not (is_more (front_of e)) ≡ true = and-right (is_open e.talk) (not (is_more (front_of e))) can in
    let front : front_of g ≡ front_of e = (says-front (frame_limit e.talk)).stays e.unread rest (from-not-true (is_more (front_of e)) some) in
    record {
      can = ap can_read all ∙ ap (λ (r : Read). is_open e.talk && not (is_more r)) front ∙ can;
      same = ap (read_one at answers) all ∙ ap (λ (r : Read). read_row at r answers g) front ∙ row-joined at (front_of e) rest answers e refl some;
      questions = ap (read_questions at) all ∙ ap (λ (r : Read). row_questions at r g) front ∙ row-asks at (front_of e) rest e;
    }

-- memory that is refused at the frame at the front is so too with the rest behind it
pub breaks-joined : (at : ℕ) (rest : List ℕ) (next : List Question) (e : Engine) → IsSettled e → BreaksAt at next e → BreaksAt at next (piece_joined rest e)
breaks-joined at rest next e settled b =
    let alike = read-joined at rest [] e settled b.can in
    record { can = alike.can; asks = b.asks ∙ sym alike.questions }

-- reading goes on after one frame
pub reading-more : (at : ℕ) (cut : Option ℕ) (rest : List ℕ) (answers : List Asked) (questions : List Question) (e : Engine) (parts : ℕ) → IsSettled e → can_read e ≡ true → Reaches cut (parts + 1)
    → reading true (making at cut answers questions (piece_joined rest e) parts)
    ≡ reading true (making at cut (drop (length (read_questions at e)) answers) (questions ++ read_questions at e) (piece_joined rest (read_one at answers e)) (parts + 1))
reading-more at cut rest answers questions e parts settled can allows =
    let g = piece_joined rest e in
    let alike = read-joined at rest answers e settled can in
    let less = (read_one-shortens at answers g alike.can).less in
    let m = length g.unread - 1 in
    let left : length g.unread ≡ suc m = omega (arith, less) in
    ap (λ (k : ℕ). reads k (making at cut answers questions g parts)) left ∙ reads-more m at cut answers questions g parts alike.can allows
    ∙ reads-enough m (length (read_one at answers g).unread) (after_read at cut answers questions g parts) (omega (arith, less)) (omega arith)
    ∙ ap (λ (x : Engine). reading true (making at cut (drop (length (read_questions at g)) answers) (questions ++ read_questions at g) x (parts + 1))) alike.same
    ∙ ap (λ (q : List Question). reading true (making at cut (drop (length q) answers) (questions ++ q) (piece_joined rest (read_one at answers e)) (parts + 1))) alike.questions

-- and is over where nothing can be read
reading-over : (at : ℕ) (cut : Option ℕ) (answers : List Asked) (questions : List Question) (e : Engine) (parts : ℕ) → can_read e ≡ false
    → reading true (making at cut answers questions e parts) ≡ making at cut answers questions e parts
reading-over at cut answers questions e parts none = reads-rest (length e.unread) (making at cut answers questions e parts) none

-- what is unread is less than the capacity, where no more can be said of it before more bytes come
pub less-unread : (e : Engine) → LEAST_CAPACITY ≤ e.talk.capacity → front_of e ≡ More → length e.unread < e.talk.capacity
less-unread e large more =
    let limit : frame_limit e.talk ≤ e.talk.capacity = omega arith in
    let is : is_more (front_of e) ≡ true = ap is_more more in
    omega (arith, (says-front (frame_limit e.talk)).more e.unread is, limit, large)

-- then there is room for more
pub has-room : (e : Engine) → LEAST_CAPACITY ≤ e.talk.capacity → keeps_unread e.talk ≡ true → can_read e ≡ false → length e.unread < e.talk.capacity
has-room e large kept none =
    let opened : is_open e.talk ≡ true = and-left (is_open e.talk) _ kept in
    let more : is_more (front_of e) ≡ true = from-not-false (is_more (front_of e)) (and-other (is_open e.talk) (not (is_more (front_of e))) opened none) in
    let limit : frame_limit e.talk ≤ e.talk.capacity = omega arith in
    omega (arith, (says-front (frame_limit e.talk)).more e.unread more, limit, large)

-- what is left of a piece, as a slice has it
pub slice-left : (j : ℕ) (piece : List ℕ) → take (length piece - j) (drop j piece) ≡ drop j piece
slice-left j piece = take_all (length piece - j) (drop j piece) (omega (arith, length-drop j piece))

-- a part of it has joined, and the others are still to join
pub part-joined : (n j : ℕ) (piece : List ℕ) (e e' : Engine) → e' ≡ piece_joined (take n (take (length piece - j) (drop j piece))) e
    → piece_joined (drop j piece) e ≡ piece_joined (drop (j + n) piece) e'
part-joined n j piece e e' is =
    joined-part n (drop j piece) e ∙ ap (piece_joined (drop n (drop j piece))) (sym (is ∙ ap (λ (rest : List ℕ). piece_joined (take n rest) e) (slice-left j piece)))
    ∙ ap (λ (rest : List ℕ). piece_joined rest e') (drop-drop n j piece)

-- all of it has joined, and was read as far as it goes
pub all-read : (at : ℕ) (cut : Option ℕ) (answers : List Asked) (questions : List Question) (n : ℕ) (piece : List ℕ) (e : Engine) (parts : ℕ) → n ≡ length piece → can_read e ≡ false
    → reading true (making at cut answers questions (piece_joined (drop n piece) e) parts) ≡ making at cut answers questions e parts
all-read at cut answers questions n piece e parts all none =
    let rest : drop n piece ≡ [] = nil_from_length (drop n piece) (omega (arith, length-drop n piece)) in
    ap (λ (bytes : List ℕ). reading true (making at cut answers questions (piece_joined bytes e) parts)) rest
    ∙ ap (λ (x : Engine). reading true (making at cut answers questions x parts)) (joined-none e)
    ∙ reading-over at cut answers questions e parts none
