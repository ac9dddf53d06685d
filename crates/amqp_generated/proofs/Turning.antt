-- A turn over a port that takes all, by what stands before its writes: it says all that waits, or nothing does.
use Rattle.std.proofs.Common.{◌≡◌, ℕ, zero, suc, ◌==◌, ◌&&◌, not, if◌then◌else◌, true, false, List, [], ◌∷◌, ◌++◌, length, take, drop, append-nil, None, refl, ap, sym, ◌∙◌, subst}
use Rattle.amqp_types.proofs.Small.{if_case, if-true, if-false, same-number, and-true, and-false}
use Rattle.amqp_frame.specs.declared.frame.Frame.{Frame}
use Rattle.amqp_frame.specs.declared.frame.Read.{Read}
use Rattle.amqp_frame.specs.declared.frame.Read.TheVariants.{Whole}
use Rattle.amqp_frame.specs.FrameReading.{front}
use Rattle.amqp_frame.proofs.FrontStays.{front-none}
use Rattle.amqp_outbox.specs.declared.item.Item.{Item}
use Rattle.amqp_auth.specs.declared.asked.Question.{Question}
use Rattle.amqp_auth.specs.declared.asked.Asked.{Asked}
use Rattle.amqp_rules.specs.Talk.{is_open, has_ended}
use Rattle.amqp_rules.specs.Negotiation.{frame_limit}
use Rattle.amqp_engine.specs.declared.port.Wrote.{Wrote}
use Rattle.amqp_engine.specs.declared.port.Wrote.TheVariants.{Took}
use Rattle.amqp_engine.specs.Plan.{Coming}
use Rattle.amqp_engine.specs.Log.{Log, log_step, log_write, on_last}
use Rattle.amqp_engine.specs.Engine.{Engine, front_of, can_read, read_row, row_questions, overlong_next, ended_overlong, refuse_overlong, can_write, commit_all, took, is_more}
use Rattle.amqp_engine.specs.Turn.{Turn, Notes, no_notes, Progress, asks, begun, is_before, goes, part, questioned, step_part, is_piece, read_part, reads, reading, offered, offer_part, closing, is_all, after_writes, turn}
use Rattle.amqp_engine.specs.Tell.{turn_of, log_asks}
use Rattle.amqp_engine.specs.Sending.{Sending, committed_before, offer_sending, step_sending, turn_sending}
use Rattle.amqp_engine.specs.Play.{played_answer, offers_waiting, answer_noted, played_writes, played_turn_of}
use Rattle.amqp_engine.proofs.Draining.{IsFree, free-answer}
use Rattle.amqp_engine.proofs.FirstAnswers.{Alike, read-first}
use Rattle.amqp_engine.proofs.Playing.{played-any}
use Rattle.amqp_engine.proofs.Voicing.{IsClear, offer-sends}

-- ---- a turn

-- what stands before the writes of a step, where the provider answers nothing
abbrev pub stands_before : Coming → Engine → Progress
stands_before c e = reading (is_piece c.step) (step_part c.step c.bytes (begun c.at None [] (asks e)))

-- the turn of a step with these writes, of which each took all that was offered
abbrev pub turn_with : Coming → List ℕ → Turn
turn_with c tooks = turn_of c.at c.step c.bytes (record no_notes { tooks = tooks })

-- what was sent on the only link, and then these items
pub record Sends (x : Sending) (items : List Item) (ss : List Sending) : Type 0 where
  pub sending : Sending
  pub only : ss ≡ sending ∷ []
  pub items_are : sending.committed ≡ x.committed ++ items
  pub all : sending.sent ≡ length sending.committed

-- the turn of a step that comes leads from here to there and says these items
pub record Turns (c : Coming) (e e' : Engine) (items : List Item) : Type 0 where
  pub tooks : List ℕ
  pub played : (answers : List Asked) (a : Log) → IsFree (log_step c.at c.step c.bytes (log_asks e a)).plan → played_turn_of c answers e a ≡ turn_with c tooks
  pub leads : turn (turn_with c tooks) e ≡ e'
  pub asks_nothing : (stands_before c e).questions ≡ []
  pub link : (ss : List Sending) → step_sending c.step (asks e) ss ≡ ss
  pub sends : (x : Sending) → x.sent ≡ length x.committed → Sends x items (turn_sending (turn_with c tooks) e (x ∷ []))

-- ---- its writes

unwritten : (n : ℕ) (p : Progress) (a : Log) → can_write p.engine ≡ false → played_writes n p a ≡ no_notes
unwritten zero p a h = refl
unwritten (suc n) p a h = if-false (can_write p.engine) _ no_notes h

-- one offer is made, and it is taken whole
written-once : (m : ℕ) (p : Progress) (a : Log) → IsFree a.plan → can_write p.engine ≡ true
    → can_write (offer_part (Took (length (offered p.engine))) p).engine ≡ false
    → played_writes (suc m) p a ≡ record no_notes { tooks = length (offered p.engine) ∷ [] }
written-once m p a free some after =
    let k = length (offered p.engine) in
    let next : Wrote → Notes = λ w. if is_all w k then played_writes m (offer_part w p) (log_write (offered p.engine) w a) else no_notes in
    if-true (can_write p.engine) (answer_noted (played_answer p.engine a) (next (played_answer p.engine a))) no_notes some
    ∙ ap (λ w. answer_noted w (next w)) (free-answer p.engine a free)
    ∙ ap (answer_noted (Took k))
    (if-true (k == k) (played_writes m (offer_part (Took k) p) (log_write (offered p.engine) (Took k) a)) no_notes (same-number k)
    ∙ unwritten m (offer_part (Took k) p) (log_write (offered p.engine) (Took k) a) after)

-- the notes of a turn that asks nothing, by its writes
noted : (c : Coming) (e : Engine) (answers : List Asked) (a : Log) (notes : Notes) → notes.auths ≡ [] → (stands_before c e).questions ≡ []
    → played_writes (offers_waiting (stands_before c e).engine) (stands_before c e) (log_step c.at c.step c.bytes (log_asks e a)) ≡ notes
    → played_turn_of c answers e a ≡ turn_of c.at c.step c.bytes notes
noted c e answers a notes unasked none is =
    let p = stands_before c e in
    let b = log_step c.at c.step c.bytes (log_asks e a) in
    let left = drop (length p.questions) answers in
    let made : Notes → List Asked → Turn = λ w given. turn_of c.at c.step c.bytes (record w { auths = given }) in
    let alike : Alike (length p.questions) [] answers = subst (λ (qs : List Question). Alike (length qs) [] answers) (sym none) refl in
    ap (λ (x : Progress). made (played_writes (offers_waiting x.engine) x b) (take (length x.questions) answers))
    (read-first c.at None c.step c.bytes [] answers (asks e) alike)
    ∙ ap (λ w. made w (take (length p.questions) answers)) (played-any (offers_waiting p.engine) left p b ∙ is)
    ∙ ap (λ (qs : List Question). made notes (take (length qs) answers)) none
    ∙ ap (made notes) (sym unasked)

-- where the frame that is next can go out, nothing more comes of a turn
closed-so : (p : Progress) → overlong_next p.engine ≡ None → (closing p).engine ≡ p.engine
closed-so p short =
    if_case (λ (q : Progress). q.engine ≡ p.engine) (goes p) (record p { engine = refuse_overlong p.engine }) p
    (ap (λ o. ended_overlong o p.engine) short) refl

-- a turn that was not cut leaves what is left after its writes
whole : (c : Coming) (tooks : List ℕ) (e e' : Engine) → (after_writes (turn_with c tooks) (asks e)).engine ≡ e' → turn (turn_with c tooks) e ≡ e'
whole c tooks e e' is =
    let after = (after_writes (turn_with c tooks) (asks e)).engine in
    if_case (λ (x : Engine). x ≡ e') (has_ended (asks e).talk) after after is is

-- ---- nothing waits

-- nothing is to be written, and no frame is in the way that can't go out
pub record IsIdle (e : Engine) : Type 0 where
  pub nothing : can_write e ≡ false
  pub short : overlong_next e ≡ None

pub silent-turn : (c : Coming) (e : Engine) (p : Progress) → stands_before c e ≡ p → ((ss : List Sending) → step_sending c.step (asks e) ss ≡ ss)
    → p.questions ≡ [] → IsIdle p.engine → Turns c e p.engine []
silent-turn c e p is link = subst P is here where
  P : Progress → Type 0
  P q = q.questions ≡ [] → IsIdle q.engine → Turns c e q.engine []

  here : P (stands_before c e)
  here none idle =
      let q = stands_before c e in
      record {
        tooks = [];
        played = λ answers a free. noted c e answers a no_notes refl none (unwritten (offers_waiting q.engine) q (log_step c.at c.step c.bytes (log_asks e a)) idle.nothing);
        leads = whole c [] e q.engine (closed-so q idle.short);
        asks_nothing = none;
        link = link;
        sends = λ x all. record { sending = x; only = link (x ∷ []); items_are = sym (append-nil x.committed); all = all };
      }

-- ---- all that waits goes out at once

pub offer-turn : (c : Coming) (e : Engine) (p : Progress) (m : ℕ) → stands_before c e ≡ p → ((ss : List Sending) → step_sending c.step (asks e) ss ≡ ss)
    → p.questions ≡ [] → can_write p.engine ≡ true → IsClear p.engine → offers_waiting p.engine ≡ suc m
    → IsIdle (took p.at (length (offered p.engine)) (commit_all p.engine))
    → Turns c e (took p.at (length (offered p.engine)) (commit_all p.engine)) (committed_before p.engine)
offer-turn c e p m is link = subst P is here where
  P : Progress → Type 0
  P q =
      q.questions ≡ [] → can_write q.engine ≡ true → IsClear q.engine → offers_waiting q.engine ≡ suc m
      → IsIdle (took q.at (length (offered q.engine)) (commit_all q.engine))
      → Turns c e (took q.at (length (offered q.engine)) (commit_all q.engine)) (committed_before q.engine)

  here : P (stands_before c e)
  here none some clear count idle =
      let q = stands_before c e in
      let k = length (offered q.engine) in
      let after = offer_part (Took k) q in
      record {
        tooks = k ∷ [];
        played = λ answers a free.
            (let b = log_step c.at c.step c.bytes (log_asks e a) in
            noted c e answers a (record no_notes { tooks = k ∷ [] }) refl none
            (ap (λ n. played_writes n q b) count ∙ written-once m q b free some idle.nothing));
        leads =
            whole c (k ∷ []) e after.engine
            (ap (λ (r : Progress). r.engine) (if-true (k == k) (closing after) after (same-number k)) ∙ closed-so after idle.short);
        asks_nothing = none;
        link = link;
        sends = λ x all.
            record {
              sending = offer_sending (Took k) q.engine x;
              only = ap (λ (ss : List Sending). on_last (offer_sending (Took k) q.engine) ss) (link (x ∷ []));
              items_are = refl;
              all = offer-sends q.engine x clear all;
            };
      }

-- ---- a piece that is one frame

-- where nothing can be read, no frame is
pub unread : (n : ℕ) (p : Progress) → can_read p.engine ≡ false → reads n p ≡ p
unread zero p h = refl
unread (suc n) p h = if-false (goes p && can_read p.engine) (reads n (read_part p)) p (and-false (goes p) (can_read p.engine) h)

-- what is left when the frame that stands at the front is read
abbrev pub once_read : Frame → ℕ → Progress → Progress
once_read f n p = part (read_row p.at (Whole f n) p.answers p.engine) (questioned (row_questions p.at (Whole f n) p.engine) p)

pub read-once : (p : Progress) (f : Frame) (n m : ℕ) → p.cut ≡ None → front_of p.engine ≡ Whole f n → is_open p.engine.talk ≡ true
    → length p.engine.unread ≡ suc m → can_read (once_read f n p).engine ≡ false
    → reads (length p.engine.unread) p ≡ once_read f n p
read-once p f n m cut front_is opened len last =
    let readable : can_read p.engine ≡ true = and-true (is_open p.engine.talk) (not (is_more (front_of p.engine))) opened (ap (λ (r : Read). not (is_more r)) front_is) in
    let going : goes p ≡ true = ap (λ o. is_before o p.done) cut in
    ap (λ k. reads k p) len
    ∙ if-true (goes p && can_read p.engine) (reads m (read_part p)) p (and-true (goes p) (can_read p.engine) going readable)
    ∙ ap (λ (r : Read). reads m (part (read_row p.at r p.answers p.engine) (questioned (row_questions p.at r p.engine) p))) front_is
    ∙ unread m (once_read f n p) last

-- of no octet nothing can be read
pub nothing-left : (e : Engine) → e.unread ≡ [] → can_read e ≡ false
nothing-left e none =
    and-false (is_open e.talk) (not (is_more (front_of e)))
    (ap (λ bytes. not (is_more (front bytes (frame_limit e.talk)))) none ∙ ap (λ (r : Read). not (is_more r)) (front-none (frame_limit e.talk)))
