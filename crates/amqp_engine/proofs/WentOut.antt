-- What a client was told to send is what went out, and who opened a channel is known, through a turn.
use Rattle.std.proofs.Common.{◌≡◌, ◌≤◌, inl, inr, ◌∙◌, ap, sym, subst, refl, ℕ, zero, suc, ◌-◌, ◌&&◌, nat_le, Bool, true, false, true≢false, cond, if◌then◌else◌, List, [], ◌∷◌, ◌++◌, length, map, drop, take, Option, Some, None, is_some, Result, option_to_list, append_assoc, append-nil, length-append, arith}
use Rattle.std.proofs.lemmas.List.{map-append, take-append-drop, length-take-le}
use Rattle.std.proofs.Math.Seq.{take-append_seam}
use Rattle.amqp_frame.specs.declared.frame.Frame.{Frame}
use Rattle.amqp_frame.specs.declared.frame.Read.{Read}
use Rattle.amqp_frame.specs.declared.frame.Read.TheVariants.{Whole, More, TooLarge, BadHeartbeat, Bad, NoMemory as ReadNoMemory}
use Rattle.amqp_outbox.specs.declared.item.Item.{Item}
use Rattle.amqp_promise.specs.declared.io_fault.IoFault.{IoFault}
use Rattle.amqp_promise.specs.declared.io_fault.IoFault.TheVariants.{Aborted, Reset, BrokenPipe}
use Rattle.amqp_promise.specs.declared.error.ErrorKind.{ErrorKind}
use Rattle.amqp_promise.specs.declared.error.ErrorKind.TheVariants.{SerialisationError}
use Rattle.amqp_outgoing.specs.declared.committed.Mark.{Mark}
use Rattle.amqp_commands.specs.declared.command.Cmd.{Cmd}
use Rattle.amqp_answers.specs.declared.answer.Answer.{Answer}
use Rattle.amqp_answers.specs.declared.handed.Handed.{Handed}
use Rattle.amqp_violations.specs.declared.misread.Misread.{Misread}
use Rattle.amqp_violations.specs.declared.misread.Misread.TheVariants as misreads
use Rattle.amqp_auth.specs.declared.asked.Asked.{Asked as ProviderAnswer}
use Rattle.amqp_rules.specs.Talk.{Talk, is_open, is_asked}
use Rattle.amqp_rules.specs.Changes.{present_at, starve}
use Rattle.amqp_rules.specs.Links.{asked, linked, link_failed, piece, lost, misread}
use Rattle.amqp_rules.specs.Frames.{on_frame}
use Rattle.amqp_rules.specs.Ticks.{tick}
use Rattle.amqp_rules.specs.Sound.{IsSound}
use Rattle.amqp_rules.specs.Writing.{frames_waiting, next_out, taken, end_overlong}
use Rattle.amqp_outgoing.specs.Marks.{mark_of}
use Rattle.amqp_types.proofs.Small.{if_case, if_by, if-true, if-false, and-left, and-right}
use Rattle.amqp_rules.proofs.SoundChanges.{sound-present, sound-starve, sound-lose}
use Rattle.amqp_rules.proofs.SoundFrames.{sound-frame}
use Rattle.amqp_rules.proofs.Soundness.{sound-commit, sound-taken, sound-asked, sound-link_failed, sound-piece, sound-lost, sound-misread, sound-tick}
use Rattle.amqp_rules.proofs.Keeping.{present-keeps, kept-open, failed-link, failed-keeps, lost-off, keeps-misread, keeps-frame, keeps-tick, off-lost, starve-ends}
use Rattle.amqp_rules.proofs.Lacking.{asked-open}
use Rattle.amqp_carried_rules.proofs.Bearing.{Reading, IsAt}
use Rattle.amqp_carried_rules.proofs.Bearers.{at-moment, at-asked, at-failed, at-piece, at-lost, at-misread, at-frame, at-tick, at-starve, at-lose}
use Rattle.amqp_carried_rules.proofs.Leaving.{at-commit}
use Rattle.amqp_carried_rules.proofs.Openers.{KnowsOpeners, knows-moment, knows-asked, knows-failed, knows-piece, knows-lost, knows-misread, knows-frame, knows-tick, knows-starve, knows-commit, knows-taken, knows-overlong}
use Rattle.amqp_engine.specs.declared.port.Step.{Step}
use Rattle.amqp_engine.specs.declared.port.Step.TheVariants.{Linked, LinkFailed, Piece, End, Fault, Room, Tick, Command}
use Rattle.amqp_engine.specs.declared.port.Wrote.{Wrote}
use Rattle.amqp_engine.specs.declared.port.Wrote.TheVariants.{Took, Failed, NoMemory}
use Rattle.amqp_engine.specs.Log.{on_last}
use Rattle.amqp_engine.specs.Carried.{raw_frames, says_sent}
use Rattle.amqp_engine.specs.Account.{command_of, commands_in}
use Rattle.amqp_engine.specs.Engine.{Engine, with_talk, rule_at, settle, step_engine, step_linked, front_of, read_badly, read_row, can_read, commit_one, commits, commit_all, committed_with_bytes, fitting_next, taken_by, overlong_next, ended_overlong, refuse_overlong, can_write}
use Rattle.amqp_engine.specs.Turn.{Turn, write_answers, Progress, asks, wants_ask, begun, goes, part, questioned, is_part, step_part, reads, read_part, reading, is_piece, answered, offered, offer_part, drained, is_all, AreAnswers, read, after_writes, applied, starved_after, IsApplied}
use Rattle.amqp_engine.specs.Engine.{step_questions}
use Rattle.amqp_engine.specs.Sending.{Sending, nothing_sent, frames, frames_sent, items_sent, committed_in, committed_before, sent_in, offer_sending, offers_sending, step_sending}
use Rattle.amqp_engine.specs.Saying.{applied_sending}
use Rattle.amqp_engine.proofs.Cases.{no-command}
use Rattle.amqp_engine.proofs.Settling.{settle-talk}
use Rattle.amqp_engine.proofs.Commits.{with_frame, commit_one-is, encoding-some, commits-keep}
use Rattle.amqp_engine.proofs.Lifting.{all-rest}
use Rattle.amqp_engine.proofs.Over.{ended-closed}
use Rattle.amqp_engine.proofs.Overlong.{closed-overlong}
use Rattle.amqp_rules.specs.Talk.{has_ended}
use Rattle.amqp_carried_rules.specs.CommandFrames.{is_raw}
use Rattle.amqp_engine.proofs.Sent.{on_last-append}
use Rattle.amqp_engine.proofs.Passing.{AreMarks, sound-last, AreSentOn, taken-on}
use Rattle.amqp_engine.proofs.Conveying.{raws, Carries, carries-rule, carries-command, carries-linked, carries-unlinked}
use Rattle.amqp_rules.proofs.Finishing.{fitting-some}
use Rattle.amqp_engine.proofs.TurnEnds.{taken-none}

module _ (answers_taken : ℕ → Option (Result Answer ErrorKind)) (given : ℕ → List Handed) where
  abbrev Holds : List Cmd → Talk → List Sending → Type 0
  Holds cs t ss = Carries answers_taken given cs t ss

  -- the promises whose answers were taken, and those of them that were answered Sent
  abbrev gone : ℕ → Bool
  gone n = is_some (answers_taken n)

  abbrev took : ℕ → Bool
  took n = says_sent (answers_taken n)

  -- ---- rules of the session

  module _ (cs : List Cmd) (ss : List Sending) where
    abbrev Known : Talk → Type 0
    Known t = Holds cs t ss

    -- each rule leaves what is known
    carries-moment : (at : ℕ) (t : Talk) → Known t → Known (present_at at t)
    carries-moment at t h =
        carries-rule answers_taken given cs t (present_at at t) ss (λ a r l. at-moment cs a r l at t) (λ o. knows-moment cs o gone at t)
        (λ o. (sym (present-keeps is_open at t (λ n. refl)) ∙ o, present-keeps (λ (x : Talk). x.committed) at t (λ n. refl))) (sound-present at t) h

    carries-asked : (t : Talk) → Known t → Known (asked t)
    carries-asked t h = carries-rule answers_taken given cs t (asked t) ss (λ a r l. at-asked cs a r l t) (λ o. knows-asked cs o gone t) (λ o. (sym (asked-open t.link) ∙ o, refl)) (sound-asked t) h

    carries-failed : (t : Talk) → Known t → Known (link_failed t)
    carries-failed t h =
        carries-rule answers_taken given cs t (link_failed t) ss (λ a r l. at-failed cs a r l t) (λ o. knows-failed cs o gone t)
        (λ o. (kept-open t (link_failed t) (failed-link t) o, failed-keeps (λ (x : Talk). x.committed) (λ t s l cs ps ns. refl) (λ t n. refl) t)) (sound-link_failed t) h

    carries-piece : (t : Talk) → Known t → Known (piece t)
    carries-piece t h =
        carries-rule answers_taken given cs t (piece t) ss (λ a r l. at-piece cs a r l t) (λ o. knows-piece cs o gone t)
        (λ o. (
          sym (if_case (λ (x : Talk). is_open x ≡ is_open t) (is_open t) (record t { last_read = t.present }) t refl refl) ∙ o,
          if_case (λ (x : Talk). x.committed ≡ t.committed) (is_open t) (record t { last_read = t.present }) t refl refl,
        )) (sound-piece t) h

    carries-lost : (fault : IoFault) (t : Talk) → Known t → Known (lost fault t)
    carries-lost fault t h =
        carries-rule answers_taken given cs t (lost fault t) ss (λ a r l. at-lost cs a r l fault t) (λ o. knows-lost cs o gone fault t)
        (λ o. elim (lost-off fault t) [
          | inl same ↦ (sym (ap is_open same) ∙ o, ap (λ (x : Talk). x.committed) same)
          | inr off ↦ absurd (true≢false (sym o ∙ off.opened))
        ]) (sound-lost fault t) h

    carries-misread : (why : Misread) (t : Talk) → Known t → Known (misread why t)
    carries-misread why t h =
        let k = keeps-misread why t in
        carries-rule answers_taken given cs t (misread why t) ss (λ a r l. at-misread cs a r l why t) (λ o. knows-misread cs o gone why t) (λ o. (kept-open t (misread why t) k.link o, k.committed o)) (sound-misread why t) h

    carries-frame : (f : Frame) (answers : List ProviderAnswer) (t : Talk) → Known t → Known (on_frame f answers t)
    carries-frame f answers t h =
        let k = keeps-frame f answers t in
        carries-rule answers_taken given cs t (on_frame f answers t) ss (λ a r l. at-frame cs a r l f answers t) (λ o. knows-frame cs o gone f answers t h.sound) (λ o. (kept-open t (on_frame f answers t) k.link o, k.committed o)) (sound-frame f answers t) h

    carries-tick : (answers : List ProviderAnswer) (t : Talk) → Known t → Known (tick answers t)
    carries-tick answers t h =
        let k = keeps-tick answers t in
        carries-rule answers_taken given cs t (tick answers t) ss (λ a r l. at-tick cs a r l answers t) (λ o. knows-tick cs o gone answers t) (λ o. (kept-open t (tick answers t) k.link o, k.committed o)) (sound-tick answers t) h

    carries-starve : (t : Talk) → Known t → Known (starve t)
    carries-starve t h =
        carries-rule answers_taken given cs t (starve t) ss (λ a r l. at-starve cs a r l t) (λ o. knows-starve cs o gone t) (λ o. absurd (true≢false (sym o ∙ ended-closed (starve t).link (starve-ends t)))) (sound-starve t) h

    carries-settle : (e : Engine) → Known e.talk → Known (settle e).talk
    carries-settle e h = subst Known (sym (settle-talk e)) h

    -- ---- reading

    -- what is no frame is read
    carries-badly : (at : ℕ) (why : Misread) (e : Engine) → Known e.talk → Known (read_badly at why e).talk
    carries-badly at why e h = carries-settle (rule_at at (misread why) e) (carries-misread why (present_at at e.talk) (carries-moment at e.talk h))

    -- what stands at the front is read
    carries-row : (at : ℕ) (r : Read) (answers : List ProviderAnswer) (e : Engine) → Known e.talk → Known (read_row at r answers e).talk
    carries-row at (Whole f n) answers e h = carries-settle _ (carries-frame f answers (present_at at e.talk) (carries-moment at e.talk h))
    carries-row at More answers e h = h
    carries-row at (TooLarge n) answers e h = carries-badly at (misreads.TooLarge n) e h
    carries-row at (BadHeartbeat c) answers e h = carries-badly at (misreads.BadHeartbeat c) e h
    carries-row at Bad answers e h = carries-badly at (misreads.Bad e.place) e h
    carries-row at ReadNoMemory answers e h = carries-badly at (misreads.Bad e.place) e h

    -- and so on, while there is something to be read
    carries-reads : (n : ℕ) (p : Progress) → Known p.engine.talk → Known (reads n p).engine.talk
    carries-reads zero p h = h
    carries-reads (suc n) p h =
        if_case (λ (y : Progress). Known y.engine.talk) (goes p && can_read p.engine) (reads n (read_part p)) p
        (carries-reads n (read_part p) (carries-row p.at (front_of p.engine) p.answers p.engine h)) h

    carries-reading : (b : Bool) (p : Progress) → Known p.engine.talk → Known (reading b p).engine.talk
    carries-reading b p h = if_case (λ (y : Progress). Known y.engine.talk) b (reads (length p.engine.unread) p) p (carries-reads (length p.engine.unread) p h) h

  -- ---- the step

  carries-none : (cs : List Cmd) (t : Talk) (ss : List Sending) → Holds cs t ss → Holds (cs ++ []) t ss
  carries-none cs t ss h = (let Q : List Cmd → Type 0 = λ xs. Holds xs t ss in subst Q (sym (append-nil cs)) h)

  -- the link that was asked for is there, where one was
  carries-step-linked : (at : ℕ) (e : Engine) (cs : List Cmd) (ss : List Sending) → Holds cs e.talk ss → Holds cs (step_linked at e).talk (if is_asked e.talk then ss ++ nothing_sent ∷ [] else ss)
  carries-step-linked at e cs ss h = by (is_asked e.talk) refl where
    x : Engine
    x = record { talk = linked (present_at at e.talk); unread = []; place = 0; unsent = []; starved = e.starved }

    by : (b : Bool) → is_asked e.talk ≡ b → Holds cs (step_linked at e).talk (if b then ss ++ nothing_sent ∷ [] else ss)
    by true is =
        let Q : Engine → Type 0 = λ y. Holds cs y.talk (ss ++ nothing_sent ∷ []) in
        let then_asked : is_asked (present_at at e.talk) ≡ true = present-keeps is_asked at e.talk (λ n. refl) ∙ is in
        subst Q (sym (if-true (is_asked e.talk) x (rule_at at (λ t. t) e) is)) (carries-linked answers_taken given cs (present_at at e.talk) ss then_asked (carries-moment cs ss at e.talk h))
    by false is =
        let Q : Engine → Type 0 = λ y. Holds cs y.talk ss in
        subst Q (sym (if-false (is_asked e.talk) x (rule_at at (λ t. t) e) is)) (carries-moment cs ss at e.talk h)

  -- a step is taken
  carries-step : (at : ℕ) (step : Step) (bytes : List ℕ) (answers : List ProviderAnswer) (e : Engine) (cs : List Cmd) (ss : List Sending) → Holds cs e.talk ss
      → Holds (cs ++ command_of step) (step_engine at step bytes answers e).talk (step_sending step e ss)
  carries-step at Linked bytes answers e cs ss h = carries-none cs _ _ (carries-step-linked at e cs ss h)
  carries-step at LinkFailed bytes answers e cs ss h = carries-none cs _ ss (carries-settle cs ss (rule_at at link_failed e) (carries-failed cs ss (present_at at e.talk) (carries-moment cs ss at e.talk h)))
  carries-step at (Piece n) bytes answers e cs ss h =
      let x : Engine = record e { talk = piece (present_at at e.talk); unread = e.unread ++ bytes } in
      carries-none cs _ ss
      (if_case (λ (y : Engine). Holds cs y.talk ss) (is_open e.talk) (settle x) (rule_at at (λ t. t) e)
      (carries-settle cs ss x (carries-piece cs ss (present_at at e.talk) (carries-moment cs ss at e.talk h))) (carries-moment cs ss at e.talk h))
  carries-step at End bytes answers e cs ss h = carries-none cs _ ss (carries-settle cs ss (rule_at at (lost Aborted) e) (carries-lost cs ss Aborted (present_at at e.talk) (carries-moment cs ss at e.talk h)))
  carries-step at Fault bytes answers e cs ss h = carries-none cs _ ss (carries-settle cs ss (rule_at at (lost Reset) e) (carries-lost cs ss Reset (present_at at e.talk) (carries-moment cs ss at e.talk h)))
  carries-step at Room bytes answers e cs ss h = carries-none cs _ ss (carries-moment cs ss at e.talk h)
  carries-step at Tick bytes answers e cs ss h = carries-none cs _ ss (carries-settle cs ss (rule_at at (tick answers) e) (carries-tick cs ss answers (present_at at e.talk) (carries-moment cs ss at e.talk h)))
  carries-step at (Command c) bytes answers e cs ss h = carries-command answers_taken given cs c (present_at at e.talk) ss (carries-moment cs ss at e.talk h)

  -- the turn is cut before its step
  carries-cut : (step : Step) (e : Engine) (cs : List Cmd) (ss : List Sending) → Holds cs e.talk ss → Holds cs e.talk (step_sending step e ss)
  carries-cut Linked e cs ss h = if_by (λ xs. Holds cs e.talk xs) (is_asked e.talk) (ss ++ nothing_sent ∷ []) ss (λ is. carries-unlinked answers_taken given cs e.talk ss is h) (λ is. h)
  carries-cut LinkFailed e cs ss h = h
  carries-cut (Piece n) e cs ss h = h
  carries-cut End e cs ss h = h
  carries-cut Fault e cs ss h = h
  carries-cut Room e cs ss h = h
  carries-cut Tick e cs ss h = h
  carries-cut (Command c) e cs ss h = h

  -- a step is taken, or the turn is cut before
  carries-part : (step : Step) (bytes : List ℕ) (p : Progress) (cs : List Cmd) (ss : List Sending) → Holds cs p.engine.talk ss
      → Holds (cs ++ (if goes p then command_of step else [])) (step_part step bytes p).engine.talk (step_sending step p.engine ss)
  carries-part step bytes p cs ss h = by (is_part step p.engine) (goes p) refl where
    after : Engine
    after = step_engine p.at step bytes p.answers p.engine

    done : Holds (cs ++ command_of step) after.talk (step_sending step p.engine ss)
    done = carries-step p.at step bytes p.answers p.engine cs ss h

    by : (b g : Bool) → is_part step p.engine ≡ b
        → Holds (cs ++ (if g then command_of step else [])) (if b then (if g then part after (questioned (step_questions p.at step p.answers p.engine) p) else p) else record p { engine = after }).engine.talk (step_sending step p.engine ss)
    by true true is = done
    by true false is = carries-none cs _ _ (carries-cut step p.engine cs ss h)
    by false true is = done
    by false false is = (let Q : List Cmd → Type 0 = λ xs. Holds (cs ++ xs) after.talk (step_sending step p.engine ss) in subst Q (no-command step p.engine is) done)

  -- ---- commits

  marks-snoc : (ms : List Mark) (is : List Item) (item : Item) → AreMarks ms is → AreMarks (ms ++ mark_of item ∷ []) (is ++ item ∷ [])
  marks-snoc [] [] item h = (refl, omega (arith, encoding-some item.frame), tt)
  marks-snoc (m ∷ ms) (i ∷ is) item h = (h.0, h.1, marks-snoc ms is item h.2)
  marks-snoc [] (i ∷ is) item h = absurd h
  marks-snoc (m ∷ ms) [] item h = absurd h

  -- frames were committed
  record AreCommitted (cs : List Cmd) (answered_sent : ℕ → Bool) (r : Reading) (left : List Item) (t : Talk) : Type 0 where
    at : IsAt cs answered_sent r left t
    marks : AreMarks t.committed left
    sound : IsSound t

  module _ (cs : List Cmd) (a : ℕ → Bool) (r : Reading) where
    sound-one : (e : Engine) → IsSound e.talk → IsSound (commit_one e).talk
    sound-one e s = by (fitting_next e) where
      by : (o : Option Item) → IsSound (committed_with_bytes o e).talk
      by None = s
      by (Some item) = sound-commit (e.talk.capacity - length e.unsent) e.talk s

    one-at : (o : Option Item) (e : Engine) (left : List Item) → fitting_next e ≡ o → IsAt cs a r left e.talk → IsAt cs a r (left ++ option_to_list o) (with_frame o e).talk
    one-at None e left h k = (let Q : List Item → Type 0 = λ x. IsAt cs a r x e.talk in subst Q (sym (append-nil left)) k)
    one-at (Some item) e left h k = at-commit cs a r left e.talk item (fitting-some (e.talk.capacity - length e.unsent) (next_out e.talk) item h) k

    one-marks : (o : Option Item) (e : Engine) (left : List Item) → AreMarks e.talk.committed left → AreMarks (with_frame o e).talk.committed (left ++ option_to_list o)
    one-marks None e left k = (let Q : List Item → Type 0 = λ x. AreMarks e.talk.committed x in subst Q (sym (append-nil left)) k)
    one-marks (Some item) e left k = marks-snoc e.talk.committed left item k

    -- frames are committed, one after another
    commits-on : (n : ℕ) (e : Engine) (left : List Item) → AreCommitted cs a r left e.talk → AreCommitted cs a r (left ++ committed_in n e) (commits n e).talk
    commits-on zero e left k = (let Q : List Item → Type 0 = λ x. AreCommitted cs a r x e.talk in subst Q (sym (append-nil left)) k)
    commits-on (suc n) e left k =
        let first : List Item = option_to_list (fitting_next e) in
        let rest : List Item = committed_in n (commit_one e) in
        let Q : Engine → Type 0 = λ x. IsAt cs a r (left ++ first) x.talk in
        let M : Engine → Type 0 = λ x. AreMarks x.talk.committed (left ++ first) in
        let one : AreCommitted cs a r (left ++ first) (commit_one e).talk = record {
          at = subst Q (sym (commit_one-is e)) (one-at (fitting_next e) e left refl k.at);
          marks = subst M (sym (commit_one-is e)) (one-marks (fitting_next e) e left k.marks);
          sound = sound-one e k.sound;
        } in
        let R : List Item → Type 0 = λ x. AreCommitted cs a r x (commits n (commit_one e)).talk in
        subst R (append_assoc left first rest) (commits-on n (commit_one e) (left ++ first) one)

  -- and who opened a channel is still known
  knows-commits : (cs : List Cmd) (opens : ℕ → ℕ) (n : ℕ) (e : Engine) → KnowsOpeners cs opens gone e.talk → KnowsOpeners cs opens gone (commits n e).talk
  knows-commits cs opens zero e h = h
  knows-commits cs opens (suc n) e h = knows-commits cs opens n (commit_one e) (one (fitting_next e)) where
    one : (o : Option Item) → KnowsOpeners cs opens gone (committed_with_bytes o e).talk
    one None = h
    one (Some item) = knows-commit cs opens gone (e.talk.capacity - length e.unsent) e.talk h

  -- ---- offers

  raw-append : (xs ys : List Frame) → raw_frames (xs ++ ys) ≡ raw_frames xs ++ raw_frames ys
  raw-append [] ys = refl
  raw-append (x ∷ xs) ys = by (is_raw x) (raw-append xs ys) where
    by : (b : Bool) → raw_frames (xs ++ ys) ≡ raw_frames xs ++ raw_frames ys → cond b (x ∷ raw_frames (xs ++ ys)) (raw_frames (xs ++ ys)) ≡ cond b (x ∷ raw_frames xs) (raw_frames xs) ++ raw_frames ys
    by true h = ap (λ fs. x ∷ fs) h
    by false h = h

  -- no more frames are sent than were committed
  sent-within : (n : ℕ) (ms : List Mark) (is : List Item) → AreMarks ms is → sent_in n ms ≤ length is
  sent-within n [] is h = omega arith
  sent-within n (m ∷ ms) [] h = absurd h
  sent-within n (m ∷ ms) (i ∷ is) h = by (nat_le m.left n) (sent-within (n - m.left) ms is h.2) where
    by : (b : Bool) → sent_in (n - m.left) ms ≤ length is → (if b then suc (sent_in (n - m.left) ms) else 0) ≤ suc (length is)
    by true le = omega (arith, le)
    by false le = omega arith

  raws-snoc : (ss : List Sending) (s : Sending) → raws (ss ++ s ∷ []) ≡ raws ss ++ raw_frames (frames_sent s) ∷ []
  raws-snoc ss s = ap (map raw_frames) (map-append frames_sent ss (s ∷ [])) ∙ map-append raw_frames (map frames_sent ss) (frames_sent s ∷ [])

  -- frames are committed and bytes are taken
  carries-offer : (at k : ℕ) (w : Wrote) (e : Engine) (cs : List Cmd) (ss : List Sending) → taken_by w ≡ k → is_open e.talk ≡ true → Holds cs e.talk ss
      → Holds cs (taken k (present_at at (commit_all e).talk)) (on_last (offer_sending w e) ss)
  carries-offer at k w e cs ss is opened h =
      let l = h.last opened in
      let new : List Item = committed_before e in
      let left : List Item = h.left ++ new in
      let x : Engine = commit_all e in
      let c : AreCommitted cs h.answered h.reading left x.talk = commits-on cs h.answered h.reading (frames_waiting e.talk) e h.left (record { at = h.at; marks = l.marks; sound = h.sound }) in
      let t : Talk = present_at at x.talk in
      let same_marks : t.committed ≡ x.talk.committed = present-keeps (λ (y : Talk). y.committed) at x.talk (λ n. refl) in
      let M : List Mark → Type 0 = λ ms. AreMarks ms left in
      let opened_x : is_open x.talk ≡ true = commits-keep (λ (y : Engine). is_open y.talk) (λ y fs ms bytes. refl) (frames_waiting e.talk) e ∙ opened in
      let opened_t : is_open t ≡ true = present-keeps is_open at x.talk (λ n. refl) ∙ opened_x in
      let sound_t : IsSound t = sound-present at x.talk c.sound in
      let a : AreSentOn cs took h.before h.sofar left (sent_in k t.committed) (taken k t) =
      taken-on k t cs took h.answered h.ever h.reading h.before h.sofar left opened_t (subst M (sym same_marks) c.marks) (sound-last t sound_t) h.both (at-moment cs h.answered h.reading left at x.talk c.at) h.known in
      let n : ℕ = sent_in k t.committed in
      let count : sent_in (taken_by w) x.talk.committed ≡ n = ap (λ j. sent_in j x.talk.committed) is ∙ ap (sent_in k) (sym same_marks) in
      let within : n ≤ length left = sent-within k t.committed left (subst M (sym same_marks) c.marks) in
      let s : Sending = l.sending in
      let s' : Sending = offer_sending w e s in
      let done : List Item = l.done ++ take n left in
      let all : on_last (offer_sending w e) ss ≡ l.fronts ++ s' ∷ [] = ap (on_last (offer_sending w e)) l.all ∙ on_last-append (offer_sending w e) l.fronts s in
      let committed : s'.committed ≡ done ++ drop n left =
      ap (λ xs. xs ++ new) l.committed ∙ append_assoc l.done h.left new ∙ ap (λ xs. l.done ++ xs) (sym (take-append-drop n left)) ∙ sym (append_assoc l.done (take n left) (drop n left)) in
      let number : s'.sent ≡ length done = omega (arith, l.count, count, length-append l.done (take n left), length-take-le n left within) in
      let raw : h.sofar ++ raw_frames (frames (take n left)) ≡ raw_frames (frames done) =
      ap (λ fs. fs ++ raw_frames (frames (take n left))) l.raw ∙ sym (raw-append (frames l.done) (frames (take n left)))
      ∙ ap raw_frames (sym (map-append (λ (item : Item). item.frame) l.done (take n left))) in
      let sent_items : items_sent s' ≡ done = ap (λ j. take j s'.committed) number ∙ ap (take (length done)) committed ∙ take-append_seam done (drop n left) in
      let links : raws (on_last (offer_sending w e) ss) ≡ h.before ++ (h.sofar ++ raw_frames (frames (take n left))) ∷ [] =
      ap raws all ∙ raws-snoc l.fronts s' ∙ ap (λ ls. ls ++ raw_frames (frames_sent s') ∷ []) l.fronts_raw
      ∙ ap (λ fs. h.before ++ fs ∷ []) (ap (λ items. raw_frames (frames items)) sent_items ∙ sym raw) in
      record {
        answered = a.answered;
        ever = a.ever;
        both = a.both;
        reading = a.reading;
        left = drop n left;
        before = h.before;
        sofar = h.sofar ++ raw_frames (frames (take n left));
        at = a.at;
        known = a.known;
        opens = h.opens;
        knows = knows-taken cs h.opens gone k t (knows-moment cs h.opens gone at x.talk (knows-commits cs h.opens (frames_waiting e.talk) e h.knows));
        takes = h.takes;
        sound = sound-taken k t sound_t;
        last = λ o.
            record { fronts = l.fronts; sending = s'; done = done; all = all; committed = committed; count = number; fronts_raw = l.fronts_raw; raw = raw; marks = a.marks o };
        links = inl links;
      }

  -- an offer is answered
  carries-answered : (at : ℕ) (w : Wrote) (e : Engine) (cs : List Cmd) (ss : List Sending) → is_open e.talk ≡ true → Holds cs e.talk ss → Holds cs (answered at w e).talk (on_last (offer_sending w e) ss)
  carries-answered at (Took k) e cs ss o h = carries-settle cs _ _ (carries-offer at k (Took k) e cs ss refl o h)
  carries-answered at NoMemory e cs ss o h = carries-settle cs _ _ (carries-offer at 0 NoMemory e cs ss refl o h)
  carries-answered at Failed e cs ss o h =
      let t : Talk = present_at at (commit_all e).talk in
      let ss' = on_last (offer_sending Failed e) ss in
      let Q : Talk → Type 0 = λ x. Holds cs x ss' in
      carries-settle cs ss' (rule_at at (lost BrokenPipe) (commit_all e)) (carries-lost cs ss' BrokenPipe t (subst Q (taken-none t) (carries-offer at 0 Failed e cs ss refl o h)))

  -- ---- an end by a frame that is too long

  overlong-open : (e : Engine) (size : ℕ) → overlong_next e ≡ Some size → is_open e.talk ≡ true
  overlong-open e size is = by (is_open e.talk) refl where
    by : (b : Bool) → is_open e.talk ≡ b → b ≡ true
    by true o = refl
    by false shut = (let nothing : overlong_next e ≡ None = closed-overlong e shut in let clash : None ≡ Some size = sym nothing ∙ is in absurd cc)

  -- a frame that is too long ends the session
  carries-ended : (size : ℕ) (e : Engine) (cs : List Cmd) (ss : List Sending) → overlong_next e ≡ Some size → Holds cs e.talk ss → Holds cs (ended_overlong (Some size) e).talk ss
  carries-ended size e cs ss is h =
      let l = h.last (overlong-open e size is) in
      let x : Engine = commit_all e in
      let left : List Item = h.left ++ committed_before e in
      let c : AreCommitted cs h.answered h.reading left x.talk = commits-on cs h.answered h.reading (frames_waiting e.talk) e h.left (record { at = h.at; marks = l.marks; sound = h.sound }) in
      carries-settle cs ss (with_talk (end_overlong (Some size)) x)
      (record {
        answered = h.answered;
        ever = h.ever;
        both = h.both;
        reading = h.reading;
        left = left;
        before = h.before;
        sofar = h.sofar;
        at = at-lose cs h.answered h.reading left (SerialisationError size) x.talk c.at;
        known = h.known;
        opens = h.opens;
        knows = knows-overlong cs h.opens gone (Some size) x.talk (knows-commits cs h.opens (frames_waiting e.talk) e h.knows);
        takes = h.takes;
        sound = sound-lose (SerialisationError size) x.talk c.sound;
        last = λ o. absurd (true≢false (sym o ∙ (off-lost (SerialisationError size) x.talk).opened));
        links = h.links;
      })

  carries-refuse : (e : Engine) (cs : List Cmd) (ss : List Sending) → Holds cs e.talk ss → Holds cs (refuse_overlong e).talk ss
  carries-refuse e cs ss h = by (overlong_next e) refl where
    by : (o : Option ℕ) → overlong_next e ≡ o → Holds cs (ended_overlong o e).talk ss
    by None is = h
    by (Some size) is = carries-ended size e cs ss is h

  -- ---- turns

  -- offers are made and answered
  carries-drain : (ws : List Wrote) (p : Progress) (cs : List Cmd) (ss : List Sending) → AreAnswers ws p → Holds cs p.engine.talk ss → Holds cs (drained ws p).engine.talk (offers_sending ws p ss)
  carries-drain [] p cs ss may h =
      if_case (λ (q : Progress). Holds cs q.engine.talk ss) (goes p) (record p { engine = refuse_overlong p.engine }) p (carries-refuse p.engine cs ss h) h
  carries-drain (w ∷ ws) p cs ss may h =
      let can : can_write p.engine ≡ true = and-right (goes p) (can_write p.engine) may.0 in
      let opened : is_open p.engine.talk ≡ true = and-left (is_open p.engine.talk) _ can in
      let q = offer_part w p in
      let ss' = on_last (offer_sending w p.engine) ss in
      let next : Holds cs q.engine.talk ss' = carries-answered p.at w p.engine cs ss opened h in
      let all : Bool = is_all w (length (offered p.engine)) in
      let Q : List Wrote → Type 0 = λ vs. Holds cs q.engine.talk (offers_sending vs q ss') in
      let R : Progress → Type 0 = λ z. Holds cs z.engine.talk (offers_sending ws q ss') in
      elim (all-rest all ws q may.2) [
        | inl x ↦ subst R (sym (if-false all (drained ws q) q x.0)) (subst Q (sym x.1) next)
        | inr x ↦ subst R (sym (if-true all (drained ws q) q x.0)) (carries-drain ws q cs ss' x.1 next)
      ]

  -- memory was refused
  carries-starved : (cut : Option ℕ) (at : ℕ) (e : Engine) (cs : List Cmd) (ss : List Sending) → Holds cs e.talk ss → Holds cs (starved_after cut at e).talk ss
  carries-starved None at e cs ss h = h
  carries-starved (Some j) at e cs ss h = carries-starve cs ss (present_at at e.talk) (carries-moment cs ss at e.talk h)

  -- a link is asked for where one is wanted
  pub carries-asks : (e : Engine) (cs : List Cmd) (ss : List Sending) → Holds cs e.talk ss → Holds cs (asks e).talk ss
  carries-asks e cs ss h = if_case (λ (y : Engine). Holds cs y.talk ss) (wants_ask e) (with_talk asked e) e (carries-asked cs ss e.talk h) h

  -- the rest of a turn
  pub carries-applied : (u : Turn) (e : Engine) (cs : List Cmd) (ss : List Sending) → IsApplied u e → Holds cs e.talk ss → Holds (cs ++ commands_in u) (applied u e).talk (applied_sending u e ss)
  carries-applied u e cs ss may h =
      let p : Progress = begun u.at u.notes.starved u.notes.auths e in
      let now : List Sending = applied_sending u e ss in
      let stepped : Holds (cs ++ commands_in u) (step_part u.step u.bytes p).engine.talk (step_sending u.step e ss) = carries-part u.step u.bytes p cs ss h in
      let heard : Holds (cs ++ commands_in u) (read u e).engine.talk (step_sending u.step e ss) =
      carries-reading (cs ++ commands_in u) (step_sending u.step e ss) (is_piece u.step) (step_part u.step u.bytes p) stepped in
      let after : Holds (cs ++ commands_in u) (after_writes u e).engine.talk now = carries-drain (write_answers u.notes) (read u e) (cs ++ commands_in u) (step_sending u.step e ss) may.answers heard in
      if_case (λ (y : Engine). Holds (cs ++ commands_in u) y.talk now) (has_ended e.talk) (after_writes u e).engine (starved_after u.notes.starved u.at (after_writes u e).engine)
      after (carries-starved u.notes.starved u.at (after_writes u e).engine (cs ++ commands_in u) now after)
