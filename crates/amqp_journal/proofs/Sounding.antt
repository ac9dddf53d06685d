-- Each entry of a journal leads from a sound state to one, and what is left of a sound state is sound.
use Rattle.std.proofs.Common.{◌≡◌, ◌⊎◌, inl, inr, ℕ, zero, suc, ◌+◌, ◌-◌, ◌<◌, ◌&&◌, Bool, true, false, IsTrue, List, [], ◌∷◌, ◌++◌, drop, length, Option, Some, None, Result, is_some, IsSome, cond, true≢false, refl, ap, sym, ◌∙◌, subst}
use Rattle.std.specs.Ordering.{nat_cmp, is_eq}
use Rattle.std.specs.Map.{keys_of}
use Rattle.amqp_frame.specs.declared.frame.Read.{Read}
use Rattle.amqp_frame.specs.declared.frame.Read.TheVariants as row
use Rattle.amqp_outbox.specs.declared.item.Item.{Item}
use Rattle.amqp_promise.specs.declared.error.ErrorKind.{ErrorKind}
use Rattle.amqp_promise.specs.declared.error.ErrorKind.TheVariants.{SerialisationError}
use Rattle.amqp_promise.specs.declared.state.ConnectionState.{ConnectionState}
use Rattle.amqp_promise.specs.declared.state.ConnectionState.TheVariants.{Closed, Error}
use Rattle.amqp_promise.specs.declared.io_fault.IoFault.TheVariants.{Aborted, Reset, BrokenPipe}
use Rattle.amqp_violations.specs.declared.misread.Misread.{Misread}
use Rattle.amqp_violations.specs.declared.misread.Misread.TheVariants.{TooLarge, BadHeartbeat, Bad}
use Rattle.amqp_auth.specs.declared.asked.Asked.{Asked}
use Rattle.amqp_answers.specs.declared.answer.Answer.{Answer}
use Rattle.amqp_maps.specs.Listed.{at}
use Rattle.amqp_rules.specs.Sound.{IsSound, NamesItself, Ascend, AllBelow}
use Rattle.amqp_rules.specs.Laws.{is_end}
use Rattle.amqp_rules.specs.Talk.{Talk, is_open, is_asked, drops_input, has_ended}
use Rattle.amqp_rules.specs.Changes.{present_at, starve}
use Rattle.amqp_rules.specs.Links.{asked, linked, link_failed, piece, misread, lost}
use Rattle.amqp_rules.specs.Frames.{on_frame}
use Rattle.amqp_rules.specs.Ticks.{tick, is_connected}
use Rattle.amqp_rules.specs.Commands.{command}
use Rattle.amqp_rules.specs.Writing.{frames_waiting, end_overlong, taken}
use Rattle.amqp_types.proofs.Small.{if_case}
use Rattle.amqp_rules.proofs.Ascending.{at-below}
use Rattle.amqp_maps.proofs.Numbered.{at-first}
use Rattle.amqp_rules.proofs.SoundChanges.{sound-lose, sound-starve, sound-present}
use Rattle.amqp_rules.proofs.SoundFrames.{sound-frame}
use Rattle.amqp_rules.proofs.SoundCommands.{sound-command}
use Rattle.amqp_rules.proofs.Soundness.{sound-asked, sound-linked, sound-link_failed, sound-piece, sound-misread, sound-lost, sound-tick, sound-commit, sound-taken, sound-ended}
use Rattle.amqp_engine.specs.declared.port.Step.{Step}
use Rattle.amqp_engine.specs.declared.port.Step.TheVariants.{Linked, LinkFailed, Piece, End, Fault, Room, Tick, Command}
use Rattle.amqp_engine.specs.declared.port.Wrote.{Wrote}
use Rattle.amqp_engine.specs.declared.port.Wrote.TheVariants.{Took, Failed, NoMemory}
use Rattle.amqp_engine.specs.Engine.{Engine, with_talk, rule_at, settle, step_engine, can_read, front_of, read_row, read_one, fitting_next, committed_with_bytes, commit_one, commits, commit_all, overlong_next, ended_overlong, refuse_overlong, took, wrote, starve_at}
use Rattle.amqp_engine.specs.Turn.{Turn, write_answers, wants_ask, asks, Progress, begun, goes, part, is_part, step_part, read_part, reads, is_piece, reading, offered, offer_part, closing, is_all, drained, read, after_writes, starved_after, applied, turn}
use Rattle.amqp_journal.specs.Untaken.{Untaken, untaken, with_untaken}
use Rattle.amqp_journal.specs.Left.{IsLeft}
use Rattle.amqp_journal.specs.declared.entry.Entry.{Entry}
use Rattle.amqp_journal.specs.declared.entry.Entry.TheVariants as entry
use Rattle.amqp_journal.specs.Journal.{turn_in, entered, stands_for, EndsRight}
use Rattle.amqp_journal.proofs.Parts.{Slot}
use Rattle.amqp_journal.proofs.Ended.{settle-talk}

abbrev Is : Engine → Type 0
Is e = IsSound e.talk

settled : (e : Engine) → Is e → Is (settle e)
settled e s = let P : Talk → Type 0 = λ t. IsSound t in subst P (sym (settle-talk e)) s

sound-step : (now : ℕ) (step : Step) (bytes : List ℕ) (answers : List Asked) (e : Engine) → Is e → Is (step_engine now step bytes answers e)
sound-step now Linked bytes answers e s =
    if_case Is (is_asked e.talk) (record { talk = linked (present_at now e.talk); unread = []; place = 0; unsent = []; starved = e.starved }) (rule_at now (λ t. t) e)
    (sound-linked (present_at now e.talk) (sound-present now e.talk s)) (sound-present now e.talk s)
sound-step now LinkFailed bytes answers e s = settled (rule_at now link_failed e) (sound-link_failed (present_at now e.talk) (sound-present now e.talk s))
sound-step now (Piece n) bytes answers e s =
    let x : Engine = record e { talk = piece (present_at now e.talk); unread = e.unread ++ bytes } in
    if_case Is (is_open e.talk) (settle x) (rule_at now (λ t. t) e) (settled x (sound-piece (present_at now e.talk) (sound-present now e.talk s))) (sound-present now e.talk s)
sound-step now End bytes answers e s = settled (rule_at now (lost Aborted) e) (sound-lost Aborted (present_at now e.talk) (sound-present now e.talk s))
sound-step now Fault bytes answers e s = settled (rule_at now (lost Reset) e) (sound-lost Reset (present_at now e.talk) (sound-present now e.talk s))
sound-step now Room bytes answers e s = sound-present now e.talk s
sound-step now Tick bytes answers e s = settled (rule_at now (tick answers) e) (sound-tick answers (present_at now e.talk) (sound-present now e.talk s))
sound-step now (Command c) bytes answers e s = sound-command c (present_at now e.talk) (sound-present now e.talk s)

sound-badly : (now : ℕ) (why : Misread) (e : Engine) → Is e → Is (settle (rule_at now (misread why) e))
sound-badly now why e s = settled (rule_at now (misread why) e) (sound-misread why (present_at now e.talk) (sound-present now e.talk s))

sound-row : (now : ℕ) (r : Read) (answers : List Asked) (e : Engine) → Is e → Is (read_row now r answers e)
sound-row now (row.Whole f n) answers e s = settled _ (sound-frame f answers (present_at now e.talk) (sound-present now e.talk s))
sound-row now (row.TooLarge size) answers e s = sound-badly now (TooLarge size) e s
sound-row now (row.BadHeartbeat channel) answers e s = sound-badly now (BadHeartbeat channel) e s
sound-row now row.More answers e s = s
sound-row now row.Bad answers e s = sound-badly now (Bad e.place) e s
sound-row now row.NoMemory answers e s = sound-badly now (Bad e.place) e s

sound-commits : (n : ℕ) (e : Engine) → Is e → Is (commits n e)
sound-commits zero e s = s
sound-commits (suc n) e s = sound-commits n (commit_one e) (by (fitting_next e)) where
  by : (o : Option Item) → Is (committed_with_bytes o e)
  by None = s
  by (Some item) = sound-commit (e.talk.capacity - length e.unsent) e.talk s

sound-commit-all : (e : Engine) → Is e → Is (commit_all e)
sound-commit-all e s = sound-commits (frames_waiting e.talk) e s

sound-refuse : (e : Engine) → Is e → Is (refuse_overlong e)
sound-refuse e s = by (overlong_next e) where
  by : (o : Option ℕ) → Is (ended_overlong o e)
  by None = s
  by (Some size) = settled (with_talk (end_overlong (Some size)) (commit_all e)) (sound-lose (SerialisationError size) (commit_all e).talk (sound-commit-all e s))

sound-wrote : (now : ℕ) (w : Wrote) (e : Engine) → Is e → Is (wrote now w e)
sound-wrote now Failed e s = settled (rule_at now (lost BrokenPipe) e) (sound-lost BrokenPipe (present_at now e.talk) (sound-present now e.talk s))
sound-wrote now (Took n) e s = settled _ (sound-taken n (present_at now e.talk) (sound-present now e.talk s))
sound-wrote now NoMemory e s = settled _ (sound-taken 0 (present_at now e.talk) (sound-present now e.talk s))

-- ---- a turn in the making

abbrev In : Progress → Type 0
In p = IsSound p.engine.talk

sound-step-part : (step : Step) (bytes : List ℕ) (p : Progress) → In p → In (step_part step bytes p)
sound-step-part step bytes p s =
    let x : Engine = step_engine p.at step bytes p.answers p.engine in
    let h : Is x = sound-step p.at step bytes p.answers p.engine s in
    if_case In (is_part step p.engine) _ (record p { engine = x }) (if_case In (goes p) _ p h s) h

sound-reads : (n : ℕ) (p : Progress) → In p → In (reads n p)
sound-reads zero p s = s
sound-reads (suc n) p s =
    if_case In (goes p && can_read p.engine) (reads n (read_part p)) p (sound-reads n (read_part p) (sound-row p.at (front_of p.engine) p.answers p.engine s)) s

sound-reading : (b : Bool) (p : Progress) → In p → In (reading b p)
sound-reading true p s = sound-reads (length p.engine.unread) p s
sound-reading false p s = s

sound-drained : (ws : List Wrote) (p : Progress) → In p → In (drained ws p)
sound-drained [] p s = if_case In (goes p) (record p { engine = refuse_overlong p.engine }) p (sound-refuse p.engine s) s
sound-drained (w ∷ ws) p s =
    let h : In (offer_part w p) = sound-wrote p.at w (commit_all p.engine) (sound-commit-all p.engine s) in
    if_case In (is_all w (length (offered p.engine))) (drained ws (offer_part w p)) (offer_part w p) (sound-drained ws (offer_part w p) h) h

-- ---- a turn

pub sound-applied : (v : Turn) (e : Engine) → Is e → Is (applied v e)
sound-applied v e s =
    let p : Progress = begun v.at v.notes.starved v.notes.auths e in
    let h : Is (after_writes v e).engine =
    sound-drained (write_answers v.notes) (read v e) (sound-reading (is_piece v.step) (step_part v.step v.bytes p) (sound-step-part v.step v.bytes p s)) in
    if_case Is (has_ended e.talk) (after_writes v e).engine (starved_after v.notes.starved v.at (after_writes v e).engine) h (by v.notes.starved (after_writes v e).engine h)
  where
    by : (o : Option ℕ) (x : Engine) → Is x → Is (starved_after o v.at x)
    by None x h = h
    by (Some j) x h = sound-starve (present_at v.at x.talk) (sound-present v.at x.talk h)

pub sound-asks : (e : Engine) → Is e → Is (asks e)
sound-asks e s = if_case Is (wants_ask e) (with_talk asked e) e (sound-asked e.talk s) s

pub sound-journal : (js : List Entry) (e : Engine) → Is e → Is (stands_for js e)
sound-journal [] e s = s
sound-journal (entry.Turn u ∷ js) e s = sound-journal js (turn (turn_in u) e) (sound-applied (turn_in u) (asks e) (sound-asks e s))
sound-journal (entry.Called pass nth c promise ∷ js) e s = sound-journal js (with_talk (command c) e) (sound-command c e.talk s)
sound-journal (entry.Own c ∷ js) e s = sound-journal js (with_talk (command c) e) (sound-command c e.talk s)

-- ---- a session that has ended

unconnected : (s : ConnectionState) → IsTrue (is_end s) → is_connected s ≡ false
unconnected Closed h = refl
unconnected Error h = refl
unconnected _ h = absurd cc

pub ends-right : (e : Engine) → Is e → EndsRight e
ends-right e s over = unconnected e.talk.state (sound-ended e.talk s over).1

-- ---- what is left

all-below : (top : ℕ) (ps : List (ℕ × Slot)) → ((n : ℕ) → IsSome (at n ps) → n < top) → AllBelow top (keys_of ps)
all-below top [] h = tt
all-below top (p ∷ ps) h = (
  h p.0 (ap is_some (at-first p.0 p.1 ps)),
  all-below top ps (λ n there. h n (by (is_eq (nat_cmp n p.0)) (at n ps) there)),
)
  where
    by : (b : Bool) (o : Option Slot) → IsSome o → IsSome (cond b (Some p.1) o)
    by true o there = refl
    by false o there = there

pub left-sound : (f t : Talk) → IsLeft f t → IsSound f → IsSound t
left-sound f t h s = subst P (sym h.rest) by where
  P : Talk → Type 0
  P x = IsSound x

  was : (n : ℕ) → IsSome (at n t.promises) → n < f.made
  was n there =
      elim (h.answers n) [
        | inl same ↦ made (at n f.promises) refl (ap is_some (sym same) ∙ there)
        | inr taken ↦ absurd (true≢false (sym there ∙ ap is_some taken.0))
      ]
    where
      made : (o : Option Slot) → at n f.promises ≡ o → IsSome o → n < f.made
      made (Some x) is some = at-below n f.made f.promises x s.promises.1 is
      made None is some = absurd cc

  -- an answer that was not taken names what it did
  named : NamesItself t.promises
  named number id opened is =
      elim (h.answers number) [
        | inl same ↦ s.answers number id opened (sym same ∙ is)
        | inr taken ↦ absurd (true≢false (sym (ap is_some is) ∙ ap is_some taken.0))
      ]

  by : IsSound (with_untaken (untaken t) f)
  by =
      record {
        link = s.link;
        room = s.room;
        acting = s.acting;
        finish = s.finish;
        listed = s.listed;
        promises = (h.ordered.0, all-below f.made t.promises was);
        answers = named;
        channels = s.channels;
      }
