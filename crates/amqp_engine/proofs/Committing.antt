-- What the rules of a session keep of the frames committed on its link, turns keep.
use Rattle.std.proofs.Common.{◌≡◌, ◌≢◌, ◌≤◌, ◌⊎◌, inl, inr, ℕ, zero, suc, ◌-◌, ◌&&◌, not, nat_le, nat_lt, if◌then◌else◌, Bool, true, false, List, [], ◌∷◌, ◌++◌, length, drop, Option, Some, None, is_some, refl, ap, sym, ◌∙◌, subst, append_assoc, arith, append-nil}
use Rattle.std.proofs.lemmas.Bool.Decides.{nat_tests}
use Rattle.std.proofs.lemmas.List.{map-append}
use Rattle.std.specs.Prelude.{option_to_list}
use Rattle.std.specs.List.{AllByRecursion}
use Rattle.amqp_frame.specs.declared.frame.Frame.{Frame}
use Rattle.amqp_frame.specs.declared.frame.Read.{Read}
use Rattle.amqp_frame.specs.declared.frame.Read.TheVariants.{Whole, More, TooLarge, BadHeartbeat, Bad, NoMemory as ReadNoMemory}
use Rattle.amqp_frame.specs.FrameReading.{front}
use Rattle.amqp_frame.specs.Frames.{encoding}
use Rattle.amqp_outbox.specs.declared.item.Item.{Item}
use Rattle.amqp_outbox.specs.Items.{size_of, plain_item}
use Rattle.amqp_outbox.specs.Queued as queued
use Rattle.amqp_outbox.specs.Queued.{Queued, waiting_items, after_next, only}
use Rattle.amqp_rules.specs.declared.state.Link.{Link}
use Rattle.amqp_rules.specs.declared.state.Link.TheVariants.{Due, Wanted, Asked, Open, Ended}
use Rattle.amqp_commands.specs.declared.command.Cmd.{Cmd}
use Rattle.amqp_promise.specs.declared.io_fault.IoFault.{IoFault}
use Rattle.amqp_promise.specs.declared.io_fault.IoFault.TheVariants.{Aborted, Reset, BrokenPipe}
use Rattle.amqp_promise.specs.declared.error.ErrorKind.{ErrorKind}
use Rattle.amqp_violations.specs.declared.misread.Misread.{Misread}
use Rattle.amqp_violations.specs.declared.misread.Misread.TheVariants as misreads
use Rattle.amqp_auth.specs.declared.asked.Asked.{Asked as ProviderAnswer}
use Rattle.amqp_settings.specs.Config.{Config}
use Rattle.amqp_rules.specs.Talk.{Talk, start, has_ended, is_open, is_asked, end_of_link}
use Rattle.amqp_rules.specs.Changes.{present_at}
use Rattle.amqp_rules.specs.Negotiation.{frame_limit}
use Rattle.amqp_settings.specs.Handshake.{protocol_header}
use Rattle.amqp_rules.specs.Links.{asked, linked, link_failed, piece, misread, lost}
use Rattle.amqp_rules.specs.Frames.{on_frame}
use Rattle.amqp_rules.specs.Ticks.{tick}
use Rattle.amqp_rules.specs.Commands.{command}
use Rattle.amqp_rules.specs.Answers.{answer_of, take_answer, take_event}
use Rattle.amqp_maps.specs.Listed.{without}
use Rattle.amqp_rules.specs.Writing.{frames_waiting, taken, flows, next_out, fitting, end_overlong}
use Rattle.amqp_outgoing.specs.Marks.{mark_of}
use Rattle.amqp_engine.specs.declared.port.Step.{Step}
use Rattle.amqp_engine.specs.declared.port.Step.TheVariants.{Linked, LinkFailed, Piece, End, Fault, Room, Tick, Command}
use Rattle.amqp_engine.specs.declared.port.Wrote.{Wrote}
use Rattle.amqp_engine.specs.declared.port.Wrote.TheVariants.{Took, Failed, NoMemory}
use Rattle.amqp_engine.specs.Log.{on_last}
use Rattle.amqp_engine.specs.Engine.{Engine, begin, with_talk, rule_at, step_engine, step_linked, step_piece, front_of, read_badly, read_row, settle, wrote, took, commit_one, commits, commit_all, fitting_next, overlong_next, ended_overlong, can_write}
use Rattle.amqp_engine.specs.Turn.{Turn, write_answers, Progress, asks, wants_ask, is_piece, offer_part, answered, read, applied, IsApplied}
use Rattle.amqp_engine.specs.Sending.{Sending, nothing_sent, frames, offer_sending, offers_sending, step_sending, committed_in, committed_before}
use Rattle.amqp_engine.specs.Saying.{applied_sending}
use Rattle.amqp_types.proofs.Small.{if_case, if-true, if-false, and-true, and-left, at-most, all-push}
use Rattle.amqp_engine.proofs.EventTaken.{event-case}
use Rattle.amqp_engine.proofs.Settling.{settle-talk}
use Rattle.amqp_rules.proofs.Keeping.{LinkKept, kept-open, failed-link, present-keeps, starve-ends, keeps-frame, keeps-misread, keeps-tick, lost-link, stays-command}
use Rattle.amqp_rules.proofs.Sending.{taken-link}
use Rattle.amqp_rules.proofs.Lacking.{lacks_link, open-lacks, asked-open, asked-lacking}
use Rattle.amqp_engine.proofs.Commits.{commit_one-is, with_frame, commits-keep}
use Rattle.amqp_engine.proofs.Sent.{on_last-append}
use Rattle.amqp_engine.proofs.Over.{ended-closed}
use Rattle.amqp_engine.proofs.Sends.{all-front}
use Rattle.amqp_engine.proofs.Received.{octets-asks, octets-step, octets-row, octets-answered, octets-overlong}
use Rattle.amqp_engine.proofs.Lifting.{Answering, applied_on, offers_on, answer-applied}

-- ---- what is known of a session

-- of the frames committed on its link while it is open, and of the session while a link is wanted
abbrev pub At : (Talk → Type 0) → (Talk → List Frame → Type 0) → Talk → List Frame → Type 0
At I P t fs = (is_open t ≡ true → P t fs) × (lacks_link t.link ≡ true → I t)

-- a rule keeps it
abbrev pub Keeps : (Talk → Type 0) → (Talk → List Frame → Type 0) → (Talk → Talk) → Type 0
Keeps I P f = (t : Talk) (fs : List Frame) → At I P t fs → At I P (f t) fs

-- what is asked: of what is told, of octets that come, of frames that are heard, of what a provider answers, of the frames
-- of a link, and of a session by its link
pub record Rules : Type 1 where
  pub Told : Cmd → Type 0
  pub Octets : List ℕ → Type 0
  pub Heard : Frame → Type 0
  pub Answered : ProviderAnswer → Type 0
  pub Links : List Frame → Type 0
  pub Waits : Talk → Type 0
  pub Says : Talk → List Frame → Type 0
  -- of octets
  pub nothing : Octets []
  pub joins : (xs ys : List ℕ) → Octets xs → Octets ys → Octets (xs ++ ys)
  pub leaves : (n : ℕ) (xs : List ℕ) → Octets xs → Octets (drop n xs)
  pub hears : (bytes : List ℕ) (limit n : ℕ) (f : Frame) → Octets bytes → front bytes limit ≡ Whole f n → Heard f
  -- of links
  pub none : Links []
  pub holds : (t : Talk) (fs : List Frame) → Says t fs → Links fs
  -- the header will fit
  pub room : (t : Talk) → Waits t → 8 ≤ t.capacity
  pub linked : (t : Talk) → is_asked t ≡ true → Waits t → Says (linked t) []
  pub commit : (t : Talk) (fs : List Frame) (item : Item) → next_out t ≡ Some item → size_of item ≤ t.capacity → Says t fs
      → Says (record t { outbox = after_next (flows t) t.outbox; committed = t.committed ++ mark_of item ∷ [] }) (fs ++ item.frame ∷ [])
  pub asked : Keeps Waits Says asked
  pub moment : (at : ℕ) → Keeps Waits Says (present_at at)
  pub failed : Keeps Waits Says link_failed
  pub piece : Keeps Waits Says piece
  pub lost : (fault : IoFault) → Keeps Waits Says (lost fault)
  pub misread : (why : Misread) → Keeps Waits Says (misread why)
  -- once something was committed on the link
  pub frame : (f : Frame) (answers : List ProviderAnswer) → Heard f → AllByRecursion Answered answers → (t : Talk) (g : Frame) (fs : List Frame)
      → At Waits Says t (g ∷ fs) → At Waits Says (on_frame f answers t) (g ∷ fs)
  pub tick : (answers : List ProviderAnswer) → Keeps Waits Says (tick answers)
  pub command : (c : Cmd) → Told c → Keeps Waits Says (command c)
  pub taken : (n : ℕ) → Keeps Waits Says (taken n)

-- ---- links

-- a rule opens no link
abbrev pub Opens : (Talk → Talk) → Type 0
Opens f = (t : Talk) → is_open (f t) ≡ true → is_open t ≡ true

opens-asked : Opens asked
opens-asked t now = sym (asked-open t.link) ∙ now

opens-moment : (at : ℕ) → Opens (present_at at)
opens-moment at t now = sym (present-keeps is_open at t (λ n. refl)) ∙ now

opens-failed : Opens link_failed
opens-failed t now = kept-open t (link_failed t) (failed-link t) now

opens-piece : Opens piece
opens-piece t now = kept-open t (piece t) (if_case (LinkKept t) (is_open t) (record t { last_read = t.present }) t (inl refl) (inl refl)) now

opens-lost : (fault : IoFault) → Opens (lost fault)
opens-lost fault t now = kept-open t (lost fault t) (lost-link fault t) now

opens-misread : (why : Misread) → Opens (misread why)
opens-misread why t now = kept-open t (misread why t) (keeps-misread why t).link now

opens-frame : (f : Frame) (answers : List ProviderAnswer) → Opens (on_frame f answers)
opens-frame f answers t now = kept-open t (on_frame f answers t) (keeps-frame f answers t).link now

pub opens-tick : (answers : List ProviderAnswer) → Opens (tick answers)
opens-tick answers t now = kept-open t (tick answers t) (keeps-tick answers t).link now

pub opens-command : (c : Cmd) → Opens (command c)
opens-command c t now = kept-open t (command c t) (inl (stays-command c t).link) now

pub opens-answer : (number : ℕ) → Opens (take_answer number)
opens-answer number t now =
    kept-open t (take_answer number t) (if_case (LinkKept t) (is_some (answer_of number t)) (record t { promises = without number t.promises }) t (inl refl) (inl refl)) now

pub opens-event : Opens take_event
opens-event t now = kept-open t (take_event t) (event-case (LinkKept t) t (λ noted. inl refl) (inl refl)) now

opens-taken : (n : ℕ) → Opens (taken n)
opens-taken n t now = kept-open t (taken n t) (taken-link n t) now

-- ---- lists

all-drop : {A : Type 0} (Q : A → Type 0) (n : ℕ) (xs : List A) → AllByRecursion Q xs → AllByRecursion Q (drop n xs)
all-drop Q zero xs h = h
all-drop Q (suc n) [] h = h
all-drop Q (suc n) (x ∷ xs) h = all-drop Q n xs h.1

pub all-last : {A : Type 0} (Q : A → Type 0) (xs : List A) (y : A) → AllByRecursion Q (xs ++ y ∷ []) → Q y
all-last Q [] y h = h.0
all-last Q (x ∷ xs) y h = all-last Q xs y h.1

push-some : (fs gs : List Frame) (f : Frame) → gs ≡ f ∷ [] → (fs ++ gs) ≢ []
push-some [] gs f is none = cc
push-some (g ∷ fs) gs f is none = cc

append-some : (fs gs : List Frame) → fs ≢ [] → (fs ++ gs) ≢ []
append-some [] gs h is = h refl
append-some (f ∷ fs) gs h is = cc

-- ---- what is folded beside the engine

-- what was sent on each link, the commands that were told, and the bytes that came, in order
pub record Story : Type 0 where
  pub sendings : List Sending
  pub told : List Cmd
  pub came : List (List ℕ)

abbrev pub told_by : Step → List Cmd → List Cmd
told_by (Command c) cs = cs ++ c ∷ []
told_by _ cs = cs

abbrev pub story_asked : Engine → Story → Story
story_asked e x = x

abbrev pub story_stepped : ℕ → Step → List ℕ → Engine → Story → Story
story_stepped at step bytes e x = record { sendings = step_sending step e x.sendings; told = told_by step x.told; came = x.came ++ bytes ∷ [] }

abbrev pub story_offering : Wrote → Progress → Story → Story
story_offering w p x = record x { sendings = on_last (offer_sending w p.engine) x.sendings }

-- the last link is the one on which these frames were committed
abbrev pub EndsWith : List Sending → List Frame → Type 0
EndsWith ss fs = (before : List Sending) × (s : Sending) × (ss ≡ before ++ s ∷ []) × (frames s.committed ≡ fs)

abbrev pub IsSome : Bool → List Frame → Type 0
IsSome true fs = Unit {0}
IsSome false fs = fs ≢ []

module _ (k : Rules) where
  abbrev pub Holds : Sending → Type 0
  Holds s = k.Links (frames s.committed)

  -- what is kept; on a link that has just come nothing may be committed
  pub record Kept (fresh : Bool) (t : Talk) (ss : List Sending) : Type 0 where
    pub all : AllByRecursion Holds ss
    pub committed : List Frame
    pub now : At k.Waits k.Says t committed
    pub last : is_open t ≡ true → EndsWith ss committed
    pub some : is_open t ≡ true → IsSome fresh committed

  kept-rule : (b : Bool) (f : Talk → Talk) (t : Talk) (ss : List Sending) → Keeps k.Waits k.Says f → Opens f → Kept b t ss → Kept b (f t) ss
  kept-rule b f t ss keeps opens h =
      record {
        all = h.all;
        committed = h.committed;
        now = keeps t h.committed h.now;
        last = λ opened. h.last (opens t opened);
        some = λ opened. h.some (opens t opened);
      }

  -- a session that has ended
  kept-ended : (b : Bool) (t : Talk) (ss : List Sending) → AllByRecursion Holds ss → has_ended t ≡ true → Kept b t ss
  kept-ended b t ss all ended =
      let closed : is_open t ≡ false = ended-closed t.link ended in
      record { all = all; committed = []; now = ((λ o. absurd cc), (λ w. absurd (lacking-ended t.link ended w))); last = λ o. absurd cc; some = λ o. absurd cc }
    where
      lacking-ended : (l : Link ErrorKind) → is_some (end_of_link l) ≡ true → lacks_link l ≡ true → ⊥
      lacking-ended (Due moment) h w = cc
      lacking-ended Open h w = cc
      lacking-ended Wanted h w = cc
      lacking-ended Asked h w = cc
      lacking-ended (Ended r) h w = cc

  kept-frame : (f : Frame) (answers : List ProviderAnswer) → k.Heard f → AllByRecursion k.Answered answers → (fs : List Frame) (t : Talk) (ss : List Sending) → (h : Kept false t ss)
      → h.committed ≡ fs → is_open t ≡ true → Kept false (on_frame f answers t) ss
  kept-frame f answers heard given [] t ss h is opened = absurd (h.some opened is)
  kept-frame f answers heard given (g ∷ fs) t ss h is opened =
      let Q : List Frame → Type 0 = λ x. At k.Waits k.Says t x in
      record {
        all = h.all;
        committed = g ∷ fs;
        now = k.frame f answers heard given t g fs (subst Q is h.now);
        last = λ still. let l = h.last (opens-frame f answers t still) in (l.0, l.1, l.2, l.3 ∙ is);
        some = λ still none. cc;
      }

  kept-settle : (b : Bool) (e : Engine) (ss : List Sending) → Kept b e.talk ss → Kept b (settle e).talk ss
  kept-settle b e ss h =
      let Q : Talk → Type 0 = λ t. Kept b t ss in subst Q (sym (settle-talk e)) h

  kept-moment : (b : Bool) (at : ℕ) (t : Talk) (ss : List Sending) → Kept b t ss → Kept b (present_at at t) ss
  kept-moment b at t ss h = kept-rule b (present_at at) t ss (k.moment at) (opens-moment at) h

  kept-at : (b : Bool) (at : ℕ) (f : Talk → Talk) (t : Talk) (ss : List Sending) → Keeps k.Waits k.Says f → Opens f → Kept b t ss → Kept b (f (present_at at t)) ss
  kept-at b at f t ss keeps opens h = kept-rule b f (present_at at t) ss keeps opens (kept-moment b at t ss h)

  kept-asks : (e : Engine) (ss : List Sending) → Kept false e.talk ss → Kept false (asks e).talk ss
  kept-asks e ss h =
      if_case (λ (x : Engine). Kept false x.talk ss) (wants_ask e) (with_talk asked e) e (kept-rule false asked e.talk ss k.asked opens-asked h) h

  -- ---- the step

  -- a link that has just come, with nothing but the header to be said
  pub record Fresh (e : Engine) : Type 0 where
    pub opened : is_open e.talk ≡ true
    pub writable : e.talk.blocked ≡ false
    pub outbox : e.talk.outbox ≡ only (plain_item 0 protocol_header)
    pub unsent : e.unsent ≡ []
    pub room : 8 ≤ e.talk.capacity

  -- nothing is new on the link, or all is
  abbrev pub Stepped : Engine → List Sending → Type 0
  Stepped e ss = Kept false e.talk ss ⊎ (Fresh e × Kept true e.talk ss)

  kept-linked : (b : Bool) (at : ℕ) (e : Engine) (ss : List Sending) → is_asked e.talk ≡ b → Kept false e.talk ss
      → Stepped (step_linked at e) (if b then ss ++ nothing_sent ∷ [] else ss)
  kept-linked true at e ss h kept =
      let t = present_at at e.talk in
      let x : Engine = record { talk = linked t; unread = []; place = 0; unsent = []; starved = e.starved } in
      let is : step_linked at e ≡ x = if-true (is_asked e.talk) x (rule_at at (λ t. t) e) h in
      let asked_t : is_asked t ≡ true = present-keeps is_asked at e.talk (λ n. refl) ∙ h in
      let y : Talk = linked t in
      let opened : is_open y ≡ true = ap is_open (if-true (is_asked t) _ t asked_t) in
      let outbox : y.outbox ≡ only (plain_item 0 protocol_header) = ap (λ (z : Talk). z.outbox) (if-true (is_asked t) _ t asked_t) in
      let writable : y.blocked ≡ false = ap (λ (z : Talk). z.blocked) (if-true (is_asked t) _ t asked_t) in
      let waits : k.Waits t = (kept-moment false at e.talk ss kept).now.1 (asked-lacking t.link asked_t) in
      let said : k.Says y [] = k.linked t asked_t waits in
      let capacity : y.capacity ≡ t.capacity = ap (λ (z : Talk). z.capacity) (if-true (is_asked t) _ t asked_t) in
      let room : 8 ≤ y.capacity = (let N : ℕ → Type 0 = λ n. 8 ≤ n in subst N (sym capacity) (k.room t waits)) in
      let ss' = ss ++ nothing_sent ∷ [] in
      let Q : Engine → Type 0 = λ z. Stepped z ss' in
      subst Q (sym is)
      (inr (
        record { opened = opened; writable = writable; outbox = outbox; unsent = refl; room = room },
        record {
          all = all-push Holds ss nothing_sent kept.all k.none;
          committed = [];
          now = ((λ o. said), (λ w. absurd (open-lacks y.link opened w)));
          last = λ o. (ss, nothing_sent, refl, refl);
          some = λ o. tt;
        },
      ))
  kept-linked false at e ss h kept =
      let x : Engine = record { talk = linked (present_at at e.talk); unread = []; place = 0; unsent = []; starved = e.starved } in
      let is : step_linked at e ≡ rule_at at (λ t. t) e = if-false (is_asked e.talk) x (rule_at at (λ t. t) e) h in
      let Q : Engine → Type 0 = λ z. Stepped z ss in
      subst Q (sym is) (inl (kept-moment false at e.talk ss kept))

  -- what is told may be told
  abbrev pub Tells : Step → Type 0
  Tells (Command c) = k.Told c
  Tells _ = Unit {0}

  kept-step : (at : ℕ) (step : Step) (bytes : List ℕ) (answers : List ProviderAnswer) (e : Engine) (ss : List Sending) → is_piece step ≡ false → Tells step → Kept false e.talk ss
      → Stepped (step_engine at step bytes answers e) (step_sending step e ss)
  kept-step at Linked bytes answers e ss other told h = kept-linked (is_asked e.talk) at e ss refl h
  kept-step at LinkFailed bytes answers e ss other told h = inl (kept-settle false _ ss (kept-at false at link_failed e.talk ss k.failed opens-failed h))
  kept-step at End bytes answers e ss other told h = inl (kept-settle false _ ss (kept-at false at (lost Aborted) e.talk ss (k.lost Aborted) (opens-lost Aborted) h))
  kept-step at Fault bytes answers e ss other told h = inl (kept-settle false _ ss (kept-at false at (lost Reset) e.talk ss (k.lost Reset) (opens-lost Reset) h))
  kept-step at (Piece n) bytes answers e ss other told h = absurd cc
  kept-step at Room bytes answers e ss other told h = inl (kept-moment false at e.talk ss h)
  kept-step at Tick bytes answers e ss other told h = inl (kept-settle false _ ss (kept-at false at (tick answers) e.talk ss (k.tick answers) (opens-tick answers) h))
  kept-step at (Command c) bytes answers e ss other told h = inl (kept-at false at (command c) e.talk ss (k.command c told) (opens-command c) h)

  -- ---- reading

  kept-piece : (at : ℕ) (bytes : List ℕ) (e : Engine) (ss : List Sending) → Kept false e.talk ss → Kept false (step_piece at bytes e).talk ss
  kept-piece at bytes e ss h =
      let x : Engine = record e { talk = piece (present_at at e.talk); unread = e.unread ++ bytes } in
      if_case (λ (y : Engine). Kept false y.talk ss) (is_open e.talk) (settle x) (rule_at at (λ t. t) e)
      (kept-settle false x ss (kept-at false at piece e.talk ss k.piece opens-piece h)) (kept-moment false at e.talk ss h)

  kept-misread : (at : ℕ) (why : Misread) (e : Engine) (ss : List Sending) → Kept false e.talk ss → Kept false (read_badly at why e).talk ss
  kept-misread at why e ss h = kept-settle false _ ss (kept-at false at (misread why) e.talk ss (k.misread why) (opens-misread why) h)

  kept-row : (at : ℕ) (r : Read) (answers : List ProviderAnswer) (e : Engine) (ss : List Sending) → front_of e ≡ r → k.Octets e.unread → AllByRecursion k.Answered answers
      → Kept false e.talk ss → is_open e.talk ≡ true → Kept false (read_row at r answers e).talk ss
  kept-row at (Whole f n) answers e ss is octets given h opened =
      let t = present_at at e.talk in
      let m = kept-moment false at e.talk ss h in
      let heard = k.hears e.unread (frame_limit e.talk) n f octets is in
      kept-settle false _ ss (kept-frame f answers heard given m.committed t ss m refl (present-keeps is_open at e.talk (λ n. refl) ∙ opened))
  kept-row at More answers e ss is octets given h opened = h
  kept-row at (TooLarge n) answers e ss is octets given h opened = kept-misread at (misreads.TooLarge n) e ss h
  kept-row at (BadHeartbeat c) answers e ss is octets given h opened = kept-misread at (misreads.BadHeartbeat c) e ss h
  kept-row at Bad answers e ss is octets given h opened = kept-misread at (misreads.Bad e.place) e ss h
  kept-row at ReadNoMemory answers e ss is octets given h opened = kept-misread at (misreads.Bad e.place) e ss h

  -- ---- writing

  fit : (space : ℕ) (b : Bool) (i item : Item) → nat_le (size_of i) space ≡ b → (if b then Some i else None) ≡ Some item → (Some i ≡ Some item) × (size_of item ≤ space)
  fit space true i item le h =
      let same : i ≡ item = cc in
      let Q : Item → Type 0 = λ x. size_of x ≤ space in
      (h, subst Q same (at-most (size_of i) space le))
  fit space false i item le h = absurd cc

  fitting-some : (space : ℕ) (o : Option Item) (item : Item) → fitting space o ≡ Some item → (o ≡ Some item) × (size_of item ≤ space)
  fitting-some space None item h = absurd cc
  fitting-some space (Some i) item h = fit space (nat_le (size_of i) space) i item refl h

  commit-at : (o : Option Item) (e : Engine) (fs : List Frame) → fitting_next e ≡ o → k.Says e.talk fs → k.Says (with_frame o e).talk (fs ++ frames (option_to_list o))
  commit-at None e fs h p =
      let Q : List Frame → Type 0 = λ x. k.Says e.talk x in subst Q (sym (append-nil fs)) p
  commit-at (Some item) e fs h p =
      let fits = fitting-some (e.talk.capacity - length e.unsent) (next_out e.talk) item h in
      let size = fits.1 in
      k.commit e.talk fs item fits.0 (omega (arith, size)) p

  commits-at : (n : ℕ) (e : Engine) (fs : List Frame) → k.Says e.talk fs → k.Says (commits n e).talk (fs ++ frames (committed_in n e))
  commits-at zero e fs p =
      let Q : List Frame → Type 0 = λ x. k.Says e.talk x in subst Q (sym (append-nil fs)) p
  commits-at (suc n) e fs p =
      let first : List Item = option_to_list (fitting_next e) in
      let rest : List Item = committed_in n (commit_one e) in
      let Q : Engine → Type 0 = λ x. k.Says x.talk (fs ++ frames first) in
      let one : k.Says (commit_one e).talk (fs ++ frames first) = subst Q (sym (commit_one-is e)) (commit-at (fitting_next e) e fs refl p) in
      let R : List Frame → Type 0 = λ x. k.Says (commits n (commit_one e)).talk x in
      let same : (fs ++ frames first) ++ frames rest ≡ fs ++ frames (first ++ rest) =
      append_assoc fs (frames first) (frames rest) ∙ ap (λ gs. fs ++ gs) (sym (map-append (λ (item : Item). item.frame) first rest)) in
      subst R same (commits-at n (commit_one e) (fs ++ frames first) one)

  commits-open : (e : Engine) → is_open (commit_all e).talk ≡ is_open e.talk
  commits-open e = commits-keep (λ (y : Engine). is_open y.talk) (λ y fs ms bytes. refl) (frames_waiting e.talk) e

  kept-commits : (b : Bool) (at : ℕ) (w : Wrote) (e : Engine) (ss : List Sending) (h : Kept b e.talk ss) → is_open e.talk ≡ true → (h.committed ++ frames (committed_before e)) ≢ []
      → Kept false (commit_all e).talk (on_last (offer_sending w e) ss)
  kept-commits b at w e ss h opened some =
      let l = h.last opened in
      let x = commit_all e in
      let s' = offer_sending w e l.1 in
      let fs : List Frame = h.committed ++ frames (committed_before e) in
      let said : k.Says x.talk fs = commits-at (frames_waiting e.talk) e h.committed (h.now.0 opened) in
      let is : frames s'.committed ≡ fs =
      map-append (λ (item : Item). item.frame) l.1.committed (committed_before e) ∙ ap (λ gs. gs ++ frames (committed_before e)) l.3 in
      let same : on_last (offer_sending w e) ss ≡ l.0 ++ s' ∷ [] = ap (on_last (offer_sending w e)) l.2 ∙ on_last-append (offer_sending w e) l.0 l.1 in
      let A : List Sending → Type 0 = λ y. AllByRecursion Holds y in
      let front : AllByRecursion Holds l.0 = all-front Holds l.0 (l.1 ∷ []) (subst A l.2 h.all) in
      let legal : k.Links (frames s'.committed) = subst k.Links (sym is) (k.holds x.talk fs said) in
      record {
        all = subst A (sym same) (all-push Holds l.0 s' front legal);
        committed = fs;
        now = ((λ o. said), (λ w. absurd (open-lacks x.talk.link (commits-open e ∙ opened) w)));
        last = λ o. (l.0, s', same, is);
        some = λ o. some;
      }

  kept-took : (at n : ℕ) (e : Engine) (ss : List Sending) → Kept false e.talk ss → Kept false (took at n e).talk ss
  kept-took at n e ss h = kept-settle false _ ss (kept-at false at (taken n) e.talk ss (k.taken n) (opens-taken n) h)

  kept-wrote : (at : ℕ) (w : Wrote) (e : Engine) (ss : List Sending) → Kept false e.talk ss → Kept false (wrote at w e).talk ss
  kept-wrote at (Took n) e ss h = kept-took at n e ss h
  kept-wrote at Failed e ss h = kept-settle false _ ss (kept-at false at (lost BrokenPipe) e.talk ss (k.lost BrokenPipe) (opens-lost BrokenPipe) h)
  kept-wrote at NoMemory e ss h = kept-took at 0 e ss h

  -- ---- the first offer on a link

  header-fits : (space : ℕ) → 8 ≤ space → fitting space (Some (plain_item 0 protocol_header)) ≡ Some (plain_item 0 protocol_header)
  header-fits space h =
      let fits : nat_le 8 space ≡ true = grind (arith, nat_tests) in
      ap (λ b. if b then Some (plain_item 0 protocol_header) else None) fits

  fresh-fits : (e : Engine) → Fresh e → fitting_next e ≡ Some (plain_item 0 protocol_header)
  fresh-fits e h =
      let space : ℕ = e.talk.capacity - length e.unsent in
      let none : length e.unsent ≡ 0 = ap length h.unsent in
      ap (λ b. fitting space (if b && not e.talk.blocked then queued.next_item (flows e.talk) e.talk.outbox else None)) h.opened
      ∙ ap (λ b. fitting space (if not b then queued.next_item (flows e.talk) e.talk.outbox else None)) h.writable
      ∙ ap (λ (q : Queued). fitting space (queued.next_item (flows e.talk) q)) h.outbox
      ∙ header-fits space (omega (arith, none, h.room))

  one-waits : (e : Engine) → Fresh e → frames_waiting e.talk ≡ 1
  one-waits e h = ap (λ (q : Queued). length (waiting_items q)) h.outbox

  fresh-commits : (e : Engine) → Fresh e → committed_before e ≡ plain_item 0 protocol_header ∷ []
  fresh-commits e h = ap (λ n. committed_in n e) (one-waits e h) ∙ ap (λ o. option_to_list o ++ []) (fresh-fits e h)

  fresh-unsent : (e : Engine) → Fresh e → (commit_all e).unsent ≡ encoding protocol_header
  fresh-unsent e h =
      ap (λ n. (commits n e).unsent) (one-waits e h) ∙ ap (λ (x : Engine). x.unsent) (commit_one-is e)
      ∙ ap (λ o. (with_frame o e).unsent) (fresh-fits e h) ∙ ap (λ bytes. bytes ++ encoding protocol_header) h.unsent

  fresh-writes : (e : Engine) → overlong_next e ≡ None → Fresh e → can_write e ≡ true
  fresh-writes e none h =
      and-true (is_open e.talk) _ h.opened
      (and-true (not e.talk.blocked) _ (ap not h.writable)
      (and-true (not (is_some (overlong_next e))) _ (ap (λ (o : Option ℕ). not (is_some o)) none) (ap (λ bytes. nat_lt 0 (length bytes)) (fresh-unsent e h))))

  kept-offer : (at : ℕ) (w : Wrote) (e : Engine) (ss : List Sending) → can_write e ≡ true → Stepped e ss → Kept false (answered at w e).talk (on_last (offer_sending w e) ss)
  kept-offer at w e ss can (inl h) =
      let opened : is_open e.talk ≡ true = and-left (is_open e.talk) _ can in
      kept-wrote at w (commit_all e) _ (kept-commits false at w e ss h opened (append-some h.committed (frames (committed_before e)) (h.some opened)))
  kept-offer at w e ss can (inr h) =
      kept-wrote at w (commit_all e) _ (kept-commits true at w e ss h.1 h.0.opened (push-some h.1.committed (frames (committed_before e)) protocol_header (ap frames (fresh-commits e h.0))))

  -- ---- a turn

  -- what is kept of an engine and of what it sent
  abbrev pub KeptOn : Engine → List Sending → Type 0
  KeptOn e ss = Kept false e.talk ss × k.Octets e.unread

  -- what is known of an engine and its story, where all that was told might be told, and all that came might come
  abbrev pub Known : Engine → Story → Type 0
  Known e x = AllByRecursion k.Told x.told → AllByRecursion k.Octets x.came → KeptOn e x.sendings

  abbrev Written : Bool → Engine → Story → Type 0
  Written b e x = AllByRecursion k.Told x.told → AllByRecursion k.Octets x.came → Stepped e x.sendings × k.Octets e.unread

  told-front : (step : Step) (cs : List Cmd) → AllByRecursion k.Told (told_by step cs) → AllByRecursion k.Told cs × Tells step
  told-front (Command c) cs h = (all-front k.Told cs (c ∷ []) h, all-last k.Told cs c h)
  told-front Linked cs h = (h, tt)
  told-front LinkFailed cs h = (h, tt)
  told-front (Piece n) cs h = (h, tt)
  told-front End cs h = (h, tt)
  told-front Fault cs h = (h, tt)
  told-front Room cs h = (h, tt)
  told-front Tick cs h = (h, tt)

  sending-all : (step : Step) (e : Engine) (ss : List Sending) → AllByRecursion Holds ss → AllByRecursion Holds (step_sending step e ss)
  sending-all Linked e ss h = if_case (AllByRecursion Holds) (is_asked e.talk) (ss ++ nothing_sent ∷ []) ss (all-push Holds ss nothing_sent h k.none) h
  sending-all LinkFailed e ss h = h
  sending-all (Piece n) e ss h = h
  sending-all End e ss h = h
  sending-all Fault e ss h = h
  sending-all Room e ss h = h
  sending-all Tick e ss h = h
  sending-all (Command c) e ss h = h

  stepped-all : (e : Engine) (ss : List Sending) → Stepped e ss → AllByRecursion Holds ss
  stepped-all e ss (inl h) = h.all
  stepped-all e ss (inr h) = h.1.all

  rest-of : (e : Engine) (ss : List Sending) → can_write e ≡ false → overlong_next e ≡ None → Stepped e ss → Kept false e.talk ss
  rest-of e ss can none (inl h) = h
  rest-of e ss can none (inr h) = (let may : can_write e ≡ true = fresh-writes e none h.0 in absurd cc)

  overlong-ends : (size : ℕ) (e : Engine) → has_ended (ended_overlong (Some size) e).talk ≡ true
  overlong-ends size e = ap has_ended (settle-talk (with_talk (end_overlong (Some size)) (commit_all e)))

  kept-small : Answering Story story_asked story_stepped story_offering (AllByRecursion k.Answered) Known Written Known
  kept-small =
      record {
        asked = λ e x h told came. (let b = h told came in (kept-asks e x.sendings b.0, octets-asks k.Octets k.nothing k.joins k.leaves e b.1));
        step = λ at step bytes answers e x given other running h b told came.
            (let before = told-front step x.told told in
            let sofar = h before.0 (all-front k.Octets x.came (bytes ∷ []) came) in
            (kept-step at step bytes answers e x.sendings other before.1 sofar.0, octets-step k.Octets k.nothing k.joins k.leaves at step bytes answers e (all-last k.Octets x.came bytes came) sofar.1));
        piece = λ at n bytes answers e x given running h told came.
            (let sofar = h told (all-front k.Octets x.came (bytes ∷ []) came) in
            (kept-piece at bytes e x.sendings sofar.0, octets-step k.Octets k.nothing k.joins k.leaves at (Piece n) bytes answers e (all-last k.Octets x.came bytes came) sofar.1));
        read = λ at answers e x given can h told came.
            (let b = h told came in
            (kept-row at (front_of e) answers e x.sendings refl b.1 given b.0 (and-left (is_open e.talk) _ can), octets-row k.Octets k.nothing k.joins k.leaves at (front_of e) answers e b.1));
        heard = λ b e x none h told came. (let both = h told came in (inl both.0, both.1));
        offer = λ w p x can fits h told came.
            (let b = h told came in
            (kept-offer p.at w p.engine x.sendings can b.0, octets-answered k.Octets k.nothing k.joins k.leaves p.at w p.engine b.1));
        rest = λ e x can none h told came. (let b = h told came in (rest-of e x.sendings can none b.0, b.1));
        overlong = λ size e x is h told came.
            (let b = h told came in
            (kept-ended false _ x.sendings (stepped-all e x.sendings b.0) (overlong-ends size e), octets-overlong k.Octets k.nothing k.joins k.leaves size e b.1));
        less = λ b e x h told came. (let both = h told came in (inl both.0, both.1));
        starve = λ b at j e x h told came.
            (let both = h told came in
            (kept-ended false _ x.sendings (stepped-all e x.sendings both.0) (starve-ends (present_at at e.talk)), k.nothing));
        cut = λ at step bytes e x running is h told came.
            (let before = told-front step x.told told in
            let sofar = h before.0 (all-front k.Octets x.came (bytes ∷ []) came) in
            (kept-ended false _ _ (sending-all step e x.sendings sofar.0.all) (starve-ends (present_at at e.talk)), k.nothing));
        fewer = λ n answers given. all-drop k.Answered n answers given;
      }

  -- ---- the story of a turn

  offers-story : (ws : List Wrote) (p : Progress) (x : Story)
      → offers_on Story story_asked story_stepped story_offering ws p x ≡ record x { sendings = offers_sending ws p x.sendings }
  offers-story [] p x = refl
  offers-story (w ∷ ws) p x = offers-story ws (offer_part w p) (story_offering w p x)

  one-told : (step : Step) → Tells step → AllByRecursion k.Told (told_by step [])
  one-told (Command c) h = (h, tt)
  one-told Linked h = tt
  one-told LinkFailed h = tt
  one-told (Piece n) h = tt
  one-told End h = tt
  one-told Fault h = tt
  one-told Room h = tt
  one-told Tick h = tt

  -- the same is kept from a step on that might be told, where what comes with it might come
  pub kept-applied : (u : Turn) (e : Engine) (ss : List Sending) → has_ended e.talk ≡ false → IsApplied u e → Tells u.step → k.Octets u.bytes → AllByRecursion k.Answered u.notes.auths
      → KeptOn e ss → KeptOn (applied u e) (applied_sending u e ss)
  kept-applied u e ss running may told bytes given h =
      let x : Story = record { sendings = ss; told = []; came = [] } in
      let y : Story = applied_on Story story_asked story_stepped story_offering u e x in
      let known : Known (applied u e) y =
      answer-applied Story story_asked story_stepped story_offering (AllByRecursion k.Answered) Known Written Known kept-small u e x given running may (λ none empty. h) in
      let is = offers-story (write_answers u.notes) (read u e) (story_stepped u.at u.step u.bytes e x) in
      let Q : Story → Type 0 = λ z. AllByRecursion k.Told z.told → AllByRecursion k.Octets z.came → KeptOn (applied u e) z.sendings in
      (subst Q is known) (one-told u.step told) (bytes, tt)

  -- and a link was asked for before, where one was wanted
  pub kept-asking : (e : Engine) (ss : List Sending) → KeptOn e ss → KeptOn (asks e) ss
  kept-asking e ss h = (kept-asks e ss h.0, octets-asks k.Octets k.nothing k.joins k.leaves e h.1)

  -- a rule that opens no link
  pub kept-told : (f : Talk → Talk) (e : Engine) (ss : List Sending) → Keeps k.Waits k.Says f → ((t : Talk) → is_open (f t) ≡ true → is_open t ≡ true) → KeptOn e ss → KeptOn (with_talk f e) ss
  kept-told f e ss keeps opens h = (kept-rule false f e.talk ss keeps opens h.0, h.1)

  -- nothing was sent by a new session
  pub kept-new : (config : Config) → k.Waits (start config) → KeptOn (begin (start config)) []
  kept-new config waits = (record { all = tt; committed = []; now = ((λ o. absurd cc), (λ w. waits)); last = λ o. absurd cc; some = λ o. absurd cc }, k.nothing)
