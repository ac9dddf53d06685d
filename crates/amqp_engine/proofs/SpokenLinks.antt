-- Where each frame that a rule queues may be said, all that is committed on the links of an engine may.
use Rattle.std.proofs.Common.{◌≡◌, inl, inr, sym, subst, refl, ℕ, false, List, [], ◌∷◌, ◌++◌, drop}
use Rattle.std.specs.List.{AllByRecursion}
use Rattle.amqp_frame.specs.declared.frame.Frame.{Frame}
use Rattle.amqp_frame.specs.declared.frame.Read.TheVariants.{Whole}
use Rattle.amqp_frame.specs.FrameReading.{front}
use Rattle.amqp_commands.specs.declared.command.Cmd.{Cmd}
use Rattle.amqp_commands.specs.declared.command.Cmd.TheVariants.{Listen}
use Rattle.amqp_settings.specs.Config.{Config}
use Rattle.amqp_rules.specs.Talk.{Talk, start, has_ended}
use Rattle.amqp_rules.specs.Commands.{command}
use Rattle.amqp_rules.specs.Answers.{take_answer, take_event, take_frames}
use Rattle.amqp_written_rules.specs.Sayable.{CanBeTold}
use Rattle.amqp_written_rules.proofs.Spoken.{Sayings, Spoken, Quiet, Now, IsSpoken, spoken-is}
use Rattle.amqp_written_rules.proofs.OnLinks.{stays-moment, stays-asked, stays-failed, stays-piece, stays-lost, stays-misread, stays-taken, stays-answer, stays-frames, start-quiet, linked-spoken, commit-spoken}
use Rattle.amqp_written_rules.proofs.OnFrames.{stays-frame}
use Rattle.amqp_written_rules.proofs.OnCommands.{stays-command, stays-tick}
use Rattle.amqp_engine.specs.declared.port.Step.{Step}
use Rattle.amqp_engine.specs.declared.port.Step.TheVariants.{Linked, LinkFailed, Piece, End, Fault, Room, Tick, Command}
use Rattle.amqp_engine.specs.Engine.{Engine, begin, with_talk}
use Rattle.amqp_engine.specs.Turn.{Turn, IsToldCommand, IsTold, IsFit, asks, applied, IsApplied, AreTurns, turn, turns}
use Rattle.amqp_engine.specs.Sending.{Sending, sendings_from, frames, turn_sending}
use Rattle.amqp_engine.specs.Saying.{applied_sending}
use Rattle.amqp_engine.specs.Account.{IsNew, History, HasHistory, new, asked, applies, told, answer_taken, event_taken, frames_taken}
use Rattle.amqp_engine.proofs.Over.{asks-running}
use Rattle.amqp_engine.proofs.EventTaken.{event-case}
use Rattle.amqp_engine.proofs.Committing.{Rules, KeptOn, kept-applied, kept-asking, kept-told, kept-new, Tells, opens-command, opens-answer, opens-event}
use Rattle.amqp_engine.proofs.Unchanged.{SameOn, on-asks, on-applied, on-command, on-answer, on-event}

-- what of a turn leads to what is asked of what comes: of octets, of what is heard, answered and told
pub record Fitting (k : Sayings) : Type 1 where
  pub Octets : List ℕ → Type 0
  pub Asks : Turn → Type 0
  pub nothing : Octets []
  pub joins : (xs ys : List ℕ) → Octets xs → Octets ys → Octets (xs ++ ys)
  pub leaves : (n : ℕ) (xs : List ℕ) → Octets xs → Octets (drop n xs)
  pub hears : (bytes : List ℕ) (limit n : ℕ) (f : Frame) → Octets bytes → front bytes limit ≡ Whole f n → k.Heard f
  pub tells : (u : Turn) (c : Cmd) → u.step ≡ Command c → Asks u → k.Told c
  pub brings : (u : Turn) → Asks u → Octets u.bytes
  pub answers : (u : Turn) → Asks u → AllByRecursion k.Answered u.notes.auths
  -- so does what may be told
  pub fits : (u : Turn) → IsTold u.step → IsFit u → Asks u
  pub may : (c : Cmd) → IsToldCommand c → CanBeTold c → k.Told c

module _ (k : Sayings) (f : Fitting k) (Links : List Frame → Type 0) (none : Links []) (holds : (fs : List Frame) → IsSpoken k fs → Links fs) where
  pub rules : Rules
  rules =
      record {
        Told = k.Told;
        Octets = f.Octets;
        Heard = k.Heard;
        Answered = k.Answered;
        Links = Links;
        Waits = λ t. Quiet k t;
        Says = λ t fs. Spoken k fs t;
        nothing = f.nothing;
        joins = f.joins;
        leaves = f.leaves;
        hears = f.hears;
        none = none;
        holds = λ t fs said. holds fs (spoken-is k t fs said);
        room = λ t quiet. quiet.room.0;
        linked = λ t is quiet. linked-spoken k t is quiet;
        commit = λ t fs item is size said. commit-spoken k t fs item is size said;
        asked = λ t fs h. stays-asked k fs t h;
        moment = λ at t fs h. stays-moment k fs at t h;
        failed = λ t fs h. stays-failed k fs t h;
        piece = λ t fs h. stays-piece k fs t h;
        lost = λ fault t fs h. stays-lost k fs fault t h;
        misread = λ why t fs h. stays-misread k fs why t h;
        frame = λ g answers heard given t first fs h. stays-frame k (first ∷ fs) answers given t h g heard;
        tick = λ answers t fs h. stays-tick k fs answers t h;
        command = λ c may t fs h. stays-command k fs c t may h;
        taken = λ n t fs h. stays-taken k fs n t h;
      }

  abbrev pub Keeps : Engine → List Sending → Type 0
  Keeps e ss = KeptOn rules e ss

  -- all that was committed
  pub kept-links : (e : Engine) (ss : List Sending) → Keeps e ss → AllByRecursion (λ (s : Sending). Links (frames s.committed)) ss
  unfolding rules
  kept-links e ss h = h.0.all

  -- ---- turns

  step-tells : (u : Turn) (step : Step) → u.step ≡ step → f.Asks u → Tells rules step
  unfolding rules
  step-tells u (Command c) is asks = f.tells u c is asks
  step-tells u Linked is asks = tt
  step-tells u LinkFailed is asks = tt
  step-tells u (Piece n) is asks = tt
  step-tells u End is asks = tt
  step-tells u Fault is asks = tt
  step-tells u Room is asks = tt
  step-tells u Tick is asks = tt

  applied-keeps : (u : Turn) (e : Engine) (ss : List Sending) → has_ended e.talk ≡ false → IsApplied u e → f.Asks u → Keeps e ss → Keeps (applied u e) (applied_sending u e ss)
  unfolding rules
  applied-keeps u e ss running may fit h = kept-applied rules u e ss running may (step-tells u u.step refl fit) (f.brings u fit) (f.answers u fit) h

  pub turns-keep : (us : List Turn) (e : Engine) (ss : List Sending) → AreTurns us e → AllByRecursion f.Asks us → Keeps e ss → Keeps (turns us e) (sendings_from us e ss)
  turns-keep [] e ss may fit h = h
  turns-keep (u ∷ us) e ss may fit h =
      turns-keep us (turn u e) (turn_sending u e ss) may.1 fit.1
      (applied-keeps u (asks e) ss (asks-running e may.0.running) may.0.applied fit.0 (kept-asking rules e ss h))

  -- ---- a session that was told nothing yet, but perhaps to listen

  starts-keep : (c : Config) → k.Makes c → Keeps (begin (start c)) []
  unfolding rules
  starts-keep c made = kept-new rules c (start-quiet k c made)

  told-keeps : (c : Cmd) (e : Engine) (ss : List Sending) → k.Told c → Keeps e ss → Keeps (with_talk (command c) e) ss
  unfolding rules
  told-keeps c e ss may h = kept-told rules (command c) e ss (λ t fs now. stays-command k fs c t may now) (opens-command c) h

  pub new-keeps : (t : Talk) → IsNew t → k.Told Listen → k.Makes t.config → Keeps (begin t) []
  new-keeps t fresh listens made = elim fresh.1 [
    | inl is ↦
        let M : Talk → Type 0 = λ x. k.Makes x.config in
        let Q : Talk → Type 0 = λ x. Keeps (begin x) [] in
        subst Q (sym is) (starts-keep fresh.0 (subst M is made))
    | inr is ↦
        let M : Talk → Type 0 = λ x. k.Makes x.config in
        let Q : Talk → Type 0 = λ x. Keeps (begin x) [] in
        subst Q (sym is) (told-keeps Listen (begin (start fresh.0)) [] listens (starts-keep fresh.0 (subst M is made)))
  ]

  -- ---- all that was sent since an engine was new

  -- it was made from this, and where that may be made from, it keeps what is asked
  record Made (e : Engine) (ss : List Sending) : Type 0 where
    config : Config
    same : SameOn config e
    keeps : k.Makes config → Keeps e ss

  answer-keeps : (number : ℕ) (e : Engine) (ss : List Sending) → Keeps e ss → Keeps (with_talk (take_answer number) e) ss
  unfolding rules
  answer-keeps number e ss h = kept-told rules (take_answer number) e ss (λ t fs now. stays-answer k fs number t now) (opens-answer number) h

  stays-event : (t : Talk) (fs : List Frame) → Now k t fs → Now k (take_event t) fs
  stays-event t fs h = event-case (λ (x : Talk). Now k x fs) t (λ noted. h) h

  event-keeps : (e : Engine) (ss : List Sending) → Keeps e ss → Keeps (with_talk take_event e) ss
  unfolding rules
  event-keeps e ss h = kept-told rules take_event e ss stays-event opens-event h

  frames-keep : (opened : ℕ) (e : Engine) (ss : List Sending) → Keeps e ss → Keeps (with_talk (take_frames opened) e) ss
  unfolding rules
  frames-keep opened e ss h = kept-told rules (take_frames opened) e ss (λ t fs now. stays-frames k fs opened t now) (λ t o. o) h

  made-of : (e : Engine) (h : History) → HasHistory e h → Made e h.sent
  made-of e h (new config) = record { config = config; same = refl; keeps = λ made. starts-keep config made }
  made-of e h (asked {e = e'} {h = h'} x) =
      let m = made-of e' h' x in
      record { config = m.config; same = on-asks m.config e' m.same; keeps = λ made. kept-asking rules e' h'.sent (m.keeps made) }
  made-of e h (applies {e = e'} {h = h'} u running may told_step fit x) =
      let m = made-of e' h' x in
      record {
        config = m.config;
        same = on-applied m.config u e' running may m.same;
        keeps = λ made. applied-keeps u e' h'.sent running may (f.fits u told_step fit) (m.keeps made);
      }
  made-of e h (told {e = e'} {h = h'} c may can x) =
      let m = made-of e' h' x in
      record { config = m.config; same = on-command m.config c e' m.same; keeps = λ made. told-keeps c e' h'.sent (f.may c may can) (m.keeps made) }
  made-of e h (answer_taken {e = e'} {h = h'} number x) =
      let m = made-of e' h' x in
      record { config = m.config; same = on-answer m.config number e' m.same; keeps = λ made. answer-keeps number e' h'.sent (m.keeps made) }
  made-of e h (event_taken {e = e'} {h = h'} x) =
      let m = made-of e' h' x in
      record { config = m.config; same = on-event m.config e' m.same; keeps = λ made. event-keeps e' h'.sent (m.keeps made) }
  made-of e h (frames_taken {e = e'} {h = h'} opened x) =
      let m = made-of e' h' x in
      record { config = m.config; same = m.same; keeps = λ made. frames-keep opened e' h'.sent (m.keeps made) }

  pub sent-keeps : (e : Engine) (h : History) → HasHistory e h → k.Makes e.talk.config → Keeps e h.sent
  sent-keeps e h x made =
      let m = made-of e h x in
      m.keeps (subst k.Makes m.same made)
