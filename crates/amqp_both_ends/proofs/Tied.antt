-- What is known of an engine with a history: while its link is open, its session is tied to what was committed on it.
use Rattle.std.proofs.Common.{◌≡◌, ◌∙◌, ap, sym, refl, subst, true, false, List, [], ◌∷◌}
use Rattle.std.specs.List.{AllByRecursion}
use Rattle.amqp_frame.specs.declared.frame.Frame.{Frame}
use Rattle.amqp_auth.specs.declared.asked.Asked.{Asked}
use Rattle.amqp_commands.specs.declared.command.Cmd.{Cmd}
use Rattle.amqp_commands.specs.declared.command.Cmd.TheVariants.{OpenChannel, CloseChannel, CloseConnection, UpdateSecret, Send, Publish, Flow, DropChannel, DropConnection, Listen}
use Rattle.amqp_rules.specs.Talk.{Talk, is_open, has_ended}
use Rattle.amqp_rules.specs.Commands.{command}
use Rattle.amqp_rules.specs.Answers.{take_answer, take_event, take_frames}
use Rattle.amqp_legal.specs.Decider.{is_legal}
use Rattle.amqp_legal_rules.proofs.Ties.{IsTied, IsSilent, IsSendable}
use Rattle.amqp_legal_rules.proofs.Conversing.{Now, now-moment, now-asked, now-failed, now-piece, now-lost, now-misread, now-answer, now-frames, committed-legal}
use Rattle.amqp_legal_rules.proofs.OnFrames.{now-frame}
use Rattle.amqp_legal_rules.proofs.OnCommands.{now-tick, now-command}
use Rattle.amqp_legal_rules.proofs.OnSent.{now-taken}
use Rattle.amqp_legal_rules.proofs.OnLinks.{start-silent, silent-room, tied-linked, tied-commit}
use Rattle.amqp_engine.specs.declared.port.Step.{Step}
use Rattle.amqp_engine.specs.declared.port.Step.TheVariants.{Linked, LinkFailed, Piece, End, Fault, Room, Tick, Command}
use Rattle.amqp_engine.specs.Engine.{Engine, with_talk}
use Rattle.amqp_engine.specs.Turn.{Turn, IsToldCommand, IsTold, applied, IsApplied}
use Rattle.amqp_engine.specs.Sending.{Sending, frames}
use Rattle.amqp_engine.specs.Saying.{applied_sending}
use Rattle.amqp_engine.specs.Account.{History, HasHistory, new, asked, applies, told, answer_taken, event_taken, frames_taken}
use Rattle.amqp_engine.proofs.EventTaken.{event-case}
use Rattle.amqp_engine.proofs.Committing.{Rules, KeptOn, kept-applied, kept-asking, kept-told, kept-new, Tells, opens-command, opens-answer, opens-event}
use Rattle.amqp_both_ends.proofs.Apart.{only-one}

-- what each rule keeps
kept_rules : Rules
kept_rules =
    record {
      Told = IsSendable;
      Octets = λ bytes. Unit {0};
      Heard = λ f. Unit {0};
      Answered = λ a. Unit {0};
      Links = λ fs. is_legal fs ≡ true;
      Waits = IsSilent;
      Says = IsTied;
      nothing = tt;
      joins = λ xs ys h k. tt;
      leaves = λ n xs h. tt;
      hears = λ bytes limit n f h is. tt;
      none = refl;
      holds = committed-legal;
      room = silent-room;
      linked = tied-linked;
      commit = λ t fs item is size h. tied-commit t fs item is h;
      asked = now-asked;
      moment = now-moment;
      failed = now-failed;
      piece = now-piece;
      lost = now-lost;
      misread = now-misread;
      frame = λ f answers heard given t g fs h. now-frame f answers t g fs h;
      tick = now-tick;
      command = λ c may t fs. now-command c t fs may;
      taken = now-taken;
    }

abbrev Kept : Engine → List Sending → Type 0
Kept e ss = KeptOn kept_rules e ss

pub sendable : (c : Cmd) → IsToldCommand c → IsSendable c
sendable (Send channel method) h = (h.0, h.1, h.2)
sendable (Publish channel method properties body) h = (h.0.0, h.0.1, h.0.2, h.1, h.2)
sendable OpenChannel h = tt
sendable (CloseChannel channel code text) h = tt
sendable (CloseConnection code text) h = tt
sendable (UpdateSecret secret reason) h = tt
sendable (Flow channel active) h = tt
sendable (DropChannel channel) h = tt
sendable DropConnection h = tt
sendable Listen h = tt

tells : (step : Step) → IsTold step → Tells kept_rules step
unfolding kept_rules
tells (Command c) h = sendable c h
tells Linked h = tt
tells LinkFailed h = tt
tells (Piece n) h = tt
tells End h = tt
tells Fault h = tt
tells Room h = tt
tells Tick h = tt

now-event : (t : Talk) (fs : List Frame) → Now t fs → Now (take_event t) fs
now-event t fs h = event-case (λ (x : Talk). Now x fs) t (λ noted. h) h

whatever : (answers : List Asked) → AllByRecursion (λ (a : Asked). Unit {0}) answers
whatever [] = tt
whatever (a ∷ answers) = (tt, whatever answers)

kept-turn : (u : Turn) (e : Engine) (ss : List Sending) → has_ended e.talk ≡ false → IsApplied u e → IsTold u.step → Kept e ss → Kept (applied u e) (applied_sending u e ss)
unfolding kept_rules
kept-turn u e ss running may told_step h = kept-applied kept_rules u e ss running may (tells u.step told_step) tt (whatever u.notes.auths) h

kept-command : (c : Cmd) (e : Engine) (ss : List Sending) → IsToldCommand c → Kept e ss → Kept (with_talk (command c) e) ss
unfolding kept_rules
kept-command c e ss may h = kept-told kept_rules (command c) e ss (λ t fs. now-command c t fs (sendable c may)) (opens-command c) h

kept : (e : Engine) (h : History) → HasHistory e h → Kept e h.sent
unfolding kept_rules
kept e h (new config) = kept-new kept_rules config (start-silent config)
kept e h (asked {e = e'} {h = h'} k) = kept-asking kept_rules e' h'.sent (kept e' h' k)
kept e h (applies {e = e'} {h = h'} u running may told_step fit k) = kept-turn u e' h'.sent running may told_step (kept e' h' k)
kept e h (told {e = e'} {h = h'} c may fits k) = kept-command c e' h'.sent may (kept e' h' k)
kept e h (answer_taken {e = e'} {h = h'} number k) = kept-told kept_rules (take_answer number) e' h'.sent (now-answer number) (opens-answer number) (kept e' h' k)
kept e h (event_taken {e = e'} {h = h'} k) = kept-told kept_rules take_event e' h'.sent now-event opens-event (kept e' h' k)
kept e h (frames_taken {e = e'} {h = h'} opened k) = kept-told kept_rules (take_frames opened) e' h'.sent (now-frames opened) (λ t o. o) (kept e' h' k)

pub told-now : (e : Engine) (h : History) (x : Sending) → HasHistory e h → h.sent ≡ x ∷ [] → is_open e.talk ≡ true → Now e.talk (frames x.committed)
unfolding kept_rules
told-now e h x has only opened =
    let k = (kept e h has).0 in
    let l = k.last opened in
    let same : x ≡ l.1 = only-one x l.1 l.0 (sym only ∙ l.2) in
    subst (λ (fs : List Frame). Now e.talk fs) (sym l.3 ∙ ap (λ (s : Sending). frames s.committed) (sym same)) k.now
