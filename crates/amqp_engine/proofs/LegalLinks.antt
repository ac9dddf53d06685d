-- What an engine says on each link is a legal conversation.
use Rattle.std.proofs.Common.{◌≡◌, ℕ, zero, suc, true, false, List, [], ◌∷◌, map, take, Option, Some, None, is_some, refl, ap, sym, subst}
use Rattle.std.specs.List.{AllByRecursion}
use Rattle.amqp_frame.specs.declared.frame.Frame.{Frame}
use Rattle.amqp_outbox.specs.declared.item.Item.{Item}
use Rattle.amqp_commands.specs.declared.command.Cmd.{Cmd}
use Rattle.amqp_commands.specs.declared.command.Cmd.TheVariants.{OpenChannel, CloseChannel, CloseConnection, UpdateSecret, Send, Publish, Flow, DropChannel, DropConnection, Listen}
use Rattle.amqp_auth.specs.declared.asked.Asked.{Asked as ProviderAnswer}
use Rattle.amqp_rules.specs.Talk.{Talk, has_ended}
use Rattle.amqp_rules.specs.Commands.{command}
use Rattle.amqp_rules.specs.Answers.{take_answer, take_event, take_frames}
use Rattle.amqp_legal.specs.Decider.{Speech, greeted, say, say_all, is_amqp_header, is_legal}
use Rattle.amqp_types.proofs.Small.{and-true, and-left, and-right}
use Rattle.amqp_legal_rules.proofs.Ties.{IsTied, IsSilent, IsSendable}
use Rattle.amqp_legal.proofs.TakenIsLegal.{sound}
use Rattle.amqp_legal_rules.proofs.Conversing.{Now, now-moment, now-asked, now-failed, now-piece, now-lost, now-misread, now-answer, now-frames, committed-legal}
use Rattle.amqp_legal_rules.proofs.OnFrames.{now-frame}
use Rattle.amqp_legal_rules.proofs.OnCommands.{now-tick, now-command}
use Rattle.amqp_legal_rules.proofs.OnSent.{now-taken}
use Rattle.amqp_legal_rules.proofs.OnLinks.{start-silent, silent-room, tied-linked, tied-commit}
use Rattle.amqp_engine.specs.declared.port.Step.{Step}
use Rattle.amqp_engine.specs.declared.port.Step.TheVariants.{Linked, LinkFailed, Piece, End, Fault, Room, Tick, Command}
use Rattle.amqp_engine.specs.Engine.{Engine, with_talk}
use Rattle.amqp_engine.specs.Turn.{Turn, IsToldCommand, IsTold, AreTold, asks, applied, IsApplied, IsTurn, AreTurns, turn, turns}
use Rattle.amqp_engine.specs.Sending.{Sending, sendings_from, frames, frames_sent, turn_sending}
use Rattle.amqp_engine.specs.Saying.{applied_sending, SentLegal, CommittedLegal}
use Rattle.amqp_engine.specs.Account.{History, HasHistory, new, asked, applies, told, answer_taken, event_taken, frames_taken}
use Rattle.amqp_engine.proofs.Over.{asks-running}
use Rattle.amqp_engine.proofs.EventTaken.{event-case}
use Rattle.amqp_engine.proofs.Committing.{Rules, KeptOn, kept-applied, kept-asking, kept-told, kept-new, Tells, opens-command, opens-answer, opens-event}

-- what the decider takes
abbrev pub Taken : List Frame → Type 0
Taken frames = is_legal frames ≡ true

pub rules : Rules
rules =
    record {
      Told = IsSendable;
      Octets = λ bytes. Unit {0};
      Heard = λ f. Unit {0};
      Answered = λ a. Unit {0};
      Links = Taken;
      Waits = IsSilent;
      Says = IsTied;
      nothing = tt;
      joins = λ xs ys h k. tt;
      leaves = λ n xs h. tt;
      hears = λ bytes limit n f h is. tt;
      none = refl;
      holds = committed-legal;
      room = silent-room;
      linked = tied-linked;
      commit = λ t fs item is size h. tied-commit t fs item is h;
      asked = now-asked;
      moment = now-moment;
      failed = now-failed;
      piece = now-piece;
      lost = now-lost;
      misread = now-misread;
      frame = λ f answers heard given t g fs h. now-frame f answers t g fs h;
      tick = now-tick;
      command = λ c may t fs. now-command c t fs may;
      taken = now-taken;
    }

abbrev pub Saying : Engine → List Sending → Type 0
Saying e ss = KeptOn rules e ss

sendable : (c : Cmd) → IsToldCommand c → IsSendable c
sendable (Send channel method) h = (h.0, h.1, h.2)
sendable (Publish channel method properties body) h = (h.0.0, h.0.1, h.0.2, h.1, h.2)
sendable OpenChannel h = tt
sendable (CloseChannel channel code text) h = tt
sendable (CloseConnection code text) h = tt
sendable (UpdateSecret secret reason) h = tt
sendable (Flow channel active) h = tt
sendable (DropChannel channel) h = tt
sendable DropConnection h = tt
sendable Listen h = tt

tells : (step : Step) → IsTold step → Tells rules step
unfolding rules
tells (Command c) h = sendable c h
tells Linked h = tt
tells LinkFailed h = tt
tells (Piece n) h = tt
tells End h = tt
tells Fault h = tt
tells Room h = tt
tells Tick h = tt

now-event : (t : Talk) (fs : List Frame) → Now t fs → Now (take_event t) fs
now-event t fs h = event-case (λ (x : Talk). Now x fs) t (λ noted. h) h

whatever : (answers : List ProviderAnswer) → AllByRecursion (λ (a : ProviderAnswer). Unit {0}) answers
whatever [] = tt
whatever (a ∷ answers) = (tt, whatever answers)

saying-applied : (u : Turn) (e : Engine) (ss : List Sending) → has_ended e.talk ≡ false → IsApplied u e → IsTold u.step → Saying e ss → Saying (applied u e) (applied_sending u e ss)
unfolding rules
saying-applied u e ss running may told_step h = kept-applied rules u e ss running may (tells u.step told_step) tt (whatever u.notes.auths) h

saying-told : (c : Cmd) (e : Engine) (ss : List Sending) → IsToldCommand c → Saying e ss → Saying (with_talk (command c) e) ss
unfolding rules
saying-told c e ss may h = kept-told rules (command c) e ss (λ t fs. now-command c t fs (sendable c may)) (opens-command c) h

-- what is known of an engine that was new
pub saying : (e : Engine) (h : History) → HasHistory e h → Saying e h.sent
unfolding rules
saying e h (new config) = kept-new rules config (start-silent config)
saying e h (asked {e = e'} {h = h'} k) = kept-asking rules e' h'.sent (saying e' h' k)
saying e h (applies {e = e'} {h = h'} u running may told_step fit k) = saying-applied u e' h'.sent running may told_step (saying e' h' k)
saying e h (told {e = e'} {h = h'} c may fits k) = saying-told c e' h'.sent may (saying e' h' k)
saying e h (answer_taken {e = e'} {h = h'} number k) = kept-told rules (take_answer number) e' h'.sent (now-answer number) (opens-answer number) (saying e' h' k)
saying e h (event_taken {e = e'} {h = h'} k) = kept-told rules take_event e' h'.sent now-event opens-event (saying e' h' k)
saying e h (frames_taken {e = e'} {h = h'} opened k) = kept-told rules (take_frames opened) e' h'.sent (now-frames opened) (λ t o. o) (saying e' h' k)

-- ---- what was sent is the front of what was committed

none-none : (fs : List Frame) → is_some (say_all None fs) ≡ true → ⊥
none-none [] h = cc
none-none (f ∷ fs) h = cc

front : (o : Option Speech) (n : ℕ) (fs : List Frame) → is_some (say_all o fs) ≡ true → is_some (say_all o (take n fs)) ≡ true
front None n fs h = absurd (none-none fs h)
front (Some s) zero fs h = refl
front (Some s) (suc n) [] h = refl
front (Some s) (suc n) (f ∷ fs) h = front (say f s) n fs h

fronts : (n : ℕ) (fs : List Frame) → is_legal fs ≡ true → is_legal (take n fs) ≡ true
fronts zero fs h = refl
fronts (suc n) [] h = refl
fronts (suc n) (f ∷ fs) h =
    and-true (is_amqp_header f) (is_some (say_all (Some greeted) (take n fs))) (and-left (is_amqp_header f) (is_some (say_all (Some greeted) fs)) h)
    (front (Some greeted) n fs (and-right (is_amqp_header f) (is_some (say_all (Some greeted) fs)) h))

all-map : (P Q : Sending → Type 0) (ss : List Sending) → ((s : Sending) → P s → Q s) → AllByRecursion P ss → AllByRecursion Q ss
all-map P Q [] f h = tt
all-map P Q (s ∷ ss) f h = (f s h.0, all-map P Q ss f h.1)

take-map : {A B : Type 0} (f : A → B) (n : ℕ) (xs : List A) → map f (take n xs) ≡ take n (map f xs)
take-map f zero xs = refl
take-map f (suc n) [] = refl
take-map f (suc n) (x ∷ xs) = ap (λ ys. f x ∷ ys) (take-map f n xs)

-- what is known leads to what is claimed
all_committed : (e : Engine) (ss : List Sending) → Saying e ss → AllByRecursion CommittedLegal ss
unfolding rules
all_committed e ss h = all-map (λ (s : Sending). Taken (frames s.committed)) CommittedLegal ss (λ s k. sound (frames s.committed) k) h.0.all

all_sent : (e : Engine) (ss : List Sending) → Saying e ss → AllByRecursion SentLegal ss
unfolding rules
all_sent e ss h =
    all-map (λ (s : Sending). Taken (frames s.committed)) SentLegal ss
    (λ s k.
    let Q : List Frame → Type 0 = λ fs. Taken fs in
    sound (frames_sent s) (subst Q (sym (take-map (λ (item : Item). item.frame) s.sent s.committed)) (fronts s.sent (frames s.committed) k)))
    h.0.all

pub committed_legal : (e : Engine) (h : History) → HasHistory e h → AllByRecursion CommittedLegal h.sent
committed_legal e h k = all_committed e h.sent (saying e h k)

pub sent_legal : (e : Engine) (h : History) → HasHistory e h → AllByRecursion SentLegal h.sent
sent_legal e h k = all_sent e h.sent (saying e h k)

-- ---- turns

-- whatever comes with them
saying-turn : (u : Turn) (e : Engine) (ss : List Sending) → IsTurn u e → IsTold u.step → Saying e ss → Saying (turn u e) (turn_sending u e ss)
saying-turn u e ss may told_step h = saying-applied u (asks e) ss (asks-running e may.running) may.applied told_step (kept-asking rules e ss h)

saying-turns : (us : List Turn) (e : Engine) (ss : List Sending) → AreTurns us e → AreTold us → Saying e ss → Saying (turns us e) (sendings_from us e ss)
saying-turns [] e ss may told_steps h = h
saying-turns (u ∷ us) e ss may told_steps h =
    saying-turns us (turn u e) (turn_sending u e ss) may.1 told_steps.1 (saying-turn u e ss may.0 told_steps.0 h)

pub turns_sent_legal : (e : Engine) (h : History) (us : List Turn) → HasHistory e h → AreTurns us e → AreTold us → AllByRecursion SentLegal (sendings_from us e h.sent)
turns_sent_legal e h us k may told_steps = all_sent (turns us e) (sendings_from us e h.sent) (saying-turns us e h.sent may told_steps (saying e h k))

pub turns_committed_legal : (e : Engine) (h : History) (us : List Turn) → HasHistory e h → AreTurns us e → AreTold us → AllByRecursion CommittedLegal (sendings_from us e h.sent)
turns_committed_legal e h us k may told_steps = all_committed (turns us e) (sendings_from us e h.sent) (saying-turns us e h.sent may told_steps (saying e h k))
