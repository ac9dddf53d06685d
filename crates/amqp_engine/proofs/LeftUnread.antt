-- No turn leaves a whole frame unread.
use Rattle.std.proofs.Common.{◌≡◌, ℕ, ◌&&◌, not, if◌then◌else◌, Bool, true, false, IsTrue, List, [], drop, Option, Some, None, Result, ◌⊎◌, inl, inr, refl, ap, sym, ◌∙◌, subst, rules, min}
use Rattle.amqp_frame.specs.declared.frame.Read.{Read}
use Rattle.amqp_frame.specs.declared.frame.Read.TheVariants.{Whole, More, TooLarge, BadHeartbeat, Bad, NoMemory}
use Rattle.amqp_frame.specs.FrameReading.{front}
use Rattle.amqp_promise.specs.declared.io_fault.IoFault.TheVariants.{Aborted, Reset, BrokenPipe}
use Rattle.amqp_answers.specs.declared.answer.Answer.{Answer}
use Rattle.amqp_answers.specs.declared.event.Event.{Event}
use Rattle.amqp_promise.specs.declared.error.ErrorKind.{ErrorKind}
use Rattle.amqp_auth.specs.declared.asked.Asked.{Asked as ProviderAnswer}
use Rattle.amqp_rules.specs.Talk.{Talk, is_open, is_open_link, is_asked, has_ended, drops_input}
use Rattle.amqp_settings.specs.declared.configuration.Configuration.{Configuration}
use Rattle.amqp_rules.specs.Negotiation.{frame_limit}
use Rattle.amqp_settings.specs.Negotiation.{wish_or}
use Rattle.amqp_rules.specs.Changes.{present_at, starve}
use Rattle.amqp_rules.specs.Recovery.{next_delay}
use Rattle.amqp_rules.specs.Links.{asked, linked, refused_after, link_failed, lost}
use Rattle.amqp_rules.specs.Commands.{command}
use Rattle.amqp_rules.specs.Ticks.{tick}
use Rattle.amqp_rules.specs.Writing.{end_overlong, taken, frames_waiting}
use Rattle.amqp_rules.specs.Answers.{take_answer, take_frames, Takes, TakesEvent}
use Rattle.amqp_commands.specs.declared.command.Cmd.{Cmd}
use Rattle.amqp_engine.specs.declared.port.Step.{Step}
use Rattle.amqp_engine.specs.declared.port.Step.TheVariants.{Linked, LinkFailed, Piece, End, Fault, Room, Tick, Command}
use Rattle.amqp_engine.specs.declared.port.Wrote.{Wrote}
use Rattle.amqp_engine.specs.declared.port.Wrote.TheVariants.{Took, Failed, NoMemory as WroteNoMemory}
use Rattle.amqp_engine.specs.Engine.{Engine, front_of, is_more, can_read, rule_at, with_talk, step_engine, step_linked, settle, took, wrote, commit_all, commits, ended_overlong, starve_at, starved_before}
use Rattle.amqp_engine.specs.Turn.{Turn, Notes, Progress, asks, wants_ask, is_piece, answered, applied, turn, IsApplied, IsTurn}
use Rattle.amqp_engine.specs.Log.{Log}
use Rattle.amqp_engine.specs.Tell.{Applies, TakesTurn, turn_of}
use Rattle.amqp_engine.specs.Unread.{IsRead}
use Rattle.amqp_types.proofs.Small.{if_case, if_by}
use Rattle.amqp_rules.proofs.Keeping.{present-keeps, stays-command, keeps-tick, tick-keeps, IsOff, lost-off, starve-ends}
use Rattle.amqp_rules.proofs.Sending.{taken-keeps, taken-link}
use Rattle.amqp_rules.proofs.Lacking.{asked-open}
use Rattle.amqp_engine.proofs.EventTaken.{taken-case}
use Rattle.amqp_engine.proofs.Commits.{commits-keep}
use Rattle.amqp_frame.proofs.FrontStays.{front-none}
use Rattle.amqp_engine.proofs.Over.{ended-closed, applied-ended}
use Rattle.amqp_engine.proofs.Lifting as lifting

-- ---- reading goes on to the end

more-is : (r : Read) → not (is_more r) ≡ false → r ≡ More
more-is More h = refl
more-is (Whole f n) h = cc
more-is (TooLarge n) h = cc
more-is (BadHeartbeat c) h = cc
more-is Bad h = cc
more-is NoMemory h = cc

open-more : (b : Bool) (r : Read) → (b && not (is_more r)) ≡ false → IsTrue b → r ≡ More
open-more true r h opened = more-is r h
open-more false r h opened = absurd (search rules)

cannot-read : (e : Engine) → can_read e ≡ false → IsRead e
cannot-read e h opened = open-more (is_open e.talk) (front_of e) h opened

-- ---- what leaves it as it was

pub same-read : (e e' : Engine) → is_open e'.talk ≡ is_open e.talk → e'.unread ≡ e.unread → frame_limit e'.talk ≡ frame_limit e.talk
    → IsRead e → IsRead e'
same-read e e' opened unread limit h now =
    let P : Bool → Type 0 = λ b. IsTrue b in
    ap (λ bytes. front bytes (frame_limit e'.talk)) unread ∙ ap (front e.unread) limit ∙ h (subst P opened now)

closed-read : (e : Engine) → is_open e.talk ≡ false → IsRead e
closed-read e h opened =
    let P : Bool → Type 0 = λ b. IsTrue b in
    absurd (let no : IsTrue false = subst P h opened in search rules)

pub asks-read : (e : Engine) → IsRead e → IsRead (asks e)
asks-read e h =
    if_case IsRead (wants_ask e) (with_talk asked e) e (same-read e (with_talk asked e) (asked-open e.talk.link) refl refl h) h

-- a moment leaves it as it was
moment-read : (at : ℕ) (e : Engine) → IsRead e → IsRead (rule_at at (λ t. t) e)
moment-read at e h =
    same-read e (rule_at at (λ t. t) e) (present-keeps is_open at e.talk (λ n. refl)) refl (present-keeps frame_limit at e.talk (λ n. refl)) h

-- a command too
pub command-read : (c : Cmd) (e : Engine) → IsRead e → IsRead (with_talk (command c) e)
command-read c e h =
    let t = e.talk in
    let t' : Talk = command c t in
    let stays = stays-command c t in
    let limit : frame_limit t' ≡ frame_limit t =
    ap (λ (x : Configuration). min t'.capacity (wish_or t'.capacity x.frame_max)) stays.configuration
    ∙ ap (λ (n : ℕ). min n (wish_or n t.configuration.frame_max)) stays.capacity in
    same-read e (with_talk (command c) e) (ap is_open_link stays.link) refl limit h

-- an answer that is taken too
pub answer-read : (number : ℕ) (e : Engine) → IsRead e → IsRead (with_talk (take_answer number) e)
answer-read number e h =
    let t = e.talk in
    same-read e (with_talk (take_answer number) e)
    (if_case (λ (x : Talk). is_open x ≡ is_open t) _ (record t { promises = _ }) t refl refl) refl
    (if_case (λ (x : Talk). frame_limit x ≡ frame_limit t) _ (record t { promises = _ }) t refl refl) h

-- an event that is taken too, or whose copy was refused
pub event-read : (given : Option Event) (e e' : Engine) → TakesEvent given e.talk e'.talk → e' ≡ record e { talk = e'.talk } → IsRead e → IsRead e'
event-read given e e' takes rest h =
    let P : Talk → Type 0 = λ t. IsRead (record e { talk = t }) in
    subst IsRead (sym rest) (taken-case P given e.talk e'.talk takes (λ noted. same-read e (record e { talk = record e.talk { noted = noted } }) refl refl refl h) h)

-- where the unread bytes go, nothing is left of them
settle-read : (x : Engine) → IsRead x → IsRead (settle x)
settle-read x h =
    if_by IsRead (is_open x.talk) (if drops_input x.talk then record x { unread = []; place = 0 } else x) (record x { unread = []; place = 0; unsent = [] })
    (λ opened. if_case IsRead (drops_input x.talk) (record x { unread = []; place = 0 }) x (λ now. front-none (frame_limit x.talk)) h)
    (λ closed. closed-read (record x { unread = []; place = 0; unsent = [] }) closed)

-- a rule that does nothing, or after which the link is off
rule-read : (at : ℕ) (f : Talk → Talk) → ((t : Talk) → (f t ≡ t) ⊎ IsOff t.link (f t).link) → (e : Engine) → IsRead e → IsRead (settle (rule_at at f e))
rule-read at f h e k =
    let t = present_at at e.talk in
    let P : Talk → Type 0 = λ x. IsRead (record e { talk = x }) in
    settle-read (rule_at at f e) (elim (h t) [
      | inl same ↦ subst P (sym same) (moment-read at e k)
      | inr off ↦ closed-read (rule_at at f e) off.opened
    ])

-- a link that is refused is not open
refused-closed : (delay : Option ℕ) (t : Talk) → is_open (refused_after delay t) ≡ false
refused-closed (Some delay) t = refl
refused-closed None t = refl

failed-read : (at : ℕ) (e : Engine) → IsRead e → IsRead (settle (rule_at at link_failed e))
failed-read at e h =
    let t = present_at at e.talk in
    let x : Talk = refused_after (next_delay t) t in
    settle-read (rule_at at link_failed e)
    (if_case (λ (y : Talk). IsRead (record e { talk = y })) (is_asked t) x t (closed-read (record e { talk = x }) (refused-closed (next_delay t) t)) (moment-read at e h))

linked-read : (at : ℕ) (e : Engine) → IsRead e → IsRead (step_linked at e)
linked-read at e h =
    if_case IsRead (is_asked e.talk)
    (record { talk = linked (present_at at e.talk); unread = []; place = 0; unsent = []; starved = e.starved }) (rule_at at (λ t. t) e)
    (λ opened. front-none (frame_limit (linked (present_at at e.talk)))) (moment-read at e h)

-- time goes by
tick-read : (at : ℕ) (answers : List ProviderAnswer) (e : Engine) → IsRead e → IsRead (settle (rule_at at (tick answers) e))
tick-read at answers e h =
    let t = present_at at e.talk in
    let here : Engine = rule_at at (λ y. y) e in
    let x : Engine = rule_at at (tick answers) e in
    let limit : frame_limit x.talk ≡ frame_limit t = tick-keeps frame_limit (λ y s l cs ps b q ms n o ns. refl) (λ y q n m b. refl) answers t in
    settle-read x (elim (keeps-tick answers t).link [
      | inl same ↦ same-read here x (ap is_open_link same) refl limit (moment-read at e h)
      | inr off ↦ closed-read x off.opened
    ])

step-read : (at : ℕ) (step : Step) (bytes : List ℕ) (answers : List ProviderAnswer) (e : Engine) → is_piece step ≡ false → IsRead e → IsRead (step_engine at step bytes answers e)
step-read at Linked bytes answers e piece h = linked-read at e h
step-read at LinkFailed bytes answers e piece h = failed-read at e h
step-read at (Piece n) bytes answers e piece h = cc
step-read at End bytes answers e piece h = rule-read at (lost Aborted) (lost-off Aborted) e h
step-read at Fault bytes answers e piece h = rule-read at (lost Reset) (lost-off Reset) e h
step-read at Room bytes answers e piece h = moment-read at e h
step-read at Tick bytes answers e piece h = tick-read at answers e h
step-read at (Command c) bytes answers e piece h = command-read c (rule_at at (λ t. t) e) (moment-read at e h)

took-read : (at k : ℕ) (e : Engine) → IsRead e → IsRead (took at k e)
took-read at k e h =
    let t = present_at at e.talk in
    let x : Engine = record e { talk = taken k t; unsent = drop k e.unsent } in
    let here : Engine = rule_at at (λ y. y) e in
    let limit : frame_limit x.talk ≡ frame_limit t =
    taken-keeps frame_limit (record { ends = λ y s l cs ps b q ms n o ns. refl; writes = λ y w ms. refl; moments = λ y n. refl }) k t in
    settle-read x (elim (taken-link k t) [
      | inl same ↦ same-read here x (ap is_open_link same) refl limit (moment-read at e h)
      | inr off ↦ closed-read x off.opened
    ])

wrote-read : (at : ℕ) (w : Wrote) (e : Engine) → IsRead e → IsRead (wrote at w e)
wrote-read at (Took k) e h = took-read at k e h
wrote-read at WroteNoMemory e h = took-read at 0 e h
wrote-read at Failed e h = rule-read at (lost BrokenPipe) (lost-off BrokenPipe) e h

commits-read : (n : ℕ) (e : Engine) → IsRead e → IsRead (commits n e)
commits-read n e h =
    same-read e (commits n e)
    (commits-keep (λ (y : Engine). is_open y.talk) (λ y fs ms bytes. refl) n e)
    (commits-keep (λ (y : Engine). y.unread) (λ y fs ms bytes. refl) n e)
    (commits-keep (λ (y : Engine). frame_limit y.talk) (λ y fs ms bytes. refl) n e) h

answered-read : (at : ℕ) (w : Wrote) (e : Engine) → IsRead e → IsRead (answered at w e)
answered-read at w e h = wrote-read at w (commit_all e) (commits-read (frames_waiting e.talk) e h)

overlong-read : (size : ℕ) (e : Engine) → IsRead (ended_overlong (Some size) e)
overlong-read size e = settle-read (with_talk (end_overlong (Some size)) (commit_all e)) (closed-read (with_talk (end_overlong (Some size)) (commit_all e)) refl)

-- ---- a turn

asking : Engine → Unit {0} → Unit {0}
asking e x = tt

stepping : ℕ → Step → List ℕ → Engine → Unit {0} → Unit {0}
stepping at step bytes e x = tt

offering : Wrote → Progress → Unit {0} → Unit {0}
offering w p x = tt

-- while frames are read nothing is known
abbrev While : Engine → Unit {0} → Type 0
While e x = Unit {0}

abbrev Before : Bool → Engine → Unit {0} → Type 0
Before on e x = on ≡ true → IsRead e

abbrev Between : Engine → Unit {0} → Type 0
Between e x = IsRead e

starved-read : (at j : ℕ) (e : Engine) → IsRead (starve_at at j e)
starved-read at j e =
    closed-read (starve_at at j e) (ended-closed (starve (present_at at e.talk)).link (starve-ends (present_at at e.talk)))

small : lifting.Small (Unit {0}) asking stepping offering While Before Between
small =
    record {
      asked = λ e x h. asks-read e h;
      step = λ at step bytes answers e x other running h b on. step-read at step bytes answers e other h;
      piece = λ at n bytes answers e x running h. tt;
      read = λ at answers e x can h. tt;
      heard = λ b e x done h on. cannot-read e (done on);
      offer = λ w p x can fits h. answered-read p.at w p.engine (h refl);
      rest = λ e x can none h. h refl;
      overlong = λ size e x is h. overlong-read size e;
      less = λ b e x h on. h;
      starve = λ b at j e x h. starved-read at j e;
      cut = λ at step bytes e x running part h. starved-read at 0 e;
    }

pub applied-read : (u : Turn) (e : Engine) → IsApplied u e → IsRead e → IsRead (applied u e)
applied-read u e may h = by (has_ended e.talk) refl
  where
    by : (b : Bool) → has_ended e.talk ≡ b → IsRead (applied u e)
    by true over = closed-read (applied u e) (ended-closed (applied u e).talk.link (applied-ended u e over may.answers))
    by false running = lifting.lift-applied (Unit {0}) asking stepping offering While Before Between small u e tt running may h

-- memory that was refused before a turn leaves nothing
pub before-read : (at : ℕ) (e : Engine) → IsRead e → IsRead (starved_before at e)
before-read at e h = if_case IsRead (has_ended e.talk) e (starve_at at 0 e) h (starved-read at 0 e)

pub turn-read : (u : Turn) (e : Engine) → IsTurn u e → IsRead e → IsRead (turn u e)
turn-read u e may h = applied-read u (asks e) may.applied (asks-read e h)

-- what is known of an application, and of a turn
pub Applies-read : (at : ℕ) (step : Step) (bytes : List ℕ) (notes : Notes) (e e' : Engine) (log log' : Option Log)
    → Applies at step bytes notes e e' log log' → IsRead e → IsRead e'
Applies-read at step bytes notes e e' log log' f h =
    subst IsRead f.leaves (applied-read (turn_of at step bytes notes) e f.may h)
