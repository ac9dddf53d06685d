-- What a turn and a command do to a session that has ended: a command is refused, and nothing else changes.
use Rattle.std.proofs.Common.{◌≡◌, ◌≢◌, ◌⊎◌, inl, inr, ℕ, zero, suc, ◌-◌, ◌==◌, ◌&&◌, not, Bool, true, false, if◌then◌else◌, List, [], ◌∷◌, length, Option, Some, None, Result, Ok, Err, is_some, IsSome, true≢false, refl, ap, sym, ◌∙◌, subst}
use Rattle.amqp_outbox.specs.declared.item.Item.{Item}
use Rattle.amqp_outbox.specs.Queued as queued
use Rattle.amqp_promise.specs.declared.error.ErrorKind.{ErrorKind}
use Rattle.amqp_promise.specs.declared.error.ErrorKind.TheVariants.{InvalidConnectionState}
use Rattle.amqp_promise.specs.declared.io_fault.IoFault.{IoFault}
use Rattle.amqp_promise.specs.declared.io_fault.IoFault.TheVariants.{Aborted, Reset, BrokenPipe}
use Rattle.amqp_promise.specs.declared.state.ConnectionState.{ConnectionState}
use Rattle.amqp_promise.specs.declared.state.ConnectionState.TheVariants.{Connected}
use Rattle.amqp_rules.specs.declared.state.Link.{Link}
use Rattle.amqp_rules.specs.declared.state.Link.TheVariants as at_link
use Rattle.amqp_commands.specs.declared.command.Cmd.{Cmd}
use Rattle.amqp_commands.specs.declared.command.Cmd.TheVariants.{DropChannel, DropConnection, Listen}
use Rattle.amqp_answers.specs.declared.answer.Answer.{Answer}
use Rattle.amqp_auth.specs.declared.asked.Asked.{Asked}
use Rattle.amqp_maps.specs.Listed.{at, put}
use Rattle.amqp_rules.specs.Talk.{Talk, has_ended, end_of, end_of_link, is_open, is_open_link, is_asked, is_asked_link, is_wanted_link, acts}
use Rattle.amqp_rules.specs.Changes.{present_at, refuse, finish, lose}
use Rattle.amqp_rules.specs.Links.{asked, linked, link_failed, lost}
use Rattle.amqp_rules.specs.Commands.{command, command_rule, takes_promise}
use Rattle.amqp_rules.specs.Ticks.{is_connected, beats, is_missed, is_heartbeat_due, missing_heartbeat, heartbeat_due, beat, asks_validity, validity_told, secret_due, timed, link_at, link_due, tick}
use Rattle.amqp_rules.specs.Answers.{answer_in, answer_of}
use Rattle.amqp_rules.specs.Writing.{flows, fitting, writes, frames_waiting, next_out, longer_than, overlong, taken}
use Rattle.amqp_types.proofs.Small.{if_case, if-true, if-false}
use Rattle.amqp_maps.proofs.Numbered.{put-same, put-other}
use Rattle.amqp_rules.proofs.Ascending.{put-ascends}
use Rattle.amqp_engine.specs.declared.port.Step.{Step}
use Rattle.amqp_engine.specs.declared.port.Step.TheVariants.{Linked, LinkFailed, Piece, End, Fault, Room, Tick, Command}
use Rattle.amqp_engine.specs.declared.port.Wrote.{Wrote}
use Rattle.amqp_engine.specs.declared.port.Wrote.TheVariants.{Took, Failed, NoMemory}
use Rattle.amqp_engine.specs.Engine.{Engine, with_talk, rule_at, settle, step_engine, can_read, fitting_next, committed_with_bytes, commit_one, commits, commit_all, overlong_next, ended_overlong, refuse_overlong, wrote}
use Rattle.amqp_engine.specs.Turn.{Turn, write_answers, wants_ask, asks, Progress, begun, goes, is_before, part, questioned, is_part, step_part, read_part, reads, is_piece, reading, offered, answered, offer_part, closing, is_all, drained, read, after_writes, starved_after, applied, turn}
use Rattle.amqp_engine.specs.Engine.{step_questions}
use Rattle.amqp_journal.specs.Untaken.{Untaken, untaken, with_untaken}
use Rattle.amqp_journal.specs.Left.{IsLeft}
use Rattle.amqp_journal.proofs.Parts.{decide}

-- it has ended, and is not Connected
abbrev pub Over : Talk → Type 0
Over t = (has_ended t ≡ true) × (is_connected t.state ≡ false)

-- ---- a command

rule-over : (s : ConnectionState) (c : Cmd) (t : Talk) → is_connected s ≡ false → has_ended t ≡ true
    → command_rule s c t ≡ (if takes_promise c then refuse (InvalidConnectionState s) t else t)
rule-over Connected c t off over = absurd cc
rule-over s (DropChannel r) t off over = refl
rule-over s DropConnection t off over = refl
rule-over s Listen t off over =
    ap (λ (b : Bool). record t { noted = record t.noted { listens = b } }) (if-true (has_ended t) t.noted.listens true over)
rule-over s c t off over = refl

pub command-over : (c : Cmd) (t : Talk) → Over t → command c t ≡ (if takes_promise c then refuse (InvalidConnectionState t.state) t else t)
command-over c t over = rule-over t.state c t over.1 over.0

left-refuse : (e : ErrorKind) (f t : Talk) → IsLeft f t → IsLeft (refuse e f) (refuse e t)
left-refuse e f t h = subst P (sym h.rest) by where
  P : Talk → Type 0
  P x = IsLeft (refuse e f) (refuse e x)

  x : Talk
  x = with_untaken (untaken t) f

  answers : (m : ℕ) → (at m (refuse e x).promises ≡ at m (refuse e f).promises) ⊎ ((at m (refuse e x).promises ≡ None) × IsSome (answer_of m (refuse e f)))
  answers m =
      elim (decide (m == f.made) m f.made refl) [
        | inl is ↦
            let Q : ℕ → Type 0 = λ i. (at i (refuse e x).promises ≡ at i (refuse e f).promises) ⊎ ((at i (refuse e x).promises ≡ None) × IsSome (answer_of i (refuse e f))) in
            subst Q (sym is) (inl (put-same f.made (Some (Err e)) t.promises ∙ sym (put-same f.made (Some (Err e)) f.promises)))
        | inr ne ↦
            let there : at m (refuse e x).promises ≡ at m t.promises = put-other m f.made (Some (Err e)) t.promises ne in
            let made : at m (refuse e f).promises ≡ at m f.promises = put-other m f.made (Some (Err e)) f.promises ne in
            elim (h.answers m) [
              | inl same ↦ inl (there ∙ same ∙ sym made)
              | inr taken ↦ inr (there ∙ taken.0, ap (λ (o : Option (Option (Result Answer ErrorKind))). is_some (answer_in (end_of f) o)) made ∙ taken.1)
            ]
      ]

  -- the parts that were not taken are those of the state itself
  events-same : (y : Talk) → y ≡ with_untaken (untaken y) f → IsLeft f y → IsLeft f (with_untaken (untaken y) f)
  events-same y is g = let Q : Talk → Type 0 = λ z. IsLeft f z in subst Q is g

  by : IsLeft (refuse e f) (refuse e x)
  by =
      let g : IsLeft f x = events-same t h.rest h in
      record {
        rest = refl;
        answers = answers;
        frames = g.frames;
        events = g.events;
        tells_end = g.tells_end;
        ordered = (put-ascends f.made (Some (Err e)) t.promises h.ordered.0, h.ordered.1);
      }

-- two that have ended in the same way
pub over-left : (f t : Talk) → IsLeft f t → Over f → Over t
over-left f t h over = (ap has_ended h.rest ∙ over.0, ap (λ (x : Talk). is_connected x.state) h.rest ∙ over.1)

pub left-command-over : (c : Cmd) (f t : Talk) → Over f → IsLeft f t → IsLeft (command c f) (command c t)
left-command-over c f t over h =
    let s : ConnectionState = f.state in
    let same : t.state ≡ s = ap (λ (x : Talk). x.state) h.rest in
    let P : Talk → Type 0 = λ x. IsLeft (command c f) x in
    let Q : Talk → Type 0 = λ x. IsLeft x (if takes_promise c then refuse (InvalidConnectionState s) t else t) in
    let now : command c t ≡ (if takes_promise c then refuse (InvalidConnectionState s) t else t) =
    command-over c t (over-left f t h over) ∙ ap (λ (r : ConnectionState). if takes_promise c then refuse (InvalidConnectionState r) t else t) same in
    subst P (sym now) (subst Q (sym (command-over c f over)) (both (takes_promise c)))
  where
    both : (b : Bool) → IsLeft (if b then refuse (InvalidConnectionState f.state) f else f) (if b then refuse (InvalidConnectionState f.state) t else t)
    both true = left-refuse (InvalidConnectionState f.state) f t h
    both false = h

-- ---- the steps

off : (l : Link ErrorKind) → is_some (end_of_link l) ≡ true → (is_open_link l ≡ false) × (is_asked_link l ≡ false) × (is_wanted_link l ≡ false)
off (at_link.Ended r) h = (refl, refl, refl)
off _ h = absurd cc

and-off : (a b : Bool) → a ≡ false → (a && b) ≡ false
and-off true b h = cc
and-off false b h = refl

pub settle-talk : (e : Engine) → (settle e).talk ≡ e.talk
settle-talk e =
    let P : Engine → Type 0 = λ x. x.talk ≡ e.talk in
    if_case P (is_open e.talk) _ (record e { unread = []; place = 0; unsent = [] })
    (if_case P _ (record e { unread = []; place = 0 }) e refl refl) refl

module _ (t : Talk) (over : Over t) where
  closed : is_open t ≡ false
  closed = (off t.link over.0).0

  unasked : is_asked t ≡ false
  unasked = (off t.link over.0).1

  moment-over : (now : ℕ) → present_at now t ≡ t
  moment-over now = if-true (has_ended t) t (record t { present = _ }) over.0

  lost-over : (fault : IoFault) → lost fault t ≡ t
  lost-over fault = if-false (acts t) _ _ (and-off (is_open t) _ closed) ∙ if-false (is_open t) (finish t) t closed

  failed-over : link_failed t ≡ t
  failed-over = if-false (is_asked t) _ t unasked

  due-over : link_due t ≡ t
  due-over = ap (λ (l : Link ErrorKind). record t { link = l }) (by t.link over.0) where
    by : (l : Link ErrorKind) → is_some (end_of_link l) ≡ true → link_at t.present l ≡ l
    by (at_link.Ended r) h = refl
    by _ h = absurd cc

  tick-over : (answers : List Asked) → tick answers t ≡ t
  tick-over answers =
      let unbeaten : beats t ≡ false = and-off (is_connected t.state) _ over.1 in
      let there : missing_heartbeat t ≡ t = if-false (is_missed t) _ t (and-off (beats t) _ unbeaten) in
      let here : heartbeat_due t ≡ t = if-false (is_heartbeat_due t) _ t (and-off (beats t) _ unbeaten) in
      let secret : secret_due answers t ≡ t = if-false (asks_validity t) (validity_told answers t) t (and-off (is_connected t.state) _ over.1) in
      ap (λ (x : Talk). link_due (secret_due answers (heartbeat_due x))) there ∙ ap (λ (x : Talk). link_due (secret_due answers x)) here
      ∙ ap link_due secret ∙ due-over

  taken-over : (n : ℕ) → taken n t ≡ t
  taken-over n = if-false (is_open t && not (n == 0)) _ t (and-off (is_open t) _ closed)

  no-next : next_out t ≡ None
  no-next = if-false (writes t) _ None (and-off (is_open t) _ closed)

-- what a step does then: a command is told
abbrev pub over_step : Step → Bool → Talk → Talk
over_step (Command c) goes t = if goes then command c t else t
over_step _ goes t = t

step-over : (now : ℕ) (step : Step) (bytes : List ℕ) (answers : List Asked) (e : Engine) → Over e.talk
    → (step_engine now step bytes answers e).talk ≡ over_step step true e.talk
step-over now Linked bytes answers e over =
    ap (λ (x : Engine). x.talk) (if-false (is_asked e.talk) _ (rule_at now (λ t. t) e) (unasked e.talk over)) ∙ moment-over e.talk over now
step-over now LinkFailed bytes answers e over = settle-talk (rule_at now link_failed e) ∙ ap link_failed (moment-over e.talk over now) ∙ failed-over e.talk over
step-over now (Piece n) bytes answers e over =
    ap (λ (x : Engine). x.talk) (if-false (is_open e.talk) _ (rule_at now (λ t. t) e) (closed e.talk over)) ∙ moment-over e.talk over now
step-over now End bytes answers e over = settle-talk (rule_at now (lost Aborted) e) ∙ ap (lost Aborted) (moment-over e.talk over now) ∙ lost-over e.talk over Aborted
step-over now Fault bytes answers e over = settle-talk (rule_at now (lost Reset) e) ∙ ap (lost Reset) (moment-over e.talk over now) ∙ lost-over e.talk over Reset
step-over now Room bytes answers e over = moment-over e.talk over now
step-over now Tick bytes answers e over = settle-talk (rule_at now (tick answers) e) ∙ ap (tick answers) (moment-over e.talk over now) ∙ tick-over e.talk over answers
step-over now (Command c) bytes answers e over = ap (command c) (moment-over e.talk over now)

-- whether a command is a part that goes on
step-part-over : (step : Step) (bytes : List ℕ) (p : Progress) → Over p.engine.talk → (step_part step bytes p).engine.talk ≡ over_step step (goes p) p.engine.talk
step-part-over step bytes p over = by step (step-over p.at step bytes p.answers p.engine over) where
  any : (s : Step) (b g : Bool) (x : Talk) → (step_engine p.at s bytes p.answers p.engine).talk ≡ p.engine.talk
      → (if b then (if g then part (step_engine p.at s bytes p.answers p.engine) (questioned (step_questions p.at s p.answers p.engine) p) else p) else record p { engine = step_engine p.at s bytes p.answers p.engine }).engine.talk ≡ p.engine.talk
  any s true true x h = h
  any s true false x h = refl
  any s false g x h = h

  by : (s : Step) → (step_engine p.at s bytes p.answers p.engine).talk ≡ over_step s true p.engine.talk
      → (step_part s bytes p).engine.talk ≡ over_step s (goes p) p.engine.talk
  by Linked h = any Linked (is_part Linked p.engine) (goes p) p.engine.talk h
  by LinkFailed h = any LinkFailed (is_part LinkFailed p.engine) (goes p) p.engine.talk h
  by (Piece n) h = any (Piece n) (is_part (Piece n) p.engine) (goes p) p.engine.talk h
  by End h = any End (is_part End p.engine) (goes p) p.engine.talk h
  by Fault h = any Fault (is_part Fault p.engine) (goes p) p.engine.talk h
  by Room h = h
  by Tick h = any Tick true (goes p) p.engine.talk h
  by (Command c) h = told (goes p) where
    told : (g : Bool) → (if g then part (step_engine p.at (Command c) bytes p.answers p.engine) (questioned [] p) else p).engine.talk ≡ (if g then command c p.engine.talk else p.engine.talk)
    told true = h
    told false = refl

-- it stays over
refused-over : (b : Bool) (e : ErrorKind) (t : Talk) → Over t → Over (if b then refuse e t else t)
refused-over true e t over = over
refused-over false e t over = over

pub step-stays-over : (step : Step) (g : Bool) (t : Talk) → Over t → Over (over_step step g t)
step-stays-over (Command c) true t over = subst Over (sym (command-over c t over)) (refused-over (takes_promise c) (InvalidConnectionState t.state) t over)
step-stays-over (Command c) false t over = over
step-stays-over Linked g t over = over
step-stays-over LinkFailed g t over = over
step-stays-over (Piece n) g t over = over
step-stays-over End g t over = over
step-stays-over Fault g t over = over
step-stays-over Room g t over = over
step-stays-over Tick g t over = over

-- ---- nothing is read or after_writes

heard-over : (b : Bool) (p : Progress) → Over p.engine.talk → reading b p ≡ p
heard-over true p over = by (length p.engine.unread) where
  by : (n : ℕ) → reads n p ≡ p
  by zero = refl
  by (suc n) = if-false (goes p && can_read p.engine) (reads n (read_part p)) p (both (goes p) _ (and-off (is_open p.engine.talk) _ (closed p.engine.talk over)))
    where
      both : (a c : Bool) → c ≡ false → (a && c) ≡ false
      both true c h = h
      both false c h = refl
heard-over false p over = refl

commit-over : (n : ℕ) (e : Engine) → Over e.talk → commits n e ≡ e
commit-over zero e over = refl
commit-over (suc n) e over =
    let none : fitting_next e ≡ None = ap (fitting (e.talk.capacity - length e.unsent)) (no-next e.talk over) in
    ap (commits n) (ap (λ (o : Option Item). committed_with_bytes o e) none) ∙ commit-over n e over

wrote-over : (now : ℕ) (w : Wrote) (e : Engine) → Over e.talk → (wrote now w e).talk ≡ e.talk
wrote-over now Failed e over = settle-talk (rule_at now (lost BrokenPipe) e) ∙ ap (lost BrokenPipe) (moment-over e.talk over now) ∙ lost-over e.talk over BrokenPipe
wrote-over now (Took n) e over = settle-talk _ ∙ ap (taken n) (moment-over e.talk over now) ∙ taken-over e.talk over n
wrote-over now NoMemory e over = settle-talk _ ∙ ap (taken 0) (moment-over e.talk over now) ∙ taken-over e.talk over 0

answered-over : (now : ℕ) (w : Wrote) (e : Engine) → Over e.talk → (answered now w e).talk ≡ e.talk
answered-over now w e over = ap (λ (x : Engine). (wrote now w x).talk) (commit-over (frames_waiting e.talk) e over) ∙ wrote-over now w e over

refuse-over : (e : Engine) → Over e.talk → (refuse_overlong e).talk ≡ e.talk
refuse-over e over =
    let none : overlong_next e ≡ None =
    ap (λ (x : Engine). overlong x.talk) (commit-over (frames_waiting e.talk) e over) ∙ ap (longer_than e.talk.capacity) (no-next e.talk over) in
    ap (λ (o : Option ℕ). (ended_overlong o e).talk) none

drained-over : (ws : List Wrote) (p : Progress) → Over p.engine.talk → (drained ws p).engine.talk ≡ p.engine.talk
drained-over [] p over =
    if_case (λ (q : Progress). q.engine.talk ≡ p.engine.talk) (goes p) (record p { engine = refuse_overlong p.engine }) p (refuse-over p.engine over) refl
drained-over (w ∷ ws) p over =
    let same : (offer_part w p).engine.talk ≡ p.engine.talk = answered-over p.at w p.engine over in
    if_case (λ (q : Progress). q.engine.talk ≡ p.engine.talk) (is_all w (length (offered p.engine))) (drained ws (offer_part w p)) (offer_part w p)
    (drained-over ws (offer_part w p) (subst Over (sym same) over) ∙ same) same

-- ---- a turn

pub applied-over : (v : Turn) (e : Engine) → Over e.talk → (applied v e).talk ≡ over_step v.step (is_before v.notes.starved 0) e.talk
applied-over v e over =
    let p : Progress = begun v.at v.notes.starved v.notes.auths e in
    let s : Progress = step_part v.step v.bytes p in
    let stepped : s.engine.talk ≡ over_step v.step (is_before v.notes.starved 0) e.talk = step-part-over v.step v.bytes p over in
    let still : Over s.engine.talk = subst Over (sym stepped) (step-stays-over v.step (is_before v.notes.starved 0) e.talk over) in
    let there : read v e ≡ s = heard-over (is_piece v.step) s still in
    let after : Engine = (after_writes v e).engine in
    ap (λ (x : Engine). x.talk) (if-true (has_ended e.talk) after (starved_after v.notes.starved v.at after) over.0)
    ∙ ap (λ (q : Progress). (drained (write_answers v.notes) q).engine.talk) there ∙ drained-over (write_answers v.notes) s still ∙ stepped

pub asks-over : (e : Engine) → Over e.talk → asks e ≡ e
asks-over e over = if-false (wants_ask e) (with_talk asked e) e (and-off (is_wanted_link e.talk.link) _ (off e.talk.link over.0).2)

pub left-step-over : (step : Step) (g : Bool) (f t : Talk) → Over f → IsLeft f t → IsLeft (over_step step g f) (over_step step g t)
left-step-over (Command c) true f t over h = left-command-over c f t over h
left-step-over (Command c) false f t over h = h
left-step-over Linked g f t over h = h
left-step-over LinkFailed g f t over h = h
left-step-over (Piece n) g f t over h = h
left-step-over End g f t over h = h
left-step-over Fault g f t over h = h
left-step-over Room g f t over h = h
left-step-over Tick g f t over h = h
