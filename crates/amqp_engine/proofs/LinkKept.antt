-- What a step, the reading of a frame and a write leave of the link, and of what is to be sent on it.
use Rattle.std.proofs.Common.{◌≡◌, inl, inr, ℕ, ◌+◌, ◌==◌, if◌then◌else◌, true, false, true≢false, List, [], ◌++◌, drop, refl, ap, sym, ◌∙◌, subst}
use Rattle.amqp_frame.specs.declared.frame.Read.{Read}
use Rattle.amqp_frame.specs.declared.frame.Read.TheVariants.{Whole, More, TooLarge, BadHeartbeat, Bad, NoMemory as ReadNoMemory}
use Rattle.amqp_promise.specs.declared.error.ErrorKind.{ErrorKind}
use Rattle.amqp_rules.specs.declared.state.Link.{Link}
use Rattle.amqp_rules.specs.declared.state.Link.TheVariants.{Due, Wanted, Asked, Open, Ended}
use Rattle.amqp_promise.specs.declared.io_fault.IoFault.{IoFault}
use Rattle.amqp_promise.specs.declared.io_fault.IoFault.TheVariants.{Aborted, Reset, BrokenPipe}
use Rattle.amqp_violations.specs.declared.misread.Misread.{Misread}
use Rattle.amqp_violations.specs.declared.misread.Misread.TheVariants as misreads
use Rattle.amqp_commands.specs.declared.command.Cmd.{Cmd}
use Rattle.amqp_auth.specs.declared.asked.Asked.{Asked as ProviderAnswer}
use Rattle.amqp_rules.specs.Talk.{Talk, is_open, is_open_link, is_asked, is_asked_link}
use Rattle.amqp_rules.specs.Changes.{present_at}
use Rattle.amqp_rules.specs.Links.{linked, link_failed, piece, misread, lost}
use Rattle.amqp_rules.specs.Frames.{on_frame}
use Rattle.amqp_rules.specs.Ticks.{tick}
use Rattle.amqp_rules.specs.Commands.{command}
use Rattle.amqp_rules.specs.Writing.{taken, frames_waiting}
use Rattle.amqp_engine.specs.declared.port.Step.{Step}
use Rattle.amqp_engine.specs.declared.port.Step.TheVariants.{Linked, LinkFailed, Piece, End, Fault, Room, Tick, Command}
use Rattle.amqp_engine.specs.declared.port.Wrote.{Wrote}
use Rattle.amqp_engine.specs.declared.port.Wrote.TheVariants.{Took, Failed, NoMemory}
use Rattle.amqp_engine.specs.Plan.{at_most_64}
use Rattle.amqp_engine.specs.Engine.{Engine, rule_at, settle, step_engine, step_piece, read_one, read_row, read_badly, front_of, took, wrote, taken_by, commit_all}
use Rattle.amqp_engine.specs.Turn.{answered}
use Rattle.amqp_types.proofs.Small.{if_case, if-false}
use Rattle.amqp_engine.proofs.Settling.{settle-talk, settle-unsent}
use Rattle.amqp_rules.proofs.Keeping.{LinkKept, link-then, kept-open, present-keeps, failed-keeps, failed-link, keeps-frame, keeps-misread, keeps-tick, stays-command, lost-off, lost-link}
use Rattle.amqp_rules.proofs.Sending.{left_after, committed-taken, taken-link}
use Rattle.amqp_engine.proofs.Commits.{commits-keep}

-- ---- links

pub asked-not-open : (l : Link ErrorKind) → is_asked_link l ≡ true → is_open_link l ≡ true → ⊥
asked-not-open Open h k = cc
asked-not-open (Due moment) h k = cc
asked-not-open Wanted h k = cc
asked-not-open Asked h k = cc
asked-not-open (Ended r) h k = cc

pub kept-present : (at : ℕ) (t : Talk) → LinkKept t (present_at at t)
kept-present at t = inl (present-keeps (λ y. y.link) at t (λ n. refl))

-- ---- what is left of an open link

-- it was open before, and what is to be sent on it is as it was
pub record Left (e e' : Engine) : Type 0 where
  pub opened : is_open e.talk ≡ true
  pub committed : e'.talk.committed ≡ e.talk.committed
  pub unsent : e'.unsent ≡ e.unsent

abbrev pub Leaves : Engine → Engine → Type 0
Leaves e e' = is_open e'.talk ≡ true → Left e e'

pub leaves-settle : (e x : Engine) → Leaves e x → Leaves e (settle x)
leaves-settle e x l now =
    let here : is_open x.talk ≡ true = sym (ap is_open (settle-talk x)) ∙ now in
    let k = l here in
    record { opened = k.opened; committed = ap (λ (t : Talk). t.committed) (settle-talk x) ∙ k.committed; unsent = settle-unsent x here ∙ k.unsent }

-- a rule that opens no link, and commits nothing where one is open then
pub leaves-rule : (at : ℕ) (f : Talk → Talk) (e : Engine) → LinkKept (present_at at e.talk) (f (present_at at e.talk))
    → (is_open (f (present_at at e.talk)) ≡ true → (f (present_at at e.talk)).committed ≡ (present_at at e.talk).committed) → Leaves e (rule_at at f e)
leaves-rule at f e k same now =
    let t = present_at at e.talk in
    record {
      opened = kept-open e.talk (f t) (link-then e.talk t (f t) (kept-present at e.talk) k) now;
      committed = same now ∙ present-keeps (λ y. y.committed) at e.talk (λ n. refl);
      unsent = refl;
    }

leaves-moment : (at : ℕ) (e : Engine) → Leaves e (rule_at at (λ t. t) e)
leaves-moment at e = leaves-rule at (λ t. t) e (inl refl) (λ now. refl)

-- ---- steps

leaves-failed : (at : ℕ) (e : Engine) → Leaves e (settle (rule_at at link_failed e))
leaves-failed at e =
    let t = present_at at e.talk in
    leaves-settle e (rule_at at link_failed e) (leaves-rule at link_failed e
    (failed-link t) (λ now. failed-keeps (λ y. y.committed) (λ t s l cs ps ns. refl) (λ t n. refl) t))

-- what is committed is as it was, where the link is still open
lost-committed : (fault : IoFault) (t : Talk) → is_open (lost fault t) ≡ true → (lost fault t).committed ≡ t.committed
lost-committed fault t now =
    elim (lost-off fault t) [ inl same ↦ ap (λ (y : Talk). y.committed) same | inr off ↦ absurd (true≢false (sym now ∙ off.opened)) ]

leaves-lost : (at : ℕ) (fault : IoFault) (e : Engine) → Leaves e (settle (rule_at at (lost fault) e))
leaves-lost at fault e =
    let t = present_at at e.talk in
    leaves-settle e (rule_at at (lost fault) e)
    (leaves-rule at (lost fault) e (lost-link fault t) (lost-committed fault t))

leaves-tick : (at : ℕ) (answers : List ProviderAnswer) (e : Engine) → Leaves e (settle (rule_at at (tick answers) e))
leaves-tick at answers e =
    let k = keeps-tick answers (present_at at e.talk) in
    leaves-settle e (rule_at at (tick answers) e) (leaves-rule at (tick answers) e k.link k.committed)

leaves-piece : (at : ℕ) (bytes : List ℕ) (e : Engine) → Leaves e (step_piece at bytes e)
leaves-piece at bytes e =
    let t = present_at at e.talk in
    let x : Engine = record e { talk = piece t; unread = e.unread ++ bytes } in
    let read : Talk = record t { last_read = t.present } in
    if_case (Leaves e) (is_open e.talk) (settle x) (rule_at at (λ y. y) e)
    (leaves-settle e x (λ now.
    let l = leaves-rule at piece e (if_case (LinkKept t) (is_open t) read t (inl refl) (inl refl))
    (λ still. if_case (λ (y : Talk). y.committed ≡ t.committed) (is_open t) read t refl refl) now in
    record { opened = l.opened; committed = l.committed; unsent = refl }))
    (leaves-moment at e)

leaves-command : (at : ℕ) (c : Cmd) (e : Engine) → Leaves e (rule_at at (command c) e)
leaves-command at c e =
    let k = stays-command c (present_at at e.talk) in
    leaves-rule at (command c) e (inl k.link) (λ now. k.committed)

-- a step that brings no link
pub leaves-step : (at : ℕ) (step : Step) (bytes : List ℕ) (answers : List ProviderAnswer) (e : Engine) → (step ≡ Linked → is_asked e.talk ≡ false) → Leaves e (step_engine at step bytes answers e)
leaves-step at Linked bytes answers e other =
    let none = if-false (is_asked e.talk) (record { talk = linked (present_at at e.talk); unread = []; place = 0; unsent = []; starved = e.starved })
    (rule_at at (λ t. t) e) (other refl) in
    subst (Leaves e) (sym none) (leaves-moment at e)
leaves-step at LinkFailed bytes answers e other = leaves-failed at e
leaves-step at (Piece n) bytes answers e other = leaves-piece at bytes e
leaves-step at End bytes answers e other = leaves-lost at Aborted e
leaves-step at Fault bytes answers e other = leaves-lost at Reset e
leaves-step at Room bytes answers e other = leaves-moment at e
leaves-step at Tick bytes answers e other = leaves-tick at answers e
leaves-step at (Command c) bytes answers e other = leaves-command at c e

-- ---- reading

leaves-misread : (at : ℕ) (why : Misread) (e : Engine) → Leaves e (read_badly at why e)
leaves-misread at why e =
    let k = keeps-misread why (present_at at e.talk) in
    leaves-settle e (rule_at at (misread why) e) (leaves-rule at (misread why) e k.link k.committed)

leaves-row : (at : ℕ) (r : Read) (answers : List ProviderAnswer) (e : Engine) → Leaves e (read_row at r answers e)
leaves-row at (Whole f n) answers e =
    let k = keeps-frame f answers (present_at at e.talk) in
    let x : Engine = record e { talk = on_frame f answers (present_at at e.talk); unread = drop n e.unread; place = at_most_64 (e.place + n) } in
    leaves-settle e x (λ now.
    let l = leaves-rule at (on_frame f answers) e k.link k.committed now in
    record { opened = l.opened; committed = l.committed; unsent = refl })
leaves-row at More answers e = λ now. record { opened = now; committed = refl; unsent = refl }
leaves-row at (TooLarge n) answers e = leaves-misread at (misreads.TooLarge n) e
leaves-row at (BadHeartbeat c) answers e = leaves-misread at (misreads.BadHeartbeat c) e
leaves-row at Bad answers e = leaves-misread at (misreads.Bad e.place) e
leaves-row at ReadNoMemory answers e = leaves-misread at (misreads.Bad e.place) e

pub leaves-read : (at : ℕ) (answers : List ProviderAnswer) (e : Engine) → Leaves e (read_one at answers e)
leaves-read at answers e = leaves-row at (front_of e) answers e

-- ---- writing

-- what is left of an open link after a write: the marks of the frames not yet sent whole, and the bytes not taken
pub record Written (w : Wrote) (x y : Engine) : Type 0 where
  pub committed : y.talk.committed ≡ (if taken_by w == 0 then x.talk.committed else left_after x.talk.committed (taken_by w))
  pub unsent : y.unsent ≡ drop (taken_by w) x.unsent

written-took : (at k : ℕ) (x : Engine) → is_open x.talk ≡ true → is_open (took at k x).talk ≡ true → Written (Took k) x (took at k x)
written-took at k x opened now =
    let y : Engine = record x { talk = taken k (present_at at x.talk); unsent = drop k x.unsent } in
    let here : is_open y.talk ≡ true = sym (ap is_open (settle-talk y)) ∙ now in
    record {
      committed = ap (λ (t : Talk). t.committed) (settle-talk y) ∙ committed-taken (k == 0) at k x.talk opened here refl;
      unsent = settle-unsent y here;
    }

pub written : (at : ℕ) (w : Wrote) (x : Engine) → is_open x.talk ≡ true → is_open (wrote at w x).talk ≡ true → Written w x (wrote at w x)
written at (Took k) x opened now = written-took at k x opened now
written at NoMemory x opened now =
    let l = written-took at 0 x opened now in
    record { committed = l.committed; unsent = l.unsent }
written at Failed x opened now =
    let l = leaves-lost at BrokenPipe x now in
    record { committed = l.committed; unsent = l.unsent }

-- ---- the link stays, or is off

kept-settle : (t : Talk) (e : Engine) → LinkKept t e.talk → LinkKept t (settle e).talk
kept-settle t e k = subst (LinkKept t) (sym (settle-talk e)) k

kept-rule : (at : ℕ) (f : Talk → Talk) (e : Engine) → LinkKept (present_at at e.talk) (f (present_at at e.talk)) → LinkKept e.talk (settle (rule_at at f e)).talk
kept-rule at f e k =
    let t = present_at at e.talk in
    kept-settle e.talk (rule_at at f e) (link-then e.talk t (f t) (kept-present at e.talk) k)

kept-row : (at : ℕ) (r : Read) (answers : List ProviderAnswer) (e : Engine) → LinkKept e.talk (read_row at r answers e).talk
kept-row at (Whole f n) answers e =
    let t = present_at at e.talk in
    kept-settle e.talk (record e { talk = on_frame f answers (present_at at e.talk); unread = drop n e.unread; place = at_most_64 (e.place + n) })
    (link-then e.talk t (on_frame f answers t) (kept-present at e.talk) (keeps-frame f answers t).link)
kept-row at More answers e = inl refl
kept-row at (TooLarge n) answers e = kept-rule at (misread (misreads.TooLarge n)) e (keeps-misread (misreads.TooLarge n) (present_at at e.talk)).link
kept-row at (BadHeartbeat c) answers e = kept-rule at (misread (misreads.BadHeartbeat c)) e (keeps-misread (misreads.BadHeartbeat c) (present_at at e.talk)).link
kept-row at Bad answers e = kept-rule at (misread (misreads.Bad e.place)) e (keeps-misread (misreads.Bad e.place) (present_at at e.talk)).link
kept-row at ReadNoMemory answers e = kept-rule at (misread (misreads.Bad e.place)) e (keeps-misread (misreads.Bad e.place) (present_at at e.talk)).link

pub kept-read : (at : ℕ) (answers : List ProviderAnswer) (e : Engine) → LinkKept e.talk (read_one at answers e).talk
kept-read at answers e = kept-row at (front_of e) answers e

kept-took : (at k : ℕ) (e : Engine) → LinkKept e.talk (took at k e).talk
kept-took at k e =
    let t = present_at at e.talk in
    kept-settle e.talk (record e { talk = taken k t; unsent = drop k e.unsent }) (link-then e.talk t (taken k t) (kept-present at e.talk) (taken-link k t))

kept-wrote : (at : ℕ) (w : Wrote) (e : Engine) → LinkKept e.talk (wrote at w e).talk
kept-wrote at (Took k) e = kept-took at k e
kept-wrote at Failed e = kept-rule at (lost BrokenPipe) e (lost-link BrokenPipe (present_at at e.talk))
kept-wrote at NoMemory e = kept-took at 0 e

-- an offer too
pub kept-answered : (at : ℕ) (w : Wrote) (e : Engine) → LinkKept e.talk (answered at w e).talk
kept-answered at w e =
    let x = commit_all e in
    link-then e.talk x.talk (answered at w e).talk (inl (commits-keep (λ (y : Engine). y.talk.link) (λ y fs ms bytes. refl) (frames_waiting e.talk) e))
    (kept-wrote at w x)
