-- No turn and no command changes what a session is made from.
use Rattle.std.proofs.Common.{◌≡◌, ◌∙◌, ℕ, ◌+◌, false, List, [], ◌++◌, drop, Some, is_some, refl, sym, subst}
use Rattle.amqp_frame.specs.declared.frame.Frame.{Frame}
use Rattle.amqp_frame.specs.declared.frame.Read.{Read}
use Rattle.amqp_frame.specs.declared.frame.Read.TheVariants.{Whole, More, TooLarge, BadHeartbeat, Bad, NoMemory as ReadNoMemory}
use Rattle.amqp_promise.specs.declared.error.ErrorKind.{ErrorKind}
use Rattle.amqp_promise.specs.declared.error.ErrorKind.TheVariants.{SerialisationError, NoMemory as MemoryError}
use Rattle.amqp_promise.specs.declared.io_fault.IoFault.{IoFault}
use Rattle.amqp_promise.specs.declared.io_fault.IoFault.TheVariants.{Aborted, Reset, BrokenPipe}
use Rattle.amqp_commands.specs.declared.command.Cmd.{Cmd}
use Rattle.amqp_violations.specs.declared.misread.Misread.{Misread}
use Rattle.amqp_violations.specs.declared.misread.Misread.TheVariants as misreads
use Rattle.amqp_auth.specs.declared.asked.Asked.{Asked as ProviderAnswer}
use Rattle.amqp_settings.specs.Config.{Config}
use Rattle.amqp_rules.specs.Talk.{Talk, has_ended, is_open, is_asked}
use Rattle.amqp_rules.specs.Answers.{answer_of, take_answer, take_event}
use Rattle.amqp_rules.specs.Changes.{present_at, lose, fail}
use Rattle.amqp_rules.specs.Links.{asked, linked, link_failed, piece, misread, lost}
use Rattle.amqp_maps.specs.Listed.{without}
use Rattle.amqp_rules.specs.Frames.{on_frame}
use Rattle.amqp_rules.specs.Ticks.{tick}
use Rattle.amqp_rules.specs.Commands.{command}
use Rattle.amqp_rules.specs.Writing.{frames_waiting, taken, end_overlong}
use Rattle.amqp_rules.proofs.Keeping.{OverlooksLosses, Overlooks, overlooks-ends, present-keeps, loss-keeps, lost-keeps, failed-keeps, tick-keeps, stays-command}
use Rattle.amqp_rules.proofs.Sending.{taken-keeps}
use Rattle.amqp_rules.proofs.Walk.{ChannelRows, PassedRows, ConnectionRows, misread-keeps, start-keeps, secure-keeps, frame-keeps}
use Rattle.amqp_engine.specs.declared.port.Step.{Step}
use Rattle.amqp_engine.specs.declared.port.Step.TheVariants.{Linked, LinkFailed, Piece, End, Fault, Room, Tick, Command}
use Rattle.amqp_engine.specs.declared.port.Wrote.{Wrote}
use Rattle.amqp_engine.specs.declared.port.Wrote.TheVariants.{Took, Failed, NoMemory}
use Rattle.amqp_engine.specs.Plan.{at_most_64}
use Rattle.amqp_engine.specs.Engine.{Engine, with_talk, rule_at, settle, step_engine, read_row, front_of, wrote, commit_all, ended_overlong, starve_at}
use Rattle.amqp_engine.specs.Turn.{Turn, Progress, asks, wants_ask, applied, IsApplied}
use Rattle.amqp_types.proofs.Small.{if_case}
use Rattle.amqp_engine.proofs.EventTaken.{event-case}
use Rattle.amqp_engine.proofs.Settling.{settle-talk}
use Rattle.amqp_engine.proofs.Commits.{commits-keep}
use Rattle.amqp_engine.proofs.Lifting as lifting

-- what a session is made from
abbrev made : Talk → Config
made t = t.config

losses : OverlooksLosses made
losses t s l cs ps b q ms n o ns = refl

all : Overlooks made
all = record { ends = losses; writes = λ t w ms. refl; moments = λ t n. refl }

module _ (c : Config) where
  abbrev Same : Talk → Type 0
  Same t = t.config ≡ c

  abbrev pub SameOn : Engine → Type 0
  SameOn e = Same e.talk

  same-lose : (e : ErrorKind) (t : Talk) → Same t → Same (lose e t)
  same-lose e t h = loss-keeps made losses e t ∙ h

  -- ---- rules

  channels : ChannelRows Same
  channels =
      record {
        lost = same-lose;
        opened = λ n d promise t is h. h;
        closed = λ n promise t is h. h;
        answered = λ n d t h. h;
        removed = λ n t h. h;
        flow = λ n d active t h. h;
        flowed = λ n d active promise t is h. h;
        server_closed = λ n e d t h. h;
        crossed = λ n e d t h. h;
      }

  passed : PassedRows Same
  passed = record { confirms = λ n d t h. h; hands = λ opened h t k. k }

  connection : (answers : List ProviderAnswer) → ConnectionRows Same answers
  connection answers =
      record {
        starts = λ t is h. start-keeps Same same-lose answers t h (λ mechanism response. h);
        secures = λ t h. secure-keeps Same same-lose answers t h (λ response. h);
        tunes = λ server t h. h;
        connects = λ t is phase h. h;
        reopens = λ n t h. h;
        blocks = λ reason t h. h;
        unblocks = λ t h. h;
        refreshes = λ t is h. h;
        renews = λ number t is h. h;
        server_closes = λ code text t h. h;
        closes = λ t h. h;
        answers_close = λ promise t h. h;
      }

  same-frame : (f : Frame) (answers : List ProviderAnswer) (t : Talk) → Same t → Same (on_frame f answers t)
  same-frame f answers t h = frame-keeps Same answers channels (connection answers) passed f t h

  same-command : (d : Cmd) (t : Talk) → Same t → Same (command d t)
  same-command d t h = (stays-command d t).config ∙ h

  same-misread : (why : Misread) (t : Talk) → Same t → Same (misread why t)
  same-misread why t h = misread-keeps Same same-lose (λ t h. h) why t h

  same-moment : (at : ℕ) (t : Talk) → Same t → Same (present_at at t)
  same-moment at t h = present-keeps made at t (λ n. refl) ∙ h

  same-lost : (fault : IoFault) (t : Talk) → Same t → Same (lost fault t)
  same-lost fault t h = lost-keeps made losses fault t ∙ h

  same-failed : (t : Talk) → Same t → Same (link_failed t)
  same-failed t h = failed-keeps made (overlooks-ends made losses) (λ t n. refl) t ∙ h

  same-tick : (answers : List ProviderAnswer) (t : Talk) → Same t → Same (tick answers t)
  same-tick answers t h = tick-keeps made losses (λ t q n m b. refl) answers t ∙ h

  same-linked : (t : Talk) → Same t → Same (linked t)
  same-linked t h = if_case Same (is_asked t) _ t h h

  same-piece : (t : Talk) → Same t → Same (piece t)
  same-piece t h = if_case Same (is_open t) (record t { last_read = t.present }) t h h

  -- ---- small steps

  on-settle : (e : Engine) → SameOn e → SameOn (settle e)
  on-settle e h = subst Same (sym (settle-talk e)) h

  on-rule : (at : ℕ) (f : Talk → Talk) (e : Engine) → ((t : Talk) → Same t → Same (f t)) → SameOn e → SameOn (settle (rule_at at f e))
  on-rule at f e keeps h = on-settle (rule_at at f e) (keeps (present_at at e.talk) (same-moment at e.talk h))

  pub on-asks : (e : Engine) → SameOn e → SameOn (asks e)
  on-asks e h = if_case SameOn (wants_ask e) (with_talk asked e) e h h

  on-step : (at : ℕ) (step : Step) (bytes : List ℕ) (answers : List ProviderAnswer) (e : Engine) → SameOn e → SameOn (step_engine at step bytes answers e)
  on-step at Linked bytes answers e h =
      let t = present_at at e.talk in
      if_case SameOn (is_asked e.talk) (record { talk = linked t; unread = []; place = 0; unsent = []; starved = e.starved }) (rule_at at (λ t. t) e)
      (same-linked t (same-moment at e.talk h)) (same-moment at e.talk h)
  on-step at LinkFailed bytes answers e h = on-rule at link_failed e same-failed h
  on-step at (Piece n) bytes answers e h =
      let t = present_at at e.talk in
      let x : Engine = record e { talk = piece t; unread = e.unread ++ bytes } in
      if_case SameOn (is_open e.talk) (settle x) (rule_at at (λ t. t) e) (on-settle x (same-piece t (same-moment at e.talk h))) (same-moment at e.talk h)
  on-step at End bytes answers e h = on-rule at (lost Aborted) e (same-lost Aborted) h
  on-step at Fault bytes answers e h = on-rule at (lost Reset) e (same-lost Reset) h
  on-step at Room bytes answers e h = same-moment at e.talk h
  on-step at Tick bytes answers e h = on-rule at (tick answers) e (same-tick answers) h
  on-step at (Command d) bytes answers e h = same-command d (present_at at e.talk) (same-moment at e.talk h)

  on-row : (at : ℕ) (r : Read) (answers : List ProviderAnswer) (e : Engine) → SameOn e → SameOn (read_row at r answers e)
  on-row at (Whole f n) answers e h =
      on-settle (record e { talk = on_frame f answers (present_at at e.talk); unread = drop n e.unread; place = at_most_64 (e.place + n) }) (same-frame f answers (present_at at e.talk) (same-moment at e.talk h))
  on-row at More answers e h = h
  on-row at (TooLarge n) answers e h = on-rule at (misread (misreads.TooLarge n)) e (same-misread (misreads.TooLarge n)) h
  on-row at (BadHeartbeat n) answers e h = on-rule at (misread (misreads.BadHeartbeat n)) e (same-misread (misreads.BadHeartbeat n)) h
  on-row at Bad answers e h = on-rule at (misread (misreads.Bad e.place)) e (same-misread (misreads.Bad e.place)) h
  on-row at ReadNoMemory answers e h = on-rule at (misread (misreads.Bad e.place)) e (same-misread (misreads.Bad e.place)) h

  on-commits : (e : Engine) → SameOn e → SameOn (commit_all e)
  on-commits e h = commits-keep (λ (y : Engine). y.talk.config) (λ y q ms bytes. refl) (frames_waiting e.talk) e ∙ h

  on-wrote : (at : ℕ) (w : Wrote) (e : Engine) → SameOn e → SameOn (wrote at w e)
  on-wrote at (Took n) e h = on-settle (record e { talk = taken n (present_at at e.talk); unsent = drop n e.unsent }) (taken-keeps made all n (present_at at e.talk) ∙ same-moment at e.talk h)
  on-wrote at Failed e h = on-rule at (lost BrokenPipe) e (same-lost BrokenPipe) h
  on-wrote at NoMemory e h = on-settle (record e { talk = taken 0 (present_at at e.talk); unsent = drop 0 e.unsent }) (taken-keeps made all 0 (present_at at e.talk) ∙ same-moment at e.talk h)

  on-overlong : (size : ℕ) (e : Engine) → SameOn e → SameOn (ended_overlong (Some size) e)
  on-overlong size e h = on-settle (with_talk (end_overlong (Some size)) (commit_all e)) (same-lose (SerialisationError size) (commit_all e).talk (on-commits e h))

  on-starve : (at j : ℕ) (e : Engine) → SameOn e → SameOn (starve_at at j e)
  on-starve at j e h =
      let t = present_at at e.talk in
      if_case Same (has_ended t) t (fail MemoryError t) (same-moment at e.talk h) (same-moment at e.talk h)

  -- ---- a turn

  abbrev nothing_asked : Engine → Unit {0} → Unit {0}
  nothing_asked e x = x

  abbrev nothing_stepped : ℕ → Step → List ℕ → Engine → Unit {0} → Unit {0}
  nothing_stepped at step bytes e x = x

  abbrev nothing_offered : Wrote → Progress → Unit {0} → Unit {0}
  nothing_offered w p x = x

  abbrev Stays : Engine → Unit {0} → Type 0
  Stays e x = SameOn e

  small : lifting.Simple (Unit {0}) nothing_asked nothing_stepped nothing_offered Stays
  small =
      record {
        asked = λ e x h. on-asks e h;
        step = λ at step bytes answers e x running h. on-step at step bytes answers e h;
        read = λ at answers e x can h. on-row at (front_of e) answers e h;
        offer = λ w p x can fits h. on-wrote p.at w (commit_all p.engine) (on-commits p.engine h);
        overlong = λ size e x is h. on-overlong size e h;
        starve = λ at j e x h. on-starve at j e h;
        cut = λ at step bytes e x running part h. on-starve at 0 e h;
      }

  pub on-applied : (u : Turn) (e : Engine) → has_ended e.talk ≡ false → IsApplied u e → SameOn e → SameOn (applied u e)
  on-applied u e running may h =
      lifting.lift-applied (Unit {0}) nothing_asked nothing_stepped nothing_offered Stays (λ b. Stays) Stays
      (lifting.simply (Unit {0}) nothing_asked nothing_stepped nothing_offered Stays small) u e tt running may h

  pub on-command : (d : Cmd) (e : Engine) → SameOn e → SameOn (with_talk (command d) e)
  on-command d e h = same-command d e.talk h

  pub on-answer : (number : ℕ) (e : Engine) → SameOn e → SameOn (with_talk (take_answer number) e)
  on-answer number e h = if_case Same (is_some (answer_of number e.talk)) (record e.talk { promises = without number e.talk.promises }) e.talk h h

  pub on-event : (e : Engine) → SameOn e → SameOn (with_talk take_event e)
  on-event e h = event-case Same e.talk (λ noted. h) h
