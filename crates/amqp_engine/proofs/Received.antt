-- What holds of the octets that come holds of those that are unread, through each small step of a turn.
use Rattle.std.proofs.Common.{ℕ, ◌+◌, List, [], ◌++◌, drop, Some, refl, sym, subst}
use Rattle.amqp_frame.specs.declared.frame.Read.{Read}
use Rattle.amqp_frame.specs.declared.frame.Read.TheVariants.{Whole, More, TooLarge, BadHeartbeat, Bad, NoMemory as ReadNoMemory}
use Rattle.amqp_promise.specs.declared.io_fault.IoFault.TheVariants.{Aborted, Reset, BrokenPipe}
use Rattle.amqp_violations.specs.declared.misread.Misread.TheVariants as misreads
use Rattle.amqp_auth.specs.declared.asked.Asked.{Asked as ProviderAnswer}
use Rattle.amqp_rules.specs.Talk.{is_open, is_asked}
use Rattle.amqp_rules.specs.Changes.{present_at}
use Rattle.amqp_rules.specs.Links.{asked, linked, link_failed, piece, misread, lost}
use Rattle.amqp_rules.specs.Ticks.{tick}
use Rattle.amqp_rules.specs.Frames.{on_frame}
use Rattle.amqp_rules.specs.Writing.{frames_waiting, end_overlong, taken}
use Rattle.amqp_engine.specs.declared.port.Step.{Step}
use Rattle.amqp_engine.specs.declared.port.Step.TheVariants.{Linked, LinkFailed, Piece, End, Fault, Room, Tick, Command}
use Rattle.amqp_engine.specs.declared.port.Wrote.{Wrote}
use Rattle.amqp_engine.specs.declared.port.Wrote.TheVariants.{Took, Failed, NoMemory}
use Rattle.amqp_engine.specs.Plan.{at_most_64}
use Rattle.amqp_engine.specs.Engine.{Engine, with_talk, rule_at, step_engine, read_row, settle, wrote, commit_all, ended_overlong}
use Rattle.amqp_engine.specs.Turn.{asks, wants_ask, answered}
use Rattle.amqp_engine.specs.Making.{keeps_unread}
use Rattle.amqp_types.proofs.Small.{if_case}
use Rattle.amqp_engine.proofs.Settling.{settle-unread}
use Rattle.amqp_engine.proofs.Commits.{commits-keep}

module _ (Octets : List ℕ → Type 0) (nothing : Octets []) (joins : (xs ys : List ℕ) → Octets xs → Octets ys → Octets (xs ++ ys))
    (leaves : (n : ℕ) (xs : List ℕ) → Octets xs → Octets (drop n xs)) where
  octets-settle : (e : Engine) → Octets e.unread → Octets (settle e).unread
  octets-settle e h = subst Octets (sym (settle-unread e)) (if_case Octets (keeps_unread e.talk) e.unread [] h nothing)

  pub octets-asks : (e : Engine) → Octets e.unread → Octets (asks e).unread
  octets-asks e h = if_case (λ (x : Engine). Octets x.unread) (wants_ask e) (with_talk asked e) e h h

  pub octets-step : (at : ℕ) (step : Step) (bytes : List ℕ) (answers : List ProviderAnswer) (e : Engine) → Octets bytes → Octets e.unread
      → Octets (step_engine at step bytes answers e).unread
  octets-step at Linked bytes answers e came h =
      if_case (λ (x : Engine). Octets x.unread) (is_asked e.talk)
      (record { talk = linked (present_at at e.talk); unread = []; place = 0; unsent = []; starved = e.starved }) (rule_at at (λ t. t) e) nothing h
  octets-step at LinkFailed bytes answers e came h = octets-settle (rule_at at link_failed e) h
  octets-step at (Piece n) bytes answers e came h =
      let x : Engine = record e { talk = piece (present_at at e.talk); unread = e.unread ++ bytes } in
      if_case (λ (y : Engine). Octets y.unread) (is_open e.talk) (settle x) (rule_at at (λ t. t) e) (octets-settle x (joins e.unread bytes h came)) h
  octets-step at End bytes answers e came h = octets-settle (rule_at at (lost Aborted) e) h
  octets-step at Fault bytes answers e came h = octets-settle (rule_at at (lost Reset) e) h
  octets-step at Room bytes answers e came h = h
  octets-step at Tick bytes answers e came h = octets-settle (rule_at at (tick answers) e) h
  octets-step at (Command c) bytes answers e came h = h

  pub octets-row : (at : ℕ) (r : Read) (answers : List ProviderAnswer) (e : Engine) → Octets e.unread → Octets (read_row at r answers e).unread
  octets-row at (Whole f n) answers e h =
      octets-settle (record e { talk = on_frame f answers (present_at at e.talk); unread = drop n e.unread; place = at_most_64 (e.place + n) }) (leaves n e.unread h)
  octets-row at More answers e h = h
  octets-row at (TooLarge n) answers e h = octets-settle (rule_at at (misread (misreads.TooLarge n)) e) h
  octets-row at (BadHeartbeat c) answers e h = octets-settle (rule_at at (misread (misreads.BadHeartbeat c)) e) h
  octets-row at Bad answers e h = octets-settle (rule_at at (misread (misreads.Bad e.place)) e) h
  octets-row at ReadNoMemory answers e h = octets-settle (rule_at at (misread (misreads.Bad e.place)) e) h

  octets-commits : (e : Engine) → Octets e.unread → Octets (commit_all e).unread
  octets-commits e h = subst Octets (sym (commits-keep (λ (y : Engine). y.unread) (λ y fs ms bytes. refl) (frames_waiting e.talk) e)) h

  octets-wrote : (at : ℕ) (w : Wrote) (e : Engine) → Octets e.unread → Octets (wrote at w e).unread
  octets-wrote at (Took n) e h = octets-settle (record e { talk = taken n (present_at at e.talk); unsent = drop n e.unsent }) h
  octets-wrote at Failed e h = octets-settle (rule_at at (lost BrokenPipe) e) h
  octets-wrote at NoMemory e h = octets-settle (record e { talk = taken 0 (present_at at e.talk); unsent = drop 0 e.unsent }) h

  pub octets-answered : (at : ℕ) (w : Wrote) (e : Engine) → Octets e.unread → Octets (answered at w e).unread
  octets-answered at w e h = octets-wrote at w (commit_all e) (octets-commits e h)

  pub octets-overlong : (size : ℕ) (e : Engine) → Octets e.unread → Octets (ended_overlong (Some size) e).unread
  octets-overlong size e h = octets-settle (with_talk (end_overlong (Some size)) (commit_all e)) (octets-commits e h)
