-- Two engines whose sessions are tied: each part of a turn keeps that, and so does a turn.
use Rattle.std.proofs.Common.{◌≡◌, ℕ, zero, suc, ◌+◌, ◌-◌, ◌==◌, ◌&&◌, not, nat_lt, Bool, true, false, IsTrue, IsFalse, MatchBool, if◌then◌else◌, List, [], ◌∷◌, ◌++◌, drop, length, Option, Some, None, is_some, refl, ap, sym, ◌∙◌, subst}
use Rattle.amqp_frame.specs.declared.frame.Frame.{Frame}
use Rattle.amqp_frame.specs.declared.frame.Frame.TheVariants.{ProtocolHeader, Method, Raw, Heartbeat}
use Rattle.amqp_frame.specs.declared.frame.Read.{Read}
use Rattle.amqp_frame.specs.declared.frame.Read.TheVariants as reading
use Rattle.amqp_frame.specs.Frames.{encoding}
use Rattle.amqp_outbox.specs.declared.item.Item.{Item}
use Rattle.amqp_promise.specs.declared.io_fault.IoFault.TheVariants.{Aborted, Reset, BrokenPipe}
use Rattle.amqp_violations.specs.declared.misread.Misread.{Misread}
use Rattle.amqp_violations.specs.declared.misread.Misread.TheVariants.{TooLarge, BadHeartbeat, Bad}
use Rattle.amqp_auth.specs.declared.asked.Question.{Question}
use Rattle.amqp_auth.specs.declared.asked.Question.TheVariants as question
use Rattle.amqp_auth.specs.declared.asked.Asked.{Asked}
use Rattle.amqp_auth.specs.declared.asked.Asked.TheVariants as answer
use Rattle.amqp_commands.specs.declared.command.Cmd.{Cmd}
use Rattle.amqp_settings.specs.Config.{Config}
use Rattle.amqp_rules.specs.Talk.{Talk, is_open, is_asked, has_ended, drops_input, acts}
use Rattle.amqp_rules.specs.Changes.{present_at, starve}
use Rattle.amqp_rules.specs.Links.{asked, linked, link_failed, piece, misread, lost}
use Rattle.amqp_rules.specs.Frames.{on_frame, frame_questions, questions_in}
use Rattle.amqp_rules.specs.Ticks.{beat, tick, asks_validity, secret_questions, refresh_questions, tick_questions}
use Rattle.amqp_rules.specs.Commands.{command}
use Rattle.amqp_rules.specs.Writing.{frames_waiting, commit, overlong, end_overlong, taken}
use Rattle.amqp_engine.specs.declared.port.Step.{Step}
use Rattle.amqp_engine.specs.declared.port.Step.TheVariants.{Linked, LinkFailed, Piece, End, Fault, Room, Tick, Command}
use Rattle.amqp_engine.specs.declared.port.Wrote.{Wrote}
use Rattle.amqp_engine.specs.declared.port.Wrote.TheVariants.{Took, Failed, NoMemory}
use Rattle.amqp_engine.specs.Log.{TookAtMost}
use Rattle.amqp_engine.specs.Plan.{at_most_64}
use Rattle.amqp_engine.specs.Engine.{Engine, with_talk, rule_at, settle, step_linked, step_piece, step_engine, step_questions, front_of, can_read, read_badly, read_row, read_one, row_questions, read_questions, fitting_next, committed_with_bytes, commit_one, commits, commit_all, overlong_next, ended_overlong, refuse_overlong, can_write, took, wrote, starve_at}
use Rattle.amqp_engine.specs.Turn.{Turn, write_answers, wants_ask, asks, Progress, begun, goes, part, questioned, is_part, step_part, read_part, reads, is_piece, reading as heard, offered, answered, offer_part, closing, is_all, drained, AreAnswers, IsCut, IsAnswered, IsApplied, read, after_writes, starved_after, applied, turn, turns, cut_questions, is_before}
use Rattle.amqp_journal.specs.Untaken.{Untaken, untaken, with_untaken, IsClosed, Tied}
use Rattle.amqp_journal.specs.Journal.{TiedEngines}
use Rattle.amqp_journal.proofs.Tied as talk

-- the engine with other untaken parts
abbrev pub left : Untaken → Engine → Engine
left u e = record e { talk = with_untaken u e.talk }

-- the same of a turn in the making
abbrev pub left_in : Untaken → Progress → Progress
left_in u p = record p { engine = left u p.engine }

-- two turns in the making that are alike but for that
record TiedTurns (R : ℕ → Config → Untaken → Untaken → Type 0) (p q : Progress) : Type 0 where
  pub same : q ≡ record p { engine = q.engine }
  pub engine : TiedEngines R p.engine q.engine

module _ (R : ℕ → Config → Untaken → Untaken → Type 0) (k : IsClosed R) where
  -- a change of an engine keeps it
  abbrev pub Keeps : (Engine → Engine) → Type 0
  Keeps rule = (e : Engine) (u : Untaken) → R e.talk.made e.talk.config (untaken e.talk) u → TiedEngines R (rule e) (rule (left u e))

  pub tie : (e : Engine) (u : Untaken) → R e.talk.made e.talk.config (untaken e.talk) u → TiedEngines R e (left u e)
  tie e u r = record { same = refl; talk = talk.tie R k e.talk u r }

  is-left : (e x : Engine) → TiedEngines R e x → x ≡ left (untaken x.talk) e
  is-left e x h = h.same ∙ ap (λ (t : Talk). record e { talk = t }) h.talk.same

  pub on : (rule : Engine → Engine) → Keeps rule → (e x : Engine) → TiedEngines R e x → TiedEngines R (rule e) (rule x)
  on rule keeps e x h =
      let P : Engine → Type 0 = λ y. TiedEngines R (rule e) (rule y) in
      subst P (sym (is-left e x h)) (keeps e (untaken x.talk) h.talk.parts)

  -- what does not look at what was taken is the same
  pub look : {A : Type 0} (g : Engine → A) → ((e : Engine) (u : Untaken) → g (left u e) ≡ g e) → (e x : Engine) → TiedEngines R e x → g x ≡ g e
  look g h e x tied = ap g (is-left e x tied) ∙ h e (untaken x.talk)

  look-talk : {A : Type 0} (g : Talk → A) → ((f : Talk) (u : Untaken) → g (with_untaken u f) ≡ g f) → (f t : Talk) → Tied R f t → g t ≡ g f
  look-talk g h f t tied = ap g tied.same ∙ h f (untaken t)

  either : (b : Bool) (x y x' y' : Engine) → TiedEngines R x x' → TiedEngines R y y' → TiedEngines R (if b then x else y) (if b then x' else y')
  either true x y x' y' h g = h
  either false x y x' y' h g = g

  -- the session changes
  alike : (e : Engine) (t : Talk) → Tied R e.talk t → TiedEngines R e (record e { talk = t })
  alike e t h = record { same = refl; talk = h }

  -- a rule at a moment
  moved : (rule : Talk → Talk) → talk.Keeps R k rule → (now : ℕ) (f : Talk) (u : Untaken) → R f.made f.config (untaken f) u
      → Tied R (rule (present_at now f)) (rule (present_at now (with_untaken u f)))
  moved rule keeps now f u r = talk.on R k rule keeps (present_at now f) (present_at now (with_untaken u f)) (talk.of-moment R k now f u r)

  of-rule-at : (now : ℕ) (rule : Talk → Talk) → talk.Keeps R k rule → Keeps (rule_at now rule)
  of-rule-at now rule keeps e u r = alike (rule_at now rule e) (rule (present_at now (with_untaken u e.talk))) (moved rule keeps now e.talk u r)

  of-settle : Keeps settle
  of-settle e u r =
      either (is_open e.talk) _ _ _ _
      (either (drops_input e.talk) (record e { unread = []; place = 0 }) e (record (left u e) { unread = []; place = 0 }) (left u e)
      (tie (record e { unread = []; place = 0 }) u r) (tie e u r))
      (tie (record e { unread = []; place = 0; unsent = [] }) u r)

  -- ---- the step

  idle : talk.Keeps R k (λ t. t)
  idle f u r = talk.tie R k f u r

  of-linked : (now : ℕ) → Keeps (step_linked now)
  of-linked now e u r =
      let x : Engine = record { talk = linked (present_at now e.talk); unread = []; place = 0; unsent = []; starved = e.starved } in
      either (is_asked e.talk) x (rule_at now (λ t. t) e) _ _
      (alike x (linked (present_at now (with_untaken u e.talk))) (moved linked (talk.of-linked R k) now e.talk u r))
      (of-rule-at now (λ t. t) idle e u r)

  settled : (now : ℕ) (rule : Talk → Talk) → talk.Keeps R k rule → Keeps (λ e. settle (rule_at now rule e))
  settled now rule keeps e u r = on settle of-settle (rule_at now rule e) (rule_at now rule (left u e)) (of-rule-at now rule keeps e u r)

  of-piece : (now : ℕ) (bytes : List ℕ) → Keeps (step_piece now bytes)
  of-piece now bytes e u r =
      let x : Engine = record e { talk = piece (present_at now e.talk); unread = e.unread ++ bytes } in
      let y : Engine = record x { talk = piece (present_at now (with_untaken u e.talk)) } in
      either (is_open e.talk) (settle x) (rule_at now (λ t. t) e) (settle y) _
      (on settle of-settle x y (alike x (piece (present_at now (with_untaken u e.talk))) (moved piece (talk.of-piece R k) now e.talk u r)))
      (of-rule-at now (λ t. t) idle e u r)

  pub of-step : (now : ℕ) (step : Step) (bytes : List ℕ) (answers : List Asked) → Keeps (step_engine now step bytes answers)
  of-step now Linked bytes answers e u r = of-linked now e u r
  of-step now LinkFailed bytes answers e u r = settled now link_failed (talk.of-link-failed R k) e u r
  of-step now (Piece n) bytes answers e u r = of-piece now bytes e u r
  of-step now End bytes answers e u r = settled now (lost Aborted) (talk.of-lost R k Aborted) e u r
  of-step now Fault bytes answers e u r = settled now (lost Reset) (talk.of-lost R k Reset) e u r
  of-step now Room bytes answers e u r = of-rule-at now (λ t. t) idle e u r
  of-step now Tick bytes answers e u r = settled now (tick answers) (talk.of-tick R k answers) e u r
  of-step now (Command c) bytes answers e u r = of-rule-at now (command c) (talk.of-command R k c) e u r

  -- ---- reading

  of-badly : (now : ℕ) (why : Misread) → Keeps (read_badly now why)
  of-badly now why e u r = settled now (misread why) (talk.of-misread R k why) e u r

  of-row : (now : ℕ) (row : Read) (answers : List Asked) → Keeps (read_row now row answers)
  of-row now (reading.Whole f n) answers e u r =
      let x : Engine = record e { talk = on_frame f answers (present_at now e.talk); unread = drop n e.unread; place = at_most_64 (e.place + n) } in
      let t : Talk = on_frame f answers (present_at now (with_untaken u e.talk)) in
      on settle of-settle x (record x { talk = t }) (alike x t (moved (on_frame f answers) (talk.of-frame R k f answers) now e.talk u r))
  of-row now (reading.TooLarge size) answers e u r = of-badly now (TooLarge size) e u r
  of-row now (reading.BadHeartbeat channel) answers e u r = of-badly now (BadHeartbeat channel) e u r
  of-row now reading.More answers e u r = tie e u r
  of-row now reading.Bad answers e u r = of-badly now (Bad e.place) e u r
  of-row now reading.NoMemory answers e u r = of-badly now (Bad e.place) e u r

  of-read-one : (now : ℕ) (answers : List Asked) → Keeps (read_one now answers)
  of-read-one now answers e u r = of-row now (front_of e) answers e u r

  -- ---- writing

  of-committed-as : (o : Option Item) → Keeps (committed_with_bytes o)
  of-committed-as None e u r = tie e u r
  of-committed-as (Some item) e u r =
      let space : ℕ = e.talk.capacity - length e.unsent in
      alike (committed_with_bytes (Some item) e) (commit space (with_untaken u e.talk)) (talk.of-commit R k space e.talk u r)

  of-commit-one : Keeps commit_one
  of-commit-one e u r = of-committed-as (fitting_next e) e u r

  of-commits : (n : ℕ) → Keeps (commits n)
  of-commits zero e u r = tie e u r
  of-commits (suc n) e u r = on (commits n) (of-commits n) (commit_one e) (commit_one (left u e)) (of-commit-one e u r)

  of-commit-all : Keeps commit_all
  of-commit-all e u r = of-commits (frames_waiting e.talk) e u r

  same-overlong : (e : Engine) (u : Untaken) → R e.talk.made e.talk.config (untaken e.talk) u → overlong_next (left u e) ≡ overlong_next e
  same-overlong e u r = look (λ (x : Engine). overlong x.talk) (λ x v. refl) (commit_all e) (commit_all (left u e)) (of-commit-all e u r)

  same-offered : (e : Engine) (u : Untaken) → R e.talk.made e.talk.config (untaken e.talk) u → offered (left u e) ≡ offered e
  same-offered e u r = look (λ (x : Engine). x.unsent) (λ x v. refl) (commit_all e) (commit_all (left u e)) (of-commit-all e u r)

  same-can-write : (e : Engine) (u : Untaken) → R e.talk.made e.talk.config (untaken e.talk) u → can_write (left u e) ≡ can_write e
  same-can-write e u r =
      ap (λ (o : Option ℕ). is_open e.talk && (not e.talk.blocked && (not (is_some o) && nat_lt 0 (length (offered (left u e)))))) (same-overlong e u r)
      ∙ ap (λ (bs : List ℕ). is_open e.talk && (not e.talk.blocked && (not (is_some (overlong_next e)) && nat_lt 0 (length bs)))) (same-offered e u r)

  of-ended-overlong : (o : Option ℕ) → Keeps (ended_overlong o)
  of-ended-overlong None e u r = tie e u r
  of-ended-overlong (Some size) e u r =
      let rule : Engine → Engine = with_talk (end_overlong (Some size)) in
      let keeps : Keeps rule = λ x v s. alike (rule x) (end_overlong (Some size) (with_untaken v x.talk)) (talk.of-overlong R k (Some size) x.talk v s) in
      on settle of-settle _ _ (on rule keeps (commit_all e) (commit_all (left u e)) (of-commit-all e u r))

  of-refuse : Keeps refuse_overlong
  of-refuse e u r =
      let P : Option ℕ → Type 0 = λ o. TiedEngines R (refuse_overlong e) (ended_overlong o (left u e)) in
      subst P (sym (same-overlong e u r)) (of-ended-overlong (overlong_next e) e u r)

  of-took : (now n : ℕ) → Keeps (took now n)
  of-took now n e u r =
      let x : Engine = record e { talk = taken n (present_at now e.talk); unsent = drop n e.unsent } in
      let t : Talk = taken n (present_at now (with_untaken u e.talk)) in
      on settle of-settle x (record x { talk = t }) (alike x t (moved (taken n) (talk.of-taken R k n) now e.talk u r))

  of-wrote : (now : ℕ) (w : Wrote) → Keeps (wrote now w)
  of-wrote now Failed e u r = settled now (lost BrokenPipe) (talk.of-lost R k BrokenPipe) e u r
  of-wrote now (Took n) e u r = of-took now n e u r
  of-wrote now NoMemory e u r = of-took now 0 e u r

  of-answered : (now : ℕ) (w : Wrote) → Keeps (answered now w)
  of-answered now w e u r = on (wrote now w) (of-wrote now w) (commit_all e) (commit_all (left u e)) (of-commit-all e u r)

  of-starve : (now j : ℕ) → Keeps (starve_at now j)
  of-starve now j e u r = alike (starve_at now j e) (starve (present_at now (with_untaken u e.talk))) (moved starve (talk.of-starve R k) now e.talk u r)

  pub of-asks : Keeps asks
  of-asks e u r =
      either (wants_ask e) (with_talk asked e) e (with_talk asked (left u e)) (left u e)
      (alike (with_talk asked e) (asked (with_untaken u e.talk)) (talk.of-asked R k e.talk u r)) (tie e u r)

  pub of-told : (c : Cmd) → Keeps (with_talk (command c))
  of-told c e u r = alike (with_talk (command c) e) (command c (with_untaken u e.talk)) (talk.of-command R k c e.talk u r)

  -- ---- a turn in the making

  abbrev KeepsTurn : (Progress → Progress) → Type 0
  KeepsTurn rule = (p : Progress) (u : Untaken) → R p.engine.talk.made p.engine.talk.config (untaken p.engine.talk) u → TiedTurns R (rule p) (rule (left_in u p))

  made : (p : Progress) (x : Engine) → TiedEngines R p.engine x → TiedTurns R p (record p { engine = x })
  made p x h = record { same = refl; engine = h }

  tie-in : (p : Progress) (u : Untaken) → R p.engine.talk.made p.engine.talk.config (untaken p.engine.talk) u → TiedTurns R p (left_in u p)
  tie-in p u r = made p (left u p.engine) (tie p.engine u r)

  is-left-in : (p q : Progress) → TiedTurns R p q → q ≡ left_in (untaken q.engine.talk) p
  is-left-in p q h = h.same ∙ ap (λ (x : Engine). record p { engine = x }) (is-left p.engine q.engine h.engine)

  on-turn : (rule : Progress → Progress) → KeepsTurn rule → (p q : Progress) → TiedTurns R p q → TiedTurns R (rule p) (rule q)
  on-turn rule keeps p q h =
      let P : Progress → Type 0 = λ y. TiedTurns R (rule p) (rule y) in
      subst P (sym (is-left-in p q h)) (keeps p (untaken q.engine.talk) h.engine.talk.parts)

  either-in : (b b' : Bool) (x y x' y' : Progress) → b' ≡ b → TiedTurns R x x' → TiedTurns R y y' → TiedTurns R (if b then x else y) (if b' then x' else y')
  either-in true true x y x' y' is h g = h
  either-in false false x y x' y' is h g = g
  either-in true false x y x' y' is h g = absurd cc
  either-in false true x y x' y' is h g = absurd cc

  -- what is asked is the same
  same-frame-questions : (x : Frame) (f : Talk) (u : Untaken) → frame_questions x (with_untaken u f) ≡ frame_questions x f
  same-frame-questions (ProtocolHeader v) f u = refl
  same-frame-questions (Method zero m) f u = refl
  same-frame-questions (Method (suc n) m) f u = refl
  same-frame-questions (Raw n kind bytes) f u = refl
  same-frame-questions Heartbeat f u = refl

  same-row-questions : (now : ℕ) (row : Read) (e : Engine) (u : Untaken) → R e.talk.made e.talk.config (untaken e.talk) u → row_questions now row (left u e) ≡ row_questions now row e
  same-row-questions now (reading.Whole f n) e u r =
      look-talk (frame_questions f) (same-frame-questions f) (present_at now e.talk) (present_at now (with_untaken u e.talk)) (talk.of-moment R k now e.talk u r)
  same-row-questions now (reading.TooLarge size) e u r = refl
  same-row-questions now (reading.BadHeartbeat channel) e u r = refl
  same-row-questions now reading.More e u r = refl
  same-row-questions now reading.Bad e u r = refl
  same-row-questions now reading.NoMemory e u r = refl

  same-refresh-questions : (answers : List Asked) (f : Talk) (u : Untaken) → refresh_questions answers (with_untaken u f) ≡ refresh_questions answers f
  same-refresh-questions (answer.ValidFor None ∷ later) f u = refl
  same-refresh-questions (answer.ValidFor (Some time) ∷ later) f u = refl
  same-refresh-questions _ f u = refl

  same-secret-questions : (answers : List Asked) (f : Talk) (u : Untaken) → secret_questions answers (with_untaken u f) ≡ secret_questions answers f
  same-secret-questions answers f u =
      ap (λ (qs : List Question). if asks_validity f then question.ValidFor ∷ qs else []) (same-refresh-questions answers f u)

  same-step-questions : (now : ℕ) (step : Step) (answers : List Asked) (e : Engine) (u : Untaken) → R e.talk.made e.talk.config (untaken e.talk) u
      → step_questions now step answers (left u e) ≡ step_questions now step answers e
  same-step-questions now Tick answers e u r =
      look-talk (secret_questions answers) (same-secret-questions answers) (beat (present_at now e.talk)) (beat (present_at now (with_untaken u e.talk)))
      (moved beat (talk.of-beat R k) now e.talk u r)
  same-step-questions now step answers e u r = refl

  same-part : (step : Step) (e : Engine) (u : Untaken) → is_part step (left u e) ≡ is_part step e
  same-part Linked e u = refl
  same-part LinkFailed e u = refl
  same-part (Piece n) e u = refl
  same-part End e u = refl
  same-part Fault e u = refl
  same-part Room e u = refl
  same-part Tick e u = refl
  same-part (Command c) e u = refl

  -- a part, with what was asked
  parted : (p : Progress) (u : Untaken) (qs qs' : List Question) (x x' : Engine) → qs' ≡ qs → TiedEngines R x x'
      → TiedTurns R (part x (questioned qs p)) (part x' (questioned qs' (left_in u p)))
  parted p u qs qs' x x' is h =
      let P : List Question → Type 0 = λ rs. TiedTurns R (part x (questioned qs p)) (part x' (questioned rs (left_in u p))) in
      subst P (sym is) (made (part x (questioned qs p)) x' h)

  of-step-part : (step : Step) (bytes : List ℕ) → KeepsTurn (step_part step bytes)
  of-step-part step bytes p u r =
      let x : Engine = step_engine p.at step bytes p.answers p.engine in
      let x' : Engine = step_engine p.at step bytes p.answers (left u p.engine) in
      let h : TiedEngines R x x' = of-step p.at step bytes p.answers p.engine u r in
      either-in (is_part step p.engine) (is_part step (left u p.engine)) _ (record p { engine = x }) _ (record p { engine = x' }) (same-part step p.engine u)
      (either-in (goes p) (goes p) _ p _ (left_in u p) refl
      (parted p u _ _ x x' (same-step-questions p.at step p.answers p.engine u r) h) (tie-in p u r))
      (made (record p { engine = x }) x' h)

  of-read-part : KeepsTurn read_part
  of-read-part p u r = parted p u _ _ _ _ (same-row-questions p.at (front_of p.engine) p.engine u r) (of-read-one p.at p.answers p.engine u r)

  of-reads : (most : ℕ) → KeepsTurn (reads most)
  of-reads zero p u r = tie-in p u r
  of-reads (suc most) p u r =
      either-in (goes p && can_read p.engine) (goes p && can_read p.engine) (reads most (read_part p)) p (reads most (read_part (left_in u p))) (left_in u p) refl
      (on-turn (reads most) (of-reads most) (read_part p) (read_part (left_in u p)) (of-read-part p u r)) (tie-in p u r)

  of-reading : (b : Bool) → KeepsTurn (heard b)
  of-reading true p u r = of-reads (length p.engine.unread) p u r
  of-reading false p u r = tie-in p u r

  of-offer : (w : Wrote) → KeepsTurn (offer_part w)
  of-offer w p u r = made (offer_part w p) (answered p.at w (left u p.engine)) (of-answered p.at w p.engine u r)

  of-closing : KeepsTurn closing
  of-closing p u r =
      either-in (goes p) (goes p) (record p { engine = refuse_overlong p.engine }) p (record p { engine = refuse_overlong (left u p.engine) }) (left_in u p) refl
      (made (record p { engine = refuse_overlong p.engine }) (refuse_overlong (left u p.engine)) (of-refuse p.engine u r)) (tie-in p u r)

  of-drained : (ws : List Wrote) → KeepsTurn (drained ws)
  of-drained [] p u r = of-closing p u r
  of-drained (w ∷ ws) p u r =
      either-in (is_all w (length (offered p.engine))) (is_all w (length (offered (left u p.engine)))) (drained ws (offer_part w p)) (offer_part w p)
      (drained ws (offer_part w (left_in u p))) (offer_part w (left_in u p)) (ap (λ (bs : List ℕ). is_all w (length bs)) (same-offered p.engine u r))
      (on-turn (drained ws) (of-drained ws) (offer_part w p) (offer_part w (left_in u p)) (of-offer w p u r)) (of-offer w p u r)

  -- ---- a turn

  of-read : (v : Turn) (e : Engine) (u : Untaken) → R e.talk.made e.talk.config (untaken e.talk) u → TiedTurns R (read v e) (read v (left u e))
  of-read v e u r =
      let p : Progress = begun v.at v.notes.starved v.notes.auths e in
      on-turn (heard (is_piece v.step)) (of-reading (is_piece v.step)) (step_part v.step v.bytes p) (step_part v.step v.bytes (left_in u p)) (of-step-part v.step v.bytes p u r)

  of-after_writes : (v : Turn) (e : Engine) (u : Untaken) → R e.talk.made e.talk.config (untaken e.talk) u → TiedTurns R (after_writes v e) (after_writes v (left u e))
  of-after_writes v e u r = on-turn (drained (write_answers v.notes)) (of-drained (write_answers v.notes)) (read v e) (read v (left u e)) (of-read v e u r)

  of-starved-after : (o : Option ℕ) (now : ℕ) → Keeps (starved_after o now)
  of-starved-after None now e u r = tie e u r
  of-starved-after (Some j) now e u r = of-starve now j e u r

  pub of-applied : (v : Turn) → Keeps (applied v)
  of-applied v e u r =
      let x : Engine = (after_writes v e).engine in
      let x' : Engine = (after_writes v (left u e)).engine in
      let h : TiedEngines R x x' = (of-after_writes v e u r).engine in
      either (has_ended e.talk) x (starved_after v.notes.starved v.at x) x' (starved_after v.notes.starved v.at x') h
      (on (starved_after v.notes.starved v.at) (of-starved-after v.notes.starved v.at) x x' h)

  pub of-turn : (v : Turn) → Keeps (turn v)
  of-turn v e u r = on (applied v) (of-applied v) (asks e) (asks (left u e)) (of-asks e u r)

  -- ---- what a turn may be is the same

  map-match : (b : Bool) (X X' Y : Type 0) → (X → X') → MatchBool b X Y → MatchBool b X' Y
  map-match true X X' Y f h = f h
  map-match false X X' Y f h = h

  answers-of : (ws : List Wrote) (p : Progress) (u : Untaken) → R p.engine.talk.made p.engine.talk.config (untaken p.engine.talk) u → AreAnswers ws (left_in u p) → AreAnswers ws p
  answers-of [] p u r h =
      let P : Bool → Type 0 = λ b. IsFalse (goes p && b) in
      subst P (same-can-write p.engine u r) h
  answers-of (w ∷ ws) p u r h =
      let P : Bool → Type 0 = λ b. IsTrue (goes p && b) in
      let Q : List ℕ → Type 0 = λ bs. TookAtMost (length bs) w in
      let M : List ℕ → Type 0 = λ bs. MatchBool (is_all w (length bs)) (AreAnswers ws (offer_part w (left_in u p))) (ws ≡ []) in
      let A : Progress → Type 0 = λ q. AreAnswers ws q in
      let tied : TiedTurns R (offer_part w p) (offer_part w (left_in u p)) = of-offer w p u r in
      let same : offered (left u p.engine) ≡ offered p.engine = same-offered p.engine u r in (
        subst P (same-can-write p.engine u r) h.0,
        subst Q same h.1,
        map-match (is_all w (length (offered p.engine))) _ _ _
            (λ (later : AreAnswers ws (offer_part w (left_in u p))). answers-of ws (offer_part w p) (untaken (offer_part w (left_in u p)).engine.talk) tied.engine.talk.parts (subst A (is-left-in _ _ tied) later))
            (subst M same h.2),
      )

  -- what the part asks before which it is cut
  abbrev next-of : Bool → Progress → List Question
  next-of b p = if b && can_read p.engine then read_questions p.at p.engine else []

  same-next : (b : Bool) (p : Progress) (u : Untaken) → R p.engine.talk.made p.engine.talk.config (untaken p.engine.talk) u
      → next-of b (left_in u p) ≡ next-of b p
  same-next b p u r =
      ap (λ (qs : List Question). if b && can_read p.engine then qs else []) (same-row-questions p.at (front_of p.engine) p.engine u r)

  same-cut : (v : Turn) (e : Engine) (u : Untaken) → R e.talk.made e.talk.config (untaken e.talk) u → cut_questions v (left u e) ≡ cut_questions v e
  same-cut v e u r = by (is_before v.notes.starved 0) where
    p : Progress
    p = read v e

    q : Progress
    q = read v (left u e)

    later : next-of (is_piece v.step) q ≡ next-of (is_piece v.step) p
    later =
        let tied : TiedTurns R p q = of-read v e u r in
        ap (next-of (is_piece v.step)) (is-left-in p q tied) ∙ same-next (is_piece v.step) p (untaken q.engine.talk) tied.engine.talk.parts

    by : (b : Bool)
        → (if b then next-of (is_piece v.step) q else step_questions v.at v.step v.notes.auths (left u e))
        ≡ (if b then next-of (is_piece v.step) p else step_questions v.at v.step v.notes.auths e)
    by true = later
    by false = same-step-questions v.at v.step v.notes.auths e u r

  applies-left : (v : Turn) (e : Engine) (u : Untaken) → R e.talk.made e.talk.config (untaken e.talk) u → IsApplied v (left u e) → IsApplied v e
  applies-left v e u r h =
      let tied : TiedTurns R (read v e) (read v (left u e)) = of-read v e u r in
      let A : Progress → Type 0 = λ q. AreAnswers (write_answers v.notes) q in
      let Q : List Question → Type 0 = λ qs. IsAnswered v.notes.starved qs (cut_questions v (left u e)) v.notes.auths in
      let N : List Question → Type 0 = λ qs. IsAnswered v.notes.starved (read v e).questions qs v.notes.auths in
      let C : ℕ → Type 0 = λ n. IsCut v.notes.starved n in
      record {
        answers = answers-of (write_answers v.notes) (read v e) (untaken (read v (left u e)).engine.talk) tied.engine.talk.parts (subst A (is-left-in _ _ tied) h.answers);
        asked = subst N (same-cut v e u r) (subst Q (ap (λ (q : Progress). q.questions) tied.same) h.asked);
        cut = subst C (ap (λ (q : Progress). q.done) (of-after_writes v e u r).same) h.cut;
      }

  -- a turn of the one is one of the other
  pub applies-of : (v : Turn) (e x : Engine) → TiedEngines R e x → IsApplied v x → IsApplied v e
  applies-of v e x h may =
      let A : Engine → Type 0 = λ y. IsApplied v y in
      applies-left v e (untaken x.talk) h.talk.parts (subst A (is-left e x h) may)
