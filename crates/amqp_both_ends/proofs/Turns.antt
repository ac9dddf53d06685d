-- A turn over a joined port, once the link is told: both ends stand again, or the session is over.
use Rattle.std.proofs.Common.{◌≡◌, ◌≢◌, ◌≤◌, ◌<◌, ◌⊎◌, inl, inr, ◌∙◌, ap, sym, refl, subst, ℕ, zero, suc, ◌+◌, ◌-◌, ◌==◌, ◌&&◌, not, min, if◌then◌else◌, Bool, true, false, true≢false, List, [], ◌∷◌, ◌++◌, length, length-drop, length-take, drop, take, append-nil, Option, Some, None, is_some, arith}
use Rattle.std.specs.List.{flat_map, AllByRecursion}
use Rattle.std.proofs.lemmas.Bool.Decides.{nat_tests}
use Rattle.std.proofs.lemmas.List.{drop-drop}
use Rattle.amqp_types.proofs.Small.{if_case, if-true, if-false, and-false, and-right, and-other}
use Rattle.amqp_frame.specs.declared.frame.Frame.{Frame}
use Rattle.amqp_frame.specs.declared.frame.Frame.TheVariants.{Method}
use Rattle.amqp_frame.specs.declared.method.Method.TheVariants.{CloseOk}
use Rattle.amqp_frame.specs.Frames.{encoding}
use Rattle.amqp_outbox.specs.declared.item.Item.{Item}
use Rattle.amqp_outbox.specs.Items.{items_of_groups}
use Rattle.amqp_promise.specs.declared.state.ConnectionState.{ConnectionState}
use Rattle.amqp_promise.specs.declared.state.ConnectionState.TheVariants.{Connected, Closing}
use Rattle.amqp_auth.specs.Asking.{Answer}
use Rattle.amqp_commands.specs.declared.command.Cmd.{Cmd}
use Rattle.amqp_commands.specs.declared.command.Cmd.TheVariants.{CloseConnection}
use Rattle.amqp_settings.specs.declared.configuration.Configuration.{Configuration}
use Rattle.amqp_rules.specs.declared.state.Input.{Input}
use Rattle.amqp_rules.specs.declared.state.Input.TheVariants.{Acting}
use Rattle.amqp_rules.specs.declared.state.Phase.{Phase}
use Rattle.amqp_settings.specs.Config.{Options}
use Rattle.amqp_rules.specs.Talk.{Talk, is_acting, is_open, has_ended}
use Rattle.amqp_rules.specs.Changes.{present_at}
use Rattle.amqp_rules.specs.Commands.{command, command_rule, body_limit}
use Rattle.amqp_rules.proofs.Keeping.{present-keeps}
use Rattle.amqp_legal.specs.Legal.{amqp_header}
use Rattle.amqp_legal.specs.declared.progress.Stage.TheVariants.{CloseSaid}
use Rattle.amqp_legal.specs.Decider.{Speech, greeted, say_all}
use Rattle.amqp_legal_rules.proofs.Ties.{frames_in, first_out, unpaid, IsReady, IsTied, Ties, TiesActing}
use Rattle.amqp_legal_rules.proofs.Conversing.{Now}
use Rattle.amqp_faultless.specs.Faultless.{Server, heard_from, AreSayable, is_frame_max}
use Rattle.amqp_faultless.specs.Faultless.ServerStage.{Gone}
use Rattle.amqp_faultless.proofs.Greeted.{IsMet, IsOver}
use Rattle.amqp_faultless.proofs.Limits.{met-least}
use Rattle.amqp_faultless.proofs.Tells.{met-present}
use Rattle.amqp_written_rules.specs.Sayable.{AreInRange}
use Rattle.amqp_engine.specs.declared.port.Step.{Step}
use Rattle.amqp_engine.specs.declared.port.Step.TheVariants.{Linked, Piece, Room, Tick, Command}
use Rattle.amqp_engine.specs.declared.port.Wrote.{Wrote}
use Rattle.amqp_engine.specs.declared.port.Wrote.TheVariants.{Took, Failed, NoMemory}
use Rattle.amqp_engine.specs.Plan.{Coming}
use Rattle.amqp_engine.specs.Engine.{Engine, step_engine, can_write, overlong_next, refuse_overlong}
use Rattle.amqp_engine.specs.Turn.{Turn, Progress, write_answers, asks, begun, part, questioned, is_before, goes, step_part, offered, offer_part, reads, is_piece, read, drained, after_writes, starved_after, turn, AreAnswers, IsAnswered, cut_questions, IsTurn, IsTold, IsFit, StepCanBeTold}
use Rattle.amqp_engine.specs.Valid.{agreed_frame_max}
use Rattle.amqp_engine.specs.Tell.{port_answer, offers_from, offers_of}
use Rattle.amqp_engine.specs.Sending.{Sending, frames, frames_sent, step_sending, offers_sending, turn_sending}
use Rattle.amqp_engine.proofs.Asks.{asked_in}
use Rattle.amqp_engine.proofs.Cases.{some-unsent}
use Rattle.amqp_engine.proofs.Follows.{met-asks, piece-unread}
use Rattle.amqp_engine.proofs.Hearkens.{answers-reads}
use Rattle.amqp_engine.proofs.Lifting.{stays-step, read-cut}
use Rattle.amqp_engine.proofs.Over.{over-writes, over-refuses, turn-is}
use Rattle.amqp_engine.proofs.Stepping.{part-engine, part-piece}
use Rattle.amqp_double.specs.Replies.{replies}
use Rattle.amqp_double.specs.Doubles.{DoubleState, HasAnswered}
use Rattle.amqp_owing.specs.Owed.{all_said}
use Rattle.amqp_joining.specs.Plans.{command_turns}
use Rattle.amqp_joining.specs.Joining.{Join, JoinWrites, JoinsOffers, JoinsTurn, output, comes, next_cut, next_command, roomier, sent_on, commanded, after_join_step, asked_now}
use Rattle.amqp_both_ends.proofs.Later.{later_step, after_later, IsLater, is-later, later-linked, later-full, later-told}
use Rattle.amqp_both_ends.proofs.Apart.{tails-same, open-closed}
use Rattle.amqp_both_ends.proofs.Deals.{Deals, HasClosed}
use Rattle.amqp_both_ends.proofs.Tied.{told-now}
use Rattle.amqp_both_ends.proofs.Weights.{weigh, outlay}
use Rattle.amqp_both_ends.proofs.Costs.{weight, told-weighs, last-weighs, commanded-weighs}
use Rattle.amqp_both_ends.proofs.Commanding.{IsQuiet}
use Rattle.amqp_both_ends.proofs.Outgoing.{waiting, idle-so}
use Rattle.amqp_both_ends.proofs.Writes.{said-blocked, left_frames, pending, AreNoted, first_taken, Mid}
use Rattle.amqp_both_ends.proofs.Counting.{turns_for, close_turns, untold_turns, IsCounted, counted-same, counted-piece, counted-command, IsPlaced, placed-roomier, placed-sent, placed-commanded, room-some, cut-some}
use Rattle.amqp_both_ends.proofs.Standing.{Between, Quietly, quietly, quiet-unclosed, owed-none}
use Rattle.amqp_both_ends.proofs.Moving.{Moved, room-mid, piece-mid, piece-now, Commanded, command-mid}
use Rattle.amqp_both_ends.proofs.Reading.{Kept, Over, HearsNone, HearsOne, Hears, read-reply}
use Rattle.amqp_both_ends.proofs.Turning.{offers-placed, tooks-noted, Next, after-turn}

room-ticks : Room ≡ Tick → ⊥
room-ticks h = cc

piece-ticks : (n : ℕ) → Piece n ≡ Tick → ⊥
piece-ticks n h = cc

command-ticks : (c : Cmd) → Command c ≡ Tick → ⊥
command-ticks c h = cc

-- a step that brings no link leaves what was sent
unlinked : (step : Step) (e : Engine) (ss : List Sending) → IsLater step → step_sending step e ss ≡ ss
unlinked Linked e ss l = absurd l
unlinked step e ss l = refl

-- ---- our close

closing-stage : (i : Input) (st : ConnectionState) (ph : Phase) (t : Talk) (due : ℕ → ℕ) (v : Speech) → is_acting i ≡ true → st ≡ Closing
    → Ties i st ph t.channels t.outbox.awaited due v → v.stage ≡ CloseSaid
closing-stage Acting st ph t due v acts is ties = subst (λ (x : ConnectionState). TiesActing x ph t.channels t.outbox.awaited due v) is ties
closing-stage i st ph t due v acts is ties = absurd (true≢false (sym acts))

none-ready : (v : Speech) (groups : List (List Item)) → v.stage ≡ CloseSaid → AllByRecursion (IsReady v) groups → groups ≡ []
none-ready v [] closed ready = refl
none-ready v (group ∷ groups) closed ready = absurd (open-closed (sym ready.0.speaking ∙ closed))

-- a session that is closing has said its close, or is to say it
closing-said : (t : Talk) (said : List Frame) → is_acting t.input ≡ true → t.state ≡ Closing → IsTied t (amqp_header ∷ said) → HasClosed ((amqp_header ∷ said) ++ frames (waiting t))
closing-said t said acts closing tied =
    let stage = closing-stage t.input t.state t.phase t (unpaid t.committed (first_out t.outbox)) tied.later acts closing tied.ties in
    let none : t.outbox.publish ≡ [] = none-ready tied.later t.outbox.publish stage tied.groups in
    let waits : waiting t ≡ first_out t.outbox =
    ap (λ (gs : List (List Item)). first_out t.outbox ++ items_of_groups gs) none ∙ append-nil (first_out t.outbox) in
    let same : said ++ frames_in (first_out t.outbox) ≡ tied.leads.said = tails-same amqp_header amqp_header (said ++ frames_in (first_out t.outbox)) tied.leads.said tied.leads.frames in (
      tied.later,
      ap (λ (xs : List Item). say_all (Some greeted) (said ++ frames xs)) waits ∙ ap (say_all (Some greeted)) same ∙ tied.leads.may,
      stage,
    )

-- ---- where the session is over

-- nothing more is written
none-written : (ws : List Wrote) (p : Progress) → has_ended p.engine.talk ≡ true → AreAnswers ws p → ws ≡ []
none-written [] p over may = refl
none-written (w ∷ ws) p over may =
    absurd (true≢false (sym (and-right (goes p) (can_write p.engine) may.0) ∙ over-writes p.engine over))

no-writes : (p : Progress) → has_ended p.engine.talk ≡ true → (drained [] p).engine ≡ p.engine
no-writes p over =
    if_case (λ (q : Progress). q.engine ≡ p.engine) (goes p) (record p { engine = refuse_overlong p.engine }) p (over-refuses p.engine over) refl

-- the session is over, with nothing more sent; the double has told all, and its last reply was the close-ok that it owed,
-- which came whole in this turn
pub record Ended (numbers : Configuration) (u : Turn) (e : Engine) (x : Sending) (j : Join) (s : Server) : Type 0 where
  pub over : IsOver (turn u e).talk
  pub sends : turn_sending u e (x ∷ []) ≡ x ∷ []
  pub told : output j ≡ []
  pub answered : HasAnswered (frames_sent x) j.double
  pub owed : Deals numbers (frames_sent x) [] (Method zero CloseOk ∷ []) s
  pub server : Server
  pub heard : heard_from s.stage (Method zero CloseOk) s ≡ Some server
  pub gone : server.stage ≡ Gone
  pub some : u.bytes ≢ []
  pub came : e.unread ++ u.bytes ≡ encoding (Method zero CloseOk)
  pub enough : 4096 ≤ agreed_frame_max (frames_sent x)
  pub no_tick : u.step ≡ Tick → ⊥

pub some-length : (xs : List ℕ) → not (length xs == 0) ≡ true → 0 < length xs
some-length [] h = absurd cc
some-length (x ∷ xs) h = omega arith

pub none-output : (xs : List ℕ) → not (length xs == 0) ≡ false → xs ≡ []
none-output [] h = refl
none-output (x ∷ xs) h = absurd (let some : length (x ∷ xs) ≢ 0 = omega arith in let none : length (x ∷ xs) ≡ 0 = grind (arith, nat_tests, h) in some none)

-- both ends stand after a turn, and one turn less is left: what was heard in it, and what was said then
pub record Turned (options : Options) (numbers : Configuration) (u : Turn) (e : Engine) (x : Sending) (j last : Join) (s : Server) (owed : List Frame) : Type 0 where
  pub sending : Sending
  pub heard : Server
  pub left : List Frame
  pub moved : List Frame
  pub sends : turn_sending u e (x ∷ []) ≡ sending ∷ []
  pub sent_more : frames_sent sending ≡ frames_sent x ++ moved
  pub stands : Between options numbers (turn u e) sending last (all_said moved heard) (left ++ flat_map (replies numbers) moved)
  pub hears : HearsNone s owed (e.unread ++ u.bytes) heard left (turn u e).unread ⊎ ((u.bytes ≢ []) × HearsOne s owed (e.unread ++ u.bytes) heard left (turn u e).unread)
  pub placed : IsPlaced j → IsPlaced last
  pub counts : IsPlaced j → (bound n : ℕ) → IsCounted numbers bound n e x j owed → IsCounted numbers bound (n + 1) (turn u e) sending last (left ++ flat_map (replies numbers) moved)
  pub no_tick : u.step ≡ Tick → ⊥

-- where something is to be written, and there is room, something is taken
taken-some : (ws : List Wrote) (p : Progress) (j last : Join) → p.cut ≡ None → AreNoted ws → AreAnswers ws p → JoinsOffers (offers_from ws p) j last → 1 ≤ j.room → (can_write p.engine ≡ false → ⊥)
    → 1 ≤ first_taken ws
taken-some [] p j last whole noted may joins room some =
    absurd (some (and-other (goes p) (can_write p.engine) (ap (λ c. is_before c p.done) whole) may))
taken-some (Failed ∷ ws) p j last whole noted may joins room some = absurd joins.1
taken-some (NoMemory ∷ ws) p j last whole noted may joins room some = absurd (noted.0 refl)
taken-some (Took k ∷ ws) p j last whole noted may joins room some =
    let on : goes (offer_part (Took k) p) ≡ true = ap (λ c. is_before c (p.done + 1)) whole in
    let off : (k == 0 && not (goes (offer_part (Took k) p))) ≡ false = and-false (k == 0) (not (goes (offer_part (Took k) p))) (ap not on) in
    let answer : port_answer (Took k) p ≡ Took k = ap (λ (b : Bool). if b then NoMemory else Took k) off in
    let rule : JoinWrites (offered p.engine) (Took k) j joins.0 = subst (λ (w : Wrote). JoinWrites (offered p.engine) w j joins.0) answer joins.1 in
    let least : k ≡ min j.room (length (offered p.engine)) = rule.0 in
    let can : can_write p.engine ≡ true = and-right (goes p) (can_write p.engine) may.0 in
    let long : 0 < length (offered p.engine) = some-unsent (is_open p.engine.talk) (not p.engine.talk.blocked) (not (is_some (overlong_next p.engine))) (length (offered p.engine)) can in
    omega (arith, least, room, long)

module _ (options : Options) (numbers : Configuration) (most : is_frame_max numbers.frame_max ≡ true) (range : AreInRange numbers) (u : Turn) (e : Engine) (x : Sending) (j last : Join)
    (server : Server) (rs : List Frame) (b : Between options numbers e x j server rs) (may : IsTurn u e) (told_step : IsTold u.step) (fit : IsFit u) (whole : u.notes.starved ≡ None) (sayable : AreSayable options u.notes.auths) (flag : Bool)
    (joins : JoinsTurn u e flag j last) (placed : IsPlaced j) where
  m : Mid options numbers e x j server rs
  m = b.mid

  -- the step is a later one
  stepped : later_step j ≡ record { at = u.at; step = u.step; bytes = u.bytes }
  stepped = later-told u e flag j last b.linked joins

  then_so : after_join_step (asked_now e flag) j ≡ after_later j
  then_so = if-false (asked_now e flag && not j.linked) (roomier (record j { linked = true })) (after_later j) (and-false (asked_now e flag) (not j.linked) (ap not b.linked))

  offers : JoinsOffers (offers_of u (asks e)) (after_later j) last
  offers = subst (λ (y : Join). JoinsOffers (offers_of u (asks e)) y last) then_so joins.1

  later : IsLater u.step
  later = subst (λ (c : Coming). IsLater c.step) stepped (is-later j)

  next_linked : (after_later j).linked ≡ true
  next_linked = later-linked j ∙ b.linked

  next_full : (after_later j).short ≡ false
  next_full = later-full j

  abbrev p0 : Progress
  p0 = begun u.at u.notes.starved u.notes.auths e

  abbrev p1 : Progress
  p1 = step_part u.step u.bytes p0

  abbrev e1 : Engine
  e1 = step_engine u.at u.step u.bytes u.notes.auths e

  engine1 : p1.engine ≡ e1
  engine1 = part-engine u.step u.bytes p0 whole

  here : asks e ≡ e
  here = met-asks _ e m.met

  abbrev Ready : Server → List Frame → Type 0
  Ready s qs = Next options numbers most range u e (x ∷ []) x (after_later j) last s qs

  -- both ends stand once this was read
  reads-on : (s : Server) (qs : List Frame) → Mid options numbers (read u (asks e)).engine x (after_later j) s qs → ((after_later j).closing ≡ true → HasClosed (frames_sent x ++ pending x (read u (asks e)).engine.talk))
      → Ready s qs
  reads-on s qs mid closed =
      subst (λ (ss : List Sending). Next options numbers most range u e ss x (after_later j) last s qs) b.only
      (after-turn options numbers most range u e x b.h (after_later j) last s qs b.has (unlinked u.step (asks e) b.h.sent later ∙ b.only) b.config b.read may told_step fit whole offers next_linked next_full mid closed)

  is_plain : is_piece u.step ≡ false → (read u (asks e)).engine ≡ e1
  is_plain plain =
      ap (λ (y : Engine). (read u y).engine) here ∙ ap (λ (q : Progress). q.engine) (if-false (is_piece u.step) (reads (length p1.engine.unread) p1) p1 plain) ∙ engine1

  -- where nothing is read, the writes follow
  plain-turn : (s : Server) (qs : List Frame) → is_piece u.step ≡ false → Mid options numbers e1 x (after_later j) s qs → ((after_later j).closing ≡ true → HasClosed (frames_sent x ++ pending x e1.talk)) → Ready s qs
  plain-turn s qs plain mid closed =
      reads-on s qs (subst (λ (y : Engine). Mid options numbers y x (after_later j) s qs) (sym (is_plain plain)) mid)
      (λ is_closing. subst (λ (y : Engine). HasClosed (frames_sent x ++ pending x y.talk)) (sym (is_plain plain)) (closed is_closing))

  -- it is a turn
  turned-by : (s : Server) (qs : List Frame) (n : Ready s qs) → (IsPlaced j → IsPlaced (after_later j))
      → (IsPlaced j → (bound k : ℕ) → IsCounted numbers bound k e x j rs → (k' : ℕ) × (k + 1 ≤ k' + first_taken (write_answers u.notes)) × IsCounted numbers bound k' (read u (asks e)).engine x (after_later j) qs)
      → (HearsNone server rs (e.unread ++ u.bytes) s qs (turn u e).unread ⊎ ((u.bytes ≢ []) × HearsOne server rs (e.unread ++ u.bytes) s qs (turn u e).unread)) → (u.step ≡ Tick → ⊥)
      → Turned options numbers u e x j last server rs
  turned-by s qs n places falls hears no_tick =
      record {
        sending = n.sending;
        heard = s;
        left = qs;
        moved = n.moved;
        sends = n.sends;
        sent_more = n.sent_more;
        stands = n.stands;
        hears = hears;
        placed = λ h. offers-placed (after_later j) last (offers_of u (asks e)) offers (places h);
        counts = λ h bound k c.
            (let f = falls h bound k c in
            let g = n.counts bound f.0 f.2 in
            let more = f.1 in
            omega (arith, g, more));
        no_tick = no_tick;
      }

  -- no octets come with another step than a piece
  hears-none : (qs : List Frame) → qs ≡ rs → u.bytes ≡ [] → (turn u e).unread ≡ e.unread
      → HearsNone server rs (e.unread ++ u.bytes) server qs (turn u e).unread ⊎ ((u.bytes ≢ []) × HearsOne server rs (e.unread ++ u.bytes) server qs (turn u e).unread)
  hears-none qs same none unread =
      inl (record { server = refl; owed = same; left = unread ∙ sym (ap (λ (bs : List ℕ). e.unread ++ bs) none ∙ append-nil e.unread) })

  -- what is to be said is the same where the same waits
  same-closed : (next : Join) (after : Engine) → next.closing ≡ j.closing → waiting after.talk ≡ waiting e.talk → next.closing ≡ true → HasClosed (frames_sent x ++ pending x after.talk)
  same-closed next after same waits is =
      subst (λ (xs : List Item). HasClosed (frames_sent x ++ (left_frames x ++ frames xs))) (sym waits) (b.closing (sym same ∙ is))

  -- ---- more room

  room-turn : j.short ≡ true → Turned options numbers u e x j last server rs
  room-turn short =
      let else_step = if not (length (output j) == 0) then comes (Piece (next_cut j)) (take (next_cut j) (output j)) else next_command j.commands j.closing in
      let else_join = if not (length (output j) == 0) then sent_on j else commanded j.commands j in
      let rule : comes Room [] ≡ record { at = u.at; step = u.step; bytes = u.bytes } = sym (if-true j.short (comes Room []) else_step short) ∙ stepped in
      let next : roomier j ≡ after_later j = sym (if-true j.short (roomier j) else_join short) in
      let d : Moved options numbers e (step_engine u.at Room [] u.notes.auths e) x (roomier j) server rs = room-mid options numbers u.at u.notes.auths [] e x j (roomier j) server rs refl m in
      let d1 : Moved options numbers e e1 x (roomier j) server rs = subst (λ (c : Coming). Moved options numbers e (step_engine u.at c.step c.bytes u.notes.auths e) x (roomier j) server rs) rule d in
      let d2 : Moved options numbers e e1 x (after_later j) server rs = subst (λ (y : Join). Moved options numbers e e1 x y server rs) next d1 in
      let plain : is_piece u.step ≡ false = ap (λ (c : Coming). is_piece c.step) (sym rule) in
      let unsent : e1.unsent ≡ e.unsent = sym (ap (λ (c : Coming). (step_engine u.at c.step c.bytes u.notes.auths e).unsent) rule) in
      let ready : Ready server rs = plain-turn server rs plain d2.mid (same-closed (after_later j) e1 (ap (λ (y : Join). y.closing) (sym next)) d2.waits) in
      let pends : pending x (read u (asks e)).engine.talk ≡ pending x e.talk =
      ap (λ (y : Engine). pending x y.talk) (is_plain plain) ∙ ap (λ (xs : List Item). left_frames x ++ frames xs) d2.waits in
      let idle : can_write (read u (asks e)).engine ≡ false → ⊥ =
      λ none.
      (let quiet = idle-so options e1 d2.mid.met.opened (d2.mid.met.blocked ∙ said-blocked (left_frames x) server ∙ d2.mid.free) d2.mid.modest d2.mid.flowing (ap can_write (sym (is_plain plain)) ∙ none) in
      let none_left : e.unsent ≡ [] = sym unsent ∙ quiet.unsent in
      let zero_long = ap length none_left in
      let some = b.cut short in
      omega (arith, zero_long, some)) in
      turned-by server rs ready (λ h. subst IsPlaced next (placed-roomier j h))
      (λ h bound k c.
      let room : 1 ≤ (after_later j).room = subst (λ (y : Join). 1 ≤ y.room) next (room-some j h) in
      let taken = taken-some (write_answers u.notes) (read u (asks e)) (after_later j) last (read-cut u (asks e) ∙ whole) (tooks-noted u.notes.tooks u.notes.failed) may.applied.answers offers room idle in (
        k,
        omega (arith, taken),
        counted-same numbers bound k e (read u (asks e)).engine x j (after_later j) rs pends (ap output (sym next)) (ap untold_turns (sym next)) c,
      ))
      (hears-none rs refl (sym (ap (λ (c : Coming). c.bytes) rule))
      (ready.unread ∙ ap (λ (y : Engine). y.unread) (is_plain plain) ∙ sym (ap (λ (c : Coming). (step_engine u.at c.step c.bytes u.notes.auths e).unread) rule)))
      (λ tick. room-ticks (ap (λ (c : Coming). c.step) rule ∙ tick))

  -- ---- a piece

  module _ (full : j.short ≡ false) (some : not (length (output j) == 0) ≡ true) where
    piece-rule : comes (Piece (next_cut j)) (take (next_cut j) (output j)) ≡ record { at = u.at; step = u.step; bytes = u.bytes }
    piece-rule =
        sym (if-false j.short (comes Room []) (if not (length (output j) == 0) then comes (Piece (next_cut j)) (take (next_cut j) (output j)) else next_command j.commands j.closing) full
        ∙ if-true (not (length (output j) == 0)) (comes (Piece (next_cut j)) (take (next_cut j) (output j))) (next_command j.commands j.closing) some)
        ∙ stepped

    piece-next : sent_on j ≡ after_later j
    piece-next =
        sym (if-false j.short (roomier j) (if not (length (output j) == 0) then sent_on j else commanded j.commands j) full
        ∙ if-true (not (length (output j) == 0)) (sent_on j) (commanded j.commands j) some)

    is_step : Piece (next_cut j) ≡ u.step
    is_step = ap (λ (c : Coming). c.step) piece-rule

    moved : Moved options numbers e e1 x (after_later j) server rs
    moved =
        subst (λ (y : Join). Moved options numbers e e1 x y server rs) piece-next
        (subst (λ (c : Coming). Moved options numbers e (step_engine u.at c.step c.bytes u.notes.auths e) x (sent_on j) server rs) piece-rule
        (piece-mid options numbers u.at (next_cut j) u.notes.auths e x j server rs m))

    moved1 : Moved options numbers e p1.engine x (after_later j) server rs
    moved1 = subst (λ (y : Engine). Moved options numbers e y x (after_later j) server rs) (sym engine1) moved

    closed1 : (after_later j).closing ≡ true → HasClosed (frames_sent x ++ pending x p1.engine.talk)
    closed1 = same-closed (after_later j) p1.engine (ap (λ (y : Join). y.closing) (sym piece-next)) moved1.waits

    now1 : Now p1.engine.talk (frames x.committed)
    now1 =
        subst (λ (y : Engine). Now y.talk (frames x.committed)) (sym engine1)
        (subst (λ (s : Step). Now (step_engine u.at s u.bytes u.notes.auths e).talk (frames x.committed)) is_step
        (piece-now options numbers u.at (next_cut j) u.bytes u.notes.auths e (frames x.committed) (told-now e b.h x b.has b.only m.met.opened)))

    one : p1 ≡ part (step_engine u.at (Piece (next_cut j)) u.bytes u.notes.auths e) (questioned [] p0)
    one = ap (λ (s : Step). step_part s u.bytes p0) (sym is_step) ∙ part-piece (next_cut j) u.bytes p0 whole m.met.opened

    left : p1.answers ≡ u.notes.auths
    left = ap (λ (y : Progress). y.answers) one

    whole1 : p1.cut ≡ None
    whole1 = stays-step (λ (q : Progress). q.cut) (λ f n left qs q. refl) u.step u.bytes p0 ∙ whole

    is_read : (n : ℕ) → length p1.engine.unread ≡ n → read u (asks e) ≡ reads n p1
    is_read n size =
        ap (λ (y : Engine). read u y) here
        ∙ if-true (is_piece u.step) (reads (length p1.engine.unread) p1) p1 (ap is_piece (sym is_step)) ∙ ap (λ (k : ℕ). reads k p1) size

    asked : Answer (read u (asks e)).questions u.notes.auths
    asked = subst (λ (o : Option ℕ). IsAnswered o (read u (asks e)).questions (cut_questions u (asks e)) u.notes.auths) whole may.applied.asked

    answered : (n : ℕ) → length p1.engine.unread ≡ n → Answer (asked_in n p1) p1.answers
    answered n size =
        subst (Answer (asked_in n p1)) (sym left)
        (answers-reads n p1 u.notes.auths (ap (λ (y : Progress). y.questions) one) (subst (λ (y : Progress). Answer y.questions u.notes.auths) (is_read n size) asked))

    abbrev Reads : Progress → Type 0
    Reads q = Kept options numbers server p1.engine q x (after_later j) rs ⊎ Over numbers server p1.engine q x (after_later j)

    sayable1 : AreSayable options p1.answers
    sayable1 = subst (AreSayable options) (sym left) sayable

    what-is-read : Reads (read u (asks e))
    what-is-read = by (length p1.engine.unread) refl where
      by : (n : ℕ) → length p1.engine.unread ≡ n → Reads (read u (asks e))
      by zero size = subst Reads (sym (is_read zero size)) (inl (record { server = server; rs = rs; mid = moved1.mid; closed = closed1; counts = λ bound k h. h; hears = inl (record { server = refl; owed = refl; left = refl }) }))
      by (suc n) size =
          subst Reads (sym (is_read (suc n) size))
          (read-reply options numbers n p1 x (after_later j) whole1 (omega (arith, size)) (answered (suc n) size) sayable1 now1 server rs moved1.mid closed1)

    pends1 : pending x p1.engine.talk ≡ pending x e.talk
    pends1 = ap (λ (xs : List Item). left_frames x ++ frames xs) moved1.waits

    -- the double has fewer octets to tell
    fewer : IsPlaced j → length (output (after_later j)) + 1 ≤ length (output j)
    fewer h =
        let some_long : 0 < length (output j) = some-length (output j) some in
        let one = cut-some j h some_long in
        let left_long : length (output (sent_on j)) ≡ length (output j) - next_cut j = ap length (sym (drop-drop (next_cut j) j.double.sent j.double.said)) ∙ length-drop (next_cut j) (output j) in
        let same = ap (λ (y : Join). length (output y)) (sym piece-next) in
        omega (arith, one, left_long, same, some_long)

    is_bytes : take (next_cut j) (output j) ≡ u.bytes
    is_bytes = ap (λ (c : Coming). c.bytes) piece-rule

    -- they join what was unread
    joined : p1.engine.unread ≡ e.unread ++ u.bytes
    joined =
        ap (λ (y : Progress). y.engine.unread) one ∙ piece-unread u.at u.bytes (all_said (left_frames x) server) e m.met

    -- there are some, since a cut has one at least
    least_bytes : u.bytes ≢ []
    least_bytes none =
        let least = cut-some j placed (some-length (output j) some) in
        let some_long : 0 < length (output j) = some-length (output j) some in
        let size : length u.bytes ≡ min (next_cut j) (length (output j)) = ap length (sym is_bytes) ∙ length-take (next_cut j) (output j) in
        let zero_long : length u.bytes ≡ 0 = ap length none in
        omega (arith, some_long, size, zero_long, least)

    piece-hears : (k : Kept options numbers server p1.engine (read u (asks e)) x (after_later j) rs) (n : Ready k.server k.rs)
        → HearsNone server rs (e.unread ++ u.bytes) k.server k.rs (turn u e).unread ⊎ ((u.bytes ≢ []) × HearsOne server rs (e.unread ++ u.bytes) k.server k.rs (turn u e).unread)
    piece-hears k n = by k.hears where
      by : Hears server rs p1.engine.unread k.server k.rs (read u (asks e)).engine.unread
          → HearsNone server rs (e.unread ++ u.bytes) k.server k.rs (turn u e).unread ⊎ ((u.bytes ≢ []) × HearsOne server rs (e.unread ++ u.bytes) k.server k.rs (turn u e).unread)
      by (inl h) = inl (record { server = h.server; owed = h.owed; left = n.unread ∙ h.left ∙ joined })
      by (inr h) =
          inr (least_bytes, record { r = h.r; owed = h.owed; none = h.none; heard = h.heard; spells = h.spells; came = sym joined ∙ h.came; left = n.unread ∙ h.left })

    piece-turn : Turned options numbers u e x j last server rs ⊎ Ended numbers u e x last server
    piece-turn = by what-is-read where
      by : Reads (read u (asks e)) → Turned options numbers u e x j last server rs ⊎ Ended numbers u e x last server
      by (inl k) =
          inl (turned-by k.server k.rs (reads-on k.server k.rs k.mid k.closed) (λ h. subst IsPlaced piece-next (placed-sent j h))
          (λ h bound n c.
          (n + 1, omega arith, k.counts bound (n + 1) (counted-piece numbers bound n e p1.engine x j (after_later j) rs pends1 (fewer h) (ap untold_turns (sym piece-next)) c)))
          (piece-hears k (reads-on k.server k.rs k.mid k.closed)) (λ tick. piece-ticks (next_cut j) (is_step ∙ tick)))
      by (inr o) =
          let p = read u (asks e) in
          let ws = write_answers u.notes in
          let over : has_ended p.engine.talk ≡ true = ap is_some o.over.over in
          let none : ws ≡ [] = none-written ws p over may.applied.answers in
          let same : (after_writes u (asks e)).engine ≡ p.engine = ap (λ (zs : List Wrote). (drained zs p).engine) none ∙ no-writes p over in
          let after : turn u e ≡ p.engine =
          turn-is u e may.running ∙ ap (λ o. starved_after o u.at (after_writes u (asks e)).engine) whole ∙ same in
          let end : last ≡ after_later j = subst (λ (zs : List Wrote). JoinsOffers (offers_from zs p) (after_later j) last) none offers in
          inr (record {
            over = subst (λ (y : Engine). IsOver y.talk) (sym after) o.over;
            sends = ap (λ (zs : List Wrote). offers_sending zs p (step_sending u.step (asks e) (x ∷ []))) none ∙ unlinked u.step (asks e) (x ∷ []) later;
            told = ap output end ∙ o.told;
            answered = subst (λ (y : Join). HasAnswered (frames_sent x) y.double) (sym end) moved1.mid.answered;
            owed = o.owed;
            server = o.server;
            heard = o.heard;
            gone = o.gone;
            some = least_bytes;
            came = sym joined ∙ o.came;
            enough = o.enough;
            no_tick = λ tick. piece-ticks (next_cut j) (is_step ∙ tick);
          })

  -- ---- a command

  module _ (full : j.short ≡ false) (none : not (length (output j) == 0) ≡ false) where
    empty : output j ≡ []
    empty = none-output (output j) none

    q : Quietly numbers e x server
    q = quietly options numbers e x j server rs b full empty

    -- the last close was not told, since all was answered
    never-closed : j.closing ≡ true → ⊥
    never-closed is = quiet-unclosed options numbers e x j server rs b full empty is

    command-rule : next_command j.commands j.closing ≡ record { at = u.at; step = u.step; bytes = u.bytes }
    command-rule =
        sym (if-false j.short (comes Room []) (if not (length (output j) == 0) then comes (Piece (next_cut j)) (take (next_cut j) (output j)) else next_command j.commands j.closing) full
        ∙ if-false (not (length (output j) == 0)) (comes (Piece (next_cut j)) (take (next_cut j) (output j))) (next_command j.commands j.closing) none)
        ∙ stepped

    command-next : commanded j.commands j ≡ after_later j
    command-next =
        sym (if-false j.short (roomier j) (if not (length (output j) == 0) then sent_on j else commanded j.commands j) full
        ∙ if-false (not (length (output j) == 0)) (sent_on j) (commanded j.commands j) none)

    none_pending : pending x e.talk ≡ []
    none_pending = q.pends

    -- what it queues, where so much is allowed for it
    weighs : (c : Cmd) (turns : ℕ) → ((t : Talk) → 8 ≤ body_limit t → weight numbers t c + 1 ≤ turns) → comes (Command c) [] ≡ record { at = u.at; step = u.step; bytes = u.bytes }
        → weigh (outlay numbers) (pending x (read u (asks e)).engine.talk) + 1 ≤ turns
    weighs c turns within rule =
        let t = present_at u.at e.talk in
        let met : IsMet server e.talk = subst (λ (fs : List Frame). IsMet (all_said fs server) e.talk) q.left m.met in
        let least = met-least server t (met-present u.at server e.talk met) in
        let quiet : IsQuiet t =
        record {
          begun = present-keeps (λ z. z.outbox.begun) u.at e.talk (λ n. refl) ∙ q.quiet.begun;
          control = present-keeps (λ z. z.outbox.control) u.at e.talk (λ n. refl) ∙ q.quiet.control;
          publish = present-keeps (λ z. z.outbox.publish) u.at e.talk (λ n. refl) ∙ q.quiet.publish;
        } in
        let large : 8 ≤ body_limit t = omega (arith, least) in
        let k = commanded-weighs numbers t large c turns (within t large) quiet in
        let plain : is_piece u.step ≡ false = ap (λ (y : Coming). is_piece y.step) (sym rule) in
        let pends : pending x (read u (asks e)).engine.talk ≡ frames (waiting (command c t)) =
        ap (λ (y : Engine). pending x y.talk) (is_plain plain) ∙ ap (λ (y : Coming). pending x (step_engine u.at y.step y.bytes u.notes.auths e).talk) (sym rule)
        ∙ ap (λ (fs : List Frame). fs ++ frames (waiting (command c t))) q.left in
        subst (λ (fs : List Frame). weigh (outlay numbers) fs + 1 ≤ turns) (sym pends) k

    -- this command is told
    this-command : (c : Cmd) (next : Join) → next.double ≡ j.double → comes (Command c) [] ≡ record { at = u.at; step = u.step; bytes = u.bytes } → next ≡ after_later j → (IsPlaced j → IsPlaced next)
        → (turns : ℕ) → ((t : Talk) → 8 ≤ body_limit t → weight numbers t c + 1 ≤ turns) → untold_turns next + turns ≤ untold_turns j
        → ((k : Commanded options numbers c u.at [] u.notes.auths e x next server q.said) → next.closing ≡ true → HasClosed (frames_sent x ++ pending x (step_engine u.at (Command c) [] u.notes.auths e).talk))
        → Turned options numbers u e x j last server rs
    this-command c next same rule is places turns within untold closed =
        let step : Command c ≡ u.step = ap (λ (y : Coming). y.step) rule in
        let k = command-mid options numbers c u.at [] u.notes.auths e x j next same (subst IsTold (sym step) told_step) (subst StepCanBeTold (sym step) fit.step) server rs b q empty in
        let mid : Mid options numbers e1 x (after_later j) server [] =
        subst (λ (y : Join). Mid options numbers e1 x y server []) is (subst (λ (y : Coming). Mid options numbers (step_engine u.at y.step y.bytes u.notes.auths e) x next server []) rule k.mid) in
        let plain : is_piece u.step ≡ false = ap (λ (y : Coming). is_piece y.step) (sym rule) in
        let ready : Ready server [] =
        plain-turn server [] plain mid
        (λ is_closing. subst (λ (y : Coming). HasClosed (frames_sent x ++ pending x (step_engine u.at y.step y.bytes u.notes.auths e).talk)) rule
        (closed k (ap (λ (y : Join). y.closing) is ∙ is_closing))) in
        turned-by server [] ready (λ h. subst IsPlaced is (places h))
        (λ h bound n counted. (
          n + 1,
          omega arith,
          counted-command numbers bound n turns e (read u (asks e)).engine x j (after_later j) none_pending (weighs c turns within rule) (ap (λ (y : Join). output y) (sym is) ∙ ap (λ (d : DoubleState). drop d.sent d.said) same)
              (subst (λ (y : Join). untold_turns y + turns ≤ untold_turns j) is untold)
              (subst (IsCounted numbers bound n e x j) (owed-none options numbers e x j server rs b full empty) counted),
        ))
        (hears-none [] (sym (owed-none options numbers e x j server rs b full empty)) (sym (ap (λ (y : Coming). y.bytes) rule))
        (ready.unread ∙ ap (λ (y : Engine). y.unread) (is_plain plain) ∙ sym (ap (λ (y : Coming). (step_engine u.at y.step y.bytes u.notes.auths e).unread) rule)))
        (λ tick. command-ticks c (step ∙ tick))

    -- the last one is to be said
    last-closed : (next : Join) (k : Commanded options numbers (CloseConnection 200 (79 ∷ 75 ∷ [])) u.at [] u.notes.auths e x next server q.said)
        → HasClosed (frames_sent x ++ pending x (step_engine u.at (Command (CloseConnection 200 (79 ∷ 75 ∷ []))) [] u.notes.auths e).talk)
    last-closed next k =
        let t = present_at u.at e.talk in
        let c : Cmd = CloseConnection 200 (79 ∷ 75 ∷ []) in
        let connected : t.state ≡ Connected = present-keeps (λ (z : Talk). z.state) u.at e.talk (λ n. refl) ∙ q.connected in
        let closing : (command c t).state ≡ Closing = ap (λ (st : ConnectionState). (command_rule st c t).state) connected in
        let said = closing-said (command c t) q.said k.mid.met.acting closing k.tied in
        subst (λ (fs : List Frame). HasClosed (fs ++ pending x (command c t))) (sym q.sent)
        (subst (λ (fs : List Frame). HasClosed ((amqp_header ∷ q.said) ++ (fs ++ frames (waiting (command c t))))) (sym q.left) said)

    command-turn : Turned options numbers u e x j last server rs
    command-turn = by j.commands refl j.closing refl command-rule command-next where
      by : (cs : List Cmd) → j.commands ≡ cs → (closing : Bool) → j.closing ≡ closing → next_command cs closing ≡ record { at = u.at; step = u.step; bytes = u.bytes } → commanded cs j ≡ after_later j
          → Turned options numbers u e x j last server rs
      by (c ∷ cs) are closing so rule is =
          let all : turns_for j.commands ≡ command_turns c + turns_for cs = ap turns_for are in
          this-command c (record j { commands = cs }) refl rule is (λ h. placed-commanded (c ∷ cs) j h) (command_turns c) (λ t large. told-weighs numbers t large c) (omega (arith, all)) (λ k is_closing. absurd (never-closed is_closing))
      by [] are true so rule is = absurd (never-closed so)
      by [] are false so rule is =
          let all : close_turns j.closing ≡ 34 = ap close_turns so in
          this-command (CloseConnection 200 (79 ∷ 75 ∷ [])) (record j { closing = true }) refl rule is (λ h. placed-commanded [] j h) 34 (λ t large. last-weighs numbers t large) (omega (arith, all))
          (λ k is_closing. last-closed (record j { closing = true }) k)

  -- ---- any

  pub each-turn : Turned options numbers u e x j last server rs ⊎ Ended numbers u e x last server
  each-turn = by j.short refl (not (length (output j) == 0)) refl where
    by : (short : Bool) → j.short ≡ short → (some : Bool) → not (length (output j) == 0) ≡ some → Turned options numbers u e x j last server rs ⊎ Ended numbers u e x last server
    by true short some is = inl (room-turn short)
    by false full true is = piece-turn full is
    by false full false is = inl (command-turn full is)
