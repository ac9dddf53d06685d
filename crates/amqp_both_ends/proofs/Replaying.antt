-- Turns over a joined port are those of a port that plays their steps, on one link with room.
use Rattle.std.proofs.Common.{◌≡◌, ◌∙◌, ap, sym, refl, subst, ℕ, zero, suc, ◌+◌, ◌-◌, ◌==◌, ◌&&◌, not, if◌then◌else◌, Bool, true, false, List, [], ◌∷◌, ◌++◌, length, take, drop, Option, Some, None, IfSome, option_map}
use Rattle.std.specs.Prelude.{slice_index}
use Rattle.amqp_types.proofs.Small.{if_case, if-true, if-false, and-false}
use Rattle.amqp_frame.specs.declared.frame.Read.{Read}
use Rattle.amqp_frame.specs.declared.frame.Read.TheVariants as reading
use Rattle.amqp_auth.specs.declared.asked.Asked.{Asked}
use Rattle.amqp_commands.specs.declared.command.Cmd.{Cmd}
use Rattle.amqp_violations.specs.declared.misread.Misread.TheVariants.{TooLarge, BadHeartbeat, Bad}
use Rattle.amqp_rules.specs.Talk.{is_open, has_ended, drops_input}
use Rattle.amqp_rules.specs.Changes.{present_at}
use Rattle.amqp_rules.specs.Frames.{on_frame}
use Rattle.amqp_rules.specs.Links.{asked, misread}
use Rattle.amqp_engine.specs.declared.given.Given.{Given}
use Rattle.amqp_engine.specs.declared.port.Step.{Step}
use Rattle.amqp_engine.specs.declared.port.Step.TheVariants.{Piece, Room}
use Rattle.amqp_engine.specs.declared.port.Wrote.{Wrote}
use Rattle.amqp_engine.specs.declared.port.Wrote.TheVariants.{Took, Failed, NoMemory}
use Rattle.amqp_engine.specs.Plan.{Coming, Plan, at_most_64, coming_of, coming_from, next_coming, room_after, fails_after, plan_from, plan_step, less_room, plan_write, room_for, PlanAnswers}
use Rattle.amqp_engine.specs.Log.{Log, log_ask, log_write, PlansStep}
use Rattle.amqp_engine.specs.Engine.{Engine, with_talk, rule_at, step_engine, step_questions, front_of, can_read, read_row, read_one, settle, refuse_overlong}
use Rattle.amqp_engine.specs.Turn.{Turn, Progress, write_answers, asks, wants_ask, begun, goes, part, questioned, is_part, is_piece, step_part, read_part, reads, read, offer_part, offered, is_all, drained, after_writes, starved_after, turn, turns, AreTurns}
use Rattle.amqp_engine.specs.Tell.{Offer, offers_of, log_asks, log_offers, log_stepped, log_turn, PlaysOffers, PlaysTurns}
use Rattle.amqp_engine.specs.Valid.{answered_in}
use Rattle.amqp_engine.proofs.Applying.{step-starved}
use Rattle.amqp_engine.proofs.Offers.{answered-starved}
use Rattle.amqp_engine.proofs.Over.{turn-is}
use Rattle.amqp_engine.proofs.Overlong.{refuses-starved}
use Rattle.amqp_engine.proofs.Playing.{auths_in}
use Rattle.amqp_joining.specs.Plans.{JoinPlan}
use Rattle.amqp_joining.specs.Joining.{Join, JoinWrites, JoinsOffers, JoinsTurns, AreFed, output, comes, next_cut, next_command, roomier, sent_on, commanded, after_join_step, asked_now, asked_then}
use Rattle.amqp_both_ends.proofs.Later.{later_step, after_later, later-linked, later-told}
use Rattle.amqp_both_ends.proofs.Givens.{given_step, room_after_step, given_of, givens}
use Rattle.amqp_both_ends.proofs.Turning.{offers-keep}
use Rattle.amqp_both_ends.proofs.Steps.{piece-length}

-- ---- a plan that is played

-- a port plays these steps next, and takes so many octets
pub record IsPlays (a : Log) (rest : List Given) (room : ℕ) : Type 0 where
  pub plan : Plan
  pub is : a.plan ≡ Some plan
  pub rest_is : plan.rest ≡ rest
  pub room_is : plan.room ≡ Some room
  pub works : plan.fails ≡ false

-- offers that a joined port takes so, it takes so
record PlaysOn (os : List Offer) (a : Log) (rest : List Given) (room : ℕ) : Type 0 where
  plays : PlaysOffers os a
  after : IsPlays (log_offers os a) rest room

plays-offers : (os : List Offer) (j last : Join) (a : Log) (rest : List Given) → IsPlays a rest j.room → JoinsOffers os j last → PlaysOn os a rest last.room
plays-offers [] j last a rest h joins = record { plays = tt; after = subst (λ (y : Join). IsPlays a rest y.room) (sym joins) h }
plays-offers (o ∷ os) j last a rest h joins = by o.answer refl joins.1 (λ next_log k. plays-offers os joins.0 last next_log rest k joins.2) where
  by : (w : Wrote) → o.answer ≡ w → JoinWrites o.bytes w j joins.0 → ((b : Log) → IsPlays b rest joins.0.room → PlaysOn os b rest last.room) → PlaysOn (o ∷ os) a rest last.room
  by (Took k) is rule more =
      let may : IfSome a.plan (λ p. PlanAnswers p (length o.bytes) (Took k)) =
      subst (λ (x : Option Plan). IfSome x (λ p. PlanAnswers p (length o.bytes) (Took k))) (sym h.is)
      (h.works, subst (λ (x : Option ℕ). k ≡ room_for x (length o.bytes)) (sym h.room_is) rule.0) in
      let left : joins.0.room ≡ j.room - k = ap (λ (y : Join). y.room) rule.2 in
      let next : IsPlays (log_write o.bytes (Took k) a) rest joins.0.room =
      record {
        plan = plan_write k h.plan;
        is = ap (option_map (plan_write k)) h.is;
        rest_is = h.rest_is;
        room_is = ap (less_room k) h.room_is ∙ ap Some (sym left);
        works = h.works;
      } in
      let m = more (log_write o.bytes (Took k) a) next in
      subst (λ (w : Wrote). PlaysOn (record { bytes = o.bytes; answer = w } ∷ os) a rest last.room) (sym is) (record { plays = (may, m.plays); after = m.after })
  by Failed is rule more = absurd rule
  by NoMemory is rule more =
      let may : IfSome a.plan (λ p. PlanAnswers p (length o.bytes) NoMemory) = subst (λ (x : Option Plan). IfSome x (λ p. PlanAnswers p (length o.bytes) NoMemory)) (sym h.is) tt in
      let m = more a (subst (λ (y : Join). IsPlays a rest y.room) (sym rule) h) in
      subst (λ (w : Wrote). PlaysOn (record { bytes = o.bytes; answer = w } ∷ os) a rest last.room) (sym is) (record { plays = (may, m.plays); after = m.after })

-- ---- a step

-- a step comes as its given one, which brings this room, where a link is asked for or not
pub record Comes (linked : Bool) (c : Coming) (j next : Join) : Type 0 where
  pub coming : coming_of (record { at = c.at; what = given_step c.step c.bytes (slice_index j.plan.rooms j.room_at) }) ≡ c
  pub room : room_after linked (given_step c.step c.bytes (slice_index j.plan.rooms j.room_at)) (Some j.room) ≡ Some next.room
  pub works : fails_after (given_step c.step c.bytes (slice_index j.plan.rooms j.room_at)) false ≡ false
  pub places : room_after_step j.plan.rooms j.room_at c.step ≡ next.room_at
  pub rooms : next.plan ≡ j.plan

comes-later : (linked : Bool) (j : Join) → Comes linked (later_step j) j (after_later j)
comes-later linked j = by j.short (not (length (output j) == 0)) where
  told : (cs : List Cmd) (is_closing : Bool) → Comes linked (next_command cs is_closing) j (commanded cs j)
  told (c ∷ cs) is_closing = record { coming = refl; room = refl; works = refl; places = refl; rooms = refl }
  told [] false = record { coming = refl; room = refl; works = refl; places = refl; rooms = refl }
  told [] true = record { coming = refl; room = refl; works = refl; places = refl; rooms = refl }

  by : (short some : Bool)
      → Comes linked (if short then comes Room [] else (if some then comes (Piece (next_cut j)) (take (next_cut j) (output j)) else next_command j.commands j.closing)) j
      (if short then roomier j else (if some then sent_on j else commanded j.commands j))
  by true some = record { coming = refl; room = refl; works = refl; places = refl; rooms = refl }
  by false true =
      record {
        coming = ap (λ (n : ℕ). record { at = 0; step = Piece n; bytes = take (next_cut j) (output j) }) (piece-length j);
        room = refl;
        works = refl;
        places = refl;
        rooms = refl;
      }
  by false false = told j.commands j.closing

-- a step that is played
plays-step : (u : Turn) (e : Engine) (j next : Join) (a : Log) (more : List Given) → Comes (log_asks e a).asked (record { at = u.at; step = u.step; bytes = u.bytes }) j next → IsPlays a (given_of j.plan.rooms j.room_at u ∷ more) j.room
    → PlansStep u.at u.step u.bytes (log_asks e a) × IsPlays (log_stepped u e a) more next.room
plays-step u e j next a more c h = (told, after) where
  b : Log
  b = log_asks e a

  same : b.plan ≡ Some h.plan
  same = if_case (λ (x : Log). x.plan ≡ a.plan) (wants_ask e) (log_ask a) a refl refl ∙ h.is

  told : PlansStep u.at u.step u.bytes b
  told =
      subst (λ (o : Option Plan). IfSome o (λ p. next_coming p ≡ record { at = u.at; step = u.step; bytes = u.bytes })) (sym same)
      (ap (λ (gs : List Given). coming_from gs h.plan.moment) h.rest_is ∙ c.coming)

  after : IsPlays (log_stepped u e a) more next.room
  after =
      record {
        plan = plan_step b.asked h.plan;
        is = ap (option_map (plan_step b.asked)) same;
        rest_is = ap (λ (gs : List Given). (plan_from gs b.asked h.plan).rest) h.rest_is;
        room_is =
            ap (λ (gs : List Given). (plan_from gs b.asked h.plan).room) h.rest_is
            ∙ ap (room_after b.asked (given_step u.step u.bytes (slice_index j.plan.rooms j.room_at))) h.room_is ∙ c.room;
        works =
            ap (λ (gs : List Given). (plan_from gs b.asked h.plan).fails) h.rest_is
            ∙ ap (fails_after (given_step u.step u.bytes (slice_index j.plan.rooms j.room_at))) h.works ∙ c.works;
      }

-- ---- turns

-- after the link is told
pub plays-on : (us : List Turn) (e : Engine) (flag : Bool) (j last : Join) (a : Log) → IsPlays a (givens j.plan.rooms j.room_at us) j.room → j.linked ≡ true → JoinsTurns us e flag j last → PlaysTurns us e a
plays-on [] e flag j last a h linked joins = tt
plays-on (u ∷ us) e flag j last a h linked joins =
    by (subst (λ (c : Coming). Comes (log_asks e a).asked c j (after_later j)) (later-told u e flag j joins.0 linked joins.1) (comes-later (log_asks e a).asked j))
    (λ b k. plays-on us (turn u e) (asked_then (asked_now e flag) j) joins.0 last b k now_linked joins.2) where
      then_so : after_join_step (asked_now e flag) j ≡ after_later j
      then_so = if-false (asked_now e flag && not j.linked) (roomier (record j { linked = true })) (after_later j) (and-false (asked_now e flag) (not j.linked) (ap not linked))

      offers : JoinsOffers (offers_of u (asks e)) (after_later j) joins.0
      offers = subst (λ (y : Join). JoinsOffers (offers_of u (asks e)) y joins.0) then_so joins.1.1

      now_linked : joins.0.linked ≡ true
      now_linked = offers-keep (λ (z : Join). z.linked) (λ z d room taken short. refl) (offers_of u (asks e)) (after_later j) joins.0 offers ∙ later-linked j ∙ linked

      by : Comes (log_asks e a).asked (record { at = u.at; step = u.step; bytes = u.bytes }) j (after_later j) → ((b : Log) → IsPlays b (givens joins.0.plan.rooms joins.0.room_at us) joins.0.room → PlaysTurns us (turn u e) b)
          → PlaysTurns (u ∷ us) e a
      by c rest =
          let p = plays-step u e j (after_later j) a (givens j.plan.rooms (room_after_step j.plan.rooms j.room_at u.step) us) c h in
          let o = plays-offers (offers_of u (asks e)) (after_later j) joins.0 (log_stepped u e a) (givens j.plan.rooms (room_after_step j.plan.rooms j.room_at u.step) us) p.1 offers in
          let plan : joins.0.plan ≡ j.plan = offers-keep (λ (z : Join). z.plan) (λ z d room taken short. refl) (offers_of u (asks e)) (after_later j) joins.0 offers ∙ c.rooms in
          let place : joins.0.room_at ≡ room_after_step j.plan.rooms j.room_at u.step = offers-keep (λ (z : Join). z.room_at) (λ z d room taken short. refl) (offers_of u (asks e)) (after_later j) joins.0 offers ∙ sym c.places in
          let next : IsPlays (log_turn u e a) (givens joins.0.plan.rooms joins.0.room_at us) joins.0.room =
          subst (λ (n : ℕ). IsPlays (log_turn u e a) (givens joins.0.plan.rooms n us) joins.0.room) (sym place)
          (subst (λ (q : JoinPlan). IsPlays (log_turn u e a) (givens q.rooms (room_after_step j.plan.rooms j.room_at u.step) us) joins.0.room) (sym plan) o.after) in
          ((p.0, o.plays), rest (log_turn u e a) next)

-- the turn of the link, and those after it
pub plays-first : (u : Turn) (us : List Turn) (e : Engine) (flag : Bool) (j next last : Join) (a : Log) → wants_ask e ≡ true → Comes true (record { at = u.at; step = u.step; bytes = u.bytes }) j (roomier (record j { linked = true }))
    → IsPlays a (givens j.plan.rooms j.room_at (u ∷ us)) j.room → JoinsOffers (offers_of u (asks e)) (roomier (record j { linked = true })) next → JoinsTurns us (turn u e) flag next last → PlaysTurns (u ∷ us) e a
plays-first u us e flag j next last a wants c h offers joins =
    let r = roomier (record j { linked = true }) in
    let asked_is : (log_asks e a).asked ≡ true = ap (λ (x : Log). x.asked) (if-true (wants_ask e) (log_ask a) a wants) in
    let p = plays-step u e j r a (givens j.plan.rooms (room_after_step j.plan.rooms j.room_at u.step) us) (subst (λ (b : Bool). Comes b (record { at = u.at; step = u.step; bytes = u.bytes }) j r) (sym asked_is) c) h in
    let o = plays-offers (offers_of u (asks e)) r next (log_stepped u e a) (givens j.plan.rooms (room_after_step j.plan.rooms j.room_at u.step) us) p.1 offers in
    let plan : next.plan ≡ j.plan = offers-keep (λ (z : Join). z.plan) (λ z d room taken short. refl) (offers_of u (asks e)) r next offers in
    let place : next.room_at ≡ room_after_step j.plan.rooms j.room_at u.step = offers-keep (λ (z : Join). z.room_at) (λ z d room taken short. refl) (offers_of u (asks e)) r next offers ∙ sym c.places in
    let now_linked : next.linked ≡ true = offers-keep (λ (z : Join). z.linked) (λ z d room taken short. refl) (offers_of u (asks e)) r next offers in
    let after : IsPlays (log_turn u e a) (givens next.plan.rooms next.room_at us) next.room =
    subst (λ (n : ℕ). IsPlays (log_turn u e a) (givens next.plan.rooms n us) next.room) (sym place)
    (subst (λ (q : JoinPlan). IsPlays (log_turn u e a) (givens q.rooms (room_after_step j.plan.rooms j.room_at u.step) us) next.room) (sym plan) o.after) in
    ((p.0, o.plays), plays-on us (turn u e) flag next last (log_turn u e a) after now_linked joins)

-- ---- memory is not refused

settle-starved : (e : Engine) → (settle e).starved ≡ e.starved
settle-starved e =
    if_case (λ (z : Engine). z.starved ≡ e.starved) (is_open e.talk) (if drops_input e.talk then record e { unread = []; place = 0 } else e) (record e { unread = []; place = 0; unsent = [] })
    (if_case (λ (z : Engine). z.starved ≡ e.starved) (drops_input e.talk) (record e { unread = []; place = 0 }) e refl refl) refl

read-starved : (at : ℕ) (answers : List Asked) (e : Engine) → (read_one at answers e).starved ≡ e.starved
read-starved at answers e = by (front_of e) where
  by : (r : Read) → (read_row at r answers e).starved ≡ e.starved
  by (reading.Whole f n) = settle-starved (record e { talk = on_frame f answers (present_at at e.talk); unread = drop n e.unread; place = at_most_64 (e.place + n) })
  by (reading.TooLarge size) = settle-starved (rule_at at (misread (TooLarge size)) e)
  by (reading.BadHeartbeat channel) = settle-starved (rule_at at (misread (BadHeartbeat channel)) e)
  by reading.More = refl
  by reading.Bad = settle-starved (rule_at at (misread (Bad e.place)) e)
  by reading.NoMemory = settle-starved (rule_at at (misread (Bad e.place)) e)

reads-starved : (n : ℕ) (p : Progress) → (reads n p).engine.starved ≡ p.engine.starved
reads-starved zero p = refl
reads-starved (suc n) p =
    if_case (λ (q : Progress). q.engine.starved ≡ p.engine.starved) (goes p && can_read p.engine) (reads n (read_part p)) p (reads-starved n (read_part p) ∙ read-starved p.at p.answers p.engine) refl

writes-starved : (ws : List Wrote) (p : Progress) → (drained ws p).engine.starved ≡ p.engine.starved
writes-starved [] p = if_case (λ (q : Progress). q.engine.starved ≡ p.engine.starved) (goes p) (record p { engine = refuse_overlong p.engine }) p (refuses-starved p.engine) refl
writes-starved (w ∷ ws) p =
    if_case (λ (q : Progress). q.engine.starved ≡ p.engine.starved) (is_all w (length (offered p.engine))) (drained ws (offer_part w p)) (offer_part w p)
    (writes-starved ws (offer_part w p) ∙ answered-starved p.at w p.engine) (answered-starved p.at w p.engine)

step-keeps : (step : Step) (bytes : List ℕ) (p : Progress) → (step_part step bytes p).engine.starved ≡ p.engine.starved
step-keeps step bytes p =
    let after = step_engine p.at step bytes p.answers p.engine in
    let q = questioned (step_questions p.at step p.answers p.engine) p in
    let one = step-starved p.at step bytes p.answers p.engine in
    if_case (λ (x : Progress). x.engine.starved ≡ p.engine.starved) (is_part step p.engine) (if goes p then part after q else p) (record p { engine = after })
    (if_case (λ (x : Progress). x.engine.starved ≡ p.engine.starved) (goes p) (part after q) p one refl) one

turn-keeps : (u : Turn) (e : Engine) → has_ended e.talk ≡ false → u.notes.starved ≡ None → (turn u e).starved ≡ e.starved
turn-keeps u e running whole =
    let p0 = begun u.at u.notes.starved u.notes.auths (asks e) in
    let p1 = step_part u.step u.bytes p0 in
    ap (λ (z : Engine). z.starved) (turn-is u e running ∙ ap (λ o. starved_after o u.at (after_writes u (asks e)).engine) whole)
    ∙ writes-starved (write_answers u.notes) (read u (asks e))
    ∙ if_case (λ (q : Progress). q.engine.starved ≡ p1.engine.starved) (is_piece u.step) (reads (length p1.engine.unread) p1) p1 (reads-starved (length p1.engine.unread) p1) refl
    ∙ step-keeps u.step u.bytes p0
    ∙ if_case (λ (z : Engine). z.starved ≡ e.starved) (wants_ask e) (with_talk asked e) e refl refl

pub turns-keep : (us : List Turn) (e : Engine) → AreTurns us e → AreFed us → (turns us e).starved ≡ e.starved
turns-keep [] e may fed = refl
turns-keep (u ∷ us) e may fed = turns-keep us (turn u e) may.1 fed.1 ∙ turn-keeps u e may.0.running fed.0

pub same-answers : (us : List Turn) → auths_in us ≡ answered_in us
same-answers [] = refl
same-answers (u ∷ us) = ap (λ (xs : List Asked). u.notes.auths ++ xs) (same-answers us)
