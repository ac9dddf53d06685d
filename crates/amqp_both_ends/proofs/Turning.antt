-- From what a turn read on, its writes lead to where both ends stand between turns.
use Rattle.std.proofs.Common.{◌≡◌, ◌<◌, ◌∙◌, ap, sym, refl, subst, ℕ, ◌+◌, Bool, true, false, List, [], ◌∷◌, ◌++◌, length, append-nil, append_assoc, None}
use Rattle.std.specs.Prelude.{MatchBool}
use Rattle.std.specs.List.{flat_map, AllByRecursion}
use Rattle.amqp_types.proofs.Small.{if-true, if-false}
use Rattle.amqp_frame.specs.declared.frame.Frame.{Frame}
use Rattle.amqp_frame.specs.Frames.{Writable}
use Rattle.amqp_outbox.specs.declared.item.Item.{Item}
use Rattle.amqp_settings.specs.declared.configuration.Configuration.{Configuration}
use Rattle.amqp_settings.specs.Config.{Options}
use Rattle.amqp_legal.specs.Legal.{Legal}
use Rattle.amqp_faultless.specs.Faultless.{Server, is_frame_max}
use Rattle.amqp_written_rules.specs.Sayable.{AreInRange, CanBeSaid}
use Rattle.amqp_engine.specs.declared.port.Wrote.{Wrote}
use Rattle.amqp_engine.specs.declared.port.Wrote.TheVariants.{Took, Failed, NoMemory}
use Rattle.amqp_engine.specs.Log.{on_last}
use Rattle.amqp_engine.specs.Engine.{Engine}
use Rattle.amqp_engine.specs.Turn.{Turn, answers_of_writes, write_answers, Progress, asks, offered, offer_part, is_all, AreAnswers, read, after_writes, starved_after, turn, IsTold, IsFit, IsTurn}
use Rattle.amqp_engine.specs.Tell.{Offer, offers_of}
use Rattle.amqp_engine.specs.Sending.{Sending, frames, frames_sent, committed_before, step_sending, offer_sending, offers_sending, turn_sending}
use Rattle.amqp_engine.specs.Account.{History, HasHistory, add_turn, asked, applies}
use Rattle.amqp_engine.specs.Unread.{IsRead}
use Rattle.amqp_engine.proofs.Over.{asks-running, turn-is}
use Rattle.amqp_engine.proofs.Sent.{on_last-append}
use Rattle.amqp_engine.proofs.Unchanged.{on-asks, on-applied}
use Rattle.amqp_engine.proofs.WrittenLinks.{sent_writable}
use Rattle.amqp_engine.proofs.LegalLinks.{committed_legal}
use Rattle.amqp_engine.proofs.LeftUnread.{turn-read}
use Rattle.amqp_engine.proofs.Lifting.{read-cut}
use Rattle.amqp_double.specs.Doubles.{DoubleState}
use Rattle.amqp_double.specs.Replies.{replies}
use Rattle.amqp_owing.specs.Owed.{all_said}
use Rattle.amqp_joining.specs.Plans.{JoinPlan, IsPlan}
use Rattle.amqp_joining.specs.Joining.{Join, JoinWrites, JoinsOffers}
use Rattle.amqp_joining.specs.Writes.{committed_through}
use Rattle.amqp_both_ends.proofs.Deals.{HasClosed}
use Rattle.amqp_both_ends.proofs.Outgoing.{IsIdle}
use Rattle.amqp_both_ends.proofs.Writes.{pending, Mid, AreNoted, first_taken, written, same-said}
use Rattle.amqp_both_ends.proofs.Counting.{untold_turns, IsCounted, counted-writes, IsPlaced}
use Rattle.amqp_both_ends.proofs.Standing.{Between}

-- ---- what is committed

-- what was sent, once these writes were answered, and what was committed in them
pub record Through (ws : List Wrote) (p : Progress) (x : Sending) : Type 0 where
  pub sending : Sending
  pub sent : offers_sending ws p (x ∷ []) ≡ sending ∷ []
  pub committed : sending.committed ≡ x.committed ++ committed_through ws p

pub through : (ws : List Wrote) (p : Progress) (x : Sending) → AreAnswers ws p → Through ws p x
through [] p x may = record { sending = x; sent = refl; committed = sym (append-nil x.committed) }
through (w ∷ ws) p x may = by (is_all w (length (offered p.engine))) refl may.2 (λ rest. through ws (offer_part w p) (offer_sending w p.engine x) rest) where
  p' : Progress
  p' = offer_part w p

  y : Sending
  y = offer_sending w p.engine x

  C : List Item
  C = committed_before p.engine

  all : Bool
  all = is_all w (length (offered p.engine))

  one : on_last (offer_sending w p.engine) (x ∷ []) ≡ y ∷ []
  one = on_last-append (offer_sending w p.engine) [] x

  by : (b : Bool) → all ≡ b → MatchBool b (AreAnswers ws p') (ws ≡ []) → (AreAnswers ws p' → Through ws p' y) → Through (w ∷ ws) p x
  by true is rest more =
      let t = more rest in
      record {
        sending = t.sending;
        sent = ap (offers_sending ws p') one ∙ t.sent;
        committed = t.committed ∙ append_assoc x.committed C (committed_through ws p') ∙ ap (λ (xs : List Item). x.committed ++ (C ++ xs)) (sym (if-true all (committed_through ws p') [] is));
      }
  by false is none more =
      record {
        sending = y;
        sent = ap (λ (zs : List Wrote). offers_sending zs p' (on_last (offer_sending w p.engine) (x ∷ []))) none ∙ one;
        committed = ap (λ (xs : List Item). x.committed ++ xs) (sym (append-nil C) ∙ ap (λ (xs : List Item). C ++ xs) (sym (if-false all (committed_through ws p') [] is)));
      }

-- ---- what the writes leave of the plan

pub offers-keep : {A : Type 0} (f : Join → A) → ((j : Join) (d : DoubleState) (room : ℕ) (taken : List ℕ) (short : Bool) → f (record j { double = d; room = room; taken = taken; short = short }) ≡ f j)
    → (os : List Offer) (j last : Join) → JoinsOffers os j last → f last ≡ f j
offers-keep f same [] j last joins = ap f joins
offers-keep f same (o ∷ os) j last (next, one, rest) = offers-keep f same os next last rest ∙ by o.answer one where
  by : (w : Wrote) → JoinWrites o.bytes w j next → f next ≡ f j
  by (Took k) r = ap f r.2 ∙ same j _ _ _ _
  by Failed r = absurd r
  by NoMemory r = ap f r

-- the places of the plan stay
pub offers-placed : (j last : Join) (os : List Offer) → JoinsOffers os j last → IsPlaced j → IsPlaced last
offers-placed j last os offers h =
    let plan : last.plan ≡ j.plan = offers-keep (λ (z : Join). z.plan) (λ z d room taken short. refl) os j last offers in
    let cut : last.cut_at ≡ j.cut_at = offers-keep (λ (z : Join). z.cut_at) (λ z d room taken short. refl) os j last offers in
    let room : last.room_at ≡ j.room_at = offers-keep (λ (z : Join). z.room_at) (λ z d room taken short. refl) os j last offers in
    record {
      plan = subst IsPlan (sym plan) h.plan;
      cut = subst (λ (n : ℕ). n < length last.plan.cuts) (sym cut) (subst (λ (y : JoinPlan). j.cut_at < length y.cuts) (sym plan) h.cut);
      room = subst (λ (n : ℕ). n < length last.plan.rooms) (sym room) (subst (λ (y : JoinPlan). j.room_at < length y.rooms) (sym plan) h.room);
    }

-- answers that are noted are none of NoMemory
pub tooks-noted : (ns : List ℕ) (failed : Bool) → AreNoted (answers_of_writes ns failed)
tooks-noted [] true = ((λ is. cc), tt)
tooks-noted [] false = tt
tooks-noted (n ∷ ns) failed = ((λ is. cc), tooks-noted ns failed)

module _ (options : Options) (numbers : Configuration) (most : is_frame_max numbers.frame_max ≡ true) (range : AreInRange numbers) where
  -- where both ends stand after a turn, once its step was taken and what it brought was read: what was sent in it, and
  -- how many turns are left
  pub record Next (u : Turn) (e : Engine) (ss : List Sending) (x : Sending) (j last : Join) (s : Server) (rs : List Frame) : Type 0 where
    pub sending : Sending
    pub moved : List Frame
    pub sends : turn_sending u e ss ≡ sending ∷ []
    pub sent_more : frames_sent sending ≡ frames_sent x ++ moved
    pub stands : Between options numbers (turn u e) sending last (all_said moved s) (rs ++ flat_map (replies numbers) moved)
    pub unread : (turn u e).unread ≡ (read u (asks e)).engine.unread
    pub counts : (bound n : ℕ) → IsCounted numbers bound n (read u (asks e)).engine x j rs
        → IsCounted numbers bound (n + first_taken (write_answers u.notes)) (turn u e) sending last (rs ++ flat_map (replies numbers) moved)

  pub after-turn : (u : Turn) (e : Engine) (x : Sending) (h : History) (j last : Join) (s : Server) (rs : List Frame) → HasHistory e h → step_sending u.step (asks e) h.sent ≡ x ∷ [] → CanBeSaid e.talk.config → IsRead e
      → IsTurn u e → IsTold u.step → IsFit u → u.notes.starved ≡ None → JoinsOffers (offers_of u (asks e)) j last → j.linked ≡ true → j.short ≡ false
      → Mid options numbers (read u (asks e)).engine x j s rs → (j.closing ≡ true → HasClosed (frames_sent x ++ pending x (read u (asks e)).engine.talk)) → Next u e h.sent x j last s rs
  after-turn u e x h j last s rs has stepped said_config is_read may told_step fit whole joins linked full mid closed =
      let ws = write_answers u.notes in
      let p = read u (asks e) in
      let h' = add_turn u (asks e) h in
      let has' : HasHistory (turn u e) h' = applies u (asks-running e may.running) may.applied told_step fit (asked has) in
      let t = through ws p x may.applied.answers in
      let only : h'.sent ≡ t.sending ∷ [] = ap (offers_sending ws p) stepped ∙ t.sent in
      let config : CanBeSaid (turn u e).talk.config =
      subst CanBeSaid (sym (on-applied e.talk.config u (asks e) (asks-running e may.running) may.applied (on-asks e.talk.config e refl))) said_config in
      let writable = (subst (AllByRecursion (λ (s : Sending). AllByRecursion Writable (frames s.committed))) only (sent_writable (turn u e) h' has' config)).0 in
      let legal = (subst (AllByRecursion (λ (s : Sending). Legal (frames s.committed))) only (committed_legal (turn u e) h' has')).0 in
      let w = written options numbers most range ws p x j last s rs (read-cut u (asks e) ∙ whole) full (tooks-noted u.notes.tooks u.notes.failed) may.applied.answers joins
      (subst (λ (xs : List Item). AllByRecursion Writable (frames xs)) t.committed writable) (subst (λ (xs : List Item). Legal (frames xs)) t.committed legal) mid in
      let here : turn u e ≡ (after_writes u (asks e)).engine = turn-is u e may.running ∙ ap (λ o. starved_after o u.at (after_writes u (asks e)).engine) whole in
      record {
        sending = w.sending;
        moved = w.moved;
        sends = ap (offers_sending ws p) stepped ∙ w.sent;
        sent_more = w.sent_more;
        stands = record {
          h = h';
          has = has';
          only = ap (offers_sending ws p) stepped ∙ w.sent;
          config = config;
          mid = subst (λ (z : Engine). Mid options numbers z w.sending last (all_said w.moved s) (rs ++ flat_map (replies numbers) w.moved)) (sym here) w.mid;
          read = turn-read u e may is_read;
          idle = λ now. subst IsIdle (sym here) (w.idle now);
          cut = λ now. subst (λ (z : Engine). 0 < length z.unsent) (sym here) (w.cut now);
          linked = offers-keep (λ (z : Join). z.linked) (λ z d room taken short. refl) (offers_of u (asks e)) j last joins ∙ linked;
          closing = λ is.
              subst HasClosed (sym (ap (λ (z : Engine). frames_sent w.sending ++ pending w.sending z.talk) here ∙ same-said options numbers most range ws p x j last s rs w))
              (closed (sym (offers-keep (λ (z : Join). z.closing) (λ z d room taken short. refl) (offers_of u (asks e)) j last joins) ∙ is));
        };
        unread = ap (λ (z : Engine). z.unread) here ∙ w.unread;
        counts = λ bound n h.
            counted-writes numbers bound n (first_taken ws) p.engine (turn u e) x w.sending j last rs w.moved
            (ap (λ (z : Engine). frames_sent w.sending ++ pending w.sending z.talk) here ∙ same-said options numbers most range ws p x j last s rs w)
            (w.pends ∙ ap (λ (z : Engine). w.moved ++ pending w.sending z.talk) (sym here)) w.out_more w.taken
            (offers-keep untold_turns (λ z d room taken short. refl) (offers_of u (asks e)) j last joins) h;
      }
