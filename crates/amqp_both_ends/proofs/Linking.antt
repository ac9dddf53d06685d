-- The first turn over a joined port: the link comes, and both ends stand.
use Rattle.std.proofs.Common.{map, drop, ◌≡◌, ◌≢◌, ◌<◌, inl, inr, ◌∙◌, ap, sym, refl, subst, ℕ, ◌+◌, max, ◌&&◌, not, if◌then◌else◌, Bool, true, false, true≢false, List, [], ◌∷◌, ◌++◌, length, None, arith}
use Rattle.std.specs.List.{flat_map}
use Rattle.amqp_types.proofs.Small.{if_case, if-true}
use Rattle.amqp_frame.specs.declared.frame.Frame.{Frame}
use Rattle.amqp_outbox.specs.declared.item.Item.{Item}
use Rattle.amqp_promise.specs.declared.error.ErrorKind.{ErrorKind}
use Rattle.amqp_auth.specs.declared.asked.Asked.{Asked}
use Rattle.amqp_commands.specs.declared.command.Cmd.TheVariants.{Listen}
use Rattle.amqp_settings.specs.declared.configuration.Configuration.{Configuration}
use Rattle.amqp_rules.specs.declared.state.Link.{Link}
use Rattle.amqp_rules.specs.declared.state.Link.TheVariants.{Due, Wanted, Asked as AskedLink, Open, Ended}
use Rattle.amqp_rules.specs.Commands.{command}
use Rattle.amqp_settings.specs.Config.{Config, Options}
use Rattle.amqp_rules.specs.Changes.{present_at}
use Rattle.amqp_rules.specs.Links.{asked, asked_link, linked}
use Rattle.amqp_rules.specs.Sound.{IsSound}
use Rattle.amqp_rules.specs.Talk.{Talk, start, has_ended, is_open, is_asked, is_asked_link, is_wanted_link}
use Rattle.amqp_rules.proofs.Keeping.{present-keeps}
use Rattle.amqp_rules.proofs.SoundChanges.{sound-present}
use Rattle.amqp_rules.proofs.SoundCommands.{sound-command}
use Rattle.amqp_rules.proofs.Soundness.{sound-start, sound-asked, sound-linked}
use Rattle.amqp_legal.specs.Legal.{amqp_header}
use Rattle.amqp_legal.proofs.TakenIsLegal.{sound}
use Rattle.amqp_faultless.specs.Faultless.{silent, is_frame_max}
use Rattle.amqp_faultless.proofs.Greeted.{IsMet}
use Rattle.amqp_faultless.proofs.FirstAndLast.{IsFresh, met-linked}
use Rattle.amqp_faultless.proofs.Brief.{modest-command}
use Rattle.amqp_faultless.proofs.Modest.{Modest}
use Rattle.amqp_faultless.proofs.TunedRules.{tuned-linked}
use Rattle.amqp_faultless.proofs.Modesty.{modest-start, modest-present, modest-linked}
use Rattle.amqp_written_rules.specs.Sayable.{AreInRange, CanBeSaid}
use Rattle.amqp_engine.specs.declared.port.Step.{Step}
use Rattle.amqp_engine.specs.declared.port.Step.TheVariants.{Linked}
use Rattle.amqp_engine.specs.Account.{IsNew, History, nothing_told, add_command, HasHistory, new, told}
use Rattle.amqp_engine.specs.Plan.{Coming}
use Rattle.amqp_engine.specs.Engine.{Engine, begin, with_talk, rule_at, step_linked, step_engine}
use Rattle.amqp_engine.specs.Turn.{Turn, asks, wants_ask, begun, step_part, reading, is_piece, read, turn, IsTurn, IsTold, IsFit}
use Rattle.amqp_engine.specs.Tell.{offers_of}
use Rattle.amqp_engine.specs.Sending.{Sending, nothing_sent, frames, items_sent, frames_sent, step_sending, turn_sending}
use Rattle.amqp_engine.specs.SentWhole.{last_sending, said_of}
use Rattle.amqp_engine.specs.Unread.{IsRead}
use Rattle.amqp_engine.proofs.Follows.{new-fresh}
use Rattle.amqp_engine.proofs.PlayedOn.{new-wants}
use Rattle.amqp_engine.proofs.Sends.{Sends, sends-asks, sends-step}
use Rattle.amqp_engine.proofs.Stepping.{part-engine}
use Rattle.amqp_double.specs.Replies.{replies}
use Rattle.amqp_double.specs.Doubles.{DoubleState, fresh, HasAnswered}
use Rattle.amqp_owing.specs.Owed.{all_said}
use Rattle.amqp_joining.specs.Plans.{JoinPlan, IsPlan}
use Rattle.amqp_joining.specs.Joining.{Join, join, JoinsOffers, JoinsTurn, comes, roomier, after_join_step, asked_now}
use Rattle.amqp_both_ends.specs.TwoEnds.{unasked}
use Rattle.amqp_both_ends.proofs.Apart.{start-serves}
use Rattle.amqp_both_ends.proofs.Later.{later_step, after_later}
use Rattle.amqp_both_ends.proofs.Flowing.{Flows}
use Rattle.amqp_both_ends.proofs.Outgoing.{waiting}
use Rattle.amqp_both_ends.proofs.Writes.{pending, Mid}
use Rattle.amqp_both_ends.proofs.Reading.{none-before, flows-none}
use Rattle.amqp_both_ends.proofs.Weights.{weigh, size, earns, header-earns}
use Rattle.amqp_both_ends.proofs.Counting.{turns_for, IsCounted, IsPlaced, placed-roomier}
use Rattle.amqp_both_ends.proofs.Standing.{Between}
use Rattle.amqp_both_ends.proofs.Turning.{offers-placed, Next, after-turn}

some-place : (ns : List ℕ) → ns ≢ [] → 0 < length ns
some-place [] h = absurd (h refl)
some-place (n ∷ ns) h = omega arith

-- a double that heard nothing has answered nothing
fresh-answered : (numbers : Configuration) → HasAnswered [] (fresh numbers)
fresh-answered numbers = record { stand = refl; legal = sound [] refl; count = refl; said = refl; sent = omega arith; closed = refl }

module _ (t : Talk) (is_new : IsNew t) (can : CanBeSaid t.config) where
  abbrev options : Options
  options = t.config.options

  abbrev e0 : Engine
  e0 = begin t

  -- a link is asked for, and this is the moment
  abbrev t1 : Talk
  t1 = present_at 0 (asked t)

  new-kept : (P : Talk → Type 0) → ((config : Config) → P (start config)) → ((config : Config) → P (start config) → P (command Listen (start config))) → P t
  new-kept P first listened = by is_new where
    by : IsNew t → P t
    by (config, inl is) = subst P (sym is) (first config)
    by (config, inr is) = subst P (sym is) (listened config (first config))

  sound0 : IsSound t
  sound0 = new-kept IsSound (λ config. sound-start config) (λ config k. sound-command Listen (start config) k)

  modest0 : Modest options t
  modest0 = by is_new where
    by : IsNew t → Modest options t
    by (config, inl is) =
        subst (λ (y : Talk). CanBeSaid y.config → Modest y.config.options y) (sym is) (λ k. modest-start config (let short = k.vhost in omega (arith, short))) can
    by (config, inr is) =
        subst (λ (y : Talk). CanBeSaid y.config → Modest y.config.options y) (sym is)
        (λ k. modest-command config.options Listen (start config) tt (modest-start config (let short = k.vhost in omega (arith, short)))) can

  -- what was told of it
  pub record Begun : Type 0 where
    pub h : History
    pub has : HasHistory e0 h
    pub none : h.sent ≡ []

  first-history : Begun
  first-history = by is_new where
    by : IsNew t → Begun
    by (config, inl is) = record { h = nothing_told; has = subst (λ (y : Talk). HasHistory (begin y) nothing_told) (sym is) (new config); none = refl }
    by (config, inr is) =
        let k = told Listen tt tt (new config) in
        record { h = add_command Listen nothing_told; has = subst (λ (y : Talk). HasHistory (begin y) (add_command Listen nothing_told)) (sym is) k; none = refl }

  asks-now : asks e0 ≡ with_talk asked e0
  asks-now = if-true (wants_ask e0) (with_talk asked e0) e0 (new-wants t is_new)

  asked-first : is_asked (asked t) ≡ true
  asked-first = by t.link (new-wants t is_new) where
    by : (l : Link ErrorKind) → (is_wanted_link l && not (is_asked_link l)) ≡ true → is_asked_link (asked_link l) ≡ true
    by Wanted h = refl
    by AskedLink h = refl
    by Open h = absurd (true≢false (sym h))
    by (Due moment) h = absurd (true≢false (sym h))
    by (Ended result) h = absurd (true≢false (sym h))

  asked-now : is_asked t1 ≡ true
  asked-now = present-keeps is_asked 0 (asked t) (λ n. refl) ∙ asked-first

  fresh1 : IsFresh t1
  fresh1 =
      let h = new-fresh t is_new in
      let first : IsFresh (asked t) =
      record { wanted = wanted t.link asked-first; first = h.first; none = h.none; room = h.room; agreed = h.agreed } in
      if_case IsFresh (has_ended (asked t)) (asked t) (record (asked t) { present = max (asked t).present 0 }) first
      (record { wanted = first.wanted; first = h.first; none = h.none; room = h.room; agreed = h.agreed })
    where
      wanted : (l : Link ErrorKind) → is_asked_link (asked_link l) ≡ true → is_wanted_link (asked_link l) ≡ true
      wanted Wanted h = refl
      wanted AskedLink h = refl
      wanted Open h = absurd (true≢false (sym h))
      wanted (Due moment) h = absurd (true≢false (sym h))
      wanted (Ended result) h = absurd (true≢false (sym h))

  -- no link is open yet
  shut : is_open t ≡ false
  shut = new-kept (λ (y : Talk). is_open y ≡ false) (λ config. refl) (λ config k. refl)

  read0 : IsRead e0
  read0 opened = absurd (true≢false (sym opened ∙ shut))

  sends0 : Sends e0 []
  sends0 = record { all = tt; last = λ opened. absurd (true≢false (sym opened ∙ shut)) }

  -- the engine of the link
  abbrev linked_engine : Engine
  linked_engine = record { talk = linked t1; unread = []; place = 0; unsent = []; starved = None }

  linked-is : step_linked 0 (asks e0) ≡ linked_engine
  linked-is = ap (step_linked 0) asks-now ∙ if-true (is_asked (asked t)) linked_engine (rule_at 0 (λ y. y) (with_talk asked e0)) asked-first

  stepped : (ss : List Sending) → ss ≡ [] → step_sending Linked (asks e0) ss ≡ nothing_sent ∷ []
  stepped ss none =
      ap (λ (xs : List Sending). step_sending Linked (asks e0) xs) none
      ∙ if-true (is_asked (asks e0).talk) ([] ++ nothing_sent ∷ []) [] (ap (λ (y : Engine). is_asked y.talk) asks-now ∙ asked-first)

  met1 : IsMet silent (linked t1)
  met1 = met-linked t1 asked-now fresh1

  waits1 : frames (waiting (linked t1)) ≡ amqp_header ∷ []
  waits1 = ap (λ (y : Talk). frames (waiting y)) (if-true (is_asked t1) _ t1 asked-now)

  flows1 : Flows (linked t1)
  flows1 = flows-none (linked t1) (none-before silent (linked t1) met1 start-serves)

  -- both ends stand on the new link
  linked-mid : (numbers : Configuration) (j : Join) (auths : List Asked) → j.double ≡ fresh numbers → Mid options numbers linked_engine nothing_sent j silent []
  linked-mid numbers j auths new_double =
      subst (λ (d : DoubleState). Mid options numbers linked_engine nothing_sent (record j { double = d }) silent []) (sym new_double)
      (record {
        deals = (refl, refl, waits1);
        met = met1;
        free = refl;
        sound = sound-linked t1 (sound-present 0 (asked t) (sound-asked t sound0));
        modest = modest-linked options t1 (modest-present options 0 (asked t) modest0);
        flowing = flows1;
        tuned = tuned-linked t1 asked-now;
        sends = subst (λ (y : Engine). Sends y (nothing_sent ∷ [])) linked-is
            (subst (Sends (step_linked 0 (asks e0))) (stepped [] refl) (sends-step 0 Linked [] auths (asks e0) [] (sends-asks e0 [] sends0)));
        numbered = refl;
        client = refl;
        unrefused = refl;
        answered = fresh-answered numbers;
        bytes = refl;
        spells = tt;
      })

  -- where both ends stand after the turn of the link, and how many turns are left
  pub record Started (numbers : Configuration) (plan : JoinPlan) (u : Turn) (last : Join) : Type 0 where
    pub sending : Sending
    pub moved : List Frame
    pub sends : turn_sending u e0 [] ≡ sending ∷ []
    pub sent_more : frames_sent sending ≡ moved
    pub said : said_of u e0 [] ≡ moved
    pub unread : (turn u e0).unread ≡ []
    pub stands : Between options numbers (turn u e0) sending last (all_said moved silent) (flat_map (replies numbers) moved)
    pub placed : IsPlan plan → IsPlaced last
    pub counts : IsCounted numbers (131543 + turns_for plan.commands) 1 (turn u e0) sending last (flat_map (replies numbers) moved)
    pub step : u.step ≡ Linked
    pub none : u.bytes ≡ []
    pub moment : u.at ≡ 0
    pub offers : JoinsOffers (offers_of u (asks e0)) (roomier (record (join (fresh numbers) plan) { linked = true })) last

  -- the turn of the link
  pub first-turn : (numbers : Configuration) (most : is_frame_max numbers.frame_max ≡ true) (range : AreInRange numbers) (plan : JoinPlan) (u : Turn) (last : Join)
      → IsTurn u e0 → IsTold u.step → IsFit u → u.notes.starved ≡ None → JoinsTurn u e0 unasked (join (fresh numbers) plan) last
      → Started numbers plan u last
  first-turn numbers most range plan u last may told_step fit whole joins =
      let j0 = join (fresh numbers) plan in
      let j = roomier (record j0 { linked = true }) in
      let wants : (asked_now e0 unasked && not j0.linked) ≡ true =
      ap (λ (b : Bool). (if b then true else unasked) && not j0.linked) (new-wants t is_new) in
      let rule : comes Linked [] ≡ record { at = u.at; step = u.step; bytes = u.bytes } =
      sym (if-true (asked_now e0 unasked && not j0.linked) (comes Linked []) (later_step j0) wants) ∙ joins.0 in
      let then_so : after_join_step (asked_now e0 unasked) j0 ≡ j =
      if-true (asked_now e0 unasked && not j0.linked) j (after_later j0) wants in
      let offers : JoinsOffers (offers_of u (asks e0)) j last = subst (λ (y : Join). JoinsOffers (offers_of u (asks e0)) y last) then_so joins.1 in
      let step : Linked ≡ u.step = ap (λ (c : Coming). c.step) rule in
      let p0 = begun u.at u.notes.starved u.notes.auths (asks e0) in
      let p1 = step_part u.step u.bytes p0 in
      let is : (read u (asks e0)).engine ≡ linked_engine =
      ap (λ (s : Step). (reading (is_piece s) p1).engine) (sym step)
      ∙ part-engine u.step u.bytes p0 whole
      ∙ ap (λ (c : Coming). step_engine c.at c.step c.bytes u.notes.auths (asks e0)) (sym rule)
      ∙ linked-is in
      let b = first-history in
      let n : Next options numbers most range u e0 [] nothing_sent j last silent [] =
      subst (λ (ss : List Sending). Next options numbers most range u e0 ss nothing_sent j last silent []) b.none
      (after-turn options numbers most range u e0 nothing_sent b.h j last silent [] b.has (ap (λ (s : Step). step_sending s (asks e0) b.h.sent) (sym step) ∙ stepped b.h.sent b.none) can read0 may told_step fit whole
      offers refl refl
      (subst (λ (y : Engine). Mid options numbers y nothing_sent j silent []) (sym is) (linked-mid numbers j u.notes.auths refl))
      (λ is_closing. absurd (true≢false (sym is_closing)))) in
      let pends : pending nothing_sent (read u (asks e0)).engine.talk ≡ amqp_header ∷ [] = ap (λ (y : Engine). pending nothing_sent y.talk) is ∙ waits1 in
      let count : IsCounted numbers (131543 + turns_for plan.commands) 1 (read u (asks e0)).engine nothing_sent j [] =
      (let first = header-earns numbers in
      let a = ap (weigh size) pends in
      let c = ap (weigh (earns numbers)) pends in
      omega (arith, first, a, c)) in
      record {
        sending = n.sending;
        moved = n.moved;
        sends = n.sends;
        sent_more = n.sent_more;
        said =
            ap (λ (ss : List Sending). map (λ (i : Item). i.frame) (drop (last_sending ss).sent (items_sent (last_sending (turn_sending u e0 []))))) (ap (λ (s : Step). step_sending s (asks e0) []) (sym step) ∙ stepped [] refl)
            ∙ ap (λ (ss : List Sending). frames_sent (last_sending ss)) n.sends ∙ n.sent_more;
        unread = n.unread ∙ ap (λ (y : Engine). y.unread) is;
        stands = n.stands;
        step = sym step;
        none = sym (ap (λ (c : Coming). c.bytes) rule);
        moment = sym (ap (λ (c : Coming). c.at) rule);
        offers = offers;
        placed = λ h.
            offers-placed j last (offers_of u (asks e0)) offers
            (placed-roomier (record j0 { linked = true }) (record { plan = h; cut = some-place plan.cuts h.some_cuts; room = some-place plan.rooms h.some_rooms }));
        counts = (let g = n.counts (131543 + turns_for plan.commands) 1 count in omega (arith, g));
      }
