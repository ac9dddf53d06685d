-- A script of a faultless server opens the connection and leaves the session Closed: turn after turn, from its link on.
use Rattle.std.proofs.Common.{is_some, ◌-◌, ◌≡◌, ◌≤◌, ◌⊎◌, inl, inr, ℕ, ◌+◌, min, if◌then◌else◌, true, false, true≢false, ◌&&◌, not, max, List, [], ◌∷◌, ◌++◌, length, take, drop, append_assoc, append-nil, Option, Some, None, IfSome, IsSome, Ok, refl, ap, sym, ◌∙◌, subst, arith}
use Rattle.std.specs.Prelude.{map}
use Rattle.std.specs.List.{flat_map, AllByRecursion}
use Rattle.std.proofs.lemmas.List.{take_all}
use Rattle.amqp_frame.specs.declared.frame.Frame.{Frame}
use Rattle.amqp_auth.specs.declared.asked.Asked.{Asked}
use Rattle.amqp_answers.specs.declared.answer.Answer.TheVariants.{Connected}
use Rattle.amqp_commands.specs.declared.command.Cmd.TheVariants.{Listen}
use Rattle.amqp_rules.specs.Commands.{command}
use Rattle.amqp_settings.specs.Config.{Config, Options}
use Rattle.amqp_maps.specs.Listed.{at}
use Rattle.amqp_rules.specs.Links.{asked, asked_link, linked}
use Rattle.amqp_rules.proofs.Keeping.{present-keeps}
use Rattle.amqp_rules.specs.Sound.{IsSound}
use Rattle.amqp_promise.specs.declared.error.ErrorKind.{ErrorKind}
use Rattle.amqp_rules.specs.declared.state.Link.{Link}
use Rattle.amqp_rules.specs.declared.state.Link.TheVariants.{Due, Wanted, Asked as AskedLink, Open, Ended}
use Rattle.amqp_rules.specs.Talk.{Talk, start, end_of, has_ended, is_asked, is_asked_link, is_wanted_link}
use Rattle.amqp_rules.specs.Changes.{present_at}
use Rattle.amqp_rules.specs.Ticks.{is_missed}
use Rattle.amqp_types.proofs.Small.{if_case, if-true, if-false}
use Rattle.amqp_rules.proofs.SoundChanges.{sound-present}
use Rattle.amqp_rules.proofs.SoundCommands.{sound-command}
use Rattle.amqp_rules.proofs.Soundness.{sound-start, sound-asked, sound-linked}
use Rattle.amqp_faultless.proofs.Greeted.{IsMet, IsOver}
use Rattle.amqp_faultless.proofs.FirstAndLast.{IsFresh, met-linked}
use Rattle.amqp_faultless.proofs.Limits.{limit_at}
use Rattle.amqp_faultless.proofs.Modest.{Modest}
use Rattle.amqp_faultless.proofs.Brief.{modest-command}
use Rattle.amqp_faultless.proofs.Modesty.{modest-start, modest-present, modest-linked}
use Rattle.amqp_faultless.proofs.Clock.{IsClock, clock-asked}
use Rattle.amqp_faultless.proofs.Tuned.{first_tune, Tuned, tuned-connected}
use Rattle.amqp_faultless.proofs.TunedRules.{tuned-linked}
use Rattle.amqp_faultless.proofs.Open.{open-runs}
use Rattle.amqp_engine.specs.declared.given.Given.{Given}
use Rattle.amqp_engine.specs.declared.given.GivenStep.{GivenStep}
use Rattle.amqp_engine.specs.declared.port.Step.TheVariants.{Linked, Tick}
use Rattle.amqp_engine.specs.Account.{IsNew}
use Rattle.amqp_engine.specs.Plan.{coming_of, step_of, bytes_of}
use Rattle.amqp_engine.specs.Log.{Log, loaded}
use Rattle.amqp_engine.specs.Engine.{Engine, begin, with_talk, rule_at, step_linked}
use Rattle.amqp_engine.specs.Turn.{Turn, Progress, asks, wants_ask, begun, step_part, reading, read, turn, turns, talk, is_piece}
use Rattle.amqp_engine.proofs.Lifting.{stays-step}
use Rattle.amqp_engine.specs.Tell.{log_turn, log_stepped}
use Rattle.amqp_engine.specs.Sending.{Sending, nothing_sent, step_sending, frames, frames_sent, turn_sending, sendings, sendings_from}
use Rattle.amqp_auth.specs.Providers.{Exchange}
use Rattle.amqp_faultless.specs.Faultless.{Server, ServerStage, silent, AreSayable}
use Rattle.amqp_faultless.specs.Faultless.ServerStage.{Gone}
use Rattle.amqp_engine.specs.Play.{played_turn_of, played_turn, played_turns, replayed, AreAnswered, IsPlayed}
use Rattle.amqp_engine.specs.SentWhole.{said_of}
use Rattle.amqp_engine.specs.Valid.{SpelledFrame, Theirs, Ours, AreSpelled, IsShort, IsTimely, IsLinkedOnce, MomentsRise, EndsWithBytes, Valid, after_sayings, whole_in, later_than, begun_in, all_bytes, sent_by_turns, sayings_of, last_piece, agreed_limit, agreed_frame_max, agreed_heartbeat, answered_in, RunsValid}
use Rattle.amqp_engine.proofs.Follows.{new-fresh}
use Rattle.amqp_engine.proofs.Heeding.{flat}
use Rattle.amqp_engine.proofs.Voicing.{IsClear}
use Rattle.amqp_engine.proofs.PlayedOn.{IsOn, on-free, on-turn, on-played, first-played, first-stepped, first-turn, new-wants}
use Rattle.amqp_engine.proofs.Timely.{clock-new, timely-tick}
use Rattle.amqp_engine.proofs.Clocks.{clock-link}
use Rattle.amqp_engine.proofs.TunedWrites.{first-frame_max, first-heartbeat}
use Rattle.amqp_engine.proofs.Replies.{turn-sayable}
use Rattle.amqp_engine.proofs.Uncut.{played-uncut, played-over, answered-first}
use Rattle.amqp_engine.proofs.Grown.{frames-grow, sendings-joined}
use Rattle.amqp_engine.proofs.OnReading.{met-here}
use Rattle.amqp_engine.proofs.Stepping.{part-engine}
use Rattle.amqp_engine.proofs.Begun.{IsPart, part-none}
use Rattle.amqp_engine.proofs.Turned.{writes-of}
use Rattle.amqp_engine.proofs.Rounds.{Stands, Awaits, Onward, Rounded, rounds, onward}

-- ---- bytes come last

ends-tail : (g : Given) (gs : List Given) → EndsWithBytes (g ∷ gs) → (gs ≡ []) ⊎ EndsWithBytes gs
ends-tail g gs ([], last, is, some) = inl cc
ends-tail g gs (b ∷ bs, last, is, some) = inr (bs, last, (let k : gs ≡ bs ++ last ∷ [] = cc in k), some)

ends-some : (gs : List Given) → (gs ≡ []) ⊎ EndsWithBytes gs → all_bytes gs ≡ [] → gs ≡ []
ends-some gs (inl none) h = none
ends-some gs (inr (before, last, is, some)) h = absurd (some (last-none before (sym (ap all_bytes is) ∙ h))) where
  right : (xs ys : List ℕ) → xs ++ ys ≡ [] → ys ≡ []
  right [] ys k = k
  right (x ∷ xs) ys k = absurd cc

  last-none : (before : List Given) → all_bytes (before ++ last ∷ []) ≡ [] → bytes_of last.what ≡ []
  last-none [] k = sym (append-nil (bytes_of last.what)) ∙ k
  last-none (b ∷ bs) k = last-none bs (right (bytes_of b.what) (all_bytes (bs ++ last ∷ [])) k)

-- what was sent whole on the only link
frames-whole : (x : Sending) → x.sent ≡ length x.committed → frames_sent x ≡ frames x.committed
frames-whole x all = ap (λ n. frames (take n x.committed)) all ∙ ap frames (take_all (length x.committed) x.committed (omega arith))

-- ---- the turns of the steps that are left

module _ (t : Talk) (options : Options) (whole : List Turn) (timely : IsTimely t whole) (end : Server) (gone : end.stage ≡ Gone) where
  abbrev agreed : ℕ
  agreed = agreed_limit t whole

  -- how long a frame may be, where the first tune-ok was said
  limit-of : (before later : List Turn) (moment : ℕ) (s : Server) (x : Sending) (e : Engine) → whole ≡ before ++ later → Stands t options before moment s x e
      → (most heartbeat : ℕ) → first_tune (frames x.committed) ≡ Some (most, heartbeat) → agreed ≤ min 134217728 most
  limit-of before later moment s x e is h most heartbeat tune =
      let grown = frames-grow later e (x ∷ []) in
      let fs = frames x.committed in
      let all : flat_map frames_sent (sendings t whole) ≡ fs ++ grown.0 =
      ap (λ us. flat_map frames_sent (sendings t us)) is ∙ ap (flat_map frames_sent) (sendings-joined t before later)
      ∙ ap (λ y. flat_map frames_sent (sendings_from later y (sendings t before))) h.leads ∙ ap (λ ss. flat_map frames_sent (sendings_from later e ss)) h.only
      ∙ grown.1 ∙ ap (λ ys. ys ++ grown.0) (append-nil (frames_sent x) ∙ frames-whole x h.sent) in
      let same : agreed ≡ min 134217728 most = ap (λ ys. min 134217728 (agreed_frame_max ys)) all ∙ ap (min 134217728) (first-frame_max fs grown.0 most heartbeat tune) in
      omega (arith, same)

  -- no heartbeat is missed
  heard-of : (before later : List Turn) (u : Turn) (moment : ℕ) (s : Server) (x : Sending) (e : Engine) → whole ≡ before ++ u ∷ later → Stands t options before moment s x e
      → moment ≤ u.at → u.step ≡ Tick → is_missed (present_at u.at e.talk) ≡ false
  heard-of before later u moment s x e is h rise tick =
      timely-tick t whole before later u moment e.talk timely is tick (open-runs e.talk h.met.opened) rise h.clock
      (λ connected.
      ap (λ ss. agreed_heartbeat (flat_map frames_sent ss)) h.only ∙ ap (λ ys. agreed_heartbeat (ys ++ [])) (frames-whole x h.sent)
      ∙ first-heartbeat (frames x.committed) [] e.talk.configuration.frame_max e.talk.configuration.heartbeat (tuned-connected (frames x.committed) s e.talk h.tuned connected))

  -- the turns of the steps that are left end the session Closed
  abbrev GoesOver : List Given → Type 0
  GoesOver gs =
      (answers : List Asked) (e : Engine) (a : Log) (before : List Turn) (moment : ℕ) (s : Server) (x : Sending) (spelled : List SpelledFrame)
      → whole ≡ before ++ played_turns (length gs) answers e a → Stands t options before moment s x e → IsOn gs a.plan
      → AllByRecursion (λ (g : Given). IsShort g.what) gs → MomentsRise moment gs → AreAnswered (played_turns (length gs) answers e a) e
      → AreSayable options (answered_in (played_turns (length gs) answers e a))
      → (gs ≡ []) ⊎ EndsWithBytes gs → Awaits agreed gs (sent_by_turns (played_turns (length gs) answers e a) e (x ∷ [])) end s e spelled
      → IsOver (turns (played_turns (length gs) answers e a) e).talk

  pub goes-on : (gs : List Given) → GoesOver gs
  goes-on [] answers e a before moment s x spelled is h on short rise answered sayable ends awaits =
      absurd (met-here s e.talk h.met (let same : s ≡ end = (let k : Some s ≡ Some end = awaits.remains in cc) in ap (λ (y : Server). y.stage) same ∙ gone))
  goes-on (g ∷ gs) answers e a before moment s x spelled is h on short rise answered sayable ends awaits =
      let Q : List Turn → Type 0 = λ us.
      whole ≡ before ++ us → AreAnswered us e → AreSayable options (answered_in us) → Awaits agreed (g ∷ gs) (sent_by_turns us e (x ∷ [])) end s e spelled
      → IsOver (turns us e).talk in
      let u = played_turn answers e a in
      let us = played_turns (length gs) (drop (length u.notes.auths) answers) (turn u e) (log_turn u e a) in
      let none : List Turn = [] in
      let R : Turn → Type 0 = λ v. Q (v ∷ played_turns (length gs) (drop (length v.notes.auths) answers) (turn v e) (log_turn v e a)) in
      subst Q (sym (if-false (has_ended e.talk) none (u ∷ us) (open-runs e.talk h.met.opened))) (subst R (sym (on-played answers e g gs a on)) (one-more (goes-on gs))) is answered sayable awaits
    where
      v : Turn
      v = played_turn_of (coming_of g) answers e a

      vs : List Turn
      vs = played_turns (length gs) (drop (length v.notes.auths) answers) (turn v e) (log_turn v e a)

      one-more : GoesOver gs → whole ≡ before ++ v ∷ vs → AreAnswered (v ∷ vs) e → AreSayable options (answered_in (v ∷ vs)) → Awaits agreed (g ∷ gs) (sent_by_turns (v ∷ vs) e (x ∷ [])) end s e spelled → IsOver (turns (v ∷ vs) e).talk
      one-more again is answered sayable awaits = by step where
        said : AreSayable options v.notes.auths × AreSayable options (answered_in vs)
        said = turn-sayable options v (asks e) (answered_in vs) answered.0 sayable

        sent : List (List Frame)
        sent = sent_by_turns vs (turn v e) (turn_sending v e (x ∷ []))

        tail : (gs ≡ []) ⊎ EndsWithBytes gs
        tail = elim ends [ inl none ↦ absurd (let bad : g ∷ gs ≡ [] = none in cc) | inr some ↦ ends-tail g gs some ]

        step : Onward t options agreed before v e (x ∷ []) gs sent end ⊎ ((gs ≡ []) × IsOver (turn v e).talk)
        step =
            onward t options agreed before moment g gs answers e a s x sent end spelled h on short.0 rise.0
            (λ tick. heard-of before vs v moment s x e is h rise.0 tick) answered.0 said.0 (limit-of before (v ∷ vs) moment s x e is h) awaits (ends-some gs tail)

        by : Onward t options agreed before v e (x ∷ []) gs sent end ⊎ ((gs ≡ []) × IsOver (turn v e).talk) → IsOver (turns (v ∷ vs) e).talk
        by (inr (none, over)) =
            let P : List Given → Type 0 = λ ks. IsOver (turns (played_turns (length ks) (drop (length v.notes.auths) answers) (turn v e) (log_turn v e a)) (turn v e)).talk in
            subst P (sym none) over
        by (inl o) =
            let A : List Sending → Type 0 = λ ss. Awaits agreed gs (sent_by_turns vs (turn v e) ss) end o.server (turn v e) o.spelled in
            again (drop (length v.notes.auths) answers) (turn v e) (log_turn v e a) (before ++ v ∷ []) g.at o.server o.sending o.spelled
            (is ∙ sym (append_assoc before (v ∷ []) vs)) o.stands (on-turn v e g gs a on) short.1 rise.1 answered.1 said.1 tail (subst A o.sends o.awaits)

-- ---- the link

module _ (t : Talk) (new : IsNew t) (g : Given) (gs : List Given) (answers : List Asked) (vhost : length t.config.uri.vhost ≤ 255) (linked_once : IsLinkedOnce (g ∷ gs)) where
  abbrev options : Options
  options = t.config.options

  abbrev e0 : Engine
  e0 = begin t

  abbrev a0 : Log
  a0 = loaded (g ∷ gs)

  abbrev u : Turn
  u = played_turn_of (coming_of g) answers e0 a0

  -- a link is asked for
  abbrev t1 : Talk
  t1 = present_at g.at (asked t)

  new-kept : (P : Talk → Type 0) → ((config : Config) → P (start config)) → ((config : Config) → P (start config) → P (command Listen (start config))) → P t
  new-kept P first listened = by new where
    by : IsNew t → P t
    by (config, inl is) = subst P (sym is) (first config)
    by (config, inr is) = subst P (sym is) (listened config (first config))

  sound0 : IsSound t
  sound0 = new-kept IsSound (λ config. sound-start config) (λ config k. sound-command Listen (start config) k)

  modest0 : Modest options t
  modest0 = by new where
    by : IsNew t → Modest options t
    by (config, inl is) =
        let P : Talk → Type 0 = λ y. length y.config.uri.vhost ≤ 255 → Modest y.config.options y in
        subst P (sym is) (λ le. modest-start config le) vhost
    by (config, inr is) =
        let P : Talk → Type 0 = λ y. length y.config.uri.vhost ≤ 255 → Modest y.config.options y in
        subst P (sym is) (λ le. modest-command config.options Listen (start config) tt (modest-start config le)) vhost

  asks-now : asks e0 ≡ with_talk asked e0
  asks-now = if-true (wants_ask e0) (with_talk asked e0) e0 (new-wants t new)

  asked-first : is_asked (asked t) ≡ true
  asked-first = by t.link (new-wants t new) where
    by : (l : Link ErrorKind) → (is_wanted_link l && not (is_asked_link l)) ≡ true → is_asked_link (asked_link l) ≡ true
    by Wanted h = refl
    by AskedLink h = refl
    by Open h = absurd (true≢false (sym h))
    by (Due moment) h = absurd (true≢false (sym h))
    by (Ended result) h = absurd (true≢false (sym h))

  asked-now : is_asked t1 ≡ true
  asked-now = present-keeps is_asked g.at (asked t) (λ n. refl) ∙ asked-first

  fresh1 : IsFresh t1
  fresh1 =
      let h = new-fresh t new in
      let P : Talk → Type 0 = IsFresh in
      let first : IsFresh (asked t) =
      record { wanted = wanted t.link asked-first; first = h.first; none = h.none; room = h.room; agreed = h.agreed } in
      if_case P (has_ended (asked t)) (asked t) (record (asked t) { present = max (asked t).present g.at }) first
      (record { wanted = first.wanted; first = h.first; none = h.none; room = h.room; agreed = h.agreed })
    where
      wanted : (l : Link ErrorKind) → is_asked_link (asked_link l) ≡ true → is_wanted_link (asked_link l) ≡ true
      wanted Wanted h = refl
      wanted AskedLink h = refl
      wanted Open h = absurd (true≢false (sym h))
      wanted (Due moment) h = absurd (true≢false (sym h))
      wanted (Ended result) h = absurd (true≢false (sym h))

  whole_first : u.notes.starved ≡ None
  whole_first = played-uncut (coming_of g) answers e0 a0

  running_first : has_ended t ≡ false
  running_first = new-kept (λ y. has_ended y ≡ false) (λ config. refl) (λ config k. refl)

  abbrev p0 : Progress
  p0 = begun g.at u.notes.starved u.notes.auths (asks e0)

  abbrev p1 : Progress
  p1 = step_part Linked [] p0

  -- the engine of the link
  abbrev linked_engine : Engine
  linked_engine = record { talk = linked t1; unread = []; place = 0; unsent = []; starved = None }

  is_linked : p1.engine ≡ linked_engine
  is_linked =
      part-engine Linked [] p0 whole_first ∙ ap (step_linked g.at) asks-now
      ∙ if-true (is_asked (asked t)) linked_engine (rule_at g.at (λ y. y) (with_talk asked e0)) asked-first

  is_read : read u (asks e0) ≡ p1
  is_read = ap (λ what. reading (is_piece (step_of what)) (step_part (step_of what) (bytes_of what) p0)) linked_once.0

  linked-parts : (P : Engine → Type 0) → P linked_engine → P (read u (asks e0)).engine
  linked-parts P h = let Q : Progress → Type 0 = λ y. P y.engine in subst Q (sym is_read) (subst P (sym is_linked) h)

  clear1 : IsClear linked_engine
  clear1 = record { marks = ap (λ (y : Talk). y.committed) (if-true (is_asked t1) _ t1 asked-now); bytes = refl }

  clock1 : IsClock g.at 0 (read u (asks e0)).engine.talk
  clock1 =
      let P : Engine → Type 0 = λ y. IsClock g.at 0 y.talk in
      let C : Engine → Type 0 = λ y. IsClock 0 0 y.talk in
      let A : Engine → Type 0 = λ y. is_asked y.talk ≡ true in
      let Q : Progress → Type 0 = λ y. P y.engine in
      subst Q (sym is_read)
      (subst P (sym (part-engine Linked [] p0 whole_first))
      (clock-link 0 g.at (asks e0) (omega arith) (subst A (sym asks-now) asked-first) (subst C (sym asks-now) (clock-asked 0 0 t (clock-new t new)))))

  -- the turn of the link
  pub link-turn : Rounded t options [] u e0 [] silent []
  link-turn =
      let E : List ℕ → Type 0 = λ bs. Rounded t options [] u e0 [] silent bs in
      let K : ℕ → Type 0 = λ k. IsClock g.at k (read u (asks e0)).engine.talk in
      let S : GivenStep → Type 0 = λ what. step_sending (step_of what) (asks e0) [] ≡ nothing_sent ∷ [] in
      let A : Engine → Type 0 = λ y. is_asked y.talk ≡ true in
      let none : last_piece 0 (u ∷ []) ≡ 0 = ap (λ what. if is_piece (step_of what) then g.at else 0) linked_once.0 in
      let early : (read u (asks e0)).at ≡ g.at =
      ap (λ (y : Progress). y.at) is_read ∙ stays-step (λ (q : Progress). q.at) (λ f n left qs q. refl) Linked [] p0 in
      subst E (linked-parts (λ y. y.unread ≡ []) refl)
      (rounds t options [] u e0 [] nothing_sent (log_stepped u e0 a0) silent running_first whole_first (omega (arith, early)) (writes-of (coming_of g) answers e0 a0)
      (on-free gs (log_stepped u e0 a0).plan (first-stepped u e0 g gs linked_once (new-wants t new)))
      (subst S (sym linked_once.0) (if-true (is_asked (asks e0).talk) ([] ++ nothing_sent ∷ []) [] (subst A (sym asks-now) asked-first))) refl refl
      (linked-parts (λ y. IsSound y.talk) (sound-linked t1 (sound-present g.at (asked t) (sound-asked t sound0))))
      (linked-parts IsClear clear1) refl
      (linked-parts (λ y. IsMet silent y.talk) (met-linked t1 asked-now fresh1))
      (linked-parts (λ y. Modest options y.talk) (modest-linked options t1 (modest-present options g.at (asked t) modest0)))
      (subst K (sym none) clock1)
      (linked-parts (λ y. Tuned [] silent y.talk) (tuned-linked t1 asked-now)))

-- ---- the script

pub valid-over : (t : Talk) (gs : List Given) (answers : List Asked) → IsNew t → AreAnswered (replayed t gs answers) (begin t) → Valid t gs answers
    → IsOver (talk t (replayed t gs answers))
valid-over t [] answers new answered v = absurd v.linked
valid-over t (g ∷ gs) answers new answered v =
    let Q : List Turn → Type 0 = λ us.
    whole ≡ us → AreAnswered us e0 → AreSayable t.config.options (answered_in us)
    → after_sayings (sayings_of (g ∷ gs) (sent_by_turns us e0 []) 0 v.faultless.spelled) (Some silent) ≡ Some end → IsOver (turns us e0).talk in
    let w = played_turn answers e0 a0 in
    let us = played_turns (length gs) (drop (length w.notes.auths) answers) (turn w e0) (log_turn w e0 a0) in
    let none : List Turn = [] in
    let R : Turn → Type 0 = λ y. Q (y ∷ played_turns (length gs) (drop (length y.notes.auths) answers) (turn y e0) (log_turn y e0 a0)) in
    subst Q (sym (if-false (has_ended t) none (w ∷ us) (running_first t new g gs answers v.faultless.vhost v.linked))) (subst R (sym (first-played answers e0 g gs)) over)
    refl answered v.faultless.sayable v.faultless.served.said
  where
    e0 : Engine
    e0 = begin t

    a0 : Log
    a0 = loaded (g ∷ gs)

    whole : List Turn
    whole = replayed t (g ∷ gs) answers

    end : Server
    end = v.faultless.served.server

    u : Turn
    u = played_turn_of (coming_of g) answers e0 a0

    vs : List Turn
    vs = played_turns (length gs) (drop (length u.notes.auths) answers) (turn u e0) (log_turn u e0 a0)

    over : whole ≡ u ∷ vs → AreAnswered (u ∷ vs) e0 → AreSayable t.config.options (answered_in (u ∷ vs)) → after_sayings (sayings_of (g ∷ gs) (sent_by_turns (u ∷ vs) e0 []) 0 v.faultless.spelled) (Some silent) ≡ Some end
        → IsOver (turns (u ∷ vs) e0).talk
    over is answered sayable said =
        let options = t.config.options in
        let agreed = agreed_limit t whole in
        let r = link-turn t new g gs answers v.faultless.vhost v.linked in
        let spells = v.faultless.frames.frames in
        let part = part-none 4096 agreed v.faultless.spelled spells in
        let none : bytes_of g.what ≡ [] = ap bytes_of v.linked.0 in
        let sent = sent_by_turns vs (turn u e0) (turn_sending u e0 []) in
        let ours : List Frame = said_of u e0 [] in
        let rest : after_sayings (map Ours ours ++ sayings_of gs sent 0 v.faultless.spelled) (Some silent) ≡ Some end =
        sym (ap (λ bs. after_sayings (map Theirs (whole_in (0 + length bs) v.faultless.spelled) ++ map Ours ours ++ sayings_of gs sent (begun_in (0 + length bs) v.faultless.spelled) (later_than (0 + length bs) v.faultless.spelled)) (Some silent)) none
        ∙ ap (λ fs. after_sayings (map Theirs fs ++ map Ours ours ++ sayings_of gs sent (begun_in 0 v.faultless.spelled) (later_than 0 v.faultless.spelled)) (Some silent)) part.whole
        ∙ ap (λ k. after_sayings (map Ours ours ++ sayings_of gs sent k (later_than 0 v.faultless.spelled)) (Some silent)) part.begun
        ∙ ap (λ ys. after_sayings (map Ours ours ++ sayings_of gs sent 0 ys) (Some silent)) part.later) ∙ said in
        let tail : (gs ≡ []) ⊎ EndsWithBytes gs = ends-tail g gs v.faultless.last in
        let I : List ℕ → Type 0 = λ bs. IsPart (length bs) v.faultless.spelled in
        let B : List ℕ → Type 0 = λ bs. bs ++ all_bytes gs ≡ flat v.faultless.spelled in
        let L : ServerStage → Type 0 = λ st. AreSpelled (limit_at agreed st) agreed v.faultless.spelled in
        let W : List ℕ → Type 0 = λ bs. after_sayings (sayings_of gs sent (length bs) v.faultless.spelled) (Some r.server) ≡ Some end in
        let S : List Sending → Type 0 = λ ss. Awaits agreed gs (sent_by_turns vs (turn u e0) ss) end r.server (turn u e0) v.faultless.spelled in
        let awaits : Awaits agreed gs sent end r.server (turn u e0) v.faultless.spelled =
        record {
          part = subst I (sym r.unread_is) part;
          bytes = subst B (sym r.unread_is) (ap (λ bs. bs ++ all_bytes gs) (sym none) ∙ v.faultless.frames.joined);
          spells = subst L (sym r.stage) spells;
          remains = subst W (sym r.unread_is) (sym (r.says (sayings_of gs sent 0 v.faultless.spelled)) ∙ rest);
        } in
        let left = (turn-sayable options u (asks e0) (answered_in vs) answered.0 sayable).1 in
        goes-on t options whole v.faultless.timely end v.faultless.served.gone gs (drop (length u.notes.auths) answers) (turn u e0) (log_turn u e0 a0) (u ∷ []) g.at r.server r.sending v.faultless.spelled
        is r.stands (first-turn u e0 g gs v.linked (new-wants t new)) v.faultless.short.1 v.faultless.moments.1 answered.1 left tail (subst S r.sends awaits)

-- the promise of the connection is kept, and the session ended Closed
pub valid-opened : (t : Talk) (gs : List Given) (answers : List Asked) → IsNew t → AreAnswered (replayed t gs answers) (begin t) → Valid t gs answers
    → at 0 (talk t (replayed t gs answers)).promises ≡ Some (Some (Ok Connected))
valid-opened t gs answers new answered v = (valid-over t gs answers new answered v).first.held

pub valid-closed : (t : Talk) (gs : List Given) (answers : List Asked) → IsNew t → AreAnswered (replayed t gs answers) (begin t) → Valid t gs answers
    → end_of (talk t (replayed t gs answers)) ≡ Some (Ok tt)
valid-closed t gs answers new answered v = (valid-over t gs answers new answered v).over

-- ---- a run

-- over a port that plays a valid script, of at least as many turns as it has steps
pub run-valid : (n : ℕ) (e e' : Engine) (log log' : Option Log) (before : Exchange → Type 0) → IfSome log (λ a. IsSome a.plan → e'.starved ≡ None → IsPlayed n e e' a log' before)
    → (t : Talk) (gs : List Given) → IsNew t → e ≡ begin t → log ≡ Some (loaded gs) → length gs ≤ n → e'.starved ≡ None → RunsValid n t gs e' log' before
run-valid n e e' log log' before played t gs new from plays enough fed =
    let P : Option Log → Type 0 = λ o. IfSome o (λ a. IsSome a.plan → e'.starved ≡ None → IsPlayed n e e' a log' before) in
    let Q : Engine → Type 0 = λ y. IsPlayed n y e' (loaded gs) log' before in
    of (subst Q from (subst P plays played refl fed))
  where
    of : IsPlayed n (begin t) e' (loaded gs) log' before → RunsValid n t gs e' log' before
    of k =
        let m = length gs in
        let d = n - m in
        let all : n ≡ m + d = omega (arith, enough) in
        let A : ℕ → Type 0 = λ i. AreAnswered (played_turns i k.answers (begin t) (loaded gs)) (begin t) in
        let answered : AreAnswered (replayed t gs k.answers) (begin t) = answered-first m d k.answers (begin t) (loaded gs) (subst A all k.answered) in
        let ends : Valid t gs k.answers → IsOver e'.talk =
        λ v.
        let over = valid-over t gs k.answers new answered v in
        let same : e' ≡ turns (replayed t gs k.answers) (begin t) =
        sym k.engine ∙ ap (λ i. turns (played_turns i k.answers (begin t) (loaded gs)) (begin t)) all
        ∙ ap (λ us. turns us (begin t)) (played-over m d k.answers (begin t) (loaded gs) (ap is_some over.over)) in
        let O : Engine → Type 0 = λ y. IsOver y.talk in
        subst O (sym same) over in
        record { played = k; opened = λ v. (ends v).first.held; closed = λ v. (ends v).over }
