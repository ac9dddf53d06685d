-- A turn of a script of a faultless server keeps the tie of the server with the session, or ends the session Closed.
use Rattle.std.proofs.Common.{◌≡◌, ◌≤◌, ◌⊎◌, inl, inr, ℕ, ◌+◌, min, false, List, [], ◌∷◌, ◌++◌, length, length-append, append_assoc, Some, None, refl, ap, sym, ◌∙◌, subst, arith}
use Rattle.std.specs.Prelude.{map}
use Rattle.amqp_frame.specs.declared.frame.Frame.{Frame}
use Rattle.amqp_auth.specs.declared.asked.Asked.{Asked}
use Rattle.amqp_auth.specs.Asking.{Answer}
use Rattle.amqp_settings.specs.Config.{Options}
use Rattle.amqp_rules.specs.Sound.{IsSound}
use Rattle.amqp_rules.specs.Talk.{Talk, has_ended}
use Rattle.amqp_faultless.specs.Faultless.{Server, ServerStage, AreSayable}
use Rattle.amqp_faultless.specs.Faultless.ServerStage.{Gone}
use Rattle.amqp_types.proofs.Small.{if-true, if-false}
use Rattle.amqp_faultless.proofs.Greeted.{IsMet, IsOver, Leaves}
use Rattle.amqp_faultless.proofs.Speaks.{said_all}
use Rattle.amqp_faultless.proofs.Limits.{limit_at}
use Rattle.amqp_faultless.proofs.Modest.{Modest}
use Rattle.amqp_faultless.proofs.Clock.{IsClock}
use Rattle.amqp_faultless.proofs.Tuned.{first_tune, Tuned}
use Rattle.amqp_faultless.proofs.Open.{open-runs}
use Rattle.amqp_engine.specs.declared.given.Given.{Given}
use Rattle.amqp_engine.specs.declared.given.GivenStep.{GivenStep}
use Rattle.amqp_engine.specs.declared.given.GivenStep.TheVariants as given
use Rattle.amqp_engine.specs.declared.port.Step.TheVariants.{Piece, Tick}
use Rattle.amqp_engine.specs.Plan.{coming_of, step_of, bytes_of}
use Rattle.amqp_engine.specs.Log.{Log}
use Rattle.amqp_engine.specs.Engine.{Engine, begin, step_engine, step_piece}
use Rattle.amqp_engine.specs.declared.port.Wrote.{Wrote}
use Rattle.amqp_engine.specs.Turn.{Turn, Progress, write_answers, asks, begun, part, questioned, step_part, reads, read, after_writes, drained, turn, turns, starved_after, is_piece}
use Rattle.amqp_engine.specs.Tell.{log_stepped}
use Rattle.amqp_engine.specs.Sending.{Sending, frames, step_sending, turn_sending, sendings, offers_sending}
use Rattle.amqp_engine.specs.Play.{offers_waiting, played_writes, played_turn_of}
use Rattle.amqp_engine.specs.SentWhole.{said_of}
use Rattle.amqp_engine.specs.Valid.{SpelledFrame, LinkSaying, Theirs, Ours, AreSpelled, IsQuiet, IsShort, after_sayings, whole_in, later_than, begun_in, all_bytes, sayings_of, last_piece}
use Rattle.amqp_engine.proofs.Over.{turn-is}
use Rattle.amqp_engine.proofs.Lifting.{stays-step}
use Rattle.amqp_engine.proofs.Follows.{IsCalm, met-step, met-asks, piece-unread}
use Rattle.amqp_engine.proofs.Heeding.{flat, Heeded}
use Rattle.amqp_engine.proofs.Asks.{said_later, asked_in}
use Rattle.amqp_engine.proofs.Hearkens.{hearkens, answers-reads}
use Rattle.amqp_engine.proofs.Draining.{IsFree, said_in}
use Rattle.amqp_engine.proofs.Voicing.{IsClear, ours-said}
use Rattle.amqp_engine.proofs.Drained.{said-frames}
use Rattle.amqp_engine.proofs.PlayedOn.{IsOn, on-free, on-stepped}
use Rattle.amqp_engine.proofs.Timely.{last-piece-next}
use Rattle.amqp_engine.proofs.Clocks.{clock-step}
use Rattle.amqp_engine.proofs.Uncut.{played-uncut}
use Rattle.amqp_engine.proofs.Grown.{sendings-joined}
use Rattle.amqp_engine.proofs.Running.{turns-append}
use Rattle.amqp_engine.proofs.OnReading.{GoesOn, Goodbye}
use Rattle.amqp_engine.proofs.Stepping.{IsBrief, sound-step, modest-step, tuned-step, clear-step, quiet-unread, part-engine, part-piece}
use Rattle.amqp_engine.proofs.Farewell.{farewell}
use Rattle.amqp_engine.proofs.Begun.{IsPart, part-left, none-left}
use Rattle.amqp_engine.proofs.Turned.{writes-of, said-stage, Writes, IsWritten, is-written}

-- ---- where it stands between turns

-- after these turns, at this moment: the server and the session stand as they do, and all that was committed on the link was sent
pub record Stands (t : Talk) (options : Options) (before : List Turn) (moment : ℕ) (s : Server) (x : Sending) (e : Engine) : Type 0 where
  pub met : IsMet s e.talk
  pub sound : IsSound e.talk
  pub modest : Modest options e.talk
  pub clear : IsClear e
  pub sent : x.sent ≡ length x.committed
  pub clock : IsClock moment (last_piece 0 before) e.talk
  pub tuned : Tuned (frames x.committed) s e.talk
  pub leads : turns before (begin t) ≡ e
  pub only : sendings t before ≡ x ∷ []

-- ---- the writes of a turn

-- a turn that is not cut is its writes
whole-turn : (u : Turn) (e : Engine) → has_ended e.talk ≡ false → u.notes.starved ≡ None → turn u e ≡ (after_writes u (asks e)).engine
whole-turn u e running whole = turn-is u e running ∙ ap (λ o. starved_after o u.at (after_writes u (asks e)).engine) whole

-- what a turn says, and where it stands after it
pub record Rounded (t : Talk) (options : Options) (before : List Turn) (u : Turn) (e : Engine) (ss : List Sending) (s : Server) (unread : List ℕ) : Type 0 where
  pub server : Server
  pub sending : Sending
  pub stands : Stands t options (before ++ u ∷ []) u.at server sending (turn u e)
  pub stage : server.stage ≡ s.stage
  pub sends : turn_sending u e ss ≡ sending ∷ []
  pub unread_is : (turn u e).unread ≡ unread
  pub says : (rest : List LinkSaying) → after_sayings (map Ours (said_of u e ss) ++ rest) (Some s) ≡ after_sayings rest (Some server)

module _ (t : Talk) (options : Options) (before : List Turn) (u : Turn) (e : Engine) (ss : List Sending) (x : Sending) (a : Log) where
  abbrev p : Progress
  p = read u (asks e)

  abbrev last : ℕ
  last = last_piece 0 (before ++ u ∷ [])

  -- from what was read on
  pub rounds : (s : Server) → has_ended e.talk ≡ false → u.notes.starved ≡ None → p.at ≤ u.at
      → write_answers u.notes ≡ write_answers (played_writes (offers_waiting p.engine) p a) → IsFree a.plan
      → step_sending u.step (asks e) ss ≡ x ∷ [] → turns before (begin t) ≡ e → sendings t before ≡ ss
      → IsSound p.engine.talk → IsClear p.engine → x.sent ≡ length x.committed → IsMet s p.engine.talk
      → Modest options p.engine.talk → IsClock u.at last p.engine.talk → Tuned (frames x.committed) s p.engine.talk
      → Rounded t options before u e ss s p.engine.unread
  rounds s running whole early notes free linked leads only sound clear all met modest clock tuned =
      let unread = p.engine.unread in
      let played = write_answers (played_writes (offers_waiting p.engine) p a) in
      let W : List Wrote → Type 0 = λ zs. IsWritten options u.at last unread p (drained zs p) s zs [] x in
      let d = subst W (sym notes) (is-written options u.at last unread [] (offers_waiting p.engine) p a s x early free sound (modest, clock, tuned, refl) clear all met) in
      let after : turn u e ≡ (drained (write_answers u.notes) p).engine = whole-turn u e running whole in
      let items = said_in (write_answers u.notes) p in
      let server : Server = said_all items s in
      let sends : turn_sending u e ss ≡ d.sending ∷ [] = ap (offers_sending (write_answers u.notes) p) linked ∙ d.sent in
      let M : Engine → Type 0 = λ y. IsMet server y.talk in
      let S : Engine → Type 0 = λ y. IsSound y.talk in
      let F : Engine → Type 0 = λ y. Writes options u.at last unread server d.sending y in
      let short = subst F (sym after) d.short in
      let said = said-frames (step_sending u.step (asks e) ss) (turn_sending u e ss) [] x d.sending items linked sends all d.all d.items in
      record {
        server = server;
        sending = d.sending;
        stands = record {
          met = subst M (sym after) d.met;
          sound = subst S (sym after) d.sound;
          modest = short.0;
          clear = subst IsClear (sym after) d.clear;
          sent = d.all;
          clock = short.1;
          tuned = short.2;
          leads = turns-append before (u ∷ []) (begin t) ∙ ap (turns (u ∷ [])) leads;
          only = sendings-joined t before (u ∷ []) ∙ ap (λ (y : Engine). turn_sending u y (sendings t before)) leads ∙ ap (turn_sending u e) only ∙ sends;
        };
        stage = said-stage items s;
        sends = sends;
        unread_is = short.3;
        says = λ rest. ap (λ fs. after_sayings (map Ours fs ++ rest) (Some s)) said ∙ ours-said items rest s;
      }

-- ---- a turn on the link

-- a quiet step is calm, where no heartbeat is missed
pub calm-of : (g : Given) (t : Talk) → IsQuiet g.what → (step_of g.what ≡ Tick → IsCalm g.at Tick t) → IsCalm g.at (step_of g.what) t
calm-of g t quiet heard = by g.what quiet heard where
  by : (what : GivenStep) → IsQuiet what → (step_of what ≡ Tick → IsCalm g.at Tick t) → IsCalm g.at (step_of what) t
  by (given.Link room) q h = absurd q
  by given.Refuse q h = absurd q
  by (given.Bytes bytes) q h = tt
  by given.End q h = absurd q
  by given.Fault q h = absurd q
  by (given.Room n) q h = tt
  by given.WriteFail q h = absurd q
  by given.Tick q h = h refl
  by (given.Command c) q h = tt

brief-of : (what : GivenStep) → IsShort what → IsBrief (step_of what)
brief-of (given.Link room) h = tt
brief-of given.Refuse h = tt
brief-of (given.Bytes bytes) h = tt
brief-of given.End h = tt
brief-of given.Fault h = tt
brief-of (given.Room n) h = tt
brief-of given.WriteFail h = tt
brief-of given.Tick h = tt
brief-of (given.Command c) h = h

-- such a step brings no link
unlinked : (what : GivenStep) (e : Engine) (ss : List Sending) → IsQuiet what → step_sending (step_of what) e ss ≡ ss
unlinked (given.Link room) e ss q = absurd q
unlinked given.Refuse e ss q = refl
unlinked (given.Bytes bytes) e ss q = refl
unlinked given.End e ss q = refl
unlinked given.Fault e ss q = refl
unlinked (given.Room n) e ss q = refl
unlinked given.WriteFail e ss q = refl
unlinked given.Tick e ss q = refl
unlinked (given.Command c) e ss q = refl

-- where all spelled octets that have come were read, and what is still to come
pub record Awaits (agreed : ℕ) (gs : List Given) (sent : List (List Frame)) (end : Server) (s : Server) (e : Engine) (spelled : List SpelledFrame) : Type 0 where
  pub part : IsPart (length e.unread) spelled
  pub bytes : e.unread ++ all_bytes gs ≡ flat spelled
  pub spells : AreSpelled (limit_at agreed s.stage) agreed spelled
  pub remains : after_sayings (sayings_of gs sent (length e.unread) spelled) (Some s) ≡ Some end

-- after a turn: it stands again, and the rest is to come; or the session ended, and nothing is to come
pub record Onward (t : Talk) (options : Options) (agreed : ℕ) (before : List Turn) (u : Turn) (e : Engine) (ss : List Sending) (gs : List Given) (sent : List (List Frame)) (end : Server)
    : Type 0 where
  pub server : Server
  pub sending : Sending
  pub spelled : List SpelledFrame
  pub stands : Stands t options (before ++ u ∷ []) u.at server sending (turn u e)
  pub sends : turn_sending u e ss ≡ sending ∷ []
  pub awaits : Awaits agreed gs sent end server (turn u e) spelled

module _ (t : Talk) (options : Options) (agreed : ℕ) (before : List Turn) (moment : ℕ) (g : Given) (gs : List Given) (answers : List Asked) (e : Engine) (a : Log) (s : Server) (x : Sending)
    (sent : List (List Frame)) (end : Server) (spelled : List SpelledFrame) where
  abbrev u : Turn
  u = played_turn_of (coming_of g) answers e a

  abbrev auths : List Asked
  auths = u.notes.auths

  abbrev said : List Frame
  said = said_of u e (x ∷ [])

  module _ (h : Stands t options before moment s x e) (on : IsOn (g ∷ gs) a.plan) (short : IsShort g.what) (rise : moment ≤ g.at)
      (heard : step_of g.what ≡ Tick → IsCalm g.at Tick e.talk) (answered : Answer (read u (asks e)).questions auths) (taken_sayable : AreSayable options auths)
      (limit : (most heartbeat : ℕ) → first_tune (frames x.committed) ≡ Some (most, heartbeat) → agreed ≤ min 134217728 most)
      (awaits : Awaits agreed (g ∷ gs) (said ∷ sent) end s e spelled) where
    running : has_ended e.talk ≡ false
    running = open-runs e.talk h.met.opened

    whole : u.notes.starved ≡ None
    whole = played-uncut (coming_of g) answers e a

    here : asks e ≡ e
    here = met-asks s e h.met

    calm : IsCalm g.at (step_of g.what) e.talk
    calm = calm-of g e.talk on.quiet.0 heard

    abbrev p0 : Progress
    p0 = begun g.at u.notes.starved auths e

    abbrev p1 : Progress
    p1 = step_part (step_of g.what) (bytes_of g.what) p0

    abbrev e1 : Engine
    e1 = step_engine g.at (step_of g.what) (bytes_of g.what) auths e

    stepped : p1.engine ≡ e1
    stepped = part-engine (step_of g.what) (bytes_of g.what) p0 whole

    -- what the step leaves
    met1 : IsMet s p1.engine.talk
    met1 = let P : Engine → Type 0 = λ y. IsMet s y.talk in subst P (sym stepped) (met-step g.at (step_of g.what) (bytes_of g.what) auths s e calm h.met)

    sound1 : IsSound p1.engine.talk
    sound1 = let P : Engine → Type 0 = λ y. IsSound y.talk in subst P (sym stepped) (sound-step g.at (bytes_of g.what) auths e (step_of g.what) calm h.sound)

    modest1 : Modest options p1.engine.talk
    modest1 =
        let P : Engine → Type 0 = λ y. Modest options y.talk in
        subst P (sym stepped) (modest-step g.at (bytes_of g.what) auths e options (step_of g.what) calm taken_sayable (brief-of g.what short) h.modest)

    clear1 : IsClear p1.engine
    clear1 = let P : Engine → Type 0 = IsClear in subst P (sym stepped) (clear-step g.at (bytes_of g.what) auths e s (step_of g.what) calm h.met h.clear)

    clock1 : IsClock g.at (last_piece 0 (before ++ u ∷ [])) p1.engine.talk
    clock1 =
        let P : Engine → Type 0 = λ y. IsClock g.at (last_piece 0 (before ++ u ∷ [])) y.talk in
        let Q : ℕ → Type 0 = λ k. IsClock g.at k e1.talk in
        subst P (sym stepped)
        (subst Q (sym (last-piece-next 0 before u)) (clock-step moment (last_piece 0 before) g.at (step_of g.what) (bytes_of g.what) auths s e rise calm h.met h.clock))

    tuned1 : Tuned (frames x.committed) s p1.engine.talk
    tuned1 =
        let P : Engine → Type 0 = λ y. Tuned (frames x.committed) s y.talk in
        subst P (sym stepped) (tuned-step g.at (bytes_of g.what) auths e (frames x.committed) s (step_of g.what) calm h.met h.tuned)

    early1 : p1.at ≡ g.at
    early1 = stays-step (λ (q : Progress). q.at) (λ f n left qs q. refl) (step_of g.what) (bytes_of g.what) p0

    whole1 : p1.cut ≡ None
    whole1 = stays-step (λ (q : Progress). q.cut) (λ f n left qs q. refl) (step_of g.what) (bytes_of g.what) p0 ∙ whole

    -- it writes what it may, and the rest is to come
    goes-further : (q : Progress) → read u (asks e) ≡ q → (s2 : Server) (left : List SpelledFrame) → q.at ≤ g.at → IsMet s2 q.engine.talk → IsSound q.engine.talk → Modest options q.engine.talk
        → IsClear q.engine → IsClock g.at (last_piece 0 (before ++ u ∷ [])) q.engine.talk → Tuned (frames x.committed) s2 q.engine.talk
        → IsPart (length q.engine.unread) left → q.engine.unread ++ all_bytes gs ≡ flat left → AreSpelled (limit_at agreed s2.stage) agreed left
        → after_sayings (map Ours said ++ sayings_of gs sent (length q.engine.unread) left) (Some s2) ≡ Some end
        → Onward t options agreed before u e (x ∷ []) gs sent end
    goes-further q is s2 left early met sound modest clear clock tuned part bytes spells remains =
        let E : Progress → Type 0 = λ y. Rounded t options before u e (x ∷ []) s2 y.engine.unread in
        let P : Progress → Type 0 = λ y. y.at ≤ g.at in
        let S : Progress → Type 0 = λ y. IsSound y.engine.talk in
        let C : Progress → Type 0 = λ y. IsClear y.engine in
        let M : Progress → Type 0 = λ y. IsMet s2 y.engine.talk in
        let O : Progress → Type 0 = λ y. Modest options y.engine.talk in
        let K : Progress → Type 0 = λ y. IsClock g.at (last_piece 0 (before ++ u ∷ [])) y.engine.talk in
        let T : Progress → Type 0 = λ y. Tuned (frames x.committed) s2 y.engine.talk in
        let back = sym is in
        let r : Rounded t options before u e (x ∷ []) s2 q.engine.unread =
        subst E is
        (rounds t options before u e (x ∷ []) x (log_stepped u e a) s2 running whole (subst P back early) (writes-of (coming_of g) answers e a)
        (on-free gs (log_stepped u e a).plan (on-stepped u e g gs a on)) (unlinked g.what (asks e) (x ∷ []) on.quiet.0) h.leads h.only
        (subst S back sound) (subst C back clear) h.sent (subst M back met) (subst O back modest) (subst K back clock) (subst T back tuned)) in
        let same : (turn u e).unread ≡ q.engine.unread = r.unread_is in
        let I : List ℕ → Type 0 = λ bs. IsPart (length bs) left in
        let B : List ℕ → Type 0 = λ bs. bs ++ all_bytes gs ≡ flat left in
        let L : ServerStage → Type 0 = λ st. AreSpelled (limit_at agreed st) agreed left in
        let R : List ℕ → Type 0 = λ bs. after_sayings (sayings_of gs sent (length bs) left) (Some r.server) ≡ Some end in
        record {
          server = r.server;
          sending = r.sending;
          spelled = left;
          stands = r.stands;
          sends = r.sends;
          awaits = record {
            part = subst I (sym same) part;
            bytes = subst B (sym same) bytes;
            spells = subst L (sym r.stage) spells;
            remains = subst R (sym same) (sym (r.says (sayings_of gs sent (length q.engine.unread) left)) ∙ remains);
          };
        }

    -- a step that brings no piece
    quiet-turn : is_piece (step_of g.what) ≡ false → bytes_of g.what ≡ [] → ((n : ℕ) → step_of g.what ≡ Piece n → ⊥) → Onward t options agreed before u e (x ∷ []) gs sent end
    quiet-turn still none other =
        let is : read u (asks e) ≡ p1 =
        ap (λ (y : Engine). read u y) here ∙ if-false (is_piece (step_of g.what)) (reads (length p1.engine.unread) p1) p1 still in
        let same : p1.engine.unread ≡ e.unread =
        ap (λ (y : Engine). y.unread) stepped ∙ quiet-unread g.at (step_of g.what) (bytes_of g.what) auths s e calm other h.met in
        let I : List ℕ → Type 0 = λ bs. IsPart (length bs) spelled in
        let B : List ℕ → Type 0 = λ bs. bs ++ all_bytes gs ≡ flat spelled in
        let n = length e.unread in
        let came : n + length (bytes_of g.what) ≡ n = (let k = ap length none in omega (arith, k)) in
        let now : after_sayings (map Theirs (whole_in n spelled) ++ map Ours said ++ sayings_of gs sent (begun_in n spelled) (later_than n spelled)) (Some s) ≡ Some end =
        sym (ap (λ k. after_sayings (map Theirs (whole_in k spelled) ++ map Ours said ++ sayings_of gs sent (begun_in k spelled) (later_than k spelled)) (Some s)) came) ∙ awaits.remains in
        let part = awaits.part in
        let rest : after_sayings (map Ours said ++ sayings_of gs sent n spelled) (Some s) ≡ Some end =
        sym (ap (λ fs. after_sayings (map Theirs fs ++ map Ours said ++ sayings_of gs sent (begun_in n spelled) (later_than n spelled)) (Some s)) part.whole
        ∙ ap (λ k. after_sayings (map Ours said ++ sayings_of gs sent k (later_than n spelled)) (Some s)) part.begun
        ∙ ap (λ ys. after_sayings (map Ours said ++ sayings_of gs sent n ys) (Some s)) part.later) ∙ now in
        let R : List ℕ → Type 0 = λ bs. after_sayings (map Ours said ++ sayings_of gs sent (length bs) spelled) (Some s) ≡ Some end in
        let all : e.unread ++ all_bytes gs ≡ flat spelled = ap (λ bs. e.unread ++ (bs ++ all_bytes gs)) (sym none) ∙ awaits.bytes in
        goes-further p1 is s spelled (omega (arith, early1)) met1 sound1 modest1 clear1 clock1 tuned1
        (subst I (sym same) part) (subst B (sym same) all) awaits.spells (subst R (sym same) rest)

    -- a piece
    abbrev Ends : Type 0
    Ends = (gs ≡ []) × IsOver (turn u e).talk

    piece-turn : (bytes : List ℕ) → g.what ≡ given.Bytes bytes → (all_bytes gs ≡ [] → gs ≡ []) → Onward t options agreed before u e (x ∷ []) gs sent end ⊎ Ends
    piece-turn bytes piece tail = heard_all d.stands where
      n : ℕ
      n = length p1.engine.unread

      q : Progress
      q = reads n p1

      is : read u (asks e) ≡ q
      is =
          ap (λ (y : Engine). read u y) here
          ∙ if-true (is_piece (step_of g.what)) q p1 (ap (λ what. is_piece (step_of what)) piece)

      one : p1 ≡ part (step_piece g.at bytes e) (questioned [] p0)
      one = ap (λ what. step_part (step_of what) (bytes_of what) p0) piece ∙ part-piece (length bytes) bytes p0 whole h.met.opened

      given_bytes : bytes_of g.what ≡ bytes
      given_bytes = ap bytes_of piece

      unread : p1.engine.unread ≡ e.unread ++ bytes
      unread = ap (λ (y : Progress). y.engine.unread) one ∙ piece-unread g.at bytes s e h.met

      size : n ≡ length e.unread + length (bytes_of g.what)
      size = ap length unread ∙ length-append e.unread bytes ∙ ap (λ (bs : List ℕ). length e.unread + length bs) (sym given_bytes)

      all : p1.engine.unread ++ all_bytes gs ≡ flat spelled
      all =
          ap (λ bs. bs ++ all_bytes gs) unread ∙ append_assoc e.unread bytes (all_bytes gs)
          ∙ ap (λ bs. e.unread ++ (bs ++ all_bytes gs)) (sym given_bytes) ∙ awaits.bytes

      goes : GoesOn options agreed g.at (last_piece 0 (before ++ u ∷ [])) (frames x.committed) n s p1
      goes =
          let A : List Asked → Type 0 = λ zs. Answer (asked_in n p1) zs in
          let R : Progress → Type 0 = λ y. Answer y.questions auths in
          let left : p1.answers ≡ auths = ap (λ (y : Progress). y.answers) one in
          record {
            whole = whole1;
            early = omega (arith, early1);
            answered = subst A (sym left) (answers-reads n p1 auths (ap (λ (y : Progress). y.questions) one) (subst R is answered));
            sayable = (let S : List Asked → Type 0 = AreSayable options in subst S (sym left) taken_sayable);
            modest = modest1;
            sound = sound1;
            clear = clear1;
            clock = clock1;
            tuned = tuned1;
            limit = limit;
          }

      later : List LinkSaying
      later = sayings_of gs sent (begun_in n spelled) (later_than n spelled)

      remains : after_sayings (map Theirs (whole_in n spelled) ++ (map Ours said ++ later)) (Some s) ≡ Some end
      remains =
          ap (λ ys. after_sayings ys (Some s)) (sym (append_assoc (map Theirs (whole_in n spelled)) (map Ours said) later))
          ∙ ap (λ k. after_sayings (map Theirs (whole_in k spelled) ++ map Ours said ++ sayings_of gs sent (begun_in k spelled) (later_than k spelled)) (Some s)) size
          ∙ awaits.remains

      d : Heeded agreed (all_bytes gs) (said_later said gs sent) end (GoesOn options agreed g.at (last_piece 0 (before ++ u ∷ [])) (frames x.committed)) (Goodbye options) q n spelled
      d = hearkens options agreed g.at (last_piece 0 (before ++ u ∷ [])) (frames x.committed) said gs sent end spelled n p1 s (omega arith) met1 goes all awaits.spells remains

      none-of : (xs : List ℕ) → length xs ≤ 0 → xs ≡ []
      none-of [] le = refl
      none-of (y ∷ ys) le = absurd (omega (arith, le))

      -- each frame that came was heard
      heard_all :
          (IsMet d.server q.engine.talk
          × ((k : ℕ) × GoesOn options agreed g.at (last_piece 0 (before ++ u ∷ [])) (frames x.committed) k d.server q)
          × (q.engine.unread ++ all_bytes gs ≡ flat d.left) × (length q.engine.unread ≡ d.begun) × AreSpelled (limit_at agreed d.server.stage) agreed d.left)
          ⊎ ((d.server.stage ≡ Gone) × (d.left ≡ []) × Goodbye options q × (IsOver q.engine.talk ⊎ Leaves q.engine.talk))
          → Onward t options agreed before u e (x ∷ []) gs sent end ⊎ Ends
      heard_all (inl stands) =
          let k = stands.1.1 in
          let I : ℕ → Type 0 = λ m. IsPart m (later_than n spelled) in
          let J : List SpelledFrame → Type 0 = λ ys. IsPart (length q.engine.unread) ys in
          let part : IsPart (length q.engine.unread) d.left = subst J d.is_left (subst I (d.is_begun ∙ sym stands.3) (part-left n spelled)) in
          let R : ℕ → Type 0 = λ m. after_sayings (map Ours said ++ sayings_of gs sent m d.left) (Some d.server) ≡ Some end in
          inl (goes-further q is d.server d.left k.early stands.0 k.sound k.modest k.clear k.clock k.tuned part stands.2 stands.4 (subst R (sym stands.3) d.after))
      heard_all (inr gone) =
          let came = none-left n spelled (d.is_left ∙ gone.1) in
          let sum = ap length all in
          let parts = length-append p1.engine.unread (all_bytes gs) in
          let none : all_bytes gs ≡ [] = none-of (all_bytes gs) (omega (arith, came, sum, parts)) in
          let b = log_stepped u e a in
          let P : Engine → Type 0 = λ y. IsOver y.talk in
          let over : IsOver (drained (write_answers (played_writes (offers_waiting q.engine) q b)) q).engine.talk =
          farewell options q b gone.2 (on-free gs b.plan (on-stepped u e g gs a on)) gone.3 in
          let E : Progress → Type 0 = λ y. IsOver (drained (write_answers (played_writes (offers_waiting y.engine) y b)) y).engine.talk in
          let N : List Wrote → Type 0 = λ ws. IsOver (drained ws (read u (asks e))).engine.talk in
          inr (tail none, subst P (sym (whole-turn u e running whole)) (subst N (sym (writes-of (coming_of g) answers e a)) (subst E (sym is) over)))

    -- any step
    pub onward : (all_bytes gs ≡ [] → gs ≡ []) → Onward t options agreed before u e (x ∷ []) gs sent end ⊎ Ends
    onward tail = by g.what refl on.quiet.0 where
      quiet : (what : GivenStep) → g.what ≡ what → is_piece (step_of what) ≡ false → bytes_of what ≡ [] → ((n : ℕ) → step_of what ≡ Piece n → ⊥)
          → Onward t options agreed before u e (x ∷ []) gs sent end ⊎ Ends
      quiet what same still none other =
          let P : GivenStep → Type 0 = λ w. is_piece (step_of w) ≡ false in
          let B : GivenStep → Type 0 = λ w. bytes_of w ≡ [] in
          let O : GivenStep → Type 0 = λ w. (n : ℕ) → step_of w ≡ Piece n → ⊥ in
          inl (quiet-turn (subst P (sym same) still) (subst B (sym same) none) (subst O (sym same) other))

      by : (what : GivenStep) → g.what ≡ what → IsQuiet what → Onward t options agreed before u e (x ∷ []) gs sent end ⊎ Ends
      by (given.Link room) same q = absurd q
      by given.Refuse same q = absurd q
      by (given.Bytes bytes) same q = piece-turn bytes same tail
      by given.End same q = absurd q
      by given.Fault same q = absurd q
      by (given.Room n) same q = quiet (given.Room n) same refl refl (λ k bad. cc)
      by given.WriteFail same q = absurd q
      by given.Tick same q = quiet given.Tick same refl refl (λ k bad. cc)
      by (given.Command c) same q = quiet (given.Command c) same refl refl (λ k bad. cc)
