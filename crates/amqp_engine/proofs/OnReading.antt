-- What holds while frames of a faultless server are read: reading goes on, the provider answers what is asked, nothing that waits is too long, the numbers are
-- those that were agreed, and nothing is left unsent.
use Rattle.std.proofs.Common.{◌≡◌, ◌≢◌, ◌≤◌, ℕ, suc, ◌+◌, ◌&&◌, not, min, max, true, List, [], ◌++◌, length, drop, Some, None, refl, ap, sym, ◌∙◌, subst, arith}
use Rattle.amqp_frame.specs.declared.frame.Frame.{Frame}
use Rattle.amqp_frame.specs.declared.frame.Read.{Read}
use Rattle.amqp_frame.specs.declared.frame.Read.TheVariants.{Whole}
use Rattle.amqp_auth.specs.declared.asked.Question.{Question}
use Rattle.amqp_auth.specs.Asking.{Answer}
use Rattle.amqp_settings.specs.Config.{Options}
use Rattle.amqp_rules.specs.Sound.{IsSound}
use Rattle.amqp_rules.specs.Talk.{Talk, is_open, has_ended}
use Rattle.amqp_rules.specs.Changes.{present_at}
use Rattle.amqp_rules.specs.Frames.{on_frame, frame_questions}
use Rattle.amqp_rules.specs.Negotiation.{frame_limit}
use Rattle.amqp_faultless.specs.Faultless.{Server, ServerStage, AreSayable, heard_from}
use Rattle.amqp_faultless.specs.Faultless.ServerStage.{BeforeStart, BeforeTune, BeforeOpenOk, Serving, Gone}
use Rattle.amqp_types.proofs.Small.{if_case, if-true, and-true}
use Rattle.amqp_rules.proofs.SoundChanges.{sound-present}
use Rattle.amqp_rules.proofs.SoundFrames.{sound-frame}
use Rattle.amqp_faultless.proofs.Greeted.{IsMet, AreSaid}
use Rattle.amqp_faultless.proofs.Limits.{limit_at, met-least, met-agreed, met-open, met-gone}
use Rattle.amqp_faultless.proofs.Tells.{met-present}
use Rattle.amqp_faultless.proofs.Modest.{Modest, modest-frame}
use Rattle.amqp_faultless.proofs.Tuned.{first_tune, Tuned, tuned-heard, tuned-serving}
use Rattle.amqp_faultless.proofs.TunedRules.{tuned-present}
use Rattle.amqp_faultless.proofs.Clock.{IsClock}
use Rattle.amqp_engine.specs.Plan.{at_most_64}
use Rattle.amqp_engine.specs.Engine.{Engine, front_of, is_more, can_read, read_row, read_questions, row_questions}
use Rattle.amqp_engine.specs.Turn.{Progress, is_before, goes, read_part}
use Rattle.amqp_engine.proofs.Settling.{settle-talk}
use Rattle.amqp_engine.proofs.LinkKept.{leaves-read}
use Rattle.amqp_engine.proofs.Asks.{told-frame, asked_in, Told}
use Rattle.amqp_engine.proofs.Clocks.{clock-read}
use Rattle.amqp_engine.proofs.Voicing.{IsClear}

-- while frames are read, where these were said before
pub record GoesOn (options : Options) (agreed moment last : ℕ) (fs : List Frame) (n : ℕ) (s : Server) (p : Progress) : Type 0 where
  pub whole : p.cut ≡ None
  pub early : p.at ≤ moment
  pub answered : Answer (asked_in n p) p.answers
  pub sayable : AreSayable options p.answers
  pub modest : Modest options p.engine.talk
  pub sound : IsSound p.engine.talk
  pub clear : IsClear p.engine
  pub clock : IsClock moment last p.engine.talk
  pub tuned : Tuned fs s p.engine.talk
  pub limit : (most heartbeat : ℕ) → first_tune fs ≡ Some (most, heartbeat) → agreed ≤ min 134217728 most

-- and once the last was read
pub record Goodbye (options : Options) (p : Progress) : Type 0 where
  pub whole : p.cut ≡ None
  pub modest : Modest options p.engine.talk
  pub sound : IsSound p.engine.talk
  pub clear : is_open p.engine.talk ≡ true → IsClear p.engine

-- a session that is met is not gone
pub met-here : (s : Server) (t : Talk) → IsMet s t → s.stage ≢ Gone
met-here s t m = met-gone t.state t.phase s t.outbox t.channels t.committed m.meets

module _ (options : Options) (agreed moment last : ℕ) (fs : List Frame) where
  -- no frame is too long
  pub enough-read : (n : ℕ) (p : Progress) (s : Server) → GoesOn options agreed moment last fs n s p → IsMet s p.engine.talk → limit_at agreed s.stage ≤ frame_limit p.engine.talk
  enough-read n p s k m = by s.stage refl where
    least : 4096 ≤ frame_limit p.engine.talk
    least = met-least s p.engine.talk m

    by : (st : ServerStage) → s.stage ≡ st → limit_at agreed st ≤ frame_limit p.engine.talk
    by BeforeStart is = least
    by BeforeTune is = least
    by BeforeOpenOk is = least
    by Serving is =
        let t = p.engine.talk in
        let a = met-agreed s t m (met-open t.state t.phase s t.outbox t.channels t.committed m.meets is) in
        let b = k.limit t.configuration.frame_max t.configuration.heartbeat (tuned-serving fs s t m k.tuned is) in
        omega (arith, a, b)
    by Gone is = absurd (met-here s p.engine.talk m is)

  module _ (n : ℕ) (p : Progress) (s s' : Server) (f : Frame) (size : ℕ) (k : GoesOn options agreed moment last fs (suc n) s p) (m : IsMet s p.engine.talk)
      (front : front_of p.engine ≡ Whole f size) (heard : heard_from s.stage f s ≡ Some s') where
    abbrev t : Talk
    t = present_at p.at p.engine.talk

    abbrev asked : List Question
    asked = frame_questions f t

    reads-now : can_read p.engine ≡ true
    reads-now = and-true (is_open p.engine.talk) (not (is_more (front_of p.engine))) m.opened (ap (λ y. not (is_more y)) front)

    goes-now : (goes p && can_read p.engine) ≡ true
    goes-now = and-true (goes p) (can_read p.engine) (ap (λ c. is_before c p.done) k.whole) reads-now

    asks-now : read_questions p.at p.engine ≡ asked
    asks-now = ap (λ (r : Read). row_questions p.at r p.engine) front

    asks-first : asked_in (suc n) p ≡ asked ++ asked_in n (read_part p)
    asks-first =
        if-true (goes p && can_read p.engine) (read_questions p.at p.engine ++ asked_in n (read_part p)) [] goes-now
        ∙ ap (λ qs. qs ++ asked_in n (read_part p)) asks-now

    told-now : Told options (asked_in n (read_part p)) p.answers asked
    told-now =
        let P : List Question → Type 0 = λ qs. Answer qs p.answers in
        told-frame options (asked_in n (read_part p)) p.answers f t (subst P asks-first k.answered) k.sayable

    -- what is asked is answered
    pub said-read : AreSaid asked p.answers
    said-read = told-now.0

    told : (read_part p).engine.talk ≡ on_frame f p.answers t
    told =
        let z : Engine = record p.engine { talk = on_frame f p.answers t; unread = drop size p.engine.unread; place = at_most_64 (p.engine.place + size) } in
        ap (λ (r : Read). (read_row p.at r p.answers p.engine).talk) front ∙ settle-talk z

    modest-now : Modest options (read_part p).engine.talk
    modest-now =
        let Q : Talk → Type 0 = Modest options in
        let held = k.modest in
        let now : Modest options t = if_case Q (has_ended p.engine.talk) p.engine.talk (record p.engine.talk { present = max p.engine.talk.present p.at }) held held in
        subst Q (sym told) (modest-frame options f p.answers t k.sayable now)

    sound-now : IsSound (read_part p).engine.talk
    sound-now = let Q : Talk → Type 0 = IsSound in subst Q (sym told) (sound-frame f p.answers t (sound-present p.at p.engine.talk k.sound))

    clear-now : is_open (read_part p).engine.talk ≡ true → IsClear (read_part p).engine
    clear-now now =
        let left = leaves-read p.at p.answers p.engine now in
        record { marks = left.committed ∙ k.clear.marks; bytes = left.unsent ∙ k.clear.bytes }

    -- and reading goes on
    pub kept-read : IsMet s' (read_part p).engine.talk → GoesOn options agreed moment last fs n s' (read_part p)
    kept-read met' =
        let Q : Talk → Type 0 = Tuned fs s' in
        let M : Talk → Type 0 = IsMet s' in
        let A : List Question → Type 0 = λ qs. Answer (asked_in n (read_part p)) (drop (length qs) p.answers) in
        let S : List Question → Type 0 = λ qs. AreSayable options (drop (length qs) p.answers) in
        record {
          whole = k.whole;
          early = k.early;
          answered = subst A (sym asks-now) told-now.1;
          sayable = subst S (sym asks-now) told-now.2;
          modest = modest-now;
          sound = sound-now;
          clear = clear-now met'.opened;
          clock = clock-read moment last p.at p.answers p.engine k.early k.clock;
          tuned = subst Q (sym told)
              (tuned-heard f p.answers fs s s' t (met-present p.at s p.engine.talk m) (tuned-present p.at fs s p.engine.talk k.tuned) heard said-read (subst M told met'));
          limit = k.limit;
        }

    -- or this was the last
    pub gives-read : Goodbye options (read_part p)
    gives-read = record { whole = k.whole; modest = modest-now; sound = sound-now; clear = clear-now }
