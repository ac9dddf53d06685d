-- The turns of the steps that are left of a script, where each step leads on and says what a faultless server answers.
use Rattle.std.proofs.Common.{◌≡◌, ℕ, suc, ◌+◌, ◌-◌, nat_le, true, false, List, [], ◌∷◌, ◌++◌, length, drop, append_assoc, append-nil, Some, refl, ap, sym, ◌∙◌, subst, arith}
use Rattle.std.specs.Prelude.{map}
use Rattle.std.specs.List.{flat_map, AllByRecursion}
use Rattle.amqp_types.proofs.Small.{if-true, if-false, is-at-most}
use Rattle.std.proofs.lemmas.Bool.Decides.{nat_tests}
use Rattle.amqp_frame.specs.declared.frame.Frame.{Frame}
use Rattle.amqp_frame.specs.Frames.{encoding}
use Rattle.amqp_outbox.specs.declared.item.Item.{Item}
use Rattle.amqp_auth.specs.declared.asked.Question.{Question}
use Rattle.amqp_auth.specs.declared.asked.Asked.{Asked}
use Rattle.amqp_auth.specs.Asking.{Answer, paired}
use Rattle.amqp_rules.specs.Talk.{has_ended}
use Rattle.amqp_faultless.specs.Faultless.{Server, heard_from}
use Rattle.amqp_faultless.specs.Faultless.ServerStage.{Gone}
use Rattle.amqp_engine.specs.declared.given.Given.{Given}
use Rattle.amqp_engine.specs.Plan.{bytes_of, coming_of}
use Rattle.amqp_engine.specs.Log.{Log}
use Rattle.amqp_engine.specs.Engine.{Engine}
use Rattle.amqp_engine.specs.Turn.{Turn, asks, read, turn, cut_questions, exchanges}
use Rattle.amqp_engine.specs.Tell.{log_stepped, log_turn}
use Rattle.amqp_engine.specs.Sending.{Sending, frames, step_sending, turn_sending, sendings_from}
use Rattle.amqp_engine.specs.SentWhole.{said_of}
use Rattle.amqp_engine.specs.Play.{played_turn, played_turns, AreAnswered}
use Rattle.amqp_engine.specs.Valid.{LinkSaying, Theirs, Ours, after_sayings, SpelledFrame, whole_in, later_than, begun_in, sent_by_turns, sayings_of}
use Rattle.amqp_engine.proofs.Commits.{encoding-some}
use Rattle.amqp_engine.proofs.Drained.{said-frames}
use Rattle.amqp_engine.proofs.PlayedOn.{IsOn, on-free, on-stepped, on-turn, on-played}
use Rattle.amqp_generated.proofs.Turning.{turn_with, Sends, Turns}

-- ---- what comes on the link

-- a frame with its written octets
abbrev pub spelled_frame : Frame → SpelledFrame
spelled_frame f = record { octets = encoding f; frame = f }

-- frames with theirs
abbrev pub spelled_frames : List Frame → List SpelledFrame
spelled_frames fs = map spelled_frame fs

some-octets : (f : Frame) → nat_le (length (encoding f)) 0 ≡ false
some-octets f = let some = encoding-some f in grind (arith, nat_tests, some)

-- of no octets no frame is whole
pub whole-none : (fs : List Frame) → whole_in 0 (spelled_frames fs) ≡ []
whole-none [] = refl
whole-none (f ∷ fs) =
    if-false (nat_le (length (encoding f)) 0) (f ∷ whole_in (0 - length (encoding f)) (spelled_frames fs)) [] (some-octets f)

pub begun-none : (fs : List Frame) → begun_in 0 (spelled_frames fs) ≡ 0
begun-none [] = refl
begun-none (f ∷ fs) =
    if-false (nat_le (length (encoding f)) 0) (begun_in (0 - length (encoding f)) (spelled_frames fs)) 0 (some-octets f)

pub later-none : (fs : List Frame) → later_than 0 (spelled_frames fs) ≡ spelled_frames fs
later-none [] = refl
later-none (f ∷ fs) =
    if-false (nat_le (length (encoding f)) 0) (later_than (0 - length (encoding f)) (spelled_frames fs)) (spelled_frames (f ∷ fs)) (some-octets f)

-- what comes in a step, so many octets of what is still to come, is said by the server, and then these items by the
-- client
pub record Hears (came : ℕ) (items : List Item) (s s' : Server) (spelled spelled' : List SpelledFrame) : Type 0 where
  pub begun : begun_in came spelled ≡ 0
  pub later : later_than came spelled ≡ spelled'
  pub says : (rest : List LinkSaying) → after_sayings (map Theirs (whole_in came spelled) ++ map Ours (frames items) ++ rest) (Some s) ≡ after_sayings rest (Some s')

-- nothing comes
pub hears-none : (items : List Item) (s s' : Server) (fs : List Frame) → ((rest : List LinkSaying) → after_sayings (map Ours (frames items) ++ rest) (Some s) ≡ after_sayings rest (Some s'))
    → Hears 0 items s s' (spelled_frames fs) (spelled_frames fs)
hears-none items s s' fs says =
    record {
      begun = begun-none fs;
      later = later-none fs;
      says = λ rest. ap (λ ws. after_sayings (map Theirs ws ++ map Ours (frames items) ++ rest) (Some s)) (whole-none fs) ∙ says rest;
    }

-- one frame comes, and nothing is said
pub hears-one : (f : Frame) (s s' : Server) (fs : List Frame) → heard_from s.stage f s ≡ Some s' → Hears (length (encoding f)) [] s s' (spelled_frames (f ∷ fs)) (spelled_frames fs)
hears-one f s s' fs may =
    let n = length (encoding f) in
    let all : nat_le n n ≡ true = is-at-most n n (omega arith) in
    let none : n - n ≡ 0 = omega arith in
    let none-said : List Item = [] in
    record {
      begun = if-true (nat_le n n) (begun_in (n - n) (spelled_frames fs)) n all ∙ ap (λ k. begun_in k (spelled_frames fs)) none ∙ begun-none fs;
      later =
          if-true (nat_le n n) (later_than (n - n) (spelled_frames fs)) (spelled_frames (f ∷ fs)) all
          ∙ ap (λ k. later_than k (spelled_frames fs)) none ∙ later-none fs;
      says = λ rest.
          ap (λ ws. after_sayings (map Theirs ws ++ map Ours (frames none-said) ++ rest) (Some s))
          (if-true (nat_le n n) (f ∷ whole_in (n - n) (spelled_frames fs)) [] all ∙ ap (λ k. f ∷ whole_in k (spelled_frames fs)) none ∙ ap (λ ws. f ∷ ws) (whole-none fs))
          ∙ ap (after_sayings rest) may;
    }

-- ---- the turns that are left

-- of these turns, with what is to come: they are those that are left, whatever would be answered, and nothing is; all are of the moment 0, all that is committed
-- is sent, and the server says what it may and is gone
pub record GoesAs (us : List Turn) (gs : List Given) (e : Engine) (a : Log) (x : Sending) (s : Server) (spelled : List SpelledFrame) : Type 0 where
  pub played : (answers : List Asked) → played_turns (length gs) answers e a ≡ us
  pub unasked : flat_map (λ (u : Turn). u.notes.auths) us ≡ []
  pub answered : AreAnswered us e
  pub exchanged : exchanges us e ≡ []
  pub moments : AllByRecursion (λ (u : Turn). u.at ≡ 0) us
  pub sending : Sending
  pub more : List Item
  pub only : sendings_from us e (x ∷ []) ≡ sending ∷ []
  pub items_are : sending.committed ≡ x.committed ++ more
  pub all : sending.sent ≡ length sending.committed
  pub server : Server
  pub said : after_sayings (sayings_of gs (sent_by_turns us e (x ∷ [])) 0 spelled) (Some s) ≡ Some server
  pub gone : server.stage ≡ Gone

-- the turns of the steps that are left, where the provider answers nothing more
abbrev pub turns_left : List Given → Engine → Log → List Turn
turns_left gs e a = played_turns (length gs) [] e a

abbrev pub Goes : List Given → Engine → Log → Sending → Server → List SpelledFrame → Type 0
Goes gs e a x s spelled = GoesAs (turns_left gs e a) gs e a x s spelled

-- nothing is left
pub gone-already : (e : Engine) (a : Log) (x : Sending) (s : Server) (spelled : List SpelledFrame) → x.sent ≡ length x.committed → s.stage ≡ Gone → Goes [] e a x s spelled
gone-already e a x s spelled all gone =
    record {
      played = λ answers. refl;
      unasked = refl;
      answered = tt;
      exchanged = refl;
      moments = tt;
      sending = x;
      more = [];
      only = refl;
      items_are = sym (append-nil x.committed);
      all = all;
      server = s;
      said = refl;
      gone = gone;
    }

-- where nothing was answered, nothing was exchanged
paired-none : (questions : List Question) → paired questions [] ≡ []
paired-none [] = refl
paired-none (asked ∷ later) = refl

-- one step more
module _ (g : Given) (gs : List Given) (e e' : Engine) (a : Log) (x : Sending) (s s' : Server) (spelled spelled' : List SpelledFrame) (items : List Item)
    (on : IsOn (g ∷ gs) a.plan) (running : has_ended e.talk ≡ false) (first : g.at ≡ 0) (all : x.sent ≡ length x.committed)
    (turns : Turns (coming_of g) e e' items) (hears : Hears (0 + length (bytes_of g.what)) items s s' spelled spelled') where
  abbrev v : Turn
  v = turn_with (coming_of g) turns.tooks

  abbrev later : Log
  later = log_turn v e a

  abbrev sends : Sends x items (turn_sending v e (x ∷ []))
  sends = turns.sends x all

  turn-is : (answers : List Asked) → played_turn answers e a ≡ v
  turn-is answers =
      on-played answers e g gs a on ∙ turns.played answers a (on-free gs (log_stepped v e a).plan (on-stepped v e g gs a on))

  turns-are : (answers : List Asked) → played_turns (suc (length gs)) answers e a ≡ v ∷ played_turns (length gs) answers e' later
  turns-are answers =
      let none : List Turn = [] in
      let u = played_turn answers e a in
      if-false (has_ended e.talk) none (u ∷ played_turns (length gs) (drop (length u.notes.auths) answers) (turn u e) (log_turn u e a)) running
      ∙ ap (λ (w : Turn). w ∷ played_turns (length gs) (drop (length w.notes.auths) answers) (turn w e) (log_turn w e a)) (turn-is answers)
      ∙ ap (λ (z : Engine). v ∷ played_turns (length gs) answers z later) turns.leads

  said-is : said_of v e (x ∷ []) ≡ frames items
  said-is =
      said-frames (step_sending v.step (asks e) (x ∷ [])) (turn_sending v e (x ∷ [])) [] x sends.sending items (turns.link (x ∷ [])) sends.only all sends.all sends.items_are

  after : (us : List Turn) → GoesAs us gs e' later sends.sending s' spelled' → GoesAs (v ∷ us) (g ∷ gs) e a x s spelled
  after us rest =
      let y = sends.sending in
      let came = 0 + length (bytes_of g.what) in
      let A : List Question → Type 0 = λ qs. Answer qs [] in
      let B : Engine → Type 0 = AreAnswered us in
      let sent = sent_by_turns us (turn v e) (turn_sending v e (x ∷ [])) in
      record {
        played = λ answers. turns-are answers ∙ ap (λ ws. v ∷ ws) (rest.played answers);
        unasked = rest.unasked;
        answered = (subst A (sym turns.asks_nothing) tt, subst B (sym turns.leads) rest.answered);
        exchanged =
            ap (λ xs. xs ++ exchanges us (turn v e)) (paired-none ((read v (asks e)).questions ++ cut_questions v (asks e)))
            ∙ ap (λ z. exchanges us z) turns.leads ∙ rest.exchanged;
        moments = (first, rest.moments);
        sending = rest.sending;
        more = items ++ rest.more;
        only =
            ap (λ z. sendings_from us z (turn_sending v e (x ∷ []))) turns.leads
            ∙ ap (λ ss. sendings_from us e' ss) sends.only
            ∙ rest.only;
        items_are = rest.items_are ∙ ap (λ xs. xs ++ rest.more) sends.items_are ∙ append_assoc x.committed items rest.more;
        all = rest.all;
        server = rest.server;
        said =
            ap (λ fs. after_sayings (map Theirs (whole_in came spelled) ++ map Ours fs ++ sayings_of gs sent (begun_in came spelled) (later_than came spelled)) (Some s)) said-is
            ∙ hears.says (sayings_of gs sent (begun_in came spelled) (later_than came spelled))
            ∙ ap (λ k. after_sayings (sayings_of gs sent k (later_than came spelled)) (Some s')) hears.begun
            ∙ ap (λ zs. after_sayings (sayings_of gs sent 0 zs) (Some s')) hears.later
            ∙ ap (λ z. after_sayings (sayings_of gs (sent_by_turns us z (turn_sending v e (x ∷ []))) 0 spelled') (Some s')) turns.leads
            ∙ ap (λ ss. after_sayings (sayings_of gs (sent_by_turns us e' ss) 0 spelled') (Some s')) sends.only
            ∙ rest.said;
        gone = rest.gone;
      }

  pub goes-on : ((b : Log) (y : Sending) → IsOn gs b.plan → y.sent ≡ length y.committed → Goes gs e' b y s' spelled') → Goes (g ∷ gs) e a x s spelled
  goes-on rest =
      let P : List Turn → Type 0 = λ us. GoesAs us (g ∷ gs) e a x s spelled in
      subst P (sym (turns-are [])) (after (turns_left gs e' later) (rest later sends.sending (on-turn v e g gs a on) sends.all))
