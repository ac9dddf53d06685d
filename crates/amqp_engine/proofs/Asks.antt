-- What reading all frames that have come rests on: the provider answers what they ask, and none comes once the server is gone.
use Rattle.std.proofs.Common.{◌≡◌, ◌<◌, ℕ, zero, suc, ◌+◌, ◌-◌, ◌&&◌, nat_le, if◌then◌else◌, Bool, true, false, List, [], ◌∷◌, ◌++◌, length, length-append, drop, Some, None, refl, ap, sym, ◌∙◌, arith}
use Rattle.std.specs.Prelude.{map}
use Rattle.std.proofs.lemmas.Bool.Decides.{nat_tests}
use Rattle.amqp_frame.specs.declared.frame.Frame.{Frame}
use Rattle.amqp_frame.specs.declared.frame.Frame.TheVariants.{Method}
use Rattle.amqp_frame.specs.declared.method.Method.{Method as AnyMethod}
use Rattle.amqp_frame.specs.declared.method.Method.TheVariants.{Start, Secure}
use Rattle.amqp_promise.specs.declared.state.ConnectionState.{ConnectionState}
use Rattle.amqp_promise.specs.declared.state.ConnectionState.TheVariants.{Connecting}
use Rattle.amqp_rules.specs.declared.state.Phase.{Phase}
use Rattle.amqp_rules.specs.declared.state.Phase.TheVariants.{AwaitStart, AwaitTune}
use Rattle.amqp_auth.specs.declared.asked.Question.{Question}
use Rattle.amqp_auth.specs.declared.asked.Asked.{Asked}
use Rattle.amqp_auth.specs.Asking.{Answer}
use Rattle.amqp_settings.specs.Config.{Options}
use Rattle.amqp_rules.specs.Talk.{Talk, acts}
use Rattle.amqp_rules.specs.Frames.{method_questions, questions_in, frame_questions}
use Rattle.amqp_faultless.specs.Faultless.{Server, AreSayable, said_to}
use Rattle.amqp_faultless.specs.Faultless.ServerStage.{Gone}
use Rattle.amqp_faultless.proofs.Greeted.{AreSaid}
use Rattle.amqp_faultless.proofs.Speaks.{said-keeps}
use Rattle.amqp_faultless.proofs.Sayings.{said-start, said-challenge}
use Rattle.amqp_engine.specs.declared.given.Given.{Given}
use Rattle.amqp_engine.specs.Plan.{bytes_of}
use Rattle.amqp_engine.specs.Engine.{can_read, read_questions}
use Rattle.amqp_engine.specs.Turn.{Progress, goes, read_part}
use Rattle.amqp_engine.specs.Valid.{SpelledFrame, LinkSaying, Theirs, Ours, after_sayings, whole_in, later_than, begun_in, all_bytes, sayings_of}
use Rattle.amqp_engine.proofs.Heeding.{flat}
use Rattle.amqp_faultless.proofs.Limits.{gone-none}

-- ---- none comes once the server is gone

-- what we say leaves it gone
gone-ours : (fs : List Frame) (rest : List LinkSaying) (s end : Server) → s.stage ≡ Gone → after_sayings (map Ours fs ++ rest) (Some s) ≡ Some end
    → (s' : Server) × (s'.stage ≡ Gone) × (after_sayings rest (Some s') ≡ Some end)
gone-ours [] rest s end gone h = (s, gone, h)
gone-ours (f ∷ fs) rest s end gone h = gone-ours fs rest (said_to f s) end ((said-keeps f s).0 ∙ gone) h

sayings-none : (rest : List LinkSaying) → after_sayings rest None ≡ None
sayings-none [] = refl
sayings-none (x ∷ rest) = refl

gone-silent : (f : Frame) (rest : List LinkSaying) (s end : Server) → s.stage ≡ Gone → (after_sayings (Theirs f ∷ rest) (Some s) ≡ Some end) → None ≡ Some end
gone-silent f rest s end gone h = sym (ap (after_sayings rest) (gone-none f s gone) ∙ sayings-none rest) ∙ h

-- of a frame that is begun, the last byte comes
pub gone-ends : (gs : List Given) (sent : List (List Frame)) (n : ℕ) (y : SpelledFrame) (ys : List SpelledFrame) (s end : Server) → s.stage ≡ Gone
    → n < length y.octets → n + length (all_bytes gs) ≡ length (flat (y ∷ ys)) → (after_sayings (sayings_of gs sent n (y ∷ ys)) (Some s) ≡ Some end) → None ≡ Some end
gone-ends [] sent n y ys s end gone part size h = absurd (let sum = length-append y.octets (flat ys) in omega (arith, part, size, sum))
gone-ends (g ∷ gs) [] n y ys s end gone part size h =
    by (nat_le (length y.octets) (n + length (bytes_of g.what))) refl h (λ less k. gone-ends gs [] (n + length (bytes_of g.what)) y ys s end gone less (let sum = length-append (bytes_of g.what) (all_bytes gs) in omega (arith, size, sum)) k)
  where
    by : (b : Bool) → nat_le (length y.octets) (n + length (bytes_of g.what)) ≡ b
        → after_sayings
        (map Theirs (if b then y.frame ∷ whole_in (n + length (bytes_of g.what) - length y.octets) ys else [])
        ++ sayings_of gs [] (if b then begun_in (n + length (bytes_of g.what) - length y.octets) ys else n + length (bytes_of g.what))
        (if b then later_than (n + length (bytes_of g.what) - length y.octets) ys else y ∷ ys))
        (Some s) ≡ Some end
        → (n + length (bytes_of g.what) < length y.octets → after_sayings (sayings_of gs [] (n + length (bytes_of g.what)) (y ∷ ys)) (Some s) ≡ Some end → None ≡ Some end)
        → None ≡ Some end
    by true is k again =
        gone-silent y.frame (map Theirs (whole_in (n + length (bytes_of g.what) - length y.octets) ys) ++ sayings_of gs [] (begun_in (n + length (bytes_of g.what) - length y.octets) ys) (later_than (n + length (bytes_of g.what) - length y.octets) ys)) s end gone k
    by false is k again = again (grind (arith, nat_tests, is)) k
gone-ends (g ∷ gs) (fs ∷ sent) n y ys s end gone part size h =
    by (nat_le (length y.octets) (n + length (bytes_of g.what))) refl h
    (λ s' gone' less k. gone-ends gs sent (n + length (bytes_of g.what)) y ys s' end gone' less
    (let sum = length-append (bytes_of g.what) (all_bytes gs) in omega (arith, size, sum)) k)
  where
    by : (b : Bool) → nat_le (length y.octets) (n + length (bytes_of g.what)) ≡ b
        → after_sayings
        (map Theirs (if b then y.frame ∷ whole_in (n + length (bytes_of g.what) - length y.octets) ys else []) ++ map Ours fs
        ++ sayings_of gs sent (if b then begun_in (n + length (bytes_of g.what) - length y.octets) ys else n + length (bytes_of g.what))
        (if b then later_than (n + length (bytes_of g.what) - length y.octets) ys else y ∷ ys))
        (Some s) ≡ Some end
        → ((s' : Server) → s'.stage ≡ Gone → n + length (bytes_of g.what) < length y.octets
        → after_sayings (sayings_of gs sent (n + length (bytes_of g.what)) (y ∷ ys)) (Some s') ≡ Some end → None ≡ Some end)
        → None ≡ Some end
    by true is k again =
        gone-silent y.frame (map Theirs (whole_in (n + length (bytes_of g.what) - length y.octets) ys) ++ map Ours fs ++ sayings_of gs sent (begun_in (n + length (bytes_of g.what) - length y.octets) ys) (later_than (n + length (bytes_of g.what) - length y.octets) ys)) s end gone k
    by false is k again =
        let x = gone-ours fs (sayings_of gs sent (n + length (bytes_of g.what)) (y ∷ ys)) s end gone k in
        again x.0 x.1 (grind (arith, nat_tests, is)) x.2

-- what is said later in the step and in those after it
abbrev pub said_later : List Frame → List Given → List (List Frame) → ℕ → List SpelledFrame → List LinkSaying
said_later fs gs sent n spelled = map Ours fs ++ sayings_of gs sent n spelled

-- after its last frame no frame follows
pub gone-last : (fs : List Frame) (gs : List Given) (sent : List (List Frame)) (end : Server) (m : ℕ) (ys : List SpelledFrame) (s : Server) → s.stage ≡ Gone
    → m + length (all_bytes gs) ≡ length (flat ys)
    → after_sayings (map Theirs (whole_in m ys) ++ said_later fs gs sent (begun_in m ys) (later_than m ys)) (Some s) ≡ Some end → ys ≡ []
gone-last fs gs sent end m [] s gone size h = refl
gone-last fs gs sent end m (y ∷ ys) s gone size h = absurd (let bad : None ≡ Some end = by (nat_le (length y.octets) m) refl h in cc)
  where
    by : (b : Bool) → nat_le (length y.octets) m ≡ b
        → after_sayings
        (map Theirs (if b then y.frame ∷ whole_in (m - length y.octets) ys else [])
        ++ said_later fs gs sent (if b then begun_in (m - length y.octets) ys else m) (if b then later_than (m - length y.octets) ys else y ∷ ys))
        (Some s) ≡ Some end
        → None ≡ Some end
    by true is k =
        gone-silent y.frame (map Theirs (whole_in (m - length y.octets) ys) ++ said_later fs gs sent (begun_in (m - length y.octets) ys) (later_than (m - length y.octets) ys)) s end gone k
    by false is k =
        let x = gone-ours fs (sayings_of gs sent m (y ∷ ys)) s end gone k in
        gone-ends gs sent m y ys x.0 end x.1 (grind (arith, nat_tests, is)) size x.2

-- ---- the provider answers what is asked

module _ (options : Options) (later : List Question) (answers : List Asked) where
  abbrev pub Told : List Question → Type 0
  Told asked = AreSaid asked answers × Answer later (drop (length asked) answers) × AreSayable options (drop (length asked) answers)

  told-method : (st : ConnectionState) (p : Phase) (m : AnyMethod) → Answer (method_questions st p m ++ later) answers → AreSayable options answers
      → Told (method_questions st p m)
  told-method Connecting AwaitStart (Start a b c d e) h k = said-start options later answers h k
  told-method Connecting AwaitTune (Secure challenge) h k = said-challenge options later challenge answers h k
  told-method st p m h k = (tt, h, k)

  told-acting : (f : Frame) (t : Talk) → Answer (questions_in f t ++ later) answers → AreSayable options answers → Told (questions_in f t)
  told-acting (Method zero m) t h k = told-method t.state t.phase m h k
  told-acting f t h k = (tt, h, k)

  -- what a frame asks is answered, and what is asked later
  pub told-frame : (f : Frame) (t : Talk) → Answer (frame_questions f t ++ later) answers → AreSayable options answers → Told (frame_questions f t)
  told-frame f t h k = by (acts t) h where
    by : (b : Bool) → Answer ((if b then questions_in f t else []) ++ later) answers → Told (if b then questions_in f t else [])
    by true h = told-acting f t h k
    by false h = (tt, h, k)

-- what is asked while at most so many frames are read
abbrev pub asked_in : ℕ → Progress → List Question
asked_in zero p = []
asked_in (suc n) p = if goes p && can_read p.engine then read_questions p.at p.engine ++ asked_in n (read_part p) else []
