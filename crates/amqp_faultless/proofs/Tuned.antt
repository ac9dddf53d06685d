-- Once the connection is open, the first tune-ok that was said carries the numbers of the session: what is known of it from
-- the link on, and what frames that are heard leave of it.
use Rattle.std.proofs.Common.{◌≡◌, ◌≢◌, ◌≤◌, ◌⊎◌, inl, inr, ℕ, zero, suc, ◌+◌, if◌then◌else◌, Bool, true, false, true≢false, List, [], ◌∷◌, ◌++◌, append_assoc, Option, Some, None, Ok, refl, ap, sym, ◌∙◌, subst, arith}
use Rattle.std.specs.List.{AllByRecursion}
use Rattle.std.specs.Option.{option_or}
use Rattle.amqp_frame.specs.declared.frame.Frame.{Frame}
use Rattle.amqp_frame.specs.declared.frame.Frame.TheVariants.{Method, Raw, Heartbeat}
use Rattle.amqp_frame.specs.declared.method.Method.{Method as AnyMethod}
use Rattle.amqp_frame.specs.declared.method.Method.TheVariants.{Start, StartOk, Secure, SecureOk, Tune, TuneOk, Open as OpenMethod, OpenOk, Close, CloseOk, Blocked, Unblocked, UpdateSecretOk}
use Rattle.amqp_outbox.specs.declared.item.Item.{Item}
use Rattle.amqp_outbox.specs.declared.reply.Reply.TheVariants.{SecretDone}
use Rattle.amqp_outbox.specs.Items.{plain_item}
use Rattle.amqp_outbox.specs.Queued.{awaited_promise}
use Rattle.amqp_promise.specs.declared.state.ConnectionState.{ConnectionState}
use Rattle.amqp_promise.specs.declared.state.ConnectionState.TheVariants.{Initial, Connecting, Connected, Closing, Closed, Reconnecting, Error}
use Rattle.amqp_promise.specs.declared.error.ErrorKind.TheVariants.{InvalidConnectionState}
use Rattle.amqp_settings.specs.declared.configuration.Configuration.{Configuration}
use Rattle.amqp_rules.specs.declared.state.Phase.{Phase}
use Rattle.amqp_rules.specs.declared.state.Phase.TheVariants.{AwaitStart, AwaitTune, AwaitOpenOk}
use Rattle.amqp_answers.specs.declared.answer.Answer.TheVariants.{Connected as AnswerConnected}
use Rattle.amqp_auth.specs.declared.asked.Question.{Question}
use Rattle.amqp_auth.specs.declared.asked.Question.TheVariants as question
use Rattle.amqp_auth.specs.declared.asked.Asked.{Asked}
use Rattle.amqp_auth.specs.declared.asked.Asked.TheVariants as answer
use Rattle.amqp_rules.specs.Talk.{Talk}
use Rattle.amqp_settings.specs.Negotiation.{tune}
use Rattle.amqp_settings.specs.Handshake.{start_ok, secure_ok, tune_ok, open_vhost}
use Rattle.amqp_rules.specs.ConnectionMethods.{connection_rule, on_start, on_secure, on_tune, connected, reopen_each, on_open_ok}
use Rattle.amqp_rules.specs.Frames.{method_questions, frame_rule, on_frame, questions_in, frame_questions}
use Rattle.amqp_rules.specs.Ticks.{is_connected}
use Rattle.amqp_faultless.specs.Faultless.{ServerStage, Server, answers_to, is_frame_max, serves, heard_from}
use Rattle.amqp_faultless.specs.Faultless.ServerStage.{BeforeStart, BeforeTune, BeforeOpenOk, Serving, Gone}
use Rattle.amqp_faultless.proofs.Ordinary.{method-goes, raw-goes, secret-goes, goes-lose}
use Rattle.amqp_faultless.proofs.Served.{Channels, given-by}
use Rattle.amqp_faultless.proofs.Greeted.{IsMet, meets-in, frame-acts, questions-act, connection-in, AreSaid}
use Rattle.amqp_types.proofs.Small.{some_is}
use Rattle.amqp_faultless.proofs.Hears.{meets-at}
use Rattle.amqp_faultless.proofs.Limits.{serves-stage, met-open, met-gone}
use Rattle.amqp_channels.proofs.Walking.{all-append}

-- ---- the first tune-ok

-- the numbers that a tune-ok agrees to: the greatest frame, and the heartbeat
abbrev pub tune_in : Frame → Option (ℕ × ℕ)
tune_in (Method n (TuneOk channel_max frame_max heartbeat)) = Some (frame_max, heartbeat)
tune_in _ = None

-- those of the first
abbrev pub first_tune : List Frame → Option (ℕ × ℕ)
first_tune [] = None
first_tune (f ∷ fs) = option_or (tune_in f) (first_tune fs)

-- more is said
or-later : (o rest later : Option (ℕ × ℕ)) (x : ℕ × ℕ) → (rest ≡ Some x → later ≡ Some x) → option_or o rest ≡ Some x → option_or o later ≡ Some x
or-later (Some y) rest later x k h = h
or-later None rest later x k h = k h

or-next : (o rest later more : Option (ℕ × ℕ)) → (rest ≡ None → later ≡ more) → option_or o rest ≡ None → option_or o later ≡ more
or-next (Some y) rest later more k h = absurd cc
or-next None rest later more k h = k h

pub first-later : (fs more : List Frame) (x : ℕ × ℕ) → first_tune fs ≡ Some x → first_tune (fs ++ more) ≡ Some x
first-later [] more x h = absurd cc
first-later (f ∷ fs) more x h = or-later (tune_in f) (first_tune fs) (first_tune (fs ++ more)) x (first-later fs more x) h

pub first-next : (fs more : List Frame) → first_tune fs ≡ None → first_tune (fs ++ more) ≡ first_tune more
first-next [] more h = refl
first-next (f ∷ fs) more h = or-next (tune_in f) (first_tune fs) (first_tune (fs ++ more)) (first_tune more) (first-next fs more) h

-- ---- what waits

-- what the server answers, before the connection is open
abbrev pub is_asking : Frame → Bool
is_asking (Method zero (StartOk properties mechanism response locale)) = true
is_asking (Method zero (SecureOk response)) = true
is_asking (Method zero (OpenMethod vhost)) = true
is_asking _ = false

abbrev pub as_one : Bool → ℕ
as_one true = 1
as_one false = 0

-- how many of these the server answers
abbrev pub asking_in : List Item → ℕ
asking_in [] = 0
asking_in (i ∷ items) = as_one (is_asking i.frame) + asking_in items

-- no tune-ok is among them
abbrev pub NoneTunes : List Item → Type 0
NoneTunes items = AllByRecursion (λ (i : Item). tune_in i.frame ≡ None) items

-- a tune-ok with these numbers comes before all that the server answers
abbrev pub TunesFirst : ℕ × ℕ → List Item → Type 0
TunesFirst numbers [] = ⊥
TunesFirst numbers (i ∷ items) = (tune_in i.frame ≡ Some numbers) ⊎ ((tune_in i.frame ≡ None) × (is_asking i.frame ≡ false) × TunesFirst numbers items)

asking-push : (items : List Item) (i : Item) → asking_in (items ++ i ∷ []) ≡ asking_in items + as_one (is_asking i.frame)
asking-push [] i = omega arith
asking-push (j ∷ items) i = let rest = asking-push items i in omega (arith, rest)

pub asks-not : (b : Bool) → as_one b ≡ 0 → b ≡ false
asks-not false h = refl
asks-not true h = absurd (omega (arith, h))

tunes-first : (numbers : ℕ × ℕ) (items : List Item) (i : Item) (more : List Item) → NoneTunes items → asking_in items ≡ 0 → tune_in i.frame ≡ Some numbers
    → TunesFirst numbers (items ++ i ∷ more)
tunes-first numbers [] i more none idle is = inl is
tunes-first numbers (j ∷ items) i more none idle is =
    inr (none.0, asks-not (is_asking j.frame) (omega (arith, idle)), tunes-first numbers items i more none.1 (omega (arith, idle)) is)

-- ---- what is known of the numbers

-- the numbers of a session, as a tune-ok carries them
abbrev pub numbers_of : Configuration → ℕ × ℕ
numbers_of agreed = (agreed.frame_max, agreed.heartbeat)

-- by the state and by what the handshake awaits: fs were said so far
abbrev pub TunedIn : ConnectionState → Phase → List Frame → Bool → List Item → Configuration → Type 0
TunedIn Connecting AwaitStart fs asked lane agreed = (first_tune fs ≡ None) × NoneTunes lane × (asking_in lane ≡ 0) × (asked ≡ false)
TunedIn Connecting AwaitTune fs asked lane agreed = (first_tune fs ≡ None) × NoneTunes lane × (asking_in lane + as_one asked ≤ 1)
TunedIn Connecting AwaitOpenOk fs asked lane agreed =
    (first_tune fs ≡ Some (numbers_of agreed)) ⊎ ((first_tune fs ≡ None) × (asked ≡ false) × TunesFirst (numbers_of agreed) lane)
TunedIn state phase fs asked lane agreed = first_tune fs ≡ Some (numbers_of agreed)

-- the first tune-ok that was said carries the numbers of the session, once the connection is open
abbrev pub Tuned : List Frame → Server → Talk → Type 0
Tuned fs s t = TunedIn t.state t.phase fs s.asked t.outbox.control t.configuration

module _ (fs : List Frame) (asked : Bool) (lane : List Item) (agreed : Configuration) where
  -- in any other state than Connecting
  pub tuned-open : (st : ConnectionState) (p : Phase) → st ≢ Connecting → first_tune fs ≡ Some (numbers_of agreed) → TunedIn st p fs asked lane agreed
  tuned-open Connecting p other h = absurd (other refl)
  tuned-open st p other h = h

  open-tuned : (st : ConnectionState) (p : Phase) → st ≢ Connecting → TunedIn st p fs asked lane agreed → first_tune fs ≡ Some (numbers_of agreed)
  open-tuned Connecting p other h = absurd (other refl)
  open-tuned st p other h = h

-- ---- the numbers of the session

-- where the server serves
pub tuned-serving : (fs : List Frame) (s : Server) (t : Talk) → IsMet s t → Tuned fs s t → s.stage ≡ Serving
    → first_tune fs ≡ Some (t.configuration.frame_max, t.configuration.heartbeat)
tuned-serving fs s t m h serves =
    open-tuned fs s.asked t.outbox.control t.configuration t.state t.phase (met-open t.state t.phase s t.outbox t.channels t.committed m.meets serves) h

-- and where the session is connected
pub tuned-connected : (fs : List Frame) (s : Server) (t : Talk) → Tuned fs s t → is_connected t.state ≡ true
    → first_tune fs ≡ Some (t.configuration.frame_max, t.configuration.heartbeat)
tuned-connected fs s t h connected =
    open-tuned fs s.asked t.outbox.control t.configuration t.state t.phase (λ is. true≢false (sym connected ∙ ap is_connected is)) h

-- ---- frames before the connection is open

module _ (fs : List Frame) (s s' : Server) (t : Talk) (answers : List Asked) (is : t.state ≡ Connecting) (h : Tuned fs s t) where
  in-phase : (p : Phase) → t.phase ≡ p → TunedIn Connecting p fs s.asked t.outbox.control t.configuration
  in-phase p phase =
      let P : ConnectionState → Type 0 = λ x. TunedIn x t.phase fs s.asked t.outbox.control t.configuration in
      let Q : Phase → Type 0 = λ x. TunedIn Connecting x fs s.asked t.outbox.control t.configuration in
      subst Q phase (subst P is h)

  of-phase : (p : Phase) (asked : Bool) (lane : List Item) (agreed : Configuration) → TunedIn Connecting p fs asked lane agreed → TunedIn t.state p fs asked lane agreed
  of-phase p asked lane agreed k = let P : ConnectionState → Type 0 = λ x. TunedIn x p fs asked lane agreed in subst P (sym is) k

  of-rule : (p : Phase) → t.phase ≡ p → (method : AnyMethod) → Tuned fs s' (connection_rule Connecting p method answers t)
      → Tuned fs s' (connection_rule t.state t.phase method answers t)
  of-rule p phase method k = let P : Talk → Type 0 = Tuned fs s' in subst P (sym (connection-in Connecting p method answers t is phase)) k

  said-in : (p : Phase) → t.phase ≡ p → (method : AnyMethod) → AreSaid (method_questions t.state t.phase method) answers
      → AreSaid (method_questions Connecting p method) answers
  said-in p phase method said =
      let P : List Question → Type 0 = λ x. AreSaid x answers in
      subst P (ap (λ (x : ConnectionState). method_questions x t.phase method) is ∙ ap (λ (x : Phase). method_questions Connecting x method) phase) said

  -- one more waits that is no tune-ok
  none-tunes : (i : Item) → tune_in i.frame ≡ None → NoneTunes t.outbox.control → NoneTunes (t.outbox.control ++ i ∷ [])
  none-tunes i other none = all-append (λ (j : Item). tune_in j.frame ≡ None) t.outbox.control (i ∷ []) none (other, tt)

  -- start
  tuned-start : t.phase ≡ AwaitStart → (f : Frame) → heard_from BeforeStart f s ≡ Some s' → AreSaid (questions_in f t) answers → Tuned fs s' (frame_rule f answers t)
  tuned-start phase (Method zero (Start a b c d e)) heard said =
      of-rule AwaitStart phase (Start a b c d e) (by answers (said-in AwaitStart phase (Start a b c d e) said))
    where
      by : (given : List Asked) → AreSaid (question.Mechanism ∷ question.Starter ∷ []) given → Tuned fs s' (on_start given t)
      by (answer.Mechanism name ∷ answer.Starter (Ok text) ∷ rest) said =
          let P : Server → Type 0 = λ x. Tuned fs x (on_start (answer.Mechanism name ∷ answer.Starter (Ok text) ∷ rest) t) in
          let i : Item = plain_item 0 (start_ok t.config.options name text) in
          let k = in-phase AwaitStart phase in
          let one = asking-push t.outbox.control i in
          let none = k.2 in
          let idle = ap as_one k.3 in
          subst P (some_is (record s { stage = BeforeTune }) s' heard)
          (of-phase AwaitTune s.asked (t.outbox.control ++ i ∷ []) t.configuration (k.0, none-tunes i refl k.1, omega (arith, one, none, idle)))
      by given said = absurd said
  tuned-start phase f heard said = absurd cc

  -- secure and tune
  tuned-tune : t.phase ≡ AwaitTune → (f : Frame) → heard_from BeforeTune f s ≡ Some s' → AreSaid (questions_in f t) answers → Tuned fs s' (frame_rule f answers t)
  tuned-tune phase (Method zero (Secure challenge)) heard said =
      of-rule AwaitTune phase (Secure challenge) (by answers (said-in AwaitTune phase (Secure challenge) said))
    where
      by : (given : List Asked) → AreSaid (question.Challenge challenge ∷ []) given → Tuned fs s' (on_secure given t)
      by (answer.Challenge (Ok text) ∷ rest) said =
          let g = given-by s.asked (record s { stage = BeforeTune; asked = false }) s' heard in
          let i : Item = plain_item 0 (secure_ok text) in
          let k = in-phase AwaitTune phase in
          let one = asking-push t.outbox.control i in
          let most = k.2 in
          let busy = ap as_one g.0 in
          let P : Server → Type 0 = λ x. Tuned fs x (on_secure (answer.Challenge (Ok text) ∷ rest) t) in
          let Q : Phase → Type 0 = λ x. TunedIn t.state x fs false (t.outbox.control ++ i ∷ []) t.configuration in
          subst P g.1
          (subst Q (sym phase)
          (of-phase AwaitTune false (t.outbox.control ++ i ∷ []) t.configuration (k.0, none-tunes i refl k.1, omega (arith, one, most, busy))))
      by given said = absurd said
  tuned-tune phase (Method zero (Tune channel_max frame_max heartbeat)) heard said =
      of-rule AwaitTune phase (Tune channel_max frame_max heartbeat) (by (is_frame_max frame_max) heard)
    where
      by : (b : Bool) → (if b then answers_to BeforeOpenOk s else None) ≡ Some s'
          → Tuned fs s' (on_tune (record { channel_max = channel_max; frame_max = frame_max; heartbeat = heartbeat }) t)
      by false heard = absurd cc
      by true heard =
          let server : Configuration = record { channel_max = channel_max; frame_max = frame_max; heartbeat = heartbeat } in
          let agreed : Configuration = tune t.configuration server in
          let g = given-by s.asked (record s { stage = BeforeOpenOk; asked = false }) s' heard in
          let i : Item = plain_item 0 (tune_ok agreed) in
          let j : Item = plain_item 0 (open_vhost t.config.uri.vhost) in
          let k = in-phase AwaitTune phase in
          let most = k.2 in
          let busy = ap as_one g.0 in
          let P : Server → Type 0 = λ x. Tuned fs x (on_tune server t) in
          let Q : List Item → Type 0 = TunesFirst (numbers_of agreed) in
          let first = tunes-first (numbers_of agreed) t.outbox.control i (j ∷ []) k.1 (omega (arith, most, busy)) refl in
          subst P g.1
          (of-phase AwaitOpenOk false ((t.outbox.control ++ i ∷ []) ++ j ∷ []) agreed
          (inr (k.0, refl, subst Q (sym (append_assoc t.outbox.control (i ∷ []) (j ∷ []))) first)))
  tuned-tune phase f heard said = absurd cc

  -- open-ok
  tuned-open-ok : IsMet s t → t.phase ≡ AwaitOpenOk → (f : Frame) → heard_from BeforeOpenOk f s ≡ Some s' → Tuned fs s' (frame_rule f answers t)
  tuned-open-ok m phase Heartbeat heard = let P : Server → Type 0 = λ x. Tuned fs x t in subst P (some_is s s' heard) h
  tuned-open-ok m phase (Method zero OpenOk) heard =
      let x : Server = record s { stage = Serving; asked = false } in
      let g = given-by s.asked x s' heard in
      let P : Server → Type 0 = λ y. Tuned fs y (on_open_ok t) in
      let Q : Channels → Type 0 = λ cs. Tuned fs x (reopen_each cs (connected t)) in
      let said : first_tune fs ≡ Some (numbers_of t.configuration) =
      elim (in-phase AwaitOpenOk phase) [
        | inl said ↦ said
        | inr waits ↦ absurd (true≢false (sym g.0 ∙ waits.1))
      ] in
      of-rule AwaitOpenOk phase OpenOk (subst P g.1 (subst Q (sym (meets-at s t m AwaitOpenOk is phase).none) said))
  tuned-open-ok m phase f heard = absurd cc

-- ---- frames while the server serves

-- what is agreed stays
module _ (s s' : Server) (t : Talk) (answers : List Asked) where
  abbrev Agrees : Talk → Type 0
  Agrees u = IsMet s' u → u.configuration ≡ t.configuration

  gone-agrees : (u : Talk) → s'.stage ≡ Gone → Agrees u
  gone-agrees u gone m = absurd (met-gone u.state u.phase s' u.outbox u.channels u.committed m.meets gone)

  secret-agrees : (st : ConnectionState) (p : Phase) → Agrees (connection_rule st p UpdateSecretOk answers t)
  secret-agrees Closing p m = refl
  secret-agrees Connected p m = (secret-goes (Ok AnswerConnected) (awaited_promise 0 SecretDone t.outbox) t m.opened).agreed
  secret-agrees st p m = (goes-lose (Some (Ok AnswerConnected)) (InvalidConnectionState st) t m.opened).agreed

  served-agrees : (f : Frame) → serves f s ≡ Some s' → Agrees (frame_rule f answers t)
  served-agrees Heartbeat heard m = refl
  served-agrees (Method zero (Blocked reason)) heard m = refl
  served-agrees (Method zero Unblocked) heard m = refl
  served-agrees (Method zero UpdateSecretOk) heard m = secret-agrees t.state t.phase m
  served-agrees (Method zero CloseOk) heard m =
      gone-agrees (frame_rule (Method zero CloseOk) answers t) (ap (λ (x : Server). x.stage) (sym (given-by _ (record s { stage = Gone }) s' heard).1)) m
  served-agrees (Method zero (Close code text class method)) heard m =
      gone-agrees (frame_rule (Method zero (Close code text class method)) answers t)
      (ap (λ (x : Server). x.stage) (sym (given-by _ (record s { stage = Gone }) s' heard).1)) m
  served-agrees (Method (suc k) method) heard m = (method-goes (Ok AnswerConnected) (suc k) method t m.opened).agreed
  served-agrees (Raw (suc k) kind bytes) heard m = (raw-goes (Ok AnswerConnected) (suc k) kind bytes t m.opened).agreed
  served-agrees f heard m = absurd cc

tuned-served : (fs : List Frame) (s s' : Server) (t : Talk) (answers : List Asked) → IsMet s t → s.stage ≡ Serving → Tuned fs s t → (f : Frame) → serves f s ≡ Some s'
    → IsMet s' (frame_rule f answers t) → Tuned fs s' (frame_rule f answers t)
tuned-served fs s s' t answers m serving h f heard m' =
    let u : Talk = frame_rule f answers t in
    let stage : s'.stage ≡ Serving =
    elim (serves-stage f s s' serving heard) [
      | inl serves ↦ serves
      | inr gone ↦ absurd (met-gone u.state u.phase s' u.outbox u.channels u.committed m'.meets gone)
    ] in
    tuned-open fs s'.asked u.outbox.control u.configuration u.state u.phase (met-open u.state u.phase s' u.outbox u.channels u.committed m'.meets stage)
    (tuned-serving fs s t m h serving ∙ ap (λ (c : Configuration). Some (numbers_of c)) (sym (served-agrees s s' t answers f heard m')))

-- each frame
pub tuned-heard : (f : Frame) (answers : List Asked) (fs : List Frame) (s s' : Server) (t : Talk) → IsMet s t → Tuned fs s t → heard_from s.stage f s ≡ Some s'
    → AreSaid (frame_questions f t) answers → IsMet s' (on_frame f answers t) → Tuned fs s' (on_frame f answers t)
tuned-heard f answers fs s s' t m h heard said m' =
    let P : Talk → Type 0 = Tuned fs s' in
    let M : Talk → Type 0 = IsMet s' in
    let Q : List Question → Type 0 = λ x. AreSaid x answers in
    let acts = frame-acts s t m f answers in
    subst P (sym acts) (by t.state t.phase refl refl (subst Q (questions-act s t m f) said) (subst M acts m'))
  where
    from : (stage : ServerStage) → s.stage ≡ stage → heard_from stage f s ≡ Some s'
    from stage same = ap (λ (x : ServerStage). heard_from x f s) (sym same) ∙ heard

    by : (st : ConnectionState) (p : Phase) → t.state ≡ st → t.phase ≡ p → AreSaid (questions_in f t) answers → IsMet s' (frame_rule f answers t)
        → Tuned fs s' (frame_rule f answers t)
    by Connecting AwaitStart is phase said met = tuned-start fs s s' t answers is h phase f (from BeforeStart (meets-at s t m AwaitStart is phase).at_stage) said
    by Connecting AwaitTune is phase said met = tuned-tune fs s s' t answers is h phase f (from BeforeTune (meets-at s t m AwaitTune is phase).at_stage) said
    by Connecting AwaitOpenOk is phase said met = tuned-open-ok fs s s' t answers is h m phase f (from BeforeOpenOk (meets-at s t m AwaitOpenOk is phase).at_stage)
    by Connected p is phase said met = let stage = (meets-in s t m Connected is).stage in tuned-served fs s s' t answers m stage h f (from Serving stage) met
    by Closing p is phase said met = let stage = meets-in s t m Closing is in tuned-served fs s s' t answers m stage h f (from Serving stage) met
    by Initial p is phase said met = absurd (meets-in s t m Initial is)
    by Closed p is phase said met = absurd (meets-in s t m Closed is)
    by Reconnecting p is phase said met = absurd (meets-in s t m Reconnecting is)
    by Error p is phase said met = absurd (meets-in s t m Error is)
