-- Where the server and the session stand, from the first frame on, and what waits before the connection is open.
use Rattle.std.proofs.Common.{◌≡◌, ◌≤◌, ◌⊎◌, inl, inr, ℕ, zero, ◌+◌, if◌then◌else◌, Bool, true, false, true≢false, List, [], ◌∷◌, ◌++◌, Option, Some, None, Result, Ok, refl, ap, sym, ◌∙◌, subst, arith}
use Rattle.amqp_settings.specs.declared.configuration.Configuration.{Configuration}
use Rattle.std.specs.Prelude.{min}
use Rattle.std.specs.List.{AllByRecursion}
use Rattle.std.proofs.lemmas.List.Sums.{sum_by-cons}
use Rattle.amqp_frame.specs.declared.frame.Frame.{Frame}
use Rattle.amqp_frame.specs.declared.frame.Frame.TheVariants.{ProtocolHeader, Method}
use Rattle.amqp_frame.specs.declared.method.Method.{Method as AnyMethod}
use Rattle.amqp_frame.specs.declared.method.Method.TheVariants.{StartOk, SecureOk, TuneOk, Open as OpenMethod}
use Rattle.amqp_outbox.specs.declared.item.Item.{Item}
use Rattle.amqp_outbox.specs.Items.{plain_item}
use Rattle.amqp_outbox.specs.Replies.{awaited_on}
use Rattle.amqp_outbox.specs.Queued.{Queued, only}
use Rattle.amqp_outgoing.specs.declared.committed.Mark.{Mark}
use Rattle.amqp_outgoing.specs.declared.committed.Then.TheVariants.{Nothing}
use Rattle.amqp_rules.specs.declared.state.Phase.{Phase}
use Rattle.amqp_rules.specs.declared.state.Phase.TheVariants.{AwaitStart, AwaitTune, AwaitOpenOk}
use Rattle.amqp_rules.specs.declared.state.Input.TheVariants.{Closed as ClosedInput}
use Rattle.amqp_violations.specs.declared.server_close.ServerClose.TheVariants.{WithoutError}
use Rattle.amqp_promise.specs.declared.state.ConnectionState.{ConnectionState}
use Rattle.amqp_promise.specs.declared.state.ConnectionState.TheVariants.{Initial, Connecting, Connected, Closing, Closed, Reconnecting, Error}
use Rattle.amqp_promise.specs.declared.error.ErrorKind.{ErrorKind}
use Rattle.amqp_answers.specs.declared.answer.Answer.{Answer}
use Rattle.amqp_answers.specs.declared.answer.Answer.TheVariants.{Connected as AnswerConnected}
use Rattle.amqp_auth.specs.declared.asked.Question.{Question}
use Rattle.amqp_auth.specs.declared.asked.Question.TheVariants as question
use Rattle.amqp_auth.specs.declared.asked.Asked.{Asked as ProviderAnswer}
use Rattle.amqp_auth.specs.declared.asked.Asked.TheVariants as answer
use Rattle.amqp_maps.specs.Listed.{at}
use Rattle.amqp_rules.specs.Talk.{Talk, is_open, is_acting, acts as acts_on_link, end_of}
use Rattle.amqp_settings.specs.Handshake.{close_ok}
use Rattle.amqp_rules.specs.ConnectionMethods.{connection_rule}
use Rattle.amqp_rules.specs.Frames.{frame_rule, on_frame, questions_in, frame_questions, closed_rule}
use Rattle.amqp_rules.specs.Talk.{hears_on}
use Rattle.amqp_outgoing.specs.Marks.{then_of}
use Rattle.amqp_faultless.specs.Faultless.{ServerStage, Server}
use Rattle.amqp_faultless.specs.Faultless.ServerStage.{BeforeStart, BeforeTune, BeforeOpenOk, Serving, Gone}
use Rattle.amqp_types.proofs.Small.{if-true, and-true}
use Rattle.amqp_legal_rules.proofs.Ties.{pays, paying, to_pay}
use Rattle.amqp_legal_rules.proofs.Paying.{IsNoPayment, pays-none}
use Rattle.amqp_faultless.proofs.Ordinary.{is_close, AreOthers, First, Ordinary, same}
use Rattle.amqp_faultless.proofs.Uses.{Idle, act_on, acts, is_opens, lives, NoneOpens, along-dead}
use Rattle.amqp_faultless.proofs.Served.{Serves, Channels, AreRaw, secret_by, secrets_in, IsPlain}
use Rattle.amqp_channels.proofs.Walking.{all-append}

-- ---- before the connection is open

-- what the client says to open a connection
abbrev pub greets : Frame → Bool
greets (ProtocolHeader version) = true
greets (Method zero (StartOk properties mechanism response locale)) = true
greets (Method zero (SecureOk response)) = true
greets (Method zero (TuneOk channel_max frame_max heartbeat)) = true
greets (Method zero (OpenMethod vhost)) = true
greets _ = false

-- it answers no promise
abbrev pub IsGreeting : Item → Type 0
IsGreeting item = (greets item.frame ≡ true) × (item.promise ≡ None)

-- nothing follows it
abbrev pub IsSilentMark : Mark → Type 0
IsSilentMark m = m.then ≡ Nothing

-- nothing was said of channels or secrets, and nothing waits but what opens the connection
pub record Greets (stage : ServerStage) (s : Server) (q : Queued) (cs : Channels) (ms : List Mark) : Type 0 where
  pub at_stage : s.stage ≡ stage
  pub uses : (n : ℕ) → lives (s.uses n) ≡ false
  pub secrets : s.secrets ≡ 0
  pub staying : s.closing ≡ false
  pub none : cs ≡ []
  pub begun : q.begun ≡ []
  pub groups : q.publish ≡ []
  pub lane : AllByRecursion IsGreeting q.control
  pub marks : AllByRecursion IsSilentMark ms

-- ---- the tie

-- by the state and by what the handshake awaits
abbrev pub Meets : ConnectionState → Phase → Server → Queued → Channels → List Mark → Type 0
Meets Connecting AwaitStart s q cs ms = Greets BeforeStart s q cs ms
Meets Connecting AwaitTune s q cs ms = Greets BeforeTune s q cs ms
Meets Connecting AwaitOpenOk s q cs ms = Greets BeforeOpenOk s q cs ms
Meets Connected phase s q cs ms = Serves s q cs ms
Meets Closing phase s q cs ms = s.stage ≡ Serving
Meets _ phase s q cs ms = ⊥

-- the answer to the first promise
abbrev pub slot_in : ConnectionState → Option (Result Answer ErrorKind)
slot_in Connecting = None
slot_in _ = Some (Ok AnswerConnected)

-- how long a frame may be that is read: as long as every peer takes, and once the connection is open as was agreed
abbrev pub IsLimited : ConnectionState → Phase → ℕ → ℕ → Type 0
IsLimited Connecting AwaitOpenOk capacity frame_max = (131072 ≤ capacity) × (4096 ≤ frame_max)
IsLimited Connecting phase capacity frame_max = (131072 ≤ capacity) × ((frame_max ≡ 0) ⊎ (4096 ≤ frame_max))
IsLimited _ phase capacity frame_max = (4096 ≤ frame_max) × (131072 ≤ capacity) × (min 134217728 frame_max ≤ capacity)

-- the session hears what the server may say
pub record IsMet (s : Server) (t : Talk) : Type 0 where
  pub opened : is_open t ≡ true
  pub acting : is_acting t.input ≡ true
  pub blocked : t.blocked ≡ s.blocked
  pub first : First (slot_in t.state) t
  pub limit : IsLimited t.state t.phase t.capacity t.configuration.frame_max
  pub meets : Meets t.state t.phase s t.outbox t.channels t.committed

-- the session ended Closed
pub record IsOver (t : Talk) : Type 0 where
  pub over : end_of t ≡ Some (Ok tt)
  pub first : First (Some (Ok AnswerConnected)) t

-- the server closed, and our close-ok is all that waits
pub record Leaves (t : Talk) : Type 0 where
  pub opened : is_open t ≡ true
  pub crossed : Bool
  pub input : t.input ≡ ClosedInput crossed
  pub closed : t.server_close ≡ Some WithoutError
  pub blocked : t.blocked ≡ false
  pub only_close : t.outbox ≡ only (plain_item 0 close_ok)
  pub first : First (Some (Ok AnswerConnected)) t

-- once a frame was heard
abbrev pub Heard : Server → Talk → Type 0
Heard s t = IsMet s t ⊎ ((s.stage ≡ Gone) × (IsOver t ⊎ Leaves t))

-- ---- what is heard while the connection is open

abbrev pub Ready : Option (Result Answer ErrorKind)
Ready = Some (Ok AnswerConnected)

-- a session that is met in a state
module _ (s : Server) (t : Talk) (m : IsMet s t) where
  pub meets-in : (st : ConnectionState) → t.state ≡ st → Meets st t.phase s t.outbox t.channels t.committed
  meets-in st is = let P : ConnectionState → Type 0 = λ x. Meets x t.phase s t.outbox t.channels t.committed in subst P is m.meets

  pub first-in : (st : ConnectionState) → t.state ≡ st → First (slot_in st) t
  first-in st is = let P : ConnectionState → Type 0 = λ x. First (slot_in x) t in subst P is m.first

  pub limit-in : (st : ConnectionState) → t.state ≡ st → IsLimited st t.phase t.capacity t.configuration.frame_max
  limit-in st is = let P : ConnectionState → Type 0 = λ x. IsLimited x t.phase t.capacity t.configuration.frame_max in subst P is m.limit

  pub acts-now : acts_on_link t ≡ true
  acts-now = and-true (is_open t) (is_acting t.input) m.opened m.acting

  pub frame-acts : (f : Frame) (answers : List ProviderAnswer) → on_frame f answers t ≡ frame_rule f answers t
  frame-acts f answers = if-true (acts_on_link t) (frame_rule f answers t) (if hears_on t then closed_rule f t else t) acts-now

  pub questions-act : (f : Frame) → frame_questions f t ≡ questions_in f t
  questions-act f = if-true (acts_on_link t) (questions_in f t) [] acts-now

-- more can be unsent, and the same was agreed
limit-either : (f f' : ℕ) → f' ≡ f → (f ≡ 0) ⊎ (4096 ≤ f) → (f' ≡ 0) ⊎ (4096 ≤ f')
limit-either f f' same (inl none) = inl (same ∙ none)
limit-either f f' same (inr some) = inr (omega (arith, same, some))

pub limit-grow : (st : ConnectionState) (p : Phase) (capacity capacity' frame_max frame_max' : ℕ) → capacity ≤ capacity' → frame_max' ≡ frame_max
    → IsLimited st p capacity frame_max → IsLimited st p capacity' frame_max'
limit-grow Connecting AwaitOpenOk c c' f f' more same h = (omega (arith, more, h.0), omega (arith, same, h.1))
limit-grow Connecting AwaitStart c c' f f' more same h = (omega (arith, more, h.0), limit-either f f' same h.1)
limit-grow Connecting AwaitTune c c' f f' more same h = (omega (arith, more, h.0), limit-either f f' same h.1)
limit-grow Initial p c c' f f' more same h = (omega (arith, same, h.0), omega (arith, more, h.1), (let a = h.2 in omega (arith, a, more, same)))
limit-grow Connected p c c' f f' more same h = (omega (arith, same, h.0), omega (arith, more, h.1), (let a = h.2 in omega (arith, a, more, same)))
limit-grow Closing p c c' f f' more same h = (omega (arith, same, h.0), omega (arith, more, h.1), (let a = h.2 in omega (arith, a, more, same)))
limit-grow Closed p c c' f f' more same h = (omega (arith, same, h.0), omega (arith, more, h.1), (let a = h.2 in omega (arith, a, more, same)))
limit-grow Reconnecting p c c' f f' more same h = (omega (arith, same, h.0), omega (arith, more, h.1), (let a = h.2 in omega (arith, a, more, same)))
limit-grow Error p c c' f f' more same h = (omega (arith, same, h.0), omega (arith, more, h.1), (let a = h.2 in omega (arith, a, more, same)))

-- once the connection is open, the handshake no longer counts
pub limit-phase : (st : ConnectionState) (p p' : Phase) (capacity frame_max : ℕ) → slot_in st ≡ Ready → IsLimited st p capacity frame_max → IsLimited st p' capacity frame_max
limit-phase Connecting p p' c f ready h = absurd cc
limit-phase Initial p p' c f ready h = h
limit-phase Connected p p' c f ready h = h
limit-phase Closing p p' c f ready h = h
limit-phase Closed p p' c f ready h = h
limit-phase Reconnecting p p' c f ready h = h
limit-phase Error p p' c f ready h = h

-- it is met again, by an ordinary rule
pub met-again : (s s' : Server) (t u : Talk) (st : ConnectionState) → IsMet s t → t.state ≡ st → slot_in st ≡ Ready → s'.blocked ≡ s.blocked → Ordinary Ready t u → is_open u ≡ true
    → ((p : Phase) → Meets st p s' u.outbox u.channels u.committed) → IsMet s' u
met-again s s' t u st m is slot same o opened meets =
    let now : u.state ≡ st = o.state ∙ is in
    let P : ConnectionState → Type 0 = λ x. Meets x u.phase s' u.outbox u.channels u.committed in
    let Q : Option (Result Answer ErrorKind) → Type 0 = λ x. First x u in
    let R : Option (Result Answer ErrorKind) → Type 0 = λ x. First x t in
    record {
      opened = opened;
      acting = ap is_acting o.input ∙ m.acting;
      blocked = o.blocked ∙ m.blocked ∙ sym same;
      first = subst Q (sym (ap slot_in now ∙ slot)) (o.first (subst R (ap slot_in is ∙ slot) m.first));
      limit =
          (let L : ConnectionState → Type 0 = λ x. IsLimited x u.phase u.capacity u.configuration.frame_max in
          let K : ConnectionState → Type 0 = λ x. IsLimited x t.phase t.capacity t.configuration.frame_max in
          subst L (sym now)
          (limit-grow st u.phase t.capacity u.capacity t.configuration.frame_max u.configuration.frame_max o.room (ap (λ (x : Configuration). x.frame_max) o.agreed)
          (limit-phase st t.phase u.phase t.capacity t.configuration.frame_max slot (subst K is m.limit))));
      meets = subst P (sym now) (meets u.phase);
    }

-- a rule of the connection where the state is known
pub connection-in : (st : ConnectionState) (p : Phase) (method : AnyMethod) (answers : List ProviderAnswer) (t : Talk) → t.state ≡ st → t.phase ≡ p
    → connection_rule t.state t.phase method answers t ≡ connection_rule st p method answers t
connection-in st p method answers t is phase =
    ap (λ (x : ConnectionState). connection_rule x t.phase method answers t) is ∙ ap (λ (x : Phase). connection_rule st x method answers t) phase

-- ---- frames before the connection is open

-- the provider answers what is asked, and does not refuse
abbrev pub AreSaid : List Question → List ProviderAnswer → Type 0
AreSaid [] answers = Unit {0}
AreSaid (question.Mechanism ∷ question.Starter ∷ []) (answer.Mechanism name ∷ answer.Starter (Ok said) ∷ rest) = Unit {0}
AreSaid (question.Challenge challenge ∷ []) (answer.Challenge (Ok said) ∷ rest) = Unit {0}
AreSaid _ _ = ⊥

-- what the client greets with is plain
greeting-idle : (f : Frame) (n : ℕ) → greets f ≡ true → act_on n f ≡ Idle
greeting-idle (ProtocolHeader version) n h = refl
greeting-idle (Method zero (StartOk a b c d)) n h = refl
greeting-idle (Method zero (SecureOk a)) n h = refl
greeting-idle (Method zero (TuneOk a b c)) n h = refl
greeting-idle (Method zero (OpenMethod a)) n h = refl
greeting-idle f n h = absurd (true≢false (sym h))

greeting-other : (f : Frame) → greets f ≡ true → (is_close f ≡ false) × (secret_by f ≡ 0) × IsNoPayment f
greeting-other (ProtocolHeader version) h = (refl, refl, tt)
greeting-other (Method zero (StartOk a b c d)) h = (refl, refl, tt)
greeting-other (Method zero (SecureOk a)) h = (refl, refl, tt)
greeting-other (Method zero (TuneOk a b c)) h = (refl, refl, tt)
greeting-other (Method zero (OpenMethod a)) h = (refl, refl, tt)
greeting-other f h = absurd (true≢false (sym h))

pub greeting-plain : (i : Item) → IsGreeting i → IsPlain i
greeting-plain i h =
    let o = greeting-other i.frame h.0 in
    record { idle = λ n. greeting-idle i.frame n h.0; other = o.0; secret = o.1; unpaying = λ n. pays-none i n o.2 }

-- such a frame waits more
pub greets-push : (stage : ServerStage) (s : Server) (q : Queued) (cs : Channels) (ms : List Mark) (i : Item) → IsGreeting i → Greets stage s q cs ms
    → Greets stage s (record q { control = q.control ++ i ∷ [] }) cs ms
greets-push stage s q cs ms i greeting h =
    record {
      at_stage = h.at_stage;
      uses = h.uses;
      secrets = h.secrets;
      staying = h.staying;
      none = h.none;
      begun = h.begun;
      groups = h.groups;
      lane = all-append IsGreeting q.control (i ∷ []) h.lane (greeting, tt);
      marks = h.marks;
    }

-- the server answers
pub greets-answered : (stage later : ServerStage) (asked : Bool) (s : Server) (q : Queued) (cs : Channels) (ms : List Mark) → Greets stage s q cs ms
    → Greets later (record s { stage = later; asked = asked }) q cs ms
greets-answered stage later asked s q cs ms h =
    record { at_stage = refl; uses = h.uses; secrets = h.secrets; staying = h.staying; none = h.none; begun = h.begun; groups = h.groups; lane = h.lane; marks = h.marks }

-- the connection is open
module _ (s : Server) where
  lane-none : (n : ℕ) (items : List Item) → AllByRecursion IsGreeting items → NoneOpens (acts n items)
  lane-none n [] h = tt
  lane-none n (i ∷ items) h = (ap is_opens ((greeting-plain i h.0).idle n), lane-none n items h.1)

  lane-secrets : (items : List Item) → AllByRecursion IsGreeting items → secrets_in items ≡ 0
  lane-secrets [] h = refl
  lane-secrets (i ∷ items) h =
      let w : Item → ℕ = λ (item : Item). secret_by item.frame in
      let a : secrets_in (i ∷ items) ≡ secret_by i.frame + secrets_in items = sum_by-cons w i items in
      let b = (greeting-plain i h.0).secret in let c = lane-secrets items h.1 in omega (arith, a, b, c)

  lane-pays : (n : ℕ) (items : List Item) → AllByRecursion IsGreeting items → to_pay items n ≡ 0
  lane-pays n [] h = refl
  lane-pays n (i ∷ items) h =
      let w : Item → ℕ = λ (item : Item). pays n (then_of item) in
      let a : to_pay (i ∷ items) n ≡ pays n (then_of i) + to_pay items n = sum_by-cons w i items in
      let b = (greeting-plain i h.0).unpaying n in let c = lane-pays n items h.1 in omega (arith, a, b, c)

  marks-pay : (n : ℕ) (ms : List Mark) → AllByRecursion IsSilentMark ms → paying ms n ≡ 0
  marks-pay n [] h = refl
  marks-pay n (k ∷ ms) h =
      let w : Mark → ℕ = λ (x : Mark). pays n x.then in
      let a : paying (k ∷ ms) n ≡ pays n k.then + paying ms n = sum_by-cons w k ms in
      let b : pays n k.then ≡ 0 = ap (pays n) h.0 in let c = marks-pay n ms h.1 in omega (arith, a, b, c)

  lane-others : (items : List Item) → AllByRecursion IsGreeting items → AreOthers items
  lane-others [] h = tt
  lane-others (i ∷ items) h = ((greeting-plain i h.0).other, lane-others items h.1)

  pub greets-opened : (q : Queued) (cs : Channels) (ms : List Mark) → Greets BeforeOpenOk s q cs ms → Serves (record s { stage = Serving; asked = false }) q cs ms
  greets-opened q cs ms h =
      let P : List Item → Type 0 = AreOthers in
      let Q : List Item → Type 0 = AreRaw in
      let R : List (List Item) → Type 0 = AllByRecursion AreOthers in
      let S : List (List Item) → Type 0 = AllByRecursion AreRaw in
      record {
        stage = refl;
        staying = h.staying;
        ours = record { begun = subst P (sym h.begun) tt; control = lane-others q.control h.lane; publish = subst R (sym h.groups) tt };
        secrets = (let a = h.secrets in let b = lane-secrets q.control h.lane in omega (arith, a, b));
        each = λ n. along-dead (at n cs) (awaited_on n q.awaited) (acts n q.control) (s.uses n) (lane-none n q.control h.lane) (h.uses n);
        due = λ n. (let a = marks-pay n ms h.marks in let b = lane-pays n q.control h.lane in omega (arith, a, b));
        begun = subst Q (sym h.begun) tt;
        groups = subst S (sym h.groups) tt;
      }
