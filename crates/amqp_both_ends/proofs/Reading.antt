-- The one reply that is owed: it has come in part, or it is heard, and of the last one the session ends Closed.
use Rattle.std.proofs.Common.{◌≡◌, ◌≢◌, ◌≤◌, ◌<◌, ◌⊎◌, inl, inr, ◌∙◌, ap, sym, refl, subst, ℕ, zero, suc, ◌&&◌, not, if◌then◌else◌, Bool, true, false, true≢false, List, [], ◌∷◌, ◌++◌, length, take, drop, append-nil, Option, Some, None, is_some, Ok, arith}
use Rattle.std.specs.List.{flat_map, AllByRecursion}
use Rattle.std.proofs.lemmas.Bool.{cases_lt}
use Rattle.std.proofs.lemmas.List.{take-append-drop}
use Rattle.amqp_types.proofs.Small.{if-true, and-true}
use Rattle.amqp_frame.specs.declared.frame.Frame.{Frame}
use Rattle.amqp_frame.specs.declared.frame.Frame.TheVariants.{Method}
use Rattle.amqp_frame.specs.declared.method.Method.TheVariants.{Start, Tune, OpenOk, CloseOk, UpdateSecretOk, ChannelOpenOk, ChannelFlowOk, ChannelCloseOk}
use Rattle.amqp_frame.specs.declared.frame.Read.{Read}
use Rattle.amqp_frame.specs.declared.frame.Read.TheVariants.{Whole}
use Rattle.amqp_frame.specs.Frames.{FrameOf, encoding}
use Rattle.amqp_outbox.specs.declared.item.Item.{Item}
use Rattle.amqp_outbox.specs.Items.{items_of_groups, plain_item}
use Rattle.amqp_outbox.specs.Queued.{Queued, waiting_items}
use Rattle.amqp_promise.specs.declared.error.ErrorKind.TheVariants.{InvalidConnectionState}
use Rattle.amqp_promise.specs.declared.state.ConnectionState.{ConnectionState}
use Rattle.amqp_promise.specs.declared.state.ConnectionState.TheVariants.{Connecting, Connected, Closing}
use Rattle.amqp_auth.specs.declared.asked.Asked.{Asked}
use Rattle.amqp_auth.specs.declared.asked.Question.{Question}
use Rattle.amqp_auth.specs.Asking.{Answer}
use Rattle.amqp_rules.specs.declared.state.Phase.{Phase}
use Rattle.amqp_rules.specs.declared.state.Phase.TheVariants.{AwaitStart, AwaitTune, AwaitOpenOk}
use Rattle.amqp_settings.specs.declared.configuration.Configuration.{Configuration}
use Rattle.amqp_settings.specs.Config.{Options}
use Rattle.amqp_rules.specs.Sound.{IsSound}
use Rattle.amqp_rules.specs.Talk.{Talk, is_open, end_of}
use Rattle.amqp_channels.specs.Channels.{all_flow}
use Rattle.amqp_rules.specs.Changes.{present_at}
use Rattle.amqp_rules.specs.ConnectionMethods.{connection_rule, connected, reopen_each, secret_taken}
use Rattle.amqp_settings.specs.Handshake.{close_ok}
use Rattle.amqp_rules.specs.Frames.{on_frame, frame_questions}
use Rattle.amqp_rules.specs.Negotiation.{frame_limit}
use Rattle.amqp_rules.specs.Writing.{flows}
use Rattle.amqp_rules.proofs.Keeping.{present-keeps}
use Rattle.amqp_rules.proofs.SoundChanges.{sound-present}
use Rattle.amqp_rules.proofs.SoundFrames.{sound-frame}
use Rattle.amqp_outbox.specs.Queued.{awaited_promise}
use Rattle.amqp_outbox.specs.declared.reply.Reply.TheVariants.{SecretDone}
use Rattle.amqp_legal.specs.Legal.{amqp_header}
use Rattle.amqp_legal.specs.Decider.{Speech}
use Rattle.amqp_legal_rules.proofs.Ties.{frames_in, IsReady, IsTied}
use Rattle.amqp_legal_rules.proofs.Conversing.{Now, now-moment}
use Rattle.amqp_legal_rules.proofs.OnFrames.{now-frame}
use Rattle.amqp_faultless.specs.Faultless.{ServerStage, Server, AreSayable, answers_to, is_frame_max, heard_from}
use Rattle.amqp_faultless.specs.Faultless.ServerStage.{BeforeStart, BeforeTune, BeforeOpenOk, Serving, Gone}
use Rattle.amqp_faultless.proofs.Greeted.{Meets, IsLimited, IsMet, IsOver, Leaves, Heard, AreSaid, frame-acts}
use Rattle.amqp_faultless.proofs.Served.{given-by, less-by}
use Rattle.amqp_faultless.proofs.WhileOpen.{serves-on-keeps}
use Rattle.amqp_faultless.proofs.Limits.{met-least, met-gone}
use Rattle.amqp_faultless.proofs.Tells.{met-present}
use Rattle.amqp_faultless.proofs.Modest.{Modest, modest-frame}
use Rattle.amqp_faultless.proofs.Open.{open-runs}
use Rattle.amqp_faultless.proofs.Tuned.{Tuned, first_tune, tuned-serving, tuned-heard}
use Rattle.amqp_faultless.proofs.TunedRules.{tuned-present}
use Rattle.amqp_faultless.proofs.Modesty.{modest-present}
use Rattle.amqp_queued_rules.specs.Queues.{Queues, QueuesNothing}
use Rattle.amqp_queued_rules.specs.Queued.{reply_to}
use Rattle.amqp_queued_rules.proofs.Parts.{alone-waiting}
use Rattle.amqp_queued_rules.proofs.Telling.{queues-its-own}
use Rattle.amqp_engine.specs.Engine.{Engine, front_of, is_more, can_read, read_row, read_questions, row_questions}
use Rattle.amqp_engine.specs.Turn.{Progress, is_before, goes, read_part, reads}
use Rattle.amqp_engine.specs.Sending.{Sending, frames, frames_sent}
use Rattle.amqp_engine.proofs.Reading.{reads-rest, none-read}
use Rattle.amqp_engine.proofs.Settling.{settle-talk}
use Rattle.amqp_engine.proofs.Follows.{read-heard, read-unread}
use Rattle.amqp_engine.proofs.Serving.{front-whole, front-part}
use Rattle.amqp_engine.proofs.Heeding.{split-longer, split-shorter}
use Rattle.amqp_engine.proofs.LinkKept.{leaves-read}
use Rattle.amqp_engine.proofs.Sends.{sends-left}
use Rattle.amqp_engine.specs.Valid.{agreed_frame_max}
use Rattle.amqp_engine.proofs.TunedWrites.{first-frame_max}
use Rattle.amqp_engine.proofs.Asks.{told-frame, asked_in}
use Rattle.amqp_owing.specs.Owed.{IsReply, all_said}
use Rattle.amqp_joining.specs.Joining.{Join, output}
use Rattle.amqp_both_ends.proofs.Apart.{some-none, none-joined, none-behind, start-serves, tune-serves, open-serves, start-opens, tune-opens}
use Rattle.amqp_both_ends.proofs.Deals.{Spoken, Deals, HeardOne, deals-heard, HasClosed, closed-gone}
use Rattle.amqp_both_ends.proofs.Outgoing.{waiting}
use Rattle.amqp_both_ends.proofs.Spelling.{Spells}
use Rattle.amqp_both_ends.proofs.Commanding.{IsQuiet}
use Rattle.amqp_both_ends.proofs.Replying.{BringsTo, ReopensNone, replied}
use Rattle.amqp_both_ends.proofs.Flowing.{Flows, FlowsOpen, lost-flows, flows-opened, flows-flowed, flows-closed}
use Rattle.amqp_both_ends.proofs.Writes.{left_frames, pending, Mid}
use Rattle.amqp_both_ends.proofs.Weights.{weigh, brings, outlay}
use Rattle.amqp_both_ends.proofs.Costs.{replied-weighs}
use Rattle.amqp_both_ends.proofs.Counting.{IsCounted, counted-read}

-- ---- what a reply says of the server

-- open-ok comes where open was said, and close-ok is the last
abbrev pub ComesAt : Frame → Server → Server → Type 0
ComesAt (Method zero OpenOk) s s' = s.stage ≡ BeforeOpenOk
ComesAt (Method zero CloseOk) s s' = s'.stage ≡ Gone
ComesAt r s s' = Unit {0}

-- a reply neither blocks nor unblocks, and only close-ok is the last
abbrev pub Hearing : Frame → Server → Server → Type 0
Hearing r s s' = (s'.blocked ≡ s.blocked) × BringsTo r s' × ComesAt r s s' × (s'.stage ≡ Gone → r ≡ Method zero CloseOk)

never-last : (r : Frame) (s' : Server) (stage : ServerStage) → stage ≢ Gone → s'.stage ≡ stage → s'.stage ≡ Gone → r ≡ Method zero CloseOk
never-last r s' stage other at gone = absurd (other (sym at ∙ gone))

asked-goes : (stage : ServerStage) (s s' : Server) → answers_to stage s ≡ Some s' → (s'.blocked ≡ s.blocked) × (s'.stage ≡ stage)
asked-goes stage s s' h =
    let k = given-by s.asked (record s { stage = stage; asked = false }) s' h in
    (ap (λ (x : Server). x.blocked) (sym k.1), ap (λ (x : Server). x.stage) (sym k.1))

tune-goes : (b : Bool) (s s' : Server) → (if b then answers_to BeforeOpenOk s else None) ≡ Some s' → (s'.blocked ≡ s.blocked) × (s'.stage ≡ BeforeOpenOk)
tune-goes true s s' h = asked-goes BeforeOpenOk s s' h
tune-goes false s s' h = absurd (let none : None ≡ Some s' = h in cc)

pub hearing : (r : Frame) (s s' : Server) → IsReply r → heard_from s.stage r s ≡ Some s' → Hearing r s s'
hearing r s s' is h = by r is s.stage refl h where
  by : (r : Frame) → IsReply r → (st : ServerStage) → s.stage ≡ st → heard_from st r s ≡ Some s' → Hearing r s s'
  by (Method zero (Start a b c d e)) is BeforeStart at h =
      let same : record s { stage = BeforeTune } ≡ s' = cc in
      let stage : s'.stage ≡ BeforeTune = ap (λ (x : Server). x.stage) (sym same) in
      (ap (λ (x : Server). x.blocked) (sym same), stage, tt, never-last _ s' BeforeTune (λ e. cc) stage)
  by (Method zero (Start a b c d e)) is st at h = absurd (let none : None ≡ Some s' = h in cc)
  by (Method zero (Tune a b c)) is BeforeTune at h = let k = tune-goes (is_frame_max b) s s' h in (k.0, k.1, tt, never-last _ s' BeforeOpenOk (λ e. cc) k.1)
  by (Method zero (Tune a b c)) is st at h = absurd (let none : None ≡ Some s' = h in cc)
  by (Method zero OpenOk) is BeforeOpenOk at h = let k = asked-goes Serving s s' h in (k.0, tt, at, never-last _ s' Serving (λ e. cc) k.1)
  by (Method zero OpenOk) is st at h = absurd (let none : None ≡ Some s' = h in cc)
  by (Method zero CloseOk) is Serving at h =
      let k = given-by s.closing (record s { stage = Gone }) s' h in
      (ap (λ (x : Server). x.blocked) (sym k.1), tt, ap (λ (x : Server). x.stage) (sym k.1), (λ gone. refl))
  by (Method zero CloseOk) is st at h = absurd (let none : None ≡ Some s' = h in cc)
  by (Method zero UpdateSecretOk) is Serving at h =
      let k = less-by s.secrets (λ left. record s { secrets = left }) s' h in (ap (λ (x : Server). x.blocked) (sym k.2), tt, tt, never-last _ s' Serving (λ e. cc) (ap (λ (x : Server). x.stage) (sym k.2) ∙ at))
  by (Method zero UpdateSecretOk) is st at h = absurd (let none : None ≡ Some s' = h in cc)
  by (Method (suc n) ChannelOpenOk) is Serving at h =
      let k = serves-on-keeps (suc n) (s.uses (suc n)) (Method (suc n) ChannelOpenOk) s s' h in (k.0, tt, tt, never-last _ s' Serving (λ e. cc) (k.1 ∙ at))
  by (Method (suc n) ChannelOpenOk) is st at h = absurd (let none : None ≡ Some s' = h in cc)
  by (Method (suc n) (ChannelFlowOk active)) is Serving at h =
      let k = serves-on-keeps (suc n) (s.uses (suc n)) (Method (suc n) (ChannelFlowOk active)) s s' h in (k.0, tt, tt, never-last _ s' Serving (λ e. cc) (k.1 ∙ at))
  by (Method (suc n) (ChannelFlowOk active)) is st at h = absurd (let none : None ≡ Some s' = h in cc)
  by (Method (suc n) ChannelCloseOk) is Serving at h =
      let k = serves-on-keeps (suc n) (s.uses (suc n)) (Method (suc n) ChannelCloseOk) s s' h in (k.0, tt, tt, never-last _ s' Serving (λ e. cc) (k.1 ∙ at))
  by (Method (suc n) ChannelCloseOk) is st at h = absurd (let none : None ≡ Some s' = h in cc)
  by f is st at h = absurd is

-- ---- what a reply says of the session

-- before the connection is open there are no channels
pub none-before : (s : Server) (t : Talk) → IsMet s t → s.stage ≢ Serving → t.channels ≡ []
none-before s t m other = by t.state t.phase m.meets where
  by : (st : ConnectionState) (p : Phase) → Meets st p s t.outbox t.channels t.committed → t.channels ≡ []
  by Connecting AwaitStart h = h.none
  by Connecting AwaitTune h = h.none
  by Connecting AwaitOpenOk h = h.none
  by Connected p h = absurd (other h.stage)
  by Closing p h = absurd (other h)
  by st p h = absurd h

pub flows-none : (t : Talk) → t.channels ≡ [] → Flows t
flows-none t none = ap all_flow none

secret-flows : (o : Option (Option ℕ)) (t : Talk) → Flows t → FlowsOpen (secret_taken o t)
secret-flows None t h = lost-flows (InvalidConnectionState Connected) t
secret-flows (Some None) t h = λ now. h
secret-flows (Some (Some number)) t h = λ now. h

secret-ok-flows : (st : ConnectionState) (p : Phase) (answers : List Asked) (t : Talk) → Flows t → FlowsOpen (connection_rule st p UpdateSecretOk answers t)
secret-ok-flows Closing p answers t h = λ now. h
secret-ok-flows Connected p answers t h = secret-flows (awaited_promise 0 SecretDone t.outbox) t h
secret-ok-flows Connecting AwaitStart answers t h = lost-flows (InvalidConnectionState Connecting) t
secret-ok-flows Connecting AwaitTune answers t h = lost-flows (InvalidConnectionState Connecting) t
secret-ok-flows Connecting AwaitOpenOk answers t h = lost-flows (InvalidConnectionState Connecting) t
secret-ok-flows st p answers t h = lost-flows (InvalidConnectionState st) t

-- publishes flow on
pub flows-heard : (r : Frame) (answers : List Asked) (s s' : Server) (t : Talk) → IsReply r → IsMet s t → Hearing r s s' → IsMet s' (on_frame r answers t) → Flows t → Flows (on_frame r answers t)
flows-heard r answers s s' t is m k m' flow = by r is k m' where
  by : (r : Frame) → IsReply r → Hearing r s s' → IsMet s' (on_frame r answers t) → Flows (on_frame r answers t)
  by (Method zero (Start a b c d e)) is k m' =
      flows-none (on_frame (Method zero (Start a b c d e)) answers t)
      (none-before s' (on_frame (Method zero (Start a b c d e)) answers t) m' (λ same. tune-serves (sym k.1 ∙ same)))
  by (Method zero (Tune a b c)) is k m' =
      flows-none (on_frame (Method zero (Tune a b c)) answers t)
      (none-before s' (on_frame (Method zero (Tune a b c)) answers t) m' (λ same. open-serves (sym k.1 ∙ same)))
  by (Method zero OpenOk) is k m' = subst Flows (sym (frame-acts s t m (Method zero OpenOk) answers)) (opened t.state t.phase m.meets) where
    opened : (st : ConnectionState) (p : Phase) → Meets st p s t.outbox t.channels t.committed → Flows (connection_rule st p OpenOk answers t)
    opened Connecting AwaitOpenOk h = ap (λ cs. flows (reopen_each cs (connected t))) h.none ∙ flows-none (connected t) h.none
    opened Connecting AwaitStart h = absurd (start-opens (sym h.at_stage ∙ k.2))
    opened Connecting AwaitTune h = absurd (tune-opens (sym h.at_stage ∙ k.2))
    opened Connected p h = absurd (open-serves (sym (sym h.stage ∙ k.2)))
    opened Closing p h = absurd (open-serves (sym (sym h ∙ k.2)))
    opened st p h = absurd h
  by (Method zero CloseOk) is k m' =
      absurd (met-gone (on_frame (Method zero CloseOk) answers t).state (on_frame (Method zero CloseOk) answers t).phase s' _ _ _ m'.meets k.2)
  by (Method zero UpdateSecretOk) is k m' =
      let rule = frame-acts s t m (Method zero UpdateSecretOk) answers in
      subst Flows (sym rule) (secret-ok-flows t.state t.phase answers t flow (ap (λ (y : Talk). is_open y) (sym rule) ∙ m'.opened))
  by (Method (suc n) ChannelOpenOk) is k m' =
      let rule = frame-acts s t m (Method (suc n) ChannelOpenOk) answers in
      subst Flows (sym rule) (flows-opened (suc n) t flow (ap (λ (y : Talk). is_open y) (sym rule) ∙ m'.opened))
  by (Method (suc n) (ChannelFlowOk active)) is k m' =
      let rule = frame-acts s t m (Method (suc n) (ChannelFlowOk active)) answers in
      subst Flows (sym rule) (flows-flowed (suc n) active t flow (ap (λ (y : Talk). is_open y) (sym rule) ∙ m'.opened))
  by (Method (suc n) ChannelCloseOk) is k m' =
      let rule = frame-acts s t m (Method (suc n) ChannelCloseOk) answers in
      subst Flows (sym rule) (flows-closed (suc n) t flow (ap (λ (y : Talk). is_open y) (sym rule) ∙ m'.opened))
  by f is k m' = absurd is

-- ---- what is read

-- groups that have no frames are none
groups-none : (v : Speech) (groups : List (List Item)) → AllByRecursion (IsReady v) groups → items_of_groups groups ≡ [] → groups ≡ []
groups-none v [] ready none = refl
groups-none v (group ∷ groups) ready none =
    absurd (some-none _ _ (sym ready.0.frames ∙ ap frames_in (none-joined group (items_of_groups groups) none)))

frames-none : (items : List Item) → frames items ≡ [] → items ≡ []
frames-none [] none = refl
frames-none (i ∷ items) none = absurd cc

-- the session is over, and the double has told all; its last reply was the close-ok that it owed, which the server said
-- last; and what every peer takes was agreed
pub record Over (numbers : Configuration) (began : Server) (e : Engine) (p : Progress) (x : Sending) (j : Join) : Type 0 where
  pub over : IsOver p.engine.talk
  pub told : output j ≡ []
  pub owed : Deals numbers (frames_sent x) [] (Method zero CloseOk ∷ []) began
  pub server : Server
  pub heard : heard_from began.stage (Method zero CloseOk) began ≡ Some server
  pub gone : server.stage ≡ Gone
  pub came : e.unread ≡ encoding (Method zero CloseOk)
  pub enough : 4096 ≤ agreed_frame_max (frames_sent x)

-- nothing came whole
pub record HearsNone (s : Server) (rs : List Frame) (octets : List ℕ) (s' : Server) (rs' : List Frame) (unread : List ℕ) : Type 0 where
  pub server : s' ≡ s
  pub owed : rs' ≡ rs
  pub left : unread ≡ octets

-- the one reply that was owed came whole, and was heard
pub record HearsOne (s : Server) (rs : List Frame) (octets : List ℕ) (s' : Server) (rs' : List Frame) (unread : List ℕ) : Type 0 where
  pub r : Frame
  pub owed : rs ≡ r ∷ []
  pub none : rs' ≡ []
  pub heard : heard_from s.stage r s ≡ Some s'
  pub spells : Spells r
  pub came : octets ≡ encoding r
  pub left : unread ≡ []

abbrev pub Hears : Server → List Frame → List ℕ → Server → List Frame → List ℕ → Type 0
Hears s rs octets s' rs' unread = HearsNone s rs octets s' rs' unread ⊎ HearsOne s rs octets s' rs' unread

-- a frame may be as long as every peer takes, once the server serves
enough-agreed : (st : ConnectionState) (p : Phase) (s : Server) (t : Talk) → Meets st p s t.outbox t.channels t.committed → s.stage ≡ Serving → IsLimited st p t.capacity t.configuration.frame_max
    → 4096 ≤ t.configuration.frame_max
enough-agreed Connecting AwaitStart s t h at limit = absurd (start-serves (sym h.at_stage ∙ at))
enough-agreed Connecting AwaitTune s t h at limit = absurd (tune-serves (sym h.at_stage ∙ at))
enough-agreed Connecting AwaitOpenOk s t h at limit = absurd (open-serves (sym h.at_stage ∙ at))
enough-agreed Connected p s t h at limit = limit.0
enough-agreed Closing p s t h at limit = limit.0
enough-agreed st p s t h at limit = absurd h

-- a server that says close-ok serves
serves-last : (st : ServerStage) (s s' : Server) → heard_from st (Method zero CloseOk) s ≡ Some s' → st ≡ Serving
serves-last Serving s s' h = refl
serves-last st s s' h = absurd cc

-- both ends stand, and where the last close was told, it was said or is to be
pub record Kept (options : Options) (numbers : Configuration) (began : Server) (e : Engine) (p : Progress) (x : Sending) (j : Join) (owed : List Frame) : Type 0 where
  pub server : Server
  pub rs : List Frame
  pub mid : Mid options numbers p.engine x j server rs
  pub closed : j.closing ≡ true → HasClosed (frames_sent x ++ pending x p.engine.talk)
  pub counts : (bound k : ℕ) → IsCounted numbers bound k e x j owed → IsCounted numbers bound k p.engine x j rs
  pub hears : Hears began owed e.unread server rs p.engine.unread

module _ (options : Options) (numbers : Configuration) (n : ℕ) (p : Progress) (x : Sending) (j : Join) (whole : p.cut ≡ None) (fuel : length p.engine.unread ≤ suc n)
    (answered : Answer (asked_in (suc n) p) p.answers) (sayable : AreSayable options p.answers) (now : Now p.engine.talk (frames x.committed)) (server : Server) (rs : List Frame) (m : Mid options numbers p.engine x j server rs)
    (closed : j.closing ≡ true → HasClosed (frames_sent x ++ pending x p.engine.talk)) where
  abbrev t : Talk
  t = present_at p.at p.engine.talk

  abbrev q : Progress
  q = read_part p

  -- the one reply has come whole
  module _ (r : Frame) (one : HeardOne numbers (frames_sent x) (pending x p.engine.talk) [] r server) (reply : IsReply r) (spells : Spells r) (all : p.engine.unread ≡ encoding r) (none : output j ≡ []) (alone : rs ≡ r ∷ [])
      (owed : Deals numbers (frames_sent x) [] (r ∷ []) server) where
    abbrev s' : Server
    s' = one.server

    left-none : drop x.sent x.committed ≡ []
    left-none = frames-none (drop x.sent x.committed) (none-joined (left_frames x) (frames (waiting p.engine.talk)) one.nothing)

    waits-none : waiting p.engine.talk ≡ []
    waits-none = frames-none (waiting p.engine.talk) (none-behind (left_frames x) (frames (waiting p.engine.talk)) one.nothing)

    met-s : IsMet server p.engine.talk
    met-s = subst (λ (items : List Item). IsMet (all_said (frames items) server) p.engine.talk) left-none m.met

    met-t : IsMet server t
    met-t = met-present p.at server p.engine.talk met-s

    tuned-s : Tuned (frames x.committed) server p.engine.talk
    tuned-s = subst (λ (items : List Item). Tuned (frames x.committed) (all_said (frames items) server) p.engine.talk) left-none m.tuned

    tuned-t : Tuned (frames x.committed) server t
    tuned-t = tuned-present p.at (frames x.committed) server p.engine.talk tuned-s

    limit : length (encoding r) ≤ frame_limit p.engine.talk
    limit = let least = met-least server p.engine.talk met-s in omega (arith, spells.1, least)

    front : front_of p.engine ≡ Whole r (length (encoding r))
    front = front-whole server p.engine r (encoding r) [] (all ∙ sym (append-nil (encoding r))) spells.0 limit

    can : can_read p.engine ≡ true
    can = and-true (is_open p.engine.talk) (not (is_more (front_of p.engine))) met-s.opened (ap (λ y. not (is_more y)) front)

    goes-on : (goes p && can_read p.engine) ≡ true
    goes-on = and-true (goes p) (can_read p.engine) (ap (λ c. is_before c p.done) whole) can

    asks-now : read_questions p.at p.engine ≡ frame_questions r t
    asks-now = ap (λ (y : Read). row_questions p.at y p.engine) front

    asks-first : asked_in (suc n) p ≡ frame_questions r t ++ asked_in n q
    asks-first =
        if-true (goes p && can_read p.engine) (read_questions p.at p.engine ++ asked_in n q) [] goes-on
        ∙ ap (λ qs. qs ++ asked_in n q) asks-now

    said : AreSaid (frame_questions r t) p.answers
    said =
        let P : List Question → Type 0 = λ qs. Answer qs p.answers in
        (told-frame options (asked_in n q) p.answers r t (subst P asks-first answered) sayable).0

    heard : Heard s' q.engine.talk
    heard = read-heard p.at p.answers p.engine r (length (encoding r)) server s' met-s front one.heard said

    told : q.engine.talk ≡ on_frame r p.answers t
    told = ap (λ (y : Read). (read_row p.at y p.answers p.engine).talk) front ∙ settle-talk _

    hears : Hearing r server s'
    hears = hearing r server s' reply one.heard

    sent-all : frames x.committed ≡ frames_sent x
    sent-all =
        ap frames (sym (take-append-drop x.sent x.committed)) ∙ ap (λ (xs : List Item). frames (take x.sent x.committed ++ xs)) left-none ∙ ap frames (append-nil (take x.sent x.committed))

    abbrev o : Queued
    o = p.engine.talk.outbox

    tied-p : IsTied p.engine.talk (frames x.committed)
    tied-p = now.0 met-s.opened

    first-none : o.begun ++ o.control ≡ []
    first-none = none-joined (o.begun ++ o.control) (items_of_groups o.publish) waits-none

    begun-none : o.begun ≡ []
    begun-none = none-joined o.begun o.control first-none

    control-none : o.control ≡ []
    control-none = none-behind o.begun o.control first-none

    publish-none : o.publish ≡ []
    publish-none = groups-none tied-p.later o.publish tied-p.groups (none-behind (o.begun ++ o.control) (items_of_groups o.publish) waits-none)

    quiet : IsQuiet t
    quiet =
        record {
          begun = present-keeps (λ z. z.outbox.begun) p.at p.engine.talk (λ n. refl) ∙ begun-none;
          control = present-keeps (λ z. z.outbox.control) p.at p.engine.talk (λ n. refl) ∙ control-none;
          publish = present-keeps (λ z. z.outbox.publish) p.at p.engine.talk (λ n. refl) ∙ publish-none;
        }

    -- no channel was kept for open-ok
    reopens-none : (f : Frame) → ComesAt f server s' → ReopensNone f t
    reopens-none (Method zero OpenOk) at = none-before server t met-t (λ same. open-serves (sym at ∙ same))
    reopens-none f at = tt

    none-left : (bytes : List ℕ) → drop (length bytes) bytes ≡ []
    none-left [] = refl
    none-left (b ∷ bytes) = none-left bytes

    first-of : (sent : List Frame) → frames_sent x ≡ sent → Deals numbers sent [] [] s' → (said : List Frame) × (frames_sent x ≡ amqp_header ∷ said) × Spoken numbers said [] [] s'
    first-of [] is d = absurd (some-none amqp_header [] (sym d.2))
    first-of (g ∷ said) is d = (said, is ∙ ap (λ (f : Frame). f ∷ said) d.0, d.1)

    -- the session goes on, and says what follows
    goes-further : IsMet s' q.engine.talk → Mid options numbers q.engine x j s' []
    goes-further met' =
        let k = first-of (frames_sent x) refl one.deals in
        let met-f : IsMet s' (on_frame r p.answers t) = subst (IsMet s') told met' in
        let after : Now (on_frame r p.answers t) (amqp_header ∷ k.0) =
        now-frame r p.answers t amqp_header k.0 (now-moment p.at p.engine.talk (amqp_header ∷ k.0) (subst (Now p.engine.talk) (sent-all ∙ k.1) now)) in
        let reopens : ReopensNone r t = reopens-none r hears.2 in
        let spoken : Spoken numbers k.0 (frames (waiting_items (on_frame r p.answers t).outbox)) [] s' =
        replied numbers r p.answers t s' k.0 k.2 quiet (after.0 met-f.opened) reply hears.1 reopens in
        record {
          deals =
              subst (λ (fs : List Frame). Deals numbers fs (left_frames x ++ frames (waiting q.engine.talk)) [] s') (sym k.1)
              (subst (λ (items : List Item). Deals numbers (amqp_header ∷ k.0) (frames items ++ frames (waiting q.engine.talk)) [] s') (sym left-none)
              (refl, subst (λ (y : Talk). Spoken numbers k.0 (frames (waiting y)) [] s') (sym told) spoken));
          met = subst (λ (items : List Item). IsMet (all_said (frames items) s') q.engine.talk) (sym left-none) met';
          free = hears.0 ∙ m.free;
          sound = subst IsSound (sym told) (sound-frame r p.answers t (sound-present p.at p.engine.talk m.sound));
          modest = subst (Modest options) (sym told) (modest-frame options r p.answers t sayable (modest-present options p.at p.engine.talk m.modest));
          flowing = subst Flows (sym told)
              (flows-heard r p.answers server s' t reply met-t hears met-f (present-keeps flows p.at p.engine.talk (λ n. refl) ∙ m.flowing));
          tuned = subst (λ (items : List Item). Tuned (frames x.committed) (all_said (frames items) s') q.engine.talk) (sym left-none) (subst (Tuned (frames x.committed) s') (sym told) (tuned-heard r p.answers (frames x.committed) server s' t met-t tuned-t one.heard said met-f));
          sends = sends-left p.engine q.engine (x ∷ []) (leaves-read p.at p.answers p.engine) m.sends;
          numbered = m.numbered;
          client = m.client;
          unrefused = m.unrefused;
          answered = m.answered;
          bytes =
              ap (λ (bs : List ℕ). bs ++ output j)
              (read-unread p.at p.answers p.engine r (length (encoding r)) s' front met' ∙ ap (drop (length (encoding r))) all ∙ none-left (encoding r))
              ∙ none;
          spells = tt;
        }

    -- what is said to the reply is no more than it may bring
    counts-on : (bound k : ℕ) → IsCounted numbers bound k p.engine x j rs → IsCounted numbers bound k q.engine x j []
    counts-on bound k h =
        let modest : Modest options t = modest-present options p.at p.engine.talk m.modest in
        let within = replied-weighs numbers p.answers t quiet r reply (reopens-none r hears.2) (subst (λ (o : Options). AreSayable o p.answers) (sym modest.0) sayable) modest.1 in
        let pends : pending x q.engine.talk ≡ frames_in (waiting_items (on_frame r p.answers t).outbox) =
        ap (λ (items : List Item). frames items ++ frames (waiting q.engine.talk)) left-none ∙ ap (λ (y : Talk). frames (waiting y)) told in
        counted-read numbers bound k p.engine q.engine x j r one.nothing (subst (λ (fs : List Frame). weigh (outlay numbers) fs ≤ brings r) (sym pends) within)
        (subst (IsCounted numbers bound k p.engine x j) alone h)

    -- once our close is answered, the session does not go on
    never-closed : IsMet s' q.engine.talk → j.closing ≡ true → ⊥
    never-closed met' is =
        let c : HasClosed (frames_sent x ++ []) = subst (λ (fs : List Frame). HasClosed (frames_sent x ++ fs)) one.nothing (closed is) in
        met-gone q.engine.talk.state q.engine.talk.phase s' q.engine.talk.outbox q.engine.talk.channels q.engine.talk.committed met'.meets
        (closed-gone numbers (frames_sent x) s' one.deals c)

    -- what waits after close-ok is nothing, so the session does not leave
    stays : s'.stage ≡ Gone → IsOver q.engine.talk ⊎ Leaves q.engine.talk → IsOver q.engine.talk
    stays gone (inl over) = over
    stays gone (inr leaves) = absurd (by ((queues-its-own t).frame r p.answers)) where
      empty : reply_to r p.answers t ≡ []
      empty = ap (λ (f : Frame). reply_to f p.answers t) (hears.3 gone)

      some : waiting_items (on_frame r p.answers t).outbox ≢ []
      some none =
          let waits : waiting_items q.engine.talk.outbox ≡ [] = ap (λ (y : Talk). waiting_items y.outbox) told ∙ none in
          let only_close : waiting_items q.engine.talk.outbox ≡ plain_item 0 close_ok ∷ [] = ap waiting_items leaves.only_close in
          some-none (plain_item 0 close_ok) [] (sym only_close ∙ waits)

      none-queued : Queues [] [] t.outbox (on_frame r p.answers t).outbox → ⊥
      none-queued k = some (alone-waiting [] [] t.outbox (on_frame r p.answers t).outbox k quiet.control quiet.publish quiet.begun)

      by : QueuesNothing t.outbox (on_frame r p.answers t).outbox ⊎ Queues (reply_to r p.answers t) [] t.outbox (on_frame r p.answers t).outbox → ⊥
      by (inl k) = none-queued k
      by (inr k) = none-queued (subst (λ (items : List Item). Queues items [] t.outbox (on_frame r p.answers t).outbox) empty k)

    ended-shut : (y : Talk) → end_of y ≡ Some (Ok tt) → is_open y ≡ false
    ended-shut y over = by (is_open y) refl where
      by : (b : Bool) → is_open y ≡ b → b ≡ false
      by false is = refl
      by true is = absurd (true≢false (sym (ap is_some over) ∙ open-runs y is))

    one-more : reads (suc n) p ≡ reads n q
    one-more = if-true (goes p && can_read p.engine) (reads n q) p goes-on

    -- it is read, and nothing behind it
    pub whole-read : Kept options numbers server p.engine (reads (suc n) p) x j rs ⊎ Over numbers server p.engine (reads (suc n) p) x j
    whole-read = by heard where
      Reads : Progress → Type 0
      Reads y = Kept options numbers server p.engine y x j rs ⊎ Over numbers server p.engine y x j

      rest : (shut : can_read q.engine ≡ false) → Reads q → Reads (reads (suc n) p)
      rest shut h = subst Reads (sym (one-more ∙ reads-rest n q shut)) h

      by : Heard s' q.engine.talk → Reads (reads (suc n) p)
      by (inl met') =
          let gone : q.engine.unread ≡ [] =
          read-unread p.at p.answers p.engine r (length (encoding r)) s' front met' ∙ ap (drop (length (encoding r))) all ∙ none-left (encoding r) in
          rest (none-read q.engine (let k = ap length gone in omega (arith, k))) (inl (record { server = s'; rs = []; mid = goes-further met'; closed = λ is. absurd (never-closed met' is); counts = counts-on; hears = inr (record { r = r; owed = alone; none = refl; heard = one.heard; spells = spells; came = all; left = gone }) }))
      by (inr (gone, ends)) =
          let over = stays gone ends in
          let close : r ≡ Method zero CloseOk = hears.3 gone in
          let close_heard : heard_from server.stage (Method zero CloseOk) server ≡ Some s' = subst (λ (f : Frame). heard_from server.stage f server ≡ Some s') close one.heard in
          let serves : server.stage ≡ Serving = serves-last server.stage server s' close_heard in
          let frame_max = p.engine.talk.configuration.frame_max in
          let heartbeat = p.engine.talk.configuration.heartbeat in
          let tune = tuned-serving (frames x.committed) server p.engine.talk met-s tuned-s serves in
          let agreed = enough-agreed p.engine.talk.state p.engine.talk.phase server p.engine.talk met-s.meets serves met-s.limit in
          rest (ap (λ (o : Bool). o && not (is_more (front_of q.engine))) (ended-shut q.engine.talk over.over))
          (inr (record {
            over = over;
            told = none;
            owed = subst (λ (f : Frame). Deals numbers (frames_sent x) [] (f ∷ []) server) close owed;
            server = s';
            heard = close_heard;
            gone = gone;
            came = all ∙ ap encoding close;
            enough = (let same = ap agreed_frame_max (sym (append-nil (frames_sent x))) ∙ first-frame_max (frames_sent x) [] frame_max heartbeat (ap first_tune (sym sent-all) ∙ tune) in let least = agreed in omega (arith, same, least));
          }))

  reply-of : (sent fs rs : List Frame) (r : Frame) (s : Server) → Deals numbers sent fs (r ∷ rs) s → IsReply r
  reply-of [] fs rs r s h = absurd (some-none r rs h.1)
  reply-of (g ∷ gs) fs rs r s h = h.1.owes.are.0

  -- what has come is read
  pub read-reply : Kept options numbers server p.engine (reads (suc n) p) x j rs ⊎ Over numbers server p.engine (reads (suc n) p) x j
  read-reply = by rs refl m.deals m.bytes m.spells where
    Reads : Progress → Type 0
    Reads y = Kept options numbers server p.engine y x j rs ⊎ Over numbers server p.engine y x j

    as-before : can_read p.engine ≡ false → Reads (reads (suc n) p)
    as-before shut = subst Reads (sym (reads-rest (suc n) p shut)) (inl (record { server = server; rs = rs; mid = m; closed = closed; counts = λ bound k h. h; hears = inl (record { server = refl; owed = refl; left = refl }) }))

    by : (qs : List Frame) → rs ≡ qs → Deals numbers (frames_sent x) (pending x p.engine.talk) qs server → p.engine.unread ++ output j ≡ flat_map encoding qs → AllByRecursion Spells qs
        → Reads (reads (suc n) p)
    by [] is deals bytes spells = as-before (none-read p.engine (let k = ap length (none-joined p.engine.unread (output j) bytes) in omega (arith, k)))
    by (r ∷ qs) is deals bytes spells = sized (cases_lt (length p.engine.unread) (length (encoding r))) where
      one : HeardOne numbers (frames_sent x) (pending x p.engine.talk) qs r server
      one = deals-heard numbers (frames_sent x) (pending x p.engine.talk) qs r server deals

      spelled : p.engine.unread ++ output j ≡ encoding r ++ []
      spelled = bytes ∙ ap (λ (xs : List Frame). flat_map encoding (r ∷ xs)) one.alone

      sized : (length p.engine.unread < length (encoding r)) ⊎ (length (encoding r) ≤ length p.engine.unread) → Reads (reads (suc n) p)
      sized (inl less) =
          let part = split-shorter p.engine.unread (output j) (encoding r) [] spelled less in
          let limit = met-least (all_said (left_frames x) server) p.engine.talk m.met in
          let size = ap length part.1 in
          let more = front-part p.engine r part.0 (subst (FrameOf r) (sym part.1) spells.0.0) (let most = spells.0.1 in omega (arith, size, most, limit)) part.2 in
          as-before more
      sized (inr enough) =
          let part = split-longer p.engine.unread (output j) (encoding r) [] spelled enough in
          let all : p.engine.unread ≡ encoding r = part.1 ∙ ap (λ (xs : List ℕ). encoding r ++ xs) (none-joined part.0 (output j) part.2) ∙ append-nil (encoding r) in
          let alone = one.alone in
          let deals_one : Deals numbers (frames_sent x) (pending x p.engine.talk) (r ∷ []) server =
          subst (λ (xs : List Frame). Deals numbers (frames_sent x) (pending x p.engine.talk) (r ∷ xs) server) alone deals in
          whole-read r (deals-heard numbers (frames_sent x) (pending x p.engine.talk) [] r server deals_one) (reply-of (frames_sent x) (pending x p.engine.talk) qs r server deals)
          spells.0 all (none-behind part.0 (output j) part.2) (is ∙ ap (λ (xs : List Frame). r ∷ xs) alone)
          (subst (λ (fs : List Frame). Deals numbers (frames_sent x) fs (r ∷ []) server) one.nothing deals_one)
