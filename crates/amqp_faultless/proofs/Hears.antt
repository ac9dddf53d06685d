-- No frame of a faultless server loses the link: each by the state of the session.
use Rattle.std.proofs.Common.{◌≡◌, inl, zero, if◌then◌else◌, Bool, true, false, List, [], ◌∷◌, ◌++◌, Option, Some, None, Result, Ok, refl, ap, sym, ◌∙◌, subst, arith}
use Rattle.amqp_frame.specs.declared.frame.Frame.{Frame}
use Rattle.amqp_frame.specs.declared.frame.Frame.TheVariants.{Method, Heartbeat}
use Rattle.amqp_frame.specs.declared.method.Method.{Method as AnyMethod}
use Rattle.amqp_frame.specs.declared.method.Method.TheVariants.{Start, Secure, Tune, OpenOk}
use Rattle.amqp_outbox.specs.declared.item.Item.{Item}
use Rattle.amqp_outbox.specs.Items.{plain_item}
use Rattle.amqp_outbox.specs.Queued.{Queued}
use Rattle.amqp_settings.specs.declared.configuration.Configuration.{Configuration}
use Rattle.amqp_rules.specs.declared.state.Phase.{Phase}
use Rattle.amqp_rules.specs.declared.state.Phase.TheVariants.{AwaitStart, AwaitTune, AwaitOpenOk}
use Rattle.amqp_promise.specs.declared.state.ConnectionState.{ConnectionState}
use Rattle.amqp_promise.specs.declared.state.ConnectionState.TheVariants.{Initial, Connecting, Connected, Closing, Closed, Reconnecting, Error}
use Rattle.amqp_promise.specs.declared.error.ErrorKind.{ErrorKind}
use Rattle.amqp_answers.specs.declared.answer.Answer.{Answer}
use Rattle.amqp_answers.specs.declared.answer.Answer.TheVariants.{Connected as AnswerConnected}
use Rattle.amqp_auth.specs.declared.asked.Question.{Question}
use Rattle.amqp_auth.specs.declared.asked.Question.TheVariants as question
use Rattle.amqp_auth.specs.declared.asked.Asked.{Asked as ProviderAnswer}
use Rattle.amqp_auth.specs.declared.asked.Asked.TheVariants as answer
use Rattle.amqp_maps.specs.Listed.{at}
use Rattle.amqp_rules.specs.Talk.{Talk}
use Rattle.amqp_answers.specs.Settled.{Promises, settled, settled_by}
use Rattle.amqp_settings.specs.Negotiation.{tune}
use Rattle.amqp_settings.specs.Handshake.{start_ok, secure_ok, tune_ok, open_vhost}
use Rattle.amqp_rules.specs.ConnectionMethods.{connection_rule, on_start, on_secure, on_tune, connected, reopen_each, on_open_ok}
use Rattle.amqp_rules.specs.Frames.{method_questions, frame_rule, on_frame, questions_in, frame_questions}
use Rattle.amqp_faultless.specs.Faultless.{ServerStage, Server, answers_to, is_frame_max, heard_from}
use Rattle.amqp_faultless.specs.Faultless.ServerStage.{BeforeStart, BeforeTune, BeforeOpenOk, Serving}
use Rattle.amqp_maps.proofs.Numbered.{put-same}
use Rattle.amqp_faultless.proofs.Served.{Channels, given-by}
use Rattle.amqp_faultless.proofs.Greeted.{Meets, IsMet, IsLimited, limit-in, Heard, meets-in, first-in, frame-acts, questions-act, connection-in, AreSaid, greets-push, greets-answered, greets-opened}
use Rattle.amqp_faultless.proofs.WhileOpen.{heard-connected, heard-closing}
use Rattle.amqp_types.proofs.Small.{some_is}

-- the first promise is answered
settled-first : (r : Result Answer ErrorKind) (ps : Promises) → at 0 ps ≡ Some None → at 0 (settled 0 r ps) ≡ Some (Some r)
settled-first r ps h =
    ap (λ (o : Option (Option (Result Answer ErrorKind))). at 0 (settled_by o 0 r ps)) h ∙ put-same 0 (Some r) ps

-- in this state and phase
module _ (s : Server) (t : Talk) (m : IsMet s t) (p : Phase) (is : t.state ≡ Connecting) (phase : t.phase ≡ p) where
  pub meets-at : Meets Connecting p s t.outbox t.channels t.committed
  meets-at =
      let P : Phase → Type 0 = λ x. Meets Connecting x s t.outbox t.channels t.committed in
      subst P phase (meets-in s t m Connecting is)

  limit-at : IsLimited Connecting p t.capacity t.configuration.frame_max
  limit-at = let P : Phase → Type 0 = λ x. IsLimited Connecting x t.capacity t.configuration.frame_max in subst P phase (limit-in s t m Connecting is)

  at-phase : (s' : Server) (method : AnyMethod) (answers : List ProviderAnswer) → Heard s' (connection_rule Connecting p method answers t)
      → Heard s' (connection_rule t.state t.phase method answers t)
  at-phase s' method answers h = let P : Talk → Type 0 = Heard s' in subst P (sym (connection-in Connecting p method answers t is phase)) h

  said-at : (method : AnyMethod) (answers : List ProviderAnswer) → AreSaid (method_questions t.state t.phase method) answers → AreSaid (method_questions Connecting p method) answers
  said-at method answers h =
      let P : List Question → Type 0 = λ x. AreSaid x answers in
      subst P (ap (λ (x : ConnectionState). method_questions x t.phase method) is ∙ ap (λ (x : Phase). method_questions Connecting x method) phase) h

  -- it is met again in another phase
  met-at : (s' : Server) (next : Phase) (q : Queued) (agreed : Configuration) → s'.blocked ≡ s.blocked → IsLimited Connecting next t.capacity agreed.frame_max
      → Meets Connecting next s' q t.channels t.committed → IsMet s' (record t { phase = next; outbox = q; configuration = agreed })
  met-at s' next q agreed same lim h =
      let L : ConnectionState → Type 0 = λ x. IsLimited x next t.capacity agreed.frame_max in
      let P : ConnectionState → Type 0 = λ x. Meets x next s' q t.channels t.committed in
      record { opened = m.opened; acting = m.acting; blocked = m.blocked ∙ sym same; first = m.first; limit = subst L (sym is) lim; meets = subst P (sym is) h }

-- start
heard-start : (s : Server) (t : Talk) (m : IsMet s t) → t.state ≡ Connecting → t.phase ≡ AwaitStart → (f : Frame) (answers : List ProviderAnswer) (s' : Server)
    → heard_from BeforeStart f s ≡ Some s' → AreSaid (questions_in f t) answers → Heard s' (frame_rule f answers t)
heard-start s t m is phase (Method zero (Start a b c d e)) answers s' h said =
    at-phase s t m AwaitStart is phase s' (Start a b c d e) answers (by answers (said-at s t m AwaitStart is phase (Start a b c d e) answers said))
  where
    by : (given : List ProviderAnswer) → AreSaid (question.Mechanism ∷ question.Starter ∷ []) given → Heard s' (on_start given t)
    by (answer.Mechanism name ∷ answer.Starter (Ok text) ∷ rest) said =
        let P : Server → Type 0 = λ x. Heard x (on_start (answer.Mechanism name ∷ answer.Starter (Ok text) ∷ rest) t) in
        let g = meets-at s t m AwaitStart is phase in
        let i : Item = plain_item 0 (start_ok t.config.options name text) in
        subst P (some_is (record s { stage = BeforeTune }) s' h)
        (inl (met-at s t m AwaitStart is phase (record s { stage = BeforeTune }) AwaitTune (record t.outbox { control = t.outbox.control ++ i ∷ [] }) t.configuration refl (limit-at s t m AwaitStart is phase)
        (greets-push BeforeTune (record s { stage = BeforeTune }) t.outbox t.channels t.committed i (refl, refl)
        (greets-answered BeforeStart BeforeTune s.asked s t.outbox t.channels t.committed g))))
    by given said = absurd said
heard-start s t m is phase f answers s' h said = absurd cc

-- secure and tune
heard-tune : (s : Server) (t : Talk) (m : IsMet s t) → t.state ≡ Connecting → t.phase ≡ AwaitTune → (f : Frame) (answers : List ProviderAnswer) (s' : Server)
    → heard_from BeforeTune f s ≡ Some s' → AreSaid (questions_in f t) answers → Heard s' (frame_rule f answers t)
heard-tune s t m is phase (Method zero (Secure challenge)) answers s' h said =
    at-phase s t m AwaitTune is phase s' (Secure challenge) answers (by answers (said-at s t m AwaitTune is phase (Secure challenge) answers said))
  where
    by : (given : List ProviderAnswer) → AreSaid (question.Challenge challenge ∷ []) given → Heard s' (on_secure given t)
    by (answer.Challenge (Ok text) ∷ rest) said =
        let P : Server → Type 0 = λ x. Heard x (on_secure (answer.Challenge (Ok text) ∷ rest) t) in
        let g = meets-at s t m AwaitTune is phase in
        let k = given-by s.asked (record s { stage = BeforeTune; asked = false }) s' h in
        let i : Item = plain_item 0 (secure_ok text) in
        let P2 : Phase → Type 0 = λ x. IsMet (record s { stage = BeforeTune; asked = false }) (record t { phase = x; outbox = record t.outbox { control = t.outbox.control ++ i ∷ [] } }) in
        subst P k.1
        (inl (subst P2 (sym phase) (met-at s t m AwaitTune is phase (record s { stage = BeforeTune; asked = false }) AwaitTune (record t.outbox { control = t.outbox.control ++ i ∷ [] }) t.configuration refl (limit-at s t m AwaitTune is phase)
        (greets-push BeforeTune (record s { stage = BeforeTune; asked = false }) t.outbox t.channels t.committed i (refl, refl)
        (greets-answered BeforeTune BeforeTune false s t.outbox t.channels t.committed g)))))
    by given said = absurd said
heard-tune s t m is phase (Method zero (Tune channel_max frame_max heartbeat)) answers s' h said =
    at-phase s t m AwaitTune is phase s' (Tune channel_max frame_max heartbeat) answers (by (is_frame_max frame_max) h)
  where
    by : (b : Bool) → (if b then answers_to BeforeOpenOk s else None) ≡ Some s'
        → Heard s' (on_tune (record { channel_max = channel_max; frame_max = frame_max; heartbeat = heartbeat }) t)
    by false h = absurd cc
    by true h =
        let agreed : Configuration = tune t.configuration (record { channel_max = channel_max; frame_max = frame_max; heartbeat = heartbeat }) in
        let P : Server → Type 0 = λ x. Heard x (on_tune (record { channel_max = channel_max; frame_max = frame_max; heartbeat = heartbeat }) t) in
        let g = meets-at s t m AwaitTune is phase in
        let k = given-by s.asked (record s { stage = BeforeOpenOk; asked = false }) s' h in
        let x : Server = record s { stage = BeforeOpenOk; asked = false } in
        let i : Item = plain_item 0 (tune_ok agreed) in
        let j : Item = plain_item 0 (open_vhost t.config.uri.vhost) in
        let q : Queued = record t.outbox { control = t.outbox.control ++ i ∷ [] } in
        subst P k.1
        (inl (met-at s t m AwaitTune is phase x AwaitOpenOk (record q { control = q.control ++ j ∷ [] }) agreed refl ((limit-at s t m AwaitTune is phase).0, omega arith)
        (greets-push BeforeOpenOk x q t.channels t.committed j (refl, refl)
        (greets-push BeforeOpenOk x t.outbox t.channels t.committed i (refl, refl)
        (greets-answered BeforeTune BeforeOpenOk false s t.outbox t.channels t.committed g)))))
heard-tune s t m is phase f answers s' h said = absurd cc

-- open-ok
heard-open-ok : (s : Server) (t : Talk) (m : IsMet s t) → t.state ≡ Connecting → t.phase ≡ AwaitOpenOk → (f : Frame) (answers : List ProviderAnswer) (s' : Server)
    → heard_from BeforeOpenOk f s ≡ Some s' → Heard s' (frame_rule f answers t)
heard-open-ok s t m is phase Heartbeat answers s' h = let P : Server → Type 0 = λ x. Heard x t in subst P (some_is s s' h) (inl m)
heard-open-ok s t m is phase (Method zero OpenOk) answers s' h =
    let g = meets-at s t m AwaitOpenOk is phase in
    let x : Server = record s { stage = Serving; asked = false } in
    let k = given-by s.asked x s' h in
    let first = first-in s t m Connecting is in
    let P : Server → Type 0 = λ x. Heard x (on_open_ok t) in
    let Q : Channels → Type 0 = λ cs. Heard x (reopen_each cs (connected t)) in
    let now : IsMet x (connected t) = record {
      opened = m.opened;
      acting = m.acting;
      blocked = m.blocked;
      first = record { made = first.made; held = settled-first (Ok AnswerConnected) t.promises first.held };
      limit = (let lim = limit-at s t m AwaitOpenOk is phase in let a = lim.0 in let b = lim.1 in (b, omega (arith, a), omega (arith, a, b)));
      meets = greets-opened s t.outbox t.channels t.committed g;
    } in
    at-phase s t m AwaitOpenOk is phase s' OpenOk answers (subst P k.1 (subst Q (sym g.none) (inl now)))
heard-open-ok s t m is phase f answers s' h = absurd cc

-- ---- each frame

-- a session that is met and hears what the server may say is met again, or leaves
pub heard-met : (f : Frame) (answers : List ProviderAnswer) (s s' : Server) (t : Talk) → IsMet s t → heard_from s.stage f s ≡ Some s' → AreSaid (frame_questions f t) answers
    → Heard s' (on_frame f answers t)
heard-met f answers s s' t m h said =
    let P : Talk → Type 0 = Heard s' in
    let Q : List Question → Type 0 = λ x. AreSaid x answers in
    subst P (sym (frame-acts s t m f answers)) (by t.state t.phase refl refl (subst Q (questions-act s t m f) said))
  where
    from : (stage : ServerStage) → s.stage ≡ stage → heard_from stage f s ≡ Some s'
    from stage same = ap (λ (x : ServerStage). heard_from x f s) (sym same) ∙ h

    by : (st : ConnectionState) (p : Phase) → t.state ≡ st → t.phase ≡ p → AreSaid (questions_in f t) answers → Heard s' (frame_rule f answers t)
    by Connecting AwaitStart is phase said = heard-start s t m is phase f answers s' (from BeforeStart (meets-at s t m AwaitStart is phase).at_stage) said
    by Connecting AwaitTune is phase said = heard-tune s t m is phase f answers s' (from BeforeTune (meets-at s t m AwaitTune is phase).at_stage) said
    by Connecting AwaitOpenOk is phase said = heard-open-ok s t m is phase f answers s' (from BeforeOpenOk (meets-at s t m AwaitOpenOk is phase).at_stage)
    by Connected p is phase said = heard-connected s t m is f answers s' (from Serving (meets-in s t m Connected is).stage)
    by Closing p is phase said = heard-closing s t m is f answers s' (from Serving (meets-in s t m Closing is))
    by Initial p is phase said = absurd (meets-in s t m Initial is)
    by Closed p is phase said = absurd (meets-in s t m Closed is)
    by Reconnecting p is phase said = absurd (meets-in s t m Reconnecting is)
    by Error p is phase said = absurd (meets-in s t m Error is)
