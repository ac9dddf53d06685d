-- What a frame does to promises, row by row: each is as it was, or it waited and is answered by the frame's table.
use Rattle.std.proofs.Common.{◌≡◌, ◌≢◌, ◌⊎◌, inl, inr, ℕ, zero, suc, nat_le, not, if◌then◌else◌, Bool, true, false, List, [], ◌∷◌, ◌++◌, Option, Some, None, is_some, Result, Ok, Err, refl, ap, sym, subst}
use Rattle.amqp_types.specs.declared.word.Word.TheVariants as word
use Rattle.amqp_frame.specs.declared.frame.Frame.{Frame}
use Rattle.amqp_frame.specs.declared.frame.Frame.TheVariants.{ProtocolHeader, Method, Raw, Heartbeat}
use Rattle.amqp_frame.specs.declared.frame.RawKind.{RawKind}
use Rattle.amqp_frame.specs.declared.frame.RawKind.TheVariants.{RawMethod}
use Rattle.amqp_frame.specs.declared.method.Method.{Method as AnyMethod}
use Rattle.amqp_frame.specs.declared.method.Method.TheVariants.{Start, Secure, Tune, OpenOk, Close, CloseOk, Blocked, Unblocked, UpdateSecretOk, ChannelOpenOk, ChannelClose, ChannelCloseOk, ChannelFlow, ChannelFlowOk}
use Rattle.amqp_frame.specs.Methods.{is_of_a_channel}
use Rattle.amqp_outbox.specs.declared.reply.Reply.TheVariants.{ChannelOpened, ChannelClosed, FlowDone, SecretDone, ConnectionClosed}
use Rattle.amqp_outbox.specs.Queued.{awaited_promise, without_awaited}
use Rattle.amqp_promise.specs.declared.state.ConnectionState.{ConnectionState}
use Rattle.amqp_promise.specs.declared.state.ConnectionState.TheVariants.{Connecting, Connected, Closing}
use Rattle.amqp_promise.specs.declared.state.ChannelState.{ChannelState}
use Rattle.amqp_promise.specs.declared.state.ChannelState.TheVariants as channel
use Rattle.amqp_promise.specs.declared.error.ErrorKind.{ErrorKind}
use Rattle.amqp_promise.specs.declared.error.ErrorKind.TheVariants.{InvalidProtocolVersion, InvalidChannel, InvalidChannelState, InvalidConnectionState, AuthProviderError}
use Rattle.amqp_auth.specs.declared.asked.Question.TheVariants as question
use Rattle.amqp_auth.specs.declared.asked.Asked.{Asked}
use Rattle.amqp_auth.specs.declared.asked.Asked.TheVariants as answer
use Rattle.amqp_channels.specs.declared.channels.Channel.{Channel}
use Rattle.amqp_channels.specs.declared.channels.Debt.{Debt}
use Rattle.amqp_channels.specs.declared.channels.Debt.TheVariants as debt
use Rattle.amqp_rules.specs.declared.state.Phase.{Phase}
use Rattle.amqp_rules.specs.declared.state.Phase.TheVariants.{AwaitStart, AwaitTune, AwaitOpenOk}
use Rattle.amqp_answers.specs.declared.answer.Answer.{Answer}
use Rattle.amqp_answers.specs.declared.answer.Answer.TheVariants.{Channel as AnswerChannel, Connected as AnswerConnected, Done, Flow}
use Rattle.amqp_rules.specs.Talk.{Talk, acts, hears_on, is_closing}
use Rattle.amqp_rules.specs.Changes.{give_to, lose, misplaced, promises_on, replies_on}
use Rattle.amqp_answers.specs.Settled.{settled_to}
use Rattle.amqp_violations.specs.Violations.{channel_closed_with, stray_channel_frame, stray_connection_method, unawaited}
use Rattle.amqp_rules.specs.Causes.{is_due, is_awaited, is_secret_told, refused_in}
use Rattle.amqp_rules.specs.Channels.{channel_at}
use Rattle.amqp_rules.specs.ConnectionMethods.{on_start, on_secure, connected, on_open_ok, connection_closed, secret_taken, connection_rule}
use Rattle.amqp_rules.specs.ChannelMethods.{heard_on, unawaited_channel_method, channel_opened, remove_unless_owed, channel_closed, on_channel_flow, channel_flowed, channel_close_by, closed_by_server, crossing_close, channel_rule, channel_method, channel_method_by, confirmed, hand_out, is_select_ok, pass_through, raw_by}
use Rattle.amqp_rules.specs.Frames.{frame_rule, closed_rule, method_questions, method_rule, on_frame}
use Rattle.amqp_rules.proofs.FrameEnds.{none-heard, some-heard}
use Rattle.amqp_rules.proofs.Recovering.{reopened-keeps}
use Rattle.amqp_types.proofs.Small.{if_case, if_by}
use Rattle.amqp_answer_rules.specs.Answering.{IsChannelAnswer, IsConnectionAnswer, IsFrameAnswer, IsNamed, SettlesFor}
use Rattle.amqp_answer_rules.proofs.Slots.{Loses, Settle, settle-one, settle-to, settle-each, settle-then, leaves-all, settles-lost}

module _ (P : ℕ → Result Answer ErrorKind → Type 0) (t : Talk) where
  lost : (e : ErrorKind) → Loses P e → SettlesFor P t (lose e t)
  lost e p = settles-lost P e t p

  misplaced-settles : (e : ErrorKind) → (is_closing t.state ≡ false → Loses P e) → SettlesFor P t (misplaced e t)
  misplaced-settles e p = if_by (SettlesFor P t) (is_closing t.state) t (lose e t) (λ h. leaves-all P t) (λ h. lost e (p h))

  -- ---- channels

  unawaited-settles : (n : ℕ) (s : ChannelState) (m : AnyMethod) → (s ≢ channel.Closing → Loses P (unawaited m n))
      → SettlesFor P t (unawaited_channel_method n s m t)
  unawaited-settles n channel.Closing m p = leaves-all P t
  unawaited-settles n _ m p = lost (unawaited m n) (p (λ e. cc))

  opened-settles : (n : ℕ) (c : Channel) (a : Option (Option ℕ)) → (is_some a ≡ false → c.state ≢ channel.Closing → Loses P (unawaited ChannelOpenOk n))
      → ((k : ℕ) → a ≡ Some (Some k) → P k (Ok (AnswerChannel n c.opened))) → SettlesFor P t (channel_opened n c a t)
  opened-settles n c None p given = unawaited-settles n c.state ChannelOpenOk (p refl)
  opened-settles n c (Some promise) p given = record {
    each = settle-to P promise (Ok (AnswerChannel n c.opened)) t.promises (λ k is. given k (ap (λ o. Some o) is));
    made = refl;
  }

  -- a channel that goes takes no promise with it
  removed-settles : (d : Debt) (n : ℕ) (c : Channel) (u : Talk) → SettlesFor P t u → SettlesFor P t (remove_unless_owed d n c u)
  removed-settles debt.Owed n c u h = record { each = h.each; made = h.made }
  removed-settles _ n c u h = record { each = h.each; made = h.made }

  closed-settles : (n : ℕ) (c : Channel) (a : Option (Option ℕ)) → (is_some a ≡ false → c.state ≢ channel.Closing → Loses P (unawaited ChannelCloseOk n))
      → ((k : ℕ) → a ≡ Some (Some k) → P k (Ok Done))
      → (is_some a ≡ true → (k : ℕ) → IsNamed k (replies_on n (without_awaited n ChannelClosed t.outbox)) → P k (Err (InvalidChannelState channel.Closed word.ChannelCloseOkReceived)))
      → SettlesFor P t (channel_closed n c a t)
  closed-settles n c None p done gone = unawaited-settles n c.state ChannelCloseOk (p refl)
  closed-settles n c (Some promise) p done gone =
      let e : ErrorKind = InvalidChannelState channel.Closed word.ChannelCloseOkReceived in
      let given = settled_to promise (Ok Done) t.promises in
      removed-settles c.debt n c _
      (record {
        each =
            settle-then P t.promises given _ (settle-to P promise (Ok Done) t.promises (λ k is. done k (ap (λ o. Some o) is)))
            (settle-each P e (replies_on n (without_awaited n ChannelClosed t.outbox)) given (gone refl));
        made = refl;
      })

  flow-settles : (s : ChannelState) (n : ℕ) (c : Channel) (active : Bool) → SettlesFor P t (on_channel_flow s n c active t)
  flow-settles channel.Closing n c active = leaves-all P t
  flow-settles _ n c active = record { each = λ number. inl refl; made = refl }

  flowed-settles : (n : ℕ) (c : Channel) (active : Bool) (a : Option (Option ℕ))
      → (is_some a ≡ false → c.state ≢ channel.Closing → Loses P (unawaited (ChannelFlowOk active) n)) → ((k : ℕ) → a ≡ Some (Some k) → P k (Ok (Flow active)))
      → SettlesFor P t (channel_flowed n c active a t)
  flowed-settles n c active None p given = unawaited-settles n c.state (ChannelFlowOk active) (p refl)
  flowed-settles n c active (Some promise) p given = record {
    each = settle-to P promise (Ok (Flow active)) t.promises (λ k is. given k (ap (λ o. Some o) is));
    made = refl;
  }

  server-close-settles : (d : Debt) (n : ℕ) (e : ErrorKind) (c : Channel)
      → (d ≡ debt.Nothing → c.awaits_close_ok ≡ false → (k : ℕ) → IsNamed k (promises_on n t.outbox) → P k (Err e)) → SettlesFor P t (channel_close_by d n e c t)
  server-close-settles debt.Nothing n e c gone =
      if_by (SettlesFor P t) c.awaits_close_ok (crossing_close n e c t) (closed_by_server n e c t) (λ h. record { each = λ number. inl refl; made = refl })
      (λ h. record { each = settle-each P e (promises_on n t.outbox) t.promises (gone refl h); made = refl })
  server-close-settles _ n e c gone = leaves-all P t

  -- what a method of the channel class may bring on a channel, and what it answers
  channel-settles : (s : ConnectionState) (n : ℕ) (c : Channel) (m : AnyMethod)
      → (is_closing s ≡ false → is_awaited m n t ≡ false → c.state ≢ channel.Closing → Loses P (unawaited m n))
      → (s ≢ Closing → (k : ℕ) (given : Result Answer ErrorKind) → IsChannelAnswer n c m t.outbox k given → P k given) → SettlesFor P t (channel_rule s n c m t)
  channel-settles Closing n c m p g = leaves-all P t
  channel-settles _ n c ChannelOpenOk p g =
      opened-settles n c (awaited_promise n ChannelOpened t.outbox) (p refl) (λ k is. g (λ h. cc) k (Ok (AnswerChannel n c.opened)) (is, refl))
  channel-settles _ n c ChannelCloseOk p g =
      closed-settles n c (awaited_promise n ChannelClosed t.outbox) (p refl) (λ k is. g (λ h. cc) k (Ok Done) (is, refl))
      (λ some k is. g (λ h. cc) k (Err (InvalidChannelState channel.Closed word.ChannelCloseOkReceived)) (some, is, refl))
  channel-settles _ n c (ChannelClose code text class method) p g =
      server-close-settles c.debt n (channel_closed_with code text) c (λ owes left k is. g (λ h. cc) k (Err (channel_closed_with code text)) (owes, left, is, refl))
  channel-settles _ n c (ChannelFlow active) p g = flow-settles c.state n c active
  channel-settles _ n c (ChannelFlowOk active) p g =
      flowed-settles n c active (awaited_promise n FlowDone t.outbox) (p refl) (λ k is. g (λ h. cc) k (Ok (Flow active)) (is, refl))
  channel-settles _ n c m p g = unawaited-settles n c.state m (p refl refl)

  channel-by-settles : (o : Option Channel) (n : ℕ) (m : AnyMethod) → (o ≡ None → is_closing t.state ≡ false → Loses P (InvalidChannel n))
      → ((c : Channel) → o ≡ Some c → is_closing t.state ≡ false → is_awaited m n t ≡ false → c.state ≢ channel.Closing → Loses P (unawaited m n))
      → ((c : Channel) → o ≡ Some c → t.state ≢ Closing → (k : ℕ) (given : Result Answer ErrorKind) → IsChannelAnswer n c m t.outbox k given → P k given)
      → SettlesFor P t (channel_method_by o n m t)
  channel-by-settles None n m none p g = misplaced-settles (InvalidChannel n) (none refl)
  channel-by-settles (Some c) n m none p g = channel-settles t.state n c m (p c refl) (g c refl)

  pass-settles : (n : ℕ) (c : Channel) (kind : RawKind) (bytes : List ℕ) → SettlesFor P t (pass_through n c kind bytes t)
  pass-settles n c kind bytes =
      if_case (λ (x : Talk). SettlesFor P t (hand_out c.opened (record { channel = n; kind = kind; bytes = bytes }) x)) (is_select_ok kind bytes) (confirmed n c t) t
      (record { each = λ number. inl refl; made = refl }) (record { each = λ number. inl refl; made = refl })

  raw-settles : (o : Option Channel) (n : ℕ) (kind : RawKind) (bytes : List ℕ) → (o ≡ None → is_closing t.state ≡ false → Loses P (InvalidChannel n))
      → SettlesFor P t (raw_by o n kind bytes t)
  raw-settles None n kind bytes p = misplaced-settles (InvalidChannel n) (p refl)
  raw-settles (Some c) n kind bytes p = pass-settles n c kind bytes

  -- ---- the connection

  connection-closed-settles : (a : Option (Option ℕ)) → ((k : ℕ) → a ≡ Some (Some k) → P k (Ok Done)) → SettlesFor P t (connection_closed a t)
  connection-closed-settles None g = record { each = λ number. inl refl; made = refl }
  connection-closed-settles (Some promise) g = record { each = settle-to P promise (Ok Done) t.promises (λ k is. g k (ap (λ o. Some o) is)); made = refl }

  secret-settles : (a : Option (Option ℕ)) → (is_some a ≡ false → Loses P (InvalidConnectionState Connected)) → ((k : ℕ) → a ≡ Some (Some k) → P k (Ok Done))
      → SettlesFor P t (secret_taken a t)
  secret-settles None p g = lost (InvalidConnectionState Connected) (p refl)
  secret-settles (Some None) p g = record { each = λ number. inl refl; made = refl }
  secret-settles (Some (Some number)) p g = record { each = settle-one P number (Ok Done) t.promises (g number refl); made = refl }

  start-settles : (answers : List Asked)
      → ((text : List ℕ) → refused_in (question.Mechanism ∷ question.Starter ∷ []) answers ≡ Some text → Loses P (AuthProviderError text))
      → SettlesFor P t (on_start answers t)
  start-settles (answer.Mechanism mechanism ∷ answer.Starter (Ok response) ∷ later) p = record { each = λ number. inl refl; made = refl }
  start-settles (answer.Mechanism mechanism ∷ answer.Starter (Err text) ∷ later) p = lost (AuthProviderError text) (p text refl)
  start-settles _ p = leaves-all P t

  secure-settles : (challenge : List ℕ) (answers : List Asked)
      → ((text : List ℕ) → refused_in (question.Challenge challenge ∷ []) answers ≡ Some text → Loses P (AuthProviderError text))
      → SettlesFor P t (on_secure answers t)
  secure-settles challenge (answer.Challenge (Ok response) ∷ later) p = record { each = λ number. inl refl; made = refl }
  secure-settles challenge (answer.Challenge (Err text) ∷ later) p = lost (AuthProviderError text) (p text refl)
  secure-settles challenge _ p = leaves-all P t

  -- the connection is open, by which its promise is answered; the channels that are opened again have none
  open-settles : P 0 (Ok AnswerConnected) → SettlesFor P t (on_open_ok t)
  open-settles g =
      let same : (on_open_ok t).promises ≡ (connected t).promises = reopened-keeps (λ (x : Talk). x.promises) (λ x q cs. refl) t.channels (connected t) in
      let made : (on_open_ok t).made ≡ (connected t).made = reopened-keeps (λ (x : Talk). x.made) (λ x q cs. refl) t.channels (connected t) in
      record { each = subst (Settle P t.promises) (sym same) (settle-one P 0 (Ok AnswerConnected) t.promises g); made = made }

  connection-settles : (s : ConnectionState) (p : Phase) (m : AnyMethod) (answers : List Asked) → t.state ≡ s → t.phase ≡ p
      → (is_closing s ≡ false → is_due m (is_secret_told t) s p ≡ false → Loses P (InvalidConnectionState s))
      → ((text : List ℕ) → refused_in (method_questions s p m) answers ≡ Some text → Loses P (AuthProviderError text))
      → ((k : ℕ) (given : Result Answer ErrorKind) → IsConnectionAnswer m t k given → P k given)
      → SettlesFor P t (connection_rule s p m answers t)
  connection-settles s p (Close code text class method) answers is due e r g = record { each = λ number. inl refl; made = refl }
  connection-settles s p (Blocked reason) answers is due e r g = record { each = λ number. inl refl; made = refl }
  connection-settles s p Unblocked answers is due e r g = record { each = λ number. inl refl; made = refl }
  connection-settles Closing p CloseOk answers is due e r g =
      connection-closed-settles (awaited_promise 0 ConnectionClosed t.outbox) (λ k h. g k (Ok Done) (is, h, refl))
  connection-settles Closing p m answers is due e r g = leaves-all P t
  connection-settles Connecting AwaitStart (Start a b c d x) answers is due e r g = start-settles answers r
  connection-settles Connecting AwaitTune (Secure challenge) answers is due e r g = secure-settles challenge answers r
  connection-settles Connecting AwaitTune (Tune a b c) answers is due e r g = record { each = λ number. inl refl; made = refl }
  connection-settles Connecting AwaitOpenOk OpenOk answers is due e r g = open-settles (g 0 (Ok AnswerConnected) (is, due, refl, refl))
  connection-settles Connected p UpdateSecretOk answers is due e r g =
      secret-settles (awaited_promise 0 SecretDone t.outbox) (e refl) (λ k h. g k (Ok Done) (is, h, refl))
  connection-settles held p m answers is due e r g = lost (InvalidConnectionState held) (e refl refl)

-- ---- frames

method-settles : (n : ℕ) (m : AnyMethod) (answers : List Asked) (t : Talk) → SettlesFor (IsFrameAnswer (Method n m) answers t) t (method_rule n m answers t)
method-settles zero m answers t =
    let P : ℕ → Result Answer ErrorKind → Type 0 = IsFrameAnswer (Method zero m) answers t in
    if_by (SettlesFor P t) (is_of_a_channel m) (misplaced (stray_channel_frame RawMethod) t) (connection_rule t.state t.phase m answers t)
    (λ h. misplaced-settles P t (stray_channel_frame RawMethod) (λ going k other. inr (other, (ap not going, inl (h, refl)))))
    (λ h. connection-settles P t t.state t.phase m answers refl refl (λ going undue k other. inr (other, (ap not going, ((h, undue), refl))))
    (λ text refused k other. inr (other, refused)) (λ k given is. inl is))
method-settles (suc n) m answers t =
    let P : ℕ → Result Answer ErrorKind → Type 0 = IsFrameAnswer (Method (suc n) m) answers t in
    let o : Option Channel = channel_at (suc n) t in
    if_by (SettlesFor P t) (is_of_a_channel m) (channel_method (suc n) m t) (misplaced (stray_connection_method (suc n)) t)
    (λ h. channel-by-settles P t (heard_on t.state o) (suc n) m
    (λ none going k other. inr (other, (ap not going, ((refl, h), none-heard t.state o none))))
    (λ c some going free kept k other.
    let heard = some-heard t.state o c some in
    inr (other, (ap not going, inr (h, (heard.0, (c, heard.1, kept)), free, refl))))
    (λ c some stays k given is.
    let heard = some-heard t.state o c some in
    inl (heard.0, stays, (c, heard.1, is))))
    (λ h. misplaced-settles P t (stray_connection_method (suc n)) (λ going k other. inr (other, (ap not going, inl (h, refl)))))

rule-settles : (f : Frame) (answers : List Asked) (t : Talk) → SettlesFor (IsFrameAnswer f answers t) t (frame_rule f answers t)
rule-settles (ProtocolHeader version) answers t =
    settles-lost (IsFrameAnswer (ProtocolHeader version) answers t) (InvalidProtocolVersion version) t (λ k other. inr (other, refl))
rule-settles Heartbeat answers t = leaves-all (IsFrameAnswer Heartbeat answers t) t
rule-settles (Method n m) answers t = method-settles n m answers t
rule-settles (Raw zero kind bytes) answers t =
    misplaced-settles (IsFrameAnswer (Raw zero kind bytes) answers t) t (stray_channel_frame kind) (λ going k other. inr (other, (ap not going, inl refl)))
rule-settles (Raw (suc n) kind bytes) answers t =
    let o : Option Channel = channel_at (suc n) t in
    raw-settles (IsFrameAnswer (Raw (suc n) kind bytes) answers t) t (heard_on t.state o) (suc n) kind bytes
    (λ h going k other. inr (other, (ap not going, (refl, none-heard t.state o h))))

closed-rule-settles : (P : ℕ → Result Answer ErrorKind → Type 0) (f : Frame) (t : Talk) → SettlesFor P t (closed_rule f t)
closed-rule-settles P (Method zero (Blocked reason)) t = record { each = λ number. inl refl; made = refl }
closed-rule-settles P (Method zero Unblocked) t = record { each = λ number. inl refl; made = refl }
closed-rule-settles P f t = leaves-all P t

-- a frame settles the promises of its table
pub frame-settles : (f : Frame) (answers : List Asked) (t : Talk) → SettlesFor (IsFrameAnswer f answers t) t (on_frame f answers t)
frame-settles f answers t =
    let P : ℕ → Result Answer ErrorKind → Type 0 = IsFrameAnswer f answers t in
    if_case (SettlesFor P t) (acts t) (frame_rule f answers t) (if hears_on t then closed_rule f t else t) (rule-settles f answers t)
    (if_case (SettlesFor P t) (hears_on t) (closed_rule f t) t (closed-rule-settles P f t) (leaves-all P t))
