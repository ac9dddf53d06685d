-- That a frame answers each promise of its table that waits, row by row.
use Rattle.std.proofs.Common.{◌≡◌, ◌≢◌, inl, ℕ, zero, suc, if◌then◌else◌, Bool, true, List, Option, Some, None, is_some, Result, Ok, Err, refl, ap, sym, subst}
use Rattle.amqp_types.specs.declared.word.Word.TheVariants as word
use Rattle.amqp_frame.specs.declared.frame.Frame.{Frame}
use Rattle.amqp_frame.specs.declared.frame.Frame.TheVariants.{Method}
use Rattle.amqp_frame.specs.declared.method.Method.{Method as AnyMethod}
use Rattle.amqp_frame.specs.declared.method.Method.TheVariants.{OpenOk, CloseOk, UpdateSecretOk, ChannelOpenOk, ChannelClose, ChannelCloseOk, ChannelFlowOk}
use Rattle.amqp_frame.specs.Methods.{is_of_a_channel}
use Rattle.amqp_outbox.specs.declared.reply.Reply.TheVariants.{ChannelClosed}
use Rattle.amqp_outbox.specs.Queued.{awaited_promise, without_awaited}
use Rattle.amqp_promise.specs.declared.state.ConnectionState.{ConnectionState}
use Rattle.amqp_promise.specs.declared.state.ConnectionState.TheVariants.{Connecting, Closing}
use Rattle.amqp_promise.specs.declared.state.ChannelState.TheVariants as channel
use Rattle.amqp_promise.specs.declared.error.ErrorKind.{ErrorKind}
use Rattle.amqp_promise.specs.declared.error.ErrorKind.TheVariants.{InvalidChannelState}
use Rattle.amqp_auth.specs.declared.asked.Asked.{Asked}
use Rattle.amqp_channels.specs.declared.channels.Channel.{Channel}
use Rattle.amqp_channels.specs.declared.channels.Debt.{Debt}
use Rattle.amqp_channels.specs.declared.channels.Debt.TheVariants as debt
use Rattle.amqp_rules.specs.declared.state.Phase.{Phase}
use Rattle.amqp_answers.specs.declared.answer.Answer.{Answer}
use Rattle.amqp_answers.specs.declared.answer.Answer.TheVariants.{Channel as AnswerChannel, Connected as AnswerConnected, Done, Flow}
use Rattle.amqp_rules.specs.Talk.{Talk, acts, hears_on}
use Rattle.amqp_rules.specs.Changes.{misplaced, promises_on, replies_on}
use Rattle.amqp_answers.specs.Settled.{settled_to}
use Rattle.amqp_violations.specs.Violations.{channel_closed_with, stray_connection_method}
use Rattle.amqp_rules.specs.Channels.{channel_at}
use Rattle.amqp_rules.specs.ConnectionMethods.{connected, on_open_ok, connection_closed, secret_taken, connection_rule}
use Rattle.amqp_rules.specs.ChannelMethods.{heard_on, channel_opened, remove_unless_owed, channel_closed, channel_flowed, channel_close_by, closed_by_server, crossing_close, channel_rule, channel_method, channel_method_by}
use Rattle.amqp_rules.specs.Frames.{frame_rule, closed_rule, method_on, method_rule, on_frame}
use Rattle.amqp_rules.proofs.Walk.{close_answered}
use Rattle.amqp_rules.proofs.Recovering.{reopened-keeps}
use Rattle.amqp_types.proofs.Small.{if-true}
use Rattle.amqp_answer_rules.specs.Answering.{HasAnswer, IsChannelAnswer, IsConnectionAnswer, IsReplied, IsWaiting}
use Rattle.amqp_answer_rules.proofs.Slots.{Has, each-has, each-still, named-has, settled-has, told-kept}

-- a listed channel is heard, once the connection is open
heard-some : (s : ConnectionState) (o : Option Channel) (c : Channel) → s ≢ Connecting → o ≡ Some c → heard_on s o ≡ Some c
heard-some Connecting o c out is = absurd (out refl)
heard-some _ o c out is = is

module _ (t : Talk) (number : ℕ) (waits : IsWaiting number t) where
  -- a channel that goes takes no answer with it
  removed-has : (d : Debt) (n : ℕ) (c : Channel) (u : Talk) → Has number u.promises → HasAnswer number (remove_unless_owed d n c u)
  removed-has debt.Owed n c u h = h
  removed-has _ n c u h = h

  comes-channel : (s : ConnectionState) → s ≢ Connecting → s ≢ Closing → (n : ℕ) (c : Channel) (m : AnyMethod) (given : Result Answer ErrorKind)
      → IsChannelAnswer n c m t.outbox number given → HasAnswer number (channel_rule s n c m t)
  comes-channel Connecting out stays n c m given is = absurd (out refl)
  comes-channel Closing out stays n c m given is = absurd (stays refl)
  comes-channel _ out stays n c ChannelOpenOk (Ok answer) is =
      subst (λ (a : Option (Option ℕ)). HasAnswer number (channel_opened n c a t)) (sym is.0)
      (settled-has number (Ok (AnswerChannel n c.opened)) t.promises (inl waits))
  comes-channel _ out stays n c ChannelCloseOk (Ok answer) is =
      let e : ErrorKind = InvalidChannelState channel.Closed word.ChannelCloseOkReceived in
      subst (λ (a : Option (Option ℕ)). HasAnswer number (channel_closed n c a t)) (sym is.0)
      (removed-has c.debt n c (close_answered n (Some number) t)
      (each-still number e (replies_on n (without_awaited n ChannelClosed t.outbox)) (settled_to (Some number) (Ok Done) t.promises)
      (settled-has number (Ok Done) t.promises (inl waits))))
  comes-channel _ out stays n c ChannelCloseOk (Err error) is = by (awaited_promise n ChannelClosed t.outbox) is.0 where
    by : (a : Option (Option ℕ)) → is_some a ≡ true → HasAnswer number (channel_closed n c a t)
    by None some = cc
    by (Some promise) some =
        let e : ErrorKind = InvalidChannelState channel.Closed word.ChannelCloseOkReceived in
        removed-has c.debt n c (close_answered n promise t)
        (each-has number e (replies_on n (without_awaited n ChannelClosed t.outbox)) (settled_to promise (Ok Done) t.promises) is.1
        (told-kept number promise (Ok Done) t.promises (inl waits)))
  comes-channel _ out stays n c (ChannelFlowOk active) (Ok answer) is =
      subst (λ (a : Option (Option ℕ)). HasAnswer number (channel_flowed n c active a t)) (sym is.0) (settled-has number (Ok (Flow active)) t.promises (inl waits))
  comes-channel _ out stays n c (ChannelClose code text class method) (Err error) is =
      let e : ErrorKind = channel_closed_with code text in
      subst (λ (d : Debt). HasAnswer number (channel_close_by d n e c t)) (sym is.0)
      (subst (λ (b : Bool). HasAnswer number (if b then crossing_close n e c t else closed_by_server n e c t)) (sym is.1)
      (each-has number e (promises_on n t.outbox) t.promises is.2 (inl waits)))
  comes-channel _ out stays n c m given is = absurd is

  -- what answers on a channel is of the channel class
  of-channel : (n : ℕ) (c : Channel) (m : AnyMethod) (given : Result Answer ErrorKind) → IsChannelAnswer n c m t.outbox number given → is_of_a_channel m ≡ true
  of-channel n c ChannelOpenOk given is = refl
  of-channel n c ChannelCloseOk given is = refl
  of-channel n c (ChannelFlowOk active) given is = refl
  of-channel n c (ChannelClose code text class method) given is = refl
  of-channel n c m given is = absurd is

  comes-on : (n : ℕ) (m : AnyMethod) (given : Result Answer ErrorKind) → IsReplied (Method (suc n) m) t number given → HasAnswer number (method_on (suc n) m t)
  comes-on n m given (out, stays, (c, there, is)) =
      subst (HasAnswer number)
      (sym (if-true (is_of_a_channel m) (channel_method (suc n) m t) (misplaced (stray_connection_method (suc n)) t) (of-channel (suc n) c m given is)))
      (subst (λ (o : Option Channel). HasAnswer number (channel_method_by o (suc n) m t)) (sym (heard-some t.state (channel_at (suc n) t) c out there))
      (comes-channel t.state out stays (suc n) c m given is))

  -- the connection is open
  comes-open : number ≡ 0 → HasAnswer number (on_open_ok t)
  comes-open zeroth =
      let same : (on_open_ok t).promises ≡ (connected t).promises = reopened-keeps (λ (x : Talk). x.promises) (λ x q cs. refl) t.channels (connected t) in
      subst (Has number) (sym same) (named-has number (Some 0) (Ok AnswerConnected) t.promises (ap (λ k. Some k) (sym zeroth)) (inl waits))

  comes-on-0 : (m : AnyMethod) (answers : List Asked) (given : Result Answer ErrorKind) → IsConnectionAnswer m t number given → HasAnswer number (method_rule 0 m answers t)
  comes-on-0 OpenOk answers (Ok answer) (held, due, zeroth, is) =
      subst (λ (s : ConnectionState). HasAnswer number (connection_rule s t.phase OpenOk answers t)) (sym held)
      (subst (λ (p : Phase). HasAnswer number (connection_rule Connecting p OpenOk answers t)) (sym due) (comes-open zeroth))
  comes-on-0 CloseOk answers (Ok answer) (held, awaits, is) =
      subst (λ (s : ConnectionState). HasAnswer number (connection_rule s t.phase CloseOk answers t)) (sym held)
      (subst (λ (a : Option (Option ℕ)). HasAnswer number (connection_closed a t)) (sym awaits) (settled-has number (Ok Done) t.promises (inl waits)))
  comes-on-0 UpdateSecretOk answers (Ok answer) (held, awaits, is) =
      subst (λ (s : ConnectionState). HasAnswer number (connection_rule s t.phase UpdateSecretOk answers t)) (sym held)
      (subst (λ (a : Option (Option ℕ)). HasAnswer number (secret_taken a t)) (sym awaits) (settled-has number (Ok Done) t.promises (inl waits)))
  comes-on-0 m answers given is = absurd is

  comes-rule : (f : Frame) (answers : List Asked) (given : Result Answer ErrorKind) → IsReplied f t number given → HasAnswer number (frame_rule f answers t)
  comes-rule (Method zero m) answers given is = comes-on-0 m answers given is
  comes-rule (Method (suc n) m) answers given is = comes-on n m given is
  comes-rule _ answers given is = absurd is

-- where frames act, each promise that a frame answers by its table has an answer after it
pub frame-answers : (f : Frame) (answers : List Asked) (number : ℕ) (given : Result Answer ErrorKind) (t : Talk) → acts t ≡ true → IsReplied f t number given
    → IsWaiting number t → HasAnswer number (on_frame f answers t)
frame-answers f answers number given t act is waits =
    subst (HasAnswer number) (sym (if-true (acts t) (frame_rule f answers t) (if hears_on t then closed_rule f t else t) act))
    (comes-rule t number waits f answers given is)
