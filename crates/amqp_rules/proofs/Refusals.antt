-- What a refused command leaves as it was.
use Rattle.std.proofs.Common.{◌≡◌, ◌≢◌, ◌∙◌, ap, refl, subst, ℕ, Bool, true, false, List, [], ◌∷◌, Option, Some, None, Result, Ok, Err}
use Rattle.amqp_frame.specs.RawMethods.{OtherMethod}
use Rattle.std.specs.Prelude.{filter}
use Rattle.amqp_types.specs.declared.word.Word.TheVariants as word
use Rattle.amqp_frame.specs.declared.frame.Frame.{Frame}
use Rattle.amqp_outbox.specs.Queued.{is_on}
use Rattle.amqp_channels.specs.declared.channels.Channel.{Channel}
use Rattle.amqp_commands.specs.declared.command.Cmd.{Cmd}
use Rattle.amqp_commands.specs.declared.command.Cmd.TheVariants.{OpenChannel, CloseChannel, CloseConnection, UpdateSecret, Send, Publish, Flow, DropChannel, DropConnection, Listen}
use Rattle.amqp_promise.specs.declared.state.ConnectionState.{ConnectionState}
use Rattle.amqp_promise.specs.declared.state.ConnectionState.TheVariants.{Connected, Closing}
use Rattle.amqp_promise.specs.declared.state.ChannelState.TheVariants as channel
use Rattle.amqp_promise.specs.declared.error.ErrorKind.{ErrorKind}
use Rattle.amqp_promise.specs.declared.error.ErrorKind.TheVariants.{ChannelsLimitReached, InvalidChannelState, InvalidConnectionState}
use Rattle.amqp_maps.specs.Listed.{at, put}
use Rattle.amqp_rules.specs.Talk.{Talk}
use Rattle.amqp_answers.specs.Settled.{Promises}
use Rattle.amqp_rules.specs.Changes.{rejected, refuse}
use Rattle.amqp_commands.specs.Publishing.{method_frame, publish_frames}
use Rattle.amqp_settings.specs.Handshake.{new_secret}
use Rattle.amqp_rules.specs.Commands.{takes_promise, open_drawn, open_none, close_target, flow_target, queue_secret, update_secret, too_long, unless_too_long, too_full, unless_full, queue_send, send_target, body_limit, queue_publish, publish_target, command, command_rule}
use Rattle.amqp_rules.specs.Laws.{IsRefusal, IsAnsweredAtOnce}
use Rattle.amqp_maps.proofs.Numbered.{put-same}

module _ (t : Talk) (e : ErrorKind) where
  -- what holds of a command that is refused by this error
  abbrev Told : Talk → Type 0
  Told u = IsAnsweredAtOnce e t u → IsRefusal e t u

  -- the error of a refusal is the one that is told
  pub same-error : (e' : ErrorKind) (ps : Promises) → ps ≡ put t.made (Some (Err e')) t.promises → at t.made ps ≡ Some (Some (Err e)) → e' ≡ e
  same-error e' ps is h =
      let there : at t.made ps ≡ Some (Some (Err e')) = ap (at t.made) is ∙ put-same t.made (Some (Err e')) t.promises in cc

  -- a promise that waits is not answered
  told-waits : (u : Talk) (before : Promises) → u.promises ≡ put t.made None before → Told u
  told-waits u before is h =
      let there : at t.made u.promises ≡ Some None = ap (at t.made) is ∙ put-same t.made None before in absurd cc

refusal : (e : ErrorKind) (t : Talk) → IsRefusal e t (refuse e t)
refusal ChannelsLimitReached t = refl
refusal e t = refl

told-refuse : (e' e : ErrorKind) (t : Talk) → Told t e (refuse e' t)
told-refuse e' e t h =
    subst (λ k. IsRefusal k t (refuse e' t)) (same-error t e e' (refuse e' t).promises refl h) (refusal e' t)

told-limit : (e : ErrorKind) (t u : Talk) → u ≡ record (refuse ChannelsLimitReached t) { cursor = u.cursor } → Told t e u
told-limit e t u is h =
    subst (λ k. IsRefusal k t u) (same-error t e ChannelsLimitReached u.promises (ap (λ (x : Talk). x.promises) is) h) is

told-drawn : (o : Option ℕ) (first : ℕ) (e : ErrorKind) (t : Talk) → Told t e (open_drawn o first t)
told-drawn None first e t = told-limit e t (open_none first t) refl
told-drawn (Some n) first e t = told-waits t e _ t.promises refl

told-close : (r : Result Channel ErrorKind) (n code : ℕ) (text : List ℕ) (e : ErrorKind) (t : Talk) → Told t e (close_target r n code text t)
told-close (Err e') n code text e t = told-refuse e' e t
told-close (Ok c) n code text e t =
    told-waits t e _ (rejected (InvalidChannelState channel.Closing word.ChannelClose) (filter (is_on n) t.outbox.publish) t.promises) refl

told-unless : (o : Option Frame) (rule : Talk → Talk) (e : ErrorKind) (t : Talk) → Told t e (rule t) → Told t e (unless_too_long o rule t)
told-unless None rule e t said = said
told-unless (Some frame) rule e t said = told-refuse _ e t

told-room : (o : Option ℕ) (rule : Talk → Talk) (e : ErrorKind) (t : Talk) → Told t e (rule t) → Told t e (unless_full o rule t)
told-room None rule e t said = said
told-room (Some octets) rule e t said = told-refuse _ e t

told-send : (r : Result Channel ErrorKind) (n : ℕ) (m : OtherMethod) (e : ErrorKind) (t : Talk) → Told t e (send_target r n m t)
told-send (Err e') n m e t = told-refuse e' e t
told-send (Ok c) n m e t =
    let frame : Frame = method_frame n m in
    let rule : Talk → Talk = unless_full (too_full (frame ∷ []) t) (queue_send n frame) in
    told-unless (too_long (frame ∷ []) t) rule e t
    (told-room (too_full (frame ∷ []) t) (queue_send n frame) e t (told-waits t e _ t.promises refl))

told-secret : (secret reason : List ℕ) (e : ErrorKind) (t : Talk) → Told t e (update_secret secret reason t)
told-secret secret reason e t =
    let frame = new_secret secret reason in
    told-unless (too_long (frame ∷ []) t) (queue_secret frame) e t (told-waits t e _ t.promises refl)

told-publish : (r : Result Channel ErrorKind) (n : ℕ) (m : OtherMethod) (properties body : List ℕ) (e : ErrorKind) (t : Talk)
    → Told t e (publish_target r n m properties body t)
told-publish (Err e') n m properties body e t = told-refuse e' e t
told-publish (Ok c) n m properties body e t =
    let frames : List Frame = publish_frames n m properties body (body_limit t) in
    let rule : Talk → Talk = unless_full (too_full frames t) (queue_publish n frames) in
    told-unless (too_long frames t) rule e t
    (told-room (too_full frames t) (queue_publish n frames) e t (told-waits t e _ t.promises refl))

told-flow : (r : Result Channel ErrorKind) (n : ℕ) (active : Bool) (e : ErrorKind) (t : Talk) → Told t e (flow_target r n active t)
told-flow (Err e') n active e t = told-refuse e' e t
told-flow (Ok c) n active e t = told-waits t e _ t.promises refl

told-rule : (s : ConnectionState) (c : Cmd) (e : ErrorKind) (t : Talk) → takes_promise c ≡ true → Told t e (command_rule s c t)
told-rule Connected OpenChannel e t takes = told-drawn _ _ e t
told-rule Connected (CloseChannel r code text) e t takes = told-close _ r.id code text e t
told-rule Connected (CloseConnection code text) e t takes =
    told-waits t e _ (rejected (InvalidConnectionState Closing) t.outbox.publish t.promises) refl
told-rule Connected (UpdateSecret secret reason) e t takes = told-secret secret reason e t
told-rule Connected (Send r method) e t takes = told-send _ r.id method e t
told-rule Connected (Publish r method properties body) e t takes = told-publish _ r.id method properties body e t
told-rule Connected (Flow r active) e t takes = told-flow _ r.id active e t
told-rule _ (DropChannel r) e t takes = absurd cc
told-rule _ DropConnection e t takes = absurd cc
told-rule _ Listen e t takes = absurd cc
told-rule _ c e t takes = told-refuse _ e t

-- a command that is refused changes nothing else
pub refused-alone : (c : Cmd) (t : Talk) (e : ErrorKind) → takes_promise c ≡ true → IsAnsweredAtOnce e t (command c t) → IsRefusal e t (command c t)
refused-alone c t e takes = told-rule t.state c e t takes

refused-rule : (s : ConnectionState) (c : Cmd) (t : Talk) → s ≢ Connected → takes_promise c ≡ true → command_rule s c t ≡ refuse (InvalidConnectionState s) t
refused-rule Connected c t other takes = absurd (other refl)
refused-rule _ (DropChannel r) t other takes = absurd cc
refused-rule _ DropConnection t other takes = absurd cc
refused-rule _ Listen t other takes = absurd cc
refused-rule _ c t other takes = refl

-- out of the state Connected a command that takes a promise is refused
pub refused-out : (c : Cmd) (t : Talk) → t.state ≢ Connected → takes_promise c ≡ true → command c t ≡ refuse (InvalidConnectionState t.state) t
refused-out c t other takes = refused-rule t.state c t other takes

idle-rule : (s : ConnectionState) (c : Cmd) (t : Talk) → s ≢ Connected → takes_promise c ≡ false → c ≢ Listen → command_rule s c t ≡ t
idle-rule Connected c t other takes lets_go = absurd (other refl)
idle-rule _ (DropChannel r) t other takes lets_go = refl
idle-rule _ DropConnection t other takes lets_go = refl
idle-rule _ Listen t other takes lets_go = absurd (lets_go refl)
idle-rule _ c t other takes lets_go = absurd cc

-- one that lets a channel or the connection go does nothing then
pub idle-out : (c : Cmd) (t : Talk) → t.state ≢ Connected → takes_promise c ≡ false → c ≢ Listen → command c t ≡ t
idle-out c t other takes lets_go = idle-rule t.state c t other takes lets_go
