-- A command that takes a promise makes it, and no other; and at an end each promise has an answer.
use Rattle.std.proofs.Common.{◌≡◌, ℕ, ◌+◌, Bool, true, IsSome, is_some, List, [], ◌∷◌, Option, Some, None, Result, Ok, Err, refl, ap, ◌∙◌}
use Rattle.std.specs.Prelude.{codes}
use Rattle.amqp_types.specs.declared.word.Word.TheVariants as word
use Rattle.amqp_frame.specs.declared.frame.Frame.{Frame}
use Rattle.amqp_frame.specs.RawMethods.{OtherMethod}
use Rattle.amqp_promise.specs.declared.state.ConnectionState.{ConnectionState}
use Rattle.amqp_promise.specs.declared.state.ConnectionState.TheVariants.{Connected}
use Rattle.amqp_promise.specs.declared.error.ErrorKind.{ErrorKind}
use Rattle.amqp_channels.specs.declared.channels.Channel.{Channel}
use Rattle.amqp_answers.specs.declared.answer.Answer.{Answer}
use Rattle.amqp_commands.specs.declared.command.Cmd.{Cmd}
use Rattle.amqp_commands.specs.declared.command.Cmd.TheVariants.{OpenChannel, CloseChannel, CloseConnection, UpdateSecret, Send, Publish, Flow, DropChannel, DropConnection, Listen}
use Rattle.amqp_maps.specs.Listed.{at, put}
use Rattle.amqp_rules.specs.Talk.{Talk, end_of, has_ended}
use Rattle.amqp_answers.specs.Settled.{Promises}
use Rattle.amqp_settings.specs.Handshake.{new_secret}
use Rattle.amqp_commands.specs.Publishing.{method_frame, publish_frames}
use Rattle.amqp_rules.specs.Commands.{body_limit, close_target, command, command_rule, flow_target, open_drawn, publish_target, queue_publish, queue_secret, queue_send, send_target, takes_promise, target, too_full, too_long, unless_full, unless_too_long}
use Rattle.amqp_rules.specs.Answers.{answer_in, answer_of, rejection}
use Rattle.amqp_maps.proofs.Numbered.{put-same}

module _ (t : Talk) where
  -- the next promise is made, and no other
  abbrev MakesOne : Talk → Type 0
  MakesOne u = (u.made ≡ t.made + 1) × IsSome (at t.made u.promises)

  there : (held : Option (Result Answer ErrorKind)) (before : Promises) → IsSome (at t.made (put t.made held before))
  there held before = ap is_some (put-same t.made held before)

  makes-drawn : (o : Option ℕ) (first : ℕ) → MakesOne (open_drawn o first t)
  makes-drawn None first = (refl, there _ _)
  makes-drawn (Some n) first = (refl, there _ _)

  makes-unless : (o : Option Frame) (rule : Talk → Talk) → MakesOne (rule t) → MakesOne (unless_too_long o rule t)
  makes-unless None rule h = h
  makes-unless (Some f) rule h = (refl, there _ _)

  makes-room : (o : Option ℕ) (rule : Talk → Talk) → MakesOne (rule t) → MakesOne (unless_full o rule t)
  makes-room None rule h = h
  makes-room (Some octets) rule h = (refl, there _ _)

  makes-close : (r : Result Channel ErrorKind) (n code : ℕ) (text : List ℕ) → MakesOne (close_target r n code text t)
  makes-close (Err e) n code text = (refl, there _ _)
  makes-close (Ok c) n code text = (refl, there _ _)

  makes-send : (r : Result Channel ErrorKind) (n : ℕ) (m : OtherMethod) → MakesOne (send_target r n m t)
  makes-send (Err e) n m = (refl, there _ _)
  makes-send (Ok c) n m =
      let fs : List Frame = method_frame n m ∷ [] in
      let rule : Talk → Talk = queue_send n (method_frame n m) in
      makes-unless (too_long fs t) (unless_full (too_full fs t) rule) (makes-room (too_full fs t) rule ((refl, there _ _)))

  makes-publish : (r : Result Channel ErrorKind) (n : ℕ) (m : OtherMethod) (properties body : List ℕ) → MakesOne (publish_target r n m properties body t)
  makes-publish (Err e) n m properties body = (refl, there _ _)
  makes-publish (Ok c) n m properties body =
      let fs : List Frame = publish_frames n m properties body (body_limit t) in
      let rule : Talk → Talk = queue_publish n fs in
      makes-unless (too_long fs t) (unless_full (too_full fs t) rule) (makes-room (too_full fs t) rule ((refl, there _ _)))

  makes-flow : (r : Result Channel ErrorKind) (n : ℕ) (active : Bool) → MakesOne (flow_target r n active t)
  makes-flow (Err e) n active = (refl, there _ _)
  makes-flow (Ok c) n active = (refl, there _ _)

  makes-rule : (s : ConnectionState) (cmd : Cmd) → takes_promise cmd ≡ true → MakesOne (command_rule s cmd t)
  makes-rule Connected OpenChannel takes = makes-drawn _ _
  makes-rule Connected (CloseChannel r code text) takes = makes-close (target r word.ChannelClose t) r.id code text
  makes-rule Connected (CloseConnection code text) takes = (refl, there _ _)
  makes-rule Connected (UpdateSecret secret reason) takes =
      let f : Frame = new_secret secret reason in
      makes-unless (too_long (f ∷ []) t) (queue_secret f) ((refl, there _ _))
  makes-rule Connected (Send r m) takes = makes-send (target r word.Send t) r.id m
  makes-rule Connected (Publish r m properties body) takes = makes-publish (target r word.Publish t) r.id m properties body
  makes-rule Connected (Flow r active) takes = makes-flow (target r word.ChannelFlow t) r.id active
  makes-rule _ (DropChannel r) takes = absurd cc
  makes-rule _ DropConnection takes = absurd cc
  makes-rule _ Listen takes = absurd cc
  makes-rule _ cmd takes = (refl, there _ _)

pub makes-one : (cmd : Cmd) (t : Talk) → takes_promise cmd ≡ true → ((command cmd t).made ≡ t.made + 1) × IsSome (at t.made (command cmd t).promises)
makes-one cmd t takes = makes-rule t t.state cmd takes

-- at an end what waits is answered by it
rejects : (ended : Option (Result (Unit {0}) ErrorKind)) → is_some ended ≡ true → IsSome (rejection ended)
rejects None h = cc
rejects (Some (Ok closed)) h = refl
rejects (Some (Err e)) h = refl

pub ended-answers : (number : ℕ) (t : Talk) → has_ended t ≡ true → IsSome (at number t.promises) → IsSome (answer_of number t)
ended-answers number t over there = by (at number t.promises) there where
  by : (held : Option (Option (Result Answer ErrorKind))) → IsSome held → IsSome (answer_in (end_of t) held)
  by None h = cc
  by (Some None) h = rejects (end_of t) over
  by (Some (Some answer)) h = refl
