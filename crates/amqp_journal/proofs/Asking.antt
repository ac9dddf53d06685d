-- When a link is asked for: no command looks at the link, so the asking may come before a command or after it.
use Rattle.std.proofs.Common.{◌≡◌, ℕ, ◌&&◌, not, Bool, true, false, if◌then◌else◌, List, [], ◌∷◌, ◌++◌, Option, Some, None, Result, Ok, Err, is_some, refl, ap, sym, ◌∙◌}
use Rattle.amqp_frame.specs.declared.frame.Frame.{Frame}
use Rattle.amqp_frame.specs.RawMethods.{OtherMethod}
use Rattle.amqp_promise.specs.declared.error.ErrorKind.{ErrorKind}
use Rattle.amqp_promise.specs.declared.state.ConnectionState.{ConnectionState}
use Rattle.amqp_promise.specs.declared.state.ConnectionState.TheVariants.{Connected}
use Rattle.amqp_channels.specs.declared.channels.Channel.{Channel}
use Rattle.amqp_rules.specs.declared.state.Link.{Link}
use Rattle.amqp_rules.specs.declared.state.Link.TheVariants as at_link
use Rattle.amqp_commands.specs.declared.command.Cmd.{Cmd}
use Rattle.amqp_commands.specs.declared.command.Cmd.TheVariants.{OpenChannel, CloseChannel, CloseConnection, UpdateSecret, Send, Publish, Flow, DropChannel, DropConnection, Listen}
use Rattle.amqp_rules.specs.Talk.{Talk, has_ended, end_of, end_of_link, is_asked_link, is_wanted_link}
use Rattle.amqp_rules.specs.Links.{asked, asked_link}
use Rattle.amqp_commands.specs.Publishing.{method_frame, publish_frames}
use Rattle.amqp_settings.specs.Handshake.{new_secret}
use Rattle.amqp_rules.specs.Commands.{open_drawn, close_target, drop_target, flow_target, queue_secret, update_secret, too_long, unless_too_long, too_full, unless_full, queue_send, send_target, body_limit, queue_publish, publish_target, command, command_rule}
use Rattle.amqp_types.proofs.Small.{if_case, if-true, if-false}
use Rattle.amqp_engine.specs.Engine.{Engine, with_talk}
use Rattle.amqp_engine.specs.Turn.{wants_ask, asks}

-- ---- commands do not look at the link, but for whether the session has ended

-- the same state with another link
abbrev relinked : Link ErrorKind → Talk → Talk
relinked l t = record t { link = l }

module _ (l : Link ErrorKind) where
  re-drawn : (o : Option ℕ) (first : ℕ) (t : Talk) → open_drawn o first (relinked l t) ≡ relinked l (open_drawn o first t)
  re-drawn None first t = refl
  re-drawn (Some n) first t = refl

  re-close : (x : Result Channel ErrorKind) (n code : ℕ) (text : List ℕ) (t : Talk) → close_target x n code text (relinked l t) ≡ relinked l (close_target x n code text t)
  re-close (Err e) n code text t = refl
  re-close (Ok c) n code text t = refl

  re-flow : (x : Result Channel ErrorKind) (n : ℕ) (active : Bool) (t : Talk) → flow_target x n active (relinked l t) ≡ relinked l (flow_target x n active t)
  re-flow (Err e) n active t = refl
  re-flow (Ok c) n active t = refl

  re-drop : (x : Result Channel ErrorKind) (n : ℕ) (t : Talk) → drop_target x n (relinked l t) ≡ relinked l (drop_target x n t)
  re-drop (Err e) n t = refl
  re-drop (Ok c) n t = refl

  re-unless : (o : Option Frame) (rule : Talk → Talk) (t : Talk) → rule (relinked l t) ≡ relinked l (rule t) → unless_too_long o rule (relinked l t) ≡ relinked l (unless_too_long o rule t)
  re-unless None rule t h = h
  re-unless (Some frame) rule t h = refl

  re-full : (o : Option ℕ) (rule : Talk → Talk) (t : Talk) → rule (relinked l t) ≡ relinked l (rule t) → unless_full o rule (relinked l t) ≡ relinked l (unless_full o rule t)
  re-full None rule t h = h
  re-full (Some octets) rule t h = refl

  re-send : (x : Result Channel ErrorKind) (n : ℕ) (m : OtherMethod) (t : Talk) → send_target x n m (relinked l t) ≡ relinked l (send_target x n m t)
  re-send (Err e) n m t = refl
  re-send (Ok c) n m t =
      let frame : Frame = method_frame n m in
      re-unless (too_long (frame ∷ []) t) (unless_full (too_full (frame ∷ []) t) (queue_send n frame)) t
      (re-full (too_full (frame ∷ []) t) (queue_send n frame) t refl)

  re-secret : (secret reason : List ℕ) (t : Talk) → update_secret secret reason (relinked l t) ≡ relinked l (update_secret secret reason t)
  re-secret secret reason t = re-unless (too_long (new_secret secret reason ∷ []) t) (queue_secret (new_secret secret reason)) t refl

  re-publish : (x : Result Channel ErrorKind) (n : ℕ) (m : OtherMethod) (properties body : List ℕ) (t : Talk)
      → publish_target x n m properties body (relinked l t) ≡ relinked l (publish_target x n m properties body t)
  re-publish (Err e) n m properties body t = refl
  re-publish (Ok c) n m properties body t =
      let frames : List Frame = publish_frames n m properties body (body_limit t) in
      re-unless (too_long frames t) (unless_full (too_full frames t) (queue_publish n frames)) t
      (re-full (too_full frames t) (queue_publish n frames) t refl)

  re-rule : (s : ConnectionState) (c : Cmd) (t : Talk) → is_some (end_of_link l) ≡ has_ended t → command_rule s c (relinked l t) ≡ relinked l (command_rule s c t)
  re-rule Connected OpenChannel t h = re-drawn _ _ t
  re-rule Connected (CloseChannel x code text) t h = re-close _ x.id code text t
  re-rule Connected (CloseConnection code text) t h = refl
  re-rule Connected (UpdateSecret secret reason) t h = re-secret secret reason t
  re-rule Connected (Send x m) t h = re-send _ x.id m t
  re-rule Connected (Publish x m properties body) t h = re-publish _ x.id m properties body t
  re-rule Connected (Flow x active) t h = re-flow _ x.id active t
  re-rule Connected (DropChannel x) t h = re-drop _ x.id t
  re-rule Connected DropConnection t h = refl
  re-rule Connected Listen t h = ap (λ (b : Bool). relinked l (record t { noted = record t.noted { listens = if b then t.noted.listens else true } })) h
  re-rule _ (DropChannel x) t h = refl
  re-rule _ DropConnection t h = refl
  re-rule _ Listen t h = ap (λ (b : Bool). relinked l (record t { noted = record t.noted { listens = if b then t.noted.listens else true } })) h
  re-rule _ c t h = refl

  re-command : (c : Cmd) (t : Talk) → is_some (end_of_link l) ≡ has_ended t → command c (relinked l t) ≡ relinked l (command c t)
  re-command c t h = re-rule t.state c t h

pub command-link : (c : Cmd) (t : Talk) → (command c t).link ≡ t.link
command-link c t = ap (λ (x : Talk). x.link) (re-command t.link c t refl)

-- ---- the mark "asked for"

asked-ended : (l : Link ErrorKind) → is_some (end_of_link (asked_link l)) ≡ is_some (end_of_link l)
asked-ended (at_link.Due moment) = refl
asked-ended at_link.Wanted = refl
asked-ended at_link.Asked = refl
asked-ended at_link.Open = refl
asked-ended (at_link.Ended r) = refl

asked-once : (l : Link ErrorKind) → (is_wanted_link (asked_link l) && not (is_asked_link (asked_link l))) ≡ false
asked-once (at_link.Due moment) = refl
asked-once at_link.Wanted = refl
asked-once at_link.Asked = refl
asked-once at_link.Open = refl
asked-once (at_link.Ended r) = refl

-- no command makes a link wanted, so it does not matter when the asking is done
pub asks-told : (c : Cmd) (e : Engine) → asks (with_talk (command c) e) ≡ with_talk (command c) (asks e)
asks-told c e = by (wants_ask e) same refl where
  x : Engine
  x = with_talk (command c) e

  same : wants_ask x ≡ wants_ask e
  same = ap (λ (l : Link ErrorKind). is_wanted_link l && not (is_asked_link l)) (command-link c e.talk)

  by : (b : Bool) → wants_ask x ≡ b → wants_ask e ≡ b → asks x ≡ with_talk (command c) (asks e)
  by true there here =
      let l : Link ErrorKind = asked_link e.talk.link in
      let now : asks x ≡ record e { talk = relinked l (command c e.talk) } =
      if-true (wants_ask x) (with_talk asked x) x there ∙ ap (λ (m : Link ErrorKind). record e { talk = relinked (asked_link m) (command c e.talk) }) (command-link c e.talk) in
      now ∙ sym (ap (λ (t : Talk). record e { talk = t }) (re-command l c e.talk (asked-ended e.talk.link)))
      ∙ sym (ap (with_talk (command c)) (if-true (wants_ask e) (with_talk asked e) e here))
  by false there here = if-false (wants_ask x) (with_talk asked x) x there ∙ sym (ap (with_talk (command c)) (if-false (wants_ask e) (with_talk asked e) e here))

-- after the asking nothing is to be asked
pub asks-done : (e : Engine) → wants_ask (asks e) ≡ false
asks-done e = by (wants_ask e) refl where
  by : (b : Bool) → wants_ask e ≡ b → wants_ask (asks e) ≡ false
  by true h = ap wants_ask (if-true (wants_ask e) (with_talk asked e) e h) ∙ asked-once e.talk.link
  by false h = ap wants_ask (if-false (wants_ask e) (with_talk asked e) e h) ∙ h

pub asks-again : (e : Engine) → wants_ask e ≡ false → asks e ≡ e
asks-again e h = if-false (wants_ask e) (with_talk asked e) e h

-- what has ended wants no link
unwanted : (l : Link ErrorKind) → is_some (end_of_link l) ≡ true → (is_wanted_link l && not (is_asked_link l)) ≡ false
unwanted (at_link.Ended r) h = refl
unwanted _ h = absurd cc

pub asks-ended : (e : Engine) → has_ended e.talk ≡ true → asks e ≡ e
asks-ended e over = asks-again e (unwanted e.talk.link over)

-- the asking ends nothing
asked-end : (l : Link ErrorKind) → end_of_link (asked_link l) ≡ end_of_link l
asked-end (at_link.Due moment) = refl
asked-end at_link.Wanted = refl
asked-end at_link.Asked = refl
asked-end at_link.Open = refl
asked-end (at_link.Ended r) = refl

pub asks-end : (e : Engine) → end_of (asks e).talk ≡ end_of e.talk
asks-end e = if_case (λ (x : Engine). end_of x.talk ≡ end_of e.talk) (wants_ask e) (with_talk asked e) e (asked-end e.talk.link) refl
