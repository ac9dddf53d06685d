-- Every rule but commands and writing leaves what a session bears.
use Rattle.std.proofs.Common.{◌≡◌, inl, inr, ◌∙◌, ap, sym, subst, refl, ℕ, nat_le, max, if◌then◌else◌, Bool, true, false, List, Option, Some, None, Result, Ok, arith}
use Rattle.amqp_frame.specs.declared.frame.Frame.{Frame}
use Rattle.amqp_frame.specs.declared.frame.Frame.TheVariants.{Heartbeat}
use Rattle.amqp_outbox.specs.declared.item.Item.{Item}
use Rattle.amqp_outbox.specs.declared.reply.Reply.{Reply}
use Rattle.amqp_outbox.specs.declared.reply.Reply.TheVariants.{ChannelOpened, ChannelClosed, FlowDone, SecretDone}
use Rattle.amqp_outbox.specs.Items.{plain_item}
use Rattle.amqp_outbox.specs.Queued.{Queued, pushed_control, awaited_promise, without_awaited}
use Rattle.amqp_channels.specs.declared.channels.Channel.{Channel}
use Rattle.amqp_promise.specs.declared.state.ConnectionState.{ConnectionState}
use Rattle.amqp_promise.specs.declared.state.ConnectionState.TheVariants.{Connecting, Connected, Closing}
use Rattle.amqp_rules.specs.declared.state.Phase.TheVariants.{AwaitTune, AwaitOpenOk}
use Rattle.amqp_rules.specs.declared.state.Link.{Link}
use Rattle.amqp_rules.specs.declared.state.Link.TheVariants.{Due, Wanted, Asked, Open, Ended}
use Rattle.amqp_promise.specs.declared.io_fault.IoFault.{IoFault}
use Rattle.amqp_promise.specs.declared.io_fault.IoFault.TheVariants.{Refused}
use Rattle.amqp_settings.specs.declared.configuration.Configuration.{Configuration}
use Rattle.amqp_violations.specs.declared.server_close.ServerClose.{ServerClose}
use Rattle.amqp_violations.specs.declared.server_close.ServerClose.TheVariants.{WithoutError, WithError}
use Rattle.amqp_commands.specs.declared.command.Cmd.{Cmd}
use Rattle.amqp_answers.specs.declared.answer.Answer.{Answer}
use Rattle.amqp_answers.specs.declared.answer.Answer.TheVariants.{Connected as AnswerConnected, Channel as AnswerChannel, Done, Flow}
use Rattle.amqp_violations.specs.declared.misread.Misread.{Misread}
use Rattle.amqp_promise.specs.declared.error.ErrorKind.TheVariants.{NoMemory, IOError, ProtocolError, SerialisationError}
use Rattle.amqp_promise.specs.declared.error.ErrorKind.{ErrorKind}
use Rattle.amqp_maps.specs.Listed.{at}
use Rattle.amqp_auth.specs.declared.asked.Asked.{Asked as ProviderAnswer}
use Rattle.amqp_rules.specs.Talk.{Talk, acts, has_ended, is_asked, is_open, is_open_link}
use Rattle.amqp_answers.specs.Settled.{Promises}
use Rattle.amqp_rules.specs.Changes.{present_at, queue, await, starve, give_to, promises_on, replies_on, without_all_on, drop_replies_of, fail, lose, close, finish, finish_by, promise}
use Rattle.amqp_rules.specs.Links.{asked, asked_link, refused_after, link_failed, piece, dropped, misread, lost}
use Rattle.amqp_rules.specs.Recovery.{next_delay, reconnect}
use Rattle.amqp_settings.specs.Handshake.{close_ok, start_ok, secure_ok, tune_ok, open_vhost, new_secret, channel_open, flow_ok, channel_close_ok, refresh_reason}
use Rattle.amqp_settings.specs.Negotiation.{tune}
use Rattle.amqp_rules.specs.ConnectionMethods.{on_start, on_tune, connected}
use Rattle.amqp_rules.specs.ChannelMethods.{closed_by_server, channel_opened, remove_channel, hand_out, confirmed}
use Rattle.amqp_rules.specs.Frames.{on_frame}
use Rattle.amqp_rules.specs.Writing.{end_overlong}
use Rattle.amqp_rules.specs.Ticks.{link_at, link_due, tick}
use Rattle.amqp_types.proofs.Small.{if_case}
use Rattle.amqp_rules.proofs.Walk.{ChannelRows, PassedRows, ConnectionRows, TickRows, misread-keeps, start-keeps, secure-keeps, frame-keeps, tick-keeps}
use Rattle.amqp_rules.proofs.Recovering.{lose-case}
use Rattle.amqp_carried_rules.proofs.Bearing.{NotSent, settled-sent, to-sent, each-sent, all-sent, Reading, Bears, IsAt, Sized}
use Rattle.amqp_carried_rules.proofs.Borne.{awaited-other, bears-push, bears-expected, bears-answered, bears-give, bears-replies, bears-channel, bears-over}
use Rattle.amqp_rules.specs.Sound.{is_agreed}
use Rattle.amqp_carried_rules.specs.CommandFrames.{is_raw, is_sent}

closing-not : (s : ConnectionState) → s ≡ Connecting → s ≡ Closing → ⊥
closing-not Connecting h k = cc
closing-not _ h k = cc

module _ (cs : List Cmd) (answers_sent : ℕ → Bool) (r : Reading) (left : List Item) where
  abbrev pub At : Talk → Type 0
  At t = IsAt cs answers_sent r left t

  abbrev Held : Talk → Type 0
  Held t = Bears cs r left t.outbox t.promises t.state

  pub moved : (t t' : Talk) → t'.made ≡ t.made → (Sized t → Sized t') → ((n : ℕ) → is_sent (at n t'.promises) ≡ is_sent (at n t.promises)) → (is_open t' ≡ true → is_open t ≡ true) → (Held t → Held t') → At t → At t'
  moved t t' made size same opens bears h =
      record { made = made ∙ h.made; agrees = λ n le. same n ∙ h.agrees n le; fresh = h.fresh; sized = size h.sized; low = h.low; bears = λ o. bears (h.bears (opens o)) }

  pub off : (t t' : Talk) → t'.made ≡ t.made → (Sized t → Sized t') → ((n : ℕ) → is_sent (at n t'.promises) ≡ is_sent (at n t.promises)) → is_open t' ≡ false → At t → At t'
  off t t' made size same shut h = record { made = made ∙ h.made; agrees = λ n le. same n ∙ h.agrees n le; fresh = h.fresh; sized = size h.sized; low = h.low; bears = λ o. absurd cc }

  -- ---- ends

  at-fail : (e : ErrorKind) (t : Talk) → At t → At (fail e t)
  at-fail e t h = off t (fail e t) refl (λ z k. absurd cc) (λ n. refl) refl h

  pub at-lose : (e : ErrorKind) (t : Talk) → At t → At (lose e t)
  at-lose e t h = lose-case At e t (λ delay. off t (reconnect e delay t) refl (λ z k. absurd cc) (λ n. all-sent n e t.promises) refl h) (at-fail e t h)

  at-close : (t : Talk) → At t → At (close t)
  at-close t h = off t (close t) refl (λ z k. absurd cc) (λ n. refl) refl h

  pub at-finish : (o : Option ServerClose) (t : Talk) → At t → At (finish_by o t)
  at-finish None t h = at-close t h
  at-finish (Some WithoutError) t h = at-close t h
  at-finish (Some (WithError e)) t h = at-lose (ProtocolError e) t h

  pub at-starve : (t : Talk) → At t → At (starve t)
  at-starve t h = if_case At (has_ended t) t (fail NoMemory t) h (at-fail NoMemory t h)

  pub at-moment : (at : ℕ) (t : Talk) → At t → At (present_at at t)
  at-moment at t h = if_case At (has_ended t) t (record t { present = max t.present at }) h (moved t (record t { present = max t.present at }) refl (λ z. z) (λ n. refl) (λ o. o) (λ b. b) h)

  -- ---- channels

  at-answered : (n : ℕ) (reply : Reply) (promise : Option ℕ) (x : Result Answer ErrorKind) (t : Talk) → NotSent x → awaited_promise n reply t.outbox ≡ Some promise → At t
      → At (give_to promise x (record t { outbox = without_awaited n reply t.outbox }))
  at-answered n reply promise x t other is h =
      moved t _ refl (λ z. z) (λ k. to-sent k promise x t.promises other) (λ o. o)
      (λ b. bears-give cs r left t.promises t.state (without_awaited n reply t.outbox) promise x (awaited-other cs n reply t.outbox promise b.awaited is) other
      (bears-answered cs r left t.promises t.state t.outbox n reply b)) h

  at-opened : (n : ℕ) (c : Channel) (promise : Option ℕ) (t : Talk) → awaited_promise n ChannelOpened t.outbox ≡ Some promise → At t → At (channel_opened n c (Some promise) t)
  at-opened n c promise t is h =
      let x : Talk = give_to promise (Ok (AnswerChannel n c.opened)) (record t { outbox = without_awaited n ChannelOpened t.outbox }) in
      moved x _ refl (λ z. z) (λ k. refl) (λ o. o) (λ b. b) (at-answered n ChannelOpened promise (Ok (AnswerChannel n c.opened)) t refl is h)

  at-replies : (n : ℕ) (e : ErrorKind) (t : Talk) → At t → At (drop_replies_of n e t)
  at-replies n e t h =
      moved t _ refl (λ z. z) (λ k. each-sent k e (replies_on n t.outbox) t.promises) (λ o. o) (λ b. bears-replies cs r left t.promises t.state t.outbox n e b) h

  at-server-closed : (n : ℕ) (e : ErrorKind) (c : Channel) (t : Talk) → At t → At (closed_by_server n e c t)
  at-server-closed n e c t h =
      moved t _ refl (λ z. z) (λ k. each-sent k e (promises_on n t.outbox) t.promises) (λ o. o)
      (λ b. bears-push cs r left _ t.state (without_all_on n t.outbox) (plain_item n (channel_close_ok n)) refl refl (bears-channel cs r left t.promises t.state t.outbox n e b)) h

  on-channels : ChannelRows At
  on-channels = record {
    lost = at-lose;
    opened = at-opened;
    closed = λ n promise t is h. at-replies n _ (give_to promise (Ok Done) (record t { outbox = without_awaited n ChannelClosed t.outbox })) (at-answered n ChannelClosed promise (Ok Done) t refl is h);
    answered = λ n c t. moved t _ refl (λ z. z) (λ k. refl) (λ o. o) (λ b. b);
    removed = λ n t. moved t (remove_channel n t) refl (λ z. z) (λ k. refl) (λ o. o) (λ b. b);
    flow = λ n c active t. moved t _ refl (λ z. z) (λ k. refl) (λ o. o) (λ b. bears-push cs r left t.promises t.state t.outbox (plain_item n (flow_ok n active)) refl refl b);
    flowed = λ n c active promise t. at-answered n FlowDone promise (Ok (Flow active)) t refl;
    server_closed = at-server-closed;
    crossed = λ n e c t. moved t _ refl (λ z. z) (λ k. refl) (λ o. o) (λ b. bears-push cs r left t.promises t.state t.outbox (plain_item n (channel_close_ok n)) refl refl b);
  }

  passed : PassedRows At
  passed = record {
    confirms = λ n c t. moved t (confirmed n c t) refl (λ z. z) (λ k. refl) (λ o. o) (λ b. b);
    hands = λ opened x t. moved t (hand_out opened x t) refl (λ z. z) (λ k. refl) (λ o. o) (λ b. b);
  }

  -- ---- the connection

  at-queue : (n : ℕ) (f : Frame) (t t' : Talk) → is_raw f ≡ false → t'.made ≡ t.made → t'.promises ≡ t.promises → t'.link ≡ t.link → t'.state ≡ t.state
      → t'.outbox ≡ pushed_control (plain_item n f) t.outbox → (Sized t → Sized t') → At t → At t'
  at-queue n f t t' raw made same link state outbox size h =
      let Q : Queued → Type 0 = λ q. Bears cs r left q t.promises t.state in
      let P : Promises → Type 0 = λ p. Bears cs r left t'.outbox p t.state in
      let S : ConnectionState → Type 0 = λ s. Bears cs r left t'.outbox t'.promises s in
      moved t t' made size (λ k. ap (λ p. is_sent (at k p)) same) (λ o. sym (ap is_open_link link) ∙ o)
      (λ b. subst S (sym state) (subst P (sym same) (subst Q (sym outbox) (bears-push cs r left t.promises t.state t.outbox (plain_item n f) raw refl b)))) h

  at-connected : (t : Talk) → t.state ≡ Connecting → t.phase ≡ AwaitOpenOk → At t → At (connected t)
  at-connected t hs hp h =
      moved t (connected t) refl (λ z k. z (ap (λ s. is_agreed s t.phase) hs ∙ ap (is_agreed Connecting) hp)) (λ k. settled-sent k 0 (Ok AnswerConnected) t.promises refl) (λ o. o)
      (λ b. other (bears-give cs r left t.promises t.state t.outbox (Some 0) (Ok AnswerConnected) (omega arith, refl) refl b)) h
    where
      other : {ps : Promises} → Bears cs r left t.outbox ps t.state → Bears cs r left t.outbox ps Connected
      other b = record {
        last = b.last;
        lines = b.lines;
        ends = elim b.ends [
          | inl x ↦ inl x
          | inr x ↦ absurd (closing-not t.state hs x.0)
        ];
        awaited = b.awaited;
      }

  at-reopens : (n : ℕ) (t : Talk) → At t → At (await n ChannelOpened None (queue n (channel_open n) t))
  at-reopens n t h =
      moved t _ refl (λ z. z) (λ k. refl) (λ o. o)
      (λ b. bears-expected cs r left t.promises t.state _ n _ tt (bears-push cs r left t.promises t.state t.outbox (plain_item n (channel_open n)) refl refl b)) h

  at-starts : (answers : List ProviderAnswer) (t : Talk) → t.state ≡ Connecting → At t → At (on_start answers t)
  at-starts answers t hs h =
      start-keeps At at-lose answers t h
      (λ mechanism response. at-queue 0 (start_ok t.config.options mechanism response) t _ refl refl refl refl refl refl
      (λ z k. (let no : is_agreed Connecting AwaitTune ≡ true = ap (λ s. is_agreed s AwaitTune) (sym hs) ∙ k in absurd cc)) h)

  at-tunes : (server : Configuration) (t : Talk) → At t → At (on_tune server t)
  at-tunes server t h =
      let x : Talk = queue 0 (tune_ok (tune t.configuration server)) t in
      at-queue 0 (open_vhost t.config.uri.vhost) x _ refl refl refl refl refl refl (λ z k. omega arith)
      (at-queue 0 (tune_ok (tune t.configuration server)) t x refl refl refl refl refl refl (λ z. z) h)

  on-connection : (answers : List ProviderAnswer) → ConnectionRows At answers
  on-connection answers = record {
    starts = at-starts answers;
    secures = λ t h. secure-keeps At at-lose answers t h (λ response. at-queue 0 (secure_ok response) t _ refl refl refl refl refl refl (λ z. z) h);
    tunes = at-tunes;
    connects = at-connected;
    reopens = at-reopens;
    blocks = λ reason t. moved t _ refl (λ z. z) (λ k. refl) (λ o. o) (λ b. b);
    unblocks = λ t. moved t _ refl (λ z. z) (λ k. refl) (λ o. o) (λ b. b);
    refreshes = λ t is. moved t _ refl (λ z. z) (λ k. refl) (λ o. o) (λ b. bears-answered cs r left t.promises t.state t.outbox 0 SecretDone b);
    renews = λ number t. at-answered 0 SecretDone (Some number) (Ok Done) t refl;
    server_closes = λ code text t. moved t _ refl (λ z k. absurd cc) (λ k. refl) (λ o. o) (λ b. bears-over cs r left t.promises t.state t.outbox (plain_item 0 close_ok) refl refl b);
    closes = at-close;
    answers_close = λ promise t. off t _ refl (λ z k. absurd cc) (λ k. to-sent k promise (Ok Done) t.promises refl) refl;
  }

  -- ---- frames

  pub at-frame : (f : Frame) (answers : List ProviderAnswer) (t : Talk) → At t → At (on_frame f answers t)
  at-frame f answers t h = frame-keeps At answers on-channels (on-connection answers) passed f t h

  -- ---- links

  asked-shut : (l : Link ErrorKind) → is_open_link (asked_link l) ≡ true → is_open_link l ≡ true
  asked-shut Open h = h
  asked-shut (Due moment) h = h
  asked-shut Wanted h = absurd cc
  asked-shut Asked h = h
  asked-shut (Ended r) h = h

  pub at-asked : (t : Talk) → At t → At (asked t)
  at-asked t h = moved t (asked t) refl (λ z. z) (λ n. refl) (λ o. asked-shut t.link o) (λ b. b) h

  at-refused : (delay : Option ℕ) (t : Talk) → At t → At (refused_after delay t)
  at-refused None t h = at-fail (IOError Refused) t h
  at-refused (Some delay) t h = off t _ refl (λ z. z) (λ n. refl) refl h

  pub at-failed : (t : Talk) → At t → At (link_failed t)
  at-failed t h = if_case At (is_asked t) (refused_after (next_delay t) t) t (at-refused (next_delay t) t h) h

  pub at-piece : (t : Talk) → At t → At (piece t)
  at-piece t h = if_case At (is_open t) (record t { last_read = t.present }) t (moved t (record t { last_read = t.present }) refl (λ z. z) (λ n. refl) (λ o. o) (λ b. b) h) h

  pub at-misread : (why : Misread) (t : Talk) → At t → At (misread why t)
  at-misread why t h = misread-keeps At at-lose (λ x. moved x (record x { input = dropped x.input }) refl (λ z. z) (λ n. refl) (λ o. o) (λ b. b)) why t h

  pub at-lost : (fault : IoFault) (t : Talk) → At t → At (lost fault t)
  at-lost fault t h =
      if_case At (acts t) (lose (IOError fault) t) (if is_open t then finish t else t)
      (at-lose (IOError fault) t h) (if_case At (is_open t) (finish t) t (at-finish t.server_close t h) h)

  pub at-overlong : (o : Option ℕ) (t : Talk) → At t → At (end_overlong o t)
  at-overlong None t h = h
  at-overlong (Some size) t h = at-lose (SerialisationError size) t h

  -- ---- time

  at-due : (t : Talk) → At t → At (link_due t)
  at-due t h = moved t (link_due t) refl (λ z. z) (λ n. refl) (λ o. by t.link o) (λ b. b) h where
    by : (l : Link ErrorKind) → is_open_link (link_at t.present l) ≡ true → is_open_link l ≡ true
    by (Due moment) o = absurd (closed (nat_le moment t.present) o) where
      closed : (b : Bool) → is_open_link (if b then Wanted else Due moment) ≡ true → ⊥
      closed true h = cc
      closed false h = cc
    by Open o = o
    by Wanted o = o
    by Asked o = o
    by (Ended r) o = o

  -- what is due
  due : TickRows At
  due = record {
    lost = at-lose;
    beats = λ t. at-queue 0 Heartbeat t _ refl refl refl refl refl refl (λ z. z);
    refreshes = λ secret t. moved t _ refl (λ z. z) (λ k. refl) (λ o. o)
        (λ b. bears-expected cs r left t.promises t.state _ 0 _ tt (bears-push cs r left t.promises t.state t.outbox (plain_item 0 (new_secret secret refresh_reason)) refl refl b));
    retains = λ text t. moved t _ refl (λ z. z) (λ k. refl) (λ o. o) (λ b. b);
    wants = at-due;
  }

  pub at-tick : (answers : List ProviderAnswer) (t : Talk) → At t → At (tick answers t)
  at-tick answers t h = tick-keeps At due answers t h
