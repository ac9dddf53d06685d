-- Two states that are alike but for what was taken of one: each rule keeps that, whatever is known of the parts that were taken away, as long as the
-- six ways in which rules change these parts keep it.
use Rattle.std.proofs.Common.{◌≡◌, ℕ, zero, suc, ◌+◌, ◌-◌, ◌==◌, ◌&&◌, not, nat_le, nat_lt, max, Bool, true, false, if◌then◌else◌, List, [], ◌∷◌, ◌++◌, drop, filter, Option, Some, None, Result, Ok, Err, is_some, unwrap_or, refl, ap, sym, subst}
use Rattle.amqp_types.specs.Codes.{NamedError}
use Rattle.amqp_frame.specs.declared.frame.Frame.{Frame}
use Rattle.amqp_frame.specs.declared.frame.Frame.TheVariants.{ProtocolHeader, Method, Raw, Heartbeat}
use Rattle.amqp_frame.specs.declared.frame.RawKind.{RawKind}
use Rattle.amqp_frame.specs.declared.frame.RawKind.TheVariants.{RawMethod}
use Rattle.amqp_frame.specs.declared.method.Method.{Method as AnyMethod}
use Rattle.amqp_frame.specs.declared.method.Method.TheVariants.{Start, Secure, Tune, OpenOk, Close, CloseOk, Blocked, Unblocked, UpdateSecretOk, ChannelOpenOk, ChannelClose, ChannelCloseOk, ChannelFlow, ChannelFlowOk}
use Rattle.amqp_frame.specs.Methods.{is_of_a_channel}
use Rattle.amqp_frame.specs.RawMethods.{OtherMethod}
use Rattle.amqp_outbox.specs.declared.item.Item.{Item}
use Rattle.amqp_outbox.specs.declared.reply.Reply.TheVariants.{ChannelOpened, ChannelClosed, FlowDone, SecretDone, ConnectionClosed}
use Rattle.amqp_outbox.specs.Items.{promise_of_group}
use Rattle.amqp_outbox.specs.Queued.{is_on, awaited_promise, without_awaited}
use Rattle.amqp_promise.specs.declared.state.ConnectionState.{ConnectionState}
use Rattle.amqp_promise.specs.declared.state.ConnectionState.TheVariants.{Connecting, Connected, Closing}
use Rattle.amqp_promise.specs.declared.state.ChannelState.{ChannelState}
use Rattle.amqp_promise.specs.declared.state.ChannelState.TheVariants as channel
use Rattle.amqp_promise.specs.declared.io_fault.IoFault.{IoFault}
use Rattle.amqp_promise.specs.declared.io_fault.IoFault.TheVariants.{Refused}
use Rattle.amqp_promise.specs.declared.error.ErrorKind.{ErrorKind}
use Rattle.amqp_promise.specs.declared.error.ErrorKind.TheVariants.{InvalidProtocolVersion, InvalidChannel, InvalidChannelState, InvalidConnectionState, AuthProviderError, ProtocolError, NoMemory, IOError, MissingHeartbeatError, ChannelsLimitReached, SerialisationError, OutboxFull}
use Rattle.amqp_promise.specs.Shown.{shown}
use Rattle.amqp_types.specs.declared.word.Word.TheVariants as word
use Rattle.amqp_channels.specs.declared.channels.Channel.{Channel}
use Rattle.amqp_channels.specs.declared.channels.Debt.{Debt}
use Rattle.amqp_channels.specs.declared.channels.Debt.TheVariants as debt
use Rattle.amqp_outgoing.specs.declared.committed.Mark.{Mark}
use Rattle.amqp_outgoing.specs.declared.committed.Then.{Then}
use Rattle.amqp_outgoing.specs.declared.committed.Then.TheVariants.{Nothing, Answer, Pays, Finish}
use Rattle.amqp_rules.specs.declared.state.Phase.{Phase}
use Rattle.amqp_rules.specs.declared.state.Phase.TheVariants.{AwaitStart, AwaitTune, AwaitOpenOk}
use Rattle.amqp_violations.specs.declared.server_close.ServerClose.{ServerClose}
use Rattle.amqp_violations.specs.declared.server_close.ServerClose.TheVariants.{WithoutError, WithError}
use Rattle.amqp_violations.specs.declared.misread.Misread.{Misread}
use Rattle.amqp_answers.specs.declared.handed.Handed.{Handed}
use Rattle.amqp_commands.specs.declared.command.Cmd.{Cmd}
use Rattle.amqp_commands.specs.declared.command.Cmd.TheVariants.{OpenChannel, CloseChannel, CloseConnection, UpdateSecret, Send, Publish, Flow, DropChannel, DropConnection, Listen}
use Rattle.amqp_answers.specs.declared.answer.Answer.{Answer as AnyAnswer}
use Rattle.amqp_answers.specs.declared.answer.Answer.TheVariants.{Channel as AnswerChannel, Connected as AnswerConnected, Done, Sent, Flow as AnswerFlow}
use Rattle.amqp_answers.specs.declared.event.Event.{Event}
use Rattle.amqp_answers.specs.declared.event.Event.TheVariants as event
use Rattle.amqp_auth.specs.declared.asked.Asked.{Asked as ProviderAnswer}
use Rattle.amqp_auth.specs.declared.asked.Asked.TheVariants as answer
use Rattle.amqp_maps.specs.Listed.{at, put, without, map_values}
use Rattle.amqp_settings.specs.Config.{Config}
use Rattle.amqp_answers.specs.Events as events
use Rattle.amqp_answers.specs.Events.{events_kept}
use Rattle.amqp_rules.specs.Talk.{Talk, has_ended, hears_on, is_open, is_asked, is_closing, acts}
use Rattle.amqp_answers.specs.Settled.{Promises, settled, settled_to, rejected_all}
use Rattle.amqp_rules.specs.Changes.{await, rejected_each, rejected, promises_on, replies_on, without_groups_of, present_at, queue, give, give_to, promise, refuse, note, tell_owed, drop_groups_of, drop_groups, drop_channel_of, drop_replies_of, fail, lose_by, lose, misplaced, close, finish, finish_by, starve}
use Rattle.amqp_rules.specs.Recovery.{next_delay, delayed, recovery_delay, reconnect}
use Rattle.amqp_rules.specs.Links.{asked, linked, dropped, lost, misread, piece, refused_after, link_failed}
use Rattle.amqp_violations.specs.Violations.{channel_closed_with, misread_error, stray_channel_frame, stray_connection_method, unawaited}
use Rattle.amqp_settings.specs.Handshake.{our_close, new_secret}
use Rattle.amqp_rules.specs.ConnectionMethods.{connected, reopen, reopen_each, on_open_ok, connection_rule, connection_closed, secret_taken, on_start, on_secure, started, challenged}
use Rattle.amqp_rules.specs.Channels.{channel_at}
use Rattle.amqp_channels.specs.Channels.{made_closing}
use Rattle.amqp_rules.specs.ChannelMethods.{heard_on, unawaited_channel_method, channel_opened, channel_closed, channel_flowed, channel_close_by, crossing_close, closed_by_server, remove_channel, remove_unless_owed, on_channel_flow, channel_rule, channel_method_by, channel_method, frames_of, hand_out, confirmed, is_select_ok, pass_through, raw_by}
use Rattle.amqp_rules.specs.Frames.{method_rule, frame_rule, closed_rule, on_frame}
use Rattle.amqp_commands.specs.Publishing.{method_frame, publish_frames}
use Rattle.amqp_rules.specs.Commands.{open_drawn, close_target, drop_target, flow_target, queue_secret, update_secret, too_long, unless_too_long, too_full, unless_full, queue_send, send_target, body_limit, queue_publish, publish_target, leave_channel, leave_connection, command, command_rule}
use Rattle.amqp_rules.specs.Ticks.{is_missed, is_heartbeat_due, missing_heartbeat, heartbeat_due, beat, asks_validity, has_expired, refreshed, refresh, validity_told, secret_due, link_due, timed, tick}
use Rattle.amqp_rules.specs.Writing.{next_within, commit, committed_as, overlong, end_overlong, next_frame, paid_off, paid_by, pay, follow, sent, sent_among, taken}
use Rattle.amqp_journal.specs.Untaken.{Untaken, untaken, with_untaken, handed_over, IsClosed, Tied}

module _ (R : ℕ → Config → Untaken → Untaken → Type 0) (k : IsClosed R) where
  -- a rule keeps it
  abbrev pub Keeps : (Talk → Talk) → Type 0
  Keeps rule = (f : Talk) (u : Untaken) → R f.made f.config (untaken f) u → Tied R (rule f) (rule (with_untaken u f))

  pub tie : (f : Talk) (u : Untaken) → R f.made f.config (untaken f) u → Tied R f (with_untaken u f)
  tie f u r = record { same = refl; parts = r }

  -- what holds for any parts holds for tied states
  pub on : (rule : Talk → Talk) → Keeps rule → (f t : Talk) → Tied R f t → Tied R (rule f) (rule t)
  on rule keeps f t h =
      let P : Talk → Type 0 = λ x. Tied R (rule f) (rule x) in
      subst P (sym h.same) (keeps f (untaken t) h.parts)

  pub either : (b : Bool) (x y x' y' : Talk) → Tied R x x' → Tied R y y' → Tied R (if b then x else y) (if b then x' else y')
  either true x y x' y' h g = h
  either false x y x' y' h g = g

  -- ---- the parts

  settled-to : (m : ℕ) (g : Config) (o : Option ℕ) (a : Result AnyAnswer ErrorKind) (v u : Untaken) → R m g v u
      → R m g (record v { promises = settled_to o a v.promises }) (record u { promises = settled_to o a u.promises })
  settled-to m g None a v u r = r
  settled-to m g (Some n) a v u r = k.settled m g n a v u r

  rejected-each : (m : ℕ) (g : Config) (e : ErrorKind) (os : List (Option ℕ)) (v u : Untaken) → R m g v u
      → R m g (record v { promises = rejected_each e os v.promises }) (record u { promises = rejected_each e os u.promises })
  rejected-each m g e [] v u r = r
  rejected-each m g e (o ∷ os) v u r =
      rejected-each m g e os (record v { promises = settled_to o (Err e) v.promises }) (record u { promises = settled_to o (Err e) u.promises })
      (settled-to m g o (Err e) v u r)

  rejected-groups : (m : ℕ) (g : Config) (e : ErrorKind) (gs : List (List Item)) (v u : Untaken) → R m g v u
      → R m g (record v { promises = rejected e gs v.promises }) (record u { promises = rejected e gs u.promises })
  rejected-groups m g e [] v u r = r
  rejected-groups m g e (x ∷ gs) v u r =
      rejected-groups m g e gs (record v { promises = settled_to (promise_of_group x) (Err e) v.promises }) (record u { promises = settled_to (promise_of_group x) (Err e) u.promises })
      (settled-to m g (promise_of_group x) (Err e) v u r)

  told-of : (m : ℕ) (g : Config) (listens : Bool) (o : Option NamedError) (v u : Untaken) → R m g v u
      → R m g (record v { events = events.told listens o v.events }) (record u { events = events.told listens o u.events })
  told-of m g listens None v u r = r
  told-of m g listens (Some e) v u r = k.noted m g listens (event.Error (ProtocolError e)) v u r

  -- ---- small changes

  pub of-moment : (now : ℕ) → Keeps (present_at now)
  of-moment now f u r = either (has_ended f) f (record f { present = max f.present now }) (with_untaken u f) _ (tie f u r) (tie (record f { present = max f.present now }) u r)

  pub of-give : (n : ℕ) (a : Result AnyAnswer ErrorKind) → Keeps (give n a)
  of-give n a f u r = tie (give n a f) (record u { promises = settled n a u.promises }) (k.settled f.made f.config n a (untaken f) u r)

  pub of-give-to : (o : Option ℕ) (a : Result AnyAnswer ErrorKind) → Keeps (give_to o a)
  of-give-to o a f u r = tie (give_to o a f) (record u { promises = settled_to o a u.promises }) (settled-to f.made f.config o a (untaken f) u r)

  pub of-promise : Keeps promise
  of-promise f u r = tie (promise f) (record u { promises = put f.made None u.promises }) (k.put f.made f.config None (untaken f) u r)

  pub of-refuse : (e : ErrorKind) → Keeps (refuse e)
  of-refuse e f u r = tie (refuse e f) (record u { promises = put f.made (Some (Err e)) u.promises }) (k.put f.made f.config (Some (Err e)) (untaken f) u r)

  pub of-note : (e : Event) → Keeps (note e)
  of-note e f u r = tie (note e f) (record u { events = events_kept f.noted.listens e u.events }) (k.noted f.made f.config f.noted.listens e (untaken f) u r)

  pub of-owed : (n : ℕ) → Keeps (tell_owed n)
  of-owed n f u r =
      tie (tell_owed n f) (record u { events = events.told f.noted.listens (at n f.noted.owed) u.events }) (told-of f.made f.config f.noted.listens (at n f.noted.owed) (untaken f) u r)

  pub of-groups-of : (n : ℕ) (e : ErrorKind) → Keeps (drop_groups_of n e)
  of-groups-of n e f u r =
      let gs = filter (is_on n) f.outbox.publish in
      tie (drop_groups_of n e f) (record u { promises = rejected e gs u.promises }) (rejected-groups f.made f.config e gs (untaken f) u r)

  pub of-groups : (e : ErrorKind) → Keeps (drop_groups e)
  of-groups e f u r = tie (drop_groups e f) (record u { promises = rejected e f.outbox.publish u.promises }) (rejected-groups f.made f.config e f.outbox.publish (untaken f) u r)

  pub of-channel-of : (n : ℕ) (e : ErrorKind) → Keeps (drop_channel_of n e)
  of-channel-of n e f u r =
      tie (drop_channel_of n e f) (record u { promises = rejected_each e (promises_on n f.outbox) u.promises }) (rejected-each f.made f.config e (promises_on n f.outbox) (untaken f) u r)

  pub of-replies-of : (n : ℕ) (e : ErrorKind) → Keeps (drop_replies_of n e)
  of-replies-of n e f u r =
      tie (drop_replies_of n e f) (record u { promises = rejected_each e (replies_on n f.outbox) u.promises }) (rejected-each f.made f.config e (replies_on n f.outbox) (untaken f) u r)

  -- ---- losses and ends

  pub of-close : Keeps close
  of-close f u r = tie (close f) u r

  pub of-fail : (e : ErrorKind) → Keeps (fail e)
  of-fail e f u r = tie (fail e f) (record u { tells_end = f.noted.listens }) (k.failed f.made f.config f.noted.listens (untaken f) u r)

  pub of-reconnect : (e : ErrorKind) (delay : ℕ) → Keeps (reconnect e delay)
  of-reconnect e delay f u r = tie (reconnect e delay f) (record u { promises = rejected_all e u.promises }) (k.rejected f.made f.config e (untaken f) u r)

  of-lose-by : (o : Option ℕ) (e : ErrorKind) → Keeps (lose_by o e)
  of-lose-by (Some delay) e f u r = of-reconnect e delay f u r
  of-lose-by None e f u r = of-fail e f u r

  pub of-lose : (e : ErrorKind) → Keeps (lose e)
  of-lose e f u r = of-lose-by (recovery_delay e f) e f u r

  of-finish-by : (o : Option ServerClose) → Keeps (finish_by o)
  of-finish-by None f u r = of-close f u r
  of-finish-by (Some WithoutError) f u r = of-close f u r
  of-finish-by (Some (WithError e)) f u r = of-lose (ProtocolError e) f u r

  pub of-finish : Keeps finish
  of-finish f u r = of-finish-by f.server_close f u r

  pub of-misplaced : (e : ErrorKind) → Keeps (misplaced e)
  of-misplaced e f u r = either (is_closing f.state) f (lose e f) (with_untaken u f) (lose e (with_untaken u f)) (tie f u r) (of-lose e f u r)

  pub of-starve : Keeps starve
  of-starve f u r = either (has_ended f) f (fail NoMemory f) (with_untaken u f) (fail NoMemory (with_untaken u f)) (tie f u r) (of-fail NoMemory f u r)

  -- ---- links

  pub of-asked : Keeps asked
  of-asked f u r = tie (asked f) u r

  pub of-linked : Keeps linked
  of-linked f u r = either (is_asked f) _ f _ (with_untaken u f) (tie _ u r) (tie f u r)

  of-refused-after : (o : Option ℕ) → Keeps (refused_after o)
  of-refused-after (Some delay) f u r = tie (delayed delay f) u r
  of-refused-after None f u r = of-fail (IOError Refused) f u r

  pub of-link-failed : Keeps link_failed
  of-link-failed f u r = either (is_asked f) _ f _ (with_untaken u f) (of-refused-after (next_delay f) f u r) (tie f u r)

  pub of-piece : Keeps piece
  of-piece f u r = either (is_open f) (record f { last_read = f.present }) f _ (with_untaken u f) (tie _ u r) (tie f u r)

  pub of-misread : (why : Misread) → Keeps (misread why)
  of-misread why f u r =
      either (acts f) (lose (misread_error why) f) _ _ _ (of-lose (misread_error why) f u r)
      (either (is_open f) (record f { input = dropped f.input }) f _ (with_untaken u f) (tie _ u r) (tie f u r))

  pub of-lost : (fault : IoFault) → Keeps (lost fault)
  of-lost fault f u r =
      either (acts f) (lose (IOError fault) f) _ _ _ (of-lose (IOError fault) f u r)
      (either (is_open f) (finish f) f _ (with_untaken u f) (of-finish f u r) (tie f u r))

  -- ---- the connection

  of-started : (mechanism : List ℕ) (said : Result (List ℕ) (List ℕ)) → Keeps (started mechanism said)
  of-started mechanism (Ok response) f u r = tie (started mechanism (Ok response) f) u r
  of-started mechanism (Err text) f u r = of-lose (AuthProviderError text) f u r

  of-start : (answers : List ProviderAnswer) → Keeps (on_start answers)
  of-start (answer.Mechanism mechanism ∷ answer.Starter said ∷ later) f u r = of-started mechanism said f u r
  of-start _ f u r = tie f u r

  of-challenged : (said : Result (List ℕ) (List ℕ)) → Keeps (challenged said)
  of-challenged (Ok response) f u r = tie (challenged (Ok response) f) u r
  of-challenged (Err text) f u r = of-lose (AuthProviderError text) f u r

  of-secure : (answers : List ProviderAnswer) → Keeps (on_secure answers)
  of-secure (answer.Challenge said ∷ later) f u r = of-challenged said f u r
  of-secure _ f u r = tie f u r

  of-reopen : (n : ℕ) → Keeps (reopen n)
  of-reopen n f u r = either (nat_le n f.configuration.channel_max) _ (remove_channel n f) _ _ (tie _ u r) (tie (remove_channel n f) u r)

  of-reopen-each : (cs : List (ℕ × Channel)) → Keeps (reopen_each cs)
  of-reopen-each [] f u r = tie f u r
  of-reopen-each (c ∷ cs) f u r = on (reopen_each cs) (of-reopen-each cs) (reopen c.0 f) (reopen c.0 (with_untaken u f)) (of-reopen c.0 f u r)

  of-connected : Keeps connected
  of-connected f u r =
      let v : Untaken = record (untaken f) { promises = settled 0 (Ok AnswerConnected) f.promises } in
      let w : Untaken = record u { promises = settled 0 (Ok AnswerConnected) u.promises } in
      tie (connected f) (record w { events = events_kept f.noted.listens event.Connected w.events })
      (k.noted f.made f.config f.noted.listens event.Connected v w (k.settled f.made f.config 0 (Ok AnswerConnected) (untaken f) u r))

  of-open-ok : Keeps on_open_ok
  of-open-ok f u r = on (reopen_each f.channels) (of-reopen-each f.channels) (connected f) (connected (with_untaken u f)) (of-connected f u r)

  of-connection-closed : (o : Option (Option ℕ)) → Keeps (connection_closed o)
  of-connection-closed None f u r = of-close f u r
  of-connection-closed (Some promise) f u r =
      on close of-close (give_to promise (Ok Done) (record f { outbox = without_awaited 0 ConnectionClosed f.outbox })) _
      (of-give-to promise (Ok Done) (record f { outbox = without_awaited 0 ConnectionClosed f.outbox }) u r)

  of-secret-taken : (o : Option (Option ℕ)) → Keeps (secret_taken o)
  of-secret-taken None f u r = of-lose (InvalidConnectionState Connected) f u r
  of-secret-taken (Some None) f u r = tie (secret_taken (Some None) f) u r
  of-secret-taken (Some (Some number)) f u r = of-give number (Ok Done) (record f { outbox = without_awaited 0 SecretDone f.outbox }) u r

  pub of-connection : (s : ConnectionState) (p : Phase) (m : AnyMethod) (answers : List ProviderAnswer) → Keeps (connection_rule s p m answers)
  of-connection s p (Close code text class method) answers f u r = tie (connection_rule s p (Close code text class method) answers f) u r
  of-connection s p (Blocked reason) answers f u r = of-note (event.ConnectionBlocked (shown reason)) (record f { blocked = true }) u r
  of-connection s p Unblocked answers f u r = of-note event.ConnectionUnblocked (record f { blocked = false }) u r
  of-connection Closing p CloseOk answers f u r = of-connection-closed (awaited_promise 0 ConnectionClosed f.outbox) f u r
  of-connection Closing p m answers f u r = tie f u r
  of-connection Connecting AwaitStart (Start a b c d e) answers f u r = of-start answers f u r
  of-connection Connecting AwaitTune (Secure challenge) answers f u r = of-secure answers f u r
  of-connection Connecting AwaitTune (Tune a b c) answers f u r = tie (connection_rule Connecting AwaitTune (Tune a b c) answers f) u r
  of-connection Connecting AwaitOpenOk OpenOk answers f u r = of-open-ok f u r
  of-connection Connected p UpdateSecretOk answers f u r = of-secret-taken (awaited_promise 0 SecretDone f.outbox) f u r
  of-connection held p m answers f u r = of-lose (InvalidConnectionState held) f u r

  -- ---- channels

  of-unawaited : (n : ℕ) (s : ChannelState) (m : AnyMethod) → Keeps (unawaited_channel_method n s m)
  of-unawaited n channel.Closing m f u r = tie f u r
  of-unawaited n _ m f u r = of-lose (unawaited m n) f u r

  of-opened : (n : ℕ) (c : Channel) (o : Option (Option ℕ)) → Keeps (channel_opened n c o)
  of-opened n c None f u r = of-unawaited n c.state ChannelOpenOk f u r
  of-opened n c (Some promise) f u r = of-give-to promise _ _ u r

  of-unless-owed : (d : Debt) (n : ℕ) (c : Channel) → Keeps (remove_unless_owed d n c)
  of-unless-owed debt.Owed n c f u r = tie (remove_unless_owed debt.Owed n c f) u r
  of-unless-owed _ n c f u r = tie (remove_channel n f) u r

  of-closed : (n : ℕ) (c : Channel) (o : Option (Option ℕ)) → Keeps (channel_closed n c o)
  of-closed n c None f u r = of-unawaited n c.state ChannelCloseOk f u r
  of-closed n c (Some promise) f u r =
      let e : ErrorKind = InvalidChannelState channel.Closed word.ChannelCloseOkReceived in
      let x : Talk = record f { outbox = without_awaited n ChannelClosed f.outbox } in
      on (remove_unless_owed c.debt n c) (of-unless-owed c.debt n c) _ _
      (on (drop_replies_of n e) (of-replies-of n e) _ _ (of-give-to promise (Ok Done) x u r))

  of-flow : (s : ChannelState) (n : ℕ) (c : Channel) (active : Bool) → Keeps (on_channel_flow s n c active)
  of-flow channel.Closing n c active f u r = tie f u r
  of-flow _ n c active f u r = of-note (event.SendFlow active) _ u r

  of-flowed : (n : ℕ) (c : Channel) (active : Bool) (o : Option (Option ℕ)) → Keeps (channel_flowed n c active o)
  of-flowed n c active None f u r = of-unawaited n c.state (ChannelFlowOk active) f u r
  of-flowed n c active (Some promise) f u r = of-give-to promise (Ok (AnswerFlow active)) (record f { outbox = without_awaited n FlowDone f.outbox }) u r

  of-closed-by-server : (n : ℕ) (e : ErrorKind) (c : Channel) → Keeps (closed_by_server n e c)
  of-closed-by-server n e c f u r =
      tie (closed_by_server n e c f) (record u { promises = rejected_each e (promises_on n f.outbox) u.promises })
      (rejected-each f.made f.config e (promises_on n f.outbox) (untaken f) u r)

  of-server-close : (d : Debt) (n : ℕ) (e : ErrorKind) (c : Channel) → Keeps (channel_close_by d n e c)
  of-server-close debt.Nothing n e c f u r =
      either c.awaits_close_ok (crossing_close n e c f) (closed_by_server n e c f) (crossing_close n e c (with_untaken u f)) (closed_by_server n e c (with_untaken u f))
      (tie (crossing_close n e c f) u r) (of-closed-by-server n e c f u r)
  of-server-close _ n e c f u r = tie f u r

  of-channel : (s : ConnectionState) (n : ℕ) (c : Channel) (m : AnyMethod) → Keeps (channel_rule s n c m)
  of-channel Closing n c m f u r = tie f u r
  of-channel _ n c ChannelOpenOk f u r = of-opened n c (awaited_promise n ChannelOpened f.outbox) f u r
  of-channel _ n c ChannelCloseOk f u r = of-closed n c (awaited_promise n ChannelClosed f.outbox) f u r
  of-channel _ n c (ChannelClose code text class method) f u r = of-server-close c.debt n (channel_closed_with code text) c f u r
  of-channel _ n c (ChannelFlow active) f u r = of-flow c.state n c active f u r
  of-channel _ n c (ChannelFlowOk active) f u r = of-flowed n c active (awaited_promise n FlowDone f.outbox) f u r
  of-channel _ n c m f u r = of-unawaited n c.state m f u r

  of-channel-by : (o : Option Channel) (n : ℕ) (m : AnyMethod) → Keeps (channel_method_by o n m)
  of-channel-by None n m f u r = of-misplaced (InvalidChannel n) f u r
  of-channel-by (Some c) n m f u r = of-channel f.state n c m f u r

  of-hand-out : (opened : ℕ) (h : Handed) → Keeps (hand_out opened h)
  of-hand-out opened h f u r = tie (hand_out opened h f) (record u { handed = handed_over opened h u.handed }) (k.handed f.made f.config opened h (untaken f) u r)

  of-pass : (n : ℕ) (c : Channel) (kind : RawKind) (bytes : List ℕ) → Keeps (pass_through n c kind bytes)
  of-pass n c kind bytes f u r =
      let h : Handed = record { channel = n; kind = kind; bytes = bytes } in
      on (hand_out c.opened h) (of-hand-out c.opened h) _ _
      (either (is_select_ok kind bytes) (confirmed n c f) f (confirmed n c (with_untaken u f)) (with_untaken u f) (tie (confirmed n c f) u r) (tie f u r))

  of-raw : (o : Option Channel) (n : ℕ) (kind : RawKind) (bytes : List ℕ) → Keeps (raw_by o n kind bytes)
  of-raw None n kind bytes f u r = of-misplaced (InvalidChannel n) f u r
  of-raw (Some c) n kind bytes f u r = of-pass n c kind bytes f u r

  -- ---- frames

  of-method : (n : ℕ) (m : AnyMethod) (answers : List ProviderAnswer) → Keeps (method_rule n m answers)
  of-method zero m answers f u r =
      either (is_of_a_channel m) (misplaced (stray_channel_frame RawMethod) f) (connection_rule f.state f.phase m answers f) _ _
      (of-misplaced (stray_channel_frame RawMethod) f u r) (of-connection f.state f.phase m answers f u r)
  of-method (suc n) m answers f u r =
      either (is_of_a_channel m) (channel_method (suc n) m f) (misplaced (stray_connection_method (suc n)) f) _ _
      (of-channel-by (heard_on f.state (channel_at (suc n) f)) (suc n) m f u r) (of-misplaced (stray_connection_method (suc n)) f u r)

  pub of-rule : (x : Frame) (answers : List ProviderAnswer) → Keeps (frame_rule x answers)
  of-rule (ProtocolHeader version) answers f u r = of-lose (InvalidProtocolVersion version) f u r
  of-rule Heartbeat answers f u r = tie f u r
  of-rule (Method n m) answers f u r = of-method n m answers f u r
  of-rule (Raw zero kind bytes) answers f u r = of-misplaced (stray_channel_frame kind) f u r
  of-rule (Raw (suc n) kind bytes) answers f u r = of-raw (heard_on f.state (channel_at (suc n) f)) (suc n) kind bytes f u r

  of-closed-rule : (x : Frame) → Keeps (closed_rule x)
  of-closed-rule (Method zero (Blocked reason)) f u r = of-note (event.ConnectionBlocked (shown reason)) (record f { blocked = true }) u r
  of-closed-rule (Method zero Unblocked) f u r = of-note event.ConnectionUnblocked (record f { blocked = false }) u r
  of-closed-rule x f u r = tie f u r

  pub of-frame : (x : Frame) (answers : List ProviderAnswer) → Keeps (on_frame x answers)
  of-frame x answers f u r =
      either (acts f) (frame_rule x answers f) _ _ _ (of-rule x answers f u r)
      (either (hears_on f) (closed_rule x f) f (closed_rule x (with_untaken u f)) (with_untaken u f) (of-closed-rule x f u r) (tie f u r))

  -- ---- time

  of-missing : Keeps missing_heartbeat
  of-missing f u r =
      either (is_missed f) (lose MissingHeartbeatError f) f (lose MissingHeartbeatError (with_untaken u f)) (with_untaken u f) (of-lose MissingHeartbeatError f u r) (tie f u r)

  of-due : Keeps heartbeat_due
  of-due f u r = either (is_heartbeat_due f) _ f _ (with_untaken u f) (tie _ u r) (tie f u r)

  pub of-beat : Keeps beat
  of-beat f u r = on heartbeat_due of-due (missing_heartbeat f) (missing_heartbeat (with_untaken u f)) (of-missing f u r)

  of-refreshed : (said : Result (List ℕ) (List ℕ)) → Keeps (refreshed said)
  of-refreshed (Ok secret) f u r = tie (refreshed (Ok secret) f) u r
  of-refreshed (Err text) f u r = tie (refreshed (Err text) f) u r

  of-refresh : (answers : List ProviderAnswer) → Keeps (refresh answers)
  of-refresh (answer.Refreshed said ∷ later) f u r = of-refreshed said f u r
  of-refresh _ f u r = tie f u r

  of-validity : (answers : List ProviderAnswer) → Keeps (validity_told answers)
  of-validity (answer.ValidFor None ∷ later) f u r = tie f u r
  of-validity (answer.ValidFor (Some time) ∷ later) f u r =
      either (has_expired (Some time) f) (refresh later f) f (refresh later (with_untaken u f)) (with_untaken u f) (of-refresh later f u r) (tie f u r)
  of-validity _ f u r = tie f u r

  of-secret-due : (answers : List ProviderAnswer) → Keeps (secret_due answers)
  of-secret-due answers f u r =
      either (asks_validity f) (validity_told answers f) f (validity_told answers (with_untaken u f)) (with_untaken u f) (of-validity answers f u r) (tie f u r)

  of-link-due : Keeps link_due
  of-link-due f u r = tie (link_due f) u r

  pub of-tick : (answers : List ProviderAnswer) → Keeps (tick answers)
  of-tick answers f u r =
      on link_due of-link-due _ _
      (on (secret_due answers) (of-secret-due answers) (beat f) (beat (with_untaken u f)) (of-beat f u r))

  -- ---- commands

  of-drawn : (o : Option ℕ) (first : ℕ) → Keeps (open_drawn o first)
  of-drawn None first f u r =
      tie (open_drawn None first f) (record u { promises = put f.made (Some (Err ChannelsLimitReached)) u.promises })
      (k.put f.made f.config (Some (Err ChannelsLimitReached)) (untaken f) u r)
  of-drawn (Some n) first f u r = tie (open_drawn (Some n) first f) (record u { promises = put f.made None u.promises }) (k.put f.made f.config None (untaken f) u r)

  of-leave-channel : (n code : ℕ) (text : List ℕ) (c : Channel) (o : Option ℕ) → Keeps (leave_channel n code text c o)
  of-leave-channel n code text c o f u r = of-groups-of n (InvalidChannelState channel.Closing word.ChannelClose) _ u r

  of-close-target : (x : Result Channel ErrorKind) (n code : ℕ) (text : List ℕ) → Keeps (close_target x n code text)
  of-close-target (Err e) n code text f u r = of-refuse e f u r
  of-close-target (Ok c) n code text f u r =
      on promise of-promise (leave_channel n code text c (Some f.made) f) (leave_channel n code text c (Some f.made) (with_untaken u f))
      (of-leave-channel n code text c (Some f.made) f u r)

  of-flow-target : (x : Result Channel ErrorKind) (n : ℕ) (active : Bool) → Keeps (flow_target x n active)
  of-flow-target (Err e) n active f u r = of-refuse e f u r
  of-flow-target (Ok c) n active f u r = of-promise _ u r

  of-drop-target : (x : Result Channel ErrorKind) (n : ℕ) → Keeps (drop_target x n)
  of-drop-target (Err e) n f u r = tie f u r
  of-drop-target (Ok c) n f u r = of-leave-channel n _ _ c None f u r

  of-unless-full : (o : Option ℕ) (rule : Talk → Talk) → Keeps rule → Keeps (unless_full o rule)
  of-unless-full None rule keeps f u r = keeps f u r
  of-unless-full (Some octets) rule keeps f u r = of-refuse (OutboxFull octets) f u r

  of-unless-long : (o : Option Frame) (rule : Talk → Talk) → Keeps rule → Keeps (unless_too_long o rule)
  of-unless-long None rule keeps f u r = keeps f u r
  of-unless-long (Some x) rule keeps f u r = of-refuse _ f u r

  of-queue-send : (n : ℕ) (x : Frame) → Keeps (queue_send n x)
  of-queue-send n x f u r = of-promise _ u r

  of-send-target : (x : Result Channel ErrorKind) (n : ℕ) (m : OtherMethod) → Keeps (send_target x n m)
  of-send-target (Err e) n m f u r = of-refuse e f u r
  of-send-target (Ok c) n m f u r =
      let x : Frame = method_frame n m in
      of-unless-long (too_long (x ∷ []) f) (unless_full (too_full (x ∷ []) f) (queue_send n x))
      (of-unless-full (too_full (x ∷ []) f) (queue_send n x) (of-queue-send n x)) f u r

  of-update-secret : (secret reason : List ℕ) → Keeps (update_secret secret reason)
  of-update-secret secret reason f u r = by (too_long (new_secret secret reason ∷ []) f) where
    by : (o : Option Frame) → Tied R (unless_too_long o (queue_secret (new_secret secret reason)) f) (unless_too_long o (queue_secret (new_secret secret reason)) (with_untaken u f))
    by None = of-promise _ u r
    by (Some x) = of-refuse _ f u r

  of-queue-publish : (n : ℕ) (xs : List Frame) → Keeps (queue_publish n xs)
  of-queue-publish n xs f u r = of-promise _ u r

  of-publish-target : (x : Result Channel ErrorKind) (n : ℕ) (m : OtherMethod) (properties body : List ℕ) → Keeps (publish_target x n m properties body)
  of-publish-target (Err e) n m properties body f u r = of-refuse e f u r
  of-publish-target (Ok c) n m properties body f u r =
      let xs : List Frame = publish_frames n m properties body (body_limit f) in
      of-unless-long (too_long xs f) (unless_full (too_full xs f) (queue_publish n xs))
      (of-unless-full (too_full xs f) (queue_publish n xs) (of-queue-publish n xs)) f u r

  of-leave-connection : (code : ℕ) (text : List ℕ) (o : Option ℕ) → Keeps (leave_connection code text o)
  of-leave-connection code text o f u r =
      let x : Talk = record f { state = Closing; channels = map_values made_closing f.channels } in
      of-groups (InvalidConnectionState Closing) (await 0 ConnectionClosed o (queue 0 (our_close code text) x)) u r

  of-command-rule : (s : ConnectionState) (c : Cmd) → Keeps (command_rule s c)
  of-command-rule Connected OpenChannel f u r = of-drawn _ _ f u r
  of-command-rule Connected (CloseChannel x code text) f u r = of-close-target _ x.id code text f u r
  of-command-rule Connected (CloseConnection code text) f u r =
      on promise of-promise (leave_connection code text (Some f.made) f) (leave_connection code text (Some f.made) (with_untaken u f))
      (of-leave-connection code text (Some f.made) f u r)
  of-command-rule Connected (UpdateSecret secret reason) f u r = of-update-secret secret reason f u r
  of-command-rule Connected (Send x m) f u r = of-send-target _ x.id m f u r
  of-command-rule Connected (Publish x m properties body) f u r = of-publish-target _ x.id m properties body f u r
  of-command-rule Connected (Flow x active) f u r = of-flow-target _ x.id active f u r
  of-command-rule Connected (DropChannel x) f u r = of-drop-target _ x.id f u r
  of-command-rule Connected DropConnection f u r = of-leave-connection _ _ None f u r
  of-command-rule Connected Listen f u r = tie (command_rule Connected Listen f) u r
  of-command-rule s (DropChannel x) f u r = tie f u r
  of-command-rule s DropConnection f u r = tie f u r
  of-command-rule s Listen f u r = tie (command_rule s Listen f) u r
  of-command-rule s c f u r = of-refuse (InvalidConnectionState s) f u r

  pub of-command : (c : Cmd) → Keeps (command c)
  of-command c f u r = of-command-rule f.state c f u r

  -- ---- writing

  of-committed-as : (o : Option Item) → Keeps (committed_as o)
  of-committed-as None f u r = tie f u r
  of-committed-as (Some item) f u r = tie (committed_as (Some item) f) u r

  pub of-commit : (space : ℕ) → Keeps (commit space)
  of-commit space f u r = of-committed-as (next_within space f) f u r

  pub of-overlong : (o : Option ℕ) → Keeps (end_overlong o)
  of-overlong None f u r = tie f u r
  of-overlong (Some size) f u r = of-lose (SerialisationError size) f u r

  pub of-next-frame : (space : ℕ) → Keeps (next_frame space)
  of-next-frame space f u r =
      on (end_overlong (overlong f)) (of-overlong (overlong f)) (commit space f) (commit space (with_untaken u f)) (of-commit space f u r)

  of-paid-off : (n : ℕ) (c : Channel) → Keeps (paid_off n c)
  of-paid-off n c f u r = either c.awaits_close_ok _ (remove_channel n f) _ (remove_channel n (with_untaken u f)) (tie _ u r) (tie (remove_channel n f) u r)

  of-paid-by : (d : Debt) (n : ℕ) (c : Channel) → Keeps (paid_by d n c)
  of-paid-by debt.Owed n c f u r = on (paid_off n c) (of-paid-off n c) (tell_owed n f) (tell_owed n (with_untaken u f)) (of-owed n f u r)
  of-paid-by _ n c f u r = tie f u r

  of-pay : (o : Option Channel) (n : ℕ) → Keeps (pay o n)
  of-pay None n f u r = tie f u r
  of-pay (Some c) n f u r = of-paid-by c.debt n c f u r

  of-follow : (th : Then) → Keeps (follow th)
  of-follow Nothing f u r = tie f u r
  of-follow (Answer number) f u r = of-give number (Ok Sent) f u r
  of-follow (Pays n) f u r = of-pay (channel_at n f) n f u r
  of-follow Finish f u r = of-finish f u r

  of-sent : (m : Mark) → Keeps (sent m)
  of-sent m f u r = of-follow m.then (record f { committed = drop 1 f.committed }) u r

  of-sent-among : (ms : List Mark) (n : ℕ) → Keeps (sent_among ms n)
  of-sent-among [] n f u r = tie f u r
  of-sent-among (m ∷ ms) n f u r =
      either (is_open f) _ f _ (with_untaken u f)
      (either (nat_le m.left n) (sent_among ms (n - m.left) (sent m f)) _ (sent_among ms (n - m.left) (sent m (with_untaken u f))) _
      (on (sent_among ms (n - m.left)) (of-sent-among ms (n - m.left)) (sent m f) (sent m (with_untaken u f)) (of-sent m f u r))
      (tie _ u r))
      (tie f u r)

  pub of-taken : (n : ℕ) → Keeps (taken n)
  of-taken n f u r =
      either (is_open f && not (n == 0)) _ f _ (with_untaken u f)
      (of-sent-among f.committed n (record f { last_write = f.present }) u r) (tie f u r)
