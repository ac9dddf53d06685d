-- A frame leads from a sound state to a sound one.
use Rattle.std.proofs.Common.{◌≡◌, ◌∙◌, ap, sym, subst, refl, ℕ, zero, suc, ◌≤◌, ◌-◌, ◌&&◌, nat_le, if◌then◌else◌, Bool, true, false, List, [], ◌∷◌, Option, Some, None, Result, Ok, Err, arith, true≢false}
use Rattle.std.proofs.lemmas.Bool.Decides.{nat_tests}
use Rattle.amqp_types.specs.declared.word.Word.TheVariants as word
use Rattle.std.specs.Map.{keys_of}
use Rattle.amqp_frame.specs.declared.frame.Frame.{Frame}
use Rattle.amqp_frame.specs.declared.frame.Frame.TheVariants.{ProtocolHeader, Method, Raw, Heartbeat}
use Rattle.amqp_frame.specs.declared.frame.RawKind.{RawKind}
use Rattle.amqp_frame.specs.declared.frame.RawKind.TheVariants.{RawMethod}
use Rattle.amqp_frame.specs.declared.method.Method.{Method as AnyMethod}
use Rattle.amqp_frame.specs.declared.method.Method.TheVariants.{Start, Secure, Tune, OpenOk, Close, CloseOk, Blocked, Unblocked, UpdateSecretOk, ChannelOpenOk, ChannelClose, ChannelCloseOk, ChannelFlow, ChannelFlowOk}
use Rattle.amqp_outbox.specs.declared.reply.Awaited.{Awaited}
use Rattle.amqp_outbox.specs.declared.item.Item.{Item}
use Rattle.amqp_outbox.specs.declared.reply.Reply.TheVariants.{ChannelOpened, ChannelClosed, FlowDone, SecretDone, ConnectionClosed}
use Rattle.amqp_outbox.specs.Items.{plain_item}
use Rattle.amqp_outbox.specs.Queued.{Queued, waiting_items, pushed_control, awaited_promise, without_awaited}
use Rattle.amqp_channels.specs.declared.channels.Channel.{Channel}
use Rattle.amqp_channels.specs.declared.channels.Debt.{Debt}
use Rattle.amqp_channels.specs.declared.channels.Debt.TheVariants as debt
use Rattle.amqp_promise.specs.declared.state.ConnectionState.{ConnectionState}
use Rattle.amqp_promise.specs.declared.state.ConnectionState.TheVariants.{Initial, Reconnecting, Connecting, Connected, Closing}
use Rattle.amqp_promise.specs.declared.state.ChannelState.{ChannelState}
use Rattle.amqp_promise.specs.declared.state.ChannelState.TheVariants as channel
use Rattle.amqp_rules.specs.declared.state.Phase.{Phase}
use Rattle.amqp_rules.specs.declared.state.Phase.TheVariants.{AwaitStart, AwaitTune, AwaitOpenOk}
use Rattle.amqp_rules.specs.declared.state.Link.{Link}
use Rattle.amqp_rules.specs.declared.state.Link.TheVariants.{Due, Wanted, Asked, Open, Ended}
use Rattle.amqp_settings.specs.declared.configuration.Configuration.{Configuration}
use Rattle.amqp_answers.specs.declared.answer.Answer.TheVariants.{Connected as AnswerConnected, Done}
use Rattle.amqp_answers.specs.declared.handed.Handed.{Handed}
use Rattle.amqp_promise.specs.declared.error.ErrorKind.TheVariants.{InvalidChannel, AuthProviderError, InvalidProtocolVersion, InvalidChannelState, InvalidConnectionState}
use Rattle.amqp_promise.specs.declared.error.ErrorKind.{ErrorKind}
use Rattle.amqp_auth.specs.declared.asked.Asked.{Asked as ProviderAnswer}
use Rattle.amqp_rules.specs.Talk.{Talk, acts, hears_on, is_acting, is_open, is_open_link}
use Rattle.amqp_rules.specs.Changes.{queue, await, give, give_to, rejected_each, promises_on, replies_on, without_all_on, misplaced, close, finish, promise}
use Rattle.amqp_answers.specs.Settled.{settled_to}
use Rattle.amqp_settings.specs.Handshake.{close_ok, start_ok, secure_ok, tune_ok, open_vhost, channel_open, flow_ok, channel_close_ok}
use Rattle.amqp_settings.specs.Negotiation.{lesser_wish, wish_or, tune}
use Rattle.amqp_violations.specs.Violations.{channel_closed_with, stray_channel_frame, stray_connection_method, unawaited}
use Rattle.amqp_rules.specs.ConnectionMethods.{connected, reopen, reopen_each, connection_rule, connection_closed, secret_taken, started, challenged}
use Rattle.amqp_rules.specs.Channels.{channel_at}
use Rattle.amqp_rules.specs.ChannelMethods.{heard_on, unawaited_channel_method, channel_opened, channel_closed, channel_flowed, channel_close_by, remove_channel, remove_unless_owed, on_channel_flow, channel_rule, channel_method_by, channel_method, hand_out, confirmed, is_select_ok, raw_by}
use Rattle.amqp_frame.specs.Methods.{is_of_a_channel}
use Rattle.amqp_rules.specs.Frames.{method_rule, frame_rule, closed_rule, on_frame}
use Rattle.amqp_rules.specs.Writing.{pay, sent}
use Rattle.amqp_rules.specs.Sound.{IsSound, fits_link, is_agreed, following}
use Rattle.amqp_types.proofs.Small.{if_case, if_by, and-right, and-left}
use Rattle.amqp_rules.proofs.Heard.{start-case, secure-case}
use Rattle.amqp_rules.proofs.Ascending.{put-from, without-from}
use Rattle.amqp_rules.proofs.Finishing.{acting-finishes, acting-none, alone-last, channel-goes_on, close_ok-goes_on, control-goes_on, flow_ok-goes_on, open-goes_on, queue-finishes}
use Rattle.amqp_answers.specs.declared.answer.Answer.TheVariants.{Channel as AnswerChannel, Flow as AnswerFlow}
use Rattle.amqp_outbox.specs.Replies.{awaited_on}
use Rattle.amqp_rules.specs.ConnectionMethods.{on_connection_close}
use Rattle.amqp_rules.specs.ChannelMethods.{closed_by_server, crossing_close}
use Rattle.amqp_rules.specs.Sound.{NamesItself, NoOpening, is_unopened}
use Rattle.amqp_rules.proofs.Ascending.{ascend-from}
use Rattle.amqp_rules.proofs.Walk.{close_answered}
use Rattle.amqp_rules.proofs.AwaitedOn.{closing, first-opening}
use Rattle.amqp_rules.proofs.OpenedBy.{Names, names-to, names-each, fits-later, fits-silent}
use Rattle.amqp_rules.proofs.Opening.{fits-opened, fits-answered, fits-awaited, fits-closed, fits-answered-close, fits-set, fits-server-closed, fits-owing, fits-passed, none-awaited}
use Rattle.amqp_rules.proofs.SoundChanges.{Promised, to-kept, each-kept, sound-give, sound-give_to, sound-fail, sound-lose, sound-close, sound-misplaced, listed-some}

-- ---- channels

sound-unawaited : (n : ℕ) (held : ChannelState) (m : AnyMethod) (t : Talk) → IsSound t → IsSound (unawaited_channel_method n held m t)
sound-unawaited n channel.Closing m t s = s
sound-unawaited n _ m t s = sound-lose (unawaited m n) t s

-- open-ok answers the promise that opened the channel
sound-opened : (n : ℕ) (c : Channel) (a : Option (Option ℕ)) (t : Talk) → awaited_promise n ChannelOpened t.outbox ≡ a → channel_at n t ≡ Some c → is_unopened t.state ≡ false
    → IsSound t → IsSound (channel_opened n c a t)
sound-opened n c None t is listed opened s = sound-unawaited n c.state ChannelOpenOk t s
sound-opened n c (Some promise) t is listed opened s =
    record {
      link = s.link;
      room = s.room;
      acting = s.acting;
      finish = s.finish;
      listed = put-from n _ 0 t.channels (listed-some n c t.channels s.listed listed) s.listed;
      promises = to-kept promise (Ok (AnswerChannel n c.opened)) t.made t.promises s.promises;
      answers = names-to promise (Ok (AnswerChannel n c.opened)) t.promises own s.answers;
      channels = fits-opened t.state (acts t) t.channels t.outbox.awaited t.made s.channels n c listed opened;
    }
  where
    own : (k : ℕ) → promise ≡ Some k → Names k (Some (Ok (AnswerChannel n c.opened)))
    own k to id opening answer =
        let first : k ≡ c.opened =
        first-opening (λ p. p ≡ c.opened) (awaited_on n t.outbox.awaited) k (s.channels.opening n c listed) (is ∙ ap (λ (o : Option ℕ). Some o) to) in
        let same : c.opened ≡ opening = cc in
        sym same ∙ sym first

-- close-ok answers our close, and the channel goes, or stays until our own close-ok is sent
module _ (n : ℕ) (c : Channel) (promise : Option ℕ) (t : Talk) (s : IsSound t) where
  abbrev why : ErrorKind
  why = InvalidChannelState channel.Closed word.ChannelCloseOkReceived

  abbrev their_promises : List (Option ℕ)
  their_promises = replies_on n (without_awaited n ChannelClosed t.outbox)

  promised : Promised t.made (rejected_each why their_promises (settled_to promise (Ok Done) t.promises))
  promised = each-kept why their_promises t.made (settled_to promise (Ok Done) t.promises) (to-kept promise (Ok Done) t.made t.promises s.promises)

  answered : NamesItself (rejected_each why their_promises (settled_to promise (Ok Done) t.promises))
  answered = names-each why their_promises (settled_to promise (Ok Done) t.promises) (names-to promise (Ok Done) t.promises (λ k to id opened is. absurd cc) s.answers)

  gone : IsSound (remove_channel n (close_answered n promise t))
  gone =
      record {
        link = s.link;
        room = s.room;
        acting = s.acting;
        finish = s.finish;
        listed = without-from n 0 t.channels s.listed;
        promises = promised;
        answers = answered;
        channels = fits-closed t.state (acts t) t.channels t.outbox.awaited t.made s.channels n (ascend-from 0 (keys_of t.channels) s.listed);
      }

  sound-owed : (d : Debt) → channel_at n t ≡ Some c → is_unopened t.state ≡ false → IsSound (remove_unless_owed d n c (close_answered n promise t))
  sound-owed debt.Owed listed opened =
      record {
        link = s.link;
        room = s.room;
        acting = s.acting;
        finish = s.finish;
        listed = put-from n _ 0 t.channels (listed-some n c t.channels s.listed listed) s.listed;
        promises = promised;
        answers = answered;
        channels = fits-answered-close t.state (acts t) t.channels t.outbox.awaited t.made s.channels n c listed opened;
      }
  sound-owed debt.Nothing listed opened = gone
  sound-owed debt.Paid listed opened = gone

sound-closed : (n : ℕ) (c : Channel) (a : Option (Option ℕ)) (t : Talk) → channel_at n t ≡ Some c → is_unopened t.state ≡ false → IsSound t → IsSound (channel_closed n c a t)
sound-closed n c None t listed opened s = sound-unawaited n c.state ChannelCloseOk t s
sound-closed n c (Some promise) t listed opened s = sound-owed n c promise t s c.debt listed opened

sound-flow : (held : ChannelState) (n : ℕ) (c : Channel) (active : Bool) (t : Talk) → channel_at n t ≡ Some c → is_acting t.input ≡ true → IsSound t
    → IsSound (on_channel_flow held n c active t)
sound-flow channel.Closing n c active t listed acting s = s
sound-flow _ n c active t listed acting s =
    record {
      link = s.link;
      room = s.room;
      acting = s.acting;
      finish = queue-finishes t.input t.committed t.outbox (plain_item n (flow_ok n active)) acting (flow_ok-goes_on n active) s.finish;
      listed = put-from n _ 0 t.channels (listed-some n c t.channels s.listed listed) s.listed;
      promises = s.promises;
      answers = s.answers;
      channels = fits-set t.state (acts t) t.channels t.outbox.awaited t.made s.channels n c (record c { flow = active }) listed refl refl refl;
    }

sound-flowed : (n : ℕ) (c : Channel) (active : Bool) (a : Option (Option ℕ)) (t : Talk) → IsSound t → IsSound (channel_flowed n c active a t)
sound-flowed n c active None t s = sound-unawaited n c.state (ChannelFlowOk active) t s
sound-flowed n c active (Some promise) t s =
    sound-give_to promise (Ok (AnswerFlow active)) (record t { outbox = without_awaited n FlowDone t.outbox }) (λ k to id opened is. absurd cc)
    (record { link = s.link; room = s.room; acting = s.acting; finish = s.finish; listed = s.listed; promises = s.promises; answers = s.answers; channels = fits-answered t.state (acts t) t.channels t.outbox.awaited t.made s.channels FlowDone n refl })

-- close-ok is queued on a channel, whose debt it will pay
sound-server-close : (d : Debt) (n : ℕ) (e : ErrorKind) (c : Channel) (t : Talk) → channel_at n t ≡ Some c → is_unopened t.state ≡ false → is_acting t.input ≡ true → IsSound t
    → IsSound (channel_close_by d n e c t)
sound-server-close debt.Nothing n e c t listed opened acting s =
    if_by IsSound c.awaits_close_ok (crossing_close n e c t) (closed_by_server n e c t)
    (λ awaits.
    record {
      link = s.link;
      room = s.room;
      acting = s.acting;
      finish = queue-finishes t.input t.committed t.outbox (plain_item n (channel_close_ok n)) acting (close_ok-goes_on n) s.finish;
      listed = put-from n _ 0 t.channels (listed-some n c t.channels s.listed listed) s.listed;
      promises = s.promises;
      answers = s.answers;
      channels = fits-owing t.state (acts t) t.channels t.outbox.awaited t.made s.channels n c debt.Owed listed awaits;
    })
    (λ left.
    let said : Item = plain_item n (channel_close_ok n) in
    let kept : Queued = without_all_on n t.outbox in
    record {
      link = s.link;
      room = s.room;
      acting = s.acting;
      finish =
          acting-finishes t.input t.committed (waiting_items t.outbox) (waiting_items (pushed_control said kept)) acting
          (λ goes. control-goes_on kept (channel-goes_on t.outbox goes n) said (close_ok-goes_on n)) s.finish;
      listed = put-from n _ 0 t.channels (listed-some n c t.channels s.listed listed) s.listed;
      promises = each-kept e (promises_on n t.outbox) t.made t.promises s.promises;
      answers = names-each e (promises_on n t.outbox) t.promises s.answers;
      channels = fits-server-closed t.state (acts t) t.channels t.outbox.awaited t.made s.channels n c listed left opened;
    })
sound-server-close _ n e c t listed opened acting s = s

sound-channel : (state : ConnectionState) (n : ℕ) (c : Channel) (m : AnyMethod) (t : Talk) → channel_at n t ≡ Some c → is_unopened t.state ≡ false → is_acting t.input ≡ true
    → IsSound t → IsSound (channel_rule state n c m t)
sound-channel Closing n c m t listed opened acting s = s
sound-channel _ n c ChannelOpenOk t listed opened acting s = sound-opened n c (awaited_promise n ChannelOpened t.outbox) t refl listed opened s
sound-channel _ n c ChannelCloseOk t listed opened acting s = sound-closed n c (awaited_promise n ChannelClosed t.outbox) t listed opened s
sound-channel _ n c (ChannelClose code text class method) t listed opened acting s =
    sound-server-close c.debt n (channel_closed_with code text) c t listed opened acting s
sound-channel _ n c (ChannelFlow active) t listed opened acting s = sound-flow c.state n c active t listed acting s
sound-channel _ n c (ChannelFlowOk active) t listed opened acting s = sound-flowed n c active (awaited_promise n FlowDone t.outbox) t s
sound-channel _ n c m t listed opened acting s = sound-unawaited n c.state m t s

pub heard-listed : (state : ConnectionState) (o : Option Channel) (c : Channel) → heard_on state o ≡ Some c → o ≡ Some c
heard-listed Connecting o c h = absurd cc
heard-listed _ o c h = h

-- a frame is heard on a listed channel only once the connection was open
heard-opened : (state : ConnectionState) (l : Link ErrorKind) (o : Option Channel) (c : Channel) → heard_on state o ≡ Some c → fits_link state l ≡ true → is_open_link l ≡ true
    → is_unopened state ≡ false
heard-opened Connecting l o c h fits on = absurd cc
heard-opened Initial Open o c h fits on = absurd cc
heard-opened Initial (Due moment) o c h fits on = absurd cc
heard-opened Initial Wanted o c h fits on = absurd cc
heard-opened Initial Asked o c h fits on = absurd cc
heard-opened Initial (Ended r) o c h fits on = absurd cc
heard-opened Reconnecting Open o c h fits on = absurd cc
heard-opened Reconnecting (Due moment) o c h fits on = absurd cc
heard-opened Reconnecting Wanted o c h fits on = absurd cc
heard-opened Reconnecting Asked o c h fits on = absurd cc
heard-opened Reconnecting (Ended r) o c h fits on = absurd cc
heard-opened _ l o c h fits on = refl

sound-channel-by : (o : Option Channel) (n : ℕ) (m : AnyMethod) (t : Talk) → heard_on t.state (channel_at n t) ≡ o → is_open t ≡ true → is_acting t.input ≡ true
    → IsSound t → IsSound (channel_method_by o n m t)
sound-channel-by None n m t heard on acting s = sound-misplaced (InvalidChannel n) t s
sound-channel-by (Some c) n m t heard on acting s =
    sound-channel t.state n c m t (heard-listed t.state (channel_at n t) c heard)
    (heard-opened t.state t.link (channel_at n t) c heard s.link on) acting s

sound-hand : (opened : ℕ) (h : Handed) (t : Talk) → IsSound t → IsSound (hand_out opened h t)
sound-hand opened h t s = record { link = s.link; room = s.room; acting = s.acting; finish = s.finish; listed = s.listed; promises = s.promises; answers = s.answers; channels = s.channels }

sound-confirmed : (n : ℕ) (c : Channel) (t : Talk) → channel_at n t ≡ Some c → IsSound t → IsSound (confirmed n c t)
sound-confirmed n c t listed s =
    record {
      link = s.link;
      room = s.room;
      acting = s.acting;
      finish = s.finish;
      listed = put-from n _ 0 t.channels (listed-some n c t.channels s.listed listed) s.listed;
      promises = s.promises;
      answers = s.answers;
      channels = fits-set t.state (acts t) t.channels t.outbox.awaited t.made s.channels n c (record c { confirm = true }) listed refl refl refl;
    }

sound-raw : (o : Option Channel) (n : ℕ) (kind : RawKind) (bytes : List ℕ) (t : Talk) → heard_on t.state (channel_at n t) ≡ o → IsSound t → IsSound (raw_by o n kind bytes t)
sound-raw None n kind bytes t heard s = sound-misplaced (InvalidChannel n) t s
sound-raw (Some c) n kind bytes t heard s =
    sound-hand c.opened _ _
    (if_case IsSound (is_select_ok kind bytes) (confirmed n c t) t (sound-confirmed n c t (heard-listed t.state (channel_at n t) c heard) s) s)

-- ---- the connection

open-closing : (l : Link ErrorKind) → is_open_link l ≡ true → fits_link Closing l ≡ true
open-closing Open h = refl
open-closing (Due moment) h = absurd cc
open-closing Wanted h = absurd cc
open-closing Asked h = absurd cc
open-closing (Ended r) h = absurd cc

opened-fits : (l : Link ErrorKind) → fits_link Connecting l ≡ true → fits_link Connected l ≡ true
opened-fits Open h = refl
opened-fits (Due moment) h = absurd cc
opened-fits Wanted h = absurd cc
opened-fits Asked h = absurd cc
opened-fits (Ended r) h = absurd cc

pub closing-fits : (l : Link ErrorKind) → fits_link Connected l ≡ true → fits_link Closing l ≡ true
closing-fits Open h = refl
closing-fits (Due moment) h = absurd cc
closing-fits Wanted h = absurd cc
closing-fits Asked h = absurd cc
closing-fits (Ended r) h = absurd cc

wish-some : (greatest wish : ℕ) → 1 ≤ greatest → 1 ≤ wish_or greatest wish
wish-some greatest wish h = grind (arith, nat_tests)

pub tune-room : (own server : Configuration) → 1 ≤ (tune own server).channel_max
tune-room own server = wish-some 65535 (lesser_wish own.channel_max server.channel_max) (omega arith)

sound-connection-closed : (a : Option (Option ℕ)) (t : Talk) → IsSound t → IsSound (connection_closed a t)
sound-connection-closed None t s = sound-close t s
sound-connection-closed (Some promise) t s =
    let closed : Talk = record t { outbox = without_awaited 0 ConnectionClosed t.outbox } in
    sound-close (give_to promise (Ok Done) closed)
    (sound-give_to promise (Ok Done) closed (λ k to id opened is. absurd cc)
    (record { link = s.link; room = s.room; acting = s.acting; finish = s.finish; listed = s.listed; promises = s.promises; answers = s.answers; channels = fits-answered t.state (acts t) t.channels t.outbox.awaited t.made s.channels ConnectionClosed 0 refl }))

sound-secret-taken : (a : Option (Option ℕ)) (t : Talk) → IsSound t → IsSound (secret_taken a t)
sound-secret-taken None t s = sound-lose (InvalidConnectionState Connected) t s
sound-secret-taken (Some None) t s = record { link = s.link; room = s.room; acting = s.acting; finish = s.finish; listed = s.listed; promises = s.promises; answers = s.answers; channels = fits-answered t.state (acts t) t.channels t.outbox.awaited t.made s.channels SecretDone 0 refl }
sound-secret-taken (Some (Some number)) t s =
    sound-give number (Ok Done) (record t { outbox = without_awaited 0 SecretDone t.outbox }) (λ id opened is. absurd cc)
    (record { link = s.link; room = s.room; acting = s.acting; finish = s.finish; listed = s.listed; promises = s.promises; answers = s.answers; channels = fits-answered t.state (acts t) t.channels t.outbox.awaited t.made s.channels SecretDone 0 refl })

sound-started : (mechanism : List ℕ) (said : Result (List ℕ) (List ℕ)) (t : Talk) → t.state ≡ Connecting → is_acting t.input ≡ true → IsSound t → IsSound (started mechanism said t)
sound-started mechanism (Err text) t hs acting s = sound-fail (AuthProviderError text) t s
sound-started mechanism (Ok response) t hs acting s =
    record {
      link = s.link;
      acting = s.acting;
      finish = queue-finishes t.input t.committed t.outbox (plain_item 0 (start_ok t.config.options mechanism response)) acting refl s.finish;
      listed = s.listed;
      promises = s.promises;
      answers = s.answers;
      channels = s.channels;
      room = λ h. (let k : is_agreed Connecting AwaitTune ≡ true = subst (λ x. is_agreed x AwaitTune ≡ true) hs h in absurd cc);
    }

sound-challenged : (said : Result (List ℕ) (List ℕ)) (t : Talk) → is_acting t.input ≡ true → IsSound t → IsSound (challenged said t)
sound-challenged (Err text) t acting s = sound-fail (AuthProviderError text) t s
sound-challenged (Ok response) t acting s =
    record {
      link = s.link;
      room = s.room;
      acting = s.acting;
      finish = queue-finishes t.input t.committed t.outbox (plain_item 0 (secure_ok response)) acting refl s.finish;
      listed = s.listed;
      promises = s.promises;
      answers = s.answers;
      channels = s.channels;
    }

sound-connected : (t : Talk) → t.state ≡ Connecting → t.phase ≡ AwaitOpenOk → is_acting t.input ≡ true → IsSound t → IsSound (connected t)
sound-connected t hs hp acting s =
    let given : IsSound (give 0 (Ok AnswerConnected) t) = sound-give 0 (Ok AnswerConnected) t (λ id opened is. absurd cc) s in
    record {
      link = opened-fits t.link (subst (λ x. fits_link x t.link ≡ true) hs s.link);
      room = λ h. s.room (ap (λ x. is_agreed x t.phase) hs ∙ ap (is_agreed Connecting) hp);
      acting = λ h. acting;
      finish = s.finish;
      listed = s.listed;
      promises = given.promises;
      answers = given.answers;
      channels = fits-later t.state (acts t) t.channels t.outbox.awaited t.made s.channels Connected (acts t) (λ u. absurd (true≢false (sym u))) (λ a. a);
    }

-- a channel that was kept is opened again, or goes
-- nothing is awaited on a number that counts
abbrev IsFree : ℕ → Talk → Type 0
IsFree n t = (closing (awaited_on n t.outbox.awaited) ≡ false) × NoOpening (awaited_on n t.outbox.awaited)

sound-reopen : (n : ℕ) (t : Talk) → is_acting t.input ≡ true → is_unopened t.state ≡ false → IsFree n t → IsSound t → IsSound (reopen n t)
sound-reopen n t acting opened free s =
    if_case IsSound (nat_le n t.configuration.channel_max) (await n ChannelOpened None (queue n (channel_open n) t)) (remove_channel n t)
    (record {
      link = s.link;
      room = s.room;
      acting = s.acting;
      finish = queue-finishes t.input t.committed t.outbox (plain_item n (channel_open n)) acting (open-goes_on n) s.finish;
      listed = s.listed;
      promises = s.promises;
      answers = s.answers;
      channels = fits-awaited t.state (acts t) t.channels t.outbox.awaited t.made s.channels (record { reply = ChannelOpened; promise = None }) n refl (λ P. tt) opened;
    })
    (record {
      link = s.link;
      room = s.room;
      acting = s.acting;
      finish = s.finish;
      listed = without-from n 0 t.channels s.listed;
      promises = s.promises;
      answers = s.answers;
      channels = fits-passed t.state (acts t) t.channels t.outbox.awaited t.made s.channels n (ascend-from 0 (keys_of t.channels) s.listed) free;
    })

sound-reopened : (cs : List (ℕ × Channel)) (t : Talk) → is_acting t.input ≡ true → is_unopened t.state ≡ false → ((n : ℕ) → IsFree n t) → IsSound t → IsSound (reopen_each cs t)
sound-reopened [] t acting opened free s = s
sound-reopened (c ∷ cs) t acting opened free s =
    let again : Talk = await c.0 ChannelOpened None (queue c.0 (channel_open c.0) t) in
    let fits : Bool = nat_le c.0 t.configuration.channel_max in
    sound-reopened cs (reopen c.0 t)
    (if_case (λ (x : Talk). is_acting x.input ≡ true) fits again (remove_channel c.0 t) acting acting)
    (if_case (λ (x : Talk). is_unopened x.state ≡ false) fits again (remove_channel c.0 t) opened opened)
    (λ n. if_case (λ (x : Talk). IsFree n x) fits again (remove_channel c.0 t)
    (none-awaited (record { reply = ChannelOpened; promise = None }) c.0 n t.outbox.awaited refl tt (free n)) (free n))
    (sound-reopen c.0 t acting opened (free c.0) s)

-- the connection is open, and the channels that were kept are opened again
sound-open-ok : (t : Talk) → t.state ≡ Connecting → t.phase ≡ AwaitOpenOk → is_acting t.input ≡ true → IsSound t → IsSound (reopen_each t.channels (connected t))
sound-open-ok t hs hp acting s =
    let none : t.outbox.awaited ≡ [] = (s.channels.unopened (ap is_unopened hs)).0 in
    let P : List (ℕ × List Awaited) → Type 0 = λ ws. (n : ℕ) → (closing (awaited_on n ws) ≡ false) × NoOpening (awaited_on n ws) in
    sound-reopened t.channels (connected t) acting refl (subst P (sym none) (λ n. (refl, tt))) (sound-connected t hs hp acting s)

sound-connection : (state : ConnectionState) (p : Phase) (m : AnyMethod) (answers : List ProviderAnswer) (t : Talk) → t.state ≡ state → t.phase ≡ p → is_open t ≡ true
    → is_acting t.input ≡ true → IsSound t → IsSound (connection_rule state p m answers t)
sound-connection state p (Close code text class method) answers t hs hp opened acting s =
    record {
      link = open-closing t.link opened;
      room = λ h. absurd cc;
      acting = λ h. absurd cc;
      finish =
          alone-last t.committed (waiting_items t.outbox) (plain_item 0 close_ok)
          (acting-none t.input (following t.committed (waiting_items t.outbox)) acting s.finish);
      listed = s.listed;
      promises = s.promises;
      answers = s.answers;
      channels = fits-silent t.state (acts t) t.channels t.outbox.awaited t.made s.channels Closing (acts (on_connection_close code text t)) refl (ap (λ b. b && false) opened);
    }
sound-connection state p (Blocked reason) answers t hs hp opened acting s = record { link = s.link; room = s.room; acting = s.acting; finish = s.finish; listed = s.listed; promises = s.promises; answers = s.answers; channels = s.channels }
sound-connection state p Unblocked answers t hs hp opened acting s = record { link = s.link; room = s.room; acting = s.acting; finish = s.finish; listed = s.listed; promises = s.promises; answers = s.answers; channels = s.channels }
sound-connection Closing p CloseOk answers t hs hp opened acting s = sound-connection-closed (awaited_promise 0 ConnectionClosed t.outbox) t s
sound-connection Closing p m answers t hs hp opened acting s = s
sound-connection Connecting AwaitStart (Start a b c d e) answers t hs hp opened acting s = start-case IsSound answers t s (λ mechanism said. sound-started mechanism said t hs acting s)
sound-connection Connecting AwaitTune (Secure challenge) answers t hs hp opened acting s = secure-case IsSound answers t s (λ said. sound-challenged said t acting s)
sound-connection Connecting AwaitTune (Tune a b c) answers t hs hp opened acting s =
    let server : Configuration = record { channel_max = a; frame_max = b; heartbeat = c } in
    let tuned : Item = plain_item 0 (tune_ok (tune t.configuration server)) in
    record {
      link = s.link;
      room = λ h. tune-room t.configuration server;
      acting = s.acting;
      finish =
          queue-finishes t.input t.committed (pushed_control tuned t.outbox) (plain_item 0 (open_vhost t.config.uri.vhost)) acting refl
          (queue-finishes t.input t.committed t.outbox tuned acting refl s.finish);
      listed = s.listed;
      promises = s.promises;
      answers = s.answers;
      channels = s.channels;
    }
sound-connection Connecting AwaitOpenOk OpenOk answers t hs hp opened acting s = sound-open-ok t hs hp acting s
sound-connection Connected p UpdateSecretOk answers t hs hp opened acting s = sound-secret-taken (awaited_promise 0 SecretDone t.outbox) t s
sound-connection held p m answers t hs hp opened acting s = sound-lose (InvalidConnectionState held) t s

-- ---- frames

sound-method : (n : ℕ) (m : AnyMethod) (answers : List ProviderAnswer) (t : Talk) → is_open t ≡ true → is_acting t.input ≡ true → IsSound t → IsSound (method_rule n m answers t)
sound-method zero m answers t opened acting s =
    if_case IsSound (is_of_a_channel m) (misplaced (stray_channel_frame RawMethod) t) (connection_rule t.state t.phase m answers t)
    (sound-misplaced (stray_channel_frame RawMethod) t s) (sound-connection t.state t.phase m answers t refl refl opened acting s)
sound-method (suc n) m answers t opened acting s =
    if_case IsSound (is_of_a_channel m) (channel_method (suc n) m t) (misplaced (stray_connection_method (suc n)) t)
    (sound-channel-by (heard_on t.state (channel_at (suc n) t)) (suc n) m t refl opened acting s) (sound-misplaced (stray_connection_method (suc n)) t s)

sound-rule : (f : Frame) (answers : List ProviderAnswer) (t : Talk) → is_open t ≡ true → is_acting t.input ≡ true → IsSound t → IsSound (frame_rule f answers t)
sound-rule (ProtocolHeader version) answers t opened acting s = sound-fail (InvalidProtocolVersion version) t s
sound-rule Heartbeat answers t opened acting s = s
sound-rule (Method n m) answers t opened acting s = sound-method n m answers t opened acting s
sound-rule (Raw zero kind bytes) answers t opened acting s = sound-misplaced (stray_channel_frame kind) t s
sound-rule (Raw (suc n) kind bytes) answers t opened acting s = sound-raw (heard_on t.state (channel_at (suc n) t)) (suc n) kind bytes t refl s

sound-closed-rule : (f : Frame) (t : Talk) → IsSound t → IsSound (closed_rule f t)
sound-closed-rule (Method zero (Blocked reason)) t s = record { link = s.link; room = s.room; acting = s.acting; finish = s.finish; listed = s.listed; promises = s.promises; answers = s.answers; channels = s.channels }
sound-closed-rule (Method zero Unblocked) t s = record { link = s.link; room = s.room; acting = s.acting; finish = s.finish; listed = s.listed; promises = s.promises; answers = s.answers; channels = s.channels }
sound-closed-rule f t s = s

pub sound-frame : (f : Frame) (answers : List ProviderAnswer) (t : Talk) → IsSound t → IsSound (on_frame f answers t)
sound-frame f answers t s =
    if_by IsSound (acts t) (frame_rule f answers t) (if hears_on t then closed_rule f t else t)
    (λ h. sound-rule f answers t (and-left (is_open t) (is_acting t.input) h) (and-right (is_open t) (is_acting t.input) h) s)
    (λ h. if_case IsSound (hears_on t) (closed_rule f t) t (sound-closed-rule f t s) s)
