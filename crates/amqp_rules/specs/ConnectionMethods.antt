-- Methods of the connection class (AMQP 0-9-1, 1.4 of its reference), on channel 0.
use Rattle.std.specs.Prelude.{ℕ, nat_le, if◌then◌else◌, true, false, List, [], ◌∷◌, Option, Some, None, Result, Ok, Err}
use Rattle.amqp_frame.specs.declared.method.Method.{Method}
use Rattle.amqp_frame.specs.declared.method.Method.TheVariants.{Start, Secure, Tune, OpenOk, Close, CloseOk, Blocked, Unblocked, UpdateSecretOk}
use Rattle.amqp_outbox.specs.declared.reply.Reply.TheVariants.{ChannelOpened, SecretDone, ConnectionClosed}
use Rattle.amqp_outbox.specs.Items.{plain_item}
use Rattle.amqp_outbox.specs.Queued.{only, awaited_promise, without_awaited}
use Rattle.amqp_promise.specs.declared.state.ConnectionState.{ConnectionState}
use Rattle.amqp_promise.specs.declared.state.ConnectionState.TheVariants.{Connecting, Connected, Closing}
use Rattle.amqp_rules.specs.declared.state.Phase.{Phase}
use Rattle.amqp_rules.specs.declared.state.Phase.TheVariants.{AwaitStart, AwaitTune, AwaitOpenOk}
use Rattle.amqp_rules.specs.declared.state.Input.TheVariants as input
use Rattle.amqp_settings.specs.declared.configuration.Configuration.{Configuration}
use Rattle.amqp_channels.specs.declared.channels.Channel.{Channel}
use Rattle.amqp_answers.specs.declared.answer.Answer.TheVariants.{Connected as AnswerConnected, Done}
use Rattle.amqp_promise.specs.declared.error.ErrorKind.TheVariants.{InvalidConnectionState, AuthProviderError}
use Rattle.amqp_auth.specs.declared.asked.Asked.{Asked}
use Rattle.amqp_auth.specs.declared.asked.Asked.TheVariants as answer
use Rattle.amqp_promise.specs.Shown.{shown}
use Rattle.amqp_answers.specs.declared.event.Event.TheVariants as event
use Rattle.amqp_rules.specs.Talk.{Talk, is_closing}
use Rattle.amqp_settings.specs.Negotiation.{tune}
use Rattle.amqp_rules.specs.Negotiation.{grown_capacity}
use Rattle.amqp_settings.specs.Handshake.{start_ok, secure_ok, tune_ok, open_vhost, close_ok, channel_open}
use Rattle.amqp_violations.specs.Violations.{closed_with}
use Rattle.amqp_rules.specs.ChannelMethods.{remove_channel}
use Rattle.amqp_rules.specs.Changes.{queue, await, give, give_to, note, close, lose}

-- any other method, and one of these out of its state, is fatal
abbrev pub unexpected_connection_method : ConnectionState → Talk → Talk
unexpected_connection_method held t = lose (InvalidConnectionState held) t

-- ---- the handshake

-- start, with the mechanism that the provider named, and what it says first: the client names itself and logs in,
-- whatever the server offers; where the provider refused, that is fatal
abbrev pub started : List ℕ → Result (List ℕ) (List ℕ) → Talk → Talk
started mechanism (Ok response) t =
    record (queue 0 (start_ok t.config.options mechanism response) t) { phase = AwaitTune }
started mechanism (Err text) t = lose (AuthProviderError text) t

-- start, with what the provider answers: its mechanism, then what it says first
abbrev pub on_start : List Asked → Talk → Talk
on_start (answer.Mechanism mechanism ∷ answer.Starter said ∷ later) t = started mechanism said t
on_start _ t = t

-- a challenge, with what the provider answers to it: that is said; where the provider refused, that is fatal
abbrev pub challenged : Result (List ℕ) (List ℕ) → Talk → Talk
challenged (Ok response) t = queue 0 (secure_ok response) t
challenged (Err text) t = lose (AuthProviderError text) t

-- a challenge, with what the provider answers
abbrev pub on_secure : List Asked → Talk → Talk
on_secure (answer.Challenge said ∷ later) t = challenged said t
on_secure _ t = t

-- tune: the numbers are agreed, and the virtual host is opened
abbrev pub on_tune : Configuration → Talk → Talk
on_tune server t =
    let agreed = tune t.configuration server in
    record (queue 0 (open_vhost t.config.uri.vhost) (queue 0 (tune_ok agreed) t)) {
      configuration = agreed;
      phase = AwaitOpenOk;
    }

-- the connection is open, which is told, its promise is answered, more can be unsent, where longer frames were agreed,
-- from now on the secret is valid, and all delays are left again
abbrev pub connected : Talk → Talk
connected t =
    record (note event.Connected (give 0 (Ok AnswerConnected) t)) {
      state = Connected;
      capacity = grown_capacity t;
      secret_at = t.present;
      tried = 0;
    }

-- a channel that was kept is opened again, without a promise; one above the greatest number that is agreed goes
abbrev pub reopen : ℕ → Talk → Talk
reopen n t =
    if nat_le n t.configuration.channel_max
    then await n ChannelOpened None (queue n (channel_open n) t)
    else remove_channel n t

-- the channels that were kept are opened again, in the order of their numbers
abbrev pub reopen_each : List (ℕ × Channel) → Talk → Talk
reopen_each [] t = t
reopen_each (c ∷ cs) t = reopen_each cs (reopen c.0 t)

-- open-ok: the connection is open, and the channels that were kept are opened again
abbrev pub on_open_ok : Talk → Talk
on_open_ok t = reopen_each t.channels (connected t)

-- ---- blocking (an extension of RabbitMQ)

-- blocked: nothing more is written, and the reason is told
abbrev pub on_blocked : List ℕ → Talk → Talk
on_blocked reason t = note (event.ConnectionBlocked (shown reason)) (record t { blocked = true })

-- unblocked: writing goes on, which is told
abbrev pub on_unblocked : Talk → Talk
on_unblocked t = note event.ConnectionUnblocked (record t { blocked = false })

-- ---- a new secret (an extension of RabbitMQ)

-- update-secret-ok, by the promise of what awaits it, which is answered; a refresh, which has none, is done, and from
-- now on its secret is valid; where nothing awaits it, it is fatal
abbrev pub secret_taken : Option (Option ℕ) → Talk → Talk
secret_taken None t = unexpected_connection_method Connected t
secret_taken (Some None) t =
    record t { outbox = without_awaited 0 SecretDone t.outbox; secret_at = t.present; refreshing = false }
secret_taken (Some (Some number)) t =
    give number (Ok Done) (record t { outbox = without_awaited 0 SecretDone t.outbox })

-- update-secret-ok: the server took the first new secret that it did not answer yet
abbrev pub on_update_secret_ok : Talk → Talk
on_update_secret_ok t = secret_taken (awaited_promise 0 SecretDone t.outbox) t

-- ---- closing

-- the server closes: what waits and what is awaited is dropped, close-ok is the last that is said, and no frame acts
-- any more
abbrev pub on_connection_close : ℕ → List ℕ → Talk → Talk
on_connection_close code text t =
    record t {
      state = Closing;
      input = input.Closed (is_closing t.state);
      server_close = Some (closed_with code text);
      outbox = only (plain_item 0 close_ok);
    }

-- close-ok after our close, by the promise of what awaits it
abbrev pub connection_closed : Option (Option ℕ) → Talk → Talk
connection_closed None t = close t
connection_closed (Some promise) t =
    close (give_to promise (Ok Done) (record t { outbox = without_awaited 0 ConnectionClosed t.outbox }))

-- close-ok: our close is answered, and the session ends Closed
abbrev pub on_connection_close_ok : Talk → Talk
on_connection_close_ok t = connection_closed (awaited_promise 0 ConnectionClosed t.outbox) t

-- ---- the table: the first row that fits

-- a method of the connection class, by the state and by what the handshake awaits, with what the provider answers
abbrev pub connection_rule : ConnectionState → Phase → Method → List Asked → Talk → Talk
connection_rule state phase (Close code text class method) answers t = on_connection_close code text t
connection_rule state phase (Blocked reason) answers t = on_blocked reason t
connection_rule state phase Unblocked answers t = on_unblocked t
connection_rule Closing phase CloseOk answers t = on_connection_close_ok t
-- what else comes after our close is dropped
connection_rule Closing phase method answers t = t
connection_rule Connecting AwaitStart (Start major minor properties mechanisms locales) answers t = on_start answers t
connection_rule Connecting AwaitTune (Secure challenge) answers t = on_secure answers t
connection_rule Connecting AwaitTune (Tune channel_max frame_max heartbeat) answers t =
    on_tune (record { channel_max = channel_max; frame_max = frame_max; heartbeat = heartbeat }) t
connection_rule Connecting AwaitOpenOk OpenOk answers t = on_open_ok t
connection_rule Connected phase UpdateSecretOk answers t = on_update_secret_ok t
connection_rule held phase method answers t = unexpected_connection_method held t
