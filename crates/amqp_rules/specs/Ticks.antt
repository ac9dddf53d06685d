-- Time: heartbeats that are missed, and those that are due (AMQP 0-9-1, 4.2.7), secrets that expire (an extension of
-- RabbitMQ), and links that are due. Moments and validity are in milliseconds, and the agreed interval is in seconds.
use Rattle.std.specs.Prelude.{ℕ, ◌*◌, ◌-◌, ◌==◌, ◌&&◌, not, nat_lt, nat_le, if◌then◌else◌, Bool, true, false, List, [], ◌∷◌, Option, Some, None, Result, Ok, Err}
use Rattle.amqp_frame.specs.declared.frame.Frame.TheVariants.{Heartbeat}
use Rattle.amqp_promise.specs.declared.state.ConnectionState.{ConnectionState}
use Rattle.amqp_promise.specs.declared.state.ConnectionState.TheVariants.{Connected}
use Rattle.amqp_promise.specs.declared.error.ErrorKind.TheVariants.{MissingHeartbeatError}
use Rattle.amqp_auth.specs.declared.asked.Question.{Question}
use Rattle.amqp_auth.specs.declared.asked.Question.TheVariants as question
use Rattle.amqp_auth.specs.declared.asked.Asked.{Asked}
use Rattle.amqp_auth.specs.declared.asked.Asked.TheVariants as answer
use Rattle.amqp_outbox.specs.declared.reply.Reply.TheVariants.{SecretDone}
use Rattle.amqp_rules.specs.declared.state.Link.{Link}
use Rattle.amqp_rules.specs.declared.state.Link.TheVariants.{Wanted, Due}
use Rattle.amqp_promise.specs.declared.error.ErrorKind.{ErrorKind}
use Rattle.amqp_rules.specs.Talk.{Talk}
use Rattle.amqp_settings.specs.Handshake.{new_secret, refresh_reason}
use Rattle.amqp_rules.specs.Changes.{queue, await, lose}

-- the state is Connected
abbrev pub is_connected : ConnectionState → Bool
is_connected Connected = true
is_connected _ = false

-- heartbeats are exchanged: the connection is open, and an interval was agreed
abbrev pub beats : Talk → Bool
beats t = is_connected t.state && not (t.configuration.heartbeat == 0)

-- nothing was read for more than two intervals
abbrev pub is_missed : Talk → Bool
is_missed t = beats t && nat_lt (t.configuration.heartbeat * 2000) (t.present - t.last_read)

-- nothing was written for more than half an interval
abbrev pub is_heartbeat_due : Talk → Bool
is_heartbeat_due t = beats t && nat_lt (t.configuration.heartbeat * 500) (t.present - t.last_write)

-- where the server is silent for too long, the link is of no more use
abbrev pub missing_heartbeat : Talk → Talk
missing_heartbeat t = if is_missed t then lose MissingHeartbeatError t else t

-- where we are silent for long, a heartbeat is to go out, which counts as written at once
abbrev pub heartbeat_due : Talk → Talk
heartbeat_due t = if is_heartbeat_due t then record (queue 0 Heartbeat t) { last_write = t.present } else t

-- ---- a secret that expires

-- the provider is asked how long the secret is valid: the connection is open, and no refresh is told that the server
-- did not answer yet
abbrev pub asks_validity : Talk → Bool
asks_validity t = is_connected t.state && not t.refreshing

-- the secret is valid for so long, where that is known, and no longer
abbrev pub has_expired : Option ℕ → Talk → Bool
has_expired None t = false
has_expired (Some time) t = nat_le time (t.present - t.secret_at)

-- the provider has a new secret: it is told, and its reply is awaited without a promise; where it has none, the old one
-- counts as valid from now on
abbrev pub refreshed : Result (List ℕ) (List ℕ) → Talk → Talk
refreshed (Ok secret) t =
    record (await 0 SecretDone None (queue 0 (new_secret secret refresh_reason) t)) { refreshing = true }
refreshed (Err text) t = record t { secret_at = t.present }

-- a secret that has expired is refreshed, with what the provider answers
abbrev pub refresh : List Asked → Talk → Talk
refresh (answer.Refreshed said ∷ later) t = refreshed said t
refresh _ t = t

-- how long the secret is valid, with what the provider answers
abbrev pub validity_told : List Asked → Talk → Talk
validity_told (answer.ValidFor time ∷ later) t = if has_expired time t then refresh later t else t
validity_told _ t = t

-- where a secret has expired, it is refreshed
abbrev pub secret_due : List Asked → Talk → Talk
secret_due answers t = if asks_validity t then validity_told answers t else t

-- ---- a link that is due

-- a link is wanted once its delay is over
abbrev pub link_at : ℕ → Link ErrorKind → Link ErrorKind
link_at now (Due moment) = if nat_le moment now then Wanted else Due moment
link_at now link = link

-- where the delay of a link is over, one is wanted
abbrev pub link_due : Talk → Talk
link_due t = record t { link = link_at t.present t.link }

-- ---- a tick

-- what is due first: a server that is silent for too long, and a heartbeat
abbrev pub beat : Talk → Talk
beat t = heartbeat_due (missing_heartbeat t)

-- and what is due of the secret, with what the provider answers to what is asked then
abbrev pub timed : List Asked → Talk → Talk
timed answers t = secret_due answers (beat t)

-- time goes by
abbrev pub tick : List Asked → Talk → Talk
tick answers t = link_due (timed answers t)

-- ---- what is asked of the provider

-- a new secret is asked for where the old one has expired
abbrev pub refresh_questions : List Asked → Talk → List Question
refresh_questions (answer.ValidFor time ∷ later) t = if has_expired time t then question.Refresh ∷ [] else []
refresh_questions _ t = []

-- what is asked of a secret, by what is answered to the first question
abbrev pub secret_questions : List Asked → Talk → List Question
secret_questions answers t =
    if asks_validity t then question.ValidFor ∷ refresh_questions answers t else []

-- what a tick asks, by what is answered to the first question
abbrev pub tick_questions : List Asked → Talk → List Question
tick_questions answers t = secret_questions answers (beat t)
