-- Recovery: when a session whose link is lost goes on, how long it waits for another, and what it keeps.
use Rattle.std.specs.Prelude.{ℕ, ◌+◌, ◌-◌, ◌^◌, min, not, ◌&&◌, if◌then◌else◌, Bool, true, false, [], Option, None, slice_get}
use Rattle.amqp_outbox.specs.Queued.{nothing_queued}
use Rattle.amqp_promise.specs.declared.state.ConnectionState.{ConnectionState}
use Rattle.amqp_promise.specs.declared.state.ConnectionState.TheVariants.{Connecting, Connected, Closing, Reconnecting}
use Rattle.amqp_rules.specs.declared.state.Link.TheVariants.{Due}
use Rattle.amqp_rules.specs.declared.state.Input.{Input}
use Rattle.amqp_rules.specs.declared.state.Input.TheVariants.{Acting, Closed, Dropped}
use Rattle.amqp_promise.specs.declared.error.ErrorKind.{ErrorKind}
use Rattle.amqp_promise.specs.Kinds.{can_be_recovered}
use Rattle.amqp_rules.specs.Talk.{Talk, is_open}
use Rattle.amqp_answers.specs.Events.{forgotten}
use Rattle.amqp_channels.specs.Kept.{kept}
use Rattle.amqp_answers.specs.Settled.{rejected_all}

-- ---- delays

-- the delay that is next, where one is left
abbrev pub next_delay : Talk → Option ℕ
next_delay t = slice_get t.config.options.delays t.tried

-- no link is wanted until a delay is over, at a moment that is at most the greatest number of 64 bits
abbrev pub delayed : ℕ → Talk → Talk
delayed delay t = record t { link = Due (min (t.present + delay) (2 ^ 64 - 1)); tried = t.tried + 1 }

-- ---- when the session goes on

-- the server closed, and we had not closed before
abbrev pub is_uncrossed : Input → Bool
is_uncrossed Acting = false
is_uncrossed (Closed crossed) = not crossed
is_uncrossed (Dropped crossed) = not crossed

-- the connection is being opened or is open, or it was when the server closed it
abbrev pub was_up : ConnectionState → Input → Bool
was_up Connecting input = true
was_up Connected input = true
was_up Closing input = is_uncrossed input
was_up _ input = false

-- the session may go on where its link is lost: its user wants it to, and the connection on the open link was up
abbrev pub may_reconnect : Talk → Bool
may_reconnect t = t.config.options.recover && (is_open t && was_up t.state t.input)

-- how long the session then waits for another link, where it may go on and a delay is left
abbrev pub reconnect_delay : Talk → Option ℕ
reconnect_delay t = if may_reconnect t then next_delay t else None

-- the same, where the link is lost by this error: none where another link may not serve
abbrev pub recovery_delay : ErrorKind → Talk → Option ℕ
recovery_delay e t = if can_be_recovered e then reconnect_delay t else None

-- ---- what it keeps

-- the link is lost, and the session waits for another: what waited or was committed is dropped with its link, each
-- promise that waits, but that of the connection, gets the error, and the channels that were open stay listed
abbrev pub reconnect : ErrorKind → ℕ → Talk → Talk
reconnect e delay t =
    record (delayed delay t) {
      state = Reconnecting;
      blocked = false;
      outbox = nothing_queued;
      committed = [];
      channels = kept t.channels;
      promises = rejected_all e t.promises;
      server_close = None;
      noted = forgotten t.noted;
    }
