-- Memory: for which changes by what is read it is taken.
use Rattle.std.specs.Prelude.{◌≡◌, ◌≢◌, ℕ, Bool, false, IsTrue, IsFalse, Option, Some, None, Result, Err}
use Rattle.amqp_promise.specs.declared.error.ErrorKind.{ErrorKind}
use Rattle.amqp_channels.specs.declared.channels.Channel.{Channel}
use Rattle.amqp_promise.specs.declared.state.ConnectionState.TheVariants.{Reconnecting}
use Rattle.amqp_rules.specs.Channels.{channel_at}
use Rattle.amqp_channels.specs.Channels.{is_owed}
use Rattle.amqp_rules.specs.Talk.{Talk, is_acting, is_open, end_of}
use Rattle.amqp_violations.specs.Violations.{has_text}

-- an end by such an error
abbrev pub end_has_text : Option (Result (Unit {0}) ErrorKind) → Bool
end_has_text (Some (Err e)) = has_text e
end_has_text _ = false

-- our close-ok is owed on a channel
abbrev pub owes_on : Option Channel → Bool
owes_on None = false
owes_on (Some c) = is_owed c.debt

-- our close-ok is owed on the listed channel of a number
abbrev pub owes : ℕ → Talk → Bool
owes n t = owes_on (channel_at n t)

-- what is read makes nothing for which memory is taken: no frame that will be said, no frame that is handed out, no
-- event, no text of an error by which a session ends, and no loss from which it recovers
pub record MakesNothing (before after : Talk) : Type 0 where
  -- the same frames wait to be said
  pub control : after.outbox.control ≡ before.outbox.control
  -- no close-ok is owed on a channel that was not
  pub owed : (n : ℕ) → IsTrue (owes n after) → IsTrue (owes n before)
  -- the same frames are handed out
  pub handed : after.handed ≡ before.handed
  -- the same events are kept
  pub events : after.noted.events ≡ before.noted.events
  -- the server did not close, whose error is kept, and which is answered
  pub input : is_acting after.input ≡ is_acting before.input
  -- the link was not lost by an error from which the session recovers
  pub link : IsTrue (is_open before) → after.state ≢ Reconnecting
  -- the open session did not end with an error that has a text
  pub end : IsTrue (is_open before) → IsFalse (end_has_text (end_of after))
