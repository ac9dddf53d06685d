-- For how long a link may last without what is waited for on it. Moments and times are in milliseconds.
use Rattle.std.specs.Prelude.{ℕ, ◌-◌, nat_le, Bool, true, false, ◌&&◌, not, if◌then◌else◌, Option, Some, None}
use Rattle.amqp_socket.specs.declared.watch.Standing.{Standing}
use Rattle.amqp_socket.specs.declared.watch.Standing.TheVariants.{Opening, Closing}
use Rattle.amqp_socket.specs.declared.watch.Cause.{Cause}
use Rattle.amqp_socket.specs.declared.watch.Cause.TheVariants.{NotOpened, NotClosed, Silent}
use Rattle.amqp_socket.specs.declared.limits.Limits.{Limits}

-- a session closes its connection
abbrev pub is_to_close : Standing → Bool
is_to_close Closing = true
is_to_close _ = false

-- a session is seen to stand so: where it begins to close, its time is counted from now on
abbrev pub noted : Standing → ℕ → Limits → Limits
noted standing at l =
    record l {
      standing = standing;
      closing_at = if is_to_close standing && not (is_to_close l.standing) then at else l.closing_at;
    }

-- so much time went by since a moment, or more
abbrev pub has_gone_by : ℕ → ℕ → ℕ → Bool
has_gone_by time since now = nat_le time (now - since)

-- the other end was silent for longer than it may, where that is bounded
abbrev pub silence_breach_by : Option ℕ → ℕ → ℕ → Option Cause
silence_breach_by None heard now = None
silence_breach_by (Some silence) heard now = if has_gone_by silence heard now then Some Silent else None

-- the same of a link
abbrev pub silence_breach : Limits → ℕ → Option Cause
silence_breach l now = silence_breach_by l.silence l.heard_at now

-- a connection is opened for 10 seconds, counted from the link, or closed for 10 seconds, or the other end is silent
abbrev pub breach_by : Standing → Limits → ℕ → Option Cause
breach_by Opening l now = if has_gone_by 10000 l.linked_at now then Some NotOpened else silence_breach l now
breach_by Closing l now = if has_gone_by 10000 l.closing_at now then Some NotClosed else silence_breach l now
breach_by _ l now = silence_breach l now

-- why a link is given up, where it is
abbrev pub breach : Limits → ℕ → Option Cause
breach l now = breach_by l.standing l now
