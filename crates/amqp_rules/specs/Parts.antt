-- Parts of the state and of the rules, as the code takes them.
use Rattle.std.specs.Prelude.{ℕ, zero, ◌&&◌, if◌then◌else◌, Bool, true, false, Option, Some, None, Result, Ok, Err}
use Rattle.amqp_frame.specs.declared.frame.Frame.{Frame}
use Rattle.amqp_frame.specs.declared.frame.Frame.TheVariants.{Method}
use Rattle.amqp_frame.specs.declared.method.Method.TheVariants.{OpenOk}
use Rattle.amqp_promise.specs.declared.state.ConnectionState.{ConnectionState}
use Rattle.amqp_promise.specs.declared.state.ConnectionState.TheVariants.{Connecting}
use Rattle.amqp_rules.specs.declared.state.Phase.{Phase}
use Rattle.amqp_rules.specs.declared.state.Phase.TheVariants.{AwaitOpenOk}
use Rattle.amqp_rules.specs.declared.state.Link.{Link}
use Rattle.amqp_rules.specs.declared.state.Link.TheVariants.{Wanted, Due, Asked, Open, Ended}
use Rattle.amqp_rules.specs.declared.state.End.{End}
use Rattle.amqp_rules.specs.declared.state.End.TheVariants.{ByServer, Failed}
use Rattle.amqp_violations.specs.declared.server_close.ServerClose.{ServerClose}
use Rattle.amqp_violations.specs.declared.server_close.ServerClose.TheVariants.{WithError}
use Rattle.amqp_outgoing.specs.declared.committed.Mark.{Mark}
use Rattle.amqp_promise.specs.declared.error.ErrorKind.{ErrorKind}
use Rattle.amqp_promise.specs.declared.error.ErrorKind.TheVariants.{ProtocolError}
use Rattle.amqp_rules.specs.Talk.{Talk, is_open, acts}
use Rattle.amqp_rules.specs.Negotiation.{grown_capacity}
use Rattle.amqp_outgoing.specs.Marks.{first_among, after_first}

-- ---- how a session ended

-- the server closed with an error
abbrev pub is_with_error : Option ServerClose → Bool
is_with_error (Some (WithError e)) = true
is_with_error _ = false

-- how a session ends after the server's close, by how it closed
abbrev pub ended_by : Option ServerClose → Result (Unit {0}) ErrorKind
ended_by (Some (WithError e)) = Err (ProtocolError e)
ended_by _ = Ok tt

-- how a session ended, from what is kept of its end and of the server's close
abbrev pub ended_as : Option ServerClose → End → Result (Unit {0}) ErrorKind
ended_as told ByServer = ended_by told
ended_as told (Failed e) = Err e

-- where a session stands with its link: the end by the server's close is told by that close
abbrev pub link_seen : Option ServerClose → Link End → Link ErrorKind
link_seen told (Due moment) = Due moment
link_seen told Wanted = Wanted
link_seen told Asked = Asked
link_seen told Open = Open
link_seen told (Ended (Ok closed)) = Ended (Ok closed)
link_seen told (Ended (Err how)) = Ended (ended_as told how)

-- ---- one committed frame at a time

-- the first frame that is sent by the next n bytes, while the link is open
abbrev pub first_sent : ℕ → Talk → Option Mark
first_sent n t = if is_open t then first_among n t.committed else None

-- the state without it, or without n of its bytes
abbrev pub after_sent : ℕ → Talk → Talk
after_sent n t = if is_open t then record t { committed = after_first n t.committed } else t

-- ---- the capacity once a frame was read

-- open-ok of the connection
abbrev pub is_open_ok : Frame → Bool
is_open_ok (Method zero OpenOk) = true
is_open_ok _ = false

-- open-ok is awaited
abbrev pub awaits_open_ok : ConnectionState → Phase → Bool
awaits_open_ok Connecting AwaitOpenOk = true
awaits_open_ok _ _ = false

-- a frame that opens the connection
abbrev pub is_opening_frame : Frame → ConnectionState → Phase → Bool
is_opening_frame f state phase = is_open_ok f && awaits_open_ok state phase

-- how many bytes can be unsent once a frame was read: more, where it opens the connection
abbrev pub capacity_after : Frame → Talk → ℕ
capacity_after f t = if acts t && is_opening_frame f t.state t.phase then grown_capacity t else t.capacity
