-- Links: that one is asked for, comes or does not come, gives bytes, and ends.
use Rattle.std.specs.Prelude.{ℕ, if◌then◌else◌, false, [], Option, Some, None}
use Rattle.amqp_outbox.specs.Items.{plain_item}
use Rattle.amqp_outbox.specs.Queued.{only}
use Rattle.amqp_promise.specs.declared.state.ConnectionState.TheVariants.{Connecting}
use Rattle.amqp_rules.specs.declared.state.Phase.TheVariants.{AwaitStart}
use Rattle.amqp_rules.specs.declared.state.Link.{Link}
use Rattle.amqp_rules.specs.declared.state.Link.TheVariants.{Wanted, Asked, Open}
use Rattle.amqp_rules.specs.declared.state.Input.{Input}
use Rattle.amqp_rules.specs.declared.state.Input.TheVariants.{Acting, Closed, Dropped}
use Rattle.amqp_promise.specs.declared.io_fault.IoFault.{IoFault}
use Rattle.amqp_promise.specs.declared.io_fault.IoFault.TheVariants.{Refused}
use Rattle.amqp_promise.specs.declared.error.ErrorKind.{ErrorKind}
use Rattle.amqp_promise.specs.declared.error.ErrorKind.TheVariants.{IOError}
use Rattle.amqp_violations.specs.declared.misread.Misread.{Misread}
use Rattle.amqp_rules.specs.Talk.{Talk, is_asked, is_open, acts}
use Rattle.amqp_settings.specs.Handshake.{protocol_header}
use Rattle.amqp_violations.specs.Violations.{misread_error}
use Rattle.amqp_rules.specs.Recovery.{next_delay, delayed}
use Rattle.amqp_rules.specs.Changes.{fail, lose, finish}

-- a link that is wanted is asked for
abbrev pub asked_link : Link ErrorKind → Link ErrorKind
asked_link Wanted = Asked
asked_link link = link

-- the link that is wanted is asked for
abbrev pub asked : Talk → Talk
asked t = record t { link = asked_link t.link }

-- the link that was asked for is there: nothing but the protocol header is to be written on it, and its frames act
abbrev pub linked : Talk → Talk
linked t =
    if is_asked t
    then record t {
      state = Connecting;
      phase = AwaitStart;
      link = Open;
      input = Acting;
      blocked = false;
      outbox = only (plain_item 0 protocol_header);
      committed = [];
      last_read = t.present;
      last_write = t.present;
      refreshing = false;
    }
    else t

-- the link that was asked for is refused, by the delay that is next: where none is left, that is the end
abbrev pub refused_after : Option ℕ → Talk → Talk
refused_after (Some delay) t = delayed delay t
refused_after None t = fail (IOError Refused) t

-- the link that was asked for is refused
abbrev pub link_failed : Talk → Talk
link_failed t = if is_asked t then refused_after (next_delay t) t else t

-- bytes were read on the open link
abbrev pub piece : Talk → Talk
piece t = if is_open t then record t { last_read = t.present } else t

-- no more is read of the link of a session that the server closed
abbrev pub dropped : Input → Input
dropped (Closed crossed) = Dropped crossed
dropped input = input

-- what was read on the open link is no frame: it is fatal, but after the server's close no more of the link is read
abbrev pub misread : Misread → Talk → Talk
misread why t =
    if acts t then lose (misread_error why) t
    else if is_open t then record t { input = dropped t.input }
    else t

-- the open link is lost: that is a fault, but after the server's close the session finishes
abbrev pub lost : IoFault → Talk → Talk
lost fault t =
    if acts t then lose (IOError fault) t
    else if is_open t then finish t
    else t
