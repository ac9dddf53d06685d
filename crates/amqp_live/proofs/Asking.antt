-- A connection that has begun to a text has asked for a port to its address.
use Rattle.std.proofs.Common.{Option, Result, Ok, Err, IfOk, OnOk}
use Rattle.amqp_promise.specs.declared.error.ErrorKind.{ErrorKind}
use Rattle.amqp_settings.specs.Config.{Options}
use Rattle.amqp_uri.specs.declared.fault.UriFault.{UriFault}
use Rattle.amqp_uri.specs.declared.uri.AMQPUri.{AMQPUri}
use Rattle.lapin_connection.specs.declared.connection.Connection.{Connection}
use Rattle.lapin_connection.specs.Connecting.{HasBegunBy}
use Rattle.amqp_live.specs.Ends.{AsksFor}

begun-asks : (asked : Option AMQPUri) (known : Result AMQPUri UriFault) (o : Options) (c : Connection) → HasBegunBy asked known o c
    → AsksFor known asked
begun-asks asked (Ok uri) o c h = h.0
begun-asks asked (Err fault) o c h = h

pub asks_for : (asked : Option AMQPUri) (known : Result AMQPUri UriFault) (o : Options) (r : Result Connection ErrorKind)
    → IfOk r (HasBegunBy asked known o) → OnOk r (AsksFor known asked)
asks_for asked known o (Ok c) h = begun-asks asked known o c h
asks_for asked known o (Err e) h = tt
