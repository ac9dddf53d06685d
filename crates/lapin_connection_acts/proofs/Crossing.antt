-- What of a story threads may share, and what may go from one to another.
use denote.Param.Send.{IsSend, IsSync, sendable}
use denote.Ref.{NamedLft}
use denote.Param.SendFields.{declared_send, declared_sync}
use Rattle.std.proofs.Crossing.{Arc-send, Arc-sync, crosses}
use Rattle.std.proofs.option.Option.TheSendSync.{the_field_sync as option_sync}
use Rattle.amqp_hub.proofs.marks.DropMark.TheSendSync.{the_send as mark_send, the_sync as mark_sync}
use Rattle.amqp_hub.proofs.hub.Pass.TheSendSync.{the_send as pass}
use Rattle.lapin_connection.specs.contracts.shared.Shared.{the_row as shared_row}
use Rattle.lapin_connection.specs.contracts.connection.Connection as Connection
use Rattle.lapin_connection.specs.contracts.channel.Channel as Channel
use Rattle.lapin_connection.proofs.Sharing.{shared_send, shared_sync}
use Rattle.lapin_connection_acts.proofs.gate.Gate.TheSendSync.{the_sync as gate_sync}
use Rattle.lapin_connection_acts.specs.contracts.hand.Hand.{the_row as hand_row}
use Rattle.lapin_connection_acts.specs.contracts.hand.Stage as Stage

pub connection_sync : IsSync Connection.the_row
connection_sync = declared_sync Connection.the_type (search (sendable, Arc-sync shared_row shared_send shared_sync, crosses) depth 8, (mark_sync, tt))

pub connection_send : IsSend Connection.the_row
connection_send = declared_send Connection.the_type (search (sendable, Arc-send shared_row shared_send shared_sync, crosses) depth 8, (mark_send, tt))

pub channel_send : IsSend Channel.the_row
channel_send = declared_send Channel.the_type (search (sendable, Arc-send shared_row shared_send shared_sync, crosses) depth 8, (search sendable, (search sendable, (mark_send, tt))))

pub hand : IsSend hand_row
hand = search (sendable, connection_send, channel_send, pass, crosses) depth 20

pub stage : (κ : NamedLft) → IsSync (Stage.the_row κ)
stage κ = search (sendable, connection_sync, gate_sync, option_sync) depth 12
