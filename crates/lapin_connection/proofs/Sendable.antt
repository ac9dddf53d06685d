-- A hub may cross threads, and so may all that it is made of.
use denote.Param.Send.{IsSend, IsSync, AllSend, EachSend, struct_send, sendable, recorded_send, enum_send}
use denote.Enum.Enum.{Enum}
use denote.Struct.Struct.{Struct}
use denote.Struct.Declared.{shape as shape_of}
use Rattle.amqp_session.specs.contracts.session.Session.TheInside.{the_type as inside_type}
use denote.Enum.Declared.{shape}
use Rattle.std.proofs.Crossing.{crosses}
use Rattle.amqp_frame.specs.contracts.method.Method.{the_row as method_row, the_type as method_type}
use Rattle.amqp_frame.specs.contracts.frame.Frame.{the_row as frame_row, the_type as frame_type}
use Rattle.amqp_outbox.specs.contracts.item.Item.{the_row as item_row}
use Rattle.amqp_outbox.specs.contracts.group.Group.{the_row as group_row}
use Rattle.amqp_types.specs.contracts.value.FieldTable.{the_row as table_row}
use Rattle.amqp_types.proofs.value.FieldTable.TheLaws.TheKnot.{crosses as table_crosses}
use Rattle.amqp_types.proofs.strings.ShortString.TheSendSync.{the_send as short}
use Rattle.amqp_types.proofs.strings.LongString.TheSendSync.{the_send as long}
use Rattle.amqp_types.proofs.payload.Payload.TheSendSync.{the_send as payload}
use Rattle.amqp_types.proofs.version.ProtocolVersion.TheSendSync.{the_field_send as version}
use Rattle.amqp_frame.proofs.frame.RawKind.TheSendSync.{the_field_send as raw_kind}
use Rattle.std.proofs.option.Option.TheSendSync.{the_field_send as option_field}
use Rattle.std.proofs.alloc.Global.TheSendSync.{the_field_send as global_field}
use Rattle.amqp_outbox.proofs.lane.Lane.TheSendSync.{the_field_send as lane_field}
use Rattle.amqp_outbox.proofs.awaiting.Awaiting.TheSendSync.{the_field_send as awaiting_field}
use Rattle.amqp_outbox.proofs.tally.Tally.TheSendSync.{the_field_send as tally_field}
use Rattle.amqp_uri.proofs.uri.AMQPUri.TheSendSync.{the_field_send as uri_field}
use Rattle.amqp_promise.proofs.state.ConnectionState.TheSendSync.{the_field_send as state_field}
use Rattle.amqp_rules.proofs.state.Phase.TheSendSync.{the_field_send as phase_field}
use Rattle.amqp_rules.proofs.state.Link.TheSendSync.{the_field_send as link_field}
use Rattle.amqp_rules.proofs.state.Input.TheSendSync.{the_field_send as input_field}
use Rattle.amqp_rules.proofs.state.End.TheSendSync.{the_send as end}
use Rattle.amqp_settings.proofs.configuration.Configuration.TheSendSync.{the_field_send as configuration_field}
use Rattle.amqp_settings.proofs.capacity.Capacity.TheSendSync.{the_send as capacity}
use Rattle.amqp_channels.proofs.channels.Channels.TheSendSync.{the_send as channels}
use Rattle.amqp_outgoing.proofs.committed.Committed.TheSendSync.{the_field_send as committed_field}
use Rattle.amqp_answers.proofs.handed.Backlog.TheSendSync.{the_send as backlog}
use Rattle.amqp_answers.proofs.promises.Promises.TheSendSync.{the_field_send as promises_field}
use Rattle.amqp_violations.proofs.server_close.ServerClose.TheSendSync.{the_send as server_close}
use Rattle.amqp_answers.proofs.events.Events.TheSendSync.{the_field_send as events_field}
use Rattle.amqp_settings.specs.contracts.options.Options.{the_row as options_row}
use Rattle.amqp_session.specs.contracts.session.Session.{the_row as session_row}
use Rattle.amqp_session.specs.contracts.kept.Kept.{the_row as kept_row}
use Rattle.amqp_outbox.specs.contracts.outbox.Outbox.{the_field as outbox_is_field}
use Rattle.amqp_outgoing.specs.contracts.outgoing.Outgoing.{the_field as outgoing_is_field}
use Rattle.amqp_ring.proofs.buffer.Buffer.TheSendSync.{the_send as buffer}
use Rattle.amqp_types.proofs.payload.Payload64.TheSendSync.{the_send as numbers}
use Rattle.amqp_engine.proofs.record.Noted.TheSendSync.{the_field_send as noted_field}
use Rattle.amqp_journal.proofs.entry.Entry.TheSendSync.{the_send as entry}
use Rattle.amqp_engine.specs.contracts.kept_loop.KeptLoop.{the_row as kept_loop_row}
use Rattle.amqp_engine.specs.contracts.wire.Wire.{the_row as wire_row}
use Rattle.amqp_engine.specs.contracts.io_loop.IoLoop.{the_row as io_loop_row}
use Rattle.amqp_hub.specs.contracts.base.Base.{the_row as base_row}
use Rattle.amqp_hub.specs.contracts.hub.Hub.{the_row as hub_row}

pub table : IsSend table_row
table = search (sendable, crosses, table_crosses, short, long, payload)

each : EachSend (shape method_type).variants
each = (
  (search sendable, (search sendable, (table, (long, (long, tt))))),
  (
    (table, (short, (long, (short, tt)))),
    (
      (long, tt),
      (
        (long, tt),
        (
          (search sendable, (search sendable, (search sendable, tt))),
          (
            (search sendable, (search sendable, (search sendable, tt))),
            (
              (short, tt),
              (
                tt,
                (
                  (search sendable, (short, (search sendable, (search sendable, tt)))),
                  (
                    tt,
                    (
                      (short, tt),
                      (
                        tt,
                        (
                          (long, (short, tt)),
                          (
                            tt,
                            (
                              tt,
                              (
                                tt,
                                (
                                  (search sendable, tt),
                                  (
                                    (search sendable, tt),
                                    (
                                      (search sendable, (short, (search sendable, (search sendable, tt)))),
                                      (
                                        tt,
                                        tt,
                                      ),
                                    ),
                                  ),
                                ),
                              ),
                            ),
                          ),
                        ),
                      ),
                    ),
                  ),
                ),
              ),
            ),
          ),
        ),
      ),
    ),
  ),
)

pub method : IsSend (Enum (shape method_type))
method = enum_send (shape method_type) each

each_frame : EachSend (shape frame_type).variants
each_frame = ((version, tt), ((search sendable, (method, tt)), ((search sendable, (raw_kind, (payload, tt))), (tt, tt))))

pub frame_field : IsSend (Enum (shape frame_type))
frame_field = enum_send (shape frame_type) each_frame

pub frame : IsSend frame_row
frame = recorded_send (Enum (shape frame_type)) frame_type.D frame_type.to frame_type.to_one frame_field

pub item : IsSend item_row
item = search (sendable, frame_field, option_field) depth 9

pub group : IsSend group_row
group = search (sendable, item, crosses) depth 9

pub outbox_field : IsSend outbox_is_field.row
outbox_field = search (sendable, item, group, crosses, global_field, lane_field, awaiting_field, tally_field) depth 9

pub outgoing_field : IsSend outgoing_is_field.row
outgoing_field = search (sendable, outbox_field, committed_field) depth 9

pub options : IsSend options_row
options = search (sendable, crosses, short, table, option_field) depth 20

all_of_session : AllSend (shape_of inside_type).fields
all_of_session = (
  global_field,
  (
    uri_field,
    (
      options,
      (
        state_field,
        (
          phase_field,
          (
            search (sendable, link_field, end) depth 9,
            (
              input_field,
              (
                search sendable,
                (
                  configuration_field,
                  (
                    capacity,
                    (
                      channels,
                      (
                        outgoing_field,
                        (
                          backlog,
                          (
                            promises_field,
                            (
                              search (sendable, option_field, server_close) depth 9,
                              (
                                events_field,
                                (search sendable, (search sendable, (search sendable, (search sendable, (search sendable, (search sendable, tt)))))),
                              ),
                            ),
                          ),
                        ),
                      ),
                    ),
                  ),
                ),
              ),
            ),
          ),
        ),
      ),
    ),
  ),
)

inside : IsSend (Struct (shape_of inside_type))
inside = struct_send (shape_of inside_type) all_of_session

pub session : IsSend session_row
session = search (sendable, inside) depth 9

pub kept : IsSend kept_row
kept = search (sendable, session) depth 9

pub kept_loop : IsSend kept_loop_row
kept_loop = search (sendable, global_field, kept, payload, option_field) depth 20

pub wire : IsSend wire_row
wire = search (sendable, global_field, session, buffer, option_field) depth 20

pub io_loop : IsSend io_loop_row
io_loop = search (sendable, wire, crosses, noted_field) depth 12

pub base : IsSend base_row
base = search (sendable, kept_loop, numbers) depth 12

pub hub : IsSend hub_row
hub = search (sendable, global_field, io_loop, base, entry, crosses) depth 20
