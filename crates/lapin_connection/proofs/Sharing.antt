-- What the handles of a connection share may cross threads.
use denote.Param.Send.{IsSend, IsSync, AllSend, struct_send, recorded_send, sendable}
use denote.Struct.Declared.{shape as shape_of}
use Rattle.std.proofs.Crossing.{crosses}
use Rattle.std.proofs.alloc.Global.TheSendSync.{the_field_send as global_field, the_field_sync as global_sync}
use Rattle.std.proofs.option.Option.TheSendSync.{the_field_send as option_field, the_field_sync as option_sync}
use Rattle.std.proofs.sync.Condvar.TheSendSync.{the_field_send as condvar_field, the_field_sync as condvar_sync}
use Rattle.futures.proofs.task.source.Source.TheSendSync.{the_send as source_field, the_sync as source_sync}
use Rattle.amqp_hub.proofs.marks.Places.TheSendSync.{the_field_send as places_field}
use Rattle.amqp_hub.proofs.marks.Found.TheSendSync.{the_send as found}
use Rattle.amqp_hub.proofs.due.Owner.TheSendSync.{the_send as owner}
use Rattle.amqp_locked.proofs.backlog.Backlog.TheSendSync.{the_field_send as backlog_field}
use Rattle.amqp_locked.proofs.late.Late.TheSendSync.{the_send as late}
use Rattle.amqp_locked.proofs.weights.Weights.TheSendSync.{the_field_send as weights_field}
use Rattle.amqp_locked.proofs.waking.Seen.TheSendSync.{the_field_send as seen_field}
use Rattle.amqp_locked.proofs.reading.Reading.TheSendSync.{the_field_send as reading_field}
use Rattle.amqp_locked.proofs.pace.Pace.TheSendSync.{the_field_send as pace_field}
use Rattle.amqp_locked.proofs.tasks.Tasks.TheSendSync.{the_field_send as tasks_field}
use Rattle.amqp_locked.specs.contracts.locked.Locked.{the_row as locked_row, the_type as locked_type, the_field as locked_is_field}
use Rattle.lapin_connection.proofs.changes.Changes.TheSendSync.{the_field_send as changes_field, the_field_sync as changes_sync}
use Rattle.lapin_connection.proofs.nudge.Nudge.TheSendSync.{the_field_send as nudge_field, the_field_sync as nudge_sync}
use Rattle.lapin_connection.specs.contracts.shared.Shared.{the_row as shared_row}
use Rattle.lapin_connection.proofs.Sendable.{hub}

all_of_locked : AllSend (shape_of locked_type).fields
all_of_locked = (
  global_field,
  (
    hub,
    (
      places_field,
      (
        search (sendable, found, crosses) depth 20,
        (
          search (sendable, owner, crosses) depth 20,
          (
            search sendable,
            (
              search (sendable, late, crosses) depth 20,
              (
                search sendable,
                (
                  search sendable,
                  (
                    search sendable,
                    (weights_field, (search sendable, (backlog_field, (seen_field, (reading_field, (pace_field, (tasks_field, tt))))))),
                  ),
                ),
              ),
            ),
          ),
        ),
      ),
    ),
  ),
)

-- what lies under the lock
pub locked : IsSend locked_row
locked = recorded_send locked_is_field.row _ _ locked_type.to_one (struct_send (shape_of locked_type) all_of_locked)

-- what is shared, from one thread to another
pub shared_send : IsSend shared_row
shared_send = search (sendable, global_field, source_field, locked, changes_field, condvar_field, nudge_field, option_field, crosses) depth 20

-- and in several at once
pub shared_sync : IsSync shared_row
shared_sync = search (sendable, global_sync, source_sync, locked, changes_sync, condvar_sync, nudge_sync, option_sync, crosses) depth 20
