-- The small changes of the state that the rules are made of.
use Rattle.std.specs.Prelude.{ℕ, ◌+◌, max, not, if◌then◌else◌, List, [], ◌∷◌, ◌++◌, filter, map, Option, Some, None, Result, Ok, Err}
use Rattle.amqp_frame.specs.declared.frame.Frame.{Frame}
use Rattle.amqp_outbox.specs.declared.item.Item.{Item}
use Rattle.amqp_outbox.specs.declared.reply.Reply.{Reply}
use Rattle.amqp_outbox.specs.declared.reply.Awaited.{Awaited}
use Rattle.amqp_outbox.specs.Items.{plain_item, promise_of_group}
use Rattle.amqp_outbox.specs.Replies.{awaited_on}
use Rattle.amqp_outbox.specs.Queued.{Queued, pushed_control, pushed_group, with_awaited, is_on, goes_with}
use Rattle.amqp_promise.specs.declared.state.ConnectionState.TheVariants.{Closed, Error}
use Rattle.amqp_rules.specs.declared.state.Link.TheVariants.{Ended}
use Rattle.amqp_answers.specs.declared.answer.Answer.{Answer}
use Rattle.amqp_violations.specs.declared.server_close.ServerClose.{ServerClose}
use Rattle.amqp_violations.specs.declared.server_close.ServerClose.TheVariants.{WithError}
use Rattle.amqp_promise.specs.declared.error.ErrorKind.{ErrorKind}
use Rattle.amqp_promise.specs.declared.error.ErrorKind.TheVariants.{ProtocolError, NoMemory}
use Rattle.amqp_answers.specs.declared.event.Event.{Event}
use Rattle.amqp_maps.specs.Listed.{at, put, without}
use Rattle.amqp_answers.specs.Events as events
use Rattle.amqp_answers.specs.Events.{event_noted, paid, forgotten, failed}
use Rattle.amqp_violations.specs.Violations.{error_named}
use Rattle.amqp_rules.specs.Talk.{Talk, is_closing, has_ended}
use Rattle.amqp_rules.specs.Recovery.{recovery_delay, reconnect}
use Rattle.amqp_answers.specs.Settled.{Promises, settled, settled_to}

-- the present is the greatest moment so far
abbrev pub present_at : ℕ → Talk → Talk
present_at at t = if has_ended t then t else record t { present = max t.present at }

-- ---- what is said, and awaited

-- a frame goes last into the control lane
abbrev pub queue_item : Item → Talk → Talk
queue_item item t = record t { outbox = pushed_control item t.outbox }

-- a frame of a channel that answers no promise goes last into the control lane
abbrev pub queue : ℕ → Frame → Talk → Talk
queue channel f t = queue_item (plain_item channel f) t

-- a group goes last into the publish lane
abbrev pub queue_group : List Item → Talk → Talk
queue_group group t = record t { outbox = pushed_group group t.outbox }

-- a reply is awaited on a channel, and will answer a promise
abbrev pub await : ℕ → Reply → Option ℕ → Talk → Talk
await channel reply promise t =
    record t { outbox = with_awaited channel (record { reply = reply; promise = promise }) t.outbox }

-- ---- promises

-- the promise of a number gets this answer, where it waits
abbrev pub give : ℕ → Result Answer ErrorKind → Talk → Talk
give number answer t = record t { promises = settled number answer t.promises }

-- where a promise is named, it gets this answer
abbrev pub give_to : Option ℕ → Result Answer ErrorKind → Talk → Talk
give_to promise answer t = record t { promises = settled_to promise answer t.promises }

-- the number of the promise that is made next
abbrev pub next_promise : Talk → ℕ
next_promise t = t.made

-- a promise is made, which waits
abbrev pub promise : Talk → Talk
promise t = record t { made = t.made + 1; promises = put t.made None t.promises }

-- a promise is made, which is answered at once with an error
abbrev pub refuse : ErrorKind → Talk → Talk
refuse e t = record t { made = t.made + 1; promises = put t.made (Some (Err e)) t.promises }

-- ---- events

-- an event is kept, where someone listens
abbrev pub note : Event → Talk → Talk
note event t = record t { noted = event_noted event t.noted }

-- the error with which the server closed a channel, where its code was one of an error, is told once our close-ok is
-- sent
abbrev pub owe : ℕ → ErrorKind → Talk → Talk
owe n e t = record t { noted = events.owe_event n (error_named e) t.noted }

-- the error that is owed on a channel is told
abbrev pub tell_owed : ℕ → Talk → Talk
tell_owed n t = record t { noted = paid n t.noted }

-- ---- what goes

-- the promises, once each that is named got an error
abbrev pub rejected_each : ErrorKind → List (Option ℕ) → Promises → Promises
rejected_each e [] promises = promises
rejected_each e (named ∷ others) promises = rejected_each e others (settled_to named (Err e) promises)

-- the promises, once that of each of these groups got an error
abbrev pub rejected : ErrorKind → List (List Item) → Promises → Promises
rejected e [] promises = promises
rejected e (group ∷ groups) promises = rejected e groups (settled_to (promise_of_group group) (Err e) promises)

-- what waits, without the groups of a channel that have not begun
abbrev pub without_groups_of : ℕ → Queued → Queued
without_groups_of n q = record q { publish = filter (λ group. not (is_on n group)) q.publish }

-- what waits, without the groups that have not begun
abbrev pub without_groups : Queued → Queued
without_groups q = record q { publish = [] }

-- the groups of a channel that have not begun go, and the promise of each gets this error
abbrev pub drop_groups_of : ℕ → ErrorKind → Talk → Talk
drop_groups_of n e t =
    record t {
      outbox = without_groups_of n t.outbox;
      promises = rejected e (filter (is_on n) t.outbox.publish) t.promises;
    }

-- all groups that have not begun go, and the promise of each gets this error
abbrev pub drop_groups : ErrorKind → Talk → Talk
drop_groups e t =
    record t {
      outbox = without_groups t.outbox;
      promises = rejected e t.outbox.publish t.promises;
    }

-- the promises of the replies that are awaited on a channel, in order
abbrev pub replies_on : ℕ → Queued → List (Option ℕ)
replies_on n q = map (λ (a : Awaited). a.promise) (awaited_on n q.awaited)

-- the promises of what goes with a channel: of its groups that have not begun, then of its frames in the control lane
-- but channel.open and channel.close, then of its awaited replies
abbrev pub promises_on : ℕ → Queued → List (Option ℕ)
promises_on n q =
    map promise_of_group (filter (is_on n) q.publish)
    ++ map (λ (i : Item). i.promise) (filter (goes_with n) q.control)
    ++ replies_on n q

-- what waits and is awaited, without all that goes with a channel
abbrev pub without_all_on : ℕ → Queued → Queued
without_all_on n q =
    record q {
      publish = filter (λ group. not (is_on n group)) q.publish;
      control = filter (λ item. not (goes_with n item)) q.control;
      awaited = without n q.awaited;
    }

-- all that goes with a channel goes, and the promise of each gets this error
abbrev pub drop_channel_of : ℕ → ErrorKind → Talk → Talk
drop_channel_of n e t =
    record t {
      outbox = without_all_on n t.outbox;
      promises = rejected_each e (promises_on n t.outbox) t.promises;
    }

-- what is awaited, without the replies of a channel
abbrev pub without_replies_on : ℕ → Queued → Queued
without_replies_on n q = record q { awaited = without n q.awaited }

-- the replies that are awaited on a channel go, and the promise of each gets this error
abbrev pub drop_replies_of : ℕ → ErrorKind → Talk → Talk
drop_replies_of n e t =
    record t {
      outbox = without_replies_on n t.outbox;
      promises = rejected_each e (replies_on n t.outbox) t.promises;
    }

-- ---- losses and ends; at an end all channels go

-- the session ends Closed
abbrev pub close : Talk → Talk
close t = record t { state = Closed; link = Ended (Ok tt); channels = []; noted = forgotten t.noted }

-- the session ends with an error, which those who listen are told
abbrev pub fail : ErrorKind → Talk → Talk
fail e t = record t { state = Error; link = Ended (Err e); channels = []; noted = failed t.noted }

-- the link is lost by an error, by the delay after which the session wants another: without one, that is the end
abbrev pub lose_by : Option ℕ → ErrorKind → Talk → Talk
lose_by (Some delay) e t = reconnect e delay t
lose_by None e t = fail e t

-- the link is of no more use, for this error: the session recovers from it, or ends with it
abbrev pub lose : ErrorKind → Talk → Talk
lose e t = lose_by (recovery_delay e t) e t

-- what follows the server's close, by how it closed: where its code was none of an error the session ends Closed, and
-- else the link is lost by that error
abbrev pub finish_by : Option ServerClose → Talk → Talk
finish_by (Some (WithError e)) t = lose (ProtocolError e) t
finish_by _ t = close t

-- the session finishes after the server's close
abbrev pub finish : Talk → Talk
finish t = finish_by t.server_close t

-- a frame that comes where it may not: after our close of the connection it is dropped, and else it is fatal
abbrev pub misplaced : ErrorKind → Talk → Talk
misplaced e t = if is_closing t.state then t else lose e t

-- memory was refused, which ends a session that has not ended
abbrev pub starve : Talk → Talk
starve t = if has_ended t then t else fail NoMemory t
