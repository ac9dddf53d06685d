-- Writing: which frame goes out next, and what becomes of the bytes of those that went.
use Rattle.std.specs.Prelude.{ℕ, ◌-◌, ◌==◌, ◌&&◌, Bool, not, nat_le, nat_lt, if◌then◌else◌, List, [], ◌∷◌, ◌++◌, drop, length, Option, Some, None, Ok}
use Rattle.amqp_outbox.specs.declared.item.Item.{Item}
use Rattle.amqp_outbox.specs.Items.{size_of}
use Rattle.amqp_outbox.specs.Queued as queued
use Rattle.amqp_outbox.specs.Queued.{waiting_items, after_next}
use Rattle.amqp_outgoing.specs.declared.committed.Mark.{Mark}
use Rattle.amqp_outgoing.specs.declared.committed.Then.{Then}
use Rattle.amqp_outgoing.specs.declared.committed.Then.TheVariants.{Nothing, Answer, Pays, Finish}
use Rattle.amqp_answers.specs.declared.answer.Answer.TheVariants.{Sent}
use Rattle.amqp_rules.specs.Talk.{Talk, is_open}
use Rattle.amqp_channels.specs.declared.channels.Channel.{Channel}
use Rattle.amqp_channels.specs.declared.channels.Debt.{Debt}
use Rattle.amqp_channels.specs.declared.channels.Debt.TheVariants.{Paid, Owed}
use Rattle.amqp_channels.specs.Channels.{all_flow}
use Rattle.amqp_rules.specs.Channels.{channel_at, set_channel}
use Rattle.amqp_rules.specs.ChannelMethods.{remove_channel}
use Rattle.amqp_promise.specs.declared.error.ErrorKind.TheVariants.{SerialisationError}
use Rattle.amqp_rules.specs.Changes.{give, tell_owed, lose, finish}
use Rattle.amqp_outgoing.specs.Marks.{left_in, mark_of}

-- how many frames wait to be committed
abbrev pub frames_waiting : Talk → ℕ
frames_waiting t = length (waiting_items t.outbox)

-- publishes flow: the server lets content come on every listed channel, also on one that is closing
abbrev pub flows : Talk → Bool
flows t = all_flow t.channels

-- frames may go out: on an open link, while the server does not block
abbrev pub writes : Talk → Bool
writes t = is_open t && not t.blocked

-- the next frame to go out: of the group that has begun, else of the control lane, else of the publish lane where
-- publishes flow
abbrev pub next_out : Talk → Option Item
next_out t = if writes t then queued.next_item (flows t) t.outbox else None

-- a frame that is to go out, where it is at most so many bytes long
abbrev pub fitting : ℕ → Option Item → Option Item
fitting space None = None
fitting space (Some item) = if nat_le (size_of item) space then Some item else None

-- the next frame, where it is at most so many bytes long
abbrev pub next_within : ℕ → Talk → Option Item
next_within space t = fitting space (next_out t)

-- the frame that is to go out, where there is one, is committed
abbrev pub committed_as : Option Item → Talk → Talk
committed_as None t = t
committed_as (Some item) t =
    record t { outbox = after_next (flows t) t.outbox; committed = t.committed ++ mark_of item ∷ [] }

-- the next frame is committed, where it is at most so many bytes long
abbrev pub commit : ℕ → Talk → Talk
commit space t = committed_as (next_within space t) t

-- how many octets spell a frame that is to go out, where they are more than so many
abbrev pub longer_than : ℕ → Option Item → Option ℕ
longer_than most None = None
longer_than most (Some item) = if nat_lt most (size_of item) then Some (size_of item) else None

-- how many octets spell the next frame, where it is longer than the whole capacity: no command queues such a one, but
-- what the client says of itself may be so long
abbrev pub overlong : Talk → Option ℕ
overlong t = longer_than t.capacity (next_out t)

-- a frame of so many octets can't go out, and ends the session
abbrev pub end_overlong : Option ℕ → Talk → Talk
end_overlong None t = t
end_overlong (Some size) t = lose (SerialisationError size) t

-- the next frame is asked for, of at most so many bytes: it is committed where it fits, and where it is longer than the
-- whole capacity, the session ends
abbrev pub next_frame : ℕ → Talk → Talk
next_frame space t = end_overlong (overlong t) (commit space t)

-- how many bytes of the committed frames are unsent
abbrev pub unsent : Talk → ℕ
unsent t = left_in t.committed

-- our answer to the server's close was sent, and the session finishes
abbrev pub connection_close_ok_sent : Talk → Talk
connection_close_ok_sent t = finish t

-- nothing is owed any more on a listed channel: where our own close of it is not answered it stays, and else it goes
abbrev pub paid_off : ℕ → Channel → Talk → Talk
paid_off n c t = if c.awaits_close_ok then set_channel n (record c { debt = Paid }) t else remove_channel n t

-- our close-ok was sent on a listed channel, by what is owed: the error of the server's close is told
abbrev pub paid_by : Debt → ℕ → Channel → Talk → Talk
paid_by Owed n c t = paid_off n c (tell_owed n t)
paid_by _ n c t = t

-- our close-ok was sent on a channel, where it is listed
abbrev pub pay : Option Channel → ℕ → Talk → Talk
pay None n t = t
pay (Some c) n t = paid_by c.debt n c t

-- our answer to the server's close of a channel was sent
abbrev pub channel_close_ok_sent : ℕ → Talk → Talk
channel_close_ok_sent n t = pay (channel_at n t) n t

-- what follows once a frame was sent whole
abbrev pub follow : Then → Talk → Talk
follow Nothing t = t
follow (Answer number) t = give number (Ok Sent) t
follow (Pays n) t = channel_close_ok_sent n t
follow Finish t = connection_close_ok_sent t

-- the first committed frame was sent whole
abbrev pub sent : Mark → Talk → Talk
sent m t = follow m.then (record t { committed = drop 1 t.committed })

-- the committed frames whose last byte is among so many bytes are sent, in order, while the link is open
abbrev pub sent_among : List Mark → ℕ → Talk → Talk
sent_among [] n t = t
sent_among (m ∷ ms) n t =
    if is_open t
    then if nat_le m.left n
    then sent_among ms (n - m.left) (sent m t)
    else record t { committed = record m { left = m.left - n } ∷ ms }
    else t

-- so many of the unsent bytes were taken by the open link
abbrev pub taken : ℕ → Talk → Talk
taken n t =
    if is_open t && not (n == 0)
    then sent_among t.committed n (record t { last_write = t.present })
    else t
