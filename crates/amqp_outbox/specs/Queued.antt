-- The outbox as plain lists, and what each of its calls does to them.
use Rattle.std.specs.Prelude.{ℕ, Bool, true, false, if◌then◌else◌, List, [], ◌∷◌, ◌++◌, drop, find, Option, None, is_some}
use Rattle.std.specs.Option.{option_or, option_map}
use Rattle.amqp_outbox.specs.declared.item.Item.{Item}
use Rattle.amqp_outbox.specs.declared.reply.Awaited.{Awaited}
use Rattle.amqp_outbox.specs.declared.reply.Reply.{Reply}
use Rattle.amqp_outbox.specs.declared.scope.Scope.{Scope}
use Rattle.amqp_outbox.specs.declared.scope.Scope.TheVariants.{Unbegun, Control, All}
use Rattle.amqp_outbox.specs.Lists.{head, without_first, is_the_number}
use Rattle.amqp_outbox.specs.Items.{octets_of, dropped_with, items_of_groups, channel_of, promise_of_group}
use Rattle.amqp_outbox.specs.Replies

-- what waits to go out, and what is awaited
pub record Queued : Type 0 where
  -- the frames of the control lane, in order
  pub control : List Item
  -- the groups of the publish lane, in order: each is the frames of one publish, the last with its promise
  pub publish : List (List Item)
  -- what is left of the group that has begun to go out
  pub begun : List Item
  -- the replies that are awaited, in order, by the number of their channel; no channel has none
  pub awaited : List (ℕ × List Awaited)

-- nothing waits, and nothing is awaited
abbrev pub nothing_queued : Queued
nothing_queued = record { control = []; publish = []; begun = []; awaited = [] }

-- ---- what goes out

-- the first group of a lane, where there is none no frames
abbrev pub first_group : List (List Item) → List Item
first_group [] = []
first_group (group ∷ groups) = group

-- the first frame of a group that may go out, where publishes flow
abbrev pub next_publish : Bool → List (List Item) → Option Item
next_publish false groups = None
next_publish true groups = head (first_group groups)

-- the next frame to go out: of the begun group, else of the control lane, else of the publish lane where publishes flow
abbrev pub next_item : Bool → Queued → Option Item
next_item flow q = option_or (head q.begun) (option_or (head q.control) (next_publish flow q.publish))

-- a group begins: its first frame went, and the others go before all else
abbrev pub begin_group : List (List Item) → Queued → Queued
begin_group [] q = q
begin_group (group ∷ groups) q = record q { publish = groups; begun = drop 1 group }

-- the next frame went, where it is not of the begun group
abbrev pub after_control : Bool → List Item → Queued → Queued
after_control flow (item ∷ items) q = record q { control = items }
after_control true [] q = begin_group q.publish q
after_control false [] q = q

-- the next frame went, by what is left of the begun group
abbrev pub after_begun : Bool → List Item → Queued → Queued
after_begun flow (item ∷ items) q = record q { begun = items }
after_begun flow [] q = after_control flow q.control q

-- the next frame went
abbrev pub after_next : Bool → Queued → Queued
after_next flow q = after_begun flow q.begun q

-- the frames that wait, in the order in which they go out where publishes flow and nothing comes between
abbrev pub waiting_items : Queued → List Item
waiting_items q = q.begun ++ q.control ++ items_of_groups q.publish

-- how many bytes spell the frames that wait
abbrev pub unsent_octets : Queued → ℕ
unsent_octets q = octets_of (waiting_items q)

-- ---- what comes

-- a frame goes last in the control lane
abbrev pub pushed_control : Item → Queued → Queued
pushed_control item q = record q { control = q.control ++ item ∷ [] }

-- a group goes last in the publish lane
abbrev pub pushed_group : List Item → Queued → Queued
pushed_group group q = record q { publish = q.publish ++ group ∷ [] }

-- a frame alone waits, and nothing is awaited
abbrev pub only : Item → Queued
only item = record nothing_queued { control = item ∷ [] }

-- ---- replies

-- one more reply is awaited on a channel
abbrev pub with_awaited : ℕ → Awaited → Queued → Queued
with_awaited channel a q = record q { awaited = Replies.expected channel a q.awaited }

-- the promise of the first that awaits a reply on a channel, where one does
abbrev pub awaited_promise : ℕ → Reply → Queued → Option (Option ℕ)
awaited_promise channel reply q =
    option_map (λ (a : Awaited). a.promise) (Replies.first_awaited channel reply q.awaited)

-- the reply came that the first such one awaited
abbrev pub without_awaited : ℕ → Reply → Queued → Queued
without_awaited channel reply q = record q { awaited = Replies.left_awaited channel reply q.awaited }

-- ---- groups that have not begun

-- the promise of the first group that has not begun
abbrev pub unbegun_promise : Queued → Option (Option ℕ)
unbegun_promise q = option_map promise_of_group (head q.publish)

-- all but the first group that has not begun
abbrev pub without_unbegun : Queued → Queued
without_unbegun q = record q { publish = drop 1 q.publish }

-- ---- a channel that goes

-- a frame of the control lane that is dropped with a channel
abbrev pub goes_with : ℕ → Item → Bool
goes_with channel item = is_the_number channel (dropped_with item)

-- a group of a channel
abbrev pub is_on : ℕ → List Item → Bool
is_on channel group = is_the_number channel (channel_of group)

-- the promise of the first group of a channel that has not begun
abbrev pub group_promise : ℕ → Queued → Option (Option ℕ)
group_promise channel q = option_map promise_of_group (find (is_on channel) q.publish)

-- all but the first group of a channel that has not begun
abbrev pub without_group : ℕ → Queued → Queued
without_group channel q = record q { publish = without_first (is_on channel) q.publish }

-- the promise of the first frame of the control lane that is dropped with a channel
abbrev pub frame_promise : ℕ → Queued → Option (Option ℕ)
frame_promise channel q = option_map (λ (i : Item). i.promise) (find (goes_with channel) q.control)

-- all but the first frame of the control lane that is dropped with a channel
abbrev pub without_frame : ℕ → Queued → Queued
without_frame channel q = record q { control = without_first (goes_with channel) q.control }

-- the promise of the first reply that is awaited on a channel
abbrev pub reply_promise : ℕ → Queued → Option (Option ℕ)
reply_promise channel q = option_map (λ (a : Awaited). a.promise) (Replies.first_on channel q.awaited)

-- all but the first reply that is awaited on a channel
abbrev pub without_reply : ℕ → Queued → Queued
without_reply channel q = record q { awaited = Replies.without_first_on channel q.awaited }

-- the promise of the first thing of a channel in a scope: of its groups, then of its frames in the control lane, then
-- of its awaited replies
abbrev pub dropped_promise : ℕ → Scope → Queued → Option (Option ℕ)
dropped_promise channel Unbegun q = group_promise channel q
dropped_promise channel Control q = frame_promise channel q
dropped_promise channel All q =
    option_or (group_promise channel q) (option_or (frame_promise channel q) (reply_promise channel q))

-- all but the first thing of a channel, whatever it is
abbrev pub without_any : ℕ → Queued → Queued
without_any channel q =
    if is_some (group_promise channel q) then without_group channel q
    else if is_some (frame_promise channel q) then without_frame channel q
    else without_reply channel q

-- all but the first thing of a channel in a scope
abbrev pub without_channel : ℕ → Scope → Queued → Queued
without_channel channel Unbegun q = without_group channel q
without_channel channel Control q = without_frame channel q
without_channel channel All q = without_any channel q
