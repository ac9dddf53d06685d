-- The frames that wait, alone or in a group.
use Rattle.std.specs.Prelude.{ℕ, Bool, true, false, if◌then◌else◌, List, [], ◌∷◌, length, sum_by, flat_map, Option, Some, None}
use Rattle.amqp_frame.specs.declared.frame.Frame.{Frame}
use Rattle.amqp_frame.specs.declared.frame.Frame.TheVariants.{Method}
use Rattle.amqp_frame.specs.declared.method.Method.TheVariants.{ChannelOpen, ChannelClose}
use Rattle.amqp_frame.specs.Frames.{encoding}
use Rattle.amqp_outbox.specs.declared.item.Item.{Item}

-- a frame on a channel, which answers no promise
abbrev pub plain_item : ℕ → Frame → Item
plain_item channel frame = record { channel = channel; frame = frame; promise = None }

-- a frame on a channel, and the promise that it answers once it was sent whole
abbrev pub promised_item : ℕ → Frame → ℕ → Item
promised_item channel frame number = record { channel = channel; frame = frame; promise = Some number }

-- how many bytes spell a frame
abbrev pub size_of : Item → ℕ
size_of item = length (encoding item.frame)

-- how many bytes spell some frames
abbrev pub octets_of : List Item → ℕ
octets_of items = sum_by size_of items

-- ---- the control lane

-- channel.open and channel.close, which stay where their channel's frames are dropped
abbrev pub outlives : Frame → Bool
outlives (Method channel ChannelOpen) = true
outlives (Method channel (ChannelClose code text class method)) = true
outlives _ = false

-- the channel with which a frame of the control lane is dropped, where there is one
abbrev pub dropped_with : Item → Option ℕ
dropped_with item = if outlives item.frame then None else Some item.channel

-- ---- groups

-- the frames of one publish, in order; the promise stands at the last
abbrev pub group_of : ℕ → List Frame → ℕ → List Item
group_of channel [] promise = []
group_of channel (frame ∷ []) promise = promised_item channel frame promise ∷ []
group_of channel (frame ∷ next ∷ frames) promise = plain_item channel frame ∷ group_of channel (next ∷ frames) promise

-- the frames of some groups, group after group
abbrev pub items_of_groups : List (List Item) → List Item
items_of_groups groups = flat_map (λ group. group) groups

-- the channel of a group
abbrev pub channel_of : List Item → Option ℕ
channel_of [] = None
channel_of (item ∷ items) = Some item.channel

-- the promise of a group
abbrev pub promise_of_group : List Item → Option ℕ
promise_of_group [] = None
promise_of_group (item ∷ []) = item.promise
promise_of_group (item ∷ next ∷ items) = promise_of_group (next ∷ items)
