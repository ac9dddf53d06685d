-- The listed channels.
use Rattle.std.specs.Prelude.{◌≡◌, ◌≤◌, ℕ, ◌+◌, ◌==◌, max, Bool, true, false, List, [], ◌∷◌, Option, option_map, find}
use Rattle.std.specs.List.{list_all}
use Rattle.amqp_promise.specs.declared.state.ChannelState.TheVariants as channel
use Rattle.amqp_channels.specs.declared.channels.Channel.{Channel}
use Rattle.amqp_channels.specs.declared.channels.Debt.{Debt}
use Rattle.amqp_channels.specs.declared.channels.Debt.TheVariants.{Nothing, Owed}
use Rattle.amqp_maps.specs.Listed.{put, has}
use Rattle.amqp_channels.specs.Numbering.{first_number, after, drawn}

-- the listed channels, and the cursor from which the next number is drawn
pub record Listing : Type 0 where
  pub listed : List (ℕ × Channel)
  pub cursor : ℕ

-- our close-ok is owed
abbrev pub is_owed : Debt → Bool
is_owed Owed = true
is_owed _ = false

-- a channel whose opening a promise waits for
abbrev pub new_channel : ℕ → Channel
new_channel opened =
    record {
      state = channel.Initial;
      flow = true;
      confirm = false;
      opened = opened;
      debt = Nothing;
      awaits_close_ok = false;
    }

-- a channel that is closing
abbrev pub made_closing : Channel → Channel
made_closing c = record c { state = channel.Closing }

-- a channel that we close: close-ok is awaited
abbrev pub made_leaving : Channel → Channel
made_leaving c = record (made_closing c) { awaits_close_ok = true }

-- a channel whose close was answered: close-ok is awaited no more
abbrev pub made_answered : Channel → Channel
made_answered c = record c { awaits_close_ok = false }

-- the number of the listed channel that a promise opened
abbrev pub opening_in : ℕ → List (ℕ × Channel) → Option ℕ
opening_in opened channels = option_map (λ e. e.0) (find (λ e. (e.1).opened == opened) channels)

-- the number of promises up to the last that opened a listed channel
abbrev pub opened_until : List (ℕ × Channel) → ℕ
opened_until [] = 0
opened_until (e ∷ es) = max ((e.1).opened + 1) (opened_until es)

-- every listed channel has flow: the server lets content be published on each
abbrev pub all_flow : List (ℕ × Channel) → Bool
all_flow listed = list_all (λ e. (e.1).flow) listed

-- ---- creating a channel

-- every number from 1 to the greatest is listed
abbrev pub AllListed : ℕ → List (ℕ × Channel) → Type 0
AllListed channel_max listed = (n : ℕ) → 1 ≤ n → n ≤ channel_max → has n listed ≡ true

-- the number of the next channel: the first in the cycle from the cursor on that is not listed
abbrev pub next_free : ℕ → Listing → Option ℕ
next_free channel_max l = drawn channel_max (first_number channel_max l.cursor) l.listed

-- a channel is listed by the number that was drawn, and the cursor goes on after it
abbrev pub list_next : ℕ → ℕ → Channel → Listing → Listing
list_next channel_max n c l = record l { listed = put n c l.listed; cursor = after channel_max n }

-- no number is free, and the cursor goes on by one
abbrev pub pass_over : ℕ → Listing → Listing
pass_over channel_max l = record l { cursor = after channel_max (first_number channel_max l.cursor) }

-- a channel is listed by the number that was drawn, as the next promise after those that opened the others opens it
abbrev pub create_as : ℕ → ℕ → Listing → Listing
create_as channel_max n l = list_next channel_max n (new_channel (opened_until l.listed)) l
