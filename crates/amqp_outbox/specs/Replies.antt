-- The replies that are awaited, by the number of their channel. No rule looks at the order of replies of two channels.
use Rattle.std.specs.Prelude.{ℕ, ◌==◌, Bool, List, [], ◌∷◌, ◌++◌, Option, drop, find, unwrap_or}
use Rattle.amqp_outbox.specs.declared.reply.Awaited.{Awaited}
use Rattle.amqp_outbox.specs.declared.reply.Reply.{Reply}
use Rattle.amqp_outbox.specs.declared.reply.Reply.TheVariants.{ChannelOpened, ChannelClosed, FlowDone, SecretDone, ConnectionClosed}
use Rattle.amqp_outbox.specs.Lists.{head, without_first}
use Rattle.amqp_outbox.specs.Listed.{at, put, without}

-- the number of a reply's method in its class (AMQP 0-9-1, 1.4 and 1.5), which no other reply has
abbrev pub method_of : Reply → ℕ
method_of ChannelOpened = 11
method_of ChannelClosed = 41
method_of FlowDone = 21
method_of SecretDone = 71
method_of ConnectionClosed = 51

-- what awaits this reply
abbrev pub is_of : Reply → Awaited → Bool
is_of reply a = method_of a.reply == method_of reply

-- what is awaited on a channel, in order
abbrev pub awaited_on : ℕ → List (ℕ × List Awaited) → List Awaited
awaited_on channel awaited = unwrap_or (at channel awaited) []

-- this is what is awaited on a channel from now on
abbrev pub left_on : ℕ → List Awaited → List (ℕ × List Awaited) → List (ℕ × List Awaited)
left_on channel [] awaited = without channel awaited
left_on channel (a ∷ list) awaited = put channel (a ∷ list) awaited

-- one more is awaited on a channel, after the others
abbrev pub expected : ℕ → Awaited → List (ℕ × List Awaited) → List (ℕ × List Awaited)
expected channel a awaited = put channel (awaited_on channel awaited ++ a ∷ []) awaited

-- the first that awaits a reply on a channel
abbrev pub first_awaited : ℕ → Reply → List (ℕ × List Awaited) → Option Awaited
first_awaited channel reply awaited = find (is_of reply) (awaited_on channel awaited)

-- all but the first that awaits a reply on a channel
abbrev pub left_awaited : ℕ → Reply → List (ℕ × List Awaited) → List (ℕ × List Awaited)
left_awaited channel reply awaited = left_on channel (without_first (is_of reply) (awaited_on channel awaited)) awaited

-- the first that is awaited on a channel, whatever the reply
abbrev pub first_on : ℕ → List (ℕ × List Awaited) → Option Awaited
first_on channel awaited = head (awaited_on channel awaited)

-- all but the first that is awaited on a channel
abbrev pub without_first_on : ℕ → List (ℕ × List Awaited) → List (ℕ × List Awaited)
without_first_on channel awaited = left_on channel (drop 1 (awaited_on channel awaited)) awaited
