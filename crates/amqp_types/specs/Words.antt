-- The fixed texts that errors hold, by their names.
use Rattle.std.specs.Prelude.{ℕ, List, codes}
use Rattle.amqp_types.specs.declared.word.Word.{Word}
use Rattle.amqp_types.specs.declared.word.Word.TheVariants.{FrameMax, ChannelMax, Heartbeat, ChannelClose, ChannelCloseOkSent, ChannelCloseOkReceived, ChannelFlow, Send, Publish, NotAnAmqpUri, AmqpsIsNotSupported, VirtualHostTooLong, BadNumberInUri, BadMechanismInUri, NoLoop, NoUriGiven}

-- the octets of a word's text
abbrev pub word_text : Word → List ℕ
word_text FrameMax = codes "frame_max"
word_text ChannelMax = codes "channel_max"
word_text Heartbeat = codes "heartbeat"
word_text ChannelClose = codes "channel.close"
word_text ChannelCloseOkSent = codes "channel.close-ok sent"
word_text ChannelCloseOkReceived = codes "channel.close-ok received"
word_text ChannelFlow = codes "channel.flow"
word_text Send = codes "send"
word_text Publish = codes "publish"
word_text NotAnAmqpUri = codes "not an AMQP URI"
word_text AmqpsIsNotSupported = codes "amqps is not supported"
word_text VirtualHostTooLong = codes "virtual host too long"
word_text BadNumberInUri = codes "bad number in URI"
word_text BadMechanismInUri = codes "bad mechanism in URI"
word_text NoLoop = codes "no loop"
word_text NoUriGiven = codes "No AMQPUri given to ConnectionBuilder"
