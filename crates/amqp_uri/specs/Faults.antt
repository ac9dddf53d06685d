-- Why a text is no address, and how that reads.
use Rattle.std.specs.Prelude.{ℕ, List, ◌++◌, codes, Option, Some, None}
use Rattle.amqp_types.specs.Words as word
use Rattle.amqp_types.specs.declared.word.Word.{Word}
use Rattle.amqp_types.specs.declared.word.Word.TheVariants.{NotAnAmqpUri, AmqpsIsNotSupported, VirtualHostTooLong, BadNumberInUri, BadMechanismInUri}
use Rattle.amqp_uri.specs.declared.fault.UriFault.{UriFault}
use Rattle.amqp_uri.specs.declared.fault.UriFault.TheVariants.{NotAmqp, Amqps, VhostTooLong, BadNumber, BadMechanism, NoMemory}

-- the text of a fault, which is a fixed one, and at a bad number the key that has it
abbrev pub uri_fault_text : UriFault → List ℕ
uri_fault_text NotAmqp = word.word_text NotAnAmqpUri
uri_fault_text Amqps = word.word_text AmqpsIsNotSupported
uri_fault_text VhostTooLong = word.word_text VirtualHostTooLong
uri_fault_text (BadNumber key) = word.word_text BadNumberInUri ++ codes ": " ++ word.word_text key
uri_fault_text BadMechanism = word.word_text BadMechanismInUri
uri_fault_text NoMemory = codes "memory was refused"

-- the word of a fault, which at a bad number names no key; refused memory is no fault of the text and has none
abbrev pub word_of : UriFault → Option Word
word_of NotAmqp = Some NotAnAmqpUri
word_of Amqps = Some AmqpsIsNotSupported
word_of VhostTooLong = Some VirtualHostTooLong
word_of (BadNumber key) = Some BadNumberInUri
word_of BadMechanism = Some BadMechanismInUri
word_of NoMemory = None
