-- What a test of the signature of a protocol header leads to.
use Rattle.std.specs.Prelude.{Result, Ok, Err}
use Rattle.amqp_frame.specs.declared.frame.Read.{Read}
use Rattle.amqp_frame.specs.declared.frame.Read.TheVariants.{More, Bad}
use Rattle.amqp_frame.specs.declared.read.Unsigned.{Unsigned}
use Rattle.amqp_frame.specs.declared.read.Unsigned.TheVariants.{Short, Other}

-- the answer where the signature stands, and else why it does not
abbrev pub signed : {X : Type 0} → Result X Unsigned → Read → Read
signed (Ok x) answer = answer
signed (Err Short) answer = More
signed (Err Other) answer = Bad
