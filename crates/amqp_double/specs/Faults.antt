-- What a double answers whoever feeds it.
use Rattle.std.specs.Prelude.{Option, Some, None, Result, Ok, Err}
use Rattle.amqp_double.specs.declared.refusal.Refusal.{Refusal}
use Rattle.amqp_double.specs.declared.refusal.Refusal.TheVariants as refusals
use Rattle.amqp_double.specs.declared.refusal.DoubleFault.{DoubleFault}
use Rattle.amqp_double.specs.declared.refusal.DoubleFault.TheVariants as faults

-- a refusal, as it is told
abbrev pub told_fault : Refusal → DoubleFault
told_fault (refusals.BadBytes place) = faults.BadBytes place
told_fault (refusals.Unexpected number) = faults.Unexpected number

-- where nothing was refused all was heard
abbrev pub result_of : Option Refusal → Result (Unit {0}) DoubleFault
result_of None = Ok tt
result_of (Some refusal) = Err (told_fault refusal)
