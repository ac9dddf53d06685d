-- How the code keeps a cell.
use Rattle.std.specs.Prelude.{Result}
use Rattle.amqp_promise.specs.declared.error.ErrorKind.{ErrorKind}
use Rattle.amqp_promise.specs.Cell.{Cell}
use Rattle.amqp_promise.specs.declared.slot.Stage.{Stage}
use Rattle.amqp_promise.specs.declared.slot.Stage.TheVariants.{Waiting, Kept, Taken}

-- the cell of a stage
abbrev pub cell_of : {T : Type 0} → Stage T → Cell (Result T ErrorKind)
cell_of (Waiting places) = Cell.Waiting places
cell_of (Kept outcome) = Cell.Kept outcome
cell_of Taken = Cell.Taken
