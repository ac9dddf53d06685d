-- What the answer to a command shows of it, and why one is refused. What lies under the lock cannot be named where a
-- caller is answered; these say what of it can be.
use Rattle.std.specs.Prelude.{◌≡◌, ◌≤◌, ℕ, List, Option, Some, None, All, Result, Ok, Err, length}
use Rattle.amqp_promise.specs.declared.error.ErrorKind.{ErrorKind}
use Rattle.amqp_promise.specs.declared.error.ErrorKind.TheVariants.{ForeignPass, NoMemory}
use Rattle.amqp_commands.specs.declared.command.Cmd.{Cmd}
use Rattle.amqp_hub.specs.Passes.{new_passes, AreNew, first_foreign}
use Rattle.amqp_hub.specs.declared.hub.Pass.{Pass}
use Rattle.amqp_hub.specs.declared.hub.Receipt.{Receipt}

-- a receipt shows a command and its promise: it holds the number of the pass, and as its place how many commands were
-- made with the pass, this one among them
abbrev pub Shows : Pass → Cmd → Option ℕ → Receipt → Type 0
Shows pass cmd promise r =
    (r.pass ≡ pass.number) × (r.nth ≡ pass.made) × (r.cmd.value ≡ cmd) × (r.promise.value ≡ promise)

-- there is a receipt, and it shows that
abbrev pub HasReceipt : Pass → Cmd → Option ℕ → Option Receipt → Type 0
HasReceipt pass cmd promise None = ⊥
HasReceipt pass cmd promise (Some r) = Shows pass cmd promise r

-- memory was refused; or the pass is not of the connection, whose count for it is not that of the commands that were
-- made with the pass
abbrev pub IsTheRefusal : Pass → ErrorKind → Type 0
IsTheRefusal pass NoMemory = Unit {0}
IsTheRefusal pass (ForeignPass number made count) =
    (number ≡ pass.number) × (made ≡ pass.made) × (count ≡ Some pass.made → ⊥)
IsTheRefusal pass _ = ⊥

-- the answer is an error for that reason alone
abbrev pub Refuses : {A : Type 0} → Pass → Result A ErrorKind → Type 0
Refuses pass (Ok x) = Unit {0}
Refuses pass (Err e) = IsTheRefusal pass e

-- the same of a list of passes: the error is that of the first that is not of the connection, by its counts
abbrev pub IsTheRefusalOf : List Pass → ErrorKind → Type 0
IsTheRefusalOf passes NoMemory = Unit {0}
IsTheRefusalOf passes (ForeignPass number made count) =
    (counts : List ℕ) × (first_foreign passes counts ≡ Some (ForeignPass number made count))
IsTheRefusalOf passes _ = ⊥

-- the answer is an error for that reason alone
abbrev pub RefusesOneOf : {A : Type 0} → List Pass → Result A ErrorKind → Type 0
RefusesOneOf passes (Ok x) = Unit {0}
RefusesOneOf passes (Err e) = IsTheRefusalOf passes e

-- new passes, numbered on after so many as there were: as many as were asked for, or as there are numbers left
abbrev pub AreNumberedOn : ℕ → List Pass → Type 0
AreNumberedOn asked passes = (before : ℕ) × AreNew before passes × (length passes ≡ new_passes asked before)
