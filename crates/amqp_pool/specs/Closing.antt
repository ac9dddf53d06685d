-- How the channels of a pool are closed.
use Rattle.std.specs.Prelude.{◌≡◌, ◌⊎◌, ◌+◌, ℕ, List, [], ◌∷◌, length, take, drop, Some}
use Rattle.amqp_promise.specs.declared.error.ErrorKind.{ErrorKind}
use Rattle.amqp_promise.specs.declared.error.ErrorKind.TheVariants.{NoMemory}
use Rattle.amqp_commands.specs.declared.command.ChanRef.{ChanRef}
use Rattle.amqp_commands.specs.declared.command.Cmd.TheVariants.{DropChannel}
use Rattle.amqp_hub.specs.declared.hub.Pass.{Pass}
use Rattle.amqp_hub.specs.Guarded.{Guarded}
use Rattle.amqp_hub.specs.Passes.{foreign}
use Rattle.amqp_hub.specs.Entering.{called}

-- a hub once it was told to let each of these channels go, the last first, by the commands of a pass after so many
abbrev pub closed : ℕ → ℕ → List ChanRef → Guarded → Guarded
closed pass made [] h = h
closed pass made (r ∷ rs) h = called pass (made + length rs + 1) (DropChannel r) (closed pass made rs h)

-- of some channels those from one on are closed, and the others stay
pub record ClosesFrom (left : ℕ) (idle idle' : List ChanRef) (h h' : Guarded) (pass pass' : Pass) : Type 0 where
  pub stay : idle' ≡ take left idle
  pub hub : h' ≡ closed pass.number pass.made (drop left idle) h
  pub made : pass'.made ≡ pass.made + length (drop left idle)
  pub number : pass'.number ≡ pass.number

-- why a close is refused, of hub and pass as they are left: the pass is not of the hub, or memory is wanting
abbrev pub IsCloseRefused : Guarded → Pass → ErrorKind → Type 0
IsCloseRefused h pass e = (foreign pass h.counts ≡ Some e) ⊎ (e ≡ NoMemory)
