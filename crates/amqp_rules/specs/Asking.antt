-- What comes of rules that ask a provider.
use Rattle.std.specs.Prelude.{◌≡◌, List}
use Rattle.amqp_auth.specs.declared.asked.Question.{Question}
use Rattle.amqp_auth.specs.declared.asked.Asked.{Asked}
use Rattle.amqp_auth.specs.Providers.{Exchange}
use Rattle.amqp_auth.specs.Asking.{Unanswered, Asks}
use Rattle.amqp_rules.specs.Talk.{Talk}

-- a rule that asks was done with what was answered; what it asks may go by the answers to what it asked before
pub record Hears (rule : List Asked → Talk → Talk) (asked : List Asked → Talk → List Question)
    (before after : Exchange → Type 0) (t t' : Talk) (list list' : List Asked) : Type 0 where
  -- what was answered
  pub answers : List Asked
  -- to what the rule asks
  pub asks : Asks (asked answers t) answers before after list list'
  -- the state is what the rule makes of it
  pub talk : t' ≡ rule answers t

-- memory was refused after some of the questions were answered that a rule asks
abbrev pub Starves : (List Asked → Talk → List Question) → (Exchange → Type 0) → Talk → List Asked → List Asked → Type 0
Starves asked before t list list' = Unanswered (λ answers. asked answers t) before list list'
