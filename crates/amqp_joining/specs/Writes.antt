-- The writes of a turn, and what is committed before them.
use Rattle.std.specs.Prelude.{if◌then◌else◌, List, [], ◌∷◌, ◌++◌, length}
use Rattle.amqp_outbox.specs.declared.item.Item.{Item}
use Rattle.amqp_engine.specs.declared.port.Wrote.{Wrote}
use Rattle.amqp_engine.specs.declared.port.Wrote.TheVariants.{Took, Failed, NoMemory}
use Rattle.amqp_engine.specs.Turn.{Progress, offered, offer_part, is_all}
use Rattle.amqp_engine.specs.Sending.{committed_before}

-- each of these took something, or nothing yet
abbrev pub AreTooks : List Wrote → Type 0
AreTooks [] = Unit {0}
AreTooks (Took k ∷ ws) = AreTooks ws
AreTooks (Failed ∷ ws) = ⊥
AreTooks (NoMemory ∷ ws) = ⊥

-- what is committed before these writes: they go on while all is taken
abbrev pub committed_through : List Wrote → Progress → List Item
committed_through [] p = []
committed_through (w ∷ ws) p =
    committed_before p.engine
    ++ (if is_all w (length (offered p.engine)) then committed_through ws (offer_part w p) else [])
