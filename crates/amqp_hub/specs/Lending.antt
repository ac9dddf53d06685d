-- What a hub is used for while it is lent.
use Rattle.std.specs.Prelude.{◌≡◌, ◌≤◌, ◌⊎◌, List, [], ◌∷◌, ◌++◌}
use Rattle.amqp_journal.specs.declared.entry.Entry.{Entry}
use Rattle.amqp_journal.specs.declared.entry.Entry.TheVariants.{Turn, Called, Own}
use Rattle.amqp_hub.specs.Guarded.{Guarded}
use Rattle.amqp_hub.specs.Entering.{next_entry}

-- none of these entries is a turn
abbrev pub HasNoTurn : List Entry → Type 0
HasNoTurn [] = Unit {0}
HasNoTurn (Turn turn ∷ entries) = ⊥
HasNoTurn (Called pass nth cmd promise ∷ entries) = HasNoTurn entries
HasNoTurn (Own cmd ∷ entries) = HasNoTurn entries

-- commands alone were entered, behind the entries that there were
pub record Extends (before after : Guarded) : Type 0 where
  pub rest : List Entry
  pub base : after.base ≡ before.base
  pub journal : after.journal ≡ before.journal ++ rest
  pub no_turn : HasNoTurn rest

-- the journal began anew, and since then commands alone were entered
pub record BeganAnew (before after : Guarded) : Type 0 where
  pub later : next_entry before ≤ after.base.entries
  pub no_turn : HasNoTurn after.journal

-- what may be done with a hub that is lent: commands are entered, and the journal may begin anew; no turn is applied,
-- and no other hub with another base or fewer entries takes its place
abbrev pub GoesOn : Guarded → Guarded → Type 0
GoesOn before after = Extends before after ⊎ BeganAnew before after
