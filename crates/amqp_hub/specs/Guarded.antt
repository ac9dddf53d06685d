-- What stands behind the lock, and what is kept of it.
use Rattle.std.specs.Prelude.{◌≡◌, ◌≤◌, ◌^◌, ℕ, suc, false, List}
use Rattle.amqp_rules.specs.Talk.{has_ended}
use Rattle.amqp_rules.specs.Sound.{IsSound}
use Rattle.amqp_engine.specs.Engine.{Engine}
use Rattle.amqp_journal.specs.declared.entry.Entry.{Entry}
use Rattle.amqp_journal.specs.Journal.{AllMay, StandsSince}
use Rattle.amqp_hub.specs.Passes.{made_of, places, gapless}

-- where a journal begins: the engine as it stood, how many entries were let go before, and how many commands had been
-- made with each pass
pub record Beginning : Type 0 where
  pub engine : Engine
  pub entries : ℕ
  pub made : List ℕ

-- what stands behind the lock: the engine, where its journal begins, the journal, and how many commands were made with
-- each pass
pub record Guarded : Type 0 where
  pub engine : Engine
  pub base : Beginning
  pub journal : List Entry
  pub counts : List ℕ

-- these together
abbrev pub guarded : Engine → Beginning → List Entry → List ℕ → Guarded
guarded e base journal counts = record { engine = e; base = base; journal = journal; counts = counts }

-- what is kept
pub record IsKept (h : Guarded) : Type 0 where
  -- the engine stands where the journal leads from the base, less what was taken since
  pub stands : StandsSince h.base.engine h.journal h.engine
  -- the base is sound
  pub sound : IsSound h.base.engine.talk
  -- each turn of the journal may be one of what stands before it
  pub may : AllMay h.journal h.base.engine
  -- the places of each pass begin one above the base's count for it, and end at its count, without a gap
  pub placed : (p : ℕ) → places p h.journal ≡ gapless (made_of p h.base.made) (made_of p h.counts)
  pub counted : (p : ℕ) → made_of p h.base.made ≤ made_of p h.counts
  -- so few entries were let go that the index of each is a number of 64 bits
  pub few : h.base.entries ≤ 2 ^ 63

-- a session that goes on has a spare place in its journal
abbrev pub HasSpare : Engine → ℕ → ℕ → Type 0
HasSpare e len capacity = has_ended e.talk ≡ false → suc len ≤ capacity
