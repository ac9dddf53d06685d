-- The journal of an engine: its entries, and where they lead from a base.
use Rattle.std.specs.Prelude.{◌≡◌, ◌⊎◌, ℕ, true, false, List, [], ◌∷◌, ◌++◌, IsSome}
use Rattle.amqp_promise.specs.declared.error.ErrorKind.{ErrorKind}
use Rattle.amqp_rules.specs.Talk.{has_ended}
use Rattle.amqp_rules.specs.Ticks.{is_connected}
use Rattle.amqp_settings.specs.Config.{Config}
use Rattle.amqp_rules.specs.Commands.{command}
use Rattle.amqp_rules.specs.Answers.{answer_of}
use Rattle.amqp_engine.specs.Engine.{Engine, with_talk}
use Rattle.amqp_engine.specs.declared.port.Step.{Step}
use Rattle.amqp_engine.specs.Turn.{Notes, cut_notes, asks, turn, IsApplied}
use Rattle.amqp_engine.specs.Turn as engine
use Rattle.amqp_engine.specs.Causes.{IsCause}
use Rattle.amqp_journal.specs.declared.entry.Entry.{Entry}
use Rattle.amqp_journal.specs.declared.entry.Entry.TheVariants.{Turn, Called, Own}
use Rattle.amqp_journal.specs.declared.entry.Turn.{Turn as Taken}
use Rattle.amqp_journal.specs.Untaken.{Untaken, Tied}
use Rattle.amqp_journal.specs.Left.{IsLeft, IsGone}

-- ---- entries

-- a turn as an entry holds it
abbrev pub turned : ℕ → Step → List ℕ → Notes → Taken
turned at step bytes notes = record { at = at; step = step; bytes = bytes; notes = notes }

-- a turn of which nothing was done, since memory for its entry was refused
abbrev pub cut_before : ℕ → Step → Taken
cut_before at step = turned at step [] cut_notes

-- the turn that an entry holds
abbrev pub turn_in : Taken → engine.Turn
turn_in u = record { at = u.at; step = u.step; bytes = u.bytes; notes = u.notes }

-- what an entry does: a turn, or a command alone
abbrev pub entered : Entry → Engine → Engine
entered (Turn u) e = turn (turn_in u) e
entered (Called pass nth c promise) e = with_talk (command c) e
entered (Own c) e = with_talk (command c) e

-- the engine that a journal stands for: its entries, one after another, from the base on
abbrev pub stands_for : List Entry → Engine → Engine
stands_for [] e = e
stands_for (x ∷ xs) e = stands_for xs (entered x e)

-- the turn of an entry may be one of the engine that stands before it
abbrev pub MayEnter : Entry → Engine → Type 0
MayEnter (Turn u) e = IsApplied (turn_in u) (asks e)
MayEnter _ e = Unit {0}

-- each turn of a journal may be one of the engine for which the entries before it stand
abbrev pub AllMay : List Entry → Engine → Type 0
AllMay [] e = Unit {0}
AllMay (x ∷ xs) e = MayEnter x e × AllMay xs (entered x e)

-- ---- what stands there

-- an engine is another, less what was taken of its session since
pub record IsLeftOf (g x : Engine) : Type 0 where
  pub rest : x ≡ record g { talk = x.talk }
  pub left : IsLeft g.talk x.talk

-- an engine stands where the journal leads from the base, with the link asked for that is wanted then, less what was
-- taken since
abbrev pub StandsSince : Engine → List Entry → Engine → Type 0
StandsSince base journal x = IsLeftOf (asks (stands_for journal base)) x

-- the answer to a promise was taken: since the base, or it was gone there
abbrev pub WasTaken : ℕ → Engine → List Entry → Engine → Type 0
WasTaken number base journal x =
    IsGone number x.talk × (IsSome (answer_of number (asks (stands_for journal base)).talk) ⊎ IsGone number base.talk)

-- the session ended with an error after the base, and a turn of the journal brought that about
pub record EndsBy (k : ErrorKind) (journal : List Entry) (base : Engine) : Type 0 where
  -- the entries before it, and those after it
  pub before : List Entry
  pub last : Taken
  pub after : List Entry
  pub split : journal ≡ before ++ Turn last ∷ after
  pub running : has_ended (stands_for before base).talk ≡ false
  pub cause : IsCause k (turn_in last) (asks (stands_for before base))

-- ---- for the proofs

-- two engines that are alike but for what was taken of their sessions
pub record TiedEngines (R : ℕ → Config → Untaken → Untaken → Type 0) (e x : Engine) : Type 0 where
  pub same : x ≡ record e { talk = x.talk }
  pub talk : Tied R e.talk x.talk

-- an engine whose session has ended is not Connected
abbrev pub EndsRight : Engine → Type 0
EndsRight g = has_ended g.talk ≡ true → is_connected g.talk.state ≡ false
