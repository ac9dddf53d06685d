-- What a port tells of turns: a second fold over them, and what a port that plays a script does.
use Rattle.std.specs.Prelude.{◌≡◌, ℕ, ◌≤◌, not, ◌&&◌, ◌==◌, if◌then◌else◌, false, List, [], ◌∷◌, ◌++◌, length, Option, Some, None, IfSome, option_map}
use Rattle.amqp_rules.specs.Talk.{has_ended}
use Rattle.amqp_auth.specs.Providers.{Exchange, Allows}
use Rattle.amqp_engine.specs.declared.port.Step.{Step}
use Rattle.amqp_engine.specs.declared.port.Wrote.{Wrote}
use Rattle.amqp_engine.specs.declared.port.Wrote.TheVariants.{Took, NoMemory}
use Rattle.amqp_engine.specs.Log.{Log, log_ask, log_step, log_write, PlansStep, PlansWrite}
use Rattle.amqp_engine.specs.Engine.{Engine}
use Rattle.amqp_engine.specs.Turn.{Turn, Notes, write_answers, IsTold, AreTold, IsFit, AreFit, asks, wants_ask, Progress, goes, offered, offer_part, read, turn, applied, IsApplied, IsTurn, exchange_of, exchanges, cut_of, Leads}

-- ---- what is told

-- the bytes of an offer, and the port's answer
pub record Offer : Type 0 where
  pub bytes : List ℕ
  pub answer : Wrote

-- what the port answered: a write that took nothing, with the turn cut right after it, found no memory in the port
abbrev pub port_answer : Wrote → Progress → Wrote
port_answer (Took k) p = if k == 0 && not (goes (offer_part (Took k) p)) then NoMemory else Took k
port_answer w p = w

-- the offers that these answers answer
abbrev pub offers_from : List Wrote → Progress → List Offer
offers_from [] p = []
offers_from (w ∷ ws) p = record { bytes = offered p.engine; answer = port_answer w p } ∷ offers_from ws (offer_part w p)

-- the offers of a turn, from its step on
abbrev pub offers_of : Turn → Engine → List Offer
offers_of u e = offers_from (write_answers u.notes) (read u e)

-- offers are told
abbrev pub log_offers : List Offer → Log → Log
log_offers [] a = a
log_offers (o ∷ os) a = log_offers os (log_write o.bytes o.answer a)

-- a link is asked for, where one is wanted and was not yet asked for
abbrev pub log_asks : Engine → Log → Log
log_asks e a = if wants_ask e then log_ask a else a

-- a turn is told up to its offers
abbrev pub log_stepped : Turn → Engine → Log → Log
log_stepped u e a = log_step u.at u.step u.bytes (log_asks e a)

-- a turn is told
abbrev pub log_turn : Turn → Engine → Log → Log
log_turn u e a = log_offers (offers_of u (asks e)) (log_stepped u e a)

-- turns are told
abbrev pub log_turns : List Turn → Engine → Log → Log
log_turns [] e a = a
log_turns (u ∷ us) e a = log_turns us (turn u e) (log_turn u e a)

-- ---- what a port does that plays a script

-- a port that plays a script answers these writes so
abbrev pub PlaysOffers : List Offer → Log → Type 0
PlaysOffers [] a = Unit {0}
PlaysOffers (o ∷ os) a = PlansWrite (length o.bytes) o.answer a × PlaysOffers os (log_write o.bytes o.answer a)

-- a port that plays a script tells this step, and answers these writes so
abbrev pub PlaysTurn : Turn → Engine → Log → Type 0
PlaysTurn u e a = PlansStep u.at u.step u.bytes (log_asks e a) × PlaysOffers (offers_of u (asks e)) (log_stepped u e a)

-- a port that plays a script tells these steps, and answers their writes so
abbrev pub PlaysTurns : List Turn → Engine → Log → Type 0
PlaysTurns [] e a = Unit {0}
PlaysTurns (u ∷ us) e a = PlaysTurn u e a × PlaysTurns us (turn u e) (log_turn u e a)

-- ---- both, of a port that may tell

-- a port that tells tells this, and where it plays a script, it may
pub record Tells (f : Log → Log) (P : Log → Type 0) (before after : Option Log) : Type 0 where
  pub told : after ≡ option_map f before
  pub plays : IfSome before P

-- a port that may tell tells these offers
abbrev pub TellsOffers : List Offer → Option Log → Option Log → Type 0
TellsOffers os before after = Tells (log_offers os) (PlaysOffers os) before after

-- a port that may tell tells this turn
abbrev pub TellsTurn : Turn → Engine → Option Log → Option Log → Type 0
TellsTurn u e before after = Tells (log_turn u e) (PlaysTurn u e) before after

-- a port that may tell tells these turns
abbrev pub TellsTurns : List Turn → Engine → Option Log → Option Log → Type 0
TellsTurns us e before after = Tells (log_turns us e) (PlaysTurns us e) before after

-- the turn of a step, with what is noted of it
abbrev pub turn_of : ℕ → Step → List ℕ → Notes → Turn
turn_of at step bytes notes = record { at = at; step = step; bytes = bytes; notes = notes }

-- the turn of this step with these notes, from the step on, leads from here to there, and its offers are told
pub record Applies (at : ℕ) (step : Step) (bytes : List ℕ) (notes : Notes) (e e' : Engine) (log log' : Option Log)
    : Type 0 where
  pub may : IsApplied (turn_of at step bytes notes) e
  pub leaves : applied (turn_of at step bytes notes) e ≡ e'
  pub tells : TellsOffers (offers_of (turn_of at step bytes notes) e) log log'

-- an exchange may come from a provider's state before it and lead to the one after it; where memory was refused,
-- nothing is said of the state after it
abbrev pub MayCome : Option ℕ → (Exchange → Type 0) → (Exchange → Type 0) → Exchange → Type 0
MayCome None before after exchange = (rest : Exchange) → Allows after rest → Allows before (exchange ++ rest)
MayCome (Some j) before after exchange = Allows before exchange

-- the same turn, which brings what its types can hold, and what was asked in it may come from the provider
pub record AppliesNoted (at : ℕ) (step : Step) (bytes : List ℕ) (notes : Notes) (e e' : Engine) (log log' : Option Log)
    (before after : Exchange → Type 0) : Type 0 where
  pub applies : Applies at step bytes notes e e' log log'
  pub fit : IsFit (turn_of at step bytes notes)
  pub exchanged : MayCome notes.starved before after (exchange_of (turn_of at step bytes notes) e)

-- the same of some notes
abbrev pub AppliesLent : ℕ → Step → List ℕ → Engine → Engine → Option Log → Option Log → (Exchange → Type 0)
    → (Exchange → Type 0) → Type 0
AppliesLent at step bytes e e' log log' before after =
    (notes : Notes) × AppliesNoted at step bytes notes e e' log log' before after

-- some one turn leads from here to there, and is told
pub record TakesTurn (e e' : Engine) (log log' : Option Log) : Type 0 where
  pub u : Turn
  pub may : IsTurn u e
  pub told : IsTold u.step
  pub fit : IsFit u
  pub leaves : turn u e ≡ e'
  pub tells : TellsTurn u e log log'

-- the same turn, and what was asked in it may come from the provider
pub record TakesTurnLent (e e' : Engine) (log log' : Option Log) (before after : Exchange → Type 0) : Type 0 where
  pub takes : TakesTurn e e' log log'
  pub exchanged : MayCome takes.u.notes.starved before after (exchange_of takes.u (asks e))

-- some turns lead from here to there and are told: as many as are allowed, or fewer where the session ended
pub record Runs (allowed : ℕ) (e e' : Engine) (log log' : Option Log) : Type 0 where
  pub us : List Turn
  pub leads : Leads us e e'
  pub tells : TellsTurns us e log log'
  pub told : AreTold us
  pub fit : AreFit us
  pub within : length us ≤ allowed
  pub all : has_ended e'.talk ≡ false → length us ≡ allowed

-- the same turns, and what was asked in them may come from the provider
pub record RunsLent (allowed : ℕ) (e e' : Engine) (log log' : Option Log) (before after : Exchange → Type 0)
    : Type 0 where
  pub runs : Runs allowed e e' log log'
  pub exchanged : MayCome (cut_of runs.us) before after (exchanges runs.us e)
