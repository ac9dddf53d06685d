-- What each call makes of what stands behind the lock.
use Rattle.std.specs.Prelude.{◌≡◌, ◌+◌, ◌^◌, ℕ, nat_lt, if◌then◌else◌, Bool, false, List, [], ◌∷◌, ◌++◌, length, Option, Some, is_some, Err, option_map}
use Rattle.amqp_promise.specs.declared.error.ErrorKind.{ErrorKind}
use Rattle.amqp_auth.specs.Providers.{Exchange}
use Rattle.amqp_commands.specs.declared.command.Cmd.{Cmd}
use Rattle.amqp_rules.specs.Commands.{command, promise_of}
use Rattle.amqp_rules.specs.Talk.{has_ended, end_of}
use Rattle.amqp_engine.specs.declared.port.Step.{Step}
use Rattle.amqp_engine.specs.Engine.{Engine, with_talk, starve_at}
use Rattle.amqp_engine.specs.Log.{Log}
use Rattle.amqp_engine.specs.Turn.{Notes, asks}
use Rattle.amqp_engine.specs.Tell.{AppliesNoted, log_asks, turn_of}
use Rattle.amqp_engine.specs.Causes.{IsCause}
use Rattle.amqp_journal.specs.declared.entry.Entry.{Entry}
use Rattle.amqp_journal.specs.declared.entry.Entry.TheVariants.{Turn, Called}
use Rattle.amqp_journal.specs.Journal.{turned, cut_before}
use Rattle.amqp_hub.specs.Passes.{set_made}
use Rattle.amqp_hub.specs.Guarded.{Beginning, Guarded, guarded}

-- the engine is changed
abbrev pub with_engine : Engine → Guarded → Guarded
with_engine e h = guarded e h.base h.journal h.counts

-- ---- commands

-- a command of a caller: its entry holds the pass, the place among the commands of the pass, and the promise
abbrev pub called : ℕ → ℕ → Cmd → Guarded → Guarded
called pass nth c h =
    guarded (with_talk (command c) h.engine) h.base (h.journal ++ Called pass nth c (promise_of c h.engine.talk) ∷ [])
    (set_made pass nth h.counts)

-- the index of the entry that comes next: how many there were, those too that were let go
abbrev pub next_entry : Guarded → ℕ
next_entry h = h.base.entries + length h.journal

-- ---- turns

-- a turn is applied, which was cut or was not, a link that is then wanted is asked for, and the turn's entry, with what
-- was noted of it, goes last; where the session ends with an error, the turn brought that about
pub record TakesStep (is_cut : Bool) (at : ℕ) (step : Step) (bytes : List ℕ) (e e' : Engine)
    (entries entries' : List Entry) (log log' : Option Log) (before after : Exchange → Type 0) : Type 0 where
  pub notes : Notes
  pub cut : is_some notes.starved ≡ is_cut
  pub engine : Engine
  pub told : Option Log
  pub applies : AppliesNoted at step bytes notes e engine log told before after
  pub asked : e' ≡ asks engine
  pub entered : entries' ≡ entries ++ Turn (turned at step bytes notes) ∷ []
  pub asks_told : log' ≡ option_map (log_asks engine) told
  pub cause : (k : ErrorKind) → has_ended e.talk ≡ false → end_of e'.talk ≡ Some (Err k)
      → IsCause k (turn_of at step bytes notes) e

-- memory for the entry of a turn was refused: the turn is cut before its first part, and its entry stands in the spare
-- place; what has ended does not change
abbrev pub starved_at : ℕ → Step → Guarded → Guarded
starved_at at step h =
    if has_ended h.engine.talk then h
    else guarded (starve_at at 0 h.engine) h.base (h.journal ++ Turn (cut_before at step) ∷ []) h.counts

-- ---- settling

-- so many entries were let go that no more are
abbrev pub is_past : Guarded → Bool
is_past h = nat_lt (2 ^ 63) (next_entry h)

-- the journal begins anew where the engine stands
abbrev pub begun_anew : Guarded → Guarded
begun_anew h =
    if is_past h then h
    else guarded h.engine (record { engine = h.engine; entries = next_entry h; made = h.counts }) [] h.counts

-- how many entries are let go
abbrev pub let_go : Guarded → ℕ
let_go h = if is_past h then 0 else length h.journal
