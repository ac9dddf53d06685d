-- Memory that was refused before a turn.
use Rattle.std.proofs.Common.{◌≡◌, ℕ, if◌then◌else◌, Bool, true, false, List, [], true≢false, refl, ap, sym, ◌∙◌, subst, append-nil, arith}
use Rattle.amqp_commands.specs.declared.command.Cmd.{Cmd}
use Rattle.amqp_rules.specs.Talk.{has_ended}
use Rattle.amqp_rules.specs.Changes.{present_at}
use Rattle.amqp_rules.proofs.Keeping.{starve-ends}
use Rattle.amqp_engine.specs.declared.port.Step.TheVariants.{Tick}
use Rattle.amqp_engine.specs.Log.{Log}
use Rattle.amqp_engine.specs.Engine.{Engine, starve_at, starved_before}
use Rattle.amqp_engine.specs.Turn.{Turn, IsApplied, applied, cut_notes}
use Rattle.amqp_engine.specs.Tell.{turn_of}
use Rattle.amqp_engine.specs.Sending.{Sending}
use Rattle.amqp_engine.specs.Saying.{TellsLinks}
use Rattle.amqp_engine.specs.Account.{History, add_turn, HasHistory, applies}
use Rattle.amqp_engine.proofs.Running.{fit-of}
use Rattle.amqp_types.proofs.Small.{if-false}

-- a tick that was cut before its first part
abbrev cut_tick : ℕ → Turn
cut_tick at = turn_of at Tick [] cut_notes

is-cut : (at : ℕ) (e : Engine) → IsApplied (cut_tick at) e
is-cut at e = record { answers = refl; asked = (omega arith, tt); cut = refl }

-- the history is the same
pub starved-history : (at : ℕ) (e : Engine) (h : History) → HasHistory e h → HasHistory (starved_before at e) h
starved-history at e h has = by (has_ended e.talk) refl
  where
    same : add_turn (cut_tick at) e h ≡ h
    same = ap (λ (cs : List Cmd). record h { commands = cs }) (append-nil h.commands)

    by : (b : Bool) → has_ended e.talk ≡ b → HasHistory (if b then e else starve_at at 0 e) h
    by true over = has
    by false running =
        let Q : Engine → Type 0 = λ x. HasHistory x h in
        let R : History → Type 0 = λ x. HasHistory (applied (cut_tick at) e) x in
        subst Q (if-false (has_ended e.talk) e (starve_at at 0 e) running) (subst R same (applies (cut_tick at) running (is-cut at e) tt (fit-of at Tick [] cut_notes tt (λ i. omega arith) tt) has))

-- and nothing is told
pub starved-told : (at : ℕ) (e : Engine) (ss : List Sending) (log : Log) → TellsLinks e ss log → TellsLinks (starved_before at e) ss log
starved-told at e ss log h = by (has_ended e.talk)
  where
    by : (b : Bool) → TellsLinks (if b then e else starve_at at 0 e) ss log
    by true = h
    by false = record { links = h.links; asked = λ running. absurd (true≢false (sym (starve-ends (present_at at e.talk)) ∙ running)) }
