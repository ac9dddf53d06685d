-- The history of an engine that is new, and of turns.
use Rattle.std.proofs.Common.{◌≡◌, inl, inr, List, [], ◌∷◌, refl, sym, subst}
use Rattle.amqp_commands.specs.declared.command.Cmd.TheVariants.{Listen}
use Rattle.amqp_rules.specs.Talk.{Talk}
use Rattle.amqp_engine.specs.Engine.{Engine, begin}
use Rattle.amqp_engine.specs.Turn.{Turn, AreTold, AreFit, asks, turn, turns, AreTurns}
use Rattle.amqp_engine.specs.Sending.{sendings_from}
use Rattle.amqp_engine.specs.Account.{IsNew, History, nothing_told, add_turn, add_turns, HasHistory, new, asked, applies, told}
use Rattle.amqp_engine.proofs.Over.{asks-running}

-- a session that was told nothing, but perhaps to listen
pub new-history : (t : Talk) → IsNew t → HasHistory (begin t) nothing_told
new-history t is =
    let P : Talk → Type 0 = λ x. HasHistory (begin x) nothing_told in
    elim is.1 [
      | inl same ↦ subst P (sym same) (new is.0)
      | inr same ↦ subst P (sym same) (told Listen tt tt (new is.0))
    ]

-- turns that follow
pub turns-history : (us : List Turn) (e : Engine) (h : History) → AreTurns us e → AreTold us → AreFit us → HasHistory e h → HasHistory (turns us e) (add_turns us e h)
turns-history [] e h may is_told fit has = has
turns-history (u ∷ us) e h may is_told fit has =
    turns-history us (turn u e) (add_turn u (asks e) h) may.1 is_told.1 fit.1 (applies u (asks-running e may.0.running) may.0.applied is_told.0 fit.0 (asked has))

-- what they send is in it
pub turns-sendings : (us : List Turn) (e : Engine) (h : History) → (add_turns us e h).sent ≡ sendings_from us e h.sent
turns-sendings [] e h = refl
turns-sendings (u ∷ us) e h = turns-sendings us (turn u e) (add_turn u (asks e) h)
