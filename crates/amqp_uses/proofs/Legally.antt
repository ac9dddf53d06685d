-- What an engine has said stays legal.
use Rattle.std.proofs.Common.{◌≡◌, ◌⊎◌, inl, inr, ℕ, Option, Result, Ok, Err, MatchResult, sym, subst}
use Rattle.amqp_auth.specs.Providers.{Exchange}
use Rattle.amqp_commands.specs.declared.command.Cmd.{Cmd}
use Rattle.amqp_settings.specs.Config.{Config}
use Rattle.amqp_rules.specs.Talk.{start}
use Rattle.amqp_engine.specs.Engine.{Engine, begin}
use Rattle.amqp_engine.specs.Log.{Log}
use Rattle.amqp_engine.specs.Account.{History, nothing_told, add_command, add_answer, add_turns, HasHistory, new, Ran}
use Rattle.amqp_uses.specs.Opening.{SaysLegally}

-- a new engine has said nothing
pub begins : (config : Config) (e : Engine) → e ≡ begin (start config) → SaysLegally e
begins config e is = subst SaysLegally (sym is) (record { history = nothing_told; has = new config; legal = tt })

-- so it is after a run
pub ran : (n : ℕ) (e e' : Engine) (log log' : Option Log) (before after : Exchange → Type 0) → Ran n e e' log log' before after → SaysLegally e → SaysLegally e'
ran n e e' log log' before after r s =
    let on = r.carried s.history s.has in
    record { history = add_turns r.runs.us e s.history; has = on.history; legal = on.legal }

-- after a command, whether it was told or memory was refused
pub commanded : {A E : Type 0} (r : Result A E) (c : Cmd) (e e' : Engine)
    → ((h : History) → HasHistory e h → MatchResult r (λ x. HasHistory e' (add_command c h)) (λ x. HasHistory e' h)) → SaysLegally e → SaysLegally e'
commanded (Ok x) c e e' told s = record { history = add_command c s.history; has = told s.history s.has; legal = s.legal }
commanded (Err x) c e e' told s = record { history = s.history; has = told s.history s.has; legal = s.legal }

-- and once an answer was taken
pub answered : (number : ℕ) (e e' : Engine) → ((h : History) → HasHistory e h → (e' ≡ e) ⊎ HasHistory e' (add_answer number e h)) → SaysLegally e → SaysLegally e'
answered number e e' took s = elim (took s.history s.has) [
  | inl same ↦ subst SaysLegally (sym same) s
  | inr has ↦ record { history = add_answer number e s.history; has = has; legal = s.legal }
]
