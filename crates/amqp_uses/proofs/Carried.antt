-- What can be seen of an engine stays carried.
use Rattle.std.proofs.Common.{◌≡◌, ℕ, false, Option, Result, Ok, Err, MatchResult}
use Rattle.amqp_commands.specs.declared.command.Cmd.{Cmd}
use Rattle.amqp_rules.specs.Talk.{has_ended}
use Rattle.amqp_engine.specs.Engine.{Engine}
use Rattle.amqp_engine.specs.Log.{Log}
use Rattle.amqp_engine.specs.Turn.{Turn}
use Rattle.amqp_engine.specs.Carried.{Carried}
use Rattle.amqp_engine.specs.Account.{History, add_command, add_frames, add_turn, HasHistory, account, CarriesOnce}
use Rattle.amqp_uses.specs.Opening.{IsCarried}

-- the law that an engine's history is carried
abbrev pub IsLaw : Type 0
IsLaw = (e : Engine) (h : History) → HasHistory e h → Carried (account e.talk h)

-- a history is that of an engine
pub as-carried : IsLaw → (e : Engine) (h : History) → HasHistory e h → IsCarried e
as-carried law e h has = record { history = h; has = has; carried = law e h has }

-- a command was told, or memory was refused
pub after-command : {A E : Type 0} → IsLaw → (r : Result A E) (c : Cmd) (e e' : Engine)
    → ((h : History) → HasHistory e h → MatchResult r (λ x. HasHistory e' (add_command c h)) (λ x. HasHistory e' h)) → IsCarried e → IsCarried e'
after-command law (Ok x) c e e' told k = as-carried law e' (add_command c k.history) (told k.history k.has)
after-command law (Err x) c e e' told k = as-carried law e' k.history (told k.history k.has)

-- the history is the same
pub after-ask : IsLaw → (e e' : Engine) → ((h : History) → HasHistory e h → HasHistory e' h) → IsCarried e → IsCarried e'
after-ask law e e' same k = as-carried law e' k.history (same k.history k.has)

-- a turn was taken from its step on
pub after-turn : (u : Turn) (e e' : Engine) (log log' : Option Log) → ((h : History) → has_ended e.talk ≡ false → HasHistory e h → CarriesOnce u h e e' log log')
    → has_ended e.talk ≡ false → IsCarried e → IsCarried e'
after-turn u e e' log log' carries running k =
    let on = carries k.history running k.has in
    record { history = add_turn u e k.history; has = on.history; carried = on.carried }

-- frames were taken
pub after-frames : IsLaw → (opened : ℕ) (e e' : Engine) → ((h : History) → HasHistory e h → HasHistory e' (add_frames opened e h)) → IsCarried e → IsCarried e'
after-frames law opened e e' took k = as-carried law e' (add_frames opened e k.history) (took k.history k.has)
