-- The laws of generated scripts.
use Rattle.std.proofs.Common.{◌≡◌, ◌≤◌, ◌⊎◌, inl, false, ℕ, List, ◌∷◌, Option, Result, Ok, refl, ap, sym, subst}
use Rattle.amqp_uri.specs.Address.{local}
use Rattle.amqp_auth.specs.declared.asked.Asked.{Asked}
use Rattle.amqp_auth.specs.Providers.{Allows}
use Rattle.amqp_settings.specs.Config.{config_of, no_options}
use Rattle.amqp_engine.specs.declared.given.Given.{Given}
use Rattle.amqp_engine.specs.Account.{IsNew}
use Rattle.amqp_engine.specs.Log.{Log}
use Rattle.amqp_engine.specs.Valid.{Valid}
use Rattle.amqp_replay.specs.declared.status.TheConstants.{CLOSED, SINK_FAILED}
use Rattle.amqp_replay.specs.Grammar.{Scenario, parsed}
use Rattle.amqp_replay.specs.Generator.{generated}
use Rattle.amqp_replay.specs.GeneratedScenario.{frame_comes, generated_scenario}
use Rattle.amqp_replay.specs.Top.{session_of, own_state, AreRunAnswers, IsValid, Generates}
use Rattle.amqp_generated.specs.Login.{guest_login}
use Rattle.amqp_generated.proofs.OpenSession.{now}
use Rattle.amqp_generated.proofs.Steps.{open_steps}
use Rattle.amqp_generated.proofs.Scripts.{broker_open_ok, script_steps, steps-are}
use Rattle.amqp_generated.proofs.AllValid.{guest-valid, guest-answered, guest-exchanged}
use Rattle.amqp_generated.proofs.Answering.{begins-with-guest}

-- what says these steps, and nothing of the client
abbrev saying : List Given → Scenario
saying gs = record { config = config_of local no_options; handed = false; listens = false; steps = gs }

scenario-is : (count : ℕ) → generated_scenario count ≡ saying (script_steps count)
scenario-is count = ap saying (steps-are count)

pub generated-new : (count : ℕ) → IsNew (session_of (generated_scenario count))
generated-new count = (config_of local no_options, inl refl)

-- who logs in as guest answers all that is asked
pub guest-may : (count : ℕ) → count ≤ 2000 → AreRunAnswers (own_state (generated_scenario count)) (generated_scenario count) guest_login
guest-may count within =
    let P : Scenario → Type 0 = λ s. AreRunAnswers (own_state s) s guest_login in
    subst P (sym (scenario-is count))
    (record {
      answered = guest-answered count within;
      allowed = subst (Allows (own_state (saying (script_steps count)))) (sym (guest-exchanged count within)) (refl, (refl, tt));
    })

-- the script is valid with all that may be answered
pub all-valid : (count : ℕ) (answers : List Asked) → count ≤ 2000 → AreRunAnswers (own_state (generated_scenario count)) (generated_scenario count) answers
    → Valid (session_of (generated_scenario count)) (generated_scenario count).steps answers
all-valid count answers within may =
    let P : Scenario → Type 0 = λ s. AreRunAnswers (own_state s) s answers → Valid (session_of s) s.steps answers in
    subst P (sym (scenario-is count)) here may
  where
    here : AreRunAnswers (own_state (saying (script_steps count))) (saying (script_steps count)) answers → Valid (session_of (saying (script_steps count))) (script_steps count) answers
    here may =
        let begins = begins-with-guest (now (frame_comes broker_open_ok) ∷ open_steps count) answers may.answered may.allowed in
        let V : List Asked → Type 0 = λ given. Valid (session_of (saying (script_steps count))) (script_steps count) given in
        subst V (sym begins.1) (guest-valid count within begins.0)

-- also as it is read
pub parsed-valid : (count : ℕ) (answers : List Asked) → count ≤ 2000 → parsed false (generated count) ≡ Ok (generated_scenario count)
    → AreRunAnswers (own_state (generated_scenario count)) (generated_scenario count) answers → IsValid (parsed false (generated count)) answers
parsed-valid count answers within taken may =
    let P : Result Scenario ℕ → Type 0 = λ r. IsValid r answers in
    subst P (sym taken) (all-valid count answers within may)

-- and what the program answers says so
pub generated-status : (count : ℕ) (log : Option Log) (before after : Option (List ℕ)) (status : ℕ) → count ≤ 2000
    → Generates (generated count) (generated_scenario count) log before after status → (status ≡ CLOSED) ⊎ (status ≡ SINK_FAILED)
generated-status count log before after status within g = g.closed (all-valid count g.answers within g.may)
