-- What the provider answers to a rule, by cases.
use Rattle.std.proofs.Common.{◌≡◌, ℕ, List, ◌∷◌, true, Result}
use Rattle.amqp_auth.specs.declared.asked.Asked.{Asked}
use Rattle.amqp_auth.specs.declared.asked.Asked.TheVariants as answer
use Rattle.amqp_rules.specs.Talk.{Talk}
use Rattle.amqp_rules.specs.ConnectionMethods.{started, on_start, challenged, on_secure}
use Rattle.amqp_rules.specs.Ticks.{asks_validity, has_expired, refreshed, refresh, validity_told, secret_due}
use Rattle.amqp_types.proofs.Small.{if_case, if_by}

-- nothing is done by other answers than those that were asked for
pub start-case : (P : Talk → Type 0) (answers : List Asked) (t : Talk) → P t
    → ((mechanism : List ℕ) (said : Result (List ℕ) (List ℕ)) → P (started mechanism said t)) → P (on_start answers t)
start-case P (answer.Mechanism mechanism ∷ answer.Starter said ∷ later) t kept by = by mechanism said
start-case P _ t kept by = kept

pub secure-case : (P : Talk → Type 0) (answers : List Asked) (t : Talk) → P t
    → ((said : Result (List ℕ) (List ℕ)) → P (challenged said t)) → P (on_secure answers t)
secure-case P (answer.Challenge said ∷ later) t kept by = by said
secure-case P _ t kept by = kept

refresh-case : (P : Talk → Type 0) (answers : List Asked) (t : Talk) → P t
    → ((said : Result (List ℕ) (List ℕ)) → P (refreshed said t)) → P (refresh answers t)
refresh-case P (answer.Refreshed said ∷ later) t kept by = by said
refresh-case P _ t kept by = kept

validity-case : (P : Talk → Type 0) (answers : List Asked) (t : Talk) → P t
    → ((said : Result (List ℕ) (List ℕ)) → P (refreshed said t)) → P (validity_told answers t)
validity-case P (answer.ValidFor time ∷ later) t kept by =
    if_case P (has_expired time t) (refresh later t) t (refresh-case P later t kept by) kept
validity-case P _ t kept by = kept

-- a secret is refreshed only while the connection is open
pub secret-case : (P : Talk → Type 0) (answers : List Asked) (t : Talk) → P t
    → (asks_validity t ≡ true → (said : Result (List ℕ) (List ℕ)) → P (refreshed said t)) → P (secret_due answers t)
secret-case P answers t kept by =
    if_by P (asks_validity t) (validity_told answers t) t (λ asks. validity-case P answers t kept (by asks)) (λ idle. kept)
