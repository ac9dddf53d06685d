use Rattle.std.proofs.Common.{◌≡◌, ◌∙◌, ℕ, List, ◌++◌, ap, subst}
use Rattle.std.specs.Prelude.{codes, IfOk}
use Rattle.std.specs.String.{string_bytes}
use Rattle.amqp_uri.specs.declared.mechanism.SASLMechanism.TheVariants.{Plain}
use Rattle.amqp_uri.specs.Mechanisms.{name_of}
use Rattle.amqp_promise.specs.Shown.{shown}
use Rattle.amqp_auth.proofs.token_auth.unknown_challenge.Goals as goal

pub returns : goal.returns
returns c =
    let said : List ℕ → List ℕ → List ℕ = λ name challenge.
    codes "Received Connection.Secure with challenge '" ++ (shown challenge ++ (codes "' but we don't know how to handle it for " ++ (name ++ codes "."))) in
    let made : string_bytes c.in_ok-text.text ≡ said c.name-name.result.now c.as_bytes.result.now = c.in_ok-text.ensures.ok in
    let P : List ℕ → Type 0 = λ x. IfOk c.new.result (λ text. text ≡ x) in
    subst P
    (c.as_str.ensures.value
    ∙ made
    ∙ ap (λ x. said x c.as_bytes.result.now) c.name-name.ensures
    ∙ ap (said (name_of Plain)) c.as_bytes.ensures.bytes)
    c.new.ensures
