-- What a provider answers that goes by an address.
use Rattle.std.specs.Prelude.{ℕ, List, [], ◌∷◌, ◌++◌, ◌≡◌, codes, bytes_eq, unwrap_or, None, Result, Ok, Err, if◌then◌else◌}
use Rattle.amqp_uri.specs.declared.authority.AMQPUserInfo.{AMQPUserInfo}
use Rattle.amqp_uri.specs.declared.uri.AMQPUri.{AMQPUri}
use Rattle.amqp_uri.specs.declared.mechanism.SASLMechanism.{SASLMechanism}
use Rattle.amqp_uri.specs.declared.mechanism.SASLMechanism.TheVariants.{Plain, RabbitCrDemo}
use Rattle.amqp_uri.specs.Login.{Login, sasl_text, challenge_text, login_text}
use Rattle.amqp_uri.specs.Mechanisms.{name_of}
use Rattle.amqp_auth.specs.declared.asked.Question.{Question}
use Rattle.amqp_auth.specs.declared.asked.Question.TheVariants as question
use Rattle.amqp_auth.specs.declared.asked.Asked.{Asked}
use Rattle.amqp_auth.specs.declared.asked.Asked.TheVariants as answer
use Rattle.amqp_promise.specs.Shown.{shown}
use Rattle.amqp_auth.specs.Providers.{Exchange}

-- what contracts see of a `DefaultAuthProvider`
pub record DefaultAuth : Type 0 where
  -- the mechanism of SASL
  pub mechanism : SASLMechanism
  -- as whom the client logs in
  pub login : Login
  -- how often it refused
  pub refusals : ℕ

-- as whom an address logs in
abbrev pub login_of : AMQPUserInfo → Login
login_of info = record { username = info.username; password = info.password }

-- the provider of an address: by PLAIN, where the address names no mechanism
abbrev pub default_of : AMQPUri → DefaultAuth
default_of uri =
    record {
      mechanism = unwrap_or uri.query.auth_mechanism Plain;
      login = login_of uri.authority.userinfo;
      refusals = 0;
    }

-- the refusal of a challenge to a mechanism that knows none
abbrev pub stray_challenge : SASLMechanism → List ℕ → List ℕ
stray_challenge mechanism challenge =
    codes "Received invalid Connection.Secure with challenge '"
    ++ (shown challenge ++ (codes "' for SASL mechanism " ++ (name_of mechanism ++ codes " with default provider.")))

-- the refusal of a challenge that is not RABBIT-CR-DEMO's
abbrev pub wrong_challenge : List ℕ → List ℕ
wrong_challenge challenge =
    name_of RabbitCrDemo ++ codes ": received invalid challenge '" ++ shown challenge ++ codes "'"

-- the answer to a challenge by RABBIT-CR-DEMO
abbrev pub demo_answer : Login → List ℕ → Result (List ℕ) (List ℕ)
demo_answer login challenge =
    if bytes_eq challenge challenge_text then Ok (login_text login) else Err (wrong_challenge challenge)

-- the answer to a challenge; the other mechanisms know none
abbrev pub challenge_answer : SASLMechanism → Login → List ℕ → Result (List ℕ) (List ℕ)
challenge_answer RabbitCrDemo login challenge = demo_answer login challenge
challenge_answer mechanism login challenge = Err (stray_challenge mechanism challenge)

-- the refusal where there is no other secret to be had
abbrev pub no_refresh : List ℕ
no_refresh = codes "Refresh not supported on current auth provider"

-- the answer to each question
abbrev pub default_answer : SASLMechanism → Login → Question → Asked
default_answer mechanism login question.Mechanism = answer.Mechanism (name_of mechanism)
default_answer mechanism login question.Starter = answer.Starter (Ok (sasl_text mechanism login))
default_answer mechanism login (question.Challenge challenge) =
    answer.Challenge (challenge_answer mechanism login challenge)
default_answer mechanism login question.ValidFor = answer.ValidFor None
default_answer mechanism login question.Refresh = answer.Refreshed (Err no_refresh)

-- all answers of an exchange are those of a function
abbrev pub AnswersEach : (Question → Asked) → Exchange → Type 0
AnswersEach answers [] = Unit {0}
AnswersEach answers ((asked, given) ∷ rest) = (given ≡ answers asked) × AnswersEach answers rest
