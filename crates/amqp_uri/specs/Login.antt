-- What a client says to log in, by the mechanisms.
use Rattle.std.specs.Prelude.{ℕ, List, [], ◌∷◌, ◌++◌, codes}
use Rattle.amqp_types.specs.Value.{scalar, long_string, no_pairs, pair}
use Rattle.amqp_types.specs.Spelling.{spell_pairs}
use Rattle.amqp_uri.specs.declared.mechanism.SASLMechanism.{SASLMechanism}
use Rattle.amqp_uri.specs.declared.mechanism.SASLMechanism.TheVariants.{Plain, AMQPlain, External, Anonymous, RabbitCrDemo}

-- a user and a password, as contracts see `Credentials`
pub record Login : Type 0 where
  -- the user
  pub username : List ℕ
  -- the password
  pub password : List ℕ

-- PLAIN (RFC 4616, 2): no identity to act as, the user and the password, each behind a 00
abbrev pub plain_text : Login → List ℕ
plain_text login = 0 ∷ login.username ++ 0 ∷ login.password

-- AMQPLAIN: two pairs as a field table has them (AMQP 0-9-1, 4.2.5.5), without the table's length
abbrev pub amqplain_text : Login → List ℕ
amqplain_text login =
    spell_pairs
    (pair (codes "LOGIN") (scalar (long_string login.username))
    (pair (codes "PASSWORD") (scalar (long_string login.password)) no_pairs))

-- what a client says by a mechanism before anything else
abbrev pub sasl_text : SASLMechanism → Login → List ℕ
sasl_text Plain login = plain_text login
sasl_text AMQPlain login = amqplain_text login
sasl_text External login = []
sasl_text Anonymous login = []
sasl_text RabbitCrDemo login = login.username

-- by RABBIT-CR-DEMO: what the server then asks
abbrev pub challenge_text : List ℕ
challenge_text = codes "Please tell me your password"

-- by RABBIT-CR-DEMO: what the client answers
abbrev pub login_text : Login → List ℕ
login_text login = codes "My password is " ++ login.password
