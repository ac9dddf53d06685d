-- The SASL mechanisms by their names.
use Rattle.std.specs.Prelude.{ℕ, List, codes, Option, Some, None, if◌then◌else◌}
use Rattle.std.specs.Str.{str_eq_ignore_ascii_case}
use Rattle.amqp_uri.specs.declared.mechanism.SASLMechanism.{SASLMechanism}
use Rattle.amqp_uri.specs.declared.mechanism.SASLMechanism.TheVariants.{Plain, AMQPlain, External, Anonymous, RabbitCrDemo}

-- the name by which a server offers a mechanism (AMQP 0-9-1, connection.start)
abbrev pub name_of : SASLMechanism → List ℕ
name_of Plain = codes "PLAIN"
name_of AMQPlain = codes "AMQPLAIN"
name_of External = codes "EXTERNAL"
name_of Anonymous = codes "ANONYMOUS"
name_of RabbitCrDemo = codes "RABBIT-CR-DEMO"

-- the mechanism that an address names, without regard to ASCII case
abbrev pub mechanism_named : List ℕ → Option SASLMechanism
mechanism_named value =
    if str_eq_ignore_ascii_case value (codes "plain") then Some Plain
    else (if str_eq_ignore_ascii_case value (codes "amqplain") then Some AMQPlain
    else (if str_eq_ignore_ascii_case value (codes "external") then Some External
    else (if str_eq_ignore_ascii_case value (codes "anonymous") then Some Anonymous
    else (if str_eq_ignore_ascii_case value (codes "rabbit-cr-demo") then Some RabbitCrDemo
    else None))))
