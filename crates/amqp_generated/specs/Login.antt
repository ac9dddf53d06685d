-- Who logs in where a script is generated: guest, whose address names nobody else.
use Rattle.std.specs.Prelude.{List, [], ◌∷◌, ◌++◌, Ok, codes}
use Rattle.amqp_auth.specs.declared.asked.Asked.{Asked}
use Rattle.amqp_auth.specs.declared.asked.Asked.TheVariants as answer

-- the answers to start: PLAIN, and then the name guest and the password guest
abbrev pub guest_login : List Asked
guest_login = answer.Mechanism (codes "PLAIN") ∷ answer.Starter (Ok (0 ∷ codes "guest" ++ 0 ∷ codes "guest")) ∷ []
