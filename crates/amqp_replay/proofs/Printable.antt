-- What is printable is ASCII, and so is what follows a byte of it.
use Rattle.std.proofs.Common.{◌≡◌, ◌<◌, ◌+◌, ◌==◌, ◌&&◌, ℕ, zero, suc, Bool, true, List, [], ◌∷◌, position, Option, Some, None, unwrap_or, sym, subst, arith}
use Rattle.std.specs.List.{list_all}
use Rattle.std.specs.Str.{IsAscii}
use Rattle.std.proofs.lemmas.Str.{IsAscii-drop}
use Rattle.std.proofs.lemmas.Bool.Decides.{nat_tests}
use Rattle.amqp_replay.specs.Words.{rest_after, after_byte}
use Rattle.amqp_replay.specs.Lines.{is_printable}
use Rattle.amqp_types.proofs.Small.{and-right}

nil_ascii : IsAscii []
nil_ascii i = omega arith

cons_ascii : (b : ℕ) (bs : List ℕ) → b < 128 → IsAscii bs → IsAscii (b ∷ bs)
cons_ascii b bs low rest zero = low
cons_ascii b bs low rest (suc i) = rest i

below : (b : ℕ) (rest : Bool) → (is_printable b && rest) ≡ true → b < 128
below b rest h = grind (arith, nat_tests)

pub IsAscii-printable : (content : List ℕ) → list_all is_printable content ≡ true → IsAscii content
IsAscii-printable [] h = nil_ascii
IsAscii-printable (b ∷ bs) h =
    cons_ascii b bs (below b (list_all is_printable bs) h) (IsAscii-printable bs (and-right (is_printable b) (list_all is_printable bs) h))

rest_ascii : (at : Option ℕ) (text : List ℕ) → IsAscii text → IsAscii (unwrap_or (rest_after at text) [])
rest_ascii None text h = nil_ascii
rest_ascii (Some at) text h = IsAscii-drop text (at + 1) h
