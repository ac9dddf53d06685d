-- Octets as a text that can be printed.
use Rattle.std.specs.Prelude.{ℕ, ◌+◌, ◌/◌, ◌%◌, ◌&&◌, ◌==◌, not, nat_le, nat_lt, if◌then◌else◌, Bool, List, [], ◌∷◌}
use Rattle.std.specs.List.{flat_map}

-- a printable ASCII character other than the backslash
abbrev pub is_plain : ℕ → Bool
is_plain b = nat_le 0x20 b && nat_le b 0x7e && not (b == 92)

-- a lower-case hexadecimal digit
abbrev pub hexadecimal_digit : ℕ → ℕ
hexadecimal_digit n = if nat_lt n 10 then 48 + n else 87 + n

-- a plain octet stands for itself, and any other is `\x` with two digits
abbrev pub shown_octet : ℕ → List ℕ
shown_octet b = if is_plain b then b ∷ [] else 92 ∷ 120 ∷ hexadecimal_digit (b / 16) ∷ hexadecimal_digit (b % 16) ∷ []

-- all of them
abbrev pub shown : List ℕ → List ℕ
shown octets = flat_map shown_octet octets
