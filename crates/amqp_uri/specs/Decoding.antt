-- What a part of a URL says (URL Standard, 1.3).
use Rattle.std.specs.Prelude.{ℕ, List}
use Rattle.std.specs.Str.Lossy.{utf8_lossy}
use Rattle.percent_encoding.specs.Percent.{percent_decode}

-- a part with its escapes decoded, and U+FFFD for what is then not UTF-8
abbrev pub decoded : List ℕ → List ℕ
decoded part = utf8_lossy (percent_decode part)
