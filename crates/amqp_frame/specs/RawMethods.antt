-- Methods of classes that are passed through (AMQP 0-9-1, 4.2.4): a class, a method, and arguments that are not read.
use Rattle.std.specs.Prelude.{ℕ, List, [], ◌∷◌, ◌++◌, drop, slice_index}
use Rattle.std.specs.Int.{w16, to_be_bytes, from_be_bytes}

-- a method that is passed through
pub record OtherMethod : Type 0 where
  pub class : ℕ
  pub method : ℕ
  pub arguments : List ℕ

-- the payload of its frame
abbrev pub spell_raw_method : OtherMethod → List ℕ
spell_raw_method m = to_be_bytes w16 m.class ++ (to_be_bytes w16 m.method ++ m.arguments)

-- the method that a payload holds: two octets of class, two of method, and the arguments
abbrev pub raw_method_of : List ℕ → OtherMethod
raw_method_of payload = record {
  class = from_be_bytes w16 (slice_index payload 0 ∷ slice_index payload 1 ∷ []);
  method = from_be_bytes w16 (slice_index payload 2 ∷ slice_index payload 3 ∷ []);
  arguments = drop 4 payload;
}
