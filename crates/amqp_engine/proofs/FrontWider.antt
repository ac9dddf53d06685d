-- A frame that a reader takes within a limit is taken within a greater one.
use Rattle.std.proofs.Common.{◌≡◌, ◌∙◌, sym, refl, ◌≤◌, ℕ, ◌+◌, ◌==◌, nat_lt, if◌then◌else◌, Bool, true, false, List, [], ◌∷◌, Option, None, Some, arith}
use Rattle.std.specs.Int.{w16, w32}
use Rattle.std.specs.Option.{option_map_or}
use Rattle.std.proofs.lemmas.Bool.{ltb-false}
use Rattle.amqp_types.specs.Reading.{number_at, ◌⊗◌}
use Rattle.amqp_types.proofs.Small.{if-true, if-false, not-below}
use Rattle.amqp_frame.specs.declared.frame.Frame.{Frame}
use Rattle.amqp_frame.specs.declared.frame.Read.{Read}
use Rattle.amqp_frame.specs.declared.frame.Read.TheVariants.{Whole, More, TooLarge, Bad}
use Rattle.amqp_frame.specs.FrameReading.{front, framed, sized, header, is_type_octet}

wider-if : (limit most size n : ℕ) (r : Read) (f : Frame) → limit ≤ most → (if nat_lt limit (size + 8) then TooLarge size else r) ≡ Whole f n
    → (if nat_lt most (size + 8) then TooLarge size else r) ≡ Whole f n
wider-if limit most size n r f le is = by (nat_lt limit (size + 8)) refl where
  by : (b : Bool) → nat_lt limit (size + 8) ≡ b → (if nat_lt most (size + 8) then TooLarge size else r) ≡ Whole f n
  by true large = absurd (let clash : TooLarge size ≡ Whole f n = sym (if-true (nat_lt limit (size + 8)) (TooLarge size) r large) ∙ is in cc)
  by false within =
      if-false (nat_lt most (size + 8)) (TooLarge size) r (not-below most (size + 8) (omega (arith, ltb-false limit (size + 8) within, le)))
      ∙ sym (if-false (nat_lt limit (size + 8)) (TooLarge size) r within) ∙ is

sized-wider : (type limit most channel size n : ℕ) (bytes : List ℕ) (f : Frame) → limit ≤ most → sized type limit channel size bytes ≡ Whole f n
    → sized type most channel size bytes ≡ Whole f n
unfolding sized
sized-wider type limit most channel size n bytes f le is = wider-if limit most size n _ f le is

read-wider : (type limit most n : ℕ) (f : Frame) → limit ≤ most → (o : Option ((ℕ × ℕ) × List ℕ))
    → option_map_or (λ p. sized type limit p.0.0 p.0.1 p.1) o More ≡ Whole f n → option_map_or (λ p. sized type most p.0.0 p.0.1 p.1) o More ≡ Whole f n
read-wider type limit most n f le None is = is
read-wider type limit most n f le (Some p) is = sized-wider type limit most p.0.0 p.0.1 n p.1 f le is

framed-wider : (type limit most n : ℕ) (bytes : List ℕ) (f : Frame) → limit ≤ most → framed type limit bytes ≡ Whole f n → framed type most bytes ≡ Whole f n
unfolding framed
framed-wider type limit most n bytes f le is = read-wider type limit most n f le ((number_at w16 ⊗ number_at w32) bytes) is

octet-wider : (a b : Bool) (type limit most n : ℕ) (h : Read) (rest : List ℕ) (f : Frame) → limit ≤ most
    → (if a then h else if b then framed type limit rest else Bad) ≡ Whole f n → (if a then h else if b then framed type most rest else Bad) ≡ Whole f n
octet-wider true b type limit most n h rest f le is = is
octet-wider false true type limit most n h rest f le is = framed-wider type limit most n rest f le is
octet-wider false false type limit most n h rest f le is = is

pub front-wider : (bytes : List ℕ) (limit most n : ℕ) (f : Frame) → limit ≤ most → front bytes limit ≡ Whole f n → front bytes most ≡ Whole f n
unfolding front
front-wider [] limit most n f le is = is
front-wider (o ∷ rest) limit most n f le is = octet-wider (o == 65) (is_type_octet o) o limit most n (header rest) rest f le is
