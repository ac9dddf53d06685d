-- What the properties of a message are spelled as is read as these, and what is read was spelled so.
use Rattle.std.proofs.Common.{◌≡◌, ℕ, zero, suc, ◌+◌, ◌*◌, ◌/◌, ◌%◌, ◌^◌, ◌<◌, ◌≤◌, ◌==◌, ◌&&◌, Bool, true, false, cond, eqb, nat_le, List, [], ◌∷◌, ◌++◌, length, Option, Some, None, is_some, IfSome, refl, sym, ap, subst, ◌∙◌, arith}
use Rattle.std.proofs.Math.Nat.{pow-suc}
use Rattle.std.proofs.lemmas.Bool.{eqb-true, eqb-false, leb-true, le-leb}
use Rattle.std.proofs.lemmas.List.{append-nil, nil_from_length}
use Rattle.std.specs.Int.{w16, w32, w64, to_be_bytes}
use Rattle.amqp_types.specs.Forms.{Form, IsOctets, ◌▸◌, OctetOf, NumberOf, ShortStringOf, LongStringOf, spell_short_string, spell_long_string}
use Rattle.amqp_types.specs.Reading.{Reader, number_at, ◌⊗◌}
use Rattle.amqp_types.proofs.Readers.{IsReader, IsOctets-rest, bind_some, octet_reader, number16_reader, number64_reader, both_reader, map_again, map_takes, short_string_reader, long_string_reader}
use Rattle.amqp_types.proofs.Small.{some_is, and-left, and-right}
use Rattle.amqp_frame.specs.FrameReading.{exactly}
use Rattle.amqp_methods.specs.Said.{bits}
use Rattle.amqp_methods.specs.Properties.{Fields, First, Second, Fit, present, flags_of, bit, is_short_enough, first_fit, second_fit, spell_present, spell_octet, spell_number, spell_first, spell_second, spell_fields, field_at, first_at, second_at, properties_in}

-- ---- a field that may be there

-- what is there has its form, and is there by the flag; of what is not there nothing stands
abbrev FieldOf : {A : Type 0} → Bool → (A → Form) → Option A → Form
FieldOf b F (Some x) text = (b ≡ true) × F x text
FieldOf b F None text = (b ≡ false) × (text ≡ [])

module _ {A : Type 0} {F : A → Form} {read : Reader A} (first : IsReader F read) where
  field_again :
      (b : Bool) (x : Option A) (text rest : List ℕ) → FieldOf b F x text →
      field_at b read (text ++ rest) ≡ Some (x, rest)
  field_again true (Some x) text rest f = map_again first Some x text rest f.1
  field_again true None text rest f = absurd cc
  field_again false (Some x) text rest f = absurd cc
  field_again false None text rest f = ap (λ (t : List ℕ). Some (None, t ++ rest)) f.1

  field_takes :
      (b : Bool) (bytes : List ℕ) (x : Option A) (rest : List ℕ) → IsOctets bytes →
      field_at b read bytes ≡ Some (x, rest) → (text : List ℕ) × (bytes ≡ text ++ rest) × FieldOf b F x text
  field_takes true bytes x rest fits e =
      let t = map_takes first Some bytes x rest fits e in
      (t.1, t.3, subst (λ (o : Option A). FieldOf true F o t.1) t.2 (refl, t.4))
  field_takes false bytes x rest fits e =
      let both : ◌≡◌ {A = Option A × List ℕ} (None, bytes) (x, rest) = some_is (None, bytes) (x, rest) e in
      let none : None ≡ x = ap (λ (p : Option A × List ℕ). p.0) both in
      ([], ap (λ (p : Option A × List ℕ). p.1) both, subst (λ (o : Option A). FieldOf false F o []) none (refl, refl))

  field_reader : (b : Bool) → IsReader (FieldOf b F) (field_at b read)
  field_reader b = record { again = field_again b; takes = field_takes b }

  -- a field has as many as its flag says
  field_flag : (b : Bool) (x : Option A) (text : List ℕ) → FieldOf b F x text → is_some x ≡ b
  field_flag b (Some x) text f = sym f.0
  field_flag b None text f = sym f.0

-- ---- the fourteen

abbrev FirstOf : ℕ → First → Form
FirstOf n f =
    FieldOf (bit 15 n) ShortStringOf f.0 ▸ FieldOf (bit 14 n) ShortStringOf f.1.0
    ▸ FieldOf (bit 13 n) LongStringOf f.1.1.0 ▸ FieldOf (bit 12 n) OctetOf f.1.1.1.0
    ▸ FieldOf (bit 11 n) OctetOf f.1.1.1.1.0 ▸ FieldOf (bit 10 n) ShortStringOf f.1.1.1.1.1.0
    ▸ FieldOf (bit 9 n) ShortStringOf f.1.1.1.1.1.1

abbrev SecondOf : ℕ → Second → Form
SecondOf n f =
    FieldOf (bit 8 n) ShortStringOf f.0 ▸ FieldOf (bit 7 n) ShortStringOf f.1.0
    ▸ FieldOf (bit 6 n) (NumberOf w64) f.1.1.0 ▸ FieldOf (bit 5 n) ShortStringOf f.1.1.1.0
    ▸ FieldOf (bit 4 n) ShortStringOf f.1.1.1.1.0 ▸ FieldOf (bit 3 n) ShortStringOf f.1.1.1.1.1.0
    ▸ FieldOf (bit 2 n) ShortStringOf f.1.1.1.1.1.1

first_reader : (n : ℕ) → IsReader (FirstOf n) (first_at n)
first_reader n =
    both_reader (field_reader short_string_reader (bit 15 n)) (both_reader (field_reader short_string_reader (bit 14 n))
    (both_reader (field_reader long_string_reader (bit 13 n)) (both_reader (field_reader octet_reader (bit 12 n))
    (both_reader (field_reader octet_reader (bit 11 n)) (both_reader (field_reader short_string_reader (bit 10 n))
    (field_reader short_string_reader (bit 9 n)))))))

second_reader : (n : ℕ) → IsReader (SecondOf n) (second_at n)
second_reader n =
    both_reader (field_reader short_string_reader (bit 8 n)) (both_reader (field_reader short_string_reader (bit 7 n))
    (both_reader (field_reader number64_reader (bit 6 n)) (both_reader (field_reader short_string_reader (bit 5 n))
    (both_reader (field_reader short_string_reader (bit 4 n)) (both_reader (field_reader short_string_reader (bit 3 n))
    (field_reader short_string_reader (bit 2 n)))))))

both_of : (n : ℕ) → IsReader (λ f. FirstOf n f.0 ▸ SecondOf n f.1) (first_at n ⊗ second_at n)
both_of n = both_reader (first_reader n) (second_reader n)

-- ---- flags

-- what stands at a place of a list of bits, and false behind its end
abbrev at : ℕ → List Bool → Bool
at k [] = false
at zero (b ∷ bs) = b
at (suc k) (b ∷ bs) = at k bs

none_set : (k : ℕ) → bit k 0 ≡ false
none_set zero = refl
none_set (suc k) = none_set k

odd : (b : Bool) (n : ℕ) → eqb ((cond b 1 0 + 2 * n) % 2) 1 ≡ b
odd true n = let one : (1 + 2 * n) % 2 ≡ 1 = omega arith in rw one refl
odd false n = let none : (0 + 2 * n) % 2 ≡ 0 = omega arith in rw none refl

half : (b : Bool) (n : ℕ) → (cond b 1 0 + 2 * n) / 2 ≡ n
half true n = omega arith
half false n = omega arith

-- the bits of a list are those
bit_of_bits : (bs : List Bool) (k : ℕ) → bit k (bits bs) ≡ at k bs
bit_of_bits [] k = none_set k
bit_of_bits (b ∷ bs) zero = odd b (bits bs)
bit_of_bits (b ∷ bs) (suc k) = ap (bit k) (half b (bits bs)) ∙ bit_of_bits bs k

quarter : (n : ℕ) → 4 * n / 2 / 2 ≡ n
quarter n = omega arith

bit_of_flags : (bs : List Bool) (k : ℕ) → bit (suc (suc k)) (4 * bits bs) ≡ at k bs
bit_of_flags bs k = ap (bit k) (quarter (bits bs)) ∙ bit_of_bits bs k

-- so many bits of a number, the lowest first
abbrev tests : ℕ → ℕ → List Bool
tests zero n = []
tests (suc k) n = (n % 2 == 1) ∷ tests k (n / 2)

parity : (n : ℕ) → cond (eqb (n % 2) 1) 1 0 + 2 * (n / 2) ≡ n
parity n = by (eqb (n % 2) 1) refl
  where
    by : (b : Bool) → eqb (n % 2) 1 ≡ b → cond b 1 0 + 2 * (n / 2) ≡ n
    by true is = let one = eqb-true (n % 2) 1 is in omega (arith, one)
    by false is = let not_one = eqb-false (n % 2) 1 is in omega (arith, not_one)

-- a number of so many bits is its bits
bits_of_tests : (k n : ℕ) → n < 2 ^ k → bits (tests k n) ≡ n
bits_of_tests zero n lt = omega (arith, lt)
bits_of_tests (suc k) n lt =
    let below : n / 2 < 2 ^ k = omega (arith, lt) in
    ap (λ (m : ℕ). cond (eqb (n % 2) 1) 1 0 + 2 * m) (bits_of_tests k (n / 2) below) ∙ parity n

-- ---- what is spelled has the form

small_is : (n k : ℕ) → nat_le n k ≡ true → n ≤ k
small_is n k h = leb-true n k h

small_has : (n k : ℕ) → n ≤ k → nat_le n k ≡ true
small_has n k le = le-leb n k le

short_written : (b : Bool) (o : Option (List ℕ)) → is_some o ≡ b → is_short_enough 255 o ≡ true → FieldOf b ShortStringOf o (spell_present spell_short_string o)
short_written b (Some text) is fit =
    let small : length text ≤ 255 = small_is (length text) 255 fit in
    (sym is, (length text ∷ [], text, refl, (omega (arith, small), refl), (refl, refl)))
short_written b None is fit = (sym is, refl)

long_written : (b : Bool) (o : Option (List ℕ)) → is_some o ≡ b → is_short_enough 4294967295 o ≡ true → FieldOf b LongStringOf o (spell_present spell_long_string o)
long_written b (Some text) is fit =
    let small : length text ≤ 4294967295 = small_is (length text) 4294967295 fit in
    (sym is, (to_be_bytes w32 (length text), text, refl, (omega (arith, small), refl), (refl, refl)))
long_written b None is fit = (sym is, refl)

octet_written : (b : Bool) (o : Option ℕ) → is_some o ≡ b → IfSome o (λ n. n < 256) → FieldOf b OctetOf o (spell_present spell_octet o)
octet_written b (Some n) is lt = (sym is, (lt, refl))
octet_written b None is lt = (sym is, refl)

number_written : (b : Bool) (o : Option ℕ) → is_some o ≡ b → IfSome o (λ n. n < 2 ^ 64) → FieldOf b (NumberOf w64) o (spell_present spell_number o)
number_written b (Some n) is lt = (sym is, (lt, refl))
number_written b None is lt = (sym is, refl)

pair_written : {F G : Form} (a b : List ℕ) → F a → G b → (F ▸ G) (a ++ b)
pair_written a b f g = (a, b, refl, f, g)

-- ---- what has the form was spelled

-- a text is spelled so, is small enough, and is there by its flag
abbrev IsShort : Bool → Option (List ℕ) → List ℕ → Type 0
IsShort b o text = (text ≡ spell_present spell_short_string o) × (is_short_enough 255 o ≡ true) × (is_some o ≡ b)

short_taken : (b : Bool) (o : Option (List ℕ)) (text : List ℕ) → FieldOf b ShortStringOf o text → IsShort b o text
short_taken b (Some content) text f =
    let s = f.1 in
    let whole : text ≡ length content ∷ content = s.2 ∙ ap (λ (t : List ℕ). t ++ s.1) s.3.1 ∙ ap (λ (t : List ℕ). length content ∷ t) s.4.1 in
    let lt = s.3.0 in
    (whole, small_has (length content) 255 (omega (arith, lt)), sym f.0)
short_taken b None text f = (f.1, refl, sym f.0)

abbrev IsLong : Bool → Option (List ℕ) → List ℕ → Type 0
IsLong b o text = (text ≡ spell_present spell_long_string o) × (is_short_enough 4294967295 o ≡ true) × (is_some o ≡ b)

long_taken : (b : Bool) (o : Option (List ℕ)) (text : List ℕ) → FieldOf b LongStringOf o text → IsLong b o text
long_taken b (Some content) text f =
    let s = f.1 in
    let whole : text ≡ to_be_bytes w32 (length content) ++ content = s.2 ∙ ap (λ (t : List ℕ). t ++ s.1) s.3.1 ∙ ap (λ (t : List ℕ). to_be_bytes w32 (length content) ++ t) s.4.1 in
    let lt = s.3.0 in
    (whole, small_has (length content) 4294967295 (omega (arith, lt)), sym f.0)
long_taken b None text f = (f.1, refl, sym f.0)

abbrev IsOctet : Bool → Option ℕ → List ℕ → Type 0
IsOctet b o text = (text ≡ spell_present spell_octet o) × IfSome o (λ n. n < 256) × (is_some o ≡ b)

octet_taken : (b : Bool) (o : Option ℕ) (text : List ℕ) → FieldOf b OctetOf o text → IsOctet b o text
octet_taken b (Some n) text f = (f.1.1, f.1.0, sym f.0)
octet_taken b None text f = (f.1, tt, sym f.0)

abbrev IsNumber : Bool → Option ℕ → List ℕ → Type 0
IsNumber b o text = (text ≡ spell_present spell_number o) × IfSome o (λ n. n < 2 ^ 64) × (is_some o ≡ b)

number_taken : (b : Bool) (o : Option ℕ) (text : List ℕ) → FieldOf b (NumberOf w64) o text → IsNumber b o text
number_taken b (Some n) text f = (f.1.1, f.1.0, sym f.0)
number_taken b None text f = (f.1, tt, sym f.0)

-- ---- all of them

-- the flags of the first seven are bits of a number
abbrev FirstFlags : ℕ → First → Type 0
FirstFlags n f =
    (is_some f.0 ≡ bit 15 n) × (is_some f.1.0 ≡ bit 14 n) × (is_some f.1.1.0 ≡ bit 13 n) × (is_some f.1.1.1.0 ≡ bit 12 n) × (is_some f.1.1.1.1.0 ≡ bit 11 n) × (is_some f.1.1.1.1.1.0 ≡ bit 10 n) × (is_some f.1.1.1.1.1.1 ≡ bit 9 n)

abbrev SecondFlags : ℕ → Second → Type 0
SecondFlags n f =
    (is_some f.0 ≡ bit 8 n) × (is_some f.1.0 ≡ bit 7 n) × (is_some f.1.1.0 ≡ bit 6 n) × (is_some f.1.1.1.0 ≡ bit 5 n) × (is_some f.1.1.1.1.0 ≡ bit 4 n) × (is_some f.1.1.1.1.1.0 ≡ bit 3 n) × (is_some f.1.1.1.1.1.1 ≡ bit 2 n)

first_written :
    (n : ℕ) (f : First) → FirstFlags n f → first_fit f ≡ true → IfSome f.1.1.1.0 (λ n. n < 256) → IfSome f.1.1.1.1.0 (λ n. n < 256) → FirstOf n f (spell_first f)
first_written n f flags all_fit mode priority =
    let fit0 = and-left (is_short_enough 255 f.0) (is_short_enough 255 f.1.0 && (is_short_enough 4294967295 f.1.1.0 && (is_short_enough 255 f.1.1.1.1.1.0 && (is_short_enough 255 f.1.1.1.1.1.1)))) all_fit in
    let more0 = and-right (is_short_enough 255 f.0) (is_short_enough 255 f.1.0 && (is_short_enough 4294967295 f.1.1.0 && (is_short_enough 255 f.1.1.1.1.1.0 && (is_short_enough 255 f.1.1.1.1.1.1)))) all_fit in
    let fit1 = and-left (is_short_enough 255 f.1.0) (is_short_enough 4294967295 f.1.1.0 && (is_short_enough 255 f.1.1.1.1.1.0 && (is_short_enough 255 f.1.1.1.1.1.1))) more0 in
    let more1 = and-right (is_short_enough 255 f.1.0) (is_short_enough 4294967295 f.1.1.0 && (is_short_enough 255 f.1.1.1.1.1.0 && (is_short_enough 255 f.1.1.1.1.1.1))) more0 in
    let fit2 = and-left (is_short_enough 4294967295 f.1.1.0) (is_short_enough 255 f.1.1.1.1.1.0 && (is_short_enough 255 f.1.1.1.1.1.1)) more1 in
    let more2 = and-right (is_short_enough 4294967295 f.1.1.0) (is_short_enough 255 f.1.1.1.1.1.0 && (is_short_enough 255 f.1.1.1.1.1.1)) more1 in
    let fit3 = and-left (is_short_enough 255 f.1.1.1.1.1.0) (is_short_enough 255 f.1.1.1.1.1.1) more2 in
    let more3 = and-right (is_short_enough 255 f.1.1.1.1.1.0) (is_short_enough 255 f.1.1.1.1.1.1) more2 in
    pair_written (spell_present spell_short_string f.0) _ (short_written (bit 15 n) f.0 flags.0 fit0)
    (pair_written (spell_present spell_short_string f.1.0) _ (short_written (bit 14 n) f.1.0 flags.1 fit1)
    (pair_written (spell_present spell_long_string f.1.1.0) _ (long_written (bit 13 n) f.1.1.0 flags.2 fit2)
    (pair_written (spell_present spell_octet f.1.1.1.0) _ (octet_written (bit 12 n) f.1.1.1.0 flags.3 mode)
    (pair_written (spell_present spell_octet f.1.1.1.1.0) _ (octet_written (bit 11 n) f.1.1.1.1.0 flags.4 priority)
    (pair_written (spell_present spell_short_string f.1.1.1.1.1.0) _ (short_written (bit 10 n) f.1.1.1.1.1.0 flags.5 fit3)
    (short_written (bit 9 n) f.1.1.1.1.1.1 flags.6 more3))))))

second_written :
    (n : ℕ) (f : Second) → SecondFlags n f → second_fit f ≡ true → IfSome f.1.1.0 (λ n. n < 2 ^ 64) → SecondOf n f (spell_second f)
second_written n f flags all_fit time =
    let fit0 = and-left (is_short_enough 255 f.0) (is_short_enough 255 f.1.0 && (is_short_enough 255 f.1.1.1.0 && (is_short_enough 255 f.1.1.1.1.0 && (is_short_enough 255 f.1.1.1.1.1.0 && (is_short_enough 255 f.1.1.1.1.1.1))))) all_fit in
    let more0 = and-right (is_short_enough 255 f.0) (is_short_enough 255 f.1.0 && (is_short_enough 255 f.1.1.1.0 && (is_short_enough 255 f.1.1.1.1.0 && (is_short_enough 255 f.1.1.1.1.1.0 && (is_short_enough 255 f.1.1.1.1.1.1))))) all_fit in
    let fit1 = and-left (is_short_enough 255 f.1.0) (is_short_enough 255 f.1.1.1.0 && (is_short_enough 255 f.1.1.1.1.0 && (is_short_enough 255 f.1.1.1.1.1.0 && (is_short_enough 255 f.1.1.1.1.1.1)))) more0 in
    let more1 = and-right (is_short_enough 255 f.1.0) (is_short_enough 255 f.1.1.1.0 && (is_short_enough 255 f.1.1.1.1.0 && (is_short_enough 255 f.1.1.1.1.1.0 && (is_short_enough 255 f.1.1.1.1.1.1)))) more0 in
    let fit2 = and-left (is_short_enough 255 f.1.1.1.0) (is_short_enough 255 f.1.1.1.1.0 && (is_short_enough 255 f.1.1.1.1.1.0 && (is_short_enough 255 f.1.1.1.1.1.1))) more1 in
    let more2 = and-right (is_short_enough 255 f.1.1.1.0) (is_short_enough 255 f.1.1.1.1.0 && (is_short_enough 255 f.1.1.1.1.1.0 && (is_short_enough 255 f.1.1.1.1.1.1))) more1 in
    let fit3 = and-left (is_short_enough 255 f.1.1.1.1.0) (is_short_enough 255 f.1.1.1.1.1.0 && (is_short_enough 255 f.1.1.1.1.1.1)) more2 in
    let more3 = and-right (is_short_enough 255 f.1.1.1.1.0) (is_short_enough 255 f.1.1.1.1.1.0 && (is_short_enough 255 f.1.1.1.1.1.1)) more2 in
    let fit4 = and-left (is_short_enough 255 f.1.1.1.1.1.0) (is_short_enough 255 f.1.1.1.1.1.1) more3 in
    let more4 = and-right (is_short_enough 255 f.1.1.1.1.1.0) (is_short_enough 255 f.1.1.1.1.1.1) more3 in
    pair_written (spell_present spell_short_string f.0) _ (short_written (bit 8 n) f.0 flags.0 fit0)
    (pair_written (spell_present spell_short_string f.1.0) _ (short_written (bit 7 n) f.1.0 flags.1 fit1)
    (pair_written (spell_present spell_number f.1.1.0) _ (number_written (bit 6 n) f.1.1.0 flags.2 time)
    (pair_written (spell_present spell_short_string f.1.1.1.0) _ (short_written (bit 5 n) f.1.1.1.0 flags.3 fit2)
    (pair_written (spell_present spell_short_string f.1.1.1.1.0) _ (short_written (bit 4 n) f.1.1.1.1.0 flags.4 fit3)
    (pair_written (spell_present spell_short_string f.1.1.1.1.1.0) _ (short_written (bit 3 n) f.1.1.1.1.1.0 flags.5 fit4)
    (short_written (bit 2 n) f.1.1.1.1.1.1 flags.6 more4))))))

-- what the octets of the first seven say of them
record FirstTaken (n : ℕ) (f : First) (text : List ℕ) : Type 0 where
  is : text ≡ spell_first f
  flags : FirstFlags n f
  fit : first_fit f ≡ true
  mode : IfSome f.1.1.1.0 (λ n. n < 256)
  priority : IfSome f.1.1.1.1.0 (λ n. n < 256)

record SecondTaken (n : ℕ) (f : Second) (text : List ℕ) : Type 0 where
  is : text ≡ spell_second f
  flags : SecondFlags n f
  fit : second_fit f ≡ true
  time : IfSome f.1.1.0 (λ n. n < 2 ^ 64)

first_taken : (n : ℕ) (f : First) (text : List ℕ) → FirstOf n f text → FirstTaken n f text
first_taken n f text t0 =
    let t1 = t0.4 in
    let t2 = t1.4 in
    let t3 = t2.4 in
    let t4 = t3.4 in
    let t5 = t4.4 in
    let k0 = short_taken (bit 15 n) f.0 t0.0 t0.3 in
    let k1 = short_taken (bit 14 n) f.1.0 t1.0 t1.3 in
    let k2 = long_taken (bit 13 n) f.1.1.0 t2.0 t2.3 in
    let k3 = octet_taken (bit 12 n) f.1.1.1.0 t3.0 t3.3 in
    let k4 = octet_taken (bit 11 n) f.1.1.1.1.0 t4.0 t4.3 in
    let k5 = short_taken (bit 10 n) f.1.1.1.1.1.0 t5.0 t5.3 in
    let k6 = short_taken (bit 9 n) f.1.1.1.1.1.1 t5.1 t5.4 in
    let r6 : t5.1 ≡ spell_present spell_short_string f.1.1.1.1.1.1 = k6.0 in
    let r5 : t4.1 ≡ spell_present spell_short_string f.1.1.1.1.1.0 ++ spell_present spell_short_string f.1.1.1.1.1.1 =
    t5.2 ∙ ap (λ (t : List ℕ). t ++ t5.1) k5.0 ∙ ap (λ (t : List ℕ). spell_present spell_short_string f.1.1.1.1.1.0 ++ t) r6 in
    let r4 : t3.1 ≡ spell_present spell_octet f.1.1.1.1.0 ++ (spell_present spell_short_string f.1.1.1.1.1.0 ++ spell_present spell_short_string f.1.1.1.1.1.1) =
    t4.2 ∙ ap (λ (t : List ℕ). t ++ t4.1) k4.0 ∙ ap (λ (t : List ℕ). spell_present spell_octet f.1.1.1.1.0 ++ t) r5 in
    let r3 : t2.1 ≡ spell_present spell_octet f.1.1.1.0 ++ (spell_present spell_octet f.1.1.1.1.0 ++ (spell_present spell_short_string f.1.1.1.1.1.0 ++ spell_present spell_short_string f.1.1.1.1.1.1)) =
    t3.2 ∙ ap (λ (t : List ℕ). t ++ t3.1) k3.0 ∙ ap (λ (t : List ℕ). spell_present spell_octet f.1.1.1.0 ++ t) r4 in
    let r2 : t1.1 ≡ spell_present spell_long_string f.1.1.0 ++ (spell_present spell_octet f.1.1.1.0 ++ (spell_present spell_octet f.1.1.1.1.0 ++ (spell_present spell_short_string f.1.1.1.1.1.0 ++ spell_present spell_short_string f.1.1.1.1.1.1))) =
    t2.2 ∙ ap (λ (t : List ℕ). t ++ t2.1) k2.0 ∙ ap (λ (t : List ℕ). spell_present spell_long_string f.1.1.0 ++ t) r3 in
    let r1 : t0.1 ≡ spell_present spell_short_string f.1.0 ++ (spell_present spell_long_string f.1.1.0 ++ (spell_present spell_octet f.1.1.1.0 ++ (spell_present spell_octet f.1.1.1.1.0 ++ (spell_present spell_short_string f.1.1.1.1.1.0 ++ spell_present spell_short_string f.1.1.1.1.1.1)))) =
    t1.2 ∙ ap (λ (t : List ℕ). t ++ t1.1) k1.0 ∙ ap (λ (t : List ℕ). spell_present spell_short_string f.1.0 ++ t) r2 in
    let r0 : text ≡ spell_present spell_short_string f.0 ++ (spell_present spell_short_string f.1.0 ++ (spell_present spell_long_string f.1.1.0 ++ (spell_present spell_octet f.1.1.1.0 ++ (spell_present spell_octet f.1.1.1.1.0 ++ (spell_present spell_short_string f.1.1.1.1.1.0 ++ spell_present spell_short_string f.1.1.1.1.1.1))))) =
    t0.2 ∙ ap (λ (t : List ℕ). t ++ t0.1) k0.0 ∙ ap (λ (t : List ℕ). spell_present spell_short_string f.0 ++ t) r1 in
    record {
      is = r0;
      flags = (k0.2, k1.2, k2.2, k3.2, k4.2, k5.2, k6.2);
      fit = rw (k0.1, k1.1, k2.1, k5.1, k6.1) refl;
      mode = k3.1;
      priority = k4.1;
    }

second_taken : (n : ℕ) (f : Second) (text : List ℕ) → SecondOf n f text → SecondTaken n f text
second_taken n f text t0 =
    let t1 = t0.4 in
    let t2 = t1.4 in
    let t3 = t2.4 in
    let t4 = t3.4 in
    let t5 = t4.4 in
    let k0 = short_taken (bit 8 n) f.0 t0.0 t0.3 in
    let k1 = short_taken (bit 7 n) f.1.0 t1.0 t1.3 in
    let k2 = number_taken (bit 6 n) f.1.1.0 t2.0 t2.3 in
    let k3 = short_taken (bit 5 n) f.1.1.1.0 t3.0 t3.3 in
    let k4 = short_taken (bit 4 n) f.1.1.1.1.0 t4.0 t4.3 in
    let k5 = short_taken (bit 3 n) f.1.1.1.1.1.0 t5.0 t5.3 in
    let k6 = short_taken (bit 2 n) f.1.1.1.1.1.1 t5.1 t5.4 in
    let r6 : t5.1 ≡ spell_present spell_short_string f.1.1.1.1.1.1 = k6.0 in
    let r5 : t4.1 ≡ spell_present spell_short_string f.1.1.1.1.1.0 ++ spell_present spell_short_string f.1.1.1.1.1.1 =
    t5.2 ∙ ap (λ (t : List ℕ). t ++ t5.1) k5.0 ∙ ap (λ (t : List ℕ). spell_present spell_short_string f.1.1.1.1.1.0 ++ t) r6 in
    let r4 : t3.1 ≡ spell_present spell_short_string f.1.1.1.1.0 ++ (spell_present spell_short_string f.1.1.1.1.1.0 ++ spell_present spell_short_string f.1.1.1.1.1.1) =
    t4.2 ∙ ap (λ (t : List ℕ). t ++ t4.1) k4.0 ∙ ap (λ (t : List ℕ). spell_present spell_short_string f.1.1.1.1.0 ++ t) r5 in
    let r3 : t2.1 ≡ spell_present spell_short_string f.1.1.1.0 ++ (spell_present spell_short_string f.1.1.1.1.0 ++ (spell_present spell_short_string f.1.1.1.1.1.0 ++ spell_present spell_short_string f.1.1.1.1.1.1)) =
    t3.2 ∙ ap (λ (t : List ℕ). t ++ t3.1) k3.0 ∙ ap (λ (t : List ℕ). spell_present spell_short_string f.1.1.1.0 ++ t) r4 in
    let r2 : t1.1 ≡ spell_present spell_number f.1.1.0 ++ (spell_present spell_short_string f.1.1.1.0 ++ (spell_present spell_short_string f.1.1.1.1.0 ++ (spell_present spell_short_string f.1.1.1.1.1.0 ++ spell_present spell_short_string f.1.1.1.1.1.1))) =
    t2.2 ∙ ap (λ (t : List ℕ). t ++ t2.1) k2.0 ∙ ap (λ (t : List ℕ). spell_present spell_number f.1.1.0 ++ t) r3 in
    let r1 : t0.1 ≡ spell_present spell_short_string f.1.0 ++ (spell_present spell_number f.1.1.0 ++ (spell_present spell_short_string f.1.1.1.0 ++ (spell_present spell_short_string f.1.1.1.1.0 ++ (spell_present spell_short_string f.1.1.1.1.1.0 ++ spell_present spell_short_string f.1.1.1.1.1.1)))) =
    t1.2 ∙ ap (λ (t : List ℕ). t ++ t1.1) k1.0 ∙ ap (λ (t : List ℕ). spell_present spell_short_string f.1.0 ++ t) r2 in
    let r0 : text ≡ spell_present spell_short_string f.0 ++ (spell_present spell_short_string f.1.0 ++ (spell_present spell_number f.1.1.0 ++ (spell_present spell_short_string f.1.1.1.0 ++ (spell_present spell_short_string f.1.1.1.1.0 ++ (spell_present spell_short_string f.1.1.1.1.1.0 ++ spell_present spell_short_string f.1.1.1.1.1.1))))) =
    t0.2 ∙ ap (λ (t : List ℕ). t ++ t0.1) k0.0 ∙ ap (λ (t : List ℕ). spell_present spell_short_string f.0 ++ t) r1 in
    record {
      is = r0;
      flags = (k0.2, k1.2, k2.2, k3.2, k4.2, k5.2, k6.2);
      fit = rw (k0.1, k1.1, k3.1, k4.1, k5.1, k6.1) refl;
      time = k2.1;
    }

-- ---- the laws

bits_small : (bs : List Bool) → bits bs < 2 ^ length bs
bits_small [] = omega arith
bits_small (true ∷ bs) = let less = bits_small bs in omega (arith, less, pow-suc 2 (length bs))
bits_small (false ∷ bs) = let less = bits_small bs in omega (arith, less, pow-suc 2 (length bs))

flags_small : (f : Fields) → flags_of f < 65536
flags_small f = let less : bits (present f) < 16384 = bits_small (present f) in omega (arith, less)

flags_end : (f : Fields) → flags_of f % 4 ≡ 0
flags_end f = omega arith

first_flags : (f : Fields) → FirstFlags (flags_of f) f.0
first_flags f =
    (sym (bit_of_flags (present f) 13), sym (bit_of_flags (present f) 12), sym (bit_of_flags (present f) 11), sym (bit_of_flags (present f) 10), sym (bit_of_flags (present f) 9), sym (bit_of_flags (present f) 8), sym (bit_of_flags (present f) 7))

second_flags : (f : Fields) → SecondFlags (flags_of f) f.1
second_flags f =
    (sym (bit_of_flags (present f) 6), sym (bit_of_flags (present f) 5), sym (bit_of_flags (present f) 4), sym (bit_of_flags (present f) 3), sym (bit_of_flags (present f) 2), sym (bit_of_flags (present f) 1), sym (bit_of_flags (present f) 0))

-- all octets, and no more
all_read :
    (n : ℕ) (f : Fields) (text : List ℕ) → (FirstOf n f.0 ▸ SecondOf n f.1) text →
    exactly (first_at n ⊗ second_at n) text ≡ Some f
all_read n f text form =
    let whole : (first_at n ⊗ second_at n) text ≡ Some (f, []) =
    ap (first_at n ⊗ second_at n) (sym (append-nil text)) ∙ (both_of n).again f text [] form in
    rw whole refl

pub spelled_is_read : (f : Fields) → Fit f → properties_in (spell_fields f) ≡ Some f
spelled_is_read f fit =
    let n = flags_of f in
    let text = spell_first f.0 ++ spell_second f.1 in
    let small = flags_small f in
    let flags : number_at w16 (to_be_bytes w16 n ++ text) ≡ Some (n, text) =
    number16_reader.again n (to_be_bytes w16 n) text (omega (arith, small), refl) in
    let form : (FirstOf n f.0 ▸ SecondOf n f.1) text =
    pair_written (spell_first f.0) (spell_second f.1) (first_written n f.0 (first_flags f) fit.0 fit.2 fit.3)
    (second_written n f.1 (second_flags f) fit.1 fit.4) in
    rw (flags, flags_end f) (all_read n f text form)

passed : {A : Type 0} (b : Bool) (o : Option A) (y : A) → cond b o None ≡ Some y → (b ≡ true) × (o ≡ Some y)
passed true o y e = (refl, e)
passed false o y e = absurd cc

given : {A : Type 0} (b : Bool) (x y : A) → cond b (Some x) None ≡ Some y → (b ≡ true) × (x ≡ y)
given true x y e = (refl, some_is x y e)
given false x y e = absurd cc

pub record WasSpelled (f : Fields) (octets : List ℕ) : Type 0 where
  pub is : octets ≡ spell_fields f
  pub fit : Fit f

-- the flags of what was read are those that were read
flags_read : (n : ℕ) (f : Fields) → n < 65536 → n % 4 ≡ 0 → FirstFlags n f.0 → SecondFlags n f.1 → flags_of f ≡ n
flags_read n f lt end a b =
    let same : present f ≡ tests 14 (n / 2 / 2) =
    rw (a.0, a.1, a.2, a.3, a.4, a.5, a.6, b.0, b.1, b.2, b.3, b.4, b.5, b.6) refl in
    let few : n / 2 / 2 < 2 ^ 14 = omega (arith, lt) in
    ap (λ (bs : List Bool). 4 * bits bs) same ∙ ap (λ (m : ℕ). 4 * m) (bits_of_tests 14 (n / 2 / 2) few) ∙ omega (arith, end)

pub read_was_spelled :
    (f : Fields) (octets : List ℕ) → IsOctets octets → properties_in octets ≡ Some f → WasSpelled f octets
read_was_spelled f octets fits e =
    let b = bind_some (number_at w16 octets) (λ flags. cond (flags.0 % 4 == 0) (exactly (first_at flags.0 ⊗ second_at flags.0) flags.1) None) f e in
    let n = b.0.0 in
    let rest = b.0.1 in
    let t = number16_reader.takes octets n rest fits b.1 in
    let p = passed (n % 4 == 0) (exactly (first_at n ⊗ second_at n) rest) f b.2 in
    let c = bind_some ((first_at n ⊗ second_at n) rest) (λ y. cond (length y.1 == 0) (Some y.0) None) f p.1 in
    let g = given (length c.0.1 == 0) c.0.0 f c.2 in
    let none : c.0.1 ≡ [] = nil_from_length c.0.1 (eqb-true _ _ g.0) in
    let u = (both_of n).takes rest c.0.0 c.0.1 (IsOctets-rest octets t.0 rest t.1 fits) c.1 in
    let form = subst (λ (f : Fields). (FirstOf n f.0 ▸ SecondOf n f.1) u.0) g.1 u.2 in
    let x = first_taken n f.0 form.0 form.3 in
    let y = second_taken n f.1 form.1 form.4 in
    let lt = t.2.0 in
    let flags = flags_read n f (omega (arith, lt)) (eqb-true _ _ p.0) x.flags y.flags in
    let whole : rest ≡ spell_first f.0 ++ spell_second f.1 =
    u.1 ∙ ap (λ (r : List ℕ). u.0 ++ r) none ∙ append-nil u.0 ∙ form.2 ∙ ap (λ (r : List ℕ). r ++ form.1) x.is ∙ ap (λ (r : List ℕ). spell_first f.0 ++ r) y.is in
    record {
      is = t.1 ∙ ap (λ (r : List ℕ). r ++ rest) (t.2.1 ∙ ap (to_be_bytes w16) (sym flags)) ∙ ap (λ (r : List ℕ). to_be_bytes w16 (flags_of f) ++ r) whole;
      fit = (x.fit, y.fit, x.mode, x.priority, y.time);
    }
