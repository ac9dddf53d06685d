-- What lines say that are written out of numbers and bytes: a number is read as itself, and bytes in hexadecimal digits.
use Rattle.std.proofs.Common.{◌≡◌, ◌≤◌, ◌<◌, ◌+◌, ◌-◌, ◌*◌, ◌/◌, ◌%◌, ◌^◌, ◌==◌, ◌&&◌, not, nat_le, nat_lt, if◌then◌else◌, ℕ, suc, Bool, true, false, cond, List, [], ◌∷◌, ◌++◌, length, drop, position, slice_index, Option, Some, None, option_map, Result, Ok, codes, refl, sym, ap, ◌∙◌, append_assoc, arith}
use Rattle.std.proofs.lemmas.Bool.{agree_below_at, not-true}
use Rattle.std.proofs.lemmas.Bool.Decides.{nat_tests}
use Rattle.std.proofs.lemmas.Fmt.{decimal_by_steps, decimal_is_IsNumeral}
use Rattle.std.proofs.lemmas.List.{take_at, drop_at, length_push, length-append, get_or_append_left, get_or_at}
use Rattle.std.proofs.lemmas.List.Folds.{list_all-append}
use Rattle.std.proofs.lemmas.List.Splits.{slice_split_none}
use Rattle.std.proofs.lemmas.List.Sums.{AllPass-from_list_all, position_or_len_is}
use Rattle.std.specs.Fmt.{decimal}
use Rattle.std.specs.List.{All, list_all, position_or_len, slice_split}
use Rattle.std.specs.Result.{result_ok}
use Rattle.std.specs.Str.{bytes_eq}
use Rattle.std.specs.Str.Parse.{digits_value}
use Rattle.hex.specs.Hex.{IsBytes, encode_with, encode_lower, decode_of, lower_digits}
use Rattle.hex.specs.declared.error.FromHexError.{FromHexError}
use Rattle.hex.proofs.HexLemmas.{decode_of-encode_lower, length-encode_with}
use Rattle.amqp_types.proofs.Small.{and-left, and-right, and-true, and-false}
use Rattle.amqp_engine.specs.declared.given.GivenStep.TheVariants.{Bytes}
use Rattle.amqp_replay.specs.declared.grammar.Said.{Said}
use Rattle.amqp_replay.specs.declared.grammar.Said.TheVariants.{Nothing, Refused, Step}
use Rattle.amqp_replay.specs.declared.limits.TheConstants.{PIECE_BYTES}
use Rattle.amqp_replay.specs.Lines.{is_ignored, is_printable}
use Rattle.amqp_replay.specs.Words.{front_to, rest_after, first_word, after_word}
use Rattle.amqp_replay.specs.Decimals.{is_digit, at_most, decimal_number, number_16, number_64}
use Rattle.amqp_replay.specs.Data.{SpelledBytes, nothing, digits, zeros_of, data_part, parts_joined, parts, is_plus, spelled}
use Rattle.amqp_replay.specs.Setup.{is_setup_word, is_setup, setting_of}
use Rattle.amqp_replay.specs.Grammar.{piece_said, bytes_line, is_at_sign, line_of_words, words_timed, words_say, step_line, setup_or_refused, content_says}
use Rattle.amqp_replay.proofs.DataLemmas.{made, joined-end}
use Rattle.amqp_replay.proofs.TakenLines.{SaysStep}

-- ---- tests of all bytes of a text

-- a test that another one implies
pub all_more : (p q : ℕ → Bool) → ((b : ℕ) → p b ≡ true → q b ≡ true) → (text : List ℕ) → list_all p text ≡ true → list_all q text ≡ true
all_more p q more [] all = refl
all_more p q more (b ∷ text) all =
    and-true (q b) (list_all q text) (more b (and-left (p b) (list_all p text) all))
    (all_more p q more text (and-right (p b) (list_all p text) all))

-- a text in which no byte passes a test
pub none_pass : (p : ℕ → Bool) (text : List ℕ) → list_all (λ b. not (p b)) text ≡ true → All (λ b. p b ≡ false) text
none_pass p text all k d lt = not-true _ (AllPass-from_list_all (λ b. not (p b)) text all k d lt)

-- ---- the first word

-- a byte that ends no word
abbrev pub in_word : ℕ → Bool
in_word b = not (b == 32)

place_found : (word rest : List ℕ) → list_all in_word word ≡ true → position (λ b. b == 32) (word ++ 32 ∷ rest) ≡ Some (length word)
place_found word rest all =
    let p : ℕ → Bool = λ b. b == 32 in
    let text : List ℕ = word ++ 32 ∷ rest in
    let free : All (λ b. p b ≡ false) word = none_pass p word all in
    let len : length text ≡ length word + length (32 ∷ rest) = length-append word (32 ∷ rest) in
    let is : position_or_len p text ≡ length word =
    position_or_len_is p text (length word) 0 (omega (arith, len))
    (λ k lt. ap p (get_or_append_left word (32 ∷ rest) 0 k lt) ∙ free k 0 lt)
    (λ _. ap p (get_or_at word 32 rest 0 (length word) refl)) in
    let within : nat_lt (position_or_len p text) (length text) ≡ true = grind (arith, nat_tests, is, len) in
    ap (λ (b : Bool). cond b (Some (position_or_len p text)) None) within ∙ ap Some is

-- what stands before the first blank
pub first_word-found : (word rest : List ℕ) → list_all in_word word ≡ true → first_word (word ++ 32 ∷ rest) ≡ word
first_word-found word rest all =
    ap (λ (o : Option ℕ). front_to o (word ++ 32 ∷ rest)) (place_found word rest all)
    ∙ take_at word (32 ∷ rest) (length word) refl

-- what follows it
pub after_word-found : (word rest : List ℕ) → list_all in_word word ≡ true → after_word (word ++ 32 ∷ rest) ≡ Some rest
after_word-found word rest all =
    ap (λ (o : Option ℕ). rest_after o (word ++ 32 ∷ rest)) (place_found word rest all)
    ∙ ap (λ (x : List ℕ). Some (drop (length word + 1) x)) (sym (append_assoc word (32 ∷ []) rest))
    ∙ ap Some (drop_at (word ++ 32 ∷ []) rest (length word + 1) (length_push word 32))

-- ---- a number

one_digit : (n : ℕ) → n < 10 → list_all is_digit ((48 + n) ∷ []) ≡ true
one_digit n small =
    let low : nat_le 48 (48 + n) ≡ true = grind (arith, nat_tests) in
    let high : nat_le (48 + n) 57 ≡ true = grind (arith, nat_tests) in
    and-true (is_digit (48 + n)) true (and-true (nat_le 48 (48 + n)) (nat_le (48 + n) 57) low high) refl

-- its digits
pub decimal-digits : (n : ℕ) → n < 2 ^ 64 → list_all is_digit (decimal n) ≡ true
decimal-digits n fits =
    decimal_by_steps (λ k text. list_all is_digit text ≡ true) (λ k small. one_digit k small)
    (λ k front ten all.
    let last : k % 10 < 10 = omega arith in
    list_all-append is_digit front ((48 + k % 10) ∷ [])
    ∙ and-true (list_all is_digit front) (list_all is_digit ((48 + k % 10) ∷ [])) all (one_digit (k % 10) last))
    n fits

in_digits : (b : ℕ) → is_digit b ≡ true → (48 ≤ b) × (b ≤ 57)
in_digits b digit =
    let low : nat_le 48 b ≡ true = and-left (nat_le 48 b) (nat_le b 57) digit in
    let high : nat_le b 57 ≡ true = and-right (nat_le 48 b) (nat_le b 57) digit in
    (grind (arith, nat_tests, low), grind (arith, nat_tests, high))

other_than : (c b : ℕ) → c < 48 → is_digit b ≡ true → not (b == c) ≡ true
other_than c b low digit =
    let range = in_digits b digit in
    let apart : (b == c) ≡ false = grind (arith, nat_tests, range.0) in
    ap not apart

printable_digit : (b : ℕ) → is_digit b ≡ true → is_printable b ≡ true
printable_digit b digit =
    let range = in_digits b digit in
    let low : nat_le 32 b ≡ true = grind (arith, nat_tests, range.0) in
    let high : nat_le b 126 ≡ true = grind (arith, nat_tests, range.1) in
    and-true (nat_le 32 b) (nat_le b 126) low high

-- it is a word, and has no `+`
pub decimal-in_word : (n : ℕ) → n < 2 ^ 64 → list_all in_word (decimal n) ≡ true
decimal-in_word n fits = all_more is_digit in_word (λ b. other_than 32 b (omega arith)) (decimal n) (decimal-digits n fits)

pub decimal-no_plus : (n : ℕ) → n < 2 ^ 64 → list_all (λ b. not (is_plus b)) (decimal n) ≡ true
decimal-no_plus n fits = all_more is_digit (λ b. not (is_plus b)) (λ b. other_than 43 b (omega arith)) (decimal n) (decimal-digits n fits)

pub decimal-printable : (n : ℕ) → n < 2 ^ 64 → list_all is_printable (decimal n) ≡ true
decimal-printable n fits = all_more is_digit is_printable printable_digit (decimal n) (decimal-digits n fits)

number_read : (most n : ℕ) (text : List ℕ) → 0 < length text → list_all is_digit text ≡ true → digits_value 10 text ≡ n → n ≤ most
    → decimal_number most text ≡ Some n
number_read most n [] some all is within = absurd (omega arith)
number_read most n (c ∷ text) some all is within =
    let fits : nat_le n most ≡ true = grind (arith, nat_tests) in
    ap (λ (b : Bool). if b then at_most most (digits_value 10 (c ∷ text)) else None) all
    ∙ ap (at_most most) is
    ∙ ap (λ (b : Bool). if b then Some n else None) fits

decimal_read : (most n : ℕ) → n < 2 ^ 64 → n ≤ most → decimal_number most (decimal n) ≡ Some n
decimal_read most n fits within =
    let numeral = decimal_is_IsNumeral n fits in
    number_read most n (decimal n) numeral.0.0 (decimal-digits n fits) numeral.1 within

-- it is read as itself
pub number_16-decimal : (n : ℕ) → n < 2 ^ 16 → number_16 (decimal n) ≡ Some n
number_16-decimal n small = decimal_read (2 ^ 16 - 1) n (omega arith) (omega arith)

pub number_64-decimal : (n : ℕ) → n < 2 ^ 64 → number_64 (decimal n) ≡ Some n
number_64-decimal n small = decimal_read (2 ^ 64 - 1) n small (omega arith)

-- ---- bytes

-- a text of one part
pub spelled-part : (text bytes : List ℕ) (count : ℕ) → bytes_eq text (codes "-") ≡ false → list_all (λ b. not (is_plus b)) text ≡ true
    → data_part text ≡ Some (made bytes count) → spelled text ≡ Some (made bytes count)
spelled-part text bytes count other free part =
    ap (λ (b : Bool). if b then Some nothing else parts (slice_split is_plus text)) other
    ∙ ap parts (slice_split_none is_plus text (none_pass is_plus text free))
    ∙ ap (λ (x : Option SpelledBytes). parts_joined x (Some nothing)) part
    ∙ joined-end bytes count

-- ---- hexadecimal digits

-- a byte that is printed, and is no `+`, `-` or `z`
abbrev is_hexadecimal : ℕ → Bool
is_hexadecimal b = is_printable b && (not (b == 43) && (not (b == 45) && not (b == 122)))

hexadecimal_digit : (d : ℕ) → d < 16 → is_hexadecimal (slice_index lower_digits d) ≡ true
hexadecimal_digit d small = agree_below_at (λ k. is_hexadecimal (slice_index lower_digits k)) (λ k. true) 16 d refl small

hexadecimal_digits : (bytes : List ℕ) → IsBytes bytes → list_all is_hexadecimal (encode_lower bytes) ≡ true
unfolding encode_with
hexadecimal_digits [] are = refl
hexadecimal_digits (b ∷ bytes) are =
    let fits : b < 256 = are 0 in
    let high : b / 16 < 16 = omega arith in
    let low : b % 16 < 16 = omega arith in
    and-true _ _ (hexadecimal_digit (b / 16) high)
    (and-true _ _ (hexadecimal_digit (b % 16) low) (hexadecimal_digits bytes (λ k. are (suc k))))

printed : (b : ℕ) → is_hexadecimal b ≡ true → is_printable b ≡ true
printed b h = and-left (is_printable b) (not (b == 43) && (not (b == 45) && not (b == 122))) h

no_plus : (b : ℕ) → is_hexadecimal b ≡ true → not (is_plus b) ≡ true
no_plus b h =
    and-left (not (b == 43)) (not (b == 45) && not (b == 122))
    (and-right (is_printable b) (not (b == 43) && (not (b == 45) && not (b == 122))) h)

no_sign : (b : ℕ) → is_hexadecimal b ≡ true → (not (b == 45) && not (b == 122)) ≡ true
no_sign b h =
    and-right (not (b == 43)) (not (b == 45) && not (b == 122))
    (and-right (is_printable b) (not (b == 43) && (not (b == 45) && not (b == 122))) h)

-- a text of such digits that is decoded
hexadecimal_part : (text bytes : List ℕ) → list_all is_hexadecimal text ≡ true → 1 < length text → decode_of text ≡ Ok bytes
    → (bytes_eq text (codes "-") ≡ false) × (data_part text ≡ Some (digits bytes))
hexadecimal_part [] bytes all some decoded = absurd (omega arith)
hexadecimal_part (c ∷ []) bytes all some decoded = absurd (omega arith)
hexadecimal_part (c ∷ d ∷ text) bytes all some decoded =
    let signs = no_sign c (and-left (is_hexadecimal c) (list_all is_hexadecimal (d ∷ text)) all) in
    let other : (c == 122) ≡ false = not-true (c == 122) (and-right (not (c == 45)) (not (c == 122)) signs) in (
      and-false (c == 45) false refl,
      ap (λ (b : Bool). if b then option_map zeros_of (number_64 (d ∷ text)) else option_map digits (result_ok (decode_of (c ∷ d ∷ text)))) other
          ∙ ap (λ (r : Result (List ℕ) FromHexError). option_map digits (result_ok r)) decoded,
    )

-- bytes are read as themselves
pub spelled-hexadecimal : (bytes : List ℕ) → IsBytes bytes → 0 < length bytes → spelled (encode_lower bytes) ≡ Some (made bytes 0)
spelled-hexadecimal bytes are some =
    let text = encode_lower bytes in
    let all = hexadecimal_digits bytes are in
    let len : length text ≡ 2 * length bytes = length-encode_with lower_digits bytes in
    let part = hexadecimal_part text bytes all (omega (arith, len, some)) (decode_of-encode_lower bytes are) in
    spelled-part text bytes 0 part.0 (all_more is_hexadecimal (λ b. not (is_plus b)) no_plus text all) part.1

-- ---- lines

-- a line of words that sets nothing, by its first word and what follows it
pub content-said : (b : ℕ) (bs word : List ℕ) (rest : Option (List ℕ)) (said : Said) → list_all is_printable (b ∷ bs) ≡ true
    → (b == 35) ≡ false → is_at_sign b ≡ false → first_word (b ∷ bs) ≡ word → after_word (b ∷ bs) ≡ rest → is_setup_word word ≡ false
    → line_of_words word rest ≡ said → content_says (b ∷ bs) ≡ said
content-said b bs word rest said printable read untimed first after step is =
    let content : List ℕ = b ∷ bs in
    let worded : Said = if is_setup content then setup_or_refused (setting_of content) else step_line content in
    ap (λ (x : Bool). if not x then Refused else if is_ignored content then Nothing else worded) printable
    ∙ ap (λ (x : Bool). if x then Nothing else worded) read
    ∙ ap (λ (x : Bool). if x then setup_or_refused (setting_of content) else step_line content) (ap is_setup_word first ∙ step)
    ∙ ap (λ (x : Bool). if x then words_timed (number_64 (first_word bs)) (after_word bs) else words_say content) untimed
    ∙ ap (λ (w : List ℕ). line_of_words w (after_word content)) first
    ∙ ap (line_of_words word) after
    ∙ is

-- `bytes DATA`
pub bytes-said : (bytes : List ℕ) → IsBytes bytes → 0 < length bytes → length bytes < 140
    → SaysStep (codes "bytes " ++ encode_lower bytes) (Bytes bytes) 0
bytes-said bytes are some few =
    let text = encode_lower bytes in
    let len : length text ≡ 2 * length bytes = length-encode_with lower_digits bytes in
    let word = codes "bytes" in
    let printable : list_all is_printable (codes "bytes " ++ text) ≡ true =
    all_more is_hexadecimal is_printable printed text (hexadecimal_digits bytes are) in
    let low : nat_le 1 (length bytes) ≡ true = grind (arith, nat_tests) in
    let high : nat_le (length bytes) PIECE_BYTES ≡ true = grind (arith, nat_tests) in
    let piece : bytes_line (Some text) ≡ Step (Bytes bytes) 0 =
    ap piece_said (spelled-hexadecimal bytes are some)
    ∙ ap (λ (b : Bool). if b then Step (Bytes bytes) 0 else Refused) (and-true (nat_le 1 (length bytes)) (nat_le (length bytes) PIECE_BYTES) low high) in
    record {
      printable = printable;
      said = content-said 98 (codes "ytes " ++ text) word (Some text) (Step (Bytes bytes) 0) printable refl refl
          (first_word-found word text refl) (after_word-found word text refl) refl piece;
      untimed = refl;
      short = omega (arith, len, few);
      few = omega arith;
    }
