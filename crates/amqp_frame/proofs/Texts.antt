-- How long the texts of arrays, tables, methods and frames are, and how they are put one after another.
use Rattle.std.proofs.Common.{◌≡◌, ℕ, ◌+◌, ◌^◌, ◌<◌, ◌≤◌, List, [], ◌∷◌, ◌++◌, length, map, drop, get_or, sym, ap, ◌∙◌, append_assoc, arith}
use Rattle.std.proofs.lemmas.List.{length-append, drop_more}
use Rattle.std.specs.Int.{w16, w32, to_be_bytes}
use Rattle.amqp_frame.specs.declared.method.Method.{Method}
use Rattle.amqp_frame.specs.Methods.{class_of, number_of, spell_arguments, spell_method}
use Rattle.amqp_frame.specs.Frames.{spell_framed}
use Rattle.amqp_types.specs.Value.{FieldValue, Pair, array, table, values_from, pairs_from}
use Rattle.amqp_types.specs.Forms.{spell_long_string}
use Rattle.amqp_types.specs.Spelling.{spell, spell_table}
use Rattle.amqp_types.specs.View.{value_of, pair_of}
use Rattle.amqp_types.specs.declared.value.AMQPValue.{AMQPValue}
use Rattle.amqp_types.specs.declared.value.Entry.{Entry}
use Rattle.amqp_frame.specs.Lengths.{capped, spell_list, spell_pair, spell_pair_list}

-- a number where it can be kept
pub capped_small : (n : ℕ) → n < 2 ^ 64 → capped n ≡ n
capped_small n lt = omega arith

-- a body behind its tag and its length
pub length-long : (tag : ℕ) (body : List ℕ) → length (tag ∷ spell_long_string body) ≡ length body + 5
length-long tag body = omega (arith, length-append (to_be_bytes w32 (length body)) body)

pub length-array : (vs : List FieldValue) → length (spell (array (values_from vs))) ≡ length (spell_list vs) + 5
length-array vs = length-long 65 (spell_list vs)

pub length-table : (ps : List Pair) → length (spell (table (pairs_from ps))) ≡ length (spell_pair_list ps) + 5
length-table ps = length-long 70 (spell_pair_list ps)

-- what is still to put of a text of some length, which ends as whole where it began with so much space
pub record Rest (left now : List ℕ) (free : ℕ) (whole : List ℕ) (space len : ℕ) : Type 0 where
  pub bytes : now ++ left ≡ whole
  pub room : free + len ≡ space + length left
  pub fits : length left ≤ free
  pub small : length left < 2 ^ 32

-- the next value of a rest, and what comes after it
pub next_value :
    (vs : List AMQPValue) (i : ℕ) (v : AMQPValue) → i < length vs → v ≡ get_or vs i v →
    spell_list (map value_of (drop i vs)) ≡ spell (value_of v) ++ spell_list (map value_of (drop (i + 1) vs))
next_value vs i v lt is =
    ap (λ us. spell_list (map value_of us)) (drop_more vs i v lt)
    ∙ ap (λ u. spell (value_of u) ++ spell_list (map value_of (drop (i + 1) vs))) (sym is)

pub next_pair :
    (es : List Entry) (i : ℕ) (e : Entry) → i < length es → e ≡ get_or es i e →
    spell_pair_list (map pair_of (drop i es)) ≡ spell_pair (pair_of e) ++ spell_pair_list
    (map pair_of (drop (i + 1) es))
next_pair es i e lt is =
    ap (λ fs. spell_pair_list (map pair_of fs)) (drop_more es i e lt)
    ∙ ap (λ f. spell_pair (pair_of f) ++ spell_pair_list (map pair_of (drop (i + 1) es))) (sym is)

-- a tag and a body that were put
pub tagged_text :
    (old middle new : List ℕ) (tag : ℕ) (body : List ℕ) → middle ≡ old ++ tag ∷ [] →
    new ≡ middle ++ spell_long_string body → new ≡ old ++ tag ∷ spell_long_string body
tagged_text old middle new tag body first second =
    second
    ∙ ap (λ (t : List ℕ). t ++ spell_long_string body) first
    ∙ append_assoc old (tag ∷ []) (spell_long_string body)

pub length-spell_table : (ps : List Pair) → length (spell_table ps) ≡ length (spell_pair_list ps) + 4
length-spell_table ps =
    omega (arith, length-append (to_be_bytes w32 (length (spell_pair_list ps))) (spell_pair_list ps))

pub length-joined : (a b : List ℕ) → length (a ++ b) ≡ length a + length b
length-joined a b = length-append a b

pub ruleset method_lengths = (length-spell_table, length-joined)

-- texts that were put one after another
pub four_texts :
    (r0 r1 r2 r3 r4 a b c d : List ℕ) → r1 ≡ r0 ++ a → r2 ≡ r1 ++ b → r3 ≡ r2 ++ c → r4 ≡ r3 ++ d →
    r4 ≡ r0 ++ (a ++ (b ++ (c ++ d)))
four_texts r0 r1 r2 r3 r4 a b c d p q r s =
    s
    ∙ ap (λ (t : List ℕ). t ++ d) (r ∙ ap (λ (t : List ℕ). t ++ c) (q ∙ ap (λ (t : List ℕ). t ++ b) p))
    ∙ simp append_assoc

-- how long a frame is, by its payload
pub length-spell_framed :
    (type channel : ℕ) (payload : List ℕ) → length (spell_framed type channel payload) ≡ length payload + 8
length-spell_framed type channel payload =
    omega (
      arith,
      length-append (to_be_bytes w16 channel ++ to_be_bytes w32 (length payload)) (payload ++ 206 ∷ []),
      length-append (to_be_bytes w16 channel) (to_be_bytes w32 (length payload)),
      length-append payload (206 ∷ []),
    )

pub length-spell_method : (m : Method) → length (spell_method m) ≡ length (spell_arguments m) + 4
length-spell_method m =
    omega (
      arith,
      length-append (to_be_bytes w16 (class_of m)) (to_be_bytes w16 (number_of m) ++ spell_arguments m),
      length-append (to_be_bytes w16 (number_of m)) (spell_arguments m),
    )

pub ruleset frame_lengths = (length-spell_framed, length-spell_method)

-- a header, a class, a method, arguments and an end
pub five_texts :
    (r0 r1 r2 r3 r4 r5 a b c d e : List ℕ) → r1 ≡ r0 ++ a → r2 ≡ r1 ++ b → r3 ≡ r2 ++ c → r4 ≡ r3 ++ d →
    r5 ≡ r4 ++ e → r5 ≡ r0 ++ (a ++ ((b ++ (c ++ d)) ++ e))
five_texts r0 r1 r2 r3 r4 r5 a b c d e p1 p2 p3 p4 p5 =
    p5
    ∙ ap (λ (t : List ℕ). t ++ e)
    (p4 ∙ ap (λ (t : List ℕ). t ++ d) (p3 ∙ ap (λ (t : List ℕ). t ++ c) (p2 ∙ ap (λ (t : List ℕ). t ++ b) p1)))
    ∙ simp append_assoc
