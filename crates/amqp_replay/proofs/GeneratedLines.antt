-- The lines of a generated script, each of which says its step, and all of them.
use Rattle.std.proofs.Common.{◌≡◌, ◌≤◌, ◌<◌, ◌+◌, ◌-◌, ◌*◌, ◌%◌, ◌^◌, ◌&&◌, nat_lt, ℕ, zero, suc, true, false, List, [], ◌∷◌, ◌++◌, length, map, replicate, Option, Some, None, option_map, Result, Ok, codes, refl, sym, ap, subst, ◌∙◌, append_assoc, append-nil, length-append, arith}
use Rattle.std.proofs.lemmas.Bool.Decides.{nat_tests}
use Rattle.std.proofs.lemmas.Fmt.{length-decimal-le}
use Rattle.std.proofs.lemmas.List.Folds.{list_all-append}
use Rattle.std.specs.Fmt.{decimal}
use Rattle.std.specs.Int.{byte_at}
use Rattle.std.specs.List.{list_all, flat_map, range_with_len}
use Rattle.hex.specs.Hex.{IsBytes, encode_with, encode_lower, decode_pairs}
use Rattle.amqp_types.proofs.Small.{and-left, and-right, and-true}
use Rattle.amqp_frame.specs.declared.frame.Frame.{Frame}
use Rattle.amqp_frame.specs.declared.frame.Frame.TheVariants.{Method}
use Rattle.amqp_frame.specs.declared.method.Method.TheVariants.{Start, Tune, OpenOk, CloseOk, ChannelOpenOk}
use Rattle.amqp_frame.specs.Frames.{encoding}
use Rattle.amqp_commands.specs.declared.command.Cmd.TheVariants.{OpenChannel, CloseConnection}
use Rattle.amqp_engine.specs.declared.given.Given.{Given}
use Rattle.amqp_engine.specs.declared.given.GivenStep.{GivenStep}
use Rattle.amqp_engine.specs.declared.given.GivenStep.TheVariants.{Link, Command}
use Rattle.amqp_replay.specs.declared.grammar.Said.TheVariants.{Step}
use Rattle.amqp_replay.specs.declared.limits.TheConstants.{MOST_GENERATED, ZERO_BYTES}
use Rattle.amqp_replay.specs.Lines.{is_printable}
use Rattle.amqp_replay.specs.Decimals.{number_16}
use Rattle.amqp_replay.specs.Data.{SpelledBytes, zeros_of, spelled}
use Rattle.amqp_replay.specs.Setup.{SetupSoFar, no_lines, after_step}
use Rattle.amqp_replay.specs.Grammar.{Scenario, given, rest_of, number_in, first_data_in, data_in, all_spelled, published_in, publishes, publish_line, parsed}
use Rattle.amqp_replay.specs.Generator.{opened, opening_lines, body_text, publishing, ending, generated}
use Rattle.amqp_replay.specs.GeneratedScenario.{frame_comes, broker_properties, broker_frames, channel_steps, publish_hello, publish_step, generated_scenario}
use Rattle.amqp_replay.proofs.DataLemmas.{made}
use Rattle.amqp_replay.proofs.Steps.{steps_before}
use Rattle.amqp_replay.proofs.TakenLines.{SaysStep, AreTaken, said_from, step-read, step-taken, both-taken, each-taken}
use Rattle.amqp_replay.proofs.SpelledLines.{first_word-found, after_word-found, decimal-in_word, decimal-no_plus, decimal-printable, number_16-decimal, number_64-decimal, spelled-part, content-said, bytes-said}

-- the lines behind the first step
abbrev begun : SetupSoFar
begun = after_step (no_lines false)

-- ---- a frame in a piece

are_bytes : (bytes : List ℕ) → list_all (λ b. nat_lt b 256) bytes ≡ true → IsBytes bytes
are_bytes [] all k = omega arith
are_bytes (b ∷ bytes) all zero =
    let small : nat_lt b 256 ≡ true = and-left (nat_lt b 256) (list_all (λ x. nat_lt x 256) bytes) all in
    grind (arith, nat_tests)
are_bytes (b ∷ bytes) all (suc k) = are_bytes bytes (and-right (nat_lt b 256) (list_all (λ x. nat_lt x 256) bytes) all) k

-- the line of a frame
abbrev frame_line : Frame → List ℕ
frame_line frame = (codes "bytes " ++ encode_lower (encoding frame)) ++ 10 ∷ []

frame-taken : (frame : Frame) → IsBytes (encoding frame) → 0 < length (encoding frame) → length (encoding frame) < 140
    → AreTaken begun (frame_line frame) (frame_comes frame ∷ [])
frame-taken frame are some few =
    step-taken begun (codes "bytes " ++ encode_lower (encoding frame)) (frame_comes frame) 0 refl (bytes-said (encoding frame) are some few)

-- ---- the handshake

-- the lines of the server's frames
abbrev broker_lines : List ℕ
broker_lines =
    frame_line (Method 0 (Start 0 9 broker_properties (codes "PLAIN AMQPLAIN") (codes "en_US")))
    ++ frame_line (Method 0 (Tune 2047 131072 60))
    ++ frame_line (Method 0 OpenOk)

opened-is : opened ≡ codes "link\n" ++ broker_lines
unfolding encode_with
opened-is = refl

broker-taken : AreTaken begun broker_lines (map frame_comes broker_frames)
broker-taken =
    let start = Method 0 (Start 0 9 broker_properties (codes "PLAIN AMQPLAIN") (codes "en_US")) in
    let tune = Method 0 (Tune 2047 131072 60) in
    let first = frame-taken start (are_bytes (encoding start) refl) (omega arith) (omega arith) in
    let second = frame-taken tune (are_bytes (encoding tune) refl) (omega arith) (omega arith) in
    let third = frame-taken (Method 0 OpenOk) (are_bytes (encoding (Method 0 OpenOk)) refl) (omega arith) (omega arith) in
    both-taken begun (frame_line start ++ frame_line tune) (frame_line (Method 0 OpenOk)) (frame_comes start ∷ frame_comes tune ∷ []) (frame_comes (Method 0 OpenOk) ∷ [])
    (both-taken begun (frame_line start) (frame_line tune) (frame_comes start ∷ []) (frame_comes tune ∷ []) first second)
    third

-- ---- a channel

open_line : SaysStep (codes "open") (Command OpenChannel) 0
open_line = record { printable = refl; said = refl; untimed = refl; short = omega arith; few = omega arith }

opening-is : (id : ℕ) → opening_lines id ≡ (codes "open" ++ 10 ∷ []) ++ frame_line (Method id ChannelOpenOk)
unfolding encode_with
opening-is id = refl

open_ok_bytes : (id : ℕ) → list_all (λ b. nat_lt b 256) (encoding (Method id ChannelOpenOk)) ≡ true
open_ok_bytes id =
    let high : nat_lt (byte_at 1 id) 256 ≡ true = grind (arith, nat_tests) in
    let low : nat_lt (byte_at 0 id) 256 ≡ true = grind (arith, nat_tests) in
    and-true (nat_lt (byte_at 1 id) 256) (nat_lt (byte_at 0 id) 256 && true) high (and-true (nat_lt (byte_at 0 id) 256) true low refl)

channel-taken : (id : ℕ) → AreTaken begun (opening_lines id) (channel_steps id)
channel-taken id =
    let ok = Method id ChannelOpenOk in
    let T : List ℕ → Type 0 = λ text. AreTaken begun text (channel_steps id) in
    let answered = frame-taken ok (are_bytes (encoding ok) (open_ok_bytes id)) (omega arith) (omega arith) in
    subst T (sym (opening-is id))
    (both-taken begun (codes "open" ++ 10 ∷ []) (frame_line ok) (Command OpenChannel ∷ []) (frame_comes ok ∷ [])
    (step-taken begun (codes "open") (Command OpenChannel) 0 refl open_line) answered)

-- ---- a publish

-- its words behind the number of the channel
abbrev hello_words : List ℕ → List ℕ
hello_words body = codes "60 40 0000000568656c6c6f00 0000 " ++ body

abbrev publish_words : ℕ → List ℕ → List ℕ
publish_words id body = decimal id ++ 32 ∷ hello_words body

abbrev publish_content : ℕ → List ℕ → List ℕ
publish_content id body = codes "publish " ++ publish_words id body

publishing-is : (id : ℕ) → publishing id ≡ publish_content id (body_text (id * 7919 % 9000)) ++ 10 ∷ []
publishing-is id =
    ap (λ (x : List ℕ). (codes "publish " ++ x) ++ 10 ∷ [])
    (append_assoc (decimal id) (codes " 60 40 0000000568656c6c6f00 0000 ") (body_text (id * 7919 % 9000)))

body_spelled : (size : ℕ) → size < 2 ^ 64 → spelled (body_text size) ≡ Some (made (replicate size 0) size)
body_spelled zero fits = refl
body_spelled (suc n) fits =
    spelled-part (122 ∷ decimal (suc n)) (replicate (suc n) 0) (suc n) refl (decimal-no_plus (suc n) fits)
    (ap (option_map zeros_of) (number_64-decimal (suc n) fits))

body_printable : (size : ℕ) → size < 2 ^ 64 → list_all is_printable (body_text size) ≡ true
body_printable zero fits = refl
body_printable (suc n) fits = decimal-printable (suc n) fits

body_short : (size : ℕ) → size < 9000 → length (body_text size) ≤ 5
body_short zero small = omega arith
body_short (suc n) small =
    let len = length-decimal-le 4 (suc n) (omega arith) (omega (arith, small)) (omega (arith, small)) in
    omega (arith, len)

-- the routing key, and no properties
abbrev hello_arguments : List ℕ
hello_arguments = 0 ∷ 0 ∷ 0 ∷ 5 ∷ codes "hello" ++ 0 ∷ []

arguments_spelled : spelled (codes "0000000568656c6c6f00") ≡ Some (made hello_arguments 0)
unfolding decode_pairs
arguments_spelled = refl

properties_spelled : spelled (codes "0000") ≡ Some (made (0 ∷ 0 ∷ []) 0)
unfolding decode_pairs
properties_spelled = refl

-- what these words spell
published-read : (size : ℕ) → size < 2 ^ 64
    → published_in (Some (codes "0000000568656c6c6f00 0000 " ++ body_text size))
    ≡ Some (record { arguments = made hello_arguments 0; properties = made (0 ∷ 0 ∷ []) 0; body = made (replicate size 0) size })
published-read size fits =
    let key = codes "0000000568656c6c6f00" in
    let flags = codes "0000" in
    let body = body_text size in
    let words = flags ++ 32 ∷ body in
    let one : first_data_in (Some (key ++ 32 ∷ words)) ≡ Some (made hello_arguments 0) =
    ap spelled (first_word-found key words refl) ∙ arguments_spelled in
    let behind_key : rest_of (Some (key ++ 32 ∷ words)) ≡ Some words = after_word-found key words refl in
    let two : first_data_in (Some words) ≡ Some (made (0 ∷ 0 ∷ []) 0) =
    ap spelled (first_word-found flags body refl) ∙ properties_spelled in
    let three : data_in (rest_of (Some words)) ≡ Some (made (replicate size 0) size) =
    ap data_in (after_word-found flags body refl) ∙ body_spelled size fits in
    ap (λ (x : Option SpelledBytes). all_spelled x (first_data_in (rest_of (Some (key ++ 32 ∷ words)))) (data_in (rest_of (rest_of (Some (key ++ 32 ∷ words)))))) one
    ∙ ap (λ (r : Option (List ℕ)). all_spelled (Some (made hello_arguments 0)) (first_data_in r) (data_in (rest_of r))) behind_key
    ∙ ap (λ (x : Option SpelledBytes). all_spelled (Some (made hello_arguments 0)) x (data_in (rest_of (Some words)))) two
    ∙ ap (λ (x : Option SpelledBytes). all_spelled (Some (made hello_arguments 0)) (Some (made (0 ∷ 0 ∷ []) 0)) x) three

-- the number of a class or a method at the front of words, and the words behind it
publish-read : (id size : ℕ) → id < 2 ^ 16 → size < 2 ^ 64 → publish_line (Some (publish_words id (body_text size))) ≡ Step (publish_hello id size) size
publish-read id size small fits =
    let data_words = codes "0000000568656c6c6f00 0000 " ++ body_text size in
    let method_words = codes "40" ++ 32 ∷ data_words in
    let class_words = codes "60" ++ 32 ∷ method_words in
    let words = decimal id ++ 32 ∷ class_words in
    let worded = decimal-in_word id (omega (arith, small)) in
    let behind_id : rest_of (Some words) ≡ Some class_words = after_word-found (decimal id) class_words worded in
    let behind_class : rest_of (Some class_words) ≡ Some method_words = after_word-found (codes "60") method_words refl in
    let behind_method : rest_of (Some method_words) ≡ Some data_words = after_word-found (codes "40") data_words refl in
    let channel : number_in (Some words) ≡ Some id =
    ap number_16 (first_word-found (decimal id) class_words worded) ∙ number_16-decimal id small in
    let class : number_in (Some class_words) ≡ Some 60 = ap number_16 (first_word-found (codes "60") method_words refl) in
    let method : number_in (Some method_words) ≡ Some 40 = ap number_16 (first_word-found (codes "40") data_words refl) in
    let sum : 0 + 0 + size ≡ size = omega arith in
    ap (λ (x : Option ℕ). publishes x (number_in (rest_of (Some words))) (number_in (rest_of (rest_of (Some words)))) (published_in (rest_of (rest_of (rest_of (Some words)))))) channel
    ∙ ap (λ (r : Option (List ℕ)). publishes (Some id) (number_in r) (number_in (rest_of r)) (published_in (rest_of (rest_of r)))) behind_id
    ∙ ap (λ (x : Option ℕ). publishes (Some id) x (number_in (rest_of (Some class_words))) (published_in (rest_of (rest_of (Some class_words))))) class
    ∙ ap (λ (r : Option (List ℕ)). publishes (Some id) (Some 60) (number_in r) (published_in (rest_of r))) behind_class
    ∙ ap (λ (x : Option ℕ). publishes (Some id) (Some 60) x (published_in (rest_of (Some method_words)))) method
    ∙ ap (λ (r : Option (List ℕ)). publishes (Some id) (Some 60) (Some 40) (published_in r)) behind_method
    ∙ ap (publishes (Some id) (Some 60) (Some 40)) (published-read size fits)
    ∙ ap (λ (n : ℕ). Step (publish_hello id size) n) sum

publish-said : (id size : ℕ) → id < 2 ^ 16 → size < 9000 → SaysStep (publish_content id (body_text size)) (publish_hello id size) size
publish-said id size small below =
    let words = publish_words id (body_text size) in
    let fits : size < 2 ^ 64 = omega (arith, below) in
    let id-fits : id < 2 ^ 64 = omega (arith, small) in
    let body = body_printable size fits in
    let printable : list_all is_printable (publish_content id (body_text size)) ≡ true =
    list_all-append is_printable (decimal id) (32 ∷ hello_words (body_text size))
    ∙ and-true (list_all is_printable (decimal id)) (list_all is_printable (32 ∷ hello_words (body_text size))) (decimal-printable id id-fits) body in
    let len = length-append (decimal id) (32 ∷ hello_words (body_text size)) in
    let len-id = length-decimal-le 5 id (omega arith) (omega (arith, small)) id-fits in
    let len-body = body_short size below in
    record {
      printable = printable;
      said = content-said 112 (codes "ublish " ++ words) (codes "publish") (Some words) (Step (publish_hello id size) size) printable refl refl
          (first_word-found (codes "publish") words refl) (after_word-found (codes "publish") words refl) refl (publish-read id size small fits);
      untimed = refl;
      short = omega (arith, len, len-id, len-body);
      few = omega (arith, below);
    }

publish-taken : (id : ℕ) → id < 2 ^ 16 → AreTaken begun (publishing id) (publish_step id ∷ [])
publish-taken id small =
    let size = id * 7919 % 9000 in
    let below : size < 9000 = omega arith in
    let T : List ℕ → Type 0 = λ text. AreTaken begun text (publish_step id ∷ []) in
    subst T (sym (publishing-is id))
    (step-taken begun (publish_content id (body_text size)) (publish_step id) size refl (publish-said id size small below))

as_map : (f : ℕ → GivenStep) (xs : List ℕ) → flat_map (λ x. f x ∷ []) xs ≡ map f xs
as_map f [] = refl
as_map f (x ∷ xs) = ap (λ (rest : List GivenStep). f x ∷ rest) (as_map f xs)

publishes-taken : (count : ℕ) → count ≤ MOST_GENERATED
    → AreTaken begun (flat_map publishing (range_with_len 1 count)) (map publish_step (range_with_len 1 count))
publishes-taken count within =
    let T : List GivenStep → Type 0 = λ steps. AreTaken begun (flat_map publishing (range_with_len 1 count)) steps in
    subst T (as_map publish_step (range_with_len 1 count))
    (each-taken begun publishing (λ id. publish_step id ∷ []) (2 ^ 16) publish-taken 1 count (omega (arith, within)))

-- ---- the close

shut_line : SaysStep (codes "shut 200 OK") (Command (CloseConnection 200 (codes "OK"))) 0
shut_line = record { printable = refl; said = refl; untimed = refl; short = omega arith; few = omega arith }

ending-is : ending ≡ (codes "shut 200 OK" ++ 10 ∷ []) ++ frame_line (Method 0 CloseOk)
unfolding encode_with
ending-is = refl

ending-taken : AreTaken begun ending (Command (CloseConnection 200 (codes "OK")) ∷ frame_comes (Method 0 CloseOk) ∷ [])
ending-taken =
    let ok = Method 0 CloseOk in
    let close = Command (CloseConnection 200 (codes "OK")) in
    let T : List ℕ → Type 0 = λ text. AreTaken begun text (close ∷ frame_comes ok ∷ []) in
    subst T (sym ending-is)
    (both-taken begun (codes "shut 200 OK" ++ 10 ∷ []) (frame_line ok) (close ∷ []) (frame_comes ok ∷ [])
    (step-taken begun (codes "shut 200 OK") close 0 refl shut_line)
    (frame-taken ok (are_bytes (encoding ok) refl) (omega arith) (omega arith)))

-- ---- all lines

channels-taken : (count : ℕ) → AreTaken begun (flat_map opening_lines (range_with_len 1 count)) (flat_map channel_steps (range_with_len 1 count))
channels-taken count = each-taken begun opening_lines channel_steps (1 + count) (λ id _. channel-taken id) 1 count (omega arith)

-- the lines behind the first one, and their steps
abbrev later_lines : ℕ → List ℕ
later_lines count =
    broker_lines
    ++ flat_map opening_lines (range_with_len 1 count)
    ++ flat_map publishing (range_with_len 1 count)
    ++ ending

abbrev later_steps : ℕ → List GivenStep
later_steps count =
    map frame_comes broker_frames
    ++ flat_map channel_steps (range_with_len 1 count)
    ++ map publish_step (range_with_len 1 count)
    ++ Command (CloseConnection 200 (codes "OK"))
    ∷ frame_comes (Method 0 CloseOk)
    ∷ []

later-taken : (count : ℕ) → count ≤ MOST_GENERATED → AreTaken begun (later_lines count) (later_steps count)
later-taken count within =
    let opens = flat_map opening_lines (range_with_len 1 count) in
    let messages = flat_map publishing (range_with_len 1 count) in
    let open_steps = flat_map channel_steps (range_with_len 1 count) in
    let message_steps = map publish_step (range_with_len 1 count) in
    let greeting = map frame_comes broker_frames in
    both-taken begun (broker_lines ++ opens ++ messages) ending (greeting ++ open_steps ++ message_steps)
    (Command (CloseConnection 200 (codes "OK")) ∷ frame_comes (Method 0 CloseOk) ∷ [])
    (both-taken begun (broker_lines ++ opens) messages (greeting ++ open_steps) message_steps
    (both-taken begun broker_lines opens greeting open_steps broker-taken (channels-taken count))
    (publishes-taken count within))
    ending-taken

two_each : (from count : ℕ) → length (flat_map channel_steps (range_with_len from count)) ≡ 2 * count
two_each from zero = refl
two_each from (suc count) =
    let more = two_each (from + 1) count in
    omega (arith, more)

one_each : (from count : ℕ) → length (map publish_step (range_with_len from count)) ≡ count
one_each from zero = refl
one_each from (suc count) = ap suc (one_each (from + 1) count)

later-count : (count : ℕ) → length (later_steps count) ≡ 3 * count + 5
later-count count =
    let open_steps = flat_map channel_steps (range_with_len 1 count) in
    let message_steps = map publish_step (range_with_len 1 count) in
    let greeting = map frame_comes broker_frames in
    let two = two_each 1 count in
    let one = one_each 1 count in
    let a = length-append greeting open_steps in
    let b = length-append (greeting ++ open_steps) message_steps in
    let c =
    length-append (greeting ++ open_steps ++ message_steps) (Command (CloseConnection 200 (codes "OK")) ∷ frame_comes (Method 0 CloseOk) ∷ []) in
    omega (arith, one, two, a, b, c)

link_line : SaysStep (codes "link") (Link None) 0
link_line = record { printable = refl; said = refl; untimed = refl; short = omega arith; few = omega arith }

generated-is : (count : ℕ) → generated count ≡ codes "link" ++ 10 ∷ later_lines count
generated-is count =
    let opens = flat_map opening_lines (range_with_len 1 count) in
    let messages = flat_map publishing (range_with_len 1 count) in
    ap (λ (x : List ℕ). x ++ opens ++ messages ++ ending) opened-is

-- a script that says these steps
abbrev says_steps : List Given → Result Scenario ℕ
says_steps gs = Ok (record { config = begun.config; handed = false; listens = false; steps = gs })

-- steps that are read before its end
ended : (gs : List Given) (left number before : ℕ) → steps_before gs (said_from begun left number before []) ≡ says_steps gs
ended gs left number before = ap says_steps (append-nil gs)

later-read : (count : ℕ) → count ≤ MOST_GENERATED
    → said_from begun ZERO_BYTES 2 5 (later_lines count)
    ≡ says_steps (map (given 0) (later_steps count))
later-read count within =
    let text = later_lines count in
    let steps = later_steps count in
    let taken = later-taken count within in
    let len = later-count count in
    let short : length text ≤ 300 * length steps = taken.short in
    let few : taken.zeros ≤ 9000 * length steps = taken.few in
    ap (said_from begun ZERO_BYTES 2 5) (sym (append-nil text))
    ∙ taken.read 2 5 ZERO_BYTES [] (omega (arith, len, within)) (omega (arith, len, within, short)) (omega (arith, len, within, few))
    ∙ ended (map (given 0) steps) (ZERO_BYTES - taken.zeros) (2 + length steps) (5 + length text)

-- what the script of a number says
pub generated-taken : (count : ℕ) → count ≤ MOST_GENERATED → parsed false (generated count) ≡ Ok (generated_scenario count)
generated-taken count within =
    ap (parsed false) (generated-is count)
    ∙ step-read (no_lines false) (codes "link") (Link None) 0 link_line 1 0 ZERO_BYTES (later_lines count) (omega arith) (omega arith) (omega arith)
    ∙ ap (steps_before (given 0 (Link None) ∷ [])) (later-read count within)
