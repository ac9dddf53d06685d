-- Each piece that a line says has a length that a port can give.
use Rattle.std.proofs.Common.{◌≡◌, ◌≤◌, ◌&&◌, nat_le, if◌then◌else◌, ℕ, Bool, true, false, not, List, [], ◌∷◌, ◌++◌, length, Option, Some, None, option_map, unwrap_or, refl, arith, codes}
use Rattle.std.specs.List.{list_all}
use Rattle.std.specs.Str.{bytes_eq}
use Rattle.std.proofs.lemmas.Bool.Decides.{nat_tests}
use Rattle.amqp_commands.specs.declared.command.Cmd.{Cmd}
use Rattle.amqp_commands.specs.declared.command.Cmd.TheVariants.{OpenChannel, CloseChannel, CloseConnection, UpdateSecret, Send, Publish}
use Rattle.amqp_engine.specs.declared.given.Given.{Given}
use Rattle.amqp_engine.specs.declared.given.GivenStep.{GivenStep}
use Rattle.amqp_engine.specs.declared.given.GivenStep.TheVariants.{Link, Refuse, Bytes, End, Fault, Room, WriteFail, Tick, Command}
use Rattle.amqp_engine.specs.Plan.{IsGivenPiece, ArePieces}
use Rattle.amqp_replay.specs.declared.grammar.Said.{Said}
use Rattle.amqp_replay.specs.declared.grammar.Said.TheVariants.{Nothing, Refused, Setup, Step}
use Rattle.amqp_replay.specs.declared.limits.TheConstants.{PIECE_BYTES, SECRET_BYTES, TEXT_BYTES}
use Rattle.amqp_replay.specs.Lines.{Line, is_ignored, is_printable, is_within_limits}
use Rattle.amqp_replay.specs.Words.{first_word, after_word}
use Rattle.amqp_replay.specs.Decimals.{number_16, number_64}
use Rattle.amqp_replay.specs.Data.{SpelledBytes, spelled}
use Rattle.amqp_replay.specs.declared.setup.Setting.{Setting}
use Rattle.amqp_replay.specs.Setup.{is_setup, setting_of}
use Rattle.amqp_replay.proofs.Settings.{IsSayable, MaySet, set-line}
use Rattle.amqp_replay.specs.Grammar.{step_or_refused, lone, link_line, room_line, piece_said, bytes_line, closes_by, closes, shut_line, numbered, closes_numbered, close_line, number_in, rest_of, is_passed_class, sent_method, sends_data, data_in, sends, send_line, Published, zeros_published, published_in, publishes_data, publishes, publish_line, switch_in, flow_said, flow_line, first_data_in, secrets, secret_line, command_of_words, line_of_words, words_say, words_timed, is_at_sign, step_line, setup_or_refused, content_says, says, limited}

-- a piece has a length that a port can give, and what a line sets can be said
abbrev pub SaysPiece : Said → Type 0
SaysPiece (Step what n) = IsGivenPiece what
SaysPiece (Setup setting) = IsSayable setting
SaysPiece _ = Unit {0}

if_case : (b : Bool) (x y : Said) → SaysPiece x → SaysPiece y → SaysPiece (if b then x else y)
if_case true x y p q = p
if_case false x y p q = q

-- ---- a step without a piece

of_lone : (what : GivenStep) (o : Option (List ℕ)) → IsGivenPiece what → SaysPiece (lone what o)
of_lone what None p = p
of_lone what (Some rest) p = tt

of_link : (o : Option ℕ) → SaysPiece (step_or_refused (option_map (λ n. Link (Some n)) o))
of_link None = tt
of_link (Some n) = tt

of_room : (o : Option ℕ) → SaysPiece (step_or_refused (option_map Room o))
of_room None = tt
of_room (Some n) = tt

of_link_line : (o : Option (List ℕ)) → SaysPiece (link_line o)
of_link_line None = tt
of_link_line (Some digits) = of_link (number_64 digits)

of_room_line : (o : Option (List ℕ)) → SaysPiece (room_line o)
of_room_line None = tt
of_room_line (Some digits) = of_room (number_64 digits)

of_closes_by : (cmd : ℕ → List ℕ → Cmd) (o : Option ℕ) (text : List ℕ) → SaysPiece (closes_by cmd o text)
of_closes_by cmd None text = tt
of_closes_by cmd (Some code) text =
    if_case (nat_le (length text) TEXT_BYTES) (Step (Command (cmd code text)) 0) Refused tt tt

of_closes : (cmd : ℕ → List ℕ → Cmd) (o : Option (List ℕ)) → SaysPiece (closes cmd o)
of_closes cmd None = tt
of_closes cmd (Some words) = of_closes_by cmd (number_16 (first_word words)) (unwrap_or (after_word words) [])

of_close_of : (o : Option ℕ) (rest : Option (List ℕ)) → SaysPiece (closes_numbered o rest)
of_close_of None rest = tt
of_close_of (Some n) rest = of_closes (CloseChannel (numbered n)) rest

of_close_line : (o : Option (List ℕ)) → SaysPiece (close_line o)
of_close_line None = tt
of_close_line (Some words) = of_close_of (number_16 (first_word words)) (after_word words)

of_sends_data : (n class method : ℕ) (o : Option SpelledBytes) → SaysPiece (sends_data n class method o)
of_sends_data n class method None = tt
of_sends_data n class method (Some found) =
    if_case (is_passed_class class) (Step (Command (Send (numbered n) (sent_method class method found.bytes))) found.zeros) Refused tt tt

of_sends : (n class method : Option ℕ) (o : Option SpelledBytes) → SaysPiece (sends n class method o)
of_sends (Some n) (Some class) (Some method) o = of_sends_data n class method o
of_sends None class method o = tt
of_sends (Some n) None method o = tt
of_sends (Some n) (Some class) None o = tt

of_send_line : (o : Option (List ℕ)) → SaysPiece (send_line o)
of_send_line o =
    of_sends (number_in o) (number_in (rest_of o)) (number_in (rest_of (rest_of o))) (data_in (rest_of (rest_of (rest_of o))))

of_publishes_data : (n class method : ℕ) (o : Option Published) → SaysPiece (publishes_data n class method o)
of_publishes_data n class method None = tt
of_publishes_data n class method (Some p) =
    if_case (is_passed_class class && nat_le 2 (length p.properties.bytes))
    (Step (Command (Publish (numbered n) (sent_method class method p.arguments.bytes) p.properties.bytes p.body.bytes)) (zeros_published p))
    Refused tt tt

of_publishes : (n class method : Option ℕ) (o : Option Published) → SaysPiece (publishes n class method o)
of_publishes (Some n) (Some class) (Some method) o = of_publishes_data n class method o
of_publishes None class method o = tt
of_publishes (Some n) None method o = tt
of_publishes (Some n) (Some class) None o = tt

of_publish_line : (o : Option (List ℕ)) → SaysPiece (publish_line o)
of_publish_line o =
    of_publishes (number_in o) (number_in (rest_of o)) (number_in (rest_of (rest_of o))) (published_in (rest_of (rest_of (rest_of o))))

of_flows : (n : Option ℕ) (active : Option Bool) → SaysPiece (flow_said n active)
of_flows (Some n) (Some active) = tt
of_flows None active = tt
of_flows (Some n) None = tt

of_secrets : (o : Option SpelledBytes) (reason : List ℕ) → SaysPiece (secrets o reason)
of_secrets None reason = tt
of_secrets (Some found) reason =
    if_case (nat_le (length found.bytes) SECRET_BYTES && nat_le (length reason) TEXT_BYTES)
    (Step (Command (UpdateSecret found.bytes reason)) found.zeros) Refused tt tt

-- ---- a piece

both : (n : ℕ) → (nat_le 1 n && nat_le n 4096) ≡ true → (1 ≤ n) × (n ≤ 4096)
both n h = (grind (arith, nat_tests), grind (arith, nat_tests))

sized : (b : Bool) (bytes : List ℕ) (n : ℕ) → (nat_le 1 (length bytes) && nat_le (length bytes) PIECE_BYTES) ≡ b
    → SaysPiece (if b then Step (Bytes bytes) n else Refused)
sized true bytes n h = both (length bytes) h
sized false bytes n h = tt

of_piece : (o : Option SpelledBytes) → SaysPiece (piece_said o)
of_piece None = tt
of_piece (Some found) = sized (nat_le 1 (length found.bytes) && nat_le (length found.bytes) PIECE_BYTES) found.bytes found.zeros refl

of_bytes_line : (o : Option (List ℕ)) → SaysPiece (bytes_line o)
of_bytes_line None = tt
of_bytes_line (Some text) = of_piece (spelled text)

-- ---- a line

of_command : (word : List ℕ) (rest : Option (List ℕ)) → SaysPiece (command_of_words word rest)
of_command word rest =
    if_case (bytes_eq word (codes "open")) (lone (Command OpenChannel) rest) _ (of_lone (Command OpenChannel) rest tt)
    (if_case (bytes_eq word (codes "close")) (close_line rest) _ (of_close_line rest)
    (if_case (bytes_eq word (codes "send")) (send_line rest) _ (of_send_line rest)
    (if_case (bytes_eq word (codes "publish")) (publish_line rest) _ (of_publish_line rest)
    (if_case (bytes_eq word (codes "flow")) (flow_line rest) _ (of_flows (number_in rest) (switch_in (rest_of rest)))
    (if_case (bytes_eq word (codes "secret")) (secret_line rest) _ (of_secrets (first_data_in rest) (unwrap_or (rest_of rest) []))
    (if_case (bytes_eq word (codes "shut")) (shut_line rest) Refused (of_closes CloseConnection rest) tt))))))

of_words : (word : List ℕ) (rest : Option (List ℕ)) → SaysPiece (line_of_words word rest)
of_words word rest =
    if_case (bytes_eq word (codes "link")) (link_line rest) _ (of_link_line rest)
    (if_case (bytes_eq word (codes "refuse")) (lone Refuse rest) _ (of_lone Refuse rest tt)
    (if_case (bytes_eq word (codes "bytes")) (bytes_line rest) _ (of_bytes_line rest)
    (if_case (bytes_eq word (codes "end")) (lone End rest) _ (of_lone End rest tt)
    (if_case (bytes_eq word (codes "fault")) (lone Fault rest) _ (of_lone Fault rest tt)
    (if_case (bytes_eq word (codes "room")) (room_line rest) _ (of_room_line rest)
    (if_case (bytes_eq word (codes "writefail")) (lone WriteFail rest) _ (of_lone WriteFail rest tt)
    (if_case (bytes_eq word (codes "tick")) (lone Tick rest) (command_of_words word rest) (of_lone Tick rest tt)
    (of_command word rest))))))))

of_words_say : (text : List ℕ) → SaysPiece (words_say text)
of_words_say text = of_words (first_word text) (after_word text)

of_timed : (at : Option ℕ) (rest : Option (List ℕ)) → SaysPiece (words_timed at rest)
of_timed (Some at) (Some text) = of_words_say text
of_timed (Some at) None = tt
of_timed None rest = tt

of_step_line : (content : List ℕ) → SaysPiece (step_line content)
of_step_line [] = tt
of_step_line (b ∷ bs) =
    if_case (is_at_sign b) (words_timed (number_64 (first_word bs)) (after_word bs)) (words_say (b ∷ bs))
    (of_timed (number_64 (first_word bs)) (after_word bs)) (of_words_say (b ∷ bs))

of_setup : (o : Option Setting) → MaySet o → SaysPiece (setup_or_refused o)
of_setup None p = tt
of_setup (Some setting) p = p

of_content : (content : List ℕ) → SaysPiece (content_says content)
of_content content =
    if_case (not (list_all is_printable content)) Refused _ tt
    (if_case (is_ignored content) Nothing _ tt
    (if_case (is_setup content) (setup_or_refused (setting_of content)) (step_line content) (of_setup (setting_of content) (set-line content)) (of_step_line content)))

of_limited : (left : ℕ) (said : Said) → SaysPiece said → SaysPiece (limited left said)
of_limited left Nothing p = tt
of_limited left Refused p = tt
of_limited left (Setup setting) p = p
of_limited left (Step what n) p = if_case (nat_le n left) (Step what n) Refused p tt

pub says_piece : (left : ℕ) (line : Line) → SaysPiece (limited left (says line))
says_piece left line =
    of_limited left (says line) (if_case (is_within_limits line) (content_says line.content) Refused (of_content line.content) tt)

pub ArePieces-push : (gs : List Given) (g : Given) → ArePieces gs → IsGivenPiece g.what → ArePieces (gs ++ g ∷ [])
ArePieces-push [] g pieces piece_said = (piece_said, tt)
ArePieces-push (h ∷ gs) g pieces piece_said = (pieces.0, ArePieces-push gs g pieces.1 piece_said)
