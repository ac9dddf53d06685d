-- A script: which setting or step each line says, and which line is refused.
use Rattle.std.specs.Prelude.{ℕ, ◌+◌, ◌==◌, ◌-◌, ◌&&◌, ◌||◌, not, nat_le, if◌then◌else◌, Bool, true, false, List, [], ◌∷◌, length, Option, Some, None, option_map, unwrap_or, Result, Ok, Err, codes}
use Rattle.std.specs.List.{list_all}
use Rattle.std.specs.Str.{bytes_eq}
use Rattle.amqp_frame.specs.RawMethods.{OtherMethod}
use Rattle.amqp_settings.specs.Config.{Config}
use Rattle.amqp_commands.specs.declared.command.ChanRef.{ChanRef}
use Rattle.amqp_commands.specs.declared.command.Cmd.{Cmd}
use Rattle.amqp_commands.specs.declared.command.Cmd.TheVariants.{OpenChannel, CloseChannel, CloseConnection, UpdateSecret, Send, Publish, Flow}
use Rattle.amqp_engine.specs.declared.given.Given.{Given}
use Rattle.amqp_engine.specs.declared.given.GivenStep.{GivenStep}
use Rattle.amqp_engine.specs.declared.given.GivenStep.TheVariants.{Link, Refuse, Bytes, End, Fault, Room, WriteFail, Tick, Command}
use Rattle.amqp_replay.specs.declared.grammar.Said.{Said}
use Rattle.amqp_replay.specs.declared.grammar.Said.TheVariants.{Nothing, Refused, Setup, Step}
use Rattle.amqp_replay.specs.declared.limits.TheConstants.{PIECE_BYTES, SECRET_BYTES, TEXT_BYTES, ZERO_BYTES}
use Rattle.amqp_replay.specs.Lines.{Line, lines, is_ignored, is_printable, is_within_limits}
use Rattle.amqp_replay.specs.Words.{first_word, after_word}
use Rattle.amqp_replay.specs.Decimals.{number_16, number_64}
use Rattle.amqp_replay.specs.Data.{SpelledBytes, spelled}
use Rattle.amqp_replay.specs.declared.setup.Setting.{Setting}
use Rattle.amqp_replay.specs.Setup.{is_setup, setting_of, SetupSoFar, no_lines, may_stand, after_setting, after_step}

-- ---- lines

-- a line says a step, where there is one
abbrev pub step_or_refused : Option GivenStep → Said
step_or_refused None = Refused
step_or_refused (Some what) = Step what 0

-- a line of one word alone
abbrev pub lone : GivenStep → Option (List ℕ) → Said
lone what None = Step what 0
lone what (Some rest) = Refused

-- `link`, `link N`
abbrev pub link_line : Option (List ℕ) → Said
link_line None = Step (Link None) 0
link_line (Some digits) = step_or_refused (option_map (λ n. Link (Some n)) (number_64 digits))

-- `room N`
abbrev pub room_line : Option (List ℕ) → Said
room_line None = Refused
room_line (Some digits) = step_or_refused (option_map Room (number_64 digits))

-- a piece of 1 to 4,096 bytes
abbrev pub piece_said : Option SpelledBytes → Said
piece_said None = Refused
piece_said (Some found) =
    if nat_le 1 (length found.bytes) && nat_le (length found.bytes) PIECE_BYTES
    then Step (Bytes found.bytes) found.zeros
    else Refused

-- `bytes DATA`
abbrev pub bytes_line : Option (List ℕ) → Said
bytes_line None = Refused
bytes_line (Some text) = piece_said (spelled text)

-- a command with a code and a text, which may be missing, and is empty then
abbrev pub closes_by : (ℕ → List ℕ → Cmd) → Option ℕ → List ℕ → Said
closes_by cmd None text = Refused
closes_by cmd (Some code) text = if nat_le (length text) TEXT_BYTES then Step (Command (cmd code text)) 0 else Refused

-- what `CODE TEXT` says of a command that closes something
abbrev pub closes : (ℕ → List ℕ → Cmd) → Option (List ℕ) → Said
closes cmd None = Refused
closes cmd (Some words) = closes_by cmd (number_16 (first_word words)) (unwrap_or (after_word words) [])

-- `shut CODE TEXT`
abbrev pub shut_line : Option (List ℕ) → Said
shut_line rest = closes CloseConnection rest

-- a channel by its number alone
abbrev pub numbered : ℕ → ChanRef
numbered n = record { id = n; opened = None }

-- what follows the number of a channel that is to be closed
abbrev pub closes_numbered : Option ℕ → Option (List ℕ) → Said
closes_numbered None rest = Refused
closes_numbered (Some n) rest = closes (CloseChannel (numbered n)) rest

-- `close CH CODE TEXT`
abbrev pub close_line : Option (List ℕ) → Said
close_line None = Refused
close_line (Some words) = closes_numbered (number_16 (first_word words)) (after_word words)

-- a number at the front of the words that are left
abbrev pub number_in : Option (List ℕ) → Option ℕ
number_in None = None
number_in (Some words) = number_16 (first_word words)

-- the words after the first one
abbrev pub rest_of : Option (List ℕ) → Option (List ℕ)
rest_of None = None
rest_of (Some words) = after_word words

-- a class whose methods are not read
abbrev pub is_passed_class : ℕ → Bool
is_passed_class class = not (class == 10 || class == 20)

-- a method with arguments that are not read
abbrev pub sent_method : ℕ → ℕ → List ℕ → OtherMethod
sent_method class method arguments = record { class = class; method = method; arguments = arguments }

-- a method with these arguments is sent, where they are spelled
abbrev pub sends_data : ℕ → ℕ → ℕ → Option SpelledBytes → Said
sends_data n class method None = Refused
sends_data n class method (Some found) =
    if is_passed_class class
    then Step (Command (Send (numbered n) (sent_method class method found.bytes))) found.zeros
    else Refused

-- the bytes that the last words spell
abbrev pub data_in : Option (List ℕ) → Option SpelledBytes
data_in None = None
data_in (Some text) = spelled text

-- a method is sent, where its three numbers are there
abbrev pub sends : Option ℕ → Option ℕ → Option ℕ → Option SpelledBytes → Said
sends (Some n) (Some class) (Some method) arguments = sends_data n class method arguments
sends _ _ _ arguments = Refused

-- `send CH CLASS METHOD DATA`, of a class that is passed through
abbrev pub send_line : Option (List ℕ) → Said
send_line rest =
    let after_channel = rest_of rest in
    let after_class = rest_of after_channel in
    sends (number_in rest) (number_in after_channel) (number_in after_class) (data_in (rest_of after_class))

-- what is published: the arguments of the method, the properties and the body
pub record Published : Type 0 where
  pub arguments : SpelledBytes
  pub properties : SpelledBytes
  pub body : SpelledBytes

-- how many of their bytes are zeros that a number spells
abbrev pub zeros_published : Published → ℕ
zeros_published p = p.arguments.zeros + p.properties.zeros + p.body.zeros

-- the three, where each is spelled
abbrev pub all_spelled : Option SpelledBytes → Option SpelledBytes → Option SpelledBytes → Option Published
all_spelled (Some arguments) (Some properties) (Some body) =
    Some (record { arguments = arguments; properties = properties; body = body })
all_spelled _ _ _ = None

-- the bytes that the first word spells
abbrev pub first_data_in : Option (List ℕ) → Option SpelledBytes
first_data_in None = None
first_data_in (Some words) = spelled (first_word words)

-- what `DATA DATA DATA` spells
abbrev pub published_in : Option (List ℕ) → Option Published
published_in rest =
    let after_arguments = rest_of rest in
    all_spelled (first_data_in rest) (first_data_in after_arguments) (data_in (rest_of after_arguments))

-- a method with these arguments is published, with at least the two octets of the property flags
abbrev pub publishes_data : ℕ → ℕ → ℕ → Option Published → Said
publishes_data n class method None = Refused
publishes_data n class method (Some p) =
    if is_passed_class class && nat_le 2 (length p.properties.bytes)
    then
    Step
    (Command
    (Publish (numbered n) (sent_method class method p.arguments.bytes) p.properties.bytes p.body.bytes))
    (zeros_published p)
    else Refused

-- a method is published, where its three numbers are there
abbrev pub publishes : Option ℕ → Option ℕ → Option ℕ → Option Published → Said
publishes (Some n) (Some class) (Some method) p = publishes_data n class method p
publishes _ _ _ p = Refused

-- `publish CH CLASS METHOD DATA DATA DATA`, of a class that is passed through
abbrev pub publish_line : Option (List ℕ) → Said
publish_line rest =
    let after_channel = rest_of rest in
    let after_class = rest_of after_channel in
    publishes (number_in rest) (number_in after_channel) (number_in after_class) (published_in (rest_of after_class))

-- `on` or `off`
abbrev pub switch_of : List ℕ → Option Bool
switch_of word =
    if bytes_eq word (codes "on") then Some true
    else if bytes_eq word (codes "off") then Some false
    else None

-- the words that are left are `on` or `off`
abbrev pub switch_in : Option (List ℕ) → Option Bool
switch_in None = None
switch_in (Some text) = switch_of text

-- the server is told to start or to stop sending content, where the channel and the switch are there
abbrev pub flow_said : Option ℕ → Option Bool → Said
flow_said (Some n) (Some active) = Step (Command (Flow (numbered n) active)) 0
flow_said _ _ = Refused

-- `flow CH on`, `flow CH off`
abbrev pub flow_line : Option (List ℕ) → Said
flow_line rest = flow_said (number_in rest) (switch_in (rest_of rest))

-- a new secret is told, where it is spelled, for a reason
abbrev pub secrets : Option SpelledBytes → List ℕ → Said
secrets None reason = Refused
secrets (Some found) reason =
    if nat_le (length found.bytes) SECRET_BYTES && nat_le (length reason) TEXT_BYTES
    then Step (Command (UpdateSecret found.bytes reason)) found.zeros
    else Refused

-- `secret DATA TEXT`, where the text may be missing, and is empty then
abbrev pub secret_line : Option (List ℕ) → Said
secret_line rest = secrets (first_data_in rest) (unwrap_or (rest_of rest) [])

-- a line that tells the session to do something
abbrev pub command_of_words : List ℕ → Option (List ℕ) → Said
command_of_words word rest =
    if bytes_eq word (codes "open") then lone (Command OpenChannel) rest
    else if bytes_eq word (codes "close") then close_line rest
    else if bytes_eq word (codes "send") then send_line rest
    else if bytes_eq word (codes "publish") then publish_line rest
    else if bytes_eq word (codes "flow") then flow_line rest
    else if bytes_eq word (codes "secret") then secret_line rest
    else if bytes_eq word (codes "shut") then shut_line rest
    else Refused

-- a line that begins with this word and goes on like this
abbrev pub line_of_words : List ℕ → Option (List ℕ) → Said
line_of_words word rest =
    if bytes_eq word (codes "link") then link_line rest
    else if bytes_eq word (codes "refuse") then lone Refuse rest
    else if bytes_eq word (codes "bytes") then bytes_line rest
    else if bytes_eq word (codes "end") then lone End rest
    else if bytes_eq word (codes "fault") then lone Fault rest
    else if bytes_eq word (codes "room") then room_line rest
    else if bytes_eq word (codes "writefail") then lone WriteFail rest
    else if bytes_eq word (codes "tick") then lone Tick rest
    else command_of_words word rest

-- a line of these words
abbrev pub words_say : List ℕ → Said
words_say text = line_of_words (first_word text) (after_word text)

-- a line of these words, where a moment stands before them
abbrev pub words_timed : Option ℕ → Option (List ℕ) → Said
words_timed (Some at) (Some text) = words_say text
words_timed _ _ = Refused

-- what stands before a moment
abbrev pub is_at_sign : ℕ → Bool
is_at_sign b = b == 64

-- a line that says a step: its words, or `@N ` and then its words
abbrev pub step_line : List ℕ → Said
step_line [] = Refused
step_line (b ∷ bs) =
    if is_at_sign b then words_timed (number_64 (first_word bs)) (after_word bs) else words_say (b ∷ bs)

-- the moment that such a line names, where it names one
abbrev pub moment : List ℕ → Option ℕ
moment [] = None
moment (b ∷ bs) = if is_at_sign b then number_64 (first_word bs) else None

-- a setup line says its setting, where there is one
abbrev pub setup_or_refused : Option Setting → Said
setup_or_refused None = Refused
setup_or_refused (Some setting) = Setup setting

-- what the bytes of a line say
abbrev pub content_says : List ℕ → Said
content_says content =
    if not (list_all is_printable content) then Refused
    else if is_ignored content then Nothing
    else if is_setup content then setup_or_refused (setting_of content)
    else step_line content

-- what a line says
abbrev pub says : Line → Said
says line = if is_within_limits line then content_says line.content else Refused

-- what it says where so many zeros may still be spelled by numbers
abbrev pub limited : ℕ → Said → Said
limited left (Step what n) = if nat_le n left then Step what n else Refused
limited left said = said

-- ---- scripts

-- what a script says: what the session is made from, whether the provider that was handed authenticates it, whether its
-- events are kept, and the steps that are played
pub record Scenario : Type 0 where
  pub config : Config
  pub handed : Bool
  pub listens : Bool
  pub steps : List Given

-- a setting that may not stand where the lines have come is refused
abbrev pub placed : SetupSoFar → Said → Said
placed p (Setup setting) = if may_stand setting p then Setup setting else Refused
placed p said = said

-- how far the lines have come after a line
abbrev pub progress_after : SetupSoFar → Said → SetupSoFar
progress_after p (Setup setting) = after_setting setting p
progress_after p (Step what n) = after_step p
progress_after p _ = p

-- a step, and its moment
abbrev pub given : ℕ → GivenStep → Given
given at what = record { at = at; what = what }

-- how many zeros of a line are spelled by numbers
abbrev pub zeros_in : Said → ℕ
zeros_in (Step what n) = n
zeros_in _ = 0

-- the moment of the last step, after a line: the moment that a step line names, or else that of the step before it
abbrev pub moment_after : ℕ → Said → List ℕ → ℕ
moment_after at (Step what n) content = unwrap_or (moment content) at
moment_after at _ content = at

-- a step comes before the steps that follow, unless a line is refused
abbrev pub first : Given → Result Scenario ℕ → Result Scenario ℕ
first g (Ok s) = Ok (record s { steps = g ∷ s.steps })
first g (Err number) = Err number

-- what a line says, its step at this moment, comes before what the following lines say; a refused line comes before all
-- that follows
abbrev pub before : ℕ → Said → ℕ → Result Scenario ℕ → Result Scenario ℕ
before at Refused number rest = Err number
before at (Step what n) number rest = first (given at what) rest
before at _ number rest = rest

-- what these lines say where the lines before them have come so far, after a step of this moment, or the number of the
-- first one that is refused, where so many zeros may still be spelled by numbers
abbrev pub scenario_of : SetupSoFar → ℕ → ℕ → List Line → Result Scenario ℕ
scenario_of p at left [] =
    Ok (record { config = p.config; handed = p.has_provider; listens = p.has_listen; steps = [] })
scenario_of p at left (line ∷ lines) =
    let said = placed p (limited left (says line)) in
    let now = moment_after at said line.content in
    before now said line.number (scenario_of (progress_after p said) now (left - zeros_in said) lines)

-- what a script says, whose moments begin at 0, or the number of its first line that is refused; a provider was handed
-- to the program or not
abbrev pub parsed : Bool → List ℕ → Result Scenario ℕ
parsed is_handed text = scenario_of (no_lines is_handed) 0 ZERO_BYTES (lines text)
