-- What is said of a connection from end to end: a line for each thing that was done, and one of the error.
use Rattle.std.specs.Prelude.{◌≡◌, ◌⊎◌, ℕ, List, [], ◌∷◌, ◌++◌, Option, Some, None, codes, if◌then◌else◌}
use Rattle.std.specs.Str.{bytes_eq}
use Rattle.std.specs.Fmt.{decimal}
use Rattle.amqp_promise.specs.declared.error.ErrorKind.{ErrorKind}
use Rattle.amqp_promise.specs.Errors.{error_text}
use Rattle.amqp_replay.specs.Top.{TookAll, TookFront}

-- `live` and one address
abbrev pub live_address : List (List ℕ) → Option (List ℕ)
live_address (word ∷ uri ∷ []) = if bytes_eq word (codes "live") then Some uri else None
live_address _ = None

-- the connection is open
abbrev pub connected_line : List ℕ
connected_line = codes "connected\n"

-- a channel of this number was opened
abbrev pub channel_line : ℕ → List ℕ
channel_line id = codes "channel " ++ decimal id ++ codes "\n"

-- some channel was opened
abbrev pub IsChannelLine : List ℕ → Type 0
IsChannelLine line = (id : ℕ) × (line ≡ channel_line id)

-- the channel and the connection were closed
abbrev pub closed_line : List ℕ
closed_line = codes "closed\n"

-- why it went no further
abbrev pub error_line : ErrorKind → List ℕ
error_line e = codes "error " ++ error_text e ++ codes "\n"

-- the first two lines
abbrev pub two_lines : ℕ → List ℕ
two_lines id = connected_line ++ channel_line id

-- all three lines
abbrev pub all_lines : ℕ → List ℕ
all_lines id = two_lines id ++ closed_line

-- some lines of the three, from the first on, but not all
abbrev pub AreFrontLines : List ℕ → Type 0
AreFrontLines text = (text ≡ []) ⊎ (text ≡ connected_line) ⊎ ((id : ℕ) × (text ≡ two_lines id))

-- the sink took all three lines
abbrev pub SaysAll : Option (List ℕ) → Option (List ℕ) → Type 0
SaysAll before after = (id : ℕ) × TookAll (all_lines id) before after

-- the sink took some of the lines
abbrev pub SaysSome : Option (List ℕ) → Option (List ℕ) → Type 0
SaysSome before after = (text : List ℕ) × AreFrontLines text × TookAll text before after

-- the sink took some of the lines, and then an error
abbrev pub SaysError : ErrorKind → Option (List ℕ) → Option (List ℕ) → Type 0
SaysError e before after = (text : List ℕ) × AreFrontLines text × TookAll (text ++ error_line e) before after

-- some of the lines, all of them, or some and an error
abbrev pub AreLines : List ℕ → Type 0
AreLines said =
    ((id : ℕ) × (said ≡ all_lines id))
    ⊎ AreFrontLines said
    ⊎ ((text : List ℕ) × (e : ErrorKind) × AreFrontLines text × (said ≡ text ++ error_line e))

-- the sink took a front of the lines, or of some of them and an error
abbrev pub SaysFront : Option (List ℕ) → Option (List ℕ) → Type 0
SaysFront before after = (said : List ℕ) × AreLines said × TookFront said before after
