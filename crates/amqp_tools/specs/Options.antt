-- The options of the program.
use Rattle.std.specs.Prelude.{◌≡◌, ◌≢◌, ◌⊎◌, ⊤, ℕ, zero, suc, List, [], ◌∷◌, ◌++◌, Option, Some, None, codes, if◌then◌else◌}
use Rattle.std.specs.Str.{bytes_eq}
use Rattle.amqp_tools.specs.declared.options.Opt.{Opt}
use Rattle.amqp_tools.specs.declared.options.Given.{Given}
use Rattle.amqp_tools.specs.declared.options.Opt.TheVariants.{Recover, Transient, Quiet, Zero, Length, Wait, Timeout, Most, Report, Once, ContentType, Header, ReplyTo, CorrelationId, Priority, Expiration, MessageId, MessageIds}

-- an option without a value
abbrev pub flag_by : List ℕ → Option Opt
flag_by word =
    if bytes_eq word (codes "--recover") then Some Recover
    else if bytes_eq word (codes "--transient") then Some Transient
    else if bytes_eq word (codes "--quiet") then Some Quiet
    else if bytes_eq word (codes "-0") then Some Zero
    else if bytes_eq word (codes "--length") then Some Length
    else None

-- an option with a value behind it
abbrev pub valued_by : List ℕ → Option Opt
valued_by word =
    if bytes_eq word (codes "--wait") then Some Wait
    else if bytes_eq word (codes "--timeout") then Some Timeout
    else if bytes_eq word (codes "--most") then Some Most
    else if bytes_eq word (codes "--report") then Some Report
    else if bytes_eq word (codes "--once") then Some Once
    else if bytes_eq word (codes "--content-type") then Some ContentType
    else if bytes_eq word (codes "--header") then Some Header
    else if bytes_eq word (codes "--reply-to") then Some ReplyTo
    else if bytes_eq word (codes "--correlation-id") then Some CorrelationId
    else if bytes_eq word (codes "--priority") then Some Priority
    else if bytes_eq word (codes "--expiration") then Some Expiration
    else if bytes_eq word (codes "--message-id") then Some MessageId
    else if bytes_eq word (codes "--message-ids") then Some MessageIds
    else None

-- an option with its value, and the words behind both
abbrev pub Next : Type 0
Next = (Opt × List ℕ) × List (List ℕ)

-- an option that was given, with its value
abbrev pub as_given : Given → Opt × List ℕ
as_given g = (g.option, g.value.now)

-- an option with the value that stands first
abbrev pub with_value : Opt → List (List ℕ) → Option Next
with_value option [] = None
with_value option (value ∷ rest) = Some ((option, value), rest)

-- an option whose value stands behind it, where the word is one
abbrev pub valued : Option Opt → List (List ℕ) → Option Next
valued (Some option) rest = with_value option rest
valued None rest = None

-- an option without a value, or another
abbrev pub flagged : Option Opt → List ℕ → List (List ℕ) → Option Next
flagged (Some option) word rest = Some ((option, []), rest)
flagged None word rest = valued (valued_by word) rest

-- the option at the front of words, and the words behind it
abbrev pub next_by : List (List ℕ) → Option Next
next_by [] = None
next_by (word ∷ rest) = flagged (flag_by word) word rest

-- one option more, and what is done after it
abbrev pub onward :
    Option Next → (List (Opt × List ℕ) → List (List ℕ) → List (Opt × List ℕ) × List (List ℕ)) →
    List (Opt × List ℕ) → List (List ℕ) → List (Opt × List ℕ) × List (List ℕ)
onward (Some next) go given words = go (given ++ next.0 ∷ []) next.1
onward None go given words = (given, words)

-- the options at the front of words, at most so many, behind those that were given; and the words behind the last
abbrev pub collects :
    ℕ → List (Opt × List ℕ) → List (List ℕ) → List (Opt × List ℕ) × List (List ℕ)
collects zero given words = (given, words)
collects (suc most) given words = onward (next_by words) (collects most) given words

-- the value of an option: that of the last that was given; none where it was not
abbrev pub IsLast : Opt → List (Opt × List ℕ) → Option (List ℕ) → Type 0
IsLast option [] (Some value) = ⊥
IsLast option [] None = ⊤
IsLast option (g ∷ gs) (Some value) = IsLast option gs (Some value) ⊎ (IsLast option gs None × (g ≡ (option, value)))
IsLast option (g ∷ gs) None = IsLast option gs None × (g.0 ≢ option)

-- an option is one of these
abbrev pub IsOneOf : List Opt → Opt → Type 0
IsOneOf [] option = ⊥
IsOneOf (o ∷ os) option = (o ≡ option) ⊎ IsOneOf os option

-- each that was given is one of these
abbrev pub AreOf : List Opt → List (Opt × List ℕ) → Type 0
AreOf known [] = ⊤
AreOf known (g ∷ gs) = IsOneOf known g.0 × AreOf known gs
