-- The setup lines of a script: what a session is made from, before its steps.
use Rattle.std.specs.Prelude.{ℕ, ◌==◌, ◌&&◌, ◌||◌, not, nat_le, if◌then◌else◌, Bool, true, false, List, [], ◌∷◌, length, Option, Some, None, option_map, unwrap_or, codes}
use Rattle.std.specs.List.{slice_split}
use Rattle.std.specs.Result.{result_ok}
use Rattle.std.specs.Str.{bytes_eq}
use Rattle.amqp_uri.specs.Address.{local, address_of_text as address_of}
use Rattle.amqp_settings.specs.Config.{Options, Config, config_of, no_options, with_locale, with_name, with_property, with_backoff, with_recovery, with_outbox_limit}
use Rattle.amqp_replay.specs.declared.limits.TheConstants.{TEXT_BYTES}
use Rattle.amqp_replay.specs.declared.setup.Setting.{Setting}
use Rattle.amqp_replay.specs.declared.setup.Setting.TheVariants.{Uri, Locale, Name, Property, Recover, Delays, Provider, Listen, Limit}
use Rattle.amqp_replay.specs.Decimals.{number_64}
use Rattle.amqp_replay.specs.Words.{first_word, after_word}

-- ---- what a line sets

-- the words that a setup line begins with
abbrev pub is_setup_word : List ℕ → Bool
is_setup_word word =
    bytes_eq word (codes "uri")
    || (bytes_eq word (codes "locale")
    || (bytes_eq word (codes "name")
    || (bytes_eq word (codes "property")
    || (bytes_eq word (codes "recover")
    || (bytes_eq word (codes "delays")
    || (bytes_eq word (codes "provider")
    || (bytes_eq word (codes "listen") || bytes_eq word (codes "limit"))))))))

-- a line that begins with such a word
abbrev pub is_setup : List ℕ → Bool
is_setup content = is_setup_word (first_word content)

-- `uri TEXT`, of any length, where the text is an address
abbrev pub uri_in : Option (List ℕ) → Option Setting
uri_in rest = option_map Uri (result_ok (address_of (unwrap_or rest [])))

-- a text of at most 255 bytes
abbrev pub short_text : List ℕ → Option (List ℕ)
short_text text = if nat_le (length text) TEXT_BYTES then Some text else None

-- such a text, which may be missing, and is empty then
abbrev pub text_in : Option (List ℕ) → Option (List ℕ)
text_in rest = short_text (unwrap_or rest [])

-- a key has 1 to 255 bytes
abbrev pub is_key : List ℕ → Bool
is_key word = nat_le 1 (length word) && nat_le (length word) TEXT_BYTES

-- `property KEY TEXT`
abbrev pub property_in : Option (List ℕ) → Option Setting
property_in None = None
property_in (Some words) =
    if is_key (first_word words) then option_map (Property (first_word words)) (text_in (after_word words)) else None

-- `recover`, alone
abbrev pub recover_in : Option (List ℕ) → Option Setting
recover_in None = Some Recover
recover_in (Some text) = None

-- what numbers are parted by
abbrev pub is_blank : ℕ → Bool
is_blank b = b == 32

-- a number before those that follow, where all are numbers
abbrev pub before_numbers : Option ℕ → Option (List ℕ) → Option (List ℕ)
before_numbers (Some n) (Some ns) = Some (n ∷ ns)
before_numbers _ _ = None

-- numbers of 64 bits, where each word is one
abbrev pub numbers_of : List (List ℕ) → Option (List ℕ)
numbers_of [] = Some []
numbers_of (word ∷ words) = before_numbers (number_64 word) (numbers_of words)

-- `delays N..`, with any count of numbers
abbrev pub delays_in : Option (List ℕ) → Option Setting
delays_in None = Some (Delays [])
delays_in (Some text) = option_map Delays (numbers_of (slice_split is_blank text))

-- `provider handed`
abbrev pub provider_in : Option (List ℕ) → Option Setting
provider_in None = None
provider_in (Some text) = if bytes_eq text (codes "handed") then Some Provider else None

-- `listen`, alone
abbrev pub listen_in : Option (List ℕ) → Option Setting
listen_in None = Some Listen
listen_in (Some text) = None

-- `limit N`
abbrev pub limit_in : Option (List ℕ) → Option Setting
limit_in None = None
limit_in (Some text) = option_map Limit (number_64 text)

-- a line that says something of the client: it begins with this word and goes on like this
abbrev pub option_by : List ℕ → Option (List ℕ) → Option Setting
option_by word rest =
    if bytes_eq word (codes "locale") then option_map Locale (text_in rest)
    else if bytes_eq word (codes "name") then option_map Name (text_in rest)
    else if bytes_eq word (codes "property") then property_in rest
    else if bytes_eq word (codes "recover") then recover_in rest
    else if bytes_eq word (codes "delays") then delays_in rest
    else if bytes_eq word (codes "provider") then provider_in rest
    else if bytes_eq word (codes "listen") then listen_in rest
    else if bytes_eq word (codes "limit") then limit_in rest
    else None

-- a line that begins with this word and goes on like this
abbrev pub setting_by : List ℕ → Option (List ℕ) → Option Setting
setting_by word rest = if bytes_eq word (codes "uri") then uri_in rest else option_by word rest

-- what a line sets, where it sets anything
abbrev pub setting_of : List ℕ → Option Setting
setting_of content = setting_by (first_word content) (after_word content)

-- ---- how far the lines have come

-- how far the lines of a script have come
pub record SetupSoFar : Type 0 where
  -- what the session is made from, by the settings so far
  pub config : Config
  -- whether a provider was handed to the program
  pub is_handed : Bool
  -- whether a line said each of those that at most one line may say, and whether one said a step
  pub has_uri : Bool
  pub has_locale : Bool
  pub has_name : Bool
  pub has_recover : Bool
  pub has_delays : Bool
  pub has_provider : Bool
  pub has_listen : Bool
  pub has_limit : Bool
  pub has_step : Bool

-- before the first line: the broker of this machine, and nothing said of the client; a provider was handed or not
abbrev pub no_lines : Bool → SetupSoFar
no_lines is_handed =
    record {
      config = config_of local no_options;
      is_handed = is_handed;
      has_uri = false;
      has_locale = false;
      has_name = false;
      has_recover = false;
      has_delays = false;
      has_provider = false;
      has_listen = false;
      has_limit = false;
      has_step = false;
    }

-- a setting may stand before all steps alone, and each but a property once; a provider must have been handed
abbrev pub may_stand : Setting → SetupSoFar → Bool
may_stand (Uri uri) p = not (p.has_step || p.has_uri)
may_stand (Locale locale) p = not (p.has_step || p.has_locale)
may_stand (Name name) p = not (p.has_step || p.has_name)
may_stand (Property key text) p = not p.has_step
may_stand Recover p = not (p.has_step || p.has_recover)
may_stand (Delays delays) p = not (p.has_step || p.has_delays)
may_stand Provider p = p.is_handed && not (p.has_step || p.has_provider)
may_stand Listen p = not (p.has_step || p.has_listen)
may_stand (Limit octets) p = not (p.has_step || p.has_limit)

-- the options are changed alone
abbrev pub with_options : (Options → Options) → Config → Config
with_options f config = record config { options = f config.options }

-- after a setting that may stand there
abbrev pub after_setting : Setting → SetupSoFar → SetupSoFar
after_setting (Uri uri) p = record p { config = config_of uri p.config.options; has_uri = true }
after_setting (Locale locale) p = record p { config = with_options (with_locale locale) p.config; has_locale = true }
after_setting (Name name) p = record p { config = with_options (with_name name) p.config; has_name = true }
after_setting (Property key text) p = record p { config = with_options (with_property key text) p.config }
after_setting Recover p = record p { config = with_options with_recovery p.config; has_recover = true }
after_setting (Delays delays) p = record p { config = with_options (with_backoff delays) p.config; has_delays = true }
after_setting Provider p = record p { has_provider = true }
after_setting Listen p = record p { has_listen = true }
after_setting (Limit octets) p =
    record p { config = with_options (with_outbox_limit octets) p.config; has_limit = true }

-- after a step
abbrev pub after_step : SetupSoFar → SetupSoFar
after_step p = record p { has_step = true }

-- after a setting, unless it may not stand there
abbrev pub set_by : Setting → SetupSoFar → Option SetupSoFar
set_by setting p = if may_stand setting p then Some (after_setting setting p) else None
