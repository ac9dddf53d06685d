-- What a script says of its session can be said.
use Rattle.std.proofs.Common.{◌<◌, ◌^◌, ℕ, ◌-◌, Bool, List, [], ◌∷◌, length, Result, Ok, Err, arith}
use Rattle.std.specs.Prelude.{codes}
use Rattle.amqp_settings.specs.Config.{Config}
use Rattle.amqp_written_rules.specs.Sayable.{CanBeSaid}
use Rattle.amqp_written_rules.proofs.Introducing.{AreProperties, put-text, properties-said}
use Rattle.amqp_types.proofs.Small.{if_case}
use Rattle.amqp_replay.specs.declared.grammar.Said.{Said}
use Rattle.amqp_replay.specs.declared.grammar.Said.TheVariants.{Nothing, Refused, Setup, Step}
use Rattle.amqp_replay.specs.declared.limits.TheConstants.{ZERO_BYTES}
use Rattle.amqp_replay.specs.declared.setup.Setting.{Setting}
use Rattle.amqp_replay.specs.declared.setup.Setting.TheVariants.{Uri, Locale, Name, Property, Recover, Delays, Provider, Listen, Limit}
use Rattle.amqp_replay.specs.Lines.{Line, lines as lines_of}
use Rattle.amqp_replay.specs.Setup.{SetupSoFar, no_lines, may_stand, after_setting}
use Rattle.amqp_replay.specs.Grammar.{Scenario, placed, progress_after, says, limited, moment_after, zeros_in, before, scenario_of, parsed}
use Rattle.amqp_replay.specs.Runs.{IsSayableScript}
use Rattle.amqp_replay.proofs.Settings.{IsSayableUri, IsSayable}
use Rattle.amqp_replay.proofs.Pieces.{SaysPiece, says_piece}

-- what the settings so far make a session from
record IsSayableConfig (c : Config) : Type 0 where
  uri : IsSayableUri c.uri
  locale : length c.options.locale < 2 ^ 8
  properties : AreProperties c.options.properties

config-said : (c : Config) → IsSayableConfig c → CanBeSaid c
config-said c h = record { numbers = h.uri.0; vhost = h.uri.1; locale = h.locale; properties = properties-said c.options.properties h.properties }

-- a setting more
set-more : (setting : Setting) (p : SetupSoFar) → IsSayable setting → IsSayableConfig p.config → IsSayableConfig (after_setting setting p).config
set-more (Uri uri) p said h = record { uri = said; locale = h.locale; properties = h.properties }
set-more (Locale locale) p said h = record { uri = h.uri; locale = said; properties = h.properties }
set-more (Name name) p said h =
    record { uri = h.uri; locale = h.locale; properties = put-text p.config.options.properties (codes "connection_name") name h.properties (omega arith) }
set-more (Property key text) p said h = record { uri = h.uri; locale = h.locale; properties = put-text p.config.options.properties key text h.properties said }
set-more Recover p said h = record { uri = h.uri; locale = h.locale; properties = h.properties }
set-more (Delays delays) p said h = record { uri = h.uri; locale = h.locale; properties = h.properties }
set-more Provider p said h = record { uri = h.uri; locale = h.locale; properties = h.properties }
set-more Listen p said h = record { uri = h.uri; locale = h.locale; properties = h.properties }
set-more (Limit octets) p said h = record { uri = h.uri; locale = h.locale; properties = h.properties }

-- a line more
line-more : (said : Said) (p : SetupSoFar) → SaysPiece said → IsSayableConfig p.config → IsSayableConfig (progress_after p (placed p said)).config
line-more Nothing p piece h = h
line-more Refused p piece h = h
line-more (Setup setting) p piece h =
    if_case (λ (x : Said). IsSayableConfig (progress_after p x).config) (may_stand setting p) (Setup setting) Refused (set-more setting p piece h) h
line-more (Step what n) p piece h = h

-- what the later lines say
by-first : (at : ℕ) (said : Said) (number : ℕ) (rest : Result Scenario ℕ) → IsSayableScript rest → IsSayableScript (before at said number rest)
by-first at Nothing number rest h = h
by-first at Refused number rest h = tt
by-first at (Setup setting) number rest h = h
by-first at (Step what n) number (Ok s) h = h
by-first at (Step what n) number (Err line) h = tt

lines-said : (lines : List Line) (p : SetupSoFar) (at left : ℕ) → IsSayableConfig p.config → IsSayableScript (scenario_of p at left lines)
lines-said [] p at left h = config-said p.config h
lines-said (line ∷ lines) p at left h =
    let said = limited left (says line) in
    let stands = placed p said in
    let now = moment_after at stands line.content in
    by-first now stands line.number (scenario_of (progress_after p stands) now (left - zeros_in stands) lines)
    (lines-said lines (progress_after p stands) now (left - zeros_in stands) (line-more said p (says_piece left line) h))

-- what a script says
pub script-said : (is_handed : Bool) (text : List ℕ) → IsSayableScript (parsed is_handed text)
script-said is_handed text =
    lines-said (lines_of text) (no_lines is_handed) 0 ZERO_BYTES
    (record { uri = ((omega arith, omega arith, omega arith), omega arith); locale = omega arith; properties = (tt, tt) })
