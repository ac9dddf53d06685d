-- No script is read so that it asks for a provider that was not handed.
use Rattle.std.proofs.Common.{◌≡◌, ◌&&◌, ◌||◌, not, ℕ, Bool, true, false, if◌then◌else◌, List, [], ◌∷◌, ◌-◌, Result, Ok, Err, refl, sym, ap, ◌∙◌}
use Rattle.amqp_replay.specs.declared.grammar.Said.{Said}
use Rattle.amqp_replay.specs.declared.grammar.Said.TheVariants.{Nothing, Refused, Setup, Step}
use Rattle.amqp_replay.specs.declared.limits.TheConstants.{ZERO_BYTES}
use Rattle.amqp_replay.specs.declared.setup.Setting.{Setting}
use Rattle.amqp_replay.specs.declared.setup.Setting.TheVariants.{Uri, Locale, Name, Property, Recover, Delays, Provider, Listen, Limit}
use Rattle.amqp_replay.specs.Lines.{Line, lines as lines_of}
use Rattle.amqp_replay.specs.Setup.{SetupSoFar, no_lines, may_stand}
use Rattle.amqp_replay.specs.Grammar.{Scenario, placed, progress_after, says, limited, moment_after, zeros_in, before, scenario_of, parsed}

-- no provider was handed, and no line said that one is used
record IsUnhanded (p : SetupSoFar) : Type 0 where
  none : p.is_handed ≡ false
  unsaid : p.has_provider ≡ false

by_standing : (p : SetupSoFar) (setting : Setting) (b : Bool) → may_stand setting p ≡ b → IsUnhanded p → IsUnhanded (progress_after p (if b then Setup setting else Refused))
by_standing p setting false is h = h
by_standing p (Uri uri) true is h = record { none = h.none; unsaid = h.unsaid }
by_standing p (Locale locale) true is h = record { none = h.none; unsaid = h.unsaid }
by_standing p (Name name) true is h = record { none = h.none; unsaid = h.unsaid }
by_standing p (Property key text) true is h = record { none = h.none; unsaid = h.unsaid }
by_standing p Recover true is h = record { none = h.none; unsaid = h.unsaid }
by_standing p (Delays delays) true is h = record { none = h.none; unsaid = h.unsaid }
by_standing p Listen true is h = record { none = h.none; unsaid = h.unsaid }
by_standing p (Limit octets) true is h = record { none = h.none; unsaid = h.unsaid }
by_standing p Provider true is h =
    let fails : may_stand Provider p ≡ false = ap (λ (x : Bool). x && not (p.has_step || p.has_provider)) h.none in
    let both : true ≡ false = sym is ∙ fails in
    cc

kept : (p : SetupSoFar) (said : Said) → IsUnhanded p → IsUnhanded (progress_after p (placed p said))
kept p Nothing h = h
kept p Refused h = h
kept p (Setup setting) h = by_standing p setting (may_stand setting p) refl h
kept p (Step what n) h = record { none = h.none; unsaid = h.unsaid }

-- what the later lines say
record Later (rest : Result Scenario ℕ) (s : Scenario) : Type 0 where
  q : Scenario
  is : rest ≡ Ok q
  same : s.handed ≡ q.handed

by_first : (at : ℕ) (said : Said) (number : ℕ) (rest : Result Scenario ℕ) (s : Scenario) → before at said number rest ≡ Ok s → Later rest s
by_first at Nothing number rest s h = record { q = s; is = h; same = refl }
by_first at Refused number rest s h = cc
by_first at (Setup setting) number rest s h = record { q = s; is = h; same = refl }
by_first at (Step what n) number (Ok q) s h = record { q = q; is = refl; same = cc }
by_first at (Step what n) number (Err line) s h = cc

unhanded : (lines : List Line) (p : SetupSoFar) (at left : ℕ) (s : Scenario) → IsUnhanded p → scenario_of p at left lines ≡ Ok s → s.handed ≡ false
unhanded [] p at left s none h =
    let same : s.handed ≡ p.has_provider = cc in
    same ∙ none.unsaid
unhanded (line ∷ lines) p at left s none h =
    let said = placed p (limited left (says line)) in
    let now = moment_after at said line.content in
    let rest = scenario_of (progress_after p said) now (left - zeros_in said) lines in
    let later = by_first now said line.number rest s h in
    later.same ∙ unhanded lines (progress_after p said) now (left - zeros_in said) later.q (kept p (limited left (says line)) none) later.is

pub none-handed : (text : List ℕ) (s : Scenario) → parsed false text ≡ Ok s → s.handed ≡ false
none-handed text s h = unhanded (lines_of text) (no_lines false) 0 ZERO_BYTES s (record { none = refl; unsaid = refl }) h
