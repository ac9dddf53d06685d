-- What lines say, line by line.
use Rattle.std.proofs.Common.{◌≡◌, ◌≤◌, ◌-◌, ℕ, nat_le, if◌then◌else◌, Bool, true, false, List, [], ◌∷◌, ◌++◌, unwrap_or, Some, None, Result, Ok, Err, refl, sym, ap, ◌∙◌, append_assoc, arith}
use Rattle.std.proofs.lemmas.Bool.Decides.{nat_tests}
use Rattle.amqp_engine.specs.declared.given.Given.{Given}
use Rattle.amqp_engine.specs.declared.given.GivenStep.{GivenStep}
use Rattle.amqp_replay.specs.declared.grammar.Said.{Said}
use Rattle.amqp_replay.specs.declared.grammar.Said.TheVariants.{Nothing, Refused, Setup, Step}
use Rattle.amqp_replay.specs.Lines.{Line}
use Rattle.amqp_replay.specs.declared.setup.Setting.{Setting}
use Rattle.amqp_replay.specs.Setup.{SetupSoFar, may_stand, after_setting, after_step, set_by}
use Rattle.amqp_replay.specs.Grammar.{Scenario, placed, progress_after, says, limited, given, moment, moment_after, zeros_in, first, before, scenario_of}

-- steps before those that follow, where no line is refused
abbrev pub steps_before : List Given → Result Scenario ℕ → Result Scenario ℕ
steps_before gs (Ok s) = Ok (record s { steps = gs ++ s.steps })
steps_before gs (Err number) = Err number

-- the line says this
abbrev by_said : SetupSoFar → ℕ → ℕ → Line → List Line → Said → Result Scenario ℕ
by_said p at left line lines said =
    let now = moment_after at said line.content in
    before now said line.number (scenario_of (progress_after p said) now (left - zeros_in said) lines)

-- the line says this, where it may stand
abbrev by_placed : SetupSoFar → ℕ → ℕ → Line → List Line → Said → Result Scenario ℕ
by_placed p at left line lines said = by_said p at left line lines (placed p said)

pub scenario_of-refused : (p : SetupSoFar) (at left : ℕ) (line : Line) (lines : List Line) → limited left (says line) ≡ Refused
    → scenario_of p at left (line ∷ lines) ≡ Err line.number
scenario_of-refused p at left line lines h = ap (by_placed p at left line lines) h

pub scenario_of-nothing : (p : SetupSoFar) (at left : ℕ) (line : Line) (lines : List Line) → limited left (says line) ≡ Nothing
    → scenario_of p at left (line ∷ lines) ≡ scenario_of p at left lines
scenario_of-nothing p at left line lines h =
    let same : left - 0 ≡ left = omega arith in
    ap (by_placed p at left line lines) h ∙ ap (λ n. scenario_of p at n lines) same

-- what a setting leads to, by whether it may stand there
abbrev by_standing : SetupSoFar → ℕ → ℕ → Line → List Line → Setting → Bool → Result Scenario ℕ
by_standing p at left line lines setting b = by_said p at left line lines (if b then Setup setting else Refused)

stands : (p q : SetupSoFar) (setting : Setting) (b : Bool) → (if b then Some (after_setting setting p) else None) ≡ Some q → b ≡ true
stands p q setting true h = refl
stands p q setting false h = cc

leads : (p q : SetupSoFar) (setting : Setting) (b : Bool) → (if b then Some (after_setting setting p) else None) ≡ Some q
    → after_setting setting p ≡ q
leads p q setting true h = cc
leads p q setting false h = cc

falls : (p : SetupSoFar) (setting : Setting) (b : Bool) → (if b then Some (after_setting setting p) else None) ≡ None → b ≡ false
falls p setting true h = cc
falls p setting false h = refl

-- a setting that may stand there
pub scenario_of-set : (p q : SetupSoFar) (at left : ℕ) (line : Line) (lines : List Line) (setting : Setting)
    → limited left (says line) ≡ Setup setting → set_by setting p ≡ Some q
    → scenario_of p at left (line ∷ lines) ≡ scenario_of q at left lines
scenario_of-set p q at left line lines setting h set =
    let same : left - 0 ≡ left = omega arith in
    ap (by_placed p at left line lines) h
    ∙ ap (by_standing p at left line lines setting) (stands p q setting (may_stand setting p) set)
    ∙ ap (λ n. scenario_of (after_setting setting p) at n lines) same
    ∙ ap (λ (x : SetupSoFar). scenario_of x at left lines) (leads p q setting (may_stand setting p) set)

-- a setting that may not
pub scenario_of-misset : (p : SetupSoFar) (at left : ℕ) (line : Line) (lines : List Line) (setting : Setting)
    → limited left (says line) ≡ Setup setting → set_by setting p ≡ None
    → scenario_of p at left (line ∷ lines) ≡ Err line.number
scenario_of-misset p at left line lines setting h set =
    ap (by_placed p at left line lines) h
    ∙ ap (by_standing p at left line lines setting) (falls p setting (may_stand setting p) set)

first_is : (g : Given) (r : Result Scenario ℕ) → first g r ≡ steps_before (g ∷ []) r
first_is g (Ok s) = refl
first_is g (Err number) = refl

pub scenario_of-step : (p : SetupSoFar) (at now left n : ℕ) (line : Line) (lines : List Line) (what : GivenStep)
    → now ≡ unwrap_or (moment line.content) at → limited left (says line) ≡ Step what n
    → scenario_of p at left (line ∷ lines) ≡ steps_before (given now what ∷ []) (scenario_of (after_step p) now (left - n) lines)
scenario_of-step p at now left n line lines what is h =
    let named = unwrap_or (moment line.content) at in
    ap (by_placed p at left line lines) h
    ∙ first_is (given named what) (scenario_of (after_step p) named (left - n) lines)
    ∙ ap (λ a. steps_before (given a what ∷ []) (scenario_of (after_step p) a (left - n) lines)) (sym is)

pub steps_before-more : (gs : List Given) (g : Given) (r : Result Scenario ℕ)
    → steps_before gs (steps_before (g ∷ []) r) ≡ steps_before (gs ++ g ∷ []) r
steps_before-more gs g (Ok s) = ap (λ (x : List Given). Ok (record s { steps = x })) (sym (append_assoc gs (g ∷ []) s.steps))
steps_before-more gs g (Err number) = refl

-- ---- zeros that are spelled by numbers

by_limit : (b : Bool) (left n m : ℕ) (what what' : GivenStep) → nat_le m left ≡ b → (if b then Step what' m else Refused) ≡ Step what n → n ≤ left
by_limit true left n m what what' test h =
    let same : n ≡ m = cc in
    let within : m ≤ left = grind (arith, nat_tests) in
    omega (arith, same, within)
by_limit false left n m what what' test h = cc

-- a step takes no more than are left
pub limited-within : (left n : ℕ) (what : GivenStep) (said : Said) → limited left said ≡ Step what n → n ≤ left
limited-within left n what Nothing h = cc
limited-within left n what Refused h = cc
limited-within left n what (Setup setting) h = cc
limited-within left n what (Step what' m) h = by_limit (nat_le m left) left n m what what' refl h
