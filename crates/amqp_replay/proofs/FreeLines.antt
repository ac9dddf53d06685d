-- Lines without zeros that a number spells, and lines whose zeros are limited where they are read.
use Rattle.std.proofs.Common.{◌≡◌, ◌&&◌, not, ℕ, nat_le, if◌then◌else◌, Bool, true, false, List, [], length, Option, Some, None, unwrap_or, refl, sym, ap, ◌∙◌, arith}
use Rattle.std.proofs.lemmas.Bool.Decides.{nat_tests}
use Rattle.amqp_commands.specs.declared.command.Cmd.{Cmd}
use Rattle.amqp_commands.specs.declared.command.Cmd.TheVariants.{CloseChannel, CloseConnection, Publish, Flow}
use Rattle.amqp_engine.specs.declared.given.GivenStep.{GivenStep}
use Rattle.amqp_engine.specs.declared.given.GivenStep.TheVariants.{Command}
use Rattle.std.specs.List.{list_all}
use Rattle.amqp_replay.specs.declared.setup.Setting.{Setting}
use Rattle.amqp_replay.specs.declared.grammar.Said.{Said}
use Rattle.amqp_replay.specs.declared.grammar.Said.TheVariants.{Nothing, Refused, Step}
use Rattle.amqp_replay.specs.Setup.{is_setup, setting_of}
use Rattle.amqp_replay.specs.declared.limits.TheConstants.{TEXT_BYTES}
use Rattle.amqp_replay.specs.Words.{first_word, after_word}
use Rattle.amqp_replay.specs.Decimals.{number_16}
use Rattle.amqp_replay.specs.Budgets.{affordable_publish}
use Rattle.amqp_replay.specs.Lines.{is_printable, is_ignored}
use Rattle.amqp_replay.specs.Grammar.{limited, closes_by, closes, shut_line, numbered, closes_numbered, close_line, number_in, rest_of, is_passed_class, sent_method, Published, zeros_published, publishes_data, switch_in, flow_said, flow_line, setup_or_refused, step_line, content_says}

-- a step without such zeros is always within the limit
free_step : (left : ℕ) (what : GivenStep) → limited left (Step what 0) ≡ Step what 0
free_step left what =
    let within : nat_le 0 left ≡ true = grind (arith, nat_tests) in
    ap (λ (b : Bool). if b then Step what 0 else Refused) within

free_if : (b : Bool) (left : ℕ) (what : GivenStep) → limited left (if b then Step what 0 else Refused) ≡ (if b then Step what 0 else Refused)
free_if true left what = free_step left what
free_if false left what = refl

free_closes_by : (left : ℕ) (cmd : ℕ → List ℕ → Cmd) (code : Option ℕ) (text : List ℕ) → limited left (closes_by cmd code text) ≡ closes_by cmd code text
free_closes_by left cmd None text = refl
free_closes_by left cmd (Some code) text = free_if (nat_le (length text) TEXT_BYTES) left (Command (cmd code text))

free_closes : (left : ℕ) (cmd : ℕ → List ℕ → Cmd) (o : Option (List ℕ)) → limited left (closes cmd o) ≡ closes cmd o
free_closes left cmd None = refl
free_closes left cmd (Some words) = free_closes_by left cmd (number_16 (first_word words)) (unwrap_or (after_word words) [])

free_close_of : (left : ℕ) (n : Option ℕ) (rest : Option (List ℕ)) → limited left (closes_numbered n rest) ≡ closes_numbered n rest
free_close_of left None rest = refl
free_close_of left (Some n) rest = free_closes left (CloseChannel (numbered n)) rest

pub limited-close_line : (left : ℕ) (o : Option (List ℕ)) → limited left (close_line o) ≡ close_line o
limited-close_line left None = refl
limited-close_line left (Some words) = free_close_of left (number_16 (first_word words)) (after_word words)

pub limited-shut_line : (left : ℕ) (o : Option (List ℕ)) → limited left (shut_line o) ≡ shut_line o
limited-shut_line left o = free_closes left CloseConnection o

free_flows : (left : ℕ) (n : Option ℕ) (active : Option Bool) → limited left (flow_said n active) ≡ flow_said n active
free_flows left (Some n) (Some active) = free_step left (Command (Flow (numbered n) active))
free_flows left None active = refl
free_flows left (Some n) None = refl

pub limited-flow_line : (left : ℕ) (o : Option (List ℕ)) → limited left (flow_line o) ≡ flow_line o
limited-flow_line left o = free_flows left (number_in o) (switch_in (rest_of o))

-- ---- what is published

lifted : (fits : Bool) (n class method : ℕ) (p : Published)
    → publishes_data n class method (if fits then Some p else None) ≡ (if fits then publishes_data n class method (Some p) else Refused)
lifted true n class method p = refl
lifted false n class method p = refl

by_fit : (fits passes : Bool) (left n : ℕ) (what : GivenStep) → nat_le n left ≡ fits
    → (if fits then (if passes then Step what n else Refused) else Refused) ≡ limited left (if passes then Step what n else Refused)
by_fit true true left n what h = sym (ap (λ (b : Bool). if b then Step what n else Refused) h)
by_fit false true left n what h = sym (ap (λ (b : Bool). if b then Step what n else Refused) h)
by_fit true false left n what h = refl
by_fit false false left n what h = refl

-- what is published where its zeros are within the limit
pub limited-publishes_data : (left n class method : ℕ) (o : Option Published)
    → publishes_data n class method (affordable_publish left o) ≡ limited left (publishes_data n class method o)
limited-publishes_data left n class method None = refl
limited-publishes_data left n class method (Some p) =
    lifted (nat_le (zeros_published p) left) n class method p
    ∙ by_fit (nat_le (zeros_published p) left) (is_passed_class class && nat_le 2 (length p.properties.bytes)) left (zeros_published p)
    (Command (Publish (numbered n) (sent_method class method p.arguments.bytes) p.properties.bytes p.body.bytes)) refl

-- ---- settings

free_setup : (left : ℕ) (o : Option Setting) → limited left (setup_or_refused o) ≡ setup_or_refused o
free_setup left None = refl
free_setup left (Some setting) = refl

by_tests : (printable ignored setup : Bool) (x y : Said) → true ≡ printable → false ≡ ignored → true ≡ setup
    → (if not printable then Refused else if ignored then Nothing else if setup then x else y) ≡ x
by_tests true false true x y p i s = refl
by_tests true false false x y p i s = cc
by_tests true true setup x y p i s = cc
by_tests false ignored setup x y p i s = cc

-- what a setup line says is its setting, or that it is refused
pub limited-setup : (left : ℕ) (content : List ℕ) → true ≡ list_all is_printable content → false ≡ is_ignored content → true ≡ is_setup content
    → setup_or_refused (setting_of content) ≡ limited left (content_says content)
limited-setup left content p i s =
    sym
    (ap (limited left)
    (by_tests (list_all is_printable content) (is_ignored content) (is_setup content) (setup_or_refused (setting_of content)) (step_line content) p i s)
    ∙ free_setup left (setting_of content))
