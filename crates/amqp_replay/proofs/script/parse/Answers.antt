use Rattle.std.proofs.Common.{◌≡◌, ◌∙◌, ◌∷◌, [], ◌-◌, ℕ, List, Option, Some, None, Err, unwrap_or, ap, sym, subst}
use Rattle.amqp_engine.specs.declared.given.Given.{Given}
use Rattle.amqp_engine.specs.Plan.{ArePieces}
use Rattle.amqp_replay.specs.declared.grammar.Said.{Said}
use Rattle.amqp_replay.specs.declared.grammar.Said.TheVariants.{Nothing, Refused, Setup, Step}
use Rattle.amqp_replay.specs.Lines.{Line}
use Rattle.amqp_replay.specs.Setup.{SetupSoFar, set_by}
use Rattle.amqp_replay.specs.Grammar.{says, limited, given, moment, scenario_of}
use Rattle.amqp_replay.proofs.LineLemmas.{first_left}
use Rattle.amqp_replay.proofs.Steps.{steps_before, steps_before-more, scenario_of-refused, scenario_of-nothing, scenario_of-set, scenario_of-misset, scenario_of-step, limited-within}
use Rattle.amqp_replay.proofs.Pieces.{SaysPiece, says_piece, ArePieces-push}
use Rattle.amqp_replay.proofs.script.parse.Goals as goal

pub overflow_sub-left : goal.overflow_sub-left
overflow_sub-left c =
    limited-within c.lines.left c.in-Step.zeros c.in-Step.what (says c.in-Some.line) (sym c.in_ok-says.ensures ∙ c.in-Step.is)

pub lines-preserved-in-Nothing : goal.lines-preserved-in-Nothing
lines-preserved-in-Nothing c =
    let gs = c.lines.steps.items in
    let p = c.lines.progress in
    let at = c.lines.at in
    let left = c.lines.left in
    let line = c.in-Some.line in
    let rest = c.take_line.new.self in
    let said : limited left (says line) ≡ Nothing = sym c.in_ok-says.ensures ∙ c.in-Nothing.is in
    let lines = first_left line c.lines.lines c.in-Some.ensures.first ∙ ap (λ (x : List Line). line ∷ x) (sym c.in-Some.ensures.rest) in
    record {
      whole = ap (steps_before gs) (sym (scenario_of-nothing p at left line rest said))
          ∙ sym (ap (λ (x : List Line). steps_before gs (scenario_of p at left x)) lines)
          ∙ c.lines.invariant.whole;
      pieces = c.lines.invariant.pieces;
    }

pub lines-preserved : goal.lines-preserved
lines-preserved c =
    let gs = c.lines.steps.items in
    let p = c.lines.progress in
    let line = c.in-Some.line in
    let left = c.lines.left in
    let n = c.in-Step.zeros in
    let at = c.unwrap_or-at.result in
    let next = c.note_step.new.self in
    let g = given at c.in-Step.what in
    let rest = c.take_line.new.self in
    let said : limited left (says line) ≡ Step c.in-Step.what n = sym c.in_ok-says.ensures ∙ c.in-Step.is in
    let lines = first_left line c.lines.lines c.in-Some.ensures.first ∙ ap (λ (x : List Line). line ∷ x) (sym c.in-Some.ensures.rest) in
    let moment = c.unwrap_or-at.ensures
    ∙ ap (λ (o : Option ℕ). unwrap_or o c.lines.at) (c.moment.ensures ∙ ap (λ (l : Line). moment l.content) c.line.view_is) in
    let P : Said → Type 0 = SaysPiece in
    let Q : List Given → Type 0 = ArePieces in
    record {
      whole = ap (λ (x : List Given). steps_before x (scenario_of next at (left - n) rest)) c.in_ok-push-in-Step.ensures.items
          ∙ sym (steps_before-more gs g (scenario_of next at (left - n) rest))
          ∙ ap (λ (x : SetupSoFar). steps_before gs (steps_before (g ∷ []) (scenario_of x at (left - n) rest))) c.note_step.ensures
          ∙ ap (steps_before gs) (sym (scenario_of-step p c.lines.at at left n line rest c.in-Step.what moment said))
          ∙ sym (ap (λ (x : List Line). steps_before gs (scenario_of p c.lines.at left x)) lines)
          ∙ c.lines.invariant.whole;
      pieces = subst Q (sym c.in_ok-push-in-Step.ensures.items)
          (ArePieces-push gs g c.lines.invariant.pieces (subst P said (says_piece left line)));
    }

pub returns-in-Refused-clause-script : goal.returns-in-Refused-clause-script
returns-in-Refused-clause-script c =
    let gs = c.lines.steps.items in
    let p = c.lines.progress in
    let at = c.lines.at in
    let left = c.lines.left in
    let line = c.in-Some.line in
    let rest = c.take_line.new.self in
    let said : limited left (says line) ≡ Refused = sym c.in_ok-says.ensures ∙ c.in-Refused.is in
    let lines = first_left line c.lines.lines c.in-Some.ensures.first ∙ ap (λ (x : List Line). line ∷ x) (sym c.in-Some.ensures.rest) in
    ap (λ (l : Line). Err l.number) c.line.view_is
    ∙ ap (steps_before gs) (sym (scenario_of-refused p at left line rest said))
    ∙ sym (ap (λ (x : List Line). steps_before gs (scenario_of p at left x)) lines)
    ∙ c.lines.invariant.whole

pub lines-preserved-in-Some-2 : goal.lines-preserved-in-Some-2
lines-preserved-in-Some-2 c =
    let gs = c.lines.steps.items in
    let p = c.lines.progress in
    let next = c.in-Some-2.next in
    let at = c.lines.at in
    let left = c.lines.left in
    let line = c.in-Some.line in
    let rest = c.take_line.new.self in
    let setting = c.in-Setup.setting in
    let said : limited left (says line) ≡ Setup setting = sym c.in_ok-says.ensures ∙ c.in-Setup.is in
    let set : set_by setting p ≡ Some next = sym c.in_ok-next-in-Setup.ensures ∙ c.in-Some-2.is in
    let lines = first_left line c.lines.lines c.in-Some.ensures.first ∙ ap (λ (x : List Line). line ∷ x) (sym c.in-Some.ensures.rest) in
    record {
      whole = ap (steps_before gs) (sym (scenario_of-set p next at left line rest setting said set))
          ∙ sym (ap (λ (x : List Line). steps_before gs (scenario_of p at left x)) lines)
          ∙ c.lines.invariant.whole;
      pieces = c.lines.invariant.pieces;
    }

pub returns-in-None-clause-script : goal.returns-in-None-clause-script
returns-in-None-clause-script c =
    let gs = c.lines.steps.items in
    let p = c.lines.progress in
    let at = c.lines.at in
    let left = c.lines.left in
    let line = c.in-Some.line in
    let rest = c.take_line.new.self in
    let setting = c.in-Setup.setting in
    let said : limited left (says line) ≡ Setup setting = sym c.in_ok-says.ensures ∙ c.in-Setup.is in
    let set : set_by setting p ≡ None = sym c.in_ok-next-in-Setup.ensures ∙ c.in-None.is in
    let lines = first_left line c.lines.lines c.in-Some.ensures.first ∙ ap (λ (x : List Line). line ∷ x) (sym c.in-Some.ensures.rest) in
    ap (λ (l : Line). Err l.number) c.line.view_is
    ∙ ap (steps_before gs) (sym (scenario_of-misset p at left line rest setting said set))
    ∙ sym (ap (λ (x : List Line). steps_before gs (scenario_of p at left x)) lines)
    ∙ c.lines.invariant.whole
