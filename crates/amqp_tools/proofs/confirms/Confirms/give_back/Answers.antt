use Rattle.std.proofs.Common.{◌≡◌, ℕ, zero, suc, ◌<◌, List, [], ◌∷◌, length, position, Option, Some, slice_set, slice_index_or, ap, arith, ◌∙◌}
use Rattle.amqp_tools.specs.Confirms.{is_given_back, given_back_at, map_at}
use Rattle.amqp_tools.specs.declared.confirms.Open.{Open}
use Rattle.amqp_tools.proofs.confirms.Confirms.give_back.Goals as goal

-- to write at a place is to map what stands there
set_is :
    (f : Open → Open) (place : ℕ) (xs : List Open) (o : Open) → o ≡ slice_index_or xs place o → place < length xs →
    slice_set xs place (f o) ≡ map_at place f xs
set_is f place [] o is within = absurd (omega (arith, within))
set_is f zero (x ∷ xs) o is within = ap (λ (p : Open). f p ∷ xs) is
set_is f (suc place) (x ∷ xs) o is within =
    let rest = set_is f place xs o is (omega (arith, within)) in ap (λ (ps : List Open). x ∷ ps) rest

pub returns-in-Some-clause-unanswered : goal.returns-in-Some-clause-unanswered
returns-in-Some-clause-unanswered c =
    let items = c.args.self.now.unanswered.items in
    let body = c.args.body.now in
    let f : Open → Open = λ (p : Open). record p { returned = Some c.args.code } in
    let at : Some c.in-Some.place ≡ position (is_given_back body) items =
    c.in-Some.ensures.at ∙ ap (λ (xs : List Open). position (is_given_back body) xs) c.deref.ensures.value in
    let within : c.in-Some.place < length items = omega (arith, c.in-Some.ensures.within, ap length c.deref.ensures.value) in
    set_is f c.in-Some.place items c.index_mut.result.now c.index_mut.ensures.value within
    ∙ ap (λ (o : Option ℕ). given_back_at c.args.code o items) at
