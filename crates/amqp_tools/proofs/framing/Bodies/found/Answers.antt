use Rattle.std.proofs.Common.{◌≡◌, ℕ, ◌+◌, ◌≤◌, ◌==◌, List, length, drop, Option, Some, None, option_map, position, sym, ap, arith, ◌∙◌}
use Rattle.std.proofs.lemmas.Grind.{common_steps}
use Rattle.amqp_tools.specs.Bodies.{Stream, is_delimiter}
use Rattle.amqp_tools.proofs.Placing.{first_behind}
use Rattle.amqp_tools.proofs.framing.Bodies.found.Goals as goal

pub returns-in-Some-clause-at : goal.returns-in-Some-clause-at
returns-in-Some-clause-at c =
    let s = c.self.inside in
    let rest = drop s.at s.held.items in
    let same : is_delimiter s.framing ≡ (λ (o : ℕ). o == c.args.octet) =
    ap (λ (x : Stream). is_delimiter x.framing) c.self.view_is ∙ c.requires in
    let rest_is : c.behind-rest.result.now ≡ rest =
    c.behind-rest.ensures ∙ ap (λ (xs : List ℕ). drop s.at xs) c.deref.ensures.value in
    let unseen_is : c.behind-unseen.result.now ≡ drop s.seen rest =
    c.behind-unseen.ensures ∙ ap (λ (xs : List ℕ). drop s.seen xs) rest_is in
    let within : s.seen ≤ length rest = grind (arith, common_steps, c.self.invariant.0) in
    let place : Some c.in-Some.place ≡ position (is_delimiter s.framing) (drop s.seen rest) =
    c.in-Some.ensures.at ∙ ap (λ (xs : List ℕ). position (λ (o : ℕ). o == c.args.octet) xs) unseen_is
    ∙ ap (λ (q : ℕ → _). position q (drop s.seen rest)) (sym same) in
    ap (λ (o : Option ℕ). option_map (λ (j : ℕ). s.seen + j) o) place
    ∙ sym (first_behind (is_delimiter s.framing) s.seen rest within c.self.invariant.1)
    ∙ ap (λ (x : Stream). position (is_delimiter x.framing) x.rest) c.self.view_is

pub returns-in-None-clause-at : goal.returns-in-None-clause-at
returns-in-None-clause-at c =
    let s = c.self.inside in
    let rest = drop s.at s.held.items in
    let same : is_delimiter s.framing ≡ (λ (o : ℕ). o == c.args.octet) =
    ap (λ (x : Stream). is_delimiter x.framing) c.self.view_is ∙ c.requires in
    let rest_is : c.behind-rest.result.now ≡ rest =
    c.behind-rest.ensures ∙ ap (λ (xs : List ℕ). drop s.at xs) c.deref.ensures.value in
    let unseen_is : c.behind-unseen.result.now ≡ drop s.seen rest =
    c.behind-unseen.ensures ∙ ap (λ (xs : List ℕ). drop s.seen xs) rest_is in
    let within : s.seen ≤ length rest = grind (arith, common_steps, c.self.invariant.0) in
    let place : None ≡ position (is_delimiter s.framing) (drop s.seen rest) =
    c.in-None.ensures.at ∙ ap (λ (xs : List ℕ). position (λ (o : ℕ). o == c.args.octet) xs) unseen_is
    ∙ ap (λ (q : ℕ → _). position q (drop s.seen rest)) (sym same) in
    ap (λ (o : Option ℕ). option_map (λ (j : ℕ). s.seen + j) o) place
    ∙ sym (first_behind (is_delimiter s.framing) s.seen rest within c.self.invariant.1)
    ∙ ap (λ (x : Stream). position (is_delimiter x.framing) x.rest) c.self.view_is
