use Rattle.std.proofs.Common.{◌≡◌, Bool, true, false, ◌||◌, map, refl, sym, ap, ◌∙◌}
use Rattle.amqp_tools.specs.Names.{PrintedNames, is_name_among, has_name}
use Rattle.amqp_tools.proofs.Naming.{among_keys}
use Rattle.amqp_tools.proofs.once.Once.has.Goals as goal

first_is : (a b : Bool) → a ≡ true → (a || b) ≡ true
first_is true b h = refl
first_is false b h = absurd cc

second_is : (a b : Bool) → a ≡ false → (a || b) ≡ b
second_is true b h = absurd cc
second_is false b h = refl

pub returns-then-contains : goal.returns-then-contains
returns-then-contains c =
    let name = c.args.name.now in
    let later = c.contains.ensures ∙ among_keys (λ k. k.items) name c.self.inside.later.keys in
    let earlier = is_name_among name (map (λ k. k.items) c.self.inside.earlier.keys) in
    c.if-contains.true
    ∙ sym (first_is (is_name_among name (map (λ k. k.items) c.self.inside.later.keys)) earlier (sym later ∙ c.if-contains.true))
    ∙ ap (λ (s : PrintedNames). has_name s name) c.self.view_is

pub returns-else-contains : goal.returns-else-contains
returns-else-contains c =
    let name = c.args.name.now in
    let later = c.contains.ensures ∙ among_keys (λ k. k.items) name c.self.inside.later.keys in
    let earlier = is_name_among name (map (λ k. k.items) c.self.inside.earlier.keys) in
    c.contains-else-contains.ensures
    ∙ among_keys (λ k. k.items) name c.self.inside.earlier.keys
    ∙ sym (second_is (is_name_among name (map (λ k. k.items) c.self.inside.later.keys)) earlier (sym later ∙ c.if-contains.false))
    ∙ ap (λ (s : PrintedNames). has_name s name) c.self.view_is
