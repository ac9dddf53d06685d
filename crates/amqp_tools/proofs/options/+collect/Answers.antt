use Rattle.std.proofs.Common.{◌≡◌, ℕ, suc, ◌-◌, List, [], ◌∷◌, ◌++◌, map, Option, Some, Result, Ok, Err, IfOk, refl, sym, ap, arith, ◌∙◌}
use Rattle.std.proofs.lemmas.Grind.{common_steps}
use Rattle.amqp_tools.specs.declared.options.Opt.{Opt}
use Rattle.amqp_tools.specs.declared.options.Given.{Given}
use Rattle.amqp_tools.specs.Options.{Next, as_given, next_by, onward, collects}
use Rattle.amqp_tools.proofs.options.+collect.Goals as goal

-- one option more
one_more :
    (most : ℕ) (given : List (Opt × List ℕ)) (words : List (List ℕ)) (next : Next) → next_by words ≡ Some next →
    collects (suc most) given words ≡ collects most (given ++ next.0 ∷ []) next.1
one_more most given words next is = ap (λ (n : Option Next). onward n (collects most) given words) is

map_more : (xs : List Given) (x : Given) → map as_given (xs ++ x ∷ []) ≡ map as_given xs ++ as_given x ∷ []
map_more [] x = refl
map_more (y ∷ ys) x = ap (λ (zs : List (Opt × List ℕ)). as_given y ∷ zs) (map_more ys x)

if_ok : {A E : Type 0} (P Q : A → Type 0) (r : Result A E) → ((x : A) → P x → Q x) → IfOk r P → IfOk r Q
if_ok P Q (Ok x) f h = f x h
if_ok P Q (Err e) f h = h

pub returns-else-is_err : goal.returns-else-is_err
returns-else-is_err t c =
    let given = c.args.given.now.items in
    let words = c.args.words.now in
    let behind = c.in-Some.behind.now in
    let m = c.args.most - 1 in
    let next : Next = (as_given c.in-Some.next, behind) in
    let pushed : c.push.new.self.items ≡ given ++ c.in-Some.next ∷ [] =
    grind (arith, common_steps, c.push.ensures.items, c.is_err.ensures.value, c.if-is_err.false) in
    let found : next_by words ≡ Some next = sym c.in-Some.ensures in
    let most : suc m ≡ c.args.most = omega (arith, c.if-most-eq0.false) in
    let onward_ : collects m (map as_given c.push.new.self.items) behind ≡ collects c.args.most (map as_given given) words =
    ap (λ (gs : List Given). collects m (map as_given gs) behind) pushed
    ∙ ap (λ (gs : List (Opt × List ℕ)). collects m gs behind) (map_more given c.in-Some.next)
    ∙ sym (one_more m (map as_given given) words next found)
    ∙ ap (λ (n : ℕ). collects n (map as_given given) words) most in
    if_ok _ _ c.collect.result (λ rest is. is ∙ onward_) c.collect.ensures
