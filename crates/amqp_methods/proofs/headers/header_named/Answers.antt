use Rattle.std.proofs.Common.{◌≡◌, ℕ, zero, suc, ◌+◌, ◌-◌, ◌<◌, Bool, cond, List, [], ◌∷◌, length, Option, Some, option_map, refl, sym, ap, arith, ◌∙◌}
use Rattle.std.proofs.lemmas.Bool.Decides.{nat_tests}
use Rattle.std.proofs.lemmas.List.{nil_from_length}
use Rattle.std.specs.Str.{bytes_eq}
use Rattle.amqp_types.specs.Reading.{◌>>=◌}
use Rattle.amqp_methods.specs.Headers.{pair_at, last_of_name}
use Rattle.amqp_methods.proofs.headers.header_named.Goals as goal

at_end : (n : ℕ) (name : List ℕ) (found : Option (ℕ × List ℕ)) → last_of_name n name found [] ≡ found
at_end zero name found = refl
at_end (suc n) name found = refl

onward :
    (n : ℕ) (name : List ℕ) (found : Option (ℕ × List ℕ)) (bytes : List ℕ) → 0 < length bytes →
    last_of_name (suc n) name found bytes
    ≡ (pair_at bytes >>= λ p. last_of_name n name (cond (bytes_eq p.0.0 name) (Some p.0.1) found) p.1)
onward n name found [] some = absurd (omega (arith, some))
onward n name found (o ∷ os) some = refl

pub returns-then-is_empty : goal.returns-then-is_empty
returns-then-is_empty c =
    let n = length c.args.headers.now - c.pairs.counter in
    let seen : Option (ℕ × List ℕ) = option_map (λ (v : ℕ × _). (v.0, v.1.now)) c.pairs.found in
    let size : length c.pairs.rest.bytes.now ≡ 0 = grind (arith, nat_tests, c.is_empty.ensures, c.if-is_empty.true) in
    sym (at_end n c.args.name.now seen)
    ∙ ap (λ (bytes : List ℕ). last_of_name n c.args.name.now seen bytes) (sym (nil_from_length c.pairs.rest.bytes.now size))
    ∙ c.pairs.invariant

pub pairs-preserved : goal.pairs-preserved
pairs-preserved c =
    let name = c.args.name.now in
    let rest = c.pairs.rest.bytes.now in
    let left = c.pair.new.self.bytes.now in
    let n = length c.args.headers.now - (c.pairs.counter + 1) in
    let more : length c.args.headers.now - c.pairs.counter ≡ suc n = omega (arith, c.pairs-test.true) in
    let seen : Option (ℕ × List ℕ) = option_map (λ (v : ℕ × _). (v.0, v.1.now)) c.pairs.found in
    let value : ℕ × List ℕ = (c.in_ok-key.value.0, c.in_ok-key.value.1.now) in
    let some : 0 < length rest = grind (arith, nat_tests, c.is_empty.ensures, c.if-is_empty.false) in
    ap (λ (f : Option (ℕ × List ℕ)). last_of_name n name f left) c.later-newer.ensures
    ∙ ap (λ (b : Bool). last_of_name n name (cond b (Some value) seen) left) c.eq-is_named.ensures
    ∙ sym (ap (λ (o : Option ((List ℕ × (ℕ × List ℕ)) × List ℕ)). o >>= λ p. last_of_name n name (cond (bytes_eq p.0.0 name) (Some p.0.1) seen) p.1) c.in_ok-key.ensures)
    ∙ sym (onward n name seen rest some)
    ∙ ap (λ (m : ℕ). last_of_name m name seen rest) (sym more)
    ∙ c.pairs.invariant
