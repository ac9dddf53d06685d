use Rattle.std.proofs.Common.{◌≡◌, ◌≤◌, ◌∙◌, ◌+◌, ℕ, Option, List, [], ◌∷◌, ◌++◌, refl, ap, sym, subst, arith}
use Rattle.amqp_commands.specs.declared.command.Cmd.{Cmd}
use Rattle.amqp_journal.specs.declared.entry.Entry.{Entry}
use Rattle.amqp_journal.specs.declared.entry.Entry.TheVariants.{Called}
use Rattle.amqp_hub.specs.Passes.{made_of, places, gapless}
use Rattle.amqp_hub.specs.Guarded.{Beginning}
use Rattle.amqp_hub.proofs.Placing.{stands-last, placed-last}
use Rattle.amqp_hub.proofs.hub.entering.enter.Goals as goal

pub invariant_of-result : goal.invariant_of-result
invariant_of-result c =
    let n : ℕ = c.args.pass.now.number in
    let made : ℕ = c.args.pass.now.made in
    let j : List Entry = c.args.journal.now.items in
    let begun : Beginning = c.of-2.result.value in
    let entry : ℕ = c.base.inside.entries + c.len.result in
    let same : begun.entries ≡ c.base.inside.entries = ap (λ (b : Beginning). b.entries) (c.of-2.ensures ∙ sym c.base.view_is) in
    let x : Entry = Called n (made + 1) c.of-said.result.value c.of.result.value in
    let hj : c.of-3.result.value.items ≡ j ++ x ∷ [] =
    ap (λ v. v.items) c.of-3.ensures ∙ c.push_reserved.ensures.items
    ∙ ap (λ (d : Cmd). j ++ Called n (made + 1) d c.args.promise ∷ []) (sym c.of-said.ensures)
    ∙ ap (λ (o : Option ℕ). j ++ Called n (made + 1) c.of-said.result.value o ∷ []) (sym c.of.ensures) in
    let P : ℕ → Type 0 = λ i. i ≤ entry in
    let Q : Beginning → Type 0 = λ b. places n j ≡ gapless (made_of n b.made) made in
    let R : Beginning → Type 0 = λ b. made_of n b.made ≤ made in
    record {
      since = subst P (sym same) (omega arith);
      stands = stands-last begun.entries entry j c.of-3.result.value.items x hj (omega (arith, same, c.len.ensures));
      placed = placed-last n made (made + 1) (made_of n begun.made) c.of-said.result.value c.of.result.value j c.of-3.result.value.items hj refl
          (subst Q (sym c.of-2.ensures) c.requires.placed) (subst R (sym c.of-2.ensures) c.requires.counted);
    }
