use Rattle.std.proofs.Common.{◌≡◌, ℕ, List, Some, Err, ap, sym, subst, rules}
use Rattle.std.specs.Prelude.{All}
use Rattle.amqp_journal.specs.declared.entry.Entry.{Entry}
use Rattle.amqp_hub.specs.declared.hub.Pass.{Pass}
use Rattle.amqp_hub.specs.declared.hub.Tally.{Tally}
use Rattle.amqp_hub.specs.Passes.{count_of, made_of, places, gapless, first_foreign, IsForeign}
use Rattle.amqp_hub.specs.Guarded.{Beginning, Guarded}
use Rattle.amqp_hub.proofs.Placing.{all-placed, is-foreign}
use Rattle.amqp_hub.proofs.hub.Hub.tally.Goals as goal

pub invariant_of-result : goal.invariant_of-result
invariant_of-result c =
    let R : List Entry → Beginning → List ℕ → Type 0 = λ j b counts. (p : ℕ) → places p j ≡ gapless (made_of p b.made) (made_of p counts) in
    record {
      placed = subst (λ j. R j c.of.result.value c.of-3.result.value.items) (sym (ap (λ v. v.items) c.of-2.ensures))
          (subst (λ b. R c.self.inside.journal.items b c.of-3.result.value.items) (sym c.of.ensures)
          (subst (λ counts. R c.self.inside.journal.items c.self.inside.base counts) (sym (ap (λ v. v.items) c.of-3.ensures)) c.self.invariant.0.placed));
    }

pub returns-clause-places : goal.returns-clause-places
returns-clause-places c =
    let home : All (λ (p : Pass). count_of p.number c.self.inside.counts.items ≡ Some p.made) c.args.passes.now = search rules in
    let P : List Entry → Beginning → Type 0 = λ j b. All (λ (p : Pass). places p.number j ≡ gapless (made_of p.number b.made) p.made) c.args.passes.now in
    subst (λ j. P j c.of.result.value) (sym (ap (λ v. v.items) c.of-2.ensures))
    (subst (λ b. P c.self.inside.journal.items b) (sym c.of.ensures)
    (all-placed c.self.inside.base.made c.self.inside.journal.items c.self.inside.counts.items c.args.passes.now c.self.invariant.0.placed home))

pub returns-in-Err-clause-foreign : goal.returns-in-Err-clause-foreign
returns-in-Err-clause-foreign c =
    let P : Guarded → Type 0 = λ h. IsForeign {A = Tally} (first_foreign c.args.passes.now h.counts) (Err c.into.result) in
    subst P c.self.view_is (is-foreign Tally c.args.passes.now c.self.inside.counts.items _ (search rules))
