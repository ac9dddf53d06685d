use Rattle.std.proofs.Common.{List, length, ◌+◌, refl, ap, sym, subst, ◌∙◌, arith}
use Rattle.amqp_hub.specs.declared.hub.Pass.{Pass}
use Rattle.amqp_hub.specs.Passes.{AreNew}
use Rattle.amqp_hub.proofs.Placing.{new-more, length-more}
use Rattle.amqp_hub.proofs.hub.passes.fresh.Goals as goal

pub passes-preserved : goal.passes-preserved
passes-preserved c =
    let P : List Pass → Type 0 = λ xs. AreNew c.args.before xs in
    record {
      new = subst P (sym c.in_ok-push.ensures.items) (new-more c.args.before c.passes.passes.items _ c.passes.invariant.new (omega (arith, c.passes.invariant.many)) refl);
      many = ap (λ (xs : List Pass). length xs) c.in_ok-push.ensures.items ∙ (length-more c.passes.passes.items _ ∙ ap (λ n. n + 1) c.passes.invariant.many);
    }
