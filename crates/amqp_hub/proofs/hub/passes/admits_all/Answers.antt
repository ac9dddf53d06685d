use Rattle.std.proofs.Common.{◌≡◌, ◌∙◌, List, Some, get_or, ap, sym, subst}
use Rattle.std.specs.Prelude.{All}
use Rattle.std.proofs.lemmas.List.{take_all, drop_more}
use Rattle.std.proofs.lemmas.List.Elements.{All-more}
use Rattle.amqp_hub.specs.declared.hub.Pass.{Pass}
use Rattle.amqp_hub.specs.Passes.{count_of, first_foreign}
use Rattle.amqp_hub.proofs.Placing.{foreign-rest}
use Rattle.amqp_hub.proofs.hub.passes.admits_all.Goals as goal

pub passes-preserved : goal.passes-preserved
passes-preserved c =
    let none : Pass = record { number = 0; made = 0 } in
    let p : Pass = get_or c.args.passes.now c.passes.pass-index none in
    record {
      home = All-more (λ (q : Pass). count_of q.number c.args.counts.now ≡ Some q.made) c.args.passes.now c.passes.pass-index none c.passes-test.true
          c.passes.invariant.home c.in_ok-admits.ensures.home;
      left = sym (ap (λ (ps : List Pass). first_foreign ps c.args.counts.now) (drop_more c.args.passes.now c.passes.pass-index none c.passes-test.true)
          ∙ foreign-rest p _ c.args.counts.now c.in_ok-admits.ensures.ok) ∙ c.passes.invariant.left;
    }

pub returns-clause-home : goal.returns-clause-home
returns-clause-home c =
    let P : List Pass → Type 0 = λ ps. All (λ (p : Pass). count_of p.number c.args.counts.now ≡ Some p.made) ps in
    subst P (take_all c.passes.pass-index c.args.passes.now c.passes-test.false) c.passes.invariant.home
