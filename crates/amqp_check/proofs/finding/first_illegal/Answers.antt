use Rattle.std.proofs.Common.{[], ◌∷◌, ◌++◌, ap, is_some, arith, rules}
use Rattle.amqp_frame.proofs.Sequences.{stand-push}
use Rattle.amqp_check.specs.Verdicts.{no_limit}
use Rattle.amqp_check.proofs.Blame.{finding-of, legal-side}
use Rattle.amqp_check.proofs.finding.first_illegal.Goals as goal

pub heard-preserved : goal.heard-preserved
heard-preserved c =
    let next = rw c.in-Frame.is at c.in_ok-frame.ensures in
    let before = c.heard.invariant in
    record {
      place = next.2;
      few = omega (arith, c.hear.ensures.count, next.1, before.few);
      legal = search rules;
      so_far = (
        before.so_far.0 ++ c.in-Frame.frame ∷ [],
        stand-push c.args.client.now no_limit 0 c.heard.place c.in-Frame.used before.so_far.0 c.in-Frame.frame before.so_far.1 next.0,
        c.hear.ensures.heard before.so_far.0 before.so_far.2,
      );
    }

pub returns-in-Some-clause-found : goal.returns-in-Some-clause-found
returns-in-Some-clause-found c =
    let next = rw c.in-Frame.is at c.in_ok-frame.ensures in
    let before = c.heard.invariant in
    finding-of c.args.client.now before.so_far.0 c.heard.place c.in-Frame.frame c.in-Frame.used c.heard.judge c.hear.new.self c.in-Some.number before.so_far.1 next.0 before.legal
    before.so_far.2 c.in-Some.is (c.hear.ensures.before (ap is_some c.in-Some.is)) (c.hear.ensures.heard before.so_far.0 before.so_far.2)

pub returns-in-End-clause-none : goal.returns-in-End-clause-none
returns-in-End-clause-none c =
    let ends = rw c.in-End.is at c.in_ok-frame.ensures in
    let before = c.heard.invariant in
    legal-side c.args.client.now before.so_far.0 c.heard.place c.in-End.field-0 c.heard.judge before.so_far.1 ends before.legal before.so_far.2
