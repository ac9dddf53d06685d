use Rattle.std.proofs.Common.{◌≡◌, ◌∙◌, None, ap, sym}
use Rattle.amqp_rules.specs.Writing.{frames_waiting, overlong, end_overlong}
use Rattle.amqp_engine.specs.Engine.{Engine, with_talk, fitting_next, committed_with_bytes, commit_one, commit_all}
use Rattle.amqp_types.proofs.Small.{none-from}
use Rattle.amqp_engine.proofs.Commits.{commits-rest, commits-first, some-fits}
use Rattle.amqp_engine.proofs.Overlong.{fitting-short}
use Rattle.amqp_engine.proofs.wire.Wire.commit_all.Goals as goal

pub returns : goal.returns
returns c =
    let e = c.commits.self in
    let none : fitting_next e ≡ None = none-from (fitting_next e) (sym c.commit_next.ensures.some ∙ c.commits-test.false) in
    let end : Engine → Engine = λ x. with_talk (end_overlong (overlong x.talk)) x in
    let all : e ≡ commit_all c.args.self.now = sym (commits-rest (frames_waiting e.talk) e none) ∙ c.commits.invariant in
    c.commit_next.ensures.commit ∙ ap (λ o. with_talk (end_overlong (overlong e.talk)) (committed_with_bytes o e)) none ∙ ap end all

pub commits-preserved : goal.commits-preserved
commits-preserved c =
    let e = c.commits.self in
    let fits = some-fits (fitting_next e) (sym c.commit_next.ensures.some ∙ c.commits-test.true) in
    let one : c.commit_next.new.self ≡ commit_one e =
    c.commit_next.ensures.commit ∙ ap (λ o. with_talk (end_overlong o) (commit_one e)) (fitting-short e fits.0 fits.1) in
    ap commit_all one ∙ commits-first e fits.0 fits.1 ∙ c.commits.invariant
