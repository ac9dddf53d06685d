use Rattle.std.proofs.Common.{◌≡◌, ◌∙◌, ap, sym, ◌++◌, ◌∷◌, [], Some, unwrap_or, rules}
use Rattle.std.specs.Ordering.{nat_cmp}
use Rattle.std.specs.Map.{set_value}
use Rattle.std.specs.BTreeMap.{is_at}
use Rattle.amqp_maps.specs.Listed.{at, put}
use Rattle.amqp_outbox.proofs.Maps.{put-present}
use Rattle.amqp_maps.proofs.Maps.{set_value-same}
use Rattle.amqp_answers.proofs.handed.Backlog.hand_out.Goals as goal

pub returns-in_err-push-in-Some-clause-err : goal.returns-in_err-push-in-Some-clause-err
returns-in_err-push-in-Some-clause-err c =
    let es = c.self.inside.frames.entries in
    let same : (c.get_mut.follows.lender c.push.new.self).entries ≡ c.args.self.now =
    (c.get_mut.follows.holds c.push.new.self).0
    ∙ ap (set_value (is_at (nat_cmp c.args.opened)) es) c.in_err-push-in-Some.ensures.err
    ∙ set_value-same c.args.opened c.in-Some.frames.now es (sym c.in-Some.ensures.value)
    ∙ c.self.view_is in
    search (rules, same)

pub returns-in_ok-push-in-Some-clause-ok : goal.returns-in_ok-push-in-Some-clause-ok
returns-in_ok-push-in-Some-clause-ok c =
    let es = c.self.inside.frames.entries in
    let h = c.args.frame in
    let had : at c.args.opened es ≡ Some c.in-Some.frames.now = sym c.in-Some.ensures.value in
    (c.get_mut.follows.holds c.push.new.self).0
    ∙ ap (set_value (is_at (nat_cmp c.args.opened)) es) (c.in_ok-push-in-Some.ensures.ok ∙ ap (λ o. unwrap_or o [] ++ h ∷ []) (sym had))
    ∙ sym (put-present c.args.opened (unwrap_or (at c.args.opened es) [] ++ h ∷ []) c.in-Some.frames.now es had c.get_mut.ensures.ordered)
    ∙ ap (λ xs. put c.args.opened (unwrap_or (at c.args.opened xs) [] ++ h ∷ []) xs) c.self.view_is
