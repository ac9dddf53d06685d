use Rattle.std.proofs.Common.{rules, arith, ◌≡◌, refl, not}
use Rattle.std.proofs.lemmas.Fn.{filter_same}
use Rattle.std.proofs.lemmas.List.Filters.{length-filter_both}
use Rattle.amqp_tools.specs.Confirms.{means, left_unanswered}
use Rattle.amqp_tools.proofs.confirms.Confirms.answered.Goals as goal

pub returns-clause-meant : goal.returns-clause-meant
returns-clause-meant c =
    let waiting = c.args.self.now.unanswered.items in
    let kept : c.retain.new.self.items ≡ left_unanswered c.args.tag c.args.multiple waiting =
    filter_same _ _ _ (λ x b f' k. search rules) _ _ c.retain.ensures.filtered in
    let both = length-filter_both (λ p. means c.args.tag c.args.multiple p.number) (λ p. not (means c.args.tag c.args.multiple p.number)) (λ _. refl) waiting in
    grind (arith, kept, both, c.len-before.ensures, c.len.ensures)

pub returns-clause-unanswered : goal.returns-clause-unanswered
returns-clause-unanswered c = filter_same _ _ _ (λ x b f' k. search rules) _ _ c.retain.ensures.filtered
