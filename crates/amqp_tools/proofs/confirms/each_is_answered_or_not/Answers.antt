use Rattle.std.proofs.Common.{refl}
use Rattle.std.proofs.lemmas.List.Filters.{length-filter_both}
use Rattle.amqp_tools.specs.Confirms.{means}
use Rattle.amqp_tools.proofs.confirms.each_is_answered_or_not.Goals as goal

pub returns : goal.returns
returns c = λ tag multiple waiting. length-filter_both (λ p. means tag multiple p.number) _ (λ _. refl) waiting
