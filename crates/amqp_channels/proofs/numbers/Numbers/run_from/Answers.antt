use Rattle.std.proofs.Common.{◌≡◌, ◌∙◌, ap, sym, ◌/◌, ◌<◌, ◌==◌, length, arith, tests}
use Rattle.std.proofs.lemmas.Grind.{get_or_default_zero}
use Rattle.std.specs.Prelude.{slice_index_or}
use Rattle.amqp_channels.proofs.Members.{member-near}
use Rattle.amqp_channels.proofs.numbers.Numbers.run_from.Goals as goal

pub returns-in-Some-clause-present : goal.returns-in-Some-clause-present
returns-in-Some-clause-present c i h =
    let words = c.deref.result.now in
    let found = c.in-Some.ensures.lookup in
    let room : c.args.id / 64 < length words = grind (arith, tests, found.0) in
    let same : words ≡ c.args.self.now = c.deref.ensures.value ∙ c.self.view_is in
    let is : slice_index_or c.args.self.now (c.args.id / 64) 0 ≡ c.in-Some.word.now =
    ap (λ ws. slice_index_or ws (c.args.id / 64) 0) (sym same) ∙ sym (found.1 ∙ get_or_default_zero words (c.args.id / 64) _ room) in
    member-near c.args.self.now c.args.id c.in-Some.word.now is i (omega (arith, h, c.ones_from.ensures.within))
    ∙ ap (λ k. k == 1) (c.ones_from.ensures.ones i h)
