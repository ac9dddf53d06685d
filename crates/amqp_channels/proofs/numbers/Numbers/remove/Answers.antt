use Rattle.std.proofs.Common.{◌∙◌, ap, ◌/◌, ◌%◌, ◌<◌, length, w64, arith}
use Rattle.std.proofs.lemmas.Grind.{get_or_default_zero}
use Rattle.std.proofs.lemmas.Nat.Bits.{bit_at_clear_same, bit_at_clear_other}
use Rattle.std.specs.Int.{bit_at}
use Rattle.amqp_channels.specs.NumberSet.{is_member}
use Rattle.amqp_channels.proofs.Members.{member-same, member-other}
use Rattle.amqp_channels.proofs.numbers.Numbers.remove.Goals as goal

pub returns-then-word-len-clause-gone : goal.returns-then-word-len-clause-gone
returns-then-word-len-clause-gone c =
    member-same c.self.inside.words.items c.args.id _ (omega (arith, c.if-word-len.true, c.len.ensures)) 0
    (bit_at_clear_same w64 c.index_mut.result.now (c.args.id % 64) (omega arith))

pub returns-then-word-len-clause-others : goal.returns-then-word-len-clause-others
returns-then-word-len-clause-others c n ne =
    let words = c.self.inside.words.items in
    let word = c.index_mut.result.now in
    let bit = c.args.id % 64 in
    let room : c.args.id / 64 < length words = omega (arith, c.if-word-len.true, c.len.ensures) in
    let old = c.index_mut.ensures.value ∙ get_or_default_zero words (c.args.id / 64) _ room in
    member-other words c.args.id _ room (λ i h f. bit_at_clear_other w64 word bit (omega arith) i h f ∙ ap (λ k. bit_at k i) old) n ne
    ∙ ap (λ ws. is_member ws n) c.self.view_is
