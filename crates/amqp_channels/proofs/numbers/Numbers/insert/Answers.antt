use Rattle.std.proofs.Common.{◌∙◌, ap, ◌/◌, ◌%◌, length, w64, arith}
use Rattle.std.specs.Prelude.{◌<◌}
use Rattle.std.proofs.lemmas.Grind.{get_or_default_zero}
use Rattle.std.proofs.lemmas.Nat.Bits.{bit_at_set_same, bit_at_set_other}
use Rattle.std.specs.Int.{bit_at}
use Rattle.amqp_channels.specs.NumberSet.{is_member}
use Rattle.amqp_channels.proofs.Members.{member-same, member-other}
use Rattle.amqp_channels.proofs.numbers.Numbers.insert.Goals as goal

pub returns : goal.returns
returns c =
    let words = c.self.inside.words.items in
    let word = c.index_mut.result.now in
    let bit = c.args.id % 64 in
    let room : c.args.id / 64 < length words = rw c.self.view_is c.requires in
    let old = c.index_mut.ensures.value ∙ get_or_default_zero words (c.args.id / 64) _ room in
    record {
      added = member-same words c.args.id _ room 1 (bit_at_set_same w64 word bit (omega arith));
      others = λ n ne.
          member-other words c.args.id _ room (λ i h f. bit_at_set_other w64 word bit (omega arith) i f ∙ ap (λ k. bit_at k i) old) n ne
          ∙ ap (λ ws. is_member ws n) c.self.view_is;
    }
