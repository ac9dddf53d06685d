use Rattle.std.proofs.Common.{◌∙◌, ap, sym, ◌+◌, ◌<◌, ◌^◌, arith}
use Rattle.std.specs.Int.{bit_at}
use Rattle.std.proofs.lemmas.Nat.Bits.{bit_at_ones}
use Rattle.amqp_channels.proofs.Members.{ones, no-ones, ones-within}
use Rattle.amqp_channels.proofs.numbers.ones_from.Goals as goal

pub returns-then-word-eq18446744073709551615 : goal.returns-then-word-eq18446744073709551615
returns-then-word-eq18446744073709551615 c =
    let full = c.if-word-eq18446744073709551615.true in
    record {
      within = omega arith;
      ones = λ i h. ap (λ w. bit_at w (c.args.bit + i)) full ∙ bit_at_ones 64 (c.args.bit + i) (omega arith);
      none = λ none. absurd (omega (arith, none));
    }

pub returns-else-word-eq18446744073709551615 : goal.returns-else-word-eq18446744073709551615
returns-else-word-eq18446744073709551615 c =
    let small : c.args.word + 1 < 2 ^ 64 = omega (arith, c.if-word-eq18446744073709551615.false) in
    let run = c.trailing_ones.ensures in
    record {
      within = let k = ones-within c.args.word c.args.bit small c.requires in omega (arith, k, run);
      ones = λ i h. ones c.args.word c.args.bit small i (omega (arith, h, run));
      none = λ none. no-ones c.args.word c.args.bit small (sym run ∙ none);
    }
