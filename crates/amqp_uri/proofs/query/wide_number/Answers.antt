use Rattle.std.proofs.Common.{◌≢◌, ◌∙◌, arith}
use Rattle.std.specs.Prelude.{slice_index}
use Rattle.amqp_uri.proofs.Numerals.{number-parsed}
use Rattle.amqp_uri.proofs.query.wide_number.Goals as goal

pub returns : goal.returns
returns c =
    let no_plus : slice_index c.args.value.now 0 ≢ 43
    = grind (arith, c.begins_with_plus.ensures, c.if-begins_with_plus.false) in
    c.ok.ensures.value ∙ number-parsed 32 c.args.value.now c.parse.result c.parse.ensures.value.0 no_plus
