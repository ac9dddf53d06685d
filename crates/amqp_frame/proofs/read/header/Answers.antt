use Rattle.std.proofs.Common.{◌≡◌, ℕ, List, refl, ◌∙◌}
use Rattle.amqp_frame.specs.FrameReading.{expect, version, header}
use Rattle.amqp_frame.proofs.read.header.Goals as goal

header_is : (bytes : List ℕ) → header bytes ≡ expect 77 (expect 81 (expect 80 version)) bytes
unfolding header
header_is bytes = refl

pub returns-in-Ok-clause-answer : goal.returns-in-Ok-clause-answer
returns-in-Ok-clause-answer g c =
    header_is c.args.cursor.now ∙ c.in-Ok.ensures version ∙ c.version.ensures.answer

pub returns-in-Err-Short-clause-answer : goal.returns-in-Err-Short-clause-answer
returns-in-Err-Short-clause-answer g c =
    header_is c.args.cursor.now ∙ (rw c.in-Err-Short.field-0-is at c.in-Err-Short.ensures version)

pub returns-in-Err-Other-clause-answer : goal.returns-in-Err-Other-clause-answer
returns-in-Err-Other-clause-answer g c =
    header_is c.args.cursor.now ∙ (rw c.in-Err-Other.field-0-is at c.in-Err-Other.ensures version)
