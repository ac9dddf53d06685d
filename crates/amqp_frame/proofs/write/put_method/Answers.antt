use Rattle.std.proofs.Common.{◌≡◌, ℕ, ◌+◌, [], ◌∷◌, ◌++◌, length, ap, ◌∙◌, arith}
use Rattle.std.specs.Int.{w16, to_be_bytes}
use Rattle.amqp_frame.specs.Frames.{spell_header}
use Rattle.amqp_frame.specs.Methods.{class_of, number_of, spell_arguments, spell_method}
use Rattle.amqp_frame.proofs.Texts.{five_texts, length-spell_method}
use Rattle.amqp_frame.proofs.write.put_method.Goals as goal

pub returns-clause-bytes : goal.returns-clause-bytes
returns-clause-bytes g c =
    let len : c.arguments_len.result + 4 ≡ length (spell_method c.args.method.now) =
    omega (arith, c.arguments_len.ensures, c.requires.small, length-spell_method c.args.method.now) in
    five_texts
    (g.R.Room.put_so_far c.args.room.now) (g.R.Room.put_so_far c.put_header.new.room) (g.R.Room.put_so_far
    c.put_number16.new.room) (g.R.Room.put_so_far c.put_number16-2.new.room)
    (g.R.Room.put_so_far c.put_arguments.new.room) (g.R.Room.put_so_far c.put_octet.new.room)
    (spell_header 1 c.args.channel (length (spell_method c.args.method.now))) (to_be_bytes w16
    (class_of c.args.method.now)) (to_be_bytes w16 (number_of c.args.method.now)) (spell_arguments
    c.args.method.now) (206 ∷ [])
    (c.put_header.ensures.bytes
    ∙ ap (λ (n : ℕ). g.R.Room.put_so_far c.args.room.now ++ spell_header 1 c.args.channel n) len)
    (c.put_number16.ensures.bytes
    ∙ ap (λ (n : ℕ). g.R.Room.put_so_far c.put_header.new.room ++ to_be_bytes w16 n) c.class_id.ensures)
    (c.put_number16-2.ensures.bytes
    ∙ ap (λ (n : ℕ). g.R.Room.put_so_far c.put_number16.new.room ++ to_be_bytes w16 n) c.method_id.ensures)
    c.put_arguments.ensures.bytes
    c.put_octet.ensures.bytes
