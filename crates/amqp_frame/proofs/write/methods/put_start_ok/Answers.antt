use Rattle.std.proofs.Common.{ℕ, List, ◌++◌, ap, ◌∙◌}
use Rattle.amqp_types.specs.Forms.{spell_short_string, spell_long_string}
use Rattle.amqp_types.specs.Spelling.{spell_table}
use Rattle.amqp_frame.proofs.Texts.{four_texts}
use Rattle.amqp_frame.proofs.write.methods.put_start_ok.Goals as goal

pub returns-clause-bytes : goal.returns-clause-bytes
returns-clause-bytes g c =
    four_texts
    (g.R.Room.put_so_far c.args.room.now) (g.R.Room.put_so_far c.put_table.new.room)
    (g.R.Room.put_so_far c.put_short.new.room) (g.R.Room.put_so_far c.put_long.new.room)
    (g.R.Room.put_so_far c.put_short-2.new.room)
    (spell_table c.args.properties.now) (spell_short_string c.args.mechanism.now)
    (spell_long_string c.args.response.now) (spell_short_string c.args.locale.now)
    c.put_table.ensures.bytes
    (c.put_short.ensures.bytes
    ∙ ap (λ (t : List ℕ). g.R.Room.put_so_far c.put_table.new.room ++ spell_short_string t) c.as_bytes.ensures.bytes)
    (c.put_long.ensures.bytes
    ∙ ap (λ (t : List ℕ). g.R.Room.put_so_far c.put_short.new.room ++ spell_long_string t) c.as_bytes-2.ensures.bytes)
    (c.put_short-2.ensures.bytes
    ∙ ap (λ (t : List ℕ). g.R.Room.put_so_far c.put_long.new.room ++ spell_short_string t) c.as_bytes-3.ensures.bytes)
