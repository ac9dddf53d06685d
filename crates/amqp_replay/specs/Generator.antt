-- The script that a number makes: so many channels are opened, and a message is published on each.
use Rattle.std.specs.Prelude.{ℕ, zero, suc, ◌*◌, ◌%◌, List, ◌++◌, codes}
use Rattle.std.specs.List.{flat_map, range_with_len}
use Rattle.std.specs.Int.{w16, to_be_bytes}
use Rattle.std.specs.Fmt.{decimal}
use Rattle.amqp_replay.specs.Report.{hexadecimal}

-- a link is there, and the server says start, tune and open-ok
abbrev pub opened : List ℕ
opened =
    codes "link\n"
    ++ codes "bytes 01000000000061000a000a00090000003c"
    ++ codes "0c6361706162696c69746965734600000015"
    ++ codes "127075626c69736865725f636f6e6669726d737401"
    ++ codes "0770726f6475637453000000085261626269744d51"
    ++ codes "0000000e504c41494e20414d51504c41494e00000005656e5f5553ce\n"
    ++ codes "bytes 0100000000000c000a001e07ff00020000003cce\n"
    ++ codes "bytes 01000000000005000a002900ce\n"

-- a channel is opened, and the server says channel.open-ok
abbrev pub opening_lines : ℕ → List ℕ
opening_lines id =
    codes "open\n" ++ codes "bytes 01" ++ hexadecimal (to_be_bytes w16 id) ++ codes "000000080014000b00000000ce\n"

-- so many zeros, or `-` for none
abbrev pub body_text : ℕ → List ℕ
body_text zero = codes "-"
body_text (suc n) = codes "z" ++ decimal (suc n)

-- `hello` is the routing key of a message, which has no properties, and a body of another size on each channel
abbrev pub publishing : ℕ → List ℕ
publishing id =
    codes "publish "
    ++ decimal id
    ++ codes " 60 40 0000000568656c6c6f00 0000 "
    ++ body_text (id * 7919 % 9000)
    ++ codes "\n"

-- the connection is closed, and the server says close-ok
abbrev pub ending : List ℕ
ending = codes "shut 200 OK\n" ++ codes "bytes 01000000000004000a0033ce\n"

-- the lines of the script: all channels are opened, from 1 on, before the first message is published
abbrev pub generated : ℕ → List ℕ
generated count =
    opened
    ++ flat_map opening_lines (range_with_len 1 count)
    ++ flat_map publishing (range_with_len 1 count)
    ++ ending
