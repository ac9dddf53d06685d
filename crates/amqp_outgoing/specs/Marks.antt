-- Committed frames: what follows once each was sent whole, and how many of their bytes are unsent.
use Rattle.std.specs.Prelude.{ℕ, zero, ◌-◌, Bool, true, false, nat_le, if◌then◌else◌, List, [], ◌∷◌, sum_by, Option, Some, None}
use Rattle.amqp_frame.specs.declared.frame.Frame.{Frame}
use Rattle.amqp_frame.specs.declared.frame.Frame.TheVariants.{Method}
use Rattle.amqp_frame.specs.declared.method.Method.TheVariants.{CloseOk, ChannelCloseOk}
use Rattle.amqp_outbox.specs.declared.item.Item.{Item}
use Rattle.amqp_outbox.specs.Items.{size_of}
use Rattle.amqp_outgoing.specs.declared.committed.Mark.{Mark}
use Rattle.amqp_outgoing.specs.declared.committed.Then.{Then}
use Rattle.amqp_outgoing.specs.declared.committed.Then.TheVariants.{Nothing, Answer, Pays, Finish}

-- ---- what follows

-- close-ok of the connection, our answer to the server's close
abbrev pub is_close_ok : Frame → Bool
is_close_ok (Method zero CloseOk) = true
is_close_ok _ = false

-- what follows once a frame was sent whole, by the promise that it answers
abbrev pub answers : Option ℕ → Then
answers None = Nothing
answers (Some number) = Answer number

-- what follows once a frame was sent whole: after channel.close-ok its channel owes nothing any more, and after any
-- other but connection.close-ok a promise is answered, where there is one
abbrev pub then_by : Frame → Option ℕ → Then
then_by (Method n ChannelCloseOk) promise = Pays n
then_by frame promise = answers promise

-- what follows once a frame was sent whole; after connection.close-ok the session finishes
abbrev pub then_of : Item → Then
then_of item = if is_close_ok item.frame then Finish else then_by item.frame item.promise

-- a frame as it is committed
abbrev pub mark_of : Item → Mark
mark_of item = record { left = size_of item; then = then_of item }

-- ---- their bytes

-- how many bytes of these committed frames are unsent
abbrev pub left_in : List Mark → ℕ
left_in marks = sum_by (λ (m : Mark). m.left) marks

-- the first committed frame, where its last byte is among the next n
abbrev pub first_among : ℕ → List Mark → Option Mark
first_among n [] = None
first_among n (m ∷ ms) = if nat_le m.left n then Some m else None

-- what is then left of the committed frames
abbrev pub after_first : ℕ → List Mark → List Mark
after_first n [] = []
after_first n (m ∷ ms) = if nat_le m.left n then ms else record m { left = m.left - n } ∷ ms
