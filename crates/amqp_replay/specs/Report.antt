-- The report of a replay.
use Rattle.std.specs.Prelude.{ℕ, true, false, List, [], ◌∷◌, ◌++◌, Option, Some, None, Result, Ok, Err, codes}
use Rattle.std.specs.List.{flat_map, enumerate_from, range_with_len}
use Rattle.std.specs.Fmt.{decimal}
use Rattle.hex.specs.Hex.{encode_lower}
use Rattle.amqp_answers.specs.declared.answer.Answer.{Answer}
use Rattle.amqp_answers.specs.declared.answer.Answer.TheVariants.{Connected, Channel, Done, Sent, Flow}
use Rattle.amqp_frame.specs.declared.frame.RawKind.{RawKind}
use Rattle.amqp_frame.specs.declared.frame.RawKind.TheVariants.{RawMethod, Header, Body}
use Rattle.amqp_answers.specs.declared.handed.Handed.{Handed}
use Rattle.amqp_promise.specs.declared.error.ErrorKind.{ErrorKind}
use Rattle.amqp_answers.specs.declared.event.Event.{Event}
use Rattle.amqp_answers.specs.declared.event.Event.TheVariants as event
use Rattle.amqp_rules.specs.Talk.{Talk, end_of}
use Rattle.amqp_promise.specs.Errors.{error_text}
use Rattle.amqp_rules.specs.ChannelMethods.{frames_of}
use Rattle.amqp_rules.specs.Answers.{answer_of, events_of}

-- bytes as two lower-case digits each, or `-` for none
abbrev pub hexadecimal : List ℕ → List ℕ
hexadecimal [] = codes "-"
hexadecimal (b ∷ bytes) = encode_lower (b ∷ bytes)

-- the bytes of a link
abbrev pub link_report : ℕ × List ℕ → List ℕ
link_report (k, bytes) = codes "link " ++ decimal k ++ codes " " ++ hexadecimal bytes ++ codes "\n"

-- what a promise was answered with
abbrev pub value_text : Answer → List ℕ
value_text Connected = codes "connected"
value_text (Channel n opened) = codes "channel " ++ decimal n
value_text Done = codes "done"
value_text Sent = codes "sent"
value_text (Flow true) = codes "flow on"
value_text (Flow false) = codes "flow off"

-- an answer, or that there is none
abbrev pub answer_text : Option (Result Answer ErrorKind) → List ℕ
answer_text None = codes "pending"
answer_text (Some (Ok answer)) = codes "ok " ++ value_text answer
answer_text (Some (Err e)) = codes "err " ++ error_text e

-- the answer to a promise
abbrev pub answer_line : ℕ → Option (Result Answer ErrorKind) → List ℕ
answer_line number answer =
    codes "answer " ++ decimal number ++ codes " " ++ answer_text answer ++ codes "\n"

-- the kind of a frame
abbrev pub kind_text : RawKind → List ℕ
kind_text RawMethod = codes "method"
kind_text Header = codes "header"
kind_text Body = codes "body"

-- a frame that was handed out
abbrev pub frame_line : Handed → List ℕ
frame_line h =
    codes "frame "
    ++ decimal h.channel
    ++ codes " "
    ++ kind_text h.kind
    ++ codes " "
    ++ hexadecimal h.bytes
    ++ codes "\n"

-- what is told to those who listen
abbrev pub event_text : Event → List ℕ
event_text event.Connected = codes "connected"
event_text (event.ConnectionBlocked reason) = codes "blocked " ++ reason
event_text event.ConnectionUnblocked = codes "unblocked"
event_text (event.SendFlow true) = codes "flow on"
event_text (event.SendFlow false) = codes "flow off"
event_text (event.Error e) = codes "error " ++ error_text e

-- an event
abbrev pub event_line : Event → List ℕ
event_line event = codes "event " ++ event_text event ++ codes "\n"

-- how the session ended, or that it has not
abbrev pub end_text : Option (Result (Unit {0}) ErrorKind) → List ℕ
end_text None = codes "running"
end_text (Some (Ok closed)) = codes "closed"
end_text (Some (Err e)) = codes "error " ++ error_text e

-- how the session ended
abbrev pub end_line : Option (Result (Unit {0}) ErrorKind) → List ℕ
end_line end = codes "end " ++ end_text end ++ codes "\n"

-- the links, counted from 1
abbrev pub link_lines : List (List ℕ) → List ℕ
link_lines links = flat_map link_report (enumerate_from 1 links)

-- the promises, counted from 0
abbrev pub answer_lines : Talk → List ℕ
answer_lines talk =
    flat_map (λ number. answer_line number (answer_of number talk)) (range_with_len 0 talk.made)

-- the frames handed out, in order, of the channel that each promise opened
abbrev pub frame_lines : Talk → List ℕ
frame_lines talk =
    flat_map (λ number. flat_map frame_line (frames_of number talk)) (range_with_len 0 talk.made)

-- the events, in order: those that were kept, which are none where nobody listened
abbrev pub event_lines : Talk → List ℕ
event_lines talk = flat_map event_line (events_of talk)

-- the bytes of each link, the answer to each promise, the frames handed out, the events, and the end
abbrev pub report : List (List ℕ) → Talk → List ℕ
report links talk =
    link_lines links ++ answer_lines talk ++ frame_lines talk ++ event_lines talk ++ end_line (end_of talk)

-- what is printed of a script with a refused line
abbrev pub refusal : ℕ → List ℕ
refusal number = codes "script line " ++ decimal number ++ codes " refused\n"

-- what is printed, and the status that goes with it
pub record Printout : Type 0 where
  pub status : ℕ
  pub text : List ℕ
