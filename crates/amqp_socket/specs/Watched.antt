-- What a session and its port share: the numbers that stand for how the session stands, and for why a link failed.
use Rattle.std.specs.Prelude.{ℕ, ◌==◌, if◌then◌else◌}
use Rattle.amqp_socket.specs.declared.watch.Standing.{Standing}
use Rattle.amqp_socket.specs.declared.watch.Standing.TheVariants as standing
use Rattle.amqp_socket.specs.declared.watch.Cause.{Cause}
use Rattle.amqp_socket.specs.declared.watch.Cause.TheVariants as cause

-- the number that stands for how a session stands
abbrev pub code_of_standing : Standing → ℕ
code_of_standing standing.Opening = 0
code_of_standing standing.Open = 1
code_of_standing standing.Closing = 2
code_of_standing standing.Abandoned = 3

-- how a session stands by its number
abbrev pub standing_of_code : ℕ → Standing
standing_of_code code =
    if code == 0 then standing.Opening
    else (if code == 1 then standing.Open
    else (if code == 2 then standing.Closing else standing.Abandoned))

-- the number that stands for why a link failed
abbrev pub code_of_cause : Cause → ℕ
code_of_cause cause.Nothing = 0
code_of_cause cause.NoAddress = 1
code_of_cause cause.Refused = 2
code_of_cause cause.TimedOut = 3
code_of_cause cause.Unreachable = 4
code_of_cause cause.NotOpened = 5
code_of_cause cause.NotClosed = 6
code_of_cause cause.Silent = 7
code_of_cause cause.Reset = 8
code_of_cause cause.Abandoned = 9
code_of_cause cause.Other = 10

-- why a link failed by its number
abbrev pub cause_of_code : ℕ → Cause
cause_of_code code =
    if code == 0 then cause.Nothing
    else (if code == 1 then cause.NoAddress
    else (if code == 2 then cause.Refused
    else (if code == 3 then cause.TimedOut
    else (if code == 4 then cause.Unreachable
    else (if code == 5 then cause.NotOpened
    else (if code == 6 then cause.NotClosed
    else (if code == 7 then cause.Silent
    else (if code == 8 then cause.Reset
    else (if code == 9 then cause.Abandoned
    else cause.Other)))))))))
