-- What a number stands for is what was put into it.
use Rattle.std.proofs.Common.{◌≡◌, refl}
use Rattle.amqp_socket.specs.Watched.{code_of_standing, standing_of_code, code_of_cause, cause_of_code}
use Rattle.amqp_socket.specs.declared.watch.Standing.{Standing}
use Rattle.amqp_socket.specs.declared.watch.Standing.TheVariants as standing
use Rattle.amqp_socket.specs.declared.watch.Cause.{Cause}
use Rattle.amqp_socket.specs.declared.watch.Cause.TheVariants as cause

pub told-standing : (s : Standing) → standing_of_code (code_of_standing s) ≡ s
told-standing standing.Opening = refl
told-standing standing.Open = refl
told-standing standing.Closing = refl
told-standing standing.Abandoned = refl

pub told-cause : (e : Cause) → cause_of_code (code_of_cause e) ≡ e
told-cause cause.Nothing = refl
told-cause cause.NoAddress = refl
told-cause cause.Refused = refl
told-cause cause.TimedOut = refl
told-cause cause.Unreachable = refl
told-cause cause.NotOpened = refl
told-cause cause.NotClosed = refl
told-cause cause.Silent = refl
told-cause cause.Reset = refl
told-cause cause.Abandoned = refl
told-cause cause.Other = refl
