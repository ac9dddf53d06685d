-- What is found of a channel after an error is that it goes on, or tells that error.
use Rattle.std.proofs.Common.{◌≡◌, Bool, true, false, Option, Some, None, Result, Ok, Err, IfSome, IfOk, sym, subst}
use Rattle.futures.specs.declared.task.Poll.{Poll}
use Rattle.futures.specs.declared.task.Poll.TheVariants.{Ready, Pending}
use Rattle.futures.specs.Poll.{IfReady}
use Rattle.amqp_promise.specs.Kinds.{can_be_recovered}
use Rattle.amqp_promise.specs.declared.error.ErrorKind.{ErrorKind}
use Rattle.amqp_promise.specs.declared.state.ChannelState.{ChannelState}
use Rattle.amqp_promise.specs.declared.state.ChannelState.TheVariants as state
use Rattle.amqp_commands.specs.declared.command.ChanRef.{ChanRef}
use Rattle.amqp_rules.specs.Queries.{channel_state}
use Rattle.amqp_rules.specs.Talk.{Talk}
use Rattle.amqp_locked.specs.Recovering.{FoundIn, FoundOf, IsToldBy, IsError}
use Rattle.amqp_locked.specs.Taking.{polled_of}

told-error : (error : ErrorKind) (found : Option (Result (Unit {0}) ErrorKind)) → IsError error found → IfSome found (IsToldBy error)
told-error error None is = absurd is
told-error error (Some (Ok done)) is = absurd is
told-error error (Some (Err e)) is = is

told-in : (s : ChannelState) (recovers allows : Bool) (error : ErrorKind) (found : Option (Result (Unit {0}) ErrorKind))
    → FoundIn s recovers allows error found → IfSome found (IsToldBy error)
told-in state.Connected recovers allows error found is =
    subst (λ (x : Option (Result (Unit {0}) ErrorKind)). IfSome x (IsToldBy error)) (sym is) tt
told-in state.Reconnecting true true error found is =
    subst (λ (x : Option (Result (Unit {0}) ErrorKind)). IfSome x (IsToldBy error)) (sym is) tt
told-in state.Reconnecting true false error found is = told-error error found is
told-in state.Reconnecting false allows error found is = told-error error found is
told-in state.Initial recovers allows error found is = told-error error found is
told-in state.Closing recovers allows error found is = told-error error found is
told-in state.Closed recovers allows error found is = told-error error found is
told-in state.Error recovers allows error found is = told-error error found is

told-polled : {E : Type 0} (error : ErrorKind) (polled : Poll (Result (Result (Unit {0}) ErrorKind) E))
    → IfSome (polled_of polled) (IsToldBy error) → IfReady polled (λ (r : Result (Result (Unit {0}) ErrorKind) E). IfOk r (IsToldBy error))
told-polled error (Ready (Ok x)) is = is
told-polled error (Ready (Err e)) is = tt
told-polled error Pending is = tt

-- so does what a poll finds
pub told : {E : Type 0} (t : Talk) (channel : ChanRef) (error : ErrorKind) (polled : Poll (Result (Result (Unit {0}) ErrorKind) E))
    → FoundOf t channel error (polled_of polled) → IfReady polled (λ (r : Result (Result (Unit {0}) ErrorKind) E). IfOk r (IsToldBy error))
told t channel error polled is =
    told-polled error polled
    (told-in (channel_state channel t) t.config.options.recover (can_be_recovered error) error (polled_of polled) is)
