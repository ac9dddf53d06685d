use Rattle.std.proofs.Common.{◌≡◌, ℕ, List, Option, IfSome, inl, inr, subst, arith}
use Rattle.amqp_uri.specs.Address.{address_of_text}
use Rattle.amqp_live.specs.Said.{SaysAll}
use Rattle.amqp_live.specs.Ends.{IsReached, AsksFor, SaysWhy, SaysAsFar, FailsToSay}
use Rattle.amqp_live.specs.declared.live.Stop.TheVariants.{Unsaid, Unconnected, Failed}
use Rattle.amqp_live.proofs.Lines.{says-error, says-no_more, still-nothing, front-error, front-first, goes-unsaid, goes-failed, goes-unconnected}
use Rattle.amqp_live.proofs.live.top_live.Goals as goal

pub returns-in-Ok-clause-closed : goal.returns-in-Ok-clause-closed
returns-in-Ok-clause-closed g c = λ is.
    let before = g.K.Sink.held c.args.sink.now in
    let later = g.K.Sink.held c.converse.new.sink in
    let P : Option (List ℕ) → Type 0 = λ o. IfSome o (λ uri. IsReached (address_of_text uri) (g.S.Spawner.loops c.args.runtime.now) (g.S.Spawner.loops c.converse.new.runtime) × SaysAll before later) in
    subst P c.in-Some.ensures c.in-Ok.ensures.goes

pub returns-in-Ok-clause-asked : goal.returns-in-Ok-clause-asked
returns-in-Ok-clause-asked g c = λ is.
    let P : Option (List ℕ) → Type 0 = λ o. IfSome o (λ uri. AsksFor (address_of_text uri) (g.S.Spawner.asked c.converse.new.runtime)) in
    subst P c.in-Some.ensures c.in-Ok.ensures.asked

pub returns-in-Err-Unsaid-clause-sink_failed : goal.returns-in-Err-Unsaid-clause-sink_failed
returns-in-Err-Unsaid-clause-sink_failed g c = λ is.
    let before = g.K.Sink.held c.args.sink.now in
    let later = g.K.Sink.held c.converse.new.sink in
    let n = g.S.Spawner.refusals c.args.runtime.now in
    let m = g.S.Spawner.refusals c.converse.new.runtime in
    let P : Option (List ℕ) → Type 0 = λ o. IfSome o (λ uri. FailsToSay (address_of_text uri) n m (g.S.Spawner.loops c.args.runtime.now) (g.S.Spawner.loops c.converse.new.runtime) before later) in
    let why : c.in-Err-Unsaid.field-0 ≡ Unsaid = grind (arith, c.in-Err-Unsaid.field-0-is) in
    subst P c.in-Some.ensures
    (inl (goes-unsaid (address_of_text c.in-Some.uri.now) n m (g.S.Spawner.loops c.args.runtime.now) (g.S.Spawner.loops c.converse.new.runtime) before later c.in-Err-Unsaid.field-0 why c.in-Err-Unsaid.ensures.goes))

pub returns-in-Err-Unconnected-clause-no_memory : goal.returns-in-Err-Unconnected-clause-no_memory
returns-in-Err-Unconnected-clause-no_memory g c = λ is.
    let before = g.K.Sink.held c.args.sink.now in
    let now = g.K.Sink.held c.converse.new.sink in
    let later = g.K.Sink.held c.tell_error.new.sink in
    let e = c.in-Err-Unconnected.error in
    let P : Option (List ℕ) → Type 0 = λ o. IfSome o (λ uri. SaysAsFar (address_of_text uri) (g.S.Spawner.loops c.args.runtime.now) (g.S.Spawner.loops c.converse.new.runtime) before later) in
    let why : c.in-Err-Unconnected.field-0 ≡ Unconnected e =
    grind (arith, c.in-Err-Unconnected.field-0-is, c.in-Err-Unconnected.error-is) in
    let goes = goes-unconnected (address_of_text c.in-Some.uri.now) (g.S.Spawner.refusals c.args.runtime.now)
    (g.S.Spawner.refusals c.converse.new.runtime) (g.S.Spawner.loops c.args.runtime.now) (g.S.Spawner.loops c.converse.new.runtime) before now c.in-Err-Unconnected.field-0 e why
    c.in-Err-Unconnected.ensures.goes in
    subst P c.in-Some.ensures (inl (still-nothing e before now later c.tell_error.result is goes.1 c.tell_error.ensures.told))

pub returns-in-Err-Unconnected-clause-sink_failed : goal.returns-in-Err-Unconnected-clause-sink_failed
returns-in-Err-Unconnected-clause-sink_failed g c = λ is.
    let before = g.K.Sink.held c.args.sink.now in
    let now = g.K.Sink.held c.converse.new.sink in
    let later = g.K.Sink.held c.tell_error.new.sink in
    let n = g.S.Spawner.refusals c.args.runtime.now in
    let m = g.S.Spawner.refusals c.converse.new.runtime in
    let e = c.in-Err-Unconnected.error in
    let P : Option (List ℕ) → Type 0 = λ o. IfSome o (λ uri. FailsToSay (address_of_text uri) n m (g.S.Spawner.loops c.args.runtime.now) (g.S.Spawner.loops c.converse.new.runtime) before later) in
    let why : c.in-Err-Unconnected.field-0 ≡ Unconnected e =
    grind (arith, c.in-Err-Unconnected.field-0-is, c.in-Err-Unconnected.error-is) in
    let goes = goes-unconnected (address_of_text c.in-Some.uri.now) n m (g.S.Spawner.loops c.args.runtime.now) (g.S.Spawner.loops c.converse.new.runtime) before now c.in-Err-Unconnected.field-0 e why
    c.in-Err-Unconnected.ensures.goes in
    subst P c.in-Some.ensures
    (inr (e, goes.0, front-first e before now later c.tell_error.result is goes.1 c.tell_error.ensures.told))

pub returns-in-Err-Failed-clause-failed : goal.returns-in-Err-Failed-clause-failed
returns-in-Err-Failed-clause-failed g c = λ is.
    let before = g.K.Sink.held c.args.sink.now in
    let now = g.K.Sink.held c.converse.new.sink in
    let later = g.K.Sink.held c.tell_error-in-Err-Failed.new.sink in
    let P : Option (List ℕ) → Type 0 = λ o. IfSome o (λ uri. SaysWhy (address_of_text uri)
    (g.S.Spawner.refusals c.args.runtime.now) (g.S.Spawner.refusals c.converse.new.runtime) (g.S.Spawner.loops c.args.runtime.now) (g.S.Spawner.loops c.converse.new.runtime) before later) in
    let why : c.in-Err-Failed.field-0 ≡ Failed c.in-Err-Failed.error =
    grind (arith, c.in-Err-Failed.field-0-is, c.in-Err-Failed.error-is) in
    let goes = goes-failed (address_of_text c.in-Some.uri.now) (g.S.Spawner.refusals c.args.runtime.now)
    (g.S.Spawner.refusals c.converse.new.runtime) (g.S.Spawner.loops c.args.runtime.now) (g.S.Spawner.loops c.converse.new.runtime) before now c.in-Err-Failed.field-0 c.in-Err-Failed.error why
    c.in-Err-Failed.ensures.goes in
    subst P c.in-Some.ensures
    (inr (
      goes.0,
      (
        c.in-Err-Failed.error,
        says-error c.in-Err-Failed.error before now later
            c.tell_error-in-Err-Failed.result is goes.1 c.tell_error-in-Err-Failed.ensures.told,
      ),
    ))

pub returns-in-Err-Failed-clause-no_memory : goal.returns-in-Err-Failed-clause-no_memory
returns-in-Err-Failed-clause-no_memory g c = λ is.
    let before = g.K.Sink.held c.args.sink.now in
    let now = g.K.Sink.held c.converse.new.sink in
    let later = g.K.Sink.held c.tell_error-in-Err-Failed.new.sink in
    let e = c.in-Err-Failed.error in
    let P : Option (List ℕ) → Type 0 = λ o. IfSome o (λ uri. SaysAsFar (address_of_text uri) (g.S.Spawner.loops c.args.runtime.now) (g.S.Spawner.loops c.converse.new.runtime) before later) in
    let why : c.in-Err-Failed.field-0 ≡ Failed e =
    grind (arith, c.in-Err-Failed.field-0-is, c.in-Err-Failed.error-is) in
    let goes = goes-failed (address_of_text c.in-Some.uri.now) (g.S.Spawner.refusals c.args.runtime.now)
    (g.S.Spawner.refusals c.converse.new.runtime) (g.S.Spawner.loops c.args.runtime.now) (g.S.Spawner.loops c.converse.new.runtime) before now c.in-Err-Failed.field-0 e why
    c.in-Err-Failed.ensures.goes in
    subst P c.in-Some.ensures
    (inr (goes.0, says-no_more e before now later c.tell_error-in-Err-Failed.result is goes.1 c.tell_error-in-Err-Failed.ensures.told))

pub returns-in-Err-Failed-clause-sink_failed : goal.returns-in-Err-Failed-clause-sink_failed
returns-in-Err-Failed-clause-sink_failed g c = λ is.
    let before = g.K.Sink.held c.args.sink.now in
    let now = g.K.Sink.held c.converse.new.sink in
    let later = g.K.Sink.held c.tell_error-in-Err-Failed.new.sink in
    let n = g.S.Spawner.refusals c.args.runtime.now in
    let m = g.S.Spawner.refusals c.converse.new.runtime in
    let e = c.in-Err-Failed.error in
    let P : Option (List ℕ) → Type 0 = λ o. IfSome o (λ uri. FailsToSay (address_of_text uri) n m (g.S.Spawner.loops c.args.runtime.now) (g.S.Spawner.loops c.converse.new.runtime) before later) in
    let why : c.in-Err-Failed.field-0 ≡ Failed e =
    grind (arith, c.in-Err-Failed.field-0-is, c.in-Err-Failed.error-is) in
    let goes = goes-failed (address_of_text c.in-Some.uri.now) n m (g.S.Spawner.loops c.args.runtime.now) (g.S.Spawner.loops c.converse.new.runtime) before now c.in-Err-Failed.field-0 e why
    c.in-Err-Failed.ensures.goes in
    subst P c.in-Some.ensures
    (inl (goes.0, front-error e before now later c.tell_error-in-Err-Failed.result is goes.1 c.tell_error-in-Err-Failed.ensures.told))
