-- The two ends of a promise. No two new sources are known to have one name, so an equation of the names of their
-- sources says that two ends are those of one cell.
use Rattle.std.specs.Prelude.{ℕ, List}
use Rattle.std.specs.Arc.{arc_value}
use Rattle.amqp_promise.specs.declared.promise.Promise.{Promise}
use Rattle.amqp_promise.specs.declared.promise.PromiseResolver.{PromiseResolver}

module _ {T : Type 0} where
  -- the name of the source at which a task waits for a promise
  abbrev pub promise_source : Promise T → ℕ
  promise_source promise = (arc_value promise.shared).source.id

  -- the name of the source at which a task waits for what a resolver completes
  abbrev pub resolver_source : PromiseResolver T → ℕ
  resolver_source resolver = (arc_value resolver.shared).source.id

  -- what a promise was made for, as octets
  abbrev pub promise_marker : Promise T → List ℕ
  promise_marker promise = (arc_value promise.shared).marker.now

  -- what the promise of a resolver was made for, as octets
  abbrev pub resolver_marker : PromiseResolver T → List ℕ
  resolver_marker resolver = (arc_value resolver.shared).marker.now
