-- What a connection has begun to: an address, what was given as one, or one of several.
use Rattle.std.proofs.Common.{◌≡◌, ◌≤◌, inl, inr, ℕ, List, slice_get, Option, Some, Result, Ok, Err, IfOk, ap, sym, subst, ◌∙◌, arith}
use Rattle.std.specs.String.{string_bytes}
use Rattle.amqp_types.specs.Counts.{Rose}
use Rattle.amqp_promise.specs.declared.error.ErrorKind.{ErrorKind}
use Rattle.amqp_settings.specs.Config.{Options}
use Rattle.amqp_engine.specs.Engine.{Engine}
use Rattle.amqp_uri.specs.Address.{address_of_text}
use Rattle.amqp_uri.specs.declared.fault.UriFault.{UriFault}
use Rattle.amqp_uri.specs.declared.uri.AMQPUri.{AMQPUri}
use Rattle.lapin_connection.specs.declared.builder.Address.{Address}
use Rattle.lapin_connection.specs.declared.builder.Address.TheVariants as address
use Rattle.lapin_connection.specs.declared.connection.Connection.{Connection}
use Rattle.lapin_connection.specs.Handles.{engine_begun}
use Rattle.lapin_connection.specs.Connecting.{asking, Connects, HasBegun, HasBegunBy, HasBegunTo, HasReached}
use Rattle.lapin_connection.specs.Building.{ReadsAs, HasBegunAs}

-- a count that rose since a later number rose since an earlier one
rose_since : (old mid new : ℕ) → old ≤ mid → Rose mid new → Rose old new
rose_since old mid new le h = omega (arith, le, h)

module _ {A : Type 0} where
  -- connecting that is refused is refused so, where the spawner counted before too
  pub connects_since : (old mid new : ℕ) (r : Result A ErrorKind) → old ≤ mid → Connects mid new r → Connects old new r
  connects_since old mid new (Ok c) le h = tt
  connects_since old mid new (Err e) le (inl h) = inl h
  connects_since old mid new (Err e) le (inr h) = inr (h.0, rose_since old mid new le h.1)

-- the port that was asked for is to the address whose engine it is
pub has_begun_in : (asked : Option AMQPUri) (uri : AMQPUri) (o : Options) (r : Result Connection ErrorKind) → asked ≡ Some uri
    → IfOk r (λ c. engine_begun c ≡ asking uri o) → IfOk r (HasBegun asked uri o)
has_begun_in asked uri o (Ok c) is begun = (is, begun)
has_begun_in asked uri o (Err e) is begun = tt

-- so it is to the address that was known
pub has_begun_by : (asked : Option AMQPUri) (known : Result AMQPUri UriFault) (uri : AMQPUri) (o : Options) (r : Result Connection ErrorKind)
    → known ≡ Ok uri → IfOk r (HasBegun asked uri o) → IfOk r (HasBegunBy asked known o)
has_begun_by asked known uri o r is begun =
    subst (λ (k : Result AMQPUri UriFault). IfOk r (HasBegunBy asked k o)) (sym is) begun

-- and where the address was read of what a builder was given
pub has_begun_as : (asked : Option AMQPUri) (a : Address) (uri : AMQPUri) (o : Options) (r : Result Connection ErrorKind) → ReadsAs a (Ok uri)
    → IfOk r (HasBegun asked uri o) → IfOk r (HasBegunAs asked a o)
has_begun_as asked address.Unset uri o r read h = absurd cc
has_begun_as asked (address.Uri given) uri o r read h =
    let same : uri ≡ given = cc in subst (λ (u : AMQPUri). IfOk r (HasBegun asked u o)) same h
has_begun_as asked (address.Text text) uri o r read h =
    subst (λ (k : Result AMQPUri UriFault). IfOk r (HasBegunBy asked k o)) (sym read) h

-- the engine is to an address whatever the options are
begun-to : (asked : Option AMQPUri) (uri : AMQPUri) (o : Options) (c : Connection) → HasBegun asked uri o c → HasBegunTo asked uri c
begun-to asked uri o c h = (h.0, ap (λ (e : Engine). e.talk.config.uri) h.1)

pub has_begun_to : (asked : Option AMQPUri) (uri copy : AMQPUri) (o : Options) (r : Result Connection ErrorKind) → copy ≡ uri
    → IfOk r (HasBegun asked copy o) → IfOk r (HasBegunTo asked uri)
has_begun_to asked uri copy o (Ok c) same h = subst (λ (u : AMQPUri). HasBegunTo asked u c) same (begun-to asked copy o c h)
has_begun_to asked uri copy o (Err e) same h = tt

-- the address at this place is one of them
pub has_reached : (asked : Option AMQPUri) (uris : List AMQPUri) (n : ℕ) (uri : AMQPUri) (c : Connection)
    → slice_get uris n ≡ Some uri → HasBegunTo asked uri c → HasReached asked uris c
has_reached asked uris n uri c there begun = (n, uri, there, begun)
