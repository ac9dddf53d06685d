-- Places for many frames are places for fewer.
use Rattle.std.proofs.Common.{ℕ, ◌≤◌, length, Option, Some, None, IfSome, arith}
use Rattle.amqp_outbox.specs.declared.outbox.Outbox.{Outbox}
use Rattle.amqp_outbox.specs.declared.scope.Scope.{Scope}
use Rattle.amqp_outbox.specs.declared.scope.Scope.TheVariants.{Unbegun, Control, All}
use Rattle.amqp_outbox.specs.Parts.{HasControlPlaces}
use Rattle.amqp_outbox.specs.Queued.{Queued, waiting_items, without_channel}
use Rattle.amqp_outbox.proofs.Waiting.{group-no-more, frame-no-more, any-no-more}
use Rattle.amqp_outgoing.specs.declared.outgoing.Outgoing.{Outgoing}
use Rattle.amqp_outgoing.specs.Outgoings.{HasFramePlaces}

some-fewer : {P Q : ℕ → Type 0} (o : Option ℕ) → ((k : ℕ) → P k → Q k) → IfSome o P → IfSome o Q
some-fewer None f p = tt
some-fewer (Some k) f p = f k p

-- where there are places, there are fewer
pub fewer-places : (key : Option ℕ) (n m octets octets' : ℕ) (o : Outbox) → m ≤ n → octets' ≤ octets
    → HasControlPlaces key n octets o → HasControlPlaces key m octets' o
fewer-places key n m octets octets' o fewer less places =
    let slots = places.0.0 in (
      (
        λ i below. slots i (omega (arith, below, fewer)),
        some-fewer key (λ k room. (room.0, room.1, omega (arith, room.2, fewer))) places.0.1,
        omega (arith, places.0.2, fewer),
      ),
      (omega (arith, places.1.0, fewer), omega (arith, places.1.1, less)),
    )

-- so among the committed frames too
pub fewer-frames : (key : Option ℕ) (n m octets octets' : ℕ) (o : Outgoing) → m ≤ n → octets' ≤ octets
    → HasFramePlaces key n octets o → HasFramePlaces key m octets' o
fewer-frames key n m octets octets' o fewer less places =
    (fewer-places key n m octets octets' o.outbox fewer less places.0, omega (arith, places.1, fewer))

-- no more frames wait once the things of a channel go
pub channel-no-more : (n : ℕ) (scope : Scope) (q : Queued) → length (waiting_items (without_channel n scope q)) ≤ length (waiting_items q)
channel-no-more n Unbegun q = (group-no-more n q).0
channel-no-more n Control q = (frame-no-more n q).0
channel-no-more n All q = (any-no-more n q).0
