-- Places for wakers.
use Rattle.std.proofs.Common.{◌≡◌, inl, inr, ap, List, [], ◌∷◌, ◌++◌, map, Option, Some, None}
use Rattle.std.proofs.lemmas.List.{map-append}
use Rattle.futures.specs.Slot.{IsLeftIn}
use Rattle.futures.specs.declared.task.context.Context.{Context}
use Rattle.futures.specs.declared.task.waker.Waker.{Waker}
use Rattle.amqp_promise.specs.Places.{Place, place_of, IsLeftAt, HasOneMore}

-- what `register` leaves in a slot is the waker that the place holds
left_at : (old new : Context) (slot : Option Waker) → IsLeftIn old new slot → IsLeftAt old new (place_of slot)
left_at old new slot (inl lacks) = inl lacks
left_at old new None (inr none) = absurd none
left_at old new (Some waker) (inr wakes) =
    let task = wakes.0 in
    let executor = ap (λ origin. origin.executor) wakes.1 in
    let queue = ap (λ origin. origin.queue) wakes.1 in
    inr cc

-- a slot that is pushed is one place more
pub one_more : (old new : Context) (slot : Option Waker) (slots pushed : List (Option Waker)) (before : List Place)
    → pushed ≡ slots ++ slot ∷ [] → map place_of slots ≡ before → IsLeftIn old new slot
    → HasOneMore old new before (map place_of pushed)
one_more old new slot slots pushed before push view left =
    (place_of slot, rw (push, ← view) (map-append place_of slots (slot ∷ [])), left_at old new slot left)
