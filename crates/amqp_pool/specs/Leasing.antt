-- What a lease, and what is given back, comes to.
use Rattle.std.specs.Prelude.{◌≡◌, ◌⊎◌, ◌+◌, ◌++◌, ℕ, nat_lt, Bool, IsTrue, IsFalse, List, [], ◌∷◌, length, find, Option, Some, None, is_some}
use Rattle.amqp_outbox.specs.Lists.{without_first}
use Rattle.amqp_promise.specs.declared.error.ErrorKind.{ErrorKind}
use Rattle.amqp_promise.specs.declared.error.ErrorKind.TheVariants.{NoMemory}
use Rattle.amqp_commands.specs.declared.command.ChanRef.{ChanRef}
use Rattle.amqp_commands.specs.declared.command.Cmd.TheVariants.{OpenChannel}
use Rattle.amqp_rules.specs.Talk.{Talk}
use Rattle.amqp_rules.specs.Changes.{next_promise}
use Rattle.amqp_hub.specs.declared.hub.Pass.{Pass}
use Rattle.amqp_hub.specs.Passes.{foreign}
use Rattle.amqp_hub.specs.Guarded.{Guarded}
use Rattle.amqp_hub.specs.Entering.{called}
use Rattle.amqp_pool.specs.declared.lease.Leased.{Leased}
use Rattle.amqp_pool.specs.declared.lease.Leased.TheVariants.{Now, Opening, Full}
use Rattle.amqp_pool.specs.declared.lease.Back.{Back}
use Rattle.amqp_pool.specs.declared.lease.Back.TheVariants.{Kept, Lost, Foreign}
use Rattle.amqp_pool.specs.Lost.{is_lost, is_ready, without_lost}
use Rattle.amqp_pool.specs.Pooled.{Pooled, is_same_channel}

-- ---- a lease

-- the first idle channel that is ready, among those that are not lost
abbrev pub first_ready : Talk → Pooled → Option ChanRef
first_ready t p = find (is_ready t) (without_lost t p.idle)

-- the three lists together, without the lost channels that are idle, are shorter than the limit
abbrev pub has_room : Talk → Pooled → Bool
has_room t p = nat_lt (length (without_lost t p.idle) + length p.leased + length p.opening) p.limit

-- a lease asks for one more channel: none that is idle is ready, and there is room
abbrev pub AsksForOne : Talk → Pooled → Type 0
AsksForOne t p = (first_ready t p ≡ None) × IsTrue (has_room t p)

-- which answer a lease has, with this pass: the first idle channel that is ready; else, where there is room and the
-- pass is of the hub, the promise of one that is opened; else that the pool is full
abbrev pub IsLeased : Guarded → Pass → Pooled → Leased → Type 0
IsLeased h pass p (Now r) = first_ready h.engine.talk p ≡ Some r
IsLeased h pass p (Opening n) =
    AsksForOne h.engine.talk p × (foreign pass h.counts ≡ None) × (n ≡ next_promise h.engine.talk)
IsLeased h pass p (Full limit) =
    (first_ready h.engine.talk p ≡ None) × IsFalse (has_room h.engine.talk p) × (limit ≡ p.limit)

-- why a lease is refused: it asks for one more channel, and the pass is not of the hub, or memory is wanting
abbrev pub IsLeaseRefused : Guarded → Pass → Pooled → ErrorKind → Type 0
IsLeaseRefused h pass p e = AsksForOne h.engine.talk p × ((foreign pass h.counts ≡ Some e) ⊎ (e ≡ NoMemory))

-- the pool once a lease was answered: the lost channels that were idle are gone, the one that is leased goes last among
-- the leased, and the promise of one that is opened last among the opening
abbrev pub after_lease : Talk → Leased → Pooled → Pooled
after_lease t (Now r) p =
    record p { idle = without_first (is_ready t) (without_lost t p.idle); leased = p.leased ++ r ∷ [] }
after_lease t (Opening n) p = record p { idle = without_lost t p.idle; opening = p.opening ++ n ∷ [] }
after_lease t (Full limit) p = record p { idle = without_lost t p.idle }

-- the hub then: it is told to open a channel, where one is opened
abbrev pub hub_after_lease : Leased → Pass → Guarded → Guarded
hub_after_lease (Opening n) pass h = called pass.number (pass.made + 1) OpenChannel h
hub_after_lease _ pass h = h

-- the pass then: one more command was made with it, where a channel is opened
abbrev pub made_after_lease : Leased → ℕ → ℕ
made_after_lease (Opening n) made = made + 1
made_after_lease _ made = made

-- ---- what is given back

-- a channel is one of those that are leased
abbrev pub is_leased : ChanRef → Pooled → Bool
is_leased r p = is_some (find (is_same_channel r) p.leased)

-- what a channel comes to that is given back: it is handed back where it is not leased here, and else lost or kept
abbrev pub IsBack : Talk → ChanRef → Pooled → Back → Type 0
IsBack t r p (Foreign s) = IsFalse (is_leased r p) × (s ≡ r)
IsBack t r p Lost = IsTrue (is_leased r p) × IsTrue (is_lost t r)
IsBack t r p Kept = IsTrue (is_leased r p) × IsFalse (is_lost t r)

-- the pool then: a channel that is leased here leaves those, and goes last among the idle where it is kept
abbrev pub after_back : Back → ChanRef → Pooled → Pooled
after_back (Foreign s) r p = p
after_back Lost r p = record p { leased = without_first (is_same_channel r) p.leased }
after_back Kept r p =
    record p { idle = p.idle ++ r ∷ []; leased = without_first (is_same_channel r) p.leased }
