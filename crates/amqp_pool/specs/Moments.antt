-- Calls of a pool and of its hub, one after another.
use Rattle.std.specs.Prelude.{◌≡◌, ◌≤◌, ◌<◌, ℕ, List, [], ◌∷◌, filter, Result, Ok, Err, ⊤}
use Rattle.amqp_promise.specs.declared.error.ErrorKind.{ErrorKind}
use Rattle.amqp_commands.specs.declared.command.ChanRef.{ChanRef}
use Rattle.amqp_rules.specs.Talk.{Talk}
use Rattle.amqp_hub.specs.declared.hub.Pass.{Pass}
use Rattle.amqp_hub.specs.Guarded.{Guarded}
use Rattle.amqp_pool.specs.declared.lease.Leased.{Leased}
use Rattle.amqp_pool.specs.declared.lease.Leased.TheVariants.{Now}
use Rattle.amqp_pool.specs.declared.lease.Back.{Back}
use Rattle.amqp_pool.specs.declared.lease.Back.TheVariants.{Lost}
use Rattle.amqp_pool.specs.Lost.{is_lost}
use Rattle.amqp_pool.specs.Pooled.{Pooled}
use Rattle.amqp_pool.specs.Leasing.{IsLeased, after_lease, hub_after_lease, IsBack, after_back}
use Rattle.amqp_pool.specs.Collecting.{collected}

-- a call: of a pool, with what it answered, or any of the hub
pub data PoolCall : Type 0 where
  Lease : Pass → Result Leased ErrorKind → PoolCall
  Collect : PoolCall
  GiveBack : ChanRef → Back → PoolCall
  OfHub : PoolCall

-- a call makes this of a pool and its hub; a call of the hub does not touch the pool, and its promises never become
-- fewer
abbrev pub Makes : PoolCall → Pooled → Guarded → Pooled → Guarded → Type 0
Makes (Lease pass (Ok l)) p h p' h' =
    IsLeased h pass p l × (p' ≡ after_lease h.engine.talk l p) × (h' ≡ hub_after_lease l pass h)
Makes (Lease pass (Err e)) p h p' h' = (p' ≡ p) × (h' ≡ h)
Makes Collect p h p' h' = (p' ≡ collected h.engine.talk p) × (h.engine.talk.made ≤ h'.engine.talk.made)
Makes (GiveBack r back) p h p' h' = IsBack h.engine.talk r p back × (p' ≡ after_back back r p) × (h' ≡ h)
Makes OfHub p h p' h' = (p' ≡ p) × (h.engine.talk.made ≤ h'.engine.talk.made)

-- a call, with the pool and the hub before it and after it
pub record Moment : Type 0 where
  pub call : PoolCall
  pub pool : Pooled
  pub hub : Guarded
  pub next_pool : Pooled
  pub next_hub : Guarded

-- these are calls with one hub, one after another, from this pool and hub on
abbrev pub FollowEachOther : Pooled → Guarded → List Moment → Type 0
FollowEachOther p h [] = ⊤
FollowEachOther p h (m ∷ ms) =
    (m.pool ≡ p) × (m.hub ≡ h) × Makes m.call m.pool m.hub m.next_pool m.next_hub
    × FollowEachOther m.next_pool m.next_hub ms

-- the channels that a call hands out
abbrev pub handed_out_by : PoolCall → List ChanRef
handed_out_by (Lease pass (Ok (Now r))) = r ∷ []
handed_out_by _ = []

-- the channels that a call finds lost, by what the session says: those that a lease drops, and one that is given back
-- lost
abbrev pub found_lost : PoolCall → Talk → Pooled → List ChanRef
found_lost (Lease pass (Ok l)) t p = filter (is_lost t) p.idle
found_lost (GiveBack r Lost) t p = r ∷ []
found_lost _ t p = []
