-- What lies under the lock of a connection.
use Rattle.std.specs.Prelude.{ℕ, Bool, false, List, [], ◌∷◌, Option, Some, map}
use Rattle.amqp_rules.specs.Talk.{Talk}
use Rattle.amqp_hub.specs.declared.due.Owner.{Owner}
use Rattle.amqp_hub.specs.declared.due.Owner.TheVariants as owner
use Rattle.amqp_hub.specs.declared.marks.Found.{Found}
use Rattle.amqp_hub.specs.Marks.{kept_in}
use Rattle.amqp_hub.specs.Guarded.{Guarded}
use Rattle.amqp_hub.specs.Entering.{with_engine}
use Rattle.amqp_locked.specs.declared.locked.Locked.{Locked}
use Rattle.amqp_locked.specs.declared.late.Late.{Late}

-- the mark of a channel that was dropped, and may have something that waits to go out: whose it is, how many promises
-- had been made once the last thing was sent on it, and the moment of the turn that met it
pub record PutOff : Type 0 where
  pub owner : Owner
  pub sent : ℕ
  pub since : ℕ

-- what a loop knows from its last turn on: whether it was nudged since; the marks that are put off; how many promises
-- had been made when nothing waited to go out for the last time; and how long a mark is put off
pub record Watch : Type 0 where
  pub nudged : Bool
  pub late : List PutOff
  pub cleared : ℕ
  pub limit : ℕ

-- these together
abbrev pub watch : Bool → List PutOff → ℕ → ℕ → Watch
watch nudged late cleared limit = record { nudged = nudged; late = late; cleared = cleared; limit = limit }

-- the hub; at each place, whose handle it is, where it is one's; whose marks were found and are not done with; what
-- nobody will take; and what the loop knows from its last turn on
pub record UnderLock : Type 0 where
  pub hub : Guarded
  pub places : List (Option Owner)
  pub found : List Owner
  pub unasked : List Owner
  pub watch : Watch

-- these together
abbrev pub under_lock : Guarded → List (Option Owner) → List Owner → List Owner → Watch → UnderLock
under_lock h places found unasked w =
    record { hub = h; places = places; found = found; unasked = unasked; watch = w }

-- the hub is changed
abbrev pub with_hub : Guarded → UnderLock → UnderLock
with_hub h l = under_lock h l.places l.found l.unasked l.watch

-- what the loop knows is changed
abbrev pub with_watch : Watch → UnderLock → UnderLock
with_watch w l = under_lock l.hub l.places l.found l.unasked w

-- the loop was nudged since its last turn, or was not
abbrev pub with_nudge : Bool → UnderLock → UnderLock
with_nudge nudged l = with_watch (watch nudged l.watch.late l.watch.cleared l.watch.limit) l

-- these marks are put off
abbrev pub with_late : List PutOff → UnderLock → UnderLock
with_late late l = with_watch (watch l.watch.nudged late l.watch.cleared l.watch.limit) l

-- so many promises had been made when nothing waited to go out for the last time
abbrev pub with_cleared : ℕ → UnderLock → UnderLock
with_cleared cleared l = with_watch (watch l.watch.nudged l.watch.late cleared l.watch.limit) l

-- a mark is put off for so long
abbrev pub with_limit : ℕ → UnderLock → UnderLock
with_limit limit l = with_watch (watch l.watch.nudged l.watch.late l.watch.cleared limit) l

-- the session is changed, as by what is taken from it
abbrev pub with_session : Talk → UnderLock → UnderLock
with_session t l = with_hub (with_engine (record l.hub.engine { talk = t }) l.hub) l

-- a mark that is put off, by its parts
abbrev pub put_off : Late → PutOff
put_off m = record { owner = m.found.owner; sent = m.found.mark.sent; since = m.since }

-- what the loop of a lock knows, by its parts
abbrev pub watched : Locked → Watch
watched l = watch l.nudged (map put_off l.late.items) l.cleared l.limit

-- what lies under a lock, by its parts
abbrev pub contents : Locked → UnderLock
contents l =
    under_lock l.hub (map kept_in l.places.slots.items) (map (λ (f : Found). f.owner) l.found.items) l.unasked.items
    (watched l)

-- a hub with one handle, the connection, whose loop was not nudged; marks are put off for a minute
abbrev pub newly_locked : Guarded → UnderLock
newly_locked h = under_lock h (Some owner.Connection ∷ []) [] [] (watch false [] 0 60000)
