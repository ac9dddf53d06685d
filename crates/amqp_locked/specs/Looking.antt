-- How the marks of dropped handles are found, and what is then done about each.
use Rattle.std.specs.Prelude.{ℕ, zero, suc, ◌-◌, ◌||◌, not, nat_lt, if◌then◌else◌, Bool, true, false, List, [], ◌∷◌, ◌++◌, length, Option, Some, None, set, slice_get, take, drop}
use Rattle.std.specs.List.{remove}
use Rattle.amqp_promise.specs.declared.state.ConnectionState.{ConnectionState}
use Rattle.amqp_promise.specs.declared.state.ConnectionState.TheVariants.{Connected}
use Rattle.amqp_rules.specs.Talk.{Talk}
use Rattle.amqp_hub.specs.declared.due.Owner.{Owner}
use Rattle.amqp_hub.specs.declared.due.Owner.TheVariants as owner
use Rattle.amqp_hub.specs.declared.marks.Mark.{Mark}
use Rattle.amqp_hub.specs.Guarded.{Guarded}
use Rattle.amqp_hub.specs.Due.{due_of}
use Rattle.amqp_hub.specs.Owning.{owned, is_later}
use Rattle.amqp_locked.specs.UnderLock.{UnderLock, under_lock, PutOff, with_late}

-- ---- meeting marks

-- where a mark goes that a turn of this moment met: that of an answer nowhere where it is spent, else to what nobody
-- will take; that of a channel to those that are put off; that of the connection to those that are not done with
abbrev pub sorted : ℕ → Bool → ℕ → Owner → UnderLock → UnderLock
sorted at true sent (owner.Answer n) l = l
sorted at false sent (owner.Answer n) l = under_lock l.hub l.places l.found (l.unasked ++ owner.Answer n ∷ []) l.watch
sorted at spent sent owner.Connection l = under_lock l.hub l.places (l.found ++ owner.Connection ∷ []) l.unasked l.watch
sorted at spent sent (owner.Channel n) l =
    with_late (l.watch.late ++ record { owner = owner.Channel n; sent = sent; since = at } ∷ []) l

-- the place is free
abbrev pub freed : ℕ → UnderLock → UnderLock
freed i l = under_lock l.hub (set l.places i None) l.found l.unasked l.watch

-- the mark at a place was met there, where it is a handle's
abbrev pub found_at : ℕ → ℕ → Mark → Option (Option Owner) → UnderLock → UnderLock
found_at at i m (Some (Some o)) l = sorted at m.spent m.sent o (freed i l)
found_at at i m place l = l

-- these marks were met at these places, one after the other
abbrev pub finds : ℕ → List (ℕ × Mark) → UnderLock → UnderLock
finds at [] l = l
finds at (x ∷ xs) l = finds at xs (found_at at x.0 x.1 (slice_get l.places x.0) l)

-- ---- finding those that were put off

-- nothing waits to go out of what was sent once so many promises had been made: the session is not open, or since then
-- there was a moment at which nothing waited
abbrev pub has_gone_out : ConnectionState → ℕ → ℕ → Bool
has_gone_out Connected cleared made = not (nat_lt cleared made)
has_gone_out _ cleared made = true

-- nothing waits to go out of what was sent on the channel of this mark
abbrev pub is_clear : ConnectionState → ℕ → PutOff → Bool
is_clear state cleared m = has_gone_out state cleared m.sent

-- then the mark is found; or once it was put off for as long as the limit is
abbrev pub may_be_found : ℕ → ConnectionState → ℕ → ℕ → PutOff → Bool
may_be_found at state cleared limit m = is_clear state cleared m || not (nat_lt (at - m.since) limit)

-- the first of those that are put off is found where it may be; else it goes last among them
abbrev pub released_first : ℕ → List PutOff → UnderLock → UnderLock
released_first at [] l = l
released_first at (m ∷ ms) l =
    if may_be_found at l.hub.engine.talk.state l.watch.cleared l.watch.limit m
    then under_lock l.hub l.places (l.found ++ m.owner ∷ []) l.unasked (with_late ms l).watch
    else with_late (ms ++ m ∷ []) l

-- so many of them, one after the other
abbrev pub released_times : ℕ → ℕ → UnderLock → UnderLock
released_times zero at l = l
released_times (suc n) at l =
    released_first at (released_times n at l).watch.late (released_times n at l)

-- all of them
abbrev pub released : ℕ → UnderLock → UnderLock
released at l = released_times (length l.watch.late) at l

-- ---- whether something is due

-- one of these is no longer to be looked at again
abbrev pub any_due : Talk → List Owner → Bool
any_due t [] = false
any_due t (o ∷ os) = not (is_later (due_of t o)) || any_due t os

-- ---- doing what is due

-- what is due about each of these is done, the last first
abbrev pub acted : List Owner → Guarded → Guarded
acted [] h = h
acted (o ∷ os) h = owned o (acted os h)

-- one of them is to be looked at again, after those that follow it
abbrev pub stays : Owner → List Owner → Guarded → Bool
stays o os h = is_later (due_of (acted os h).engine.talk o)

-- those that are to be looked at again
abbrev pub staying : List Owner → Guarded → List Owner
staying [] h = []
staying (o ∷ os) h = if stays o os h then o ∷ staying os h else staying os h

-- those that are done with, in the order in which they were
abbrev pub leaving : List Owner → Guarded → List Owner
leaving [] h = []
leaving (o ∷ os) h = if stays o os h then leaving os h else leaving os h ++ o ∷ []

-- what is due about one of the marks is done; it stays where it is to be looked at again
abbrev pub acted_on : ℕ → Option Owner → UnderLock → UnderLock
acted_on n (Some o) l =
    let h : Guarded = owned o l.hub in
    if is_later (due_of l.hub.engine.talk o) then under_lock h l.places l.found l.unasked l.watch
    else under_lock h l.places (remove l.found n) (l.unasked ++ o ∷ []) l.watch
acted_on n None l = l

-- the same of the one at a place
abbrev pub acted_at : ℕ → UnderLock → UnderLock
acted_at n l = acted_on n (slice_get l.found n) l

-- what is due about the marks from one on is done; those that are done with are among what nobody will take
abbrev pub looked_from : ℕ → UnderLock → UnderLock
looked_from n l =
    let rest : List Owner = drop n l.found in
    under_lock (acted rest l.hub) l.places (take n l.found ++ staying rest l.hub) (l.unasked ++ leaving rest l.hub)
    l.watch
