-- What a pool holds, and what is kept of it.
use Rattle.std.specs.Prelude.{◌≤◌, ◌==◌, ◌&&◌, ◌++◌, ℕ, suc, max, Bool, IsTrue, List, [], ◌∷◌, length, map, count_by, Option, is_some, unwrap_or, nat_eq}
use Rattle.std.specs.List.{AllByRecursion}
use Rattle.std.specs.Option.{option_eq}
use Rattle.amqp_commands.specs.declared.command.ChanRef.{ChanRef}
use Rattle.amqp_rules.specs.Talk.{Talk}

-- a pool: how many channels it has at most, those that are idle, those that are leased, and the promises of those that
-- are opening
pub record Pooled : Type 0 where
  pub limit : ℕ
  pub idle : List ChanRef
  pub leased : List ChanRef
  pub opening : List ℕ

-- these together
abbrev pub pooled : ℕ → List ChanRef → List ChanRef → List ℕ → Pooled
pooled limit idle leased opening = record { limit = limit; idle = idle; leased = leased; opening = opening }

-- a pool without a channel
abbrev pub empty_pool : ℕ → Pooled
empty_pool limit = pooled limit [] [] []

-- ---- channels, and what opened them

-- two names are of one channel: number and promise are the same
abbrev pub is_same_channel : ChanRef → ChanRef → Bool
is_same_channel r s = (r.id == s.id) && option_eq nat_eq r.opened s.opened

-- the promise that opened a channel; each channel of a pool names it
abbrev pub opened_by : ChanRef → ℕ
opened_by r = unwrap_or r.opened 0

-- each of these channels names the promise that opened it
abbrev pub AreNamed : List ChanRef → Type 0
AreNamed rs = AllByRecursion (λ (r : ChanRef). IsTrue (is_some r.opened)) rs

-- the opening promises of a pool: of its channels, idle and leased, and of those that are opening
abbrev pub opening_promises : Pooled → List ℕ
opening_promises p = map opened_by p.idle ++ (map opened_by p.leased ++ p.opening)

-- how often a promise stands among some
abbrev pub times : ℕ → List ℕ → ℕ
times n ns = count_by (nat_eq n) ns

-- no promise stands there twice
abbrev pub AreDifferent : List ℕ → Type 0
AreDifferent ns = (n : ℕ) → times n ns ≤ 1

-- ---- what is kept

-- what is kept of a pool
pub record IsPool (p : Pooled) : Type 0 where
  -- each channel names the promise that opened it
  pub named : AreNamed p.idle × AreNamed p.leased
  -- all have different opening promises
  pub different : AreDifferent (opening_promises p)
  -- there are no more of them than the limit
  pub few : length (opening_promises p) ≤ p.limit

-- idle and leased have places for all channels of the pool, so that a move between the lists takes no memory
abbrev pub HavePlaces : Pooled → ℕ → ℕ → Type 0
HavePlaces p idle_places leased_places =
    (length (opening_promises p) ≤ idle_places) × (length (opening_promises p) ≤ leased_places)

-- the least number above all of some
abbrev pub above : List ℕ → ℕ
above [] = 0
above (n ∷ ns) = max (suc n) (above ns)

-- each opening promise of the pool was made: all are below the session's next
abbrev pub AreMade : Pooled → Talk → Type 0
AreMade p t = above (opening_promises p) ≤ t.made
