-- Lists of channels: which stay, and what that makes of their promises.
use Rattle.std.proofs.Common.{◌≡◌, ◌≢◌, ◌∙◌, ◌+◌, ◌≤◌, ◌<◌, ap, sym, refl, subst, ℕ, suc, Bool, true, false, cond, not, ◌&&◌, true≢false, List, [], ◌∷◌, ◌++◌, length, map, Option, Some, None, inl, inr, arith, length-append}
use Rattle.std.specs.Prelude.{filter, find, nat_eq, ◌==◌, IsTrue, is_some, if◌then◌else◌, Contains, slice_index_or}
use Rattle.std.specs.List.{AllByRecursion}
use Rattle.std.specs.Option.{option_eq}
use Rattle.std.proofs.lemmas.Bool.{cases_eq, eq-eqb, ne_eqb, eqb-true}
use Rattle.amqp_types.proofs.Small.{and-left, and-right}
use Rattle.amqp_outbox.specs.Lists.{without_first}
use Rattle.amqp_commands.specs.declared.command.ChanRef.{ChanRef}
use Rattle.amqp_rules.specs.Talk.{Talk}
use Rattle.amqp_pool.specs.Lost.{is_lost, is_ready, is_lost_state, is_ready_state, without_lost}
use Rattle.amqp_promise.specs.declared.state.ChannelState.{ChannelState}
use Rattle.amqp_promise.specs.declared.state.ChannelState.TheVariants as channel
use Rattle.amqp_rules.specs.Queries.{channel_state}
use Rattle.amqp_pool.specs.Pooled.{times, opened_by, is_same_channel, AreNamed}
use Rattle.amqp_pool.specs.Looking.{is_taken, stays_idle}
use Rattle.amqp_pool.proofs.Counts.{one, times-cons, times-append, one-same, one-other}

-- the promises that opened some channels
abbrev pub numbers : List ChanRef → List ℕ
numbers rs = map opened_by rs

-- ---- one channel by its name

option-same : (a b : Option ℕ) → option_eq nat_eq a b ≡ true → a ≡ b
option-same None None h = refl
option-same None (Some y) h = absurd cc
option-same (Some x) None h = absurd cc
option-same (Some x) (Some y) h = ap Some (eqb-true x y h)

option-itself : (a : Option ℕ) → option_eq nat_eq a a ≡ true
option-itself None = refl
option-itself (Some x) = eq-eqb x x refl

pub same-is : (r s : ChanRef) → is_same_channel r s ≡ true → r ≡ s
same-is r s h =
    let ids : r.id ≡ s.id = eqb-true r.id s.id (and-left (r.id == s.id) (option_eq nat_eq r.opened s.opened) h) in
    let opened : r.opened ≡ s.opened = option-same r.opened s.opened (and-right (r.id == s.id) (option_eq nat_eq r.opened s.opened) h) in
    λ i. record { id = ids i; opened = opened i }

pub same-itself : (r : ChanRef) → is_same_channel r r ≡ true
same-itself r = ap (λ b. b && option_eq nat_eq r.opened r.opened) (eq-eqb r.id r.id refl) ∙ option-itself r.opened

-- ---- those that pass a test

module _ (p : ChanRef → Bool) where
  pub numbers-filter : (n : ℕ) (rs : List ChanRef) → times n (numbers (filter p rs)) ≤ times n (numbers rs)
  numbers-filter n [] = omega arith
  numbers-filter n (r ∷ rs) = by (p r) (numbers-filter n rs) where
    by : (b : Bool) → times n (numbers (filter p rs)) ≤ times n (numbers rs)
        → times n (numbers (cond b (r ∷ filter p rs) (filter p rs))) ≤ times n (numbers (r ∷ rs))
    by true less = omega (arith, less, times-cons n (opened_by r) (numbers (filter p rs)), times-cons n (opened_by r) (numbers rs))
    by false less = omega (arith, less, times-cons n (opened_by r) (numbers rs))

  -- those that pass, and those that do not, are all
  pub numbers-both : (n : ℕ) (rs : List ChanRef) → times n (numbers (filter p rs)) + times n (numbers (filter (λ r. not (p r)) rs)) ≡ times n (numbers rs)
  numbers-both n [] = omega arith
  numbers-both n (r ∷ rs) = by (p r) (numbers-both n rs) where
    by : (b : Bool) → times n (numbers (filter p rs)) + times n (numbers (filter (λ r. not (p r)) rs)) ≡ times n (numbers rs)
        → times n (numbers (cond b (r ∷ filter p rs) (filter p rs)))
        + times n (numbers (cond (not b) (r ∷ filter (λ r. not (p r)) rs) (filter (λ r. not (p r)) rs))) ≡ times n (numbers (r ∷ rs))
    by true both = omega (arith, both, times-cons n (opened_by r) (numbers (filter p rs)), times-cons n (opened_by r) (numbers rs))
    by false both = omega (arith, both, times-cons n (opened_by r) (numbers (filter (λ r. not (p r)) rs)), times-cons n (opened_by r) (numbers rs))

  pub fewer-filter : (rs : List ChanRef) → length (filter p rs) ≤ length rs
  fewer-filter [] = omega arith
  fewer-filter (r ∷ rs) = by (p r) (fewer-filter rs) where
    by : (b : Bool) → length (filter p rs) ≤ length rs → length (cond b (r ∷ filter p rs) (filter p rs)) ≤ suc (length rs)
    by true less = omega (arith, less)
    by false less = omega (arith, less)

  pub named-filter : (rs : List ChanRef) → AreNamed rs → AreNamed (filter p rs)
  named-filter [] named = tt
  named-filter (r ∷ rs) named = by (p r) (named-filter rs named.1) where
    by : (b : Bool) → AreNamed (filter p rs) → AreNamed (cond b (r ∷ filter p rs) (filter p rs))
    by true rest = (named.0, rest)
    by false rest = rest

  -- the first that passes, and the others
  pub numbers-first : (n : ℕ) (r : ChanRef) (rs : List ChanRef) → find p rs ≡ Some r
      → times n (numbers rs) ≡ one n (opened_by r) + times n (numbers (without_first p rs))
  numbers-first n r [] h = absurd cc
  numbers-first n r (x ∷ xs) h = by (p x) h (numbers-first n r xs) where
    by : (b : Bool) → cond b (Some x) (find p xs) ≡ Some r
        → (find p xs ≡ Some r → times n (numbers xs) ≡ one n (opened_by r) + times n (numbers (without_first p xs)))
        → times n (numbers (x ∷ xs)) ≡ one n (opened_by r) + times n (numbers (if b then xs else x ∷ without_first p xs))
    by true is rest = let same : x ≡ r = cc in times-cons n (opened_by x) (numbers xs) ∙ ap (λ (s : ChanRef). one n (opened_by s) + times n (numbers xs)) same
    by false is rest = omega (arith, rest is, times-cons n (opened_by x) (numbers xs), times-cons n (opened_by x) (numbers (without_first p xs)))

  pub fewer-first : (r : ChanRef) (rs : List ChanRef) → find p rs ≡ Some r → length rs ≡ suc (length (without_first p rs))
  fewer-first r [] h = absurd cc
  fewer-first r (x ∷ xs) h = by (p x) h (fewer-first r xs) where
    by : (b : Bool) → cond b (Some x) (find p xs) ≡ Some r → (find p xs ≡ Some r → length xs ≡ suc (length (without_first p xs)))
        → suc (length xs) ≡ suc (length (if b then xs else x ∷ without_first p xs))
    by true is rest = refl
    by false is rest = let less : length xs ≡ suc (length (without_first p xs)) = rest is in omega (arith, less)

  pub named-others : (rs : List ChanRef) → AreNamed rs → AreNamed (without_first p rs)
  named-others [] named = tt
  named-others (r ∷ rs) named = by (p r) (named-others rs named.1) where
    by : (b : Bool) → AreNamed (without_first p rs) → AreNamed (if b then rs else r ∷ without_first p rs)
    by true rest = named.1
    by false rest = (named.0, rest)

  pub named-first : (r : ChanRef) (rs : List ChanRef) → find p rs ≡ Some r → AreNamed rs → IsTrue (is_some r.opened)
  named-first r [] h named = absurd cc
  named-first r (x ∷ xs) h named = by (p x) h (named-first r xs) where
    by : (b : Bool) → cond b (Some x) (find p xs) ≡ Some r → (find p xs ≡ Some r → AreNamed xs → IsTrue (is_some r.opened)) → IsTrue (is_some r.opened)
    by true is rest = let same : x ≡ r = cc in subst (λ (s : ChanRef). IsTrue (is_some s.opened)) same named.0
    by false is rest = rest is named.1

  pub first-passes : (r : ChanRef) (rs : List ChanRef) → find p rs ≡ Some r → p r ≡ true
  first-passes r [] h = absurd cc
  first-passes r (x ∷ xs) h = by (p x) refl h (first-passes r xs) where
    by : (b : Bool) → p x ≡ b → cond b (Some x) (find p xs) ≡ Some r → (find p xs ≡ Some r → p r ≡ true) → p r ≡ true
    by true passes is rest = let same : x ≡ r = cc in sym (ap p same) ∙ passes
    by false passes is rest = rest is

pub numbers-append : (n : ℕ) (rs ss : List ChanRef) → times n (numbers (rs ++ ss)) ≡ times n (numbers rs) + times n (numbers ss)
numbers-append n [] ss = omega arith
numbers-append n (r ∷ rs) ss =
    omega (arith, numbers-append n rs ss, times-cons n (opened_by r) (numbers rs), times-cons n (opened_by r) (numbers (rs ++ ss)))

pub numbers-push : (n : ℕ) (rs : List ChanRef) (r : ChanRef) → times n (numbers (rs ++ r ∷ [])) ≡ times n (numbers rs) + one n (opened_by r)
numbers-push n rs r = omega (arith, numbers-append n rs (r ∷ []), times-cons n (opened_by r) [])

pub named-append : (rs ss : List ChanRef) → AreNamed rs → AreNamed ss → AreNamed (rs ++ ss)
named-append [] ss named more = more
named-append (r ∷ rs) ss named more = (named.0, named-append rs ss named.1 more)

-- ---- the one that is taken

-- a channel whose promise is not among those of some is none of them
module _ (t : Talk) (r : ChanRef) where
  none-taken : (s : ChanRef) → opened_by r ≢ opened_by s → is_taken (Some r) s ≡ false
  none-taken s ne = by (is_same_channel r s) refl where
    by : (b : Bool) → is_same_channel r s ≡ b → b ≡ false
    by false is = refl
    by true is = absurd (ne (ap opened_by (same-is r s is)))

  pub stay-all : (rs : List ChanRef) → times (opened_by r) (numbers rs) ≡ 0 → filter (stays_idle t (Some r)) rs ≡ without_lost t rs
  stay-all [] h = refl
  stay-all (s ∷ rs) h =
      by (is_lost t s) (is_taken (Some r) s) (none-taken s other) (stay-all rs later)
    where
      counted : times (opened_by r) (numbers (s ∷ rs)) ≡ one (opened_by r) (opened_by s) + times (opened_by r) (numbers rs)
      counted = times-cons (opened_by r) (opened_by s) (numbers rs)

      other : opened_by r ≢ opened_by s
      other e = absurd (omega (arith, h, counted, one-same (opened_by r) (opened_by s) e))

      later : times (opened_by r) (numbers rs) ≡ 0
      later = omega (arith, h, counted)

      by : (lost taken : Bool) → taken ≡ false → filter (stays_idle t (Some r)) rs ≡ without_lost t rs
          → cond (not lost && not taken) (s ∷ filter (stays_idle t (Some r)) rs) (filter (stays_idle t (Some r)) rs) ≡ cond (not lost) (s ∷ without_lost t rs) (without_lost t rs)
      by true taken h rest = rest
      by false true h rest = absurd cc
      by false false h rest = ap (λ xs. s ∷ xs) rest

  -- where one channel is the first that is ready, and no other has its promise, those that stay without it are all but
  -- the first that is ready
  pub stay-others : (rs : List ChanRef) → times (opened_by r) (numbers rs) ≤ 1 → find (is_ready t) (without_lost t rs) ≡ Some r
      → filter (stays_idle t (Some r)) rs ≡ without_first (is_ready t) (without_lost t rs)
  stay-others [] few h = absurd cc
  stay-others (s ∷ rs) few h =
      by (is_lost t s) (is_ready t s) (is_taken (Some r) s) refl refl h (stay-others rs (omega (arith, few, counted)))
    where
      counted : times (opened_by r) (numbers (s ∷ rs)) ≡ one (opened_by r) (opened_by s) + times (opened_by r) (numbers rs)
      counted = times-cons (opened_by r) (opened_by s) (numbers rs)

      by : (lost ready taken : Bool) → is_ready t s ≡ ready → is_taken (Some r) s ≡ taken
          → find (is_ready t) (cond (not lost) (s ∷ without_lost t rs) (without_lost t rs)) ≡ Some r
          → (find (is_ready t) (without_lost t rs) ≡ Some r → filter (stays_idle t (Some r)) rs ≡ without_first (is_ready t) (without_lost t rs))
          → cond (not lost && not taken) (s ∷ filter (stays_idle t (Some r)) rs) (filter (stays_idle t (Some r)) rs)
          ≡ without_first (is_ready t) (cond (not lost) (s ∷ without_lost t rs) (without_lost t rs))
      by true ready taken hr ht is rest = rest is
      by false true taken hr ht is rest =
          let here : Some s ≡ Some r = sym (ap (λ b. cond b (Some s) (find (is_ready t) (without_lost t rs))) hr) ∙ is in
          let same : s ≡ r = cc in
          let gone : taken ≡ true = sym ht ∙ ap (λ (x : ChanRef). is_same_channel r x) same ∙ same-itself r in
          let none : times (opened_by r) (numbers rs) ≡ 0 = omega (arith, few, counted, one-same (opened_by r) (opened_by s) (ap opened_by (sym same))) in
          ap (λ b. cond (not b) (s ∷ filter (stays_idle t (Some r)) rs) (filter (stays_idle t (Some r)) rs)) gone
          ∙ stay-all rs none
          ∙ sym (ap (λ b. if b then without_lost t rs else s ∷ without_first (is_ready t) (without_lost t rs)) hr)
      by false false true hr ht is rest =
          let same : r ≡ s = same-is r s ht in
          let later : find (is_ready t) (without_lost t rs) ≡ Some r = sym (ap (λ b. cond b (Some s) (find (is_ready t) (without_lost t rs))) hr) ∙ is in
          absurd (true≢false (sym (first-passes (is_ready t) r (without_lost t rs) later) ∙ ap (is_ready t) same ∙ hr))
      by false false false hr ht is rest =
          let later : find (is_ready t) (without_lost t rs) ≡ Some r = sym (ap (λ b. cond b (Some s) (find (is_ready t) (without_lost t rs))) hr) ∙ is in
          ap (λ xs. s ∷ xs) (rest later)
          ∙ sym (ap (λ b. if b then without_lost t rs else s ∷ without_first (is_ready t) (without_lost t rs)) hr)
      -- where none is taken, those that are not lost stay

pub stay-none : (t : Talk) (rs : List ChanRef) → filter (stays_idle t None) rs ≡ without_lost t rs
stay-none t [] = refl
stay-none t (s ∷ rs) = by (is_lost t s) (stay-none t rs) where
  by : (lost : Bool) → filter (stays_idle t None) rs ≡ without_lost t rs
      → cond (not lost && true) (s ∷ filter (stays_idle t None) rs) (filter (stays_idle t None) rs) ≡ cond (not lost) (s ∷ without_lost t rs) (without_lost t rs)
  by true rest = rest
  by false rest = ap (λ xs. s ∷ xs) rest

-- ---- states

-- a channel that is ready is in state Connected
pub ready-state : (t : Talk) (r : ChanRef) → is_ready t r ≡ true → channel_state r t ≡ channel.Connected
ready-state t r h = by (channel_state r t) refl h where
  by : (s : ChannelState) → channel_state r t ≡ s → is_ready_state s ≡ true → s ≡ channel.Connected
  by channel.Connected is h = refl
  by channel.Initial is h = absurd cc
  by channel.Reconnecting is h = absurd cc
  by channel.Closing is h = absurd cc
  by channel.Closed is h = absurd cc
  by channel.Error is h = absurd cc

-- ---- looking, one channel after another

module _ (t : Talk) (r : ChanRef) (rs : List ChanRef) where
  pub see-ready : is_ready_state (channel_state r t) ≡ true → find (is_ready t) (without_lost t (r ∷ rs)) ≡ Some r
  see-ready h = by (channel_state r t) refl h where
    by : (s : ChannelState) → channel_state r t ≡ s → is_ready_state s ≡ true
        → find (is_ready t) (cond (not (is_lost_state s)) (r ∷ without_lost t rs) (without_lost t rs)) ≡ Some r
    by channel.Connected is k = ap (λ s. cond (is_ready_state s) (Some r) (find (is_ready t) (without_lost t rs))) is
    by channel.Initial is k = absurd cc
    by channel.Reconnecting is k = absurd cc
    by channel.Closing is k = absurd cc
    by channel.Closed is k = absurd cc
    by channel.Error is k = absurd cc

  -- one that is neither ready nor lost waits
  pub see-waiting : is_ready_state (channel_state r t) ≡ false → is_lost_state (channel_state r t) ≡ false
      → (find (is_ready t) (without_lost t (r ∷ rs)) ≡ find (is_ready t) (without_lost t rs))
      × (length (without_lost t (r ∷ rs)) ≡ suc (length (without_lost t rs)))
  see-waiting ready lost = (
    ap (λ b. find (is_ready t) (cond (not b) (r ∷ without_lost t rs) (without_lost t rs))) lost
        ∙ ap (λ b. cond b (Some r) (find (is_ready t) (without_lost t rs))) ready,
    ap (λ b. length (cond (not b) (r ∷ without_lost t rs) (without_lost t rs))) lost,
  )

  pub see-lost : is_lost_state (channel_state r t) ≡ true → without_lost t (r ∷ rs) ≡ without_lost t rs
  see-lost lost = ap (λ b. cond (not b) (r ∷ without_lost t rs) (without_lost t rs)) lost

-- a channel that goes last is found by its name
pub pushed-found : (r : ChanRef) (rs : List ChanRef) → is_some (find (is_same_channel r) (rs ++ r ∷ [])) ≡ true
pushed-found r [] = ap (λ b. is_some (cond b (Some r) None)) (same-itself r)
pushed-found r (s ∷ rs) = by (is_same_channel r s) (pushed-found r rs) where
  by : (b : Bool) → is_some (find (is_same_channel r) (rs ++ r ∷ [])) ≡ true → is_some (cond b (Some s) (find (is_same_channel r) (rs ++ r ∷ []))) ≡ true
  by true rest = refl
  by false rest = rest
