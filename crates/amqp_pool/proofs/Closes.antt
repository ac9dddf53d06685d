-- What closing the idle channels of a pool, the last first, leaves of it.
use Rattle.std.proofs.Common.{◌≡◌, ◌∙◌, ◌+◌, ◌≤◌, ◌<◌, ap, sym, refl, subst, ℕ, zero, suc, List, [], ◌∷◌, length, take, drop, get_or, arith}
use Rattle.std.proofs.lemmas.List.{drop_more}
use Rattle.amqp_commands.specs.declared.command.ChanRef.{ChanRef}
use Rattle.amqp_commands.specs.declared.command.Cmd.TheVariants.{DropChannel}
use Rattle.amqp_hub.specs.Guarded.{Guarded}
use Rattle.amqp_hub.specs.Entering.{called}
use Rattle.amqp_rules.specs.Talk.{Talk}
use Rattle.amqp_pool.specs.Pooled.{Pooled, pooled, opened_by, AreNamed, opening_promises, times, IsPool, HavePlaces, AreMade}
use Rattle.amqp_pool.specs.Closing.{closed}
use Rattle.amqp_pool.proofs.Counts.{times-cons, above-part}
use Rattle.amqp_pool.proofs.Channels.{numbers}
use Rattle.amqp_pool.proofs.Keeping.{times-all, count-all, kept-part}

-- ---- the first of some channels

pub numbers-take : (n k : ℕ) (rs : List ChanRef) → times n (numbers (take k rs)) ≤ times n (numbers rs)
numbers-take n zero rs = omega arith
numbers-take n (suc k) [] = omega arith
numbers-take n (suc k) (r ∷ rs) =
    omega (arith, numbers-take n k rs, times-cons n (opened_by r) (numbers (take k rs)), times-cons n (opened_by r) (numbers rs))

pub fewer-take : (k : ℕ) (rs : List ChanRef) → length (take k rs) ≤ length rs
fewer-take zero rs = omega arith
fewer-take (suc k) [] = omega arith
fewer-take (suc k) (r ∷ rs) = omega (arith, fewer-take k rs)

pub named-take : (k : ℕ) (rs : List ChanRef) → AreNamed rs → AreNamed (take k rs)
named-take zero rs named = tt
named-take (suc k) [] named = tt
named-take (suc k) (r ∷ rs) named = (named.0, named-take k rs named.1)

-- ---- the pool

-- of the idle channels the first stay
abbrev pub front : ℕ → Pooled → Pooled
front k p = record p { idle = take k p.idle }

pub front-part : (k : ℕ) (p : Pooled) (n : ℕ) → times n (opening_promises (front k p)) ≤ times n (opening_promises p)
front-part k p n = omega (arith, times-all n p, times-all n (front k p), numbers-take n k p.idle)

pub front-count : (k : ℕ) (p : Pooled) → length (opening_promises (front k p)) ≤ length (opening_promises p)
front-count k p = omega (arith, count-all p, count-all (front k p), fewer-take k p.idle)

pub kept-front : (k : ℕ) (p : Pooled) → IsPool p → IsPool (front k p)
kept-front k p kept = kept-part p (front k p) refl (named-take k p.idle kept.named.0, kept.named.1) (front-part k p) (front-count k p) kept

pub made-front : (k : ℕ) (t t' : Talk) (p : Pooled) → t.made ≤ t'.made → AreMade p t → AreMade (front k p) t'
made-front k t t' p grown made =
    omega (arith, grown, made, above-part (opening_promises (front k p)) (opening_promises p) (front-part k p))

-- and so of its lists
module _ (k limit : ℕ) (idle leased : List ChanRef) (opening : List ℕ) (idle' : List ChanRef) (is : idle' ≡ take k idle) where
  pub same-front : pooled limit idle' leased opening ≡ front k (pooled limit idle leased opening)
  same-front i = pooled limit (is i) leased opening

  pub kept-lists : (idle_places leased_places i : ℕ) → IsPool (pooled limit idle leased opening)
      → HavePlaces (pooled limit idle leased opening) idle_places leased_places → i ≡ idle_places
      → IsPool (pooled limit idle' leased opening) × HavePlaces (pooled limit idle' leased opening) i leased_places
  kept-lists idle_places leased_places i kept places same =
      let fewer : length (opening_promises (front k (pooled limit idle leased opening))) ≤ length (opening_promises (pooled limit idle leased opening)) =
      front-count k (pooled limit idle leased opening) in (
        subst IsPool (sym same-front) (kept-front k (pooled limit idle leased opening) kept),
        subst (λ (x : Pooled). HavePlaces x i leased_places) (sym same-front) (omega (arith, fewer, places.0, same), omega (arith, fewer, places.1)),
      )

  pub made-lists : (t t' : Talk) → t.made ≤ t'.made → AreMade (pooled limit idle leased opening) t → AreMade (pooled limit idle' leased opening) t'
  made-lists t t' grown made =
      subst (λ (x : Pooled). AreMade x t') (sym same-front) (made-front k t t' (pooled limit idle leased opening) grown made)

-- ---- the hub

-- one channel more is closed, before those that were
pub closed-more : (pass made i j : ℕ) (xs : List ChanRef) (r : ChanRef) (h before after : Guarded) → j ≡ i + 1 → i < length xs
    → r ≡ get_or xs i r → before ≡ closed pass made (drop j xs) h
    → after ≡ called pass (made + length (drop j xs) + 1) (DropChannel r) before → after ≡ closed pass made (drop i xs) h
closed-more pass made i j xs r h before after next lt read is told =
    let rest : drop j xs ≡ drop (i + 1) xs = ap (λ k. drop k xs) next in
    told ∙ ap (λ (b : Guarded). called pass (made + length (drop j xs) + 1) (DropChannel r) b) is
    ∙ ap (λ (l : List ChanRef). called pass (made + length l + 1) (DropChannel r) (closed pass made l h)) rest
    ∙ ap (λ (s : ChanRef). called pass (made + length (drop (i + 1) xs) + 1) (DropChannel s) (closed pass made (drop (i + 1) xs) h)) read
    ∙ ap (λ (l : List ChanRef). closed pass made l h) (sym (drop_more xs i r lt))

pub count-more : (made i j n m : ℕ) (xs : List ChanRef) (r : ChanRef) → j ≡ i + 1 → i < length xs → n ≡ made + length (drop j xs) → m ≡ n + 1
    → m ≡ made + length (drop i xs)
count-more made i j n m xs r next lt is one =
    omega (arith, is, one, ap (λ k. length (drop k xs)) next, ap length (drop_more xs i r lt))
