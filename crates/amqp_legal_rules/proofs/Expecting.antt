-- The replies that are awaited on a channel, once one more is, once the first came, and once all go.
use Rattle.std.proofs.Common.{◌≡◌, ◌≢◌, ◌∙◌, ap, sym, refl, inl, inr, ℕ, Bool, true, false, if◌then◌else◌, List, [], ◌∷◌, ◌++◌, map, find, option_map, Option, Some, None, is_some, true≢false, arith}
use Rattle.std.proofs.lemmas.Bool.{cases_eq}
use Rattle.std.proofs.lemmas.List.{map-append}
use Rattle.std.proofs.lemmas.List.Elements.{filter-append}
use Rattle.std.specs.Map.{keys_of}
use Rattle.std.specs.Prelude.{filter, unwrap_or}
use Rattle.amqp_outbox.specs.declared.reply.Awaited.{Awaited}
use Rattle.amqp_outbox.specs.declared.reply.Reply.{Reply}
use Rattle.amqp_outbox.specs.declared.reply.Reply.TheVariants.{ChannelOpened, ChannelClosed, FlowDone, SecretDone, ConnectionClosed}
use Rattle.amqp_outbox.specs.Lists.{without_first}
use Rattle.amqp_outbox.specs.Replies.{method_of, is_of, awaited_on, left_on, expected, first_awaited, left_awaited}
use Rattle.amqp_outbox.specs.Queued.{Queued, awaited_promise}
use Rattle.amqp_maps.specs.Listed.{without}
use Rattle.amqp_rules.specs.Sound.{Ascend}
use Rattle.amqp_types.proofs.Small.{the-number, equal-numbers}
use Rattle.amqp_rules.proofs.Ascending.{put-ascends, without-ascends, at-gone}
use Rattle.amqp_maps.proofs.Numbered.{put-same, put-other, without-other}
use Rattle.amqp_legal_rules.proofs.Ties.{is_tied, tied_on}

-- the kinds of some awaited replies, of those that tie
abbrev kinds : List Awaited → List Reply
kinds list = filter is_tied (map (λ (x : Awaited). x.reply) list)

-- a reply that comes as one that ties does is one that ties
same-tied : (r s : Reply) → method_of r ≡ method_of s → is_tied s ≡ true → is_tied r ≡ true
same-tied ChannelOpened s h tied = refl
same-tied ChannelClosed s h tied = refl
same-tied FlowDone ChannelOpened h tied = absurd (omega (arith, h))
same-tied FlowDone ChannelClosed h tied = absurd (omega (arith, h))
same-tied SecretDone ChannelOpened h tied = absurd (omega (arith, h))
same-tied SecretDone ChannelClosed h tied = absurd (omega (arith, h))
same-tied ConnectionClosed ChannelOpened h tied = absurd (omega (arith, h))
same-tied ConnectionClosed ChannelClosed h tied = absurd (omega (arith, h))
same-tied _ _ h tied = absurd cc

-- ---- one more is awaited

pub expected-same : (n : ℕ) (a : Awaited) (ws : List (ℕ × List Awaited)) → tied_on n (expected n a ws) ≡ tied_on n ws ++ filter is_tied (a.reply ∷ [])
expected-same n a ws =
    ap (λ o. kinds (unwrap_or o [])) (put-same n (awaited_on n ws ++ a ∷ []) ws)
    ∙ ap (filter is_tied) (map-append (λ (x : Awaited). x.reply) (awaited_on n ws) (a ∷ []))
    ∙ filter-append is_tied (map (λ (x : Awaited). x.reply) (awaited_on n ws)) (a.reply ∷ [])

pub expected-other : (m n : ℕ) (a : Awaited) (ws : List (ℕ × List Awaited)) → m ≢ n → tied_on m (expected n a ws) ≡ tied_on m ws
expected-other m n a ws ne = ap (λ o. kinds (unwrap_or o [])) (put-other m n (awaited_on n ws ++ a ∷ []) ws ne)

pub expected-ascend : (n : ℕ) (a : Awaited) (ws : List (ℕ × List Awaited)) → Ascend (keys_of ws) → Ascend (keys_of (expected n a ws))
expected-ascend n a ws h = put-ascends n (awaited_on n ws ++ a ∷ []) ws h

-- ---- the first came

left-same : (n : ℕ) (list : List Awaited) (ws : List (ℕ × List Awaited)) → Ascend (keys_of ws) → tied_on n (left_on n list ws) ≡ kinds list
left-same n [] ws h = ap (λ o. kinds (unwrap_or o [])) (at-gone n ws h)
left-same n (a ∷ list) ws h = ap (λ o. kinds (unwrap_or o [])) (put-same n (a ∷ list) ws)

left-other : (m n : ℕ) (list : List Awaited) (ws : List (ℕ × List Awaited)) → m ≢ n → tied_on m (left_on n list ws) ≡ tied_on m ws
left-other m n [] ws ne = ap (λ o. kinds (unwrap_or o [])) (without-other m n ws ne)
left-other m n (a ∷ list) ws ne = ap (λ o. kinds (unwrap_or o [])) (put-other m n (a ∷ list) ws ne)

left-ascend : (n : ℕ) (list : List Awaited) (ws : List (ℕ × List Awaited)) → Ascend (keys_of ws) → Ascend (keys_of (left_on n list ws))
left-ascend n [] ws h = without-ascends n ws h
left-ascend n (a ∷ list) ws h = put-ascends n (a ∷ list) ws h

pub answered-ascend : (n : ℕ) (r : Reply) (ws : List (ℕ × List Awaited)) → Ascend (keys_of ws) → Ascend (keys_of (left_awaited n r ws))
answered-ascend n r ws h = left-ascend n (without_first (is_of r) (awaited_on n ws)) ws h

pub answered-other : (m n : ℕ) (r : Reply) (ws : List (ℕ × List Awaited)) → m ≢ n → tied_on m (left_awaited n r ws) ≡ tied_on m ws
answered-other m n r ws ne = left-other m n (without_first (is_of r) (awaited_on n ws)) ws ne

first-none : (r : Reply) (list : List Awaited) (a : Awaited) → is_tied r ≡ true → find (is_of r) list ≡ Some a → kinds list ≡ [] → ⊥
first-none r [] a tied first is = cc
first-none r (x ∷ list) a tied first is = by (is_of r x) (is_tied x.reply) refl refl (first-none r list a tied) first is where
  by : (b c : Bool) → is_of r x ≡ b → is_tied x.reply ≡ c → (find (is_of r) list ≡ Some a → kinds list ≡ [] → ⊥)
      → (if b then Some x else find (is_of r) list) ≡ Some a → (if c then x.reply ∷ kinds list else kinds list) ≡ [] → ⊥
  by b true hb hc rest first is = cc
  by true false hb hc rest first is =
      true≢false (sym (same-tied x.reply r (the-number (method_of x.reply) (method_of r) hb) tied) ∙ hc)
  by false false hb hc rest first is = rest first is

-- what came is the only one that is awaited, and none is any more
pub record IsAnswered (n : ℕ) (r only : Reply) (ws : List (ℕ × List Awaited)) : Type 0 where
  pub none : tied_on n (left_awaited n r ws) ≡ []
  pub same : method_of only ≡ method_of r

abbrev OnlyOne : Reply → Reply → List Awaited → Type 0
OnlyOne r only list = (kinds (without_first (is_of r) list) ≡ []) × (method_of only ≡ method_of r)

heads : {x y : Reply} {xs ys : List Reply} → x ∷ xs ≡ y ∷ ys → x ≡ y
heads h = cc

tails : {x y : Reply} {xs ys : List Reply} → x ∷ xs ≡ y ∷ ys → xs ≡ ys
tails h = cc

first-only : (r only : Reply) (list : List Awaited) (a : Awaited) → is_tied r ≡ true → find (is_of r) list ≡ Some a → kinds list ≡ only ∷ [] → OnlyOne r only list
first-only r only [] a tied first is = absurd cc
first-only r only (x ∷ list) a tied first is = by (is_of r x) (is_tied x.reply) refl refl (first-only r only list a tied) first is where
  by : (b c : Bool) → is_of r x ≡ b → is_tied x.reply ≡ c → (find (is_of r) list ≡ Some a → kinds list ≡ only ∷ [] → OnlyOne r only list)
      → (if b then Some x else find (is_of r) list) ≡ Some a → (if c then x.reply ∷ kinds list else kinds list) ≡ only ∷ []
      → (kinds (if b then list else x ∷ without_first (is_of r) list) ≡ []) × (method_of only ≡ method_of r)
  by true true hb hc rest first is = (tails is, ap method_of (sym (heads is)) ∙ the-number (method_of x.reply) (method_of r) hb)
  by true false hb hc rest first is =
      absurd (true≢false (sym (same-tied x.reply r (the-number (method_of x.reply) (method_of r) hb) tied) ∙ hc))
  by false true hb hc rest first is = absurd (first-none r list a tied first (tails is))
  by false false hb hc rest first is =
      let k = rest first is in
      let others = without_first (is_of r) list in
      (ap (λ c. if c then x.reply ∷ kinds others else kinds others) hc ∙ k.0, k.1)

pub one-answered : (n : ℕ) (r only : Reply) (ws : List (ℕ × List Awaited)) (a : Awaited) → is_tied r ≡ true → Ascend (keys_of ws) → first_awaited n r ws ≡ Some a
    → tied_on n ws ≡ only ∷ [] → IsAnswered n r only ws
one-answered n r only ws a tied h first is =
    let k = first-only r only (awaited_on n ws) a tied first is in
    record { none = left-same n (without_first (is_of r) (awaited_on n ws)) ws h ∙ k.0; same = k.1 }

-- where none is awaited, none is the first
pub none-awaited : (n : ℕ) (r : Reply) (ws : List (ℕ × List Awaited)) (a : Awaited) → is_tied r ≡ true → first_awaited n r ws ≡ Some a → tied_on n ws ≡ [] → ⊥
none-awaited n r ws a tied first is = first-none r (awaited_on n ws) a tied first is

-- what is awaited, where its promise is known
pub first-by-promise : (n : ℕ) (r : Reply) (q : Queued) (promise : Option ℕ) → awaited_promise n r q ≡ Some promise
    → (a : Awaited) × (first_awaited n r q.awaited ≡ Some a)
first-by-promise n r q promise h = found (first_awaited n r q.awaited) h where
  found : (o : Option Awaited) → option_map (λ (x : Awaited). x.promise) o ≡ Some promise → (a : Awaited) × (o ≡ Some a)
  found None k = absurd cc
  found (Some a) k = (a, refl)

-- ---- a reply came that does not tie

untied-first : (r : Reply) (list : List Awaited) → is_tied r ≡ false → kinds (without_first (is_of r) list) ≡ kinds list
untied-first r [] untied = refl
untied-first r (x ∷ list) untied = by (is_of r x) (is_tied x.reply) refl refl (untied-first r list untied) where
  by : (b c : Bool) → is_of r x ≡ b → is_tied x.reply ≡ c → kinds (without_first (is_of r) list) ≡ kinds list
      → kinds (if b then list else x ∷ without_first (is_of r) list) ≡ (if is_tied x.reply then x.reply ∷ kinds list else kinds list)
  by true true hb hc rest =
      absurd (true≢false (sym (same-tied r x.reply (sym (the-number (method_of x.reply) (method_of r) hb)) hc) ∙ untied))
  by true false hb hc rest = ap (λ c. if c then x.reply ∷ kinds list else kinds list) (sym hc)
  by false c hb hc rest = ap (λ others. if is_tied x.reply then x.reply ∷ others else others) rest

pub untied-answered : (m n : ℕ) (r : Reply) (ws : List (ℕ × List Awaited)) → is_tied r ≡ false → Ascend (keys_of ws)
    → tied_on m (left_awaited n r ws) ≡ tied_on m ws
untied-answered m n r ws untied h =
    elim (cases_eq m n) [
      | inl is ↦
          ap (λ k. tied_on k (left_awaited n r ws)) is ∙ left-same n (without_first (is_of r) (awaited_on n ws)) ws h
          ∙ untied-first r (awaited_on n ws) untied ∙ ap (λ k. tied_on k ws) (sym is)
      | inr ne ↦ answered-other m n r ws ne
    ]

-- ---- the replies of a channel go

pub gone-same : (n : ℕ) (ws : List (ℕ × List Awaited)) → Ascend (keys_of ws) → tied_on n (without n ws) ≡ []
gone-same n ws h = ap (λ o. kinds (unwrap_or o [])) (at-gone n ws h)

pub gone-other : (m n : ℕ) (ws : List (ℕ × List Awaited)) → m ≢ n → tied_on m (without n ws) ≡ tied_on m ws
gone-other m n ws ne = ap (λ o. kinds (unwrap_or o [])) (without-other m n ws ne)
