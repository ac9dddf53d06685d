-- What is awaited on a channel, once one more reply is, once the first came, and once all go.
use Rattle.std.proofs.Common.{◌≡◌, ◌≢◌, ◌∙◌, ap, sym, refl, subst, ℕ, ◌==◌, if◌then◌else◌, Bool, true, false, true≢false, List, [], ◌∷◌, ◌++◌, Option, Some, None, option_map, is_some, unwrap_or, find}
use Rattle.amqp_outbox.specs.Lists.{without_first}
use Rattle.std.specs.Map.{keys_of}
use Rattle.amqp_types.proofs.Small.{the-number}
use Rattle.amqp_outbox.specs.declared.reply.Awaited.{Awaited}
use Rattle.amqp_outbox.specs.declared.reply.Reply.{Reply}
use Rattle.amqp_outbox.specs.declared.reply.Reply.TheVariants.{ChannelOpened, ChannelClosed, FlowDone, SecretDone, ConnectionClosed}
use Rattle.amqp_outbox.specs.Replies.{method_of, is_of, awaited_on, left_on, expected, left_awaited}
use Rattle.amqp_maps.specs.Listed.{without}
use Rattle.amqp_rules.specs.Sound.{Ascend, OpeningHas, AllOpenings}
use Rattle.amqp_maps.proofs.Numbered.{put-same, put-other, without-other}
use Rattle.amqp_rules.proofs.Ascending.{put-ascends, without-ascends, at-gone}

abbrev Replies : Type 0
Replies = List (ℕ × List Awaited)

abbrev list_of : Option (List Awaited) → List Awaited
list_of o = unwrap_or o []

-- ---- one more is awaited

pub expected-same : (n : ℕ) (a : Awaited) (ws : Replies) → awaited_on n (expected n a ws) ≡ awaited_on n ws ++ a ∷ []
expected-same n a ws = ap list_of (put-same n (awaited_on n ws ++ a ∷ []) ws)

pub expected-other : (m n : ℕ) (a : Awaited) (ws : Replies) → m ≢ n → awaited_on m (expected n a ws) ≡ awaited_on m ws
expected-other m n a ws ne = ap list_of (put-other m n (awaited_on n ws ++ a ∷ []) ws ne)

pub expected-ascend : (n : ℕ) (a : Awaited) (ws : Replies) → Ascend (keys_of ws) → Ascend (keys_of (expected n a ws))
expected-ascend n a ws h = put-ascends n (awaited_on n ws ++ a ∷ []) ws h

-- ---- the first came

left-same : (n : ℕ) (list : List Awaited) (ws : Replies) → Ascend (keys_of ws) → awaited_on n (left_on n list ws) ≡ list
left-same n [] ws h = ap list_of (at-gone n ws h)
left-same n (a ∷ list) ws h = ap list_of (put-same n (a ∷ list) ws)

left-other : (m n : ℕ) (list : List Awaited) (ws : Replies) → m ≢ n → awaited_on m (left_on n list ws) ≡ awaited_on m ws
left-other m n [] ws ne = ap list_of (without-other m n ws ne)
left-other m n (a ∷ list) ws ne = ap list_of (put-other m n (a ∷ list) ws ne)

left-ascend : (n : ℕ) (list : List Awaited) (ws : Replies) → Ascend (keys_of ws) → Ascend (keys_of (left_on n list ws))
left-ascend n [] ws h = without-ascends n ws h
left-ascend n (a ∷ list) ws h = put-ascends n (a ∷ list) ws h

module _ (n : ℕ) (r : Reply) (ws : Replies) where
  pub answered-same : Ascend (keys_of ws) → awaited_on n (left_awaited n r ws) ≡ without_first (is_of r) (awaited_on n ws)
  answered-same h = left-same n (without_first (is_of r) (awaited_on n ws)) ws h

  pub answered-other : (m : ℕ) → m ≢ n → awaited_on m (left_awaited n r ws) ≡ awaited_on m ws
  answered-other m ne = left-other m n (without_first (is_of r) (awaited_on n ws)) ws ne

  pub answered-ascend : Ascend (keys_of ws) → Ascend (keys_of (left_awaited n r ws))
  answered-ascend h = left-ascend n (without_first (is_of r) (awaited_on n ws)) ws h

  -- where nothing is awaited, nothing is left
  pub answered-none : ws ≡ [] → left_awaited n r ws ≡ []
  answered-none is = ap (left_awaited n r) is

-- ---- all on a channel go

pub gone-same : (n : ℕ) (ws : Replies) → Ascend (keys_of ws) → awaited_on n (without n ws) ≡ []
gone-same n ws h = ap list_of (at-gone n ws h)

pub gone-other : (m n : ℕ) (ws : Replies) → m ≢ n → awaited_on m (without n ws) ≡ awaited_on m ws
gone-other m n ws ne = ap list_of (without-other m n ws ne)

-- ---- the promises that await open-ok

module _ (P : ℕ → Type 0) where
  -- one more reply is awaited
  pub openings-more : (list : List Awaited) (a : Awaited) → OpeningHas P a.reply a.promise → AllOpenings P list → AllOpenings P (list ++ a ∷ [])
  openings-more [] a one all = (one, tt)
  openings-more (x ∷ list) a one all = (all.0, openings-more list a one all.1)

  less-by : (b : Bool) (x : Awaited) (list left : List Awaited) → OpeningHas P x.reply x.promise → AllOpenings P list → AllOpenings P left
      → AllOpenings P (if b then list else x ∷ left)
  less-by true x list left one all rest = all
  less-by false x list left one all rest = (one, rest)

  -- the first reply of a kind came
  pub openings-less : (p : Awaited → Bool) (list : List Awaited) → AllOpenings P list → AllOpenings P (without_first p list)
  openings-less p [] all = tt
  openings-less p (x ∷ list) all = less-by (p x) x list (without_first p list) all.0 all.1 (openings-less p list all.1)

  opens-by : (r : Reply) (promise : Option ℕ) (number : ℕ) → (method_of r == 11) ≡ true → promise ≡ Some number → OpeningHas P r promise → P number
  opens-by ChannelOpened (Some k) number is same h = let e : k ≡ number = cc in subst P e h
  opens-by ChannelOpened None number is same h = absurd cc
  opens-by ChannelClosed promise number is same h = absurd (true≢false (sym is))
  opens-by FlowDone promise number is same h = absurd (true≢false (sym is))
  opens-by SecretDone promise number is same h = absurd (true≢false (sym is))
  opens-by ConnectionClosed promise number is same h = absurd (true≢false (sym is))

  -- the promise that the first open-ok will answer
  pub first-opening : (list : List Awaited) (number : ℕ) → AllOpenings P list
      → option_map (λ (a : Awaited). a.promise) (find (is_of ChannelOpened) list) ≡ Some (Some number) → P number
  first-opening [] number all is = absurd cc
  first-opening (x ∷ list) number all is = by (is_of ChannelOpened x) refl is (first-opening list number all.1) where
    by : (b : Bool) → is_of ChannelOpened x ≡ b
        → option_map (λ (a : Awaited). a.promise) (if b then Some x else find (is_of ChannelOpened) list) ≡ Some (Some number)
        → (option_map (λ (a : Awaited). a.promise) (find (is_of ChannelOpened) list) ≡ Some (Some number) → P number) → P number
    by true of is later = let same : x.promise ≡ Some number = ap (λ (o : Option (Option ℕ)). unwrap_or o None) is in opens-by x.reply x.promise number of same all.0
    by false of is later = later is

-- ---- whether close-ok is awaited

abbrev pub closing : List Awaited → Bool
closing list = is_some (find (is_of ChannelClosed) list)

-- a reply of another kind
abbrev pub IsOther : Reply → Type 0
IsOther r = (method_of r == 41) ≡ false

one-more-by : (b : Bool) (x : Awaited) (list : List Awaited) (o : Option Awaited) → is_some o ≡ closing list
    → is_some (if b then Some x else o) ≡ is_some (if b then Some x else find (is_of ChannelClosed) list)
one-more-by true x list o rest = refl
one-more-by false x list o rest = rest

pub closing-more : (list : List Awaited) (a : Awaited) → IsOther a.reply → closing (list ++ a ∷ []) ≡ closing list
closing-more [] a lacks = ap (λ b. is_some (if b then Some a else None)) lacks
closing-more (x ∷ list) a lacks =
    one-more-by (is_of ChannelClosed x) x list (find (is_of ChannelClosed) (list ++ a ∷ [])) (closing-more list a lacks)

-- close-ok is awaited from now on
pub closing-now : (list : List Awaited) (promise : Option ℕ) → closing (list ++ record { reply = ChannelClosed; promise = promise } ∷ []) ≡ true
closing-now [] promise = refl
closing-now (x ∷ list) promise = by (is_of ChannelClosed x) (closing-now list promise) where
  by : (b : Bool) → closing (list ++ record { reply = ChannelClosed; promise = promise } ∷ []) ≡ true
      → is_some (if b then Some x else find (is_of ChannelClosed) (list ++ record { reply = ChannelClosed; promise = promise } ∷ [])) ≡ true
  by true rest = refl
  by false rest = rest

other-kind : (r : Reply) (x : Awaited) → IsOther r → is_of r x ≡ true → is_of ChannelClosed x ≡ false
other-kind r x lacks is = ap (λ k. k == 41) (the-number (method_of x.reply) (method_of r) is) ∙ lacks

pub closing-less : (r : Reply) (list : List Awaited) → IsOther r → closing (without_first (is_of r) list) ≡ closing list
closing-less r [] lacks = refl
closing-less r (x ∷ list) lacks = by (is_of r x) refl (closing-less r list lacks) where
  by : (b : Bool) → is_of r x ≡ b → closing (without_first (is_of r) list) ≡ closing list
      → closing (if b then list else x ∷ without_first (is_of r) list)
      ≡ is_some (if is_of ChannelClosed x then Some x else find (is_of ChannelClosed) list)
  by true is rest =
      let no_close : is_of ChannelClosed x ≡ false = other-kind r x lacks is in
      sym (ap (λ c. is_some (if c then Some x else find (is_of ChannelClosed) list)) no_close)
  by false is rest = one-more-by (is_of ChannelClosed x) x list (find (is_of ChannelClosed) (without_first (is_of r) list)) rest
