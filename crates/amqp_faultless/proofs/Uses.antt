-- A channel as the server uses it and as the session does, with what waits to be said on it.
use Rattle.std.proofs.Common.{◌≡◌, ◌≢◌, ◌≤◌, ℕ, zero, suc, ◌+◌, ◌==◌, ◌||◌, if◌then◌else◌, Bool, true, false, true≢false, List, [], ◌∷◌, ◌++◌, Option, Some, None, is_some, refl, ap, sym, ◌∙◌, subst, arith}
use Rattle.std.specs.Prelude.{filter, map, find, unwrap_or}
use Rattle.std.specs.List.{AllByRecursion}
use Rattle.amqp_frame.specs.declared.frame.Frame.{Frame}
use Rattle.amqp_frame.specs.declared.frame.Frame.TheVariants.{Method}
use Rattle.amqp_frame.specs.declared.method.Method.TheVariants.{ChannelOpen, ChannelFlow, ChannelClose}
use Rattle.amqp_outbox.specs.declared.item.Item.{Item}
use Rattle.amqp_outbox.specs.declared.reply.Awaited.{Awaited}
use Rattle.amqp_outbox.specs.declared.reply.Reply.{Reply}
use Rattle.amqp_outbox.specs.declared.reply.Reply.TheVariants.{ChannelOpened, ChannelClosed, FlowDone}
use Rattle.amqp_outbox.specs.Items.{outlives}
use Rattle.amqp_outbox.specs.Lists.{without_first}
use Rattle.amqp_outbox.specs.Replies.{method_of, is_of, awaited_on, left_on, expected}
use Rattle.amqp_channels.specs.declared.channels.Channel.{Channel}
use Rattle.amqp_channels.specs.declared.channels.Debt.{Debt}
use Rattle.amqp_channels.specs.declared.channels.Debt.TheVariants as debt
use Rattle.amqp_faultless.specs.Faultless.{Use, unused, Server, said_to, used_as}
use Rattle.amqp_types.proofs.Small.{same-number, the-number}
use Rattle.amqp_maps.proofs.Numbered.{put-same, put-other, without-other}

-- ---- what is awaited

-- how often a reply is awaited
abbrev pub waiting_for : Reply → List Awaited → ℕ
waiting_for r [] = 0
waiting_for r (a ∷ list) = if is_of r a then suc (waiting_for r list) else waiting_for r list

-- each reply is awaited as often, or oftener
abbrev pub More : List Awaited → List Awaited → Type 0
More list bs = (r : Reply) → waiting_for r list ≤ waiting_for r bs

-- a reply that is awaited is found
pub waiting-found : (r : Reply) (list : List Awaited) → 1 ≤ waiting_for r list → is_some (find (is_of r) list) ≡ true
waiting-found r [] h = absurd (omega (arith, h))
waiting-found r (a ∷ list) h = by (is_of r a) (waiting-found r list) h where
  by : (b : Bool) → (1 ≤ waiting_for r list → is_some (find (is_of r) list) ≡ true) → 1 ≤ (if b then suc (waiting_for r list) else waiting_for r list)
      → is_some (if b then Some a else find (is_of r) list) ≡ true
  by true rest h = refl
  by false rest h = rest h

abbrev once : Bool → ℕ
once b = if b then 1 else 0

pub waiting-append : (r : Reply) (list : List Awaited) (a : Awaited) → waiting_for r (list ++ a ∷ []) ≡ waiting_for r list + once (is_of r a)
waiting-append r [] a = by (is_of r a) where
  by : (b : Bool) → (if b then 1 else 0) ≡ 0 + once b
  by true = refl
  by false = refl
waiting-append r (x ∷ list) a = by (is_of r x) (waiting-append r list a) where
  by : (b : Bool) → waiting_for r (list ++ a ∷ []) ≡ waiting_for r list + once (is_of r a)
      → (if b then suc (waiting_for r (list ++ a ∷ [])) else waiting_for r (list ++ a ∷ [])) ≡ (if b then suc (waiting_for r list) else waiting_for r list) + once (is_of r a)
  by true rest = omega (arith, rest)
  by false rest = rest

-- the first that awaits it comes
pub waiting-without : (r : Reply) (list : List Awaited) → waiting_for r list ≤ suc (waiting_for r (without_first (is_of r) list))
waiting-without r [] = omega arith
waiting-without r (a ∷ list) = by (is_of r a) refl (waiting-without r list) where
  by : (b : Bool) → is_of r a ≡ b → waiting_for r list ≤ suc (waiting_for r (without_first (is_of r) list))
      → (if b then suc (waiting_for r list) else waiting_for r list) ≤ suc (waiting_for r (if b then list else a ∷ without_first (is_of r) list))
  by true is rest = omega arith
  by false is rest =
      let same : waiting_for r (a ∷ without_first (is_of r) list) ≡ waiting_for r (without_first (is_of r) list) =
      ap (λ b. if b then suc (waiting_for r (without_first (is_of r) list)) else waiting_for r (without_first (is_of r) list)) is in
      omega (arith, rest, same)

-- others are awaited as before
pub waiting-others : (q r : Reply) (list : List Awaited) → method_of q ≢ method_of r → waiting_for q list ≤ waiting_for q (without_first (is_of r) list)
waiting-others q r [] ne = omega arith
waiting-others q r (a ∷ list) ne = by (is_of r a) (is_of q a) refl refl (waiting-others q r list ne) where
  by : (b c : Bool) → is_of r a ≡ b → is_of q a ≡ c → waiting_for q list ≤ waiting_for q (without_first (is_of r) list)
      → (if c then suc (waiting_for q list) else waiting_for q list) ≤ waiting_for q (if b then list else a ∷ without_first (is_of r) list)
  by true true hb hc rest =
      absurd (ne (sym (the-number (method_of a.reply) (method_of q) hc) ∙ the-number (method_of a.reply) (method_of r) hb))
  by true false hb hc rest = omega arith
  by false c hb hc rest =
      let same : waiting_for q (a ∷ without_first (is_of r) list) ≡ (if c then suc (waiting_for q (without_first (is_of r) list)) else waiting_for q (without_first (is_of r) list)) =
      ap (λ b. if b then suc (waiting_for q (without_first (is_of r) list)) else waiting_for q (without_first (is_of r) list)) hc in
      more c rest same
    where
      more : (c : Bool) → waiting_for q list ≤ waiting_for q (without_first (is_of r) list)
          → waiting_for q (a ∷ without_first (is_of r) list) ≡ (if c then suc (waiting_for q (without_first (is_of r) list)) else waiting_for q (without_first (is_of r) list))
          → (if c then suc (waiting_for q list) else waiting_for q list) ≤ waiting_for q (a ∷ without_first (is_of r) list)
      more true rest same = omega (arith, rest, same)
      more false rest same = omega (arith, rest, same)

-- what is left on a channel is awaited on it
pub left-more : (n : ℕ) (list : List Awaited) (ws : List (ℕ × List Awaited)) → More list (awaited_on n (left_on n list ws))
left-more n [] ws r = omega arith
left-more n (a ∷ list) ws r =
    let same : awaited_on n (left_on n (a ∷ list) ws) ≡ a ∷ list = ap (λ o. unwrap_or o []) (put-same n (a ∷ list) ws) in
    let equal = ap (waiting_for r) same in omega (arith, equal)

pub left-other : (m n : ℕ) (list : List Awaited) (ws : List (ℕ × List Awaited)) → m ≢ n → awaited_on m (left_on n list ws) ≡ awaited_on m ws
left-other m n [] ws ne = ap (λ o. unwrap_or o []) (without-other m n ws ne)
left-other m n (a ∷ list) ws ne = ap (λ o. unwrap_or o []) (put-other m n (a ∷ list) ws ne)

-- one more is awaited
pub expected-same : (n : ℕ) (a : Awaited) (ws : List (ℕ × List Awaited)) → awaited_on n (expected n a ws) ≡ awaited_on n ws ++ a ∷ []
expected-same n a ws = ap (λ o. unwrap_or o []) (put-same n (awaited_on n ws ++ a ∷ []) ws)

pub expected-other : (m n : ℕ) (a : Awaited) (ws : List (ℕ × List Awaited)) → m ≢ n → awaited_on m (expected n a ws) ≡ awaited_on m ws
expected-other m n a ws ne = ap (λ o. unwrap_or o []) (put-other m n (awaited_on n ws ++ a ∷ []) ws ne)

pub expected-count : (n : ℕ) (a : Awaited) (ws : List (ℕ × List Awaited)) (r : Reply)
    → waiting_for r (awaited_on n (expected n a ws)) ≡ waiting_for r (awaited_on n ws) + once (is_of r a)
expected-count n a ws r = ap (waiting_for r) (expected-same n a ws) ∙ waiting-append r (awaited_on n ws) a

pub expected-more : (m n : ℕ) (a : Awaited) (ws : List (ℕ × List Awaited)) → More (awaited_on m ws) (awaited_on m (expected n a ws))
expected-more m n a ws r = by (m == n) refl where
  by : (b : Bool) → (m == n) ≡ b → waiting_for r (awaited_on m ws) ≤ waiting_for r (awaited_on m (expected n a ws))
  by true is =
      let same : m ≡ n = the-number m n is in
      let Q : ℕ → Type 0 = λ k. waiting_for r (awaited_on k ws) ≤ waiting_for r (awaited_on k (expected n a ws)) in
      let count = expected-count n a ws r in
      subst Q (sym same) (omega (arith, count))
  by false is =
      let ne : m ≢ n = λ same. true≢false (sym (same-number m) ∙ ap (λ k. m == k) same ∙ is) in
      let equal = ap (waiting_for r) (expected-other m n a ws ne) in omega (arith, equal)

-- ---- what our frames do on a channel

-- what a frame of ours does on a channel
pub data Act : Type 0 where
  Opens : Act
  Flows : Act
  Closes : Act
  Idle : Act

abbrev pub act_on : ℕ → Frame → Act
act_on n (Method m ChannelOpen) = if n == m then Opens else Idle
act_on n (Method m (ChannelFlow active)) = if n == m then Flows else Idle
act_on n (Method m (ChannelClose code text class method)) = if n == m then Closes else Idle
act_on n f = Idle

abbrev pub acts : ℕ → List Item → List Act
acts n items = map (λ (item : Item). act_on n item.frame) items

abbrev pub is_opens : Act → Bool
is_opens Opens = true
is_opens _ = false

-- a channel, once that was said
abbrev pub use_by : Act → Use → Use
use_by Opens u = record unused { asked = true }
use_by Flows u = record u { flows = u.flows + 1 }
use_by Closes u = record u { closing = true }
use_by Idle u = u

opened-use : (n m : ℕ) (s : Server) → (used_as m (record unused { asked = true }) s).uses n ≡ use_by (act_on n (Method m ChannelOpen)) (s.uses n)
opened-use n m s = by (n == m) where
  by : (b : Bool) → (if b then record unused { asked = true } else s.uses n) ≡ use_by (if b then Opens else Idle) (s.uses n)
  by true = refl
  by false = refl

flowed-use : (n m : ℕ) (active : Bool) (s : Server)
    → (used_as m (record (s.uses m) { flows = (s.uses m).flows + 1 }) s).uses n ≡ use_by (act_on n (Method m (ChannelFlow active))) (s.uses n)
flowed-use n m active s = by (n == m) refl where
  by : (b : Bool) → (n == m) ≡ b → (if b then record (s.uses m) { flows = (s.uses m).flows + 1 } else s.uses n) ≡ use_by (if b then Flows else Idle) (s.uses n)
  by true is = ap (λ k. use_by Flows (s.uses k)) (sym (the-number n m is))
  by false is = refl

closed-use : (n m code class method : ℕ) (text : List ℕ) (s : Server)
    → (used_as m (record (s.uses m) { closing = true }) s).uses n ≡ use_by (act_on n (Method m (ChannelClose code text class method))) (s.uses n)
closed-use n m code class method text s = by (n == m) refl where
  by : (b : Bool) → (n == m) ≡ b → (if b then record (s.uses m) { closing = true } else s.uses n) ≡ use_by (if b then Closes else Idle) (s.uses n)
  by true is = ap (λ k. use_by Closes (s.uses k)) (sym (the-number n m is))
  by false is = refl

-- the server then knows that
pub said-use : (n : ℕ) (f : Frame) (s : Server) → (said_to f s).uses n ≡ use_by (act_on n f) (s.uses n)
said-use n (Method zero ChannelOpen) s = opened-use n zero s
said-use n (Method (suc k) ChannelOpen) s = opened-use n (suc k) s
said-use n (Method zero (ChannelFlow active)) s = flowed-use n zero active s
said-use n (Method (suc k) (ChannelFlow active)) s = flowed-use n (suc k) active s
said-use n (Method zero (ChannelClose code text class method)) s = closed-use n zero code class method text s
said-use n (Method (suc k) (ChannelClose code text class method)) s = closed-use n (suc k) code class method text s
said-use n (Method zero m) s = refl
said-use n (Method (suc k) m) s = refl
said-use n f s = refl

-- ---- a channel

abbrev pub lives : Use → Bool
lives u = u.asked || u.opened

-- the server owes nothing on a listed channel, and we don't
abbrev pub is_unowed : Debt → Bool
is_unowed debt.Nothing = true
is_unowed _ = false

abbrev pub is_free : Option Channel → Bool
is_free None = false
is_free (Some c) = is_unowed c.debt

-- what the server may answer is awaited, and the channel is listed
pub record Holds (u : Use) (c : Option Channel) (list : List Awaited) : Type 0 where
  pub listed : is_free c ≡ true
  pub asked : u.asked ≡ true → 1 ≤ waiting_for ChannelOpened list
  pub flows : u.flows ≤ waiting_for FlowDone list
  pub closing : u.closing ≡ true → 1 ≤ waiting_for ChannelClosed list
  pub single : u.opened ≡ true → u.asked ≡ false

-- where the channel was opened, or its opening was said
abbrev pub Stands : Use → Option Channel → List Awaited → Type 0
Stands u c list = lives u ≡ true → Holds u c list

-- none of these opens the channel
abbrev pub NoneOpens : List Act → Type 0
NoneOpens acts = AllByRecursion (λ (a : Act). is_opens a ≡ false) acts

-- so after each of what is said, and a channel that was opened is not opened again
abbrev pub Along : List Act → Use → Option Channel → List Awaited → Type 0
Along [] u c list = Stands u c list
Along (a ∷ later) u c list = Stands u c list × (lives u ≡ true → NoneOpens (a ∷ later)) × Along later (use_by a u) c list

pub along-now : (acts : List Act) (u : Use) (c : Option Channel) (list : List Awaited) → Along acts u c list → Stands u c list
along-now [] u c list h = h
along-now (a ∷ later) u c list h = h.0

pub along-none : (acts : List Act) (u : Use) (c : Option Channel) (list : List Awaited) → Along acts u c list → lives u ≡ true → NoneOpens acts
along-none [] u c list h l = tt
along-none (a ∷ later) u c list h l = h.1 l

pub none-append : (acts : List Act) (a : Act) → is_opens a ≡ false → NoneOpens acts → NoneOpens (acts ++ a ∷ [])
none-append [] a shut h = (shut, tt)
none-append (b ∷ bs) a shut h = (h.0, none-append bs a shut h.1)

-- what changes each moment alike
module _ (c c' : Option Channel) (list list' : List Awaited) where
  pub along-map : ((v : Use) → Stands v c list → Stands v c' list') → (acts : List Act) (u : Use) → Along acts u c list → Along acts u c' list'
  along-map stands [] u h = stands u h
  along-map stands (a ∷ later) u h = (stands u h.0, h.1, along-map stands later (use_by a u) h.2)

  -- one act more, which does not open the channel
  pub along-push : (a : Act) → is_opens a ≡ false → ((v : Use) → Stands v c list → Stands v c' list') → ((v : Use) → Stands v c list → Stands (use_by a v) c' list')
      → (acts : List Act) (u : Use) → Along acts u c list → Along (acts ++ a ∷ []) u c' list'
  along-push a shut stands next [] u h = (stands u h, (λ l. (shut, tt)), next u h)
  along-push a shut stands next (b ∷ bs) u h =
      (stands u h.0, (λ l. none-append (b ∷ bs) a shut (h.1 l)), along-push a shut stands next bs (use_by b u) h.2)

  -- the server uses it otherwise, and goes on so
  pub along-related : (R : Use → Use → Type 0) → ((a : Act) (v v' : Use) → is_opens a ≡ false → R v v' → R (use_by a v) (use_by a v'))
      → ((v v' : Use) → R v v' → Stands v c list → Stands v' c' list')
      → (acts : List Act) (u u' : Use) → NoneOpens acts → R u u' → Along acts u c list → Along acts u' c' list'
  along-related R step stands [] u u' none r h = stands u u' r h
  along-related R step stands (a ∷ later) u u' none r h =
      (stands u u' r h.0, (λ l. none), along-related R step stands later (use_by a u) (use_by a u') none.1 (step a u u' none.0 r) h.2)

-- one that is not listed is not used, and is opened
pub along-open : (c' : Option Channel) (list list' : List Awaited) → is_free c' ≡ true → 1 ≤ waiting_for ChannelOpened list'
    → (acts : List Act) (u : Use) → Along acts u None list → Along (acts ++ Opens ∷ []) u c' list'
along-open c' list list' free waits [] u h = (
  (λ l. absurd (true≢false (sym (h l).listed))),
  (λ l. absurd (true≢false (sym (h l).listed))),
  λ l. record { listed = free; asked = λ a. waits; flows = omega arith; closing = λ k. absurd (true≢false (sym k)); single = λ k. absurd (true≢false (sym k)) },
)
along-open c' list list' free waits (b ∷ bs) u h =
    ((λ l. absurd (true≢false (sym (h.0 l).listed))), (λ l. absurd (true≢false (sym (h.0 l).listed))), along-open c' list list' free waits bs (use_by b u) h.2)

-- one that is not used is not, while it is not opened
pub acts-dead : (a : Act) (u : Use) → is_opens a ≡ false → lives (use_by a u) ≡ lives u
acts-dead Opens u shut = absurd (true≢false shut)
acts-dead Flows u shut = refl
acts-dead Closes u shut = refl
acts-dead Idle u shut = refl

pub along-dead : (c : Option Channel) (list : List Awaited) (acts : List Act) (u : Use) → NoneOpens acts → lives u ≡ false → Along acts u c list
along-dead c list [] u none dead = λ l. absurd (true≢false (sym l ∙ dead))
along-dead c list (a ∷ later) u none dead =
    ((λ l. absurd (true≢false (sym l ∙ dead))), (λ l. none), along-dead c list later (use_by a u) none.1 (acts-dead a u none.0 ∙ dead))

-- ---- more is awaited

pub stands-more : (c c' : Option Channel) (list list' : List Awaited) → (is_free c ≡ true → is_free c' ≡ true) → More list list' → (v : Use) → Stands v c list → Stands v c' list'
stands-more c c' list list' free more v h l =
    let k = h l in
    let o = more ChannelOpened in
    let f = more FlowDone in
    let z = more ChannelClosed in
    record {
      listed = free k.listed;
      asked = λ a. (let x = k.asked a in omega (arith, x, o));
      flows = (let x = k.flows in omega (arith, x, f));
      closing = λ a. (let x = k.closing a in omega (arith, x, z));
      single = k.single;
    }

-- ---- frames that go with their channel

-- the same use, with fewer flows that are not answered
pub record Less (u v : Use) : Type 0 where
  pub asked : u.asked ≡ v.asked
  pub opened : u.opened ≡ v.opened
  pub closing : u.closing ≡ v.closing
  pub flows : u.flows ≤ v.flows

pub less-same : (u : Use) → Less u u
less-same u = record { asked = refl; opened = refl; closing = refl; flows = omega arith }

less-lives : (u v : Use) → Less u v → lives u ≡ lives v
less-lives u v h = ap (λ b. b || u.opened) h.asked ∙ ap (λ b. v.asked || b) h.opened

less-stands : (u v : Use) (c : Option Channel) (list : List Awaited) → Less u v → Stands v c list → Stands u c list
less-stands u v c list h stands l =
    let k = stands (sym (less-lives u v h) ∙ l) in
    record {
      listed = k.listed;
      asked = λ a. k.asked (sym h.asked ∙ a);
      flows = (let x = k.flows in let y = h.flows in omega (arith, x, y));
      closing = λ a. k.closing (sym h.closing ∙ a);
      single = λ o. h.asked ∙ k.single (sym h.opened ∙ o);
    }

less-step : (a : Act) (u v : Use) → Less u v → Less (use_by a u) (use_by a v)
less-step Opens u v h = less-same (record unused { asked = true })
less-step Flows u v h = record { asked = h.asked; opened = h.opened; closing = h.closing; flows = (let x = h.flows in omega (arith, x)) }
less-step Closes u v h = record { asked = h.asked; opened = h.opened; closing = refl; flows = h.flows }
less-step Idle u v h = h

-- what neither opens nor closes
abbrev pub is_passing : Act → Bool
is_passing Flows = true
is_passing Idle = true
is_passing _ = false

less-skip : (a : Act) (u v : Use) → is_passing a ≡ true → Less u v → Less u (use_by a v)
less-skip Opens u v p h = absurd (true≢false (sym p))
less-skip Flows u v p h = record { asked = h.asked; opened = h.opened; closing = h.closing; flows = (let x = h.flows in omega (arith, x)) }
less-skip Closes u v p h = absurd (true≢false (sym p))
less-skip Idle u v p h = h

passing-either : (b : Bool) → is_passing (if b then Flows else Idle) ≡ true
passing-either true = refl
passing-either false = refl

outlived : (n : ℕ) (f : Frame) → outlives f ≡ false → is_passing (act_on n f) ≡ true
outlived n (Method m ChannelOpen) h = absurd (true≢false h)
outlived n (Method m (ChannelClose code text class method)) h = absurd (true≢false h)
outlived n (Method m (ChannelFlow active)) h = passing-either (n == m)
outlived n f h = refl

module _ (n : ℕ) (p : Item → Bool) (goes : (item : Item) → p item ≡ false → outlives item.frame ≡ false) where
  pub none-filter : (items : List Item) → NoneOpens (acts n items) → NoneOpens (acts n (filter p items))
  none-filter [] h = tt
  none-filter (i ∷ items) h = by (p i) (none-filter items h.1) where
    by : (b : Bool) → NoneOpens (acts n (filter p items)) → NoneOpens (acts n (if b then i ∷ filter p items else filter p items))
    by true rest = (h.0, rest)
    by false rest = rest

  pub along-filter : (c : Option Channel) (list : List Awaited) (items : List Item) (u v : Use) → Less u v → Along (acts n items) v c list
      → Along (acts n (filter p items)) u c list
  along-filter c list [] u v less h = less-stands u v c list less h
  along-filter c list (i ∷ items) u v less h =
      let a : Act = act_on n i.frame in
      by (p i) refl
      (λ b. along-filter c list items (use_by a u) (use_by a v) (less-step a u v less) h.2)
      (λ passes. along-filter c list items u (use_by a v) (less-skip a u v passes less) h.2)
    where
      by : (b : Bool) → p i ≡ b → (Unit {0} → Along (acts n (filter p items)) (use_by (act_on n i.frame) u) c list)
          → (is_passing (act_on n i.frame) ≡ true → Along (acts n (filter p items)) u c list)
          → Along (acts n (if b then i ∷ filter p items else filter p items)) u c list
      by true is with_it without_it = (
        less-stands u v c list less h.0,
        (λ l. (let none = h.1 (sym (less-lives u v less) ∙ l) in (none.0, none-filter items none.1))),
        with_it tt,
      )
      by false is with_it without_it = without_it (outlived n i.frame (goes i is))
