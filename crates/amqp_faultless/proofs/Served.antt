-- Where the server and the session stand while the connection is open.
use Rattle.std.proofs.Common.{◌≡◌, ◌≢◌, ◌≤◌, ℕ, zero, suc, ◌+◌, ◌==◌, ◌&&◌, ◌||◌, if◌then◌else◌, Bool, true, false, true≢false, List, [], ◌∷◌, ◌++◌, Option, Some, refl, ap, sym, ◌∙◌, subst, arith}
use Rattle.std.specs.Prelude.{sum_by}
use Rattle.std.specs.List.{AllByRecursion}
use Rattle.std.proofs.lemmas.List.{map-append}
use Rattle.std.proofs.lemmas.List.Sums.{sum_by-append, sum_by-cons}
use Rattle.amqp_frame.specs.declared.frame.Frame.{Frame}
use Rattle.amqp_frame.specs.declared.frame.Frame.TheVariants.{Method, Raw}
use Rattle.amqp_frame.specs.declared.method.Method.TheVariants.{UpdateSecret}
use Rattle.amqp_outbox.specs.declared.item.Item.{Item}
use Rattle.amqp_outbox.specs.declared.reply.Awaited.{Awaited}
use Rattle.amqp_outbox.specs.declared.reply.Reply.TheVariants.{ChannelOpened, ChannelClosed, FlowDone, SecretDone}
use Rattle.amqp_outbox.specs.Lists.{without_first}
use Rattle.amqp_outbox.specs.Replies.{is_of, awaited_on, left_awaited}
use Rattle.amqp_outbox.specs.Queued.{Queued}
use Rattle.amqp_channels.specs.declared.channels.Channel.{Channel}
use Rattle.amqp_channels.specs.declared.channels.Debt.{Debt}
use Rattle.amqp_outgoing.specs.declared.committed.Mark.{Mark}
use Rattle.amqp_maps.specs.Listed.{at, put}
use Rattle.amqp_rules.specs.Talk.{Talk, is_open}
use Rattle.amqp_outgoing.specs.Marks.{then_of}
use Rattle.amqp_faultless.specs.Faultless.{Use, Server, used_as, provided, one_less}
use Rattle.amqp_faultless.specs.Faultless.ServerStage.{Serving}
use Rattle.amqp_types.proofs.Small.{same-number, other-number, the-number}
use Rattle.amqp_maps.proofs.Numbered.{put-same, put-other}
use Rattle.amqp_legal_rules.proofs.Ties.{pays, to_pay, unpaid, owing}
use Rattle.amqp_faultless.proofs.Ordinary.{is_close, IsOther, NoneCloses}
use Rattle.amqp_faultless.proofs.Uses.{waiting_for, waiting-without, waiting-others, left-more, left-other, Act, Idle, act_on, acts, lives, is_unowed, is_free, Stands, Along, along-map, along-push, stands-more}
use Rattle.amqp_channels.proofs.Walking.{all-append}

-- ---- what waits

-- a frame that is passed through
abbrev pub is_raw : Frame → Bool
is_raw (Raw n kind bytes) = true
is_raw _ = false

abbrev pub AreRaw : List Item → Type 0
AreRaw items = AllByRecursion (λ (item : Item). is_raw item.frame ≡ true) items

-- our new secrets
abbrev pub secret_by : Frame → ℕ
secret_by (Method zero (UpdateSecret secret reason)) = 1
secret_by _ = 0

abbrev pub secrets_in : List Item → ℕ
secrets_in items = sum_by (λ (item : Item). secret_by item.frame) items

abbrev pub Channels : Type 0
Channels = List (ℕ × Channel)

-- what the server may say of a connection that is open, the session awaits, also of what is not said yet
pub record Serves (s : Server) (q : Queued) (cs : Channels) (ms : List Mark) : Type 0 where
  pub stage : s.stage ≡ Serving
  pub staying : s.closing ≡ false
  pub ours : NoneCloses q
  pub secrets : s.secrets + secrets_in q.control ≤ waiting_for SecretDone (awaited_on 0 q.awaited)
  pub each : (n : ℕ) → Along (acts n q.control) (s.uses n) (at n cs) (awaited_on n q.awaited)
  pub due : (n : ℕ) → unpaid ms q.control n ≤ owing (at n cs)
  pub begun : AreRaw q.begun
  pub groups : AllByRecursion AreRaw q.publish

abbrev pub IsServing : Server → Talk → Type 0
IsServing s t = Serves s t.outbox t.channels t.committed

-- the link stays, and so it is then
abbrev pub Goes : Server → Talk → Type 0
Goes s t = (is_open t ≡ true) × IsServing s t

-- ---- what the server may say

pub given-by : (b : Bool) (x y : Server) → provided b x ≡ Some y → (b ≡ true) × (x ≡ y)
given-by true x y h = (refl, (let k : x ≡ y = cc in k))
given-by false x y h = absurd cc

pub less-by : (k : ℕ) (then_so : ℕ → Server) (y : Server) → one_less k then_so ≡ Some y → (left : ℕ) × (k ≡ suc left) × (then_so left ≡ y)
less-by zero then_so y h = absurd cc
less-by (suc left) then_so y h = (left, refl, (let k : then_so left ≡ y = cc in k))

pub both-true : (a b : Bool) → (a && b) ≡ true → (a ≡ true) × (b ≡ true)
both-true true true h = (refl, refl)
both-true true false h = absurd (true≢false (sym h))
both-true false b h = absurd (true≢false (sym h))

pub opened-lives : (u : Use) → u.opened ≡ true → lives u ≡ true
opened-lives u h = by u.asked u.opened h where
  by : (a o : Bool) → o ≡ true → (a || o) ≡ true
  by true o h = refl
  by false o h = h

pub asked-lives : (u : Use) → u.asked ≡ true → lives u ≡ true
asked-lives u h = ap (λ b. b || u.opened) h

-- ---- a channel that changes

pub along-cast : (later : List Act) (u : Use) (c c' : Option Channel) (list list' : List Awaited) → c' ≡ c → list' ≡ list → Along later u c list → Along later u c' list'
along-cast later u c c' list list' hc hl h =
    let P : Option Channel → Type 0 = λ x. Along later u x list in
    let Q : List Awaited → Type 0 = λ x. Along later u c' x in
    subst Q (sym hl) (subst P (sym hc) h)

pub differ : (m n : ℕ) → (m == n) ≡ false → m ≢ n
differ m n is same = true≢false (sym (same-number m) ∙ ap (λ k. m == k) same ∙ is)

-- what holds of one number and of all others holds of all
pub by-number : (P : ℕ → Type 0) (n : ℕ) → P n → ((m : ℕ) → m ≢ n → P m) → (m : ℕ) → P m
by-number P n own others m = by (m == n) refl where
  by : (b : Bool) → (m == n) ≡ b → P m
  by true is = subst P (sym (the-number m n is)) own
  by false is = others m (differ m n is)

pub use-own : (n : ℕ) (u : Use) (s : Server) → (used_as n u s).uses n ≡ u
use-own n u s = ap (λ b. if b then u else s.uses n) (same-number n)

pub use-other : (m n : ℕ) (u : Use) (s : Server) → m ≢ n → (used_as n u s).uses m ≡ s.uses m
use-other m n u s ne = ap (λ b. if b then u else s.uses m) (other-number m n ne)

-- one channel is used otherwise
pub each-by : (n : ℕ) (u : Use) (s : Server) (items : List Item) (cs : Channels) (ws : List (ℕ × List Awaited))
    → Along (acts n items) u (at n cs) (awaited_on n ws) → ((m : ℕ) → m ≢ n → Along (acts m items) (s.uses m) (at m cs) (awaited_on m ws))
    → (m : ℕ) → Along (acts m items) ((used_as n u s).uses m) (at m cs) (awaited_on m ws)
each-by n u s items cs ws own others =
    let P : ℕ → Type 0 = λ m. Along (acts m items) ((used_as n u s).uses m) (at m cs) (awaited_on m ws) in
    let Q : Use → Type 0 = λ x. Along (acts n items) x (at n cs) (awaited_on n ws) in
    by-number P n (subst Q (sym (use-own n u s)) own)
    (λ m ne. (let R : Use → Type 0 = λ x. Along (acts m items) x (at m cs) (awaited_on m ws) in subst R (sym (use-other m n u s ne)) (others m ne)))

-- a listed channel that owes as before
module _ (n : ℕ) (c c' : Channel) (cs : Channels) (listed : at n cs ≡ Some c) (same : c'.debt ≡ c.debt) where
  pub put-owing : (m : ℕ) → owing (at m (put n c' cs)) ≡ owing (at m cs)
  put-owing =
      by-number (λ m. owing (at m (put n c' cs)) ≡ owing (at m cs)) n
      (ap owing (put-same n c' cs) ∙ owes c' c same ∙ ap owing (sym listed))
      (λ m ne. ap owing (put-other m n c' cs ne))
    where
      owes : (x y : Channel) → x.debt ≡ y.debt → owing (Some x) ≡ owing (Some y)
      owes x y h = let P : Debt → ℕ = λ d. owing (Some (record x { debt = d })) in ap P h

  pub put-free : is_free (at n cs) ≡ true → is_free (at n (put n c' cs)) ≡ true
  put-free free = ap is_free (put-same n c' cs) ∙ ap is_unowed same ∙ ap is_free (sym listed) ∙ free

  put-each : (s : Server) (items : List Item) (ws : List (ℕ × List Awaited)) → ((m : ℕ) → Along (acts m items) (s.uses m) (at m cs) (awaited_on m ws))
      → (m : ℕ) → Along (acts m items) (s.uses m) (at m (put n c' cs)) (awaited_on m ws)
  put-each s items ws each =
      by-number (λ m. Along (acts m items) (s.uses m) (at m (put n c' cs)) (awaited_on m ws)) n
      (along-map (at n cs) (at n (put n c' cs)) (awaited_on n ws) (awaited_on n ws)
      (stands-more (at n cs) (at n (put n c' cs)) (awaited_on n ws) (awaited_on n ws) put-free (λ r. omega arith)) (acts n items) (s.uses n) (each n))
      (λ m ne. along-cast (acts m items) (s.uses m) (at m cs) (at m (put n c' cs)) (awaited_on m ws) (awaited_on m ws) (put-other m n c' cs ne) refl (each m))

  -- it changes otherwise
  pub serves-put : (s : Server) (q : Queued) (ms : List Mark) → Serves s q cs ms → Serves s q (put n c' cs) ms
  serves-put s q ms h =
      record {
        stage = h.stage;
        staying = h.staying;
        ours = h.ours;
        secrets = h.secrets;
        each = put-each s q.control q.awaited h.each;
        due = λ m. (let a = h.due m in let b = put-owing m in omega (arith, a, b));
        begun = h.begun;
        groups = h.groups;
      }

-- ---- one frame more

secrets-push : (items : List Item) (i : Item) → secrets_in (items ++ i ∷ []) ≡ secrets_in items + secret_by i.frame
secrets-push items i =
    let w : Item → ℕ = λ (item : Item). secret_by item.frame in
    let a : secrets_in (items ++ i ∷ []) ≡ secrets_in items + secrets_in (i ∷ []) = sum_by-append w items (i ∷ []) in
    let b : secrets_in (i ∷ []) ≡ secret_by i.frame + 0 = sum_by-cons w i [] in omega (arith, a, b)

unpaid-push : (n : ℕ) (ms : List Mark) (items : List Item) (i : Item) → unpaid ms (items ++ i ∷ []) n ≡ unpaid ms items n + pays n (then_of i)
unpaid-push n ms items i =
    let w : Item → ℕ = λ (item : Item). pays n (then_of item) in
    let a : to_pay (items ++ i ∷ []) n ≡ to_pay items n + to_pay (i ∷ []) n = sum_by-append w items (i ∷ []) in
    let b : to_pay (i ∷ []) n ≡ pays n (then_of i) + 0 = sum_by-cons w i [] in omega (arith, a, b)

pub serves-push : (s : Server) (q : Queued) (cs cs' : Channels) (ms : List Mark) (i : Item) (ws : List (ℕ × List Awaited)) → Serves s q cs ms
    → is_close i.frame ≡ false
    → secret_by i.frame + waiting_for SecretDone (awaited_on 0 q.awaited) ≤ waiting_for SecretDone (awaited_on 0 ws)
    → ((n : ℕ) → Along (acts n q.control ++ act_on n i.frame ∷ []) (s.uses n) (at n cs') (awaited_on n ws))
    → ((n : ℕ) → unpaid ms q.control n + pays n (then_of i) ≤ owing (at n cs'))
    → Serves s (record q { control = q.control ++ i ∷ []; awaited = ws }) cs' ms
serves-push s q cs cs' ms i ws h other more each due =
    record {
      stage = h.stage;
      staying = h.staying;
      ours = record { begun = h.ours.begun; control = all-append IsOther q.control (i ∷ []) h.ours.control (other, tt); publish = h.ours.publish };
      secrets = (let a = h.secrets in let b = secrets-push q.control i in omega (arith, a, b, more));
      each = λ n. (let P : List Act → Type 0 = λ x. Along x (s.uses n) (at n cs') (awaited_on n ws) in
          subst P (sym (map-append (λ (item : Item). act_on n item.frame) q.control (i ∷ []))) (each n));
      due = λ n. (let a = due n in let b = unpaid-push n ms q.control i in omega (arith, a, b));
      begun = h.begun;
      groups = h.groups;
    }

-- a frame that does nothing on a channel
pub record IsPlain (i : Item) : Type 0 where
  pub idle : (n : ℕ) → act_on n i.frame ≡ Idle
  pub other : is_close i.frame ≡ false
  pub secret : secret_by i.frame ≡ 0
  pub unpaying : (n : ℕ) → pays n (then_of i) ≡ 0

pub idle-push : (a : Act) (later : List Act) (u : Use) (c : Option Channel) (list : List Awaited) → a ≡ Idle → Along later u c list → Along (later ++ a ∷ []) u c list
idle-push a later u c list is h =
    let P : Act → Type 0 = λ x. Along (later ++ x ∷ []) u c list in
    subst P (sym is) (along-push c c list list Idle refl (λ v k. k) (λ v k. k) later u h)

pub serves-plain : (s : Server) (q : Queued) (cs : Channels) (ms : List Mark) (i : Item) → IsPlain i → Serves s q cs ms
    → Serves s (record q { control = q.control ++ i ∷ [] }) cs ms
serves-plain s q cs ms i p h =
    serves-push s q cs cs ms i q.awaited h p.other (let a = p.secret in omega (arith, a))
    (λ n. idle-push (act_on n i.frame) (acts n q.control) (s.uses n) (at n cs) (awaited_on n q.awaited) (p.idle n) (h.each n))
    (λ n. (let a = h.due n in let b = p.unpaying n in omega (arith, a, b)))

-- ---- a new secret

-- where as much is awaited of what ties a channel
stands-three : (x : Option Channel) (list list' : List Awaited) → waiting_for ChannelOpened list ≤ waiting_for ChannelOpened list' → waiting_for FlowDone list ≤ waiting_for FlowDone list'
    → waiting_for ChannelClosed list ≤ waiting_for ChannelClosed list' → (v : Use) → Stands v x list → Stands v x list'
stands-three x list list' a b e v h l =
    let k = h l in
    record {
      listed = k.listed;
      asked = λ y. (let z = k.asked y in omega (arith, z, a));
      flows = (let z = k.flows in omega (arith, z, b));
      closing = λ y. (let z = k.closing y in omega (arith, z, e));
      single = k.single;
    }

-- one was answered
pub serves-secret : (s : Server) (q : Queued) (cs : Channels) (ms : List Mark) (left : ℕ) → s.secrets ≡ suc left → Serves s q cs ms
    → Serves (record s { secrets = left }) (record q { awaited = left_awaited 0 SecretDone q.awaited }) cs ms
serves-secret s q cs ms left owed h =
    let ws = q.awaited in
    let list = awaited_on 0 ws in
    let rest = without_first (is_of SecretDone) list in
    record {
      stage = h.stage;
      staying = h.staying;
      ours = h.ours;
      secrets =
          (let a = h.secrets in let b = waiting-without SecretDone list in let e = left-more 0 rest ws SecretDone in omega (arith, a, b, e, owed));
      each = by-number (λ m. Along (acts m q.control) (s.uses m) (at m cs) (awaited_on m (left_awaited 0 SecretDone ws))) 0
          (along-map (at 0 cs) (at 0 cs) list (awaited_on 0 (left_awaited 0 SecretDone ws))
          (stands-three (at 0 cs) list (awaited_on 0 (left_awaited 0 SecretDone ws))
          (let a = waiting-others ChannelOpened SecretDone list (λ same. absurd (omega (arith, same))) in let b = left-more 0 rest ws ChannelOpened in omega (arith, a, b))
          (let a = waiting-others FlowDone SecretDone list (λ same. absurd (omega (arith, same))) in let b = left-more 0 rest ws FlowDone in omega (arith, a, b))
          (let a = waiting-others ChannelClosed SecretDone list (λ same. absurd (omega (arith, same))) in let b = left-more 0 rest ws ChannelClosed in omega (arith, a, b)))
          (acts 0 q.control) (s.uses 0) (h.each 0))
          (λ m ne. along-cast (acts m q.control) (s.uses m) (at m cs) (at m cs) (awaited_on m ws) (awaited_on m (left_awaited 0 SecretDone ws)) refl
          (left-other m 0 rest ws ne) (h.each m));
      due = h.due;
      begun = h.begun;
      groups = h.groups;
    }
