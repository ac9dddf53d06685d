-- What is heard on a channel that opens or closes, and our close-ok that was sent, keep what ties channels to the
-- conversation.
use Rattle.std.proofs.Common.{◌≡◌, ◌≢◌, ℕ, suc, if◌then◌else◌, Bool, true, false, List, [], ◌∷◌, Some, None, inl, inr, refl, ap, sym, ◌∙◌, subst, true≢false, arith}
use Rattle.std.specs.Map.{keys_of}
use Rattle.amqp_outbox.specs.declared.reply.Awaited.{Awaited}
use Rattle.amqp_outbox.specs.declared.reply.Reply.{Reply}
use Rattle.amqp_outbox.specs.declared.reply.Reply.TheVariants.{ChannelOpened, ChannelClosed}
use Rattle.amqp_outbox.specs.Replies.{method_of, first_awaited, left_awaited}
use Rattle.amqp_channels.specs.declared.channels.Channel.{Channel}
use Rattle.amqp_channels.specs.declared.channels.Debt.{Debt}
use Rattle.amqp_channels.specs.declared.channels.Debt.TheVariants.{Nothing, Owed, Paid}
use Rattle.amqp_promise.specs.declared.state.ChannelState.{ChannelState}
use Rattle.amqp_promise.specs.declared.state.ChannelState.TheVariants as channel
use Rattle.amqp_maps.specs.Listed.{at, put, without}
use Rattle.amqp_channels.specs.Channels.{made_answered, is_owed}
use Rattle.amqp_legal.specs.Decider.{Speech, now_on}
use Rattle.amqp_legal.specs.declared.progress.Usage.{Usage}
use Rattle.amqp_legal.specs.declared.progress.Usage.TheVariants.{Shut, InUse, Left}
use Rattle.amqp_rules.specs.Sound.{Ascend}
use Rattle.amqp_rules.proofs.Ascending.{put-from, without-from, without-ascends, at-gone}
use Rattle.amqp_maps.proofs.Numbered.{put-same, put-other, without-other}
use Rattle.amqp_legal_rules.proofs.Ties.{tied_on, owing, TiesClosing, TiesState, TiesChannels, is_close_among}
use Rattle.amqp_legal_rules.proofs.Expecting.{answered-other, answered-ascend, none-awaited, one-answered, gone-same, gone-other}
use Rattle.amqp_legal_rules.proofs.OnChannels.{Replies, Listed, above-zero, ascends, ties-as, on-change, used-same, used-other, ties-of, awaits-of, listed-some, owed-of, owed-put, debt-owing, owing-by}

-- ---- open-ok and close-ok

-- where nothing is owed to the server, open-ok alone tells that the channel was being opened
opened-not-closed : (n : ℕ) (ws : Replies) (a : Awaited) → Ascend (keys_of ws) → first_awaited n ChannelOpened ws ≡ Some a → tied_on n ws ≡ ChannelClosed ∷ [] → ⊥
opened-not-closed n ws a sorted first h = differ (one-answered n ChannelOpened ChannelClosed ws a refl sorted first h).same where
  differ : method_of ChannelClosed ≡ method_of ChannelOpened → ⊥
  differ k = omega (arith, k)

opened-closing : (d : Debt) (n : ℕ) (ws : Replies) (u : Usage) (a : Awaited) → Ascend (keys_of ws) → first_awaited n ChannelOpened ws ≡ Some a → TiesClosing d (tied_on n ws) u → ⊥
opened-closing Nothing n ws u a sorted first h = opened-not-closed n ws a sorted first h.0
opened-closing Owed n ws u a sorted first h =
    elim h.0 [
      | inl none ↦ none-awaited n ChannelOpened ws a refl first none
      | inr one ↦ opened-not-closed n ws a sorted first one
    ]
opened-closing Paid n ws u a sorted first h = opened-not-closed n ws a sorted first h.0

-- what an awaited reply tells of a channel's state
opened-state : (s : ChannelState) (d : Debt) (n : ℕ) (ws : Replies) (u : Usage) (a : Awaited) → Ascend (keys_of ws) → first_awaited n ChannelOpened ws ≡ Some a
    → TiesState s d (tied_on n ws) u → (tied_on n (left_awaited n ChannelOpened ws) ≡ []) × (u ≡ InUse) × (d ≡ Nothing) × (is_close_among (tied_on n ws) ≡ false)
opened-state channel.Initial d n ws u a sorted first h =
    ((one-answered n ChannelOpened ChannelOpened ws a refl sorted first h.0).none, h.1, h.2, ap is_close_among h.0)
opened-state channel.Reconnecting d n ws u a sorted first h =
    ((one-answered n ChannelOpened ChannelOpened ws a refl sorted first h.0).none, h.1, h.2, ap is_close_among h.0)
opened-state channel.Connected d n ws u a sorted first h = absurd (none-awaited n ChannelOpened ws a refl first h.0)
opened-state channel.Closing d n ws u a sorted first h = absurd (opened-closing d n ws u a sorted first h)
opened-state _ d n ws u a sorted first h = absurd h

-- where open-ok is awaited alone, close-ok is not
closed-not-opened : (n : ℕ) (ws : Replies) (a : Awaited) → Ascend (keys_of ws) → first_awaited n ChannelClosed ws ≡ Some a → tied_on n ws ≡ ChannelOpened ∷ [] → ⊥
closed-not-opened n ws a sorted first h = differ (one-answered n ChannelClosed ChannelOpened ws a refl sorted first h).same where
  differ : method_of ChannelOpened ≡ method_of ChannelClosed → ⊥
  differ k = omega (arith, k)

closed-state : (s : ChannelState) (d : Debt) (n : ℕ) (ws : Replies) (u : Usage) (a : Awaited) → Ascend (keys_of ws) → first_awaited n ChannelClosed ws ≡ Some a
    → TiesState s d (tied_on n ws) u → (s ≡ channel.Closing) × TiesClosing d (tied_on n ws) u
closed-state channel.Closing d n ws u a sorted first h = (refl, h)
closed-state channel.Connected d n ws u a sorted first h = absurd (none-awaited n ChannelClosed ws a refl first h.0)
closed-state channel.Initial d n ws u a sorted first h = absurd (closed-not-opened n ws a sorted first h.0)
closed-state channel.Reconnecting d n ws u a sorted first h = absurd (closed-not-opened n ws a sorted first h.0)
closed-state _ d n ws u a sorted first h = absurd h

pub on-opened : (n : ℕ) (cs : Listed) (ws : Replies) (due : ℕ → ℕ) (v : Speech) (c : Channel) (a : Awaited) → at n cs ≡ Some c → first_awaited n ChannelOpened ws ≡ Some a
    → TiesChannels cs ws due v → TiesChannels (put n (record c { state = channel.Connected }) cs) (left_awaited n ChannelOpened ws) due v
on-opened n cs ws due v c a listed first h =
    let c' : Channel = record c { state = channel.Connected } in
    let ws' = left_awaited n ChannelOpened ws in
    let k = opened-state c.state c.debt n ws (v.usage n) a h.awaited_sorted first (ties-of n cs ws due v c c.state listed refl h) in
    on-change n cs (put n c' cs) ws ws' due due v v h h.speaking h.complete
    (ties-as (Some c') (at n (put n c' cs)) [] (tied_on n ws') InUse (v.usage n) (put-same n c' cs) k.0 k.1
    ((refl, refl, k.2), awaits-of n cs ws due v c listed h ∙ k.3))
    (owed-put n cs ws due v c c' listed (debt-owing c c' refl) h)
    (record {
      sorted = put-from n c' 0 cs (above-zero n (listed-some n cs ws due v c listed h)) h.sorted;
      awaited_sorted = answered-ascend n ChannelOpened ws h.awaited_sorted;
      listed = λ m ne. put-other m n c' cs ne;
      awaited = λ m ne. answered-other m n ChannelOpened ws ne;
      owed = λ m ne. refl;
      used = λ m ne. refl;
    })

-- the channels, once our close of one was answered
abbrev pub left_listed : Debt → ℕ → Channel → Listed → Listed
left_listed Owed n c cs = put n (made_answered c) cs
left_listed _ n c cs = without n cs

left-not-used : Left ≢ InUse
left-not-used k = cc

shut-not-used : Shut ≢ InUse
shut-not-used k = cc

-- a channel goes, of which no reply is awaited any more
on-gone : (n : ℕ) (cs : Listed) (ws ws' : Replies) (due due' : ℕ → ℕ) (v : Speech) (u : Usage) → u ≢ InUse → v.usage n ≡ u → due' n ≡ 0
    → ((m : ℕ) → m ≢ n → due' m ≡ due m) → Ascend (keys_of ws') → tied_on n ws' ≡ [] → ((m : ℕ) → m ≢ n → tied_on m ws' ≡ tied_on m ws)
    → TiesChannels cs ws due v → TiesChannels (without n cs) ws' due' v
on-gone n cs ws ws' due due' v u unused used owed others sorted replies awaited h =
    let gone : at n (without n cs) ≡ None = at-gone n cs (ascends cs h.sorted) in
    on-change n cs (without n cs) ws ws' due due' v v h h.speaking h.complete
    (ties-as None (at n (without n cs)) [] (tied_on n ws') u (v.usage n) gone replies used (refl, unused))
    (owed ∙ ap owing (sym gone))
    (record {
      sorted = without-from n 0 cs h.sorted;
      awaited_sorted = sorted;
      listed = λ m ne. without-other m n cs ne;
      awaited = awaited;
      owed = others;
      used = λ m ne. refl;
    })

-- close-ok came, and what else was awaited on the channel goes
pub on-closed : (n : ℕ) (cs : Listed) (ws : Replies) (due : ℕ → ℕ) (v : Speech) (c : Channel) (a : Awaited) → at n cs ≡ Some c → first_awaited n ChannelClosed ws ≡ Some a
    → TiesChannels cs ws due v → TiesChannels (left_listed c.debt n c cs) (without n (left_awaited n ChannelClosed ws)) due v
on-closed n cs ws due v c a listed first h =
    let ws1 : Replies = left_awaited n ChannelClosed ws in
    let ws' : Replies = without n ws1 in
    let ascend1 = answered-ascend n ChannelClosed ws h.awaited_sorted in
    let ascend' = without-ascends n ws1 ascend1 in
    let none : tied_on n ws' ≡ [] = gone-same n ws1 ascend1 in
    let others : (m : ℕ) → m ≢ n → tied_on m ws' ≡ tied_on m ws = λ m ne. gone-other m n ws1 ne ∙ answered-other m n ChannelClosed ws ne in
    let k = closed-state c.state c.debt n ws (v.usage n) a h.awaited_sorted first (ties-of n cs ws due v c c.state listed refl h) in
    by c.debt refl k.0 k.1 ascend' none others
  where
    by : (d : Debt) → c.debt ≡ d → c.state ≡ channel.Closing → TiesClosing d (tied_on n ws) (v.usage n) → Ascend (keys_of (without n (left_awaited n ChannelClosed ws)))
        → tied_on n (without n (left_awaited n ChannelClosed ws)) ≡ []
        → ((m : ℕ) → m ≢ n → tied_on m (without n (left_awaited n ChannelClosed ws)) ≡ tied_on m ws)
        → TiesChannels (left_listed d n c cs) (without n (left_awaited n ChannelClosed ws)) due v
    by Nothing is state ties sorted none others =
        on-gone n cs ws (without n (left_awaited n ChannelClosed ws)) due due v Left left-not-used ties.1
        (owed-of n cs ws due v c listed h ∙ owing-by c Nothing is) (λ m ne. refl) sorted none others h
    by Paid is state ties sorted none others =
        on-gone n cs ws (without n (left_awaited n ChannelClosed ws)) due due v Shut shut-not-used ties.1
        (owed-of n cs ws due v c listed h ∙ owing-by c Paid is) (λ m ne. refl) sorted none others h
    by Owed is state ties sorted none others =
        let ws' : Replies = without n (left_awaited n ChannelClosed ws) in
        let here : TiesState c.state c.debt [] Shut =
        (let Q : ChannelState → Type 0 = λ s. TiesState s c.debt [] Shut in
        let R : Debt → Type 0 = λ d. TiesClosing d [] Shut in
        subst Q (sym state) (subst R (sym is) (inl refl, refl))) in
        let c' : Channel = made_answered c in
        on-change n cs (put n c' cs) ws ws' due due v v h h.speaking h.complete
        (ties-as (Some c') (at n (put n c' cs)) [] (tied_on n ws') Shut (v.usage n) (put-same n c' cs) none ties.1 (here, refl))
        (owed-put n cs ws due v c c' listed (debt-owing c c' refl) h)
        (record {
          sorted = put-from n c' 0 cs (above-zero n (listed-some n cs ws due v c listed h)) h.sorted;
          awaited_sorted = sorted;
          listed = λ m ne. put-other m n c' cs ne;
          awaited = others;
          owed = λ m ne. refl;
          used = λ m ne. refl;
        })

-- ---- the server's close

-- of a channel that we use
pub record IsUsed (n : ℕ) (due : ℕ → ℕ) (v : Speech) : Type 0 where
  pub used : v.usage n ≡ InUse
  pub none_due : due n ≡ 0

-- close-ok is awaited, and is not
both-close : (b : Bool) (rs : List Reply) → b ≡ is_close_among rs → b ≡ false → rs ≡ ChannelClosed ∷ [] → ⊥
both-close b rs told lacks one = true≢false (sym (told ∙ ap is_close_among one) ∙ lacks)

no-close : (b : Bool) (rs : List Reply) → b ≡ is_close_among rs → b ≡ true → is_close_among rs ≡ false → ⊥
no-close b rs told holds none = true≢false (sym holds ∙ told ∙ none)

-- a channel of which nothing is owed, and whose close-ok we do not await, is in use
used-state : (s : ChannelState) (d : Debt) (b : Bool) (rs : List Reply) (u : Usage) → d ≡ Nothing → b ≡ is_close_among rs → b ≡ false → TiesState s d rs u → u ≡ InUse
used-state channel.Initial d b rs u is told none h = h.1
used-state channel.Connected d b rs u is told none h = h.1
used-state channel.Reconnecting d b rs u is told none h = h.1
used-state channel.Closing d b rs u is told none h =
    let Q : Debt → Type 0 = λ x. TiesClosing x rs u in absurd (both-close b rs told none (subst Q is h).0)
used-state _ d b rs u is told none h = absurd h

pub is-used : (n : ℕ) (cs : Listed) (ws : Replies) (due : ℕ → ℕ) (v : Speech) (c : Channel) → at n cs ≡ Some c → c.debt ≡ Nothing
    → c.awaits_close_ok ≡ false → TiesChannels cs ws due v → IsUsed n due v
is-used n cs ws due v c listed is none h =
    record {
      used = used-state c.state c.debt c.awaits_close_ok (tied_on n ws) (v.usage n) is (awaits-of n cs ws due v c listed h) none (ties-of n cs ws due v c c.state listed refl h);
      none_due = owed-of n cs ws due v c listed h ∙ owing-by c Nothing is;
    }

-- and is closed by the server, which is answered
pub on-server-close : (n : ℕ) (cs : Listed) (ws : Replies) (due due' : ℕ → ℕ) (v : Speech) (c : Channel) → at n cs ≡ Some c → c.awaits_close_ok ≡ false
    → due' n ≡ 1 → ((m : ℕ) → m ≢ n → due' m ≡ due m) → TiesChannels cs ws due v
    → TiesChannels (put n (record c { state = channel.Closing; debt = Owed }) cs) (without n ws) due' (now_on n Shut v)
on-server-close n cs ws due due' v c listed left owed others h =
    let c' : Channel = record c { state = channel.Closing; debt = Owed } in
    let ws' : Replies = without n ws in
    on-change n cs (put n c' cs) ws ws' due due' v (now_on n Shut v) h h.speaking tt
    (ties-as (Some c') (at n (put n c' cs)) [] (tied_on n ws') Shut ((now_on n Shut v).usage n)
    (put-same n c' cs) (gone-same n ws h.awaited_sorted) (used-same n Shut v) ((inl refl, refl), left))
    (owed ∙ ap owing (sym (put-same n c' cs)))
    (record {
      sorted = put-from n c' 0 cs (above-zero n (listed-some n cs ws due v c listed h)) h.sorted;
      awaited_sorted = without-ascends n ws h.awaited_sorted;
      listed = λ m ne. put-other m n c' cs ne;
      awaited = λ m ne. gone-other m n ws ne;
      owed = others;
      used = λ m ne. used-other n Shut v m ne;
    })

-- of a channel that we closed
pub record IsLeft (n : ℕ) (ws : Replies) (due : ℕ → ℕ) (v : Speech) (c : Channel) : Type 0 where
  pub closing_state : c.state ≡ channel.Closing
  pub one : tied_on n ws ≡ ChannelClosed ∷ []
  pub unused : v.usage n ≡ Left
  pub none_due : due n ≡ 0
  pub awaits : c.awaits_close_ok ≡ true

left-state : (s : ChannelState) (d : Debt) (b : Bool) (rs : List Reply) (u : Usage) → d ≡ Nothing → b ≡ is_close_among rs → b ≡ true → TiesState s d rs u
    → (s ≡ channel.Closing) × (rs ≡ ChannelClosed ∷ []) × (u ≡ Left)
left-state channel.Initial d b rs u is told holds h = absurd (no-close b rs told holds (ap is_close_among h.0))
left-state channel.Connected d b rs u is told holds h = absurd (no-close b rs told holds (ap is_close_among h.0))
left-state channel.Reconnecting d b rs u is told holds h = absurd (no-close b rs told holds (ap is_close_among h.0))
left-state channel.Closing d b rs u is told holds h =
    let Q : Debt → Type 0 = λ x. TiesClosing x rs u in let k : TiesClosing Nothing rs u = subst Q is h in (refl, k.0, k.1)
left-state _ d b rs u is told holds h = absurd h

pub is-left : (n : ℕ) (cs : Listed) (ws : Replies) (due : ℕ → ℕ) (v : Speech) (c : Channel) → at n cs ≡ Some c → c.debt ≡ Nothing
    → c.awaits_close_ok ≡ true → TiesChannels cs ws due v → IsLeft n ws due v c
is-left n cs ws due v c listed is awaits h =
    let k =
    left-state c.state c.debt c.awaits_close_ok (tied_on n ws) (v.usage n) is (awaits-of n cs ws due v c listed h) awaits
    (ties-of n cs ws due v c c.state listed refl h) in
    record { closing_state = k.0; one = k.1; unused = k.2; none_due = owed-of n cs ws due v c listed h ∙ owing-by c Nothing is; awaits = awaits }

-- and is closed by the server too, which is answered
pub on-crossing : (n : ℕ) (cs : Listed) (ws : Replies) (due due' : ℕ → ℕ) (v : Speech) (c : Channel) → at n cs ≡ Some c → IsLeft n ws due v c → due' n ≡ 1
    → ((m : ℕ) → m ≢ n → due' m ≡ due m) → TiesChannels cs ws due v → TiesChannels (put n (record c { debt = Owed }) cs) ws due' (now_on n Shut v)
on-crossing n cs ws due due' v c listed is owed others h =
    let c' : Channel = record c { debt = Owed } in
    let here : TiesState c.state Owed (ChannelClosed ∷ []) Shut =
    (let Q : ChannelState → Type 0 = λ s. TiesState s Owed (ChannelClosed ∷ []) Shut in subst Q (sym is.closing_state) (inr refl, refl)) in
    on-change n cs (put n c' cs) ws ws due due' v (now_on n Shut v) h h.speaking tt
    (ties-as (Some c') (at n (put n c' cs)) (ChannelClosed ∷ []) (tied_on n ws) Shut ((now_on n Shut v).usage n)
    (put-same n c' cs) is.one (used-same n Shut v) (here, is.awaits))
    (owed ∙ ap owing (sym (put-same n c' cs)))
    (record {
      sorted = put-from n c' 0 cs (above-zero n (listed-some n cs ws due v c listed h)) h.sorted;
      awaited_sorted = h.awaited_sorted;
      listed = λ m ne. put-other m n c' cs ne;
      awaited = λ m ne. refl;
      owed = others;
      used = λ m ne. used-other n Shut v m ne;
    })

-- ---- our close-ok was sent

-- a channel whose close-ok is on its way owes it
pub record IsOwed (n : ℕ) (ws : Replies) (v : Speech) (c : Channel) : Type 0 where
  pub closing_state : c.state ≡ channel.Closing
  pub ties : TiesClosing Owed (tied_on n ws) (v.usage n)

-- a channel that is not listed has none on its way
pub none-due : (n k : ℕ) (cs : Listed) (ws : Replies) (due : ℕ → ℕ) (v : Speech) → at n cs ≡ None → due n ≡ suc k → TiesChannels cs ws due v → ⊥
none-due n k cs ws due v absent owed h =
    let none : due n ≡ 0 = h.owes n ∙ ap owing absent in omega (arith, none, owed)

-- nor has one that owes none
pub none-owed : (n k : ℕ) (cs : Listed) (ws : Replies) (due : ℕ → ℕ) (v : Speech) (c : Channel) → at n cs ≡ Some c → is_owed c.debt ≡ false → due n ≡ suc k → TiesChannels cs ws due v → ⊥
none-owed n k cs ws due v c listed free owed h =
    let none : due n ≡ 0 = owed-of n cs ws due v c listed h ∙ ap (λ b. if b then 1 else 0) free in omega (arith, none, owed)

-- and a listed one has one on its way
pub one-due : (n k : ℕ) (cs : Listed) (ws : Replies) (due : ℕ → ℕ) (v : Speech) (c : Channel) → at n cs ≡ Some c → due n ≡ suc k → TiesChannels cs ws due v
    → (k ≡ 0) × IsOwed n ws v c
one-due n k cs ws due v c listed owed h =
    by c.debt refl (sym (owed-of n cs ws due v c listed h) ∙ owed) (ties-of n cs ws due v c c.state listed refl h)
  where
    in_state : (s : ChannelState) → TiesState s Owed (tied_on n ws) (v.usage n) → (s ≡ channel.Closing) × TiesClosing Owed (tied_on n ws) (v.usage n)
    in_state channel.Closing ties = (refl, ties)
    in_state channel.Initial ties = absurd cc
    in_state channel.Connected ties = absurd cc
    in_state channel.Reconnecting ties = absurd cc
    in_state _ ties = absurd ties

    by : (d : Debt) → c.debt ≡ d → owing (Some c) ≡ suc k → TiesState c.state c.debt (tied_on n ws) (v.usage n) → (k ≡ 0) × IsOwed n ws v c
    by Owed is one ties =
        let Q : Debt → Type 0 = λ d. TiesState c.state d (tied_on n ws) (v.usage n) in
        let first : suc k ≡ 1 = sym one ∙ owing-by c Owed is in
        let here = in_state c.state (subst Q is ties) in
        (omega (arith, first), record { closing_state = here.0; ties = here.1 })
    by Nothing is one ties = let none : 0 ≡ suc k = sym (owing-by c Nothing is) ∙ one in absurd (omega (arith, none))
    by Paid is one ties = let none : 0 ≡ suc k = sym (owing-by c Paid is) ∙ one in absurd (omega (arith, none))

-- where our close is not answered, the channel stays
pub on-paid : (n : ℕ) (cs : Listed) (ws : Replies) (due due' : ℕ → ℕ) (v : Speech) (c : Channel) → at n cs ≡ Some c → IsOwed n ws v c
    → c.awaits_close_ok ≡ true → due' n ≡ 0 → ((m : ℕ) → m ≢ n → due' m ≡ due m) → TiesChannels cs ws due v
    → TiesChannels (put n (record c { debt = Paid }) cs) ws due' v
on-paid n cs ws due due' v c listed is awaits owed others h =
    let c' : Channel = record c { debt = Paid } in
    let one : tied_on n ws ≡ ChannelClosed ∷ [] =
    elim is.ties.0 [
      | inl none ↦ absurd (no-close c.awaits_close_ok (tied_on n ws) (awaits-of n cs ws due v c listed h) awaits (ap is_close_among none))
      | inr one ↦ one
    ] in
    let here : TiesState c.state Paid (ChannelClosed ∷ []) Shut =
    (let Q : ChannelState → Type 0 = λ s. TiesState s Paid (ChannelClosed ∷ []) Shut in subst Q (sym is.closing_state) (refl, refl)) in
    on-change n cs (put n c' cs) ws ws due due' v v h h.speaking h.complete
    (ties-as (Some c') (at n (put n c' cs)) (ChannelClosed ∷ []) (tied_on n ws) Shut (v.usage n) (put-same n c' cs) one is.ties.1 (here, awaits))
    (owed ∙ ap owing (sym (put-same n c' cs)))
    (record {
      sorted = put-from n c' 0 cs (above-zero n (listed-some n cs ws due v c listed h)) h.sorted;
      awaited_sorted = h.awaited_sorted;
      listed = λ m ne. put-other m n c' cs ne;
      awaited = λ m ne. refl;
      owed = others;
      used = λ m ne. refl;
    })

-- else it goes
pub on-paid-gone : (n : ℕ) (cs : Listed) (ws : Replies) (due due' : ℕ → ℕ) (v : Speech) (c : Channel) → at n cs ≡ Some c → IsOwed n ws v c
    → c.awaits_close_ok ≡ false → due' n ≡ 0 → ((m : ℕ) → m ≢ n → due' m ≡ due m) → TiesChannels cs ws due v
    → TiesChannels (without n cs) ws due' v
on-paid-gone n cs ws due due' v c listed is left owed others h =
    let replies : tied_on n ws ≡ [] =
    elim is.ties.0 [
      | inl none ↦ none
      | inr one ↦ absurd (both-close c.awaits_close_ok (tied_on n ws) (awaits-of n cs ws due v c listed h) left one)
    ] in
    on-gone n cs ws ws due due' v Shut shut-not-used is.ties.1 owed others h.awaited_sorted replies (λ m ne. refl) h
