-- What each rule keeps of which promise opened which channel, and of what is awaited on the channels.
use Rattle.std.proofs.Common.{◌≡◌, ◌≢◌, ◌∙◌, ◌+◌, ap, sym, refl, subst, ℕ, Bool, true, false, true≢false, cond, List, [], ◌∷◌, ◌++◌, Option, Some, None, option_map, unwrap_or, inl, inr, arith}
use Rattle.std.proofs.lemmas.Bool.{cases_eq}
use Rattle.std.specs.Prelude.{filter}
use Rattle.std.specs.Ordering.{nat_cmp}
use Rattle.std.specs.BTreeMap.{is_at}
use Rattle.std.specs.Map.{keys_of}
use Rattle.amqp_outbox.specs.declared.reply.Awaited.{Awaited}
use Rattle.amqp_outbox.specs.declared.reply.Reply.{Reply}
use Rattle.amqp_outbox.specs.declared.reply.Reply.TheVariants.{ChannelOpened, ChannelClosed}
use Rattle.amqp_outbox.specs.Lists.{without_first}
use Rattle.amqp_outbox.specs.Replies.{is_of, awaited_on, expected, left_awaited}
use Rattle.amqp_promise.specs.declared.state.ConnectionState.{ConnectionState}
use Rattle.amqp_promise.specs.declared.state.ConnectionState.TheVariants.{Initial, Closing, Reconnecting}
use Rattle.amqp_promise.specs.declared.state.ChannelState.TheVariants as channel
use Rattle.amqp_channels.specs.declared.channels.Channel.{Channel}
use Rattle.amqp_channels.specs.declared.channels.Debt.{Debt}
use Rattle.amqp_channels.specs.declared.channels.Debt.TheVariants as debt
use Rattle.amqp_maps.specs.Listed.{at, put, without, map_values}
use Rattle.amqp_channels.specs.Channels.{is_owed, new_channel, made_closing, made_leaving, made_answered}
use Rattle.amqp_channels.specs.Openings.{opener}
use Rattle.amqp_channels.specs.Kept.{is_kept_in, reconnecting, kept}
use Rattle.amqp_rules.specs.Sound.{Ascend, AscendFrom, OpeningHas, AllOpenings, NoOpening, FitsChannel, is_unopened, AwaitsNothing, FitsChannels}
use Rattle.amqp_rules.proofs.Ascending.{none-below, without-ascends}
use Rattle.amqp_maps.proofs.Numbered.{put-same, put-other, is_other}
use Rattle.amqp_channels.proofs.Openings.{opener-closing}
use Rattle.amqp_rules.proofs.AwaitedOn.{expected-same, expected-other, expected-ascend, answered-same, answered-other, answered-ascend, answered-none, gone-same, gone-other, openings-more, openings-less, IsOther, closing, closing-more, closing-now, closing-less}
use Rattle.amqp_rules.proofs.OpenedBy.{nothing-there, fits-changed, fits-put, fits-both, fits-replies, fits-gone, listed-fits}

abbrev Listed : Type 0
Listed = List (ℕ × Channel)

abbrev Replies : Type 0
Replies = List (ℕ × List Awaited)

-- where no promise awaits open-ok, each that does has what is wanted
no-opening : (P : ℕ → Type 0) (list : List Awaited) → NoOpening list → AllOpenings P list
no-opening P [] none = tt
no-opening P (a ∷ list) none = (by a.reply a.promise none.0, no-opening P list none.1) where
  by : (r : Reply) (promise : Option ℕ) → OpeningHas (λ number. ⊥) r promise → OpeningHas P r promise
  by ChannelOpened (Some number) h = absurd h
  by _ _ h = tt

-- a reply of another kind came
after-answer : (r : Reply) (n : ℕ) (o : Option Channel) (ws : Replies) → IsOther r → Ascend (keys_of ws) → FitsChannel o n ws → FitsChannel o n (left_awaited n r ws)
after-answer r n None ws lacks ascend h =
    let left = answered-same n r ws ascend in (
      ap closing left ∙ closing-less r (awaited_on n ws) lacks ∙ h.0,
      subst (λ l. NoOpening l) (sym left) (openings-less (λ number. ⊥) (is_of r) (awaited_on n ws) h.1),
    )
after-answer r n (Some c) ws lacks ascend h =
    let left = answered-same n r ws ascend in (
      h.0 ∙ sym (ap closing left ∙ closing-less r (awaited_on n ws) lacks),
      λ owed free. subst (λ l. NoOpening l) (sym left) (openings-less (λ number. ⊥) (is_of r) (awaited_on n ws) (h.1 owed free)),
    )

-- one more reply of another kind is awaited, and no promise awaits open-ok by it
after-await : (a : Awaited) (n : ℕ) (o : Option Channel) (ws : Replies) → IsOther a.reply → OpeningHas (λ number. ⊥) a.reply a.promise → FitsChannel o n ws → FitsChannel o n (expected n a ws)
after-await a n None ws lacks one h =
    let more = expected-same n a ws in (
      ap closing more ∙ closing-more (awaited_on n ws) a lacks ∙ h.0,
      subst (λ l. NoOpening l) (sym more) (openings-more (λ number. ⊥) (awaited_on n ws) a one h.1),
    )
after-await a n (Some c) ws lacks one h =
    let more = expected-same n a ws in (
      h.0 ∙ sym (ap closing more ∙ closing-more (awaited_on n ws) a lacks),
      λ owed free. subst (λ l. NoOpening l) (sym more) (openings-more (λ number. ⊥) (awaited_on n ws) a one (h.1 owed free)),
    )

-- ---- the channels that are kept over the loss of a link

-- a channel that is kept was listed
abbrev WasListed : ℕ → Channel → Listed → Type 0
WasListed n x es = (c : Channel) × (at n es ≡ Some c) × (x.opened ≡ c.opened) × (x.awaits_close_ok ≡ false)

module _ (n : ℕ) (x : Channel) (e : ℕ × Channel) (es : Listed) where
  kept-first : is_at (nat_cmp n) e.0 ≡ true → Some (reconnecting e.1) ≡ Some x → WasListed n x (e ∷ es)
  kept-first at_first is =
      let same : reconnecting e.1 ≡ x = cc in
      (e.1, ap (λ b. cond b (Some e.1) (at n es)) at_first, sym (ap (λ (y : Channel). y.opened) same), sym (ap (λ (y : Channel). y.awaits_close_ok) same))

  later : is_at (nat_cmp n) e.0 ≡ false → WasListed n x es → WasListed n x (e ∷ es)
  later at_first w = (w.0, ap (λ b. cond b (Some e.1) (at n es)) at_first ∙ w.1, w.2, w.3)

  gone : AscendFrom e.0 (keys_of es) → is_at (nat_cmp n) e.0 ≡ true → WasListed n x es → ⊥
  gone sorted at_first w =
      elim (cases_eq n e.0) [
        | inl same ↦ (let none : at n es ≡ None = ap (λ i. at i es) same ∙ none-below e.0 es sorted in nothing-there (at n es) w.0 none w.1)
        | inr ne ↦ true≢false (sym at_first ∙ is_other n e.0 (λ k. ne (sym k)))
      ]

at-kept : (k n : ℕ) (x : Channel) (es : Listed) → AscendFrom k (keys_of es) → at n (kept es) ≡ Some x → WasListed n x es
at-kept k n x [] sorted is = absurd (nothing-there (at n (kept [])) x refl is)
at-kept k n x (e ∷ es) sorted is = by (is_kept_in (e.1).state) (is_at (nat_cmp n) e.0) refl is (at-kept e.0 n x es sorted.1) where
  by : (b first : Bool) → is_at (nat_cmp n) e.0 ≡ first
      → at n (map_values reconnecting (cond b (e ∷ filter (λ e. is_kept_in (e.1).state) es) (filter (λ e. is_kept_in (e.1).state) es))) ≡ Some x
      → (at n (kept es) ≡ Some x → WasListed n x es) → WasListed n x (e ∷ es)
  by true true at_first is rest = kept-first n x e es at_first (sym (ap (λ b. cond b (Some (reconnecting e.1)) (at n (kept es))) at_first) ∙ is)
  by true false at_first is rest = later n x e es at_first (rest (sym (ap (λ b. cond b (Some (reconnecting e.1)) (at n (kept es))) at_first) ∙ is))
  by false true at_first is rest = absurd (gone n x e es sorted.1 at_first (rest is))
  by false false at_first is rest = later n x e es at_first (rest is)

-- ---- the rules

module _ (state : ConnectionState) (acting : Bool) (cs : Listed) (ws : Replies) (made : ℕ) (h : FitsChannels state acting cs ws made) where
  -- ---- one channel, or what is awaited on one number

  -- open-ok came
  pub fits-opened : (n : ℕ) (c : Channel) → at n cs ≡ Some c → is_unopened state ≡ false
      → FitsChannels state acting (put n (record c { state = channel.Connected }) cs) (left_awaited n ChannelOpened ws) made
  fits-opened n c listed opened =
      fits-both state acting cs ws made h n c (record c { state = channel.Connected }) (left_awaited n ChannelOpened ws)
      (without_first (is_of ChannelOpened) (awaited_on n ws)) listed refl
      (λ m ne. answered-other n ChannelOpened ws m ne) (answered-same n ChannelOpened ws h.ascend) (answered-ascend n ChannelOpened ws h.ascend)
      (openings-less (λ p. p ≡ c.opened) (is_of ChannelOpened) (awaited_on n ws) (h.opening n c listed))
      (λ a. after-answer ChannelOpened n (Some c) ws refl h.ascend (listed-fits state acting cs ws made h n c listed a)) opened

  -- a reply of another kind came
  pub fits-answered : (r : Reply) (n : ℕ) → IsOther r → FitsChannels state acting cs (left_awaited n r ws) made
  fits-answered r n lacks =
      fits-replies state acting cs ws made h n (left_awaited n r ws) (without_first (is_of r) (awaited_on n ws))
      (λ m ne. answered-other n r ws m ne) (answered-same n r ws h.ascend) (answered-ascend n r ws h.ascend)
      (λ c listed. openings-less (λ p. p ≡ c.opened) (is_of r) (awaited_on n ws) (h.opening n c listed))
      (λ a. after-answer r n (at n cs) ws lacks h.ascend (h.fits a n)) (λ u is. answered-none n r ws is)

  -- one more reply is awaited, of another kind and without a promise of open-ok
  pub fits-awaited : (a : Awaited) (n : ℕ) → IsOther a.reply → ((P : ℕ → Type 0) → OpeningHas P a.reply a.promise) → is_unopened state ≡ false
      → FitsChannels state acting cs (expected n a ws) made
  fits-awaited a n lacks one opened =
      fits-replies state acting cs ws made h n (expected n a ws) (awaited_on n ws ++ a ∷ [])
      (λ m ne. expected-other m n a ws ne) (expected-same n a ws) (expected-ascend n a ws h.ascend)
      (λ c listed. openings-more (λ p. p ≡ c.opened) (awaited_on n ws) a (one (λ p. p ≡ c.opened)) (h.opening n c listed))
      (λ b. after-await a n (at n cs) ws lacks (one (λ number. ⊥)) (h.fits b n)) (λ u is. absurd (true≢false (sym u ∙ opened)))

  -- what is awaited on a channel once our close of it was answered
  close-other : (n m : ℕ) → m ≢ n → awaited_on m (without n (left_awaited n ChannelClosed ws)) ≡ awaited_on m ws
  close-other n m ne = gone-other m n (left_awaited n ChannelClosed ws) ne ∙ answered-other n ChannelClosed ws m ne

  close-same : (n : ℕ) → awaited_on n (without n (left_awaited n ChannelClosed ws)) ≡ []
  close-same n = gone-same n (left_awaited n ChannelClosed ws) (answered-ascend n ChannelClosed ws h.ascend)

  -- our close of a channel was answered: it goes, or stays until our close-ok is sent
  pub fits-closed : (n : ℕ) → Ascend (keys_of cs) → FitsChannels state acting (without n cs) (without n (left_awaited n ChannelClosed ws)) made
  fits-closed n sorted =
      fits-gone state acting cs ws made h n (without n (left_awaited n ChannelClosed ws)) [] sorted (close-other n) (close-same n)
      (without-ascends n (left_awaited n ChannelClosed ws) (answered-ascend n ChannelClosed ws h.ascend)) (λ a. (refl, tt))
      (λ u is. ap (λ x. without n (left_awaited n ChannelClosed x)) is)

  pub fits-answered-close : (n : ℕ) (c : Channel) → at n cs ≡ Some c → is_unopened state ≡ false
      → FitsChannels state acting (put n (made_answered c) cs) (without n (left_awaited n ChannelClosed ws)) made
  fits-answered-close n c listed opened =
      fits-both state acting cs ws made h n c (made_answered c) (without n (left_awaited n ChannelClosed ws)) [] listed refl (close-other n) (close-same n)
      (without-ascends n (left_awaited n ChannelClosed ws) (answered-ascend n ChannelClosed ws h.ascend)) tt
      (λ a. (sym (ap closing (close-same n)), λ owed left. subst (λ l. NoOpening l) (sym (close-same n)) tt)) opened

  put-quiet : (n : ℕ) (c c' : Channel) → at n cs ≡ Some c → c'.awaits_close_ok ≡ c.awaits_close_ok → is_unopened state ≡ true → AwaitsNothing (put n c' cs) ws
  put-quiet n c c' listed same u =
      let before = h.unopened u in (
        before.0,
        λ m x is. elim (cases_eq m n) [
          | inl e ↦ (let here : Some c' ≡ Some x = sym (put-same n c' cs) ∙ ap (λ i. at i (put n c' cs)) (sym e) ∙ is in
              ap (λ (o : Option Channel). unwrap_or (option_map (λ (y : Channel). y.awaits_close_ok) o) false) (sym here) ∙ same ∙ before.1 n c listed)
          | inr ne ↦ before.1 m x (sym (put-other m n c' cs ne) ∙ is)
        ],
      )

  -- a channel changes in nothing that counts
  pub fits-set : (n : ℕ) (c c' : Channel) → at n cs ≡ Some c → c'.opened ≡ c.opened → c'.awaits_close_ok ≡ c.awaits_close_ok → c'.debt ≡ c.debt
      → FitsChannels state acting (put n c' cs) ws made
  fits-set n c c' listed opened awaits owes =
      fits-put state acting cs ws made h n c c' listed opened
      (λ a. (let own = listed-fits state acting cs ws made h n c listed a in
      (awaits ∙ own.0, λ owed left. own.1 (ap is_owed (sym owes) ∙ owed) (sym awaits ∙ left))))
      (put-quiet n c c' listed awaits)

  -- the server closes a channel that we use
  pub fits-server-closed : (n : ℕ) (c : Channel) → at n cs ≡ Some c → c.awaits_close_ok ≡ false → is_unopened state ≡ false
      → FitsChannels state acting (put n (record c { state = channel.Closing; debt = debt.Owed }) cs) (without n ws) made
  fits-server-closed n c listed left opened =
      fits-both state acting cs ws made h n c (record c { state = channel.Closing; debt = debt.Owed }) (without n ws) [] listed refl
      (λ m ne. gone-other m n ws ne) (gone-same n ws h.ascend) (without-ascends n ws h.ascend) tt
      (λ a. (left ∙ sym (ap closing (gone-same n ws h.ascend)), λ owed free. subst (λ l. NoOpening l) (sym (gone-same n ws h.ascend)) tt)) opened

  -- it closes one that we close, or our close-ok is sent on one
  pub fits-owing : (n : ℕ) (c : Channel) (d : Debt) → at n cs ≡ Some c → c.awaits_close_ok ≡ true → FitsChannels state acting (put n (record c { debt = d }) cs) ws made
  fits-owing n c d listed awaits =
      fits-put state acting cs ws made h n c (record c { debt = d }) listed refl
      (λ a. ((listed-fits state acting cs ws made h n c listed a).0, λ owed left. absurd (true≢false (sym awaits ∙ left))))
      (put-quiet n c (record c { debt = d }) listed refl)

  -- our close-ok is sent on a channel that we did not close, or whose close was answered
  pub fits-paid-gone : (n : ℕ) (c : Channel) → at n cs ≡ Some c → c.awaits_close_ok ≡ false → c.debt ≡ debt.Owed → Ascend (keys_of cs) → FitsChannels state acting (without n cs) ws made
  fits-paid-gone n c listed left owes sorted =
      fits-gone state acting cs ws made h n ws (awaited_on n ws) sorted (λ m ne. refl) refl h.ascend
      (λ a. (let own = listed-fits state acting cs ws made h n c listed a in (sym own.0 ∙ left, own.1 (ap is_owed owes) left)))
      (λ u is. is)

  -- we close a channel
  pub fits-left : (n : ℕ) (c : Channel) (promise : Option ℕ) → at n cs ≡ Some c → is_unopened state ≡ false
      → FitsChannels state acting (put n (made_leaving c) cs) (expected n (record { reply = ChannelClosed; promise = promise }) ws) made
  fits-left n c promise listed opened =
      let a : Awaited = record { reply = ChannelClosed; promise = promise } in
      fits-both state acting cs ws made h n c (made_leaving c) (expected n a ws) (awaited_on n ws ++ a ∷ []) listed refl
      (λ m ne. expected-other m n a ws ne) (expected-same n a ws) (expected-ascend n a ws h.ascend)
      (openings-more (λ p. p ≡ c.opened) (awaited_on n ws) a tt (h.opening n c listed))
      (λ b. (sym (ap closing (expected-same n a ws) ∙ closing-now (awaited_on n ws) promise), λ owed left. absurd (true≢false left))) opened

  -- a promise opens a channel
  pub fits-listed : (n : ℕ) → at n cs ≡ None → acting ≡ true → is_unopened state ≡ false
      → FitsChannels state acting (put n (new_channel made) cs) (expected n (record { reply = ChannelOpened; promise = Some made }) ws) (made + 1)
  fits-listed n free acts opened =
      let a : Awaited = record { reply = ChannelOpened; promise = Some made } in
      let c : Channel = new_channel made in
      let none : FitsChannel None n ws = subst (λ o. FitsChannel o n ws) free (h.fits acts n) in
      fits-changed n state acting cs (put n c cs) ws (expected n a ws) made (made + 1) (Some c) (awaited_on n ws ++ a ∷ [])
      (record {
        others = λ m ne. put-other m n c cs ne;
        other_replies = λ m ne. expected-other m n a ws ne;
        here = put-same n c cs;
        replies = expected-same n a ws;
        more = omega arith;
        ascend = expected-ascend n a ws h.ascend;
        opened = λ p is. (let e : made ≡ p = ap (λ (o : Option ℕ). unwrap_or o 0) is in
            (omega (arith, e), λ m ne other. (let before = h.opened m p other in absurd (omega (arith, before, e)))));
        opening = λ x is. (let e : x.opened ≡ made = ap (λ (o : Option Channel). unwrap_or (option_map (λ (y : Channel). y.opened) o) 0) (sym is) in
            openings-more (λ p. p ≡ x.opened) (awaited_on n ws) a (sym e) (no-opening (λ p. p ≡ x.opened) (awaited_on n ws) none.1));
        fits = λ b. (sym (ap closing (expected-same n a ws) ∙ closing-more (awaited_on n ws) a refl ∙ none.0), λ owed left. absurd (true≢false (sym owed)));
        unopened = λ u. absurd (true≢false (sym u ∙ opened));
      }) h

  -- ---- all channels

  -- no channel is listed any more
  pub fits-none : (state' : ConnectionState) → is_unopened state' ≡ false → FitsChannels state' false [] ws made
  fits-none state' opened =
      record {
        opened = λ n p is. absurd (nothing-there (opener n []) p refl is);
        once = λ m n p first second. absurd (nothing-there (opener m []) p refl first);
        opening = λ n c is. absurd (nothing-there (at n []) c refl is);
        fits = λ a. absurd (true≢false (sym a));
        unopened = λ u. absurd (true≢false (sym u ∙ opened));
        ascend = h.ascend;
      }

  -- all are closing
  pub fits-closing : FitsChannels Closing acting (map_values made_closing cs) ws made
  fits-closing =
      record {
        opened = λ n p is. h.opened n p (sym (opener-closing cs n) ∙ is);
        once = λ m n p first second. h.once m n p (sym (opener-closing cs m) ∙ first) (sym (opener-closing cs n) ∙ second);
        opening = λ n x is. opening-by (at n cs) n x refl (sym (at-mapped cs n) ∙ is);
        fits = λ a n. subst (λ o. FitsChannel o n ws) (sym (at-mapped cs n)) (fits-by (at n cs) n (h.fits a n));
        unopened = λ u. absurd (true≢false (sym u));
        ascend = h.ascend;
      }
    where
      mapped-head : (b : Bool) (d : Channel) (x y : Option Channel) → x ≡ option_map made_closing y → cond b (Some (made_closing d)) x ≡ option_map made_closing (cond b (Some d) y)
      mapped-head true d x y is = refl
      mapped-head false d x y is = is

      at-mapped : (es : Listed) (n : ℕ) → at n (map_values made_closing es) ≡ option_map made_closing (at n es)
      at-mapped [] n = refl
      at-mapped (e ∷ es) n = mapped-head (is_at (nat_cmp n) e.0) e.1 (at n (map_values made_closing es)) (at n es) (at-mapped es n)

      opening-by : (o : Option Channel) (n : ℕ) (x : Channel) → at n cs ≡ o → option_map made_closing o ≡ Some x → AllOpenings (λ p. p ≡ x.opened) (awaited_on n ws)
      opening-by None n x listed is = absurd cc
      opening-by (Some c) n x listed is =
          let e : c.opened ≡ x.opened = ap (λ (o : Option Channel). unwrap_or (option_map (λ (y : Channel). y.opened) o) 0) is in
          subst (λ k. AllOpenings (λ p. p ≡ k) (awaited_on n ws)) e (h.opening n c listed)

      fits-by : (o : Option Channel) (n : ℕ) → FitsChannel o n ws → FitsChannel (option_map made_closing o) n ws
      fits-by None n is = is
      fits-by (Some c) n is = is

  -- those that are kept wait for another link, on which nothing is awaited yet
  pub fits-kept : AscendFrom 0 (keys_of cs) → FitsChannels Reconnecting false (kept cs) [] made
  fits-kept sorted =
      record {
        opened = λ n p is. h.opened n p (opener-kept n p is);
        once = λ m n p first second. h.once m n p (opener-kept m p first) (opener-kept n p second);
        opening = λ n c is. tt;
        fits = λ a. absurd (true≢false (sym a));
        unopened = λ u. (refl, λ n c is. (at-kept 0 n c cs sorted is).3);
        ascend = tt;
      }
    where
      opener-kept : (n p : ℕ) → opener n (kept cs) ≡ Some p → opener n cs ≡ Some p
      opener-kept n p is = by (at n (kept cs)) refl is where
        by : (o : Option Channel) → at n (kept cs) ≡ o → option_map (λ (y : Channel). y.opened) o ≡ Some p → opener n cs ≡ Some p
        by None listed h = absurd cc
        by (Some x) listed h =
            let w = at-kept 0 n x cs sorted listed in
            ap (option_map (λ (y : Channel). y.opened)) w.1 ∙ ap (λ k. Some k) (sym w.2) ∙ h

  -- ---- the channels that are opened again

  -- where no promise awaits open-ok and no close-ok is awaited, a channel may go
  pub fits-passed : (n : ℕ) → Ascend (keys_of cs) → (closing (awaited_on n ws) ≡ false) × NoOpening (awaited_on n ws) → FitsChannels state acting (without n cs) ws made
  fits-passed n sorted none = fits-gone state acting cs ws made h n ws (awaited_on n ws) sorted (λ m ne. refl) refl h.ascend (λ a. none) (λ u is. is)

-- nothing is awaited but that a channel is opened again
pub none-awaited : (a : Awaited) (n m : ℕ) (ws : Replies) → IsOther a.reply → OpeningHas (λ number. ⊥) a.reply a.promise
    → (closing (awaited_on m ws) ≡ false) × NoOpening (awaited_on m ws)
    → (closing (awaited_on m (expected n a ws)) ≡ false) × NoOpening (awaited_on m (expected n a ws))
none-awaited a n m ws lacks one h =
    elim (cases_eq m n) [
      | inl e ↦
          (let P : ℕ → Type 0 = λ i. (closing (awaited_on i (expected n a ws)) ≡ false) × NoOpening (awaited_on i (expected n a ws)) in
          let Q : ℕ → Type 0 = λ i. (closing (awaited_on i ws) ≡ false) × NoOpening (awaited_on i ws) in
          subst P (sym e) (after-await a n None ws lacks one (subst Q e h)))
      | inr ne ↦
          (let other = expected-other m n a ws ne in (ap closing other ∙ h.0, subst (λ l. NoOpening l) (sym other) h.1))
    ]

-- nothing is listed and nothing is awaited at the beginning
pub fits-new : FitsChannels Initial false [] [] 1
fits-new =
    record {
      opened = λ n p is. absurd (nothing-there (opener n []) p refl is);
      once = λ m n p first second. absurd (nothing-there (opener m []) p refl first);
      opening = λ n c is. absurd (nothing-there (at n []) c refl is);
      fits = λ a. absurd (true≢false (sym a));
      unopened = λ u. (refl, λ n c is. absurd (nothing-there (at n []) c refl is));
      ascend = tt;
    }
