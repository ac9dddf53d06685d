-- The channels that are opened again.
use Rattle.std.proofs.Common.{◌≡◌, ◌≢◌, ◌∙◌, ◌<◌, ◌≤◌, ◌+◌, ap, sym, refl, subst, ℕ, nat_lt, nat_le, ◌==◌, ◌||◌, if◌then◌else◌, Bool, true, false, cond, List, [], ◌∷◌, ◌++◌, length, Some, None, arith, append-nil}
use Rattle.std.specs.Prelude.{filter, map}
use Rattle.std.specs.List.{AllByRecursion}
use Rattle.std.specs.Map.{keys_of}
use Rattle.std.proofs.lemmas.List.{append_assoc}
use Rattle.std.proofs.lemmas.List.Elements.{filter-append}
use Rattle.amqp_outbox.specs.Listed.{Ascends}
use Rattle.amqp_outbox.specs.Queued.{Queued}
use Rattle.amqp_outbox.proofs.Cases.{below-from}
use Rattle.amqp_channels.specs.declared.channels.Channel.{Channel}
use Rattle.amqp_maps.specs.Listed.{without}
use Rattle.amqp_rules.specs.Talk.{Talk}
use Rattle.amqp_rules.specs.Memory.{MakesNothing}
use Rattle.amqp_rules.specs.ConnectionMethods.{connected, reopen, reopen_each, on_open_ok}
use Rattle.amqp_channels.specs.InOrder.{listed_after, agreed, numbers_after}
use Rattle.amqp_session.specs.Reopening.{open_item, reopened, reopened_each, is_among}
use Rattle.amqp_session.proofs.Made.{none-added}
use Rattle.amqp_types.proofs.Small.{same-number, the-number, other-number, or-right}
use Rattle.amqp_channels.proofs.Walking.{all-left, without-before}

-- ---- numbers among others

among-all : (P : ℕ → Type 0) (ns : List ℕ) (n : ℕ) → AllByRecursion P ns → is_among ns n ≡ true → P n
among-all P [] n all is = absurd cc
among-all P (m ∷ ns) n all is = by (m == n) refl is (among-all P ns n all.1) where
  by : (b : Bool) → (m == n) ≡ b → (b || is_among ns n) ≡ true → (is_among ns n ≡ true → P n) → P n
  by true same h rest = subst P (the-number m n same) all.0
  by false other h rest = rest h

numbers-past : (n top : ℕ) (es : List (ℕ × Channel)) → AllByRecursion (λ m. n < m) (numbers_after (Some n) top es)
numbers-past n top [] = tt
numbers-past n top (e ∷ es) = by (nat_lt n e.0) refl (numbers-past n top es) where
  one : (b : Bool) → n < e.0 → AllByRecursion (λ m. n < m) (numbers_after (Some n) top es)
      → AllByRecursion (λ m. n < m) (cond b (e.0 ∷ numbers_after (Some n) top es) (numbers_after (Some n) top es))
  one true first rest = (first, rest)
  one false first rest = rest

  by : (b : Bool) → nat_lt n e.0 ≡ b → AllByRecursion (λ m. n < m) (numbers_after (Some n) top es)
      → AllByRecursion (λ m. n < m) (filter (λ m. nat_le m top) (keys_of (cond b (e ∷ listed_after (Some n) es) (listed_after (Some n) es))))
  by true h rest = one (nat_le e.0 top) (below-from n e.0 h) rest
  by false h rest = rest

-- the numbers after one are others
pub others-after : (n top : ℕ) (es : List (ℕ × Channel)) (m : ℕ) → is_among (numbers_after (Some n) top es) m ≡ true → m ≢ n
others-after n top es m is same =
    let past = among-all (λ k. n < k) (numbers_after (Some n) top es) m (numbers-past n top es) is in
    absurd (omega (arith, past, same))

module _ (n : ℕ) (rest ns : List ℕ) (is : ns ≡ n ∷ rest) (m : ℕ) where
  -- what is among the others is among all
  pub among-more : is_among rest m ≡ true → is_among ns m ≡ true
  among-more h = ap (λ ks. is_among ks m) is ∙ or-right (n == m) (is_among rest m) h

  -- what is none of them is none of all
  pub not-among : m ≢ n → is_among rest m ≡ false → is_among ns m ≡ false
  not-among ne h =
      ap (λ ks. is_among ks m) is
      ∙ ap (λ b. b || is_among rest m) (other-number n m (λ same. ne (sym same))) ∙ h

pub among-first : (n : ℕ) (rest ns : List ℕ) → ns ≡ n ∷ rest → is_among ns n ≡ true
among-first n rest ns is = ap (λ ks. is_among ks n) is ∙ ap (λ b. b || is_among rest n) (same-number n)

-- they are no more than the channels
pub no-more-numbers : (top : ℕ) (es : List (ℕ × Channel)) → length (numbers_after None top es) ≤ length es
no-more-numbers top [] = omega arith
no-more-numbers top (e ∷ es) = by (nat_le e.0 top) (no-more-numbers top es) where
  by : (b : Bool) → length (numbers_after None top es) ≤ length es
      → length (cond b (e.0 ∷ numbers_after None top es) (numbers_after None top es)) ≤ length (e ∷ es)
  by true rest = omega (arith, rest)
  by false rest = omega (arith, rest)

-- ---- what waits then

-- these frames are said
pub reopened-control : (ns : List ℕ) (q : Queued) → (reopened_each ns q).control ≡ q.control ++ map open_item ns
reopened-control [] q = sym (append-nil q.control)
reopened-control (n ∷ ns) q = reopened-control ns (reopened n q) ∙ append_assoc q.control (open_item n ∷ []) (map open_item ns)

-- ---- in the state of a session

-- the channels, once those above the greatest number went, one after another
removed : ℕ → List (ℕ × Channel) → List (ℕ × Channel) → List (ℕ × Channel)
removed top [] es = es
removed top (c ∷ cs) es = removed top cs (if nat_le c.0 top then es else without c.0 es)

numbers : ℕ → List (ℕ × Channel) → List ℕ
numbers top cs = filter (λ n. nat_le n top) (keys_of cs)

-- channels are opened again or go
abbrev after : List ℕ → List (ℕ × Channel) → Talk → Talk
after ns cs t = record t { outbox = reopened_each ns t.outbox; channels = cs }

one-of : (b : Bool) (n : ℕ) (ns : List ℕ) (q : Queued) → reopened_each ns (if b then reopened n q else q) ≡ reopened_each (cond b (n ∷ ns) ns) q
one-of true n ns q = refl
one-of false n ns q = refl

reopen-one : (n : ℕ) (t : Talk) → reopen n t
    ≡ record t {
      outbox = if nat_le n t.configuration.channel_max then reopened n t.outbox else t.outbox;
      channels = if nat_le n t.configuration.channel_max then t.channels else without n t.channels;
    }
reopen-one n t = by (nat_le n t.configuration.channel_max) where
  by : (b : Bool) → (if b then record t { outbox = reopened n t.outbox } else record t { channels = without n t.channels })
      ≡ record t { outbox = if b then reopened n t.outbox else t.outbox; channels = if b then t.channels else without n t.channels }
  by true = refl
  by false = refl

reopen-each : (cs : List (ℕ × Channel)) (t : Talk)
    → reopen_each cs t ≡ after (numbers t.configuration.channel_max cs) (removed t.configuration.channel_max cs t.channels) t
unfolding numbers removed
reopen-each [] t = refl
reopen-each (c ∷ cs) t =
    let top = t.configuration.channel_max in
    ap (reopen_each cs) (reopen-one c.0 t)
    ∙ reopen-each cs _
    ∙ ap (λ (q : Queued). record t { outbox = q; channels = removed top (c ∷ cs) t.channels })
    (one-of (nat_le c.0 top) c.0 (numbers top cs) t.outbox)

agreed-append : (top : ℕ) (ds cs : List (ℕ × Channel)) → agreed top (ds ++ cs) ≡ agreed top ds ++ agreed top cs
agreed-append top ds cs = filter-append (λ (e : ℕ × Channel). nat_le e.0 top) ds cs

-- those that are left are the agreed ones
removed-agreed : (top : ℕ) (cs ds : List (ℕ × Channel)) → Ascends (ds ++ cs) → removed top cs (agreed top ds ++ cs) ≡ agreed top (ds ++ cs)
unfolding removed
removed-agreed top [] ds sorted = append-nil (agreed top ds) ∙ ap (agreed top) (sym (append-nil ds))
removed-agreed top (c ∷ cs) ds sorted =
    let P : List (ℕ × Channel) → Type 0 = λ es. Ascends es in
    let joined : (ds ++ c ∷ []) ++ cs ≡ ds ++ c ∷ cs = append_assoc ds (c ∷ []) cs in
    ap (removed top cs) (by (nat_le c.0 top) refl ∙ ap (λ es. es ++ cs) (sym (agreed-append top ds (c ∷ []))))
    ∙ removed-agreed top cs (ds ++ c ∷ []) (subst P (sym joined) sorted)
    ∙ ap (agreed top) joined
  where
    by : (b : Bool) → nat_le c.0 top ≡ b
        → (if b then agreed top ds ++ c ∷ cs else without c.0 (agreed top ds ++ c ∷ cs)) ≡ (agreed top ds ++ cond b (c ∷ []) []) ++ cs
    by true h = sym (append_assoc (agreed top ds) (c ∷ []) cs)
    by false h = without-before top c ds cs sorted ∙ ap (λ es. es ++ cs) (sym (append-nil (agreed top ds)))

module _ (t : Talk) (sorted : Ascends t.channels) where
  abbrev top : ℕ
  top = t.configuration.channel_max

  abbrev opened : List ℕ
  opened = numbers_after None top t.channels

  -- open-ok, as the code does it
  pub on-open-ok : on_open_ok t ≡ after opened (agreed top t.channels) (connected t)
  unfolding numbers
  on-open-ok =
      reopen-each t.channels (connected t)
      ∙ ap (λ (es : List (ℕ × Channel)). after (numbers top t.channels) es (connected t)) (removed-agreed top t.channels [] sorted)
      ∙ ap (λ (es : List (ℕ × Channel)). after (filter (λ n. nat_le n top) (keys_of es)) (agreed top t.channels) (connected t)) (sym (all-left t.channels))

  -- where nothing is made by it, no channel is opened again
  pub none-opened : MakesNothing t (on_open_ok t) → opened ≡ []
  none-opened m =
      none-of opened
      (none-added t.outbox.control (map open_item opened)
      (sym (reopened-control opened t.outbox) ∙ sym (ap (λ (x : Talk). x.outbox.control) on-open-ok) ∙ m.control))
    where
      none-of : (ns : List ℕ) → map open_item ns ≡ [] → ns ≡ []
      none-of [] h = refl
      none-of (n ∷ ns) h = absurd cc
