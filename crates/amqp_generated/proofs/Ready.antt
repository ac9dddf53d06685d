-- Where a generated script opens its channels: the listed ones, and the number that is drawn next.
use Rattle.std.proofs.Common.{◌≡◌, ◌≢◌, ◌≤◌, ◌<◌, ◌⊎◌, inl, inr, ℕ, zero, suc, ◌+◌, ◌-◌, ◌==◌, ◌||◌, not, nat_lt, if◌then◌else◌, true, false, List, [], ◌∷◌, ◌++◌, Option, Some, None, is_some, refl, ap, ◌∙◌, arith}
use Rattle.std.specs.Prelude.{find}
use Rattle.std.specs.List.{range_with_len}
use Rattle.std.specs.Ordering.{nat_cmp, match_ordering}
use Rattle.std.specs.declared.cmp.Ordering.{Ordering}
use Rattle.std.specs.declared.cmp.Ordering.TheVariants.{Less, Equal, Greater}
use Rattle.std.proofs.lemmas.Bool.Decides.{nat_tests}
use Rattle.amqp_types.proofs.Small.{and-left, and-right, and-true, if-true, other-number, not-below}
use Rattle.amqp_promise.specs.declared.state.ChannelState.TheVariants as channel
use Rattle.amqp_channels.specs.declared.channels.Channel.{Channel}
use Rattle.amqp_maps.specs.Listed.{at, put, has}
use Rattle.amqp_channels.specs.Numbering.{first_number, after, drawn}
use Rattle.amqp_channels.specs.Channels.{new_channel, all_flow}
use Rattle.amqp_maps.proofs.Numbered.{put-same, put-other}

-- an open channel is listed by this number
pub record IsOpened (n : ℕ) (channels : List (ℕ × Channel)) : Type 0 where
  pub held : Channel
  pub listed : at n channels ≡ Some held
  pub opened : held.state ≡ channel.Connected

-- the channels from 1 up to this number are open and have flow, none is listed above them, and the next number is drawn
pub record IsReady (k : ℕ) (channels : List (ℕ × Channel)) (cursor : ℕ) : Type 0 where
  pub flow : all_flow channels ≡ true
  pub next : first_number 2047 cursor ≡ suc k
  pub free : (n : ℕ) → k < n → at n channels ≡ None
  pub opened : (n : ℕ) → 1 ≤ n → n ≤ k → IsOpened n channels

-- at first
pub ready-first : IsReady 0 [] 0
ready-first =
    record {
      flow = refl;
      next = refl;
      free = λ n h. refl;
      opened = λ n one none. absurd (omega (arith, one, none));
    }

-- the next number is drawn
pub ready-drawn : (k : ℕ) (channels : List (ℕ × Channel)) (cursor : ℕ) → k < 2047 → IsReady k channels cursor → drawn 2047 (first_number 2047 cursor) channels ≡ Some (suc k)
ready-drawn k channels cursor within h =
    let some : 2047 + 1 - suc k ≡ suc (2046 - k) = omega (arith, within) in
    let rest = range_with_len (suc k + 1) (2046 - k) ++ range_with_len 1 (suc k - 1) in
    ap (λ n. drawn 2047 n channels) h.next
    ∙ ap (λ m. find (λ n. not (has n channels)) (range_with_len (suc k) m ++ range_with_len 1 (suc k - 1))) some
    ∙ if-true (not (has (suc k) channels)) (Some (suc k)) (find (λ n. not (has n channels)) rest) (ap (λ (o : Option Channel). not (is_some o)) (h.free (suc k) (omega arith)))

below : (m n : ℕ) → m < n → nat_lt m n ≡ true
below m n h = grind (arith, nat_tests, h)

-- a listed channel with flow leaves all with flow
flow-by : (o : Ordering) (n : ℕ) (c : Channel) (e : ℕ × Channel) (es : List (ℕ × Channel)) → c.flow ≡ true → (e.1).flow ≡ true → all_flow es ≡ true → all_flow (put n c es) ≡ true
    → all_flow (match_ordering o ((n, c) ∷ e ∷ es) ((e.0, c) ∷ es) (e ∷ put n c es)) ≡ true
flow-by Less n c e es own first rest more = and-true c.flow _ own (and-true (e.1).flow (all_flow es) first rest)
flow-by Equal n c e es own first rest more = and-true c.flow (all_flow es) own rest
flow-by Greater n c e es own first rest more = and-true (e.1).flow (all_flow (put n c es)) first more

pub flow-put : (n : ℕ) (c : Channel) (channels : List (ℕ × Channel)) → c.flow ≡ true → all_flow channels ≡ true → all_flow (put n c channels) ≡ true
flow-put n c [] own all = and-true c.flow true own refl
flow-put n c (e ∷ es) own all =
    let rest = and-right (e.1).flow (all_flow es) all in
    flow-by (nat_cmp n e.0) n c e es own (and-left (e.1).flow (all_flow es) all) rest (flow-put n c es own rest)

-- the channels once the next one is open
abbrev pub one_more : ℕ → ℕ → List (ℕ × Channel) → List (ℕ × Channel)
one_more k number channels =
    put (suc k) (record (new_channel number) { state = channel.Connected }) (put (suc k) (new_channel number) channels)

pub ready-more : (k number : ℕ) (channels : List (ℕ × Channel)) (cursor : ℕ) → k < 2046 → IsReady k channels cursor → IsReady (suc k) (one_more k number channels) (after 2047 (suc k))
ready-more k number channels cursor within h =
    record {
      flow = flow-put (suc k) c (put (suc k) (new_channel number) channels) refl (flow-put (suc k) (new_channel number) channels refl h.flow);
      next = next;
      free = λ m above. other m (λ same. absurd (omega (arith, same, above))) ∙ h.free m (omega (arith, above));
      opened = λ m one most. by m one (split m (suc k) most);
    }
  where
    c : Channel
    c = record (new_channel number) { state = channel.Connected }

    other : (m : ℕ) → m ≢ suc k → at m (one_more k number channels) ≡ at m channels
    other m differs =
        put-other m (suc k) c (put (suc k) (new_channel number) channels) differs ∙ put-other m (suc k) (new_channel number) channels differs

    next : first_number 2047 (after 2047 (suc k)) ≡ suc (suc k)
    next =
        let goes : nat_lt (suc k) 2047 ≡ true = below (suc k) 2047 (omega (arith, within)) in
        let some : (suc k + 1 == 0) ≡ false = other-number (suc k + 1) 0 (λ same. absurd (omega (arith, same))) in
        let fits : nat_lt 2047 (suc k + 1) ≡ false = not-below 2047 (suc k + 1) (omega (arith, within)) in
        let more : suc k + 1 ≡ suc (suc k) = omega arith in
        ap (first_number 2047) (if-true (nat_lt (suc k) 2047) (suc k + 1) 0 goes)
        ∙ ap (λ b. if b || nat_lt 2047 (suc k + 1) then 1 else suc k + 1) some
        ∙ ap (λ b. if b then 1 else suc k + 1) fits
        ∙ more

    split : (m n : ℕ) → m ≤ n → (m ≡ n) ⊎ (m < n)
    split zero zero h = inl refl
    split zero (suc n) h = inr (omega arith)
    split (suc m) zero h = absurd (omega (arith, h))
    split (suc m) (suc n) h = elim (split m n (omega (arith, h))) [
      | inl same ↦ inl (ap suc same)
      | inr less ↦ inr (omega (arith, less))
    ]

    by : (m : ℕ) → 1 ≤ m → (m ≡ suc k) ⊎ (m < suc k) → IsOpened m (one_more k number channels)
    by m one (inl same) =
        record {
          held = c;
          listed = ap (λ x. at x (one_more k number channels)) same ∙ put-same (suc k) c (put (suc k) (new_channel number) channels);
          opened = refl;
        }
    by m one (inr less) =
        let was = h.opened m one (omega (arith, less)) in
        record {
          held = was.held;
          listed = other m (λ same. absurd (omega (arith, same, less))) ∙ was.listed;
          opened = was.opened;
        }
