-- What is kept beside the listed channels: the set of their numbers, and the promises that opened them.
use Rattle.std.proofs.Common.{◌≡◌, ◌≢◌, ◌∙◌, ◌<◌, ◌≤◌, ◌+◌, ◌==◌, max, length, ap, sym, refl, ℕ, Bool, true, false, cond, List, [], ◌∷◌, Option, Some, None, is_some, IsSome, option_map, find, inl, inr, arith}
use Rattle.std.proofs.lemmas.Bool.{cases_eq, eqb-true, eq-eqb, ne_eqb}
use Rattle.std.proofs.lemmas.Map.Keys.{sorted_head, sorted_tail, ge_from_not_lt}
use Rattle.std.specs.declared.cmp.Ordering.{Ordering}
use Rattle.std.specs.declared.cmp.Ordering.TheVariants.{Less, Equal, Greater}
use Rattle.std.specs.Ordering.{nat_cmp, is_eq, is_lt, match_ordering}
use Rattle.std.specs.List.{AllByRecursion}
use Rattle.std.specs.List.Sorted.{IsStrictlySortedBy}
use Rattle.std.specs.Map.{keys_of}
use Rattle.std.specs.BTreeMap.{is_at}
use Rattle.amqp_channels.specs.declared.channels.Channel.{Channel}
use Rattle.amqp_maps.specs.Listed.{at, put, without, map_values, has}
use Rattle.amqp_channels.specs.Channels.{made_closing, opening_in, opened_until}
use Rattle.amqp_channels.specs.NumberSet.{is_member, HasUpTo}
use Rattle.amqp_channels.specs.Openings.{is_number, opener, Indexes}
use Rattle.amqp_maps.proofs.Numbered.{is_itself, is_other}

-- ---- the set of numbers

module _ (ws ws' : List ℕ) (n : ℕ) (others : (m : ℕ) → m ≢ n → is_member ws' m ≡ is_member ws m) where
  -- a number and its channel change together
  pub members-changed : (es es' : List (ℕ × Channel)) (c : Option Channel) → ((m : ℕ) → is_member ws m ≡ has m es) → is_member ws' n ≡ is_some c
      → ((m : ℕ) → at m es' ≡ cond (is_at (nat_cmp n) m) c (at m es)) → (m : ℕ) → is_member ws' m ≡ has m es'
  members-changed es es' c same here update m =
      elim (cases_eq m n) [
        | inl e ↦ ap (is_member ws') e ∙ here ∙ sym (ap is_some (update m ∙ ap (λ b. cond b c (at m es)) (is_itself n m e)))
        | inr ne ↦ others m ne ∙ same m ∙ sym (ap is_some (update m ∙ ap (λ b. cond b c (at m es)) (is_other n m ne)))
      ]

  -- a number more leaves those that are there
  pub up-to-more : (top : ℕ) → is_member ws' n ≡ true → HasUpTo top ws → HasUpTo top ws'
  up-to-more top here all m low high =
      elim (cases_eq m n) [
        | inl e ↦ ap (is_member ws') e ∙ here
        | inr ne ↦ others m ne ∙ all m low high
      ]

-- ---- numbers

number-same : (n : ℕ) → is_number n (Some n) ≡ true
number-same n = eq-eqb n n refl

number-other : (n m : ℕ) → n ≢ m → is_number n (Some m) ≡ false
number-other n m ne = ne_eqb m n (λ e. ne (sym e))

number-is : (n : ℕ) (o : Option ℕ) → is_number n o ≡ true → o ≡ Some n
number-is n None h = absurd cc
number-is n (Some m) h = ap Some (eqb-true m n h)

-- ---- a promise and a channel that change together

module _ (openings openings' : List (ℕ × ℕ)) (listed listed' : List (ℕ × Channel)) (p n : ℕ) (o : Option ℕ) (c : Option Channel)
    (same : Indexes openings listed)
    (at_promise : (q : ℕ) → at q openings' ≡ cond (is_at (nat_cmp p) q) o (at q openings))
    (at_number : (m : ℕ) → at m listed' ≡ cond (is_at (nat_cmp n) m) c (at m listed)) where
  abbrev opened : Option Channel → Option ℕ
  opened x = option_map (λ (y : Channel). y.opened) x

  openings-here : (q : ℕ) → q ≡ p → at q openings' ≡ o
  openings-here q e = at_promise q ∙ ap (λ b. cond b o (at q openings)) (is_itself p q e)

  openings-else : (q : ℕ) → q ≢ p → at q openings' ≡ at q openings
  openings-else q ne = at_promise q ∙ ap (λ b. cond b o (at q openings)) (is_other p q ne)

  opener-here : (m : ℕ) → m ≡ n → opener m listed' ≡ opened c
  opener-here m e = ap opened (at_number m ∙ ap (λ b. cond b c (at m listed)) (is_itself n m e))

  opener-else : (m : ℕ) → m ≢ n → opener m listed' ≡ opener m listed
  opener-else m ne = ap opened (at_number m ∙ ap (λ b. cond b c (at m listed)) (is_other n m ne))

  both-false : {a b : Bool} → a ≡ false → b ≡ false → a ≡ b
  both-false h k = h ∙ sym k

  changed : is_number n o ≡ is_number p (opened c)
      → ((m : ℕ) → m ≢ n → (is_number m o ≡ false) × (is_number m (at p openings) ≡ false))
      → ((q : ℕ) → q ≢ p → (is_number q (opened c) ≡ false) × (is_number q (opener n listed) ≡ false))
      → Indexes openings' listed'
  changed both promise number q m =
      elim (cases_eq q p) [
        | inl e ↦
            elim (cases_eq m n) [
              | inl f ↦
                  ap (is_number m) (openings-here q e) ∙ ap (λ k. is_number k o) f ∙ both
                  ∙ ap (λ k. is_number k (opened c)) (sym e) ∙ ap (is_number q) (sym (opener-here m f))
              | inr f ↦
                  both-false (ap (is_number m) (openings-here q e) ∙ (promise m f).0)
                  (ap (is_number q) (opener-else m f) ∙ sym (same q m) ∙ ap (λ k. is_number m (at k openings)) e ∙ (promise m f).1)
            ]
        | inr f ↦
            elim (cases_eq m n) [
              | inl e ↦
                  both-false (ap (is_number m) (openings-else q f) ∙ same q m ∙ ap (λ k. is_number q (opener k listed)) e ∙ (number q f).1)
                  (ap (is_number q) (opener-here m e) ∙ (number q f).0)
              | inr g ↦ ap (is_number m) (openings-else q f) ∙ same q m ∙ ap (is_number q) (sym (opener-else m g))
            ]
      ]

module _ (openings openings' : List (ℕ × ℕ)) (listed listed' : List (ℕ × Channel)) (n : ℕ) (c : Channel) (same : Indexes openings listed) where
  -- a channel is listed whose promise opened none
  pub indexes-listed : at (c.opened) openings ≡ None → at n listed ≡ None
      → ((q : ℕ) → at q openings' ≡ cond (is_at (nat_cmp (c.opened)) q) (Some n) (at q openings))
      → ((m : ℕ) → at m listed' ≡ cond (is_at (nat_cmp n) m) (Some c) (at m listed))
      → Indexes openings' listed'
  indexes-listed none unlisted at_promise at_number =
      changed openings openings' listed listed' (c.opened) n (Some n) (Some c) same at_promise at_number
      (number-same n ∙ sym (number-same (c.opened)))
      (λ m ne. (number-other m n ne, ap (is_number m) none))
      (λ q ne. (number-other q (c.opened) ne, ap (λ x. is_number q (option_map (λ (y : Channel). y.opened) x)) unlisted))

  -- a channel goes, and with it the number at its promise
  pub indexes-removed : at n listed ≡ Some c
      → ((q : ℕ) → at q openings' ≡ cond (is_at (nat_cmp (c.opened)) q) None (at q openings))
      → ((m : ℕ) → at m listed' ≡ cond (is_at (nat_cmp n) m) None (at m listed))
      → Indexes openings' listed'
  indexes-removed had at_promise at_number =
      let promise : opener n listed ≡ Some (c.opened) = ap (option_map (λ (y : Channel). y.opened)) had in
      let number : at (c.opened) openings ≡ Some n =
      number-is n (at (c.opened) openings) (same (c.opened) n ∙ ap (is_number (c.opened)) promise ∙ number-same (c.opened)) in
      changed openings openings' listed listed' (c.opened) n None None same at_promise at_number refl
      (λ m ne. (refl, ap (is_number m) number ∙ number-other m n ne))
      (λ q ne. (refl, ap (is_number q) promise ∙ number-other q (c.opened) ne))

-- a channel comes in the place of a former one
module _ (es es' : List (ℕ × Channel)) (k : ℕ) (c former : Channel) (had : at k es ≡ Some former)
    (update : (n : ℕ) → at n es' ≡ cond (is_at (nat_cmp k) n) (Some c) (at n es)) where
  here : (n : ℕ) → n ≡ k → at n es' ≡ Some c
  here n e = update n ∙ ap (λ b. cond b (Some c) (at n es)) (is_itself k n e)

  before : (n : ℕ) → n ≡ k → at n es ≡ Some former
  before n e = ap (λ m. at m es) e ∙ had

  elsewhere : (n : ℕ) → n ≢ k → at n es' ≡ at n es
  elsewhere n ne = update n ∙ ap (λ b. cond b (Some c) (at n es)) (is_other k n ne)

  pub has-changed : (n : ℕ) → has n es' ≡ has n es
  has-changed n =
      elim (cases_eq n k) [
        | inl e ↦ ap is_some (here n e) ∙ sym (ap is_some (before n e))
        | inr ne ↦ ap is_some (elsewhere n ne)
      ]

  pub opener-changed : c.opened ≡ former.opened → (n : ℕ) → opener n es' ≡ opener n es
  opener-changed same n =
      elim (cases_eq n k) [
        | inl e ↦
            ap (option_map (λ (y : Channel). y.opened)) (here n e) ∙ ap Some same
            ∙ sym (ap (option_map (λ (y : Channel). y.opened)) (before n e))
        | inr ne ↦ ap (option_map (λ (y : Channel). y.opened)) (elsewhere n ne)
      ]

-- nothing changes in which promise opened which channel
pub indexes-kept : (openings openings' : List (ℕ × ℕ)) (listed listed' : List (ℕ × Channel)) → Indexes openings listed
    → ((q : ℕ) → at q openings' ≡ at q openings) → ((n : ℕ) → opener n listed' ≡ opener n listed) → Indexes openings' listed'
indexes-kept openings openings' listed listed' same promises kept q m = ap (is_number m) (promises q) ∙ same q m ∙ ap (is_number q) (sym (kept m))

-- a promise that had no number is as before, once one was put there and taken away
pub undone : (p n : ℕ) (es es' es'' : List (ℕ × ℕ)) → at p es ≡ None
    → ((q : ℕ) → at q es' ≡ cond (is_at (nat_cmp p) q) (Some n) (at q es))
    → ((q : ℕ) → at q es'' ≡ cond (is_at (nat_cmp p) q) None (at q es')) → (q : ℕ) → at q es'' ≡ at q es
undone p n es es' es'' none placed gone q =
    elim (cases_eq q p) [
      | inl e ↦ gone q ∙ ap (λ b. cond b None (at q es')) (is_itself p q e) ∙ sym (ap (λ k. at k es) e ∙ none)
      | inr ne ↦
          gone q ∙ ap (λ b. cond b None (at q es')) (is_other p q ne)
          ∙ placed q ∙ ap (λ b. cond b (Some n) (at q es)) (is_other p q ne)
    ]

-- all channels are closing
closing-head : (b : Bool) (d : Channel) (x y : Option Channel) → option_map (λ (z : Channel). z.opened) x ≡ option_map (λ (z : Channel). z.opened) y
    → option_map (λ (z : Channel). z.opened) (cond b (Some (made_closing d)) x) ≡ option_map (λ (z : Channel). z.opened) (cond b (Some d) y)
closing-head true d x y h = refl
closing-head false d x y h = h

pub opener-closing : (listed : List (ℕ × Channel)) (n : ℕ) → opener n (map_values made_closing listed) ≡ opener n listed
opener-closing [] n = refl
opener-closing (e ∷ es) n = closing-head (is_at (nat_cmp n) e.0) e.1 (at n (map_values made_closing es)) (at n es) (opener-closing es n)

-- ---- what is found among the channels

none-above : {X : Type 0} (n : ℕ) (es : List (ℕ × X)) → AllByRecursion (λ k. nat_cmp n k ≡ Less) (keys_of es) → at n es ≡ None
none-above n [] above = refl
none-above n (e ∷ es) above = ap (λ r. cond (is_eq r) (Some e.1) (at n es)) above.0 ∙ none-above n es above.1

module _ (p : ℕ) (o : Option ℕ) where
  none-opened : (e : ℕ × Channel) (es : List (ℕ × Channel)) → IsStrictlySortedBy nat_cmp (keys_of (e ∷ es)) → (e.1).opened == p ≡ false
      → ((n : ℕ) → is_number n o ≡ is_number p (opener n (e ∷ es))) → (n : ℕ) → is_number n o ≡ is_number p (opener n es)
  none-opened e es sorted differs same n =
      elim (cases_eq n e.0) [
        | inl f ↦
            let gone : at n es ≡ None = ap (λ k. at k es) f ∙ none-above e.0 es (sorted_head nat_cmp e.0 (keys_of es) sorted) in
            same n
            ∙ ap (λ b. is_number p (option_map (λ (c : Channel). c.opened) (cond b (Some e.1) (at n es)))) (is_itself n e.0 (sym f))
            ∙ differs
            ∙ sym (ap (λ x. is_number p (option_map (λ (c : Channel). c.opened) x)) gone)
        | inr ne ↦
            same n
            ∙ ap (λ b. is_number p (option_map (λ (c : Channel). c.opened) (cond b (Some e.1) (at n es)))) (is_other n e.0 (λ f. ne (sym f)))
      ]

  found-by : (b : Bool) (e : ℕ × Channel) (es : List (ℕ × Channel)) → (e.1).opened == p ≡ b → IsStrictlySortedBy nat_cmp (keys_of (e ∷ es))
      → ((n : ℕ) → is_number n o ≡ is_number p (opener n (e ∷ es)))
      → (((n : ℕ) → is_number n o ≡ is_number p (opener n es)) → opening_in p es ≡ o)
      → opening_in p (e ∷ es) ≡ o
  found-by true e es h sorted same rest =
      let first : is_number e.0 o ≡ true =
      same e.0 ∙ ap (λ b. is_number p (option_map (λ (c : Channel). c.opened) (cond b (Some e.1) (at e.0 es)))) (is_itself e.0 e.0 refl) ∙ h in
      ap (λ b. option_map (λ (x : ℕ × Channel). x.0) (cond b (Some e) (find (λ x. (x.1).opened == p) es))) h ∙ sym (number-is e.0 o first)
  found-by false e es h sorted same rest =
      ap (λ b. option_map (λ (x : ℕ × Channel). x.0) (cond b (Some e) (find (λ x. (x.1).opened == p) es))) h
      ∙ rest (none-opened e es sorted h same)

  none-found : (x : Option ℕ) → ((n : ℕ) → is_number n x ≡ false) → None ≡ x
  none-found None h = refl
  none-found (Some n) h = let is : is_number n (Some n) ≡ true = number-same n in let is_not = h n in absurd cc

  -- the number at a promise is that of the first channel that it opened
  pub opening-found : (es : List (ℕ × Channel)) → IsStrictlySortedBy nat_cmp (keys_of es)
      → ((n : ℕ) → is_number n o ≡ is_number p (opener n es)) → opening_in p es ≡ o
  opening-found [] sorted same = none-found o same
  opening-found (e ∷ es) sorted same =
      found-by ((e.1).opened == p) e es refl sorted same (opening-found es (sorted_tail nat_cmp e.0 (keys_of es) sorted))

-- ---- up to which promise channels were opened

module _ (n : ℕ) (c : Channel) where
  until-head : (o : Ordering) (top : ℕ) (e : ℕ × Channel) (es : List (ℕ × Channel)) → c.opened + 1 ≤ top → opened_until (e ∷ es) ≤ top
      → opened_until (put n c es) ≤ top
      → opened_until (match_ordering o ((n, c) ∷ e ∷ es) ((e.0, c) ∷ es) (e ∷ put n c es)) ≤ top
  until-head Less top e es new old rest = omega (arith, new, old)
  until-head Equal top e es new old rest = omega (arith, new, old)
  until-head Greater top e es new old rest = omega (arith, old, rest)

  -- one more channel
  pub until-put : (top : ℕ) (es : List (ℕ × Channel)) → c.opened + 1 ≤ top → opened_until es ≤ top → opened_until (put n c es) ≤ top
  until-put top [] new old = omega (arith, new)
  until-put top (e ∷ es) new old =
      until-head (nat_cmp n e.0) top e es new old (until-put top es new (omega (arith, old)))

  past-head : (b : Bool) (e : ℕ × Channel) (es : List (ℕ × Channel)) → cond b (Some e.1) (at n es) ≡ Some c
      → (at n es ≡ Some c → c.opened < opened_until es) → c.opened < opened_until (e ∷ es)
  past-head true e es h rest = let is : e.1 ≡ c = cc in let same : (e.1).opened ≡ c.opened = ap (λ (x : Channel). x.opened) is in omega (arith, same)
  past-head false e es h rest = let later = rest h in omega (arith, later)

  -- a listed channel was opened before that
  pub opened-before : (es : List (ℕ × Channel)) → at n es ≡ Some c → c.opened < opened_until es
  opened-before [] h = absurd cc
  opened-before (e ∷ es) h = past-head (is_at (nat_cmp n) e.0) e es h (opened-before es)

gone-head : (b : Bool) (e : ℕ × Channel) (es es' : List (ℕ × Channel)) → opened_until es' ≤ opened_until es
    → opened_until (cond b es (e ∷ es')) ≤ opened_until (e ∷ es)
gone-head true e es es' h = omega arith
gone-head false e es es' h = omega (arith, h)

-- a channel goes
pub until-without : (n : ℕ) (es : List (ℕ × Channel)) → opened_until (without n es) ≤ opened_until es
until-without n [] = omega arith
until-without n (e ∷ es) = gone-head (is_at (nat_cmp n) e.0) e es (without n es) (until-without n es)

pub until-closing : (es : List (ℕ × Channel)) → opened_until (map_values made_closing es) ≡ opened_until es
until-closing [] = refl
until-closing (e ∷ es) = ap (max ((e.1).opened + 1)) (until-closing es)

some-opener : (o : Option Channel) (p : ℕ) → option_map (λ (y : Channel). y.opened) o ≡ Some p → (c : Channel) × (o ≡ Some c) × (c.opened ≡ p)
some-opener None p h = absurd cc
some-opener (Some c) p h = (c, refl, cc)

-- what opened a channel did so before that
pub opener-before : (n p : ℕ) (es : List (ℕ × Channel)) → opener n es ≡ Some p → p < opened_until es
opener-before n p es h =
    let c = some-opener (at n es) p h in
    let before = opened-before n c.0 es c.1 in
    let same = c.2 in
    omega (arith, before, same)

-- a promise from then on opened none
pub unopened : (p : ℕ) (openings : List (ℕ × ℕ)) (es : List (ℕ × Channel)) → Indexes openings es → opened_until es ≤ p → at p openings ≡ None
unopened p openings es same above = by (at p openings) refl
  where
    by : (o : Option ℕ) → at p openings ≡ o → o ≡ None
    by None h = refl
    by (Some n) h =
        let opened : is_number p (opener n es) ≡ true = sym (same p n) ∙ ap (is_number n) h ∙ number-same n in
        let before = opener-before n p es (number-is p (opener n es) opened) in
        absurd (omega (arith, before, above))

-- ---- the promise after the last that opened a listed channel

-- channels that were all opened before a promise
until-before : (top : ℕ) (es : List (ℕ × Channel)) → IsStrictlySortedBy nat_cmp (keys_of es) → ((n p : ℕ) → opener n es ≡ Some p → p < top)
    → opened_until es ≤ top
until-before top [] sorted all = omega arith
until-before top (e ∷ es) sorted all =
    let first : (e.1).opened < top =
    all e.0 (e.1).opened (ap (λ b. option_map (λ (c : Channel). c.opened) (cond b (Some e.1) (at e.0 es))) (is_itself e.0 e.0 refl)) in
    let rest : opened_until es ≤ top = until-before top es (sorted_tail nat_cmp e.0 (keys_of es) sorted) (λ n p h. all n p (later n p h)) in
    omega (arith, first, rest)
  where
    gone : at e.0 es ≡ None
    gone = none-above e.0 es (sorted_head nat_cmp e.0 (keys_of es) sorted)

    later : (n p : ℕ) → opener n es ≡ Some p → opener n (e ∷ es) ≡ Some p
    later n p h =
        elim (cases_eq n e.0) [
          | inl f ↦ let none : opener n es ≡ None = ap (λ k. opener k es) f ∙ ap (option_map (λ (c : Channel). c.opened)) gone in absurd cc
          | inr ne ↦ ap (λ b. option_map (λ (c : Channel). c.opened) (cond b (Some e.1) (at n es))) (is_other n e.0 (λ f. ne (sym f))) ∙ h
        ]

empty : (os : List (ℕ × ℕ)) → length os ≡ 0 → (p : ℕ) → at p os ≡ None
empty [] h p = refl
empty (o ∷ os) h p = absurd (omega (arith, h))

module _ (openings : List (ℕ × ℕ)) (es : List (ℕ × Channel)) (same : Indexes openings es) (sorted : IsStrictlySortedBy nat_cmp (keys_of es)) where
  -- a promise that opened a listed channel has its number
  has-number : (n p : ℕ) → opener n es ≡ Some p → at p openings ≡ Some n
  has-number n p h = number-is n (at p openings) (same p n ∙ ap (is_number p) h ∙ number-same p)

  -- the greatest promise that has a number is the last
  pub until-last : (last n : ℕ) → at last openings ≡ Some n → ((q : ℕ) → IsSome (at q openings) → is_lt (nat_cmp last q) ≡ false)
      → opened_until es ≡ last + 1
  until-last last n here greatest =
      let opened : is_number last (opener n es) ≡ true = sym (same last n) ∙ ap (is_number n) here ∙ number-same n in
      let before = opener-before n last es (number-is last (opener n es) opened) in
      let all : opened_until es ≤ last + 1 = until-before (last + 1) es sorted (λ m p h. let most = ge_from_not_lt last p (greatest p (ap is_some (has-number m p h))) in omega (arith, most)) in
      omega (arith, before, all)

  -- where none has a number, no channel is listed
  pub until-none : length openings ≡ 0 → opened_until es ≡ 0
  until-none none =
      let all : opened_until es ≤ 0 =
      until-before 0 es sorted (λ n p h. let is = has-number n p h in let gone = empty openings none p in absurd cc) in
      omega (arith, all)
