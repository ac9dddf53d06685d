-- What is acknowledged was printed, and taken by the sink.
use Rattle.std.proofs.Common.{◌≡◌, ◌⊎◌, ◌<◌, ◌≤◌, ℕ, Bool, true, false, not, cond, ◌&&◌, ◌||◌, nat_lt, nat_le, nat_eq, List, [], ◌∷◌, ◌++◌, length, Option, Some, None, refl, sym, ap, subst, arith, inl, inr}
use Rattle.std.proofs.lemmas.Bool.{ltb-true, eqb-true}
use Rattle.std.specs.Str.{bytes_eq}
use Rattle.std.specs.Ordering.{nat_cmp, match_ordering}
use Rattle.std.specs.Cmp.Lexicographic.{slice_cmp}
use Rattle.std.specs.declared.cmp.Ordering.{Ordering}
use Rattle.std.specs.declared.cmp.Ordering.TheVariants.{Less, Equal, Greater}
use Rattle.amqp_types.proofs.Small.{some_is, and-left, and-right, from-not-true}
use Rattle.amqp_tools.specs.declared.tags.Deed.TheVariants.{Printed, Known, PassedOver, Flushed, Acknowledged, Lost}
use Rattle.amqp_tools.specs.Tags.{undelivered, is_tag, may, last_taken}
use Rattle.amqp_tools.specs.Names.{PrintedNames, window, windowed, is_name_among, has_name, put_name, keep_name}
use Rattle.amqp_tools.specs.Acknowledged.{NamedDeed, Standing, beginning, is_known, kept_with, after_named, allowed, Delivery, Seen, nothing_seen, name_before, see, Among, HasItsName, WasPrinted, AckedIsPrinted}

-- ---- what is among others

among_first : {A : Type 0} (x : A) (xs ys : List A) → Among x xs → Among x (xs ++ ys)
among_first x [] ys h = absurd h
among_first x (y ∷ xs) ys (inl is) = inl is
among_first x (y ∷ xs) ys (inr h) = inr (among_first x xs ys h)

among_second : {A : Type 0} (x : A) (xs ys : List A) → Among x ys → Among x (xs ++ ys)
among_second x [] ys h = h
among_second x (y ∷ xs) ys h = inr (among_second x xs ys h)

named_first : (name : Option (List ℕ)) (xs ys : List (List ℕ)) → HasItsName name xs → HasItsName name (xs ++ ys)
named_first (Some name) xs ys h = among_first name xs ys h
named_first None xs ys h = h

named_second : (name : Option (List ℕ)) (xs ys : List (List ℕ)) → HasItsName name ys → HasItsName name (xs ++ ys)
named_second (Some name) xs ys h = among_second name xs ys h
named_second None xs ys h = h

named_more : (name more : Option (List ℕ)) (names : List (List ℕ)) → HasItsName name names → HasItsName name (name_before more names)
named_more (Some name) (Some other) names h = inr h
named_more (Some name) None names h = h
named_more None more names h = absurd h

-- ---- the names that are kept

or_cases : (a b : Bool) → (a || b) ≡ true → (a ≡ true) ⊎ (b ≡ true)
or_cases true b h = inl refl
or_cases false b h = inr h

same_octets : (xs ys : List ℕ) → bytes_eq xs ys ≡ true → xs ≡ ys
same_octets [] [] h = refl
same_octets [] (y ∷ ys) h = absurd cc
same_octets (x ∷ xs) [] h = absurd cc
same_octets (x ∷ xs) (y ∷ ys) h =
    let first : x ≡ y = eqb-true x y (and-left (nat_eq x y) (bytes_eq xs ys) h) in
    let rest = same_octets xs ys (and-right (nat_eq x y) (bytes_eq xs ys) h) in
    rw (first, rest) refl

-- a name that is among others after one more is that one, or was among them
put_by :
    (o : Ordering) (n name x : List ℕ) (xs more : List (List ℕ)) →
    (is_name_among n more ≡ true → (n ≡ name) ⊎ (is_name_among n xs ≡ true)) →
    is_name_among n (match_ordering o (name ∷ x ∷ xs) (x ∷ xs) (x ∷ more)) ≡ true →
    (n ≡ name) ⊎ (is_name_among n (x ∷ xs) ≡ true)
put_by Less n name x xs more later h =
    elim (or_cases (bytes_eq n name) (is_name_among n (x ∷ xs)) h) [
      | inl is ↦ inl (same_octets n name is)
      | inr is ↦ inr is
    ]
put_by Equal n name x xs more later h = inr h
put_by Greater n name x xs more later h =
    elim (or_cases (bytes_eq n x) (is_name_among n more) h) [
      | inl is ↦ inr (rw is refl)
      | inr is ↦ elim (later is) [
        | inl same ↦ inl same
        | inr there ↦ inr (or_second (bytes_eq n x) (is_name_among n xs) there)
      ]
    ]
  where
    or_second : (a b : Bool) → b ≡ true → (a || b) ≡ true
    or_second true b g = refl
    or_second false b g = g

after_put : (n name : List ℕ) (xs : List (List ℕ)) → is_name_among n (put_name name xs) ≡ true → (n ≡ name) ⊎ (is_name_among n xs ≡ true)
after_put n name [] h =
    elim (or_cases (bytes_eq n name) false h) [
      | inl is ↦ inl (same_octets n name is)
      | inr is ↦ inr is
    ]
after_put n name (x ∷ xs) h =
    put_by (slice_cmp nat_cmp name x) n name x xs (put_name name xs) (after_put n name xs) h

or_there : (a b : Bool) → b ≡ true → (a || b) ≡ true
or_there true b h = refl
or_there false b h = h

or_here : (a b : Bool) → a ≡ true → (a || b) ≡ true
or_here true b h = refl
or_here false b h = absurd cc

-- a name that is kept once another window may have begun was kept before
window_by :
    (b : Bool) (n : List ℕ) (names : PrintedNames) →
    has_name (cond b (record { earlier = names.later; later = [] }) names) n ≡ true → has_name names n ≡ true
window_by true n names h = or_here (is_name_among n names.later) (is_name_among n names.earlier) h
window_by false n names h = h

after_window : (n : List ℕ) (names : PrintedNames) → has_name (windowed names) n ≡ true → has_name names n ≡ true
after_window n names h = window_by (nat_le window (length names.later)) n names h

-- a name that is kept after one more is that one, or was kept
after_keep :
    (n name : List ℕ) (names : PrintedNames) → has_name (keep_name name names) n ≡ true →
    (n ≡ name) ⊎ (has_name names n ≡ true)
after_keep n name names h =
    let now = windowed names in
    elim (or_cases (is_name_among n (put_name name now.later)) (is_name_among n now.earlier) h) [
      | inl is ↦ elim (after_put n name now.later is) [
        | inl same ↦ inl same
        | inr there ↦ inr (after_window n names (or_here (is_name_among n now.later) (is_name_among n now.earlier) there))
      ]
      | inr is ↦ inr (after_window n names (or_there (is_name_among n now.later) (is_name_among n now.earlier) is))
    ]

-- ---- how far it is, and what was seen

-- a delivery was taken, or given since, by itself or by its name
abbrev Shown : Seen → Delivery → Type 0
Shown seen d = WasPrinted seen d ⊎ (Among d.0 seen.given ⊎ HasItsName d.1 seen.names_given)

-- a name was taken, or given since
abbrev NameShown : Seen → List ℕ → Type 0
NameShown seen n = Among n seen.names_taken ⊎ Among n seen.names_given

pub record Holds (s : Standing) (seen : Seen) : Type 0 where
  -- nothing came above the last
  below : (d : Delivery) → Among d seen.came → d.0 ≤ s.tags.last
  printed_below : (tag : ℕ) → s.tags.printed ≡ Some tag → tag ≤ s.tags.last
  flushed_below : (tag : ℕ) → s.tags.flushed ≡ Some tag → tag ≤ s.tags.last
  -- where none was passed over, each is shown
  all : s.tags.passed ≡ false → (d : Delivery) → Among d seen.came → Shown seen d
  -- up to the last that was printed each is shown, and up to the last that the sink took each was taken
  up_to_printed : (tag : ℕ) → s.tags.printed ≡ Some tag → (d : Delivery) → Among d seen.came → d.0 ≤ tag → Shown seen d
  up_to_flushed :
      (tag : ℕ) → s.tags.flushed ≡ Some tag → (d : Delivery) → Among d seen.came → d.0 ≤ tag → WasPrinted seen d
  -- each name that is kept was shown
  named : (n : List ℕ) → has_name s.names n ≡ true → NameShown seen n

pub begins : Holds beginning nothing_seen
begins = record {
  below = λ d h. absurd h;
  printed_below = λ tag e. absurd cc;
  flushed_below = λ tag e. absurd cc;
  all = λ no d h. absurd h;
  up_to_printed = λ tag e d h le. absurd h;
  up_to_flushed = λ tag e d h le. absurd h;
  named = λ n e. absurd cc;
}

module _ (s : Standing) (seen : Seen) (h : Holds s seen) where
  -- ---- one more is printed, or known

  -- what was shown is shown after a step by which nothing that was shown goes
  module _ (tag : ℕ) (name : Option (List ℕ)) where
    shown_more : (d : Delivery) → Shown seen d → Shown (see (Printed tag, name) seen) d
    shown_more d (inl taken) = inl taken
    shown_more d (inr (inl given)) = inr (inl (inr given))
    shown_more d (inr (inr named)) = inr (inr (named_more d.1 name seen.names_given named))

  name_more : (name : Option (List ℕ)) (n : List ℕ) → NameShown seen n → Among n seen.names_taken ⊎ Among n (name_before name seen.names_given)
  name_more (Some name) n (inl taken) = inl taken
  name_more (Some name) n (inr given) = inr (inr given)
  name_more None n shown = shown

  named_now :
      (name : Option (List ℕ)) (n : List ℕ) → has_name (kept_with name s.names) n ≡ true →
      Among n seen.names_taken ⊎ Among n (name_before name seen.names_given)
  named_now (Some name) n e =
      elim (after_keep n name s.names e) [
        | inl same ↦ inr (inl same)
        | inr before ↦ name_more (Some name) n (h.named n before)
      ]
  named_now None n e = h.named n e

  printed_holds :
      (tag : ℕ) (name : Option (List ℕ)) → s.tags.passed ≡ false → s.tags.last < tag →
      Holds (after_named s (Printed tag, name)) (see (Printed tag, name) seen)
  printed_holds tag name none_passed above = record {
    below = λ d among. below_now d among;
    printed_below = λ t e. let is = some_is tag t e in omega (arith, is);
    flushed_below = λ t e. let le = h.flushed_below t e in omega (arith, le, above);
    all = λ no d among. all_now d among;
    up_to_printed = λ last e d among le. all_now d among;
    up_to_flushed = λ last e d among le. flushed_now last e d among le;
    named = λ n e. named_now name n e;
  }
    where
      below_now : (d : Delivery) → Among d ((tag, name) ∷ seen.came) → d.0 ≤ tag
      below_now d (inl is) = let same = ap (λ (x : Delivery). x.0) is in omega (arith, same)
      below_now d (inr among) = let le = h.below d among in omega (arith, le, above)

      all_now : (d : Delivery) → Among d ((tag, name) ∷ seen.came) → Shown (see (Printed tag, name) seen) d
      all_now d (inl is) = inr (inl (inl (ap (λ (x : Delivery). x.0) is)))
      all_now d (inr among) = shown_more tag name d (h.all none_passed d among)

      flushed_now : (last : ℕ) → s.tags.flushed ≡ Some last → (d : Delivery) → Among d ((tag, name) ∷ seen.came) → d.0 ≤ last → WasPrinted seen d
      flushed_now last e d (inl is) le =
          let same = ap (λ (x : Delivery). x.0) is in
          let under = h.flushed_below last e in absurd (omega (arith, same, le, under, above))
      flushed_now last e d (inr among) le = h.up_to_flushed last e d among le

  -- a message of a kept name is shown by that name
  by_name : (tag : ℕ) (name : Option (List ℕ)) → is_known s.names name ≡ true → Shown seen (tag, name)
  by_name tag (Some name) e =
      elim (h.named name e) [
        | inl taken ↦ inl (inr taken)
        | inr given ↦ inr (inr given)
      ]
  by_name tag None e = absurd cc

  known_holds :
      (tag : ℕ) (name : Option (List ℕ)) → s.tags.passed ≡ false → s.tags.last < tag → is_known s.names name ≡ true →
      Holds (after_named s (Known tag, name)) (see (Known tag, name) seen)
  known_holds tag name none_passed above known = record {
    below = λ d among. below_now d among;
    printed_below = λ t e. let is = some_is tag t e in omega (arith, is);
    flushed_below = λ t e. let le = h.flushed_below t e in omega (arith, le, above);
    all = λ no d among. all_now d among;
    up_to_printed = λ last e d among le. all_now d among;
    up_to_flushed = λ last e d among le. flushed_now last e d among le;
    named = λ n e. h.named n e;
  }
    where
      below_now : (d : Delivery) → Among d ((tag, name) ∷ seen.came) → d.0 ≤ tag
      below_now d (inl is) = let same = ap (λ (x : Delivery). x.0) is in omega (arith, same)
      below_now d (inr among) = let le = h.below d among in omega (arith, le, above)

      all_now : (d : Delivery) → Among d ((tag, name) ∷ seen.came) → Shown seen d
      all_now d (inl is) = subst (Shown seen) (sym is) (by_name tag name known)
      all_now d (inr among) = h.all none_passed d among

      flushed_now : (last : ℕ) → s.tags.flushed ≡ Some last → (d : Delivery) → Among d ((tag, name) ∷ seen.came) → d.0 ≤ last → WasPrinted seen d
      flushed_now last e d (inl is) le =
          let same = ap (λ (x : Delivery). x.0) is in
          let under = h.flushed_below last e in absurd (omega (arith, same, le, under, above))
      flushed_now last e d (inr among) le = h.up_to_flushed last e d among le

  passed_holds :
      (tag : ℕ) (name : Option (List ℕ)) → s.tags.last < tag →
      Holds (after_named s (PassedOver tag, name)) (see (PassedOver tag, name) seen)
  passed_holds tag name above = record {
    below = λ d among. below_now d among;
    printed_below = λ t e. let le = h.printed_below t e in omega (arith, le, above);
    flushed_below = λ t e. let le = h.flushed_below t e in omega (arith, le, above);
    all = λ no d among. absurd cc;
    up_to_printed = λ last e d among le. printed_now last e d among le;
    up_to_flushed = λ last e d among le. flushed_now last e d among le;
    named = λ n e. h.named n e;
  }
    where
      below_now : (d : Delivery) → Among d ((tag, name) ∷ seen.came) → d.0 ≤ tag
      below_now d (inl is) = let same = ap (λ (x : Delivery). x.0) is in omega (arith, same)
      below_now d (inr among) = let le = h.below d among in omega (arith, le, above)

      printed_now : (last : ℕ) → s.tags.printed ≡ Some last → (d : Delivery) → Among d ((tag, name) ∷ seen.came) → d.0 ≤ last → Shown seen d
      printed_now last e d (inl is) le =
          let same = ap (λ (x : Delivery). x.0) is in
          let under = h.printed_below last e in absurd (omega (arith, same, le, under, above))
      printed_now last e d (inr among) le = h.up_to_printed last e d among le

      flushed_now : (last : ℕ) → s.tags.flushed ≡ Some last → (d : Delivery) → Among d ((tag, name) ∷ seen.came) → d.0 ≤ last → WasPrinted seen d
      flushed_now last e d (inl is) le =
          let same = ap (λ (x : Delivery). x.0) is in
          let under = h.flushed_below last e in absurd (omega (arith, same, le, under, above))
      flushed_now last e d (inr among) le = h.up_to_flushed last e d among le

  -- ---- the sink takes what it was given

  -- what is shown is taken then
  moved : (d : Delivery) → Shown seen d → Among d.0 (seen.given ++ seen.taken) ⊎ HasItsName d.1 (seen.names_given ++ seen.names_taken)
  moved d (inl (inl taken)) = inl (among_second d.0 seen.given seen.taken taken)
  moved d (inl (inr named)) = inr (named_second d.1 seen.names_given seen.names_taken named)
  moved d (inr (inl given)) = inl (among_first d.0 seen.given seen.taken given)
  moved d (inr (inr named)) = inr (named_first d.1 seen.names_given seen.names_taken named)

  -- so is a name
  name_moved : (n : List ℕ) → NameShown seen n → Among n (seen.names_given ++ seen.names_taken)
  name_moved n (inl taken) = among_second n seen.names_given seen.names_taken taken
  name_moved n (inr given) = among_first n seen.names_given seen.names_taken given

  flushed_holds :
      (printed : Option ℕ) → s.tags.printed ≡ printed →
      Holds (record s { tags = record s.tags { printed = None; flushed = last_taken printed s.tags.flushed } })
      (see (Flushed, None) seen)
  flushed_holds (Some tag) is = record {
    below = h.below;
    printed_below = λ t e. absurd cc;
    flushed_below = λ t e. let same = some_is tag t e in let le = h.printed_below tag is in omega (arith, same, le);
    all = λ no d among. inl (moved d (h.all no d among));
    up_to_printed = λ last e d among le. absurd cc;
    up_to_flushed = λ last e d among le.
        let same = some_is tag last e in moved d (h.up_to_printed tag is d among (omega (arith, same, le)));
    named = λ n e. inl (name_moved n (h.named n e));
  }
  flushed_holds None is = record {
    below = h.below;
    printed_below = λ t e. absurd cc;
    flushed_below = h.flushed_below;
    all = λ no d among. inl (moved d (h.all no d among));
    up_to_printed = λ last e d among le. absurd cc;
    up_to_flushed = λ last e d among le. moved d (inl (h.up_to_flushed last e d among le));
    named = λ n e. inl (name_moved n (h.named n e));
  }

  -- ---- the rest

  acknowledged_holds : Holds (record s { tags = record s.tags { flushed = None } }) seen
  acknowledged_holds = record {
    below = h.below;
    printed_below = h.printed_below;
    flushed_below = λ t e. absurd cc;
    all = h.all;
    up_to_printed = h.up_to_printed;
    up_to_flushed = λ last e d among le. absurd cc;
    named = h.named;
  }

  lost_holds : Holds (record s { tags = undelivered }) (record seen { came = []; taken = []; given = [] })
  lost_holds = record {
    below = λ d among. absurd among;
    printed_below = λ tag e. absurd cc;
    flushed_below = λ tag e. absurd cc;
    all = λ no d among. absurd among;
    up_to_printed = λ tag e d among le. absurd among;
    up_to_flushed = λ tag e d among le. absurd among;
    named = h.named;
  }

-- the tag that may be acknowledged is the last that the sink took
is_flushed : (flushed : Option ℕ) (tag : ℕ) → is_tag flushed tag ≡ true → flushed ≡ Some tag
is_flushed (Some last) tag e = ap (λ (t : ℕ). Some t) (eqb-true last tag e)
is_flushed None tag e = absurd cc

pub kept :
    (steps : List NamedDeed) (s : Standing) (seen : Seen) → Holds s seen → allowed s steps ≡ true → AckedIsPrinted seen steps
kept [] s seen h ok = tt
kept ((Printed tag, name) ∷ steps) s seen h ok =
    let now = and-left (may s.tags (Printed tag)) (allowed (after_named s (Printed tag, name)) steps) ok in
    let next = and-right (may s.tags (Printed tag)) (allowed (after_named s (Printed tag, name)) steps) ok in
    let none_passed = from-not-true s.tags.passed (and-left (not s.tags.passed) (nat_lt s.tags.last tag) now) in
    let above = ltb-true s.tags.last tag (and-right (not s.tags.passed) (nat_lt s.tags.last tag) now) in
    kept steps (after_named s (Printed tag, name)) (see (Printed tag, name) seen) (printed_holds s seen h tag name none_passed above) next
kept ((Known tag, name) ∷ steps) s seen h ok =
    let may_be = may s.tags (Known tag) && is_known s.names name in
    let now = and-left may_be (allowed (after_named s (Known tag, name)) steps) ok in
    let next = and-right may_be (allowed (after_named s (Known tag, name)) steps) ok in
    let first = and-left (may s.tags (Known tag)) (is_known s.names name) now in
    let known = and-right (may s.tags (Known tag)) (is_known s.names name) now in
    let none_passed = from-not-true s.tags.passed (and-left (not s.tags.passed) (nat_lt s.tags.last tag) first) in
    let above = ltb-true s.tags.last tag (and-right (not s.tags.passed) (nat_lt s.tags.last tag) first) in
    kept steps (after_named s (Known tag, name)) (see (Known tag, name) seen) (known_holds s seen h tag name none_passed above known) next
kept ((PassedOver tag, name) ∷ steps) s seen h ok =
    let now = and-left (may s.tags (PassedOver tag)) (allowed (after_named s (PassedOver tag, name)) steps) ok in
    let next = and-right (may s.tags (PassedOver tag)) (allowed (after_named s (PassedOver tag, name)) steps) ok in
    kept steps (after_named s (PassedOver tag, name)) (see (PassedOver tag, name) seen)
    (passed_holds s seen h tag name (ltb-true s.tags.last tag now)) next
kept ((Flushed, name) ∷ steps) s seen h ok =
    kept steps (after_named s (Flushed, name)) (see (Flushed, name) seen) (flushed_holds s seen h s.tags.printed refl) ok
kept ((Acknowledged tag, name) ∷ steps) s seen h ok =
    let now = and-left (may s.tags (Acknowledged tag)) (allowed (after_named s (Acknowledged tag, name)) steps) ok in
    let next = and-right (may s.tags (Acknowledged tag)) (allowed (after_named s (Acknowledged tag, name)) steps) ok in (
      h.up_to_flushed tag (is_flushed s.tags.flushed tag now),
      kept steps (after_named s (Acknowledged tag, name)) seen (acknowledged_holds s seen h) next,
    )
kept ((Lost, name) ∷ steps) s seen h ok =
    kept steps (after_named s (Lost, name)) (see (Lost, name) seen) (lost_holds s seen h) ok
