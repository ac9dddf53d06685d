-- How many of the listed channels are without flow.
use Rattle.std.proofs.Common.{◌≡◌, ◌∙◌, ◌+◌, ◌≤◌, ◌==◌, ap, sym, refl, ℕ, Bool, true, false, List, [], ◌∷◌, length, Option, Some, None, option_map, if◌then◌else◌, arith}
use Rattle.std.proofs.lemmas.Cmp.{nat_cmp_total}
use Rattle.std.proofs.lemmas.List.Folds.{list_all-map, sum_by-zero}
use Rattle.std.proofs.lemmas.List.Sums.{sum_by-cons}
use Rattle.std.proofs.lemmas.Map.Entries.{sum_by-insert_entry, sum_by-remove_entry}
use Rattle.std.specs.Prelude.{unwrap_or}
use Rattle.std.specs.Ordering.{nat_cmp}
use Rattle.std.specs.List.{list_all}
use Rattle.std.specs.List.Sorted.{IsStrictlySortedBy}
use Rattle.std.specs.Map.{keys_of, values_of}
use Rattle.std.specs.BTreeMap.{is_at}
use Rattle.amqp_channels.specs.declared.channels.Channel.{Channel}
use Rattle.amqp_maps.specs.Listed.{at, put, without, map_values}
use Rattle.amqp_channels.specs.Channels.{made_closing, all_flow}
use Rattle.amqp_channels.specs.Stopped.{stops, count_stopped}

-- what a place counts for
abbrev counted : Option Channel → ℕ
counted o = unwrap_or (option_map stops o) 0

module _ (n : ℕ) (es : List (ℕ × Channel)) where
  module _ (c : Channel) (sorted : IsStrictlySortedBy nat_cmp (keys_of es)) where
    both : count_stopped (put n c es) + counted (at n es) ≡ count_stopped es + stops c
    both = sum_by-insert_entry stops nat_cmp_total es n c sorted

    -- a channel is listed
    pub stopped-listed : at n es ≡ None → count_stopped (put n c es) ≡ count_stopped es + stops c
    stopped-listed none = let here : counted (at n es) ≡ 0 = ap counted none in let all = both in omega (arith, all, here)

    -- a channel comes in the place of a former one
    pub stopped-changed : (former : Channel) → at n es ≡ Some former → count_stopped (put n c es) + stops former ≡ count_stopped es + stops c
    stopped-changed former had = let here : counted (at n es) ≡ stops former = ap counted had in let all = both in omega (arith, all, here)

  -- a channel goes
  pub stopped-without : (c : Channel) → at n es ≡ Some c → count_stopped (without n es) + stops c ≡ count_stopped es
  stopped-without c had =
      let all = sum_by-remove_entry stops (is_at (nat_cmp n)) es in
      let here : counted (at n es) ≡ stops c = ap counted had in
      omega (arith, all, here)

-- all channels are closing
pub stopped-closing : (es : List (ℕ × Channel)) → count_stopped (map_values made_closing es) ≡ count_stopped es
stopped-closing [] = refl
stopped-closing (e ∷ es) =
    sum_by-cons stops (made_closing e.1) (values_of (map_values made_closing es))
    ∙ ap (λ k. stops e.1 + k) (stopped-closing es)
    ∙ sym (sum_by-cons stops e.1 (values_of es))

pub at-most-one : (c : Channel) → stops c ≤ 1
at-most-one c = by c.flow
  where
    by : (b : Bool) → (if b then 0 else 1) ≤ 1
    by true = omega arith
    by false = omega arith

-- they are no more than the channels
pub stopped-within : (es : List (ℕ × Channel)) → count_stopped es ≤ length es
stopped-within [] = omega arith
stopped-within (e ∷ es) =
    let rest = stopped-within es in
    let first = at-most-one e.1 in
    let all : count_stopped (e ∷ es) ≡ stops e.1 + count_stopped es = sum_by-cons stops e.1 (values_of es) in
    omega (arith, rest, first, all)

none-stops : (b : Bool) → (if b then 0 else 1) == 0 ≡ b
none-stops true = refl
none-stops false = refl

-- where there is none, all have flow
pub none-stopped : (es : List (ℕ × Channel)) → count_stopped es == 0 ≡ all_flow es
none-stopped es =
    sum_by-zero stops (values_of es)
    ∙ (λ i. list_all (λ (c : Channel). none-stops c.flow i) (values_of es))
    ∙ list_all-map (λ (c : Channel). c.flow) (λ e. e.1) es
