-- Bits in words.
use Rattle.std.proofs.Common.{◌≡◌, ◌≢◌, ◌∙◌, ap, sym, refl, ℕ, ◌+◌, ◌-◌, ◌/◌, ◌%◌, ◌^◌, ◌<◌, ◌≤◌, ◌==◌, Bool, List, length, w64, arith, inl, inr}
use Rattle.std.proofs.Math.Nat.{div-div-eq-div-mul, div-le_self}
use Rattle.std.proofs.lemmas.Nat.{pow-add}
use Rattle.std.proofs.lemmas.Nat.Bits.{bit_at_above, bit_at-trailing_ones}
use Rattle.std.proofs.lemmas.Bool.{cases_eq}
use Rattle.std.proofs.lemmas.List.{get_or-set_same, get_or-set_other}
use Rattle.std.specs.Prelude.{find, slice_index_or, slice_set}
use Rattle.std.specs.Int.{bit_at, trailing_ones}
use Rattle.amqp_channels.specs.NumberSet.{is_member}

module _ (words : List ℕ) (id w : ℕ) (room : id / 64 < length words) where
  at_word : (n : ℕ) → n / 64 ≡ id / 64 → slice_index_or (slice_set words (id / 64) w) (n / 64) 0 ≡ w
  at_word n e = ap (λ k. slice_index_or (slice_set words (id / 64) w) k 0) e ∙ get_or-set_same words (id / 64) w 0 room

  -- the bit of the number itself
  pub member-same : (b : ℕ) → bit_at w (id % 64) ≡ b → is_member (slice_set words (id / 64) w) id ≡ b == 1
  member-same b h = ap (λ k. bit_at k (id % 64) == 1) (at_word id refl) ∙ ap (λ k. k == 1) h

  -- the bits of the others
  pub member-other : ((i : ℕ) → i < 64 → i ≢ id % 64 → bit_at w i ≡ bit_at (slice_index_or words (id / 64) 0) i)
      → (n : ℕ) → n ≢ id → is_member (slice_set words (id / 64) w) n ≡ is_member words n
  member-other others n ne =
      elim (cases_eq (n / 64) (id / 64)) [
        | inl e ↦
            let bit : n % 64 ≢ id % 64 = λ f. ne (omega (arith, e, f)) in
            ap (λ k. bit_at k (n % 64) == 1) (at_word n e)
            ∙ ap (λ k. k == 1) (others (n % 64) (omega arith) bit)
            ∙ ap (λ k. bit_at (slice_index_or words k 0) (n % 64) == 1) (sym e)
        | inr f ↦ ap (λ k. bit_at k (n % 64) == 1) (get_or-set_other words (id / 64) (n / 64) w 0 f)
      ]

-- the bits of a word that was shifted are those of the word
shifted : (word s i : ℕ) → bit_at (word / 2 ^ s) i ≡ bit_at word (s + i)
shifted word s i = ap (λ k. k % 2) (div-div-eq-div-mul word (2 ^ s) (2 ^ i) ∙ ap (λ k. word / k) (sym (pow-add 2 s i)))

module _ (word s : ℕ) (small : word + 1 < 2 ^ 64) where
  abbrev run : ℕ
  run = trailing_ones w64 (word / 2 ^ s)

  fits : word / 2 ^ s + 1 < 2 ^ 64
  fits = let less = div-le_self word (2 ^ s) in omega (arith, less, small)

  -- the ones of a word from a bit on
  pub ones : (i : ℕ) → i < run → bit_at word (s + i) ≡ 1
  ones i h = sym (shifted word s i) ∙ (bit_at-trailing_ones w64 (word / 2 ^ s) fits).2 i h

  -- and where there is none, the bit is 0
  pub no-ones : run ≡ 0 → bit_at word s ≡ 0
  no-ones none =
      let same : s ≡ s + 0 = omega arith in
      ap (bit_at word) same ∙ sym (shifted word s 0) ∙ ap (bit_at (word / 2 ^ s)) (sym none) ∙ (bit_at-trailing_ones w64 (word / 2 ^ s) fits).1

  -- a word has 64 bits
  pub ones-within : s < 64 → s + run ≤ 64
  ones-within h =
      elim (cases_eq run 0) [
        | inl none ↦ omega (arith, none, h)
        | inr some ↦
            elim (cases_eq (s + run - 64) 0) [
              | inl e ↦ omega (arith, e)
              | inr f ↦
                  let one : bit_at word (s + (run - 1)) ≡ 1 = ones (run - 1) (omega (arith, some)) in
                  let none : bit_at word (s + (run - 1)) ≡ 0 = bit_at_above word 64 (s + (run - 1)) (omega (arith, small)) (omega (arith, f)) in
                  absurd (omega (arith, one, none))
            ]
      ]

module _ (words : List ℕ) (id word : ℕ) (is : slice_index_or words (id / 64) 0 ≡ word) where
  -- a number whose bit is in the same word
  pub member-near : (i : ℕ) → id % 64 + i < 64 → is_member words (id + i) ≡ bit_at word (id % 64 + i) == 1
  member-near i h =
      let place : (id + i) / 64 ≡ id / 64 = omega arith in
      let rest : (id + i) % 64 ≡ id % 64 + i = omega arith in
      ap (λ k. bit_at (slice_index_or words k 0) ((id + i) % 64) == 1) place
      ∙ ap (λ k. bit_at k ((id + i) % 64) == 1) is
      ∙ ap (λ k. bit_at word k == 1) rest

-- two tests that answer alike find the same
pub find-same : (p q : ℕ → Bool) → ((n : ℕ) → p n ≡ q n) → (ns : List ℕ) → find p ns ≡ find q ns
find-same p q same ns = λ i. find (λ n. same n i) ns
