-- The bytes that are unsent, counted.
use Rattle.std.proofs.Common.{◌≡◌, ◌∙◌, ap, sym, ℕ, ◌+◌, ◌-◌, ◌≤◌, ◌==◌, ◌&&◌, not, true, false, nat_le, Bool, List, [], ◌∷◌, ◌++◌, Some, None, arith, refl}
use Rattle.std.proofs.lemmas.Bool.Decides.{nat_tests}
use Rattle.std.specs.Prelude.{IsTrue}
use Rattle.amqp_outbox.specs.declared.item.Item.{Item}
use Rattle.amqp_outbox.specs.Items.{size_of}
use Rattle.amqp_outbox.specs.Queued as queued
use Rattle.amqp_outgoing.specs.declared.committed.Mark.{Mark}
use Rattle.amqp_rules.specs.Talk.{Talk, is_open}
use Rattle.amqp_outgoing.specs.Marks.{left_in, mark_of}
use Rattle.amqp_rules.specs.Writing.{sent_among, taken, unsent, writes, flows, fitting, next_within, committed_as, commit}
use Rattle.amqp_outgoing.specs.Marks.{after_first}
use Rattle.amqp_types.proofs.Small.{if_case, if-true, if-false}
use Rattle.amqp_rules.proofs.Sending.{left_in-cons, left_in-left_after, sent_among-committed}

pub other-false : (b c : Bool) → b ≡ true → (b && not c) ≡ false → c ≡ true
other-false true true g h = refl
other-false true false g h = absurd cc
other-false false c g h = absurd cc

module _ (n : ℕ) (t : Talk) (within : n ≤ unsent t) where
  abbrev from : Talk
  from = record t { last_write = t.present }

  counted : (b : Bool) → (is_open t && not (n == 0)) ≡ b → is_open (taken n t) ≡ true → unsent (taken n t) + n ≡ unsent t
  counted true h still =
      let same : taken n t ≡ sent_among t.committed n from = if-true (is_open t && not (n == 0)) (sent_among t.committed n from) t h in
      let left : left_in (taken n t).committed ≡ left_in t.committed - n =
      ap (λ (x : Talk). left_in x.committed) same
      ∙ ap left_in (sent_among-committed t.committed n from refl (ap is_open (sym same) ∙ still))
      ∙ left_in-left_after t.committed n in
      omega (arith, left, within)
  counted false h still =
      let same : taken n t ≡ t = if-false (is_open t && not (n == 0)) (sent_among t.committed n from) t h in
      let zero_is : (n == 0) ≡ true = other-false (is_open t) (n == 0) (ap is_open (sym same) ∙ still) h in
      let none : n ≡ 0 = grind (arith, nat_tests) in
      let left : left_in (taken n t).committed ≡ left_in t.committed = ap (λ (x : Talk). left_in x.committed) same in
      omega (arith, left, none)

-- what is taken is no longer unsent, where the link is still open
pub unsent-taken : (n : ℕ) (t : Talk) → IsTrue (is_open (taken n t)) → n ≤ unsent t → unsent (taken n t) + n ≡ unsent t
unsent-taken n t still within = counted n t within (is_open t && not (n == 0)) refl still

-- ---- the next frame

module _ (space : ℕ) (t : Talk) (item : Item) (opened : writes t ≡ true) (first : queued.next_item (flows t) t.outbox ≡ Some item) (fits : size_of item ≤ space) where
  -- it goes out where it fits
  pub next-fits : next_within space t ≡ Some item
  next-fits =
      let enough : nat_le (size_of item) space ≡ true = grind (arith, nat_tests) in
      ap (fitting space) (if-true (writes t) (queued.next_item (flows t) t.outbox) None opened ∙ first)
      ∙ if-true (nat_le (size_of item) space) (Some item) None enough

  pub commit-fits : commit space t ≡ record t { outbox = queued.after_next (flows t) t.outbox; committed = t.committed ++ mark_of item ∷ [] }
  commit-fits = ap (λ o. committed_as o t) next-fits

-- ---- one committed frame

pub after_first-less : (n : ℕ) (ms : List Mark) → left_in (after_first n ms) ≤ left_in ms
after_first-less n [] = omega arith
after_first-less n (m ∷ ms) =
    if_case (λ (x : List Mark). left_in x ≤ left_in (m ∷ ms)) (nat_le m.left n) ms (record m { left = m.left - n } ∷ ms)
    (omega (arith, left_in-cons m ms)) (omega (arith, left_in-cons m ms, left_in-cons (record m { left = m.left - n }) ms))
