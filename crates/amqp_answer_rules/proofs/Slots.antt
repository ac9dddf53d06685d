-- Promises that are settled, one after another: each is as it was, or it waited and is answered for a reason.
use Rattle.std.proofs.Common.{◌≡◌, ◌≢◌, ◌⊎◌, inl, inr, ℕ, zero, suc, ◌==◌, true≢false, Bool, true, false, List, [], ◌∷◌, map, cond, Option, Some, None, option_map, Result, Ok, Err, refl, ap, sym, ◌∙◌, subst, arith}
use Rattle.std.specs.declared.cmp.Ordering.{Ordering}
use Rattle.std.specs.declared.cmp.Ordering.TheVariants.{Less, Equal, Greater}
use Rattle.std.specs.Ordering.{nat_cmp, is_eq}
use Rattle.std.proofs.lemmas.Bool.Decides.{nat_tests}
use Rattle.amqp_outbox.specs.declared.item.Item.{Item}
use Rattle.amqp_outbox.specs.Items.{promise_of_group}
use Rattle.amqp_promise.specs.declared.error.ErrorKind.{ErrorKind}
use Rattle.amqp_answers.specs.declared.answer.Answer.{Answer}
use Rattle.amqp_maps.specs.Listed.{at, put}
use Rattle.amqp_rules.specs.Talk.{Talk}
use Rattle.amqp_answers.specs.Settled.{rejected_slot, rejected_all, Promises, settled, settled_by, settled_to}
use Rattle.amqp_rules.specs.Recovery.{recovery_delay}
use Rattle.amqp_rules.specs.Changes.{rejected, rejected_each, lose}
use Rattle.amqp_rules.proofs.Ascending.{ranked}
use Rattle.amqp_maps.proofs.Numbered.{put-same, put-other}
use Rattle.amqp_rules.proofs.Recovering.{lose-case}
use Rattle.amqp_answer_rules.specs.Answering.{Held, IsNamed, IsSettledFor, SettlesFor}

-- two numbers are the same or not
pub same-or-not : (m n : ℕ) → (m ≡ n) ⊎ (m ≢ n)
same-or-not m n = by (m == n) refl where
  by : (b : Bool) → (m == n) ≡ b → (m ≡ n) ⊎ (m ≢ n)
  by true h = inl (grind (arith, nat_tests, h))
  by false h = inr (λ e. absurd (true≢false (sym (grind (arith, nat_tests, e)) ∙ h)))

-- ---- what may be given

-- a link may be lost by this error
abbrev pub Loses : (ℕ → Result Answer ErrorKind → Type 0) → ErrorKind → Type 0
Loses P e = (number : ℕ) → number ≢ 0 → P number (Err e)

-- ---- one promise

module _ (P : Result Answer ErrorKind → Type 0) where
  pub settled-then : (a b c : Held) → IsSettledFor P a b → IsSettledFor P b c → IsSettledFor P a c
  settled-then a b c (inl h) (inl k) = inl (k ∙ h)
  settled-then a b c (inl h) (inr k) = inr (sym h ∙ k.0, k.1)
  settled-then a b c (inr h) (inl k) = inr (h.0, (h.1.0, k ∙ h.1.1, h.1.2))
  settled-then a b c (inr h) (inr k) = cc

  -- where what is held is told in other words
  pub settled-told : (a a' b b' : Held) → a' ≡ a → b' ≡ b → IsSettledFor P a b → IsSettledFor P a' b'
  settled-told a a' b b' e f (inl h) = inl (f ∙ h ∙ sym e)
  settled-told a a' b b' e f (inr h) = inr (e ∙ h.0, (h.1.0, f ∙ h.1.1, h.1.2))

-- ---- all promises

-- each is settled so
abbrev pub Settle : (ℕ → Result Answer ErrorKind → Type 0) → Promises → Promises → Type 0
Settle P ps ps' = (number : ℕ) → IsSettledFor (P number) (at number ps) (at number ps')

module _ (P : ℕ → Result Answer ErrorKind → Type 0) where
  pub settle-then : (ps qs rs : Promises) → Settle P ps qs → Settle P qs rs → Settle P ps rs
  settle-then ps qs rs h k number = settled-then (P number) (at number ps) (at number qs) (at number rs) (h number) (k number)

  settle-by : (n : ℕ) (a : Result Answer ErrorKind) (ps : Promises) (o : Held) → at n ps ≡ o → P n a → Settle P ps (settled_by o n a ps)
  settle-by n a ps None is given m = inl refl
  settle-by n a ps (Some (Some b)) is given m = inl refl
  settle-by n a ps (Some None) is given m = by (same-or-not m n) where
    by : (m ≡ n) ⊎ (m ≢ n) → IsSettledFor (P m) (at m ps) (at m (put n (Some a) ps))
    by (inl same) =
        inr (ap (λ (k : ℕ). at k ps) same ∙ is, (a, ap (λ (k : ℕ). at k (put n (Some a) ps)) same ∙ put-same n (Some a) ps, subst (λ (k : ℕ). P k a) (sym same) given))
    by (inr other) = inl (put-other m n (Some a) ps other)

  -- a promise is answered
  pub settle-one : (n : ℕ) (a : Result Answer ErrorKind) (ps : Promises) → P n a → Settle P ps (settled n a ps)
  settle-one n a ps given = settle-by n a ps (at n ps) refl given

  pub settle-to : (o : Option ℕ) (a : Result Answer ErrorKind) (ps : Promises) → ((n : ℕ) → o ≡ Some n → P n a) → Settle P ps (settled_to o a ps)
  settle-to None a ps given = λ number. inl refl
  settle-to (Some n) a ps given = settle-one n a ps (given n refl)

  -- promises are answered with an error, one after another
  pub settle-each : (e : ErrorKind) (named : List (Option ℕ)) (ps : Promises) → ((n : ℕ) → IsNamed n named → P n (Err e)) → Settle P ps (rejected_each e named ps)
  settle-each e [] ps p = λ number. inl refl
  settle-each e (o ∷ named) ps p =
      settle-then ps (settled_to o (Err e) ps) (rejected_each e named (settled_to o (Err e) ps)) (settle-to o (Err e) ps (λ n is. p n (inl is)))
      (settle-each e named (settled_to o (Err e) ps) (λ n is. p n (inr is)))

  pub settle-groups : (e : ErrorKind) (groups : List (List Item)) (ps : Promises) → ((n : ℕ) → IsNamed n (map promise_of_group groups) → P n (Err e))
      → Settle P ps (rejected e groups ps)
  settle-groups e [] ps p = λ number. inl refl
  settle-groups e (g ∷ groups) ps p =
      let o : Option ℕ = promise_of_group g in
      settle-then ps (settled_to o (Err e) ps) (rejected e groups (settled_to o (Err e) ps)) (settle-to o (Err e) ps (λ n is. p n (inl is)))
      (settle-groups e groups (settled_to o (Err e) ps) (λ n is. p n (inr is)))

-- all that wait but that of the connection are answered with the error by which the link is lost
at-rejected : (e : ErrorKind) (n : ℕ) (ps : Promises) → at n (rejected_all e ps) ≡ option_map (rejected_slot e n) (at n ps)
at-rejected e n [] = refl
at-rejected e n (p ∷ ps) = by (nat_cmp n p.0) refl (at-rejected e n ps) where
  by : (r : Ordering) → nat_cmp n p.0 ≡ r → at n (rejected_all e ps) ≡ option_map (rejected_slot e n) (at n ps)
      → cond (is_eq r) (Some (rejected_slot e p.0 p.1)) (at n (rejected_all e ps)) ≡ option_map (rejected_slot e n) (cond (is_eq r) (Some p.1) (at n ps))
  by Equal h rest = ap (λ (m : ℕ). Some (rejected_slot e m p.1)) (sym (ranked n p.0 Equal h))
  by Less h rest = rest
  by Greater h rest = rest

rejected-held : (P : ℕ → Result Answer ErrorKind → Type 0) (e : ErrorKind) (n : ℕ) (o : Held) → Loses P e → IsSettledFor (P n) o (option_map (rejected_slot e n) o)
rejected-held P e n None p = inl refl
rejected-held P e zero (Some None) p = inl refl
rejected-held P e (suc n) (Some None) p = inr (refl, (Err e, refl, p (suc n) (λ k. cc)))
rejected-held P e zero (Some (Some a)) p = inl refl
rejected-held P e (suc n) (Some (Some a)) p = inl refl

pub settle-all : (P : ℕ → Result Answer ErrorKind → Type 0) (e : ErrorKind) (ps : Promises) → Loses P e → Settle P ps (rejected_all e ps)
settle-all P e ps p n =
    settled-told (P n) (at n ps) (at n ps) (option_map (rejected_slot e n) (at n ps)) (at n (rejected_all e ps)) refl (at-rejected e n ps)
    (rejected-held P e n (at n ps) p)

-- ---- states

module _ (P : ℕ → Result Answer ErrorKind → Type 0) where
  pub leaves-all : (t : Talk) → SettlesFor P t t
  leaves-all t = record { each = λ number. inl refl; made = refl }

  pub settles-then : (t u v : Talk) → SettlesFor P t u → SettlesFor P u v → SettlesFor P t v
  settles-then t u v h k = record {
    each = settle-then P t.promises u.promises v.promises h.each k.each;
    made = k.made ∙ h.made;
  }

  -- where a link is lost
  pub settles-lost : (e : ErrorKind) (t : Talk) → Loses P e → SettlesFor P t (lose e t)
  settles-lost e t p =
      lose-case (SettlesFor P t) e t (λ delay. record { each = settle-all P e t.promises p; made = refl })
      (record { each = λ number. inl refl; made = refl })

-- ---- that an answer comes

-- a promise waits, or has an answer
abbrev pub IsKept : ℕ → Promises → Type 0
IsKept n ps = (at n ps ≡ Some None) ⊎ ((b : Result Answer ErrorKind) × (at n ps ≡ Some (Some b)))

-- it has one
abbrev pub Has : ℕ → Promises → Type 0
Has n ps = (b : Result Answer ErrorKind) × (at n ps ≡ Some (Some b))

-- the promise that is named has an answer, where it waited or had one
pub settled-has : (n : ℕ) (a : Result Answer ErrorKind) (ps : Promises) → IsKept n ps → Has n (settled n a ps)
settled-has n a ps (inl waits) =
    let P : Held → Type 0 = λ o. Has n (settled_by o n a ps) in subst P (sym waits) (a, put-same n (Some a) ps)
settled-has n a ps (inr h) =
    let P : Held → Type 0 = λ o. Has n (settled_by o n a ps) in subst P (sym h.1) h

-- whatever else is settled, it is kept, and so is its answer
pub kept-settled : (n : ℕ) (ps qs : Promises) → Settle (λ k b. Unit {0}) ps qs → IsKept n ps → IsKept n qs
kept-settled n ps qs s h = by (s n) h where
  by : IsSettledFor (λ b. Unit {0}) (at n ps) (at n qs) → IsKept n ps → IsKept n qs
  by (inl same) (inl waits) = inl (same ∙ waits)
  by (inl same) (inr k) = inr (k.0, same ∙ k.1)
  by (inr t) k = inr (t.1.0, t.1.1)

pub settled-kept : (n m : ℕ) (a : Result Answer ErrorKind) (ps : Promises) → IsKept n ps → IsKept n (settled m a ps)
settled-kept n m a ps h = kept-settled n ps (settled m a ps) (settle-one (λ k b. Unit {0}) m a ps tt) h

pub has-still : (n : ℕ) (ps qs : Promises) → Settle (λ k b. Unit {0}) ps qs → Has n ps → Has n qs
has-still n ps qs s h = by (s n) where
  by : IsSettledFor (λ b. Unit {0}) (at n ps) (at n qs) → Has n qs
  by (inl same) = (h.0, same ∙ h.1)
  by (inr k) = (let clash : Some None ≡ Some (Some h.0) = sym k.0 ∙ h.1 in cc)

pub named-has : (n : ℕ) (o : Option ℕ) (a : Result Answer ErrorKind) (ps : Promises) → o ≡ Some n → IsKept n ps → Has n (settled_to o a ps)
named-has n o a ps is h = subst (λ (x : Option ℕ). Has n (settled_to x a ps)) (sym is) (settled-has n a ps h)

pub told-kept : (n : ℕ) (o : Option ℕ) (a : Result Answer ErrorKind) (ps : Promises) → IsKept n ps → IsKept n (settled_to o a ps)
told-kept n None a ps h = h
told-kept n (Some m) a ps h = settled-kept n m a ps h

pub groups-has : (n : ℕ) (e : ErrorKind) (groups : List (List Item)) (ps : Promises) → IsNamed n (map promise_of_group groups) → IsKept n ps → Has n (rejected e groups ps)
groups-has n e [] ps is h = absurd is
groups-has n e (g ∷ groups) ps (inl is) h =
    let one : Promises = settled_to (promise_of_group g) (Err e) ps in
    has-still n one (rejected e groups one) (settle-groups (λ k b. Unit {0}) e groups one (λ k there. tt)) (named-has n (promise_of_group g) (Err e) ps is h)
groups-has n e (g ∷ groups) ps (inr is) h =
    groups-has n e groups (settled_to (promise_of_group g) (Err e) ps) is (told-kept n (promise_of_group g) (Err e) ps h)

pub each-still : (n : ℕ) (e : ErrorKind) (named : List (Option ℕ)) (ps : Promises) → Has n ps → Has n (rejected_each e named ps)
each-still n e named ps h = has-still n ps (rejected_each e named ps) (settle-each (λ k b. Unit {0}) e named ps (λ k is. tt)) h

pub each-has : (n : ℕ) (e : ErrorKind) (named : List (Option ℕ)) (ps : Promises) → IsNamed n named → IsKept n ps → Has n (rejected_each e named ps)
each-has n e [] ps is h = absurd is
each-has n e (o ∷ named) ps (inl is) h = each-still n e named (settled_to o (Err e) ps) (named-has n o (Err e) ps is h)
each-has n e (o ∷ named) ps (inr is) h = each-has n e named (settled_to o (Err e) ps) is (told-kept n o (Err e) ps h)
