-- The first of a list that awaits a reply.
use Rattle.std.proofs.Common.{◌≡◌, ◌∙◌, ap, sym, refl, ℕ, zero, suc, ◌<◌, ◌==◌, arith, Bool, true, false, cond, List, [], ◌∷◌, ◌++◌, Option, Some, None, length, take}
use Rattle.std.specs.Prelude.{find, is_some, IfSome, IfNone, OnSome, if◌then◌else◌, slice_index_or}
use Rattle.std.specs.List.{AllByRecursion, remove}
use Rattle.amqp_outbox.specs.declared.kinds.Kinds.{Kinds}
use Rattle.amqp_outbox.specs.declared.reply.Awaited.{Awaited}
use Rattle.amqp_outbox.specs.declared.reply.Reply.{Reply}
use Rattle.amqp_outbox.specs.declared.reply.Reply.TheVariants.{ChannelOpened, ChannelClosed, FlowDone, SecretDone, ConnectionClosed}
use Rattle.amqp_outbox.specs.Lists.{without_first, IsFirstAt}
use Rattle.amqp_outbox.specs.Replies.{method_of, is_of}
use Rattle.amqp_outbox.specs.Kinds.{is_marked, marked, IsMarked}

-- ---- the first that passes a test, by its place

module _ {X : Type 0} (test : X → Bool) where
  none-past : (b : Bool) (y : X) (o o' : Option X) → (o ≡ None → o' ≡ None) → cond b (Some y) o ≡ None → cond b (Some y) o' ≡ None
  none-past true y o o' f h = absurd cc
  none-past false y o o' f h = f h

  -- one more does not pass
  pub none-yet : (xs : List X) (i : ℕ) (x : X) → find test (take i xs) ≡ None → i < length xs → test (slice_index_or xs i x) ≡ false
      → find test (take (suc i) xs) ≡ None
  none-yet [] i x none under is = absurd (omega (arith, under))
  none-yet (y ∷ ys) zero x none under is = ap (λ b. cond b (Some y) None) is
  none-yet (y ∷ ys) (suc i) x none under is =
      none-past (test y) y (find test (take i ys)) (find test (take (suc i) ys)) (λ h. none-yet ys i x h (omega (arith, under)) is) none

  found-past : (b : Bool) (y x : X) (o o' : Option X) → (o ≡ None → o' ≡ Some x) → cond b (Some y) o ≡ None → cond b (Some y) o' ≡ Some x
  found-past true y x o o' f h = absurd cc
  found-past false y x o o' f h = f h

  -- it is the one that is found
  pub first-found : (xs : List X) (i : ℕ) (x : X) → IsFirstAt test i xs → find test xs ≡ Some (slice_index_or xs i x)
  first-found [] i x first = absurd (omega (arith, first.1))
  first-found (y ∷ ys) zero x first = ap (λ b. cond b (Some y) (find test ys)) (first.2 x)
  first-found (y ∷ ys) (suc i) x first =
      found-past (test y) y (slice_index_or ys i x) (find test (take i ys)) (find test ys)
      (λ h. first-found ys i x (h, omega (arith, first.1), first.2)) first.0

  out-past : (b : Bool) (y : X) (o : Option X) (ys zs : List X) → (o ≡ None → ys ≡ zs) → cond b (Some y) o ≡ None
      → (rest : List X) → (if b then rest else y ∷ ys) ≡ y ∷ zs
  out-past true y o ys zs f h rest = absurd cc
  out-past false y o ys zs f h rest = ap (λ l. y ∷ l) (f h)

  -- it is the one that is left out
  pub first-out : (xs : List X) (i : ℕ) → IsFirstAt test i xs → without_first test xs ≡ remove xs i
  first-out [] i first = absurd (omega (arith, first.1))
  first-out (y ∷ ys) zero first = ap (λ b. if b then ys else y ∷ without_first test ys) (first.2 y)
  first-out (y ∷ ys) (suc i) first =
      out-past (test y) y (find test (take i ys)) (without_first test ys) (remove ys i)
      (λ h. first-out ys i (h, omega (arith, first.1), first.2)) first.0 ys

  -- so what is taken out at its place is what is found
  pub taken-found : (xs : List X) (i : ℕ) (o : Option X) → IsFirstAt test i xs → ((x : X) → o ≡ Some (slice_index_or xs i x)) → o ≡ find test xs
  taken-found [] i o first is = absurd (omega (arith, first.1))
  taken-found (x ∷ xs) i o first is = is x ∙ sym (first-found (x ∷ xs) i x first)

  some-taken : {P : Type 0} (xs : List X) (i : ℕ) (o : Option X) → i < length xs → ((x : X) → o ≡ Some (slice_index_or xs i x)) → OnSome o P → P
  some-taken xs i (Some x) under is p = p
  some-taken [] i None under is p = absurd (omega (arith, under))
  some-taken (x ∷ xs) i None under is p = let no : None ≡ Some (slice_index_or (x ∷ xs) i x) = is x in absurd cc

  -- and what is left is all but the first
  pub taken-out : (xs xs' : List X) (i : ℕ) (o : Option X) → IsFirstAt test i xs → ((x : X) → o ≡ Some (slice_index_or xs i x))
      → OnSome o (xs' ≡ remove xs i) → xs' ≡ without_first test xs
  taken-out xs xs' i o first is out = some-taken xs i o first.1 is out ∙ sym (first-out xs i first)

  -- there is one, or there is none
  pub there-found : (xs : List X) (o : Option ℕ) → IfSome o (λ i. IsFirstAt test i xs) → IfNone o (find test xs ≡ None)
      → is_some o ≡ is_some (find test xs)
  there-found xs None first none = sym (ap is_some none)
  there-found [] (Some i) first none = absurd (omega (arith, first.1))
  there-found (x ∷ xs) (Some i) first none = sym (ap is_some (first-found (x ∷ xs) i x first))

-- ---- the kinds of what is awaited

mark-itself : (reply : Reply) (kinds : Kinds) → is_marked reply (marked reply kinds) ≡ true
mark-itself ChannelOpened kinds = refl
mark-itself ChannelClosed kinds = refl
mark-itself FlowDone kinds = refl
mark-itself SecretDone kinds = refl
mark-itself ConnectionClosed kinds = refl

mark-kept : (reply other : Reply) (kinds : Kinds) → is_marked other kinds ≡ true → is_marked other (marked reply kinds) ≡ true
mark-kept ChannelOpened ChannelOpened kinds h = refl
mark-kept ChannelClosed ChannelClosed kinds h = refl
mark-kept FlowDone FlowDone kinds h = refl
mark-kept SecretDone SecretDone kinds h = refl
mark-kept ConnectionClosed ConnectionClosed kinds h = refl
mark-kept _ _ kinds h = h

-- one more is awaited, of this kind
pub marks-pushed : (kinds : Kinds) (list : List Awaited) (a : Awaited) → AllByRecursion (IsMarked kinds) list
    → AllByRecursion (IsMarked (marked a.reply kinds)) (list ++ a ∷ [])
marks-pushed kinds [] a all = (mark-itself a.reply kinds, tt)
marks-pushed kinds (b ∷ list) a all = (mark-kept a.reply b.reply kinds all.0, marks-pushed kinds list a all.1)

-- no two replies have methods of one number
same-mark : (reply other : Reply) (kinds : Kinds) → (method_of reply == method_of other) ≡ true → is_marked reply kinds ≡ is_marked other kinds
same-mark ChannelOpened ChannelOpened kinds h = refl
same-mark ChannelClosed ChannelClosed kinds h = refl
same-mark FlowDone FlowDone kinds h = refl
same-mark SecretDone SecretDone kinds h = refl
same-mark ConnectionClosed ConnectionClosed kinds h = refl
same-mark _ _ kinds h = absurd cc

passed-over : (b : Bool) (a : Awaited) (o : Option Awaited) → o ≡ None → (b ≡ true → true ≡ false) → cond b (Some a) o ≡ None
passed-over true a o none apart = let no : true ≡ false = apart refl in absurd cc
passed-over false a o none apart = none

-- where no reply of a kind was awaited none is found
pub none-marked : (reply : Reply) (kinds : Kinds) (list : List Awaited) → AllByRecursion (IsMarked kinds) list → is_marked reply kinds ≡ false
    → find (is_of reply) list ≡ None
none-marked reply kinds [] all unmarked = refl
none-marked reply kinds (a ∷ list) all unmarked =
    passed-over (is_of reply a) a (find (is_of reply) list) (none-marked reply kinds list all.1 unmarked)
    (λ is. sym all.0 ∙ same-mark a.reply reply kinds is ∙ unmarked)
