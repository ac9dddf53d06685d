-- Groups that go, one after another: what is then left to do leads where the whole does.
use Rattle.std.proofs.Common.{◌≡◌, ◌∙◌, ap, sym, refl, ℕ, suc, ◌<◌, Bool, true, false, cond, not, if◌then◌else◌, List, [], ◌∷◌, length, Option, Some, None, Err, option_map, arith}
use Rattle.std.specs.Prelude.{filter, find}
use Rattle.amqp_outbox.specs.declared.item.Item.{Item}
use Rattle.amqp_outbox.specs.Lists.{without_first}
use Rattle.amqp_outbox.specs.Items.{promise_of_group}
use Rattle.amqp_outbox.specs.Queued.{Queued, is_on, group_promise, without_group}
use Rattle.amqp_outbox.proofs.Taking.{none-left_out}
use Rattle.amqp_promise.specs.declared.error.ErrorKind.{ErrorKind}
use Rattle.amqp_uri.specs.Address.{local}
use Rattle.amqp_settings.specs.Config.{config_of, no_options}
use Rattle.amqp_rules.specs.Talk.{Talk, start}
use Rattle.amqp_answers.specs.Settled.{Promises, settled_to}
use Rattle.amqp_rules.specs.Changes.{give_to, rejected, drop_groups_of}

-- ---- the first that passes a test

module _ {X : Type 0} (test : X → Bool) where
  abbrev pub fails : X → Bool
  fails x = not (test x)

  -- the others are those that fail, and those that pass after it
  pub same-fail : (xs : List X) → filter fails (without_first test xs) ≡ filter fails xs
  same-fail [] = refl
  same-fail (x ∷ xs) = by (test x) refl (same-fail xs) where
    by : (b : Bool) → test x ≡ b → filter fails (without_first test xs) ≡ filter fails xs
        → filter fails (if b then xs else x ∷ without_first test xs) ≡ cond (not b) (x ∷ filter fails xs) (filter fails xs)
    by true is rest = refl
    by false is rest = ap (λ b. cond (not b) (x ∷ filter fails (without_first test xs)) (filter fails (without_first test xs))) is ∙ ap (λ ys. x ∷ ys) rest

  pub first-pass : (xs : List X) (g : X) → find test xs ≡ Some g → filter test xs ≡ g ∷ filter test (without_first test xs)
  first-pass [] g h = absurd cc
  first-pass (x ∷ xs) g h = by (test x) refl h (first-pass xs g) where
    by : (b : Bool) → test x ≡ b → cond b (Some x) (find test xs) ≡ Some g → (find test xs ≡ Some g → filter test xs ≡ g ∷ filter test (without_first test xs))
        → cond b (x ∷ filter test xs) (filter test xs) ≡ g ∷ filter test (if b then xs else x ∷ without_first test xs)
    by true is k rest = let same : x ≡ g = cc in ap (λ y. y ∷ filter test xs) same
    by false is k rest =
        rest k ∙ sym (ap (λ b. g ∷ cond b (x ∷ filter test (without_first test xs)) (filter test (without_first test xs))) is)

  one-less : (xs : List X) (g : X) → find test xs ≡ Some g → length (without_first test xs) < length xs
  one-less [] g h = absurd cc
  one-less (x ∷ xs) g h = by (test x) h (one-less xs g) where
    by : (b : Bool) → cond b (Some x) (find test xs) ≡ Some g → (find test xs ≡ Some g → length (without_first test xs) < length xs)
        → length (if b then xs else x ∷ without_first test xs) < suc (length xs)
    by true k rest = omega arith
    by false k rest = let less : length (without_first test xs) < length xs = rest k in omega (arith, less)

  -- where none passes, all fail
  pub none-pass : (xs : List X) → find test xs ≡ None → filter test xs ≡ []
  none-pass [] h = refl
  none-pass (x ∷ xs) h = by (test x) h (none-pass xs) where
    by : (b : Bool) → cond b (Some x) (find test xs) ≡ None → (find test xs ≡ None → filter test xs ≡ []) → cond b (x ∷ filter test xs) (filter test xs) ≡ []
    by true k rest = absurd cc
    by false k rest = rest k

  pub all-fail : (xs : List X) → find test xs ≡ None → filter fails xs ≡ xs
  all-fail [] h = refl
  all-fail (x ∷ xs) h = by (test x) h (all-fail xs) where
    by : (b : Bool) → cond b (Some x) (find test xs) ≡ None → (find test xs ≡ None → filter fails xs ≡ xs)
        → cond (not b) (x ∷ filter fails xs) (filter fails xs) ≡ x ∷ xs
    by true k rest = absurd cc
    by false k rest = ap (λ ys. x ∷ ys) (rest k)

none-mapped : {X Y : Type 0} (f : X → Y) (o : Option X) → option_map f o ≡ None → o ≡ None
none-mapped f None h = refl
none-mapped f (Some x) h = absurd cc

-- a session at its beginning
abbrev new_talk : Talk
new_talk = start (config_of local no_options)

-- a session that has this to say, and these promises
abbrev pub with_parts : Queued → Promises → Talk
with_parts q promises = record new_talk { outbox = q; promises = promises }

-- ---- the groups of a channel

module _ (n : ℕ) (e : ErrorKind) (t : Talk) where
  abbrev dropped-to : List (List Item) → Promises → Talk
  dropped-to publish promises = record t { outbox = record t.outbox { publish = publish }; promises = promises }

  -- one goes, and then the others
  pub one-dropped : (promise : Option ℕ) → group_promise n t.outbox ≡ Some promise
      → drop_groups_of n e (give_to promise (Err e) (record t { outbox = without_group n t.outbox })) ≡ drop_groups_of n e t
  one-dropped promise = by (find (is_on n) t.outbox.publish) refl where
    by : (o : Option (List Item)) → find (is_on n) t.outbox.publish ≡ o → option_map promise_of_group o ≡ Some promise
        → drop_groups_of n e (give_to promise (Err e) (record t { outbox = without_group n t.outbox })) ≡ drop_groups_of n e t
    by None is h = absurd cc
    by (Some g) is h =
        let same : promise_of_group g ≡ promise = cc in
        let left = filter (λ group. not (is_on n group)) t.outbox.publish in
        let later = filter (is_on n) (without_first (is_on n) t.outbox.publish) in
        ap (λ gs. dropped-to gs (rejected e later (settled_to promise (Err e) t.promises))) (same-fail (is_on n) t.outbox.publish)
        ∙ ap (λ p. dropped-to left (rejected e later (settled_to p (Err e) t.promises))) (sym same)
        ∙ ap (λ gs. dropped-to left (rejected e gs t.promises)) (sym (first-pass (is_on n) t.outbox.publish g is))

  pub fewer-groups : (promise : Option ℕ) → group_promise n t.outbox ≡ Some promise → length (without_group n t.outbox).publish < length t.outbox.publish
  fewer-groups promise = by (find (is_on n) t.outbox.publish) refl where
    by : (o : Option (List Item)) → find (is_on n) t.outbox.publish ≡ o → option_map promise_of_group o ≡ Some promise
        → length (without_first (is_on n) t.outbox.publish) < length t.outbox.publish
    by None is h = absurd cc
    by (Some g) is h = one-less (is_on n) t.outbox.publish g is

  -- where none is left, all is done
  pub none-dropped : group_promise n t.outbox ≡ None → drop_groups_of n e t ≡ t
  none-dropped h =
      let none = none-mapped promise_of_group (find (is_on n) t.outbox.publish) h in
      ap (λ gs. dropped-to gs (rejected e (filter (is_on n) t.outbox.publish) t.promises)) (all-fail (is_on n) t.outbox.publish none)
      ∙ ap (λ gs. dropped-to t.outbox.publish (rejected e gs t.promises)) (none-pass (is_on n) t.outbox.publish none)

  pub none-less : group_promise n t.outbox ≡ None → without_group n t.outbox ≡ t.outbox
  none-less h =
      ap (λ gs. record t.outbox { publish = gs })
      (none-left_out (is_on n) t.outbox.publish (none-mapped promise_of_group (find (is_on n) t.outbox.publish) h))
