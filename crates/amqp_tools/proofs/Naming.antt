-- The names in an ordered set of octets, seen as lists.
use Rattle.std.proofs.Common.{◌≡◌, ℕ, List, [], ◌∷◌, map, refl, ap, ◌∙◌}
use Rattle.std.proofs.lemmas.Map.Text.{is_eq-slice_cmp}
use Rattle.std.specs.List.{list_any}
use Rattle.std.specs.Ordering.{is_eq, nat_cmp, match_ordering}
use Rattle.std.specs.Cmp.Lexicographic.{slice_cmp}
use Rattle.std.specs.declared.cmp.Ordering.{Ordering}
use Rattle.std.specs.declared.cmp.Ordering.TheVariants.{Less, Equal, Greater}
use Rattle.std.specs.BTreeSet.{insert_key}
use Rattle.amqp_tools.specs.Names.{is_name_among, put_name}

module _ {K : Type 0} (octets : K → List ℕ) where
  -- a set has a key of these octets where they are among its names
  pub among_keys :
      (name : List ℕ) (keys : List K) →
      list_any (λ k. is_eq (slice_cmp nat_cmp name (octets k))) keys ≡ is_name_among name (map octets keys)
  among_keys name [] = refl
  among_keys name (k ∷ ks) = rw (is_eq-slice_cmp name (octets k), among_keys name ks) refl

  chosen :
      (o : Ordering) (a b c : List K) →
      map octets (match_ordering o a b c) ≡ match_ordering o (map octets a) (map octets b) (map octets c)
  chosen Less a b c = refl
  chosen Equal a b c = refl
  chosen Greater a b c = refl

  -- one key more is one name more
  pub put_key :
      (key : K) (keys : List K) →
      map octets (insert_key (λ a b. slice_cmp nat_cmp (octets a) (octets b)) keys key) ≡ put_name (octets key) (map octets keys)
  put_key key [] = refl
  put_key key (k ∷ ks) =
      chosen (slice_cmp nat_cmp (octets key) (octets k)) (key ∷ k ∷ ks) (k ∷ ks)
      (k ∷ insert_key (λ a b. slice_cmp nat_cmp (octets a) (octets b)) ks key)
      ∙ ap
      (λ (more : List (List ℕ)). match_ordering (slice_cmp nat_cmp (octets key) (octets k)) (octets key ∷ octets k ∷ map octets ks) (octets k ∷ map octets ks) (octets k ∷ more))
      (put_key key ks)
