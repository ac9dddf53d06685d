-- Two slices against other bytes, each against its part of them.
use Rattle.std.proofs.Common.{◌≡◌, ◌∙◌, refl, sym, ap, ap₂, subst, ℕ, Bool, List, ◌++◌, length, take, drop, map, take-append-drop}
use Rattle.std.specs.Prelude.{IsTrue, ◌↔◌}
use Rattle.std.specs.Char.{to_ascii_lowercase}
use Rattle.std.proofs.lemmas.List.{take_at, drop_at, map-append, length-map}
use Rattle.amqp_ring.specs.Contexts.{IsSameNoCase}

-- a way of being the same in which two lists joined are the same exactly where their parts are
pub record IsByParts (Same : List ℕ → List ℕ → Type 0) : Type 0 where
  pub joined : (a b x y : List ℕ) → Same a x → Same b y → Same (a ++ b) (x ++ y)
  pub first : (a b x y : List ℕ) → length x ≡ length a → Same (a ++ b) (x ++ y) → Same a x
  pub second : (a b x y : List ℕ) → length x ≡ length a → Same (a ++ b) (x ++ y) → Same b y

pub equal_by_parts : IsByParts (λ xs ys. xs ≡ ys)
equal_by_parts = record {
  joined = λ a b x y first second. ap₂ ◌++◌ first second;
  first = λ a b x y as_long e.
      sym (take_at a b (length a) refl) ∙ ap (take (length a)) e ∙ take_at x y (length a) as_long;
  second = λ a b x y as_long e.
      sym (drop_at a b (length a) refl) ∙ ap (drop (length a)) e ∙ drop_at x y (length a) as_long;
}

module _ (a b x y : List ℕ) where
  abbrev lower : List ℕ → List ℕ
  lower xs = map to_ascii_lowercase xs

  lower_parts : IsSameNoCase (a ++ b) (x ++ y) → lower a ++ lower b ≡ lower x ++ lower y
  lower_parts e = sym (map-append to_ascii_lowercase a b) ∙ e ∙ map-append to_ascii_lowercase x y

  lower_as_long : length x ≡ length a → length (lower x) ≡ length (lower a)
  lower_as_long as_long = length-map x to_ascii_lowercase ∙ as_long ∙ sym (length-map a to_ascii_lowercase)

  pub lower_joined : IsSameNoCase a x → IsSameNoCase b y → IsSameNoCase (a ++ b) (x ++ y)
  lower_joined first second =
      map-append to_ascii_lowercase a b ∙ ap₂ ◌++◌ first second ∙ sym (map-append to_ascii_lowercase x y)

  pub lower_first : length x ≡ length a → IsSameNoCase (a ++ b) (x ++ y) → IsSameNoCase a x
  lower_first as_long e =
      equal_by_parts.first (lower a) (lower b) (lower x) (lower y) (lower_as_long as_long) (lower_parts e)

  pub lower_second : length x ≡ length a → IsSameNoCase (a ++ b) (x ++ y) → IsSameNoCase b y
  lower_second as_long e =
      equal_by_parts.second (lower a) (lower b) (lower x) (lower y) (lower_as_long as_long) (lower_parts e)

pub same_by_parts : IsByParts IsSameNoCase
same_by_parts = record { joined = lower_joined; first = lower_first; second = lower_second }

module _ {Same : List ℕ → List ℕ → Type 0} (parts : IsByParts Same) (a b x y bytes : List ℕ)
    (front : x ≡ take (length a) bytes) (back : y ≡ drop (length a) bytes) (as_long : length x ≡ length a) where
  whole : x ++ y ≡ bytes
  whole = ap₂ ◌++◌ front back ∙ take-append-drop (length a) bytes

  -- where the first parts are the same, the second ones tell
  pub second_tells : (r : Bool) → Same a x → IsTrue r ↔ Same b y → IsTrue r ↔ Same (a ++ b) bytes
  second_tells r first tells = (
    (λ t. subst (Same (a ++ b)) whole (parts.joined a b x y first (tells.0 t))),
    (λ e. tells.1 (parts.second a b x y as_long (subst (Same (a ++ b)) (sym whole) e))),
  )

  -- where all is the same, so are the first parts
  pub first_follows : Same (a ++ b) bytes → Same a x
  first_follows e = parts.first a b x y as_long (subst (Same (a ++ b)) (sym whole) e)
