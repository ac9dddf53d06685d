-- What a delivery is, and the deeds that it is.
use Rattle.std.proofs.Common.{◌≡◌, ℕ, Bool, true, false, cond, ◌&&◌, ◌||◌, nat_lt, List, Option, refl}
use Rattle.amqp_tools.specs.declared.taking.Coming.{Coming}
use Rattle.amqp_tools.specs.declared.taking.Coming.TheVariants.{Wanted, Named, Unwanted, Astray}
use Rattle.amqp_tools.specs.Acknowledged.{Does, is_known}
use Rattle.amqp_tools.specs.Taking.{Taken, standing, left, is_none_left, has_mark, settled_unknown, found_again, looked_at, coming_at, come_as, steps_of}

-- ---- what is looked at leaves the tags and the names

picked : (b : Bool) (x y t : Taken) → standing x ≡ standing t → standing y ≡ standing t → standing (cond b x y) ≡ standing t
picked true x y t h k = h
picked false x y t h k = k

standing_found : (mark : ℕ) (t : Taken) → standing (found_again mark t) ≡ standing t
standing_found mark t =
    picked (has_mark mark t.lost) _ _ t refl (picked (has_mark mark t.past) _ _ t refl refl)

pub standing_looked : (redelivered : Bool) (mark : ℕ) (t : Taken) → standing (looked_at redelivered mark t) ≡ standing t
standing_looked redelivered mark t =
    picked (redelivered && has_mark mark t.unknown) _ _ t refl
    (picked redelivered _ _ t (standing_found mark (settled_unknown t)) refl)

-- ---- what a delivery is

not_passed : (over passed known : Bool) → cond (over || passed) Unwanted (cond known Named Wanted) ≡ Wanted → passed ≡ false
not_passed true passed known e = absurd cc
not_passed false true known e = absurd cc
not_passed false false known e = refl

not_passed_named : (over passed known : Bool) → cond (over || passed) Unwanted (cond known Named Wanted) ≡ Named → passed ≡ false
not_passed_named true passed known e = absurd cc
not_passed_named false true known e = absurd cc
not_passed_named false false known e = refl

is_named : (over passed known : Bool) → cond (over || passed) Unwanted (cond known Named Wanted) ≡ Named → known ≡ true
is_named true passed known e = absurd cc
is_named false true known e = absurd cc
is_named false false true e = refl
is_named false false false e = absurd cc

-- the deeds that it is may be done, and lead to what is done with it
pub deeds_are_done :
    (what : Coming) (tag mark : ℕ) (name : Option (List ℕ)) (t : Taken) → nat_lt t.tags.last tag ≡ true →
    coming_at name t ≡ what →
    Does (standing t) (steps_of what tag name) (standing (come_as what tag mark name t))
deeds_are_done Wanted tag mark name t above is =
    let free = not_passed (is_none_left (left t)) t.tags.passed (is_known t.names name) is in
    (rw (free, above) refl, refl)
deeds_are_done Named tag mark name t above is =
    let free = not_passed_named (is_none_left (left t)) t.tags.passed (is_known t.names name) is in
    let known = is_named (is_none_left (left t)) t.tags.passed (is_known t.names name) is in
    (rw (free, above, known) refl, refl)
deeds_are_done Unwanted tag mark name t above is = (rw above refl, refl)
deeds_are_done Astray tag mark name t above is = (refl, refl)
