-- The same, as the calls have it: a count, a place and a state of the double by their own names.
use Rattle.std.proofs.Common.{◌≡◌, ◌∙◌, ap, sym, subst, ℕ, ◌+◌, ◌==◌, true, false, List, [], ◌∷◌, ◌++◌, length, take}
use Rattle.std.specs.Prelude.{slice_index, vec_capacity}
use Rattle.amqp_engine.specs.declared.port.Step.TheVariants.{Linked, Piece}
use Rattle.amqp_engine.specs.Plan.{at_most_64}
use Rattle.amqp_double.specs.Doubles.{DoubleState}
use Rattle.amqp_joined.specs.declared.inside.Inside.{Inside}
use Rattle.amqp_joined.specs.declared.marks.Marked.TheVariants as marked
use Rattle.amqp_joining.specs.Joining.{next_cut, place_after}
use Rattle.amqp_joined.specs.Insides.{join_of, output_of, Holds, TellsByRule}
use Rattle.amqp_joined.proofs.Steps.{wants, tells_linked, tells_piece}

pub linked_by : (old new : Inside) (n : ℕ) → Holds old → wants old ≡ true
    → new ≡ record old {
      marks = new.marks;
      told = at_most_64 (old.told + 1);
      asked = false;
      linked = true;
      link_at = n;
      room = at_most_64 (old.room + slice_index old.plan.rooms.numbers old.room_at);
      room_at = place_after old.plan.rooms.numbers old.room_at;
      short = false;
    }
    → n ≡ length old.taken.items
    → new.marks.items ≡ old.marks.items ++ record { before = old.told; what = marked.Linked } ∷ [] → vec_capacity new.marks ≡ vec_capacity old.marks → TellsByRule Linked [] old new
linked_by old new n h wanted same is items capacity =
    tells_linked old new h wanted (same ∙ ap (λ (k : ℕ). record old {
      marks = new.marks;
      told = at_most_64 (old.told + 1);
      asked = false;
      linked = true;
      link_at = k;
      room = at_most_64 (old.room + slice_index old.plan.rooms.numbers old.room_at);
      room_at = place_after old.plan.rooms.numbers old.room_at;
      short = false;
    }) is) items capacity

pub piece_by : (old new : Inside) (n start at : ℕ) (d : DoubleState) (octets : List ℕ) → Holds old → wants old ≡ false → old.short ≡ false → (length (output_of old) == 0) ≡ false
    → new ≡ record old { double = d; cut_at = at; marks = new.marks; told = at_most_64 (old.told + 1) }
    → n ≡ next_cut (join_of old) → start ≡ old.double.sent → d ≡ record old.double { sent = old.double.sent + n } → at ≡ place_after old.plan.cuts.numbers old.cut_at
    → octets ≡ take n (output_of old)
    → new.marks.items ≡ old.marks.items ++ record { before = old.told; what = marked.Piece start n } ∷ [] → vec_capacity new.marks ≡ vec_capacity old.marks
    → TellsByRule (Piece n) octets old new
piece_by old new n start at d octets h unasked long some same is begins told cut are items capacity =
    subst (λ (k : ℕ). TellsByRule (Piece k) octets old new) (sym is)
    (tells_piece old new octets h unasked long some
    (same
    ∙ ap (λ (x : DoubleState). record old { double = x; cut_at = at; marks = new.marks; told = at_most_64 (old.told + 1) }) (told ∙ ap (λ (k : ℕ). record old.double { sent = old.double.sent + k }) is)
    ∙ ap (λ (k : ℕ). record old { double = record old.double { sent = old.double.sent + next_cut (join_of old) }; cut_at = k; marks = new.marks; told = at_most_64 (old.told + 1) }) cut)
    (are ∙ ap (λ (k : ℕ). take k (output_of old)) is)
    (items
    ∙ ap (λ (k : ℕ). old.marks.items ++ record { before = old.told; what = marked.Piece k n } ∷ []) begins
    ∙ ap (λ (k : ℕ). old.marks.items ++ record { before = old.told; what = marked.Piece old.double.sent k } ∷ []) is)
    capacity)
