-- The frames of a link, as their bytes are taken.
use Rattle.std.proofs.Common.{◌≡◌, ◌≢◌, ◌≤◌, ◌<◌, ℕ, suc, ◌+◌, ◌-◌, nat_le, if◌then◌else◌, Bool, true, false, List, [], ◌∷◌, ◌++◌, length, take, drop, map, Some, slice_get, slice_set, refl, ap, sym, ◌∙◌, arith, append_assoc, length-append}
use Rattle.std.proofs.lemmas.Grind.{common_steps}
use Rattle.std.proofs.lemmas.Bool.Decides.{nat_tests}
use Rattle.std.proofs.lemmas.List.{take-append-drop, drop-append-le, length-take-le, length-drop}
use Rattle.std.proofs.Math.Seq.{drop-append_seam, drop-append-add, set-append_seam}
use Rattle.amqp_frame.specs.Frames.{encoding}
use Rattle.amqp_outbox.specs.declared.item.Item.{Item}
use Rattle.amqp_outbox.specs.Items.{size_of}
use Rattle.amqp_outgoing.specs.declared.committed.Mark.{Mark}
use Rattle.amqp_engine.specs.Log.{last_set, on_last}
use Rattle.amqp_engine.specs.Sending.{encodings, sent_in, IsBegun}
use Rattle.amqp_types.proofs.Small.{if-true, if-false, if-both}
use Rattle.amqp_rules.proofs.Sending.{left_after}
use Rattle.amqp_engine.proofs.Commits.{encoding-some}

-- ---- the last of a list

get-seam : {A : Type 0} (xs : List A) (x : A) → slice_get (xs ++ x ∷ []) (length xs) ≡ Some x
get-seam [] x = refl
get-seam (y ∷ xs) x = get-seam xs x

pub on_last-append : {A : Type 0} (f : A → A) (xs : List A) (x : A) → on_last f (xs ++ x ∷ []) ≡ xs ++ f x ∷ []
on_last-append f xs x =
    let ys = xs ++ x ∷ [] in
    let place : length ys - 1 ≡ length xs = omega (arith, length-append xs (x ∷ [])) in
    let last : slice_get ys (length ys - 1) ≡ Some x = ap (slice_get ys) place ∙ get-seam xs x in
    ap (λ o. last_set o f ys) last ∙ ap (λ n. slice_set ys n (f x)) place ∙ set-append_seam xs x [] (f x)

-- ---- the frames that wait, and what is left of them

-- how many bytes are left of each of these; the first one lacks the bytes that were taken
abbrev pub lefts_of : List ℕ → List Item → List ℕ
lefts_of last [] = []
lefts_of last (f ∷ fs) = (size_of f - length last) ∷ map size_of fs

pub lefts-none : (fs : List Item) → lefts_of [] fs ≡ map size_of fs
lefts-none [] = refl
lefts-none (f ∷ fs) =
    let same : size_of f - 0 ≡ size_of f = omega arith in
    ap (λ (n : ℕ). n ∷ map size_of fs) same

-- how many bytes are left of each committed frame
abbrev pub lefts : List Mark → List ℕ
lefts ms = map (λ (m : Mark). m.left) ms

-- and once so many were taken
abbrev pub lefts_after : List ℕ → ℕ → List ℕ
lefts_after [] n = []
lefts_after (m ∷ ms) n = if nat_le m n then lefts_after ms (n - m) else (m - n) ∷ ms

pub lefts-left_after : (ms : List Mark) (n : ℕ) → lefts (left_after ms n) ≡ lefts_after (lefts ms) n
lefts-left_after [] n = refl
lefts-left_after (m ∷ ms) n =
    if-both lefts (nat_le m.left n) (left_after ms (n - m.left)) (record m { left = m.left - n } ∷ ms) (lefts_after (lefts ms) (n - m.left)) ((m.left - n) ∷ lefts ms)
    (lefts-left_after ms (n - m.left)) refl

-- how many of these frames are sent with so many bytes
abbrev pub count_in : ℕ → List ℕ → ℕ
count_in n [] = 0
count_in n (m ∷ ms) = if nat_le m n then suc (count_in (n - m) ms) else 0

pub count_in-lefts : (n : ℕ) (ms : List Mark) → sent_in n ms ≡ count_in n (lefts ms)
count_in-lefts n [] = refl
count_in-lefts n (m ∷ ms) =
    if-both (λ (k : ℕ). k) (nat_le m.left n) (suc (sent_in (n - m.left) ms)) 0 (suc (count_in (n - m.left) (lefts ms))) 0
    (ap suc (count_in-lefts (n - m.left) ms)) refl

some-list : (xs : List ℕ) → 0 < length xs → xs ≢ []
some-list [] h is = absurd (omega arith)
some-list (x ∷ xs) h is = cc

pub begun-none : (fs : List Item) → IsBegun [] fs
begun-none [] = refl
begun-none (f ∷ fs) = (encoding f.frame, some-list (encoding f.frame) (encoding-some f.frame), refl)

-- so many bytes more are taken: some frames are sent, and of the next one a part
pub record Advances (last : List ℕ) (fs : List Item) (bytes : List ℕ) (n : ℕ) (after : List ℕ) : Type 0 where
  pub sent : List Item
  pub rest : List Item
  pub part : List ℕ
  pub frames : fs ≡ sent ++ rest
  pub begun : IsBegun part rest
  pub marks : after ≡ lefts_of part rest
  pub left : encodings rest ≡ part ++ drop n bytes
  pub count : length last + n ≡ length (encodings sent ++ part)
  pub number : count_in n (lefts_of last fs) ≡ length sent

length-some : (xs : List ℕ) → xs ≢ [] → 0 < length xs
length-some [] h = absurd (h refl)
length-some (x ∷ xs) h = omega arith

-- what is the same after a common front
cancel : (xs ys zs : List ℕ) → xs ++ ys ≡ xs ++ zs → ys ≡ zs
cancel xs ys zs h = sym (drop-append_seam xs ys) ∙ ap (drop (length xs)) h ∙ drop-append_seam xs zs

-- what is unsent begins with the rest of the first frame
rest-is : (last rest bytes : List ℕ) (f : Item) (fs : List Item) → encoding f.frame ≡ last ++ rest → encodings (f ∷ fs) ≡ last ++ bytes
    → bytes ≡ rest ++ encodings fs
rest-is last rest bytes f fs he h =
    cancel last bytes (rest ++ encodings fs) (sym h ∙ ap (λ x. x ++ encodings fs) he ∙ append_assoc last rest (encodings fs))

-- the first frame is sent, or a part more of it is taken
advance-first : (b : Bool) (f : Item) (fs : List Item) (last bytes : List ℕ) (n : ℕ) (begun : IsBegun last (f ∷ fs)) → encodings (f ∷ fs) ≡ last ++ bytes → n ≤ length bytes
    → ((k : ℕ) → k ≤ length (encodings fs) → Advances [] fs (encodings fs) k (lefts_after (lefts_of [] fs) k))
    → nat_le (length (encoding f.frame) - length last) n ≡ b
    → Advances last (f ∷ fs) bytes n (lefts_after (lefts_of last (f ∷ fs)) n)
advance-first true f fs last bytes n begun h le later whole =
    let rest : List ℕ = begun.0 in
    let is : bytes ≡ rest ++ encodings fs = rest-is last rest bytes f fs begun.2 h in
    let size : length (encoding f.frame) ≡ length last + length rest = ap length begun.2 ∙ length-append last rest in
    let total : length bytes ≡ length rest + length (encodings fs) = ap length is ∙ length-append rest (encodings fs) in
    let k : ℕ = n - length rest in
    let over : length (encoding f.frame) - length last ≤ n = grind (arith, nat_tests) in
    let sum : n ≡ length rest + k = omega arith in
    let next : Advances [] fs (encodings fs) k (lefts_after (lefts_of [] fs) k) = later k (omega arith) in
    let gone : drop n bytes ≡ drop k (encodings fs) =
    ap (drop n) is ∙ ap (λ m. drop m (rest ++ encodings fs)) sum ∙ drop-append-add rest (encodings fs) k in
    let less : n - (length (encoding f.frame) - length last) ≡ k = omega arith in
    record {
      sent = f ∷ next.sent;
      rest = next.rest;
      part = next.part;
      frames = ap (λ x. f ∷ x) next.frames;
      begun = next.begun;
      marks =
          if-true (nat_le (length (encoding f.frame) - length last) n) (lefts_after (map size_of fs) (n - (length (encoding f.frame) - length last)))
          ((size_of f - length last - n) ∷ map size_of fs) whole
          ∙ ap (lefts_after (map size_of fs)) less ∙ ap (λ x. lefts_after x k) (sym (lefts-none fs)) ∙ next.marks;
      left = next.left ∙ ap (λ x. next.part ++ x) (sym gone);
      count =
          omega (arith, next.count, length-append (encoding f.frame) (encodings next.sent), length-append (encoding f.frame ++ encodings next.sent) next.part, length-append (encodings next.sent) next.part);
      number =
          if-true (nat_le (size_of f - length last) n) (suc (count_in (n - (size_of f - length last)) (map size_of fs))) 0 whole
          ∙ ap (λ m. suc (count_in m (map size_of fs))) less ∙ ap (λ ms. suc (count_in k ms)) (sym (lefts-none fs)) ∙ ap suc next.number;
    }
advance-first false f fs last bytes n begun h le later cut =
    let rest : List ℕ = begun.0 in
    let is : bytes ≡ rest ++ encodings fs = rest-is last rest bytes f fs begun.2 h in
    let size : length (encoding f.frame) ≡ length last + length rest = ap length begun.2 ∙ length-append last rest in
    let short : n < length (encoding f.frame) - length last = grind (arith, nat_tests) in
    let under : n < length rest = omega arith in
    let part : List ℕ = last ++ take n rest in
    let taken : length (take n rest) ≡ n = length-take-le n rest (omega arith) in
    let count : length part ≡ length last + n = omega (arith, length-append last (take n rest)) in
    let whole : part ++ drop n rest ≡ last ++ rest = append_assoc last (take n rest) (drop n rest) ∙ ap (λ x. last ++ x) (take-append-drop n rest) in
    let gone : drop n bytes ≡ drop n rest ++ encodings fs = ap (drop n) is ∙ drop-append-le n rest (encodings fs) (omega arith) in
    let some : 0 < length (drop n rest) = omega (arith, length-drop n rest) in
    let less : length (encoding f.frame) - length last - n ≡ length (encoding f.frame) - length part = omega arith in
    record {
      sent = [];
      rest = f ∷ fs;
      part = part;
      frames = refl;
      begun = (drop n rest, some-list (drop n rest) some, begun.2 ∙ sym whole);
      marks =
          if-false (nat_le (length (encoding f.frame) - length last) n) (lefts_after (map size_of fs) (n - (length (encoding f.frame) - length last)))
          ((size_of f - length last - n) ∷ map size_of fs) cut
          ∙ ap (λ (m : ℕ). m ∷ map size_of fs) less;
      left = ap (λ x. x ++ encodings fs) (begun.2 ∙ sym whole) ∙ append_assoc part (drop n rest) (encodings fs) ∙ ap (λ x. part ++ x) (sym gone);
      count = sym count;
      number = if-false (nat_le (size_of f - length last) n) (suc (count_in (n - (size_of f - length last)) (map size_of fs))) 0 cut;
    }

pub advance : (fs : List Item) (last bytes : List ℕ) (n : ℕ) → IsBegun last fs → encodings fs ≡ last ++ bytes → n ≤ length bytes
    → Advances last fs bytes n (lefts_after (lefts_of last fs) n)
advance [] last bytes n begun h le =
    let none : length bytes ≤ 0 = omega (arith, ap length h, length-append last bytes) in
    let gone : drop n bytes ≡ [] = grind (arith, common_steps) in
    record {
      sent = [];
      rest = [];
      part = [];
      frames = refl;
      begun = refl;
      marks = refl;
      left = sym gone;
      count = omega (arith, ap length begun);
      number = refl;
    }
advance (f ∷ fs) last bytes n begun h le =
    advance-first (nat_le (length (encoding f.frame) - length last) n) f fs last bytes n begun h le (λ k within. advance fs [] (encodings fs) k (begun-none fs) refl within) refl

-- no byte is taken
count-none : (fs : List Item) (last : List ℕ) → IsBegun last fs → count_in 0 (lefts_of last fs) ≡ 0
count-none [] last begun = refl
count-none (f ∷ fs) last begun =
    let size : length (encoding f.frame) ≡ length last + length begun.0 = ap length begun.2 ∙ length-append last begun.0 in
    let some : 0 < length begun.0 = length-some begun.0 begun.1 in
    let more : nat_le (size_of f - length last) 0 ≡ false = grind (arith, nat_tests) in
    if-false (nat_le (size_of f - length last) 0) (suc (count_in (0 - (size_of f - length last)) (map size_of fs))) 0 more

pub advance-none : (fs : List Item) (last bytes : List ℕ) → IsBegun last fs → encodings fs ≡ last ++ bytes → Advances last fs bytes 0 (lefts_of last fs)
advance-none fs last bytes begun h =
    record { sent = []; rest = fs; part = last; frames = refl; begun = begun; marks = refl; left = h; count = omega arith; number = count-none fs last begun }
