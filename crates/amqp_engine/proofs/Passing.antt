-- The committed frames whose last byte is among so many are sent, one after another.
use Rattle.std.proofs.Common.{◌≡◌, ◌≤◌, ◌⊎◌, inl, inr, ◌∙◌, ap, sym, subst, refl, ℕ, suc, ◌-◌, ◌==◌, ◌&&◌, nat_le, Bool, true, false, not, cond, if◌then◌else◌, List, [], ◌∷◌, ◌++◌, drop, take, append_assoc, append-nil, arith}
use Rattle.std.proofs.lemmas.Bool.Decides.{nat_tests}
use Rattle.amqp_frame.specs.declared.frame.Frame.{Frame}
use Rattle.amqp_outbox.specs.declared.item.Item.{Item}
use Rattle.amqp_outbox.specs.Queued.{waiting_items}
use Rattle.amqp_outgoing.specs.declared.committed.Mark.{Mark}
use Rattle.amqp_outgoing.specs.declared.committed.Then.{Then}
use Rattle.amqp_outgoing.specs.declared.committed.Then.TheVariants.{Nothing, Answer, Pays, Finish}
use Rattle.amqp_commands.specs.declared.command.Cmd.{Cmd}
use Rattle.amqp_rules.specs.declared.state.Input.{Input}
use Rattle.amqp_rules.specs.declared.state.Input.TheVariants.{Acting, Closed, Dropped}
use Rattle.amqp_rules.specs.Talk.{Talk, is_open}
use Rattle.amqp_rules.specs.Channels.{channel_at}
use Rattle.amqp_rules.specs.Sound.{IsSound, Finishes, NoneFinishes, LastFinishes, following, is_finish}
use Rattle.amqp_outgoing.specs.Marks.{then_of}
use Rattle.amqp_rules.specs.Writing.{follow, sent, sent_among, taken}
use Rattle.amqp_carried_rules.specs.CommandFrames.{is_raw}
use Rattle.amqp_types.proofs.Small.{if-true, if-false}
use Rattle.amqp_rules.proofs.Sending.{pay-keeps}
use Rattle.amqp_rules.proofs.Finishing.{sent-committed}
use Rattle.amqp_carried_rules.proofs.Bearing.{Reading, IsAt}
use Rattle.amqp_carried_rules.proofs.Bearers.{moved}
use Rattle.amqp_engine.specs.Carried.{raw_frames}
use Rattle.amqp_engine.specs.Sending.{frames, sent_in}
use Rattle.amqp_engine.proofs.Departing.{AreEver, IsKnown, IsSentOn, sent-on}

-- ---- marks

-- the marks of these frames
abbrev pub AreMarks : List Mark → List Item → Type 0
AreMarks [] [] = Unit {0}
AreMarks (m ∷ ms) (i ∷ is) = (m.then ≡ then_of i) × (1 ≤ m.left) × AreMarks ms is
AreMarks _ _ = ⊥

-- what finishes the session is the last
abbrev pub FinishIsLast : List Mark → Type 0
FinishIsLast [] = Unit {0}
FinishIsLast (m ∷ ms) = (m.then ≡ Finish → ms ≡ []) × FinishIsLast ms

no-marks : (ms : List Mark) (items : List Item) → following ms items ≡ [] → ms ≡ []
no-marks [] items h = refl
no-marks (m ∷ ms) items h = absurd cc

none-last : (ms : List Mark) (items : List Item) → NoneFinishes (following ms items) → FinishIsLast ms
none-last [] items h = tt
none-last (m ∷ ms) items h = ((λ e. (let no : is_finish m.then ≡ false = h.0 in let yes : is_finish m.then ≡ true = ap is_finish e in absurd cc)), none-last ms items h.1)

last-last : (ms : List Mark) (items : List Item) → LastFinishes (following ms items) → FinishIsLast ms
last-last [] items h = tt
last-last (m ∷ ms) items h = ((λ e. no-marks ms items (h.0 (ap is_finish e))), last-last ms items h.1)

finishes-last : (i : Input) (ms : List Mark) (items : List Item) → Finishes i (following ms items) → FinishIsLast ms
finishes-last Acting ms items h = none-last ms items h
finishes-last (Closed b) ms items h = last-last ms items h
finishes-last (Dropped b) ms items h = last-last ms items h

-- in a sound state what finishes the session is the last
pub sound-last : (t : Talk) → IsSound t → FinishIsLast t.committed
sound-last t s = finishes-last t.input t.committed (waiting_items t.outbox) s.finish

-- no byte is the last of none
sent-none : (ms : List Mark) (is : List Item) → AreMarks ms is → sent_in 0 ms ≡ 0
sent-none [] is h = refl
sent-none (m ∷ ms) [] h = absurd h
sent-none (m ∷ ms) (i ∷ is) h =
    let more : nat_le m.left 0 ≡ false = grind (arith, nat_tests, h.1) in
    if-false (nat_le m.left 0) (suc (sent_in (0 - m.left) ms)) 0 more

-- ---- one after another

-- nothing that follows a frame but the end shuts the link
still-open : (th : Then) (t : Talk) → (th ≡ Finish) ⊎ (is_open (follow th t) ≡ is_open t)
still-open Nothing t = inr refl
still-open (Answer k) t = inr refl
still-open (Pays n) t = inr (pay-keeps is_open (λ u cs ns. refl) (channel_at n t) n t)
still-open Finish t = inl refl

raw-cons : (f : Frame) (fs : List Frame) → raw_frames (f ∷ []) ++ raw_frames fs ≡ raw_frames (f ∷ fs)
raw-cons f fs = by (is_raw f) where
  by : (b : Bool) → cond b (f ∷ []) [] ++ raw_frames fs ≡ cond b (f ∷ raw_frames fs) (raw_frames fs)
  by true = refl
  by false = refl

-- so many of these frames were sent
pub record AreSentOn (cs : List Cmd) (took : ℕ → Bool) (before : List (List Frame)) (sofar : List Frame) (left : List Item) (k : ℕ) (t : Talk) : Type 0 where
  pub answered : ℕ → Bool
  pub ever : ℕ → Bool
  pub both : AreEver took answered ever
  pub reading : Reading
  pub at : IsAt cs answered reading (drop k left) t
  pub known : IsKnown cs ever reading before (sofar ++ raw_frames (frames (take k left)))
  pub marks : is_open t ≡ true → AreMarks t.committed (drop k left)

none-on : (cs : List Cmd) (took answered ever : ℕ → Bool) (r : Reading) (before : List (List Frame)) (sofar : List Frame) (left : List Item) (t : Talk)
    → AreEver took answered ever → IsAt cs answered r left t → IsKnown cs ever r before sofar → (is_open t ≡ true → AreMarks t.committed left) → AreSentOn cs took before sofar left 0 t
none-on cs took answered ever r before sofar left t both h known marks =
    let K : List Frame → Type 0 = λ fs. IsKnown cs ever r before fs in
    record { answered = answered; ever = ever; both = both; reading = r; at = h; known = subst K (sym (append-nil sofar)) known; marks = marks }

among : (ms : List Mark) (n : ℕ) (t : Talk) (cs : List Cmd) (took answered ever : ℕ → Bool) (r : Reading) (before : List (List Frame)) (sofar : List Frame) (left : List Item)
    → (is_open t ≡ true → t.committed ≡ ms) → AreMarks ms left → FinishIsLast ms → (is_open t ≡ true) ⊎ (ms ≡ []) → AreEver took answered ever → IsAt cs answered r left t → IsKnown cs ever r before sofar
    → AreSentOn cs took before sofar left (sent_in n ms) (sent_among ms n t)
among [] n t cs took answered ever r before sofar [] committed marks last opened both h known =
    none-on cs took answered ever r before sofar [] t both h known (λ o. (let M : List Mark → Type 0 = λ ms. AreMarks ms [] in subst M (sym (committed o)) tt))
among [] n t cs took answered ever r before sofar (i ∷ is) committed marks last opened both h known = absurd marks
among (m ∷ ms) n t cs took answered ever r before sofar [] committed marks last opened both h known = absurd marks
among (m ∷ ms) n t cs took answered ever r before sofar (i ∷ is) committed marks last (inr e) both h known = absurd cc
among (m ∷ ms) n t cs took answered ever r before sofar (i ∷ is) committed marks last (inl o) both h known =
    let rest : Talk = record t { committed = record m { left = m.left - n } ∷ ms } in
    let on : Talk = sent_among ms (n - m.left) (sent m t) in
    let inner : Talk = if nat_le m.left n then on else rest in
    let Q : Talk → Type 0 = λ x. AreSentOn cs took before sofar (i ∷ is) (sent_in n (m ∷ ms)) x in
    let first : IsSentOn cs took before sofar i is (sent m t) = sent-on cs took answered ever r before sofar i is m t marks.0 o both h known in
    let goes : (is_open (sent m t) ≡ true) ⊎ (ms ≡ []) = elim (still-open m.then (record t { committed = drop 1 t.committed })) [
      | inl e ↦ inr (last.0 e)
      | inr e ↦ inl (e ∙ o)
    ] in
    subst Q (sym (if-true (is_open t) inner t o))
    (by (nat_le m.left n) refl
    (among ms (n - m.left) (sent m t) cs took first.answered first.ever first.reading before (sofar ++ raw_frames (i.frame ∷ [])) is
    (λ still. sent-committed m ms t still (committed o)) marks.2 last.1 goes first.both first.at first.known)) where
      by : (b : Bool) → nat_le m.left n ≡ b
          → AreSentOn cs took before (sofar ++ raw_frames (i.frame ∷ [])) is (sent_in (n - m.left) ms) (sent_among ms (n - m.left) (sent m t))
          → AreSentOn cs took before sofar (i ∷ is) (if b then suc (sent_in (n - m.left) ms) else 0)
          (if b then sent_among ms (n - m.left) (sent m t) else record t { committed = record m { left = m.left - n } ∷ ms })
      by true whole a =
          let K : List Frame → Type 0 = λ fs. IsKnown cs a.ever a.reading before fs in
          let k = sent_in (n - m.left) ms in
          let same : (sofar ++ raw_frames (i.frame ∷ [])) ++ raw_frames (frames (take k is)) ≡ sofar ++ raw_frames (i.frame ∷ frames (take k is)) =
          append_assoc sofar (raw_frames (i.frame ∷ [])) (raw_frames (frames (take k is))) ∙ ap (λ fs. sofar ++ fs) (raw-cons i.frame (frames (take k is))) in
          record { answered = a.answered; ever = a.ever; both = a.both; reading = a.reading; at = a.at; known = subst K same a.known; marks = a.marks }
      by false part a =
          let rest : Talk = record t { committed = record m { left = m.left - n } ∷ ms } in
          let some : 1 ≤ m.left - n = grind (arith, nat_tests, part) in
          none-on cs took answered ever r before sofar (i ∷ is) rest both (moved cs answered r (i ∷ is) t rest refl (λ z. z) (λ k. refl) (λ p. p) (λ b. b) h) known (λ p. (marks.0, some, marks.2))

-- bytes are taken by an open link
pub taken-on : (n : ℕ) (t : Talk) (cs : List Cmd) (took answered ever : ℕ → Bool) (r : Reading) (before : List (List Frame)) (sofar : List Frame) (left : List Item)
    → is_open t ≡ true → AreMarks t.committed left → FinishIsLast t.committed → AreEver took answered ever → IsAt cs answered r left t → IsKnown cs ever r before sofar
    → AreSentOn cs took before sofar left (sent_in n t.committed) (taken n t)
taken-on n t cs took answered ever r before sofar left o marks last both h known = by n (n == 0) refl where
  u : Talk
  u = record t { last_write = t.present }

  by : (n : ℕ) (b : Bool) → (n == 0) ≡ b → AreSentOn cs took before sofar left (sent_in n t.committed) (taken n t)
  by n true is =
      let Q : Talk → Type 0 = λ x. AreSentOn cs took before sofar left (sent_in n t.committed) x in
      let N : ℕ → Type 0 = λ k. AreSentOn cs took before sofar left k t in
      let zero_is : n ≡ 0 = grind (arith, nat_tests, is) in
      let none : sent_in n t.committed ≡ 0 = ap (λ k. sent_in k t.committed) zero_is ∙ sent-none t.committed left marks in
      let idle : (is_open t && not (n == 0)) ≡ false = ap (λ b. is_open t && not b) is ∙ ap (λ b. b && false) o in
      subst Q (sym (if-false (is_open t && not (n == 0)) (sent_among t.committed n u) t idle)) (subst N (sym none) (none-on cs took answered ever r before sofar left t both h known (λ p. marks)))
  by n false is =
      let Q : Talk → Type 0 = λ x. AreSentOn cs took before sofar left (sent_in n t.committed) x in
      let goes : (is_open t && not (n == 0)) ≡ true = ap (λ b. is_open t && not b) is ∙ ap (λ b. b && true) o in
      subst Q (sym (if-true (is_open t && not (n == 0)) (sent_among t.committed n u) t goes))
      (among t.committed n u cs took answered ever r before sofar left (λ p. refl) marks last (inl o) both (moved cs answered r left t u refl (λ z. z) (λ k. refl) (λ p. p) (λ b. b) h) known)
