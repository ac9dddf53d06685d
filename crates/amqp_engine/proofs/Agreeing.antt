-- What was sent on the open link agrees with what the session and the engine hold of it.
use Rattle.std.proofs.Common.{◌≡◌, ◌≤◌, ℕ, zero, suc, ◌+◌, ◌-◌, ◌==◌, if◌then◌else◌, Bool, true, false, List, [], ◌∷◌, ◌++◌, length, take, drop, Option, Some, None, option_to_list, refl, ap, sym, ◌∙◌, subst, arith, append_assoc, length-append}
use Rattle.std.proofs.lemmas.Grind.{flat_map-append}
use Rattle.std.proofs.lemmas.Bool.Decides.{nat_tests}
use Rattle.std.proofs.lemmas.List.{append-nil, take-append-le, map-append}
use Rattle.std.proofs.Math.Seq.{take-append_seam, take-append-add, drop-append_seam}
use Rattle.amqp_frame.specs.Frames.{encoding}
use Rattle.amqp_outbox.specs.declared.item.Item.{Item}
use Rattle.amqp_outbox.specs.Items.{size_of}
use Rattle.amqp_outgoing.specs.declared.committed.Mark.{Mark}
use Rattle.amqp_outgoing.specs.Marks.{mark_of}
use Rattle.amqp_engine.specs.declared.port.Wrote.{Wrote}
use Rattle.amqp_engine.specs.declared.port.Wrote.TheVariants.{Took, Failed, NoMemory}
use Rattle.amqp_engine.specs.Log.{TookAtMost}
use Rattle.amqp_engine.specs.Engine.{Engine, commits, commit_one, commit_all, fitting_next, taken_by}
use Rattle.amqp_rules.specs.Writing.{frames_waiting}
use Rattle.amqp_engine.specs.Turn.{offered}
use Rattle.amqp_engine.specs.Sending.{Sending, encodings, link_bytes, items_sent, sent_in, committed_in, committed_before, offer_sending, nothing_sent, IsBegun, SendsInOrder}
use Rattle.amqp_rules.proofs.Sending.{left_after}
use Rattle.amqp_engine.proofs.Commits.{with_frame, commit_one-is}
use Rattle.amqp_engine.proofs.Sent.{lefts, lefts_of, lefts_after, lefts-left_after, count_in, count_in-lefts, begun-none, Advances, advance, advance-none}

-- of the marks of the committed frames, and of the unsent bytes
pub record Agrees (ms : List Mark) (unsent : List ℕ) (s : Sending) : Type 0 where
  -- what was sent, what was not yet sent whole, and what was taken of the first of these
  pub done : List Item
  pub rest : List Item
  pub part : List ℕ
  pub committed : s.committed ≡ done ++ rest
  pub sent : s.sent ≡ length done
  pub taken : s.taken ≡ length (encodings done ++ part)
  pub begun : IsBegun part rest
  pub left : encodings rest ≡ part ++ unsent
  pub marks : lefts ms ≡ lefts_of part rest

-- on a new link nothing was sent
pub agrees-none : Agrees [] [] nothing_sent
agrees-none = record { done = []; rest = []; part = []; committed = refl; sent = refl; taken = refl; begun = refl; left = refl; marks = refl }

module _ (ms : List Mark) (unsent : List ℕ) (s : Sending) (a : Agrees ms unsent s) where
  -- all that was committed, and the part of it that was taken
  pub agrees-all : encodings s.committed ≡ (encodings a.done ++ a.part) ++ unsent
  agrees-all =
      ap encodings a.committed ∙ flat_map-append (λ (item : Item). encoding item.frame) a.done a.rest ∙ ap (λ x. encodings a.done ++ x) a.left
      ∙ sym (append_assoc (encodings a.done) a.part unsent)

  pub agrees-bytes : link_bytes s ≡ encodings a.done ++ a.part
  agrees-bytes =
      ap (take s.taken) agrees-all ∙ ap (λ n. take n ((encodings a.done ++ a.part) ++ unsent)) a.taken
      ∙ take-append_seam (encodings a.done ++ a.part) unsent

  pub agrees-order : SendsInOrder s
  agrees-order =
      let sent : items_sent s ≡ a.done = ap (λ n. take n s.committed) a.sent ∙ ap (take (length a.done)) a.committed ∙ take-append_seam a.done a.rest in
      let rest : drop s.sent s.committed ≡ a.rest = ap (λ n. drop n s.committed) a.sent ∙ ap (drop (length a.done)) a.committed ∙ drop-append_seam a.done a.rest in
      let P : List Item → Type 0 = λ items. IsBegun a.part items in
      record { last = a.part; begun = subst P (sym rest) a.begun; bytes = agrees-bytes ∙ ap (λ items. encodings items ++ a.part) (sym sent) }

-- ---- commits

begun-snoc : (items : List Item) (part : List ℕ) (item : Item) → IsBegun part items → IsBegun part (items ++ item ∷ [])
begun-snoc [] part item h =
    let P : List ℕ → Type 0 = λ x. IsBegun x (item ∷ []) in
    subst P (sym h) (begun-none (item ∷ []))
begun-snoc (x ∷ items) part item h = h

marks-snoc : (items : List Item) (part : List ℕ) (item : Item) → IsBegun part items → lefts_of part (items ++ item ∷ []) ≡ lefts_of part items ++ size_of item ∷ []
marks-snoc [] part item h =
    let same : size_of item - length part ≡ size_of item = omega (arith, ap length h) in
    ap (λ (n : ℕ). n ∷ []) same
marks-snoc (x ∷ items) part item h = ap (λ ns. (size_of x - length part) ∷ ns) (map-append size_of items (item ∷ []))

agrees-frame : (ms : List Mark) (unsent : List ℕ) (s : Sending) (item : Item) → Agrees ms unsent s
    → Agrees (ms ++ mark_of item ∷ []) (unsent ++ encoding item.frame) (record s { committed = s.committed ++ item ∷ [] })
agrees-frame ms unsent s item a =
    record {
      done = a.done;
      rest = a.rest ++ item ∷ [];
      part = a.part;
      committed = ap (λ x. x ++ item ∷ []) a.committed ∙ append_assoc a.done a.rest (item ∷ []);
      sent = a.sent;
      taken = a.taken;
      begun = begun-snoc a.rest a.part item a.begun;
      left =
          flat_map-append (λ (x : Item). encoding x.frame) a.rest (item ∷ []) ∙ ap (λ x. encodings a.rest ++ x) (append-nil (encoding item.frame))
          ∙ ap (λ x. x ++ encoding item.frame) a.left ∙ append_assoc a.part unsent (encoding item.frame);
      marks =
          map-append (λ (m : Mark). m.left) ms (mark_of item ∷ []) ∙ ap (λ x. x ++ size_of item ∷ []) a.marks
          ∙ sym (marks-snoc a.rest a.part item a.begun);
    }

-- the same of an engine
abbrev pub AgreesOn : Engine → Sending → Type 0
AgreesOn e s = Agrees e.talk.committed e.unsent s

agrees-one : (o : Option Item) (e : Engine) (s : Sending) → AgreesOn e s → AgreesOn (with_frame o e) (record s { committed = s.committed ++ option_to_list o })
agrees-one None e s a =
    let P : List Item → Type 0 = λ items. AgreesOn e (record s { committed = items }) in
    subst P (sym (append-nil s.committed)) a
agrees-one (Some item) e s a = agrees-frame e.talk.committed e.unsent s item a

agrees-commits : (n : ℕ) (e : Engine) (s : Sending) → AgreesOn e s → AgreesOn (commits n e) (record s { committed = s.committed ++ committed_in n e })
agrees-commits zero e s a =
    let P : List Item → Type 0 = λ items. AgreesOn e (record s { committed = items }) in
    subst P (sym (append-nil s.committed)) a
agrees-commits (suc n) e s a =
    let o = fitting_next e in
    let x : Sending = record s { committed = s.committed ++ option_to_list o } in
    let P : Engine → Type 0 = λ y. AgreesOn y x in
    let Q : List Item → Type 0 = λ items. AgreesOn (commits n (commit_one e)) (record s { committed = items }) in
    subst Q (append_assoc s.committed (option_to_list o) (committed_in n (commit_one e)))
    (agrees-commits n (commit_one e) x (subst P (sym (commit_one-is e)) (agrees-one o e s a)))

-- what is sent by an offer, once its frames were committed
pub agrees-committed : (e : Engine) (s : Sending) → AgreesOn e s → AgreesOn (commit_all e) (record s { committed = s.committed ++ committed_before e })
agrees-committed e s a = agrees-commits (frames_waiting e.talk) e s a

-- ---- what is taken

agrees-advance : (ms ms' : List Mark) (unsent : List ℕ) (s : Sending) (n : ℕ) (a : Agrees ms unsent s) → Advances a.part a.rest unsent n (lefts ms')
    → Agrees ms' (drop n unsent) (record s { sent = s.sent + sent_in n ms; taken = s.taken + n })
agrees-advance ms ms' unsent s n a v =
    let number : sent_in n ms ≡ length v.sent = count_in-lefts n ms ∙ ap (count_in n) a.marks ∙ v.number in
    let joined : encodings (a.done ++ v.sent) ≡ encodings a.done ++ encodings v.sent = flat_map-append (λ (item : Item). encoding item.frame) a.done v.sent in
    record {
      done = a.done ++ v.sent;
      rest = v.rest;
      part = v.part;
      committed = a.committed ∙ ap (λ x. a.done ++ x) v.frames ∙ sym (append_assoc a.done v.sent v.rest);
      sent = omega (arith, a.sent, number, length-append a.done v.sent);
      taken =
          omega (
            arith,
            a.taken,
            v.count,
            ap length joined,
            length-append (encodings a.done) a.part,
            length-append (encodings a.done) (encodings v.sent),
            length-append (encodings v.sent) v.part,
            length-append (encodings (a.done ++ v.sent)) v.part,
          );
      begun = v.begun;
      left = v.left;
      marks = v.marks;
    }

-- so many bytes are taken
pub agrees-taken : (b : Bool) (ms : List Mark) (unsent : List ℕ) (s : Sending) (n : ℕ) → (n == 0) ≡ b → Agrees ms unsent s → n ≤ length unsent
    → Agrees (if b then ms else left_after ms n) (drop n unsent) (record s { sent = s.sent + sent_in n ms; taken = s.taken + n })
agrees-taken true ms unsent s n is a le =
    let none : n ≡ 0 = grind (arith, nat_tests) in
    let P : ℕ → Type 0 = λ k. Advances a.part a.rest unsent k (lefts ms) in
    let Q : List ℕ → Type 0 = λ ns. Advances a.part a.rest unsent 0 ns in
    agrees-advance ms ms unsent s n a (subst P (sym none) (subst Q (sym a.marks) (advance-none a.rest a.part unsent a.begun a.left)))
agrees-taken false ms unsent s n is a le =
    let Q : List ℕ → Type 0 = λ ns. Advances a.part a.rest unsent n ns in
    agrees-advance ms (left_after ms n) unsent s n a
    (subst Q (sym (lefts-left_after ms n ∙ ap (λ ns. lefts_after ns n) a.marks)) (advance a.rest a.part unsent n a.begun a.left le))

-- ---- an offer

module _ (w : Wrote) (e : Engine) (s : Sending) (a : AgreesOn e s) (fits : TookAtMost (length (offered e)) w) where
  within : taken_by w ≤ length (offered e)
  within = by w fits where
    by : (w : Wrote) → TookAtMost (length (offered e)) w → taken_by w ≤ length (offered e)
    by (Took k) h = h
    by Failed h = omega arith
    by NoMemory h = omega arith

  before : Sending
  before = record s { committed = s.committed ++ committed_before e }

  pub agrees-offer : Agrees (if taken_by w == 0 then (commit_all e).talk.committed else left_after (commit_all e).talk.committed (taken_by w))
      (drop (taken_by w) (offered e)) (offer_sending w e s)
  unfolding before
  agrees-offer = agrees-taken (taken_by w == 0) (commit_all e).talk.committed (offered e) before (taken_by w) refl (agrees-committed e s a) within

  pub offer-bytes : link_bytes (offer_sending w e s) ≡ link_bytes s ++ take (taken_by w) (offered e)
  unfolding before
  offer-bytes =
      let x : Sending = before in
      let b = agrees-committed e s a in
      let front : List ℕ = encodings b.done ++ b.part in
      let fits_front : s.taken ≤ length (encodings s.committed) =
      omega (arith, a.taken, ap length (agrees-all e.talk.committed e.unsent s a), length-append (encodings a.done ++ a.part) e.unsent) in
      let same : link_bytes x ≡ link_bytes s =
      ap (take s.taken) (flat_map-append (λ (item : Item). encoding item.frame) s.committed (committed_before e))
      ∙ take-append-le s.taken (encodings s.committed) (encodings (committed_before e)) fits_front in
      ap (λ bytes. take (s.taken + taken_by w) bytes) (agrees-all (commit_all e).talk.committed (offered e) x b)
      ∙ ap (λ n. take (n + taken_by w) (front ++ offered e)) b.taken
      ∙ take-append-add front (offered e) (taken_by w)
      ∙ ap (λ bytes. bytes ++ take (taken_by w) (offered e)) (sym (agrees-bytes (commit_all e).talk.committed (offered e) x b) ∙ same)
