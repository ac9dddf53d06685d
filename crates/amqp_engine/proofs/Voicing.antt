-- What was committed and taken whole was said, and nothing is left of it.
use Rattle.std.proofs.Common.{◌≡◌, ℕ, zero, suc, ◌+◌, ◌-◌, ◌==◌, ◌&&◌, not, nat_le, if◌then◌else◌, Bool, true, false, true≢false, List, [], ◌∷◌, ◌++◌, length, drop, length-append, append_assoc, Option, Some, None, refl, ap, sym, ◌∙◌, subst, arith, append-nil}
use Rattle.std.specs.Prelude.{map, option_to_list}
use Rattle.std.proofs.lemmas.List.{map-append}
use Rattle.amqp_frame.specs.Frames.{encoding}
use Rattle.amqp_outbox.specs.declared.item.Item.{Item}
use Rattle.amqp_outbox.specs.Items.{size_of}
use Rattle.amqp_outgoing.specs.declared.committed.Mark.{Mark}
use Rattle.amqp_rules.specs.Talk.{Talk, is_open}
use Rattle.amqp_outgoing.specs.Marks.{mark_of}
use Rattle.amqp_rules.specs.Writing.{sent, sent_among, frames_waiting}
use Rattle.amqp_rules.specs.Writing as writing
use Rattle.amqp_types.proofs.Small.{if-true, is-at-most, other-number, if_by}
use Rattle.amqp_engine.specs.Engine.{Engine, fitting_next, committed_with_bytes, commit_one, commits, commit_all}
use Rattle.amqp_engine.specs.Sending.{committed_in, committed_before, encodings, sent_in}
use Rattle.amqp_engine.specs.Valid.{LinkSaying, Ours, after_sayings}
use Rattle.amqp_rules.specs.Sound.{IsSound}
use Rattle.amqp_rules.specs.Changes.{present_at}
use Rattle.amqp_rules.specs.Writing.{taken}
use Rattle.amqp_faultless.specs.Faultless.{Server, said_to}
use Rattle.amqp_rules.proofs.Keeping.{present-keeps}
use Rattle.amqp_faultless.proofs.Greeted.{IsMet}
use Rattle.amqp_faultless.proofs.Tells.{met-present}
use Rattle.amqp_faultless.proofs.Speaks.{said_all, GoOn, met-sent, sent-committed, met-taken}
use Rattle.amqp_engine.specs.Engine.{took}
use Rattle.amqp_engine.specs.Turn.{offered}
use Rattle.amqp_engine.specs.Sending.{Sending, offer_sending}
use Rattle.amqp_engine.specs.declared.port.Wrote.TheVariants.{Took}
use Rattle.amqp_engine.proofs.Commits.{encoding-some}
use Rattle.amqp_engine.proofs.Settling.{settle-talk, settle-unsent}
use Rattle.amqp_engine.proofs.Goes.{sound-goes, sound-commit-all}
use Rattle.amqp_engine.proofs.SpeaksAll.{met-commit-all}

-- ---- sayings

-- the frames of some items are said
pub ours-said : (items : List Item) (rest : List LinkSaying) (s : Server)
    → after_sayings (map Ours (map (λ (i : Item). i.frame) items) ++ rest) (Some s) ≡ after_sayings rest (Some (said_all items s))
ours-said [] rest s = refl
ours-said (i ∷ items) rest s = ours-said items rest (said_to i.frame s)

-- ---- what is committed

-- the marks and the bytes of what is committed
pub record Commits (e e' : Engine) (items : List Item) : Type 0 where
  pub marks : e'.talk.committed ≡ e.talk.committed ++ map mark_of items
  pub bytes : e'.unsent ≡ e.unsent ++ encodings items

commits-both : (a b c : Engine) (items later : List Item) → Commits a b items → Commits b c later → Commits a c (items ++ later)
commits-both a b c items later h k =
    record {
      marks =
          k.marks ∙ ap (λ x. x ++ map mark_of later) h.marks ∙ append_assoc a.talk.committed (map mark_of items) (map mark_of later)
          ∙ ap (λ x. a.talk.committed ++ x) (sym (map-append mark_of items later));
      bytes =
          k.bytes ∙ ap (λ x. x ++ encodings later) h.bytes ∙ append_assoc a.unsent (encodings items) (encodings later)
          ∙ ap (λ x. a.unsent ++ x) (sym (spelled-append items later));
    }
  where
    spelled-append : (xs ys : List Item) → encodings (xs ++ ys) ≡ encodings xs ++ encodings ys
    spelled-append [] ys = refl
    spelled-append (x ∷ xs) ys = ap (λ z. encoding x.frame ++ z) (spelled-append xs ys) ∙ sym (append_assoc (encoding x.frame) (encodings xs) (encodings ys))

commits-none : (e : Engine) → Commits e e []
commits-none e = record { marks = sym (append-nil e.talk.committed); bytes = sym (append-nil e.unsent) }

commits-one : (e : Engine) → Commits e (commit_one e) (option_to_list (fitting_next e))
commits-one e = by (fitting_next e) refl where
  by : (x : Option Item) → fitting_next e ≡ x → Commits e (committed_with_bytes x e) (option_to_list x)
  by None is = commits-none e
  by (Some i) is =
      record {
        marks = ap (λ (o : Option Item). (writing.committed_as o e.talk).committed) is;
        bytes = ap (λ x. e.unsent ++ x) (sym (append-nil (encoding i.frame)));
      }

pub commits-so : (n : ℕ) (e : Engine) → Commits e (commits n e) (committed_in n e)
commits-so zero e = commits-none e
commits-so (suc n) e =
    commits-both e (commit_one e) (commits n (commit_one e)) (option_to_list (fitting_next e)) (committed_in n (commit_one e)) (commits-one e) (commits-so n (commit_one e))

pub commits-all : (e : Engine) → Commits e (commit_all e) (committed_before e)
commits-all e = commits-so (frames_waiting e.talk) e

-- ---- what is sent

-- where all bytes of these are taken, all of them are sent
pub sent-all : (items : List Item) → sent_in (length (encodings items)) (map mark_of items) ≡ length items
sent-all [] = refl
sent-all (i ∷ items) =
    let n = length (encodings (i ∷ items)) in
    let sum : n ≡ size_of i + length (encodings items) = length-append (encoding i.frame) (encodings items) in
    let left : n - size_of i ≡ length (encodings items) = omega (arith, sum) in
    if-true (nat_le (size_of i) n) (suc (sent_in (n - size_of i) (map mark_of items))) 0 (is-at-most (size_of i) n (omega (arith, sum)))
    ∙ ap (λ k. suc (sent_in k (map mark_of items))) left ∙ ap suc (sent-all items)

-- and nothing is left
pub sent-none : (items : List Item) (n : ℕ) (s : Server) (t : Talk) → IsMet s t → GoOn (map mark_of items) → t.committed ≡ map mark_of items → n ≡ length (encodings items)
    → (sent_among (map mark_of items) n t).committed ≡ []
sent-none [] n s t m goes is size = is
sent-none (i ∷ items) n s t m goes is size =
    let k : Mark = mark_of i in
    let sum : length (encodings (i ∷ items)) ≡ size_of i + length (encodings items) = length-append (encoding i.frame) (encodings items) in
    let part : Talk = record t { committed = record k { left = k.left - n } ∷ map mark_of items } in
    let next : Talk = sent_among (map mark_of items) (n - k.left) (sent k t) in
    let whole : Talk = if nat_le k.left n then next else part in
    ap (λ (x : Talk). x.committed) (if-true (is_open t) whole t m.opened ∙ if-true (nat_le k.left n) next part (is-at-most k.left n (omega (arith, size, sum))))
    ∙ sent-none items (n - k.left) s (sent k t) (met-sent k (map mark_of items) s t is goes.0 m) goes.1 (sent-committed k t goes.0 ∙ ap (drop 1) is) (omega (arith, size, sum))

-- ---- an offer that is taken whole

-- nothing is committed and not sent, and nothing is unsent
pub record IsClear (e : Engine) : Type 0 where
  pub marks : e.talk.committed ≡ []
  pub bytes : e.unsent ≡ []

no-octets : (items : List Item) → length (encodings items) ≡ 0 → items ≡ []
no-octets [] h = refl
no-octets (i ∷ items) h =
    let some = encoding-some i.frame in
    let sum : length (encodings (i ∷ items)) ≡ size_of i + length (encodings items) = length-append (encoding i.frame) (encodings items) in
    absurd (omega (arith, some, sum, h))

drop-all : (xs : List ℕ) → drop (length xs) xs ≡ []
drop-all [] = refl
drop-all (x ∷ xs) = drop-all xs

pub clear-marks : (e : Engine) → IsClear e → (commit_all e).talk.committed ≡ map mark_of (committed_before e)
clear-marks e h = (commits-all e).marks ∙ ap (λ x. x ++ map mark_of (committed_before e)) h.marks

pub clear-bytes : (e : Engine) → IsClear e → (commit_all e).unsent ≡ encodings (committed_before e)
clear-bytes e h = (commits-all e).bytes ∙ ap (λ x. x ++ encodings (committed_before e)) h.bytes

-- then it is so again
pub clear-offer : (at : ℕ) (s : Server) (e : Engine) → IsClear e → IsSound e.talk → IsMet s e.talk → IsClear (took at (length (offered e)) (commit_all e))
clear-offer at s e clear sound m =
    let x : Engine = commit_all e in
    let items = committed_before e in
    let k = length (offered e) in
    let t : Talk = present_at at x.talk in
    let u : Talk = record t { last_write = t.present } in
    let z : Engine = record x { talk = taken k t; unsent = drop k x.unsent } in
    let met : IsMet (said_all items s) x.talk = met-commit-all e s m in
    let now : IsMet (said_all items s) t = met-present at (said_all items s) x.talk met in
    let marks : t.committed ≡ map mark_of items = present-keeps (λ y. y.committed) at x.talk (λ n. refl) ∙ clear-marks e clear in
    let size : k ≡ length (encodings items) = ap length (clear-bytes e clear) in
    let goes : GoOn x.talk.committed = sound-goes x.talk (sound-commit-all e sound) met.acting in
    let G : List Mark → Type 0 = GoOn in
    let goes' : GoOn (map mark_of items) = subst G (clear-marks e clear) goes in
    let after : IsMet (said_all items s) (taken k t) = met-taken k (said_all items s) t (subst G (sym marks) goes') now in
    let P : Talk → Type 0 = λ y. y.committed ≡ [] in
    let here : IsMet (said_all items s) u = record { opened = now.opened; acting = now.acting; blocked = now.blocked; first = now.first; limit = now.limit; meets = now.meets } in
    let none : (taken k t).committed ≡ [] =
    if_by P (is_open t && not (k == 0)) (sent_among t.committed k u) t
    (λ yes. ap (λ ms. (sent_among ms k u).committed) marks ∙ sent-none items k (said_all items s) u here goes' marks size)
    (λ no_byte.
    (let zero_k : k ≡ 0 = none-taken (is_open t) k now.opened no_byte in
    marks ∙ ap (map mark_of) (no-octets items (sym size ∙ zero_k)))) in
    record {
      marks = ap (λ (y : Talk). y.committed) (settle-talk z) ∙ none;
      bytes = settle-unsent z after.opened ∙ drop-all x.unsent;
    }
  where
    none-taken : (b : Bool) (k : ℕ) → b ≡ true → (b && not (k == 0)) ≡ false → k ≡ 0
    none-taken true zero h g = refl
    none-taken true (suc k) h g = absurd (true≢false (sym (ap not (other-number (suc k) 0 (λ same. absurd (omega (arith, same))))) ∙ g))
    none-taken false k h g = absurd (true≢false (sym h))

-- ---- what is sent on the link

-- an offer that is taken whole sends what it commits
pub offer-sends : (e : Engine) (x : Sending) → IsClear e → x.sent ≡ length x.committed
    → (offer_sending (Took (length (offered e))) e x).sent ≡ length (offer_sending (Took (length (offered e))) e x).committed
offer-sends e x clear all =
    let items = committed_before e in
    let size : length (offered e) ≡ length (encodings items) = ap length (clear-bytes e clear) in
    let sent : sent_in (length (offered e)) (commit_all e).talk.committed ≡ length items =
    ap (λ ms. sent_in (length (offered e)) ms) (clear-marks e clear) ∙ ap (λ n. sent_in n (map mark_of items)) size ∙ sent-all items in
    let sum = length-append x.committed items in
    omega (arith, all, sent, sum)
