-- One committed frame that was sent whole, and then the others.
use Rattle.std.proofs.Common.{◌≡◌, ◌<◌, ◌≤◌, inl, inr, ◌∙◌, ap, sym, refl, ℕ, ◌-◌, nat_le, if◌then◌else◌, Bool, true, false, List, [], ◌∷◌, drop, length, Option, Some, None, arith}
use Rattle.amqp_outgoing.specs.declared.committed.Mark.{Mark}
use Rattle.amqp_outgoing.specs.declared.committed.Then.{Then}
use Rattle.amqp_outgoing.specs.declared.committed.Then.TheVariants.{Nothing, Answer, Pays, Finish}
use Rattle.amqp_violations.specs.declared.server_close.ServerClose.{ServerClose}
use Rattle.amqp_violations.specs.declared.server_close.ServerClose.TheVariants.{WithoutError, WithError}
use Rattle.amqp_promise.specs.declared.error.ErrorKind.TheVariants.{ProtocolError}
use Rattle.amqp_rules.specs.Talk.{Talk, is_open}
use Rattle.amqp_rules.specs.Changes.{finish_by}
use Rattle.amqp_rules.specs.Channels.{channel_at}
use Rattle.amqp_rules.specs.Writing.{follow, sent, sent_among}
use Rattle.amqp_outgoing.specs.Marks.{first_among, after_first}
use Rattle.amqp_rules.specs.Parts.{first_sent, after_sent}
use Rattle.amqp_types.proofs.Small.{if-true}
use Rattle.amqp_rules.proofs.Recovering.{lose-case}
use Rattle.amqp_rules.proofs.Sending.{pay-keeps, follow-open, sent_among-closed}

-- what is left of the committed frames is to be taken once a frame was followed, where the link is still open
follow-left : (m : Mark) (t : Talk) (ms : List Mark) (k : ℕ)
    → sent_among (follow m.then (record t { committed = ms })).committed k (follow m.then (record t { committed = ms }))
    ≡ sent_among ms k (follow m.then (record t { committed = ms }))
follow-left m t ms k =
    let u : Talk = follow m.then (record t { committed = ms }) in
    elim (follow-open (λ (x : Talk). x.committed) (λ t s l cs ps ns. refl) m.then (record t { committed = ms })) [
      | inl same ↦ ap (λ (x : List Mark). sent_among x k u) same
      | inr shut ↦ sent_among-closed u.committed k u shut ∙ sym (sent_among-closed ms k u shut)
    ]

-- what is still to be taken once this state was reached
abbrev going : ℕ → Talk → Talk
going n t = sent_among t.committed n t

-- the first frame is this one, and these follow it
one : (k : Mark) (ks : List Mark) (n : ℕ) (t : Talk) → t.committed ≡ k ∷ ks → is_open t ≡ true → nat_le k.left n ≡ true
    → going (n - k.left) (follow k.then (record t { committed = ks })) ≡ going n t
one k ks n t is opened within =
    let u : Talk = follow k.then (record t { committed = ks }) in
    let rest : Talk = sent_among ks (n - k.left) (sent k t) in
    let left : Talk = record t { committed = record k { left = k.left - n } ∷ ks } in
    let same : u ≡ sent k t = ap (λ (x : List Mark). follow k.then (record t { committed = drop 1 x })) (sym is) in
    follow-left k t ks (n - k.left)
    ∙ ap (sent_among ks (n - k.left)) same
    ∙ sym (if-true (nat_le k.left n) rest left within)
    ∙ sym (if-true (is_open t) (if nat_le k.left n then rest else left) t opened)
    ∙ ap (λ (x : List Mark). sent_among x n t) (sym is)

by_within : (b : Bool) (k : Mark) (ks : List Mark) (n : ℕ) (t : Talk) (m : Mark) → t.committed ≡ k ∷ ks → is_open t ≡ true → nat_le k.left n ≡ b
    → (if b then Some k else None) ≡ Some m
    → going (n - m.left) (follow m.then (record t { committed = if b then ks else record k { left = k.left - n } ∷ ks })) ≡ going n t
by_within true k ks n t m is opened within first =
    let same : k ≡ m = cc in
    ap (λ (x : Mark). going (n - x.left) (follow x.then (record t { committed = ks }))) (sym same) ∙ one k ks n t is opened within
by_within false k ks n t m is opened within first = cc

by_marks : (ms : List Mark) (n : ℕ) (t : Talk) (m : Mark) → t.committed ≡ ms → is_open t ≡ true → first_among n ms ≡ Some m
    → going (n - m.left) (follow m.then (record t { committed = after_first n ms })) ≡ going n t
by_marks [] n t m is opened first = cc
by_marks (k ∷ ks) n t m is opened first = by_within (nat_le k.left n) k ks n t m is opened refl first

by_link : (b : Bool) (n : ℕ) (t : Talk) (m : Mark) → is_open t ≡ b → (if b then first_among n t.committed else None) ≡ Some m
    → going (n - m.left) (follow m.then (if b then record t { committed = after_first n t.committed } else t)) ≡ going n t
by_link true n t m opened first = by_marks t.committed n t m refl opened first
by_link false n t m opened first = cc

-- the first frame was sent, and what follows it was done: what is left leads where the whole does
pub first-goes : (n : ℕ) (t : Talk) (m : Mark) → first_sent n t ≡ Some m → going (n - m.left) (follow m.then (after_sent n t)) ≡ going n t
first-goes n t m first = by_link (is_open t) n t m refl first

-- ---- how many frames are left

-- after the server's close no more are committed
finish-fewer : (o : Option ServerClose) (t : Talk) → length (finish_by o t).committed ≤ length t.committed
finish-fewer None t = omega arith
finish-fewer (Some WithoutError) t = omega arith
finish-fewer (Some (WithError e)) t =
    lose-case (λ (x : Talk). length x.committed ≤ length t.committed) (ProtocolError e) t (λ delay. omega arith) (omega arith)

-- and none once a frame was followed
follow-fewer : (th : Then) (t : Talk) → length (follow th t).committed ≤ length t.committed
follow-fewer Nothing t = omega arith
follow-fewer (Answer n) t = omega arith
follow-fewer (Pays n) t =
    let same : (follow (Pays n) t).committed ≡ t.committed = pay-keeps (λ (x : Talk). x.committed) (λ u cs ns. refl) (channel_at n t) n t in
    omega (arith, ap length same)
follow-fewer Finish t = finish-fewer t.server_close t

first-fewer : (n : ℕ) (ms : List Mark) (m : Mark) → first_among n ms ≡ Some m → length (after_first n ms) < length ms
first-fewer n [] m first = cc
first-fewer n (k ∷ ks) m first = by (nat_le k.left n) first where
  by : (b : Bool) → (if b then Some k else None) ≡ Some m → length (if b then ks else record k { left = k.left - n } ∷ ks) < length (k ∷ ks)
  by true h = omega arith
  by false h = cc

-- one less is left once the first was sent
pub sent-fewer : (n : ℕ) (t : Talk) (m : Mark) → first_sent n t ≡ Some m → length (follow m.then (after_sent n t)).committed < length t.committed
sent-fewer n t m first = by (is_open t) refl first where
  by : (b : Bool) → is_open t ≡ b → (if b then first_among n t.committed else None) ≡ Some m
      → length (follow m.then (if b then record t { committed = after_first n t.committed } else t)).committed < length t.committed
  by true opened h =
      let less = first-fewer n t.committed m h in
      let more = follow-fewer m.then (record t { committed = after_first n t.committed }) in
      omega (arith, less, more)
  by false opened h = cc
