-- What sending the frames that were committed leaves as it is, and what is left of them.
use Rattle.std.proofs.Common.{◌≡◌, ◌⊎◌, inl, inr, ℕ, ◌+◌, ◌-◌, ◌==◌, ◌&&◌, not, nat_le, Bool, true, false, if◌then◌else◌, List, [], ◌∷◌, length, drop, length-drop, Option, true≢false, refl, ap, sym, ◌∙◌, arith}
use Rattle.std.proofs.lemmas.List.Sums.{sum_by-cons}
use Rattle.std.proofs.lemmas.Bool.Decides.{nat_tests}
use Rattle.amqp_channels.specs.declared.channels.Channel.{Channel}
use Rattle.amqp_outgoing.specs.declared.committed.Mark.{Mark}
use Rattle.amqp_outgoing.specs.declared.committed.Then.{Then}
use Rattle.amqp_outgoing.specs.declared.committed.Then.TheVariants.{Nothing, Answer, Pays, Finish}
use Rattle.amqp_answers.specs.Events.{Noted}
use Rattle.amqp_rules.specs.Talk.{Talk, is_open}
use Rattle.amqp_rules.specs.Changes.{present_at, tell_owed}
use Rattle.amqp_rules.specs.Channels.{channel_at}
use Rattle.amqp_channels.specs.declared.channels.Debt.TheVariants as debt
use Rattle.amqp_maps.specs.Listed.{put, without}
use Rattle.amqp_outgoing.specs.Marks.{left_in}
use Rattle.amqp_rules.specs.Writing.{pay, follow, sent, sent_among, taken}
use Rattle.amqp_rules.proofs.Walk.{pay-case}
use Rattle.amqp_types.proofs.Small.{if_case, if-true, if-false, and-false, and-true}
use Rattle.amqp_rules.proofs.Keeping.{present-keeps, LinkKept, link-then, OverlooksEnds, OverlooksLosses, overlooks-ends, Overlooks, finish-keeps, off-finish}

-- what is left of the committed frames where so many of their bytes are taken
abbrev pub left_after : List Mark → ℕ → List Mark
left_after [] n = []
left_after (m ∷ ms) n = if nat_le m.left n then left_after ms (n - m.left) else record m { left = m.left - n } ∷ ms

-- what does not look at the channels, and at what is kept for those who listen, is the same once a close-ok of one was sent
pub pay-keeps : {A : Type 0} (f : Talk → A) → ((t : Talk) (cs : List (ℕ × Channel)) (ns : Noted) → f (record t { channels = cs; noted = ns }) ≡ f t)
    → (o : Option Channel) (n : ℕ) (t : Talk) → f (pay o n t) ≡ f t
pay-keeps f h o n t =
    pay-case (λ (x : Talk). f x ≡ f t) o n t (λ is. refl) (λ c is unowed. refl)
    (λ c is owes awaits. h t (put n (record c { debt = debt.Paid }) t.channels) (tell_owed n t).noted)
    (λ c is owes left. h t (without n t.channels) (tell_owed n t).noted)

pub follow-keeps : {A : Type 0} (f : Talk → A) → OverlooksLosses f → (th : Then) (t : Talk) → f (follow th t) ≡ f t
follow-keeps f h Nothing t = refl
follow-keeps f h (Answer n) t = overlooks-ends f h t t.state t.link t.channels _ t.noted
follow-keeps f h (Pays n) t = pay-keeps f (λ u cs ns. overlooks-ends f h u u.state u.link cs u.promises ns) (channel_at n t) n t
follow-keeps f h Finish t = finish-keeps f h t.server_close t

-- what does not look at what an end changes is as it was, or the link is off
pub follow-open : {A : Type 0} (f : Talk → A) → OverlooksEnds f → (th : Then) (t : Talk) → (f (follow th t) ≡ f t) ⊎ (is_open (follow th t) ≡ false)
follow-open f h Nothing t = inl refl
follow-open f h (Answer n) t = inl (h t t.state t.link t.channels _ t.noted)
follow-open f h (Pays n) t = inl (pay-keeps f (λ u cs ns. h u u.state u.link cs u.promises ns) (channel_at n t) n t)
follow-open f h Finish t = inr (off-finish t.server_close t).opened

pub follow-link : (th : Then) (t : Talk) → LinkKept t (follow th t)
follow-link Nothing t = inl refl
follow-link (Answer n) t = inl refl
follow-link (Pays n) t = inl (pay-keeps (λ (x : Talk). x.link) (λ u cs ns. refl) (channel_at n t) n t)
follow-link Finish t = inr (off-finish t.server_close t)

sent_among-keeps : {A : Type 0} (f : Talk → A) → Overlooks f → (ms : List Mark) (n : ℕ) (t : Talk) → f (sent_among ms n t) ≡ f t
sent_among-keeps f h [] n t = refl
sent_among-keeps f h (m ∷ ms) n t =
    let rest : Talk = record t { committed = record m { left = m.left - n } ∷ ms } in
    let on : Talk = sent_among ms (n - m.left) (sent m t) in
    if_case (λ (x : Talk). f x ≡ f t) (is_open t) (if nat_le m.left n then on else rest) t
    (if_case (λ (x : Talk). f x ≡ f t) (nat_le m.left n) on rest
    (sent_among-keeps f h ms (n - m.left) (sent m t) ∙ follow-keeps f h.ends m.then (record t { committed = drop 1 t.committed })
    ∙ h.writes t t.last_write (drop 1 t.committed))
    (h.writes t t.last_write (record m { left = m.left - n } ∷ ms)))
    refl

sent_among-link : (ms : List Mark) (n : ℕ) (t : Talk) → LinkKept t (sent_among ms n t)
sent_among-link [] n t = inl refl
sent_among-link (m ∷ ms) n t =
    let rest : Talk = record t { committed = record m { left = m.left - n } ∷ ms } in
    let on : Talk = sent_among ms (n - m.left) (sent m t) in
    if_case (LinkKept t) (is_open t) (if nat_le m.left n then on else rest) t
    (if_case (LinkKept t) (nat_le m.left n) on rest
    (link-then t (sent m t) on (follow-link m.then (record t { committed = drop 1 t.committed })) (sent_among-link ms (n - m.left) (sent m t)))
    (inl refl))
    (inl refl)

pub sent_among-closed : (ms : List Mark) (n : ℕ) (t : Talk) → is_open t ≡ false → sent_among ms n t ≡ t
sent_among-closed [] n t h = refl
sent_among-closed (m ∷ ms) n t h = if-false (is_open t) _ t h

module _ (m : Mark) (ms : List Mark) (n : ℕ) (t : Talk)
    (later : is_open (sent_among ms (n - m.left) (sent m t)) ≡ true → (sent_among ms (n - m.left) (sent m t)).committed ≡ left_after ms (n - m.left)) where
  abbrev left_here : Talk
  left_here = record t { committed = record m { left = m.left - n } ∷ ms }

  abbrev gone_on : Talk
  gone_on = sent_among ms (n - m.left) (sent m t)

  inner : (b : Bool) → is_open (if b then gone_on else left_here) ≡ true
      → (if b then gone_on else left_here).committed ≡ (if b then left_after ms (n - m.left) else record m { left = m.left - n } ∷ ms)
  inner true k = later k
  inner false k = refl

  outer : (b : Bool) → is_open t ≡ b → is_open (sent_among (m ∷ ms) n t) ≡ true → (sent_among (m ∷ ms) n t).committed ≡ left_after (m ∷ ms) n
  outer true k opened =
      let same : sent_among (m ∷ ms) n t ≡ (if nat_le m.left n then gone_on else left_here) =
      if-true (is_open t) (if nat_le m.left n then gone_on else left_here) t k in
      ap (λ (x : Talk). x.committed) same ∙ inner (nat_le m.left n) (ap is_open (sym same) ∙ opened)
  outer false k opened =
      let shut : is_open (sent_among (m ∷ ms) n t) ≡ false = ap is_open (sent_among-closed (m ∷ ms) n t k) ∙ k in absurd cc

-- once the first frame was sent, where the link is still open
sent-on : (m : Mark) (ms : List Mark) (n : ℕ) (t : Talk) → t.committed ≡ m ∷ ms
    → ((sent m t).committed ≡ ms → is_open (sent_among ms n (sent m t)) ≡ true → (sent_among ms n (sent m t)).committed ≡ left_after ms n)
    → is_open (sent_among ms n (sent m t)) ≡ true → (sent_among ms n (sent m t)).committed ≡ left_after ms n
sent-on m ms n t h on now =
    elim (follow-open (λ (x : Talk). x.committed) (λ t s l cs ps ns. refl) m.then (record t { committed = drop 1 t.committed })) [
      | inl same ↦ on (same ∙ ap (drop 1) h) now
      | inr shut ↦ absurd (true≢false (sym now ∙ ap is_open (sent_among-closed ms n (sent m t) shut) ∙ shut))
    ]

-- while the link is open, the frames whose last byte was taken are no longer committed
pub sent_among-committed : (ms : List Mark) (n : ℕ) (t : Talk) → t.committed ≡ ms → is_open (sent_among ms n t) ≡ true
    → (sent_among ms n t).committed ≡ left_after ms n
sent_among-committed [] n t h opened = h
sent_among-committed (m ∷ ms) n t h opened =
    outer m ms n t (sent-on m ms (n - m.left) t h (sent_among-committed ms (n - m.left) (sent m t))) (is_open t) refl opened

pub taken-keeps : {A : Type 0} (f : Talk → A) → Overlooks f → (n : ℕ) (t : Talk) → f (taken n t) ≡ f t
taken-keeps f h n t =
    let u : Talk = record t { last_write = t.present } in
    if_case (λ (x : Talk). f x ≡ f t) (is_open t && not (n == 0)) (sent_among t.committed n u) t
    (sent_among-keeps f h t.committed n u ∙ h.writes t t.present t.committed) refl

pub taken-link : (n : ℕ) (t : Talk) → LinkKept t (taken n t)
taken-link n t =
    let u : Talk = record t { last_write = t.present } in
    if_case (LinkKept t) (is_open t && not (n == 0)) (sent_among t.committed n u) t (sent_among-link t.committed n u) (inl refl)

pub left_in-cons : (m : Mark) (ms : List Mark) → left_in (m ∷ ms) ≡ m.left + left_in ms
left_in-cons m ms = sum_by-cons (λ (m : Mark). m.left) m ms

-- the bytes that were taken are no longer unsent
pub left_in-left_after : (ms : List Mark) (n : ℕ) → left_in (left_after ms n) ≡ left_in ms - n
left_in-left_after [] n = omega arith
left_in-left_after (m ∷ ms) n =
    grind (arith, nat_tests, left_in-cons m ms, left_in-cons (record m { left = m.left - n }) ms, left_in-left_after ms (n - m.left))

-- where the link is still open, what is committed is what is left
pub committed-taken : (b : Bool) (at n : ℕ) (t : Talk) → is_open t ≡ true → is_open (taken n (present_at at t)) ≡ true → (n == 0) ≡ b
    → (taken n (present_at at t)).committed ≡ (if b then t.committed else left_after t.committed n)
committed-taken true at n t opened still zero_is =
    let x = present_at at t in
    ap (λ (y : Talk). y.committed) (if-false (is_open x && not (n == 0)) (sent_among x.committed n (record x { last_write = x.present })) x
    (and-false (is_open x) (not (n == 0)) (ap not zero_is)))
    ∙ present-keeps (λ y. y.committed) at t (λ k. refl)
committed-taken false at n t opened still zero_is =
    let x = present_at at t in
    let u : Talk = record x { last_write = x.present } in
    let same : taken n x ≡ sent_among x.committed n u =
    if-true (is_open x && not (n == 0)) (sent_among x.committed n u) x
    (and-true (is_open x) (not (n == 0)) (present-keeps is_open at t (λ k. refl) ∙ opened) (ap not zero_is)) in
    ap (λ (y : Talk). y.committed) same
    ∙ sent_among-committed x.committed n u refl (ap is_open (sym same) ∙ still)
    ∙ ap (λ ms. left_after ms n) (present-keeps (λ y. y.committed) at t (λ k. refl))

left_in-taken : (b : Bool) (at n : ℕ) (t : Talk) → is_open t ≡ true → is_open (taken n (present_at at t)) ≡ true → (n == 0) ≡ b
    → left_in (taken n (present_at at t)).committed ≡ left_in t.committed - n
left_in-taken true at n t opened still h =
    let none : n ≡ 0 = grind (arith, nat_tests) in
    omega (arith, ap left_in (committed-taken true at n t opened still h), none)
left_in-taken false at n t opened still h = ap left_in (committed-taken false at n t opened still h) ∙ left_in-left_after t.committed n

-- the unsent bytes are counted after some were taken, where the link is still open
pub counted-taken : (at n : ℕ) (t : Talk) (bytes : List ℕ) → is_open t ≡ true → is_open (taken n (present_at at t)) ≡ true
    → length bytes ≡ left_in t.committed → length (drop n bytes) ≡ left_in (taken n (present_at at t)).committed
counted-taken at n t bytes opened still h =
    omega (arith, h, length-drop n bytes, left_in-taken (n == 0) at n t opened still refl)
