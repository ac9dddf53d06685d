-- What was sent keeps a session tied to what was said.
use Rattle.std.proofs.Common.{◌≡◌, ◌≢◌, ℕ, suc, ◌+◌, ◌-◌, ◌&&◌, ◌==◌, not, nat_le, if◌then◌else◌, true, List, [], ◌∷◌, drop, Option, inl, inr, refl, ap, sym, ◌∙◌, true≢false, arith}
use Rattle.std.specs.Map.{keys_of}
use Rattle.amqp_frame.specs.declared.frame.Frame.{Frame}
use Rattle.amqp_outbox.specs.declared.item.Item.{Item}
use Rattle.amqp_channels.specs.declared.channels.Channel.{Channel}
use Rattle.amqp_channels.specs.declared.channels.Debt.TheVariants as debt
use Rattle.amqp_outgoing.specs.declared.committed.Mark.{Mark}
use Rattle.amqp_outgoing.specs.declared.committed.Then.{Then}
use Rattle.amqp_outgoing.specs.declared.committed.Then.TheVariants.{Nothing, Answer, Pays, Finish}
use Rattle.amqp_promise.specs.declared.state.ConnectionState.{ConnectionState}
use Rattle.amqp_promise.specs.declared.state.ConnectionState.TheVariants.{Connecting, Connected, Closing}
use Rattle.amqp_rules.specs.declared.state.Phase.{Phase}
use Rattle.amqp_rules.specs.declared.state.Input.{Input}
use Rattle.amqp_rules.specs.declared.state.Input.TheVariants as input
use Rattle.amqp_rules.specs.Talk.{Talk, is_open}
use Rattle.amqp_rules.specs.Channels.{channel_at}
use Rattle.amqp_rules.specs.Writing.{pay, follow, sent, sent_among, taken}
use Rattle.amqp_maps.specs.Listed.{put, without}
use Rattle.amqp_rules.specs.Sound.{AscendFrom}
use Rattle.amqp_legal.specs.Decider.{Speech}
use Rattle.amqp_types.proofs.Small.{if_case, if_by, same-number, other-number}
use Rattle.amqp_rules.proofs.Sending.{follow-open}
use Rattle.amqp_rules.proofs.Ascending.{put-from, without-from}
use Rattle.amqp_legal_rules.proofs.Ties.{first_out, pays, unpaid, TiesChannels, Ties}
use Rattle.amqp_legal_rules.proofs.Paying.{sent-off}
use Rattle.amqp_rules.proofs.Walk.{pay-case}
use Rattle.amqp_legal_rules.proofs.OnChannels.{Listed, Replies, above-zero, never-zero}
use Rattle.amqp_legal_rules.proofs.OnCloses.{none-due, none-owed, one-due, on-paid, on-paid-gone}
use Rattle.amqp_legal_rules.proofs.Conversing.{Now, now-finish, now-open, due_in, ties-due}

-- channels that change while the connection is open
ties-listed : (i : Input) (s : ConnectionState) (p : Phase) (cs cs' : Listed) (ws : Replies) (due due' : ℕ → ℕ) (v : Speech) → (((n : ℕ) → due n ≡ 0) → ⊥)
    → (TiesChannels cs ws due v → TiesChannels cs' ws due' v) → Ties i s p cs ws due v → Ties i s p cs' ws due' v
ties-listed input.Acting Connecting p cs cs' ws due due' v some f h = absurd (some h.1.none_due)
ties-listed input.Acting Connected p cs cs' ws due due' v some f h = f h
ties-listed input.Acting Closing p cs cs' ws due due' v some f h = h
ties-listed input.Acting _ p cs cs' ws due due' v some f h = absurd h
ties-listed (input.Closed crossed) s p cs cs' ws due due' v some f h = h
ties-listed (input.Dropped crossed) s p cs cs' ws due due' v some f h = h

-- a session whose first committed frame was sent whole
abbrev first_sent_off : Talk → Talk
first_sent_off t = record t { committed = drop 1 t.committed }

-- close-oks that are on their way, once it was
due-after : (m : Mark) (ms : List Mark) (t : Talk) → t.committed ≡ m ∷ ms → (n : ℕ) → due_in t n ≡ pays n m.then + due_in (first_sent_off t) n
due-after m ms t hc n =
    ap (λ marks. unpaid marks (first_out t.outbox) n) hc ∙ sent-off m ms (first_out t.outbox) n
    ∙ ap (λ marks. pays n m.then + unpaid (drop 1 marks) (first_out t.outbox) n) (sym hc)

-- other frames are committed and not wholly sent, and as many close-oks are on their way
now-marks : (ms : List Mark) (t : Talk) (fs : List Frame) → is_open t ≡ true → ((n : ℕ) → unpaid ms (first_out t.outbox) n ≡ due_in t n) → Now t fs
    → Now (record t { committed = ms }) fs
now-marks ms t fs o same h =
    let said = h.0 o in
    let x : Talk = record t { committed = ms } in
    now-open x fs o
    (record {
      later = said.later;
      leads = said.leads;
      lane = said.lane;
      groups = said.groups;
      ties = ties-due t.input t.state t.phase t.channels t.outbox.awaited (due_in t) (due_in x) said.later same said.ties;
      agreed = said.agreed;
      listed = said.listed;
      room = said.room;
    })

-- it was no close-ok of a channel
now-passed : (m : Mark) (ms : List Mark) (t : Talk) (fs : List Frame) → t.committed ≡ m ∷ ms → ((n : ℕ) → pays n m.then ≡ 0) → is_open t ≡ true → Now t fs
    → Now (first_sent_off t) fs
now-passed m ms t fs hc none o h =
    now-marks (drop 1 t.committed) t fs o
    (λ n. (let a : due_in t n ≡ pays n m.then + due_in (first_sent_off t) n = due-after m ms t hc n in omega (arith, a, none n))) h

-- it was one, and its channel owes it no more
now-changed : (k : ℕ) (cs' : Listed) (m : Mark) (ms : List Mark) (t : Talk) (fs : List Frame) → t.committed ≡ m ∷ ms → m.then ≡ Pays k → is_open t ≡ true
    → ((v : Speech) → due_in t k ≡ suc (due_in (first_sent_off t) k) → ((n : ℕ) → n ≢ k → due_in (first_sent_off t) n ≡ due_in t n)
    → TiesChannels t.channels t.outbox.awaited (due_in t) v → TiesChannels cs' t.outbox.awaited (due_in (first_sent_off t)) v)
    → (AscendFrom 0 (keys_of t.channels) → AscendFrom 0 (keys_of cs')) → Now t fs → Now (record t { committed = drop 1 t.committed; channels = cs' }) fs
now-changed k cs' m ms t fs hc is o f ascend h =
    let said = h.0 o in
    let y : Talk = first_sent_off t in
    let x : Talk = record t { committed = drop 1 t.committed; channels = cs' } in
    let own : due_in t k ≡ suc (due_in y k) =
    (let a : due_in t k ≡ pays k m.then + due_in y k = due-after m ms t hc k in
    let b : pays k m.then ≡ 1 = ap (pays k) is ∙ ap (λ b. if b then 1 else 0) (same-number k) in omega (arith, a, b)) in
    let others : (n : ℕ) → n ≢ k → due_in y n ≡ due_in t n =
    λ n ne.
    (let a : due_in t n ≡ pays n m.then + due_in y n = due-after m ms t hc n in
    let b : pays n m.then ≡ 0 = ap (pays n) is ∙ ap (λ b. if b then 1 else 0) (other-number k n (λ same. ne (sym same))) in omega (arith, a, b)) in
    now-open x fs o
    (record {
      later = said.later;
      leads = said.leads;
      lane = said.lane;
      groups = said.groups;
      ties =
          ties-listed t.input t.state t.phase t.channels cs' t.outbox.awaited (due_in t) (due_in y) said.later
          (λ none. (let a : due_in t k ≡ 0 = none k in absurd (omega (arith, a, own)))) (f said.later own others) said.ties;
      agreed = said.agreed;
      listed = ascend said.listed;
      room = said.room;
    })

now-pay : (c : Option Channel) (k : ℕ) (m : Mark) (ms : List Mark) (t : Talk) (fs : List Frame) → t.committed ≡ m ∷ ms → m.then ≡ Pays k → is_open t ≡ true
    → channel_at k t ≡ c → Now t fs → Now (pay c k (first_sent_off t)) fs
now-pay o k m ms t fs hc is on listed h =
    let y : Talk = first_sent_off t in
    let ws : Replies = t.outbox.awaited in
    pay-case (λ (x : Talk). Now x fs) o k y
    (λ none.
    now-changed k t.channels m ms t fs hc is on
    (λ v own others ties. absurd (none-due k (due_in y k) t.channels ws (due_in t) v (listed ∙ none) own ties)) (λ s. s) h)
    (λ c there free.
    now-changed k t.channels m ms t fs hc is on
    (λ v own others ties. absurd (none-owed k (due_in y k) t.channels ws (due_in t) v c (listed ∙ there) free own ties)) (λ s. s) h)
    (λ c there owes awaits.
    now-changed k (put k (record c { debt = debt.Paid }) t.channels) m ms t fs hc is on
    (λ v own others ties.
    let one = one-due k (due_in y k) t.channels ws (due_in t) v c (listed ∙ there) own ties in
    on-paid k t.channels ws (due_in t) (due_in y) v c (listed ∙ there) one.1 awaits one.0 others ties)
    (λ s. put-from k (record c { debt = debt.Paid }) 0 t.channels (above-zero k (never-zero k t.channels c (listed ∙ there) s)) s) h)
    (λ c there owes left.
    now-changed k (without k t.channels) m ms t fs hc is on
    (λ v own others ties.
    let one = one-due k (due_in y k) t.channels ws (due_in t) v c (listed ∙ there) own ties in
    on-paid-gone k t.channels ws (due_in t) (due_in y) v c (listed ∙ there) one.1 left one.0 others ties)
    (λ s. without-from k 0 t.channels s) h)

now-follow : (th : Then) (m : Mark) (ms : List Mark) (t : Talk) (fs : List Frame) → t.committed ≡ m ∷ ms → m.then ≡ th → is_open t ≡ true → Now t fs
    → Now (follow th (first_sent_off t)) fs
now-follow Nothing m ms t fs hc is o h = now-passed m ms t fs hc (λ n. ap (pays n) is) o h
now-follow (Answer number) m ms t fs hc is o h = now-passed m ms t fs hc (λ n. ap (pays n) is) o h
now-follow (Pays k) m ms t fs hc is o h = now-pay (channel_at k t) k m ms t fs hc is o refl h
now-follow Finish m ms t fs hc is o h = now-finish t.server_close (first_sent_off t) fs (now-passed m ms t fs hc (λ n. ap (pays n) is) o h)

-- a part of the first committed frame was sent
now-part : (m : Mark) (ms : List Mark) (n : ℕ) (t : Talk) (fs : List Frame) → t.committed ≡ m ∷ ms → is_open t ≡ true → Now t fs
    → Now (record t { committed = record m { left = m.left - n } ∷ ms }) fs
now-part m ms n t fs hc o h =
    let m' : Mark = record m { left = m.left - n } in
    let items : List Item = first_out t.outbox in
    now-marks (m' ∷ ms) t fs o (λ k. sent-off m' ms items k ∙ sym (sent-off m ms items k) ∙ ap (λ marks. unpaid marks items k) (sym hc)) h

now-sent : (ms : List Mark) (n : ℕ) (t : Talk) (fs : List Frame) → (is_open t ≡ true → t.committed ≡ ms) → Now t fs → Now (sent_among ms n t) fs
now-sent [] n t fs hc h = h
now-sent (m ∷ ms) n t fs hc h =
    let some : Talk = sent_among ms (n - m.left) (sent m t) in
    let part : Talk = record t { committed = record m { left = m.left - n } ∷ ms } in
    -- what follows commits nothing, while the link is open
    let rest : is_open t ≡ true → is_open (sent m t) ≡ true → (sent m t).committed ≡ ms =
    λ o still.
    elim (follow-open (λ (x : Talk). x.committed) (λ t s l cs ps ns. refl) m.then (first_sent_off t)) [
      | inl same ↦ same ∙ ap (drop 1) (hc o)
      | inr shut ↦ absurd (true≢false (sym still ∙ shut))
    ] in
    if_by (λ (x : Talk). Now x fs) (is_open t) (if nat_le m.left n then some else part) t
    (λ o.
    if_case (λ (x : Talk). Now x fs) (nat_le m.left n) some part
    (now-sent ms (n - m.left) (sent m t) fs (rest o) (now-follow m.then m ms t fs (hc o) refl o h))
    (now-part m ms n t fs (hc o) o h))
    (λ closed. h)

pub now-taken : (n : ℕ) (t : Talk) (fs : List Frame) → Now t fs → Now (taken n t) fs
now-taken n t fs h =
    let u : Talk = record t { last_write = t.present } in
    if_case (λ (x : Talk). Now x fs) (is_open t && not (n == 0)) (sent_among t.committed n u) t (now-sent t.committed n u fs (λ o. refl) h) h
