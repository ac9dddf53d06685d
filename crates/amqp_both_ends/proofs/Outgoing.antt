-- What waits to go out, and that publishes flow, through the writes of a turn.
use Rattle.std.proofs.Common.{◌≡◌, ◌≤◌, ◌<◌, inl, inr, ◌∙◌, ap, sym, refl, subst, ℕ, zero, suc, ◌-◌, ◌&&◌, ◌==◌, not, nat_le, if◌then◌else◌, Bool, true, false, true≢false, List, [], ◌∷◌, ◌++◌, length, drop, length-append, append-nil, append_assoc, Option, Some, None, is_some, arith}
use Rattle.std.specs.Prelude.{option_to_list, nat_lt}
use Rattle.std.specs.Option.{option_or}
use Rattle.std.proofs.lemmas.Bool.Decides.{nat_tests}
use Rattle.amqp_types.proofs.Small.{if_case, if-true, and-true, and-other}
use Rattle.amqp_frame.specs.Frames.{encoding}
use Rattle.amqp_outbox.specs.declared.item.Item.{Item}
use Rattle.amqp_outbox.specs.Items.{size_of, items_of_groups}
use Rattle.amqp_outbox.specs.Lists.{head}
use Rattle.amqp_outbox.specs.Queued as queued
use Rattle.amqp_outbox.specs.Queued.{Queued, first_group, next_publish, waiting_items}
use Rattle.amqp_promise.specs.declared.state.ConnectionState.TheVariants.{Reconnecting}
use Rattle.amqp_channels.specs.declared.channels.Debt.TheVariants as debt
use Rattle.amqp_outgoing.specs.declared.committed.Mark.{Mark}
use Rattle.amqp_outgoing.specs.declared.committed.Then.{Then}
use Rattle.amqp_outgoing.specs.declared.committed.Then.TheVariants.{Nothing, Answer, Pays, Finish}
use Rattle.amqp_settings.specs.Config.{Options}
use Rattle.amqp_rules.specs.Talk.{Talk, is_open}
use Rattle.amqp_rules.specs.Sound.{is_finish}
use Rattle.amqp_rules.specs.Channels.{channel_at}
use Rattle.amqp_rules.specs.Changes.{present_at}
use Rattle.amqp_rules.specs.Writing.{flows, writes, next_out, fitting, longer_than, overlong, frames_waiting, taken, sent, sent_among, follow}
use Rattle.amqp_rules.proofs.Finishing.{next-first}
use Rattle.amqp_rules.proofs.Keeping.{present-keeps}
use Rattle.amqp_rules.proofs.Walk.{pay-case}
use Rattle.amqp_faultless.specs.Faultless.{Server}
use Rattle.amqp_faultless.proofs.Greeted.{IsMet, meets-in}
use Rattle.amqp_faultless.proofs.Modest.{Modest}
use Rattle.amqp_faultless.proofs.Speaks.{GoOn}
use Rattle.amqp_queued_rules.specs.Left.{Stays, StaysOrDrops}
use Rattle.amqp_queued_rules.proofs.Lefts.{leaves-what-waits}
use Rattle.amqp_engine.specs.Engine.{Engine, fitting_next, commit_one, commits, commit_all, overlong_next, can_write, took}
use Rattle.amqp_engine.specs.Sending.{committed_in, committed_before}
use Rattle.amqp_engine.proofs.Commits.{with_frame, commit_one-is, commits-keep, commits-none, commits-first, encoding-some}
use Rattle.amqp_engine.proofs.Settling.{settle-talk}
use Rattle.amqp_engine.proofs.Offering.{modest-fits}
use Rattle.amqp_both_ends.proofs.Flowing.{Flows, flow-put, flow-without, flow-at}

-- what waits
abbrev pub waiting : Talk → List Item
waiting t = waiting_items t.outbox

-- ---- what is committed waited first

waiting-framed : (o : Option Item) (e : Engine) → fitting_next e ≡ o → waiting e.talk ≡ option_to_list o ++ waiting (with_frame o e).talk
waiting-framed None e is = refl
waiting-framed (Some i) e is = next-first (e.talk.capacity - length e.unsent) e.talk i is

pub waiting-in : (n : ℕ) (e : Engine) → waiting e.talk ≡ committed_in n e ++ waiting (commits n e).talk
waiting-in zero e = refl
waiting-in (suc n) e =
    let o = fitting_next e in
    waiting-framed o e refl
    ∙ ap (λ (y : Engine). option_to_list o ++ waiting y.talk) (sym (commit_one-is e))
    ∙ ap (λ (xs : List Item). option_to_list o ++ xs) (waiting-in n (commit_one e))
    ∙ sym (append_assoc (option_to_list o) (committed_in n (commit_one e)) (waiting (commits n (commit_one e)).talk))

pub waiting-all : (e : Engine) → waiting e.talk ≡ committed_before e ++ waiting (commit_all e).talk
waiting-all e = waiting-in (frames_waiting e.talk) e

-- ---- what is taken leaves what waits

pub stays-waiting : (q q' : Queued) → Stays q q' → waiting_items q' ≡ waiting_items q
stays-waiting q q' g =
    ap (λ (xs : List Item). xs ++ q'.control ++ items_of_groups q'.publish) g.begun
    ∙ ap (λ (xs : List Item). q.begun ++ xs ++ items_of_groups q'.publish) (g.control ∙ append-nil q.control)
    ∙ ap (λ (xs : List (List Item)). q.begun ++ q.control ++ items_of_groups xs) (g.publish ∙ append-nil q.publish)

met-stays : (s : Server) (t u : Talk) → IsMet s u → StaysOrDrops t u → waiting u ≡ waiting t
met-stays s t u m (inl stays) = stays-waiting t.outbox u.outbox stays.0
met-stays s t u m (inr drops) = absurd (meets-in s u m Reconnecting drops.state)

pub waiting-taken : (n : ℕ) (s : Server) (t : Talk) → IsMet s (taken n t) → waiting (taken n t) ≡ waiting t
waiting-taken n s t m = met-stays s t (taken n t) m ((leaves-what-waits t).taken n)

pub waiting-took : (at k : ℕ) (s : Server) (e : Engine) → IsMet s (took at k e).talk → waiting (took at k e).talk ≡ waiting e.talk
waiting-took at k s e m =
    let t : Talk = present_at at e.talk in
    let same : (took at k e).talk ≡ taken k t = settle-talk _ in
    ap waiting same ∙ waiting-taken k s t (subst (IsMet s) same m) ∙ present-keeps waiting at e.talk (λ n. refl)

-- ---- publishes flow

pub flows-commits : (n : ℕ) (e : Engine) → flows (commits n e).talk ≡ flows e.talk
flows-commits n e = commits-keep (λ (y : Engine). flows y.talk) (λ y q ms bytes. refl) n e

flows-sent : (m : Mark) (t : Talk) → is_finish m.then ≡ false → Flows t → Flows (sent m t)
flows-sent m t goes h = by m.then goes where
  by : (th : Then) → is_finish th ≡ false → Flows (follow th (record t { committed = drop 1 t.committed }))
  by Nothing goes = h
  by (Answer number) goes = h
  by (Pays n) goes =
      let x : Talk = record t { committed = drop 1 t.committed } in
      pay-case Flows (channel_at n x) n x (λ none. h) (λ c is free. h)
      (λ c is owes awaits. flow-put n (record c { debt = debt.Paid }) t.channels (flow-at n t.channels c is h) h)
      (λ c is owes left. flow-without n t.channels h)
  by Finish goes = absurd (true≢false goes)

flows-among : (ms : List Mark) (n : ℕ) (t : Talk) → GoOn ms → Flows t → Flows (sent_among ms n t)
flows-among [] n t goes h = h
flows-among (m ∷ ms) n t goes h =
    if_case Flows (is_open t) (if nat_le m.left n then sent_among ms (n - m.left) (sent m t) else record t { committed = record m { left = m.left - n } ∷ ms }) t
    (if_case Flows (nat_le m.left n) (sent_among ms (n - m.left) (sent m t)) (record t { committed = record m { left = m.left - n } ∷ ms })
    (flows-among ms (n - m.left) (sent m t) goes.1 (flows-sent m t goes.0 h)) h) h

pub flows-taken : (n : ℕ) (t : Talk) → GoOn t.committed → Flows t → Flows (taken n t)
flows-taken n t goes h =
    if_case Flows (is_open t && not (n == 0)) (sent_among t.committed n (record t { last_write = t.present })) t
    (flows-among t.committed n (record t { last_write = t.present }) goes h) h

pub flows-took : (at k : ℕ) (e : Engine) → GoOn e.talk.committed → Flows e.talk → Flows (took at k e).talk
flows-took at k e goes h =
    let t : Talk = present_at at e.talk in
    let same : t.committed ≡ e.talk.committed = present-keeps (λ x. x.committed) at e.talk (λ n. refl) in
    let z : Engine = record e { talk = taken k t; unsent = drop k e.unsent } in
    subst Flows (sym (settle-talk z)) (flows-taken k t (subst GoOn (sym same) goes) (present-keeps flows at e.talk (λ n. refl) ∙ h))

-- ---- where nothing is to be written, nothing is unsent and nothing waits

pub record IsIdle (e : Engine) : Type 0 where
  pub unsent : e.unsent ≡ []
  pub begun : e.talk.outbox.begun ≡ []
  pub control : e.talk.outbox.control ≡ []
  pub group : first_group e.talk.outbox.publish ≡ []

none-head : (xs : List Item) → head xs ≡ None → xs ≡ []
none-head [] h = refl
none-head (x ∷ xs) h = absurd cc

none-or : {A : Type 0} (x y : Option A) → option_or x y ≡ None → (x ≡ None) × (y ≡ None)
none-or None y h = (refl, h)
none-or (Some a) y h = absurd cc

none-long : (n : ℕ) (xs : List ℕ) → nat_lt 0 (length xs) ≡ false → xs ≡ []
none-long n [] h = refl
none-long n (x ∷ xs) h = absurd (let some : 0 < length (x ∷ xs) = omega arith in let none : length (x ∷ xs) ≤ 0 = grind (arith, nat_tests, h) in omega (arith, some, none))

none-fits : (capacity : ℕ) (o : Option Item) → longer_than capacity o ≡ None → fitting capacity o ≡ None → o ≡ None
none-fits capacity None long none = refl
none-fits capacity (Some i) long none = absurd (by (nat_lt capacity (size_of i)) (nat_le (size_of i) capacity) refl refl long none) where
  by : (b c : Bool) → nat_lt capacity (size_of i) ≡ b → nat_le (size_of i) capacity ≡ c → (if b then Some (size_of i) else None) ≡ None → (if c then Some i else None) ≡ None → ⊥
  by true c hb hc long none = cc
  by false true hb hc long none = cc
  by false false hb hc long none =
      let most : size_of i ≤ capacity = grind (arith, nat_tests, hb) in
      let more : capacity < size_of i = grind (arith, nat_tests, hc) in
      omega (arith, most, more)

-- what fits is committed
none-next : (e : Engine) → length (commit_all e).unsent ≡ 0 → fitting_next e ≡ None
none-next e empty = by (fitting_next e) refl where
  by : (o : Option Item) → fitting_next e ≡ o → fitting_next e ≡ None
  by None is = is
  by (Some i) is =
      let n = frames_waiting (commit_one e).talk in
      let later : commits n (commit_one e) ≡ commit_one e = commits-none n (commit_one e) (ap (λ (x : Engine). length x.unsent) (commits-first e i is) ∙ empty) in
      let one : (commit_one e).unsent ≡ e.unsent ++ encoding i.frame = ap (λ (x : Engine). x.unsent) (commit_one-is e ∙ ap (λ (o : Option Item). with_frame o e) is) in
      let none : length (commit_one e).unsent ≡ 0 = ap (λ (x : Engine). length x.unsent) (sym later ∙ commits-first e i is) ∙ empty in
      absurd (omega (arith, none, ap length one, length-append e.unsent (encoding i.frame), encoding-some i.frame))

pub idle-so : (options : Options) (e : Engine) → is_open e.talk ≡ true → e.talk.blocked ≡ false → Modest options e.talk → Flows e.talk → can_write e ≡ false → IsIdle e
idle-so options e opened free modest flowing none =
    let fits : overlong_next e ≡ None = modest-fits options e modest in
    let all = (commit_all e).unsent in
    let first = and-other (is_open e.talk) (not e.talk.blocked && (not (is_some (overlong_next e)) && nat_lt 0 (length all))) opened none in
    let second = and-other (not e.talk.blocked) (not (is_some (overlong_next e)) && nat_lt 0 (length all)) (ap not free) first in
    let third = and-other (not (is_some (overlong_next e))) (nat_lt 0 (length all)) (ap (λ (o : Option ℕ). not (is_some o)) fits) second in
    let empty : all ≡ [] = none-long 0 all third in
    let same : commit_all e ≡ e = commits-none (frames_waiting e.talk) e (ap length empty) in
    let unsent : e.unsent ≡ [] = sym (ap (λ (x : Engine). x.unsent) same) ∙ empty in
    let nothing : fitting_next e ≡ None = none-next e (ap length empty) in
    let space : e.talk.capacity - length e.unsent ≡ e.talk.capacity = omega (arith, ap length unsent) in
    let whole : fitting e.talk.capacity (next_out e.talk) ≡ None = ap (λ (n : ℕ). fitting n (next_out e.talk)) (sym space) ∙ nothing in
    let out : next_out e.talk ≡ None = none-fits e.talk.capacity (next_out e.talk) (sym (ap (λ (x : Engine). overlong x.talk) same) ∙ fits) whole in
    let q = e.talk.outbox in
    let item : queued.next_item (flows e.talk) q ≡ None = sym (if-true (writes e.talk) (queued.next_item (flows e.talk) q) None (and-true (is_open e.talk) (not e.talk.blocked) opened (ap not free))) ∙ out in
    let parts = none-or (head q.begun) (option_or (head q.control) (next_publish (flows e.talk) q.publish)) item in
    let rest = none-or (head q.control) (next_publish (flows e.talk) q.publish) parts.1 in
    record {
      unsent = unsent;
      begun = none-head q.begun parts.0;
      control = none-head q.control rest.0;
      group = none-head (first_group q.publish) (sym (ap (λ (b : Bool). next_publish b q.publish) flowing) ∙ rest.1);
    }
