-- What ends where a link is lost, and what is answered then.
use Rattle.std.proofs.Common.{◌≡◌, ◌≢◌, ◌↔◌, ℕ, zero, suc, nat_le, Bool, true, false, cond, if◌then◌else◌, List, [], ◌∷◌, Option, Some, None, Result, Ok, Err, refl, ap, sym, ◌∙◌, subst}
use Rattle.std.specs.declared.cmp.Ordering.{Ordering}
use Rattle.std.specs.declared.cmp.Ordering.TheVariants.{Less, Equal, Greater}
use Rattle.std.specs.Ordering.{nat_cmp, is_eq}
use Rattle.amqp_frame.specs.declared.frame.Frame.TheVariants.{Heartbeat}
use Rattle.amqp_rules.specs.declared.state.Link.{Link}
use Rattle.amqp_rules.specs.declared.state.Link.TheVariants.{Due, Wanted, Open}
use Rattle.amqp_promise.specs.declared.io_fault.IoFault.{IoFault}
use Rattle.amqp_violations.specs.declared.misread.Misread.{Misread}
use Rattle.amqp_answers.specs.declared.answer.Answer.{Answer}
use Rattle.amqp_promise.specs.declared.error.ErrorKind.{ErrorKind}
use Rattle.amqp_promise.specs.declared.error.ErrorKind.TheVariants.{IOError, MissingHeartbeatError}
use Rattle.amqp_auth.specs.declared.asked.Asked.{Asked}
use Rattle.amqp_maps.specs.Listed.{at}
use Rattle.amqp_rules.specs.Talk.{Talk, is_open, is_open_link, acts, end_of, end_of_link}
use Rattle.amqp_rules.specs.Recovery.{recovery_delay}
use Rattle.amqp_answers.specs.Settled.{rejected_slot, rejected_all}
use Rattle.amqp_rules.specs.Changes.{queue, fail, lose_by, lose, finish}
use Rattle.amqp_rules.specs.Links.{misread, lost, dropped}
use Rattle.amqp_violations.specs.Violations.{misread_error}
use Rattle.amqp_rules.specs.Ticks.{is_missed, is_heartbeat_due, missing_heartbeat, beat, refreshed, link_at, timed, tick}
use Rattle.amqp_types.proofs.Small.{if_case, if-true}
use Rattle.amqp_rules.proofs.Heard.{secret-case}
use Rattle.amqp_rules.proofs.Ascending.{ranked}
use Rattle.amqp_rules.proofs.Recovering.{lose-by, lose-case}

-- ---- ends

-- an open link has no end
pub open-goes_on : (l : Link ErrorKind) → is_open_link l ≡ true → end_of_link l ≡ None
open-goes_on Open h = refl
open-goes_on _ h = cc

-- the session ends with an error where the link is lost by this one
abbrev pub EndsBy : ErrorKind → ErrorKind → Talk → Type 0
EndsBy k e t = (e ≡ k) × (recovery_delay e t ≡ None)

-- a link that is lost ends a session by its error alone, and exactly where the session does not recover from it
pub lose-ends : (k e : ErrorKind) (t : Talk) → (end_of (lose k t) ≡ Some (Err e)) ↔ EndsBy k e t
lose-ends k e t = (lose-by (λ (x : Talk). end_of x ≡ Some (Err e) → EndsBy k e t) k t (λ delay is h. cc) over, back)
  where
    over : recovery_delay k t ≡ None → end_of (fail k t) ≡ Some (Err e) → EndsBy k e t
    over none h =
        let same : e ≡ k = cc in
        (same, ap (λ (x : ErrorKind). recovery_delay x t) same ∙ none)

    back : EndsBy k e t → end_of (lose k t) ≡ Some (Err e)
    back h =
        subst (λ (x : ErrorKind). end_of (lose x t) ≡ Some (Err e)) h.0
        (ap (λ (delay : Option ℕ). end_of (lose_by delay e t)) h.1)

-- the same of what loses the link
ends-as-lost : (k e : ErrorKind) (t t' : Talk) → t' ≡ lose k t → (end_of t' ≡ Some (Err e)) ↔ EndsBy k e t
ends-as-lost k e t t' same = subst (λ (x : Talk). (end_of x ≡ Some (Err e)) ↔ EndsBy k e t) (sym same) (lose-ends k e t)

-- what is no frame
pub misread-ends : (why : Misread) (e : ErrorKind) (t : Talk) → acts t ≡ true → (end_of (misread why t) ≡ Some (Err e)) ↔ EndsBy (misread_error why) e t
misread-ends why e t on =
    ends-as-lost (misread_error why) e t (misread why t)
    (if-true (acts t) (lose (misread_error why) t) (if is_open t then record t { input = dropped t.input } else t) on)

-- the end of the input, or a fault
pub lost-ends : (fault : IoFault) (e : ErrorKind) (t : Talk) → acts t ≡ true → (end_of (lost fault t) ≡ Some (Err e)) ↔ EndsBy (IOError fault) e t
lost-ends fault e t on =
    ends-as-lost (IOError fault) e t (lost fault t) (if-true (acts t) (lose (IOError fault) t) (if is_open t then finish t else t) on)

-- ---- a tick

refreshed-end : (said : Result (List ℕ) (List ℕ)) (t : Talk) → end_of (refreshed said t) ≡ end_of t
refreshed-end (Ok secret) t = refl
refreshed-end (Err text) t = refl

due-end : (now : ℕ) (l : Link ErrorKind) → end_of_link (link_at now l) ≡ end_of_link l
due-end now (Due moment) = if_case (λ (l : Link ErrorKind). end_of_link l ≡ None) (nat_le moment now) Wanted (Due moment) refl refl
due-end now _ = refl

-- a tick ends what a missing heartbeat ends
tick-end : (answers : List Asked) (t : Talk) → end_of (tick answers t) ≡ end_of (missing_heartbeat t)
tick-end answers t =
    let x : Talk = missing_heartbeat t in
    due-end (timed answers t).present (timed answers t).link
    ∙ secret-case (λ (y : Talk). end_of y ≡ end_of (beat t)) answers (beat t) refl (λ asks said. refreshed-end said (beat t))
    ∙ if_case (λ (y : Talk). end_of y ≡ end_of x) (is_heartbeat_due x) (record (queue 0 Heartbeat x) { last_write = x.present }) x refl refl

-- a server that is silent for too long
pub silence-ends : (answers : List Asked) (e : ErrorKind) (t : Talk) → is_open t ≡ true
    → (end_of (tick answers t) ≡ Some (Err e)) ↔ ((is_missed t ≡ true) × (e ≡ MissingHeartbeatError) × (recovery_delay e t ≡ None))
silence-ends answers e t opened = (there, back)
  where
    by : (b : Bool) → is_missed t ≡ b → end_of (if b then lose MissingHeartbeatError t else t) ≡ Some (Err e)
        → (is_missed t ≡ true) × (e ≡ MissingHeartbeatError) × (recovery_delay e t ≡ None)
    by true missed over =
        let is : EndsBy MissingHeartbeatError e t = (lose-ends MissingHeartbeatError e t).0 over in
        (missed, is.0, is.1)
    by false heard over =
        let going : end_of t ≡ None = open-goes_on t.link opened in
        cc

    there : end_of (tick answers t) ≡ Some (Err e) → (is_missed t ≡ true) × (e ≡ MissingHeartbeatError) × (recovery_delay e t ≡ None)
    there over = by (is_missed t) refl (sym (tick-end answers t) ∙ over)

    back : (is_missed t ≡ true) × (e ≡ MissingHeartbeatError) × (recovery_delay e t ≡ None) → end_of (tick answers t) ≡ Some (Err e)
    back h =
        tick-end answers t ∙ ap end_of (if-true (is_missed t) (lose MissingHeartbeatError t) t h.0)
        ∙ (lose-ends MissingHeartbeatError e t).1 (h.1, h.2)

-- ---- promises

-- where an error reaches the promises, each slot is reached
rejected-head : (e : ErrorKind) (n : ℕ) (slot : Option (Result Answer ErrorKind)) (p : ℕ × Option (Result Answer ErrorKind))
    (ps : List (ℕ × Option (Result Answer ErrorKind))) (r : Ordering) → nat_cmp n p.0 ≡ r → cond (is_eq r) (Some p.1) (at n ps) ≡ Some slot
    → (at n ps ≡ Some slot → at n (rejected_all e ps) ≡ Some (rejected_slot e n slot))
    → cond (is_eq r) (Some (rejected_slot e p.0 p.1)) (at n (rejected_all e ps)) ≡ Some (rejected_slot e n slot)
rejected-head e n slot p ps Equal h found rest =
    let same : n ≡ p.0 = ranked n p.0 Equal h in
    let held : p.1 ≡ slot = cc in
    ap (λ (m : ℕ). Some (rejected_slot e m p.1)) (sym same) ∙ ap (λ (s : Option (Result Answer ErrorKind)). Some (rejected_slot e n s)) held
rejected-head e n slot p ps Less h found rest = rest found
rejected-head e n slot p ps Greater h found rest = rest found

rejected-at : (e : ErrorKind) (n : ℕ) (slot : Option (Result Answer ErrorKind)) (ps : List (ℕ × Option (Result Answer ErrorKind))) → at n ps ≡ Some slot
    → at n (rejected_all e ps) ≡ Some (rejected_slot e n slot)
rejected-at e n slot [] found = cc
rejected-at e n slot (p ∷ ps) found = rejected-head e n slot p ps (nat_cmp n p.0) refl found (rejected-at e n slot ps)

slot-rejected : (e : ErrorKind) (n : ℕ) → n ≢ 0 → rejected_slot e n None ≡ Some (Err e)
slot-rejected e zero other = absurd (other refl)
slot-rejected e (suc n) other = refl

slot-stays : (e : ErrorKind) (n : ℕ) (answer : Result Answer ErrorKind) → rejected_slot e n (Some answer) ≡ Some answer
slot-stays e zero answer = refl
slot-stays e (suc n) answer = refl

-- where the session recovers, a promise that waits gets the error, but that of the connection
pub lose-answers : (e : ErrorKind) (t : Talk) (delay n : ℕ) → recovery_delay e t ≡ Some delay → n ≢ 0 → at n t.promises ≡ Some None
    → at n (lose e t).promises ≡ Some (Some (Err e))
lose-answers e t delay n is other waits =
    ap (λ (o : Option ℕ). at n (lose_by o e t).promises) is
    ∙ rejected-at e n None t.promises waits
    ∙ ap (λ (s : Option (Result Answer ErrorKind)). Some s) (slot-rejected e n other)

-- an answer that was given stays
pub lose-stays : (e : ErrorKind) (t : Talk) (n : ℕ) (answer : Result Answer ErrorKind) → at n t.promises ≡ Some (Some answer)
    → at n (lose e t).promises ≡ Some (Some answer)
lose-stays e t n answer given =
    lose-case (λ (x : Talk). at n x.promises ≡ Some (Some answer)) e t
    (λ delay. rejected-at e n (Some answer) t.promises given ∙ ap (λ (s : Option (Result Answer ErrorKind)). Some s) (slot-stays e n answer))
    given

-- the promise of the connection goes on to wait
pub lose-waits : (e : ErrorKind) (t : Talk) → at 0 t.promises ≡ Some None → at 0 (lose e t).promises ≡ Some None
lose-waits e t waits =
    lose-case (λ (x : Talk). at 0 x.promises ≡ Some None) e t (λ delay. rejected-at e 0 None t.promises waits) waits
