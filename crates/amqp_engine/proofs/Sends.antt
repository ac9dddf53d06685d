-- What was sent on each link, turn by turn.
use Rattle.std.proofs.Common.{◌≡◌, ℕ, ◌==◌, if◌then◌else◌, true, false, List, [], ◌∷◌, ◌++◌, length, drop, Some, refl, ap, sym, ◌∙◌, subst}
use Rattle.std.specs.List.{AllByRecursion}
use Rattle.amqp_outgoing.specs.declared.committed.Mark.{Mark}
use Rattle.amqp_auth.specs.declared.asked.Asked.{Asked}
use Rattle.amqp_rules.specs.Talk.{Talk, is_open, is_asked}
use Rattle.amqp_rules.specs.Changes.{present_at}
use Rattle.amqp_rules.specs.Links.{asked, linked}
use Rattle.amqp_engine.specs.declared.port.Step.{Step}
use Rattle.amqp_engine.specs.declared.port.Step.TheVariants.{Linked, LinkFailed, Piece, End, Fault, Room, Tick, Command}
use Rattle.amqp_engine.specs.declared.port.Wrote.{Wrote}
use Rattle.amqp_engine.specs.Log.{on_last, TookAtMost}
use Rattle.amqp_engine.specs.Engine.{Engine, with_talk, rule_at, step_engine, step_linked, read_one, settle, commit_all, ended_overlong, can_write, taken_by, starve_at}
use Rattle.amqp_rules.specs.Writing.{frames_waiting, end_overlong}
use Rattle.amqp_engine.specs.Turn.{Turn, write_answers, Progress, asks, wants_ask, offer_part, offered, answered, read, turn, AreTurns}
use Rattle.amqp_engine.specs.Sending.{Sending, nothing_sent, offer_sending, offers_sending, step_sending, sendings_from, SendsInOrder}
use Rattle.amqp_types.proofs.Small.{if_case, if_by, if-true, and-left, all-push}
use Rattle.amqp_engine.proofs.Settling.{settle-talk}
use Rattle.amqp_rules.proofs.Keeping.{present-keeps, starve-ends}
use Rattle.amqp_rules.proofs.Sending.{left_after}
use Rattle.amqp_rules.proofs.Lacking.{asked-open}
use Rattle.amqp_engine.proofs.Commits.{commits-keep}
use Rattle.amqp_engine.proofs.Over.{ended-closed}
use Rattle.amqp_engine.proofs.Sent.{on_last-append}
use Rattle.amqp_engine.proofs.Agreeing.{Agrees, AgreesOn, agrees-none, agrees-order, agrees-offer}
use Rattle.amqp_engine.proofs.LinkKept.{Leaves, leaves-step, leaves-read, written}
use Rattle.amqp_engine.proofs.Lifting as lifting

-- ---- lists

pub all-front : {A : Type 0} (P : A → Type 0) (xs ys : List A) → AllByRecursion P (xs ++ ys) → AllByRecursion P xs
all-front P [] ys h = tt
all-front P (x ∷ xs) ys h = (h.0, all-front P xs ys h.1)

-- ---- what is known of what was sent

-- the last link is the open one
abbrev pub IsLast : Engine → List Sending → Type 0
IsLast e ss = (before : List Sending) × (s : Sending) × (ss ≡ before ++ s ∷ []) × AgreesOn e s

pub record Sends (e : Engine) (ss : List Sending) : Type 0 where
  pub all : AllByRecursion SendsInOrder ss
  pub last : is_open e.talk ≡ true → IsLast e ss

pub sends-left : (e e' : Engine) (ss : List Sending) → Leaves e e' → Sends e ss → Sends e' ss
sends-left e e' ss leaves h =
    record {
      all = h.all;
      last = λ now.
          let k = leaves now in
          let l = h.last k.opened in
          let P : List Mark → Type 0 = λ ms. Agrees ms e'.unsent l.1 in
          let Q : List ℕ → Type 0 = λ bytes. Agrees e.talk.committed bytes l.1 in
          (l.0, l.1, l.2, subst P (sym k.committed) (subst Q (sym k.unsent) l.3));
    }

pub sends-asks : (e : Engine) (ss : List Sending) → Sends e ss → Sends (asks e) ss
sends-asks e ss h =
    if_case (λ (x : Engine). Sends x ss) (wants_ask e) (with_talk asked e) e
    (sends-left e (with_talk asked e) ss (λ now. record { opened = sym (asked-open e.talk.link) ∙ now; committed = refl; unsent = refl }) h) h

-- ---- the step

none-in-order : SendsInOrder nothing_sent
none-in-order = agrees-order [] [] nothing_sent agrees-none

-- a link that was asked for is there
sends-linked : (at : ℕ) (bytes : List ℕ) (e : Engine) (ss : List Sending) → is_asked e.talk ≡ true → Sends e ss
    → Sends (step_linked at e) (ss ++ nothing_sent ∷ [])
sends-linked at bytes e ss h k =
    let t = present_at at e.talk in
    let x : Engine = record { talk = linked t; unread = []; place = 0; unsent = []; starved = e.starved } in
    let here : step_linked at e ≡ x = if-true (is_asked e.talk) x (rule_at at (λ y. y) e) h in
    let asked_then : is_asked t ≡ true = present-keeps is_asked at e.talk (λ n. refl) ∙ h in
    let committed : x.talk.committed ≡ [] = ap (λ (y : Talk). y.committed) (if-true (is_asked t) _ t asked_then) in
    let P : Engine → Type 0 = λ y. Sends y (ss ++ nothing_sent ∷ []) in
    let Q : List Mark → Type 0 = λ ms. Agrees ms [] nothing_sent in
    subst P (sym here)
    (record { all = all-push SendsInOrder ss nothing_sent k.all none-in-order; last = λ now. (ss, nothing_sent, refl, subst Q (sym committed) agrees-none) })

pub sends-step : (at : ℕ) (step : Step) (bytes : List ℕ) (answers : List Asked) (e : Engine) (ss : List Sending) → Sends e ss
    → Sends (step_engine at step bytes answers e) (step_sending step e ss)
sends-step at Linked bytes answers e ss h =
    if_by (λ (xs : List Sending). Sends (step_engine at Linked bytes answers e) xs) (is_asked e.talk) (ss ++ nothing_sent ∷ []) ss
    (λ is. sends-linked at bytes e ss is h) (λ other. sends-left e (step_engine at Linked bytes answers e) ss (leaves-step at Linked bytes answers e (λ same. other)) h)
sends-step at LinkFailed bytes answers e ss h = sends-left e (step_engine at LinkFailed bytes answers e) ss (leaves-step at LinkFailed bytes answers e (λ same. cc)) h
sends-step at (Piece n) bytes answers e ss h = sends-left e (step_engine at (Piece n) bytes answers e) ss (leaves-step at (Piece n) bytes answers e (λ same. cc)) h
sends-step at End bytes answers e ss h = sends-left e (step_engine at End bytes answers e) ss (leaves-step at End bytes answers e (λ same. cc)) h
sends-step at Fault bytes answers e ss h = sends-left e (step_engine at Fault bytes answers e) ss (leaves-step at Fault bytes answers e (λ same. cc)) h
sends-step at Room bytes answers e ss h = sends-left e (step_engine at Room bytes answers e) ss (leaves-step at Room bytes answers e (λ same. cc)) h
sends-step at Tick bytes answers e ss h = sends-left e (step_engine at Tick bytes answers e) ss (leaves-step at Tick bytes answers e (λ same. cc)) h
sends-step at (Command c) bytes answers e ss h = sends-left e (step_engine at (Command c) bytes answers e) ss (leaves-step at (Command c) bytes answers e (λ same. cc)) h

-- ---- an offer

still-open : (e : Engine) → can_write e ≡ true → is_open (commit_all e).talk ≡ true
still-open e can =
    commits-keep (λ (y : Engine). is_open y.talk) (λ y fs ms bytes. refl) (frames_waiting e.talk) e ∙ and-left (is_open e.talk) _ can

pub sends-offer : (at : ℕ) (w : Wrote) (e : Engine) (ss : List Sending) → can_write e ≡ true → TookAtMost (length (offered e)) w → Sends e ss
    → Sends (answered at w e) (on_last (offer_sending w e) ss)
sends-offer at w e ss can fits h =
    let l = h.last (and-left (is_open e.talk) _ can) in
    let s' = offer_sending w e l.1 in
    let a = agrees-offer w e l.1 l.3 fits in
    let ms : List Mark = (commit_all e).talk.committed in
    let left : List Mark = if taken_by w == 0 then ms else left_after ms (taken_by w) in
    let same : on_last (offer_sending w e) ss ≡ l.0 ++ s' ∷ [] = ap (on_last (offer_sending w e)) l.2 ∙ on_last-append (offer_sending w e) l.0 l.1 in
    let A : List Sending → Type 0 = λ xs. AllByRecursion SendsInOrder xs in
    let front : A l.0 = all-front SendsInOrder l.0 (l.1 ∷ []) (subst A l.2 h.all) in
    let Q : List Sending → Type 0 = λ xs. Sends (answered at w e) xs in
    subst Q (sym same)
    (record {
      all = all-push SendsInOrder l.0 s' front (agrees-order left (drop (taken_by w) (offered e)) s' a);
      last = λ now.
          let k = written at w (commit_all e) (still-open e can) now in
          let P : List Mark → Type 0 = λ ms. Agrees ms (answered at w e).unsent s' in
          let R : List ℕ → Type 0 = λ bytes. Agrees left bytes s' in
          (l.0, s', refl, subst P (sym k.committed) (subst R (sym k.unsent) a));
    })

-- ---- where the session ends

-- a frame that can't go out ends it
pub sends-overlong : (size : ℕ) (e : Engine) (ss : List Sending) → AllByRecursion SendsInOrder ss → Sends (ended_overlong (Some size) e) ss
sends-overlong size e ss all =
    let x : Engine = with_talk (end_overlong (Some size)) (commit_all e) in
    let over : is_open (settle x).talk ≡ false = ap is_open (settle-talk x) in
    record { all = all; last = λ now. absurd cc }

pub sends-starved : (at j : ℕ) (e : Engine) (ss : List Sending) → AllByRecursion SendsInOrder ss → Sends (starve_at at j e) ss
sends-starved at j e ss all =
    let over : is_open (starve_at at j e).talk ≡ false = ended-closed (starve_at at j e).talk.link (starve-ends (present_at at e.talk)) in
    record { all = all; last = λ now. absurd cc }

pub all-step : (step : Step) (e : Engine) (ss : List Sending) → AllByRecursion SendsInOrder ss → AllByRecursion SendsInOrder (step_sending step e ss)
all-step Linked e ss all =
    if_case (AllByRecursion SendsInOrder) (is_asked e.talk) (ss ++ nothing_sent ∷ []) ss (all-push SendsInOrder ss nothing_sent all none-in-order) all
all-step LinkFailed e ss all = all
all-step (Piece n) e ss all = all
all-step End e ss all = all
all-step Fault e ss all = all
all-step Room e ss all = all
all-step Tick e ss all = all
all-step (Command c) e ss all = all

-- ---- turns

abbrev pub asking : Engine → List Sending → List Sending
asking e ss = ss

abbrev pub stepping : ℕ → Step → List ℕ → Engine → List Sending → List Sending
stepping at step bytes e ss = step_sending step e ss

abbrev pub offering : Wrote → Progress → List Sending → List Sending
offering w p ss = on_last (offer_sending w p.engine) ss

pub small : lifting.Simple (List Sending) asking stepping offering Sends
small =
    record {
      asked = sends-asks;
      step = λ at step bytes answers e ss running h. sends-step at step bytes answers e ss h;
      read = λ at answers e ss can h. sends-left e (read_one at answers e) ss (leaves-read at answers e) h;
      offer = λ w p ss can fits h. sends-offer p.at w p.engine ss can fits h;
      overlong = λ size e ss is h. sends-overlong size e ss h.all;
      starve = λ at j e ss h. sends-starved at j e ss h.all;
      cut = λ at step bytes e ss running part h. sends-starved at 0 e (step_sending step e ss) (all-step step e ss h.all);
    }

pub offers-same : (ws : List Wrote) (p : Progress) (ss : List Sending) → lifting.offers_on (List Sending) asking stepping offering ws p ss ≡ offers_sending ws p ss
offers-same [] p ss = refl
offers-same (w ∷ ws) p ss = offers-same ws (offer_part w p) (on_last (offer_sending w p.engine) ss)

turns-same : (us : List Turn) (e : Engine) (ss : List Sending) → lifting.turns_on (List Sending) asking stepping offering us e ss ≡ sendings_from us e ss
turns-same [] e ss = refl
turns-same (u ∷ us) e ss =
    turns-same us (turn u e) (lifting.turn_on (List Sending) asking stepping offering u e ss)
    ∙ ap (sendings_from us (turn u e)) (offers-same (write_answers u.notes) (read u (asks e)) (step_sending u.step (asks e) ss))

pub order : (us : List Turn) (e : Engine) (ss : List Sending) → AreTurns us e → Sends e ss → AllByRecursion SendsInOrder (sendings_from us e ss)
order us e ss may sends =
    let P : List Sending → Type 0 = λ xs. AllByRecursion SendsInOrder xs in
    subst P (turns-same us e ss)
    (lifting.lift-turns (List Sending) asking stepping offering Sends (λ b. Sends) Sends
    (lifting.simply (List Sending) asking stepping offering Sends small) us e ss may sends).all
