-- What finishes a session is the last that is sent.
use Rattle.std.proofs.Common.{◌≡◌, inl, inr, true≢false, ◌∙◌, ap, sym, subst, refl, ℕ, zero, suc, ◌+◌, ◌-◌, ◌≤◌, ◌==◌, ◌&&◌, not, nat_le, if◌then◌else◌, cond, Bool, true, false, List, [], ◌∷◌, ◌++◌, length, drop, map, Option, Some, None, arith}
use Rattle.std.proofs.lemmas.Bool.Decides.{nat_tests}
use Rattle.std.specs.Prelude.{IsTrue, filter}
use Rattle.amqp_frame.specs.declared.frame.Frame.TheVariants.{Raw}
use Rattle.amqp_frame.specs.declared.frame.RawKind.{RawKind}
use Rattle.amqp_frame.specs.declared.frame.RawKind.TheVariants.{Header, Body}
use Rattle.amqp_frame.specs.RawMethods.{OtherMethod}
use Rattle.amqp_outbox.specs.declared.item.Item.{Item}
use Rattle.amqp_outbox.specs.Items.{plain_item, group_of, items_of_groups}
use Rattle.amqp_outbox.specs.Queued as queued
use Rattle.amqp_outbox.specs.Queued.{Queued, waiting_items, after_next, pushed_control, pushed_group, is_on, goes_with}
use Rattle.amqp_outbox.proofs.Waiting.{next-waits}
use Rattle.amqp_outgoing.specs.declared.committed.Mark.{Mark}
use Rattle.amqp_outgoing.specs.declared.committed.Then.{Then}
use Rattle.amqp_outgoing.specs.declared.committed.Then.TheVariants.{Nothing, Answer, Pays, Finish}
use Rattle.amqp_violations.specs.declared.server_close.ServerClose.{ServerClose}
use Rattle.amqp_violations.specs.declared.server_close.ServerClose.TheVariants.{WithoutError, WithError}
use Rattle.amqp_promise.specs.declared.error.ErrorKind.TheVariants.{ProtocolError}
use Rattle.amqp_rules.specs.declared.state.Input.{Input}
use Rattle.amqp_rules.specs.declared.state.Input.TheVariants.{Acting, Closed, Dropped}
use Rattle.amqp_rules.specs.Talk.{Talk, is_open, is_acting}
use Rattle.amqp_settings.specs.Handshake.{channel_open, channel_flow, flow_ok, channel_close_ok, our_channel_close}
use Rattle.amqp_rules.specs.Links.{dropped}
use Rattle.amqp_commands.specs.Publishing.{content_header, body_pieces, publish_frames}
use Rattle.amqp_rules.specs.Changes.{without_all_on, finish_by}
use Rattle.amqp_rules.specs.Channels.{channel_at}
use Rattle.amqp_outgoing.specs.Marks.{left_in, then_of, mark_of}
use Rattle.amqp_rules.specs.Writing.{unsent, taken, sent_among, sent, follow, writes, flows, fitting, next_out, next_within}
use Rattle.amqp_rules.specs.Sound.{is_finish, following, NoneFinishes, LastFinishes, Finishes}
use Rattle.amqp_types.proofs.Small.{if-true, if-false}
use Rattle.amqp_rules.proofs.Counting.{other-false}
use Rattle.amqp_rules.proofs.Keeping.{OverlooksEnds}
use Rattle.amqp_rules.proofs.Sending.{left_after, left_in-left_after, follow-open, pay-keeps}
use Rattle.amqp_rules.proofs.Recovering.{lose-case}

-- ---- nothing finishes, or the last does

pub none-last : (ths : List Then) → NoneFinishes ths → LastFinishes ths
none-last [] h = tt
none-last (th ∷ ths) h = let no : is_finish th ≡ false = h.0 in ((λ (f : IsTrue (is_finish th)). absurd cc), none-last ths h.1)

pub acting-none : (i : Input) (ths : List Then) → is_acting i ≡ true → Finishes i ths → NoneFinishes ths
acting-none Acting ths a h = h
acting-none (Closed c) ths a h = absurd cc
acting-none (Dropped c) ths a h = absurd cc

pub none-finishes : (i : Input) (ths : List Then) → NoneFinishes ths → Finishes i ths
none-finishes Acting ths h = h
none-finishes (Closed c) ths h = none-last ths h
none-finishes (Dropped c) ths h = none-last ths h

pub finishes-last : (i : Input) (ths : List Then) → Finishes i ths → LastFinishes ths
finishes-last Acting ths h = none-last ths h
finishes-last (Closed c) ths h = h
finishes-last (Dropped c) ths h = h

pub dropped-finishes : (i : Input) (ths : List Then) → Finishes i ths → Finishes (dropped i) ths
dropped-finishes Acting ths h = h
dropped-finishes (Closed c) ths h = h
dropped-finishes (Dropped c) ths h = h

pub dropped-acts : (i : Input) → is_acting i ≡ true → is_acting (dropped i) ≡ true
dropped-acts Acting h = refl
dropped-acts (Closed c) h = absurd cc
dropped-acts (Dropped c) h = absurd cc

-- ---- what waits changes

-- none of these frames finishes
abbrev pub GoesOn : List Item → Type 0
GoesOn is = NoneFinishes (following [] is)

marks-go : (ms : List Mark) (is : List Item) → NoneFinishes (following ms is) → NoneFinishes (following ms [])
marks-go [] is h = tt
marks-go (m ∷ ms) is h = (h.0, marks-go ms is h.1)

items-go : (ms : List Mark) (is : List Item) → NoneFinishes (following ms is) → GoesOn is
items-go [] is h = h
items-go (m ∷ ms) is h = items-go ms is h.1

both-go : (ms : List Mark) (is : List Item) → NoneFinishes (following ms []) → GoesOn is → NoneFinishes (following ms is)
both-go [] is h k = k
both-go (m ∷ ms) is h k = (h.0, both-go ms is h.1 k)

-- where frames act, other frames wait of which none finishes
pub acting-finishes : (i : Input) (ms : List Mark) (is js : List Item) → is_acting i ≡ true → (GoesOn is → GoesOn js)
    → Finishes i (following ms is) → Finishes i (following ms js)
acting-finishes i ms is js a f h =
    let none : NoneFinishes (following ms is) = acting-none i (following ms is) a h in
    none-finishes i (following ms js) (both-go ms js (marks-go ms is none) (f (items-go ms is none)))

joined : (xs ys : List Item) → GoesOn xs → GoesOn ys → GoesOn (xs ++ ys)
joined [] ys h k = k
joined (x ∷ xs) ys h k = (h.0, joined xs ys h.1 k)

front : (xs ys : List Item) → GoesOn (xs ++ ys) → GoesOn xs
front [] ys h = tt
front (x ∷ xs) ys h = (h.0, front xs ys h.1)

behind : (xs ys : List Item) → GoesOn (xs ++ ys) → GoesOn ys
behind [] ys h = h
behind (x ∷ xs) ys h = behind xs ys h.1

one-group-more : (groups : List (List Item)) (group : List Item) → GoesOn group → GoesOn (items_of_groups groups) → GoesOn (items_of_groups (groups ++ group ∷ []))
one-group-more [] group g h = joined group [] g tt
one-group-more (x ∷ groups) group g h =
    joined x (items_of_groups (groups ++ group ∷ [])) (front x (items_of_groups groups) h) (one-group-more groups group g (behind x (items_of_groups groups) h))

-- groups that are left go on
groups-left : (test : List Item → Bool) (groups : List (List Item)) → GoesOn (items_of_groups groups) → GoesOn (items_of_groups (filter test groups))
groups-left test [] h = tt
groups-left test (group ∷ groups) h = by (test group) (groups-left test groups (behind group (items_of_groups groups) h))
  where
    by : (b : Bool) → GoesOn (items_of_groups (filter test groups)) → GoesOn (items_of_groups (cond b (group ∷ filter test groups) (filter test groups)))
    by true rest = joined group (items_of_groups (filter test groups)) (front group (items_of_groups groups) h) rest
    by false rest = rest

-- frames that are left go on
items-left : (test : Item → Bool) (is : List Item) → GoesOn is → GoesOn (filter test is)
items-left test [] h = tt
items-left test (item ∷ is) h = by (test item) (items-left test is h.1)
  where
    by : (b : Bool) → GoesOn (filter test is) → GoesOn (cond b (item ∷ filter test is) (filter test is))
    by true rest = (h.0, rest)
    by false rest = rest

module _ (q : Queued) (h : GoesOn (waiting_items q)) where
  first-lanes : GoesOn (q.begun ++ q.control)
  first-lanes = front (q.begun ++ q.control) (items_of_groups q.publish) h

  last-lane : GoesOn (items_of_groups q.publish)
  last-lane = behind (q.begun ++ q.control) (items_of_groups q.publish) h

  -- a frame goes last in the control lane that does not finish
  pub control-goes_on : (x : Item) → is_finish (then_of x) ≡ false → GoesOn (waiting_items (pushed_control x q))
  control-goes_on x f =
      joined (q.begun ++ (q.control ++ x ∷ [])) (items_of_groups q.publish)
      (joined q.begun (q.control ++ x ∷ []) (front q.begun q.control first-lanes)
      (joined q.control (x ∷ []) (behind q.begun q.control first-lanes) (f, tt)))
      last-lane

  -- a group goes last of which no frame finishes
  pub group-goes_on : (group : List Item) → GoesOn group → GoesOn (waiting_items (pushed_group group q))
  group-goes_on group g =
      joined (q.begun ++ q.control) (items_of_groups (q.publish ++ group ∷ [])) first-lanes (one-group-more q.publish group g last-lane)

  -- some groups go
  pub left-goes_on : (test : List Item → Bool) → GoesOn (waiting_items (record q { publish = filter test q.publish }))
  left-goes_on test =
      joined (q.begun ++ q.control) (items_of_groups (filter test q.publish)) first-lanes (groups-left test q.publish last-lane)

  -- all of a channel goes
  pub channel-goes_on : (n : ℕ) → GoesOn (waiting_items (without_all_on n q))
  channel-goes_on n =
      joined (q.begun ++ filter (λ item. not (goes_with n item)) q.control) (items_of_groups (filter (λ group. not (is_on n group)) q.publish))
      (joined q.begun (filter (λ item. not (goes_with n item)) q.control) (front q.begun q.control first-lanes)
      (items-left (λ item. not (goes_with n item)) q.control (behind q.begun q.control first-lanes)))
      (groups-left (λ group. not (is_on n group)) q.publish last-lane)

  -- all groups go
  pub ungrouped-goes_on : GoesOn (waiting_items (record q { publish = [] }))
  ungrouped-goes_on = joined (q.begun ++ q.control) [] first-lanes tt

-- where frames act, one is queued that does not finish
pub queue-finishes : (i : Input) (ms : List Mark) (q : Queued) (x : Item) → is_acting i ≡ true → is_finish (then_of x) ≡ false
    → Finishes i (following ms (waiting_items q)) → Finishes i (following ms (waiting_items (pushed_control x q)))
queue-finishes i ms q x a f h =
    acting-finishes i ms (waiting_items q) (waiting_items (pushed_control x q)) a (λ goes. control-goes_on q goes x f) h

-- one frame alone waits behind what does not finish
pub alone-last : (ms : List Mark) (is : List Item) (x : Item) → NoneFinishes (following ms is) → LastFinishes (following ms (x ∷ []))
alone-last [] is x h = ((λ f. refl), tt)
alone-last (m ∷ ms) is x h =
    let no : is_finish m.then ≡ false = h.0 in ((λ (f : IsTrue (is_finish m.then)). absurd cc), alone-last ms is x h.1)

pub open-goes_on : (n : ℕ) → is_finish (then_of (plain_item n (channel_open n))) ≡ false
open-goes_on zero = refl
open-goes_on (suc n) = refl

pub close-goes_on : (n code : ℕ) (text : List ℕ) → is_finish (then_of (plain_item n (our_channel_close n code text))) ≡ false
close-goes_on zero code text = refl
close-goes_on (suc n) code text = refl

pub flow-goes_on : (n : ℕ) (active : Bool) → is_finish (then_of (plain_item n (channel_flow n active))) ≡ false
flow-goes_on zero active = refl
flow-goes_on (suc n) active = refl

pub flow_ok-goes_on : (n : ℕ) (active : Bool) → is_finish (then_of (plain_item n (flow_ok n active))) ≡ false
flow_ok-goes_on zero active = refl
flow_ok-goes_on (suc n) active = refl

pub close_ok-goes_on : (n : ℕ) → is_finish (then_of (plain_item n (channel_close_ok n))) ≡ false
close_ok-goes_on zero = refl
close_ok-goes_on (suc n) = refl

pieces-go : (n number : ℕ) (kind : RawKind) (bytes : List ℕ) (pieces : List (List ℕ)) → GoesOn (group_of n (Raw n kind bytes ∷ map (Raw n Body) pieces) number)
pieces-go n number kind bytes [] = (refl, tt)
pieces-go n number kind bytes (piece ∷ pieces) = (refl, pieces-go n number Body piece pieces)

-- the frames of a publish finish nothing
pub publish-goes_on : (n number : ℕ) (method : OtherMethod) (properties body : List ℕ) (size : ℕ)
    → GoesOn (group_of n (publish_frames n method properties body size) number)
publish-goes_on n number method properties body size =
    (refl, pieces-go n number Header (content_header method.class (length body) properties) (body_pieces size body))

-- ---- a frame is committed

if-some : (b : Bool) (o : Option Item) (item : Item) → (if b then o else None) ≡ Some item → o ≡ Some item
if-some true o item h = h
if-some false o item h = absurd cc

pub fitting-some : (space : ℕ) (o : Option Item) (item : Item) → fitting space o ≡ Some item → o ≡ Some item
fitting-some space None item h = absurd cc
fitting-some space (Some i) item h = if-some _ (Some i) item h

moved : (ms : List Mark) (item : Item) (is : List Item) → following (ms ++ mark_of item ∷ []) is ≡ following ms (item ∷ is)
moved [] item is = refl
moved (m ∷ ms) item is = ap (λ (ths : List Then). m.then ∷ ths) (moved ms item is)

-- the frame that goes out is the first of those that wait
pub next-first : (space : ℕ) (t : Talk) (item : Item) → next_within space t ≡ Some item
    → waiting_items t.outbox ≡ item ∷ waiting_items (after_next (flows t) t.outbox)
next-first space t item h =
    next-waits (flows t) t.outbox item
    (if-some (writes t) (queued.next_item (flows t) t.outbox) item (fitting-some space (next_out t) item h))

-- what follows stays where a frame is committed
pub committed-follows : (space : ℕ) (t : Talk) (item : Item) → next_within space t ≡ Some item
    → following t.committed (waiting_items t.outbox)
    ≡ following (t.committed ++ mark_of item ∷ []) (waiting_items (after_next (flows t) t.outbox))
committed-follows space t item h =
    ap (following t.committed) (next-first space t item h)
    ∙ sym (moved t.committed item (waiting_items (after_next (flows t) t.outbox)))

-- ---- frames are sent

tail-finishes : (i : Input) (th : Then) (ths : List Then) → Finishes i (th ∷ ths) → Finishes i ths
tail-finishes Acting th ths h = h.1
tail-finishes (Closed c) th ths h = h.1
tail-finishes (Dropped c) th ths h = h.1

-- the first committed frame goes
pub first-goes : (i : Input) (ms : List Mark) (is : List Item) → Finishes i (following ms is) → Finishes i (following (drop 1 ms) is)
first-goes i [] is h = h
first-goes i (m ∷ ms) is h = tail-finishes i m.then (following ms is) h

-- what does not look at what an end changes is as it was, while the link is open
sent-keeps : {A : Type 0} (f : Talk → A) → OverlooksEnds f → (m : Mark) (t : Talk) → is_open (sent m t) ≡ true → f (sent m t) ≡ f (record t { committed = drop 1 t.committed })
sent-keeps f h m t still =
    elim (follow-open f h m.then (record t { committed = drop 1 t.committed })) [
      | inl same ↦ same
      | inr shut ↦ absurd (true≢false (sym still ∙ shut))
    ]

-- while the link is open, the first committed frame is the one that went
pub sent-committed : (m : Mark) (ms : List Mark) (t : Talk) → is_open (sent m t) ≡ true → t.committed ≡ m ∷ ms → (sent m t).committed ≡ ms
sent-committed m ms t still h = sent-keeps (λ (x : Talk). x.committed) (λ t s l cs ps ns. refl) m t still ∙ ap (drop 1) h

-- where nothing was left, nothing is after the server's close
finish-empty : (o : Option ServerClose) (t : Talk) → t.committed ≡ [] → (finish_by o t).committed ≡ []
finish-empty None t h = h
finish-empty (Some WithoutError) t h = h
finish-empty (Some (WithError e)) t h = lose-case (λ (x : Talk). x.committed ≡ []) (ProtocolError e) t (λ delay. refl) h

module _ (m : Mark) (ms : List Mark) (k : ℕ) (t : Talk) (h : t.committed ≡ m ∷ ms) (opened : is_open t ≡ true)
    (last : LastFinishes (m.then ∷ following ms (waiting_items t.outbox)))
    (later : is_open (sent m t) ≡ true → (sent_among ms k (sent m t)).committed ≡ left_after ms k) where
  sent-first : (th : Then) → m.then ≡ th → (sent_among ms k (sent m t)).committed ≡ left_after ms k
  sent-first Nothing e = later (ap (λ (th : Then). is_open (follow th (record t { committed = drop 1 t.committed }))) e ∙ opened)
  sent-first (Answer n) e = later (ap (λ (th : Then). is_open (follow th (record t { committed = drop 1 t.committed }))) e ∙ opened)
  sent-first (Pays n) e =
      later (ap (λ (th : Then). is_open (follow th (record t { committed = drop 1 t.committed }))) e
      ∙ pay-keeps is_open (λ u cs ns. refl) (channel_at n t) n (record t { committed = drop 1 t.committed }) ∙ opened)
  sent-first Finish e =
      let none : following ms (waiting_items t.outbox) ≡ [] = last.0 (ap is_finish e) in
      let empty : ms ≡ [] = no-marks ms (waiting_items t.outbox) none in
      subst (λ (xs : List Mark). (sent_among xs k (sent m t)).committed ≡ left_after xs k) (sym empty)
      (ap (λ (th : Then). (follow th (record t { committed = drop 1 t.committed })).committed) e
      ∙ finish-empty t.server_close (record t { committed = drop 1 t.committed }) (ap (drop 1) h ∙ empty))
    where
      no-marks : (ms : List Mark) (is : List Item) → following ms is ≡ [] → ms ≡ []
      no-marks [] is h = refl
      no-marks (m ∷ ms) is h = absurd cc

module _ (m : Mark) (ms : List Mark) (n : ℕ) (t : Talk) where
  abbrev gone_on : Talk
  gone_on = sent_among ms (n - m.left) (sent m t)

  abbrev left_here : Talk
  left_here = record t { committed = record m { left = m.left - n } ∷ ms }

  one-left : (b : Bool) → gone_on.committed ≡ left_after ms (n - m.left)
      → (if b then gone_on else left_here).committed ≡ (if b then left_after ms (n - m.left) else record m { left = m.left - n } ∷ ms)
  one-left false h = refl
  one-left true h = h

-- on an open link the frames whose last byte was taken are no longer committed
open-committed : (ms : List Mark) (n : ℕ) (t : Talk) → t.committed ≡ ms → is_open t ≡ true → LastFinishes (following ms (waiting_items t.outbox))
    → (sent_among ms n t).committed ≡ left_after ms n
open-committed [] n t h opened last = h
open-committed (m ∷ ms) n t h opened last =
    ap (λ (x : Talk). x.committed) (if-true (is_open t) (if nat_le m.left n then gone_on m ms n t else left_here m ms n t) t opened)
    ∙ one-left m ms n t (nat_le m.left n)
    (sent-first m ms (n - m.left) t h opened last
    (λ still. open-committed ms (n - m.left) (sent m t) (sent-committed m ms t still h) still
    (subst (λ (is : List Item). LastFinishes (following ms is))
    (sym (sent-keeps (λ (x : Talk). waiting_items x.outbox) (λ t s l cs ps ns. refl) m t still)) last.1))
    m.then refl)

module _ (n : ℕ) (t : Talk) (opened : is_open t ≡ true) (last : LastFinishes (following t.committed (waiting_items t.outbox))) (within : n ≤ unsent t) where
  open-counted : (b : Bool) → (is_open t && not (n == 0)) ≡ b → unsent (taken n t) + n ≡ unsent t
  open-counted true h =
      let from : Talk = record t { last_write = t.present } in
      let left : left_in (taken n t).committed ≡ left_in t.committed - n =
      ap (λ (x : Talk). left_in x.committed) (if-true (is_open t && not (n == 0)) (sent_among t.committed n from) t h)
      ∙ ap left_in (open-committed t.committed n from refl opened last)
      ∙ left_in-left_after t.committed n in
      omega (arith, left, within)
  open-counted false h =
      let zero_is : (n == 0) ≡ true = other-false (is_open t) (n == 0) opened h in
      let none : n ≡ 0 = grind (arith, nat_tests) in
      let left : left_in (taken n t).committed ≡ left_in t.committed =
      ap (λ (x : Talk). left_in x.committed)
      (if-false (is_open t && not (n == 0)) (sent_among t.committed n (record t { last_write = t.present })) t h) in
      omega (arith, left, none)

-- what is taken is no longer unsent, where the link was open
pub open-taken : (n : ℕ) (t : Talk) → is_open t ≡ true → LastFinishes (following t.committed (waiting_items t.outbox)) → n ≤ unsent t
    → unsent (taken n t) + n ≡ unsent t
open-taken n t opened last within = open-counted n t opened last within (is_open t && not (n == 0)) refl
