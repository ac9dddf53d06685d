-- What each change of an open link's outbox and promises leaves of what it bears.
use Rattle.std.proofs.Common.{◌≡◌, ◌≢◌, ◌≤◌, ◌<◌, ◌⊎◌, inl, inr, ◌∙◌, ap, sym, subst, refl, ℕ, Bool, true, false, not, cond, if◌then◌else◌, List, [], ◌∷◌, ◌++◌, map, Option, Some, None, Result, append-nil, arith}
use Rattle.std.specs.Prelude.{filter, find, unwrap_or}
use Rattle.std.specs.Option.{option_map}
use Rattle.std.specs.List.{AllByRecursion}
use Rattle.std.specs.declared.cmp.Ordering.{Ordering}
use Rattle.std.specs.declared.cmp.Ordering.TheVariants.{Less, Equal, Greater}
use Rattle.std.specs.Ordering.{nat_cmp, match_ordering}
use Rattle.std.specs.BTreeMap.{is_at}
use Rattle.amqp_outbox.specs.declared.item.Item.{Item}
use Rattle.amqp_outbox.specs.declared.reply.Awaited.{Awaited}
use Rattle.amqp_outbox.specs.declared.reply.Reply.{Reply}
use Rattle.amqp_outbox.specs.Items.{promise_of_group}
use Rattle.amqp_outbox.specs.Lists.{without_first}
use Rattle.amqp_outbox.specs.Replies as replies
use Rattle.amqp_outbox.specs.Replies.{awaited_on, left_on, is_of, first_awaited}
use Rattle.amqp_outbox.specs.Queued.{Queued, only, pushed_control, with_awaited, without_awaited, awaited_promise, goes_with, is_on}
use Rattle.amqp_promise.specs.declared.error.ErrorKind.{ErrorKind}
use Rattle.amqp_promise.specs.declared.state.ConnectionState.{ConnectionState}
use Rattle.amqp_promise.specs.declared.state.ConnectionState.TheVariants.{Closing}
use Rattle.amqp_answers.specs.declared.answer.Answer.{Answer}
use Rattle.amqp_commands.specs.declared.command.Cmd.{Cmd}
use Rattle.amqp_commands.specs.declared.command.Cmd.TheVariants.{Send, Publish}
use Rattle.amqp_maps.specs.Listed.{at, put, without}
use Rattle.amqp_answers.specs.Settled.{Promises, settled_to}
use Rattle.amqp_rules.specs.Changes.{rejected, rejected_each, without_groups_of, without_groups, without_all_on, without_replies_on, promises_on, replies_on}
use Rattle.amqp_carried_rules.specs.CommandFrames.{is_send, is_publish, is_raw, is_sent}
use Rattle.amqp_carried_rules.proofs.Bearing.{command_at, carries, IsOther, NotIn, NotSent, to-sent, to-elsewhere, each-sent, each-elsewhere, rejected-is, Reading, floor, Lines, empty, besides, IsPart, IsPlain, Ends, AwaitsOthers, Bears, same-command, lines-map, lane-map, groups-map, part-map}
use Rattle.amqp_carried_rules.proofs.Queueing.{kinds-differ, lines-split, open-before, lane-plain, groups-differ, lane-differ, plain-differ, same-grows, groups-left, lane-left, plain-left}
use Rattle.amqp_types.proofs.Small.{all-push}

-- ---- awaited replies

-- what holds of all entries holds of them with one more, and without one
all-put : {Y : Type 0} (P : ℕ × Y → Type 0) (n : ℕ) (y : Y) (es : List (ℕ × Y)) → ((m : ℕ) → P (m, y)) → AllByRecursion P es → AllByRecursion P (put n y es)
all-put P n y [] one all = (one n, tt)
all-put P n y (e ∷ es) one all = by (nat_cmp n e.0) (all-put P n y es one all.1) where
  by : (r : Ordering) → AllByRecursion P (put n y es) → AllByRecursion P (match_ordering r ((n, y) ∷ e ∷ es) ((e.0, y) ∷ es) (e ∷ put n y es))
  by Less rest = (one n, all)
  by Equal rest = (one e.0, all.1)
  by Greater rest = (all.0, rest)

all-gone : {Y : Type 0} (P : ℕ × Y → Type 0) (n : ℕ) (es : List (ℕ × Y)) → AllByRecursion P es → AllByRecursion P (without n es)
all-gone P n [] all = tt
all-gone P n (e ∷ es) all = by (is_at (nat_cmp n) e.0) (all-gone P n es all.1) where
  by : (b : Bool) → AllByRecursion P (without n es) → AllByRecursion P (cond b es (e ∷ without n es))
  by true rest = all.1
  by false rest = (all.0, rest)

pub all-out : {A : Type 0} (P : A → Type 0) (p : A → Bool) (xs : List A) → AllByRecursion P xs → AllByRecursion P (without_first p xs)
all-out P p [] h = tt
all-out P p (x ∷ xs) h = by (p x) (all-out P p xs h.1) where
  by : (b : Bool) → AllByRecursion P (without_first p xs) → AllByRecursion P (if b then xs else x ∷ without_first p xs)
  by true rest = h.1
  by false rest = (h.0, rest)

all-found : {A : Type 0} (P : A → Type 0) (p : A → Bool) (xs : List A) (a : A) → AllByRecursion P xs → find p xs ≡ Some a → P a
all-found P p [] a h is = absurd cc
all-found P p (x ∷ xs) a h is = by (p x) (all-found P p xs a h.1) is where
  by : (b : Bool) → (find p xs ≡ Some a → P a) → cond b (Some x) (find p xs) ≡ Some a → P a
  by true rest is = let same : x ≡ a = cc in subst P same h.0
  by false rest is = rest is

abbrev pub AreOthers : List Cmd → List Awaited → Type 0
AreOthers cs list = AllByRecursion (λ (a : Awaited). IsOther cs a.promise) list

-- what is awaited on a channel
others-on : (cs : List Cmd) (n : ℕ) (ws : List (ℕ × List Awaited)) → AwaitsOthers cs ws → AreOthers cs (awaited_on n ws)
others-on cs n [] h = tt
others-on cs n (e ∷ ws) h = by (is_at (nat_cmp n) e.0) (others-on cs n ws h.1) where
  by : (b : Bool) → AreOthers cs (awaited_on n ws) → AreOthers cs (unwrap_or (cond b (Some e.1) (at n ws)) [])
  by true rest = h.0
  by false rest = rest

-- one more reply is awaited
pub awaits-expected : (cs : List Cmd) (n : ℕ) (a : Awaited) (ws : List (ℕ × List Awaited)) → IsOther cs a.promise → AwaitsOthers cs ws → AwaitsOthers cs (replies.expected n a ws)
awaits-expected cs n a ws other h =
    let all = all-push (λ (a : Awaited). IsOther cs a.promise) (awaited_on n ws) a (others-on cs n ws h) other in
    all-put (λ e. AreOthers cs e.1) n (awaited_on n ws ++ a ∷ []) ws (λ m. all) h

awaits-left : (cs : List Cmd) (n : ℕ) (list : List Awaited) (ws : List (ℕ × List Awaited)) → AreOthers cs list → AwaitsOthers cs ws → AwaitsOthers cs (left_on n list ws)
awaits-left cs n [] ws l h = all-gone (λ e. AreOthers cs e.1) n ws h
awaits-left cs n (a ∷ list) ws l h = all-put (λ e. AreOthers cs e.1) n (a ∷ list) ws (λ m. l) h

-- a reply came
awaits-answered : (cs : List Cmd) (n : ℕ) (reply : Reply) (ws : List (ℕ × List Awaited)) → AwaitsOthers cs ws → AwaitsOthers cs (replies.left_awaited n reply ws)
awaits-answered cs n reply ws h =
    awaits-left cs n (without_first (is_of reply) (awaited_on n ws)) ws (all-out (λ (a : Awaited). IsOther cs a.promise) (is_of reply) (awaited_on n ws) (others-on cs n ws h)) h

-- what awaits a reply is no command's with frames
pub awaited-other : (cs : List Cmd) (n : ℕ) (reply : Reply) (q : Queued) (promise : Option ℕ) → AwaitsOthers cs q.awaited → awaited_promise n reply q ≡ Some promise → IsOther cs promise
awaited-other cs n reply q promise h is = by (first_awaited n reply q.awaited) refl is where
  by : (o : Option Awaited) → first_awaited n reply q.awaited ≡ o → option_map (λ (a : Awaited). a.promise) o ≡ Some promise → IsOther cs promise
  by None found is = absurd cc
  by (Some a) found is =
      let same : a.promise ≡ promise = cc in
      subst (IsOther cs) same (all-found (λ (a : Awaited). IsOther cs a.promise) (is_of reply) (awaited_on n q.awaited) a (others-on cs n q.awaited h) found)

-- a command with frames is none of those whose replies are awaited
other-notin : (cs : List Cmd) (k : ℕ) (list : List Awaited) → carries (command_at cs k) ≡ true → AreOthers cs list → NotIn k (map (λ (a : Awaited). a.promise) list)
other-notin cs k [] h all = tt
other-notin cs k (a ∷ list) h all = (apart a.promise all.0, other-notin cs k list h all.1) where
  apart : (o : Option ℕ) → IsOther cs o → o ≢ Some k
  apart None other is = cc
  apart (Some j) other is = let same : j ≡ k = cc in let no : carries (command_at cs k) ≡ false = ap (λ m. carries (command_at cs m)) (sym same) ∙ other.1 in cc

notin-append : (k : ℕ) (xs ys : List (Option ℕ)) → NotIn k xs → NotIn k ys → NotIn k (xs ++ ys)
notin-append k [] ys h g = g
notin-append k (x ∷ xs) ys h g = (h.0, notin-append k xs ys h.1 g)

filter-all : {A : Type 0} (xs : List A) → filter (λ x. true) xs ≡ xs
filter-all [] = refl
filter-all (x ∷ xs) = ap (λ ys. x ∷ ys) (filter-all xs)

filter-none : {A : Type 0} (xs : List A) → filter (λ x. false) xs ≡ []
filter-none [] = refl
filter-none (x ∷ xs) = filter-none xs

-- ---- apart

-- from which number on the next of a kind is
pub floor-publish : (c : Cmd) (r : Reading) → is_publish c ≡ true → floor c r ≡ r.publishes
floor-publish (Publish a b x y) r h = refl
floor-publish _ r h = absurd cc

pub floor-send : (c : Cmd) (r : Reading) → is_send c ≡ true → floor c r ≡ r.sends
floor-send (Send a b) r h = refl
floor-send _ r h = absurd cc

-- the numbers of a kind from one on are not one below it, nor one of another kind
kind-apart : (is_kind : Cmd → Bool) (cs : List Cmd) (n : ℕ) (c : Cmd) (k : ℕ) → command_at cs k ≡ Some c → (is_kind c ≡ true → k < n)
    → (j : ℕ) (d : Cmd) → command_at cs j ≡ Some d → is_kind d ≡ true → n ≤ j → j ≢ k
kind-apart is_kind cs n c k told below j d told_d kind le e =
    let same : d ≡ c = same-command cs j k d c told_d told e in
    let less : k < n = below (ap is_kind (sym same) ∙ kind) in
    omega (arith, e, le, less)

-- ---- each change

module _ (cs : List Cmd) (r : Reading) (left : List Item) (ps : Promises) (state : ConnectionState) where
  abbrev Now : Queued → Type 0
  Now q = Bears cs r left q ps state

  -- a frame that is not passed through goes last into the control lane
  pub bears-push : (q : Queued) (i : Item) → is_raw i.frame ≡ false → i.promise ≡ None → Now q → Now (pushed_control i q)
  bears-push q i a b h = record { last = h.last; lines = h.lines; ends = ends h.ends; awaited = h.awaited } where
    ends : Ends cs ps state q.control q.publish h.last → Ends cs ps state (q.control ++ i ∷ []) q.publish h.last
    ends (inl x) = inl (x.0, lane-plain cs ps h.last.sends q.control i a b x.1, x.2)
    ends (inr x) = inr (x.0, all-push IsPlain q.control i x.1 (a, b), x.2, x.3)

  -- one more reply is awaited
  pub bears-expected : (q : Queued) (n : ℕ) (a : Awaited) → IsOther cs a.promise → Now q → Now (with_awaited n a q)
  bears-expected q n a other h = record { last = h.last; lines = h.lines; ends = h.ends; awaited = awaits-expected cs n a q.awaited other h.awaited }

  -- a reply came
  pub bears-answered : (q : Queued) (n : ℕ) (reply : Reply) → Now q → Now (without_awaited n reply q)
  bears-answered q n reply h = record { last = h.last; lines = h.lines; ends = h.ends; awaited = awaits-answered cs n reply q.awaited h.awaited }

  -- some groups and some frames of the lane go, and their promises are answered
  pub bears-drop : (q : Queued) (p : List Item → Bool) (c : Item → Bool) (ws : List (ℕ × List Awaited)) (ps' : Promises) → AwaitsOthers cs ws
      → ((n : ℕ) → is_sent (at n ps') ≡ is_sent (at n ps))
      → ((k : ℕ) → carries (command_at cs k) ≡ true → NotIn k (map promise_of_group (filter p q.publish)) → NotIn k (map (λ (i : Item). i.promise) (filter c q.control)) → at k ps' ≡ at k ps)
      → Now q
      → Bears cs r left (record { control = filter (λ i. not (c i)) q.control; publish = filter (λ g. not (p g)) q.publish; begun = q.begun; awaited = ws }) ps' state
  bears-drop q p c ws ps' others sent stays h =
      record { last = h.last; lines = by-lines h.ends; ends = by-ends h.ends; awaited = others } where
        waits : (d : Cmd) (k : ℕ) → command_at cs k ≡ Some d → carries (Some d) ≡ true → NotIn k (map promise_of_group (filter p q.publish)) → NotIn k (map (λ (i : Item). i.promise) (filter c q.control))
            → at k ps ≡ Some None → at k ps' ≡ Some None
        waits d k told carry a b w = stays k (ap carries told ∙ carry) a b ∙ w

        none-there : (k : ℕ) (gs : List (List Item)) → gs ≡ [] → NotIn k (map promise_of_group (filter p gs))
        none-there k gs is = (let N : List (List Item) → Type 0 = λ gs. NotIn k (map promise_of_group (filter p gs)) in subst N (sym is) tt)

        carried : (d : Cmd) → (is_send d ≡ true) ⊎ (is_publish d ≡ true) → carries (Some d) ≡ true
        carried (Send a b) h = refl
        carried (Publish a b x y) h = refl
        carried _ (inl h) = absurd cc
        carried _ (inr h) = absurd cc

        by-lines : Ends cs ps state q.control q.publish h.last → Lines cs ps' r (left ++ q.begun) h.last
        by-lines (inl x) =
            lines-map cs cs ps ps' (same-grows cs) r (left ++ q.begun) h.last h.lines
            (λ d k told carry below w.
            waits d k told carry
            (groups-differ cs ps k p h.last.publishes q.publish x.2 (kind-apart is_publish cs h.last.publishes d k told (λ is. omega (arith, below, floor-publish d h.last is))))
            (lane-differ cs ps k c h.last.sends q.control x.1 (kind-apart is_send cs h.last.sends d k told (λ is. omega (arith, below, floor-send d h.last is)))) w)
        by-lines (inr x) =
            lines-map cs cs ps ps' (same-grows cs) r (left ++ q.begun) h.last h.lines
            (λ d k told carry below w. waits d k told carry (none-there k q.publish x.2) (plain-differ k c q.control x.1) w)

        by-ends : Ends cs ps state q.control q.publish h.last → Ends cs ps' state (filter (λ i. not (c i)) q.control) (filter (λ g. not (p g)) q.publish) h.last
        by-ends (inl x) =
            inl (
              x.0,
              lane-left cs ps ps' c h.last.sends q.control x.1
                  (λ k d told is le out w.
                  waits d k told (carried d (inl is))
                  (groups-differ cs ps k p h.last.publishes q.publish x.2 (kind-apart is_publish cs h.last.publishes d k told (λ other. absurd (kinds-differ d is other)))) out w),
              groups-left cs ps ps' p h.last.publishes q.publish x.2
                  (λ k d told is le out w.
                  waits d k told (carried d (inr is)) out
                  (lane-differ cs ps k c h.last.sends q.control x.1 (kind-apart is_send cs h.last.sends d k told (λ other. absurd (kinds-differ d other is)))) w),
            )
        by-ends (inr x) =
            inr (x.0, plain-left (λ i. not (c i)) q.control x.1, ap (filter (λ g. not (p g))) x.2, part-map cs cs ps ps' (same-grows cs) h.last x.3 (λ k le. sent k))

  -- promises change that are no commands' with frames
  pub bears-spares : (q : Queued) (ps' : Promises) → ((n : ℕ) → is_sent (at n ps') ≡ is_sent (at n ps)) → ((k : ℕ) → carries (command_at cs k) ≡ true → at k ps' ≡ at k ps) → Now q
      → Bears cs r left q ps' state
  bears-spares q ps' sent stays h =
      record {
        last = h.last;
        lines = lines-map cs cs ps ps' (same-grows cs) r (left ++ q.begun) h.last h.lines (λ d k told carry below w. stays k (ap carries told ∙ carry) ∙ w);
        ends = ends h.ends;
        awaited = h.awaited;
      } where
        ends : Ends cs ps state q.control q.publish h.last → Ends cs ps' state q.control q.publish h.last
        ends (inl x) =
            inl (
              x.0,
              lane-map cs cs ps ps' (same-grows cs) h.last.sends q.control x.1 (λ d k told carry w. stays k (ap carries told ∙ carry) ∙ w),
              groups-map cs cs ps ps' (same-grows cs) h.last.publishes q.publish x.2 (λ d k told carry w. stays k (ap carries told ∙ carry) ∙ w),
            )
        ends (inr x) = inr (x.0, x.1, x.2, part-map cs cs ps ps' (same-grows cs) h.last x.3 (λ k le. sent k))

  -- a promise that is no command's with frames is answered
  pub bears-give : (q : Queued) (o : Option ℕ) (x : Result Answer ErrorKind) → IsOther cs o → NotSent x → Now q → Bears cs r left q (settled_to o x ps) state
  bears-give q o x other is h = bears-spares q (settled_to o x ps) (λ n. to-sent n o x ps is) (λ k carry. to-elsewhere k o x ps (apart o other k carry)) h where
    apart : (o : Option ℕ) → IsOther cs o → (k : ℕ) → carries (command_at cs k) ≡ true → o ≢ Some k
    apart None other k carry is = cc
    apart (Some j) other k carry is = let same : j ≡ k = cc in let no : carries (command_at cs k) ≡ false = ap (λ m. carries (command_at cs m)) (sym same) ∙ other.1 in cc

  -- the groups of a channel go
  pub bears-groups-of : (q : Queued) (n : ℕ) (e : ErrorKind) → Now q → Bears cs r left (without_groups_of n q) (rejected e (filter (is_on n) q.publish) ps) state
  bears-groups-of q n e h =
      let os = map promise_of_group (filter (is_on n) q.publish) in
      let P : Promises → Type 0 = λ ps'. Bears cs r left (without_groups_of n q) ps' state in
      let Q : List Item → Type 0 = λ control. Bears cs r left (record { control = control; publish = filter (λ g. not (is_on n g)) q.publish; begun = q.begun; awaited = q.awaited }) (rejected_each e os ps) state in
      subst P (sym (rejected-is e (filter (is_on n) q.publish) ps))
      (subst Q (filter-all q.control)
      (bears-drop q (is_on n) (λ i. false) q.awaited (rejected_each e os ps) h.awaited (λ k. each-sent k e os ps) (λ k carry a b. each-elsewhere k e os ps a) h))

  -- all groups go
  pub bears-groups : (q : Queued) (e : ErrorKind) → Now q → Bears cs r left (without_groups q) (rejected e q.publish ps) state
  bears-groups q e h =
      let os = map promise_of_group (filter (λ g. true) q.publish) in
      let same : rejected_each e os ps ≡ rejected e q.publish ps = ap (λ gs. rejected_each e (map promise_of_group gs) ps) (filter-all q.publish) ∙ sym (rejected-is e q.publish ps) in
      let P : Promises → Type 0 = λ ps'. Bears cs r left (without_groups q) ps' state in
      let Q : List Item → Type 0 = λ control. Bears cs r left (record { control = control; publish = []; begun = q.begun; awaited = q.awaited }) (rejected_each e os ps) state in
      let R : List (List Item) → Type 0 = λ publish. Bears cs r left (record { control = filter (λ i. true) q.control; publish = publish; begun = q.begun; awaited = q.awaited }) (rejected_each e os ps) state in
      subst P same
      (subst Q (filter-all q.control)
      (subst R (filter-none q.publish)
      (bears-drop q (λ g. true) (λ i. false) q.awaited (rejected_each e os ps) h.awaited (λ k. each-sent k e os ps) (λ k carry a b. each-elsewhere k e os ps a) h)))

  -- the replies that are awaited on a channel go
  pub bears-replies : (q : Queued) (n : ℕ) (e : ErrorKind) → Now q → Bears cs r left (without_replies_on n q) (rejected_each e (replies_on n q) ps) state
  bears-replies q n e h =
      let x : Bears cs r left q (rejected_each e (replies_on n q) ps) state =
      bears-spares q (rejected_each e (replies_on n q) ps) (λ k. each-sent k e (replies_on n q) ps)
      (λ k carry. each-elsewhere k e (replies_on n q) ps (other-notin cs k (awaited_on n q.awaited) carry (others-on cs n q.awaited h.awaited))) h in
      record { last = x.last; lines = x.lines; ends = x.ends; awaited = all-gone (λ e. AreOthers cs e.1) n q.awaited h.awaited }

  -- all goes that goes with a channel
  pub bears-channel : (q : Queued) (n : ℕ) (e : ErrorKind) → Now q → Bears cs r left (without_all_on n q) (rejected_each e (promises_on n q) ps) state
  bears-channel q n e h =
      let os = promises_on n q in
      bears-drop q (is_on n) (goes_with n) (without n q.awaited) (rejected_each e os ps) (all-gone (λ e. AreOthers cs e.1) n q.awaited h.awaited) (λ k. each-sent k e os ps)
      (λ k carry a b.
      each-elsewhere k e os ps
      (notin-append k (map promise_of_group (filter (is_on n) q.publish) ++ map (λ (i : Item). i.promise) (filter (goes_with n) q.control)) (replies_on n q)
      (notin-append k (map promise_of_group (filter (is_on n) q.publish)) (map (λ (i : Item). i.promise) (filter (goes_with n) q.control)) a b)
      (other-notin cs k (awaited_on n q.awaited) carry (others-on cs n q.awaited h.awaited)))) h

  -- after the server's close nothing waits but our answer
  pub bears-over : (q : Queued) (i : Item) → is_raw i.frame ≡ false → i.promise ≡ None → Now q → Bears cs r left (only i) ps Closing
  bears-over q i a b h =
      let m = lines-split cs ps r left q.begun h.last h.lines in
      let P : List Item → Type 0 = λ items. Lines cs ps r items m.0 in
      record { last = m.0; lines = subst P (sym (append-nil left)) m.1; ends = ends (open-before cs ps m.0 q.begun h.last m.2 (well h.ends)); awaited = tt } where
        well : Ends cs ps state q.control q.publish h.last → (h.last.part ≡ []) ⊎ IsPart cs ps h.last
        well (inl x) = inl x.0
        well (inr x) = inr x.3

        ends : {m : Reading} → (m.part ≡ []) ⊎ IsPart cs ps m → Ends cs ps Closing (i ∷ []) [] m
        ends (inl e) = inl (e, besides a b empty, tt)
        ends (inr e) = inr (refl, ((a, b), tt), refl, e)

  -- what was sent so far of the link
  pub bears-open-part : (q : Queued) → Now q → (r.part ≡ []) ⊎ IsPart cs ps r
  bears-open-part q h = open-before cs ps r (left ++ q.begun) h.last h.lines (well h.ends) where
    well : Ends cs ps state q.control q.publish h.last → (h.last.part ≡ []) ⊎ IsPart cs ps h.last
    well (inl x) = inl x.0
    well (inr x) = inr x.3
