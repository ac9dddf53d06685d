-- How many close-oks of channels are on their way, once frames are queued, committed, sent, and lost with a channel.
use Rattle.std.proofs.Common.{◌≡◌, ◌≢◌, ◌∙◌, ap, sym, refl, subst, ℕ, zero, suc, ◌+◌, ◌==◌, not, if◌then◌else◌, Bool, true, false, List, [], ◌∷◌, ◌++◌, Option, Some, None, arith}
use Rattle.std.proofs.lemmas.List.Sums.{sum_by-cons, sum_by-append}
use Rattle.std.specs.Prelude.{filter}
use Rattle.std.specs.List.{AllByRecursion}
use Rattle.amqp_frame.specs.declared.frame.Frame.{Frame}
use Rattle.amqp_frame.specs.declared.frame.Frame.TheVariants.{Method, Raw}
use Rattle.amqp_frame.specs.declared.frame.RawKind.TheVariants.{RawMethod, Header}
use Rattle.amqp_frame.specs.declared.method.Method.TheVariants.{ChannelCloseOk}
use Rattle.amqp_outbox.specs.declared.item.Item.{Item}
use Rattle.amqp_outbox.specs.Items.{plain_item, outlives}
use Rattle.amqp_outbox.specs.Lists.{is_the_number}
use Rattle.amqp_outbox.specs.Queued.{Queued, pushed_control, goes_with}
use Rattle.amqp_outgoing.specs.declared.committed.Mark.{Mark}
use Rattle.amqp_outgoing.specs.declared.committed.Then.{Then}
use Rattle.amqp_outgoing.specs.declared.committed.Then.TheVariants.{Finish}
use Rattle.amqp_settings.specs.Handshake.{channel_close_ok}
use Rattle.amqp_legal.specs.Legal.{body_frames}
use Rattle.amqp_outgoing.specs.Marks.{answers, then_by, then_of, is_close_ok, mark_of}
use Rattle.amqp_types.proofs.Small.{if_case, same-number, other-number, the-number}
use Rattle.amqp_legal_rules.proofs.Ties.{frames_in, first_out, channel_in, IsOfControl, pays, paying, to_pay, unpaid}

-- ---- one frame

-- any frame but a close-ok of a channel
abbrev pub IsNoPayment : Frame → Type 0
IsNoPayment (Method n ChannelCloseOk) = ⊥
IsNoPayment _ = Unit {0}

answers-none : (promise : Option ℕ) (n : ℕ) → pays n (answers promise) ≡ 0
answers-none None n = refl
answers-none (Some number) n = refl

-- it pays for no channel
pub pays-none : (item : Item) (n : ℕ) → IsNoPayment item.frame → pays n (then_of item) ≡ 0
pays-none item n h =
    if_case (λ (th : Then). pays n th ≡ 0) (is_close_ok item.frame) Finish (then_by item.frame item.promise) refl (by item.frame item.promise h)
  where
    by : (f : Frame) (promise : Option ℕ) → IsNoPayment f → pays n (then_by f promise) ≡ 0
    by (Method m ChannelCloseOk) promise h = absurd h
    by f promise h = answers-none promise n

-- one on another channel does not pay for this one
pays-other : (item : Item) (n : ℕ) → channel_in item.frame ≢ n → pays n (then_of item) ≡ 0
pays-other item n ne =
    if_case (λ (th : Then). pays n th ≡ 0) (is_close_ok item.frame) Finish (then_by item.frame item.promise) refl (by item.frame item.promise ne)
  where
    by : (f : Frame) (promise : Option ℕ) → channel_in f ≢ n → pays n (then_by f promise) ≡ 0
    by (Method m ChannelCloseOk) promise ne = ap (λ b. if b then 1 else 0) (other-number m n ne)
    by f promise ne = answers-none promise n

-- our close-ok pays for its channel
pub pays-own : (n : ℕ) → pays n (then_of (plain_item n (channel_close_ok n))) ≡ 1
pays-own zero = refl
pays-own (suc n) = ap (λ b. if b then 1 else 0) (same-number (suc n))

pub pays-others : (m n : ℕ) → m ≢ n → pays m (then_of (plain_item n (channel_close_ok n))) ≡ 0
pays-others m n ne = pays-other (plain_item n (channel_close_ok n)) m (λ is. ne (sym is))

-- a frame that does not pay for its channel is no close-ok of it
pub no-payment : (item : Item) (k : ℕ) → channel_in item.frame ≡ suc k → pays (suc k) (then_of item) ≡ 0 → IsNoPayment item.frame
no-payment item k on none = by item.frame item.promise on none where
  by : (f : Frame) (promise : Option ℕ) → channel_in f ≡ suc k → pays (suc k) (if is_close_ok f then Finish else then_by f promise) ≡ 0 → IsNoPayment f
  by (Method zero ChannelCloseOk) promise on none = absurd cc
  by (Method (suc m) ChannelCloseOk) promise on none =
      let one : 1 ≡ 0 = ap (λ b. if b then 1 else 0) (sym (ap (λ i. i == suc k) on ∙ same-number (suc k))) ∙ none in absurd (omega (arith, one))
  by f promise on none = tt

-- ---- frames that wait

-- one more
pub one-more : (n : ℕ) (marks : List Mark) (q : Queued) (item : Item) → unpaid marks (first_out (pushed_control item q)) n ≡ unpaid marks (first_out q) n + pays n (then_of item)
one-more n marks q item =
    let w : Item → ℕ = λ (i : Item). pays n (then_of i) in
    let a : to_pay (q.begun ++ (q.control ++ item ∷ [])) n ≡ to_pay q.begun n + to_pay (q.control ++ item ∷ []) n = sum_by-append w q.begun (q.control ++ item ∷ []) in
    let b : to_pay (q.control ++ item ∷ []) n ≡ to_pay q.control n + to_pay (item ∷ []) n = sum_by-append w q.control (item ∷ []) in
    let c : to_pay (q.begun ++ q.control) n ≡ to_pay q.begun n + to_pay q.control n = sum_by-append w q.begun q.control in
    let d : to_pay (item ∷ []) n ≡ pays n (then_of item) + 0 = sum_by-cons w item [] in
    omega (arith, a, b, c, d)

-- that pays for no channel
pub none-more : (marks : List Mark) (q : Queued) (item : Item) → IsNoPayment item.frame → (n : ℕ) → unpaid marks (first_out (pushed_control item q)) n ≡ unpaid marks (first_out q) n
none-more marks q item h n =
    let one = one-more n marks q item in
    let none : pays n (then_of item) ≡ 0 = pays-none item n h in omega (arith, one, none)

-- the first is committed
pub moved-on : (marks : List Mark) (item : Item) (items : List Item) (n : ℕ) → unpaid (marks ++ mark_of item ∷ []) items n ≡ unpaid marks (item ∷ items) n
moved-on marks item items n =
    let w : Item → ℕ = λ (i : Item). pays n (then_of i) in
    let u : Mark → ℕ = λ (m : Mark). pays n m.then in
    let a : paying (marks ++ mark_of item ∷ []) n ≡ paying marks n + paying (mark_of item ∷ []) n = sum_by-append u marks (mark_of item ∷ []) in
    let b : paying (mark_of item ∷ []) n ≡ pays n (then_of item) + 0 = sum_by-cons u (mark_of item) [] in
    let c : to_pay (item ∷ items) n ≡ pays n (then_of item) + to_pay items n = sum_by-cons w item items in
    omega (arith, a, b, c)

-- the first that was committed is sent
pub sent-off : (m : Mark) (marks : List Mark) (items : List Item) (n : ℕ) → unpaid (m ∷ marks) items n ≡ pays n m.then + unpaid marks items n
sent-off m marks items n =
    let a : paying (m ∷ marks) n ≡ pays n m.then + paying marks n = sum_by-cons (λ (m : Mark). pays n m.then) m marks in
    omega (arith, a)

-- ---- groups

abbrev IsRaw : Frame → Type 0
IsRaw (Raw n kind bytes) = Unit {0}
IsRaw _ = ⊥

raw-pays-none : (f : Frame) → IsRaw f → IsNoPayment f
raw-pays-none (Raw n kind bytes) h = tt
raw-pays-none _ h = absurd h

raw-waits : (items : List Item) (frames : List Frame) (n : ℕ) → frames_in items ≡ frames → AllByRecursion IsRaw frames → to_pay items n ≡ 0
raw-waits [] frames n is all = refl
raw-waits (item ∷ items) [] n is all = absurd cc
raw-waits (item ∷ items) (f ∷ frames) n is all =
    let same : item.frame ≡ f = cc in
    let rest : frames_in items ≡ frames = cc in
    let raw : IsRaw item.frame = (let Q : Frame → Type 0 = IsRaw in subst Q (sym same) all.0) in
    let a : to_pay (item ∷ items) n ≡ pays n (then_of item) + to_pay items n = sum_by-cons (λ (i : Item). pays n (then_of i)) item items in
    let b : pays n (then_of item) ≡ 0 = pays-none item n (raw-pays-none item.frame raw) in
    let c : to_pay items n ≡ 0 = raw-waits items frames n rest all.1 in
    omega (arith, a, b, c)

bodies-raw : (n : ℕ) (bodies : List (List ℕ)) → AllByRecursion IsRaw (body_frames n bodies)
bodies-raw n [] = tt
bodies-raw n (body ∷ bodies) = (tt, bodies-raw n bodies)

-- the frames of a group pay for no channel
pub group-pays-none : (items : List Item) (channel : ℕ) (method head : List ℕ) (bodies : List (List ℕ)) (n : ℕ)
    → frames_in items ≡ Raw channel RawMethod method ∷ Raw channel Header head ∷ body_frames channel bodies → to_pay items n ≡ 0
group-pays-none items channel method head bodies n is =
    raw-waits items (Raw channel RawMethod method ∷ Raw channel Header head ∷ body_frames channel bodies) n is (tt, (tt, bodies-raw channel bodies))

-- ---- frames that go with a channel

-- the control lane without them
abbrev pub left_in_lane : ℕ → List Item → List Item
left_in_lane n items = filter (λ item. not (goes_with n item)) items

-- what goes is on the channel, and neither opens nor closes it
pub goes-on : (n : ℕ) (item : Item) → goes_with n item ≡ true → (item.channel ≡ n) × (outlives item.frame ≡ false)
goes-on n item h = by (outlives item.frame) refl h where
  by : (b : Bool) → outlives item.frame ≡ b → is_the_number n (if b then None else Some item.channel) ≡ true → (item.channel ≡ n) × (outlives item.frame ≡ false)
  by true is h = absurd cc
  by false is h = (the-number item.channel n h, is)

-- those of other channels stay
others-wait : (m n : ℕ) (items : List Item) → m ≢ n → AllByRecursion IsOfControl items → to_pay (left_in_lane n items) m ≡ to_pay items m
others-wait m n [] ne all = refl
others-wait m n (item ∷ items) ne all = by (goes_with n item) refl (others-wait m n items ne all.1) where
  by : (b : Bool) → goes_with n item ≡ b → to_pay (left_in_lane n items) m ≡ to_pay items m
      → to_pay (if not b then item ∷ left_in_lane n items else left_in_lane n items) m ≡ to_pay (item ∷ items) m
  by true is rest =
      let on : channel_in item.frame ≡ n = sym all.0.1 ∙ (goes-on n item is).0 in
      let a : to_pay (item ∷ items) m ≡ pays m (then_of item) + to_pay items m = sum_by-cons (λ (i : Item). pays m (then_of i)) item items in
      let b : pays m (then_of item) ≡ 0 = pays-other item m (λ k. ne (sym k ∙ on)) in
      omega (arith, a, b, rest)
  by false is rest =
      let a : to_pay (item ∷ items) m ≡ pays m (then_of item) + to_pay items m = sum_by-cons (λ (i : Item). pays m (then_of i)) item items in
      let b : to_pay (item ∷ left_in_lane n items) m ≡ pays m (then_of item) + to_pay (left_in_lane n items) m =
      sum_by-cons (λ (i : Item). pays m (then_of i)) item (left_in_lane n items) in
      omega (arith, a, b, rest)

-- where none of this channel waits, none is left
none-waits : (n : ℕ) (items : List Item) → to_pay items n ≡ 0 → to_pay (left_in_lane n items) n ≡ 0
none-waits n [] h = refl
none-waits n (item ∷ items) h =
    let a : to_pay (item ∷ items) n ≡ pays n (then_of item) + to_pay items n = sum_by-cons (λ (i : Item). pays n (then_of i)) item items in
    let first : pays n (then_of item) ≡ 0 = omega (arith, a, h) in
    let c : to_pay (left_in_lane n items) n ≡ 0 = none-waits n items (omega (arith, a, h)) in
    let b : to_pay (item ∷ left_in_lane n items) n ≡ pays n (then_of item) + to_pay (left_in_lane n items) n =
    sum_by-cons (λ (i : Item). pays n (then_of i)) item (left_in_lane n items) in
    let whole : to_pay (item ∷ left_in_lane n items) n ≡ 0 = omega (arith, b, c, first) in
    if_case (λ (is : List Item). to_pay is n ≡ 0) (not (goes_with n item)) (item ∷ left_in_lane n items) (left_in_lane n items) whole c

-- what is on its way, once the frames of a channel are gone
pub others-unpaid : (m n : ℕ) (marks : List Mark) (begun control : List Item) → m ≢ n → AllByRecursion IsOfControl control
    → unpaid marks (begun ++ left_in_lane n control) m ≡ unpaid marks (begun ++ control) m
others-unpaid m n marks begun control ne all =
    let w : Item → ℕ = λ (i : Item). pays m (then_of i) in
    let a : to_pay (begun ++ left_in_lane n control) m ≡ to_pay begun m + to_pay (left_in_lane n control) m = sum_by-append w begun (left_in_lane n control) in
    let b : to_pay (begun ++ control) m ≡ to_pay begun m + to_pay control m = sum_by-append w begun control in
    let c = others-wait m n control ne all in
    omega (arith, a, b, c)

pub lane-pays-none : (n : ℕ) (marks : List Mark) (begun control : List Item) → unpaid marks (begun ++ control) n ≡ 0 → to_pay control n ≡ 0
lane-pays-none n marks begun control h =
    let b : to_pay (begun ++ control) n ≡ to_pay begun n + to_pay control n = sum_by-append (λ (i : Item). pays n (then_of i)) begun control in
    omega (arith, b, h)

pub none-unpaid : (n : ℕ) (marks : List Mark) (begun control : List Item) → unpaid marks (begun ++ control) n ≡ 0 → unpaid marks (begun ++ left_in_lane n control) n ≡ 0
none-unpaid n marks begun control h =
    let w : Item → ℕ = λ (i : Item). pays n (then_of i) in
    let a : to_pay (begun ++ left_in_lane n control) n ≡ to_pay begun n + to_pay (left_in_lane n control) n = sum_by-append w begun (left_in_lane n control) in
    let b : to_pay (begun ++ control) n ≡ to_pay begun n + to_pay control n = sum_by-append w begun control in
    let c = none-waits n control (lane-pays-none n marks begun control h) in
    omega (arith, a, b, c, h)

-- the frames of the lane that are left are of the control lane
pub lane-left : (n : ℕ) (items : List Item) → AllByRecursion IsOfControl items → AllByRecursion IsOfControl (left_in_lane n items)
lane-left n [] all = tt
lane-left n (item ∷ items) all =
    if_case (AllByRecursion IsOfControl) (not (goes_with n item)) (item ∷ left_in_lane n items) (left_in_lane n items)
    (all.0, lane-left n items all.1) (lane-left n items all.1)
