-- The turn by which a message is published on an open channel: all of its frames go out at once.
use Rattle.std.proofs.Common.{◌≡◌, ◌<◌, ◌*◌, ◌≤◌, ◌⊎◌, inl, inr, ℕ, zero, suc, ◌+◌, ◌-◌, not, nat_le, nat_lt, if◌then◌else◌, true, List, [], ◌∷◌, ◌++◌, length, take, drop, length-append, append_assoc, append-nil, Option, Some, None, Ok, refl, ap, sym, ◌∙◌, subst, arith}
use Rattle.std.specs.Prelude.{map, find, option_to_list}
use Rattle.std.specs.List.{AllByRecursion}
use Rattle.std.proofs.lemmas.List.{take_all}
use Rattle.std.proofs.lemmas.Bool.Decides.{nat_tests}
use Rattle.amqp_types.proofs.Small.{if-true, if-false, is-at-most, not-below, other-number}
use Rattle.amqp_types.specs.declared.word.Word.TheVariants as word
use Rattle.amqp_frame.specs.declared.frame.Frame.{Frame}
use Rattle.amqp_frame.specs.declared.frame.Frame.TheVariants.{Raw}
use Rattle.amqp_frame.specs.declared.frame.RawKind.{RawKind}
use Rattle.amqp_frame.specs.declared.frame.RawKind.TheVariants.{RawMethod, Header, Body}
use Rattle.amqp_frame.specs.Frames.{encoding, type_of}
use Rattle.amqp_frame.specs.RawMethods.{OtherMethod, spell_raw_method}
use Rattle.amqp_frame.proofs.Texts.{length-spell_framed}
use Rattle.amqp_outbox.specs.declared.item.Item.{Item}
use Rattle.amqp_outbox.specs.Items.{plain_item, group_of, size_of}
use Rattle.amqp_outbox.specs.Queued.{nothing_queued, next_item, after_next}
use Rattle.amqp_promise.specs.declared.state.ConnectionState.TheVariants.{Connected}
use Rattle.amqp_promise.specs.declared.state.ChannelState.TheVariants as channel
use Rattle.amqp_channels.specs.declared.channels.Channel.{Channel}
use Rattle.amqp_outgoing.specs.declared.committed.Mark.{Mark}
use Rattle.amqp_outgoing.specs.declared.committed.Then.{Then}
use Rattle.amqp_outgoing.specs.declared.committed.Then.TheVariants.{Nothing, Answer}
use Rattle.amqp_answers.specs.declared.answer.Answer.TheVariants.{Sent}
use Rattle.amqp_commands.specs.declared.command.Cmd.TheVariants.{Publish}
use Rattle.amqp_maps.specs.Listed.{at, put}
use Rattle.amqp_rules.specs.Talk.{Talk}
use Rattle.amqp_channels.specs.Channels.{all_flow}
use Rattle.amqp_answers.specs.Settled.{Promises, settled}
use Rattle.amqp_commands.specs.Publishing.{content_header, cut, body_pieces, publish_frames}
use Rattle.amqp_rules.specs.Commands.{named_in, target_in, target_by, too_long, unless_too_long, too_full, unless_full, publish_target, queue_publish}
use Rattle.amqp_rules.specs.Writing.{fitting, committed_as, overlong, follow, sent, sent_among, frames_waiting}
use Rattle.amqp_outgoing.specs.Marks.{mark_of, then_of, answers}
use Rattle.amqp_engine.specs.declared.given.GivenStep.TheVariants.{Command}
use Rattle.amqp_engine.specs.Plan.{coming_of}
use Rattle.amqp_engine.specs.Engine.{Engine, fitting_next, committed_with_bytes, commit_one, commits, commit_all, overlong_next, can_write, settle, took}
use Rattle.amqp_engine.specs.Turn.{Progress, offered}
use Rattle.amqp_engine.specs.Sending.{committed_in, committed_before, encodings, frames}
use Rattle.amqp_engine.proofs.Commits.{encoding-some}
use Rattle.amqp_generated.proofs.Turning.{IsIdle, Turns, offer-turn}
use Rattle.amqp_generated.proofs.OpenSession.{talk_in, engine_in, resting, now, can-write, resting-idle}

is-below : (m n : ℕ) → m < n → nat_lt m n ≡ true
is-below m n h = grind (arith, nat_tests, h)

-- ---- frames that are passed through

-- a frame that is passed through, of at most 9999 octets
pub record IsPassed (f : Frame) : Type 0 where
  pub channel : ℕ
  pub kind : RawKind
  pub payload : List ℕ
  pub is : f ≡ Raw channel kind payload
  pub short : length payload ≤ 9991

pub passed-size : (f : Frame) → IsPassed f → length (encoding f) ≤ 9999
passed-size f h =
    let size = length-spell_framed (type_of h.kind) h.channel h.payload in
    let same : length (encoding f) ≡ length h.payload + 8 = ap (λ x. length (encoding x)) h.is ∙ size in
    let most = h.short in
    omega (arith, same, most)

-- none is too long
none-too-long : (fs : List Frame) → AllByRecursion IsPassed fs → find (λ frame. nat_lt 4194304 (length (encoding frame))) fs ≡ None
none-too-long [] h = refl
none-too-long (f ∷ fs) h =
    let small = passed-size f h.0 in
    if-false (nat_lt 4194304 (length (encoding f))) (Some f) (find (λ frame. nat_lt 4194304 (length (encoding frame))) fs)
    (not-below 4194304 (length (encoding f)) (omega (arith, small)))
    ∙ none-too-long fs h.1

-- what follows once such a frame was sent: nothing, or the answer of a promise
abbrev Answers : Then → Type 0
Answers x = (x ≡ Nothing) ⊎ ((number : ℕ) × (x ≡ Answer number))

answers-then : (promise : Option ℕ) → Answers (answers promise)
answers-then None = inl refl
answers-then (Some number) = inr (number, refl)

passed-then : (i : Item) → IsPassed i.frame → Answers (then_of i)
passed-then i h =
    let made : Frame → Item = λ f. record i { frame = f } in
    let P : Frame → Type 0 = λ f. Answers (then_of (made f)) in
    subst P (sym h.is) (answers-then i.promise)

-- ---- a group

-- the frames of a group are those of the publish
pub group-frames : (n : ℕ) (fs : List Frame) (number : ℕ) → frames (group_of n fs number) ≡ fs
group-frames n [] number = refl
group-frames n (f ∷ []) number = refl
group-frames n (f ∷ g ∷ fs) number = ap (λ xs. f ∷ xs) (group-frames n (g ∷ fs) number)

group-length : (n : ℕ) (fs : List Frame) (number : ℕ) → length (group_of n fs number) ≡ length fs
group-length n [] number = refl
group-length n (f ∷ []) number = refl
group-length n (f ∷ g ∷ fs) number = ap suc (group-length n (g ∷ fs) number)

-- how long its spelling is at most
group-size : (items : List Item) → AllByRecursion IsPassed (frames items) → length (encodings items) ≤ 9999 * length items
group-size [] h = omega arith
group-size (i ∷ items) h =
    let one = passed-size i.frame h.0 in
    let more = group-size items h.1 in
    let sum : length (encodings (i ∷ items)) ≡ length (encoding i.frame) + length (encodings items) = length-append (encoding i.frame) (encodings items) in
    let count : length (i ∷ items) ≡ suc (length items) = refl in
    omega (arith, one, more, sum, count)

-- ---- a group is committed

module _ (channels : List (ℕ × Channel)) (cursor made place : ℕ) (promises : Promises) where
  -- the session, with these frames of a group that has begun
  abbrev begun : List Item → List Mark → List ℕ → Engine
  begun items marks unsent = engine_in Connected channels cursor made promises (record nothing_queued { begun = items }) marks place [] unsent

  -- the same, with a group that has not begun
  abbrev grouped : List Item → Engine
  grouped group = engine_in Connected channels cursor made promises (record nothing_queued { publish = group ∷ [] }) [] place [] []

  begun-next : (i : Item) (items : List Item) (marks : List Mark) (unsent : List ℕ) → length (encoding i.frame) ≤ 4194304 - length unsent
      → fitting_next (begun (i ∷ items) marks unsent) ≡ Some i
  begun-next i items marks unsent fits =
      if-true (nat_le (size_of i) (4194304 - length unsent)) (Some i) None (is-at-most (size_of i) (4194304 - length unsent) fits)

  begun-one : (i : Item) (items : List Item) (marks : List Mark) (unsent : List ℕ) → length (encoding i.frame) ≤ 4194304 - length unsent
      → commit_one (begun (i ∷ items) marks unsent) ≡ begun items (marks ++ mark_of i ∷ []) (unsent ++ encoding i.frame)
  begun-one i items marks unsent fits =
      let e = begun (i ∷ items) marks unsent in
      ap (λ o. committed_with_bytes o e) (begun-next i items marks unsent fits)
      ∙ ap (λ o. record e { talk = committed_as o e.talk; unsent = unsent ++ encoding i.frame }) (begun-next i items marks unsent fits)

  -- all of it goes out
  pub record Committed (n : ℕ) (items : List Item) (marks : List Mark) (unsent : List ℕ) (e : Engine) : Type 0 where
    pub after : commits n e ≡ begun [] (marks ++ map mark_of items) (unsent ++ encodings items)
    pub items_are : committed_in n e ≡ items

  begun-all : (items : List Item) (marks : List Mark) (unsent : List ℕ) → length unsent + length (encodings items) ≤ 4194304
      → Committed (length items) items marks unsent (begun items marks unsent)
  begun-all [] marks unsent fits =
      record {
        after =
            ap (λ ms. begun [] ms unsent) (sym (append-nil marks)) ∙ ap (begun [] (marks ++ [])) (sym (append-nil unsent));
        items_are = refl;
      }
  begun-all (i ∷ items) marks unsent fits =
      let sum : length (encodings (i ∷ items)) ≡ length (encoding i.frame) + length (encodings items) = length-append (encoding i.frame) (encodings items) in
      let longer : length (unsent ++ encoding i.frame) ≡ length unsent + length (encoding i.frame) = length-append unsent (encoding i.frame) in
      let room : length (encoding i.frame) ≤ 4194304 - length unsent = omega (arith, fits, sum) in
      let one = begun-one i items marks unsent room in
      let rest = begun-all items (marks ++ mark_of i ∷ []) (unsent ++ encoding i.frame) (omega (arith, fits, sum, longer)) in
      record {
        after =
            ap (commits (length items)) one ∙ rest.after
            ∙ ap (λ ms. begun [] ms ((unsent ++ encoding i.frame) ++ encodings items)) (append_assoc marks (mark_of i ∷ []) (map mark_of items))
            ∙ ap (begun [] (marks ++ mark_of i ∷ map mark_of items)) (append_assoc unsent (encoding i.frame) (encodings items));
        items_are =
            ap (λ o. option_to_list o ++ committed_in (length items) (commit_one (begun (i ∷ items) marks unsent))) (begun-next i items marks unsent room)
            ∙ ap (λ e. i ∷ committed_in (length items) e) one
            ∙ ap (λ xs. i ∷ xs) rest.items_are;
      }

  -- the first of a group goes out, where publishes flow, and the others follow it
  module _ (flow : all_flow channels ≡ true) (i : Item) (items : List Item) where
    grouped-next : length (encoding i.frame) ≤ 4194304 → fitting_next (grouped (i ∷ items)) ≡ Some i
    grouped-next fits =
        ap (λ b. fitting 4194304 (next_item b (record nothing_queued { publish = (i ∷ items) ∷ [] }))) flow
        ∙ if-true (nat_le (size_of i) 4194304) (Some i) None (is-at-most (size_of i) 4194304 fits)

    grouped-one : length (encoding i.frame) ≤ 4194304 → commit_one (grouped (i ∷ items)) ≡ begun items (mark_of i ∷ []) (encoding i.frame)
    grouped-one fits =
        let e = grouped (i ∷ items) in
        ap (λ o. committed_with_bytes o e) (grouped-next fits)
        ∙ ap (λ o. record e { talk = committed_as o e.talk; unsent = encoding i.frame }) (grouped-next fits)
        ∙ ap (λ b. engine_in Connected channels cursor made promises (after_next b (record nothing_queued { publish = (i ∷ items) ∷ [] })) (mark_of i ∷ []) place [] (encoding i.frame)) flow

    grouped-all : length (encodings (i ∷ items)) ≤ 4194304 → Committed (length (i ∷ items)) (i ∷ items) [] [] (grouped (i ∷ items))
    grouped-all fits =
        let sum : length (encodings (i ∷ items)) ≡ length (encoding i.frame) + length (encodings items) = length-append (encoding i.frame) (encodings items) in
        let room : length (encoding i.frame) ≤ 4194304 = omega (arith, fits, sum) in
        let one = grouped-one room in
        let rest = begun-all items (mark_of i ∷ []) (encoding i.frame) (omega (arith, fits, sum)) in
        record {
          after = ap (commits (length items)) one ∙ rest.after;
          items_are =
              ap (λ o. option_to_list o ++ committed_in (length items) (commit_one (grouped (i ∷ items)))) (grouped-next room)
              ∙ ap (λ e. i ∷ committed_in (length items) e) one
              ∙ ap (λ xs. i ∷ xs) rest.items_are;
        }

-- ---- and sent

-- the session, with these committed frames
abbrev writing : List (ℕ × Channel) → ℕ → ℕ → Promises → List Mark → Talk
writing channels cursor made promises marks = talk_in Connected channels cursor made promises nothing_queued marks

one-sent : (channels : List (ℕ × Channel)) (cursor made : ℕ) (promises : Promises) (marks : List Mark) (x : Then) → Answers x
    → (after : Promises) × (follow x (writing channels cursor made promises marks) ≡ writing channels cursor made after marks)
one-sent channels cursor made promises marks x (inl none) = (promises, ap (λ y. follow y (writing channels cursor made promises marks)) none)
one-sent channels cursor made promises marks x (inr (number, is)) =
    (settled number (Ok Sent) promises, ap (λ y. follow y (writing channels cursor made promises marks)) is)

all-sent : (channels : List (ℕ × Channel)) (cursor made : ℕ) (promises : Promises) (items : List Item) → AllByRecursion IsPassed (frames items)
    → (after : Promises)
    × (sent_among (map mark_of items) (length (encodings items)) (writing channels cursor made promises (map mark_of items)) ≡ writing channels cursor made after [])
all-sent channels cursor made promises [] passed = (promises, refl)
all-sent channels cursor made promises (i ∷ items) passed =
    let n = length (encodings (i ∷ items)) in
    let ms = map mark_of items in
    let t = writing channels cursor made promises (mark_of i ∷ ms) in
    let sum : n ≡ length (encoding i.frame) + length (encodings items) = length-append (encoding i.frame) (encodings items) in
    let left : n - length (encoding i.frame) ≡ length (encodings items) = omega (arith, sum) in
    let one = one-sent channels cursor made promises ms (then_of i) (passed-then i passed.0) in
    let rest = all-sent channels cursor made one.0 items passed.1 in (
      rest.0,
      if-true (nat_le (size_of i) n) (sent_among ms (n - size_of i) (sent (mark_of i) t)) _ (is-at-most (size_of i) n (omega (arith, sum)))
          ∙ ap (λ k. sent_among ms k (sent (mark_of i) t)) left
          ∙ ap (λ y. sent_among ms (length (encodings items)) y) one.1
          ∙ rest.1,
    )

drop-all : (xs : List ℕ) → drop (length xs) xs ≡ []
drop-all [] = refl
drop-all (x ∷ xs) = drop-all xs

-- ---- the turn

-- a body that fits one frame stands in at most one
cut-nothing : (n size : ℕ) (none : List ℕ) → none ≡ [] → cut n size none ≡ []
cut-nothing zero size none is = refl
cut-nothing (suc n) size none is = ap (cut (suc n) size) is

one-piece : (body : List ℕ) → length body ≤ 131064 → (body_pieces 131064 body ≡ []) ⊎ (body_pieces 131064 body ≡ body ∷ [])
one-piece [] fits = inl refl
one-piece (o ∷ os) fits =
    let whole : take 131064 (o ∷ os) ≡ o ∷ os = take_all 131064 (o ∷ os) fits in
    let none : drop 131064 (o ∷ os) ≡ [] = drop-over 131064 (o ∷ os) fits in
    inr (ap (λ x. x ∷ cut (length os) 131064 (drop 131064 (o ∷ os))) whole ∙ ap (λ ys. (o ∷ os) ∷ ys) (cut-nothing (length os) 131064 (drop 131064 (o ∷ os)) none))
  where
    drop-over : (n : ℕ) (xs : List ℕ) → length xs ≤ n → drop n xs ≡ []
    drop-over zero [] h = refl
    drop-over zero (x ∷ xs) h = absurd (omega (arith, h))
    drop-over (suc n) [] h = refl
    drop-over (suc n) (x ∷ xs) h = drop-over n xs (omega (arith, h))

-- the frames of a publish whose parts are short
module _ (n : ℕ) (method : OtherMethod) (properties body : List ℕ) (method_short : length (spell_raw_method method) ≤ 9991)
    (header_short : length (content_header method.class (length body) properties) ≤ 9991) (body_short : length body ≤ 9991) where
  -- the first two
  abbrev leading : List Frame → List Frame
  leading rest = Raw n RawMethod (spell_raw_method method) ∷ Raw n Header (content_header method.class (length body) properties) ∷ rest

  pub record Frames : Type 0 where
    pub rest : List Frame
    pub are : publish_frames n method properties body 131064 ≡ leading rest
    pub few : length rest ≤ 1
    pub passed : AllByRecursion IsPassed (leading rest)

  passes : (kind : RawKind) (payload : List ℕ) → length payload ≤ 9991 → IsPassed (Raw n kind payload)
  passes kind payload short = record { channel = n; kind = kind; payload = payload; is = refl; short = short }

  pub its-frames : Frames
  its-frames =
      elim (one-piece body (omega (arith, body_short))) [
        | inl none ↦ record {
          rest = [];
          are = ap (λ ps. leading (map (Raw n Body) ps)) none;
          few = omega arith;
          passed = (passes RawMethod _ method_short, (passes Header _ header_short, tt));
        }
        | inr one ↦ record {
          rest = Raw n Body body ∷ [];
          are = ap (λ ps. leading (map (Raw n Body) ps)) one;
          few = omega arith;
          passed = (passes RawMethod _ method_short, (passes Header _ header_short, (passes Body body body_short, tt)));
        }
      ]

  -- what the turn says, and the promises after it
  pub record Published (channels : List (ℕ × Channel)) (cursor made place : ℕ) (promises : Promises) : Type 0 where
    pub items : List Item
    pub passed : AllByRecursion IsPassed (frames items)
    pub after : Promises
    pub turns : Turns (coming_of (now (Command (Publish (record { id = n; opened = None }) method properties body))))
        (resting Connected channels cursor made promises [] place)
        (resting Connected channels cursor (made + 1) after [] place)
        items

  pub publish-turn : (channels : List (ℕ × Channel)) (cursor made place : ℕ) (promises : Promises) (c : Channel)
      → at n channels ≡ Some c → c.state ≡ channel.Connected → all_flow channels ≡ true → Published channels cursor made place promises
  publish-turn channels cursor made place promises c listed opened flow =
      record { items = group; passed = group-passed; after = sent-so.0; turns = turns }
    where
      fs : Frames
      fs = its-frames

      e : Engine
      e = resting Connected channels cursor made promises [] place

      first : Item
      first = plain_item n (Raw n RawMethod (spell_raw_method method))

      others : List Item
      others = group_of n (Raw n Header (content_header method.class (length body) properties) ∷ fs.rest) made

      group : List Item
      group = first ∷ others

      waiting : Promises
      waiting = put made None promises

      -- the command is told
      group-told : publish_target (target_by (named_in None (at n channels)) n word.Publish) n method properties body e.talk
          ≡ queue_publish n (leading fs.rest) e.talk
      group-told =
          ap (λ o. publish_target (target_by (named_in None o) n word.Publish) n method properties body e.talk) listed
          ∙ ap (λ held. publish_target (target_in held word.Publish c) n method properties body e.talk) opened
          ∙ ap (λ xs. unless_too_long (too_long xs e.talk) (unless_full (too_full xs e.talk) (queue_publish n xs)) e.talk) fs.are
          ∙ ap (λ o. unless_too_long o (unless_full (too_full (leading fs.rest) e.talk) (queue_publish n (leading fs.rest))) e.talk) (none-too-long (leading fs.rest) fs.passed)

      told : Talk → Progress
      told t =
          record {
            at = 0;
            cut = None;
            answers = [];
            questions = [];
            engine = record e { talk = t };
            done = 1;
          }

      g : Engine
      g = grouped channels cursor (made + 1) place waiting group

      group-passed : AllByRecursion IsPassed (frames group)
      group-passed =
          let P : List Frame → Type 0 = AllByRecursion IsPassed in
          subst P (sym (group-frames n (leading fs.rest) made)) fs.passed

      fits : length (encodings group) ≤ 4194304
      fits =
          let most = group-size group group-passed in
          let count : length group ≡ length (leading fs.rest) = group-length n (leading fs.rest) made in
          let few = fs.few in
          let two : length (leading fs.rest) ≡ suc (suc (length fs.rest)) = refl in
          omega (arith, most, count, few, two)

      committed : Committed channels cursor (made + 1) place waiting (length group) group [] [] g
      committed = grouped-all channels cursor (made + 1) place waiting flow first others fits

      count : frames_waiting g.talk ≡ length group
      count = ap length (append-nil group)

      commits-so : commit_all g ≡ begun channels cursor (made + 1) place waiting [] (map mark_of group) (encodings group)
      commits-so = ap (λ k. commits k g) count ∙ committed.after

      items-so : committed_before g ≡ group
      items-so = ap (λ k. committed_in k g) count ∙ committed.items_are

      some : 0 < length (encodings group)
      some =
          let one = encoding-some first.frame in
          let sum : length (encodings group) ≡ length (encoding first.frame) + length (encodings others) = length-append (encoding first.frame) (encodings others) in
          omega (arith, one, sum)

      sent-so : (after : Promises) × (sent_among (map mark_of group) (length (encodings group)) (writing channels cursor (made + 1) waiting (map mark_of group)) ≡ writing channels cursor (made + 1) after [])
      sent-so = all-sent channels cursor (made + 1) waiting group group-passed

      rest : Engine
      rest = resting Connected channels cursor (made + 1) sent-so.0 [] place

      took-so : took 0 (length (offered g)) (commit_all g) ≡ rest
      took-so =
          let k = length (encodings group) in
          let t = writing channels cursor (made + 1) waiting (map mark_of group) in
          let left : Talk → List ℕ → Engine = λ t unsent. settle (record { talk = t; unread = []; place = place; unsent = unsent; starved = None }) in
          ap (λ x. took 0 (length x.unsent) x) commits-so
          ∙ ap (λ b. left (if not b then sent_among (map mark_of group) k t else t) (drop k (encodings group))) (other-number k 0 (λ none. absurd (omega (arith, none, some))))
          ∙ ap (λ t. left t (drop k (encodings group))) sent-so.1
          ∙ ap (left (writing channels cursor (made + 1) sent-so.0 [])) (drop-all (encodings group))

      idle : IsIdle rest
      idle = resting-idle Connected channels cursor (made + 1) sent-so.0 [] place

      short : overlong_next g ≡ None
      short = ap (λ x. overlong x.talk) commits-so ∙ idle.short

      writable : can_write g ≡ true
      writable =
          can-write g refl refl short
          (ap (λ x. nat_lt 0 (length x.unsent)) commits-so ∙ is-below 0 (length (encodings group)) some)

      turns : Turns (coming_of (now (Command (Publish (record { id = n; opened = None }) method properties body)))) e rest group
      turns =
          let c = coming_of (now (Command (Publish (record { id = n; opened = None }) method properties body))) in
          let I : Engine → Type 0 = IsIdle in
          let offers : suc (length (others ++ [])) + 0 ≡ suc (length (others ++ [])) = omega arith in
          let T : Engine → Type 0 = λ x. Turns c e x (committed_before g) in
          let U : List Item → Type 0 = Turns c e rest in
          subst U items-so
          (subst T took-so
          (offer-turn c e (told (queue_publish n (leading fs.rest) e.talk)) (length (others ++ [])) (ap told group-told) (λ ss. refl) refl
          writable (record { marks = refl; bytes = refl }) offers (subst I (sym took-so) idle)))
