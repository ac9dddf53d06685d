-- Which accounts are carried.
use Rattle.std.specs.Prelude.{filter}
use Rattle.std.proofs.Common.{◌≡◌, ◌≤◌, inl, inr, ℕ, zero, suc, ◌==◌, Bool, true, false, List, [], ◌∷◌, ◌++◌, map, Some, Ok, refl, ap, sym, subst, if◌then◌else◌, ◌∙◌, arith, append-nil, true≢false, drop, slice_get, ◌&&◌, nat_lt}
use Rattle.std.specs.List.{flat_map, AllByRecursion}
use Rattle.std.proofs.lemmas.List.Concat.{flat_map-append}
use Rattle.amqp_frame.specs.declared.frame.Frame.{Frame}
use Rattle.amqp_frame.specs.declared.frame.Frame.TheVariants.{Heartbeat, Raw}
use Rattle.amqp_frame.specs.declared.frame.RawKind.TheVariants.{Body}
use Rattle.amqp_frame.specs.declared.frame.Read.TheVariants.{Whole, More, TooLarge}
use Rattle.amqp_frame.specs.Sequences.{Stand}
use Rattle.amqp_frame.specs.FrameReading.{front, framed, sized, ended, content as content_in, method_payload}
use Rattle.amqp_commands.specs.declared.command.Cmd.{Cmd}
use Rattle.amqp_commands.specs.declared.command.Cmd.TheVariants.{OpenChannel, Send}
use Rattle.amqp_answers.specs.declared.answer.Answer.{Answer}
use Rattle.amqp_answers.specs.declared.answer.Answer.TheVariants as says
use Rattle.amqp_answers.specs.declared.handed.Handed.{Handed}
use Rattle.amqp_carried_rules.specs.CommandFrames.{AreFramesOf, AreContentFrames, is_publish}
use Rattle.amqp_carried_rules.specs.HandingOut.{handed_on}
use Rattle.std.proofs.lemmas.Bool.{cases_eq}
use Rattle.amqp_types.proofs.Small.{if_case, other-number, the-number}
use Rattle.amqp_engine.specs.Carried.{Account, answered_sent, Carried, WentOut, IsOpenedBy, IsParted, IsTorn, AreCut, AreSent, Merges, IsSubsequence, concatenated, raw_frames, frame_of, longest_frame, StandOnLinks}
use Rattle.amqp_engine_tests.specs.Accounts.{one, no_properties, publish, sent_by, qos, get, basic_publish, body, said, head, header, content, delivery, by_promise, all_sent, cut_off, torn_and_sent, swapped, twice, on_two_links, torn_over_links, other_body, made_up, not_whole, opened_by_none, by_another, by_an_earlier, by_a_refused, of_two_channels, heartbeat_octets, qos_octets, body_octets, body_begun}

-- what was handed out by a promise, and by no other
by-none : (opened number : ℕ) → ((opened ≡ number) → ⊥) → by_promise number opened ≡ []
by-none opened number other = ap (λ b. if b then delivery ∷ [] else []) (other-number opened number other)

each-one : (opened : ℕ) → handed_on opened ((1, delivery) ∷ []) ≡ by_promise 1 opened
each-one opened =
    let P : ℕ → Type 0 = λ n. handed_on n ((1, delivery) ∷ []) ≡ by_promise 1 n in
    elim (cases_eq opened 1) [
      | inl same ↦ subst P (sym same) refl
      | inr other ↦
          let passed : (1 == opened) ≡ false = other-number 1 opened (λ same. other (sym same)) in
          ap (λ b. map (λ (h : ℕ × Handed). h.1) (if b then (1, delivery) ∷ [] else [])) passed ∙ sym (by-none opened 1 other)
    ]

opened-one : (number : ℕ) → AllByRecursion (IsOpenedBy all_sent number) (all_sent.handed number)
opened-one number =
    let P : ℕ → Type 0 = λ n. AllByRecursion (IsOpenedBy all_sent n) (all_sent.handed n) in
    let Q : List Handed → Type 0 = λ hs. AllByRecursion (IsOpenedBy all_sent number) hs in
    elim (cases_eq number 1) [
      | inl same ↦ subst P (sym same) (record { before = 0; number = refl; command = refl; answer = its_answer; listed = λ is. cc }, tt)
      | inr other ↦ subst Q (sym (by-none number 1 other)) tt
    ]
  where
    its_answer : (x : Answer) → all_sent.answers 1 ≡ Some (Ok x) → x ≡ says.Channel 1 1
    its_answer x is = (let same : says.Channel 1 1 ≡ x = cc in sym same)

-- the frames of what came, and the octets of a frame that is not whole
all-stand : Stand (heartbeat_octets ++ qos_octets ++ body_octets ++ body_begun) longest_frame 0 (Heartbeat ∷ said qos ∷ Raw 1 Body body ∷ []) 38
unfolding front framed sized ended content_in method_payload
all-stand = (8, refl, (19, refl, (11, refl, refl)))

-- only the first command opens a channel, and nothing had come before it
all-parted : (before channel : ℕ) → slice_get all_sent.commands before ≡ Some OpenChannel → all_sent.answers (suc before) ≡ Some (Ok (says.Channel channel (suc before)))
    → IsParted [] channel (suc before) ((1, delivery) ∷ [])
all-parted zero channel told is =
    record {
      before = [];
      after = (1, delivery) ∷ [];
      all = refl;
      had_come = record { read = []; stand = tt; order = IsSubsequence.none };
      earlier = tt;
      later = (λ same. omega arith, tt);
    }
all-parted (suc zero) channel told is = absurd cc
all-parted (suc (suc zero)) channel told is = absurd cc
all-parted (suc (suc (suc zero))) channel told is = absurd cc
all-parted (suc (suc (suc (suc n)))) channel told is = absurd cc

pub all-sent-carried : Carried all_sent
all-sent-carried =
    record {
      went_out =
          record {
            order = ((said qos ∷ []) ∷ content ((1 ∷ 2 ∷ []) ∷ (3 ∷ []) ∷ []) ∷ (said get ∷ []) ∷ []) ∷ [];
            cut = (record { part = []; frames = refl; torn = inl refl }, tt);
            sends = (said qos ∷ []) ∷ (said get ∷ []) ∷ [];
            publishes = content ((1 ∷ 2 ∷ []) ∷ (3 ∷ []) ∷ []) ∷ [];
            are_sends = AreSent.other refl (AreSent.sent refl refl (AreSent.other refl (AreSent.sent refl refl AreSent.none)));
            are_publishes =
                AreSent.other refl (AreSent.other refl (AreSent.sent refl
                (record { head = head; class = refl; weight = refl; size = refl; behind = refl; pieces = (1 ∷ 2 ∷ []) ∷ (3 ∷ []) ∷ []; not_empty = (omega arith, (omega arith, tt)); joined = refl; frames = refl })
                (AreSent.other refl AreSent.none)));
            in_turns = Merges.left (Merges.right (Merges.left Merges.none));
          };
      came_in =
          record {
            handed = (1, delivery) ∷ [];
            each = each-one;
            came =
                record {
                  read = (Heartbeat ∷ said qos ∷ Raw 1 Body body ∷ []) ∷ [];
                  stand = (38, all-stand, tt);
                  order = IsSubsequence.left_out (IsSubsequence.kept IsSubsequence.none);
                };
            opened = opened-one;
            one = λ number. (1, if_case (λ (hs : List Handed). AllByRecursion (λ (h : Handed). h.channel ≡ 1) hs) (number == 1) (delivery ∷ []) [] (refl, tt) tt);
            parted = all-parted;
          };
    }

-- ---- what follows where no publish may be torn

-- each publish was answered Sent
abbrev AllPublished : Account → Type 0
AllPublished a = (before : ℕ) (c : Cmd) → slice_get a.commands before ≡ Some c → is_publish c ≡ true → answered_sent a (suc before) ≡ true

nothing-torn : (a : Account) (part : List Frame) → AllPublished a → IsTorn a part → ⊥
nothing-torn a part all torn = true≢false (sym (all torn.before torn.command torn.told torn.publish) ∙ torn.unanswered)

-- then nothing is set aside
nothing-cut : (a : Account) (links kept : List (List Frame)) → AllPublished a → AreCut a links kept → kept ≡ links
nothing-cut a [] [] all cut = refl
nothing-cut a [] (kept ∷ more) all cut = absurd cut
nothing-cut a (fs ∷ links) [] all cut = absurd cut
nothing-cut a (fs ∷ links) (kept ∷ more) all cut =
    let rest = nothing-cut a links more all cut.1 in
    elim cut.0.torn [
      | inl none ↦
          let whole : fs ≡ kept = cut.0.frames ∙ ap (λ (part : List Frame). kept ++ part) none ∙ append-nil kept in
          ap (λ (xs : List Frame). xs ∷ more) (sym whole) ∙ ap (λ (xss : List (List Frame)). fs ∷ xss) rest
      | inr torn ↦ absurd (nothing-torn a cut.0.part all torn)
    ]

-- what is joined link by link, is joined as a whole
joined-both : (xsss : List (List (List Frame))) → concatenated (map concatenated xsss) ≡ concatenated (concatenated xsss)
joined-both [] = refl
joined-both (xss ∷ xsss) = ap (λ (fs : List Frame). concatenated xss ++ fs) (joined-both xsss) ∙ sym (flat_map-append (λ (fs : List Frame). fs) xss (concatenated xsss))

-- the frames of a command that was answered Sent, and of those after it
record SentFirst (is_kind : Cmd → Bool) (answered : ℕ → Bool) (n : ℕ) (c : Cmd) (cs : List Cmd) (fss : List (List Frame)) : Type 0 where
  frames : List Frame
  later : List (List Frame)
  both : fss ≡ frames ∷ later
  are : AreFramesOf c frames
  rest : AreSent is_kind answered (suc n) cs later

module _ {is_kind : Cmd → Bool} {answered : ℕ → Bool} where
  sent-none : {n : ℕ} {fss : List (List Frame)} → AreSent is_kind answered n [] fss → fss ≡ []
  sent-none AreSent.none = refl

  sent-other : {n : ℕ} {c : Cmd} {cs : List Cmd} {fss : List (List Frame)} → AreSent is_kind answered n (c ∷ cs) fss
      → (is_kind c && answered n) ≡ false → AreSent is_kind answered (suc n) cs fss
  sent-other (AreSent.other h rest) off = rest
  sent-other (AreSent.sent h f rest) off = absurd (true≢false (sym h ∙ off))

  sent-first : {n : ℕ} {c : Cmd} {cs : List Cmd} {fss : List (List Frame)} → AreSent is_kind answered n (c ∷ cs) fss
      → (is_kind c && answered n) ≡ true → SentFirst is_kind answered n c cs fss
  sent-first (AreSent.other h rest) on = absurd (true≢false (sym on ∙ h))
  sent-first (AreSent.sent {fs = fs} {fss = fss} h f rest) on = record { frames = fs; later = fss; both = refl; are = f; rest = rest }

module _ {A : Type 0} where
  merged-left : {xs ys zs : List A} → Merges xs ys zs → ys ≡ [] → zs ≡ xs
  merged-left Merges.none h = refl
  merged-left (Merges.left {x = x} m) h = ap (λ (zs : List A). x ∷ zs) (merged-left m h)
  merged-left (Merges.right m) h = absurd cc

  merged-right : {xs ys zs : List A} → Merges xs ys zs → xs ≡ [] → zs ≡ ys
  merged-right Merges.none h = refl
  merged-right (Merges.left m) h = absurd cc
  merged-right (Merges.right {y = y} m) h = ap (λ (zs : List A). y ∷ zs) (merged-right m h)

-- ---- single commands

only : (c : Cmd) (before : ℕ) (d : Cmd) → slice_get (c ∷ []) before ≡ Some d → (c ≡ d) × (before ≡ 0)
only c zero d h = (cc, refl)
only c (suc n) d h = absurd cc

one-send : (links : List (List Frame)) (a : Account) → a.commands ≡ Send one qos ∷ [] → AllPublished a
one-send links a is before d told publish =
    let first = only (Send one qos) before d (ap (λ (cs : List Cmd). slice_get cs before) (sym is) ∙ told) in
    absurd (true≢false (sym publish ∙ sym (ap is_publish first.0)))

-- one send that was answered Sent: nothing but it went out
one-sent : (links : List (List Frame)) → WentOut (sent_by (Send one qos ∷ []) (λ n. n == 1) links) → concatenated (map raw_frames links) ≡ said qos ∷ []
one-sent links w =
    let a : Account = sent_by (Send one qos ∷ []) (λ n. n == 1) links in
    let uncut : map concatenated w.order ≡ map raw_frames links = nothing-cut a (map raw_frames links) (map concatenated w.order) (one-send links a refl) w.cut in
    let first = sent-first w.are_sends refl in
    let sends : w.sends ≡ (said qos ∷ []) ∷ [] =
    first.both ∙ ap (λ (fs : List Frame). fs ∷ first.later) first.are ∙ ap (λ (fss : List (List Frame)). (said qos ∷ []) ∷ fss) (sent-none first.rest) in
    let publishes : w.publishes ≡ [] = sent-none (sent-other w.are_publishes refl) in
    let order : concatenated w.order ≡ (said qos ∷ []) ∷ [] = merged-left w.in_turns publishes ∙ sends in
    sym (ap concatenated uncut) ∙ joined-both w.order ∙ ap concatenated order

pub twice-not-carried : Carried twice → ⊥
twice-not-carried c = let same = one-sent ((said qos ∷ said qos ∷ []) ∷ []) c.went_out in cc

pub on-two-links-not-carried : Carried on_two_links → ⊥
on-two-links-not-carried c = let same = one-sent ((said qos ∷ []) ∷ (said qos ∷ []) ∷ []) c.went_out in cc

-- one publish that was answered Sent: nothing but it went out
one-publish : (links : List (List Frame)) (a : Account) → a.commands ≡ publish ∷ [] → answered_sent a 1 ≡ true → AllPublished a
one-publish links a is answered before d told publishes =
    let first = only publish before d (ap (λ (cs : List Cmd). slice_get cs before) (sym is) ∙ told) in
    ap (λ (n : ℕ). answered_sent a (suc n)) first.1 ∙ answered

-- link by link, what went out are its frames
record IsPublished (links : List (List Frame)) : Type 0 where
  frames : List Frame
  are : AreContentFrames 1 basic_publish no_properties body frames
  order : List (List (List Frame))
  one_command : concatenated order ≡ frames ∷ []
  by_link : map concatenated order ≡ map raw_frames links

published : (links : List (List Frame)) → WentOut (sent_by (publish ∷ []) (λ n. n == 1) links) → IsPublished links
published links w =
    let a : Account = sent_by (publish ∷ []) (λ n. n == 1) links in
    let first = sent-first w.are_publishes refl in
    let sends : w.sends ≡ [] = sent-none (sent-other w.are_sends refl) in
    let publishes : w.publishes ≡ first.frames ∷ [] = first.both ∙ ap (λ (fss : List (List Frame)). first.frames ∷ fss) (sent-none first.rest) in
    record {
      frames = first.frames;
      are = first.are;
      order = w.order;
      one_command = merged-right w.in_turns sends ∙ publishes;
      by_link = nothing-cut a (map raw_frames links) (map concatenated w.order) (one-publish links a refl refl) w.cut;
    }

one-published : (links : List (List Frame)) → WentOut (sent_by (publish ∷ []) (λ n. n == 1) links) → AreContentFrames 1 basic_publish no_properties body (concatenated (map raw_frames links))
one-published links w =
    let is = published links w in
    let all : is.frames ≡ concatenated (map raw_frames links) =
    sym (append-nil is.frames) ∙ sym (ap concatenated is.one_command) ∙ sym (joined-both is.order) ∙ ap concatenated is.by_link in
    let P : List Frame → Type 0 = λ fs. AreContentFrames 1 basic_publish no_properties body fs in
    subst P all is.are

-- a content has as many octets of body as it says
torn-content : (pieces : List (List ℕ)) → flat_map (λ piece. piece) pieces ≡ body → [] ≡ map (Raw 1 Body) pieces → ⊥
torn-content [] joins none = cc
torn-content (piece ∷ pieces) joins none = cc

pub torn-not-carried : Carried torn_and_sent → ⊥
torn-not-carried c =
    let is = one-published ((said basic_publish ∷ header ∷ []) ∷ []) c.went_out in
    torn-content is.pieces is.joined (ap (drop 2) is.frames)

-- what goes out on two links is more than one command
more-than-one : (xs : List (List Frame)) (y : List Frame) (ys : List (List Frame)) → xs ++ y ∷ ys ≡ [] → ⊥
more-than-one [] y ys is = cc
more-than-one (x ∷ xs) y ys is = cc

two-commands : (order : List (List (List Frame))) (x y : Frame) (xs ys frames : List Frame) → map concatenated order ≡ (x ∷ xs) ∷ (y ∷ ys) ∷ [] → concatenated order ≡ frames ∷ [] → ⊥
two-commands [] x y xs ys frames links one = cc
two-commands ([] ∷ order) x y xs ys frames links one = cc
two-commands ((a ∷ more) ∷ []) x y xs ys frames links one = cc
two-commands ((a ∷ more) ∷ [] ∷ order) x y xs ys frames links one = cc
two-commands ((a ∷ more) ∷ (b ∷ bs) ∷ order) x y xs ys frames links one =
    let rest : more ++ b ∷ (bs ++ concatenated order) ≡ [] = cc in
    more-than-one more b (bs ++ concatenated order) rest

pub torn-over-links-not-carried : Carried torn_over_links → ⊥
torn-over-links-not-carried c =
    let is = published ((said basic_publish ∷ header ∷ []) ∷ (Raw 1 Body body ∷ []) ∷ []) c.went_out in
    two-commands is.order (said basic_publish) (Raw 1 Body body) (header ∷ []) [] is.frames is.by_link is.one_command

abbrev bodies : List Frame → List (List ℕ)
bodies [] = []
bodies (Raw n kind bytes ∷ fs) = bytes ∷ bodies fs
bodies (f ∷ fs) = bodies fs

bodies-of : (pieces : List (List ℕ)) → bodies (map (Raw 1 Body) pieces) ≡ pieces
bodies-of [] = refl
bodies-of (piece ∷ pieces) = ap (λ (more : List (List ℕ)). piece ∷ more) (bodies-of pieces)

pub other-body-not-carried : Carried other_body → ⊥
other-body-not-carried c =
    let is = one-published (content ((9 ∷ 9 ∷ 9 ∷ []) ∷ []) ∷ []) c.went_out in
    let pieces : (9 ∷ 9 ∷ 9 ∷ []) ∷ [] ≡ is.pieces = ap (λ (fs : List Frame). bodies (drop 2 fs)) is.frames ∙ bodies-of is.pieces in
    let same : 9 ∷ 9 ∷ 9 ∷ [] ≡ body = ap (flat_map (λ (piece : List ℕ). piece)) pieces ∙ is.joined in
    cc

-- two sends go out in order
two-sends : AllPublished swapped
two-sends zero c told publish = let is : Send one qos ≡ c = cc in absurd (true≢false (sym publish ∙ sym (ap is_publish is)))
two-sends (suc zero) c told publish = let is : Send one get ≡ c = cc in absurd (true≢false (sym publish ∙ sym (ap is_publish is)))
two-sends (suc (suc n)) c told publish = absurd cc

pub swapped-not-carried : Carried swapped → ⊥
swapped-not-carried c =
    let w = c.went_out in
    let uncut : map concatenated w.order ≡ (said get ∷ said qos ∷ []) ∷ [] = nothing-cut swapped ((said get ∷ said qos ∷ []) ∷ []) (map concatenated w.order) two-sends w.cut in
    let first = sent-first w.are_sends refl in
    let publishes : w.publishes ≡ [] = sent-none (sent-other (sent-other w.are_publishes refl) refl) in
    let order : concatenated w.order ≡ (said qos ∷ []) ∷ first.later =
    merged-left w.in_turns publishes ∙ first.both ∙ ap (λ (fs : List Frame). fs ∷ first.later) first.are in
    let same : said get ∷ said qos ∷ [] ≡ said qos ∷ concatenated first.later = sym (ap concatenated uncut) ∙ joined-both w.order ∙ ap concatenated order in
    cc

-- where no frame was read, none is handed out
none-handed : (hs : List (ℕ × Handed)) → handed_on 1 hs ≡ delivery ∷ [] → IsSubsequence (map (λ h. frame_of h.1) hs) [] → ⊥
none-handed [] is order = cc
none-handed (h ∷ hs) is order = elim order [ ]

pub made-up-not-carried : Carried made_up → ⊥
made-up-not-carried c =
    let came = c.came_in in
    nothing-came came.came.read came.came.stand came.came.order
  where
    nothing-came : (read : List (List Frame)) → StandOnLinks [] read → IsSubsequence (map (λ h. frame_of h.1) c.came_in.handed) (raw_frames (concatenated read)) → ⊥
    nothing-came [] stand order = none-handed c.came_in.handed (c.came_in.each 1) order
    nothing-came (fs ∷ read) stand order = absurd stand

-- the first octets of a frame are not a whole frame, by any limit
begun-only : (limit n : ℕ) (f : Frame) → front body_begun limit ≡ Whole f n → ⊥
unfolding front framed sized
begun-only limit n f is = by (nat_lt limit 11) is where
  by : (b : Bool) → (if b then TooLarge 3 else More) ≡ Whole f n → ⊥
  by true same = cc
  by false same = cc

pub not-whole-not-carried : Carried not_whole → ⊥
not-whole-not-carried c =
    let came = c.came_in in
    none-read came.came.read came.came.stand came.came.order
  where
    none-read : (read : List (List Frame)) → StandOnLinks (body_begun ∷ []) read → IsSubsequence (map (λ h. frame_of h.1) c.came_in.handed) (raw_frames (concatenated read)) → ⊥
    none-read [] stand order = absurd stand
    none-read ([] ∷ []) stand order = none-handed c.came_in.handed (c.came_in.each 1) order
    none-read ((f ∷ fs) ∷ []) stand order = begun-only longest_frame stand.1.0 f stand.1.1
    none-read (fs ∷ gs ∷ read) stand order = absurd stand.2

-- a frame is handed out by the promise that opened its channel
pub by-none-not-carried : Carried opened_by_none → ⊥
by-none-not-carried c = (let by = (c.came_in.opened 1).0 in let told = by.command in cc)

pub by-another-not-carried : Carried by_another → ⊥
by-another-not-carried c =
    let by = (c.came_in.opened 2).0 in
    let same : says.Channel 2 2 ≡ says.Channel 1 2 = by.answer (says.Channel 2 2) refl in
    cc

-- where nothing of channel 1 is by an earlier promise than 2, the first hands out nothing of it
none-earlier : (hs : List (ℕ × Handed)) → AllByRecursion (λ (h : ℕ × Handed). (h.1).channel ≡ 1 → 2 ≤ h.0) hs → handed_on 1 hs ≡ delivery ∷ [] → ⊥
none-earlier [] all is = cc
none-earlier (h ∷ hs) all is = by (h.0 == 1) refl is (none-earlier hs all.1) where
  by : (b : Bool) → (h.0 == 1) ≡ b → map (λ (x : ℕ × Handed). x.1) (if b then h ∷ filter (λ (x : ℕ × Handed). x.0 == 1) hs else filter (λ (x : ℕ × Handed). x.0 == 1) hs) ≡ delivery ∷ []
      → (handed_on 1 hs ≡ delivery ∷ [] → ⊥) → ⊥
  by true one same rest =
      let first : h.1 ≡ delivery = cc in
      let number : h.0 ≡ 1 = the-number h.0 1 one in
      let later : 2 ≤ h.0 = all.0 (ap (λ (x : Handed). x.channel) first) in
      absurd (omega (arith, number, later))
  by false other same rest = rest same

pub by-an-earlier-not-carried : Carried by_an_earlier → ⊥
by-an-earlier-not-carried c =
    let d = c.came_in.parted 1 1 refl refl in
    let none_before : d.before ≡ [] = nothing d.before d.had_come.read d.had_come.stand d.had_come.order in
    let after : c.came_in.handed ≡ d.after = d.all ∙ ap (λ (hs : List (ℕ × Handed)). hs ++ d.after) none_before in
    none-earlier d.after d.later (ap (handed_on 1) (sym after) ∙ c.came_in.each 1)
  where
    nothing : (hs : List (ℕ × Handed)) (read : List (List Frame)) → StandOnLinks [] read → IsSubsequence (map (λ h. frame_of h.1) hs) (raw_frames (concatenated read)) → hs ≡ []
    nothing [] read stand order = refl
    nothing (h ∷ hs) [] stand order = elim order [ ]
    nothing (h ∷ hs) (fs ∷ read) stand order = absurd stand

pub by-a-refused-not-carried : Carried by_a_refused → ⊥
by-a-refused-not-carried c = absurd ((c.came_in.opened 1).0.listed refl)

pub of-two-channels-not-carried : Carried of_two_channels → ⊥
of-two-channels-not-carried c =
    let one = c.came_in.one 1 in
    let first : 1 ≡ one.0 = one.1.0 in
    let second : 2 ≡ one.0 = one.1.1.0 in
    absurd (omega (arith, first, second))

-- a publish that is cut off with its link
pub cut-off-carried : Carried cut_off
cut-off-carried =
    record {
      went_out =
          record {
            order = [] ∷ ((said qos ∷ []) ∷ []) ∷ [];
            cut = (
              record {
                part = said basic_publish ∷ header ∷ [];
                frames = refl;
                torn =
                    inr (record {
                      before = 0;
                      command = publish;
                      told = refl;
                      publish = refl;
                      unanswered = refl;
                      rest = Raw 1 Body body ∷ [];
                      proper = λ none. cc;
                      frames = record { head = head; class = refl; weight = refl; size = refl; behind = refl; pieces = body ∷ []; not_empty = (omega arith, tt); joined = refl; frames = refl };
                    });
              },
              (record { part = []; frames = refl; torn = inl refl }, tt),
            );
            sends = (said qos ∷ []) ∷ [];
            publishes = [];
            are_sends = AreSent.other refl (AreSent.sent refl refl AreSent.none);
            are_publishes = AreSent.other refl (AreSent.other refl AreSent.none);
            in_turns = Merges.left Merges.none;
          };
      came_in =
          record {
            handed = [];
            each = λ opened. refl;
            came = record { read = []; stand = tt; order = IsSubsequence.none };
            opened = λ number. tt;
            one = λ number. (1, tt);
            parted = none-opened;
          };
    }
  where
    none-opened : (before channel : ℕ) → slice_get cut_off.commands before ≡ Some OpenChannel → cut_off.answers (suc before) ≡ Some (Ok (says.Channel channel (suc before)))
        → IsParted [] channel (suc before) []
    none-opened zero channel told is = absurd cc
    none-opened (suc zero) channel told is = absurd cc
    none-opened (suc (suc n)) channel told is = absurd cc
