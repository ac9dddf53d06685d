-- Groups that may be said: that a publish is one, and that it stays one while its channel stays in use.
use Rattle.std.proofs.Common.{◌≡◌, ◌≢◌, ◌<◌, ◌≤◌, ◌^◌, ◌∙◌, ap, sym, refl, ℕ, zero, suc, ◌+◌, ◌-◌, ◌==◌, not, nat_lt, min, if◌then◌else◌, Bool, true, false, List, [], ◌∷◌, length, take, drop, sum_by, filter, Option, Some, None, arith}
use Rattle.std.proofs.lemmas.Bool.Decides.{nat_tests}
use Rattle.std.proofs.lemmas.List.{length-append, length-drop, take-append-drop}
use Rattle.std.proofs.lemmas.List.Sums.{sum_by-cons}
use Rattle.std.proofs.lemmas.Nat.{from_be_bytes-to_be_bytes_8}
use Rattle.std.specs.List.{AllByRecursion}
use Rattle.amqp_frame.specs.declared.frame.Frame.{Frame}
use Rattle.amqp_frame.specs.Frames.{encoding}
use Rattle.amqp_frame.specs.RawMethods.{OtherMethod, spell_raw_method}
use Rattle.amqp_outbox.specs.declared.item.Item.{Item}
use Rattle.amqp_outbox.specs.Lists.{is_the_number}
use Rattle.amqp_outbox.specs.Items.{group_of}
use Rattle.amqp_outbox.specs.Queued.{is_on}
use Rattle.amqp_rules.specs.Talk.{Talk}
use Rattle.amqp_settings.specs.Capacities.{frame_min_size}
use Rattle.amqp_settings.specs.Negotiation.{wish_or}
use Rattle.amqp_commands.specs.Publishing.{method_frame, content_header, cut, body_pieces, publish_frames}
use Rattle.amqp_rules.specs.Commands.{too_long, body_limit}
use Rattle.amqp_legal.specs.Legal.{IsPassedThrough, IsContent}
use Rattle.amqp_legal.specs.Decider.{Speech, now_on}
use Rattle.amqp_legal.specs.declared.progress.Stage.TheVariants.{OpenSaid}
use Rattle.amqp_legal.specs.declared.progress.Usage.{Usage}
use Rattle.amqp_legal.specs.declared.progress.Usage.TheVariants.{InUse}
use Rattle.amqp_types.proofs.Small.{if_case, the-number}
use Rattle.amqp_legal.proofs.Sayable.{IsComplete}
use Rattle.amqp_legal_rules.proofs.Ties.{frames_in, IsReady}

-- ---- groups that wait

-- a group is ready where its channel is in use, and nothing else is said
ready-as : (v w : Speech) (group : List Item) (h : IsReady v group) → w.stage ≡ OpenSaid → IsComplete w.content → w.usage h.channel ≡ InUse → IsReady w group
ready-as v w group h speaking complete used =
    record {
      channel = h.channel;
      method = h.method;
      head = h.head;
      bodies = h.bodies;
      frames = h.frames;
      on_channel = h.on_channel;
      not_zero = h.not_zero;
      speaking = speaking;
      complete = complete;
      used = used;
      passed = h.passed;
      content = h.content;
    }

-- groups stay ready where channels stay in use
pub stay-ready : (v w : Speech) (groups : List (List Item)) → w.stage ≡ OpenSaid → IsComplete w.content → ((n : ℕ) → v.usage n ≡ InUse → w.usage n ≡ InUse)
    → AllByRecursion (IsReady v) groups → AllByRecursion (IsReady w) groups
stay-ready v w [] speaking complete used h = tt
stay-ready v w (group ∷ groups) speaking complete used h =
    (ready-as v w group h.0 speaking complete (used h.0.channel h.0.used), stay-ready v w groups speaking complete used h.1)

-- a channel that is opened leaves the others in use
pub open-ready : (n : ℕ) (v : Speech) (groups : List (List Item)) → v.stage ≡ OpenSaid → AllByRecursion (IsReady v) groups → AllByRecursion (IsReady (now_on n InUse v)) groups
open-ready n v groups speaking h =
    stay-ready v (now_on n InUse v) groups speaking tt (λ m used. if_case (λ u. u ≡ InUse) (m == n) InUse (v.usage m) refl used) h

-- the groups of all channels but one
abbrev pub other_groups : ℕ → List (List Item) → List (List Item)
other_groups n groups = filter (λ group. not (is_on n group)) groups

other-ready : (b : Bool) (n : ℕ) (u : Usage) (v : Speech) (group : List Item) (groups : List (List Item)) → is_on n group ≡ b → v.stage ≡ OpenSaid → IsReady v group
    → AllByRecursion (IsReady (now_on n u v)) (other_groups n groups)
    → AllByRecursion (IsReady (now_on n u v)) (if not b then group ∷ other_groups n groups else other_groups n groups)
other-ready true n u v group groups is speaking h rest = rest
other-ready false n u v group groups is speaking h rest =
    let other : (h.channel == n) ≡ false = sym (ap (is_the_number n) h.on_channel) ∙ is in
    (ready-as v (now_on n u v) group h speaking tt (ap (λ b. if b then u else v.usage h.channel) other ∙ h.used), rest)

-- the groups of other channels stay ready once a channel is used otherwise
pub others-ready : (n : ℕ) (u : Usage) (v : Speech) (groups : List (List Item)) → v.stage ≡ OpenSaid → AllByRecursion (IsReady v) groups
    → AllByRecursion (IsReady (now_on n u v)) (other_groups n groups)
others-ready n u v [] speaking h = tt
others-ready n u v (group ∷ groups) speaking h =
    other-ready (is_on n group) n u v group groups refl speaking h.0 (others-ready n u v groups speaking h.1)

-- and all stay ready where it was not in use
pub unused-ready : (n : ℕ) (u w : Usage) (v : Speech) (groups : List (List Item)) → v.stage ≡ OpenSaid → v.usage n ≡ w → w ≢ InUse
    → AllByRecursion (IsReady v) groups → AllByRecursion (IsReady (now_on n u v)) groups
unused-ready n u w v groups speaking is unused h = stay-ready v (now_on n u v) groups speaking tt (λ m used. as_before m used (m == n) refl) h where
  as_before : (m : ℕ) → v.usage m ≡ InUse → (b : Bool) → (m == n) ≡ b → (if b then u else v.usage m) ≡ InUse
  as_before m used false here = used
  as_before m used true here = absurd (unused (sym is ∙ ap (λ k. v.usage k) (sym (the-number m n here)) ∙ used))

-- where the connection is not open, no group is ready
pub never-ready : (v w : Speech) (groups : List (List Item)) → v.stage ≢ OpenSaid → AllByRecursion (IsReady v) groups → AllByRecursion (IsReady w) groups
never-ready v w [] closed h = tt
never-ready v w (group ∷ groups) closed h = absurd (closed h.0.speaking)

-- ---- the pieces of a body

-- none of them is empty
pub pieces-some : (pieces size : ℕ) (octets : List ℕ) → 1 ≤ size → AllByRecursion (λ body. 1 ≤ length body) (cut pieces size octets)
pieces-some zero size octets some = tt
pieces-some (suc pieces) size [] some = tt
pieces-some (suc pieces) zero (octet ∷ octets) some = absurd (omega (arith, some))
pieces-some (suc pieces) (suc size) (octet ∷ octets) some = (omega arith, pieces-some pieces (suc size) (drop size octets) some)

-- and they are the whole body
pieces-sum : (pieces size : ℕ) (octets : List ℕ) → 1 ≤ size → length octets ≤ pieces → sum_by length (cut pieces size octets) ≡ length octets
pieces-sum zero size [] some fit = refl
pieces-sum zero size (octet ∷ octets) some fit = absurd (omega (arith, fit))
pieces-sum (suc pieces) size [] some fit = refl
pieces-sum (suc pieces) size (octet ∷ octets) some fit =
    let all : List ℕ = octet ∷ octets in
    let fewer : length (drop size all) ≤ pieces = omega (arith, some, fit, length-drop size all) in
    sum_by-cons length (take size all) (cut pieces size (drop size all))
    ∙ ap (λ k. length (take size all) + k) (pieces-sum pieces size (drop size all) some fewer)
    ∙ sym (length-append (take size all) (drop size all)) ∙ ap length (take-append-drop size all)

-- ---- a publish

-- its content header, and the pieces of its body
pub publish-content : (m : OtherMethod) (properties body : List ℕ) (size : ℕ) → 2 ≤ length properties → length body < 2 ^ 64 → 1 ≤ size
    → IsContent (spell_raw_method m) (content_header m.class (length body) properties) (body_pieces size body)
publish-content m properties body size flags fits some =
    record {
      whole = omega (arith, flags);
      class = refl;
      weight = refl;
      size = from_be_bytes-to_be_bytes_8 (length body) fits ∙ sym (pieces-sum (length body) size body some (omega arith));
      not_empty = pieces-some (length body) size body some;
    }

-- a group has the frames of which it was made
group-frames : (n : ℕ) (frames : List Frame) (promise : ℕ) → frames_in (group_of n frames promise) ≡ frames
group-frames n [] promise = refl
group-frames n (frame ∷ []) promise = refl
group-frames n (frame ∷ next ∷ frames) promise = ap (λ fs. frame ∷ fs) (group-frames n (next ∷ frames) promise)

-- its frames are a group that is ready
pub publish-ready : (n : ℕ) (m : OtherMethod) (properties body : List ℕ) (size promise : ℕ) (v : Speech) → n ≢ 0 → v.stage ≡ OpenSaid → IsComplete v.content
    → v.usage n ≡ InUse → IsPassedThrough (spell_raw_method m) → IsContent (spell_raw_method m) (content_header m.class (length body) properties) (body_pieces size body)
    → IsReady v (group_of n (publish_frames n m properties body size) promise)
publish-ready n m properties body size promise v not_zero speaking complete used passed content =
    record {
      channel = n;
      method = spell_raw_method m;
      head = content_header m.class (length body) properties;
      bodies = body_pieces size body;
      frames = group-frames n (publish_frames n m properties body size) promise;
      on_channel = refl;
      not_zero = not_zero;
      speaking = speaking;
      complete = complete;
      used = used;
      passed = passed;
      content = content;
    }

-- ---- how long a piece is

first-fits : (b : Bool) (frame : Frame) (rest : Option Frame) → (if b then Some frame else rest) ≡ None → b ≡ false
first-fits true frame rest h = absurd cc
first-fits false frame rest h = refl

limit-some : (capacity frame_max : ℕ) → frame_min_size ≤ frame_max → 9 ≤ capacity → 1 ≤ min capacity (wish_or capacity frame_max) - 8
limit-some capacity frame_max agreed room =
    if_case (λ w. 1 ≤ min capacity w - 8) (frame_max == 0) capacity frame_max (omega (arith, room)) (omega (arith, room, agreed))

-- where the frame of the method fits, so does a piece of the body
pub pieces-fit : (n : ℕ) (m : OtherMethod) (properties body : List ℕ) (t : Talk) → frame_min_size ≤ t.configuration.frame_max
    → too_long (publish_frames n m properties body (body_limit t)) t ≡ None → 1 ≤ body_limit t
pieces-fit n m properties body t agreed fits =
    let size : ℕ = length (encoding (method_frame n m)) in
    let rest : List Frame = drop 1 (publish_frames n m properties body (body_limit t)) in
    let within : nat_lt t.capacity size ≡ false = first-fits (nat_lt t.capacity size) (method_frame n m) (too_long rest t) fits in
    let long : 9 ≤ size = omega arith in
    let room : size ≤ t.capacity = not-above t.capacity size within in
    limit-some t.capacity t.configuration.frame_max agreed (omega (arith, long, room))
  where
    not-above : (a b : ℕ) → nat_lt a b ≡ false → b ≤ a
    not-above a b h = grind (arith, nat_tests)
