-- What was handed out came, once each and in order: the frames that are read stand first in the octets of their link. What is
-- known of them, and what a step leaves of it.
use Rattle.std.proofs.Common.{◌≡◌, ◌⊎◌, ◌≤◌, inl, inr, ℕ, not, if◌then◌else◌, Bool, true, false, true≢false, List, [], ◌∷◌, ◌++◌, length, length-append, drop, map, refl, ap, sym, ◌∙◌, subst, arith}
use Rattle.std.specs.Map.{keys_of}
use Rattle.std.proofs.lemmas.List.{append-nil, drop-append-le}
use Rattle.std.proofs.lemmas.Grind.{flat_map-append}
use Rattle.amqp_frame.specs.declared.frame.Frame.{Frame}
use Rattle.amqp_frame.specs.Sequences.{Stand}
use Rattle.amqp_frame.proofs.Sequences.{stand-stays}
use Rattle.amqp_promise.specs.declared.io_fault.IoFault.TheVariants.{Aborted, Reset}
use Rattle.amqp_commands.specs.declared.command.Cmd.{Cmd}
use Rattle.amqp_answers.specs.declared.handed.Handed.{Handed}
use Rattle.amqp_auth.specs.declared.asked.Asked.{Asked}
use Rattle.amqp_rules.specs.Talk.{Talk, is_open, is_asked, drops_input, is_dropped_input}
use Rattle.amqp_rules.specs.Changes.{present_at}
use Rattle.amqp_rules.specs.ChannelMethods.{frames_of}
use Rattle.amqp_rules.specs.Links.{asked, linked, link_failed, piece, lost}
use Rattle.amqp_rules.specs.Ticks.{tick}
use Rattle.amqp_rules.specs.Commands.{command}
use Rattle.amqp_rules.specs.Sound.{Ascend}
use Rattle.amqp_types.proofs.Small.{if_case, if-true, if-false, and-true, and-false}
use Rattle.amqp_rules.proofs.Keeping.{present-keeps, kept-open, failed-keeps, lost-keeps, tick-keeps, stays-command}
use Rattle.amqp_carried_rules.specs.HandingOut.{handed_on}
use Rattle.amqp_carried_rules.proofs.Handing.{IsSameHanded, same-frames, command-handed, present-handed, linked-handed, failed-handed, piece-handed, lost-handed, tick-handed}
use Rattle.amqp_engine.specs.declared.port.Step.{Step}
use Rattle.amqp_engine.specs.declared.port.Step.TheVariants.{Linked, LinkFailed, Piece, End, Fault, Room, Tick, Command}
use Rattle.amqp_engine.specs.Log.{on_last}
use Rattle.amqp_engine.specs.Making.{keeps_unread}
use Rattle.amqp_engine.specs.Engine.{Engine, with_talk, rule_at, settle, step_engine, step_linked, step_questions}
use Rattle.amqp_engine.specs.Turn.{Progress, asks, wants_ask, goes, part, questioned, is_part, is_piece, step_part, read}
use Rattle.amqp_engine.specs.Carried.{IsSubsequence, raw_frames, concatenated, frame_of, longest_frame, StandOnLinks}
use Rattle.amqp_carried_rules.specs.CommandFrames.{answered_command}
use Rattle.amqp_engine.specs.Account.{step_came, command_of}
use Rattle.amqp_engine.proofs.Knowing.{IsBounded, room-kept, KeepsKnown, known-moment, known-link, known-refusal, known-received, known-loss, known-time}
use Rattle.amqp_engine.proofs.Parting.{Kept, told_more, Openings, openings-kept, openings-told}
use Rattle.amqp_engine.proofs.Cases.{no-command}
use Rattle.amqp_engine.proofs.Settling.{settle-talk, settle-unread}
use Rattle.amqp_rules.proofs.Lacking.{asked-open}
use Rattle.amqp_engine.proofs.LinkKept.{asked-not-open, kept-present, leaves-step}
use Rattle.amqp_engine.proofs.Sent.{on_last-append}

-- ---- links

pub links-push : (links : List (List ℕ)) (read : List (List Frame)) (octets : List ℕ) (fs : List Frame) (place : ℕ) → StandOnLinks links read
    → Stand octets longest_frame 0 fs place → StandOnLinks (links ++ octets ∷ []) (read ++ fs ∷ [])
links-push [] [] octets fs place h first = (place, first, tt)
links-push (x ∷ links) (y ∷ read) octets fs place h first = (h.0, h.1, links-push links read octets fs place h.2 first)
links-push [] (y ∷ read) octets fs place h first = absurd h
links-push (x ∷ links) [] octets fs place h first = absurd h

-- the last link, and those before it
record IsSplit (links : List (List ℕ)) (octets : List ℕ) (read : List (List Frame)) : Type 0 where
  earlier : List (List Frame)
  frames : List Frame
  place : ℕ
  all : read ≡ earlier ++ frames ∷ []
  before : StandOnLinks links earlier
  first : Stand octets longest_frame 0 frames place

links-split : (links : List (List ℕ)) (octets : List ℕ) (read : List (List Frame)) → StandOnLinks (links ++ octets ∷ []) read → IsSplit links octets read
links-split [] octets [] h = absurd h
links-split [] octets (fs ∷ []) h = record { earlier = []; frames = fs; place = h.0; all = refl; before = tt; first = h.1 }
links-split [] octets (fs ∷ (gs ∷ read)) h = absurd h.2
links-split (x ∷ links) octets [] h = absurd h
links-split (x ∷ links) octets (fs ∷ read) h =
    let s = links-split links octets read h.2 in
    record { earlier = fs ∷ s.earlier; frames = s.frames; place = s.place; all = ap (λ xs. fs ∷ xs) s.all; before = (h.0, h.1, s.before); first = s.first }

-- a list has a last element, or it is empty
last-or : {A : Type 0} (xs : List A) → (xs ≡ []) ⊎ ((before : List A) × (x : A) × (xs ≡ before ++ x ∷ []))
last-or [] = inl refl
last-or (x ∷ xs) =
    elim (last-or xs) [
      | inl same ↦ inr ([], x, ap (λ ys. x ∷ ys) same)
      | inr l ↦ inr (x ∷ l.0, l.1, ap (λ ys. x ∷ ys) l.2)
    ]

-- more octets come on the last link
links-more : (links : List (List ℕ)) (read : List (List Frame)) (bytes : List ℕ) → StandOnLinks links read → StandOnLinks (on_last (λ octets. octets ++ bytes) links) read
links-more links read bytes h =
    let f : List ℕ → List ℕ = λ octets. octets ++ bytes in
    let P : List (List ℕ) → Type 0 = λ xs. StandOnLinks xs read in
    elim (last-or links) [
      | inl same ↦ (let is : on_last f links ≡ links = ap (on_last f) same ∙ sym same in subst P (sym is) h)
      | inr l ↦
          (let s = links-split l.0 l.1 read (subst P l.2 h) in
          let is : on_last f links ≡ l.0 ++ (l.1 ++ bytes) ∷ [] = ap (on_last f) l.2 ∙ on_last-append f l.0 l.1 in
          let Q : List (List Frame) → Type 0 = λ fss. StandOnLinks (l.0 ++ (l.1 ++ bytes) ∷ []) fss in
          subst P (sym is) (subst Q (sym s.all) (links-push l.0 s.earlier (l.1 ++ bytes) s.frames s.place s.before (stand-stays l.1 bytes longest_frame 0 s.place s.frames s.first))))
    ]

-- ---- what is known

-- the open link is the last: the frames that were read stand first in its octets, and what is behind them is unread, unless input is dropped
pub record IsLastRead (e : Engine) (came : List (List ℕ)) (read : List (List Frame)) : Type 0 where
  pub before : List (List ℕ)
  pub octets : List ℕ
  pub came_is : came ≡ before ++ octets ∷ []
  pub earlier : List (List Frame)
  pub frames : List Frame
  pub read_is : read ≡ earlier ++ frames ∷ []
  pub links : StandOnLinks before earlier
  pub place : ℕ
  pub within : place ≤ length octets
  pub stand : Stand octets longest_frame 0 frames place
  pub unread : drops_input e.talk ≡ false → drop place octets ≡ e.unread
  pub dropped : drops_input e.talk ≡ true → e.unread ≡ []

-- where no more is read
pub last-kept : (e e' : Engine) (came : List (List ℕ)) (read : List (List Frame)) (l : IsLastRead e came read)
    → (drops_input e'.talk ≡ false → drop l.place l.octets ≡ e'.unread) → (drops_input e'.talk ≡ true → e'.unread ≡ []) → IsLastRead e' came read
last-kept e e' came read l unread dropped =
    record {
      before = l.before;
      octets = l.octets;
      came_is = l.came_is;
      earlier = l.earlier;
      frames = l.frames;
      read_is = l.read_is;
      links = l.links;
      place = l.place;
      within = l.within;
      stand = l.stand;
      unread = unread;
      dropped = dropped;
    }

-- what was handed out was read; of the open link this is known unless the turn was cut
pub record Came (whole : Bool) (given : Kept) (e : Engine) (came : List (List ℕ)) : Type 0 where
  pub room : IsBounded e.talk
  pub read : List (List Frame)
  pub handed : List (ℕ × Handed)
  pub each : (opened : ℕ) → handed_on opened handed ≡ given.given opened ++ frames_of opened e.talk
  pub order : IsSubsequence (map (λ h. frame_of h.1) handed) (raw_frames (concatenated read))
  pub sorted : Ascend (keys_of e.talk.handed)
  pub links : StandOnLinks came read
  pub last : whole ≡ true → is_open e.talk ≡ true → IsLastRead e came read
  pub openings : Openings given e.talk handed

-- a change by which nothing is read or handed out
pub record Stays (e e' : Engine) : Type 0 where
  pub handed : IsSameHanded e.talk e'.talk
  pub opened : is_open e'.talk ≡ true → is_open e.talk ≡ true
  pub input : is_open e'.talk ≡ true → e'.talk.input ≡ e.talk.input
  pub unread : is_open e'.talk ≡ true → drops_input e'.talk ≡ false → e'.unread ≡ e.unread
  pub dropped : is_open e'.talk ≡ true → drops_input e'.talk ≡ true → e.unread ≡ [] → e'.unread ≡ []

module _ (given : Kept) (came : List (List ℕ)) where
  abbrev Now : Bool → Engine → Type 0
  Now whole e = Came whole given e came

  pub came-flag : (whole other : Bool) (e : Engine) → whole ≡ true → Now whole e → Now other e
  came-flag whole other e is h = record { room = h.room; read = h.read; handed = h.handed; each = h.each; order = h.order; sorted = h.sorted; links = h.links; last = λ any o. h.last is o; openings = h.openings }

  -- where what is known of the commands that were told changes with it
  pub came-with : (more : Kept) (whole : Bool) (e e' : Engine) → more.given ≡ given.given → Stays e e' → IsBounded e'.talk → (h : Now whole e)
      → Openings more e'.talk h.handed → Came whole more e' came
  came-with more whole e e' same s room h openings =
      record {
        room = room;
        read = h.read;
        handed = h.handed;
        each = λ opened.
            h.each opened ∙ ap (λ fs. given.given opened ++ fs) (sym (same-frames opened e.talk e'.talk s.handed))
            ∙ ap (λ (f : ℕ → List Handed). f opened ++ frames_of opened e'.talk) (sym same);
        order = h.order;
        sorted = subst (λ (hs : List (ℕ × List Handed)). Ascend (keys_of hs)) (sym s.handed) h.sorted;
        links = h.links;
        last = λ is o.
            (let l = h.last is (s.opened o) in
            last-kept e e' came h.read l (λ d. l.unread (sym (ap is_dropped_input (s.input o)) ∙ d) ∙ sym (s.unread o d))
            (λ d. s.dropped o d (l.dropped (sym (ap is_dropped_input (s.input o)) ∙ d))));
        openings = openings;
      }

  pub came-stays : (whole : Bool) (e e' : Engine) → Stays e e' → KeepsKnown e.talk e'.talk → Now whole e → Now whole e'
  came-stays whole e e' s n h = came-with given whole e e' refl s (n.room h.room) h (openings-kept given e.talk e'.talk h.handed n h.openings)

  -- the link is closed
  pub came-closed : (whole other : Bool) (e e' : Engine) → IsSameHanded e.talk e'.talk → is_open e'.talk ≡ false → KeepsKnown e.talk e'.talk → Now whole e → Now other e'
  came-closed whole other e e' same shut n h =
      record {
        room = n.room h.room;
        read = h.read;
        handed = h.handed;
        each = λ opened. h.each opened ∙ ap (λ fs. given.given opened ++ fs) (sym (same-frames opened e.talk e'.talk same));
        order = h.order;
        sorted = subst (λ (hs : List (ℕ × List Handed)). Ascend (keys_of hs)) (sym same) h.sorted;
        links = h.links;
        last = λ is o. absurd (true≢false (sym o ∙ shut));
        openings = openings-kept given e.talk e'.talk h.handed n h.openings;
      }

-- ---- what changes nothing

pub kept-unread : (x : Engine) → is_open (settle x).talk ≡ true → drops_input (settle x).talk ≡ false → (settle x).unread ≡ x.unread
kept-unread x o d =
    let talk = settle-talk x in
    let keeps : keeps_unread x.talk ≡ true = and-true (is_open x.talk) (not (drops_input x.talk)) (sym (ap is_open talk) ∙ o) (ap not (sym (ap drops_input talk) ∙ d)) in
    settle-unread x ∙ if-true (keeps_unread x.talk) x.unread [] keeps

pub none-unread : (x : Engine) → drops_input (settle x).talk ≡ true → (settle x).unread ≡ []
none-unread x d =
    let keeps : keeps_unread x.talk ≡ false = and-false (is_open x.talk) (not (drops_input x.talk)) (ap not (sym (ap drops_input (settle-talk x)) ∙ d)) in
    settle-unread x ∙ if-false (keeps_unread x.talk) x.unread [] keeps

pub settled-stays : (e x : Engine) → IsSameHanded e.talk x.talk → (is_open x.talk ≡ true → is_open e.talk ≡ true) → x.talk.input ≡ e.talk.input → x.unread ≡ e.unread → Stays e (settle x)
settled-stays e x same opened input unread =
    let talk = settle-talk x in
    record {
      handed = ap (λ (t : Talk). t.handed) talk ∙ same;
      opened = λ o. opened (sym (ap is_open talk) ∙ o);
      input = λ o. ap (λ (t : Talk). t.input) talk ∙ input;
      unread = λ o d. kept-unread x o d ∙ unread;
      dropped = λ o d z. none-unread x d;
    }

pub plain-stays : (e : Engine) (t : Talk) → IsSameHanded e.talk t → (is_open t ≡ true → is_open e.talk ≡ true) → t.input ≡ e.talk.input → Stays e (record e { talk = t })
plain-stays e t same opened input = record { handed = same; opened = opened; input = λ o. input; unread = λ o d. refl; dropped = λ o d z. z }

pub present-input : (at : ℕ) (t : Talk) → (present_at at t).input ≡ t.input
present-input at t = present-keeps (λ (x : Talk). x.input) at t (λ n. refl)

moment-stays : (at : ℕ) (e : Engine) → Stays e (rule_at at (λ t. t) e)
moment-stays at e = plain-stays e (present_at at e.talk) (present-handed at e.talk) (λ o. kept-open e.talk (present_at at e.talk) (kept-present at e.talk) o) (present-input at e.talk)

rule-handed : (at : ℕ) (f : Talk → Talk) (e : Engine) → IsSameHanded (present_at at e.talk) (f (present_at at e.talk)) → IsSameHanded e.talk (f (present_at at e.talk))
rule-handed at f e same = same ∙ present-handed at e.talk

pub asks-stays : (e : Engine) → Stays e (asks e)
asks-stays e =
    if_case (λ (x : Engine). Stays e x) (wants_ask e) (with_talk asked e) e (plain-stays e (asked e.talk) refl (λ o. sym (asked-open e.talk.link) ∙ o) refl)
    (plain-stays e e.talk refl (λ o. o) refl)

pub told-stays : (c : Cmd) (e : Engine) → Stays e (with_talk (command c) e)
told-stays c e = plain-stays e (command c e.talk) (command-handed c e.talk) (λ o. kept-open e.talk (command c e.talk) (inl (stays-command c e.talk).link) o) (stays-command c e.talk).input

-- a step but a piece, and a link that comes
step-stays : (at : ℕ) (step : Step) (bytes : List ℕ) (answers : List Asked) (e : Engine) → is_piece step ≡ false → (step ≡ Linked → is_asked e.talk ≡ false)
    → Stays e (step_engine at step bytes answers e)
step-stays at (Piece n) bytes answers e plain unlinked = absurd (true≢false plain)
step-stays at Linked bytes answers e plain unlinked =
    let P : Engine → Type 0 = λ x. Stays e x in
    subst P (sym (if-false (is_asked e.talk) _ (rule_at at (λ t. t) e) (unlinked refl))) (moment-stays at e)
step-stays at LinkFailed bytes answers e plain unlinked =
    let t = present_at at e.talk in
    let x = rule_at at link_failed e in
    settled-stays e x (rule-handed at link_failed e (failed-handed t)) (λ o. (leaves-step at LinkFailed bytes answers e unlinked (ap is_open (settle-talk x) ∙ o)).opened)
    (failed-keeps (λ (y : Talk). y.input) (λ y s l cs ps ns. refl) (λ y n. refl) t ∙ present-input at e.talk) refl
step-stays at End bytes answers e plain unlinked =
    let t = present_at at e.talk in
    let x = rule_at at (lost Aborted) e in
    settled-stays e x (rule-handed at (lost Aborted) e (lost-handed Aborted t)) (λ o. (leaves-step at End bytes answers e unlinked (ap is_open (settle-talk x) ∙ o)).opened)
    (lost-keeps (λ (y : Talk). y.input) (λ y s l cs ps b q ms n o ns. refl) Aborted t ∙ present-input at e.talk) refl
step-stays at Fault bytes answers e plain unlinked =
    let t = present_at at e.talk in
    let x = rule_at at (lost Reset) e in
    settled-stays e x (rule-handed at (lost Reset) e (lost-handed Reset t)) (λ o. (leaves-step at Fault bytes answers e unlinked (ap is_open (settle-talk x) ∙ o)).opened)
    (lost-keeps (λ (y : Talk). y.input) (λ y s l cs ps b q ms n o ns. refl) Reset t ∙ present-input at e.talk) refl
step-stays at Room bytes answers e plain unlinked = moment-stays at e
step-stays at Tick bytes answers e plain unlinked =
    let t = present_at at e.talk in
    let x = rule_at at (tick answers) e in
    settled-stays e x (rule-handed at (tick answers) e (tick-handed answers t)) (λ o. (leaves-step at Tick bytes answers e unlinked (ap is_open (settle-talk x) ∙ o)).opened)
    (tick-keeps (λ (y : Talk). y.input) (λ y s l cs ps b q ms n o ns. refl) (λ y q n m b. refl) answers t ∙ present-input at e.talk) refl
step-stays at (Command c) bytes answers e plain unlinked =
    let t = present_at at e.talk in
    plain-stays e (command c t) (rule-handed at (command c) e (command-handed c t)) (λ o. (leaves-step at (Command c) bytes answers e unlinked o).opened) ((stays-command c t).input ∙ present-input at e.talk)

-- ---- the step

module _ (given : Kept) (whole : Bool) (at : ℕ) (bytes : List ℕ) (e : Engine) (came : List (List ℕ)) (h : Came true given e came) where
  -- the link that was asked for is there
  came-linked : is_asked e.talk ≡ true → Came whole given (record { talk = linked (present_at at e.talk); unread = []; place = 0; unsent = []; starved = e.starved }) (came ++ [] ∷ [])
  came-linked is =
      let t = linked (present_at at e.talk) in
      let same : IsSameHanded e.talk t = linked-handed (present_at at e.talk) ∙ present-handed at e.talk in
      record {
        room = (known-link at e).room h.room;
        read = h.read ++ [] ∷ [];
        handed = h.handed;
        each = λ opened. h.each opened ∙ ap (λ fs. given.given opened ++ fs) (sym (same-frames opened e.talk t same));
        order = subst (λ (fs : List Frame). IsSubsequence (map (λ h. frame_of h.1) h.handed) (raw_frames fs)) (sym (flat_map-append (λ x. x) h.read ([] ∷ []) ∙ append-nil (concatenated h.read))) h.order;
        sorted = subst (λ (hs : List (ℕ × List Handed)). Ascend (keys_of hs)) (sym same) h.sorted;
        links = links-push came h.read [] [] 0 h.links refl;
        last = λ any o.
            record { before = came; octets = []; came_is = refl; earlier = h.read; frames = []; read_is = refl; links = h.links; place = 0; within = omega arith; stand = refl; unread = λ d. refl; dropped = λ d. refl };
        openings = openings-kept given e.talk t h.handed (known-link at e) h.openings;
      }

  -- it would be, but nothing was done
  came-unlinked : is_asked e.talk ≡ true → Came whole given e (came ++ [] ∷ [])
  came-unlinked is =
      record {
        room = h.room;
        read = h.read ++ [] ∷ [];
        handed = h.handed;
        each = h.each;
        order = subst (λ (fs : List Frame). IsSubsequence (map (λ h. frame_of h.1) h.handed) (raw_frames fs)) (sym (flat_map-append (λ x. x) h.read ([] ∷ []) ∙ append-nil (concatenated h.read))) h.order;
        sorted = h.sorted;
        links = links-push came h.read [] [] 0 h.links refl;
        last = λ any o. absurd (asked-not-open e.talk.link is o);
        openings = h.openings;
      }

  -- a piece comes on the open link, and is not received
  came-passed : whole ≡ false → Came whole given e (on_last (λ octets. octets ++ bytes) came)
  came-passed off =
      record {
        room = h.room;
        read = h.read;
        handed = h.handed;
        each = h.each;
        order = h.order;
        sorted = h.sorted;
        links = links-more came h.read bytes h.links;
        last = λ is o. absurd (true≢false (sym is ∙ off));
        openings = h.openings;
      }

  -- a piece is received
  came-piece : is_open e.talk ≡ true → Came whole given (settle (record e { talk = piece (present_at at e.talk); unread = e.unread ++ bytes })) (on_last (λ octets. octets ++ bytes) came)
  came-piece opened =
      let x : Engine = record e { talk = piece (present_at at e.talk); unread = e.unread ++ bytes } in
      let f : List ℕ → List ℕ = λ octets. octets ++ bytes in
      let l = h.last refl opened in
      let same : IsSameHanded e.talk (settle x).talk = ap (λ (t : Talk). t.handed) (settle-talk x) ∙ piece-handed (present_at at e.talk) ∙ present-handed at e.talk in
      let input : (settle x).talk.input ≡ e.talk.input =
      ap (λ (t : Talk). t.input) (settle-talk x) ∙ if_case (λ (y : Talk). y.input ≡ (present_at at e.talk).input) (is_open (present_at at e.talk)) _ (present_at at e.talk) refl refl ∙ present-input at e.talk in
      record {
        room = (known-received at (e.unread ++ bytes) e).room h.room;
        read = h.read;
        handed = h.handed;
        each = λ opened. h.each opened ∙ ap (λ fs. given.given opened ++ fs) (sym (same-frames opened e.talk (settle x).talk same));
        order = h.order;
        sorted = subst (λ (hs : List (ℕ × List Handed)). Ascend (keys_of hs)) (sym same) h.sorted;
        links = links-more came h.read bytes h.links;
        last = λ any o.
            record {
              before = l.before;
              octets = l.octets ++ bytes;
              came_is = ap (on_last f) l.came_is ∙ on_last-append f l.before l.octets;
              earlier = l.earlier;
              frames = l.frames;
              read_is = l.read_is;
              links = l.links;
              place = l.place;
              within = omega (arith, l.within, length-append l.octets bytes);
              stand = stand-stays l.octets bytes longest_frame 0 l.place l.frames l.stand;
              unread = λ d. drop-append-le l.place l.octets bytes l.within ∙ ap (λ xs. xs ++ bytes) (l.unread (sym (ap is_dropped_input input) ∙ d)) ∙ sym (kept-unread x o d);
              dropped = λ d. none-unread x d;
            };
        openings = openings-kept given e.talk (settle x).talk h.handed (known-received at (e.unread ++ bytes) e) h.openings;
      }

-- no command is told
came-none : (given : Kept) (whole : Bool) (e : Engine) (before came : List (List ℕ)) → Came whole given e came → Came whole (told_more [] before given) e came
came-none given whole e before came h =
    let P : List Cmd → Type 0 = λ cs. Came whole (record given { commands = cs }) e came in
    subst P (sym (append-nil given.commands)) h

-- a command is told, when what was handed out so far had come
pub came-told : (given : Kept) (c : Cmd) (e : Engine) (came : List (List ℕ)) → Came true given e came → Came true (told_more (answered_command c) came given) (with_talk (command c) e) came
came-told given c e came h =
    came-with given came (told_more (answered_command c) came given) true e (with_talk (command c) e) refl (told-stays c e) (room-kept e.talk (command c e.talk) (stays-command c e.talk).capacity h.room) h
    (openings-told given c e.talk h.handed came (record { read = h.read; stand = h.links; order = h.order }) h.openings)

-- a step is taken that tells nothing
came-plain : (given : Kept) (whole : Bool) (at : ℕ) (step : Step) (bytes : List ℕ) (answers : List Asked) (e : Engine) (came : List (List ℕ)) → is_piece step ≡ false → (step ≡ Linked → is_asked e.talk ≡ false)
    → KeepsKnown e.talk (step_engine at step bytes answers e).talk → Came true given e came → Came whole given (step_engine at step bytes answers e) came
came-plain given whole at step bytes answers e came plain unlinked n h =
    let y = step_engine at step bytes answers e in
    came-flag given came true whole y refl (came-stays given came true e y (step-stays at step bytes answers e plain unlinked) n h)

-- the moment comes
came-moment : (given : Kept) (whole : Bool) (at : ℕ) (e : Engine) (came : List (List ℕ)) → Came true given e came → Came whole given (rule_at at (λ t. t) e) came
came-moment given whole at e came h =
    let y = rule_at at (λ t. t) e in
    came-flag given came true whole y refl (came-stays given came true e y (moment-stays at e) (known-moment at e.talk) h)

came-link : (given : Kept) (whole : Bool) (at : ℕ) (bytes : List ℕ) (e : Engine) (came : List (List ℕ)) → Came true given e came → Came whole given (step_linked at e) (if is_asked e.talk then came ++ [] ∷ [] else came)
came-link given whole at bytes e came h = by (is_asked e.talk) refl where
  x : Engine
  x = record { talk = linked (present_at at e.talk); unread = []; place = 0; unsent = []; starved = e.starved }

  by : (b : Bool) → is_asked e.talk ≡ b → Came whole given (step_linked at e) (if b then came ++ [] ∷ [] else came)
  by true is =
      let P : Engine → Type 0 = λ y. Came whole given y (came ++ [] ∷ []) in
      subst P (sym (if-true (is_asked e.talk) x (rule_at at (λ t. t) e) is)) (came-linked given whole at bytes e came h is)
  by false is =
      let P : Engine → Type 0 = λ y. Came whole given y came in
      subst P (sym (if-false (is_asked e.talk) x (rule_at at (λ t. t) e) is)) (came-moment given whole at e came h)

came-bytes : (given : Kept) (whole : Bool) (at n : ℕ) (bytes : List ℕ) (answers : List Asked) (e : Engine) (came : List (List ℕ)) → Came true given e came
    → Came whole given (step_engine at (Piece n) bytes answers e) (step_came (Piece n) bytes e came)
came-bytes given whole at n bytes answers e came h = by (is_open e.talk) refl where
  now : List (List ℕ)
  now = on_last (λ octets. octets ++ bytes) came

  x : Engine
  x = settle (record e { talk = piece (present_at at e.talk); unread = e.unread ++ bytes })

  y : Engine
  y = rule_at at (λ t. t) e

  by : (b : Bool) → is_open e.talk ≡ b → Came whole given (if is_open e.talk then x else y) (if b then now else came)
  by true is =
      let P : Engine → Type 0 = λ z. Came whole given z now in
      subst P (sym (if-true (is_open e.talk) x y is)) (came-piece given whole at bytes e came h is)
  by false is =
      let P : Engine → Type 0 = λ z. Came whole given z came in
      subst P (sym (if-false (is_open e.talk) x y is)) (came-moment given whole at e came h)

-- a step is taken
came-after : (given : Kept) (whole : Bool) (at : ℕ) (step : Step) (bytes : List ℕ) (answers : List Asked) (e : Engine) (came : List (List ℕ)) → Came true given e came
    → Came whole (told_more (command_of step) came given) (step_engine at step bytes answers e) (step_came step bytes e came)
came-after given whole at Linked bytes answers e came h = came-none given whole _ came _ (came-link given whole at bytes e came h)
came-after given whole at (Piece n) bytes answers e came h = came-none given whole _ came _ (came-bytes given whole at n bytes answers e came h)
came-after given whole at LinkFailed bytes answers e came h =
    came-none given whole _ came came (came-plain given whole at LinkFailed bytes answers e came refl (λ is. absurd cc) (known-refusal at e) h)
came-after given whole at End bytes answers e came h =
    came-none given whole _ came came (came-plain given whole at End bytes answers e came refl (λ is. absurd cc) (known-loss at Aborted e) h)
came-after given whole at Fault bytes answers e came h =
    came-none given whole _ came came (came-plain given whole at Fault bytes answers e came refl (λ is. absurd cc) (known-loss at Reset e) h)
came-after given whole at Room bytes answers e came h = came-none given whole _ came came (came-moment given whole at e came h)
came-after given whole at Tick bytes answers e came h =
    came-none given whole _ came came (came-plain given whole at Tick bytes answers e came refl (λ is. absurd cc) (known-time at answers e) h)
came-after given whole at (Command c) bytes answers e came h =
    let y = rule_at at (λ t. t) e in
    let z = step_engine at (Command c) bytes answers e in
    let more : Kept = told_more (answered_command c) came given in
    came-flag more came true whole z refl (came-told given c y came (came-moment given true at e came h))

-- the turn is cut before its step
came-cut : (given : Kept) (at : ℕ) (step : Step) (bytes : List ℕ) (e : Engine) (came : List (List ℕ)) → Came true given e came → Came false given e (step_came step bytes e came)
came-cut given at Linked bytes e came h = by (is_asked e.talk) refl where
  by : (b : Bool) → is_asked e.talk ≡ b → Came false given e (if b then came ++ [] ∷ [] else came)
  by true is = came-unlinked given false at bytes e came h is
  by false is = came-flag given came true false e refl h
came-cut given at (Piece n) bytes e came h =
    if_case (λ (links : List (List ℕ)). Came false given e links) (is_open e.talk) (on_last (λ octets. octets ++ bytes) came) came
    (came-passed given false at bytes e came h refl) (came-flag given came true false e refl h)
came-cut given at LinkFailed bytes e came h = came-flag given came true false e refl h
came-cut given at End bytes e came h = came-flag given came true false e refl h
came-cut given at Fault bytes e came h = came-flag given came true false e refl h
came-cut given at Room bytes e came h = came-flag given came true false e refl h
came-cut given at Tick bytes e came h = came-flag given came true false e refl h
came-cut given at (Command c) bytes e came h = came-flag given came true false e refl h

pub came-part : (given : Kept) (step : Step) (bytes : List ℕ) (p : Progress) (came : List (List ℕ)) → Came true given p.engine came
    → Came (goes (step_part step bytes p)) (told_more (if goes p then command_of step else []) came given) (step_part step bytes p).engine (step_came step bytes p.engine came)
came-part given step bytes p came h = by (is_part step p.engine) (goes p) refl refl where
  after : Engine
  after = step_engine p.at step bytes p.answers p.engine

  now : List (List ℕ)
  now = step_came step bytes p.engine came

  q : Bool → Bool → Progress
  q b g = if b then (if g then part after (questioned (step_questions p.at step p.answers p.engine) p) else p) else record p { engine = after }

  cut : (b : Bool) → b ≡ false → Came b (told_more [] came given) p.engine now
  cut false is = came-none given false p.engine came now (came-cut given p.at step bytes p.engine came h)
  cut true is = absurd (true≢false is)

  by : (b g : Bool) → is_part step p.engine ≡ b → goes p ≡ g → Came (goes (q b g)) (told_more (if g then command_of step else []) came given) (q b g).engine now
  by true true is on = came-after given _ p.at step bytes p.answers p.engine came h
  by true false is off = cut (goes p) off
  by false true is on = came-after given _ p.at step bytes p.answers p.engine came h
  by false false is off =
      let P : List Cmd → Type 0 = λ cs. Came (goes (q false false)) (told_more cs came given) after now in
      subst P (no-command step p.engine is) (came-after given _ p.at step bytes p.answers p.engine came h)
