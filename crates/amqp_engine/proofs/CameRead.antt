-- What was handed out came: reading, writing, and a whole turn.
use Rattle.std.proofs.Common.{◌≡◌, ◌≤◌, inl, inr, ℕ, zero, suc, ◌+◌, ◌&&◌, if◌then◌else◌, Bool, true, false, List, [], ◌∷◌, ◌++◌, length, drop, map, Option, Some, None, refl, ap, sym, ◌∙◌, subst, append_assoc, arith, length-drop}
use Rattle.std.specs.Map.{keys_of}
use Rattle.std.proofs.lemmas.List.{append-nil, drop-drop, map-append}
use Rattle.std.proofs.lemmas.List.Elements.{filter-append}
use Rattle.std.proofs.lemmas.Grind.{flat_map-append}
use Rattle.amqp_frame.specs.declared.frame.Frame.{Frame}
use Rattle.amqp_frame.specs.declared.frame.Frame.TheVariants.{ProtocolHeader, Method, Raw, Heartbeat}
use Rattle.amqp_frame.specs.declared.frame.RawKind.{RawKind}
use Rattle.amqp_frame.specs.declared.frame.Read.{Read}
use Rattle.amqp_frame.specs.declared.frame.Read.TheVariants.{Whole, More, TooLarge, BadHeartbeat, Bad, NoMemory as ReadNoMemory}
use Rattle.amqp_frame.specs.FrameReading.{front}
use Rattle.amqp_frame.specs.Sequences.{Stand}
use Rattle.amqp_frame.proofs.FrontStays.{front-none}
use Rattle.amqp_frame.proofs.Sequences.{frame-size, stand-push}
use Rattle.amqp_promise.specs.declared.error.ErrorKind.TheVariants.{SerialisationError}
use Rattle.amqp_promise.specs.declared.io_fault.IoFault.TheVariants.{BrokenPipe}
use Rattle.amqp_channels.specs.declared.channels.Channel.{Channel}
use Rattle.amqp_answers.specs.declared.handed.Handed.{Handed}
use Rattle.amqp_violations.specs.declared.misread.Misread.{Misread}
use Rattle.amqp_violations.specs.declared.misread.Misread.TheVariants as misreads
use Rattle.amqp_auth.specs.declared.asked.Asked.{Asked}
use Rattle.amqp_rules.specs.Talk.{Talk, acts, is_open, has_ended, drops_input}
use Rattle.amqp_settings.specs.Capacities.{greatest_capacity}
use Rattle.amqp_rules.specs.Negotiation.{frame_limit}
use Rattle.amqp_rules.specs.Changes.{present_at, starve}
use Rattle.amqp_rules.specs.Channels.{channel_at}
use Rattle.amqp_rules.specs.ChannelMethods.{heard_on, frames_of}
use Rattle.amqp_rules.specs.Frames.{on_frame}
use Rattle.amqp_rules.specs.Links.{misread, lost}
use Rattle.amqp_rules.specs.Sound.{Ascend}
use Rattle.amqp_rules.specs.Writing.{frames_waiting, taken, end_overlong}
use Rattle.amqp_types.proofs.Small.{if-true, if-false, and-left, and-right}
use Rattle.amqp_rules.proofs.Keeping.{kept-open, lost-keeps, off-lost, starve-ends}
use Rattle.amqp_rules.proofs.Sending.{taken-keeps}
use Rattle.amqp_carried_rules.specs.HandingOut.{HandedOut, handed_of, hands_out, handed_on}
use Rattle.amqp_carried_rules.specs.CommandFrames.{is_raw}
use Rattle.amqp_carried_rules.proofs.Handing.{as_pairs, Hands, IsSameHanded, same-frames, handed_on-append, frame-hands, present-handed, lost-handed, misread-handed, taken-handed, overlong-handed, starve-handed}
use Rattle.amqp_engine.specs.declared.port.Wrote.{Wrote}
use Rattle.amqp_engine.specs.declared.port.Wrote.TheVariants.{Took, Failed, NoMemory}
use Rattle.amqp_engine.specs.Plan.{at_most_64}
use Rattle.amqp_engine.specs.Engine.{Engine, with_talk, rule_at, settle, front_of, can_read, read_one, read_row, read_badly, commit_all, overlong_next, ended_overlong, refuse_overlong, can_write, took}
use Rattle.amqp_engine.specs.Turn.{Turn, write_answers, Progress, begun, goes, is_before, is_piece, step_part, reads, read_part, reading, offered, answered, offer_part, drained, is_all, AreAnswers, read, after_writes, applied, starved_after, IsApplied}
use Rattle.amqp_engine.specs.Carried.{IsSubsequence, none, kept, left_out, raw_frames, concatenated, frame_of, longest_frame, StandOnLinks}
use Rattle.amqp_engine.specs.Account.{step_came, commands_in}
use Rattle.amqp_engine.proofs.Settling.{settle-talk}
use Rattle.amqp_engine.proofs.FrontWider.{front-wider}
use Rattle.amqp_engine.proofs.Commits.{commits-keep}
use Rattle.amqp_engine.proofs.LinkKept.{kept-answered}
use Rattle.amqp_engine.proofs.Lifting.{all-rest, stays-drained, read-cut}
use Rattle.amqp_engine.proofs.Over.{ended-closed}
use Rattle.amqp_commands.specs.declared.command.Cmd.{Cmd}
use Rattle.std.specs.List.{AllByRecursion}
use Rattle.amqp_carried_rules.proofs.Entries.{each-at}
use Rattle.amqp_carried_rules.proofs.Openers.{IsLatest, KnowsOpeners}
use Rattle.amqp_engine.proofs.Knowing.{untaken, IsBounded, known-moment, known-heard, known-no-frame, known-settled, known-ended, known-answered, known-starved}
use Rattle.amqp_engine.proofs.Parting.{Kept, told_more, IsByLatest, Openings, openings-kept, openings-more}
use Rattle.amqp_engine.proofs.CameIn.{links-push, IsLastRead, last-kept, Came, Stays, came-flag, came-stays, came-closed, kept-unread, none-unread, settled-stays, present-input, came-part}
use Rattle.amqp_rules.proofs.SoundFrames.{heard-listed}

-- ---- reading

-- within two lists, one after the other
within-append : {A : Type 0} {ws xs ys zs : List A} → IsSubsequence ws xs → IsSubsequence ys zs → IsSubsequence (ws ++ ys) (xs ++ zs)
within-append none more = more
within-append (kept h) more = kept (within-append h more)
within-append (left_out h) more = left_out (within-append h more)

channel-read : (o : Option Channel) (n : ℕ) (kind : RawKind) (bytes : List ℕ)
    → IsSubsequence (map (λ h. frame_of h.1) (as_pairs (handed_of o (record { channel = n; kind = kind; bytes = bytes })))) (Raw n kind bytes ∷ [])
channel-read None n kind bytes = left_out none
channel-read (Some c) n kind bytes = kept none

-- what a frame hands out is that frame
frame-read : (f : Frame) (t : Talk) → IsSubsequence (map (λ h. frame_of h.1) (as_pairs (hands_out f t))) (raw_frames (f ∷ []))
frame-read (ProtocolHeader version) t = none
frame-read Heartbeat t = none
frame-read (Method n m) t = none
frame-read (Raw zero kind bytes) t = left_out none
frame-read (Raw (suc n) kind bytes) t = by (acts t)
  where
    hs : List HandedOut
    hs = handed_of (heard_on t.state (channel_at (suc n) t)) (record { channel = suc n; kind = kind; bytes = bytes })

    by : (b : Bool) → IsSubsequence (map (λ h. frame_of h.1) (as_pairs (if b then hs else []))) (Raw (suc n) kind bytes ∷ [])
    by true = channel-read (heard_on t.state (channel_at (suc n) t)) (suc n) kind bytes
    by false = left_out none

-- what a frame hands out is by the promise that opened its channel last
by-latest : (f : Frame) (t : Talk) (cs : List Cmd) (opens : ℕ → ℕ) → KnowsOpeners cs opens untaken t → AllByRecursion (IsByLatest cs opens) (as_pairs (hands_out f t))
by-latest (ProtocolHeader version) t cs opens k = tt
by-latest Heartbeat t cs opens k = tt
by-latest (Method n m) t cs opens k = tt
by-latest (Raw zero kind bytes) t cs opens k = tt
by-latest (Raw (suc n) kind bytes) t cs opens k = by (acts t) where
  h : Handed
  h = record { channel = suc n; kind = kind; bytes = bytes }

  one : (o : Option Channel) → heard_on t.state (channel_at (suc n) t) ≡ o → AllByRecursion (IsByLatest cs opens) (as_pairs (handed_of o h))
  one None heard = tt
  one (Some c) heard =
      (each-at (λ i (d : Channel). IsLatest cs opens i d.opened) (suc n) t.channels c k.listed (heard-listed t.state (channel_at (suc n) t) c heard), tt)

  by : (b : Bool) → AllByRecursion (IsByLatest cs opens) (as_pairs (if b then handed_of (heard_on t.state (channel_at (suc n) t)) h else []))
  by true = one (heard_on t.state (channel_at (suc n) t)) refl
  by false = tt

-- one frame more is read on the last link
joined-frame : (f : Frame) (earlier : List (List Frame)) (fs : List Frame) → concatenated (earlier ++ (fs ++ f ∷ []) ∷ []) ≡ concatenated (earlier ++ fs ∷ []) ++ f ∷ []
joined-frame f earlier fs =
    let own : List Frame → List Frame = λ xs. xs in
    flat_map-append own earlier ((fs ++ f ∷ []) ∷ []) ∙ ap (λ x. concatenated earlier ++ x) (append-nil (fs ++ f ∷ []))
    ∙ sym (append_assoc (concatenated earlier) fs (f ∷ []))
    ∙ ap (λ x. x ++ f ∷ []) (ap (λ x. concatenated earlier ++ x) (sym (append-nil fs)) ∙ sym (flat_map-append own earlier (fs ∷ [])))

module _ (given : Kept) (came : List (List ℕ)) (at : ℕ) (answers : List Asked) (e : Engine) (h : Came true given e came) (can : can_read e ≡ true) where
  opened : is_open e.talk ≡ true
  opened = and-left (is_open e.talk) _ can

  l : IsLastRead e came h.read
  l = h.last refl opened

  -- where input is dropped nothing can be read
  dropped-none : drops_input e.talk ≡ true → front_of e ≡ More
  dropped-none d = ap (λ xs. front xs (frame_limit e.talk)) (l.dropped d) ∙ front-none (frame_limit e.talk)

  heard-still : (b : Bool) → drops_input e.talk ≡ b → (r : Read) → front_of e ≡ r → (More ≡ r → ⊥) → drops_input e.talk ≡ false
  heard-still false d r is some = d
  heard-still true d r is some = absurd (some (sym (dropped-none d) ∙ is))

  -- a frame is read
  came-whole : (whole : Bool) (f : Frame) (n : ℕ) → front_of e ≡ Whole f n → Came whole given (read_row at (Whole f n) answers e) came
  came-whole whole f n is =
      let t = present_at at e.talk in
      let x : Engine = record e { talk = on_frame f answers t; unread = drop n e.unread; place = at_most_64 (e.place + n) } in
      let y : Engine = settle x in
      let hs = hands_out f t in
      let k : Hands hs t (on_frame f answers t) = frame-hands f answers t in
      let frame : ℕ × Handed → Frame = λ h. frame_of h.1 in
      let d : drops_input e.talk ≡ false = heard-still (drops_input e.talk) refl (Whole f n) is (λ clash. cc) in
      let more : (opened : ℕ) → frames_of opened y.talk ≡ frames_of opened e.talk ++ handed_on opened (as_pairs hs) =
      λ opened. ap (frames_of opened) (settle-talk x) ∙ k.frames opened ∙ ap (λ fs. fs ++ handed_on opened (as_pairs hs)) (same-frames opened e.talk t (present-handed at e.talk)) in
      let read : List (List Frame) = l.earlier ++ (l.frames ++ f ∷ []) ∷ [] in
      let all : concatenated read ≡ concatenated h.read ++ f ∷ [] = joined-frame f l.earlier l.frames ∙ ap (λ fss. concatenated fss ++ f ∷ []) (sym l.read_is) in
      let raw : raw_frames (concatenated read) ≡ raw_frames (concatenated h.read) ++ raw_frames (f ∷ []) = ap raw_frames all ∙ filter-append is_raw (concatenated h.read) (f ∷ []) in
      let limit : ℕ = frame_limit e.talk in
      let here : front (drop l.place l.octets) limit ≡ Whole f n = ap (λ xs. front xs limit) (l.unread d) ∙ is in
      let short : limit ≤ e.talk.capacity = omega arith in
      let room : e.talk.capacity ≤ greatest_capacity = h.room in
      let stand : Stand l.octets longest_frame 0 (l.frames ++ f ∷ []) (l.place + n) =
      stand-push l.octets longest_frame 0 l.place n l.frames f l.stand (front-wider (drop l.place l.octets) limit longest_frame n f (omega (arith, short, room)) here) in
      let L : List (List ℕ) → Type 0 = λ links. StandOnLinks links read in
      let T : Talk → Type 0 = λ u. Openings given u (h.handed ++ as_pairs hs) in
      let heard : Openings given (on_frame f answers t) (h.handed ++ as_pairs hs) =
      openings-more given e.talk (on_frame f answers t) h.handed (as_pairs hs) (known-heard at f answers e)
      (λ opens k. by-latest f t given.commands opens ((known-moment at e.talk).knows given.commands opens h.openings.sound k)) h.openings in
      record {
        room = subst (λ (u : Talk). IsBounded u) (sym (settle-talk x)) ((known-heard at f answers e).room h.room);
        read = read;
        handed = h.handed ++ as_pairs hs;
        each = λ opened.
            handed_on-append opened h.handed (as_pairs hs) ∙ ap (λ fs. fs ++ handed_on opened (as_pairs hs)) (h.each opened)
            ∙ append_assoc (given.given opened) (frames_of opened e.talk) (handed_on opened (as_pairs hs)) ∙ ap (λ fs. given.given opened ++ fs) (sym (more opened));
        order =
            subst (λ (fs : List Frame). IsSubsequence (map frame (h.handed ++ as_pairs hs)) fs) (sym raw)
            (subst (λ (fs : List Frame). IsSubsequence fs (raw_frames (concatenated h.read) ++ raw_frames (f ∷ []))) (sym (map-append frame h.handed (as_pairs hs))) (within-append h.order (frame-read f t)));
        sorted =
            subst (λ (u : Talk). Ascend (keys_of u.handed)) (sym (settle-talk x))
            (k.sorted (subst (λ (hs : List (ℕ × List Handed)). Ascend (keys_of hs)) (sym (present-handed at e.talk)) h.sorted));
        links = subst L (sym l.came_is) (links-push l.before l.earlier l.octets (l.frames ++ f ∷ []) (l.place + n) l.links stand);
        last = λ any o.
            record {
              before = l.before;
              octets = l.octets;
              came_is = l.came_is;
              earlier = l.earlier;
              frames = l.frames ++ f ∷ [];
              read_is = refl;
              links = l.links;
              place = l.place + n;
              within = omega (arith, (frame-size (drop l.place l.octets) limit n f here).1, length-drop l.place l.octets, l.within);
              stand = stand;
              unread = λ dd. sym (drop-drop n l.place l.octets) ∙ ap (drop n) (l.unread d) ∙ sym (kept-unread x o dd);
              dropped = λ dd. none-unread x dd;
            };
        openings = subst T (sym (settle-talk x)) heard;
      }

  -- what is no frame is read
  came-badly : (whole : Bool) (why : Misread) → drops_input e.talk ≡ false → Came whole given (read_badly at why e) came
  came-badly whole why d =
      let t = present_at at e.talk in
      let x : Engine = rule_at at (misread why) e in
      let same : IsSameHanded e.talk (settle x).talk = ap (λ (u : Talk). u.handed) (settle-talk x) ∙ misread-handed why t ∙ present-handed at e.talk in
      record {
        room = (known-no-frame at why e).room h.room;
        read = h.read;
        handed = h.handed;
        each = λ opened. h.each opened ∙ ap (λ fs. given.given opened ++ fs) (sym (same-frames opened e.talk (settle x).talk same));
        order = h.order;
        sorted = subst (λ (hs : List (ℕ × List Handed)). Ascend (keys_of hs)) (sym same) h.sorted;
        links = h.links;
        last = λ any o. last-kept e (settle x) came h.read l (λ dd. l.unread d ∙ sym (kept-unread x o dd)) (λ dd. none-unread x dd);
        openings = openings-kept given e.talk (settle x).talk h.handed (known-no-frame at why e) h.openings;
      }

  -- what stands at the front is read
  came-row : (whole : Bool) (r : Read) → front_of e ≡ r → Came whole given (read_row at r answers e) came
  came-row whole (Whole f n) is = came-whole whole f n is
  came-row whole More is = came-flag given came true whole e refl h
  came-row whole (TooLarge n) is = came-badly whole (misreads.TooLarge n) (heard-still (drops_input e.talk) refl (TooLarge n) is (λ clash. cc))
  came-row whole (BadHeartbeat c) is = came-badly whole (misreads.BadHeartbeat c) (heard-still (drops_input e.talk) refl (BadHeartbeat c) is (λ clash. cc))
  came-row whole Bad is = came-badly whole (misreads.Bad e.place) (heard-still (drops_input e.talk) refl Bad is (λ clash. cc))
  came-row whole ReadNoMemory is = came-badly whole (misreads.Bad e.place) (heard-still (drops_input e.talk) refl ReadNoMemory is (λ clash. cc))

  came-read : (whole : Bool) → Came whole given (read_one at answers e) came
  came-read whole = came-row whole (front_of e) refl

-- and so all that is read
came-reads : (given : Kept) (came : List (List ℕ)) (n : ℕ) (p : Progress) → Came (goes p) given p.engine came → Came (goes (reads n p)) given (reads n p).engine came
came-reads given came zero p h = h
came-reads given came (suc n) p h = by (goes p && can_read p.engine) refl (came-reads given came n (read_part p)) where
  by : (b : Bool) → (goes p && can_read p.engine) ≡ b
      → (Came (goes (read_part p)) given (read_part p).engine came → Came (goes (reads n (read_part p))) given (reads n (read_part p)).engine came)
      → (let q = if b then reads n (read_part p) else p in Came (goes q) given q.engine came)
  by true on rest =
      let going : goes p ≡ true = and-left (goes p) (can_read p.engine) on in
      let can : can_read p.engine ≡ true = and-right (goes p) (can_read p.engine) on in
      rest (came-read given came p.at p.answers p.engine (came-flag given came (goes p) true p.engine going h) can (goes (read_part p)))
  by false off rest = h

came-reading : (given : Kept) (came : List (List ℕ)) (b : Bool) (p : Progress) → Came (goes p) given p.engine came → Came (goes (reading b p)) given (reading b p).engine came
came-reading given came true p h = came-reads given came (length p.engine.unread) p h
came-reading given came false p h = h

-- ---- writing

commit-handed : (e : Engine) → IsSameHanded e.talk (commit_all e).talk
commit-handed e = commits-keep (λ (y : Engine). y.talk.handed) (λ y fs ms bytes. refl) (frames_waiting e.talk) e

commit-input : (e : Engine) → (commit_all e).talk.input ≡ e.talk.input
commit-input e = commits-keep (λ (y : Engine). y.talk.input) (λ y fs ms bytes. refl) (frames_waiting e.talk) e

pub commit-unread : (e : Engine) → (commit_all e).unread ≡ e.unread
commit-unread e = commits-keep (λ (y : Engine). y.unread) (λ y fs ms bytes. refl) (frames_waiting e.talk) e

took-stays : (at k : ℕ) (e : Engine) → (is_open (took at k (commit_all e)).talk ≡ true → is_open e.talk ≡ true) → Stays e (took at k (commit_all e))
took-stays at k e opened =
    let x = commit_all e in
    let t = present_at at x.talk in
    let y : Engine = record x { talk = taken k t; unsent = drop k x.unsent } in
    settled-stays e y (taken-handed k t ∙ present-handed at x.talk ∙ commit-handed e) (λ o. opened (ap is_open (settle-talk y) ∙ o))
    (taken-keeps (λ (z : Talk). z.input) (record { ends = λ z s l cs ps b q ms n o ns. refl; writes = λ z w ms. refl; moments = λ z n. refl }) k t ∙ present-input at x.talk ∙ commit-input e)
    (commit-unread e)

answered-stays : (at : ℕ) (w : Wrote) (e : Engine) → Stays e (answered at w e)
answered-stays at (Took k) e = took-stays at k e (λ o. kept-open e.talk (answered at (Took k) e).talk (kept-answered at (Took k) e) o)
answered-stays at NoMemory e = took-stays at 0 e (λ o. kept-open e.talk (answered at NoMemory e).talk (kept-answered at NoMemory e) o)
answered-stays at Failed e =
    let x = commit_all e in
    let t = present_at at x.talk in
    let y : Engine = rule_at at (lost BrokenPipe) x in
    settled-stays e y (lost-handed BrokenPipe t ∙ present-handed at x.talk ∙ commit-handed e)
    (λ o. kept-open e.talk (answered at Failed e).talk (kept-answered at Failed e) (ap is_open (settle-talk y) ∙ o))
    (lost-keeps (λ (z : Talk). z.input) (λ z s l cs ps b q ms n o ns. refl) BrokenPipe t ∙ present-input at x.talk ∙ commit-input e) (commit-unread e)

module _ (given : Kept) (came : List (List ℕ)) where
  -- a frame that is too long ends the session
  came-ended : (whole : Bool) (o : Option ℕ) (e : Engine) → Came whole given e came → Came whole given (ended_overlong o e) came
  came-ended whole None e h = h
  came-ended whole (Some size) e h =
      let x = commit_all e in
      let y = with_talk (end_overlong (Some size)) x in
      came-closed given came whole whole e (settle y) (ap (λ (t : Talk). t.handed) (settle-talk y) ∙ overlong-handed (Some size) x.talk ∙ commit-handed e)
      (ap is_open (settle-talk y) ∙ (off-lost (SerialisationError size) x.talk).opened) (known-settled e.talk y (known-ended size e)) h

  came-drain : (ws : List Wrote) (p : Progress) → AreAnswers ws p → Came (goes p) given p.engine came → Came (goes (drained ws p)) given (drained ws p).engine came
  came-drain [] p may h = by (goes p) refl where
    by : (b : Bool) → goes p ≡ b → (let q = if b then record p { engine = refuse_overlong p.engine } else p in Came (goes q) given q.engine came)
    by true on = came-ended (goes p) (overlong_next p.engine) p.engine h
    by false off = h
  came-drain (w ∷ ws) p may h =
      let going : goes p ≡ true = and-left (goes p) (can_write p.engine) may.0 in
      let q = offer_part w p in
      let next : Came (goes q) given q.engine came =
      came-flag given came true (goes q) q.engine refl (came-stays given came true p.engine q.engine (answered-stays p.at w p.engine) (known-answered p.at w p.engine) (came-flag given came (goes p) true p.engine going h)) in
      let all : Bool = is_all w (length (offered p.engine)) in
      let R : Progress → Type 0 = λ z. Came (goes z) given z.engine came in
      elim (all-rest all ws q may.2) [
        | inl x ↦ subst R (sym (if-false all (drained ws q) q x.0)) next
        | inr x ↦ subst R (sym (if-true all (drained ws q) q x.0)) (came-drain ws q x.1 next)
      ]

  -- memory was refused
  came-starved : (cut : Option ℕ) (at : ℕ) (q : Progress) → q.cut ≡ cut → Came (goes q) given q.engine came → Came true given (starved_after cut at q.engine) came
  came-starved None at q is h = came-flag given came (goes q) true q.engine (ap (λ (c : Option ℕ). is_before c q.done) is) h
  came-starved (Some j) at q is h =
      let t = present_at at q.engine.talk in
      came-closed given came (goes q) true q.engine (starved_after (Some j) at q.engine) (starve-handed t ∙ present-handed at q.engine.talk) (ended-closed (starve t).link (starve-ends t)) (known-starved at q.engine) h

-- ---- a turn

pub came-applied : (given : Kept) (came : List (List ℕ)) (u : Turn) (e : Engine) → has_ended e.talk ≡ false → IsApplied u e → Came true given e came
    → Came true (told_more (commands_in u) came given) (applied u e) (step_came u.step u.bytes e came)
came-applied given came u e running may h =
    let p : Progress = begun u.at u.notes.starved u.notes.auths e in
    let now : List (List ℕ) = step_came u.step u.bytes e came in
    let told : Kept = told_more (commands_in u) came given in
    let s : Progress = step_part u.step u.bytes p in
    let q : Progress = after_writes u e in
    let stepped : Came (goes s) told s.engine now = came-part given u.step u.bytes p came h in
    let heard : Came (goes (read u e)) told (read u e).engine now = came-reading told now (is_piece u.step) s stepped in
    let wrote_all : Came (goes q) told q.engine now = came-drain told now (write_answers u.notes) (read u e) may.answers heard in
    let is : q.cut ≡ u.notes.starved = stays-drained (λ (x : Progress). x.cut) (λ f n left qs x. refl) (write_answers u.notes) (read u e) ∙ read-cut u e in
    let P : Engine → Type 0 = λ x. Came true told x now in
    subst P (sym (if-false (has_ended e.talk) q.engine (starved_after u.notes.starved u.at q.engine) running)) (came-starved told now u.notes.starved u.at q is wrote_all)
