-- Frames that are sent, and what is then known of all links.
use Rattle.std.proofs.Common.{◌≡◌, ◌≢◌, ◌≤◌, ◌<◌, ◌⊎◌, inl, inr, ◌∙◌, ap, sym, subst, refl, ℕ, suc, ◌||◌, Bool, true, false, cond, List, [], ◌∷◌, ◌++◌, length, map, drop, Option, Some, None, Ok, append_assoc, append-nil, arith}
use Rattle.std.proofs.lemmas.Bool.{cases_eq}
use Rattle.std.proofs.lemmas.List.Concat.{flat_map-append}
use Rattle.std.specs.List.{AllByRecursion}
use Rattle.amqp_frame.specs.declared.frame.Frame.{Frame}
use Rattle.amqp_outbox.specs.declared.item.Item.{Item}
use Rattle.amqp_promise.specs.declared.state.ConnectionState.{ConnectionState}
use Rattle.amqp_channels.specs.declared.channels.Channel.{Channel}
use Rattle.amqp_outgoing.specs.declared.committed.Mark.{Mark}
use Rattle.amqp_outgoing.specs.declared.committed.Then.{Then}
use Rattle.amqp_outgoing.specs.declared.committed.Then.TheVariants.{Nothing, Answer, Pays, Finish}
use Rattle.amqp_answers.specs.declared.answer.Answer.TheVariants.{Sent}
use Rattle.amqp_commands.specs.declared.command.Cmd.{Cmd}
use Rattle.amqp_commands.specs.declared.command.Cmd.TheVariants.{Send, Publish}
use Rattle.amqp_maps.specs.Listed.{at, put}
use Rattle.amqp_rules.specs.Talk.{Talk, is_open}
use Rattle.amqp_answers.specs.Settled.{Promises, settled, settled_by}
use Rattle.amqp_rules.specs.Changes.{give, tell_owed}
use Rattle.amqp_rules.specs.Channels.{channel_at, set_channel}
use Rattle.amqp_outgoing.specs.Marks.{then_of, answers}
use Rattle.amqp_rules.specs.Writing.{pay, follow, sent}
use Rattle.amqp_carried_rules.specs.CommandFrames.{AreFramesOf, is_publish, is_raw, is_sent}
use Rattle.amqp_types.proofs.Small.{all-push, or-right}
use Rattle.amqp_maps.proofs.Numbered.{put-same}
use Rattle.amqp_carried_rules.proofs.Bearing.{floor-own, settled-elsewhere, command_at, Reading, floor, closed, Lines, other, more, whole, IsPart, Ends, Bears, IsAt, Grows, told-made, same-command, floors-rise}
use Rattle.amqp_carried_rules.proofs.Queueing.{content-raw, open-before, same-grows}
use Rattle.amqp_carried_rules.proofs.Borne.{floor-send, floor-publish}
use Rattle.amqp_carried_rules.proofs.Bearers.{moved, at-finish}
use Rattle.amqp_carried_rules.proofs.Leaving.{answer-promise, raw-then, lines-from, lane-from, groups-from}
use Rattle.amqp_engine.specs.Carried.{raw_frames, concatenated}
use Rattle.amqp_engine.proofs.History.{marked, marked-here, marked-other, Past, past-flow, past-whole}
use Rattle.amqp_rules.proofs.Walk.{pay-case}
use Rattle.amqp_rules.specs.ChannelMethods.{remove_channel}
use Rattle.amqp_channels.specs.declared.channels.Debt.TheVariants as debt
use Rattle.amqp_engine.proofs.Committing.{all-last}

-- ---- links

-- the first frames of a publish whose promise is not answered Sent, with a number below another
pub record IsTornBelow (cs : List Cmd) (answered : ℕ → Bool) (low : ℕ) (part : List Frame) : Type 0 where
  pub command : Cmd
  pub number : ℕ
  pub told : command_at cs number ≡ Some command
  pub publish : is_publish command ≡ true
  pub unanswered : answered number ≡ false
  pub below : number < low
  pub rest : List Frame
  pub proper : rest ≢ []
  pub frames : AreFramesOf command (part ++ rest)

-- what was sent on a link that is over: whole frames, and then perhaps such a part
pub record IsOver (cs : List Cmd) (answered : ℕ → Bool) (low : ℕ) (fs kept : List Frame) : Type 0 where
  pub part : List Frame
  pub frames : fs ≡ kept ++ part
  pub torn : (part ≡ []) ⊎ IsTornBelow cs answered low part

abbrev pub AreOver : List Cmd → (ℕ → Bool) → ℕ → List (List Frame) → List (List Frame) → Type 0
AreOver cs answered low [] [] = Unit {0}
AreOver cs answered low (fs ∷ links) (ks ∷ kept) = IsOver cs answered low fs ks × AreOver cs answered low links kept
AreOver cs answered low _ _ = ⊥

-- the first frames of a publish of a number from one on
pub record IsOpenAt (cs : List Cmd) (answered : ℕ → Bool) (r : Reading) : Type 0 where
  pub torn : IsTornBelow cs answered (suc (length cs)) r.part
  pub above : r.publishes ≤ torn.number

-- what is known of all links: of those before the last, and of what was sent so far on the last
pub record IsKnown (cs : List Cmd) (answered : ℕ → Bool) (r : Reading) (before : List (List Frame)) (sofar : List Frame) : Type 0 where
  -- command after command, their frames: on each link before the last, and on the last
  pub order : List (List (List Frame))
  pub last : List (List Frame)
  pub some : AllByRecursion (λ fs. fs ≢ []) last
  pub over : AreOver cs answered r.publishes before (map concatenated order)
  pub past : Past cs answered r (concatenated order ++ last)
  pub unclosed : (r.part ≡ []) ⊎ IsOpenAt cs answered r
  pub split : sofar ≡ concatenated last ++ r.part

-- ---- what follows a frame that answers no promise

module _ (cs : List Cmd) (answered : ℕ → Bool) (r : Reading) (left : List Item) where
  -- our close-ok was sent on a channel
  at-pay : (o : Option Channel) (n : ℕ) (t : Talk) → IsAt cs answered r left t → IsAt cs answered r left (pay o n t)
  at-pay o n t h =
      pay-case (IsAt cs answered r left) o n t (λ is. h) (λ c is unowed. h)
      (λ c is owes awaits. moved cs answered r left t (set_channel n (record c { debt = debt.Paid }) (tell_owed n t)) refl (λ z. z) (λ n. refl) (λ o. o) (λ b. b) h)
      (λ c is owes gone. moved cs answered r left t (remove_channel n (tell_owed n t)) refl (λ z. z) (λ n. refl) (λ o. o) (λ b. b) h)

  -- what follows a frame without a promise
  at-follow : (th : Then) (t : Talk) → ((k : ℕ) → th ≡ Answer k → ⊥) → IsAt cs answered r left t → IsAt cs answered r left (follow th t)
  at-follow Nothing t none_answered h = h
  at-follow (Answer k) t none_answered h = absurd (none_answered k refl)
  at-follow (Pays n) t none_answered h = at-pay (channel_at n t) n t h
  at-follow Finish t none_answered h = at-finish cs answered r left t.server_close t h

-- ---- the first committed frame is sent

not-empty : (fs : List Frame) (f : Frame) → fs ++ f ∷ [] ≢ []
not-empty [] f is = cc
not-empty (g ∷ fs) f is = cc

-- all frames of a command are passed through
frames-raw : (c : Cmd) (fs : List Frame) → AreFramesOf c fs → AllByRecursion (λ f. is_raw f ≡ true) fs
frames-raw (Send a b) fs h = (let Q : List Frame → Type 0 = λ fs. AllByRecursion (λ f. is_raw f ≡ true) fs in subst Q (sym h) (refl, tt))
frames-raw (Publish a b x y) fs h = content-raw a.id b x y fs h
frames-raw _ fs h = absurd h

closed-part : (c : Cmd) (k : ℕ) (r : Reading) (fs : List Frame) → AreFramesOf c fs → (closed c k r).part ≡ []
closed-part (Send a b) k r fs h = refl
closed-part (Publish a b x y) k r fs h = refl
closed-part _ k r fs h = absurd h

closed-low : (c : Cmd) (k m : ℕ) (r : Reading) → k ≤ m → r.sends ≤ suc m → r.publishes ≤ suc m → ((closed c k r).sends ≤ suc m) × ((closed c k r).publishes ≤ suc m)
closed-low (Send a b) k m r le h g = (omega (arith, le), g)
closed-low (Publish a b x y) k m r le h g = (h, omega (arith, le))
closed-low _ k m r le h g = (h, g)

closed-publishes : (c : Cmd) (k : ℕ) (r : Reading) → (is_publish c ≡ true → r.publishes ≤ k) → r.publishes ≤ (closed c k r).publishes
closed-publishes (Send a b) k r f = omega arith
closed-publishes (Publish a b x y) k r f = omega (arith, f refl)
closed-publishes _ k r f = omega arith

-- links that are over stay so, where none of their torn publishes is answered
pub over-map : (cs cs' : List Cmd) (answered answered' : ℕ → Bool) (low low' : ℕ) → low ≤ low' → Grows cs cs'
    → ((n : ℕ) (c : Cmd) → command_at cs n ≡ Some c → is_publish c ≡ true → n < low → answered' n ≡ answered n)
    → (before kept : List (List Frame)) → AreOver cs answered low before kept → AreOver cs' answered' low' before kept
over-map cs cs' answered answered' low low' le grows f [] [] h = tt
over-map cs cs' answered answered' low low' le grows f (fs ∷ before) (ks ∷ kept) h = (
  record {
    part = h.0.part;
    frames = h.0.frames;
    torn = elim h.0.torn [
      | inl e ↦ inl e
      | inr x ↦
          inr (record {
            command = x.command;
            number = x.number;
            told = grows x.number x.command x.told;
            publish = x.publish;
            unanswered = f x.number x.command x.told x.publish x.below ∙ x.unanswered;
            below = omega (arith, x.below, le);
            rest = x.rest;
            proper = x.proper;
            frames = x.frames;
          })
    ];
  },
  over-map cs cs' answered answered' low low' le grows f before kept h.1,
)
over-map cs cs' answered answered' low low' le grows f [] (ks ∷ kept) h = absurd h
over-map cs cs' answered answered' low low' le grows f (fs ∷ before) [] h = absurd h

-- promises were answered Sent where that was taken, or is there
abbrev pub AreEver : (ℕ → Bool) → (ℕ → Bool) → (ℕ → Bool) → Type 0
AreEver took answered ever = (n : ℕ) → ever n ≡ (took n || answered n)

-- one more is
ever-marked : (took answered ever : ℕ → Bool) (k : ℕ) → AreEver took answered ever → AreEver took (marked k answered) (marked k ever)
ever-marked took answered ever k all n = elim (cases_eq n k) [
  | inl e ↦
      (let now : marked k answered n ≡ true = ap (marked k answered) e ∙ marked-here k answered in
      ap (marked k ever) e ∙ marked-here k ever ∙ sym (or-right (took n) (marked k answered n) now))
  | inr ne ↦ marked-other n k ever ne ∙ all n ∙ ap (λ b. took n || b) (sym (marked-other n k answered ne))
]

-- one of a session with an open link, once the frame was sent
pub record IsSentOn (cs : List Cmd) (took : ℕ → Bool) (before : List (List Frame)) (sofar : List Frame) (i : Item) (left : List Item) (t : Talk) : Type 0 where
  pub answered : ℕ → Bool
  pub ever : ℕ → Bool
  pub both : AreEver took answered ever
  pub reading : Reading
  pub at : IsAt cs answered reading left t
  pub known : IsKnown cs ever reading before (sofar ++ raw_frames (i.frame ∷ []))

well : (cs : List Cmd) (ps : Promises) (state : ConnectionState) (control : List Item) (publish : List (List Item)) (m : Reading) → Ends cs ps state control publish m → (m.part ≡ []) ⊎ IsPart cs ps m
well cs ps state control publish m (inl x) = inl x.0
well cs ps state control publish m (inr x) = inr x.3

-- what is open while the link is
open-at : (cs : List Cmd) (ever : ℕ → Bool) (ps : Promises) (r : Reading) → ((k : ℕ) (c : Cmd) → command_at cs k ≡ Some c → is_publish c ≡ true → r.publishes ≤ k → ever k ≡ false)
    → (r.part ≡ []) ⊎ IsPart cs ps r → (r.part ≡ []) ⊎ IsOpenAt cs ever r
open-at cs ever ps r over (inl e) = inl e
open-at cs ever ps r over (inr x) =
    let made : x.number ≤ length cs = told-made cs x.number x.command x.told in
    inr (record {
      torn = record {
        command = x.command;
        number = x.number;
        told = x.told;
        publish = x.publish;
        unanswered = over x.number x.command x.told x.publish x.above;
        below = omega (arith, made);
        rest = x.rest;
        proper = x.proper;
        frames = x.frames;
      };
      above = x.above;
    })

-- the first committed frame is sent: what is then known
pub sent-on : (cs : List Cmd) (took answered ever : ℕ → Bool) (r : Reading) (before : List (List Frame)) (sofar : List Frame) (i : Item) (left : List Item) (m : Mark) (t : Talk)
    → m.then ≡ then_of i → is_open t ≡ true → AreEver took answered ever → IsAt cs answered r (i ∷ left) t → IsKnown cs ever r before sofar → IsSentOn cs took before sofar i left (sent m t)
sent-on cs took answered ever r before sofar i left m t is opened both h known = by b.lines where
  b : Bears cs r (i ∷ left) t.outbox t.promises t.state
  b = h.bears opened

  t0 : Talk
  t0 = record t { committed = drop 1 t.committed }

  by : Lines cs t.promises r (i ∷ (left ++ t.outbox.begun)) b.last → IsSentOn cs took before sofar i left (sent m t)
  by (other x y l) =
      let h0 : IsAt cs answered r left t0 = record {
        made = h.made;
        agrees = h.agrees;
        fresh = h.fresh;
        sized = h.sized;
        low = h.low;
        bears = λ o. record { last = b.last; lines = l; ends = b.ends; awaited = b.awaited };
      } in
      let same : sofar ≡ sofar ++ raw_frames (i.frame ∷ []) = sym (append-nil sofar) ∙ ap (λ fs. sofar ++ fs) (sym (ap (λ b. cond b (i.frame ∷ []) []) x)) in
      let K : List Frame → Type 0 = λ fs. IsKnown cs ever r before fs in
      record {
        answered = answered;
        ever = ever;
        both = both;
        reading = r;
        at = at-follow cs answered r left m.then t0 (λ k e. (let promise : i.promise ≡ Some k = answer-promise i k (sym is ∙ e) in let no : None ≡ Some k = sym y ∙ promise in cc)) h0;
        known = subst K same known;
      }
  by (more x y l) =
      let ps = t.promises in
      let r' : Reading = record { part = r.part ++ i.frame ∷ []; sends = r.sends; publishes = r.publishes } in
      let h0 : IsAt cs answered r' left t0 = record {
        made = h.made;
        agrees = h.agrees;
        fresh = h.fresh;
        sized = h.sized;
        low = h.low;
        bears = λ o. record { last = b.last; lines = l; ends = b.ends; awaited = b.awaited };
      } in
      let nothing : m.then ≡ Nothing = is ∙ raw-then i.frame i.promise x ∙ ap answers y in
      let raw : raw_frames (i.frame ∷ []) ≡ i.frame ∷ [] = ap (λ b. cond b (i.frame ∷ []) []) x in
      let A : Then → Type 0 = λ th. IsAt cs answered r' left (follow th t0) in
      let inside : (r'.part ≡ []) ⊎ IsPart cs ps r' = open-before cs ps r' (left ++ t.outbox.begun) b.last l (well cs ps t.state t.outbox.control t.outbox.publish b.last b.ends) in
      record {
        answered = answered;
        ever = ever;
        both = both;
        reading = r';
        at = subst A (sym nothing) h0;
        known = record {
          order = known.order;
          last = known.last;
          some = known.some;
          over = known.over;
          past = past-flow cs ever r r' _ _ (omega arith) (omega arith) refl known.past;
          unclosed = open-at cs ever ps r' known.past.publishes_over inside;
          split = ap (λ fs. sofar ++ fs) raw ∙ ap (λ fs. fs ++ i.frame ∷ []) known.split ∙ append_assoc (concatenated known.last) r.part (i.frame ∷ []);
        };
      }
  by (whole c k p w l) =
      let ps = t.promises in
      let ps' : Promises = settled k (Ok Sent) ps in
      let r' : Reading = closed c k r in
      let f = i.frame in
      let fs : List Frame = r.part ++ f ∷ [] in
      let made : k ≤ length cs = told-made cs k c w.told in
      let x : is_raw f ≡ true = all-last (λ g. is_raw g ≡ true) r.part f (frames-raw c fs w.frames) in
      let answer : m.then ≡ Answer k = is ∙ raw-then f i.promise x ∙ ap answers p in
      let put_there : ps' ≡ put k (Some (Ok Sent)) ps = ap (λ o. settled_by o k (Ok Sent) ps) w.waits in
      let here : is_sent (at k ps') ≡ true = ap (λ q. is_sent (at k q)) put_there ∙ ap is_sent (put-same k (Some (Ok Sent)) ps) in
      let apart : (d : Cmd) (n : ℕ) → command_at cs n ≡ Some d → floor d r' ≤ n → n ≢ k = λ d n told le e.
      (let same : d ≡ c = same-command cs n k d c told w.told e in
      let own : k < floor c r' = floor-own c fs k r w.frames in
      let F : Cmd → Type 0 = λ z. floor z r' ≤ n in
      let low : floor c r' ≤ n = subst F same le in
      omega (arith, own, low, e)) in
      let from : (d : Cmd) (n : ℕ) → command_at cs n ≡ Some d → floor d r' ≤ n → at n ps' ≡ at n ps = λ d n told le. settled-elsewhere n k (Ok Sent) ps (apart d n told le) in
      let last_from : (d : Cmd) (n : ℕ) → command_at cs n ≡ Some d → floor d b.last ≤ n → at n ps' ≡ at n ps = λ d n told le.
      from d n told (omega (arith, le, floors-rise cs ps r' (left ++ t.outbox.begun) b.last d l)) in
      let ends : Ends cs ps' t.state t.outbox.control t.outbox.publish b.last = elim b.ends [
        | inl e ↦
            inl (
              e.0,
              lane-from cs ps ps' b.last.sends t.outbox.control e.1 (λ d n told s le. last_from d n told (omega (arith, floor-send d b.last s, le))),
              groups-from cs ps ps' b.last.publishes t.outbox.publish e.2 (λ d n told s le. last_from d n told (omega (arith, floor-publish d b.last s, le))),
            )
        | inr e ↦
            let z = e.3 in
            inr (
              e.0,
              e.1,
              e.2,
              record {
                command = z.command;
                number = z.number;
                told = z.told;
                publish = z.publish;
                above = z.above;
                unanswered = ap is_sent (last_from z.command z.number z.told (omega (arith, floor-publish z.command b.last z.publish, z.above))) ∙ z.unanswered;
                rest = z.rest;
                proper = z.proper;
                frames = z.frames;
              },
            )
      ] in
      let low = closed-low c k (length cs) r made h.low.0 h.low.1 in
      let answered' : ℕ → Bool = marked k answered in
      let ever' : ℕ → Bool = marked k ever in
      let h0 : IsAt cs answered' r' left (give k (Ok Sent) t0) = record {
        made = h.made;
        agrees = λ n le. elim (cases_eq n k) [
          | inl e ↦ ap (λ j. is_sent (at j ps')) e ∙ here ∙ sym (marked-here k answered) ∙ ap answered' (sym e)
          | inr ne ↦ ap is_sent (settled-elsewhere n k (Ok Sent) ps ne) ∙ h.agrees n le ∙ sym (marked-other n k answered ne)
        ];
        fresh = λ n le. marked-other n k answered (λ e. omega (arith, e, le, made)) ∙ h.fresh n le;
        sized = h.sized;
        low = low;
        bears = λ o. record {
          last = b.last;
          lines = lines-from cs ps ps' r' (left ++ t.outbox.begun) b.last l (λ d n told carry le. from d n told le);
          ends = ends;
          awaited = b.awaited;
        };
      } in
      let A : Then → Type 0 = λ th. IsAt cs answered' r' left (follow th t0) in
      let raw : raw_frames (f ∷ []) ≡ f ∷ [] = ap (λ b. cond b (f ∷ []) []) x in
      let done : List (List Frame) = known.last ++ fs ∷ [] in
      let joined : concatenated done ≡ concatenated known.last ++ fs =
      flat_map-append (λ xs. xs) known.last (fs ∷ []) ∙ ap (λ gs. concatenated known.last ++ gs) (append-nil fs) in
      let split : sofar ++ raw_frames (f ∷ []) ≡ concatenated done ++ r'.part =
      ap (λ gs. sofar ++ gs) raw ∙ ap (λ gs. gs ++ f ∷ []) known.split ∙ append_assoc (concatenated known.last) r.part (f ∷ [])
      ∙ sym joined ∙ sym (append-nil (concatenated done)) ∙ ap (λ gs. concatenated done ++ gs) (sym (closed-part c k r fs w.frames)) in
      record {
        answered = answered';
        ever = ever';
        both = ever-marked took answered ever k both;
        reading = r';
        at = subst A (sym answer) h0;
        known = record {
          order = known.order;
          last = done;
          some = all-push (λ gs. gs ≢ []) known.last fs known.some (not-empty r.part f);
          over =
              over-map cs cs ever ever' r.publishes r'.publishes (closed-publishes c k r (λ s. omega (arith, floor-publish c r s, w.above))) (same-grows cs)
              (λ n d told s below.
              marked-other n k ever
              (λ e.
              (let same : d ≡ c = same-command cs n k d c told w.told e in
              let pub_c : is_publish c ≡ true = ap is_publish (sym same) ∙ s in
              omega (arith, floor-publish c r pub_c, w.above, e, below))))
              before (map concatenated known.order) known.over;
          past =
              past-flow cs ever' r' r' _ _ (omega arith) (omega arith) (append_assoc (concatenated known.order) known.last (fs ∷ []))
              (past-whole cs ever r (concatenated known.order ++ known.last) fs c k w.told w.frames known.past (λ s. omega (arith, floor-send c r s, w.above)) (λ s. omega (arith, floor-publish c r s, w.above)));
          unclosed = inl (closed-part c k r fs w.frames);
          split = split;
        };
      }
