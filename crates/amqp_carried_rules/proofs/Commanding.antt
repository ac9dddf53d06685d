-- Commands: each that is answered takes the next number, and what it sends waits.
use Rattle.std.proofs.Common.{◌≡◌, inl, inr, ◌++◌, length, map, slice_get, append-nil, length-append, length-drop, take, ◌∙◌, ap, sym, subst, refl, ℕ, zero, suc, ◌<◌, ◌≤◌, ◌+◌, Bool, true, false, List, [], ◌∷◌, drop, Option, Some, None, Result, Ok, Err, arith}
use Rattle.std.specs.Prelude.{filter, codes}
use Rattle.amqp_types.specs.declared.word.Word.TheVariants as word
use Rattle.amqp_frame.specs.declared.frame.Frame.{Frame}
use Rattle.amqp_frame.specs.RawMethods.{OtherMethod}
use Rattle.amqp_outbox.specs.declared.item.Item.{Item}
use Rattle.amqp_outbox.specs.Items.{plain_item, promised_item, group_of, promise_of_group}
use Rattle.amqp_outbox.specs.Queued.{Queued, pushed_control, pushed_group, is_on}
use Rattle.amqp_channels.specs.declared.channels.Channel.{Channel}
use Rattle.amqp_promise.specs.declared.state.ConnectionState.{ConnectionState}
use Rattle.amqp_promise.specs.declared.state.ConnectionState.TheVariants.{Connected, Closing}
use Rattle.amqp_promise.specs.declared.state.ChannelState.TheVariants as channel
use Rattle.amqp_commands.specs.declared.command.Cmd.{Cmd}
use Rattle.amqp_commands.specs.declared.command.Cmd.TheVariants.{OpenChannel, CloseChannel, CloseConnection, UpdateSecret, Send, Publish, Flow, DropChannel, DropConnection, Listen}
use Rattle.amqp_answers.specs.declared.answer.Answer.{Answer as AnyAnswer}
use Rattle.amqp_commands.specs.declared.command.ChanRef.{ChanRef}
use Rattle.amqp_promise.specs.declared.error.ErrorKind.TheVariants.{ChannelsLimitReached, InvalidChannelState, InvalidConnectionState}
use Rattle.amqp_promise.specs.declared.error.ErrorKind.{ErrorKind}
use Rattle.amqp_maps.specs.Listed.{at, put}
use Rattle.amqp_rules.specs.Talk.{Talk, is_open, is_open_link}
use Rattle.amqp_answers.specs.Settled.{Promises}
use Rattle.amqp_rules.specs.Changes.{next_promise, rejected, promise}
use Rattle.amqp_settings.specs.Handshake.{our_close, new_secret, channel_open, channel_flow, our_channel_close}
use Rattle.amqp_channels.specs.Numbering.{first_number, drawn}
use Rattle.amqp_commands.specs.Publishing.{content_header, method_frame, publish_frames, body_pieces, cut}
use Rattle.amqp_rules.specs.Commands.{target, open_drawn, leave_connection, close_target, drop_target, flow_target, queue_secret, update_secret, too_long, unless_too_long, too_full, unless_full, queue_send, send_target, body_limit, queue_publish, publish_target, command, command_rule, listen}
use Rattle.std.proofs.lemmas.List.{take-append-drop}
use Rattle.amqp_rules.specs.Sound.{is_agreed}
use Rattle.amqp_legal_rules.proofs.Ready.{pieces-fit, pieces-some}
use Rattle.amqp_carried_rules.specs.CommandFrames.{AreFramesOf, AreContentFrames, is_send, is_publish, is_sent, answered_command}
use Rattle.amqp_maps.proofs.Numbered.{put-same, put-other}
use Rattle.amqp_carried_rules.proofs.Bearing.{command_at, carries, IsOther, each-sent, rejected-is, Reading, closed, Lines, none, other, more, whole, Bears, IsAt, Sized, Ends, AwaitsOthers, Grows, told-made, lines-map, lane-map, groups-map, part-map}
use Rattle.amqp_carried_rules.proofs.Queueing.{lane-send, groups-push}
use Rattle.amqp_carried_rules.proofs.Borne.{AreOthers, bears-push, bears-expected, bears-groups-of, bears-groups}
use Rattle.amqp_carried_rules.proofs.Bearers.{moved}
use Rattle.amqp_outbox.specs.declared.reply.Awaited.{Awaited}
use Rattle.std.specs.List.{flat_map}
use Rattle.std.proofs.lemmas.Bool.{cases_eq}

get-front : (cs : List Cmd) (c : Cmd) (i : ℕ) → i < length cs → slice_get (cs ++ c ∷ []) i ≡ slice_get cs i
get-front [] c i h = absurd (omega (arith, h))
get-front (x ∷ cs) c zero h = refl
get-front (x ∷ cs) c (suc i) h = get-front cs c i (omega (arith, h))

pub get-last : (cs : List Cmd) (c : Cmd) → slice_get (cs ++ c ∷ []) (length cs) ≡ Some c
get-last [] c = refl
get-last (x ∷ cs) c = get-last cs c

-- the commands before are as they were
pub same-below : (cs : List Cmd) (c : Cmd) (k : ℕ) → k ≤ length cs → command_at (cs ++ c ∷ []) k ≡ command_at cs k
same-below cs c zero le = refl
same-below cs c (suc i) le = get-front cs c i (omega (arith, le))

pub grows-more : (cs : List Cmd) (c : Cmd) → Grows cs (cs ++ c ∷ [])
grows-more cs c k d told = same-below cs c k (told-made cs k d told) ∙ told

-- there is one more
pub one-more : (cs : List Cmd) (c : Cmd) → length (cs ++ c ∷ []) ≡ suc (length cs)
one-more cs c = omega (arith, length-append cs (c ∷ []))

-- no number is above those that were made
sends-bound : (cs : List Cmd) (ps : Promises) (r : Reading) (is : List Item) (r' : Reading) → Lines cs ps r is r' → r.sends ≤ suc (length cs) → r'.sends ≤ suc (length cs)
sends-bound cs ps r [] r' none h = h
sends-bound cs ps r (i ∷ is) r' (other a b l) h = sends-bound cs ps r is r' l h
sends-bound cs ps r (i ∷ is) r' (more a b l) h = sends-bound cs ps _ is r' l h
sends-bound cs ps r (i ∷ is) r' (whole c k p w l) h = sends-bound cs ps (closed c k r) is r' l (by c (told-made cs k c w.told)) where
  by : (c : Cmd) → k ≤ length cs → (closed c k r).sends ≤ suc (length cs)
  by (Send a b) le = omega (arith, le)
  by (Publish a b x y) le = h
  by _ le = h

publishes-bound : (cs : List Cmd) (ps : Promises) (r : Reading) (is : List Item) (r' : Reading) → Lines cs ps r is r' → r.publishes ≤ suc (length cs) → r'.publishes ≤ suc (length cs)
publishes-bound cs ps r [] r' none h = h
publishes-bound cs ps r (i ∷ is) r' (other a b l) h = publishes-bound cs ps r is r' l h
publishes-bound cs ps r (i ∷ is) r' (more a b l) h = publishes-bound cs ps _ is r' l h
publishes-bound cs ps r (i ∷ is) r' (whole c k p w l) h = publishes-bound cs ps (closed c k r) is r' l (by c (told-made cs k c w.told)) where
  by : (c : Cmd) → k ≤ length cs → (closed c k r).publishes ≤ suc (length cs)
  by (Send a b) le = h
  by (Publish a b x y) le = omega (arith, le)
  by _ le = h

pieces-joined : (pieces size : ℕ) (octets : List ℕ) → 1 ≤ size → length octets ≤ pieces → flat_map (λ piece. piece) (cut pieces size octets) ≡ octets
pieces-joined zero size [] some fit = refl
pieces-joined zero size (octet ∷ octets) some fit = absurd (omega (arith, fit))
pieces-joined (suc pieces) size [] some fit = refl
pieces-joined (suc pieces) size (octet ∷ octets) some fit =
    let all : List ℕ = octet ∷ octets in
    let fewer : length (drop size all) ≤ pieces = omega (arith, some, fit, length-drop size all) in
    ap (λ k. take size all ++ k) (pieces-joined pieces size (drop size all) some fewer) ∙ take-append-drop size all

-- the frames of a publish are its content
publish-content : (n : ℕ) (m : OtherMethod) (properties body : List ℕ) (size : ℕ) → 1 ≤ size → AreContentFrames n m properties body (publish_frames n m properties body size)
publish-content n m properties body size some =
    record { head = content_header m.class (length body) properties; class = refl; weight = refl; size = refl; behind = refl; pieces = body_pieces size body; not_empty = pieces-some (length body) size body some; joined = pieces-joined (length body) size body some (omega arith); frames = refl }

module _ (cs : List Cmd) (c : Cmd) (m : ℕ) (is : m ≡ suc (length cs)) where
  abbrev cs' : List Cmd
  cs' = cs ++ c ∷ []

  elsewhere : (k : ℕ) (v : Option (Result AnyAnswer ErrorKind)) (ps : Promises) → k ≤ length cs → at k (put m v ps) ≡ at k ps
  elsewhere k v ps le = put-other k m v ps (λ e. omega (arith, e, is, le))

  stays : (v : Option (Result AnyAnswer ErrorKind)) (ps : Promises) (d : Cmd) (k : ℕ) → command_at cs k ≡ Some d → at k ps ≡ Some None → at k (put m v ps) ≡ Some None
  stays v ps d k told w = elsewhere k v ps (told-made cs k d told) ∙ w

  others-grow : (o : Option ℕ) → IsOther cs o → IsOther cs' o
  others-grow None h = tt
  others-grow (Some k) h = (omega (arith, h.0, one-more cs c), ap carries (same-below cs c k h.0) ∙ h.1)

  list-grow : (list : List Awaited) → AreOthers cs list → AreOthers cs' list
  list-grow [] h = tt
  list-grow (a ∷ list) h = (others-grow a.promise h.0, list-grow list h.1)

  awaits-grow : (ws : List (ℕ × List Awaited)) → AwaitsOthers cs ws → AwaitsOthers cs' ws
  awaits-grow [] h = tt
  awaits-grow (e ∷ ws) h = (list-grow e.1 h.0, awaits-grow ws h.1)

  newest : command_at cs' m ≡ Some c
  newest = ap (command_at cs') is ∙ get-last cs c

  new-other : carries (Some c) ≡ false → IsOther cs' (Some m)
  new-other h = (omega (arith, is, one-more cs c), ap carries newest ∙ h)

  module _ (r : Reading) (left : List Item) (state : ConnectionState) where
    -- a command more was told, with the next promise
    pub bears-grow : (q : Queued) (v : Option (Result AnyAnswer ErrorKind)) (ps : Promises) → Bears cs r left q ps state → Bears cs' r left q (put m v ps) state
    bears-grow q v ps h =
        record {
          last = h.last;
          lines = lines-map cs cs' ps (put m v ps) (grows-more cs c) r (left ++ q.begun) h.last h.lines (λ d k told carry below w. stays v ps d k told w);
          ends = ends h.ends;
          awaited = awaits-grow q.awaited h.awaited;
        } where
          ends : Ends cs ps state q.control q.publish h.last → Ends cs' (put m v ps) state q.control q.publish h.last
          ends (inl x) =
              inl (
                x.0,
                lane-map cs cs' ps (put m v ps) (grows-more cs c) h.last.sends q.control x.1 (λ d k told carry w. stays v ps d k told w),
                groups-map cs cs' ps (put m v ps) (grows-more cs c) h.last.publishes q.publish x.2 (λ d k told carry w. stays v ps d k told w),
              )
          ends (inr x) = inr (x.0, x.1, x.2, part-map cs cs' ps (put m v ps) (grows-more cs c) h.last x.3 (λ k le. ap is_sent (elsewhere k v ps le)))

    -- a send more
    pub bears-send : (q : Queued) (n : ℕ) (f : Frame) (ps : Promises) → (state ≡ Closing → ⊥) → is_send c ≡ true → AreFramesOf c (f ∷ []) → r.sends ≤ suc (length cs) → Bears cs r left q ps state
        → Bears cs' r left (pushed_control (promised_item n f m) q) (put m None ps) state
    bears-send q n f ps goes s fs low h =
        record {
          last = h.last;
          lines = lines-map cs cs' ps (put m None ps) (grows-more cs c) r (left ++ q.begun) h.last h.lines (λ d k told carry below w. stays None ps d k told w);
          ends = ends h.ends;
          awaited = awaits-grow q.awaited h.awaited;
        } where
          ends : Ends cs ps state q.control q.publish h.last → Ends cs' (put m None ps) state (q.control ++ promised_item n f m ∷ []) q.publish h.last
          ends (inl x) =
              inl (
                x.0,
                lane-send cs cs' ps (put m None ps) (grows-more cs c) (λ d k told carry w. stays None ps d k told w) h.last.sends q.control (promised_item n f m) c s (ap (λ (k : ℕ). Some k) is)
                    (sends-bound cs ps r (left ++ q.begun) h.last h.lines low)
                    (record { told = get-last cs c; frames = fs; waits = ap (λ k. at k (put m None ps)) (sym is) ∙ put-same m None ps; above = omega arith }) x.1,
                groups-map cs cs' ps (put m None ps) (grows-more cs c) h.last.publishes q.publish x.2 (λ d k told carry w. stays None ps d k told w),
              )
          ends (inr x) = absurd (goes x.0)

    -- a publish more
    pub bears-publish : (q : Queued) (n : ℕ) (fs : List Frame) (ps : Promises) → (state ≡ Closing → ⊥) → is_publish c ≡ true → AreFramesOf c fs → r.publishes ≤ suc (length cs) → Bears cs r left q ps state
        → Bears cs' r left (pushed_group (group_of n fs m) q) (put m None ps) state
    bears-publish q n fs ps goes s frames low h =
        record {
          last = h.last;
          lines = lines-map cs cs' ps (put m None ps) (grows-more cs c) r (left ++ q.begun) h.last h.lines (λ d k told carry below w. stays None ps d k told w);
          ends = ends h.ends;
          awaited = awaits-grow q.awaited h.awaited;
        } where
          ends : Ends cs ps state q.control q.publish h.last → Ends cs' (put m None ps) state q.control (q.publish ++ group_of n fs m ∷ []) h.last
          ends (inl x) =
              inl (
                x.0,
                lane-map cs cs' ps (put m None ps) (grows-more cs c) h.last.sends q.control x.1 (λ d k told carry w. stays None ps d k told w),
                groups-push cs cs' ps (put m None ps) (grows-more cs c) (λ d k told carry w. stays None ps d k told w) h.last.publishes q.publish (group_of n fs m)
                    (record {
                      command = c;
                      publish = s;
                      channel = n;
                      frames = fs;
                      items = ap (group_of n fs) is;
                      waits = record { told = get-last cs c; frames = frames; waits = ap (λ k. at k (put m None ps)) (sym is) ∙ put-same m None ps; above = omega arith };
                    })
                    (publishes-bound cs ps r (left ++ q.begun) h.last h.lines low) x.2,
              )
          ends (inr x) = absurd (goes x.0)

-- ---- what a command leaves

not-closing : (s : ConnectionState) → s ≡ Connected → s ≡ Closing → ⊥
not-closing Connected h k = cc
not-closing _ h k = cc

module _ (cs : List Cmd) (answered : ℕ → Bool) (r : Reading) (left : List Item) where
  abbrev Was : Talk → Type 0
  Was t = IsAt cs answered r left t

  abbrev Raised : Cmd → Talk → Type 0
  Raised c t = IsAt (cs ++ c ∷ []) answered r left t

  -- a promise more, by what its slot holds
  raised : (c : Cmd) (t t' : Talk) (v : Option (Result AnyAnswer ErrorKind)) (ps : Promises) → is_sent (Some v) ≡ false → t'.made ≡ t.made + 1 → t'.promises ≡ put t.made v ps
      → ((n : ℕ) → is_sent (at n ps) ≡ is_sent (at n t.promises)) → (Sized t → Sized t') → (is_open t' ≡ true → is_open t ≡ true)
      → (t.made ≡ suc (length cs) → (r.sends ≤ suc (length cs)) × (r.publishes ≤ suc (length cs)) → Sized t → Bears cs r left t.outbox t.promises t.state → Bears (cs ++ c ∷ []) r left t'.outbox t'.promises t'.state)
      → Was t → Raised c t'
  raised c t t' v ps unsent made is same size opens bears h =
      record {
        made = omega (arith, made, h.made, one-more cs c);
        agrees = λ n le. ap (λ p. is_sent (at n p)) is ∙ elim (cases_eq n t.made) [
          | inl e ↦ ap (λ m. is_sent (at m (put t.made v ps))) e ∙ ap is_sent (put-same t.made v ps) ∙ unsent ∙ sym (h.fresh n (omega (arith, e, h.made)))
          | inr ne ↦ ap is_sent (put-other n t.made v ps ne) ∙ same n ∙ h.agrees n (omega (arith, le, one-more cs c, h.made, ne))
        ];
        fresh = λ n le. h.fresh n (omega (arith, le, one-more cs c));
        sized = size h.sized;
        low = (omega (arith, h.low.0, one-more cs c), omega (arith, h.low.1, one-more cs c));
        bears = λ o. bears h.made h.low h.sized (h.bears (opens o));
      }

  -- a command is refused
  at-refuse : (c : Cmd) (e : ErrorKind) (t t' : Talk) → t'.made ≡ t.made + 1 → t'.promises ≡ put t.made (Some (Err e)) t.promises → t'.link ≡ t.link → t'.outbox ≡ t.outbox → t'.state ≡ t.state
      → (Sized t → Sized t') → Was t → Raised c t'
  at-refuse c e t t' made is link outbox state size h =
      let Q : Queued → Type 0 = λ q. Bears (cs ++ c ∷ []) r left q t'.promises t'.state in
      let P : Promises → Type 0 = λ p. Bears (cs ++ c ∷ []) r left t.outbox p t'.state in
      let S : ConnectionState → Type 0 = λ s. Bears (cs ++ c ∷ []) r left t.outbox (put t.made (Some (Err e)) t.promises) s in
      raised c t t' (Some (Err e)) t.promises refl made is (λ n. refl) size (λ o. sym (ap is_open_link link) ∙ o)
      (λ m low z b. subst Q (sym outbox) (subst P (sym is) (subst S (sym state) (bears-grow cs c t.made m r left t.state t.outbox (Some (Err e)) t.promises b)))) h

  -- a channel is opened, or refused
  at-drawn : (o : Option ℕ) (first : ℕ) (t : Talk) → Was t → Raised OpenChannel (open_drawn o first t)
  at-drawn None first t h = at-refuse OpenChannel ChannelsLimitReached t _ refl refl refl refl refl (λ z. z) h
  at-drawn (Some n) first t h =
      raised OpenChannel t _ None t.promises refl refl refl (λ n. refl) (λ z. z) (λ o. o)
      (λ m low z b.
      bears-expected (cs ++ OpenChannel ∷ []) r left _ t.state _ n _ (new-other cs OpenChannel t.made m refl)
      (bears-push (cs ++ OpenChannel ∷ []) r left _ t.state t.outbox (plain_item n (channel_open n)) refl refl (bears-grow cs OpenChannel t.made m r left t.state t.outbox None t.promises b))) h

  -- a channel is closed
  at-close-target : (x : Result Channel ErrorKind) (ref : ChanRef) (n code : ℕ) (text : List ℕ) (t : Talk) → Was t → Raised (CloseChannel ref code text) (close_target x n code text t)
  at-close-target (Err e) ref n code text t h = at-refuse (CloseChannel ref code text) e t _ refl refl refl refl refl (λ z. z) h
  at-close-target (Ok d) ref n code text t h =
      let c : Cmd = CloseChannel ref code text in
      let said : Item = plain_item n (our_channel_close n code text) in
      let e : ErrorKind = InvalidChannelState channel.Closing word.ChannelClose in
      raised c t _ None (rejected e (filter (is_on n) t.outbox.publish) t.promises) refl refl refl
      (λ k. ap (λ p. is_sent (at k p)) (rejected-is e (filter (is_on n) t.outbox.publish) t.promises) ∙ each-sent k e (map promise_of_group (filter (is_on n) t.outbox.publish)) t.promises)
      (λ z. z) (λ o. o)
      (λ m low z b.
      bears-expected (cs ++ c ∷ []) r left _ t.state _ n _ (new-other cs c t.made m refl)
      (bears-grow cs c t.made m r left t.state _ None _
      (bears-groups-of cs r left t.promises t.state (pushed_control said t.outbox) n e (bears-push cs r left t.promises t.state t.outbox said refl refl b)))) h

  -- the connection is closing
  bears-closing : (q : Queued) (ps : Promises) (s : ConnectionState) → Bears cs r left q ps s → Bears cs r left q ps Closing
  bears-closing q ps s b =
      record {
        last = b.last;
        lines = b.lines;
        ends = elim b.ends [
          | inl x ↦ inl x
          | inr x ↦ inr (refl, x.1, x.2, x.3)
        ];
        awaited = b.awaited;
      }

  -- the connection is closed
  at-close-connection : (code : ℕ) (text : List ℕ) (t : Talk) → Was t → Raised (CloseConnection code text) (promise (leave_connection code text (Some (next_promise t)) t))
  at-close-connection code text t h =
      let c : Cmd = CloseConnection code text in
      let said : Item = plain_item 0 (our_close code text) in
      let e : ErrorKind = InvalidConnectionState Closing in
      raised c t _ None (rejected e t.outbox.publish t.promises) refl refl refl
      (λ k. ap (λ p. is_sent (at k p)) (rejected-is e t.outbox.publish t.promises) ∙ each-sent k e (map promise_of_group t.outbox.publish) t.promises)
      (λ z k. absurd cc) (λ o. o)
      (λ m low z b.
      bears-expected (cs ++ c ∷ []) r left _ Closing _ 0 _ (new-other cs c t.made m refl)
      (bears-grow cs c t.made m r left Closing _ None _
      (bears-closing _ _ t.state (bears-groups cs r left t.promises t.state (pushed_control said t.outbox) e (bears-push cs r left t.promises t.state t.outbox said refl refl b))))) h

  -- the server is told to start or to stop
  at-flow-target : (x : Result Channel ErrorKind) (ref : ChanRef) (n : ℕ) (active : Bool) (t : Talk) → Was t → Raised (Flow ref active) (flow_target x n active t)
  at-flow-target (Err e) ref n active t h = at-refuse (Flow ref active) e t _ refl refl refl refl refl (λ z. z) h
  at-flow-target (Ok d) ref n active t h =
      let c : Cmd = Flow ref active in
      raised c t _ None t.promises refl refl refl (λ n. refl) (λ z. z) (λ o. o)
      (λ m low z b.
      bears-expected (cs ++ c ∷ []) r left _ t.state _ n _ (new-other cs c t.made m refl)
      (bears-push (cs ++ c ∷ []) r left _ t.state t.outbox (plain_item n (channel_flow n active)) refl refl (bears-grow cs c t.made m r left t.state t.outbox None t.promises b))) h

  -- a command with a frame that is too long is refused
  at-unless : (c : Cmd) (o : Option Frame) (rule : Talk → Talk) (t : Talk) → Was t → (o ≡ None → Raised c (rule t)) → Raised c (unless_too_long o rule t)
  at-unless c (Some frame) rule t h k = at-refuse c _ t _ refl refl refl refl refl (λ z. z) h
  at-unless c None rule t h k = k refl

  -- a command by which too much would wait is refused
  at-room : (c : Cmd) (o : Option ℕ) (rule : Talk → Talk) (t : Talk) → Was t → Raised c (rule t) → Raised c (unless_full o rule t)
  at-room c (Some octets) rule t h k = at-refuse c _ t _ refl refl refl refl refl (λ z. z) h
  at-room c None rule t h k = k

  -- a new secret is told
  at-update-secret : (secret reason : List ℕ) (t : Talk) → Was t → Raised (UpdateSecret secret reason) (update_secret secret reason t)
  at-update-secret secret reason t h =
      let c : Cmd = UpdateSecret secret reason in
      let frame = new_secret secret reason in
      at-unless c (too_long (frame ∷ []) t) (queue_secret frame) t h
      (λ fits.
      raised c t _ None t.promises refl refl refl (λ n. refl) (λ z. z) (λ o. o)
      (λ m low z b.
      bears-expected (cs ++ c ∷ []) r left _ t.state _ 0 _ (new-other cs c t.made m refl)
      (bears-push (cs ++ c ∷ []) r left _ t.state t.outbox (plain_item 0 frame) refl refl (bears-grow cs c t.made m r left t.state t.outbox None t.promises b))) h)

  -- a method is sent
  at-send : (x : Result Channel ErrorKind) (ref : ChanRef) (method : OtherMethod) (t : Talk) → t.state ≡ Connected → Was t → Raised (Send ref method) (send_target x ref.id method t)
  at-send (Err e) ref method t hs h = at-refuse (Send ref method) e t _ refl refl refl refl refl (λ z. z) h
  at-send (Ok d) ref method t hs h =
      let c : Cmd = Send ref method in
      let frame = method_frame ref.id method in
      at-unless c (too_long (frame ∷ []) t) (unless_full (too_full (frame ∷ []) t) (queue_send ref.id frame)) t h
      (λ fits.
      at-room c (too_full (frame ∷ []) t) (queue_send ref.id frame) t h
      (raised c t _ None t.promises refl refl refl (λ n. refl) (λ z. z) (λ o. o)
      (λ m low z b. bears-send cs c t.made m r left t.state t.outbox ref.id frame t.promises (not-closing t.state hs) refl refl low.0 b) h))

  -- a method is published
  at-publish : (x : Result Channel ErrorKind) (ref : ChanRef) (method : OtherMethod) (properties body : List ℕ) (t : Talk) → t.state ≡ Connected → Was t
      → Raised (Publish ref method properties body) (publish_target x ref.id method properties body t)
  at-publish (Err e) ref method properties body t hs h = at-refuse (Publish ref method properties body) e t _ refl refl refl refl refl (λ z. z) h
  at-publish (Ok d) ref method properties body t hs h =
      let c : Cmd = Publish ref method properties body in
      let frames = publish_frames ref.id method properties body (body_limit t) in
      at-unless c (too_long frames t) (unless_full (too_full frames t) (queue_publish ref.id frames)) t h
      (λ fits.
      at-room c (too_full frames t) (queue_publish ref.id frames) t h
      (raised c t _ None t.promises refl refl refl (λ n. refl) (λ z. z) (λ o. o)
      (λ m low z b.
      bears-publish cs c t.made m r left t.state t.outbox ref.id frames t.promises (not-closing t.state hs) refl
      (publish-content ref.id method properties body (body_limit t) (pieces-fit ref.id method properties body t (z (ap (λ s. is_agreed s t.phase) hs)) fits)) low.1 b) h))

  -- ---- commands that take no promise

  -- a channel is let go
  at-leave : (x : Result Channel ErrorKind) (n : ℕ) (t : Talk) → Was t → Was (drop_target x n t)
  at-leave (Err e) n t h = h
  at-leave (Ok c) n t h =
      let said : Item = plain_item n (our_channel_close n 200 (codes "OK")) in
      let e : ErrorKind = InvalidChannelState channel.Closing word.ChannelClose in
      moved cs answered r left t _ refl (λ z. z)
      (λ k. ap (λ p. is_sent (at k p)) (rejected-is e (filter (is_on n) t.outbox.publish) t.promises) ∙ each-sent k e (map promise_of_group (filter (is_on n) t.outbox.publish)) t.promises)
      (λ o. o)
      (λ b.
      bears-expected cs r left _ t.state _ n _ tt
      (bears-groups-of cs r left t.promises t.state (pushed_control said t.outbox) n e (bears-push cs r left t.promises t.state t.outbox said refl refl b))) h

  -- the connection is let go
  at-leave-connection : (t : Talk) → Was t → Was (leave_connection 200 (codes "OK") None t)
  at-leave-connection t h =
      let said : Item = plain_item 0 (our_close 200 (codes "OK")) in
      let e : ErrorKind = InvalidConnectionState Closing in
      moved cs answered r left t _ refl (λ z k. absurd cc)
      (λ k. ap (λ p. is_sent (at k p)) (rejected-is e t.outbox.publish t.promises) ∙ each-sent k e (map promise_of_group t.outbox.publish) t.promises)
      (λ o. o)
      (λ b.
      bears-expected cs r left _ Closing _ 0 _ tt
      (bears-closing _ _ t.state (bears-groups cs r left t.promises t.state (pushed_control said t.outbox) e (bears-push cs r left t.promises t.state t.outbox said refl refl b)))) h

  -- events are kept
  at-listen : (t : Talk) → Was t → Was (listen t)
  at-listen t h = moved cs answered r left t (listen t) refl (λ z. z) (λ n. refl) (λ o. o) (λ b. b) h

  -- ---- the table

  abbrev After : Cmd → Talk → Type 0
  After c t = IsAt (cs ++ answered_command c) answered r left t

  none-more : (t : Talk) → Was t → IsAt (cs ++ []) answered r left t
  none-more t h = (let Q : List Cmd → Type 0 = λ xs. IsAt xs answered r left t in subst Q (sym (append-nil cs)) h)

  -- the rule for a command
  at-rule : (state : ConnectionState) (c : Cmd) (t : Talk) → t.state ≡ state → Was t → After c (command_rule state c t)
  at-rule Connected OpenChannel t hs h =
      let first = first_number t.configuration.channel_max t.cursor in
      at-drawn (drawn t.configuration.channel_max first t.channels) first t h
  at-rule Connected (CloseChannel ref code text) t hs h = at-close-target (target ref word.ChannelClose t) ref ref.id code text t h
  at-rule Connected (CloseConnection code text) t hs h = at-close-connection code text t h
  at-rule Connected (UpdateSecret secret reason) t hs h = at-update-secret secret reason t h
  at-rule Connected (Send ref method) t hs h = at-send (target ref word.Send t) ref method t hs h
  at-rule Connected (Publish ref method properties body) t hs h = at-publish (target ref word.Publish t) ref method properties body t hs h
  at-rule Connected (Flow ref active) t hs h = at-flow-target (target ref word.ChannelFlow t) ref ref.id active t h
  at-rule Connected (DropChannel ref) t hs h = none-more _ (at-leave (target ref word.ChannelClose t) ref.id t h)
  at-rule Connected DropConnection t hs h = none-more _ (at-leave-connection t h)
  at-rule Connected Listen t hs h = none-more _ (at-listen t h)
  at-rule _ (DropChannel ref) t hs h = none-more _ h
  at-rule _ DropConnection t hs h = none-more _ h
  at-rule _ Listen t hs h = none-more _ (at-listen t h)
  at-rule _ OpenChannel t hs h = at-refuse OpenChannel _ t _ refl refl refl refl refl (λ z. z) h
  at-rule _ (CloseChannel a b c) t hs h = at-refuse (CloseChannel a b c) _ t _ refl refl refl refl refl (λ z. z) h
  at-rule _ (CloseConnection a b) t hs h = at-refuse (CloseConnection a b) _ t _ refl refl refl refl refl (λ z. z) h
  at-rule _ (UpdateSecret a b) t hs h = at-refuse (UpdateSecret a b) _ t _ refl refl refl refl refl (λ z. z) h
  at-rule _ (Send a b) t hs h = at-refuse (Send a b) _ t _ refl refl refl refl refl (λ z. z) h
  at-rule _ (Publish a b c d) t hs h = at-refuse (Publish a b c d) _ t _ refl refl refl refl refl (λ z. z) h
  at-rule _ (Flow a b) t hs h = at-refuse (Flow a b) _ t _ refl refl refl refl refl (λ z. z) h

  -- a command that was told, with those that are answered
  pub at-command : (c : Cmd) (t : Talk) → Was t → After c (command c t)
  at-command c t h = at-rule t.state c t refl h
