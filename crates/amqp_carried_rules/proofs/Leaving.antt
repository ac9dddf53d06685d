-- Frames that go out: those that are committed, and those whose last byte is sent.
use Rattle.std.proofs.Common.{◌≡◌, ◌≤◌, inl, inr, ◌∙◌, ap, sym, subst, refl, ℕ, suc, Bool, true, false, if◌then◌else◌, List, [], ◌∷◌, ◌++◌, Option, Some, None, append_assoc, append-nil, arith}
use Rattle.amqp_frame.specs.declared.frame.Frame.{Frame}
use Rattle.amqp_frame.specs.declared.frame.Frame.TheVariants.{Method, Raw}
use Rattle.amqp_frame.specs.declared.method.Method.TheVariants.{ChannelCloseOk}
use Rattle.amqp_outbox.specs.declared.item.Item.{Item}
use Rattle.amqp_outbox.specs.declared.reply.Awaited.{Awaited}
use Rattle.amqp_outbox.specs.Queued as queued
use Rattle.amqp_outbox.specs.Queued.{after_next}
use Rattle.amqp_promise.specs.declared.state.ConnectionState.{ConnectionState}
use Rattle.amqp_outgoing.specs.declared.committed.Then.TheVariants.{Answer, Finish}
use Rattle.amqp_commands.specs.declared.command.Cmd.{Cmd}
use Rattle.amqp_commands.specs.declared.command.Cmd.TheVariants.{Send, Publish}
use Rattle.amqp_maps.specs.Listed.{at}
use Rattle.amqp_rules.specs.Talk.{Talk}
use Rattle.amqp_answers.specs.Settled.{Promises}
use Rattle.amqp_rules.specs.Writing.{flows, writes, next_out}
use Rattle.amqp_outgoing.specs.Marks.{then_of, then_by, answers, is_close_ok, mark_of}
use Rattle.amqp_carried_rules.specs.CommandFrames.{is_send, is_publish, is_raw}
use Rattle.amqp_carried_rules.proofs.Bearing.{command_at, carries, frames-carry, Reading, floor, closed, waits-map, Lines, none, other, more, whole, Lane, empty, besides, sends, Groups, Ends, Bears, IsAt}
use Rattle.amqp_carried_rules.proofs.Queueing.{lines-append, group-goes, send-goes, same-grows}

-- ---- commits

module _ (cs : List Cmd) (r : Reading) (left : List Item) (ps : Promises) (state : ConnectionState) where
  -- the next frame is committed
  pub bears-commit : (flow : Bool) (control : List Item) (publish : List (List Item)) (begun : List Item) (awaited : List (ℕ × List Awaited)) (item : Item)
      → queued.next_item flow (record { control = control; publish = publish; begun = begun; awaited = awaited }) ≡ Some item
      → Bears cs r left (record { control = control; publish = publish; begun = begun; awaited = awaited }) ps state
      → Bears cs r (left ++ item ∷ []) (after_next flow (record { control = control; publish = publish; begun = begun; awaited = awaited })) ps state
  bears-commit flow control publish (first ∷ begun) awaited item h b =
      let same : first ≡ item = cc in
      let L : List Item → Type 0 = λ items. Lines cs ps r items b.last in
      let I : Item → Type 0 = λ i. Lines cs ps r ((left ++ i ∷ []) ++ begun) b.last in
      record { last = b.last; lines = subst I same (subst L (sym (append_assoc left (first ∷ []) begun)) b.lines); ends = b.ends; awaited = b.awaited }
  bears-commit flow (first ∷ control) publish [] awaited item h b =
      let same : first ≡ item = cc in
      let I : Item → Type 0 = λ i. Bears cs r (left ++ i ∷ []) (record { control = control; publish = publish; begun = []; awaited = awaited }) ps state in
      subst I same (by b.ends) where
        left-lines : Lines cs ps r left b.last
        left-lines = (let L : List Item → Type 0 = λ items. Lines cs ps r items b.last in subst L (append-nil left) b.lines)

        with-first : (m : Reading) → Lines cs ps b.last (first ∷ []) m → Lines cs ps r ((left ++ first ∷ []) ++ []) m
        with-first m l = (let L : List Item → Type 0 = λ items. Lines cs ps r items m in subst L (sym (append-nil (left ++ first ∷ []))) (lines-append cs ps r left (first ∷ []) b.last m left-lines l))

        lane : b.last.part ≡ [] → Groups cs ps b.last.publishes publish → Lane cs ps b.last.sends (first ∷ control) → Bears cs r (left ++ first ∷ []) (record { control = control; publish = publish; begun = []; awaited = awaited }) ps state
        lane is gs (besides x y l) = record { last = b.last; lines = with-first b.last (other x y none); ends = inl (is, l, gs); awaited = b.awaited }
        lane is gs (sends c k s p w l) =
            record { last = record { part = []; sends = suc k; publishes = b.last.publishes }; lines = with-first _ (send-goes cs ps b.last first c k is s p w); ends = inl (refl, l, gs); awaited = b.awaited }

        by : Ends cs ps state (first ∷ control) publish b.last → Bears cs r (left ++ first ∷ []) (record { control = control; publish = publish; begun = []; awaited = awaited }) ps state
        by (inl x) = lane x.0 x.2 x.1
        by (inr x) = record { last = b.last; lines = with-first b.last (other x.1.0.0 x.1.0.1 none); ends = inr (x.0, x.1.1, x.2, x.3); awaited = b.awaited }
  bears-commit false [] publish [] awaited item h b = absurd cc
  bears-commit true [] [] [] awaited item h b = absurd cc
  bears-commit true [] ([] ∷ groups) [] awaited item h b = absurd cc
  bears-commit true [] ((first ∷ items) ∷ groups) [] awaited item h b =
      let same : first ≡ item = cc in
      let I : Item → Type 0 = λ i. Bears cs r (left ++ i ∷ []) (record { control = []; publish = groups; begun = items; awaited = awaited }) ps state in
      subst I same (by b.ends) where
        by : Ends cs ps state [] ((first ∷ items) ∷ groups) b.last → Bears cs r (left ++ first ∷ []) (record { control = []; publish = groups; begun = items; awaited = awaited }) ps state
        by (inl x) =
            let m : Reading = record { part = []; sends = b.last.sends; publishes = suc x.2.0 } in
            let L : List Item → Type 0 = λ items. Lines cs ps r items b.last in
            let M : List Item → Type 0 = λ xs. Lines cs ps r xs m in
            let goes : Lines cs ps b.last (first ∷ items) m = group-goes cs ps b.last x.2.0 (first ∷ items) x.0 x.2.1 in
            record {
              last = m;
              lines = subst M (sym (append_assoc left (first ∷ []) items)) (lines-append cs ps r left (first ∷ items) b.last m (subst L (append-nil left) b.lines) goes);
              ends = inl (refl, empty, x.2.2);
              awaited = b.awaited;
            }
        by (inr x) = (let no = x.2 in absurd cc)

module _ (cs : List Cmd) (answered : ℕ → Bool) (r : Reading) (left : List Item) where
  -- the next frame is committed
  pub at-commit : (t : Talk) (item : Item) → next_out t ≡ Some item → IsAt cs answered r left t
      → IsAt cs answered r (left ++ item ∷ []) (record t { outbox = after_next (flows t) t.outbox; committed = t.committed ++ mark_of item ∷ [] })
  at-commit t item is h =
      record {
        made = h.made;
        agrees = h.agrees;
        fresh = h.fresh;
        sized = h.sized;
        low = h.low;
        bears = λ o.
            let q = t.outbox in
            bears-commit cs r left t.promises t.state (flows t) q.control q.publish q.begun q.awaited item (may (writes t) (queued.next_item (flows t) q) is) (h.bears o);
      } where
        may : (b : Bool) (o : Option Item) → (if b then o else None) ≡ Some item → o ≡ Some item
        may true o is = is
        may false o is = absurd cc

-- ---- what follows a frame

then-promise : (f : Frame) (o : Option ℕ) (k : ℕ) → then_by f o ≡ Answer k → o ≡ Some k
then-promise (Method n ChannelCloseOk) o k h = absurd cc
then-promise _ None k h = absurd cc
then-promise _ (Some j) k h = (let same : j ≡ k = cc in ap (λ (m : ℕ). Some m) same)

-- a promise is answered only where the frame has one
pub answer-promise : (i : Item) (k : ℕ) → then_of i ≡ Answer k → i.promise ≡ Some k
answer-promise i k h = by (is_close_ok i.frame) h where
  by : (b : Bool) → (if b then Finish else then_by i.frame i.promise) ≡ Answer k → i.promise ≡ Some k
  by true h = absurd cc
  by false h = then-promise i.frame i.promise k h

-- of a frame that is passed through it alone is
pub raw-then : (f : Frame) (o : Option ℕ) → is_raw f ≡ true → (if is_close_ok f then Finish else then_by f o) ≡ answers o
raw-then (Raw n kind bytes) o h = refl
raw-then _ o h = absurd cc

-- ---- promises from a number on

module _ (cs : List Cmd) (ps ps' : Promises) where
  abbrev pub StaysFrom : Reading → Type 0
  StaysFrom r = (c : Cmd) (k : ℕ) → command_at cs k ≡ Some c → carries (Some c) ≡ true → floor c r ≤ k → at k ps' ≡ at k ps

  from-closed : (d c : Cmd) (k m : ℕ) (r : Reading) → floor d r ≤ m → floor c (closed d m r) ≤ k → floor c r ≤ k
  from-closed (Send a b) (Send u v) k m r le h = omega (arith, le, h)
  from-closed (Publish a b x y) (Send u v) k m r le h = h
  from-closed (Send a b) (Publish u v w z) k m r le h = h
  from-closed (Publish a b x y) (Publish u v w z) k m r le h = omega (arith, le, h)
  from-closed _ (Send u v) k m r le h = h
  from-closed _ (Publish u v w z) k m r le h = h
  from-closed _ _ k m r le h = omega arith

  -- promises of lesser numbers change, and what waits goes on to wait
  pub lines-from : (r : Reading) (is : List Item) (r' : Reading) → Lines cs ps r is r' → StaysFrom r → Lines cs ps' r is r'
  lines-from r [] r' none f = none
  lines-from r (i ∷ is) r' (other a b l) f = other a b (lines-from r is r' l f)
  lines-from r (i ∷ is) r' (more a b l) f = more a b (lines-from _ is r' l (λ c k told carry le. f c k told carry (by c le))) where
    by : (c : Cmd) {k : ℕ} → floor c (record { part = r.part ++ i.frame ∷ []; sends = r.sends; publishes = r.publishes }) ≤ k → floor c r ≤ k
    by (Send a b) le = le
    by (Publish a b x y) le = le
    by _ le = le
  lines-from r (i ∷ is) r' (whole c k p w l) f =
      whole c k p (waits-map cs cs ps ps' (same-grows cs) _ c k _ w (λ e. f c k w.told (frames-carry c _ w.frames) w.above ∙ e))
      (lines-from (closed c k r) is r' l (λ d m told carry le. f d m told carry (from-closed c d m k r w.above le)))

  -- the same of the control lane
  pub lane-from : (n : ℕ) (is : List Item) → Lane cs ps n is → ((c : Cmd) (k : ℕ) → command_at cs k ≡ Some c → is_send c ≡ true → n ≤ k → at k ps' ≡ at k ps) → Lane cs ps' n is
  lane-from n [] empty f = empty
  lane-from n (i ∷ is) (besides a b l) f = besides a b (lane-from n is l f)
  lane-from n (i ∷ is) (sends c k s p w l) f =
      sends c k s p (waits-map cs cs ps ps' (same-grows cs) _ c k _ w (λ e. f c k w.told s w.above ∙ e))
      (lane-from (suc k) is l (λ d m told t le. f d m told t (omega (arith, le, w.above))))

  -- the same of the groups
  pub groups-from : (n : ℕ) (gs : List (List Item)) → Groups cs ps n gs → ((c : Cmd) (k : ℕ) → command_at cs k ≡ Some c → is_publish c ≡ true → n ≤ k → at k ps' ≡ at k ps) → Groups cs ps' n gs
  groups-from n [] h f = tt
  groups-from n (g ∷ gs) h f =
      let x = h.1 in (
        h.0,
        record {
          command = x.command;
          publish = x.publish;
          channel = x.channel;
          frames = x.frames;
          items = x.items;
          waits = waits-map cs cs ps ps' (same-grows cs) _ x.command h.0 _ x.waits (λ e. f x.command h.0 x.waits.told x.publish x.waits.above ∙ e);
        },
        groups-from (suc h.0) gs h.2 (λ d m told t le. f d m told t (omega (arith, le, x.waits.above))),
      )
