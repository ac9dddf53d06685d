-- What the changes of the lanes leave of the frames that wait.
use Rattle.std.proofs.Common.{◌≡◌, ◌≢◌, ◌≤◌, ◌⊎◌, inl, inr, ◌∙◌, ap, sym, subst, refl, ℕ, suc, Bool, true, false, not, cond, List, [], ◌∷◌, ◌++◌, length, map, Option, Some, None, append_assoc, arith}
use Rattle.std.specs.Prelude.{filter}
use Rattle.std.specs.List.{AllByRecursion}
use Rattle.amqp_frame.specs.declared.frame.Frame.{Frame}
use Rattle.amqp_frame.specs.declared.frame.Frame.TheVariants.{Raw}
use Rattle.amqp_frame.specs.declared.frame.RawKind.TheVariants.{Body}
use Rattle.amqp_frame.specs.RawMethods.{OtherMethod}
use Rattle.amqp_outbox.specs.declared.item.Item.{Item}
use Rattle.amqp_outbox.specs.Items.{group_of, promise_of_group}
use Rattle.amqp_commands.specs.declared.command.Cmd.{Cmd}
use Rattle.amqp_commands.specs.declared.command.Cmd.TheVariants.{Send, Publish}
use Rattle.amqp_maps.specs.Listed.{at}
use Rattle.amqp_answers.specs.Settled.{Promises}
use Rattle.amqp_carried_rules.specs.CommandFrames.{AreContentFrames, AreFramesOf, is_send, is_publish, is_raw, is_sent}
use Rattle.amqp_carried_rules.proofs.Bearing.{command_at, carries, NotIn, Reading, floor, closed, Waits, waits-map, Grows, Lines, none, other, more, whole, Lane, empty, besides, sends, IsGroup, Groups, IsPart, told-made, frames-carry}

-- a send is no publish
pub kinds-differ : (c : Cmd) → is_send c ≡ true → is_publish c ≡ true → ⊥
kinds-differ (Send a b) h g = cc
kinds-differ _ h g = cc

snoc-some : {A : Type 0} (xs : List A) (x : A) → (xs ++ x ∷ []) ≢ []
snoc-some [] x h = cc
snoc-some (y ∷ xs) x h = cc

-- the frames of a publish are passed through, and there are some
bodies-raw : (n : ℕ) (pieces : List (List ℕ)) → AllByRecursion (λ f. is_raw f ≡ true) (map (Raw n Body) pieces)
bodies-raw n [] = tt
bodies-raw n (p ∷ pieces) = (refl, bodies-raw n pieces)

-- all frames of a publish are passed through
pub content-raw : (n : ℕ) (m : OtherMethod) (x y : List ℕ) (fs : List Frame) → AreContentFrames n m x y fs → AllByRecursion (λ f. is_raw f ≡ true) fs
content-raw n m x y fs h =
    let Q : List Frame → Type 0 = λ fs. AllByRecursion (λ f. is_raw f ≡ true) fs in
    subst Q (sym h.frames) (refl, (refl, bodies-raw n h.pieces))

content-some : (n : ℕ) (m : OtherMethod) (x y : List ℕ) (fs : List Frame) → AreContentFrames n m x y fs → fs ≢ []
content-some n m x y fs h e = let no = sym h.frames ∙ e in cc

module _ (cs : List Cmd) (ps : Promises) where
  -- ---- one reading after another

  -- frames behind others lead on from where those led
  pub lines-append : (r : Reading) (xs ys : List Item) (r' r'' : Reading) → Lines cs ps r xs r' → Lines cs ps r' ys r'' → Lines cs ps r (xs ++ ys) r''
  lines-append r [] ys r' r'' none k = k
  lines-append r (i ∷ xs) ys r' r'' (other a b l) k = other a b (lines-append r xs ys r' r'' l k)
  lines-append r (i ∷ xs) ys r' r'' (more a b l) k = more a b (lines-append _ xs ys r' r'' l k)
  lines-append r (i ∷ xs) ys r' r'' (whole c n p w l) k = whole c n p w (lines-append (closed c n r) xs ys r' r'' l k)

  -- and what leads somewhere leads there in two parts
  pub lines-split : (r : Reading) (xs ys : List Item) (r'' : Reading) → Lines cs ps r (xs ++ ys) r'' → (r' : Reading) × Lines cs ps r xs r' × Lines cs ps r' ys r''
  lines-split r [] ys r'' l = (r, none, l)
  lines-split r (i ∷ xs) ys r'' (other a b l) = let m = lines-split r xs ys r'' l in (m.0, other a b m.1, m.2)
  lines-split r (i ∷ xs) ys r'' (more a b l) = let m = lines-split _ xs ys r'' l in (m.0, more a b m.1, m.2)
  lines-split r (i ∷ xs) ys r'' (whole c n p w l) = let m = lines-split (closed c n r) xs ys r'' l in (m.0, whole c n p w m.1, m.2)

  -- nothing is open, or the first frames of a publish
  abbrev pub IsOpenPart : Reading → Type 0
  IsOpenPart r = (r.part ≡ []) ⊎ IsPart cs ps r

  -- what is open before the last frame of a command
  part-of : (c : Cmd) (k : ℕ) (part : List Frame) (f : Frame) (r : Reading) → r.part ≡ part → Waits cs ps (floor c r) c k (part ++ f ∷ []) → IsOpenPart r
  part-of c k [] f r is w = inl is
  part-of (Send a b) k (x ∷ []) f r is w = let h = w.frames in absurd cc
  part-of (Send a b) k (x ∷ y ∷ part) f r is w = let h = w.frames in absurd cc
  part-of (Publish a b u v) k (x ∷ part) f r is w =
      let P : List Frame → Type 0 = λ fs. AreFramesOf (Publish a b u v) (fs ++ f ∷ []) in
      inr (record {
        command = Publish a b u v;
        number = k;
        told = w.told;
        publish = refl;
        above = w.above;
        unanswered = ap is_sent w.waits;
        rest = f ∷ [];
        proper = λ h. cc;
        frames = subst P (sym is) w.frames;
      })
  part-of _ k (x ∷ part) f r is w = absurd w.frames

  -- what is open before one frame more of a group
  less-part : (r x : Reading) (f : Frame) → x.part ≡ r.part ++ f ∷ [] → x.publishes ≡ r.publishes → IsOpenPart x → IsOpenPart r
  less-part r x f is same (inl e) = absurd (snoc-some r.part f (sym is ∙ e))
  less-part r x f is same (inr h) =
      let P : List Frame → Type 0 = λ fs. AreFramesOf h.command fs in
      inr (record {
        command = h.command;
        number = h.number;
        told = h.told;
        publish = h.publish;
        above = omega (arith, h.above, same);
        unanswered = h.unanswered;
        rest = f ∷ h.rest;
        proper = λ h. cc;
        frames = subst P (ap (λ fs. fs ++ h.rest) is ∙ append_assoc r.part (f ∷ []) h.rest) h.frames;
      })

  -- what is open before some frames, by what is open behind them
  pub open-before : (r : Reading) (is : List Item) (r' : Reading) → Lines cs ps r is r' → IsOpenPart r' → IsOpenPart r
  open-before r [] r' none h = h
  open-before r (i ∷ is) r' (other a b l) h = open-before r is r' l h
  open-before r (i ∷ is) r' (more a b l) h = less-part r _ i.frame refl refl (open-before _ is r' l h)
  open-before r (i ∷ is) r' (whole c k p w l) h = part-of c k r.part i.frame r refl w

  -- ---- what goes last

  -- a frame that is not passed through goes last
  pub lane-plain : (n : ℕ) (is : List Item) (i : Item) → is_raw i.frame ≡ false → i.promise ≡ None → Lane cs ps n is → Lane cs ps n (is ++ i ∷ [])
  lane-plain n [] i a b empty = besides a b empty
  lane-plain n (j ∷ is) i a b (besides u v l) = besides u v (lane-plain n is i a b l)
  lane-plain n (j ∷ is) i a b (sends c k s p w l) = sends c k s p w (lane-plain (suc k) is i a b l)

  -- a group, from a greater number on
  group-from : (n k : ℕ) (g : List Item) → IsGroup cs ps 0 k g → n ≤ k → IsGroup cs ps n k g
  group-from n k g h low =
      record {
        command = h.command;
        publish = h.publish;
        channel = h.channel;
        frames = h.frames;
        items = h.items;
        waits = record { told = h.waits.told; frames = h.waits.frames; waits = h.waits.waits; above = low };
      }

  group-below : (n k : ℕ) (g : List Item) → IsGroup cs ps n k g → IsGroup cs ps 0 k g
  group-below n k g h =
      record {
        command = h.command;
        publish = h.publish;
        channel = h.channel;
        frames = h.frames;
        items = h.items;
        waits = record { told = h.waits.told; frames = h.waits.frames; waits = h.waits.waits; above = omega arith };
      }

  -- the first group goes out behind what was read
  group-lines : (m k : ℕ) (c : Cmd) (fs part : List Frame) (r r' : Reading) → r.part ≡ part → is_publish c ≡ true → AllByRecursion (λ f. is_raw f ≡ true) fs → fs ≢ []
      → Waits cs ps (floor c r) c k (part ++ fs) → closed c k r ≡ r' → Lines cs ps r (group_of m fs k) r'
  group-lines m k c [] part r r' is p raw some w e = absurd (some refl)
  group-lines m k c (f ∷ []) part r r' is p raw some w e =
      let Q : Reading → Type 0 = λ x. Lines cs ps (closed c k r) [] x in
      let W : List Frame → Type 0 = λ fs. Waits cs ps (floor c r) c k (fs ++ f ∷ []) in
      whole c k refl (subst W (sym is) w) (subst Q e none)
  group-lines m k c (f ∷ g ∷ fs) part r r' is p raw some w e =
      let x : Reading = record { part = r.part ++ f ∷ []; sends = r.sends; publishes = r.publishes } in
      let W : List Frame → Type 0 = λ fs. Waits cs ps (floor c r) c k fs in
      let same : closed c k x ≡ closed c k r = closed-part c k r (r.part ++ f ∷ []) p in
      let low : floor c x ≡ floor c r = floor-part c r (r.part ++ f ∷ []) in
      let V : ℕ → Type 0 = λ n. Waits cs ps n c k ((part ++ f ∷ []) ++ g ∷ fs) in
      more raw.0 refl
      (group-lines m k c (g ∷ fs) (part ++ f ∷ []) x r' (ap (λ fs. fs ++ f ∷ []) is) p raw.1 (λ h. cc)
      (subst V (sym low) (subst W (sym (append_assoc part (f ∷ []) (g ∷ fs))) w)) (same ∙ e))
    where
      closed-part : (c : Cmd) (k : ℕ) (r : Reading) (fs : List Frame) → is_publish c ≡ true → closed c k (record { part = fs; sends = r.sends; publishes = r.publishes }) ≡ closed c k r
      closed-part (Publish a b x y) k r fs h = refl
      closed-part _ k r fs h = absurd cc

      floor-part : (c : Cmd) (r : Reading) (fs : List Frame) → floor c (record { part = fs; sends = r.sends; publishes = r.publishes }) ≡ floor c r
      floor-part (Send a b) r fs = refl
      floor-part (Publish a b x y) r fs = refl
      floor-part _ r fs = refl

  -- a group goes out, where nothing is open
  pub group-goes : (r : Reading) (k : ℕ) (g : List Item) → r.part ≡ [] → IsGroup cs ps r.publishes k g
      → Lines cs ps r g (record { part = []; sends = r.sends; publishes = suc k })
  group-goes r k g is h =
      let L : List Item → Type 0 = λ items. Lines cs ps r items (record { part = []; sends = r.sends; publishes = suc k }) in
      subst L (sym h.items) (by h.command h.publish h.waits) where
        by : (c : Cmd) → is_publish c ≡ true → Waits cs ps r.publishes c k h.frames → Lines cs ps r (group_of h.channel h.frames k) (record { part = []; sends = r.sends; publishes = suc k })
        by (Publish a b x y) p w =
            let fs = w.frames in
            group-lines h.channel k (Publish a b x y) h.frames [] r _ is refl (content-raw a.id b x y h.frames fs) (content-some a.id b x y h.frames fs) w refl
        by _ p w = absurd cc

  -- a send of the lane goes out behind what was read
  pub send-goes : (r : Reading) (i : Item) (c : Cmd) (k : ℕ) → r.part ≡ [] → is_send c ≡ true → i.promise ≡ Some k → Waits cs ps r.sends c k (i.frame ∷ [])
      → Lines cs ps r (i ∷ []) (record { part = []; sends = suc k; publishes = r.publishes })
  send-goes r i (Send a b) k is s p w =
      let W : List Frame → Type 0 = λ fs. Waits cs ps r.sends (Send a b) k (fs ++ i.frame ∷ []) in
      whole (Send a b) k p (subst W (sym is) w) none
  send-goes r i _ k is s p w = absurd cc

-- ---- a command more, with the next number

module _ (cs cs' : List Cmd) (ps ps' : Promises) (grows : Grows cs cs')
    (stays : (c : Cmd) (k : ℕ) → command_at cs k ≡ Some c → carries (Some c) ≡ true → at k ps ≡ Some None → at k ps' ≡ Some None) where
  -- a send goes last into the control lane, with the next number
  pub lane-send : (n : ℕ) (is : List Item) (i : Item) (c : Cmd) → is_send c ≡ true → i.promise ≡ Some (suc (length cs)) → n ≤ suc (length cs)
      → Waits cs' ps' 0 c (suc (length cs)) (i.frame ∷ []) → Lane cs ps n is → Lane cs' ps' n (is ++ i ∷ [])
  lane-send n [] i c s p low w empty =
      sends c (suc (length cs)) s p (record { told = w.told; frames = w.frames; waits = w.waits; above = low }) empty
  lane-send n (j ∷ is) i c s p low w (besides u v l) = besides u v (lane-send n is i c s p low w l)
  lane-send n (j ∷ is) i c s p low w (sends d m t q x l) =
      sends d m t q (waits-map cs cs' ps ps' grows n d m _ x (stays d m x.told (frames-carry d _ x.frames)))
      (lane-send (suc m) is i c s p (omega (arith, told-made cs m d x.told)) w l)

  -- a publish goes last, with the next number
  pub groups-push : (n : ℕ) (gs : List (List Item)) (g : List Item) → IsGroup cs' ps' 0 (suc (length cs)) g → n ≤ suc (length cs) → Groups cs ps n gs
      → Groups cs' ps' n (gs ++ g ∷ [])
  groups-push n [] g h low all = (suc (length cs), group-from cs' ps' n (suc (length cs)) g h low, tt)
  groups-push n (f ∷ gs) g h low all =
      let x = all.1.waits in (
        all.0,
        record {
          command = all.1.command;
          publish = all.1.publish;
          channel = all.1.channel;
          frames = all.1.frames;
          items = all.1.items;
          waits = waits-map cs cs' ps ps' grows n all.1.command all.0 _ x (stays all.1.command all.0 x.told (frames-carry all.1.command _ x.frames));
        },
        groups-push (suc all.0) gs g h (omega (arith, told-made cs all.0 all.1.command x.told)) all.2,
      )

-- ---- what goes with a channel

-- the promise of a group stands at its last frame
group-promise : (m k : ℕ) (fs : List Frame) → fs ≢ [] → promise_of_group (group_of m fs k) ≡ Some k
group-promise m k [] some = absurd (some refl)
group-promise m k (f ∷ []) some = refl
group-promise m k (f ∷ g ∷ []) some = refl
group-promise m k (f ∷ g ∷ h ∷ fs) some = group-promise m k (g ∷ h ∷ fs) (λ e. cc)

publish-some : (c : Cmd) (fs : List Frame) → is_publish c ≡ true → AreFramesOf c fs → fs ≢ []
publish-some (Publish a b x y) fs p h = content-some a.id b x y fs h
publish-some _ fs p h = absurd cc

-- so a group has the promise of its publish
pub is-promise : (cs : List Cmd) (ps : Promises) (low k : ℕ) (g : List Item) → IsGroup cs ps low k g → promise_of_group g ≡ Some k
is-promise cs ps low k g h = ap promise_of_group h.items ∙ group-promise h.channel k h.frames (publish-some h.command h.frames h.publish h.waits.frames)

-- the number is another where the promise is
other-promise : (o : Option ℕ) (j k : ℕ) → o ≡ Some j → j ≢ k → o ≢ Some k
other-promise o j k is ne e = let same : Some j ≡ Some k = sym is ∙ e in ne cc

module _ (cs : List Cmd) (ps : Promises) (k : ℕ) where
  -- a number that is none of the groups' is none of theirs that go
  pub groups-differ : (p : List Item → Bool) (n : ℕ) (gs : List (List Item)) → Groups cs ps n gs
      → ((j : ℕ) (c : Cmd) → command_at cs j ≡ Some c → is_publish c ≡ true → n ≤ j → j ≢ k) → NotIn k (map promise_of_group (filter p gs))
  groups-differ p n [] h f = tt
  groups-differ p n (g ∷ gs) h f = by (p g) (groups-differ p (suc h.0) gs h.2 (λ j c told is le. f j c told is (omega (arith, le, h.1.waits.above)))) where
    by : (b : Bool) → NotIn k (map promise_of_group (filter p gs)) → NotIn k (map promise_of_group (cond b (g ∷ filter p gs) (filter p gs)))
    by true rest = (other-promise (promise_of_group g) h.0 k (is-promise cs ps n h.0 g h.1) (f h.0 h.1.command h.1.waits.told h.1.publish h.1.waits.above), rest)
    by false rest = rest

  -- the same of the frames of the control lane
  pub lane-differ : (p : Item → Bool) (n : ℕ) (is : List Item) → Lane cs ps n is
      → ((j : ℕ) (c : Cmd) → command_at cs j ≡ Some c → is_send c ≡ true → n ≤ j → j ≢ k) → NotIn k (map (λ (i : Item). i.promise) (filter p is))
  lane-differ p n [] empty f = tt
  lane-differ p n (i ∷ is) (besides a b l) f = by (p i) (lane-differ p n is l f) where
    by : (x : Bool) → NotIn k (map (λ (i : Item). i.promise) (filter p is)) → NotIn k (map (λ (i : Item). i.promise) (cond x (i ∷ filter p is) (filter p is)))
    by true rest = ((λ e. let same : None ≡ Some k = sym b ∙ e in cc), rest)
    by false rest = rest
  lane-differ p n (i ∷ is) (sends c m s q w l) f = by (p i) (lane-differ p (suc m) is l (λ j d told t le. f j d told t (omega (arith, le, w.above)))) where
    by : (x : Bool) → NotIn k (map (λ (i : Item). i.promise) (filter p is)) → NotIn k (map (λ (i : Item). i.promise) (cond x (i ∷ filter p is) (filter p is)))
    by true rest = (other-promise i.promise m k q (f m c w.told s w.above), rest)
    by false rest = rest

-- what is not passed through has no promise
pub plain-differ : (k : ℕ) (p : Item → Bool) (is : List Item) → AllByRecursion (λ (i : Item). (is_raw i.frame ≡ false) × (i.promise ≡ None)) is
    → NotIn k (map (λ (i : Item). i.promise) (filter p is))
plain-differ k p [] h = tt
plain-differ k p (i ∷ is) h = by (p i) (plain-differ k p is h.1) where
  by : (x : Bool) → NotIn k (map (λ (i : Item). i.promise) (filter p is)) → NotIn k (map (λ (i : Item). i.promise) (cond x (i ∷ filter p is) (filter p is)))
  by true rest = ((λ e. let same : None ≡ Some k = sym h.0.1 ∙ e in cc), rest)
  by false rest = rest

pub same-grows : (cs : List Cmd) → Grows cs cs
same-grows cs k c h = h

lane-weaker : (cs : List Cmd) (ps : Promises) (m n : ℕ) (is : List Item) → m ≤ n → Lane cs ps n is → Lane cs ps m is
lane-weaker cs ps m n [] le empty = empty
lane-weaker cs ps m n (i ∷ is) le (besides a b l) = besides a b (lane-weaker cs ps m n is le l)
lane-weaker cs ps m n (i ∷ is) le (sends c k s p w l) =
    sends c k s p (record { told = w.told; frames = w.frames; waits = w.waits; above = omega (arith, le, w.above) }) l

groups-weaker : (cs : List Cmd) (ps : Promises) (m n : ℕ) (gs : List (List Item)) → m ≤ n → Groups cs ps n gs → Groups cs ps m gs
groups-weaker cs ps m n [] le h = tt
groups-weaker cs ps m n (g ∷ gs) le h = (h.0, group-from cs ps m h.0 g (group-below cs ps n h.0 g h.1) (omega (arith, le, h.1.waits.above)), h.2)

module _ (cs : List Cmd) (ps ps' : Promises) where
  -- the promises of commands of a kind, from a number on, wait as before but for these
  abbrev pub StaysBut : (Cmd → Bool) → ℕ → List (Option ℕ) → Type 0
  StaysBut is_kind n os =
      (k : ℕ) (c : Cmd) → command_at cs k ≡ Some c → is_kind c ≡ true → n ≤ k → NotIn k os → at k ps ≡ Some None → at k ps' ≡ Some None

  -- some groups go, and the promises of the others wait as before
  pub groups-left : (p : List Item → Bool) (n : ℕ) (gs : List (List Item)) → Groups cs ps n gs → StaysBut is_publish n (map promise_of_group (filter p gs))
      → Groups cs ps' n (filter (λ g. not (p g)) gs)
  groups-left p n [] h f = tt
  groups-left p n (g ∷ gs) h f = by (p g) f (λ y. groups-left p (suc h.0) gs h.2 y) where
    by : (b : Bool) → StaysBut is_publish n (map promise_of_group (cond b (g ∷ filter p gs) (filter p gs)))
        → (StaysBut is_publish (suc h.0) (map promise_of_group (filter p gs)) → Groups cs ps' (suc h.0) (filter (λ g. not (p g)) gs))
        → Groups cs ps' n (cond (not b) (g ∷ filter (λ g. not (p g)) gs) (filter (λ g. not (p g)) gs))
    by true f rest =
        groups-weaker cs ps' n (suc h.0) (filter (λ g. not (p g)) gs) (omega (arith, h.1.waits.above))
        (rest
        (λ k c told is le out.
        f k c told is (omega (arith, le, h.1.waits.above)) (other-promise (promise_of_group g) h.0 k (is-promise cs ps n h.0 g h.1) (λ e. omega (arith, e, le)), out)))
    by false f rest =
        let w = h.1.waits in
        let out : NotIn h.0 (map promise_of_group (filter p gs)) = groups-differ cs ps h.0 p (suc h.0) gs h.2 (λ j c told is le e. omega (arith, e, le)) in (
          h.0,
          record {
            command = h.1.command;
            publish = h.1.publish;
            channel = h.1.channel;
            frames = h.1.frames;
            items = h.1.items;
            waits = waits-map cs cs ps ps' (same-grows cs) n h.1.command h.0 _ w (f h.0 h.1.command w.told h.1.publish w.above out);
          },
          rest (λ k c told is le out. f k c told is (omega (arith, le, w.above)) out),
        )

  -- some frames of the lane go
  pub lane-left : (p : Item → Bool) (n : ℕ) (is : List Item) → Lane cs ps n is → StaysBut is_send n (map (λ (i : Item). i.promise) (filter p is))
      → Lane cs ps' n (filter (λ i. not (p i)) is)
  lane-left p n [] empty f = empty
  lane-left p n (i ∷ is) (besides a b l) f = by (p i) f (λ y. lane-left p n is l y) where
    by : (x : Bool) → StaysBut is_send n (map (λ (i : Item). i.promise) (cond x (i ∷ filter p is) (filter p is)))
        → (StaysBut is_send n (map (λ (i : Item). i.promise) (filter p is)) → Lane cs ps' n (filter (λ i. not (p i)) is))
        → Lane cs ps' n (cond (not x) (i ∷ filter (λ i. not (p i)) is) (filter (λ i. not (p i)) is))
    by true f rest = rest (λ k c told s le out. f k c told s le ((λ e. let same : None ≡ Some k = sym b ∙ e in cc), out))
    by false f rest = besides a b (rest f)
  lane-left p n (i ∷ is) (sends d m s q w l) f = by (p i) f (λ y. lane-left p (suc m) is l y) where
    by : (x : Bool) → StaysBut is_send n (map (λ (i : Item). i.promise) (cond x (i ∷ filter p is) (filter p is)))
        → (StaysBut is_send (suc m) (map (λ (i : Item). i.promise) (filter p is)) → Lane cs ps' (suc m) (filter (λ i. not (p i)) is))
        → Lane cs ps' n (cond (not x) (i ∷ filter (λ i. not (p i)) is) (filter (λ i. not (p i)) is))
    by true f rest =
        lane-weaker cs ps' n (suc m) (filter (λ i. not (p i)) is) (omega (arith, w.above))
        (rest
        (λ k c told t le out. f k c told t (omega (arith, le, w.above)) (other-promise i.promise m k q (λ e. omega (arith, e, le)), out)))
    by false f rest =
        let out : NotIn m (map (λ (i : Item). i.promise) (filter p is)) = lane-differ cs ps m p (suc m) is l (λ j c told t le e. omega (arith, e, le)) in
        sends d m s q (waits-map cs cs ps ps' (same-grows cs) n d m _ w (f m d w.told s w.above out))
        (rest (λ k c told t le out. f k c told t (omega (arith, le, w.above)) out))

-- others that are not passed through go
pub plain-left : (p : Item → Bool) (is : List Item) → AllByRecursion (λ (i : Item). (is_raw i.frame ≡ false) × (i.promise ≡ None)) is
    → AllByRecursion (λ (i : Item). (is_raw i.frame ≡ false) × (i.promise ≡ None)) (filter p is)
plain-left p [] h = tt
plain-left p (i ∷ is) h = by (p i) (plain-left p is h.1) where
  by : (b : Bool) → AllByRecursion (λ (i : Item). (is_raw i.frame ≡ false) × (i.promise ≡ None)) (filter p is)
      → AllByRecursion (λ (i : Item). (is_raw i.frame ≡ false) × (i.promise ≡ None)) (cond b (i ∷ filter p is) (filter p is))
  by true rest = (h.0, rest)
  by false rest = rest
