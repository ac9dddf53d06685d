-- What a session still has to say of what it was told: the frames of sends and publishes that wait, with their promises.
use Rattle.std.proofs.Common.{◌≡◌, ◌≢◌, ◌≤◌, ◌<◌, ◌⊎◌, inl, inr, ◌∙◌, ap, sym, refl, ℕ, zero, suc, Bool, true, false, cond, List, [], ◌∷◌, ◌++◌, length, map, Option, Some, None, Result, Err, slice_get, arith}
use Rattle.std.proofs.lemmas.Bool.{cases_eq}
use Rattle.std.specs.List.{AllByRecursion}
use Rattle.std.specs.Ordering.{nat_cmp}
use Rattle.std.specs.BTreeMap.{is_at}
use Rattle.amqp_frame.specs.declared.frame.Frame.{Frame}
use Rattle.amqp_outbox.specs.declared.item.Item.{Item}
use Rattle.amqp_outbox.specs.declared.reply.Awaited.{Awaited}
use Rattle.amqp_outbox.specs.Items.{group_of, promise_of_group}
use Rattle.amqp_outbox.specs.Queued.{Queued}
use Rattle.amqp_promise.specs.declared.error.ErrorKind.{ErrorKind}
use Rattle.amqp_promise.specs.declared.state.ConnectionState.{ConnectionState}
use Rattle.amqp_promise.specs.declared.state.ConnectionState.TheVariants.{Closing}
use Rattle.amqp_answers.specs.declared.answer.Answer.{Answer}
use Rattle.amqp_commands.specs.declared.command.Cmd.{Cmd}
use Rattle.amqp_commands.specs.declared.command.Cmd.TheVariants.{Send, Publish}
use Rattle.amqp_maps.specs.Listed.{at}
use Rattle.amqp_rules.specs.Talk.{Talk, is_open}
use Rattle.amqp_answers.specs.Settled.{Promises, settled_by, settled, settled_to, rejected_slot, rejected_all}
use Rattle.amqp_rules.specs.Changes.{rejected, rejected_each}
use Rattle.amqp_settings.specs.Capacities.{frame_min_size}
use Rattle.amqp_rules.specs.Sound.{is_agreed}
use Rattle.amqp_carried_rules.specs.CommandFrames.{AreFramesOf, is_send, is_publish, is_raw, is_sent}
use Rattle.amqp_maps.proofs.Numbered.{put-same, put-other}

-- ---- commands by number

abbrev pub command_at : List Cmd → ℕ → Option Cmd
command_at cs zero = None
command_at cs (suc i) = slice_get cs i

-- a command that has frames
abbrev pub carries : Option Cmd → Bool
carries (Some (Send channel method)) = true
carries (Some (Publish channel method properties body)) = true
carries _ = false

-- a command that has frames is a send or a publish
pub frames-carry : (c : Cmd) (fs : List Frame) → AreFramesOf c fs → carries (Some c) ≡ true
frames-carry (Send channel method) fs h = refl
frames-carry (Publish channel method properties body) fs h = refl
frames-carry _ fs h = absurd h

-- a promise that is no command's with frames, and was made
abbrev pub IsOther : List Cmd → Option ℕ → Type 0
IsOther cs None = Unit {0}
IsOther cs (Some k) = (k ≤ length cs) × (carries (command_at cs k) ≡ false)

-- a number that is not among some
abbrev pub NotIn : ℕ → List (Option ℕ) → Type 0
NotIn k os = AllByRecursion (λ o. o ≢ Some k) os

-- ---- promises

-- an answer but Sent
abbrev pub NotSent : Result Answer ErrorKind → Type 0
NotSent x = is_sent (Some (Some x)) ≡ false

-- an answer changes no other promise
pub settled-elsewhere : (n k : ℕ) (x : Result Answer ErrorKind) (ps : Promises) → n ≢ k → at n (settled k x ps) ≡ at n ps
settled-elsewhere n k x ps ne = by (at k ps) where
  by : (o : Option (Option (Result Answer ErrorKind))) → at n (settled_by o k x ps) ≡ at n ps
  by None = refl
  by (Some None) = put-other n k (Some x) ps ne
  by (Some (Some y)) = refl

-- an answer but Sent makes no promise one that was answered Sent
settled-here : (k : ℕ) (x : Result Answer ErrorKind) (ps : Promises) → NotSent x → is_sent (at k (settled k x ps)) ≡ is_sent (at k ps)
settled-here k x ps h = by (at k ps) refl where
  by : (o : Option (Option (Result Answer ErrorKind))) → at k ps ≡ o → is_sent (at k (settled_by o k x ps)) ≡ is_sent (at k ps)
  by None is = refl
  by (Some None) is = ap is_sent (put-same k (Some x) ps) ∙ h ∙ sym (ap is_sent is)
  by (Some (Some y)) is = refl

-- no promise becomes Sent by another answer
pub settled-sent : (n k : ℕ) (x : Result Answer ErrorKind) (ps : Promises) → NotSent x → is_sent (at n (settled k x ps)) ≡ is_sent (at n ps)
settled-sent n k x ps h = elim (cases_eq n k) [
  | inl e ↦ ap (λ m. is_sent (at m (settled k x ps))) e ∙ settled-here k x ps h ∙ sym (ap (λ m. is_sent (at m ps)) e)
  | inr ne ↦ ap is_sent (settled-elsewhere n k x ps ne)
]

-- the same, where one is named
pub to-sent : (n : ℕ) (o : Option ℕ) (x : Result Answer ErrorKind) (ps : Promises) → NotSent x → is_sent (at n (settled_to o x ps)) ≡ is_sent (at n ps)
to-sent n None x ps h = refl
to-sent n (Some k) x ps h = settled-sent n k x ps h

-- the same of another promise than the one that is named
pub to-elsewhere : (n : ℕ) (o : Option ℕ) (x : Result Answer ErrorKind) (ps : Promises) → o ≢ Some n → at n (settled_to o x ps) ≡ at n ps
to-elsewhere n None x ps ne = refl
to-elsewhere n (Some k) x ps ne = settled-elsewhere n k x ps (λ e. ne (ap (λ (m : ℕ). Some m) (sym e)))

-- and where each of some gets an error
pub each-sent : (n : ℕ) (e : ErrorKind) (os : List (Option ℕ)) (ps : Promises) → is_sent (at n (rejected_each e os ps)) ≡ is_sent (at n ps)
each-sent n e [] ps = refl
each-sent n e (o ∷ os) ps = each-sent n e os (settled_to o (Err e) ps) ∙ to-sent n o (Err e) ps refl

-- a promise that is not among them stays
pub each-elsewhere : (n : ℕ) (e : ErrorKind) (os : List (Option ℕ)) (ps : Promises) → NotIn n os → at n (rejected_each e os ps) ≡ at n ps
each-elsewhere n e [] ps h = refl
each-elsewhere n e (o ∷ os) ps h = each-elsewhere n e os (settled_to o (Err e) ps) h.1 ∙ to-elsewhere n o (Err e) ps h.0

-- the promises of groups are rejected one after another
pub rejected-is : (e : ErrorKind) (groups : List (List Item)) (ps : Promises) → rejected e groups ps ≡ rejected_each e (map promise_of_group groups) ps
rejected-is e [] ps = refl
rejected-is e (g ∷ groups) ps = rejected-is e groups (settled_to (promise_of_group g) (Err e) ps)

-- the loss of a link makes no promise one that was answered Sent
slot-sent : (e : ErrorKind) (n : ℕ) (v : Option (Result Answer ErrorKind)) → is_sent (Some (rejected_slot e n v)) ≡ is_sent (Some v)
slot-sent e zero None = refl
slot-sent e (suc n) None = refl
slot-sent e zero (Some x) = refl
slot-sent e (suc n) (Some x) = refl

pub all-sent : (n : ℕ) (e : ErrorKind) (ps : Promises) → is_sent (at n (rejected_all e ps)) ≡ is_sent (at n ps)
all-sent n e [] = refl
all-sent n e (p ∷ ps) = by (is_at (nat_cmp n) p.0) (all-sent n e ps) where
  by : (b : Bool) → is_sent (at n (rejected_all e ps)) ≡ is_sent (at n ps)
      → is_sent (cond b (Some (rejected_slot e p.0 p.1)) (at n (rejected_all e ps))) ≡ is_sent (cond b (Some p.1) (at n ps))
  by true rest = slot-sent e p.0 p.1
  by false rest = rest

-- ---- the frames that wait

-- what was read so far of the frames of a link: those of a publish that is not whole, and from which numbers on the next sends and publishes are
pub record Reading : Type 0 where
  pub part : List Frame
  pub sends : ℕ
  pub publishes : ℕ

abbrev pub floor : Cmd → Reading → ℕ
floor (Send channel method) r = r.sends
floor (Publish channel method properties body) r = r.publishes
floor _ r = 0

-- the frames of a command of this number are whole
abbrev pub closed : Cmd → ℕ → Reading → Reading
closed (Send channel method) k r = record { part = []; sends = suc k; publishes = r.publishes }
closed (Publish channel method properties body) k r = record { part = []; sends = r.sends; publishes = suc k }
closed _ k r = r

-- a command was told with this number, from a number on, these are its frames, and its promise waits
pub record Waits (cs : List Cmd) (ps : Promises) (low : ℕ) (c : Cmd) (k : ℕ) (fs : List Frame) : Type 0 where
  pub told : command_at cs k ≡ Some c
  pub frames : AreFramesOf c fs
  pub waits : at k ps ≡ Some None
  pub above : low ≤ k

-- frames that lead from one reading to another
pub data Lines (cs : List Cmd) (ps : Promises) : Reading → List Item → Reading → Type 0 where
  none : {r : Reading} → Lines cs ps r [] r
  other : {r r' : Reading} {i : Item} {is : List Item} → is_raw i.frame ≡ false → i.promise ≡ None → Lines cs ps r is r' → Lines cs ps r (i ∷ is) r'
  more : {r r' : Reading} {i : Item} {is : List Item} → is_raw i.frame ≡ true → i.promise ≡ None
      → Lines cs ps (record { part = r.part ++ i.frame ∷ []; sends = r.sends; publishes = r.publishes }) is r' → Lines cs ps r (i ∷ is) r'
  whole : {r r' : Reading} {i : Item} {is : List Item} (c : Cmd) (k : ℕ) → i.promise ≡ Some k → Waits cs ps (floor c r) c k (r.part ++ i.frame ∷ [])
      → Lines cs ps (closed c k r) is r' → Lines cs ps r (i ∷ is) r'

-- the control lane: frames of sends, from a number on, and others that are not passed through
pub data Lane (cs : List Cmd) (ps : Promises) : ℕ → List Item → Type 0 where
  empty : {n : ℕ} → Lane cs ps n []
  besides : {n : ℕ} {i : Item} {is : List Item} → is_raw i.frame ≡ false → i.promise ≡ None → Lane cs ps n is → Lane cs ps n (i ∷ is)
  sends : {n : ℕ} {i : Item} {is : List Item} (c : Cmd) (k : ℕ) → is_send c ≡ true → i.promise ≡ Some k → Waits cs ps n c k (i.frame ∷ [])
      → Lane cs ps (suc k) is → Lane cs ps n (i ∷ is)

-- a group is of a publish, from a number on
pub record IsGroup (cs : List Cmd) (ps : Promises) (low k : ℕ) (g : List Item) : Type 0 where
  pub command : Cmd
  pub publish : is_publish command ≡ true
  pub channel : ℕ
  pub frames : List Frame
  pub items : g ≡ group_of channel frames k
  pub waits : Waits cs ps low command k frames

abbrev pub Groups : List Cmd → Promises → ℕ → List (List Item) → Type 0
Groups cs ps n [] = Unit {0}
Groups cs ps n (g ∷ gs) = (k : ℕ) × IsGroup cs ps n k g × Groups cs ps (suc k) gs

-- nothing is passed through
abbrev pub IsPlain : Item → Type 0
IsPlain i = (is_raw i.frame ≡ false) × (i.promise ≡ None)

-- the first frames of a publish, from a number on, whose promise is not answered Sent
pub record IsPart (cs : List Cmd) (ps : Promises) (r : Reading) : Type 0 where
  pub command : Cmd
  pub number : ℕ
  pub told : command_at cs number ≡ Some command
  pub publish : is_publish command ≡ true
  pub above : r.publishes ≤ number
  pub unanswered : is_sent (at number ps) ≡ false
  pub rest : List Frame
  pub proper : rest ≢ []
  pub frames : AreFramesOf command (r.part ++ rest)

-- behind what was read: the lanes, or after the server's close nothing that is passed through
abbrev pub Ends : List Cmd → Promises → ConnectionState → List Item → List (List Item) → Reading → Type 0
Ends cs ps state control publish r =
    ((r.part ≡ []) × Lane cs ps r.sends control × Groups cs ps r.publishes publish)
    ⊎ ((state ≡ Closing) × AllByRecursion IsPlain control × (publish ≡ []) × IsPart cs ps r)

-- the promises of awaited replies are no commands' with frames
abbrev pub AwaitsOthers : List Cmd → List (ℕ × List Awaited) → Type 0
AwaitsOthers cs awaited = AllByRecursion (λ e. AllByRecursion (λ (a : Awaited). IsOther cs a.promise) e.1) awaited

-- an open link: what was read of its sent frames, what was committed and is not wholly sent, and what waits
pub record Bears (cs : List Cmd) (r : Reading) (left : List Item) (q : Queued) (ps : Promises) (state : ConnectionState) : Type 0 where
  pub last : Reading
  pub lines : Lines cs ps r (left ++ q.begun) last
  pub ends : Ends cs ps state q.control q.publish last
  pub awaited : AwaitsOthers cs q.awaited

-- the promises that were answered Sent
abbrev pub Agrees : List Cmd → (ℕ → Bool) → Promises → Type 0
Agrees cs answered ps = (n : ℕ) → n ≤ length cs → is_sent (at n ps) ≡ answered n

-- once the numbers of the connection are agreed, a frame may have the least size
abbrev pub Sized : Talk → Type 0
Sized t = is_agreed t.state t.phase ≡ true → frame_min_size ≤ t.configuration.frame_max

-- what is known of a session, whether its link is open or not
pub record IsAt (cs : List Cmd) (answered : ℕ → Bool) (r : Reading) (left : List Item) (t : Talk) : Type 0 where
  pub made : t.made ≡ suc (length cs)
  pub agrees : Agrees cs answered t.promises
  pub fresh : (n : ℕ) → length cs < n → answered n ≡ false
  pub sized : Sized t
  pub low : (r.sends ≤ suc (length cs)) × (r.publishes ≤ suc (length cs))
  pub bears : is_open t ≡ true → Bears cs r left t.outbox t.promises t.state

-- ---- lists of commands

told-below : (cs : List Cmd) (i : ℕ) (c : Cmd) → slice_get cs i ≡ Some c → i < length cs
told-below [] i c h = absurd cc
told-below (x ∷ cs) zero c h = omega arith
told-below (x ∷ cs) (suc i) c h = omega (arith, told-below cs i c h)

-- a number of a command is one of those that were made
pub told-made : (cs : List Cmd) (k : ℕ) (c : Cmd) → command_at cs k ≡ Some c → k ≤ length cs
told-made cs zero c h = omega arith
told-made cs (suc i) c h = omega (arith, told-below cs i c h)

-- of one number there is one command
pub same-command : (cs : List Cmd) (j k : ℕ) (c d : Cmd) → command_at cs j ≡ Some c → command_at cs k ≡ Some d → j ≡ k → c ≡ d
same-command cs j k c d h g e =
    let same : Some c ≡ Some d = sym h ∙ ap (command_at cs) e ∙ g in cc

-- ---- what changes of promises leave

-- commands that were told still were
abbrev pub Grows : List Cmd → List Cmd → Type 0
Grows cs cs' = (k : ℕ) (c : Cmd) → command_at cs k ≡ Some c → command_at cs' k ≡ Some c

module _ (cs cs' : List Cmd) (ps ps' : Promises) (grows : Grows cs cs') where
  -- what waits goes on to wait, where its promise does
  pub waits-map : (low : ℕ) (c : Cmd) (k : ℕ) (fs : List Frame) → Waits cs ps low c k fs → (at k ps ≡ Some None → at k ps' ≡ Some None) → Waits cs' ps' low c k fs
  waits-map low c k fs w f = record { told = grows k c w.told; frames = w.frames; waits = f w.waits; above = w.above }

-- numbers go up
floor-closed : (c d : Cmd) (k : ℕ) (r : Reading) → floor d r ≤ k → floor c r ≤ floor c (closed d k r)
floor-closed (Send a b) (Send u v) k r le = omega (arith, le)
floor-closed (Publish a b x y) (Send u v) k r le = omega arith
floor-closed (Send a b) (Publish u v w z) k r le = omega arith
floor-closed (Publish a b x y) (Publish u v w z) k r le = omega (arith, le)
floor-closed (Send a b) _ k r le = omega arith
floor-closed (Publish a b x y) _ k r le = omega arith
floor-closed _ d k r le = omega arith

-- the next of a kind has a greater number
pub floor-own : (c : Cmd) (fs : List Frame) (k : ℕ) (r : Reading) → AreFramesOf c fs → k < floor c (closed c k r)
floor-own (Send a b) fs k r h = omega arith
floor-own (Publish a b x y) fs k r h = omega arith
floor-own _ fs k r h = absurd h

-- frames lead to readings with greater numbers
pub floors-rise : (cs : List Cmd) (ps : Promises) (r : Reading) (is : List Item) (r' : Reading) (c : Cmd) → Lines cs ps r is r' → floor c r ≤ floor c r'
floors-rise cs ps r [] r' c none = omega arith
floors-rise cs ps r (i ∷ is) r' c (other a b l) = floors-rise cs ps r is r' c l
floors-rise cs ps r (i ∷ is) r' c (more a b l) =
    let x : Reading = record { part = r.part ++ i.frame ∷ []; sends = r.sends; publishes = r.publishes } in
    let same : floor c x ≡ floor c r = floor-part c r (r.part ++ i.frame ∷ []) in
    omega (arith, same, floors-rise cs ps x is r' c l)
  where
    floor-part : (c : Cmd) (r : Reading) (fs : List Frame) → floor c (record { part = fs; sends = r.sends; publishes = r.publishes }) ≡ floor c r
    floor-part (Send a b) r fs = refl
    floor-part (Publish a b x y) r fs = refl
    floor-part _ r fs = refl
floors-rise cs ps r (i ∷ is) r' c (whole d k p w l) =
    omega (arith, floor-closed c d k r w.above, floors-rise cs ps (closed d k r) is r' c l)

module _ (cs cs' : List Cmd) (ps ps' : Promises) (grows : Grows cs cs') where
  -- each promise below where the frames lead waits as before
  pub lines-map : (r : Reading) (is : List Item) (r' : Reading) → Lines cs ps r is r'
      → ((c : Cmd) (k : ℕ) → command_at cs k ≡ Some c → carries (Some c) ≡ true → k < floor c r' → at k ps ≡ Some None → at k ps' ≡ Some None) → Lines cs' ps' r is r'
  lines-map r [] r' none f = none
  lines-map r (i ∷ is) r' (other a b l) f = other a b (lines-map r is r' l f)
  lines-map r (i ∷ is) r' (more a b l) f = more a b (lines-map _ is r' l f)
  lines-map r (i ∷ is) r' (whole c k p w l) f =
      let le : suc k ≤ floor c r' = omega (arith, floor-own c (r.part ++ i.frame ∷ []) k r w.frames, floors-rise cs ps (closed c k r) is r' c l) in
      whole c k p (waits-map cs cs' ps ps' grows _ c k _ w (f c k w.told (frames-carry c _ w.frames) (omega (arith, le)))) (lines-map (closed c k r) is r' l f)

  -- the same of the control lane
  pub lane-map : (n : ℕ) (is : List Item) → Lane cs ps n is
      → ((c : Cmd) (k : ℕ) → command_at cs k ≡ Some c → carries (Some c) ≡ true → at k ps ≡ Some None → at k ps' ≡ Some None) → Lane cs' ps' n is
  lane-map n [] empty f = empty
  lane-map n (i ∷ is) (besides a b l) f = besides a b (lane-map n is l f)
  lane-map n (i ∷ is) (sends c k s p w l) f =
      sends c k s p (waits-map cs cs' ps ps' grows _ c k _ w (f c k w.told (frames-carry c _ w.frames))) (lane-map (suc k) is l f)

  -- the same of the groups
  pub groups-map : (n : ℕ) (gs : List (List Item)) → Groups cs ps n gs
      → ((c : Cmd) (k : ℕ) → command_at cs k ≡ Some c → carries (Some c) ≡ true → at k ps ≡ Some None → at k ps' ≡ Some None) → Groups cs' ps' n gs
  groups-map n [] h f = tt
  groups-map n (g ∷ gs) h f =
      let w = h.1.waits in (
        h.0,
        record {
          command = h.1.command;
          publish = h.1.publish;
          channel = h.1.channel;
          frames = h.1.frames;
          items = h.1.items;
          waits = waits-map cs cs' ps ps' grows _ h.1.command h.0 _ w (f h.1.command h.0 w.told (frames-carry h.1.command _ w.frames));
        },
        groups-map (suc h.0) gs h.2 f,
      )

  -- the same of the first frames of a publish
  pub part-map : (r : Reading) → IsPart cs ps r → ((k : ℕ) → k ≤ length cs → is_sent (at k ps') ≡ is_sent (at k ps)) → IsPart cs' ps' r
  part-map r h f =
      record {
        command = h.command;
        number = h.number;
        told = grows h.number h.command h.told;
        publish = h.publish;
        above = h.above;
        unanswered = f h.number (told-made cs h.number h.command h.told) ∙ h.unanswered;
        rest = h.rest;
        proper = h.proper;
        frames = h.frames;
      }
