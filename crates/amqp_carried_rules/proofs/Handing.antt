-- What the rules of the session do to the frames that were handed out: each leaves them as they are, but for the rule of a frame that is passed
-- through, which hands it out.
use Rattle.std.proofs.Common.{◌≡◌, ℕ, zero, suc, ◌==◌, cond, Bool, true, false, if◌then◌else◌, List, [], ◌∷◌, ◌++◌, map, filter, Option, Some, None, unwrap_or, refl, ap, sym, subst, ◌∙◌, arith}
use Rattle.std.specs.declared.cmp.Ordering.{Ordering}
use Rattle.std.specs.declared.cmp.Ordering.TheVariants.{Less, Equal, Greater}
use Rattle.std.specs.Ordering.{nat_cmp, is_eq, match_ordering}
use Rattle.std.proofs.lemmas.Bool.Decides.{nat_tests}
use Rattle.std.proofs.lemmas.Map.Lookups.{exact_unsigned}
use Rattle.std.proofs.lemmas.List.{append-nil, map-append}
use Rattle.std.proofs.lemmas.List.Elements.{filter-append}
use Rattle.amqp_frame.specs.declared.frame.Frame.{Frame}
use Rattle.amqp_frame.specs.declared.frame.Frame.TheVariants.{ProtocolHeader, Method, Raw, Heartbeat}
use Rattle.amqp_frame.specs.declared.frame.RawKind.{RawKind}
use Rattle.amqp_frame.specs.declared.method.Method.{Method as AnyMethod}
use Rattle.amqp_channels.specs.declared.channels.Channel.{Channel}
use Rattle.amqp_answers.specs.declared.handed.Handed.{Handed}
use Rattle.amqp_commands.specs.declared.command.Cmd.{Cmd}
use Rattle.amqp_violations.specs.declared.misread.Misread.{Misread}
use Rattle.amqp_promise.specs.declared.error.ErrorKind.{ErrorKind}
use Rattle.amqp_promise.specs.declared.error.ErrorKind.TheVariants.{InvalidProtocolVersion, InvalidChannel, NoMemory, SerialisationError}
use Rattle.amqp_promise.specs.declared.io_fault.IoFault.{IoFault}
use Rattle.amqp_auth.specs.declared.asked.Asked.{Asked}
use Rattle.std.specs.Map.{keys_of}
use Rattle.amqp_maps.specs.Listed.{at, put}
use Rattle.amqp_rules.specs.Sound.{Ascend}
use Rattle.amqp_rules.proofs.Ascending.{put-ascends}
use Rattle.amqp_rules.specs.Talk.{Talk, has_ended, is_open, is_asked, acts, hears_on}
use Rattle.amqp_rules.specs.Channels.{channel_at}
use Rattle.amqp_rules.specs.Changes.{present_at, lose, misplaced, fail, starve}
use Rattle.amqp_rules.specs.Links.{linked, link_failed, piece, misread, lost}
use Rattle.amqp_violations.specs.Violations.{stray_channel_frame}
use Rattle.amqp_rules.specs.ChannelMethods.{heard_on, confirmed, is_select_ok, frames_of, hand_out, raw_by}
use Rattle.amqp_rules.specs.Frames.{method_rule, frame_rule, closed_rule, on_frame}
use Rattle.amqp_rules.specs.Commands.{command}
use Rattle.amqp_rules.specs.Ticks.{tick}
use Rattle.amqp_rules.specs.Writing.{end_overlong, taken}
use Rattle.amqp_carried_rules.specs.HandingOut.{handed_on, HandedOut, handed_of, hands_out}
use Rattle.amqp_rules.proofs.Walk.{ChannelRows, ConnectionRows, misplaced-keeps, misread-keeps, start-keeps, secure-keeps, method-keeps, acting-keeps}
use Rattle.amqp_rules.proofs.Keeping.{present-keeps, loss-keeps, lost-keeps, failed-keeps, tick-keeps, stays-command}
use Rattle.amqp_rules.proofs.Sending.{taken-keeps}
use Rattle.amqp_types.proofs.Small.{if_case, nat_cmp_self}

-- ---- maps

module _ {X : Type 0} (n : ℕ) (x : X) where
  put-head : (o : Ordering) (e : ℕ × X) (es : List (ℕ × X)) → nat_cmp n e.0 ≡ o → at n (put n x es) ≡ Some x
      → at n (match_ordering o ((n, x) ∷ e ∷ es) ((e.0, x) ∷ es) (e ∷ put n x es)) ≡ Some x
  put-head Less e es is rest = ap (λ o. cond (is_eq o) (Some x) (at n (e ∷ es))) (nat_cmp_self n)
  put-head Equal e es is rest = ap (λ o. cond (is_eq o) (Some x) (at n es)) is
  put-head Greater e es is rest = ap (λ o. cond (is_eq o) (Some e.1) (at n (put n x es))) is ∙ rest

  -- what was put at a number is there
  pub at-put : (es : List (ℕ × X)) → at n (put n x es) ≡ Some x
  at-put [] = ap (λ o. cond (is_eq o) (Some x) None) (nat_cmp_self n)
  at-put (e ∷ es) = put-head (nat_cmp n e.0) e es refl (at-put es)

-- two numbers apart are not equal in their order
apart : (m n : ℕ) → (m == n) ≡ false → is_eq (nat_cmp n m) ≡ false
apart m n other = by (nat_cmp n m) refl where
  by : (o : Ordering) → nat_cmp n m ≡ o → is_eq o ≡ false
  by Less is = refl
  by Equal is =
      let same : n ≡ m = exact_unsigned n m is in
      absurd (grind (arith, nat_tests, other, same))
  by Greater is = refl

module _ {X : Type 0} (m n : ℕ) (x : X) (other : is_eq (nat_cmp n m) ≡ false) where
  other-head : (o : Ordering) (e : ℕ × X) (es : List (ℕ × X)) → nat_cmp m e.0 ≡ o → at n (put m x es) ≡ at n es
      → at n (match_ordering o ((m, x) ∷ e ∷ es) ((e.0, x) ∷ es) (e ∷ put m x es)) ≡ at n (e ∷ es)
  other-head Less e es is rest = ap (λ b. cond b (Some x) (at n (e ∷ es))) other
  other-head Equal e es is rest =
      let same : m ≡ e.0 = exact_unsigned m e.0 is in
      let here : is_eq (nat_cmp n e.0) ≡ false = ap (λ k. is_eq (nat_cmp n k)) (sym same) ∙ other in
      ap (λ b. cond b (Some x) (at n es)) here ∙ sym (ap (λ b. cond b (Some e.1) (at n es)) here)
  other-head Greater e es is rest = ap (λ o. cond (is_eq (nat_cmp n e.0)) (Some e.1) o) rest

  -- at another number is what was there before
  pub at-put-other : (es : List (ℕ × X)) → at n (put m x es) ≡ at n es
  at-put-other [] = ap (λ b. cond b (Some x) None) other
  at-put-other (e ∷ es) = other-head (nat_cmp m e.0) e es refl (at-put-other es)

-- ---- what is handed out

-- a frame that was handed out, as a pair
abbrev pub as_pair : HandedOut → ℕ × Handed
as_pair h = (h.opened, h.frame)

abbrev pub as_pairs : List HandedOut → List (ℕ × Handed)
as_pairs hs = map as_pair hs

-- these are handed out too, and the promises stay in order
pub record Hands (more : List HandedOut) (t t' : Talk) : Type 0 where
  pub frames : (opened : ℕ) → frames_of opened t' ≡ frames_of opened t ++ handed_on opened (as_pairs more)
  pub sorted : Ascend (keys_of t.handed) → Ascend (keys_of t'.handed)

-- nothing more is handed out
abbrev pub IsSameHanded : Talk → Talk → Type 0
IsSameHanded t t' = t'.handed ≡ t.handed

-- then the same was handed out of each channel
pub same-frames : (opened : ℕ) (t t' : Talk) → IsSameHanded t t' → frames_of opened t' ≡ frames_of opened t
same-frames opened t t' same = ap (λ (listed : List (ℕ × List Handed)). unwrap_or (at opened listed) []) same

pub hands-none : (t t' : Talk) → IsSameHanded t t' → Hands [] t t'
hands-none t t' same =
    record {
      frames = λ opened. same-frames opened t t' same ∙ sym (append-nil (frames_of opened t));
      sorted = λ s. subst (λ (hs : List (ℕ × List Handed)). Ascend (keys_of hs)) (sym same) s;
    }

-- what was handed out on a channel, of two lists
pub handed_on-append : (opened : ℕ) (hs more : List (ℕ × Handed)) → handed_on opened (hs ++ more) ≡ handed_on opened hs ++ handed_on opened more
handed_on-append opened hs more =
    let own : ℕ × Handed → Bool = λ h. h.0 == opened in
    let frame : ℕ × Handed → Handed = λ h. h.1 in
    ap (map frame) (filter-append own hs more) ∙ map-append frame (filter own hs) (filter own more)

-- a frame is handed out
hands-one : (o : ℕ) (h : Handed) (t x : Talk) → IsSameHanded t x → Hands (record { opened = o; frame = h } ∷ []) t (hand_out o h x)
hands-one o h t x same =
    record {
      frames = λ opened.
          by opened (o == opened) refl ∙ ap (λ fs. fs ++ handed_on opened ((o, h) ∷ [])) (same-frames opened t x same);
      sorted = λ s.
          put-ascends o (frames_of o x ++ h ∷ []) x.handed (subst (λ (hs : List (ℕ × List Handed)). Ascend (keys_of hs)) (sym same) s);
    }
  where
    by : (opened : ℕ) (b : Bool) → (o == opened) ≡ b → frames_of opened (hand_out o h x) ≡ frames_of opened x ++ handed_on opened ((o, h) ∷ [])
    by opened true is =
        let here : o ≡ opened = grind (arith, nat_tests, is) in
        let own : handed_on opened ((o, h) ∷ []) ≡ h ∷ [] = ap (λ (c : Bool). map (λ (e : ℕ × Handed). e.1) (if c then (o, h) ∷ [] else [])) is in
        let put_in : at opened (put o (frames_of o x ++ h ∷ []) x.handed) ≡ Some (frames_of o x ++ h ∷ []) =
        ap (λ n. at n (put o (frames_of o x ++ h ∷ []) x.handed)) (sym here) ∙ at-put o (frames_of o x ++ h ∷ []) x.handed in
        ap (λ fs. unwrap_or fs []) put_in ∙ ap (λ n. frames_of n x ++ h ∷ []) here ∙ ap (λ fs. frames_of opened x ++ fs) (sym own)
    by opened false other =
        let none : handed_on opened ((o, h) ∷ []) ≡ [] = ap (λ (c : Bool). map (λ (e : ℕ × Handed). e.1) (if c then (o, h) ∷ [] else [])) other in
        ap (λ fs. unwrap_or fs []) (at-put-other o opened (frames_of o x ++ h ∷ []) (apart o opened other) x.handed)
        ∙ sym (append-nil (frames_of opened x)) ∙ ap (λ fs. frames_of opened x ++ fs) (sym none)

-- ---- frames

-- where a link is lost, what was handed out stays
lose-handed : (e : ErrorKind) (t : Talk) → IsSameHanded t (lose e t)
lose-handed e t = loss-keeps (λ (x : Talk). x.handed) (λ x s l cs ps b q ms n o ns. refl) e t

then-lost : (t : Talk) (e : ErrorKind) (u : Talk) → IsSameHanded t u → IsSameHanded t (lose e u)
then-lost t e u h = lose-handed e u ∙ h

on-channels : (t : Talk) → ChannelRows (IsSameHanded t)
on-channels t = record {
  lost = then-lost t;
  opened = λ n c promise u is h. h;
  closed = λ n promise u is h. h;
  answered = λ n c u h. h;
  removed = λ n u h. h;
  flow = λ n c active u h. h;
  flowed = λ n c active promise u is h. h;
  server_closed = λ n e c u h. h;
  crossed = λ n e c u h. h;
}

on-connection : (answers : List Asked) (t : Talk) → ConnectionRows (IsSameHanded t) answers
on-connection answers t = record {
  starts = λ u on h. start-keeps (IsSameHanded t) (then-lost t) answers u h (λ mechanism response. h);
  secures = λ u h. secure-keeps (IsSameHanded t) (then-lost t) answers u h (λ response. h);
  tunes = λ server u h. h;
  connects = λ u on phase h. h;
  reopens = λ n u h. h;
  blocks = λ reason u h. h;
  unblocks = λ u h. h;
  refreshes = λ u is h. h;
  renews = λ number u is h. h;
  server_closes = λ code text u h. h;
  closes = λ u h. h;
  answers_close = λ promise u h. h;
}

misplaced-handed : (e : ErrorKind) (t : Talk) → IsSameHanded t (misplaced e t)
misplaced-handed e t = misplaced-keeps (IsSameHanded t) (then-lost t) e t refl

-- a method hands nothing out
method-handed : (n : ℕ) (m : AnyMethod) (answers : List Asked) (t : Talk) → IsSameHanded t (method_rule n m answers t)
method-handed n m answers t = method-keeps (IsSameHanded t) answers (on-channels t) (on-connection answers t) n m t refl

-- a frame by whose rule nothing is handed out
plain-handed : (f : Frame) (answers : List Asked) (t : Talk) → IsSameHanded t (frame_rule f answers t) → IsSameHanded t (on_frame f answers t)
plain-handed f answers t same = acting-keeps (IsSameHanded t) answers (on-channels t) (on-connection answers t) f t refl same

-- a frame that is passed through, by the listed channel that it comes on
raw-hands : (o : Option Channel) (n : ℕ) (kind : RawKind) (bytes : List ℕ) (t : Talk)
    → Hands (handed_of o (record { channel = n; kind = kind; bytes = bytes })) t (raw_by o n kind bytes t)
raw-hands None n kind bytes t = hands-none t (misplaced (InvalidChannel n) t) (misplaced-handed (InvalidChannel n) t)
raw-hands (Some c) n kind bytes t =
    let h : Handed = record { channel = n; kind = kind; bytes = bytes } in
    if_case (λ (x : Talk). Hands (record { opened = c.opened; frame = h } ∷ []) t (hand_out c.opened h x)) (is_select_ok kind bytes) (confirmed n c t) t
    (hands-one c.opened h t (confirmed n c t) refl) (hands-one c.opened h t t refl)

-- what a frame hands out is handed out
pub frame-hands : (f : Frame) (answers : List Asked) (t : Talk) → Hands (hands_out f t) t (on_frame f answers t)
frame-hands (ProtocolHeader version) answers t =
    hands-none t (on_frame (ProtocolHeader version) answers t)
    (plain-handed (ProtocolHeader version) answers t (lose-handed (InvalidProtocolVersion version) t))
frame-hands Heartbeat answers t = hands-none t (on_frame Heartbeat answers t) (plain-handed Heartbeat answers t refl)
frame-hands (Method n m) answers t =
    hands-none t (on_frame (Method n m) answers t) (plain-handed (Method n m) answers t (method-handed n m answers t))
frame-hands (Raw zero kind bytes) answers t =
    hands-none t (on_frame (Raw zero kind bytes) answers t)
    (plain-handed (Raw zero kind bytes) answers t (misplaced-handed (stray_channel_frame kind) t))
frame-hands (Raw (suc n) kind bytes) answers t = by (acts t)
  where
    hs : List HandedOut
    hs = handed_of (heard_on t.state (channel_at (suc n) t)) (record { channel = suc n; kind = kind; bytes = bytes })

    by : (b : Bool) → Hands (if b then hs else []) t (if b then frame_rule (Raw (suc n) kind bytes) answers t else if hears_on t then closed_rule (Raw (suc n) kind bytes) t else t)
    by true = raw-hands (heard_on t.state (channel_at (suc n) t)) (suc n) kind bytes t
    by false =
        hands-none t (if hears_on t then closed_rule (Raw (suc n) kind bytes) t else t)
        (if_case (IsSameHanded t) (hears_on t) (closed_rule (Raw (suc n) kind bytes) t) t refl refl)

-- ---- commands

-- a command hands nothing out
pub command-handed : (c : Cmd) (t : Talk) → IsSameHanded t (command c t)
command-handed c t = (stays-command c t).handed

-- ---- what else happens

pub present-handed : (at : ℕ) (t : Talk) → IsSameHanded t (present_at at t)
present-handed at t = present-keeps (λ (x : Talk). x.handed) at t (λ n. refl)

pub linked-handed : (t : Talk) → IsSameHanded t (linked t)
linked-handed t = if_case (IsSameHanded t) (is_asked t) _ t refl refl

pub failed-handed : (t : Talk) → IsSameHanded t (link_failed t)
failed-handed t = failed-keeps (λ (x : Talk). x.handed) (λ x s l cs ps ns. refl) (λ x n. refl) t

pub piece-handed : (t : Talk) → IsSameHanded t (piece t)
piece-handed t = if_case (IsSameHanded t) (is_open t) (record t { last_read = t.present }) t refl refl

pub lost-handed : (fault : IoFault) (t : Talk) → IsSameHanded t (lost fault t)
lost-handed fault t = lost-keeps (λ (x : Talk). x.handed) (λ x s l cs ps b q ms n o ns. refl) fault t

pub tick-handed : (answers : List Asked) (t : Talk) → IsSameHanded t (tick answers t)
tick-handed answers t = tick-keeps (λ (x : Talk). x.handed) (λ x s l cs ps b q ms n o ns. refl) (λ x q n m b. refl) answers t

pub misread-handed : (why : Misread) (t : Talk) → IsSameHanded t (misread why t)
misread-handed why t = misread-keeps (IsSameHanded t) (then-lost t) (λ u h. h) why t refl

pub taken-handed : (n : ℕ) (t : Talk) → IsSameHanded t (taken n t)
taken-handed n t = taken-keeps (λ (x : Talk). x.handed) (record { ends = λ x s l cs ps b q ms n o ns. refl; writes = λ x w ms. refl; moments = λ x n. refl }) n t

pub overlong-handed : (o : Option ℕ) (t : Talk) → IsSameHanded t (end_overlong o t)
overlong-handed None t = refl
overlong-handed (Some size) t = lose-handed (SerialisationError size) t

pub starve-handed : (t : Talk) → IsSameHanded t (starve t)
starve-handed t = if_case (IsSameHanded t) (has_ended t) t (fail NoMemory t) refl refl
