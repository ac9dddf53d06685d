-- The writes of a turn over a joined port keep what both ends owe each other, however little of each is taken.
use Rattle.std.proofs.Common.{◌≡◌, ◌≢◌, ◌≤◌, ◌<◌, ◌∙◌, ap, sym, refl, subst, ℕ, ◌+◌, ◌-◌, ◌&&◌, ◌==◌, not, if◌then◌else◌, Bool, true, false, true≢false, List, [], ◌∷◌, ◌++◌, length, take, drop, take-add, length-append, length-drop, append-nil, append_assoc, None, arith}
use Rattle.std.specs.Prelude.{nat_lt, MatchBool}
use Rattle.std.specs.List.{flat_map, AllByRecursion}
use Rattle.std.proofs.lemmas.Bool.Decides.{nat_tests}
use Rattle.std.proofs.lemmas.List.{map-append, take-append-drop, take-append-le, drop-drop, drop-append-le}
use Rattle.std.proofs.lemmas.List.Concat.{flat_map-append}
use Rattle.amqp_types.proofs.Small.{if_case, if-true, if-false, and-false, and-left, and-right, and-other}
use Rattle.amqp_frame.specs.declared.frame.Frame.{Frame}
use Rattle.amqp_frame.specs.Frames.{encoding, Writable}
use Rattle.amqp_outbox.specs.declared.item.Item.{Item}
use Rattle.amqp_settings.specs.declared.configuration.Configuration.{Configuration}
use Rattle.amqp_settings.specs.Config.{Options}
use Rattle.amqp_rules.specs.Sound.{IsSound}
use Rattle.amqp_rules.specs.Talk.{Talk, is_open, drops_input}
use Rattle.amqp_rules.specs.Changes.{present_at}
use Rattle.amqp_rules.specs.Writing.{flows, frames_waiting, taken}
use Rattle.amqp_legal.specs.Legal.{Legal}
use Rattle.amqp_legal.proofs.Saying.{front-legal}
use Rattle.amqp_faultless.specs.Faultless.{Server, said_to, is_frame_max}
use Rattle.amqp_faultless.proofs.Greeted.{IsMet}
use Rattle.amqp_faultless.proofs.Modest.{Modest}
use Rattle.amqp_faultless.proofs.Speaks.{said-keeps, said_all}
use Rattle.amqp_faultless.proofs.Tuned.{Tuned}
use Rattle.amqp_written_rules.specs.Sayable.{AreInRange}
use Rattle.amqp_engine.specs.declared.port.Wrote.{Wrote}
use Rattle.amqp_engine.specs.declared.port.Wrote.TheVariants.{Took, Failed, NoMemory}
use Rattle.amqp_engine.specs.Log.{on_last}
use Rattle.amqp_engine.specs.Engine.{Engine, settle, commit_all, ended_overlong, refuse_overlong, can_write, took}
use Rattle.amqp_engine.specs.Turn.{Progress, is_before, goes, offered, offer_part, closing, is_all, drained, AreAnswers}
use Rattle.amqp_engine.specs.Tell.{port_answer, offers_from}
use Rattle.amqp_engine.specs.Sending.{Sending, frames, frames_sent, link_bytes, committed_before, sent_in, offer_sending, offers_sending}
use Rattle.amqp_engine.proofs.Sent.{on_last-append}
use Rattle.amqp_engine.proofs.Agreeing.{AgreesOn, offer-bytes}
use Rattle.amqp_engine.proofs.Sends.{Sends, sends-offer}
use Rattle.amqp_engine.proofs.Commits.{commits-keep}
use Rattle.amqp_engine.proofs.Goes.{sound-goes, sound-commit-all, sound-offer}
use Rattle.amqp_engine.proofs.SpeaksAll.{met-commit-all}
use Rattle.amqp_engine.proofs.Offering.{modest-fits, modest-kept}
use Rattle.amqp_engine.proofs.Follows.{met-unread}
use Rattle.amqp_engine.proofs.Settling.{settle-talk}
use Rattle.amqp_engine.proofs.TunedWrites.{tuned-offer}
use Rattle.amqp_engine.proofs.SpelledLinks.{read-any}
use Rattle.amqp_double.specs.Replies.{replies, reply_octets, all_replies}
use Rattle.amqp_double.specs.Doubles.{HasAnswered}
use Rattle.amqp_owing.specs.Owed.{all_said}
use Rattle.amqp_joining.specs.Joining.{Join, output, HasFed, JoinWrites, JoinsOffers}
use Rattle.amqp_joining.specs.Writes.{committed_through}
use Rattle.amqp_both_ends.proofs.Deals.{Deals, deals-all}
use Rattle.amqp_both_ends.proofs.Apart.{only-one}
use Rattle.amqp_both_ends.proofs.ReadSent.{ReadAll, read-sent}
use Rattle.amqp_both_ends.proofs.Spelling.{Spells, all-joined, all-spell}
use Rattle.amqp_both_ends.proofs.Outgoing.{waiting, waiting-all, waiting-took, flows-commits, flows-took, IsIdle, idle-so}

-- what is joined to what was joined
assoc-back : {A : Type 0} (xs ys zs : List A) → xs ++ (ys ++ zs) ≡ (xs ++ ys) ++ zs
assoc-back xs ys zs = sym (append_assoc xs ys zs)

-- two fronts, one after another
both-fronts : {A : Type 0} (xs ys zs first second : List A) → xs ≡ first ++ ys → ys ≡ second ++ zs → xs ≡ (first ++ second) ++ zs
both-fronts xs ys zs first second one two = one ∙ ap (λ rest. first ++ rest) two ∙ assoc-back first second zs

-- ---- lists

flat-twice : {A B C : Type 0} (f : B → List C) (g : A → List B) (xs : List A) → flat_map f (flat_map g xs) ≡ flat_map (λ x. flat_map f (g x)) xs
flat-twice f g [] = refl
flat-twice f g (x ∷ xs) = flat_map-append f (g x) (flat_map g xs) ∙ ap (λ ys. flat_map f (g x) ++ ys) (flat-twice f g xs)

all-front : {A : Type 0} (P : A → Type 0) (xs ys : List A) → AllByRecursion P (xs ++ ys) → AllByRecursion P xs
all-front P [] ys h = tt
all-front P (x ∷ xs) ys h = (h.0, all-front P xs ys h.1)

all-back : {A : Type 0} (P : A → Type 0) (xs ys : List A) → AllByRecursion P (xs ++ ys) → AllByRecursion P ys
all-back P [] ys h = h
all-back P (x ∷ xs) ys h = all-back P xs ys h.1

pub said-frames : (items : List Item) (s : Server) → said_all items s ≡ all_said (frames items) s
said-frames [] s = refl
said-frames (i ∷ items) s = said-frames items (said_to i.frame s)

pub said-append : (fs gs : List Frame) (s : Server) → all_said (fs ++ gs) s ≡ all_said gs (all_said fs s)
said-append [] gs s = refl
said-append (f ∷ fs) gs s = said-append fs gs (said_to f s)

pub said-blocked : (fs : List Frame) (s : Server) → (all_said fs s).blocked ≡ s.blocked
said-blocked [] s = refl
said-blocked (f ∷ fs) s = said-blocked fs (said_to f s) ∙ (said-keeps f s).1

-- what is unsent stays while the link is open
settle-unsent : (e : Engine) → is_open e.talk ≡ true → (settle e).unsent ≡ e.unsent
settle-unsent e opened =
    ap (λ (z : Engine). z.unsent) (if-true (is_open e.talk) (if drops_input e.talk then record e { unread = []; place = 0 } else e) (record e { unread = []; place = 0; unsent = [] }) opened)
    ∙ if_case (λ (z : Engine). z.unsent ≡ e.unsent) (drops_input e.talk) (record e { unread = []; place = 0 }) e refl refl

-- ---- what both ends owe each other

-- what is committed and was not sent whole
abbrev pub left_frames : Sending → List Frame
left_frames x = frames (drop x.sent x.committed)

-- the same, and behind it what waits
abbrev pub pending : Sending → Talk → List Frame
pending x t = left_frames x ++ frames (waiting t)

-- a server that was told what was sent owes the replies that were not read; one that was told what is committed too meets
-- the session; and the double read all that was sent
pub record Mid (options : Options) (numbers : Configuration) (e : Engine) (x : Sending) (j : Join) (server : Server) (rs : List Frame) : Type 0 where
  pub deals : Deals numbers (frames_sent x) (pending x e.talk) rs server
  pub met : IsMet (all_said (left_frames x) server) e.talk
  pub free : server.blocked ≡ false
  pub sound : IsSound e.talk
  pub modest : Modest options e.talk
  pub flowing : flows e.talk ≡ true
  pub tuned : Tuned (frames x.committed) (all_said (left_frames x) server) e.talk
  pub sends : Sends e (x ∷ [])
  pub numbered : j.double.numbers ≡ numbers
  pub client : j.double.client ≡ link_bytes x
  pub unrefused : j.double.refusal ≡ None
  pub answered : HasAnswered (frames_sent x) j.double
  pub bytes : e.unread ++ output j ≡ flat_map encoding rs
  pub spells : AllByRecursion Spells rs

-- ---- an offer

-- how much the first of these writes took
abbrev pub first_taken : List Wrote → ℕ
first_taken (Took k ∷ ws) = k
first_taken ws = 0

-- what was told is some number of octets, or a failure
abbrev pub AreNoted : List Wrote → Type 0
AreNoted ws = AllByRecursion (λ (w : Wrote). w ≢ NoMemory) ws

-- the frames whose last octet is among those that an offer takes
abbrev pub now_sent : ℕ → Engine → Sending → List Frame
now_sent k e x = frames (take (sent_in k (commit_all e).talk.committed) (drop x.sent (offer_sending (Took k) e x).committed))

module _ (options : Options) (numbers : Configuration) (most : is_frame_max numbers.frame_max ≡ true) (range : AreInRange numbers) where
  module _ (at k : ℕ) (e : Engine) (x : Sending) (j next : Join) (can : can_write e ≡ true) (fits : k ≤ length (offered e)) (rule : JoinWrites (offered e) (Took k) j next)
      (writable : AllByRecursion Writable (frames (offer_sending (Took k) e x).committed)) (legal : Legal (frames_sent (offer_sending (Took k) e x))) (s : Server) (rs : List Frame) (h : Mid options numbers e x j s rs) where
    abbrev y : Sending
    y = offer_sending (Took k) e x

    abbrev after : Engine
    after = took at k (commit_all e)

    abbrev C : List Item
    C = committed_before e

    abbrev m : ℕ
    m = sent_in k (commit_all e).talk.committed

    abbrev gs : List Frame
    gs = now_sent k e x

    opened : is_open e.talk ≡ true
    opened = and-left (is_open e.talk) _ can

    agrees : AgreesOn e x
    agrees = let l = h.sends.last opened in subst (AgreesOn e) (sym (only-one x l.1 l.0 l.2)) l.3

    within : x.sent ≤ length x.committed
    within = omega (arith, agrees.sent, ap length agrees.committed, length-append agrees.done agrees.rest)

    pub sent-more : frames_sent y ≡ frames_sent x ++ gs
    sent-more =
        ap frames (take-add x.sent m y.committed)
        ∙ map-append (λ (i : Item). i.frame) (take x.sent y.committed) (take m (drop x.sent y.committed))
        ∙ ap (λ (xs : List Item). frames xs ++ gs) (take-append-le x.sent x.committed C within)

    left-more : left_frames x ++ frames C ≡ gs ++ left_frames y
    left-more =
        sym (map-append (λ (i : Item). i.frame) (drop x.sent x.committed) C)
        ∙ ap frames (sym (drop-append-le x.sent x.committed C within))
        ∙ ap frames (sym (take-append-drop m (drop x.sent y.committed)))
        ∙ map-append (λ (i : Item). i.frame) (take m (drop x.sent y.committed)) (drop m (drop x.sent y.committed))
        ∙ ap (λ (xs : List Item). gs ++ frames xs) (drop-drop m x.sent y.committed)

    abbrev s' : Server
    s' = all_said gs s

    both : IsMet (said_all C (all_said (left_frames x) s)) after.talk × IsSound after.talk
    both = sound-offer at k (all_said (left_frames x) s) e h.sound h.met

    told : said_all C (all_said (left_frames x) s) ≡ all_said (left_frames y) s'
    told =
        said-frames C (all_said (left_frames x) s)
        ∙ sym (said-append (left_frames x) (frames C) s)
        ∙ ap (λ (fs : List Frame). all_said fs s) left-more
        ∙ said-append gs (left_frames y) s

    met' : IsMet (all_said (left_frames y) s') after.talk
    met' = subst (λ (z : Server). IsMet z after.talk) told both.0

    tuned' : Tuned (frames y.committed) (all_said (left_frames y) s') after.talk
    tuned' =
        subst (λ (z : Server). Tuned (frames y.committed) z after.talk) told
        (subst (λ (fs : List Frame). Tuned fs (said_all C (all_said (left_frames x) s)) after.talk) (sym (map-append (λ (i : Item). i.frame) x.committed C))
        (tuned-offer at k (frames x.committed) (all_said (left_frames x) s) e h.sound h.met h.tuned))

    waits : waiting after.talk ≡ waiting (commit_all e).talk
    waits = waiting-took at k (all_said (left_frames y) s') (commit_all e) met'

    pub pends : pending x e.talk ≡ gs ++ pending y after.talk
    pends =
        ap (λ (xs : List Item). left_frames x ++ frames xs) (waiting-all e)
        ∙ ap (λ (fs : List Frame). left_frames x ++ fs) (map-append (λ (i : Item). i.frame) C (waiting (commit_all e).talk))
        ∙ sym (append_assoc (left_frames x) (frames C) (frames (waiting (commit_all e).talk)))
        ∙ ap (λ (fs : List Frame). fs ++ frames (waiting (commit_all e).talk)) left-more
        ∙ append_assoc gs (left_frames y) (frames (waiting (commit_all e).talk))
        ∙ ap (λ (xs : List Item). gs ++ (left_frames y ++ frames xs)) (sym waits)

    dealt : Deals numbers (frames_sent y) (pending y after.talk) (rs ++ flat_map (replies numbers) gs) s'
    dealt =
        subst (λ (fs : List Frame). Deals numbers fs (pending y after.talk) (rs ++ flat_map (replies numbers) gs) s') (sym sent-more)
        (deals-all numbers most gs (frames_sent x) (pending y after.talk) rs s
        (subst (λ (fs : List Frame). Deals numbers (frames_sent x) fs rs s) pends h.deals))

    sends' : Sends after (y ∷ [])
    sends' = subst (Sends after) (on_last-append (offer_sending (Took k) e) [] x) (sends-offer at (Took k) e (x ∷ []) can fits h.sends)

    fed : HasFed (take k (offered e)) j.double next.double
    fed = rule.1

    client' : next.double.client ≡ link_bytes y
    client' = fed.client h.unrefused ∙ ap (λ (xs : List ℕ). xs ++ take k (offered e)) h.client ∙ sym (offer-bytes (Took k) e x agrees fits)

    all-read : ReadAll y next.double
    all-read = read-sent y next.double client' (read-any y sends'.all.0 writable) legal fed.answers

    pub unread-kept : after.unread ≡ e.unread
    unread-kept =
        met-unread (all_said (left_frames y) s') (record (commit_all e) { talk = taken k (present_at at (commit_all e).talk); unsent = drop k (commit_all e).unsent })
        (subst (IsMet (all_said (left_frames y) s')) (settle-talk _) met')
        ∙ commits-keep (λ (z : Engine). z.unread) (λ z q ms bytes. refl) (frames_waiting e.talk) e

    numbered' : next.double.numbers ≡ numbers
    numbered' = fed.numbers ∙ h.numbered

    said-more : next.double.said ≡ j.double.said ++ all_replies numbers gs
    said-more =
        all-read.answered.said
        ∙ ap (λ (n : Configuration). all_replies n (frames_sent y)) numbered'
        ∙ ap (all_replies numbers) sent-more
        ∙ flat_map-append (reply_octets numbers) (frames_sent x) gs
        ∙ ap (λ (n : Configuration). all_replies n (frames_sent x) ++ all_replies numbers gs) (sym h.numbered)
        ∙ ap (λ (xs : List ℕ). xs ++ all_replies numbers gs) (sym h.answered.said)

    pub output-more : output next ≡ output j ++ all_replies numbers gs
    output-more =
        ap (λ (n : ℕ). drop n next.double.said) fed.sent
        ∙ ap (drop j.double.sent) said-more
        ∙ drop-append-le j.double.sent j.double.said (all_replies numbers gs) h.answered.sent

    bytes' : after.unread ++ output next ≡ flat_map encoding (rs ++ flat_map (replies numbers) gs)
    bytes' =
        ap (λ (xs : List ℕ). xs ++ output next) unread-kept
        ∙ ap (λ (xs : List ℕ). e.unread ++ xs) output-more
        ∙ sym (append_assoc e.unread (output j) (all_replies numbers gs))
        ∙ ap (λ (xs : List ℕ). xs ++ all_replies numbers gs) h.bytes
        ∙ ap (λ (xs : List ℕ). flat_map encoding rs ++ xs) (sym (flat-twice encoding (replies numbers) gs))
        ∙ sym (flat_map-append encoding rs (flat_map (replies numbers) gs))

    written-gs : AllByRecursion Writable gs
    written-gs =
        all-back Writable (frames_sent x) gs
        (subst (AllByRecursion Writable) sent-more
        (all-front Writable (frames_sent y) (left_frames y)
        (subst (AllByRecursion Writable)
        (ap frames (sym (take-append-drop y.sent y.committed)) ∙ map-append (λ (i : Item). i.frame) (take y.sent y.committed) (drop y.sent y.committed)) writable)))

    pub offered-mid : Mid options numbers after y next s' (rs ++ flat_map (replies numbers) gs)
    offered-mid = record {
      deals = dealt;
      met = met';
      free = said-blocked gs s ∙ h.free;
      sound = both.1;
      modest = modest-kept options at k e h.modest;
      flowing = flows-took at k (commit_all e) (sound-goes (commit_all e).talk (sound-commit-all e h.sound) (met-commit-all e (all_said (left_frames x) s) h.met).acting)
          (flows-commits (frames_waiting e.talk) e ∙ h.flowing);
      tuned = tuned';
      sends = sends';
      numbered = numbered';
      client = client';
      unrefused = all-read.unrefused;
      answered = all-read.answered;
      bytes = bytes';
      spells = all-joined Spells rs (flat_map (replies numbers) gs) h.spells (all-spell numbers range gs written-gs);
    }

  -- ---- all of a turn

  -- so it stands once all was written, and what was sent then; where the last write was not cut short, nothing is unsent
  -- and nothing waits
  pub record Written (ws : List Wrote) (p : Progress) (x : Sending) (j last : Join) (s : Server) (rs : List Frame) : Type 0 where
    pub sending : Sending
    pub moved : List Frame
    pub sent : offers_sending ws p (x ∷ []) ≡ sending ∷ []
    pub committed : sending.committed ≡ x.committed ++ committed_through ws p
    pub mid : Mid options numbers (drained ws p).engine sending last (all_said moved s) (rs ++ flat_map (replies numbers) moved)
    pub sent_more : frames_sent sending ≡ frames_sent x ++ moved
    pub pends : pending x p.engine.talk ≡ moved ++ pending sending (drained ws p).engine.talk
    pub out_more : output last ≡ output j ++ all_replies numbers moved
    pub taken : x.taken + first_taken ws ≤ sending.taken
    pub unread : (drained ws p).engine.unread ≡ p.engine.unread
    pub idle : last.short ≡ false → IsIdle (drained ws p).engine
    pub cut : last.short ≡ true → 0 < length (drained ws p).engine.unsent

  -- all that was said and is still to be said is the same
  pub same-said : (ws : List Wrote) (p : Progress) (x : Sending) (j last : Join) (s : Server) (rs : List Frame) (w : Written ws p x j last s rs)
      → frames_sent w.sending ++ pending w.sending (drained ws p).engine.talk ≡ frames_sent x ++ pending x p.engine.talk
  same-said ws p x j last s rs w =
      let rest = pending w.sending (drained ws p).engine.talk in
      ap (λ (fs : List Frame). fs ++ rest) w.sent_more ∙ append_assoc (frames_sent x) w.moved rest ∙ ap (λ (fs : List Frame). frames_sent x ++ fs) (sym w.pends)

  legal-front : (ys zs : List Item) (n : ℕ) → Legal (frames (ys ++ zs)) → Legal (frames (take n ys))
  legal-front ys zs n legal =
      front-legal (frames (take n ys)) (frames (drop n ys) ++ frames zs)
      (subst Legal
      (map-append (λ (i : Item). i.frame) ys zs
      ∙ ap (λ (xs : List Item). frames xs ++ frames zs) (sym (take-append-drop n ys))
      ∙ ap (λ (fs : List Frame). fs ++ frames zs) (map-append (λ (i : Item). i.frame) (take n ys) (drop n ys))
      ∙ append_assoc (frames (take n ys)) (frames (drop n ys)) (frames zs)) legal)

  short-now : (k n : ℕ) → k ≤ n → (k == n) ≡ false → nat_lt k n ≡ true
  short-now k n most_k differ = grind (arith, nat_tests)

  short-none : (k n : ℕ) → (k == n) ≡ true → nat_lt k n ≡ false
  short-none k n same = grind (arith, nat_tests)

  -- of what was offered something is left, where not all was taken
  some-left : (at k : ℕ) (e : Engine) → is_open (took at k (commit_all e)).talk ≡ true → k ≤ length (offered e) → (k == length (offered e)) ≡ false → 0 < length (took at k (commit_all e)).unsent
  some-left at k e opened within differ =
      let z : Engine = record (commit_all e) { talk = taken k (present_at at (commit_all e).talk); unsent = drop k (commit_all e).unsent } in
      let same : (settle z).unsent ≡ z.unsent = settle-unsent z (ap is_open (sym (settle-talk z)) ∙ opened) in
      let size : length z.unsent ≡ length (offered e) - k = length-drop k (commit_all e).unsent in
      let less : nat_lt k (length (offered e)) ≡ true = short-now k (length (offered e)) within differ in
      let fewer : k < length (offered e) = grind (arith, nat_tests, less) in
      let now = ap length same in
      omega (arith, now, size, fewer)

  pub written : (ws : List Wrote) (p : Progress) (x : Sending) (j last : Join) (s : Server) (rs : List Frame) → p.cut ≡ None → j.short ≡ false → AreNoted ws → AreAnswers ws p → JoinsOffers (offers_from ws p) j last
      → AllByRecursion Writable (frames (x.committed ++ committed_through ws p)) → Legal (frames (x.committed ++ committed_through ws p)) → Mid options numbers p.engine x j s rs → Written ws p x j last s rs
  written [] p x j last s rs whole full noted may joins writable legal h =
      let same : (closing p).engine ≡ p.engine =
      if_case (λ (q : Progress). q.engine ≡ p.engine) (goes p) (record p { engine = refuse_overlong p.engine }) p
      (ap (λ o. ended_overlong o p.engine) (modest-fits options p.engine h.modest)) refl in
      let going : goes p ≡ true = ap (λ c. is_before c p.done) whole in
      let none : can_write p.engine ≡ false = and-other (goes p) (can_write p.engine) going may in
      record {
        sending = x;
        moved = [];
        sent = refl;
        committed = sym (append-nil x.committed);
        mid =
            subst (λ (ys : List Frame). Mid options numbers (closing p).engine x last s ys) (sym (append-nil rs))
            (subst (λ (z : Engine). Mid options numbers z x last s rs) (sym same) (subst (λ (y : Join). Mid options numbers p.engine x y s rs) (sym joins) h));
        sent_more = sym (append-nil (frames_sent x));
        pends = ap (λ (z : Engine). pending x z.talk) (sym same);
        out_more = ap output joins ∙ sym (append-nil (output j));
        taken = omega arith;
        unread = ap (λ (z : Engine). z.unread) same;
        idle = λ now. subst IsIdle (sym same) (idle-so options p.engine h.met.opened (h.met.blocked ∙ said-blocked (left_frames x) s ∙ h.free) h.modest h.flowing none);
        cut = λ now. absurd (true≢false (sym now ∙ ap (λ (y : Join). y.short) joins ∙ full));
      }
  written (Failed ∷ ws) p x j last s rs whole full noted may joins writable legal h = absurd joins.1
  written (NoMemory ∷ ws) p x j last s rs whole full noted may joins writable legal h = absurd (noted.0 refl)
  written (Took k ∷ ws) p x j last s rs whole full noted may joins writable legal h =
      by (is_all (Took k) (length (offered p.engine))) refl may.2
      (λ s_then rs_then rest full_then writable_then legal_then m.
      written ws (offer_part (Took k) p) (offer_sending (Took k) p.engine x) joins.0 last s_then rs_then whole full_then noted.1 rest joins.2 writable_then legal_then m) where
        p' : Progress
        p' = offer_part (Took k) p

        y : Sending
        y = offer_sending (Took k) p.engine x

        gs : List Frame
        gs = now_sent k p.engine x

        s' : Server
        s' = all_said gs s

        rs' : List Frame
        rs' = rs ++ flat_map (replies numbers) gs

        can : can_write p.engine ≡ true
        can = and-right (goes p) (can_write p.engine) may.0

        -- the turn goes on, so the port found memory
        answer : port_answer (Took k) p ≡ Took k
        answer =
            let on : goes p' ≡ true = ap (λ c. is_before c (p.done + 1)) whole in
            let off : (k == 0 && not (goes p')) ≡ false = and-false (k == 0) (not (goes p')) (ap not on) in
            ap (λ (b : Bool). if b then NoMemory else Took k) off

        rule : JoinWrites (offered p.engine) (Took k) j joins.0
        rule = subst (λ (w : Wrote). JoinWrites (offered p.engine) w j joins.0) answer joins.1

        C' : List Item
        C' = committed_before p.engine

        all : Bool
        all = is_all (Took k) (length (offered p.engine))

        later : List Item
        later = if all then committed_through ws p' else []

        parts : frames (x.committed ++ (C' ++ later)) ≡ frames y.committed ++ frames later
        parts = ap frames (sym (append_assoc x.committed C' later)) ∙ map-append (λ (i : Item). i.frame) y.committed later

        writable' : AllByRecursion Writable (frames y.committed)
        writable' = all-front Writable (frames y.committed) (frames later) (subst (AllByRecursion Writable) parts writable)

        legal' : Legal (frames_sent y)
        legal' = legal-front y.committed later y.sent (subst Legal (ap frames (sym (append_assoc x.committed C' later))) legal)

        h' : Mid options numbers p'.engine y joins.0 s' rs'
        h' = offered-mid p.at k p.engine x j joins.0 can may.1 rule writable' legal' s rs h

        sent' : frames_sent y ≡ frames_sent x ++ gs
        sent' = sent-more p.at k p.engine x j joins.0 can may.1 rule writable' legal' s rs h

        pends' : pending x p.engine.talk ≡ gs ++ pending y p'.engine.talk
        pends' = pends p.at k p.engine x j joins.0 can may.1 rule writable' legal' s rs h

        out' : output joins.0 ≡ output j ++ all_replies numbers gs
        out' = output-more p.at k p.engine x j joins.0 can may.1 rule writable' legal' s rs h

        unread' : p'.engine.unread ≡ p.engine.unread
        unread' = unread-kept p.at k p.engine x j joins.0 can may.1 rule writable' legal' s rs h

        by : (b : Bool) → all ≡ b → MatchBool b (AreAnswers ws p') (ws ≡ [])
            → ((z : Server) (zs : List Frame) → AreAnswers ws p' → joins.0.short ≡ false → AllByRecursion Writable (frames (y.committed ++ committed_through ws p')) → Legal (frames (y.committed ++ committed_through ws p'))
            → Mid options numbers p'.engine y joins.0 z zs → Written ws p' y joins.0 last z zs)
            → Written (Took k ∷ ws) p x j last s rs
        by true is rest more =
            let through : x.committed ++ (C' ++ later) ≡ y.committed ++ committed_through ws p' =
            ap (λ (xs : List Item). x.committed ++ (C' ++ xs)) (if-true all (committed_through ws p') [] is) ∙ assoc-back x.committed C' (committed_through ws p') in
            let uncut : joins.0.short ≡ false = ap (λ (z : Join). z.short) rule.2 ∙ short-none k (length (offered p.engine)) is in
            let w = more s' rs' rest uncut (subst (λ (xs : List Item). AllByRecursion Writable (frames xs)) through writable) (subst (λ (xs : List Item). Legal (frames xs)) through legal) h' in
            let so : drained (Took k ∷ ws) p ≡ drained ws p' = if-true all (drained ws p') p' is in
            let owed : rs' ++ flat_map (replies numbers) w.moved ≡ rs ++ flat_map (replies numbers) (gs ++ w.moved) =
            append_assoc rs (flat_map (replies numbers) gs) (flat_map (replies numbers) w.moved) ∙ ap (λ (fs : List Frame). rs ++ fs) (sym (flat_map-append (replies numbers) gs w.moved)) in
            record {
              sending = w.sending;
              moved = gs ++ w.moved;
              sent = ap (offers_sending ws p') (on_last-append (offer_sending (Took k) p.engine) [] x) ∙ w.sent;
              committed = w.committed ∙ sym through;
              mid =
                  subst (λ (q : Progress). Mid options numbers q.engine w.sending last (all_said (gs ++ w.moved) s) (rs ++ flat_map (replies numbers) (gs ++ w.moved))) (sym so)
                  (subst (λ (z : Server). Mid options numbers (drained ws p').engine w.sending last z (rs ++ flat_map (replies numbers) (gs ++ w.moved))) (sym (said-append gs w.moved s))
                  (subst (Mid options numbers (drained ws p').engine w.sending last (all_said w.moved s')) owed w.mid));
              sent_more = w.sent_more ∙ ap (λ (fs : List Frame). fs ++ w.moved) sent' ∙ append_assoc (frames_sent x) gs w.moved;
              pends =
                  subst (λ (q : Progress). pending x p.engine.talk ≡ (gs ++ w.moved) ++ pending w.sending q.engine.talk) (sym so)
                  (both-fronts (pending x p.engine.talk) (pending y p'.engine.talk) (pending w.sending (drained ws p').engine.talk) gs w.moved pends' w.pends);
              out_more =
                  w.out_more ∙ ap (λ (bs : List ℕ). bs ++ all_replies numbers w.moved) out' ∙ append_assoc (output j) (all_replies numbers gs) (all_replies numbers w.moved)
                  ∙ ap (λ (bs : List ℕ). output j ++ bs) (sym (flat_map-append (reply_octets numbers) gs w.moved));
              taken = (let more_taken = w.taken in omega (arith, more_taken));
              unread = ap (λ (q : Progress). q.engine.unread) so ∙ w.unread ∙ unread';
              idle = λ now. subst (λ (q : Progress). IsIdle q.engine) (sym so) (w.idle now);
              cut = λ now. subst (λ (q : Progress). 0 < length q.engine.unsent) (sym so) (w.cut now);
            }
        by false is none more =
            let over : last ≡ joins.0 = subst (λ (zs : List Wrote). JoinsOffers (offers_from zs p') joins.0 last) none joins.2 in
            let so : drained (Took k ∷ ws) p ≡ p' = if-false all (drained ws p') p' is in
            let short : last.short ≡ true = ap (λ (z : Join). z.short) (over ∙ rule.2) ∙ short-now k (length (offered p.engine)) may.1 is in
            record {
              sending = y;
              moved = gs;
              sent = ap (λ (zs : List Wrote). offers_sending zs p' (on_last (offer_sending (Took k) p.engine) (x ∷ []))) none ∙ on_last-append (offer_sending (Took k) p.engine) [] x;
              committed = ap (λ (xs : List Item). x.committed ++ xs) (sym (append-nil C') ∙ ap (λ (xs : List Item). C' ++ xs) (sym (if-false all (committed_through ws p') [] is)));
              mid = subst (λ (q : Progress). Mid options numbers q.engine y last s' rs') (sym so) (subst (λ (z : Join). Mid options numbers p'.engine y z s' rs') (sym over) h');
              sent_more = sent';
              pends = pends' ∙ ap (λ (q : Progress). gs ++ pending y q.engine.talk) (sym so);
              out_more = ap output over ∙ out';
              taken = omega arith;
              unread = ap (λ (q : Progress). q.engine.unread) so ∙ unread';
              idle = λ now. absurd (true≢false (sym short ∙ now));
              cut = λ now. subst (λ (q : Progress). 0 < length q.engine.unsent) (sym so) (some-left p.at k p.engine h'.met.opened may.1 is);
            }
