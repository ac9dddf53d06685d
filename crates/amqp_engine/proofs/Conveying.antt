-- What is known of an engine and of what it sent on its links.
use Rattle.std.proofs.Common.{◌≡◌, ◌≢◌, ◌≤◌, ◌<◌, ◌⊎◌, inl, inr, ◌∙◌, ap, sym, subst, refl, ℕ, suc, Bool, true, false, List, [], ◌∷◌, ◌++◌, length, map, Option, Some, None, is_some, Result, append-nil, arith}
use Rattle.std.proofs.lemmas.List.{map-append}
use Rattle.std.proofs.lemmas.List.Concat.{flat_map-append}
use Rattle.std.specs.List.{AllByRecursion}
use Rattle.amqp_frame.specs.declared.frame.Frame.{Frame}
use Rattle.amqp_outbox.specs.declared.item.Item.{Item}
use Rattle.amqp_promise.specs.declared.error.ErrorKind.{ErrorKind}
use Rattle.amqp_rules.specs.declared.state.Link.{Link}
use Rattle.amqp_rules.specs.declared.state.Link.TheVariants.{Asked}
use Rattle.amqp_outgoing.specs.declared.committed.Mark.{Mark}
use Rattle.amqp_commands.specs.declared.command.Cmd.{Cmd}
use Rattle.amqp_answers.specs.declared.answer.Answer.{Answer}
use Rattle.amqp_answers.specs.declared.handed.Handed.{Handed}
use Rattle.amqp_rules.specs.Talk.{Talk, is_open, is_open_link, is_asked, is_asked_link}
use Rattle.amqp_rules.specs.Commands.{command, takes_promise}
use Rattle.amqp_rules.specs.Links.{linked}
use Rattle.amqp_rules.specs.Sound.{IsSound}
use Rattle.amqp_carried_rules.specs.CommandFrames.{answered_command}
use Rattle.amqp_types.proofs.Small.{if_case, if-true}
use Rattle.amqp_rules.proofs.SoundCommands.{sound-command}
use Rattle.amqp_rules.proofs.Soundness.{sound-linked}
use Rattle.amqp_rules.proofs.Keeping.{stays-command}
use Rattle.amqp_carried_rules.proofs.Bearing.{Reading, IsAt, none, empty, besides}
use Rattle.amqp_carried_rules.proofs.Commanding.{grows-more, one-more, at-command}
use Rattle.amqp_carried_rules.proofs.Queueing.{same-grows}
use Rattle.amqp_carried_rules.proofs.Entries.{all-then}
use Rattle.amqp_carried_rules.proofs.Openers.{IsOpener, KnowsOpeners, KnowsTaken, knows-linked}
use Rattle.amqp_carried_rules.proofs.OpeningCommands.{KnowsMore, knows-command}
use Rattle.amqp_engine.specs.Carried.{raw_frames, concatenated, says_sent}
use Rattle.amqp_engine.specs.Sending.{Sending, nothing_sent, frames, frames_sent}
use Rattle.amqp_engine.proofs.History.{past-flow, past-grows}
use Rattle.amqp_engine.proofs.Departing.{IsTornBelow, IsOver, AreOver, over-map, AreEver, IsKnown}
use Rattle.amqp_engine.proofs.Passing.{AreMarks}

-- what is passed through of the frames that were sent, link by link
abbrev pub raws : List Sending → List (List Frame)
raws ss = map raw_frames (map frames_sent ss)

-- the open link is the last
pub record IsLastLink (left : List Item) (before : List (List Frame)) (sofar : List Frame) (t : Talk) (ss : List Sending) : Type 0 where
  pub fronts : List Sending
  pub sending : Sending
  pub done : List Item
  pub all : ss ≡ fronts ++ sending ∷ []
  pub committed : sending.committed ≡ done ++ left
  pub count : sending.sent ≡ length done
  pub fronts_raw : raws fronts ≡ before
  pub raw : sofar ≡ raw_frames (frames done)
  pub marks : AreMarks t.committed left

-- what is known of a session that was told these commands, of which these answers and frames were taken, and of what was sent
pub record Carries (taken : ℕ → Option (Result Answer ErrorKind)) (given : ℕ → List Handed) (cs : List Cmd) (t : Talk) (ss : List Sending) : Type 0 where
  -- the promises that are answered Sent now, and those that ever were
  pub answered : ℕ → Bool
  pub ever : ℕ → Bool
  pub both : AreEver (λ n. says_sent (taken n)) answered ever
  pub reading : Reading
  pub left : List Item
  pub before : List (List Frame)
  pub sofar : List Frame
  pub at : IsAt cs answered reading left t
  pub known : IsKnown cs ever reading before sofar
  -- by the promise of a command that opens a channel, the number of the channel
  pub opens : ℕ → ℕ
  pub knows : KnowsOpeners cs opens (λ n. is_some (taken n)) t
  pub takes : KnowsTaken cs opens taken given
  pub sound : IsSound t
  pub last : is_open t ≡ true → IsLastLink left before sofar t ss
  pub links : (raws ss ≡ before ++ sofar ∷ []) ⊎ ((raws ss ≡ before) × (sofar ≡ []))

-- where nothing is committed, it is as it was
pub same-last : (left : List Item) (before : List (List Frame)) (sofar : List Frame) (t t' : Talk) (ss : List Sending) → (is_open t ≡ true) × (t'.committed ≡ t.committed)
    → IsLastLink left before sofar t ss → IsLastLink left before sofar t' ss
same-last left before sofar t t' ss k l =
    let M : List Mark → Type 0 = λ ms. AreMarks ms left in
    record { fronts = l.fronts; sending = l.sending; done = l.done; all = l.all; committed = l.committed; count = l.count; fronts_raw = l.fronts_raw; raw = l.raw; marks = subst M (sym k.1) l.marks }

-- ---- rules

-- a change that commits nothing, and perhaps frames were taken
pub carries-given : (taken : ℕ → Option (Result Answer ErrorKind)) (given given' : ℕ → List Handed) (cs : List Cmd) (t t' : Talk) (ss : List Sending)
    → ((answered : ℕ → Bool) (r : Reading) (left : List Item) → IsAt cs answered r left t → IsAt cs answered r left t')
    → ((opens : ℕ → ℕ) → KnowsOpeners cs opens (λ n. is_some (taken n)) t → KnowsOpeners cs opens (λ n. is_some (taken n)) t')
    → (is_open t' ≡ true → (is_open t ≡ true) × (t'.committed ≡ t.committed)) → (IsSound t → IsSound t') → (h : Carries taken given cs t ss)
    → ((p : ℕ) → AllByRecursion (λ (x : Handed). IsOpener cs h.opens x.channel p) (given' p)) → Carries taken given' cs t' ss
carries-given taken given given' cs t t' ss at knows keeps sound h frames =
    record {
      answered = h.answered;
      ever = h.ever;
      both = h.both;
      reading = h.reading;
      left = h.left;
      before = h.before;
      sofar = h.sofar;
      at = at h.answered h.reading h.left h.at;
      known = h.known;
      opens = h.opens;
      knows = knows h.opens h.knows;
      takes = record { answers = h.takes.answers; frames = frames };
      sound = sound h.sound;
      last = λ o. same-last h.left h.before h.sofar t t' ss (keeps o) (h.last (keeps o).0);
      links = h.links;
    }

-- a rule that commits nothing
pub carries-rule : (taken : ℕ → Option (Result Answer ErrorKind)) (given : ℕ → List Handed) (cs : List Cmd) (t t' : Talk) (ss : List Sending) → ((answered : ℕ → Bool) (r : Reading) (left : List Item) → IsAt cs answered r left t → IsAt cs answered r left t')
    → ((opens : ℕ → ℕ) → KnowsOpeners cs opens (λ n. is_some (taken n)) t → KnowsOpeners cs opens (λ n. is_some (taken n)) t')
    → (is_open t' ≡ true → (is_open t ≡ true) × (t'.committed ≡ t.committed)) → (IsSound t → IsSound t') → Carries taken given cs t ss → Carries taken given cs t' ss
carries-rule taken given cs t t' ss at knows keeps sound h = carries-given taken given given cs t t' ss at knows keeps sound h h.takes.frames

-- a command more was told
known-grows : (cs : List Cmd) (c : Cmd) (answered : ℕ → Bool) (r : Reading) (before : List (List Frame)) (sofar : List Frame)
    → IsKnown cs answered r before sofar → IsKnown (cs ++ c ∷ []) answered r before sofar
known-grows cs c answered r before sofar k =
    record {
      order = k.order;
      last = k.last;
      some = k.some;
      over = over-map cs (cs ++ c ∷ []) answered answered r.publishes r.publishes (omega arith) (grows-more cs c) (λ n d told s below. refl) before (map concatenated k.order) k.over;
      past = past-grows cs c answered r (concatenated k.order ++ k.last) k.past;
      unclosed = elim k.unclosed [
        | inl e ↦ inl e
        | inr e ↦
            let x = e.torn in
            inr (record {
              torn = record {
                command = x.command;
                number = x.number;
                told = grows-more cs c x.number x.command x.told;
                publish = x.publish;
                unanswered = x.unanswered;
                below = omega (arith, x.below, one-more cs c);
                rest = x.rest;
                proper = x.proper;
                frames = x.frames;
              };
              above = e.above;
            })
      ];
      split = k.split;
    }

-- a promise that is made next has no answer yet
none-taken : (o : Option (Result Answer ErrorKind)) (n m : ℕ) → ((a : Result Answer ErrorKind) → o ≡ Some a → n ≤ m) → m < n → is_some o ≡ false
none-taken None n m made above = refl
none-taken (Some a) n m made above = absurd (omega (arith, made a refl, above))

-- a command is told
pub carries-command : (taken : ℕ → Option (Result Answer ErrorKind)) (given : ℕ → List Handed) (cs : List Cmd) (c : Cmd) (t : Talk) (ss : List Sending) → Carries taken given cs t ss
    → Carries taken given (cs ++ answered_command c) (command c t) ss
carries-command taken given cs c t ss h =
    let stays = stays-command c t in
    let fresh : is_some (taken t.made) ≡ false = none-taken (taken t.made) t.made (length cs) (λ a is. (h.takes.answers t.made a is).made) (omega (arith, h.at.made)) in
    let more : KnowsMore cs (cs ++ answered_command c) h.opens (λ n. is_some (taken n)) (command c t) = knows-command cs h.opens (λ n. is_some (taken n)) t h.at.made fresh h.knows c in
    record {
      answered = h.answered;
      ever = h.ever;
      both = h.both;
      reading = h.reading;
      left = h.left;
      before = h.before;
      sofar = h.sofar;
      at = at-command cs h.answered h.reading h.left c t h.at;
      known =
          if_case (λ (xs : List Cmd). IsKnown (cs ++ xs) h.ever h.reading h.before h.sofar) (takes_promise c) (c ∷ []) []
          (known-grows cs c h.ever h.reading h.before h.sofar h.known)
          (let K : List Cmd → Type 0 = λ xs. IsKnown xs h.ever h.reading h.before h.sofar in subst K (sym (append-nil cs)) h.known);
      opens = more.opens;
      knows = more.knows;
      takes = record {
        answers = λ p a is. more.answers p (Some a) (h.takes.answers p a is);
        frames = λ p.
            all-then (λ (x : Handed). IsOpener cs h.opens x.channel p) (λ (x : Handed). IsOpener (cs ++ answered_command c) more.opens x.channel p)
            (λ x o. more.openers x.channel p o) (given p) (h.takes.frames p);
      };
      sound = sound-command c t h.sound;
      last = λ o.
          (let opened : is_open t ≡ true = sym (ap is_open_link stays.link) ∙ o in
          same-last h.left h.before h.sofar t (command c t) ss (opened, stays.committed) (h.last opened));
      links = h.links;
    }

-- ---- a new link

-- a link more is over
over-push : (cs : List Cmd) (answered : ℕ → Bool) (low : ℕ) (before kept : List (List Frame)) (fs ks : List Frame) → AreOver cs answered low before kept → IsOver cs answered low fs ks
    → AreOver cs answered low (before ++ fs ∷ []) (kept ++ ks ∷ [])
over-push cs answered low [] [] fs ks h o = (o, tt)
over-push cs answered low (x ∷ before) (y ∷ kept) fs ks h o = (h.0, over-push cs answered low before kept fs ks h.1 o)
over-push cs answered low [] (y ∷ kept) fs ks h o = absurd h
over-push cs answered low (x ∷ before) [] fs ks h o = absurd h

pub no-front : (xs ys : List Frame) → [] ≡ xs ++ ys → xs ≡ []
no-front [] ys h = refl
no-front (x ∷ xs) ys h = absurd cc

-- where none is empty, nothing is joined of none alone
none-joined : (xss : List (List Frame)) → AllByRecursion (λ fs. fs ≢ []) xss → concatenated xss ≡ [] → xss ≡ []
none-joined [] some is = refl
none-joined ([] ∷ xss) some is = absurd (some.0 refl)
none-joined ((x ∷ xs) ∷ xss) some is = absurd cc

-- all links are over
pub record IsRenewed (cs : List Cmd) (answered : ℕ → Bool) (links : List (List Frame)) : Type 0 where
  pub reading : Reading
  pub part : reading.part ≡ []
  pub low : (reading.sends ≤ suc (length cs)) × (reading.publishes ≤ suc (length cs))
  pub known : IsKnown cs answered reading links []
  pub none_last : known.last ≡ []

-- the last link is over, with what is open on it
renew-over : (cs : List Cmd) (answered : ℕ → Bool) (r : Reading) (n : ℕ) (before : List (List Frame)) (sofar : List Frame) (k : IsKnown cs answered r before sofar) → r.publishes ≤ n
    → r.sends ≤ suc (length cs) → n ≤ suc (length cs) → (r.part ≡ []) ⊎ IsTornBelow cs answered n r.part → IsRenewed cs answered (before ++ sofar ∷ [])
renew-over cs answered r n before sofar k le low low' torn =
    let r' : Reading = record { part = []; sends = r.sends; publishes = n } in
    let order : List (List (List Frame)) = k.order ++ k.last ∷ [] in
    let flow : concatenated k.order ++ k.last ≡ concatenated order ++ [] =
    ap (λ xs. concatenated k.order ++ xs) (sym (append-nil k.last)) ∙ sym (flat_map-append (λ xs. xs) k.order (k.last ∷ [])) ∙ sym (append-nil (concatenated order)) in
    let kept : map concatenated order ≡ map concatenated k.order ++ concatenated k.last ∷ [] = map-append concatenated k.order (k.last ∷ []) in
    let O : List (List Frame) → Type 0 = λ xs. AreOver cs answered n (before ++ sofar ∷ []) xs in
    record {
      reading = r';
      part = refl;
      low = (low, low');
      known = record {
        order = order;
        last = [];
        some = tt;
        over =
            subst O (sym kept)
            (over-push cs answered n before (map concatenated k.order) sofar (concatenated k.last)
            (over-map cs cs answered answered r.publishes n le (same-grows cs) (λ m d told s below. refl) before (map concatenated k.order) k.over)
            (record { part = r.part; frames = k.split; torn = torn }));
        past = past-flow cs answered r r' (concatenated k.order ++ k.last) _ (omega arith) le flow k.past;
        unclosed = inl refl;
        split = refl;
      };
      none_last = refl;
    }

-- so all links are over before the next comes
pub renew : (cs : List Cmd) (answered : ℕ → Bool) (r : Reading) (before : List (List Frame)) (sofar : List Frame) (links : List (List Frame)) → IsKnown cs answered r before sofar
    → (r.sends ≤ suc (length cs)) × (r.publishes ≤ suc (length cs)) → (links ≡ before ++ sofar ∷ []) ⊎ ((links ≡ before) × (sofar ≡ [])) → IsRenewed cs answered links
renew cs answered r before sofar links k low (inl is) =
    let Q : List (List Frame) → Type 0 = λ ls. IsRenewed cs answered ls in
    subst Q (sym is) (elim k.unclosed [
      | inl e ↦ renew-over cs answered r r.publishes before sofar k (omega arith) low.0 low.1 (inl e)
      | inr e ↦
          let x = e.torn in
          renew-over cs answered r (suc x.number) before sofar k (omega (arith, e.above)) low.0 (omega (arith, x.below))
          (inr (record {
            command = x.command;
            number = x.number;
            told = x.told;
            publish = x.publish;
            unanswered = x.unanswered;
            below = omega arith;
            rest = x.rest;
            proper = x.proper;
            frames = x.frames;
          }))
    ])
renew cs answered r before sofar links k low (inr is) =
    let Q : List (List Frame) → Type 0 = λ ls. IsRenewed cs answered ls in
    let r' : Reading = record { part = []; sends = r.sends; publishes = r.publishes } in
    let nothing : k.last ≡ [] = none-joined k.last k.some (no-front (concatenated k.last) r.part (sym is.1 ∙ k.split)) in
    subst Q (sym is.0)
    (record {
      reading = r';
      part = refl;
      low = low;
      known = record {
        order = k.order;
        last = [];
        some = tt;
        over = k.over;
        past = past-flow cs answered r r' (concatenated k.order ++ k.last) (concatenated k.order ++ []) (omega arith) (omega arith) (ap (λ xs. concatenated k.order ++ xs) nothing) k.past;
        unclosed = inl refl;
        split = refl;
      };
      none_last = refl;
    })

-- nothing was sent on a new link
raws-push : (ss : List Sending) → raws (ss ++ nothing_sent ∷ []) ≡ raws ss ++ [] ∷ []
raws-push ss = ap (map raw_frames) (map-append frames_sent ss (nothing_sent ∷ [])) ∙ map-append raw_frames (map frames_sent ss) ([] ∷ [])

asked-shut : (l : Link ErrorKind) → is_asked_link l ≡ true → is_open_link l ≡ false
asked-shut Asked h = refl
asked-shut _ h = absurd cc

-- a link that was asked for would be there, but nothing was done
pub carries-unlinked : (taken : ℕ → Option (Result Answer ErrorKind)) (given : ℕ → List Handed) (cs : List Cmd) (t : Talk) (ss : List Sending) → is_asked t ≡ true → Carries taken given cs t ss → Carries taken given cs t (ss ++ nothing_sent ∷ [])
carries-unlinked taken given cs t ss is h =
    let n = renew cs h.ever h.reading h.before h.sofar (raws ss) h.known h.at.low h.links in
    let shut : is_open t ≡ false = asked-shut t.link is in
    record {
      answered = h.answered;
      ever = h.ever;
      both = h.both;
      reading = n.reading;
      left = [];
      before = raws ss;
      sofar = [];
      at = record { made = h.at.made; agrees = h.at.agrees; fresh = h.at.fresh; sized = h.at.sized; low = n.low; bears = λ o. absurd cc };
      known = n.known;
      opens = h.opens;
      knows = h.knows;
      takes = h.takes;
      sound = h.sound;
      last = λ o. absurd cc;
      links = inl (raws-push ss);
    }

-- the link that was asked for is there
pub carries-linked : (taken : ℕ → Option (Result Answer ErrorKind)) (given : ℕ → List Handed) (cs : List Cmd) (t : Talk) (ss : List Sending) → is_asked t ≡ true → Carries taken given cs t ss → Carries taken given cs (linked t) (ss ++ nothing_sent ∷ [])
carries-linked taken given cs t ss is h =
    let n = renew cs h.ever h.reading h.before h.sofar (raws ss) h.known h.at.low h.links in
    let same = if-true (is_asked t) _ t is in
    let A : Talk → Type 0 = λ x. IsAt cs h.answered n.reading [] x in
    let committed : (linked t).committed ≡ [] = ap (λ (x : Talk). x.committed) same in
    let M : List Mark → Type 0 = λ ms. AreMarks ms [] in
    record {
      answered = h.answered;
      ever = h.ever;
      both = h.both;
      reading = n.reading;
      left = [];
      before = raws ss;
      sofar = [];
      at =
          subst A (sym same)
          (record {
            made = h.at.made;
            agrees = h.at.agrees;
            fresh = h.at.fresh;
            sized = λ k. absurd cc;
            low = n.low;
            bears = λ o. record { last = n.reading; lines = none; ends = inl (n.part, besides refl refl empty, tt); awaited = tt };
          });
      known = n.known;
      opens = h.opens;
      knows = knows-linked cs h.opens (λ n. is_some (taken n)) t h.knows;
      takes = h.takes;
      sound = sound-linked t h.sound;
      last = λ o. record { fronts = ss; sending = nothing_sent; done = []; all = refl; committed = refl; count = refl; fronts_raw = refl; raw = refl; marks = subst M (sym committed) tt };
      links = inl (raws-push ss);
    }
