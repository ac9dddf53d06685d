-- Channels that are kept over the loss of a link are tied to the conversation again.
use Rattle.std.proofs.Common.{◌≡◌, ◌≢◌, ◌<◌, ℕ, Bool, true, false, List, [], ◌∷◌, ◌++◌, Option, Some, None, inl, inr, refl, ap, sym, ◌∙◌, subst, arith}
use Rattle.std.proofs.lemmas.Bool.{cases_eq}
use Rattle.std.specs.Map.{keys_of}
use Rattle.std.specs.Prelude.{filter, cond}
use Rattle.std.specs.BTreeMap.{is_at}
use Rattle.std.specs.Ordering.{nat_cmp}
use Rattle.amqp_outbox.specs.declared.reply.Awaited.{Awaited}
use Rattle.amqp_outbox.specs.declared.reply.Reply.{Reply}
use Rattle.amqp_outbox.specs.declared.reply.Reply.TheVariants.{ChannelOpened}
use Rattle.amqp_outbox.specs.Replies.{expected}
use Rattle.amqp_channels.specs.declared.channels.Channel.{Channel}
use Rattle.amqp_channels.specs.declared.channels.Debt.TheVariants.{Nothing}
use Rattle.amqp_promise.specs.declared.state.ChannelState.{ChannelState}
use Rattle.amqp_settings.specs.Handshake.{channel_open}
use Rattle.amqp_maps.specs.Listed.{at, without, map_values}
use Rattle.amqp_channels.specs.Kept.{is_kept_in, reconnecting, kept}
use Rattle.amqp_legal.specs.Decider.{Speech, say, now_on}
use Rattle.amqp_legal.specs.declared.progress.Stage.TheVariants.{OpenSaid}
use Rattle.amqp_legal.specs.declared.progress.Usage.{Usage}
use Rattle.amqp_legal.specs.declared.progress.Usage.TheVariants.{InUse}
use Rattle.amqp_legal.proofs.Sayable.{IsComplete}
use Rattle.amqp_rules.specs.Sound.{AscendFrom, Ascend}
use Rattle.amqp_rules.proofs.Ascending.{ascend-below, without-from, at-gone, none-below, map_values-from, filter-from}
use Rattle.amqp_maps.proofs.Numbered.{at-first, at-later, without-other}
use Rattle.amqp_legal_rules.proofs.Ties.{tied_on, owing, TiesState, TiesOn, TiesChannels, IsKept}
use Rattle.amqp_legal_rules.proofs.Expecting.{expected-same, expected-other, expected-ascend}
use Rattle.amqp_legal_rules.proofs.OnChannels.{Replies, Listed, ascends, ties-as, Others, used-same, used-other, owing-by, say-opening}

-- ---- channels that were kept over the loss of a link

-- one that is still to be opened again is not used, and nothing is awaited on it; another number is tied
abbrev pub TiesPending : Option Channel → Option Channel → List Reply → Usage → Type 0
TiesPending None o replies u = TiesOn o replies u
TiesPending (Some c) o replies u = (o ≡ Some c) × IsKept (Some c) × (replies ≡ []) × (u ≢ InUse)

-- while they are opened again, with those that are still to be
pub record Reopening (pending cs : Listed) (ws : Replies) (due : ℕ → ℕ) (v : Speech) : Type 0 where
  pub speaking : v.stage ≡ OpenSaid
  pub complete : IsComplete v.content
  pub sorted : AscendFrom 0 (keys_of cs)
  pub pending_sorted : AscendFrom 0 (keys_of pending)
  pub awaited_sorted : Ascend (keys_of ws)
  pub each : (n : ℕ) → TiesPending (at n pending) (at n cs) (tied_on n ws) (v.usage n)
  pub owes : (n : ℕ) → due n ≡ owing (at n cs)

-- all of them were
pub all-reopened : (cs : Listed) (ws : Replies) (due : ℕ → ℕ) (v : Speech) → Reopening [] cs ws due v → TiesChannels cs ws due v
all-reopened cs ws due v h =
    record { speaking = h.speaking; complete = h.complete; sorted = h.sorted; awaited_sorted = h.awaited_sorted; each = h.each; owes = h.owes }

kept-owes : (o : Option Channel) → IsKept o → owing o ≡ 0
kept-owes None h = refl
kept-owes (Some c) h = owing-by c Nothing h.1

-- the connection is open, and none was yet
pub none-reopened : (cs : Listed) (due : ℕ → ℕ) (v : Speech) → v.stage ≡ OpenSaid → IsComplete v.content → ((n : ℕ) → v.usage n ≢ InUse) → AscendFrom 0 (keys_of cs)
    → ((n : ℕ) → IsKept (at n cs)) → ((n : ℕ) → due n ≡ 0) → Reopening cs cs [] due v
none-reopened cs due v speaking complete unused sorted kept none =
    record {
      speaking = speaking;
      complete = complete;
      sorted = sorted;
      pending_sorted = sorted;
      awaited_sorted = tt;
      each = λ n. by n (at n cs) (kept n);
      owes = λ n. none n ∙ sym (kept-owes (at n cs) (kept n));
    }
  where
    by : (n : ℕ) (o : Option Channel) → IsKept o → TiesPending o o [] (v.usage n)
    by n None h = (refl, unused n)
    by n (Some c) h = (refl, h, refl, unused n)

-- the first of those that are still to be opened again
pub record IsNext (n : ℕ) (c : Channel) (pending cs : Listed) (ws : Replies) (v : Speech) : Type 0 where
  pub not_zero : n ≢ 0
  pub listed : at n cs ≡ Some c
  pub kept : IsKept (Some c)
  pub awaited : tied_on n ws ≡ []
  pub unused : v.usage n ≢ InUse
  -- it is not among the others
  pub absent : at n pending ≡ None
  pub others : (m : ℕ) → m ≢ n → at m ((n, c) ∷ pending) ≡ at m pending
  pub others_sorted : AscendFrom 0 (keys_of pending)

next-of : (n : ℕ) (c : Channel) (pending cs : Listed) (ws : Replies) (due : ℕ → ℕ) (v : Speech) → Reopening ((n, c) ∷ pending) cs ws due v → IsNext n c pending cs ws v
next-of n c pending cs ws due v h =
    let Q : Option Channel → Type 0 = λ o. TiesPending o (at n cs) (tied_on n ws) (v.usage n) in
    let k : TiesPending (Some c) (at n cs) (tied_on n ws) (v.usage n) = subst Q (at-first n c pending) (h.each n) in
    let low : 0 < n = h.pending_sorted.0 in
    record {
      not_zero = λ is. absurd (omega (arith, low, is));
      listed = k.0;
      kept = k.1;
      awaited = k.2;
      unused = k.3;
      absent = none-below n pending h.pending_sorted.1;
      others = λ m ne. at-later m n c pending ne;
      others_sorted = ascend-below 0 n (keys_of pending) (omega arith) h.pending_sorted.1;
    }

pending-as : (p p' o o' : Option Channel) (rs rs' : List Reply) (u u' : Usage) → p' ≡ p → o' ≡ o → rs' ≡ rs → u' ≡ u → TiesPending p o rs u → TiesPending p' o' rs' u'
pending-as p p' o o' rs rs' u u' hp ho hr hu h =
    let A : Option Channel → Type 0 = λ x. TiesPending x o rs u in
    let B : Option Channel → Type 0 = λ x. TiesPending p' x rs u in
    let C : List Reply → Type 0 = λ x. TiesPending p' o' x u in
    let D : Usage → Type 0 = λ x. TiesPending p' o' rs' x in
    subst D (sym hu) (subst C (sym hr) (subst B (sym ho) (subst A (sym hp) h)))

-- it is no longer pending
no-longer : (n : ℕ) (c : Channel) (pending cs cs' : Listed) (ws ws' : Replies) (due : ℕ → ℕ) (v v' : Speech) → Reopening ((n, c) ∷ pending) cs ws due v → IsNext n c pending cs ws v
    → v'.stage ≡ OpenSaid → IsComplete v'.content → TiesOn (at n cs') (tied_on n ws') (v'.usage n) → due n ≡ owing (at n cs') → Others n cs cs' ws ws' due due v v'
    → Reopening pending cs' ws' due v'
no-longer n c pending cs cs' ws ws' due v v' h first speaking complete here owed others =
    let P : Option Channel → Type 0 = λ o. TiesPending o (at n cs') (tied_on n ws') (v'.usage n) in
    let own : P (at n pending) = subst P (sym first.absent) here in
    record {
      speaking = speaking;
      complete = complete;
      sorted = others.sorted;
      pending_sorted = first.others_sorted;
      awaited_sorted = others.awaited_sorted;
      each = λ m.
          (let Q : ℕ → Type 0 = λ k. TiesPending (at k pending) (at k cs') (tied_on k ws') (v'.usage k) in
          elim (cases_eq m n) [
            | inl is ↦ subst Q (sym is) own
            | inr ne ↦
                pending-as (at m ((n, c) ∷ pending)) (at m pending) (at m cs) (at m cs') (tied_on m ws) (tied_on m ws') (v.usage m) (v'.usage m)
                (sym (first.others m ne)) (others.listed m ne) (others.awaited m ne) (others.used m ne) (h.each m)
          ]);
      owes = λ m.
          (let Q : ℕ → Type 0 = λ k. due k ≡ owing (at k cs') in
          elim (cases_eq m n) [
            | inl is ↦ subst Q (sym is) owed
            | inr ne ↦ h.owes m ∙ ap owing (sym (others.listed m ne))
          ]);
    }

-- it is opened again
pub record Reopens (n : ℕ) (pending cs : Listed) (ws : Replies) (due : ℕ → ℕ) (v : Speech) : Type 0 where
  pub may : say (channel_open n) v ≡ Some (now_on n InUse v)
  pub ties : Reopening pending cs (expected n (record { reply = ChannelOpened; promise = None }) ws) due (now_on n InUse v)

pub on-reopened : (n : ℕ) (c : Channel) (pending cs : Listed) (ws : Replies) (due : ℕ → ℕ) (v : Speech) → Reopening ((n, c) ∷ pending) cs ws due v → Reopens n pending cs ws due v
on-reopened n c pending cs ws due v h =
    let first = next-of n c pending cs ws due v h in
    let a : Awaited = record { reply = ChannelOpened; promise = None } in
    let replies : tied_on n (expected n a ws) ≡ ChannelOpened ∷ [] = expected-same n a ws ∙ ap (λ rs. rs ++ ChannelOpened ∷ []) first.awaited in
    let here : TiesState c.state c.debt (ChannelOpened ∷ []) InUse =
    (let Q : ChannelState → Type 0 = λ s. TiesState s c.debt (ChannelOpened ∷ []) InUse in subst Q (sym first.kept.0) (refl, refl, first.kept.1)) in
    record {
      may = say-opening n v first.not_zero h.speaking h.complete first.unused;
      ties =
          no-longer n c pending cs cs ws (expected n a ws) due v (now_on n InUse v) h first h.speaking tt
          (ties-as (Some c) (at n cs) (ChannelOpened ∷ []) (tied_on n (expected n a ws)) InUse ((now_on n InUse v).usage n)
          first.listed replies (used-same n InUse v) (here, first.kept.2))
          (h.owes n)
          (record {
            sorted = h.sorted;
            awaited_sorted = expected-ascend n a ws h.awaited_sorted;
            listed = λ m ne. refl;
            awaited = λ m ne. expected-other m n a ws ne;
            owed = λ m ne. refl;
            used = λ m ne. used-other n InUse v m ne;
          });
    }

-- its number is no longer agreed, and it goes
pub on-passed : (n : ℕ) (c : Channel) (pending cs : Listed) (ws : Replies) (due : ℕ → ℕ) (v : Speech) → Reopening ((n, c) ∷ pending) cs ws due v
    → Reopening pending (without n cs) ws due v
on-passed n c pending cs ws due v h =
    let first = next-of n c pending cs ws due v h in
    let gone : at n (without n cs) ≡ None = at-gone n cs (ascends cs h.sorted) in
    no-longer n c pending cs (without n cs) ws ws due v v h first h.speaking h.complete
    (ties-as None (at n (without n cs)) [] (tied_on n ws) (v.usage n) (v.usage n) gone first.awaited refl (refl, first.unused))
    (h.owes n ∙ ap owing first.listed ∙ kept-owes (Some c) first.kept ∙ ap owing (sym gone))
    (record {
      sorted = without-from n 0 cs h.sorted;
      awaited_sorted = h.awaited_sorted;
      listed = λ m ne. without-other m n cs ne;
      awaited = λ m ne. refl;
      owed = λ m ne. refl;
      used = λ m ne. refl;
    })

-- as many close-oks are on their way
pub reopening-due : (pending cs : Listed) (ws : Replies) (due due' : ℕ → ℕ) (v : Speech) → ((n : ℕ) → due' n ≡ due n) → Reopening pending cs ws due v
    → Reopening pending cs ws due' v
reopening-due pending cs ws due due' v same h =
    record {
      speaking = h.speaking;
      complete = h.complete;
      sorted = h.sorted;
      pending_sorted = h.pending_sorted;
      awaited_sorted = h.awaited_sorted;
      each = h.each;
      owes = λ n. same n ∙ h.owes n;
    }

-- ---- a link is lost

-- the channels that are kept stand in their order
pub kept-from : (cs : Listed) → AscendFrom 0 (keys_of cs) → AscendFrom 0 (keys_of (kept cs))
kept-from cs s = map_values-from reconnecting 0 (filter (λ e. is_kept_in (e.1).state) cs) (filter-from (λ e. is_kept_in (e.1).state) 0 cs s)

-- and are to be opened again
pub all-kept : (n : ℕ) (cs : Listed) → IsKept (at n (kept cs))
all-kept n [] = tt
all-kept n (e ∷ cs) = by (is_kept_in (e.1).state) (all-kept n cs) where
  here : (b : Bool) → IsKept (at n (kept cs)) → IsKept (cond b (Some (reconnecting e.1)) (at n (kept cs)))
  here true rest = (refl, refl, refl)
  here false rest = rest

  by : (b : Bool) → IsKept (at n (kept cs))
      → IsKept (at n (map_values reconnecting (cond b (e ∷ filter (λ e. is_kept_in (e.1).state) cs) (filter (λ e. is_kept_in (e.1).state) cs))))
  by true rest = here (is_at (nat_cmp n) e.0) rest
  by false rest = rest
