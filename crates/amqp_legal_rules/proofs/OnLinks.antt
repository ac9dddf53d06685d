-- A new link ties a session to its header, and each frame that is committed keeps it tied.
use Rattle.std.proofs.Common.{◌≡◌, ◌≤◌, ℕ, ◌+◌, if◌then◌else◌, Bool, true, false, List, [], ◌∷◌, ◌++◌, Option, Some, None, refl, ap, sym, ◌∙◌, subst, append_assoc, true≢false, arith, append-nil}
use Rattle.amqp_frame.specs.declared.frame.Frame.{Frame}
use Rattle.amqp_outbox.specs.declared.item.Item.{Item}
use Rattle.amqp_outbox.specs.Queued as queued
use Rattle.amqp_outbox.specs.Queued.{Queued, after_next}
use Rattle.amqp_outgoing.specs.declared.committed.Mark.{Mark}
use Rattle.amqp_promise.specs.declared.state.ConnectionState.{ConnectionState}
use Rattle.amqp_promise.specs.declared.state.ConnectionState.TheVariants.{Connecting, Connected, Closing}
use Rattle.amqp_rules.specs.declared.state.Phase.{Phase}
use Rattle.amqp_rules.specs.declared.state.Input.{Input}
use Rattle.amqp_rules.specs.declared.state.Input.TheVariants as input
use Rattle.amqp_settings.specs.Config.{Config}
use Rattle.amqp_rules.specs.Talk.{Talk, start, is_asked}
use Rattle.amqp_rules.specs.Links.{linked}
use Rattle.amqp_rules.specs.Commands.{publish}
use Rattle.amqp_rules.specs.Writing.{flows, writes, next_out}
use Rattle.amqp_outgoing.specs.Marks.{mark_of}
use Rattle.amqp_rules.proofs.Lacking.{is-linked}
use Rattle.amqp_legal.specs.Legal.{amqp_header}
use Rattle.amqp_legal.specs.Decider.{Speech, greeted, say_all}
use Rattle.amqp_legal.specs.declared.progress.Usage.TheVariants.{InUse}
use Rattle.amqp_legal.specs.declared.progress.Content.TheVariants.{BodyMissing}
use Rattle.amqp_legal.proofs.Sayable.{say-append, say-group, filling}
use Rattle.amqp_legal_rules.proofs.Ties.{frames_in, paying, to_pay, unpaid, Ties, Speaks, IsTied, IsSilent}
use Rattle.amqp_legal_rules.proofs.Ready.{stay-ready}
use Rattle.amqp_legal_rules.proofs.Paying.{moved-on, group-pays-none}
use Rattle.amqp_legal_rules.proofs.OnChannels.{Listed, Replies, with-content}
use Rattle.amqp_legal_rules.proofs.Conversing.{went, ties-phase, ties-due}

-- a new session is silent
pub start-silent : (config : Config) → IsSilent (start config)
start-silent config = record { rests = tt; listed = tt; kept = λ n. tt; room = omega arith }

-- on a new link nothing was committed, and the header waits
pub tied-linked : (t : Talk) → is_asked t ≡ true → IsSilent t → IsTied (linked t) []
tied-linked t asked_t h =
    let Q : Talk → Type 0 = λ y. IsTied y [] in
    subst Q (sym (is-linked t asked_t))
    (record {
      later = greeted;
      leads = record { said = []; frames = refl; may = refl };
      lane = ((tt, refl), tt);
      groups = tt;
      ties = (refl, record { kept = h.kept; none_awaited = refl; none_due = λ n. refl });
      agreed = λ k. absurd (true≢false (sym k));
      listed = h.listed;
      room = h.room;
    })

-- a new link has room for the header
pub silent-room : (t : Talk) → IsSilent t → 8 ≤ t.capacity
silent-room t h = h.room

-- a group that begins leaves a session tied
ties-begun : (i : Input) (s : ConnectionState) (p : Phase) (cs : Listed) (ws : Replies) (due : ℕ → ℕ) (n : ℕ) (v : Speech) → v.usage n ≡ InUse
    → Ties i s p cs ws due v → Ties i s p cs ws due (filling n 0 v)
ties-begun input.Acting Connecting p cs ws due n v used h = absurd (ties-phase p n v used h.0)
ties-begun input.Acting Connected p cs ws due n v used h = with-content cs ws due v (BodyMissing n 0) tt h
ties-begun input.Acting Closing p cs ws due n v used h = h
ties-begun input.Acting _ p cs ws due n v used h = absurd h
ties-begun (input.Closed crossed) s p cs ws due n v used h = h
ties-begun (input.Dropped crossed) s p cs ws due n v used h = h

-- the next frame goes out, by what waits
next-speaks : (flow : Bool) (begun control : List Item) (publish : List (List Item)) (awaited : Replies) (s : ConnectionState) (p : Phase) (i : Input) (frame_max capacity : ℕ)
    (cs : Listed) (ms : List Mark) (fs : List Frame) (item : Item)
    → queued.next_item flow (record { control = control; publish = publish; begun = begun; awaited = awaited }) ≡ Some item
    → Speaks s p i frame_max capacity (record { control = control; publish = publish; begun = begun; awaited = awaited }) cs ms fs
    → Speaks s p i frame_max capacity (after_next flow (record { control = control; publish = publish; begun = begun; awaited = awaited })) cs (ms ++ mark_of item ∷ []) (fs ++ item.frame ∷ [])
next-speaks flow (x ∷ begun) control publish awaited s p i frame_max capacity cs ms fs item is h =
    let same : x ≡ item = cc in
    let q : Queued = record { control = control; publish = publish; begun = begun; awaited = awaited } in
    let Q : Item → Type 0 = λ y. Speaks s p i frame_max capacity q cs (ms ++ mark_of y ∷ []) (fs ++ y.frame ∷ []) in
    subst Q same
    (record {
      later = h.later;
      leads = went x (begun ++ control) fs h.later h.leads;
      lane = h.lane;
      groups = h.groups;
      ties =
          ties-due i s p cs awaited (unpaid ms (x ∷ begun ++ control)) (unpaid (ms ++ mark_of x ∷ []) (begun ++ control)) h.later
          (moved-on ms x (begun ++ control)) h.ties;
      agreed = h.agreed;
      listed = h.listed;
      room = h.room;
    })
next-speaks flow [] (x ∷ control) publish awaited s p i frame_max capacity cs ms fs item is h =
    let same : x ≡ item = cc in
    let q : Queued = record { control = control; publish = publish; begun = []; awaited = awaited } in
    let Q : Item → Type 0 = λ y. Speaks s p i frame_max capacity q cs (ms ++ mark_of y ∷ []) (fs ++ y.frame ∷ []) in
    subst Q same
    (record {
      later = h.later;
      leads = went x control fs h.later h.leads;
      lane = h.lane.1;
      groups = h.groups;
      ties = ties-due i s p cs awaited (unpaid ms (x ∷ control)) (unpaid (ms ++ mark_of x ∷ []) control) h.later (moved-on ms x control) h.ties;
      agreed = h.agreed;
      listed = h.listed;
      room = h.room;
    })
next-speaks false [] [] publish awaited s p i frame_max capacity cs ms fs item is h = absurd cc
next-speaks true [] [] [] awaited s p i frame_max capacity cs ms fs item is h = absurd cc
next-speaks true [] [] ([] ∷ groups) awaited s p i frame_max capacity cs ms fs item is h = absurd cc
-- a group begins, and the rest of it goes before all else
next-speaks true [] [] ((x ∷ group) ∷ groups) awaited s p i frame_max capacity cs ms fs item is h =
    let same : x ≡ item = cc in
    let q : Queued = record { control = []; publish = groups; begun = group; awaited = awaited } in
    let Q : Item → Type 0 = λ y. Speaks s p i frame_max capacity q cs (ms ++ mark_of y ∷ []) (fs ++ y.frame ∷ []) in
    let v : Speech = h.later in
    let w = h.groups.0 in
    let gs : List Frame = x.frame ∷ frames_in group in
    let begun : fs ≡ amqp_header ∷ h.leads.said = sym (append-nil fs) ∙ h.leads.frames in
    let due : (n : ℕ) → unpaid (ms ++ mark_of x ∷ []) (group ++ []) n ≡ unpaid ms [] n =
    λ n.
    (let a : unpaid (ms ++ mark_of x ∷ []) group n ≡ unpaid ms (x ∷ group) n = moved-on ms x group n in
    let b : unpaid (ms ++ mark_of x ∷ []) (group ++ []) n ≡ unpaid (ms ++ mark_of x ∷ []) group n =
    ap (λ items. unpaid (ms ++ mark_of x ∷ []) items n) (append-nil group) in
    let c : to_pay (x ∷ group) n ≡ 0 = group-pays-none (x ∷ group) w.channel w.method w.head w.bodies n w.frames in
    b ∙ a ∙ ap (λ k. paying ms n + k) c) in
    subst Q same
    (record {
      later = filling w.channel 0 v;
      leads =
          record {
            said = h.leads.said ++ gs;
            frames =
                ap (λ items. (fs ++ x.frame ∷ []) ++ frames_in items) (append-nil group) ∙ append_assoc fs (x.frame ∷ []) (frames_in group)
                ∙ ap (λ frames. frames ++ gs) begun;
            may =
                say-append (Some greeted) h.leads.said gs ∙ ap (λ o. say_all o gs) h.leads.may ∙ ap (say_all (Some v)) w.frames
                ∙ say-group w.channel w.method w.head w.bodies v w.not_zero w.speaking w.complete w.used w.passed w.content;
          };
      lane = tt;
      groups = stay-ready v (filling w.channel 0 v) groups w.speaking tt (λ m used. used) h.groups.1;
      ties =
          ties-due i s p cs awaited (unpaid ms []) (unpaid (ms ++ mark_of x ∷ []) (group ++ [])) (filling w.channel 0 v) due
          (ties-begun i s p cs awaited (unpaid ms []) w.channel v w.used h.ties);
      agreed = h.agreed;
      listed = h.listed;
      room = h.room;
    })

-- a frame is committed
pub tied-commit : (t : Talk) (fs : List Frame) (item : Item) → next_out t ≡ Some item → IsTied t fs
    → IsTied (record t { outbox = after_next (flows t) t.outbox; committed = t.committed ++ mark_of item ∷ [] }) (fs ++ item.frame ∷ [])
tied-commit t fs item is h =
    next-speaks (flows t) t.outbox.begun t.outbox.control t.outbox.publish t.outbox.awaited t.state t.phase t.input t.configuration.frame_max t.capacity t.channels t.committed fs item
    (while-open (writes t) (queued.next_item (flows t) t.outbox) is) h
  where
    while-open : (b : Bool) (o : Option Item) → (if b then o else None) ≡ Some item → o ≡ Some item
    while-open true o k = k
    while-open false o k = absurd cc
