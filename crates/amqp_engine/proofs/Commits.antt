-- Committing frames one by one.
use Rattle.std.proofs.Common.{◌≡◌, ◌≤◌, ◌<◌, ℕ, zero, suc, ◌-◌, ◌++◌, List, [], ◌∷◌, length, Option, Some, None, is_some, true, refl, ap, sym, ◌∙◌, arith, length-append}
use Rattle.amqp_frame.specs.declared.frame.Frame.{Frame}
use Rattle.amqp_frame.specs.declared.frame.Frame.TheVariants.{ProtocolHeader, Method, Raw, Heartbeat}
use Rattle.amqp_frame.specs.Frames.{encoding}
use Rattle.amqp_outbox.specs.declared.item.Item.{Item}
use Rattle.amqp_outbox.specs.Queued.{Queued, waiting_items, after_next}
use Rattle.amqp_outgoing.specs.declared.committed.Mark.{Mark}
use Rattle.amqp_rules.specs.Writing as writing
use Rattle.amqp_rules.specs.Writing.{flows, frames_waiting}
use Rattle.amqp_outgoing.specs.Marks.{mark_of}
use Rattle.amqp_rules.proofs.Finishing.{next-first}
use Rattle.amqp_engine.specs.Engine.{Engine, commit_one, committed_with_bytes, commits, fitting_next}
use Rattle.amqp_engine.specs.Play.{offers_waiting}

-- where no frame fits, nothing more is committed
pub commits-rest : (n : ℕ) (e : Engine) → fitting_next e ≡ None → commits n e ≡ e
commits-rest zero e h = refl
commits-rest (suc n) e h =
    let same : commit_one e ≡ e = ap (λ o. committed_with_bytes o e) h in
    ap (commits n) same ∙ commits-rest n e h

-- each frame has bytes
pub encoding-some : (f : Frame) → 0 < length (encoding f)
encoding-some (ProtocolHeader v) = omega arith
encoding-some (Method channel m) = omega arith
encoding-some (Raw channel kind payload) = omega arith
encoding-some Heartbeat = omega arith

-- where nothing is unsent afterwards, nothing was committed
pub committed-none : (o : Option Item) (e : Engine) → length (committed_with_bytes o e).unsent ≡ 0 → committed_with_bytes o e ≡ e
committed-none None e h = refl
committed-none (Some item) e h = absurd (omega (arith, encoding-some item.frame, length-append e.unsent (encoding item.frame)))

pub commits-none : (n : ℕ) (e : Engine) → length (commits n e).unsent ≡ 0 → commits n e ≡ e
commits-none zero e h = refl
commits-none (suc n) e h =
    let later : commits n (commit_one e) ≡ commit_one e = commits-none n (commit_one e) h in
    let none : length (commit_one e).unsent ≡ 0 = sym (ap (λ (x : Engine). length x.unsent) later) ∙ h in
    later ∙ committed-none (fitting_next e) e none

-- what committing a frame does
abbrev pub with_frame : Option Item → Engine → Engine
with_frame None e = e
with_frame (Some item) e =
    record e {
      talk = record e.talk { outbox = after_next (flows e.talk) e.talk.outbox; committed = e.talk.committed ++ mark_of item ∷ [] };
      unsent = e.unsent ++ encoding item.frame;
    }

committed_as-is : (o : Option Item) (e : Engine) → fitting_next e ≡ o → committed_with_bytes o e ≡ with_frame o e
committed_as-is None e h = refl
committed_as-is (Some item) e h =
    ap (λ (x : Option Item). record e { talk = writing.committed_as x e.talk; unsent = e.unsent ++ encoding item.frame }) h

pub commit_one-is : (e : Engine) → commit_one e ≡ with_frame (fitting_next e) e
commit_one-is e = committed_as-is (fitting_next e) e refl

-- what is neither queued nor committed nor unsent stays
with_frame-keeps : {A : Type 0} (f : Engine → A)
    → ((e : Engine) (q : Queued) (ms : List Mark) (bytes : List ℕ)
    → f (record e { talk = record e.talk { outbox = q; committed = ms }; unsent = bytes }) ≡ f e)
    → (o : Option Item) (e : Engine) → f (with_frame o e) ≡ f e
with_frame-keeps f h None e = refl
with_frame-keeps f h (Some x) e = h e _ _ _

pub commits-keep : {A : Type 0} (f : Engine → A)
    → ((e : Engine) (q : Queued) (ms : List Mark) (bytes : List ℕ)
    → f (record e { talk = record e.talk { outbox = q; committed = ms }; unsent = bytes }) ≡ f e)
    → (n : ℕ) (e : Engine) → f (commits n e) ≡ f e
commits-keep f h zero e = refl
commits-keep f h (suc n) e =
    commits-keep f h n (commit_one e) ∙ ap f (commit_one-is e) ∙ with_frame-keeps f h (fitting_next e) e

-- where a frame fits, it is the first of those that are committed
pub commits-first : (e : Engine) (item : Item) → fitting_next e ≡ Some item
    → commits (frames_waiting (commit_one e).talk) (commit_one e) ≡ commits (frames_waiting e.talk) e
commits-first e item h =
    let q' : Queued = after_next (flows e.talk) e.talk.outbox in
    let waits : frames_waiting e.talk ≡ suc (length (waiting_items q')) =
    ap length (next-first (e.talk.capacity - length e.unsent) e.talk item h) in
    let one : commit_one e ≡ with_frame (Some item) e = commit_one-is e ∙ ap (λ o. with_frame o e) h in
    let left : frames_waiting (commit_one e).talk ≡ length (waiting_items q') = ap (λ (x : Engine). frames_waiting x.talk) one in
    ap (λ (n : ℕ). commits n (commit_one e)) left ∙ sym (ap (λ (n : ℕ). commits n e) waits)

pub some-fits : (o : Option Item) → is_some o ≡ true → (item : Item) × (o ≡ Some item)
some-fits None h = absurd cc
some-fits (Some item) h = (item, refl)

-- a committed frame was the first of those that waited
waiting-with_frame : (o : Option Item) (e : Engine) → fitting_next e ≡ o → offers_waiting (with_frame o e) ≤ offers_waiting e
waiting-with_frame None e h = omega arith
waiting-with_frame (Some f) e h =
    let q' : Queued = after_next (flows e.talk) e.talk.outbox in
    let waits : length (waiting_items e.talk.outbox) ≡ suc (length (waiting_items q')) =
    ap length (next-first (e.talk.capacity - length e.unsent) e.talk f h) in
    omega (arith, waits)

pub waiting-commits : (n : ℕ) (e : Engine) → offers_waiting (commits n e) ≤ offers_waiting e
waiting-commits zero e = omega arith
waiting-commits (suc n) e =
    omega (arith, waiting-commits n (commit_one e), waiting-with_frame (fitting_next e) e refl, ap offers_waiting (commit_one-is e))
