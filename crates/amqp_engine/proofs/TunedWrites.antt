-- The first tune-ok that was said carries the numbers that are agreed; and all that may go out leaves it so.
use Rattle.std.proofs.Common.{◌≡◌, ℕ, zero, suc, ◌-◌, List, [], ◌∷◌, ◌++◌, length, drop, append_assoc, Option, Some, None, refl, ap, sym, ◌∙◌, subst, append-nil}
use Rattle.std.specs.Prelude.{option_to_list}
use Rattle.std.proofs.lemmas.List.{map-append}
use Rattle.amqp_frame.specs.declared.frame.Frame.{Frame}
use Rattle.amqp_frame.specs.declared.frame.Frame.TheVariants.{Method}
use Rattle.amqp_frame.specs.declared.method.Method.TheVariants.{TuneOk}
use Rattle.amqp_outbox.specs.declared.item.Item.{Item}
use Rattle.amqp_outgoing.specs.declared.committed.Mark.{Mark}
use Rattle.amqp_rules.specs.Talk.{Talk}
use Rattle.amqp_rules.specs.Changes.{present_at}
use Rattle.amqp_rules.specs.Sound.{IsSound}
use Rattle.amqp_rules.specs.Writing.{next_out, frames_waiting, taken, committed_as as committed_in_session}
use Rattle.amqp_faultless.specs.Faultless.{Server, said_to}
use Rattle.amqp_rules.proofs.Keeping.{present-keeps}
use Rattle.amqp_faultless.proofs.Greeted.{IsMet}
use Rattle.amqp_faultless.proofs.Speaks.{GoOn, said_all, said_all-append}
use Rattle.amqp_faultless.proofs.Tuned.{first_tune, Tuned}
use Rattle.amqp_faultless.proofs.TunedRules.{tuned-commit, tuned-present, tuned-taken}
use Rattle.amqp_engine.specs.Engine.{Engine, fitting_next, committed_with_bytes, commit_one, commits, commit_all, took}
use Rattle.amqp_engine.specs.Sending.{frames, committed_in, committed_before}
use Rattle.amqp_engine.specs.Valid.{agreed_heartbeat, agreed_frame_max}
use Rattle.amqp_engine.proofs.Settling.{settle-talk}
use Rattle.amqp_engine.proofs.SpeaksAll.{met-commits, met-commit-all}
use Rattle.amqp_engine.proofs.Goes.{sound-goes, sound-commit-all}
use Rattle.amqp_rules.proofs.Finishing.{fitting-some}

-- ---- the numbers that are agreed

some-pair : (x y : ℕ × ℕ) → Some x ≡ Some y → x ≡ y
some-pair x y h = cc

-- they are those that are agreed
pub first-frame_max : (fs more : List Frame) (m h : ℕ) → first_tune fs ≡ Some (m, h) → agreed_frame_max (fs ++ more) ≡ m
first-frame_max [] more m h is = absurd cc
first-frame_max (Method n (TuneOk a b c) ∷ fs) more m h is = ap (λ (x : ℕ × ℕ). x.0) (some-pair (b, c) (m, h) is)
first-frame_max (f ∷ fs) more m h is = first-frame_max fs more m h is

pub first-heartbeat : (fs more : List Frame) (m h : ℕ) → first_tune fs ≡ Some (m, h) → agreed_heartbeat (fs ++ more) ≡ Some h
first-heartbeat [] more m h is = absurd cc
first-heartbeat (Method n (TuneOk a b c) ∷ fs) more m h is = ap (λ (x : ℕ × ℕ). Some x.1) (some-pair (b, c) (m, h) is)
first-heartbeat (f ∷ fs) more m h is = first-heartbeat fs more m h is

-- ---- what is written

tuned-commit-one : (fs : List Frame) (s : Server) (e : Engine) → IsMet s e.talk → Tuned fs s e.talk
    → Tuned (fs ++ frames (option_to_list (fitting_next e))) (said_all (option_to_list (fitting_next e)) s) (commit_one e).talk
tuned-commit-one fs s e m h = by (fitting_next e) refl where
  by : (x : Option Item) → fitting_next e ≡ x → Tuned (fs ++ frames (option_to_list x)) (said_all (option_to_list x) s) (committed_with_bytes x e).talk
  by None is = let P : List Frame → Type 0 = λ x. Tuned x s e.talk in subst P (sym (append-nil fs)) h
  by (Some i) is =
      let P : Option Item → Type 0 = λ x. Tuned (fs ++ i.frame ∷ []) (said_to i.frame s) (committed_in_session x e.talk) in
      subst P (sym is) (tuned-commit fs s e.talk i (fitting-some (e.talk.capacity - length e.unsent) (next_out e.talk) i is) m h)

met-one : (s : Server) (e : Engine) → IsMet s e.talk → IsMet (said_all (option_to_list (fitting_next e)) s) (commit_one e).talk
met-one s e m =
    let P : List Item → Type 0 = λ x. IsMet (said_all x s) (commit_one e).talk in
    subst P (append-nil (option_to_list (fitting_next e))) (met-commits 1 e s m)

tuned-commits : (n : ℕ) (fs : List Frame) (s : Server) (e : Engine) → IsMet s e.talk → Tuned fs s e.talk
    → Tuned (fs ++ frames (committed_in n e)) (said_all (committed_in n e) s) (commits n e).talk
tuned-commits zero fs s e m h = let P : List Frame → Type 0 = λ x. Tuned x s e.talk in subst P (sym (append-nil fs)) h
tuned-commits (suc n) fs s e m h =
    let items = option_to_list (fitting_next e) in
    let next = commit_one e in
    let later = committed_in n next in
    let u : Talk = (commits n next).talk in
    let joined : (fs ++ frames items) ++ frames later ≡ fs ++ frames (items ++ later) =
    append_assoc fs (frames items) (frames later) ∙ ap (λ xs. fs ++ xs) (sym (map-append (λ (i : Item). i.frame) items later)) in
    let P : List Frame → Type 0 = λ x. Tuned x (said_all (items ++ later) s) u in
    let Q : Server → Type 0 = λ x. Tuned ((fs ++ frames items) ++ frames later) x u in
    subst P joined
    (subst Q (sym (said_all-append items later s))
    (tuned-commits n (fs ++ frames items) (said_all items s) next (met-one s e m) (tuned-commit-one fs s e m h)))

-- all that may go out is committed and taken: then it is said
pub tuned-offer : (at k : ℕ) (fs : List Frame) (s : Server) (e : Engine) → IsSound e.talk → IsMet s e.talk → Tuned fs s e.talk
    → Tuned (fs ++ frames (committed_before e)) (said_all (committed_before e) s) (took at k (commit_all e)).talk
tuned-offer at k fs s e sound m h =
    let x : Engine = commit_all e in
    let all = fs ++ frames (committed_before e) in
    let s' : Server = said_all (committed_before e) s in
    let now : Talk = present_at at x.talk in
    let P : Talk → Type 0 = Tuned all s' in
    let G : List Mark → Type 0 = GoOn in
    let goes : GoOn x.talk.committed = sound-goes x.talk (sound-commit-all e sound) (met-commit-all e s m).acting in
    let same : now.committed ≡ x.talk.committed = present-keeps (λ t. t.committed) at x.talk (λ n. refl) in
    subst P (sym (settle-talk (record x { talk = taken k now; unsent = drop k x.unsent })))
    (tuned-taken k all s' now (subst G (sym same) goes) (tuned-present at all s' x.talk (tuned-commits (frames_waiting e.talk) fs s e m h)))
