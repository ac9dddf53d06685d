-- The notes of a turn that is played, and what holds while it is written.
use Rattle.std.proofs.Common.{◌≡◌, ◌≤◌, ℕ, List, [], ◌∷◌, length, drop, Option, None, refl, ap, sym, ◌∙◌, subst, arith}
use Rattle.std.proofs.lemmas.List.{map-append, take-take}
use Rattle.amqp_frame.specs.declared.frame.Frame.{Frame}
use Rattle.amqp_outbox.specs.declared.item.Item.{Item}
use Rattle.amqp_auth.specs.declared.asked.Asked.{Asked}
use Rattle.amqp_settings.specs.Config.{Options}
use Rattle.amqp_rules.specs.Sound.{IsSound}
use Rattle.amqp_rules.specs.Talk.{Talk}
use Rattle.amqp_rules.specs.Changes.{present_at}
use Rattle.amqp_rules.specs.Writing.{taken}
use Rattle.amqp_faultless.specs.Faultless.{Server, said_to}
use Rattle.amqp_faultless.proofs.Greeted.{IsMet}
use Rattle.amqp_faultless.proofs.Speaks.{said-keeps, said_all}
use Rattle.amqp_faultless.proofs.Modest.{Modest}
use Rattle.amqp_faultless.proofs.Clock.{IsClock}
use Rattle.amqp_faultless.proofs.Tuned.{Tuned}
use Rattle.amqp_engine.specs.declared.port.Wrote.{Wrote}
use Rattle.amqp_engine.specs.declared.port.Wrote.TheVariants.{Took}
use Rattle.amqp_engine.specs.Plan.{Coming}
use Rattle.amqp_engine.specs.Log.{Log}
use Rattle.amqp_engine.specs.Engine.{Engine, commit_all, overlong_next, took}
use Rattle.amqp_engine.specs.Turn.{Progress, write_answers, asks, read, drained}
use Rattle.amqp_engine.specs.Tell.{log_stepped}
use Rattle.amqp_engine.specs.Sending.{Sending, committed_before, frames, offer_sending}
use Rattle.amqp_engine.specs.Play.{offers_waiting, played_writes, told_turn, played_turn_of}
use Rattle.amqp_engine.proofs.FirstAnswers.{with_answers, read_with, read-first}
use Rattle.amqp_engine.proofs.Playing.{played-any, whole-played}
use Rattle.amqp_engine.proofs.Settling.{settle-talk}
use Rattle.amqp_engine.proofs.Follows.{met-unread}
use Rattle.amqp_engine.proofs.Offering.{modest-fits, modest-kept}
use Rattle.amqp_engine.proofs.Goes.{sound-offer}
use Rattle.amqp_engine.proofs.Draining.{IsFree}
use Rattle.amqp_engine.proofs.Voicing.{IsClear}
use Rattle.amqp_engine.proofs.Drained.{Drained, drained-all}
use Rattle.amqp_engine.proofs.Clocks.{clock-offer}
use Rattle.amqp_engine.proofs.TunedWrites.{tuned-offer}
use Rattle.amqp_engine.proofs.CameRead.{commit-unread}

-- ---- the notes of a turn that is played

-- a turn goes by the answers that it took as by all
reads-of : (c : Coming) (answers : List Asked) (e : Engine) (a : Log)
    → read (played_turn_of c answers e a) (asks e)
    ≡ with_answers (drop (length (read (told_turn c answers) (asks e)).questions) (played_turn_of c answers e a).notes.auths) (read (told_turn c answers) (asks e))
reads-of c answers e a =
    let u = played_turn_of c answers e a in
    let q = read (told_turn c answers) (asks e) in
    let n = length q.questions in
    ap (λ (x : Option ℕ). read_with u.at x u.step u.bytes u.notes.auths (asks e)) (whole-played (offers_waiting q.engine) q (log_stepped u e a))
    ∙ read-first u.at None u.step u.bytes answers u.notes.auths (asks e) (sym (take-take n n answers (omega arith)))

-- its writes are those that are played from there
pub writes-of : (c : Coming) (answers : List Asked) (e : Engine) (a : Log)
    → write_answers (played_turn_of c answers e a).notes
    ≡ write_answers
    (played_writes (offers_waiting (read (played_turn_of c answers e a) (asks e)).engine) (read (played_turn_of c answers e a) (asks e)) (log_stepped (played_turn_of c answers e a) e a))
writes-of c answers e a =
    let u = played_turn_of c answers e a in
    let q = read (told_turn c answers) (asks e) in
    let b = log_stepped u e a in
    ap write_answers (sym (played-any (offers_waiting q.engine) (drop (length q.questions) u.notes.auths) q b))
    ∙ ap (λ (x : Progress). write_answers (played_writes (offers_waiting x.engine) x b)) (sym (reads-of c answers e a))

-- ---- what holds while it is written

-- what is said leaves the server's stage
pub said-stage : (items : List Item) (s : Server) → (said_all items s).stage ≡ s.stage
said-stage [] s = refl
said-stage (i ∷ items) s = said-stage items (said_to i.frame s) ∙ (said-keeps i.frame s).0

module _ (options : Options) (moment last : ℕ) (unread : List ℕ) where
  -- nothing that waits is too long, the clock goes right, what was agreed was said, and nothing is read
  abbrev pub Writes : Server → Sending → Engine → Type 0
  Writes s x e = Modest options e.talk × IsClock moment last e.talk × Tuned (frames x.committed) s e.talk × (e.unread ≡ unread)

  pub writes-fit : (s : Server) (x : Sending) (e : Engine) → Writes s x e → overlong_next e ≡ None
  writes-fit s x e h = modest-fits options e h.0

  took-unread : (at k : ℕ) (s : Server) (e : Engine) → IsMet s (took at k (commit_all e)).talk → (took at k (commit_all e)).unread ≡ e.unread
  took-unread at k s e m =
      let x : Engine = commit_all e in
      let z : Engine = record x { talk = taken k (present_at at x.talk); unsent = drop k x.unsent } in
      let M : Talk → Type 0 = IsMet s in
      met-unread s z (subst M (settle-talk z) m) ∙ commit-unread e

  pub writes-kept : (at k : ℕ) (s : Server) (x : Sending) (e : Engine) → at ≤ moment → IsSound e.talk → IsMet s e.talk → Writes s x e
      → Writes (said_all (committed_before e) s) (offer_sending (Took k) e x) (took at k (commit_all e))
  writes-kept at k s x e early sound m h =
      let items = committed_before e in
      let T : List Frame → Type 0 = λ fs. Tuned fs (said_all items s) (took at k (commit_all e)).talk in (
        modest-kept options at k e h.0,
        clock-offer moment last at k e early h.1,
        subst T (sym (map-append (λ (i : Item). i.frame) x.committed items)) (tuned-offer at k (frames x.committed) s e sound m h.2),
        took-unread at k (said_all items s) e (sound-offer at k s e sound m).0 ∙ h.3,
      )

  abbrev pub IsWritten : Progress → Progress → Server → List Wrote → List Sending → Sending → Type 0
  IsWritten p q s ws xs x = Drained Writes moment writes-fit writes-kept p q s ws xs x

  -- the writes of a turn
  pub is-written : (xs : List Sending) (n : ℕ) (p : Progress) (a : Log) (s : Server) (x : Sending) → p.at ≤ moment → IsFree a.plan → IsSound p.engine.talk
      → Writes s x p.engine → IsClear p.engine → x.sent ≡ length x.committed → IsMet s p.engine.talk
      → IsWritten p (drained (write_answers (played_writes n p a)) p) s (write_answers (played_writes n p a)) xs x
  is-written xs n p a s x early free sound h clear all m =
      drained-all Writes moment writes-fit writes-kept xs n p a s x early free sound h clear all m
