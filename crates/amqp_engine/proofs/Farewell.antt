-- Once the server has said its last frame, the turn ends the session Closed.
use Rattle.std.proofs.Common.{◌≡◌, ◌⊎◌, inl, inr, ℕ, zero, suc, ◌-◌, ◌==◌, ◌&&◌, not, nat_lt, min, max, if◌then◌else◌, true, false, true≢false, [], ◌∷◌, ◌++◌, length, drop, Option, Some, None, is_some, refl, ap, sym, ◌∙◌, subst, arith}
use Rattle.std.proofs.lemmas.Bool.Decides.{nat_tests}
use Rattle.amqp_frame.specs.Frames.{encoding}
use Rattle.amqp_outbox.specs.declared.item.Item.{Item}
use Rattle.amqp_outbox.specs.Items.{plain_item, size_of}
use Rattle.amqp_outbox.specs.Queued.{Queued}
use Rattle.amqp_promise.specs.declared.error.ErrorKind.{ErrorKind}
use Rattle.amqp_outgoing.specs.declared.committed.Then.TheVariants.{Finish}
use Rattle.amqp_violations.specs.declared.server_close.ServerClose.TheVariants.{WithoutError}
use Rattle.amqp_rules.specs.declared.state.Link.{Link}
use Rattle.amqp_rules.specs.declared.state.Link.TheVariants.{Due, Wanted, Asked as AskedLink, Open, Ended}
use Rattle.amqp_settings.specs.Config.{Options}
use Rattle.amqp_rules.specs.Talk.{Talk, is_open, is_open_link, end_of_link, has_ended}
use Rattle.amqp_rules.specs.Changes.{present_at}
use Rattle.amqp_settings.specs.Handshake.{close_ok}
use Rattle.amqp_rules.specs.Writing.{frames_waiting, fitting, taken}
use Rattle.amqp_outgoing.specs.Marks.{mark_of}
use Rattle.amqp_rules.specs.Writing as writing
use Rattle.amqp_types.proofs.Small.{if_case, if-true, if-false, and-true, same-number, other-number, is-at-most}
use Rattle.amqp_rules.proofs.Keeping.{present-keeps}
use Rattle.amqp_faultless.proofs.Ordinary.{First}
use Rattle.amqp_faultless.proofs.Greeted.{IsOver, Leaves, Ready}
use Rattle.amqp_faultless.proofs.FirstAndLast.{leaves-next, finish-sent}
use Rattle.amqp_engine.specs.declared.port.Wrote.{Wrote}
use Rattle.amqp_engine.specs.declared.port.Wrote.TheVariants.{Took}
use Rattle.amqp_engine.specs.Log.{Log, log_write}
use Rattle.amqp_engine.specs.Engine.{Engine, fitting_next, committed_with_bytes, commits, commit_all, overlong_next, can_write, refuse_overlong, took}
use Rattle.amqp_engine.specs.Turn.{Notes, Progress, write_answers, goes, offered, offer_part, closing, is_all, drained, no_notes}
use Rattle.amqp_engine.specs.Play.{answer_noted, played_writes, offers_waiting}
use Rattle.amqp_engine.proofs.Settling.{settle-talk}
use Rattle.amqp_engine.proofs.Overlong.{closed-refuses}
use Rattle.amqp_engine.proofs.Draining.{IsFree, free-answer}
use Rattle.amqp_engine.proofs.Offering.{modest-fits}
use Rattle.amqp_engine.proofs.Voicing.{IsClear}
use Rattle.amqp_engine.proofs.OnReading.{Goodbye}

-- a session that has ended has no open link
over-shut : (t : Talk) → IsOver t → is_open t ≡ false
over-shut t h = by t.link (ap is_some h.over) where
  by : (l : Link ErrorKind) → is_some (end_of_link l) ≡ true → is_open_link l ≡ false
  by Open h = absurd (true≢false (sym h))
  by Wanted h = refl
  by AskedLink h = refl
  by (Due moment) h = refl
  by (Ended result) h = refl

-- nothing more is written then
shut-writes : (e : Engine) → is_open e.talk ≡ false → can_write e ≡ false
shut-writes e shut = ap (λ b. b && (not e.talk.blocked && (not (is_some (overlong_next e)) && nat_lt 0 (length (commit_all e).unsent)))) shut

over-closing : (p : Progress) → IsOver p.engine.talk → IsOver (closing p).engine.talk
over-closing p h =
    let P : Progress → Type 0 = λ q. IsOver q.engine.talk in
    let Q : Engine → Type 0 = λ x. IsOver x.talk in
    if_case P (goes p) (record p { engine = refuse_overlong p.engine }) p (subst Q (sym (closed-refuses p.engine (over-shut p.engine.talk h))) h) h

abbrev Ends : Notes → Progress → Type 0
Ends m p = IsOver (drained (write_answers m) p).engine.talk

-- the session has ended already
over-drained : (n : ℕ) (p : Progress) (a : Log) → IsOver p.engine.talk → Ends (played_writes n p a) p
over-drained zero p a h = over-closing p h
over-drained (suc n) p a h =
    let E : Notes → Type 0 = λ m. Ends m p in
    subst E (sym (if-false (can_write p.engine) _ no_notes (shut-writes p.engine (over-shut p.engine.talk h)))) (over-closing p h)

-- ---- our close-ok is sent

module _ (options : Options) (p : Progress) (bye : Goodbye options p) (h : Leaves p.engine.talk) where
  abbrev e : Engine
  e = p.engine

  abbrev last : Item
  last = plain_item 0 close_ok

  clear : IsClear e
  clear = bye.clear h.opened

  -- it is all that waits
  one-waits : frames_waiting e.talk ≡ 1
  one-waits = ap (λ (q : Queued). writing.frames_waiting (record e.talk { outbox = q })) h.only_close

  fits : fitting_next e ≡ Some last
  fits =
      let large = bye.modest.2 in
      let none = ap length clear.bytes in
      ap (fitting (e.talk.capacity - length e.unsent)) (leaves-next e.talk h)
      ∙ if-true _ (Some last) None (is-at-most (size_of last) (e.talk.capacity - length e.unsent) (omega (arith, large, none)))

  -- it is committed
  abbrev x : Engine
  x = commit_all e

  committed : x ≡ committed_with_bytes (Some last) e
  committed = ap (λ n. commits n e) one-waits ∙ ap (λ o. committed_with_bytes o e) fits

  unsent : x.unsent ≡ encoding close_ok
  unsent = ap (λ (y : Engine). y.unsent) committed ∙ ap (λ bytes. bytes ++ encoding close_ok) clear.bytes

  marks : x.talk.committed ≡ record { left = length (encoding close_ok); then = Finish } ∷ []
  marks =
      ap (λ (y : Engine). y.talk.committed) committed ∙ ap (λ (o : Option Item). (writing.committed_as o e.talk).committed) fits
      ∙ ap (λ ms. ms ++ mark_of last ∷ []) clear.marks

  -- what the end needs of a session
  abbrev Parts : Talk → Type 0
  Parts t = (is_open t ≡ true) × (t.server_close ≡ Some WithoutError) × First Ready t

  parts : Parts x.talk
  parts =
      let P : Talk → Type 0 = Parts in
      subst P (sym (ap (λ (y : Engine). y.talk) committed ∙ ap (λ (o : Option Item). writing.committed_as o e.talk) fits)) (h.opened, h.closed, h.first)

  -- and sent
  abbrev k : ℕ
  k = length (offered e)

  size : k ≡ length (encoding close_ok)
  size = ap length unsent

  sent-over : (at : ℕ) → IsOver (took at k x).talk
  sent-over at =
      let t : Talk = present_at at x.talk in
      let P : Talk → Type 0 = IsOver in
      let L : Talk → Type 0 = Parts in
      let told : Parts t = if_case L (has_ended x.talk) x.talk (record x.talk { present = max x.talk.present at }) parts parts in
      let same : t.committed ≡ x.talk.committed = present-keeps (λ y. y.committed) at x.talk (λ n. refl) in
      let M : ℕ → Type 0 = λ n. t.committed ≡ record { left = n; then = Finish } ∷ [] in
      subst P (sym (settle-talk (record x { talk = taken k t; unsent = drop k x.unsent })))
      (finish-sent t k told.0 told.1 told.2 (ap not (other-number k 0 (λ none. absurd (omega (arith, none, size))))) (subst M (sym size) (same ∙ marks)))

  writes : can_write e ≡ true
  writes =
      let short = modest-fits options e bye.modest in
      let some : nat_lt 0 k ≡ true = grind (arith, nat_tests, size) in
      and-true (is_open e.talk) _ h.opened
      (and-true (not e.talk.blocked) _ (ap not h.blocked) (and-true (not (is_some (overlong_next e))) (nat_lt 0 k) (ap (λ o. not (is_some o)) short) some))

  pub leaves-drained : (n : ℕ) (a : Log) → IsFree a.plan → Ends (played_writes (suc n) p a) p
  leaves-drained n a free =
      let w : Wrote = Took k in
      let next : Notes = played_writes n (offer_part w p) (log_write (offered e) w a) in
      let E : Notes → Type 0 = λ m. Ends m p in
      let Q : Wrote → Type 0 = λ y. Ends (answer_noted y (if is_all y k then played_writes n (offer_part y p) (log_write (offered e) y a) else no_notes)) p in
      let N : Notes → Type 0 = λ m. Ends (answer_noted w m) p in
      let O : Progress → Type 0 = λ q. IsOver q.engine.talk in
      let whole : (k == k) ≡ true = same-number k in
      let here : Ends (answer_noted w next) p =
      subst O (sym (if-true (k == k) (drained (write_answers next) (offer_part w p)) (offer_part w p) whole))
      (over-drained n (offer_part w p) (log_write (offered e) w a) (sent-over p.at)) in
      subst E (sym (if-true (can_write e) _ no_notes writes))
      (subst Q (sym (free-answer e a free)) (subst N (sym (if-true (k == k) next no_notes whole)) here))

-- the turn ends the session
pub farewell : (options : Options) (p : Progress) (a : Log) → Goodbye options p → IsFree a.plan → IsOver p.engine.talk ⊎ Leaves p.engine.talk
    → IsOver (drained (write_answers (played_writes (offers_waiting p.engine) p a)) p).engine.talk
farewell options p a bye free (inl over) = over-drained (offers_waiting p.engine) p a over
farewell options p a bye free (inr leaves) =
    let E : ℕ → Type 0 = λ n. Ends (played_writes n p a) p in
    let some : offers_waiting p.engine ≡ suc (min 1 (length p.engine.unsent)) = (let one = one-waits options p bye leaves in omega (arith, one)) in
    subst E (sym some) (leaves-drained options p bye leaves (min 1 (length p.engine.unsent)) a free)
