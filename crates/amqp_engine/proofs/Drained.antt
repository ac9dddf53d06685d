-- The writes of a turn over a port that takes all: what they leave, and what they send.
use Rattle.std.proofs.Common.{◌≡◌, ◌≤◌, ℕ, zero, suc, ◌==◌, if◌then◌else◌, true, List, [], ◌∷◌, ◌++◌, length, take, drop, length-append, ◌-◌, slice_get, arith, append_assoc, Some, None, refl, ap, sym, ◌∙◌, subst, append-nil}
use Rattle.std.specs.Prelude.{map}
use Rattle.std.proofs.lemmas.List.{take_all}
use Rattle.std.proofs.Math.Seq.{drop-append_seam}
use Rattle.amqp_outbox.specs.declared.item.Item.{Item}
use Rattle.amqp_rules.specs.Sound.{IsSound}
use Rattle.amqp_faultless.specs.Faultless.{Server}
use Rattle.amqp_types.proofs.Small.{if_case, if-true, same-number}
use Rattle.amqp_faultless.proofs.Greeted.{IsMet}
use Rattle.amqp_faultless.proofs.Speaks.{said_all, said_all-append}
use Rattle.amqp_engine.specs.declared.port.Wrote.{Wrote}
use Rattle.amqp_engine.specs.declared.port.Wrote.TheVariants.{Took}
use Rattle.amqp_engine.specs.Log.{Log, log_write}
use Rattle.amqp_engine.specs.Engine.{Engine, commit_all, overlong_next, ended_overlong, refuse_overlong, can_write, took}
use Rattle.amqp_engine.specs.Turn.{Notes, Progress, write_answers, goes, offered, offer_part, closing, is_all, drained, no_notes}
use Rattle.amqp_engine.specs.Sending.{Sending, items_sent, committed_before, offer_sending, offers_sending}
use Rattle.amqp_engine.specs.Play.{answer_noted, played_writes}
use Rattle.amqp_engine.specs.SentWhole.{sending_or, last_sending}
use Rattle.amqp_engine.proofs.Sent.{on_last-append}
use Rattle.amqp_engine.proofs.Goes.{sound-offer}
use Rattle.amqp_engine.proofs.Draining.{IsFree, free-write, free-answer, said_in}
use Rattle.amqp_engine.proofs.Voicing.{IsClear, clear-offer, offer-sends}

module _ (Short : Server → Sending → Engine → Type 0) (moment : ℕ) (fits : (s : Server) (x : Sending) (e : Engine) → Short s x e → overlong_next e ≡ None)
    (kept : (at k : ℕ) (s : Server) (x : Sending) (e : Engine) → at ≤ moment → IsSound e.talk → IsMet s e.talk → Short s x e
    → Short (said_all (committed_before e) s) (offer_sending (Took k) e x) (took at k (commit_all e))) where
  -- the session is met, nothing is left unsent, and what was committed was sent
  pub record Drained (p q : Progress) (s : Server) (ws : List Wrote) (xs : List Sending) (x : Sending) : Type 0 where
    pub met : IsMet (said_all (said_in ws p) s) q.engine.talk
    pub sound : IsSound q.engine.talk
    pub clear : IsClear q.engine
    pub sending : Sending
    pub sent : offers_sending ws p (xs ++ x ∷ []) ≡ xs ++ sending ∷ []
    pub all : sending.sent ≡ length sending.committed
    pub items : sending.committed ≡ x.committed ++ said_in ws p
    pub short : Short (said_all (said_in ws p) s) sending q.engine

  closing-same : (p : Progress) (s : Server) (x : Sending) → Short s x p.engine → (closing p).engine ≡ p.engine
  closing-same p s x short =
      if_case (λ (q : Progress). q.engine ≡ p.engine) (goes p) (record p { engine = refuse_overlong p.engine }) p
      (ap (λ o. ended_overlong o p.engine) (fits s x p.engine short)) refl

  module _ (xs : List Sending) where
    abbrev Drains : Progress → Server → Sending → Notes → Type 0
    Drains p s x m = Drained p (drained (write_answers m) p) s (write_answers m) xs x

    nothing-more : (p : Progress) (s : Server) (x : Sending) → IsSound p.engine.talk → Short s x p.engine → IsClear p.engine → x.sent ≡ length x.committed → IsMet s p.engine.talk
        → Drains p s x no_notes
    nothing-more p s x sound short clear all m =
        let same = closing-same p s x short in
        let P : Engine → Type 0 = λ e. IsMet s e.talk in
        let Q : Engine → Type 0 = λ e. IsSound e.talk in
        let S : Engine → Type 0 = Short s x in
        record {
          met = subst P (sym same) m;
          sound = subst Q (sym same) sound;
          short = subst S (sym same) short;
          clear = subst IsClear (sym same) clear;
          sending = x;
          sent = refl;
          all = all;
          items = sym (append-nil x.committed);
        }

    pub drained-all : (n : ℕ) (p : Progress) (a : Log) (s : Server) (x : Sending) → p.at ≤ moment → IsFree a.plan → IsSound p.engine.talk → Short s x p.engine → IsClear p.engine
        → x.sent ≡ length x.committed → IsMet s p.engine.talk → Drains p s x (played_writes n p a)
    drained-all zero p a s x early free sound short clear all m = nothing-more p s x sound short clear all m
    drained-all (suc n) p a s x early free sound short clear all m =
        let k = length (offered p.engine) in
        let w : Wrote = Took k in
        let p' : Progress = offer_part w p in
        let items = committed_before p.engine in
        let next : Notes = played_writes n p' (log_write (offered p.engine) w a) in
        let Q : Wrote → Type 0 = λ y.
        Drains p s x
        (if can_write p.engine
        then answer_noted y (if is_all y k then played_writes n (offer_part y p) (log_write (offered p.engine) y a) else no_notes)
        else no_notes) in
        let whole : (k == k) ≡ true = same-number k in
        let D : Notes → Type 0 = Drains p s x in
        let N : Notes → Type 0 = λ y. Drains p s x (answer_noted w y) in
        let sent = sound-offer p.at k s p.engine sound m in
        let x' : Sending = offer_sending w p.engine x in
        let rest = drained-all n p' (log_write (offered p.engine) w a) (said_all items s) x' early (free-write (offered p.engine) k a free) sent.1
        (kept p.at k s x p.engine early sound m short) (clear-offer p.at s p.engine clear sound m) (offer-sends p.engine x clear all) sent.0 in
        let S : Server → Type 0 = λ y. IsMet y (drained (write_answers next) p').engine.talk in
        let H : Server → Type 0 = λ y. Short y rest.sending (drained (write_answers next) p').engine in
        let E : Progress → Type 0 = λ y. Drained p y s (Took k ∷ write_answers next) xs x in
        let joined = said_all-append items (said_in (write_answers next) p') s in
        let here : Drains p s x (answer_noted w next) =
        subst E (sym (if-true (k == k) (drained (write_answers next) p') p' whole))
        (record {
          met = subst S (sym joined) rest.met;
          sound = rest.sound;
          clear = rest.clear;
          sending = rest.sending;
          sent = ap (offers_sending (write_answers next) p') (on_last-append (offer_sending w p.engine) xs x) ∙ rest.sent;
          all = rest.all;
          items = rest.items ∙ append_assoc x.committed items (said_in (write_answers next) p');
          short = subst H (sym joined) rest.short;
        }) in
        subst Q (sym (free-answer p.engine a free))
        (if_case D (can_write p.engine) (answer_noted w (if k == k then next else no_notes)) no_notes (subst N (sym (if-true (k == k) next no_notes whole)) here)
        (nothing-more p s x sound short clear all m))

-- ---- what a turn says

last-append : (xs : List Sending) (x : Sending) → last_sending (xs ++ x ∷ []) ≡ x
last-append xs x =
    let ys = xs ++ x ∷ [] in
    let place : length ys - 1 ≡ length xs = omega (arith, length-append xs (x ∷ [])) in
    ap (λ n. sending_or (slice_get ys n)) place ∙ ap sending_or (get-last xs x)
  where
    get-last : (xs : List Sending) (x : Sending) → slice_get (xs ++ x ∷ []) (length xs) ≡ Some x
    get-last [] x = refl
    get-last (y ∷ xs) x = get-last xs x

items-whole : (x : Sending) → x.sent ≡ length x.committed → items_sent x ≡ x.committed
items-whole x all = ap (λ n. take n x.committed) all ∙ take_all (length x.committed) x.committed (omega arith)

-- the frames of what was committed, where all was sent before and after
pub said-frames : (before after : List Sending) (xs : List Sending) (x y : Sending) (items : List Item) → before ≡ xs ++ x ∷ [] → after ≡ xs ++ y ∷ []
    → x.sent ≡ length x.committed → y.sent ≡ length y.committed → y.committed ≡ x.committed ++ items
    → map (λ (i : Item). i.frame) (drop (last_sending before).sent (items_sent (last_sending after))) ≡ map (λ (i : Item). i.frame) items
said-frames before after xs x y items hb ha all_x all_y more =
    let b : last_sending before ≡ x = ap last_sending hb ∙ last-append xs x in
    let a : last_sending after ≡ y = ap last_sending ha ∙ last-append xs y in
    let count : (last_sending before).sent ≡ length x.committed = ap (λ (z : Sending). z.sent) b ∙ all_x in
    let whole : items_sent (last_sending after) ≡ x.committed ++ items = ap items_sent a ∙ items-whole y all_y ∙ more in
    ap (λ n. map (λ (i : Item). i.frame) (drop n (items_sent (last_sending after)))) count
    ∙ ap (λ zs. map (λ (i : Item). i.frame) (drop (length x.committed) zs)) whole
    ∙ ap (λ zs. map (λ (i : Item). i.frame) zs) (drop-append_seam x.committed items)
