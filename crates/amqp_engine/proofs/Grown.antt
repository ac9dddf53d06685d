-- Turns one after another send more and more: what was sent is sent, whatever comes after.
use Rattle.std.proofs.Common.{◌≡◌, ◌⊎◌, inl, inr, ℕ, zero, suc, ◌+◌, List, [], ◌∷◌, ◌++◌, take, refl, ap, sym, ◌∙◌, arith, append_assoc, append-nil}
use Rattle.std.specs.List.{flat_map}
use Rattle.std.proofs.lemmas.List.{map-append}
use Rattle.std.proofs.lemmas.List.Concat.{flat_map-append}
use Rattle.amqp_frame.specs.declared.frame.Frame.{Frame}
use Rattle.amqp_outbox.specs.declared.item.Item.{Item}
use Rattle.amqp_rules.specs.Talk.{Talk, is_asked}
use Rattle.amqp_types.proofs.Small.{if_case}
use Rattle.amqp_engine.specs.declared.port.Step.{Step}
use Rattle.amqp_engine.specs.declared.port.Step.TheVariants.{Linked, LinkFailed, Piece, End, Fault, Room, Tick, Command}
use Rattle.amqp_engine.specs.declared.port.Wrote.{Wrote}
use Rattle.amqp_engine.specs.Log.{on_last}
use Rattle.amqp_engine.specs.Engine.{Engine, begin, commit_all, taken_by}
use Rattle.amqp_engine.specs.Turn.{Turn, write_answers, Progress, asks, offer_part, read, turn, turns}
use Rattle.amqp_engine.specs.Sending.{Sending, nothing_sent, frames, frames_sent, committed_before, sent_in, offer_sending, offers_sending, step_sending, turn_sending, sendings_from, sendings}
use Rattle.amqp_engine.proofs.Sent.{on_last-append}

-- ---- one after another

sendings-from-joined : (us vs : List Turn) (e : Engine) (ss : List Sending) → sendings_from (us ++ vs) e ss ≡ sendings_from vs (turns us e) (sendings_from us e ss)
sendings-from-joined [] vs e ss = refl
sendings-from-joined (u ∷ us) vs e ss = sendings-from-joined us vs (turn u e) (turn_sending u e ss)

-- and what they send
pub sendings-joined : (t : Talk) (us vs : List Turn) → sendings t (us ++ vs) ≡ sendings_from vs (turns us (begin t)) (sendings t us)
sendings-joined t us vs = sendings-from-joined us vs (begin t) []

-- ---- more is sent

-- these frames, and more
abbrev More : List Frame → List Frame → Type 0
More fs gs = (more : List Frame) × (gs ≡ fs ++ more)

more-none : (fs : List Frame) → More fs fs
more-none fs = ([], sym (append-nil fs))

more-more : (fs gs hs : List Frame) → More fs gs → More gs hs → More fs hs
more-more fs gs hs h k = (h.0 ++ k.0, k.1 ∙ ap (λ xs. xs ++ k.0) h.1 ∙ append_assoc fs h.0 k.0)

-- of some items and more, a greater number is taken
take-grow : (n k : ℕ) (xs ys : List Item) → (more : List Item) × (take (n + k) (xs ++ ys) ≡ take n xs ++ more)
take-grow zero k xs ys = (take (0 + k) (xs ++ ys), refl)
take-grow (suc n) k [] ys = (take (suc n + k) ys, refl)
take-grow (suc n) k (x ∷ xs) ys =
    let rest = take-grow n k xs ys in
    let next : suc n + k ≡ suc (n + k) = omega arith in
    (rest.0, ap (λ (m : ℕ). take m (x ∷ (xs ++ ys))) next ∙ ap (λ (zs : List Item). x ∷ zs) rest.1)

-- an offer is made and answered
more-offer : (w : Wrote) (e : Engine) (s : Sending) → More (frames_sent s) (frames_sent (offer_sending w e s))
more-offer w e s =
    let rest = take-grow s.sent (sent_in (taken_by w) (commit_all e).talk.committed) s.committed (committed_before e) in
    (frames rest.0, ap frames rest.1 ∙ map-append (λ (i : Item). i.frame) (take s.sent s.committed) rest.0)

-- ---- on all links

abbrev all_sent : List Sending → List Frame
all_sent ss = flat_map frames_sent ss

last-or : (xs : List Sending) → (xs ≡ []) ⊎ ((before : List Sending) × (x : Sending) × (xs ≡ before ++ x ∷ []))
last-or [] = inl refl
last-or (x ∷ xs) =
    elim (last-or xs) [
      | inl same ↦ inr ([], x, ap (λ ys. x ∷ ys) same)
      | inr l ↦ inr (x ∷ l.0, l.1, ap (λ ys. x ∷ ys) l.2)
    ]

more-last : (f : Sending → Sending) → ((s : Sending) → More (frames_sent s) (frames_sent (f s))) → (ss : List Sending) → More (all_sent ss) (all_sent (on_last f ss))
more-last f each ss =
    elim (last-or ss) [
      | inl none ↦ ([], ap (λ xs. all_sent (on_last f xs)) none ∙ sym (append-nil []) ∙ ap (λ xs. all_sent xs ++ []) (sym none))
      | inr l ↦
          (let one = each l.1 in
          let old : all_sent ss ≡ all_sent l.0 ++ frames_sent l.1 =
          ap all_sent l.2 ∙ flat_map-append frames_sent l.0 (l.1 ∷ []) ∙ ap (λ xs. all_sent l.0 ++ xs) (append-nil (frames_sent l.1)) in
          let new : all_sent (on_last f ss) ≡ all_sent l.0 ++ frames_sent (f l.1) =
          ap (λ xs. all_sent (on_last f xs)) l.2 ∙ ap all_sent (on_last-append f l.0 l.1) ∙ flat_map-append frames_sent l.0 (f l.1 ∷ [])
          ∙ ap (λ xs. all_sent l.0 ++ xs) (append-nil (frames_sent (f l.1))) in
          (one.0, new ∙ ap (λ xs. all_sent l.0 ++ xs) one.1 ∙ sym (append_assoc (all_sent l.0) (frames_sent l.1) one.0) ∙ ap (λ xs. xs ++ one.0) (sym old)))
    ]

more-offers : (ws : List Wrote) (p : Progress) (ss : List Sending) → More (all_sent ss) (all_sent (offers_sending ws p ss))
more-offers [] p ss = more-none (all_sent ss)
more-offers (w ∷ ws) p ss =
    let next = on_last (offer_sending w p.engine) ss in
    more-more (all_sent ss) (all_sent next) (all_sent (offers_sending ws (offer_part w p) next))
    (more-last (offer_sending w p.engine) (more-offer w p.engine) ss) (more-offers ws (offer_part w p) next)

more-step : (step : Step) (e : Engine) (ss : List Sending) → More (all_sent ss) (all_sent (step_sending step e ss))
more-step Linked e ss =
    if_case (λ (xs : List Sending). More (all_sent ss) (all_sent xs)) (is_asked e.talk) (ss ++ nothing_sent ∷ []) ss
    (all_sent (nothing_sent ∷ []), flat_map-append frames_sent ss (nothing_sent ∷ [])) (more-none (all_sent ss))
more-step LinkFailed e ss = more-none (all_sent ss)
more-step (Piece n) e ss = more-none (all_sent ss)
more-step End e ss = more-none (all_sent ss)
more-step Fault e ss = more-none (all_sent ss)
more-step Room e ss = more-none (all_sent ss)
more-step Tick e ss = more-none (all_sent ss)
more-step (Command c) e ss = more-none (all_sent ss)

-- what was sent is sent, whatever comes after
pub frames-grow : (us : List Turn) (e : Engine) (ss : List Sending)
    → (more : List Frame) × (flat_map frames_sent (sendings_from us e ss) ≡ flat_map frames_sent ss ++ more)
frames-grow [] e ss = more-none (all_sent ss)
frames-grow (u ∷ us) e ss =
    let stepped = step_sending u.step (asks e) ss in
    let next = turn_sending u e ss in
    more-more (all_sent ss) (all_sent next) (all_sent (sendings_from us (turn u e) next))
    (more-more (all_sent ss) (all_sent stepped) (all_sent next)
    (more-step u.step (asks e) ss) (more-offers (write_answers u.notes) (read u (asks e)) stepped))
    (frames-grow us (turn u e) next)
