-- Parts of lists, and what waits after small changes of an outbox.
use Rattle.std.proofs.Common.{◌≡◌, inl, inr, Bool, true, false, List, [], ◌∷◌, ◌++◌, refl, sym, subst, ap, ◌∙◌, append-nil}
use Rattle.std.specs.Prelude.{filter, cond}
use Rattle.std.specs.List.{AllByRecursion}
use Rattle.amqp_outbox.specs.declared.item.Item.{Item}
use Rattle.amqp_outbox.specs.Items.{items_of_groups}
use Rattle.amqp_outbox.specs.Queued.{Queued, waiting_items}
use Rattle.amqp_queued_rules.specs.Queues.{IsPart, EndsWith, Queues, QueuesNothing, MayQueue, Waits}
use Rattle.amqp_channels.proofs.Walking.{all-append}

-- ---- parts

pub part-all : {X : Type 0} (xs : List X) → IsPart xs xs
part-all [] = tt
part-all (x ∷ xs) = inl (refl, part-all xs)

-- one thing more is in the whole
part-of-more : {X : Type 0} (part : List X) (y : X) (whole : List X) → IsPart part whole → IsPart part (y ∷ whole)
part-of-more [] y whole h = tt
part-of-more (x ∷ part) y whole h = inr h

pub part-same : {X : Type 0} (xs ys : List X) → ys ≡ xs → IsPart ys xs
part-same {X} xs ys is = subst (λ (zs : List X). IsPart zs xs) (sym is) (part-all xs)

-- what passes a test is a part
pub part-tested : {X : Type 0} (test : X → Bool) (xs : List X) → IsPart (filter test xs) xs
part-tested test [] = tt
part-tested test (x ∷ xs) = by (test x) (part-tested test xs) where
  by : (b : Bool) → IsPart (filter test xs) xs → IsPart (cond b (x ∷ filter test xs) (filter test xs)) (x ∷ xs)
  by true rest = inl (refl, rest)
  by false rest = part-of-more (filter test xs) x xs rest

-- a part of a part is a part
pub part-of-part : {X : Type 0} (xs ys zs : List X) → IsPart xs ys → IsPart ys zs → IsPart xs zs
part-of-part [] ys zs h k = tt
part-of-part (x ∷ xs) [] zs h k = absurd h
part-of-part (x ∷ xs) (y ∷ ys) [] h k = absurd k
part-of-part (x ∷ xs) (y ∷ ys) (z ∷ zs) h (inr k) = inr (part-of-part (x ∷ xs) (y ∷ ys) zs h k)
part-of-part (x ∷ xs) (y ∷ ys) (z ∷ zs) (inl h) (inl k) = inl (h.0 ∙ k.0, part-of-part xs ys zs h.1 k.1)
part-of-part (x ∷ xs) (y ∷ ys) (z ∷ zs) (inr h) (inl k) = inr (part-of-part (x ∷ xs) ys zs h k.1)

-- nothing is a part of nothing else
pub part-of-nothing : {X : Type 0} (xs : List X) → IsPart xs [] → xs ≡ []
part-of-nothing [] h = refl
part-of-nothing (x ∷ xs) h = absurd h

-- what holds of all holds of a part
pub all-of-part : {X : Type 0} (P : X → Type 0) (xs ys : List X) → IsPart xs ys → AllByRecursion P ys → AllByRecursion P xs
all-of-part P [] ys h all = tt
all-of-part P (x ∷ xs) [] h all = absurd h
all-of-part P (x ∷ xs) (y ∷ ys) (inl h) all = (subst P (sym h.0) all.0, all-of-part P xs ys h.1 all.1)
all-of-part P (x ∷ xs) (y ∷ ys) (inr h) all = all-of-part P (x ∷ xs) ys h all.1

-- ---- what ends with these

ends-with-nothing : {X : Type 0} (before after : List X) → IsPart after before → EndsWith [] before after
ends-with-nothing before after h = (after, h, sym (append-nil after))

-- what ends with nothing more is a part
pub part-left : {X : Type 0} (before after : List X) → EndsWith [] before after → IsPart after before
part-left {X} before after h = subst (λ (xs : List X). IsPart xs before) (sym (h.2 ∙ append-nil h.0)) h.1

all-ends : {X : Type 0} (P : X → Type 0) (these before after : List X) → EndsWith these before after → AllByRecursion P before → AllByRecursion P these
    → AllByRecursion P after
all-ends P these before after h all more =
    subst (AllByRecursion P) (sym h.2) (all-append P h.0 these (all-of-part P h.0 before h.1 all) more)

-- where nothing was there, these are all
ends-alone : {X : Type 0} (these after : List X) → EndsWith these [] after → after ≡ these
ends-alone these after h = h.2 ∙ ap (λ part. part ++ these) (part-of-nothing h.0 h.1)

-- ---- outboxes

-- nothing is queued where parts are left
pub queues-part : (q q' : Queued) → IsPart q'.control q.control → IsPart q'.publish q.publish → IsPart q'.begun q.begun → QueuesNothing q q'
queues-part q q' control publish begun =
    record {
      control = ends-with-nothing q.control q'.control control;
      publish = ends-with-nothing q.publish q'.publish publish;
      begun = begun;
    }

-- nothing is queued where other replies are awaited, or the same
pub queues-none : (q q' : Queued) → q'.control ≡ q.control → q'.publish ≡ q.publish → q'.begun ≡ q.begun → QueuesNothing q q'
queues-none q q' control publish begun =
    queues-part q q' (part-same q.control q'.control control) (part-same q.publish q'.publish publish) (part-same q.begun q'.begun begun)

pub queues-same : (q : Queued) → QueuesNothing q q
queues-same q = queues-none q q refl refl refl

-- frames go last in the control lane
pub queues-frames : (q q' : Queued) (frames part : List Item) → IsPart part q.control → q'.control ≡ part ++ frames → IsPart q'.publish q.publish
    → IsPart q'.begun q.begun → Queues frames [] q q'
queues-frames q q' frames part is-part is publish begun =
    record { control = (part, is-part, is); publish = ends-with-nothing q.publish q'.publish publish; begun = begun }

-- one goes last, and all else stays
pub queues-last : (q q' : Queued) (item : Item) → q'.control ≡ q.control ++ item ∷ [] → q'.publish ≡ q.publish → q'.begun ≡ q.begun → Queues (item ∷ []) [] q q'
queues-last q q' item control publish begun =
    queues-frames q q' (item ∷ []) q.control (part-all q.control) control (part-same q.publish q'.publish publish) (part-same q.begun q'.begun begun)

-- ---- what waits

-- where nothing waited, these alone wait
pub alone-control : (frames : List Item) (groups : List (List Item)) (q q' : Queued) → Queues frames groups q q' → q.control ≡ [] → q'.control ≡ frames
alone-control frames groups q q' h none = ends-alone frames q'.control (subst (λ (xs : List Item). EndsWith frames xs q'.control) none h.control)

pub alone-publish : (frames : List Item) (groups : List (List Item)) (q q' : Queued) → Queues frames groups q q' → q.publish ≡ [] → q'.publish ≡ groups
alone-publish frames groups q q' h none = ends-alone groups q'.publish (subst (λ (xs : List (List Item)). EndsWith groups xs q'.publish) none h.publish)

pub alone-begun : (frames : List Item) (groups : List (List Item)) (q q' : Queued) → Queues frames groups q q' → q.begun ≡ [] → q'.begun ≡ []
alone-begun frames groups q q' h none = part-of-nothing q'.begun (subst (λ (xs : List Item). IsPart q'.begun xs) none h.begun)

-- the same, in the order in which they go out
pub alone-waiting : (frames : List Item) (groups : List (List Item)) (q q' : Queued) → Queues frames groups q q' → q.control ≡ [] → q.publish ≡ [] → q.begun ≡ []
    → waiting_items q' ≡ frames ++ items_of_groups groups
alone-waiting frames groups q q' h control publish begun =
    ap (λ (items : List Item). items ++ q'.control ++ items_of_groups q'.publish) (alone-begun frames groups q q' h begun)
    ∙ ap (λ (items : List Item). items ++ items_of_groups q'.publish) (alone-control frames groups q q' h control)
    ∙ ap (λ (more : List (List Item)). frames ++ items_of_groups more) (alone-publish frames groups q q' h publish)

-- what holds of all that waited, and of what is queued, holds of all that waits
pub waits-queued : (P : Item → Type 0) (frames : List Item) (groups : List (List Item)) (q q' : Queued) → Queues frames groups q q' → Waits P q
    → AllByRecursion P frames → AllByRecursion (AllByRecursion P) groups → Waits P q'
waits-queued P frames groups q q' h all more published =
    record {
      control = all-ends P frames q.control q'.control h.control all.control more;
      publish = all-ends (AllByRecursion P) groups q.publish q'.publish h.publish all.publish published;
      begun = all-of-part P q'.begun q.begun h.begun all.begun;
    }

pub waits-same : (P : Item → Type 0) (q q' : Queued) → QueuesNothing q q' → Waits P q → Waits P q'
waits-same P q q' h all = waits-queued P [] [] q q' h all tt tt

pub waits-either : (P : Item → Type 0) (frames : List Item) (q q' : Queued) → MayQueue frames q q' → Waits P q → AllByRecursion P frames → Waits P q'
waits-either P frames q q' (inl none) all more = waits-same P q q' none all
waits-either P frames q q' (inr queues) all more = waits-queued P frames [] q q' queues all more tt
