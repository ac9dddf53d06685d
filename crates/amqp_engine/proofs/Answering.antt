-- Answers to what was asked, one part after another.
use Rattle.std.proofs.Common.{◌≡◌, ◌∙◌, sym, ap, subst, refl, ℕ, ◌+◌, length, take, drop, List, [], ◌∷◌, ◌++◌, append_assoc, length-append, Option, Some, None, arith}
use Rattle.amqp_auth.specs.declared.asked.Question.{Question}
use Rattle.amqp_auth.specs.declared.asked.Asked.{Asked}
use Rattle.amqp_auth.specs.Providers.{Exchange, Allows}
use Rattle.amqp_auth.specs.Asking.{paired, Answer, Unanswered, Asks}
use Rattle.amqp_frame.specs.declared.frame.Read.{Read}
use Rattle.amqp_frame.specs.declared.frame.Read.TheVariants.{Whole, More, TooLarge, BadHeartbeat, Bad, NoMemory}
use Rattle.amqp_rules.specs.Talk.{Talk}
use Rattle.amqp_rules.specs.Changes.{present_at}
use Rattle.amqp_engine.specs.Plan.{at_most_64}
use Rattle.amqp_engine.specs.Engine.{Engine, settle, read_row, row_questions}
use Rattle.amqp_engine.specs.Turn.{IsAnswered}
use Rattle.amqp_engine.specs.Tell.{MayCome}
use Rattle.amqp_rules.proofs.Hearing.{frame-more}
use Rattle.std.proofs.lemmas.List.{append-nil}

-- there are as many answers as questions
pub answer-size : (questions : List Question) (answers : List Asked) → Answer questions answers → length questions ≡ length answers
answer-size [] [] h = refl
answer-size (q ∷ qs) (a ∷ more) h = (let k = answer-size qs more h.1 in omega (arith, k))
answer-size [] (a ∷ more) h = absurd h
answer-size (q ∷ qs) [] h = absurd h

-- these are answered first, whatever is asked besides
answers-first : (qs next : List Question) (xs : List Asked) → Answer qs xs → Answer (take (length xs) (qs ++ next)) xs
answers-first [] next [] h = tt
answers-first (q ∷ qs) next (x ∷ xs) h = (h.0, answers-first qs next xs h.1)
answers-first [] next (x ∷ xs) h = absurd h
answers-first (q ∷ qs) next [] h = absurd h

pub answered-all : (cut : Option ℕ) (qs next : List Question) (xs : List Asked) → Answer qs xs → IsAnswered cut qs next xs
answered-all None qs next xs h = h
answered-all (Some j) qs next xs h = (omega (arith, answer-size qs xs h), answers-first qs next xs h)

-- where memory was refused, answers may follow to what was asked last
answers-then : (qs qs' next : List Question) (xs more : List Asked) → Answer qs xs → Answer (take (length more) (qs' ++ next)) more
    → Answer (take (length (xs ++ more)) ((qs ++ qs') ++ next)) (xs ++ more)
answers-then [] qs' next [] more h k = k
answers-then (q ∷ qs) qs' next (x ∷ xs) more h k = (h.0, answers-then qs qs' next xs more h.1 k)
answers-then [] qs' next (x ∷ xs) more h k = absurd h
answers-then (q ∷ qs) qs' next [] more h k = absurd h

pub answered-append : (n : ℕ) (qs qs' next : List Question) (xs more : List Asked) → Answer qs xs → IsAnswered (Some n) qs' next more
    → IsAnswered (Some n) (qs ++ qs') next (xs ++ more)
answered-append n qs qs' next xs more h k = (
  omega (arith, answer-size qs xs h, length-append qs qs', length-append xs more, k.0),
  answers-then qs qs' next xs more h k.1,
)

pub answered-more : (n : ℕ) (qs next : List Question) (xs more : List Asked) → Answer qs xs → Answer (take (length more) next) more
    → IsAnswered (Some n) qs next (xs ++ more)
answered-more n qs next xs more h k =
    let P : List Question → Type 0 = λ q. IsAnswered (Some n) q next (xs ++ more) in
    subst P (append-nil qs) (answered-append n qs [] next xs more h (omega arith, k))

-- of questions that are not answered there is no pair
pub paired-none : (qs : List Question) → paired qs [] ≡ []
paired-none [] = refl
paired-none (q ∷ qs) = refl

paired-front : (qs next : List Question) (xs : List Asked) → Answer qs xs → paired (qs ++ next) xs ≡ paired qs xs
paired-front [] next [] h = paired-none next
paired-front (q ∷ qs) next (x ∷ xs) h = ap (λ (y : Exchange). (q, x) ∷ y) (paired-front qs next xs h.1)
paired-front [] next (x ∷ xs) h = absurd h
paired-front (q ∷ qs) next [] h = absurd h

-- and where all was answered, what is asked besides changes nothing
pub may-front : (cut : Option ℕ) (before after : Exchange → Type 0) (qs next : List Question) (xs : List Asked) → Answer qs xs
    → MayCome cut before after (paired qs xs) → MayCome cut before after (paired (qs ++ next) xs)
may-front cut before after qs next xs h may =
    let P : Exchange → Type 0 = λ x. MayCome cut before after x in
    subst P (sym (paired-front qs next xs h)) may

-- nothing was asked, and memory was refused
pub unanswered-none : (asked : List Asked → List Question) (before : Exchange → Type 0) (list list' : List Asked) → list' ≡ list
    → Unanswered asked before list list'
unanswered-none asked before list list' same =
    record { answers = []; listed = same ∙ sym (append-nil list); fits = tt; allowed = subst (Allows before) (sym (paired-none (asked []))) tt }

answer-append : (qs qs' : List Question) (xs xs' : List Asked) → Answer qs xs → Answer qs' xs' → Answer (qs ++ qs') (xs ++ xs')
answer-append [] qs' [] xs' h k = k
answer-append (q ∷ qs) qs' (x ∷ xs) xs' h k = (h.0, answer-append qs qs' xs xs' h.1 k)
answer-append [] qs' (x ∷ xs) xs' h k = absurd h
answer-append (q ∷ qs) qs' [] xs' h k = absurd h

paired-append : (qs qs' : List Question) (xs xs' : List Asked) → Answer qs xs → paired (qs ++ qs') (xs ++ xs') ≡ paired qs xs ++ paired qs' xs'
paired-append [] qs' [] xs' h = refl
paired-append (q ∷ qs) qs' (x ∷ xs) xs' h = ap (λ (y : Exchange). (q, x) ∷ y) (paired-append qs qs' xs xs' h.1)
paired-append [] qs' (x ∷ xs) xs' h = absurd h
paired-append (q ∷ qs) qs' [] xs' h = absurd h

-- nothing was asked
pub asks-none : (state : Exchange → Type 0) (list : List Asked) → list ++ [] ≡ list → Asks [] [] state state list list
asks-none state list none = record { listed = sym none; all = tt; allowed = λ rest h. h }

-- what was asked first, and what was asked then
pub asks-then : (qs qs' : List Question) (xs xs' : List Asked) (before between after : Exchange → Type 0) (list mid list' : List Asked)
    → Asks qs xs before between list mid → Asks qs' xs' between after mid list' → Asks (qs ++ qs') (xs ++ xs') before after list list'
asks-then qs qs' xs xs' before between after list mid list' a b =
    record {
      listed = b.listed ∙ ap (λ (l : List Asked). l ++ xs') a.listed ∙ append_assoc list xs xs';
      all = answer-append qs qs' xs xs' a.all b.all;
      allowed = λ rest h.
          subst (Allows before)
          (sym (append_assoc (paired qs xs) (paired qs' xs') rest) ∙ ap (λ (x : Exchange). x ++ rest) (sym (paired-append qs qs' xs xs' a.all)))
          (a.allowed (paired qs' xs' ++ rest) (b.allowed rest h));
    }

-- what was asked first, and then memory was refused
pub allowed-then : (qs qs' : List Question) (xs xs' : List Asked) (before between : Exchange → Type 0) (list mid : List Asked)
    → Asks qs xs before between list mid → Allows between (paired qs' xs') → Allows before (paired (qs ++ qs') (xs ++ xs'))
allowed-then qs qs' xs xs' before between list mid a h =
    subst (Allows before)
    (sym (paired-append qs qs' xs xs' a.all)) (a.allowed (paired qs' xs') h)

-- what is read goes by the answers to what it asks alone
pub row-more : (at : ℕ) (r : Read) (answers more : List Asked) (e : Engine) → Answer (row_questions at r e) answers → read_row at r (answers ++ more) e ≡ read_row at r answers e
row-more at (Whole f n) answers more e h =
    ap (λ (t : Talk). settle (record e { talk = t; unread = drop n e.unread; place = at_most_64 (e.place + n) })) (frame-more f answers more (present_at at e.talk) h)
row-more at More answers more e h = refl
row-more at (TooLarge n) answers more e h = refl
row-more at (BadHeartbeat n) answers more e h = refl
row-more at Bad answers more e h = refl
row-more at NoMemory answers more e h = refl

-- what is left once both were taken
pub drop-both : (qs qs' : List Question) (xs xs' : List Asked) → Answer qs xs → drop (length (qs ++ qs')) (xs ++ xs') ≡ drop (length qs') xs'
drop-both [] qs' [] xs' h = refl
drop-both (q ∷ qs) qs' (x ∷ xs) xs' h = drop-both qs qs' xs xs' h.1
drop-both [] qs' (x ∷ xs) xs' h = absurd h
drop-both (q ∷ qs) qs' [] xs' h = absurd h
