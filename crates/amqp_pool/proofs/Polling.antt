-- What polling some promises, one after another, leaves of the others.
use Rattle.std.proofs.Common.{◌≡◌, ◌≢◌, ◌∙◌, ◌+◌, ◌-◌, ◌≤◌, ◌<◌, append_assoc, append-nil, take, drop, get_or, take-append-drop, ap, sym, refl, subst, ℕ, suc, Bool, true, false, cond, not, List, [], ◌∷◌, ◌++◌, length, Option, Some, None, Result, Ok, Err, inl, inr, arith}
use Rattle.std.specs.Prelude.{filter, nat_eq, is_some, if◌then◌else◌}
use Rattle.std.proofs.lemmas.Bool.{cases_eq}
use Rattle.std.proofs.lemmas.List.{take_more, drop_more, length-take-le}
use Rattle.std.proofs.lemmas.List.Filters.{FiltersInPlace, FiltersInPlace-all, length-filter_both}
use Rattle.amqp_hub.specs.Guarded.{Guarded}
use Rattle.amqp_hub.specs.Entering.{with_engine}
use Rattle.amqp_types.proofs.Small.{if_by, if-true, if-false}
use Rattle.amqp_promise.specs.declared.error.ErrorKind.{ErrorKind}
use Rattle.amqp_promise.specs.declared.error.ErrorKind.TheVariants.{NoMemory}
use Rattle.amqp_answers.specs.declared.answer.Answer.{Answer}
use Rattle.amqp_maps.specs.Listed.{at, without}
use Rattle.amqp_rules.specs.Talk.{Talk, end_of}
use Rattle.amqp_rules.specs.Answers.{answer_in, answer_of, take_answer, Takes}
use Rattle.amqp_answers.specs.Settled.{IsRejected}
use Rattle.amqp_maps.proofs.Numbered.{without-other}
use Rattle.amqp_commands.specs.declared.command.ChanRef.{ChanRef}
use Rattle.amqp_pool.specs.Pooled.{times, AreDifferent}
use Rattle.amqp_pool.specs.Collecting.{has_answer, channel_in, brought_by, TakesEach}
use Rattle.amqp_pool.proofs.Counts.{times-cons, times-append, one-same}

-- ---- one promise

-- the answers to the other promises stay
other-stays : (m n : ℕ) (t : Talk) → m ≢ n → answer_of m (take_answer n t) ≡ answer_of m t
other-stays m n t ne = by (is_some (answer_of n t)) where
  by : (b : Bool) → answer_of m (if b then record t { promises = without n t.promises } else t) ≡ answer_of m t
  by true = ap (answer_in (end_of t)) (without-other m n t.promises ne)
  by false = refl

pub taken-other : (m n : ℕ) (given : Option (Result Answer ErrorKind)) (t t' : Talk) → m ≢ n → Takes n given t t' → answer_of m t' ≡ answer_of m t
taken-other m n given t t' ne (inl h) = ap (answer_of m) h.1 ∙ other-stays m n t ne
taken-other m n given t t' ne (inr h) = ap (answer_of m) h.2

made-stays : (n : ℕ) (t : Talk) → (take_answer n t).made ≡ t.made
made-stays n t = by (is_some (answer_of n t)) where
  by : (b : Bool) → (if b then record t { promises = without n t.promises } else t).made ≡ t.made
  by true = refl
  by false = refl

pub taken-made : (n : ℕ) (given : Option (Result Answer ErrorKind)) (t t' : Talk) → Takes n given t t' → t'.made ≡ t.made
taken-made n given t t' (inl h) = ap (λ (x : Talk). x.made) h.1 ∙ made-stays n t
taken-made n given t t' (inr h) = ap (λ (x : Talk). x.made) h.2

-- ---- some promises

pub each-made : (ns : List ℕ) (t t' : Talk) → TakesEach ns t t' → t'.made ≡ t.made
each-made [] t t' h = ap (λ (x : Talk). x.made) h
each-made (n ∷ ns) t t' h = each-made ns h.1 t' h.3 ∙ taken-made n h.0 t h.1 h.2

pub each-other : (m : ℕ) (ns : List ℕ) (t t' : Talk) → times m ns ≡ 0 → TakesEach ns t t' → answer_of m t' ≡ answer_of m t
each-other m [] t t' none h = ap (answer_of m) h
each-other m (n ∷ ns) t t' none h =
    let differs : m ≢ n = λ e. absurd (omega (arith, none, times-cons m n ns, one-same m n e)) in
    each-other m ns h.1 t' (omega (arith, none, times-cons m n ns)) h.3 ∙ taken-other m n h.0 t h.1 differs h.2

-- one more
pub each-more : (ns : List ℕ) (n : ℕ) (given : Option (Result Answer ErrorKind)) (t t1 t2 : Talk) → TakesEach ns t t1 → Takes n given t1 t2
    → TakesEach (ns ++ n ∷ []) t t2
each-more [] n given t t1 t2 h more = (given, t2, subst (λ (x : Talk). Takes n given x t2) h more, refl)
each-more (m ∷ ns) n given t t1 t2 h more = (h.0, h.1, h.2, each-more ns n given h.1 t1 t2 h.3 more)

-- ---- one promise more of a list

pub one-taken : (ns : List ℕ) (i n : ℕ) → i < length ns → n ≡ get_or ns i n → take (i + 1) ns ≡ take i ns ++ n ∷ []
one-taken ns i n under is = take_more ns i n under ∙ ap (λ m. take i ns ++ m ∷ []) (sym is)

pub brought-append : (t : Talk) (ms ns : List ℕ) → brought_by t (ms ++ ns) ≡ brought_by t ms ++ brought_by t ns
brought-append t [] ns = refl
brought-append t (m ∷ ms) ns =
    ap (λ xs. channel_in m (answer_of m t) ++ xs) (brought-append t ms ns)
    ∙ sym (append_assoc (channel_in m (answer_of m t)) (brought_by t ms) (brought_by t ns))

pub brought-more : (t : Talk) (ns : List ℕ) (i n : ℕ) → i < length ns → n ≡ get_or ns i n
    → brought_by t (take (i + 1) ns) ≡ brought_by t (take i ns) ++ channel_in n (answer_of n t)
brought-more t ns i n under is =
    ap (brought_by t) (one-taken ns i n under is)
    ∙ brought-append t (take i ns) (n ∷ [])
    ∙ ap (λ xs. brought_by t (take i ns) ++ xs) (append-nil (channel_in n (answer_of n t)))

-- what stands at a place of a list without doubles does not stand before it
pub not-before : (ns : List ℕ) (i n : ℕ) → AreDifferent ns → i < length ns → n ≡ get_or ns i n → times n (take i ns) ≡ 0
not-before ns i n different under is =
    let some : times n (take (i + 1) ns) ≡ times n (take i ns) + 1 =
    ap (times n) (one-taken ns i n under is) ∙ times-append n (take i ns) (n ∷ []) ∙ ap (λ k. times n (take i ns) + k) (times-cons n n [] ∙ ap (λ k. k + 0) (one-same n n refl)) in
    let all : times n (take (i + 1) ns) + times n (drop (i + 1) ns) ≡ times n ns =
    sym (times-append n (take (i + 1) ns) (drop (i + 1) ns)) ∙ ap (times n) (take-append-drop (i + 1) ns) in
    omega (arith, some, all, different n)

-- so the answer to it is still what it was before those were polled
pub not-polled : (ns : List ℕ) (i n : ℕ) (t t' : Talk) → AreDifferent ns → i < length ns → n ≡ get_or ns i n → TakesEach (take i ns) t t'
    → answer_of n t' ≡ answer_of n t
not-polled ns i n t t' different under is h = each-other n (take i ns) t t' (not-before ns i n different under is) h

-- ---- the loop that polls each

-- what was not yet read is where it was
pub still-there : (xs ys : List ℕ) (i d : ℕ) → drop i ys ≡ drop i xs → i < length xs → i < length ys → get_or ys i d ≡ get_or xs i d
still-there xs ys i d same ux uy =
    sym (ap (λ (l : List ℕ). get_or l 0 d) (drop_more ys i d uy)) ∙ ap (λ (l : List ℕ). get_or l 0 d) same ∙ ap (λ (l : List ℕ). get_or l 0 d) (drop_more xs i d ux)

-- the channel of one promise more goes last
pub idle-more : (t t' : Talk) (xs : List ℕ) (i n : ℕ) (first idle idle' : List ChanRef) → AreDifferent xs → i < length xs → n ≡ get_or xs i n
    → TakesEach (take i xs) t t' → idle ≡ first ++ brought_by t (take i xs) → idle' ≡ idle ++ channel_in n (answer_of n t')
    → idle' ≡ first ++ brought_by t (take (i + 1) xs)
idle-more t t' xs i n first idle idle' different under is polled so_far more =
    more
    ∙ ap (λ a. idle ++ channel_in n a) (not-polled xs i n t t' different under is polled)
    ∙ ap (λ l. l ++ channel_in n (answer_of n t)) so_far
    ∙ append_assoc first (brought_by t (take i xs)) (channel_in n (answer_of n t))
    ∙ ap (λ l. first ++ l) (sym (brought-more t xs i n under is))

pub polled-more : (t t' t'' : Talk) (xs : List ℕ) (i n : ℕ) (given : Option (Result Answer ErrorKind)) → i < length xs → n ≡ get_or xs i n
    → TakesEach (take i xs) t t' → Takes n given t' t'' → TakesEach (take (i + 1) xs) t t''
polled-more t t' t'' xs i n given under is polled more =
    subst (λ (l : List ℕ). TakesEach l t t'') (sym (one-taken xs i n under is)) (each-more (take i xs) n given t t' t'' polled more)

pub rest-more : (h h' h'' : Guarded) → h' ≡ with_engine (record h.engine { talk = h'.engine.talk }) h
    → h'' ≡ with_engine (record h'.engine { talk = h''.engine.talk }) h' → h'' ≡ with_engine (record h.engine { talk = h''.engine.talk }) h
rest-more h h' h'' before more = more ∙ ap (λ (x : Guarded). with_engine (record x.engine { talk = h''.engine.talk }) x) before

-- those that leave are as many as have an answer
pub left-count : (p : ℕ → Bool) (xs ys : List ℕ) (k i : ℕ) → FiltersInPlace (λ n. not (p n)) xs ys k i → length xs ≤ i → length ys - k ≡ length (filter p xs)
left-count p xs ys k i f all =
    let kept : length (take k ys) ≡ length (filter (λ n. not (p n)) xs) = ap length (FiltersInPlace-all f all) in
    let short : length (take k ys) ≡ k = length-take-le k ys (omega (arith, f.behind, f.within, f.long)) in
    omega (arith, kept, short, f.long, length-filter_both p (λ n. not (p n)) (λ n. refl) xs)
