-- Which promise opened which channel, and which is answered by that: what each change of the listed channels, of what is
-- awaited on them, and of the promises keeps.
use Rattle.std.proofs.Common.{◌≡◌, ◌≢◌, ◌∙◌, ◌<◌, ◌≤◌, ◌+◌, ap, sym, refl, subst, ℕ, zero, suc, Bool, true, false, true≢false, cond, List, [], ◌∷◌, Option, Some, None, Result, Ok, Err, option_map, unwrap_or, inl, inr, arith}
use Rattle.std.proofs.lemmas.Bool.{cases_eq}
use Rattle.std.specs.Ordering.{nat_cmp}
use Rattle.std.specs.BTreeMap.{is_at}
use Rattle.std.specs.Map.{keys_of}
use Rattle.amqp_outbox.specs.declared.reply.Awaited.{Awaited}
use Rattle.amqp_outbox.specs.declared.item.Item.{Item}
use Rattle.amqp_outbox.specs.Items.{promise_of_group}
use Rattle.amqp_outbox.specs.Replies.{awaited_on}
use Rattle.amqp_promise.specs.declared.state.ConnectionState.{ConnectionState}
use Rattle.amqp_promise.specs.declared.state.ConnectionState.TheVariants.{Connecting}
use Rattle.amqp_promise.specs.declared.state.ChannelState.TheVariants as channel
use Rattle.amqp_promise.specs.declared.error.ErrorKind.{ErrorKind}
use Rattle.amqp_channels.specs.declared.channels.Channel.{Channel}
use Rattle.amqp_channels.specs.declared.channels.Debt.TheVariants as debt
use Rattle.amqp_answers.specs.declared.answer.Answer.{Answer}
use Rattle.amqp_answers.specs.declared.answer.Answer.TheVariants.{Channel as AnswerChannel}
use Rattle.amqp_maps.specs.Listed.{at, put, without}
use Rattle.amqp_rules.specs.Talk.{Talk, end_of}
use Rattle.amqp_rules.specs.Answers.{answer_in, answer_of}
use Rattle.amqp_answers.specs.Settled.{Promises, settled_by, settled, settled_to, rejected_slot, rejected_all}
use Rattle.amqp_rules.specs.Changes.{rejected, rejected_each}
use Rattle.amqp_channels.specs.Openings.{opener}
use Rattle.amqp_channels.specs.Kept.{kept}
use Rattle.amqp_rules.specs.Sound.{Ascend, NamesItself, AllOpenings, NoOpening, FitsChannel, is_unopened, AwaitsNothing, FitsChannels}
use Rattle.amqp_rules.proofs.Ascending.{at-gone}
use Rattle.amqp_maps.proofs.Numbered.{put-same, put-other, without-other}
use Rattle.amqp_rules.proofs.AwaitedOn.{closing}

abbrev Listed : Type 0
Listed = List (ℕ × Channel)

abbrev Replies : Type 0
Replies = List (ℕ × List Awaited)

abbrev Slot : Type 0
Slot = Option (Result Answer ErrorKind)

abbrev opened_of : Option Channel → Option ℕ
opened_of o = option_map (λ (c : Channel). c.opened) o

-- what is not there is no value
pub nothing-there : {X : Type 0} (o : Option X) (x : X) → o ≡ None → o ≡ Some x → ⊥
nothing-there o x none some = cc

-- ---- answers

-- what a promise gets names it, where it is that a channel is open
abbrev pub Names : ℕ → Slot → Type 0
Names number slot = (id opened : ℕ) → slot ≡ Some (Ok (AnswerChannel id opened)) → opened ≡ number

pub names-put : (n : ℕ) (slot : Slot) (ps : Promises) → Names n slot → NamesItself ps → NamesItself (put n slot ps)
names-put n slot ps own all k id opened is =
    elim (cases_eq k n) [
      | inl e ↦
          (let here : Some slot ≡ Some (Some (Ok (AnswerChannel id opened))) = sym (put-same n slot ps) ∙ ap (λ i. at i (put n slot ps)) (sym e) ∙ is in
          own id opened (some-of here) ∙ sym e)
      | inr ne ↦ all k id opened (sym (put-other k n slot ps ne) ∙ is)
    ]
  where
    some-of : {x y : Slot} → Some x ≡ Some y → x ≡ y
    some-of h = cc

pub names-new : NamesItself []
names-new number id opened is = absurd (nothing-there (at number []) (Some (Ok (AnswerChannel id opened))) refl is)

pub names-none : (n : ℕ) (ps : Promises) → NamesItself ps → NamesItself (put n None ps)
names-none n ps all = names-put n None ps (λ id opened is. absurd cc) all

pub names-error : (n : ℕ) (e : ErrorKind) (ps : Promises) → NamesItself ps → NamesItself (put n (Some (Err e)) ps)
names-error n e ps all = names-put n (Some (Err e)) ps (λ id opened is. absurd cc) all

settled-by : (o : Option Slot) (n : ℕ) (answer : Result Answer ErrorKind) (ps : Promises) → Names n (Some answer) → NamesItself ps → NamesItself (settled_by o n answer ps)
settled-by None n answer ps own all = all
settled-by (Some None) n answer ps own all = names-put n (Some answer) ps own all
settled-by (Some (Some kept)) n answer ps own all = all

pub names-settled : (n : ℕ) (answer : Result Answer ErrorKind) (ps : Promises) → Names n (Some answer) → NamesItself ps → NamesItself (settled n answer ps)
names-settled n answer ps own all = settled-by (at n ps) n answer ps own all

pub names-to : (o : Option ℕ) (answer : Result Answer ErrorKind) (ps : Promises) → ((n : ℕ) → o ≡ Some n → Names n (Some answer)) → NamesItself ps → NamesItself (settled_to o answer ps)
names-to None answer ps own all = all
names-to (Some n) answer ps own all = names-settled n answer ps (own n refl) all

to-error : (o : Option ℕ) (e : ErrorKind) (ps : Promises) → NamesItself ps → NamesItself (settled_to o (Err e) ps)
to-error o e ps all = names-to o (Err e) ps (λ n is id opened h. absurd cc) all

pub names-rejected : (e : ErrorKind) (groups : List (List Item)) (ps : Promises) → NamesItself ps → NamesItself (rejected e groups ps)
names-rejected e [] ps all = all
names-rejected e (group ∷ groups) ps all =
    names-rejected e groups (settled_to (promise_of_group group) (Err e) ps) (to-error (promise_of_group group) e ps all)

pub names-each : (e : ErrorKind) (named : List (Option ℕ)) (ps : Promises) → NamesItself ps → NamesItself (rejected_each e named ps)
names-each e [] ps all = all
names-each e (promise ∷ others) ps all = names-each e others (settled_to promise (Err e) ps) (to-error promise e ps all)

slot-kept : (e : ErrorKind) (n : ℕ) (slot : Slot) (id opened : ℕ) → rejected_slot e n slot ≡ Some (Ok (AnswerChannel id opened)) → slot ≡ Some (Ok (AnswerChannel id opened))
slot-kept e zero slot id opened is = is
slot-kept e (suc n) None id opened is = absurd cc
slot-kept e (suc n) (Some answer) id opened is = is

at-rejected : (e : ErrorKind) (k : ℕ) (ps : Promises) (id opened : ℕ) → at k (rejected_all e ps) ≡ Some (Some (Ok (AnswerChannel id opened)))
    → at k ps ≡ Some (Some (Ok (AnswerChannel id opened)))
at-rejected e k [] id opened is = absurd (nothing-there (at k (rejected_all e [])) (Some (Ok (AnswerChannel id opened))) refl is)
at-rejected e k (p ∷ ps) id opened is = by (is_at (nat_cmp k) p.0) is (at-rejected e k ps id opened) where
  by : (b : Bool) → cond b (Some (rejected_slot e p.0 p.1)) (at k (rejected_all e ps)) ≡ Some (Some (Ok (AnswerChannel id opened)))
      → (at k (rejected_all e ps) ≡ Some (Some (Ok (AnswerChannel id opened))) → at k ps ≡ Some (Some (Ok (AnswerChannel id opened))))
      → cond b (Some p.1) (at k ps) ≡ Some (Some (Ok (AnswerChannel id opened)))
  by true h rest = ap (λ (x : Slot). Some x) (slot-kept e p.0 p.1 id opened cc)
  by false h rest = rest h

pub names-all : (e : ErrorKind) (ps : Promises) → NamesItself ps → NamesItself (rejected_all e ps)
names-all e ps all k id opened is = all k id opened (at-rejected e k ps id opened is)

pub names-taken : (n : ℕ) (ps : Promises) → Ascend (keys_of ps) → NamesItself ps → NamesItself (without n ps)
names-taken n ps ascend all k id opened is =
    elim (cases_eq k n) [
      | inl e ↦ (let none : at n (without n ps) ≡ None = at-gone n ps ascend in let there : at n (without n ps) ≡ Some (Some (Ok (AnswerChannel id opened))) = ap (λ i. at i (without n ps)) (sym e) ∙ is in absurd (nothing-there (at n (without n ps)) (Some (Ok (AnswerChannel id opened))) none there))
      | inr ne ↦ all k id opened (sym (without-other k n ps ne) ∙ is)
    ]

-- an answer that a channel is open is one that is kept
kept-answer : (ended : Option (Result (Unit {0}) ErrorKind)) (o : Option Slot) (id opened : ℕ) → answer_in ended o ≡ Some (Ok (AnswerChannel id opened))
    → o ≡ Some (Some (Ok (AnswerChannel id opened)))
kept-answer ended None id opened is = absurd cc
kept-answer None (Some None) id opened is = absurd cc
kept-answer (Some (Ok closed)) (Some None) id opened is = absurd cc
kept-answer (Some (Err e)) (Some None) id opened is = absurd cc
kept-answer ended (Some (Some answer)) id opened is = ap (λ (x : Slot). Some x) is

pub names-answer : (number id opened : ℕ) (t : Talk) → NamesItself t.promises → answer_of number t ≡ Some (Ok (AnswerChannel id opened)) → opened ≡ number
names-answer number id opened t all is = all number id opened (kept-answer (end_of t) (at number t.promises) id opened is)

-- ---- channels, at one number

-- what is at one number from now on, and what must be known of it
pub record Changes (n : ℕ) (state : ConnectionState) (acting : Bool) (cs cs' : Listed) (ws ws' : Replies) (made made' : ℕ) (c : Option Channel) (list : List Awaited) : Type 0 where
  pub others : (m : ℕ) → m ≢ n → at m cs' ≡ at m cs
  pub other_replies : (m : ℕ) → m ≢ n → awaited_on m ws' ≡ awaited_on m ws
  pub here : at n cs' ≡ c
  pub replies : awaited_on n ws' ≡ list
  pub more : made ≤ made'
  pub ascend : Ascend (keys_of ws')
  pub opened : (p : ℕ) → opened_of c ≡ Some p → (p < made') × ((m : ℕ) → m ≢ n → opener m cs ≡ Some p → ⊥)
  pub opening : (x : Channel) → c ≡ Some x → AllOpenings (λ p. p ≡ x.opened) list
  pub fits : acting ≡ true → FitsChannel c n ws'
  pub unopened : is_unopened state ≡ true → AwaitsNothing cs' ws'

fits-as : (m : ℕ) (o o' : Option Channel) (ws ws' : Replies) → o' ≡ o → awaited_on m ws' ≡ awaited_on m ws → FitsChannel o m ws → FitsChannel o' m ws'
fits-as m None o' ws ws' is same h =
    subst (λ o. FitsChannel o m ws') (sym is) (ap closing same ∙ h.0, subst (λ list. NoOpening list) (sym same) h.1)
fits-as m (Some c) o' ws ws' is same h =
    subst (λ o. FitsChannel o m ws') (sym is)
    (h.0 ∙ ap closing (sym same), λ owed left. subst (λ list. NoOpening list) (sym same) (h.1 owed left))

module _ (n : ℕ) (state : ConnectionState) (acting : Bool) (cs cs' : Listed) (ws ws' : Replies) (made made' : ℕ) (c : Option Channel) (list : List Awaited)
    (k : Changes n state acting cs cs' ws ws' made made' c list) (h : FitsChannels state acting cs ws made) where
  at-own : (m : ℕ) → m ≡ n → at m cs' ≡ c
  at-own m e = ap (λ i. at i cs') e ∙ k.here

  own : (m p : ℕ) → m ≡ n → opener m cs' ≡ Some p → opened_of c ≡ Some p
  own m p e is = ap opened_of (sym (at-own m e)) ∙ is

  same : (m p : ℕ) → m ≢ n → opener m cs' ≡ Some p → opener m cs ≡ Some p
  same m p ne is = ap opened_of (sym (k.others m ne)) ∙ is

  list-own : (m : ℕ) → m ≡ n → awaited_on m ws' ≡ list
  list-own m e = ap (λ i. awaited_on i ws') e ∙ k.replies

  pub fits-changed : FitsChannels state acting cs' ws' made'
  fits-changed =
      record {
        opened = λ m p is.
            elim (cases_eq m n) [
              | inl e ↦ (k.opened p (own m p e is)).0
              | inr ne ↦ (let before = h.opened m p (same m p ne is) in let more = k.more in omega (arith, before, more))
            ];
        once = λ i j p first second.
            elim (cases_eq i n) [
              | inl e ↦
                  elim (cases_eq j n) [
                    | inl f ↦ e ∙ sym f
                    | inr ne ↦ absurd ((k.opened p (own i p e first)).1 j ne (same j p ne second))
                  ]
              | inr ne ↦
                  elim (cases_eq j n) [
                    | inl f ↦ absurd ((k.opened p (own j p f second)).1 i ne (same i p ne first))
                    | inr other ↦ h.once i j p (same i p ne first) (same j p other second)
                  ]
            ];
        opening = λ m x is.
            elim (cases_eq m n) [
              | inl e ↦ subst (λ l. AllOpenings (λ p. p ≡ x.opened) l) (sym (list-own m e)) (k.opening x (sym (at-own m e) ∙ is))
              | inr ne ↦ subst (λ l. AllOpenings (λ p. p ≡ x.opened) l) (sym (k.other_replies m ne)) (h.opening m x (sym (k.others m ne) ∙ is))
            ];
        fits = λ acts m.
            elim (cases_eq m n) [
              | inl e ↦ subst (λ i. FitsChannel (at i cs') i ws') (sym e) (fits-as n c (at n cs') ws' ws' k.here refl (k.fits acts))
              | inr ne ↦ fits-as m (at m cs) (at m cs') ws ws' (k.others m ne) (k.other_replies m ne) (h.fits acts m)
            ];
        unopened = k.unopened;
        ascend = k.ascend;
      }

-- ---- the rules

module _ (state : ConnectionState) (acting : Bool) (cs : Listed) (ws : Replies) (made : ℕ) (h : FitsChannels state acting cs ws made) where
  -- more promises were made
  pub fits-made : FitsChannels state acting cs ws (made + 1)
  fits-made =
      record { opened = λ n p is. (let before = h.opened n p is in omega (arith, before)); once = h.once; opening = h.opening; fits = h.fits; unopened = h.unopened; ascend = h.ascend }

  -- another state, in which less is known
  pub fits-later : (state' : ConnectionState) (acting' : Bool) → (is_unopened state' ≡ true → is_unopened state ≡ true) → (acting' ≡ true → acting ≡ true)
      → FitsChannels state' acting' cs ws made
  fits-later state' acting' less acts =
      record { opened = h.opened; once = h.once; opening = h.opening; fits = λ a. h.fits (acts a); unopened = λ u. h.unopened (less u); ascend = h.ascend }

  -- nothing is awaited any more, and no frame acts
  pub fits-silent : (state' : ConnectionState) (acting' : Bool) → is_unopened state' ≡ false → acting' ≡ false → FitsChannels state' acting' cs [] made
  fits-silent state' acting' opened silent =
      record {
        opened = h.opened;
        once = h.once;
        opening = λ n c is. tt;
        fits = λ a. absurd (true≢false (sym a ∙ silent));
        unopened = λ u. absurd (true≢false (sym u ∙ opened));
        ascend = tt;
      }

  new-fits : (o : Option Channel) (n : ℕ) → ((c : Channel) → o ≡ Some c → c.awaits_close_ok ≡ false) → FitsChannel o n []
  new-fits None n none = (refl, tt)
  new-fits (Some c) n none = (none c refl, λ owed left. tt)

  -- a link begins, on which nothing is awaited
  pub fits-linked : is_unopened state ≡ true → FitsChannels Connecting true cs [] made
  fits-linked u =
      let none = (h.unopened u).1 in
      record {
        opened = h.opened;
        once = h.once;
        opening = λ n c is. tt;
        fits = λ a n. new-fits (at n cs) n (none n);
        unopened = λ a. (refl, none);
        ascend = tt;
      }

  -- the same promise opened what is at a number
  opened-as : (n : ℕ) (c c' : Channel) → at n cs ≡ Some c → c'.opened ≡ c.opened → (p : ℕ) → opened_of (Some c') ≡ Some p
      → (p < made) × ((m : ℕ) → m ≢ n → opener m cs ≡ Some p → ⊥)
  opened-as n c c' listed same p is =
      let here : opener n cs ≡ Some p = ap opened_of listed ∙ ap Some (sym same) ∙ is in
      (h.opened n p here, λ m ne other. ne (h.once m n p other here))

  -- what is awaited on a listed channel
  pub listed-fits : (n : ℕ) (c : Channel) → at n cs ≡ Some c → acting ≡ true → FitsChannel (Some c) n ws
  listed-fits n c listed acts = fits-as n (at n cs) (Some c) ws ws (sym listed) refl (h.fits acts n)

  -- a listed channel changes, and what is awaited on it stays
  pub fits-put : (n : ℕ) (c c' : Channel) → at n cs ≡ Some c → c'.opened ≡ c.opened → (acting ≡ true → FitsChannel (Some c') n ws)
      → (is_unopened state ≡ true → AwaitsNothing (put n c' cs) ws) → FitsChannels state acting (put n c' cs) ws made
  fits-put n c c' listed same fits unopened =
      fits-changed n state acting cs (put n c' cs) ws ws made made (Some c') (awaited_on n ws)
      (record {
        others = λ m ne. put-other m n c' cs ne;
        other_replies = λ m ne. refl;
        here = put-same n c' cs;
        replies = refl;
        more = omega arith;
        ascend = h.ascend;
        opened = opened-as n c c' listed same;
        opening = λ x is. (let e : x.opened ≡ c.opened = ap (λ o. unwrap_or (opened_of o) 0) (sym is) ∙ same in
            subst (λ k. AllOpenings (λ p. p ≡ k) (awaited_on n ws)) (sym e) (h.opening n c listed));
        fits = fits;
        unopened = unopened;
      }) h

  -- it changes, and so does what is awaited on it
  pub fits-both : (n : ℕ) (c c' : Channel) (ws' : Replies) (list : List Awaited) → at n cs ≡ Some c → c'.opened ≡ c.opened
      → ((m : ℕ) → m ≢ n → awaited_on m ws' ≡ awaited_on m ws) → awaited_on n ws' ≡ list → Ascend (keys_of ws')
      → AllOpenings (λ p. p ≡ c.opened) list
      → (acting ≡ true → FitsChannel (Some c') n ws') → is_unopened state ≡ false → FitsChannels state acting (put n c' cs) ws' made
  fits-both n c c' ws' list listed same others replies ascend opening fits opened =
      fits-changed n state acting cs (put n c' cs) ws ws' made made (Some c') list
      (record {
        others = λ m ne. put-other m n c' cs ne;
        other_replies = others;
        here = put-same n c' cs;
        replies = replies;
        more = omega arith;
        ascend = ascend;
        opened = opened-as n c c' listed same;
        opening = λ x is. (let e : x.opened ≡ c.opened = ap (λ o. unwrap_or (opened_of o) 0) (sym is) ∙ same in
            subst (λ k. AllOpenings (λ p. p ≡ k) list) (sym e) opening);
        fits = fits;
        unopened = λ u. absurd (true≢false (sym u ∙ opened));
      }) h

  -- what is awaited on a number changes alone
  pub fits-replies : (n : ℕ) (ws' : Replies) (list : List Awaited) → ((m : ℕ) → m ≢ n → awaited_on m ws' ≡ awaited_on m ws) → awaited_on n ws' ≡ list
      → Ascend (keys_of ws') → ((c : Channel) → at n cs ≡ Some c → AllOpenings (λ p. p ≡ c.opened) list)
      → (acting ≡ true → FitsChannel (at n cs) n ws') → (is_unopened state ≡ true → ws ≡ [] → ws' ≡ [])
      → FitsChannels state acting cs ws' made
  fits-replies n ws' list others replies ascend opening fits none =
      fits-changed n state acting cs cs ws ws' made made (at n cs) list
      (record {
        others = λ m ne. refl;
        other_replies = others;
        here = refl;
        replies = replies;
        more = omega arith;
        ascend = ascend;
        opened = λ p is. (h.opened n p is, λ m ne other. ne (h.once m n p other is));
        opening = opening;
        fits = fits;
        unopened = λ u. (let before = h.unopened u in (none u before.0, before.1));
      }) h

  -- a channel goes
  pub fits-gone : (n : ℕ) (ws' : Replies) (list : List Awaited) → Ascend (keys_of cs) → ((m : ℕ) → m ≢ n → awaited_on m ws' ≡ awaited_on m ws)
      → awaited_on n ws' ≡ list → Ascend (keys_of ws') → (acting ≡ true → (closing list ≡ false) × NoOpening list)
      → (is_unopened state ≡ true → ws ≡ [] → ws' ≡ []) → FitsChannels state acting (without n cs) ws' made
  fits-gone n ws' list sorted others replies ascend lacks none =
      fits-changed n state acting cs (without n cs) ws ws' made made None list
      (record {
        others = λ m ne. without-other m n cs ne;
        other_replies = others;
        here = at-gone n cs sorted;
        replies = replies;
        more = omega arith;
        ascend = ascend;
        opened = λ p is. absurd (nothing-there (opened_of None) p refl is);
        opening = λ x is. absurd (nothing-there None x refl is);
        fits = λ a. (ap closing replies ∙ (lacks a).0, subst (λ l. NoOpening l) (sym replies) (lacks a).1);
        unopened = λ u. (let before = h.unopened u in (none u before.0, λ m c is. before.1 m c (still m c is)));
      }) h
    where
      still : (m : ℕ) (c : Channel) → at m (without n cs) ≡ Some c → at m cs ≡ Some c
      still m c is =
          elim (cases_eq m n) [
            | inl e ↦ (let none : at m (without n cs) ≡ None = ap (λ i. at i (without n cs)) e ∙ at-gone n cs sorted in absurd (nothing-there (at m (without n cs)) c none is))
            | inr ne ↦ sym (without-other m n cs ne) ∙ is
          ]
