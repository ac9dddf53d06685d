-- Offers one by one.
use Rattle.std.proofs.Common.{◌≡◌, ◌≤◌, ◌<◌, ℕ, ◌+◌, ◌-◌, ◌==◌, nat_le, if◌then◌else◌, not, ◌&&◌, Bool, true, false, IsTrue, IsFalse, MatchBool, IfSome, List, [], ◌∷◌, ◌++◌, length, drop, Option, Some, None, is_some, option_map, refl, ap, sym, ◌∙◌, subst, arith, rules, length-drop}
use Rattle.std.proofs.lemmas.Bool.Decides.{nat_tests}
use Rattle.amqp_promise.specs.declared.io_fault.IoFault.TheVariants.{BrokenPipe}
use Rattle.amqp_outgoing.specs.declared.committed.Mark.{Mark}
use Rattle.amqp_outgoing.specs.declared.committed.Then.{Then}
use Rattle.amqp_outgoing.specs.declared.committed.Then.TheVariants.{Nothing, Answer, Pays, Finish}
use Rattle.amqp_violations.specs.declared.server_close.ServerClose.{ServerClose}
use Rattle.amqp_violations.specs.declared.server_close.ServerClose.TheVariants.{WithoutError, WithError}
use Rattle.amqp_promise.specs.declared.error.ErrorKind.TheVariants.{ProtocolError}
use Rattle.amqp_auth.specs.declared.asked.Question.{Question}
use Rattle.amqp_auth.specs.declared.asked.Asked.{Asked}
use Rattle.amqp_rules.specs.Talk.{Talk, is_open}
use Rattle.amqp_rules.specs.Channels.{channel_at}
use Rattle.amqp_rules.specs.Changes.{present_at, finish_by}
use Rattle.amqp_rules.specs.Links.{lost}
use Rattle.amqp_rules.specs.Writing.{follow, sent, sent_among, taken}
use Rattle.amqp_engine.specs.declared.port.Wrote.{Wrote}
use Rattle.amqp_engine.specs.declared.port.Wrote.TheVariants.{Took, Failed, NoMemory}
use Rattle.amqp_engine.specs.Log.{Log, log_write, TookAtMost, PlansWrite}
use Rattle.amqp_engine.specs.Engine.{Engine, rule_at, can_write, overlong_next, refuse_overlong, commit_all, wrote, took}
use Rattle.amqp_rules.specs.Writing.{frames_waiting}
use Rattle.amqp_engine.specs.Turn.{answers_of_writes, Progress, goes, offer_part, closing, drained, offered, answered, is_all, AreAnswers}
use Rattle.amqp_engine.specs.Making.{making, Reaches, Writes}
use Rattle.amqp_engine.specs.Noting.{took_by, fails_by}
use Rattle.amqp_types.specs.Counts.{Rose}
use Rattle.amqp_engine.specs.Tell.{port_answer, offers_from, log_offers, PlaysOffers, TellsOffers}
use Rattle.amqp_engine.specs.Play.{offers_waiting}
use Rattle.amqp_types.proofs.Small.{if_case, if-true, if-false, and-false}
use Rattle.amqp_engine.proofs.Cases.{is_before-Reaches, is_before-cut, some-unsent, rose-between}
use Rattle.amqp_rules.proofs.Keeping.{present-keeps}
use Rattle.amqp_rules.proofs.Sending.{pay-keeps}
use Rattle.amqp_rules.proofs.Recovering.{lose-case}
use Rattle.amqp_engine.proofs.Settling.{settle-talk, settle-less, settle-starved}
use Rattle.amqp_engine.proofs.Telling.{tells-then, tells-none}
use Rattle.amqp_engine.proofs.Commits.{commits-keep, waiting-commits}

-- ---- what waits after a write

-- no more frames wait than before
abbrev WaitsAsMuch : Talk → Talk → Type 0
WaitsAsMuch t y = frames_waiting y ≤ frames_waiting t

-- after the server's close as many wait, or none where the link is lost and the session goes on
finish-waits : (o : Option ServerClose) (t : Talk) → WaitsAsMuch t (finish_by o t)
finish-waits None t = omega arith
finish-waits (Some WithoutError) t = omega arith
finish-waits (Some (WithError e)) t = lose-case (WaitsAsMuch t) (ProtocolError e) t (λ delay. omega arith) (omega arith)

follow-waits : (th : Then) (t : Talk) → WaitsAsMuch t (follow th t)
follow-waits Nothing t = omega arith
follow-waits (Answer n) t = omega arith
follow-waits (Pays n) t = omega (arith, pay-keeps frames_waiting (λ u cs ns. refl) (channel_at n t) n t)
follow-waits Finish t = finish-waits t.server_close t

sent-waits : (ms : List Mark) (n : ℕ) (t : Talk) → WaitsAsMuch t (sent_among ms n t)
sent-waits [] n t = omega arith
sent-waits (m ∷ ms) n t =
    let first : Talk = record t { committed = drop 1 t.committed } in
    let rest : Talk = record t { committed = record m { left = m.left - n } ∷ ms } in
    let on : Talk = sent_among ms (n - m.left) (sent m t) in
    if_case (WaitsAsMuch t) (is_open t) (if nat_le m.left n then on else rest) t
    (if_case (WaitsAsMuch t) (nat_le m.left n) on rest
    (omega (arith, sent-waits ms (n - m.left) (sent m t), follow-waits m.«then» first)) (omega arith)) (omega arith)

taken-waits : (n : ℕ) (t : Talk) → WaitsAsMuch t (taken n t)
taken-waits n t =
    if_case (WaitsAsMuch t) (is_open t && not (n == 0)) (sent_among t.committed n (record t { last_write = t.present })) t
    (sent-waits t.committed n (record t { last_write = t.present })) (omega arith)

took-waits : (at k : ℕ) (e : Engine) → WaitsAsMuch e.talk (took at k e).talk
took-waits at k e =
    let t = present_at at e.talk in
    omega (
      arith,
      ap frames_waiting (settle-talk (record e { talk = taken k t; unsent = drop k e.unsent })),
      taken-waits k t,
      present-keeps frames_waiting at e.talk (λ n. refl),
    )

-- where all was taken, fewer writes may come
pub waiting-wrote : (at : ℕ) (w : Wrote) (e : Engine) → 0 < length (offered e)
    → is_all w (length (offered e)) ≡ true → offers_waiting (answered at w e) < offers_waiting e
waiting-wrote at (Took k) e some all =
    let same : k ≡ length (offered e) = grind (arith, nat_tests) in
    let waits : frames_waiting (answered at (Took k) e).talk ≤ frames_waiting (commit_all e).talk = took-waits at k (commit_all e) in
    let unsent : length (answered at (Took k) e).unsent ≤ length (drop k (offered e)) =
    settle-less (record (commit_all e) { talk = taken k (present_at at (commit_all e).talk); unsent = drop k (offered e) }) in
    omega (arith, waits, unsent, length-drop k (offered e), waiting-commits (frames_waiting e.talk) e)
waiting-wrote at Failed e some all = cc
waiting-wrote at NoMemory e some all = cc

and-is-false : (a b : Bool) → IsFalse b → IsFalse (a && b)
and-is-false true b h = h
and-is-false false b h = search rules

and-is-true : (a b : Bool) → a ≡ true → IsTrue b → IsTrue (a && b)
and-is-true true b g h = h
and-is-true false b g h = cc

-- ---- what the port answered

-- a write that took something took it
took-some : (k : ℕ) (p : Progress) → 0 < k → port_answer (Took k) p ≡ Took k
took-some k p some =
    let no : (k == 0) ≡ false = grind (arith, nat_tests) in
    if-false ((k == 0) && not (goes (offer_part (Took k) p))) NoMemory (Took k) (ap (λ (b : Bool). b && not (goes (offer_part (Took k) p))) no)

-- and so did one after which the turn goes on
pub goes-answer : (w : Wrote) (p : Progress) → goes (offer_part w p) ≡ true → port_answer w p ≡ w
goes-answer (Took k) p on =
    if-false ((k == 0) && not (goes (offer_part (Took k) p))) NoMemory (Took k) (and-false (k == 0) (not (goes (offer_part (Took k) p))) (ap not on))
goes-answer Failed p on = refl
goes-answer NoMemory p on = refl

refused-answer : (p : Progress) → goes (offer_part (Took 0) p) ≡ false → port_answer (Took 0) p ≡ NoMemory
refused-answer p off = if-true ((0 == 0) && not (goes (offer_part (Took 0) p))) NoMemory (Took 0) (ap not off)

-- one offer more is told
tells-more : (w v : Wrote) (ws : List Wrote) (p : Progress) (log mid last : Option Log) → port_answer w p ≡ v
    → mid ≡ option_map (log_write (offered p.engine) v) log → IfSome log (PlansWrite (length (offered p.engine)) v)
    → TellsOffers (offers_from ws (offer_part w p)) mid last → TellsOffers (offers_from (w ∷ ws) p) log last
tells-more w v ws p log mid last is told plays t =
    let e = p.engine in
    let os = offers_from ws (offer_part w p) in
    let P : Wrote → Type 0 = λ x. TellsOffers (record { bytes = offered e; answer = x } ∷ os) log last in
    subst P (sym is)
    (tells-then (log_write (offered e) v) (log_offers os) (PlansWrite (length (offered e)) v) (PlaysOffers os) log mid last
    (record { told = told; plays = plays }) t)

-- ---- writes

offer-making : (more : List Asked) (asked : List Question) → (at : ℕ) (cut : Option ℕ) (e : Engine) (n : ℕ) (w : Wrote) (e' : Engine)
    → e' ≡ answered at w e → making at cut more asked e' (n + 1) ≡ offer_part w (making at cut more asked e n)
offer-making more asked at cut e n w e' he = ap (λ (x : Engine). making at cut more asked x (n + 1)) he

-- where none was made, none failed
none-failed : {A : Type 0} → false ≡ true → A
none-failed h = cc

-- no write is made where none is due
writes-nothing : (p q : Progress) (log log' : Option Log) (m n : ℕ) → closing p ≡ q → IsFalse (goes p && can_write p.engine) → log' ≡ log → Writes [] false p q log log' m n
writes-nothing p q log log' m n leaves none told =
    record { answers = none; leaves = leaves; tells = tells-none log log' told; counted = none-failed }

-- nothing is to be written
pub writes-none : (p q : Progress) (log log' : Option Log) (m n : ℕ) → goes p ≡ true → q ≡ record p { engine = refuse_overlong p.engine } → IsFalse (can_write p.engine) → log' ≡ log
    → Writes [] false p q log log' m n
writes-none p q log log' m n on is can told =
    let after : Progress = record p { engine = refuse_overlong p.engine } in
    writes-nothing p q log log' m n (if-true (goes p) after p on ∙ sym is) (and-is-false (goes p) (can_write p.engine) can) told

-- a turn that was cut goes no further
pub writes-cut : (p : Progress) (log log' : Option Log) (m n : ℕ) → goes p ≡ false → log' ≡ log → Writes [] false p p log log' m n
writes-cut p log log' m n off told =
    writes-nothing p p log log' m n (if-false (goes p) (record p { engine = refuse_overlong p.engine }) p off) (ap (λ (b : Bool). b && can_write p.engine) off) told

-- one write more, of which all was taken
pub writes-more : (more : List Asked) (asked : List Question) → (at : ℕ) (cut : Option ℕ) (e : Engine) (n : ℕ) (w : Wrote) (e' : Engine) (last : Progress) (log mid log' : Option Log) (a b c : ℕ)
    (ts : List ℕ) (failed : Bool) → e' ≡ answered at w e → mid ≡ option_map (log_write (offered e) w) log → IfSome log (PlansWrite (length (offered e)) w)
    → Reaches cut (n + 1) → IsTrue (can_write e) → TookAtMost (length (offered e)) w → is_all w (length (offered e)) ≡ true → a ≤ b
    → Writes ts failed (making at cut more asked e' (n + 1)) last mid log' b c → Writes (took_by w ++ ts) failed (making at cut more asked e n) last log log' a c
writes-more more asked at cut e n (Took k) e' last log mid log' a b c ts failed he told plays allows can fits all le rest =
    let p = making at cut more asked e n in
    let ws = answers_of_writes ts failed in
    let same : making at cut more asked e' (n + 1) ≡ offer_part (Took k) p = offer-making more asked at cut e n (Took k) e' he in
    let some : 0 < length (offered e) = some-unsent (is_open e.talk) (not e.talk.blocked) (not (is_some (overlong_next e))) (length (offered e)) can in
    let is : k ≡ length (offered e) = grind (arith, nat_tests) in
    let due : IsTrue (goes p && can_write e) = and-is-true (goes p) (can_write e) (is_before-Reaches cut n allows) can in
    let P : Progress → Type 0 = λ x. AreAnswers ws x in
    let Q : Progress → Type 0 = λ x. drained ws x ≡ last in
    let R : Progress → Type 0 = λ x. TellsOffers (offers_from ws x) mid log' in
    let tail : MatchBool (is_all (Took k) (length (offered e))) (AreAnswers ws (offer_part (Took k) p)) (ws ≡ []) = rw all (subst P same rest.answers) in
    record {
      answers = (due, fits, tail);
      leaves = if-true (is_all (Took k) (length (offered e))) (drained ws (offer_part (Took k) p)) (offer_part (Took k) p) all ∙ subst Q same rest.leaves;
      tells = tells-more (Took k) (Took k) ws p log mid log' (took-some k p (omega (arith, some, is))) told plays (subst R same rest.tells);
      counted = λ is_failed. rose-between a b c c le (omega arith) (rest.counted is_failed);
    }
writes-more more asked at cut e n Failed e' last log mid log' a b c ts failed he told plays allows can fits all le rest = cc
writes-more more asked at cut e n NoMemory e' last log mid log' a b c ts failed he told plays allows can fits all le rest = cc

-- one write alone, with what is noted of it
writes-one : (more : List Asked) (asked : List Question) → (at : ℕ) (cut : Option ℕ) (e : Engine) (n : ℕ) (w v : Wrote) (tooks : List ℕ) (failed : Bool) (e' : Engine) (log log' : Option Log) (a b : ℕ)
    → answers_of_writes tooks failed ≡ w ∷ [] → port_answer w (making at cut more asked e n) ≡ v
    → e' ≡ answered at w e → log' ≡ option_map (log_write (offered e) v) log → IfSome log (PlansWrite (length (offered e)) v)
    → Reaches cut (n + 1) → IsTrue (can_write e) → TookAtMost (length (offered e)) w → is_all w (length (offered e)) ≡ false
    → (failed ≡ true → Rose a b) → Writes tooks failed (making at cut more asked e n) (making at cut more asked e' (n + 1)) log log' a b
writes-one more asked at cut e n w v tooks failed e' log log' a b one is he told plays allows can fits less counted =
    let p = making at cut more asked e n in
    let none : List Wrote = [] in
    let due : IsTrue (goes p && can_write e) = and-is-true (goes p) (can_write e) (is_before-Reaches cut n allows) can in
    let tail : MatchBool (is_all w (length (offered e))) (AreAnswers none (offer_part w p)) (none ≡ []) = rw less refl in
    let P : List Wrote → Type 0 = λ ws. AreAnswers ws p in
    let Q : List Wrote → Type 0 = λ ws. TellsOffers (offers_from ws p) log log' in
    record {
      answers = subst P (sym one) (due, fits, tail);
      leaves =
          ap (λ (ws : List Wrote). drained ws p) one ∙ if-false (is_all w (length (offered e))) (drained none (offer_part w p)) (offer_part w p) less
          ∙ sym (offer-making more asked at cut e n w e' he);
      tells = subst Q (sym one) (tells-more w v none p log log' log' is told plays (tells-none log' log' refl));
      counted = counted;
    }

-- a last one, of which less was taken
pub writes-last : (more : List Asked) (asked : List Question) → (at : ℕ) (e : Engine) (n : ℕ) (w : Wrote) (e' : Engine) (log log' : Option Log) (a b : ℕ)
    → e' ≡ answered at w e → log' ≡ option_map (log_write (offered e) w) log → IfSome log (PlansWrite (length (offered e)) w)
    → IsTrue (can_write e) → TookAtMost (length (offered e)) w → is_all w (length (offered e)) ≡ false
    → (w ≡ NoMemory → ⊥) → (w ≡ Failed → Rose a b)
    → Writes (took_by w) (fails_by false w) (making at None more asked e n) (making at None more asked e' (n + 1)) log log' a b
writes-last more asked at e n (Took k) e' log log' a b he told plays can fits less other cause =
    writes-one more asked at None e n (Took k) (Took k) (k ∷ []) false e' log log' a b refl
    (goes-answer (Took k) (making at None more asked e n) refl) he told plays tt can fits less none-failed
writes-last more asked at e n Failed e' log log' a b he told plays can fits less other cause =
    writes-one more asked at None e n Failed Failed [] true e' log log' a b refl refl he told plays tt can fits less (λ failed. cause refl)
writes-last more asked at e n NoMemory e' log log' a b he told plays can fits less other cause = absurd (other refl)

-- a last one, for which the port found no memory
pub writes-refused : (more : List Asked) (asked : List Question) → (at : ℕ) (e : Engine) (n : ℕ) (e' : Engine) (log log' : Option Log) (a b : ℕ)
    → e' ≡ answered at NoMemory e → log' ≡ option_map (log_write (offered e) NoMemory) log → IfSome log (PlansWrite (length (offered e)) NoMemory)
    → IsTrue (can_write e) → Writes (0 ∷ []) false (making at (Some (n + 1)) more asked e n) (making at (Some (n + 1)) more asked e' (n + 1)) log log' a b
writes-refused more asked at e n e' log log' a b he told plays can =
    let cut : Option ℕ = Some (n + 1) in
    let some : 0 < length (offered e) = some-unsent (is_open e.talk) (not e.talk.blocked) (not (is_some (overlong_next e))) (length (offered e)) can in
    let less : (0 == length (offered e)) ≡ false = grind (arith, nat_tests) in
    writes-one more asked at cut e n (Took 0) NoMemory (0 ∷ []) false e' log log' a b refl
    (refused-answer (making at cut more asked e n) (is_before-cut (n + 1))) he told plays (omega arith) can (omega arith) less none-failed

-- where all was taken, the write did not fail
pub all-clean : (w : Wrote) (n : ℕ) → is_all w n ≡ true → fails_by false w ≡ false
all-clean (Took k) n all = refl
all-clean Failed n all = cc
all-clean NoMemory n all = refl

-- the same writes, noted otherwise
pub writes-same : (ts us : List ℕ) (f g : Bool) (p q : Progress) (log log' : Option Log) (m n : ℕ) → us ≡ ts → g ≡ f → Writes ts f p q log log' m n
    → Writes us g p q log log' m n
writes-same ts us f g p q log log' m n tooks failed w =
    let T : List ℕ → Type 0 = λ x. Writes x f p q log log' m n in
    let F : Bool → Type 0 = λ b. Writes us b p q log log' m n in
    subst F (sym failed) (subst T (sym tooks) w)

wrote-starved : (at : ℕ) (w : Wrote) (e : Engine) → (wrote at w e).starved ≡ e.starved
wrote-starved at (Took k) e = settle-starved (record e { talk = taken k (present_at at e.talk); unsent = drop k e.unsent })
wrote-starved at Failed e = settle-starved (rule_at at (lost BrokenPipe) e)
wrote-starved at NoMemory e = settle-starved (record e { talk = taken 0 (present_at at e.talk); unsent = drop 0 e.unsent })

-- an offer starves nobody
pub answered-starved : (at : ℕ) (w : Wrote) (e : Engine) → (answered at w e).starved ≡ e.starved
answered-starved at w e = wrote-starved at w (commit_all e) ∙ commits-keep (λ (x : Engine). x.starved) (λ x fs ms bytes. refl) (frames_waiting e.talk) e
