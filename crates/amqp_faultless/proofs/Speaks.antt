-- What is committed and sent is said to the server, which keeps the tie of both.
use Rattle.std.proofs.Common.{◌≡◌, ◌≢◌, ◌≤◌, ℕ, zero, suc, ◌+◌, ◌-◌, ◌==◌, ◌&&◌, not, nat_le, if◌then◌else◌, Bool, true, false, true≢false, List, [], ◌∷◌, ◌++◌, drop, Option, Some, None, Ok, refl, ap, sym, ◌∙◌, subst, arith}
use Rattle.std.specs.List.{AllByRecursion}
use Rattle.std.proofs.lemmas.List.Sums.{sum_by-cons}
use Rattle.amqp_frame.specs.declared.frame.Frame.{Frame}
use Rattle.amqp_frame.specs.declared.frame.Frame.TheVariants.{ProtocolHeader, Method, Raw}
use Rattle.amqp_frame.specs.declared.method.Method.TheVariants.{StartOk, SecureOk, TuneOk, Open as OpenMethod, Close, UpdateSecret, ChannelOpen}
use Rattle.amqp_outbox.specs.declared.item.Item.{Item}
use Rattle.amqp_outbox.specs.declared.reply.Awaited.{Awaited}
use Rattle.amqp_outbox.specs.Lists.{head}
use Rattle.amqp_outbox.specs.Replies.{awaited_on}
use Rattle.amqp_outbox.specs.Queued.{Queued, after_next}
use Rattle.amqp_outbox.specs.Queued as queued
use Rattle.amqp_channels.specs.declared.channels.Channel.{Channel}
use Rattle.amqp_channels.specs.declared.channels.Debt.{Debt}
use Rattle.amqp_channels.specs.declared.channels.Debt.TheVariants as debt
use Rattle.amqp_outgoing.specs.declared.committed.Mark.{Mark}
use Rattle.amqp_outgoing.specs.declared.committed.Then.{Then}
use Rattle.amqp_outgoing.specs.declared.committed.Then.TheVariants.{Nothing, Answer as AnswerThen, Pays, Finish}
use Rattle.amqp_answers.specs.declared.answer.Answer.TheVariants.{Connected as AnswerConnected, Sent}
use Rattle.amqp_rules.specs.declared.state.Phase.{Phase}
use Rattle.amqp_rules.specs.declared.state.Phase.TheVariants.{AwaitStart, AwaitTune, AwaitOpenOk}
use Rattle.amqp_promise.specs.declared.state.ConnectionState.{ConnectionState}
use Rattle.amqp_promise.specs.declared.state.ConnectionState.TheVariants.{Initial, Connecting, Connected, Closing, Closed, Reconnecting, Error}
use Rattle.amqp_maps.specs.Listed.{at, put, without}
use Rattle.amqp_rules.specs.Talk.{Talk, is_open}
use Rattle.amqp_rules.specs.Channels.{channel_at}
use Rattle.amqp_channels.specs.Channels.{is_owed}
use Rattle.amqp_rules.specs.Changes.{give}
use Rattle.amqp_rules.specs.Sound.{is_finish}
use Rattle.amqp_rules.specs.Writing.{flows, writes, next_out, pay, follow, sent, sent_among, taken}
use Rattle.amqp_outgoing.specs.Marks.{is_close_ok, then_by, then_of, mark_of}
use Rattle.amqp_faultless.specs.Faultless.{Use, ServerStage, Server, said_to}
use Rattle.amqp_types.proofs.Small.{if_case, same-number}
use Rattle.amqp_maps.proofs.Numbered.{put-other, without-other}
use Rattle.amqp_legal_rules.proofs.Ties.{pays, to_pay, unpaid, owing}
use Rattle.amqp_legal_rules.proofs.Paying.{IsNoPayment, pays-none, moved-on, sent-off}
use Rattle.amqp_faultless.proofs.Ordinary.{is_close, AreOthers, First, settled-given}
use Rattle.amqp_faultless.proofs.Uses.{acts, use_by, lives, is_unowed, is_free, Along, along-map, said-use}
use Rattle.amqp_faultless.proofs.Served.{Serves, Channels, is_raw, AreRaw, secret_by, secrets_in, by-number, along-cast}
use Rattle.amqp_faultless.proofs.Greeted.{Greets, IsSilentMark, Meets, slot_in, IsMet, meets-in, first-in, greets, greeting-plain}
use Rattle.amqp_rules.proofs.Walk.{pay-case}
use Rattle.amqp_channels.proofs.Walking.{all-append}

-- ---- what a frame tells the server

pub said-keeps : (f : Frame) (s : Server) → ((said_to f s).stage ≡ s.stage) × ((said_to f s).blocked ≡ s.blocked)
said-keeps (Method zero ChannelOpen) s = (refl, refl)
said-keeps (Method (suc k) ChannelOpen) s = (refl, refl)
said-keeps (Method zero m) s = (refl, refl)
said-keeps (Method (suc k) m) s = (refl, refl)
said-keeps f s = (refl, refl)

said-staying : (f : Frame) (s : Server) → is_close f ≡ false → (said_to f s).closing ≡ s.closing
said-staying (Method zero (Close code text class method)) s h = absurd (true≢false h)
said-staying (Method (suc k) ChannelOpen) s h = refl
said-staying (Method zero m) s h = refl
said-staying (Method (suc k) m) s h = refl
said-staying f s h = refl

said-secrets : (f : Frame) (s : Server) → (said_to f s).secrets ≡ s.secrets + secret_by f
said-secrets (Method zero (UpdateSecret secret reason)) s = refl
said-secrets (Method (suc k) ChannelOpen) s = omega arith
said-secrets (Method zero m) s = omega arith
said-secrets (Method (suc k) m) s = omega arith
said-secrets f s = omega arith

raw-says : (f : Frame) (s : Server) → is_raw f ≡ true → said_to f s ≡ s
raw-says (Raw n kind bytes) s h = refl
raw-says f s h = absurd (true≢false (sym h))

raw-unpaying : (f : Frame) → is_raw f ≡ true → IsNoPayment f
raw-unpaying (Raw n kind bytes) h = tt
raw-unpaying f h = absurd (true≢false (sym h))

-- ---- a frame is committed

paying-more : (n : ℕ) (ms : List Mark) (i : Item) (items : List Item) → pays n (then_of i) ≡ 0 → unpaid (ms ++ mark_of i ∷ []) items n ≡ unpaid ms items n
paying-more n ms i items none =
    let a = moved-on ms i items n in
    let b : to_pay (i ∷ items) n ≡ pays n (then_of i) + to_pay items n = sum_by-cons (λ (x : Item). pays n (then_of x)) i items in
    omega (arith, a, b, none)

module _ (s : Server) (cs : Channels) (ms : List Mark) where
  -- of a group
  commit-raw : (i : Item) (q : Queued) (begun : List Item) (publish : List (List Item)) → is_raw i.frame ≡ true
      → AreRaw begun → AllByRecursion AreRaw publish → AreOthers begun → AllByRecursion AreOthers publish → Serves s q cs ms
      → Serves (said_to i.frame s) (record q { begun = begun; publish = publish }) cs (ms ++ mark_of i ∷ [])
  commit-raw i q begun publish raw raws groups others closes h =
      let q' : Queued = record q { begun = begun; publish = publish } in
      let P : Server → Type 0 = λ x. Serves x q' cs (ms ++ mark_of i ∷ []) in
      subst P (sym (raw-says i.frame s raw))
      (record {
        stage = h.stage;
        staying = h.staying;
        ours = record { begun = others; control = h.ours.control; publish = closes };
        secrets = h.secrets;
        each = h.each;
        due = λ n. (let a = h.due n in let b = paying-more n ms i q.control (pays-none i n (raw-unpaying i.frame raw)) in omega (arith, a, b));
        begun = raws;
        groups = groups;
      })

  -- of the control lane
  commit-control : (i : Item) (q : Queued) (items : List Item) → q.control ≡ i ∷ items → Serves s q cs ms
      → Serves (said_to i.frame s) (record q { control = items }) cs (ms ++ mark_of i ∷ [])
  commit-control i q items is h =
      let f = i.frame in
      let s' : Server = said_to f s in
      let lane : AreOthers (i ∷ items) = (let P : List Item → Type 0 = AreOthers in subst P is h.ours.control) in
      let along : (n : ℕ) → Along (acts n (i ∷ items)) (s.uses n) (at n cs) (awaited_on n q.awaited) =
      λ n. (let P : List Item → Type 0 = λ x. Along (acts n x) (s.uses n) (at n cs) (awaited_on n q.awaited) in subst P is (h.each n)) in
      record {
        stage = (said-keeps f s).0 ∙ h.stage;
        staying = said-staying f s lane.0 ∙ h.staying;
        ours = record { begun = h.ours.begun; control = lane.1; publish = h.ours.publish };
        secrets =
            (let a = h.secrets in let b = said-secrets f s in let e = ap secrets_in is in
            let d : secrets_in (i ∷ items) ≡ secret_by f + secrets_in items = sum_by-cons (λ (x : Item). secret_by x.frame) i items in omega (arith, a, b, e, d));
        each = λ n. (let P : Use → Type 0 = λ x. Along (acts n items) x (at n cs) (awaited_on n q.awaited) in subst P (sym (said-use n f s)) (along n).2);
        due = λ n. (let a = h.due n in let b = moved-on ms i items n in let e = ap (λ x. unpaid ms x n) is in omega (arith, a, b, e));
        begun = h.begun;
        groups = h.groups;
      }

  pub serves-commit : (flow : Bool) (q : Queued) (i : Item) → queued.next_item flow q ≡ Some i → Serves s q cs ms
      → Serves (said_to i.frame s) (after_next flow q) cs (ms ++ mark_of i ∷ [])
  serves-commit flow q i next h = by q.begun q.control q.publish q.awaited flow next h where
    group : (g : List Item) (gs : List (List Item)) (awaited : List (ℕ × List Awaited)) → head g ≡ Some i
        → Serves s (record { control = []; publish = g ∷ gs; begun = []; awaited = awaited }) cs ms
        → Serves (said_to i.frame s) (record { control = []; publish = gs; begun = drop 1 g; awaited = awaited }) cs (ms ++ mark_of i ∷ [])
    group [] gs awaited next h = absurd cc
    group (j ∷ rest) gs awaited next h =
        let q : Queued = record { control = []; publish = (j ∷ rest) ∷ gs; begun = []; awaited = awaited } in
        let P : Item → Type 0 = λ x. Serves (said_to x.frame s) (record { control = []; publish = gs; begun = rest; awaited = awaited }) cs (ms ++ mark_of x ∷ []) in
        let same : j ≡ i = cc in
        subst P same (commit-raw j q rest gs (h.groups.0).0 (h.groups.0).1 h.groups.1 (h.ours.publish.0).1 h.ours.publish.1 h)

    by : (begun control : List Item) (publish : List (List Item)) (awaited : List (ℕ × List Awaited)) (flow : Bool)
        → queued.next_item flow (record { control = control; publish = publish; begun = begun; awaited = awaited }) ≡ Some i
        → Serves s (record { control = control; publish = publish; begun = begun; awaited = awaited }) cs ms
        → Serves (said_to i.frame s) (after_next flow (record { control = control; publish = publish; begun = begun; awaited = awaited })) cs (ms ++ mark_of i ∷ [])
    by (b ∷ bs) control publish awaited flow next h =
        let q : Queued = record { control = control; publish = publish; begun = b ∷ bs; awaited = awaited } in
        let P : Item → Type 0 = λ x. Serves (said_to x.frame s) (record q { begun = bs }) cs (ms ++ mark_of x ∷ []) in
        let same : b ≡ i = cc in
        subst P same (commit-raw b q bs publish h.begun.0 h.begun.1 h.groups h.ours.begun.1 h.ours.publish h)
    by [] (j ∷ js) publish awaited flow next h =
        let q : Queued = record { control = j ∷ js; publish = publish; begun = []; awaited = awaited } in
        let P : Item → Type 0 = λ x. Serves (said_to x.frame s) (record q { control = js }) cs (ms ++ mark_of x ∷ []) in
        let same : j ≡ i = cc in
        subst P same (commit-control j q js refl h)
    by [] [] (g ∷ gs) awaited true next h = group g gs awaited next h
    by [] [] [] awaited true next h = absurd cc
    by [] [] publish awaited false next h = absurd cc

-- before the connection is open
greeting-nothing : (f : Frame) (promise : Option ℕ) → greets f ≡ true → promise ≡ None → (if is_close_ok f then Finish else then_by f promise) ≡ Nothing
greeting-nothing (ProtocolHeader version) None h k = refl
greeting-nothing (Method zero (StartOk a b c d)) None h k = refl
greeting-nothing (Method zero (SecureOk a)) None h k = refl
greeting-nothing (Method zero (TuneOk a b c)) None h k = refl
greeting-nothing (Method zero (OpenMethod a)) None h k = refl
greeting-nothing f (Some number) h k = absurd cc
greeting-nothing f promise h k = absurd (true≢false (sym h))

greets-commit : (stage : ServerStage) (s : Server) (cs : Channels) (ms : List Mark) (flow : Bool) (q : Queued) (i : Item) → queued.next_item flow q ≡ Some i → Greets stage s q cs ms
    → Greets stage (said_to i.frame s) (after_next flow q) cs (ms ++ mark_of i ∷ [])
greets-commit stage s cs ms flow q i next h = by q.begun q.control q.publish q.awaited flow next h where
  by : (begun control : List Item) (publish : List (List Item)) (awaited : List (ℕ × List Awaited)) (flow : Bool)
      → queued.next_item flow (record { control = control; publish = publish; begun = begun; awaited = awaited }) ≡ Some i
      → Greets stage s (record { control = control; publish = publish; begun = begun; awaited = awaited }) cs ms
      → Greets stage (said_to i.frame s) (after_next flow (record { control = control; publish = publish; begun = begun; awaited = awaited })) cs (ms ++ mark_of i ∷ [])
  by (b ∷ bs) control publish awaited flow next h = absurd (let k = h.begun in cc)
  by [] (j ∷ js) publish awaited flow next h =
      let same : j ≡ i = cc in
      let q' : Queued = record { control = js; publish = publish; begun = []; awaited = awaited } in
      let P : Item → Type 0 = λ x. Greets stage (said_to x.frame s) q' cs (ms ++ mark_of x ∷ []) in
      let plain = greeting-plain j h.lane.0 in
      subst P same
      (record {
        at_stage = (said-keeps j.frame s).0 ∙ h.at_stage;
        uses = λ n. ap lives (said-use n j.frame s ∙ ap (λ a. use_by a (s.uses n)) (plain.idle n)) ∙ h.uses n;
        secrets = (let a = said-secrets j.frame s in let b = plain.secret in let c = h.secrets in omega (arith, a, b, c));
        staying = said-staying j.frame s plain.other ∙ h.staying;
        none = h.none;
        begun = h.begun;
        groups = h.groups;
        lane = h.lane.1;
        marks = all-append IsSilentMark ms (mark_of j ∷ []) h.marks (greeting-nothing j.frame j.promise (h.lane.0).0 (h.lane.0).1, tt);
      })
  by [] [] (g ∷ gs) awaited true next h = absurd (let k = h.groups in cc)
  by [] [] [] awaited true next h = absurd cc
  by [] [] publish awaited false next h = absurd cc

-- the next frame is committed
pub met-commit : (s : Server) (t : Talk) (i : Item) → next_out t ≡ Some i → IsMet s t
    → IsMet (said_to i.frame s) (record t { outbox = after_next (flows t) t.outbox; committed = t.committed ++ mark_of i ∷ [] })
met-commit s t i next m =
    record {
      opened = m.opened;
      acting = m.acting;
      blocked = m.blocked ∙ sym (said-keeps i.frame s).1;
      first = m.first;
      limit = m.limit;
      meets = by t.state t.phase m.meets;
    }
  where
    may : (b : Bool) (x : Option Item) → (if b then x else None) ≡ Some i → x ≡ Some i
    may true x h = h
    may false x h = absurd cc

    out : queued.next_item (flows t) t.outbox ≡ Some i
    out = may (writes t) (queued.next_item (flows t) t.outbox) next

    by : (st : ConnectionState) (p : Phase) → Meets st p s t.outbox t.channels t.committed
        → Meets st p (said_to i.frame s) (after_next (flows t) t.outbox) t.channels (t.committed ++ mark_of i ∷ [])
    by Connecting AwaitStart h = greets-commit _ s t.channels t.committed (flows t) t.outbox i out h
    by Connecting AwaitTune h = greets-commit _ s t.channels t.committed (flows t) t.outbox i out h
    by Connecting AwaitOpenOk h = greets-commit _ s t.channels t.committed (flows t) t.outbox i out h
    by Connected p h = serves-commit s t.channels t.committed (flows t) t.outbox i out h
    by Closing p h = (said-keeps i.frame s).0 ∙ h
    by Initial p h = absurd h
    by Closed p h = absurd h
    by Reconnecting p h = absurd h
    by Error p h = absurd h

-- ---- a frame was sent whole

-- the first mark goes
dropped-due : (k : Mark) (ms : List Mark) (marks : List Mark) (items : List Item) (n : ℕ) → marks ≡ k ∷ ms → unpaid (drop 1 marks) items n ≤ unpaid marks items n
dropped-due k ms marks items n is =
    let a = sent-off k ms items n in
    let b = ap (λ x. unpaid x items n) is in
    let c = ap (λ x. unpaid (drop 1 x) items n) is in
    omega (arith, a, b, c)

dropped-meets : (k : Mark) (ms : List Mark) (st : ConnectionState) (p : Phase) (s : Server) (q : Queued) (cs : Channels) (marks : List Mark) → marks ≡ k ∷ ms
    → Meets st p s q cs marks → Meets st p s q cs (drop 1 marks)
dropped-meets k ms st p s q cs marks is h = by st p h where
  silent : AllByRecursion IsSilentMark marks → AllByRecursion IsSilentMark (drop 1 marks)
  silent h = go marks h where
    go : (xs : List Mark) → AllByRecursion IsSilentMark xs → AllByRecursion IsSilentMark (drop 1 xs)
    go [] h = tt
    go (x ∷ xs) h = h.1

  by : (st : ConnectionState) (p : Phase) → Meets st p s q cs marks → Meets st p s q cs (drop 1 marks)
  by Connecting AwaitStart h =
      record { at_stage = h.at_stage; uses = h.uses; secrets = h.secrets; staying = h.staying; none = h.none; begun = h.begun; groups = h.groups; lane = h.lane; marks = silent h.marks }
  by Connecting AwaitTune h =
      record { at_stage = h.at_stage; uses = h.uses; secrets = h.secrets; staying = h.staying; none = h.none; begun = h.begun; groups = h.groups; lane = h.lane; marks = silent h.marks }
  by Connecting AwaitOpenOk h =
      record { at_stage = h.at_stage; uses = h.uses; secrets = h.secrets; staying = h.staying; none = h.none; begun = h.begun; groups = h.groups; lane = h.lane; marks = silent h.marks }
  by Connected p h =
      record {
        stage = h.stage;
        staying = h.staying;
        ours = h.ours;
        secrets = h.secrets;
        each = h.each;
        due = λ n. (let a = h.due n in let b = dropped-due k ms marks q.control n is in omega (arith, a, b));
        begun = h.begun;
        groups = h.groups;
      }
  by Closing p h = h
  by Initial p h = absurd h
  by Closed p h = absurd h
  by Reconnecting p h = absurd h
  by Error p h = absurd h

met-dropped : (k : Mark) (ms : List Mark) (s : Server) (t : Talk) → t.committed ≡ k ∷ ms → IsMet s t → IsMet s (record t { committed = drop 1 t.committed })
met-dropped k ms s t is m =
    record {
      opened = m.opened;
      acting = m.acting;
      blocked = m.blocked;
      first = m.first;
      limit = m.limit;
      meets = dropped-meets k ms t.state t.phase s t.outbox t.channels t.committed is m.meets;
    }

-- before the connection is open nothing follows
greeted-silent : (p : Phase) (s : Server) (q : Queued) (cs : Channels) (k : Mark) (ms marks : List Mark) → marks ≡ k ∷ ms → Meets Connecting p s q cs marks → k.then ≡ Nothing
greeted-silent p s q cs k ms marks is h = (all p h).0 where
  all : (p : Phase) → Meets Connecting p s q cs marks → AllByRecursion IsSilentMark (k ∷ ms)
  all AwaitStart h = let Q : List Mark → Type 0 = λ xs. AllByRecursion IsSilentMark xs in subst Q is h.marks
  all AwaitTune h = let Q : List Mark → Type 0 = λ xs. AllByRecursion IsSilentMark xs in subst Q is h.marks
  all AwaitOpenOk h = let Q : List Mark → Type 0 = λ xs. AllByRecursion IsSilentMark xs in subst Q is h.marks

owed-unfree : (x : Option Channel) → 1 ≤ owing x → is_free x ≡ false
owed-unfree None h = absurd (omega (arith, h))
owed-unfree (Some c) h = by c.debt h where
  by : (d : Debt) → 1 ≤ (if is_owed d then 1 else 0) → is_unowed d ≡ false
  by debt.Owed h = refl
  by debt.Paid h = refl
  by debt.Nothing h = absurd (omega (arith, h))

owing-once : (x : Option Channel) → owing x ≤ 1
owing-once None = omega arith
owing-once (Some c) = by (is_owed c.debt) where
  by : (b : Bool) → (if b then 1 else 0) ≤ 1
  by true = omega arith
  by false = omega arith

-- our close-ok of a channel was sent
module _ (n : ℕ) (k : Mark) (ms : List Mark) (s : Server) (q : Queued) (cs : Channels) (is : k.then ≡ Pays n) (h : Serves s q cs (k ∷ ms)) where
  paid-one : unpaid (k ∷ ms) q.control n ≡ suc (unpaid ms q.control n)
  paid-one =
      let a = sent-off k ms q.control n in
      let b : pays n k.then ≡ 1 = ap (pays n) is ∙ ap (λ b. if b then 1 else 0) (same-number n) in omega (arith, a, b)

  paid-owed : 1 ≤ owing (at n cs)
  paid-owed = let a = h.due n in let b = paid-one in omega (arith, a, b)

  serves-paid : (cs' : Channels) → ((m : ℕ) → m ≢ n → at m cs' ≡ at m cs) → Serves s q cs' ms
  serves-paid cs' same =
      record {
        stage = h.stage;
        staying = h.staying;
        ours = h.ours;
        secrets = h.secrets;
        each = by-number (λ m. Along (acts m q.control) (s.uses m) (at m cs') (awaited_on m q.awaited)) n
            (along-map (at n cs) (at n cs') (awaited_on n q.awaited) (awaited_on n q.awaited)
            (λ v stands l. absurd (true≢false (sym (stands l).listed ∙ owed-unfree (at n cs) paid-owed))) (acts n q.control) (s.uses n) (h.each n))
            (λ m ne. along-cast (acts m q.control) (s.uses m) (at m cs) (at m cs') (awaited_on m q.awaited) (awaited_on m q.awaited) (same m ne) refl (h.each m));
        due = by-number (λ m. unpaid ms q.control m ≤ owing (at m cs')) n
            (let a = h.due n in let b = paid-one in let c = owing-once (at n cs) in omega (arith, a, b, c))
            (λ m ne. (let a = h.due m in let b = sent-off k ms q.control m in let c = ap owing (same m ne) in omega (arith, a, b, c)));
        begun = h.begun;
        groups = h.groups;
      }

met-paid : (n : ℕ) (k : Mark) (ms : List Mark) (s : Server) (t : Talk) → t.committed ≡ k ∷ ms → k.then ≡ Pays n → IsMet s t
    → IsMet s (follow (Pays n) (record t { committed = drop 1 t.committed }))
met-paid n k ms s t is pays_n m = by t.state refl where
  here : IsMet s (record t { committed = drop 1 t.committed })
  here = met-dropped k ms s t is m

  y : Talk
  y = record t { committed = drop 1 t.committed }

  -- the channels change alone
  changed : (x : Option Channel) → ((c : Channel) → x ≡ Some c → is_owed c.debt ≡ false → IsMet s y) → (x ≡ None → IsMet s y)
      → ((cs : Channels) → ((i : ℕ) → i ≢ n → at i cs ≡ at i t.channels) → Meets t.state t.phase s t.outbox cs (drop 1 t.committed)) → IsMet s (pay x n y)
  changed x unowed none h =
      pay-case (IsMet s) x n y none unowed
      (λ c is owes awaits.
      record {
        opened = m.opened;
        acting = m.acting;
        blocked = m.blocked;
        first = m.first;
        limit = m.limit;
        meets = h (put n (record c { debt = debt.Paid }) t.channels) (λ i ne. put-other i n (record c { debt = debt.Paid }) t.channels ne);
      })
      (λ c is owes left.
      record { opened = m.opened; acting = m.acting; blocked = m.blocked; first = m.first; limit = m.limit; meets = h (without n t.channels) (λ i ne. without-other i n t.channels ne) })

  serving : t.state ≡ Connected → Serves s t.outbox t.channels (k ∷ ms)
  serving st = let P : List Mark → Type 0 = λ x. Serves s t.outbox t.channels x in subst P is (meets-in s t m Connected st)

  by : (st : ConnectionState) → t.state ≡ st → IsMet s (follow (Pays n) (record t { committed = drop 1 t.committed }))
  by Connecting st =
      let silent = greeted-silent t.phase s t.outbox t.channels k ms t.committed is (meets-in s t m Connecting st) in
      absurd (let same : Pays n ≡ Nothing = sym pays_n ∙ silent in cc)
  by Connected st = pay-by (at n t.channels) refl where
    back : (cs : Channels) → Serves s t.outbox cs ms → Meets t.state t.phase s t.outbox cs (drop 1 t.committed)
    back cs g =
        let P : ConnectionState → Type 0 = λ x. Meets x t.phase s t.outbox cs (drop 1 t.committed) in
        let Q : List Mark → Type 0 = λ x. Serves s t.outbox cs (drop 1 x) in
        subst P (sym st) (subst Q (sym is) g)

    owed : 1 ≤ owing (at n t.channels)
    owed = paid-owed n k ms s t.outbox t.channels pays_n (serving st)

    pay-by : (x : Option Channel) → at n t.channels ≡ x → IsMet s (pay x n y)
    pay-by x listed =
        changed x
        (λ c is free. let none : owing (at n t.channels) ≡ 0 = ap owing (listed ∙ is) ∙ ap (λ b. if b then 1 else 0) free in absurd (omega (arith, owed, none)))
        (λ is. let none : owing (at n t.channels) ≡ 0 = ap owing (listed ∙ is) in absurd (omega (arith, owed, none)))
        (λ cs same. back cs (serves-paid n k ms s t.outbox t.channels pays_n (serving st) cs same))
  by Closing st =
      changed (at n t.channels) (λ c is free. here) (λ is. here)
      (λ cs same.
      (let P : ConnectionState → Type 0 = λ x. Meets x t.phase s t.outbox cs (drop 1 t.committed) in subst P (sym st) (meets-in s t m Closing st)))
  by Initial st = absurd (meets-in s t m Initial st)
  by Closed st = absurd (meets-in s t m Closed st)
  by Reconnecting st = absurd (meets-in s t m Reconnecting st)
  by Error st = absurd (meets-in s t m Error st)

-- it was sent, and does not finish the session
pub met-sent : (k : Mark) (ms : List Mark) (s : Server) (t : Talk) → t.committed ≡ k ∷ ms → is_finish k.then ≡ false → IsMet s t → IsMet s (sent k t)
met-sent k ms s t is goes m = by k.then refl goes where
  here : IsMet s (record t { committed = drop 1 t.committed })
  here = met-dropped k ms s t is m

  answered-first : (number : ℕ) → k.then ≡ AnswerThen number → (st : ConnectionState) → t.state ≡ st
      → First (slot_in t.state) (give number (Ok Sent) (record t { committed = drop 1 t.committed }))
  answered-first number then_is Connecting st =
      let silent = greeted-silent t.phase s t.outbox t.channels k ms t.committed is (meets-in s t m Connecting st) in
      absurd (let same : AnswerThen number ≡ Nothing = sym then_is ∙ silent in cc)
  answered-first number then_is st is_st =
      let P : ConnectionState → Type 0 = λ x. First (slot_in x) (give number (Ok Sent) (record t { committed = drop 1 t.committed })) in
      let first = first-in s t m st is_st in
      subst P (sym is_st) (record { made = first.made; held = settled-given number (Ok AnswerConnected) (Ok Sent) t.promises first.held })

  by : (th : Then) → k.then ≡ th → is_finish th ≡ false → IsMet s (follow th (record t { committed = drop 1 t.committed }))
  by Nothing then_is goes = here
  by (AnswerThen number) then_is goes =
      record { opened = here.opened; acting = here.acting; blocked = here.blocked; first = answered-first number then_is t.state refl; limit = here.limit; meets = here.meets }
  by (Pays n) then_is goes = met-paid n k ms s t is then_is m
  by Finish then_is goes = absurd (true≢false goes)

-- ---- all that fits is committed

-- all this is said
abbrev pub said_all : List Item → Server → Server
said_all [] s = s
said_all (i ∷ items) s = said_all items (said_to i.frame s)

pub said_all-append : (items later : List Item) (s : Server) → said_all (items ++ later) s ≡ said_all later (said_all items s)
said_all-append [] later s = refl
said_all-append (i ∷ items) later s = said_all-append items later (said_to i.frame s)

-- ---- bytes are taken

-- none of these finishes the session
abbrev pub GoOn : List Mark → Type 0
GoOn ms = AllByRecursion (λ (k : Mark). is_finish k.then ≡ false) ms

pub sent-committed : (k : Mark) (t : Talk) → is_finish k.then ≡ false → (sent k t).committed ≡ drop 1 t.committed
sent-committed k t goes = by k.then goes where
  pay-same : (o : Option Channel) (n : ℕ) (x : Talk) → (pay o n x).committed ≡ x.committed
  pay-same o n x = pay-case (λ (z : Talk). z.committed ≡ x.committed) o n x (λ is. refl) (λ c is unowed. refl) (λ c is owes awaits. refl) (λ c is owes left. refl)

  by : (th : Then) → is_finish th ≡ false → (follow th (record t { committed = drop 1 t.committed })).committed ≡ drop 1 t.committed
  by Nothing goes = refl
  by (AnswerThen number) goes = refl
  by (Pays n) goes = pay-same (channel_at n t) n (record t { committed = drop 1 t.committed })
  by Finish goes = absurd (true≢false goes)

-- a part of a frame was sent
met-part : (k : Mark) (ms : List Mark) (n : ℕ) (s : Server) (t : Talk) → t.committed ≡ k ∷ ms → IsMet s t → IsMet s (record t { committed = record k { left = k.left - n } ∷ ms })
met-part k ms n s t is m =
    record { opened = m.opened; acting = m.acting; blocked = m.blocked; first = m.first; limit = m.limit; meets = by t.state t.phase m.meets }
  where
    same : (items : List Item) (i : ℕ) → unpaid (record k { left = k.left - n } ∷ ms) items i ≡ unpaid t.committed items i
    same items i = sent-off (record k { left = k.left - n }) ms items i ∙ sym (sent-off k ms items i) ∙ ap (λ x. unpaid x items i) (sym is)

    silent : AllByRecursion IsSilentMark t.committed → AllByRecursion IsSilentMark (record k { left = k.left - n } ∷ ms)
    silent h = let P : List Mark → Type 0 = λ x. AllByRecursion IsSilentMark x in (let g : AllByRecursion IsSilentMark (k ∷ ms) = subst P is h in (g.0, g.1))

    by : (st : ConnectionState) (p : Phase) → Meets st p s t.outbox t.channels t.committed → Meets st p s t.outbox t.channels (record k { left = k.left - n } ∷ ms)
    by Connecting AwaitStart h =
        record { at_stage = h.at_stage; uses = h.uses; secrets = h.secrets; staying = h.staying; none = h.none; begun = h.begun; groups = h.groups; lane = h.lane; marks = silent h.marks }
    by Connecting AwaitTune h =
        record { at_stage = h.at_stage; uses = h.uses; secrets = h.secrets; staying = h.staying; none = h.none; begun = h.begun; groups = h.groups; lane = h.lane; marks = silent h.marks }
    by Connecting AwaitOpenOk h =
        record { at_stage = h.at_stage; uses = h.uses; secrets = h.secrets; staying = h.staying; none = h.none; begun = h.begun; groups = h.groups; lane = h.lane; marks = silent h.marks }
    by Connected p h =
        record {
          stage = h.stage;
          staying = h.staying;
          ours = h.ours;
          secrets = h.secrets;
          each = h.each;
          due = λ i. (let a = h.due i in let b = same t.outbox.control i in omega (arith, a, b));
          begun = h.begun;
          groups = h.groups;
        }
    by Closing p h = h
    by Initial p h = absurd h
    by Closed p h = absurd h
    by Reconnecting p h = absurd h
    by Error p h = absurd h

met-sent-among : (ms : List Mark) (n : ℕ) (s : Server) (t : Talk) → t.committed ≡ ms → GoOn ms → IsMet s t → IsMet s (sent_among ms n t)
met-sent-among [] n s t is goes m = m
met-sent-among (k ∷ ms) n s t is goes m =
    if_case (IsMet s) (is_open t)
    (if nat_le k.left n then sent_among ms (n - k.left) (sent k t) else record t { committed = record k { left = k.left - n } ∷ ms }) t
    (if_case (IsMet s) (nat_le k.left n) (sent_among ms (n - k.left) (sent k t)) (record t { committed = record k { left = k.left - n } ∷ ms })
    (met-sent-among ms (n - k.left) s (sent k t) (sent-committed k t goes.0 ∙ ap (drop 1) is) goes.1 (met-sent k ms s t is goes.0 m))
    (met-part k ms n s t is m))
    m

-- so many bytes were taken
pub met-taken : (n : ℕ) (s : Server) (t : Talk) → GoOn t.committed → IsMet s t → IsMet s (taken n t)
met-taken n s t goes m =
    let u : Talk = record t { last_write = t.present } in
    if_case (IsMet s) (is_open t && not (n == 0)) (sent_among t.committed n u) t
    (met-sent-among t.committed n s u refl goes (record { opened = m.opened; acting = m.acting; blocked = m.blocked; first = m.first; limit = m.limit; meets = m.meets })) m
