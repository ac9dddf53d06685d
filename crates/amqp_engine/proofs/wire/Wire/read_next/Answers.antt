use Rattle.std.proofs.Common.{◌≡◌, ◌≢◌, ◌∙◌, ◌&&◌, not, if◌then◌else◌, ℕ, Bool, true, false, List, [], Result, Ok, Err, IfOk, OnOk, refl, ap, sym, subst, arith}
use Rattle.amqp_types.specs.declared.memory.NoMemory.{NoMemory as Refused}
use Rattle.amqp_frame.specs.declared.frame.Frame.{Frame}
use Rattle.amqp_frame.specs.declared.frame.Read.{Read}
use Rattle.amqp_frame.specs.declared.frame.Read.TheVariants.{Whole, More, TooLarge, BadHeartbeat, Bad, NoMemory}
use Rattle.amqp_frame.specs.FrameReading.{Yields, front}
use Rattle.amqp_auth.specs.declared.asked.Asked.{Asked}
use Rattle.amqp_auth.specs.Providers.{Exchange}
use Rattle.amqp_auth.specs.Asking.{Asks}
use Rattle.amqp_rules.specs.Talk.{is_open}
use Rattle.amqp_engine.specs.Engine.{Engine, front_of, is_more, can_read, read_row, read_questions, row_questions}
use Rattle.amqp_engine.specs.Making.{is_whole, RowHears}
use Rattle.std.proofs.lemmas.List.{append-nil}
use Rattle.amqp_types.proofs.Small.{on-err, on-err-then}
use Rattle.amqp_engine.proofs.Answering.{asks-none, unanswered-none}
use Rattle.amqp_engine.proofs.Blaming.{blames-other}
use Rattle.amqp_engine.proofs.wire.Wire.read_next.Goals as goal

-- what was read and is no whole frame stands at the front
other-front : (read front : Read) → is_whole read ≡ false → read ≢ NoMemory → Yields read front → front ≡ read
other-front More front other some h = h
other-front (TooLarge size) front other some h = h
other-front (BadHeartbeat channel) front other some h = h
other-front Bad front other some h = h
other-front NoMemory front other some h = absurd (some refl)
other-front (Whole f n) front other some h = cc

-- and asks nothing
other-asks : (at : ℕ) (read : Read) (e : Engine) → is_whole read ≡ false → row_questions at read e ≡ []
other-asks at (Whole f n) e other = cc
other-asks at More e other = refl
other-asks at (TooLarge size) e other = refl
other-asks at (BadHeartbeat channel) e other = refl
other-asks at Bad e other = refl
other-asks at NoMemory e other = refl

record Reads (at : ℕ) (r : Result Bool Refused) (e e' : Engine) (state : Exchange → Type 0) (list : List Asked) (S T : Type 0) : Type 0 where
  some : IfOk r (λ b. b ≡ can_read e)
  ok : IfOk r (λ b. b ≡ true → RowHears at (front_of e) e e' state state list list)
  none : IfOk r (λ b. b ≡ false → (e' ≡ e) × S × T)

other-reads : (at : ℕ) (r : Result Bool Refused) (e e' : Engine) (read : Read) (state : Exchange → Type 0) (list : List Asked) (S T : Type 0) → S → T → is_open e.talk ≡ true → IfOk r (λ b. b ≡ not (is_more read))
    → IfOk r (λ b. (answers : List Asked) → e' ≡ (if b then read_row at read answers e else e)) → OnOk r (read ≢ NoMemory) → is_whole read ≡ false → Yields read (front_of e)
    → Reads at r e e' state list S T
other-reads at (Ok b) e e' read state list S T s u opened more after some other h =
    let front : front_of e ≡ read = other-front read (front_of e) other some h in
    record {
      some = more ∙ ap (λ r. not (is_more r)) (sym front) ∙ ap (λ c. c && not (is_more (front_of e))) (sym opened);
      ok = λ found. subst (λ (r : Read). RowHears at r e e' state state list list) (sym front)
          (record {
            answers = [];
            asks = subst (λ q. Asks q [] state state list list) (sym (other-asks at read e other)) (asks-none state list (append-nil list));
            engine = after [] ∙ ap (λ (c : Bool). if c then read_row at read [] e else e) found;
          });
      none = λ no. (after [] ∙ ap (λ (c : Bool). if c then read_row at read [] e else e) no, s, u);
    }
other-reads at (Err x) e e' read state list S T s u opened more after some other h = record { some = tt; ok = tt; none = tt }

not-whole : (read : Read) → ((f : Frame) (n : ℕ) → read ≡ Whole f n → ⊥) → is_whole read ≡ false
not-whole (Whole f n) h = absurd (h f n refl)
not-whole More h = refl
not-whole (TooLarge size) h = refl
not-whole (BadHeartbeat channel) h = refl
not-whole Bad h = refl
not-whole NoMemory h = refl

-- where memory is refused for what stands at the front, something stands there
yields-some : (read front : Read) → is_more read ≡ false → Yields read front → is_more front ≡ false
yields-some More front some h = cc
yields-some (Whole f n) front some h = ap is_more h
yields-some (TooLarge size) front some h = ap is_more h
yields-some (BadHeartbeat channel) front some h = ap is_more h
yields-some Bad front some h = ap is_more h
yields-some NoMemory (Whole f n) some h = refl
yields-some NoMemory Bad some h = refl
yields-some NoMemory More some h = absurd h
yields-some NoMemory (TooLarge size) some h = absurd h
yields-some NoMemory (BadHeartbeat channel) some h = absurd h
yields-some NoMemory NoMemory some h = absurd h

pub returns-in_default : goal.returns-in_default
returns-in_default g c =
    let e = c.args.self.now in
    let read = c.read_frame.result in
    let list : List Asked = c.args.auths.now.list in
    let opened : is_open e.talk ≡ true = ap (λ (x : Engine). is_open x.talk) (sym c.self.view_is) ∙ sym c.is_open.ensures ∙ c.if-not-is_open.false in
    let P : Read → Type 0 = λ x. Yields read x in
    let exact : Yields read (front_of e) = subst P
    (ap (λ (bytes : List ℕ). front bytes c.frame_limit.result) c.parsing_context-received.ensures ∙ ap (front c.self.inside.unread.kept) c.frame_limit.ensures.octets ∙ ap front_of c.self.view_is)
    c.read_frame.ensures.exact in
    let r = other-reads c.args.at c.read_other-found.result e c.read_other-found.new.self read (g.A.AuthProvider.allows c.args.provider.now) list
    (c.args.auths.now ≡ c.args.auths.now) (c.args.provider.now ≡ c.args.provider.now) refl refl opened
    c.read_other-found.ensures.some c.read_other-found.ensures.ok c.read_other-found.ensures.held (not-whole read c.in_default.not-Whole) exact in
    record {
      can = c.requires;
      some = r.some;
      ok = r.ok;
      none = r.none;
      err = c.read_other-found.ensures.err;
      unanswered = on-err c.read_other-found.result (unanswered-none (λ answers. read_questions c.args.at e) (g.A.AuthProvider.allows c.args.provider.now) list list refl);
      refused = on-err-then c.read_other-found.result
          (λ some. ap (λ (b : Bool). b && not (is_more (front_of e))) opened ∙ ap not (yields-some read (front_of e) some exact))
          c.read_other-found.ensures.some_read;
      never_falls = omega arith;
      blames = blames-other c.args.at c.read_other-found.result e c.read_other-found.new.self read _ _ c.read_other-found.ensures.ok
          c.read_other-found.ensures.held c.read_other-found.ensures.err (not-whole read c.in_default.not-Whole);
    }
