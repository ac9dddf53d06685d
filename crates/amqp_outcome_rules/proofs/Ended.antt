-- When a session ends Closed, and what is remembered of the server's close.
use Rattle.std.proofs.Common.{◌≡◌, ◌⊎◌, inl, inr, ◌≤◌, ◌-◌, ◌==◌, ◌&&◌, ◌||◌, ◌++◌, not, ℕ, zero, nat_le, Bool, true, false, true≢false, if◌then◌else◌, List, [], ◌∷◌, Option, Some, None, is_some, Result, Ok, Err, refl, ap, sym, ◌∙◌, subst, arith}
use Rattle.std.proofs.lemmas.Bool.Decides.{nat_tests}
use Rattle.std.specs.Prelude.{drop}
use Rattle.std.specs.List.{list_any}
use Rattle.amqp_types.specs.Codes.{soft_codes, hard_codes, kind_of}
use Rattle.amqp_types.specs.declared.error.AMQPErrorKind.TheVariants.{Soft, Hard}
use Rattle.amqp_frame.specs.declared.frame.Frame.{Frame}
use Rattle.amqp_frame.specs.declared.frame.Frame.TheVariants.{Method}
use Rattle.amqp_frame.specs.declared.method.Method.TheVariants.{Close, CloseOk}
use Rattle.amqp_outbox.specs.declared.item.Item.{Item}
use Rattle.amqp_outbox.specs.declared.reply.Reply.TheVariants.{ConnectionClosed}
use Rattle.amqp_outbox.specs.Queued.{awaited_promise, waiting_items}
use Rattle.amqp_promise.specs.declared.io_fault.IoFault.{IoFault}
use Rattle.amqp_promise.specs.declared.state.ConnectionState.{ConnectionState}
use Rattle.amqp_promise.specs.declared.state.ConnectionState.TheVariants.{Closing}
use Rattle.amqp_promise.specs.declared.error.ErrorKind.{ErrorKind}
use Rattle.amqp_promise.specs.declared.error.ErrorKind.TheVariants.{IOError, ProtocolError}
use Rattle.amqp_auth.specs.declared.asked.Asked.{Asked}
use Rattle.amqp_answers.specs.declared.answer.Answer.TheVariants.{Sent}
use Rattle.amqp_outgoing.specs.declared.committed.Mark.{Mark}
use Rattle.amqp_outgoing.specs.declared.committed.Then.{Then}
use Rattle.amqp_outgoing.specs.declared.committed.Then.TheVariants.{Nothing, Answer, Pays, Finish}
use Rattle.amqp_violations.specs.declared.server_close.ServerClose.{ServerClose}
use Rattle.amqp_violations.specs.declared.server_close.ServerClose.TheVariants.{WithoutError, WithError}
use Rattle.amqp_rules.specs.declared.state.Input.{Input}
use Rattle.amqp_rules.specs.declared.state.Input.TheVariants.{Acting, Closed, Dropped}
use Rattle.amqp_rules.specs.declared.state.Link.{Link}
use Rattle.amqp_rules.specs.declared.state.Link.TheVariants.{Asked as AskedFor, Due, Ended, Open, Wanted}
use Rattle.amqp_settings.specs.Config.{Config}
use Rattle.amqp_rules.specs.Talk.{Talk, acts, end_of, end_of_link, hears_on, is_acting, is_asked_link, is_closing, is_open, is_open_link, start}
use Rattle.amqp_rules.specs.Changes.{close, finish, finish_by, give, lose}
use Rattle.amqp_rules.specs.Channels.{channel_at}
use Rattle.amqp_rules.specs.ConnectionMethods.{connection_closed, connection_rule}
use Rattle.amqp_rules.specs.Frames.{closed_rule, frame_rule, on_frame}
use Rattle.amqp_rules.specs.Links.{asked_link, dropped, lost}
use Rattle.amqp_rules.specs.Sound.{IsSound, NoneFinishes, following, is_finish}
use Rattle.amqp_rules.specs.Ticks.{link_at}
use Rattle.amqp_violations.specs.Violations.{closed_with}
use Rattle.amqp_rules.specs.Writing.{channel_close_ok_sent, follow, sent, sent_among, taken}
use Rattle.amqp_rules.proofs.Finishing.{acting-none}
use Rattle.amqp_rules.proofs.Keeping.{off-finish}
use Rattle.amqp_rules.proofs.Recovering.{lose-case}
use Rattle.amqp_rules.proofs.Sending.{pay-keeps, sent_among-closed}
use Rattle.amqp_types.proofs.Small.{and-left, and-right, and-true, at-most, if_by, if_case, if-false, if-true, is-at-most, some_is}
use Rattle.amqp_outcome_rules.specs.Closings.{EndsClosed, IsCloseAs, IsClosedEnd, IsFinishSent, IsWithoutError, KnowsClose, RemembersClose, StaysKnown, is_error_code}
use Rattle.amqp_outcome_rules.proofs.Linking.{In, LinkRows, Linked, in-answer, in-asked, in-event, in-failed, in-frame, in-gone, in-linked, in-misread, in-moment, in-next, in-piece, in-starved, in-taken, in-tick, in-told}

-- ---- the end of a link

-- a link that has ended Closed
abbrev ClosedLink : Link ErrorKind → Type 0
ClosedLink l = end_of_link l ≡ Some (Ok tt)

closed-asked : (l : Link ErrorKind) → ClosedLink (asked_link l) → ClosedLink l
closed-asked Wanted h = absurd cc
closed-asked l h = h

closed-due : (now : ℕ) (l : Link ErrorKind) → ClosedLink (link_at now l) → ClosedLink l
closed-due now (Due moment) h =
    if_case (λ (l : Link ErrorKind). ClosedLink l → ClosedLink (Due moment)) (nat_le moment now) Wanted (Due moment) (λ k. absurd cc) (λ k. k) h
closed-due now l h = h

closed-shut : (l : Link ErrorKind) → ClosedLink l → is_open_link l ≡ false
closed-shut (Ended r) h = refl
closed-shut Wanted h = absurd cc
closed-shut AskedFor h = absurd cc
closed-shut Open h = absurd cc
closed-shut (Due moment) h = absurd cc

module _ (P : Type 0) where
  -- the session has ended Closed only where this is so
  abbrev pub OnlyWhere : Linked
  OnlyWhere l i c = ClosedLink l → P

  only-rows : LinkRows OnlyWhere
  only-rows = record {
    asks = λ l i c h k. h (closed-asked l k);
    comes = λ l i c asks h k. absurd cc;
    waits = λ l i c moment asks h k. absurd cc;
    wants = λ now l i c h k. h (closed-due now l k);
    drops = λ l i c h k. h k;
    fails = λ l i c e h k. absurd cc;
    reconnects = λ l i c moment h k. absurd cc;
  }

lost-open : (e : ErrorKind) (t : Talk) → IsClosedEnd (lose e t) → ⊥
lost-open e t = lose-case (λ (x : Talk). IsClosedEnd x → ⊥) e t (λ delay h. cc) (λ h. cc)

finish-only : (o : Option ServerClose) (t : Talk) → IsClosedEnd (finish_by o t) → IsWithoutError o
finish-only None t h = tt
finish-only (Some WithoutError) t h = tt
finish-only (Some (WithError e)) t h = lost-open (ProtocolError e) t h

finish-closes : (o : Option ServerClose) (t : Talk) → IsWithoutError o → IsClosedEnd (finish_by o t)
finish-closes None t h = refl
finish-closes (Some WithoutError) t h = refl
finish-closes (Some (WithError e)) t h = absurd h

-- ---- frames

module _ (f : Frame) (answers : List Asked) (t : Talk) where
  abbrev Cause : Type 0
  Cause = (acts t ≡ true) × (f ≡ Method 0 CloseOk) × (t.state ≡ Closing)

  frame-only : IsClosedEnd (on_frame f answers t) → IsClosedEnd t ⊎ Cause
  frame-only =
      in-frame (OnlyWhere (IsClosedEnd t ⊎ Cause)) (only-rows (IsClosedEnd t ⊎ Cause)) answers t (λ h. inl h) f (λ code text class method on is h. inl h)
      (λ on is held h. inr (on, is, held))

  shut-frame : is_open t ≡ false → on_frame f answers t ≡ t
  shut-frame shut =
      if-false (acts t) (frame_rule f answers t) (if hears_on t then closed_rule f t else t) (ap (λ (b : Bool). b && is_acting t.input) shut)
      ∙ if_by (λ (x : Talk). x ≡ t) (hears_on t) (closed_rule f t) t
      (λ hears. absurd (true≢false (sym (and-left (is_open t) _ hears) ∙ shut))) (λ deaf. refl)

  closed-answered : (o : Option (Option ℕ)) → IsClosedEnd (connection_closed o t)
  closed-answered None = refl
  closed-answered (Some promise) = refl

  frame-closes : IsClosedEnd t ⊎ Cause → IsClosedEnd (on_frame f answers t)
  frame-closes (inl h) = ap end_of (shut-frame (closed-shut t.link h)) ∙ h
  frame-closes (inr (on, is, held)) =
      ap end_of (if-true (acts t) (frame_rule f answers t) (if hears_on t then closed_rule f t else t) on)
      ∙ ap (λ (x : Frame). end_of (frame_rule x answers t)) is
      ∙ ap (λ (s : ConnectionState). end_of (connection_rule s t.phase CloseOk answers t)) held
      ∙ closed-answered (awaited_promise 0 ConnectionClosed t.outbox)

-- ---- the link is lost

module _ (fault : IoFault) (t : Talk) where
  abbrev LostCause : Type 0
  LostCause = (is_open t ≡ true) × (acts t ≡ false) × IsWithoutError t.server_close

  lost-only : IsClosedEnd (lost fault t) → IsClosedEnd t ⊎ LostCause
  lost-only =
      if_by (λ (x : Talk). IsClosedEnd x → IsClosedEnd t ⊎ LostCause) (acts t) (lose (IOError fault) t) (if is_open t then finish t else t)
      (λ on h. absurd (lost-open (IOError fault) t h))
      (λ off. if_by (λ (x : Talk). IsClosedEnd x → IsClosedEnd t ⊎ LostCause) (is_open t) (finish t) t
      (λ opened h. inr (opened, off, finish-only t.server_close t h)) (λ shut h. inl h))

  lost-closes : IsClosedEnd t ⊎ LostCause → IsClosedEnd (lost fault t)
  lost-closes (inl h) =
      let shut : is_open t ≡ false = closed-shut t.link h in
      ap end_of (if-false (acts t) (lose (IOError fault) t) (if is_open t then finish t else t) (ap (λ (b : Bool). b && is_acting t.input) shut)
      ∙ if-false (is_open t) (finish t) t shut)
      ∙ h
  lost-closes (inr (opened, off, without)) =
      ap end_of (if-false (acts t) (lose (IOError fault) t) (if is_open t then finish t else t) off ∙ if-true (is_open t) (finish t) t opened)
      ∙ finish-closes t.server_close t without

-- ---- bytes that were taken

module _ (t : Talk) where
  -- these frames end the session Closed only where our answer is among them
  abbrev SentOnly : List Mark → ℕ → Talk → Type 0
  SentOnly ms n x = IsClosedEnd x → IsClosedEnd t ⊎ (IsFinishSent ms n × IsWithoutError t.server_close)

  -- the session goes on as before, but for what was sent
  record Stands (u : Talk) : Type 0 where
    close : u.server_close ≡ t.server_close
    ended : IsClosedEnd u → IsClosedEnd t

  paid-stands : (c : ℕ) (u : Talk) → Stands u → Stands (channel_close_ok_sent c u)
  paid-stands c u k =
      let o = channel_at c u in
      record {
        close = pay-keeps (λ (y : Talk). y.server_close) (λ y cs ns. refl) o c u ∙ k.close;
        ended = λ h. k.ended (sym (pay-keeps end_of (λ y cs ns. refl) o c u) ∙ h);
      }

  sent-only : (ms : List Mark) (n : ℕ) (u : Talk) → Stands u → SentOnly ms n (sent_among ms n u)
  sent-only [] n u k = λ h. inl (k.ended h)
  sent-only (m ∷ ms) n u k =
      if_case (SentOnly (m ∷ ms) n) (is_open u)
      (if nat_le m.left n then sent_among ms (n - m.left) (sent m u) else record u { committed = record m { left = m.left - n } ∷ ms }) u
      (if_by (SentOnly (m ∷ ms) n) (nat_le m.left n) (sent_among ms (n - m.left) (sent m u)) (record u { committed = record m { left = m.left - n } ∷ ms })
      (λ fits. by m.then refl fits (λ v there. sent-only ms (n - m.left) v there)) (λ over h. inl (k.ended h)))
      (λ h. inl (k.ended h))
    where
      x : Talk
      x = record u { committed = drop 1 u.committed }

      behind : (v : Talk) → nat_le m.left n ≡ true → SentOnly ms (n - m.left) (sent_among ms (n - m.left) v) → SentOnly (m ∷ ms) n (sent_among ms (n - m.left) v)
      behind v fits among h =
          elim (among h) [ inl before ↦ inl before | inr later ↦ inr ((at-most m.left n fits, inr later.0), later.1) ]

      by : (th : Then) → m.then ≡ th → nat_le m.left n ≡ true → ((v : Talk) → Stands v → SentOnly ms (n - m.left) (sent_among ms (n - m.left) v))
          → SentOnly (m ∷ ms) n (sent_among ms (n - m.left) (follow th x))
      by Nothing is fits later = behind x fits (later x (record { close = k.close; ended = k.ended }))
      by (Answer j) is fits later = behind (give j (Ok Sent) x) fits (later (give j (Ok Sent) x) (record { close = k.close; ended = k.ended }))
      by (Pays c) is fits later =
          behind (channel_close_ok_sent c x) fits (later (channel_close_ok_sent c x) (paid-stands c x (record { close = k.close; ended = k.ended })))
      by Finish is fits later =
          let same = sent_among-closed ms (n - m.left) (finish x) (off-finish x.server_close x).opened in
          λ h. inr ((at-most m.left n fits, inl is), subst IsWithoutError k.close (finish-only x.server_close x (ap end_of (sym same) ∙ h)))

  -- where our answer is among them, they do
  sent-closes : (ms : List Mark) (n : ℕ) (u : Talk) → is_open u ≡ true → u.server_close ≡ t.server_close → IsFinishSent ms n → IsWithoutError t.server_close
      → IsClosedEnd (sent_among ms n u)
  sent-closes [] n u opened same is without = absurd is
  sent-closes (m ∷ ms) n u opened same (fits, is) without =
      ap end_of (if-true (is_open u) (if nat_le m.left n then sent_among ms (n - m.left) (sent m u) else record u { committed = record m { left = m.left - n } ∷ ms }) u opened
      ∙ if-true (nat_le m.left n) (sent_among ms (n - m.left) (sent m u)) (record u { committed = record m { left = m.left - n } ∷ ms }) (is-at-most m.left n fits))
      ∙ by m.then refl is (λ v opens closes there. sent-closes ms (n - m.left) v opens closes there without)
    where
      x : Talk
      x = record u { committed = drop 1 u.committed }

      by : (th : Then) → m.then ≡ th → (m.then ≡ Finish) ⊎ IsFinishSent ms (n - m.left)
          → ((v : Talk) → is_open v ≡ true → v.server_close ≡ t.server_close → IsFinishSent ms (n - m.left) → IsClosedEnd (sent_among ms (n - m.left) v))
          → IsClosedEnd (sent_among ms (n - m.left) (follow th x))
      by Finish e k behind =
          ap end_of (sent_among-closed ms (n - m.left) (finish x) (off-finish x.server_close x).opened)
          ∙ finish-closes x.server_close x (subst IsWithoutError (sym same) without)
      by Nothing e (inr later) behind = behind x opened same later
      by Nothing e (inl now) behind = (let clash : Nothing ≡ Finish = sym e ∙ now in absurd cc)
      by (Answer j) e (inr later) behind = behind (give j (Ok Sent) x) opened same later
      by (Answer j) e (inl now) behind = (let clash : Answer j ≡ Finish = sym e ∙ now in absurd cc)
      by (Pays c) e (inr later) behind =
          behind (channel_close_ok_sent c x)
          (pay-keeps is_open (λ y cs ns. refl) (channel_at c x) c x ∙ opened)
          (pay-keeps (λ (y : Talk). y.server_close) (λ y cs ns. refl) (channel_at c x) c x ∙ same) later
      by (Pays c) e (inl now) behind = (let clash : Pays c ≡ Finish = sym e ∙ now in absurd cc)

  abbrev TakenCause : ℕ → Type 0
  TakenCause n = (is_open t ≡ true) × (1 ≤ n) × IsFinishSent t.committed n × IsWithoutError t.server_close

  some-taken : (n : ℕ) → not (n == 0) ≡ true → 1 ≤ n
  some-taken n h = grind (arith, nat_tests, h)

  is-taken : (n : ℕ) → 1 ≤ n → not (n == 0) ≡ true
  is-taken n h = grind (arith, nat_tests, h)

  taken-only : (n : ℕ) → IsClosedEnd (taken n t) → IsClosedEnd t ⊎ TakenCause n
  taken-only n =
      let u : Talk = record t { last_write = t.present } in
      if_by (λ (x : Talk). IsClosedEnd x → IsClosedEnd t ⊎ TakenCause n) (is_open t && not (n == 0)) (sent_among t.committed n u) t
      (λ does h. elim (sent-only t.committed n u (record { close = refl; ended = λ k. k }) h) [
        | inl before ↦ inl before
        | inr sent ↦ inr (and-left (is_open t) (not (n == 0)) does, some-taken n (and-right (is_open t) (not (n == 0)) does), sent.0, sent.1)
      ])
      (λ idle h. inl h)

  taken-closes : (n : ℕ) → IsClosedEnd t ⊎ TakenCause n → IsClosedEnd (taken n t)
  taken-closes n (inl h) =
      let u : Talk = record t { last_write = t.present } in
      ap end_of (if-false (is_open t && not (n == 0)) (sent_among t.committed n u) t (ap (λ (b : Bool). b && not (n == 0)) (closed-shut t.link h))) ∙ h
  taken-closes n (inr (opened, some, is, without)) =
      let u : Talk = record t { last_write = t.present } in
      ap end_of (if-true (is_open t && not (n == 0)) (sent_among t.committed n u) t (and-true (is_open t) (not (n == 0)) opened (is-taken n some)))
      ∙ sent-closes t.committed n u opened refl is without

-- what finishes is not among frames of which none does
none-sent : (ms : List Mark) (items : List Item) (n : ℕ) → NoneFinishes (following ms items) → IsFinishSent ms n → ⊥
none-sent [] items n none is = is
none-sent (m ∷ ms) items n none (fits, inl is) = true≢false (sym (ap is_finish is) ∙ none.0)
none-sent (m ∷ ms) items n none (fits, inr is) = none-sent ms items (n - m.left) none.1 is

answered-last : (t : Talk) (n : ℕ) → IsSound t → IsFinishSent t.committed n → acts t ≡ false
answered-last t n sound is = by (acts t) refl where
  by : (b : Bool) → acts t ≡ b → b ≡ false
  by false e = refl
  by true e =
      absurd (none-sent t.committed (waiting_items t.outbox) n
      (acting-none t.input (following t.committed (waiting_items t.outbox)) (and-right (is_open t) (is_acting t.input) e) sound.finish) is)

pub ends-closed : (t : Talk) → EndsClosed t
ends-closed t =
    let R : Linked = OnlyWhere (IsClosedEnd t) in
    let rows : LinkRows R = only-rows (IsClosedEnd t) in
    let h : In R t = λ k. k in
    record {
      frame = λ f answers. (frame-only f answers t, frame-closes f answers t);
      lost = λ fault. (lost-only fault t, lost-closes fault t);
      taken = λ n. (taken-only t n, taken-closes t n);
      answered = λ n sound is. answered-last t n sound is;
      moment = λ at. in-moment R rows at t h;
      asked = in-asked R rows t h;
      linked = in-linked R rows t h;
      link_failed = in-failed R rows t h;
      piece = in-piece R rows t h;
      misread = λ why. in-misread R rows why t h;
      tick = λ answers. in-tick R rows answers t h;
      next_frame = λ space. in-next R rows space t h;
      starve = in-starved R rows t h;
      command = λ cmd. in-told R rows cmd t h;
      answer = λ number. in-answer R rows number t h;
      event = in-event R rows t h;
      frames = λ opened k. k;
    }

-- ---- how the server closed

either : (a b : Bool) → is_some (if a then Some Soft else if b then Some Hard else None) ≡ (a || b)
either true b = refl
either false true = refl
either false false = refl

joined : (code : ℕ) (xs ys : List ℕ) → list_any (λ k. code == k) (xs ++ ys) ≡ (list_any (λ k. code == k) xs || list_any (λ k. code == k) ys)
joined code [] ys = refl
joined code (x ∷ xs) ys = by (code == x) (joined code xs ys) where
  by : (b : Bool) → list_any (λ k. code == k) (xs ++ ys) ≡ (list_any (λ k. code == k) xs || list_any (λ k. code == k) ys)
      → (b || list_any (λ k. code == k) (xs ++ ys)) ≡ ((b || list_any (λ k. code == k) xs) || list_any (λ k. code == k) ys)
  by true rest = refl
  by false rest = rest

-- a code is one of an error exactly where it has a kind
same-code : (code : ℕ) → is_some (kind_of code) ≡ is_error_code code
same-code code =
    either (list_any (λ k. code == k) soft_codes) (list_any (λ k. code == k) hard_codes) ∙ sym (joined code soft_codes hard_codes)

module _ (code : ℕ) (text : List ℕ) (class method : ℕ) where
  abbrev Said : Frame
  Said = Method 0 (Close code text class method)

  -- as which the close is remembered
  remembered-as : (close : ServerClose) → IsCloseAs Said close → closed_with code text ≡ close
  remembered-as (WithError e) (error, same, told) =
      if-true (is_some (kind_of code)) (WithError (record { code = code; message = text })) WithoutError (same-code code ∙ error)
      ∙ ap (λ (k : ℕ). WithError (record { code = k; message = text })) (sym same)
      ∙ ap (λ (m : List ℕ). WithError (record { code = e.code; message = m })) (sym told)
  remembered-as WithoutError other =
      if-false (is_some (kind_of code)) (WithError (record { code = code; message = text })) WithoutError (same-code code ∙ other)

  said-as : (close : ServerClose) → closed_with code text ≡ close → IsCloseAs Said close
  said-as close is = subst (IsCloseAs Said) is (by (is_some (kind_of code)) refl) where
    by : (b : Bool) → is_some (kind_of code) ≡ b → IsCloseAs Said (if b then WithError (record { code = code; message = text }) else WithoutError)
    by true e = (sym (same-code code) ∙ e, refl, refl)
    by false e = sym (same-code code) ∙ e

module _ (P : ServerClose → Type 0) where
  -- what is remembered of the server's close is so
  abbrev pub Remembered : Linked
  Remembered l i c = (close : ServerClose) → c ≡ Some close → P close

  remembered-rows : LinkRows Remembered
  remembered-rows = record {
    asks = λ l i c h. h;
    comes = λ l i c asks h. h;
    waits = λ l i c moment asks h. h;
    wants = λ now l i c h. h;
    drops = λ l i c h. h;
    fails = λ l i c e h. h;
    reconnects = λ l i c moment h close is. absurd cc;
  }

said-remembered : (f : Frame) (answers : List Asked) (close : ServerClose) (t : Talk) → acts t ≡ true → IsCloseAs f close → (on_frame f answers t).server_close ≡ Some close
said-remembered f answers close t on is =
    ap (λ (x : Talk). x.server_close) (if-true (acts t) (frame_rule f answers t) (if hears_on t then closed_rule f t else t) on) ∙ by f is
  where
    by : (g : Frame) → IsCloseAs g close → (frame_rule g answers t).server_close ≡ Some close
    by (Method zero (Close code text class method)) k = ap (λ (c : ServerClose). Some c) (remembered-as code text class method close k)
    by g k = absurd k

only-said : (f : Frame) (answers : List Asked) (t : Talk) (close : ServerClose) → (on_frame f answers t).server_close ≡ Some close
    → (t.server_close ≡ Some close) ⊎ ((acts t ≡ true) × IsCloseAs f close)
only-said f answers t =
    let P : ServerClose → Type 0 = λ close. (t.server_close ≡ Some close) ⊎ ((acts t ≡ true) × IsCloseAs f close) in
    in-frame (Remembered P) (remembered-rows P) answers t (λ close is. inl is) f
    (λ code text class method on is close same.
    inr (on, subst (λ (g : Frame). IsCloseAs g close) (sym is) (said-as code text class method close (some_is (closed_with code text) close same))))
    (λ on is held close same. inl same)

pub remembers-close : (t : Talk) → RemembersClose t
remembers-close t =
    let P : ServerClose → Type 0 = λ close. t.server_close ≡ Some close in
    let R : Linked = Remembered P in
    let rows : LinkRows R = remembered-rows P in
    let h : In R t = λ close is. is in
    record {
      said = λ f answers close on is. said-remembered f answers close t on is;
      only = λ f answers close same. only-said f answers t close same;
      moment = λ at. in-moment R rows at t h;
      asked = in-asked R rows t h;
      linked = in-linked R rows t h;
      link_failed = in-failed R rows t h;
      piece = in-piece R rows t h;
      misread = λ why. in-misread R rows why t h;
      lost = λ fault. in-gone R rows (λ l i c k. k) fault t h;
      tick = λ answers. in-tick R rows answers t h;
      next_frame = λ space. in-next R rows space t h;
      taken = λ n. in-taken R rows (λ l i c k. k) n t h;
      starve = in-starved R rows t h;
      command = λ cmd. in-told R rows cmd t h;
      answer = λ number. in-answer R rows number t h;
      event = in-event R rows t h;
      frames = λ opened close is. is;
    }

-- ---- that it is remembered from then on

-- on an open link frames act exactly until the server closed; without a link nothing is remembered
abbrev Knows : Linked
Knows l i c =
    ((is_open_link l && is_acting i) ≡ true → c ≡ None)
    × (is_open_link l ≡ true → (is_open_link l && is_acting i) ≡ false → is_some c ≡ true)
    × (is_open_link l ≡ false → is_some (end_of_link l) ≡ false → c ≡ None)

knows-asked : (l : Link ErrorKind) (i : Input) (c : Option ServerClose) → Knows l i c → Knows (asked_link l) i c
knows-asked Wanted i c h = h
knows-asked l i c h = h

knows-linked : (l : Link ErrorKind) (i : Input) (c : Option ServerClose) → is_asked_link l ≡ true → Knows l i c → Knows Open Acting c
knows-linked AskedFor i c asks h = ((λ on. h.2 refl refl), (λ opened off. absurd cc), (λ shut going. absurd cc))
knows-linked _ i c asks h = absurd cc

knows-waits : (l : Link ErrorKind) (i : Input) (c : Option ServerClose) (moment : ℕ) → is_asked_link l ≡ true → Knows l i c → Knows (Due moment) i c
knows-waits AskedFor i c moment asks h = h
knows-waits _ i c moment asks h = absurd cc

knows-wants : (now : ℕ) (l : Link ErrorKind) (i : Input) (c : Option ServerClose) → Knows l i c → Knows (link_at now l) i c
knows-wants now (Due moment) i c h = if_case (λ (l : Link ErrorKind). Knows l i c) (nat_le moment now) Wanted (Due moment) h h
knows-wants now l i c h = h

knows-drops : (l : Link ErrorKind) (i : Input) (c : Option ServerClose) → Knows l i c → Knows l (dropped i) c
knows-drops l Acting c h = h
knows-drops l (Closed crossed) c h = h
knows-drops l (Dropped crossed) c h = h

knows-ended : (r : Result (Unit {0}) ErrorKind) (i : Input) (c : Option ServerClose) → Knows (Ended r) i c
knows-ended r i c = ((λ on. absurd cc), (λ opened off. absurd cc), (λ shut going. absurd cc))

knows-rows : LinkRows Knows
knows-rows = record {
  asks = knows-asked;
  comes = knows-linked;
  waits = knows-waits;
  wants = knows-wants;
  drops = knows-drops;
  fails = λ l i c e h. knows-ended (Err e) i c;
  reconnects = λ l i c moment h. ((λ on. refl), (λ opened off. absurd cc), (λ shut going. refl));
}

-- the server closes on an open link
knows-closed : (l : Link ErrorKind) (crossed : Bool) (close : ServerClose) → is_open_link l ≡ true → Knows l (Closed crossed) (Some close)
knows-closed l crossed close opened =
    ((λ on. absurd (true≢false (sym (and-right (is_open_link l) false on)))), (λ still off. refl), (λ shut going. absurd (true≢false (sym opened ∙ shut))))

knows-frame : (f : Frame) (answers : List Asked) (t : Talk) → In Knows t → In Knows (on_frame f answers t)
knows-frame f answers t h =
    in-frame Knows knows-rows answers t h f
    (λ code text class method on is. knows-closed t.link (is_closing t.state) (closed_with code text) (and-left (is_open t) (is_acting t.input) on))
    (λ on is held. knows-ended (Ok tt) t.input t.server_close)

from-known : (t : Talk) → KnowsClose t → In Knows t
from-known t k = (k.acting, k.closed, k.unlinked)

known : (t : Talk) → In Knows t → KnowsClose t
known t h = record { acting = h.0; closed = h.1; unlinked = h.2 }

pub known-first : (c : Config) → KnowsClose (start c)
known-first c = record { acting = λ on. refl; closed = λ opened off. absurd cc; unlinked = λ shut going. refl }

pub stays-known : (t : Talk) → KnowsClose t → StaysKnown t
stays-known t k =
    let h : In Knows t = from-known t k in
    let ends : (l : Link ErrorKind) (i : Input) (c : Option ServerClose) → Knows l i c → Knows (Ended (Ok tt)) i c = λ l i c g. knows-ended (Ok tt) i c in
    record {
      frame = λ f answers. known _ (knows-frame f answers t h);
      moment = λ at. known _ (in-moment Knows knows-rows at t h);
      asked = known _ (in-asked Knows knows-rows t h);
      linked = known _ (in-linked Knows knows-rows t h);
      link_failed = known _ (in-failed Knows knows-rows t h);
      piece = known _ (in-piece Knows knows-rows t h);
      misread = λ why. known _ (in-misread Knows knows-rows why t h);
      lost = λ fault. known _ (in-gone Knows knows-rows ends fault t h);
      tick = λ answers. known _ (in-tick Knows knows-rows answers t h);
      next_frame = λ space. known _ (in-next Knows knows-rows space t h);
      taken = λ n. known _ (in-taken Knows knows-rows ends n t h);
      starve = known _ (in-starved Knows knows-rows t h);
      command = λ cmd. known _ (in-told Knows knows-rows cmd t h);
      answer = λ number. known _ (in-answer Knows knows-rows number t h);
      event = known _ (in-event Knows knows-rows t h);
      frames = λ opened. known _ h;
    }
