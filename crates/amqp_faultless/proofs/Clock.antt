-- The present, and the moment of the last reading: no rule changes them but those that tell the time, or bring a link or a piece.
use Rattle.std.proofs.Common.{◌≡◌, ◌≤◌, ℕ, ◌-◌, ◌==◌, ◌&&◌, not, nat_le, max, if◌then◌else◌, true, false, List, [], ◌∷◌, drop, refl, sym, subst, arith}
use Rattle.amqp_frame.specs.declared.frame.Frame.{Frame}
use Rattle.amqp_promise.specs.declared.error.ErrorKind.{ErrorKind}
use Rattle.amqp_commands.specs.declared.command.Cmd.{Cmd}
use Rattle.amqp_outgoing.specs.declared.committed.Mark.{Mark}
use Rattle.amqp_violations.specs.declared.misread.Misread.{Misread}
use Rattle.amqp_auth.specs.declared.asked.Asked.{Asked as ProviderAnswer}
use Rattle.amqp_rules.specs.Talk.{Talk, is_open, is_asked, has_ended}
use Rattle.amqp_rules.specs.Changes.{present_at, lose}
use Rattle.amqp_rules.specs.Commands.{command}
use Rattle.amqp_rules.specs.Frames.{on_frame}
use Rattle.amqp_rules.specs.Links.{linked, misread, piece, asked}
use Rattle.amqp_rules.specs.Ticks.{tick, is_missed}
use Rattle.amqp_rules.specs.Writing.{follow, sent, sent_among, taken}
use Rattle.amqp_types.proofs.Small.{if_case, if-true, if-false}
use Rattle.amqp_rules.proofs.Recovering.{lose-case}
use Rattle.amqp_rules.proofs.Sending.{follow-keeps}
use Rattle.amqp_rules.proofs.Walk.{ChannelRows, PassedRows, ConnectionRows, CommandRows, misread-keeps, start-keeps, secure-keeps, frame-keeps, tick-keeps, command-keeps}

-- the session was told no later moment than this one, and of no earlier piece than the last; a link counts as read when it comes
abbrev pub IsClock : ℕ → ℕ → Talk → Type 0
IsClock moment last t = (t.present ≤ moment) × (last ≤ t.last_read)

-- ---- the time, a piece and a link

-- the time is told
pub clock-present : (moment last at : ℕ) (t : Talk) → moment ≤ at → IsClock moment last t → IsClock at last (present_at at t)
clock-present moment last at t rise h =
    if_case (IsClock at last) (has_ended t) t (record t { present = max t.present at })
    (omega (arith, rise, h.0), h.1)
    (omega (arith, rise, h.0), h.1)

-- a piece comes on an open link
pub clock-piece : (moment last at : ℕ) (t : Talk) → has_ended t ≡ false → is_open t ≡ true → moment ≤ at → IsClock moment last t
    → IsClock at at (piece (present_at at t))
clock-piece moment last at t running opened rise h =
    let x : Talk = record t { present = max t.present at } in
    let same : present_at at t ≡ x = if-false (has_ended t) t x running in
    let read : piece x ≡ record x { last_read = x.present } = if-true (is_open x) (record x { last_read = x.present }) x opened in
    let P : Talk → Type 0 = λ y. IsClock at at (piece y) in
    subst P (sym same) (subst (IsClock at at) (sym read) (omega (arith, rise, h.0), omega arith))

-- a link is asked for
pub clock-asked : (moment last : ℕ) (t : Talk) → IsClock moment last t → IsClock moment last (asked t)
clock-asked moment last t h = h

-- the link comes
pub clock-linked : (moment : ℕ) (t : Talk) → is_asked t ≡ true → IsClock moment 0 t → IsClock moment 0 (linked t)
clock-linked moment t is h =
    let P : Talk → Type 0 = IsClock moment 0 in
    subst P (sym (if-true (is_asked t) _ t is)) (h.0, omega arith)

-- ---- the other rules

module _ (moment last : ℕ) where
  abbrev C : Talk → Type 0
  C t = IsClock moment last t

  -- what leaves both
  pub clock-same : (t x : Talk) → x.present ≡ t.present → x.last_read ≡ t.last_read → C t → C x
  clock-same t x p r h = let a = h.0 in let b = h.1 in (omega (arith, p, a), omega (arith, r, b))

  lost : (e : ErrorKind) (t : Talk) → C t → C (lose e t)
  lost e t h = lose-case C e t (λ delay. h) h

  on-channels : ChannelRows C
  on-channels = record {
    lost = lost;
    opened = λ n c promise t is h. h;
    closed = λ n promise t is h. h;
    answered = λ n c t h. h;
    removed = λ n t h. h;
    flow = λ n c active t h. h;
    flowed = λ n c active promise t is h. h;
    server_closed = λ n e c t h. h;
    crossed = λ n e c t h. h;
  }

  passed : PassedRows C
  passed = record { confirms = λ n c t h. h; hands = λ opened x t h. h }

  on-connection : (answers : List ProviderAnswer) → ConnectionRows C answers
  on-connection answers = record {
    starts = λ t on h. start-keeps C lost answers t h (λ mechanism response. h);
    secures = λ t h. secure-keeps C lost answers t h (λ response. h);
    tunes = λ server t h. h;
    connects = λ t on phase h. h;
    reopens = λ n t h. h;
    blocks = λ reason t h. h;
    unblocks = λ t h. h;
    refreshes = λ t is h. h;
    renews = λ number t is h. h;
    server_closes = λ code text t h. h;
    closes = λ t h. h;
    answers_close = λ promise t h. h;
  }

  -- a frame
  pub clock-frame : (f : Frame) (answers : List ProviderAnswer) (t : Talk) → C t → C (on_frame f answers t)
  clock-frame f answers t h = frame-keeps C answers on-channels (on-connection answers) passed f t h

  pub clock-misread : (w : Misread) (t : Talk) → C t → C (misread w t)
  clock-misread w t h = misread-keeps C lost (λ x k. k) w t h

  -- a tick, whether a heartbeat is missed or not
  clock-ticked : (answers : List ProviderAnswer) (t : Talk) → C t → C (tick answers t)
  clock-ticked answers t h =
      tick-keeps C (record { lost = lost; beats = λ t h. h; refreshes = λ secret t h. h; retains = λ text t h. h; wants = λ t h. h }) answers t h

  told : CommandRows C
  told = record {
    refuses = λ e t h. h;
    promises = λ t h. h;
    opens = λ n t h. h;
    opens_none = λ first t h. h;
    leaves_channel = λ n code text c answers t h. h;
    sends = λ n m t h. h;
    publishes = λ n m properties body t h. h;
    flows = λ n active t h. h;
    tells_secret = λ secret reason t h. h;
    listens = λ t h. h;
  }

  -- a command
  pub clock-command : (c : Cmd) (t : Talk) → C t → C (command c t)
  clock-command c t h = command-keeps C told (λ code text answers t h. h) c t h

  -- ---- writing

  on-sent : (m : Mark) (t : Talk) → C t → C (sent m t)
  on-sent m t h =
      let x : Talk = record t { committed = drop 1 t.committed } in
      clock-same x (follow m.then x)
      (follow-keeps (λ (y : Talk). y.present) (λ y s l cs ps b q ms n o ns. refl) m.then x)
      (follow-keeps (λ (y : Talk). y.last_read) (λ y s l cs ps b q ms n o ns. refl) m.then x) h

  on-among : (ms : List Mark) (n : ℕ) (t : Talk) → C t → C (sent_among ms n t)
  on-among [] n t h = h
  on-among (m ∷ ms) n t h =
      if_case C (is_open t) (if nat_le m.left n then sent_among ms (n - m.left) (sent m t) else record t { committed = record m { left = m.left - n } ∷ ms }) t
      (if_case C (nat_le m.left n) (sent_among ms (n - m.left) (sent m t)) (record t { committed = record m { left = m.left - n } ∷ ms })
      (on-among ms (n - m.left) (sent m t) (on-sent m t h)) h) h

  pub clock-taken : (n : ℕ) (t : Talk) → C t → C (taken n t)
  clock-taken n t h =
      if_case C (is_open t && not (n == 0)) (sent_among t.committed n (record t { last_write = t.present })) t
      (on-among t.committed n (record t { last_write = t.present }) h) h

  -- ---- moments that are not later

  pub clock-early : (at : ℕ) (t : Talk) → at ≤ moment → C t → C (present_at at t)
  clock-early at t le h =
      let a = h.0 in
      if_case C (has_ended t) t (record t { present = max t.present at }) h (omega (arith, le, a), h.1)

-- a tick at which no heartbeat is missed
pub clock-tick : (moment last : ℕ) (answers : List ProviderAnswer) (t : Talk) → is_missed t ≡ false → IsClock moment last t → IsClock moment last (tick answers t)
clock-tick moment last answers t heard h = clock-ticked moment last answers t h
