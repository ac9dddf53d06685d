-- Turns over a joined port, one after another: both ends stand, or the session is over and both ends are closed.
use Rattle.std.proofs.Common.{◌≡◌, ◌≢◌, ◌≤◌, ◌<◌, ◌⊎◌, inl, inr, ◌∙◌, ap, sym, refl, subst, ℕ, zero, suc, ◌+◌, ◌==◌, not, if◌then◌else◌, Bool, true, false, true≢false, List, [], ◌∷◌, ◌++◌, length, map, take, drop, length-append, append_assoc, append-nil, is_some, Option, None, arith}
use Rattle.std.specs.Prelude.{slice_index}
use Rattle.std.specs.List.{flat_map, AllByRecursion}
use Rattle.std.proofs.lemmas.List.{map-append, take-append-drop}
use Rattle.std.proofs.Math.Seq.{drop-append_seam}
use Rattle.amqp_types.proofs.Small.{if_case}
use Rattle.amqp_frame.specs.declared.frame.Frame.{Frame}
use Rattle.amqp_frame.specs.declared.frame.Frame.TheVariants.{Method}
use Rattle.amqp_frame.specs.declared.method.Method.TheVariants.{CloseOk}
use Rattle.amqp_frame.specs.Frames.{encoding}
use Rattle.amqp_frame.proofs.Written.{frame_written}
use Rattle.amqp_outbox.specs.declared.item.Item.{Item}
use Rattle.amqp_commands.specs.declared.command.Cmd.{Cmd}
use Rattle.amqp_settings.specs.declared.configuration.Configuration.{Configuration}
use Rattle.amqp_settings.specs.Config.{Options}
use Rattle.amqp_rules.specs.Talk.{is_open}
use Rattle.amqp_faultless.specs.Faultless.{Server, AreSayable, is_frame_max}
use Rattle.amqp_faultless.proofs.Greeted.{IsOver}
use Rattle.amqp_written_rules.specs.Sayable.{AreInRange}
use Rattle.amqp_engine.specs.Engine.{Engine}
use Rattle.amqp_engine.specs.Turn.{Turn, asks, read, turn, turns, IsAnswered, cut_questions, IsTurn, AreTurns, AreTold, AreFit}
use Rattle.amqp_engine.specs.Sending.{Sending, frames, encodings, items_sent, frames_sent, step_sending, turn_sending, sendings_from}
use Rattle.amqp_engine.specs.SentWhole.{last_sending, said_of}
use Rattle.amqp_engine.specs.declared.port.Step.{Step}
use Rattle.amqp_engine.specs.declared.port.Step.TheVariants.{Linked, Piece, Room, Tick}
use Rattle.amqp_engine.specs.Plan.{Coming, bytes_of}
use Rattle.amqp_engine.specs.Valid.{agreed_frame_max, answered_in}
use Rattle.amqp_engine.proofs.Agreeing.{AgreesOn, agrees-all}
use Rattle.amqp_engine.proofs.Replies.{turn-sayable}
use Rattle.amqp_double.specs.Replies.{replies}
use Rattle.amqp_double.specs.Doubles.{HasAnswered}
use Rattle.amqp_owing.specs.Owed.{all_said}
use Rattle.amqp_joining.specs.Joining.{Join, output, comes, next_cut, next_command, JoinsTurn, JoinsTurns, AreFed, asked_now, asked_then}
use Rattle.amqp_both_ends.proofs.Deals.{Deals}
use Rattle.amqp_both_ends.proofs.Apart.{only-one}
use Rattle.amqp_both_ends.proofs.Spelling.{Spells}
use Rattle.amqp_both_ends.proofs.Weights.{weigh, weigh-joined, size}
use Rattle.amqp_both_ends.proofs.Outgoing.{waiting}
use Rattle.amqp_both_ends.proofs.Writes.{left_frames, pending}
use Rattle.amqp_both_ends.proofs.Counting.{close_turns, IsCounted, IsPlaced}
use Rattle.amqp_both_ends.proofs.Standing.{Between, quiet-unclosed}
use Rattle.amqp_both_ends.proofs.Later.{IsLater, is-later, later_step, later-told}
use Rattle.amqp_both_ends.proofs.Reading.{HearsNone, HearsOne}
use Rattle.amqp_both_ends.proofs.Turns.{some-length, none-output, Turned, Ended, each-turn}
use Rattle.amqp_both_ends.proofs.Givens.{given_step, room_after_step, given_of, Speaks, speaks-none, speaks-one, speaks-last}

-- what is answered in a turn can be said, and what is answered later
pub said-parts : (options : Options) (u : Turn) (us : List Turn) (e : Engine) → IsTurn u e → u.notes.starved ≡ None → AreSayable options (answered_in (u ∷ us))
    → AreSayable options u.notes.auths × AreSayable options (answered_in us)
said-parts options u us e may whole sayable =
    turn-sayable options u (asks e) (answered_in us)
    (subst (λ (o : Option ℕ). IsAnswered o (read u (asks e)).questions (cut_questions u (asks e)) u.notes.auths) whole may.applied.asked) sayable

-- the octets of some frames
size-items : (items : List Item) → length (encodings items) ≡ weigh size (frames items)
size-items [] = refl
size-items (i ∷ items) = let k = size-items items in let sum = length-append (encoding i.frame) (encodings items) in omega arith

-- ---- what a turn says

-- a step that brings no link leaves what was sent
unlinked : (step : Step) (e : Engine) (ss : List Sending) → IsLater step → step_sending step e ss ≡ ss
unlinked Linked e ss l = absurd l
unlinked step e ss l = refl

later-step : (u : Turn) (e : Engine) (flag : Bool) (j last : Join) → j.linked ≡ true → JoinsTurn u e flag j last → IsLater u.step
later-step u e flag j last linked joins = subst (λ (c : Coming). IsLater c.step) (later-told u e flag j last linked joins) (is-later j)

frames-long : (n : ℕ) (items : List Item) → n ≤ length items → length (frames (take n items)) ≡ n
frames-long zero items within = refl
frames-long (suc n) [] within = absurd (omega (arith, within))
frames-long (suc n) (i ∷ items) within = let k = frames-long n items (omega (arith, within)) in omega (arith, k)

-- what was sent in a turn, of one link
said-moved : (u : Turn) (e : Engine) (x y : Sending) (moved : List Frame) → step_sending u.step (asks e) (x ∷ []) ≡ x ∷ [] → turn_sending u e (x ∷ []) ≡ y ∷ [] → frames_sent y ≡ frames_sent x ++ moved
    → x.sent ≤ length x.committed → said_of u e (x ∷ []) ≡ moved
said-moved u e x y moved stepped sends more within =
    let f : Item → Frame = λ (i : Item). i.frame in
    ap (λ (ss : List Sending). map f (drop (last_sending ss).sent (items_sent (last_sending (turn_sending u e (x ∷ [])))))) stepped
    ∙ ap (λ (ss : List Sending). map f (drop x.sent (items_sent (last_sending ss)))) sends
    ∙ map-drop f x.sent (items_sent y)
    ∙ ap (drop x.sent) more
    ∙ ap (λ (n : ℕ). drop n (frames_sent x ++ moved)) (sym (frames-long x.sent x.committed within))
    ∙ drop-append_seam (frames_sent x) moved
  where
    map-drop : (f : Item → Frame) (n : ℕ) (items : List Item) → map f (drop n items) ≡ drop n (map f items)
    map-drop f zero items = refl
    map-drop f (suc n) [] = refl
    map-drop f (suc n) (i ∷ items) = map-drop f n items

-- the octets of a later step are those of its given one
later-bare : (j : Join) (room : ℕ) → bytes_of (given_step (later_step j).step (later_step j).bytes room) ≡ (later_step j).bytes
later-bare j room =
    if_case (λ (c : Coming). bytes_of (given_step c.step c.bytes room) ≡ c.bytes) j.short (comes Room [])
    (if not (length (output j) == 0) then comes (Piece (next_cut j)) (take (next_cut j) (output j)) else next_command j.commands j.closing) refl
    (if_case (λ (c : Coming). bytes_of (given_step c.step c.bytes room) ≡ c.bytes) (not (length (output j) == 0)) (comes (Piece (next_cut j)) (take (next_cut j) (output j))) (next_command j.commands j.closing) refl
    (by j.commands j.closing))
  where
    by : (cs : List Cmd) (closing : Bool) → bytes_of (given_step (next_command cs closing).step (next_command cs closing).bytes room) ≡ (next_command cs closing).bytes
    by (c ∷ cs) closing = refl
    by [] false = refl
    by [] true = refl

turn-bare : (u : Turn) (e : Engine) (flag : Bool) (j last : Join) (room : ℕ) → j.linked ≡ true → JoinsTurn u e flag j last → bytes_of (given_step u.step u.bytes room) ≡ u.bytes
turn-bare u e flag j last room linked joins =
    subst (λ (c : Coming). bytes_of (given_step c.step c.bytes room) ≡ c.bytes) (later-told u e flag j last linked joins) (later-bare j room)

close-ok-spells : Spells (Method zero CloseOk)
close-ok-spells = (frame_written (Method 0 CloseOk) (omega arith, tt) (omega arith), omega arith)

-- a last turn brings octets
pub record EndsWithSome (us : List Turn) : Type 0 where
  pub before : List Turn
  pub last : Turn
  pub all : us ≡ before ++ last ∷ []
  pub some : last.bytes ≢ []

module _ (options : Options) (numbers : Configuration) (most : is_frame_max numbers.frame_max ≡ true) (range : AreInRange numbers) where
  -- the session goes on after these turns: both ends stand, and fewer turns are left
  pub record GoesOn (us : List Turn) (e : Engine) (x : Sending) (j last : Join) (owed : List Frame) : Type 0 where
    pub sending : Sending
    pub server : Server
    pub rs : List Frame
    pub sends : sendings_from us e (x ∷ []) ≡ sending ∷ []
    pub stands : Between options numbers (turns us e) sending last server rs
    pub counts : (bound n : ℕ) → IsCounted numbers bound n e x j owed → IsCounted numbers bound (n + length us) (turns us e) sending last rs

  -- the session is over after these turns, and the double has told all; its last reply was the close-ok that it owed, and
  -- it said what it may
  pub record IsClosed (us : List Turn) (e : Engine) (x : Sending) (last : Join) (s : Server) : Type 0 where
    pub sending : Sending
    pub sends : sendings_from us e (x ∷ []) ≡ sending ∷ []
    pub over : IsOver (turns us e).talk
    pub told : output last ≡ []
    pub answered : HasAnswered (frames_sent sending) last.double
    pub server : Server
    pub owed : Deals numbers (frames_sent sending) [] (Method zero CloseOk ∷ []) server
    pub enough : 4096 ≤ agreed_frame_max (frames_sent sending)
    pub no_ticks : AllByRecursion (λ (u : Turn). u.step ≡ Tick → ⊥) us
    pub some : EndsWithSome us
    pub speaks : (rooms : List ℕ) (at : ℕ) → Speaks rooms at us e (x ∷ []) s

  -- no turn comes after the end
  pub none-after : (us : List Turn) (e : Engine) → IsOver e.talk → AreTurns us e → us ≡ []
  none-after [] e over may = refl
  none-after (u ∷ us) e over may = absurd (true≢false (sym (ap is_some over.over) ∙ may.0.running))

  -- how far was sent
  within-sent : (e : Engine) (x : Sending) (j : Join) (s : Server) (rs : List Frame) → Between options numbers e x j s rs → x.sent ≤ length x.committed
  within-sent e x j s rs b =
      let l = b.mid.sends.last b.mid.met.opened in
      let agrees : AgreesOn e x = subst (AgreesOn e) (sym (only-one x l.1 l.0 l.2)) l.3 in
      omega (arith, agrees.sent, ap length agrees.committed, length-append agrees.done agrees.rest)

  -- a turn more before others that close
  module _ (u : Turn) (us : List Turn) (e : Engine) (x : Sending) (flag : Bool) (j next last : Join) (s : Server) (rs : List Frame) (b : Between options numbers e x j s rs) (joins : JoinsTurn u e flag j next)
      (n : Turned options numbers u e x j next s rs) where
    is_stepped : step_sending u.step (asks e) (x ∷ []) ≡ x ∷ []
    is_stepped = unlinked u.step (asks e) (x ∷ []) (later-step u e flag j next b.linked joins)

    is_said : said_of u e (x ∷ []) ≡ n.moved
    is_said = said-moved u e x n.sending n.moved is_stepped n.sends n.sent_more (within-sent e x j s rs b)

    more-speaks : ((rooms : List ℕ) (at : ℕ) → Speaks rooms at us (turn u e) (n.sending ∷ []) (all_said n.moved n.heard)) → (rooms : List ℕ) (at : ℕ) → Speaks rooms at (u ∷ us) e (x ∷ []) s
    more-speaks speaks rooms at = by n.hears where
      bare : bytes_of (given_of rooms at u).what ≡ u.bytes
      bare = turn-bare u e flag j next (slice_index rooms at) b.linked joins

      rest : Speaks rooms (room_after_step rooms at u.step) us (turn u e) (turn_sending u e (x ∷ [])) (all_said n.moved n.heard)
      rest = subst (λ (ss : List Sending). Speaks rooms (room_after_step rooms at u.step) us (turn u e) ss (all_said n.moved n.heard)) (sym n.sends) (speaks rooms (room_after_step rooms at u.step))

      by : HearsNone s rs (e.unread ++ u.bytes) n.heard n.left (turn u e).unread ⊎ ((u.bytes ≢ []) × HearsOne s rs (e.unread ++ u.bytes) n.heard n.left (turn u e).unread) → Speaks rooms at (u ∷ us) e (x ∷ []) s
      by (inl h) =
          speaks-none rooms at u us e (x ∷ []) n.moved bare is_said s h.left
          (subst (λ (z : Server). Speaks rooms (room_after_step rooms at u.step) us (turn u e) (turn_sending u e (x ∷ [])) (all_said n.moved z)) h.server rest)
      by (inr (some, h)) = speaks-one rooms at u us e (x ∷ []) n.moved bare is_said s n.heard h.r h.heard h.spells h.came some h.left rest

    pub more-closed : IsClosed us (turn u e) n.sending last (all_said n.moved n.heard) → IsClosed (u ∷ us) e x last s
    more-closed c =
        record {
          sending = c.sending;
          sends = ap (sendings_from us (turn u e)) n.sends ∙ c.sends;
          over = c.over;
          told = c.told;
          answered = c.answered;
          server = c.server;
          owed = c.owed;
          enough = c.enough;
          no_ticks = (n.no_tick, c.no_ticks);
          some = record { before = u ∷ c.some.before; last = c.some.last; all = ap (λ (vs : List Turn). u ∷ vs) c.some.all; some = c.some.some };
          speaks = more-speaks c.speaks;
        }

    pub more-on : GoesOn us (turn u e) n.sending next last (n.left ++ flat_map (replies numbers) n.moved) → IsPlaced j → GoesOn (u ∷ us) e x j last rs
    more-on g placed =
        record {
          sending = g.sending;
          server = g.server;
          rs = g.rs;
          sends = ap (sendings_from us (turn u e)) n.sends ∙ g.sends;
          stands = g.stands;
          counts = λ bound k c. (let one = g.counts bound (k + 1) (n.counts placed bound k c) in omega (arith, one));
        }

  -- the last turn
  last-closed : (u : Turn) (us : List Turn) (e : Engine) (x : Sending) (flag : Bool) (j next last : Join) (s : Server) (rs : List Frame) → Between options numbers e x j s rs → JoinsTurn u e flag j next
      → Ended numbers u e x next s → us ≡ [] → last ≡ next → IsClosed (u ∷ us) e x last s
  last-closed u us e x flag j next last s rs b joins c none end =
      record {
        sending = x;
        sends = ap (λ (vs : List Turn). sendings_from vs (turn u e) (turn_sending u e (x ∷ []))) none ∙ c.sends;
        over = subst (λ (vs : List Turn). IsOver (turns vs (turn u e)).talk) (sym none) c.over;
        told = ap output end ∙ c.told;
        answered = subst (λ (y : Join). HasAnswered (frames_sent x) y.double) (sym end) c.answered;
        server = s;
        owed = c.owed;
        enough = c.enough;
        no_ticks = subst (λ (vs : List Turn). AllByRecursion (λ (v : Turn). v.step ≡ Tick → ⊥) (u ∷ vs)) (sym none) (c.no_tick, tt);
        some = record { before = []; last = u; all = ap (λ (vs : List Turn). u ∷ vs) none; some = c.some };
        speaks = λ rooms at.
            (let stepped = unlinked u.step (asks e) (x ∷ []) (later-step u e flag j next b.linked joins) in
            let said = said-moved u e x x [] stepped c.sends (sym (append-nil (frames_sent x))) (within-sent e x j s rs b) in
            speaks-last rooms at u us e (x ∷ []) [] (turn-bare u e flag j next (slice_index rooms at) b.linked joins) said s c.server (Method zero CloseOk) c.heard close-ok-spells c.came c.some c.gone none refl);
      }

  pub runs : (us : List Turn) (e : Engine) (x : Sending) (flag : Bool) (j last : Join) (s : Server) (rs : List Frame) → Between options numbers e x j s rs → IsPlaced j → AreTurns us e → AreTold us → AreFit us
      → AreFed us → AreSayable options (answered_in us) → JoinsTurns us e flag j last → GoesOn us e x j last rs ⊎ IsClosed us e x last s
  runs [] e x flag j last s rs b placed may told fit fed sayable joins =
      inl (record {
        sending = x;
        server = s;
        rs = rs;
        sends = refl;
        stands = subst (λ (y : Join). Between options numbers e x y s rs) (sym joins) b;
        counts = λ bound n c. subst (λ (y : Join). IsCounted numbers bound (n + 0) e x y rs) (sym joins) (omega (arith, c));
      })
  runs (u ∷ us) e x flag j last s rs b placed may told fit fed sayable joins =
      by (each-turn options numbers most range u e x j joins.0 s rs b may.0 told.0 fit.0 fed.0 said.0 flag joins.1 placed)
      (λ y s_then rs_then stands placed_then.
      runs us (turn u e) y (asked_then (asked_now e flag) j) joins.0 last s_then rs_then stands placed_then may.1 told.1 fit.1 fed.1 said.1 joins.2) where
        said : AreSayable options u.notes.auths × AreSayable options (answered_in us)
        said = said-parts options u us e may.0 fed.0 sayable

        by : Turned options numbers u e x j joins.0 s rs ⊎ Ended numbers u e x joins.0 s
            → ((y : Sending) (z : Server) (zs : List Frame) → Between options numbers (turn u e) y joins.0 z zs → IsPlaced joins.0 → GoesOn us (turn u e) y joins.0 last zs ⊎ IsClosed us (turn u e) y last z)
            → GoesOn (u ∷ us) e x j last rs ⊎ IsClosed (u ∷ us) e x last s
        by (inl n) rest = more (rest n.sending (all_said n.moved n.heard) (n.left ++ flat_map (replies numbers) n.moved) n.stands (n.placed placed)) where
          more : GoesOn us (turn u e) n.sending joins.0 last (n.left ++ flat_map (replies numbers) n.moved) ⊎ IsClosed us (turn u e) n.sending last (all_said n.moved n.heard)
              → GoesOn (u ∷ us) e x j last rs ⊎ IsClosed (u ∷ us) e x last s
          more (inl g) = inl (more-on u us e x flag j joins.0 last s rs b joins.1 n g placed)
          more (inr c) = inr (more-closed u us e x flag j joins.0 last s rs b joins.1 n c)
        by (inr c) rest =
            let none : us ≡ [] = none-after us (turn u e) c.over may.1 in
            let end : last ≡ joins.0 = subst (λ (vs : List Turn). JoinsTurns vs (turn u e) (asked_then (asked_now e flag) j) joins.0 last) none joins.2 in
            inr (last-closed u us e x flag j joins.0 last s rs b joins.1 c none end)

  -- ---- how many turns are left

  -- while the session goes on, a turn is left at least
  pub one-left : (bound n : ℕ) (e : Engine) (x : Sending) (j : Join) (s : Server) (rs : List Frame) → Between options numbers e x j s rs → IsCounted numbers bound n e x j rs → n < bound
  one-left bound n e x j s rs b c = by j.short refl (not (length (output j) == 0)) refl where
    opened : is_open e.talk ≡ true
    opened = b.mid.met.opened

    agrees : AgreesOn e x
    agrees = let l = b.mid.sends.last opened in subst (AgreesOn e) (sym (only-one x l.1 l.0 l.2)) l.3

    all : frames x.committed ≡ frames_sent x ++ left_frames x
    all = ap frames (sym (take-append-drop x.sent x.committed)) ∙ map-append (λ (i : Item). i.frame) (take x.sent x.committed) (drop x.sent x.committed)

    -- what was taken and what is unsent are the octets that were committed
    taken_most : x.taken + length e.unsent ≤ weigh size (frames_sent x ++ pending x e.talk)
    taken_most =
        let a = ap length (agrees-all e.talk.committed e.unsent x agrees) in
        let d = length-append (encodings agrees.done ++ agrees.part) e.unsent in
        let f = agrees.taken in
        let g = size-items x.committed in
        let h = ap (weigh size) all in
        let k = weigh-joined size (frames_sent x ++ left_frames x) (frames (waiting e.talk)) in
        let l = ap (weigh size) (append_assoc (frames_sent x) (left_frames x) (frames (waiting e.talk))) in
        omega (arith, a, d, f, g, h, k, l)

    by : (short : Bool) → j.short ≡ short → (some : Bool) → not (length (output j) == 0) ≡ some → n < bound
    by true short some is = let more = b.cut short in omega (arith, c, taken_most, more)
    by false full true is = let more = some-length (output j) is in omega (arith, c, taken_most, more)
    by false full false is = unclosed j.closing refl where
      unclosed : (closing : Bool) → j.closing ≡ closing → n < bound
      unclosed true closes = absurd (quiet-unclosed options numbers e x j s rs b full (none-output (output j) is) closes)
      unclosed false stays = let more : close_turns j.closing ≡ 34 = ap close_turns stays in omega (arith, c, taken_most, more)
