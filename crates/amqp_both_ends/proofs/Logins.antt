-- While both ends stand, a session asks its provider how to log in, and nothing else: so what is answered can be said.
use Rattle.std.proofs.Common.{◌≡◌, ◌≤◌, ◌<◌, ◌⊎◌, inl, inr, ◌∙◌, ap, sym, refl, subst, ℕ, zero, suc, ◌+◌, ◌==◌, ◌&&◌, not, if◌then◌else◌, Bool, true, false, List, [], ◌∷◌, ◌++◌, length, take, drop, append_assoc, append-nil, Option, None, Ok, arith}
use Rattle.std.specs.List.{flat_map, AllByRecursion}
use Rattle.std.specs.Option.{option_or}
use Rattle.std.proofs.lemmas.Bool.{cases_lt}
use Rattle.amqp_types.proofs.Small.{if_case, if-true, if-false}
use Rattle.amqp_frame.specs.declared.frame.Frame.{Frame}
use Rattle.amqp_frame.specs.declared.frame.Frame.TheVariants.{Method}
use Rattle.amqp_frame.specs.declared.frame.Read.{Read}
use Rattle.amqp_frame.specs.declared.frame.Read.TheVariants.{Whole}
use Rattle.amqp_frame.specs.declared.method.Method.{Method as AnyMethod}
use Rattle.amqp_frame.specs.declared.method.Method.TheVariants.{Start, Secure}
use Rattle.amqp_frame.specs.Frames.{FrameOf, encoding}
use Rattle.amqp_promise.specs.declared.state.ConnectionState.{ConnectionState}
use Rattle.amqp_promise.specs.declared.state.ConnectionState.TheVariants.{Connecting}
use Rattle.amqp_auth.specs.declared.asked.Question.{Question}
use Rattle.amqp_auth.specs.declared.asked.Asked.{Asked}
use Rattle.amqp_auth.specs.declared.asked.Asked.TheVariants as answer
use Rattle.amqp_auth.specs.Asking.{Answer, paired}
use Rattle.amqp_auth.specs.Providers.{Exchange, Allows}
use Rattle.amqp_commands.specs.declared.command.Cmd.{Cmd}
use Rattle.amqp_settings.specs.declared.configuration.Configuration.{Configuration}
use Rattle.amqp_rules.specs.declared.state.Phase.{Phase}
use Rattle.amqp_rules.specs.declared.state.Phase.TheVariants.{AwaitStart, AwaitTune}
use Rattle.amqp_settings.specs.Config.{Options}
use Rattle.amqp_rules.specs.Negotiation.{frame_limit}
use Rattle.amqp_rules.specs.Talk.{Talk, acts, is_open, drops_input}
use Rattle.amqp_rules.specs.Changes.{present_at}
use Rattle.amqp_rules.specs.Frames.{on_frame, method_questions, questions_in, frame_questions}
use Rattle.amqp_faultless.specs.Faultless.{Server, AreSayable, is_frame_max, silent}
use Rattle.amqp_faultless.proofs.Limits.{met-least}
use Rattle.amqp_written_rules.specs.Sayable.{AreInRange, CanBeSaid}
use Rattle.amqp_engine.specs.declared.port.Step.{Step}
use Rattle.amqp_engine.specs.declared.port.Step.TheVariants.{Linked, Piece, Room, Command}
use Rattle.amqp_engine.specs.Plan.{Coming, at_most_64}
use Rattle.amqp_engine.specs.Account.{IsNew}
use Rattle.amqp_engine.specs.Engine.{Engine, begin, settle, front_of, can_read, step_engine, step_questions, row_questions, read_questions, read_row}
use Rattle.amqp_engine.specs.Turn.{Turn, Progress, asks, begun, part, questioned, goes, is_part, is_piece, step_part, read_part, reads, read, turn, IsAnswered, cut_questions, AreTurns, AreTold, AreFit, exchange_of, exchanges, cut_of}
use Rattle.amqp_engine.specs.Tell.{MayCome}
use Rattle.amqp_engine.specs.Sending.{Sending, frames_sent}
use Rattle.amqp_engine.specs.Valid.{answered_in}
use Rattle.amqp_engine.proofs.Asks.{asked_in}
use Rattle.amqp_engine.proofs.Follows.{met-asks}
use Rattle.amqp_engine.proofs.Hearkens.{asked-reads}
use Rattle.amqp_engine.proofs.Heeding.{split-longer, split-shorter}
use Rattle.amqp_engine.proofs.Reading.{none-read}
use Rattle.amqp_engine.proofs.Serving.{front-whole, front-part}
use Rattle.amqp_engine.proofs.Stepping.{part-engine, part-piece}
use Rattle.amqp_double.specs.Doubles.{fresh}
use Rattle.amqp_double.specs.Replies.{replies}
use Rattle.amqp_owing.specs.Owed.{IsReply, all_said}
use Rattle.amqp_joining.specs.Plans.{JoinPlan, IsPlan}
use Rattle.amqp_joining.specs.Joining.{Join, join, output, comes, next_cut, next_command, sent_on, JoinsTurn, JoinsTurns, AreFed, asked_now, asked_then}
use Rattle.amqp_both_ends.specs.TwoEnds.{TwoEnds, unasked}
use Rattle.amqp_both_ends.specs.Logins.{AskLogins, questions_of, answers_of, SaysLogins}
use Rattle.amqp_both_ends.proofs.Apart.{some-none, none-joined}
use Rattle.amqp_both_ends.proofs.Deals.{Deals, HeardOne, deals-heard}
use Rattle.amqp_both_ends.proofs.Spelling.{Spells}
use Rattle.amqp_both_ends.proofs.Writes.{left_frames, pending, Mid}
use Rattle.amqp_both_ends.proofs.Counting.{IsPlaced}
use Rattle.amqp_both_ends.proofs.Standing.{Between, quiet-unclosed}
use Rattle.amqp_both_ends.proofs.Moving.{piece-mid}
use Rattle.amqp_both_ends.proofs.Later.{later_step, later-told}
use Rattle.amqp_both_ends.proofs.Turns.{none-output, Turned, Ended, each-turn}
use Rattle.amqp_both_ends.proofs.Linking.{Started, first-turn}
use Rattle.amqp_both_ends.proofs.Runs.{none-after}
use Rattle.amqp_both_ends.proofs.Both.{both}

-- ---- what a reply asks

logins-method : (st : ConnectionState) (p : Phase) (m : AnyMethod) → IsReply (Method zero m) → AskLogins (method_questions st p m)
logins-method Connecting AwaitStart (Start a b c d e) is = tt
logins-method Connecting AwaitTune (Secure challenge) is = absurd is
logins-method st p m is = tt

logins-acting : (r : Frame) (t : Talk) → IsReply r → AskLogins (questions_in r t)
logins-acting (Method zero m) t is = logins-method t.state t.phase m is
logins-acting r t is = tt

logins-reply : (r : Frame) (t : Talk) → IsReply r → AskLogins (frame_questions r t)
logins-reply r t is = let none : List Question = [] in if_case AskLogins (acts t) (questions_in r t) none (logins-acting r t is) tt

-- nothing is asked where nothing can be read
asked-none : (n : ℕ) (p : Progress) → can_read p.engine ≡ false → asked_in n p ≡ []
asked-none zero p shut = refl
asked-none (suc n) p shut =
    if-false (goes p && can_read p.engine) (read_questions p.at p.engine ++ asked_in n (read_part p)) [] (and-shut (goes p) (can_read p.engine) shut)
  where
    and-shut : (a b : Bool) → b ≡ false → (a && b) ≡ false
    and-shut true b h = h
    and-shut false b h = refl

settle-none : (e : Engine) → e.unread ≡ [] → (settle e).unread ≡ []
settle-none e none =
    let N : Engine → Type 0 = λ x. x.unread ≡ [] in
    if_case N (is_open e.talk) (if drops_input e.talk then record e { unread = []; place = 0 } else e) (record e { unread = []; place = 0; unsent = [] })
    (if_case N (drops_input e.talk) (record e { unread = []; place = 0 }) e refl none) refl

-- nothing is left of what was read
read-gone : (at n : ℕ) (r : Frame) (answers : List Asked) (e : Engine) → drop n e.unread ≡ [] → (read_row at (Whole r n) answers e).unread ≡ []
read-gone at n r answers e none = settle-none (record e { talk = on_frame r answers (present_at at e.talk); unread = drop n e.unread; place = at_most_64 (e.place + n) }) none

all-dropped : (xs : List ℕ) → drop (length xs) xs ≡ []
all-dropped [] = refl
all-dropped (x ∷ xs) = all-dropped xs

reply-of : (numbers : Configuration) (sent fs rs : List Frame) (r : Frame) (s : Server) → Deals numbers sent fs (r ∷ rs) s → IsReply r
reply-of numbers [] fs rs r s h = absurd (some-none r rs h.1)
reply-of numbers (g ∷ gs) fs rs r s h = h.1.owes.are.0

module _ (options : Options) (numbers : Configuration) where
  -- of what has come, only a login is asked
  asked-logins : (n : ℕ) (p : Progress) (x : Sending) (j : Join) (server : Server) (rs : List Frame) → Mid options numbers p.engine x j server rs → AskLogins (asked_in n p)
  asked-logins zero p x j server rs m = tt
  asked-logins (suc n) p x j server rs m = by rs m.deals m.bytes m.spells where
    q : Progress
    q = read_part p

    shut : can_read p.engine ≡ false → AskLogins (asked_in (suc n) p)
    shut h = subst AskLogins (sym (asked-none (suc n) p h)) tt

    limit : 4096 ≤ frame_limit p.engine.talk
    limit = met-least (all_said (left_frames x) server) p.engine.talk m.met

    by : (qs : List Frame) → Deals numbers (frames_sent x) (pending x p.engine.talk) qs server → p.engine.unread ++ output j ≡ flat_map encoding qs → AllByRecursion Spells qs → AskLogins (asked_in (suc n) p)
    by [] deals bytes spells = shut (none-read p.engine (let k = ap length (none-joined p.engine.unread (output j) bytes) in omega (arith, k)))
    by (r ∷ qs) deals bytes spells = sized (cases_lt (length p.engine.unread) (length (encoding r))) where
      one : HeardOne numbers (frames_sent x) (pending x p.engine.talk) qs r server
      one = deals-heard numbers (frames_sent x) (pending x p.engine.talk) qs r server deals

      spelled : p.engine.unread ++ output j ≡ encoding r ++ []
      spelled = bytes ∙ ap (λ (xs : List Frame). flat_map encoding (r ∷ xs)) one.alone

      sized : (length p.engine.unread < length (encoding r)) ⊎ (length (encoding r) ≤ length p.engine.unread) → AskLogins (asked_in (suc n) p)
      sized (inl less) =
          let part = split-shorter p.engine.unread (output j) (encoding r) [] spelled less in
          let size = ap length part.1 in
          shut (front-part p.engine r part.0 (subst (FrameOf r) (sym part.1) spells.0.0) (let most = spells.0.1 in omega (arith, size, most, limit)) part.2)
      sized (inr enough) =
          let part = split-longer p.engine.unread (output j) (encoding r) [] spelled enough in
          let all : p.engine.unread ≡ encoding r = part.1 ∙ ap (λ (xs : List ℕ). encoding r ++ xs) (none-joined part.0 (output j) part.2) ∙ append-nil (encoding r) in
          let front : front_of p.engine ≡ Whole r (length (encoding r)) =
          front-whole server p.engine r (encoding r) [] (all ∙ sym (append-nil (encoding r))) spells.0.0 (let most = spells.0.1 in omega (arith, most, limit)) in
          let gone : q.engine.unread ≡ [] =
          ap (λ (y : Read). (read_row p.at y p.answers p.engine).unread) front
          ∙ read-gone p.at (length (encoding r)) r p.answers p.engine (ap (λ (xs : List ℕ). drop (length (encoding r)) xs) all ∙ all-dropped (encoding r)) in
          let rest : asked_in n q ≡ [] = asked-none n q (none-read q.engine (let k = ap length gone in omega (arith, k))) in
          let first : read_questions p.at p.engine ≡ frame_questions r (present_at p.at p.engine.talk) = ap (λ (y : Read). row_questions p.at y p.engine) front in
          let is : AskLogins (read_questions p.at p.engine ++ asked_in n q) =
          subst AskLogins (sym (ap (λ (xs : List Question). xs ++ asked_in n q) first ∙ ap (λ (xs : List Question). frame_questions r (present_at p.at p.engine.talk) ++ xs) rest ∙ append-nil (frame_questions r (present_at p.at p.engine.talk))))
          (logins-reply r (present_at p.at p.engine.talk) (reply-of numbers (frames_sent x) (pending x p.engine.talk) qs r server deals)) in
          let none : List Question = [] in
          if_case AskLogins (goes p && can_read p.engine) (read_questions p.at p.engine ++ asked_in n q) none is tt

-- ---- what a turn asks

-- nothing, by a step that asks nothing and is no piece
plain-asks : (u : Turn) (e : Engine) → ((answers : List Asked) (x : Engine) → step_questions u.at u.step answers x ≡ []) → is_piece u.step ≡ false → AskLogins (read u e).questions
plain-asks u e none plain =
    let p0 : Progress = begun u.at u.notes.starved u.notes.auths e in
    let p1 : Progress = step_part u.step u.bytes p0 in
    let after : Engine = step_engine u.at u.step u.bytes u.notes.auths e in
    let qs : List Question = step_questions u.at u.step u.notes.auths e in
    let N : Progress → Type 0 = λ p. p.questions ≡ [] in
    let stepped : p1.questions ≡ [] =
    if_case N (is_part u.step e) (if goes p0 then part after (questioned qs p0) else p0) (record p0 { engine = after })
    (if_case N (goes p0) (part after (questioned qs p0)) p0 (none u.notes.auths e) refl) refl in
    subst AskLogins (sym (ap (λ (p : Progress). p.questions) (if-false (is_piece u.step) (reads (length p1.engine.unread) p1) p1 plain) ∙ stepped)) tt

module _ (options : Options) (numbers : Configuration) (u : Turn) (e : Engine) (x : Sending) (j last : Join) (server : Server) (rs : List Frame) (b : Between options numbers e x j server rs) (whole : u.notes.starved ≡ None)
    (flag : Bool) (joins : JoinsTurn u e flag j last) where
  m : Mid options numbers e x j server rs
  m = b.mid

  told : later_step j ≡ record { at = u.at; step = u.step; bytes = u.bytes }
  told = later-told u e flag j last b.linked joins

  here : asks e ≡ e
  here = met-asks _ e m.met

  abbrev Logs : Type 0
  Logs = AskLogins (read u (asks e)).questions

  abbrev rest_step : Coming
  rest_step = if not (length (output j) == 0) then comes (Piece (next_cut j)) (take (next_cut j) (output j)) else next_command j.commands j.closing

  -- a step that asks nothing
  by-step : (s : Step) → s ≡ u.step → ((at : ℕ) (answers : List Asked) (y : Engine) → step_questions at s answers y ≡ []) → is_piece s ≡ false → Logs
  by-step s is none plain = plain-asks u (asks e) (λ answers y. ap (λ (z : Step). step_questions u.at z answers y) (sym is) ∙ none u.at answers y) (ap is_piece (sym is) ∙ plain)

  -- a piece
  by-piece : Piece (next_cut j) ≡ u.step → comes (Piece (next_cut j)) (take (next_cut j) (output j)) ≡ record { at = u.at; step = u.step; bytes = u.bytes } → Logs
  by-piece is rule = subst AskLogins (sym all) (asked-logins options numbers (length p1.engine.unread) p1 x (sent_on j) server rs mid) where
    p0 : Progress
    p0 = begun u.at u.notes.starved u.notes.auths e

    p1 : Progress
    p1 = step_part u.step u.bytes p0

    engine1 : p1.engine ≡ step_engine u.at u.step u.bytes u.notes.auths e
    engine1 = part-engine u.step u.bytes p0 whole

    mid : Mid options numbers p1.engine x (sent_on j) server rs
    mid =
        subst (λ (y : Engine). Mid options numbers y x (sent_on j) server rs) (sym engine1)
        (subst (λ (c : Coming). Mid options numbers (step_engine u.at c.step c.bytes u.notes.auths e) x (sent_on j) server rs) rule (piece-mid options numbers u.at (next_cut j) u.notes.auths e x j server rs m).mid)

    one : p1 ≡ part (step_engine u.at (Piece (next_cut j)) u.bytes u.notes.auths e) (questioned [] p0)
    one = ap (λ (s : Step). step_part s u.bytes p0) (sym is) ∙ part-piece (next_cut j) u.bytes p0 whole m.met.opened

    none : p1.questions ≡ []
    none = ap (λ (y : Progress). y.questions) one

    is_read : read u (asks e) ≡ reads (length p1.engine.unread) p1
    is_read = ap (λ (y : Engine). read u y) here ∙ if-true (is_piece u.step) (reads (length p1.engine.unread) p1) p1 (ap is_piece (sym is))

    all : (read u (asks e)).questions ≡ asked_in (length p1.engine.unread) p1
    all = ap (λ (y : Progress). y.questions) is_read ∙ asked-reads (length p1.engine.unread) p1 ∙ ap (λ (qs : List Question). qs ++ asked_in (length p1.engine.unread) p1) none

  pub login-turn : AskLogins (read u (asks e)).questions
  login-turn = by j.short refl (not (length (output j) == 0)) refl where
    by : (short : Bool) → j.short ≡ short → (some : Bool) → not (length (output j) == 0) ≡ some → Logs
    by true short some is =
        by-step Room (ap (λ (c : Coming). c.step) (sym (if-true j.short (comes Room []) rest_step short) ∙ told)) (λ at answers y. refl) refl
    by false full true is =
        let rule = sym (if-false j.short (comes Room []) rest_step full ∙ if-true (not (length (output j) == 0)) (comes (Piece (next_cut j)) (take (next_cut j) (output j))) (next_command j.commands j.closing) is) ∙ told in
        by-piece (ap (λ (c : Coming). c.step) rule) rule
    by false full false is = commanding j.commands j.closing refl refl where
      rule : next_command j.commands j.closing ≡ record { at = u.at; step = u.step; bytes = u.bytes }
      rule = sym (if-false j.short (comes Room []) rest_step full ∙ if-false (not (length (output j) == 0)) (comes (Piece (next_cut j)) (take (next_cut j) (output j))) (next_command j.commands j.closing) is) ∙ told

      step_is : (cs : List Cmd) (closing : Bool) → j.commands ≡ cs → j.closing ≡ closing → (next_command cs closing).step ≡ u.step
      step_is cs closing commands closes =
          ap (λ (xs : List Cmd). (next_command xs closing).step) (sym commands) ∙ ap (λ (c : Bool). (next_command j.commands c).step) (sym closes) ∙ ap (λ (c : Coming). c.step) rule

      commanding : (cs : List Cmd) (closing : Bool) → j.commands ≡ cs → j.closing ≡ closing → Logs
      commanding (c ∷ cs) closing commands closes = by-step (Command c) (step_is (c ∷ cs) closing commands closes) (λ at answers y. refl) refl
      commanding [] false commands closes = by-step (next_command [] false).step (step_is [] false commands closes) (λ at answers y. refl) refl
      commanding [] true commands closes = absurd (quiet-unclosed options numbers e x j server rs b full (none-output (output j) is) closes)

-- ---- what is answered in turns

-- where these turns ask for logins alone, what is answered in them can be said
abbrev pub SayLogins : Options → List Turn → Engine → Type 0
SayLogins options [] e = Unit {0}
SayLogins options (u ∷ us) e = (AskLogins (read u (asks e)).questions → AreSayable options u.notes.auths) × SayLogins options us (turn u e)

sayable-append : (options : Options) (xs ys : List Asked) → AreSayable options xs → AreSayable options ys → AreSayable options (xs ++ ys)
sayable-append options [] ys h k = k
sayable-append options (answer.Mechanism name ∷ answer.Starter (Ok said) ∷ xs) ys h k = (h.0, sayable-append options xs ys h.1 k)
sayable-append options (answer.Challenge (Ok said) ∷ xs) ys h k = (h.0, sayable-append options xs ys h.1 k)
sayable-append options (answer.ValidFor time ∷ xs) ys h k = sayable-append options xs ys h k
sayable-append options (answer.Refreshed (Ok secret) ∷ xs) ys h k = (h.0, sayable-append options xs ys h.1 k)
sayable-append options (x ∷ xs) ys h k = absurd h

module _ (options : Options) (numbers : Configuration) (most : is_frame_max numbers.frame_max ≡ true) (range : AreInRange numbers) where
  -- while both ends stand
  all-sayable : (us : List Turn) (e : Engine) (x : Sending) (flag : Bool) (j last : Join) (s : Server) (rs : List Frame) → Between options numbers e x j s rs → IsPlaced j → AreTurns us e → AreTold us → AreFit us
      → AreFed us → SayLogins options us e → JoinsTurns us e flag j last → AreSayable options (answered_in us)
  all-sayable [] e x flag j last s rs b placed may told fit fed says joins = tt
  all-sayable (u ∷ us) e x flag j last s rs b placed may told fit fed says joins =
      by (each-turn options numbers most range u e x j joins.0 s rs b may.0 told.0 fit.0 fed.0 said flag joins.1 placed)
      (λ y z zs stands there.
      all-sayable us (turn u e) y (asked_then (asked_now e flag) j) joins.0 last z zs stands there may.1 told.1 fit.1 fed.1 says.1 joins.2)
    where
      said : AreSayable options u.notes.auths
      said = says.0 (login-turn options numbers u e x j joins.0 s rs b fed.0 flag joins.1)

      by : Turned options numbers u e x j joins.0 s rs ⊎ Ended numbers u e x joins.0 s
          → ((y : Sending) (z : Server) (zs : List Frame) → Between options numbers (turn u e) y joins.0 z zs → IsPlaced joins.0 → AreSayable options (answered_in us)) → AreSayable options (answered_in (u ∷ us))
      by (inl n) rest =
          sayable-append options u.notes.auths (answered_in us) said
          (rest n.sending (all_said n.moved n.heard) (n.left ++ flat_map (replies numbers) n.moved) n.stands (n.placed placed))
      by (inr c) rest =
          let none : us ≡ [] = none-after options numbers most range us (turn u e) c.over may.1 in
          sayable-append options u.notes.auths (answered_in us) said (subst (λ (vs : List Turn). AreSayable options (answered_in vs)) (sym none) tt)

-- the link asks nothing
linked-asks : (u : Turn) (e : Engine) → u.step ≡ Linked → AskLogins (read u e).questions
linked-asks u e is = plain-asks u e (λ answers y. ap (λ (z : Step). step_questions u.at z answers y) is) (ap is_piece is)

-- both ends of new ones close, whatever is answered to a login that can be said
pub both-logins : (t : Talk) (numbers : Configuration) (plan : JoinPlan) (us : List Turn) (last : Join) → IsNew t → CanBeSaid t.config → IsPlan plan → AreInRange numbers → is_frame_max numbers.frame_max ≡ true
    → AreTurns us (begin t) → AreTold us → AreFit us → AreFed us → JoinsTurns us (begin t) unasked (join (fresh numbers) plan) last → SayLogins t.config.options us (begin t) → TwoEnds t plan us last
both-logins t numbers plan us last is_new can is_plan range most may told fit fed joins says =
    both t numbers plan us last is_new can is_plan range most may told fit fed joins (by us may told fit fed joins says)
  where
    by : (us : List Turn) → AreTurns us (begin t) → AreTold us → AreFit us → AreFed us → JoinsTurns us (begin t) unasked (join (fresh numbers) plan) last → SayLogins t.config.options us (begin t)
        → AreSayable t.config.options (answered_in us)
    by [] may told fit fed joins says = tt
    by (u ∷ us) may told fit fed joins says =
        let st : Started t is_new can numbers plan u joins.0 = first-turn t is_new can numbers most range plan u joins.0 may.0 told.0 fit.0 fed.0 joins.1 in
        sayable-append t.config.options u.notes.auths (answered_in us) (says.0 (linked-asks u (asks (begin t)) st.step))
        (all-sayable t.config.options numbers most range us (turn u (begin t)) st.sending (asked_then (asked_now (begin t) unasked) (join (fresh numbers) plan)) joins.0 last (all_said st.moved silent)
        (flat_map (replies numbers) st.moved) st.stands (st.placed is_plan) may.1 told.1 fit.1 fed.1 says.1 joins.2)

-- ---- what a provider answers

paired-questions : (qs more : List Question) (answers : List Asked) → Answer qs answers → questions_of (paired (qs ++ more) answers) ≡ qs
paired-questions [] [] [] h = refl
paired-questions [] (q ∷ more) [] h = refl
paired-questions (q ∷ qs) more (a ∷ answers) h = ap (λ (rest : List Question). q ∷ rest) (paired-questions qs more answers h.1)
paired-questions [] more (a ∷ answers) h = absurd h
paired-questions (q ∷ qs) more [] h = absurd h

paired-answers : (qs more : List Question) (answers : List Asked) → Answer qs answers → answers_of (paired (qs ++ more) answers) ≡ answers
paired-answers [] [] [] h = refl
paired-answers [] (q ∷ more) [] h = refl
paired-answers (q ∷ qs) more (a ∷ answers) h = ap (λ (rest : List Asked). a ∷ rest) (paired-answers qs more answers h.1)
paired-answers [] more (a ∷ answers) h = absurd h
paired-answers (q ∷ qs) more [] h = absurd h

-- wherever these turns stand among others
says-each : (options : Options) (state : Exchange → Type 0) → SaysLogins options state → (us : List Turn) (e : Engine) (before later : Exchange) → AreTurns us e → AreFed us
    → Allows state (before ++ (exchanges us e ++ later)) → SayLogins options us e
says-each options state says [] e before later may fed allowed = tt
says-each options state says (u ∷ us) e before later may fed allowed = (first, says-each options state says us (turn u e) (before ++ x) later may.1 fed.1 (subst (Allows state) regrouped allowed)) where
  x : Exchange
  x = exchange_of u (asks e)

  answered : Answer (read u (asks e)).questions u.notes.auths
  answered = subst (λ (o : Option ℕ). IsAnswered o (read u (asks e)).questions (cut_questions u (asks e)) u.notes.auths) fed.0 may.0.applied.asked

  grouped : before ++ ((x ++ exchanges us (turn u e)) ++ later) ≡ before ++ (x ++ (exchanges us (turn u e) ++ later))
  grouped = ap (λ (y : Exchange). before ++ y) (append_assoc x (exchanges us (turn u e)) later)

  regrouped : before ++ ((x ++ exchanges us (turn u e)) ++ later) ≡ (before ++ x) ++ (exchanges us (turn u e) ++ later)
  regrouped = grouped ∙ sym (append_assoc before x (exchanges us (turn u e) ++ later))

  first : AskLogins (read u (asks e)).questions → AreSayable options u.notes.auths
  first logs =
      subst (AreSayable options) (paired-answers (read u (asks e)).questions (cut_questions u (asks e)) u.notes.auths answered)
      (says before x (exchanges us (turn u e) ++ later) (subst (Allows state) grouped allowed)
      (subst AskLogins (sym (paired-questions (read u (asks e)).questions (cut_questions u (asks e)) u.notes.auths answered)) logs))

-- where memory was refused in none of these turns, none was cut
fed-uncut : (us : List Turn) → AreFed us → cut_of us ≡ None
fed-uncut [] fed = refl
fed-uncut (u ∷ us) fed = ap (λ (o : Option ℕ). option_or o (cut_of us)) fed.0 ∙ fed-uncut us fed.1

pub says-logins : (options : Options) (state after : Exchange → Type 0) (us : List Turn) (e : Engine) → SaysLogins options state → AreTurns us e → AreFed us → MayCome (cut_of us) state after (exchanges us e)
    → SayLogins options us e
says-logins options state after us e says may fed come =
    says-each options state says us e [] [] may fed (subst (λ (o : Option ℕ). MayCome o state after (exchanges us e)) (fed-uncut us fed) come [] tt)
