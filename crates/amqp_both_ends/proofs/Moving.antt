-- The step of a turn over a joined port, before what it brings is read: room, a piece, or a command where all is quiet.
use Rattle.std.proofs.Common.{◌≡◌, ◌≤◌, ◌∙◌, ap, sym, refl, subst, ℕ, ◌+◌, min, true, List, [], ◌∷◌, ◌++◌, length, take, drop, append_assoc, length-drop, arith}
use Rattle.std.proofs.lemmas.List.{take-append-drop, drop-drop}
use Rattle.amqp_types.proofs.Small.{if_case}
use Rattle.amqp_frame.specs.declared.frame.Frame.{Frame}
use Rattle.amqp_outbox.specs.declared.item.Item.{Item}
use Rattle.amqp_auth.specs.declared.asked.Asked.{Asked}
use Rattle.amqp_settings.specs.declared.configuration.Configuration.{Configuration}
use Rattle.amqp_commands.specs.declared.command.Cmd.{Cmd}
use Rattle.amqp_commands.specs.declared.command.Cmd.TheVariants.{OpenChannel, CloseChannel, CloseConnection, UpdateSecret, Send, Publish, Flow, DropChannel, DropConnection, Listen}
use Rattle.amqp_settings.specs.Config.{Options}
use Rattle.amqp_rules.specs.Talk.{Talk, is_open}
use Rattle.amqp_rules.specs.Changes.{present_at}
use Rattle.amqp_rules.specs.Links.{piece}
use Rattle.amqp_rules.specs.Commands.{command}
use Rattle.amqp_rules.specs.Writing.{flows}
use Rattle.amqp_rules.proofs.Keeping.{present-keeps}
use Rattle.amqp_rules.proofs.SoundChanges.{sound-present}
use Rattle.amqp_rules.proofs.SoundCommands.{sound-command}
use Rattle.amqp_legal.specs.Legal.{amqp_header}
use Rattle.amqp_legal_rules.proofs.Ties.{IsTied}
use Rattle.amqp_legal_rules.proofs.Conversing.{Now, now-moment, now-piece}
use Rattle.amqp_legal_rules.proofs.OnCommands.{now-command}
use Rattle.amqp_faultless.specs.Faultless.{Server, IsShortCommand}
use Rattle.amqp_faultless.proofs.Greeted.{IsMet}
use Rattle.amqp_faultless.proofs.Modest.{Modest}
use Rattle.amqp_faultless.proofs.Modesty.{modest-present, modest-piece}
use Rattle.amqp_faultless.proofs.Brief.{modest-command}
use Rattle.amqp_faultless.proofs.Tells.{met-present, met-command}
use Rattle.amqp_faultless.proofs.Tuned.{Tuned}
use Rattle.amqp_faultless.proofs.TunedRules.{tuned-present, tuned-command}
use Rattle.amqp_written_rules.specs.Sayable.{CanBeTold}
use Rattle.amqp_engine.specs.declared.port.Step.TheVariants.{Piece, Room, Command}
use Rattle.amqp_engine.specs.Engine.{Engine, rule_at, settle, step_piece, step_engine}
use Rattle.amqp_engine.specs.Turn.{IsToldCommand}
use Rattle.amqp_engine.specs.Sending.{Sending, frames, frames_sent}
use Rattle.amqp_engine.proofs.Settling.{settle-talk}
use Rattle.amqp_engine.proofs.Sends.{sends-step}
use Rattle.amqp_engine.proofs.Stepping.{sound-step, tuned-step}
use Rattle.amqp_engine.proofs.Follows.{met-step, piece-unread}
use Rattle.amqp_double.specs.Doubles.{DoubleState, HasAnswered}
use Rattle.amqp_owing.specs.Owed.{all_said}
use Rattle.amqp_joining.specs.Joining.{Join, output, next_cut, sent_on}
use Rattle.amqp_both_ends.proofs.Deals.{Spoken, Deals}
use Rattle.amqp_both_ends.proofs.Outgoing.{waiting}
use Rattle.amqp_both_ends.proofs.Tied.{sendable, told-now}
use Rattle.amqp_both_ends.proofs.Flowing.{flows-command}
use Rattle.amqp_both_ends.proofs.Commanding.{IsQuiet, commanded}
use Rattle.amqp_both_ends.proofs.Writes.{left_frames, Mid}
use Rattle.amqp_both_ends.proofs.Standing.{Between, Quietly}

module _ (options : Options) (numbers : Configuration) where
  -- both ends stand after a step, and what waits is the same
  pub record Moved (e after : Engine) (x : Sending) (next : Join) (s : Server) (rs : List Frame) : Type 0 where
    pub mid : Mid options numbers after x next s rs
    pub waits : waiting after.talk ≡ waiting e.talk

  -- ---- room

  -- what changes nothing but the present and the plan
  pub room-mid : (at : ℕ) (auths : List Asked) (octets : List ℕ) (e : Engine) (x : Sending) (j next : Join) (s : Server) (rs : List Frame) → next.double ≡ j.double → Mid options numbers e x j s rs
      → Moved e (step_engine at Room octets auths e) x next s rs
  room-mid at auths octets e x j next s rs same m =
      let t = present_at at e.talk in
      let waits : waiting t ≡ waiting e.talk = present-keeps waiting at e.talk (λ n. refl) in
      let out : output next ≡ output j = ap (λ (d : DoubleState). drop d.sent d.said) same in
      record {
        mid = record {
          deals = subst (λ (xs : List Item). Deals numbers (frames_sent x) (left_frames x ++ frames xs) rs s) (sym waits) m.deals;
          met = met-present at (all_said (left_frames x) s) e.talk m.met;
          free = m.free;
          sound = sound-present at e.talk m.sound;
          modest = modest-present options at e.talk m.modest;
          flowing = present-keeps flows at e.talk (λ n. refl) ∙ m.flowing;
          tuned = tuned-present at (frames x.committed) (all_said (left_frames x) s) e.talk m.tuned;
          sends = sends-step at Room octets auths e (x ∷ []) m.sends;
          numbered = ap (λ (d : DoubleState). d.numbers) same ∙ m.numbered;
          client = ap (λ (d : DoubleState). d.client) same ∙ m.client;
          unrefused = ap (λ (d : DoubleState). d.refusal) same ∙ m.unrefused;
          answered = subst (HasAnswered (frames_sent x)) (sym same) m.answered;
          bytes = ap (λ (xs : List ℕ). e.unread ++ xs) out ∙ m.bytes;
          spells = m.spells;
        };
        waits = waits;
      }

  -- ---- a piece

  told-on : (fs : List Frame) (d : DoubleState) (n : ℕ) → n ≤ length (drop d.sent d.said) → HasAnswered fs d → HasAnswered fs (record d { sent = d.sent + n })
  told-on fs d n within a =
      record {
        stand = a.stand;
        legal = a.legal;
        count = a.count;
        said = a.said;
        sent = omega (arith, within, a.sent, length-drop d.sent d.said);
        closed = a.closed;
      }

  cut-within : (a b : ℕ) → min a b ≤ a
  cut-within a b = omega arith

  pub piece-mid : (at k : ℕ) (auths : List Asked) (e : Engine) (x : Sending) (j : Join) (server : Server) (rs : List Frame) → Mid options numbers e x j server rs
      → Moved e (step_engine at (Piece k) (take (next_cut j) (output j)) auths e) x (sent_on j) server rs
  piece-mid at k auths e x j server rs m =
      let n = next_cut j in
      let octets = take n (output j) in
      let s = all_said (left_frames x) server in
      let t = present_at at e.talk in
      let y : Engine = record e { talk = piece t; unread = e.unread ++ octets } in
      let e1 = step_piece at octets e in
      let P : Engine → Type 0 = λ z. waiting z.talk ≡ waiting e.talk in
      let F : Engine → Type 0 = λ z. flows z.talk ≡ true in
      let M : Engine → Type 0 = λ z. Modest options z.talk in
      let now : waiting t ≡ waiting e.talk = present-keeps waiting at e.talk (λ n. refl) in
      let flow : flows t ≡ true = present-keeps flows at e.talk (λ n. refl) ∙ m.flowing in
      let modest : Modest options t = modest-present options at e.talk m.modest in
      let waits : waiting e1.talk ≡ waiting e.talk =
      if_case P (is_open e.talk) (settle y) (rule_at at (λ t. t) e)
      (ap waiting (settle-talk y) ∙ if_case (λ (z : Talk). waiting z ≡ waiting e.talk) (is_open t) (record t { last_read = t.present }) t now now) now in
      let out : output (sent_on j) ≡ drop n (output j) = sym (drop-drop n j.double.sent j.double.said) in
      record {
        mid = record {
          deals = subst (λ (xs : List Item). Deals numbers (frames_sent x) (left_frames x ++ frames xs) rs server) (sym waits) m.deals;
          met = met-step at (Piece k) octets auths s e tt m.met;
          free = m.free;
          sound = sound-step at octets auths e (Piece k) tt m.sound;
          modest = if_case M (is_open e.talk) (settle y) (rule_at at (λ t. t) e) (subst (Modest options) (sym (settle-talk y)) (modest-piece options t modest)) modest;
          flowing = if_case F (is_open e.talk) (settle y) (rule_at at (λ t. t) e)
              (ap flows (settle-talk y) ∙ if_case (λ (z : Talk). flows z ≡ true) (is_open t) (record t { last_read = t.present }) t flow flow) flow;
          tuned = tuned-step at octets auths e (frames x.committed) s (Piece k) tt m.met m.tuned;
          sends = sends-step at (Piece k) octets auths e (x ∷ []) m.sends;
          numbered = m.numbered;
          client = m.client;
          unrefused = m.unrefused;
          answered = told-on (frames_sent x) j.double n (cut-within (length (output j)) _) m.answered;
          bytes =
              ap (λ (xs : List ℕ). xs ++ output (sent_on j)) (piece-unread at octets s e m.met)
              ∙ ap (λ (xs : List ℕ). (e.unread ++ octets) ++ xs) out
              ∙ append_assoc e.unread octets (drop n (output j))
              ∙ ap (λ (xs : List ℕ). e.unread ++ xs) (take-append-drop n (output j))
              ∙ m.bytes;
          spells = m.spells;
        };
        waits = waits;
      }

  -- the session stays tied to what was committed
  pub piece-now : (at k : ℕ) (octets : List ℕ) (auths : List Asked) (e : Engine) (fs : List Frame) → Now e.talk fs → Now (step_engine at (Piece k) octets auths e).talk fs
  piece-now at k octets auths e fs h =
      let t = present_at at e.talk in
      let y : Engine = record e { talk = piece t; unread = e.unread ++ octets } in
      let now = now-moment at e.talk fs h in
      if_case (λ (z : Engine). Now z.talk fs) (is_open e.talk) (settle y) (rule_at at (λ t. t) e)
      (subst (λ (z : Talk). Now z fs) (sym (settle-talk y)) (now-piece t fs now)) now

  -- ---- a command

  pub short-command : (c : Cmd) → CanBeTold c → IsShortCommand c
  short-command (CloseChannel r code text) h = omega (arith, h)
  short-command (CloseConnection code text) h = omega (arith, h)
  short-command OpenChannel h = tt
  short-command (UpdateSecret secret reason) h = tt
  short-command (Send channel method) h = tt
  short-command (Publish channel method properties body) h = tt
  short-command (Flow channel active) h = tt
  short-command (DropChannel channel) h = tt
  short-command DropConnection h = tt
  short-command Listen h = tt

  -- what a command leaves, where all was quiet: the session is met, what it says is tied, and both ends owe each other that
  pub record Commanded (c : Cmd) (at : ℕ) (octets : List ℕ) (auths : List Asked) (e : Engine) (x : Sending) (next : Join) (s : Server) (said : List Frame) : Type 0 where
    pub mid : Mid options numbers (step_engine at (Command c) octets auths e) x next s []
    pub tied : IsTied (step_engine at (Command c) octets auths e).talk (amqp_header ∷ said)

  pub command-mid : (c : Cmd) (at : ℕ) (octets : List ℕ) (auths : List Asked) (e : Engine) (x : Sending) (j next : Join) → next.double ≡ j.double → IsToldCommand c → CanBeTold c
      → (s : Server) (rs : List Frame) (b : Between options numbers e x j s rs) → (q : Quietly numbers e x s) → output j ≡ [] → Commanded c at octets auths e x next s q.said
  command-mid c at octets auths e x j next same may fits s rs b q empty =
      let m = b.mid in
      let t = present_at at e.talk in
      let now : Now e.talk (amqp_header ∷ q.said) = subst (Now e.talk) q.committed (told-now e b.h x b.has b.only m.met.opened) in
      let then_so : Now (command c t) (amqp_header ∷ q.said) = now-command c t (amqp_header ∷ q.said) (sendable c may) (now-moment at e.talk (amqp_header ∷ q.said) now) in
      let met-s : IsMet s e.talk = subst (λ (fs : List Frame). IsMet (all_said fs s) e.talk) q.left m.met in
      let met : IsMet s (command c t) = met-command c s t (met-present at s e.talk met-s) in
      let tuned_s : Tuned (frames x.committed) s e.talk = subst (λ (fs : List Frame). Tuned (frames x.committed) (all_said fs s) e.talk) q.left m.tuned in
      let tuned : Tuned (frames x.committed) s (command c t) = tuned-command c (frames x.committed) s t (met-present at s e.talk met-s) (tuned-present at (frames x.committed) s e.talk tuned_s) in
      let tied : IsTied (command c t) (amqp_header ∷ q.said) = then_so.0 met.opened in
      let quiet : IsQuiet t =
      record {
        begun = present-keeps (λ z. z.outbox.begun) at e.talk (λ n. refl) ∙ q.quiet.begun;
        control = present-keeps (λ z. z.outbox.control) at e.talk (λ n. refl) ∙ q.quiet.control;
        publish = present-keeps (λ z. z.outbox.publish) at e.talk (λ n. refl) ∙ q.quiet.publish;
      } in
      let spoken : Spoken numbers q.said (frames (waiting (command c t))) [] s = commanded numbers t s q.said q.spoken q.is_opened quiet c tied in
      let out : output next ≡ [] = ap (λ (d : DoubleState). drop d.sent d.said) same ∙ empty in
      record {
        mid = record {
          deals =
              subst (λ (fs : List Frame). Deals numbers fs (left_frames x ++ frames (waiting (command c t))) [] s) (sym q.sent)
              (subst (λ (fs : List Frame). Deals numbers (amqp_header ∷ q.said) (fs ++ frames (waiting (command c t))) [] s) (sym q.left) (refl, spoken));
          met = subst (λ (fs : List Frame). IsMet (all_said fs s) (command c t)) (sym q.left) met;
          free = m.free;
          sound = sound-command c t (sound-present at e.talk m.sound);
          modest = modest-command options c t (short-command c fits) (modest-present options at e.talk m.modest);
          flowing = flows-command c t (present-keeps flows at e.talk (λ n. refl) ∙ m.flowing);
          tuned = subst (λ (fs : List Frame). Tuned (frames x.committed) (all_said fs s) (command c t)) (sym q.left) tuned;
          sends = sends-step at (Command c) octets auths e (x ∷ []) m.sends;
          numbered = ap (λ (d : DoubleState). d.numbers) same ∙ m.numbered;
          client = ap (λ (d : DoubleState). d.client) same ∙ m.client;
          unrefused = ap (λ (d : DoubleState). d.refusal) same ∙ m.unrefused;
          answered = subst (HasAnswered (frames_sent x)) (sym same) m.answered;
          bytes = ap (λ (xs : List ℕ). xs ++ output next) q.unread ∙ out;
          spells = tt;
        };
        tied = tied;
      }
