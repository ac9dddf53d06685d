-- Where both ends stand between turns, and where all is quiet.
use Rattle.std.proofs.Common.{◌≡◌, ◌≢◌, ◌≤◌, ◌<◌, ◌∙◌, ap, sym, refl, subst, ℕ, true, false, true≢false, List, [], ◌∷◌, ◌++◌, length, take, drop, append-nil, length-append, Some, arith}
use Rattle.std.specs.List.{flat_map, AllByRecursion}
use Rattle.std.proofs.lemmas.List.{take-append-drop}
use Rattle.std.proofs.Math.Seq.{drop-append_seam}
use Rattle.amqp_frame.specs.declared.frame.Frame.{Frame}
use Rattle.amqp_frame.specs.declared.frame.Read.TheVariants.{Whole, More}
use Rattle.amqp_frame.specs.Frames.{encoding}
use Rattle.amqp_outbox.specs.declared.item.Item.{Item}
use Rattle.amqp_outbox.specs.Items.{items_of_groups}
use Rattle.amqp_outbox.specs.Queued.{first_group}
use Rattle.amqp_promise.specs.declared.state.ConnectionState.{ConnectionState}
use Rattle.amqp_promise.specs.declared.state.ConnectionState.TheVariants.{Connected}
use Rattle.amqp_rules.specs.declared.state.Phase.{Phase}
use Rattle.amqp_rules.specs.declared.state.Input.{Input}
use Rattle.amqp_rules.specs.declared.state.Input.TheVariants.{Acting}
use Rattle.amqp_settings.specs.declared.configuration.Configuration.{Configuration}
use Rattle.amqp_settings.specs.Config.{Options}
use Rattle.amqp_rules.specs.Talk.{Talk, is_open, is_acting}
use Rattle.amqp_legal.specs.Legal.{amqp_header}
use Rattle.amqp_legal.specs.declared.progress.Stage.TheVariants.{OpenSaid}
use Rattle.amqp_legal.specs.Decider.{Speech, greeted, say_all}
use Rattle.amqp_legal_rules.proofs.Ties.{frames_in, first_out, unpaid, IsReady, IsTied, Ties, TiesActing}
use Rattle.amqp_legal_rules.proofs.Conversing.{committed-said}
use Rattle.amqp_faultless.specs.Faultless.{Server}
use Rattle.amqp_faultless.proofs.Greeted.{IsMet}
use Rattle.amqp_faultless.proofs.Limits.{met-least}
use Rattle.amqp_written_rules.specs.Sayable.{CanBeSaid}
use Rattle.amqp_engine.specs.Engine.{Engine, front_of}
use Rattle.amqp_engine.specs.Unread.{IsRead}
use Rattle.amqp_engine.specs.Sending.{Sending, frames, frames_sent, encodings, IsBegun}
use Rattle.amqp_engine.specs.Account.{History, HasHistory}
use Rattle.amqp_engine.proofs.Agreeing.{AgreesOn}
use Rattle.amqp_engine.proofs.Serving.{front-whole}
use Rattle.amqp_owing.specs.Owed.{all_said}
use Rattle.amqp_joining.specs.Joining.{Join, output}
use Rattle.amqp_joining.proofs.Quiet.{quiet-connected}
use Rattle.amqp_both_ends.proofs.Deals.{Spoken, Deals, deals-heard, HasClosed}
use Rattle.amqp_both_ends.proofs.Outgoing.{waiting, IsIdle}
use Rattle.amqp_both_ends.proofs.Spelling.{Spells}
use Rattle.amqp_both_ends.proofs.Commanding.{IsQuiet}
use Rattle.amqp_both_ends.proofs.Apart.{some-same, some-none, none-joined, only-one, open-closed}
use Rattle.amqp_both_ends.proofs.Tied.{told-now}
use Rattle.amqp_both_ends.proofs.Writes.{left_frames, pending, Mid}

-- between turns: the engine has its history, with one link; what both ends owe each other; where the last write was not
-- cut short nothing waits; and where the last close was told, it was said or is to be
pub record Between (options : Options) (numbers : Configuration) (e : Engine) (x : Sending) (j : Join) (server : Server) (rs : List Frame) : Type 0 where
  pub h : History
  pub has : HasHistory e h
  pub only : h.sent ≡ x ∷ []
  pub config : CanBeSaid e.talk.config
  pub mid : Mid options numbers e x j server rs
  pub read : IsRead e
  pub idle : j.short ≡ false → IsIdle e
  pub cut : j.short ≡ true → 0 < length e.unsent
  pub linked : j.linked ≡ true
  pub closing : j.closing ≡ true → HasClosed (frames_sent x ++ pending x e.talk)

-- ---- where nothing waits

-- a group has frames
groups-none : (v : Speech) (groups : List (List Item)) → AllByRecursion (IsReady v) groups → first_group groups ≡ [] → groups ≡ []
groups-none v [] ready none = refl
groups-none v (group ∷ groups) ready none = absurd (some-none _ _ (sym ready.0.frames ∙ ap frames_in none))

none-rest : (rest : List Item) (part : List ℕ) → IsBegun part rest → encodings rest ≡ part → rest ≡ []
none-rest [] part begun is = refl
none-rest (i ∷ rest) part begun is =
    absurd (some begun.0 begun.1 (omega (arith, ap length is, ap length begun.2, length-append (encoding i.frame) (encodings rest), length-append part begun.0)))
  where
    some : (xs : List ℕ) → xs ≢ [] → length xs ≤ 0 → ⊥
    some [] h le = h refl
    some (y ∷ xs) h le = omega (arith, le)

more-whole : (r : Frame) (n : ℕ) → More ≡ Whole r n → ⊥
more-whole r n h = cc

-- all was said, and nothing waits
pub record Quietly (numbers : Configuration) (e : Engine) (x : Sending) (s : Server) : Type 0 where
  pub quiet : IsQuiet e.talk
  pub unread : e.unread ≡ []
  pub said : List Frame
  pub sent : frames_sent x ≡ amqp_header ∷ said
  pub committed : frames x.committed ≡ amqp_header ∷ said
  pub left : left_frames x ≡ []
  pub pends : pending x e.talk ≡ []
  pub spoken : Spoken numbers said [] [] s
  pub connected : e.talk.state ≡ Connected
  pub is_opened : spoken.p.stage ≡ OpenSaid

open-stage : (i : Input) (st : ConnectionState) (ph : Phase) (t : Talk) (due : ℕ → ℕ) (v : Speech) → is_acting i ≡ true → st ≡ Connected
    → Ties i st ph t.channels t.outbox.awaited due v → v.stage ≡ OpenSaid
open-stage Acting st ph t due v acts is ties =
    let k : TiesActing Connected ph t.channels t.outbox.awaited due v = subst (λ (x : ConnectionState). TiesActing x ph t.channels t.outbox.awaited due v) is ties in k.speaking
open-stage i st ph t due v acts is ties = absurd (true≢false (sym acts))

module _ (options : Options) (numbers : Configuration) (e : Engine) (x : Sending) (j : Join) (server : Server) (rs : List Frame) (b : Between options numbers e x j server rs) (full : j.short ≡ false) (empty : output j ≡ []) where
  abbrev m : Mid options numbers e x j server rs
  m = b.mid

  opened : is_open e.talk ≡ true
  opened = m.met.opened

  idle : IsIdle e
  idle = b.idle full

  tied : IsTied e.talk (frames x.committed)
  tied = (told-now e b.h x b.has b.only opened).0 opened

  publish-none : e.talk.outbox.publish ≡ []
  publish-none = groups-none tied.later e.talk.outbox.publish tied.groups idle.group

  agrees : AgreesOn e x
  agrees = let l = m.sends.last opened in subst (AgreesOn e) (sym (only-one x l.1 l.0 l.2)) l.3

  nothing-left : drop x.sent x.committed ≡ []
  nothing-left =
      ap (λ (n : ℕ). drop n x.committed) agrees.sent ∙ ap (drop (length agrees.done)) agrees.committed ∙ drop-append_seam agrees.done agrees.rest
      ∙ none-rest agrees.rest agrees.part agrees.begun (agrees.left ∙ ap (λ (xs : List ℕ). agrees.part ++ xs) idle.unsent ∙ append-nil agrees.part)

  waits-none : waiting e.talk ≡ []
  waits-none =
      ap (λ (xs : List Item). xs ++ e.talk.outbox.control ++ items_of_groups e.talk.outbox.publish) idle.begun
      ∙ ap (λ (xs : List Item). xs ++ items_of_groups e.talk.outbox.publish) idle.control
      ∙ ap items_of_groups publish-none

  pends-none : pending x e.talk ≡ []
  pends-none = ap (λ (xs : List Item). frames xs ++ frames (waiting e.talk)) nothing-left ∙ ap frames waits-none

  met-server : IsMet server e.talk
  met-server = subst (λ (xs : List Item). IsMet (all_said (frames xs) server) e.talk) nothing-left m.met

  pub owed-none : rs ≡ []
  owed-none = by rs m.deals m.bytes m.spells where
    by : (rs : List Frame) → Deals numbers (frames_sent x) (pending x e.talk) rs server → e.unread ++ output j ≡ flat_map encoding rs → AllByRecursion Spells rs → rs ≡ []
    by [] deals bytes spells = refl
    by (r ∷ rs) deals bytes spells =
        let one = deals-heard numbers (frames_sent x) (pending x e.talk) rs r server deals in
        let whole : e.unread ≡ encoding r ++ [] =
        sym (append-nil e.unread) ∙ ap (λ (xs : List ℕ). e.unread ++ xs) (sym empty) ∙ bytes ∙ ap (λ (xs : List Frame). flat_map encoding (r ∷ xs)) one.alone in
        let limit = met-least server e.talk met-server in
        let front : front_of e ≡ Whole r (length (encoding r)) = front-whole server e r (encoding r) [] whole spells.0.0 (omega (arith, spells.0.1, limit)) in
        absurd (more-whole r (length (encoding r)) (sym (b.read opened) ∙ front))

  committed-sent : frames x.committed ≡ frames_sent x
  committed-sent =
      ap frames (sym (take-append-drop x.sent x.committed)) ∙ ap (λ (xs : List Item). frames (take x.sent x.committed ++ xs)) nothing-left ∙ ap frames (append-nil (take x.sent x.committed))

  quiet-now : IsQuiet e.talk
  quiet-now = record { begun = idle.begun; control = idle.control; publish = publish-none }

  pub quietly : Quietly numbers e x server
  quietly =
      by (frames_sent x) refl
      (subst (λ (rs : List Frame). Deals numbers (frames_sent x) [] rs server) owed-none (subst (λ (fs : List Frame). Deals numbers (frames_sent x) fs rs server) pends-none m.deals))
    where
      by : (sent : List Frame) → frames_sent x ≡ sent → Deals numbers sent [] [] server → Quietly numbers e x server
      by [] is d = absurd (some-none amqp_header [] (sym d.2))
      by (g ∷ said) is d =
          let sent : frames_sent x ≡ amqp_header ∷ said = is ∙ ap (λ (f : Frame). f ∷ said) d.0 in
          let spoken : Spoken numbers said [] [] server = d.1 in
          let committed : frames x.committed ≡ amqp_header ∷ said = committed-sent ∙ sent in
          let tied' : IsTied e.talk (amqp_header ∷ said) = subst (IsTied e.talk) committed tied in
          let first : first_out e.talk.outbox ≡ [] = ap (λ (xs : List Item). xs ++ e.talk.outbox.control) idle.begun ∙ idle.control in
          let connected = quiet-connected server e.talk said spoken.p met-server tied' first spoken.may spoken.owes in
          let k = committed-said (first_out e.talk.outbox) amqp_header said tied'.later tied'.leads in
          let later : Some k.now ≡ Some tied'.later = ap (λ (xs : List Item). say_all (Some k.now) (frames_in xs)) (sym first) ∙ k.rest in
          let mine : Some k.now ≡ Some spoken.p = sym k.may ∙ spoken.may in
          let same : tied'.later ≡ spoken.p = some-same tied'.later spoken.p (sym later ∙ mine) in
          let stage = open-stage e.talk.input e.talk.state e.talk.phase e.talk (unpaid e.talk.committed (first_out e.talk.outbox)) tied'.later m.met.acting connected tied'.ties in
          record {
            quiet = quiet-now;
            unread = none-joined e.unread (output j) (m.bytes ∙ ap (flat_map encoding) owed-none);
            said = said;
            sent = sent;
            committed = committed;
            left = ap frames nothing-left;
            pends = pends-none;
            spoken = spoken;
            connected = connected;
            is_opened = ap (λ (v : Speech). v.stage) (sym same) ∙ stage;
          }

  -- the last close was not told, since all was answered
  pub quiet-unclosed : j.closing ≡ true → ⊥
  quiet-unclosed is =
      let q = quietly in
      let c : HasClosed ((amqp_header ∷ q.said) ++ []) =
      subst (λ (fs : List Frame). HasClosed (fs ++ [])) q.sent (subst (λ (fs : List Frame). HasClosed (frames_sent x ++ fs)) q.pends (b.closing is)) in
      let same : q.spoken.p ≡ c.0 = some-same q.spoken.p c.0 (sym q.spoken.may ∙ ap (say_all (Some greeted)) (sym (append-nil q.said)) ∙ c.1) in
      open-closed (sym q.is_opened ∙ ap (λ (v : Speech). v.stage) same ∙ c.2)
