-- Where nothing waits and nothing is owed, the connection is open.
use Rattle.std.proofs.Common.{◌≡◌, ℕ, true, true≢false, List, [], ◌∷◌, ◌++◌, append-nil, Some, refl, ap, sym, ◌∙◌, subst}
use Rattle.amqp_frame.specs.declared.frame.Frame.{Frame}
use Rattle.amqp_outbox.specs.declared.item.Item.{Item}
use Rattle.amqp_promise.specs.declared.state.ConnectionState.{ConnectionState}
use Rattle.amqp_promise.specs.declared.state.ConnectionState.TheVariants.{Initial, Connecting, Connected, Closing, Closed, Reconnecting, Error}
use Rattle.amqp_rules.specs.declared.state.Phase.{Phase}
use Rattle.amqp_rules.specs.declared.state.Phase.TheVariants.{AwaitStart, AwaitTune, AwaitOpenOk}
use Rattle.amqp_rules.specs.declared.state.Input.{Input}
use Rattle.amqp_rules.specs.declared.state.Input.TheVariants.{Acting}
use Rattle.amqp_rules.specs.Talk.{Talk, is_acting}
use Rattle.amqp_faultless.specs.Faultless.{Server, ServerStage}
use Rattle.amqp_faultless.specs.Faultless.ServerStage.{BeforeStart, BeforeTune, BeforeOpenOk, Serving, Gone}
use Rattle.amqp_legal.specs.Legal.{amqp_header}
use Rattle.amqp_legal.specs.declared.progress.Stage.{Stage}
use Rattle.amqp_legal.specs.declared.progress.Stage.TheVariants.{HeaderSaid, StartOkSaid, OpenSaid, CloseSaid}
use Rattle.amqp_legal.specs.Decider.{Speech, greeted, say_all}
use Rattle.amqp_faultless.proofs.Greeted.{IsMet, Meets}
use Rattle.amqp_legal_rules.proofs.Ties.{IsTied, LeadsTo, first_out, frames_in, Ties, TiesActing, unpaid}
use Rattle.amqp_owing.specs.Owed.{IsAllAnswered, Owes, stage_after}

-- it leads where it led before
leads-same : (items : List Item) (said : List Frame) (p later : Speech) → items ≡ [] → say_all (Some greeted) said ≡ Some p → (l : LeadsTo items (amqp_header ∷ said) later)
    → later ≡ p
leads-same items said p later none is l =
    let whole : amqp_header ∷ said ++ frames_in items ≡ amqp_header ∷ l.said = l.frames in
    let same : said ++ frames_in items ≡ l.said = cc in
    let mine : said ≡ l.said = sym (append-nil said) ∙ ap (λ (xs : List Item). said ++ frames_in xs) (sym none) ∙ same in
    let both : Some later ≡ Some p = sym l.may ∙ ap (say_all (Some greeted)) (sym mine) ∙ is in
    cc

-- a server is in one stage
apart : (x y : ServerStage) (s : Server) → s.stage ≡ x → s.stage ≡ y → x ≡ y
apart x y s a b = sym a ∙ b

module _ (s : Server) (p : Speech) (h : Owes p [] s) where
  answered-at : (st : Stage) → p.stage ≡ st → IsAllAnswered st p s
  answered-at st is =
      let here : s ≡ h.last = (let k : Some s ≡ Some h.last = h.says in cc) in
      let P : Stage → Type 0 = λ x. IsAllAnswered x p h.last in
      let Q : Server → Type 0 = λ x. IsAllAnswered st p x in
      subst Q (sym here) (subst P is h.answered)

  pub quiet : (st : ConnectionState) (ph : Phase) (t : Talk) → Meets st ph s t.outbox t.channels t.committed → (due : ℕ → ℕ) → TiesActing st ph t.channels t.outbox.awaited due p → st ≡ Connected
  quiet Connecting AwaitStart t m due ties =
      let a = answered-at HeaderSaid (ap (λ (x : Speech). x.stage) ties.0) in
      absurd (let bad : BeforeStart ≡ BeforeTune = apart BeforeStart BeforeTune s m.at_stage (a.stage ∙ ap stage_after (ap (λ (x : Speech). x.stage) ties.0)) in cc)
  quiet Connecting AwaitTune t m due ties =
      let a = answered-at StartOkSaid (ap (λ (x : Speech). x.stage) ties.0) in
      absurd (let bad : BeforeTune ≡ BeforeOpenOk = apart BeforeTune BeforeOpenOk s m.at_stage (a.stage ∙ ap stage_after (ap (λ (x : Speech). x.stage) ties.0)) in cc)
  quiet Connecting AwaitOpenOk t m due ties =
      let a = answered-at OpenSaid (ap (λ (x : Speech). x.stage) ties.0) in
      absurd (let bad : BeforeOpenOk ≡ Serving = apart BeforeOpenOk Serving s m.at_stage (a.stage ∙ ap stage_after (ap (λ (x : Speech). x.stage) ties.0)) in cc)
  quiet Connected ph t m due ties = refl
  quiet Closing ph t m due ties = absurd (let bad : Serving ≡ Gone = apart Serving Gone s m (answered-at CloseSaid ties) in cc)
  quiet Initial ph t m due ties = absurd m
  quiet Closed ph t m due ties = absurd m
  quiet Reconnecting ph t m due ties = absurd m
  quiet Error ph t m due ties = absurd m

acting-is : (input : Input) (st : ConnectionState) (ph : Phase) (t : Talk) (due : ℕ → ℕ) (p : Speech) → is_acting input ≡ true
    → Ties input st ph t.channels t.outbox.awaited due p → TiesActing st ph t.channels t.outbox.awaited due p
acting-is Acting st ph t due p acts ties = ties
acting-is input st ph t due p acts ties = absurd (true≢false (sym acts))

pub quiet-connected : (s : Server) (t : Talk) (said : List Frame) (p : Speech) → IsMet s t → IsTied t (amqp_header ∷ said) → first_out t.outbox ≡ []
    → say_all (Some greeted) said ≡ Some p → Owes p [] s → t.state ≡ Connected
quiet-connected s t said p m tied none is h =
    let same = leads-same (first_out t.outbox) said p tied.later none is tied.leads in
    let P : Speech → Type 0 = λ x. TiesActing t.state t.phase t.channels t.outbox.awaited (unpaid t.committed (first_out t.outbox)) x in
    quiet s p h t.state t.phase t m.meets (unpaid t.committed (first_out t.outbox)) (subst P same (acting-is t.input t.state t.phase t (unpaid t.committed (first_out t.outbox)) tied.later m.acting tied.ties))
