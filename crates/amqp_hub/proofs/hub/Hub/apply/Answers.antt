use Rattle.std.proofs.Common.{◌≡◌, ◌∙◌, ◌+◌, ◌≤◌, Bool, List, [], ◌∷◌, ◌++◌, is_err, ap, subst, arith}
use Rattle.amqp_journal.specs.declared.entry.Entry.{Entry}
use Rattle.amqp_journal.specs.declared.entry.Entry.TheVariants.{Turn}
use Rattle.amqp_journal.specs.declared.entry.Turn.{Turn as Taken}
use Rattle.amqp_journal.specs.Journal.{turned}
use Rattle.amqp_hub.specs.Guarded.{Guarded, guarded}
use Rattle.amqp_hub.specs.Entering.{TakesStep}
use Rattle.amqp_hub.proofs.Keeping.{kept-turned, made-turned}
use Rattle.amqp_hub.proofs.Taking.{of_ok, of_err}
use Rattle.amqp_hub.proofs.hub.Hub.apply.Goals as goal

pub invariant_of-self : goal.invariant_of-self
invariant_of-self g c =
    let t = c.take_turn.ensures.turn in
    let u : Taken = turned c.args.told.at c.args.told.step c.args.bytes.now t.notes in
    let hj : c.take_turn.new.journal.items ≡ c.self.inside.journal.items ++ Turn u ∷ [] =
    t.entered ∙ ap (λ (xs : List Entry). xs ++ Turn u ∷ []) c.turn_copy.ensures.items in (
      kept-turned u c.self.inside.engine t.engine c.take_turn.new.engine _ c.self.inside.journal.items c.take_turn.new.journal.items c.self.inside.counts.items
          t.applies.applies.may t.applies.applies.leaves t.asked hj c.self.invariant.0,
      λ running. omega (arith, c.take_turn.ensures.len, c.take_turn.ensures.capacity, c.in-Ok.ensures.room),
    )

pub returns-in-Ok-clause-promises : goal.returns-in-Ok-clause-promises
returns-in-Ok-clause-promises g c =
    let t = c.take_turn.ensures.turn in
    let P : Guarded → Type 0 = λ h. h.engine.talk.made ≤ (c.take_turn.new.engine).talk.made in
    subst P c.self.view_is
    (made-turned (turned c.args.told.at c.args.told.step c.args.bytes.now t.notes) c.self.inside.engine t.engine c.take_turn.new.engine t.applies.applies.leaves t.asked)

pub returns-in-Ok-clause-ok : goal.returns-in-Ok-clause-ok
returns-in-Ok-clause-ok g c =
    let P : Bool → List Entry → Guarded → Type 0 = λ b before h. TakesStep b c.args.told.at c.args.told.step c.args.bytes.now h.engine c.take_turn.new.engine before c.take_turn.new.journal.items
    (g.P.Port.log c.args.port.now) (g.P.Port.log c.take_turn.new.port) (g.A.AuthProvider.allows c.args.provider.now) (g.A.AuthProvider.allows c.take_turn.new.provider) in
    let cut = is_err c.take_turn.result in
    let x : Guarded = guarded c.self.inside.engine c.self.inside.base c.self.inside.journal.items c.self.inside.counts.items in
    of_ok (λ (b : Bool). P b c.args.self.now.journal c.args.self.now) c.take_turn.result
    (subst (λ (h : Guarded). P cut h.journal h) c.self.view_is
    (subst (λ (before : List Entry). P cut before x) c.turn_copy.ensures.items c.take_turn.ensures.turn))

pub returns-in-Ok-clause-err : goal.returns-in-Ok-clause-err
returns-in-Ok-clause-err g c =
    let P : Bool → List Entry → Guarded → Type 0 = λ b before h. TakesStep b c.args.told.at c.args.told.step c.args.bytes.now h.engine c.take_turn.new.engine before c.take_turn.new.journal.items
    (g.P.Port.log c.args.port.now) (g.P.Port.log c.take_turn.new.port) (g.A.AuthProvider.allows c.args.provider.now) (g.A.AuthProvider.allows c.take_turn.new.provider) in
    let cut = is_err c.take_turn.result in
    let x : Guarded = guarded c.self.inside.engine c.self.inside.base c.self.inside.journal.items c.self.inside.counts.items in
    of_err (λ (b : Bool). P b c.args.self.now.journal c.args.self.now) _ c.take_turn.result
    (subst (λ (h : Guarded). P cut h.journal h) c.self.view_is
    (subst (λ (before : List Entry). P cut before x) c.turn_copy.ensures.items c.take_turn.ensures.turn))
