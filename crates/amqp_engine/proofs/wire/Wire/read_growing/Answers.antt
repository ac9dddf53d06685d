use Rattle.std.proofs.Common.{◌≡◌, ◌∙◌, ◌+◌, ℕ, List, true, drop, length, ap, refl, sym, subst, arith}
use Rattle.amqp_rules.specs.Talk.{Talk, is_open}
use Rattle.amqp_rules.specs.Changes.{present_at}
use Rattle.amqp_rules.specs.Frames.{on_frame}
use Rattle.amqp_outgoing.specs.Marks.{left_in}
use Rattle.amqp_rules.proofs.Keeping.{frame-committed}
use Rattle.amqp_frame.specs.declared.frame.Read.TheVariants.{Whole}
use Rattle.amqp_auth.specs.Asking.{Unanswered}
use Rattle.amqp_engine.proofs.Answering.{unanswered-none}
use Rattle.amqp_engine.specs.Engine.{Engine, settle, row_questions}
use Rattle.amqp_engine.specs.Plan.{at_most_64}
use Rattle.amqp_engine.specs.Making.{RowHears}
use Rattle.amqp_engine.proofs.wire.Wire.read_growing.Goals as goal

pub invariant_of-self-2 : goal.invariant_of-self-2
invariant_of-self-2 g c =
    let t = c.self.inside.session in
    let f = c.args.frame in
    let at = c.args.at in
    let h = c.in_default.ensures.ok in
    let both = c.in-Ok.ensures in
    let opened : is_open t ≡ true = ap (λ (e : Engine). is_open e.talk) c.self.view_is ∙ c.requires.open in
    let before : t.capacity ≡ c.args.self.now.talk.capacity = ap (λ (e : Engine). e.talk.capacity) c.self.view_is in
    let after : c.frame.new.self.capacity ≡ c.args.capacity =
    ap (λ (y : Talk). y.capacity) h.talk ∙ ap (λ (e : Engine). (on_frame f h.answers (present_at at e.talk)).capacity) c.self.view_is ∙ sym (c.requires.after h.answers) in
    let unsent = both.unsent.0 ∙ ap (λ (e : Engine). e.unsent) (sym c.self.view_is) in (
      λ now.
          ap length unsent ∙ c.self.invariant.0 opened
          ∙ sym (ap left_in (ap (λ (y : Talk). y.committed) h.talk ∙ frame-committed f h.answers at t (sym (ap is_open h.talk) ∙ now))),
      both.unread.1 ∙ sym after,
      both.unsent.1 ∙ sym after,
      omega (arith, after, before, c.requires.grows, c.self.invariant.3),
    )

pub returns-clause-ok : goal.returns-clause-ok
returns-clause-ok g c =
    let h = c.in_default.ensures.ok in
    let both = c.in-Ok.ensures in
    let before = g.A.AuthProvider.allows c.args.provider.now in
    let after = g.A.AuthProvider.allows c.frame.new.provider in
    let inside = c.self.inside in
    let x : Engine = record { talk = inside.session; unread = inside.unread.kept; place = inside.place; unsent = inside.unsent.kept; starved = inside.starved } in
    let n = c.args.n in
    let row : List ℕ → List ℕ → Talk → Engine =
    λ received unsent t. settle (record { talk = t; unread = drop n received; place = at_most_64 (inside.place + n); unsent = unsent; starved = inside.starved }) in
    let first : c.in-Ok.both.0.kept ≡ inside.unread.kept = both.unread.0 ∙ ap (λ (e : Engine). e.unread) (sym c.self.view_is) in
    let second : c.in-Ok.both.1.kept ≡ inside.unsent.kept = both.unsent.0 ∙ ap (λ (e : Engine). e.unsent) (sym c.self.view_is) in
    let P : Engine → Type 0 = λ y. RowHears c.args.at (Whole c.args.frame n) y c.step_over.new.self before after c.args.auths.now.list c.frame.new.auths.list in
    subst P c.self.view_is
    (record {
      answers = h.answers;
      asks = h.asks;
      engine =
          c.step_over.ensures ∙ ap (λ (b : List ℕ). row b c.in-Ok.both.1.kept c.frame.new.self) first
          ∙ ap (λ (b : List ℕ). row inside.unread.kept b c.frame.new.self) second ∙ ap (row inside.unread.kept inside.unsent.kept) h.talk;
    })

pub returns-in-Err-clause-unanswered : goal.returns-in-Err-clause-unanswered
returns-in-Err-clause-unanswered g c =
    unanswered-none (λ answers. row_questions c.args.at (Whole c.args.frame c.args.n) c.args.self.now) (g.A.AuthProvider.allows c.args.provider.now) c.args.auths.now.list c.args.auths.now.list refl

pub returns-in-Err-frame-clause-unanswered : goal.returns-in-Err-frame-clause-unanswered
returns-in-Err-frame-clause-unanswered g c =
    let P : Engine → Type 0 = λ y. Unanswered (λ answers. row_questions c.args.at (Whole c.args.frame c.args.n) y) (g.A.AuthProvider.allows c.args.provider.now) c.args.auths.now.list c.frame.new.auths.list in
    subst P c.self.view_is c.in-Err-frame.ensures.unanswered
