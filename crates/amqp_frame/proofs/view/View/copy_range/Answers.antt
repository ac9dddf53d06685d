use Rattle.std.proofs.Common.{ℕ, List, [], ◌∷◌, ◌++◌, sym, ap, ◌∙◌, arith}
use Rattle.amqp_frame.proofs.Windows.{window, window_more}
use Rattle.amqp_frame.proofs.view.View.copy_range.Goals as goal

pub loop-index-preserved : goal.loop-index-preserved
loop-index-preserved g c =
    let bytes = g.Self.View.bytes c.args.self.now in
    c.in_ok-push.ensures.items
    ∙ ap (λ (copy : List ℕ). copy ++ c.at.result ∷ []) c.loop-index.invariant
    ∙ ap (λ (octet : ℕ). window (g.Self.View.bytes c.args.self.now) c.args.start c.loop-index.index ++ octet ∷ [])
    c.at.ensures
    ∙ sym
    (window_more (g.Self.View.bytes c.args.self.now) c.args.start c.loop-index.index
    (omega (arith, c.loop-index.auto.index)) (omega (arith, c.loop-index-test.true, c.requires.within)))
