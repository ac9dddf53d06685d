use Rattle.std.proofs.Common.{◌≡◌, ◌∙◌, ◌≤◌, ◌<◌, ap, sym, refl, subst}
use Rattle.amqp_rules.specs.Talk.{Talk}
use Rattle.amqp_pool.specs.Pooled.{Pooled, AreMade, above, opening_promises}
use Rattle.amqp_pool.proofs.Counts.{bound-fits, idle-over, leased-over, opening-over}
use Rattle.amqp_pool.proofs.pool.Pool.fits.Goals as goal

pub returns-then-not-are_opened_below-clause-no : goal.returns-then-not-are_opened_below-clause-no
returns-then-not-are_opened_below-clause-no c = λ no.
    let s = c.self.inside in
    let t : Talk = c.args.hub.now.engine.talk in
    let bound : c.promises-made.result ≡ t.made = c.promises-made.ensures ∙ ap (λ (x : Talk). x.made) c.session.ensures in
    subst (λ (x : Pooled). t.made < above (opening_promises x)) c.self.view_is
    (idle-over c.promises-made.result t.made c.deref.result.now s.leased.items s.idle.items s.leased.items s.opening.items s.opening.items
    bound c.deref.ensures.value refl refl (sym c.are_opened_below.ensures ∙ c.if-not-are_opened_below.true))

pub returns-then-not-are_opened_below-2-clause-no : goal.returns-then-not-are_opened_below-2-clause-no
returns-then-not-are_opened_below-2-clause-no c = λ no.
    let s = c.self.inside in
    let t : Talk = c.args.hub.now.engine.talk in
    let bound : c.promises-made.result ≡ t.made = c.promises-made.ensures ∙ ap (λ (x : Talk). x.made) c.session.ensures in
    subst (λ (x : Pooled). t.made < above (opening_promises x)) c.self.view_is
    (leased-over c.promises-made.result t.made s.idle.items c.deref-2.result.now s.idle.items s.leased.items s.opening.items s.opening.items
    bound refl c.deref-2.ensures.value refl (sym c.are_opened_below-2.ensures ∙ c.if-not-are_opened_below-2.true))

pub returns-clause-yes : goal.returns-clause-yes
returns-clause-yes c = λ yes.
    let s = c.self.inside in
    let t : Talk = c.args.hub.now.engine.talk in
    let bound : c.promises-made.result ≡ t.made = c.promises-made.ensures ∙ ap (λ (x : Talk). x.made) c.session.ensures in
    subst (λ (x : Pooled). AreMade x t) c.self.view_is
    (bound-fits c.promises-made.result t.made c.deref.result.now c.deref-2.result.now s.idle.items s.leased.items c.deref-3.result.now s.opening.items
    bound c.deref.ensures.value c.deref-2.ensures.value c.deref-3.ensures.value (sym c.are_opened_below.ensures ∙ c.if-not-are_opened_below.false)
    (sym c.are_opened_below-2.ensures ∙ c.if-not-are_opened_below-2.false) (sym c.are_below.ensures ∙ yes))

pub returns-clause-no : goal.returns-clause-no
returns-clause-no c = λ no.
    let s = c.self.inside in
    let t : Talk = c.args.hub.now.engine.talk in
    let bound : c.promises-made.result ≡ t.made = c.promises-made.ensures ∙ ap (λ (x : Talk). x.made) c.session.ensures in
    subst (λ (x : Pooled). t.made < above (opening_promises x)) c.self.view_is
    (opening-over c.promises-made.result t.made s.idle.items s.leased.items s.idle.items s.leased.items c.deref-3.result.now s.opening.items
    bound refl refl c.deref-3.ensures.value (sym c.are_below.ensures ∙ no))
