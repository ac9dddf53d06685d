use Rattle.std.proofs.Common.{◌≡◌, ◌∙◌, List, [], ◌++◌, length, drop, false, true, Some, None, is_some, subst, ap, sym, refl, rules, arith}
use Rattle.std.proofs.lemmas.List.{append-nil}
use Rattle.amqp_auth.specs.declared.asked.Question.{Question}
use Rattle.amqp_auth.specs.declared.asked.Asked.{Asked}
use Rattle.amqp_auth.specs.Providers.{Allows}
use Rattle.amqp_auth.specs.Asking.{paired}
use Rattle.amqp_rules.specs.Talk.{is_open, has_ended}
use Rattle.amqp_engine.proofs.Answering.{answered-all, may-front}
use Rattle.amqp_engine.specs.Engine.{Engine, starve_at}
use Rattle.amqp_engine.specs.Turn.{Notes, is_piece, begun, step_part, reading, IsAnswered, cut_questions, starved_after}
use Rattle.amqp_engine.specs.Tell.{turn_of}
use Rattle.amqp_engine.specs.Making.{making}
use Rattle.amqp_engine.proofs.Offers.{writes-cut}
use Rattle.amqp_engine.proofs.Applying.{noting, noted-as, applies-as, applies-of, applies-over, refused-over, step-starved}
use Rattle.amqp_engine.proofs.Over.{ended-closed, starve-over}
use Rattle.amqp_types.proofs.Small.{if_case, if-false, and-false}
use Rattle.amqp_engine.proofs.Cases.{is_before-cut}
use Rattle.amqp_engine.proofs.Blaming.{blames-then, blames-step, blames-starve, blames-writes}
use Rattle.amqp_engine.proofs.wire.Wire.take_turn.Goals as goal

pub take_step-requires-clause-apart : goal.take_step-requires-clause-apart
take_step-requires-clause-apart g c κs within =
    let e = c.args.self.now in
    let ended : has_ended e.talk ≡ true = ap (λ (x : Engine). has_ended x.talk) (sym c.self.view_is) ∙ sym c.has_ended.ensures ∙ c.if-has_ended.true in
    and-false (is_piece c.args.told.step) (is_open e.talk) (ended-closed e.talk.link ended)

pub write_all-requires-clause-tooks : goal.write_all-requires-clause-tooks
write_all-requires-clause-tooks g c = ap (λ (n : Notes). n.tooks) c.requires.blank

pub write_all-requires-clause-failed : goal.write_all-requires-clause-failed
write_all-requires-clause-failed g c = ap (λ (n : Notes). n.failed) c.requires.blank

pub returns-in-Err-clause-turn : goal.returns-in-Err-clause-turn
returns-in-Err-clause-turn g c =
    let e = c.args.self.now in
    let at = c.args.told.at in
    let f = c.in-Err.ensures in
    let ended : has_ended e.talk ≡ true = ap (λ (x : Engine). has_ended x.talk) (sym c.self.view_is) ∙ sym c.has_ended.ensures ∙ c.if-has_ended.true in
    let un = f.unanswered in
    let auths = un.answers in
    let listed : c.take_step.new.auths.list ≡ auths = un.listed ∙ ap (λ (n : Notes). n.auths ++ auths) c.requires.blank in
    let n : Notes = noting c.args.noted.now.tooks.numbers c.args.noted.now.failed c.take_step.new.auths.list (Some 0) in
    applies-as at c.args.told.step c.args.bytes.now (noting [] false auths (Some 0)) n e _ _ _ _ _ (g.A.AuthProvider.allows c.args.provider.now) _
    (noted-as n [] false auths (Some 0) (ap (λ (n : Notes). n.tooks) c.requires.blank) (ap (λ (n : Notes). n.failed) c.requires.blank) listed refl)
    (refused-over at c.args.told.step c.args.bytes.now e _ _ _ _ _ _ _ _ _ ended f.refused un (f.err ∙ starve-over at e ended) refl)

pub returns-in-Err-clause-over : goal.returns-in-Err-clause-over
returns-in-Err-clause-over g c =
    let e = c.args.self.now in
    let fact : has_ended e.talk ≡ true → c.take_step.new.self ≡ e = λ ended. c.in-Err.ensures.err ∙ starve-over c.args.told.at e ended in
    search (rules, fact)

pub returns-then-has_ended-clause-turn : goal.returns-then-has_ended-clause-turn
returns-then-has_ended-clause-turn g c =
    let e = c.args.self.now in
    let at = c.args.told.at in
    let ended : has_ended e.talk ≡ true = ap (λ (x : Engine). has_ended x.talk) (sym c.self.view_is) ∙ sym c.has_ended.ensures ∙ c.if-has_ended.true in
    let h = c.in_default.ensures.ok in
    let listed : c.take_step.new.auths.list ≡ h.answers =
    h.asks.listed ∙ ap (λ (n : Notes). n.auths ++ h.answers) c.requires.blank in
    let n : Notes = noting c.args.noted.now.tooks.numbers c.args.noted.now.failed c.take_step.new.auths.list c.args.noted.now.starved in
    applies-as at c.args.told.step c.args.bytes.now (noting [] false h.answers None) n e _ _ _ _ _ (g.A.AuthProvider.allows c.args.provider.now) (g.A.AuthProvider.allows c.take_step.new.provider)
    (noted-as n [] false h.answers None (ap (λ (n : Notes). n.tooks) c.requires.blank) (ap (λ (n : Notes). n.failed) c.requires.blank) listed (ap (λ (n : Notes). n.starved) c.requires.blank))
    (applies-over at c.args.told.step c.args.bytes.now e _ _ _ _ _ (g.A.AuthProvider.allows c.args.provider.now) (g.A.AuthProvider.allows c.take_step.new.provider)
    c.args.noted.now.auths.list c.take_step.new.auths.list ended h refl)

pub returns-then-has_ended-clause-starved : goal.returns-then-has_ended-clause-starved
returns-then-has_ended-clause-starved g c =
    let h = c.in_default.ensures.ok in
    ap (λ (x : Engine). x.starved) (h.engine c.args.bytes.now) ∙ step-starved c.args.told.at c.args.told.step c.args.bytes.now h.answers c.args.self.now

pub returns-then-has_ended-clause-noted : goal.returns-then-has_ended-clause-noted
returns-then-has_ended-clause-noted g c = ap (λ (n : Notes). is_some n.starved) c.requires.blank

pub returns-in-Err-read_step-clause-turn : goal.returns-in-Err-read_step-clause-turn
returns-in-Err-read_step-clause-turn g c =
    let e = c.args.self.now in
    let at = c.args.told.at in
    let running : has_ended e.talk ≡ false = ap (λ (x : Engine). has_ended x.talk) (sym c.self.view_is) ∙ sym c.has_ended.ensures ∙ c.if-has_ended.false in
    let n = c.read_step.new.parts in
    let f = c.in-Err-read_step.ensures.err in
    let p = making at (Some n) (drop (length f.questions) f.answers) f.questions f.engine n in
    let same : starve_at at n f.engine ≡ c.cut.new.self = sym (c.cut.ensures ∙ f.leads.0) in
    let listed : c.read_step.new.auths.list ≡ f.answers = f.listed ∙ ap (λ (x : Notes). x.auths ++ f.answers) c.requires.blank in
    let noted : Notes = noting c.args.noted.now.tooks.numbers c.args.noted.now.failed c.read_step.new.auths.list (Some n) in
    applies-as at c.args.told.step c.args.bytes.now (noting [] false f.answers (Some n)) noted e _ _ _ _ _ (g.A.AuthProvider.allows c.args.provider.now) _
    (noted-as noted [] false f.answers (Some n) (ap (λ (x : Notes). x.tooks) c.requires.blank) (ap (λ (x : Notes). x.failed) c.requires.blank) listed refl)
    (applies-of at c.args.told.step c.args.bytes.now (noting [] false f.answers (Some n)) e _ _ _ _ _ (g.A.AuthProvider.allows c.args.provider.now) _ p p f.leads.2
    (writes-cut p _ _ _ _ (is_before-cut n) refl) refl (if-false (has_ended e.talk) p.engine (starved_after (Some n) at p.engine) running ∙ same)
    (subst (λ (q : List Question). IsAnswered (Some n) f.questions q f.answers) f.leads.1 f.all)
    (subst (λ (q : List Question). Allows (g.A.AuthProvider.allows c.args.provider.now) (paired (f.questions ++ q) f.answers)) f.leads.1 f.allowed))

pub returns-in-Err-write_all-clause-turn : goal.returns-in-Err-write_all-clause-turn
returns-in-Err-write_all-clause-turn g c =
    let e = c.args.self.now in
    let at = c.args.told.at in
    let running : has_ended e.talk ≡ false = ap (λ (x : Engine). has_ended x.talk) (sym c.self.view_is) ∙ sym c.has_ended.ensures ∙ c.if-has_ended.false in
    let n = c.read_step.new.parts in
    let m = c.write_all.new.parts in
    let f = c.in-Err-write_all.ensures in
    let h = c.in_default-read_step.ensures.ok in
    let p = making at (Some m) [] h.questions c.read_step.new.self n in
    let p' = making at (Some m) [] h.questions c.write_all.new.self m in
    let tooks = c.write_all.new.tooks.numbers in
    let failed = c.write_all.new.failed in
    let listed : c.read_step.new.auths.list ≡ h.answers = h.asks.listed ∙ ap (λ (x : Notes). x.auths ++ h.answers) c.requires.blank in
    let next = cut_questions (turn_of at c.args.told.step c.args.bytes.now (noting tooks failed h.answers (Some m))) e in
    let noted : Notes = noting tooks failed c.read_step.new.auths.list (Some m) in
    applies-as at c.args.told.step c.args.bytes.now (noting tooks failed h.answers (Some m)) noted e _ _ _ _ _ (g.A.AuthProvider.allows c.args.provider.now) (g.A.AuthProvider.allows c.read_step.new.provider)
    (noted-as noted tooks failed h.answers (Some m) refl refl listed refl)
    (applies-of at c.args.told.step c.args.bytes.now (noting tooks failed h.answers (Some m)) e _ _ _ _ _ (g.A.AuthProvider.allows c.args.provider.now) (g.A.AuthProvider.allows c.read_step.new.provider) p p'
    (ap (λ (l : List Asked). reading (is_piece c.args.told.step) (step_part c.args.told.step c.args.bytes.now (begun at (Some m) l e))) (sym (append-nil h.answers)) ∙ h.leads (Some m) [] f.grows)
    (f.err [] h.questions) refl
    (if-false (has_ended e.talk) p'.engine (starved_after (Some m) at p'.engine) running ∙ sym c.cut-in-Err-write_all.ensures)
    (answered-all (Some m) h.questions next h.answers h.asks.all)
    (may-front (Some m) (g.A.AuthProvider.allows c.args.provider.now) (g.A.AuthProvider.allows c.read_step.new.provider) h.questions next h.answers h.asks.all
    (subst (Allows (g.A.AuthProvider.allows c.args.provider.now)) (append-nil (paired h.questions h.answers)) (h.asks.allowed [] tt))))

pub returns-clause-turn : goal.returns-clause-turn
returns-clause-turn g c =
    let e = c.args.self.now in
    let at = c.args.told.at in
    let f = c.in_default-write_all.ensures in
    let h = c.in_default-read_step.ensures.ok in
    let p = making at None [] h.questions c.read_step.new.self c.read_step.new.parts in
    let p' = making at None [] h.questions c.write_all.new.self c.write_all.new.parts in
    let tooks = c.write_all.new.tooks.numbers in
    let failed = c.write_all.new.failed in
    let listed : c.read_step.new.auths.list ≡ h.answers = h.asks.listed ∙ ap (λ (x : Notes). x.auths ++ h.answers) c.requires.blank in
    let next = cut_questions (turn_of at c.args.told.step c.args.bytes.now (noting tooks failed h.answers None)) e in
    let noted : Notes = noting tooks failed c.read_step.new.auths.list c.args.noted.now.starved in
    applies-as at c.args.told.step c.args.bytes.now (noting tooks failed h.answers None) noted e _ _ _ _ _ (g.A.AuthProvider.allows c.args.provider.now) (g.A.AuthProvider.allows c.read_step.new.provider)
    (noted-as noted tooks failed h.answers None refl refl listed (ap (λ (x : Notes). x.starved) c.requires.blank))
    (applies-of at c.args.told.step c.args.bytes.now (noting tooks failed h.answers None) e _ _ _ _ _ (g.A.AuthProvider.allows c.args.provider.now) (g.A.AuthProvider.allows c.read_step.new.provider) p p'
    (ap (λ (l : List Asked). reading (is_piece c.args.told.step) (step_part c.args.told.step c.args.bytes.now (begun at None l e))) (sym (append-nil h.answers)) ∙ h.leads None [] tt)
    (f.ok [] h.questions) tt (if_case (λ (x : Engine). x ≡ p'.engine) (has_ended e.talk) p'.engine p'.engine refl refl)
    h.asks.all
    (may-front None (g.A.AuthProvider.allows c.args.provider.now) (g.A.AuthProvider.allows c.read_step.new.provider) h.questions next h.answers h.asks.all h.asks.allowed))

pub returns-clause-noted : goal.returns-clause-noted
returns-clause-noted g c = ap (λ (n : Notes). is_some n.starved) c.requires.blank

pub returns-then-has_ended-clause-blames : goal.returns-then-has_ended-clause-blames
returns-then-has_ended-clause-blames g c =
    let h = c.in_default.ensures.ok in
    blames-step c.args.told.at c.args.told.step c.args.bytes.now h.answers c.args.self.now c.take_step.new.self _ _ (h.engine c.args.bytes.now)

pub returns-in-Err-write_all-clause-blames : goal.returns-in-Err-write_all-clause-blames
returns-in-Err-write_all-clause-blames g c =
    let r = c.in_default-read_step.ensures in
    let at = c.args.told.at in
    let n = c.read_step.new.parts in
    let m = c.write_all.new.parts in
    let x = c.read_step.new.self in
    let y = c.write_all.new.self in
    let written = blames-writes c.write_all.new.tooks.numbers c.write_all.new.failed (making at (Some m) [] [] x n) (making at (Some m) [] [] y m) _ _ _ _ (g.A.AuthProvider.refusals c.read_step.new.provider) (g.A.AuthProvider.refusals c.read_step.new.provider) (c.in-Err-write_all.ensures.err [] []) in
    blames-then c.args.self.now.talk x.talk c.cut-in-Err-write_all.new.self.talk _ _ _ r.never_falls (omega arith) r.blames
    (blames-then x.talk y.talk c.cut-in-Err-write_all.new.self.talk _ _ _ (omega arith) (omega arith) written
    (blames-starve at y c.cut-in-Err-write_all.new.self _ _ (ap (λ (e : Engine). e.talk) c.cut-in-Err-write_all.ensures)))

pub returns-clause-blames : goal.returns-clause-blames
returns-clause-blames g c =
    let r = c.in_default-read_step.ensures in
    let at = c.args.told.at in
    let n = c.read_step.new.parts in
    let m = c.write_all.new.parts in
    let x = c.read_step.new.self in
    let y = c.write_all.new.self in
    let written = blames-writes c.write_all.new.tooks.numbers c.write_all.new.failed (making at None [] [] x n) (making at None [] [] y m) _ _ _ _ (g.A.AuthProvider.refusals c.read_step.new.provider) (g.A.AuthProvider.refusals c.read_step.new.provider) (c.in_default-write_all.ensures.ok [] []) in
    blames-then c.args.self.now.talk x.talk y.talk _ _ _ r.never_falls (omega arith) r.blames written
