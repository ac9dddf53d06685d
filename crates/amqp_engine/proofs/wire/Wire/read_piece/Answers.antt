use Rattle.std.proofs.lemmas.List.{append-nil}
use Rattle.amqp_auth.specs.declared.asked.Question.{Question}
use Rattle.amqp_auth.specs.declared.asked.Asked.{Asked}
use Rattle.amqp_auth.specs.Providers.{Allows}
use Rattle.amqp_auth.specs.Asking.{paired}
use Rattle.amqp_engine.proofs.Answering.{asks-none, asks-then, allowed-then, answered-append, drop-both}
use Rattle.std.proofs.Common.{◌≡◌, ◌∙◌, ◌+◌, ◌-◌, ◌≤◌, ◌<◌, ℕ, List, [], ◌++◌, append_assoc, length, drop, take, Bool, true, false, Some, if◌then◌else◌, ap, sym, refl, subst, arith, rules, length-drop, length-take}
use Rattle.amqp_rules.specs.Talk.{Talk, is_open}
use Rattle.amqp_rules.specs.Changes.{present_at}
use Rattle.amqp_rules.specs.Links.{piece}
use Rattle.amqp_engine.specs.Engine.{Engine, step_piece, settle, rule_at, can_read, starve_at}
use Rattle.amqp_engine.specs.Turn.{reading}
use Rattle.amqp_engine.specs.Making.{making, keeps_unread, IsSettled, piece_joined, Broke, BreaksAt, Blames}
use Rattle.amqp_engine.proofs.Settling.{settle-settled}
use Rattle.amqp_engine.proofs.Cases.{Reaches-less, true-from}
use Rattle.amqp_engine.proofs.Applying.{starve_at-twice}
use Rattle.amqp_engine.proofs.Joining.{joined-keeps, joined-size, piece-joined, slice-left, part-joined, all-read, starved-joined, breaks-joined}
use Rattle.amqp_engine.proofs.Blaming.{blames-then, blames-piece, blames-joined}
use Rattle.amqp_engine.proofs.wire.Wire.read_piece.Goals as goal

-- the engine that its bytes are to join
begins : (at : ℕ) (bytes : List ℕ) (x e e' : Engine) (t : Talk) → is_open e.talk ≡ true → x ≡ e → t ≡ piece (present_at at x.talk) → e' ≡ settle (record x { talk = t })
    → step_piece at bytes e ≡ piece_joined bytes e'
begins at bytes x e e' t opened view told settled =
    piece-joined at bytes e opened
    ∙ ap (piece_joined bytes) (sym (settled ∙ ap (λ (y : Talk). settle (record x { talk = y })) told ∙ ap (λ (y : Engine). settle (rule_at at piece y)) view))

settled-now : (x y : Engine) → y ≡ settle x → IsSettled y
settled-now x y is = subst IsSettled (sym is) (settle-settled x)

pub parts-preserved : goal.parts-preserved
parts-preserved g c =
    let i = c.parts.invariant in
    let h = i.heard in
    let f = c.in_ok-read_all.ensures in
    let k = f.ok in
    let j' = c.join-joined.ensures in
    let e = c.parts.self in
    let n = c.join-joined.result in
    let j = c.parts.joined in
    let piece = c.args.piece.now in
    let at = c.args.at in
    let slice = take (length piece - j) (drop j piece) in
    let left = ap length (slice-left j piece) in
    let kept : keeps_unread e.talk ≡ true =
    true-from (keeps_unread e.talk) (λ over. c.if-joined-piece.false (omega (arith, j'.over over, left, length-drop j piece, i.within))) in
    let grown : length c.join-joined.new.self.unread ≤ length e.unread + n =
    omega (arith, ap (λ (x : Engine). length x.unread) j'.engine, joined-size (take n slice) e, length-take n slice) in
    record {
      heard = record {
        questions = h.questions ++ k.questions;
        answers = h.answers ++ k.answers;
        asks = asks-then h.questions k.questions h.answers k.answers (g.A.AuthProvider.allows c.args.provider.now) (g.A.AuthProvider.allows c.parts.provider) (g.A.AuthProvider.allows c.read_all.new.provider)
            c.args.auths.now.list c.parts.auths.list c.read_all.new.auths.list h.asks k.asks;
        leads = λ cut more allows.
            ap (λ (l : List Asked). reading true (making at cut l [] (piece_joined piece c.settle.new.self) 1)) (append_assoc h.answers k.answers more)
            ∙ h.leads cut (k.answers ++ more) (Reaches-less cut c.parts.parts c.read_all.new.parts c.read_all.ensures.grows allows)
            ∙ ap (λ (x : Engine). reading true (making at cut (k.answers ++ more) h.questions x c.parts.parts)) (part-joined n j piece e c.join-joined.new.self j'.engine)
            ∙ k.leads (drop (j + n) piece) cut more h.questions allows;
      };
      can = f.can;
      settled = f.settled;
      within = omega (arith, j'.within, left, length-drop j piece, i.within);
      size = λ keeps. omega (arith, f.size keeps, grown, i.size kept);
      bound = omega (arith, f.bound, grown, i.size kept);
      some = omega (arith, i.some, f.grows);
      starved = f.starved ∙ ap (λ (x : Engine). x.starved) j'.engine ∙ joined-keeps (λ (x : Engine). x.starved) (λ x bytes. refl) (take n slice) e ∙ i.starved;
      never_falls = omega (arith, f.never_falls, i.never_falls);
      blames = blames-then c.args.self.now.talk e.talk c.read_all.new.self.talk _ _ _ i.never_falls f.never_falls i.blames
          (blames-then e.talk c.join-joined.new.self.talk c.read_all.new.self.talk _ _ _ (omega arith) f.never_falls
          (blames-joined (take n slice) e c.join-joined.new.self _ _ j'.engine) f.blames);
    }

shrinks : (b : Bool) (before now : ℕ) → now ≤ before → (b ≡ false → now < before) → now + 0 < before + (if b then 1 else 0)
shrinks true before now le less = omega arith
shrinks false before now le less = omega (arith, less refl)

pub parts-smaller : goal.parts-smaller
parts-smaller g c =
    let j' = c.join-joined.ensures in
    let e = c.parts.self in
    let n = c.join-joined.result in
    let j = c.parts.joined in
    let piece = c.args.piece.now in
    let left = ap length (slice-left j piece) in
    let len = length-drop j piece in
    let before : ℕ = length piece - j in
    let now : ℕ = length piece - (j + n) in
    rw c.in_ok-read_all.ensures.done
    (shrinks (can_read e) before now (omega arith)
    (λ none. omega (arith, j'.some none (omega (arith, j'.within, left, len, c.parts.invariant.within, c.if-joined-piece.false)), j'.within, left, len, c.parts.invariant.within)))

pub returns-then-joined-piece-clause-ok : goal.returns-then-joined-piece-clause-ok
returns-then-joined-piece-clause-ok g c =
    let i = c.parts.invariant in
    let h = i.heard in
    let f = c.in_ok-read_all.ensures in
    let k = f.ok in
    let n = c.join-joined.result in
    let j = c.parts.joined in
    let piece = c.args.piece.now in
    let at = c.args.at in
    let begin : step_piece at piece c.args.self.now ≡ piece_joined piece c.settle.new.self =
    begins at piece _ c.args.self.now c.settle.new.self c.piece.new.self c.requires.opened c.self.view_is c.piece.ensures c.settle.ensures in
    record {
      questions = h.questions ++ k.questions;
      answers = h.answers ++ k.answers;
      asks = asks-then h.questions k.questions h.answers k.answers (g.A.AuthProvider.allows c.args.provider.now) (g.A.AuthProvider.allows c.parts.provider) (g.A.AuthProvider.allows c.read_all.new.provider)
          c.args.auths.now.list c.parts.auths.list c.read_all.new.auths.list h.asks k.asks;
      leads = λ cut more allows.
          ap (λ (x : Engine). reading true (making at cut ((h.answers ++ k.answers) ++ more) [] x 1)) begin
          ∙ ap (λ (l : List Asked). reading true (making at cut l [] (piece_joined piece c.settle.new.self) 1)) (append_assoc h.answers k.answers more)
          ∙ h.leads cut (k.answers ++ more) (Reaches-less cut c.parts.parts c.read_all.new.parts c.read_all.ensures.grows allows)
          ∙ ap (λ (x : Engine). reading true (making at cut (k.answers ++ more) h.questions x c.parts.parts)) (part-joined n j piece c.parts.self c.join-joined.new.self c.join-joined.ensures.engine)
          ∙ k.leads (drop (j + n) piece) cut more h.questions allows
          ∙ all-read at cut more (h.questions ++ k.questions) (j + n) piece c.read_all.new.self c.read_all.new.parts c.if-joined-piece.true f.done;
    }

pub returns-in_err-read_all-clause-err : goal.returns-in_err-read_all-clause-err
returns-in_err-read_all-clause-err g c =
    let i = c.parts.invariant in
    let h = i.heard in
    let f = c.in_err-read_all.ensures.err in
    let n = c.join-joined.result in
    let j = c.parts.joined in
    let k = c.read_all.new.parts in
    let piece = c.args.piece.now in
    let at = c.args.at in
    let begin : step_piece at piece c.args.self.now ≡ piece_joined piece c.settle.new.self =
    begins at piece _ c.args.self.now c.settle.new.self c.piece.new.self c.requires.opened c.self.view_is c.piece.ensures c.settle.ensures in
    let x = piece_joined (drop (j + n) piece) f.engine in
    let before = g.A.AuthProvider.allows c.args.provider.now in
    let between = g.A.AuthProvider.allows c.parts.provider in
    let qs = h.questions ++ f.questions in
    let xs = h.answers ++ f.answers in
    let fact : Broke k (λ answers questions next e. (starve_at at k c.read_all.new.self ≡ starve_at at k e) × BreaksAt at next e
    × (reading true (making at (Some k) answers [] (step_piece at piece c.args.self.now) 1) ≡ making at (Some k) (drop (length questions) answers) questions e k))
    before c.args.auths.now.list c.read_all.new.auths.list =
    record {
      questions = qs;
      next = f.next;
      answers = xs;
      engine = x;
      listed = f.listed ∙ ap (λ (l : List Asked). l ++ f.answers) h.asks.listed ∙ append_assoc c.args.auths.now.list h.answers f.answers;
      all = answered-append k h.questions f.questions f.next h.answers f.answers h.asks.all f.all;
      allowed =
          subst (λ (q : List Question). Allows before (paired q xs)) (sym (append_assoc h.questions f.questions f.next))
          (allowed-then h.questions (f.questions ++ f.next) h.answers f.answers before between c.args.auths.now.list c.parts.auths.list h.asks f.allowed);
      leads = (
        ap (starve_at at k) f.leads.0 ∙ starve_at-twice at k f.engine ∙ sym (starved-joined at k (drop (j + n) piece) f.engine),
        breaks-joined at (drop (j + n) piece) f.next f.engine f.leads.1 f.leads.2,
        ap (λ (x : Engine). reading true (making at (Some k) xs [] x 1)) begin
            ∙ h.leads (Some k) f.answers (Reaches-less (Some k) c.parts.parts k c.read_all.ensures.grows (omega arith))
            ∙ ap (λ (x : Engine). reading true (making at (Some k) f.answers h.questions x c.parts.parts)) (part-joined n j piece c.parts.self c.join-joined.new.self c.join-joined.ensures.engine)
            ∙ f.leads.3 (drop (j + n) piece) h.questions
            ∙ ap (λ (l : List Asked). making at (Some k) l qs x k) (sym (drop-both h.questions f.questions h.answers f.answers h.asks.all)),
      );
    } in
    search (rules, fact)

pub parts-init : goal.parts-init
parts-init g c =
    let i = c.self.inside in
    let inside : Engine = record { talk = c.piece.new.self; unread = i.unread.kept; place = i.place; unsent = i.unsent.kept; starved = i.starved } in
    record {
      heard = record {
        questions = [];
        answers = [];
        asks = asks-none (g.A.AuthProvider.allows c.args.provider.now) c.args.auths.now.list (append-nil c.args.auths.now.list);
        leads = λ cut more allows. refl;
      };
      can = c.requires.can;
      settled = settled-now inside c.settle.new.self c.settle.ensures;
      within = omega arith;
      size = λ keeps. omega arith;
      bound = omega arith;
      some = omega arith;
      starved = refl;
      never_falls = omega arith;
      blames = subst (λ (y : Engine). Blames y.talk c.settle.new.self.talk (g.A.AuthProvider.refusals c.args.provider.now) (g.A.AuthProvider.refusals c.args.provider.now)) c.self.view_is
          (blames-piece c.args.at i.session inside c.settle.new.self _ _ c.settle.ensures c.piece.ensures);
    }

pub returns-then-joined-piece-clause-blames : goal.returns-then-joined-piece-clause-blames
returns-then-joined-piece-clause-blames g c =
    let i = c.parts.invariant in
    let f = c.in_ok-read_all.ensures in
    let e = c.parts.self in
    let j = c.parts.joined in
    let piece = c.args.piece.now in
    let slice = take (length piece - j) (drop j piece) in
    blames-then c.args.self.now.talk e.talk c.read_all.new.self.talk _ _ _ i.never_falls f.never_falls i.blames
    (blames-then e.talk c.join-joined.new.self.talk c.read_all.new.self.talk _ _ _ (omega arith) f.never_falls
    (blames-joined (take c.join-joined.result slice) e c.join-joined.new.self _ _ c.join-joined.ensures.engine) f.blames)

pub returns-in_err-read_all-clause-blames : goal.returns-in_err-read_all-clause-blames
returns-in_err-read_all-clause-blames g c =
    let i = c.parts.invariant in
    let f = c.in_err-read_all.ensures in
    let e = c.parts.self in
    let j = c.parts.joined in
    let piece = c.args.piece.now in
    let slice = take (length piece - j) (drop j piece) in
    blames-then c.args.self.now.talk e.talk c.read_all.new.self.talk _ _ _ i.never_falls f.never_falls i.blames
    (blames-then e.talk c.join-joined.new.self.talk c.read_all.new.self.talk _ _ _ (omega arith) f.never_falls
    (blames-joined (take c.join-joined.result slice) e c.join-joined.new.self _ _ c.join-joined.ensures.engine) f.blames)
