use Rattle.std.proofs.Common.{◌≡◌, ◌∙◌, ◌+◌, ℕ, List, [], ◌++◌, length, drop, true, Option, Some, append_assoc, ap, sym, refl, subst, arith, rules}
use Rattle.std.proofs.lemmas.List.{append-nil}
use Rattle.amqp_auth.specs.declared.asked.Question.{Question}
use Rattle.amqp_auth.specs.declared.asked.Asked.{Asked}
use Rattle.amqp_auth.specs.AuthList.{Answers}
use Rattle.amqp_auth.specs.Providers.{Exchange}
use Rattle.amqp_rules.specs.Changes.{starve}
use Rattle.amqp_engine.specs.Engine.{Engine, front_of, can_read, read_one, read_questions, rule_at}
use Rattle.amqp_engine.specs.Turn.{reading}
use Rattle.amqp_engine.specs.Making.{making, IsSettled, BreaksAt, piece_joined, Reaches, Heard, Broke}
use Rattle.amqp_engine.proofs.Cases.{is_before-cut, Reaches-less}
use Rattle.amqp_engine.proofs.Answering.{asks-none, asks-then, allowed-then, answered-more, row-more}
use Rattle.amqp_engine.proofs.Applying.{left-answers}
use Rattle.amqp_engine.proofs.Reading.{read_one-shortens, read_one-starved, reading-cut}
use Rattle.amqp_engine.proofs.Joining.{reading-more, read-kept}
use Rattle.amqp_engine.proofs.Blaming.{blames-kept, blames-then}
use Rattle.amqp_engine.proofs.wire.Wire.read_all.Goals as goal

pub frames-init : goal.frames-init
frames-init g c =
    record {
      heard = record {
        questions = [];
        answers = [];
        asks = asks-none (g.A.AuthProvider.allows c.args.provider.now) c.args.auths.now.list (append-nil c.args.auths.now.list);
        leads = λ rest cut more before allows.
            ap (λ (asked : List Question). reading true (making c.args.at cut more asked (piece_joined rest c.args.self.now) c.args.parts.now)) (sym (append-nil before));
      };
      can = c.requires.can;
      settled = c.requires.settled;
      size = λ keeps. omega arith;
      bound = omega arith;
      grows = omega arith;
      starved = refl;
      never_falls = omega arith;
      blames = blames-kept c.args.self.now.talk c.args.self.now.talk _ _ refl;
    }

pub frames-preserved : goal.frames-preserved
frames-preserved g c =
    let e = c.frames.self in
    let at = c.args.at in
    let parts = c.frames.parts in
    let i = c.frames.invariant in
    let h = i.heard in
    let can : can_read e ≡ true = sym c.in_ok-read_next.ensures.some ∙ c.if-branch.true in
    let f = c.in_ok-read_next.ensures.ok c.if-branch.true in
    let qs = read_questions at e in
    let after : c.read_next.new.self ≡ read_one at f.answers e = f.engine in
    let short = read_one-shortens at f.answers e can in
    let kept = i.size (read-kept e i.settled can) in
    record {
      heard = record {
        questions = h.questions ++ qs;
        answers = h.answers ++ f.answers;
        asks = asks-then h.questions qs h.answers f.answers (g.A.AuthProvider.allows c.args.provider.now) (g.A.AuthProvider.allows c.frames.provider) (g.A.AuthProvider.allows c.read_next.new.provider)
            c.args.auths.now.list c.frames.auths.list c.read_next.new.auths.list h.asks f.asks;
        leads = λ rest cut more before allows.
            ap (λ (left : List Asked). reading true (making at cut left before (piece_joined rest c.args.self.now) c.args.parts.now)) (append_assoc h.answers f.answers more)
            ∙ h.leads rest cut (f.answers ++ more) before (Reaches-less cut parts (parts + 1) (omega arith) allows)
            ∙ reading-more at cut rest (f.answers ++ more) (before ++ h.questions) e parts i.settled can allows
            ∙ ap (λ (left : List Asked). reading true (making at cut left ((before ++ h.questions) ++ qs) (piece_joined rest (read_one at (f.answers ++ more) e)) (parts + 1)))
            (left-answers qs f.answers more f.asks.all)
            ∙ ap (λ (asked : List Question). reading true (making at cut more asked (piece_joined rest (read_one at (f.answers ++ more) e)) (parts + 1))) (append_assoc before h.questions qs)
            ∙ ap (λ (x : Engine). reading true (making at cut more (before ++ (h.questions ++ qs)) (piece_joined rest x) (parts + 1)))
            (row-more at (front_of e) f.answers more e f.asks.all ∙ sym after);
      };
      can = c.in_ok-read_next.ensures.can;
      settled = subst IsSettled (sym after) short.settled;
      size = rw after (λ keeps. omega (arith, short.eight keeps, kept));
      bound = omega (arith, kept);
      grows = omega (arith, i.grows);
      starved = ap (λ (x : Engine). x.starved) after ∙ read_one-starved at f.answers e ∙ i.starved;
      never_falls = omega (arith, c.in_ok-read_next.ensures.never_falls, i.never_falls);
      blames = blames-then c.args.self.now.talk e.talk c.read_next.new.self.talk _ _ _ i.never_falls c.in_ok-read_next.ensures.never_falls i.blames c.in_ok-read_next.ensures.blames;
    }

pub frames-smaller : goal.frames-smaller
frames-smaller g c =
    let e = c.frames.self in
    let can : can_read e ≡ true = sym c.in_ok-read_next.ensures.some ∙ c.if-branch.true in
    let f = c.in_ok-read_next.ensures.ok c.if-branch.true in
    let after : c.read_next.new.self ≡ read_one c.args.at f.answers e = f.engine in
    rw after (read_one-shortens c.args.at f.answers e can).less

pub returns-clause-ok : goal.returns-clause-ok
returns-clause-ok g c =
    let none = c.in_ok-read_next.ensures.none c.if-branch.false in
    let before = g.A.AuthProvider.allows c.args.provider.now in
    let start = c.args.self.now in
    let H : Engine → (Exchange → Type 0) → List Asked → Type 0 =
    λ x state list. Heard (λ answers questions. (rest : List ℕ) (cut : Option ℕ) (more : List Asked) (first : List Question) → Reaches cut c.frames.parts
    → reading true (making c.args.at cut (answers ++ more) first (piece_joined rest start) c.args.parts.now)
    ≡ reading true (making c.args.at cut more (first ++ questions) (piece_joined rest x) c.frames.parts)) before state c.args.auths.now.list list in
    let after = g.A.AuthProvider.allows c.read_next.new.provider in
    let between = g.A.AuthProvider.allows c.frames.provider in
    let same : after ≡ between = ap g.A.AuthProvider.allows none.2 in
    let lists : c.read_next.new.auths.list ≡ c.frames.auths.list = ap (λ (a : Answers). a.list) none.1 in
    subst (λ (x : Engine). H x after c.read_next.new.auths.list) (sym none.0)
    (subst (λ (l : List Asked). H c.frames.self after l) (sym lists)
    (subst (λ (s : Exchange → Type 0). H c.frames.self s c.frames.auths.list) (sym same) c.frames.invariant.heard))

pub returns-in_err-read_next-clause-err : goal.returns-in_err-read_next-clause-err
returns-in_err-read_next-clause-err g c =
    let e = c.frames.self in
    let at = c.args.at in
    let parts = c.frames.parts in
    let h = c.frames.invariant.heard in
    let f = c.in_err-read_next.ensures in
    let un = f.unanswered in
    let more = un.answers in
    let next = read_questions at e in
    let start = c.args.self.now in
    let before = g.A.AuthProvider.allows c.args.provider.now in
    let after = g.A.AuthProvider.allows c.frames.provider in
    let left : drop (length h.questions) (h.answers ++ more) ≡ more = left-answers h.questions h.answers more h.asks.all in
    let fact : Broke parts (λ answers questions later x. (c.read_next.new.self ≡ rule_at at starve x)
    × IsSettled x × BreaksAt at later x × ((rest : List ℕ) (first : List Question)
    → reading true (making at (Some parts) answers first (piece_joined rest start) c.args.parts.now)
    ≡ making at (Some parts) (drop (length questions) answers) (first ++ questions) (piece_joined rest x) parts)) before c.args.auths.now.list c.read_next.new.auths.list =
    record {
      questions = h.questions;
      next = next;
      answers = h.answers ++ more;
      engine = e;
      listed = un.listed ∙ ap (λ (l : List Asked). l ++ more) h.asks.listed ∙ append_assoc c.args.auths.now.list h.answers more;
      all = answered-more parts h.questions next h.answers more h.asks.all un.fits;
      allowed = allowed-then h.questions next h.answers more before after c.args.auths.now.list c.frames.auths.list h.asks un.allowed;
      leads = (
        f.err,
        c.frames.invariant.settled,
        record { can = f.refused; asks = refl },
        λ rest first.
            h.leads rest (Some parts) more first (omega arith)
            ∙ reading-cut true (making at (Some parts) more (first ++ h.questions) (piece_joined rest e) parts) (is_before-cut parts)
            ∙ ap (λ (l : List Asked). making at (Some parts) l (first ++ h.questions) (piece_joined rest e) parts) (sym left),
      );
    } in
    search (rules, fact)

pub returns-clause-blames : goal.returns-clause-blames
returns-clause-blames g c =
    let i = c.frames.invariant in
    let f = c.in_ok-read_next.ensures in
    blames-then c.args.self.now.talk c.frames.self.talk c.read_next.new.self.talk _ _ _ i.never_falls f.never_falls i.blames f.blames

pub returns-in_err-read_next-clause-blames : goal.returns-in_err-read_next-clause-blames
returns-in_err-read_next-clause-blames g c =
    let i = c.frames.invariant in
    let f = c.in_err-read_next.ensures in
    blames-then c.args.self.now.talk c.frames.self.talk c.read_next.new.self.talk _ _ _ i.never_falls f.never_falls i.blames f.blames
