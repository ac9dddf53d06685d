use Rattle.std.proofs.Common.{◌≡◌, ◌∙◌, ◌+◌, ◌<◌, ◌++◌, [], ℕ, Bool, List, not, true, false, None, Some, IfSome, is_some, length, option_map, refl, sym, ap, arith, subst, append_assoc}
use Rattle.std.proofs.lemmas.List.{append-nil}
use Rattle.amqp_engine.specs.declared.port.Wrote.{Wrote}
use Rattle.amqp_engine.specs.declared.port.Wrote.TheVariants.{NoMemory}
use Rattle.amqp_engine.specs.Log.{log_write, PlansWrite}
use Rattle.amqp_rules.specs.Talk.{is_open}
use Rattle.amqp_engine.specs.Engine.{Engine, commit_all, overlong_next}
use Rattle.amqp_engine.specs.Turn.{is_all, offered, answered}
use Rattle.amqp_engine.specs.Making.{making}
use Rattle.amqp_engine.specs.Noting.{took_by, fails_by}
use Rattle.amqp_engine.specs.Play.{offers_waiting}
use Rattle.amqp_engine.proofs.Cases.{Reaches-less, is_before-Reaches, is_before-cut, some-unsent, from-not-false}
use Rattle.amqp_types.proofs.Small.{from-not-true, on-err}
use Rattle.amqp_engine.proofs.Offers.{writes-more, writes-last, writes-refused, writes-none, writes-cut, writes-same, waiting-wrote, answered-starved, all-clean}
use Rattle.amqp_engine.proofs.Overlong.{refuses-starved}
use Rattle.amqp_engine.proofs.wire.Wire.write_all.Goals as goal

pub writes-init : goal.writes-init
writes-init g c = record {
  goes_on = λ more asked cut last log count ts failed allows next.
      writes-same ts (c.reserve.new.self.numbers ++ ts) failed failed _ _ _ _ _ _ (ap (λ (xs : List ℕ). xs ++ ts) (c.in_ok-reserve.ensures.kept ∙ c.requires.tooks)) refl next;
  clean = c.requires.failed;
  place = c.in_ok-reserve.ensures.room;
  bound = omega arith;
  grows = omega arith;
  starved = refl;
  faults = omega arith;
  kept = refl;
}

pub writes-preserved : goal.writes-preserved
writes-preserved g c =
    let f = c.in-Some.ensures in
    let e = c.writes.self in
    let w = c.in-Some.offered.answer in
    let n = c.writes.parts in
    let so_far = c.writes.tooks.numbers in
    let all : is_all w (length (commit_all e).unsent) ≡ true = sym f.all ∙ from-not-false _ c.if-not-offered.false in
    let lower : offers_waiting c.offer.new.self < offers_waiting e =
    rw f.engine (waiting-wrote c.args.at w e (some-unsent (is_open e.talk) (not e.talk.blocked) (not (is_some (overlong_next e))) (length (commit_all e).unsent) f.due) all) in
    let noted : c.reserve-in-Some.new.self.numbers ≡ so_far ++ took_by w = c.in_ok-reserve-2.ensures.kept ∙ c.note.ensures.tooks in
    record {
      goes_on = λ more asked cut last log count ts failed allows next.
          writes-same (so_far ++ (took_by w ++ ts)) (c.reserve-in-Some.new.self.numbers ++ ts) failed failed _ _ _ _ _ _
          (ap (λ (xs : List ℕ). xs ++ ts) noted ∙ append_assoc so_far (took_by w) ts) refl
          (c.writes.invariant.goes_on more asked cut last log count (took_by w ++ ts) failed (Reaches-less cut n (n + 1) (omega arith) allows)
          (writes-more more asked c.args.at cut e n w c.offer.new.self last (g.P.Port.log c.writes.port) (g.P.Port.log c.offer.new.port) log
          (g.P.Port.faults c.writes.port) (g.P.Port.faults c.offer.new.port) count ts failed
          f.engine f.told f.plays allows f.due f.within all f.faults next));
      clean = c.note.ensures.failed ∙ ap (λ (b : Bool). fails_by b w) c.writes.invariant.clean ∙ all-clean w (length (commit_all e).unsent) all;
      place = c.in_ok-reserve-2.ensures.room;
      bound = omega (arith, lower, c.writes.invariant.bound);
      grows = omega (arith, c.writes.invariant.grows);
      starved = ap (λ (x : Engine). x.starved) f.engine ∙ answered-starved c.args.at w e ∙ c.writes.invariant.starved;
      faults = omega (arith, f.faults, c.writes.invariant.faults);
      kept = f.kept ∙ c.writes.invariant.kept;
    }

pub writes-smaller : goal.writes-smaller
writes-smaller g c =
    let f = c.in-Some.ensures in
    let e = c.writes.self in
    let w = c.in-Some.offered.answer in
    let all : is_all w (length (commit_all e).unsent) ≡ true = sym f.all ∙ from-not-false _ c.if-not-offered.false in
    let lower : offers_waiting c.offer.new.self < offers_waiting e =
    rw f.engine (waiting-wrote c.args.at w e (some-unsent (is_open e.talk) (not e.talk.blocked) (not (is_some (overlong_next e))) (length (commit_all e).unsent) f.due) all) in
    lower

-- no place for the first answer
pub returns-in_err-reserve-clause-err : goal.returns-in_err-reserve-clause-err
returns-in_err-reserve-clause-err g c =
    on-err c.from_residual.result
    (λ more asked.
    let n = c.args.parts.now in
    let p = making c.args.at (Some n) more asked c.args.self.now n in
    writes-same [] c.reserve.new.self.numbers false c.args.failed.now p p _ _ _ _ (c.in_err-reserve.ensures.kept ∙ c.requires.tooks) c.requires.failed
    (writes-cut p _ _ _ _ (is_before-cut n) refl))

-- no place for the next one
pub returns-in_err-reserve-2-clause-err : goal.returns-in_err-reserve-2-clause-err
returns-in_err-reserve-2-clause-err g c =
    let f = c.in-Some.ensures in
    let e = c.writes.self in
    let w = c.in-Some.offered.answer in
    let n = c.writes.parts in
    let so_far = c.writes.tooks.numbers in
    let all : is_all w (length (commit_all e).unsent) ≡ true = sym f.all ∙ from-not-false _ c.if-not-offered.false in
    let noted : c.reserve-in-Some.new.self.numbers ≡ so_far ++ took_by w = c.in_err-reserve-2.ensures.kept ∙ c.note.ensures.tooks in
    let log = g.P.Port.log c.offer.new.port in
    let count = g.P.Port.faults c.offer.new.port in
    on-err c.from_residual-in_err-reserve-2.result
    (λ more asked.
    let p = making c.args.at (Some (n + 1)) more asked c.offer.new.self (n + 1) in
    writes-same (so_far ++ (took_by w ++ [])) c.reserve-in-Some.new.self.numbers false c.note.new.failed _ _ _ _ _ _
    (noted ∙ ap (λ (xs : List ℕ). so_far ++ xs) (sym (append-nil (took_by w))))
    (c.note.ensures.failed ∙ ap (λ (b : Bool). fails_by b w) c.writes.invariant.clean ∙ all-clean w (length (commit_all e).unsent) all)
    (c.writes.invariant.goes_on more asked (Some (n + 1)) p log count (took_by w ++ []) false (omega arith)
    (writes-more more asked c.args.at (Some (n + 1)) e n w c.offer.new.self p (g.P.Port.log c.writes.port) log log
    (g.P.Port.faults c.writes.port) count count [] false
    f.engine f.told f.plays (omega arith) f.due f.within all f.faults (writes-cut p log log count count (is_before-cut (n + 1)) refl))))

pub returns-in_err-reserve-2-clause-starved : goal.returns-in_err-reserve-2-clause-starved
returns-in_err-reserve-2-clause-starved g c =
    let f = c.in-Some.ensures in
    ap (λ (x : Engine). x.starved) f.engine ∙ answered-starved c.args.at c.in-Some.offered.answer c.writes.self ∙ c.writes.invariant.starved

pub returns-then-not-offered : goal.returns-then-not-offered
returns-then-not-offered g c =
    let f = c.in-Some.ensures in
    let e = c.writes.self in
    let w = c.in-Some.offered.answer in
    let n = c.writes.parts in
    let less : is_all w (length (commit_all e).unsent) ≡ false = sym f.all ∙ from-not-true _ c.if-not-offered.true in
    record {
      ok = λ more asked.
          writes-same (c.writes.tooks.numbers ++ took_by w) c.note.new.tooks.numbers (fails_by false w) c.note.new.failed _ _ _ _ _ _
          c.note.ensures.tooks (c.note.ensures.failed ∙ ap (λ (b : Bool). fails_by b w) c.writes.invariant.clean)
          (c.writes.invariant.goes_on more asked None (making c.args.at None more asked c.offer.new.self (n + 1)) (g.P.Port.log c.offer.new.port) (g.P.Port.faults c.offer.new.port)
          (took_by w) (fails_by false w) tt
          (writes-last more asked c.args.at e n w c.offer.new.self (g.P.Port.log c.writes.port) (g.P.Port.log c.offer.new.port)
          (g.P.Port.faults c.writes.port) (g.P.Port.faults c.offer.new.port)
          f.engine f.told f.plays f.due f.within less c.in_default-answer.not-NoMemory f.cause));
      err = tt;
      grows = omega (arith, c.writes.invariant.grows);
      starved = ap (λ (x : Engine). x.starved) f.engine ∙ answered-starved c.args.at w e ∙ c.writes.invariant.starved;
      faults = omega (arith, f.faults, c.writes.invariant.faults);
      kept = f.kept ∙ c.writes.invariant.kept;
    }

pub returns-in-NoMemory-clause-err : goal.returns-in-NoMemory-clause-err
returns-in-NoMemory-clause-err g c more asked =
    let f = c.in-Some.ensures in
    let e = c.writes.self in
    let n = c.writes.parts in
    let log = g.P.Port.log c.writes.port in
    let is = c.in-NoMemory.is in
    let P : Wrote → Type 0 = λ x. IfSome log (PlansWrite (length (offered e)) x) in
    writes-same (c.writes.tooks.numbers ++ took_by NoMemory) c.note.new.tooks.numbers false c.note.new.failed _ _ _ _ _ _
    (c.note.ensures.tooks ∙ ap (λ (x : Wrote). c.writes.tooks.numbers ++ took_by x) is)
    (c.note.ensures.failed ∙ ap (λ (x : Wrote). fails_by c.writes.failed x) is ∙ c.writes.invariant.clean)
    (c.writes.invariant.goes_on more asked (Some (n + 1)) (making c.args.at (Some (n + 1)) more asked c.offer.new.self (n + 1)) (g.P.Port.log c.offer.new.port) (g.P.Port.faults c.offer.new.port)
    (took_by NoMemory) false (omega arith)
    (writes-refused more asked c.args.at e n c.offer.new.self log (g.P.Port.log c.offer.new.port) (g.P.Port.faults c.writes.port) (g.P.Port.faults c.offer.new.port)
    (f.engine ∙ ap (λ (x : Wrote). answered c.args.at x e) is)
    (f.told ∙ ap (λ (x : Wrote). option_map (log_write (offered e) x) log) is)
    (subst P is f.plays) f.due))

pub returns-in-NoMemory-clause-starved : goal.returns-in-NoMemory-clause-starved
returns-in-NoMemory-clause-starved g c =
    let f = c.in-Some.ensures in
    ap (λ (x : Engine). x.starved) f.engine ∙ answered-starved c.args.at c.in-Some.offered.answer c.writes.self ∙ c.writes.invariant.starved

pub returns-clause-ok : goal.returns-clause-ok
returns-clause-ok g c more asked =
    let f = c.in_default.ensures.none in
    let e = c.writes.self in
    let n = c.writes.parts in
    let so_far = c.writes.tooks.numbers in
    let p = making c.args.at None more asked e n in
    let q = making c.args.at None more asked c.offer.new.self n in
    let log = g.P.Port.log c.offer.new.port in
    let count = g.P.Port.faults c.offer.new.port in
    writes-same (so_far ++ []) so_far false c.writes.failed _ _ _ _ _ _ (sym (append-nil so_far)) c.writes.invariant.clean
    (c.writes.invariant.goes_on more asked None q log count [] false tt
    (writes-none p q (g.P.Port.log c.writes.port) log (g.P.Port.faults c.writes.port) count (is_before-Reaches None n tt) (ap (λ (x : Engine). making c.args.at None more asked x n) f.1) f.0 f.2))

pub returns-clause-starved : goal.returns-clause-starved
returns-clause-starved g c =
    ap (λ (x : Engine). x.starved) c.in_default.ensures.none.1 ∙ refuses-starved c.writes.self ∙ c.writes.invariant.starved
