use Rattle.std.proofs.Common.{◌≡◌, ◌∙◌, ◌+◌, ◌-◌, ◌<◌, ◌≤◌, true, false, not, List, ℕ, length, take, get_or, ap, sym, subst, arith, length-append}
use Rattle.std.specs.Prelude.{is_some, filter}
use Rattle.std.proofs.lemmas.List.Filters.{FiltersInPlace, FiltersInPlace-more_no, FiltersInPlace-more_set}
use Rattle.amqp_rules.specs.Talk.{Talk}
use Rattle.amqp_rules.specs.Answers.{answer_of}
use Rattle.amqp_pool.specs.Collecting.{has_answer, channel_in, brought_by, TakesEach}
use Rattle.amqp_pool.proofs.Polling.{still-there, idle-more, polled-more, rest-more, left-count, not-polled}
use Rattle.amqp_pool.proofs.Keeping.{one-channel}
use Rattle.amqp_pool.proofs.collecting.collect_each.Goals as goal
use Rattle.amqp_pool.proofs.collecting.collect_each.Goals.{then-not-poll_one, else-not-poll_one}

pub opening-preserved : goal.opening-preserved
opening-preserved c =
    let t : Talk = c.args.hub.now.engine.talk in
    let t' : Talk = c.opening.hub.engine.talk in
    let xs : List ℕ = c.args.opening.now.items in
    let i : ℕ = c.opening.place in
    let n : ℕ = c.index-number.result.now in
    let inv = c.opening.invariant in
    let short : i < length xs = omega (arith, c.opening-test.true, c.len-place-end.ensures) in
    let under : i < length c.opening.opening.items = omega (arith, short, inv.front.long) in
    let read : n ≡ get_or xs i n = c.index-number.ensures ∙ still-there xs c.opening.opening.items i n inv.front.rest short under in
    let same : answer_of n t' ≡ answer_of n t = not-polled xs i n t t' c.requires.different short read inv.polled in
    let answered : has_answer t n ≡ c.poll_one.result = sym (c.poll_one.ensures.answered ∙ ap is_some same) in
    let idle = idle-more t t' xs i n c.args.idle.now.items c.opening.idle.items c.poll_one.new.idle.items c.requires.different short read inv.polled inv.idle c.poll_one.ensures.idle in
    let taken = c.poll_one.ensures.taken in
    let polled = polled-more t t' c.poll_one.new.hub.engine.talk xs i n taken.0 short read inv.polled taken.1 in
    let rest = rest-more c.args.hub.now c.opening.hub c.poll_one.new.hub inv.rest c.poll_one.ensures.rest in
    let grown : length c.poll_one.new.idle.items ≡ length c.opening.idle.items + length (channel_in n (answer_of n t')) =
    ap length c.poll_one.ensures.idle ∙ length-append c.opening.idle.items (channel_in n (answer_of n t')) in
    elim c.if-not-poll_one.branch [
      | then-not-poll_one w ↦
          rw (w.opening-is, w.waiting-is)
          (record {
            front = FiltersInPlace-more_set inv.front under (ap not (answered ∙ w.if-not-poll_one.true)) c.index-number.ensures;
            idle = idle;
            polled = polled;
            rest = rest;
            places = c.poll_one.ensures.places ∙ inv.places;
            room = omega (arith, inv.room, c.poll_one.ensures.places, grown, one-channel n (answer_of n t'), c.poll_one.new.idle.ok, c.opening.idle.ok);
          })
      | else-not-poll_one w ↦
          rw (w.opening-is, w.waiting-is)
          (record {
            front = FiltersInPlace-more_no inv.front under (ap not (answered ∙ w.if-not-poll_one.false)) c.index-number.ensures;
            idle = idle;
            polled = polled;
            rest = rest;
            places = c.poll_one.ensures.places ∙ inv.places;
            room = omega (arith, inv.room, c.poll_one.ensures.places, grown, one-channel n (answer_of n t'), c.poll_one.new.idle.ok, c.opening.idle.ok);
          })
    ]

pub returns-clause-left : goal.returns-clause-left
returns-clause-left c =
    let t : Talk = c.args.hub.now.engine.talk in
    let xs : List ℕ = c.args.opening.now.items in
    let over : length xs ≤ c.opening.place = omega (arith, c.opening-test.false, c.len-place-end.ensures) in
    let left : length c.opening.opening.items - c.opening.waiting ≡ length (filter (has_answer t) xs) =
    left-count (has_answer t) xs c.opening.opening.items c.opening.waiting c.opening.place c.opening.invariant.front over in
    let count : c.len.result ≡ length c.opening.opening.items = omega (arith, c.len.ensures) in
    ap (λ m. m - c.opening.waiting) count ∙ left
