-- What the promises so far brought, and that those of them without an answer stand in front.
use Rattle.std.proofs.Common.{◌≡◌, ◌+◌, ◌++◌, ◌≤◌, length, take, not, vec_len, vec_capacity}
use Rattle.std.proofs.lemmas.List.Filters.{FiltersInPlace}
use Rattle.amqp_hub.specs.Entering.{with_engine}
use Rattle.amqp_pool.specs.Collecting.{has_answer, brought_by, TakesEach}
use Rattle.amqp_pool.proofs.collecting.collect_each.Given as goal

abbrev pub invariant-opening : goal.invariant-opening
invariant-opening l =
    record {
      front : FiltersInPlace (λ n. not (has_answer l.initial.hub.engine.talk n)) l.initial.opening.items l.opening.items l.waiting l.place;
      idle : l.idle.items ≡ l.initial.idle.items ++ brought_by l.initial.hub.engine.talk (take l.place l.initial.opening.items);
      polled : TakesEach (take l.place l.initial.opening.items) l.initial.hub.engine.talk l.hub.engine.talk;
      rest : l.hub ≡ with_engine (record l.initial.hub.engine { talk = l.hub.engine.talk }) l.initial.hub;
      places : vec_capacity l.idle ≡ vec_capacity l.initial.idle;
      room : vec_len l.idle + length l.initial.opening.items ≤ vec_capacity l.idle + l.place;
    }
