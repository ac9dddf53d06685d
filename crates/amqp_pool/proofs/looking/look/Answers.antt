use Rattle.std.proofs.Common.{◌≡◌, ◌∙◌, ◌+◌, ◌≤◌, ◌<◌, ◌∷◌, None, true, false, not, List, suc, length, drop, get_or, ap, sym, arith}
use Rattle.std.specs.Prelude.{find}
use Rattle.std.proofs.lemmas.List.{drop_more}
use Rattle.amqp_commands.specs.declared.command.ChanRef.{ChanRef}
use Rattle.amqp_rules.specs.Queries.{channel_state}
use Rattle.amqp_rules.specs.Talk.{Talk}
use Rattle.amqp_pool.specs.Lost.{is_lost, is_ready, is_lost_state, is_ready_state, without_lost}
use Rattle.amqp_pool.proofs.Channels.{fewer-filter, see-waiting, see-lost}
use Rattle.amqp_pool.proofs.looking.look.Goals as goal
use Rattle.amqp_pool.proofs.looking.look.Goals.{then-not-is_lost_state, else-not-is_lost_state}

pub overflow_add-waiting : goal.overflow_add-waiting
overflow_add-waiting c =
    omega (arith, c.idle.invariant.count, fewer-filter (λ (r : ChanRef). not (is_lost c.args.session.now r)) c.args.idle.now, c.requires)

pub idle-preserved : goal.idle-preserved
idle-preserved c =
    let t : Talk = c.args.session.now in
    let d : ChanRef = record { id = 0; opened = None } in
    let xs : List ChanRef = c.args.idle.now in
    let i = c.idle.channel-index in
    let r : ChanRef = get_or xs i d in
    let rest : List ChanRef = drop (i + 1) xs in
    let here : drop i xs ≡ r ∷ rest = drop_more xs i d c.idle-test.true in
    let ready : is_ready_state (channel_state r t) ≡ false =
    ap is_ready_state (sym c.channel_state-state.ensures) ∙ sym c.is_ready_state.ensures ∙ c.if-is_ready_state.false in
    let lost : is_lost_state (channel_state r t) ≡ c.is_lost_state.result =
    ap is_lost_state (sym c.channel_state-state.ensures) ∙ sym c.is_lost_state.ensures in
    let long : length (without_lost t (drop i xs)) ≡ length (without_lost t (r ∷ rest)) = ap (λ (l : List ChanRef). length (without_lost t l)) here in
    elim c.if-not-is_lost_state.branch [
      | then-not-is_lost_state w ↦
          let see = see-waiting t r rest ready (lost ∙ w.if-not-is_lost_state.true) in
          record {
            first = sym (ap (λ (l : List ChanRef). find (is_ready t) (without_lost t l)) here ∙ see.0) ∙ c.idle.invariant.first;
            count = omega (arith, w.waiting-is, see.1, long, c.idle.invariant.count);
          }
      | else-not-is_lost_state w ↦
          let see : without_lost t (r ∷ rest) ≡ without_lost t rest = see-lost t r rest (lost ∙ w.if-not-is_lost_state.false) in
          let same : length (without_lost t (r ∷ rest)) ≡ length (without_lost t rest) = ap length see in
          record {
            first = sym (ap (λ (l : List ChanRef). find (is_ready t) (without_lost t l)) here ∙ ap (find (is_ready t)) see) ∙ c.idle.invariant.first;
            count = omega (arith, w.waiting-is, same, long, c.idle.invariant.count);
          }
    ]
