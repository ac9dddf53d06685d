-- Both ends joined close, in as many turns as the plan takes at most, and what was told is what a faultless server tells.
use Rattle.std.proofs.Common.{◌≡◌, ◌<◌, ◌⊎◌, inl, inr, ◌∙◌, ap, sym, refl, ℕ, ◌+◌, ◌-◌, ◌^◌, true, false, true≢false, List, [], ◌∷◌, length, is_some, sum_by, arith}
use Rattle.std.specs.List.{flat_map}
use Rattle.std.proofs.lemmas.List.Sums.{sum_by-cons}
use Rattle.amqp_commands.specs.declared.command.Cmd.{Cmd}
use Rattle.amqp_settings.specs.declared.configuration.Configuration.{Configuration}
use Rattle.amqp_rules.specs.Talk.{Talk, has_ended}
use Rattle.amqp_faultless.specs.Faultless.{silent, AreSayable, is_frame_max}
use Rattle.amqp_faultless.proofs.Open.{open-runs}
use Rattle.amqp_written_rules.specs.Sayable.{AreInRange, CanBeSaid}
use Rattle.amqp_engine.specs.Account.{IsNew}
use Rattle.amqp_engine.specs.Engine.{begin}
use Rattle.amqp_engine.specs.Turn.{Turn, turn, turns, talk, AreTurns, AreTold, AreFit}
use Rattle.amqp_engine.specs.Sending.{frames_sent}
use Rattle.amqp_engine.specs.Valid.{answered_in}
use Rattle.amqp_double.specs.Replies.{replies}
use Rattle.amqp_double.specs.Doubles.{fresh}
use Rattle.amqp_owing.specs.Owed.{all_said}
use Rattle.amqp_joining.specs.Plans.{JoinPlan, IsPlan, command_turns, turns_of}
use Rattle.amqp_joining.specs.Joining.{Join, join, JoinsTurns, AreFed, asked_now, asked_then}
use Rattle.amqp_both_ends.specs.TwoEnds.{TwoEnds, unasked}
use Rattle.amqp_both_ends.proofs.Counting.{turns_for}
use Rattle.amqp_both_ends.proofs.Ending.{answered-closed}
use Rattle.amqp_both_ends.proofs.Linking.{Started, first-turn}
use Rattle.amqp_both_ends.proofs.Givens.{givens}
use Rattle.amqp_both_ends.proofs.Runs.{GoesOn, IsClosed, runs, said-parts, one-left}
use Rattle.amqp_both_ends.proofs.Served.{links, served}

-- the turns of commands, summed
sums-for : (cs : List Cmd) → sum_by command_turns cs ≡ turns_for cs
sums-for [] = refl
sums-for (c ∷ cs) = sum_by-cons command_turns c cs ∙ ap (λ (n : ℕ). command_turns c + n) (sums-for cs)

-- fewer turns than those of the plan, where they can be counted
fewer : (n : ℕ) (plan : JoinPlan) → n < 131543 + turns_for plan.commands → turns_of plan < 2 ^ 64 - 1 → n < turns_of plan
fewer n plan less within = let same = sums-for plan.commands in omega (arith, less, within, same)

-- a new session has not ended
pub new-runs : (t : Talk) → IsNew t → has_ended t ≡ false
new-runs t is_new = by is_new where
  by : IsNew t → has_ended t ≡ false
  by (config, inl is) = ap has_ended is
  by (config, inr is) = ap has_ended is

module _ (t : Talk) (is_new : IsNew t) (can : CanBeSaid t.config) (numbers : Configuration) (most : is_frame_max numbers.frame_max ≡ true) (range : AreInRange numbers) (plan : JoinPlan) (u : Turn) (us : List Turn)
    (j last : Join) (st : Started t is_new can numbers plan u j) where
  -- the session goes on
  stand : GoesOn t.config.options numbers most range us (turn u (begin t)) st.sending j last (flat_map (replies numbers) st.moved) → TwoEnds t plan (u ∷ us) last
  stand g =
      record {
        goes = λ running within.
            (let less = one-left t.config.options numbers most range (131543 + turns_for plan.commands) (1 + length us) (turns us (turn u (begin t))) g.sending last g.server g.rs g.stands
            (g.counts (131543 + turns_for plan.commands) 1 st.counts) in
            fewer (length (u ∷ us)) plan (omega (arith, less)) within);
        closes = λ ended. absurd (true≢false (sym ended ∙ open-runs (talk t (u ∷ us)) g.stands.mid.met.opened));
      }

  -- or it is over
  close : JoinsTurns us (turn u (begin t)) (asked_then (asked_now (begin t) unasked) (join (fresh numbers) plan)) j last → AreTurns (u ∷ us) (begin t) → AreFit (u ∷ us) → AreFed (u ∷ us)
      → AreSayable t.config.options (answered_in (u ∷ us)) → IsClosed t.config.options numbers most range us (turn u (begin t)) st.sending last (all_said st.moved silent) → TwoEnds t plan (u ∷ us) last
  close joins may fit fed sayable c =
      record {
        goes = λ running within. absurd (true≢false (sym (ap is_some c.over.over) ∙ running));
        closes = λ ended.
            record {
              over = c.over.over;
              only = c.sending;
              links = links t is_new can numbers most range plan u us j last st joins c;
              read = c.answered;
              closed = answered-closed numbers (frames_sent c.sending) c.server last.double c.owed c.answered;
              told = c.told;
              gs = givens plan.rooms 0 (u ∷ us);
              served = served t is_new can numbers most range plan u us j last st joins c may fit fed sayable;
            };
      }

-- new ones stand or close
pub both : (t : Talk) (numbers : Configuration) (plan : JoinPlan) (us : List Turn) (last : Join) → IsNew t → CanBeSaid t.config → IsPlan plan → AreInRange numbers → is_frame_max numbers.frame_max ≡ true
    → AreTurns us (begin t) → AreTold us → AreFit us → AreFed us → JoinsTurns us (begin t) unasked (join (fresh numbers) plan) last → AreSayable t.config.options (answered_in us) → TwoEnds t plan us last
both t numbers plan [] last is_new can is_plan range most may told fit fed joins sayable =
    record {
      goes = λ running within. fewer 0 plan (omega arith) within;
      closes = λ ended. absurd (true≢false (sym ended ∙ new-runs t is_new));
    }
both t numbers plan (u ∷ us) last is_new can is_plan range most may told fit fed joins sayable =
    by (runs t.config.options numbers most range us (turn u (begin t)) st.sending (asked_then (asked_now (begin t) unasked) (join (fresh numbers) plan)) joins.0 last (all_said st.moved silent)
    (flat_map (replies numbers) st.moved) st.stands (st.placed is_plan) may.1 told.1 fit.1 fed.1 said joins.2)
  where
    st : Started t is_new can numbers plan u joins.0
    st = first-turn t is_new can numbers most range plan u joins.0 may.0 told.0 fit.0 fed.0 joins.1

    said : AreSayable t.config.options (answered_in us)
    said = (said-parts t.config.options u us (begin t) may.0 fed.0 sayable).1

    by : GoesOn t.config.options numbers most range us (turn u (begin t)) st.sending joins.0 last (flat_map (replies numbers) st.moved)
        ⊎ IsClosed t.config.options numbers most range us (turn u (begin t)) st.sending last (all_said st.moved silent) → TwoEnds t plan (u ∷ us) last
    by (inl g) = stand t is_new can numbers most range plan u us joins.0 last st g
    by (inr c) = close t is_new can numbers most range plan u us joins.0 last st joins.2 may fit fed sayable c
