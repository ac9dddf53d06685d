-- What happens to a joined port is added to how it came to be as it is.
use Rattle.std.proofs.Common.{◌≡◌, sym, subst, if◌then◌else◌, true, ℕ, List, Some}
use Rattle.amqp_engine.specs.declared.port.Step.{Step}
use Rattle.amqp_engine.specs.declared.port.Wrote.{Wrote}
use Rattle.amqp_engine.specs.Log.{Log}
use Rattle.amqp_double.specs.Doubles.{DoubleState, fresh}
use Rattle.amqp_joining.specs.Plans.{JoinPlan}
use Rattle.amqp_joining.specs.Joining.{join}
use Rattle.amqp_joined.specs.declared.inside.Inside.{Inside}
use Rattle.amqp_joined.specs.Ports.{JoinedState, KeptPlan, kept_plan, joined_new}
use Rattle.amqp_joined.specs.Insides.{joined_state_of, HoldsAll, Holds, TellsByRule, WritesByRule}
use Rattle.amqp_joined.specs.Reached.{Reached, HasCome, new, asked, told, wrote}
use Rattle.amqp_joined.proofs.Steps.{step_keeps, write_keeps}

-- the plan and the numbers are the same
moved : (s s' : JoinedState) → kept_plan s' ≡ kept_plan s → Reached s.join.double.numbers s.join.plan s'.log s'.join → HasCome s'
moved s s' kept h = subst (λ (k : KeptPlan). Reached k.numbers k.plan s'.log s'.join) (sym kept) h

pub begun_whole : (p : Inside) (d : DoubleState) (plan : JoinPlan) → Holds p → d ≡ fresh d.numbers → joined_state_of p ≡ joined_new d plan → HoldsAll p
begun_whole p d plan holds is state = record { holds = holds; reached = subst HasCome (sym state) at } where
  at : HasCome (joined_new d plan)
  at = subst (λ (x : DoubleState). Reached d.numbers plan (joined_new x plan).log (join x plan)) (sym is) new

pub asked_whole : (old now : Inside) → HoldsAll old → now ≡ record old { asked = true; asked_at = if old.asked then old.asked_at else Some old.told } → HoldsAll now
asked_whole old now h is = subst HoldsAll (sym is) (record {
  holds = record {
    plan = h.holds.plan;
    cut = h.holds.cut;
    room = h.holds.room;
    left = h.holds.left;
    close = h.holds.close;
    marked = h.holds.marked;
    answers = h.holds.answers;
    begins = h.holds.begins;
    places = h.holds.places;
  };
  reached = asked h.reached;
})

pub told_whole : (old now : Inside) (step : Step) (octets : List ℕ) → HoldsAll old → TellsByRule step octets old now → HoldsAll now
told_whole old now step octets h t =
    let s = joined_state_of old in
    let s' = joined_state_of now in
    record {
      holds = t.holds;
      reached = moved s s' (step_keeps old now step octets t) (subst (λ (a : Log). Reached s.join.double.numbers s.join.plan a s'.join) (sym t.log) (told step octets s'.join t.rule h.reached));
    }

pub wrote_whole : (old now : Inside) (octets : List ℕ) (answer : Wrote) → HoldsAll old → WritesByRule octets answer old now → HoldsAll now
wrote_whole old now octets answer h w =
    let s = joined_state_of old in
    let s' = joined_state_of now in
    record {
      holds = w.holds;
      reached = moved s s' (write_keeps old now octets answer w) (subst (λ (a : Log). Reached s.join.double.numbers s.join.plan a s'.join) (sym w.log) (wrote octets answer s'.join w.rule h.reached));
    }
