-- What holds still, once an event is taken.
use Rattle.std.proofs.Common.{List, [], ◌∷◌, Option, inl, inr, sym, subst}
use Rattle.amqp_answers.specs.declared.event.Event.{Event}
use Rattle.amqp_answers.specs.Events.{Noted}
use Rattle.amqp_rules.specs.Talk.{Talk, end_of}
use Rattle.amqp_rules.specs.Answers.{end_event, without_event, take_event, TakesEvent}

by_events : (P : Talk → Type 0) (events at_end : List Event) (t : Talk) → ((noted : Noted) → P (record t { noted = noted })) → P t
    → P (without_event events at_end t)
by_events P (event ∷ later) at_end t changed same = changed _
by_events P [] (event ∷ later) t changed same = changed _
by_events P [] [] t changed same = same

-- what holds whatever is noted
pub event-case : (P : Talk → Type 0) (t : Talk) → ((noted : Noted) → P (record t { noted = noted })) → P t → P (take_event t)
event-case P t changed same = by_events P t.noted.events (end_event t.noted.tells_end (end_of t)) t changed same

-- the same of an event whose copy may be refused
pub taken-case : (P : Talk → Type 0) (given : Option Event) (t t' : Talk) → TakesEvent given t t' → ((noted : Noted) → P (record t { noted = noted })) → P t
    → P t'
taken-case P given t t' (inl took) changed same = subst P (sym took.1) (event-case P t changed same)
taken-case P given t t' (inr refused) changed same = subst P (sym refused.2) same
