-- What a joined port takes is on its one link.
use Rattle.std.proofs.Common.{◌≡◌, ◌∙◌, ap, sym, refl, subst, ℕ, ◌==◌, ◌&&◌, not, if◌then◌else◌, Bool, true, List, [], ◌∷◌, ◌++◌, length, take}
use Rattle.amqp_types.proofs.Small.{if_case, if-true, if-false, and-false}
use Rattle.amqp_commands.specs.declared.command.Cmd.{Cmd}
use Rattle.amqp_settings.specs.declared.configuration.Configuration.{Configuration}
use Rattle.amqp_engine.specs.declared.port.Step.{Step}
use Rattle.amqp_engine.specs.declared.port.Step.TheVariants.{Linked}
use Rattle.amqp_engine.specs.declared.port.Wrote.{Wrote}
use Rattle.amqp_engine.specs.declared.port.Wrote.TheVariants.{Took, Failed, NoMemory}
use Rattle.amqp_engine.specs.Plan.{Coming}
use Rattle.amqp_engine.specs.Log.{Log, log_ask, log_write, on_last, links_after}
use Rattle.amqp_engine.specs.Engine.{Engine}
use Rattle.amqp_engine.specs.Turn.{Turn, asks, wants_ask, turn}
use Rattle.amqp_engine.specs.Tell.{Offer, offers_of, log_offers, log_asks, log_stepped, log_turn, log_turns}
use Rattle.amqp_double.specs.Doubles.{fresh}
use Rattle.amqp_joining.specs.Plans.{JoinPlan}
use Rattle.amqp_joining.specs.Joining.{Join, join, output, comes, roomier, sent_on, commanded, after_join_step, asked_now, asked_then, JoinWrites, JoinsOffers, JoinsTurns}
use Rattle.amqp_both_ends.specs.TwoEnds.{unasked}
use Rattle.amqp_both_ends.proofs.Later.{later_step, after_later, IsLater, is-later, later-linked, later-told}
use Rattle.amqp_both_ends.proofs.Turning.{offers-keep}
use Rattle.amqp_joined.specs.Reached.{untold}
use Rattle.amqp_joined.proofs.Reaching.{links-stay}

-- what is told after the link takes nothing
command-taken : (cs : List Cmd) (j : Join) → (commanded cs j).taken ≡ j.taken
command-taken [] j = refl
command-taken (c ∷ cs) j = refl

later-taken : (j : Join) → (after_later j).taken ≡ j.taken
later-taken j =
    let P : Join → Type 0 = λ x. x.taken ≡ j.taken in
    if_case P j.short (roomier j) (if not (length (output j) == 0) then sent_on j else commanded j.commands j) refl
    (if_case P (not (length (output j) == 0)) (sent_on j) (commanded j.commands j) refl (command-taken j.commands j))

-- writes take onto the link
write-links : (octets : List ℕ) (answer : Wrote) (a : Log) (j next : Join) → JoinWrites octets answer j next → a.links ≡ j.taken ∷ [] → (log_write octets answer a).links ≡ next.taken ∷ []
write-links octets (Took k) a j next rule is =
    ap (on_last (λ (link : List ℕ). link ++ take k octets)) is ∙ ap (λ (x : Join). x.taken ∷ []) (sym rule.2)
write-links octets Failed a j next rule is = absurd rule
write-links octets NoMemory a j next rule is = is ∙ ap (λ (x : Join). x.taken ∷ []) (sym rule)

offers-links : (os : List Offer) (a : Log) (j last : Join) → JoinsOffers os j last → a.links ≡ j.taken ∷ [] → (log_offers os a).links ≡ last.taken ∷ []
offers-links [] a j last joins is = is ∙ ap (λ (x : Join). x.taken ∷ []) (sym joins)
offers-links (o ∷ os) a j last joins is = offers-links os (log_write o.bytes o.answer a) joins.0 last joins.2 (write-links o.bytes o.answer a j joins.0 joins.1 is)

asks-links : (e : Engine) (a : Log) → (log_asks e a).links ≡ a.links
asks-links e a = if_case (λ (x : Log). x.links ≡ a.links) (wants_ask e) (log_ask a) a refl refl

-- after the link, and once it is told
still-linked : (os : List Offer) (j last : Join) → JoinsOffers os j last → last.linked ≡ j.linked
still-linked os j last joins = offers-keep (λ (x : Join). x.linked) (λ x d room taken short. refl) os j last joins

later-links : (us : List Turn) (e : Engine) (flag : Bool) (j last : Join) (a : Log) → j.linked ≡ true → a.links ≡ j.taken ∷ [] → JoinsTurns us e flag j last
    → ((log_turns us e a).links ≡ last.taken ∷ []) × (last.linked ≡ true)
later-links [] e flag j last a linked is joins = (is ∙ ap (λ (x : Join). x.taken ∷ []) (sym joins), ap (λ (x : Join). x.linked) joins ∙ linked)
later-links (u ∷ us) e flag j last a linked is joins = later-links us (turn u e) (asked_then (asked_now e flag) j) joins.0 last (log_turn u e a) on links joins.2 where
  now : after_join_step (asked_now e flag) j ≡ after_later j
  now = if-false (asked_now e flag && not j.linked) (roomier (record j { linked = true })) (after_later j) (and-false (asked_now e flag) (not j.linked) (ap not linked))

  offers : JoinsOffers (offers_of u (asks e)) (after_later j) joins.0
  offers = subst (λ (x : Join). JoinsOffers (offers_of u (asks e)) x joins.0) now joins.1.1

  later : IsLater u.step
  later = subst (λ (c : Coming). IsLater c.step) (later-told u e flag j joins.0 linked joins.1) (is-later j)

  stepped : (log_stepped u e a).links ≡ (after_later j).taken ∷ []
  stepped = links-stay u.step (log_asks e a).asked (log_asks e a).links later ∙ asks-links e a ∙ is ∙ ap (λ (xs : List ℕ). xs ∷ []) (sym (later-taken j))

  links : (log_turn u e a).links ≡ joins.0.taken ∷ []
  links = offers-links (offers_of u (asks e)) (log_stepped u e a) (after_later j) joins.0 offers stepped

  on : joins.0.linked ≡ true
  on = still-linked (offers_of u (asks e)) (after_later j) joins.0 offers ∙ later-linked j ∙ linked

abbrev links_of : Join → List (List ℕ)
links_of j = if j.linked then j.taken ∷ [] else []

-- of a new port and an engine that asks for a link
pub linked-turns : (numbers : Configuration) (plan : JoinPlan) (u : Turn) (us : List Turn) (e : Engine) (last : Join) → wants_ask e ≡ true → JoinsTurns (u ∷ us) e unasked (join (fresh numbers) plan) last
    → ((log_turns (u ∷ us) e (untold numbers plan)).links ≡ last.taken ∷ []) × (last.linked ≡ true)
linked-turns numbers plan u us e last wanted joins =
    later-links us (turn u e) (asked_then (asked_now e unasked) j0) joins.0 last (log_turn u e a) (still-linked (offers_of u (asks e)) j1 joins.0 offers)
    (offers-links (offers_of u (asks e)) (log_stepped u e a) j1 joins.0 offers stepped) joins.2
  where
    j0 : Join
    j0 = join (fresh numbers) plan

    j1 : Join
    j1 = roomier (record j0 { linked = true })

    a : Log
    a = untold numbers plan

    wants : (asked_now e unasked && not j0.linked) ≡ true
    wants = ap (λ (b : Bool). (if b then true else unasked) && true) wanted

    now : after_join_step (asked_now e unasked) j0 ≡ j1
    now = if-true (asked_now e unasked && not j0.linked) j1 (after_later j0) wants

    step : Linked ≡ u.step
    step = ap (λ (c : Coming). c.step) (sym (if-true (asked_now e unasked && not j0.linked) (comes Linked []) (later_step j0) wants) ∙ joins.1.0)

    offers : JoinsOffers (offers_of u (asks e)) j1 joins.0
    offers = subst (λ (x : Join). JoinsOffers (offers_of u (asks e)) x joins.0) now joins.1.1

    stepped : (log_stepped u e a).links ≡ j1.taken ∷ []
    stepped =
        ap (λ (s : Step). links_after s (log_asks e a).asked (log_asks e a).links) (sym step)
        ∙ ap (λ (b : Bool). if (if b then log_ask a else a).asked then (if b then log_ask a else a).links ++ [] ∷ [] else (if b then log_ask a else a).links) wanted

pub one-link : (numbers : Configuration) (plan : JoinPlan) (us : List Turn) (e : Engine) (last : Join) → wants_ask e ≡ true → JoinsTurns us e unasked (join (fresh numbers) plan) last
    → (log_turns us e (untold numbers plan)).links ≡ links_of last
one-link numbers plan [] e last wanted joins = ap links_of (sym joins)
one-link numbers plan (u ∷ us) e last wanted joins =
    let k = linked-turns numbers plan u us e last wanted joins in
    k.0 ∙ sym (if-true last.linked (last.taken ∷ []) [] k.1)
