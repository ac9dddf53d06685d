-- The given steps of turns after the link: they come as their steps, at one moment, and leave the link as it is.
use Rattle.std.proofs.Common.{◌≡◌, ◌≢◌, ◌∙◌, ap, sym, refl, subst, ℕ, ◌==◌, ◌&&◌, not, if◌then◌else◌, Bool, true, false, List, [], ◌∷◌, ◌++◌, length, map, take, length-take, arith}
use Rattle.std.specs.Prelude.{slice_index}
use Rattle.std.specs.List.{AllByRecursion}
use Rattle.amqp_types.proofs.Small.{if-false, and-false}
use Rattle.amqp_commands.specs.declared.command.Cmd.{Cmd}
use Rattle.amqp_faultless.specs.Faultless.{IsShortCommand}
use Rattle.amqp_written_rules.specs.Sayable.{CanBeTold}
use Rattle.amqp_commands.specs.declared.command.Cmd.TheVariants.{CloseChannel, CloseConnection}
use Rattle.amqp_engine.specs.declared.given.Given.{Given}
use Rattle.amqp_engine.specs.declared.port.Step.{Step}
use Rattle.amqp_engine.specs.declared.port.Step.TheVariants.{Linked, LinkFailed, Piece, End, Fault, Room, Tick, Command}
use Rattle.amqp_engine.specs.Plan.{Coming, coming_of}
use Rattle.amqp_engine.specs.Engine.{Engine}
use Rattle.amqp_engine.specs.Turn.{Turn, asks, turn, StepCanBeTold, IsFit, AreFit}
use Rattle.amqp_engine.specs.Tell.{offers_of}
use Rattle.amqp_engine.specs.Valid.{IsQuiet, IsShort, MomentsRise, EndsWithBytes}
use Rattle.amqp_joining.specs.Joining.{Join, output, comes, next_cut, next_command, roomier, after_join_step, JoinsOffers, JoinsTurn, JoinsTurns, asked_now, asked_then}
use Rattle.amqp_both_ends.proofs.Later.{later_step, after_later, later-linked, later-told}
use Rattle.amqp_both_ends.proofs.Givens.{given_step, room_after_step, given_of, givens}
use Rattle.amqp_both_ends.proofs.Turning.{offers-keep}

-- the step of a turn, as it came
abbrev pub told_of : Turn → Coming
told_of u = record { at = u.at; step = u.step; bytes = u.bytes }

-- a given step that brings this room comes as its step
pub record IsGiven (room : ℕ) (c : Coming) : Type 0 where
  pub coming : coming_of (record { at = c.at; what = given_step c.step c.bytes room }) ≡ c
  pub quiet : IsQuiet (given_step c.step c.bytes room)
  pub moment : c.at ≡ 0

pub piece-length : (j : Join) → length (take (next_cut j) (output j)) ≡ next_cut j
piece-length j = let k = length-take (next_cut j) (output j) in omega (arith, k)

later-given : (j : Join) (room : ℕ) → IsGiven room (later_step j)
later-given j room = by j.short (not (length (output j) == 0)) where
  told : (cs : List Cmd) (closing : Bool) → IsGiven room (next_command cs closing)
  told (c ∷ cs) closing = record { coming = refl; quiet = tt; moment = refl }
  told [] false = record { coming = refl; quiet = tt; moment = refl }
  told [] true = record { coming = refl; quiet = tt; moment = refl }

  by : (short some : Bool) → IsGiven room (if short then comes Room [] else (if some then comes (Piece (next_cut j)) (take (next_cut j) (output j)) else next_command j.commands j.closing))
  by true some = record { coming = refl; quiet = tt; moment = refl }
  by false true = record { coming = ap (λ (n : ℕ). record { at = 0; step = Piece n; bytes = take (next_cut j) (output j) }) (piece-length j); quiet = tt; moment = refl }
  by false false = told j.commands j.closing

-- ---- turns

-- the link stays told
linked-on : (u : Turn) (e : Engine) (flag : Bool) (j next : Join) → j.linked ≡ true → JoinsTurn u e flag j next → next.linked ≡ true
linked-on u e flag j next linked joins = offers-keep (λ (z : Join). z.linked) (λ z d room taken short. refl) (offers_of u (asks e)) (after_later j) next offers ∙ later-linked j ∙ linked where
  then_so : after_join_step (asked_now e flag) j ≡ after_later j
  then_so = if-false (asked_now e flag && not j.linked) (roomier (record j { linked = true })) (after_later j) (and-false (asked_now e flag) (not j.linked) (ap not linked))

  offers : JoinsOffers (offers_of u (asks e)) (after_later j) next
  offers = subst (λ (y : Join). JoinsOffers (offers_of u (asks e)) y next) then_so joins.1

-- the steps of these turns come so, whatever room they bring
abbrev pub AreGiven : List Turn → Type 0
AreGiven us = AllByRecursion (λ (u : Turn). (room : ℕ) → IsGiven room (told_of u)) us

pub are-given : (us : List Turn) (e : Engine) (flag : Bool) (j last : Join) → j.linked ≡ true → JoinsTurns us e flag j last → AreGiven us
are-given [] e flag j last linked joins = tt
are-given (u ∷ us) e flag j last linked joins = (
  λ room. subst (λ (c : Coming). IsGiven room c) (later-told u e flag j joins.0 linked joins.1) (later-given j room),
  are-given us (turn u e) (asked_then (asked_now e flag) j) joins.0 last (linked-on u e flag j joins.0 linked joins.1) joins.2,
)

-- as they come
pub all-coming : (rooms : List ℕ) (at : ℕ) (us : List Turn) → AreGiven us → map coming_of (givens rooms at us) ≡ map told_of us
all-coming rooms at [] h = refl
all-coming rooms at (u ∷ us) h =
    let g : IsGiven (slice_index rooms at) (told_of u) = h.0 (slice_index rooms at) in
    ap (λ (c : Coming). c ∷ map coming_of (givens rooms (room_after_step rooms at u.step) us)) g.coming
    ∙ ap (λ (cs : List Coming). told_of u ∷ cs) (all-coming rooms (room_after_step rooms at u.step) us h.1)

pub all-quiet : (rooms : List ℕ) (at : ℕ) (us : List Turn) → AreGiven us → AllByRecursion (λ (g : Given). IsQuiet g.what) (givens rooms at us)
all-quiet rooms at [] h = tt
all-quiet rooms at (u ∷ us) h =
    let g : IsGiven (slice_index rooms at) (told_of u) = h.0 (slice_index rooms at) in (g.quiet, all-quiet rooms (room_after_step rooms at u.step) us h.1)

pub all-rise : (rooms : List ℕ) (at : ℕ) (us : List Turn) → AreGiven us → MomentsRise 0 (givens rooms at us)
all-rise rooms at [] h = tt
all-rise rooms at (u ∷ us) h =
    let g : IsGiven 0 (told_of u) = h.0 0 in
    (omega arith, subst (λ (n : ℕ). MomentsRise n (givens rooms (room_after_step rooms at u.step) us)) (sym g.moment) (all-rise rooms (room_after_step rooms at u.step) us h.1))

-- ---- what closes say

short-told : (c : Cmd) → CanBeTold c → IsShortCommand c
short-told (CloseChannel r code text) h = omega (arith, h)
short-told (CloseConnection code text) h = omega (arith, h)
short-told c h = tt

short-given : (step : Step) (bytes : List ℕ) (room : ℕ) → StepCanBeTold step → IsShort (given_step step bytes room)
short-given (Command c) bytes room h = short-told c h
short-given Linked bytes room h = tt
short-given LinkFailed bytes room h = tt
short-given (Piece n) bytes room h = tt
short-given End bytes room h = tt
short-given Fault bytes room h = tt
short-given Room bytes room h = tt
short-given Tick bytes room h = tt

-- what fits is short
pub all-short : (rooms : List ℕ) (at : ℕ) (us : List Turn) → AreFit us → AllByRecursion (λ (g : Given). IsShort g.what) (givens rooms at us)
all-short rooms at [] fit = tt
all-short rooms at (u ∷ us) fit = let f : IsFit u = fit.0 in (short-given u.step u.bytes (slice_index rooms at) f.step, all-short rooms (room_after_step rooms at u.step) us fit.1)

-- ---- the last

-- the octets of the first, and the others
abbrev first_bytes : List Coming → List ℕ
first_bytes [] = []
first_bytes (c ∷ cs) = c.bytes

abbrev others : List Coming → List Coming
others [] = []
others (c ∷ cs) = cs

-- where the last turn brings octets, so does the last given step
pub ends-given : (rooms : List ℕ) (at : ℕ) (before : List Turn) (u : Turn) → u.bytes ≢ [] → map coming_of (givens rooms at (before ++ u ∷ [])) ≡ map told_of (before ++ u ∷ []) → EndsWithBytes (givens rooms at (before ++ u ∷ []))
ends-given rooms at [] u some h = ([], given_of rooms at u, refl, λ none. some (sym (ap first_bytes h) ∙ none))
ends-given rooms at (v ∷ before) u some h =
    let r : EndsWithBytes (givens rooms (room_after_step rooms at v.step) (before ++ u ∷ [])) = ends-given rooms (room_after_step rooms at v.step) before u some (ap others h) in
    (given_of rooms at v ∷ r.0, r.1, ap (λ (gs : List Given). given_of rooms at v ∷ gs) r.2, r.3)

pub same-length : (rooms : List ℕ) (at : ℕ) (us : List Turn) → length (givens rooms at us) ≡ length us
same-length rooms at [] = refl
same-length rooms at (u ∷ us) = let k = same-length rooms (room_after_step rooms at u.step) us in omega (arith, k)
