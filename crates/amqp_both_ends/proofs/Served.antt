-- Turns that close are those of a faultless server, on one link with room.
use Rattle.std.proofs.Common.{◌≡◌, ◌≤◌, ◌∙◌, ap, sym, refl, subst, ℕ, ◌+◌, min, if◌then◌else◌, true, List, [], ◌∷◌, ◌++◌, length, map, append-nil, Some, arith}
use Rattle.std.specs.Prelude.{slice_index}
use Rattle.std.specs.List.{flat_map, AllByRecursion}
use Rattle.amqp_types.proofs.Small.{if_case}
use Rattle.amqp_frame.specs.Frames.{FrameOf}
use Rattle.amqp_auth.specs.declared.asked.Asked.{Asked}
use Rattle.amqp_settings.specs.declared.configuration.Configuration.{Configuration}
use Rattle.amqp_rules.specs.Talk.{Talk}
use Rattle.amqp_faultless.specs.Faultless.{silent, AreSayable, opens_connection, is_frame_max}
use Rattle.amqp_written_rules.specs.Sayable.{AreInRange, CanBeSaid}
use Rattle.amqp_engine.specs.declared.given.Given.{Given}
use Rattle.amqp_engine.specs.declared.given.GivenStep.TheVariants as given
use Rattle.amqp_engine.specs.declared.port.Step.{Step}
use Rattle.amqp_engine.specs.declared.port.Step.TheVariants.{Linked, Tick}
use Rattle.amqp_engine.specs.Account.{IsNew}
use Rattle.amqp_engine.specs.Plan.{Coming, coming_of, bytes_of, at_most_64, plan_of}
use Rattle.amqp_engine.specs.Log.{loaded}
use Rattle.amqp_engine.specs.Engine.{begin}
use Rattle.amqp_engine.specs.Turn.{Turn, asks, turn, AreTurns, AreFit}
use Rattle.amqp_engine.specs.Tell.{offers_of, PlaysTurns}
use Rattle.amqp_engine.specs.Sending.{Sending, frames_sent, sendings_from, sendings}
use Rattle.amqp_engine.specs.Play.{played_turns, replayed}
use Rattle.amqp_engine.specs.Valid.{IsShort, MomentsRise, EndsWithBytes, IsTimely, SpelledFrame, AreSpelled, AreFrames, all_bytes, sayings_of, sent_by_turns, IsServed, IsFaultless, agreed_frame_max, agreed_limit, answered_in}
use Rattle.amqp_engine.proofs.PlayedOn.{new-wants}
use Rattle.amqp_engine.proofs.Playing.{auths_in, turns-played}
use Rattle.amqp_double.specs.Doubles.{fresh}
use Rattle.amqp_owing.specs.Owed.{all_said}
use Rattle.amqp_joining.specs.Plans.{JoinPlan}
use Rattle.amqp_joining.specs.Joining.{Join, join, JoinsTurns, AreFed, comes, roomier, asked_now, asked_then}
use Rattle.amqp_both_ends.specs.TwoEnds.{AreServed, IsLinkedInRoom, unasked}
use Rattle.amqp_both_ends.proofs.Givens.{given_step, room_after_step, given_of, givens, Speaks, speaks-none}
use Rattle.amqp_both_ends.proofs.Turning.{offers-keep}
use Rattle.amqp_both_ends.proofs.Linking.{Started}
use Rattle.amqp_both_ends.proofs.Runs.{EndsWithSome, IsClosed}
use Rattle.amqp_both_ends.proofs.Replaying.{Comes, plays-first, turns-keep, same-answers}
use Rattle.amqp_both_ends.proofs.Steps.{told_of, AreGiven, are-given, all-coming, all-quiet, all-rise, all-short, ends-given, same-length}

-- ---- what a faultless server's script is

-- frames of 4096 octets at most are short enough, before a limit was agreed and after
all-spelled : (most agreed : ℕ) (spelled : List SpelledFrame) → 4096 ≤ most → 4096 ≤ agreed → AllByRecursion (λ (y : SpelledFrame). FrameOf y.frame y.octets × (length y.octets ≤ 4096)) spelled
    → AreSpelled most agreed spelled
all-spelled most agreed [] first met all = tt
all-spelled most agreed (y ∷ rest) first met all =
    let within : length y.octets ≤ 4096 = all.0.1 in (
      all.0.0,
      omega (arith, within, first),
      all-spelled (if opens_connection y.frame then agreed else most) agreed rest (if_case (λ (n : ℕ). 4096 ≤ n) (opens_connection y.frame) agreed most met first) met all.1,
    )

limit-met : (ss : List Sending) (x : Sending) → ss ≡ x ∷ [] → 4096 ≤ agreed_frame_max (frames_sent x) → 4096 ≤ min 134217728 (agreed_frame_max (flat_map frames_sent ss))
limit-met ss x only enough =
    let same : agreed_frame_max (flat_map frames_sent ss) ≡ agreed_frame_max (frames_sent x) =
    ap (λ (zs : List Sending). agreed_frame_max (flat_map frames_sent zs)) only ∙ ap agreed_frame_max (append-nil (frames_sent x)) in
    omega (arith, same, enough)

-- no turn is a tick
no-tick : (before later : List Turn) (u : Turn) → AllByRecursion (λ (v : Turn). v.step ≡ Tick → ⊥) (before ++ u ∷ later) → u.step ≡ Tick → ⊥
no-tick [] later u h tick = h.0 tick
no-tick (v ∷ before) later u h tick = no-tick before later u h.1 tick

timely : (t : Talk) (us : List Turn) → AllByRecursion (λ (v : Turn). v.step ≡ Tick → ⊥) us → IsTimely t us
timely t us none before later u heartbeat is tick agreed some =
    absurd (no-tick before later u (subst (λ (vs : List Turn). AllByRecursion (λ (v : Turn). v.step ≡ Tick → ⊥) vs) is none) tick)

-- turns that are those of a script have what is true of them
faultless-from : (t : Talk) (gs : List Given) (answers : List Asked) (us : List Turn) → replayed t gs answers ≡ us → AreSayable t.config.options (answered_in us) → length t.config.uri.vhost ≤ 255
    → AllByRecursion (λ (g : Given). IsShort g.what) gs → MomentsRise 0 gs → IsTimely t us → (spelled : List SpelledFrame) → AreFrames (agreed_limit t us) (all_bytes gs) spelled
    → IsServed (sayings_of gs (sent_by_turns us (begin t) []) 0 spelled) → EndsWithBytes gs → IsFaultless t gs answers
faultless-from t gs answers us is sayable vhost short moments in_time spelled frames served last =
    record {
      sayable = subst (λ (vs : List Turn). AreSayable t.config.options (answered_in vs)) (sym is) sayable;
      vhost = vhost;
      short = short;
      moments = moments;
      timely = subst (λ (vs : List Turn). IsTimely t vs) (sym is) in_time;
      spelled = spelled;
      frames = subst (λ (vs : List Turn). AreFrames (agreed_limit t vs) (all_bytes gs) spelled) (sym is) frames;
      served = subst (λ (vs : List Turn). IsServed (sayings_of gs (sent_by_turns vs (begin t) []) 0 spelled)) (sym is) served;
      last = last;
    }

-- turns that a script plays are those of the script
replays : (t : Talk) (gs : List Given) (us : List Turn) → AreTurns us (begin t) → AreFed us → PlaysTurns us (begin t) (loaded gs) → length gs ≡ length us → replayed t gs (answered_in us) ≡ us
replays t gs us may fed plays same =
    sym (turns-played us (length gs) (begin t) (loaded gs) [] may plays (omega (arith, same)) (λ running. sym same) refl (turns-keep us (begin t) may fed)
    ∙ ap (λ (xs : List Asked). played_turns (length gs) xs (begin t) (loaded gs)) (append-nil (auths_in us) ∙ same-answers us))

-- ---- turns that close

-- the link, as it comes
link-comes : (numbers : Configuration) (plan : JoinPlan) → Comes true (comes Linked []) (join (fresh numbers) plan) (roomier (record (join (fresh numbers) plan) { linked = true }))
link-comes numbers plan = record { coming = refl; room = refl; works = refl; places = refl; rooms = refl }

-- where the last of these turns brings octets, so does the last given step
last-given : (rooms : List ℕ) (at : ℕ) (us : List Turn) → EndsWithSome us → map coming_of (givens rooms at us) ≡ map told_of us → EndsWithBytes (givens rooms at us)
last-given rooms at us h comings =
    subst (λ (vs : List Turn). EndsWithBytes (givens rooms at vs)) (sym h.all)
    (ends-given rooms at h.before h.last h.some (subst (λ (vs : List Turn). map coming_of (givens rooms at vs) ≡ map told_of vs) h.all comings))

module _ (t : Talk) (is_new : IsNew t) (can : CanBeSaid t.config) (numbers : Configuration) (most : is_frame_max numbers.frame_max ≡ true) (range : AreInRange numbers) (plan : JoinPlan) (u : Turn) (us : List Turn)
    (j last : Join) (st : Started t is_new can numbers plan u j)
    (joins : JoinsTurns us (turn u (begin t)) (asked_then (asked_now (begin t) unasked) (join (fresh numbers) plan)) j last)
    (c : IsClosed t.config.options numbers most range us (turn u (begin t)) st.sending last (all_said st.moved silent)) where
  abbrev gs : List Given
  gs = givens plan.rooms 0 (u ∷ us)

  rule : comes Linked [] ≡ told_of u
  rule =
      ap (λ (n : ℕ). record { at = n; step = Linked; bytes = [] }) (sym st.moment)
      ∙ ap (λ (s : Step). record { at = u.at; step = s; bytes = [] }) (sym st.step)
      ∙ ap (λ (bs : List ℕ). record { at = u.at; step = u.step; bytes = bs }) (sym st.none)

  now_linked : j.linked ≡ true
  now_linked =
      offers-keep (λ (z : Join). z.linked) (λ z d room taken short. refl) (offers_of u (asks (begin t))) (roomier (record (join (fresh numbers) plan) { linked = true })) j st.offers

  later : AreGiven us
  later = are-given us (turn u (begin t)) (asked_then (asked_now (begin t) unasked) (join (fresh numbers) plan)) j last now_linked joins

  first-coming : coming_of (given_of plan.rooms 0 u) ≡ told_of u
  first-coming = subst (λ (x : Coming). coming_of (record { at = x.at; what = given_step x.step x.bytes (slice_index plan.rooms 0) }) ≡ x) rule refl

  comings : map coming_of gs ≡ map told_of (u ∷ us)
  comings =
      ap (λ (x : Coming). x ∷ map coming_of (givens plan.rooms (room_after_step plan.rooms 0 u.step) us)) first-coming
      ∙ ap (λ (xs : List Coming). told_of u ∷ xs) (all-coming plan.rooms (room_after_step plan.rooms 0 u.step) us later)

  linked-in-room : IsLinkedInRoom gs
  linked-in-room = (
    at_most_64 (0 + slice_index plan.rooms 0),
    subst (λ (x : Coming). given_step x.step x.bytes (slice_index plan.rooms 0) ≡ given.Link (Some (at_most_64 (0 + slice_index plan.rooms 0)))) rule refl,
    all-quiet plan.rooms (room_after_step plan.rooms 0 u.step) us later,
  )

  plays : PlaysTurns (u ∷ us) (begin t) (loaded gs)
  plays =
      plays-first u us (begin t) (asked_then (asked_now (begin t) unasked) (join (fresh numbers) plan)) (join (fresh numbers) plan) j last (loaded gs) (new-wants t is_new)
      (subst (λ (x : Coming). Comes true x (join (fresh numbers) plan) (roomier (record (join (fresh numbers) plan) { linked = true }))) rule (link-comes numbers plan))
      (record { plan = plan_of gs; is = refl; rest_is = refl; room_is = refl; works = refl })
      st.offers joins

  -- what is said, to the end of both
  speaks : Speaks plan.rooms 0 (u ∷ us) (begin t) [] silent
  speaks =
      speaks-none plan.rooms 0 u us (begin t) [] st.moved bare st.said silent (st.unread ∙ sym st.none)
      (subst (λ (ss : List Sending). Speaks plan.rooms (room_after_step plan.rooms 0 u.step) us (turn u (begin t)) ss (all_said st.moved silent)) (sym st.sends)
      (c.speaks plan.rooms (room_after_step plan.rooms 0 u.step)))
    where
      bare : bytes_of (given_of plan.rooms 0 u).what ≡ u.bytes
      bare = ap (λ (x : Coming). x.bytes) first-coming

  no_ticks : AllByRecursion (λ (v : Turn). v.step ≡ Tick → ⊥) (u ∷ us)
  no_ticks = ((λ tick. (let bad : Linked ≡ Tick = sym st.step ∙ tick in cc)), c.no_ticks)

  rise : MomentsRise 0 gs
  rise = (omega arith, subst (λ (n : ℕ). MomentsRise n (givens plan.rooms (room_after_step plan.rooms 0 u.step) us)) (sym st.moment) (all-rise plan.rooms (room_after_step plan.rooms 0 u.step) us later))

  ends : EndsWithBytes gs
  ends =
      last-given plan.rooms 0 (u ∷ us) (record { before = u ∷ c.some.before; last = c.some.last; all = ap (λ (vs : List Turn). u ∷ vs) c.some.all; some = c.some.some }) comings

  pub links : sendings t (u ∷ us) ≡ c.sending ∷ []
  links = ap (λ (ss : List Sending). sendings_from us (turn u (begin t)) ss) st.sends ∙ c.sends

  frames-said : AreFrames (agreed_limit t (u ∷ us)) (all_bytes gs) speaks.spelled
  frames-said =
      record {
        joined = speaks.bytes;
        frames = all-spelled 4096 (agreed_limit t (u ∷ us)) speaks.spelled (omega arith) (limit-met (sendings t (u ∷ us)) c.sending links c.enough) speaks.spells;
      }

  pub served : AreTurns (u ∷ us) (begin t) → AreFit (u ∷ us) → AreFed (u ∷ us) → AreSayable t.config.options (answered_in (u ∷ us)) → AreServed t (u ∷ us) gs
  served may fit fed sayable =
      record {
        steps = comings;
        replayed = is;
        linked = linked-in-room;
        faultless =
            faultless-from t gs (answered_in (u ∷ us)) (u ∷ us) is sayable (let short = can.vhost in omega (arith, short)) (all-short plan.rooms 0 (u ∷ us) fit) rise
            (timely t (u ∷ us) no_ticks) speaks.spelled frames-said (record { server = speaks.end; said = speaks.said; gone = speaks.gone }) ends;
      }
    where
      is : replayed t gs (answered_in (u ∷ us)) ≡ u ∷ us
      is = replays t gs (u ∷ us) may fed plays (same-length plan.rooms 0 (u ∷ us))
