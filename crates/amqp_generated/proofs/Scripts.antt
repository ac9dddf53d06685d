-- What the steps of a generated script are, one by one.
use Rattle.std.proofs.Common.{◌≡◌, ◌≤◌, ℕ, zero, suc, ◌+◌, ◌*◌, ◌%◌, List, [], ◌∷◌, ◌++◌, length, append_assoc, None, refl, ap, sym, ◌∙◌, subst, arith}
use Rattle.std.specs.Prelude.{codes, map}
use Rattle.std.specs.List.{flat_map, range_with_len, AllByRecursion}
use Rattle.amqp_frame.specs.declared.frame.Frame.{Frame}
use Rattle.amqp_frame.specs.declared.frame.Frame.TheVariants.{Method}
use Rattle.amqp_frame.specs.declared.method.Method.TheVariants.{Start, Tune, OpenOk, CloseOk}
use Rattle.amqp_frame.specs.Frames.{encoding, FrameOf}
use Rattle.amqp_frame.proofs.Written.{frame_written}
use Rattle.amqp_commands.specs.declared.command.Cmd.TheVariants.{OpenChannel, CloseConnection}
use Rattle.amqp_engine.specs.declared.given.Given.{Given}
use Rattle.amqp_engine.specs.declared.given.GivenStep.{GivenStep}
use Rattle.amqp_engine.specs.declared.given.GivenStep.TheVariants.{Link, Bytes, Command}
use Rattle.amqp_engine.specs.Valid.{all_bytes, SpelledFrame, AreSpelled, AreFrames, IsQuiet, IsLinkedOnce, MomentsRise, EndsWithBytes, IsShort}
use Rattle.amqp_engine.proofs.Commits.{encoding-some}
use Rattle.amqp_replay.specs.Grammar.{given}
use Rattle.amqp_replay.specs.GeneratedScenario.{broker_properties, channel_steps, publish_hello, publish_step, frame_comes, generated_scenario}
use Rattle.amqp_generated.proofs.OpenSession.{now, open_ok, open-ok-spells, close-ok-spells}
use Rattle.amqp_generated.proofs.Ahead.{spelled_frames}
use Rattle.amqp_generated.proofs.Steps.{opens_from, publishes_from, frames_from, last_steps, open_steps, open_frames}

-- ---- the script

-- the server's start, its tune and its open-ok
abbrev pub broker_start : Frame
broker_start = Method 0 (Start 0 9 broker_properties (codes "PLAIN AMQPLAIN") (codes "en_US"))

abbrev pub broker_tune : Frame
broker_tune = Method 0 (Tune 2047 131072 60)

abbrev pub broker_open_ok : Frame
broker_open_ok = Method 0 OpenOk

-- the first steps, before others
abbrev pub first_steps : List Given → List Given
first_steps gs = now (Link None) ∷ now (frame_comes broker_start) ∷ now (frame_comes broker_tune) ∷ gs

-- the steps of the script of a number
abbrev pub script_steps : ℕ → List Given
script_steps count = first_steps (now (frame_comes broker_open_ok) ∷ open_steps count)

-- the frames that come in them
abbrev pub script_frames : ℕ → List Frame
script_frames count = broker_start ∷ broker_tune ∷ broker_open_ok ∷ open_frames count

-- a range goes on by one
range-more : (k j : ℕ) → range_with_len (suc k) (suc j) ≡ suc k ∷ range_with_len (suc (suc k)) j
range-more k j = let next : suc k + 1 ≡ suc (suc k) = omega arith in ap (λ n. suc k ∷ range_with_len n j) next

opens-are : (k j : ℕ) (more : List GivenStep) → map (given 0) (flat_map channel_steps (range_with_len (suc k) j) ++ more) ≡ opens_from k j (map (given 0) more)
opens-are k zero more = refl
opens-are k (suc j) more =
    ap (λ ns. map (given 0) (flat_map channel_steps ns ++ more)) (range-more k j)
    ∙ ap (λ gs. now (Command OpenChannel) ∷ now (Bytes (encoding (open_ok (suc k)))) ∷ gs) (opens-are (suc k) j more)

publishes-are : (k j : ℕ) (more : List GivenStep) → map (given 0) (map publish_step (range_with_len (suc k) j) ++ more) ≡ publishes_from k j (map (given 0) more)
publishes-are k zero more = refl
publishes-are k (suc j) more =
    ap (λ ns. map (given 0) (map publish_step ns ++ more)) (range-more k j)
    ∙ ap (λ gs. now (publish_step (suc k)) ∷ gs) (publishes-are (suc k) j more)

-- what the script of a number says
pub steps-are : (count : ℕ) → (generated_scenario count).steps ≡ script_steps count
steps-are count =
    let last : List GivenStep = Command (CloseConnection 200 (codes "OK")) ∷ frame_comes (Method 0 CloseOk) ∷ [] in
    let channels = flat_map channel_steps (range_with_len 1 count) in
    let messages = map publish_step (range_with_len 1 count) in
    ap (λ xs. first_steps (now (frame_comes broker_open_ok) ∷ map (given 0) xs)) (append_assoc channels messages last)
    ∙ ap (λ gs. first_steps (now (frame_comes broker_open_ok) ∷ gs))
    (opens-are 0 count (messages ++ last) ∙ ap (opens_from 0 count) (publishes-are 0 count last))

-- ---- each of its steps

module _ (P : Given → Type 0) (opens : P (now (Command OpenChannel))) (comes : (k : ℕ) → P (now (Bytes (encoding (open_ok (suc k))))))
    (publishes : (n size : ℕ) → P (now (publish_hello n size))) where
  all-opens : (k j : ℕ) (gs : List Given) → AllByRecursion P gs → AllByRecursion P (opens_from k j gs)
  all-opens k zero gs h = h
  all-opens k (suc j) gs h = (opens, (comes k, all-opens (suc k) j gs h))

  all-publishes : (k j : ℕ) (gs : List Given) → AllByRecursion P gs → AllByRecursion P (publishes_from k j gs)
  all-publishes k zero gs h = h
  all-publishes k (suc j) gs h = (publishes (suc k) (suc k * 7919 % 9000), all-publishes (suc k) j gs h)

  -- where it holds of the last steps too
  pub all-open : (count : ℕ) → AllByRecursion P last_steps → AllByRecursion P (open_steps count)
  all-open count h = all-opens 0 count (publishes_from 0 count last_steps) (all-publishes 0 count last_steps h)

pub open-quiet : (count : ℕ) → AllByRecursion (λ (g : Given). IsQuiet g.what) (open_steps count)
open-quiet count = all-open (λ (g : Given). IsQuiet g.what) tt (λ k. tt) (λ n size. tt) count (tt, (tt, tt))

pub script-linked : (count : ℕ) → IsLinkedOnce (script_steps count)
script-linked count = (refl, (tt, (tt, (tt, open-quiet count))))

pub script-short : (count : ℕ) → AllByRecursion (λ (g : Given). IsShort g.what) (script_steps count)
script-short count =
    (tt, (tt, (tt, (tt, all-open (λ (g : Given). IsShort g.what) tt (λ k. tt) (λ n size. tt) count (omega arith, (tt, tt))))))

-- all are of the moment 0
rising : (gs : List Given) → AllByRecursion (λ (g : Given). g.at ≡ 0) gs → MomentsRise 0 gs
rising [] h = tt
rising (g ∷ gs) h =
    let P : ℕ → Type 0 = λ moment. MomentsRise moment gs in
    (omega arith, subst P (sym h.0) (rising gs h.1))

pub script-moments : (count : ℕ) → MomentsRise 0 (script_steps count)
script-moments count =
    rising (script_steps count)
    (refl, (refl, (refl, (refl, all-open (λ (g : Given). g.at ≡ 0) refl (λ k. refl) (λ n size. refl) count (refl, (refl, tt))))))

-- ---- its bytes

one-before : (g : Given) (gs : List Given) → EndsWithBytes gs → EndsWithBytes (g ∷ gs)
one-before g gs ends = (g ∷ ends.0, ends.1, ap (λ xs. g ∷ xs) ends.2, ends.3)

opens-end : (k j : ℕ) (gs : List Given) → EndsWithBytes gs → EndsWithBytes (opens_from k j gs)
opens-end k zero gs h = h
opens-end k (suc j) gs h =
    one-before (now (Command OpenChannel)) (now (Bytes (encoding (open_ok (suc k)))) ∷ opens_from (suc k) j gs)
    (one-before (now (Bytes (encoding (open_ok (suc k))))) (opens_from (suc k) j gs) (opens-end (suc k) j gs h))

publishes-end : (k j : ℕ) (gs : List Given) → EndsWithBytes gs → EndsWithBytes (publishes_from k j gs)
publishes-end k zero gs h = h
publishes-end k (suc j) gs h =
    one-before (now (publish_hello (suc k) (suc k * 7919 % 9000))) (publishes_from (suc k) j gs) (publishes-end (suc k) j gs h)

last-ends : EndsWithBytes last_steps
last-ends = (
  now (Command (CloseConnection 200 (codes "OK"))) ∷ [],
  now (Bytes (encoding (Method 0 CloseOk))),
  refl,
  λ none.
      (let size : length (encoding (Method 0 CloseOk)) ≡ 0 = ap length none in
      let some = encoding-some (Method 0 CloseOk) in
      omega (arith, size, some)),
)

pub script-ends : (count : ℕ) → EndsWithBytes (script_steps count)
script-ends count =
    let later = open_steps count in
    let open-end = opens-end 0 count (publishes_from 0 count last_steps) (publishes-end 0 count last_steps last-ends) in
    let a = one-before (now (frame_comes broker_open_ok)) later open-end in
    let b = one-before (now (frame_comes broker_tune)) (now (frame_comes broker_open_ok) ∷ later) a in
    let c = one-before (now (frame_comes broker_start)) (now (frame_comes broker_tune) ∷ now (frame_comes broker_open_ok) ∷ later) b in
    one-before (now (Link None)) (now (frame_comes broker_start) ∷ now (frame_comes broker_tune) ∷ now (frame_comes broker_open_ok) ∷ later) c

-- the octets of frames, joined
abbrev octets_of : List Frame → List ℕ
octets_of fs = flat_map (λ (s : SpelledFrame). s.octets) (spelled_frames fs)

opens-bytes : (k j : ℕ) (gs : List Given) (fs : List Frame) → all_bytes gs ≡ octets_of fs → all_bytes (opens_from k j gs) ≡ octets_of (frames_from k j fs)
opens-bytes k zero gs fs h = h
opens-bytes k (suc j) gs fs h = ap (λ bytes. encoding (open_ok (suc k)) ++ bytes) (opens-bytes (suc k) j gs fs h)

publishes-bytes : (k j : ℕ) (gs : List Given) → all_bytes (publishes_from k j gs) ≡ all_bytes gs
publishes-bytes k zero gs = refl
publishes-bytes k (suc j) gs = publishes-bytes (suc k) j gs

script-bytes : (count : ℕ) → all_bytes (script_steps count) ≡ octets_of (script_frames count)
script-bytes count =
    ap (λ bytes. encoding broker_start ++ (encoding broker_tune ++ (encoding broker_open_ok ++ bytes)))
    (opens-bytes 0 count (publishes_from 0 count last_steps) (Method 0 CloseOk ∷ []) (publishes-bytes 0 count last_steps))

pub broker-start-spells : FrameOf broker_start (encoding broker_start)
broker-start-spells =
    frame_written broker_start (
      omega arith,
      (
        omega arith,
        omega arith,
        (
          (refl, (tt, tt)),
          (omega arith, ((tt, tt), (omega arith, tt, tt)), (omega arith, tt, tt)),
          omega arith,
        ),
      ),
    ) (omega arith)

pub broker-tune-spells : FrameOf broker_tune (encoding broker_tune)
broker-tune-spells = frame_written broker_tune (omega arith, (omega arith, omega arith, omega arith)) (omega arith)

pub broker-open-ok-spells : FrameOf broker_open_ok (encoding broker_open_ok)
broker-open-ok-spells = frame_written broker_open_ok (omega arith, tt) (omega arith)

opens-spelled : (k j : ℕ) (fs : List Frame) → k + j ≤ 2000 → AreSpelled 131072 131072 (spelled_frames fs) → AreSpelled 131072 131072 (spelled_frames (frames_from k j fs))
opens-spelled k zero fs within h = h
opens-spelled k (suc j) fs within h = (open-ok-spells (suc k) (omega (arith, within)), omega arith, opens-spelled (suc k) j fs (omega (arith, within)) h)

pub script-frames : (count : ℕ) → count ≤ 2000 → AreFrames 131072 (all_bytes (script_steps count)) (spelled_frames (script_frames count))
script-frames count within =
    record {
      joined = script-bytes count;
      frames = (
        broker-start-spells,
        omega arith,
        (
          broker-tune-spells,
          omega arith,
          (
            broker-open-ok-spells,
            omega arith,
            opens-spelled 0 count (Method 0 CloseOk ∷ []) (omega (arith, within)) (close-ok-spells, omega arith, tt),
          ),
        ),
      );
    }
