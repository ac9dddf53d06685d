-- The lines of a report, one by one.
use Rattle.std.proofs.Common.{◌≡◌, ◌≤◌, ◌<◌, ◌+◌, ◌-◌, ℕ, zero, suc, Bool, true, false, if◌then◌else◌, is_some, List, [], ◌∷◌, ◌++◌, length, drop, slice_get, Option, Some, Result, Err, inl, inr, refl, ap, sym, ◌∙◌, append_assoc, arith, get_or, add-one}
use Rattle.std.proofs.Math.Seq.{drop-cons}
use Rattle.std.proofs.lemmas.Option.{slice_get_within, get_or_from_slice_get}
use Rattle.std.specs.List.{flat_map, enumerate_from, range_with_len}
use Rattle.amqp_answers.specs.declared.answer.Answer.{Answer}
use Rattle.amqp_promise.specs.declared.error.ErrorKind.{ErrorKind}
use Rattle.amqp_promise.specs.declared.error.ErrorKind.TheVariants.{NoMemory}
use Rattle.amqp_maps.specs.Listed.{without}
use Rattle.amqp_rules.specs.Talk.{Talk, end_of}
use Rattle.amqp_rules.specs.Answers.{answer_in, answer_of, take_answer, Takes, events_of}
use Rattle.amqp_replay.specs.Report.{link_report, link_lines, answer_line, answer_lines, frame_lines, event_lines, end_line, report}
use Rattle.amqp_replay.proofs.Entries.{at-without}

-- ---- lists, one by one

-- the elements from one on
pub drop_from : {A : Type 0} (k : ℕ) (xs : List A) (x : A) → k < length xs → x ≡ get_or xs k x → drop k xs ≡ x ∷ drop (k + 1) xs
drop_from k xs x there same = rw (add-one, drop-cons xs k x there) (ap (λ y. y ∷ drop (suc k) xs) (sym same))

-- the lines of so many numbers from one on
abbrev pub lines_from : (ℕ → List ℕ) → ℕ → ℕ → List ℕ
lines_from line number count = flat_map line (range_with_len number count)

pub lines_from-step : (line : ℕ → List ℕ) (number count : ℕ) → number < count
    → lines_from line number (count - number) ≡ line number ++ lines_from line (number + 1) (count - (number + 1))
lines_from-step line number count h =
    let more : count - number ≡ suc (count - (number + 1)) = omega arith in
    ap (lines_from line number) more

-- ---- links

-- the lines of the links from one on
abbrev pub links_from : ℕ → List (List ℕ) → List ℕ
links_from k links = flat_map link_report (enumerate_from (k + 1) (drop k links))

pub links_from-step : (k : ℕ) (links : List (List ℕ)) (link : List ℕ) → slice_get links k ≡ Some link
    → links_from k links ≡ link_report (k + 1, link) ++ links_from (k + 1) links
links_from-step k links link h =
    let there : k < length links = slice_get_within links k link h in
    let same : get_or links k link ≡ link = get_or_from_slice_get links k link link h in
    ap (λ (x : List (List ℕ)). flat_map link_report (enumerate_from (k + 1) x)) (drop_from k links link there (sym same))

drop_all : (links : List (List ℕ)) (k : ℕ) → length links ≤ k → drop k links ≡ []
drop_all [] zero h = refl
drop_all [] (suc k) h = refl
drop_all (x ∷ links) zero h = absurd (omega arith)
drop_all (x ∷ links) (suc k) h = drop_all links k (omega arith)

-- ---- promises

abbrev pub line_of : Talk → ℕ → List ℕ
line_of t number = answer_line number (answer_of number t)

-- the lines of so many promises from one on
abbrev pub answers_from : Talk → ℕ → ℕ → List ℕ
answers_from t number count = lines_from (line_of t) number count

-- the answers from a promise on are those of before, and so are all frames, the events and the end
pub record Keeps (number : ℕ) (before now : Talk) : Type 0 where
  pub answers : (k : ℕ) → number ≤ k → answer_of k now ≡ answer_of k before
  pub frames : frame_lines now ≡ frame_lines before
  pub events : events_of now ≡ events_of before
  pub end : end_of now ≡ end_of before

-- an answer that is not a refusal of memory was taken as it was kept
pub Takes-told : (number : ℕ) (given : Option (Result Answer ErrorKind)) (before after : Talk) → (given ≡ Some (Err NoMemory) → ⊥)
    → Takes number given before after → (given ≡ answer_of number before) × (after ≡ take_answer number before)
Takes-told number given before after told (inl takes) = takes
Takes-told number given before after told (inr refused) = absurd (told refused.1)

abbrev taken_if : Bool → ℕ → Talk → Talk
taken_if b number t = if b then record t { promises = without number t.promises } else t

taken_end : (b : Bool) (number : ℕ) (t : Talk) → end_of (taken_if b number t) ≡ end_of t
taken_end true number t = refl
taken_end false number t = refl

taken_frames : (b : Bool) (number : ℕ) (t : Talk) → frame_lines (taken_if b number t) ≡ frame_lines t
taken_frames true number t = refl
taken_frames false number t = refl

taken_events : (b : Bool) (number : ℕ) (t : Talk) → events_of (taken_if b number t) ≡ events_of t
taken_events true number t = refl
taken_events false number t = refl

taken_answer : (b : Bool) (number k : ℕ) (t : Talk) → number < k → answer_of k (taken_if b number t) ≡ answer_of k t
taken_answer true number k t h = ap (answer_in (end_of t)) (at-without number k t.promises h)
taken_answer false number k t h = refl

pub Keeps-step : (number : ℕ) (before now : Talk) → Keeps number before now → Keeps (number + 1) before (take_answer number now)
Keeps-step number before now keeps =
    let b = is_some (answer_of number now) in
    record {
      answers = λ k le. taken_answer b number k now (omega (arith, le)) ∙ keeps.answers k (omega (arith, le));
      frames = taken_frames b number now ∙ keeps.frames;
      events = taken_events b number now ∙ keeps.events;
      end = taken_end b number now ∙ keeps.end;
    }

-- ---- the whole report

-- the parts, written one after another
pub report-parts : (links : List (List ℕ)) (t : Talk) (out with_links with_answers with_frames with_events whole frames events : List ℕ)
    (end : Option (Result (Unit {0}) ErrorKind))
    → with_links ≡ out ++ link_lines links → with_answers ≡ with_links ++ answer_lines t
    → frames ≡ frame_lines t → with_frames ≡ with_answers ++ frames → events ≡ event_lines t → with_events ≡ with_frames ++ events
    → end ≡ end_of t → whole ≡ with_events ++ end_line end
    → whole ≡ out ++ report links t
report-parts links t out with_links with_answers with_frames with_events whole frames events end first second same third told fourth ended last =
    let two = link_lines links ++ answer_lines t in
    let three = two ++ frame_lines t in
    let four = three ++ event_lines t in
    let answered : with_answers ≡ out ++ two =
    second ∙ ap (λ (x : List ℕ). x ++ answer_lines t) first ∙ append_assoc out (link_lines links) (answer_lines t) in
    let framed : with_frames ≡ out ++ three =
    third ∙ ap (λ (x : List ℕ). with_answers ++ x) same ∙ ap (λ (x : List ℕ). x ++ frame_lines t) answered
    ∙ append_assoc out two (frame_lines t) in
    let noted : with_events ≡ out ++ four =
    fourth ∙ ap (λ (x : List ℕ). with_frames ++ x) told ∙ ap (λ (x : List ℕ). x ++ event_lines t) framed
    ∙ append_assoc out three (event_lines t) in
    last ∙ ap (λ x. with_events ++ end_line x) ended ∙ ap (λ (x : List ℕ). x ++ end_line (end_of t)) noted
    ∙ append_assoc out four (end_line (end_of t))
