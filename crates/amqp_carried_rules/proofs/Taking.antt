-- What a session still has to say stays where an answer, an event or frames are taken.
use Rattle.std.proofs.Common.{◌≡◌, inl, inr, ◌∙◌, ap, sym, refl, ℕ, Bool, true, false, List, ◌++◌, Option, Some, None, Result, arith}
use Rattle.std.proofs.lemmas.Bool.{cases_eq}
use Rattle.std.specs.Map.{keys_of}
use Rattle.amqp_outbox.specs.declared.item.Item.{Item}
use Rattle.amqp_outbox.specs.Queued.{Queued}
use Rattle.amqp_promise.specs.declared.error.ErrorKind.{ErrorKind}
use Rattle.amqp_promise.specs.declared.state.ConnectionState.{ConnectionState}
use Rattle.amqp_answers.specs.declared.answer.Answer.{Answer as AnyAnswer}
use Rattle.amqp_commands.specs.declared.command.Cmd.{Cmd}
use Rattle.amqp_maps.specs.Listed.{at, without}
use Rattle.amqp_answers.specs.Events.{Noted}
use Rattle.amqp_rules.specs.Talk.{Talk, is_open}
use Rattle.amqp_answers.specs.Settled.{Promises}
use Rattle.amqp_rules.specs.Answers.{answer_in, answer_of, take_frames}
use Rattle.amqp_rules.specs.Sound.{IsSound, Ascend}
use Rattle.amqp_rules.proofs.Ascending.{at-gone, none-above}
use Rattle.amqp_maps.proofs.Numbered.{without-other}
use Rattle.amqp_carried_rules.specs.CommandFrames.{is_sent}
use Rattle.amqp_carried_rules.proofs.Bearing.{Reading, IsPart, Ends, Bears, IsAt, lines-map, lane-map, groups-map}
use Rattle.amqp_carried_rules.proofs.Queueing.{same-grows}
use Rattle.amqp_carried_rules.proofs.Bearers.{moved}
use Rattle.amqp_rules.proofs.LostLinks.{open-goes_on}

-- ---- an answer that is taken

module _ (number : ℕ) (ps : Promises) (sorted : Ascend (keys_of ps)) where
  abbrev left : Promises
  left = without number ps

  -- what waits goes on to wait, where the answer that is taken was given
  still-waits : (a : Result AnyAnswer ErrorKind) → at number ps ≡ Some (Some a) → (k : ℕ) → at k ps ≡ Some None → at k left ≡ Some None
  still-waits a given k waits = elim (cases_eq k number) [
    | inl e ↦
        (let there : at k ps ≡ Some (Some a) = ap (λ m. at m ps) e ∙ given in
        let clash : Some None ≡ Some (Some a) = sym waits ∙ there in
        absurd (apart a clash))
    | inr ne ↦ without-other k number ps ne ∙ waits
  ] where
    apart : (a : Result AnyAnswer ErrorKind) → Some None ≡ Some (Some a) → ⊥
    apart a clash = cc

  -- no promise becomes Sent
  pub taken-off : (k : ℕ) → is_sent (at k ps) ≡ false → is_sent (at k left) ≡ false
  taken-off k off = elim (cases_eq k number) [
    | inl e ↦ ap (λ m. is_sent (at m left)) e ∙ ap is_sent (at-gone number ps sorted)
    | inr ne ↦ ap is_sent (without-other k number ps ne) ∙ off
  ]

  bears-taken : (cs : List Cmd) (r : Reading) (items : List Item) (q : Queued) (state : ConnectionState) (a : Result AnyAnswer ErrorKind) → at number ps ≡ Some (Some a)
      → Bears cs r items q ps state → Bears cs r items q left state
  bears-taken cs r items q state a given h =
      record {
        last = h.last;
        lines = lines-map cs cs ps left (same-grows cs) r (items ++ q.begun) h.last h.lines (λ d k told carry below w. still-waits a given k w);
        ends = ends h.ends;
        awaited = h.awaited;
      } where
        ends : Ends cs ps state q.control q.publish h.last → Ends cs left state q.control q.publish h.last
        ends (inl x) =
            inl (
              x.0,
              lane-map cs cs ps left (same-grows cs) h.last.sends q.control x.1 (λ d k told carry w. still-waits a given k w),
              groups-map cs cs ps left (same-grows cs) h.last.publishes q.publish x.2 (λ d k told carry w. still-waits a given k w),
            )
        ends (inr x) =
            let p : IsPart cs ps h.last = x.3 in
            inr (
              x.0,
              x.1,
              x.2,
              record {
                command = p.command;
                number = p.number;
                told = p.told;
                publish = p.publish;
                above = p.above;
                unanswered = taken-off p.number p.unanswered;
                rest = p.rest;
                proper = p.proper;
                frames = p.frames;
              },
            )

given-held : (o : Option (Option (Result AnyAnswer ErrorKind))) (a : Result AnyAnswer ErrorKind) → answer_in None o ≡ Some a → o ≡ Some (Some a)
given-held None a is = absurd cc
given-held (Some None) a is = absurd cc
given-held (Some (Some b)) a is = ap (λ (x : Option (Result AnyAnswer ErrorKind)). Some x) is

-- the promises that are answered Sent, once an answer is taken
pub at-answer : (cs : List Cmd) (answered : ℕ → Bool) (r : Reading) (items : List Item) (number : ℕ) (a : Result AnyAnswer ErrorKind) (t : Talk) → IsSound t → answer_of number t ≡ Some a
    → IsAt cs answered r items t → IsAt cs (λ n. is_sent (at n (without number t.promises))) r items (record t { promises = without number t.promises })
at-answer cs answered r items number a t s is h =
    record {
      made = h.made;
      agrees = λ n le. refl;
      fresh = λ n above. taken-off number t.promises s.promises.0 n (ap is_sent (none-above n t.made t.promises (omega (arith, above, h.made)) s.promises.1));
      sized = h.sized;
      low = h.low;
      bears = λ o. bears-taken number t.promises s.promises.0 cs r items t.outbox t.state a (held o) (h.bears o);
    }
  where
    held : is_open t ≡ true → at number t.promises ≡ Some (Some a)
    held o = given-held (at number t.promises) a (ap (λ e. answer_in e (at number t.promises)) (sym (open-goes_on t.link o)) ∙ is)

-- ---- an event, and frames that are taken

pub at-noted : (cs : List Cmd) (answered : ℕ → Bool) (r : Reading) (items : List Item) (noted : Noted) (t : Talk) → IsAt cs answered r items t → IsAt cs answered r items (record t { noted = noted })
at-noted cs answered r items noted t h = moved cs answered r items t (record t { noted = noted }) refl (λ z. z) (λ n. refl) (λ o. o) (λ b. b) h

pub at-frames : (cs : List Cmd) (answered : ℕ → Bool) (r : Reading) (items : List Item) (opened : ℕ) (t : Talk) → IsAt cs answered r items t → IsAt cs answered r items (take_frames opened t)
at-frames cs answered r items opened t h = moved cs answered r items t (take_frames opened t) refl (λ z. z) (λ n. refl) (λ o. o) (λ b. b) h
