-- The script of a number is valid, whatever comes after the answers to start.
use Rattle.std.proofs.Common.{◌≡◌, ◌≤◌, ℕ, ◌-◌, min, List, [], ◌∷◌, ◌++◌, length, take, ap, sym, ◌∙◌, subst, arith}
use Rattle.std.specs.List.{flat_map, AllByRecursion}
use Rattle.std.proofs.lemmas.List.{take_all}
use Rattle.amqp_auth.specs.declared.asked.Asked.{Asked}
use Rattle.amqp_rules.specs.Talk.{Talk}
use Rattle.amqp_faultless.specs.Faultless.{AreSayable}
use Rattle.amqp_engine.specs.Engine.{begin}
use Rattle.amqp_engine.specs.Turn.{Turn, exchanges}
use Rattle.amqp_engine.specs.Sending.{Sending, frames, frames_sent}
use Rattle.amqp_engine.specs.Play.{replayed, AreAnswered}
use Rattle.amqp_engine.specs.Valid.{AreFrames, all_bytes, sent_by_turns, sayings_of, IsServed, IsTimely, last_piece, agreed_frame_max, agreed_limit, answered_in, Valid}
use Rattle.amqp_replay.specs.GeneratedScenario.{frame_comes}
use Rattle.amqp_generated.specs.Login.{guest_login}
use Rattle.amqp_generated.proofs.OpenSession.{now}
use Rattle.amqp_generated.proofs.Ahead.{spelled_frames}
use Rattle.amqp_generated.proofs.Steps.{open_steps, open_frames, open-goes-on}
use Rattle.amqp_generated.proofs.Scripts.{broker_open_ok, script_steps, script_frames, open-quiet, script-linked, script-short, script-moments, script-ends, script-frames}
use Rattle.amqp_generated.proofs.Handshake.{client, guest_exchange, Whole, whole-goes}

-- turns of the moment 0 are timely
at-once : (us before later : List Turn) (u : Turn) → AllByRecursion (λ (v : Turn). v.at ≡ 0) us → us ≡ before ++ u ∷ later → u.at ≡ 0
at-once [] [] later u h is = absurd cc
at-once [] (w ∷ before) later u h is = absurd cc
at-once (v ∷ us) [] later u h is =
    let same : v ≡ u = cc in
    ap (λ (x : Turn). x.at) (sym same) ∙ h.0
at-once (v ∷ us) (w ∷ before) later u h is =
    let rest : us ≡ before ++ u ∷ later = cc in
    at-once us before later u h.1 rest

timely : (t : Talk) (us : List Turn) → AllByRecursion (λ (v : Turn). v.at ≡ 0) us → IsTimely t us
timely t us h before later u heartbeat is tick agreed some =
    let now = at-once us before later u h is in
    let none : u.at - last_piece 0 before ≡ 0 = ap (λ n. n - last_piece 0 before) now ∙ less-none (last_piece 0 before) in
    omega (arith, none)
  where
    less-none : (n : ℕ) → 0 - n ≡ 0
    less-none n = omega arith

-- the frames that were sent, where all was
whole-sent : (x : Sending) → x.sent ≡ length x.committed → frames_sent x ≡ frames x.committed
whole-sent x all = ap (λ n. frames (take n x.committed)) all ∙ ap frames (take_all (length x.committed) x.committed (omega arith))

-- the script, all of whose turns these are
module _ (count : ℕ) (within : count ≤ 2000) where
  abbrev pub whole : Whole (now (frame_comes broker_open_ok) ∷ open_steps count) (broker_open_ok ∷ open_frames count)
  whole = whole-goes (open_steps count) (open_frames count) (open-quiet count) (open-goes-on count within)

  -- the greatest frame that is agreed
  limit-is : agreed_limit client whole.us ≡ 131072
  limit-is =
      ap (λ ss. min 134217728 (agreed_frame_max (flat_map frames_sent ss))) whole.only
      ∙ ap (λ fs. min 134217728 (agreed_frame_max (fs ++ []))) (whole-sent whole.sending whole.all)
      ∙ ap (λ items. min 134217728 (agreed_frame_max (frames items ++ []))) whole.items_are

  -- it is valid, whatever else would be answered
  pub guest-valid : (more : List Asked) → Valid client (script_steps count) (guest_login ++ more)
  guest-valid more =
      let same : replayed client (script_steps count) (guest_login ++ more) ≡ whole.us = whole.played more in
      let A : List Turn → Type 0 = λ us. AreSayable client.config.options (answered_in us) in
      let T : List Turn → Type 0 = IsTimely client in
      let F : List Turn → Type 0 = λ us. AreFrames (agreed_limit client us) (all_bytes (script_steps count)) (spelled_frames (script_frames count)) in
      let G : ℕ → Type 0 = λ limit. AreFrames limit (all_bytes (script_steps count)) (spelled_frames (script_frames count)) in
      let S : List Turn → Type 0 = λ us. IsServed (sayings_of (script_steps count) (sent_by_turns us (begin client) []) 0 (spelled_frames (script_frames count))) in
      let said : AreSayable client.config.options guest_login = (omega arith, tt) in
      let B : List Asked → Type 0 = AreSayable client.config.options in
      record {
        linked = script-linked count;
        faultless = record {
          sayable = subst A (sym same) (subst B (sym whole.asked) said);
          vhost = omega arith;
          short = script-short count;
          moments = script-moments count;
          timely = subst T (sym same) (timely client whole.us whole.moments);
          spelled = spelled_frames (script_frames count);
          frames = subst F (sym same) (subst G (sym limit-is) (script-frames count within));
          served = subst S (sym same) (record { server = whole.server; said = whole.said; gone = whole.gone });
          last = script-ends count;
        };
      }

  -- what it asks is answered by who logs in as guest
  pub guest-answered : AreAnswered (replayed client (script_steps count) guest_login) (begin client)
  guest-answered =
      let A : List Turn → Type 0 = λ us. AreAnswered us (begin client) in
      subst A (sym (whole.played [])) whole.answered

  -- and that is what is exchanged
  pub guest-exchanged : exchanges (replayed client (script_steps count) guest_login) (begin client) ≡ guest_exchange
  guest-exchanged = ap (λ us. exchanges us (begin client)) (whole.played []) ∙ whole.exchanged
