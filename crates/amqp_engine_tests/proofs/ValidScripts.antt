-- Which scripts are those of a faultless server.
use Rattle.std.proofs.Common.{◌≡◌, ◌≢◌, ◌≤◌, ℕ, zero, suc, ◌-◌, ◌*◌, ◌==◌, ◌&&◌, ◌||◌, not, nat_le, Bool, true, false, true≢false, List, [], ◌∷◌, ◌++◌, append_assoc, append-nil, length, take, Option, Some, None, refl, ap, sym, ◌∙◌, subst, arith}
use Rattle.std.proofs.lemmas.Bool.Decides.{nat_tests}
use Rattle.std.specs.List.{flat_map, AllByRecursion}
use Rattle.amqp_types.specs.Reading.{short_string_at, long_string_at, scalar_at, row_at, pair_with, table_with, value_at, table_at}
use Rattle.amqp_frame.specs.FrameReading.{front, framed, sized, ended, content, method_payload, connection_arguments_at, channel_arguments_at, start_at, tune_at, close_at, channel_close_at}
use Rattle.amqp_auth.specs.declared.asked.Asked.{Asked}
use Rattle.amqp_rules.specs.Talk.{Talk}
use Rattle.amqp_faultless.specs.Faultless.{silent, AreSayable}
use Rattle.amqp_engine.specs.declared.given.Given.{Given}
use Rattle.amqp_engine.specs.declared.given.GivenStep.TheVariants as given
use Rattle.amqp_engine.specs.declared.port.Step.{Step}
use Rattle.amqp_engine.specs.declared.port.Step.TheVariants.{Linked, LinkFailed, Piece, End, Fault, Room, Tick, Command}
use Rattle.amqp_engine.specs.Plan.{bytes_of}
use Rattle.amqp_engine.specs.Engine.{begin}
use Rattle.amqp_engine.specs.Turn.{Turn}
use Rattle.amqp_engine.specs.Sending.{frames_sent, sendings}
use Rattle.amqp_engine.specs.Play.{replayed}
use Rattle.amqp_engine.specs.Valid.{SpelledFrame, AreFrames, AreSpelled, all_bytes, sent_by_turns, sayings_of, after_sayings, IsServed, IsLinkedOnce, MomentsRise, IsShort, EndsWithBytes, IsTimely, agreed_heartbeat, last_piece, agreed_limit, Valid}
use Rattle.amqp_engine_tests.specs.Scripts.{client, listening, guest, renewed, started, tuned, opened, blocked, unblocked, answered, closed, channel_opened, channel_closed, channel_answered, secret_taken, delivering, header_comes, body_comes, heartbeat, steps_at, comes, shut, closed_by_us, in_pieces, closed_by_them, blocked_a_while, heard_in_time, messages_pass, token_renewed, tunes_at_once, closes_cross, missed}
use Rattle.amqp_engine_tests.proofs.Octets.{started-spells, tuned-spells, opened-spells, blocked-spells, unblocked-spells, answered-spells, closed-spells, channel-opened-spells, channel-closed-spells, channel-answered-spells, secret-taken-spells, delivering-spells, header-comes-spells, body-comes-spells, heartbeat-spells, one-reading}
use Rattle.amqp_engine_tests.proofs.NotServed.{not-served}
use Rattle.amqp_types.proofs.Small.{and-left, and-right, and-true}

-- ---- whether turns are timely, tick by tick

abbrev is_tick : Step → Bool
is_tick Tick = true
is_tick _ = false

-- so long a silence is not too long, where this heartbeat is agreed
abbrev is_in_time : Option ℕ → ℕ → Bool
is_in_time None silence = true
is_in_time (Some heartbeat) silence = heartbeat == 0 || nat_le silence (2000 * heartbeat)

-- a tick after these turns comes in time
abbrev comes_in_time : Talk → List Turn → Turn → Bool
comes_in_time t before u =
    not (is_tick u.step) || is_in_time (agreed_heartbeat (flat_map frames_sent (sendings t before))) (u.at - last_piece 0 before)

abbrev are_timely : Talk → List Turn → List Turn → Bool
are_timely t before [] = true
are_timely t before (u ∷ us) = comes_in_time t before u && are_timely t (before ++ u ∷ []) us

each-tick : (t : Talk) (seen us before later : List Turn) (u : Turn) → are_timely t seen us ≡ true → us ≡ before ++ u ∷ later
    → comes_in_time t (seen ++ before) u ≡ true
each-tick t seen [] [] later u h is = absurd cc
each-tick t seen [] (v ∷ before) later u h is = absurd cc
each-tick t seen (v ∷ us) [] later u h is =
    let same : v ≡ u = cc in
    let P : Turn → Type 0 = λ x. comes_in_time t (seen ++ []) x ≡ true in
    subst P same (ap (λ (bs : List Turn). comes_in_time t bs v) (append-nil seen) ∙ and-left _ _ h)
each-tick t seen (v ∷ us) (w ∷ before) later u h is =
    let same : v ≡ w = cc in
    let rest : us ≡ before ++ u ∷ later = cc in
    let after = each-tick t (seen ++ v ∷ []) us before later u (and-right _ _ h) rest in
    let seen-all : (seen ++ v ∷ []) ++ before ≡ seen ++ w ∷ before =
    append_assoc seen (v ∷ []) before ∙ ap (λ (x : Turn). seen ++ x ∷ before) same in
    ap (λ (bs : List Turn). comes_in_time t bs u) (sym seen-all) ∙ after

in-time : (heartbeat silence : ℕ) → is_in_time (Some heartbeat) silence ≡ true → heartbeat ≢ 0 → silence ≤ 2000 * heartbeat
in-time zero silence h some = absurd (some refl)
in-time (suc n) silence h some = grind (arith, nat_tests, h)

pub timely : (t : Talk) (us : List Turn) → are_timely t [] us ≡ true → IsTimely t us
timely t us h before later u heartbeat is tick agreed some =
    let sent = agreed_heartbeat (flat_map frames_sent (sendings t before)) in
    let silence = u.at - last_piece 0 before in
    let P : Step → Type 0 = λ step. (not (is_tick step) || is_in_time sent silence) ≡ true in
    let Q : Option ℕ → Type 0 = λ o. is_in_time o silence ≡ true in
    in-time heartbeat silence (subst Q agreed (subst P tick (each-tick t [] us before later u h is))) some

-- where the turns are timely, each tick comes in time
ticks-timely : (t : Talk) (before later : List Turn) (u : Turn) → IsTimely t (before ++ u ∷ later) → comes_in_time t before u ≡ true
ticks-timely t before later u is = by u.step refl where
  sent : Option ℕ
  sent = agreed_heartbeat (flat_map frames_sent (sendings t before))

  silence : ℕ
  silence = u.at - last_piece 0 before

  within : (heartbeat : ℕ) → (heartbeat ≢ 0 → silence ≤ 2000 * heartbeat) → is_in_time (Some heartbeat) silence ≡ true
  within zero h = refl
  within (suc n) h = let short : silence ≤ 2000 * suc n = h (λ none. absurd cc) in grind (arith, nat_tests, short)

  known : (o : Option ℕ) → sent ≡ o → u.step ≡ Tick → is_in_time o silence ≡ true
  known None agreed tick = refl
  known (Some heartbeat) agreed tick = within heartbeat (λ some. is before later u heartbeat refl tick agreed some)

  by : (step : Step) → u.step ≡ step → (not (is_tick step) || is_in_time sent silence) ≡ true
  by Tick tick = known sent refl tick
  by Linked h = refl
  by LinkFailed h = refl
  by (Piece n) h = refl
  by End h = refl
  by Fault h = refl
  by Room h = refl
  by (Command c) h = refl

each-timely : (t : Talk) (all : List Turn) → IsTimely t all → (seen us : List Turn) → all ≡ seen ++ us → are_timely t seen us ≡ true
each-timely t all is seen [] whole = refl
each-timely t all is seen (u ∷ us) whole =
    and-true _ _ (ticks-timely t seen us u (subst (IsTimely t) whole is))
    (each-timely t all is (seen ++ u ∷ []) us (whole ∙ sym (append_assoc seen (u ∷ []) us)))

-- ---- whole scripts

-- what is computed of a script whose bytes spell these frames: what its provider answers, which greatest frame is
-- agreed, that its server says what it may and is gone, and that it is timely
record Computes (t : Talk) (gs : List Given) (told : List Asked) (spelled : List SpelledFrame) : Type 0 where
  answers : flat_map (λ (u : Turn). u.notes.auths) (replayed t gs told) ≡ told
  limit : agreed_limit t (replayed t gs told) ≡ 131072
  served : IsServed (sayings_of gs (sent_by_turns (replayed t gs told) (begin t) []) 0 spelled)
  timely : are_timely t [] (replayed t gs told) ≡ true

-- what is answered can be said, where it is what can be said
told-sayable : (t : Talk) (told answers : List Asked) → AreSayable t.config.options told → answers ≡ told → AreSayable t.config.options answers
told-sayable t told answers can is = subst (AreSayable t.config.options) (sym is) can

-- who logs in as guest can say so
guest-sayable : AreSayable client.config.options guest
guest-sayable = (omega arith, tt)

-- who logs in with a token can tell it anew
renewed-sayable : AreSayable client.config.options renewed
renewed-sayable = (omega arith, (omega arith, tt))

-- such a script is valid, where its steps are as they are to be
all-valid : (t : Talk) (gs : List Given) (told : List Asked) (spelled : List SpelledFrame) → length t.config.uri.vhost ≤ 255 → AreSayable t.config.options told
    → Computes t gs told spelled → IsLinkedOnce gs → AllByRecursion (λ (g : Given). IsShort g.what) gs
    → MomentsRise 0 gs → AreFrames 131072 (all_bytes gs) spelled → EndsWithBytes gs → Valid t gs told
all-valid t gs told spelled vhost can computes linked short moments are last =
    let F : ℕ → Type 0 = λ limit. AreFrames limit (all_bytes gs) spelled in
    record {
      linked = linked;
      faultless = record {
        sayable = told-sayable t told (flat_map (λ (u : Turn). u.notes.auths) (replayed t gs told)) can computes.answers;
        vhost = vhost;
        short = short;
        moments = moments;
        timely = timely t (replayed t gs told) computes.timely;
        spelled = spelled;
        frames = subst F (sym computes.limit) are;
        served = computes.served;
        last = last;
      };
    }

-- the frames of the handshake, before others
abbrev opening : List SpelledFrame → List SpelledFrame
opening rest = started ∷ tuned ∷ opened ∷ rest

-- they are spelled, where those after them are
opening-spelled : (rest : List SpelledFrame) → AreSpelled 131072 131072 rest → AreSpelled 4096 131072 (opening rest)
opening-spelled rest are = (started-spells, omega arith, (tuned-spells, omega arith, (opened-spells, omega arith, are)))

-- closed by us
closed_by_us-computes : Computes client closed_by_us guest (opening (answered ∷ []))
unfolding front framed sized ended content method_payload connection_arguments_at channel_arguments_at start_at tune_at short_string_at long_string_at scalar_at row_at pair_with table_with value_at table_at
closed_by_us-computes = record { answers = refl; limit = refl; served = record { server = _; said = refl; gone = refl }; timely = refl }

pub closed_by_us-valid : Valid client closed_by_us guest
closed_by_us-valid =
    all-valid client closed_by_us guest (opening (answered ∷ [])) (omega arith) guest-sayable closed_by_us-computes
    (refl, (tt, (tt, (tt, (tt, (tt, tt))))))
    (tt, (tt, (tt, (tt, (omega arith, (tt, tt))))))
    (omega arith, (omega arith, (omega arith, (omega arith, (omega arith, (omega arith, tt))))))
    (record { joined = refl; frames = opening-spelled (answered ∷ []) (answered-spells, omega arith, tt) })
    (take 5 closed_by_us, _, refl, λ none. cc)

-- the same, by a client that keeps its events
listening-computes : Computes listening closed_by_us guest (opening (answered ∷ []))
unfolding front framed sized ended content method_payload connection_arguments_at channel_arguments_at start_at tune_at short_string_at long_string_at scalar_at row_at pair_with table_with value_at table_at
listening-computes = record { answers = refl; limit = refl; served = record { server = _; said = refl; gone = refl }; timely = refl }

pub listening-valid : Valid listening closed_by_us guest
listening-valid =
    all-valid listening closed_by_us guest (opening (answered ∷ [])) (omega arith) (omega arith, tt) listening-computes
    (refl, (tt, (tt, (tt, (tt, (tt, tt))))))
    (tt, (tt, (tt, (tt, (omega arith, (tt, tt))))))
    (omega arith, (omega arith, (omega arith, (omega arith, (omega arith, (omega arith, tt))))))
    (record { joined = refl; frames = opening-spelled (answered ∷ []) (answered-spells, omega arith, tt) })
    (take 5 closed_by_us, _, refl, λ none. cc)

-- the same in other pieces
in_pieces-computes : Computes client in_pieces guest (opening (answered ∷ []))
unfolding front framed sized ended content method_payload connection_arguments_at channel_arguments_at start_at tune_at short_string_at long_string_at scalar_at row_at pair_with table_with value_at table_at
in_pieces-computes = record { answers = refl; limit = refl; served = record { server = _; said = refl; gone = refl }; timely = refl }

pub in_pieces-valid : Valid client in_pieces guest
in_pieces-valid =
    all-valid client in_pieces guest (opening (answered ∷ [])) (omega arith) guest-sayable in_pieces-computes
    (refl, (tt, (tt, (tt, (tt, (tt, (tt, tt)))))))
    (tt, (tt, (tt, (tt, (tt, (omega arith, (tt, tt)))))))
    (omega arith, (omega arith, (omega arith, (omega arith, (omega arith, (omega arith, (omega arith, tt)))))))
    (record { joined = refl; frames = opening-spelled (answered ∷ []) (answered-spells, omega arith, tt) })
    (take 6 in_pieces, _, refl, λ none. cc)

-- closed by the server
closed_by_them-computes : Computes client closed_by_them guest (opening (heartbeat ∷ closed ∷ []))
unfolding front framed sized ended content method_payload connection_arguments_at channel_arguments_at start_at tune_at close_at short_string_at long_string_at scalar_at row_at pair_with table_with value_at table_at
closed_by_them-computes = record { answers = refl; limit = refl; served = record { server = _; said = refl; gone = refl }; timely = refl }

pub closed_by_them-valid : Valid client closed_by_them guest
closed_by_them-valid =
    all-valid client closed_by_them guest (opening (heartbeat ∷ closed ∷ [])) (omega arith) guest-sayable closed_by_them-computes
    (refl, (tt, (tt, (tt, (tt, tt)))))
    (tt, (tt, (tt, (tt, (tt, tt)))))
    (omega arith, (omega arith, (omega arith, (omega arith, (omega arith, tt)))))
    (record { joined = refl; frames = opening-spelled (heartbeat ∷ closed ∷ []) (heartbeat-spells, omega arith, (closed-spells, omega arith, tt)) })
    (take 4 closed_by_them, _, refl, λ none. cc)

-- blocked for a while
blocked_a_while-computes : Computes client blocked_a_while guest (opening (blocked ∷ unblocked ∷ answered ∷ []))
unfolding front framed sized ended content method_payload connection_arguments_at channel_arguments_at start_at tune_at short_string_at long_string_at scalar_at row_at pair_with table_with value_at table_at
blocked_a_while-computes = record { answers = refl; limit = refl; served = record { server = _; said = refl; gone = refl }; timely = refl }

pub blocked_a_while-valid : Valid client blocked_a_while guest
blocked_a_while-valid =
    all-valid client blocked_a_while guest (opening (blocked ∷ unblocked ∷ answered ∷ [])) (omega arith) guest-sayable blocked_a_while-computes
    (refl, (tt, (tt, (tt, (tt, (tt, (tt, (tt, (tt, tt)))))))))
    (tt, (tt, (tt, (tt, (tt, (omega arith, (tt, (tt, (tt, tt)))))))))
    (omega arith, (omega arith, (omega arith, (omega arith, (omega arith, (omega arith, (omega arith, (omega arith, (omega arith, tt)))))))))
    (record { joined = refl; frames = opening-spelled (blocked ∷ unblocked ∷ answered ∷ []) (blocked-spells, omega arith, (unblocked-spells, omega arith, (answered-spells, omega arith, tt))) })
    (take 8 blocked_a_while, _, refl, λ none. cc)

-- silent for as long as it may be
heard_in_time-computes : Computes client heard_in_time guest (opening (answered ∷ []))
unfolding front framed sized ended content method_payload connection_arguments_at channel_arguments_at start_at tune_at short_string_at long_string_at scalar_at row_at pair_with table_with value_at table_at
heard_in_time-computes = record { answers = refl; limit = refl; served = record { server = _; said = refl; gone = refl }; timely = refl }

pub heard_in_time-valid : Valid client heard_in_time guest
heard_in_time-valid =
    all-valid client heard_in_time guest (opening (answered ∷ [])) (omega arith) guest-sayable heard_in_time-computes
    (refl, (tt, (tt, (tt, (tt, (tt, (tt, tt)))))))
    (tt, (tt, (tt, (tt, (tt, (omega arith, (tt, tt)))))))
    (omega arith, (omega arith, (omega arith, (omega arith, (omega arith, (omega arith, (omega arith, tt)))))))
    (record { joined = refl; frames = opening-spelled (answered ∷ []) (answered-spells, omega arith, tt) })
    (take 6 heard_in_time, _, refl, λ none. cc)

-- messages go both ways on a channel
messages_pass-computes : Computes client messages_pass guest (opening (channel_opened ∷ delivering ∷ header_comes ∷ body_comes ∷ channel_answered ∷ answered ∷ []))
unfolding front framed sized ended content method_payload connection_arguments_at channel_arguments_at start_at tune_at short_string_at long_string_at scalar_at row_at pair_with table_with value_at table_at
messages_pass-computes = record { answers = refl; limit = refl; served = record { server = _; said = refl; gone = refl }; timely = refl }

pub messages_pass-valid : Valid client messages_pass guest
messages_pass-valid =
    all-valid client messages_pass guest (opening (channel_opened ∷ delivering ∷ header_comes ∷ body_comes ∷ channel_answered ∷ answered ∷ [])) (omega arith) guest-sayable messages_pass-computes
    (refl, (tt, (tt, (tt, (tt, (tt, (tt, (tt, (tt, (tt, (tt, (tt, (tt, (tt, tt))))))))))))))
    (tt, (tt, (tt, (tt, (tt, (tt, (tt, (tt, (tt, (tt, (omega arith, (tt, (omega arith, (tt, tt))))))))))))))
    (omega arith, (omega arith, (omega arith, (omega arith, (omega arith, (omega arith, (omega arith, (omega arith, (omega arith, (omega arith, (omega arith, (omega arith, (omega arith, (omega arith, tt))))))))))))))
    (record { joined = refl; frames = opening-spelled (channel_opened ∷ delivering ∷ header_comes ∷ body_comes ∷ channel_answered ∷ answered ∷ []) (channel-opened-spells, omega arith, (delivering-spells, omega arith, (header-comes-spells, omega arith, (body-comes-spells, omega arith, (channel-answered-spells, omega arith, (answered-spells, omega arith, tt)))))) })
    (take 13 messages_pass, _, refl, λ none. cc)

-- the token is told anew
token_renewed-computes : Computes client token_renewed renewed (opening (secret_taken ∷ answered ∷ []))
unfolding front framed sized ended content method_payload connection_arguments_at channel_arguments_at start_at tune_at short_string_at long_string_at scalar_at row_at pair_with table_with value_at table_at
token_renewed-computes = record { answers = refl; limit = refl; served = record { server = _; said = refl; gone = refl }; timely = refl }

pub token_renewed-valid : Valid client token_renewed renewed
token_renewed-valid =
    all-valid client token_renewed renewed (opening (secret_taken ∷ answered ∷ [])) (omega arith) renewed-sayable token_renewed-computes
    (refl, (tt, (tt, (tt, (tt, (tt, (tt, (tt, (tt, tt)))))))))
    (tt, (tt, (tt, (tt, (tt, (tt, (tt, (omega arith, (tt, tt)))))))))
    (omega arith, (omega arith, (omega arith, (omega arith, (omega arith, (omega arith, (omega arith, (omega arith, (omega arith, tt)))))))))
    (record { joined = refl; frames = opening-spelled (secret_taken ∷ answered ∷ []) (secret-taken-spells, omega arith, (answered-spells, omega arith, tt)) })
    (take 8 token_renewed, _, refl, λ none. cc)

-- ---- a script in which the server is silent for too long

missed-late : are_timely client [] (replayed client missed guest) ≡ false
unfolding front framed sized ended content method_payload connection_arguments_at channel_arguments_at start_at tune_at short_string_at long_string_at scalar_at row_at pair_with table_with value_at table_at
missed-late = refl

pub missed-not-timely : IsTimely client (replayed client missed guest) → ⊥
missed-not-timely is =
    true≢false (sym (each-timely client (replayed client missed guest) is [] (replayed client missed guest) refl) ∙ missed-late)

-- ---- a script in which the server tunes before we logged in

at-once-spelled : AreFrames 131072 (all_bytes tunes_at_once) (opening (answered ∷ []))
at-once-spelled = record { joined = refl; frames = opening-spelled (answered ∷ []) (answered-spells, omega arith, tt) }

at-once-not-served : after_sayings (sayings_of tunes_at_once (sent_by_turns (replayed client tunes_at_once guest) (begin client) []) 0 (opening (answered ∷ []))) (Some silent) ≡ None
unfolding front framed sized ended content method_payload connection_arguments_at channel_arguments_at start_at tune_at short_string_at long_string_at scalar_at row_at pair_with table_with value_at table_at
at-once-not-served = refl

pub at-once-not-valid : Valid client tunes_at_once guest → ⊥
at-once-not-valid valid =
    let same : valid.faultless.spelled ≡ opening (answered ∷ []) =
    one-reading 4096 4096 _ 131072 valid.faultless.spelled (opening (answered ∷ [])) valid.faultless.frames.frames at-once-spelled.frames (sym valid.faultless.frames.joined ∙ at-once-spelled.joined) in
    let P : List SpelledFrame → Type 0 = λ xs. IsServed (sayings_of tunes_at_once (sent_by_turns (replayed client tunes_at_once guest) (begin client) []) 0 xs) in
    not-served _ at-once-not-served (subst P same valid.faultless.served)

-- ---- a script in which closes of a channel cross

-- its frames
abbrev crossing : List SpelledFrame
crossing = opening (channel_opened ∷ channel_closed ∷ answered ∷ [])

crossing-spelled : AreFrames 131072 (all_bytes closes_cross) crossing
crossing-spelled =
    record {
      joined = refl;
      frames =
          opening-spelled (channel_opened ∷ channel_closed ∷ answered ∷ [])
          (channel-opened-spells, omega arith, (channel-closed-spells, omega arith, (answered-spells, omega arith, tt)));
    }

crossing-not-served : after_sayings (sayings_of closes_cross (sent_by_turns (replayed client closes_cross guest) (begin client) []) 0 crossing) (Some silent) ≡ None
unfolding front framed sized ended content method_payload connection_arguments_at channel_arguments_at start_at tune_at close_at channel_close_at short_string_at long_string_at scalar_at row_at pair_with table_with value_at table_at
crossing-not-served = refl

pub crossing-not-valid : Valid client closes_cross guest → ⊥
crossing-not-valid valid =
    let same : valid.faultless.spelled ≡ crossing =
    one-reading 4096 4096 _ 131072 valid.faultless.spelled crossing valid.faultless.frames.frames crossing-spelled.frames (sym valid.faultless.frames.joined ∙ crossing-spelled.joined) in
    let P : List SpelledFrame → Type 0 = λ xs. IsServed (sayings_of closes_cross (sent_by_turns (replayed client closes_cross guest) (begin client) []) 0 xs) in
    not-served _ crossing-not-served (subst P same valid.faultless.served)

-- ---- what comes last

-- the last step
abbrev last_step : List Given → Option Given
last_step [] = None
last_step (g ∷ []) = Some g
last_step (g ∷ h ∷ gs) = last_step (h ∷ gs)

last-is : (before : List Given) (last : Given) → last_step (before ++ last ∷ []) ≡ Some last
last-is [] last = refl
last-is (g ∷ []) last = refl
last-is (g ∷ h ∷ gs) last = last-is (h ∷ gs) last

pub a-command-last : EndsWithBytes (steps_at 0 (given.Link None ∷ comes (heartbeat ∷ []) ++ shut ∷ [])) → ⊥
a-command-last ends =
    let command : Given = record { at = 0; what = shut } in
    let both : Some command ≡ Some ends.1 = ap last_step ends.2 ∙ last-is ends.0 ends.1 in
    let same : command ≡ ends.1 = cc in
    ends.3 (ap (λ (g : Given). bytes_of g.what) (sym same))

pub nothing-last : EndsWithBytes [] → ⊥
nothing-last ends = let none : None ≡ Some ends.1 = ap last_step ends.2 ∙ last-is ends.0 ends.1 in cc
