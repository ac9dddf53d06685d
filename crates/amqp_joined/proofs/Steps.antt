-- Each step is told by its rule, and each write is answered by its own.
use Rattle.std.proofs.Common.{◌≡◌, ◌≤◌, ◌<◌, ◌∙◌, ap, sym, refl, subst, ℕ, zero, suc, ◌+◌, ◌-◌, ◌&&◌, ◌==◌, not, min, Bool, true, false, true≢false, if◌then◌else◌, List, [], ◌∷◌, ◌++◌, length, map, take, drop, Option, Some, None, is_some, arith, append_assoc, length-append, length-drop}
use Rattle.std.specs.Prelude.{slice_index, nat_lt, vec_capacity}
use Rattle.std.specs.List.{AllByRecursion}
use Rattle.std.proofs.Math.Nat.{mod-lt}
use Rattle.std.proofs.lemmas.List.{drop-append-le}
use Rattle.amqp_types.proofs.Small.{and-left, and-right, from-not-true, if-true, if-false, if_case}
use Rattle.amqp_frame.proofs.FrontStays.{front-none}
use Rattle.amqp_legal.proofs.TakenIsLegal.{sound}
use Rattle.amqp_commands.specs.declared.command.Cmd.{Cmd}
use Rattle.amqp_settings.specs.declared.configuration.Configuration.{Configuration}
use Rattle.amqp_engine.specs.declared.port.Step.{Step}
use Rattle.amqp_engine.specs.declared.port.Step.TheVariants.{Linked, Piece, Room, Tick, Command}
use Rattle.amqp_engine.specs.declared.port.Wrote.{Wrote}
use Rattle.amqp_engine.specs.declared.port.Wrote.TheVariants.{Took, Failed, NoMemory}
use Rattle.amqp_engine.specs.declared.port.Happening.{Happening}
use Rattle.amqp_engine.specs.declared.port.Write.{Write}
use Rattle.amqp_engine.specs.Plan.{Coming, at_most_64}
use Rattle.amqp_engine.specs.Log.{on_last}
use Rattle.amqp_double.specs.Doubles.{DoubleState, greatest_limit, fresh, AnswersClient}
use Rattle.amqp_joined.specs.declared.inside.Inside.{Inside}
use Rattle.amqp_joined.specs.declared.marks.Mark.{Mark}
use Rattle.amqp_joined.specs.declared.marks.Marked.TheVariants as marked
use Rattle.amqp_joining.specs.Plans.{IsPlan, join_plan_of}
use Rattle.amqp_joining.specs.Joining.{Join, comes, next_cut, next_command, next_step, after_join_step, place_after, output, roomier, sent_on, commanded, JoinWrites}
use Rattle.amqp_joined.specs.Ports.{KeptPlan, last_close, command_at, marked_happening, kept_plan}
use Rattle.amqp_joined.specs.Insides.{join_of, joined_state_of, output_of, IsToldMark, place_where, AreLast, IsLastClose, Holds, TellsByRule, WritesByRule, Feeds, OnlyRoomier}
use Rattle.amqp_joining.proofs.Lists.{all-push, all-at}
use Rattle.amqp_joined.proofs.Marking.{behind-front, behind-all, place-most, marks-stay, still-marked, told-more, same-log}

-- ---- there are places

abbrev pub wants : Inside → Bool
wants p = p.asked && not p.linked

pub place_linked : (p : Inside) → Holds p → wants p ≡ true → length p.marks.items < vec_capacity p.marks
place_linked p h wanted =
    let one : place_where (not p.linked) ≡ 1 = ap place_where (and-right p.asked (not p.linked) wanted) in
    omega (arith, h.places, one)

pub place_short : (p : Inside) → Holds p → p.short ≡ true → length p.marks.items < vec_capacity p.marks
place_short p h short = let one : place_where p.short ≡ 1 = ap place_where short in omega (arith, h.places, one)

pub some-output : (p : Inside) → (length (output_of p) == 0) ≡ false → 1 ≤ length (output_of p)
some-output p some = by (length (output_of p)) some
  where
    by : (n : ℕ) → (n == 0) ≡ false → 1 ≤ n
    by zero none = absurd (true≢false none)
    by (suc n) some = omega arith

pub place_piece : (p : Inside) → Holds p → (length (output_of p) == 0) ≡ false → length p.marks.items < vec_capacity p.marks
place_piece p h some = omega (arith, h.places, some-output p some)

pub place_command : (p : Inside) (c : Cmd) (rest : List Cmd) → Holds p → p.commands.items ≡ c ∷ rest → length p.marks.items < vec_capacity p.marks
place_command p c rest h is = let some : length p.commands.items ≡ length (c ∷ rest) = ap length is in omega (arith, h.places, some)

pub place_close : (p : Inside) (c : Cmd) → Holds p → p.close ≡ Some c → length p.marks.items < vec_capacity p.marks
place_close p c h is = let one : place_where (is_some p.close) ≡ 1 = ap (λ (o : Option Cmd). place_where (is_some o)) is in omega (arith, h.places, one)

-- ---- the plan

next-place : (xs : List ℕ) (at : ℕ) → at < length xs → place_after xs at < length xs
next-place xs at within = mod-lt (at + 1) (omega (arith, within))

pub cut_most : (p : Inside) → Holds p → slice_index p.plan.cuts.numbers p.cut_at ≤ 4096
cut_most p h = (all-at (λ (n : ℕ). (1 ≤ n) × (n ≤ 4096)) p.plan.cuts.numbers p.cut_at h.plan.cuts h.cut).1

cut-some : (p : Inside) → Holds p → 1 ≤ slice_index p.plan.cuts.numbers p.cut_at
cut-some p h = (all-at (λ (n : ℕ). (1 ≤ n) × (n ≤ 4096)) p.plan.cuts.numbers p.cut_at h.plan.cuts h.cut).0

-- ---- the beginning

-- a double that heard nothing
fresh-answers : (numbers : Configuration) → AnswersClient (fresh numbers)
fresh-answers numbers = ([], record { stand = refl; legal = sound [] refl; count = refl; said = refl; sent = omega arith; closed = refl }, front-none greatest_limit)

-- nothing was told and nothing taken
pub begins : (p : Inside) → IsPlan (join_plan_of p.plan) → length p.plan.commands.items + 2 ≤ vec_capacity p.marks → p.marks.items ≡ [] → p.commands.items ≡ p.plan.commands.items
    → p.close ≡ Some last_close → p.double ≡ fresh p.double.numbers → p.cut_at ≡ 0 → p.room_at ≡ 0 → p.linked ≡ false → p.short ≡ false → p.link_at ≡ 0
    → Holds p
begins p plan places marks commands close double cut room linked short at = record {
  plan = plan;
  cut = omega (arith, cut, some-length p.plan.cuts.numbers plan.some_cuts);
  room = omega (arith, room, some-length p.plan.rooms.numbers plan.some_rooms);
  left = record { given = []; all_are = sym commands };
  close = subst IsLastClose (sym close) refl;
  marked = subst (AllByRecursion (λ (x : Mark). IsToldMark p.double.sent x.what)) (sym marks) tt;
  answers = subst AnswersClient (sym double) (fresh-answers p.double.numbers);
  begins = omega (arith, at);
  places = omega (arith, places, ap length marks, ap length commands, ap (λ (b : Bool). place_where (not b)) linked, ap place_where short, ap (λ (o : Option Cmd). place_where (is_some o)) close, quiet);
}
  where
    some-length : (xs : List ℕ) → (xs ≡ [] → ⊥) → 0 < length xs
    some-length [] some = absurd (some refl)
    some-length (x ∷ xs) some = omega arith

    quiet : length (drop p.double.sent p.double.said) ≡ 0
    quiet = ap (λ (d : DoubleState). length (drop d.sent d.said)) double

-- ---- the link

pub tells_linked : (old new : Inside) → Holds old → wants old ≡ true
    → new ≡ record old {
      marks = new.marks;
      told = at_most_64 (old.told + 1);
      asked = false;
      linked = true;
      link_at = length old.taken.items;
      room = at_most_64 (old.room + slice_index old.plan.rooms.numbers old.room_at);
      room_at = place_after old.plan.rooms.numbers old.room_at;
      short = false;
    }
    → new.marks.items ≡ old.marks.items ++ record { before = old.told; what = marked.Linked } ∷ [] → vec_capacity new.marks ≡ vec_capacity old.marks → TellsByRule Linked [] old new
tells_linked old new h wanted same items capacity = subst (λ (x : Inside). TellsByRule Linked [] old x) (sym same) (record {
  holds = record {
    plan = h.plan;
    cut = h.cut;
    room = next-place old.plan.rooms.numbers old.room_at h.room;
    left = h.left;
    close = h.close;
    marked = subst (AllByRecursion (λ (x : Mark). IsToldMark old.double.sent x.what)) (sym items) (all-push (λ (x : Mark). IsToldMark old.double.sent x.what) old.marks.items m h.marked tt);
    answers = h.answers;
    begins = omega arith;
    places = omega (arith, h.places, ap length items, length-append old.marks.items (m ∷ []), capacity, ap place_where unlinked);
  };
  rule = record {
    told = if-true (wants old) (comes Linked []) (other j) wanted;
    then_so = sym (if-true (wants old) (roomier (record j { linked = true })) (otherwise j) wanted);
  };
  log = same-log _ _ (told-more old.plan.commands.items old.double.said old.marks.items new.marks.items m items) refl refl refl links refl refl refl;
})
  where
    m : Mark
    m = record { before = old.told; what = marked.Linked }

    j : Join
    j = join_of old

    unlinked : not old.linked ≡ true
    unlinked = and-right old.asked (not old.linked) wanted

    other : Join → Coming
    other j =
        if j.short then comes Room [] else
        if not (length (output j) == 0) then comes (Piece (next_cut j)) (take (next_cut j) (output j)) else
        next_command j.commands j.closing

    otherwise : Join → Join
    otherwise j = if j.short then roomier j else if not (length (output j) == 0) then sent_on j else commanded j.commands j

    before : List (List ℕ)
    before = if old.linked then drop old.link_at old.taken.items ∷ [] else []

    all-dropped : (xs : List ℕ) → drop (length xs) xs ≡ []
    all-dropped [] = refl
    all-dropped (x ∷ xs) = all-dropped xs

    links : drop (length old.taken.items) old.taken.items ∷ [] ≡ (if old.asked then before ++ [] ∷ [] else before)
    links =
        ap (λ (xs : List ℕ). xs ∷ []) (all-dropped old.taken.items)
        ∙ sym (if-true old.asked (before ++ [] ∷ []) before (and-left old.asked (not old.linked) wanted)
        ∙ ap (λ (xs : List (List ℕ)). xs ++ [] ∷ []) (if-false old.linked (drop old.link_at old.taken.items ∷ []) [] (from-not-true old.linked unlinked)))

-- ---- more room

module _ (old : Inside) where
  abbrev piece-or-command : Coming
  piece-or-command =
      let j = join_of old in
      if not (length (output j) == 0) then comes (Piece (next_cut j)) (take (next_cut j) (output j)) else next_command j.commands j.closing

  abbrev then-piece-or-command : Join
  then-piece-or-command = let j = join_of old in if not (length (output j) == 0) then sent_on j else commanded j.commands j

  -- no link is told
  later-step : wants old ≡ false → next_step old.asked (join_of old) ≡ (if old.short then comes Room [] else piece-or-command)
  later-step unasked = if-false (wants old) (comes Linked []) (if old.short then comes Room [] else piece-or-command) unasked

  later-join : wants old ≡ false → after_join_step old.asked (join_of old) ≡ (if old.short then roomier (join_of old) else then-piece-or-command)
  later-join unasked = if-false (wants old) (roomier (record (join_of old) { linked = true })) (if old.short then roomier (join_of old) else then-piece-or-command) unasked

  -- and no room
  quiet-step : wants old ≡ false → old.short ≡ false → next_step old.asked (join_of old) ≡ piece-or-command
  quiet-step unasked long = later-step unasked ∙ if-false old.short (comes Room []) piece-or-command long

  quiet-join : wants old ≡ false → old.short ≡ false → after_join_step old.asked (join_of old) ≡ then-piece-or-command
  quiet-join unasked long = later-join unasked ∙ if-false old.short (roomier (join_of old)) then-piece-or-command long

  -- and no piece
  idle : (length (output_of old) == 0) ≡ true → not (length (output_of old) == 0) ≡ false
  idle none = ap not none

  idle-step : wants old ≡ false → old.short ≡ false → (length (output_of old) == 0) ≡ true → next_step old.asked (join_of old) ≡ next_command old.commands.items (not (is_some old.close))
  idle-step unasked long none =
      quiet-step unasked long
      ∙ if-false (not (length (output_of old) == 0)) (comes (Piece (next_cut (join_of old))) (take (next_cut (join_of old)) (output_of old)))
      (next_command old.commands.items (not (is_some old.close))) (idle none)

  idle-join : wants old ≡ false → old.short ≡ false → (length (output_of old) == 0) ≡ true → after_join_step old.asked (join_of old) ≡ commanded old.commands.items (join_of old)
  idle-join unasked long none =
      quiet-join unasked long
      ∙ if-false (not (length (output_of old) == 0)) (sent_on (join_of old)) (commanded old.commands.items (join_of old)) (idle none)

pub tells_room : (old new : Inside) → Holds old → wants old ≡ false → old.short ≡ true
    → new ≡ record old {
      marks = new.marks;
      told = at_most_64 (old.told + 1);
      room = at_most_64 (old.room + slice_index old.plan.rooms.numbers old.room_at);
      room_at = place_after old.plan.rooms.numbers old.room_at;
      short = false;
    }
    → new.marks.items ≡ old.marks.items ++ record { before = old.told; what = marked.Room } ∷ [] → vec_capacity new.marks ≡ vec_capacity old.marks → TellsByRule Room [] old new
tells_room old new h unasked short same items capacity = subst (λ (x : Inside). TellsByRule Room [] old x) (sym same) (record {
  holds = record {
    plan = h.plan;
    cut = h.cut;
    room = next-place old.plan.rooms.numbers old.room_at h.room;
    left = h.left;
    close = h.close;
    marked = subst (AllByRecursion (λ (x : Mark). IsToldMark old.double.sent x.what)) (sym items) (all-push (λ (x : Mark). IsToldMark old.double.sent x.what) old.marks.items m h.marked tt);
    answers = h.answers;
    begins = h.begins;
    places = omega (arith, h.places, ap length items, length-append old.marks.items (m ∷ []), capacity, ap place_where short);
  };
  rule = record {
    told = later-step old unasked ∙ if-true old.short (comes Room []) (piece-or-command old) short;
    then_so = sym (later-join old unasked ∙ if-true old.short (roomier (join_of old)) (then-piece-or-command old) short);
  };
  log = same-log _ _ (told-more old.plan.commands.items old.double.said old.marks.items new.marks.items m items) refl refl refl refl refl refl refl;
})
  where
    m : Mark
    m = record { before = old.told; what = marked.Room }

-- ---- a piece

told-on : (d : DoubleState) (n : ℕ) → n ≤ length (drop d.sent d.said) → AnswersClient d → AnswersClient (record d { sent = d.sent + n })
told-on d n within (frames, a, stops) = (
  frames,
  record {
    stand = a.stand;
    legal = a.legal;
    count = a.count;
    said = a.said;
    sent = omega (arith, within, a.sent, length-drop d.sent d.said);
    closed = a.closed;
  },
  stops,
)

least : (a b : ℕ) → 1 ≤ a → 1 ≤ b → 1 ≤ min a b
least a b ha hb = omega (arith, ha, hb)

most-left : (a b : ℕ) → min a b ≤ a
most-left a b = omega arith

pub tells_piece : (old new : Inside) (octets : List ℕ) → Holds old → wants old ≡ false → old.short ≡ false → (length (output_of old) == 0) ≡ false
    → new ≡ record old {
      double = record old.double { sent = old.double.sent + next_cut (join_of old) };
      cut_at = place_after old.plan.cuts.numbers old.cut_at;
      marks = new.marks;
      told = at_most_64 (old.told + 1);
    }
    → octets ≡ take (next_cut (join_of old)) (output_of old)
    → new.marks.items ≡ old.marks.items ++ record { before = old.told; what = marked.Piece old.double.sent (next_cut (join_of old)) } ∷ [] → vec_capacity new.marks ≡ vec_capacity old.marks
    → TellsByRule (Piece (next_cut (join_of old))) octets old new
tells_piece old new octets h unasked long some same are items capacity = subst (λ (x : Inside). TellsByRule (Piece n) octets old x) (sym same) (record {
  holds = record {
    plan = h.plan;
    cut = next-place old.plan.cuts.numbers old.cut_at h.cut;
    room = h.room;
    left = h.left;
    close = h.close;
    marked = subst (AllByRecursion (λ (x : Mark). IsToldMark (old.double.sent + n) x.what)) (sym items)
        (all-push (λ (x : Mark). IsToldMark (old.double.sent + n) x.what) old.marks.items m (still-marked old.double.sent n old.marks.items h.marked) (omega arith));
    answers = told-on old.double n fewer h.answers;
    begins = h.begins;
    places = omega (arith, h.places, ap length items, length-append old.marks.items (m ∷ []), capacity, fewer, one, length-drop old.double.sent old.double.said, length-drop (old.double.sent + n) old.double.said);
  };
  rule = record {
    told =
        quiet-step old unasked long
        ∙ if-true (not (length (output_of old) == 0)) (comes (Piece n) (take n (output_of old))) (next_command old.commands.items (not (is_some old.close))) (ap not some)
        ∙ ap (comes (Piece n)) (sym are);
    then_so = sym (quiet-join old unasked long ∙ if-true (not (length (output_of old) == 0)) (sent_on (join_of old)) (commanded old.commands.items (join_of old)) (ap not some));
  };
  log = same-log _ _ (told-more old.plan.commands.items old.double.said old.marks.items new.marks.items m items ∙ ap bring (sym are)) refl refl refl refl refl refl refl;
})
  where
    n : ℕ
    n = next_cut (join_of old)

    m : Mark
    m = record { before = old.told; what = marked.Piece old.double.sent n }

    fewer : n ≤ length (output_of old)
    fewer = most-left (length (output_of old)) (slice_index old.plan.cuts.numbers old.cut_at)

    one : 1 ≤ n
    one = least (length (output_of old)) (slice_index old.plan.cuts.numbers old.cut_at) (some-output old some) (cut-some old h)

    bring : List ℕ → List Happening
    bring xs = map (marked_happening old.plan.commands.items old.double.said) old.marks.items ++ record { before = old.told; at = 0; step = Piece n; bytes = xs } ∷ []

-- ---- a command

given-one-more : (left all rest : List Cmd) (c : Cmd) → left ≡ c ∷ rest → AreLast left all → AreLast rest all
given-one-more left all rest c is last = record {
  given = last.given ++ c ∷ [];
  all_are = last.all_are ∙ ap (λ (xs : List Cmd). last.given ++ xs) is ∙ sym (append_assoc last.given (c ∷ []) rest);
}

numbered-command : (left all rest : List Cmd) (c : Cmd) → left ≡ c ∷ rest → AreLast left all → command_at all (length all - length left) ≡ c
numbered-command left all rest c is last =
    let whole : all ≡ last.given ++ c ∷ rest = last.all_are ∙ ap (λ (xs : List Cmd). last.given ++ xs) is in
    let place : length all - length left ≡ length last.given = omega (arith, ap length last.all_are, length-append last.given left) in
    ap (λ (n : ℕ). command_at all n) place ∙ ap (λ (xs : List Cmd). command_at xs (length last.given)) whole ∙ behind-front last.given rest c last_close

pub tells_command : (old new : Inside) (c : Cmd) (rest : List Cmd) → Holds old → wants old ≡ false → old.short ≡ false → (length (output_of old) == 0) ≡ true → old.commands.items ≡ c ∷ rest
    → new ≡ record old { commands = new.commands; marks = new.marks; told = at_most_64 (old.told + 1) } → new.commands.items ≡ rest
    → new.marks.items ≡ old.marks.items ++ record { before = old.told; what = marked.Command (length old.plan.commands.items - length old.commands.items) } ∷ []
    → vec_capacity new.marks ≡ vec_capacity old.marks → TellsByRule (Command c) [] old new
tells_command old new c rest h unasked long none is same left items capacity = subst (λ (x : Inside). TellsByRule (Command c) [] old x) (sym same) (record {
  holds = record {
    plan = h.plan;
    cut = h.cut;
    room = h.room;
    left = subst (λ (xs : List Cmd). AreLast xs old.plan.commands.items) (sym left) (given-one-more old.commands.items old.plan.commands.items rest c is h.left);
    close = h.close;
    marked = subst (AllByRecursion (λ (x : Mark). IsToldMark old.double.sent x.what)) (sym items) (all-push (λ (x : Mark). IsToldMark old.double.sent x.what) old.marks.items m h.marked tt);
    answers = h.answers;
    begins = h.begins;
    places = omega (arith, h.places, ap length items, length-append old.marks.items (m ∷ []), capacity, ap length is, ap length left);
  };
  rule = record {
    told = idle-step old unasked long none ∙ ap (λ (cs : List Cmd). next_command cs (not (is_some old.close))) is;
    then_so = sym (idle-join old unasked long none ∙ ap (λ (cs : List Cmd). commanded cs (join_of old)) is ∙ ap (λ (cs : List Cmd). record (join_of old) { commands = cs }) (sym left));
  };
  log = same-log _ _ (told-more old.plan.commands.items old.double.said old.marks.items new.marks.items m items
      ∙ ap bring (numbered-command old.commands.items old.plan.commands.items rest c is h.left)) refl refl refl refl refl refl refl;
})
  where
    m : Mark
    m = record { before = old.told; what = marked.Command (length old.plan.commands.items - length old.commands.items) }

    bring : Cmd → List Happening
    bring x = map (marked_happening old.plan.commands.items old.double.said) old.marks.items ++ record { before = old.told; at = 0; step = Command x; bytes = [] } ∷ []

pub tells_close : (old new : Inside) (c : Cmd) → Holds old → wants old ≡ false → old.short ≡ false → (length (output_of old) == 0) ≡ true → old.commands.items ≡ [] → old.close ≡ Some c
    → new ≡ record old { close = None; marks = new.marks; told = at_most_64 (old.told + 1) }
    → new.marks.items ≡ old.marks.items ++ record { before = old.told; what = marked.Command (length old.plan.commands.items) } ∷ [] → vec_capacity new.marks ≡ vec_capacity old.marks
    → TellsByRule (Command c) [] old new
tells_close old new c h unasked long none given is same items capacity = subst (λ (x : Inside). TellsByRule (Command c) [] old x) (sym same) (record {
  holds = record {
    plan = h.plan;
    cut = h.cut;
    room = h.room;
    left = h.left;
    close = tt;
    marked = subst (AllByRecursion (λ (x : Mark). IsToldMark old.double.sent x.what)) (sym items) (all-push (λ (x : Mark). IsToldMark old.double.sent x.what) old.marks.items m h.marked tt);
    answers = h.answers;
    begins = h.begins;
    places = omega (arith, h.places, ap length items, length-append old.marks.items (m ∷ []), capacity, ap (λ (o : Option Cmd). place_where (is_some o)) is);
  };
  rule = record {
    told =
        idle-step old unasked long none ∙ ap (λ (cs : List Cmd). next_command cs (not (is_some old.close))) given
        ∙ ap (λ (o : Option Cmd). next_command [] (not (is_some o))) is ∙ ap (λ (x : Cmd). comes (Command x) []) (sym last);
    then_so = sym (idle-join old unasked long none ∙ ap (λ (cs : List Cmd). commanded cs (join_of old)) given);
  };
  log = same-log _ _ (told-more old.plan.commands.items old.double.said old.marks.items new.marks.items m items
      ∙ ap bring (behind-all old.plan.commands.items last_close ∙ sym last)) refl refl refl refl refl refl refl;
})
  where
    m : Mark
    m = record { before = old.told; what = marked.Command (length old.plan.commands.items) }

    last : c ≡ last_close
    last = subst IsLastClose is h.close

    bring : Cmd → List Happening
    bring x = map (marked_happening old.plan.commands.items old.double.said) old.marks.items ++ record { before = old.told; at = 0; step = Command x; bytes = [] } ∷ []

pub tells_tick : (old new : Inside) → Holds old → wants old ≡ false → old.short ≡ false → (length (output_of old) == 0) ≡ true → old.commands.items ≡ [] → old.close ≡ None
    → new ≡ record old { close = None; told = at_most_64 (old.told + 1) } → TellsByRule Tick [] old new
tells_tick old new h unasked long none given is same = subst (λ (x : Inside). TellsByRule Tick [] old x) (sym same) (record {
  holds = record {
    plan = h.plan;
    cut = h.cut;
    room = h.room;
    left = h.left;
    close = tt;
    marked = h.marked;
    answers = h.answers;
    begins = h.begins;
    places = omega (arith, h.places);
  };
  rule = record {
    told =
        idle-step old unasked long none ∙ ap (λ (cs : List Cmd). next_command cs (not (is_some old.close))) given
        ∙ ap (λ (o : Option Cmd). next_command [] (not (is_some o))) is;
    then_so = sym (idle-join old unasked long none ∙ ap (λ (cs : List Cmd). commanded cs (join_of old)) given);
  };
  log = refl;
})

-- ---- a write

pub within-said : (p : Inside) → Holds p → p.double.sent ≤ length p.double.said
within-said p h = h.answers.1.sent

link-more : (linked : Bool) (at : ℕ) (taken more : List ℕ) → at ≤ length taken
    → (if linked then drop at (taken ++ more) ∷ [] else []) ≡ on_last (λ (link : List ℕ). link ++ more) (if linked then drop at taken ∷ [] else [])
link-more true at taken more within = ap (λ (xs : List ℕ). xs ∷ []) (drop-append-le at taken more within)
link-more false at taken more within = refl

pub writes_took : (old mid new : Inside) (all : List ℕ) (k : ℕ) → Holds old → k ≡ min old.room (length all) → Feeds (take k all) old mid
    → new ≡ record mid { room = mid.room - k; short = nat_lt k (length all); writes = new.writes }
    → new.writes.items ≡ mid.writes.items ++ record { before = mid.told; offered = length all; answer = Took k } ∷ [] → WritesByRule all (Took k) old new
writes_took old mid new all k h is f same items = subst (λ (x : Inside). WritesByRule all (Took k) old x) (sym whole) (record {
  holds = record {
    plan = h.plan;
    cut = h.cut;
    room = h.room;
    left = h.left;
    close = h.close;
    marked = subst (AllByRecursion (λ (x : Mark). IsToldMark mid.double.sent x.what)) (sym f.marks)
        (subst (λ (n : ℕ). AllByRecursion (λ (x : Mark). IsToldMark n x.what) old.marks.items) (sym f.fed.sent) h.marked);
    answers = f.fed.answers;
    begins = omega (arith, h.begins, ap length f.taken, length-append old.taken.items (take k all));
    places = omega (arith, f.places, ap length f.marks, place-most (not old.linked), place-most (nat_lt k (length all)), place-most (is_some old.close), length-drop mid.double.sent mid.double.said);
  };
  rule = (is, f.fed, ap (λ (xs : List ℕ). record (join_of old) { double = mid.double; room = old.room - k; taken = xs; short = nat_lt k (length all) }) f.taken);
  log = same-log _ _ steps refl refl (items ∙ ap (λ (ws : List Write). ws ++ record { before = mid.told; offered = length all; answer = Took k } ∷ []) f.writes
      ∙ ap (λ (n : ℕ). old.writes.items ++ record { before = n; offered = length all; answer = Took k } ∷ []) (ap (λ (x : Inside). x.told) f.rest)) links refl refl refl;
  within = omega (arith, is);
  goes = λ failed. let bad : Took k ≡ Failed = failed in cc;
})
  where
    whole : new ≡ record old {
      double = mid.double;
      marks = mid.marks;
      taken = mid.taken;
      room = old.room - k;
      short = nat_lt k (length all);
      writes = new.writes;
    }
    whole = same ∙ ap (λ (x : Inside). record x { room = x.room - k; short = nat_lt k (length all); writes = new.writes }) f.rest

    steps : map (marked_happening old.plan.commands.items mid.double.said) mid.marks.items ≡ map (marked_happening old.plan.commands.items old.double.said) old.marks.items
    steps =
        ap (map (marked_happening old.plan.commands.items mid.double.said)) f.marks
        ∙ ap (λ (said : List ℕ). map (marked_happening old.plan.commands.items said) old.marks.items) f.said.behind
        ∙ marks-stay old.plan.commands.items old.double.said f.said.more old.double.sent old.marks.items h.marked (within-said old h)

    links : (if old.linked then drop old.link_at mid.taken.items ∷ [] else [])
        ≡ on_last (λ (link : List ℕ). link ++ take k all) (if old.linked then drop old.link_at old.taken.items ∷ [] else [])
    links =
        ap (λ (xs : List ℕ). if old.linked then drop old.link_at xs ∷ [] else []) f.taken
        ∙ link-more old.linked old.link_at old.taken.items (take k all) h.begins

pub writes_none : (old new : Inside) (all : List ℕ) → Holds old → OnlyRoomier old new → WritesByRule all NoMemory old new
writes_none old new all h f = subst (λ (x : Inside). WritesByRule all NoMemory old x) (sym f.rest) (record {
  holds = record {
    plan = h.plan;
    cut = h.cut;
    room = h.room;
    left = h.left;
    close = h.close;
    marked = subst (AllByRecursion (λ (x : Mark). IsToldMark old.double.sent x.what)) (sym f.marks) h.marked;
    answers = h.answers;
    begins = omega (arith, h.begins, ap length f.taken);
    places = omega (arith, h.places, ap length f.marks, f.capacity);
  };
  rule = ap (λ (xs : List ℕ). record (join_of old) { taken = xs }) f.taken;
  log = same-log _ _ (ap (map (marked_happening old.plan.commands.items old.double.said)) f.marks) refl refl f.writes
      (ap (λ (xs : List ℕ). if old.linked then drop old.link_at xs ∷ [] else []) f.taken) refl refl refl;
  within = tt;
  goes = λ failed. let bad : NoMemory ≡ Failed = failed in cc;
})

pub writes_nothing : (old : Inside) (all : List ℕ) → Holds old → WritesByRule all NoMemory old old
writes_nothing old all h = record {
  holds = h;
  rule = refl;
  log = refl;
  within = tt;
  goes = λ failed. let bad : NoMemory ≡ Failed = failed in cc;
}

-- ---- what no call changes

abbrev kept_of : Join → KeptPlan
kept_of j = record { plan = j.plan; numbers = j.double.numbers }

kept-command : (cs : List Cmd) (j : Join) → kept_of (commanded cs j) ≡ kept_of j
kept-command [] j = refl
kept-command (c ∷ cs) j = refl

kept-step : (asked : Bool) (j : Join) → kept_of (after_join_step asked j) ≡ kept_of j
kept-step asked j =
    let P : Join → Type 0 = λ x. kept_of x ≡ kept_of j in
    if_case P (asked && not j.linked) (roomier (record j { linked = true })) _ refl
    (if_case P j.short (roomier j) _ refl (if_case P (not (length (output j) == 0)) (sent_on j) (commanded j.commands j) refl (kept-command j.commands j)))

pub step_keeps : (old new : Inside) (step : Step) (octets : List ℕ) → TellsByRule step octets old new → kept_plan (joined_state_of new) ≡ kept_plan (joined_state_of old)
step_keeps old new step octets tells = ap kept_of tells.rule.then_so ∙ kept-step old.asked (join_of old)

pub write_keeps : (old new : Inside) (octets : List ℕ) (answer : Wrote) → WritesByRule octets answer old new → kept_plan (joined_state_of new) ≡ kept_plan (joined_state_of old)
write_keeps old new octets answer writes = by answer writes.rule
  where
    by : (w : Wrote) → JoinWrites octets w (join_of old) (join_of new) → kept_plan (joined_state_of new) ≡ kept_plan (joined_state_of old)
    by (Took k) rule =
        let plan = (join_of old).plan in
        let again : Configuration → KeptPlan = λ n. record { plan = plan; numbers = n } in
        ap kept_of rule.2 ∙ ap again rule.1.numbers
    by Failed rule = absurd rule
    by NoMemory rule = ap kept_of rule
