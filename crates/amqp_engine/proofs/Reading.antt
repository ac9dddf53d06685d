-- Reading frames one by one.
use Rattle.std.proofs.Common.{◌≡◌, ◌≤◌, ◌<◌, ℕ, zero, suc, ◌+◌, ◌&&◌, not, if◌then◌else◌, Bool, true, false, List, [], ◌∷◌, ◌++◌, length, drop, Option, refl, ap, sym, ◌∙◌, arith, length-drop}
use Rattle.amqp_frame.specs.declared.frame.Read.{Read}
use Rattle.amqp_frame.specs.declared.frame.Read.TheVariants.{Whole, More, TooLarge, BadHeartbeat, Bad, NoMemory}
use Rattle.amqp_frame.specs.FrameReading.{front}
use Rattle.amqp_rules.specs.declared.state.Input.{Input}
use Rattle.amqp_rules.specs.declared.state.Input.TheVariants.{Acting, Closed, Dropped}
use Rattle.amqp_violations.specs.declared.misread.Misread.{Misread}
use Rattle.amqp_violations.specs.declared.misread.Misread.TheVariants as why
use Rattle.amqp_auth.specs.declared.asked.Question.{Question}
use Rattle.amqp_auth.specs.declared.asked.Asked.{Asked}
use Rattle.amqp_rules.specs.Talk.{Talk, is_open, is_acting, acts, is_dropped_input}
use Rattle.amqp_rules.specs.Changes.{present_at, lose}
use Rattle.amqp_rules.specs.Links.{misread, dropped}
use Rattle.amqp_violations.specs.Violations.{misread_error}
use Rattle.amqp_rules.specs.Frames.{on_frame}
use Rattle.amqp_rules.specs.Negotiation.{frame_limit}
use Rattle.amqp_engine.specs.Plan.{at_most_64}
use Rattle.amqp_engine.specs.Engine.{Engine, front_of, can_read, is_more, read_one, read_questions, read_row, read_badly, settle, rule_at}
use Rattle.amqp_engine.specs.Turn.{Progress, reads, reading, goes, read_part, is_before}
use Rattle.amqp_engine.specs.Making.{making, keeps_unread, IsSettled, Reaches}
use Rattle.amqp_types.proofs.Small.{if_by, if-true, if-false, and-false, and-true, and-left, and-right}
use Rattle.amqp_engine.proofs.Cases.{is_before-Reaches}
use Rattle.amqp_frame.proofs.FrontStays.{says-front, front-none}
use Rattle.amqp_engine.proofs.Settling.{settle-talk, settle-unread, settle-settled, settle-starved}
use Rattle.amqp_rules.proofs.Keeping.{present-keeps}
use Rattle.amqp_rules.proofs.Recovering.{lose-case}

-- where nothing can be read, reading is over
pub reads-rest : (n : ℕ) (p : Progress) → can_read p.engine ≡ false → reads n p ≡ p
reads-rest zero p h = refl
reads-rest (suc n) p h = if-false (goes p && can_read p.engine) (reads n (read_part p)) p (and-false (goes p) (can_read p.engine) h)

-- where the turn is cut, too
pub reads-cut : (n : ℕ) (p : Progress) → goes p ≡ false → reads n p ≡ p
reads-cut zero p h = refl
reads-cut (suc n) p h = rw h refl

-- what comes of one frame more
abbrev pub after_read : ℕ → Option ℕ → List Asked → List Question → Engine → ℕ → Progress
after_read at cut answers questions e parts =
    let more = read_questions at e in
    making at cut (drop (length more) answers) (questions ++ more) (read_one at answers e) (parts + 1)

-- one frame more
pub reads-more : (n at : ℕ) (cut : Option ℕ) (answers : List Asked) (questions : List Question) (e : Engine) (parts : ℕ) → can_read e ≡ true → Reaches cut (parts + 1)
    → reads (suc n) (making at cut answers questions e parts) ≡ reads n (after_read at cut answers questions e parts)
reads-more n at cut answers questions e parts can allows =
    if-true (is_before cut parts && can_read e) (reads n (after_read at cut answers questions e parts)) (making at cut answers questions e parts)
    (and-true (is_before cut parts) (can_read e) (is_before-Reaches cut parts allows) can)

-- ---- a part that reads shortens what is unread

front-some : (bytes : List ℕ) (limit : ℕ) → not (is_more (front bytes limit)) ≡ true → 1 ≤ length bytes
front-some [] limit h =
    let more : not (is_more (front [] limit)) ≡ false = ap (λ (r : Read). not (is_more r)) (front-none limit) in
    cc
front-some (o ∷ rest) limit h = omega arith

-- after the server's close the input is dropped
dropped-over : (b : Bool) (i : Input) → b ≡ true → (b && is_acting i) ≡ false → (b && not (is_dropped_input (dropped i))) ≡ false
dropped-over true Acting h idle = cc
dropped-over true (Closed crossed) h idle = refl
dropped-over true (Dropped crossed) h idle = refl
dropped-over false i h idle = cc

-- after what is no frame nothing more is read
misread-over : (at : ℕ) (why : Misread) (t : Talk) → is_open t ≡ true
    → keeps_unread (misread why (present_at at t)) ≡ false
misread-over at why t opened =
    let x = present_at at t in
    let still : is_open x ≡ true = present-keeps is_open at t (λ n. refl) ∙ opened in
    let gone : Talk = record x { input = dropped x.input } in
    let P : Talk → Type 0 = λ y. keeps_unread y ≡ false in
    if_by P (acts x) (lose (misread_error why) x) (if is_open x then gone else x) (λ acting. lose-case P (misread_error why) x (λ delay. refl) refl)
    (λ idle. if_by P (is_open x) gone x (λ on. dropped-over (is_open x) x.input on idle) (λ closed. absurd cc))

-- the bytes of what is read go: eight at least, where those behind are kept
pub record Shortens (e e' : Engine) : Type 0 where
  pub less : length e'.unread < length e.unread
  pub eight : keeps_unread e'.talk ≡ true → length e'.unread + 8 ≤ length e.unread
  pub settled : IsSettled e'

misread-shortens : (at : ℕ) (why : Misread) (e : Engine) → is_open e.talk ≡ true → 1 ≤ length e.unread
    → Shortens e (read_badly at why e)
misread-shortens at why e opened some =
    let x : Engine = rule_at at (misread why) e in
    let over : keeps_unread x.talk ≡ false = misread-over at why e.talk opened in
    let gone : (settle x).unread ≡ [] = settle-unread x ∙ if-false (keeps_unread x.talk) x.unread [] over in
    record {
      less = omega (arith, ap length gone, some);
      eight = λ kept. absurd (let none : keeps_unread (settle x).talk ≡ false = ap keeps_unread (settle-talk x) ∙ over in cc);
      settled = settle-settled x;
    }

whole-shortens : (n : ℕ) (e x : Engine) → x.unread ≡ drop n e.unread → 8 ≤ n → n ≤ length e.unread → Shortens e (settle x)
whole-shortens n e x bytes least most =
    let after : (settle x).unread ≡ (if keeps_unread x.talk then x.unread else []) = settle-unread x in
    let left : length x.unread + n ≡ length e.unread = omega (arith, ap length bytes, length-drop n e.unread, most) in
    record {
      less = rw after (shorter (keeps_unread x.talk) left);
      eight = λ kept.
          let still : keeps_unread x.talk ≡ true = sym (ap keeps_unread (settle-talk x)) ∙ kept in
          omega (arith, left, least, ap length (after ∙ if-true (keeps_unread x.talk) x.unread [] still));
      settled = settle-settled x;
    }
  where
    shorter : (b : Bool) → length x.unread + n ≡ length e.unread → length (if b then x.unread else []) < length e.unread
    shorter true left = omega (arith, left, least)
    shorter false left = omega (arith, left, least)

row-shortens : (at : ℕ) (r : Read) (answers : List Asked) (e : Engine) → front_of e ≡ r → not (is_more r) ≡ true → is_open e.talk ≡ true → 1 ≤ length e.unread
    → Shortens e (read_row at r answers e)
row-shortens at (Whole f n) answers e is some opened bytes =
    let x : Engine = record e { talk = on_frame f answers (present_at at e.talk); unread = drop n e.unread; place = at_most_64 (e.place + n) } in
    let size = (says-front (frame_limit e.talk)).size e.unread f n is in
    whole-shortens n e x refl size.0 (omega (arith, size.1))
row-shortens at More answers e is some opened bytes = cc
row-shortens at (TooLarge n) answers e is some opened bytes = misread-shortens at (why.TooLarge n) e opened bytes
row-shortens at (BadHeartbeat n) answers e is some opened bytes = misread-shortens at (why.BadHeartbeat n) e opened bytes
row-shortens at Bad answers e is some opened bytes = misread-shortens at (why.Bad e.place) e opened bytes
row-shortens at NoMemory answers e is some opened bytes = misread-shortens at (why.Bad e.place) e opened bytes

pub read_one-shortens : (at : ℕ) (answers : List Asked) (e : Engine) → can_read e ≡ true → Shortens e (read_one at answers e)
read_one-shortens at answers e can =
    let some = and-right (is_open e.talk) (not (is_more (front_of e))) can in
    row-shortens at (front_of e) answers e refl some (and-left (is_open e.talk) (not (is_more (front_of e))) can)
    (front-some e.unread (frame_limit e.talk) some)

-- reading starves nobody
row-starved : (at : ℕ) (r : Read) (answers : List Asked) (e : Engine) → (read_row at r answers e).starved ≡ e.starved
row-starved at (Whole f n) answers e =
    settle-starved (record e { talk = on_frame f answers (present_at at e.talk); unread = drop n e.unread; place = at_most_64 (e.place + n) })
row-starved at More answers e = refl
row-starved at (TooLarge n) answers e = settle-starved (rule_at at (misread (why.TooLarge n)) e)
row-starved at (BadHeartbeat n) answers e = settle-starved (rule_at at (misread (why.BadHeartbeat n)) e)
row-starved at Bad answers e = settle-starved (rule_at at (misread (why.Bad e.place)) e)
row-starved at NoMemory answers e = settle-starved (rule_at at (misread (why.Bad e.place)) e)

pub read_one-starved : (at : ℕ) (answers : List Asked) (e : Engine) → (read_one at answers e).starved ≡ e.starved
read_one-starved at answers e = row-starved at (front_of e) answers e

-- ---- reading goes on to the end

-- of no bytes nothing is read
pub none-read : (e : Engine) → length e.unread ≤ 0 → can_read e ≡ false
none-read e le = and-false (is_open e.talk) (not (is_more (front_of e))) (none e.unread le)
  where
    none : (bytes : List ℕ) → length bytes ≤ 0 → not (is_more (front bytes (frame_limit e.talk))) ≡ false
    none [] le = ap (λ (r : Read). not (is_more r)) (front-none (frame_limit e.talk))
    none (o ∷ rest) le = absurd (omega arith)

if-done : (b : Bool) (n : ℕ) (p : Progress) → (goes p && can_read p.engine) ≡ b → length p.engine.unread ≤ suc n
    → ((x : Progress) → length x.engine.unread ≤ n → (goes (reads n x) && can_read (reads n x).engine) ≡ false)
    → (goes (if b then reads n (read_part p) else p) && can_read (if b then reads n (read_part p) else p).engine) ≡ false
if-done true n p h le ih =
    let can : can_read p.engine ≡ true = and-right (goes p) (can_read p.engine) h in
    ih (read_part p) (omega (arith, (read_one-shortens p.at p.answers p.engine can).less))
if-done false n p h le ih = h

-- after the parts that read, the turn was cut, or nothing is left to be read
pub reads-done : (n : ℕ) (p : Progress) → length p.engine.unread ≤ n → (goes (reads n p) && can_read (reads n p).engine) ≡ false
reads-done zero p le = and-false (goes p) (can_read p.engine) (none-read p.engine le)
reads-done (suc n) p le = if-done (goes p && can_read p.engine) n p refl le (λ x h. reads-done n x h)

both-done : (b : Bool) (x y p : Progress) → (b ≡ true → x ≡ y) → (if b then x else p) ≡ (if b then y else p)
both-done true x y p h = h refl
both-done false x y p h = refl

-- as many parts as there are bytes are enough
pub reads-enough : (m n : ℕ) (p : Progress) → length p.engine.unread ≤ m → length p.engine.unread ≤ n → reads m p ≡ reads n p
reads-enough zero n p le few = sym (reads-rest n p (none-read p.engine le))
reads-enough (suc m) zero p le few = reads-rest (suc m) p (none-read p.engine few)
reads-enough (suc m) (suc n) p le few =
    both-done (goes p && can_read p.engine) (reads m (read_part p)) (reads n (read_part p)) p
    (λ h.
    let less = (read_one-shortens p.at p.answers p.engine (and-right (goes p) (can_read p.engine) h)).less in
    reads-enough m n (read_part p) (omega (arith, less)) (omega (arith, less)))

-- or where the turn is cut
pub reading-cut : (b : Bool) (p : Progress) → goes p ≡ false → reading b p ≡ p
reading-cut true p h = reads-cut _ p h
reading-cut false p h = refl
