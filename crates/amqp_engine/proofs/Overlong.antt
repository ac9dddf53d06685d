-- A frame that can't go out.
use Rattle.std.proofs.Common.{◌≡◌, ◌≤◌, ◌-◌, ℕ, ◌&&◌, not, nat_le, nat_lt, if◌then◌else◌, Bool, true, false, IsFalse, length, Option, Some, None, is_some, option_map, refl, ap, sym, ◌∙◌, subst, arith, rules}
use Rattle.std.proofs.lemmas.Bool.Decides.{nat_tests}
use Rattle.amqp_frame.specs.declared.frame.Frame.{Frame}
use Rattle.amqp_outbox.specs.declared.item.Item.{Item}
use Rattle.amqp_outbox.specs.Items.{size_of}
use Rattle.amqp_outbox.specs.Queued as queued
use Rattle.amqp_rules.specs.Talk.{Talk, is_open}
use Rattle.amqp_rules.specs.Writing.{frames_waiting, writes, flows, fitting, next_out, next_within, longer_than, overlong, end_overlong, commit, next_frame}
use Rattle.amqp_engine.specs.Engine.{Engine, with_talk, settle, commit_all, fitting_next, overlong_next, ended_overlong, refuse_overlong, can_write}
use Rattle.amqp_engine.proofs.Cases.{none-unsent}
use Rattle.amqp_types.proofs.Small.{and-left}
use Rattle.amqp_engine.proofs.Settling.{settle-starved}
use Rattle.amqp_engine.proofs.Commits.{commits-keep, commits-none}

none-long : (b : Bool) (o : Option Item) (most : ℕ) → b ≡ false → longer_than most (if b then o else None) ≡ None
none-long true o most h = cc
none-long false o most h = refl

and-off : (a b : Bool) → a ≡ false → (a && b) ≡ false
and-off true b h = cc
and-off false b h = refl

-- where no link is open, no frame is in the way
pub closed-overlong : (e : Engine) → is_open e.talk ≡ false → overlong_next e ≡ None
closed-overlong e h =
    let x : Talk = (commit_all e).talk in
    let closed : is_open x ≡ false = commits-keep (λ (y : Engine). is_open y.talk) (λ y fs ms bytes. refl) (frames_waiting e.talk) e ∙ h in
    none-long (writes x) (queued.next_item (flows x) x.outbox) x.capacity (and-off (is_open x) (not x.blocked) closed)

-- nor where the server blocks
pub blocked-overlong : (e : Engine) → e.talk.blocked ≡ true → overlong_next e ≡ None
blocked-overlong e h =
    let x : Talk = (commit_all e).talk in
    let blocked : x.blocked ≡ true = commits-keep (λ (y : Engine). y.talk.blocked) (λ y fs ms bytes. refl) (frames_waiting e.talk) e ∙ h in
    none-long (writes x) (queued.next_item (flows x) x.outbox) x.capacity (off (is_open x) x.blocked blocked)
  where
    off : (a b : Bool) → b ≡ true → (a && not b) ≡ false
    off true b h = ap not h
    off false b h = refl

-- and nothing changes
pub closed-refuses : (e : Engine) → is_open e.talk ≡ false → refuse_overlong e ≡ e
closed-refuses e h = ap (λ o. ended_overlong o e) (closed-overlong e h)

-- a frame that fits is not too long
fits-short : (o : Option Item) (space most : ℕ) (item : Item) → space ≤ most → fitting space o ≡ Some item → longer_than most o ≡ None
fits-short None space most item le h = refl
fits-short (Some i) space most item le h = by (nat_le (size_of i) space) refl h
  where
    by : (b : Bool) → nat_le (size_of i) space ≡ b → (if b then Some i else None) ≡ Some item → longer_than most (Some i) ≡ None
    by true is k =
        let short : nat_lt most (size_of i) ≡ false = grind (arith, nat_tests, is, le) in
        ap (λ b. if b then Some (size_of i) else None) short
    by false is k = cc

pub fitting-short : (e : Engine) (item : Item) → fitting_next e ≡ Some item → overlong e.talk ≡ None
fitting-short e item h =
    let space : ℕ = e.talk.capacity - length e.unsent in
    fits-short (next_out e.talk) space e.talk.capacity item (omega arith) h

-- and is committed
pub next-commits : (space : ℕ) (t : Talk) (item : Item) → space ≤ t.capacity → next_within space t ≡ Some item → next_frame space t ≡ commit space t
next-commits space t item le h = ap (λ o. end_overlong o (commit space t)) (fits-short (next_out t) space t.capacity item le h)

-- its frame is given, and it fits
pub given-item : (o : Option Item) (frame : Frame) → option_map (λ (i : Item). i.frame) o ≡ Some frame → (item : Item) × (o ≡ Some item) × (item.frame ≡ frame)
given-item None frame h = cc
given-item (Some item) frame h = (item, refl, cc)

pub given-fits : (o : Option Item) (space : ℕ) (item : Item) → fitting space o ≡ Some item → size_of item ≤ space
given-fits None space item h = cc
given-fits (Some i) space item h = by (nat_le (size_of i) space) refl h
  where
    by : (b : Bool) → nat_le (size_of i) space ≡ b → (if b then Some i else None) ≡ Some item → size_of item ≤ space
    by true is k =
        let same : i ≡ item = cc in
        let le : size_of i ≤ space = grind (arith, nat_tests, is) in
        subst (λ (x : Item). size_of x ≤ space) same le
    by false is k = cc

given-writes : (b : Bool) (o : Option Item) (space : ℕ) (item : Item) → fitting space (if b then o else None) ≡ Some item → b ≡ true
given-writes true o space item h = refl
given-writes false o space item h = cc

-- on an open link
pub given-open : (space : ℕ) (t : Talk) (item : Item) → next_within space t ≡ Some item → is_open t ≡ true
given-open space t item h = and-left (is_open t) (not t.blocked) (given-writes (writes t) (queued.next_item (flows t) t.outbox) space item h)

-- where the link is still open, no frame is in the way
pub open-short : (e : Engine) → is_open (with_talk (end_overlong (overlong_next e)) (commit_all e)).talk ≡ true → overlong_next e ≡ None
open-short e h = by (overlong_next e) refl (sym (ap (λ o. is_open (end_overlong o (commit_all e).talk)) refl) ∙ h)
  where
    by : (o : Option ℕ) → overlong_next e ≡ o → is_open (end_overlong (overlong_next e) (commit_all e).talk) ≡ true → overlong_next e ≡ None
    by None is k = is
    by (Some size) is k =
        let closed : is_open (end_overlong (Some size) (commit_all e).talk) ≡ true = ap (λ o. is_open (end_overlong o (commit_all e).talk)) (sym is) ∙ k in
        cc

-- where it was open and is no longer, one was
pub shut-long : (e : Engine) → is_open e.talk ≡ true → is_open (with_talk (end_overlong (overlong_next e)) (commit_all e)).talk ≡ false
    → (size : ℕ) × (overlong_next e ≡ Some size)
shut-long e opened h = by (overlong_next e) refl h
  where
    by : (o : Option ℕ) → overlong_next e ≡ o → is_open (end_overlong (overlong_next e) (commit_all e).talk) ≡ false → (size : ℕ) × (overlong_next e ≡ Some size)
    by None is k =
        let shut : is_open (commit_all e).talk ≡ false = ap (λ o. is_open (end_overlong o (commit_all e).talk)) (sym is) ∙ k in
        let still : is_open (commit_all e).talk ≡ true = commits-keep (λ (y : Engine). is_open y.talk) (λ y fs ms bytes. refl) (frames_waiting e.talk) e ∙ opened in
        absurd cc
    by (Some size) is k = (size, is)

-- ---- nothing is to be written

shut-idle : (a b : Bool) → a ≡ false → IsFalse (a && b)
shut-idle true b h = cc
shut-idle false b h = search rules

blocked-idle : (a b c : Bool) → b ≡ true → IsFalse (a && (not b && c))
blocked-idle true true c h = search rules
blocked-idle false true c h = search rules
blocked-idle a false c h = cc

long-idle : (a b c d : Bool) → c ≡ false → IsFalse (a && (b && (c && d)))
long-idle true true false d h = search rules
long-idle true false false d h = search rules
long-idle false b false d h = search rules
long-idle a b true d h = cc

abbrev pub Idle : Engine → Engine → Type 0
Idle e e' = IsFalse (can_write e) × (e' ≡ refuse_overlong e)

pub closed-idles : (e : Engine) → is_open e.talk ≡ false → Idle e e
closed-idles e h = (shut-idle (is_open e.talk) _ h, sym (closed-refuses e h))

pub blocked-idles : (e : Engine) → e.talk.blocked ≡ true → Idle e e
blocked-idles e h = (
  blocked-idle (is_open e.talk) e.talk.blocked _ h,
  sym (ap (λ o. ended_overlong o e) (blocked-overlong e h)),
)

pub long-idles : (e e' : Engine) (size : ℕ) → overlong_next e ≡ Some size → e' ≡ settle (with_talk (end_overlong (overlong_next e)) (commit_all e)) → Idle e e'
long-idles e e' size is h = (
  long-idle (is_open e.talk) (not e.talk.blocked) (not (is_some (overlong_next e))) _ (ap (λ (o : Option ℕ). not (is_some o)) is),
  h ∙ ap (λ o. settle (with_talk (end_overlong o) (commit_all e))) is ∙ sym (ap (λ o. ended_overlong o e) is),
)

pub none-idles : (e e' : Engine) → overlong_next e ≡ None → length (commit_all e).unsent ≡ 0 → e' ≡ with_talk (end_overlong (overlong_next e)) (commit_all e) → Idle e e'
none-idles e e' short none h = (
  none-unsent (is_open e.talk) (not e.talk.blocked) (not (is_some (overlong_next e))) (length (commit_all e).unsent) none,
  h ∙ ap (λ o. with_talk (end_overlong o) (commit_all e)) short ∙ commits-none (frames_waiting e.talk) e none ∙ sym (ap (λ o. ended_overlong o e) short),
)

-- it starves nobody
refused-starved : (o : Option ℕ) (e : Engine) → (ended_overlong o e).starved ≡ e.starved
refused-starved None e = refl
refused-starved (Some size) e =
    settle-starved (with_talk (end_overlong (Some size)) (commit_all e))
    ∙ commits-keep (λ (y : Engine). y.starved) (λ y fs ms bytes. refl) (frames_waiting e.talk) e

pub refuses-starved : (e : Engine) → (refuse_overlong e).starved ≡ e.starved
refuses-starved e = refused-starved (overlong_next e) e
