-- Frames that wait beside a session: where those of an opening stand, and that all of them are taken.
use Rattle.std.proofs.Common.{◌≡◌, ◌==◌, ◌<◌, ℕ, zero, suc, Bool, true, false, List, [], ◌∷◌, length, drop, get_or, slice_get, Option, Some, None, refl, ap, sym, ◌∙◌, arith}
use Rattle.std.proofs.lemmas.Option.{slice_get_read}
use Rattle.amqp_types.proofs.Small.{if-true, equal-numbers, the-number}
use Rattle.amqp_answers.specs.declared.handed.Handed.{Handed}
use Rattle.amqp_rules.specs.Talk.{Talk}
use Rattle.amqp_rules.specs.Answers.{take_frames}
use Rattle.amqp_rules.specs.ChannelMethods.{frames_of}
use Rattle.amqp_locked.specs.Backlog.{frames_kept, frames_at, frames_next, frames_after, AreAll}
use Rattle.amqp_locked.specs.declared.backlog.Lane.{Lane}

-- a lane stands at its place
pub stands-at : (at : ℕ) (lanes : List Lane) (lane : Lane) → at < length lanes → lane ≡ get_or lanes at lane
    → frames_at (slice_get lanes at) ≡ lane.frames.items
stands-at at lanes lane within is = ap frames_at (slice_get_read lanes (length lanes) at lane refl within is)

-- the first lane of an opening has its frames
pub kept-here : (opened at : ℕ) (lanes : List Lane) (lane : Lane) → at < length lanes → lane ≡ get_or lanes at lane → lane.opened ≡ opened
    → frames_kept opened (drop at lanes) ≡ frames_at (slice_get lanes at)
kept-here opened at [] lane within is opens = absurd (omega (arith, within))
kept-here opened zero (l ∷ lanes) lane within is opens =
    if-true (l.opened == opened) l.frames.items (frames_kept opened lanes)
    (equal-numbers l.opened opened (ap (λ (x : Lane). x.opened) (sym is) ∙ opens))
kept-here opened (suc at) (l ∷ lanes) lane within is opens = kept-here opened at lanes lane (omega (arith, within)) is opens

-- nothing is left where there is no frame
pub none-left : (n : ℕ) (xs : List Handed) → n ≡ length xs → (n == 0) ≡ true → xs ≡ []
none-left n [] is none = refl
none-left n (x ∷ xs) is none = absurd (omega (arith, is, the-number n 0 none))

-- else all that is there is given
pub all-there : (n : ℕ) (kept xs : List Handed) → kept ≡ xs → n ≡ length xs → (n == 0) ≡ false → AreAll kept xs
all-there zero kept xs same is none = cc
all-there (suc n) [] [] same is none = absurd (omega (arith, is))
all-there (suc n) [] (x ∷ xs) same is none = cc
all-there (suc n) (k ∷ kept) xs same is none = sym same

-- then they are what is taken next
pub all-next : (kept given : List Handed) (opened : ℕ) (t : Talk) → AreAll kept given → given ≡ frames_next kept opened t
all-next [] given opened t all = absurd all
all-next (k ∷ kept) given opened t all = all

-- and the session stays as it is
pub all-after : (kept given : List Handed) (opened : ℕ) (t : Talk) → AreAll kept given → frames_after kept opened t ≡ t
all-after [] given opened t all = absurd all
all-after (k ∷ kept) given opened t all = refl
