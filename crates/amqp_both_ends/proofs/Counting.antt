-- How many turns are left: what is still to be taken, to be told and to be brought about falls with each turn.
use Rattle.std.proofs.Common.{◌≡◌, ◌≤◌, ◌<◌, ap, ℕ, ◌+◌, Bool, true, false, List, [], ◌∷◌, ◌++◌, length, length-append, mod-lt, arith}
use Rattle.std.specs.List.{flat_map}
use Rattle.amqp_frame.specs.declared.frame.Frame.{Frame}
use Rattle.amqp_commands.specs.declared.command.Cmd.{Cmd}
use Rattle.amqp_settings.specs.declared.configuration.Configuration.{Configuration}
use Rattle.amqp_engine.specs.Engine.{Engine}
use Rattle.amqp_engine.specs.Sending.{Sending, frames_sent}
use Rattle.amqp_double.specs.Replies.{replies, all_replies}
use Rattle.amqp_joining.specs.Plans.{IsPlan, command_turns}
use Rattle.amqp_joining.specs.Joining.{Join, output, place_after, next_cut, roomier, sent_on, commanded}
use Rattle.amqp_joining.proofs.Lists.{all-at}
use Rattle.amqp_both_ends.proofs.Writes.{pending}
use Rattle.amqp_both_ends.proofs.Weights.{weigh, weigh-joined, weigh-both, size, brings, earns, outlay, replies-weigh}

-- the turns of some commands
abbrev pub turns_for : List Cmd → ℕ
turns_for [] = 0
turns_for (c ∷ commands) = command_turns c + turns_for commands

-- the turns of the last close, where it was not told
abbrev pub close_turns : Bool → ℕ
close_turns true = 0
close_turns false = 34

-- the turns of what was not told
abbrev pub untold_turns : Join → ℕ
untold_turns j = turns_for j.commands + close_turns j.closing

-- what is said and to be said, what that brings, what is to be told and what the owed replies bring, and what was not told
abbrev pub in_all : Configuration → Engine → Sending → Join → List Frame → ℕ
in_all numbers e x j rs =
    weigh size (frames_sent x ++ pending x e.talk)
    + (weigh (earns numbers) (pending x e.talk) + (length (output j) + (weigh brings rs + untold_turns j)))

-- after so many turns, with what was taken
abbrev pub IsCounted : Configuration → ℕ → ℕ → Engine → Sending → Join → List Frame → Type 0
IsCounted numbers most n e x j rs = n + in_all numbers e x j rs ≤ most + x.taken

-- writes move what is to be said to what is to be told, and take some of it
pub counted-writes : (numbers : Configuration) (most n taken : ℕ) (e e' : Engine) (x y : Sending) (j last : Join) (rs moved : List Frame)
    → frames_sent y ++ pending y e'.talk ≡ frames_sent x ++ pending x e.talk → pending x e.talk ≡ moved ++ pending y e'.talk → output last ≡ output j ++ all_replies numbers moved
    → x.taken + taken ≤ y.taken → untold_turns last ≡ untold_turns j → IsCounted numbers most n e x j rs → IsCounted numbers most (n + taken) e' y last (rs ++ flat_map (replies numbers) moved)
counted-writes numbers most n taken e e' x y j last rs moved same pends out takes untold h =
    let a = ap (weigh size) same in
    let b = ap (weigh (earns numbers)) pends in
    let c = weigh-joined (earns numbers) moved (pending y e'.talk) in
    let d = ap length out in
    let f = length-append (output j) (all_replies numbers moved) in
    let g = replies-weigh numbers moved in
    let k = weigh-joined brings rs (flat_map (replies numbers) moved) in
    omega (arith, a, b, c, d, f, g, k, takes, untold, h)

-- a reply is read where nothing was pending, and brings no more than it may
pub counted-read : (numbers : Configuration) (most n : ℕ) (e e' : Engine) (x : Sending) (j : Join) (r : Frame) → pending x e.talk ≡ [] → weigh (outlay numbers) (pending x e'.talk) ≤ brings r
    → IsCounted numbers most n e x j (r ∷ []) → IsCounted numbers most n e' x j []
counted-read numbers most n e e' x j r none within h =
    let ps = pending x e'.talk in
    let a = ap (λ (fs : List Frame). weigh size (frames_sent x ++ fs)) none in
    let b = ap (weigh (earns numbers)) none in
    let c = weigh-joined size (frames_sent x) [] in
    let d = weigh-joined size (frames_sent x) ps in
    let f = weigh-both size (earns numbers) ps in
    omega (arith, a, b, c, d, f, within, h)

-- a piece was told
pub counted-piece : (numbers : Configuration) (most n : ℕ) (e e' : Engine) (x : Sending) (j next : Join) (rs : List Frame) → pending x e'.talk ≡ pending x e.talk → length (output next) + 1 ≤ length (output j)
    → untold_turns next ≡ untold_turns j → IsCounted numbers most n e x j rs → IsCounted numbers most (n + 1) e' x next rs
counted-piece numbers most n e e' x j next rs same fewer untold h =
    let a = ap (λ (fs : List Frame). weigh size (frames_sent x ++ fs)) same in
    let b = ap (weigh (earns numbers)) same in
    omega (arith, a, b, fewer, untold, h)

-- nothing changed
pub counted-same : (numbers : Configuration) (most n : ℕ) (e e' : Engine) (x : Sending) (j next : Join) (rs : List Frame) → pending x e'.talk ≡ pending x e.talk → output next ≡ output j
    → untold_turns next ≡ untold_turns j → IsCounted numbers most n e x j rs → IsCounted numbers most n e' x next rs
counted-same numbers most n e e' x j next rs same told untold h =
    let a = ap (λ (fs : List Frame). weigh size (frames_sent x ++ fs)) same in
    let b = ap (weigh (earns numbers)) same in
    let c = ap length told in
    omega (arith, a, b, c, untold, h)

-- a command was told where nothing was pending and nothing owed
pub counted-command : (numbers : Configuration) (most n turns : ℕ) (e e' : Engine) (x : Sending) (j next : Join) → pending x e.talk ≡ [] → weigh (outlay numbers) (pending x e'.talk) + 1 ≤ turns
    → output next ≡ output j → untold_turns next + turns ≤ untold_turns j → IsCounted numbers most n e x j [] → IsCounted numbers most (n + 1) e' x next []
counted-command numbers most n turns e e' x j next none within told untold h =
    let ps = pending x e'.talk in
    let a = ap (λ (fs : List Frame). weigh size (frames_sent x ++ fs)) none in
    let b = ap (weigh (earns numbers)) none in
    let c = weigh-joined size (frames_sent x) [] in
    let d = weigh-joined size (frames_sent x) ps in
    let f = weigh-both size (earns numbers) ps in
    let g = ap length told in
    omega (arith, a, b, c, d, f, g, within, untold, h)

-- ---- places of the plan

-- a plan is one, and the next cut and the next room stand in it
pub record IsPlaced (j : Join) : Type 0 where
  pub plan : IsPlan j.plan
  pub cut : j.cut_at < length j.plan.cuts
  pub room : j.room_at < length j.plan.rooms

next-place : (xs : List ℕ) (at : ℕ) → at < length xs → place_after xs at < length xs
next-place xs at within = mod-lt (at + 1) (omega (arith, within))

pub placed-roomier : (j : Join) → IsPlaced j → IsPlaced (roomier j)
placed-roomier j h = record { plan = h.plan; cut = h.cut; room = next-place j.plan.rooms j.room_at h.room }

pub placed-sent : (j : Join) → IsPlaced j → IsPlaced (sent_on j)
placed-sent j h = record { plan = h.plan; cut = next-place j.plan.cuts j.cut_at h.cut; room = h.room }

pub placed-commanded : (commands : List Cmd) (j : Join) → IsPlaced j → IsPlaced (commanded commands j)
placed-commanded [] j h = record { plan = h.plan; cut = h.cut; room = h.room }
placed-commanded (c ∷ commands) j h = record { plan = h.plan; cut = h.cut; room = h.room }

-- there is room then
pub room-some : (j : Join) → IsPlaced j → 1 ≤ (roomier j).room
room-some j h = let one = all-at (λ (n : ℕ). 1 ≤ n) j.plan.rooms j.room_at h.plan.rooms h.room in omega (arith, one)

-- a piece has an octet
pub cut-some : (j : Join) → IsPlaced j → 0 < length (output j) → 1 ≤ next_cut j
cut-some j h some = let one = (all-at (λ (n : ℕ). (1 ≤ n) × (n ≤ 4096)) j.plan.cuts j.cut_at h.plan.cuts h.cut).0 in omega (arith, one, some)
