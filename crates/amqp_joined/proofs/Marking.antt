-- Marks of what was told: they are told alike, whatever is said behind it.
use Rattle.std.proofs.Common.{◌≡◌, ◌≤◌, ◌∙◌, ap, refl, ℕ, ◌+◌, Bool, true, false, List, [], ◌∷◌, ◌++◌, length, map, take, drop, Option, arith, length-drop}
use Rattle.std.specs.Prelude.{slice_index_or}
use Rattle.std.specs.List.{AllByRecursion}
use Rattle.std.proofs.lemmas.List.{map-append, take-append-le, drop-append-le}
use Rattle.amqp_commands.specs.declared.command.Cmd.{Cmd}
use Rattle.amqp_engine.specs.declared.port.Happening.{Happening}
use Rattle.amqp_engine.specs.declared.port.Write.{Write}
use Rattle.amqp_engine.specs.Plan.{Plan}
use Rattle.amqp_engine.specs.Log.{Log}
use Rattle.amqp_joining.proofs.Lists.{all-weaker}
use Rattle.amqp_joined.specs.declared.marks.Mark.{Mark}
use Rattle.amqp_joined.specs.declared.marks.Marked.{Marked}
use Rattle.amqp_joined.specs.declared.marks.Marked.TheVariants as marked
use Rattle.amqp_joined.specs.Ports.{marked_octets, marked_step, marked_happening}
use Rattle.amqp_joined.specs.Insides.{IsToldMark, place_where}

-- ---- lists

pub behind-front : {A : Type 0} (xs rest : List A) (x d : A) → slice_index_or (xs ++ x ∷ rest) (length xs) d ≡ x
behind-front [] rest x d = refl
behind-front (y ∷ xs) rest x d = behind-front xs rest x d

pub behind-all : {A : Type 0} (xs : List A) (d : A) → slice_index_or xs (length xs) d ≡ d
behind-all [] d = refl
behind-all (x ∷ xs) d = behind-all xs d

-- ---- marks

pub place-most : (b : Bool) → place_where b ≤ 1
place-most true = omega arith
place-most false = omega arith

same-octets : (said more : List ℕ) (sent : ℕ) (m : Marked) → IsToldMark sent m → sent ≤ length said → marked_octets (said ++ more) m ≡ marked_octets said m
same-octets said more sent marked.Linked is within = refl
same-octets said more sent marked.Room is within = refl
same-octets said more sent (marked.Command number) is within = refl
same-octets said more sent (marked.Piece start count) is within =
    ap (take count) (drop-append-le start said more (omega (arith, is, within)))
    ∙ take-append-le count (drop start said) more (omega (arith, is, within, length-drop start said))

-- they are told alike where more is said
pub marks-stay : (commands : List Cmd) (said more : List ℕ) (sent : ℕ) (marks : List Mark) → AllByRecursion (λ (m : Mark). IsToldMark sent m.what) marks → sent ≤ length said
    → map (marked_happening commands (said ++ more)) marks ≡ map (marked_happening commands said) marks
marks-stay commands said more sent [] all within = refl
marks-stay commands said more sent (m ∷ marks) all within =
    let head : marked_happening commands (said ++ more) m ≡ marked_happening commands said m =
    ap (λ (octets : List ℕ). record { before = m.before; at = 0; step = marked_step commands m.what; bytes = octets }) (same-octets said more sent m.what all.0 within) in
    ap (λ (h : Happening). h ∷ map (marked_happening commands (said ++ more)) marks) head
    ∙ ap (λ (hs : List Happening). marked_happening commands said m ∷ hs) (marks-stay commands said more sent marks all.1 within)

later-marked : (sent more : ℕ) (m : Marked) → IsToldMark sent m → IsToldMark (sent + more) m
later-marked sent more marked.Linked is = tt
later-marked sent more marked.Room is = tt
later-marked sent more (marked.Command number) is = tt
later-marked sent more (marked.Piece start count) is = omega (arith, is)

-- they are of what was told where more is told
pub still-marked : (sent more : ℕ) (marks : List Mark) → AllByRecursion (λ (m : Mark). IsToldMark sent m.what) marks → AllByRecursion (λ (m : Mark). IsToldMark (sent + more) m.what) marks
still-marked sent more marks all = all-weaker (λ (m : Mark). IsToldMark sent m.what) (λ (m : Mark). IsToldMark (sent + more) m.what) (λ m is. later-marked sent more m.what is) marks all

-- one more is told
pub told-more : (commands : List Cmd) (said : List ℕ) (marks marks' : List Mark) (m : Mark) → marks' ≡ marks ++ m ∷ []
    → map (marked_happening commands said) marks' ≡ map (marked_happening commands said) marks ++ marked_happening commands said m ∷ []
told-more commands said marks marks' m is = ap (map (marked_happening commands said)) is ∙ map-append (marked_happening commands said) marks (m ∷ [])

-- ---- logs

abbrev log : List Happening → ℕ → ℕ → List Write → List (List ℕ) → Bool → Option ℕ → Option Plan → Log
log steps told moment writes links asked asked_at plan = record {
  steps = steps;
  told = told;
  moment = moment;
  writes = writes;
  links = links;
  asked = asked;
  asked_at = asked_at;
  plan = plan;
}

-- two that agree in all
pub same-log : (a b : Log) → a.steps ≡ b.steps → a.told ≡ b.told → a.moment ≡ b.moment → a.writes ≡ b.writes → a.links ≡ b.links → a.asked ≡ b.asked → a.asked_at ≡ b.asked_at
    → a.plan ≡ b.plan → a ≡ b
same-log a b steps told moment writes links asked asked_at plan =
    ap (λ (x : List Happening). log x a.told a.moment a.writes a.links a.asked a.asked_at a.plan) steps
    ∙ ap (λ (x : ℕ). log b.steps x a.moment a.writes a.links a.asked a.asked_at a.plan) told
    ∙ ap (λ (x : ℕ). log b.steps b.told x a.writes a.links a.asked a.asked_at a.plan) moment
    ∙ ap (λ (x : List Write). log b.steps b.told b.moment x a.links a.asked a.asked_at a.plan) writes
    ∙ ap (λ (x : List (List ℕ)). log b.steps b.told b.moment b.writes x a.asked a.asked_at a.plan) links
    ∙ ap (λ (x : Bool). log b.steps b.told b.moment b.writes b.links x a.asked_at a.plan) asked
    ∙ ap (λ (x : Option ℕ). log b.steps b.told b.moment b.writes b.links b.asked x a.plan) asked_at
    ∙ ap (λ (x : Option Plan). log b.steps b.told b.moment b.writes b.links b.asked b.asked_at x) plan
