-- What is kept only grows at its end, up to the rollback.
use Rattle.std.proofs.Common.{◌≡◌, ℕ, List, [], ◌∷◌, ◌++◌, length, take, refl, sym, ap, ◌∙◌, append_assoc}
use Rattle.std.proofs.lemmas.List.{take_at, append-nil}
use Rattle.amqp_ring.specs.Ring.{Ring, rolled_back}
use Rattle.amqp_ring.specs.Changes.{Change, change, changes}

-- a change keeps what is kept, and some bytes behind it
change_adds : (x : Change) (b : Ring) → (more : List ℕ) × ((change x b).kept ≡ b.kept ++ more)
change_adds (Change.fill n) b = (take n b.free, refl)
change_adds (Change.write bytes) b = (take (length b.free) bytes, refl)
change_adds (Change.grow size) b = ([], sym (append-nil b.kept))
change_adds (Change.spaces free) b = ([], sym (append-nil b.kept))

changes_add : (xs : List Change) (b : Ring) → (more : List ℕ) × ((changes xs b).kept ≡ b.kept ++ more)
changes_add [] b = ([], sym (append-nil b.kept))
changes_add (x ∷ xs) b =
    let first = change_adds x b in
    let rest = changes_add xs (change x b) in
    (first.0 ++ rest.0, rest.1 ∙ ap (λ (k : List ℕ). k ++ rest.0) first.1 ∙ append_assoc b.kept first.0 rest.0)

pub rolls_back : (b : Ring) (xs : List Change) → (rolled_back (length b.kept) (changes xs b)).kept ≡ b.kept
rolls_back b xs =
    let added = changes_add xs b in
    ap (take (length b.kept)) added.1 ∙ take_at b.kept added.0 (length b.kept) refl
