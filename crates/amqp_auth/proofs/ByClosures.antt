-- Tokens by two closures.
use Rattle.std.proofs.Common.{◌≡◌, subst, ℕ, List, [], ◌∷◌, Option, Some, Result}
use Rattle.amqp_types.specs.declared.strings.LongString.{LongString}
use Rattle.amqp_auth.specs.declared.asked.Refusal.{Refusal}
use Rattle.amqp_auth.specs.Tokens.{Tokens, AllowsTokens, ByClosures}

-- what may come from a state of closures is by them, if it is nothing too
ByClosures-all : (valid : List ℕ → Option ℕ → Type 0) (make : Result LongString Refusal → Type 0)
    (last : Option (List ℕ)) (rest : Tokens) → AllowsTokens (ByClosures valid make last) rest
    → ByClosures valid make last rest
ByClosures-all valid make last [] allowed = tt
ByClosures-all valid make last (first ∷ rest) allowed = allowed

-- the same where an equal token is the last one
pub ByClosures-at : (valid : List ℕ → Option ℕ → Type 0) (make : Result LongString Refusal → Type 0)
    (copy token : List ℕ) (rest : Tokens) → copy ≡ token → AllowsTokens (ByClosures valid make (Some copy)) rest
    → ByClosures valid make (Some token) rest
ByClosures-at valid make copy token rest same allowed =
    subst (λ last. ByClosures valid make (Some last) rest) same (ByClosures-all valid make (Some copy) rest allowed)
