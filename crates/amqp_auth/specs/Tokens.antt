-- What a provider of tokens may answer, and what the provider answers that logs in by them.
use Rattle.std.specs.Prelude.{ℕ, ◌≡◌, ◌<◌, ◌^◌, List, [], ◌∷◌, ◌++◌, length, drop, codes, Option, Some, None, Result, Ok, Err}
use Rattle.amqp_types.specs.declared.strings.LongString.{LongString}
use Rattle.amqp_types.specs.declared.text.Text.{Text}
use Rattle.amqp_uri.specs.declared.mechanism.SASLMechanism.TheVariants.{Plain}
use Rattle.amqp_uri.specs.Login.{sasl_text}
use Rattle.amqp_uri.specs.Mechanisms.{name_of}
use Rattle.amqp_auth.specs.declared.asked.Question.{Question}
use Rattle.amqp_auth.specs.declared.asked.Question.TheVariants as question
use Rattle.amqp_auth.specs.declared.asked.Asked.{Asked}
use Rattle.amqp_auth.specs.declared.asked.Asked.TheVariants as answer
use Rattle.amqp_auth.specs.declared.asked.Refusal.{Refusal}
use Rattle.amqp_auth.specs.declared.asked.Refusal.TheVariants.{Said, NoMemory}
use Rattle.amqp_promise.specs.Shown.{shown}
use Rattle.amqp_auth.specs.Providers.{Exchange}

-- ---- a provider of tokens

-- an answer of a provider of tokens
pub data TokenAnswer : Type 0 where
  -- for how many milliseconds the last token is valid, where the provider can tell
  lasts : Option ℕ → TokenAnswer
  -- a new token, or the text that was said
  created : Result LongString Text → TokenAnswer

-- its answers, in order
abbrev pub Tokens : Type 0
Tokens = List TokenAnswer

-- answers may come from a provider's state: none always, and others where the state says so
abbrev pub AllowsTokens : (Tokens → Type 0) → Tokens → Type 0
AllowsTokens state [] = Unit {0}
AllowsTokens state (first ∷ rest) = state (first ∷ rest)

-- what the later state allows is allowed by the earlier one with this answer in front
abbrev pub LeadsToken : (Tokens → Type 0) → (Tokens → Type 0) → TokenAnswer → Type 0
LeadsToken before after given = (rest : Tokens) → AllowsTokens after rest → before (given ∷ rest)

-- the time was told for which the last token is valid
abbrev pub LastsToken : (Tokens → Type 0) → Option ℕ → Type 0
LastsToken state time = LeadsToken state state (lasts time)

-- a token was asked for; nothing is said where memory was refused
abbrev pub Creates : (Tokens → Type 0) → (Tokens → Type 0) → Result LongString Refusal → Type 0
Creates before after (Ok token) = LeadsToken before after (created (Ok token))
Creates before after (Err (Said text)) = LeadsToken before after (created (Err text))
Creates before after (Err NoMemory) = Unit {0}

-- ---- the provider over it

-- what a client says first by a token: PLAIN, with the empty user and the token for the password
abbrev pub starter_of : List ℕ → List ℕ
starter_of token = sasl_text Plain (record { username = []; password = token })

-- the token in what is said first, which stands behind two 00
abbrev pub token_in : List ℕ → List ℕ
token_in starter = drop 2 starter

-- the refusal of a challenge
abbrev pub unknown_challenge : List ℕ → List ℕ
unknown_challenge challenge =
    codes "Received Connection.Secure with challenge '"
    ++ (shown challenge ++ (codes "' but we don't know how to handle it for " ++ (name_of Plain ++ codes ".")))

-- what the provider of tokens answered in an exchange of the provider over it
abbrev pub tokens_of : Exchange → Tokens
tokens_of [] = []
tokens_of ((asked, answer.Starter (Ok starter)) ∷ rest) = created (Ok (token_in starter)) ∷ tokens_of rest
tokens_of ((asked, answer.Starter (Err text)) ∷ rest) = created (Err text) ∷ tokens_of rest
tokens_of ((asked, answer.Refreshed given) ∷ rest) = created given ∷ tokens_of rest
tokens_of ((asked, answer.ValidFor time) ∷ rest) = lasts time ∷ tokens_of rest
tokens_of (other ∷ rest) = tokens_of rest

-- an answer has its question's form: PLAIN is the mechanism, what is said first is that of a token which a message can
-- hold, and no challenge is known
abbrev pub IsTokenAnswer : Question → Asked → Type 0
IsTokenAnswer question.Mechanism (answer.Mechanism name) = name ≡ name_of Plain
IsTokenAnswer question.Starter (answer.Starter (Ok starter)) =
    (starter ≡ starter_of (token_in starter)) × (length (token_in starter) < 2 ^ 31)
IsTokenAnswer question.Starter (answer.Starter (Err text)) = Unit {0}
IsTokenAnswer (question.Challenge challenge) (answer.Challenge given) = given ≡ Err (unknown_challenge challenge)
IsTokenAnswer question.ValidFor (answer.ValidFor time) = Unit {0}
IsTokenAnswer question.Refresh (answer.Refreshed given) = Unit {0}
IsTokenAnswer asked given = ⊥

-- all answers of an exchange have it
abbrev pub AreTokenAnswers : Exchange → Type 0
AreTokenAnswers [] = Unit {0}
AreTokenAnswers ((asked, given) ∷ rest) = IsTokenAnswer asked given × AreTokenAnswers rest

-- an exchange of the provider over a state of tokens
abbrev pub OverTokens : (Tokens → Type 0) → Exchange → Type 0
OverTokens state exchange = AreTokenAnswers exchange × AllowsTokens state (tokens_of exchange)

-- ---- tokens by two closures

-- for how long the last token is valid: by what the closure states, and unknown before there is a token
abbrev pub IsValidFor : (List ℕ → Option ℕ → Type 0) → Option (List ℕ) → Option ℕ → Type 0
IsValidFor valid None time = time ≡ None
IsValidFor valid (Some token) time = valid token time

-- answers by what the two closures state of theirs, and by the last token, which each new one replaces
abbrev pub ByClosures : (List ℕ → Option ℕ → Type 0) → (Result LongString Refusal → Type 0) → Option (List ℕ)
    → Tokens → Type 0
ByClosures valid make last [] = Unit {0}
ByClosures valid make last (lasts time ∷ rest) = IsValidFor valid last time × ByClosures valid make last rest
ByClosures valid make last (created (Ok token) ∷ rest) = make (Ok token) × ByClosures valid make (Some token) rest
ByClosures valid make last (created (Err text) ∷ rest) = make (Err (Said text)) × ByClosures valid make last rest
