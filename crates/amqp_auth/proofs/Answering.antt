-- What the provider of an address refuses is what it answers.
use Rattle.std.proofs.Common.{◌≡◌, sym, subst, ap, ◌∙◌, [], ◌∷◌, Result, Err}
use Rattle.amqp_types.specs.declared.strings.LongString.{LongString}
use Rattle.amqp_types.specs.declared.text.Text.{Text}
use Rattle.amqp_uri.specs.declared.mechanism.SASLMechanism.{SASLMechanism}
use Rattle.amqp_uri.specs.Login.{Login}
use Rattle.amqp_auth.specs.declared.asked.Question.{Question}
use Rattle.amqp_auth.specs.declared.asked.Asked.{Asked}
use Rattle.amqp_auth.specs.declared.asked.Refusal.{Refusal}
use Rattle.amqp_auth.specs.declared.asked.Refusal.TheVariants.{Said}
use Rattle.amqp_auth.specs.Providers.{Exchange, Allows, Replies}
use Rattle.amqp_auth.specs.DefaultAnswers.{default_answer, AnswersEach}

answers-rest : (f : Question → Asked) (rest : Exchange) → Allows (AnswersEach f) rest → AnswersEach f rest
answers-rest f [] h = tt
answers-rest f (first ∷ rest) h = h

by-function : (f g : Question → Asked) (asked : Question) (form : Result LongString Text → Asked) (text : Text) (r : Refusal) → g ≡ f
    → r ≡ Said text → form (Err text) ≡ f asked → Replies (AnswersEach f) (AnswersEach g) asked form (Err r)
by-function f g asked form text r kept said same =
    subst (λ (h : Question → Asked). Replies (AnswersEach f) (AnswersEach h) asked form (Err r)) (sym kept)
    (subst (λ (x : Refusal). Replies (AnswersEach f) (AnswersEach f) asked form (Err x)) (sym said) (λ rest allowed. (same, answers-rest f rest allowed)))

pub refuses : (m m' : SASLMechanism) (l l' : Login) (asked : Question) (form : Result LongString Text → Asked) (text : Text) (r : Refusal)
    → m' ≡ m → l' ≡ l → r ≡ Said text → form (Err text) ≡ default_answer m l asked
    → Replies (AnswersEach (default_answer m l)) (AnswersEach (default_answer m' l')) asked form (Err r)
refuses m m' l l' asked form text r mechanism login said same =
    by-function (default_answer m l) (default_answer m' l') asked form text r
    (ap (λ (x : SASLMechanism). default_answer x l') mechanism ∙ ap (default_answer m) login) said same
