-- What is made of the answer to a promise.
use Rattle.std.specs.Prelude.{◌≡◌, ℕ, Bool, Option, Some, None, Result, Ok, Err}
use Rattle.amqp_promise.specs.declared.error.ErrorKind.{ErrorKind}
use Rattle.amqp_promise.specs.declared.error.ErrorKind.TheVariants.{NoMemory}
use Rattle.amqp_answers.specs.declared.answer.Answer.{Answer}
use Rattle.amqp_answers.specs.declared.answer.Answer.TheVariants as answer
use Rattle.lapin_connection.specs.declared.channel.Channel.{Channel}

-- a command that opens nothing and tells nothing was done
abbrev pub done_by : Answer → Result (Unit {0}) ErrorKind
done_by answer.Connected = Ok tt
done_by answer.Done = Ok tt
done_by answer.Sent = Ok tt
done_by _ = Err NoMemory

-- whether the server sends content
abbrev pub flow_by : Answer → Result Bool ErrorKind
flow_by (answer.Flow active) = Ok active
flow_by _ = Err NoMemory

-- the channel that was made for the answer, with the number and the promise that it names
abbrev pub channel_by : Answer → Option Channel → Result Channel ErrorKind
channel_by (answer.Channel id opened) (Some c) = Ok (record c { id = id; opened = opened })
channel_by _ channel = Err NoMemory

-- an answer that a channel is open names the promise that it answers
abbrev pub NamesPromise : ℕ → Result Answer ErrorKind → Type 0
NamesPromise number answered = (id opened : ℕ) → answered ≡ Ok (answer.Channel id opened) → opened ≡ number

-- what is given was made of an answer to this promise
abbrev pub IsMadeBy : {A : Type 0} → (Answer → Option Channel → Result A ErrorKind) → ℕ → A → Type 0
IsMadeBy made number x =
    (told : Answer) × (channel : Option Channel) × (made told channel ≡ Ok x) × NamesPromise number (Ok told)

-- the same, where it is no error
abbrev pub IsGivenBy : {A : Type 0} → (Answer → Option Channel → Result A ErrorKind) → ℕ → Result A ErrorKind
    → Type 0
IsGivenBy made number (Ok x) = IsMadeBy made number x
IsGivenBy made number (Err e) = Unit {0}
