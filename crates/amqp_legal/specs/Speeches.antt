-- What a speech of the code stands for, and what was said in it.
use Rattle.std.specs.Prelude.{◌≡◌, ℕ, List, Option, Some, slice_index_or}
use Rattle.amqp_frame.specs.declared.frame.Frame.{Frame}
use Rattle.amqp_legal.specs.declared.speech.Speech.{Speech as Spoken}
use Rattle.amqp_legal.specs.Decider.{Speech, greeted, say_all}
use Rattle.amqp_legal.specs.declared.progress.Usage.{Usage}
use Rattle.amqp_legal.specs.declared.progress.Usage.TheVariants.{Shut}

-- the usage of each channel, of a list by number; a channel that is not listed is not open
abbrev pub usage_in : List Usage → ℕ → Usage
usage_in usages n = slice_index_or usages n Shut

-- what was said so far, as the decider sees it
abbrev pub speech_of : Spoken → Speech
speech_of s = record { stage = s.stage; usage = usage_in s.usages.items; content = s.content }

-- where frames lead that are said one after another once the protocol header was said: None, where one may not be said
abbrev pub after_header : List Frame → Option Speech
after_header frames = say_all (Some greeted) frames

-- the protocol header was said, and after it these frames, each of which might be said
abbrev pub HasSaid : List Frame → Spoken → Type 0
HasSaid frames s = after_header frames ≡ Some (speech_of s)
