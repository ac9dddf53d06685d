use Rattle.std.proofs.Common.{refl}
use Rattle.amqp_journal.specs.declared.entry.Entry.TheVariants as entry
use Rattle.amqp_journal.proofs.Journal.{stands-new, stands-told, stands-turned, stands-answer, stands-frames, stands-event, stands-settled}
use Rattle.amqp_journal.proofs.laws.the_journal_is_kept.Goals as goal

pub returns : goal.returns
returns c =
    record {
      new = stands-new;
      called = λ base x js pass nth c promise sound h. stands-told base js x h (entry.Called pass nth c promise) c (λ e. refl) sound;
      own = λ base x js c sound h. stands-told base js x h (entry.Own c) c (λ e. refl) sound;
      turn = λ base x js u sound h. stands-turned base js x h u sound;
      answer = λ base x js n h. stands-answer base js x h n;
      frames = λ base x js n h. stands-frames base js x h n;
      event = λ base x js h. stands-event base js x h;
      settled = λ base x js h. stands-settled base js x h;
    }
