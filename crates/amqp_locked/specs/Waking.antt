-- For whom there is something after a turn.
use Rattle.std.specs.Prelude.{◌≡◌, ◌==◌, ◌||◌, ◌&&◌, not, nat_lt, Bool, true, [], length}
use Rattle.amqp_rules.specs.Ticks.{is_connected}
use Rattle.amqp_rules.specs.Writing.{frames_waiting}
use Rattle.amqp_locked.specs.declared.locked.Locked.{Locked}
use Rattle.amqp_locked.specs.declared.waking.Counts.{Counts}
use Rattle.amqp_locked.specs.declared.waking.News.{News}
use Rattle.amqp_locked.specs.declared.tasks.Tasks.{Tasks}

-- anything may be another than before: the connection is not open or was not, the number of its channels is another
-- one, or a step came, or a mark was acted on, by which anything may change
abbrev pub moved : Counts → Counts → Bool
moved before after =
    not (is_connected before.state) || (not (is_connected after.state)
    || (not (after.listed == before.listed) || not (after.seen.others == before.seen.others)))

-- frames came whole
abbrev pub came : Counts → Counts → Bool
came before after = not (after.seen.frames == before.seen.frames)

-- frames came whole on channels
abbrev pub came_on_channels : Counts → Counts → Bool
came_on_channels before after = not (after.seen.handed == before.seen.handed)

-- the port took octets
abbrev pub port_took : Counts → Counts → Bool
port_took before after = not (after.seen.taken == before.seen.taken)

-- it did while replies to frames that came on channels might wait
abbrev pub has_replied : Counts → Counts → Bool
has_replied before after = port_took before after && not (before.seen.handed == before.seen.replied)

-- less waits to go out
abbrev pub eased : Counts → Counts → Bool
eased before after = nat_lt after.waiting before.waiting || not (after.cleared == before.cleared)

-- for whom there is something: each kind of wait with what may make true what it waits for
abbrev pub news_after : Counts → Counts → News
news_after before after = record {
  answers = moved before after || (came before after || port_took before after);
  frames = moved before after || came_on_channels before after;
  events = moved before after || (came before after || has_replied before after);
  states = moved before after || came before after;
  room = moved before after || (eased before after || port_took before after);
  end = moved before after;
}

-- something for all who wait
abbrev pub news_for_all : News
news_for_all =
    record { answers = true; frames = true; events = true; states = true; room = true; end = true }

-- no task waits any more that waits for what there is something of
pub record AreWoken (news : News) (tasks : Tasks) : Type 0 where
  pub answers : news.answers ≡ true → tasks.answers.wakers ≡ []
  pub frames : news.frames ≡ true → tasks.frames.wakers ≡ []
  pub events : news.events ≡ true → tasks.events.wakers ≡ []
  pub states : news.states ≡ true → tasks.states.wakers ≡ []
  pub room : news.room ≡ true → tasks.room.wakers ≡ []

-- what is counted under a lock
abbrev pub counts_of : Locked → Counts
counts_of l = record {
  state = l.hub.engine.talk.state;
  listed = length l.hub.engine.talk.channels;
  waiting = frames_waiting l.hub.engine.talk;
  cleared = l.cleared;
  entries = length l.hub.journal;
  seen = l.seen;
}
