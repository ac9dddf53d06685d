-- What each file proves. The proofs of one call stand in a folder of its name and cite these.

-- Small facts by cases, and on two slices and the pieces of a script.
pub mod Cases
pub mod Answering
pub mod Bytes
pub mod Pieces
-- What settling leaves, what committing a frame does, that reading goes on to the end, and that a piece is read part by part as at once.
pub mod Settling
pub mod Commits
pub mod Overlong
pub mod Reading
pub mod Joining
-- What a turn does to a session that had ended: `apply: over`.
pub mod Over
-- The lemma that lifts what each small step keeps to a turn and to turns.
pub mod Lifting
-- One offer, a turn from its step on, and turns one after another: `apply: turn`, `run: turns`, and the laws of runs.
pub mod Telling
pub mod Offers
pub mod Applying
pub mod Running
-- What is done goes by as many answers as were asked for, and the turns of a script: `run: played`, and the law that a script has its turns.
pub mod FirstAnswers
pub mod Playing
-- What an event that is taken leaves as it was. No whole frame is left unread: `read`, and its law, by lifting.
pub mod EventTaken
pub mod LeftUnread
-- What is left where a command was obeyed or refused memory, and where an event was taken: the invariants of a wire and of a loop.
pub mod Obeying
-- The bytes of each link, by lifting: the frames as their bytes are taken, what is left of the link at each step, the order in which they are sent, and
-- what a port tells of it.
pub mod Sent
pub mod Agreeing
pub mod LinkKept
pub mod Sends
pub mod LinkTold
-- The history of an engine that is new, and of turns. What is said on each link is a legal conversation, by lifting what the rules of the session keep; it keeps the numbers
-- that were agreed and can be written; and so it is read back.
pub mod HistoryBegun
pub mod Received
pub mod Committing
pub mod LegalLinks
pub mod Unchanged
pub mod SpokenLinks
pub mod WrittenLinks
pub mod SpelledLinks
pub mod GoingOn
pub mod ToldScripts
-- What brings about an end with an error: `run: turns`, `apply: cause`, and the counts of faults and of refusals.
pub mod ReadEnds
pub mod TurnEnds
pub mod Faults
pub mod Blaming
-- What a client was told to send is what went out: what is known of all links once frames were sent, and so through turns, with who opened each channel.
pub mod History
pub mod Departing
pub mod Passing
pub mod Conveying
pub mod WentOut
-- What was handed out came: the frames that are read stand in the octets of their link, and each was handed out by the promise that opened its channel
-- last.
pub mod FrontWider
pub mod Answered
pub mod Knowing
pub mod Parting
pub mod CameIn
pub mod CameRead
-- Both together, through the whole history of an engine, and so through runs, single turns, and what is told and taken between them: the law that what is told is
-- carried, and the clauses `carried`.
pub mod HistoryKept
pub mod Accounting
pub mod Carrying
-- A script of a faultless server ends closed: what is committed is said to the server.
pub mod SpeaksAll
-- The parts of a turn keep the tie of server and session: the step, what stands at the front, and all that is read of what has come.
pub mod Follows
pub mod Serving
pub mod Heeding
pub mod Short
pub mod Asks
pub mod Offering
-- The writes of a turn keep it: all that may go out is sent and said, and nothing is left unsent.
pub mod Goes
pub mod Draining
pub mod Voicing
pub mod Drained
-- A script whose link takes all and stays is played on: its steps come in order, and all that is offered is taken.
pub mod PlayedOn
-- No heartbeat is missed where the server is timely; no turn is cut; what the provider answers in a turn; what was sent stays; and the first tune-ok that was
-- said has what was agreed.
pub mod Timely
pub mod Clocks
pub mod Uncut
pub mod Replies
pub mod Grown
pub mod TunedWrites
-- A turn keeps it, and so do turns, until the session has ended Closed.
pub mod OnReading
pub mod Hearkens
pub mod Stepping
pub mod Farewell
pub mod Begun
pub mod Turned
pub mod Rounds
pub mod Closed
-- What an engine is made from can be said.
pub mod BuiltSaid
-- memory refused before a turn
pub mod Starved
