-- what the words behind a program's name ask for
pub mod Wanted
-- the options of the program
pub mod Options
-- what an answer of the broker means in confirm mode
pub mod Confirms
-- what a broker tells by a method
pub mod Heard
-- the message that arrives, frame by frame
pub mod Arriving
-- how bodies stand one after another in a stream of octets
pub mod Bodies
-- what a sink was given, and how bodies stand in it
pub mod Sink
-- which deliveries of a link may be acknowledged
pub mod Tags
-- the names of messages that were printed
pub mod Names
-- what was acknowledged, and what whoever looks on saw of it
pub mod Acknowledged
-- which messages were printed and acknowledged, and are known to be
pub mod Taking
