-- A text that is cut at a byte, and the lines of a text (`lines`).
pub mod Cuts
pub mod LineLemmas
-- Decimal numbers (`decimals`), and bytes as a script spells them (`data`).
pub mod DecimalLemmas
pub mod DataLemmas
pub mod DelayLemmas
-- What a line says (`grammar`): zeros that are limited, bytes that are printable, what lines say, the length of a piece
-- (`script`).
pub mod FreeLines
pub mod Printable
pub mod Steps
pub mod Settings
pub mod Pieces
pub mod Sayables
-- A provider that was not handed is not asked for (`laws`).
pub mod Handed
-- What follows the most that is read says nothing (`answering`: `outcome`).
pub mod MostRead
pub mod MostParsed
-- The lines of a report (`report`).
pub mod Entries
pub mod Reports
pub mod FrameLines
pub mod EventLines
-- A generated script, and its summary (`generator`, `summary`).
pub mod Generating
-- A generated script is taken (`laws`): lines that say steps, what each says, and those of the script.
pub mod TakenLines
pub mod SpelledLines
pub mod GeneratedLines
-- A count of failures (`memory_ends`, `stream_ends`).
pub mod Faults
-- What was read and what was written (`transfer`).
pub mod Streams
-- A replay, from the contracts of the port and the engine; the statuses (`answering`).
pub mod Replaying
pub mod Statuses
