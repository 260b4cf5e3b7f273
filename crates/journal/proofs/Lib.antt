-- The laws of journals, by subject. Each file's first line says what it proves; here who needs it.

-- ---- replay: objects, pending lists, room
pub mod Lookups  -- objects after a change: for the files below
pub mod Lists  -- pending lists after a frame: for Room, PerHost, board, store
pub mod Replaying  -- one frame more, and the frames of a state: for all below, board, store
pub mod Mapping  -- replay of frames with something else for the values: for Places, Pending, Tables
pub mod Room  -- what a state takes of a block: for board
pub mod PerHost  -- each host's pending bytes: for board, survey, serving
-- ---- blocks: header, state, making
pub mod Blocks  -- what shapes of a block read as: for States, Building, board
pub mod Faults  -- where a foreign block is wrong: for Sentences
pub mod States  -- what a block's state says of its bytes: for board, store
pub mod Sentences  -- document 01's sentence on the states of a half, a theorem to read: for Raising
pub mod Raising  -- document 02's sentence on a half whose erase was cut, and what stays harmless: for board
pub mod Before  -- the store before K9 and blocks of edition 2, a theorem to read
pub mod Building  -- a block made write by write: for board
pub mod Closing  -- a torn frame closed in place: for board
-- ---- places: where values and pending frames stand
pub mod Places  -- a place holds its value: for the files below, board, store
pub mod Pending  -- what is pending stands past `since`: for Loading, Tables, survey
pub mod Loading  -- a transfer's frames one after the other: for board
pub mod Tables  -- the places after one frame more: for Copied, board, survey
pub mod Copied  -- a transfer ends with the places of the block that it makes: for board
-- ---- document 01's sentences on what promise and machine share: theorems to read
pub mod ObjectLaws  -- objects after a put and a delete
pub mod ReplayLaws  -- replay, U and C
pub mod Sources  -- a value's place
-- ---- rows
pub mod Examples  -- rows a and k, and a commit beside another host's changes
