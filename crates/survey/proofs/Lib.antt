-- The code reads what the definitions say, by subject. Each file's first line says what it proves; here who needs it.

pub mod Headers  -- a header's tests: for src/header
pub mod Indexing  -- where a commit's pass may start: for Passing
pub mod Committing  -- a commit's pass over heads, and how long those are: for Passing, src/pass, src/block
pub mod Passing  -- one frame of the pass: for HeadLaws and src/block
pub mod HeadLaws  -- the same laws by the heads that the code reads: for src/pass, src/block
pub mod Collecting  -- the settled values' lengths by their places: for Surveying
pub mod Surveying  -- a survey by the way the code goes: for src/block, store
