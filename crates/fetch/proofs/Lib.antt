-- The code finds what the definitions say. Each file's first line says what it proves; here who needs it.
pub mod FrameReads  -- a frame read somewhere in a block: for the files below, survey and the loops of src
pub mod Fetching  -- the next frame to copy, step by step: for src, survey
pub mod HeadLaws  -- the same by the heads that the code reads: for src
pub mod Copying  -- what an answer of `next_load` stands for: for job
