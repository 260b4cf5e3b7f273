-- The laws of frames, by subject. Each file's first line says what it proves; here who needs it.

-- ---- bytes of frames
pub mod ByKind  -- each kind's bytes in the papers' numbers: to read
pub mod Encode  -- lengths and bytes: for the files below
pub mod Stores  -- seals in a buffer: for src/bytes; a copy: for wire
-- ---- the reader
pub mod Fit  -- bytes held against slots: for Own, Shape, Layouts, Exact
pub mod Own  -- each kind: its length, its layout, its bytes read back: for Shape, Exact, src/reader
pub mod Shape  -- and what fits a layout is a frame: for Layouts, Faults
pub mod Layouts  -- frames and slots, every kind and edition at once: for Exact, Faults
pub mod BeingClosed  -- a frame that is being closed: for Exact, Closing, src/reader
pub mod Exact  -- document 01's sentences on a frame: for Scanned, Sentences, the crates above
pub mod Fields  -- fields of frames, the first bad one: for Faults, journal
pub mod Faults  -- where the reader says wrong: for Sentences, src/reader, journal
pub mod Sentences  -- all of them: to read
pub mod Closing  -- a torn frame closed in place, step by step: for the crates above
pub mod Heads  -- a frame is its head and its value: for the crates above
-- ---- journals
pub mod Scanning  -- frames written are read back: for the crates above
pub mod Scanned  -- any bytes read as a journal: for the crates above
-- ---- rows
pub mod Examples  -- rows b and c, a frame closed in place
