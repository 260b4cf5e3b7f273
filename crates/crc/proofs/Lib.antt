-- The laws of CRC-32, by subject.
pub mod Folds  -- byte by byte: for crc32
pub mod Linear  -- four bits more, and two bytes: for shifts and two32
pub mod Left  -- the table: for shifts
pub mod Small  -- below 2^32: for frame
pub mod Examples  -- the check value
