-- The bench rows of the machine, and that the promise refutes each wrong store. Each file's first line says what it proves.
pub mod Bench  -- the starred rows
pub mod RefutingRuns  -- the runs that tell, computed
pub mod RefutingEditions  -- those of K9's
pub mod RefutingMends  -- those of K11's
pub mod RefutingPlaces  -- those of K8's
pub mod RefutingWear  -- those of K12's
pub mod Refuting  -- none of them keeps the promise
pub mod RefutingCut  -- demand 3 sees one that refuses a half-erased half
pub mod RefutingOlder  -- demand 3 sees one that takes it for the current one
pub mod RefutingShares  -- demand 3 sees one whose hosts may have more than S/2 bytes pending
pub mod RefutingConverts  -- and one whose convert drops an object, one that finds a torn frame of edition 2 foreign
pub mod RefutingTorn  -- and K11's that are wrong in a closing
pub mod RefutingPlaced  -- and K8's whose places are wrong at rest
pub mod RefutingBounds  -- K12's bounds see those that wear the flash
pub mod RefutingClauses  -- other clauses that see one alone
pub mod RowsKept  -- and yet one that is wrong only off the bench is right in every row
pub mod RefutingRows  -- as all of them are
