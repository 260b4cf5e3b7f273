-- Clauses of the promise that each see a wrong store alone, without the others. The runs are in proofs/RefutingCut, RefutingOlder,
-- RefutingClauses, RefutingShares, RefutingConverts, RefutingTorn and RefutingPlaced.
use Rattle.board.specs.Claim.{Claim}
use Rattle.board.specs.CutFormat.{CutFormat}
use Rattle.board.specs.Demand2.{UsableFrom}
use Rattle.refuted.specs.Wrong.{off_bench, refuses_half_erased, takes_half_erased, waits_long, formats_blindly, erases_one}
use Rattle.refuted.specs.WrongShares.{full_by_image}
use Rattle.refuted.specs.WrongEditions.{drops_first, torn_foreign}
use Rattle.refuted.specs.WrongMends.{finish_first, closes_alone, high_first, end_stays_of}
use Rattle.refuted.specs.WrongPlaces.{places_stay, delete_stays}

pub record Seen : Type 0 where
  -- demand 3: a half-erased half that is foreign; the store before K4
  pub refuses-half-erased : Claim 2 (off_bench refuses_half_erased 2) → ⊥
  -- demand 3: one that still reads as valid, K4's hard case
  pub takes-half-erased : Claim 2 (off_bench takes_half_erased 2) → ⊥
  -- demand 3: a request of S + 1 steps
  pub waits-long : Claim 2 (off_bench waits_long 2) → ⊥
  -- demand 3, K7: a host's pending frames come to more than S/2 bytes
  pub full-by-image : Claim 2 (off_bench full_by_image 2) → ⊥
  -- demand 3, K9: a convert that drops an object; a torn frame of edition 2 that makes its block foreign
  pub drops-first : Claim 2 (off_bench drops_first 2) → ⊥
  pub torn-foreign : Claim 2 (off_bench torn_foreign 2) → ⊥
  -- demand 3, K11: a torn commit that is whole after the closing's first step; one whose changes are still pending after the mount; a frame that is no
  -- longer torn when its closing is cut
  pub finish-first : Claim 2 (off_bench finish_first 2) → ⊥
  pub closes-alone : Claim 2 (off_bench closes_alone 2) → ⊥
  pub high-first : Claim 2 (off_bench high_first 2) → ⊥
  -- demand 3, K8: a read after a convert gets 11; a record at rest has a place for a deleted id
  pub places-stay : Claim 2 (off_bench places_stay 2) → ⊥
  pub delete-stays : Claim 2 (off_bench delete_stays 2) → ⊥
  -- a format that erases the store's block first
  pub formats-blindly : CutFormat 2 (off_bench formats_blindly 2) → ⊥
  -- a mount that answers 0 and leaves a block that isn't blank beside the store
  pub erases-one : UsableFrom 3 (off_bench erases_one 3) → ⊥
  -- K11: one that answers 0 with the end before the frame that it closed
  pub end_stays : UsableFrom 2 (off_bench end_stays_of 2) → ⊥
