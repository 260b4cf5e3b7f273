-- For each wrong store of WrongWear a short run that tells it from the machine, as in WrongRuns; and that K12's bounds see each of them alone.
use Rattle.std.specs.Prelude.{List, [], ◌∷◌, ◌++◌, ℕ}
use Rattle.board.specs.Exec.{mount, step}
use Rattle.board.specs.Endurance.{Enduring}
use Rattle.refuted.specs.Wrong.{off_bench}
use Rattle.refuted.specs.WrongRuns.{Differs, answered, byte_at, half, blank_half, stored, nearly_full, filler, stepping, put_empty, put_cd}
use Rattle.refuted.specs.WrongWear.{transfers_always, transfers_half_full, erases_target}

-- a closed frame up to 196, S/2 being 192
unfoldable pub over_half : List ℕ
over_half = half 1 (filler 180 ∷ []) ++ blank_half

pub record WearRuns : Type 0 where
  -- a put of eight steps
  pub transfers-always : Differs 2 transfers_always stored (mount ∷ put_empty 7 ∷ stepping 8 []) answered 255 0
  pub transfers-half-full : Differs 2 transfers_half_full over_half (mount ∷ put_empty 7 ∷ stepping 8 []) answered 255 0
  -- the second half's state byte; 376 + 10 > 384
  pub erases-target : Differs 2 erases_target nearly_full (mount ∷ put_cd ∷ step ∷ []) (byte_at 392) 0xFF 0xFE

pub record WearSeen : Type 0 where
  -- (E - 1)·(S + 1 - M) > B + R
  pub transfers-always : Enduring 2 (off_bench transfers_always 2) → ⊥
  pub transfers-half-full : Enduring 3 (off_bench transfers_half_full 3) → ⊥
  -- a step call that is none of the job's steps
  pub erases-target : Enduring 2 (off_bench erases_target 2) → ⊥
