-- Images of an allowed length.
use Rattle.std.specs.Prelude.{◌≡◌, List, false, ℕ, length, Result, MatchResult}
use Rattle.wire.specs.declared.Refusal.{Refusal}
use Rattle.wire.specs.declared.Refusal.TheVariants as refusal
use Rattle.board.specs.Record.{allowed}
use Rattle.looks.specs.declared.image.Image.{Image}

-- an image in N blocks, or refusal 4: its length isn't allowed
abbrev pub Opens : List ℕ → ℕ → Result Image Refusal → Type 0
Opens img N r =
    MatchResult r (λ i. (i.bytes.now ≡ img) × (i.blocks ≡ N)) (λ e. (e ≡ refusal.ImageLength) × (allowed N (length img) ≡ false))
