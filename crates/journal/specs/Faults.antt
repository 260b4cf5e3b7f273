-- Where a foreign half is wrong, document 02, K5: "A bad header counts as wrong"; else the reader's fault behind the whole frames.
use Rattle.std.specs.Prelude.{List, [], ◌∷◌, ◌++◌, ◌⊎◌, ◌≡◌, ℕ, ◌+◌, ◌≤◌, take}
use Rattle.frame.specs.declared.Edition.{Edition}
use Rattle.frame.specs.declared.Fault.{Fault}
use Rattle.frame.specs.declared.Field.TheVariants as field
use Rattle.frame.specs.Frame.{Frame, encode_all, total, AllMayStand, next_of}
use Rattle.frame.specs.Reader.{fault}
use Rattle.frame.specs.Sentences.{Span, span, Among, WrongAt}
use Rattle.journal.specs.Block.{header_len, last_time, valid_data, header}

-- the rows of document 01's table of the header, in address order
abbrev pub header_fields : List Span
header_fields = span field.Length 0 2 ∷ span field.Kind 2 4 ∷ span field.Created 4 8 ∷ span field.State 8 9 ∷ span field.Spare 9 16 ∷ []

-- up to j the bytes are as the table says of an edition, with "creation time, 1 to 4,294,967,295" and "0xFC valid data"
pub record HeaderTo (b : List ℕ) (j : ℕ) (ed : Edition) (t : ℕ) : Type 0 where
  pub time_lo : 1 ≤ t
  pub time_hi : t ≤ last_time
  pub bytes : take j b ≡ take j (header ed t valid_data)

-- "the first bad field": up to its end the bytes begin no header, up to its start they do. A time never programmed would be 0.
pub record BadHeader (b : List ℕ) (e : Fault) : Type 0 where
  pub span : Span
  pub has : Among span header_fields
  pub edition : Edition
  pub time : ℕ
  pub before : HeaderTo b span.start edition time
  pub none : (ed : Edition) (t : ℕ) → HeaderTo b span.end ed t → ⊥
  pub is : e ≡ fault span.field span.start

-- the header is right, whole legal frames follow it, and what follows them is wrong
pub record BadFrame (b : List ℕ) (e : Fault) : Type 0 where
  pub edition : Edition
  pub time : ℕ
  pub frames : List Frame
  pub rest : List ℕ
  pub bytes : b ≡ header edition time valid_data ++ (encode_all edition frames ++ rest)
  pub time_lo : 1 ≤ time
  pub time_hi : time ≤ last_time
  pub stand : AllMayStand edition 0 frames
  pub wrong : WrongAt edition (next_of 0 frames) (header_len + total edition frames) rest e

abbrev pub FaultIn : List ℕ → Fault → Type 0
FaultIn b e = BadHeader b e ⊎ BadFrame b e
