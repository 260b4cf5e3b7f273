-- The numbers of include/grommetide.h that are no answer of the board's: 252, 253, 254 and the record's size.
use Rattle.std.specs.Prelude.{◌≡◌, List, [], ℕ, length}
use Rattle.board.specs.declared.Next.TheVariants as next
use Rattle.lent.specs.Layout.{record_size}
use Rattle.edge.specs.Edge.{edge, edge_request, edge_step, edge_made, edge_mount, edge_format, place, edge_read, tells, told, edge_next, run, edge_run}

-- GROMMETIDE_PROGRAM: "a byte is to be programmed"; GROMMETIDE_ERASE: "a block is to be erased"; GROMMETIDE_RECORD_BYTES
pub record NumbersExact : Type 0 where
  pub program : (at v : ℕ) → (tells (next.Program at v)).answer ≡ 252
  pub erase : (at n : ℕ) → (tells (next.Erase at n)).answer ≡ 253
  pub record-bytes : record_size ≡ 1084

-- GROMMETIDE_WRONG_RECORD: "record_len is not GROMMETIDE_RECORD_BYTES; nothing was done", by any call that takes a record
pub record WrongRecord (N : ℕ) (img b : List ℕ) : Type 0 where
  pub request : (h : ℕ) (m reply : List ℕ) → edge_request N img b h m reply ≡ edge 254 img b reply
  pub step : edge_step N img b ≡ edge 254 img b []
  pub made : edge_made N img b ≡ edge 254 img b []
  pub mount : edge_mount N img b ≡ edge 254 img b []
  pub format : edge_format N img b ≡ edge 254 img b []
  pub read : (h : ℕ) (m : List ℕ) (at size : ℕ) → edge_read N img b h m at size ≡ place 254 at size
  pub next : (n at size byte : ℕ) → edge_next N n b at size byte ≡ told 254 at size byte
  pub run : (n steps : ℕ) → edge_run N img b n steps ≡ run 254 steps img b

unfoldable pub WrongRecordExact : Type 0
WrongRecordExact = (N : ℕ) (img b : List ℕ) → (length b ≡ 1084 → ⊥) → WrongRecord N img b
