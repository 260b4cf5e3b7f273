-- Wear, document 02, K12: "For any run of requests and steps after a finished mount, each getting what the last gave back, without mounts, formats or
-- converts, let E be the erase steps on the settings image and B the bytes of its accepted frames." Of every machine that keeps the promise, and from any
-- image and any record in no job: what a finished mount gives back is one.
use Rattle.std.specs.Prelude.{List, [], ◌∷◌, Bool, true, false, not, ◌||◌, ◌↔◌, ◌≡◌, ℕ, zero, suc, ◌+◌, ◌-◌, ◌*◌, ◌/◌, ◌≤◌, ◌<◌, eqb, length, get_or}
use Rattle.std.specs.Int.Bits.{bit_and}
use Rattle.flash.specs.Bytes.{Bytes}
use Rattle.flash.specs.Flash.{Step, program, erase, size_of}
use Rattle.frame.specs.declared.Edition.{Edition}
use Rattle.journal.specs.Block.{Journal}
use Rattle.journal.specs.Laws.{by_edition}
use Rattle.wire.specs.declared.Answer.{Answer}
use Rattle.wire.specs.declared.Answer.TheVariants.{Done, More, Refused}
use Rattle.wire.specs.declared.Request.TheVariants.{Convert}
use Rattle.wire.specs.Sentences.{Means}
use Rattle.board.specs.declared.Phase.TheVariants.{Idle}
use Rattle.board.specs.declared.Record.{Record}
use Rattle.board.specs.Record.{allowed, reads_in, Out}
use Rattle.board.specs.Mount.{claimed_of}
use Rattle.board.specs.Exec.{Machine, Call, request, step, mount, format}
use Rattle.board.specs.Table.{Fresh}
use Rattle.board.specs.Demand1.{Rests}
use Rattle.board.specs.Claim.{steps_on}
use Rattle.board.specs.Promise.{Promise}
use Rattle.board.specs.Wear.{Does, Worked, erases_of}

-- ---- what is counted

-- some bit rose, from the bytes before to those after
unfoldable pub rose : List ℕ → List ℕ → Bool
rose [] after = false
rose (b ∷ before) [] = false
rose (b ∷ before) (a ∷ after) = not (eqb (bit_and a b) a) || rose before after

unfoldable pub RoseExact : Type 0
RoseExact =
    (before after : List ℕ) → length before ≡ length after
    → (rose before after ≡ true) ↔ ((i : ℕ) × (bit_and (get_or after i 0) (get_or before i 0) ≡ get_or after i 0 → ⊥))

-- E, B, and R: the bytes of the frames whose job made an erase that was not the first; and the bytes of the frame that was accepted last
pub record Tally : Type 0 where
  pub erases : ℕ
  pub bytes : ℕ
  pub caused : ℕ
  pub frame : ℕ

abbrev pub no_tally : Tally
no_tally = record { erases = 0; bytes = 0; caused = 0; frame = 0 }

-- a frame has its message's bytes, a host and a finish byte; in edition 2 "four bytes of CRC-32" too
abbrev pub frame_bytes : Edition → List ℕ → ℕ
frame_bytes ed msg = length msg + by_edition ed 2 6

abbrev pub accepting : ℕ → Tally → Tally
accepting n t = record { erases = t.erases; bytes = t.bytes + n; caused = t.caused; frame = n }

-- a request that is answered more has a frame to append, where it is no convert
abbrev pub answered : Answer → ℕ → Tally → Tally
answered Done n t = t
answered More n t = accepting n t
answered (Refused why) n t = t

-- the first erase has no cause that counts
abbrev pub causing : ℕ → ℕ → ℕ
causing zero n = 0
causing (suc e) n = n

abbrev pub erasing : Bool → Tally → Tally
erasing false t = t
erasing true t =
    record { erases = suc t.erases; bytes = t.bytes; caused = t.caused + causing t.erases t.frame; frame = t.frame }

-- "the erase steps on the settings image": the step calls after which some bit of it rose
abbrev pub tallied : List ℕ → Record → Call → Out → Tally → Tally
tallied img r (request h msg reply) o t = answered o.answer (frame_bytes (reads_in r) msg) t
tallied img r step o t = erasing (rose img o.image) t
tallied img r mount o t = t
tallied img r format o t = t

abbrev pub tally : Machine → List ℕ → Record → Tally → List Call → Tally
tally m img r t [] = t
tally m img r t (c ∷ cs) = let o : Out = m img r c in tally m o.image o.board (tallied img r c o t) cs

-- ---- the run

-- "requests and steps .., each getting what the last gave back, without mounts, formats or converts": a convert that begins no job does no harm
abbrev pub RequestRun : Machine → List ℕ → Record → List Call → Type 0
RequestRun m img r [] = Unit {0}
RequestRun m img r (request h msg reply ∷ cs) =
    let o : Out = m img r (request h msg reply) in Bytes msg × (o.answer ≡ More → Means msg Convert → ⊥) × RequestRun m o.image o.board cs
RequestRun m img r (step ∷ cs) = let o : Out = m img r step in RequestRun m o.image o.board cs
RequestRun m img r (mount ∷ cs) = ⊥
RequestRun m img r (format ∷ cs) = ⊥

-- "C at most .. at each transfer": where a frame is accepted that needs one, "if end + n exceeds S"
abbrev pub ClaimedAtMost : ℕ → Machine → ℕ → List ℕ → Record → List Call → Type 0
ClaimedAtMost N m most img r [] = Unit {0}
ClaimedAtMost N m most img r (request h msg reply ∷ cs) =
    let o : Out = m img r (request h msg reply) in
    (o.answer ≡ More → (x : Journal) → Fresh N img r x → size_of N img < r.rest.end + frame_bytes (reads_in r) msg → claimed_of x ≤ most)
    × ClaimedAtMost N m most o.image o.board cs
ClaimedAtMost N m most img r (step ∷ cs) = let o : Out = m img r step in ClaimedAtMost N m most o.image o.board cs
ClaimedAtMost N m most img r (mount ∷ cs) = let o : Out = m img r mount in ClaimedAtMost N m most o.image o.board cs
ClaimedAtMost N m most img r (format ∷ cs) = let o : Out = m img r format in ClaimedAtMost N m most o.image o.board cs

-- ---- the bounds

-- how many of the steps are erases, whatever the block held
unfoldable pub erase_count : List Step → ℕ
erase_count [] = 0
erase_count (program k o v ∷ xs) = erase_count xs
erase_count (erase k ∷ xs) = suc (erase_count xs)

-- "With L = 248 for edition 1 and 252 for edition 2"
abbrev pub longest : Record → ℕ
longest r = by_edition (reads_in r) 248 252

-- of a run; E less one is 0 where E is 0
pub record Endures (N : ℕ) (m : Machine) (img : List ℕ) (r : Record) (cs : List Call) : Type 0 where
  -- every step call in a job does one flash step, and the erases among those steps are the step calls after which a bit rose: no blank block is erased
  pub worked : Worked N m img r cs
  pub each_rises : (xs : List Step) → Does N m img r [] cs xs → erase_count xs ≡ (tally m img r no_tally cs).erases
  -- with C at most M at each transfer
  pub strong : (most : ℕ) → ClaimedAtMost N m most img r cs
      → ((tally m img r no_tally cs).erases - 1) * (suc (size_of N img) - most) ≤ (tally m img r no_tally cs).bytes + (tally m img r no_tally cs).caused
  pub doubled : ClaimedAtMost N m (size_of N img / 2) img r cs
      → ((tally m img r no_tally cs).erases - 1) * (size_of N img / 2 + 1) ≤ 2 * (tally m img r no_tally cs).bytes
  -- "S/2 at least L, and C at most S/2 at each transfer, (E-1)·(S/2-L+1) is at most B"
  pub asked : longest r ≤ size_of N img / 2 → ClaimedAtMost N m (size_of N img / 2) img r cs
      → ((tally m img r no_tally cs).erases - 1) * (size_of N img / 2 - longest r + 1) ≤ (tally m img r no_tally cs).bytes
  -- an erase takes a frame, of at least a commit's bytes
  pub always : by_edition (reads_in r) 6 10 * (tally m img r no_tally cs).erases ≤ (tally m img r no_tally cs).bytes
  -- K14: "Larger boards want the wear spread": of a block that was erased e times
  pub spread : (xs : List Step) (k : ℕ) → Does N m img r [] cs xs → k < N → N * (erases_of k xs - 1) ≤ (tally m img r no_tally cs).erases - 1
  pub each_block : (xs : List Step) (k : ℕ) → Does N m img r [] cs xs → k < N → longest r ≤ size_of N img / 2
      → ClaimedAtMost N m (size_of N img / 2) img r cs
      → N * (erases_of k xs - 1) * (size_of N img / 2 - longest r + 1) ≤ (tally m img r no_tally cs).bytes

unfoldable pub Enduring : ℕ → Machine → Type 0
Enduring N m =
    (img : List ℕ) (r : Record) (cs : List Call) → Bytes img → allowed N (length img) ≡ true → Rests r.phase → RequestRun m img r cs → Endures N m img r cs

-- of every machine that keeps the promise
unfoldable pub FirmWear : Type 0
FirmWear = (N : ℕ) (m : Machine) → Promise N m → Enduring N m

-- "after a finished mount": of any image, once its step calls gave back an idle record
unfoldable pub FirmWearMounted : Type 0
FirmWearMounted =
    (N : ℕ) (m : Machine) → Promise N m → (img : List ℕ) (r : Record) (n : ℕ) (cs : List Call) → Bytes img → allowed N (length img) ≡ true
    → let o : Out = steps_on m n (m img r mount) in
    o.board.phase ≡ Idle → RequestRun m o.image o.board cs → Endures N m o.image o.board cs
