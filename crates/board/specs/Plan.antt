-- Plans: document 01's list of flash steps for each job, and the record after it.
use Rattle.std.specs.Prelude.{List, [], ◌∷◌, ◌++◌, map, cond, ◌≡◌, ℕ, suc, ◌+◌, ◌-◌, ltb, length}
use Rattle.flash.specs.Flash.{Step, program, erase, apply, size_of, Write, write_step, writes}
use Rattle.frame.specs.declared.Edition.{Edition}
use Rattle.frame.specs.declared.Edition.TheVariants as edition
use Rattle.frame.specs.Frame.{Frame, encode, frame_len}
use Rattle.journal.specs.Replay.{State, frames_of, settled_only}
use Rattle.journal.specs.Block.{Journal, build, header_len}
use Rattle.journal.specs.Room.{used}
use Rattle.journal.specs.Index.{places_of}
use Rattle.wire.specs.declared.Answer.TheVariants.{More}
use Rattle.board.specs.declared.Rest.{Rest}
use Rattle.board.specs.declared.Record.{Record}
use Rattle.board.specs.Record.{answer_of, out, no_places, rest, landing, ending, idle}
use Rattle.board.specs.Mount.{next_block, format_order, all_found, Store, store_at, wipe_list, Upkeep, rests, mends, moves, upkeep, replay_of, used_of, claimed_of}
use Rattle.board.specs.Mount.{places_in, closed_end, closes_for, due_reset, block_in}
use Rattle.board.specs.Queue.{counted}
use Rattle.board.specs.Exec.{Machine, step}

-- writes to block k, a step each
abbrev pub on_block : ℕ → List Write → List Step
on_block k ws = map (write_step k) ws

-- "Transfer, into the blank half: byte 8 to 0xFE, header bytes 0-3, settled frames by rising id, pending frames in their order,
-- inverse of (time + 1), byte 8 to 0xFC, erase of the old half." Of block k, which holds journal x, with a state, into block j of an edition
abbrev pub transfer_to : Edition → ℕ → ℕ → Journal → State → List Step
transfer_to ed j k x st = on_block j (build ed (suc x.time) (frames_of st)) ++ (erase k ∷ [])

-- into the next in number (K14)
abbrev pub transfer_plan : Edition → ℕ → ℕ → Journal → State → List Step
transfer_plan ed N k x st = transfer_to ed (next_block N k) k x st

-- "Put, delete, commit, abort: one frame of n bytes": at an offset of block k
abbrev pub append_plan : Edition → ℕ → ℕ → Frame → List Step
append_plan ed k end f = on_block k (writes end (encode ed f))

-- the record's step calls do exactly these steps, one each; it is in a job until the last is done, and then this record
abbrev pub Follows : ℕ → Machine → List ℕ → Record → List Step → Record → Type 0
Follows N m img r [] z = r ≡ z
Follows N m img r (x ∷ xs) z =
    (answer_of r ≡ More)
    × ((next : Record) × (m img r step ≡ out (answer_of next) (apply (size_of N img) x img) next [])
    × Follows N m (apply (size_of N img) x img) next xs z)

-- a plan without its erases
unfoldable pub programs : List Step → List Step
programs [] = []
programs (program k o v ∷ xs) = program k o v ∷ programs xs
programs (erase k ∷ xs) = programs xs

-- ---- the work of each accepted call

-- what a job does: its flash steps, and the record after the last
pub record Work : Type 0 where
  pub steps : List Step
  pub last : Record

-- the record's step calls do this work
abbrev pub Performs : ℕ → Machine → List ℕ → Record → Work → Type 0
Performs N m img r w = Follows N m img r w.steps w.last

-- the work with these steps before it
abbrev pub after_steps : List Step → Work → Work
after_steps xs w = record { steps = xs ++ w.steps; last = w.last }

-- "Format: erase half 0, erase half 1, then half 0's header at time 1 in the same order": of blocks ks, on an image whose length less one is l;
-- document 02, K9: "format writes edition 1, other transfers keep theirs"
abbrev pub format_in : ℕ → ℕ → List ℕ → Work
format_in N l ks = after_steps (map erase ks) (record { steps = on_block 0 (build edition.First 1 []); last = idle no_places (rest N l 0 header_len 1) })

-- of all blocks, in K14's order
abbrev pub format_work : ℕ → List ℕ → Work
format_work N img = format_in N (length img - 1) (format_order N img)

-- K11: a torn frame is closed, then a reset is appended "if anything is pending": block k, whose bytes are b, holds journal x, and the record stands at z
abbrev pub mend_work : ℕ → List ℕ → Rest → Journal → Work
mend_work k b z x =
    record {
      steps = on_block k (closes_for mends b x) ++ on_block k (writes (closed_end x) (due_reset x));
      last = idle (places_in x) (ending z (closed_end x + length (due_reset x)));
    }

-- what a mount does after its erases with store x, whose block's bytes are b and whose record stands at z; a transfer goes to block j
abbrev pub upkeep_work : Upkeep → ℕ → List ℕ → Rest → Store → Work
upkeep_work rests j b z x = record { steps = []; last = idle (places_in x.journal) z }
upkeep_work mends j b z x = mend_work x.number b z x.journal
upkeep_work moves j b z x =
    record {
      steps = transfer_to x.journal.edition j x.number x.journal (settled_only (replay_of x.journal));
      last = idle (places_of x.journal.edition (frames_of (settled_only (replay_of x.journal)))) (landing z z.edition j (used_of x.journal));
    }

-- the erases of blocks ks, and that
abbrev pub mount_in : ℕ → List ℕ → List ℕ → ℕ → Store → Work
mount_in N img ks j x =
    after_steps (map erase ks) (upkeep_work (upkeep (size_of N img) x) j (block_in N img x) (store_at N (length img - 1) x) x)

-- K14: "mount erases every other that isn't blank, by number"; then K11's mending, or the transfer in its place
abbrev pub mount_work : ℕ → List ℕ → Store → Work
mount_work N img x = mount_in N img (wipe_list x.number (all_found N img)) (next_block N x.number) x

-- "Put, delete, commit, abort: one frame of n bytes": where the record stands, with these places after it (K8)
abbrev pub append_work : Edition → Rest → List ℕ → Frame → Work
append_work ed z places f = record { steps = append_plan ed z.block z.end f; last = idle places (ending z (z.end + frame_len ed f)) }

-- to the journal that is there
abbrev pub stayed_work : Rest → Journal → Frame → Work
stayed_work z x f = append_work x.edition z (places_of x.edition (x.frames ++ (f ∷ []))) f

-- after a transfer, to block j
abbrev pub moved_work : ℕ → Rest → Journal → Frame → Work
moved_work j z x f =
    after_steps (transfer_to x.edition j z.block x (replay_of x))
    (append_work x.edition (landing z z.edition j (claimed_of x)) (places_of x.edition (frames_of (replay_of x) ++ (f ∷ []))) f)

-- "after a transfer if end + n exceeds S": in blocks of s bytes
abbrev pub frame_in : ℕ → ℕ → Rest → Journal → Frame → Work
frame_in s j z x f = cond (ltb s (z.end + frame_len x.edition f)) (moved_work j z x f) (stayed_work z x f)

abbrev pub frame_work : ℕ → List ℕ → Record → Journal → Frame → Work
frame_work N img r x f = frame_in (size_of N img) (next_block N r.rest.block) (counted r.rest x f) x f

-- K9: "a transfer takes the store to edition 2", to block j; nothing is pending
abbrev pub convert_in : ℕ → Rest → Journal → Work
convert_in j z x =
    record {
      steps = transfer_to edition.Second j z.block x (settled_only (replay_of x));
      last = idle (places_of edition.Second (frames_of (settled_only (replay_of x)))) (landing z 2 j (used edition.Second (replay_of x)));
    }

abbrev pub convert_work : ℕ → List ℕ → Record → Journal → Work
convert_work N img r x = convert_in (next_block N r.rest.block) r.rest x
