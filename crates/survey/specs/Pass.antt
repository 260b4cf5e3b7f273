-- How the code passes over a block: proofs/Passing.antt, Surveying.antt and HeadLaws.antt tie it to what a survey says.
use Rattle.std.specs.Prelude.{List, [], ◌∷◌, true, false, ℕ, zero, suc, ◌+◌, ◌-◌, eqb, length, get_or, take, drop, set, Some, None, Result, Ok, Err}
use Rattle.std.proofs.Math.Option as maybe
use Rattle.std.proofs.Math.Option.{none, some}
use Rattle.frame.specs.declared.Edition.{Edition}
use Rattle.frame.specs.declared.Edition.TheVariants as edition
use Rattle.frame.specs.declared.Host.{Host}
use Rattle.frame.specs.declared.Fault.{Fault}
use Rattle.frame.specs.declared.Head.{Head}
use Rattle.frame.specs.declared.Head.TheVariants as head
use Rattle.frame.specs.Frame.{put, delete, Frame}
use Rattle.frame.specs.Frame.{put_len, delete_len, end_len, settled_len, closed_len, reset_len, total, next_of}
use Rattle.frame.specs.Reader.{Tail, clean, cut, bad, Scan, scan}
use Rattle.frame.specs.Code.{peek_at, head_len, value_len_of}
use Rattle.survey.specs.declared.Progress.{Progress}
use Rattle.survey.specs.declared.Walk.{Walk}
use Rattle.survey.specs.declared.BlockKind.{BlockKind}
use Rattle.survey.specs.declared.BlockKind.TheVariants as kind
use Rattle.survey.specs.declared.Tally.{Tally}
use Rattle.survey.specs.declared.Survey.{Survey}
use Rattle.journal.specs.Block.{header_len, created_at}
use Rattle.journal.specs.Index.{since_of, place_if}
use Rattle.journal.specs.Room.{per_host, pending_of}

-- the header's first fault, if it has one
abbrev pub header_of : maybe.Option Fault → Result (Unit {0}) Fault
header_of none = Ok tt
header_of (some e) = Err e

-- ---- the pass

-- the frames of a block, and what follows them, past its header
abbrev pub scan_block : Edition → List ℕ → Scan
scan_block ed b = scan ed 0 header_len 0 (drop header_len b)

-- what a frame of a head at offset o does in a commit of host h: `journal/Tables: place_frame`, where the host's pending part starts at or before it
unfoldable pub place_head : Host → ℕ → Head → List ℕ → List ℕ
place_head h o (head.Put g i n) t = place_if (eqb h.0 g.0) (put i o) t
place_head h o (head.Delete g i) t = place_if (eqb h.0 g.0) (delete i) t
place_head h o (head.Commit g) t = t
place_head h o (head.Abort g) t = t
place_head h o (head.Settled i n) t = t
place_head h o (head.Closed n) t = t
place_head h o head.Reset t = t

-- the same for frames one after the other, which start at offset o, by their heads alone; k as in `scan`
unfoldable pub commit_heads : Edition → Host → ℕ → ℕ → List ℕ → List ℕ → List ℕ
commit_heads ed h o k t [] = t
commit_heads ed h o zero t (b ∷ l) =
    commit_heads ed h (suc o) (head_len ed (peek_at ed (b ∷ l) 0) - 1) (place_head h o (peek_at ed (b ∷ l) 0) t) l
commit_heads ed h o (suc k) t (b ∷ l) = commit_heads ed h (suc o) k t l

-- a commit of host h, whose `since` is d, at the end of some bytes: they were read before, so its puts and deletes are found by heads
unfoldable pub recommit : Edition → List ℕ → Host → ℕ → List ℕ → List ℕ
recommit ed l h d t = commit_heads ed h d 0 t (drop d l)

abbrev pub progress : ℕ → ℕ → List ℕ → List ℕ → Progress
progress e n ms ps = record { end = e; next = n; since = ms; pending = ps }

abbrev pub progress_of : Edition → List Frame → Progress
progress_of ed fs = progress (header_len + total ed fs) (next_of 0 fs) (since_of ed fs) (pending_of ed fs)

-- a host's change of n bytes
unfoldable pub grown : Progress → Host → ℕ → Progress
grown p h n = progress (p.end + n) 256 p.since (set p.pending h.0 (get_or p.pending h.0 0 + n))

-- a host's commit or abort of n bytes
unfoldable pub ended : Progress → Host → ℕ → Progress
ended p h n = progress (p.end + n) 256 (set p.since h.0 (p.end + n)) (set p.pending h.0 0)

-- a reset of n bytes: every host's list ends
unfoldable pub ended_all : Progress → ℕ → Progress
ended_all p n = progress (p.end + n) 256 (per_host (λ h. p.end + n)) (per_host (λ h. 0))

-- a frame of n bytes that no list knows of, a settled or a closed one, and the least id that a settled frame may have after it
unfoldable pub passed : Progress → ℕ → ℕ → Progress
passed p next n = progress (p.end + n) next p.since p.pending

unfoldable pub took_frame : Edition → Progress → Head → Progress
took_frame ed p (head.Put h i n) = grown p h (put_len ed n)
took_frame ed p (head.Delete h i) = grown p h (delete_len ed)
took_frame ed p (head.Commit h) = ended p h (end_len ed)
took_frame ed p (head.Abort h) = ended p h (end_len ed)
took_frame ed p (head.Settled i n) = passed p (suc i.0) (settled_len ed n)
took_frame ed p (head.Closed n) = passed p 256 (closed_len n)
took_frame ed p head.Reset = ended_all p (reset_len ed)

unfoldable pub took_places : Edition → List ℕ → Progress → Head → List ℕ → List ℕ
took_places ed b p (head.Put h i n) t = t
took_places ed b p (head.Delete h i) t = t
took_places ed b p (head.Commit h) t = recommit ed (take p.end b) h (get_or p.since h.0 0) t
took_places ed b p (head.Abort h) t = t
took_places ed b p (head.Settled i n) t = set t i.0 p.end
took_places ed b p (head.Closed n) t = t
took_places ed b p head.Reset t = t

-- the whole frames, and a torn one's length after them; or the fault of what else follows
abbrev pub walked : Progress → Tail → Result Walk Fault
walked p clean = Ok (record { progress = p; torn = None })
walked p (cut n) = Ok (record { progress = p; torn = Some n })
walked p (bad e) = Err e

abbrev pub walk_of : Edition → Scan → Result Walk Fault
walk_of ed s = walked (progress_of ed s.frames) s.tail

-- the lengths of the values that n ids from i on have, by the heads at their places, which were read before; place 0 is none
unfoldable pub lengths_at : Edition → List ℕ → List ℕ → ℕ → ℕ → List ℕ
lengths_at ed b places zero i = []
lengths_at ed b places (suc n) i =
    elim (eqb (get_or places i 0) 0) [
      | true ↦ lengths_at ed b places n (suc i)
      | false ↦ value_len_of (peek_at ed b (get_or places i 0)) ∷ lengths_at ed b places n (suc i)
    ]

-- the bytes of settled frames whose values have these lengths
abbrev pub settled_total : Edition → List ℕ → ℕ
settled_total ed [] = 0
settled_total ed (n ∷ ns) = settled_len ed n + settled_total ed ns

abbrev pub tally_of : Edition → List ℕ → Tally
tally_of ed ns = record { count = length ns; used = header_len + settled_total ed ns }

unfoldable pub empty_survey : BlockKind → Survey
empty_survey k =
    record {
      kind = k;
      edition = edition.First;
      time = 0;
      end = header_len;
      torn = 0;
      since = per_host (λ h. header_len);
      pending = per_host (λ h. 0);
      count = 0;
      used = header_len;
    }

unfoldable pub found_survey : Edition → List ℕ → List ℕ → Progress → ℕ → Survey
found_survey ed b places p n =
    let t : Tally = tally_of ed (lengths_at ed b places 256 0) in
    record {
      kind = kind.Valid;
      edition = ed;
      time = created_at b;
      end = p.end;
      torn = n;
      since = p.since;
      pending = p.pending;
      count = t.count;
      used = t.used;
    }

-- a commit of host h after the frames of a block, by its survey: the places that it leaves
abbrev pub commit_in : List ℕ → Survey → Host → List ℕ → List ℕ
commit_in b s h t = recommit s.edition (take s.end b) h (get_or s.since h.0 0) t
