-- How much of a block a state takes, document 01, "Frames" and "Jobs".
use Rattle.std.specs.Prelude.{List, [], ◌∷◌, ◌++◌, map, Bool, true, false, ℕ, ◌+◌, ◌*◌, ltb}
use Rattle.frame.specs.declared.Edition.{Edition}
use Rattle.frame.specs.declared.Host.{Host}
use Rattle.frame.specs.Frame.{host_of, Change, put, delete, Frame, change, frame_len, delete_len, end_len, total}
use Rattle.journal.specs.Replay.{Object, Entry, entry, State, list_of, is_open_of, replay, settled_frame, pending_frame}
use Rattle.journal.specs.Block.{header_len}

-- "U is 16 plus the length of one settled frame for each settled object, whether or not such frames stand in the half."
abbrev pub used_by : Edition → List Object → ℕ
used_by ed os = header_len + total ed (map settled_frame os)

abbrev pub used : Edition → State → ℕ
used ed s = used_by ed s.objects

-- "C is U plus the pending frames' lengths."
abbrev pub claimed : Edition → State → ℕ
claimed ed s = used ed s + total ed (map pending_frame s.pending)

-- a host counts once, however much it has pending
abbrev pub one : Bool → ℕ
one true = 1
one false = 0

-- "`open` the hosts that would then have something pending": how many
abbrev pub open_hosts : List Entry → ℕ
open_hosts es = one (is_open_of (host_of 0) es) + one (is_open_of (host_of 1) es) + one (is_open_of (host_of 2) es) + one (is_open_of (host_of 3) es)

-- what a put leaves free besides: a delete and its commit
abbrev pub spare : Edition → Change → ℕ
spare ed (put i v) = delete_len ed + end_len ed
spare ed (delete i) = 0

-- "a put is refused exactly if C + n + 6·open + 14 > S, a delete exactly if C + 8 + 6·open > S"
unfoldable pub no_room_of : Edition → ℕ → State → Host → Change → Bool
no_room_of ed size s h c = ltb size (claimed ed s + frame_len ed (change h c) + end_len ed * open_hosts (s.pending ++ (entry h c ∷ [])) + spare ed c)

-- ---- each host's pending bytes

-- the bytes of a host's pending frames
abbrev pub pending_for : Edition → Host → List Entry → ℕ
pending_for ed h es = total ed (map (change h) (list_of h es))

abbrev pub per_host : (Host → ℕ) → List ℕ
per_host f = f (host_of 0) ∷ f (host_of 1) ∷ f (host_of 2) ∷ f (host_of 3) ∷ []

-- document 02, K7: a put or delete is refused "exactly if that host's pending frames would come to more than S/2 bytes"
unfoldable pub host_full : Edition → ℕ → State → Host → Change → Bool
host_full ed size s h c = ltb size (2 * pending_for ed h (s.pending ++ (entry h c ∷ [])))

-- "each host's pending bytes as replay gives them"
abbrev pub counts_in : Edition → State → List ℕ
counts_in ed s = per_host (λ h. pending_for ed h s.pending)

abbrev pub pending_of : Edition → List Frame → List ℕ
pending_of ed fs = counts_in ed (replay fs)
