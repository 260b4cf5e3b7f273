-- The reader's short way: a whole frame of kinds 1 to 5, by tests of single bytes.
use Rattle.std.specs.Prelude.{List, Bool, false, ◌&&◌, ℕ, zero, suc, ◌+◌, ◌-◌, eqb, leb, length, get_or, take}
use Rattle.flash.specs.Bytes.{le32}
use Rattle.crc.specs.Crc.{crc32_of}
use Rattle.frame.specs.Frame.{host_max, value_max, finish, kind_at, body_at, put_len, delete_len, end_len, settled_len}
use Rattle.frame.specs.declared.Edition.{Edition}
use Rattle.frame.specs.declared.Edition.TheVariants as edition

-- after m bytes stands their CRC-32, as one number
abbrev pub checked : ℕ → List ℕ → Bool
checked m t = eqb (crc32_of (take m t)) (le32 (get_or t m 0) (get_or t (m + 1) 0) (get_or t (m + 2) 0) (get_or t (m + 3) 0))

-- the seal of a frame of n bytes
abbrev pub sealed : Edition → ℕ → List ℕ → Bool
sealed edition.First n t = eqb (get_or t (n - 1) 0) finish
sealed edition.Second n t = eqb (get_or t (n - 1) 0) finish && checked (n - 5) t

-- a put, or a delete, of n bytes: host, and the high byte of its id
unfoldable pub is_change : Edition → ℕ → List ℕ → Bool
is_change e n t =
    leb (put_len e 0) n && (leb n (put_len e value_max) && (leb (get_or t body_at 0) host_max && (eqb (get_or t (body_at + 2) 0) 0 && sealed e n t)))

-- a commit, or an abort: its host
unfoldable pub is_end : Edition → ℕ → List ℕ → Bool
is_end e n t = eqb n (end_len e) && (leb (get_or t body_at 0) host_max && sealed e n t)

-- a settled frame: its id is at least next
unfoldable pub is_settled : Edition → ℕ → ℕ → List ℕ → Bool
is_settled e next n t =
    leb (settled_len e 0) n
    && (leb n (settled_len e value_max) && (leb next (get_or t body_at 0) && (eqb (get_or t (body_at + 1) 0) 0 && sealed e n t)))

-- by the kind's low byte; others go the long way
abbrev pub of_kind : Edition → ℕ → ℕ → ℕ → List ℕ → Bool
of_kind e next zero n t = false
of_kind e next (suc zero) n t = is_change e n t
of_kind e next (suc (suc zero)) n t = eqb n (delete_len e) && is_change e n t
of_kind e next (suc (suc (suc zero))) n t = is_end e n t
of_kind e next (suc (suc (suc (suc zero)))) n t = is_end e n t
of_kind e next (suc (suc (suc (suc (suc zero))))) n t = is_settled e next n t
of_kind e next (suc (suc (suc (suc (suc (suc k)))))) n t = false

-- the frame lies in the bytes, which are as many as the shortest such frame has, and the high bytes of length and kind are 0
unfoldable pub is_whole : Edition → ℕ → List ℕ → Bool
is_whole e next t =
    leb (end_len edition.First) (length t)
    && (leb (get_or t 0 0) (length t) && (eqb (get_or t 1 0) 0 && (eqb (get_or t (kind_at + 1) 0) 0 && of_kind e next (get_or t kind_at 0) (get_or t 0 0) t)))
