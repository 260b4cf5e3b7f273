-- The papers' numbers for each edition are the code's.
use mathlib.Core.Path.{◌≡◌, refl, ap}
use mathlib.Core.List.{List}
use mathlib.Core.Bool.{true}
use Prim.Native.Nat.{ℕ, ◌+◌, ◌*◌, ◌≤◌}
use native.Mathlib.Nat.{mul-le-mul_left}
use native.Mathlib.Omega.{arith}
use lib.ListN.{length}
use Rattle.frame.specs.declared.Edition.{Edition}
use Rattle.frame.specs.declared.Edition.TheVariants as edition
use Rattle.frame.specs.declared.Host.{Host}
use Rattle.frame.specs.declared.ObjectId.{ObjectId}
use Rattle.frame.specs.Frame.{edition_number, host_max, delete_len, end_len, change, put, delete, frame_len}
use Rattle.journal.specs.Replay.{Entry, without, is_open_of}
use Rattle.journal.specs.Laws.{by_edition}
use Rattle.journal.specs.Room.{open_hosts, spare}
use Rattle.journal.proofs.Room.{fewer-without, open_pos}

pub number_is : (ed : Edition) → edition_number ed ≡ by_edition ed 1 2
number_is edition.First = refl
number_is edition.Second = refl

-- a commit's or abort's length; a change's without a value; a delete and its commit
pub end_is : (ed : Edition) → end_len ed ≡ by_edition ed 6 10
end_is edition.First = refl
end_is edition.Second = refl

pub change_is : (ed : Edition) → delete_len ed ≡ by_edition ed 8 12
change_is edition.First = refl
change_is edition.Second = refl

pub spare-is : (ed : Edition) → delete_len ed + end_len ed ≡ by_edition ed 14 22
spare-is edition.First = refl
spare-is edition.Second = refl

pub second-lens : (ed : Edition) → ed ≡ edition.Second → (delete_len ed ≡ 12) × (end_len ed ≡ 10)
second-lens ed e = (ap delete_len e, ap end_len e)

-- the commits of the open hosts: at least one's, and no more without a host
pub ends-one : (ed : Edition) (h : Host) (es : List Entry) → h.0 ≤ host_max → is_open_of h es ≡ true → end_len ed ≤ end_len ed * open_hosts es
ends-one ed h es k t = omega (arith, mul-le-mul_left (end_len ed) (open_pos h es k t))

pub ends-fewer : (ed : Edition) (h : Host) (es : List Entry) → end_len ed * open_hosts (without h es) ≤ end_len ed * open_hosts es
ends-fewer ed h es = mul-le-mul_left (end_len ed) (fewer-without h es)

-- ---- the room rule's sums

pub put-sum : (ed : Edition) (h : Host) (i : ObjectId) (v : List ℕ) (c n : ℕ)
    → c + frame_len ed (change h (put i v)) + end_len ed * n + spare ed (put i v)
    ≡ c + (by_edition ed 8 12 + length v) + by_edition ed 6 10 * n + by_edition ed 14 22
put-sum edition.First h i v c n = omega arith
put-sum edition.Second h i v c n = omega arith

pub delete-sum : (ed : Edition) (h : Host) (i : ObjectId) (c n : ℕ)
    → c + frame_len ed (change h (delete i)) + end_len ed * n + spare ed (delete i) ≡ c + by_edition ed 8 12 + by_edition ed 6 10 * n
delete-sum edition.First h i c n = omega arith
delete-sum edition.Second h i c n = omega arith
