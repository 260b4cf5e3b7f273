-- What a message that is a request says: its id and its value are in range.
use mathlib.Core.Path.{◌≡◌}
use mathlib.Core.List.{List}
use Prim.Native.Nat.{ℕ, ◌≤◌}
use native.Mathlib.Omega.{arith}
use lib.ListN.{length, length-drop}
use Rattle.flash.specs.Bytes.{Bytes}
use Rattle.flash.proofs.Blank.{bytes_drop}
use Rattle.frame.specs.declared.ObjectId.{ObjectId}
use Rattle.frame.specs.Frame.{id_max, value_max}
use Rattle.wire.specs.declared.Request.{Request}
use Rattle.wire.specs.declared.Request.TheVariants.{Put, Delete, Commit, Abort, Read, Log, Convert}
use Rattle.std.specs.Prelude.{Some}
use Rattle.wire.specs.Message.{value_in_of, parse}
use Rattle.wire.specs.Sentences.{Means, MessagesExact}
use Rattle.wire.proofs.Sentences.{messages_exact}

-- a request's id and value are in range
abbrev pub InRange : List ℕ → Request → Type 0
InRange m (Put i) = (i.0 ≤ id_max) × (length (value_in_of m) ≤ value_max)
InRange m (Delete i) = i.0 ≤ id_max
InRange m Commit = Unit {0}
InRange m Abort = Unit {0}
InRange m (Read i) = i.0 ≤ id_max
InRange m (Log p) = Unit {0}
InRange m Convert = Unit {0}

ranged : (m : List ℕ) (q : Request) → Means m q → InRange m q
ranged m (Put i) (h, a, b, w, k) = (k, simp length-drop (omega arith))
ranged m (Delete i) (h, l, w, k) = k
ranged m Commit y = tt
ranged m Abort y = tt
ranged m (Read i) (h, l, w, k) = k
ranged m (Log p) y = tt
ranged m Convert y = tt

pub in_range : (m : List ℕ) (q : Request) → parse m ≡ Some q → InRange m q
unfolding MessagesExact
in_range m q e = ranged m q ((messages_exact m q).0 e)

pub put-parsed : (m : List ℕ) (i : ObjectId) → Bytes m → parse m ≡ Some (Put i)
    → (i.0 ≤ id_max) × (length (value_in_of m) ≤ value_max) × Bytes (value_in_of m)
put-parsed m i b e = let r = in_range m (Put i) e in (r.0, r.1, bytes_drop 6 m b)

pub delete-parsed : (m : List ℕ) (i : ObjectId) → parse m ≡ Some (Delete i) → i.0 ≤ id_max
delete-parsed m i e = in_range m (Delete i) e

pub read-parsed : (m : List ℕ) (i : ObjectId) → parse m ≡ Some (Read i) → i.0 ≤ id_max
read-parsed m i e = in_range m (Read i) e
