-- Replay, document 01, "Frames": what a journal's frames amount to. A stands for a value, by itself its bytes.
use Rattle.std.specs.Prelude.{List, [], ◌∷◌, ◌++◌, map, Bool, true, false, eqb}
use Rattle.std.proofs.Math.Option.{Option, none, some}
use Prim.Native.Nat.{Ordering}
use Prim.Native.Nat.{ℕ, compare}
use Rattle.frame.specs.declared.Host.{Host}
use Rattle.frame.specs.declared.ObjectId.{ObjectId}
use Rattle.frame.specs.Frame.{ChangeOf, put, delete, FrameOf, change, commit, abort, settled, closed, reset}

-- an object: its id and its value
pub record ObjectOf (A : Type 0) : Type 0 where
  pub id : ObjectId
  pub value : A

abbrev pub object : {A : Type 0} → ObjectId → A → ObjectOf A
object i v = record { id = i; value = v }

-- a pending change and the host that sent it
pub record EntryOf (A : Type 0) : Type 0 where
  pub host : Host
  pub what : ChangeOf A

abbrev pub entry : {A : Type 0} → Host → ChangeOf A → EntryOf A
entry h c = record { host = h; what = c }

-- the settled objects by rising id, and the pending changes of all hosts in journal order
pub record StateOf (A : Type 0) : Type 0 where
  pub objects : List (ObjectOf A)
  pub pending : List (EntryOf A)

abbrev pub state : {A : Type 0} → List (ObjectOf A) → List (EntryOf A) → StateOf A
state os ps = record { objects = os; pending = ps }

-- with the bytes for the value
abbrev pub Object : Type 0
Object = ObjectOf (List ℕ)

abbrev pub Entry : Type 0
Entry = EntryOf (List ℕ)

abbrev pub State : Type 0
State = StateOf (List ℕ)

-- ---- changes applied to objects

-- objects stay by rising id, and a value put replaces the old one; a delete of an id that isn't there does nothing
unfoldable pub insert : {A : Type 0} → ObjectId → A → List (ObjectOf A) → List (ObjectOf A)
insert i v [] = object i v ∷ []
insert i v (o ∷ os) =
    elim (compare i.0 o.id.0) [
      | Ordering.lt ↦ object i v ∷ o ∷ os
      | Ordering.eq ↦ object i v ∷ os
      | Ordering.gt ↦ o ∷ insert i v os
    ]

unfoldable pub remove : {A : Type 0} → ObjectId → List (ObjectOf A) → List (ObjectOf A)
remove i [] = []
remove i (o ∷ os) = elim (eqb i.0 o.id.0) [ true ↦ remove i os | false ↦ o ∷ remove i os ]

unfoldable pub lookup : {A : Type 0} → ObjectId → List (ObjectOf A) → Option A
lookup i [] = none
lookup i (o ∷ os) = elim (eqb i.0 o.id.0) [ true ↦ some o.value | false ↦ lookup i os ]

abbrev pub change1 : {A : Type 0} → ChangeOf A → List (ObjectOf A) → List (ObjectOf A)
change1 (put i v) os = insert i v os
change1 (delete i) os = remove i os

-- a list of changes applied in order: replay and document 01's book share it
unfoldable pub change_all : {A : Type 0} → List (ChangeOf A) → List (ObjectOf A) → List (ObjectOf A)
change_all [] os = os
change_all (c ∷ cs) os = change_all cs (change1 c os)

-- ---- pending changes by host

-- "its host's pending list"
unfoldable pub list_of : {A : Type 0} → Host → List (EntryOf A) → List (ChangeOf A)
list_of h [] = []
list_of h (e ∷ es) = elim (eqb h.0 e.host.0) [ true ↦ e.what ∷ list_of h es | false ↦ list_of h es ]

-- what the other hosts have pending
unfoldable pub without : {A : Type 0} → Host → List (EntryOf A) → List (EntryOf A)
without h [] = []
without h (e ∷ es) = elim (eqb h.0 e.host.0) [ true ↦ without h es | false ↦ e ∷ without h es ]

-- the host has something pending
unfoldable pub is_open_of : {A : Type 0} → Host → List (EntryOf A) → Bool
is_open_of h [] = false
is_open_of h (e ∷ es) = elim (eqb h.0 e.host.0) [ true ↦ true | false ↦ is_open_of h es ]

-- ---- replay

-- "settled frames give the settled objects. A put or delete joins its host's pending list; commit applies that list in order and
-- empties it; abort empties it. A commit or abort with nothing pending is read and does nothing." Document 02, K11: a closed frame means nothing; "a reset
-- frame .. drops all of it"
abbrev pub next_state : {A : Type 0} → StateOf A → FrameOf A → StateOf A
next_state s (change h c) = state s.objects (s.pending ++ (entry h c ∷ []))
next_state s (commit h) = state (change_all (list_of h s.pending) s.objects) (without h s.pending)
next_state s (abort h) = state s.objects (without h s.pending)
next_state s (settled i v) = state (s.objects ++ (object i v ∷ [])) s.pending
next_state s (closed v) = s
next_state s reset = state s.objects []

-- frame after frame, at first with no objects and nothing pending
unfoldable pub replay_from : {A : Type 0} → StateOf A → List (FrameOf A) → StateOf A
replay_from s [] = s
replay_from s (f ∷ fs) = replay_from (next_state s f) fs

abbrev pub replay : {A : Type 0} → List (FrameOf A) → StateOf A
replay fs = replay_from (state [] []) fs

-- ---- the frames that a state is written as

-- an object as a settled frame, a pending change as its host's put or delete
abbrev pub settled_frame : {A : Type 0} → ObjectOf A → FrameOf A
settled_frame o = settled o.id o.value

abbrev pub pending_frame : {A : Type 0} → EntryOf A → FrameOf A
pending_frame e = change e.host e.what

-- "settled frames by rising id, pending frames in their order"
abbrev pub frames_of : {A : Type 0} → StateOf A → List (FrameOf A)
frames_of s = map settled_frame s.objects ++ map pending_frame s.pending

-- "A mount drops all pending changes"
abbrev pub settled_only : {A : Type 0} → StateOf A → StateOf A
settled_only s = state s.objects []
