-- Document 01's sentences on objects, replay, U and C, and the statements that the definitions keep them.
use Rattle.std.specs.Prelude.{List, [], ◌∷◌, ◌++◌, ◌↔◌, true, ◌≡◌, ℕ, suc, ◌+◌, ◌/◌, ◌≤◌, ◌<◌, length, get_or}
use Rattle.std.proofs.Math.Option.{none, some}
use Rattle.frame.specs.declared.Edition.{Edition}
use Rattle.frame.specs.declared.Edition.TheVariants as edition
use Rattle.frame.specs.declared.Host.{Host}
use Rattle.frame.specs.declared.ObjectId.{ObjectId}
use Rattle.frame.specs.Frame.{Change, put, delete, Frame, change, commit, abort, settled, closed, reset, encode_all, AllMayStand}
use Rattle.journal.specs.Replay.{Object, object, Entry, entry, State, state, insert, remove, lookup, change_all, list_of, without, is_open_of, replay, frames_of}
use Rattle.journal.specs.Room.{used, claimed, open_hosts, host_full, pending_of}
use Rattle.journal.specs.Index.{places_of, value_at}
use Rattle.journal.specs.Block.{Journal}
use Rattle.journal.specs.Sentences.{ValidBlock}

-- ---- objects

-- "by rising id": each id is greater than the one before, the first at least n
abbrev pub RisesFrom : ℕ → List Object → Type 0
RisesFrom n [] = Unit {0}
RisesFrom n (o ∷ os) = (n ≤ o.id.0) × RisesFrom (suc o.id.0) os

-- an id's object is the one that stands in the list; a put replaces it, a delete takes it out, other ids keep theirs, and ids stay rising.
-- Two lists by rising id in which each id has the same are the same list
pub record ObjectLaws : Type 0 where
  pub found : (i : ObjectId) (v : List ℕ) (os : List Object) → RisesFrom 0 os
      → (lookup i os ≡ some v) ↔ ((xs : List Object) × (ys : List Object) × (os ≡ xs ++ (object i v ∷ ys)))
  pub put_same : (i : ObjectId) (v : List ℕ) (os : List Object) → lookup i (insert i v os) ≡ some v
  pub put_other : (i j : ObjectId) (v : List ℕ) (os : List Object) → (i.0 ≡ j.0 → ⊥) → lookup i (insert j v os) ≡ lookup i os
  pub put_rises : (i : ObjectId) (v : List ℕ) (os : List Object) → RisesFrom 0 os → RisesFrom 0 (insert i v os)
  pub delete_same : (i : ObjectId) (os : List Object) → lookup i (remove i os) ≡ none
  pub delete_other : (i j : ObjectId) (os : List Object) → (i.0 ≡ j.0 → ⊥) → lookup i (remove j os) ≡ lookup i os
  pub delete_rises : (i : ObjectId) (os : List Object) → RisesFrom 0 os → RisesFrom 0 (remove i os)
  pub same : (os ps : List Object) → RisesFrom 0 os → RisesFrom 0 ps → ((i : ObjectId) → lookup i os ≡ lookup i ps) → os ≡ ps

-- the id that a change is of, and: none of the changes is of this id
abbrev pub changed : Change → ObjectId
changed (put i v) = i
changed (delete i) = i

abbrev pub Spares : ObjectId → List Change → Type 0
Spares i [] = Unit {0}
Spares i (c ∷ cs) = ((changed c).0 ≡ i.0 → ⊥) × Spares i cs

-- changes applied in order: an id has what the last change of it says, and without one what it had
pub record Applied (cs : List Change) (before after : List Object) : Type 0 where
  pub last_put : (xs ys : List Change) (i : ObjectId) (v : List ℕ) → cs ≡ xs ++ (put i v ∷ ys) → Spares i ys → lookup i after ≡ some v
  pub last_delete : (xs ys : List Change) (i : ObjectId) → cs ≡ xs ++ (delete i ∷ ys) → Spares i ys → lookup i after ≡ none
  pub no_change : (i : ObjectId) → Spares i cs → lookup i after ≡ lookup i before
  pub rises : RisesFrom 0 before → RisesFrom 0 after

-- what replay and document 01's book share
unfoldable pub ChangesExact : Type 0
ChangesExact = (cs : List Change) (os : List Object) → Applied cs os (change_all cs os)

-- ---- replay

-- the objects, and a host's list, after these frames; the frames and one more
abbrev pub objects_after : List Frame → List Object
objects_after fs = (replay fs).objects

abbrev pub pending_after : Host → List Frame → List Change
pending_after h fs = list_of h (replay fs).pending

abbrev pub then : List Frame → Frame → List Frame
then fs f = fs ++ (f ∷ [])

pub record ReplayLaws : Type 0 where
  pub nothing : replay {A = List ℕ} [] ≡ state [] []
  pub rises : (ed : Edition) (fs : List Frame) → AllMayStand ed 0 fs → RisesFrom 0 (objects_after fs)
  -- "settled frames give the settled objects"
  pub settled_own : (ed : Edition) (fs : List Frame) (i : ObjectId) (v : List ℕ) → AllMayStand ed 0 (then fs (settled i v))
      → lookup i (objects_after (then fs (settled i v))) ≡ some v
  pub settled_other : (fs : List Frame) (i j : ObjectId) (v : List ℕ) → (i.0 ≡ j.0 → ⊥)
      → lookup i (objects_after (then fs (settled j v))) ≡ lookup i (objects_after fs)
  pub settled_pending : (fs : List Frame) (h : Host) (i : ObjectId) (v : List ℕ)
      → pending_after h (then fs (settled i v)) ≡ pending_after h fs
  -- "A put or delete joins its host's pending list"
  pub change_objects : (fs : List Frame) (h : Host) (c : Change) → objects_after (then fs (change h c)) ≡ objects_after fs
  pub change_own : (fs : List Frame) (h : Host) (c : Change) → pending_after h (then fs (change h c)) ≡ pending_after h fs ++ (c ∷ [])
  pub change_other : (fs : List Frame) (g h : Host) (c : Change) → (g.0 ≡ h.0 → ⊥)
      → pending_after g (then fs (change h c)) ≡ pending_after g fs
  -- "commit applies that list in order and empties it"
  pub commit_objects : (fs : List Frame) (h : Host) → Applied (pending_after h fs) (objects_after fs) (objects_after (then fs (commit h)))
  pub commit_own : (fs : List Frame) (h : Host) → pending_after h (then fs (commit h)) ≡ []
  pub commit_other : (fs : List Frame) (g h : Host) → (g.0 ≡ h.0 → ⊥) → pending_after g (then fs (commit h)) ≡ pending_after g fs
  -- "abort empties it"
  pub abort_objects : (fs : List Frame) (h : Host) → objects_after (then fs (abort h)) ≡ objects_after fs
  pub abort_own : (fs : List Frame) (h : Host) → pending_after h (then fs (abort h)) ≡ []
  pub abort_other : (fs : List Frame) (g h : Host) → (g.0 ≡ h.0 → ⊥) → pending_after g (then fs (abort h)) ≡ pending_after g fs
  -- "A commit or abort with nothing pending is read and does nothing."
  pub commit_nothing : (fs : List Frame) (h : Host) → pending_after h fs ≡ [] → replay (then fs (commit h)) ≡ replay fs
  pub abort_nothing : (fs : List Frame) (h : Host) → pending_after h fs ≡ [] → replay (then fs (abort h)) ≡ replay fs
  -- document 02, K11: a closed frame means nothing; a reset "drops all of it": every host's list is emptied, objects stay
  pub closed_nothing : (fs : List Frame) (v : List ℕ) → replay (then fs (closed v)) ≡ replay fs
  pub reset_objects : (fs : List Frame) → objects_after (then fs reset) ≡ objects_after fs
  pub reset_pending : (fs : List Frame) (h : Host) → pending_after h (then fs reset) ≡ []
  pub reset_nothing : (fs : List Frame) → (replay fs).pending ≡ [] → replay (then fs reset) ≡ replay fs

-- the hosts' changes stand in one list in journal order: a change comes last, a commit or abort takes out its host's and leaves the
-- others in their order
pub record OrderLaws : Type 0 where
  pub joins : (fs : List Frame) (h : Host) (c : Change) → (replay (then fs (change h c))).pending ≡ (replay fs).pending ++ (entry h c ∷ [])
  pub after-commit : (fs : List Frame) (h : Host) → (replay (then fs (commit h))).pending ≡ without h (replay fs).pending
  pub after_abort : (fs : List Frame) (h : Host) → (replay (then fs (abort h))).pending ≡ without h (replay fs).pending
  pub after_reset : (fs : List Frame) → (replay (then fs reset)).pending ≡ []
  pub taken : (h : Host) (xs ys : List Entry) (c : Change) → without h (xs ++ (entry h c ∷ ys)) ≡ without h (xs ++ ys)
  pub left : (h : Host) (es : List Entry) → list_of h es ≡ [] → without h es ≡ es
  pub is_open : (h : Host) (es : List Entry) → (is_open_of h es ≡ true) ↔ (list_of h es ≡ [] → ⊥)

-- ---- U, C and open

-- the papers' number for the first edition, and for the second, document 02, K9
abbrev pub by_edition : Edition → ℕ → ℕ → ℕ
by_edition edition.First a b = a
by_edition edition.Second a b = b

-- "settled: 7+v"; "put: 8+v", "delete: 8"; "each frame has four bytes of CRC-32"
abbrev pub settled_bytes : Edition → List Object → ℕ
settled_bytes ed [] = 0
settled_bytes ed (o ∷ os) = by_edition ed 7 11 + length o.value + settled_bytes ed os

abbrev pub change_bytes : Edition → Change → ℕ
change_bytes ed (put i v) = by_edition ed 8 12 + length v
change_bytes ed (delete i) = by_edition ed 8 12

abbrev pub pending_bytes : Edition → List Entry → ℕ
pending_bytes ed [] = 0
pending_bytes ed (e ∷ es) = change_bytes ed e.what + pending_bytes ed es

pub record UsedExact : Type 0 where
  -- "U is 16 plus the length of one settled frame for each settled object"
  pub used_is : (ed : Edition) (s : State) → used ed s ≡ 16 + settled_bytes ed s.objects
  -- "C is U plus the pending frames' lengths."
  pub claimed_is : (ed : Edition) (s : State) → claimed ed s ≡ 16 + settled_bytes ed s.objects + pending_bytes ed s.pending
  -- "`open` the hosts that would then have something pending": a host counts from its first change on, and once
  pub open_none : open_hosts [] ≡ 0
  pub open_first : (h : Host) (es : List Entry) (c : Change) → h.0 ≤ 3 → list_of h es ≡ []
      → open_hosts (es ++ (entry h c ∷ [])) ≡ open_hosts es + 1
  pub open_again : (h : Host) (es : List Entry) (c : Change) → (list_of h es ≡ [] → ⊥) → open_hosts (es ++ (entry h c ∷ [])) ≡ open_hosts es

-- K7, "that host's pending frames": the bytes of a list of changes
abbrev pub changes_bytes : Edition → List Change → ℕ
changes_bytes ed [] = 0
changes_bytes ed (c ∷ cs) = change_bytes ed c + changes_bytes ed cs

-- "each host's pending bytes as replay gives them": hosts 0 to 3, each those of its list
pub record CountsAre (ed : Edition) (ps : List ℕ) (fs : List Frame) : Type 0 where
  pub four : length ps ≡ 4
  pub each : (h : Host) → h.0 ≤ 3 → get_or ps h.0 0 ≡ changes_bytes ed (pending_after h fs)

pub record PendingExact : Type 0 where
  pub are : (ed : Edition) (fs : List Frame) → CountsAre ed (pending_of ed fs) fs
  pub only : (ed : Edition) (ps : List ℕ) (fs : List Frame) → CountsAre ed ps fs → ps ≡ pending_of ed fs
  pub full_is : (ed : Edition) (size : ℕ) (fs : List Frame) (h : Host) (c : Change)
      → (host_full ed size (replay fs) h c ≡ true) ↔ (size / 2 < changes_bytes ed (pending_after h fs) + change_bytes ed c)

-- ---- the frames that a transfer writes

-- "settled frames by rising id, pending frames in their order": one for each, and replay of them gives the state back
pub record FramesExact : Type 0 where
  pub count : (s : State) → length (frames_of s) ≡ length s.objects + length s.pending
  pub of_object : (s : State) (xs ys : List Object) (i : ObjectId) (v : List ℕ) (d : Frame) → s.objects ≡ xs ++ (object i v ∷ ys)
      → get_or (frames_of s) (length xs) d ≡ settled i v
  pub of_change : (s : State) (xs ys : List Entry) (h : Host) (c : Change) (d : Frame) → s.pending ≡ xs ++ (entry h c ∷ ys)
      → get_or (frames_of s) (length s.objects + length xs) d ≡ change h c
  pub back : (s : State) → replay (frames_of s) ≡ s

-- ---- where a value stands

-- a frame that holds a value: a put of a host, or a settled frame
pub data Holder : Type 0 where
  put_by : Host → Holder
  settled_as : Holder

abbrev pub holding : Holder → ObjectId → List ℕ → Frame
holding (put_by h) i v = change h (put i v)
holding settled_as i v = settled i v

-- "Length (2, whole frame), kind (2)", then "host 1, id 2, value v" or "id 2, value v": the bytes before the value
abbrev pub front : Holder → ℕ
front (put_by h) = 7
front settled_as = 6

-- "hands back that stretch": the value v of an id stands at this offset of the block in a frame of the journal, and it is the frame that
-- replay took it from: were any other value w in that frame, the id would have w
pub record TakenFrom (ed : Edition) (fs : List Frame) (i : ObjectId) (v : List ℕ) (at : ℕ) : Type 0 where
  pub before : List Frame
  pub holder : Holder
  pub after : List Frame
  pub stands : fs ≡ before ++ (holding holder i v ∷ after)
  pub taken : (w : List ℕ) → lookup i (objects_after (before ++ (holding holder i w ∷ after))) ≡ some w
  pub at_is : at ≡ 16 + length (encode_all ed before) + front holder

-- document 02, K8: "where replay finds its settled value", by the offset of its frame
pub record PlaceIs (ed : Edition) (fs : List Frame) (i : ObjectId) (v : List ℕ) (p : ℕ) : Type 0 where
  pub at : ℕ
  pub from : TakenFrom ed fs i v at
  pub starts : p + front from.holder ≡ at

-- "for every id, where replay finds its settled value or that there is none": one for each of 256 ids, 0 for none
pub record PlacesAre (ed : Edition) (ps : List ℕ) (fs : List Frame) : Type 0 where
  pub all : length ps ≡ 256
  pub there : (i : ObjectId) (v : List ℕ) → i.0 ≤ 255 → lookup i (objects_after fs) ≡ some v → PlaceIs ed fs i v (get_or ps i.0 0)
  pub absent : (i : ObjectId) → i.0 ≤ 255 → lookup i (objects_after fs) ≡ none → get_or ps i.0 0 ≡ 0

-- in a valid block, by the place that the table has for the id
pub record PlaceExact : Type 0 where
  pub found : (b : List ℕ) (j : Journal) (i : ObjectId) (v : List ℕ) → ValidBlock b j → i.0 ≤ 255 → lookup i (objects_after j.frames) ≡ some v
      → (at : ℕ) × (value_at j.edition b i (get_or (places_of j.edition j.frames) i.0 0) ≡ some (record { at = at; bytes = v }))
      × TakenFrom j.edition j.frames i v at
  pub absent : (ed : Edition) (b : List ℕ) (fs : List Frame) (i : ObjectId) → i.0 ≤ 255 → lookup i (objects_after fs) ≡ none
      → value_at ed b i (get_or (places_of ed fs) i.0 0) ≡ none
  -- the table is the one that the words ask for
  pub places_are : (ed : Edition) (fs : List Frame) → PlacesAre ed (places_of ed fs) fs
  pub places_only : (ed : Edition) (ps : List ℕ) (fs : List Frame) → PlacesAre ed ps fs → ps ≡ places_of ed fs
  -- the words settle the place
  pub once : (ed : Edition) (fs : List Frame) (i : ObjectId) (v : List ℕ) (at at' : ℕ) → TakenFrom ed fs i v at → TakenFrom ed fs i v at' → at ≡ at'
