-- Replay: one frame more, and the frames that a state is written as.
use mathlib.Core.Option.{none}
use mathlib.Core.Path.{◌≡◌, refl, ap, ◌∙◌}
use mathlib.Core.List.{List, [], ◌∷◌, ◌++◌, append_assoc, append-nil, map}
use Prim.Native.Nat.{ℕ, suc, ◌≤◌, ◌<◌}
use native.Mathlib.Omega.{arith}
use lib.Dec.{eqb}
use borrow.Author.Tests.{ne_eqb}
use Rattle.flash.proofs.Cases.{on_test, on-order}
use Rattle.frame.specs.declared.Edition.{Edition}
use Rattle.frame.specs.declared.Host.{Host}
use Rattle.frame.specs.declared.ObjectId.{ObjectId}
use Rattle.frame.specs.Frame.{host_of, Change, put, delete, FrameOf, Frame, change, commit, abort, settled, closed, reset, MayStand, AllMayStand, next_after, next_of}
use Rattle.frame.proofs.Encode.{stands_any, stands-append, NoneClosed}
use Rattle.journal.specs.Replay.{ObjectOf, object, EntryOf, entry, StateOf, state, Object, Entry, State, insert, remove, lookup, change1, change_all}
use Rattle.journal.specs.Replay.{list_of, without, next_state, replay_from, replay, settled_frame, pending_frame, frames_of, settled_only}
use Rattle.journal.proofs.Lookups.{lookup_no, insert_lt, insert_eq, insert_gt}

module _ {A : Type 0} where
  -- replay goes on where it stopped
  pub replay_append : (s : StateOf A) (fs gs : List (FrameOf A)) → replay_from s (fs ++ gs) ≡ replay_from (replay_from s fs) gs
  unfolding replay_from
  replay_append s [] gs = refl
  replay_append s (f ∷ fs) gs = replay_append (next_state s f) fs gs

  pub replay_snoc : (fs : List (FrameOf A)) (f : FrameOf A) → replay (fs ++ (f ∷ [])) ≡ next_state (replay fs) f
  unfolding replay_from
  replay_snoc fs f = replay_append (state [] []) fs (f ∷ [])

  -- the frames of a state replay to it
  replay_objects : (os xs : List (ObjectOf A)) (ps : List (EntryOf A)) → replay_from (state os ps) (map settled_frame xs) ≡ state (os ++ xs) ps
  unfolding replay_from
  replay_objects os [] ps = rw (append-nil os)
  replay_objects os (x ∷ xs) ps = replay_objects (os ++ (x ∷ [])) xs ps ∙ simp append_assoc

  replay_entries : (os : List (ObjectOf A)) (ps es : List (EntryOf A)) → replay_from (state os ps) (map pending_frame es) ≡ state os (ps ++ es)
  unfolding replay_from
  replay_entries os ps [] = rw (append-nil ps)
  replay_entries os ps (e ∷ es) = replay_entries os (ps ++ (e ∷ [])) es ∙ simp append_assoc

  pub replay_frames_of : (s : StateOf A) → replay (frames_of s) ≡ s
  replay_frames_of s =
      replay_append (state [] []) (map settled_frame s.objects) (map pending_frame s.pending)
      ∙ ap (λ (x : StateOf A). replay_from x (map pending_frame s.pending)) (replay_objects [] s.objects [])
      ∙ replay_entries s.objects [] s.pending

-- ---- the frames of a state may stand in a block

-- ids rise from lo on and stay below hi, and the values are legal
abbrev pub Rising : (ed : Edition) → ℕ → List Object → ℕ → Type 0
Rising ed lo [] hi = lo ≤ hi
Rising ed lo (o ∷ os) hi = MayStand ed lo (settled_frame o) × Rising ed (suc o.id.0) os hi

-- a frame may hold the change
abbrev pub LegalChange : (ed : Edition) → Change → Type 0
LegalChange ed c = MayStand ed 256 (change (host_of 0) c)

abbrev pub LegalEntries : (ed : Edition) → List Entry → Type 0
LegalEntries ed [] = Unit {0}
LegalEntries ed (e ∷ es) = MayStand ed 256 (pending_frame e) × LegalEntries ed es

pub rising-from : (ed : Edition) (lo lo' : ℕ) (os : List Object) (hi : ℕ) → lo' ≤ lo → Rising ed lo os hi → Rising ed lo' os hi
rising-from ed lo lo' [] hi h r = omega arith
rising-from ed lo lo' (o ∷ os) hi h ((a, b, c), r) = ((omega arith, b, c), r)

pub rising-to : (ed : Edition) (lo : ℕ) (os : List Object) (hi hi' : ℕ) → hi ≤ hi' → Rising ed lo os hi → Rising ed lo os hi'
rising-to ed lo [] hi hi' h r = omega arith
rising-to ed lo (o ∷ os) hi hi' h (g, r) = (g, rising-to ed (suc o.id.0) os hi hi' h r)

rising_bound : (ed : Edition) (lo : ℕ) (os : List Object) (hi : ℕ) → Rising ed lo os hi → lo ≤ hi
rising_bound ed lo [] hi r = r
rising_bound ed lo (o ∷ os) hi ((a, b, c), r) = omega (arith, rising_bound ed (suc o.id.0) os hi r)

-- no id outside the range has an object
pub below_none : (ed : Edition) (i : ObjectId) (lo : ℕ) (os : List Object) (hi : ℕ) → i.0 < lo → Rising ed lo os hi → lookup i os ≡ none
unfolding lookup
below_none ed i lo [] hi l r = refl
below_none ed i lo (o ∷ os) hi l ((a, b, c), r) = lookup_no i o os (ne_eqb i.0 o.id.0 (omega arith))
    ∙ below_none ed i (suc o.id.0) os hi (omega arith) r

pub above-none : (ed : Edition) (i : ObjectId) (lo : ℕ) (os : List Object) (hi : ℕ) → hi ≤ i.0 → Rising ed lo os hi → lookup i os ≡ none
unfolding lookup
above-none ed i lo [] hi l r = refl
above-none ed i lo (o ∷ os) hi l (g, r) =
    lookup_no i o os (ne_eqb i.0 o.id.0 (omega (arith, rising_bound ed (suc o.id.0) os hi r))) ∙ above-none ed i (suc o.id.0) os hi l r

rising_snoc : (ed : Edition) (lo : ℕ) (os : List Object) (hi : ℕ) (i : ObjectId) (v : List ℕ) → MayStand ed hi (settled i v) → Rising ed lo os hi
    → Rising ed lo (os ++ (object i v ∷ [])) (suc i.0)
rising_snoc ed lo [] hi i v (a, b, c) r = ((omega arith, b, c), omega arith)
rising_snoc ed lo (o ∷ os) hi i v g (x, r) = (x, rising_snoc ed (suc o.id.0) os hi i v g r)

rising-insert : (ed : Edition) (lo : ℕ) (i : ObjectId) (v : List ℕ) (os : List Object) → MayStand ed lo (settled i v) → Rising ed lo os 256
    → Rising ed lo (insert i v os) 256
unfolding insert
rising-insert ed lo i v [] g r = (g, omega arith)
rising-insert ed lo i v (o ∷ os) (a, b, c) ((a', b', c'), r) =
    on-order i.0 o.id.0
    (λ e l. rw (insert_lt i v o os e) ((a, b, c), ((omega arith, b', c'), r)))
    (λ e l. rw (insert_eq i v o os e) ((a, b, c), rising-from ed (suc o.id.0) (suc i.0) os 256 (omega arith) r))
    (λ e l. rw (insert_gt i v o os e) ((a', b', c'), rising-insert ed (suc o.id.0) i v os (l, b, c) r))

rising-remove : (ed : Edition) (lo : ℕ) (i : ObjectId) (os : List Object) → Rising ed lo os 256 → Rising ed lo (remove i os) 256
unfolding remove
rising-remove ed lo i [] r = r
rising-remove ed lo i (o ∷ os) ((a, b, c), r) =
    on_test (eqb i.0 o.id.0)
    (λ e. rw (e, remove) (rising-from ed (suc o.id.0) lo (remove i os) 256 (omega arith) (rising-remove ed (suc o.id.0) i os r)))
    (λ e. rw (e, remove) ((a, b, c), rising-remove ed (suc o.id.0) i os r))

abbrev pub LegalChanges : (ed : Edition) → List Change → Type 0
LegalChanges ed [] = Unit {0}
LegalChanges ed (c ∷ cs) = LegalChange ed c × LegalChanges ed cs

rising-change : (ed : Edition) (c : Change) (os : List Object) → LegalChange ed c → Rising ed 0 os 256 → Rising ed 0 (change1 c os) 256
rising-change ed (put i v) os (h, a, b) r = rising-insert ed 0 i v os (omega arith, a, b) r
rising-change ed (delete i) os g r = rising-remove ed 0 i os r

pub rising-changes : (ed : Edition) (cs : List Change) (os : List Object) → LegalChanges ed cs → Rising ed 0 os 256 → Rising ed 0 (change_all cs os) 256
unfolding change_all
rising-changes ed [] os g r = r
rising-changes ed (c ∷ cs) os (g, gs) r = rising-changes ed cs (change1 c os) gs (rising-change ed c os g r)

legal-change : (ed : Edition) (h : Host) (c : Change) → MayStand ed 256 (change h c) → LegalChange ed c
legal-change ed h (put i v) (a, b, c) = (omega arith, b, c)
legal-change ed h (delete i) (a, b) = (omega arith, b)

pub legal_list : (ed : Edition) (h : Host) (es : List Entry) → LegalEntries ed es → LegalChanges ed (list_of h es)
unfolding list_of
legal_list ed h [] g = tt
legal_list ed h (e ∷ es) (g, gs) =
    on_test (eqb h.0 e.host.0)
    (λ t. rw (t, list_of) (legal-change ed e.host e.what g, legal_list ed h es gs))
    (λ t. rw (t, list_of) (legal_list ed h es gs))

pub legal-without : (ed : Edition) (h : Host) (es : List Entry) → LegalEntries ed es → LegalEntries ed (without h es)
unfolding without
legal-without ed h [] g = tt
legal-without ed h (e ∷ es) (g, gs) =
    on_test (eqb h.0 e.host.0) (λ t. rw (t, without) (legal-without ed h es gs)) (λ t. rw (t, without) (g, legal-without ed h es gs))

legal_snoc : (ed : Edition) (es : List Entry) (e : Entry) → MayStand ed 256 (pending_frame e) → LegalEntries ed es → LegalEntries ed (es ++ (e ∷ []))
legal_snoc ed [] e g gs = (g, tt)
legal_snoc ed (x ∷ es) e g (a, gs) = (a, legal_snoc ed es e g gs)

-- what replay makes of frames that may stand in a block, after which settled ones may come from n on
pub record Sound (ed : Edition) (n : ℕ) (s : State) : Type 0 where
  pub rising : Rising ed 0 s.objects n
  pub low : n ≤ 256
  pub entries : LegalEntries ed s.pending

sound-next : (ed : Edition) (n : ℕ) (s : State) (f : Frame) → MayStand ed n f → Sound ed n s → Sound ed (next_after f) (next_state s f)
sound-next ed n s (change h c) g k =
    record {
      rising = rising-to ed 0 s.objects n 256 k.low k.rising;
      low = omega arith;
      entries = legal_snoc ed s.pending (entry h c)
          (stands_any ed n 256 (change h c) tt g) k.entries;
    }
sound-next ed n s (commit h) g k =
    record {
      rising =
          rising-changes ed (list_of h s.pending) s.objects (legal_list ed h s.pending k.entries)
          (rising-to ed 0 s.objects n 256 k.low k.rising);
      low = omega arith;
      entries = legal-without ed h s.pending k.entries;
    }
sound-next ed n s (abort h) g k =
    record { rising = rising-to ed 0 s.objects n 256 k.low k.rising; low = omega arith; entries = legal-without ed h s.pending k.entries }
sound-next ed n s (settled i v) g k = record { rising = rising_snoc ed 0 s.objects n i v g k.rising; low = omega arith; entries = k.entries }
sound-next ed n s (closed v) g k = record { rising = rising-to ed 0 s.objects n 256 k.low k.rising; low = omega arith; entries = k.entries }
sound-next ed n s reset g k = record { rising = rising-to ed 0 s.objects n 256 k.low k.rising; low = omega arith; entries = tt }

sound-from : (ed : Edition) (n : ℕ) (s : State) (fs : List Frame) → AllMayStand ed n fs → Sound ed n s → Sound ed (next_of n fs) (replay_from s fs)
unfolding replay_from
sound-from ed n s [] g k = k
sound-from ed n s (f ∷ fs) (g, gs) k = sound-from ed (next_after f) (next_state s f) fs gs (sound-next ed n s f g k)

pub sound-replay : (ed : Edition) (fs : List Frame) → AllMayStand ed 0 fs → Sound ed (next_of 0 fs) (replay fs)
sound-replay ed fs g = sound-from ed 0 (state [] []) fs g (record { rising = omega arith; low = omega arith; entries = tt })

pub sound-settled : (ed : Edition) (n : ℕ) (s : State) → Sound ed n s → Sound ed n (settled_only s)
sound-settled ed n s k = record { rising = k.rising; low = k.low; entries = tt }

stands-objects : (ed : Edition) (n : ℕ) (os : List Object) (hi : ℕ) → Rising ed n os hi → AllMayStand ed n (map settled_frame os)
stands-objects ed n [] hi r = tt
stands-objects ed n (o ∷ os) hi (g, r) = (g, stands-objects ed (suc o.id.0) os hi r)

stands-entries : (ed : Edition) (n : ℕ) (es : List Entry) → LegalEntries ed es → AllMayStand ed n (map pending_frame es)
stands-entries ed n [] g = tt
stands-entries ed n (e ∷ es) (g, gs) = (stands_any ed 256 n (pending_frame e) tt g, stands-entries ed 256 es gs)

-- the frames that a transfer writes may stand in a block
pub stands-frames_of : (ed : Edition) (n : ℕ) (s : State) → Sound ed n s → AllMayStand ed 0 (frames_of s)
stands-frames_of ed n s k =
    stands-append ed 0 (map settled_frame s.objects) (map pending_frame s.pending) (stands-objects ed 0 s.objects n k.rising)
    (stands-entries ed _ s.pending k.entries)

-- the same for frames that a replay amounts to, with and without what is pending
pub stands-replay : (ed : Edition) (fs : List Frame) → AllMayStand ed 0 fs → AllMayStand ed 0 (frames_of (replay fs))
stands-replay ed fs g = stands-frames_of ed (next_of 0 fs) (replay fs) (sound-replay ed fs g)

pub stands-settled : (ed : Edition) (fs : List Frame) → AllMayStand ed 0 fs → AllMayStand ed 0 (frames_of (settled_only (replay fs)))
stands-settled ed fs g = stands-frames_of ed (next_of 0 fs) (settled_only (replay fs)) (sound-settled ed (next_of 0 fs) (replay fs) (sound-replay ed fs g))

-- none of the frames that a transfer writes is a closed one
pub none-closed : (s : State) → NoneClosed (frames_of s)
none-closed s = objects s.objects
  where
    entries : (es : List Entry) → NoneClosed (map pending_frame es)
    entries [] = tt
    entries (e ∷ es) = (tt, entries es)

    objects : (os : List Object) → NoneClosed (map settled_frame os ++ map pending_frame s.pending)
    objects [] = entries s.pending
    objects (o ∷ os) = (tt, objects os)
