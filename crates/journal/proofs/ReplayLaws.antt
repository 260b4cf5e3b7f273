-- Replay, U, C and a state's frames are as document 01 words them.
use mathlib.Core.Path.{◌≡◌, refl, sym, ap, ap₂, subst, ◌∙◌}
use mathlib.Core.List.{List, [], ◌∷◌, ◌++◌, map}
use mathlib.Core.Option.{none, some}
use mathlib.Core.Bool.{true, false}
use Prim.Native.Nat.{ℕ, zero, suc, ◌+◌, ◌*◌, ◌≤◌}
use native.Mathlib.Omega.{arith}
use lib.Dec.{eqb}
use lib.ListN.{length, get_or, length-append, length-map}
use lib.Seq.{get_or-append-add}
use borrow.Author.Tests.{eq-eqb, ne_eqb, eqb-true, eqb-false, ltb-true, lt-ltb}
use Rattle.flash.proofs.Cases.{on_test, clash}
use Rattle.frame.specs.declared.Edition.{Edition}
use Rattle.frame.specs.declared.Edition.TheVariants as edition
use Rattle.frame.specs.declared.Host.{Host}
use Rattle.frame.specs.declared.ObjectId.{ObjectId}
use Rattle.frame.specs.Frame.{host_of, Change, put, delete, Frame, change, commit, abort, settled, closed, reset, MayStand, AllMayStand, next_after, next_of}
use Rattle.frame.specs.Frame.{check_len, frame_len, total}
use Rattle.journal.specs.Replay.{Object, object, Entry, entry, State, state, lookup, change_all, list_of, without, is_open_of, replay_from}
use Rattle.journal.specs.Replay.{replay, settled_frame, pending_frame, frames_of}
use Rattle.journal.specs.Room.{one, open_hosts, pending_for, host_full}
use Rattle.journal.specs.Laws.{RisesFrom, Applied, then, ReplayLaws, OrderLaws, by_edition, settled_bytes, change_bytes, pending_bytes, changes_bytes}
use Rattle.journal.specs.Laws.{UsedExact, PendingExact, FramesExact}
use Rattle.journal.proofs.Lookups.{lookup_yes, lookup_no}
use Rattle.journal.proofs.Lists.{list_own, list_other, list_snoc, list_snoc_other, not_open, open_none, without_none, open_snoc, open_snoc_other}
use Rattle.journal.proofs.Replaying.{Rising, above-none, sound-replay, replay_snoc, replay_frames_of}
use Rattle.journal.proofs.PerHost.{per_at, per_list, bytes-own}
use Rattle.journal.proofs.ObjectLaws.{applied}

-- ---- settled frames

rising-rises : (ed : Edition) (n : ℕ) (os : List Object) (hi : ℕ) → Rising ed n os hi → RisesFrom n os
rising-rises ed n [] hi r = tt
rising-rises ed n (o ∷ os) hi ((a, b, c), r) = (a, rising-rises ed (suc o.id.0) os hi r)

lookup-last : (i : ObjectId) (v : List ℕ) (os : List Object) → lookup i os ≡ none → lookup i (os ++ (object i v ∷ [])) ≡ some v
unfolding lookup
lookup-last i v [] e = lookup_yes i (object i v) [] (eq-eqb i.0 i.0 refl)
lookup-last i v (o ∷ os) e =
    on_test (eqb i.0 o.id.0)
    (λ t. let z : some o.value ≡ none = sym (lookup_yes i o os t) ∙ e in let y : ◌≡◌ {A = ℕ} 0 1 = cc in absurd (omega arith))
    (λ t. lookup_no i o (os ++ (object i v ∷ [])) t ∙ lookup-last i v os (sym (lookup_no i o os t) ∙ e))

lookup-before : (i j : ObjectId) (v : List ℕ) (os : List Object) → (i.0 ≡ j.0 → ⊥) → lookup i (os ++ (object j v ∷ [])) ≡ lookup i os
unfolding lookup
lookup-before i j v [] n = lookup_no i (object j v) [] (ne_eqb i.0 j.0 n)
lookup-before i j v (o ∷ os) n =
    on_test (eqb i.0 o.id.0)
    (λ t. lookup_yes i o (os ++ (object j v ∷ [])) t ∙ sym (lookup_yes i o os t))
    (λ t. lookup_no i o (os ++ (object j v ∷ [])) t ∙ lookup-before i j v os n ∙ sym (lookup_no i o os t))

-- legal frames and one more: those before it, and where it stands
stands-before : (ed : Edition) (n : ℕ) (fs : List Frame) (f : Frame) → AllMayStand ed n (then fs f) → AllMayStand ed n fs
stands-before ed n [] f g = tt
stands-before ed n (x ∷ fs) f (g, gs) = (g, stands-before ed (next_after x) fs f gs)

stands-last : (ed : Edition) (n : ℕ) (fs : List Frame) (f : Frame) → AllMayStand ed n (then fs f) → MayStand ed (next_of n fs) f
stands-last ed n [] f (g, gs) = g
stands-last ed n (x ∷ fs) f (g, gs) = stands-last ed (next_after x) fs f gs

settled-new : (ed : Edition) (fs : List Frame) (i : ObjectId) (v : List ℕ) → AllMayStand ed 0 (then fs (settled i v)) → lookup i (replay fs).objects ≡ none
settled-new ed fs i v g =
    above-none ed i 0 (replay fs).objects (next_of 0 fs) (stands-last ed 0 fs (settled i v) g).0
    (sound-replay ed fs (stands-before ed 0 fs (settled i v) g)).rising

-- ---- one frame more

module _ (fs : List Frame) where
  abbrev was : State
  was = replay fs

  after_change : (h : Host) (c : Change) → replay (then fs (change h c)) ≡ state was.objects (was.pending ++ (entry h c ∷ []))
  after_change h c = replay_snoc fs (change h c)

  after-commit : (h : Host) → replay (then fs (commit h)) ≡ state (change_all (list_of h was.pending) was.objects) (without h was.pending)
  after-commit h = replay_snoc fs (commit h)

  after_abort : (h : Host) → replay (then fs (abort h)) ≡ state was.objects (without h was.pending)
  after_abort h = replay_snoc fs (abort h)

  after_settled : (i : ObjectId) (v : List ℕ) → replay (then fs (settled i v)) ≡ state (was.objects ++ (object i v ∷ [])) was.pending
  after_settled i v = replay_snoc fs (settled i v)

  after_reset : replay (then fs reset) ≡ state was.objects []
  after_reset = replay_snoc fs reset

  nothing_left : (h : Host) → list_of h was.pending ≡ [] → without h was.pending ≡ was.pending
  nothing_left h e = without_none h was.pending (open_none h was.pending e)

  commit_nothing : (h : Host) → list_of h was.pending ≡ [] → replay (then fs (commit h)) ≡ was
  unfolding change_all
  commit_nothing h e =
      after-commit h ∙ ap (λ (cs : List Change). state (change_all cs was.objects) (without h was.pending)) e
      ∙ ap (λ (es : List Entry). state was.objects es) (nothing_left h e)

  abort_nothing : (h : Host) → list_of h was.pending ≡ [] → replay (then fs (abort h)) ≡ was
  abort_nothing h e = after_abort h ∙ ap (λ (es : List Entry). state was.objects es) (nothing_left h e)

pub replay_laws : ReplayLaws
unfolding replay_from list_of
replay_laws =
    record {
      nothing = refl;
      rises = λ ed fs g. rising-rises ed 0 (replay fs).objects (next_of 0 fs) (sound-replay ed fs g).rising;
      settled_own = λ ed fs i v g.
          ap (λ (s : State). lookup i s.objects) (after_settled fs i v) ∙ lookup-last i v (replay fs).objects (settled-new ed fs i v g);
      settled_other = λ fs i j v n. ap (λ (s : State). lookup i s.objects) (after_settled fs j v) ∙ lookup-before i j v (replay fs).objects n;
      settled_pending = λ fs h i v. ap (λ (s : State). list_of h s.pending) (after_settled fs i v);
      change_objects = λ fs h c. ap (λ (s : State). s.objects) (after_change fs h c);
      change_own = λ fs h c. ap (λ (s : State). list_of h s.pending) (after_change fs h c) ∙ list_snoc h (replay fs).pending c;
      change_other = λ fs g h c n.
          ap (λ (s : State). list_of g s.pending) (after_change fs h c) ∙ list_snoc_other g h (replay fs).pending c (λ e. n (sym e));
      commit_objects = λ fs h.
          subst (λ (s : State). Applied (list_of h (replay fs).pending) (replay fs).objects s.objects) (sym (after-commit fs h))
          (applied (list_of h (replay fs).pending) (replay fs).objects);
      commit_own = λ fs h. ap (λ (s : State). list_of h s.pending) (after-commit fs h) ∙ list_own h (replay fs).pending;
      commit_other = λ fs g h n.
          ap (λ (s : State). list_of g s.pending) (after-commit fs h) ∙ list_other g h (replay fs).pending (λ e. n (sym e));
      abort_objects = λ fs h. ap (λ (s : State). s.objects) (after_abort fs h);
      abort_own = λ fs h. ap (λ (s : State). list_of h s.pending) (after_abort fs h) ∙ list_own h (replay fs).pending;
      abort_other = λ fs g h n.
          ap (λ (s : State). list_of g s.pending) (after_abort fs h) ∙ list_other g h (replay fs).pending (λ e. n (sym e));
      commit_nothing = commit_nothing;
      abort_nothing = abort_nothing;
      closed_nothing = λ fs v. replay_snoc fs (closed v);
      reset_objects = λ fs. ap (λ (s : State). s.objects) (after_reset fs);
      reset_pending = λ fs h. ap (λ (s : State). list_of h s.pending) (after_reset fs);
      reset_nothing = λ fs e. after_reset fs ∙ ap (state (replay fs).objects) (sym e);
    }

without-taken : (h : Host) (xs ys : List Entry) (c : Change) → without h (xs ++ (entry h c ∷ ys)) ≡ without h (xs ++ ys)
unfolding without
without-taken h [] ys c = rw (eq-eqb h.0 h.0 refl, without)
without-taken h (x ∷ xs) ys c =
    on_test (eqb h.0 x.host.0)
    (λ t. rw (t, without) (without-taken h xs ys c))
    (λ t. rw (t, without) (ap (λ (l : List Entry). x ∷ l) (without-taken h xs ys c)))

pub order_laws : OrderLaws
order_laws =
    record {
      joins = λ fs h c. ap (λ (s : State). s.pending) (after_change fs h c);
      after-commit = λ fs h. ap (λ (s : State). s.pending) (after-commit fs h);
      after_abort = λ fs h. ap (λ (s : State). s.pending) (after_abort fs h);
      after_reset = λ fs. ap (λ (s : State). s.pending) (after_reset fs);
      taken = without-taken;
      left = λ h es e. without_none h es (open_none h es e);
      is_open = λ h es. (
        λ t e. clash (is_open_of h es) t (open_none h es e),
        λ n. on_test (is_open_of h es) (λ t. t) (λ t. absurd (n (not_open h es t))),
      );
    }

-- ---- U, C and open

-- the papers' numbers, by the length of a check
lens : (ed : Edition) → (by_edition ed 7 11 ≡ 7 + check_len ed) × (by_edition ed 8 12 ≡ 8 + check_len ed)
lens edition.First = (refl, refl)
lens edition.Second = (refl, refl)

objects-total : (ed : Edition) (os : List Object) → total ed (map settled_frame os) ≡ settled_bytes ed os
unfolding total
objects-total ed [] = refl
objects-total ed (o ∷ os) = omega (arith, lens ed, objects-total ed os)

frame_len_lem : (ed : Edition) (h : Host) (c : Change) → frame_len ed (change h c) ≡ change_bytes ed c
frame_len_lem ed h (put i v) = omega (arith, lens ed)
frame_len_lem ed h (delete i) = omega (arith, lens ed)

change_len : (ed : Edition) (h : Host) (c : Change) → total ed (change h c ∷ []) ≡ change_bytes ed c
unfolding total
change_len ed h (put i v) = omega (arith, lens ed)
change_len ed h (delete i) = omega (arith, lens ed)

entries-total : (ed : Edition) (es : List Entry) → total ed (map pending_frame es) ≡ pending_bytes ed es
unfolding total
entries-total ed [] = refl
entries-total ed (e ∷ es) = omega (arith, change_len ed e.host e.what, entries-total ed es)

module _ (es : List Entry) (c : Change) where
  -- whether host m counts, after a change of host k and before
  abbrev counts : ℕ → ℕ → ℕ
  counts k m = one (is_open_of (host_of m) (es ++ (entry (host_of k) c ∷ [])))

  abbrev counted : ℕ → ℕ
  counted m = one (is_open_of (host_of m) es)

  own : (m : ℕ) → counts m m ≡ 1
  own m = ap one (open_snoc (host_of m) es c)

  other : (k m : ℕ) → eqb k m ≡ false → counts k m ≡ counted m
  other k m t = ap one (open_snoc_other (host_of m) (host_of k) es c (eqb-false k m t))

  first : (m : ℕ) → m ≤ 3 → counted m ≡ 0 → open_hosts (es ++ (entry (host_of m) c ∷ [])) ≡ open_hosts es + 1
  first zero l q = omega (arith, own 0, other 0 1 refl, other 0 2 refl, other 0 3 refl)
  first (suc zero) l q = omega (arith, own 1, other 1 0 refl, other 1 2 refl, other 1 3 refl)
  first (suc (suc zero)) l q = omega (arith, own 2, other 2 0 refl, other 2 1 refl, other 2 3 refl)
  first (suc (suc (suc zero))) l q = omega (arith, own 3, other 3 0 refl, other 3 1 refl, other 3 2 refl)
  first (suc (suc (suc (suc m)))) l q = absurd (omega arith)

  -- a host that counts already counts no more
  again : (k m : ℕ) → is_open_of (host_of k) es ≡ true → counts k m ≡ counted m
  again k m t =
      on_test (eqb k m)
      (λ e. let q : k ≡ m = eqb-true k m e in subst (λ (n : ℕ). counts k n ≡ counted n) q (own k ∙ sym (ap one t)))
      (other k m)

pub used-exact : UsedExact
unfolding is_open_of
used-exact =
    record {
      used_is = λ ed s. ap (λ (n : ℕ). 16 + n) (objects-total ed s.objects);
      claimed_is = λ ed s. omega (arith, objects-total ed s.objects, entries-total ed s.pending);
      open_none = refl;
      open_first = λ h es c k e. first es c h.0 k (ap one (open_none h es e));
      open_again = λ h es c n.
          let t : is_open_of h es ≡ true = on_test (is_open_of h es) (λ q. q) (λ q. absurd (n (not_open h es q))) in
          omega (arith, again es c h.0 0 t, again es c h.0 1 t, again es c h.0 2 t, again es c h.0 3 t);
    }

-- ---- each host's pending bytes

pub changes-total : (ed : Edition) (h : Host) (cs : List Change) → total ed (map (change h) cs) ≡ changes_bytes ed cs
unfolding total
changes-total ed h [] = refl
changes-total ed h (c ∷ cs) = omega (arith, change_len ed h c, changes-total ed h cs)

pub pending-exact : PendingExact
unfolding host_full
pending-exact =
    record {
      are = λ ed fs.
          record {
            four = refl;
            each = λ h l. per_at (λ g. pending_for ed g (replay fs).pending) h l ∙ changes-total ed h (list_of h (replay fs).pending);
          };
      only = λ ed ps fs y.
          per_list ps (λ g. pending_for ed g (replay fs).pending) y.four (λ h l. y.each h l ∙ sym (changes-total ed h (list_of h (replay fs).pending)));
      full_is = λ ed size fs h c.
          let e : pending_for ed h ((replay fs).pending ++ (entry h c ∷ [])) ≡ changes_bytes ed (list_of h (replay fs).pending) + change_bytes ed c =
          bytes-own ed h (replay fs).pending c ∙ ap₂ (λ (m n : ℕ). m + n) (changes-total ed h (list_of h (replay fs).pending)) (frame_len_lem ed h c) in
          let n : ℕ = 2 * pending_for ed h ((replay fs).pending ++ (entry h c ∷ [])) in
          (λ t. let l = ltb-true size n t in omega (arith, l, e), λ l. lt-ltb size n (omega (arith, l, e)));
    }

-- ---- a state's frames

object-frame : (xs ys : List Object) (i : ObjectId) (v : List ℕ) (fs : List Frame) (d : Frame)
    → get_or (map settled_frame (xs ++ (object i v ∷ ys)) ++ fs) (length xs) d ≡ settled i v
object-frame [] ys i v fs d = refl
object-frame (x ∷ xs) ys i v fs d = object-frame xs ys i v fs d

entry_frame : (xs ys : List Entry) (h : Host) (c : Change) (d : Frame)
    → get_or (map pending_frame (xs ++ (entry h c ∷ ys))) (length xs) d ≡ change h c
entry_frame [] ys h c d = refl
entry_frame (x ∷ xs) ys h c d = entry_frame xs ys h c d

pub frames-exact : FramesExact
frames-exact =
    record {
      count = λ s.
          length-append (map settled_frame s.objects) (map pending_frame s.pending)
          ∙ omega (arith, length-map s.objects settled_frame, length-map s.pending pending_frame);
      of_object = λ s xs ys i v d e.
          subst (λ (os : List Object). get_or (map settled_frame os ++ map pending_frame s.pending) (length xs) d ≡ settled i v) (sym e)
          (object-frame xs ys i v (map pending_frame s.pending) d);
      of_change = λ s xs ys h c d e.
          ap (λ (n : ℕ). get_or (frames_of s) (n + length xs) d) (sym (length-map s.objects settled_frame))
          ∙ get_or-append-add (map settled_frame s.objects) (map pending_frame s.pending) (length xs) d
          ∙ subst (λ (es : List Entry). get_or (map pending_frame es) (length xs) d ≡ change h c) (sym e) (entry_frame xs ys h c d);
      back = replay_frames_of;
    }
