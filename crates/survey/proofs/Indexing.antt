-- Where a commit's pass over the frames may start, and that what stands before does nothing.
use mathlib.Core.Path.{◌≡◌, refl, sym, ap, subst, ◌∙◌}
use mathlib.Core.List.{List, [], ◌∷◌, ◌++◌, append_assoc, append-nil}
use mathlib.Core.Bool.{Bool}
use Prim.Native.Nat.{ℕ, ◌+◌, ◌≤◌, ◌<◌}
use native.Mathlib.Omega.{arith}
use lib.Dec.{eqb, leb}
use borrow.Author.Tests.{lt-leb}
use Rattle.flash.proofs.Cases.{on_test, and_no_right}
use Rattle.frame.specs.declared.Edition.{Edition}
use Rattle.frame.specs.declared.Host.{Host}
use Rattle.frame.specs.Frame.{Frame, change, commit, abort, settled, closed, reset, map_change, frame_len, total}
use Rattle.frame.proofs.Encode.{total_snoc}
use Rattle.journal.specs.Block.{header_len}
use Rattle.journal.specs.Index.{is_end, pick, since_from, since_host, place_if}
use Rattle.journal.proofs.Pending.{since_snoc}
use Rattle.journal.proofs.Tables.{place_frame, commit_places}

-- `since` lies between two frames
pub record Boundary (ed : Edition) (h : Host) (fs : List Frame) : Type 0 where
  pub before : List Frame
  pub after : List Frame
  pub split : fs ≡ before ++ after
  pub lies : since_host ed h fs ≡ header_len + total ed before

boundary-next : (ed : Edition) (h : Host) (fs : List Frame) (f : Frame) → Boundary ed h fs → Boundary ed h (fs ++ (f ∷ []))
boundary-next ed h fs f y =
    on_test (is_end h f)
    (λ t.
    record {
      before = fs ++ (f ∷ []);
      after = [];
      split = sym (append-nil (fs ++ (f ∷ [])));
      lies =
          since_snoc ed h header_len header_len fs f ∙ ap (λ (x : Bool). pick x (header_len + total ed fs + frame_len ed f) (since_host ed h fs)) t
          ∙ omega (arith, total_snoc ed fs f);
    })
    (λ t.
    record {
      before = y.before;
      after = y.after ++ (f ∷ []);
      split = ap (λ (x : List Frame). x ++ (f ∷ [])) y.split ∙ append_assoc y.before y.after (f ∷ []);
      lies = since_snoc ed h header_len header_len fs f ∙ ap (λ (x : Bool). pick x (header_len + total ed fs + frame_len ed f) (since_host ed h fs)) t ∙ y.lies;
    })

boundary-all : (ed : Edition) (h : Host) (fs gs : List Frame) → Boundary ed h fs → Boundary ed h (fs ++ gs)
boundary-all ed h fs [] y = subst (Boundary ed h) (sym (append-nil fs)) y
boundary-all ed h fs (g ∷ gs) y = subst (Boundary ed h) (append_assoc fs (g ∷ []) gs) (boundary-all ed h (fs ++ (g ∷ [])) gs (boundary-next ed h fs g y))

pub boundary : (ed : Edition) (h : Host) (fs : List Frame) → Boundary ed h fs
unfolding since_from total
boundary ed h fs = boundary-all ed h [] fs (record { before = []; after = []; split = refl; lies = refl })

place-early : (h : Host) (d o : ℕ) (f : Frame) (t : List ℕ) → o < d → place_frame h d o f t ≡ t
place-early h d o (change g c) t l =
    ap (λ (x : Bool). place_if x (map_change (λ v. o) c) t) (and_no_right (eqb h.0 g.0) (leb d o) (lt-leb d o l))
place-early h d o (commit g) t l = refl
place-early h d o (abort g) t l = refl
place-early h d o (settled i v) t l = refl
place-early h d o (closed v) t l = refl
place-early h d o reset t l = refl

-- what stands before `since` does nothing
pub commit-from : (ed : Edition) (h : Host) (d o : ℕ) (t : List ℕ) (fs gs : List Frame) → o + total ed fs ≤ d
    → commit_places ed h d o t (fs ++ gs) ≡ commit_places ed h d (o + total ed fs) t gs
unfolding commit_places total
commit-from ed h d o t [] gs l = let e : o ≡ o + 0 = omega arith in ap (λ (x : ℕ). commit_places ed h d x t gs) e
commit-from ed h d o t (f ∷ fs) gs l =
    let n : ℕ = o + frame_len ed f in
    let e : n + total ed fs ≡ o + (frame_len ed f + total ed fs) = omega arith in
    ap (λ (x : List ℕ). commit_places ed h d n x (fs ++ gs)) (place-early h d o f t (omega arith)) ∙ commit-from ed h d n t fs gs (omega arith)
    ∙ ap (λ (x : ℕ). commit_places ed h d x t gs) e
