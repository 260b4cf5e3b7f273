-- A cut format, of every image that a run left.
use mathlib.Core.Path.{◌≡◌, sym, ap, subst, ◌∙◌}
use mathlib.Core.List.{List, [], ◌∷◌}
use mathlib.Core.Bool.{Bool, false, false≢true}
use Prim.Native.Nat.{ℕ, ◌+◌, ◌≤◌}
use native.Mathlib.Omega.{arith}
use lib.Dec.{eqb}
use lib.ListN.{take}
use borrow.Author.Tests.{eqb-true, eqb-false}
use Rattle.frame.specs.declared.Edition.TheVariants as edition
use Rattle.flash.specs.Flash.{apply_all, block, size_of, with_block}
use Rattle.flash.proofs.Cases.{on_test}
use Rattle.frame.specs.Reader.{clean}
use Rattle.journal.specs.Replay.{Object}
use Rattle.journal.specs.Block.{BlockState, blank, in_progress, valid, foreign, block_state, journal}
use Rattle.journal.proofs.Blocks.{blank-block}
use Rattle.journal.proofs.States.{contents-valid}
use Rattle.board.specs.declared.Record.{Record}
use Rattle.board.specs.Record.{Out}
use Rattle.board.specs.Step.{begin}
use Rattle.board.specs.Mount.{Store, format_job, format_on, replay_of, time_of}
use Rattle.board.specs.Exec.{exec}
use Rattle.board.specs.Plan.{format_work}
use Rattle.board.specs.Book.{Book}
use Rattle.board.specs.Claim.{steps_on, Event, call, cut_erase, Happens, Track, tracked}
use Rattle.board.specs.CutFormat.{Left, after_all, left_by_of, Beside, OldObjects, Empty, NoStore as Nothing, EmptyStore, CutFormat}
use Rattle.board.specs.CutFormat.{Leaves, old_objects, still_none, no_store, empty_store}
use Rattle.board.proofs.Images.{Sized, size-of, sized-as, length-all-steps}
use Rattle.board.proofs.Invariant.{Quiet, Safe, Inv}
use Rattle.board.proofs.Current.{Alone, Keeps}
use Rattle.board.proofs.Deciding.{Taken, MountSafe, nothing_there, store_there, mount-safe}
use Rattle.board.proofs.Outcomes.{format-begins}
use Rattle.board.proofs.Stepping.{follows_part}
use Rattle.board.proofs.Keeping.{Bare, bare_of, cut-bare}
use Rattle.board.proofs.Accepted.{follows-format}
use Rattle.board.proofs.Lengths.{length-format}
use Rattle.board.proofs.Erasing.{NoStore}
use Rattle.board.proofs.Formatting.{at_size, FormatCut, format_cut}
use Rattle.board.proofs.Claiming.{begin_keeps, call_keeps, formatted_inv}

-- ---- what a mount finds after all

-- at the end, what is then known of formats and converts
pub record Ended (N : ℕ) (s : ℕ) (l : Left) : Type 0 where
  pub known : Track
  pub bare : Bare N s l.image l.book.objects known

pub run_ends : {N : ℕ} {s : ℕ} {img : List ℕ} {r : Record} {b : Book} {u : Track} → Inv N s img r b u → (es : List Event) → Happens N (exec N) img r b es
    → Ended N s (after_all N (exec N) img r b es)
run_ends {N} {s} {img} {r} {b} {u} v [] h = record { known = u; bare = bare_of v }
run_ends {N} {img = img} {r = r} v (call c ∷ es) (by, h) =
    run_ends {img = (exec N img r c).image} {r = (exec N img r c).board} (call_keeps v c by).1 es h
run_ends {N} {u = u} v (cut_erase k new q ∷ []) (x, n, h) = record { known = u; bare = cut-bare k new v x }
run_ends {N} {img = img} {b = b} v (cut_erase k new q ∷ call c ∷ es) (x, n, (by, h)) =
    let i : List ℕ = with_block (size_of N img) k new img in
    run_ends {img = (exec N i q c).image} {r = (exec N i q c).board} (begin_keeps b (cut-bare k new v x) q c n).1 es h
run_ends v (cut_erase k new q ∷ cut_erase j more p ∷ es) (x, n, h) = absurd n

-- ---- some steps of a plan, made

format-part : {N : ℕ} {s : ℕ} {img : List ℕ} (j : ℕ) → Sized N s img → j ≤ N + 10
    → (steps_on (exec N) j (format_on N img)).image ≡ apply_all s (take j (format_work N img).steps) img
format-part {N} {s} {img} j z h =
    ap (λ (o : Out). (steps_on (exec N) j o).image) (format-begins N img z.ok)
    ∙ follows_part N (exec N) s j (format_work N img).steps (begin img [] (format_job N img)) (format_work N img).last (size-of z)
    (omega (arith, length-format N img))
    (follows-format N img z.ok)

-- ---- what is left

module _ {N : ℕ} {s : ℕ} {img : List ℕ} (z : Sized N s img) where
  quiet_empty : (a : BlockState) → Quiet a → Empty a
  quiet_empty blank q = tt
  quiet_empty in_progress q = tt
  quiet_empty (valid w) q = absurd q
  quiet_empty (foreign e) q = absurd q

  -- what a mount takes
  taken_old : {os : List Object} {t : Bool} (x : Store) → Taken N s img x → Keeps t s x.journal.edition (replay_of x.journal) os → OldObjects N img os
  taken_old x y k =
      record {
        number = x.number;
        journal = x.journal;
        there = y.there;
        is-valid = at_size z (λ a. a ≡ valid x.journal) x.number y.is-valid;
        objects = k.same;
        others = λ j h n. at_size z (Beside (time_of x)) j (y.others j h n);
        apart = λ i j w v h l p q t.
            on_test (eqb i j) (eqb-true i j)
            (λ e.
            absurd (y.untied i j
            (record {
              journal = w;
              journal' = v;
              same = t;
              there = h;
              there' = l;
              apart = eqb-false i j e;
              is-valid = at_s i (valid w) p;
              is_valid' = at_s j (valid v) q;
            })));
      }
    where
      at_s : (j : ℕ) (a : BlockState) → block_state (block (size_of N img) j img) ≡ a → block_state (block s j img) ≡ a
      at_s j a e = subst (λ (n : ℕ). block_state (block n j img) ≡ a) (size-of z) e

  safe_old : {os : List Object} {t : Bool} → Safe N s img os (tracked false t) → OldObjects N img os
  safe_old {os} {t} f = go (mount-safe z f)
    where
      go : MountSafe N s img os (tracked false t) → OldObjects N img os
      go (nothing_there e r) = absurd (false≢true e)
      go (store_there x y h k q) = taken_old x y k

  alone_empty : Alone N s img 0 (journal edition.First 1 [] clean) → EmptyStore N img
  alone_empty y =
      record {
        first = at_size z (λ a. a ≡ valid (journal edition.First 1 [] clean)) 0 (contents-valid y.contents);
        others = λ j h n. at_size z (λ a. a ≡ blank) j (ap block_state (y.others j h n) ∙ blank-block s);
      }

  none_there : NoStore N s img → Nothing N img
  none_there q i l = at_size z Empty i (quiet_empty (block_state (block s i img)) (q i l))

cut-leaves : {N : ℕ} {s : ℕ} {img after : List ℕ} {os : List Object} {t : Bool} (j : ℕ) → Sized N s img → Sized N s after → FormatCut N s img os t j after
    → Leaves N os img j after
cut-leaves j z w (FormatCut.old_objects h f) = old_objects h (safe_old w f)
cut-leaves j z w (FormatCut.still_none h p q) = still_none h (none_there z p) (none_there w q)
cut-leaves j z w (FormatCut.no_store l h q) = no_store l h (none_there w q)
cut-leaves j z w (FormatCut.empty_store e y) = empty_store e (alone_empty w y)

format-leaves : {N : ℕ} {s : ℕ} {img : List ℕ} {os : List Object} {u : Track} (j : ℕ) → Sized N s img → Safe N s img os u → j ≤ N + 10
    → Leaves N os img j (steps_on (exec N) j (format_on N img)).image
format-leaves {N} {s} {img} {os} {u} j z f h =
    let i : List ℕ = apply_all s (take j (format_work N img).steps) img in
    subst (Leaves N os img j) (sym (format-part j z h))
    (cut-leaves j z (sized-as i (length-all-steps s (take j (format_work N img).steps) img) z) (format_cut z f j h))

pub cut_format : (N : ℕ) → CutFormat N (exec N)
unfolding CutFormat
cut_format N img r es j by ok hs h =
    let y : Ended N (size_of N img) (left_by_of N (exec N) img r es) = run_ends (formatted_inv img r by ok) es hs in
    format-leaves j y.bare.sized y.bare.safe h
