-- The current block mended in place: a torn frame closed, then a reset. Each byte lands, every prefix keeps what a mount finds, and the block then has its
-- settled objects and nothing pending.
use mathlib.Core.Path.{◌≡◌, refl, sym, ap, subst, ◌∙◌, subst₂}
use mathlib.Core.List.{List, [], ◌∷◌, ◌++◌}
use Prim.Native.Nat.{ℕ, suc, ◌+◌, ◌≤◌}
use native.Mathlib.Omega.{arith}
use lib.ListN.{length, get_or, take}
use Rattle.flash.specs.Flash.{Step, apply_all, block, Write, write, writes, write_all}
use Rattle.flash.proofs.Offsets.{Below}
use Rattle.frame.specs.declared.Edition.{Edition}
use Rattle.frame.specs.Frame.{closed, reset, encode, edition_number, frame_len}
use Rattle.frame.specs.Reader.{Tail, clean, cut, bad}
use Rattle.frame.proofs.Encode.{length-encode, total_snoc}
use Rattle.journal.specs.Replay.{Object, Entry, State, state, settled_only}
use Rattle.journal.specs.Block.{Journal, torn_len, close_writes}
use Rattle.journal.specs.Room.{counts_in}
use Rattle.journal.proofs.Blocks.{Okay}
use Rattle.journal.proofs.Building.{Lands}
use Rattle.journal.proofs.Closing.{ClosesWell, Closed}
use Rattle.journal.proofs.Replaying.{replay_snoc}
use Rattle.journal.proofs.Tables.{places-stay}
use Rattle.board.specs.declared.Rest.{Rest}
use Rattle.board.specs.Record.{landing, idle}
use Rattle.board.specs.Mount.{end_of, closed_end, reset_bytes, due_reset, replay_of, places_in}
use Rattle.board.specs.Plan.{on_block}
use Rattle.board.specs.Claim.{Track}
use Rattle.board.proofs.Images.{length-all-steps, apply-append, block_writes}
use Rattle.board.proofs.Invariant.{StepLands, Guard}
use Rattle.board.proofs.Prefixes.{Each, each_append, each-writes, below-take}
use Rattle.board.proofs.Current.{Alone, After, Roomy, Keeps, block-long, alone-after, alone-safe, alone-written}
use Rattle.board.proofs.Appending.{Fits, with_frame, append_lands, append_guard, append_ends}

-- a block whose tail was closed: what it holds then
pub record Tidy (N s : ℕ) (img : List ℕ) (k : ℕ) (w : Journal) : Type 0 where
  pub journal : Journal
  pub alone : Alone N s img k journal
  pub is_clean : journal.tail ≡ clean
  pub edition : journal.edition ≡ w.edition
  pub same : replay_of journal ≡ replay_of w
  pub ends : end_of journal ≡ closed_end w
  pub places : places_in journal ≡ places_in w

-- the writes that close it
abbrev pub tidying : ℕ → ℕ → List ℕ → Journal → List Write
tidying s k img w = close_writes (block s k img) (end_of w) w.tail

-- ---- the closing

module _ {N s k : ℕ} {img : List ℕ} {w : Journal} (a : Alone N s img k w) (c : ClosesWell (block s k img) w) where
  abbrev ws : List Write
  ws = tidying s k img w

  below : Below s ws
  below = subst (λ (n : ℕ). Below n ws) (block-long k a.sized a.there) c.below

  close_lands : Each s (StepLands s) (on_block k ws) img
  close_lands =
      each-writes s k (StepLands s) ws (write 0 0) img
      (λ j h. subst (λ (b : List ℕ). Lands b (get_or ws j (write 0 0))) (sym (block_writes s k (take j ws) img (below-take s j ws below))) (c.lands j h))

  close_guard : {os : List Object} (u : Track) → Keeps u.tight s w.edition (replay_of w) os → Each s (Guard N s os u) (on_block k ws) img
  close_guard {os} u p =
      each-writes s k (Guard N s os u) ws (write 0 0) img
      (λ j h. (alone-safe u (alone-written (take j ws) a (below-take s j ws below) (c.during j h)) p, tt))

  close_tidies : Tidy N s (apply_all s (on_block k ws) img) k w
  unfolding apply_all
  close_tidies = go w.tail refl
    where
      go : (t : Tail) → w.tail ≡ t → Tidy N s (apply_all s (on_block k ws) img) k w
      go clean e =
          let none : ws ≡ [] = ap (close_writes (block s k img) (end_of w)) e in
          let ends : end_of w ≡ end_of w + torn_len w.tail = omega (arith, ap torn_len e) in
          subst (λ (l : List Write). Tidy N s (apply_all s (on_block k l) img) k w) (sym none)
          (record { journal = w; alone = a; is_clean = e; edition = refl; same = refl; ends = ends; places = refl })
      go (cut n) e =
          let y : Closed (write_all (block s k img) ws) w n = c.after n e in
          record {
            journal = with_frame w (closed y.value);
            alone = alone-written ws a below y.contents;
            is_clean = refl;
            edition = refl;
            same = replay_snoc w.frames (closed y.value);
            ends = omega (arith, total_snoc w.edition w.frames (closed y.value), y.long, ap torn_len e);
            places = places-stay w.edition w.frames (closed y.value) (λ st o. refl);
          }
      go (bad f) e = absurd (subst Okay e a.contents.okay)

-- ---- the reset

-- appended to a block whose tail is clean, if anything is pending
abbrev resetting : ℕ → Journal → List Step
resetting k w = on_block k (writes (closed_end w) (due_reset w))

module _ {N s k : ℕ} {img : List ℕ} {w : Journal} (y : Tidy N s img k w) (room : closed_end w + length (due_reset w) ≤ s) where
  abbrev v : Journal
  v = y.journal

  -- the reset's writes, by the journal that it is appended to
  reset_fits : {ps : List Entry} {p : Entry} → (replay_of w).pending ≡ p ∷ ps → Fits s v reset
  reset_fits q =
      record {
        host = tt;
        legal = tt;
        short = omega (
          arith,
          y.ends,
          ap (λ (l : List Entry). length (reset_bytes w l)) q,
          length-encode w.edition reset,
          length-encode v.edition reset,
          ap (λ (ed : Edition). length (encode ed reset)) y.edition,
          room,
        );
      }

  reset_is : {ps : List Entry} {p : Entry} → (replay_of w).pending ≡ p ∷ ps → on_block k (writes (end_of v) (encode v.edition reset)) ≡ resetting k w
  reset_is q =
      ap (λ (n : ℕ). on_block k (writes n (encode v.edition reset))) y.ends
      ∙ ap (λ (ed : Edition). on_block k (writes (closed_end w) (encode ed reset))) y.edition
      ∙ sym (ap (λ (l : List Entry). on_block k (writes (closed_end w) (reset_bytes w l))) q)

  none_is : (replay_of w).pending ≡ [] → resetting k w ≡ []
  unfolding writes
  none_is q = ap (λ (l : List Entry). on_block k (writes (closed_end w) (reset_bytes w l))) q

  reset_lands : Each s (StepLands s) (resetting k w) img
  reset_lands = go (replay_of w).pending refl
    where
      go : (ps : List Entry) → (replay_of w).pending ≡ ps → Each s (StepLands s) (resetting k w) img
      go [] q = subst (λ (xs : List Step). Each s (StepLands s) xs img) (sym (none_is q)) (λ j h. absurd (omega arith))
      go (p ∷ ps) q = subst (λ (xs : List Step). Each s (StepLands s) xs img) (reset_is q) (append_lands y.alone y.is_clean reset (reset_fits q))

  reset_guard : {os : List Object} (u : Track) → Keeps u.tight s v.edition (replay_of v) os → Each s (Guard N s os u) (resetting k w) img
  reset_guard {os} u h = go (replay_of w).pending refl
    where
      go : (ps : List Entry) → (replay_of w).pending ≡ ps → Each s (Guard N s os u) (resetting k w) img
      go [] q = subst (λ (xs : List Step). Each s (Guard N s os u) xs img) (sym (none_is q)) (λ j h. absurd (omega arith))
      go (p ∷ ps) q =
          subst (λ (xs : List Step). Each s (Guard N s os u) xs img) (reset_is q) (append_guard y.alone y.is_clean reset (reset_fits q) u h)

  reset_ends : (z : Rest) → z.blocks ≡ N → length img ≡ suc z.last → z.pending ≡ counts_in v.edition (settled_only (replay_of v))
      → Roomy s v.edition (settled_only (replay_of v))
      → After N s v.edition (apply_all s (resetting k w) img)
      (idle (places_in v) (landing z (edition_number v.edition) k (closed_end w + length (due_reset w)))) (settled_only (replay_of v))
  unfolding apply_all
  reset_ends z b e counts roomy = go (replay_of w).pending refl
    where
      Ends : List Step → ℕ → Type 0
      Ends xs n = After N s v.edition (apply_all s xs img) (idle (places_in v) (landing z (edition_number v.edition) k n)) (settled_only (replay_of v))

      go : (ps : List Entry) → (replay_of w).pending ≡ ps → Ends (resetting k w) (closed_end w + length (due_reset w))
      go [] q =
          let n : end_of v ≡ closed_end w + length (due_reset w) = omega (arith, y.ends, ap (λ (l : List Entry). length (reset_bytes w l)) q) in
          let st : replay_of v ≡ settled_only (replay_of v) = ap (state (replay_of v).objects) (ap (λ (t : State). t.pending) y.same ∙ q) in
          subst (λ (xs : List Step). Ends xs (closed_end w + length (due_reset w))) (sym (none_is q))
          (subst (Ends []) n (alone-after z (settled_only (replay_of v)) y.alone y.is_clean b e st counts roomy))
      go (p ∷ ps) q =
          let n : end_of v + length (encode v.edition reset) ≡ closed_end w + length (due_reset w) =
          omega (
            arith,
            y.ends,
            ap (λ (ed : Edition). length (encode ed reset)) y.edition,
            ap (λ (l : List Entry). length (reset_bytes w l)) q,
          ) in
          subst (λ (xs : List Step). Ends xs (closed_end w + length (due_reset w))) (reset_is q)
          (subst (Ends (on_block k (writes (end_of v) (encode v.edition reset)))) (ap (λ (m : ℕ). end_of v + m) (sym (length-encode v.edition reset)) ∙ n)
          (subst (λ (ps : List ℕ). After N s v.edition (apply_all s (on_block k (writes (end_of v) (encode v.edition reset))) img)
          (idle ps (landing z (edition_number v.edition) k (end_of v + frame_len v.edition reset))) (settled_only (replay_of v)))
          (places-stay v.edition v.frames reset (λ st o. refl))
          (append_ends y.alone y.is_clean reset (reset_fits q) z b e counts roomy)))

-- ---- both

module _ {N s k : ℕ} {img : List ℕ} {w : Journal} (a : Alone N s img k w) (c : ClosesWell (block s k img) w)
    (room : closed_end w + length (due_reset w) ≤ s) where
  abbrev closes : List Step
  closes = on_block k (tidying s k img w)

  abbrev shut : List ℕ
  shut = apply_all s closes img

  tidied : Tidy N s shut k w
  tidied = close_tidies a c

  pub mend_lands : Each s (StepLands s) (closes ++ resetting k w) img
  mend_lands = each_append s (StepLands s) closes (resetting k w) img (close_lands a c) (reset_lands tidied room)

  pub mend_guard : {os : List Object} (u : Track) → Keeps u.tight s w.edition (replay_of w) os → Each s (Guard N s os u) (closes ++ resetting k w) img
  mend_guard {os} u p =
      each_append s (Guard N s os u) closes (resetting k w) img (close_guard a c u p)
      (reset_guard tidied room u
      (subst (λ (ed : Edition). Keeps u.tight s ed (replay_of tidied.journal) os) (sym tidied.edition)
      (subst (λ (st : State). Keeps u.tight s w.edition st os) (sym tidied.same) p)))

  pub mend_ends : (z : Rest) → z.blocks ≡ N → length img ≡ suc z.last → z.pending ≡ counts_in w.edition (settled_only (replay_of w))
      → Roomy s w.edition (settled_only (replay_of w))
      → After N s w.edition (apply_all s (closes ++ resetting k w) img)
      (idle (places_in w) (landing z (edition_number w.edition) k (closed_end w + length (due_reset w)))) (settled_only (replay_of w))
  mend_ends z b e counts roomy =
      subst (λ (i : List ℕ). After N s w.edition i
      (idle (places_in w) (landing z (edition_number w.edition) k (closed_end w + length (due_reset w)))) (settled_only (replay_of w)))
      (sym (apply-append s closes (resetting k w) img))
      (subst₂ (Ends w.edition) tidied.places (ap settled_only tidied.same)
      (subst (λ (ed : Edition). Ends ed (places_in tidied.journal) (settled_only (replay_of tidied.journal))) tidied.edition
      (reset_ends tidied room z b (length-all-steps s closes img ∙ e)
      (subst (λ (ed : Edition). z.pending ≡ counts_in ed (settled_only (replay_of tidied.journal))) (sym tidied.edition)
      (counts ∙ ap (λ (st : State). counts_in w.edition (settled_only st)) (sym tidied.same)))
      (subst (λ (ed : Edition). Roomy s ed (settled_only (replay_of tidied.journal))) (sym tidied.edition)
      (subst (λ (st : State). Roomy s w.edition (settled_only st)) (sym tidied.same) roomy)))))
    where
      Ends : Edition → List ℕ → State → Type 0
      Ends ed ps st = After N s ed (apply_all s (resetting k w) shut) (idle ps (landing z (edition_number ed) k (closed_end w + length (due_reset w)))) st
