-- What a format does: each step lands, a cut leaves the old objects, no store or the empty one, and it ends in the empty one.
use mathlib.Core.Path.{◌≡◌, refl, sym, ap, subst, ◌∙◌}
use mathlib.Core.List.{List, [], ◌∷◌, ◌++◌, map, map-append}
use mathlib.Core.Logic.{◌⊎◌, inl, inr}
use mathlib.Core.Bool.{Bool, true, false}
use Prim.Native.Nat.{ℕ, zero, suc, ◌+◌, ◌-◌, ◌≤◌, ◌<◌}
use native.Mathlib.Omega.{arith}
use lib.Dec.{ltb}
use lib.ListN.{length, get_or, take, replicate, length-replicate, length-map}
use lib.Seq.{take_all, take-append-le, take-append-add}
use borrow.Author.Tests.{ltb-true, ltb-false}
use Rattle.frame.specs.declared.Edition.{Edition}
use Rattle.frame.specs.declared.Edition.TheVariants as edition
use Rattle.flash.specs.Flash.{block_numbers, Step, erase, erase_block, apply_all, block, Write, write, writes, write_all}
use Rattle.flash.proofs.Cases.{on_test}
use Rattle.flash.proofs.Offsets.{Below}
use Rattle.frame.specs.Frame.{Frame, total, encode_all, AllMayStand, next_of}
use Rattle.frame.specs.Reader.{clean}
use Rattle.frame.proofs.Scanning.{scan-blank}
use Rattle.journal.specs.Replay.{Object, state, replay_from, is_open_of, lookup}
use Rattle.journal.specs.Block.{header_len, last_time, BlockState, valid, block_state, build, journal}
use Rattle.journal.proofs.Blocks.{Layout}
use Rattle.journal.proofs.States.{Contents, contents-valid}
use Rattle.journal.proofs.Raising.{harmless_older}
use Rattle.journal.proofs.Building.{Lands, below-build, made, making, lands}
use Rattle.journal.proofs.PerHost.{counts-none}
use Rattle.journal.specs.Index.{sited, places_from, places_of}
use Rattle.board.specs.Record.{no_places, idle}
use Rattle.board.specs.Mount.{numbers_but, format_order}
use Rattle.board.specs.Plan.{on_block, format_work}
use Rattle.board.specs.CutFormat.{Beside}
use Rattle.board.specs.Claim.{Track, tracked}
use Rattle.board.proofs.Images.{Sized, size-of, sized-as, sized-last, apply-append, block_writes, other-writes, length-all-steps}
use Rattle.board.proofs.Lengths.{length-format}
use Rattle.board.proofs.Invariant.{Valid, Quiet, Lessers, Safe, no_valid, some_valid, StepLands}
use Rattle.board.proofs.Blocks.{Blocks}
use Rattle.board.proofs.Order.{beside-of, but_besides, but-every, StateOf, Newest, length_order, order-last, order_blocks, order_every}
use Rattle.board.proofs.Prefixes.{Each, each_append, each-one, each-writes, take_on, below-take}
use Rattle.board.proofs.Current.{Alone, After, alone-after, alone-safe, blank-quiet}
use Rattle.board.proofs.Erasing.{NoStore, safe-more, sized_erase, quiet_erase, erases-land, erases-blank, erases_guard, erases-alone}

-- ---- a block made of a blank one

module _ (ed : Edition) (s k : ℕ) (img : List ℕ) (bl : block s k img ≡ replicate s 255) (t : ℕ) (fs : List Frame) (fit : header_len + total ed fs ≤ s) where
  part_made : (j : ℕ) → block s k (apply_all s (on_block k (take j (build ed t fs))) img) ≡ write_all (replicate s 255) (take j (build ed t fs))
  part_made j =
      block_writes s k (take j (build ed t fs)) img (below-take s j (build ed t fs) (below-build ed s t fs fit))
      ∙ ap (λ (l : List ℕ). write_all l (take j (build ed t fs))) bl

  part_quiet : (j : ℕ) → j < length (build ed t fs) → Quiet (block_state (block s k (apply_all s (on_block k (take j (build ed t fs))) img)))
  unfolding write_all
  part_quiet zero h = blank-quiet s (block s k (apply_all s (on_block k (take 0 (build ed t fs))) img)) (part_made 0)
  part_quiet (suc j) h = subst Quiet (sym (ap block_state (part_made (suc j)) ∙ making ed s t (suc j) fs fit (omega arith) h)) tt

  part_lands : AllMayStand ed 0 fs → Each s (StepLands s) (on_block k (build ed t fs)) img
  part_lands g =
      each-writes s k (StepLands s) (build ed t fs) (write 0 0) img
      (λ j h. subst (λ (l : List ℕ). Lands l (get_or (build ed t fs) j (write 0 0))) (sym (part_made j)) (lands ed s t j fs (write 0 0) fit g h))

made-contents : (ed : Edition) (s t : ℕ) (fs : List Frame) → header_len + total ed fs ≤ s → AllMayStand ed 0 fs → 0 < t → t ≤ last_time
    → Contents (write_all (replicate s 255) (build ed t fs)) (journal ed t fs clean)
made-contents ed s t fs h g lo hi =
    let m : ℕ = s - (header_len + total ed fs) in
    let y : Layout s (write_all (replicate s 255) (build ed t fs)) (journal ed t fs clean) (replicate m 255) = made ed s t fs h g lo hi in
    record {
      rest = replicate m 255;
      layout = subst (λ (n : ℕ). Layout n (write_all (replicate s 255) (build ed t fs)) (journal ed t fs clean) (replicate m 255)) (sym y.size) y;
      reads = scan-blank ed (next_of 0 fs) (header_len + total ed fs) m;
      okay = tt;
      clean_is = λ e. ap (λ (n : ℕ). replicate n 255) (sym (length-replicate m 255));
    }

-- ---- the format

none-fit : {N : ℕ} {s : ℕ} {img : List ℕ} → Sized N s img → header_len + total edition.First [] ≤ s
unfolding total
none-fit z = omega (arith, z.low)

-- no store, and still none
erases-empty : {N : ℕ} {s : ℕ} (ks : List ℕ) (img : List ℕ) → Sized N s img → Blocks N ks → NoStore N s img
    → Each s (λ y i. NoStore N s i) (map erase ks) img
unfolding apply_all
erases-empty [] img z b q j h = absurd (omega arith)
erases-empty (k ∷ ks) img z b q zero h = q
erases-empty {N} {s} (k ∷ ks) img z (l, b) q (suc j) h =
    erases-empty ks (erase_block s k img) (sized_erase z k l) b (λ i g. quiet_erase z k l i (λ n. q i g)) j (omega arith)

-- no frame, no place
zeros-from : (n k : ℕ) → places_from n k [] ≡ replicate n 0
unfolding places_from lookup
zeros-from zero k = refl
zeros-from (suc n) k = ap (λ (ps : List ℕ). 0 ∷ ps) (zeros-from n (suc k))

pub none-placed : places_of edition.First [] ≡ no_places
unfolding sited replay_from no_places
none-placed = zeros-from 256 0

module _ {N : ℕ} {s : ℕ} {img : List ℕ} (z : Sized N s img) where
  -- the image with every block erased
  abbrev wiped : List ℕ
  wiped = apply_all s (map erase (format_order N img)) img

  wiped_blank : (j : ℕ) → j < N → block s j wiped ≡ replicate s 255
  wiped_blank j h = erases-blank j (format_order N img) img z (order_blocks N img) (inr (order_every N img j h))

  -- some of the header's writes are done
  abbrev part : ℕ → List ℕ
  part j = apply_all s (on_block 0 (take j (build edition.First 1 []))) wiped

  part_other : (i j : ℕ) → i < N → (i ≡ 0 → ⊥) → block s i (part j) ≡ replicate s 255
  part_other i j h n =
      other-writes s i 0 (take j (build edition.First 1 [])) wiped n
      (below-take s j (build edition.First 1 []) (below-build edition.First s 1 [] (none-fit z))) ∙ wiped_blank i h

  part_empty : (j : ℕ) → j < length (build edition.First 1 []) → NoStore N s (part j)
  part_empty j h zero g = part_quiet edition.First s 0 wiped (wiped_blank 0 g) 1 [] (none-fit z) j h
  part_empty j h (suc i) g = blank-quiet s (block s (suc i) (part j)) (part_other (suc i) j g (λ e. omega arith))

  pub format_lands : Each s (StepLands s) (format_work N img).steps img
  format_lands =
      each_append s (StepLands s) (map erase (format_order N img)) (on_block 0 (build edition.First 1 [])) img (erases-land s (format_order N img) img)
      (part_lands edition.First s 0 wiped (wiped_blank 0 (omega (arith, z.few))) 1 [] (none-fit z) tt)

  pub at_size : (P : BlockState → Type 0) (j : ℕ) → P (block_state (block s j img)) → P (StateOf N img j)
  at_size P j x = subst (λ (n : ℕ). P (block_state (block n j img))) (sym (size-of z)) x

  -- what a safe image holds is the current block
  safe_newest : {os : List Object} {t : Bool} (k : ℕ) → k < N → (v : Valid t s img k os) → Lessers N s img v.journal.time k → Newest N img k
  safe_newest k l v q =
      record {
        journal = v.journal;
        there = l;
        is-valid = at_size (λ a. a ≡ valid v.journal) k (contents-valid v.contents);
        others = λ j h d.
            at_size (Beside v.journal.time) j (beside-of (block_state (block s j img)) (λ w. harmless_older (block s j img) (q.older j h d)));
      }

  -- the current block is the last to be erased
  erases_last : {os : List Object} {t : Bool} (k : ℕ) → k < N → (v : Valid t s img k os) → Lessers N s img v.journal.time k
      → Each s (λ y i. Safe N s i os (tracked false t)) (map erase (numbers_but k (block_numbers N) ++ (k ∷ []))) img
  erases_last {os} {t} k l v q =
      let ks : List ℕ = numbers_but k (block_numbers N) in
      let alone : Alone N s (apply_all s (map erase ks) img) k v.journal =
      erases-alone ks img z l v.contents (but_besides N k) (λ j h d. inr (but-every N k j h d)) in
      subst (λ (p : List Step). Each s (λ y i. Safe N s i os (tracked false t)) p img) (sym (map-append erase ks (k ∷ [])))
      (each_append s (λ y i. Safe N s i os (tracked false t)) (map erase ks) (erase k ∷ []) img
      (λ j h. (erases_guard (tracked false t) k ks img z l (but_besides N k) v q j h).0)
      (each-one s (λ y i. Safe N s i os (tracked false t)) (erase k) (apply_all s (map erase ks) img)
      (alone-safe (tracked false t) alone (record { room = v.room; same = v.same }))))

  -- up to the last erase the objects are there, or there was no store
  erases_leave : {os : List Object} {u : Track} → Safe N s img os u
      → Each s (λ y i. Safe N s i os (tracked false u.tight) ⊎ (NoStore N s img × NoStore N s i)) (map erase (format_order N img)) img
  erases_leave (no_valid e q) j h = inr (q, erases-empty (format_order N img) img z (order_blocks N img) q j h)
  erases_leave {os} {u} (some_valid k l v q) j h =
      inl (subst (λ (ks : List ℕ). Each s (λ y i. Safe N s i os (tracked false u.tight)) (map erase ks) img)
      (sym (order-last (safe_newest k l v q))) (erases_last k l v q) j h)

  -- the empty store: one block, of time 1 and no frames
  format_alone : Alone N s (apply_all s (format_work N img).steps img) 0 (journal edition.First 1 [] clean)
  format_alone =
      let ws : List Write = build edition.First 1 [] in
      let b : Below s ws = below-build edition.First s 1 [] (none-fit z) in
      let i : List ℕ = apply_all s (on_block 0 ws) wiped in
      subst (λ (l : List ℕ). Alone N s l 0 (journal edition.First 1 [] clean)) (sym (apply-append s (map erase (format_order N img)) (on_block 0 ws) img))
      (record {
        sized = sized-as i (length-all-steps s (on_block 0 ws) wiped ∙ length-all-steps s (map erase (format_order N img)) img) z;
        there = omega (arith, z.few);
        contents =
            subst (λ (l : List ℕ). Contents l (journal edition.First 1 [] clean))
            (sym (block_writes s 0 ws wiped b ∙ ap (λ (l : List ℕ). write_all l ws) (wiped_blank 0 (omega (arith, z.few)))))
            (made-contents edition.First s 1 [] (none-fit z) tt (omega arith) (omega arith));
        others = λ j h n. other-writes s j 0 ws wiped n b ∙ wiped_blank j h;
      })

  pub format_ends : After N s edition.First (apply_all s (format_work N img).steps img) (format_work N img).last (state [] [])
  unfolding total replay_from is_open_of
  format_ends =
      subst (λ (ps : List ℕ). After N s edition.First (apply_all s (format_work N img).steps img) (idle ps (format_work N img).last.rest) (state [] [])) none-placed
      (alone-after (format_work N img).last.rest (state [] []) format_alone refl refl
      (length-all-steps s (format_work N img).steps img ∙ sized-last z) refl (sym (counts-none edition.First [])) (omega (arith, z.low)))

-- "On an image the store left, a cut format leaves the old settled objects, no store, or the empty store": after j of the steps.
-- A mount finds the objects where an image is safe and no format is unfinished.
pub data FormatCut (N : ℕ) (s : ℕ) (img : List ℕ) (os : List Object) (t : Bool) (j : ℕ) (after : List ℕ) : Type 0 where
  old_objects : j < N → Safe N s after os (tracked false t) → FormatCut N s img os t j after
  still_none : j < N → NoStore N s img → NoStore N s after → FormatCut N s img os t j after
  no_store : N ≤ j → j < N + 10 → NoStore N s after → FormatCut N s img os t j after
  empty_store : j ≡ N + 10 → Alone N s after 0 (journal edition.First 1 [] clean) → FormatCut N s img os t j after

module _ {N : ℕ} {s : ℕ} {img : List ℕ} {os : List Object} {u : Track} (z : Sized N s img) (f : Safe N s img os u) where
  abbrev erases : List Step
  erases = map erase (format_order N img)

  abbrev writing : List Step
  writing = on_block 0 (build edition.First 1 [])

  length_erases : length erases ≡ N
  length_erases = length-map (format_order N img) erase ∙ length_order N img

  length_writing : length (build edition.First 1 []) ≡ 10
  unfolding encode_all writes
  length_writing = refl

  abbrev Cut : ℕ → List ℕ → Type 0
  Cut j i = FormatCut N s img os u.tight j i

  -- before the last erase
  cut_early : (j : ℕ) → j < N → Cut j (apply_all s (take j (format_work N img).steps) img)
  cut_early j h =
      subst (λ (p : List Step). Cut j (apply_all s p img)) (sym (take-append-le j erases writing (omega (arith, length_erases))))
      (go (erases_leave z f j (omega (arith, length_erases))))
    where
      go : Safe N s (apply_all s (take j erases) img) os (tracked false u.tight) ⊎ (NoStore N s img × NoStore N s (apply_all s (take j erases) img))
          → Cut j (apply_all s (take j erases) img)
      go (inl x) = old_objects h x
      go (inr (p, q)) = still_none h p q

  -- after it
  cut_late : (n : ℕ) → n < 10 → Cut (N + n) (apply_all s (take (N + n) (format_work N img).steps) img)
  cut_late n h =
      subst (Cut (N + n))
      (sym (ap (λ (k : ℕ). apply_all s (take (k + n) (format_work N img).steps) img) (sym length_erases)
      ∙ ap (λ (p : List Step). apply_all s p img)
      (take-append-add erases writing n ∙ ap (λ (p : List Step). erases ++ p) (take_on 0 n (build edition.First 1 [])))
      ∙ apply-append s erases (on_block 0 (take n (build edition.First 1 []))) img))
      (no_store (omega arith) (omega arith) (part_empty z n (omega (arith, length_writing))))

  pub format_cut : (j : ℕ) → j ≤ N + 10 → Cut j (apply_all s (take j (format_work N img).steps) img)
  format_cut j h =
      on_test (ltb j N)
      (λ t. cut_early j (ltb-true j N t))
      (λ t. on_test (ltb j (N + 10))
      (λ w. let e : N + (j - N) ≡ j = omega (arith, ltb-false j N t) in
      subst (λ (k : ℕ). Cut k (apply_all s (take k (format_work N img).steps) img)) e (cut_late (j - N) (omega (arith, ltb-true j (N + 10) w, ltb-false j N t))))
      (λ w. empty_store (omega (arith, ltb-false j (N + 10) w))
      (subst (λ (p : List Step). Alone N s (apply_all s p img) 0 (journal edition.First 1 [] clean))
      (sym (take_all j (format_work N img).steps (omega (arith, length-format N img, ltb-false j (N + 10) w)))) (format_alone z))))

  pub format_safe : Each s (λ y i. Safe N s i os (tracked true u.tight)) (format_work N img).steps img
  format_safe j h = go (format_cut j (omega (arith, length-format N img)))
    where
      go : Cut j (apply_all s (take j (format_work N img).steps) img) → Safe N s (apply_all s (take j (format_work N img).steps) img) os (tracked true u.tight)
      go (old_objects l x) = safe-more (tracked true u.tight) x
      go (still_none l p q) = no_valid refl q
      go (no_store l k q) = no_valid refl q
      go (empty_store e y) = absurd (omega (arith, length-format N img))
