-- A mount's steps are as documents 01 and 02 word them: its erases, then nothing, a torn frame closed and a reset, or a transfer.
use mathlib.Core.Path.{◌≡◌, refl, sym, ap, ap₂, subst, ◌∙◌}
use mathlib.Core.List.{List, [], ◌∷◌, ◌++◌, append-nil}
use mathlib.Core.Logic.{inl, inr}
use mathlib.Core.Bool.{cond}
use Prim.Native.Nat.{ℕ, zero, suc, ◌+◌, ◌-◌, ◌<◌}
use native.Mathlib.Omega.{arith}
use lib.Dec.{eqb}
use lib.ListN.{length, get_or, length-map, get_or-map}
use borrow.Author.Tests.{eqb-true, eqb-false}
use Rattle.flash.specs.Flash.{Step, program, size_of, Write, write, write_step, writes}
use Rattle.flash.proofs.Cases.{on_test}
use Rattle.flash.proofs.Programming.{length-writes, writes_at}
use Rattle.frame.specs.declared.Edition.{Edition}
use Rattle.frame.specs.declared.Edition.TheVariants as edition
use Rattle.frame.specs.Frame.{reset, encode, edition_number}
use Rattle.frame.specs.Reader.{Tail, clean, cut, bad}
use Rattle.journal.specs.Replay.{Entry, frames_of, settled_only}
use Rattle.journal.specs.Block.{Journal, torn_len, closing, changing, close_writes}
use Rattle.journal.specs.Laws.{by_edition, PlacesAre}
use Rattle.journal.proofs.Sources.{place-exact}
use Rattle.board.specs.declared.Rest.{Rest}
use Rattle.board.specs.Record.{ending, idle}
use Rattle.board.specs.Mount.{next_block, all_found, wipe_list, Store, Upkeep, rests, mends, moves, upkeep, transfers, store_at, replay_of, end_of}
use Rattle.board.specs.Mount.{closed_end, closes_for, reset_bytes, due_reset, block_in, places_in}
use Rattle.board.specs.Table.{DueTransfer}
use Rattle.board.specs.Plan.{Work, on_block, mend_work, upkeep_work}
use Rattle.board.specs.Sentences.{Member, OnlyIf, changes, stays, Closes, ClosesTail, reset_frame, Programs, MendExact, MountExact}
use Rattle.board.proofs.Upkeep.{rests-clean, rests-none, due_moves, moves-due}
use Rattle.board.proofs.Lengths.{mend_programs, mend_few}
use Rattle.board.proofs.Erasing.{In}
use Rattle.board.proofs.Wiping.{Rising, wipes_rise, wipes_exact}

-- ---- the erases

rising-at : (a : ℕ) (ns : List ℕ) → Rising a ns → (i : ℕ) → suc i < length ns → get_or ns i 0 < get_or ns (suc i) 0
rising-at a [] r i h = absurd (omega arith)
rising-at a (n ∷ []) r i h = absurd (omega arith)
rising-at a (n ∷ m ∷ ns) (l, (g, r)) zero h = omega arith
rising-at a (n ∷ m ∷ ns) (l, r) (suc i) h = rising-at (suc n) (m ∷ ns) r i (omega arith)

in_member : (j : ℕ) (ns : List ℕ) → In j ns → Member j ns
in_member j [] i = absurd i
in_member j (n ∷ ns) (inl e) = (0, omega arith, sym e)
in_member j (n ∷ ns) (inr i) = let (k, h, e) = in_member j ns i in (suc k, omega arith, e)

member_in : (j : ℕ) (ns : List ℕ) (i : ℕ) → i < length ns → get_or ns i 0 ≡ j → In j ns
member_in j [] i h e = absurd (omega arith)
member_in j (n ∷ ns) zero h e = inl (sym e)
member_in j (n ∷ ns) (suc i) h e = inr (member_in j ns i (omega arith) e)

-- ---- a torn frame closed

-- one write of several: it is done, or its byte stands already
only : List ℕ → Write → List Write
only b w = cond (eqb (get_or b w.at 0) w.byte) [] (w ∷ [])

only_if : (b : List ℕ) (k o v : ℕ) → OnlyIf b k o v (on_block k (only b (write o v)))
unfolding only
only_if b k o v =
    on_test (eqb (get_or b o 0) v) (λ t. rw t (stays (eqb-true (get_or b o 0) v t))) (λ t. rw t (changes (eqb-false (get_or b o 0) v t)))

changing-one : (b : List ℕ) (k : ℕ) (w : Write) (ws : List Write) → on_block k (changing b (w ∷ ws)) ≡ on_block k (only b w) ++ on_block k (changing b ws)
unfolding changing only
changing-one b k w ws = on_test (eqb (get_or b w.at 0) w.byte) (λ t. rw t) (λ t. rw t)

closes-exact : (b : List ℕ) (k at n : ℕ) → Closes b k at n (on_block k (changing b (closing at n)))
unfolding changing
closes-exact b k at n =
    let w : Write = write (at + 1) 0 in
    let x : Write = write (at + 2) 0 in
    let y : Write = write (at + 3) 0 in
    let z : Write = write (at + (n - 1)) 0xFE in
    record {
      length_high = on_block k (only b w);
      kind_low = on_block k (only b x);
      kind_high = on_block k (only b y);
      finish = on_block k (only b z);
      in_order = changing-one b k w (x ∷ y ∷ z ∷ [])
          ∙ ap (λ (s : List Step). on_block k (only b w) ++ s)
          (changing-one b k x (y ∷ z ∷ [])
          ∙ ap (λ (s : List Step). on_block k (only b x) ++ s)
          (changing-one b k y (z ∷ [])
          ∙ ap (λ (s : List Step). on_block k (only b y) ++ s) (changing-one b k z [] ∙ append-nil (on_block k (only b z)))));
      of_length = only_if b k (at + 1) 0;
      of-kind = only_if b k (at + 2) 0;
      of_kind_high = only_if b k (at + 3) 0;
      of_finish = only_if b k (at + (n - 1)) 0xFE;
    }

closes-tail : (b : List ℕ) (k at : ℕ) (c : Tail) → ClosesTail b k at c (on_block k (close_writes b at c))
closes-tail b k at clean = refl
closes-tail b k at (cut n) = closes-exact b k at n
closes-tail b k at (bad e) = tt

-- ---- the reset

reset_is : (ed : Edition) → encode ed reset ≡ reset_frame ed
reset_is edition.First = refl
reset_is edition.Second = refl

in_range : (xs : List Step) (n : ℕ) (d e : Step) → n < length xs → get_or xs n d ≡ get_or xs n e
in_range [] n d e h = absurd (omega arith)
in_range (x ∷ xs) zero d e h = refl
in_range (x ∷ xs) (suc n) d e h = in_range xs n d e (omega arith)

programs-bytes : (k o : ℕ) (bs : List ℕ) → Programs k o bs (on_block k (writes o bs))
programs-bytes k o bs =
    record {
      each = length-map (writes o bs) (write_step k) ∙ length-writes o bs;
      in_order = λ n d h.
          at n d h (omega (arith, length-map (writes o bs) (write_step k), length-writes o bs));
    }
  where
    at : (n : ℕ) (d : Step) → n < length bs → n < length (on_block k (writes o bs)) → get_or (on_block k (writes o bs)) n d ≡ program k (o + n) (get_or bs n 0)
    at n d h l =
        in_range (on_block k (writes o bs)) n d (program k 0 0) l ∙ get_or-map (write_step k) (writes o bs) n (write 0 0)
        ∙ ap (write_step k) (writes_at o bs n (write 0 0) h)

-- ---- the steps and the record of a mount that mends

module _ (N l : ℕ) (b : List ℕ) (x : Store) where
  abbrev j : Journal
  j = x.journal

  abbrev z : Rest
  z = store_at N l x

  mended : Work
  mended = mend_work x.number b z j

  number_is : (ed : Edition) → edition_number ed ≡ by_edition ed 1 2
  number_is edition.First = refl
  number_is edition.Second = refl

  mends_exact : MendExact N l x.number b j mended
  unfolding mended writes
  mends_exact =
      let k : ℕ = x.number in
      let resets : List Step = on_block k (writes (closed_end j) (due_reset j)) in
      record {
        closes = on_block k (closes_for mends b j);
        resets = resets;
        steps = refl;
        closing = closes-tail b k (end_of j) j.tail;
        no_reset = λ q. ap (λ (ps : List Entry). on_block k (writes (closed_end j) (reset_bytes j ps))) q ∙ none k;
        reset = λ n. some k (replay_of j).pending n;
        places = place-exact.places_are j.edition j.frames;
        last = ap₂ (λ (e n : ℕ). idle (places_in j) (record { blocks = N; last = l; block = k; end = e; pending = 0 ∷ 0 ∷ 0 ∷ 0 ∷ []; edition = n }))
            (ap (λ (n : ℕ). closed_end j + n) (sym (length-map (writes (closed_end j) (due_reset j)) (write_step k) ∙ length-writes (closed_end j) (due_reset j))))
            (number_is j.edition);
        few = mend_few k b z j;
        no_erase = mend_programs k b z j;
      }
    where
      none : (k : ℕ) → on_block k (writes (closed_end j) []) ≡ []
      none k = refl

      some : (k : ℕ) (ps : List Entry) → (ps ≡ [] → ⊥) → Programs k (closed_end j) (reset_frame j.edition) (on_block k (writes (closed_end j) (reset_bytes j ps)))
      some k [] n = absurd (n refl)
      some k (p ∷ ps) n =
          subst (λ (bs : List ℕ). Programs k (closed_end j) bs (on_block k (writes (closed_end j) (encode j.edition reset)))) (reset_is j.edition)
          (programs-bytes k (closed_end j) (encode j.edition reset))

  -- with nothing to do it is nothing
  mend_by : Tail → List Entry → Work
  mend_by c ps =
      record {
        steps = on_block x.number (close_writes b (end_of j) c) ++ on_block x.number (writes (end_of j + torn_len c) (reset_bytes j ps));
        last = idle (places_in j) (ending z (end_of j + torn_len c + length (reset_bytes j ps)));
      }

  nothing_due : mend_by clean [] ≡ record { steps = []; last = idle (places_in j) z }
  unfolding mend_by writes
  nothing_due =
      let e : end_of j + 0 + 0 ≡ end_of j = omega arith in ap (λ (n : ℕ). record { steps = []; last = idle (places_in j) (ending z n) }) e

  rests_exact : j.tail ≡ clean → (replay_of j).pending ≡ [] → MendExact N l x.number b j (record { steps = []; last = idle (places_in j) z })
  unfolding mended mend_by
  rests_exact c p = subst (MendExact N l x.number b j) (ap₂ mend_by c p ∙ nothing_due) mends_exact

-- ---- a mount

mends_or_rests : (N : ℕ) (img : List ℕ) (x : Store) (u : Upkeep) → upkeep (size_of N img) x ≡ u → (DueTransfer (size_of N img) x.journal → ⊥)
    → MendExact N (length img - 1) x.number (block_in N img x) x.journal
    (upkeep_work u (next_block N x.number) (block_in N img x) (store_at N (length img - 1) x) x)
unfolding mended
mends_or_rests N img x moves e n = absurd (n (due_moves (size_of N img) x.journal (ap transfers e)))
mends_or_rests N img x mends e n = mends_exact N (length img - 1) (block_in N img x) x
mends_or_rests N img x rests e n =
    rests_exact N (length img - 1) (block_in N img x) x (rests-clean (size_of N img) x.journal e) (rests-none (size_of N img) x.journal e)

pub mount-exact : MountExact
unfolding MountExact
mount-exact N img x =
    let ks : List ℕ = wipe_list x.number (all_found N img) in
    let s : ℕ = size_of N img in
    let kept : Upkeep → Work = λ u. upkeep_work u (next_block N x.number) (block_in N img x) (store_at N (length img - 1) x) x in
    let u : Upkeep = upkeep s x in
    record {
      erased = ks;
      after = kept u;
      steps = refl;
      last = refl;
      by_number = rising-at 0 ks (wipes_rise N x.number img);
      every = λ j. let w = wipes_exact N x.number img j in (λ (i, h, e). w.0 (member_in j ks i h e), λ y. in_member j ks (w.1 y));
      moves = λ d. ap (λ (v : Upkeep). (kept v).steps) (moves-due s x.journal d);
      moved_places = λ d. subst (λ (v : Upkeep). PlacesAre x.journal.edition (kept v).last.places (frames_of (settled_only (replay_of x.journal))))
          (sym (moves-due s x.journal d)) (place-exact.places_are x.journal.edition (frames_of (settled_only (replay_of x.journal))));
      mends = λ n. mends_or_rests N img x u refl n;
    }
