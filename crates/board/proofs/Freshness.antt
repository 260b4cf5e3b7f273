-- Refusal 11: `held` finds exactly what document 01 asks for.
use mathlib.Core.Path.{◌≡◌, sym, ap, ap₂, ◌∙◌, subst}
use mathlib.Core.List.{List}
use mathlib.Core.Option.{some}
use mathlib.Core.Bool.{Bool, true, ◌&&◌}
use Prim.Native.Nat.{ℕ, suc, ◌≤◌, ◌<◌, ◌*◌, ◌+◌}
use native.Mathlib.Omega.{arith}
use lib.Dec.{eqb, ltb}
use lib.ListN.{length, replicate}
use borrow.Author.Tests.{eqb-true, ltb-true, lt-ltb}
use Rattle.flash.specs.Bytes.{Bytes, all_ff}
use Rattle.flash.specs.Flash.{block_numbers, block, size_of}
use Rattle.flash.proofs.Cases.{and_both, and_left, and_right}
use Rattle.flash.proofs.Blank.{is_ff}
use Rattle.flash.proofs.Image.{length-block, bytes-block}
use Rattle.frame.specs.Sentences.{Blank}
use Rattle.frame.specs.Reader.{Tail, clean}
use Rattle.journal.specs.Block.{Journal, BlockState, valid, block_state, header_len}
use Rattle.journal.specs.Sentences.{BlankBlock}
use Rattle.journal.specs.Room.{open_hosts}
use Rattle.journal.proofs.Sentences.{states-exact}
use Rattle.journal.specs.Laws.{CountsAre, PlacesAre}
use Rattle.journal.proofs.Sources.{place-exact}
use Rattle.journal.proofs.ReplayLaws.{pending-exact}
use Rattle.board.specs.declared.Record.{Record}
use Rattle.board.specs.Record.{allowed, idle}
use Rattle.board.specs.Step.{same_shape}
use Rattle.board.specs.Queue.{held, held_if, held_in_of, held_by_of, fits_record, others_blank, same_image}
use Rattle.board.specs.Table.{Fresh, FreshExact}
use Rattle.board.specs.Mount.{replay_of, claimed_of}
use Rattle.board.proofs.Images.{Sized, sized_of, sized-block}
use Rattle.board.proofs.Blocks.{others_are}
use Rattle.board.proofs.Pipeline.{same-shape}
use Rattle.board.proofs.Invariant.{Ready}
use Rattle.board.proofs.Holding.{Passed, passed, held_inv, RecordFits, record_fits, fits_record_lem}
use Rattle.board.proofs.Replies.{held-ready}
use Rattle.board.proofs.Editions.{number_is, end_is}

blank-means : (l : List ℕ) → Blank l → all_ff l ≡ true
blank-means l e = is_ff l e

held-here : (N : ℕ) (img : List ℕ) (r : Record) (x : Journal) → same_image N img r ≡ true
    → block_state (block (size_of N img) r.rest.block img) ≡ valid x → x.tail ≡ clean → fits_record (size_of N img) r x ≡ true
    → held N img r ≡ some x
unfolding held
held-here N img r x a v c f =
    ap (λ (b : Bool). held_by_of N b img r) a ∙ ap (λ (b : BlockState). held_in_of (size_of N img) r b) v
    ∙ ap₂ (λ (b : Bool) (c : Tail). held_if b c x) f c

module _ (N : ℕ) (img : List ℕ) (r : Record) (x : Journal) (by : Bytes img) (ok : allowed N (length img) ≡ true) where
  abbrev s : ℕ
  s = size_of N img

  sized : Sized N s img
  sized = sized_of N img ok

  long_block : (k : ℕ) → k < N → header_len ≤ length (block s k img)
  long_block k h = let e : length (block s k img) ≡ s = length-block s k img (sized-block k sized h) in omega (arith, sized.low)

  held_fresh : held N img r ≡ some x → Fresh N img r x
  held_fresh e =
      let v : (w : Ready N s img (idle r.places r.rest)) × (w.journal ≡ x) = held_inv r sized by e in
      let p : Passed N s img r x = passed sized e in
      let beside : Bool = ltb r.rest.block N && others_blank N r.rest.block img (block_numbers N) in
      let shape : same_shape N (length img) r ≡ true = and_left (same_shape N (length img) r) beside p.same in
      let rest : beside ≡ true = and_right (same_shape N (length img) r) beside p.same in
      let there : r.rest.block < N =
      ltb-true r.rest.block N (and_left (ltb r.rest.block N) (others_blank N r.rest.block img (block_numbers N)) rest) in
      let f : RecordFits s r x = record_fits p.fits in
      record {
        length_is = eqb-true (length img) (suc r.rest.last) (and_left (eqb (length img) (suc r.rest.last)) (eqb N r.rest.blocks) shape);
        blocks_are = eqb-true N r.rest.blocks (and_right (eqb (length img) (suc r.rest.last)) (eqb N r.rest.blocks) shape);
        there = there;
        is-valid = (states-exact.is-valid (block s r.rest.block img) x (bytes-block s r.rest.block img by)
            (long_block r.rest.block there)).0
            p.is-valid;
        is_clean = p.is_clean;
        ends = f.ends;
        pending = subst (λ (ps : List ℕ). CountsAre x.edition ps x.frames) f.counts (pending-exact.are x.edition x.frames);
        edition_is = sym f.edition_is ∙ number_is x.edition;
        places = subst (λ (ps : List ℕ). PlacesAre x.edition ps x.frames) f.places (place-exact.places_are x.edition x.frames);
        others-blank = λ j h n. blank_there j h n (others_of v.0 j h n);
        room = subst (λ (n : ℕ). claimed_of x + n * open_hosts (replay_of x).pending ≤ s) (end_is x.edition) f.room;
      }
    where
      blank_there : (j : ℕ) → j < N → (j ≡ r.rest.block → ⊥) → block s j img ≡ replicate s 255 → BlankBlock (block s j img)
      blank_there j h n e = e ∙ ap (λ (w : ℕ). replicate w 255) (sym (length-block s j img (sized-block j sized h)))

      others_of : (w : Ready N s img (idle r.places r.rest)) (j : ℕ) → j < N → (j ≡ r.rest.block → ⊥) → block s j img ≡ replicate s 255
      others_of w j h n = w.others j h (λ e. n (e ∙ sym (ap (λ (q : Record). q.rest.block) w.is)))

  fresh_held : Fresh N img r x → held N img r ≡ some x
  fresh_held y =
      held-here N img r x
      (and_both (same_shape N (length img) r) (ltb r.rest.block N && others_blank N r.rest.block img (block_numbers N))
      (same-shape (length img) r y.length_is y.blocks_are)
      (and_both (ltb r.rest.block N) (others_blank N r.rest.block img (block_numbers N)) (lt-ltb r.rest.block N y.there)
      (others_are N r.rest.block img (λ j h n. blank-means (block s j img) (y.others-blank j h n)))))
      ((states-exact.is-valid (block s r.rest.block img) x (bytes-block s r.rest.block img by)
      (long_block r.rest.block y.there)).1
      y.is-valid)
      y.is_clean
      (fits_record_lem (record {
        edition_is = number_is x.edition ∙ sym y.edition_is;
        ends = y.ends;
        counts = sym (pending-exact.only x.edition r.rest.pending x.frames y.pending);
        room = subst (λ (n : ℕ). claimed_of x + n * open_hosts (replay_of x).pending ≤ s) (sym (end_is x.edition)) y.room;
        places = sym (place-exact.places_only x.edition r.places x.frames y.places);
      }))

pub fresh-exact : FreshExact
unfolding FreshExact
fresh-exact N img r x by ok = (held_fresh N img r x by ok, fresh_held N img r x by ok)

pub fresh-valid : (N : ℕ) (img : List ℕ) (r : Record) (x : Journal) → Bytes img → allowed N (length img) ≡ true → Fresh N img r x
    → block_state (block (size_of N img) r.rest.block img) ≡ valid x
fresh-valid N img r x by ok y = (passed (sized_of N img ok) (fresh_held N img r x by ok y)).is-valid

pub ready-fresh : {N : ℕ} {s : ℕ} {img : List ℕ} {r : Record} → Sized N s img → Bytes img → (y : Ready N s img r) → Fresh N img r y.journal
ready-fresh {N} {s} {img} {r} z by y = held_fresh N img r y.journal by z.ok (held-ready z y)
