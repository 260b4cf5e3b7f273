-- An image that passes refusal 11 is as an idle record of a run has it, whoever made the record.
use mathlib.Core.Path.{◌≡◌, refl, sym, ap, subst, ◌∙◌}
use mathlib.Core.List.{List}
use mathlib.Core.Option.{some}
use mathlib.Core.Bool.{Bool, true, false, ◌&&◌}
use Prim.Native.Nat.{ℕ, suc, ◌+◌, ◌*◌, ◌<◌, ◌≤◌}
use native.Mathlib.Omega.{arith}
use lib.Dec.{eqb, ltb, leb}
use lib.ListN.{length, replicate}
use borrow.Author.Tests.{eqb-true, leb-true, ltb-true, eq-eqb, le-leb}
use Rattle.flash.specs.Bytes.{Bytes, all_ff, same_bytes_of}
use Rattle.flash.specs.Flash.{block_numbers, block, size_of}
use Rattle.flash.proofs.Cases.{and_left, and_right, and_both}
use Rattle.flash.proofs.Blank.{all_ff_lem, same-is, same_refl}
use Rattle.flash.proofs.Image.{length-block, bytes-block}
use Rattle.frame.specs.Frame.{end_len, edition_number}
use Rattle.frame.specs.Reader.{clean, cut, bad, Tail}
use Rattle.journal.specs.Block.{Journal, BlockState, blank, in_progress, valid, foreign, block_state}
use Rattle.journal.specs.Room.{open_hosts}
use Rattle.journal.proofs.States.{valid_inv}
use Rattle.board.specs.declared.Record.{Record}
use Rattle.board.specs.Record.{idle}
use Rattle.board.specs.Step.{same_shape}
use Rattle.board.specs.Mount.{end_of, replay_of, claimed_of, counts_of, places_in}
use Rattle.board.specs.Queue.{held, held_by_of, held_in_of, held_if, fits_record, same_image, others_blank}
use Rattle.board.proofs.Images.{Sized, size-of, sized-block}
use Rattle.board.proofs.Blocks.{others-blank}
use Rattle.board.proofs.Invariant.{Others, Ready}

-- what a check that passed has seen
pub record Passed (N : ℕ) (s : ℕ) (img : List ℕ) (r : Record) (x : Journal) : Type 0 where
  pub same : same_image N img r ≡ true
  pub is-valid : block_state (block s r.rest.block img) ≡ valid x
  pub is_clean : x.tail ≡ clean
  pub fits : fits_record s r x ≡ true

-- the five tests of a record that fits
pub record RecordFits (s : ℕ) (r : Record) (x : Journal) : Type 0 where
  pub edition_is : edition_number x.edition ≡ r.rest.edition
  pub ends : end_of x ≡ r.rest.end
  pub counts : counts_of x ≡ r.rest.pending
  pub room : claimed_of x + end_len x.edition * open_hosts (replay_of x).pending ≤ s
  pub places : places_in x ≡ r.places

pub record_fits : {s : ℕ} {r : Record} {x : Journal} → fits_record s r x ≡ true → RecordFits s r x
unfolding fits_record
record_fits {s} {r} {x} t =
    let l : Bool = leb (claimed_of x + end_len x.edition * open_hosts (replay_of x).pending) s in
    let e : Bool = eqb (end_of x) r.rest.end in
    let c : Bool = same_bytes_of (counts_of x) r.rest.pending in
    let n : Bool = eqb (edition_number x.edition) r.rest.edition in
    let p : Bool = same_bytes_of (places_in x) r.places in
    let necl : ((n && (e && c)) && l) ≡ true = and_left ((n && (e && c)) && l) p t in
    let nec : (n && (e && c)) ≡ true = and_left (n && (e && c)) l necl in
    let ec : (e && c) ≡ true = and_right n (e && c) nec in
    record {
      edition_is = eqb-true (edition_number x.edition) r.rest.edition (and_left n (e && c) nec);
      ends = eqb-true (end_of x) r.rest.end (and_left e c ec);
      counts = same-is (counts_of x) r.rest.pending (and_right e c ec);
      room = leb-true (claimed_of x + end_len x.edition * open_hosts (replay_of x).pending) s (and_right (n && (e && c)) l necl);
      places = same-is (places_in x) r.places (and_right ((n && (e && c)) && l) p t);
    }

pub fits_record_lem : {s : ℕ} {r : Record} {x : Journal} → RecordFits s r x → fits_record s r x ≡ true
unfolding fits_record
fits_record_lem {s} {r} {x} y =
    let l : Bool = leb (claimed_of x + end_len x.edition * open_hosts (replay_of x).pending) s in
    let e : Bool = eqb (end_of x) r.rest.end in
    let c : Bool = same_bytes_of (counts_of x) r.rest.pending in
    let n : Bool = eqb (edition_number x.edition) r.rest.edition in
    let same : (k m : List ℕ) → k ≡ m → same_bytes_of k m ≡ true = λ k m q. subst (λ (p : List ℕ). same_bytes_of k p ≡ true) q (same_refl k) in
    and_both ((n && (e && c)) && l) (same_bytes_of (places_in x) r.places)
    (and_both (n && (e && c)) l
    (and_both n (e && c) (eq-eqb (edition_number x.edition) r.rest.edition y.edition_is)
    (and_both e c (eq-eqb (end_of x) r.rest.end y.ends) (same (counts_of x) r.rest.pending y.counts)))
    (le-leb (claimed_of x + end_len x.edition * open_hosts (replay_of x).pending) s y.room))
    (same (places_in x) r.places y.places)

record Inside (s : ℕ) (e : Record) (b : BlockState) (x : Journal) : Type 0 where
  is-valid : b ≡ valid x
  is_clean : x.tail ≡ clean
  fits : fits_record s e x ≡ true

held_if_lem : (b : Bool) (c : Tail) (w x : Journal) → held_if b c w ≡ some x → (b ≡ true) × (c ≡ clean) × (w ≡ x)
held_if_lem true clean w x e = (refl, refl, cc)
held_if_lem false clean w x e = let z : ◌≡◌ {A = ℕ} 0 1 = cc in absurd (omega arith)
held_if_lem b (cut n) w x e = let z : ◌≡◌ {A = ℕ} 0 1 = cc in absurd (omega arith)
held_if_lem b (bad f) w x e = let z : ◌≡◌ {A = ℕ} 0 1 = cc in absurd (omega arith)

inside : (s : ℕ) (e : Record) (w x : Journal) → held_if (fits_record s e w) w.tail w ≡ some x → Inside s e (valid w) x
inside s e w x q =
    let y = held_if_lem (fits_record s e w) w.tail w x q in
    subst (Inside s e (valid w)) y.2 (record { is-valid = refl; is_clean = y.1; fits = y.0 })

held_in : (s : ℕ) (e : Record) (b : BlockState) (x : Journal) → held_in_of s e b ≡ some x → Inside s e b x
held_in s e blank x q = let z : ◌≡◌ {A = ℕ} 0 1 = cc in absurd (omega arith)
held_in s e in_progress x q = let z : ◌≡◌ {A = ℕ} 0 1 = cc in absurd (omega arith)
held_in s e (valid w) x q = inside s e w x q
held_in s e (foreign f) x q = let z : ◌≡◌ {A = ℕ} 0 1 = cc in absurd (omega arith)

held_by : (N : ℕ) (b : Bool) (img : List ℕ) (r : Record) (x : Journal) → held_by_of N b img r ≡ some x
    → (b ≡ true) × Inside (size_of N img) r (block_state (block (size_of N img) r.rest.block img)) x
held_by N true img r x e = (refl, held_in (size_of N img) r (block_state (block (size_of N img) r.rest.block img)) x e)
held_by N false img r x e = let z : ◌≡◌ {A = ℕ} 0 1 = cc in absurd (omega arith)

pub passed : {N : ℕ} {s : ℕ} {img : List ℕ} {r : Record} {x : Journal} → Sized N s img → held N img r ≡ some x → Passed N s img r x
unfolding held
passed {N} {s} {img} {r} {x} z e =
    let y : (same_image N img r ≡ true) × Inside (size_of N img) r (block_state (block (size_of N img) r.rest.block img)) x =
    held_by N (same_image N img r) img r x e in
    let i : Inside s r (block_state (block s r.rest.block img)) x =
    subst (λ (n : ℕ). Inside n r (block_state (block n r.rest.block img)) x) (size-of z) y.1 in
    record { same = y.0; is-valid = i.is-valid; is_clean = i.is_clean; fits = i.fits }

pub held_inv : {N : ℕ} {s : ℕ} {img : List ℕ} {x : Journal} (r : Record) → Sized N s img → Bytes img → held N img r ≡ some x
    → (y : Ready N s img (idle r.places r.rest)) × (y.journal ≡ x)
held_inv {N} {s} {img} {x} r z b e =
    let p : Passed N s img r x = passed z e in
    let k : ℕ = r.rest.block in
    let shape : same_shape N (length img) r ≡ true =
    and_left (same_shape N (length img) r) (ltb k N && others_blank N k img (block_numbers N)) p.same in
    let blocks : N ≡ r.rest.blocks = eqb-true N r.rest.blocks (and_right (eqb (length img) (suc r.rest.last)) (eqb N r.rest.blocks) shape) in
    let beside : (ltb k N && others_blank N k img (block_numbers N)) ≡ true =
    and_right (same_shape N (length img) r) (ltb k N && others_blank N k img (block_numbers N)) p.same in
    let there : k < N = ltb-true k N (and_left (ltb k N) (others_blank N k img (block_numbers N)) beside) in
    let others : others_blank N k img (block_numbers N) ≡ true = and_right (ltb k N) (others_blank N k img (block_numbers N)) beside in
    let n : length (block s k img) ≡ s = length-block s k img (sized-block k z there) in
    let f : RecordFits s r x = record_fits p.fits in (
      record {
        stands = r.rest;
        is = ap (λ (ps : List ℕ). idle ps r.rest) (sym f.places);
        blocks = sym blocks;
        long = eqb-true (length img) (suc r.rest.last) (and_left (eqb (length img) (suc r.rest.last)) (eqb N r.rest.blocks) shape);
        there = there;
        journal = x;
        is_clean = p.is_clean;
        contents = valid_inv (block s k img) x (bytes-block s k img b) (omega (arith, z.low)) p.is-valid;
        ends = sym f.ends;
        counts = sym f.counts;
        edition_is = sym f.edition_is;
        room = f.room;
        others = blanks k others;
      },
      refl,
    )
  where
    blanks : (k : ℕ) → others_blank N k img (block_numbers N) ≡ true → Others N (λ j. block s j img ≡ replicate s 255) k
    blanks k t j h m =
        let q : all_ff (block s j img) ≡ true =
        subst (λ (w : ℕ). all_ff (block w j img) ≡ true) (size-of z) (others-blank N k img t j h m) in
        all_ff_lem (block s j img) q ∙ ap (λ (w : ℕ). replicate w 255) (length-block s j img (sized-block j z h))
