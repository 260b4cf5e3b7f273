-- What an idle record of a run is found to hold, and what reads and the log say of it.
use mathlib.Core.Path.{◌≡◌, refl, sym, ap, ap₂, subst, ◌∙◌, subst₂}
use mathlib.Core.List.{List, ◌++◌}
use mathlib.Core.Option.{Option, none, some}
use mathlib.Core.Bool.{Bool, true, ◌&&◌}
use Prim.Native.Nat.{ℕ, ◌+◌, ◌*◌, ◌≤◌}
use native.Mathlib.Omega.{arith}
use lib.Dec.{ltb}
use lib.ListN.{length, get_or, take, drop, replicate}
use lib.Seq.{drop-drop}
use borrow.Author.Tests.{lt-ltb, ltb-true}
use Rattle.flash.specs.Bytes.{all_ff, u16le}
use Rattle.flash.specs.Flash.{block_numbers, block, size_of}
use Rattle.flash.proofs.Cases.{on_test, and_both}
use Rattle.flash.proofs.Blank.{all_ff-all}
use Rattle.flash.proofs.Image.{take-drop-take, length-block}
use Rattle.frame.specs.declared.Host.{Host}
use Rattle.frame.specs.declared.ObjectId.{ObjectId}
use Rattle.frame.specs.declared.Edition.{Edition}
use Rattle.frame.specs.Frame.{id_max, edition_by}
use Rattle.frame.specs.Reader.{Tail}
use Rattle.frame.proofs.Encode.{edition-back}
use Rattle.journal.specs.Replay.{Object, lookup}
use Rattle.journal.specs.Block.{Journal, block_state, header, valid_data}
use Rattle.journal.specs.Room.{used_by}
use Rattle.journal.specs.Index.{places_of, value_at}
use Rattle.journal.proofs.States.{Contents, contents-valid}
use Rattle.journal.proofs.Places.{Standing, ValueStands, place_law}
use Rattle.wire.specs.declared.Answer.TheVariants.{Done}
use Rattle.wire.specs.declared.Page.TheVariants.{Summary}
use Rattle.wire.specs.declared.Request.{Request}
use Rattle.wire.specs.declared.Request.TheVariants.{Read, Log}
use Rattle.wire.specs.Message.{page_len}
use Rattle.board.specs.declared.Record.{Record}
use Rattle.board.specs.Record.{Out, idle, reads_in}
use Rattle.board.specs.Step.{same_shape}
use Rattle.board.specs.Mount.{replay_of, places_in}
use Rattle.board.specs.Queue.{held, held_by_of, held_in_of, held_if, fits_record, same_image, others_blank, stretch_of, place_of, serve, Asking, asking, done_at}
use Rattle.board.specs.Claim.{ReadSays, LogSays}
use Rattle.board.proofs.Images.{Sized, size-of, sized-block}
use Rattle.board.proofs.Blocks.{others_are}
use Rattle.board.proofs.Pipeline.{same-shape}
use Rattle.board.proofs.Invariant.{Others, Ready}
use Rattle.board.proofs.Outcomes.{read_none, read_some, serve-log, log_done}
use Rattle.board.proofs.Holding.{fits_record_lem}

-- ---- the image fits the record

blank-beside : {N : ℕ} (s k : ℕ) (img : List ℕ) → size_of N img ≡ s → Others N (λ j. block s j img ≡ replicate s 255) k
    → others_blank N k img (block_numbers N) ≡ true
blank-beside {N} s k img e o = others_are N k img (λ j h n. ap (λ (w : ℕ). all_ff (block w j img)) e ∙ ap all_ff (o j h n) ∙ all_ff-all s)

pub held-ready : {N : ℕ} {s : ℕ} {img : List ℕ} {r : Record} → Sized N s img → (y : Ready N s img r) → held N img r ≡ some y.journal
unfolding held
held-ready {N} {s} {img} {r} z y =
    ap (held N img) y.is ∙ ap (λ (b : Bool). held_by_of N b img (idle (places_in y.journal) y.stands)) same
    ∙ ap (λ (n : ℕ). held_in_of n (idle (places_in y.journal) y.stands) (block_state (block n y.stands.block img))) (size-of z)
    ∙ ap (held_in_of s (idle (places_in y.journal) y.stands)) (contents-valid y.contents) ∙ ap₂ (λ (b : Bool) (c : Tail). held_if b c y.journal) fit y.is_clean
  where
    same : same_image N img (idle (places_in y.journal) y.stands) ≡ true
    same =
        and_both (same_shape N (length img) (idle (places_in y.journal) y.stands)) (ltb y.stands.block N && others_blank N y.stands.block img (block_numbers N))
        (same-shape (length img) (idle (places_in y.journal) y.stands) y.long (sym y.blocks))
        (and_both (ltb y.stands.block N) (others_blank N y.stands.block img (block_numbers N)) (lt-ltb y.stands.block N y.there)
        (blank-beside s y.stands.block img (size-of z) y.others))

    fit : fits_record s (idle (places_in y.journal) y.stands) y.journal ≡ true
    fit = fits_record_lem (record { edition_is = sym y.edition_is; ends = sym y.ends; counts = sym y.counts; room = y.room; places = refl })

-- ---- reads

-- a stretch of a block is a stretch of the image
stretch : (s k p n : ℕ) (img : List ℕ) → p + n ≤ s → take n (drop (k * s + p) img) ≡ take n (drop p (block s k img))
stretch s k p n img h = sym (ap (take n) (drop-drop p (k * s) img)) ∙ sym (take-drop-take n p s (drop (k * s) img) h)

pub standing-of : {b : List ℕ} {w : Journal} → Contents b w → Standing w.edition b w.frames
standing-of {b} {w} x = record { head = header w.edition w.time valid_data; rest = x.rest; split = x.layout.is; long = refl; stand = x.layout.stands }

module _ {N : ℕ} {s : ℕ} {img : List ℕ} {r : Record} (z : Sized N s img) (y : Ready N s img r) (h : Host) (m reply : List ℕ) where
  abbrev a : Asking
  a = asking N img r h m reply

  abbrev ed : Edition
  ed = y.journal.edition

  abbrev served : Request → Out
  served q = serve a y.journal q

  pub read_says : (i : ObjectId) → i.0 ≤ id_max → ReadSays (served (Read i)) (lookup i (replay_of y.journal).objects)
  read_says i l = go (lookup i (replay_of y.journal).objects) refl
    where
      go : (o : Option (List ℕ)) → lookup i (replay_of y.journal).objects ≡ o → ReadSays (served (Read i)) o
      go none e = ap (λ (o : Out). o.answer) (read_none a y.journal i e)
      go (some v) e =
          let k : ℕ = y.stands.block in
          let b : List ℕ = block s k img in
          let x : ValueStands ed b i (get_or (places_of ed y.journal.frames) i.0 0) v =
          place_law ed b y.journal.frames i v (standing-of y.contents) l e in
          let n : length b ≡ s = length-block s k img (sized-block k z y.there) in
          let at : place_of N img r y.journal i ≡ record { at = k * s + x.at; size = length v } =
          ap (λ (q : Record). place_of N img q y.journal i) y.is
          ∙ ap (λ (w : ℕ). stretch_of (k * w) (value_at ed (block w k img) i (get_or (places_of ed y.journal.frames) i.0 0))) (size-of z)
          ∙ ap (stretch_of (k * s)) x.found in
          let f : served (Read i) ≡ done_at a reply (record { at = k * s + x.at; size = length v }) =
          read_some a y.journal i v e ∙ ap (done_at a reply) at in (
            ap (λ (o : Out). o.answer) f,
            subst (λ (o : Out). take o.stretch.size (drop o.stretch.at o.image) ≡ v) (sym f)
                (stretch s k x.at (length v) img (omega (arith, x.fits)) ∙ x.same),
          )

  pub log_says : (os : List Object) → (replay_of y.journal).objects ≡ os → LogSays r (served (Log Summary)) reply os
  log_says os e l =
      subst₂ (λ (d : Edition) (x : List Object). ((served (Log Summary)).answer ≡ Done) ×
      (take 4 (drop 8 (served (Log Summary)).reply) ≡ u16le (length x) ++ u16le (used_by d x))) (sym reads) e
      (on_test (ltb (length reply) page_len)
      (λ t. absurd (omega (arith, ltb-true (length reply) page_len t)))
      (λ t. subst (λ (o : Out). (o.answer ≡ Done) × (take 4 (drop 8 o.reply) ≡ u16le (length (replay_of y.journal).objects) ++ u16le
      (used_by ed (replay_of y.journal).objects)))
      (sym (serve-log a y.journal ∙ log_done a y.journal t)) (refl, refl)))
    where
      reads : reads_in r ≡ ed
      reads = ap (λ (q : Record). reads_in q) y.is ∙ ap edition_by y.edition_is ∙ edition-back ed
