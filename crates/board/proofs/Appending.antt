-- A frame appended to the current block: each of its bytes lands, every prefix keeps what a mount finds, and the block then has one frame more.
use mathlib.Core.Path.{◌≡◌, refl, sym, ap, ap₂, subst, ◌∙◌}
use mathlib.Core.List.{List, [], ◌∷◌, ◌++◌, append_assoc, append-nil}
use Prim.Native.Nat.{ℕ, zero, suc, ◌+◌, ◌-◌, ◌≤◌, ◌<◌}
use native.Mathlib.Omega.{arith}
use lib.ListN.{length, get_or, take, replicate, length-take, length-replicate, get_or-replicate}
use lib.Seq.{length-take-le, get_or-append-add}
use Rattle.flash.specs.Bytes.{Bytes}
use Rattle.flash.specs.Flash.{Step, apply_all, block, Write, write, writes, write_all}
use Rattle.flash.proofs.Blank.{bytes_take}
use Rattle.flash.proofs.Programming.{write_bytes, take-writes, length-writes, writes_at}
use Rattle.flash.proofs.Offsets.{Below, below-writes, Given, given_writes, given_at, Fresh, fresh_at, fresh-stretch, untouched}
use Rattle.frame.specs.Frame.{Frame, encode, frame_len, encode_all, MayStand, Tears, next_of, edition_number}
use Rattle.frame.specs.Reader.{clean, cut}
use Rattle.frame.proofs.Encode.{length-encode, length-all, bytes-encode, stands_any, stands-append, encode_snoc, total_snoc}
use Rattle.frame.proofs.Scanning.{scan-blank, scan-cut}
use Rattle.journal.specs.Block.{Journal, valid_data, header, journal}
use Rattle.journal.specs.Replay.{Object, next_state}
use Rattle.journal.proofs.Blocks.{layout-size}
use Rattle.journal.proofs.Replaying.{replay_snoc}
use Rattle.journal.proofs.States.{Contents}
use Rattle.journal.proofs.Building.{Lands, lands_ff}
use Rattle.journal.specs.Room.{counts_in}
use Rattle.board.specs.declared.Rest.{Rest}
use Rattle.board.specs.Record.{landing, idle}
use Rattle.board.specs.Mount.{end_of, replay_of, places_in}
use Rattle.board.specs.Plan.{on_block, append_plan}
use Rattle.board.specs.Claim.{Track}
use Rattle.board.proofs.Invariant.{StepLands, Safe, Guard}
use Rattle.board.proofs.Images.{length-all-steps, block_writes}
use Rattle.board.proofs.Prefixes.{Each, each-writes}
use Rattle.board.proofs.Current.{Alone, After, Roomy, Keeps, block-long, alone-after, alone-safe, alone-written}

-- ---- bytes after the last frame

front_of : Journal → List ℕ
front_of w = header w.edition w.time valid_data ++ encode_all w.edition w.frames

length_front : (w : Journal) → length (front_of w) ≡ end_of w
unfolding front_of
length_front w = omega (arith, length-all w.edition w.frames)

-- a block with a clean tail
clean-block : {b : List ℕ} {w : Journal} → Contents b w → w.tail ≡ clean → b ≡ front_of w ++ replicate (length b - end_of w) 255
unfolding front_of
clean-block {b} {w} y c =
    let m : length y.rest ≡ length b - end_of w = omega (arith, layout-size y.layout) in
    y.layout.is
    ∙ ap (λ (l : List ℕ). header w.edition w.time valid_data ++ (encode_all w.edition w.frames ++ l))
    (y.clean_is c ∙ ap (λ (n : ℕ). replicate n 255) m)

tail_ff : {b : List ℕ} {w : Journal} → Contents b w → w.tail ≡ clean → (i : ℕ) → end_of w + i < length b → get_or b (end_of w + i) 0 ≡ 255
tail_ff {b} {w} y c i h =
    let m : ℕ = length b - end_of w in
    let e : end_of w + i ≡ length (front_of w) + i = omega (arith, length_front w) in
    ap₂ (λ (l : List ℕ) (n : ℕ). get_or l n 0) (clean-block y c) e ∙ get_or-append-add (front_of w) (replicate m 255) i 0 ∙ get_or-replicate m i 255 0 (omega arith)

written : {b : List ℕ} {w : Journal} → Contents b w → w.tail ≡ clean → (bs : List ℕ) → Bytes bs → end_of w + length bs ≤ length b
    → write_all b (writes (end_of w) bs)
    ≡ header w.edition w.time valid_data ++ (encode_all w.edition w.frames ++ (bs ++ replicate (length b - (end_of w + length bs)) 255))
unfolding front_of
written {b} {w} y c bs g h =
    let n : ℕ = length b - (end_of w + length bs) in
    let e : length b - end_of w ≡ length bs + n = omega arith in
    let is : b ≡ front_of w ++ (replicate (length bs + n) 255 ++ []) =
    clean-block y c ∙ ap (λ (m : ℕ). front_of w ++ replicate m 255) e ∙ simp append-nil in
    ap (λ (l : List ℕ). write_all l (writes (end_of w) bs)) is
    ∙ write_bytes (end_of w) (front_of w) [] n bs (sym (length_front w)) g ∙ simp (append-nil, append_assoc)

-- ---- what the block holds meanwhile and after

-- the frame and where it goes: at the end of a block of s bytes
pub record Fits (s : ℕ) (w : Journal) (f : Frame) : Type 0 where
  pub host : Tears f
  pub legal : MayStand w.edition 256 f
  pub short : end_of w + frame_len w.edition f ≤ s

-- some of its bytes: the tail is torn
torn-contents : {b : List ℕ} {w : Journal} → Contents b w → w.tail ≡ clean → (f : Frame) → Fits (length b) w f → (j : ℕ) → 1 ≤ j → j < frame_len w.edition f
    → Contents (write_all b (writes (end_of w) (take j (encode w.edition f)))) (journal w.edition w.time w.frames (cut (frame_len w.edition f)))
torn-contents {b} {w} y c f x j lo hi =
    let bs : List ℕ = take j (encode w.edition f) in
    let e : length bs ≡ j = length-take-le j (encode w.edition f) (omega (arith, length-encode w.edition f)) in
    let n : ℕ = length b - (end_of w + length bs) in
    record {
      rest = bs ++ replicate n 255;
      layout = record {
        is = written y c bs (bytes_take j (encode w.edition f) (bytes-encode w.edition 256 f x.legal)) (omega (arith, x.short));
        stands = y.layout.stands;
        time_lo = y.layout.time_lo;
        time_hi = y.layout.time_hi;
        size = refl;
      };
      reads = scan-cut w.edition (next_of 0 w.frames) (end_of w) f j n x.host (stands_any w.edition 256 (next_of 0 w.frames) f x.host x.legal)
          lo hi (omega (arith, x.short));
      okay = tt;
      clean_is = λ q. let z : ◌≡◌ {A = ℕ} 0 1 = cc in absurd (omega arith);
    }

-- all of them: one frame more
abbrev pub with_frame : Journal → Frame → Journal
with_frame w f = journal w.edition w.time (w.frames ++ (f ∷ [])) clean

whole-contents : {b : List ℕ} {w : Journal} → Contents b w → w.tail ≡ clean → (f : Frame) → Fits (length b) w f
    → Contents (write_all b (writes (end_of w) (encode w.edition f))) (with_frame w f)
whole-contents {b} {w} y c f x =
    let fs : List Frame = w.frames in
    let n : ℕ = length b - (end_of w + length (encode w.edition f)) in
    record {
      rest = replicate n 255;
      layout = record {
        is = written y c (encode w.edition f) (bytes-encode w.edition 256 f x.legal) (omega (arith, x.short, length-encode w.edition f))
            ∙ ap (λ (l : List ℕ). header w.edition w.time valid_data ++ l)
            (sym (append_assoc (encode_all w.edition fs) (encode w.edition f) (replicate n 255))
            ∙ ap (λ (l : List ℕ). l ++ replicate n 255) (sym (encode_snoc w.edition fs f)));
        stands = stands-append w.edition 0 fs (f ∷ []) y.layout.stands (stands_any w.edition 256 (next_of 0 fs) f x.host x.legal, tt);
        time_lo = y.layout.time_lo;
        time_hi = y.layout.time_hi;
        size = refl;
      };
      reads = scan-blank w.edition (next_of 0 (fs ++ (f ∷ []))) (end_of (with_frame w f)) n;
      okay = tt;
      clean_is = λ q. ap (λ (m : ℕ). replicate m 255) (sym (length-replicate n 255));
    }

-- ---- the plan

-- a write to a byte that no earlier one went to, where 0xFF stood
lands-fresh : (l : List ℕ) (ws : List Write) (q : ℕ) (d : Write) → Fresh ws → Given ws → q < length ws → get_or l (get_or ws q d).at 0 ≡ 255
    → Lands (write_all l (take q ws)) (get_or ws q d)
lands-fresh l ws q d f g h e =
    let w : Write = get_or ws q d in
    let was : get_or (write_all l (take q ws)) w.at 0 ≡ 255 = untouched w.at l (take q ws) (fresh_at ws q d f h) ∙ e in
    lands_ff (write_all l (take q ws)) w (given_at ws q d g h) was

abbrev frame_writes : Journal → Frame → List Write
frame_writes w f = writes (end_of w) (encode w.edition f)

module _ {N : ℕ} {s k : ℕ} {img : List ℕ} {w : Journal} (a : Alone N s img k w) (c : w.tail ≡ clean) (f : Frame) (x : Fits s w f) where
  long : length (block s k img) ≡ s
  long = block-long k a.sized a.there

  fits : Fits (length (block s k img)) w f
  fits = subst (λ (n : ℕ). Fits n w f) (sym long) x

  below : (j : ℕ) → Below s (writes (end_of w) (take j (encode w.edition f)))
  below j =
      below-writes s (end_of w) (take j (encode w.edition f)) (omega (arith, length-take j (encode w.edition f), length-encode w.edition f, x.short))

  -- the image with j bytes of the frame
  part_is : (j : ℕ) → on_block k (take j (frame_writes w f)) ≡ on_block k (writes (end_of w) (take j (encode w.edition f)))
  part_is j = ap (on_block k) (take-writes (end_of w) j (encode w.edition f))

  pub append_lands : Each s (StepLands s) (append_plan w.edition k (end_of w) f) img
  append_lands = each-writes s k (StepLands s) (frame_writes w f) (write 0 0) img go
    where
      go : (j : ℕ) → j < length (frame_writes w f)
          → Lands (block s k (apply_all s (on_block k (take j (frame_writes w f))) img)) (get_or (frame_writes w f) j (write 0 0))
      go j h =
          let l : j < length (encode w.edition f) = omega (arith, length-writes (end_of w) (encode w.edition f)) in
          let place : (get_or (frame_writes w f) j (write 0 0)).at ≡ end_of w + j =
          ap (λ (q : Write). q.at) (writes_at (end_of w) (encode w.edition f) j (write 0 0) l) in
          let was : get_or (block s k img) (end_of w + j) 0 ≡ 255 = tail_ff a.contents c j (omega (arith, fits.short, length-encode w.edition f)) in
          subst (λ (b : List ℕ). Lands b (get_or (frame_writes w f) j (write 0 0)))
          (sym
          (ap (λ (q : List Step). block s k (apply_all s q img)) (part_is j)
          ∙ block_writes s k (writes (end_of w) (take j (encode w.edition f))) img (below j)
          ∙ ap (write_all (block s k img)) (sym (take-writes (end_of w) j (encode w.edition f)))))
          (lands-fresh (block s k img) (frame_writes w f) j (write 0 0) (fresh-stretch (end_of w) (encode w.edition f))
          (given_writes (end_of w) (encode w.edition f) (bytes-encode w.edition 256 f x.legal)) h
          (ap (λ (n : ℕ). get_or (block s k img) n 0) place ∙ was))

  pub append_guard : {os : List Object} (u : Track) → Keeps u.tight s w.edition (replay_of w) os
      → Each s (Guard N s os u) (append_plan w.edition k (end_of w) f) img
  unfolding apply_all
  append_guard {os} u p = each-writes s k (Guard N s os u) (frame_writes w f) (write 0 0) img (λ j h. (go j h, tt))
    where
      go : (j : ℕ) → j < length (frame_writes w f) → Safe N s (apply_all s (on_block k (take j (frame_writes w f))) img) os u
      go zero h = alone-safe u a p
      go (suc j) h =
          subst (λ (q : List Step). Safe N s (apply_all s q img) os u) (sym (part_is (suc j)))
          (alone-safe u (alone-written (writes (end_of w) (take (suc j) (encode w.edition f))) a (below (suc j))
          (torn-contents a.contents c f fits (suc j) (omega arith)
          (omega (arith, length-writes (end_of w) (encode w.edition f), length-encode w.edition f)))) p)

  pub append_alone : Alone N s (apply_all s (append_plan w.edition k (end_of w) f) img) k (with_frame w f)
  append_alone =
      alone-written (frame_writes w f) a (below-writes s (end_of w) (encode w.edition f) (omega (arith, length-encode w.edition f, x.short)))
      (whole-contents a.contents c f fits)

  pub append_ends : (z : Rest) → z.blocks ≡ N → length img ≡ suc z.last → z.pending ≡ counts_in w.edition (next_state (replay_of w) f)
      → Roomy s w.edition (next_state (replay_of w) f)
      → After N s w.edition (apply_all s (append_plan w.edition k (end_of w) f) img)
      (idle (places_in (with_frame w f)) (landing z (edition_number w.edition) k (end_of w + frame_len w.edition f))) (next_state (replay_of w) f)
  append_ends z b e counts room =
      let end : end_of (with_frame w f) ≡ end_of w + frame_len w.edition f = omega (arith, total_snoc w.edition w.frames f) in
      subst (λ (n : ℕ). After N s w.edition (apply_all s (append_plan w.edition k (end_of w) f) img)
      (idle (places_in (with_frame w f)) (landing z (edition_number w.edition) k n)) (next_state (replay_of w) f)) end
      (alone-after z (next_state (replay_of w) f) append_alone refl b (length-all-steps s (append_plan w.edition k (end_of w) f) img ∙ e)
      (replay_snoc w.frames f) counts room)
