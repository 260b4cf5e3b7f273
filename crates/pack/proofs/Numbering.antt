-- A record's numbers laid over its bytes are the bytes of the record with those numbers and the buffer's arrays.
use mathlib.Core.Path.{◌≡◌, refl, sym, ap, subst, ◌∙◌}
use mathlib.Core.List.{List, [], ◌++◌, append_assoc, append-nil}
use mathlib.Core.Bool.{Bool, true, false}
use Prim.Native.Nat.{ℕ, ◌+◌, ◌-◌, ◌≤◌, ◌<◌}
use native.Mathlib.Omega.{arith}
use lib.ListN.{length, get_or, take, drop, replicate, length-append, length-take, length-drop, take-append-drop, drop_of_length-le}
use lib.Seq.{take_at, take_all, drop_at, drop-drop, take-append-le, drop-append-le, length-take-le}
use borrow.Author.Tests.{eq-eqb, ne_eqb}
use Rattle.flash.specs.Flash.{max_blocks}
use Rattle.frame.specs.Frame.{buffer_len}
use Rattle.board.specs.declared.Record.{Record}
use Rattle.board.specs.Record.{no_frame}
use Rattle.job.specs.declared.records.Numbers.{Numbers}
use Rattle.job.specs.declared.records.Stepped.{Stepped}
use Rattle.job.specs.Code.{assemble, leaves_if}
use Rattle.lent.specs.Layout.{cursor_size, plan_size, places_at, places_size, job_at, plan_at, cursor_at, unit_at, frame_at, record_size}
use Rattle.lent.specs.Layout.{record_in, word_bytes, head_bytes_of, plan_bytes, cursor_bytes, record_bytes, record_into}
use Rattle.lent.proofs.Words.{length_word_bytes, length-plan}
use Rattle.lent.proofs.Inverse.{Sized, length-head, record_back}
use Rattle.lent.proofs.Own.{length_words_in, length-bytes_in, places_own, frames_own, places_laid, frame_after, places-stay, unit_laid, frame_stays}
use Rattle.pack.specs.Code.{laid_at, numbers_into, loaded_in, left_in, Holds}
use Rattle.pack.proofs.Laying.{Upto, next, whole, laid-here}

-- a stretch that stays
keep : (at n : ℕ) {p l x : List ℕ} → Upto at p l x → at + n ≤ length l → Upto (at + n) (p ++ take n (drop at l)) l x
keep at n {p} {l} {x} u k =
    record {
      written =
          u.written ∙ ap (λ (t : List ℕ). p ++ t) (sym (take-append-drop n (drop at l)))
          ∙ rw drop-drop (sym (append_assoc p (take n (drop at l)) (drop (at + n) l)));
      size = length-append p (take n (drop at l)) ∙ rw (u.size, length-take-le n (drop at l) (simp length-drop (omega arith)));
    }

flat : (a b c d e f : List ℕ) → ((((a ++ b) ++ c) ++ d) ++ e) ++ f ≡ a ++ (b ++ (c ++ (d ++ (e ++ f))))
flat a b c d e f = simp append_assoc

-- a record's arrays but for places and frames have their lengths
pub record Lengths (n : Numbers) : Type 0 where
  pub pending : length n.rest.pending ≡ 4
  pub wipe : length n.job.wipe ≡ max_blocks
  pub since : length n.job.since ≡ 4
  pub close : length n.job.close ≡ 4

module _ (n : Numbers) (z : Lengths n) where
  numbers_laid : (l p u f : List ℕ) → length l ≡ record_size → word_bytes p ≡ take places_size (drop places_at l) → u ++ f ≡ drop unit_at l
      → numbers_into n l ≡ record_bytes (assemble n p u f)
  unfolding numbers_into record_bytes
  numbers_laid l p u f size ep ef =
      let h = head_bytes_of (assemble n [] [] []) in
      let q = plan_bytes n.job in
      let c = cursor_bytes n.cursor in
      let u₀ : Upto 0 [] l l = record { written = refl; size = refl } in
      let u₁ = next 0 places_at h u₀ refl (length-head (assemble n [] [] []) z.pending) (omega (arith, size)) in
      let u₂ = keep places_at places_size u₁ (omega (arith, size)) in
      let u₃ = next job_at max_blocks n.job.wipe u₂ refl z.wipe (omega (arith, size)) in
      let u₄ = next plan_at plan_size q u₃ refl (length-plan n.job z.since z.close) (omega (arith, size)) in
      let u₅ = next cursor_at cursor_size c u₄ refl refl (omega (arith, size)) in
      u₅.written ∙ flat h (take places_size (drop places_at l)) n.job.wipe q c (drop unit_at l) ∙ rw (← ep, ← ef)

  own_sizes : (b : List ℕ) → Sized (assemble n (record_in b).places (record_in b).unit (record_in b).frame)
  unfolding record_in
  own_sizes b =
      record {
        pending = z.pending;
        places = length_words_in 256 (drop places_at b);
        wipe = z.wipe;
        since = z.since;
        close = z.close;
        unit = length-bytes_in buffer_len (drop unit_at b);
        frame = length-bytes_in buffer_len (drop frame_at b);
      }

  no_sizes : (b : List ℕ) → Sized (assemble n (record_in b).places no_frame no_frame)
  unfolding no_frame record_in
  no_sizes b =
      record {
        pending = z.pending;
        places = length_words_in 256 (drop places_at b);
        wipe = z.wipe;
        since = z.since;
        close = z.close;
        unit = refl;
        frame = refl;
      }

  -- a job that ended: x is the buffer with its frames cleared
  ended_laid : (b x : List ℕ) → length b ≡ record_size → ((i : ℕ) → get_or b i 0 < 256) → x ≡ take unit_at b ++ replicate (buffer_len + buffer_len) 0
      → numbers_into n x ≡ record_bytes (assemble n (record_in b).places no_frame no_frame)
  unfolding no_frame
  ended_laid b x l ok e =
      let front : length (take unit_at b) ≡ unit_at = length-take-le unit_at b (omega arith) in
      let seen : (t : List ℕ) → take places_size (drop places_at (take unit_at b ++ t)) ≡ take places_size (drop places_at (take unit_at b)) =
      λ t. ap (take places_size) (drop-append-le places_at (take unit_at b) t (omega (arith, front)))
      ∙ take-append-le places_size (drop places_at (take unit_at b)) t (simp length-drop (omega (arith, front))) in
      numbers_laid x (record_in b).places no_frame no_frame (ap length e ∙ rw (length-append, front))
      (places_own b l ok ∙ ap (λ (t : List ℕ). take places_size (drop places_at t)) (sym (take-append-drop unit_at b))
      ∙ seen (drop unit_at b) ∙ sym (ap (λ (t : List ℕ). take places_size (drop places_at t)) e ∙ seen (replicate (buffer_len + buffer_len) 0)))
      (sym (ap (drop unit_at) e ∙ drop_at (take unit_at b) (replicate (buffer_len + buffer_len) 0) unit_at front))

-- the part from a place on cleared, given back as y
cleared : (at k : ℕ) (l y : List ℕ) → length l ≡ at + k → y ≡ replicate (length (take (length l - at) (drop at l))) 0
    → take at l ++ (y ++ drop (length l - at) (drop at l)) ≡ take at l ++ replicate k 0
cleared at k l y h c =
    let d : length l - at ≡ k = omega arith in
    let m : length (drop at l) ≡ k = simp length-drop (omega arith) in
    rw (c, d, drop_of_length-le (drop at l) {i = k} (omega arith), take_all k (drop at l) (omega arith), m, append-nil)

-- ---- a buffer after the call

-- of another size
pub other-size : (r : Record) (b : List ℕ) → (length b ≡ record_size → ⊥) → Holds r b b
unfolding record_into
other-size r b h = record { bytes = rw (ne_eqb _ _ h); back = λ e. absurd (h e) }

held : (r : Record) (b after : List ℕ) → length b ≡ record_size → Sized r → after ≡ record_bytes r → Holds r b after
unfolding record_into
held r b after l z e = record { bytes = rw (eq-eqb _ _ l) e; back = λ _. ap record_in e ∙ record_back r z }

-- all arrays were laid first: x is the buffer after the places, y after the frame that is copied, w after the one to append
pub encoded : (n : Numbers) (p u f b x y w after : List ℕ) → Lengths n → length b ≡ record_size → length p ≡ 256 → length u ≡ buffer_len
    → length f ≡ buffer_len → x ≡ laid_at places_at (word_bytes p) b → y ≡ laid_at unit_at u x → w ≡ laid_at frame_at f y
    → after ≡ numbers_into n w → Holds (assemble n p u f) b after
encoded n p u f b x y w after z l k q m ex ey ew e =
    let a = take places_at b in
    let g = take (unit_at - job_at) (drop job_at b) in
    let ws = word_bytes p in
    let u₀ : Upto 0 [] b b = record { written = refl; size = refl } in
    let u₁ : Upto places_at a b b = keep 0 places_at u₀ (omega (arith, l)) in
    let u₂ : Upto job_at (a ++ ws) b x = next places_at places_size ws u₁ ex (length_word_bytes p ∙ rw k) (omega (arith, l)) in
    let u₃ : Upto unit_at ((a ++ ws) ++ g) b x = keep job_at (unit_at - job_at) u₂ (omega (arith, l)) in
    let u₄ : Upto frame_at (((a ++ ws) ++ g) ++ u) b y = next unit_at buffer_len u u₃ ey q (omega (arith, l)) in
    let u₅ : Upto record_size ((((a ++ ws) ++ g) ++ u) ++ f) b w = next frame_at buffer_len f u₄ ew m (omega (arith, l)) in
    let all : w ≡ (((a ++ ws) ++ g) ++ u) ++ f = whole record_size u₅ l in
    let apart : w ≡ a ++ (ws ++ (g ++ (u ++ f))) = all ∙ simp append_assoc in
    let places : ws ≡ take places_size (drop places_at w) = sym
    (ap (λ (t : List ℕ). take places_size (drop places_at t)) apart
    ∙ ap (take places_size) (drop_at a (ws ++ (g ++ (u ++ f))) places_at u₁.size)
    ∙ take_at ws (g ++ (u ++ f)) places_size (length_word_bytes p ∙ rw k)) in
    let frames : u ++ f ≡ drop unit_at w = sym
    (ap (drop unit_at) (all ∙ append_assoc ((a ++ ws) ++ g) u f) ∙ drop_at ((a ++ ws) ++ g) (u ++ f) unit_at u₃.size) in
    let sized : Sized (assemble n p u f) = record {
      pending = z.pending;
      places = k;
      wipe = z.wipe;
      since = z.since;
      close = z.close;
      unit = q;
      frame = m;
    } in
    held (assemble n p u f) b after l sized (e ∙ numbers_laid n z w p u f (ap length all ∙ u₅.size) places frames)

module _ (s : Stepped) (b after : List ℕ) (l : length b ≡ record_size) (n : Lengths s.next) where
  -- the job went on
  pub went_on : ((i : ℕ) → get_or b i 0 < 256) → s.ended ≡ false → after ≡ numbers_into s.next b → Holds (left_in s b) b after
  went_on ok t e =
      let r = record_in b in
      subst (λ (x : Record). Holds x b after) (sym (ap (λ (d : Bool). leaves_if d s.next r.places r.unit r.frame) t))
      (held (assemble s.next r.places r.unit r.frame) b after l (own_sizes s.next n b)
      (e ∙ numbers_laid s.next n b r.places r.unit r.frame l (places_own b l ok) (frames_own b l)))

  -- it ended: the frames were cleared, given back as y
  pub ended : ((i : ℕ) → get_or b i 0 < 256) → (y : List ℕ) → y ≡ replicate (length (take (length b - unit_at) (drop unit_at b))) 0 → s.ended ≡ true
      → after ≡ numbers_into s.next (take unit_at b ++ (y ++ drop (length b - unit_at) (drop unit_at b))) → Holds (left_in s b) b after
  ended ok y c t e =
      let r = record_in b in
      subst (λ (x : Record). Holds x b after) (sym (ap (λ (d : Bool). leaves_if d s.next r.places r.unit r.frame) t))
      (held (assemble s.next r.places no_frame no_frame) b after l (no_sizes s.next n b)
      (e ∙ ended_laid s.next n b _ l ok (cleared unit_at (buffer_len + buffer_len) b y l c)))

-- places and another frame that is copied were laid first: x is the buffer after the places, y after both
pub loaded : (s : Stepped) (p u b x y after : List ℕ) → length b ≡ record_size → length p ≡ 256 → length u ≡ buffer_len
    → x ≡ laid_at places_at (word_bytes p) b → y ≡ laid_at unit_at u x → Holds (left_in s y) y after → Holds (loaded_in s p u b) b after
unfolding record_into
loaded s p u b x y after l k n ex ey h =
    let w = length_word_bytes p in
    let a : places_at + length (word_bytes p) ≡ job_at = omega (arith, w) in
    let x' : x ≡ (take places_at b ++ word_bytes p) ++ drop job_at b = ex ∙ laid-here places_at (word_bytes p) b (omega (arith, a)) ∙ rw a in
    let lx : length x ≡ record_size = ap length x' ∙ simp (length-append, length-take, length-drop) (omega (arith, w)) in
    let d : unit_at + length u ≡ frame_at = omega arith in
    let y' : y ≡ (take unit_at x ++ u) ++ drop frame_at x = ey ∙ laid-here unit_at u x (omega arith) ∙ rw d in
    let m : length y ≡ record_size = ap length y' ∙ simp (length-append, length-take, length-drop) (omega arith) in
    let same : left_in s y ≡ loaded_in s p u b =
    λ i. leaves_if s.ended s.next ((places-stay x lx u y n y' ∙ places_laid b l p x k x') i) (unit_laid x lx u y n y' i)
    ((frame_stays x lx u y n y' ∙ frame_after b l p x k x') i) in
    let g = subst (λ (r : Record). Holds r y after) same h in
    record { bytes = g.bytes ∙ rw (eq-eqb _ _ m, eq-eqb _ _ l); back = λ _. g.back m }
