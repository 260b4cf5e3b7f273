-- What a record read from a buffer of its size has of the buffer: places and frames come back as the bytes that they were.
use mathlib.Core.Path.{◌≡◌, refl, sym, ap, ◌∙◌}
use mathlib.Core.List.{List, [], ◌∷◌, ◌++◌, append_assoc, append-nil}
use Prim.Native.Nat.{ℕ, zero, suc, ◌+◌, ◌-◌, ◌*◌, ◌≤◌, ◌<◌}
use native.Mathlib.Omega.{arith}
use lib.ListN.{length, get_or, take, drop, length-append, length-take, length-drop, length-replicate, take-append-drop}
use lib.Seq.{take_all, drop_at, drop-drop, drop-append-le, get_or-drop, length-take-le}
use Rattle.flash.specs.Flash.{max_blocks}
use Rattle.frame.specs.Frame.{buffer_len}
use Rattle.lent.specs.Layout.{since_at_of, close_at, pending_at, places_at, places_size, job_at, unit_at, frame_at, record_size}
use Rattle.lent.specs.Layout.{bytes_in, words_in, record_in, word_bytes}
use Rattle.lent.proofs.Words.{length_word_bytes, words_back, words_own}
use Rattle.lent.proofs.Inverse.{Sized, array_back}

-- ---- lengths

pub length_words_in : (n : ℕ) (l : List ℕ) → length (words_in n l) ≡ n
unfolding words_in
length_words_in zero l = refl
length_words_in (suc n) l = ap suc (length_words_in n (drop 2 l))

pub length-bytes_in : (n : ℕ) (l : List ℕ) → length (bytes_in n l) ≡ n
length-bytes_in n l = rw (length-append, length-replicate {A = ℕ}) (simp length-take (omega arith))

pub own-sized : (l : List ℕ) → Sized (record_in l)
unfolding record_in
own-sized l =
    record {
      pending = length_words_in 4 (drop pending_at l);
      places = length_words_in 256 (drop places_at l);
      wipe = length-bytes_in max_blocks (drop job_at l);
      since = length_words_in 4 (drop since_at_of (drop max_blocks (drop job_at l)));
      close = length_words_in 4 (drop close_at (drop max_blocks (drop job_at l)));
      unit = length-bytes_in buffer_len (drop unit_at l);
      frame = length-bytes_in buffer_len (drop frame_at l);
    }

-- ---- a part that is all there

pub bytes-own : (n : ℕ) (l : List ℕ) → n ≤ length l → bytes_in n l ≡ take n l
bytes-own n l h = let z : n - length (take n l) ≡ 0 = simp length-take (omega arith) in rw (z, append-nil)

-- only the bytes that are there count
words_front : (n : ℕ) (l t : List ℕ) → 2 * n ≤ length l → words_in n (l ++ t) ≡ words_in n l
unfolding words_in
words_front zero l t h = refl
words_front (suc n) [] t h = absurd (omega arith)
words_front (suc n) (x ∷ []) t h = absurd (omega arith)
words_front (suc n) (x ∷ y ∷ l) t h = rw (words_front n l t (omega arith))

module _ (l : List ℕ) (size : length l ≡ record_size) where
  -- the places
  pub places_own : ((i : ℕ) → get_or l i 0 < 256) → word_bytes (record_in l).places ≡ take places_size (drop places_at l)
  unfolding record_in
  places_own b = words_own 256 (drop places_at l) (λ i. rw get_or-drop (b (places_at + i))) (simp length-drop (omega arith))

  -- the frame that is copied, and the frame to append
  pub frames_own : (record_in l).unit ++ (record_in l).frame ≡ drop unit_at l
  unfolding record_in
  frames_own =
      let u : buffer_len ≤ length (drop unit_at l) = simp length-drop (omega arith) in
      let f : length (drop frame_at l) ≡ buffer_len = simp length-drop (omega arith) in
      rw (bytes-own buffer_len (drop unit_at l) u, bytes-own buffer_len (drop frame_at l) (omega arith), take_all buffer_len (drop frame_at l) (omega arith))
      (ap (λ (t : List ℕ). take buffer_len (drop unit_at l) ++ t) (sym (drop-drop buffer_len unit_at l)) ∙ take-append-drop buffer_len (drop unit_at l))

  -- other places: x is the buffer then
  module _ (p x : List ℕ) (n : length p ≡ 256) (e : x ≡ (take places_at l ++ word_bytes p) ++ drop job_at l) where
    head : length (take places_at l) ≡ places_at
    head = length-take-le places_at l (omega arith)

    pub places_laid : (record_in x).places ≡ p
    unfolding record_in
    places_laid =
        ap (λ (t : List ℕ). words_in 256 (drop places_at t)) (e ∙ append_assoc (take places_at l) (word_bytes p) (drop job_at l))
        ∙ ap (words_in 256) (drop_at (take places_at l) (word_bytes p ++ drop job_at l) places_at head)
        ∙ words_back p (drop job_at l) 256 n

    pub frame_after : (record_in x).frame ≡ (record_in l).frame
    unfolding record_in
    frame_after =
        let w : length (take places_at l ++ word_bytes p) ≡ job_at = length-append (take places_at l) (word_bytes p) ∙ rw (head, length_word_bytes, n) in
        let f : job_at + (frame_at - job_at) ≡ frame_at = refl in
        ap (λ (t : List ℕ). bytes_in buffer_len (drop frame_at t)) e
        ∙ ap (bytes_in buffer_len) (sym (drop-drop (frame_at - job_at) job_at ((take places_at l ++ word_bytes p) ++ drop job_at l))
        ∙ ap (drop (frame_at - job_at)) (drop_at (take places_at l ++ word_bytes p) (drop job_at l) job_at w) ∙ drop-drop (frame_at - job_at) job_at l)

  -- another frame in the place of the one that is copied: x is the buffer then
  module _ (u x : List ℕ) (n : length u ≡ buffer_len) (e : x ≡ (take unit_at l ++ u) ++ drop frame_at l) where
    front : length (take unit_at l) ≡ unit_at
    front = length-take-le unit_at l (omega arith)

    -- the places stand before it
    seen : (t : List ℕ) → words_in 256 (drop places_at (take unit_at l ++ t)) ≡ words_in 256 (drop places_at (take unit_at l))
    seen t =
        ap (words_in 256) (drop-append-le places_at (take unit_at l) t (omega (arith, front)))
        ∙ words_front 256 (drop places_at (take unit_at l)) t (simp length-drop (omega (arith, front)))

    apart : x ≡ take unit_at l ++ (u ++ drop frame_at l)
    apart = e ∙ append_assoc (take unit_at l) u (drop frame_at l)

    pub places-stay : (record_in x).places ≡ (record_in l).places
    unfolding record_in
    places-stay =
        ap (λ (t : List ℕ). words_in 256 (drop places_at t)) apart
        ∙ seen (u ++ drop frame_at l)
        ∙ sym (seen (drop unit_at l))
        ∙ ap (λ (t : List ℕ). words_in 256 (drop places_at t)) (take-append-drop unit_at l)

    pub unit_laid : (record_in x).unit ≡ u
    unfolding record_in
    unit_laid =
        ap (λ (t : List ℕ). bytes_in buffer_len (drop unit_at t)) apart
        ∙ ap (bytes_in buffer_len) (drop_at (take unit_at l) (u ++ drop frame_at l) unit_at front)
        ∙ array_back buffer_len u (drop frame_at l) n

    pub frame_stays : (record_in x).frame ≡ (record_in l).frame
    unfolding record_in
    frame_stays =
        ap (λ (t : List ℕ). bytes_in buffer_len (drop frame_at t)) e
        ∙ ap (bytes_in buffer_len) (drop_at (take unit_at l ++ u) (drop frame_at l) frame_at (length-append (take unit_at l) u ∙ rw (front, n)))
