-- A buffer whose phase and flags are written as they are read holds the bytes of its record; one cursor in the place of another.
use mathlib.Core.Path.{◌≡◌, refl, sym, ap, ◌∙◌}
use mathlib.Core.List.{List, [], ◌∷◌, ◌++◌, append_assoc}
use Prim.Native.Nat.{ℕ, zero, suc, ◌+◌, ◌/◌, ◌%◌, ◌≤◌, ◌<◌}
use native.Mathlib.Omega.{arith}
use native.Mathlib.Nat.{zero-add}
use lib.ListN.{length, get_or, take, drop, set, length-append, length-drop, take-append-drop}
use lib.Seq.{take_at, drop-drop, get_or-drop, length-take-le}
use Rattle.flash.specs.Bytes.{u32le, le32}
use Rattle.flash.specs.Flash.{max_blocks}
use Rattle.board.specs.declared.Stage.{Stage}
use Rattle.board.specs.declared.Phase.TheVariants.{Busy}
use Rattle.board.specs.declared.Cursor.{Cursor}
use Rattle.board.specs.Record.{in_stage}
use Rattle.board.specs.Step.{next_index, next_byte}
use Rattle.lent.specs.Layout.{made_at, id_at, source_at, copy_at, off_at, moves_at, drops_at, target_at, time_at, since_at_of, since_size, append_at_of, makes_at}
use Rattle.lent.specs.Layout.{closes_at, close_at, close_size}
use Rattle.lent.specs.Layout.{places_at, places_size, job_at, plan_at, cursor_at, unit_at, record_size}
use Rattle.lent.specs.Layout.{phase_in, flag_in, words_in, number_in, job_in, cursor_in, record_in}
use Rattle.lent.specs.Layout.{phase_byte, flag_byte, word_bytes, head_bytes_of, plan_bytes, cursor_bytes, record_bytes}
use Rattle.lent.proofs.Words.{length_word_bytes, words_own}
use Rattle.lent.proofs.Rests.{one, some, two, rest-own}
use Rattle.lent.proofs.Own.{own-sized, bytes-own, places_own, frames_own}

phase-own : (n : ℕ) → n < 9 → phase_byte (phase_in n) ≡ n
phase-own zero h = refl
phase-own (suc zero) h = refl
phase-own (suc (suc zero)) h = refl
phase-own (suc (suc (suc zero))) h = refl
phase-own (suc (suc (suc (suc zero)))) h = refl
phase-own (suc (suc (suc (suc (suc zero))))) h = refl
phase-own (suc (suc (suc (suc (suc (suc zero)))))) h = refl
phase-own (suc (suc (suc (suc (suc (suc (suc zero))))))) h = refl
phase-own (suc (suc (suc (suc (suc (suc (suc (suc zero)))))))) h = refl
phase-own (suc (suc (suc (suc (suc (suc (suc (suc (suc n))))))))) h = absurd (omega arith)

flag_own : (n : ℕ) → n < 2 → flag_byte (flag_in n) ≡ n
flag_own zero h = refl
flag_own (suc zero) h = refl
flag_own (suc (suc n)) h = absurd (omega arith)

set_past : (p t : List ℕ) (n i v : ℕ) → length p ≡ n → set (p ++ t) (n + i) v ≡ p ++ set t i v
set_past p t n i v e = rw (← e) (go p)
  where
    go : (p : List ℕ) → set (p ++ t) (length p + i) v ≡ p ++ set t i v
    go [] = rw zero-add
    go (x ∷ p) = let f : suc (length p) + i ≡ suc (length p + i) = omega arith in rw f (ap (λ (l : List ℕ). x ∷ l) (go p))

-- four bytes that are a buffer's own
module _ (b : List ℕ) (ok : (i : ℕ) → get_or b i 0 < 256) where
  four : (at : ℕ) (t : List ℕ) → at + 4 ≤ length b → t ≡ drop (at + 4) b → u32le (number_in (drop at b)) ++ t ≡ drop at b
  four at t h f =
      let n = number_in (drop at b) in
      let e : number_in (drop at b) ≡ le32 (get_or b at 0) (get_or b (at + 1) 0) (get_or b (at + 2) 0) (get_or b (at + 3) 0) =
      (let z : at + 0 ≡ at = omega arith in rw (get_or-drop at b 0 0, get_or-drop at b 1 0, get_or-drop at b 2 0, get_or-drop at b 3 0, z)) in
      let x₀ = ok at in
      let x₁ = ok (at + 1) in
      let x₂ = ok (at + 2) in
      let g₁ : at + 1 + 1 ≡ at + 2 = omega arith in
      let g₂ : at + 2 + 1 ≡ at + 3 = omega arith in
      let g₃ : at + 3 + 1 ≡ at + 4 = omega arith in
      one b ok at (n % 256) (n / 256 % 256 ∷ n / 65536 % 256 ∷ n / 16777216 ∷ t) (omega arith) (omega (arith, e))
      (one b ok (at + 1) (n / 256 % 256) (n / 65536 % 256 ∷ n / 16777216 ∷ t) (omega arith) (omega (arith, e))
      (rw g₁ (one b ok (at + 2) (n / 65536 % 256) (n / 16777216 ∷ t) (omega arith) (omega (arith, e))
      (rw g₂ (one b ok (at + 3) (n / 16777216) t (omega arith) (omega (arith, e)) (rw g₃ f))))))

-- phase and flags as they are written
pub record Canonical (b : List ℕ) : Type 0 where
  pub phase : get_or b 0 0 < 9
  pub moves : get_or b (plan_at + moves_at) 0 < 2
  pub drops : get_or b (plan_at + drops_at) 0 < 2

module _ (b : List ℕ) (size : length b ≡ record_size) (ok : (i : ℕ) → get_or b i 0 < 256) (canon : Canonical b) where
  at_plan : (i : ℕ) → get_or (drop max_blocks (drop job_at b)) i 0 ≡ get_or b (plan_at + i) 0
  at_plan i = ap (λ (l : List ℕ). get_or l i 0) (drop-drop max_blocks job_at b) ∙ get_or-drop plan_at b i 0

  plan_own : (t : List ℕ) → t ≡ drop cursor_at b → plan_bytes (job_in (drop job_at b)) ++ t ≡ drop plan_at b
  plan_own t f =
      let from : (i : ℕ) → drop i (drop max_blocks (drop job_at b)) ≡ drop (plan_at + i) b =
      λ i. ap (drop i) (drop-drop max_blocks job_at b) ∙ drop-drop i plan_at b in
      let flag : (i : ℕ) → get_or b (plan_at + i) 0 < 2 → flag_byte (flag_in (get_or (drop max_blocks (drop job_at b)) i 0)) ≡ get_or b (plan_at + i) 0 =
      λ i h. ap (λ (n : ℕ). flag_byte (flag_in n)) (at_plan i) ∙ flag_own (get_or b (plan_at + i) 0) h in
      let job = job_in (drop job_at b) in
      let since = job.since in
      let close = word_bytes job.close in
      let last : List ℕ = job.size ∷ job.edition ∷ job.closes ∷ close in
      let words : (i : ℕ) → plan_at + i + 8 ≤ length b → word_bytes (words_in 4 (drop i (drop max_blocks (drop job_at b)))) ≡ take 8 (drop (plan_at + i) b) =
      λ i h. ap (λ (l : List ℕ). word_bytes (words_in 4 l)) (from i)
      ∙ words_own 4 (drop (plan_at + i) b) (λ k. rw get_or-drop (ok (plan_at + i + k))) (simp length-drop (omega arith)) in
      one b ok plan_at _ _ (omega arith) (at_plan 0)
      (one b ok (plan_at + moves_at) _ _ (omega arith) (flag moves_at canon.moves)
      (one b ok (plan_at + drops_at) _ _ (omega arith) (flag drops_at canon.drops)
      (one b ok (plan_at + target_at) _ _ (omega arith) (at_plan target_at)
      (ap (λ (l : List ℕ). u32le (number_in l) ++ ((word_bytes since ++ last) ++ t)) (from time_at)
      ∙ four b ok (plan_at + time_at) ((word_bytes since ++ last) ++ t) (omega arith)
      (append_assoc (word_bytes since) last t
      ∙ some b ok (plan_at + since_at_of) since_size (word_bytes since) (job.size ∷ job.edition ∷ job.closes ∷ (close ++ t)) (words since_at_of (omega arith))
      (one b ok (plan_at + append_at_of) _ _ (omega arith) (at_plan append_at_of)
      (one b ok (plan_at + makes_at) _ _ (omega arith) (at_plan makes_at)
      (one b ok (plan_at + closes_at) _ _ (omega arith) (at_plan closes_at)
      (some b ok (plan_at + close_at) close_size close t (words close_at (omega arith)) f)))))))))

  cursor_own : (t : List ℕ) → t ≡ drop unit_at b → cursor_bytes (cursor_in (drop cursor_at b)) ++ t ≡ drop cursor_at b
  cursor_own t f =
      one b ok cursor_at _ _ (omega arith) (get_or-drop cursor_at b 0 0)
      (two b ok (cursor_at + made_at) cursor_at made_at _ refl (omega arith)
      (two b ok (cursor_at + id_at) cursor_at id_at _ refl (omega arith)
      (two b ok (cursor_at + source_at) cursor_at source_at _ refl (omega arith)
      (one b ok (cursor_at + copy_at) _ _ (omega arith) (get_or-drop cursor_at b copy_at 0)
      (one b ok (cursor_at + off_at) _ _ (omega arith) (get_or-drop cursor_at b off_at 0) f)))))

  pub own : record_bytes (record_in b) ≡ b
  unfolding record_in record_bytes
  own =
      one b ok 0 _ _ (omega arith) (phase-own (get_or b 0 0) canon.phase)
      (rest-own b ok _ (omega arith)
      (some b ok places_at places_size _ _ (places_own b size ok)
      (some b ok job_at max_blocks _ _ (bytes-own max_blocks (drop job_at b) (simp length-drop (omega arith)))
      (plan_own _ (cursor_own _ (frames_own b size))))))

  -- the bytes before the cursor and after it
  abbrev around : List ℕ → List ℕ
  around t = take cursor_at b ++ (t ++ drop unit_at b)

  -- the record in its stage, at another cursor
  pub at_cursor : (s : Stage) (c : Cursor) → (record_in b).phase ≡ Busy s → record_bytes (in_stage s c (record_in b)) ≡ around (cursor_bytes c)
  unfolding record_bytes
  at_cursor s c e =
      let r = record_in b in
      let z = own-sized b in
      let w = word_bytes r.places in
      let p = head_bytes_of r ++ (w ++ (r.job.wipe ++ plan_bytes r.job)) in
      let parts : (t : List ℕ) → head_bytes_of r ++ (w ++ (r.job.wipe ++ (plan_bytes r.job ++ t))) ≡ p ++ t = λ t. simp append_assoc in
      let n : length p ≡ cursor_at =
      simp length-append (omega (
        arith,
        length_word_bytes r.rest.pending,
        length_word_bytes r.places,
        length_word_bytes r.job.since,
        length_word_bytes r.job.close,
        z.pending,
        z.places,
        z.wipe,
        z.since,
        z.close,
      )) in
      let uf = r.unit ++ r.frame in
      let front : p ≡ take cursor_at b =
      sym (take_at p (cursor_bytes r.cursor ++ uf) cursor_at n) ∙ ap (take cursor_at) (sym (parts (cursor_bytes r.cursor ++ uf)) ∙ own) in
      (λ i. record_bytes (record {
        phase = sym e i;
        rest = r.rest;
        places = r.places;
        job = r.job;
        cursor = c;
        unit = r.unit;
        frame = r.frame;
      }))
      ∙ parts (cursor_bytes c ++ uf)
      ∙ (λ i. front i ++ (cursor_bytes c ++ frames_own b size i))

  -- the buffer, by its own cursor
  split : b ≡ around (cursor_bytes (record_in b).cursor)
  unfolding record_in
  split = sym (take-append-drop cursor_at b) ∙ ap (λ (t : List ℕ). take cursor_at b ++ t) (sym (cursor_own (drop unit_at b) refl))

  set_cursor : (i v : ℕ) (t : List ℕ) → set (take cursor_at b ++ t) (cursor_at + i) v ≡ take cursor_at b ++ set t i v
  set_cursor i v t = set_past (take cursor_at b) t cursor_at i v (length-take-le cursor_at b (omega arith))

  -- the next byte of the frame that is copied
  pub byte_copied : (w : ℕ) (c : Cursor) → c ≡ (record_in b).cursor → w ≡ suc c.at
      → set (set (set b (cursor_at + made_at) (w % 256)) (cursor_at + (made_at + 1)) (w / 256)) (cursor_at + off_at) (suc c.off)
      ≡ around (cursor_bytes (next_byte c))
  byte_copied w c e q =
      let t = cursor_bytes c ++ drop unit_at b in
      ap (λ (l : List ℕ). set (set (set l (cursor_at + made_at) (w % 256)) (cursor_at + (made_at + 1)) (w / 256)) (cursor_at + off_at) (suc c.off))
      (split ∙ ap (λ (x : Cursor). around (cursor_bytes x)) (sym e))
      ∙ ap (λ (l : List ℕ). set (set l (cursor_at + (made_at + 1)) (w / 256)) (cursor_at + off_at) (suc c.off)) (set_cursor made_at (w % 256) t)
      ∙ ap (λ (l : List ℕ). set l (cursor_at + off_at) (suc c.off)) (set_cursor (made_at + 1) (w / 256) (set t made_at (w % 256)))
      ∙ set_cursor off_at (suc c.off) (set (set t made_at (w % 256)) (made_at + 1) (w / 256))
      ∙ rw q

  -- the next byte of the frame to append
  pub byte_appended : (c : Cursor) → c ≡ (record_in b).cursor → set b (cursor_at + 0) (suc c.index) ≡ around (cursor_bytes (next_index c))
  byte_appended c e =
      ap (λ (l : List ℕ). set l (cursor_at + 0) (suc c.index)) (split ∙ ap (λ (x : Cursor). around (cursor_bytes x)) (sym e))
      ∙ set_cursor 0 (suc c.index) (cursor_bytes c ++ drop unit_at b)
