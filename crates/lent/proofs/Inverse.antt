-- A record's bytes: how many, that they are bytes, and that they are the record again.
use mathlib.Core.Path.{◌≡◌, refl, sym, ap, ◌∙◌}
use mathlib.Core.List.{List, [], ◌∷◌, ◌++◌, append_assoc, append-nil}
use mathlib.Core.Bool.{Bool, true, false}
use Prim.Native.Nat.{ℕ, ◌+◌, ◌-◌, ◌<◌}
use native.Mathlib.Omega.{arith}
use lib.ListN.{length, get_or, drop, length-append}
use lib.Seq.{take_at, get_or-append-add, drop_at, drop-drop}
use Rattle.flash.specs.Bytes.{Bytes, u32le}
use Rattle.flash.proofs.Blank.{bytes-append, le16_u16, le32_u32}
use Rattle.flash.specs.Flash.{max_blocks}
use Rattle.frame.specs.Frame.{buffer_len}
use Rattle.board.specs.declared.Stage.TheVariants.{Wipe, Open, Copy, Seal, Drop, Append, Close}
use Rattle.board.specs.declared.Phase.{Phase}
use Rattle.board.specs.declared.Phase.TheVariants.{Unmounted, Idle, Busy}
use Rattle.board.specs.declared.Job.{Job}
use Rattle.board.specs.declared.Cursor.{Cursor}
use Rattle.board.specs.declared.Record.{Record}
use Rattle.lent.specs.Layout.{cursor_size, since_size, plan_size, places_at, places_size, job_at, plan_at}
use Rattle.lent.specs.Layout.{cursor_at, unit_at, frame_at, record_size}
use Rattle.lent.specs.Layout.{phase_in, bytes_in, words_in, flag_in, plan_in, job_in, cursor_in, rest_in, record_in}
use Rattle.lent.specs.Layout.{phase_byte, word_bytes, flag_byte, head_bytes_of, plan_bytes, cursor_bytes, record_bytes}
use Rattle.lent.specs.Layout.{JobFits, CursorFits, RecordFits, BytesBack}
use Rattle.lent.proofs.Rests.{rest_back, rest-bytes}
use Rattle.lent.proofs.Words.{length_word_bytes, length-plan, words_back, word_bytes_lem}

-- ---- the parts, read back

phase-back : (p : Phase) → phase_in (phase_byte p) ≡ p
phase-back Unmounted = refl
phase-back Idle = refl
phase-back (Busy Wipe) = refl
phase-back (Busy Open) = refl
phase-back (Busy Copy) = refl
phase-back (Busy Seal) = refl
phase-back (Busy Drop) = refl
phase-back (Busy Append) = refl
phase-back (Busy Close) = refl

flag_back : (b : Bool) → flag_in (flag_byte b) ≡ b
flag_back true = refl
flag_back false = refl

pub array_back : (n : ℕ) (f t : List ℕ) → length f ≡ n → bytes_in n (f ++ t) ≡ f
array_back n f t e = let z : n - length f ≡ 0 = omega arith in rw (take_at f t n e, z, append-nil)

cursor-back : (c : Cursor) (t : List ℕ) → cursor_in (cursor_bytes c ++ t) ≡ c
cursor-back c t = rw (le16_u16 c.at, le16_u16 c.id, le16_u16 c.source)

plan-back : (j : Job) (x : List ℕ) → length j.since ≡ 4 → length j.close ≡ 4 → plan_in j.wipe (plan_bytes j ++ x) ≡ j
plan-back j x q p =
    let s = word_bytes j.since in
    let n : length s ≡ since_size = length_word_bytes j.since ∙ rw q in
    let w = word_bytes j.close in
    let after = j.size ∷ j.edition ∷ j.closes ∷ (w ++ x) in
    let at : (k : ℕ) → get_or (s ++ after) (since_size + k) 0 ≡ get_or after k 0 =
    λ k. ap (λ (i : ℕ). get_or (s ++ after) (i + k) 0) (sym n) ∙ get_or-append-add s after k 0 in
    let last : drop (since_size + 3) (s ++ after) ≡ w ++ x = sym (drop-drop 3 since_size (s ++ after)) ∙ ap (drop 3) (drop_at s after since_size n) in
    rw (
      append_assoc s (j.size ∷ j.edition ∷ j.closes ∷ w) x,
      words_back j.since after 4 q,
      at 0,
      at 1,
      at 2,
      last,
      words_back j.close x 4 p,
      flag_back j.moves,
      flag_back j.drops,
      le32_u32 j.time,
    )

job-back : (j : Job) (x : List ℕ) → length j.wipe ≡ max_blocks → length j.since ≡ 4 → length j.close ≡ 4
    → job_in (j.wipe ++ (plan_bytes j ++ x)) ≡ j
job-back j x p q k =
    let rest = plan_bytes j ++ x in
    ap (λ (w : List ℕ). plan_in w (drop max_blocks (j.wipe ++ rest))) (array_back max_blocks j.wipe rest p)
    ∙ ap (plan_in j.wipe) (drop_at j.wipe rest max_blocks p)
    ∙ plan-back j x q k

parts-back : (l : List ℕ) (r : Record) → phase_in (get_or l 0 0) ≡ r.phase → rest_in l ≡ r.rest
    → words_in 256 (drop places_at l) ≡ r.places → job_in (drop job_at l) ≡ r.job
    → cursor_in (drop cursor_at l) ≡ r.cursor → bytes_in buffer_len (drop unit_at l) ≡ r.unit → bytes_in buffer_len (drop frame_at l) ≡ r.frame → record_in l ≡ r
unfolding record_in
parts-back l r p z w j c u f =
    λ i. record { phase = p i; rest = z i; places = w i; job = j i; cursor = c i; unit = u i; frame = f i }

-- ---- the parts are bytes

phase-byte : (p : Phase) → phase_byte p < 256
phase-byte Unmounted = omega arith
phase-byte Idle = omega arith
phase-byte (Busy Wipe) = omega arith
phase-byte (Busy Open) = omega arith
phase-byte (Busy Copy) = omega arith
phase-byte (Busy Seal) = omega arith
phase-byte (Busy Drop) = omega arith
phase-byte (Busy Append) = omega arith
phase-byte (Busy Close) = omega arith

flag_byte_lem : (b : Bool) → flag_byte b < 256
flag_byte_lem true = omega arith
flag_byte_lem false = omega arith

head_bytes : (r : Record) → RecordFits r → Bytes (head_bytes_of r)
head_bytes r h = (phase-byte r.phase, rest-bytes r.rest h.rest)

cursor-bytes : (c : Cursor) → CursorFits c → Bytes (cursor_bytes c)
cursor-bytes c h = (h.index, (omega arith, (omega arith, (omega arith, (omega arith, (omega arith, (omega arith, (h.size, (h.off, tt)))))))))

plan-bytes : (j : Job) → JobFits j → Bytes (plan_bytes j)
plan-bytes j h =
    let since = bytes-append (word_bytes j.since) (j.size ∷ j.edition ∷ j.closes ∷ word_bytes j.close) (word_bytes_lem j.since h.since.1)
    (h.size, (h.edition, (h.closes, word_bytes_lem j.close h.close.1))) in
    let t = h.time in
    let time : Bytes (u32le j.time ++ (word_bytes j.since ++ (j.size ∷ j.edition ∷ j.closes ∷ word_bytes j.close))) =
    (omega (arith, t), (omega (arith, t), (omega (arith, t), (omega (arith, t), since)))) in
    (h.wipes, (flag_byte_lem j.moves, (flag_byte_lem j.drops, (h.target, time))))

-- ---- the whole

-- past a part
past : (at n : ℕ) (l p q : List ℕ) → drop at l ≡ p ++ q → length p ≡ n → drop (at + n) l ≡ q
past at n l p q e h = sym (drop-drop n at l) ∙ ap (drop n) e ∙ drop_at p q n h

pub length-head : (r : Record) → length r.rest.pending ≡ 4 → length (head_bytes_of r) ≡ places_at
length-head r q = simp length-append (omega (arith, length_word_bytes r.rest.pending, q))

-- each array has its length
pub record Sized (r : Record) : Type 0 where
  pub pending : length r.rest.pending ≡ 4
  pub places : length r.places ≡ 256
  pub wipe : length r.job.wipe ≡ max_blocks
  pub since : length r.job.since ≡ 4
  pub close : length r.job.close ≡ 4
  pub unit : length r.unit ≡ buffer_len
  pub frame : length r.frame ≡ buffer_len

module _ (r : Record) where
  abbrev W : List ℕ
  W = word_bytes r.places

  abbrev E : List ℕ
  E = r.job.wipe

  abbrev P : List ℕ
  P = plan_bytes r.job

  abbrev C : List ℕ
  C = cursor_bytes r.cursor

  -- what stands from each part on
  abbrev UF : List ℕ
  UF = r.unit ++ r.frame

  abbrev CUF : List ℕ
  CUF = C ++ UF

  abbrev PCUF : List ℕ
  PCUF = P ++ CUF

  abbrev EPCUF : List ℕ
  EPCUF = E ++ PCUF

module _ (r : Record) (h : Sized r) where
  length_W : length (W r) ≡ places_size
  length_W = length_word_bytes r.places ∙ rw h.places

  length_P : length (P r) ≡ plan_size
  length_P = length-plan r.job h.since h.close

  from_places : drop places_at (record_bytes r) ≡ W r ++ EPCUF r
  unfolding record_bytes
  from_places = past 0 places_at (record_bytes r) (head_bytes_of r) (W r ++ EPCUF r) refl (length-head r h.pending)

  from_job : drop job_at (record_bytes r) ≡ EPCUF r
  from_job = past places_at places_size (record_bytes r) (W r) (EPCUF r) from_places length_W

  from_plan : drop plan_at (record_bytes r) ≡ PCUF r
  from_plan = past job_at max_blocks (record_bytes r) (E r) (PCUF r) from_job h.wipe

  from_cursor : drop cursor_at (record_bytes r) ≡ CUF r
  from_cursor = past plan_at plan_size (record_bytes r) (P r) (CUF r) from_plan length_P

  from_unit : drop unit_at (record_bytes r) ≡ UF r
  from_unit = past cursor_at cursor_size (record_bytes r) (C r) (UF r) from_cursor refl

  from_frame : drop frame_at (record_bytes r) ≡ r.frame ++ []
  from_frame = past unit_at buffer_len (record_bytes r) r.unit r.frame from_unit h.unit ∙ sym (append-nil r.frame)

  pub record_back : record_in (record_bytes r) ≡ r
  unfolding record_bytes
  record_back =
      parts-back (record_bytes r) r (phase-back r.phase)
      (rest_back (phase_byte r.phase) r.rest (W r ++ EPCUF r) h.pending)
      (ap (words_in 256) from_places ∙ words_back r.places (EPCUF r) 256 h.places)
      (ap job_in from_job ∙ job-back r.job (CUF r) h.wipe h.since h.close)
      (ap cursor_in from_cursor ∙ cursor-back r.cursor (UF r))
      (ap (bytes_in buffer_len) from_unit ∙ array_back buffer_len r.unit r.frame h.unit)
      (ap (bytes_in buffer_len) from_frame ∙ array_back buffer_len r.frame [] h.frame)

  pub length_bytes_of : length (record_bytes r) ≡ record_size
  unfolding record_bytes
  length_bytes_of =
      simp length-append (omega (
        arith,
        length_W,
        length_word_bytes r.rest.pending,
        h.pending,
        length_word_bytes r.job.since,
        length_word_bytes r.job.close,
        h.wipe,
        h.since,
        h.close,
        h.unit,
        h.frame,
      ))

pub sized : (r : Record) → RecordFits r → Sized r
sized r h =
    record {
      pending = h.rest.pending.0;
      places = h.places.0;
      wipe = h.job.wipe.0;
      since = h.job.since.0;
      close = h.job.close.0;
      unit = h.unit.0;
      frame = h.frame.0;
    }

pub bytes_back : BytesBack
unfolding BytesBack
bytes_back r h = record_back r (sized r h)
