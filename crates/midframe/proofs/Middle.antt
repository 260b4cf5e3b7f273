-- The middle of a frame: what the bytes that the code reads and writes are.
use mathlib.Core.Path.{◌≡◌, refl, sym, ap, subst, ◌∙◌}
use mathlib.Core.List.{List, [], ◌∷◌}
use mathlib.Core.Bool.{Bool, true, false, false≢true, ◌&&◌, cond}
use Prim.Native.Nat.{ℕ, zero, suc, ◌+◌, ◌/◌, ◌%◌, ◌<◌}
use native.Mathlib.Omega.{arith}
use lib.ListN.{length, length-set, get_or, set, drop}
use lib.Seq.{drop-drop, get_or-drop}
use borrow.Author.Tests.{eq-eqb, lt-ltb}
use borrow.Rule.Slice.PartMut.{put_mid}
use Rattle.std.specs.Prelude.{Option, Some, None, IfSome}
use Rattle.flash.specs.Flash.{max_blocks, Step, program, program_at, size_in, within}
use Rattle.flash.proofs.Cases.{on_test, and_both}
use Rattle.flash.specs.Bytes.{le16}
use Rattle.wire.specs.Message.{word_at}
use Rattle.wire.specs.declared.Refusal.TheVariants as refusal
use Rattle.board.specs.declared.Stage.{Stage}
use Rattle.board.specs.declared.Stage.TheVariants.{Copy, Append}
use Rattle.board.specs.declared.Phase.{Phase}
use Rattle.board.specs.declared.Phase.TheVariants.{Busy}
use Rattle.board.specs.declared.Next.{Next}
use Rattle.board.specs.declared.Next.TheVariants as next
use Rattle.board.specs.declared.Cursor.{Cursor}
use Rattle.board.specs.declared.Record.{Record}
use Rattle.board.specs.Record.{Out, in_stage, refuse}
use Rattle.board.specs.Step.{action, next_index, next_byte, advance, stepped, same_shape, step_on}
use Rattle.board.specs.Drive.{placed, next_in, next_on, flashed, made_in_of, made_on, NextThenMade}
use Rattle.board.proofs.Driving.{next-then-made}
use Rattle.job.proofs.Acting.{in_parts, size_low}
use Rattle.lent.specs.Layout.{made_at, copy_at, off_at, target_at, append_at_of, last_at, block_at, end_at, blocks_at, job_at, plan_at, cursor_at, record_size}
use Rattle.lent.specs.Layout.{phase_in, record_in, record_bytes}
use Rattle.lent.proofs.Inverse.{Sized, record_back}
use Rattle.lent.proofs.Own.{own-sized}
use Rattle.lent.proofs.Canonical.{Canonical, at_cursor, byte_copied, byte_appended}
use Rattle.midframe.specs.declared.Aim.{Aim}
use Rattle.midframe.specs.declared.Found.{Found}
use Rattle.midframe.specs.Code.{Stands, Aims, Lies, Ready, Finds, Made, Tried}

pub nothing : (o : Out) (img b img' b' : List ℕ) → img' ≡ img → b' ≡ b → Tried o false img b img' b'
nothing o img b img' b' e f = record { made = λ t. absurd (false≢true t); left = λ _. (e, f) }

pub done : (o : Out) (img b img' b' : List ℕ) → Made o b img' b' → Tried o true img b img' b'
done o img b img' b' m = record { made = λ _. m; left = λ t. absurd (false≢true (sym t)) }

-- two bytes laid in the place of two
pub two_laid : (b : List ℕ) (at x y : ℕ) → suc at < length b → put_mid at 2 b (x ∷ (y ∷ [])) ≡ set (set b at x) (suc at) y
two_laid [] at x y h = absurd (omega arith)
two_laid (u ∷ []) zero x y h = absurd (omega arith)
two_laid (u ∷ (v ∷ t)) zero x y h = refl
two_laid (u ∷ t) (suc n) x y h = ap (λ (l : List ℕ). u ∷ l) (two_laid t n x y (omega arith))

-- a phase's number, where that is of a stage
busy_low : (n : ℕ) (s : Stage) → phase_in n ≡ Busy s → n < 9
busy_low zero s e = omega arith
busy_low (suc zero) s e = omega arith
busy_low (suc (suc zero)) s e = omega arith
busy_low (suc (suc (suc zero))) s e = omega arith
busy_low (suc (suc (suc (suc zero)))) s e = omega arith
busy_low (suc (suc (suc (suc (suc zero))))) s e = omega arith
busy_low (suc (suc (suc (suc (suc (suc zero)))))) s e = omega arith
busy_low (suc (suc (suc (suc (suc (suc (suc zero))))))) s e = omega arith
busy_low (suc (suc (suc (suc (suc (suc (suc (suc zero)))))))) s e = omega arith
busy_low (suc (suc (suc (suc (suc (suc (suc (suc (suc n))))))))) s e = let o : ◌≡◌ {A = ℕ} 0 1 = cc in absurd (omega arith)

-- a frame that has a byte more
copy-on : (N : ℕ) (r : Record) (after : List ℕ) → suc r.cursor.off < r.cursor.size
    → advance N Copy after r ≡ in_stage Copy (next_byte r.cursor) r
unfolding advance
copy-on N r after h = rw (lt-ltb (suc r.cursor.off) r.cursor.size h)

append-on : (N : ℕ) (r : Record) (after : List ℕ) → suc r.cursor.index < r.job.size
    → advance N Append after r ≡ in_stage Append (next_index r.cursor) r
unfolding advance
append-on N r after h = rw (lt-ltb (suc r.cursor.index) r.job.size h)

-- the numbers of a record by its bytes
module _ (b : List ℕ) where
  off_is : (record_in b).cursor.off ≡ get_or b (cursor_at + off_at) 0
  unfolding record_in
  off_is = get_or-drop cursor_at b off_at 0

  size_is : (record_in b).cursor.size ≡ get_or b (cursor_at + copy_at) 0
  unfolding record_in
  size_is = get_or-drop cursor_at b copy_at 0

  index_is : (record_in b).cursor.index ≡ get_or b cursor_at 0
  unfolding record_in
  index_is = get_or-drop cursor_at b 0 0

  at_is : (record_in b).cursor.at ≡ word_at b (cursor_at + made_at)
  unfolding record_in
  at_is = λ i. le16 (get_or-drop cursor_at b made_at 0 i) (get_or-drop cursor_at b (made_at + 1) 0 i)

  in_plan : (i : ℕ) → get_or (drop max_blocks (drop job_at b)) i 0 ≡ get_or b (plan_at + i) 0
  in_plan i = ap (λ (l : List ℕ). get_or l i 0) (drop-drop max_blocks job_at b) ∙ get_or-drop plan_at b i 0

  target_is : (record_in b).job.target ≡ get_or b (plan_at + target_at) 0
  unfolding record_in
  target_is = in_plan target_at

  append_is : (record_in b).job.size ≡ get_or b (plan_at + append_at_of) 0
  unfolding record_in
  append_is = in_plan append_at_of

  phase_low : (s : Stage) → (record_in b).phase ≡ Busy s → get_or b 0 0 < 9
  unfolding record_in
  phase_low s e = busy_low (get_or b 0 0) s e

  last_is : (n : ℕ) → n ≡ suc (word_at b last_at) → n ≡ suc (record_in b).rest.last
  unfolding record_in
  last_is n e = e

  count_is : (N : ℕ) → N ≡ get_or b blocks_at 0 → N ≡ (record_in b).rest.blocks
  unfolding record_in
  count_is N e = e

  block_is : (record_in b).rest.block ≡ get_or b block_at 0
  unfolding record_in
  block_is = refl

  end_is : (record_in b).rest.end ≡ word_at b end_at
  unfolding record_in
  end_is = refl

  -- the byte of either frame
  pub copy_is : (off at block v : ℕ) → (record_in b).phase ≡ Busy Copy → off ≡ get_or b (cursor_at + off_at) 0 → at ≡ word_at b (cursor_at + made_at)
      → block ≡ get_or b (plan_at + target_at) 0 → v ≡ get_or (record_in b).unit off 0 → Aims b (record { stage = Copy; block = block; at = at; byte = v })
  copy_is off at block v p eo ea ek ev =
      let fo : off ≡ (record_in b).cursor.off = eo ∙ sym off_is in
      record {
        phase = phase_low Copy p;
        busy = p;
        acts = ap (program block at) ev ∙ (λ j. program ((ek ∙ sym target_is) j) ((ea ∙ sym at_is) j) (get_or (record_in b).unit (fo j) 0));
      }

  pub append_at : (index at block v : ℕ) → (record_in b).phase ≡ Busy Append → index ≡ get_or b cursor_at 0 → at ≡ word_at b end_at + index → block ≡ get_or b block_at 0
      → v ≡ get_or (record_in b).frame index 0 → Aims b (record { stage = Append; block = block; at = at; byte = v })
  append_at index at block v p ei ea ek ev =
      let fi : index ≡ (record_in b).cursor.index = ei ∙ sym index_is in
      record {
        phase = phase_low Append p;
        busy = p;
        acts = ap (program block at) ev
            ∙ (λ j. program ((ek ∙ sym block_is) j) ((ea ∙ (λ k. sym end_is k + fi k)) j) (get_or (record_in b).frame (fi j) 0));
      }

-- ---- what is next

-- what is found at a place in the image is next
finds : (N n : ℕ) (b : List ℕ) (a : Aim) (f : Found) → ((i : ℕ) → get_or b i 0 < 256) → length b ≡ record_size → Stands N b n
    → Aims b a → Lies N n a f → Finds N n b f
unfolding next_on
finds N n b a f ok size t aims l =
    let r = record_in b in
    let s = a.stage in
    let in' : within N (size_in N n) (action s r) ≡ true = subst (λ (y : Step). within N (size_in N n) y ≡ true) aims.acts l.inside in
    let h = in_parts N (size_in N n) (action s r) in' in
    let shape : same_shape N n r ≡ true = and_both _ _ (eq-eqb _ _ (last_is b n t.fits)) (eq-eqb _ _ (count_is b N t.count)) in
    let low : Ready b s = record {
      size = size;
      busy = aims.busy;
      phase = aims.phase;
      moves = t.moves;
      drops = t.drops;
      low = omega (arith, t.fits, ok last_at, ok (last_at + 1), h.2, size_low N n h.0);
    } in
    record {
      ready = subst (Ready b) (sym l.stage) low;
      next = ap (λ (p : Phase). next_in N p n r) aims.busy
          ∙ ap (λ (k : Bool). cond k (placed (size_in N n) (action s r)) (next.Refused refusal.Stale)) (and_both _ _ shape in')
          ∙ ap (placed (size_in N n)) (sym aims.acts)
          ∙ l.place;
    }

pub finds_if : (N n : ℕ) (b : List ℕ) (a : Aim) (o : Option Found) → ((i : ℕ) → get_or b i 0 < 256) → length b ≡ record_size → Stands N b n
    → Aims b a → IfSome o (Lies N n a) → IfSome o (Finds N n b)
finds_if N n b a None ok size t aims l = tt
finds_if N n b a (Some f) ok size t aims l = finds N n b a f ok size t aims l

-- ---- it is made

module _ (N : ℕ) (b b' : List ℕ) (s : Stage) (at v : ℕ) (t : Bool) (y : Ready b s)
    (on : (img : List ℕ) → Tried (stepped img (advance N s img (record_in b))) t img b img b') where
  -- where a byte is next, the place lies in the image
  made_goes : (img : List ℕ) → next_on N (length img) (record_in b) ≡ next.Program at v
      → made_on N img (record_in b) ≡ stepped img (advance N s img (record_in b))
  unfolding next_on made_on
  made_goes img e =
      let r = record_in b in
      let n = length img in
      let p = y.busy in
      let taken = same_shape N n r && within N (size_in N n) (action s r) in
      let e' : next_in N (Busy s) n r ≡ next.Program at v = sym (ap (λ (q : Phase). next_in N q n r) p) ∙ e in
      ap (λ (q : Phase). made_in_of N q img r) p
      ∙ on_test taken
      (λ k. ap (λ (q : Bool). cond q (stepped img (advance N s img r)) (refuse refusal.Stale img r [])) k)
      (λ k.
      let z : next.Refused refusal.Stale ≡ next.Program at v =
      sym (ap (λ (q : Bool). cond q (placed (size_in N n) (action s r)) (next.Refused refusal.Stale)) k) ∙ e' in
      let o : ◌≡◌ {A = ℕ} 0 1 = cc in absurd (omega arith))

  -- a step that the caller made
  pub made-on : (img : List ℕ) → next_on N (length img) (record_in b) ≡ next.Program at v → Tried (made_on N img (record_in b)) t img b img b'
  made-on img e = subst (λ (o : Out). Tried o t img b img b') (sym (made_goes img e)) (on img)

  -- a step
  pub step-on : (img : List ℕ) → next_on N (length img) (record_in b) ≡ next.Program at v → t ≡ true
      → Made (step_on N img (record_in b)) b (program_at img at v) b'
  unfolding NextThenMade
  step-on img e d =
      let img' = program_at img at v in
      let same : length img' ≡ length img = simp length-set in
      let m = (made-on img' (ap (λ (n : ℕ). next_on N n (record_in b)) same ∙ e)).made d in
      let q : made_on N img' (record_in b) ≡ step_on N img (record_in b) =
      ap (λ (x : Next). made_on N (flashed x img) (record_in b)) (sym e) ∙ next-then-made N img (record_in b) in
      subst (λ (o : Out). Made o b img' b') q m

-- ---- the cursor counts it

module _ (b b' : List ℕ) (ok : (i : ℕ) → get_or b i 0 < 256) where
  -- the job goes on in its stage
  goes_on : (N : ℕ) (img : List ℕ) (s : Stage) (c : Cursor) → Ready b s → advance N s img (record_in b) ≡ in_stage s c (record_in b)
      → b' ≡ record_bytes (in_stage s c (record_in b)) → Made (stepped img (advance N s img (record_in b))) b img b'
  goes_on N img s c y v e =
      let r = record_in b in
      let z = own-sized b in
      let sz : Sized (in_stage s c r) = record {
        pending = z.pending;
        places = z.places;
        wipe = z.wipe;
        since = z.since;
        close = z.close;
        unit = z.unit;
        frame = z.frame;
      } in
      subst (λ (q : Record). Made (stepped img q) b img b') (sym v)
      (record { size = y.size; answers = refl; image = refl; bytes = e; back = ap record_in e ∙ record_back (in_stage s c r) sz })

  canonical : (s : Stage) → Ready b s → Canonical b
  canonical s y = record { phase = y.phase; moves = y.moves; drops = y.drops }

  -- an offset that can be counted on
  pub counts_on : (at : ℕ) → Ready b Copy → at ≡ word_at b (cursor_at + made_at) → at < 32768
  counts_on at y e = rw (e, ← at_is b) y.low

  -- of the frame that is copied
  pub copied : (off n at low high : ℕ) → Ready b Copy → off ≡ get_or b (cursor_at + off_at) 0 → n ≡ get_or b (cursor_at + copy_at) 0 → off + 1 < n
      → at ≡ word_at b (cursor_at + made_at) → low ≡ (at + 1) % 256 → high ≡ (at + 1) / 256 % 256
      → b' ≡ set (set (set b (cursor_at + made_at) low) (cursor_at + (made_at + 1)) high) (cursor_at + off_at) (off + 1)
      → (N : ℕ) (img : List ℕ) → Tried (stepped img (advance N Copy img (record_in b))) true img b img b'
  copied off n at low high y eo en h ea el eh e N img =
      let r = record_in b in
      let c = r.cursor in
      let k = canonical Copy y in
      let fo : c.off ≡ off = off_is b ∙ sym eo in
      let fn : c.size ≡ n = size_is b ∙ sym en in
      let fa : c.at ≡ at = at_is b ∙ sym ea in
      let q : at + 1 ≡ suc c.at = omega (arith, fa) in
      let el' = el ∙ ap (λ (k : ℕ). k % 256) q in
      let eh' : high ≡ suc c.at / 256 = omega (arith, eh, q, counts_on at y ea) in
      let eo' : off + 1 ≡ suc c.off = omega (arith, fo) in
      done _ _ _ _ _ (goes_on N img Copy (next_byte c) y (copy-on N r img (omega (arith, fo, fn)))
      (e ∙ (λ j. set (set (set b (cursor_at + made_at) (el' j)) (cursor_at + (made_at + 1)) (eh' j)) (cursor_at + off_at) (eo' j))
      ∙ byte_copied b y.size ok k (suc c.at) c refl refl ∙ sym (at_cursor b y.size ok k Copy (next_byte c) y.busy)))

  -- of the frame to append
  pub appended : (index n : ℕ) → Ready b Append → index ≡ get_or b cursor_at 0 → n ≡ get_or b (plan_at + append_at_of) 0 → index + 1 < n
      → b' ≡ set b cursor_at (index + 1) → (N : ℕ) (img : List ℕ) → Tried (stepped img (advance N Append img (record_in b))) true img b img b'
  appended index n y ei en h e N img =
      let r = record_in b in
      let c = r.cursor in
      let k = canonical Append y in
      let fi : c.index ≡ index = index_is b ∙ sym ei in
      let fn : r.job.size ≡ n = append_is b ∙ sym en in
      let ei' : index + 1 ≡ suc c.index = omega (arith, fi) in
      done _ _ _ _ _ (goes_on N img Append (next_index c) y (append-on N r img (omega (arith, fi, fn)))
      (e ∙ ap (set b cursor_at) ei' ∙ byte_appended b y.size ok k c refl
      ∙ sym (at_cursor b y.size ok k Append (next_index c) y.busy)))
