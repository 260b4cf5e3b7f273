-- The first stages of a transfer: the new block opened and the frames copied.
use mathlib.Core.Path.{◌≡◌, refl, sym, ap, subst, ◌∙◌}
use mathlib.Core.List.{List, [], ◌∷◌, ◌++◌, append_assoc, map}
use mathlib.Core.Option.{Option, none, some}
use mathlib.Core.Bool.{Bool, true, cond}
use Prim.Native.Nat.{ℕ, zero, suc, ◌+◌, ◌-◌, ◌≤◌, ◌<◌}
use native.Mathlib.Omega.{arith}
use lib.ListN.{length, get_or, length-map, get_or-map}
use borrow.Author.Tests.{lt-ltb, le-ltb}
use Rattle.flash.specs.Flash.{size_in, Step, program, block, within, apply_all, Write, write, write_step, writes}
use Rattle.flash.proofs.Programming.{writes-append}
use Rattle.frame.specs.declared.Edition.{Edition}
use Rattle.frame.specs.declared.Host.{Host}
use Rattle.frame.specs.Frame.{edition_by, Frame, encode, encode_all, frame_len, total}
use Rattle.frame.proofs.Encode.{length-encode}
use Rattle.journal.specs.Block.{open_writes, open_write, mark_writes, state_at, in_transfer, header_len}
use Rattle.journal.specs.Index.{Load, load, next_load_of, place_copied, place_all}
use Rattle.journal.proofs.Loading.{Yields, SameFrom, load_same, load_past}
use Rattle.board.specs.declared.Stage.{Stage}
use Rattle.board.specs.declared.Stage.TheVariants.{Open, Copy}
use Rattle.board.specs.declared.Job.{Job}
use Rattle.board.specs.declared.Rest.{Rest}
use Rattle.board.specs.declared.Record.{Record}
use Rattle.board.specs.Record.{buffer, cursor, landing, idle}
use Rattle.board.specs.Step.{enter, ends_with, load_or, enter_copy, advance}
use Rattle.board.specs.Exec.{exec}
use Rattle.board.specs.Plan.{Follows, on_block}
use Rattle.board.proofs.Images.{length-all-steps}
use Rattle.board.proofs.Pipeline.{Shape, Runs, follows_stage, kept_stage}
use Rattle.board.proofs.PipelineEnd.{job_at, onward-on, onward-off, length-steps, step-inside, buffered, on-block, marks_inside, sealing, follows_seal}

pub map-append : {A B : Type 0} (f : A → B) (xs ys : List A) → map f (xs ++ ys) ≡ map f xs ++ map f ys
map-append f [] ys = refl
map-append f (x ∷ xs) ys = ap (λ (zs : List _). f x ∷ zs) (map-append f xs ys)

open_at : (ed : Edition) (i : ℕ) → i < mark_writes → (open_write ed i).at < header_len
unfolding writes
open_at ed zero h = omega arith
open_at ed (suc zero) h = omega arith
open_at ed (suc (suc zero)) h = omega arith
open_at ed (suc (suc (suc zero))) h = omega arith
open_at ed (suc (suc (suc (suc zero)))) h = omega arith
open_at ed (suc (suc (suc (suc (suc i))))) h = absurd (omega arith)

length_open : (ed : Edition) (k : ℕ) → length (on_block k (open_writes ed)) ≡ mark_writes
unfolding writes
length_open ed k = refl

-- the steps that copy frames, with others behind them
copy-append : (k a n : ℕ) (bs cs : List ℕ) (xs : List Step) → length bs ≡ n
    → on_block k (writes a (bs ++ cs)) ++ xs ≡ on_block k (writes a bs) ++ (on_block k (writes (a + n) cs) ++ xs)
copy-append k a n bs cs xs q =
    ap (λ (ws : List Write). on_block k ws ++ xs) (writes-append a bs cs ∙ ap (λ (m : ℕ). writes a bs ++ writes (a + m) cs) q)
    ∙ ap (λ (ys : List Step). ys ++ xs) (map-append (write_step k) (writes a bs) (writes (a + n) cs))
    ∙ append_assoc (on_block k (writes a bs)) (on_block k (writes (a + n) cs)) xs

copy-cons : (ed : Edition) (k a : ℕ) (f : Frame) (fs : List Frame) (xs : List Step)
    → on_block k (writes a (encode_all ed (f ∷ fs))) ++ xs
    ≡ on_block k (writes a (encode ed f)) ++ (on_block k (writes (a + frame_len ed f) (encode_all ed fs)) ++ xs)
unfolding encode_all
copy-cons ed k a f fs xs = copy-append k a (frame_len ed f) (encode ed f) (encode_all ed fs) xs (length-encode ed f)

copy_nil : (ed : Edition) (k a : ℕ) (xs : List Step) → on_block k (writes a (encode_all ed [])) ++ xs ≡ xs
unfolding encode_all writes
copy_nil ed k a xs = refl

total_nil : (ed : Edition) → total ed [] ≡ 0
unfolding total
total_nil ed = refl

total-cons : (ed : Edition) (f : Frame) (fs : List Frame) → total ed (f ∷ fs) ≡ frame_len ed f + total ed fs
unfolding total
total-cons ed f fs = refl

module _ {N : ℕ} (s : ℕ) (home : Rest) (shape : Shape N home s) (places : List ℕ) (j : Job) (bytes : List ℕ) (size : j.size ≡ length bytes)
    (here : home.block < N) (there : j.target < N) (apart : j.target ≡ home.block → ⊥) (header : header_len ≤ s) where
  -- the edition that is made, and the one that is read
  abbrev ed : Edition
  ed = edition_by j.edition

  abbrev was : Edition
  was = edition_by home.edition

  -- whose commit the job ends with
  abbrev ends : Host → Bool
  ends = ends_with (buffer bytes)

  abbrev at : List ℕ → Stage → ℕ → ℕ → ℕ → ℕ → ℕ → ℕ → List ℕ → Record
  at ps st i a d so z o u = job_at home ps j (buffer bytes) st (cursor i a d so z o) u

  -- the next frame to copy, as the record finds it: by its places from the next id on, which are those at the job's start
  next_frame : (b img ps : List ℕ) (st : Stage) (i a d so z o : ℕ) (u : List ℕ) (x : Option Load) → length img ≡ suc home.last
      → block s home.block img ≡ b → SameFrom d ps places → next_load_of was b home.end places j.since d so ≡ x
      → enter_copy N img (at ps st i a d so z o u) ≡ load_or (at ps st i a d so z o u) x
  unfolding enter_copy
  next_frame b img ps st i a d so z o u x q h e n =
      let r : Record = at ps st i a d so z o u in
      ap (λ (m : ℕ). load_or r (next_load_of was (block (size_in N m) home.block img) home.end ps j.since d so)) q
      ∙ ap (λ (m : ℕ). load_or r (next_load_of was (block m home.block img) home.end ps j.since d so)) shape.size
      ∙ ap (λ (y : List ℕ). load_or r (next_load_of was y home.end ps j.since d so)) h
      ∙ ap (load_or r) (load_same was b home.end ps places j.since d so e ∙ n)

  copies : (ps bs : List ℕ) (a d so n : ℕ) → length bs ≡ n → a + n ≤ s
      → Runs N home s Copy (λ o. at ps Copy 0 (a + o) d so n o (buffer bs)) (λ img. enter_copy N img (at ps Copy 0 (a + n) d so n 0 (buffer bs)))
      (on_block j.target (writes a bs)) (program j.target 0 0)
  unfolding advance
  copies ps bs a d so n q room =
      record {
        phase = λ i. refl;
        stands = λ i. refl;
        acts = λ i h. buffered j.target a bs i h;
        inside = step-inside s j.target a bs shape.count there (omega arith);
        goes = λ i img h.
            let c : Record = at ps Copy 0 (suc (a + i)) d so n (suc i) (buffer bs) in
            let p : Record = at ps Copy 0 (suc (a + i)) d so n 0 (buffer bs) in
            let e' : suc (a + i) ≡ a + suc i = omega arith in
            ap (λ (b : Bool). cond b c (enter_copy N img p)) (lt-ltb (suc i) n (omega (arith, length-steps j.target a bs)))
            ∙ ap (λ (m : ℕ). at ps Copy 0 m d so n (suc i) (buffer bs)) e';
        ends = λ i img h.
            let c : Record = at ps Copy 0 (suc (a + i)) d so n (suc i) (buffer bs) in
            let p : Record = at ps Copy 0 (suc (a + i)) d so n 0 (buffer bs) in
            let e' : suc (a + i) ≡ a + n = omega (arith, length-steps j.target a bs) in
            ap (λ (b : Bool). cond b c (enter_copy N img p)) (le-ltb (suc i) n (omega (arith, length-steps j.target a bs)))
            ∙ ap (λ (m : ℕ). enter_copy N img (at ps Copy 0 m d so n 0 (buffer bs))) e';
      }

  -- the copying leaves the block that is copied
  source_kept : (ws : List Write) (w : Write) (img : List ℕ) → ((i : ℕ) → i < length (on_block j.target ws)
      → within N s (get_or (on_block j.target ws) i (write_step j.target w)) ≡ true)
      → block s home.block (apply_all s (on_block j.target ws) img) ≡ block s home.block img
  source_kept ws w img h =
      kept_stage N s (on_block j.target ws) (write_step j.target w) h home.block (λ i q. apart (sym (q ∙ on-block j.target ws i w))) img

  copy_one : (b ps bs : List ℕ) (a d so n : ℕ) (img : List ℕ) (tail : List Step) (z : Record) → length img ≡ suc home.last
      → block s home.block img ≡ b → length bs ≡ n → 0 < n
      → a + n ≤ s
      → ((img' : List ℕ) → length img' ≡ suc home.last → block s home.block img' ≡ b → Follows N (exec N) img'
      (enter_copy N img' (at ps Copy 0 (a + n) d so n 0 (buffer bs))) tail z)
      → Follows N (exec N) img (at ps Copy 0 a d so n 0 (buffer bs)) (on_block j.target (writes a bs) ++ tail) z
  copy_one b ps bs a d so n img tail z q h w p room f =
      let xs : List Step = on_block j.target (writes a bs) in
      let a' : a + 0 ≡ a = omega arith in
      subst (λ (m : ℕ). Follows N (exec N) img (at ps Copy 0 m d so n 0 (buffer bs)) (xs ++ tail) z) a'
      (follows_stage home s Copy (λ o. at ps Copy 0 (a + o) d so n o (buffer bs)) (λ img'. enter_copy N img' (at ps Copy 0 (a + n) d so n 0 (buffer bs))) xs
      (program j.target 0 0) shape (copies ps bs a d so n w room) tail z (n - 1) img (omega (arith, length-steps j.target a bs)) q
      (f (apply_all s xs img) (length-all-steps s xs img ∙ q)
      (source_kept (writes a bs) (write 0 0) img (copies ps bs a d so n w room).inside ∙ h)))

  follows_copy : (b ps : List ℕ) (fs : List Frame) (st : Stage) (i a d so z o : ℕ) (u img : List ℕ) → length img ≡ suc home.last
      → block s home.block img ≡ b → SameFrom d ps places
      → Yields was b home.end places j.since d so fs → a + total ed fs + length bytes ≤ s
      → Follows N (exec N) img (enter_copy N img (at ps st i a d so z o u))
      (on_block j.target (writes a (encode_all ed fs)) ++ sealing j home.block bytes (a + total ed fs))
      (idle (place_all ed ends a fs ps) (landing home j.edition j.target (a + total ed fs + length bytes)))
  unfolding place_all
  follows_copy b ps [] st i a d so z o u img q h e y room =
      let t : a ≡ a + total ed [] = omega (arith, total_nil ed) in
      let r : Record = at ps st i a d so z o u in
      subst (λ (xs : List Step). Follows N (exec N) img (enter_copy N img r) xs (idle ps (landing home j.edition j.target (a + total ed [] + length bytes))))
      (sym (copy_nil ed j.target a (sealing j home.block bytes (a + total ed []))))
      (subst (λ (n : ℕ). Follows N (exec N) img (enter_copy N img r) (sealing j home.block bytes n)
      (idle ps (landing home j.edition j.target (n + length bytes)))) t
      (subst (λ (x : Record). Follows N (exec N) img x (sealing j home.block bytes a) (idle ps (landing home j.edition j.target (a + length bytes))))
      (sym (next_frame b img ps st i a d so z o u none q h e y))
      (follows_seal s home shape ps j bytes size here there st i a d so z o u img q (header) (omega arith))))
  follows_copy b ps (f ∷ fs) st i a d so z o u img q h e (d', so', n, low, end, y) room =
      let m : ℕ = frame_len ed f in
      let t : a + m + total ed fs ≡ a + total ed (f ∷ fs) = omega (arith, total-cons ed f fs) in
      let r : Record = at ps st i a d so z o u in
      let ps' : List ℕ = place_copied ends a f ps in
      let all : List ℕ = place_all ed ends (a + m) fs ps' in
      let tail : List Step = on_block j.target (writes (a + m) (encode_all ed fs)) ++ sealing j home.block bytes (a + m + total ed fs) in
      let done : Record = idle all (landing home j.edition j.target (a + m + total ed fs + length bytes)) in
      subst
      (λ (x : ℕ).
      Follows N (exec N) img (enter_copy N img r) (on_block j.target (writes a (encode_all ed (f ∷ fs))) ++ sealing j home.block bytes x)
      (idle all (landing home j.edition j.target (x + length bytes)))) t
      (subst (λ (xs : List Step). Follows N (exec N) img (enter_copy N img r) xs done) (sym (copy-cons ed j.target a f fs
      (sealing j home.block bytes (a + m + total ed fs))))
      (subst (λ (x : Record). Follows N (exec N) img x (on_block j.target (writes a (encode ed f)) ++ tail) done)
      (sym (next_frame b img ps st i a d so z o u (some (load f d' so')) q h e n))
      (copy_one b ps' (encode ed f) a d' so' m img tail done q h (length-encode ed f) (omega arith) (omega arith)
      (λ img' q' h'. follows_copy b ps' fs Copy 0 (a + m) d' so' m 0 (buffer (encode ed f)) img' q' h'
      (load_past was b home.end places j.since d so (load f d' so') ends a ps n e) y (omega arith)))))

  -- ---- the block opened

  opens : (a d so z o : ℕ) (u : List ℕ)
      → Runs N home s Open (λ i. at places Open i a d so z o u) (λ img. enter_copy N img (at places Open 4 a d so z o u)) (on_block j.target (open_writes ed))
      (write_step j.target (write state_at in_transfer))
  unfolding advance
  opens a d so z o u =
      let r : ℕ → Record = λ i. at places Open i a d so z o u in
      record {
        phase = λ i. refl;
        stands = λ i. refl;
        acts = λ i h. sym (get_or-map (write_step j.target) (open_writes ed) i (write state_at in_transfer));
        inside = marks_inside s j.target (open_writes ed) (write state_at in_transfer) shape.count there
            (λ i h. omega (arith, open_at ed i (omega (arith, length-map (open_writes ed) (write_step j.target), length_open ed j.target))));
        goes = λ i img h. onward-on Open mark_writes (r i) (enter_copy N img (r i)) (omega (arith, length_open ed j.target));
        ends = λ i img h.
            let n : i ≡ 4 = omega (arith, length_open ed j.target) in
            onward-off Open mark_writes (r i) (enter_copy N img (r i)) (omega arith) ∙ ap (λ (m : ℕ). enter_copy N img (r m)) n;
      }

  pub follows_open : (b : List ℕ) (fs : List Frame) (st : Stage) (i a d so z o : ℕ) (u img : List ℕ) → length img ≡ suc home.last
      → block s home.block img ≡ b
      → Yields was b home.end places j.since d so fs → a + total ed fs + length bytes ≤ s
      → Follows N (exec N) img (enter Open (at places st i a d so z o u))
      (on_block j.target (open_writes ed) ++ (on_block j.target (writes a (encode_all ed fs)) ++ sealing j home.block bytes (a + total ed fs)))
      (idle (place_all ed ends a fs places) (landing home j.edition j.target (a + total ed fs + length bytes)))
  follows_open b fs st i a d so z o u img q h y room =
      let xs : List Step = on_block j.target (open_writes ed) in
      follows_stage home s Open (λ n. at places Open n a d so z o u) (λ img'. enter_copy N img' (at places Open 4 a d so z o u)) xs
      (write_step j.target (write state_at in_transfer)) shape (opens a d so z o u)
      (on_block j.target (writes a (encode_all ed fs)) ++ sealing j home.block bytes (a + total ed fs))
      (idle (place_all ed ends a fs places) (landing home j.edition j.target (a + total ed fs + length bytes))) 4 img
      (sym (length_open ed j.target)) q
      (follows_copy b places fs Open 4 a d so z o u (apply_all s xs img) (length-all-steps s xs img ∙ q)
      (source_kept (open_writes ed) (write state_at in_transfer) img (opens a d so z o u).inside ∙ h) (λ i k m. refl) y room)
