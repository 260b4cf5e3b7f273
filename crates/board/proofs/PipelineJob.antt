-- A whole job: its step calls do the wipes, the transfer or the closing if it makes one, and the frame that it appends.
use mathlib.Core.Path.{◌≡◌, refl, sym, ap, subst, ◌∙◌, subst₂}
use mathlib.Core.List.{List, [], ◌∷◌, ◌++◌, append_assoc, map}
use mathlib.Core.Bool.{Bool, true, false, cond}
use Prim.Native.Nat.{ℕ, suc, ◌+◌, ◌-◌, ◌≤◌, ◌<◌}
use native.Mathlib.Omega.{arith}
use lib.Dec.{ltb}
use lib.ListN.{length, get_or, length-map, get_or-map, get_or-append, replicate}
use borrow.Author.Tests.{ltb-true, ltb-false}
use Rattle.flash.specs.Flash.{max_blocks, size_in, is_count, Step, erase, block, size_of, within, apply_all, Write, write_step, writes}
use Rattle.flash.proofs.Cases.{on_test}
use Rattle.frame.specs.declared.Edition.{Edition}
use Rattle.frame.specs.Frame.{edition_by, Frame, encode_all, total}
use Rattle.journal.specs.Block.{open_writes, seal_writes, build, header_len}
use Rattle.journal.specs.Index.{place_all}
use Rattle.journal.proofs.Loading.{Yields}
use Rattle.board.specs.declared.Stage.TheVariants.{Wipe, Open}
use Rattle.board.specs.declared.Job.{Job}
use Rattle.board.specs.declared.Rest.{Rest}
use Rattle.board.specs.declared.Record.{Record}
use Rattle.board.specs.Record.{no_frame, buffer, cursor, landing, ending, starting, idle, busy}
use Rattle.board.specs.Step.{enter, ends_with, enter_close, enter_open, enter_wipe, advance}
use Rattle.board.specs.Mount.{wipe_array, close_array}
use Rattle.board.specs.Exec.{exec}
use Rattle.board.specs.Plan.{Follows, on_block}
use Rattle.board.proofs.Blocks.{Blocks, a_block}
use Rattle.board.proofs.Images.{length-all-steps}
use Rattle.board.proofs.Pipeline.{inside-yes, Shape, Runs, follows_stage}
use Rattle.board.proofs.PipelineEnd.{job_at, onward-on, onward-off, dropped, sealing}
use Rattle.board.proofs.PipelineClose.{Closing, follows_close}
use Rattle.board.proofs.PipelineCopy.{map-append, follows_open}

no-wipes : (ks : List ℕ) → length ks ≡ 0 → map erase ks ≡ []
no-wipes [] h = refl
no-wipes (k ∷ ks) h = absurd (omega arith)

-- ---- the wipes

module _ (N s : ℕ) (home : Rest) (shape : Shape N home s) (ks : List ℕ) (there : Blocks N ks) (some-room : 0 < s) (places : List ℕ) (j : Job) (frame : List ℕ)
    (array : j.wipe ≡ wipe_array ks) (count : j.wipes ≡ length ks) where
  abbrev wiping : ℕ → ℕ → ℕ → ℕ → ℕ → ℕ → List ℕ → Record
  wiping a d so z o i u = job_at home places j frame Wipe (cursor i a d so z o) u

  wipes : (a d so z o : ℕ) (u : List ℕ)
      → Runs N home s Wipe (λ i. wiping a d so z o i u) (λ img. enter_open (wiping a d so z o (length ks - 1) u)) (map erase ks) (erase 0)
  unfolding advance
  wipes a d so z o u =
      let r : ℕ → Record = λ i. wiping a d so z o i u in
      record {
        phase = λ i. refl;
        stands = λ i. refl;
        acts = λ i h.
            ap (λ (x : List ℕ). erase (get_or x i 0)) array
            ∙ ap erase (get_or-append ks (replicate (max_blocks - length ks) 0) 0 i (omega (arith, length-map ks erase))) ∙ sym (get_or-map erase ks i 0);
        inside = λ i h.
            ap (within N s) (get_or-map erase ks i 0)
            ∙ inside-yes s (erase (get_or ks i 0)) shape.count (a_block ks i there (omega (arith, length-map ks erase))) some-room;
        goes = λ i img h. onward-on Wipe j.wipes (r i) (enter_open (r i)) (omega (arith, length-map ks erase));
        ends = λ i img h.
            let n : i ≡ length ks - 1 = omega (arith, length-map ks erase) in
            onward-off Wipe j.wipes (r i) (enter_open (r i)) (omega (arith, length-map ks erase)) ∙ ap (λ (m : ℕ). enter_open (r m)) n;
      }

  pub follows_wipe : (a d so z o : ℕ) (u img : List ℕ) (tail : List Step) (done : Record) → length img ≡ suc home.last
      → ((n : ℕ) (img' : List ℕ) → length img' ≡ suc home.last → img' ≡ apply_all s (map erase ks) img → Follows N (exec N) img'
      (enter_open (wiping a d so z o n u)) tail done)
      → Follows N (exec N) img (enter_wipe (wiping a d so z o 0 u)) (map erase ks ++ tail) done
  unfolding enter_wipe apply_all
  follows_wipe a d so z o u img tail done q f =
      let r : Record = wiping a d so z o 0 u in
      let xs : List Step = map erase ks in
      on_test (ltb 0 j.wipes)
      (λ t.
      subst (λ (b : Bool). Follows N (exec N) img (cond b (enter Wipe r) (enter_open r)) (xs ++ tail) done) (sym t)
      (follows_stage home s Wipe (λ i. wiping a d so z o i u) (λ img. enter_open (wiping a d so z o (length ks - 1) u)) xs (erase 0) shape
      (wipes a d so z o u) tail done
      (length ks - 1) img (omega (arith, length-map ks erase, ltb-true 0 j.wipes t)) q
      (f (length ks - 1) (apply_all s xs img) (length-all-steps s xs img ∙ q) refl)))
      (λ t.
      let none : xs ≡ [] = no-wipes ks (omega (arith, ltb-false 0 j.wipes t)) in
      subst (λ (b : Bool). Follows N (exec N) img (cond b (enter Wipe r) (enter_open r)) (xs ++ tail) done) (sym t)
      (subst (λ (ys : List Step). Follows N (exec N) img (enter_open r) (ys ++ tail) done) (sym none)
      (f 0 img q (ap (λ (ys : List Step). apply_all s ys img) (sym none)))))

-- ---- the jobs

-- what a job with wipes, a torn frame to close and a frame to append has in its record
pub record Has (j : Job) (ks : List ℕ) (ws : List Write) (bytes : List ℕ) : Type 0 where
  pub wipe : j.wipe ≡ wipe_array ks
  pub wipes : j.wipes ≡ length ks
  pub closes : j.closes ≡ length ws
  pub close : j.close ≡ close_array ws
  pub size : j.size ≡ length bytes

-- the plan of a transfer and what follows it, as the stages do it
map-three : {A B : Type 0} (f : A → B) (ds bs cs : List A) (xs ys : List B)
    → (map f (ds ++ (bs ++ cs)) ++ xs) ++ ys ≡ map f ds ++ (map f bs ++ (map f cs ++ (xs ++ ys)))
map-three f ds bs cs xs ys = simp (map-append, append_assoc)

built : (ed : Edition) (k time : ℕ) (fs : List Frame) (xs ys : List Step)
    → (on_block k (build ed time fs) ++ xs) ++ ys ≡ on_block k (open_writes ed) ++
    (on_block k (writes header_len (encode_all ed fs)) ++ (on_block k (seal_writes time) ++ (xs ++ ys)))
built ed k time fs xs ys = map-three (write_step k) (open_writes ed) (writes header_len (encode_all ed fs)) (seal_writes time) xs ys

module _ {N : ℕ} (img : List ℕ) (home : Rest) (places : List ℕ) (j : Job) (id source : ℕ) (ws : List Write) (bytes ks : List ℕ)
    (long : length img ≡ suc home.last)
    (some_blocks : is_count N ≡ true) (blocks : home.blocks ≡ N) (there : Blocks N ks)
    (has : Has j ks ws bytes) (here : home.block < N) (header : header_len ≤ size_of N img) where
  shape : Shape N home (size_of N img)
  shape = record { count = some_blocks; blocks = blocks; size = ap (size_in N) (sym long) }

  -- the steps that close the torn frame, and those of the frame that is appended
  abbrev staying : List Step
  staying = on_block home.block ws ++ on_block home.block (writes home.end bytes)

  pub follows_staying : j.moves ≡ false → home.end + length bytes ≤ size_of N img → Closing (size_of N img) ws
      → Follows N (exec N) img (enter_wipe (busy home places j (starting id source) bytes)) (map erase ks ++ staying)
      (idle places (ending home (home.end + length bytes)))
  unfolding enter_open
  follows_staying t room fit =
      follows_wipe N (size_of N img) home shape ks there (omega arith) places j (buffer bytes) has.wipe has.wipes header_len id source 0 0 no_frame img
      staying (idle places (ending home (home.end + length bytes))) long
      (λ n img' q' p.
      let r : Record = job_at home places j (buffer bytes) Wipe (cursor n header_len id source 0 0) no_frame in
      subst (λ (b : Bool). Follows N (exec N) img' (cond b (enter Open r) (enter_close r)) staying (idle places (ending home (home.end + length bytes)))) (sym t)
      (follows_close (size_of N img) home shape places j ws bytes has.closes has.close has.size here room fit Wipe (cursor n header_len id source 0 0)
      no_frame img' q'))

  -- the edition that is made, and the one that is read
  abbrev ed : Edition
  ed = edition_by j.edition

  abbrev was : Edition
  was = edition_by home.edition

  -- a block is made, of edition d, from one of edition c
  abbrev Moving : Edition → Edition → Type 0
  Moving d c =
      (fs : List Frame) (after : List ℕ) → place_all d (ends_with (buffer bytes)) header_len fs places ≡ after → j.moves ≡ true → j.target < N → (j.target ≡ home.block → ⊥) → header_len + total d fs + length bytes ≤ size_of N img
      → Yields c (block (size_of N img) home.block (apply_all (size_of N img) (map erase ks) img)) home.end places j.since id source fs
      → Follows N (exec N) img (enter_wipe (busy home places j (starting id source) bytes))
      (map erase ks ++ ((on_block j.target (build d j.time fs) ++ dropped j home.block) ++ on_block j.target (writes (header_len + total d fs) bytes)))
      (idle after (landing home j.edition j.target (header_len + total d fs + length bytes)))

  moved : Moving ed was
  unfolding enter_open
  moved fs after placed t target apart room y =
      let s : ℕ = size_of N img in
      let tail : List Step =
      (on_block j.target (build ed j.time fs) ++ dropped j home.block) ++ on_block j.target (writes (header_len + total ed fs) bytes) in
      let done : Record = idle after (landing home j.edition j.target (header_len + total ed fs + length bytes)) in
      follows_wipe N s home shape ks there (omega arith) places j (buffer bytes) has.wipe has.wipes header_len id source 0 0 no_frame img tail done long
      (λ n img' q' p.
      let r : Record = job_at home places j (buffer bytes) Wipe (cursor n header_len id source 0 0) no_frame in
      subst (λ (b : Bool). Follows N (exec N) img' (cond b (enter Open r) (enter_close r)) tail done) (sym t)
      (subst (λ (xs : List Step). Follows N (exec N) img' (enter Open r) xs done)
      (sym (built ed j.target j.time fs (dropped j home.block) (on_block j.target (writes (header_len + total ed fs) bytes))))
      (subst (λ (ps : List ℕ). Follows N (exec N) img' (enter Open r) (on_block j.target (open_writes ed)
      ++ (on_block j.target (writes header_len (encode_all ed fs)) ++ sealing j home.block bytes (header_len + total ed fs)))
      (idle ps (landing home j.edition j.target (header_len + total ed fs + length bytes)))) placed
      (follows_open s home shape places j bytes has.size here target apart header
      (block s home.block (apply_all s (map erase ks) img)) fs Wipe n header_len id source 0 0 no_frame
      img' q' (ap (block s home.block) p) y room))))

  pub follows_moving : (d c : Edition) → ed ≡ d → was ≡ c → Moving d c
  follows_moving d c e w = subst₂ Moving e w moved
